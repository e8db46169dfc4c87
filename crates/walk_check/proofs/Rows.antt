-- Worked rows of the checker, by computation: `tx inc() { root.n = root.n + 1; }`, and one that
-- calls.
use Rattle.std.proofs.Common.{◌≡◌, ℕ, List, [], ◌∷◌, Some, None, true, false, refl, pos}
use Rattle.nvm_base.specs.declared.op.BinOp.TheVariants.{Add}
use Rattle.pool_map.specs.declared.shapes.Shapes.{Shapes}
use Rattle.ir.specs.declared.instruction.Target.TheVariants.{Root}
use Rattle.ir.specs.declared.instruction.Instruction.TheVariants.{Const, Bin, Load, Store, Return}
use Rattle.ir.specs.declared.function.Ir.{Ir}
use Rattle.walk_check.specs.declared.certificate.Class.TheVariants.{Root as OfRoot}
use Rattle.walk_check.specs.declared.certificate.Fact.{Fact}
use Rattle.walk_check.specs.declared.certificate.Fact.TheVariants.{Start, UnwrittenRoot, Read}
use Rattle.walk_check.specs.declared.certificate.Step.{Step}
use Rattle.walk_check.specs.declared.certificate.Piece.{Piece}
use Rattle.walk_check.specs.declared.certificate.Reason.TheVariants.{Always, Clobber}
use Rattle.walk_check.specs.declared.certificate.Certificate.{Certificate}
use Rattle.walk_check.specs.declared.checker.CheckFault.TheVariants.{BadPiece, BadReason}
use Rattle.walk_check.specs.Keeps.{certificate_fault}

shapes : Shapes
shapes = record { root = record { name = []; unsigned = false; length = None } ∷ []; structs = [] }

inc : Ir
inc = record {
  functions = record {
    name = [];
    parameters = 0;
    registers = 3;
    tx = true;
    code =
        Load 0 (Root 0 None) ∷ Const 1 (pos 1) ∷ Bin Add 2 0 1 ∷ Store (Root 0 None) 2 1
        ∷ Return 1 ∷ [];
  } ∷ [];
  shapes = shapes;
}

step : ℕ → Fact → Step
step p fact = record { place = p; fact = fact; through = None }

unwrites : ℕ → List Piece
unwrites end =
    record {
      function = 0;
      steps =
          step 0 Start ∷ step 0 (UnwrittenRoot 0) ∷ step 1 (UnwrittenRoot 0)
          ∷ step 2 (UnwrittenRoot 0)
          ∷ step end (UnwrittenRoot 0) ∷ [];
    } ∷ []

reads : List Piece
reads =
    record {
      function = 0;
      steps =
          step 0 Start ∷ step 0 (UnwrittenRoot 0) ∷ step 1 (Read (OfRoot 0))
          ∷ step 2 (Read (OfRoot 0))
          ∷ step 3 (Read (OfRoot 0)) ∷ [];
    } ∷ []

certificate : ℕ → Certificate
certificate end = record {
  passed = [];
  reasons = (
    record { function = 0; place = 3; fill = false },
    Clobber (record { pieces = unwrites end }) (record { pieces = reads }),
  ) ∷ [];
}

good : certificate_fault inc (certificate 3) ≡ None
unfolding certificate unwrites reads step inc shapes
good = refl

-- the store's place in the first walk, raised by 1
raised : certificate_fault inc (certificate 4) ≡ Some (BadReason 0)
unfolding certificate unwrites reads step inc shapes
raised = refl

-- there is no header at that place
no_header : certificate_fault inc (record {
  passed = [];
  reasons = (record { function = 0; place = 3; fill = false }, Always) ∷ [];
}) ≡ Some (BadReason 0)
unfolding inc shapes
no_header = refl

-- a piece without steps
empty : certificate_fault inc (record {
  passed = record { function = 0; steps = [] }
      ∷ [];
  reasons = [];
})
    ≡ Some (BadPiece 0)
unfolding inc shapes
empty = refl
