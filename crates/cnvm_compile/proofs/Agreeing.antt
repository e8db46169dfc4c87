-- A compiled program agrees with its source.
use Rattle.std.proofs.Common.{◌≡◌, ℕ, ◌≤◌, Bool, true, false, List, length, refl, sym, ap, ◌∙◌}
use Rattle.std.proofs.Common.{subst, arith}
use Rattle.std.specs.Prelude.{nat_lt, if◌then◌else◌}
use Rattle.std.proofs.lemmas.Bool.{ltb-true}
use Rattle.pool_map.specs.PoolFits.{words_of}
use Rattle.pool_map.specs.declared.limits.TheConstants.{ROOT_WORDS}
use Rattle.c_types.specs.Shapes.{shapes_of}
use Rattle.ir.specs.declared.function.Ir.{Ir}
use Rattle.ir.specs.WellFormed.{IsWellFormed}
use Rattle.lower.specs.Program.{lowered}
use Rattle.clobber_pass.specs.declared.marking.MarkTable.{MarkTable}
use Rattle.tree_law.proofs.checked.Laws as checked
use Rattle.cnvm_session.specs.declared.program.Program.{Program}
use Rattle.cnvm_session.specs.Pool.{sizes_of}
use Rattle.session_law.specs.Agrees.{Agrees}
use Rattle.compiled_law.proofs.Agreeing.{compiled}
use Rattle.cnvm_compile.specs.FrontEnd.{AcceptsText}
use Rattle.cnvm_compile.specs.Made.{image_of}
use Rattle.clobber_pass.specs.Logged.{IsExact}
use Rattle.cnvm_compile.specs.SizesAsked.{within, HasRoot, HasWidth}

-- `within` leaves a number within the limits as it is
within_same : (most n : ℕ) → 1 ≤ n → n ≤ most → within 1 most n ≡ n
within_same most n low high = by_least (nat_lt n 1) refl (nat_lt most n) refl
  where
    by_least : (a : Bool) → nat_lt n 1 ≡ a → (b : Bool) → nat_lt most n ≡ b
        → (if a then 1 else (if b then most else n)) ≡ n
    by_least true e b f = absurd (omega (arith, ltb-true n 1 e, low))
    by_least false e true f = absurd (omega (arith, ltb-true most n f, high))
    by_least false e false f = refl

module _ (text : List ℕ) (marks : MarkTable) (program : Program) where
  agreed_of : (ir : Ir) → AcceptsText text program.typed → lowered program.typed ≡ ir
      → IsExact (lowered program.typed).functions marks → IsWellFormed (lowered program.typed)
      → HasRoot (shapes_of program.typed) (sizes_of program)
      → HasWidth (shapes_of program.typed) (sizes_of program)
      → program.image.parts ≡ image_of marks (lowered program.typed) (sizes_of program)
      (length program.typed.lines)
      → Agrees program
  agreed_of ir accepted is marked formed root width made =
      let tree = accepted.0 in
      let least : 1 ≤ words_of (shapes_of program.typed).root =
      checked.root program.typed tree.0.tokens tree.2.spelled accepted.1 in
      let most : words_of (shapes_of program.typed).root ≤ ROOT_WORDS =
      (checked.shapes program.typed accepted.1).root in
      compiled text tree.0 program (record {
        left = tree.1;
        spelled = tree.2.spelled;
        lines = tree.2.lines;
        checked = accepted.1;
        formed = formed;
        marks = marks;
        exact = marked;
        root = root ∙ within_same ROOT_WORDS (words_of (shapes_of program.typed).root) least most;
        width = width;
        made = made;
      })

  -- a program agrees with its source, for any name of its code
  pub agreed : (ir : Ir) → AcceptsText text program.typed → ir ≡ lowered program.typed
      → IsExact ir.functions marks → IsWellFormed ir
      → HasRoot (shapes_of program.typed) (sizes_of program)
      → HasWidth (shapes_of program.typed) (sizes_of program)
      → program.image.parts ≡ image_of marks ir (sizes_of program) (length program.typed.lines)
      → Agrees program
  agreed ir accepted is marked formed root width made =
      agreed_of ir accepted (sym is) (subst (λ (x : Ir). IsExact x.functions marks) is marked)
      (subst IsWellFormed is formed) root width
      (made ∙ ap (λ (x : Ir). image_of marks x (sizes_of program) (length program.typed.lines)) is)
