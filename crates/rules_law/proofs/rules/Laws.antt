-- The laws, put together.
use Rattle.std.proofs.Common.{◌≡◌, inl, inr, List, [], ◌∷◌, false, sym, subst, length}
use Rattle.std.specs.Prelude.{Option, None, Some}
use Rattle.c_tree.specs.Program.{Program, tree_of}
use Rattle.c_types.specs.declared.broken.Broken.{Broken}
use Rattle.c_types.specs.Tables.{Tables, tables_of}
use Rattle.c_types.specs.Broken.{is_before, least_broken}
use Rattle.c_types.specs.LeastLaw.{IsAmong, NoneBefore, IsTold}
use Rattle.c_types.specs.Fault.{breaks}
use Rattle.c_types.proofs.Least.{least_is_least}
use Rattle.rules_law.specs.rules.Stands.{StandsIn}
use Rattle.rules_law.specs.rules.Law.{IsBroken, RowsLaw, IsFault, ToldLaw}
use Rattle.rules_law.proofs.rules.Own.{rows}
use Rattle.rules_law.proofs.rules.Listed.{listed}
use Rattle.rules_law.proofs.rules.Found.{Found}
use Rattle.rules_law.proofs.rules.Whole.{found_whole, put_whole}

is_broken : (tree : Program) (b : Broken) → IsAmong b (breaks tree)
    → IsBroken tree b.rule b.place
is_broken tree b h =
    let t : Tables = tables_of (tree_of tree) in
    let f : Found t b (StandsIn (length tree.lines) t) = found_whole (length tree.lines) t b h in
    (f.0, f.1, rows t f.0 b f.2)

is_listed : (tree : Program) (b : Broken) → IsBroken tree b.rule b.place
    → IsAmong b (breaks tree)
is_listed tree b h = put_whole (length tree.lines) (tables_of (tree_of tree)) b h.1 (listed h.2)

pub rows_law : RowsLaw
rows_law tree b = (is_broken tree b, is_listed tree b)

none_before : (a : Broken) (bs : List Broken) (b : Broken) → NoneBefore a bs → IsAmong b bs
    → is_before b a ≡ false
none_before a [] b h is = absurd is
none_before a (x ∷ bs) b h (inl e) = subst (λ (b : Broken). is_before b a ≡ false) (sym e) h.0
none_before a (x ∷ bs) b h (inr is) = none_before a bs b h.1 is

told_of : (tree : Program) (o : Option Broken) → IsTold o (breaks tree) → IsFault tree o
told_of tree None none = λ b h. subst (λ bs. IsAmong b bs) none (is_listed tree b h)
told_of tree (Some a) h = (
  is_broken tree a h.0,
  λ b is. none_before a (breaks tree) b h.1 (is_listed tree b is),
)

pub told_law : ToldLaw
told_law tree = told_of tree (least_broken (breaks tree)) (least_is_least (breaks tree))
