-- The arguments of a call.
use Rattle.std.proofs.Common.{◌≡◌, ℕ, zero, suc, ◌+◌, ◌<◌, List, [], ◌∷◌, length, get_or, drop}
use Rattle.std.proofs.Common.{arith, refl, ap, Bool, true, false}
use Rattle.std.specs.Prelude.{◌&&◌}
use Rattle.c_tree.specs.declared.expr.Argument.{Argument}
use Rattle.c_tree.specs.ExprTree.{More, expr_of, arguments_in}
use Rattle.c_tree.proofs.Trees.{expr_of-Call}
use Rattle.c_types.specs.Expressions.{argument_count}
use Rattle.c_types.proofs.Told.{told_append}

pub count_arguments : (xs : List Argument) → argument_count (arguments_in xs) ≡ length xs
count_arguments [] = refl
count_arguments (x ∷ xs) = ap suc (count_arguments xs)

pub arguments_at : (xs : List Argument) (i : ℕ) (x : Argument) → i < length xs → x ≡ get_or xs i x
    → arguments_in (drop i xs) ≡ More x.first (expr_of x.value) (arguments_in (drop (i + 1) xs))
arguments_at [] i x lt is = absurd (omega arith)
arguments_at (y ∷ ys) zero x lt is = rw (is, one_drop ys y) refl
  where
    one_drop : (ys : List Argument) (y : Argument) → drop (0 + 1) (y ∷ ys) ≡ ys
    one_drop ys y = refl
arguments_at (y ∷ ys) (suc i) x lt is =
    rw (suc_drop ys i y) (arguments_at ys i x (omega arith) is)
  where
    suc_drop : (ys : List Argument) (i : ℕ) (y : Argument)
        → drop (suc i + 1) (y ∷ ys) ≡ drop (i + 1) ys
    suc_drop ys i y = let e : suc i + 1 ≡ suc (i + 1) = omega arith in ap (λ n. drop n (y ∷ ys)) e

pub and_assoc : (a b c : Bool) → ((a && b) && c) ≡ (a && (b && c))
and_assoc true b c = refl
and_assoc false b c = refl

pub ruleset expressions = (told_append, expr_of-Call, count_arguments)
