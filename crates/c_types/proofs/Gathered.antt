-- Elements of the lists of declarations that were gathered.
use Rattle.std.proofs.Common.{Bor, arith, ◌<◌, length, get_or, Some, ap, sym, ◌≡◌, ℕ, zero, suc}
use Rattle.std.proofs.Common.{List, [], ◌∷◌, refl}
use Rattle.std.specs.Prelude.{map, option_map, slice_get}
use Rattle.c_tree.specs.declared.item.RootDecl.{RootDecl}
use Rattle.c_tree.specs.declared.item.Function.{Function}
use Rattle.c_tree.specs.ItemTree.{function_tree}
use Rattle.c_types.specs.Views.{root_of}

pub slice_get_functions : (fs : List (Bor Function)) (i : ℕ)
    → slice_get (map function_tree (map (λ (f : Bor Function). f.now) fs)) i
    ≡ option_map (λ (f : Bor Function). function_tree f.now) (slice_get fs i)
slice_get_functions [] i = refl
slice_get_functions (x ∷ xs) zero = refl
slice_get_functions (x ∷ xs) (suc i) = slice_get_functions xs i

pub slice_get_roots : (rs : List (Bor RootDecl)) (i : ℕ)
    → slice_get (map (λ (r : Bor RootDecl). root_of r.now) rs) i ≡ option_map (λ (r : Bor RootDecl).
    root_of r.now) (slice_get rs i)
slice_get_roots [] i = refl
slice_get_roots (x ∷ xs) zero = refl
slice_get_roots (x ∷ xs) (suc i) = slice_get_roots xs i

pub ruleset gathered = (slice_get_functions, slice_get_roots)

pub slice_get_at : {A : Type 0} (xs : List A) (i : ℕ) (x : A) → i < length xs → x ≡ get_or xs i x
    → slice_get xs i ≡ Some x
slice_get_at [] i x lt is = absurd (omega arith)
slice_get_at (y ∷ ys) zero x lt is = ap Some (sym is)
slice_get_at (y ∷ ys) (suc i) x lt is = slice_get_at ys i x (omega arith) is
