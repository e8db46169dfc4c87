-- The element at a place of a list, and the rest after it.
use Rattle.std.proofs.Common.{◌≡◌, ℕ, zero, suc, ◌+◌, ◌<◌, List, [], ◌∷◌, length, get_or, drop}
use Rattle.std.proofs.Common.{arith, refl, ap, true, false}
use Rattle.std.specs.Prelude.{Option, None, Some, map, option_map, bytes_eq}
use Rattle.c_tree.specs.ItemTree.{FunctionTree}
use Rattle.c_types.specs.Tables.{index_of}
use Rattle.c_types.specs.Transactions.{entry_of}
use Rattle.c_types.specs.declared.transactions.Transaction.{Transaction}

pub drop_at : {A : Type 0} (xs : List A) (i : ℕ) (x : A) → i < length xs → x ≡ get_or xs i x
    → drop i xs ≡ x ∷ drop (i + 1) xs
drop_at [] i x lt is = absurd (omega arith)
drop_at {A} (y ∷ ys) zero x lt is = rw (is, one_drop ys y) refl
  where
    one_drop : {A : Type 0} (ys : List A) (y : A) → drop (0 + 1) (y ∷ ys) ≡ ys
    one_drop ys y = refl
drop_at {A} (y ∷ ys) (suc i) x lt is =
    rw (suc_drop ys i y) (drop_at ys i x (omega arith) is)
  where
    suc_drop : {A : Type 0} (ys : List A) (i : ℕ) (y : A)
        → drop (suc i + 1) (y ∷ ys) ≡ drop (i + 1) ys
    suc_drop ys i y = let e : suc i + 1 ≡ suc (i + 1) = omega arith in ap (λ n. drop n (y ∷ ys)) e

abbrev pub names_in : List Transaction → List (List ℕ)
names_in ts = map (λ (t : Transaction). t.name) ts

-- numbers counted from n on
pub number_here : (name : List ℕ) (ts us : List Transaction) (x : Transaction) (n : ℕ) → ts ≡ x ∷ us
    → bytes_eq name x.name ≡ true
    → option_map (λ (i : ℕ). i + n) (index_of name (names_in ts)) ≡ Some n
number_here name ts us x n is same = rw (is, same) (ap Some (omega arith))

further : (x : Option ℕ) (n : ℕ) → option_map (λ (i : ℕ). i + n) (option_map suc x)
    ≡ option_map (λ (i : ℕ). i + (n + 1)) x
further None n = refl
further (Some i) n = ap Some (omega arith)

pub number_later : (name : List ℕ) (ts us : List Transaction) (x : Transaction) (n : ℕ)
    → ts ≡ x ∷ us → bytes_eq name x.name ≡ false
    → option_map (λ (i : ℕ). i + n) (index_of name (names_in ts))
    ≡ option_map (λ (i : ℕ). i + (n + 1)) (index_of name (names_in us))
number_later name ts us x n is other = rw (is, other) (further (index_of name (names_in us)) n)

pub names_in_entries : (fs : List FunctionTree)
    → names_in (map entry_of fs) ≡ map (λ (f : FunctionTree). f.name.text) fs
names_in_entries [] = refl
names_in_entries (f ∷ fs) = ap (λ (rest : List (List ℕ)). f.name.text ∷ rest) (names_in_entries fs)
