-- No two transactions have one name in C, and none has that of a function on pools.
use Rattle.std.proofs.Common.{◌≡◌, ℕ, Bool, true, false, List, [], ◌∷◌, ◌++◌, take, drop, length}
use Rattle.std.proofs.Common.{refl, sym, ap, ◌∙◌}
use Rattle.std.specs.Prelude.{codes, ◌==◌, ◌&&◌, ◌||◌, if◌then◌else◌}
use Rattle.std.specs.List.{list_all}
use Rattle.std.specs.Str.{bytes_eq}
use Rattle.cnvm_emit.specs.Law.{AreApart, AreFree}
use Rattle.cnvm_emit.specs.Name.{is_underscore, extends, is_own, c_name}

-- all bytes but the last, and whether that is `_`
abbrev init : List ℕ → List ℕ
init [] = []
init (b ∷ []) = []
init (b ∷ c ∷ bs) = b ∷ init (c ∷ bs)

abbrev ends_low : List ℕ → Bool
ends_low [] = false
ends_low (b ∷ []) = b == 95
ends_low (b ∷ c ∷ bs) = ends_low (c ∷ bs)

init_added : (name : List ℕ) → init (name ++ codes "_") ≡ name
init_added [] = refl
init_added (b ∷ []) = refl
init_added (b ∷ c ∷ bs) = ap (λ (l : List ℕ). b ∷ l) (init_added (c ∷ bs))

ends_added : (name : List ℕ) → ends_low (name ++ codes "_") ≡ true
ends_added [] = refl
ends_added (b ∷ []) = refl
ends_added (b ∷ c ∷ bs) = ends_added (c ∷ bs)

and_more : (x y z : Bool) → (y ≡ true → z ≡ true) → (x && y) ≡ true → (x && z) ≡ true
and_more true y z more e = more e
and_more false y z more e = e

three_more : (x y z v w : Bool) → ((y && z) ≡ true → (v && w) ≡ true)
    → ((x && y) && z) ≡ true → ((x && v) && w) ≡ true
three_more true y z v w more e = more e
three_more false y z v w more e = e

or_true : (x : Bool) → (x || true) ≡ true
or_true true = refl
or_true false = refl

or_more : (x y v w : Bool) → (x ≡ true → v ≡ true) → (y ≡ true → w ≡ true) → (x || y) ≡ true
    → (v || w) ≡ true
or_more true y v w left right e = ap (λ (b : Bool). b || w) (left refl)
or_more false y v w left right e = ap (λ (b : Bool). v || b) (right e) ∙ or_true v

all_more : (name : List ℕ) → list_all is_underscore name ≡ true
    → list_all is_underscore (name ++ codes "_") ≡ true
all_more [] e = refl
all_more (b ∷ bs) e = and_more (is_underscore b) (list_all is_underscore bs)
    (list_all is_underscore (bs ++ codes "_")) (all_more bs) e

extends_more : (own name : List ℕ) → extends own name ≡ true
    → extends own (name ++ codes "_") ≡ true
extends_more [] name e = all_more name e
extends_more (o ∷ os) [] e = absurd (cc)
extends_more (o ∷ os) (b ∷ bs) e =
    three_more (b == o) (bytes_eq (take (length os) bs) os)
    (list_all is_underscore (drop (length os) bs))
    (bytes_eq (take (length os) (bs ++ codes "_")) os)
    (list_all is_underscore (drop (length os) (bs ++ codes "_")))
    (extends_more os bs) e

own_more : (name : List ℕ) → is_own name ≡ true → is_own (name ++ codes "_") ≡ true
own_more name =
    or_more _ _ _ _ (or_more _ _ _ _ (extends_more (codes "pool_create") name)
    (extends_more (codes "pool_open") name))
    (or_more _ _ _ _ (extends_more (codes "pool_close") name)
    (or_more _ _ _ _ (extends_more (codes "pool_done") name)
    (or_more _ _ _ _ (extends_more (codes "pool_last") name)
    (extends_more (codes "pool_events") name))))

-- what a name is added to is no name that stays as it is
apart_from : (a b : List ℕ) → is_own a ≡ true → is_own b ≡ false → a ++ codes "_" ≡ b → ⊥
apart_from a b own free e =
    let more = own_more a own in
    let same = ap is_own e in cc

apart_if : (a b : List ℕ) (p q : Bool) → is_own a ≡ p → is_own b ≡ q
    → (if p then a ++ codes "_" else a) ≡ (if q then b ++ codes "_" else b) → a ≡ b
apart_if a b true true own_a own_b e = sym (init_added a) ∙ ap init e ∙ init_added b
apart_if a b true false own_a own_b e = absurd (apart_from a b own_a own_b e)
apart_if a b false true own_a own_b e = absurd (apart_from b a own_b own_a (sym e))
apart_if a b false false own_a own_b e = e

pub apart : AreApart
apart a b e = apart_if a b (is_own a) (is_own b) refl refl e

free_if : (own name : List ℕ) (p : Bool) → is_own own ≡ true → ends_low own ≡ false
    → is_own name ≡ p → (if p then name ++ codes "_" else name) ≡ own → ⊥
free_if own name true is stays at e =
    let low = ends_added name in
    let same = ap ends_low e in cc
free_if own name false is stays at e = let same = ap is_own e in cc

free_of : (own name : List ℕ) → is_own own ≡ true → ends_low own ≡ false → c_name name ≡ own → ⊥
free_of own name is stays e = free_if own name (is_own name) is stays refl e

pub free : AreFree
free name = (
  free_of (codes "pool_create") name refl refl,
  (
    free_of (codes "pool_open") name refl refl,
    (
      free_of (codes "pool_close") name refl refl,
      (
        free_of (codes "pool_done") name refl refl,
        (
          free_of (codes "pool_last") name refl refl,
          (free_of (codes "pool_events") name refl refl, tt),
        ),
      ),
    ),
  ),
)
