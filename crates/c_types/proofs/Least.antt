-- The rule that is reported is the least of the broken ones.
use Rattle.std.proofs.Common.{◌≡◌, ℕ, List, [], ◌∷◌, ◌⊎◌, Bool, true, false, refl, inl, inr, arith}
use Rattle.std.specs.Prelude.{Option, None, Some, if◌then◌else◌, ◌&&◌, ◌||◌, nat_eq, nat_lt}
use Rattle.std.proofs.lemmas.Bool.Decides.{nat_tests}
use Rattle.c_types.specs.declared.broken.Broken.{Broken}
use Rattle.c_types.specs.Broken.{least_from, is_before, rule_number, limit_in}
use Rattle.c_types.specs.LeastLaw.{IsAmong, NoneBefore, IsTold, LeastIsTold}

-- what a broken rule goes by: its place, its number and its limit
record Key : Type 0 where
  place : ℕ
  number : ℕ
  limit : ℕ

abbrev key : Broken → Key
key b = record { place = b.place; number = rule_number b.rule; limit = limit_in b.rule }

abbrev before : Key → Key → Bool
before a b = nat_lt a.place b.place || (nat_eq a.place b.place
    && (nat_lt a.number b.number || (nat_eq a.number b.number && nat_lt a.limit b.limit)))

-- if p comes before q but not before r, then q doesn't come before r
before_through : (a b c : Key) → before a b ≡ true → before a c ≡ false → before b c ≡ false
before_through a b c one two = grind (arith, nat_tests)

-- if p doesn't come before q, and q not before r, then p doesn't come before r
before_not : (a b c : Key) → before a b ≡ false → before b c ≡ false → before a c ≡ false
before_not a b c one two = grind (arith, nat_tests)

-- what holds of the least of k and a list
abbrev Stands : Option Broken → Broken → List Broken → Type 0
Stands None k bs = ⊥
Stands (Some a) k bs = ((a ≡ k) ⊎ IsAmong a bs) × (is_before k a ≡ false) × NoneBefore a bs

stands_step : (o : Option Broken) (t : Bool) (k b : Broken) (bs : List Broken) → is_before b k ≡ t
    → Stands o (if t then b else k) bs → Stands o k (b ∷ bs)
stands_step None t k b bs e h = h
stands_step (Some a) true k b bs e h =
    (inr h.0, before_through (key b) (key k) (key a) e h.1, (h.1, h.2))
stands_step (Some a) false k b bs e h =
    (kept h.0, h.1, (before_not (key b) (key k) (key a) e h.1, h.2))
  where
    kept : {A B C : Type 0} → A ⊎ C → A ⊎ (B ⊎ C)
    kept (inl x) = inl x
    kept (inr y) = inr (inr y)

before_itself : (a : Key) → before a a ≡ false
before_itself a = grind (arith, nat_tests)

stands_either : (t : Bool) (k b : Broken) (bs : List Broken) → is_before b k ≡ t
    → Stands (least_from (Some b) bs) b bs → Stands (least_from (Some k) bs) k bs
    → Stands (least_from (if t then Some b else Some k) bs) k (b ∷ bs)
stands_either true k b bs e one other = stands_step (least_from (Some b) bs) true k b bs e one
stands_either false k b bs e one other = stands_step (least_from (Some k) bs) false k b bs e other

stands : (k : Broken) (bs : List Broken) → Stands (least_from (Some k) bs) k bs
stands k [] = (inl refl, before_itself (key k), tt)
stands k (b ∷ bs) = stands_either (is_before b k) k b bs refl (stands b bs) (stands k bs)

told_of : (o : Option Broken) (b : Broken) (bs : List Broken) → Stands o b bs → IsTold o (b ∷ bs)
told_of None b bs h = absurd h
told_of (Some a) b bs h = (h.0, (h.1, h.2))

pub least_is_least : LeastIsTold
least_is_least [] = refl
least_is_least (b ∷ bs) = told_of (least_from (Some b) bs) b bs (stands b bs)
