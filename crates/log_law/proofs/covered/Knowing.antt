-- That the word's class was read: how this becomes, stays and stops being true.
use Rattle.std.proofs.Common.{◌≡◌, ℕ, true, subst, inl, inr}
use mathlib.Core.Logic.{◌⊎◌}
use Rattle.std.proofs.lemmas.Bool.{false≢true}
use Rattle.pool_map.specs.declared.shapes.Shapes.{Shapes}
use Rattle.pool_map.specs.PoolMap.{PoolMap, object_at}
use Rattle.ir.specs.Walk.{Kept}
use Rattle.code_meaning.specs.Code.{Spot, InRoot, InSlot, fields_of}
use Rattle.log_law.proofs.covered.Fields.{InField, field_one}
use Rattle.log_law.proofs.covered.Spots.{kind_at, Has, Lies, LiesRoot, Known, Stays, Leaves, More}
use Rattle.log_law.proofs.covered.Spots.{kind_one, has_lies}

pub known_root : (shapes : Shapes) (u : Spot) (w : PoolMap) (k : Kept) (x : ℕ) → LiesRoot shapes u x
    → k.root_read x ≡ true → Known shapes u w k
known_root shapes (InRoot i) w k x l h = (x, l, h)
known_root shapes (InSlot p i) w k x l h = absurd l

pub known_field : (shapes : Shapes) (u : Spot) (w : PoolMap) (k : Kept) (s x : ℕ)
    → Lies shapes u w s x → k.field_read s x ≡ true → Known shapes u w k
known_field shapes (InRoot i) w k s x l h = absurd (false≢true l.0)
known_field shapes (InSlot p i) w k s x l h = (s, x, l.1, h, inl l.0)

leaves_on : (shapes : Shapes) (u : Spot) (w w' : PoolMap) (k k' : Kept) (s : ℕ)
    → (k.freed ≡ true → k'.freed ≡ true) → Stays shapes u w w' → Leaves shapes u w w' k'.freed
    → (kind_at u w s ≡ true) ⊎ ((k.freed ≡ true) × ((t : ℕ) → Has shapes u w t → ⊥))
    → (kind_at u w' s ≡ true) ⊎ ((k'.freed ≡ true) × ((t : ℕ) → Has shapes u w' t → ⊥))
leaves_on shapes u w w' k k' s freed stays leaves (inl e) = leaves s e
leaves_on shapes u w w' k k' s freed stays leaves (inr gone) =
    inr (freed gone.0, λ t h. gone.1 t (stays t h))

pub known_on : (shapes : Shapes) (u : Spot) (w w' : PoolMap) (k k' : Kept) → More k k'
    → Stays shapes u w w' → Leaves shapes u w w' k'.freed → Known shapes u w k
    → Known shapes u w' k'
known_on shapes (InRoot i) w w' k k' more stays leaves known =
    (known.0, known.1, more.root known.0 known.2)
known_on shapes (InSlot p i) w w' k k' more stays leaves known = (
  known.0,
  known.1,
  known.2,
  more.field known.0 known.1 known.3,
  leaves_on shapes (InSlot p i) w w' k k' known.0 more.freed stays leaves known.4,
)

-- if the word is stored, its class was read
pub root_read : (shapes : Shapes) (u : Spot) (w : PoolMap) (k : Kept) (x : ℕ) → Known shapes u w k
    → LiesRoot shapes u x → k.root_read x ≡ true
root_read shapes (InRoot i) w k x known l =
    let same : known.0 ≡ x = field_one shapes.root known.0 x i known.1 l in
    subst (λ y. k.root_read y ≡ true) same known.2
root_read shapes (InSlot p i) w k x known l = absurd l

field_read_in : (shapes : Shapes) (i : ℕ) (k : Kept) (s t x y : ℕ) → s ≡ t
    → InField (fields_of shapes s) x i → InField (fields_of shapes t) y i → k.field_read s x ≡ true
    → k.field_read t y ≡ true
field_read_in shapes i k s t x y same a b h =
    let a' : InField (fields_of shapes t) x i =
    subst (λ r. InField (fields_of shapes r) x i) same a in
    let field : x ≡ y = field_one (fields_of shapes t) x y i a' b in
    rw (← field, ← same) h

field_read_of : (shapes : Shapes) (p i : ℕ) (w : PoolMap) (k : Kept) (s t x y : ℕ)
    → InField (fields_of shapes s) x i → k.field_read s x ≡ true
    → (kind_at (InSlot p i) w s ≡ true)
    ⊎ ((k.freed ≡ true) × ((t : ℕ) → Has shapes (InSlot p i) w t → ⊥))
    → Lies shapes (InSlot p i) w t y → k.field_read t y ≡ true
field_read_of shapes p i w k s t x y a h (inl e) l =
    field_read_in shapes i k s t x y (kind_one (object_at w p) s t e l.0) a l.1 h
field_read_of shapes p i w k s t x y a h (inr gone) l =
    absurd (gone.1 t (has_lies shapes (InSlot p i) w t y l))

pub field_read : (shapes : Shapes) (u : Spot) (w : PoolMap) (k : Kept) (t y : ℕ)
    → Known shapes u w k → Lies shapes u w t y → k.field_read t y ≡ true
field_read shapes (InRoot i) w k t y known l = absurd (false≢true l.0)
field_read shapes (InSlot p i) w k t y known l =
    field_read_of shapes p i w k known.0 t known.1 y known.2 known.3 known.4 l

freed_of : (shapes : Shapes) (u : Spot) (w : PoolMap) (k : Kept) (s : ℕ)
    → ((t : ℕ) → kind_at u w t ≡ true → ⊥)
    → (kind_at u w s ≡ true) ⊎ ((k.freed ≡ true) × ((t : ℕ) → Has shapes u w t → ⊥))
    → k.freed ≡ true
freed_of shapes u w k s empty (inl e) = absurd (empty s e)
freed_of shapes u w k s empty (inr gone) = gone.0

-- if a word's slot is empty, a free was passed
pub freed_known : (shapes : Shapes) (p i : ℕ) (w : PoolMap) (k : Kept)
    → ((t : ℕ) → kind_at (InSlot p i) w t ≡ true → ⊥) → Known shapes (InSlot p i) w k
    → k.freed ≡ true
freed_known shapes p i w k empty known = freed_of shapes (InSlot p i) w k known.0 empty known.4
