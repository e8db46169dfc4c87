-- What is surely written, and what is known to be read, of one word of the pool that wasn't stored
-- yet. A word of a slot belongs to a kind of object as long as an object of that kind is in the
-- slot.
use Rattle.std.proofs.Common.{◌≡◌, ◌<◌, ℕ, ℤ, pos, Bool, true, false, List, Option, None, Some, sym}
use Rattle.std.proofs.Common.{◌∙◌}
use mathlib.Core.Logic.{◌⊎◌}
use Rattle.std.proofs.lemmas.Bool.{false≢true, eqb-true}
use Rattle.pool_map.specs.declared.object.Object.{Object}
use Rattle.pool_map.specs.declared.shapes.Shapes.{Shapes}
use Rattle.pool_map.specs.PoolFits.{words_of}
use Rattle.pool_map.specs.PoolMap.{PoolMap, object_at}
use Rattle.ir.specs.Walk.{Kept}
use Rattle.code_meaning.specs.Code.{Spot, InRoot, InSlot, register_at, is_kind, fields_of}
use Rattle.log_law.proofs.covered.Fields.{InField, field_below}

abbrev pub word : Spot → ℕ
word (InRoot i) = i
word (InSlot p i) = i

-- the word's slot has an object of kind s
abbrev pub kind_at : Spot → PoolMap → ℕ → Bool
kind_at (InRoot i) w s = false
kind_at (InSlot p i) w s = is_kind (object_at w p) s

-- the value is a pointer to the word's slot
abbrev pub Names : Spot → ℤ → Type 0
Names (InRoot i) v = ⊥
Names (InSlot p i) v = v ≡ pos p

-- the word's slot has an object of kind s, and that object has the word
abbrev pub Has : Shapes → Spot → PoolMap → ℕ → Type 0
Has shapes u w s = (kind_at u w s ≡ true) × (word u < words_of (fields_of shapes s))

-- the word's slot has an object of kind s, and the word belongs to its field x
abbrev pub Lies : Shapes → Spot → PoolMap → (s x : ℕ) → Type 0
Lies shapes u w s x = (kind_at u w s ≡ true) × InField (fields_of shapes s) x (word u)

-- the word belongs to root field x
abbrev pub LiesRoot : Shapes → Spot → (x : ℕ) → Type 0
LiesRoot shapes (InRoot i) x = InField shapes.root x i
LiesRoot shapes (InSlot p i) x = ⊥

-- what is surely written through a register isn't the word
abbrev pub Sure : Shapes → Spot → PoolMap → List ℤ → (ℕ → ℕ → ℕ → Bool) → Type 0
Sure shapes u w regs written = (r s x : ℕ) → written r s x ≡ true → Names u (register_at regs r)
    → Lies shapes u w s x → ⊥

abbrev pub SureRoot : Shapes → Spot → (ℕ → Bool) → Type 0
SureRoot shapes u root = (x : ℕ) → root x ≡ true → LiesRoot shapes u x → ⊥

-- The word's class was read. Its slot still has the object, or a free was passed and no object
-- there has the word.
abbrev pub Known : Shapes → Spot → PoolMap → Kept → Type 0
Known shapes (InRoot i) w k = (x : ℕ) × InField shapes.root x i × (k.root_read x ≡ true)
Known shapes (InSlot p i) w k =
    (s : ℕ) × (x : ℕ) × InField (fields_of shapes s) x i × (k.field_read s x ≡ true)
    × ((kind_at (InSlot p i) w s ≡ true)
    ⊎ ((k.freed ≡ true) × ((t : ℕ) → Has shapes (InSlot p i) w t → ⊥)))

-- an object that has the word was there before
abbrev pub Stays : Shapes → Spot → PoolMap → PoolMap → Type 0
Stays shapes u w w' = (s : ℕ) → Has shapes u w' s → Has shapes u w s

-- an object stays in the word's slot, or it is freed, and then no object there has the word
abbrev pub Leaves : Shapes → Spot → PoolMap → PoolMap → Bool → Type 0
Leaves shapes u w w' freed = (s : ℕ) → kind_at u w s ≡ true → (kind_at u w' s ≡ true)
    ⊎ ((freed ≡ true) × ((t : ℕ) → Has shapes u w' t → ⊥))

-- what was read stays read
pub record More (k k' : Kept) : Type 0 where
  pub root : (x : ℕ) → k.root_read x ≡ true → k'.root_read x ≡ true
  pub field : (s x : ℕ) → k.field_read s x ≡ true → k'.field_read s x ≡ true
  pub freed : k.freed ≡ true → k'.freed ≡ true

pub kind_one : (o : Option Object) (s t : ℕ) → is_kind o s ≡ true → is_kind o t ≡ true → s ≡ t
kind_one None s t a b = absurd (false≢true a)
kind_one (Some object) s t a b = sym (eqb-true object.kind s a) ∙ eqb-true object.kind t b

pub has_lies : (shapes : Shapes) (u : Spot) (w : PoolMap) (s x : ℕ) → Lies shapes u w s x
    → Has shapes u w s
has_lies shapes u w s x l = (l.0, field_below (fields_of shapes s) x (word u) l.1)

pub lies_stays : (shapes : Shapes) (u : Spot) (w w' : PoolMap) (s x : ℕ) → Stays shapes u w w'
    → Lies shapes u w' s x → Lies shapes u w s x
lies_stays shapes u w w' s x stays l = ((stays s (has_lies shapes u w' s x l)).0, l.1)

pub sure_stays : (shapes : Shapes) (u : Spot) (w w' : PoolMap) (regs : List ℤ) (written : ℕ → ℕ → ℕ
    → Bool) → Stays shapes u w w' → Sure shapes u w regs written → Sure shapes u w' regs written
sure_stays shapes u w w' regs written stays sure =
    λ r s x h n l. sure r s x h n (lies_stays shapes u w w' s x stays l)
