-- Bits that are carried on from place to place by themselves, between two sweeps.
use Rattle.std.specs.Prelude.{◌≡◌, ◌+◌, ℕ, List, [], ◌∷◌, ◌++◌, Option, Some, None, length}
use mathlib.Core.Logic.{◌⊎◌}
use Rattle.ir.specs.declared.instruction.Instruction.{Instruction}
use Rattle.ir.specs.declared.instruction.Instruction.TheVariants.{Const, Copy, Bin, Jump, Branch}
use Rattle.ir.specs.declared.instruction.Instruction.TheVariants.{Load, Store, New, Free, Call}
use Rattle.ir.specs.declared.instruction.Instruction.TheVariants.{Return, Tick, Trap, Log}
use Rattle.clobber_pass.specs.declared.topic.Topic.{Topic}
use Rattle.clobber_pass.specs.declared.growth.Grown.{Grown}
use Rattle.clobber_pass.specs.inside.Closed.{Reached, Made, one_word_row, raised_in}
use Rattle.clobber_pass.specs.inside.Closed.Stage.{RowAt}

-- the slot that an instruction may change beside the one that is looked at: that of its target, or
-- of the sought fact
abbrev pub result_slot : Instruction → ℕ
result_slot (Const to v) = to + 2
result_slot (Copy to from) = to + 2
result_slot (Bin op to left right) = to + 2
result_slot (Load to target) = to + 2
result_slot (New to kind log_fill line) = to + 2
result_slot (Store target from line) = 1
result_slot (Free from kind line) = 1
result_slot (Jump place) = 1
result_slot (Branch on place) = 1
result_slot (Call to g args) = 1
result_slot (Return from) = 1
result_slot Tick = 1
result_slot (Trap kind) = 1
result_slot (Log target) = 1

-- the words of the row at a place, from slot s on, each with its place and slot
abbrev pub grown_from : ℕ → ℕ → List ℕ → List Grown
grown_from p s [] = []
grown_from p s (w ∷ ws) = record { place = p; slot = s; word = w } ∷ grown_from p (s + 1) ws

-- the bits are some that a walk brings to their place
abbrev pub Arrives : Topic → List (List (List ℕ)) → List ℕ → List Instruction → ℕ → ℕ → ℕ → Type 0
Arrives topic exits entry code p s w =
    Reached topic exits entry code (RowAt p (one_word_row (length entry) s w))

abbrev pub AllArrive : Topic → List (List (List ℕ)) → List ℕ → List Instruction → List Grown
    → Type 0
AllArrive topic exits entry code [] = Unit {0}
AllArrive topic exits entry code (g ∷ gs) =
    Arrives topic exits entry code g.place g.slot g.word × AllArrive topic exits entry code gs

-- a table that sweeps make, and a list of bits of which each is some that a walk brings there
pub record Carrying (topic : Topic) (exits : List (List (List ℕ))) (entry : List ℕ)
    (code : List Instruction) (rows : List (List ℕ)) (growth : List Grown) : Type 0 where
  pub made : Made topic exits entry code rows
  pub all : AllArrive topic exits entry code growth

-- bits were added to a place's row and to the list, or neither
pub record Arrived (p s w : ℕ) (rows new : List (List ℕ)) (growth later : List Grown) : Type 0 where
  pub table : (new ≡ rows) ⊎ (new ≡ raised_in rows p s w)
  pub list : (later ≡ growth) ⊎ (later ≡ growth ++ record { place = p; slot = s; word = w } ∷ [])

-- the same for the place to which an instruction leads, if there is one
abbrev pub Led : Option ℕ → Grown → List (List ℕ) → List (List ℕ) → List Grown → List Grown → Type 0
Led None g rows new growth later = (new ≡ rows) × (later ≡ growth)
Led (Some q) g rows new growth later = Arrived q g.slot g.word rows new growth later

-- what was added comes from a row that a walk brings to the place
pub record Carries (p : ℕ) (row : List ℕ) (rows new : List (List ℕ)) (growth later : List Grown) :
    Type 0 where
  pub keeps : (topic : Topic) (exits : List (List (List ℕ))) (entry : List ℕ)
      (code : List Instruction) → Reached topic exits entry code (RowAt p row)
      → Carrying topic exits entry code rows growth → Carrying topic exits entry code new later

-- what was added comes from bits that a walk brings to the place, in rows of n words
pub record CarriesOn (topic : Topic) (exits : List (List (List ℕ))) (code : List Instruction)
    (n : ℕ) (g : Grown) (rows new : List (List ℕ)) (growth later : List Grown) : Type 0 where
  pub keeps : (entry : List ℕ) → length entry ≡ n
      → Arrives topic exits entry code g.place g.slot g.word
      → Carrying topic exits entry code rows growth → Carrying topic exits entry code new later
