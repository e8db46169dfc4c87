-- The rows at each function's entry, over all walks from transactions.
use Rattle.std.specs.Prelude.{◌≡◌, ◌+◌, ◌-◌, ◌<◌, ℕ, zero, suc, Bool, true, false, slice_index_or}
use Rattle.std.specs.Prelude.{List, [], ◌∷◌, Option, Some, None, length, slice_get, nat_lt}
use Rattle.std.specs.Prelude.{if◌then◌else◌}
use mathlib.Core.Logic.{◌⊎◌}
use Rattle.ir.specs.declared.function.IrFunction.{IrFunction}
use Rattle.ir.specs.declared.instruction.Instruction.{Instruction}
use Rattle.ir.specs.declared.instruction.Instruction.TheVariants.{Call}
use Rattle.ir.specs.declared.fact.Fact.{Fact}
use Rattle.ir.specs.Derived.{Flows}
use Rattle.clobber_pass.specs.declared.topic.Topic.{Topic}
use Rattle.clobber_pass.specs.inside.Class.{class_at, is_about, slot}
use Rattle.clobber_pass.specs.Row.{word, tells}
use Rattle.clobber_pass.specs.inside.Told.{row_width, registers_at}
use Rattle.clobber_pass.specs.Sweep.{row_in}
use Rattle.clobber_pass.specs.inside.Sweep.{exits_of, next_row, join_in, row_or}
use Rattle.clobber_pass.specs.inside.Closed.{Closed, Made, Within, entry_row}
use Rattle.clobber_pass.specs.declared.topic.TheConstants.{TOPIC_FIELDS}

-- a parameter has what its argument has; any other register has what the walk's start has
abbrev pub argument_word : List ℕ → Option ℕ → ℕ
argument_word row None = word row 0
argument_word row (Some a) = word row (a + 2)

abbrev pub enter_word : List ℕ → List ℕ → ℕ → ℕ
enter_word args row s = if nat_lt s 2 then word row s
    else argument_word row (slice_get args (s - 2))

abbrev pub enter_from : List ℕ → List ℕ → ℕ → ℕ → List ℕ
enter_from args row s zero = []
enter_from args row s (suc k) = enter_word args row s ∷ enter_from args row (s + 1) k

-- the row at the entry of a called function
abbrev pub enter_row : Topic → (registers : ℕ) → List ℕ → List ℕ → List ℕ
enter_row topic registers args row = enter_from args row 0 (row_width topic registers)

-- the entries joined with what a call brings
abbrev pub entries_after_call : List IrFunction → Topic → List (List ℕ) → Instruction → List ℕ
    → List (List ℕ)
entries_after_call functions topic entries (Call to g args) row =
    join_in entries g (enter_row topic (registers_at functions g) args row)
entries_after_call functions topic entries _ row = entries

-- the same for all calls from a place on
abbrev pub entries_after_calls : List IrFunction → Topic → List (List (List ℕ)) → List (List ℕ)
    → List (List ℕ) → List ℕ → ℕ → List Instruction → List (List ℕ)
entries_after_calls functions topic exits rows entries row p [] = entries
entries_after_calls functions topic exits rows entries row p (i ∷ is) =
    entries_after_calls functions topic exits rows
    (entries_after_call functions topic entries i (row_or (row_in rows p) row))
    (next_row topic exits i (row_or (row_in rows p) row)) (p + 1) is

-- what a call brings is recorded at the called function's entry
abbrev pub BroughtBy : List IrFunction → Topic → List (List ℕ) → Instruction → List ℕ → Type 0
BroughtBy functions topic entries (Call to g args) row =
    Within (enter_row topic (registers_at functions g) args row) (row_in entries g)
BroughtBy functions topic entries _ row = Unit {0}

-- the same for all calls from a place on
abbrev pub AllBrought : List IrFunction → Topic → List (List (List ℕ)) → List (List ℕ)
    → List (List ℕ) → List ℕ → ℕ → List Instruction → Type 0
AllBrought functions topic exits rows entries row p [] = Unit {0}
AllBrought functions topic exits rows entries row p (i ∷ is) =
    BroughtBy functions topic entries i (row_or (row_in rows p) row)
    × AllBrought functions topic exits rows entries
    (next_row topic exits i (row_or (row_in rows p) row)) (p + 1) is

-- what entries record is derived, for each of a topic's bits
pub record SoundEntries (functions : List IrFunction) (topic : Topic) (entries : List (List ℕ)) :
    Type 0 where
  pub flows : (x f : ℕ) (b : Fact) → x < TOPIC_FIELDS → is_about (class_at topic x) b ≡ true
      → tells (row_in entries f) x (slot b) ≡ true → Flows functions f 0 b

pub record ShapedEntries (functions : List IrFunction) (topic : Topic) (entries : List (List ℕ)) :
    Type 0 where
  pub count : length entries ≡ length functions
  pub each : (f : ℕ) (u : IrFunction) → slice_get functions f ≡ Some u → (row_in entries f ≡ [])
      ⊎ (length (row_in entries f) ≡ row_width topic u.registers)

-- at the start of a transaction everything is recorded except the sought fact
abbrev pub start_row : Topic → ℕ → List ℕ
start_row topic registers = entry_row topic 0 registers 0

-- the entries of transactions record what holds at the start of a walk
pub record StartEntries (functions : List IrFunction) (topic : Topic) (entries : List (List ℕ)) :
    Type 0 where
  pub starts : (f : ℕ) (u : IrFunction) → slice_get functions f ≡ Some u → u.tx ≡ true
      → Within (start_row topic u.registers) (row_in entries f)

-- the row of an entry; a row that records nothing, if nothing reached it yet
abbrev pub at_entry : Topic → ℕ → List ℕ → List ℕ
at_entry topic registers row = row_or row (enter_from [] [] 0 (row_width topic registers))

-- the rows of a function don't grow by another sweep from its entry, and the called functions'
-- entries record what its calls bring
pub record FlowIn (functions : List IrFunction) (topic : Topic) (exits : List (List (List ℕ)))
    (entries : List (List ℕ)) (f : ℕ) (rows : List (List ℕ)) (u : IrFunction) : Type 0 where
  pub closed : Closed topic exits (length u.code) rows
      (at_entry topic u.registers (row_in entries f)) 0 u.code
  pub made : Made topic exits (at_entry topic u.registers (row_in entries f)) u.code rows
  pub brings : AllBrought functions topic exits rows entries
      (at_entry topic u.registers (row_in entries f)) 0 u.code

-- the same for a function that exists and whose entry has a row
pub record FlowEnded (functions : List IrFunction) (topic : Topic) (exits : List (List (List ℕ)))
    (entries : List (List ℕ)) (f : ℕ) (rows : List (List ℕ)) : Type 0 where
  pub ends : (u : IrFunction) → slice_get functions f ≡ Some u → (row_in entries f ≡ [] → ⊥)
      → FlowIn functions topic exits entries f rows u

abbrev pub AllFlow : List IrFunction → Topic → List (List (List ℕ)) → List (List ℕ)
    → List (List (List ℕ)) → Type 0
AllFlow functions topic exits entries tables = (f : ℕ) → f < length functions
    → FlowEnded functions topic exits entries f (exits_of tables f)

-- what is kept of the rows at the functions' entries
pub record Entries (functions : List IrFunction) (topic : Topic) (entries : List (List ℕ)) :
    Type 0 where
  pub sound : SoundEntries functions topic entries
  pub shaped : ShapedEntries functions topic entries

-- the same for one function
pub record StartsAt (functions : List IrFunction) (topic : Topic) (entries : List (List ℕ))
    (f : ℕ) : Type 0 where
  pub starts : (u : IrFunction) → slice_get functions f ≡ Some u → u.tx ≡ true
      → Within (start_row topic u.registers) (row_in entries f)

-- Whether a function waits: its entry grew since its code was last swept. A function that isn't in
-- the list waits forever.
abbrev pub waits : List Bool → ℕ → Bool
waits waiting f = slice_index_or waiting f true

-- a function that needn't be swept again afterwards needn't have been before, and the row at its
-- entry is as it was
pub record Wakes (waiting later : List Bool) (entries new : List (List ℕ)) : Type 0 where
  pub size : length later ≡ length waiting
  pub kept : (f : ℕ) → waits later f ≡ false → (waits waiting f ≡ false)
      × (row_in new f ≡ row_in entries f)

-- what is kept of entries, tables, and the functions that have to be swept again
pub record Flowing (functions : List IrFunction) (topic : Topic) (exits : List (List (List ℕ)))
    (entries : List (List ℕ)) (tables : List (List (List ℕ))) (waiting : List Bool) : Type 0 where
  pub entries_are : Entries functions topic entries
  pub start : StartEntries functions topic entries
  pub count : length tables ≡ length functions
  pub size : length waiting ≡ length functions
  pub settled : (f : ℕ) → waits waiting f ≡ false
      → FlowEnded functions topic exits entries f (exits_of tables f)
