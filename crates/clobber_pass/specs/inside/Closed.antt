-- A table that a sweep doesn't change (a fixpoint), and the row that reaches each place.
use Rattle.std.specs.Prelude.{◌≡◌, ◌==◌, ◌+◌, ◌-◌, ◌^◌, ◌<◌, ℕ, zero, suc, Bool, true, List, []}
use Rattle.std.specs.Prelude.{◌∷◌, Option, Some, None, length, replicate, map, slice_get, slice_set}
use Rattle.std.specs.Prelude.{bit_or, if◌then◌else◌}
use mathlib.Core.Logic.{◌⊎◌}
use Rattle.ir.specs.declared.instruction.Instruction.{Instruction}
use Rattle.ir.specs.declared.function.IrFunction.{IrFunction}
use Rattle.ir.specs.declared.fact.Fact.{Fact}
use Rattle.clobber_pass.specs.declared.topic.Topic.{Topic}
use Rattle.clobber_pass.specs.inside.Class.{slot}
use Rattle.clobber_pass.specs.Row.{word, has_bit, tells}
use Rattle.clobber_pass.specs.inside.Told.{column, column_of, row_width, parameters_at}
use Rattle.clobber_pass.specs.Sweep.{row_in}
use Rattle.clobber_pass.specs.inside.Sweep.{exits_of, exit, next_row, jump_target, row_or, join_in}
use Rattle.clobber_pass.specs.inside.Sweep.{meet_in, rows_led, swept}

-- a sweep from a place on changes nothing
abbrev pub Closed : Topic → List (List (List ℕ)) → ℕ → List (List ℕ) → List ℕ → ℕ
    → List Instruction → Type 0
Closed topic exits end rows row p [] = Unit {0}
Closed topic exits end rows row p (i ∷ is) =
    (meet_in rows p row ≡ rows) × (rows_led rows (jump_target end i) (row_or (row_in rows p) row)
    ≡ rows)
    × Closed topic exits end rows (next_row topic exits i (row_or (row_in rows p) row)) (p + 1) is

-- the row that reaches the k-th place from p on
abbrev pub row_reaching : Topic → List (List (List ℕ)) → List (List ℕ) → List ℕ → ℕ
    → List Instruction → ℕ → Option (List ℕ)
row_reaching topic exits rows row p [] k = None
row_reaching topic exits rows row p (i ∷ is) zero = Some (row_or (row_in rows p) row)
row_reaching topic exits rows row p (i ∷ is) (suc k) =
    row_reaching topic exits rows (next_row topic exits i (row_or (row_in rows p) row)) (p + 1) is k

-- what is recorded at a place; at a place that doesn't exist, everything
abbrev pub seen_in_row : ℕ → ℕ → Option (List ℕ) → Bool
seen_in_row x s None = true
seen_in_row x s (Some row) = tells row x s

abbrev pub told_in : Topic → List (List (List ℕ)) → List (List ℕ) → List ℕ → List Instruction → ℕ
    → ℕ → Fact → Bool
told_in topic exits rows entry code x p b =
    seen_in_row x (slot b) (row_reaching topic exits rows entry 0 code p)

-- each row of a table has n words, or is empty
abbrev pub Shaped : (n : ℕ) → List (List ℕ) → Type 0
Shaped n rows = (q : ℕ) → (row_in rows q ≡ []) ⊎ (length (row_in rows q) ≡ n)

-- what is recorded to pass through a function
abbrev pub pass_in : List IrFunction → List (List (List ℕ)) → ℕ → ℕ → Fact → Fact → Bool
pass_in functions exits x g e y =
    has_bit x (exit (exits_of exits g) (column (parameters_at functions g) e) (slot y))

-- a row that has one word
abbrev pub one_word_row : ℕ → ℕ → ℕ → List ℕ
one_word_row n s w = slice_set (replicate n 0) s w

-- a table after bits were added to a word of a place's row
abbrev pub raised_in : List (List ℕ) → ℕ → ℕ → ℕ → List (List ℕ)
raised_in rows p s bits =
    slice_set rows p (slice_set (row_in rows p) s (bit_or (word (row_in rows p) s) bits))

-- what sweeps make: a table of a function's rows, or a row that reaches a place
pub data Stage : Type 0 where
  Table : List (List ℕ) → Stage
  RowAt : ℕ → List ℕ → Stage

-- What repeated sweeps make from an empty table, and from single words that are carried on. A word
-- is taken from a table's row, leads to where the instruction of its place leads, and is added to
-- the rows there.
pub data Reached (topic : Topic) (exits : List (List (List ℕ))) (entry : List ℕ)
    (code : List Instruction) : Stage → Type 0 where
  none : Reached topic exits entry code (Table (replicate (length code + 1) []))
  again : (rows : List (List ℕ)) → Reached topic exits entry code (Table rows)
      → Reached topic exits entry code (Table (swept topic exits (length code) rows entry 0 code))
  raised : (rows : List (List ℕ)) (p s w : ℕ) → Reached topic exits entry code (Table rows)
      → Reached topic exits entry code (RowAt p (one_word_row (length entry) s w))
      → Reached topic exits entry code (Table (raised_in rows p s w))
  taken : (rows : List (List ℕ)) (p s : ℕ) → Reached topic exits entry code (Table rows)
      → Reached topic exits entry code (RowAt p
      (one_word_row (length entry) s (word (row_in rows p) s)))
  picked : (p : ℕ) (row : List ℕ) (s : ℕ) → Reached topic exits entry code (RowAt p row)
      → Reached topic exits entry code (RowAt p (one_word_row (length entry) s (word row s)))
  dropped : (p : ℕ) (row : List ℕ) (s : ℕ) → Reached topic exits entry code (RowAt p row)
      → Reached topic exits entry code (RowAt p (slice_set row s 0))
  leads : (p q : ℕ) (i : Instruction) (row : List ℕ) → slice_get code p ≡ Some i
      → jump_target (length code) i ≡ Some q → Reached topic exits entry code (RowAt p row)
      → Reached topic exits entry code (RowAt q row)
  goes : (p : ℕ) (i : Instruction) (row : List ℕ) → slice_get code p ≡ Some i
      → suc p < length code → Reached topic exits entry code (RowAt p row)
      → Reached topic exits entry code (RowAt (suc p) (next_row topic exits i row))

abbrev pub Made : Topic → List (List (List ℕ)) → List ℕ → List Instruction → List (List ℕ) → Type 0
Made topic exits entry code rows = Reached topic exits entry code (Table rows)

-- the row at a function's entry, for one column
abbrev pub entry_word : ℕ → ℕ → ℕ → ℕ
entry_word n c s = if column_of n s == c then 2 ^ 16 - 1 else 0

abbrev pub entry_from : ℕ → ℕ → ℕ → ℕ → List ℕ
entry_from n c s zero = []
entry_from n c s (suc k) = entry_word n c s ∷ entry_from n c (s + 1) k

abbrev pub entry_row : Topic → ℕ → ℕ → ℕ → List ℕ
entry_row topic parameters registers c = entry_from parameters c 0 (row_width topic registers)

-- each row of a function's exits has as many words as its rows, or is empty
pub record ShapedExits (functions : List IrFunction) (topic : Topic)
    (exits : List (List (List ℕ))) : Type 0 where
  pub count : length exits ≡ length functions
  pub each : (g : ℕ) (u : IrFunction) → slice_get functions g ≡ Some u
      → (length (exits_of exits g) ≡ u.parameters + 2) × Shaped (row_width topic u.registers)
      (exits_of exits g)

-- everything recorded in the first row is recorded in the second
abbrev pub Within : List ℕ → List ℕ → Type 0
Within one other = (x s : ℕ) → tells one x s ≡ true → tells other x s ≡ true

-- the sweeps from one column of a function's entry reach a fixpoint, and what it records of returns
-- is recorded in the exits
pub record EndedIn (topic : Topic) (exits : List (List (List ℕ))) (g c : ℕ) (u : IrFunction) :
    Type 0 where
  pub rows : List (List ℕ)
  pub closed : Closed topic exits (length u.code) rows (entry_row topic u.parameters u.registers c)
      0 u.code
  pub made : Made topic exits (entry_row topic u.parameters u.registers c) u.code rows
  pub told : Within (row_in rows (length u.code)) (row_in (exits_of exits g) c)

pub record Ended (functions : List IrFunction) (topic : Topic) (exits : List (List (List ℕ)))
    (g c : ℕ) : Type 0 where
  pub ends : (u : IrFunction) → slice_get functions g ≡ Some u → EndedIn topic exits g c u

-- empty exits
abbrev pub no_exits : List IrFunction → List (List (List ℕ))
no_exits functions = map (λ (u : IrFunction). replicate (u.parameters + 2) []) functions

-- the exits joined with a row
abbrev pub joined_exits : List (List (List ℕ)) → ℕ → ℕ → List ℕ → List (List (List ℕ))
joined_exits exits g c row = slice_set exits g (join_in (exits_of exits g) c row)

-- the same for each column of a function
abbrev pub AllColumns : List IrFunction → Topic → List (List (List ℕ)) → ℕ → Type 0
AllColumns functions topic exits g = (c : ℕ) → c < parameters_at functions g + 2
    → Ended functions topic exits g c
