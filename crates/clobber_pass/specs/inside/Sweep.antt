-- One sweep through a function: a row is changed in place, place by place, and joined at the
-- targets of jumps. A call gives the row what its function's returns record.
use Rattle.std.specs.Prelude.{◌==◌, ◌+◌, ◌-◌, ℕ, List, [], ◌∷◌, Option, Some, None, length}
use Rattle.std.specs.Prelude.{replicate, slice_index_or, slice_set, bit_and, bit_or, nat_lt}
use Rattle.std.specs.Prelude.{position, if◌then◌else◌}
use Rattle.ir.specs.declared.instruction.Instruction.{Instruction}
use Rattle.ir.specs.declared.instruction.Instruction.TheVariants.{Const, Copy, Bin, Jump, Branch}
use Rattle.ir.specs.declared.instruction.Instruction.TheVariants.{Load, Store, New, Free, Call}
use Rattle.ir.specs.declared.instruction.Instruction.TheVariants.{Return, Tick, Trap, Log}
use Rattle.clobber_pass.specs.declared.topic.Topic.{Topic}
use Rattle.clobber_pass.specs.Row.{word}
use Rattle.clobber_pass.specs.inside.Row.{after_row}
use Rattle.clobber_pass.specs.Sweep.{row_in}

abbrev pub exits_of : List (List (List ℕ)) → ℕ → List (List ℕ)
exits_of exits g = slice_index_or exits g []

-- what a called function's returns record in a slot, from one column of its entry
abbrev pub exit : List (List ℕ) → ℕ → ℕ → ℕ
exit exits column s = word (row_in exits column) s

-- the same, as far as the call records one slot
abbrev pub comes : List (List ℕ) → List ℕ → ℕ → ℕ → ℕ → ℕ
comes exits row column at_call s = bit_and (exit exits column s) (word row at_call)

-- the same, from the arguments, whose columns begin at `column`
abbrev pub from_args : List (List ℕ) → List ℕ → ℕ → List ℕ → ℕ → ℕ → ℕ
from_args exits row column [] s bits = bits
from_args exits row column (a ∷ args) s bits =
    from_args exits row (column + 1) args s (bit_or bits (comes exits row column (a + 2) s))

-- the same, from everything that the call records
abbrev pub gather : List (List ℕ) → List ℕ → List ℕ → ℕ → ℕ
gather exits row args s = from_args exits row 2 args s
    (bit_or (comes exits row 0 0 s) (comes exits row 1 1 s))

-- a register that was passed has what its first parameter has at the return; any other has what it
-- had, if the function returns
abbrev pub passed_on : List (List ℕ) → List ℕ → List ℕ → ℕ → Option ℕ → ℕ
passed_on exits row args s None = bit_and (exit exits 0 0) (word row s)
passed_on exits row args s (Some j) = gather exits row args (j + 2)

abbrev pub register_after : List (List ℕ) → ℕ → List ℕ → List ℕ → ℕ → ℕ
register_after exits to args row r = if r == to then gather exits row args 0
    else passed_on exits row args (r + 2) (position (λ a. a == r) args)

-- the word of a slot after a call
abbrev pub slot_after : List (List ℕ) → ℕ → List ℕ → List ℕ → ℕ → ℕ
slot_after exits to args row s = if nat_lt s 2 then gather exits row args s
    else register_after exits to args row (s - 2)

-- the words of the slots from s on
abbrev pub call_from : List (List ℕ) → ℕ → List ℕ → List ℕ → ℕ → List ℕ → List ℕ
call_from exits to args row s [] = []
call_from exits to args row s (w ∷ ws) =
    slot_after exits to args row s ∷ call_from exits to args row (s + 1) ws

-- the row after an instruction, at the next place
abbrev pub next_row : Topic → List (List (List ℕ)) → Instruction → List ℕ → List ℕ
next_row topic exits (Jump place) row = replicate (length row) 0
next_row topic exits (Return from) row = replicate (length row) 0
next_row topic exits (Trap kind) row = replicate (length row) 0
next_row topic exits (Call to g args) row = call_from (exits_of exits g) to args row 0 row
next_row topic exits (Const to v) row = after_row topic (Const to v) row
next_row topic exits (Copy to from) row = after_row topic (Copy to from) row
next_row topic exits (Bin op to left right) row = after_row topic (Bin op to left right) row
next_row topic exits (Branch on place) row = row
next_row topic exits (Load to t) row = after_row topic (Load to t) row
next_row topic exits (Store t from line) row = after_row topic (Store t from line) row
next_row topic exits (New to kind log_fill line) row =
    after_row topic (New to kind log_fill line) row
next_row topic exits (Free from kind line) row = after_row topic (Free from kind line) row
next_row topic exits Tick row = row
next_row topic exits (Log t) row = row

-- the other place to which an instruction leads: a jump's target, or for a return the place after
-- the function's last
abbrev pub jump_target : ℕ → Instruction → Option ℕ
jump_target end (Jump place) = Some place
jump_target end (Branch on place) = Some place
jump_target end (Return from) = Some end
jump_target end _ = None

-- a row joined with another
abbrev pub or_from : List ℕ → ℕ → List ℕ → List ℕ
or_from more s [] = []
or_from more s (w ∷ ws) = bit_or w (word more s) ∷ or_from more (s + 1) ws

-- the same for a table's row, which becomes the other if it is empty
abbrev pub row_joined : List ℕ → List ℕ → List ℕ
row_joined [] more = more
row_joined (w ∷ ws) more = or_from more 0 (w ∷ ws)

abbrev pub join_in : List (List ℕ) → ℕ → List ℕ → List (List ℕ)
join_in rows p row = slice_set rows p (row_joined (row_in rows p) row)

-- if a table has a row for a place, what reaches the place is joined to it, and the joined row goes
-- on
abbrev pub meet_in : List (List ℕ) → ℕ → List ℕ → List (List ℕ)
meet_in rows p row = slice_set rows p (or_from row 0 (row_in rows p))

abbrev pub row_or : List ℕ → List ℕ → List ℕ
row_or [] row = row
row_or (w ∷ ws) row = w ∷ ws

abbrev pub here_in : List (List ℕ) → ℕ → List ℕ → List ℕ
here_in rows p row = row_or (row_in (meet_in rows p row) p) row

abbrev pub rows_led : List (List ℕ) → Option ℕ → List ℕ → List (List ℕ)
rows_led rows None row = rows
rows_led rows (Some q) row = join_in rows q row

-- the table after a sweep from a place on, which a row reaches
abbrev pub swept : Topic → List (List (List ℕ)) → ℕ → List (List ℕ) → List ℕ → ℕ → List Instruction
    → List (List ℕ)
swept topic exits end rows row p [] = rows
swept topic exits end rows row p (i ∷ is) =
    swept topic exits end (rows_led (meet_in rows p row) (jump_target end i) (here_in rows p row))
    (next_row topic exits i (here_in rows p row)) (p + 1) is
