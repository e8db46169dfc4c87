-- Where things are in code with its logs. The instruction at a place, with its log, begins at
-- another place; the instruction itself comes after the log, if it has one. A site moves with its
-- instruction, and a state of a run with the places of its open functions.
use Rattle.std.specs.Prelude.{ℕ, ◌+◌, List, [], ◌∷◌, length, Option, Some, None, slice_get}
use Rattle.std.specs.Option.{option_map_or}
use Rattle.ir.specs.declared.instruction.Instruction.{Instruction}
use Rattle.ir.specs.declared.function.IrFunction.{IrFunction}
use Rattle.ir.specs.declared.site.Site.{Site}
use Rattle.ir.specs.Places.{instruction_at}
use Rattle.clobber_pass.specs.declared.marking.MarkTable.{MarkTable}
use Rattle.instrument.specs.Insert.{logs, places_from, flagged, flags_from}
use Rattle.ir.specs.Moving.{place_in}
use Rattle.code_meaning.specs.Deeds.{Deed, Reads, Writes, Heads}

abbrev pub code_of_function : List IrFunction → ℕ → List Instruction
code_of_function functions f = option_map_or (λ (u : IrFunction). u.code) (slice_get functions f) []

-- the new places at which the instructions of function f begin, with their logs
abbrev pub places_of : MarkTable → List IrFunction → (f : ℕ) → List ℕ
places_of marks functions f =
    places_from (flags_from marks f 0 (code_of_function functions f)) 0 0
    (code_of_function functions f)

-- the new place at which the instruction at place p of function f begins, with its log
abbrev pub begins : MarkTable → List IrFunction → (f p : ℕ) → ℕ
begins marks functions f p = place_in (places_of marks functions f) p

abbrev pub logs_before : MarkTable → (f p : ℕ) → Option Instruction → List Instruction
logs_before marks f p None = []
logs_before marks f p (Some i) = logs (flagged marks f p i) i

-- the new place of the instruction itself
abbrev pub stands : MarkTable → List IrFunction → (f p : ℕ) → ℕ
stands marks functions f p = begins marks functions f p
    + length (logs_before marks f p (instruction_at functions f p))

abbrev pub moved_site : MarkTable → List IrFunction → Site → Site
moved_site marks functions s =
    record {
      function = s.function;
      place = stands marks functions s.function s.place;
      fill = s.fill;
    }

abbrev pub moved_deed : MarkTable → List IrFunction → Deed → Deed
moved_deed marks functions (Reads u) = Reads u
moved_deed marks functions (Writes s u v) = Writes (moved_site marks functions s) u v
moved_deed marks functions (Heads s q v) = Heads (moved_site marks functions s) q v

abbrev pub moved_deeds : MarkTable → List IrFunction → List Deed → List Deed
moved_deeds marks functions [] = []
moved_deeds marks functions (d ∷ ds) = moved_deed marks functions d ∷ moved_deeds marks functions ds
