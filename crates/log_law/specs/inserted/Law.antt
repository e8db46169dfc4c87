-- Code with its logs does what the code does: it has the same end, and the same loads and stores,
-- at moved sites. It takes at most twice the steps. If the marks say that a store is logged, a log
-- of its target comes right before it; the flag of a new says whether its fill is logged.
use Rattle.std.specs.Prelude.{◌≡◌, ◌⊎◌, ◌*◌, ◌+◌, ℕ, suc, ℤ, List, Bool, true, false, Some}
use Rattle.pool_map.specs.PoolMap.{PoolMap}
use Rattle.ir.specs.declared.instruction.Target.{Target}
use Rattle.ir.specs.declared.instruction.Instruction.{Instruction}
use Rattle.ir.specs.declared.instruction.Instruction.TheVariants.{Store, New, Log}
use Rattle.ir.specs.declared.function.Ir.{Ir}
use Rattle.ir.specs.Places.{instruction_at}
use Rattle.ir.specs.Moving.{is_log}
use Rattle.clobber_pass.specs.declared.marking.MarkTable.{MarkTable}
use Rattle.clobber_pass.specs.Logged.{is_logged}
use Rattle.instrument.specs.Insert.{flagged, led, logged_program}
use Rattle.code_meaning.specs.Code.{CodeEnd, Ended, Trapped, Unfinished, Stuck, code_start, exec}
use Rattle.code_meaning.specs.Deeds.{deeds, site}
use Rattle.log_law.specs.inserted.Moved.{places_of, begins, stands, moved_deeds}

-- the run gave a word or trapped
abbrev pub HasResult : CodeEnd → Type 0
HasResult (Ended w v t) = Unit {0}
HasResult (Trapped k) = Unit {0}
HasResult Unfinished = ⊥
HasResult Stuck = ⊥

abbrev pub LoggedEndLaw : Type 0
LoggedEndLaw = (marks : MarkTable) (ir : Ir) (f : ℕ) (args : List ℤ) (w : PoolMap) (t k : ℕ) →
    HasResult (exec ir k (code_start f args w t))
    → exec (logged_program marks ir) (2 * k) (code_start f args w t)
    ≡ exec ir k (code_start f args w t)

abbrev pub MovedDeedsLaw : Type 0
MovedDeedsLaw = (marks : MarkTable) (ir : Ir) (f : ℕ) (args : List ℤ) (w : PoolMap) (t k : ℕ) →
    HasResult (exec ir k (code_start f args w t))
    → deeds (logged_program marks ir) (2 * k) (code_start f args w t) ≡ moved_deeds marks
    ir.functions (deeds ir k (code_start f args w t))

-- a store that the marks name comes right after a log of its target
abbrev pub LoggedStoreLaw : Type 0
LoggedStoreLaw = (marks : MarkTable) (ir : Ir) (f p : ℕ) (x : Target) (from line : ℕ) →
    instruction_at ir.functions f p ≡ Some (Store x from line)
    → is_logged marks (site f p false) ≡ true →
    (stands marks ir.functions f p ≡ begins marks ir.functions f p + 1)
    × (instruction_at (logged_program marks ir).functions f (begins marks ir.functions f p)
    ≡ Some (Log x))
    × (instruction_at (logged_program marks ir).functions f (stands marks ir.functions f p)
    ≡ Some (Store x from line))

-- a new has the flag of its fill
abbrev pub FillLaw : Type 0
FillLaw = (marks : MarkTable) (ir : Ir) (f p to kind line : ℕ) (flag : Bool) →
    instruction_at ir.functions f p ≡ Some (New to kind flag line) →
    instruction_at (logged_program marks ir).functions f (stands marks ir.functions f p)
    ≡ Some (New to kind (is_logged marks (site f p true)) line)

-- each log stands right before a store that the marks name; each other instruction stands where an
-- instruction of the code moved to, with its jumps and its flag changed as they should be
abbrev pub OriginLaw : Type 0
OriginLaw = (marks : MarkTable) (ir : Ir) (f q : ℕ) (j : Instruction) →
    instruction_at (logged_program marks ir).functions f q ≡ Some j →
    ((p : ℕ) × (x : Target) × (from : ℕ) × (line : ℕ) × (j ≡ Log x)
    × (instruction_at ir.functions f p ≡ Some (Store x from line))
    × (is_logged marks (site f p false) ≡ true) × (q ≡ begins marks ir.functions f p)
    × (instruction_at (logged_program marks ir).functions f (suc q) ≡ Some (Store x from line)))
    ⊎ ((p : ℕ) × (i : Instruction) × (instruction_at ir.functions f p ≡ Some i)
    × (is_log i ≡ false) × (q ≡ stands marks ir.functions f p)
    × (j ≡ led (places_of marks ir.functions f) (flagged marks f p i) i))
