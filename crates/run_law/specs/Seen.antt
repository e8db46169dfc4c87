-- The effects and the end of a machine's run, as the crash law sees them.
use Rattle.std.specs.Prelude.{ℕ, zero, suc, ◌+◌, ◌⊎◌, List, [], ◌∷◌, None, ℤ}
use Rattle.pool_map.specs.declared.trap.TrapKind.{TrapKind}
use Rattle.pool_map.specs.Trap.{trap_number}
use Rattle.pm_machine.specs.declared.effect.Effect.{Effect}
use Rattle.pm_machine.specs.declared.effect.Effect.TheVariants.{Loads, Scans, Stores, Logs, Flushes}
use Rattle.pm_machine.specs.declared.effect.Effect.TheVariants.{Fences, Quiet}
use Rattle.pm_machine.specs.declared.effect.End.{End}
use Rattle.pm_machine.specs.declared.effect.End.TheVariants.{Halted, Trapped}
use Rattle.pm_machine.specs.declared.records.Policy.{Policy}
use Rattle.pm_machine.specs.declared.records.Policy.TheVariants.{EndPool, RollBack}
use Rattle.pm_machine.specs.Inputs.{IsInput, IsOverwritten}
use Rattle.crash_law.specs.Due as due
use Rattle.crash_law.specs.Effects as past

-- the loads of n headers from word w on, followed by these effects
abbrev pub headers_before : (w d n : ℕ) → List past.Effect → List past.Effect
headers_before w d zero es = es
headers_before w d (suc n) es = past.Loads w ∷ headers_before (w + d) d n es

-- an effect, followed by these
abbrev pub seen_before : Effect → List past.Effect → List past.Effect
seen_before (Loads w) es = past.Loads w ∷ es
seen_before (Scans w apart n) es = headers_before w apart n es
seen_before (Stores w x) es = past.Stores w x ∷ es
seen_before (Logs w) es = past.Logs w ∷ es
seen_before (Flushes l) es = past.Still ∷ es
seen_before Fences es = past.Still ∷ es
seen_before Quiet es = past.Still ∷ es

abbrev pub seen_all : List Effect → List past.Effect
seen_all [] = []
seen_all (e ∷ es) = seen_before e (seen_all es)

-- the trace of a run: its stores, each marked as logged if the last LOG or STORE before it was a
-- LOG of its word
abbrev pub trace_in : List Effect → List due.Entry
trace_in es = past.trace_of None (seen_all es)

-- what a trap makes of a call: the pool is lost, or the call is undone, with this last value
abbrev pub trap_result : Policy → (last : ℤ) → TrapKind → due.Result
trap_result EndPool last k = due.Trapped (trap_number k)
trap_result RollBack last k = due.Undone last

abbrev pub result_of : Policy → (last : ℤ) → End → due.Result
result_of p last (Halted v) = due.Halted v
result_of p last (Trapped k) = trap_result p last k

-- the words whose first values a run must be able to restore: its inputs, and where it may be
-- rolled back each word that it overwrites
abbrev pub E : Policy → List Effect → ℕ → Type 0
E EndPool es w = IsInput es w
E RollBack es w = IsInput es w ⊎ IsOverwritten es w

-- the words that a run overwrites
abbrev pub W : List Effect → ℕ → Type 0
W es = IsOverwritten es
