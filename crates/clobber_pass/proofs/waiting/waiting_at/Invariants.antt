use Rattle.std.proofs.Common.{◌≡◌, ℕ, [], false, length}
use Rattle.clobber_pass.specs.Sweep.{row_in}
use Rattle.clobber_pass.specs.inside.Flow.{waits}
use Rattle.clobber_pass.proofs.waiting.waiting_at.Given as goal

abbrev pub invariant-loop-function : goal.invariant-loop-function
invariant-loop-function l =
    (length l.waiting.items ≡ l.function) × ((f : ℕ) → waits l.waiting.items f ≡ false
    → row_in l.entries f ≡ [])
