use Rattle.std.proofs.Common.{◌<◌, ℕ}
use Rattle.clobber_pass.specs.inside.Flow.{Entries, StartsAt}
use Rattle.clobber_pass.proofs.flow.starts.Given as goal

abbrev pub invariant-loop-function : goal.invariant-loop-function
invariant-loop-function l = Entries l.ir.functions l.fn.topic l.entries
    × ((f : ℕ) → f < l.function → StartsAt l.ir.functions l.fn.topic l.entries f)
