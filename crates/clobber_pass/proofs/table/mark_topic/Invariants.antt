use Rattle.std.proofs.Common.{◌<◌, ℕ}
use Rattle.clobber_pass.specs.inside.Marking.{Marks, KeepsRows, Marked}
use Rattle.clobber_pass.proofs.table.mark_topic.Given as goal

abbrev pub invariant-loop-function : goal.invariant-loop-function
invariant-loop-function l = Marks l.ir.functions l.table × KeepsRows l.initial.table l.table
    × ((f : ℕ) → f < l.function → Marked l.ir.functions l.topic l.table f)
