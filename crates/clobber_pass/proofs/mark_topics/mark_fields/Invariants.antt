use Rattle.std.proofs.Common.{length}
use Rattle.clobber_pass.specs.inside.Marking.{Marks, KeepsRows}
use Rattle.clobber_pass.specs.inside.Classes.{OthersMarked}
use Rattle.clobber_pass.proofs.mark_topics.mark_fields.Given as goal

abbrev pub invariant-loop-left : goal.invariant-loop-left
invariant-loop-left l = Marks l.ir.functions l.table × KeepsRows l.initial.table l.table
    × OthersMarked l.ir.functions l.fields l.left l.table

abbrev pub decreases-loop-left : goal.decreases-loop-left
decreases-loop-left l = length l.left
