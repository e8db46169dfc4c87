use Rattle.clobber_pass.specs.inside.Marking.{Marks, KeepsRows}
use Rattle.clobber_pass.proofs.marked.AllTopics.{RootsBelow}
use Rattle.clobber_pass.proofs.mark_topics.mark_roots.Given as goal

abbrev pub invariant-loop-index : goal.invariant-loop-index
invariant-loop-index l = Marks l.ir.functions l.table × KeepsRows l.initial.table l.table
    × RootsBelow l.ir.functions l.roots l.table l.index
