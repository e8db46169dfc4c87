use Rattle.std.proofs.Common.{◌∙◌}
use Rattle.std.proofs.lemmas.List.{drop_more}
use Rattle.pmem.proofs.Sparses.{fenced_next}
use Rattle.pmem.proofs.sparse_lines.fence_listed.Goals as goal

pub loop-line-preserved : goal.loop-line-preserved
loop-line-preserved c = λ q.
    fenced_next _ _ _ c.loop-line.kept c.fence.new.self
    (drop_more c.args.lines.now c.loop-line.line-index 0 c.loop-line-test.true)
    c.fence.ensures q ∙ c.loop-line.invariant q
