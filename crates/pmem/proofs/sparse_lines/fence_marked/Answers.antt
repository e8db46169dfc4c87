use Rattle.pmem.proofs.Sparses.{fenced_first, fence_or_all}
use Rattle.pmem.proofs.sparse_lines.fence_marked.Goals as goal

pub returns-then-unlisted : goal.returns-then-unlisted
returns-then-unlisted c = fenced_first c.args.kept.now c.fence_all.new.kept c.args.count
    c.requires.few c.fence_all.ensures

pub returns-else-unlisted : goal.returns-else-unlisted
returns-else-unlisted c = fence_or_all c.args.unlisted c.args.kept.now c.fence_listed.new.kept
    c.args.lines.now c.if-unlisted.false c.requires.listed c.requires.more
    c.fence_listed.ensures
