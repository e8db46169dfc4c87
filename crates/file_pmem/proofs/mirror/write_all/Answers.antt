use Rattle.std.proofs.Common.{arith, ◌≡◌}
use Rattle.file_pmem.specs.Mirror.{shown}
use Rattle.file_pmem.proofs.Mirroring.{next_written, next_covered, all_mirrored}
use Rattle.file_pmem.proofs.Mirroring.{given_mirroring}
use Rattle.file_pmem.proofs.mirror.write_all.Goals as goal

pub loop-line-preserved : goal.loop-line-preserved
loop-line-preserved g c =
    let i = c.loop-line.invariant in
    let w = c.write_newest.ensures in
    let a = shown g.F.LineFile.content c.loop-line.link in
    let b = shown g.F.LineFile.content c.write_newest.new.link in
    let n = g.L.Lines.memory c.args.lines.now in (
      λ awake. i.0 (w.fresh awake),
      λ was. w.clean (i.1 was),
      next_written c.loop-line.link.state c.write_newest.new.link.state a b n c.loop-line.line
          w.wrote w.fresh i.2,
      λ m one h. next_covered c.write_newest.new.link.state a b m n c.loop-line.line w.wrote one
          (i.3 m one h),
    )

pub returns-clause-mirrored : goal.returns-clause-mirrored
returns-clause-mirrored g c = λ well was.
    let i = c.loop-line.invariant in
    let n = g.L.Lines.memory c.args.lines.now in
    let old = c.args.link.now in
    let content = g.F.LineFile.content in
    let all : c.loop-line.line ≡ n.lines =
    omega (arith, c.loop-line-test.false, c.loop-line.auto.line-end, c.count-line-end.ensures) in
    given_mirroring _ content c.sync.new.self c.give_up.new.self n c.give_up.ensures
    (all_mirrored old.state c.loop-line.link.state c.sync.new.self.state old.dirty
    c.loop-line.link.dirty c.sync.new.self.dirty (shown content old)
    (shown content c.loop-line.link) (shown content c.sync.new.self) n c.loop-line.line
    i.0 i.1 i.2 all c.sync.ensures.done c.sync.ensures.fresh c.sync.ensures.clean well was)
