use Rattle.std.proofs.Common.{ap, ◌∙◌}
use Rattle.file_pmem.specs.Mirror.{file_shown}
use Rattle.file_pmem.proofs.Mirroring.{zero_mirror}
use Rattle.file_pmem.proofs.mirror.FilePmem.begin.Goals as goal

pub wake-requires : goal.wake-requires
wake-requires g c =
    zero_mirror (g.F.LineFile.content c.args.file)
    (file_shown g.F.LineFile.content c.hold.new.self)
    (g.L.Lines.memory c.hold.new.self.lines) c.args.lines c.requires.zero c.hold.ensures.shown
    (ap g.L.Lines.memory c.hold.ensures.lines ∙ c.in_ok-blank.ensures.blank)
