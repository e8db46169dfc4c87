use Rattle.std.proofs.Common.{ap}
use Rattle.session_run.proofs.Holding.{made_mirror}
use Rattle.workers_run.proofs.held.run_new.Goals as goal

pub wake-requires : goal.wake-requires
wake-requires g c =
    let memory = g.N.Lines.memory in
    made_mirror (g.F.LineFile.content c.args.file) _ (memory c.args.dev.now.lines)
    (memory c.hold.new.self.lines) c.hold.ensures.shown (ap memory c.hold.ensures.lines)
    c.requires.holds c.know.ensures.marks
