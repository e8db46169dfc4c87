use Rattle.std.proofs.Common.{ap, rules, ◌∙◌}
use Rattle.session_run.proofs.Holding.{made_mirror, new_ran, same_device}
use Rattle.session_run.proofs.held.run_new.Goals as goal

pub wake-requires : goal.wake-requires
wake-requires g c =
    let memory = g.N.Lines.memory in
    made_mirror (g.F.LineFile.content c.args.file) _ (memory c.args.dev.now.lines)
    (memory c.hold.new.self.lines) c.hold.ensures.shown (ap memory c.hold.ensures.lines)
    c.requires.holds c.know.ensures.marks

pub returns-clause-ran : goal.returns-clause-ran
returns-clause-ran g c =
    let same = same_device g.N.Lines.memory c.args.dev.now c.wake.new.self
    (c.wake.ensures.lines ∙ c.hold.ensures.lines)
    (c.wake.ensures.switch ∙ c.hold.ensures.switch) in
    new_ran c.args.program.now c.args.script.now _ c.answer_script.result _ _ _ _ _ _ _ _ _
    c.requires.ready same (search rules) c.answer_script.ensures.answered
