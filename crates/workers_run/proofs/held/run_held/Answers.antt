use Rattle.std.proofs.Common.{ap, refl, ◌∙◌, ◌*◌, List, subst}
use Rattle.std.specs.Io.KnownBytes.{Appends}
use Rattle.pmem.specs.Device.{Device}
use Rattle.pmem.proofs.Refused.{all_on}
use Rattle.pool_layout.specs.Sizes.{pool_lines}
use Rattle.file_pmem.specs.Mirror.{file_device}
use Rattle.session_run.proofs.Holding.{opened_mirror, same_device}
use Rattle.workers_session.specs.declared.line.WorkersLine.{WorkersLine}
use Rattle.workers_session.specs.WorkersCommands.{scene_of}
use Rattle.workers_run.specs.WorkersRan.{lines_text}
use Rattle.workers_run.specs.WorkersHeld.{EndsAt}
use Rattle.workers_run.proofs.WorkersHolding.{plays_counted, opens_crew, held_ran, held_broken}
use Rattle.workers_run.proofs.WorkersHolding.{held_starved}
use Rattle.workers_run.proofs.held.run_held.Goals as goal

pub wake-requires : goal.wake-requires
wake-requires g c =
    let memory = g.N.Lines.memory in
    let d : Device = file_device memory c.args.dev.now in
    let e : Device = file_device memory c.open_lines.new.dev in
    opened_mirror (g.F.LineFile.content c.args.file) _ (memory c.open_lines.new.dev.lines)
    (memory c.hold.new.self.lines) _ c.args.words.now d e c.hold.ensures.shown
    (ap memory c.hold.ensures.lines) refl refl
    (c.in-Ok-open_lines.ensures.lines ∙ c.crew_lines.ensures.value)
    (plays_counted c.crew_lines.result _ c.args.words.now d e c.crew_lines.ensures.value
    c.in-Ok-open_lines.ensures.done)
    c.requires.holds c.know.ensures.marks

pub resume-requires-clause-on : goal.resume-requires-clause-on
resume-requires-clause-on g c =
    ap (λ s. s.on) (c.wake.ensures.switch ∙ c.hold.ensures.switch)
    ∙ all_on _ _ _ c.in-Ok-open_lines.ensures.done

pub returns-in_default-resume-clause-ran : goal.returns-in_default-resume-clause-ran
returns-in_default-resume-clause-ran g c =
    let memory = g.N.Lines.memory in
    let p = c.args.program.now in
    let w = g.K.Sink.written c.args.out.now in
    let d : Device = file_device memory c.args.dev.now in
    let o : Device = file_device memory c.open_lines.new.dev in
    let e : Device = file_device memory c.wake.new.self in
    let b : Device = file_device memory c.resume.new.dev in
    let resumes = c.in_default-resume.ensures.resumes in
    let same = same_device memory c.open_lines.new.dev c.wake.new.self
    (c.wake.ensures.lines ∙ c.hold.ensures.lines)
    (c.wake.ensures.switch ∙ c.hold.ensures.switch) in
    held_starved p c.args.count c.args.commands.now c.args.words.now c.resume.new.dev.link.state w w
    d b c.args.steps.now c.resume.new.steps resumes.0 c.resume.new.self
    (opens_crew p c.args.count _ c.args.words.now d o e
    c.args.steps.now resumes.0 (scene_of c.resume.new.self b c.resume.new.steps) same
    c.in-Ok.ensures.count
    (plays_counted c.crew_lines.result (pool_lines p.image.parts.sizes * c.args.count)
    c.args.words.now d o c.crew_lines.ensures.value c.in-Ok-open_lines.ensures.done) resumes.2)
    refl

pub returns-in-Err-clause-ran : goal.returns-in-Err-clause-ran
returns-in-Err-clause-ran g c =
    let memory = g.N.Lines.memory in
    let p = c.args.program.now in
    let w = g.K.Sink.written c.args.out.now in
    let v = g.K.Sink.written c.put_kept.new.out in
    let d : Device = file_device memory c.args.dev.now in
    let o : Device = file_device memory c.open_lines.new.dev in
    let e : Device = file_device memory c.wake.new.self in
    let b : Device = file_device memory c.resume.new.dev in
    let resumes = c.in-Some.ensures.resumes in
    let same = same_device memory c.open_lines.new.dev c.wake.new.self
    (c.wake.ensures.lines ∙ c.hold.ensures.lines)
    (c.wake.ensures.switch ∙ c.hold.ensures.switch) in
    held_broken p c.args.count c.args.commands.now c.args.words.now c.resume.new.dev.link.state w v
    d b c.args.steps.now c.resume.new.steps resumes.0 c.in-Err.why c.resume.new.self
    (opens_crew p c.args.count _ c.args.words.now d o e
    c.args.steps.now resumes.0 (scene_of c.resume.new.self b c.resume.new.steps) same
    c.in-Ok.ensures.count
    (plays_counted c.crew_lines.result (pool_lines p.image.parts.sizes * c.args.count)
    c.args.words.now d o c.crew_lines.ensures.value c.in-Ok-open_lines.ensures.done) resumes.2)
    (subst
    (λ (l : List WorkersLine). EndsAt c.in-Err.why c.resume.new.dev.link.state w v (lines_text l))
    (c.as_slice-2.ensures ∙ resumes.1) c.in-Err.ensures.broken)

pub returns-clause-ran : goal.returns-clause-ran
returns-clause-ran g c =
    let memory = g.N.Lines.memory in
    let p = c.args.program.now in
    let w = g.K.Sink.written c.args.out.now in
    let v = g.K.Sink.written c.put_kept.new.out in
    let d : Device = file_device memory c.args.dev.now in
    let o : Device = file_device memory c.open_lines.new.dev in
    let e : Device = file_device memory c.wake.new.self in
    let b : Device = file_device memory c.resume.new.dev in
    let x = scene_of c.resume.new.self b c.resume.new.steps in
    let resumes = c.in-Some.ensures.resumes in
    let same = same_device memory c.open_lines.new.dev c.wake.new.self
    (c.wake.ensures.lines ∙ c.hold.ensures.lines)
    (c.wake.ensures.switch ∙ c.hold.ensures.switch) in
    held_ran p c.args.count c.args.commands.now c.args.words.now c.answer_held.new.dev.link.state w
    (g.K.Sink.written c.answer_held.new.out) d (file_device memory c.answer_held.new.dev)
    c.args.steps.now c.answer_held.new.steps resumes.0 c.answer_held.result x v
    c.answer_held.new.session
    (opens_crew p c.args.count _ c.args.words.now d o e
    c.args.steps.now resumes.0 x same c.in-Ok.ensures.count
    (plays_counted c.crew_lines.result (pool_lines p.image.parts.sizes * c.args.count)
    c.args.words.now d o c.crew_lines.ensures.value c.in-Ok-open_lines.ensures.done) resumes.2)
    (subst (λ (l : List WorkersLine). Appends w v (lines_text l))
    (c.as_slice-2.ensures ∙ resumes.1) c.in_default-put_kept.ensures.whole)
    c.answer_held.ensures.whole c.answer_held.ensures.broken c.answer_held.ensures.kept
