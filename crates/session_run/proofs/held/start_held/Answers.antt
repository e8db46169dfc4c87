use Rattle.std.proofs.Common.{ap, refl, ◌∙◌}
use Rattle.pmem.specs.Device.{Device}
use Rattle.pmem.proofs.Refused.{all_on}
use Rattle.file_pmem.specs.Mirror.{file_device}
use Rattle.pool_layout.specs.Sizes.{pool_lines}
use Rattle.pool_layout.specs.declared.limits.Sizes.{Sizes}
use Rattle.session_run.proofs.Holding.{opened_mirror, opens_held, same_device, plays_sized}
use Rattle.session_run.proofs.held.start_held.Goals as goal

pub wake-requires : goal.wake-requires
wake-requires g c =
    let memory = g.N.Lines.memory in
    let z : Sizes = c.args.program.now.image.parts.sizes in
    let d : Device = file_device memory c.args.dev.now in
    let e : Device = file_device memory c.open_pool.new.dev in
    opened_mirror (g.F.LineFile.content c.args.file) _ (memory c.open_pool.new.dev.lines)
    (memory c.hold.new.self.lines) (pool_lines z) c.args.words.now d e c.hold.ensures.shown
    (ap memory c.hold.ensures.lines) refl refl
    (c.in-Ok.ensures.lines ∙ ap pool_lines c.sizes.ensures)
    (plays_sized c.sizes.result.now z c.args.words.now d e c.sizes.ensures c.in-Ok.ensures.done)
    c.requires.holds c.know.ensures.marks

pub resume-requires-clause-on : goal.resume-requires-clause-on
resume-requires-clause-on g c =
    ap (λ s. s.on) (c.wake.ensures.switch ∙ c.hold.ensures.switch)
    ∙ all_on _ _ _ c.in-Ok.ensures.done

pub returns-clause-opens : goal.returns-clause-opens
returns-clause-opens g c =
    let memory = g.N.Lines.memory in
    let z : Sizes = c.args.program.now.image.parts.sizes in
    let d : Device = file_device memory c.args.dev.now in
    let o : Device = file_device memory c.open_pool.new.dev in
    let e : Device = file_device memory c.wake.new.self in
    let b : Device = file_device memory c.resume.new.dev in
    let same = same_device memory c.open_pool.new.dev c.wake.new.self
    (c.wake.ensures.lines ∙ c.hold.ensures.lines)
    (c.wake.ensures.switch ∙ c.hold.ensures.switch) in
    opens_held c.args.program.now c.args.words.now d o e b c.resume.result.1 c.resume.result.0
    c.args.steps.now c.resume.new.steps same
    (plays_sized c.sizes.result.now z c.args.words.now d o c.sizes.ensures c.in-Ok.ensures.done)
    c.resume.ensures.recovers
