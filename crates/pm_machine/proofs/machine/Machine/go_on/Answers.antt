use Rattle.pool_layout.specs.Sizes.{heap_words}
use Rattle.pm_machine.specs.Runs.{heap_in}
use Rattle.pm_machine.proofs.Range.{keeps_progress, bare_range}
use Rattle.pm_machine.proofs.machine.Machine.go_on.Goals as goal

pub perform-requires-clause-range : goal.perform-requires-clause-range
perform-requires-clause-range g c =
    let keeps = keeps_progress c.args.image.now
    (heap_in c.args.image.now.parts.sizes (g.P.PmemWork.device c.args.dev.now).cache)
    c.args.self.now.processor c.in-Ok.progress c.in-Did.effect c.step.new.self
    c.requires.dirty c.in-Did.is c.in-Ok.ensures.meaning in
    rw (c.sizes.ensures, c.bare.ensures)
    (bare_range (heap_words c.args.image.now.parts.sizes) c.in-Did.effect keeps.0)
