use Rattle.std.proofs.Common.{sym, subst}
use Rattle.pool_layout.specs.Sizes.{heap_words}
use Rattle.pm_machine.specs.Machine.{State}
use Rattle.pm_machine.specs.Runs.{AreLines}
use Rattle.pool_workers.specs.Task.{IsTask}
use Rattle.pool_workers.proofs.Turns.{going_task, sealed_run}
use Rattle.pool_workers.proofs.turning.sealed.Goals as goal

pub returns-clause-run : goal.returns-clause-run
returns-clause-run g c =
    sealed_run c.args.image.now c.args.tx c.args.machine c.begin.new.self c.in-Some.attempt
    c.in-Some-count.count c.most.result c.going.result
    (g.P.PmemWork.device c.args.dev.now).cache _ _ c.sizes.ensures c.sizes-2.ensures
    c.in-Some.ensures.value c.in-Some-count.ensures.value c.most.ensures
    c.begin.ensures.processor c.begin.ensures.records c.going.ensures.going

pub returns-clause-task : goal.returns-clause-task
returns-clause-task g c =
    let image = c.args.image.now in
    let lines = AreLines (heap_words image.parts.sizes) in
    subst (IsTask image) (sym c.going.ensures.going)
    (going_task image c.args.tx c.begin.new.self c.in-Some.attempt c.most.result
    (subst (λ (s : State). lines s.dirty) (sym c.begin.ensures.processor)
    (subst lines (sym c.requires.clean) tt)) c.in-Some.ensures.fits)
