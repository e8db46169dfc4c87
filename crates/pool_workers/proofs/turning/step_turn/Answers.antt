use Rattle.std.proofs.Common.{◌-◌, subst, sym}
use Rattle.pool_workers.specs.Task.{IsTask}
use Rattle.pool_workers.proofs.Turns.{on_task, on_turned, over_turned}
use Rattle.pool_workers.proofs.turning.step_turn.Goals as goal

pub returns-in-Ok-On-clause-task : goal.returns-in-Ok-On-clause-task
returns-in-Ok-On-clause-task g c =
    let d = g.P.PmemWork.device c.args.dev.now in
    let b = g.P.PmemWork.device c.step_on.new.dev in
    subst (IsTask c.args.image.now) (sym (c.goes_on.ensures.left c.args.tx c.args.attempt))
    (on_task c.args.image.now c.args.tx c.args.machine.now c.step_on.new.self c.args.attempt
    c.args.left.now d b c.in-Ok-On.field-0 c.requires.task c.in-Ok-On.field-0-is
    c.in-Ok-On.ensures.meaning (c.args.left.now - 1))

pub returns-in-Ok-On-clause-turned : goal.returns-in-Ok-On-clause-turned
returns-in-Ok-On-clause-turned g c =
    on_turned c.args.image.now c.args.tx c.args.machine.now c.step_on.new.self c.args.attempt
    c.args.left.now (g.P.PmemWork.device c.args.dev.now) (g.P.PmemWork.device c.step_on.new.dev)
    c.in-Ok-On.field-0 c.goes_on.result c.in-Ok-On.field-0-is c.in-Ok-On.ensures.meaning
    c.in-Ok-On.ensures.done c.goes_on.ensures.answer (c.goes_on.ensures.left c.args.tx
    c.args.attempt)

pub returns-in-Ok-Ended-clause-turned : goal.returns-in-Ok-Ended-clause-turned
returns-in-Ok-Ended-clause-turned g c =
    over_turned c.args.image.now c.args.tx c.args.machine.now c.step_on.new.self c.args.attempt
    c.args.left.now (g.P.PmemWork.device c.args.dev.now) (g.P.PmemWork.device c.step_on.new.dev)
    c.in-Ok-Ended.field-0 c.in-Ok-Ended.end c.logged.result c.in-Ok-Ended.field-0-is
    c.in-Ok-Ended.ensures.meaning c.in-Ok-Ended.ensures.ended c.in-Ok-Ended.ensures.done
    c.logged.ensures
