use Rattle.std.proofs.Common.{rules, ◌≡◌, ◌<◌, ◌-◌, ◌^◌, min, length}
use Rattle.c_types.specs.Shapes.{transactions_of}
use Rattle.session_run.proofs.Raging.{rages_part}
use Rattle.session_run.proofs.storm.rounds.Goals as goal

pub returns-clause-part : goal.returns-clause-part
returns-clause-part g c =
    let same : c.new-storm.result ≡ min c.args.order.start (2 ^ 32 - 1) = search rules in
    let some : 0 < length (transactions_of c.args.program.now.typed) = search rules in
    rages_part c.run_rounds.result c.args.program.now c.args.order c.new-storm.result
    c.args.tally.now c.args.session.now (g.P.PmemWork.device c.args.dev.now)
    (g.P.PmemWork.device c.run_rounds.new.dev) c.args.steps.now c.run_rounds.new.steps same some
    c.run_rounds.ensures.part
