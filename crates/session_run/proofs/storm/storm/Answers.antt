use Rattle.session_run.proofs.Raging.{starved, storms_all, storms_part, storms_fault}
use Rattle.session_run.proofs.storm.storm.Goals as goal

pub returns-in-Ok-clause-whole : goal.returns-in-Ok-clause-whole
returns-in-Ok-clause-whole g c =
    storms_all c.args.program.now c.args.order _ _ _ _ _ _ _ _ _ _ _ _ c.new-tally.ensures
    c.in-Ok.ensures.rages c.put_counts.result c.put_counts.ensures.whole

pub returns-in-Ok-clause-part : goal.returns-in-Ok-clause-part
returns-in-Ok-clause-part g c =
    storms_part c.args.program.now c.args.order _ _ _ _ _ _ _ _ _ _ _ _ c.new-tally.ensures
    c.in-Ok.ensures.rages c.put_counts.result c.put_counts.ensures.part

pub returns-in-Ok-clause-fault : goal.returns-in-Ok-clause-fault
returns-in-Ok-clause-fault g c is =
    storms_fault c.args.program.now c.args.order _ _ _ _ _ _ _ _ _ _ _ _ c.new-tally.ensures
    c.in-Ok.ensures.rages c.put_counts.result is c.put_counts.ensures.part

pub returns-in-Err-clause-part : goal.returns-in-Err-clause-part
returns-in-Err-clause-part g c =
    starved c.args.program.now c.args.order _ _ _ _ _ _ _ c.new-tally.ensures
    c.in-Err.ensures.part
