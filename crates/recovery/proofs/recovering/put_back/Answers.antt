use Rattle.pmem.specs.declared.answer.Refusal.TheVariants as refusal
use Rattle.recovery.proofs.BackParts.{back_of, restore_cut}
use Rattle.recovery.proofs.recovering.put_back.Goals as goal

pub returns-in-Done-clause-played : goal.returns-in-Done-clause-played
returns-in-Done-clause-played g c =
    let device = g.P.PmemWork.device in
    back_of c.args.sizes.now c.args.count c.if-count-eq0.false (device c.args.dev.now)
    (device c.reset.new.dev) (device c.restore.new.dev)
    (c.in-Done.ensures.played c.requires.on) c.reset.result c.requires.on c.reset.ensures.played

pub returns-in-Off-clause-played : goal.returns-in-Off-clause-played
returns-in-Off-clause-played g c =
    let device = g.P.PmemWork.device in
    restore_cut c.args.sizes.now c.args.count c.if-count-eq0.false (device c.args.dev.now)
    (device c.restore.new.dev) refusal.Off (c.in-Off.ensures.played c.requires.on)

pub returns-in-Failed-clause-played : goal.returns-in-Failed-clause-played
returns-in-Failed-clause-played g c =
    let device = g.P.PmemWork.device in
    restore_cut c.args.sizes.now c.args.count c.if-count-eq0.false (device c.args.dev.now)
    (device c.restore.new.dev) refusal.Failed (c.in-Failed.ensures.played c.requires.on)

pub returns-in-NoMemory-clause-played : goal.returns-in-NoMemory-clause-played
returns-in-NoMemory-clause-played g c =
    let device = g.P.PmemWork.device in
    restore_cut c.args.sizes.now c.args.count c.if-count-eq0.false (device c.args.dev.now)
    (device c.restore.new.dev) refusal.NoMemory (c.in-NoMemory.ensures.played c.requires.on)
