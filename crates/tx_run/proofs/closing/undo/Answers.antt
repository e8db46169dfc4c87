use Rattle.std.proofs.Common.{◌∙◌}
use Rattle.pmem.specs.declared.answer.Refusal.TheVariants as refusal
use Rattle.tx_run.proofs.RunParts.{undo_cut, undo_of, undo_on}
use Rattle.tx_run.proofs.closing.undo.Goals as goal

pub retire_still-requires-clause-on : goal.retire_still-requires-clause-on
retire_still-requires-clause-on g c =
    let device = g.P.PmemWork.device in
    undo_on c.args.sizes.now (device c.args.dev.now) (device c.restore.new.dev)
    (device c.restore.new.dev) (c.in-Done.ensures.played c.requires.on) ∙ c.requires.on

pub returns-in-Done-clause-played : goal.returns-in-Done-clause-played
returns-in-Done-clause-played g c =
    let device = g.P.PmemWork.device in
    undo_of c.args.sizes.now (device c.args.dev.now) (device c.retire_still.new.dev)
    (device c.restore.new.dev)
    (c.in-Done.ensures.played c.requires.on) c.retire_still.result c.retire_still.ensures.played

pub returns-in-Off-clause-played : goal.returns-in-Off-clause-played
returns-in-Off-clause-played g c =
    let device = g.P.PmemWork.device in
    undo_cut c.args.sizes.now (device c.args.dev.now)
    (device c.restore.new.dev) refusal.Off (c.in-Off.ensures.played c.requires.on)

pub returns-in-Failed-clause-played : goal.returns-in-Failed-clause-played
returns-in-Failed-clause-played g c =
    let device = g.P.PmemWork.device in
    undo_cut c.args.sizes.now (device c.args.dev.now)
    (device c.restore.new.dev) refusal.Failed (c.in-Failed.ensures.played c.requires.on)

pub returns-in-NoMemory-clause-played : goal.returns-in-NoMemory-clause-played
returns-in-NoMemory-clause-played g c =
    let device = g.P.PmemWork.device in
    undo_cut c.args.sizes.now (device c.args.dev.now)
    (device c.restore.new.dev) refusal.NoMemory (c.in-NoMemory.ensures.played c.requires.on)
