use Rattle.std.proofs.Common.{sym}
use Rattle.clobber_pass.proofs.derived.Carrying.{arrived_carries}
use Rattle.clobber_pass.proofs.carry.hand_on.Goals as goal

pub returns-clause-carries : goal.returns-clause-carries
returns-clause-carries c = arrived_carries c.args.place c.args.slot c.word.result c.args.row.now
    c.args.rows.now c.arrive.new.rows c.args.growth.now c.arrive.new.growth
    c.in_ok-arrive.ensures.arrived (sym c.word.ensures)
