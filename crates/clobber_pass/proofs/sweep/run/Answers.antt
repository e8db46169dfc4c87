use Rattle.std.proofs.Common.{subst, sym}
use Rattle.clobber_pass.specs.inside.Closed.{Made}
use Rattle.clobber_pass.specs.inside.Closed.Reached.{none, again}
use Rattle.clobber_pass.proofs.sweep.run.Goals as goal

pub loop-back-init : goal.loop-back-init
loop-back-init c = subst (Made c.args.topic c.args.exits.now c.args.entry.now c.args.code.now)
    (sym c.in_ok-rows.ensures) none

pub carry-requires : goal.carry-requires
carry-requires c = subst (Made c.args.topic c.args.exits.now c.args.entry.now c.args.code.now)
    (sym c.in_ok-sweep.ensures.rows) (again c.loop-back.rows c.loop-back.invariant)
