use Rattle.std.proofs.Common.{◌≡◌, ◌+◌, drop}
use Rattle.clobber_pass.specs.inside.Sweep.{exits_of, from_args, gather}
use Rattle.clobber_pass.proofs.sweep.gather.Given as goal

abbrev pub invariant-loop-index : goal.invariant-loop-index
invariant-loop-index l = from_args (exits_of l.exits l.function) l.row (l.index + 2)
    (drop l.index l.args) l.slot l.bits ≡ gather (exits_of l.exits l.function) l.row l.args l.slot
