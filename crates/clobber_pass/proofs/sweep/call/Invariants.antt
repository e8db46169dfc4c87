use Rattle.std.proofs.Common.{◌≡◌, ◌++◌, drop}
use Rattle.clobber_pass.specs.inside.Sweep.{exits_of, call_from}
use Rattle.clobber_pass.proofs.sweep.call.Given as goal

abbrev pub invariant-loop-slot : goal.invariant-loop-slot
invariant-loop-slot l = l.new.items ++ call_from (exits_of l.exits l.function) l.to l.args l.row
    l.slot (drop l.slot l.row) ≡ call_from (exits_of l.exits l.function) l.to l.args l.row 0 l.row
