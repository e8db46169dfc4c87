use Rattle.std.proofs.Common.{◌≡◌, ◌++◌, drop}
use Rattle.clobber_pass.specs.inside.Carrying.{grown_from}
use Rattle.clobber_pass.proofs.growth.Growth.push_row.Given as goal

abbrev pub invariant-loop-slot : goal.invariant-loop-slot
invariant-loop-slot l = l.self ++ grown_from l.place l.slot (drop l.slot l.row)
    ≡ l.initial.self ++ grown_from l.place 0 l.row
