use Rattle.std.proofs.Common.{◌≡◌, take, drop}
use Rattle.cnvm_script.specs.Pieces.{fronted, pieces}
use Rattle.cnvm_script.proofs.cut.cut.Given as goal

abbrev pub invariant-loop-at : goal.invariant-loop-at
invariant-loop-at l = pieces l.stops l.text ≡ fronted (take l.at l.text)
    (pieces l.stops (drop l.at l.text))
