use Rattle.std.proofs.Common.{◌≡◌, drop}
use Rattle.cnvm_script.specs.Commands.{rise_from}
use Rattle.cnvm_script.proofs.read.rise.Given as goal

abbrev pub invariant-loop-pick : goal.invariant-loop-pick
invariant-loop-pick l = rise_from l.line (drop l.pick-index l.others)
    ≡ rise_from l.initial.line l.others
