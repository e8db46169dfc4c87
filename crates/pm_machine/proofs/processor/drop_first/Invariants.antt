use Rattle.std.proofs.Common.{◌≡◌, drop}
use Rattle.pm_machine.proofs.processor.drop_first.Given as goal

abbrev pub invariant-loop : goal.invariant-loop
invariant-loop l = l.lines.keys ≡ drop l.counter l.initial.lines.keys
