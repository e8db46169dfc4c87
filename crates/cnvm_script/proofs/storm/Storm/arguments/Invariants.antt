use Rattle.std.proofs.Common.{◌≡◌, ◌++◌, ◌-◌}
use Rattle.cnvm_script.specs.Storm.{arguments, after_draws}
use Rattle.cnvm_script.proofs.storm.Storm.arguments.Given as goal

abbrev pub invariant-loop : goal.invariant-loop
invariant-loop l =
    (l.args ++ arguments l.self (l.parameters - l.counter) ≡ arguments l.initial.self l.parameters)
    × (after_draws l.self (l.parameters - l.counter) ≡ after_draws l.initial.self l.parameters)
