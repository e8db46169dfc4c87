use Rattle.std.proofs.Common.{◌≡◌, drop, map}
use Rattle.lower.specs.Names.{register_in}
use Rattle.lower.proofs.variables.find_local.Given as goal

abbrev pub invariant-loop-local : goal.invariant-loop-local
invariant-loop-local l =
    register_in l.name (map (λ x. record { name = x.name.now; register = x.register })
    (drop l.local-index l.all))
    ≡ register_in l.name (map (λ x. record { name = x.name.now; register = x.register }) l.all)
