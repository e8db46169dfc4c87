use Rattle.std.proofs.Common.{◌++◌, ◌≡◌, drop}
use Rattle.ir.specs.Sites.{sites_from}
use Rattle.ir.proofs.site.push_function.Given as goal

abbrev pub invariant-loop-place : goal.invariant-loop-place
invariant-loop-place l = l.sites ++ sites_from l.function l.place (drop l.place l.code)
    ≡ l.initial.sites ++ sites_from l.function 0 l.code
