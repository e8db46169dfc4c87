use Rattle.std.proofs.Common.{drop}
use Rattle.cache_model.specs.Collapse.{RisesFrom}
use Rattle.cnvm_against_plain.proofs.picks.rises.Given as goal

-- the picks rise if those that are left do, from the next line on
abbrev pub invariant-loop-pick : goal.invariant-loop-pick
invariant-loop-pick l = RisesFrom l.next (drop l.pick-index l.picks) → RisesFrom 0 l.picks
