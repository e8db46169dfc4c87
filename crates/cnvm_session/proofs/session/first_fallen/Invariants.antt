use Rattle.std.proofs.Common.{◌≡◌, drop}
use Rattle.cache_model.specs.Collapse.{RisesFrom}
use Rattle.cnvm_session.specs.Commands.{fallen}
use Rattle.cnvm_session.proofs.session.first_fallen.Given as goal

-- the first pick that doesn't rise is the first such pick of those that are left, from the next
-- line on
abbrev pub invariant-loop-pick : goal.invariant-loop-pick
invariant-loop-pick l = record {
  first : fallen l.next (drop l.pick-index l.picks) ≡ fallen 0 l.picks;
  back : RisesFrom l.next (drop l.pick-index l.picks) → RisesFrom 0 l.picks;
}
