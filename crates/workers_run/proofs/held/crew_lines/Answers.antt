use Rattle.std.proofs.Common.{◌*◌, ◌^◌, ◌≤◌, ℕ, sym, ap₂, subst}
use Rattle.pool_workers.proofs.Rooms.{crew_few}
use Rattle.workers_run.proofs.held.crew_lines.Goals as goal

pub returns-clause-small : goal.returns-clause-small
returns-clause-small c =
    subst (λ (n : ℕ). n ≤ 2 ^ 30)
    (sym (ap₂ (λ (m n : ℕ). m * n) c.pool_lines.ensures c.from.ensures))
    (crew_few c.sizes.result.now c.args.count c.requires.last)
