use Rattle.std.proofs.Common.{◌*◌, ℕ, refl, ap₂}
use Rattle.pool_workers.proofs.Rooms.{first_few}
use Rattle.pool_workers.proofs.window.first_line.Goals as goal

pub returns-clause-small : goal.returns-clause-small
returns-clause-small c =
    first_few c.args.sizes.now c.args.worker _ _ c.requires.worker refl
    (ap₂ (λ (m n : ℕ). m * n) c.pool_lines.ensures c.from.ensures)
