use Rattle.std.proofs.Common.{sym, subst, ◌+◌, ◌≤◌}
use Rattle.pool_layout.specs.declared.limits.Sizes.{Sizes}
use Rattle.pool_layout.specs.Sizes.{pool_lines}
use Rattle.pool_workers.specs.Compartment.{first_line}
use Rattle.pool_workers.proofs.Rooms.{compartment_within}
use Rattle.pool_workers.proofs.workers.Workers.begin.Goals as goal

pub assess_at-requires-clause-inside : goal.assess_at-requires-clause-inside
assess_at-requires-clause-inside g c =
    subst (λ (s : Sizes). first_line s c.args.worker + pool_lines s
    ≤ (g.P.PmemWork.device c.args.dev.now).lines) (sym c.sizes.ensures)
    (compartment_within c.args.image.now.parts.sizes c.args.worker _ _ c.requires.worker
    c.requires.lines)
