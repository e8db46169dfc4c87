use Rattle.std.proofs.Common.{◌∙◌, sym}
use Rattle.pool_map.proofs.Slots.{HasField-place}
use Rattle.pool_map.proofs.pool.Pool.set.Goals as goal

pub set-requires : goal.set-requires
set-requires c =
    HasField-place (record { root = c.self.inside.root; slots = c.self.inside.slots.items })
    c.args.slot c.args.field _ c.in-Some.object (rw (← c.self.view_is) at c.requires)
    (sym c.index_mut.ensures.value ∙ c.in-Some.is)
