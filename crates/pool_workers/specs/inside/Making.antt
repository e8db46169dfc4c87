-- What only bodies and proofs need beside `Making`.
use Rattle.std.specs.Prelude.{ℕ, ℤ, List, ◌++◌}
use Rattle.cache_model.specs.Event.{CacheEvent}
use Rattle.pool_layout.specs.declared.limits.Sizes.{Sizes}
use Rattle.args_log.specs.Created.{sizes_events, digest_events, head_events}
use Rattle.pool_workers.specs.Making.{lifted_all}

-- the creation of the compartment that begins at line f, in its three parts
abbrev pub parts_at : ℕ → Sizes → List ℤ → List CacheEvent
parts_at f s digest =
    lifted_all f (sizes_events s)
    ++ (lifted_all f (digest_events digest) ++ lifted_all f head_events)
