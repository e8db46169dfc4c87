-- The events that create a pool of compartments on blank lines. Each compartment is created as a
-- pool of its own.
use Rattle.std.specs.Prelude.{ℕ, zero, suc, ◌*◌, ◌≡◌, ◌⊎◌, ℤ, List, [], ◌∷◌, ◌++◌}
use Rattle.cache_model.specs.Event.{CacheEvent}
use Rattle.pmem.specs.Device.{Device, blanked}
use Rattle.pmem.specs.Played.{PlaysPart}
use Rattle.pmem.specs.declared.answer.Refusal.{Refusal}
use Rattle.pmem.specs.declared.answer.Refusal.TheVariants as refusal
use Rattle.pool_layout.specs.declared.limits.Sizes.{Sizes}
use Rattle.pool_layout.specs.Sizes.{pool_lines}
use Rattle.args_log.specs.Created.{creation_events}
use Rattle.pool_workers.specs.declared.answer.MakeFault.{MakeFault}
use Rattle.pool_workers.specs.declared.answer.MakeFault.TheVariants.{Failed, NoMemory}
use Rattle.pool_workers.specs.Compartment.{lifted, first_line}

-- events of a compartment as events of the whole device
abbrev pub lifted_all : ℕ → List CacheEvent → List CacheEvent
lifted_all f [] = []
lifted_all f (e ∷ es) = lifted f e ∷ lifted_all f es

-- the events that create the compartments of n workers, from this one on
abbrev pub creations : Sizes → List ℤ → (worker n : ℕ) → List CacheEvent
creations s digest worker zero = []
creations s digest worker (suc n) =
    lifted_all (first_line s worker) (creation_events s digest) ++ creations s digest (suc worker) n

-- the events that create the compartments, up to the one that was refused
abbrev pub MadePart : Refusal → Sizes → List ℤ → (count : ℕ) → (d b : Device) → Type 0
MadePart why s digest count d b =
    PlaysPart why (blanked (pool_lines s * count) d) (creations s digest 0 count) b

-- The device if the pool could not be created: some first events are done, and for want of memory
-- perhaps none.
abbrev pub Unmade : MakeFault → Sizes → List ℤ → (count : ℕ) → (d b : Device) → Type 0
Unmade Failed s digest count d b = MadePart refusal.Failed s digest count d b
Unmade NoMemory s digest count d b = (b ≡ d) ⊎ MadePart refusal.NoMemory s digest count d b
