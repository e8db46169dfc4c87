-- The text of the pool in a worker's compartment.
use Rattle.std.specs.Prelude.{ℕ, ◌≡◌, List}
use Rattle.cache_model.specs.Cache.{view}
use Rattle.pmem.specs.Device.{Device}
use Rattle.pool_map.specs.PoolMap.{PoolMap}
use Rattle.pool_map.specs.PoolFits.{PoolFits}
use Rattle.pool_map.specs.PoolText.{pool_text}
use Rattle.pm_machine.specs.HeapPool.{heap_of, pool_in}
use Rattle.c_types.specs.Shapes.{shapes_of}
use Rattle.pool_workers.specs.Crew.{compartment}
use Rattle.cnvm_session.specs.declared.program.Program.{Program}

abbrev pub worker_pool : Program → ℕ → Device → PoolMap
worker_pool program worker d =
    pool_in (shapes_of program.typed) program.image.parts.sizes
    (heap_of program.image.parts.sizes (view (compartment program.image worker d).cache))

-- the text of the pool that the heap holds, if the heap fits the program's shapes
abbrev pub IsPoolText : Program → ℕ → Device → List ℕ → Type 0
IsPoolText program worker d text =
    PoolFits (shapes_of program.typed) (worker_pool program worker d)
    → text ≡ pool_text (shapes_of program.typed) (worker_pool program worker d)
