use Rattle.std.proofs.Common.{◌≡◌, ◌+◌, ◌-◌, ◌++◌, true}
use Rattle.cache_model.specs.Cache.{view}
use Rattle.pm_machine.specs.HeapPool.{heap_of, objects_from}
use Rattle.cnvm_session.proofs.showing.push_objects.Given as goal

-- the objects so far, followed by those of the slots that are left, are all of them
abbrev pub invariant-loop-k : goal.invariant-loop-k
invariant-loop-k g l = record {
  root : l.pool.root ≡ l.initial.pool.root;
  slots : (g.P.PmemWork.device l.dev).on ≡ true →
      l.pool.slots ++ objects_from l.sizes l.structs
      (heap_of l.sizes (view (g.P.PmemWork.device l.dev).cache)) (1 + l.k) (l.sizes.slots - l.k)
      ≡ l.initial.pool.slots ++ objects_from l.sizes l.structs
      (heap_of l.sizes (view (g.P.PmemWork.device l.dev).cache)) 1 l.sizes.slots;
}
