use Rattle.std.proofs.Common.{◌≡◌, ◌+◌, ◌-◌, ◌++◌, true}
use Rattle.cache_model.specs.Cache.{view}
use Rattle.pm_machine.specs.HeapPool.{heap_of, words_from}
use Rattle.cnvm_session.proofs.showing.heap_slice.Given as goal

-- the words so far, followed by those that are left, are all of them
abbrev pub invariant-loop-k : goal.invariant-loop-k
invariant-loop-k g l =
    (g.P.PmemWork.device l.dev).on ≡ true →
    l.all ++ words_from (heap_of l.sizes (view (g.P.PmemWork.device l.dev).cache)) (l.first + l.k)
    (l.count - l.k)
    ≡ words_from (heap_of l.sizes (view (g.P.PmemWork.device l.dev).cache)) l.first l.count
