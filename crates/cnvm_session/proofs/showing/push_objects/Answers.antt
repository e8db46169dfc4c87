use Rattle.std.proofs.Common.{◌∙◌, ◌+◌, ◌-◌, ap, arith}
use Rattle.cache_model.specs.Cache.{view}
use Rattle.pool_layout.specs.Sizes.{slot_word}
use Rattle.pool_map.specs.PoolMap.{PoolMap}
use Rattle.pm_machine.specs.HeapPool.{heap_of, object_in}
use Rattle.cnvm_session.proofs.Holding.{objects_more}
use Rattle.cnvm_session.proofs.showing.push_objects.Goals as goal

pub loop-k-preserved : goal.loop-k-preserved
loop-k-preserved g c =
    let s = c.args.sizes.now in
    let structs = c.args.structs.now in
    let h = heap_of s (view (g.P.PmemWork.device c.args.dev.now).cache) in
    let k = c.loop-k.k in
    let less = c.loop-k-test.true in
    let ok = c.in_ok-push_slot.ensures.ok in
    record {
      root = ap (λ (p : PoolMap). p.root) ok ∙ c.loop-k.invariant.root;
      slots = λ on. objects_more s structs h (1 + k) (1 + (k + 1)) (s.slots - k) (s.slots - (k + 1))
          (omega arith) (omega arith)
          c.loop-k.pool.slots c.push_slot.new.self.slots _ c.in_ok-object.object
          (c.in_ok-object.ensures on ∙ ap (object_in s structs h)
          (c.slot_word.ensures ∙ ap (slot_word s) (omega arith)))
          (ap (λ (p : PoolMap). p.slots) ok) (c.loop-k.invariant.slots on);
    }
