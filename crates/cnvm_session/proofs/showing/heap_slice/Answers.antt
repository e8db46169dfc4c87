use Rattle.std.proofs.Common.{◌≡◌, ◌+◌, ◌-◌, ◌++◌, [], ◌∷◌, arith, rules, w64, FitsSigned}
use Rattle.std.proofs.lemmas.Int.{to_z-of_z}
use Rattle.cache_model.specs.Cache.{view}
use Rattle.pm_machine.specs.HeapPool.{heap_of}
use Rattle.cnvm_session.proofs.Holding.{words_more}
use Rattle.cnvm_session.proofs.showing.heap_slice.Goals as goal

pub loop-k-preserved : goal.loop-k-preserved
loop-k-preserved g c =
    let h = heap_of c.args.sizes.now (view (g.P.PmemWork.device c.args.dev.now).cache) in
    let k = c.loop-k.k in
    let less = c.loop-k-test.true in
    let fits : FitsSigned w64 c.heap_word.result = search rules in
    let pushed : c.push.new.self ≡ c.loop-k.all ++ c.heap_word.result ∷ [] =
    simp to_z-of_z at c.in_ok-push.ensures.ok in
    λ on. words_more h (c.args.first + k) (c.args.first + (k + 1)) (c.args.count - k)
    (c.args.count - (k + 1)) (omega arith) (omega arith)
    c.loop-k.all c.push.new.self _ c.heap_word.result (c.heap_word.ensures on) pushed
    (c.loop-k.invariant on)
