use Rattle.std.proofs.Common.{◌≡◌, ◌+◌, ◌-◌, ◌*◌, ◌++◌, [], ◌∷◌, arith, rules, w64, FitsSigned}
use Rattle.std.proofs.lemmas.Int.{to_z-of_z}
use Rattle.cache_model.specs.Cache.{view}
use Rattle.cnvm_session.proofs.Holding.{words_more}
use Rattle.session_run.proofs.image.words_on.Goals as goal

pub loop-k-preserved : goal.loop-k-preserved
loop-k-preserved g c =
    let d = g.P.PmemWork.device c.args.dev.now in
    let k = c.loop-k.k in
    let less = c.loop-k-test.true in
    let fits : FitsSigned w64 c.newest.result = search rules in
    let pushed : c.push.new.self ≡ c.loop-k.words ++ c.newest.result ∷ [] =
    simp to_z-of_z at c.in_ok-push.ensures.ok in
    words_more (view d.cache) k (k + 1) (8 * d.lines - k) (8 * d.lines - (k + 1)) (omega arith)
    (omega arith)
    c.loop-k.words c.push.new.self _ c.newest.result c.newest.ensures pushed c.loop-k.invariant
