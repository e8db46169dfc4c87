use Rattle.std.proofs.Common.{◌≡◌, ◌≤◌, suc, ℕ, ℤ, pos, sym, rules}
use Rattle.cache_model.specs.Cache.{view}
use Rattle.pool_layout.specs.Places.{at, pool_of}
use Rattle.pool_layout.specs.declared.places.Place.TheVariants.{RecordStamp}
use Rattle.pool_layout.specs.Log.{count}
use Rattle.pool_layout.proofs.Records.{leading_stays}
use Rattle.clobber_log.proofs.valid.count.Goals as goal

-- the first stamp that isn't valid ends the count
pub returns-then-branch-valid-clause-value : goal.returns-then-branch-valid-clause-value
unfolding count
returns-then-branch-valid-clause-value g c =
    let stamps : ℕ → ℤ = λ j. view (g.P.PmemWork.device c.args.dev.now).cache
    (at (pool_of c.args.sizes.now) (RecordStamp j)) in
    let inside : c.loop-i.i ≤ c.args.sizes.now.records = search rules in
    let bad : stamps c.loop-i.i ≡ pos (suc c.args.attempt) → ⊥ = λ e. search rules in
    sym (leading_stays stamps c.args.attempt c.loop-i.i c.args.sizes.now.records
    c.loop-i.invariant.counted bad inside)
