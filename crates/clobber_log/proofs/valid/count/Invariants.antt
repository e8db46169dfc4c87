use Rattle.std.proofs.Common.{◌≡◌, ℕ}
use Rattle.cache_model.specs.Cache.{view}
use Rattle.pool_layout.specs.Places.{at, pool_of}
use Rattle.pool_layout.specs.Log.{leading}
use Rattle.pool_layout.specs.declared.places.Place.TheVariants.{RecordStamp}
use Rattle.clobber_log.proofs.valid.count.Given as goal

abbrev pub invariant-loop-i : goal.invariant-loop-i
invariant-loop-i g l = record {
  counted : leading (λ (j : ℕ).
      view (g.P.PmemWork.device l.dev).cache (at (pool_of l.sizes) (RecordStamp j))) l.attempt l.i
      ≡ l.i;
}
