-- Recovery that is cut any number of times.
use Rattle.std.proofs.Common.{length, ◌≡◌, ◌⊎◌, ⊎_elim, ℕ, zero, suc, ◌/◌, List, ℤ, refl, sym}
use Rattle.std.proofs.Common.{ap, ◌∙◌, ◌≤◌, subst}
use Rattle.cache_model.specs.Event.{CacheEvent}
use Rattle.cache_model.specs.Cache.{Words, Cache}
use Rattle.cache_model.specs.Image.{Images, HasOne}
use Rattle.cache_model.specs.During.{during}
use Rattle.crash_law.specs.Pools.{Call, Owed}
use Rattle.crash_law.specs.Due.{Entry, Result, heap_after, redo_events}
use Rattle.crash_law.specs.Law.{IsRun, IsEnd, KeepsLast, collapsed, IsLeft, IsCutTo, AreInARow}
use Rattle.cache_model.proofs.During.{during_prefix}
use Rattle.crash_law.proofs.Redo.{cut_redo}
use Rattle.pool_layout.specs.Good.{Pool}
use Rattle.pool_layout.specs.declared.places.TheConstants.{ARGUMENTS}

-- the cache after a power cut has one image
pub collapsed_one : (image : Words) → HasOne (collapsed image) image
collapsed_one image other im p =
    let pick = im (p / 8) in
    pick.2 p refl ∙ ⊎_elim (λ (e : pick.0 ≡ image). ap (λ (v : Words). v p) e)
    (λ none. absurd none) pick.1

-- what holds of every image during the events holds of every image that a cut leaves
pub left_image : (P : Words → Type 0) (c : Cache) (es : List CacheEvent) (image : Words)
    → during c es (Images P) → IsLeft c es image → P image
left_image P c es image all left =
    during_prefix c left.0 left.1 (Images P)
    (subst (λ (fs : List CacheEvent). during c fs (Images P)) (sym left.2) all) image left.3

module _ (pool : Pool) (call : Call) (E W : ℕ → Type 0) (h : ℕ →
    ℤ) (result : Result) (trace : List Entry) (given_fits : length call.args ≤ ARGUMENTS)
    (is : IsRun pool E W result trace) where
  abbrev Recoverable : Words → Type 0
  Recoverable image = Owed pool call E W h (KeepsLast result) image
      ⊎ IsEnd pool call h (heap_after h trace) result image

  cut_once : (one other : Words) → IsCutTo pool call E W h result trace one other
      → Recoverable other
  cut_once one other cut =
      left_image Recoverable (collapsed one)
      (redo_events pool.sizes cut.owed.attempt (suc call.done) one cut.n result trace) other
      (cut_redo pool call E W h result trace given_fits is one cut.owed cut.n cut.counted cut.room
      (collapsed one) (collapsed_one one)).0
      cut.left

  pub cut_again : (k : ℕ) (one other : Words) → Recoverable one →
      AreInARow (IsCutTo pool call E W h result trace) k one other → Recoverable other
  cut_again zero one other now same = subst Recoverable same now
  cut_again (suc k) one other now cuts =
      cut_again k cuts.0 other (cut_once one cuts.0 cuts.1) cuts.2
