-- The recovery of a pool at rest.
use Rattle.std.proofs.Common.{◌≡◌, ℕ, zero, suc, ◌^◌, ◌<◌, List, pos, refl, sym, ap, ◌∙◌, subst}
use Rattle.std.proofs.Common.{arith}
use Rattle.cache_model.specs.Event.{CacheEvent}
use Rattle.cache_model.specs.Cache.{Words, Cache, view}
use Rattle.cache_model.specs.Play.{play}
use Rattle.cache_model.specs.Image.{Images, HasOne}
use Rattle.cache_model.specs.During.{during}
use Rattle.pool_layout.specs.declared.places.TheConstants.{ATTEMPT}
use Rattle.pool_layout.specs.declared.limits.Sizes.{Sizes}
use Rattle.pool_layout.specs.Places.{pool_of}
use Rattle.pool_layout.specs.Log.{count}
use Rattle.pool_layout.specs.Good.{Good}
use Rattle.clobber_log.specs.Logs.{attempt_of}
use Rattle.clobber_log.specs.Reset.{reset_events}
use Rattle.pm_machine.specs.declared.image.Image.{Image}
use Rattle.crash_law.specs.Due as crash
use Rattle.crash_law.specs.Law.{IsClean}
use Rattle.crash_law.proofs.Clean as whole
use Rattle.recovery.specs.Due.{due_clean}
use Rattle.cut_law.specs.Law.{pool_with}
use Rattle.cut_law.proofs.Misses.{view_one}
use Rattle.cut_law.proofs.Numbers.{attempt_small}

clean_same : (z : Sizes) (c : Cache) (a n : ℕ) → view c ATTEMPT ≡ pos a → (0 < n → a < 2 ^ 62) →
    due_clean z n c ≡ crash.clean_events z a n
clean_same z c a zero attempt room = refl
clean_same z c a (suc n) attempt room =
    let less : a < 2 ^ 62 = room (omega arith) in
    ap (λ (b : ℕ). reset_events z b) (ap attempt_of attempt ∙ attempt_small a (omega arith))

pub cut_clean : (image : Image) (super : Words) (c : Cache) (one : Words) (d : ℕ) (h : Words) →
    HasOne c one → (good : Good (pool_with image super) d h one) →
    (n : ℕ) → count (pool_of image.parts.sizes) good.attempt one ≡ n
    → (0 < n → good.attempt < 2 ^ 62) →
    during c (due_clean image.parts.sizes n c) (Images (Good (pool_with image super) d h))
    × Images (IsClean (pool_with image super) d h) (play c (due_clean image.parts.sizes n c))
cut_clean image super c one d h only good n counted room =
    subst (λ (events : List CacheEvent). during c events (Images (Good (pool_with image super) d h))
    × Images (IsClean (pool_with image super) d h) (play c events))
    (sym (clean_same image.parts.sizes c good.attempt n (view_one c one only 18 ∙ good.attempt_is)
    room))
    (whole.cut_clean (pool_with image super) d h c one only good n counted room)
