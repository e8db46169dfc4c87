-- Restoring old values, and then the next attempt.
use Rattle.std.proofs.Common.{◌≡◌, ◌≢◌, ℕ, zero, suc, ◌++◌, List, true, refl, ◌∙◌, subst}
use Rattle.cache_model.specs.Cache.{Cache, view}
use Rattle.cache_model.specs.Event.{CacheEvent}
use Rattle.cache_model.specs.Play.{play}
use Rattle.pmem.specs.Device.{Device}
use Rattle.pmem.specs.Played.{PlaysAll, PlaysPart, Played}
use Rattle.pmem.specs.declared.answer.Refusal.{Refusal}
use Rattle.pmem.specs.declared.answer.Refusal.TheVariants as refusal
use Rattle.pmem.specs.declared.answer.LogAnswer.{LogAnswer}
use Rattle.pmem.specs.declared.answer.LogAnswer.TheVariants.{Done, Off, Failed, NoMemory}
use Rattle.pmem.proofs.Glue.{all_append, part_left, part_right}
use Rattle.pmem.proofs.Refused.{all_cache, all_on}
use Rattle.pool_layout.specs.declared.limits.Sizes.{Sizes}
use Rattle.clobber_log.specs.Restore.{restore_events}
use Rattle.recovery.specs.Due.{due_reset, due_back}

abbrev restoring : Sizes → Cache → List CacheEvent
restoring s c = restore_events s (view c)

abbrev whole : Sizes → Cache → List CacheEvent
whole s c = restoring s c ++ due_reset s (play c (restoring s c))

back_some : (s : Sizes) (n : ℕ) (c : Cache) → n ≢ 0 → whole s c ≡ due_back s n c
back_some s zero c ne = absurd (ne refl)
back_some s (suc n) c ne = refl

module _ (s : Sizes) (n : ℕ) (some : n ≢ 0) (d b : Device) where
  -- the restoring was cut
  pub restore_cut : (why : Refusal) → PlaysPart why d (restoring s d.cache) b
      → PlaysPart why d (due_back s n d.cache) b
  restore_cut why p =
      subst (λ (es : List CacheEvent). PlaysPart why d es b) (back_some s n d.cache some)
      (part_left (restoring s d.cache) (due_reset s (play d.cache (restoring s d.cache))) why d b p)

  module _ (m : Device) (done : PlaysAll d (restoring s d.cache) m) where
    right : (why : Refusal) → PlaysPart why m (due_reset s m.cache) b
        → PlaysPart why d (due_back s n d.cache) b
    right why p =
        subst (λ (es : List CacheEvent). PlaysPart why d es b) (back_some s n d.cache some)
        (part_right (restoring s d.cache) (due_reset s (play d.cache (restoring s d.cache))) why
        d m b done
        (subst (λ (c : Cache). PlaysPart why m (due_reset s c) b)
        (all_cache (restoring s d.cache) d m done) p))

    -- the next attempt was begun, or its beginning was cut
    pub back_of : (a : LogAnswer) → d.on ≡ true → (m.on ≡ true → Played a m (due_reset s m.cache) b)
        → Played a d (due_back s n d.cache) b
    back_of Done on reset =
        subst (λ (es : List CacheEvent). PlaysAll d es b) (back_some s n d.cache some)
        (all_append (restoring s d.cache) (due_reset s (play d.cache (restoring s d.cache)))
        d m b done
        (subst (λ (c : Cache). PlaysAll m (due_reset s c) b)
        (all_cache (restoring s d.cache) d m done)
        (reset (all_on (restoring s d.cache) d m done ∙ on))))
    back_of Off on reset = right refusal.Off (reset (all_on (restoring s d.cache) d m done ∙ on))
    back_of Failed on reset = right refusal.Failed
        (reset (all_on (restoring s d.cache) d m done ∙ on))
    back_of NoMemory on reset = right refusal.NoMemory
        (reset (all_on (restoring s d.cache) d m done ∙ on))
