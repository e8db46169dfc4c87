-- Why an image isn't one of those that the crash law names.
use Rattle.std.proofs.Common.{◌≡◌, ◌<◌, ◌≤◌, ⊎_elim, ℕ, suc, Bool, true, false, length}
use Rattle.std.proofs.Common.{ℤ, pos, int_eq, nat_abs, sym, ap, ◌∙◌, subst}
use Rattle.cache_model.specs.Cache.{Words}
use Rattle.pool_layout.specs.declared.places.Place.TheVariants.{Done, Attempt, Argument, Seal}
use Rattle.pool_layout.specs.declared.places.Place.TheVariants.{Heap}
use Rattle.pool_layout.specs.Sizes.{heap_words}
use Rattle.pool_layout.specs.Places.{at, pool_of}
use Rattle.pool_layout.specs.Restored.{restored}
use Rattle.pool_layout.specs.Good.{Pool}
use Rattle.crash_law.specs.Pools.{Call, call_word, IsKept, Owed}
use Rattle.crash_law.specs.Due.{Result}
use Rattle.crash_law.specs.Law.{KeepsLast, IsCut, IsEnd}

abbrev pub IsYes : Bool → Type 0
IsYes true = Unit {0}
IsYes false = ⊥

-- equal numbers pass the test: at two that are written differently this is absurd
pub clash : (x y : ℤ) → x ≡ y → IsYes (int_eq x x) → IsYes (int_eq x y)
clash x y e same = subst (λ (z : ℤ). IsYes (int_eq x z)) e same

module _ (pool : Pool) (call : Call) (E W : ℕ → Type 0) (h h' : ℕ → ℤ) (last : ℤ)
    (result : Result) (image : Words) where
  -- it is sealed, so it isn't from before the call
  pub sealed_not : image (at (pool_of pool.sizes) Seal) ≡ pos (suc call.done)
      → (Owed pool call E W h (KeepsLast result) image → ⊥)
      → (IsEnd pool call h h' result image → ⊥)
      → IsCut pool call E W h h' last result image → ⊥
  sealed_not seal no_owed no_end cut = ⊎_elim (λ before. before.good.unsealed seal)
      (λ sealed. ⊎_elim no_owed no_end sealed) cut

  -- it isn't sealed, and a heap word isn't that from before
  pub unsealed_not : (w : ℕ) → w < heap_words pool.sizes
      → (image (at (pool_of pool.sizes) (Heap w)) ≡ h w → ⊥)
      → (image (at (pool_of pool.sizes) Seal) ≡ pos (suc call.done) → ⊥)
      → (IsEnd pool call h h' result image → ⊥)
      → IsCut pool call E W h h' last result image → ⊥
  unsealed_not w lt other no_seal no_end cut = ⊎_elim (λ before. other (before.good.heap w lt))
      (λ sealed. ⊎_elim (λ owed. no_seal owed.sealed) no_end sealed) cut

  -- it is retired
  pub retired_not : (image (at (pool_of pool.sizes) Done) ≡ pos call.done → ⊥)
      → (IsEnd pool call h h' result image → ⊥)
      → IsCut pool call E W h h' last result image → ⊥
  retired_not done no_end cut = ⊎_elim (λ before. done before.good.done)
      (λ sealed. ⊎_elim (λ owed. done owed.done) no_end sealed) cut

module _ (pool : Pool) (call : Call) (E W : ℕ → Type 0) (h : ℕ → ℤ) (kept : ℤ → Type 0)
    (image : Words) where
  -- an owed call has its arguments
  pub argument_not : (k : ℕ) → k ≤ length call.args
      → (image (at (pool_of pool.sizes) (Argument k)) ≡ call_word call k → ⊥)
      → Owed pool call E W h kept image → ⊥
  argument_not k le other owed = other (owed.call_is k le)

  -- and the log restores its inputs
  pub restored_not : (a w : ℕ) → image (at (pool_of pool.sizes) Attempt) ≡ pos a
      → w < heap_words pool.sizes → IsKept E W w
      → (restored (pool_of pool.sizes) a image w ≡ h w → ⊥)
      → Owed pool call E W h kept image → ⊥
  restored_not a w attempt lt is other owed =
      other (subst (λ (b : ℕ). restored (pool_of pool.sizes) b image w ≡ h w)
      (ap nat_abs (sym owed.attempt_is ∙ attempt)) (owed.restores w lt is))
