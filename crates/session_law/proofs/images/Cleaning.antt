-- A recovery of a pool where nothing is owed keeps the value of the last transaction, and each line
-- has one version after it.
use Rattle.std.proofs.Common.{◌≡◌, ◌≢◌, inl, ⊎_elim, ℕ, zero, suc, ◌/◌, List, [], ◌∷◌, ℤ, refl, ap}
use Rattle.std.proofs.Common.{◌∙◌, arith}
use Rattle.cache_model.specs.Event.{CacheEvent, Store, Flush, Fence}
use Rattle.cache_model.specs.Cache.{Words, put, Cache, view}
use Rattle.cache_model.specs.Play.{apply, play}
use Rattle.cache_model.specs.Image.{IsVersion, Images}
use Rattle.cache_model.specs.During.{during}
use Rattle.cache_model.proofs.Versions.{put_other, store_version, flush_version, fence_version}
use Rattle.pool_layout.specs.declared.places.TheConstants.{LAST}
use Rattle.pool_layout.specs.declared.limits.Sizes.{Sizes}
use Rattle.clobber_log.specs.Logs.{attempt_in}
use Rattle.crash_law.specs.Law.{IsAtRest}
use Rattle.crash_law.proofs.Rest.{reset_at_rest}
use Rattle.recovery.specs.Due.{due_clean}
use Rattle.cut_law.proofs.Misses.{Misses}
use Rattle.session_law.proofs.images.Ones.{rest_newest}

-- each version of the word's line has it
abbrev Has : ℕ → ℤ → Cache → Type 0
Has p x c = (v : Words) → IsVersion (c (p / 8)) v → v p ≡ x

at_images : (p : ℕ) (x : ℤ) (c : Cache) → Has p x c → Images (λ (image : Words). image p ≡ x) c
at_images p x c all image is = let version = is (p / 8) in
    version.2 p refl ∙ all version.0 version.1

at_store : (p : ℕ) (x : ℤ) (c : Cache) (q : ℕ) (y : ℤ) → p ≢ q → Has p x c
    → Has p x (apply c (Store q y))
at_store p x c q y ne all v is = ⊎_elim
    (λ (old : IsVersion (c (p / 8)) v). all v old)
    (λ (new : (p / 8 ≡ q / 8) × (v ≡ put (c (p / 8)).newest q y)). ap (λ (u : Words). u p) new.1
    ∙ put_other (c (p / 8)).newest q p y ne ∙ all (c (p / 8)).newest (inl refl))
    (store_version c q y (p / 8) v is)

pub missed_at : (p : ℕ) (x : ℤ) (es : List CacheEvent) (c : Cache) → Misses p es → Has p x c
    → during c es (Images (λ (image : Words). image p ≡ x))
missed_at p x [] c misses all = at_images p x c all
missed_at p x (Store q y ∷ es) c misses all = (
  at_images p x c all,
  missed_at p x es (apply c (Store q y)) misses.1
      (at_store p x c q y misses.0 all),
)
missed_at p x (Flush l ∷ es) c misses all = (
  at_images p x c all,
  missed_at p x es (apply c (Flush l)) misses
      (λ v is. all v (flush_version c l (p / 8) v is)),
)
missed_at p x (Fence ∷ es) c misses all = (
  at_images p x c all,
  missed_at p x es (apply c Fence) misses
      (λ v is. all v (fence_version c (p / 8) v is)),
)

pub rest_at : (p : ℕ) (c : Cache) → IsAtRest c → Has p (view c p) c
unfolding view
rest_at p c rest v is = ap (λ (u : Words). u p) (rest_newest c rest (p / 8) v is)

clean_misses : (z : Sizes) (n : ℕ) (c : Cache) → Misses 16 (due_clean z n c)
clean_misses z zero c = tt
clean_misses z (suc n) c = ((λ e. absurd (omega arith)), tt)

pub clean_last : (z : Sizes) (n : ℕ) (c : Cache) → IsAtRest c
    → during c (due_clean z n c) (Images (λ (image : Words). image LAST ≡ view c LAST))
clean_last z n c rest = missed_at 16 (view c LAST) (due_clean z n c) c (clean_misses z n c)
    (rest_at 16 c rest)

pub clean_rest : (z : Sizes) (n : ℕ) (c : Cache) → IsAtRest c → IsAtRest (play c (due_clean z n c))
clean_rest z zero c rest = rest
clean_rest z (suc n) c rest = reset_at_rest z (attempt_in z (view c)) c rest
