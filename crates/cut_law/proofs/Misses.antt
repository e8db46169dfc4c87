-- Words that a list of events doesn't store to stay in the view.
use Rattle.std.proofs.Common.{◌≡◌, ◌≢◌, ◌⊎◌, inl, inr, ℕ, zero, suc, ◌+◌, ◌<◌, ◌≤◌, List, [], ◌∷◌}
use Rattle.std.proofs.Common.{◌++◌, length, ℤ, refl, ap, ◌∙◌, arith}
use Rattle.cache_model.specs.Event.{CacheEvent, Store, Flush, Fence}
use Rattle.cache_model.specs.Cache.{Words, Cache, view}
use Rattle.cache_model.specs.Play.{apply, play}
use Rattle.cache_model.specs.Image.{IsImage, HasOne}
use Rattle.cache_model.proofs.Views.{view_other, view_flush, view_fence}
use Rattle.pool_layout.specs.declared.places.TheConstants.{FUNCTION, SEAL, ARGUMENTS}
use Rattle.pool_layout.specs.declared.limits.Sizes.{Sizes}
use Rattle.args_log.specs.Seal.{stores_from, flushes_from, payload_lines, payload_events}
use Rattle.args_log.specs.Seal.{unsealed_events, sealing_events, seal_events}
use Rattle.pm_machine.specs.declared.effect.Effect.{Effect}
use Rattle.pm_machine.specs.declared.effect.Effect.TheVariants.{Loads, Scans, Stores, Logs, Flushes}
use Rattle.pm_machine.specs.declared.effect.Effect.TheVariants.{Fences, Quiet}
use Rattle.pm_machine.specs.Effects.{events_of, events_all, heap_past, records_past}

abbrev pub Misses : ℕ → List CacheEvent → Type 0
Misses p [] = Unit {0}
Misses p (Store q x ∷ es) = (p ≢ q) × Misses p es
Misses p (Flush l ∷ es) = Misses p es
Misses p (Fence ∷ es) = Misses p es

pub misses_append : (p : ℕ) (es fs : List CacheEvent) → Misses p es → Misses p fs
    → Misses p (es ++ fs)
misses_append p [] fs h g = g
misses_append p (Store q x ∷ es) fs h g = (h.0, misses_append p es fs h.1 g)
misses_append p (Flush l ∷ es) fs h g = misses_append p es fs h g
misses_append p (Fence ∷ es) fs h g = misses_append p es fs h g

pub view_missed : (es : List CacheEvent) (c : Cache) (p : ℕ) → Misses p es
    → view (play c es) p ≡ view c p
view_missed [] c p h = refl
view_missed (Store q x ∷ es) c p h = view_missed es (apply c (Store q x)) p h.1
    ∙ view_other c q p x h.0
view_missed (Flush l ∷ es) c p h = view_missed es (apply c (Flush l)) p h ∙ view_flush c l p
view_missed (Fence ∷ es) c p h = view_missed es (apply c Fence) p h ∙ view_fence c p

misses_stores : (xs : List ℤ) (q p : ℕ) → (p < q) ⊎ (q + length xs ≤ p)
    → Misses p (stores_from q xs)
misses_stores [] q p out = tt
misses_stores (x ∷ xs) q p (inl less) =
    ((λ e. absurd (omega arith)), misses_stores xs (suc q) p (inl (omega arith)))
misses_stores (x ∷ xs) q p (inr more) =
    ((λ e. absurd (omega arith)), misses_stores xs (suc q) p (inr (omega arith)))

misses_flushes : (l n p : ℕ) → Misses p (flushes_from l n)
misses_flushes l zero p = tt
misses_flushes l (suc n) p = misses_flushes (suc l) n p

-- a seal stores only to the words from the function to the seal
pub misses_seal : (f : ℤ) (args : List ℤ) (k : ℤ) (p : ℕ) → length args ≤ ARGUMENTS
    → (p < 24) ⊎ (48 ≤ p)
    → Misses p (seal_events f args k)
unfolding seal_events unsealed_events payload_events sealing_events
misses_seal f args k p few out =
    let record_lines : Misses p (flushes_from 3 (payload_lines (length args)) ++ Fence ∷ []) =
    misses_append p (flushes_from 3 (payload_lines (length args))) (Fence ∷ [])
    (misses_flushes 3 (payload_lines (length args)) p) tt in
    let payload : Misses p (stores_from FUNCTION (f ∷ args)
    ++ (flushes_from 3 (payload_lines (length args)) ++ Fence ∷ [])) =
    misses_append p (stores_from FUNCTION (f ∷ args)) (flushes_from 3 (payload_lines (length args))
    ++ Fence ∷ []) (misses_stores (f ∷ args) 24 p (beside out)) record_lines in
    let seal : Misses p (Store SEAL k ∷ []) = (apart out, tt) in
    misses_append p ((stores_from FUNCTION (f ∷ args)
    ++ (flushes_from 3 (payload_lines (length args)) ++ Fence ∷ [])) ++ Store SEAL k ∷ [])
    (Flush 5 ∷ Fence ∷ [])
    (misses_append p (stores_from FUNCTION (f ∷ args)
    ++ (flushes_from 3 (payload_lines (length args)) ++ Fence ∷ [])) (Store SEAL k ∷ [])
    payload seal) tt
  where
    beside : (p < 24) ⊎ (48 ≤ p) → (p < 24) ⊎ (24 + length (f ∷ args) ≤ p)
    beside (inl less) = inl less
    beside (inr more) = inr (omega arith)

    apart : (p < 24) ⊎ (48 ≤ p) → p ≢ 47
    apart (inl less) = λ e. absurd (omega arith)
    apart (inr more) = λ e. absurd (omega arith)

-- a run stores to no word of the first six lines
misses_effect : (z : Sizes) (a n p : ℕ) (h : Words) (e : Effect) → p < 48
    → Misses p (events_of z a n h e)
misses_effect z a n p h (Loads w) less = tt
misses_effect z a n p h (Scans w apart many) less = tt
misses_effect z a n p h (Stores w x) less = ((λ e. absurd (omega arith)), tt)
misses_effect z a n p h (Logs w) less =
    ((λ e. absurd (omega arith)), ((λ e. absurd (omega arith)), ((λ e. absurd (omega arith)), tt)))
misses_effect z a n p h (Flushes l) less = tt
misses_effect z a n p h Fences less = tt
misses_effect z a n p h Quiet less = tt

pub misses_run : (z : Sizes) (a n p : ℕ) (h : Words) (es : List Effect) → p < 48
    → Misses p (events_all z a n h es)
misses_run z a n p h [] less = tt
misses_run z a n p h (e ∷ es) less =
    misses_append p (events_of z a n h e) (events_all z a (records_past n e) (heap_past h e) es)
    (misses_effect z a n p h e less)
    (misses_run z a (records_past n e) p (heap_past h e) es less)

-- the view of a cache is one of its images
pub view_image : (c : Cache) → IsImage c (view c)
unfolding view
view_image c l = ((c l).newest, inl refl, λ p on. ap (λ (i : ℕ). (c i).newest p) on)

pub view_one : (c : Cache) (one : Words) → HasOne c one → (p : ℕ) → view c p ≡ one p
view_one c one only p = only (view c) (view_image c) p
