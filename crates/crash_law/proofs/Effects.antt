-- In the trace of a sound run the first entry of each input is logged.
use Rattle.std.proofs.Common.{◌≡◌, ◌⊎◌, inl, inr, ⊎_elim, ℕ, suc, ◌+◌, ◌<◌, ◌≤◌, ◌==◌, cond, Bool}
use Rattle.std.proofs.Common.{true, false, List, [], ◌∷◌, ◌++◌, Option, Some, None, ℤ, refl, sym}
use Rattle.std.proofs.Common.{ap, ◌∙◌, subst, arith, eq-eqb}
use Rattle.crash_law.specs.Due.{Entry, Plain, Logged, word_of_entry, IsTrace, IsStored, run_events}
use Rattle.clobber_log.specs.Record.{record_events}
use Rattle.cache_model.specs.Event.{CacheEvent, Store}
use Rattle.cache_model.specs.Cache.{put}
use Rattle.pool_layout.specs.declared.places.Place.TheVariants.{Heap}
use Rattle.pool_layout.specs.declared.limits.Sizes.{Sizes}
use Rattle.pool_layout.specs.Places.{at, pool_of}
use Rattle.crash_law.specs.Effects.{Effect, Loads, Stores, Logs, Still, entry, trace_of, IsInput}
use Rattle.crash_law.specs.Effects.{IsOverwritten, IsLoggedFirst, IsPaired, logs_of, IsSound}
use Rattle.crash_law.specs.Effects.{effect_events}

-- the word of an entry, logged or not
pub word_entry : (last : Option ℕ) (w : ℕ) (x : ℤ) → word_of_entry (entry last w x) ≡ w
word_entry None w x = refl
word_entry (Some u) w x = go (u == w)
  where
    go : (b : Bool) → word_of_entry (cond b (Logged w x) (Plain w x)) ≡ w
    go true = refl
    go false = refl

pub stored_of : (last : Option ℕ) (es : List Effect) (u : ℕ) → IsOverwritten es u
    → IsStored u (trace_of last es)
stored_of last [] u none = none
stored_of last (Loads w ∷ es) u h = stored_of last es u h
stored_of last (Stores w x ∷ es) u (inl e) = inl (e ∙ sym (word_entry last w x))
stored_of last (Stores w x ∷ es) u (inr h) = inr (stored_of None es u h)
stored_of last (Logs w ∷ es) u h = stored_of (Some w) es u h
stored_of last (Still ∷ es) u h = stored_of last es u h

-- the number of records of a pending LOG
abbrev pub pending : Option ℕ → ℕ
pending None = 0
pending (Some u) = 1

some_inj : (u v w : ℕ) → Some v ≡ Some u → v ≡ w → u ≡ w
some_inj u v w e f = cc

module _ (C H : ℕ) (E W : ℕ → Type 0) where
  -- what is known in the middle of a run: each input that is still to be stored was stored before,
  -- has a pending LOG, or is logged first
  abbrev pub Known : (ℕ → Type 0) → Option ℕ → List Effect → Type 0
  Known stored last es = (u : ℕ) → E u → IsOverwritten es u
      → stored u ⊎ ((last ≡ Some u) ⊎ IsLoggedFirst es u)

  pub trace_from : (es : List Effect) (last : Option ℕ) (n : ℕ) (stored : ℕ → Type 0)
      → ((u : ℕ) → IsOverwritten es u → W u) → ((u : ℕ) → IsOverwritten es u → u < H)
      → IsPaired last es → n + pending last + logs_of es ≤ C → Known stored last es
      → IsTrace C H E W n stored (trace_of last es)
  trace_from [] last n stored over in_heap paired fits known = tt
  trace_from (Loads w ∷ es) None n stored over in_heap paired fits known =
      trace_from es None n stored over in_heap paired fits known
  trace_from (Loads w ∷ es) (Some v) n stored over in_heap paired fits known =
      trace_from es (Some v) n stored over in_heap paired fits known
  trace_from (Still ∷ es) None n stored over in_heap paired fits known =
      trace_from es None n stored over in_heap paired fits known
  trace_from (Still ∷ es) (Some v) n stored over in_heap paired fits known =
      trace_from es (Some v) n stored over in_heap paired fits known
  trace_from (Logs w ∷ es) (Some v) n stored over in_heap paired fits known = absurd paired
  trace_from (Logs w ∷ es) None n stored over in_heap paired fits known =
      trace_from es (Some w) n stored over in_heap paired (omega arith)
      (λ u input h. ⊎_elim (λ s. inl s)
      (λ r. ⊎_elim (λ none. absurd (cc (none)))
      (λ l. ⊎_elim (λ (e : u ≡ w). inr (inl (ap Some (sym e)))) (λ later. inr (inr later)) l) r)
      (known u input h))
  trace_from (Stores w x ∷ es) None n stored over in_heap paired fits known = (
    over w (inl refl),
    in_heap w (inl refl),
    (λ input. ⊎_elim (λ s. s) (λ r. ⊎_elim (λ none. absurd (cc (none))) (λ l. absurd (l.0 refl)) r)
        (known w input (inl refl))),
    trace_from es None n (λ u. (u ≡ w) ⊎ stored u) (λ u h. over u (inr h))
        (λ u h. in_heap u (inr h)) paired fits
        (λ u input h. ⊎_elim (λ s. inl (inr s))
        (λ r. ⊎_elim (λ none. absurd (cc (none))) (λ l. inr (inr l.1)) r)
        (known u input (inr h))),
  )
  trace_from (Stores w x ∷ es) (Some v) n stored over in_heap paired fits known =
      let logged : entry (Some v) w x ≡ Logged w x =
      ap (λ (b : Bool). cond b (Logged w x) (Plain w x)) (eq-eqb v w paired.0) in
      subst (λ (e : Entry). IsTrace C H E W n stored (e ∷ trace_of None es)) (sym logged) (
        over w (inl refl),
        in_heap w (inl refl),
        omega arith,
        trace_from es None (suc n) (λ u. (u ≡ w) ⊎ stored u) (λ u h. over u (inr h))
            (λ u h. in_heap u (inr h)) paired.1 (omega arith)
            (λ u input h. ⊎_elim (λ s. inl (inr s))
            (λ r. ⊎_elim (λ same. inl (inl (some_inj u v w same paired.0))) (λ l. inr (inr l.1))
            r) (known u input (inr h))),
      )

pub sound_trace : (C H : ℕ) (es : List Effect) → IsSound C H es
    → IsTrace C H (IsInput es) (IsOverwritten es) 0 (λ w. ⊥) (trace_of None es)
sound_trace C H es sound =
    trace_from C H (IsInput es) (IsOverwritten es) es None 0 (λ w. ⊥) (λ u h. h) sound.in_heap
    sound.paired (let f = sound.fits in
    omega arith) (λ u input h. inr (inr (sound.covered u input h)))

-- the remaining events; those of a LOG that was the last LOG or STORE came already
abbrev events_after : (z : Sizes) (a n : ℕ) → (ℕ → ℤ) → Option ℕ → List Effect → List CacheEvent
events_after z a n heap None es = effect_events z a n heap es
events_after z a n heap (Some v) es =
    record_events z n v (heap v) (suc a) ++ effect_events z a (suc n) heap es

events_from : (z : Sizes) (a : ℕ) (es : List Effect) (last : Option ℕ) (n : ℕ) (heap : ℕ → ℤ) →
    IsPaired last es → events_after z a n heap last es ≡ run_events z a n heap (trace_of last es)
events_from z a [] None n heap paired = refl
events_from z a [] (Some v) n heap paired = absurd paired
events_from z a (Loads w ∷ es) None n heap paired = events_from z a es None n heap paired
events_from z a (Loads w ∷ es) (Some v) n heap paired = events_from z a es (Some v) n heap paired
events_from z a (Still ∷ es) None n heap paired = events_from z a es None n heap paired
events_from z a (Still ∷ es) (Some v) n heap paired = events_from z a es (Some v) n heap paired
events_from z a (Logs w ∷ es) None n heap paired = events_from z a es (Some w) n heap paired
events_from z a (Logs w ∷ es) (Some v) n heap paired = absurd paired
events_from z a (Stores w x ∷ es) None n heap paired =
    ap (λ (r : List CacheEvent). Store (at (pool_of z) (Heap w)) x ∷ r)
    (events_from z a es None n (put heap w x) paired)
events_from z a (Stores w x ∷ es) (Some v) n heap paired =
    let logged : entry (Some v) w x ≡ Logged w x =
    ap (λ (b : Bool). cond b (Logged w x) (Plain w x)) (eq-eqb v w paired.0) in
    let rest = events_from z a es None (suc n) (put heap w x) paired.1 in
    ap (λ (u : ℕ). record_events z n u (heap u) (suc a)
    ++ (Store (at (pool_of z) (Heap w)) x ∷ effect_events z a (suc n) (put heap w x) es)) paired.0
    ∙ ap (λ (r : List CacheEvent). record_events z n w (heap w) (suc a)
    ++ (Store (at (pool_of z) (Heap w)) x ∷ r)) rest
    ∙ ap (λ (e : Entry). run_events z a n heap (e ∷ trace_of None es)) (sym logged)

-- the events of a run step by step are those of its trace
pub step_events : (z : Sizes) (a : ℕ) (es : List Effect) (n : ℕ) (heap : ℕ → ℤ) →
    IsPaired None es → effect_events z a n heap es ≡ run_events z a n heap (trace_of None es)
step_events z a es n heap paired = events_from z a es None n heap paired
