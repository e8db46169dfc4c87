-- The lists of the logs in the form that the inductions walk: each event in front of the rest. They
-- are the same lists.
use Rattle.std.proofs.Common.{◌≡◌, ℕ, zero, suc, ◌+◌, ◌/◌, ◌<◌, ◌≤◌, if◌then◌else◌, Bool, true}
use Rattle.std.proofs.Common.{false, ltb, List, [], ◌∷◌, ◌++◌, length, slice_index_or, Option, Some}
use Rattle.std.proofs.Common.{None, ℤ, pos, nat_abs, refl, sym, ap, ◌∙◌, arith, append_assoc}
use Rattle.std.proofs.lemmas.Bool.{ltb-false}
use Rattle.cache_model.specs.Event.{CacheEvent, Store, Flush, Fence}
use Rattle.cache_model.specs.Cache.{Words}
use Rattle.pool_layout.specs.declared.places.TheConstants.{FUNCTION, SEAL}
use Rattle.pool_layout.specs.declared.limits.Sizes.{Sizes}
use Rattle.pool_layout.specs.declared.places.Layout.{Layout}
use Rattle.pool_layout.specs.declared.places.Place.TheVariants.{Attempt, Argument, Seal, Heap}
use Rattle.pool_layout.specs.Sizes.{heap_words}
use Rattle.pool_layout.specs.Places.{at, line_of, pool_of}
use Rattle.clobber_log.specs.Reset.{reset_events}
use Rattle.clobber_log.specs.Restore.{as_heap_word, back_at, back_events, word_in_record}
use Rattle.clobber_log.specs.Restore.{old_in_record, fence_after, first_events}
use Rattle.args_log.specs.Seal.{stores_from, flushes_from, payload_lines, payload_events}
use Rattle.args_log.specs.Seal.{unsealed_events, sealing_events, seal_events}
use Rattle.crash_law.specs.Pools.{Call, call_word}
use Rattle.crash_law.specs.Due.{due_seal}

-- the seal

-- the stores of n words of function and arguments, from word k on
abbrev pub store_words : Layout → (ℕ → ℤ) → (k n : ℕ) → List CacheEvent → List CacheEvent
store_words C word k zero rest = rest
store_words C word k (suc n) rest =
    Store (at C (Argument k)) (word k) ∷ store_words C word (suc k) n rest

abbrev pub flush_from : (l n : ℕ) → List CacheEvent → List CacheEvent
flush_from l zero rest = rest
flush_from l (suc n) rest = Flush l ∷ flush_from (suc l) n rest

abbrev pub seal_walk : Layout → Call → List CacheEvent → List CacheEvent
seal_walk C call rest =
    store_words C (call_word call) 0 (suc (length call.args))
    (flush_from 3 (length call.args / 8 + 1)
    (Fence ∷ Store (at C Seal) (pos (suc call.done)) ∷ Flush 5 ∷ Fence ∷ rest))

stores_same : (l : Layout) (xs : List ℤ) (j : ℕ) (word : ℕ → ℤ) (rest : List CacheEvent) →
    ((i : ℕ) → i < length xs → slice_index_or xs i (pos 0) ≡ word (j + i)) →
    stores_from (FUNCTION + j) xs ++ rest ≡ store_words l word j (length xs) rest
stores_same l [] j word rest same = refl
stores_same l (x ∷ xs) j word rest same =
    let head : x ≡ word j = same 0 (omega arith) ∙ ap word (omega arith) in
    let place : suc (FUNCTION + j) ≡ FUNCTION + suc j = omega arith in
    ap (λ (y : ℤ). Store (FUNCTION + j) y ∷ (stores_from (suc (FUNCTION + j)) xs ++ rest)) head
    ∙ ap (λ (p : ℕ). Store (FUNCTION + j) (word j) ∷ (stores_from p xs ++ rest)) place
    ∙ ap (λ (r : List CacheEvent). Store (FUNCTION + j) (word j) ∷ r)
    (stores_same l xs (suc j) word rest (λ i less. same (suc i) (omega arith)
    ∙ ap word (omega arith)))

flushes_same : (k n : ℕ) (rest : List CacheEvent) → flushes_from k n ++ rest ≡ flush_from k n rest
flushes_same k zero rest = refl
flushes_same k (suc n) rest =
    ap (λ (r : List CacheEvent). Flush k ∷ r) (flushes_same (suc k) n rest)

pub seal_same : (z : Sizes) (call : Call) (rest : List CacheEvent) →
    due_seal call ++ rest ≡ seal_walk (pool_of z) call rest
unfolding seal_events unsealed_events payload_events sealing_events
seal_same z call rest =
    let words : List ℤ = call.function ∷ call.args in
    let k : ℤ = pos (suc call.done) in
    let xs : List CacheEvent = stores_from FUNCTION words in
    let ys : List CacheEvent = flushes_from 3 (payload_lines (length call.args)) in
    let tail : List CacheEvent = Store SEAL k ∷ Flush 5 ∷ Fence ∷ rest in
    append_assoc ((xs ++ (ys ++ Fence ∷ [])) ++ Store SEAL k ∷ []) (Flush 5 ∷ Fence ∷ []) rest
    ∙ append_assoc (xs ++ (ys ++ Fence ∷ [])) (Store SEAL k ∷ []) (Flush 5 ∷ Fence ∷ rest)
    ∙ append_assoc xs (ys ++ Fence ∷ []) tail
    ∙ ap (λ (r : List CacheEvent). xs ++ r) (append_assoc ys (Fence ∷ []) tail
    ∙ flushes_same 3 (payload_lines (length call.args)) (Fence ∷ tail))
    ∙ stores_same (pool_of z) words 0 (call_word call)
    (flush_from 3 (length call.args / 8 + 1) (Fence ∷ tail))
    (λ i less. ap (call_word call) (omega arith))

-- the next attempt

abbrev pub reset_walk : (C : Layout) (a : ℕ) → List CacheEvent → List CacheEvent
reset_walk C a rest = Store (at C Attempt) (pos (suc a)) ∷ Flush 2 ∷ Fence ∷ rest

pub reset_same : (z : Sizes) (a : ℕ) (rest : List CacheEvent) →
    reset_events z a ++ rest ≡ reset_walk (pool_of z) a rest
reset_same z a rest =
    ap (λ (b : ℕ). Store (at (pool_of z) Attempt) (pos b) ∷ Flush 2 ∷ Fence ∷ rest)
    (let e : a + 1 ≡ suc a = omega arith in e)

-- the records

-- the events that restore the first n records, the newest first
abbrev pub restore_walk : Layout → (word old : ℕ → ℤ) → ℕ → List CacheEvent → List CacheEvent
restore_walk C word old zero rest = rest
restore_walk C word old (suc n) rest =
    Store (at C (Heap (nat_abs (word n)))) (old n) ∷ Flush (line_of C (Heap (nat_abs (word n))))
    ∷ restore_walk C word old n rest

heap_some : (z : Sizes) (u : ℕ) → u < heap_words z → as_heap_word z (pos u) ≡ Some u
heap_some z u less = go (ltb u (heap_words z)) refl
  where
    go : (b : Bool) → ltb u (heap_words z) ≡ b → (if b then Some u else None) ≡ Some u
    go true is = refl
    go false is = let more : heap_words z ≤ u =
        ltb-false u (heap_words z) is in absurd (omega arith)

-- the first n records lie in the heap
abbrev pub AreInHeap : Sizes → (ℕ → ℤ) → ℕ → Type 0
AreInHeap z word n = (j : ℕ) → j < n → (u : ℕ) × (word j ≡ pos u) × (u < heap_words z)

pub found_word : (z : Sizes) (word : ℕ → ℤ) (n u : ℕ) → word n ≡ pos u → u < heap_words z →
    as_heap_word z (word n) ≡ Some u
found_word z word n u is less = ap (as_heap_word z) is ∙ heap_some z u less

pub back_same : (z : Sizes) (word old : ℕ → ℤ) (n : ℕ) (rest : List CacheEvent) →
    AreInHeap z word n → back_events z word old n ++ rest ≡ restore_walk (pool_of z) word old n rest
back_same z word old zero rest inside = refl
back_same z word old (suc n) rest inside =
    let u = inside n (omega arith) in
    ap (λ (o : Option ℕ). (back_at z o (old n) ++ back_events z word old n) ++ rest)
    (found_word z word n u.0 u.1 u.2)
    ∙ ap (λ (r : List CacheEvent).
    Store (at (pool_of z) (Heap u.0)) (old n) ∷ Flush (line_of (pool_of z) (Heap u.0)) ∷ r)
    (back_same z word old n rest (λ j less. inside j (omega arith)))
    ∙ ap (λ (v : ℕ).
    Store (at (pool_of z) (Heap v)) (old n) ∷ Flush (line_of (pool_of z) (Heap v)) ∷ restore_walk
    (pool_of z) word old n rest) (sym (ap nat_abs u.1))

-- all of them, and the fence
pub backs_same : (z : Sizes) (word old : ℕ → ℤ) (m : ℕ) (rest : List CacheEvent) →
    AreInHeap z word (suc m) →
    (back_events z word old (suc m) ++ fence_after (suc m)) ++ rest
    ≡ restore_walk (pool_of z) word old (suc m) (Fence ∷ rest)
backs_same z word old m rest inside =
    append_assoc (back_events z word old (suc m)) (Fence ∷ []) rest
    ∙ back_same z word old (suc m) (Fence ∷ rest) inside

pub first_same : (z : Sizes) (image : Words) (m : ℕ) (rest : List CacheEvent) →
    AreInHeap z (word_in_record z image) (suc m) →
    first_events z image (suc m) ++ rest
    ≡ restore_walk (pool_of z) (word_in_record z image) (old_in_record z image) (suc m)
    (Fence ∷ rest)
first_same z image m rest inside =
    backs_same z (word_in_record z image) (old_in_record z image) m rest inside
