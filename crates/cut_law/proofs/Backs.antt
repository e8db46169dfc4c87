-- The events that a recovery plays before the call runs again are the crash law's list; their
-- effect.
use Rattle.std.proofs.Common.{◌≡◌, ◌≢◌, ⊎_elim, ℕ, zero, suc, ◌+◌, ◌*◌, ◌<◌, int_eq, List, ◌++◌}
use Rattle.std.proofs.Common.{Option, Some, None, ℤ, pos, refl, sym, ap, ◌∙◌, subst, arith}
use Rattle.std.proofs.lemmas.Bool.{cases_eq}
use Rattle.std.proofs.lemmas.Bool.Decides.{Decides-int_eq}
use Rattle.cache_model.specs.Event.{CacheEvent, Store}
use Rattle.cache_model.specs.Cache.{Words, Cache, view}
use Rattle.cache_model.specs.Play.{apply, play}
use Rattle.cache_model.proofs.Views.{view_same, view_other, view_flush, view_fence}
use Rattle.cache_model.proofs.During.{play_append}
use Rattle.pool_layout.specs.declared.limits.Sizes.{Sizes}
use Rattle.pool_layout.specs.declared.places.Place.TheVariants.{Heap}
use Rattle.pool_layout.specs.Sizes.{heap_words}
use Rattle.pool_layout.specs.Places.{at, line_of, pool_of}
use Rattle.pool_layout.specs.Restored.{undo, undone}
use Rattle.pool_layout.proofs.Records.{pos_inj}
use Rattle.pool_layout.proofs.Undone.{if_false}
use Rattle.clobber_log.specs.Logs.{count_in}
use Rattle.clobber_log.specs.Restore.{as_heap_word, back_at, back_events, word_in_record}
use Rattle.clobber_log.specs.Restore.{old_in_record, fence_after, first_events, restore_events}
use Rattle.clobber_log.proofs.Backwards.{undone_same}
use Rattle.crash_law.proofs.Walks.{AreInHeap, found_word}
use Rattle.crash_law.proofs.Restore.{undo_named}
use Rattle.cut_law.proofs.Misses.{Misses, misses_append}

misses_at : (z : Sizes) (p : ℕ) (o : Option ℕ) (x : ℤ) → p < 8 * (6 + z.records)
    → Misses p (back_at z o x)
misses_at z p None x less = tt
misses_at z p (Some u) x less = ((λ e. absurd (omega arith)), tt)

pub misses_back : (z : Sizes) (p : ℕ) (word old : ℕ → ℤ) (n : ℕ) → p < 8 * (6 + z.records)
    → Misses p (back_events z word old n)
misses_back z p word old zero less = tt
misses_back z p word old (suc n) less =
    misses_append p (back_at z (as_heap_word z (word n)) (old n)) (back_events z word old n)
    (misses_at z p (as_heap_word z (word n)) (old n) less) (misses_back z p word old n less)

pub misses_fence : (p n : ℕ) → Misses p (fence_after n)
misses_fence p zero = tt
misses_fence p (suc n) = tt

-- restoring stores no word before the heap
pub misses_restore : (z : Sizes) (p : ℕ) (image : Words) → p < 8 * (6 + z.records)
    → Misses p (restore_events z image)
unfolding restore_events
misses_restore z p image less =
    misses_append p (back_events z (word_in_record z image) (old_in_record z image)
    (count_in z image)) (fence_after (count_in z image))
    (misses_back z p (word_in_record z image) (old_in_record z image) (count_in z image) less)
    (misses_fence p (count_in z image))

module _ (z : Sizes) (word old : ℕ → ℤ) where
  -- the effect of storing a record's old value on the heap in view
  undo_view : (c : Cache) (x old' : ℤ) (u w : ℕ) → x ≡ pos u
      → view (apply c (Store (at (pool_of z) (Heap u)) old')) (at (pool_of z) (Heap w))
      ≡ undo x old' (λ v. view c (at (pool_of z) (Heap v))) w
  undo_view c x old' u w e = ⊎_elim
      (λ (same : w ≡ u). subst (λ (v : ℕ). view (apply c (Store (at (pool_of z) (Heap u)) old'))
      (at (pool_of z) (Heap v)) ≡ undo x old' (λ y. view c (at (pool_of z) (Heap y))) v)
      (sym same)
      (view_same c (at (pool_of z) (Heap u)) old'
      ∙ sym (undo_named (int_eq x (pos u)) old' (view c (at (pool_of z) (Heap u)))
      ((Decides-int_eq x (pos u)).1 e))))
      (λ (ne : w ≢ u). view_other c (at (pool_of z) (Heap u)) (at (pool_of z) (Heap w)) old'
      (omega arith)
      ∙ sym (if_false (int_eq x (pos w)) old' (view c (at (pool_of z) (Heap w)))
      (λ h. ne (pos_inj w u (sym ((Decides-int_eq x (pos w)).0 h) ∙ e)))))
      (cases_eq w u)

  heap_at : (n : ℕ) (c : Cache) (w u : ℕ) → word n ≡ pos u → u < heap_words z →
      view (play c (back_at z (as_heap_word z (word n)) (old n))) (at (pool_of z) (Heap w))
      ≡ undo (word n) (old n) (λ v. view c (at (pool_of z) (Heap v))) w
  heap_at n c w u is less =
      ap (λ (o : Option ℕ). view (play c (back_at z o (old n))) (at (pool_of z) (Heap w)))
      (found_word z word n u is less)
      ∙ view_flush (apply c (Store (at (pool_of z) (Heap u)) (old n)))
      (line_of (pool_of z) (Heap u)) (at (pool_of z) (Heap w))
      ∙ undo_view c (word n) (old n) u w is

  -- the heap in view after the records are restored
  pub heap_back : (n : ℕ) (c : Cache) (w : ℕ) → AreInHeap z word n →
      view (play c (back_events z word old n)) (at (pool_of z) (Heap w))
      ≡ undone word old n (λ v. view c (at (pool_of z) (Heap v))) w
  heap_back zero c w inside = refl
  heap_back (suc n) c w inside =
      let u = inside n (omega arith) in
      let first : List CacheEvent = back_at z (as_heap_word z (word n)) (old n) in
      ap (λ (d : Cache). view d (at (pool_of z) (Heap w)))
      (play_append c first (back_events z word old n))
      ∙ heap_back n (play c first) w (λ j less. inside j (omega arith))
      ∙ undone_same word old n (λ v. view (play c first) (at (pool_of z) (Heap v)))
      (undo (word n) (old n) (λ v. view c (at (pool_of z) (Heap v)))) w
      (heap_at n c w u.0 u.1 u.2)

-- all valid records are put back
pub restore_same : (z : Sizes) (image : Words) (n : ℕ) → count_in z image ≡ n →
    restore_events z image ≡ first_events z image n
unfolding restore_events
restore_same z image n counted = ap (first_events z image) counted

fence_view : (n : ℕ) (c : Cache) (p : ℕ) → view (play c (fence_after n)) p ≡ view c p
fence_view zero c p = refl
fence_view (suc n) c p = view_fence c p

pub heap_restored : (z : Sizes) (image : Words) (n : ℕ) (c : Cache) (w : ℕ) →
    count_in z image ≡ n → AreInHeap z (word_in_record z image) n →
    view (play c (restore_events z image)) (at (pool_of z) (Heap w))
    ≡ undone (word_in_record z image) (old_in_record z image) n
    (λ v. view c (at (pool_of z) (Heap v))) w
unfolding restore_events
heap_restored z image n c w counted inside =
    let word = word_in_record z image in
    let old = old_in_record z image in
    ap (λ (k : ℕ). view (play c (back_events z word old k ++ fence_after k))
    (at (pool_of z) (Heap w))) counted
    ∙ ap (λ (d : Cache). view d (at (pool_of z) (Heap w)))
    (play_append c (back_events z word old n) (fence_after n))
    ∙ fence_view n (play c (back_events z word old n)) (at (pool_of z) (Heap w))
    ∙ heap_back z word old n c w inside
