-- Undo records restored one after the other, the newest first.
use Rattle.std.proofs.Common.{◌≡◌, ◌≢◌, ⊎_elim, ℕ, zero, suc, ◌<◌, ◌≤◌, cond, if◌then◌else◌, nat_lt}
use Rattle.std.proofs.Common.{Bool, true, false, Option, Some, None, Result, Ok, Err, OnOk, ◌++◌, ℤ}
use Rattle.std.proofs.Common.{pos, negsuc, refl, sym, ap, ◌∙◌, subst, arith, int_eq}
use Rattle.std.proofs.lemmas.Bool.{cases_eq, ltb-false}
use Rattle.cache_model.specs.Event.{Store}
use Rattle.cache_model.specs.Play.{apply}
use Rattle.cache_model.proofs.Views.{view_same, view_other, view_flush}
use Rattle.cache_model.specs.Cache.{view, Words}
use Rattle.pmem.specs.Device.{Device}
use Rattle.pmem.specs.Played.{PlaysAll, PlaysPart}
use Rattle.pmem.specs.declared.answer.Refusal.{Refusal}
use Rattle.pmem.specs.Answer.{answer_of}
use Rattle.pmem.specs.declared.answer.LogAnswer.TheVariants as log
use Rattle.pmem.specs.declared.answer.Refusal.TheVariants.{Off, Failed, NoMemory}
use Rattle.pmem.proofs.Glue.{all_append, part_left, part_right}
use Rattle.pool_layout.specs.declared.limits.Sizes.{Sizes}
use Rattle.pool_layout.specs.declared.places.Place.TheVariants.{Heap}
use Rattle.pool_layout.specs.Sizes.{heap_start, heap_words}
use Rattle.pool_layout.specs.Places.{at, pool_of, line_of}
use Rattle.pool_layout.specs.Restored.{undo, undone, restored}
use Rattle.pool_layout.proofs.Undone.{undo_same, undo_other}
use Rattle.clobber_log.specs.Logs.{attempt_in, count_in}
use Rattle.clobber_log.specs.Restore.{as_heap_word, back_at, back_events, word_in_record}
use Rattle.clobber_log.specs.Restore.{old_in_record, first_events, restore_events}

abbrev heap : Sizes → Device → ℕ → ℤ
heap s d w = view d.cache (at (pool_of s) (Heap w))

pub on_after : (d b : Device) (s : Sizes) (x : Option ℕ) (old : ℤ) → PlaysAll d (back_at s x old) b
    → b.on ≡ d.on
on_after d b s None old plays = ap (λ (k : Device). k.on) plays
on_after d b s (Some w) old plays = ap (λ (k : Device). k.on) plays.1.1

-- the words before the heap stay
pub kept_after : (d b : Device) (s : Sizes) (x : Option ℕ) (old : ℤ)
    → PlaysAll d (back_at s x old) b → (p : ℕ) → p < heap_start s → view b.cache p ≡ view d.cache p
kept_after d b s None old plays p before = ap (λ (k : Device). view k.cache p) plays
kept_after d b s (Some w) old plays p before =
    ap (λ (k : Device). view k.cache p) plays.1.1
    ∙ view_flush _ (line_of (pool_of s) (Heap w)) p
    ∙ view_other d.cache (at (pool_of s) (Heap w)) p old (λ (e : p ≡ at (pool_of s) (Heap w)).
    absurd (omega arith))

pos_other : (v w : ℕ) → v ≢ w → pos v ≢ pos w
pos_other v w ne e = ne cc

heap_of : (d b : Device) (s : Sizes) (v : ℕ) (old : ℤ) (w : ℕ) (c : Bool) → (c ≡ false → v ≢ w)
    → PlaysAll d (back_at s (if c then Some v else None) old) b
    → heap s b w ≡ undo (pos v) old (heap s d) w
heap_of d b s v old w false outside plays =
    ap (λ (k : Device). heap s k w) plays
    ∙ sym (undo_other (pos v) old (heap s d) w (pos_other v w (outside refl)))
heap_of d b s v old w true outside plays =
    ap (λ (k : Device). heap s k w) plays.1.1
    ∙ view_flush _ (line_of (pool_of s) (Heap v)) (at (pool_of s) (Heap w))
    ∙ ⊎_elim
    (λ (same : w ≡ v).
    subst (λ (u : ℕ). view (apply d.cache (Store (at (pool_of s) (Heap v)) old))
    (at (pool_of s) (Heap u)) ≡ undo (pos v) old (heap s d) u) (sym same)
    (view_same d.cache (at (pool_of s) (Heap v)) old
    ∙ sym (undo_same (pos v) old (heap s d) v refl)))
    (λ (ne : w ≢ v).
    view_other d.cache (at (pool_of s) (Heap v)) (at (pool_of s) (Heap w)) old
    (λ (e : at (pool_of s) (Heap w) ≡ at (pool_of s) (Heap v)). ne (omega arith))
    ∙ sym (undo_other (pos v) old (heap s d) w (pos_other v w (λ (e : v ≡ w). ne (sym e)))))
    (cases_eq w v)

-- restoring the record undoes the heap word
pub heap_after : (d b : Device) (s : Sizes) (x old : ℤ)
    → PlaysAll d (back_at s (as_heap_word s x) old) b → (w : ℕ) → w < heap_words s
    → heap s b w ≡ undo x old (heap s d) w
heap_after d b s (pos v) old plays w inside =
    heap_of d b s v old w (nat_lt v (heap_words s)) (λ e same. let past : heap_words s ≤ v =
    ltb-false v (heap_words s) e in absurd (omega arith)) plays
heap_after d b s (negsuc n) old plays w inside = ap (λ (k : Device). heap s k w) plays

pub undone_same : (word old : ℕ → ℤ) (n : ℕ) (h k : ℕ → ℤ) (w : ℕ) → h w ≡ k w
    → undone word old n h w ≡ undone word old n k w
undone_same word old zero h k w e = e
undone_same word old (suc n) h k w e =
    undone_same word old n (undo (word n) (old n) h) (undo (word n) (old n) k) w
    (ap (λ (y : ℤ). cond (int_eq (word n) (pos w)) (old n) y) e)

-- the newest of n records, record m, comes first
back_more : (s : Sizes) (word old : ℕ → ℤ) (n m : ℕ) (x y : ℤ) → n ≡ suc m → x ≡ word m → y ≡ old m
    → back_events s word old n ≡ back_at s (as_heap_word s x) y ++ back_events s word old m
back_more s word old n m x y n_is x_is y_is = rw (n_is, x_is, y_is) refl

pub all_more : (s : Sizes) (word old : ℕ → ℤ) (n m : ℕ) (x y : ℤ) → n ≡ suc m → x ≡ word m
    → y ≡ old m
    → (d e b : Device) → PlaysAll d (back_at s (as_heap_word s x) y) e
    → PlaysAll e (back_events s word old m) b → PlaysAll d (back_events s word old n) b
all_more s word old n m x y n_is x_is y_is d e b first rest =
    subst (λ es. PlaysAll d es b) (sym (back_more s word old n m x y n_is x_is y_is))
    (all_append (back_at s (as_heap_word s x) y) (back_events s word old m) d e b first rest)

pub part_more : (s : Sizes) (word old : ℕ → ℤ) (n m : ℕ) (x y : ℤ) → n ≡ suc m → x ≡ word m
    → y ≡ old m
    → (why : Refusal) (d e b : Device) → PlaysAll d (back_at s (as_heap_word s x) y) e
    → PlaysPart why e (back_events s word old m) b → PlaysPart why d (back_events s word old n) b
part_more s word old n m x y n_is x_is y_is why d e b first rest =
    subst (λ es. PlaysPart why d es b) (sym (back_more s word old n m x y n_is x_is y_is))
    (part_right (back_at s (as_heap_word s x) y) (back_events s word old m) why d e b first rest)

pub part_here : (s : Sizes) (word old : ℕ → ℤ) (n m : ℕ) (x y : ℤ) → n ≡ suc m → x ≡ word m
    → y ≡ old m
    → (why : Refusal) (d b : Device) → PlaysPart why d (back_at s (as_heap_word s x) y) b
    → PlaysPart why d (back_events s word old n) b
part_here s word old n m x y n_is x_is y_is why d b part =
    subst (λ es. PlaysPart why d es b) (sym (back_more s word old n m x y n_is x_is y_is))
    (part_left (back_at s (as_heap_word s x) y) (back_events s word old m) why d b part)

pub heap_more : (s : Sizes) (word old : ℕ → ℤ) (n m : ℕ) (x y : ℤ) → n ≡ suc m → x ≡ word m
    → y ≡ old m
    → (d e : Device) → PlaysAll d (back_at s (as_heap_word s x) y) e → (w : ℕ) → w < heap_words s
    → undone word old m (heap s e) w ≡ undone word old n (heap s d) w
heap_more s word old n m x y n_is x_is y_is d e first w inside =
    rw n_is (undone_same word old m (heap s e) (undo (word m) (old m) (heap s d)) w
    (rw (← x_is, ← y_is) (heap_after d e s x y first w inside)))

-- the count is the number of valid records in the image
pub events_are : (s : Sizes) (image : Words) (n : ℕ) → n ≡ count_in s image
    → first_events s image n ≡ restore_events s image
unfolding restore_events
events_are s image n is = ap (first_events s image) is

pub heap_is : (s : Sizes) (image : Words) (n : ℕ) → n ≡ count_in s image → (w : ℕ)
    → undone (word_in_record s image) (old_in_record s image) n
    (λ v. image (at (pool_of s) (Heap v))) w ≡ restored (pool_of s) (attempt_in s image) image w
unfolding restored
heap_is s image n is w = ap (λ (k : ℕ). undone (word_in_record s image) (old_in_record s image) k
    (λ v. image (at (pool_of s) (Heap v))) w) is

pub where_done : {A : Type 0} (r : Result A Refusal) (X : Type 0) → answer_of r ≡ log.Done
    → OnOk r X → X
where_done (Ok _) X done holds = holds
where_done (Err Off) X done holds = absurd cc
where_done (Err Failed) X done holds = absurd cc
where_done (Err NoMemory) X done holds = absurd cc
