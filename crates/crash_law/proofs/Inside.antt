-- The records of a run lie in the heap.
use Rattle.std.proofs.Common.{◌≡◌, ◌≢◌, ◌⊎◌, ⊎_elim, ℕ, suc, ◌<◌, List, [], ◌∷◌, ℤ, pos, ap, ◌∙◌}
use Rattle.std.proofs.Common.{arith}
use Rattle.std.proofs.lemmas.Bool.{cases_eq}
use Rattle.cache_model.specs.Cache.{put}
use Rattle.cache_model.proofs.Versions.{put_same, put_other}
use Rattle.pool_layout.specs.declared.limits.Sizes.{Sizes}
use Rattle.pool_layout.specs.Sizes.{heap_words}
use Rattle.crash_law.specs.Due.{Entry, Plain, Logged, IsTrace, Records, no_records, with_record}
use Rattle.crash_law.specs.Due.{records_after}
use Rattle.crash_law.proofs.Walks.{AreInHeap}

inside_more : (z : Sizes) (r : Records) (w : ℕ) (o : ℤ) → w < heap_words z →
    AreInHeap z r.word r.n →
    AreInHeap z (with_record r w o).word (suc r.n)
inside_more z r w o in_heap inside j lt = ⊎_elim
    (λ (e : j ≡ r.n). (w, ap (put r.word r.n (pos w)) e ∙ put_same r.word r.n (pos w), in_heap))
    (λ (ne : j ≢ r.n). let u =
    inside j (omega arith) in (u.0, put_other r.word r.n j (pos w) ne ∙ u.1, u.2))
    (cases_eq j r.n)

inside_after : (z : Sizes) (E W : ℕ → Type 0) (trace : List Entry) (r : Records) (heap : ℕ → ℤ)
    (stored : ℕ → Type 0) →
    IsTrace z.records (heap_words z) E W r.n stored trace → AreInHeap z r.word r.n →
    AreInHeap z (records_after r heap trace).word (records_after r heap trace).n
inside_after z E W [] r heap stored is inside = inside
inside_after z E W (Plain w x ∷ trace) r heap stored is inside =
    inside_after z E W trace r (put heap w x) (λ u. (u ≡ w) ⊎ stored u) is.3 inside
inside_after z E W (Logged w x ∷ trace) r heap stored is inside =
    inside_after z E W trace (with_record r w (heap w)) (put heap w x) (λ u. (u ≡ w) ⊎ stored u)
    is.3 (inside_more z r w (heap w) is.1 inside)

pub all_inside : (z : Sizes) (E W : ℕ → Type 0) (trace : List Entry) (heap : ℕ → ℤ) →
    IsTrace z.records (heap_words z) E W 0 (λ w. ⊥) trace →
    AreInHeap z (records_after no_records heap trace).word (records_after no_records heap trace).n
all_inside z E W trace heap is =
    inside_after z E W trace no_records heap (λ w. ⊥) is (λ j lt. absurd (omega arith))
