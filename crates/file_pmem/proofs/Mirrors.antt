-- A mirror is kept by each event: a flush that writes its line first, and a fence that syncs first.
use Rattle.std.proofs.Common.{◌≡◌, inl, ⊎_elim, ℕ, ◌/◌, ◌≤◌, ◌==◌, Bool, true, false, List}
use Rattle.std.proofs.Common.{length, Option, Some, None, ℤ, refl, ap, cond, sym, ◌∙◌, subst}
use Rattle.std.proofs.Common.{eqb-true}
use Rattle.cache_model.specs.Event.{Store, Flush, Fence}
use Rattle.cache_model.specs.Cache.{Words, Line, Memory}
use Rattle.cache_model.specs.Play.{store_line, flush_line, fence_line, apply, after}
use Rattle.cache_model.specs.Image.{IsVersion}
use Rattle.file_pmem.specs.File.{Copies, FileLines, IsCopy, AgreesAt, StaysFile, WritesFile}
use Rattle.file_pmem.specs.File.{SyncsFile, file_written, file_synced}
use Rattle.file_pmem.specs.Mirror.{IsHeld, CoversCopies, IsAhead, Mirrors, IsMirror, IsFileCovered}
use Rattle.file_pmem.specs.Mirror.{MarksFit}
use Rattle.file_pmem.proofs.Lines.{stored_version, stored_fenced, newest_fenced, fenced_again}
use Rattle.file_pmem.proofs.Lines.{flushed_mark, fenced_mark, stored_mark}
use Rattle.file_pmem.proofs.Copies.{written_copy, written_newest, written_at, synced_copy}

-- the versions of one line may become those of another
more_held : (y z : Line) (l : ℕ) (v : List ℤ) → ((u : Words) → IsVersion y u → IsVersion z u)
    → IsHeld y l v → IsHeld z l v
more_held y z l v more h = (h.0, more h.0 h.1, h.2)

-- The file

-- a file that mirrors still does where each line has the same copies
mirror_same : (f g : FileLines) (m : Memory) → ((k : ℕ) → g k ≡ f k) → Mirrors f m → Mirrors g m
mirror_same f g m same h = record {
  covers = λ l lt v copy. h.covers l lt v (subst (λ (y : Copies). IsCopy y v) (same l) copy);
  ahead = λ l lt. subst (λ (y : Copies). IsHeld (fence_line (m.cache l)) l y.newest) (sym (same l))
      (h.ahead l lt);
  marks = h.marks;
}

write_covers : (f : FileLines) (m : Memory) (l : ℕ) (w : List ℤ) → AgreesAt l w (m.cache l).newest
    → CoversCopies f m → CoversCopies (file_written f l w) m
write_covers f m l w is covers k lt v copy = ⊎_elim
    (λ (old : IsCopy (f k) v). covers k lt v old)
    (λ (new : (k ≡ l) × (v ≡ w)).
    subst (λ (j : ℕ). IsHeld (m.cache j) j v) (sym new.0)
    (subst (λ (x : List ℤ). IsHeld (m.cache l) l x) (sym new.1)
    ((m.cache l).newest, inl refl, is)))
    (written_copy f l w k v copy)

write_ahead : (f : FileLines) (m : Memory) (l : ℕ) (w : List ℤ) → AgreesAt l w (m.cache l).newest
    → IsAhead f m → IsAhead (file_written f l w) m
write_ahead f m l w is ahead k lt = ⊎_elim
    (λ (old : (file_written f l w k).newest ≡ (f k).newest).
    subst (λ (x : List ℤ). IsHeld (fence_line (m.cache k)) k x) (sym old) (ahead k lt))
    (λ (new : (k ≡ l) × ((file_written f l w k).newest ≡ w)).
    subst (λ (x : List ℤ). IsHeld (fence_line (m.cache k)) k x) (sym new.1)
    (subst (λ (j : ℕ). IsHeld (fence_line (m.cache j)) j w) (sym new.0)
    ((m.cache l).newest, newest_fenced (m.cache l), is)))
    (written_newest f l w k)

write_mirror : (f g : FileLines) (m : Memory) (l : ℕ) (w : List ℤ)
    → ((k : ℕ) → g k ≡ file_written f l w k) → AgreesAt l w (m.cache l).newest → Mirrors f m
    → Mirrors g m
write_mirror f g m l w is same h = mirror_same (file_written f l w) g m is (record {
  covers = write_covers f m l w same h.covers;
  ahead = write_ahead f m l w same h.ahead;
  marks = h.marks;
})

sync_mirror : (f g : FileLines) (m : Memory) → ((k : ℕ) → g k ≡ file_synced f k) → Mirrors f m
    → Mirrors g m
sync_mirror f g m is h = mirror_same (file_synced f) g m is (record {
  covers = λ l lt v copy. h.covers l lt v (inl (synced_copy (f l) v copy));
  ahead = h.ahead;
  marks = h.marks;
})

-- The device

stored_of : (b : Bool) (y : Line) (p : ℕ) (x : ℤ) (u : Words) → IsVersion y u
    → IsVersion (cond b (store_line y p x) y) u
stored_of true y p x u h = stored_version y p x u h
stored_of false y p x u h = h

stored_fence_of : (b : Bool) (y : Line) (p : ℕ) (x : ℤ) (u : Words)
    → ((k : ℕ) → y.mark ≡ Some k → k ≤ length y.older) → IsVersion (fence_line y) u
    → IsVersion (fence_line (cond b (store_line y p x) y)) u
stored_fence_of true y p x u fits h = stored_fenced y p x u fits h
stored_fence_of false y p x u fits h = h

stored_mark_of : (b : Bool) (y : Line) (p : ℕ) (x : ℤ) (k : ℕ)
    → (y.mark ≡ Some k → k ≤ length y.older) → (cond b (store_line y p x) y).mark ≡ Some k
    → k ≤ length (cond b (store_line y p x) y).older
stored_mark_of true y p x k fits e = stored_mark y p x k (fits e)
stored_mark_of false y p x k fits e = fits e

pub store_marks : (m : Memory) (p : ℕ) (x : ℤ) → MarksFit m → MarksFit (after m (Store p x))
unfolding apply
store_marks m p x h l k e = stored_mark_of (l == p / 8) (m.cache l) p x k (h l k) e

store_mirrors : (f : FileLines) (m : Memory) (p : ℕ) (x : ℤ) → Mirrors f m
    → Mirrors f (after m (Store p x))
unfolding apply
store_mirrors f m p x h = record {
  covers = λ l lt v copy. more_held (m.cache l)
      (cond (l == p / 8) (store_line (m.cache l) p x) (m.cache l)) l v
      (λ u is. stored_of (l == p / 8) (m.cache l) p x u is) (h.covers l lt v copy);
  ahead = λ l lt. more_held (fence_line (m.cache l))
      (fence_line (cond (l == p / 8) (store_line (m.cache l) p x) (m.cache l))) l (f l).newest
      (λ u is. stored_fence_of (l == p / 8) (m.cache l) p x u (h.marks l) is) (h.ahead l lt);
  marks = store_marks m p x h.marks;
}

flushed_of : (b : Bool) (y : Line) (u : Words) → IsVersion y u
    → IsVersion (cond b (flush_line y) y) u
flushed_of true y u h = h
flushed_of false y u h = h

flushed_mark_of : (b : Bool) (y : Line) (k : ℕ) → (y.mark ≡ Some k → k ≤ length y.older)
    → (cond b (flush_line y) y).mark ≡ Some k → k ≤ length (cond b (flush_line y) y).older
flushed_mark_of true y k fits e = flushed_mark y k fits e
flushed_mark_of false y k fits e = fits e

-- a flushed line's fence keeps the newest version, which the file has
flushed_ahead_of : (b : Bool) (y : Line) (l : ℕ) (v : List ℤ) → (b ≡ true → AgreesAt l v y.newest)
    → IsHeld (fence_line y) l v → IsHeld (fence_line (cond b (flush_line y) y)) l v
flushed_ahead_of true y l v is h = (y.newest, newest_fenced (flush_line y), is refl)
flushed_ahead_of false y l v is h = h

pub flush_marks : (m : Memory) (k : ℕ) → MarksFit m → MarksFit (after m (Flush k))
unfolding apply
flush_marks m k h l j e = flushed_mark_of (l == k) (m.cache l) j (h l j) e

flush_mirrors : (f : FileLines) (m : Memory) (k : ℕ) → AgreesAt k (f k).newest (m.cache k).newest
    → Mirrors f m → Mirrors f (after m (Flush k))
unfolding apply
flush_mirrors f m k same h = record {
  covers = λ l lt v copy. more_held (m.cache l) (cond (l == k) (flush_line (m.cache l)) (m.cache l))
      l v (λ u is. flushed_of (l == k) (m.cache l) u is) (h.covers l lt v copy);
  ahead = λ l lt. flushed_ahead_of (l == k) (m.cache l) l (f l).newest
      (λ e. subst (λ (j : ℕ). AgreesAt j (f j).newest (m.cache j).newest)
      (sym (eqb-true l k e)) same)
      (h.ahead l lt);
  marks = flush_marks m k h.marks;
}

pub fence_marks : (m : Memory) → MarksFit (after m Fence)
unfolding apply
fence_marks m l k e = absurd (fenced_mark (m.cache l) k e)

-- where the file has the newest copies alone, a fence may drop what is older than its marks
fence_mirrors : (f : FileLines) (m : Memory) → Mirrors f m → Mirrors (file_synced f) (after m Fence)
unfolding apply
fence_mirrors f m h = record {
  covers = λ l lt v copy. subst (λ (x : List ℤ). IsHeld (fence_line (m.cache l)) l x)
      (sym (synced_copy (f l) v copy)) (h.ahead l lt);
  ahead = λ l lt. more_held (fence_line (m.cache l)) (fence_line (fence_line (m.cache l))) l
      (f l).newest (λ u is. fenced_again (m.cache l) u is) (h.ahead l lt);
  marks = fence_marks m;
}

-- Files that may show clauses nothing

pub mirror_stays : (a b : Option FileLines) (m : Memory) → StaysFile a b → IsMirror a m
    → IsMirror b m
mirror_stays None None m same h = tt
mirror_stays (Some f) (Some g) m same h = mirror_same f g m same h
mirror_stays None (Some g) m same h = absurd same
mirror_stays (Some f) None m same h = absurd same

pub mirror_writes : (a b : Option FileLines) (m : Memory) (l : ℕ) (w : List ℤ)
    → WritesFile a l w b → AgreesAt l w (m.cache l).newest → IsMirror a m → IsMirror b m
mirror_writes None None m l w is same h = tt
mirror_writes (Some f) (Some g) m l w is same h = write_mirror f g m l w is same h
mirror_writes None (Some g) m l w is same h = absurd is
mirror_writes (Some f) None m l w is same h = absurd is

pub mirror_syncs : (a b : Option FileLines) (m : Memory) → SyncsFile a b → IsMirror a m
    → IsMirror b m
mirror_syncs None None m is h = tt
mirror_syncs (Some f) (Some g) m is h = sync_mirror f g m is h
mirror_syncs None (Some g) m is h = absurd is
mirror_syncs (Some f) None m is h = absurd is

pub mirror_store : (a : Option FileLines) (m : Memory) (p : ℕ) (x : ℤ) → IsMirror a m
    → IsMirror a (after m (Store p x))
mirror_store None m p x h = tt
mirror_store (Some f) m p x h = store_mirrors f m p x h

-- a flush, once its line is written
pub mirror_flush : (a b : Option FileLines) (m : Memory) (l : ℕ) (w : List ℤ)
    → WritesFile a l w b → AgreesAt l w (m.cache l).newest → IsMirror a m
    → IsMirror b (after m (Flush l))
mirror_flush None None m l w is same h = tt
mirror_flush (Some f) (Some g) m l w is same h =
    let now : (g l).newest ≡ w =
    ap (λ (y : Copies). y.newest) (is l) ∙ written_at f l w l refl in
    flush_mirrors g m l (subst (λ (x : List ℤ). AgreesAt l x (m.cache l).newest) (sym now) same)
    (write_mirror f g m l w is same h)
mirror_flush None (Some g) m l w is same h = absurd is
mirror_flush (Some f) None m l w is same h = absurd is

-- a fence, once the file is synced
pub mirror_fence : (a b : Option FileLines) (m : Memory) → SyncsFile a b → IsMirror a m
    → IsMirror b (after m Fence)
mirror_fence None None m is h = tt
mirror_fence (Some f) (Some g) m is h =
    mirror_same (file_synced f) g (after m Fence) is (fence_mirrors f m h)
mirror_fence None (Some g) m is h = absurd is
mirror_fence (Some f) None m is h = absurd is

pub mirror_covers : (a : Option FileLines) (m : Memory) → IsMirror a m → IsFileCovered a m
mirror_covers None m h = tt
mirror_covers (Some f) m h = h.covers
