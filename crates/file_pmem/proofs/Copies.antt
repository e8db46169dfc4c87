-- What a write and a sync leave among the copies of a line.
use Rattle.std.proofs.Common.{◌≡◌, ◌⊎◌, inl, inr, ⊎_elim, ℕ, ◌==◌, cond, Bool, true, false, List}
use Rattle.std.proofs.Common.{[], ◌∷◌, ◌++◌, Option, Some, None, ℤ, refl, ap, map, eqb-true, eq-eqb}
use Rattle.std.proofs.Math.ListN.{get_or-map}
use Rattle.file_pmem.specs.MemFile.{lines_from, no_copies}
use Rattle.file_pmem.specs.File.{Copies, FileLines, more_copies, settled_copies, file_written}
use Rattle.file_pmem.specs.File.{file_synced, AmongCopies, IsCopy, IsSettled, SyncsFile, StaysFile}

among_pushed : (us : List (List ℤ)) (n v : List ℤ) → AmongCopies (us ++ n ∷ []) v
    → AmongCopies us v ⊎ (v ≡ n)
among_pushed [] n v (inl e) = inr e
among_pushed [] n v (inr none) = absurd none
among_pushed (u ∷ us) n v (inl e) = inl (inl e)
among_pushed (u ∷ us) n v (inr h) =
    ⊎_elim (λ a. inl (inr a)) (λ e. inr e) (among_pushed us n v h)

-- a write adds one copy
pub more_copy : (y : Copies) (w v : List ℤ) → IsCopy (more_copies y w) v → IsCopy y v ⊎ (v ≡ w)
more_copy y w v (inl e) = inr e
more_copy y w v (inr h) =
    inl (⊎_elim (λ a. inr a) (λ e. inl e) (among_pushed y.older y.newest v h))

written_of : (b : Bool) (y : Copies) (w v : List ℤ) → IsCopy (cond b (more_copies y w) y) v
    → IsCopy y v ⊎ ((b ≡ true) × (v ≡ w))
written_of true y w v h = ⊎_elim (λ a. inl a) (λ e. inr (refl, e)) (more_copy y w v h)
written_of false y w v h = inl h

pub written_copy : (f : FileLines) (l : ℕ) (w : List ℤ) (k : ℕ) (v : List ℤ)
    → IsCopy (file_written f l w k) v → IsCopy (f k) v ⊎ ((k ≡ l) × (v ≡ w))
written_copy f l w k v h =
    ⊎_elim (λ a. inl a) (λ e. inr (eqb-true k l e.0, e.1)) (written_of (k == l) (f k) w v h)

newest_of : (b : Bool) (y : Copies) (w : List ℤ)
    → ((cond b (more_copies y w) y).newest ≡ y.newest)
    ⊎ ((b ≡ true) × ((cond b (more_copies y w) y).newest ≡ w))
newest_of true y w = inr (refl, refl)
newest_of false y w = inl refl

pub written_newest : (f : FileLines) (l : ℕ) (w : List ℤ) (k : ℕ)
    → ((file_written f l w k).newest ≡ (f k).newest)
    ⊎ ((k ≡ l) × ((file_written f l w k).newest ≡ w))
written_newest f l w k =
    ⊎_elim (λ a. inl a) (λ e. inr (eqb-true k l e.0, e.1)) (newest_of (k == l) (f k) w)

written_same : (b : Bool) (y : Copies) (w : List ℤ) → b ≡ true
    → (cond b (more_copies y w) y).newest ≡ w
written_same true y w e = refl
written_same false y w e = absurd (cc)

pub written_at : (f : FileLines) (l : ℕ) (w : List ℤ) (k : ℕ) → k ≡ l
    → (file_written f l w k).newest ≡ w
written_at f l w k e = written_same (k == l) (f k) w (eq-eqb k l e)

-- a sync leaves the newest copy
pub synced_copy : (y : Copies) (v : List ℤ) → IsCopy (settled_copies y) v → v ≡ y.newest
synced_copy y v (inl e) = e
synced_copy y v (inr none) = absurd none

-- a file with nothing older is as after a sync
pub settled_same : (y : Copies) → y.older ≡ [] → y ≡ settled_copies y
settled_same y e = ap (λ (us : List (List ℤ)). record { older = us; newest = y.newest }) e

pub settled_syncs : (a : Option FileLines) → IsSettled a → SyncsFile a a
settled_syncs None h = tt
settled_syncs (Some f) h = λ k. settled_same (f k) (h k)

pub syncs_settled : (a b : Option FileLines) → SyncsFile a b → IsSettled b
syncs_settled None None h = tt
syncs_settled (Some f) (Some g) h = λ k. ap (λ (y : Copies). y.older) (h k)
syncs_settled None (Some g) h = absurd h
syncs_settled (Some f) None h = absurd h

pub settled_each : (ls : List Copies) (k : ℕ)
    → lines_from (map settled_copies ls) k ≡ file_synced (lines_from ls) k
settled_each ls k = get_or-map settled_copies ls k no_copies

pub stays_same : (a : Option FileLines) → StaysFile a a
stays_same None = tt
stays_same (Some f) = λ k. refl

pub ruleset copies = (settled_syncs, syncs_settled)
