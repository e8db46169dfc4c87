-- What a device's calls keep of its mirror.
use Rattle.std.proofs.Common.{◌≡◌, ◌≢◌, ◌⊎◌, inl, ⊎_elim, ℕ, ◌+◌, ◌%◌, ◌*◌, ◌/◌, ◌<◌, ◌≤◌, Bool}
use Rattle.std.proofs.Common.{true, false, cond, List, [], length, eq-eqb, ne_eqb}
use Rattle.std.proofs.Common.{Option, Some, None, ℤ, refl, ap, sym, ◌∙◌, subst, arith, pos}
use Rattle.std.specs.Prelude.{slice_index_or}
use Rattle.std.proofs.lemmas.Bool.{cases_eq}
use Rattle.std.proofs.lemmas.List.{get_or_past}
use Rattle.cache_model.specs.Event.{Store, Flush, Fence}
use Rattle.cache_model.specs.Cache.{Memory, blank, blank_line}
use Rattle.cache_model.specs.Play.{after}
use Rattle.cache_model.specs.Collapse.{collapse}
use Rattle.cache_model.specs.declared.choice.Choice.{Choice}
use Rattle.file_pmem.specs.File.{Copies, FileLines, IsCopy, AgreesAt, StaysFile, WritesFile}
use Rattle.file_pmem.specs.File.{SyncsFile, IsZeroFile, file_written}
use Rattle.file_pmem.specs.Mirror.{IsHeld, CoversCopies, MarksFit, IsMirror, IsFileCovered}
use Rattle.file_pmem.specs.Mirror.{IsBlankPast, IsWell}
use Rattle.file_pmem.specs.Mirror.{IsSynced, IsMirroring, is_mirrored, has_refused, given_up}
use Rattle.file_pmem.specs.Mirror.{FileParts, file_shown, shown, shown_file}
use Rattle.pmem.specs.Filled.{filled_cache, filled_memory}
use Rattle.pmem.specs.Sparse.{newest_of}
use Rattle.pmem.specs.Switch.{Gate}
use Rattle.pmem.specs.declared.switch.Switch.{Switch}
use Rattle.pmem.specs.declared.answer.Event.TheVariants.{Done}
use Rattle.file_pmem.specs.declared.link.Link.{Link}
use Rattle.file_pmem.specs.declared.link.MirrorState.{MirrorState}
use Rattle.file_pmem.specs.declared.link.MirrorState.TheVariants.{Asleep, Awake, Lost, Stale}
use Rattle.file_pmem.specs.inside.Writing.{AreNewest, IsOneOf, WritesNewest, WroteNewest}
use Rattle.file_pmem.proofs.Copies.{written_copy, written_newest, written_at}
use Rattle.file_pmem.proofs.Mirrors.{mirror_stays, mirror_writes, mirror_syncs, mirror_store}
use Rattle.file_pmem.proofs.Mirrors.{mirror_flush, mirror_fence, mirror_covers}
use Rattle.file_pmem.proofs.Past.{no_mark, store_well, flush_well, fence_well, left_well}
use Rattle.file_pmem.proofs.Crashes.{attach}

-- The states of a link

mirrored_awake : (s : MirrorState) → is_mirrored s ≡ true → has_refused s ≡ false → s ≡ Awake
mirrored_awake Asleep e f = absurd (cc)
mirrored_awake Awake e f = refl
mirrored_awake Lost e f = absurd (cc)
mirrored_awake Stale e f = absurd (cc)

given_up_awake : (s : MirrorState) → given_up s ≡ Awake → s ≡ Awake
given_up_awake Asleep e = e
given_up_awake Awake e = e
given_up_awake Lost e = absurd (cc)
given_up_awake Stale e = absurd (cc)

given_up_mirrored : (s : MirrorState) → is_mirrored (given_up s) ≡ true → s ≡ Awake
given_up_mirrored Asleep e = absurd (cc)
given_up_mirrored Awake e = refl
given_up_mirrored Lost e = absurd (cc)
given_up_mirrored Stale e = absurd (cc)

asleep_unmirrored : (s : MirrorState) → s ≡ Asleep → is_mirrored s ≡ true → ⊥
asleep_unmirrored Asleep e f = cc
asleep_unmirrored Awake e f = cc
asleep_unmirrored Lost e f = cc
asleep_unmirrored Stale e f = cc

asleep_not_awake : (s : MirrorState) → s ≡ Asleep → s ≡ Awake → ⊥
asleep_not_awake Asleep e f = cc
asleep_not_awake Awake e f = cc
asleep_not_awake Lost e f = cc
asleep_not_awake Stale e f = cc

-- What is known of each device

pub known_marks : (s : MirrorState) (d : Bool) (a : Option FileLines) (m : Memory)
    → IsMirroring s d a m → MarksFit m
known_marks s d a m h = h.well.marks

pub known_past : (s : MirrorState) (d : Bool) (a : Option FileLines) (m : Memory)
    → IsMirroring s d a m → IsBlankPast m
known_past s d a m h = h.well.past

pub known_covers : (s : MirrorState) (d : Bool) (a : Option FileLines) (m : Memory)
    → IsMirroring s d a m → is_mirrored s ≡ true → IsFileCovered a m
known_covers s d a m h e = h.covers e

pub known_mirrors : (s : MirrorState) (d : Bool) (a : Option FileLines) (m : Memory)
    → IsMirroring s d a m → s ≡ Awake → IsMirror a m
known_mirrors s d a m h e = h.mirrors e

pub ruleset known = (known_marks, known_past, known_covers, known_mirrors)

pub mirroring_along : (s : MirrorState) (d : Bool) (a : Option FileLines) (m n : Memory) → n ≡ m
    → IsMirroring s d a m → IsMirroring s d a n
mirroring_along s d a m n e h = subst (λ (k : Memory). IsMirroring s d a k) (sym e) h

-- a file that has refused nothing
live : (s : MirrorState) (d : Bool) (a : Option FileLines) (m : Memory) → has_refused s ≡ false
    → IsWell m → (s ≡ Awake → IsMirror a m) → (s ≡ Awake → IsSynced d a) → IsMirroring s d a m
live s d a m ok well mirrors clean = record {
  well = well;
  covers = λ e. mirror_covers a m (mirrors (mirrored_awake s e ok));
  mirrors = mirrors;
  clean = clean;
}

pub store_mirroring : (s : MirrorState) (d : Bool) (a : Option FileLines) (m n : Memory) (p : ℕ)
    (x : ℤ) → p < 8 * m.lines → has_refused s ≡ false → n ≡ after m (Store p x)
    → IsMirroring s d a m → IsMirroring s d a n
store_mirroring s d a m n p x lt ok e h = mirroring_along s d a (after m (Store p x)) n e
    (live s d a (after m (Store p x)) ok (store_well m p x lt h.well)
    (λ awake. mirror_store a m p x (h.mirrors awake)) h.clean)

pub ruleset stores = (store_mirroring, mirroring_along)

-- What a crash leaves between the file's event and the memory's

pub stays_covered : (a b : Option FileLines) (m : Memory) → StaysFile a b → IsFileCovered a m
    → IsFileCovered b m
stays_covered None None m is h = tt
stays_covered (Some f) (Some g) m is h =
    λ l lt v copy. h l lt v (subst (λ (y : Copies). IsCopy y v) (is l) copy)
stays_covered None (Some g) m is h = absurd is
stays_covered (Some f) None m is h = absurd is

-- a line is written whose words are held by the memory
held_covered : (f g : FileLines) (m : Memory) (l : ℕ) (w : List ℤ)
    → ((k : ℕ) → g k ≡ file_written f l w k) → (l < m.lines → IsHeld (m.cache l) l w)
    → CoversCopies f m → CoversCopies g m
held_covered f g m l w is held h k lt v copy = ⊎_elim
    (λ (old : IsCopy (f k) v). h k lt v old)
    (λ (new : (k ≡ l) × (v ≡ w)).
    subst (λ (j : ℕ). IsHeld (m.cache j) j v) (sym new.0)
    (subst (λ (x : List ℤ). IsHeld (m.cache l) l x) (sym new.1)
    (held (subst (λ (j : ℕ). j < m.lines) new.0 lt))))
    (written_copy f l w k v (subst (λ (y : Copies). IsCopy y v) (is k) copy))

writes_covered : (a b : Option FileLines) (m : Memory) (l : ℕ) (w : List ℤ) → WritesFile a l w b
    → (l < m.lines → IsHeld (m.cache l) l w) → IsFileCovered a m → IsFileCovered b m
writes_covered None None m l w is held h = tt
writes_covered (Some f) (Some g) m l w is held h = held_covered f g m l w is held h
writes_covered None (Some g) m l w is held h = absurd is
writes_covered (Some f) None m l w is held h = absurd is

syncs_covered : (a b : Option FileLines) (m : Memory) → SyncsFile a b → IsFileCovered a m
    → IsFileCovered b m
syncs_covered None None m is h = tt
syncs_covered (Some f) (Some g) m is h =
    λ l lt v copy. h l lt v (inl (⊎_elim (λ e. e) (λ none. absurd none)
    (subst (λ (y : Copies). IsCopy y v) (is l) copy)))
syncs_covered None (Some g) m is h = absurd is
syncs_covered (Some f) None m is h = absurd is

pub sync_covered : (a b : Option FileLines) (m : Memory) → StaysFile a b ⊎ SyncsFile a b
    → IsFileCovered a m → IsFileCovered b m
sync_covered a b m is h = ⊎_elim (λ stays. stays_covered a b m stays h)
    (λ syncs. syncs_covered a b m syncs h) is

-- All lines are written

pub chosen_covered : (a b : Option FileLines) (m n : Memory) (l : ℕ)
    → StaysFile a b ⊎ WroteNewest a l b n → IsOneOf m n → IsFileCovered a m → IsFileCovered b m
chosen_covered a b m n l is one h = ⊎_elim
    (λ (stays : StaysFile a b). stays_covered a b m stays h)
    (λ (w : WroteNewest a l b n). writes_covered a b m l w.0 w.2
    (λ lt. let u = one l lt in (u.0, u.1, λ p e. w.1 p e ∙ u.2 p e)) h)
    is

newest_here : (f : FileLines) (n : Memory) (l : ℕ) (w : List ℤ) (k : ℕ) → k ≡ l
    → (file_written f l w k).newest ≡ (f k).newest → AgreesAt l w (n.cache l).newest
    → AgreesAt k (f k).newest (n.cache k).newest
newest_here f n l w k e old same =
    subst (λ (x : List ℤ). AgreesAt k x (n.cache k).newest) (sym (written_at f l w k e) ∙ old)
    (subst (λ (j : ℕ). AgreesAt j w (n.cache j).newest) (sym e) same)

newest_more : (f g : FileLines) (n : Memory) (l : ℕ) (w : List ℤ)
    → ((k : ℕ) → g k ≡ file_written f l w k) → AgreesAt l w (n.cache l).newest
    → ((k : ℕ) → k < l → AgreesAt k (f k).newest (n.cache k).newest)
    → (k : ℕ) → k < l + 1 → AgreesAt k (g k).newest (n.cache k).newest
newest_more f g n l w is same h k lt =
    subst (λ (y : Copies). AgreesAt k y.newest (n.cache k).newest) (sym (is k))
    (⊎_elim
    (λ (old : (file_written f l w k).newest ≡ (f k).newest).
    subst (λ (x : List ℤ). AgreesAt k x (n.cache k).newest) (sym old)
    (⊎_elim (λ (e : k ≡ l). newest_here f n l w k e old same)
    (λ (ne : k ≡ l → ⊥). h k (omega arith)) (cases_eq k l)))
    (λ (new : (k ≡ l) × ((file_written f l w k).newest ≡ w)).
    subst (λ (x : List ℤ). AgreesAt k x (n.cache k).newest) (sym new.1)
    (subst (λ (j : ℕ). AgreesAt j w (n.cache j).newest) (sym new.0) same))
    (written_newest f l w k))

pub newest_written : (a b : Option FileLines) (n : Memory) (l : ℕ) (w : List ℤ)
    → WritesFile a l w b → AgreesAt l w (n.cache l).newest → AreNewest a n l → AreNewest b n (l + 1)
newest_written None None n l w is same h = tt
newest_written (Some f) (Some g) n l w is same h = newest_more f g n l w is same h
newest_written None (Some g) n l w is same h = absurd is
newest_written (Some f) None n l w is same h = absurd is

pub newest_mirror : (a b : Option FileLines) (n : Memory) → AreNewest a n n.lines → SyncsFile a b
    → MarksFit n → IsMirror b n
newest_mirror None None n h is marks = tt
newest_mirror (Some f) (Some g) n h is marks = attach g n
    (λ l. ap (λ (y : Copies). y.older) (is l))
    (λ l lt. subst (λ (y : Copies). AgreesAt l y.newest (n.cache l).newest) (sym (is l)) (h l lt))
    marks
newest_mirror None (Some g) n h is marks = absurd is
newest_mirror (Some f) None n h is marks = absurd is

-- A new file

zeros : (a : Option FileLines) (n : ℕ) → IsZeroFile a
    → IsMirror a (record { lines = n; cache = blank })
zeros None n h = tt
zeros (Some f) n h = record {
  covers = λ l lt v copy. ((λ p. pos 0), inl refl, λ p e. h l v copy (p % 8));
  ahead = λ l lt. ((λ p. pos 0), inl refl, λ p e. h l (f l).newest (inl refl) (p % 8));
  marks = λ l k e. absurd (no_mark None k refl e);
}

-- A new memory, and a file that is held or woken

blank_marks : (n : ℕ) → MarksFit (record { lines = n; cache = blank })
blank_marks n l k e = absurd (no_mark None k refl e)

pub asleep_mirroring : (s t : MirrorState) (d e : Bool) (a b : Option FileLines) (m : Memory)
    → t ≡ Asleep → IsMirroring s d a m → IsMirroring t e b m
asleep_mirroring s t d e a b m is h = record {
  well = h.well;
  covers = λ f. absurd (asleep_unmirrored t is f);
  mirrors = λ f. absurd (asleep_not_awake t is f);
  clean = λ f. absurd (asleep_not_awake t is f);
}

pub blank_mirroring : (s : MirrorState) (d : Bool) (a : Option FileLines) (m : Memory) (n : ℕ)
    → s ≡ Asleep → m ≡ record { lines = n; cache = blank } → IsMirroring s d a m
blank_mirroring s d a m n is e = mirroring_along s d a (record { lines = n; cache = blank }) m e
    (record {
      well = record { marks = blank_marks n; past = λ l le. refl };
      covers = λ f. absurd (asleep_unmirrored s is f);
      mirrors = λ f. absurd (asleep_not_awake s is f);
      clean = λ f. absurd (asleep_not_awake s is f);
    })

-- lines past the words are blank, and none has a mark

past_words : (words : List ℤ) (l p : ℕ) → length words % 8 ≡ 0 → length words / 8 ≤ l
    → newest_of words l p ≡ pos 0
past_words words l p whole past =
    let x : ℤ = slice_index_or words p (pos 0) in
    ⊎_elim
    (λ (same : p / 8 ≡ l).
    let out : length words ≤ p = omega arith in
    ap (λ (t : Bool). cond t x (pos 0)) (eq-eqb (p / 8) l same) ∙ get_or_past words p (pos 0) out)
    (λ (other : p / 8 ≢ l). ap (λ (t : Bool). cond t x (pos 0)) (ne_eqb (p / 8) l other))
    (cases_eq (p / 8) l)

filled_past : (words : List ℤ) (l : ℕ) → length words % 8 ≡ 0 → length words / 8 ≤ l
    → filled_cache words l ≡ blank_line
filled_past words l whole past = λ i. record {
  older = [];
  newest = λ p. past_words words l p whole past i;
  mark = None;
}

filled_well : (words : List ℤ) → length words % 8 ≡ 0 → IsWell (filled_memory words)
filled_well words whole = record {
  marks = λ l k e. absurd (no_mark None k refl e);
  past = λ l le. filled_past words l whole le;
}

pub filled_mirroring : (s : MirrorState) (d : Bool) (a : Option FileLines) (m : Memory)
    (words : List ℤ) → s ≡ Asleep → length words % 8 ≡ 0 → m ≡ filled_memory words
    → IsMirroring s d a m
filled_mirroring s d a m words is whole e = mirroring_along s d a (filled_memory words) m e
    (record {
      well = filled_well words whole;
      covers = λ f. absurd (asleep_unmirrored s is f);
      mirrors = λ f. absurd (asleep_not_awake s is f);
      clean = λ f. absurd (asleep_not_awake s is f);
    })

pub ruleset blanks = (blank_mirroring, mirroring_along)

pub ruleset fills = (filled_mirroring, mirroring_along)

pub wake_mirroring : (s t : MirrorState) (d e : Bool) (a b : Option FileLines) (m : Memory)
    → b ≡ a → ((s ≡ Awake → IsSynced d a) → t ≡ Awake → IsSynced e b) → IsMirror a m
    → IsMirroring s d a m → IsMirroring t e b m
wake_mirroring s t d e a b m same clean mirror h =
    let now : IsMirror b m = subst (λ (x : Option FileLines). IsMirror x m) (sym same) mirror in
    record {
      well = h.well;
      covers = λ f. mirror_covers b m now;
      mirrors = λ f. now;
      clean = clean h.clean;
    }

pub parts_mirror : (L F : Type 0) (memory : L → Memory) (content : F → Option FileLines)
    (p q : FileParts L F) → p ≡ q → IsMirror (file_shown content q) (memory q.lines)
    → IsMirror (file_shown content p) (memory p.lines)
parts_mirror L F memory content p q e h =
    subst (λ (r : FileParts L F). IsMirror (file_shown content r) (memory r.lines)) (sym e) h

pub file_same : (F : Type 0) (content : F → Option FileLines) (x y : Link F) → y.file ≡ x.file
    → shown content y ≡ shown content x
file_same F content x y e = ap (λ (o : Option F). shown_file content o) e

pub zero_mirror : (a b : Option FileLines) (m : Memory) (n : ℕ) → IsZeroFile a → b ≡ a
    → m ≡ record { lines = n; cache = blank } → IsMirror b m
zero_mirror a b m n zero e f = subst (λ (x : Memory). IsMirror b x) (sym f)
    (subst (λ (x : Option FileLines). IsMirror x (record { lines = n; cache = blank })) (sym e)
    (zeros a n zero))

-- an event that goes on
pub gate_done : (due : Bool) (s t : Switch) → Gate due Done s t → (s.on ≡ true) × (due ≡ false)
gate_done due s t h = (h.0, h.3)

-- A flush

pub flush_done : (o : Bool) (s t : MirrorState) (d e : Bool) (a b : Option FileLines)
    (m n : Memory) (l : ℕ) → l < m.lines → WritesNewest o t a l b m → o ≡ true
    → has_refused t ≡ false
    → (t ≡ Awake → s ≡ Awake) → (IsSynced d a → IsSynced e b) → n ≡ after m (Flush l)
    → IsMirroring s d a m → IsMirroring t e b n
flush_done o s t d e a b m n l lt is on ok fresh clean same h =
    mirroring_along t e b (after m (Flush l)) n same
    (live t e b (after m (Flush l)) ok (flush_well m l lt h.well)
    (λ awake. let w = is.0 on awake in
    mirror_flush a b m l w.0 w.2 w.1 (h.mirrors (fresh awake)))
    (λ awake. clean (h.clean (fresh awake))))

newest_covered : (a b : Option FileLines) (m : Memory) (l : ℕ)
    → StaysFile a b ⊎ WroteNewest a l b m → IsFileCovered a m → IsFileCovered b m
newest_covered a b m l is h = ⊎_elim
    (λ (stays : StaysFile a b). stays_covered a b m stays h)
    (λ (w : WroteNewest a l b m).
    writes_covered a b m l w.0 w.2 (λ lt. ((m.cache l).newest, inl refl, w.1)) h)
    is

pub flush_refused : (o : Bool) (s t : MirrorState) (d e : Bool) (a b : Option FileLines)
    (m n : Memory) (l : ℕ) → WritesNewest o t a l b m → (t ≡ Awake → s ≡ Awake)
    → is_mirrored t ≡ is_mirrored s → (IsSynced d a → IsSynced e b) → n ≡ m
    → IsMirroring s d a m → IsMirroring t e b n
flush_refused o s t d e a b m n l is fresh held clean same h =
    mirroring_along t e b m n same (record {
      well = h.well;
      covers = λ f. newest_covered a b m l is.1 (h.covers (sym held ∙ f));
      mirrors = λ awake. ⊎_elim
          (λ (stays : StaysFile a b). mirror_stays a b m stays (h.mirrors (fresh awake)))
          (λ (w : WroteNewest a l b m).
          mirror_writes a b m l w.0 w.2 w.1 (h.mirrors (fresh awake)))
          is.1;
      clean = λ awake. clean (h.clean (fresh awake));
    })

-- A fence

pub fence_done : (o : Bool) (s t : MirrorState) (d e : Bool) (a b : Option FileLines)
    (m n : Memory) → (o ≡ true → IsSynced d a → t ≡ Awake → SyncsFile a b) → o ≡ true
    → has_refused t ≡ false → (t ≡ Awake → s ≡ Awake)
    → (IsSynced d a → t ≡ Awake → IsSynced e b) → n ≡ after m Fence
    → IsMirroring s d a m → IsMirroring t e b n
fence_done o s t d e a b m n is on ok fresh clean same h =
    mirroring_along t e b (after m Fence) n same
    (live t e b (after m Fence) ok (fence_well m h.well)
    (λ awake. mirror_fence a b m (is on (h.clean (fresh awake)) awake) (h.mirrors (fresh awake)))
    (λ awake. clean (h.clean (fresh awake)) awake))

pub fence_refused : (s t : MirrorState) (d e : Bool) (a b : Option FileLines) (m n : Memory)
    → StaysFile a b ⊎ SyncsFile a b → (t ≡ Awake → s ≡ Awake) → is_mirrored t ≡ is_mirrored s
    → (IsSynced d a → t ≡ Awake → IsSynced e b) → n ≡ m → IsMirroring s d a m
    → IsMirroring t e b n
fence_refused s t d e a b m n either fresh held clean same h =
    mirroring_along t e b m n same (record {
      well = h.well;
      covers = λ f. sync_covered a b m either (h.covers (sym held ∙ f));
      mirrors = λ awake. ⊎_elim
          (λ (stays : StaysFile a b). mirror_stays a b m stays (h.mirrors (fresh awake)))
          (λ (syncs : SyncsFile a b). mirror_syncs a b m syncs (h.mirrors (fresh awake)))
          either;
      clean = λ awake. clean (h.clean (fresh awake)) awake;
    })

-- The loop over all lines: the lines before l are written

pub next_written : (s t : MirrorState) (a b : Option FileLines) (n : Memory) (l : ℕ)
    → WritesNewest true t a l b n → (t ≡ Awake → s ≡ Awake) → (s ≡ Awake → AreNewest a n l)
    → t ≡ Awake → AreNewest b n (l + 1)
next_written s t a b n l is fresh h awake =
    let w = is.0 refl awake in newest_written a b n l w.0 w.2 w.1 (h (fresh awake))

pub next_covered : (t : MirrorState) (a b : Option FileLines) (m n : Memory) (l : ℕ)
    → WritesNewest true t a l b n → IsOneOf m n → IsFileCovered a m → IsFileCovered b m
next_covered t a b m n l is one h = chosen_covered a b m n l is.1 one h

-- the file was a before the loop, b after it, and c after the sync
pub all_mirrored : (r s t : MirrorState) (d e f : Bool) (a b c : Option FileLines) (n : Memory)
    (count : ℕ) → (s ≡ Awake → r ≡ Awake) → (IsSynced d a → IsSynced e b)
    → (s ≡ Awake → AreNewest b n count) → count ≡ n.lines
    → (IsSynced e b → t ≡ Awake → SyncsFile b c) → (t ≡ Awake → s ≡ Awake)
    → (IsSynced e b → t ≡ Awake → IsSynced f c) → IsWell n
    → (r ≡ Awake → IsSynced d a) → IsMirroring (given_up t) f c n
all_mirrored r s t d e f a b c n count old kept newest all is fresh clean well was =
    let synced : t ≡ Awake → IsSynced e b = λ awake. kept (was (old (fresh awake))) in
    let mirror : t ≡ Awake → IsMirror c n = λ awake. newest_mirror b c n
    (subst (λ (j : ℕ). AreNewest b n j) all (newest (fresh awake)))
    (is (synced awake) awake) well.marks in
    record {
      well = well;
      covers = λ g. mirror_covers c n (mirror (given_up_mirrored t g));
      mirrors = λ g. mirror (given_up_awake t g);
      clean = λ g. clean (synced (given_up_awake t g)) (given_up_awake t g);
    }

pub given_mirroring : (F : Type 0) (content : F → Option FileLines) (x y : Link F) (n : Memory)
    → y ≡ record { file = x.file; state = given_up x.state; dirty = x.dirty }
    → IsMirroring (given_up x.state) x.dirty (shown content x) n
    → IsMirroring y.state y.dirty (shown content y) n
given_mirroring F content x y n e h =
    subst (λ (k : Link F). IsMirroring k.state k.dirty (shown content k) n) (sym e) h

-- A power cut

pub power_mirroring : (s t : MirrorState) (d e : Bool) (a b : Option FileLines) (m n : Memory)
    (choice : Choice) → n ≡ collapse m choice
    → (IsWell n → (s ≡ Awake → IsSynced d a) → IsMirroring t e b n)
    → IsMirroring s d a m → IsMirroring t e b n
power_mirroring s t d e a b m n choice left all h =
    all (subst (λ (j : Memory). IsWell j) (sym left) (left_well m choice h.well)) h.clean
