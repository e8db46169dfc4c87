-- The end of a run that halts, and of one that traps.
use Rattle.pool_layout.specs.Sizes.{heap_words}
use Rattle.std.proofs.Common.{◌≡◌, ◌≢◌, ◌⊎◌, inl, inr, ⊎_elim, ℕ, suc, ◌+◌, ◌^◌, ◌<◌, ◌≤◌, ◌==◌}
use Rattle.std.proofs.Common.{cond, Bool, true, false, List, [], ◌∷◌, ℤ, pos, refl, sym, ap, ◌∙◌}
use Rattle.std.proofs.Common.{subst, arith, eqb-true}
use Rattle.std.proofs.lemmas.Bool.{cases_eq, cases_lt, or_cases}
use Rattle.cache_model.specs.Event.{CacheEvent, Store, Flush, Fence}
use Rattle.cache_model.specs.Cache.{Words, Cache, view}
use Rattle.cache_model.specs.Play.{apply}
use Rattle.cache_model.specs.Image.{IsVersion, Images}
use Rattle.pool_layout.specs.declared.places.Place.{Place}
use Rattle.pool_layout.specs.declared.places.Place.TheVariants.{Last, Done, Attempt, Mark, Argument}
use Rattle.pool_layout.specs.declared.places.Place.TheVariants.{Seal, RecordWord, RecordOld}
use Rattle.pool_layout.specs.declared.places.Place.TheVariants.{RecordStamp, Heap, Spare}
use Rattle.pool_layout.specs.declared.limits.Sizes.{Sizes}
use Rattle.pool_layout.specs.declared.places.Layout.{Layout}
use Rattle.pool_layout.specs.Places.{at, line_of, IsPlace, pool_of}
use Rattle.pool_layout.specs.Good.{Lost}
use Rattle.crash_law.specs.Pools.{Owed, IsDone, IsRetired}
use Rattle.crash_law.specs.Due.{Entry, word_of_entry, is_listed, lines_of, flush_all, IsStored}
use Rattle.args_log.specs.Retire.{retire_events, mark_events}
use Rattle.cache_model.proofs.Views.{view_same, view_other, view_flush}
use Rattle.cache_model.proofs.Ready.{flush_ready, fence_single}
use Rattle.cache_model.proofs.Versions.{fence_version}
use Rattle.cache_model.specs.Play.{IsReady}
use Rattle.cache_model.specs.inside.During.{Through}
use Rattle.crash_law.proofs.Held.{Cover, cover_more, cover_image, cover_view, cover_store}
use Rattle.crash_law.proofs.Held.{cover_flush, Held, held_image, held_flush, held_cover, held_store}
use Rattle.crash_law.proofs.Held.{held_single}
use Rattle.pool_layout.proofs.Records.{pos_inj, count_is}
use Rattle.pool_layout.specs.Log.{count}
use Rattle.crash_law.proofs.Records.{HasRecord, found}
use Rattle.crash_law.proofs.Fine.{Fine, ok, Setting, owing, at_rest, good_image, IsFine, StampIs}
use Rattle.crash_law.proofs.Run.{Allowed, running, Recorded, Running, pick, covered}

-- lists of lines

abbrev pub IsIn : ℕ → List ℕ → Type 0
IsIn l [] = ⊥
IsIn l (k ∷ ks) = (l ≡ k) ⊎ IsIn l ks

pub in_or_out : (l : ℕ) (ls : List ℕ) → IsIn l ls ⊎ (IsIn l ls → ⊥)
in_or_out l [] = inr (λ none. none)
in_or_out l (k ∷ ks) = ⊎_elim (λ (e : l ≡ k). inl (inl e))
    (λ (ne : l ≡ k → ⊥). ⊎_elim (λ there. inl (inr there)) (λ absent. inr (λ h. ⊎_elim ne absent h))
    (in_or_out l ks))
    (cases_eq l k)

listed_in : (l : ℕ) (ls : List ℕ) → is_listed l ls ≡ true → IsIn l ls
listed_in l [] e = absurd (cc)
listed_in l (k ∷ ks) e = ⊎_elim (λ here. inl (eqb-true l k here))
    (λ there. inr (listed_in l ks there)) (or_cases (l == k) (is_listed l ks) e)

-- the line of each word of the trace is in the list
stored_line : (z : Sizes) (trace : List Entry) (seen : List ℕ) (w : ℕ) → IsStored w trace →
    IsIn (line_of (pool_of z) (Heap w)) seen
    ⊎ IsIn (line_of (pool_of z) (Heap w)) (lines_of z seen trace)
stored_line z [] seen w stored = absurd stored
stored_line z (e ∷ trace) seen w stored =
    by_case (line_of (pool_of z) (Heap (word_of_entry e)))
    (is_listed (line_of (pool_of z) (Heap (word_of_entry e))) seen) seen (lines_of z seen trace)
    (lines_of z (line_of (pool_of z) (Heap (word_of_entry e)) ∷ seen) trace)
    (listed_in (line_of (pool_of z) (Heap (word_of_entry e))) seen)
    (⊎_elim (λ (same : w ≡ word_of_entry e).
    inl (ap (λ (u : ℕ). line_of (pool_of z) (Heap u)) same))
    (λ later.
    inr (
      stored_line z trace seen w later,
      stored_line z trace
          (line_of (pool_of z) (Heap (word_of_entry e)) ∷ seen) w later,
    )) stored)
  where
    by_case : (l : ℕ) (b : Bool) (seen' : List ℕ) (old new : List ℕ) → (b ≡ true → IsIn l seen') →
        (line_of (pool_of z) (Heap w) ≡ l)
        ⊎ ((IsIn (line_of (pool_of z) (Heap w)) seen' ⊎ IsIn (line_of (pool_of z) (Heap w)) old)
        × (IsIn (line_of (pool_of z) (Heap w)) (l ∷ seen')
        ⊎ IsIn (line_of (pool_of z) (Heap w)) new)) →
        IsIn (line_of (pool_of z) (Heap w)) seen'
        ⊎ IsIn (line_of (pool_of z) (Heap w)) (cond b old (l ∷ new))
    by_case l true seen' old new was (inl same) =
        inl (subst (λ (k : ℕ). IsIn k seen') (sym same) (was refl))
    by_case l true seen' old new was (inr later) = later.0
    by_case l false seen' old new was (inl same) = inr (inl same)
    by_case l false seen' old new was (inr later) =
        ⊎_elim (λ h. ⊎_elim (λ here. inr (inl here)) (λ s. inl s) h) (λ n. inr (inr n)) later.1

pub stored_listed : (z : Sizes) (trace : List Entry) (w : ℕ) → IsStored w trace →
    IsIn (line_of (pool_of z) (Heap w)) (lines_of z [] trace)
stored_listed z trace w stored =
    ⊎_elim (λ none. absurd none) (λ h. h) (stored_line z trace [] w stored)

module _ (s : Setting) (a : ℕ) (a_fits : a ≤ 2 ^ 62) where
  abbrev C : Layout
  C = pool_of s.pool.sizes

  abbrev H : ℕ
  H = heap_words s.pool.sizes

  abbrev Run : (n : ℕ) → (word old heap : ℕ → ℤ) → Cache → Type 0
  Run n word old heap c = Running s a a_fits n word old heap c

  abbrev pub IsOwed : Words → Type 0
  IsOwed image = Owed s.pool s.call s.E s.W s.h s.kept image

  -- the flushes of the heap's lines
  flush_part : (Q F : Cache → Type 0) (owed : (d : Cache) → Images IsOwed d → Q d) (ls : List ℕ)
      (rest : List CacheEvent) (n : ℕ) (word old heap : ℕ → ℤ) (c : Cache) (ready : ℕ → Type 0)
      → Run n word old heap c → ((l : ℕ) → ready l → IsReady (c l))
      → ((d : Cache) → Run n word old heap d → ((l : ℕ) → ready l ⊎ IsIn l ls → IsReady (d l))
      → Through Q F d rest) → Through Q F c (flush_all ls rest)
  flush_part Q F owed [] rest n word old heap c ready run is next =
      next c run (λ l h. is l (⊎_elim (λ r. r) (λ none. absurd none) h))
  flush_part Q F owed (k ∷ ks) rest n word old heap c ready run is next =
      let run' : Run n word old heap (apply c (Flush k)) = record {
        facts = run.facts;
        cover = cover_flush C (ok (running s a a_fits n word old)) c k run.cover;
        heap_is = λ w lt. view_flush c k (at C (Heap w)) ∙ run.heap_is w lt;
      } in (
        owed c (covered s a a_fits n word old c run.facts run.cover),
        flush_part Q F owed ks rest n word old heap (apply c (Flush k))
            (λ l. ready l ⊎ (l ≡ k)) run'
            (λ l h. flush_ready c k l (λ ne. ⊎_elim (λ r. is l r) (λ e. absurd (ne e)) h))
            (λ d run_d all. next d run_d (λ l h.
            all l (⊎_elim (λ r. inl (inl r))
            (λ in_ks. ⊎_elim (λ e. inl (inr e)) (λ later. inr later) in_ks) h))),
      )

  -- the heap is durable
  abbrev pub settled : (n : ℕ) → (word old heap : ℕ → ℤ) → Fine
  settled n word old heap = owing s a n word old (λ w x. w < H → x ≡ heap w)

  pub record Settled (n : ℕ) (word old heap : ℕ → ℤ) (c : Cache) : Type 0 where
    pub facts : Recorded s a a_fits n word old
    pub allowed : (w : ℕ) → Allowed s a a_fits n word old w (heap w)
    pub cover : Cover C (ok (settled n word old heap)) c

  still : (n : ℕ) (word old heap : ℕ → ℤ) → ((w : ℕ) → Allowed s a a_fits n word old w (heap w))
      → (q : Place) → IsPlace C q → (x : ℤ) → ok (settled n word old heap) q x
      → ok (running s a a_fits n word old) q x
  still n word old heap allowed (Heap w) is x fine =
      λ lt. subst (λ (y : ℤ). (y ≡ s.r w) ⊎ (s.W w × (s.E w → HasRecord (found word old n w))))
      (sym (fine lt)) (allowed w lt)
  still n word old heap allowed q is x fine = fine

  pub settled_owed : (n : ℕ) (word old heap : ℕ → ℤ) (c : Cache) → Settled n word old heap c
      → Images IsOwed c
  settled_owed n word old heap c st =
      covered s a a_fits n word old c st.facts
      (cover_more C (ok (settled n word old heap)) (ok (running s a a_fits n word old)) c
      (still n word old heap st.allowed) st.cover)

  settle_word : (n : ℕ) (word old heap : ℕ → ℤ) (c : Cache) (w : ℕ) (v : Words)
      → Run n word old heap c → IsReady (c (line_of C (Heap w))) ⊎ (s.W w → ⊥)
      → IsVersion (apply c Fence (line_of C (Heap w))) v → w < H → v (at C (Heap w)) ≡ heap w
  unfolding view
  settle_word n word old heap c w v run (inl ready) ver lt =
      let newest : v ≡ (c (line_of C (Heap w))).newest =
      fence_single c (line_of C (Heap w)) v ready ver in
      ap (λ (u : Words). u (at C (Heap w))) newest ∙ run.heap_is w lt
  settle_word n word old heap c w v run (inr outside) ver lt =
      let this = run.cover.each (Heap w) lt v (fence_version c (line_of C (Heap w)) v ver) lt in
      let new = cover_view C (ok (running s a a_fits n word old)) c run.cover (Heap w) lt lt in
      let this_r : v (at C (Heap w)) ≡ s.r w = ⊎_elim (λ e. e) (λ st. absurd (outside st.0)) this in
      let new_r : view c (at C (Heap w)) ≡ s.r w =
      ⊎_elim (λ e. e) (λ st. absurd (outside st.0)) new in
      this_r ∙ sym new_r ∙ run.heap_is w lt

  settle_each : (n : ℕ) (word old heap : ℕ → ℤ) (c : Cache) → Run n word old heap c
      → ((w : ℕ) → w < H → IsReady (c (line_of C (Heap w))) ⊎ (s.W w → ⊥)) → (q : Place)
      → IsPlace C q
      → (v : Words) → IsVersion (apply c Fence (line_of C q)) v
      → ok (settled n word old heap) q (v (at C q))
  settle_each n word old heap c run ready (Heap w) is v ver =
      λ lt. settle_word n word old heap c w v run (ready w lt) ver lt
  settle_each n word old heap c run ready q is v ver =
      run.cover.each q is v (fence_version c (line_of C q) v ver)

  -- a fence makes the heap durable if each line of W is flushed
  pub settle : (n : ℕ) (word old heap : ℕ → ℤ) (c : Cache) → Run n word old heap c
      → ((w : ℕ) → w < H → IsReady (c (line_of C (Heap w))) ⊎ (s.W w → ⊥))
      → Settled n word old heap (apply c Fence)
  settle n word old heap c run ready = record {
    facts = run.facts;
    allowed = λ w lt. subst (λ (y : ℤ). (y ≡ s.r w)
        ⊎ (s.W w × (s.E w → HasRecord (found word old n w)))) (run.heap_is w lt)
        (cover_view C (ok (running s a a_fits n word old)) c run.cover (Heap w) lt lt);
    cover = record { each = settle_each n word old heap c run ready };
  }

  -- the words of line 2, read from the view
  pub line_two : (f : Fine) (c : Cache) → f.last (view c (at C Last)) → f.done (view c (at C Done))
      → f.attempt (view c (at C Attempt)) → f.mark (view c (at C Mark)) → (q : Place) → IsPlace C q
      → line_of C q ≡ 2 → ok f q (view c (at C q))
  line_two f c l d t m Last is e = l
  line_two f c l d t m Done is e = d
  line_two f c l d t m Attempt is e = t
  line_two f c l d t m Mark is e = m
  line_two f c l d t m (Spare k) is e = tt
  line_two f c l d t m q is e = absurd (omega arith)

  module _ (n : ℕ) (word old heap : ℕ → ℤ) (value : ℤ) where
    pub fits : suc s.call.done ≤ 2 ^ 62 + 1
    fits = let le = s.done_fits in omega arith

    -- the call is done, with this attempt, of whose stamps the first m are valid
    abbrev pub done_with : (b m : ℕ) → Fine
    done_with b m = at_rest s.pool (suc s.call.done) heap fits b m (λ x. x ≡ value)
        (λ x. x ≡ pos (suc s.call.done))

    pub data Stage : Type 0 where
      Before Counted Fresh : Stage

    abbrev pub stage : Stage → Place → ℤ → Type 0
    stage Before = ok (settled n word old heap)
    stage Counted = ok (done_with a n)
    stage Fresh = ok (done_with (suc a) 0)

    to_retired : (q : Place) → IsPlace C q → line_of C q ≢ 2 → (x : ℤ) → stage Before q x
        → stage Counted q x
    to_retired Last is ne x fine = absurd (ne refl)
    to_retired Done is ne x fine = absurd (ne refl)
    to_retired Attempt is ne x fine = absurd (ne refl)
    to_retired (Argument k) is ne x fine = tt
    to_retired (RecordWord j) is ne x fine = tt
    to_retired (RecordOld j) is ne x fine = tt
    to_retired q is ne x fine = fine

    fresh_stamp : (j : ℕ) (x : ℤ) → StampIs a n j x → StampIs (suc a) 0 j x
    fresh_stamp j x fine = (
      λ lt. absurd (omega arith),
      λ ge.
          ⊎_elim (λ (lt : j < n). (suc a, omega arith, fine.0 lt)) (λ (le : n ≤ j).
          let u = fine.1 le in
          (u.0, omega (arith, u.1), u.2)) (cases_lt j n),
    )

    to_fresh : (q : Place) → IsPlace C q → line_of C q ≢ 2 → (x : ℤ) → stage Counted q x
        → stage Fresh q x
    to_fresh Attempt is ne x fine = absurd (ne refl)
    to_fresh (RecordStamp j) is ne x fine = fresh_stamp j x fine
    to_fresh q is ne x fine = fine

    at_each : (q : Place) → IsPlace C q → line_of C q ≢ 2 → (x : ℤ) → stage Before q x → (k : Stage)
        → stage k q x
    at_each q is ne x fine Before = fine
    at_each q is ne x fine Counted = to_retired q is ne x fine
    at_each q is ne x fine Fresh = to_fresh q is ne x (to_retired q is ne x fine)

    pub done_image : (b m : ℕ) (image : Words) → b ≤ 2 ^ 62 + 1 → IsFine C (done_with b m) image
        → IsDone s.pool (suc s.call.done) heap value image
    done_image b m image b_fits fine = record {
      good = good_image s.pool (suc s.call.done) heap fits b m (λ x. x ≡ value)
          (λ x. x ≡ pos (suc s.call.done)) image b_fits
          (λ x e e'. let same : suc s.call.done ≡ suc (suc s.call.done) = pos_inj (suc s.call.done)
          (suc (suc s.call.done)) (sym e ∙ e') in absurd (omega arith)) fine;
      last_is = fine Last tt;
      seal_is = fine Seal tt;
    }

    -- at the end each stamp is below that of the attempt that begins
    emptied : (image : Words) → IsFine C (done_with (suc a) 0) image → (b : ℕ)
        → image (at C Attempt) ≡ pos b → count C b image ≡ 0
    emptied image fine b is =
        let same : suc a ≡ b = pos_inj (suc a) b (sym (fine Attempt tt) ∙ is) in
        subst (λ (i : ℕ). count C i image ≡ 0) same
        (count_is C (suc a) 0 image (omega arith) (λ j lt. absurd (omega arith))
        (λ j ge lt e. let u = (fine (RecordStamp j) lt).1 ge in
        absurd (omega (arith, u.1, pos_inj (suc (suc a)) u.0 (sym e ∙ u.2)))))

    abbrev Retired : Words → Type 0
    Retired image = IsRetired s.pool (suc s.call.done) heap value image

    all_retired : (c : Cache) → Cover C (stage Fresh) c → Images Retired c
    all_retired c cover image im =
        let fine : IsFine C (done_with (suc a) 0) image =
        λ q is. cover_image C (stage Fresh) c image cover im q is in
        record {
          done = done_image (suc a) 0 image (omega arith) fine;
          empty = emptied image fine;
        }

    abbrev pub OwedOrDone : Words → Type 0
    OwedOrDone image = IsOwed image ⊎ IsDone s.pool (suc s.call.done) heap value image

    owed_before : (image : Words) → Recorded s a a_fits n word old
        → ((w : ℕ) → Allowed s a a_fits n word old w (heap w))
        → ((q : Place) → IsPlace C q → stage Before q (image (at C q))) → IsOwed image
    owed_before image facts allowed fine =
        pick s a a_fits n word old image facts
        (λ q is. still n word old heap allowed q is (image (at C q)) (fine q is))

    of_stage : (image : Words) → Recorded s a a_fits n word old
        → ((w : ℕ) → Allowed s a a_fits n word old w (heap w)) → (k : Stage)
        → ((q : Place) → IsPlace C q → stage k q (image (at C q))) → OwedOrDone image
    of_stage image facts allowed Before fine = inl (owed_before image facts allowed fine)
    of_stage image facts allowed Counted fine = inr (done_image a n image (omega arith) fine)
    of_stage image facts allowed Fresh fine = inr (done_image (suc a) 0 image (omega arith) fine)

    -- from the durable heap to the call that is done
    pub retire_part : s.kept value → (c : Cache) → Settled n word old heap c →
        Through (Images OwedOrDone) (Images Retired) c
        (retire_events value (pos (suc s.call.done)) (pos (suc a)))
    unfolding retire_events
    retire_part keeps c st =
        let now = stage Before in
        let k : ℕ = suc s.call.done in
        let c1 : Cache = apply c (Store (at C Last) value) in
        let c2 : Cache = apply c1 (Store (at C Done) (pos k)) in
        let c3 : Cache = apply c2 (Store (at C Attempt) (pos (suc a))) in
        let c4 : Cache = apply c3 (Flush 2) in
        let cover1 : Cover C now c1 = cover_store C now c Last value tt keeps st.cover in
        let st1 : Settled n word old heap c1 =
        record { facts = st.facts; allowed = st.allowed; cover = cover1 } in
        let last1 : view c1 (at C Last) ≡ value = view_same c (at C Last) value in
        let attempt1 : view c1 (at C Attempt) ≡ pos a = cover_view C now c1 cover1 Attempt tt in
        let mark1 : view c1 (at C Mark) ≡ pos 0 = cover_view C now c1 cover1 Mark tt in
        let last2 : view c2 (at C Last) ≡ value =
        view_other c1 (at C Done) (at C Last) (pos k) (omega arith) ∙ last1 in
        let done2 : view c2 (at C Done) ≡ pos k = view_same c1 (at C Done) (pos k) in
        let attempt2 : view c2 (at C Attempt) ≡ pos a =
        view_other c1 (at C Done) (at C Attempt) (pos k) (omega arith) ∙ attempt1 in
        let mark2 : view c2 (at C Mark) ≡ pos 0 =
        view_other c1 (at C Done) (at C Mark) (pos k) (omega arith) ∙ mark1 in
        let last3 : view c3 (at C Last) ≡ value =
        view_other c2 (at C Attempt) (at C Last) (pos (suc a)) (omega arith) ∙ last2 in
        let done3 : view c3 (at C Done) ≡ pos k =
        view_other c2 (at C Attempt) (at C Done) (pos (suc a)) (omega arith) ∙ done2 in
        let attempt3 : view c3 (at C Attempt) ≡ pos (suc a) =
        view_same c2 (at C Attempt) (pos (suc a)) in
        let mark3 : view c3 (at C Mark) ≡ pos 0 =
        view_other c2 (at C Attempt) (at C Mark) (pos (suc a)) (omega arith) ∙ mark2 in
        let held1 : Held C 2 stage c1 = held_cover C 2 stage c1 Before cover1 at_each in
        let held2 : Held C 2 stage c2 =
        held_store C 2 stage c1 Done (pos k) Counted refl
        (line_two (done_with a n) c2 last2 done2 attempt2 mark2) held1 in
        let held3 : Held C 2 stage c3 =
        held_store C 2 stage c2 Attempt (pos (suc a)) Fresh refl
        (line_two (done_with (suc a) 0) c3 last3 done3 attempt3 mark3) held2 in
        let held4 : Held C 2 stage c4 = held_flush C 2 stage c3 2 held3 in
        let new4 = line_two (done_with (suc a) 0) c4 (view_flush c3 2 (at C Last) ∙ last3)
        (view_flush c3 2 (at C Done) ∙ done3) (view_flush c3 2 (at C Attempt) ∙ attempt3)
        (view_flush c3 2 (at C Mark) ∙ mark3) in
        let cover5 : Cover C (stage Fresh) (apply c4 Fence) =
        held_single C 2 stage c4 Fresh (flush_ready c3 2 2 (λ ne. absurd (ne refl))) new4 held4 in
        let choose : (d : Cache) → Held C 2 stage d → Images OwedOrDone d =
        λ d held image im. let f = held_image C 2 stage d image held im in
        of_stage image st.facts st.allowed f.0 f.1 in (
          (λ image im. inl (settled_owed n word old heap c st image im)),
          (
            (λ image im. inl (settled_owed n word old heap c1 st1 image im)),
            (
              choose c2 held2,
              (
                choose c3 held3,
                (
                  choose c4 held4,
                  (
                    (λ image im. inr (all_retired (apply c4 Fence) cover5 image im).done),
                    all_retired (apply c4 Fence) cover5,
                  ),
                ),
              ),
            ),
          ),
        )

    pub finish_part : s.kept value → (c : Cache) (ls : List ℕ) → Run n word old heap c →
        ((w : ℕ) → s.W w → IsIn (line_of C (Heap w)) ls) →
        Through (Images OwedOrDone) (Images Retired) c
        (flush_all ls (Fence ∷ retire_events value (pos (suc s.call.done)) (pos (suc a))))
    finish_part keeps c ls run listed =
        let Q : Cache → Type 0 = Images OwedOrDone in
        let F : Cache → Type 0 = Images Retired in
        flush_part Q F (λ d q image im. inl (q image im)) ls
        (Fence ∷ retire_events value (pos (suc s.call.done)) (pos (suc a))) n word old heap c
        (λ l. ⊥) run (λ l none. absurd none)
        (λ d run_d ready. (
          (λ image im. inl (covered s a a_fits n word old d run_d.facts run_d.cover image im)),
          retire_part keeps (apply d Fence) (settle n word old heap d run_d
              (λ w lt. ⊎_elim (λ here. inl (ready (line_of C (Heap w)) (inr here))) (λ absent.
              inr (λ stored. absent (listed w stored))) (in_or_out (line_of C (Heap w)) ls))),
        ))

  -- a run that traps

  abbrev pub OwedOrLost : ℕ → Words → Type 0
  OwedOrLost trap image = IsOwed image ⊎ Lost s.pool.sizes trap image

  abbrev pub lost : ℕ → Place → ℤ → Type 0
  lost trap Mark x = x ≡ pos trap
  lost trap q x = Unit {0}

  abbrev owed_or_lost : (n : ℕ) → (word old : ℕ → ℤ) → ℕ → Bool → Place → ℤ → Type 0
  owed_or_lost n word old trap true = ok (running s a a_fits n word old)
  owed_or_lost n word old trap false = lost trap

  any_lost : (trap : ℕ) (q : Place) → line_of C q ≢ 2 → (x : ℤ) → lost trap q x
  any_lost trap Mark ne x = absurd (ne refl)
  any_lost trap q ne x = tt

  at_both : (n : ℕ) (word old : ℕ → ℤ) (trap : ℕ) (q : Place) → IsPlace C q → line_of C q ≢ 2
      → (x : ℤ) → owed_or_lost n word old trap true q x → (b : Bool)
      → owed_or_lost n word old trap b q x
  at_both n word old trap q is ne x fine true = fine
  at_both n word old trap q is ne x fine false = any_lost trap q ne x

  marked : (trap : ℕ) (c : Cache) → view c (at C Mark) ≡ pos trap → (q : Place)
      → lost trap q (view c (at C q))
  marked trap c e Mark = e
  marked trap c e q = tt

  of_trap : (n : ℕ) (word old : ℕ → ℤ) (trap : ℕ) (image : Words) → 0 < trap
      → Recorded s a a_fits n word old → (b : Bool)
      → ((q : Place) → IsPlace C q → owed_or_lost n word old trap b q (image (at C q)))
      → OwedOrLost trap image
  of_trap n word old trap image is facts true fine =
      inl (pick s a a_fits n word old image facts fine)
  of_trap n word old trap image is facts false fine = inr (fine Mark tt, is)

  pub trap_part : (n : ℕ) (word old heap : ℕ → ℤ) (trap : ℕ) (c : Cache) → 0 < trap →
      Run n word old heap c →
      Through (Images (OwedOrLost trap)) (Images (Lost s.pool.sizes trap)) c (mark_events trap)
  unfolding mark_events
  trap_part n word old heap trap c positive run =
      let either = owed_or_lost n word old trap in
      let c1 : Cache = apply c (Store (at C Mark) (pos trap)) in
      let c2 : Cache = apply c1 (Flush 2) in
      let held : Held C 2 either c =
      held_cover C 2 either c true run.cover (at_both n word old trap) in
      let mark1 : view c1 (at C Mark) ≡ pos trap = view_same c (at C Mark) (pos trap) in
      let held1 : Held C 2 either c1 =
      held_store C 2 either c Mark (pos trap) false refl (λ q is e.
      marked trap c1 mark1 q) held in
      let held2 : Held C 2 either c2 = held_flush C 2 either c1 2 held1 in
      let cover3 : Cover C (lost trap) (apply c2 Fence) =
      held_single C 2 either c2 false (flush_ready c1 2 2 (λ ne. absurd (ne refl))) (λ q is e.
      marked trap c2 (view_flush c1 2 (at C Mark) ∙ mark1) q) held2 in
      let choose : (d : Cache) → Held C 2 either d → Images (OwedOrLost trap) d =
      λ d h image im. let f = held_image C 2 either d image h im in
      of_trap n word old trap image positive run.facts f.0 f.1 in
      let all_lost : Images (Lost s.pool.sizes trap) (apply c2 Fence) =
      λ image im. (cover_image C (lost trap) (apply c2 Fence) image cover3 im Mark tt, positive)
      in (
        (λ image im. inl (covered s a a_fits n word old c run.facts run.cover image im)),
        (choose c1 held1, (choose c2 held2, ((λ image im. inr (all_lost image im)), all_lost))),
      )
