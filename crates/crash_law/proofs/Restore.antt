-- Recovery: the records are restored, the attempt is raised, and the run is that of a call.
use Rattle.pool_layout.specs.Sizes.{heap_words}
use Rattle.std.proofs.Common.{◌≡◌, ◌≢◌, inl, ⊎_elim, ℕ, zero, suc, ◌^◌, ◌<◌, ◌≤◌, Bool, true, false}
use Rattle.std.proofs.Common.{List, ◌∷◌, Option, Some, None, ℤ, pos, nat_abs, refl, sym, ap, ◌∙◌}
use Rattle.std.proofs.Common.{subst, arith, cond, int_eq}
use Rattle.std.proofs.lemmas.Bool.Decides.{Decides-int_eq}
use Rattle.std.proofs.lemmas.Bool.{cases_eq, cases_lt}
use Rattle.cache_model.specs.Event.{CacheEvent, Store, Flush, Fence}
use Rattle.cache_model.specs.Cache.{Words, Cache, view}
use Rattle.cache_model.specs.Play.{apply}
use Rattle.cache_model.specs.Image.{IsVersion, Images}
use Rattle.pool_layout.specs.declared.places.Place.{Place}
use Rattle.pool_layout.specs.declared.places.Place.TheVariants.{Last, Done, Attempt, Mark}
use Rattle.pool_layout.specs.declared.places.Place.TheVariants.{RecordWord, RecordOld, RecordStamp}
use Rattle.pool_layout.specs.declared.places.Place.TheVariants.{Heap}
use Rattle.pool_layout.specs.declared.places.Layout.{Layout}
use Rattle.pool_layout.specs.Places.{at, line_of, IsPlace, pool_of}
use Rattle.pool_layout.specs.Restored.{undo, undone}
use Rattle.crash_law.specs.Pools.{Owed}
use Rattle.crash_law.proofs.Walks.{restore_walk, reset_walk}
use Rattle.cache_model.proofs.Views.{view_same, view_other, view_flush, view_fence}
use Rattle.cache_model.proofs.Ready.{flush_ready, fence_single}
use Rattle.cache_model.proofs.Versions.{fence_version, store_other}
use Rattle.cache_model.specs.Play.{IsReady}
use Rattle.cache_model.specs.inside.During.{Through}
use Rattle.crash_law.proofs.Held.{Cover, cover_image, cover_view, cover_store, cover_flush, Held}
use Rattle.crash_law.proofs.Held.{held_image, held_flush, held_cover, held_store, held_single}
use Rattle.pool_layout.proofs.Records.{pos_inj}
use Rattle.pool_layout.proofs.Undone.{if_false}
use Rattle.clobber_log.proofs.Backwards.{undone_same}
use Rattle.crash_law.proofs.Records.{found, found_has, found_record, nothing}
use Rattle.crash_law.proofs.Fine.{Fine, ok, Setting, owing, owed_image, IsFine, StampIs}
use Rattle.crash_law.proofs.Run.{running, Recorded, Running, pick}
use Rattle.crash_law.proofs.Finish.{line_two}

pub undo_named : (b : Bool) (old x : ℤ) → b ≡ true → cond b old x ≡ old
undo_named true old x e = refl
undo_named false old x e = absurd (cc)

module _ (s : Setting) (a : ℕ) (a_fits : a ≤ 2 ^ 62) (n : ℕ) (word old : ℕ → ℤ)
    (room : n ≤ s.pool.sizes.records)
    (in_heap : (j : ℕ) → j < n → (u : ℕ) × (word j ≡ pos u) × (u < heap_words s.pool.sizes))
    (recorded : (w : ℕ) → w < heap_words s.pool.sizes → (y : ℤ) → found word old n w ≡ Some y
    → y ≡ s.r w) where
  abbrev C : Layout
  C = pool_of s.pool.sizes

  abbrev H : ℕ
  H = heap_words s.pool.sizes

  -- while restoring, only words without a record are known
  abbrev pub restoring : Fine
  restoring = owing s a n word old (λ w x. w < H → found word old n w ≡ None → x ≡ s.r w)

  abbrev pub OwedNow : Cache → Type 0
  OwedNow = Images (Owed s.pool s.call s.E s.W s.h s.kept)

  restoring_image : (image : Words) → IsFine C restoring image
      → Owed s.pool s.call s.E s.W s.h s.kept image
  restoring_image image fine = owed_image s a n word old (λ w x. w < H → found word old n w ≡ None
      → x ≡ s.r w) image a_fits room in_heap
      (λ w lt kept y is. recorded w lt y is ∙ s.from w lt kept)
      (λ w x lt kept fine_w absent. fine_w lt absent ∙ s.from w lt kept)
      fine

  pub restoring_owed : (c : Cache) → Cover C (ok restoring) c → OwedNow c
  restoring_owed c cover image im =
      restoring_image image (λ q is. cover_image C (ok restoring) c image cover im q is)

  abbrev pub seen : Cache → ℕ → ℤ
  seen c w = view c (at C (Heap w))

  abbrev pub line_at : ℕ → ℕ
  line_at j = line_of C (Heap (nat_abs (word j)))

  -- the effect of storing a record's old value on the heap in view
  undo_view : (c : Cache) (x old' : ℤ) (u w : ℕ) → x ≡ pos u
      → seen (apply c (Store (at C (Heap u)) old')) w ≡ undo x old' (seen c) w
  undo_view c x old' u w e = ⊎_elim
      (λ (same : w ≡ u). subst (λ (v : ℕ). seen (apply c (Store (at C (Heap u)) old')) v
      ≡ undo x old' (seen c) v) (sym same) (view_same c (at C (Heap u)) old'
      ∙ sym (undo_named (int_eq x (pos u)) old' (seen c u) ((Decides-int_eq x (pos u)).1 e))))
      (λ (ne : w ≢ u). view_other c (at C (Heap u)) (at C (Heap w)) old' (omega arith)
      ∙ sym (if_false (int_eq x (pos w)) old' (seen c w)
      (λ h. ne (pos_inj w u (sym ((Decides-int_eq x (pos w)).0 h) ∙ e)))))
      (cases_eq w u)

  pub restore_part : (Q F : Cache → Type 0) (inside : (d : Cache) → OwedNow d →
      Q d) (m : ℕ) (rest : List CacheEvent) (c : Cache) → m ≤ n → Cover C (ok restoring) c →
      ((w : ℕ) → w < H → undone word old m (seen c) w ≡ s.r w) →
      ((j : ℕ) → m ≤ j → j < n → IsReady (c (line_at j))) →
      ((d : Cache) → Cover C (ok restoring) d → ((w : ℕ) → w < H → seen d w ≡ s.r w) →
      ((j : ℕ) → j < n → IsReady (d (line_at j))) → Through Q F d rest) →
      Through Q F c (restore_walk C word old m rest)
  restore_part Q F inside zero rest c le cover left ready next =
      next c cover left (λ j lt. ready j (omega arith) lt)
  restore_part Q F inside (suc m) rest c le cover left ready next =
      let k : ℕ = nat_abs (word m) in
      let u = in_heap m (omega arith) in
      let word_is : word m ≡ pos k = u.1 ∙ ap pos (sym (ap nat_abs u.1)) in
      let has = found_has word old n m k (omega arith) word_is in
      let c1 : Cache = apply c (Store (at C (Heap k)) (old m)) in
      let c2 : Cache = apply c1 (Flush (line_at m)) in
      let cover1 : Cover C (ok restoring) c1 =
      cover_store C (ok restoring) c (Heap k) (old m)
      (subst (λ (v : ℕ). v < H) (sym (ap nat_abs u.1)) u.2) (λ lt absent.
      absurd (cc (absent, has.1))) cover in
      let cover2 : Cover C (ok restoring) c2 = cover_flush C (ok restoring) c1 (line_at m) cover1
      in (
        inside c (restoring_owed c cover),
        (
          inside c1 (restoring_owed c1 cover1),
          restore_part Q F inside m rest c2 (omega arith) cover2
              (λ w lt. undone_same word old m (seen c2) (undo (word m) (old m) (seen c)) w
              (view_flush c1 (line_at m) (at C (Heap w)) ∙ undo_view c (word m) (old m) k w
              word_is) ∙ left w lt)
              (λ j low high. flush_ready c1 (line_at m) (line_at j) (λ ne. ⊎_elim
              (λ (e : j ≡ m). absurd (ne (ap line_at e)))
              (λ (other : j ≢ m). subst IsReady
              (sym (store_other c (at C (Heap k)) (line_at j) (old m) ne))
              (ready j (omega arith) high))
              (cases_eq j m)))
              next,
        ),
      )

  -- the heap is r, and durable
  abbrev pub restored_fine : Fine
  restored_fine = owing s a n word old (λ w x. w < H → x ≡ s.r w)

  settle_word : (c : Cache) (w : ℕ) (v : Words) (o : Option ℤ) → found word old n w ≡ o
      → Cover C (ok restoring) c → (seen c w ≡ s.r w) → ((j : ℕ) → j < n → IsReady (c (line_at j)))
      → IsVersion (apply c Fence (line_of C (Heap w))) v → w < H → v (at C (Heap w)) ≡ s.r w
  unfolding view
  settle_word c w v None is cover new ready ver lt =
      cover.each (Heap w) lt v (fence_version c (line_of C (Heap w)) v ver) lt is
  settle_word c w v (Some y) is cover new ready ver lt =
      let rec = found_record word old n w y is in
      let line_is : line_at rec.0 ≡ line_of C (Heap w) =
      ap (λ (x : ℤ). line_of C (Heap (nat_abs x))) rec.2 in
      let newest : v ≡ (c (line_of C (Heap w))).newest =
      fence_single c (line_of C (Heap w)) v
      (subst (λ (l : ℕ). IsReady (c l)) line_is (ready rec.0 rec.1)) ver in
      ap (λ (x : Words). x (at C (Heap w))) newest ∙ new

  pub settle_each : (c : Cache) → Cover C (ok restoring) c → ((w : ℕ) → w < H → seen c w ≡ s.r w)
      → ((j : ℕ) → j < n → IsReady (c (line_at j))) → (q : Place) → IsPlace C q → (v : Words)
      → IsVersion (apply c Fence (line_of C q)) v → ok restored_fine q (v (at C q))
  settle_each c cover new ready (Heap w) is v ver =
      λ lt. settle_word c w v (found word old n w) refl cover (new w lt) ready ver lt
  settle_each c cover new ready q is v ver = cover.each q is v (fence_version c (line_of C q) v ver)

  weaker : (q : Place) → IsPlace C q → (x : ℤ) → ok restored_fine q x → ok restoring q x
  weaker (Heap w) is x fine = λ lt absent. fine lt
  weaker q is x fine = fine

  -- the attempt is raised

  module _ (next_fits : suc a ≤ 2 ^ 62) where
    abbrev again : Fine
    again = running s (suc a) next_fits 0 nothing nothing

    abbrev either : Bool → Place → ℤ → Type 0
    either false = ok restored_fine
    either true = ok again

    fresh_stamp : (j : ℕ) (x : ℤ) → StampIs a n j x → StampIs (suc a) 0 j x
    fresh_stamp j x fine = (
      λ lt. absurd (omega arith),
      λ ge.
          ⊎_elim (λ (lt : j < n). (suc a, omega arith, fine.0 lt)) (λ (le : n ≤ j).
          let u = fine.1 le in
          (u.0, omega (arith, u.1), u.2)) (cases_lt j n),
    )

    to_again : (q : Place) → IsPlace C q → line_of C q ≢ 2 → (x : ℤ) → ok restored_fine q x
        → ok again q x
    to_again Attempt is ne x fine = absurd (ne refl)
    to_again (RecordWord j) is ne x fine = λ lt. absurd (omega arith)
    to_again (RecordOld j) is ne x fine = λ lt. absurd (omega arith)
    to_again (RecordStamp j) is ne x fine = fresh_stamp j x fine
    to_again (Heap w) is ne x fine = λ lt. inl (fine lt)
    to_again q is ne x fine = fine

    at_both : (q : Place) → IsPlace C q → line_of C q ≢ 2 → (x : ℤ) → either false q x → (b : Bool)
        → either b q x
    at_both q is ne x fine false = fine
    at_both q is ne x fine true = to_again q is ne x fine

    no_facts : Recorded s (suc a) next_fits 0 nothing nothing
    unfolding found
    no_facts = record {
      room = omega arith;
      words = λ j lt. absurd (omega arith);
      oldest = λ w lt input y is. absurd (cc (is));
    }

    of_either : (image : Words) (b : Bool)
        → ((q : Place) → IsPlace C q → either b q (image (at C q)))
        → Owed s.pool s.call s.E s.W s.h s.kept image
    of_either image false fine = restoring_image image
        (λ q is. weaker q is (image (at C q)) (fine q is))
    of_either image true fine = pick s (suc a) next_fits 0 nothing nothing image no_facts fine

    pub reset_part : (Q F : Cache → Type 0) (inside : (d : Cache) → OwedNow d →
        Q d) (rest : List CacheEvent) (c : Cache) → Cover C (ok restoring) c →
        ((w : ℕ) → w < H → seen c w ≡ s.r w) → ((j : ℕ) → j < n → IsReady (c (line_at j))) →
        ((d : Cache) → Running s (suc a) next_fits 0 nothing nothing s.r d → Through Q F d rest) →
        Through Q F c (Fence ∷ reset_walk C a rest)
    reset_part Q F inside rest c cover new ready next =
        let c1 : Cache = apply c Fence in
        let c2 : Cache = apply c1 (Store (at C Attempt) (pos (suc a))) in
        let c3 : Cache = apply c2 (Flush 2) in
        let c4 : Cache = apply c3 Fence in
        let cover1 : Cover C (ok restored_fine) c1 =
        record { each = settle_each c cover new ready } in
        let last2 : s.kept (view c2 (at C Last)) =
        subst s.kept (sym (view_other c1 (at C Attempt) (at C Last) (pos (suc a)) (omega arith)))
        (cover_view C (ok restored_fine) c1 cover1 Last tt) in
        let done2 : view c2 (at C Done) ≡ pos s.call.done =
        view_other c1 (at C Attempt) (at C Done) (pos (suc a)) (omega arith)
        ∙ cover_view C (ok restored_fine) c1 cover1 Done tt in
        let mark2 : view c2 (at C Mark) ≡ pos 0 =
        view_other c1 (at C Attempt) (at C Mark) (pos (suc a)) (omega arith)
        ∙ cover_view C (ok restored_fine) c1 cover1 Mark tt in
        let attempt2 : view c2 (at C Attempt) ≡ pos (suc a) =
        view_same c1 (at C Attempt) (pos (suc a)) in
        let held1 : Held C 2 either c1 = held_cover C 2 either c1 false cover1 at_both in
        let held2 : Held C 2 either c2 =
        held_store C 2 either c1 Attempt (pos (suc a)) true refl
        (line_two s a a_fits again c2 last2 done2 attempt2 mark2) held1 in
        let held3 : Held C 2 either c3 = held_flush C 2 either c2 2 held2 in
        let new3 = line_two s a a_fits again c3
        (subst s.kept (sym (view_flush c2 2 (at C Last))) last2)
        (view_flush c2 2 (at C Done) ∙ done2)
        (view_flush c2 2 (at C Attempt) ∙ attempt2) (view_flush c2 2 (at C Mark) ∙ mark2) in
        let cover4 : Cover C (ok again) c4 =
        held_single C 2 either c3 true (flush_ready c2 2 2 (λ ne. absurd (ne refl))) new3 held3 in
        let choose : (d : Cache) → Held C 2 either d → OwedNow d = λ d held image im. let f =
        held_image C 2 either d image held im in of_either image f.0 f.1 in
        let run : Running s (suc a) next_fits 0 nothing nothing s.r c4 = record {
          facts = no_facts;
          cover = cover4;
          heap_is = λ w lt.
              view_fence c3 (at C (Heap w)) ∙ view_flush c2 2 (at C (Heap w))
              ∙ view_other c1 (at C Attempt) (at C (Heap w)) (pos (suc a)) (omega arith)
              ∙ view_fence c (at C (Heap w)) ∙ new w lt;
        } in (
          inside c (restoring_owed c cover),
          (
            inside c1 (choose c1 held1),
            (
              inside c2 (choose c2 held2),
              (inside c3 (choose c3 held3), next c4 run),
            ),
          ),
        )
