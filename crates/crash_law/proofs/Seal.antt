-- Writing and sealing the argument record.
use Rattle.pool_layout.specs.Sizes.{heap_words}
use Rattle.std.proofs.Common.{◌++◌, length, ◌≡◌, ◌≢◌, ◌⊎◌, inl, inr, ⊎_elim, ℕ, zero, suc, ◌+◌, ◌/◌}
use Rattle.std.proofs.Common.{◌^◌, ◌<◌, ◌≤◌, ◌==◌, cond, Bool, true, false, List, ◌∷◌, ℤ, pos, refl}
use Rattle.std.proofs.Common.{sym, ap, ◌∙◌, subst, arith, eq-eqb, ne_eqb}
use Rattle.std.proofs.lemmas.Bool.{cases_eq}
use Rattle.cache_model.specs.Event.{CacheEvent, Store, Flush, Fence}
use Rattle.cache_model.specs.Cache.{Words, Cache, view}
use Rattle.cache_model.specs.Play.{apply}
use Rattle.cache_model.specs.Image.{IsVersion, IsImage, Images, HasOne}
use Rattle.pool_layout.specs.declared.places.Place.{Place}
use Rattle.pool_layout.specs.declared.places.Place.TheVariants.{Super, Last, Done, Attempt, Mark}
use Rattle.pool_layout.specs.declared.places.Place.TheVariants.{Argument, Seal, RecordWord}
use Rattle.pool_layout.specs.declared.places.Place.TheVariants.{RecordOld, RecordStamp, Heap, Spare}
use Rattle.pool_layout.specs.declared.places.Place.TheVariants.{RecordSpare}
use Rattle.pool_layout.specs.declared.places.Layout.{Layout}
use Rattle.pool_layout.specs.declared.places.TheConstants.{ARGUMENTS}
use Rattle.pool_layout.specs.declared.limits.Sizes.{Sizes}
use Rattle.pool_layout.specs.Places.{at, line_of, IsPlace, pool_of}
use Rattle.pool_layout.specs.Log.{count}
use Rattle.crash_law.specs.Pools.{Owed, IsBefore, call_word}
use Rattle.crash_law.specs.Due.{due_seal}
use Rattle.crash_law.proofs.Walks.{store_words, flush_from, seal_walk, seal_same}
use Rattle.cache_model.proofs.Views.{view_same, view_other, view_flush, view_fence}
use Rattle.cache_model.proofs.Ready.{flush_ready, fence_single}
use Rattle.cache_model.proofs.Versions.{fence_version}
use Rattle.cache_model.specs.Play.{IsReady}
use Rattle.cache_model.specs.inside.During.{Through}
use Rattle.crash_law.proofs.Held.{Cover, cover_image, cover_view, cover_store, cover_flush, Held}
use Rattle.crash_law.proofs.Held.{held_image, held_flush, held_cover, held_store, held_single}
use Rattle.pool_layout.proofs.Records.{log_is}
use Rattle.pool_layout.specs.Good.{Pool, Good}
use Rattle.crash_law.proofs.Records.{found, nothing}
use Rattle.crash_law.proofs.Fine.{Fine, ok, Setting, at_rest, good_image, IsFine}
use Rattle.crash_law.proofs.Run.{running, Recorded, Running, pick}

-- a cache with one image

-- the image with version v of line l, and the newest version of every other line
mixed : Cache → ℕ → Words → Words
mixed c l v p = cond (p / 8 == l) (v p) (view c p)

mixed_image : (c : Cache) (l : ℕ) (v : Words) → IsVersion (c l) v → IsImage c (mixed c l v)
unfolding mixed view
mixed_image c l v ver k = ⊎_elim
    (λ (e : k ≡ l). (
      v,
      subst (λ (i : ℕ). IsVersion (c i) v) (sym e) ver,
      λ p on.
          ap (λ (b : Bool). cond b (v p) (view c p)) (eq-eqb (p / 8) l (on ∙ e)),
    ))
    (λ (ne : k ≢ l). (
      (c k).newest,
      inl refl,
      λ p on.
          ap (λ (b : Bool). cond b (v p) (view c p)) (ne_eqb (p / 8) l (λ e. ne (sym on ∙ e)))
          ∙ ap (λ (i : ℕ). (c i).newest p) on,
    ))
    (cases_eq k l)

pub one_version : (c : Cache) (one : Words) → HasOne c one → (l : ℕ) (v : Words) → IsVersion (c l) v
    → (p : ℕ) → p / 8 ≡ l → v p ≡ one p
unfolding mixed
one_version c one only l v ver p on =
    sym (ap (λ (b : Bool). cond b (v p) (view c p)) (eq-eqb (p / 8) l on))
    ∙ only (mixed c l v) (mixed_image c l v ver) p

pub one_cover : (C : Layout) (f : Fine) (c : Cache) (one : Words) → HasOne c one → IsFine C f one
    → Cover C (ok f) c
one_cover C f c one only fine =
    record {
      each = λ q is v ver. subst (ok f q)
          (sym (one_version c one only (line_of C q) v ver (at C q) refl)) (fine q is);
    }

-- Good as a condition on each place

pub good_fine : (pool : Pool) (d : ℕ) (h : ℕ → ℤ) (fits : d ≤ 2 ^ 62 + 1) (image : Words)
    (g : Good pool d h image) (n : ℕ) → count (pool_of pool.sizes) g.attempt image ≡ n
    → IsFine (pool_of pool.sizes) (at_rest pool d h fits g.attempt n
    (λ x. x ≡ image (at (pool_of pool.sizes) Last)) (λ x. x ≡ pos (suc d) → ⊥)) image
good_fine pool d h fits image g n counted (Super k) is = λ lt. g.super k lt
good_fine pool d h fits image g n counted Last is = refl
good_fine pool d h fits image g n counted Done is = g.done
good_fine pool d h fits image g n counted Attempt is = g.attempt_is
good_fine pool d h fits image g n counted Mark is = g.mark
good_fine pool d h fits image g n counted (Spare k) is = tt
good_fine pool d h fits image g n counted (Argument k) is = tt
good_fine pool d h fits image g n counted Seal is = g.unsealed
good_fine pool d h fits image g n counted (RecordWord j) is = tt
good_fine pool d h fits image g n counted (RecordOld j) is = tt
good_fine pool d h fits image g n counted (RecordStamp j) is =
    let log = log_is (pool_of pool.sizes) g.attempt n image g.log counted in
    (λ lt. log.valid_stamp j lt, λ ge. log.other_stamp j is ge)
good_fine pool d h fits image g n counted (RecordSpare j k) is = tt
good_fine pool d h fits image g n counted (Heap w) is = λ lt. g.heap w lt

-- the stores of the function and the arguments, and the flushes of their lines
module _ (z : Sizes) (ok_now : Place → ℤ → Type 0) (free : (k : ℕ) (x : ℤ) → ok_now (Argument k) x)
    (Q F : Cache → Type 0) (within : (d : Cache) → Cover (pool_of z) ok_now d → Q d) where
  abbrev Given : (ℕ → ℤ) → ℕ → Cache → Type 0
  Given word k c = (j : ℕ) → j < k → view c (at (pool_of z) (Argument j)) ≡ word j

  pub words_part : (word : ℕ → ℤ) (n k m : ℕ) (rest : List CacheEvent) (c : Cache) → k + n ≡ m
      → m ≤ ARGUMENTS + 1 → Cover (pool_of z) ok_now c → Given word k c
      → ((d : Cache) → Cover (pool_of z) ok_now d → Given word m d → Through Q F d rest)
      → Through Q F c (store_words (pool_of z) word k n rest)
  words_part word zero k m rest c sum le cover given next = let e : k ≡ m = omega arith in
      next c cover (subst (λ (i : ℕ). Given word i c) e given)
  words_part word (suc n) k m rest c sum le cover given next =
      let c' : Cache = apply c (Store (at (pool_of z) (Argument k)) (word k)) in
      let given' : Given word (suc k) c' = λ j lt. ⊎_elim
      (λ (e : k ≡ j). subst (λ (i : ℕ). view c' (at (pool_of z) (Argument i)) ≡ word i) e
      (view_same c (at (pool_of z) (Argument k)) (word k)))
      (λ (ne : k ≢ j). view_other c (at (pool_of z) (Argument k)) (at (pool_of z) (Argument j))
      (word k) (omega arith) ∙ given j (omega arith))
      (cases_eq k j) in (
        within c cover,
        words_part word n (suc k) m rest c' (omega arith) le
            (cover_store (pool_of z) ok_now c (Argument k) (word k) (omega arith) (free k (word k))
            cover) given' next,
      )

  pub flushes_part : (word : ℕ → ℤ) (m n l : ℕ) (ready : ℕ → Type 0) (rest : List CacheEvent)
      (c : Cache) → Cover (pool_of z) ok_now c → Given word m c
      → ((k : ℕ) → ready k → IsReady (c k))
      → ((d : Cache) → Cover (pool_of z) ok_now d → Given word m d
      → ((k : ℕ) → ready k ⊎ ((l ≤ k) × (k < l + n)) → IsReady (d k)) → Through Q F d rest)
      → Through Q F c (flush_from l n rest)
  flushes_part word m zero l ready rest c cover given is next =
      next c cover given (λ k h. ⊎_elim (λ r. is k r) (λ none. absurd (omega arith)) h)
  flushes_part word m (suc n) l ready rest c cover given is next = (
    within c cover,
    flushes_part word m n (suc l) (λ k. ready k ⊎ (k ≡ l)) rest (apply c (Flush l))
        (cover_flush (pool_of z) ok_now c l cover)
        (λ j lt. view_flush c l (at (pool_of z) (Argument j)) ∙ given j lt)
        (λ k h. flush_ready c l k (λ ne. ⊎_elim (λ r. is k r) (λ e. absurd (ne e)) h))
        (λ d cover_d given_d all. next d cover_d given_d
        (λ k h. all k (⊎_elim (λ r. inl (inl r))
        (λ range. ⊎_elim (λ (e : k ≡ l). inl (inr e)) (λ (ne : k ≢ l). inr (omega arith))
        (cases_eq k l)) h))),
  )

module _ (s : Setting) (a : ℕ) (a_fits : a ≤ 2 ^ 62) (last : ℤ) (keeps : s.kept last)
    (same_heap : (w : ℕ) → w < heap_words s.pool.sizes → s.h w ≡ s.r w) where
  abbrev C : Layout
  C = pool_of s.pool.sizes

  abbrev d : ℕ
  d = s.call.done

  pub d_fits : d ≤ 2 ^ 62 + 1
  d_fits = let le = s.done_fits in omega arith

  abbrev pub unsealed : Fine
  unsealed = at_rest s.pool d s.h d_fits a 0 (λ x. x ≡ last) (λ x. x ≡ pos (suc d) → ⊥)

  -- with the argument record in place
  abbrev pub filled : Fine
  filled = record unsealed { argument = λ k x. k ≤ length s.call.args → x ≡ call_word s.call k }

  abbrev pub sealed : Fine
  sealed = running s a a_fits 0 nothing nothing

  before_image : (image : Words) → IsFine C unsealed image → IsBefore s.pool d s.h last image
  before_image image fine = record {
    good = good_image s.pool d s.h d_fits a 0 (λ x. x ≡ last) (λ x. x ≡ pos (suc d) → ⊥) image
        (omega arith) (λ x h. h) fine;
    last_is = fine Last tt;
  }

  weaker : (q : Place) → IsPlace C q → (x : ℤ) → ok filled q x → ok unsealed q x
  weaker (Argument k) is x fine = tt
  weaker q is x fine = fine

  abbrev either : Bool → Place → ℤ → Type 0
  either false = ok filled
  either true = ok sealed

  to_sealed : (q : Place) → IsPlace C q → line_of C q ≢ 5 → (x : ℤ) → ok filled q x → ok sealed q x
  to_sealed Last is ne x fine = subst s.kept (sym fine) keeps
  to_sealed Seal is ne x fine = absurd (ne refl)
  to_sealed (RecordWord j) is ne x fine = λ lt. absurd (omega arith)
  to_sealed (RecordOld j) is ne x fine = λ lt. absurd (omega arith)
  to_sealed (Heap w) is ne x fine = λ lt. inl (fine lt ∙ same_heap w lt)
  to_sealed q is ne x fine = fine

  at_both : (q : Place) → IsPlace C q → line_of C q ≢ 5 → (x : ℤ) → either false q x → (b : Bool)
      → either b q x
  at_both q is ne x fine false = fine
  at_both q is ne x fine true = to_sealed q is ne x fine

  line_five : (c : Cache) →
      ((j : ℕ) → j < suc (length s.call.args) → view c (at C (Argument j)) ≡ call_word s.call j) →
      view c (at C Seal) ≡ pos (suc d) → (q : Place) → IsPlace C q → line_of C q ≡ 5 →
      ok sealed q (view c (at C q))
  line_five c given seal (Argument k) is e = λ le. given k (omega arith)
  line_five c given seal Seal is e = seal
  line_five c given seal q is e = absurd (omega arith)

  facts : Recorded s a a_fits 0 nothing nothing
  unfolding found
  facts = record {
    room = omega arith;
    words = λ j lt. absurd (omega arith);
    oldest = λ w lt input y is. absurd (cc (is));
  }

  abbrev pub BeforeOrOwed : Words → Type 0
  BeforeOrOwed image =
      IsBefore s.pool d s.h last image ⊎ Owed s.pool s.call s.E s.W s.h s.kept image

  of_either : (image : Words) → (b : Bool)
      → ((q : Place) → IsPlace C q → either b q (image (at C q))) → BeforeOrOwed image
  of_either image false fine = inl
      (before_image image (λ q is. weaker q is (image (at C q)) (fine q is)))
  of_either image true fine = inr (pick s a a_fits 0 nothing nothing image facts fine)

  within_unsealed : (c : Cache) → Cover C (ok unsealed) c → Images BeforeOrOwed c
  within_unsealed c cover image im =
      inl (before_image image (λ q is. cover_image C (ok unsealed) c image cover im q is))

  -- after the fence, the arguments' lines have one version
  fill_each : (c : Cache) → Cover C (ok unsealed) c →
      ((j : ℕ) → j < suc (length s.call.args) → view c (at C (Argument j)) ≡ call_word s.call j) →
      ((k : ℕ) → 3 ≤ k → k < 3 + (length s.call.args / 8 + 1) → IsReady (c k)) → (q : Place) →
      IsPlace C q → (v : Words) → IsVersion (apply c Fence (line_of C q)) v →
      ok filled q (v (at C q))
  unfolding view
  fill_each c cover given ready (Argument k) is v ver = λ le.
      let newest : v ≡ (c (line_of C (Argument k))).newest =
      fence_single c (line_of C (Argument k)) v
      (ready (line_of C (Argument k)) (omega arith) (omega arith)) ver in
      ap (λ (u : Words). u (at C (Argument k))) newest ∙ given k (omega arith)
  fill_each c cover given ready q is v ver = cover.each q is v (fence_version c (line_of C q) v ver)

  sealing : (Q F : Cache → Type 0) (inside : (e : Cache) → Images BeforeOrOwed e →
      Q e) (c : Cache) (rest : List CacheEvent) → Cover C (ok unsealed) c →
      ((j : ℕ) → j < suc (length s.call.args) → view c (at C (Argument j)) ≡ call_word s.call j) →
      ((k : ℕ) → 3 ≤ k → k < 3 + (length s.call.args / 8 + 1) → IsReady (c k)) →
      ((d' : Cache) → Running s a a_fits 0 nothing nothing s.r d' → Through Q F d' rest) →
      Through Q F c (Fence ∷ Store (at C Seal) (pos (suc d)) ∷ Flush 5 ∷ Fence ∷ rest)
  sealing Q F inside c rest cover given ready next =
      let k : ℕ = suc d in
      let le = s.given_fits in
      let c1 : Cache = apply c Fence in
      let c2 : Cache = apply c1 (Store (at C Seal) (pos k)) in
      let c3 : Cache = apply c2 (Flush 5) in
      let c4 : Cache = apply c3 Fence in
      let cover1 : Cover C (ok filled) c1 = record { each = fill_each c cover given ready } in
      let given2 : (j : ℕ) → j < suc (length s.call.args) →
      view c2 (at C (Argument j)) ≡ call_word s.call j = λ j lt.
      view_other c1 (at C Seal) (at C (Argument j)) (pos k) (omega arith)
      ∙ view_fence c (at C (Argument j)) ∙ given j lt in
      let seal2 : view c2 (at C Seal) ≡ pos k = view_same c1 (at C Seal) (pos k) in
      let held1 : Held C 5 either c1 = held_cover C 5 either c1 false cover1 at_both in
      let held2 : Held C 5 either c2 =
      held_store C 5 either c1 Seal (pos k) true refl (line_five c2 given2 seal2) held1 in
      let held3 : Held C 5 either c3 = held_flush C 5 either c2 5 held2 in
      let new3 = line_five c3 (λ j lt. view_flush c2 5 (at C (Argument j)) ∙ given2 j lt)
      (view_flush c2 5 (at C Seal) ∙ seal2) in
      let cover4 : Cover C (ok sealed) c4 =
      held_single C 5 either c3 true (flush_ready c2 5 5 (λ ne. absurd (ne refl))) new3 held3 in
      let choose : (e : Cache) → Held C 5 either e → Images BeforeOrOwed e =
      λ e held image im. let f = held_image C 5 either e image held im in
      of_either image f.0 f.1 in
      let run : Running s a a_fits 0 nothing nothing s.r c4 = record {
        facts = facts;
        cover = cover4;
        heap_is = λ w lt.
            view_fence c3 (at C (Heap w)) ∙ view_flush c2 5 (at C (Heap w))
            ∙ view_other c1 (at C Seal) (at C (Heap w)) (pos k) (omega arith)
            ∙ cover_view C (ok filled) c1 cover1 (Heap w) lt lt ∙ same_heap w lt;
      } in (
        inside c (within_unsealed c cover),
        (
          inside c1 (choose c1 held1),
          (
            inside c2 (choose c2 held2),
            (inside c3 (choose c3 held3), next c4 run),
          ),
        ),
      )

  pub seal_part : (Q F : Cache → Type 0) (inside : (e : Cache) → Images BeforeOrOwed e →
      Q e) (c : Cache) (rest : List CacheEvent) → Cover C (ok unsealed) c →
      ((d' : Cache) → Running s a a_fits 0 nothing nothing s.r d' → Through Q F d' rest) →
      Through Q F c (seal_walk C s.call rest)
  seal_part Q F inside c rest cover next =
      let within : (e : Cache) → Cover C (ok unsealed) e → Q e =
      λ e cover_e. inside e (within_unsealed e cover_e) in
      let m : ℕ = suc (length s.call.args) in
      let le = s.given_fits in
      let tail : List CacheEvent = Fence ∷ Store (at C Seal) (pos (suc d)) ∷ Flush 5
      ∷ Fence ∷ rest in
      words_part s.pool.sizes (ok unsealed) (λ k x. tt) Q F within (call_word s.call) m 0 m
      (flush_from 3 (length s.call.args / 8 + 1) tail) c (omega arith) (omega arith) cover
      (λ j lt. absurd (omega arith))
      (λ c1 cover1 given1.
      flushes_part s.pool.sizes (ok unsealed) (λ k x. tt) Q F within (call_word s.call) m
      (length s.call.args / 8 + 1) 3 (λ k. ⊥) tail c1 cover1 given1 (λ k n. absurd n)
      (λ c2 cover2 given2 ready2. sealing Q F inside c2 rest cover2 given2 (λ k low high.
      ready2 k (inr (low, high))) next))

  pub due_seal_part : (Q F : Cache → Type 0) (inside : (e : Cache) → Images BeforeOrOwed e →
      Q e) (c : Cache) (rest : List CacheEvent) → Cover C (ok unsealed) c →
      ((d' : Cache) → Running s a a_fits 0 nothing nothing s.r d' → Through Q F d' rest) →
      Through Q F c (due_seal s.call ++ rest)
  due_seal_part Q F inside c rest cover next =
      subst (λ (es : List CacheEvent). Through Q F c es) (sym (seal_same s.pool.sizes s.call rest))
      (seal_part Q F inside c rest cover next)
