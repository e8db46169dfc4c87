-- The recovery of an image that isn't sealed.
use Rattle.std.proofs.Common.{◌≡◌, ◌≢◌, ⊎_elim, ℕ, zero, suc, ◌+◌, ◌^◌, ◌<◌, ◌≤◌, Bool, true, false}
use Rattle.std.proofs.Common.{List, [], ℤ, pos, refl, sym, ◌∙◌, subst, arith}
use Rattle.std.proofs.lemmas.Bool.{cases_lt}
use Rattle.cache_model.specs.Event.{CacheEvent, Store, Flush, Fence}
use Rattle.cache_model.specs.Cache.{Words, Cache, view}
use Rattle.cache_model.specs.Play.{apply, play}
use Rattle.cache_model.specs.Image.{IsImage, Images, HasOne}
use Rattle.pool_layout.specs.declared.places.Place.{Place}
use Rattle.pool_layout.specs.declared.places.Place.TheVariants.{Last, Done, Attempt, Mark}
use Rattle.pool_layout.specs.declared.places.Place.TheVariants.{RecordStamp, Spare}
use Rattle.pool_layout.specs.declared.places.Layout.{Layout}
use Rattle.pool_layout.specs.Places.{at, line_of, IsPlace, pool_of}
use Rattle.pool_layout.specs.Log.{count}
use Rattle.clobber_log.specs.Reset.{reset_events}
use Rattle.crash_law.proofs.Walks.{reset_walk, reset_same}
use Rattle.crash_law.specs.Law.{IsClean, CutClean}
use Rattle.cache_model.proofs.Views.{view_same, view_other, view_flush}
use Rattle.cache_model.proofs.Ready.{flush_ready}
use Rattle.cache_model.specs.During.{during}
use Rattle.cache_model.specs.inside.During.{Through}
use Rattle.cache_model.proofs.During.{through_during, through_end}
use Rattle.crash_law.proofs.Held.{Cover, cover_image, cover_view, Held, held_image, held_flush}
use Rattle.crash_law.proofs.Held.{held_cover, held_store, held_single}
use Rattle.pool_layout.proofs.Records.{count_is, pos_inj}
use Rattle.pool_layout.specs.Good.{Pool, Good}
use Rattle.crash_law.proofs.Fine.{Fine, ok, IsFine, StampIs, at_rest, good_image}
use Rattle.crash_law.proofs.Seal.{one_cover, good_fine}

module _ (pool : Pool) (d : ℕ) (h : ℕ → ℤ) (fits : d ≤ 2 ^ 62 + 1) (a n : ℕ) (a_fits : a ≤ 2 ^ 62)
    (last : ℤ) where
  abbrev C : Layout
  C = pool_of pool.sizes

  -- an image that isn't sealed, with attempt b, of whose stamps the first m are valid
  abbrev pub unsealed : (b m : ℕ) → Fine
  unsealed b m = at_rest pool d h fits b m (λ x. x ≡ last) (λ x. x ≡ pos (suc d) → ⊥)

  abbrev either : Bool → Place → ℤ → Type 0
  either false = ok (unsealed a n)
  either true = ok (unsealed (suc a) 0)

  fresh_stamp : (j : ℕ) (x : ℤ) → StampIs a n j x → StampIs (suc a) 0 j x
  fresh_stamp j x fine = (
    λ lt. absurd (omega arith),
    λ ge.
        ⊎_elim (λ (lt : j < n). (suc a, omega arith, fine.0 lt)) (λ (le : n ≤ j).
        let u = fine.1 le in
        (u.0, omega (arith, u.1), u.2)) (cases_lt j n),
  )

  to_fresh : (q : Place) → IsPlace C q → line_of C q ≢ 2 → (x : ℤ) → ok (unsealed a n) q x
      → ok (unsealed (suc a) 0) q x
  to_fresh Attempt is ne x fine = absurd (ne refl)
  to_fresh (RecordStamp j) is ne x fine = fresh_stamp j x fine
  to_fresh q is ne x fine = fine

  at_both : (q : Place) → IsPlace C q → line_of C q ≢ 2 → (x : ℤ) → either false q x → (b : Bool)
      → either b q x
  at_both q is ne x fine false = fine
  at_both q is ne x fine true = to_fresh q is ne x fine

  -- the words of line 2, read from the view
  line_two : (f : Fine) (c : Cache) → f.last (view c (at C Last)) → f.done (view c (at C Done))
      → f.attempt (view c (at C Attempt)) → f.mark (view c (at C Mark)) → (q : Place) → IsPlace C q
      → line_of C q ≡ 2 → ok f q (view c (at C q))
  line_two f c l e t m Last is on = l
  line_two f c l e t m Done is on = e
  line_two f c l e t m Attempt is on = t
  line_two f c l e t m Mark is on = m
  line_two f c l e t m (Spare k) is on = tt
  line_two f c l e t m q is on = absurd (omega arith)

  good_of : (b m : ℕ) → b ≤ 2 ^ 62 + 1 → (image : Words) → IsFine C (unsealed b m) image
      → Good pool d h image
  good_of b m b_fits image fine =
      good_image pool d h fits b m (λ x. x ≡ last) (λ x. x ≡ pos (suc d) → ⊥) image b_fits
      (λ x h'. h') fine

  of_either : (image : Words) (b : Bool) → ((q : Place) → IsPlace C q → either b q (image (at C q)))
      → Good pool d h image
  of_either image false fine = good_of a n (omega arith) image fine
  of_either image true fine = good_of (suc a) 0 (omega arith) image fine

  empty_count : (image : Words) → IsFine C (unsealed (suc a) 0) image → count C (suc a) image ≡ 0
  empty_count image fine = count_is C (suc a) 0 image (omega arith) (λ j lt. absurd (omega arith))
      (λ j ge lt e. let u = (fine (RecordStamp j) lt).1 ge in
      absurd (omega (arith, u.1, pos_inj (suc (suc a)) u.0 (sym e ∙ u.2))))

  clean_of : (image : Words) → IsFine C (unsealed (suc a) 0) image → IsClean pool d h image
  clean_of image fine = record {
    good = good_of (suc a) 0 (omega arith) image fine;
    empty = λ b is.
        let same : b ≡ suc a = pos_inj b (suc a) (sym is ∙ fine Attempt tt) in
        subst (λ (k : ℕ). count C k image ≡ 0) (sym same) (empty_count image fine);
  }

  pub clean_part : (c : Cache) → Cover C (ok (unsealed a n)) c →
      Through (Images (Good pool d h)) (Images (IsClean pool d h)) c (reset_walk C a [])
  clean_part c cover =
      let c1 : Cache = apply c (Store (at C Attempt) (pos (suc a))) in
      let c2 : Cache = apply c1 (Flush 2) in
      let c3 : Cache = apply c2 Fence in
      let fine2 = ok (unsealed a n) in
      let last1 : view c1 (at C Last) ≡ last =
      view_other c (at C Attempt) (at C Last) (pos (suc a)) (omega arith)
      ∙ cover_view C fine2 c cover Last tt in
      let done1 : view c1 (at C Done) ≡ pos d =
      view_other c (at C Attempt) (at C Done) (pos (suc a)) (omega arith)
      ∙ cover_view C fine2 c cover Done tt in
      let mark1 : view c1 (at C Mark) ≡ pos 0 =
      view_other c (at C Attempt) (at C Mark) (pos (suc a)) (omega arith)
      ∙ cover_view C fine2 c cover Mark tt in
      let attempt1 : view c1 (at C Attempt) ≡ pos (suc a) =
      view_same c (at C Attempt) (pos (suc a)) in
      let held : Held C 2 either c = held_cover C 2 either c false cover at_both in
      let held1 : Held C 2 either c1 =
      held_store C 2 either c Attempt (pos (suc a)) true refl
      (line_two (unsealed (suc a) 0) c1 last1 done1 attempt1 mark1) held in
      let held2 : Held C 2 either c2 = held_flush C 2 either c1 2 held1 in
      let new2 = line_two (unsealed (suc a) 0) c2 (view_flush c1 2 (at C Last) ∙ last1)
      (view_flush c1 2 (at C Done) ∙ done1) (view_flush c1 2 (at C Attempt) ∙ attempt1)
      (view_flush c1 2 (at C Mark) ∙ mark1) in
      let cover3 : Cover C (ok (unsealed (suc a) 0)) c3 =
      held_single C 2 either c2 true (flush_ready c1 2 2 (λ ne. absurd (ne refl))) new2 held2 in
      let choose : (e : Cache) → Held C 2 either e → Images (Good pool d h) e =
      λ e held_e image im. let f = held_image C 2 either e image held_e im in
      of_either image f.0 f.1 in (
        choose c held,
        (
          choose c1 held1,
          (
            choose c2 held2,
            (
              (λ image im.
                  good_of (suc a) 0 (omega arith) image
                  (λ q is. cover_image C (ok (unsealed (suc a) 0)) c3 image cover3 im q is)),
              (λ image im. clean_of image (λ q is.
                  cover_image C (ok (unsealed (suc a) 0)) c3 image cover3
                  im q is)),
            ),
          ),
        ),
      )

-- nothing is to be done
rest_clean : (pool : Pool) (d : ℕ) (h : ℕ → ℤ) (fits : d ≤ 2 ^ 62 + 1) (a : ℕ)
    (a_fits : a ≤ 2 ^ 62 + 1) (last : ℤ) (image : Words)
    → IsFine (pool_of pool.sizes) (at_rest pool d h fits a 0 (λ x. x ≡ last) (λ x. x ≡ pos (suc d)
    → ⊥)) image → IsClean pool d h image
rest_clean pool d h fits a a_fits last image fine =
    let C = pool_of pool.sizes in
    let empty : count C a image ≡ 0 =
    count_is C a 0 image (omega arith) (λ j lt. absurd (omega arith)) (λ j ge lt e.
    let u = (fine (RecordStamp j) lt).1 ge in
    absurd (omega (arith, u.1, pos_inj (suc a) u.0 (sym e ∙ u.2)))) in
    record {
      good = good_image pool d h fits a 0 (λ x. x ≡ last) (λ x. x ≡ pos (suc d) → ⊥) image a_fits
          (λ x h'. h') fine;
      empty = λ b is. let same : b ≡ a = pos_inj b a (sym is ∙ fine Attempt tt) in
          subst (λ (k : ℕ). count C k image ≡ 0) (sym same) empty;
    }

-- the recovery of an image that isn't sealed
pub cut_clean : (pool : Pool) (d : ℕ) (h : ℕ → ℤ) (c : Cache) (one : Words) → HasOne c one
    → (good : Good pool d h one) → (n : ℕ) → count (pool_of pool.sizes) good.attempt one ≡ n
    → (0 < n → good.attempt < 2 ^ 62) → CutClean pool d h c good.attempt n
cut_clean pool d h c one only good zero counted room =
    let start = one_cover (pool_of pool.sizes)
    (at_rest pool d h good.done_fits good.attempt 0 (λ x. x ≡ one (at (pool_of pool.sizes) Last))
    (λ x. x ≡ pos (suc d) → ⊥)) c one only
    (good_fine pool d h good.done_fits one good 0 counted) in
    let fine = λ (image : Words) (im : IsImage c image).
    rest_clean pool d h good.done_fits good.attempt good.attempt_fits
    (one (at (pool_of pool.sizes) Last)) image
    (λ q is. cover_image (pool_of pool.sizes)
    (ok (at_rest pool d h good.done_fits good.attempt 0
    (λ x. x ≡ one (at (pool_of pool.sizes) Last)) (λ x. x ≡ pos (suc d) → ⊥))) c image start
    im q is) in
    ((λ image im. (fine image im).good), fine)
cut_clean pool d h c one only good (suc m) counted room =
    let a_fits : good.attempt ≤ 2 ^ 62 = (let lt = room (omega arith) in omega arith) in
    let last = one (at (pool_of pool.sizes) Last) in
    let start = one_cover (pool_of pool.sizes)
    (at_rest pool d h good.done_fits good.attempt (suc m)
    (λ x. x ≡ one (at (pool_of pool.sizes) Last)) (λ x. x ≡ pos (suc d) → ⊥)) c one only
    (good_fine pool d h good.done_fits one good (suc m) counted) in
    let all = clean_part pool d h good.done_fits good.attempt (suc m) a_fits last c start in
    let walk = reset_walk (pool_of pool.sizes) good.attempt [] in
    let same : walk ≡ reset_events pool.sizes good.attempt =
    sym (reset_same pool.sizes good.attempt []) in
    subst (λ (events : List CacheEvent). during c events (Images (Good pool d h))
    × Images (IsClean pool d h) (play c events)) same (
      through_during (Images (Good pool d h)) (Images (IsClean pool d h)) c walk all,
      through_end
          (Images (Good pool d h)) (Images (IsClean pool d h)) c walk all,
    )
