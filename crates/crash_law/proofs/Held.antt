-- A condition on each version of each line, place by place; and the case that one line decides
-- between several answers.
use Rattle.std.proofs.Common.{◌≡◌, ◌≢◌, inl, ⊎_elim, ℕ, ℤ, refl, sym, ap, ◌∙◌, subst}
use Rattle.std.proofs.lemmas.Bool.{cases_eq}
use Rattle.cache_model.specs.Event.{Store, Flush, Fence}
use Rattle.cache_model.specs.Cache.{Words, put, Cache, view}
use Rattle.cache_model.specs.Play.{apply}
use Rattle.cache_model.specs.Image.{IsVersion, IsImage}
use Rattle.pool_layout.specs.declared.places.Place.{Place}
use Rattle.pool_layout.specs.declared.places.Layout.{Layout}
use Rattle.pool_layout.specs.Places.{at, line_of, IsPlace}
use Rattle.cache_model.proofs.Versions.{put_same, put_other, put_cong, store_version, flush_version}
use Rattle.cache_model.proofs.Versions.{fence_version}
use Rattle.cache_model.proofs.Views.{view_store}
use Rattle.cache_model.proofs.Ready.{fence_single}
use Rattle.cache_model.specs.Play.{IsReady}
use Rattle.pool_layout.proofs.Apart.{same_place}

module _ (C : Layout) where
  -- each version of each line meets the condition
  pub record Cover (ok : Place → ℤ → Type 0) (c : Cache) : Type 0 where
    pub each : (q : Place) → IsPlace C q → (v : Words) → IsVersion (c (line_of C q)) v
        → ok q (v (at C q))

  pub cover_more : (ok more : Place → ℤ → Type 0) (c : Cache)
      → ((q : Place) → IsPlace C q → (x : ℤ) → ok q x → more q x) → Cover ok c → Cover more c
  cover_more ok more c f h = record { each = λ q is v ver. f q is (v (at C q)) (h.each q is v ver) }

  -- so does each image
  pub cover_image : (ok : Place → ℤ → Type 0) (c : Cache) (image : Words) → Cover ok c
      → IsImage c image → (q : Place) → IsPlace C q → ok q (image (at C q))
  cover_image ok c image h im q is =
      let pick = im (line_of C q) in
      subst (ok q) (sym (pick.2 (at C q) refl)) (h.each q is pick.0 pick.1)

  pub cover_view : (ok : Place → ℤ → Type 0) (c : Cache) → Cover ok c → (q : Place) → IsPlace C q
      → ok q (view c (at C q))
  unfolding view
  cover_view ok c h q is = h.each q is (c (line_of C q)).newest (inl refl)

  -- a word that is put in
  ok_put : (ok : Place → ℤ → Type 0) (v : Words) (q p : Place) (x : ℤ) → IsPlace C q → IsPlace C p
      → ok p x → ok q (v (at C q)) → ok q (put v (at C p) x (at C q))
  ok_put ok v q p x isq isp new old = ⊎_elim
      (λ (e : at C q ≡ at C p). subst (λ (r : Place). ok r (put v (at C p) x (at C r)))
      (sym (same_place C q p isq isp e)) (subst (ok p) (sym (put_same v (at C p) x)) new))
      (λ (ne : at C q ≢ at C p). subst (ok q) (sym (put_other v (at C p) (at C q) x ne)) old)
      (cases_eq (at C q) (at C p))

  pub cover_store : (ok : Place → ℤ → Type 0) (c : Cache) (p : Place) (x : ℤ) → IsPlace C p → ok p x
      → Cover ok c → Cover ok (apply c (Store (at C p) x))
  cover_store ok c p x isp new h = record {
    each = λ q is v ver. ⊎_elim
        (λ old. h.each q is v old)
        (λ added. subst (λ (u : Words). ok q (u (at C q))) (sym added.1)
        (ok_put ok (c (line_of C q)).newest q p x is isp new
        (h.each q is (c (line_of C q)).newest (inl refl))))
        (store_version c (at C p) x (line_of C q) v ver);
  }

  pub cover_flush : (ok : Place → ℤ → Type 0) (c : Cache) (l : ℕ) → Cover ok c
      → Cover ok (apply c (Flush l))
  cover_flush ok c l h = record {
    each = λ q is v ver.
        h.each q is v (flush_version c l (line_of C q) v ver);
  }

  -- Line L decides: each of its versions meets the condition for some k, and each version of any
  -- other line meets it for every k.
  pub record Held {K : Type 0} (L : ℕ) (ok : K → Place → ℤ → Type 0) (c : Cache) : Type 0 where
    pub others : (q : Place) → IsPlace C q → line_of C q ≢ L → (v : Words)
        → IsVersion (c (line_of C q)) v → (k : K) → ok k q (v (at C q))
    pub here : (v : Words) → IsVersion (c L) v
        → (k : K) × ((q : Place) → IsPlace C q → line_of C q ≡ L → ok k q (v (at C q)))

  -- each image meets the condition for some k
  pub held_image : {K : Type 0} (L : ℕ) (ok : K → Place → ℤ → Type 0) (c : Cache) (image : Words)
      → Held L ok c → IsImage c image
      → (k : K) × ((q : Place) → IsPlace C q → ok k q (image (at C q)))
  held_image L ok c image h im =
      let pick = im L in
      let deciding = h.here pick.0 pick.1 in (
        deciding.0,
        λ q is. ⊎_elim
            (λ (e : line_of C q ≡ L). subst (ok deciding.0 q) (sym (pick.2 (at C q) e))
            (deciding.1 q is e))
            (λ (ne : line_of C q ≢ L). let own = im (line_of C q) in
            subst (ok deciding.0 q) (sym (own.2 (at C q) refl))
            (h.others q is ne own.0 own.1 deciding.0))
            (cases_eq (line_of C q) L),
      )

  pub held_flush : {K : Type 0} (L : ℕ) (ok : K → Place → ℤ → Type 0) (c : Cache) (l : ℕ)
      → Held L ok c → Held L ok (apply c (Flush l))
  held_flush L ok c l h = record {
    others = λ q is ne v ver. h.others q is ne v (flush_version c l (line_of C q) v ver);
    here = λ v ver. h.here v (flush_version c l L v ver);
  }

  pub held_cover : {K : Type 0} (L : ℕ) (ok : K → Place → ℤ → Type 0) (c : Cache) (k : K)
      → Cover (ok k) c → ((q : Place) → IsPlace C q → line_of C q ≢ L → (x : ℤ) → ok k q x → (j : K)
      → ok j q x) → Held L ok c
  held_cover L ok c k h same = record {
    others = λ q is ne v ver j. same q is ne (v (at C q)) (h.each q is v ver) j;
    here = λ v ver. (k, λ q is e. h.each q is v (subst (λ (l : ℕ). IsVersion (c l) v) (sym e) ver));
  }

  -- a store to line L, whose new version meets the condition for k
  pub held_store : {K : Type 0} (L : ℕ) (ok : K → Place → ℤ → Type 0) (c : Cache) (p : Place)
      (x : ℤ) (k : K) → line_of C p ≡ L
      → ((q : Place) → IsPlace C q → line_of C q ≡ L
      → ok k q (view (apply c (Store (at C p) x)) (at C q))) → Held L ok c
      → Held L ok (apply c (Store (at C p) x))
  unfolding view
  held_store L ok c p x k isL new h = record {
    others = λ q is ne v ver. ⊎_elim
        (λ old. h.others q is ne v old)
        (λ added. absurd (ne (added.0 ∙ isL)))
        (store_version c (at C p) x (line_of C q) v ver);
    here = λ v ver. ⊎_elim
        (λ old. h.here v old)
        (λ added. (
          k,
          λ q is e.
              let newest : view (apply c (Store (at C p) x)) (at C q) ≡ v (at C q) =
              view_store c (at C p) (at C q) x
              ∙ put_cong (view c) (c L).newest (at C p) (at C q) x
              (ap (λ (l : ℕ). (c l).newest (at C q)) e)
              ∙ sym (ap (λ (u : Words). u (at C q)) added.1) in
              subst (ok k q) newest (new q is e),
        ))
        (store_version c (at C p) x L v ver);
  }

  -- after a fence that leaves line L only its newest version, that version decides
  pub held_single : {K : Type 0} (L : ℕ) (ok : K → Place → ℤ → Type 0) (c : Cache) (k : K)
      → IsReady (c L) → ((q : Place) → IsPlace C q → line_of C q ≡ L → ok k q (view c (at C q)))
      → Held L ok c → Cover (ok k) (apply c Fence)
  unfolding view
  held_single L ok c k ready new h = record {
    each = λ q is v ver. ⊎_elim
        (λ (e : line_of C q ≡ L). subst (λ (u : Words). ok k q (u (at C q)))
        (sym (fence_single c (line_of C q) v (subst (λ (l : ℕ). IsReady (c l)) (sym e) ready)
        ver)) (new q is e))
        (λ (ne : line_of C q ≢ L). h.others q is ne v (fence_version c (line_of C q) v ver) k)
        (cases_eq (line_of C q) L);
  }
