-- The events of a move: the view after them, the lines at rest, and what a power cut leaves of a
-- part of them.
use Rattle.std.proofs.Common.{◌≡◌, ◌≢◌, ◌⊎◌, inl, inr, ⊎_elim, ℕ, ◌-◌, ◌/◌, ◌<◌, ◌≤◌, ◌==◌}
use Rattle.std.proofs.Common.{cond, Bool, true, false, if◌then◌else◌, nat_le, nat_lt, List}
use Rattle.std.proofs.Common.{slice_index_or, ℤ, pos, refl, sym, ap, ◌∙◌, subst, arith, eq-eqb}
use Rattle.std.proofs.Common.{ne_eqb}
use Rattle.std.proofs.lemmas.Bool.{cases_eq, and_parts, leb-true, ltb-true}
use Rattle.cache_model.specs.Event.{CacheEvent, Store, Flush, Fence}
use Rattle.cache_model.specs.Cache.{Words, put, Cache, view}
use Rattle.cache_model.specs.Play.{apply, play}
use Rattle.cache_model.specs.Image.{IsVersion, IsImage, Images}
use Rattle.cache_model.specs.During.{during}
use Rattle.cache_model.proofs.Versions.{put_same, put_other, store_version, flush_version}
use Rattle.cache_model.proofs.Versions.{fence_version}
use Rattle.cache_model.proofs.Views.{view_same, view_other, view_flush, view_fence}
use Rattle.args_log.specs.Created.{digest_events}
use Rattle.crash_law.specs.Law.{IsAtRest}
use Rattle.crash_law.proofs.Rest.{Clean, Nowhere, rest_clean, clean_more, clean_store, clean_flush}
use Rattle.crash_law.proofs.Rest.{fence_rest}
use Rattle.cnvm_session.specs.Moving.{moving_events}
use Rattle.file_law.specs.Moved.{is_digest_word, with_digest}

-- words of the digest, and others

pub digest_word : (k : ℕ) → is_digest_word k ≡ true → (8 ≤ k) × (k < 12)
digest_word k is =
    let parts = and_parts (nat_le 8 k) (nat_lt k 12) is in
    (leb-true 8 k parts.0, ltb-true k 12 parts.1)

pub with_other : (digest : List ℤ) (w : Words) (k : ℕ) → (is_digest_word k ≡ true → ⊥)
    → with_digest digest w k ≡ w k
with_other digest w k none = go (is_digest_word k) refl
  where
    go : (b : Bool) → is_digest_word k ≡ b
        → (if b then slice_index_or digest (k - 8) (pos 0) else w k) ≡ w k
    go true e = absurd (none e)
    go false e = refl

pub with_same : (digest : List ℤ) (v w : Words) (k : ℕ) → is_digest_word k ≡ true
    → with_digest digest v k ≡ with_digest digest w k
with_same digest v w k is =
    ap (λ (b : Bool). if b then slice_index_or digest (k - 8) (pos 0) else v k) is
    ∙ sym (ap (λ (b : Bool). if b then slice_index_or digest (k - 8) (pos 0) else w k) is)

pub far_other : (digest : List ℤ) (w : Words) (k : ℕ) → 12 ≤ k → with_digest digest w k ≡ w k
far_other digest w k far = with_other digest w k
    (λ is. let less = (digest_word k is).1 in absurd (omega arith))

module _ (digest : List ℤ) where
  abbrev word : ℕ → ℤ
  word k = slice_index_or digest k (pos 0)

  abbrev events : List CacheEvent
  events = moving_events digest

  -- the caches after each store
  abbrev c1 : Cache → Cache
  c1 c = apply c (Store 8 (word 0))

  abbrev c2 : Cache → Cache
  c2 c = apply (c1 c) (Store 9 (word 1))

  abbrev c3 : Cache → Cache
  c3 c = apply (c2 c) (Store 10 (word 2))

  abbrev c4 : Cache → Cache
  c4 c = apply (c3 c) (Store 11 (word 3))

  abbrev At : Cache → ℕ → Type 0
  At c k = view (c4 c) k ≡ with_digest digest (view c) k

  stored_11 : (c : Cache) → At c 11
  stored_11 c = view_same (c3 c) 11 (word 3)

  stored_10 : (c : Cache) → At c 10
  stored_10 c = view_other (c3 c) 11 10 (word 3) (λ e. absurd (omega (arith, e)))
      ∙ view_same (c2 c) 10 (word 2)

  stored_9 : (c : Cache) → At c 9
  stored_9 c = view_other (c3 c) 11 9 (word 3) (λ e. absurd (omega (arith, e)))
      ∙ view_other (c2 c) 10 9 (word 2) (λ e. absurd (omega (arith, e)))
      ∙ view_same (c1 c) 9 (word 1)

  stored_8 : (c : Cache) → At c 8
  stored_8 c = view_other (c3 c) 11 8 (word 3) (λ e. absurd (omega (arith, e)))
      ∙ view_other (c2 c) 10 8 (word 2) (λ e. absurd (omega (arith, e)))
      ∙ view_other (c1 c) 9 8 (word 1) (λ e. absurd (omega (arith, e)))
      ∙ view_same c 8 (word 0)

  stored_none : (c : Cache) (k : ℕ) → k ≢ 11 → k ≢ 10 → k ≢ 9 → k ≢ 8 → At c k
  stored_none c k n11 n10 n9 n8 =
      view_other (c3 c) 11 k (word 3) n11 ∙ view_other (c2 c) 10 k (word 2) n10
      ∙ view_other (c1 c) 9 k (word 1) n9 ∙ view_other c 8 k (word 0) n8
      ∙ sym (with_other digest (view c) k (λ is. let in_it = digest_word k is in
      absurd (omega (arith, in_it.0, in_it.1, n11, n10, n9, n8))))

  stored : (c : Cache) (k : ℕ) → At c k
  stored c k =
      ⊎_elim (λ (e : k ≡ 11). subst (At c) (sym e) (stored_11 c))
      (λ (n11 : k ≢ 11). ⊎_elim (λ (e : k ≡ 10). subst (At c) (sym e) (stored_10 c))
      (λ (n10 : k ≢ 10). ⊎_elim (λ (e : k ≡ 9). subst (At c) (sym e) (stored_9 c))
      (λ (n9 : k ≢ 9). ⊎_elim (λ (e : k ≡ 8). subst (At c) (sym e) (stored_8 c))
      (λ (n8 : k ≢ 8). stored_none c k n11 n10 n9 n8)
      (cases_eq k 8)) (cases_eq k 9)) (cases_eq k 10)) (cases_eq k 11)

  -- the view after a move
  pub moved_view : (c : Cache) (k : ℕ) → view (play c events) k ≡ with_digest digest (view c) k
  unfolding digest_events
  moved_view c k =
      view_fence (apply (c4 c) (Flush 1)) k ∙ view_flush (c4 c) 1 k ∙ stored c k

  -- a cache at rest is at rest after a move
  pub moved_rest : (c : Cache) → IsAtRest c → IsAtRest (play c events)
  unfolding digest_events
  moved_rest c rest =
      let One : ℕ → Type 0 = λ l. l ≡ 1 in
      let m0 : Clean One c = clean_more Nowhere One c (λ l none. absurd none) (rest_clean c rest) in
      let m1 : Clean One (c1 c) = clean_store One c 8 (word 0) refl m0 in
      let m2 : Clean One (c2 c) = clean_store One (c1 c) 9 (word 1) refl m1 in
      let m3 : Clean One (c3 c) = clean_store One (c2 c) 10 (word 2) refl m2 in
      let m4 : Clean One (c4 c) = clean_store One (c3 c) 11 (word 3) refl m3 in
      fence_rest (apply (c4 c) (Flush 1))
      (clean_flush One Nowhere (c4 c) 1 (λ l e. inl e) m4)

  -- each word of the digest is the one it was or a new one
  abbrev pub IsBetween : (before between : Words) → Type 0
  IsBetween before between =
      (k : ℕ) → (between k ≡ before k)
      ⊎ ((is_digest_word k ≡ true) × (between k ≡ with_digest digest before k))

  module _ (P : Words → Type 0) where
    -- an image is one of P, but for words of the digest
    abbrev pub Near : Words → Type 0
    Near image = (before : Words) × P before × IsBetween before image

    module _ (c : Cache) (p : ℕ) (x : ℤ) (is : is_digest_word p ≡ true)
        (value : (w : Words) → with_digest digest w p ≡ x) (near : Images Near c) (image : Words)
        (seen : IsImage (apply c (Store p x)) image) where
      -- the image before the store, if the line has its version
      abbrev older : Words
      older q = cond (q / 8 == p / 8) ((c (p / 8)).newest q) (image q)

      older_in : (q : ℕ) → q / 8 ≡ p / 8 → older q ≡ (c (p / 8)).newest q
      older_in q e =
          ap (λ (b : Bool). cond b ((c (p / 8)).newest q) (image q)) (eq-eqb (q / 8) (p / 8) e)

      older_out : (q : ℕ) → q / 8 ≢ p / 8 → older q ≡ image q
      older_out q ne =
          ap (λ (b : Bool). cond b ((c (p / 8)).newest q) (image q)) (ne_eqb (q / 8) (p / 8) ne)

      abbrev InLine : Words → ℕ → Type 0
      InLine w l = (v : Words) × IsVersion (c l) v × ((q : ℕ) → q / 8 ≡ l → w q ≡ v q)

      older_here : (l : ℕ) → l ≡ p / 8 → InLine older l
      older_here l e = (
        (c l).newest,
        inl refl,
        λ q at. older_in q (at ∙ e) ∙ ap (λ (k : ℕ). (c k).newest q) (sym e),
      )

      -- the version of another line is one from before the store
      same_there : (l : ℕ) → l ≢ p / 8 → InLine image l
      same_there l ne =
          let there = seen l in (
            there.0,
            ⊎_elim (λ (old : IsVersion (c l) there.0). old) (λ new. absurd (ne new.0))
                (store_version c p x l there.0 there.1),
            there.2,
          )

      older_there : (l : ℕ) → l ≢ p / 8 → InLine older l
      older_there l ne =
          let there = same_there l ne in (
            there.0,
            there.1,
            λ q at. older_out q (λ e. ne (sym at ∙ e)) ∙ there.2 q at,
          )

      older_image : IsImage c older
      older_image l = ⊎_elim (λ (e : l ≡ p / 8). older_here l e)
          (λ (ne : l ≢ p / 8). older_there l ne) (cases_eq l (p / 8))

      -- only the stored word differs
      module _ (new : (q : ℕ) → q / 8 ≡ p / 8 → image q ≡ put (c (p / 8)).newest p x q) where
        other_word : (q : ℕ) → q ≢ p → image q ≡ older q
        other_word q ne = ⊎_elim
            (λ (e : q / 8 ≡ p / 8). new q e ∙ put_other (c (p / 8)).newest p q x ne
            ∙ sym (older_in q e))
            (λ (out : q / 8 ≢ p / 8). sym (older_out q out))
            (cases_eq (q / 8) (p / 8))

        stored_word : image p ≡ x
        stored_word = new p refl ∙ put_same (c (p / 8)).newest p x

        stored_near : Near image
        stored_near =
            let was = near older older_image in
            let go : (k : ℕ) → (image k ≡ was.0 k)
            ⊎ ((is_digest_word k ≡ true) × (image k ≡ with_digest digest was.0 k)) =
            λ k. ⊎_elim
            (λ (e : k ≡ p). inr (
              ap is_digest_word e ∙ is,
              ap image e ∙ stored_word ∙ sym (value was.0) ∙ ap (with_digest digest was.0) (sym e),
            ))
            (λ (ne : k ≢ p). ⊎_elim (λ same. inl (other_word k ne ∙ same))
            (λ set. inr (set.0, other_word k ne ∙ set.1)) (was.2 k))
            (cases_eq k p) in
            (was.0, was.1, go)

      -- the line has an older version
      kept_here : (v : Words) → IsVersion (c (p / 8)) v
          → ((q : ℕ) → q / 8 ≡ p / 8 → image q ≡ v q) → (l : ℕ) → l ≡ p / 8 → InLine image l
      kept_here v old same l e = (
        v,
        subst (λ (k : ℕ). IsVersion (c k) v) (sym e) old,
        λ q at. same q (at ∙ e),
      )

      kept_near : (v : Words) → IsVersion (c (p / 8)) v
          → ((q : ℕ) → q / 8 ≡ p / 8 → image q ≡ v q) → Near image
      kept_near v old same =
          near image (λ l. ⊎_elim (λ (e : l ≡ p / 8). kept_here v old same l e)
          (λ (ne : l ≢ p / 8). same_there l ne) (cases_eq l (p / 8)))

      store_near : Near image
      store_near =
          let here = seen (p / 8) in
          ⊎_elim
          (λ (old : IsVersion (c (p / 8)) here.0). kept_near here.0 old here.2)
          (λ new. stored_near (λ q at. here.2 q at ∙ ap (λ (v : Words). v q) new.1))
          (store_version c p x (p / 8) here.0 here.1)

    flush_near : (c : Cache) (l : ℕ) → Images Near c → Images Near (apply c (Flush l))
    flush_near c l near image seen = near image (λ k. let there = seen k in
        (there.0, flush_version c l k there.0 there.1, there.2))

    fence_near : (c : Cache) → Images Near c → Images Near (apply c Fence)
    fence_near c near image seen = near image (λ k. let there = seen k in
        (there.0, fence_version c k there.0 there.1, there.2))

    near_first : (c : Cache) → Images P c → Images Near c
    near_first c all image seen = (image, all image seen, λ k. inl refl)

    -- what a power cut leaves during a move
    pub moving_near : (c : Cache) → Images P c → during c events (Images Near)
    unfolding digest_events
    moving_near c all =
        let n0 : Images Near c = near_first c all in
        let n1 : Images Near (c1 c) = store_near c 8 (word 0) refl (λ w. refl) n0 in
        let n2 : Images Near (c2 c) = store_near (c1 c) 9 (word 1) refl (λ w. refl) n1 in
        let n3 : Images Near (c3 c) = store_near (c2 c) 10 (word 2) refl (λ w. refl) n2 in
        let n4 : Images Near (c4 c) = store_near (c3 c) 11 (word 3) refl (λ w. refl) n3 in
        let n5 : Images Near (apply (c4 c) (Flush 1)) = flush_near (c4 c) 1 n4 in
        let n6 : Images Near (apply (apply (c4 c) (Flush 1)) Fence) =
        fence_near (apply (c4 c) (Flush 1)) n5 in
        (n0, (n1, (n2, (n3, (n4, (n5, n6))))))
