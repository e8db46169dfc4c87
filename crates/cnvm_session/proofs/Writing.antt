-- The events that write an image on blank lines leave its words, and each line has one version.
use Rattle.std.proofs.Common.{◌≡◌, ◌≢◌, ◌⊎◌, inl, inr, ⊎_elim, ℕ, zero, suc, ◌+◌, ◌*◌, ◌/◌, ◌%◌}
use Rattle.std.proofs.Common.{◌<◌, ◌≤◌, Bool, true, false, not, if◌then◌else◌, List, [], ◌∷◌, ◌++◌}
use Rattle.std.proofs.Common.{length, take, drop, get_or, slice_index_or, ℤ}
use Rattle.std.proofs.Common.{pos, int_eq, refl, sym, ap, ◌∙◌, subst, arith}
use Rattle.std.proofs.lemmas.Bool.{cases_eq, cases_lt}
use Rattle.std.proofs.lemmas.Bool.Decides.{Decides-int_eq}
use Rattle.std.proofs.lemmas.List.{get_or-take, get_or-drop, length-take, length-drop}
use Rattle.std.proofs.lemmas.List.Folds.{list_any_at}
use Rattle.cache_model.specs.Event.{CacheEvent, Store, Flush, Fence}
use Rattle.cache_model.specs.Cache.{Cache, view, blank}
use Rattle.cache_model.specs.Play.{apply, play}
use Rattle.cache_model.proofs.Views.{view_same, view_other, view_flush, view_fence}
use Rattle.cache_model.proofs.During.{play_append}
use Rattle.pmem.proofs.Glue.{all_append, part_left, part_right}
use Rattle.pool_layout.specs.Image.{image_words}
use Rattle.crash_law.specs.Law.{IsAtRest}
use Rattle.crash_law.proofs.Rest.{Clean, Nowhere, clean_more, clean_store, clean_flush}
use Rattle.cnvm_session.specs.Opening.{is_other, store_of, stores_of, has_other, flush_of}
use Rattle.cnvm_session.specs.Opening.{flushes_of, opening_events}

fence_rest : (c : Cache) → Clean Nowhere c → IsAtRest (apply c Fence)
unfolding apply
fence_rest c clean l = ⊎_elim (λ r. r) (λ none. absurd none) (clean l)

blank_clean : (D : ℕ → Type 0) → Clean D blank
blank_clean D l = inl refl

not_other : (x : ℤ) → is_other x ≡ false → x ≡ pos 0
not_other x is = go (int_eq x (pos 0)) refl is
  where
    go : (b : Bool) → int_eq x (pos 0) ≡ b → not b ≡ false → x ≡ pos 0
    go true e h = (Decides-int_eq x (pos 0)).0 e
    go false e h = absurd cc

module _ (words : List ℤ) where
  abbrev word : ℕ → ℤ
  word = image_words words

  abbrev event_of : Bool → ℕ → List CacheEvent
  event_of b w = if b then Store w (word w) ∷ [] else []

  -- one store

  other_by : (b : Bool) (c : Cache) (w p : ℕ) → p ≢ w → view (play c (event_of b w)) p ≡ view c p
  other_by true c w p ne = view_other c w p (word w) ne
  other_by false c w p ne = refl

  same_by : (b : Bool) (c : Cache) (w : ℕ) → is_other (word w) ≡ b → view c w ≡ pos 0
      → view (play c (event_of b w)) w ≡ word w
  same_by true c w is none = view_same c w (word w)
  same_by false c w is none = none ∙ sym (not_other (word w) is)

  -- the stores of a stretch of words

  stored_other : (n w : ℕ) (c : Cache) (p : ℕ) → (p < w) ⊎ (w + n ≤ p)
      → view (play c (stores_of words w n)) p ≡ view c p
  stored_other zero w c p out = refl
  stored_other (suc n) w c p out =
      ap (λ (d : Cache). view d p) (play_append c (store_of words w) (stores_of words (suc w) n))
      ∙ stored_other n (suc w) (play c (store_of words w)) p
      (⊎_elim (λ (less : p < w). inl (omega arith)) (λ (more : w + suc n ≤ p).
      inr (omega arith)) out)
      ∙ other_by (is_other (word w)) c w p
      (⊎_elim (λ (less : p < w). λ e. absurd (omega arith)) (λ (more : w + suc n ≤ p). λ e.
      absurd (omega arith)) out)

  stored_at : (n w : ℕ) (c : Cache) (p : ℕ) → ((q : ℕ) → w ≤ q → view c q ≡ pos 0) → w ≤ p
      → p < w + n → view (play c (stores_of words w n)) p ≡ word p
  stored_at zero w c p none first last = absurd (omega arith)
  stored_at (suc n) w c p none first last =
      let d : Cache = play c (store_of words w) in
      ap (λ (x : Cache). view x p) (play_append c (store_of words w) (stores_of words (suc w) n))
      ∙ ⊎_elim
      (λ (e : p ≡ w).
      stored_other n (suc w) d p (inl (omega arith))
      ∙ subst (λ (q : ℕ). view d q ≡ word q) (sym e)
      (same_by (is_other (word w)) c w refl (none w (omega arith))))
      (λ (ne : p ≢ w). stored_at n (suc w) d p (λ q more.
      other_by (is_other (word w)) c w q (λ e. absurd (omega arith)) ∙ none q (omega arith))
      (omega arith) (omega arith))
      (cases_eq p w)

  -- flushes and the fence leave the view

  flush_by : (b : Bool) (c : Cache) (k p : ℕ) → view (play c (if b then Flush k ∷ [] else [])) p
      ≡ view c p
  flush_by true c k p = view_flush c k p
  flush_by false c k p = refl

  flushed_view : (n k : ℕ) (c : Cache) (p : ℕ) → view (play c (flushes_of words k n)) p ≡ view c p
  flushed_view zero k c p = refl
  flushed_view (suc n) k c p =
      ap (λ (d : Cache). view d p) (play_append c (flush_of words k) (flushes_of words (suc k) n))
      ∙ flushed_view n (suc k) (play c (flush_of words k)) p
      ∙ flush_by (has_other words k) c k p

  blank_word : (p : ℕ) → view blank p ≡ pos 0
  unfolding view
  blank_word p = refl

  past : (xs : List ℤ) (p : ℕ) → length xs ≤ p → slice_index_or xs p (pos 0) ≡ pos 0
  past [] p more = refl
  past (x ∷ xs) zero more = absurd (omega arith)
  past (x ∷ xs) (suc p) more = past xs p (omega arith)

  pub written_word : (lines p : ℕ) → view (play blank (opening_events lines words)) p ≡ word p
  unfolding opening_events
  written_word lines p =
      let stores : List CacheEvent = stores_of words 0 (length words) in
      let flushes : List CacheEvent = flushes_of words 0 lines in
      let c : Cache = play blank stores in
      ap (λ (d : Cache). view d p) (play_append blank stores (flushes ++ Fence ∷ [])
      ∙ play_append c flushes (Fence ∷ []))
      ∙ view_fence (play c flushes) p
      ∙ flushed_view lines 0 c p
      ∙ ⊎_elim
      (λ (less : p < length words). stored_at (length words) 0 blank p (λ q more. blank_word q)
      (omega arith) (omega arith))
      (λ (more : length words ≤ p). stored_other (length words) 0 blank p (inr (omega arith))
      ∙ blank_word p ∙ sym (past words p more))
      (cases_lt p (length words))

  -- the lines that were stored to

  module _ (lines : ℕ) (whole : length words ≡ 8 * lines) where
    abbrev Dirty : ℕ → Type 0
    Dirty l = (l < lines) × (has_other words l ≡ true)

    dirty_at : (w : ℕ) → w < length words → is_other (word w) ≡ true → Dirty (w / 8)
    dirty_at w less is =
        let l : ℕ = w / 8 in
        let o : ℕ = w % 8 in
        let place : 8 * l + o ≡ w = omega arith in
        let some : List ℤ = drop (8 * l) words in
        let long : o < length (take 8 some) = rw (length-take, length-drop) (omega arith) in
        let found : get_or (take 8 some) o (pos 0) ≡ word w =
        get_or-take 8 some o (pos 0) (omega arith) ∙ get_or-drop (8 * l) words o (pos 0)
        ∙ ap word place in
        (omega arith, list_any_at is_other (take 8 some) o (pos 0) long (ap is_other found ∙ is))

    store_clean : (b : Bool) (c : Cache) (w : ℕ) → is_other (word w) ≡ b → w < length words
        → Clean Dirty c → Clean Dirty (play c (event_of b w))
    store_clean true c w is less clean = clean_store Dirty c w (word w) (dirty_at w less is) clean
    store_clean false c w is less clean = clean

    stores_clean : (n w : ℕ) (c : Cache) → w + n ≤ length words → Clean Dirty c
        → Clean Dirty (play c (stores_of words w n))
    stores_clean zero w c fits clean = clean
    stores_clean (suc n) w c fits clean =
        subst (Clean Dirty) (sym (play_append c (store_of words w) (stores_of words (suc w) n)))
        (stores_clean n (suc w) (play c (store_of words w)) (omega arith)
        (store_clean (is_other (word w)) c w refl (omega arith) clean))

    abbrev From : ℕ → ℕ → Type 0
    From k l = (k ≤ l) × Dirty l

    flush_clean : (b : Bool) (c : Cache) (k : ℕ) → has_other words k ≡ b → Clean (From k) c
        → Clean (From (suc k)) (play c (if b then Flush k ∷ [] else []))
    flush_clean true c k is clean =
        clean_flush (From k) (From (suc k)) c k
        (λ l d. ⊎_elim (λ (e : l ≡ k). inl e) (λ (ne : l ≢ k). let more = d.0 in
        inr (omega arith, d.1)) (cases_eq l k)) clean
    flush_clean false c k is clean =
        clean_more (From k) (From (suc k)) c
        (λ l d. ⊎_elim
        (λ (e : l ≡ k). let clash : true ≡ false = sym d.1.1 ∙ ap (has_other words) e ∙ is in
        absurd cc)
        (λ (ne : l ≢ k). let more = d.0 in (omega arith, d.1))
        (cases_eq l k))
        clean

    flushes_clean : (n k : ℕ) (c : Cache) → Clean (From k) c
        → Clean (From (k + n)) (play c (flushes_of words k n))
    flushes_clean zero k c clean = clean_more (From k) (From (k + 0)) c (λ l d. let more = d.0 in
        (omega arith, d.1)) clean
    flushes_clean (suc n) k c clean =
        clean_more (From (suc k + n)) (From (k + suc n)) (play c (flushes_of words k (suc n)))
        (λ l d. let more = d.0 in (omega arith, d.1))
        (subst (Clean (From (suc k + n)))
        (sym (play_append c (flush_of words k) (flushes_of words (suc k) n)))
        (flushes_clean n (suc k) (play c (flush_of words k))
        (flush_clean (has_other words k) c k refl clean)))

    pub written_rest : IsAtRest (play blank (opening_events lines words))
    unfolding opening_events
    written_rest =
        let stores : List CacheEvent = stores_of words 0 (length words) in
        let flushes : List CacheEvent = flushes_of words 0 lines in
        let c : Cache = play blank stores in
        let stored : Clean Dirty c = stores_clean (length words) 0 blank (omega arith)
        (blank_clean Dirty) in
        let flushed : Clean (From (0 + lines)) (play c flushes) =
        flushes_clean lines 0 c (clean_more Dirty (From 0) c (λ l d. (omega arith, d)) stored) in
        subst IsAtRest (sym (play_append blank stores (flushes ++ Fence ∷ [])
        ∙ play_append c flushes (Fence ∷ [])))
        (fence_rest (play c flushes) (clean_more (From (0 + lines)) Nowhere (play c flushes)
        (λ l d. let more = d.0 in let less = d.1 in omega arith) flushed))

-- events one list after another are played as one list
pub ruleset joined = (all_append, part_left, part_right)
