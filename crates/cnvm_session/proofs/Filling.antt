-- Lines that take an image's words at once are as its events leave them.
use Rattle.std.proofs.Common.{◌≡◌, ◌≢◌, ⊎_elim, ℕ, ◌*◌, ◌/◌, ◌==◌, cond, Bool, true, List, [], ◌∷◌}
use Rattle.std.proofs.Common.{◌++◌, false, length, Option, Some, None, ℤ, pos, refl, sym, ap, ◌∙◌}
use Rattle.std.proofs.Common.{subst, arith, eq-eqb, ne_eqb}
use Rattle.std.specs.Prelude.{slice_index_or}
use Rattle.std.proofs.lemmas.Bool.{cases_eq}
use Rattle.cache_model.specs.Event.{CacheEvent, Store, Flush, Fence}
use Rattle.cache_model.specs.Cache.{Cache, Line, put, view, blank}
use Rattle.cache_model.specs.Play.{apply, play, store_line, flush_line, fence_at}
use Rattle.cache_model.proofs.During.{play_append}
use Rattle.pmem.specs.Device.{Device, armed_as, blanked}
use Rattle.pmem.specs.Filled.{filled, filled_cache}
use Rattle.pmem.specs.Played.{PlaysAll}
use Rattle.pmem.specs.Sparse.{newest_of}
use Rattle.cnvm_session.specs.Opening.{stores_of, flushes_of, opening_events}
use Rattle.cnvm_session.proofs.Writing.{written_word, written_rest}

-- a device on which nothing is armed plays all events

abbrev quiet : ℕ → Cache → Option (Option ℕ) → ℕ → Device
quiet n c armed faults = record {
  lines = n;
  cache = c;
  on = true;
  left = None;
  armed = armed;
  faults = faults;
}

no_number : (o : Option ℕ) → o ≡ None → o ≢ Some 0
no_number o none some = absurd (cc)

plays_untold : (n : ℕ) (c : Cache) (faults : ℕ) (es : List CacheEvent)
    → PlaysAll (quiet n c None faults) es (quiet n (play c es) None faults)
plays_untold n c faults [] = refl
plays_untold n c faults (e ∷ es) =
    (((refl, no_number None refl), tt), plays_untold n (apply c e) faults es)

plays_told : (n : ℕ) (c : Cache) (faults : ℕ) (es : List CacheEvent)
    → PlaysAll (quiet n c (Some None) faults) es (quiet n (play c es) (Some None) faults)
plays_told n c faults [] = refl
plays_told n c faults (e ∷ es) =
    (((refl, no_number None refl), no_number None refl), plays_told n (apply c e) faults es)

plays_quiet : (n : ℕ) (c : Cache) (armed : Option (Option ℕ)) (faults : ℕ) (es : List CacheEvent)
    → PlaysAll (quiet n c (armed_as None armed) faults) es
    (quiet n (play c es) (armed_as None armed) faults)
plays_quiet n c None faults es = plays_untold n c faults es
plays_quiet n c (Some k) faults es = plays_told n c faults es

-- each line has zeros for the words of others

abbrev Bounded : Cache → Type 0
Bounded c = (l p : ℕ) → p / 8 ≢ l → (c l).newest p ≡ pos 0

stored_bounded : (c : Cache) (w : ℕ) (x : ℤ) → Bounded c → Bounded (apply c (Store w x))
unfolding apply put
stored_bounded c w x bounded l p ne = ⊎_elim
    (λ (same : l ≡ w / 8).
    let apart : p ≢ w = λ e. ne (ap (λ (n : ℕ). n / 8) e ∙ sym same) in
    ap (λ (t : Bool). (cond t (store_line (c l) w x) (c l)).newest p) (eq-eqb l (w / 8) same)
    ∙ ap (λ (t : Bool). cond t x ((c l).newest p)) (ne_eqb p w apart) ∙ bounded l p ne)
    (λ (other : l ≢ w / 8).
    ap (λ (t : Bool). (cond t (store_line (c l) w x) (c l)).newest p) (ne_eqb l (w / 8) other)
    ∙ bounded l p ne)
    (cases_eq l (w / 8))

flush_newest : (t : Bool) (y : Line) → (cond t (flush_line y) y).newest ≡ y.newest
flush_newest true y = refl
flush_newest false y = refl

fence_newest : (m : Option ℕ) (y : Line) → (fence_at m y).newest ≡ y.newest
fence_newest None y = refl
fence_newest (Some k) y = refl

event_bounded : (c : Cache) (e : CacheEvent) → Bounded c → Bounded (apply c e)
unfolding apply
event_bounded c (Store w x) bounded = stored_bounded c w x bounded
event_bounded c (Flush k) bounded =
    λ l p ne. (λ i. flush_newest (l == k) (c l) i p) ∙ bounded l p ne
event_bounded c Fence bounded =
    λ l p ne. (λ i. fence_newest (c l).mark (c l) i p) ∙ bounded l p ne

events_bounded : (c : Cache) (es : List CacheEvent) → Bounded c → Bounded (play c es)
events_bounded c [] bounded = bounded
events_bounded c (e ∷ es) bounded = events_bounded (apply c e) es (event_bounded c e bounded)

-- a fence leaves no mark

unmarked : (m : Option ℕ) (y : Line) → y.mark ≡ m → (fence_at m y).mark ≡ None
unmarked None y is = is
unmarked (Some k) y is = refl

fenced : (c : Cache) (l : ℕ) → (apply c Fence l).mark ≡ None
unfolding apply
fenced c l = unmarked (c l).mark (c l) refl

module _ (words : List ℤ) (lines : ℕ) (whole : length words ≡ 8 * lines) where
  abbrev opened : Cache
  opened = play blank (opening_events lines words)

  opened_mark : (l : ℕ) → (opened l).mark ≡ None
  unfolding opening_events
  opened_mark l =
      let stores : List CacheEvent = stores_of words 0 (length words) in
      let flushes : List CacheEvent = flushes_of words 0 lines in
      ap (λ (c : Cache). (c l).mark) (play_append blank stores (flushes ++ Fence ∷ [])
      ∙ play_append (play blank stores) flushes (Fence ∷ []))
      ∙ fenced (play (play blank stores) flushes) l

  opened_own : (l p : ℕ) → p / 8 ≡ l → (opened l).newest p ≡ slice_index_or words p (pos 0)
  unfolding view
  opened_own l p same =
      ap (λ (k : ℕ). (opened k).newest p) (sym same) ∙ written_word words lines p

  opened_newest : (l p : ℕ) → (opened l).newest p ≡ newest_of words l p
  opened_newest l p =
      let x : ℤ = slice_index_or words p (pos 0) in
      ⊎_elim
      (λ (same : p / 8 ≡ l). opened_own l p same
      ∙ sym (ap (λ (t : Bool). cond t x (pos 0)) (eq-eqb (p / 8) l same)))
      (λ (other : p / 8 ≢ l).
      events_bounded blank (opening_events lines words) (λ k q ne. refl) l p other
      ∙ sym (ap (λ (t : Bool). cond t x (pos 0)) (ne_eqb (p / 8) l other)))
      (cases_eq (p / 8) l)

  opened_is : opened ≡ filled_cache words
  opened_is = λ i l. record {
    older = written_rest words lines whole l i;
    newest = λ p. opened_newest l p i;
    mark = opened_mark l i;
  }

pub filled_plays : (lines : ℕ) (words : List ℤ) (d : Device) → length words ≡ 8 * lines
    → PlaysAll (blanked lines d) (opening_events lines words) (filled words d)
filled_plays lines words d whole =
    let count : lines ≡ length words / 8 = omega arith in
    let same : play blank (opening_events lines words) ≡ filled_cache words =
    opened_is words lines whole in
    subst (PlaysAll (blanked lines d) (opening_events lines words))
    (λ i. quiet (count i) (same i) (armed_as None d.armed) d.faults)
    (plays_quiet lines blank d.armed d.faults (opening_events lines words))
