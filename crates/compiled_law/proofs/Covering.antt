-- A machine's run whose loads, stores and logs show those of the code is covered if the first store
-- to each input of the code is logged.
use Rattle.std.proofs.Common.{◌≡◌, ◌≢◌, ℕ, zero, suc, ◌+◌, ◌-◌, ◌*◌, ◌<◌, ◌≤◌, arith, Bool, true}
use Rattle.std.proofs.Common.{List, [], ◌∷◌, refl, sym, ap, ◌∙◌, subst, inl, inr, ⊎_elim}
use Rattle.std.proofs.lemmas.Bool.{true≢false}
use mathlib.Core.Logic.{◌⊎◌}
use Rattle.pool_layout.specs.declared.limits.Sizes.{Sizes}
use Rattle.pool_layout.specs.declared.places.HeapPlace.TheVariants.{Header}
use Rattle.pool_layout.specs.Places.{HeapApart, IsHeapPlace}
use Rattle.pool_layout.specs.Sizes.{slot_words}
use Rattle.pool_layout.proofs.Slots.{slot_after}
use Rattle.ir.specs.declared.site.Site.{Site}
use Rattle.code_meaning.specs.Code.{Spot, InRoot, InSlot}
use Rattle.code_meaning.specs.Deeds.{Deed}
use Rattle.log_law.specs.covered.Covered.{IsInput, FirstStore}
use Rattle.crash_law.specs.Effects as past
use Rattle.pm_machine.specs.declared.effect.Effect.{Effect}
use Rattle.pm_machine.specs.declared.effect.Effect.TheVariants.{Loads, Scans, Stores, Logs, Flushes}
use Rattle.pm_machine.specs.declared.effect.Effect.TheVariants.{Fences, Quiet}
use Rattle.pm_machine.specs.declared.records.Policy.TheVariants.{EndPool}
use Rattle.pm_machine.specs.Find.{IsHeader}
use Rattle.run_law.specs.Seen.{headers_before, seen_all}
use Rattle.run_law.proofs.Headers.{input_headers, over_headers, headers_over}
use Rattle.run_law.proofs.Headers.{first_headers, headers_first}
use Rattle.run_law.proofs.Inputs.{input_seen, over_seen}
use Rattle.run_law.specs.Sound.{IsCoveredRun}
use Rattle.machine_law.specs.pieces.Stands.{place_of, heap_word, header_word}
use Rattle.machine_law.specs.pieces.Shows.{IsThere, ShowsDeeds, done, looks, scans, reads, plain}
use Rattle.machine_law.specs.pieces.Shows.{logs, heads}
use Rattle.machine_law.specs.matching.Accesses.{accesses}

-- an input of a run that begins with loads of headers is a header or an input of what follows
headers_input : (w d k u : ℕ) (es : List past.Effect) → past.IsInput (headers_before w d k es) u →
    IsHeader w d k u ⊎ past.IsInput es u
headers_input w d zero u es h = inr h
headers_input w d (suc k) u es (inl e) = inl (inl e)
headers_input w d (suc k) u es (inr h) =
    ⊎_elim (λ is. inl (inr is)) (λ later. inr later) (headers_input (w + d) d k u es h)

-- the inputs and overwritten words of a run are those of its loads, stores and logs
input_accesses : (es : List Effect) (w : ℕ) → past.IsInput (seen_all es) w
    → past.IsInput (seen_all (accesses es)) w
input_accesses [] w h = h
input_accesses (Loads u ∷ es) w (inl e) = inl e
input_accesses (Loads u ∷ es) w (inr h) = inr (input_accesses es w h)
input_accesses (Scans u apart many ∷ es) w h =
    input_headers u apart many w (seen_all (accesses es))
    (⊎_elim (λ is. inl is) (λ later. inr (input_accesses es w later))
    (headers_input u apart many w (seen_all es) h))
input_accesses (Stores u x ∷ es) w h = (h.0, input_accesses es w h.1)
input_accesses (Logs u ∷ es) w h = input_accesses es w h
input_accesses (Flushes l ∷ es) w h = input_accesses es w h
input_accesses (Fences ∷ es) w h = input_accesses es w h
input_accesses (Quiet ∷ es) w h = input_accesses es w h

overwritten_accesses : (es : List Effect) (w : ℕ) → past.IsOverwritten (seen_all es) w
    → past.IsOverwritten (seen_all (accesses es)) w
overwritten_accesses [] w h = h
overwritten_accesses (Loads u ∷ es) w h = overwritten_accesses es w h
overwritten_accesses (Scans u apart many ∷ es) w h =
    over_headers u apart many w (seen_all (accesses es))
    (overwritten_accesses es w (headers_over u apart many w (seen_all es) h))
overwritten_accesses (Stores u x ∷ es) w (inl e) = inl e
overwritten_accesses (Stores u x ∷ es) w (inr h) = inr (overwritten_accesses es w h)
overwritten_accesses (Logs u ∷ es) w h = overwritten_accesses es w h
overwritten_accesses (Flushes l ∷ es) w h = overwritten_accesses es w h
overwritten_accesses (Fences ∷ es) w h = overwritten_accesses es w h
overwritten_accesses (Quiet ∷ es) w h = overwritten_accesses es w h

logged_accesses : (es : List Effect) (w : ℕ) → past.IsLoggedFirst (seen_all (accesses es)) w
    → past.IsLoggedFirst (seen_all es) w
logged_accesses [] w h = h
logged_accesses (Loads u ∷ es) w h = logged_accesses es w h
logged_accesses (Scans u apart many ∷ es) w h =
    first_headers u apart many w (seen_all es)
    (logged_accesses es w (headers_first u apart many w (seen_all (accesses es)) h))
logged_accesses (Stores u x ∷ es) w h = (h.0, logged_accesses es w h.1)
logged_accesses (Logs u ∷ es) w (inl e) = inl e
logged_accesses (Logs u ∷ es) w (inr h) = inr (logged_accesses es w h)
logged_accesses (Flushes l ∷ es) w h = logged_accesses es w h
logged_accesses (Fences ∷ es) w h = logged_accesses es w h
logged_accesses (Quiet ∷ es) w h = logged_accesses es w h

-- two words of the pool with the same place in the heap are the same
spot_of_place : (x y : Spot) → place_of x ≡ place_of y → x ≡ y
spot_of_place (InRoot i) (InRoot j) e = let same : i ≡ j = cc in ap InRoot same
spot_of_place (InRoot i) (InSlot q j) e = absurd (cc)
spot_of_place (InSlot p i) (InRoot j) e = absurd (cc)
spot_of_place (InSlot p i) (InSlot q j) e =
    let slot : p ≡ q = cc in
    let word : i ≡ j = cc in
    ap (λ (k : ℕ). InSlot k i) slot ∙ ap (InSlot q) word

no_header : (x : Spot) (q : ℕ) → place_of x ≡ Header q → ⊥
no_header (InRoot i) q e = absurd (cc)
no_header (InSlot p i) q e = absurd (cc)

same_or : (a b : ℕ) → (a ≡ b) ⊎ (a ≢ b)
same_or zero zero = inl refl
same_or zero (suc b) = inr (λ e. absurd (cc))
same_or (suc a) zero = inr (λ e. absurd (cc))
same_or (suc a) (suc b) = ⊎_elim (λ e. inl (ap suc e)) (λ ne. inr (λ e. let f : a ≡ b = cc in ne f))
    (same_or a b)

module _ (apart : HeapApart) (s : Sizes) (logged : Site → Bool) where
  same_spot : (x y : Spot) → IsThere s x → IsThere s y → heap_word s x ≡ heap_word s y → x ≡ y
  same_spot x y a b e = spot_of_place x y (apart s (place_of x) (place_of y) a b e)

  not_header : (x : Spot) (q : ℕ) → IsThere s x → IsHeapPlace s (Header q)
      → heap_word s x ≡ header_word s q → ⊥
  not_header x q a b e = no_header x q (apart s (place_of x) (Header q) a b e)

  -- a header that is loaded belongs to a slot
  header_slot : (q n u : ℕ) → 1 ≤ q → IsHeader (header_word s q) (slot_words s) n u →
      (p : ℕ) × (1 ≤ p) × (p < q + n) × (u ≡ header_word s p)
  header_slot q zero u low is = absurd is
  header_slot q (suc n) u low (inl e) = (q, low, omega arith, e)
  header_slot q (suc n) u low (inr is) =
      let after : slot_words s * (q - 1) + slot_words s ≡ slot_words s * q =
      slot_after (slot_words s) q low in
      let before : slot_words s * (q + 1 - 1) ≡ slot_words s * q =
      ap (λ (k : ℕ). slot_words s * k) (omega arith) in
      let next : header_word s q + slot_words s ≡ header_word s (q + 1) =
      omega (arith, after, before) in
      let p = header_slot (q + 1) n u (omega arith)
      (subst (λ (w : ℕ). IsHeader w (slot_words s) n u) next is) in
      (p.0, p.1, omega (arith, p.2), p.3)

  -- a header's first store is logged
  header_logged : (q : ℕ) → IsHeapPlace s (Header q) → (ds : List Deed) (es : List Effect)
      → ShowsDeeds s logged ds es → past.IsOverwritten (seen_all es) (header_word s q)
      → past.IsLoggedFirst (seen_all es) (header_word s q)
  header_logged q at ds es done h = absurd h
  header_logged q at ds es (looks {ds = a} {es = b} p there rest) h = header_logged q at a b rest h
  header_logged q at ds es (scans {ds = a} {es = b} n few rest) h =
      first_headers (header_word s 1) (slot_words s) n (header_word s q) (seen_all b)
      (header_logged q at a b rest
      (headers_over (header_word s 1) (slot_words s) n (header_word s q) (seen_all b) h))
  header_logged q at ds es (reads {ds = a} {es = b} x there rest) h = header_logged q at a b rest h
  header_logged q at ds es (plain {ds = a} {es = b} site x v there unlogged rest) (inl e) =
      absurd (not_header x q there at (sym e))
  header_logged q at ds es (plain {ds = a} {es = b} site x v there unlogged rest) (inr h) =
      ((λ e. not_header x q there at (sym e)), header_logged q at a b rest h)
  header_logged q at ds es (logs {ds = a} {es = b} site x v there log rest) (inl e) =
      absurd (not_header x q there at (sym e))
  header_logged q at ds es (logs {ds = a} {es = b} site x v there log rest) (inr h) =
      inr ((λ e. not_header x q there at (sym e)), header_logged q at a b rest h)
  header_logged q at ds es (heads {ds = a} {es = b} site p v there rest) (inl e) = inl e
  header_logged q at ds es (heads {ds = a} {es = b} site p v there rest) (inr h) =
      ⊎_elim (λ e. inl e) (λ ne. inr (ne, header_logged q at a b rest h))
      (same_or (header_word s q) (header_word s p))

  -- a word's first store is logged if the store's site is
  word_logged : (x : Spot) → IsThere s x → (ds : List Deed) (es : List Effect)
      → ShowsDeeds s logged ds es → ((a : Site) → FirstStore ds x a → logged a ≡ true)
      → past.IsOverwritten (seen_all es) (heap_word s x)
      → past.IsLoggedFirst (seen_all es) (heap_word s x)
  word_logged x at ds es done need h = absurd h
  word_logged x at ds es (looks {ds = a} {es = b} p there rest) need h =
      word_logged x at a b rest need h
  word_logged x at ds es (scans {ds = a} {es = b} n few rest) need h =
      first_headers (header_word s 1) (slot_words s) n (heap_word s x) (seen_all b)
      (word_logged x at a b rest need
      (headers_over (header_word s 1) (slot_words s) n (heap_word s x) (seen_all b) h))
  word_logged x at ds es (reads {ds = a} {es = b} y there rest) need h =
      word_logged x at a b rest need h
  word_logged x at ds es (plain {ds = a} {es = b} site y v there unlogged rest) need h =
      ⊎_elim (λ (e : heap_word s x ≡ heap_word s y).
      absurd (true≢false (sym (need site (inl (same_spot x y at there e, refl))) ∙ unlogged)))
      (λ (ne : heap_word s x ≢ heap_word s y). (
        ne,
        word_logged x at a b rest (λ c first.
            need c (inr ((λ e. ne (ap (heap_word s) e)), first)))
            (⊎_elim (λ e. absurd (ne e)) (λ more. more) h),
      ))
      (same_or (heap_word s x) (heap_word s y))
  word_logged x at ds es (logs {ds = a} {es = b} site y v there log rest) need h =
      ⊎_elim (λ (e : heap_word s x ≡ heap_word s y). inl e)
      (λ (ne : heap_word s x ≢ heap_word s y).
      inr (
        ne,
        word_logged x at a b rest (λ c first.
            need c (inr ((λ e. ne (ap (heap_word s) e)), first)))
            (⊎_elim (λ e. absurd (ne e)) (λ more. more) h),
      ))
      (same_or (heap_word s x) (heap_word s y))
  word_logged x at ds es (heads {ds = a} {es = b} site p v there rest) need (inl e) =
      absurd (not_header x p at there e)
  word_logged x at ds es (heads {ds = a} {es = b} site p v there rest) need (inr h) =
      inr ((λ e. not_header x p at there e), word_logged x at a b rest need h)

  -- the site of the first store to word w is logged if w is an input
  abbrev Needs : ℕ → List Deed → Type 0
  Needs w ds = (x : Spot) (a : Site) → IsThere s x → heap_word s x ≡ w → IsInput ds x
      → FirstStore ds x a → logged a ≡ true

  covered : (w : ℕ) (ds : List Deed) (es : List Effect) → ShowsDeeds s logged ds es → Needs w ds
      → past.IsInput (seen_all es) w → past.IsOverwritten (seen_all es) w
      → past.IsLoggedFirst (seen_all es) w
  covered w ds es done need input over = absurd over
  covered w ds es (looks {ds = a} {es = b} p there rest) need (inl e) over =
      subst (λ (n : ℕ). past.IsLoggedFirst (seen_all b) n) (sym e)
      (header_logged p there a b rest
      (subst (λ (n : ℕ). past.IsOverwritten (seen_all b) n) e over))
  covered w ds es (looks {ds = a} {es = b} p there rest) need (inr input) over =
      covered w a b rest need input over
  covered w ds es (scans {ds = a} {es = b} n few rest) need input over =
      let later : past.IsOverwritten (seen_all b) w =
      headers_over (header_word s 1) (slot_words s) n w (seen_all b) over in
      first_headers (header_word s 1) (slot_words s) n w (seen_all b)
      (⊎_elim
      (λ (is : IsHeader (header_word s 1) (slot_words s) n w).
      let p = header_slot 1 n w (omega arith) is in
      subst (λ (u : ℕ). past.IsLoggedFirst (seen_all b) u) (sym p.3)
      (header_logged p.0 (p.1, omega (arith, p.2, few)) a b rest
      (subst (λ (u : ℕ). past.IsOverwritten (seen_all b) u) p.3 later)))
      (λ (more : past.IsInput (seen_all b) w). covered w a b rest need more later)
      (headers_input (header_word s 1) (slot_words s) n w (seen_all b) input))
  covered w ds es (reads {ds = a} {es = b} y there rest) need (inl e) over =
      subst (λ (n : ℕ). past.IsLoggedFirst (seen_all b) n) (sym e)
      (word_logged y there a b rest (λ c first. need y c there (sym e) (inl refl) first)
      (subst (λ (n : ℕ). past.IsOverwritten (seen_all b) n) e over))
  covered w ds es (reads {ds = a} {es = b} y there rest) need (inr input) over =
      covered w a b rest (λ x c at is more first. need x c at is (inr more) first) input over
  covered w ds es (plain {ds = a} {es = b} site y v there unlogged rest) need input over =
      let other : (x : Spot) → heap_word s x ≡ w → x ≢ y =
      λ x is e. input.0 (sym is ∙ ap (heap_word s) e) in (
        input.0,
        covered w a b rest (λ x c at is more first.
            need x c at is (other x is, more) (inr (other x is, first))) input.1
            (⊎_elim (λ e. absurd (input.0 e)) (λ more. more) over),
      )
  covered w ds es (logs {ds = a} {es = b} site y v there log rest) need input over =
      let other : (x : Spot) → heap_word s x ≡ w → x ≢ y =
      λ x is e. input.0 (sym is ∙ ap (heap_word s) e) in
      inr (
        input.0,
        covered w a b rest (λ x c at is more first.
            need x c at is (other x is, more) (inr (other x is, first))) input.1
            (⊎_elim (λ e. absurd (input.0 e)) (λ more. more) over),
      )
  covered w ds es (heads {ds = a} {es = b} site p v there rest) need input over =
      inr (
        input.0,
        covered w a b rest need input.1
            (⊎_elim (λ e. absurd (input.0 e)) (λ more. more) over),
      )

  -- a run is covered
  pub covered_run : (ds : List Deed) (es : List Effect) → ShowsDeeds s logged ds (accesses es)
      → ((x : Spot) (a : Site) → IsInput ds x → FirstStore ds x a → logged a ≡ true)
      → IsCoveredRun EndPool es
  covered_run ds es shows need w input over =
      logged_accesses es w (covered w ds (accesses es) shows (λ x a at is. need x a)
      (input_accesses es w (input_seen es w input))
      (overwritten_accesses es w (over_seen es w over)))
