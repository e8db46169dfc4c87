-- What a crash leaves of a session's file is recovered as what a power cut leaves of its device.
use Rattle.std.proofs.Common.{◌≡◌, inl, ⊎_elim, ℕ, ◌/◌, ◌*◌, ◌<◌, ◌≤◌, Bool}
use Rattle.std.proofs.Common.{List, [], ◌∷◌, length, slice_index_or, zero, suc, Some, None}
use Rattle.std.proofs.Common.{ℤ, pos, refl, sym, ap, ◌∙◌, subst, arith}
use Rattle.std.proofs.lemmas.Bool.{cases_lt}
use Rattle.cache_model.specs.Cache.{Words, Line, view, blank}
use Rattle.cache_model.specs.Image.{IsVersion, IsImage, Images}
use Rattle.cache_model.specs.Play.{play}
use Rattle.pmem.specs.Device.{Device, memory_of, blanked}
use Rattle.file_pmem.specs.File.{FileLines, MayLeave}
use Rattle.file_pmem.specs.Mirror.{CoversCopies, IsBlankPast}
use Rattle.file_pmem.proofs.Crashes.{crash}
use Rattle.pool_layout.specs.Image.{image_words}
use Rattle.pool_layout.specs.Sizes.{pool_lines}
use Rattle.pool_layout.specs.Good.{Lost}
use Rattle.pool_map.specs.Trap.{trap_number}
use Rattle.pm_machine.specs.Effects.{heap_end}
use Rattle.crash_law.specs.Law.{IsAtRest, IsCut}
use Rattle.crash_law.specs.Pools.{IsBefore}
use Rattle.run_law.specs.Seen.{result_of, E, W}
use Rattle.cut_law.specs.Law.{call_of, pool_with}
use Rattle.cnvm_session.specs.declared.mode.Mode.{Mode}
use Rattle.cnvm_session.specs.declared.program.Program.{Program}
use Rattle.cnvm_session.specs.Marks.{rolls_back_of, policy_of}
use Rattle.cnvm_session.specs.Opening.{opening_events}
use Rattle.cnvm_session.specs.Pool.{sizes_of}
use Rattle.cnvm_session.proofs.Writing.{written_word, written_rest}
use Rattle.session_law.specs.Answers.{Powers}
use Rattle.session_law.specs.Holds.{HoldsAs, OwesNone, OwesBy, HeldAs}
use Rattle.session_law.specs.State.{Pending, Standing, Ready, Down, Unusable, SourceState}
use Rattle.session_law.proofs.images.Ones.{rest_images}
use Rattle.pmem.proofs.Refused.{all_cache, all_on}
use Rattle.session_law.proofs.answers.Powers.{held_recovers}
use Rattle.session_law.proofs.images.Resting.{resting_owes}
use Rattle.file_law.specs.Law.{ReopenLaw}

-- what holds of each image of the one device holds of each image of the other
module _ (program : Program) (super : Words) (d e : Device) (s : SourceState)
    (carry : (P : Words → Type 0) → Images P d.cache → Images P e.cache) where
  carried_none : OwesNone program super d s → OwesNone program super e s
  carried_none owes = record {
    heap = owes.heap;
    holds = owes.holds;
    left = carry (IsBefore (pool_with program.image super) s.done owes.heap s.last) owes.left;
  }

  carried_owed : (owed : Pending) (marked : Bool) → OwesBy marked program super owed d s
      → OwesBy marked program super owed e s
  carried_owed owed marked owes = record {
    heap = owes.heap;
    holds = owes.holds;
    takes = owes.takes;
    words = owes.words;
    end = owes.end;
    effects = owes.effects;
    ran = owes.ran;
    left =
        carry
        (IsCut (pool_with program.image super) (call_of s.done owed.tx owed.args)
        (E (policy_of marked) owes.effects) (W owes.effects) owes.heap
        (heap_end owes.heap owes.effects) s.last
        (result_of (policy_of marked) s.last owes.end))
        owes.left;
  }

  carried : (m : Mode) (st : Standing) → HoldsAs st program super m d s
      → HeldAs st program super e s
  carried m Ready holds = carried_none (resting_owes program super d s holds.1)
  carried m (Down None) holds = carried_none holds.1
  carried m (Down (Some owed)) holds = carried_owed owed (rolls_back_of program owed.tx) holds.1
  carried m (Unusable kind) holds =
      carry (Lost program.image.parts.sizes (trap_number kind)) holds.1

past : (xs : List ℤ) (p : ℕ) → length xs ≤ p → slice_index_or xs p (pos 0) ≡ pos 0
past [] p more = refl
past (x ∷ xs) zero more = absurd (omega arith)
past (x ∷ xs) (suc p) more = past xs p (omega arith)

-- The words that a crash may leave of a file that covers the device are an image of it: of each
-- line one version, and zeros past the last line.
module _ (d : Device) (f : FileLines) (words : List ℤ) (blank_past : IsBlankPast (memory_of d))
    (covers : CoversCopies f (memory_of d)) (may : MayLeave f d.lines (image_words words))
    (whole : length words ≡ 8 * d.lines) where
  abbrev OfLine : ℕ → Type 0
  OfLine l = (v : Words) × IsVersion (d.cache l) v
      × ((p : ℕ) → p / 8 ≡ l → image_words words p ≡ v p)

  inside_line : (l : ℕ) → l < d.lines → OfLine l
  inside_line l lt =
      let left = crash f (memory_of d) (image_words words) covers may in
      let one = left.1 l in (
        one.0,
        one.1,
        λ p e. left.2 p (subst (λ (j : ℕ). j < d.lines) (sym e) lt) ∙ one.2 p e,
      )

  outside_line : (l : ℕ) → d.lines ≤ l → OfLine l
  outside_line l le = (
    (blank l).newest,
    inl (ap (λ (y : Line). y.newest) (sym (blank_past l le))),
    λ p e. past words p (omega (arith, whole, e, le)),
  )

  pub left_image : IsImage d.cache (image_words words)
  left_image l = ⊎_elim (λ (lt : l < d.lines). inside_line l lt)
      (λ (le : d.lines ≤ l). outside_line l le) (cases_lt l d.lines)

pub reopened : ReopenLaw
reopened program super x f words d b n a k k1 agrees holds is opens =
    let lines : ℕ = pool_lines (sizes_of program) in
    let e : Device = opens.opened in
    let events = opening_events lines words in
    let played : e.cache ≡ play blank events = all_cache events (blanked lines d) e opens.written in
    let on = all_on events (blanked lines d) e opens.written in
    let whole : length words ≡ 8 * lines = is.whole ∙ ap (λ (n : ℕ). 8 * n) is.lines in
    let rest : IsAtRest e.cache = subst IsAtRest (sym played) (written_rest words lines whole) in
    let seen : view e.cache ≡ image_words words =
    ap view played ∙ (λ i p. written_word words lines p i) in
    let carry = λ (P : Words → Type 0) (all : Images P x.device.cache).
    rest_images P e.cache rest
    (subst P (sym seen) (all (image_words words)
    (left_image x.device f words is.past is.covers is.left is.whole))) in
    let held = carried program super x.device e x.state carry x.mode x.state.standing holds in
    let done = held_recovers program super agrees e x.state on rest a n b k k1 opens.recovers held
    in (
      done.0,
      subst (λ (image : Words). Powers program x.state image a done.0) seen done.1,
      done.2,
    )
