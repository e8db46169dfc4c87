-- What a crash in a move leaves of the file is opened by either program, once it has its digest.
use Rattle.std.proofs.Common.{◌≡◌, ℕ, ◌+◌, ◌-◌, ◌*◌, Bool, true}
use Rattle.std.proofs.Common.{false, if◌then◌else◌, List, length, slice_index_or, Some}
use Rattle.std.proofs.Common.{None, ℤ, pos, refl, sym, ap, ◌∙◌, subst, arith}
use Rattle.cache_model.specs.Cache.{Words, view, blank}
use Rattle.cache_model.specs.Image.{IsImage, Images}
use Rattle.cache_model.specs.Play.{play}
use Rattle.pmem.specs.Device.{Device, blanked}
use Rattle.pmem.proofs.Refused.{all_cache, all_on}
use Rattle.file_pmem.specs.File.{FileLines}
use Rattle.pool_layout.specs.declared.limits.Sizes.{Sizes}
use Rattle.pool_layout.specs.Image.{image_words}
use Rattle.pool_layout.specs.Sizes.{pool_lines}
use Rattle.pool_layout.specs.Good.{Lost}
use Rattle.pool_map.specs.Trap.{trap_number}
use Rattle.crash_law.specs.Law.{IsAtRest}
use Rattle.crash_law.specs.Pools.{IsBefore}
use Rattle.cut_law.specs.Law.{pool_with}
use Rattle.cnvm_session.specs.declared.answer.Answer.{Answer}
use Rattle.cnvm_session.specs.declared.mode.Mode.{Mode}
use Rattle.cnvm_session.specs.declared.program.Program.{Program}
use Rattle.cnvm_session.specs.Moving.{is_recovered}
use Rattle.cnvm_session.specs.Opening.{opening_events}
use Rattle.cnvm_session.specs.Outcomes.{Opens}
use Rattle.cnvm_session.specs.Pool.{sizes_of}
use Rattle.cnvm_session.proofs.Writing.{written_word, written_rest}
use Rattle.session_law.specs.Agrees.{Agrees}
use Rattle.session_law.specs.Answers.{Powers}
use Rattle.session_law.specs.Holds.{HoldsPool, IsResting, OwesNone, HoldsAs, Holds, HeldAs}
use Rattle.session_law.specs.Ran.{Moment}
use Rattle.session_law.specs.State.{Standing, Ready, Down, Unusable, SourceState}
use Rattle.session_law.proofs.images.Ones.{rest_images}
use Rattle.session_law.proofs.answers.Powers.{held_recovers}
use Rattle.session_law.proofs.images.Resting.{resting_owes}
use Rattle.file_law.specs.Moved.{is_digest_word, moved_words, AreBetween, HasDigest, IsMoveCut}
use Rattle.file_law.specs.Moved.{IsMended, MovingReopenLaw}
use Rattle.file_law.proofs.Moves.{digest_word}
use Rattle.file_law.proofs.Moving.{moving_cut, mark_between, owing, holds_pool}
use Rattle.file_law.proofs.Places.{before_moved, between_moved}
use Rattle.file_law.proofs.Reopening.{left_image}
use Rattle.file_law.proofs.Shapes.{same_shapes}

-- words that have a program's digest keep it
own_digest : (program : Program) (super : Words) → HasDigest program super
    → moved_words program super ≡ super
own_digest program super has i k = go (is_digest_word k) refl i
  where
    go : (b : Bool) → is_digest_word k ≡ b
        → (if b then slice_index_or program.digest (k - 8) (pos 0) else super k) ≡ super k
    go false e = refl
    go true e =
        let place = digest_word k e in
        let at : 8 + (k - 8) ≡ k = omega (arith, place.0) in
        sym (has (k - 8) (omega (arith, place.0, place.1))) ∙ ap super at

module _ (former new : Program) (super : Words) (x : Moment) (b : Device) (f : FileLines)
    (words : List ℤ) (cut : IsMoveCut former new super x b f words) where
  abbrev s : SourceState
  s = x.state

  abbrev image : Words
  image = image_words words

  -- an image of the device before the move, which the words are but for their digest
  near : (before : Words) × IsImage x.device.cache before × AreBetween new before image
  near = moving_cut new x.device b cut.moves image
      (left_image b f words cut.left.past cut.left.covers cut.left.left cut.left.whole)

  module _ (program : Program) (sizes : sizes_of program ≡ sizes_of former)
      (pool : (h : Words) → HoldsPool former h s → HoldsPool program h s) (e : Device)
      (rest : IsAtRest e.cache) (seen : view e.cache ≡ moved_words program image) where
    abbrev mended : Words → Words
    mended w = moved_words program w

    rests : IsResting former super x.device s → OwesNone program (mended super) e s
    rests resting =
        let owes = resting_owes former super x.device s resting in
        let Q : Words → Type 0 =
        IsBefore (pool_with program.image (mended super)) s.done owes.heap s.last in
        let here : Q (mended near.0) = subst
        (λ (y : Sizes). IsBefore (record { sizes = y; super = mended super }) s.done owes.heap
        s.last (mended near.0)) (sym sizes)
        (before_moved program.digest (sizes_of former) super s.done owes.heap s.last near.0
        (owes.left near.0 near.1)) in
        record {
          heap = owes.heap;
          holds = pool owes.heap owes.holds;
          left = rest_images Q e.cache rest
              (subst Q (sym (seen ∙ between_moved program.digest new.digest near.0 image near.2))
              here);
        }

    loses : (k : ℕ) → Images (Lost (sizes_of former) k) x.device.cache
        → Images (Lost (sizes_of program) k) e.cache
    loses k lost =
        let was = lost near.0 near.1 in
        let here : Lost (sizes_of program) k (mended image) =
        (mark_between new near.0 image near.2 ∙ was.0, was.1) in
        rest_images (Lost (sizes_of program) k) e.cache rest
        (subst (Lost (sizes_of program) k) (sym seen) here)

    by_standing : (st : Standing) (m : Mode) → is_recovered m ≡ true
        → HoldsAs st former super m x.device s → HeldAs st program (mended super) e s
    by_standing Ready m recovered holds = rests holds.1
    by_standing (Down None) m recovered holds = absurd (owing m recovered holds.0)
    by_standing (Down (Some owed)) m recovered holds = absurd (owing m recovered holds.0)
    by_standing (Unusable kind) m recovered holds = loses (trap_number kind) holds.1

    held : HeldAs s.standing program (mended super) e s
    held = by_standing s.standing x.mode cut.recovered cut.holds

  -- the program opens the words with its digest
  module _ (program : Program) (sizes : sizes_of program ≡ sizes_of former)
      (pool : (h : Words) → HoldsPool former h s → HoldsPool program h s) (agrees : Agrees program)
      (fixed : List ℤ) (is : IsMended program words fixed) (d e : Device) (n : Mode) (a : Answer)
      (k k1 : ℕ) (opens : Opens program fixed d a n e k k1) where
    abbrev lines : ℕ
    lines = pool_lines (sizes_of program)

    whole : length fixed ≡ 8 * lines
    whole = is.whole ∙ cut.left.whole ∙ ap (λ (i : ℕ). 8 * i) cut.left.lines
        ∙ ap (λ (i : Sizes). 8 * pool_lines i) (sym sizes)

    abbrev o : Device
    o = opens.opened

    played : o.cache ≡ play blank (opening_events lines fixed)
    played = all_cache (opening_events lines fixed) (blanked lines d) o opens.written

    at_rest : IsAtRest o.cache
    at_rest = subst IsAtRest (sym played) (written_rest fixed lines whole)

    read : view o.cache ≡ image_words fixed
    read = ap view played ∙ (λ i p. written_word fixed lines p i)

    mends : image_words fixed ≡ moved_words program image
    mends i p = is.as_moved p i

    abbrev Opened : Words → Type 0
    Opened own = (t : SourceState) × Powers program s (image_words fixed) a t
        × Holds program own n e t

    opened_as : (own : Words) → moved_words program super ≡ own → Opened own
    opened_as own same =
        let on = all_on (opening_events lines fixed) (blanked lines d) o opens.written in
        let holds : HeldAs s.standing program own o s =
        subst (λ (w : Words). HeldAs s.standing program w o s) same
        (held program sizes pool o at_rest (read ∙ mends)) in
        let done = held_recovers program own agrees o s on at_rest a n e k k1 opens.recovers
        holds in (
          done.0,
          subst (λ (w : Words). Powers program s w a done.0) read done.1,
          done.2,
        )

pub reopened_moving : MovingReopenLaw
reopened_moving former new super x b d e f words mended n a k k1 none sizes cut = (
  λ agrees is opens. opened_as former new super x b f words cut former refl (λ h holds. holds)
      agrees mended is d e n a k k1 opens super (own_digest former super cut.digest),
  λ agrees is opens. opened_as former new super x b f words cut new sizes
      (λ h holds. holds_pool former new (same_shapes former new none) sizes h x.state holds)
      agrees mended is d e n a k k1 opens (moved_words new super) refl,
)
