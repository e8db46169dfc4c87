-- How many steps a call takes if it runs its transaction to its end.
use Rattle.std.proofs.Common.{◌≡◌, ℕ, ◌+◌, ◌==◌, ◌&&◌, Bool, true, false, List, length, Option}
use Rattle.std.proofs.Common.{Some, None, ℤ, refl, sym, ap, ◌∙◌, subst}
use Rattle.std.proofs.lemmas.Bool.{eqb-true}
use Rattle.cache_model.specs.Cache.{Words, view}
use Rattle.pmem.specs.Device.{Device}
use Rattle.pool_layout.specs.declared.places.TheConstants.{DONE, ATTEMPT}
use Rattle.pm_machine.specs.Runs.{heap_in}
use Rattle.tx_run.specs.Standing.{is_number}
use Rattle.tx_run.specs.declared.answer.CallAnswer.{CallAnswer}
use Rattle.cnvm_session.specs.declared.mode.Mode.{Mode}
use Rattle.cnvm_session.specs.declared.mode.Mode.TheVariants as mode
use Rattle.cnvm_session.specs.declared.answer.Answer.{Answer}
use Rattle.cnvm_session.specs.declared.program.Program.{Program}
use Rattle.cnvm_session.specs.Commands as commanded
use Rattle.cnvm_session.specs.Commands.{call_number, tx_parameters}
use Rattle.cnvm_session.specs.Marks.{rolls_back_of, looks_of, unsigned_of}
use Rattle.cnvm_session.specs.Outcomes.{answer_of_call}
use Rattle.cnvm_session.specs.Outcomes as outcomes
use Rattle.cnvm_session.specs.Pool.{sizes_of}
use Rattle.session_law.specs.Words.{AreWords}
use Rattle.session_law.specs.Agrees.{Agrees}
use Rattle.session_law.specs.State.{Standing, Ready, Down, Unusable, SourceState}
use Rattle.session_law.specs.Holds.{IsResting, HoldsAs}
use Rattle.session_law.specs.Law.{RanToEnd, TakesBy, CallStepsLaw}
use Rattle.session_law.proofs.images.Reading.{numbers_small, stands_ready, stands_numbers}
use Rattle.session_law.proofs.answers.Calls.{call_counts}
use Rattle.session_law.proofs.answers.Looking.{look_takes}

module _ (program : Program) (super : Words) (agrees : Agrees program)
    (d b : Device) (s : SourceState) (resting : IsResting program super d s)
    (args : List ℤ) (words : AreWords args) (tx : ℕ) (a : Answer) (run : RanToEnd a) (n : Mode)
    (k k1 : ℕ) where
  abbrev Taken : Bool → Type 0
  Taken marked =
      (taken : ℕ) × TakesBy marked program (heap_in (sizes_of program) d.cache) tx args taken
      × (k1 ≡ k + taken)

  abbrev Numbers : Bool → Type 0
  Numbers x = (is_number (view d.cache DONE) && is_number (view d.cache ATTEMPT)) ≡ x

  by_mark : tx_parameters program.image tx ≡ Some (length args) → (marked u : Bool)
      → rolls_back_of program tx ≡ marked →
      outcomes.RunsBy marked u program.image tx args d a n b k k1 → Taken marked
  by_mark takes marked u mark is =
      go (is_number (view d.cache DONE) && is_number (view d.cache ATTEMPT)) refl
    where
      go : (x : Bool) → Numbers x → Taken marked
      go true numbers =
          let good = resting.before.good in
          call_counts marked program super agrees d s resting tx args takes words
          (numbers_small (view d.cache) s.done good.attempt good.done good.attempt_is numbers) b
          mark u is.tx_answer k k1 (subst RanToEnd is.answer run)
          (is.called.ready resting.on (stands_ready (view d.cache) good.mark numbers))
      go false numbers =
          let same = (is.called.numbers resting.on
          (stands_numbers (view d.cache) resting.before.good.mark numbers)).0 in
          absurd (subst (λ (r : CallAnswer). RanToEnd (answer_of_call u r)) same
          (subst RanToEnd is.answer run))

  by_marks : tx_parameters program.image tx ≡ Some (length args) → (looks marked u : Bool)
      → looks_of program tx ≡ looks → rolls_back_of program tx ≡ marked →
      outcomes.RunsAs looks marked u program.image tx args d a n b k k1 → Taken marked
  by_marks takes true marked u look mark is =
      look_takes program super agrees d s resting tx args takes words look marked u is.seen k k1
      (subst RanToEnd is.answer run) is.looked
  by_marks takes false marked u look mark is = by_mark takes marked u mark is

  by_count : (count : ℕ) (same : Bool) → (count == length args) ≡ same
      → tx_parameters program.image tx ≡ Some count
      → commanded.CallsWith same program tx args d a n b k k1 → Taken (rolls_back_of program tx)
  by_count count true same takes h =
      by_marks (takes ∙ ap (λ (i : ℕ). Some i) (eqb-true count (length args) same))
      (looks_of program tx) (rolls_back_of program tx) (unsigned_of program tx) refl refl h
  by_count count false same takes h = absurd (subst RanToEnd h.0 run)

  by_parameters : (count : Option ℕ) → tx_parameters program.image tx ≡ count
      → commanded.CallsTo count program tx args d a n b k k1 → Taken (rolls_back_of program tx)
  by_parameters None takes h = absurd (subst RanToEnd h.0 run)
  by_parameters (Some count) takes h = by_count count (count == length args) refl takes h

  pub call_taken : (number : Option ℕ) → number ≡ Some tx
      → commanded.CallsNamed number program args d a n b k k1 → Taken (rolls_back_of program tx)
  call_taken number is h =
      by_parameters (tx_parameters program.image tx) refl
      (subst (λ (x : Option ℕ). commanded.CallsNamed x program args d a n b k k1) is h)

module _ (program : Program) (super : Words) (agrees : Agrees program) (name : List ℕ)
    (args : List ℤ) (words : AreWords args) (tx : ℕ) (m n : Mode) (d b : Device) (s : SourceState)
    (a : Answer) (run : RanToEnd a) (k k1 : ℕ) (is : call_number program name ≡ Some tx)
    (h : commanded.Calls program name args m d a n b k k1) where
  abbrev TakenCall : Type 0
  TakenCall =
      (taken : ℕ) × TakesBy (rolls_back_of program tx) program
      (heap_in (sizes_of program) d.cache) tx args taken × (k1 ≡ k + taken)

  in_mode : (x : Mode) → commanded.Calls program name args x d a n b k k1
      → (x ≡ mode.Ready → IsResting program super d s) → TakenCall
  in_mode mode.Ready calls resting =
      call_taken program super agrees d b s (resting refl) args words tx a run n k k1
      (call_number program name) is calls
  in_mode mode.Down calls resting = absurd (subst RanToEnd calls.0 run)
  in_mode (mode.Unusable trap) calls resting = absurd (subst RanToEnd calls.0 run)

  at_rest : (st : Standing) → HoldsAs st program super m d s → m ≡ mode.Ready
      → IsResting program super d s
  at_rest Ready holds same = holds.1
  at_rest (Down None) holds same =
      let clash : mode.Down ≡ mode.Ready = sym holds.0 ∙ same in absurd cc
  at_rest (Down (Some owed)) holds same =
      let clash : mode.Down ≡ mode.Ready = sym holds.0 ∙ same in absurd cc
  at_rest (Unusable trap) holds same =
      let clash : mode.Unusable trap ≡ mode.Ready = sym holds.0 ∙ same in absurd cc

pub call_steps : CallStepsLaw
call_steps program super name args tx m n d b s a k k1 agrees words holds is run h =
    in_mode program super agrees name args words tx m n d b s a run k k1 is h m h
    (λ ready. at_rest program super agrees name args words tx m n d b s a run k k1 is h s.standing
    holds ready)
