-- In which phase a recovery was stopped, and whether the images that a power cut may leave have the
-- seal of the owed transaction.
use Rattle.std.proofs.Common.{◌≡◌, inl, inr, ℕ, suc, Bool, true, false, Option, Some, None}
use Rattle.std.proofs.Common.{pos, refl, sym, ap, ◌∙◌, subst, arith}
use Rattle.cache_model.specs.Cache.{Words, view}
use Rattle.cache_model.specs.Image.{Images}
use Rattle.cache_model.specs.Collapse.{bad}
use Rattle.cache_model.specs.declared.choice.Choice.{Choice}
use Rattle.pmem.specs.Device.{Device, memory_of, powered, blanked}
use Rattle.pmem.specs.declared.answer.Phase.{Phase}
use Rattle.pmem.specs.declared.answer.Phase.TheVariants as phase
use Rattle.pmem.proofs.Refused.{all_cache, all_on}
use Rattle.pool_layout.specs.declared.places.TheConstants.{DONE, MARK}
use Rattle.pool_layout.specs.Sizes.{pool_lines}
use Rattle.pool_layout.specs.Image.{image_words}
use Rattle.pool_layout.specs.Good.{Pool}
use Rattle.pool_layout.proofs.Records.{pos_inj}
use Rattle.pool_map.specs.declared.trap.TrapKind.{TrapKind}
use Rattle.pool_map.specs.Trap.{trap_number}
use Rattle.pm_machine.specs.declared.effect.End.{End}
use Rattle.pm_machine.specs.declared.effect.End.TheVariants.{Halted, Trapped}
use Rattle.pm_machine.specs.declared.records.Policy.{Policy}
use Rattle.pm_machine.specs.Effects.{heap_end}
use Rattle.args_log.specs.Pending.{tx_number}
use Rattle.crash_law.specs.Pools.{Call}
use Rattle.crash_law.specs.Law.{IsAtRest, IsCut, IsEnd}
use Rattle.run_law.specs.Seen.{result_of, E, W}
use Rattle.recovery.specs.Recovered.{tx_in}
use Rattle.cut_law.specs.Law.{call_of, pool_with}
use Rattle.cnvm_script.specs.declared.command.Command.TheVariants as command
use Rattle.cnvm_session.specs.declared.mode.Mode.{Mode}
use Rattle.cnvm_session.specs.declared.mode.Mode.TheVariants as mode
use Rattle.cnvm_session.specs.declared.answer.Answer.{Answer}
use Rattle.cnvm_session.specs.declared.answer.Answer.TheVariants as answer
use Rattle.cnvm_session.specs.declared.program.Program.{Program}
use Rattle.cnvm_session.specs.Marks.{rolls_back_of, policy_of, owes_unsigned}
use Rattle.cnvm_session.specs.Commands as commanded
use Rattle.cnvm_session.specs.Commands.{fallen}
use Rattle.cnvm_session.specs.Opening.{opening_events}
use Rattle.cnvm_session.specs.Outcomes.{RecoversBy}
use Rattle.cnvm_session.specs.Outcomes as outcomes
use Rattle.cnvm_session.specs.Pool.{sizes_of}
use Rattle.session_law.specs.Agrees.{Agrees}
use Rattle.session_law.specs.State.{Pending, Standing, Ready, Down, Unusable, SourceState}
use Rattle.session_law.specs.Answers.{HasSeal, FindsOwed, Recovers, Powers}
use Rattle.session_law.specs.Opened.{opened}
use Rattle.session_law.specs.Holds.{OwesNone, OwesBy, HoldsAs, Holds, HeldAs}
use Rattle.session_law.specs.Ran.{Moment, SessionStep}
use Rattle.session_law.specs.Law.{HasPhase, RecoveryPhaseLaw}
use Rattle.session_law.proofs.images.Ones.{at_view, left_rest}
use Rattle.session_law.proofs.images.Reading.{is_marked, is_owed}
use Rattle.session_law.proofs.answers.Recoveries.{redo_keeps_seal}
use Rattle.session_law.proofs.answers.Powers.{owing_as, left_held}
use Rattle.cnvm_session.proofs.Writing.{written_rest, written_word}
use Rattle.session_law.proofs.answers.Opening.{opened_held}
use Rattle.session_law.proofs.chains.Histories.{finished_counts}

module _ (program : Program) (super : Words) (agrees : Agrees program)
    (e : Device) (s : SourceState) (on : e.on ≡ true) (rest : IsAtRest e.cache)
    (a : Answer) (n : Mode) (b : Device) (k k1 : ℕ)
    (is : outcomes.Recovers program e a n b k k1) where
  abbrev one : Words
  one = view e.cache

  abbrev pool : Pool
  pool = pool_with program.image super

  -- The transaction is owed in the image that is recovered: whatever the recovery answers, each
  -- image still has the seal.
  module _ (owed : Pending) (mark : one MARK ≡ pos 0)
      (not_done : one DONE ≡ pos (suc s.done) → ⊥) (seal : HasSeal s one) where
    abbrev call : Call
    call = call_of s.done owed.tx owed.args

    abbrev Sealed : Type 0
    Sealed = Images (HasSeal s) b.cache

    recovers_by : (marked : Bool) → one DONE ≡ pos s.done → tx_in e ≡ owed.tx
        → rolls_back_of program owed.tx ≡ marked
        → RecoversBy marked (owes_unsigned program e) program.image e a n b k k1
    recovers_by marked done names marks =
        subst (λ (x : Bool). RecoversBy x (owes_unsigned program e) program.image e a n b k k1)
        (owing_as program e owed.tx marked (is_owed one s.done done seal) names marks) is

    module _ (marked : Bool) (marks : rolls_back_of program owed.tx ≡ marked)
        (owes : OwesBy marked program super owed e s) where
      abbrev p : Policy
      p = policy_of marked

      not_trapped : (m : Bool) (kind : TrapKind)
          → IsEnd pool call owes.heap (heap_end owes.heap owes.effects)
          (result_of (policy_of m) s.last (Trapped kind)) one → ⊥
      not_trapped true kind seen = not_done seen.good.done
      not_trapped false kind lost = is_marked (one MARK) (trap_number kind) lost.0 lost.1 mark

      not_ended : (x : End)
          → IsEnd pool call owes.heap (heap_end owes.heap owes.effects) (result_of p s.last x) one
          → ⊥
      not_ended (Halted v) ended = not_done ended.good.done
      not_ended (Trapped kind) ended = not_trapped marked kind ended

      at_cut : IsCut pool call (E p owes.effects) (W owes.effects) owes.heap
          (heap_end owes.heap owes.effects) s.last (result_of p s.last owes.end) one → Sealed
      at_cut (inl before) = absurd (before.good.unsealed seal)
      at_cut (inr (inl sealed)) =
          let names : tx_in e ≡ owed.tx = ap tx_number (sealed.call_is 0 (omega arith)) in
          let its = recovers_by marked sealed.done names marks in
          redo_keeps_seal marked program super agrees e s owed owes.heap owes.end owes.effects on
          rest owes.holds owes.takes owes.words owes.ran marks sealed its.tx_answer b k k1
          its.recovered
      at_cut (inr (inr ended)) = absurd (not_ended owes.end ended)

      pub from_owed : Sealed
      from_owed = at_cut (at_view (IsCut pool call (E p owes.effects) (W owes.effects) owes.heap
          (heap_end owes.heap owes.effects) s.last (result_of p s.last owes.end)) e.cache owes.left)

module _ (program : Program) (super : Words) (agrees : Agrees program)
    (e : Device) (s : SourceState) (on : e.on ≡ true) (rest : IsAtRest e.cache)
    (at : Phase) (n : Mode) (b : Device) (k k1 : ℕ)
    (is : outcomes.Recovers program e (answer.Stopped at) n b k k1) where
  abbrev found_image : Words
  found_image = view e.cache

  module _ (t found : SourceState) (mark : found_image MARK ≡ pos 0)
      (finds : FindsOwed s.standing program s found_image found)
      (held : HeldAs s.standing program super e s) (holds : Holds program super n b t) where
    abbrev Shown : Type 0
    Shown = Images (HasPhase at t) b.cache

    -- nothing is owed, so no image has the seal
    unsealed : at ≡ phase.Unsealed → t.standing ≡ Down None → Shown
    unsealed phase_is standing =
        let none : (n ≡ mode.Down) × OwesNone program super b t =
        subst (λ (x : Standing). HoldsAs x program super n b t) standing holds in
        subst (λ (x : Phase). Images (HasPhase x t) b.cache) (sym phase_is)
        (λ image among. (none.1.left image among).good.unsealed)

    module _ (pending : Pending) (standing : found.standing ≡ Down (Some pending))
        (phase_is : at ≡ phase.Sealed) (same : t ≡ found) where
      not_none : found.standing ≡ Down None → ⊥
      not_none none =
          let clash : Down (Some pending) ≡ Down None = sym standing ∙ none in absurd cc

      not_counted : found_image DONE ≡ pos s.done → found_image DONE ≡ pos (suc s.done) → ⊥
      not_counted done more =
          let same : suc s.done ≡ s.done = pos_inj (suc s.done) s.done (sym more ∙ done) in
          absurd (omega arith)

      by_standing : (st : Standing) → FindsOwed st program s found_image found
          → HeldAs st program super e s → Shown
      by_standing Ready is_found is_held =
          absurd (not_none (ap (λ (x : SourceState). x.standing) is_found))
      by_standing (Down None) is_found is_held =
          absurd (not_none (ap (λ (x : SourceState). x.standing) is_found))
      by_standing (Down (Some owed)) (inl fresh) is_held =
          absurd (not_none (ap (λ (x : SourceState). x.standing) fresh.1))
      by_standing (Down (Some owed)) (inr (inl retired)) is_held =
          absurd (not_none (finished_counts program (rolls_back_of program owed.tx) s found owed
          (Down None) retired.2).1)
      by_standing (Down (Some owed)) (inr (inr sealed)) is_held =
          let images : Images (HasSeal s) b.cache =
          from_owed program super agrees e s on rest (answer.Stopped at) n b k k1 is owed mark
          (not_counted sealed.1) sealed.0 (rolls_back_of program owed.tx) refl is_held in
          subst (λ (x : Phase). Images (HasPhase x t) b.cache) (sym phase_is)
          (λ image among. images image among
          ∙ ap (λ (x : SourceState). pos (suc x.done)) (sym (same ∙ sealed.2)))
      by_standing (Unusable kind) is_found is_held = absurd is_found

    by_found : (st : Standing) → found.standing ≡ st
        → Recovers st program found found_image (answer.Stopped at) t → Shown
    by_found Ready standing recovers = absurd recovers
    by_found (Down None) standing recovers =
        unsealed recovers.0 (ap (λ (x : SourceState). x.standing) recovers.1 ∙ standing)
    by_found (Down (Some pending)) standing recovers =
        by_standing pending standing recovers.0 recovers.1 s.standing finds held
    by_found (Unusable kind) standing recovers = absurd recovers

  pub shows_phase : (t : SourceState) → Powers program s found_image (answer.Stopped at) t
      → HeldAs s.standing program super e s → Holds program super n b t
      → Images (HasPhase at t) b.cache
  shows_phase t powers held holds =
      by_found t powers.1.0 powers.0 powers.1.1 held holds powers.1.0.standing refl powers.1.2

module _ (program : Program) (super : Words) (agrees : Agrees program) (choice : Choice)
    (x y : Moment) (at : Phase) (holds : Holds program super x.mode x.device x.state)
    (step : SessionStep program super (command.Power choice) x (answer.Stopped at) y) where
  by_picks : (first pick : Option ℕ) → fallen 0 choice.picks ≡ first
      → bad (memory_of x.device) choice.picks ≡ pick
      → commanded.Powers program choice x.mode x.device (answer.Stopped at) y.mode y.device
      x.steps y.steps → Images (HasPhase at y.state) y.device.cache
  by_picks (Some line) pick falls fits powers =
      let clash = (powers.0 line falls).0 in absurd cc
  by_picks None (Some line) rises fits powers =
      let clash = (powers.1 line rises fits).0 in absurd cc
  by_picks None None rises fits powers =
      shows_phase program super agrees (powered choice x.device) x.state refl
      (left_rest x.device.cache choice.rest choice.picks) at y.mode y.device x.steps y.steps
      (powers.2 rises fits) y.state step.meant
      (left_held program super choice x.device x.state x.mode x.state.standing holds) step.holds

pub recovery_phase : RecoveryPhaseLaw
recovery_phase = (
  λ program super choice x y at agrees holds step.
      by_picks program super agrees choice x y at holds step (fallen 0 choice.picks)
      (bad (memory_of x.device) choice.picks) refl refl step.did,
  λ program words d k y at agrees are is step.
      let lines : ℕ = pool_lines (sizes_of program) in
      let e : Device = step.did.opened in
      let played = all_cache (opening_events lines words) (blanked lines d) e step.did.written in
      let on = all_on (opening_events lines words) (blanked lines d) e step.did.written in
      let rest : IsAtRest e.cache =
      subst IsAtRest (sym played) (written_rest words lines is.whole) in
      let seen : view e.cache ≡ image_words words =
      ap view played ∙ (λ i p. written_word words lines p i) in
      shows_phase program (image_words words) agrees e (opened program (image_words words)) on rest
      at y.mode y.device k y.steps step.did.recovers y.state
      (subst (λ (image : Words). Powers program (opened program (image_words words)) image
      (answer.Stopped at) y.state) (sym seen) step.meant)
      (opened_held program agrees words are is.opens e rest seen) step.holds,
)
