-- No event is refused where no stop is set and no fault is armed; so each command comes to its end.
use Rattle.std.proofs.Common.{◌≡◌, ◌≢◌, inl, inr, ℕ, Bool, true, false, List, [], ◌∷◌, Option, None}
use Rattle.std.proofs.Common.{Some, length, ◌==◌, ℤ, pos, refl, sym, ap, ◌∙◌, subst}
use Rattle.std.proofs.Common.{int_eq, ◌&&◌, if◌then◌else◌, ⊎_elim}
use Rattle.std.proofs.lemmas.Bool.Decides.{Decides-int_eq}
use Rattle.cache_model.specs.Cache.{Words, view}
use Rattle.cache_model.specs.Collapse.{bad}
use Rattle.cache_model.specs.Event.{CacheEvent}
use Rattle.cache_model.specs.declared.choice.Choice.{Choice}
use Rattle.pmem.specs.Device.{Device, IsDown, MayFail, memory_of, powered, spent}
use Rattle.pmem.specs.Device.{less_one, armed_less}
use Rattle.pmem.specs.Played.{PlaysAll, PlaysPart}
use Rattle.pmem.specs.declared.answer.Phase.TheVariants as phase
use Rattle.pmem.specs.declared.answer.Refusal.TheVariants.{Off, Failed, NoMemory}
use Rattle.pool_layout.specs.declared.places.TheConstants.{DONE, ATTEMPT, MARK}
use Rattle.pool_layout.specs.Image.{is_sealed}
use Rattle.pool_map.specs.declared.trap.TrapKind.{TrapKind}
use Rattle.c_types.specs.Shapes.{shapes_of}
use Rattle.pm_machine.specs.declared.records.Policy.{Policy}
use Rattle.pm_machine.specs.declared.image.Image.{Image}
use Rattle.tx_run.specs.Standing.{standing_of, is_number, trap_of_mark}
use Rattle.tx_run.specs.declared.standing.Standing.TheVariants as stand
use Rattle.tx_run.specs.declared.standing.Standing as stands
use Rattle.tx_run.specs.Called.{Called, IsTxCalled}
use Rattle.tx_run.specs.declared.answer.CallAnswer.{CallAnswer}
use Rattle.tx_run.specs.declared.answer.CallAnswer.TheVariants as called
use Rattle.tx_run.specs.declared.looking.LookAnswer.{LookAnswer}
use Rattle.tx_run.specs.declared.looking.LookAnswer.TheVariants as looked
use Rattle.recovery.specs.Recovered.{Cleaned, Redid, IsRecovered, numbers_out, tx_in}
use Rattle.recovery.specs.Found.{names_tx}
use Rattle.recovery.specs.declared.answer.RecoverAnswer.{RecoverAnswer}
use Rattle.recovery.specs.declared.answer.RecoverAnswer.TheVariants as recovered
use Rattle.cnvm_script.specs.declared.command.Command.{Command}
use Rattle.cnvm_script.specs.declared.command.Command.TheVariants as command
use Rattle.cnvm_session.specs.declared.mode.Mode.{Mode}
use Rattle.cnvm_session.specs.declared.mode.Mode.TheVariants as mode
use Rattle.cnvm_session.specs.declared.answer.Answer.{Answer}
use Rattle.cnvm_session.specs.declared.answer.Answer.TheVariants as answer
use Rattle.cnvm_session.specs.declared.program.Program.{Program}
use Rattle.cnvm_session.specs.Marks.{rolls_back_of, looks_of, policy_of, owes_marked}
use Rattle.cnvm_session.specs.Marks.{unsigned_of, owes_unsigned}
use Rattle.cnvm_session.specs.Commands as commanded
use Rattle.cnvm_session.specs.Commands.{fallen, call_number, tx_parameters}
use Rattle.cnvm_session.specs.Outcomes.{answer_of_call, answer_of_look, answer_of_recovery, RunsBy}
use Rattle.cnvm_session.specs.Outcomes.{RunsAs, RecoversBy}
use Rattle.session_law.specs.State.{Standing, Ready, Down, Unusable, SourceState}
use Rattle.session_law.specs.Holds.{HoldsAs}
use Rattle.session_law.specs.Ends.{IsSafe, IsInterrupted, ArmsNothing, UninterruptedLaw}
use Rattle.session_law.specs.Ends.{IsRecoveryEnd, RecoveryEndsLaw}
use Rattle.session_law.proofs.answers.Looking.{look_is_on}
use Rattle.session_law.proofs.answers.Dead.{told_dead}

-- the device takes each event: it is on, and nothing is armed
abbrev TakesAll : Device → Type 0
TakesAll d = (d.on ≡ true) × IsSafe d

takes_on : (d : Device) (e : CacheEvent) → TakesAll d → TakesAll (spent d e)
takes_on d e takes = (takes.0, (ap less_one takes.1.0, ap armed_less takes.1.1))

not_down : (d : Device) → TakesAll d → IsDown d → ⊥
not_down d takes (inl off) =
    let clash : true ≡ false = sym takes.0 ∙ off in absurd cc
not_down d takes (inr none) =
    let clash : None ≡ Some 0 = sym takes.1.0 ∙ none in absurd cc

no_fault : (armed : Option (Option ℕ)) → armed ≡ Some None → MayFail armed → ⊥
no_fault None is may = absurd cc
no_fault (Some k) is may = absurd cc

off_never : (es : List CacheEvent) (d b : Device) → TakesAll d → PlaysPart Off d es b → ⊥
off_never [] d b takes part = part
off_never (e ∷ es) d b takes (inl refused) = not_down d takes refused.1.0
off_never (e ∷ es) d b takes (inr part) =
    off_never es (spent d e) b (takes_on d e takes) part.1

failed_never : (es : List CacheEvent) (d b : Device) → TakesAll d → PlaysPart Failed d es b → ⊥
failed_never [] d b takes part = part
failed_never (e ∷ es) d b takes (inl refused) = no_fault d.armed takes.1.1 refused.1.1
failed_never (e ∷ es) d b takes (inr part) =
    failed_never es (spent d e) b (takes_on d e takes) part.1

-- what is played to its end, or up to want of memory, leaves nothing armed
all_safe : (es : List CacheEvent) (d b : Device) → TakesAll d → PlaysAll d es b → IsSafe b
all_safe [] d b takes all = subst IsSafe (sym all) takes.1
all_safe (e ∷ es) d b takes all = all_safe es (spent d e) b (takes_on d e takes) all.1

part_safe : (es : List CacheEvent) (d b : Device) → TakesAll d → PlaysPart NoMemory d es b
    → IsSafe b
part_safe [] d b takes part = absurd part
part_safe (e ∷ es) d b takes (inl refused) = subst IsSafe (sym refused.1) takes.1
part_safe (e ∷ es) d b takes (inr part) = part_safe es (spent d e) b (takes_on d e takes) part.1

-- a pool's words always say whether it takes calls
one_standing : (x y : Bool) (kind : TrapKind)
    → (if x then (if y then stand.Ready else stand.Numbers) else stand.Unusable kind) ≡ stand.Off
    → ⊥
one_standing true true kind is = absurd cc
one_standing true false kind is = absurd cc
one_standing false y kind is = absurd cc

never_off : (w : Words) → standing_of w ≡ stand.Off → ⊥
never_off w is =
    one_standing (int_eq (w MARK) (pos 0)) (is_number (w DONE) && is_number (w ATTEMPT))
    (trap_of_mark (w MARK)) is

-- what is claimed of an answer and the device after it
abbrev EndsWell : Answer → Device → Type 0
EndsWell a b = (IsInterrupted a → ⊥) × IsSafe b

no : ⊥ → ⊥
no never = never

-- the answer is this one, and the device is as it was
as_it_was : (a c : Answer) (d b : Device) → IsSafe d → a ≡ c → b ≡ d → (IsInterrupted c → ⊥)
    → EndsWell a b
as_it_was a c d b safe is same not =
    (λ broken. not (subst IsInterrupted is broken), subst IsSafe (sym same) safe)

module _ (p : Policy) (image : Image) (tx : ℕ) (args : List ℤ) (d b : Device) (k k1 : ℕ)
    (takes : TakesAll d) where
  called_well : (u : Bool) (r : CallAnswer) → Called r p image tx args d b k k1
      → EndsWell (answer_of_call u r) b
  called_well u (called.Done v l) h = (no, all_safe _ d b takes h.0.played)
  called_well u (called.Trap kind) h = (no, all_safe _ d b takes h.1.played)
  called_well u (called.Aborted kind) h = (no, all_safe _ d b takes h.1.played)
  called_well u (called.Off at) h = absurd (off_never _ d b takes h.0)
  called_well u called.Failed h = absurd (failed_never _ d b takes h)
  called_well u called.NoMemory h = (no, part_safe _ d b takes h)
  called_well u (called.Unusable kind) h = absurd h
  called_well u called.Numbers h = absurd h

  -- by what the pool says of calls
  tx_well : (u : Bool) (r : CallAnswer) → IsTxCalled r p image tx args d b k k1
      → EndsWell (answer_of_call u r) b
  tx_well u r is = by_standing (standing_of (view d.cache)) refl
    where
      by_standing : (st : stands.Standing) → standing_of (view d.cache) ≡ st
          → EndsWell (answer_of_call u r) b
      by_standing stand.Ready same = called_well u r (is.ready takes.0 same)
      by_standing (stand.Unusable kind) same =
          let h = is.unusable kind takes.0 same in
          as_it_was (answer_of_call u r) (answer.RefusedUnusable kind) d b takes.1
          (ap (answer_of_call u) h.0) h.1 no
      by_standing stand.Numbers same =
          let h = is.numbers takes.0 same in
          as_it_was (answer_of_call u r) answer.RefusedNumbers d b takes.1
          (ap (answer_of_call u) h.0) h.1 no
      by_standing stand.Off same = absurd (never_off (view d.cache) same)

runs_well : (marked u : Bool) (image : Image) (tx : ℕ) (args : List ℤ) (d b : Device) (k k1 : ℕ)
    → TakesAll d → (a : Answer) (n : Mode) → RunsBy marked u image tx args d a n b k k1
    → EndsWell a b
runs_well marked u image tx args d b k k1 takes a n runs =
    subst (λ (x : Answer). EndsWell x b) (sym runs.answer)
    (tx_well (policy_of marked) image tx args d b k k1 takes u runs.tx_answer runs.called)

-- nor is a look interrupted
look_ends : (u : Bool) (r : LookAnswer) → (r ≡ looked.Off → ⊥)
    → IsInterrupted (answer_of_look u r) → ⊥
look_ends u (looked.Done v) on is = is
look_ends u (looked.Aborted kind) on is = is
look_ends u looked.Off on is = on refl
look_ends u looked.NoMemory on is = is

any_well : (looks marked u : Bool) (image : Image) (tx : ℕ) (args : List ℤ) (d b : Device)
    (k k1 : ℕ) → TakesAll d → (a : Answer) (n : Mode) → RunsAs looks marked u image tx args d a n b
    k k1 → EndsWell a b
any_well true marked u image tx args d b k k1 takes a n is =
    as_it_was a (answer_of_look u is.seen) d b takes.1 is.answer is.same
    (look_ends u is.seen (look_is_on is.seen image tx args d k k1 takes.0 is.looked))
any_well false marked u image tx args d b k k1 takes a n is =
    runs_well marked u image tx args d b k k1 takes a n is

module _ (p : Policy) (image : Image) (d b : Device) (k k1 : ℕ) (takes : TakesAll d) where
  cleaned_well : (u : Bool) (es : List CacheEvent) (r : RecoverAnswer) → Cleaned r d es b
      → EndsWell (answer_of_recovery u r) b
  cleaned_well u es recovered.Clean h = (no, all_safe es d b takes h)
  cleaned_well u es (recovered.Off phase.Unsealed) h = absurd (off_never es d b takes h)
  cleaned_well u es (recovered.Off phase.Sealing) h = absurd h
  cleaned_well u es (recovered.Off phase.Sealed) h = absurd h
  cleaned_well u es recovered.Failed h = absurd (failed_never es d b takes h)
  cleaned_well u es recovered.NoMemory h = (no, part_safe es d b takes h)
  cleaned_well u es (recovered.Redone v l) h = absurd h
  cleaned_well u es (recovered.Trap kind) h = absurd h
  cleaned_well u es (recovered.Aborted kind) h = absurd h
  cleaned_well u es (recovered.Unusable kind) h = absurd h
  cleaned_well u es recovered.Numbers h = absurd h

  redid_well : (u : Bool) (tx : ℕ) (args : List ℤ) (n : ℕ) (r : RecoverAnswer)
      → Redid r p image tx args n d b k k1 → EndsWell (answer_of_recovery u r) b
  redid_well u tx args n (recovered.Redone v l) h = (no, all_safe _ d b takes h.0.played)
  redid_well u tx args n (recovered.Trap kind) h = (no, all_safe _ d b takes h.1.played)
  redid_well u tx args n (recovered.Aborted kind) h = (no, all_safe _ d b takes h.1.played)
  redid_well u tx args n (recovered.Off phase.Sealed) h = absurd (off_never _ d b takes h)
  redid_well u tx args n (recovered.Off phase.Unsealed) h = absurd h
  redid_well u tx args n (recovered.Off phase.Sealing) h = absurd h
  redid_well u tx args n recovered.Failed h = absurd (failed_never _ d b takes h)
  redid_well u tx args n recovered.NoMemory (inl same) =
      (no, subst IsSafe (sym same.0) takes.1)
  redid_well u tx args n recovered.NoMemory (inr part) = (no, part_safe _ d b takes part)
  redid_well u tx args n recovered.Clean h = absurd h
  redid_well u tx args n (recovered.Unusable kind) h = absurd h
  redid_well u tx args n recovered.Numbers h = absurd h

  abbrev mark : ℤ
  mark = view d.cache MARK

  module _ (u : Bool) (r : RecoverAnswer) (is : IsRecovered r p image d b k k1) where
    abbrev Well : Type 0
    Well = EndsWell (answer_of_recovery u r) b

    numbers_well : (r ≡ recovered.Numbers) × (b ≡ d) × (k1 ≡ k) → Well
    numbers_well h =
        as_it_was (answer_of_recovery u r) answer.RefusedNumbers d b takes.1
        (ap (answer_of_recovery u) h.0) h.1 no

    by_name : (x : Bool) → names_tx image (tx_in d) ≡ x → mark ≡ pos 0
        → numbers_out image d ≡ false → is_sealed (view d.cache) ≡ true → Well
    by_name true names zero few seal =
        redid_well u _ _ _ r (is.redid takes.0 zero few seal names)
    by_name false names zero few seal = numbers_well (is.unnamed takes.0 zero few seal names)

    by_seal : (x : Bool) → is_sealed (view d.cache) ≡ x → mark ≡ pos 0
        → numbers_out image d ≡ false → Well
    by_seal true seal zero few = by_name (names_tx image (tx_in d)) refl zero few seal
    by_seal false seal zero few = cleaned_well u _ r (is.clean takes.0 zero few seal)

    by_numbers : (x : Bool) → numbers_out image d ≡ x → mark ≡ pos 0 → Well
    by_numbers true out zero = numbers_well (is.numbers takes.0 zero out)
    by_numbers false few zero = by_seal (is_sealed (view d.cache)) refl zero few

    by_mark : (x : Bool) → int_eq mark (pos 0) ≡ x → Well
    by_mark true same =
        by_numbers (numbers_out image d) refl ((Decides-int_eq mark (pos 0)).0 same)
    by_mark false other =
        let marks : mark ≢ pos 0 = λ zero.
        let clash : true ≡ false = sym ((Decides-int_eq mark (pos 0)).1 zero) ∙ other in
        absurd cc in
        let h = is.unusable takes.0 marks in
        as_it_was (answer_of_recovery u r) (answer.RefusedUnusable _) d b takes.1
        (ap (answer_of_recovery u) h.0) h.1 no

    recovered_well : Well
    recovered_well = by_mark (int_eq mark (pos 0)) refl

recovers_well : (image : Image) (d b : Device) (k k1 : ℕ) → TakesAll d → (marked u : Bool)
    (a : Answer) (n : Mode) → RecoversBy marked u image d a n b k k1 → EndsWell a b
recovers_well image d b k k1 takes marked u a n h =
    subst (λ (x : Answer). EndsWell x b) (sym h.answer)
    (recovered_well (policy_of marked) image d b k k1 takes u h.tx_answer h.recovered)

-- the answers of a recovery that isn't interrupted
recovery_ends : (u : Bool) (r : RecoverAnswer) → (IsInterrupted (answer_of_recovery u r) → ⊥)
    → IsRecoveryEnd (answer_of_recovery u r)
recovery_ends u recovered.Clean not = tt
recovery_ends u (recovered.Redone v l) not = tt
recovery_ends u (recovered.Trap kind) not = tt
recovery_ends u (recovered.Aborted kind) not = tt
recovery_ends u (recovered.Off at) not = absurd (not tt)
recovery_ends u recovered.Failed not = absurd (not tt)
recovery_ends u recovered.NoMemory not = tt
recovery_ends u (recovered.Unusable kind) not = tt
recovery_ends u recovered.Numbers not = tt

recovers_end : (image : Image) (d b : Device) (k k1 : ℕ) → TakesAll d → (marked u : Bool)
    (a : Answer) (n : Mode) → RecoversBy marked u image d a n b k k1 → IsRecoveryEnd a
recovers_end image d b k k1 takes marked u a n h =
    subst IsRecoveryEnd (sym h.answer)
    (recovery_ends u h.tx_answer
    (recovered_well (policy_of marked) image d b k k1 takes u h.tx_answer h.recovered).0)

module _ (program : Program) (a : Answer) (n : Mode) (b : Device) (k k1 : ℕ) where
  refused_well : (why : Answer) (m : Mode) (d : Device) → IsSafe d → (IsInterrupted why → ⊥)
      → commanded.Refused why m d a n b k k1 → EndsWell a b
  refused_well why m d safe not h = as_it_was a why d b safe h.0 h.2 not

  module _ (d : Device) (takes : TakesAll d) (args : List ℤ) where
    by_count : (tx : ℕ) (x : Bool) → commanded.CallsWith x program tx args d a n b k k1
        → EndsWell a b
    by_count tx true h =
        any_well (looks_of program tx) (rolls_back_of program tx) (unsigned_of program tx)
        program.image tx args d b k k1
        takes a n h
    by_count tx false h = refused_well answer.RefusedArity mode.Ready d takes.1 no h

    by_parameters : (tx : ℕ) (x : Option ℕ) → commanded.CallsTo x program tx args d a n b k k1
        → EndsWell a b
    by_parameters tx None h = refused_well answer.RefusedUnknown mode.Ready d takes.1 no h
    by_parameters tx (Some count) h = by_count tx (count == length args) h

    by_name_of : (x : Option ℕ) → commanded.CallsNamed x program args d a n b k k1
        → EndsWell a b
    by_name_of None h = refused_well answer.RefusedUnknown mode.Ready d takes.1 no h
    by_name_of (Some tx) h = by_parameters tx (tx_parameters program.image tx) h

  module _ (d : Device) (safe : IsSafe d) where
    call_well : (name : List ℕ) (args : List ℤ) (m : Mode) → (m ≡ mode.Ready → d.on ≡ true)
        → commanded.Calls program name args m d a n b k k1 → EndsWell a b
    call_well name args mode.Ready on h =
        by_name_of d (on refl, safe) args (call_number program name) h
    call_well name args mode.Down on h = refused_well answer.RefusedDown mode.Down d safe no h
    call_well name args (mode.Unusable kind) on h =
        refused_well (answer.RefusedUnusable kind) (mode.Unusable kind) d safe no h

    by_bad : (choice : Choice) (m : Mode) (x : Option ℕ) → bad (memory_of d) choice.picks ≡ x
        → fallen 0 choice.picks ≡ None → commanded.Powers program choice m d a n b k k1
        → EndsWell a b × IsRecoveryEnd a
    by_bad choice m (Some line) is none h =
        let why = h.1 line none is in (
          refused_well (answer.RefusedPick line) m d safe no why,
          subst IsRecoveryEnd (sym why.0) tt,
        )
    by_bad choice m None is none h =
        let recovers = h.2 none is in
        let up : TakesAll (powered choice d) = (refl, safe) in (
          recovers_well program.image (powered choice d) b k k1 up
              (owes_marked program (powered choice d))
              (owes_unsigned program (powered choice d)) a n recovers,
          recovers_end program.image (powered choice d) b k k1 up
              (owes_marked program (powered choice d))
              (owes_unsigned program (powered choice d)) a n recovers,
        )

    by_fallen : (choice : Choice) (m : Mode) (x : Option ℕ) → fallen 0 choice.picks ≡ x
        → commanded.Powers program choice m d a n b k k1 → EndsWell a b × IsRecoveryEnd a
    by_fallen choice m (Some line) is h =
        let why = h.0 line is in (
          refused_well (answer.RefusedPick line) m d safe no why,
          subst IsRecoveryEnd (sym why.0) tt,
        )
    by_fallen choice m None is h =
        by_bad choice m (bad (memory_of d) choice.picks) refl is h

    power_well : (choice : Choice) (m : Mode) → commanded.Powers program choice m d a n b k k1
        → EndsWell a b × IsRecoveryEnd a
    power_well choice m h = by_fallen choice m (fallen 0 choice.picks) refl h

    show_well : (m : Mode)
        → commanded.Shows (shapes_of program.typed) program.image.parts.sizes m d a n b k k1
        → EndsWell a b
    show_well mode.Ready h =
        (tells_end a h.0, subst IsSafe (sym h.1) safe)
      where
        tells_end : (x : Answer)
            → commanded.Tells (shapes_of program.typed) program.image.parts.sizes d x n
            → IsInterrupted x → ⊥
        tells_end answer.Silent tells broken = broken
        tells_end (answer.Done value unsigned logged) tells broken = broken
        tells_end (answer.Trap kind) tells broken = broken
        tells_end (answer.Aborted kind) tells broken = broken
        tells_end (answer.Stopped at) tells broken = tells
        tells_end answer.DeviceFault tells broken = tells
        tells_end answer.RecoveredNone tells broken = broken
        tells_end (answer.RecoveredRedone value unsigned logged) tells broken = broken
        tells_end (answer.RecoveredTrap kind) tells broken = broken
        tells_end (answer.RecoveredAborted kind) tells broken = broken
        tells_end (answer.Shown text) tells broken = broken
        tells_end (answer.ShownDead trap text) tells broken = broken
        tells_end (answer.Last done value) tells broken = broken
        tells_end answer.NoMemory tells broken = broken
        tells_end answer.RefusedDown tells broken = broken
        tells_end (answer.RefusedUnusable kind) tells broken = broken
        tells_end answer.RefusedUnknown tells broken = broken
        tells_end answer.RefusedArity tells broken = broken
        tells_end answer.RefusedNumbers tells broken = broken
        tells_end (answer.RefusedPick line) tells broken = broken
    show_well mode.Down h = refused_well answer.RefusedDown mode.Down d safe no h
    show_well (mode.Unusable kind) h =
        refused_well (answer.RefusedUnusable kind) (mode.Unusable kind) d safe no h

    dead_well : (m : Mode)
        → commanded.ShowsDead (shapes_of program.typed) program.image.parts.sizes m d a n b k k1
        → EndsWell a b
    dead_well mode.Ready h = show_well mode.Ready h
    dead_well mode.Down h = show_well mode.Down h
    dead_well (mode.Unusable kind) h = (
      λ broken. ⊎_elim (λ shown. subst IsInterrupted shown.1 broken)
          (λ none. subst IsInterrupted none broken)
          (told_dead (shapes_of program.typed) program.image.parts.sizes kind d a h.0),
      subst IsSafe (sym h.2) safe,
    )

    last_well : (m : Mode) → (m ≡ mode.Ready → d.on ≡ true)
        → commanded.Lasts m d a n b k k1 → EndsWell a b
    last_well mode.Ready on h = as_it_was a _ d b safe (h.0 (on refl)) h.2 no
    last_well mode.Down on h = refused_well answer.RefusedDown mode.Down d safe no h
    last_well (mode.Unusable kind) on h =
        refused_well (answer.RefusedUnusable kind) (mode.Unusable kind) d safe no h

    command_well : (c : Command) (m : Mode) → (m ≡ mode.Ready → d.on ≡ true)
        → commanded.Commanded program c m d a n b k k1
        → (IsInterrupted a → ⊥) × (ArmsNothing c → IsSafe b)
    command_well (command.Call name args) m on h =
        let well = call_well name args m on h in (well.0, λ arms. well.1)
    command_well (command.Stop left) m on h =
        (λ broken. subst IsInterrupted h.0 broken, λ arms. absurd arms)
    command_well (command.Fault at) m on h =
        (λ broken. subst IsInterrupted h.0 broken, λ arms. absurd arms)
    command_well (command.Power choice) m on h =
        let well = (power_well choice m h).0 in (well.0, λ arms. well.1)
    command_well command.Show m on h =
        let well = show_well m h in (well.0, λ arms. well.1)
    command_well command.ShowDead m on h =
        let well = dead_well m h in (well.0, λ arms. well.1)
    command_well command.Last m on h =
        let well = last_well m on h in (well.0, λ arms. well.1)

-- a session that takes calls stands on a device that is on
on_ready : (program : Program) (super : Words) (m : Mode) (d : Device) (s : SourceState)
    (st : Standing) → HoldsAs st program super m d s → m ≡ mode.Ready → d.on ≡ true
on_ready program super m d s Ready holds same = holds.1.on
on_ready program super m d s (Down None) holds same =
    let clash : mode.Down ≡ mode.Ready = sym holds.0 ∙ same in absurd cc
on_ready program super m d s (Down (Some owed)) holds same =
    let clash : mode.Down ≡ mode.Ready = sym holds.0 ∙ same in absurd cc
on_ready program super m d s (Unusable kind) holds same =
    let clash : mode.Unusable kind ≡ mode.Ready = sym holds.0 ∙ same in absurd cc

pub uninterrupted : UninterruptedLaw
uninterrupted program super c x a y holds safe step =
    command_well program a y.mode y.device x.steps y.steps x.device safe c x.mode
    (on_ready program super x.mode x.device x.state x.state.standing holds) step.did

pub each_recovery_ends : RecoveryEndsLaw
each_recovery_ends program super choice x a y safe step =
    (power_well program a y.mode y.device x.steps y.steps x.device safe choice x.mode step.did).1
