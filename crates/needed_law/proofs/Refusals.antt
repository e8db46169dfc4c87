-- A `power` whose recovery is refused plays nothing; and the opening of an image is never stopped.
use Rattle.std.proofs.Common.{◌≡◌, ℕ, Bool, true, false, Option, Some, None, List, ℤ, refl, sym}
use Rattle.std.proofs.Common.{ap, ◌∙◌, subst, append-nil}
use Rattle.cache_model.specs.Event.{CacheEvent}
use Rattle.cache_model.specs.Cache.{Words, view}
use Rattle.cache_model.specs.Collapse.{bad}
use Rattle.cache_model.specs.declared.choice.Choice.{Choice}
use Rattle.pmem.specs.Device.{Device, memory_of, powered, blanked}
use Rattle.pmem.specs.Played.{PlaysPart}
use Rattle.pmem.specs.Law.{AllDone}
use Rattle.pmem.specs.declared.answer.Phase.{Phase}
use Rattle.pmem.specs.declared.answer.Phase.TheVariants as phase
use Rattle.pmem.specs.declared.answer.Refusal.TheVariants as refusal
use Rattle.pmem.proofs.Refused.{all_done, went_off}
use Rattle.pool_layout.specs.Sizes.{pool_lines}
use Rattle.pool_map.specs.declared.trap.TrapKind.{TrapKind}
use Rattle.pm_machine.specs.declared.records.Policy.{Policy}
use Rattle.pm_machine.specs.declared.image.Image.{Image}
use Rattle.recovery.specs.declared.answer.RecoverAnswer.{RecoverAnswer}
use Rattle.recovery.specs.declared.answer.RecoverAnswer.TheVariants as recovered
use Rattle.recovery.specs.Recovered.{Cleaned, Redid, IsRecovered}
use Rattle.cnvm_session.specs.declared.mode.Mode.{Mode}
use Rattle.cnvm_session.specs.declared.mode.Mode.TheVariants as mode
use Rattle.cnvm_session.specs.declared.answer.Answer.TheVariants as answer
use Rattle.cnvm_session.specs.declared.program.Program.{Program}
use Rattle.cnvm_session.specs.Marks.{policy_of, owes_marked, owes_unsigned}
use Rattle.cnvm_session.specs.Opening.{opening_events}
use Rattle.cnvm_session.specs.Outcomes.{RecoversBy, answer_of_recovery, mode_of_recovery}
use Rattle.cnvm_session.specs.Commands as commanded
use Rattle.cnvm_session.specs.Commands.{fallen}
use Rattle.cnvm_session.proofs.Cases.{by_found}
use Rattle.session_law.specs.State.{Standing, Ready, Down, Unusable, SourceState}
use Rattle.session_law.specs.Answers.{FindsOwed, Recovers}
use Rattle.needed_law.specs.Answered.{PowerUnusableLaw, PowerNumbersLaw}
use Rattle.needed_law.specs.Answered.{UncutOpeningLaw}
use Rattle.needed_law.proofs.Determined.{true_not_false}

-- a recovery that is refused
IsIdle : RecoverAnswer → Type 0
IsIdle (recovered.Unusable kind) = Unit {0}
IsIdle recovered.Numbers = Unit {0}
IsIdle recovered.Clean = ⊥
IsIdle (recovered.Redone v l) = ⊥
IsIdle (recovered.Trap kind) = ⊥
IsIdle (recovered.Aborted kind) = ⊥
IsIdle (recovered.Off at) = ⊥
IsIdle recovered.Failed = ⊥
IsIdle recovered.NoMemory = ⊥

no_cleaned : (r : RecoverAnswer) (d b : Device) (es : List CacheEvent) → IsIdle r
    → Cleaned r d es b → ⊥
unfolding IsIdle
no_cleaned (recovered.Unusable kind) d b es is h = h
no_cleaned recovered.Numbers d b es is h = h
no_cleaned recovered.Clean d b es is h = is
no_cleaned (recovered.Redone v l) d b es is h = is
no_cleaned (recovered.Trap kind) d b es is h = is
no_cleaned (recovered.Aborted kind) d b es is h = is
no_cleaned (recovered.Off at) d b es is h = is
no_cleaned recovered.Failed d b es is h = is
no_cleaned recovered.NoMemory d b es is h = is

no_redid : (r : RecoverAnswer) (p : Policy) (image : Image) (tx : ℕ) (args : List ℤ) (n : ℕ)
    (d b : Device) (k k1 : ℕ) → IsIdle r → Redid r p image tx args n d b k k1 → ⊥
unfolding IsIdle
no_redid (recovered.Unusable kind) p image tx args n d b k k1 is h = h
no_redid recovered.Numbers p image tx args n d b k k1 is h = h
no_redid recovered.Clean p image tx args n d b k k1 is h = is
no_redid (recovered.Redone v l) p image tx args n d b k k1 is h = is
no_redid (recovered.Trap kind) p image tx args n d b k k1 is h = is
no_redid (recovered.Aborted kind) p image tx args n d b k k1 is h = is
no_redid (recovered.Off at) p image tx args n d b k k1 is h = is
no_redid recovered.Failed p image tx args n d b k k1 is h = is
no_redid recovered.NoMemory p image tx args n d b k k1 is h = is

idle_recovery : (r : RecoverAnswer) (p : Policy) (image : Image) (d b : Device) (k k1 : ℕ)
    → IsIdle r → IsRecovered r p image d b k k1 → (b ≡ d) × (k1 ≡ k)
idle_recovery r p image d b k k1 is h = by_found ((b ≡ d) × (k1 ≡ k)) image d
    (λ on mark. let same = h.unusable on mark in (same.1, same.2))
    (λ on mark out. let same = h.numbers on mark out in (same.1, same.2))
    (λ on mark fit unsealed. absurd (no_cleaned r d b _ is (h.clean on mark fit unsealed)))
    (λ on mark fit sealed named. absurd (no_redid r p image _ _ _ d b k k1 is
    (h.redid on mark fit sealed named)))
    (λ on mark fit sealed unnamed. let same = h.unnamed on mark fit sealed unnamed in
    (same.1, same.2))
    (λ off. let same = h.off off in (same.1, same.2))

-- the recovery's own answer, from that of the command
unusable_of : (u : Bool) (r : RecoverAnswer) (kind : TrapKind)
    → answer.RefusedUnusable kind ≡ answer_of_recovery u r → r ≡ recovered.Unusable kind
unusable_of u recovered.Clean kind e = absurd cc
unusable_of u (recovered.Redone v l) kind e = absurd cc
unusable_of u (recovered.Trap other) kind e = absurd cc
unusable_of u (recovered.Aborted other) kind e = absurd cc
unusable_of u (recovered.Unusable other) kind e =
    let same : kind ≡ other = cc in ap recovered.Unusable (sym same)
unusable_of u recovered.Numbers kind e = absurd cc
unusable_of u (recovered.Off at) kind e = absurd cc
unusable_of u recovered.Failed kind e = absurd cc
unusable_of u recovered.NoMemory kind e = absurd cc

numbers_of : (u : Bool) (r : RecoverAnswer) → answer.RefusedNumbers ≡ answer_of_recovery u r
    → r ≡ recovered.Numbers
numbers_of u recovered.Clean e = absurd cc
numbers_of u (recovered.Redone v l) e = absurd cc
numbers_of u (recovered.Trap other) e = absurd cc
numbers_of u (recovered.Aborted other) e = absurd cc
numbers_of u (recovered.Unusable other) e = absurd cc
numbers_of u recovered.Numbers e = refl
numbers_of u (recovered.Off at) e = absurd cc
numbers_of u recovered.Failed e = absurd cc
numbers_of u recovered.NoMemory e = absurd cc

module _ (program : Program) (d b : Device) (n : Mode) (k k1 : ℕ) where
  unusable_by : (by u : Bool) (kind : TrapKind)
      → RecoversBy by u program.image d (answer.RefusedUnusable kind) n b k k1
      → (b ≡ d) × (k1 ≡ k) × (n ≡ mode.Unusable kind)
  unfolding IsIdle
  unusable_by by u kind h =
      let is = unusable_of u h.tx_answer kind h.answer in
      let kept = idle_recovery h.tx_answer (policy_of by) program.image d b k k1
      (subst IsIdle (sym is) tt) h.recovered in
      (kept.0, kept.1, h.mode ∙ ap mode_of_recovery is)

  numbers_by : (by u : Bool) → RecoversBy by u program.image d answer.RefusedNumbers n b k k1
      → (b ≡ d) × (k1 ≡ k) × (n ≡ mode.Down)
  unfolding IsIdle
  numbers_by by u h =
      let is = numbers_of u h.tx_answer h.answer in
      let kept = idle_recovery h.tx_answer (policy_of by) program.image d b k k1
      (subst IsIdle (sym is) tt) h.recovered in
      (kept.0, kept.1, h.mode ∙ ap mode_of_recovery is)

-- such a `power` has no bad pick
module _ (program : Program) (choice : Choice) (m n : Mode) (d b : Device) (k k1 : ℕ) where
  unusable_power : (kind : TrapKind) (falls fits : Option ℕ) → fallen 0 choice.picks ≡ falls
      → bad (memory_of d) choice.picks ≡ fits
      → commanded.Powers program choice m d (answer.RefusedUnusable kind) n b k k1
      → (b ≡ powered choice d) × (k1 ≡ k) × (n ≡ mode.Unusable kind)
  unusable_power kind (Some line) fits falls is h = let clash = (h.0 line falls).0 in absurd cc
  unusable_power kind None (Some line) falls is h =
      let clash = (h.1 line falls is).0 in absurd cc
  unusable_power kind None None falls is h =
      unusable_by program (powered choice d) b n k k1 (owes_marked program (powered choice d))
      (owes_unsigned program (powered choice d)) kind (h.2 falls is)

  numbers_power : (falls fits : Option ℕ) → fallen 0 choice.picks ≡ falls
      → bad (memory_of d) choice.picks ≡ fits
      → commanded.Powers program choice m d answer.RefusedNumbers n b k k1
      → (b ≡ powered choice d) × (k1 ≡ k) × (n ≡ mode.Down)
  numbers_power (Some line) fits falls is h = let clash = (h.0 line falls).0 in absurd cc
  numbers_power None (Some line) falls is h = let clash = (h.1 line falls is).0 in absurd cc
  numbers_power None None falls is h =
      numbers_by program (powered choice d) b n k k1 (owes_marked program (powered choice d))
      (owes_unsigned program (powered choice d)) (h.2 falls is)

pub power_unusable : PowerUnusableLaw
power_unusable program super choice kind x y step =
    let did = unusable_power program choice x.mode y.mode x.device y.device x.steps y.steps kind
    (fallen 0 choice.picks) (bad (memory_of x.device) choice.picks) refl refl step.did in (
      record { device = did.0; steps = did.1 },
      did.2,
      step.meant.2,
      step.history ∙ append-nil x.history,
    )

-- what is found is not changed then
refused_found : (program : Program) (s t : SourceState) (image : Words) (st : Standing)
    → Recovers st program s image answer.RefusedNumbers t → t ≡ s
refused_found program s t image Ready h = absurd h
refused_found program s t image (Down None) h = h.1
refused_found program s t image (Down (Some owed)) h = h.1
refused_found program s t image (Unusable kind) h = absurd h

pub power_numbers : PowerNumbersLaw
power_numbers program super choice x y step =
    let did = numbers_power program choice x.mode y.mode x.device y.device x.steps y.steps
    (fallen 0 choice.picks) (bad (memory_of x.device) choice.picks) refl refl step.did in
    let image : Words = view (powered choice x.device).cache in
    let found = step.meant.1.0 in
    let same : y.state ≡ found =
    refused_found program found y.state image found.standing step.meant.1.2 in (
      record { device = did.0; steps = did.1 },
      did.2,
      subst (λ (s : SourceState). FindsOwed x.state.standing program x.state image s) (sym same)
          step.meant.1.1,
      step.history,
    )

-- no event is left to be the last before the power goes off
none_left : (d b : Device) (es : List CacheEvent) → d.on ≡ true → d.left ≡ None
    → PlaysPart refusal.Off d es b → ⊥
none_left d b es on endless part =
    let went = went_off d b es part on in
    let clash : Some went.n ≡ None = sym went.left ∙ endless in absurd cc

off_of : (u : Bool) (r : RecoverAnswer) (at : Phase) → answer.Stopped at ≡ answer_of_recovery u r
    → r ≡ recovered.Off at
off_of u recovered.Clean at e = absurd cc
off_of u (recovered.Redone v l) at e = absurd cc
off_of u (recovered.Trap kind) at e = absurd cc
off_of u (recovered.Aborted kind) at e = absurd cc
off_of u (recovered.Unusable kind) at e = absurd cc
off_of u recovered.Numbers at e = absurd cc
off_of u (recovered.Off p) at e = let same : at ≡ p = cc in ap recovered.Off (sym same)
off_of u recovered.Failed at e = absurd cc
off_of u recovered.NoMemory at e = absurd cc

module _ (d b : Device) (on : d.on ≡ true) (endless : d.left ≡ None) where
  off_not : d.on ≡ false → ⊥
  off_not off = true_not_false (sym on ∙ off)

  no_cleaned_off : (at : Phase) (es : List CacheEvent) → Cleaned (recovered.Off at) d es b → ⊥
  no_cleaned_off phase.Unsealed es h = none_left d b es on endless h
  no_cleaned_off phase.Sealing es h = h
  no_cleaned_off phase.Sealed es h = h

  no_redid_off : (at : Phase) (p : Policy) (image : Image) (tx : ℕ) (args : List ℤ) (n k k1 : ℕ)
      → Redid (recovered.Off at) p image tx args n d b k k1 → ⊥
  no_redid_off phase.Unsealed p image tx args n k k1 h = h
  no_redid_off phase.Sealing p image tx args n k k1 h = h
  no_redid_off phase.Sealed p image tx args n k k1 h = none_left d b _ on endless h

  not_recovered : (at : Phase) (p : Policy) (image : Image) (k k1 : ℕ)
      → IsRecovered (recovered.Off at) p image d b k k1 → ⊥
  not_recovered at p image k k1 h = by_found ⊥ image d
      (λ is mark. let clash = (h.unusable is mark).0 in absurd cc)
      (λ is mark out. let clash = (h.numbers is mark out).0 in absurd cc)
      (λ is mark fit unsealed. no_cleaned_off at _ (h.clean is mark fit unsealed))
      (λ is mark fit sealed named.
      no_redid_off at p image _ _ _ k k1 (h.redid is mark fit sealed named))
      (λ is mark fit sealed unnamed.
      let clash = (h.unnamed is mark fit sealed unnamed).0 in absurd cc)
      off_not

  not_stopped : (program : Program) (by u : Bool) (at : Phase) (n : Mode) (k k1 : ℕ)
      → RecoversBy by u program.image d (answer.Stopped at) n b k k1 → ⊥
  not_stopped program by u at n k k1 h =
      not_recovered at (policy_of by) program.image k k1
      (subst (λ (r : RecoverAnswer). IsRecovered r (policy_of by) program.image d b k k1)
      (off_of u h.tx_answer at h.answer) h.recovered)

pub uncut_opening : UncutOpeningLaw
uncut_opening program words d k at y step =
    let lines : ℕ = pool_lines program.image.parts.sizes in
    let e : Device = step.did.opened in
    let done : AllDone (blanked lines d) (opening_events lines words) e =
    all_done (blanked lines d) e (opening_events lines words) step.did.written in
    not_stopped e y.device done.on (done.endless refl) program (owes_marked program e)
    (owes_unsigned program e) at y.mode k y.steps step.did.recovers
