-- A power cut is refused for a pick exactly if one doesn't fit.
use Rattle.std.proofs.Common.{◌≡◌, Bool, ℕ, Option, Some, None, refl, sym, ap, ◌∙◌, subst}
use Rattle.std.specs.Option.{option_or}
use Rattle.cache_model.specs.Collapse.{bad}
use Rattle.cache_model.specs.declared.choice.Choice.{Choice}
use Rattle.pmem.specs.Device.{Device, memory_of, powered}
use Rattle.recovery.specs.declared.answer.RecoverAnswer.{RecoverAnswer}
use Rattle.recovery.specs.declared.answer.RecoverAnswer.TheVariants as recovered
use Rattle.cnvm_script.specs.declared.command.Command.{Command}
use Rattle.cnvm_script.specs.declared.command.Command.TheVariants as command
use Rattle.cnvm_session.specs.declared.answer.Answer.{Answer}
use Rattle.cnvm_session.specs.declared.answer.Answer.TheVariants as answer
use Rattle.cnvm_session.specs.declared.mode.Mode.{Mode}
use Rattle.cnvm_session.specs.declared.program.Program.{Program}
use Rattle.cnvm_session.specs.Commands as commanded
use Rattle.cnvm_session.specs.Commands.{fallen, Commanded}
use Rattle.cnvm_session.specs.Marks.{owes_marked, owes_unsigned}
use Rattle.cnvm_session.specs.Outcomes.{answer_of_recovery, RecoversBy}
use Rattle.cnvm_session.specs.Laws.{IsBadPick}
use Rattle.user_law.specs.Determined.{OnePickLaw}
use Rattle.user_law.specs.Played.{unfit, TellsPick}

-- a recovery isn't answered with a bad pick
recovery_told : (choice : Choice) (d : Device) → unfit choice d ≡ None → (u : Bool)
    (r : RecoverAnswer) → TellsPick (command.Power choice) (answer_of_recovery u r) d
recovery_told choice d fits u recovered.Clean = fits
recovery_told choice d fits u (recovered.Redone value logged) = fits
recovery_told choice d fits u (recovered.Trap kind) = fits
recovery_told choice d fits u (recovered.Aborted kind) = fits
recovery_told choice d fits u (recovered.Unusable kind) = fits
recovery_told choice d fits u recovered.Numbers = fits
recovery_told choice d fits u (recovered.Off phase) = fits
recovery_told choice d fits u recovered.Failed = fits
recovery_told choice d fits u recovered.NoMemory = fits

module _ (program : Program) (m n : Mode) (d b : Device) (a : Answer) (k k1 : ℕ) where
  recovers_told : (choice : Choice) (marked u : Bool) → unfit choice d ≡ None
      → RecoversBy marked u program.image (powered choice d) a n b k k1
      → TellsPick (command.Power choice) a d
  recovers_told choice marked u fits is =
      subst (λ (x : Answer). TellsPick (command.Power choice) x d) (sym is.answer)
      (recovery_told choice d fits u is.tx_answer)

  bad_told : (choice : Choice) (line : ℕ) → unfit choice d ≡ Some line
      → a ≡ answer.RefusedPick line → TellsPick (command.Power choice) a d
  bad_told choice line is answered =
      subst (λ (x : Answer). TellsPick (command.Power choice) x d) (sym answered) is

  power_told : (choice : Choice) (first pick : Option ℕ) → fallen 0 choice.picks ≡ first
      → bad (memory_of d) choice.picks ≡ pick → commanded.Powers program choice m d a n b k k1
      → TellsPick (command.Power choice) a d
  power_told choice (Some line) pick falls fits is =
      bad_told choice line
      (ap (λ (o : Option ℕ). option_or o (bad (memory_of d) choice.picks)) falls)
      (is.0 line falls).0
  power_told choice None (Some line) rises fits is =
      bad_told choice line
      (ap (λ (o : Option ℕ). option_or o (bad (memory_of d) choice.picks)) rises ∙ fits)
      (is.1 line rises fits).0
  power_told choice None None rises fits is =
      recovers_told choice (owes_marked program (powered choice d))
      (owes_unsigned program (powered choice d))
      (ap (λ (o : Option ℕ). option_or o (bad (memory_of d) choice.picks)) rises ∙ fits)
      (is.2 rises fits)

pub pick_told : (program : Program) (c : Command) (m n : Mode) (d b : Device) (a : Answer)
    (k k1 : ℕ) → Commanded program c m d a n b k k1 → TellsPick c a d
pick_told program (command.Call name args) m n d b a k k1 is = tt
pick_told program (command.Stop left) m n d b a k k1 is = tt
pick_told program (command.Fault at) m n d b a k k1 is = tt
pick_told program (command.Power choice) m n d b a k k1 is =
    power_told program m n d b a k k1 choice (fallen 0 choice.picks)
    (bad (memory_of d) choice.picks) refl refl is
pick_told program command.Show m n d b a k k1 is = tt
pick_told program command.ShowDead m n d b a k k1 is = tt
pick_told program command.Last m n d b a k k1 is = tt

some_none : (o : Option ℕ) (line : ℕ) → o ≡ Some line → o ≡ None → ⊥
some_none o line some none = let clash : Some line ≡ None = sym some ∙ none in absurd cc

-- the line of a pick, if there is one
line_in : Option ℕ → ℕ
line_in None = 0
line_in (Some line) = line

module _ (choice : Choice) (d : Device) (line : ℕ) (is : unfit choice d ≡ Some line) where
  same_pick : (b : Answer) → TellsPick (command.Power choice) b d → answer.RefusedPick line ≡ b
  unfolding line_in
  same_pick answer.Silent so = absurd (some_none (unfit choice d) line is so)
  same_pick (answer.Done value unsigned logged) so = absurd (some_none (unfit choice d) line is so)
  same_pick (answer.Trap kind) so = absurd (some_none (unfit choice d) line is so)
  same_pick (answer.Aborted kind) so = absurd (some_none (unfit choice d) line is so)
  same_pick (answer.Stopped at) so = absurd (some_none (unfit choice d) line is so)
  same_pick answer.DeviceFault so = absurd (some_none (unfit choice d) line is so)
  same_pick answer.RecoveredNone so = absurd (some_none (unfit choice d) line is so)
  same_pick (answer.RecoveredRedone value unsigned logged) so =
      absurd (some_none (unfit choice d) line is so)
  same_pick (answer.RecoveredTrap kind) so = absurd (some_none (unfit choice d) line is so)
  same_pick (answer.RecoveredAborted kind) so = absurd (some_none (unfit choice d) line is so)
  same_pick (answer.Shown text) so = absurd (some_none (unfit choice d) line is so)
  same_pick (answer.ShownDead trap text) so = absurd (some_none (unfit choice d) line is so)
  same_pick (answer.Last n value) so = absurd (some_none (unfit choice d) line is so)
  same_pick answer.NoMemory so = absurd (some_none (unfit choice d) line is so)
  same_pick answer.RefusedDown so = absurd (some_none (unfit choice d) line is so)
  same_pick (answer.RefusedUnusable kind) so = absurd (some_none (unfit choice d) line is so)
  same_pick answer.RefusedUnknown so = absurd (some_none (unfit choice d) line is so)
  same_pick answer.RefusedArity so = absurd (some_none (unfit choice d) line is so)
  same_pick answer.RefusedNumbers so = absurd (some_none (unfit choice d) line is so)
  same_pick (answer.RefusedPick other) so =
      ap (λ (o : Option ℕ). answer.RefusedPick (line_in o)) (sym is ∙ so)

one_pick_of : (choice : Choice) (d : Device) (a b : Answer) → IsBadPick a
    → TellsPick (command.Power choice) a d → TellsPick (command.Power choice) b d → a ≡ b
one_pick_of choice d answer.Silent b bad is so = absurd bad
one_pick_of choice d (answer.Done value unsigned logged) b bad is so = absurd bad
one_pick_of choice d (answer.Trap kind) b bad is so = absurd bad
one_pick_of choice d (answer.Aborted kind) b bad is so = absurd bad
one_pick_of choice d (answer.Stopped at) b bad is so = absurd bad
one_pick_of choice d answer.DeviceFault b bad is so = absurd bad
one_pick_of choice d answer.RecoveredNone b bad is so = absurd bad
one_pick_of choice d (answer.RecoveredRedone value unsigned logged) b bad is so = absurd bad
one_pick_of choice d (answer.RecoveredTrap kind) b bad is so = absurd bad
one_pick_of choice d (answer.RecoveredAborted kind) b bad is so = absurd bad
one_pick_of choice d (answer.Shown text) b bad is so = absurd bad
one_pick_of choice d (answer.ShownDead trap text) b bad is so = absurd bad
one_pick_of choice d (answer.Last n value) b bad is so = absurd bad
one_pick_of choice d answer.NoMemory b bad is so = absurd bad
one_pick_of choice d answer.RefusedDown b bad is so = absurd bad
one_pick_of choice d (answer.RefusedUnusable kind) b bad is so = absurd bad
one_pick_of choice d answer.RefusedUnknown b bad is so = absurd bad
one_pick_of choice d answer.RefusedArity b bad is so = absurd bad
one_pick_of choice d answer.RefusedNumbers b bad is so = absurd bad
one_pick_of choice d (answer.RefusedPick line) b bad is so = same_pick choice d line is b so

pub one_pick_law : OnePickLaw
one_pick_law p choice x y z a b bad one other =
    one_pick_of choice x.device a b bad one.picks other.picks
