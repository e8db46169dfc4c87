-- Checks of the definitions themselves: the answers tell what the user knows, and a command has
-- one end. So without failures a script has one list of answers, whatever the devices are.
use Rattle.std.specs.Prelude.{◌≡◌, ℕ, true, List, [], ◌∷◌, pos}
use Rattle.std.specs.List.{AllByRecursion}
use Rattle.cache_model.specs.Cache.{Words}
use Rattle.cache_model.specs.declared.choice.Choice.{Choice}
use Rattle.pmem.specs.Device.{Device}
use Rattle.pool_layout.specs.declared.limits.Sizes.{Sizes}
use Rattle.pool_layout.specs.declared.places.TheConstants.{DONE, MARK, SEAL}
use Rattle.rules_law.specs.typed.Programs.{IsWellTyped}
use Rattle.cnvm_script.specs.declared.command.Command.{Command}
use Rattle.cnvm_script.specs.declared.command.Command.TheVariants as command
use Rattle.cnvm_session.specs.declared.answer.Answer.{Answer}
use Rattle.cnvm_session.specs.declared.answer.Answer.TheVariants as answer
use Rattle.cnvm_session.specs.Laws.{IsBadPick}
use Rattle.session_law.specs.Ran.{found_by}
use Rattle.user_law.specs.Source.{Source}
use Rattle.user_law.specs.State.{UserStanding, Ready, Idle, Owed, Unusable, UserState}
use Rattle.user_law.specs.Answers.{found_as, UserAnswers}
use Rattle.user_law.specs.Played.{only_looks}
use Rattle.user_law.specs.Ran.{UserMoment, UserStep, UserRan}
use Rattle.user_law.specs.Run.{TextMeaning, IsUserRun}

-- The command came to its end. Else the power went, the device failed, memory was wanting, a
-- number is at its end, or a pick doesn't fit.
abbrev pub CameToEnd : Answer → Type 0
CameToEnd (answer.Stopped at) = ⊥
CameToEnd answer.DeviceFault = ⊥
CameToEnd answer.NoMemory = ⊥
CameToEnd answer.RefusedNumbers = ⊥
CameToEnd (answer.RefusedPick line) = ⊥
CameToEnd a = Unit {0}

-- The answer is the text of a pool that a trap has ended. This is the image's, which the source
-- doesn't tell.
abbrev pub IsOfImage : Answer → Type 0
IsOfImage (answer.ShownDead kind text) = Unit {0}
IsOfImage a = ⊥

-- the two images have the same seal and count as many transactions as finished
abbrev pub CountAlike : Words → Words → Type 0
CountAlike image other = (image SEAL ≡ other SEAL) × (image DONE ≡ other DONE)

-- An answer tells the state. Of the image that the command finds, only its seal and its count are
-- asked.
abbrev pub OneStateLaw : Type 0
OneStateLaw =
    (p : Source) (s t u : UserState) (image other : Words) (c : Command) (a : Answer) →
    CountAlike image other → UserAnswers p s image c a t → UserAnswers p s other c a u → t ≡ u

-- A command has one end: no two ends are possible from one source, state and image.
abbrev pub OneEndLaw : Type 0
OneEndLaw =
    (p : Source) (s t u : UserState) (image : Words) (c : Command) (a b : Answer) →
    CameToEnd a → CameToEnd b → UserAnswers p s image c a t → UserAnswers p s image c b u →
    (a ≡ b) × (t ≡ u)

-- no trap has ended the pool, and a recovery can follow
abbrev pub CanRecover : UserStanding → Type 0
CanRecover Ready = ⊥
CanRecover Idle = Unit {0}
CanRecover (Owed call seal) = Unit {0}
CanRecover (Unusable kind) = ⊥

-- a power cut finds an image without a mark, and no trap has ended the pool
abbrev pub FindsPool : Source → UserState → Words → Command → Type 0
FindsPool p s image (command.Power choice) =
    (image MARK ≡ pos 0) × CanRecover (found_as s.standing p s image).standing
FindsPool p s image c = Unit {0}

-- And it has that end, whatever the state and the image are; `power` has it where it finds a pool,
-- and a call that only looks in a well typed program, whose source leaves the pool.
abbrev pub SomeEndLaw : Type 0
SomeEndLaw =
    (p : Source) (s : UserState) (image : Words) (c : Command) → FindsPool p s image c →
    (only_looks p c ≡ true → IsWellTyped p.tables) →
    (a : Answer) × (t : UserState) × CameToEnd a × UserAnswers p s image c a t

-- The user knows the same at both moments; the devices may differ.
abbrev pub KnowsTheSame : UserMoment → UserMoment → Type 0
KnowsTheSame x u = (x.state ≡ u.state) × (x.history ≡ u.history)

-- if a call is owed, a power cut leaves the two devices the same seal and the same count
abbrev pub CutsAlike : UserStanding → Command → Device → Device → Type 0
CutsAlike (Owed call seal) (command.Power choice) d e =
    CountAlike (found_by (command.Power choice) d) (found_by (command.Power choice) e)
CutsAlike standing c d e = Unit {0}

-- so does each power cut of two chains
abbrev pub AllCutAlike : (p : Source) (commands : List Command) (answers : List Answer)
    (x y u v : UserMoment) → UserRan p commands answers x y → UserRan p commands answers u v
    → Type 0
AllCutAlike p [] answers x y u v one other = Unit {0}
AllCutAlike p (c ∷ commands) [] x y u v one other = Unit {0}
AllCutAlike p (c ∷ commands) (a ∷ answers) x y u v one other =
    CutsAlike x.state.standing c x.device u.device
    × AllCutAlike p commands answers one.0 y other.0 v one.2 other.2

-- The answers of a chain tell the pool, the counts and the history at its end, together with the
-- seal and the count that was found after each call that was cut off. What else the devices held
-- and did doesn't matter.
abbrev pub SameAnswersLaw : Type 0
SameAnswersLaw =
    (p : Source) (commands : List Command) (answers : List Answer) (x y u v : UserMoment)
    (one : UserRan p commands answers x y) (other : UserRan p commands answers u v) →
    KnowsTheSame x u → AllCutAlike p commands answers x y u v one other → KnowsTheSame y v

-- Where each command comes to its end, and none shows a pool that a trap has ended, a script has
-- one list of answers and leads to one pool, whatever the devices hold, do, and leave at a power
-- cut.
abbrev pub SameScriptLaw : Type 0
SameScriptLaw =
    (p : Source) (commands : List Command) (answers others : List Answer)
    (x y u v : UserMoment) →
    x.state.standing ≡ Ready → KnowsTheSame x u →
    AllByRecursion CameToEnd answers → AllByRecursion CameToEnd others →
    AllByRecursion (λ a. IsOfImage a → ⊥) answers →
    UserRan p commands answers x y → UserRan p commands others u v →
    (answers ≡ others) × KnowsTheSame y v

-- So all such runs of a text and a script on new pools write the same.
abbrev pub SameOutputLaw : Type 0
SameOutputLaw =
    (text script : List ℕ) (meaning : TextMeaning text) (sizes : Sizes) (d b e f : Device)
    (written rewritten : List ℕ) (run : IsUserRun text script meaning sizes d b written)
    (again : IsUserRun text script meaning sizes e f rewritten) →
    AllByRecursion CameToEnd run.answers → AllByRecursion CameToEnd again.answers →
    AllByRecursion (λ a. IsOfImage a → ⊥) run.answers →
    (written ≡ rewritten) × KnowsTheSame run.last again.last

-- Whether a power cut is refused for a pick, and for which, is one answer, which the choice and
-- the device tell.
abbrev pub OnePickLaw : Type 0
OnePickLaw =
    (p : Source) (choice : Choice) (x y z : UserMoment) (a b : Answer) → IsBadPick a
    → UserStep p (command.Power choice) x a y → UserStep p (command.Power choice) x b z → a ≡ b
