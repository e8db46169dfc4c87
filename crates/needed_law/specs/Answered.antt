-- Laws of a session's answers: the source gives one of each kind; a `power` that is refused for
-- the pool's mark or numbers does no more than it says; and the opening of an image is never cut.
use Rattle.std.specs.Prelude.{ℕ, ◌≡◌, if◌then◌else◌, List, [], ◌++◌, ℤ}
use Rattle.cache_model.specs.Cache.{Words, view}
use Rattle.cache_model.specs.declared.choice.Choice.{Choice}
use Rattle.pmem.specs.Device.{Device, powered}
use Rattle.pmem.specs.declared.answer.Phase.{Phase}
use Rattle.pool_map.specs.declared.trap.TrapKind.{TrapKind}
use Rattle.cnvm_script.specs.declared.command.Command.{Command}
use Rattle.cnvm_script.specs.declared.command.Command.TheVariants as command
use Rattle.cnvm_session.specs.declared.answer.Answer.{Answer}
use Rattle.cnvm_session.specs.declared.answer.Answer.TheVariants as answer
use Rattle.cnvm_session.specs.declared.mode.Mode.TheVariants as mode
use Rattle.cnvm_session.specs.declared.program.Program.{Program}
use Rattle.session_law.specs.State.{SourceState, standing_as}
use Rattle.session_law.specs.State as state
use Rattle.session_law.specs.Answers.{FindsOwed, Answers}
use Rattle.session_law.specs.History.{waiting_of, is_retired}
use Rattle.session_law.specs.Ran.{Moment, SessionStep, OpenStep}
use Rattle.needed_law.specs.AnswerKind.{answer_kind}

-- The source's state, the image that a command finds and the kind of its answer determine the
-- answer and the next state.
abbrev pub OneAnswerLaw : Type 0
OneAnswerLaw =
    (program : Program) (s : SourceState) (image : Words) (c : Command) (a b : Answer)
    (t u : SourceState) →
    Answers program s image c a t → Answers program s image c b u →
    answer_kind a ≡ answer_kind b → (a ≡ b) × (t ≡ u)

-- the power was cut with this choice, and no event and no step came after it
pub record IsCutAlone (choice : Choice) (x y : Moment) : Type 0 where
  pub device : y.device ≡ powered choice x.device
  pub steps : y.steps ≡ x.steps

-- A `power` that finds a mark makes the session unusable; the pool, the counts and the history
-- stay.
abbrev pub PowerUnusableLaw : Type 0
PowerUnusableLaw =
    (program : Program) (super : Words) (choice : Choice) (kind : TrapKind) (x y : Moment) →
    SessionStep program super (command.Power choice) x (answer.RefusedUnusable kind) y →
    IsCutAlone choice x y × (y.mode ≡ mode.Unusable kind)
    × (y.state ≡ standing_as (state.Unusable kind) x.state) × (y.history ≡ x.history)

-- A `power` that finds the numbers at their limit leaves the session down. What is known is what
-- the image shows; so the history grows only by a transaction that the image shows to be retired.
abbrev pub PowerNumbersLaw : Type 0
PowerNumbersLaw =
    (program : Program) (super : Words) (choice : Choice) (x y : Moment) →
    SessionStep program super (command.Power choice) x answer.RefusedNumbers y →
    IsCutAlone choice x y × (y.mode ≡ mode.Down)
    × FindsOwed x.state.standing program x.state (view (powered choice x.device).cache) y.state
    × (y.history ≡ x.history ++ (if is_retired x.state (view (powered choice x.device).cache)
    then waiting_of x.state.standing else []))

-- So a `power` that is refused changes nothing but what it says.
abbrev pub PowerRefusedLaw : Type 0
PowerRefusedLaw = PowerUnusableLaw × PowerNumbersLaw

-- No power cut hits the opening of an image or its first recovery: what is said of an opening that
-- is stopped is said of nothing.
abbrev pub UncutOpeningLaw : Type 0
UncutOpeningLaw =
    (program : Program) (words : List ℤ) (d : Device) (k : ℕ) (at : Phase) (y : Moment) →
    OpenStep program words d k (answer.Stopped at) y → ⊥
