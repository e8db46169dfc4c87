-- How a user's session is seen in a session of the machine (session_law). This names the machine,
-- and no user needs it.
use Rattle.std.specs.Prelude.{ℕ, suc, ◌≤◌, ◌≡◌, ◌≢◌, List, length, Some, None, pos}
use Rattle.std.specs.List.{AllByRecursion}
use Rattle.cache_model.specs.Cache.{Words, view}
use Rattle.cache_model.specs.Event.{CacheEvent}
use Rattle.cache_model.specs.Image.{Images}
use Rattle.cache_model.specs.declared.choice.Choice.{Choice}
use Rattle.pmem.specs.Device.{Device, powered}
use Rattle.pool_layout.specs.declared.places.TheConstants.{DONE, MARK}
use Rattle.pool_map.specs.PoolMap.{PoolMap}
use Rattle.c_tree.specs.Program.{tree_of}
use Rattle.codegen.specs.Emit.{most_steps}
use Rattle.cnvm_script.specs.declared.command.Command.{Command}
use Rattle.cnvm_script.specs.declared.command.Command.TheVariants as command
use Rattle.cnvm_session.specs.declared.answer.Answer.{Answer}
use Rattle.cnvm_session.specs.declared.mode.Mode.{Mode}
use Rattle.cnvm_session.specs.declared.program.Program.{Program}
use Rattle.cnvm_session.specs.Commands.{Commanded}
use Rattle.cnvm_session.specs.Marks.{rolls_back_of}
use Rattle.cnvm_session.specs.Pool.{sizes_of}
use Rattle.session_law.specs.Agrees.{Agrees}
use Rattle.session_law.specs.Answers as machine
use Rattle.session_law.specs.Law.{IsWordCommand}
use Rattle.session_law.specs.Ran.{SessionStep, Ran}
use Rattle.session_law.specs.Ran as session
use Rattle.session_law.specs.Source.{LogsBy}
use Rattle.session_law.specs.State.{Pending, SourceState}
use Rattle.session_law.specs.State as session_state
use Rattle.session_law.specs.Holds.{Holds}
use Rattle.user_law.specs.Source.{Source, Logs}
use Rattle.user_law.specs.State.{UserStanding, Ready, Idle, Owed, Unusable, UserState}
use Rattle.user_law.specs.Answers.{UserAnswers}
use Rattle.user_law.specs.Played.{prepared, PlaysAs, events_bound}
use Rattle.user_law.specs.Keeps.{UserKeeps, IsOwedAt}
use Rattle.user_law.specs.Run.{source_of}
use Rattle.user_law.specs.Ran.{UserMoment, UserStep, UserRan}
use Rattle.user_law.specs.Stays.{IsPowerCut}

abbrev pub source_in : Program → Logs → Source
source_in program logs =
    source_of (tree_of program.typed) (length program.typed.lines) (sizes_of program) logs

-- session_law knows no seal of what is owed
abbrev pub plain_standing : UserStanding → session_state.Standing
plain_standing Ready = session_state.Ready
plain_standing Idle = session_state.Down None
plain_standing (Owed call seal) = session_state.Down (Some call)
plain_standing (Unusable kind) = session_state.Unusable kind

abbrev pub plain : UserState → SourceState
plain s = record {
  pool = s.pool;
  done = s.done;
  last = s.last;
  standing = plain_standing s.standing;
}

-- The count is that of the program's logged stores, on every pool; and the machine takes at most
-- the steps of a text of so many tokens.
pub record HasCounts (program : Program) (logs : Logs) : Type 0 where
  pub logged : (pool : PoolMap) (call : Pending) →
      LogsBy (rolls_back_of program call.tx) program pool call.tx call.args
      (logs pool call)
  pub most : program.image.parts.most
      ≡ most_steps (sizes_of program) (length program.typed.lines)

-- the seal of what is owed is in the images as the user knows
abbrev pub HasOwedPhase : UserStanding → Source → Device → UserState → Type 0
HasOwedPhase (Owed call seal) p d s = Images (IsOwedAt seal p s) d.cache
HasOwedPhase standing p d s = Unit {0}

-- What the device holds by session_law, and the phase of the seal, is what the user knows.
abbrev pub KeepsLaw : Type 0
KeepsLaw =
    (program : Program) (logs : Logs) (super : Words) (m : Mode) (d : Device) (s : UserState) →
    Holds program super m d (plain s) → HasOwedPhase s.standing (source_in program logs) d s →
    UserKeeps (source_in program logs) d s

-- What the device does is a list of few events that is played as the answer says.
abbrev pub PlayedLaw : Type 0
PlayedLaw =
    (program : Program) (logs : Logs) (super : Words) (c : Command) (m n : Mode) (d b : Device)
    (s : SourceState) (a : Answer) (k k1 : ℕ) →
    HasCounts program logs → Holds program super m d s → Commanded program c m d a n b k k1 →
    (events : List CacheEvent) × (length events ≤ events_bound (source_in program logs) c)
    × PlaysAs a (prepared c a d) events b

-- What session_law says of a step's answer is what the user's definitions say, without the machine.
abbrev pub MeantLaw : Type 0
MeantLaw =
    (program : Program) (logs : Logs) (s : UserState) (t : SourceState) (image : Words)
    (c : Command) (a : Answer) →
    HasCounts program logs → machine.Answers program (plain s) image c a t →
    (u : UserState) × (t ≡ plain u) × UserAnswers (source_in program logs) s image c a u

-- A power cut that leaves the seal of an owed call which isn't counted yet, and no mark: whatever
-- the recovery answers, also `device fault` and `no memory`, every image still has the seal.
abbrev pub SealKeptLaw : Type 0
SealKeptLaw =
    (program : Program) (super : Words) (choice : Choice) (owed : Pending) (m n : Mode)
    (d b : Device) (s : SourceState) (a : Answer) (k k1 : ℕ) →
    Agrees program → Holds program super m d s → s.standing ≡ session_state.Down (Some owed) →
    IsPowerCut a → Commanded program (command.Power choice) m d a n b k k1 →
    view (powered choice d).cache MARK ≡ pos 0 →
    view (powered choice d).cache DONE ≢ pos (suc s.done) →
    machine.HasSeal s (view (powered choice d).cache) → Images (machine.HasSeal s) b.cache

-- a moment of the machine's session as the user knows it
pub record IsSeenAs (x : session.Moment) (u : UserMoment) : Type 0 where
  pub device : u.device ≡ x.device
  pub state : x.state ≡ plain u.state
  pub history : u.history ≡ x.history

-- Each step of a session of the machine is one of the user's.
abbrev pub StepLaw : Type 0
StepLaw =
    (program : Program) (super : Words) (logs : Logs) (c : Command) (a : Answer)
    (x y : session.Moment) (u : UserMoment) →
    Agrees program → HasCounts program logs → IsWordCommand c →
    Holds program super x.mode x.device x.state → IsSeenAs x u →
    UserKeeps (source_in program logs) u.device u.state → SessionStep program super c x a y →
    (v : UserMoment) × IsSeenAs y v × UserStep (source_in program logs) c u a v

-- So each session of the machine is one of the user's.
abbrev pub RanLaw : Type 0
RanLaw =
    (program : Program) (super : Words) (logs : Logs) (commands : List Command)
    (answers : List Answer) (x y : session.Moment) (u : UserMoment) →
    Agrees program → HasCounts program logs → AllByRecursion IsWordCommand commands →
    Holds program super x.mode x.device x.state → IsSeenAs x u →
    UserKeeps (source_in program logs) u.device u.state → Ran program super commands answers x y →
    (v : UserMoment) × IsSeenAs y v × UserRan (source_in program logs) commands answers u v
