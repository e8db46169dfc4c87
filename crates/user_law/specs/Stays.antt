-- What follows from a chain alone, whatever the device and the machine are.
use Rattle.std.specs.Prelude.{ℕ, ◌+◌, ◌≡◌, ◌⊎◌, true, false, List, ◌∷◌, ◌++◌, length}
use Rattle.pmem.specs.Device.{Device}
use Rattle.pmem.specs.declared.answer.Phase.{Phase}
use Rattle.pmem.specs.declared.answer.Phase.TheVariants as phase
use Rattle.pool_layout.specs.declared.limits.Sizes.{Sizes}
use Rattle.pool_map.specs.declared.trap.TrapKind.{TrapKind}
use Rattle.cache_model.specs.declared.choice.Choice.{Choice}
use Rattle.cnvm_script.specs.declared.command.Command.{Command}
use Rattle.cnvm_script.specs.declared.command.Command.TheVariants as command
use Rattle.cnvm_session.specs.declared.answer.Answer.{Answer}
use Rattle.cnvm_session.specs.declared.answer.Answer.TheVariants as answer
use Rattle.session_law.specs.State.{Pending}
use Rattle.session_law.specs.Ran.{found_by}
use Rattle.user_law.specs.Source.{Source}
use Rattle.user_law.specs.State.{Ready, Idle, Owed, Unusable, stands_as, first_state}
use Rattle.user_law.specs.Answers.{has_next_seal}
use Rattle.user_law.specs.History.{pool_after_all}
use Rattle.user_law.specs.Played.{only_looks}
use Rattle.user_law.specs.Keeps.{UserKeeps}
use Rattle.user_law.specs.Ran.{UserMoment, UserStep, UserRan}
use Rattle.user_law.specs.Run.{first_moment, TextMeaning, source_with, IsUserRun}

-- The call is in the history, right after these; or it is still owed, with its seal in all images;
-- or the pool is unusable.
abbrev pub IsSure : List Pending → Pending → UserMoment → Type 0
IsSure before call x =
    ((later : List Pending) × (x.history ≡ before ++ call ∷ later))
    ⊎ (((x.state.standing ≡ Owed call phase.Sealed) × (x.history ≡ before))
    ⊎ ((kind : TrapKind) × (x.state.standing ≡ Unusable kind)))

-- a power cut that was refused for its pick is none
abbrev pub IsPowerCut : Answer → Type 0
IsPowerCut (answer.RefusedPick line) = ⊥
IsPowerCut a = Unit {0}

-- A power cut that leaves the seal makes the owed call sure.
abbrev pub CutSealedLaw : Type 0
CutSealedLaw =
    (p : Source) (choice : Choice) (call : Pending) (seal : Phase)
    (x y : UserMoment) (a : Answer) →
    x.state.standing ≡ Owed call seal → IsPowerCut a
    → UserStep p (command.Power choice) x a y
    → has_next_seal x.state (found_by (command.Power choice) x.device) ≡ true →
    IsSure x.history call y

-- A sure call stays sure, over any number of commands, cuts and faults.
abbrev pub SureLaw : Type 0
SureLaw =
    (p : Source) (commands : List Command) (answers : List Answer)
    (before : List Pending) (call : Pending) (x y : UserMoment) →
    UserKeeps p x.device x.state → IsSure before call x
    → UserRan p commands answers x y → IsSure before call y

-- Once an image had the seal, the history of each later moment that takes calls has the call, right
-- after those before it: over any number of commands, cuts and faults, and recoveries that failed.
abbrev pub OnceSealedLaw : Type 0
OnceSealedLaw =
    (p : Source) (choice : Choice) (call : Pending) (seal : Phase)
    (commands : List Command) (answers : List Answer) (x y z : UserMoment) (a : Answer) →
    x.state.standing ≡ Owed call seal → IsPowerCut a
    → UserStep p (command.Power choice) x a y
    → has_next_seal x.state (found_by (command.Power choice) x.device) ≡ true
    → UserRan p commands answers y z → z.state.standing ≡ Ready →
    (later : List Pending) × (z.history ≡ x.history ++ call ∷ later)

-- A power cut that doesn't leave the seal finishes nothing, whatever the recovery answers.
abbrev pub CutUnsealedLaw : Type 0
CutUnsealedLaw =
    (p : Source) (choice : Choice) (x y : UserMoment) (a : Answer) →
    UserStep p (command.Power choice) x a y
    → has_next_seal x.state (found_by (command.Power choice) x.device) ≡ false →
    (y.history ≡ x.history) × (y.state.done ≡ x.state.done) × (y.state.pool ≡ x.state.pool)

abbrev pub StaysLaw : Type 0
StaysLaw = CutSealedLaw × SureLaw × OnceSealedLaw × CutUnsealedLaw

-- A call that only looks leaves the device, the history and what the user knows; where memory was
-- wanting the session stands idle.
pub record HasLooked (x : UserMoment) (a : Answer) (y : UserMoment) : Type 0 where
  pub device : y.device ≡ x.device
  pub history : y.history ≡ x.history
  pub state : (y.state ≡ x.state)
      ⊎ ((a ≡ answer.NoMemory) × (y.state ≡ stands_as Idle x.state))

abbrev pub UserLookLaw : Type 0
UserLookLaw =
    (p : Source) (c : Command) (x y : UserMoment) (a : Answer) →
    only_looks p c ≡ true → UserStep p c x a y → HasLooked x a y

-- The history leads from the first pool to the last one, and each of its entries is counted.
pub record UserHasGrown (p : Source) (x y : UserMoment) : Type 0 where
  pub new : List Pending
  pub history : y.history ≡ x.history ++ new
  pub pool : y.state.pool ≡ pool_after_all p x.state.pool new
  pub count : y.state.done ≡ x.state.done + length new

-- Whole or not at all: the pool is the one to which the history leads.
abbrev pub UserWholeLaw : Type 0
UserWholeLaw =
    (p : Source) (commands : List Command) (answers : List Answer)
    (x y : UserMoment) → UserRan p commands answers x y → UserHasGrown p x y

-- At the end of each chain every image is as the user knows.
abbrev pub UserKeptLaw : Type 0
UserKeptLaw =
    (p : Source) (commands : List Command) (answers : List Answer)
    (x y : UserMoment) → UserKeeps p x.device x.state → UserRan p commands answers x y →
    UserKeeps p y.device y.state

-- The headline, as one law. A new pool, then any number of commands, cuts and faults: the pool that
-- the user knows is the one to which the history leads, each entry is counted, and every image is
-- as the user knows; where calls are taken there is one image, and it holds that pool.
abbrev pub HeadLaw : Type 0
HeadLaw =
    (p : Source) (d : Device) (commands : List Command) (answers : List Answer)
    (y : UserMoment) → UserKeeps p d (first_state p)
    → UserRan p commands answers (first_moment p d) y →
    (y.state.pool ≡ pool_after_all p (first_state p).pool y.history)
    × (y.state.done ≡ length y.history) × UserKeeps p y.device y.state

-- So of each run of a text on a new pool.
abbrev pub RunHeadLaw : Type 0
RunHeadLaw =
    (text script : List ℕ) (meaning : TextMeaning text) (sizes : Sizes) (d b : Device)
    (written : List ℕ) (run : IsUserRun text script meaning sizes d b written) →
    (run.last.state.pool ≡ pool_after_all (source_with meaning sizes)
    (first_state (source_with meaning sizes)).pool run.last.history)
    × (run.last.state.done ≡ length run.last.history)
    × UserKeeps (source_with meaning sizes) b run.last.state
