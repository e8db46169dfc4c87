-- A session as its user sees it: a chain of steps, one for each command.
use Rattle.std.specs.Prelude.{◌≤◌, ◌≡◌, List, [], ◌∷◌, length}
use Rattle.cache_model.specs.Event.{CacheEvent}
use Rattle.pmem.specs.Device.{Device}
use Rattle.cnvm_script.specs.declared.command.Command.{Command}
use Rattle.cnvm_session.specs.declared.answer.Answer.{Answer}
use Rattle.session_law.specs.State.{Pending}
use Rattle.session_law.specs.Ran.{found_by}
use Rattle.user_law.specs.Source.{Source}
use Rattle.user_law.specs.State.{UserState}
use Rattle.user_law.specs.Answers.{UserAnswers}
use Rattle.user_law.specs.History.{grown_history}
use Rattle.user_law.specs.Played.{prepared, PlaysAs, TellsPick, events_bound}
use Rattle.user_law.specs.Keeps.{UserKeeps}

-- the device, what the user knows, and the transactions that are finished
pub record UserMoment : Type 0 where
  pub device : Device
  pub state : UserState
  pub history : List Pending

-- One command. Some events are played, no more than the bound; a power cut is refused only for a
-- pick that doesn't fit; the answer is the source's, given the image that is found; then each
-- image is as the user knows; and the history is a function.
pub record UserStep (p : Source) (c : Command) (x : UserMoment)
    (a : Answer) (y : UserMoment) : Type 0 where
  pub events : List CacheEvent
  pub few : length events ≤ events_bound p c
  pub played : PlaysAs a (prepared c a x.device) events y.device
  pub picks : TellsPick c a x.device
  pub meant : UserAnswers p x.state (found_by c x.device) c a y.state
  pub kept : UserKeeps p y.device y.state
  pub history : y.history ≡ grown_history p x.state c y.state x.history

-- all commands, each with its answer
abbrev pub UserRan : Source → List Command → List Answer → UserMoment → UserMoment
    → Type 0
UserRan p [] [] x y = y ≡ x
UserRan p [] (a ∷ answers) x y = ⊥
UserRan p (c ∷ commands) [] x y = ⊥
UserRan p (c ∷ commands) (a ∷ answers) x y =
    (z : UserMoment) × UserStep p c x a z × UserRan p commands answers z y
