-- A session as a chain of steps from moment to moment. Each step says what the machine and the
-- device did, what the source says of it, what the device then holds, and which transactions are
-- done. The image of a step is the device's own, and the super words are the pool's.
use Rattle.std.specs.Prelude.{ℕ, ◌≡◌, List, [], ◌∷◌, ℤ}
use Rattle.cache_model.specs.Cache.{view, Words}
use Rattle.pmem.specs.Device.{Device, powered}
use Rattle.pool_layout.specs.Image.{image_words}
use Rattle.cnvm_script.specs.declared.command.Command.{Command}
use Rattle.cnvm_script.specs.declared.command.Command.TheVariants as command
use Rattle.cnvm_session.specs.declared.answer.Answer.{Answer}
use Rattle.cnvm_session.specs.declared.mode.Mode.{Mode}
use Rattle.cnvm_session.specs.declared.mode.Mode.TheVariants.{Ready}
use Rattle.cnvm_session.specs.declared.program.Program.{Program}
use Rattle.cnvm_session.specs.Commands.{Commanded}
use Rattle.cnvm_session.specs.Outcomes.{Opens}
use Rattle.session_law.specs.State.{Pending, SourceState, created}
use Rattle.session_law.specs.Answers.{Powers, Answers}
use Rattle.session_law.specs.Opened.{opened}
use Rattle.session_law.specs.Holds.{Holds}
use Rattle.session_law.specs.History.{recovered_by, history_after}

-- the image that a command finds: what a power cut leaves, or else the view
abbrev pub found_by : Command → Device → Words
found_by (command.Power choice) d = view (powered choice d).cache
found_by c d = view d.cache

-- the session's mode, the device, the steps so far, what the source knows, and the transactions
-- that are done
pub record Moment : Type 0 where
  pub mode : Mode
  pub device : Device
  pub steps : ℕ
  pub state : SourceState
  pub history : List Pending

-- One step of the chain. `super` has the words of lines 0 and 1.
pub record SessionStep (program : Program) (super : Words) (c : Command) (x : Moment) (a : Answer)
    (y : Moment) : Type 0 where
  pub did : Commanded program c x.mode x.device a y.mode y.device x.steps y.steps
  pub meant : Answers program x.state (found_by c x.device) c a y.state
  pub holds : Holds program super y.mode y.device y.state
  pub history : y.history ≡ history_after program x.state (found_by c x.device) c a x.history

-- all commands, each with its answer
abbrev pub Ran : Program → Words → List Command → List Answer → Moment → Moment → Type 0
Ran program super [] [] x y = y ≡ x
Ran program super [] (a ∷ answers) x y = ⊥
Ran program super (c ∷ commands) [] x y = ⊥
Ran program super (c ∷ commands) (a ∷ answers) x y =
    (z : Moment) × SessionStep program super c x a z × Ran program super commands answers z y

-- A new pool: nothing is done on it.
abbrev pub fresh_moment : Program → Device → (steps : ℕ) → Moment
fresh_moment program d k = record {
  mode = Ready;
  device = d;
  steps = k;
  state = created program;
  history = [];
}

-- The pool of an image is opened and recovered. If the image owed a transaction, it may be done by
-- then.
pub record OpenStep (program : Program) (words : List ℤ) (d : Device) (k : ℕ) (a : Answer)
    (y : Moment) : Type 0 where
  pub did : Opens program words d a y.mode y.device k y.steps
  pub meant : Powers program (opened program (image_words words)) (image_words words) a y.state
  pub holds : Holds program (image_words words) y.mode y.device y.state
  pub history : y.history ≡ recovered_by (opened program (image_words words)) (image_words words) a
