-- The moments after a command, and after the pool of an image was opened.
use Rattle.std.proofs.Common.{ℕ, ℤ, List}
use Rattle.pmem.specs.Device.{Device}
use Rattle.pool_layout.specs.Image.{image_words}
use Rattle.cnvm_script.specs.declared.command.Command.{Command}
use Rattle.cnvm_session.specs.declared.answer.Answer.{Answer}
use Rattle.cnvm_session.specs.declared.mode.Mode.{Mode}
use Rattle.cnvm_session.specs.declared.program.Program.{Program}
use Rattle.session_law.specs.State.{SourceState}
use Rattle.session_law.specs.Opened as session
use Rattle.session_law.specs.History.{recovered_by, history_after}
use Rattle.session_law.specs.Ran.{found_by, Moment}

abbrev pub next_to : Program → (c : Command) (x : Moment) (a : Answer) (n : Mode) (b : Device)
    (k1 : ℕ) → SourceState → Moment
next_to program c x a n b k1 t = record {
  mode = n;
  device = b;
  steps = k1;
  state = t;
  history = history_after program x.state (found_by c x.device) c a x.history;
}

abbrev pub opened_to : Program → List ℤ → Answer → Mode → Device → ℕ → SourceState → Moment
opened_to program list a m b k1 t = record {
  mode = m;
  device = b;
  steps = k1;
  state = t;
  history = recovered_by (session.opened program (image_words list)) (image_words list) a;
}
