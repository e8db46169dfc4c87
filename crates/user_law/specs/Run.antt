-- What a run of a program's text and a script's text on a new pool means.
use Rattle.std.specs.Prelude.{ℕ, ◌≡◌, List, [], length, Ok, flat_map}
use Rattle.pmem.specs.Device.{Device}
use Rattle.pool_layout.specs.declared.limits.Sizes.{Sizes}
use Rattle.c_tree.specs.ItemTree.{ItemTree}
use Rattle.c_types.specs.Tables.{tables_of}
use Rattle.cnvm_script.specs.declared.command.Command.{Command}
use Rattle.cnvm_script.specs.Commands.{script_meaning}
use Rattle.cnvm_session.specs.declared.answer.Answer.{Answer}
use Rattle.cnvm_session.specs.AnswerText.{answer_text}
use Rattle.user_law.specs.Source.{HasItems, Source, Logs}
use Rattle.user_law.specs.State.{first_state}
use Rattle.user_law.specs.Keeps.{UserKeeps}
use Rattle.user_law.specs.Ran.{UserMoment, UserRan}

-- a program of these items, whose text has so many tokens, with a pool of these sizes
abbrev pub source_of : List ItemTree → (tokens : ℕ) → Sizes → Logs → Source
source_of items tokens sizes logs =
    record { tables = tables_of items; sizes = sizes; tokens = tokens; logged = logs }

-- a new pool on a device: nothing is finished
abbrev pub first_moment : Source → Device → UserMoment
first_moment p d = record { device = d; state = first_state p; history = [] }

-- The items of the text; and how many log records each call takes, on a pool of any sizes.
pub record TextMeaning (text : List ℕ) : Type 0 where
  pub items : List ItemTree
  pub has : HasItems text items
  pub logs : Sizes → Logs

abbrev pub source_with : {text : List ℕ} → TextMeaning text → Sizes → Source
source_with meaning sizes =
    source_of meaning.items (length meaning.has.list.tokens) sizes (meaning.logs sizes)

-- A run on a new pool of these sizes: the device holds the empty pool; then each command of the
-- script is answered; and the answers' texts are written. The device after it is b.
pub record IsUserRun (text script : List ℕ) (meaning : TextMeaning text) (sizes : Sizes)
    (d b : Device) (written : List ℕ) : Type 0 where
  pub holds : UserKeeps (source_with meaning sizes) d (first_state (source_with meaning sizes))
  pub commands : List Command
  pub spelled : script_meaning script ≡ Ok commands
  pub answers : List Answer
  pub last : UserMoment
  pub ran : UserRan (source_with meaning sizes) commands answers
      (first_moment (source_with meaning sizes) d) last
  pub ends : last.device ≡ b
  pub written_is : written ≡ flat_map answer_text answers
