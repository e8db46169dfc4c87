-- What a text means, once for all programs that are compiled from it and all of their runs.
use Rattle.std.specs.Prelude.{ℕ, ◌≡◌, List, Ok, flat_map}
use Rattle.pmem.specs.Device.{Device}
use Rattle.c_lexer.specs.TokenList.{Tokens}
use Rattle.c_tree.specs.Program.{tree_of}
use Rattle.cnvm_script.specs.declared.command.Command.{Command}
use Rattle.cnvm_script.specs.Commands.{script_meaning}
use Rattle.cnvm_session.specs.declared.answer.Answer.{Answer}
use Rattle.cnvm_session.specs.declared.mode.Mode.TheVariants.{Ready}
use Rattle.cnvm_session.specs.declared.program.Program.{Program}
use Rattle.cnvm_session.specs.AnswerText.{answer_text}
use Rattle.cnvm_session.specs.Pool.{sizes_of}
use Rattle.session_law.specs.Agrees.{Agrees}
use Rattle.session_law.specs.Holds.{Holds}
use Rattle.session_law.specs.Law.{super_words}
use Rattle.session_law.specs.Ran.{Moment, Ran, fresh_moment}
use Rattle.session_law.specs.State.{created}
use Rattle.compiled_law.specs.Law.{IsCompiledFrom}
use Rattle.user_law.specs.Run.{TextMeaning, source_with, IsUserRun}
use Rattle.user_law.specs.Seen.{source_in, HasCounts}

-- a program of the text, with the declarations and the lines of the first one, for a pool of any
-- sizes
pub record IsOfText (text : List ℕ) (first program : Program) : Type 0 where
  pub list : Tokens
  pub compiled : IsCompiledFrom text list program
  pub items : tree_of program.typed ≡ tree_of first.typed
  pub lines : program.typed.lines ≡ first.typed.lines
  pub last : program.typed.last ≡ first.typed.last

-- the meaning is that of each program of the text with these declarations
pub record IsMeaningOf (text : List ℕ) (first : Program) (meaning : TextMeaning text) :
    Type 0 where
  pub items : meaning.items ≡ tree_of first.typed
  pub source : (program : Program) → IsOfText text first program →
      source_in program (meaning.logs (sizes_of program)) ≡ source_with meaning (sizes_of program)
  pub counts : (program : Program) → IsOfText text first program →
      HasCounts program (meaning.logs (sizes_of program))

-- A compiled text has a meaning, with one count of log records.
abbrev pub TextLaw : Type 0
TextLaw = (text : List ℕ) (list : Tokens) (first : Program) → IsCompiledFrom text list first →
    (meaning : TextMeaning text) × IsMeaningOf text first meaning

-- By that meaning each session of the text on a new pool is a run as its user sees it.
abbrev pub UserRunLaw : Type 0
UserRunLaw =
    (text script : List ℕ) (first program : Program) (meaning : TextMeaning text)
    (commands : List Command) (answers : List Answer) (d : Device) (k : ℕ) (y : Moment) →
    IsMeaningOf text first meaning → IsOfText text first program → Agrees program →
    Holds program (super_words program) Ready d (created program) →
    script_meaning script ≡ Ok commands →
    Ran program (super_words program) commands answers (fresh_moment program d k) y →
    IsUserRun text script meaning (sizes_of program) d y.device (flat_map answer_text answers)
