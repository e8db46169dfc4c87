-- What a call is to its user, by a meaning of the program's text: a run of a script on a new pool,
-- which saves nothing.
use Rattle.std.specs.Prelude.{ℕ, ◌≡◌, List, [], ◌∷◌, ◌++◌, Option, Ok, flat_map}
use Rattle.std.specs.Io.KnownBytes.{Appends}
use Rattle.nvm_base.specs.Parts.{AppendsPart}
use Rattle.pmem.specs.Device.{Device, blanked}
use Rattle.pmem.specs.Played.{PlaysAll}
use Rattle.pool_layout.specs.declared.limits.Sizes.{Sizes}
use Rattle.pool_layout.specs.Digest.{digest_of}
use Rattle.pool_layout.specs.Sizes.{pool_lines}
use Rattle.args_log.specs.Created.{creation_events}
use Rattle.c_types.specs.Tables.{tables_of}
use Rattle.c_types.specs.Shapes.{shapes_in}
use Rattle.cnvm_script.specs.declared.command.Command.{Command}
use Rattle.cnvm_script.specs.Commands.{script_meaning}
use Rattle.cnvm_session.specs.declared.answer.Answer.{Answer}
use Rattle.cnvm_session.specs.AnswerText.{answer_text}
use Rattle.user_law.specs.State.{first_state}
use Rattle.user_law.specs.Keeps.{UserKeeps}
use Rattle.user_law.specs.Ran.{UserMoment, UserRan}
use Rattle.user_law.specs.Run.{first_moment, TextMeaning, source_with, IsUserRun}
use Rattle.cnvm_compile.specs.declared.asked.Asked.{Asked}
use Rattle.cnvm_compile.specs.SizesAsked.{HasSizes, HasRoot}
use Rattle.cnvm_cli.specs.World.{Outside}

-- The pool of a text was made on the lines of a device: of the sizes that were asked for, with the
-- words of the root.
pub record IsPoolOf (asked : Asked) (text : List ℕ) (meaning : TextMeaning text) (sizes : Sizes)
    (before d : Device) : Type 0 where
  pub numbers : HasSizes asked.slots asked.records asked.ticks sizes
  pub root : HasRoot (shapes_in (tables_of meaning.items)) sizes
  pub made : PlaysAll (blanked (pool_lines sizes) before)
      (creation_events sizes (digest_of text)) d

-- The pool was made on the call's own device, and the script was run on it. What was written is
-- what was there before, and then the bytes of the run.
pub record IsUserCall (asked : Asked) (text script : List ℕ) (meaning : TextMeaning text)
    (before after : Outside) : Type 0 where
  pub sizes : Sizes
  pub made : Device
  pub pool : IsPoolOf asked text meaning sizes before.dev made
  pub written : List ℕ
  pub run : IsUserRun text script meaning sizes made after.dev written
  pub appended : Appends before.out after.out written

-- The same where the writing failed: some first commands of the script were run. The texts of their
-- answers are written, the last of them in part, perhaps not at all.
pub record IsUserPart (asked : Asked) (text script : List ℕ) (meaning : TextMeaning text)
    (before after : Outside) : Type 0 where
  pub sizes : Sizes
  pub made : Device
  pub pool : IsPoolOf asked text meaning sizes before.dev made
  pub holds : UserKeeps (source_with meaning sizes) made (first_state (source_with meaning sizes))
  pub first : List Command
  pub later : List Command
  pub spelled : script_meaning script ≡ Ok (first ++ later)
  pub answers : List Answer
  pub answer : Answer
  pub last : UserMoment
  pub ran : UserRan (source_with meaning sizes) first (answers ++ answer ∷ [])
      (first_moment (source_with meaning sizes) made) last
  pub ends : last.device ≡ after.dev
  pub told : Option (List ℕ)
  pub appended : Appends before.out told (flat_map answer_text answers)
  pub part : AppendsPart told after.out (answer_text answer)
