-- The commands read so far, followed by those of the rest.
use Rattle.std.proofs.Common.{◌≡◌, ℕ, ◌+◌, List, [], ◌∷◌, ◌++◌, Option, None, Some, Result, Ok, Err}
use Rattle.std.proofs.Common.{refl, option_to_list, ap, append_assoc, append-nil, sym}
use Rattle.cnvm_script.specs.declared.command.Command.{Command}
use Rattle.cnvm_script.specs.Commands.{joined_commands, line_meaning, commands_from}
use Rattle.cnvm_script.specs.Lines.{lines}

abbrev pub commands_after : List Command → Result (List Command) ℕ → Result (List Command) ℕ
commands_after read (Ok commands) = Ok (read ++ commands)
commands_after read (Err bad) = Err bad

pub after_nothing : (means : Result (List Command) ℕ) → commands_after [] means ≡ means
after_nothing (Ok commands) = refl
after_nothing (Err bad) = refl

pub after_line : (read : List Command) (n : ℕ) (line : Option Command)
    (means : Result (List Command) ℕ)
    → commands_after read (joined_commands n (Some line) means)
    ≡ commands_after (read ++ option_to_list line) means
after_line read n None (Ok commands) = simp append-nil
after_line read n None (Err bad) = refl
after_line read n (Some c) (Ok commands) = ap Ok (sym (append_assoc read (c ∷ []) commands))
after_line read n (Some c) (Err bad) = refl

-- one more line is read
pub after_step : (read : List Command) (n : ℕ) (text line rest : List ℕ) (found : Option Command)
    (added : List Command)
    → lines text ≡ line ∷ lines rest → line_meaning line ≡ Some found
    → added ≡ read ++ option_to_list found
    → commands_after added (commands_from (n + 1) (lines rest)) ≡ commands_after read
    (commands_from n (lines text))
after_step read n text line rest found added first means added_is =
    rw (first, means, added_is) (sym (after_line read n found (commands_from (n + 1) (lines rest))))
