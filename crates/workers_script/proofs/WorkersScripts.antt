-- The commands read so far, followed by those of the rest.
use Rattle.std.proofs.Common.{◌≡◌, ℕ, ◌+◌, List, [], ◌∷◌, ◌++◌, Option, None, Some, Result, Ok, Err}
use Rattle.std.proofs.Common.{refl, option_to_list, ap, append_assoc, append-nil, sym}
use Rattle.cnvm_script.specs.Lines.{lines}
use Rattle.workers_script.specs.declared.command.WorkersCommand.{WorkersCommand}
use Rattle.workers_script.specs.WorkersGrammar.{joined_workers, workers_line_meaning, workers_from}

abbrev pub workers_after : List WorkersCommand → Result (List WorkersCommand) ℕ
    → Result (List WorkersCommand) ℕ
workers_after read (Ok commands) = Ok (read ++ commands)
workers_after read (Err bad) = Err bad

pub after_nothing : (means : Result (List WorkersCommand) ℕ) → workers_after [] means ≡ means
after_nothing (Ok commands) = refl
after_nothing (Err bad) = refl

pub after_line : (read : List WorkersCommand) (n : ℕ) (line : Option WorkersCommand)
    (means : Result (List WorkersCommand) ℕ)
    → workers_after read (joined_workers n (Some line) means)
    ≡ workers_after (read ++ option_to_list line) means
after_line read n None (Ok commands) = simp append-nil
after_line read n None (Err bad) = refl
after_line read n (Some c) (Ok commands) = ap Ok (sym (append_assoc read (c ∷ []) commands))
after_line read n (Some c) (Err bad) = refl

-- one more line is read
pub after_step : (read : List WorkersCommand) (n : ℕ) (text line rest : List ℕ)
    (found : Option WorkersCommand) (added : List WorkersCommand)
    → lines text ≡ line ∷ lines rest → workers_line_meaning line ≡ Some found
    → added ≡ read ++ option_to_list found
    → workers_after added (workers_from (n + 1) (lines rest)) ≡ workers_after read
    (workers_from n (lines text))
after_step read n text line rest found added first means added_is =
    rw (first, means, added_is) (sym (after_line read n found (workers_from (n + 1) (lines rest))))
