-- The arguments of a script's commands are words.
use Rattle.std.proofs.Common.{ℕ, ◌+◌}
use Rattle.std.proofs.Common.{List, [], ◌∷◌, Option, Some, None, IfSome}
use Rattle.std.proofs.Common.{option_map, Result, Ok, Err, subst}
use Rattle.std.specs.Prelude.{bytes_eq, codes, option_and_then}
use Rattle.std.specs.List.{AllByRecursion}
use Rattle.cnvm_script.specs.declared.command.Command.{Command}
use Rattle.cnvm_script.specs.declared.command.Command.TheVariants as script
use Rattle.cnvm_script.specs.Commands.{each, event_of, call_command, power_of}
use Rattle.cnvm_script.specs.Commands.{is_remark}
use Rattle.cnvm_script.specs.Lines.{lines}
use Rattle.cnvm_script.specs.Lines as line_of
use Rattle.workers_script.specs.declared.command.WorkersCommand.{WorkersCommand}
use Rattle.workers_script.specs.declared.command.WorkersCommand.TheVariants as command
use Rattle.workers_script.specs.WorkersGrammar.{worker_number, start_with, start_of, turn_of}
use Rattle.workers_script.specs.WorkersGrammar.{power_with, worker_of, finish_of, workers_command}
use Rattle.workers_script.specs.WorkersGrammar.{workers_meaning, workers_line_meaning}
use Rattle.workers_script.specs.WorkersGrammar.{joined_workers, workers_from}
use Rattle.session_law.specs.Law as session
use Rattle.session_law.proofs.Scripts.{either, call_words}
use Rattle.workers_source_law.specs.Law.{HasWordArgs, ArgsLaw}

abbrev AreWordy : Option WorkersCommand → Type 0
AreWordy o = IfSome o HasWordArgs

start_words : (worker : ℕ) (c : Command) → session.IsWordCommand c
    → AreWordy (start_with worker c)
start_words worker (script.Call name args) words = words
start_words worker (script.Stop left) words = tt
start_words worker (script.Fault at) words = tt
start_words worker (script.Power choice) words = tt
start_words worker script.Show words = tt
start_words worker script.ShowDead words = tt
start_words worker script.Last words = tt

called_words : (worker : ℕ) (o : Option Command) → IfSome o session.IsWordCommand
    → AreWordy (option_and_then (start_with worker) o)
called_words worker None words = tt
called_words worker (Some c) words = start_words worker c words

worker_words : (call : List (List ℕ)) (o : Option ℕ)
    → AreWordy (option_and_then (λ (worker : ℕ). option_and_then (start_with worker)
    (call_command call)) o)
worker_words call None = tt
worker_words call (Some worker) = called_words worker (call_command call) (call_words call)

started_words : (words : List (List ℕ)) → AreWordy (start_of words)
started_words [] = tt
started_words (word ∷ call) = worker_words call (worker_number word)

-- a command that has no arguments to check
other_words : {A : Type 0} (f : A → WorkersCommand) (o : Option A) → ((x : A) → HasWordArgs (f x))
    → AreWordy (option_map f o)
other_words f None is = tt
other_words f (Some x) is = is x

turn_words : (words : List (List ℕ)) → AreWordy (turn_of words)
turn_words [] = tt
turn_words (word ∷ words) =
    other_words command.Turn (each worker_number (word ∷ words)) (λ n. tt)

finish_words : (words : List (List ℕ)) → AreWordy (finish_of words)
finish_words [] = tt
finish_words (word ∷ words) = tt

power_words : (c : Command) → AreWordy (power_with c)
power_words (script.Call name args) = tt
power_words (script.Stop left) = tt
power_words (script.Fault at) = tt
power_words (script.Power choice) = tt
power_words script.Show = tt
power_words script.ShowDead = tt
power_words script.Last = tt

powered_words : (o : Option Command) → AreWordy (option_and_then power_with o)
powered_words None = tt
powered_words (Some c) = power_words c

command_words : (word : List ℕ) (others : List (List ℕ)) → AreWordy (workers_command word others)
command_words word others =
    either HasWordArgs (bytes_eq word (codes "start")) (start_of others) _ (started_words others)
    (either HasWordArgs (bytes_eq word (codes "turn")) (turn_of others) _ (turn_words others)
    (either HasWordArgs (bytes_eq word (codes "finish")) (finish_of others) _
    (finish_words others)
    (either HasWordArgs (bytes_eq word (codes "stop")) (option_map command.Stop (event_of others))
    _ (other_words command.Stop (event_of others) (λ n. tt))
    (either HasWordArgs (bytes_eq word (codes "fault"))
    (option_map command.Fault (event_of others)) _
    (other_words command.Fault (event_of others) (λ n. tt))
    (either HasWordArgs (bytes_eq word (codes "power"))
    (option_and_then power_with (power_of others)) _ (powered_words (power_of others))
    (either HasWordArgs (bytes_eq word (codes "show"))
    (option_map command.Show (worker_of others)) _
    (other_words command.Show (worker_of others) (λ n. tt))
    (either HasWordArgs (bytes_eq word (codes "last"))
    (option_map command.Last (worker_of others)) None
    (other_words command.Last (worker_of others) (λ n. tt)) tt)))))))

-- a line, and the lines

abbrev AreAllSome : Option (Option WorkersCommand) → Type 0
AreAllSome found = IfSome found AreWordy

found_words : (o : Option WorkersCommand) → AreWordy o
    → AreAllSome (option_map (λ (c : WorkersCommand). Some c) o)
found_words None is = tt
found_words (Some c) is = is

meaning_words : (words : List (List ℕ)) → AreAllSome (workers_meaning words)
meaning_words [] = tt
meaning_words (word ∷ others) =
    either AreWordy (is_remark word) (Some None)
    (option_map (λ (c : WorkersCommand). Some c) (workers_command word others)) tt
    (found_words (workers_command word others) (command_words word others))

-- the condition on each command of a result, if it has commands
abbrev HasAll : Result (List WorkersCommand) ℕ → Type 0
HasAll (Ok commands) = AllByRecursion HasWordArgs commands
HasAll (Err bad) = Unit {0}

joined_words : (n : ℕ) (found : Option (Option WorkersCommand))
    (others : Result (List WorkersCommand) ℕ) → AreAllSome found → HasAll others
    → HasAll (joined_workers n found others)
joined_words n None others is all = tt
joined_words n (Some None) others is all = all
joined_words n (Some (Some c)) (Ok commands) is all = (is, all)
joined_words n (Some (Some c)) (Err bad) is all = tt

from_words : (n : ℕ) (ls : List (List ℕ)) → HasAll (workers_from n ls)
from_words n [] = tt
from_words n (line ∷ ls) = joined_words n (workers_line_meaning line) (workers_from (n + 1) ls)
    (meaning_words (line_of.words_of_line line)) (from_words (n + 1) ls)

pub word_commands : ArgsLaw
word_commands text commands is = subst HasAll is (from_words 1 (lines text))
