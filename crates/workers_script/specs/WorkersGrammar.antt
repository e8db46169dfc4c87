-- A script of workers has one command on each line, a list of words:
--     start I NAME A..     an optional list of arguments
--     turn I..             at least one number
--     finish               nothing else stands on the line
--     stop K, fault K      as in a script
--     power old P..        as in a script, and `power new P..` too
--     show I, last I
-- I is the number of a worker, of 1 or 2 digits. Lines, words, names, arguments, the numbers of
-- events and picks are those of a script, and so are the lines without a command. Any other list of
-- words is bad. A script is the list of its lines' commands in order, and is bad at its first bad
-- line, counted from 1.
use Rattle.std.specs.Prelude.{ℕ, ◌+◌, ◌^◌, ◌≡◌, nat_lt, List, [], ◌∷◌, Option, None, Some, Result}
use Rattle.std.specs.Prelude.{Ok, Err, if◌then◌else◌, bytes_eq, codes, option_map, option_and_then}
use Rattle.cnvm_script.specs.declared.command.Command.{Command}
use Rattle.cnvm_script.specs.declared.command.Command.TheVariants as script
use Rattle.cnvm_script.specs.declared.fault.ScriptFault.{ScriptFault}
use Rattle.cnvm_script.specs.declared.fault.ScriptFault.TheVariants as fault
use Rattle.cnvm_script.specs.Commands.{each, event_of, call_command, power_of, is_remark}
use Rattle.cnvm_script.specs.Lines.{lines, words_of_line}
use Rattle.cnvm_script.specs.Number.{bounded_numeral}
use Rattle.workers_script.specs.declared.command.WorkersCommand.{WorkersCommand}
use Rattle.workers_script.specs.declared.command.WorkersCommand.TheVariants.{Start, Turn, Finish}
use Rattle.workers_script.specs.declared.command.WorkersCommand.TheVariants.{Stop, Fault, Power}
use Rattle.workers_script.specs.declared.command.WorkersCommand.TheVariants.{Show, Last}

-- a number of 32 bits, as each of 2 digits is
abbrev pub as_worker : ℕ → Option ℕ
as_worker n = if nat_lt n (2 ^ 32) then Some n else None

abbrev pub worker_number : List ℕ → Option ℕ
worker_number word = option_and_then as_worker (bounded_numeral 2 word)

-- a worker begins what a call calls
abbrev pub start_with : ℕ → Command → Option WorkersCommand
start_with worker (script.Call name args) = Some (Start worker name args)
start_with worker (script.Stop left) = None
start_with worker (script.Fault at) = None
start_with worker (script.Power choice) = None
start_with worker script.Show = None
start_with worker script.ShowDead = None
start_with worker script.Last = None

abbrev pub start_of : List (List ℕ) → Option WorkersCommand
start_of [] = None
start_of (word ∷ call) =
    option_and_then (λ worker. option_and_then (start_with worker) (call_command call))
    (worker_number word)

abbrev pub turn_of : List (List ℕ) → Option WorkersCommand
turn_of [] = None
turn_of (word ∷ words) = option_map Turn (each worker_number (word ∷ words))

abbrev pub power_with : Command → Option WorkersCommand
power_with (script.Power choice) = Some (Power choice)
power_with (script.Call name args) = None
power_with (script.Stop left) = None
power_with (script.Fault at) = None
power_with script.Show = None
power_with script.ShowDead = None
power_with script.Last = None

-- the single number of a worker
abbrev pub worker_of : List (List ℕ) → Option ℕ
worker_of [] = None
worker_of (word ∷ []) = worker_number word
worker_of (word ∷ other ∷ others) = None

abbrev pub finish_of : List (List ℕ) → Option WorkersCommand
finish_of [] = Some Finish
finish_of (word ∷ words) = None

abbrev pub workers_command : List ℕ → List (List ℕ) → Option WorkersCommand
workers_command word others =
    if bytes_eq word (codes "start") then start_of others
    else (if bytes_eq word (codes "turn") then turn_of others
    else (if bytes_eq word (codes "finish") then finish_of others
    else (if bytes_eq word (codes "stop") then option_map Stop (event_of others)
    else (if bytes_eq word (codes "fault") then option_map Fault (event_of others)
    else (if bytes_eq word (codes "power") then option_and_then power_with (power_of others)
    else (if bytes_eq word (codes "show") then option_map Show (worker_of others)
    else (if bytes_eq word (codes "last") then option_map Last (worker_of others)
    else None)))))))

-- the command of a list of words, if they have one; None if they are bad
abbrev pub workers_meaning : List (List ℕ) → Option (Option WorkersCommand)
workers_meaning [] = Some None
workers_meaning (word ∷ others) = if is_remark word then Some None
    else option_map (λ c. Some c) (workers_command word others)

abbrev pub workers_line_meaning : List ℕ → Option (Option WorkersCommand)
workers_line_meaning line = workers_meaning (words_of_line line)

-- the commands of the lines from line n on, or the number of the first bad line
abbrev pub joined_workers : (n : ℕ) → Option (Option WorkersCommand)
    → Result (List WorkersCommand) ℕ
    → Result (List WorkersCommand) ℕ
joined_workers n None others = Err n
joined_workers n (Some None) others = others
joined_workers n (Some (Some c)) (Ok cs) = Ok (c ∷ cs)
joined_workers n (Some (Some c)) (Err bad) = Err bad

abbrev pub workers_from : (n : ℕ) → List (List ℕ) → Result (List WorkersCommand) ℕ
workers_from n [] = Ok []
workers_from n (line ∷ lines) =
    joined_workers n (workers_line_meaning line) (workers_from (n + 1) lines)

abbrev pub workers_script_meaning : List ℕ → Result (List WorkersCommand) ℕ
workers_script_meaning text = workers_from 1 (lines text)

-- A reader answers the commands or the first bad line; or want of memory, of which nothing is
-- promised.
abbrev pub GivesWorkers : Result (List WorkersCommand) ScriptFault → Result (List WorkersCommand) ℕ
    → Type 0
GivesWorkers (Ok commands) means = means ≡ Ok commands
GivesWorkers (Err (fault.BadLine line)) means = means ≡ Err line
GivesWorkers (Err fault.NoMemory) means = Unit {0}
