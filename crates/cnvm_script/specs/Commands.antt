-- What a list of words means, and what a script means.
--     call NAME A..        a call with any number of arguments
--     stop K, fault K      the event at which the power goes off, or at which the device fails
--     power old P..        a power cut that keeps the oldest versions but for the picks, whose
-- lines rise strictly
--     power new P..        the same with the newest
--     show, last           nothing else stands on the line
--     show dead            the same
-- NAME is a name of a program text.
-- No word at all, or a first word that begins with `#`, is no command. Any other list of words is
-- bad. A script is the
-- list of its lines' commands in order, and is bad at its first bad line, counted from 1.
use Rattle.std.specs.Prelude.{ℕ, ◌+◌, Bool, true, ◌&&◌, List, [], ◌∷◌, Option, None, Some, Result}
use Rattle.std.specs.Prelude.{Ok, Err, ◌==◌, if◌then◌else◌, nat_lt, slice_index, codes, bytes_eq}
use Rattle.std.specs.Prelude.{option_map}
use Rattle.cache_model.specs.declared.choice.Pick.{Pick}
use Rattle.cache_model.specs.declared.choice.Rest.{Rest}
use Rattle.cache_model.specs.declared.choice.Rest.TheVariants.{Old, New}
use Rattle.cnvm_script.specs.declared.command.Command.{Command}
use Rattle.cnvm_script.specs.declared.command.Command.TheVariants.{Call, Stop, Fault, Power, Show}
use Rattle.cnvm_script.specs.declared.command.Command.TheVariants.{ShowDead, Last}
use Rattle.cnvm_script.specs.Lines.{lines, words_of_line}
use Rattle.cnvm_script.specs.Name.{is_name}
use Rattle.cnvm_script.specs.Number.{argument, event_number, pick}

-- the results of all elements, if each has one
abbrev pub with_first : {A : Type 0} → Option A → Option (List A) → Option (List A)
with_first None others = None
with_first (Some x) others = option_map (λ xs. x ∷ xs) others

abbrev pub each : {A B : Type 0} → (A → Option B) → List A → Option (List B)
each f [] = Some []
each f (x ∷ xs) = with_first (f x) (each f xs)

abbrev pub rise_from : ℕ → List Pick → Bool
rise_from line [] = true
rise_from line (p ∷ ps) = nat_lt line p.line && rise_from p.line ps

-- the lines of the picks rise strictly
abbrev pub rise : List Pick → Bool
rise [] = true
rise (p ∷ ps) = rise_from p.line ps

abbrev pub rising : Option (List Pick) → Option (List Pick)
rising None = None
rising (Some picks) = if rise picks then Some picks else None

abbrev pub call_command : List (List ℕ) → Option Command
call_command [] = None
call_command (name ∷ args) = if is_name name then option_map (Call name) (each argument args)
    else None

-- the single number of a command that takes one
abbrev pub event_of : List (List ℕ) → Option ℕ
event_of [] = None
event_of (word ∷ []) = event_number word
event_of (word ∷ other ∷ others) = None

abbrev pub choice_of : Rest → List (List ℕ) → Option Command
choice_of rest picks = option_map (λ ps. Power (record { rest = rest; picks = ps }))
    (rising (each pick picks))

abbrev pub power_of : List (List ℕ) → Option Command
power_of [] = None
power_of (word ∷ picks) =
    if bytes_eq word (codes "old") then choice_of Old picks
    else (if bytes_eq word (codes "new") then choice_of New picks else None)

abbrev pub if_dead : List ℕ → Option Command
if_dead word = if bytes_eq word (codes "dead") then Some ShowDead else None

-- `show` alone, or with the word `dead`
abbrev pub show_of : List (List ℕ) → Option Command
show_of [] = Some Show
show_of (word ∷ []) = if_dead word
show_of (word ∷ other ∷ others) = None

-- a command that stands alone on its line
abbrev pub alone : Command → List (List ℕ) → Option Command
alone command [] = Some command
alone command (word ∷ others) = None

abbrev pub command : List ℕ → List (List ℕ) → Option Command
command word others =
    if bytes_eq word (codes "call") then call_command others
    else (if bytes_eq word (codes "stop") then option_map Stop (event_of others)
    else (if bytes_eq word (codes "fault") then option_map Fault (event_of others)
    else (if bytes_eq word (codes "power") then power_of others
    else (if bytes_eq word (codes "show") then show_of others
    else (if bytes_eq word (codes "last") then alone Last others
    else None)))))

-- whether a word begins with `#`
abbrev pub is_remark : List ℕ → Bool
is_remark word = slice_index word 0 == 35

-- the command of a list of words, if they have one; None if they are bad
abbrev pub meaning : List (List ℕ) → Option (Option Command)
meaning [] = Some None
meaning (word ∷ others) = if is_remark word then Some None
    else option_map (λ c. Some c) (command word others)

abbrev pub line_meaning : List ℕ → Option (Option Command)
line_meaning line = meaning (words_of_line line)

-- the commands of the lines from line n on, or the number of the first bad line
abbrev pub joined_commands : (n : ℕ) → Option (Option Command) → Result (List Command) ℕ
    → Result (List Command) ℕ
joined_commands n None others = Err n
joined_commands n (Some None) others = others
joined_commands n (Some (Some c)) (Ok cs) = Ok (c ∷ cs)
joined_commands n (Some (Some c)) (Err bad) = Err bad

abbrev pub commands_from : (n : ℕ) → List (List ℕ) → Result (List Command) ℕ
commands_from n [] = Ok []
commands_from n (line ∷ lines) = joined_commands n (line_meaning line) (commands_from (n + 1) lines)

abbrev pub script_meaning : List ℕ → Result (List Command) ℕ
script_meaning text = commands_from 1 (lines text)
