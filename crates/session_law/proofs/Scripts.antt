-- The arguments of a script's calls are words.
use Rattle.std.proofs.Common.{◌≡◌, ℕ, zero, suc, ◌+◌, ◌-◌, ◌^◌, ◌<◌, ◌≤◌, Bool, true, false}
use Rattle.std.proofs.Common.{if◌then◌else◌, ltb, leb, List, [], ◌∷◌, Option, Some, None, IfSome}
use Rattle.std.proofs.Common.{option_map, Result, Ok, Err, ℤ, pos, neg_ℤ, refl, subst, arith}
use Rattle.std.specs.Prelude.{bytes_eq, codes, drop, option_and_then}
use Rattle.std.specs.Int.{w64, cast_signed}
use Rattle.std.specs.List.{AllByRecursion}
use Rattle.std.specs.Str.Parse.{starts_with_minus}
use Rattle.std.proofs.lemmas.Bool.{ltb-true, ltb-false, leb-true}
use Rattle.std.proofs.lemmas.Int.{ints}
use Rattle.nvm_base.specs.Wrap.{IsWord}
use Rattle.cache_model.specs.declared.choice.Rest.{Rest}
use Rattle.cache_model.specs.declared.choice.Rest.TheVariants.{Old, New}
use Rattle.cache_model.specs.declared.choice.Pick.{Pick}
use Rattle.cnvm_script.specs.declared.command.Command.{Command}
use Rattle.cnvm_script.specs.declared.command.Command.TheVariants.{Call, Stop, Fault, Power}
use Rattle.cnvm_script.specs.declared.command.Command.TheVariants.{ShowDead, Last}
use Rattle.cnvm_script.specs.Lines.{lines}
use Rattle.cnvm_script.specs.Lines as line_of
use Rattle.cnvm_script.specs.Name.{is_name}
use Rattle.cnvm_script.specs.Number.{bounded_numeral, long_numeral, at_most, as_negative, argument}
use Rattle.cnvm_script.specs.Number.{pick}
use Rattle.cnvm_script.specs.Commands.{with_first, each, rising, call_command, event_of, choice_of}
use Rattle.cnvm_script.specs.Commands.{power_of, if_dead, show_of, alone, command, is_remark}
use Rattle.cnvm_script.specs.Commands.{meaning, line_meaning, joined_commands, commands_from}
use Rattle.session_law.specs.Words.{AreWords}
use Rattle.session_law.specs.Law.{IsWordCommand, ScriptLaw}

pub either : {A : Type 0} (P : A → Type 0) (b : Bool) (x y : Option A) → IfSome x P → IfSome y P
    → IfSome (if b then x else y) P
either P true x y first second = first
either P false x y first second = second

-- an argument

bits_word : (n : ℕ) → n < 2 ^ 64 → IsWord (cast_signed w64 n)
bits_word n small = by (ltb n (2 ^ 63)) refl
  where
    by : (t : Bool) → ltb n (2 ^ 63) ≡ t → IsWord (cast_signed w64 n)
    by true low = let less = ltb-true n (2 ^ 63) low in
        rw low (omega (arith, ints), omega (arith, ints))
    by false high = let more = ltb-false n (2 ^ 63) high in
        rw high (omega (arith, ints), omega (arith, ints))

limited_word : (n : ℕ) → IfSome (option_map (cast_signed w64) (at_most (2 ^ 64 - 1) n)) IsWord
limited_word n = go (leb n (2 ^ 64 - 1)) refl
  where
    go : (b : Bool) → leb n (2 ^ 64 - 1) ≡ b
        → IfSome (option_map (cast_signed w64) (if b then Some n else None)) IsWord
    go true is = let most : n ≤ 2 ^ 64 - 1 = leb-true n (2 ^ 64 - 1) is in
        bits_word n (omega (arith, most))
    go false is = tt

plain_word : (o : Option ℕ)
    → IfSome (option_map (cast_signed w64) (option_and_then (at_most (2 ^ 64 - 1)) o)) IsWord
plain_word None = tt
plain_word (Some n) = limited_word n

minus_word : (n : ℕ) → n ≤ 2 ^ 63 → IsWord (neg_ℤ (pos n))
minus_word zero less = (omega (arith, ints), omega (arith, ints))
minus_word (suc n) less = (omega (arith, ints), omega (arith, ints))

negative_word : (n : ℕ) → IfSome (as_negative n) IsWord
negative_word n = go (leb n (2 ^ 63)) refl
  where
    go : (b : Bool) → leb n (2 ^ 63) ≡ b → IfSome (if b then Some (neg_ℤ (pos n)) else None) IsWord
    go true is = minus_word n (leb-true n (2 ^ 63) is)
    go false is = tt

then_word : (f : ℕ → Option ℤ) (o : Option ℕ) → ((n : ℕ) → IfSome (f n) IsWord)
    → IfSome (option_and_then f o) IsWord
then_word f None each_is = tt
then_word f (Some n) each_is = each_is n

argument_word : (word : List ℕ) → IfSome (argument word) IsWord
argument_word word =
    either IsWord (starts_with_minus word)
    (option_and_then as_negative (long_numeral (drop 1 word)))
    (option_map (cast_signed w64) (long_numeral word))
    (then_word as_negative (long_numeral (drop 1 word)) negative_word)
    (plain_word (bounded_numeral 20 word))

first_words : (first : Option ℤ) (others : Option (List ℤ)) → IfSome first IsWord
    → IfSome others AreWords → IfSome (with_first first others) AreWords
first_words None others is are = tt
first_words (Some x) None is are = tt
first_words (Some x) (Some xs) is are = both
  where
    both : AreWords (x ∷ xs)
    both zero = is
    both (suc i) = are i

none_words : AreWords []
none_words i = (omega (arith, ints), omega (arith, ints))

each_words : (words : List (List ℕ)) → IfSome (each argument words) AreWords
each_words [] = none_words
each_words (word ∷ words) = first_words (argument word) (each argument words) (argument_word word)
    (each_words words)

-- a call

called_words : (name : List ℕ) (o : Option (List ℤ)) → IfSome o AreWords
    → IfSome (option_map (Call name) o) IsWordCommand
called_words name None are = tt
called_words name (Some args) are = are

pub call_words : (words : List (List ℕ)) → IfSome (call_command words) IsWordCommand
call_words [] = tt
call_words (name ∷ args) =
    either IsWordCommand (is_name name) (option_map (Call name) (each argument args)) None
    (called_words name (each argument args) (each_words args)) tt

-- a command that has no arguments to check
other_words : {A : Type 0} (f : A → Command) (o : Option A) → ((x : A) → IsWordCommand (f x))
    → IfSome (option_map f o) IsWordCommand
other_words f None is = tt
other_words f (Some x) is = is x

alone_words : (c : Command) (words : List (List ℕ)) → IsWordCommand c
    → IfSome (alone c words) IsWordCommand
alone_words c [] is = is
alone_words c (word ∷ words) is = tt

choice_words : (rest : Rest) (picks : List (List ℕ)) → IfSome (choice_of rest picks) IsWordCommand
choice_words rest picks = other_words (λ (ps : List Pick).
    Power (record { rest = rest; picks = ps })) (rising (each pick picks)) (λ ps. tt)

power_words : (words : List (List ℕ)) → IfSome (power_of words) IsWordCommand
power_words [] = tt
power_words (word ∷ picks) =
    either IsWordCommand (bytes_eq word (codes "old")) (choice_of Old picks)
    (if bytes_eq word (codes "new") then choice_of New picks else None) (choice_words Old picks)
    (either IsWordCommand (bytes_eq word (codes "new")) (choice_of New picks) None
    (choice_words New picks) tt)

dead_words : (word : List ℕ) → IfSome (if_dead word) IsWordCommand
dead_words word =
    either IsWordCommand (bytes_eq word (codes "dead")) (Some ShowDead) None tt tt

show_words : (words : List (List ℕ)) → IfSome (show_of words) IsWordCommand
show_words [] = tt
show_words (word ∷ []) = dead_words word
show_words (word ∷ other ∷ others) = tt

command_words : (word : List ℕ) (others : List (List ℕ))
    → IfSome (command word others) IsWordCommand
command_words word others =
    either IsWordCommand (bytes_eq word (codes "call")) (call_command others) _ (call_words others)
    (either IsWordCommand (bytes_eq word (codes "stop")) (option_map Stop (event_of others)) _
    (other_words Stop (event_of others) (λ n. tt))
    (either IsWordCommand (bytes_eq word (codes "fault")) (option_map Fault (event_of others)) _
    (other_words Fault (event_of others) (λ n. tt))
    (either IsWordCommand (bytes_eq word (codes "power")) (power_of others) _ (power_words others)
    (either IsWordCommand (bytes_eq word (codes "show")) (show_of others) _
    (show_words others)
    (either IsWordCommand (bytes_eq word (codes "last")) (alone Last others) None
    (alone_words Last others tt) tt)))))

-- a line, and the lines

abbrev AreAllSome : Option (Option Command) → Type 0
AreAllSome found = IfSome found (λ (o : Option Command). IfSome o IsWordCommand)

found_words : (o : Option Command) → IfSome o IsWordCommand
    → AreAllSome (option_map (λ (c : Command). Some c) o)
found_words None is = tt
found_words (Some c) is = is

meaning_words : (words : List (List ℕ)) → AreAllSome (meaning words)
meaning_words [] = tt
meaning_words (word ∷ others) =
    either (λ (o : Option Command). IfSome o IsWordCommand) (is_remark word) (Some None)
    (option_map (λ (c : Command). Some c) (command word others)) tt
    (found_words (command word others) (command_words word others))

pub line_words : (line : List ℕ)
    → IfSome (line_meaning line) (λ (o : Option Command). IfSome o IsWordCommand)
line_words line = meaning_words (line_of.words_of_line line)

abbrev AreAll : List Command → Type 0
AreAll commands = AllByRecursion IsWordCommand commands

-- the condition on each command of a result, if it has commands
abbrev HasAll : Result (List Command) ℕ → Type 0
HasAll (Ok commands) = AreAll commands
HasAll (Err bad) = Unit {0}

joined_words : (n : ℕ) (found : Option (Option Command)) (others : Result (List Command) ℕ)
    → AreAllSome found → HasAll others → HasAll (joined_commands n found others)
joined_words n None others is all = tt
joined_words n (Some None) others is all = all
joined_words n (Some (Some c)) (Ok commands) is all = (is, all)
joined_words n (Some (Some c)) (Err bad) is all = tt

from_words : (n : ℕ) (ls : List (List ℕ)) → HasAll (commands_from n ls)
from_words n [] = tt
from_words n (line ∷ ls) = joined_words n (line_meaning line) (commands_from (n + 1) ls)
    (line_words line) (from_words (n + 1) ls)

pub script_words : ScriptLaw
script_words text commands is = subst HasAll is (from_words 1 (lines text))
