-- What a message of a script says.
use Rattle.std.specs.Prelude.{ℕ, ◌+◌, ◌-◌, ◌<◌, ◌≡◌, ◌==◌, List, [], ◌++◌, length, Bool, true, not}
use Rattle.std.specs.Prelude.{◌&&◌, ◌||◌, Option, None, Some, Result, Ok, Err, slice_index, codes}
use Rattle.std.specs.Prelude.{slice_index_or}
use Rattle.cnvm_script.specs.Lines.{lines}
use Rattle.plain_notes.specs.Head.{file_head, head_text}
use Rattle.cnvm_script.specs.declared.read.TheConstants.{SCRIPT_BYTES}

-- a blank or a tab, or a carriage return
abbrev pub is_between_words : ℕ → Bool
is_between_words b = (b == 32) || ((b == 9) || (b == 13))

-- whether a word of the line begins after `at` bytes, or the line ends there
abbrev pub begins_word : (line : List ℕ) → (at : ℕ) → Bool
begins_word line at =
    (at == length line) || (not (is_between_words (slice_index line at))
    && ((at == 0) || is_between_words (slice_index line (at - 1))))

-- the line of that number, counted from 1
abbrev pub numbered_line : (text : List ℕ) → (number : ℕ) → List ℕ
numbered_line text number = slice_index_or (lines text) (number - 1) []

-- A message of a line of this number: it begins with the path, with the number and with the column
-- of one of the line's words, or of its end.
pub record TellsLine (path line : List ℕ) (number : ℕ) (message : List ℕ) : Type 0 where
  pub at : ℕ
  pub word : begins_word line at ≡ true
  pub what : List ℕ
  pub rest : List ℕ
  pub begins : message
      ≡ head_text path (record { line = number; column = at + 1 }) what ++ rest

abbrev pub long_script : List ℕ
long_script = codes "the script has more than 1048576 bytes"

-- The message of a script that is too long has the path alone; that of another one that is refused
-- has the first bad line; one that is read has no message.
pub data TellsScript {A : Type 0} (path text : List ℕ) (means : Result A ℕ)
    : Option (List ℕ) → Type 0 where
  Long : (message : List ℕ) → SCRIPT_BYTES < length text → message ≡ file_head path long_script
      → TellsScript path text means (Some message)
  AtLine : (message : List ℕ) (number : ℕ) → means ≡ Err number
      → TellsLine path (numbered_line text number) number message
      → TellsScript path text means (Some message)
  Nothing : (commands : A) → means ≡ Ok commands → TellsScript path text means None
