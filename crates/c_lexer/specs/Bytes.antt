-- The classes of bytes in the rules. Letters are those of ASCII; 95 is `_`, 9 a tab, 10 LF, 13 CR,
-- 32 a space.
use Rattle.std.specs.Prelude.{ℕ, List, Bool, not, ◌||◌, ◌==◌}
use Rattle.std.specs.Char.{is_ascii_alphabetic, is_ascii_alphanumeric}
use Rattle.std.specs.List.{prefix_len}

-- a space or a tab: no other byte may come before a `#` on its line
abbrev pub is_indent : ℕ → Bool
is_indent b = b == 32 || b == 9

-- a blank: space, tab, CR or LF
abbrev pub is_blank : ℕ → Bool
is_blank b = is_indent b || (b == 13 || b == 10)

-- a byte that may begin a name: a letter or `_`
abbrev pub begins_name : ℕ → Bool
begins_name b = is_ascii_alphabetic b || b == 95

-- a byte that may continue a name or a number: a letter, a digit or `_`
abbrev pub is_word_byte : ℕ → Bool
is_word_byte b = is_ascii_alphanumeric b || b == 95

-- the length of the longest run of letters, digits and `_` at the front
abbrev pub run_len : List ℕ → ℕ
run_len left = prefix_len is_word_byte left

-- the number of bytes before the line's end, which is its LF or the end of the text
abbrev pub line_len : List ℕ → ℕ
line_len left = prefix_len (λ b. not (b == 10)) left
