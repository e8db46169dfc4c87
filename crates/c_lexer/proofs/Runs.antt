-- Runs of letters, digits and `_`, and the lengths of pieces that begin with a known byte.
use Rattle.std.proofs.Common.{◌≡◌, ℕ, ◌<◌, ◌≤◌, List, [], ◌∷◌, length, take, get_or, Bool, true}
use Rattle.std.proofs.Common.{false, ◌||◌, ◌==◌, inl, inr, arith, refl}
use Rattle.std.proofs.lemmas.Bool.{cases_lt}
use Rattle.std.proofs.lemmas.Bool.Decides.{nat_tests}
use Rattle.std.proofs.lemmas.List.{get_or-take, get_or_past}
use Rattle.std.proofs.lemmas.List.Folds.{length-prefix_len}
use Rattle.std.proofs.lemmas.List.Sums.{prefix_len_passes}
use Rattle.std.proofs.lemmas.Str.{IsUtf8-from_ascii}
use Rattle.std.specs.Char.{is_ascii_digit}
use Rattle.std.specs.Int.{is_in_range}
use Rattle.std.specs.Str.{IsUtf8}
use Rattle.c_lexer.specs.Bytes.{is_blank, begins_name, is_word_byte, run_len, line_len}

word_byte_small : (b : ℕ) → is_word_byte b ≡ true → b < 128
word_byte_small b word = grind (arith, nat_tests)

run_ascii : (left : List ℕ) (i : ℕ) → get_or (take (run_len left) left) i 0 < 128
run_ascii left i = elim (cases_lt i (run_len left)) [
  | inl inside ↦ rw (get_or-take (run_len left) left i 0 inside)
      (word_byte_small _ (prefix_len_passes is_word_byte left i 0 inside))
  | inr outside ↦
      let past : length (take (run_len left) left) ≤ i = rw length-prefix_len outside in
      rw (get_or_past (take (run_len left) left) i 0 past) (omega arith)
]

pub run_utf8 : (left : List ℕ) → IsUtf8 (take (run_len left) left)
run_utf8 left = IsUtf8-from_ascii _ (run_ascii left)

-- a digit, or a byte that begins a name, is a byte of a run
or_last : (digit upper lower under : Bool) → ((upper || lower) || under) ≡ true
    → (((digit || upper) || lower) || under) ≡ true
or_last true upper lower under h = refl
or_last false upper lower under h = h

pub digit_in_word : (b : ℕ) → is_ascii_digit b ≡ true → is_word_byte b ≡ true
digit_in_word b digit = rw digit refl

pub begin_in_word : (b : ℕ) → begins_name b ≡ true → is_word_byte b ≡ true
begin_in_word b begins = or_last (is_in_range 48 57 b) (is_in_range 65 90 b) (is_in_range 97 122 b)
    (b == 95) begins

pub run_some : (left : List ℕ) → is_word_byte (get_or left 0 0) ≡ true → 0 < run_len left
run_some [] word = cc
run_some (b ∷ bs) word = rw word (omega arith)

pub line_some : (left : List ℕ) → 0 < length left → is_blank (get_or left 0 0) ≡ false
    → 0 < line_len left
line_some [] some dark = absurd (omega arith)
line_some (b ∷ bs) some dark = grind (arith, nat_tests)

pub ruleset next_steps = (digit_in_word, begin_in_word, line_some)
