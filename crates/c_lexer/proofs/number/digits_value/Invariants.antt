-- The digits left, after the value so far, give the value of the whole; and the value so far isn't
-- too large for a number.
use Rattle.std.proofs.Common.{◌≡◌, ◌≤◌, drop}
use Rattle.c_lexer.specs.Numbers.{digits_after}
use Rattle.c_lexer.proofs.number.digits_value.Given as goal

abbrev pub invariant-loop-byte : goal.invariant-loop-byte
invariant-loop-byte l = record {
  small : l.value ≤ l.most;
  leads : digits_after l.base l.most l.value (drop l.byte-index l.digits)
      ≡ digits_after l.base l.most 0 l.digits;
}
