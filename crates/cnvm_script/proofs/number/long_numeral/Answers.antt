use Rattle.std.proofs.Common.{arith}
use Rattle.cnvm_script.proofs.Digits.{too_long}
use Rattle.cnvm_script.proofs.number.long_numeral.Goals as goal

pub returns-in_default-with_digit : goal.returns-in_default-with_digit
returns-in_default-with_digit c =
    too_long c.loop-byte.value c.loop-byte.byte-index c.in-Some.digit c.args.word.now
    (omega arith) c.in-Some.ensures.value
    c.in_default-with_digit.ensures.value
    c.loop-byte.invariant.2
