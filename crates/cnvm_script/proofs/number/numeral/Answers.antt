use Rattle.std.proofs.Common.{arith, ◌<◌, ◌*◌, ◌+◌, ◌^◌}
use Rattle.cnvm_script.proofs.Digits.{digits-fit}
use Rattle.cnvm_script.proofs.number.numeral.Goals as goal

pub overflow_mul-value : goal.overflow_mul-value
overflow_mul-value c =
    let fit : c.loop-byte.value * 10 + 0 < 2 ^ 64 =
    digits-fit c.loop-byte.value c.loop-byte.byte-index 0 c.loop-byte.invariant.0 (omega arith)
    (omega arith) in
    omega arith

pub overflow_add-value : goal.overflow_add-value
overflow_add-value c =
    let fit : c.loop-byte.value * 10 + c.in-Some.digit < 2 ^ 64 =
    digits-fit c.loop-byte.value c.loop-byte.byte-index c.in-Some.digit c.loop-byte.invariant.0
    (omega arith) c.in-Some.ensures.small in
    omega arith
