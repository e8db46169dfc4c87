-- The result of each binary operation on two words. It is total, like the machine's: a quotient and
-- a remainder by 0 are 0.
use Rattle.std.specs.Prelude.{ℤ, pos, ◌==◌, if◌then◌else◌}
use Rattle.nvm_base.specs.Operations as word
use Rattle.nvm_base.specs.declared.op.BinOp.{BinOp}
use Rattle.nvm_base.specs.declared.op.BinOp.TheVariants.{Add, Sub, Mul, Div, Rem, Shl, Shr, And, Or}
use Rattle.nvm_base.specs.declared.op.BinOp.TheVariants.{Xor, Lt, Le, Eq, Ne, Ult, Ule, Udiv}
use Rattle.nvm_base.specs.declared.op.BinOp.TheVariants.{Urem, Ushr}

-- the value, or 0 if the divisor is 0
abbrev pub zero_by_zero : (divisor : ℤ) → ℤ → ℤ
zero_by_zero divisor value = if word.unsigned divisor == 0 then pos 0 else value

abbrev pub applied : BinOp → ℤ → ℤ → ℤ
applied Add a b = word.add a b
applied Sub a b = word.sub a b
applied Mul a b = word.mul a b
applied Div a b = zero_by_zero b (word.div a b)
applied Rem a b = zero_by_zero b (word.rem a b)
applied Shl a b = word.shl a b
applied Shr a b = word.shr a b
applied And a b = word.and_of a b
applied Or a b = word.or_of a b
applied Xor a b = word.xor_of a b
applied Lt a b = word.less a b
applied Le a b = word.le a b
applied Eq a b = word.eq a b
applied Ne a b = word.ne a b
applied Ult a b = word.ult a b
applied Ule a b = word.ule a b
applied Udiv a b = zero_by_zero b (word.udiv a b)
applied Urem a b = zero_by_zero b (word.urem a b)
applied Ushr a b = word.ushr a b
