-- The operators on words; a binary one computes with ints of one type. `-e` is 0 - e, and `~e` is
-- -1 ^ e, which differs from e in every bit. A comparison, `!`, `&&` and `||` give 0 or 1, and a
-- quotient or a remainder by 0 is no word.
use Rattle.std.specs.Prelude.{ℤ, pos, negsuc, ◌==◌, Option, Some, if◌then◌else◌}
use Rattle.c_tree.specs.declared.expr.IntType.{IntType}
use Rattle.c_tree.specs.declared.expr.IntType.TheVariants.{Signed, Unsigned}
use Rattle.c_tree.specs.declared.expr.UnaryOp.{UnaryOp}
use Rattle.c_tree.specs.declared.expr.UnaryOp.TheVariants.{Negate, Not, Complement, Cast}
use Rattle.c_tree.specs.declared.expr.BinaryOp.{BinaryOp}
use Rattle.c_tree.specs.declared.expr.BinaryOp.TheVariants as binary
use Rattle.nvm_base.specs.Operations as word
use Rattle.pool_map.specs.Checks.{unless_zero}

abbrev pub unary_of : UnaryOp → ℤ → ℤ
unary_of Negate a = word.sub (pos 0) a
unary_of Not a = word.eq a (pos 0)
unary_of Complement a = word.xor_of (negsuc 0) a
-- the word stays where an int is turned into the other type
unary_of (Cast n) a = a

-- `&&` and `||` are evaluated by `value_of`, since their right side may be left out; here they join
-- two words that were evaluated
abbrev pub binary_of : BinaryOp → IntType → ℤ → ℤ → Option ℤ
binary_of binary.Div Signed a b = unless_zero b (word.div a b)
binary_of binary.Div Unsigned a b = unless_zero b (word.udiv a b)
binary_of binary.Rem Signed a b = unless_zero b (word.rem a b)
binary_of binary.Rem Unsigned a b = unless_zero b (word.urem a b)
binary_of binary.Mul n a b = Some (word.mul a b)
binary_of binary.Add n a b = Some (word.add a b)
binary_of binary.Sub n a b = Some (word.sub a b)
binary_of binary.ShiftLeft n a b = Some (word.shl a b)
binary_of binary.ShiftRight Signed a b = Some (word.shr a b)
binary_of binary.ShiftRight Unsigned a b = Some (word.ushr a b)
binary_of binary.Less Signed a b = Some (word.less a b)
binary_of binary.Less Unsigned a b = Some (word.ult a b)
binary_of binary.LessEqual Signed a b = Some (word.le a b)
binary_of binary.LessEqual Unsigned a b = Some (word.ule a b)
binary_of binary.Greater Signed a b = Some (word.less b a)
binary_of binary.Greater Unsigned a b = Some (word.ult b a)
binary_of binary.GreaterEqual Signed a b = Some (word.le b a)
binary_of binary.GreaterEqual Unsigned a b = Some (word.ule b a)
binary_of binary.Equal n a b = Some (word.eq a b)
binary_of binary.NotEqual n a b = Some (word.ne a b)
binary_of binary.And n a b = Some (word.and_of a b)
binary_of binary.Xor n a b = Some (word.xor_of a b)
binary_of binary.Or n a b = Some (word.or_of a b)
binary_of binary.Both n a b = Some (if word.unsigned a == 0 then pos 0 else word.ne b (pos 0))
binary_of binary.Either n a b = Some (if word.unsigned a == 0 then word.ne b (pos 0) else pos 1)
