-- How a binary operator is lowered.
use Rattle.nvm_base.specs.declared.op.BinOp.{BinOp}
use Rattle.nvm_base.specs.declared.op.BinOp.TheVariants as op
use Rattle.c_tree.specs.declared.expr.IntType.{IntType}
use Rattle.c_tree.specs.declared.expr.IntType.TheVariants.{Signed, Unsigned}
use Rattle.c_tree.specs.declared.expr.BinaryOp.{BinaryOp}
use Rattle.c_tree.specs.declared.expr.BinaryOp.TheVariants as binary
use Rattle.lower.specs.declared.form.Form.{Form}
use Rattle.lower.specs.declared.form.Form.TheVariants.{Both, Either, Direct, Exchanged}

-- the operation of ints of `uint64_t` in place of that of `int64_t`
abbrev pub unsigned_operation : BinOp → BinOp
unsigned_operation op.Div = op.Udiv
unsigned_operation op.Rem = op.Urem
unsigned_operation op.Shr = op.Ushr
unsigned_operation op.Lt = op.Ult
unsigned_operation op.Le = op.Ule
unsigned_operation o = o

abbrev pub operation_of : IntType → BinOp → BinOp
operation_of Signed o = o
operation_of Unsigned o = unsigned_operation o

abbrev pub typed_form : IntType → Form → Form
typed_form n Both = Both
typed_form n Either = Either
typed_form n (Direct o) = Direct (operation_of n o)
typed_form n (Exchanged o) = Exchanged (operation_of n o)

-- how an operator of `int64_t` is lowered: `&&` and `||` are branches, and `a > b` is `b < a`
abbrev pub form_of : BinaryOp → Form
form_of binary.Mul = Direct op.Mul
form_of binary.Div = Direct op.Div
form_of binary.Rem = Direct op.Rem
form_of binary.Add = Direct op.Add
form_of binary.Sub = Direct op.Sub
form_of binary.ShiftLeft = Direct op.Shl
form_of binary.ShiftRight = Direct op.Shr
form_of binary.Less = Direct op.Lt
form_of binary.LessEqual = Direct op.Le
form_of binary.Greater = Exchanged op.Lt
form_of binary.GreaterEqual = Exchanged op.Le
form_of binary.Equal = Direct op.Eq
form_of binary.NotEqual = Direct op.Ne
form_of binary.And = Direct op.And
form_of binary.Xor = Direct op.Xor
form_of binary.Or = Direct op.Or
form_of binary.Both = Both
form_of binary.Either = Either
