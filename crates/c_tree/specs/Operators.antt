-- The binary operators with their levels, of which level 1 binds tightest, and the unary operators.
use Rattle.std.specs.Prelude.{ℕ, Option, Some, None, nat_eq, option_and_then, if◌then◌else◌}
use Rattle.c_tree.specs.declared.expr.BinaryOp.{BinaryOp}
use Rattle.c_tree.specs.declared.expr.BinaryOp.TheVariants as op
use Rattle.c_tree.specs.declared.expr.UnaryOp.{UnaryOp}
use Rattle.c_tree.specs.declared.expr.UnaryOp.TheVariants as unary
use Rattle.c_tree.specs.declared.stmt.UpdateOp.{UpdateOp}
use Rattle.c_tree.specs.declared.stmt.UpdateOp.TheVariants as update
use Rattle.c_tree.specs.declared.kind.Kind.{Kind}
use Rattle.c_tree.specs.declared.kind.Kind.TheVariants as kind

abbrev pub level_of : BinaryOp → ℕ
level_of op.Mul = 1
level_of op.Div = 1
level_of op.Rem = 1
level_of op.Add = 2
level_of op.Sub = 2
level_of op.ShiftLeft = 3
level_of op.ShiftRight = 3
level_of op.Less = 4
level_of op.LessEqual = 4
level_of op.Greater = 4
level_of op.GreaterEqual = 4
level_of op.Equal = 5
level_of op.NotEqual = 5
level_of op.And = 6
level_of op.Xor = 7
level_of op.Or = 8
level_of op.Both = 9
level_of op.Either = 10

abbrev pub op_of : Kind → Option BinaryOp
op_of (kind.Operator o) = Some o
op_of _ = None

-- the token's operator, if it is one of that level
abbrev pub op_at : ℕ → Kind → Option BinaryOp
op_at l k = option_and_then (λ o. if nat_eq (level_of o) l then Some o else None) (op_of k)

-- the unary operator that a token is, if it is one
abbrev pub sign_of : Kind → Option UnaryOp
sign_of (kind.Operator op.Sub) = Some unary.Negate
sign_of kind.Not = Some unary.Not
sign_of kind.Tilde = Some unary.Complement
sign_of _ = None

-- the binary operator of an assignment that updates its target
abbrev pub update_binary : UpdateOp → BinaryOp
update_binary update.Mul = op.Mul
update_binary update.Div = op.Div
update_binary update.Rem = op.Rem
update_binary update.Add = op.Add
update_binary update.Sub = op.Sub
update_binary update.ShiftLeft = op.ShiftLeft
update_binary update.ShiftRight = op.ShiftRight
update_binary update.And = op.And
update_binary update.Xor = op.Xor
update_binary update.Or = op.Or
