-- Which types fit where. The types of values are the ints, pointer to a struct, and null; the
-- struct is identified by its place among the structs. A node with a refused part has the type any,
-- which fits everywhere.
use Rattle.std.specs.Prelude.{ℕ, Bool, true, false, ◌&&◌, nat_eq, if◌then◌else◌}
use Rattle.c_tree.specs.declared.expr.IntType.{IntType}
use Rattle.c_tree.specs.declared.expr.IntType.TheVariants.{Signed, Unsigned}
use Rattle.c_tree.specs.declared.expr.UnaryOp.{UnaryOp}
use Rattle.c_tree.specs.declared.expr.UnaryOp.TheVariants as unary
use Rattle.c_tree.specs.declared.expr.BinaryOp.{BinaryOp}
use Rattle.c_tree.specs.declared.expr.BinaryOp.TheVariants as binary
use Rattle.c_tree.specs.declared.stmt.AssignOp.{AssignOp}
use Rattle.c_tree.specs.declared.stmt.AssignOp.TheVariants as assign
use Rattle.c_types.specs.declared.value_type.ValueType.{ValueType}
use Rattle.c_types.specs.declared.value_type.ValueType.TheVariants.{Int, Pointer, Null, Any}

abbrev pub is_any : ValueType → Bool
is_any (Int n) = false
is_any (Pointer s) = false
is_any Null = false
is_any Any = true

-- the type fits where an int is needed
abbrev pub is_int : ValueType → Bool
is_int (Int n) = true
is_int (Pointer s) = false
is_int Null = false
is_int Any = true

-- the type fits where a pointer is needed
abbrev pub is_pointer : ValueType → Bool
is_pointer (Int n) = false
is_pointer (Pointer s) = true
is_pointer Null = false
is_pointer Any = true

abbrev pub is_null : ValueType → Bool
is_null (Int n) = false
is_null (Pointer s) = false
is_null Null = true
is_null Any = true

-- the type fits where a pointer to the struct s, or null, is needed
abbrev pub is_pointer_to : ℕ → ValueType → Bool
is_pointer_to s (Int n) = false
is_pointer_to s (Pointer t) = nat_eq s t
is_pointer_to s Null = true
is_pointer_to s Any = true

-- a target takes a value of its own type, an int one of either type of ints, and a pointer null
abbrev pub type_takes : (target value : ValueType) → Bool
type_takes (Int n) value = is_int value
type_takes (Pointer s) value = is_pointer_to s value
type_takes Null value = is_null value
type_takes Any value = true

-- two values may be compared, or be both sides of `?`: both ints, pointers to the same struct, or
-- null with a pointer or null
abbrev pub comparable : ValueType → ValueType → Bool
comparable (Int n) b = is_int b
comparable (Pointer s) b = is_pointer_to s b
comparable Null (Int n) = false
comparable Null (Pointer s) = true
comparable Null Null = true
comparable Null Any = true
comparable Any b = true

-- the type of ints that a type is; `int64_t` if it is none
abbrev pub int_of : ValueType → IntType
int_of (Int n) = n
int_of _ = Signed

-- the common type of two ints: `uint64_t` where one of them is
abbrev pub common_int : IntType → IntType → IntType
common_int Signed n = n
common_int Unsigned n = Unsigned

-- the type of two such values together: the common type of ints, and that of the pointer where one
-- of them is null
abbrev pub common_type : ValueType → ValueType → ValueType
common_type Null b = b
common_type (Int n) b = Int (common_int n (int_of b))
common_type (Pointer s) b = Pointer s
common_type Any b = Any

-- the operands that a binary operator takes: `&&` and `||` take all, `==` and `!=` take what may be
-- compared, the others take ints
abbrev pub joins_types : BinaryOp → ValueType → ValueType → Bool
joins_types binary.Both a b = true
joins_types binary.Either a b = true
joins_types binary.Equal a b = comparable a b
joins_types binary.NotEqual a b = comparable a b
joins_types binary.Mul a b = is_int a && is_int b
joins_types binary.Div a b = is_int a && is_int b
joins_types binary.Rem a b = is_int a && is_int b
joins_types binary.Add a b = is_int a && is_int b
joins_types binary.Sub a b = is_int a && is_int b
joins_types binary.ShiftLeft a b = is_int a && is_int b
joins_types binary.ShiftRight a b = is_int a && is_int b
joins_types binary.Less a b = is_int a && is_int b
joins_types binary.LessEqual a b = is_int a && is_int b
joins_types binary.Greater a b = is_int a && is_int b
joins_types binary.GreaterEqual a b = is_int a && is_int b
joins_types binary.And a b = is_int a && is_int b
joins_types binary.Xor a b = is_int a && is_int b
joins_types binary.Or a b = is_int a && is_int b

-- the operand that a unary operator takes: `!` takes all, the others an int
abbrev pub applies : UnaryOp → ValueType → Bool
applies unary.Not a = true
applies unary.Negate a = is_int a
applies unary.Complement a = is_int a
applies (unary.Cast n) a = is_int a

-- the ints that an operator computes with: the left side of a shift, else the common type of both
abbrev pub computes_with : BinaryOp → ValueType → ValueType → IntType
computes_with binary.ShiftLeft a b = int_of a
computes_with binary.ShiftRight a b = int_of a
computes_with _ a b = common_int (int_of a) (int_of b)

-- whether an operator's value is 0 or 1, of the type `int64_t`
abbrev pub gives_truth : BinaryOp → Bool
gives_truth binary.Less = true
gives_truth binary.LessEqual = true
gives_truth binary.Greater = true
gives_truth binary.GreaterEqual = true
gives_truth binary.Equal = true
gives_truth binary.NotEqual = true
gives_truth binary.Both = true
gives_truth binary.Either = true
gives_truth _ = false

-- the type of a binary operator's value
abbrev pub binary_type : BinaryOp → ValueType → ValueType → ValueType
binary_type op a b = Int (if gives_truth op then Signed else computes_with op a b)

-- the type of a unary operator's value
abbrev pub unary_type : UnaryOp → ValueType → ValueType
unary_type unary.Not a = Int Signed
unary_type unary.Negate a = Int (int_of a)
unary_type unary.Complement a = Int (int_of a)
unary_type (unary.Cast n) a = Int n

-- `=` takes what the target takes; the operators that update need an int on both sides
abbrev pub assigns : AssignOp → (target value : ValueType) → Bool
assigns assign.Set target value = type_takes target value
assigns (assign.Update op) target value = is_int target && is_int value
