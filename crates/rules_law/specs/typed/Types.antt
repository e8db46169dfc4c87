-- The types of values, and which of them fit an operator or an assignment. A value is a number, a
-- pointer to the struct at a place among the structs, or null; there is no other type, and none
-- that fits everywhere.
use Rattle.std.specs.Prelude.{ℕ, ◌≡◌, ◌≤◌, ◌⊎◌, List, None, Some, true, slice_get}
use Rattle.c_tree.specs.declared.expr.IntType.{IntType}
use Rattle.c_tree.specs.declared.expr.IntType.TheVariants.{Signed, Unsigned}
use Rattle.c_tree.specs.declared.expr.UnaryOp.{UnaryOp}
use Rattle.c_tree.specs.declared.expr.UnaryOp.TheVariants as unary
use Rattle.c_tree.specs.declared.expr.BinaryOp.{BinaryOp}
use Rattle.c_tree.specs.declared.expr.BinaryOp.TheVariants as binary
use Rattle.c_tree.specs.StmtTree.{TypeTree}
use Rattle.c_tree.specs.StmtTree as stmt
use Rattle.c_tree.specs.ItemTree.{FieldTree, LengthTree}
use Rattle.c_types.specs.declared.value_type.ValueType.{ValueType}
use Rattle.c_types.specs.declared.value_type.ValueType.TheVariants as answered
use Rattle.c_types.specs.Tables.{Tables, StructTree, struct_named, field_named, words_at, is_length}
use Rattle.c_types.specs.Tables.{root_struct, pointed_limit}

pub data StaticType : Type 0 where
  Number : IntType → StaticType
  PointerTo : (place : ℕ) → StaticType
  NullPointer : StaticType

-- the same type as the check answers it
abbrev pub value_type : StaticType → ValueType
value_type (Number n) = answered.Int n
value_type (PointerTo i) = answered.Pointer i
value_type NullPointer = answered.Null

-- `struct NAME *`: a pointer to a struct that is there and isn't too large
pub record IsPointer (t : Tables) (name : List ℕ) (x : StaticType) : Type 0 where
  pub place : ℕ
  pub named : struct_named t name ≡ Some place
  pub small : words_at t place ≤ pointed_limit (root_struct t) place
  pub is : x ≡ PointerTo place

-- a type as it is written
abbrev pub IsWritten : Tables → TypeTree → StaticType → Type 0
IsWritten t (stmt.Int n) x = x ≡ Number n
IsWritten t (stmt.Pointer name) x = IsPointer t name.text x

-- the struct at place i has a field of that name, a value of that type
pub record HasValueField (t : Tables) (i : ℕ) (name : List ℕ) (x : StaticType) : Type 0 where
  pub owner : StructTree
  pub there : slice_get t.structs i ≡ Some owner
  pub field : FieldTree
  pub named : field_named owner name ≡ Some field
  pub single : field.len ≡ None
  pub typed : IsWritten t field.ty x

-- it has a field of that name, an array of elements of that type, whose length isn't refused
pub record HasArray (t : Tables) (i : ℕ) (name : List ℕ) (x : StaticType) : Type 0 where
  pub owner : StructTree
  pub there : slice_get t.structs i ≡ Some owner
  pub field : FieldTree
  pub named : field_named owner name ≡ Some field
  pub size : LengthTree
  pub many : field.len ≡ Some size
  pub within : is_length size.value ≡ true
  pub typed : IsWritten t field.ty x

-- a number of either type
abbrev pub IsNumber : StaticType → Type 0
IsNumber x = (n : IntType) × (x ≡ Number n)

-- `-`, `~` and a cast take a number, `!` takes all
abbrev pub Applies : UnaryOp → StaticType → Type 0
Applies unary.Not x = Unit {0}
Applies unary.Negate x = IsNumber x
Applies unary.Complement x = IsNumber x
Applies (unary.Cast n) x = IsNumber x

-- the type of the value
abbrev pub GivesUnary : UnaryOp → (operand value : StaticType) → Type 0
GivesUnary unary.Not y x = x ≡ Number Signed
GivesUnary unary.Negate y x = x ≡ y
GivesUnary unary.Complement y x = x ≡ y
GivesUnary (unary.Cast n) y x = x ≡ Number n

-- two numbers, two pointers to one struct, or null with a pointer or null
abbrev pub Compares : StaticType → StaticType → Type 0
Compares (Number n) y = IsNumber y
Compares (PointerTo i) y = (y ≡ PointerTo i) ⊎ (y ≡ NullPointer)
Compares NullPointer y = (y ≡ NullPointer) ⊎ ((i : ℕ) × (y ≡ PointerTo i))

abbrev pub AreNumbers : StaticType → StaticType → Type 0
AreNumbers x y = IsNumber x × IsNumber y

-- the common type of two numbers: `uint64_t` where one of them has it, else `int64_t`
abbrev pub HaveInCommon : (left right both : StaticType) → Type 0
HaveInCommon y z x =
    (((y ≡ Number Unsigned) ⊎ (z ≡ Number Unsigned)) × (x ≡ Number Unsigned))
    ⊎ ((y ≡ Number Signed) × (z ≡ Number Signed) × (x ≡ Number Signed))

-- `&&` and `||` take all, `==` and `!=` what compares, the others numbers
abbrev pub Joins : BinaryOp → StaticType → StaticType → Type 0
Joins binary.Both x y = Unit {0}
Joins binary.Either x y = Unit {0}
Joins binary.Equal x y = Compares x y
Joins binary.NotEqual x y = Compares x y
Joins binary.Mul x y = AreNumbers x y
Joins binary.Div x y = AreNumbers x y
Joins binary.Rem x y = AreNumbers x y
Joins binary.Add x y = AreNumbers x y
Joins binary.Sub x y = AreNumbers x y
Joins binary.ShiftLeft x y = AreNumbers x y
Joins binary.ShiftRight x y = AreNumbers x y
Joins binary.Less x y = AreNumbers x y
Joins binary.LessEqual x y = AreNumbers x y
Joins binary.Greater x y = AreNumbers x y
Joins binary.GreaterEqual x y = AreNumbers x y
Joins binary.And x y = AreNumbers x y
Joins binary.Xor x y = AreNumbers x y
Joins binary.Or x y = AreNumbers x y

-- the type of the value: that of the left side of a shift, `int64_t` of what is 0 or 1, and else
-- the common type of both sides
abbrev pub GivesBinary : BinaryOp → (left right value : StaticType) → Type 0
GivesBinary binary.ShiftLeft y z x = x ≡ y
GivesBinary binary.ShiftRight y z x = x ≡ y
GivesBinary binary.Mul y z x = HaveInCommon y z x
GivesBinary binary.Div y z x = HaveInCommon y z x
GivesBinary binary.Rem y z x = HaveInCommon y z x
GivesBinary binary.Add y z x = HaveInCommon y z x
GivesBinary binary.Sub y z x = HaveInCommon y z x
GivesBinary binary.And y z x = HaveInCommon y z x
GivesBinary binary.Xor y z x = HaveInCommon y z x
GivesBinary binary.Or y z x = HaveInCommon y z x
GivesBinary _ y z x = x ≡ Number Signed

-- a value is given to what has its type, a number to either type of numbers, and null to a pointer
abbrev pub AcceptsType : (target value : StaticType) → Type 0
AcceptsType x y =
    (x ≡ y) ⊎ (AreNumbers x y ⊎ ((i : ℕ) × (x ≡ PointerTo i) × (y ≡ NullPointer)))

-- the type of both sides of `?` together: the common type of numbers, else that of one side, to
-- which the other may be given
abbrev pub Unites : (left right both : StaticType) → Type 0
Unites (Number n) z x = HaveInCommon (Number n) z x × IsNumber z
Unites y z x = ((x ≡ y) × AcceptsType y z) ⊎ ((x ≡ z) × AcceptsType z y)
