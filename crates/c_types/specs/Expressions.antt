-- The types of expressions, and the rules that they break, as functions of the tree and the scopes.
use Rattle.std.specs.Prelude.{ℕ, ℤ, pos, negsuc, suc, ◌+◌, List, [], ◌∷◌, ◌++◌, length, Bool, true}
use Rattle.std.specs.Prelude.{false, not}
use Rattle.std.specs.Prelude.{◌&&◌, ◌||◌, nat_le, nat_eq, if◌then◌else◌, Option, None, Some}
use Rattle.std.specs.Prelude.{is_some, option_and_then, unwrap_or, slice_get}
use Rattle.std.specs.Option.{option_map_or}
use Rattle.c_tree.specs.declared.expr.BinaryOp.{BinaryOp}
use Rattle.c_tree.specs.declared.expr.IntType.{IntType}
use Rattle.c_tree.specs.declared.expr.IntType.TheVariants.{Signed, Unsigned}
use Rattle.c_tree.specs.ExprTree.{ExprTree, Arguments, Ident}
use Rattle.c_tree.specs.ExprTree as expr
use Rattle.c_tree.specs.ItemTree.{FunctionTree, FieldTree, ParameterTree}
use Rattle.c_types.specs.declared.value_type.ValueType.{ValueType}
use Rattle.c_types.specs.declared.value_type.ValueType.TheVariants.{Int, Pointer, Null, Any}
use Rattle.c_types.specs.declared.value_type.Kind.{Kind}
use Rattle.c_types.specs.declared.value_type.Kind.TheVariants.{Value, Array}
use Rattle.c_types.specs.declared.fault.LimitKind.TheVariants as limit
use Rattle.c_types.specs.declared.broken.Rule.TheVariants.{UnknownName, Mismatch, Arity, TooBig}
use Rattle.c_types.specs.declared.broken.Rule.TheVariants.{BadTx}
use Rattle.c_types.specs.declared.broken.Broken.{Broken}
use Rattle.c_types.specs.Broken.{broken_at, unless}
use Rattle.c_types.specs.Fits.{is_any, is_int, type_takes, comparable, common_type, joins_types}
use Rattle.c_types.specs.Fits.{applies, unary_type, binary_type, computes_with}
use Rattle.c_types.specs.Tables.{Tables, index_of, struct_named, function_named, field_named}
use Rattle.c_types.specs.Tables.{root_struct, is_length, words_at, pointed_limit, pointer_type}
use Rattle.c_types.specs.Tables.{declared_type}

-- the names that a scope declares, in order, and the type of each
pub record Scope : Type 0 where
  pub names : List (List ℕ)
  pub types : List ValueType

-- a name means its first declaration in the innermost scope that has it
abbrev pub type_in : List ℕ → Scope → Option ValueType
type_in name s = option_and_then (slice_get s.types) (index_of name s.names)

abbrev pub or_else : Option ValueType → Option ValueType → Option ValueType
or_else None other = other
or_else (Some ty) other = Some ty

-- the scopes, from the innermost out
abbrev pub variable_type : List ℕ → List Scope → Option ValueType
variable_type name [] = None
variable_type name (s ∷ ss) = or_else (type_in name s) (variable_type name ss)

abbrev pub variable_kind : List Scope → Ident → ValueType
variable_kind s name = unwrap_or (variable_type name.text s) Any

abbrev pub variable_broken : List Scope → Ident → List Broken
variable_broken s name = unless (is_some (variable_type name.text s)) name.place UnknownName

-- an array field is no value
abbrev pub type_of_kind : Kind → ValueType
type_of_kind (Value ty) = ty
type_of_kind (Array element place) = Any

abbrev pub unindexed : Kind → List Broken
unindexed (Value ty) = []
unindexed (Array element place) = broken_at place Mismatch

-- what a field denotes that is named at that place
abbrev pub field_kind : Tables → ℕ → FieldTree → Kind
field_kind t place f = let ty = declared_type t f.ty in
    option_map_or (λ l. if is_any ty || not (is_length l.value) then Value Any else Array ty place)
    f.len (Value ty)

-- a field of the struct at place i
abbrev pub member : Tables → ℕ → Ident → Option FieldTree
member t i name = option_and_then (λ s. field_named s name.text) (slice_get t.structs i)

abbrev pub member_kind : Tables → ℕ → Ident → Kind
member_kind t i name = option_map_or (field_kind t name.place) (member t i name) (Value Any)

abbrev pub member_broken : Tables → ℕ → Ident → List Broken
member_broken t i name = unless (is_some (member t i name)) name.place UnknownName

-- a field of the root; without a root declaration there is none
abbrev pub root_kind : Tables → Ident → Kind
root_kind t name = option_map_or (λ i. member_kind t i name) (root_struct t) (Value Any)

abbrev pub root_broken : Tables → Ident → List Broken
root_broken t name = option_map_or (λ i. member_broken t i name) (root_struct t)
    (unless (is_some (slice_get t.roots 0)) name.place UnknownName)

-- a field of the object that a pointer leads to
abbrev pub arrow_kind : Tables → ValueType → Ident → Kind
arrow_kind t (Pointer i) name = member_kind t i name
arrow_kind t (Int n) name = Value Any
arrow_kind t Null name = Value Any
arrow_kind t Any name = Value Any

abbrev pub arrow_broken : Tables → ValueType → ℕ → Ident → List Broken
arrow_broken t (Pointer i) place name = member_broken t i name
arrow_broken t (Int n) place name = broken_at place Mismatch
arrow_broken t Null place name = broken_at place Mismatch
arrow_broken t Any place name = []

-- an array field is indexed by an int
abbrev pub is_indexed : Kind → Bool
is_indexed (Array element place) = true
is_indexed (Value Any) = true
is_indexed (Value (Int n)) = false
is_indexed (Value Null) = false
is_indexed (Value (Pointer s)) = false

abbrev pub element_of : Kind → ValueType
element_of (Array element place) = element
element_of (Value ty) = Any

-- the type of a result if the rule is kept and no part was refused; else any
abbrev pub type_if : Bool → ValueType → ValueType
type_if good ty = if good then ty else Any

-- the type of `c ? a : b`, of the types of its parts: the condition may have any type
abbrev pub conditional_type : (c a b : ValueType) → ValueType
conditional_type c a b =
    type_if (comparable a b && (not (is_any c) && not (is_any a) && not (is_any b)))
    (common_type a b)

-- a type as it is written, in `struct NAME *` or `pm_new(struct NAME)`
abbrev pub pointer_broken : Tables → Ident → List Broken
pointer_broken t name = option_map_or
    (λ i. unless (nat_le (words_at t i) (pointed_limit (root_struct t) i)) name.place
    (TooBig limit.Pointer (words_at t i)))
    (struct_named t name.text) (broken_at name.place UnknownName)

-- the type of a function's result; the result of a void function is used nowhere
abbrev pub result_type : Tables → FunctionTree → ValueType
result_type t f = option_map_or (declared_type t) f.result_type Any

-- whether a call with n arguments is allowed; `wanted` says that its value is used
abbrev pub may_call : Bool → FunctionTree → ℕ → Bool
may_call wanted f n = (not wanted || is_some f.result_type) && nat_eq n (length f.parameters)
    && not f.tx

abbrev pub callee_broken : Bool → FunctionTree → ℕ → ℕ → List Broken
callee_broken wanted f n place = unless (not wanted || is_some f.result_type) place Mismatch
    ++ (unless (nat_eq n (length f.parameters)) place Arity ++ unless (not f.tx) place BadTx)

abbrev pub call_broken : Bool → Option FunctionTree → ℕ → ℕ → List Broken
call_broken wanted None n place = broken_at place UnknownName
call_broken wanted (Some f) n place = callee_broken wanted f n place

abbrev pub call_type : Tables → Bool → Option FunctionTree → ℕ → Bool → ValueType
call_type t wanted None n taken = Any
call_type t wanted (Some f) n taken = type_if (may_call wanted f n && taken) (result_type t f)

abbrev pub parameters_of : Option FunctionTree → List ParameterTree
parameters_of f = option_map_or (λ f. f.parameters) f []

-- the type of parameter i; a missing parameter takes any argument
abbrev pub parameter_type : Tables → List ParameterTree → ℕ → ValueType
parameter_type t ps i = option_map_or (λ p. declared_type t p.ty) (slice_get ps i) Any

abbrev pub argument_count : Arguments → ℕ
argument_count expr.None = 0
argument_count (expr.More first value rest) = suc (argument_count rest)

-- a number from 2^63 on, which as a word is below 0, is of the type `uint64_t`
abbrev pub number_type : ℤ → IntType
number_type (pos n) = Signed
number_type (negsuc n) = Unsigned

abbrev mutual
  -- what an expression denotes
  pub kind_of : Tables → List Scope → ExprTree → Kind
  kind_of t s (expr.Number n) = Value (Int (number_type n))
  kind_of t s expr.Null = Value Null
  kind_of t s (expr.Variable name) = Value (variable_kind s name)
  kind_of t s (expr.Call name all) = let f = function_named t name.text in
      Value (call_type t true f (argument_count all) (all_taken t s (parameters_of f) 0 all))
  kind_of t s (expr.Root name) = root_kind t name
  kind_of t s (expr.New place name) = Value (pointer_type t name.text)
  kind_of t s (expr.Arrow base place name) = arrow_kind t (type_of_kind (kind_of t s base)) name
  kind_of t s (expr.Index base place index) = let i = type_of_kind (kind_of t s index) in
      Value (type_if (is_indexed (kind_of t s base) && is_int i && not (is_any i))
      (element_of (kind_of t s base)))
  kind_of t s (expr.Unary op place a) = let x = type_of_kind (kind_of t s a) in
      Value (type_if (applies op x && not (is_any x)) (unary_type op x))
  kind_of t s (expr.Binary op place a b) = let x = type_of_kind (kind_of t s a) in
      let y = type_of_kind (kind_of t s b) in
      Value (type_if (joins_types op x y && not (is_any x) && not (is_any y)) (binary_type op x y))
  kind_of t s (expr.Conditional c place a b) =
      Value (conditional_type (type_of_kind (kind_of t s c)) (type_of_kind (kind_of t s a))
      (type_of_kind (kind_of t s b)))

  -- each argument from place i on has a type that its parameter takes
  pub all_taken : Tables → List Scope → List ParameterTree → ℕ → Arguments → Bool
  all_taken t s ps i expr.None = true
  all_taken t s ps i (expr.More first value rest) = let x = type_of_kind (kind_of t s value) in
      (type_takes (parameter_type t ps i) x && not (is_any x)) && all_taken t s ps (i + 1) rest

-- the type of an expression that is used as a value
abbrev pub type_of : Tables → List Scope → ExprTree → ValueType
type_of t s e = type_of_kind (kind_of t s e)

-- the ints that a binary operator computes with, of the types of its sides
abbrev pub sides_type : Tables → List Scope → BinaryOp → (left right : ExprTree) → IntType
sides_type t s op a b = computes_with op (type_of t s a) (type_of t s b)

-- the rules broken by an expression that is used as a value: its own, and that an array field must
-- be indexed
abbrev pub with_unindexed : List Broken → Kind → List Broken
with_unindexed broken kind = broken ++ unindexed kind

abbrev mutual
  -- the rules that an expression breaks, not yet counting a whole array field as a fault
  pub broken_in : Tables → List Scope → ExprTree → List Broken
  broken_in t s (expr.Number n) = []
  broken_in t s expr.Null = []
  broken_in t s (expr.Variable name) = variable_broken s name
  broken_in t s (expr.Call name all) = let f = function_named t name.text in
      call_broken true f (argument_count all) name.place
      ++ broken_in_all t s (parameters_of f) 0 all
  broken_in t s (expr.Root name) = root_broken t name
  broken_in t s (expr.New place name) = pointer_broken t name
  broken_in t s (expr.Arrow base place name) =
      with_unindexed (broken_in t s base) (kind_of t s base) ++ arrow_broken t (type_of t s base)
      place name
  broken_in t s (expr.Index base place index) =
      broken_in t s base ++ (with_unindexed (broken_in t s index) (kind_of t s index)
      ++ unless (is_indexed (kind_of t s base) && is_int (type_of t s index)) place Mismatch)
  broken_in t s (expr.Unary op place a) = with_unindexed (broken_in t s a) (kind_of t s a)
      ++ unless (applies op (type_of t s a)) place Mismatch
  broken_in t s (expr.Binary op place a b) = with_unindexed (broken_in t s a) (kind_of t s a)
      ++ (with_unindexed (broken_in t s b) (kind_of t s b)
      ++ unless (joins_types op (type_of t s a) (type_of t s b)) place Mismatch)
  broken_in t s (expr.Conditional c place a b) = with_unindexed (broken_in t s c) (kind_of t s c)
      ++ (with_unindexed (broken_in t s a) (kind_of t s a)
      ++ (with_unindexed (broken_in t s b) (kind_of t s b)
      ++ unless (comparable (type_of t s a) (type_of t s b)) place Mismatch))

  -- the arguments from place i on
  pub broken_in_all : Tables → List Scope → List ParameterTree → ℕ → Arguments → List Broken
  broken_in_all t s ps i expr.None = []
  broken_in_all t s ps i (expr.More first value rest) =
      with_unindexed (broken_in t s value) (kind_of t s value)
      ++ (unless (type_takes (parameter_type t ps i) (type_of t s value)) first Mismatch
      ++ broken_in_all t s ps (i + 1) rest)

abbrev pub value_broken : Tables → List Scope → ExprTree → List Broken
value_broken t s e = with_unindexed (broken_in t s e) (kind_of t s e)

-- a call; `wanted` says that its result is used, which it isn't in a statement
abbrev pub call_rules : Tables → List Scope → Bool → Ident → Arguments → List Broken
call_rules t s wanted name all = let f = function_named t name.text in
    call_broken wanted f (argument_count all) name.place
    ++ broken_in_all t s (parameters_of f) 0 all
