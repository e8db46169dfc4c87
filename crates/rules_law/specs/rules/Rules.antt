-- The typing rules, a case for each row of their table: which part breaks which rule, at the token
-- of which place. Each rule has the number that docs/LANGUAGE.md gives it.
use Rattle.std.specs.Prelude.{ℕ, ◌≡◌, ◌≢◌, ◌<◌, List, [], Bool, true, false, None, Some}
use Rattle.std.specs.Prelude.{length, slice_get}
use Rattle.std.specs.Int.{w64, cast_unsigned}
use Rattle.c_tree.specs.ExprTree.{ExprTree, Arguments, Ident}
use Rattle.c_tree.specs.ExprTree as expr
use Rattle.c_tree.specs.StmtTree.{TypeTree, InitialTree, DeclarationTree}
use Rattle.c_tree.specs.StmtTree as stmt
use Rattle.c_tree.specs.ItemTree.{FieldTree, FunctionTree, LengthTree, ParameterTree}
use Rattle.c_tree.specs.declared.item.Marked.TheVariants as mark
use Rattle.c_tree.specs.declared.expr.BinaryOp.{BinaryOp}
use Rattle.c_tree.specs.declared.expr.BinaryOp.TheVariants as binary
use Rattle.c_tree.specs.declared.expr.UnaryOp.{UnaryOp}
use Rattle.c_tree.specs.declared.stmt.AssignOp.{AssignOp}
use Rattle.c_tree.specs.declared.stmt.StepOp.{StepOp}
use Rattle.c_types.specs.declared.fault.LimitKind.TheVariants as limit
use Rattle.c_tree.specs.declared.expr.IntType.{IntType}
use Rattle.c_types.specs.declared.broken.Rule.{Rule}
use Rattle.c_types.specs.declared.broken.Rule.TheVariants.{UnknownName, Twice, Mismatch}
use Rattle.c_types.specs.declared.broken.Rule.TheVariants.{NotAssignable, Arity, TooBig, NoRoot}
use Rattle.c_types.specs.declared.broken.Rule.TheVariants.{BadTx}
use Rattle.c_types.specs.Tables.{Tables, StructTree, RootTree, index_of, field_names}
use Rattle.c_types.specs.Tables.{function_names, function_named, struct_named, root_struct}
use Rattle.c_types.specs.Tables.{words_of_struct, words_at, pointed_limit, is_length}
use Rattle.c_types.specs.Expressions.{Scope, variable_type, member, argument_count}
use Rattle.c_types.specs.Statements.{is_declared, is_target}
use Rattle.rules_law.specs.typed.Types.{StaticType, Number, PointerTo, IsWritten, Applies, Joins}
use Rattle.rules_law.specs.typed.Types.{AcceptsType}
use Rattle.rules_law.specs.typed.Statements.{IsAssigned}
use Rattle.rules_law.specs.rules.Given.{MayBe, Types, GivesArray, EndsAt}
use Rattle.rules_law.specs.rules.Part.{Part}
use Rattle.rules_law.specs.rules.Part as part
use Rattle.rules_law.specs.rules.Stores.{Stores}
use Rattle.pool_map.specs.declared.limits.TheConstants.{OBJECT_WORDS, ROOT_WORDS}

-- Conditions on what has types as F and G say. A refused part may have any type, so none of these
-- holds for its sake alone.

-- the operator takes no type that F may be
abbrev pub NoOperand : UnaryOp → (F : StaticType → Type 0) → Type 0
NoOperand op F = (x : StaticType) → MayBe F x → Applies op x → ⊥

-- the operator joins no two types that F and G may be
abbrev pub NoOperands : BinaryOp → (F G : StaticType → Type 0) → Type 0
NoOperands op F G = (x y : StaticType) → MayBe F x → MayBe G y → Joins op x y → ⊥

-- a target of F takes no value of G, by `=` or by an operator that updates
abbrev pub NoAssignment : AssignOp → (F G : StaticType → Type 0) → Type 0
NoAssignment op F G = (x y : StaticType) → MayBe F x → MayBe G y → IsAssigned op x y → ⊥

-- what is declared as F takes no value of G
abbrev pub NoGift : (F G : StaticType → Type 0) → Type 0
NoGift F G = (x y : StaticType) → MayBe F x → MayBe G y → AcceptsType x y → ⊥

abbrev pub NoNumber : (F : StaticType → Type 0) → Type 0
NoNumber F = (n : IntType) → MayBe F (Number n) → ⊥

-- null isn't a pointer
abbrev pub NoPointer : (F : StaticType → Type 0) → Type 0
NoPointer F = (i : ℕ) → MayBe F (PointerTo i) → ⊥

pub data Breaks (t : Tables) : Part → Rule → (place : ℕ) → Type 0 where
  -- 1, unknown name: a variable, function, struct or field isn't there; the name
  no_variable : {s : List Scope} {name : Ident} → variable_type name.text s ≡ None
      → Breaks t (part.Expression s (expr.Variable name)) UnknownName name.place
  no_function : {used : Bool} {name : Ident} {all : Arguments} → function_named t name.text ≡ None
      → Breaks t (part.Called used name all) UnknownName name.place
  no_struct : {name : Ident} → struct_named t name.text ≡ None
      → Breaks t (part.PointerTo name) UnknownName name.place
  no_struct_of_root : {i : ℕ} {r : RootTree} → struct_named t r.name.text ≡ None
      → Breaks t (part.Root i r) UnknownName r.name.place
  no_field : {s : List Scope} {base : ExprTree} {place : ℕ} {name : Ident} (i : ℕ)
      → Types t s base (PointerTo i) → member t i name ≡ None
      → Breaks t (part.Expression s (expr.Arrow base place name)) UnknownName name.place
  no_field_of_root : {s : List Scope} {name : Ident} (i : ℕ)
      → root_struct t ≡ Some i → member t i name ≡ None
      → Breaks t (part.Expression s (expr.Root name)) UnknownName name.place
  -- `root.f` where nothing declares the root
  no_root_with_field : {s : List Scope} {name : Ident} → t.roots ≡ []
      → Breaks t (part.Expression s (expr.Root name)) UnknownName name.place
  -- 2, twice: a struct, a function, a field of one struct, a name in one scope, or the root is
  -- declared again, so its name means another; the second name, or `root`
  struct_again : {i : ℕ} {s : StructTree} → struct_named t s.name.text ≢ Some i
      → Breaks t (part.Struct i s) Twice s.name.place
  function_again : {i : ℕ} {f : FunctionTree} → index_of f.name.text (function_names t) ≢ Some i
      → Breaks t (part.Function i f) Twice f.name.place
  field_again : {s : StructTree} {j : ℕ} {f : FieldTree}
      → index_of f.name.text (field_names s) ≢ Some j
      → Breaks t (part.Field s j f) Twice f.name.place
  local_again : {s : List Scope} {d : DeclarationTree} → is_declared d.name.text s ≡ true
      → Breaks t (part.Local s d) Twice d.name.place
  parameter_again : {s : List Scope} {i : ℕ} {q : ParameterTree} → is_declared q.name.text s ≡ true
      → Breaks t (part.Parameter s i q) Twice q.name.place
  root_again : {i : ℕ} {r : RootTree} → 0 < i → Breaks t (part.Root i r) Twice r.place
  -- 3, mismatch: operands of arithmetic, bits, shifts or an order that aren't ints, or of `==` and
  -- `!=` that don't compare; the operator
  operands : {s : List Scope} {op : BinaryOp} {place : ℕ} {a b : ExprTree}
      → NoOperands op (Types t s a) (Types t s b)
      → Breaks t (part.Expression s (expr.Binary op place a b)) Mismatch place
  -- both sides of `?` that don't compare as those of `==` do; the `?`
  sides : {s : List Scope} {place : ℕ} {c a b : ExprTree}
      → NoOperands binary.Equal (Types t s a) (Types t s b)
      → Breaks t (part.Expression s (expr.Conditional c place a b)) Mismatch place
  -- an operand of unary `-` or `~` isn't an int; the operator
  operand : {s : List Scope} {op : UnaryOp} {place : ℕ} {a : ExprTree}
      → NoOperand op (Types t s a)
      → Breaks t (part.Expression s (expr.Unary op place a)) Mismatch place
  -- what comes before `->` isn't a pointer; `->`
  before_arrow : {s : List Scope} {base : ExprTree} {place : ℕ} {name : Ident}
      → NoPointer (Types t s base)
      → Breaks t (part.Expression s (expr.Arrow base place name)) Mismatch place
  -- what comes before `[` is no array field, or the index isn't an int; `[`
  before_index : {s : List Scope} {base index : ExprTree} {place : ℕ} (x : StaticType)
      → Types t s base x
      → Breaks t (part.Expression s (expr.Index base place index)) Mismatch place
  index : {s : List Scope} {base index : ExprTree} {place : ℕ} → NoNumber (Types t s index)
      → Breaks t (part.Expression s (expr.Index base place index)) Mismatch place
  -- an array field isn't indexed; the field's name
  not_indexed : {s : List Scope} {e : ExprTree} {place : ℕ} (x : StaticType)
      → GivesArray t s e x → EndsAt e place → Breaks t (part.Value s e) Mismatch place
  -- the result of a void function is used; the call's name
  void_used : {name : Ident} {all : Arguments} (f : FunctionTree)
      → function_named t name.text ≡ Some f → f.result_type ≡ None
      → Breaks t (part.Called true name all) Mismatch name.place
  -- a value is assigned to something of another type, where it isn't null for a pointer; an
  -- operator that updates on what isn't an int, or with what isn't one; the operator
  assigned : {s : List Scope} {target e : ExprTree} {op : AssignOp} {place : ℕ}
      → NoAssignment op (Types t s target) (Types t s e)
      → Breaks t (part.Simple s (stmt.Assign target op place e)) Mismatch place
  -- or it is given at first; `=`
  initial : {s : List Scope} {d : DeclarationTree} (i : InitialTree)
      → d.initial ≡ Some i → NoGift (IsWritten t d.ty) (Types t s i.value)
      → Breaks t (part.Local s d) Mismatch i.place
  -- `++` or `--` on what isn't an int; the operator
  stepped : {s : List Scope} {target : ExprTree} {op : StepOp} {place : ℕ}
      → NoNumber (Types t s target)
      → Breaks t (part.Simple s (stmt.Step target op place)) Mismatch place
  -- an argument isn't what could be assigned to the parameter; its first token
  passed : {s : List Scope} {name : Ident} {i first : ℕ} {e : ExprTree} (f : FunctionTree)
      (q : ParameterTree) → function_named t name.text ≡ Some f → slice_get f.parameters i ≡ Some q
      → NoGift (IsWritten t q.ty) (Types t s e)
      → Breaks t (part.Argument s name i first e) Mismatch first
  -- `return` has a value in a void function, none in another, or one that the result's type doesn't
  -- take; `return`
  value_in_void : {s : List Scope} {place : ℕ} {e : ExprTree}
      → Breaks t (part.Returned None s place (Some e)) Mismatch place
  no_value : {s : List Scope} {place : ℕ} {ty : TypeTree}
      → Breaks t (part.Returned (Some ty) s place None) Mismatch place
  returned : {s : List Scope} {place : ℕ} {ty : TypeTree} {e : ExprTree}
      → NoGift (IsWritten t ty) (Types t s e)
      → Breaks t (part.Returned (Some ty) s place (Some e)) Mismatch place
  -- `pm_free` of what isn't a pointer; `pm_free`
  freed : {s : List Scope} {place : ℕ} {e : ExprTree} → NoPointer (Types t s e)
      → Breaks t (part.Simple s (stmt.Free place e)) Mismatch place
  -- 4, not assignable: the target is no variable, no field of the root or after `->`, and no
  -- element of one; the operator
  no_target : {s : List Scope} {target e : ExprTree} {op : AssignOp} {place : ℕ}
      → is_target target ≡ false
      → Breaks t (part.Simple s (stmt.Assign target op place e)) NotAssignable place
  no_target_stepped : {s : List Scope} {target : ExprTree} {op : StepOp} {place : ℕ}
      → is_target target ≡ false
      → Breaks t (part.Simple s (stmt.Step target op place)) NotAssignable place
  -- 5, arity: a call has another number of arguments than the function has parameters; the name
  other_number : {used : Bool} {name : Ident} {all : Arguments} (f : FunctionTree)
      → function_named t name.text ≡ Some f → argument_count all ≢ length f.parameters
      → Breaks t (part.Called used name all) Arity name.place
  -- 6, too big, by its limits; array: a length isn't from 1 to the most elements; the number
  array_length : {s : StructTree} {j : ℕ} {f : FieldTree} (l : LengthTree)
      → f.len ≡ Some l → is_length l.value ≡ false
      → Breaks t (part.Field s j f) (TooBig limit.Array (cast_unsigned w64 l.value)) l.place
  -- struct: a struct that isn't the root's has more than the words of an object; its name
  struct_words : {i : ℕ} {s : StructTree} → root_struct t ≢ Some i
      → OBJECT_WORDS < words_of_struct s
      → Breaks t (part.Struct i s) (TooBig limit.Struct (words_of_struct s)) s.name.place
  -- root: the root's struct has more than the words of a root; its name
  root_words : {i : ℕ} {s : StructTree} → root_struct t ≡ Some i → ROOT_WORDS < words_of_struct s
      → Breaks t (part.Struct i s) (TooBig limit.Root (words_of_struct s)) s.name.place
  -- pointer: a pointer to, or `pm_new` of, a struct that is too large; the struct's name there
  pointed_words : {name : Ident} (i : ℕ) → struct_named t name.text ≡ Some i
      → pointed_limit (root_struct t) i < words_at t i
      → Breaks t (part.PointerTo name) (TooBig limit.Pointer (words_at t i)) name.place
  -- structs: there are over 255; the 256th name
  many_structs : {s : StructTree} → Breaks t (part.Struct 255 s) (TooBig limit.Structs 256)
      s.name.place
  -- functions: there are over 1,024; the 1,025th name
  many_functions : {f : FunctionTree}
      → Breaks t (part.Function 1024 f) (TooBig limit.Functions 1025) f.name.place
  -- parameters: a function has over 22; the 23rd name
  many_parameters : {s : List Scope} {q : ParameterTree}
      → Breaks t (part.Parameter s 22 q) (TooBig limit.Parameters 23) q.name.place
  -- 7, no root: nothing declares the root; the end of the text
  no_root : {end : ℕ} → t.roots ≡ [] → Breaks t (part.Whole end) NoRoot end
  -- 8, bad tx: a `tx` gives no int, or a parameter isn't one; the function's name
  tx_void : {i : ℕ} {f : FunctionTree} → f.tx ≡ true → f.result_type ≡ None
      → Breaks t (part.Function i f) BadTx f.name.place
  tx_result : {i : ℕ} {f : FunctionTree} (ty : TypeTree) → f.tx ≡ true
      → f.result_type ≡ Some ty → NoNumber (IsWritten t ty)
      → Breaks t (part.Function i f) BadTx f.name.place
  tx_parameter : {i : ℕ} {f : FunctionTree} (j : ℕ) (q : ParameterTree) → f.tx ≡ true
      → slice_get f.parameters j ≡ Some q → NoNumber (IsWritten t q.ty)
      → Breaks t (part.Function i f) BadTx f.name.place
  -- a `tx const` stores, by itself or by functions that it reaches by calls; the function's name
  const_stores : {i : ℕ} {f : FunctionTree} → f.mark ≡ mark.Const → Stores t f
      → Breaks t (part.Function i f) BadTx f.name.place
  -- a `tx` is called; the call's name
  tx_called : {used : Bool} {name : Ident} {all : Arguments} (f : FunctionTree)
      → function_named t name.text ≡ Some f → f.tx ≡ true
      → Breaks t (part.Called used name all) BadTx name.place
