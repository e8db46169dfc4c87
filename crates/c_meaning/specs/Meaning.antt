-- The meaning of a program, as a big-step semantics. From the locals, a pool and the ticks left, an
-- expression gives a value, a pool and ticks; a statement also gives locals, and how it ended.
-- Either may trap, which ends the whole evaluation, and nothing is said of the pool then.
--
-- A trap has the place of a token: the operator of a division, the `[` of a bad index, the `->` of
-- a bad pointer, the word of `pm_free`, `abort` or a loop out of ticks, or the name of a call that
-- is too deep or out of ticks.
--
-- Types are recomputed while a program runs: `struct_pointed_by` and `sides_type` call `type_of`.
-- So the typing definitions of c_types are part of what must be believed.
--
-- The outer recursion is on `room`, the number of functions that may still be opened, and the inner
-- one on the tree, to which the calls are passed as a function. A loop is a recursion on the ticks
-- left when it begins, since each of its turns takes one.
use Rattle.std.specs.Prelude.{ℕ, zero, suc, ℤ, pos, List, [], ◌∷◌}
use Rattle.std.specs.Prelude.{length, Option, None, Some, Result, Ok, Err, if◌then◌else◌}
use Rattle.std.specs.Option.{option_map_or}
use Rattle.c_tree.specs.ExprTree.{ExprTree, Arguments}
use Rattle.c_tree.specs.ExprTree as expr
use Rattle.c_tree.specs.StmtTree.{StmtTree, Statements, SimpleTree, FirstTree, DeclarationTree}
use Rattle.c_tree.specs.StmtTree as stmt
use Rattle.c_tree.specs.ItemTree.{FunctionTree}
use Rattle.c_tree.specs.Operators.{update_binary}
use Rattle.c_tree.specs.declared.expr.BinaryOp.{BinaryOp}
use Rattle.c_tree.specs.declared.expr.BinaryOp.TheVariants as binary
use Rattle.c_tree.specs.declared.stmt.AssignOp.{AssignOp}
use Rattle.c_tree.specs.declared.stmt.AssignOp.TheVariants as assign
use Rattle.c_tree.specs.declared.stmt.StepOp.{StepOp}
use Rattle.c_tree.specs.declared.stmt.StepOp.TheVariants as step
use Rattle.c_tree.specs.declared.expr.IntType.{IntType}
use Rattle.c_tree.specs.declared.expr.IntType.TheVariants.{Signed}
use Rattle.c_types.specs.Expressions.{sides_type}
use Rattle.c_types.specs.Tables.{Tables, function_named, declared_type}
use Rattle.pool_map.specs.declared.trap.TrapKind.{TrapKind}
use Rattle.pool_map.specs.declared.trap.TrapKind.TheVariants as trap
use Rattle.pool_map.specs.PoolMap.{PoolMap}
use Rattle.c_meaning.specs.Locals.{Local, value_named, assigned, oldest, local_declared, bound}
use Rattle.c_meaning.specs.Locals.{scopes_of}
use Rattle.c_meaning.specs.declared.trap_at.TrapAt.{TrapAt}
use Rattle.pool_map.specs.declared.word.PoolWord.{PoolWord}
use Rattle.pool_map.specs.Words.{read_word, write_word}
use Rattle.c_meaning.specs.Access.{target_field, word_named, new_object, free_object}
use Rattle.c_meaning.specs.Operators.{unary_of, binary_of}
use Rattle.pool_map.specs.Checks.{is_zero}

-- The place of a field's `->` or, of the root, of its name. Any other expression names no field,
-- and a checked tree has none here; its place is 0.
abbrev pub field_place : ExprTree → ℕ
field_place (expr.Arrow base place name) = place
field_place (expr.Root name) = name.place
field_place (expr.Number n) = 0
field_place expr.Null = 0
field_place (expr.Variable name) = 0
field_place (expr.Call name all) = 0
field_place (expr.New place name) = 0
field_place (expr.Index a place i) = 0
field_place (expr.Unary op place a) = 0
field_place (expr.Binary op place a b) = 0
field_place (expr.Conditional c place a b) = 0

-- where a target traps: an element by its index at the `[`, and else as its field
abbrev pub element_place : (place field : ℕ) → TrapKind → ℕ
element_place place field trap.Index = place
element_place place field trap.Null = field
element_place place field trap.Stale = field
element_place place field trap.Divide = field
element_place place field trap.Steps = field
element_place place field trap.Abort = field
element_place place field trap.LogFull = field
element_place place field trap.Depth = field

abbrev pub target_place : ExprTree → TrapKind → ℕ
target_place (expr.Index a place i) kind = element_place place (field_place a) kind
target_place (expr.Arrow base place name) kind = place
target_place (expr.Root name) kind = name.place
target_place (expr.Number n) kind = 0
target_place expr.Null kind = 0
target_place (expr.Variable name) kind = 0
target_place (expr.Call name all) kind = 0
target_place (expr.New place name) kind = 0
target_place (expr.Unary op place a) kind = 0
target_place (expr.Binary op place a b) kind = 0
target_place (expr.Conditional c place a b) kind = 0

abbrev pub placed_trap : TrapKind → (place : ℕ) → TrapAt
placed_trap kind place = record { kind = kind; place = place }

abbrev pub at_place : {A : Type 0} → (place : ℕ) → Result A TrapKind → Result A TrapAt
at_place place (Ok a) = Ok a
at_place place (Err kind) = Err (placed_trap kind place)

abbrev pub at_target : {A : Type 0} → ExprTree → Result A TrapKind → Result A TrapAt
at_target e (Ok a) = Ok a
at_target e (Err kind) = Err (placed_trap kind (target_place e kind))

-- the word that a target names
abbrev pub located : Tables → List Local → PoolMap → ExprTree → (pointer : ℤ) → Option ℤ
    → Result PoolWord TrapAt
located t ls p e pointer index = at_target e (word_named t ls p (target_field e) pointer index)

-- a value, the pool and the ticks left; or a trap
pub data Out (A : Type 0) : Type 0 where
  Got : A → PoolMap → ℕ → Out A
  Stops : TrapAt → Out A

-- how a statement ends: normally, by `break`, `continue` or `return`, or by a trap
pub data StmtEnd : Type 0 where
  Next : List Local → PoolMap → ℕ → StmtEnd
  Broke : List Local → PoolMap → ℕ → StmtEnd
  Again : List Local → PoolMap → ℕ → StmtEnd
  Gave : ℤ → PoolMap → ℕ → StmtEnd
  Traps : TrapAt → StmtEnd

-- the effect of a function call, from the place of the call and its arguments
abbrev pub Calls : Type 0
Calls = (place : ℕ) → FunctionTree → List ℤ → PoolMap → ℕ → Out ℤ

abbrev pub then_do : {A B : Type 0} → Out A → (A → PoolMap → ℕ → Out B) → Out B
then_do (Got a p k) go = go a p k
then_do (Stops trap) go = Stops trap

abbrev pub with_value : {A : Type 0} → Out A → (A → PoolMap → ℕ → StmtEnd) → StmtEnd
with_value (Got v p k) go = go v p k
with_value (Stops trap) go = Traps trap

abbrev pub then_next : StmtEnd → (List Local → PoolMap → ℕ → StmtEnd) → StmtEnd
then_next (Next ls p k) go = go ls p k
then_next (Broke ls p k) go = Broke ls p k
then_next (Again ls p k) go = Again ls p k
then_next (Gave v p k) go = Gave v p k
then_next (Traps trap) go = Traps trap

abbrev pub at_zero : {A : Type 0} → ℤ → A → A → A
at_zero v a b = if is_zero v then a else b

-- takes a tick
abbrev pub tick : {A : Type 0} → ℕ → A → (ℕ → A) → A
tick zero none go = none
tick (suc k) none go = go k

abbrev pub or_trap : {A : Type 0} → Option A → TrapAt → PoolMap → ℕ → Out A
or_trap None trap p k = Stops trap
or_trap (Some a) trap p k = Got a p k

abbrev pub loaded : Result PoolWord TrapAt → PoolMap → ℕ → Out ℤ
loaded (Ok w) p k = Got (read_word p w) p k
loaded (Err trap) p k = Stops trap

abbrev pub made : ℤ × PoolMap → ℕ → Out ℤ
made r k = Got r.0 r.1 k

-- both sides are evaluated, the left one first; a division by 0 traps
abbrev pub strict : BinaryOp → IntType → (place : ℕ) → Out ℤ → (PoolMap → ℕ → Out ℤ) → Out ℤ
strict op n place a b = then_do a
    (λ x p k. then_do (b p k)
    (λ y p k. or_trap (binary_of op n x y) (placed_trap trap.Divide place) p k))

-- `&&` and `||` evaluate their right side only if the left side doesn't decide
abbrev pub both : Out ℤ → (PoolMap → ℕ → Out ℤ) → Out ℤ
both a b = then_do a (λ x p k.
    at_zero x (Got (pos 0) p k) (then_do (b p k) (λ y p k. Got (at_zero y (pos 0) (pos 1)) p k)))

abbrev pub either : Out ℤ → (PoolMap → ℕ → Out ℤ) → Out ℤ
either a b = then_do a (λ x p k.
    at_zero x (then_do (b p k) (λ y p k. Got (at_zero y (pos 0) (pos 1)) p k)) (Got (pos 1) p k))

abbrev pub binary_means : BinaryOp → IntType → (place : ℕ) → Out ℤ → (PoolMap → ℕ → Out ℤ) → Out ℤ
binary_means binary.Both n place a b = both a b
binary_means binary.Either n place a b = either a b
binary_means binary.Mul n place a b = strict binary.Mul n place a b
binary_means binary.Div n place a b = strict binary.Div n place a b
binary_means binary.Rem n place a b = strict binary.Rem n place a b
binary_means binary.Add n place a b = strict binary.Add n place a b
binary_means binary.Sub n place a b = strict binary.Sub n place a b
binary_means binary.ShiftLeft n place a b = strict binary.ShiftLeft n place a b
binary_means binary.ShiftRight n place a b = strict binary.ShiftRight n place a b
binary_means binary.Less n place a b = strict binary.Less n place a b
binary_means binary.LessEqual n place a b = strict binary.LessEqual n place a b
binary_means binary.Greater n place a b = strict binary.Greater n place a b
binary_means binary.GreaterEqual n place a b = strict binary.GreaterEqual n place a b
binary_means binary.Equal n place a b = strict binary.Equal n place a b
binary_means binary.NotEqual n place a b = strict binary.NotEqual n place a b
binary_means binary.And n place a b = strict binary.And n place a b
binary_means binary.Xor n place a b = strict binary.Xor n place a b
binary_means binary.Or n place a b = strict binary.Or n place a b

-- A call takes a tick after its arguments and before its body. A call of a function that doesn't
-- exist gives 0.
abbrev pub called : Calls → (place : ℕ) → Option FunctionTree → (FunctionTree → Out (List ℤ))
    → PoolMap → ℕ → Out ℤ
called calls place None arguments p k = Got (pos 0) p k
called calls place (Some f) arguments p k = then_do (arguments f)
    (λ vs p k. tick k (Stops (placed_trap trap.Steps place)) (λ k. calls place f vs p k))

abbrev mutual
  pub value_of : Tables → Calls → ExprTree → List Local → PoolMap → ℕ → Out ℤ
  value_of t calls (expr.Number n) ls p k = Got n p k
  value_of t calls expr.Null ls p k = Got (pos 0) p k
  value_of t calls (expr.Variable name) ls p k = Got (value_named name.text ls) p k
  value_of t calls (expr.Call name all) ls p k =
      called calls name.place (function_named t name.text) (λ f. values_of t calls all ls p k)
      p k
  value_of t calls (expr.New place name) ls p k = made (new_object t p name.text) k
  value_of t calls (expr.Root name) ls p k =
      loaded (located t ls p (expr.Root name) (pos 0) None) p k
  value_of t calls (expr.Arrow base place name) ls p k =
      then_do (value_of t calls base ls p k)
      (λ b p k. loaded (located t ls p (expr.Arrow base place name) b None) p k)
  value_of t calls (expr.Index a place i) ls p k =
      then_do (pointer_of t calls a ls p k)
      (λ b p k. then_do (value_of t calls i ls p k)
      (λ j p k. loaded (located t ls p (expr.Index a place i) b (Some j)) p k))
  value_of t calls (expr.Unary op place a) ls p k =
      then_do (value_of t calls a ls p k) (λ x p k. Got (unary_of op x) p k)
  value_of t calls (expr.Binary op place a b) ls p k =
      binary_means op (sides_type t (scopes_of ls) op a b) place (value_of t calls a ls p k)
      (λ p k. value_of t calls b ls p k)
  -- one side is evaluated, and not the other
  value_of t calls (expr.Conditional c place a b) ls p k =
      then_do (value_of t calls c ls p k)
      (λ x p k. at_zero x (value_of t calls b ls p k) (value_of t calls a ls p k))

  -- the pointer that leads to a field; 0 for a field of the root
  pub pointer_of : Tables → Calls → ExprTree → List Local → PoolMap → ℕ → Out ℤ
  pointer_of t calls (expr.Arrow base place name) ls p k = value_of t calls base ls p k
  pointer_of t calls (expr.Root name) ls p k = Got (pos 0) p k
  pointer_of t calls (expr.Number n) ls p k = Got (pos 0) p k
  pointer_of t calls expr.Null ls p k = Got (pos 0) p k
  pointer_of t calls (expr.Variable name) ls p k = Got (pos 0) p k
  pointer_of t calls (expr.Call name all) ls p k = Got (pos 0) p k
  pointer_of t calls (expr.New place name) ls p k = Got (pos 0) p k
  pointer_of t calls (expr.Index a place i) ls p k = Got (pos 0) p k
  pointer_of t calls (expr.Unary op place a) ls p k = Got (pos 0) p k
  pointer_of t calls (expr.Binary op place a b) ls p k = Got (pos 0) p k
  pointer_of t calls (expr.Conditional c place a b) ls p k = Got (pos 0) p k

  -- arguments, from left to right
  pub values_of : Tables → Calls → Arguments → List Local → PoolMap → ℕ → Out (List ℤ)
  values_of t calls expr.None ls p k = Got [] p k
  values_of t calls (expr.More first e rest) ls p k =
      then_do (value_of t calls e ls p k)
      (λ v p k. then_do (values_of t calls rest ls p k) (λ vs p k. Got (v ∷ vs) p k))

-- the operands of a target: the pointer that leads to it, and its index
abbrev pub operands_of : Tables → Calls → ExprTree → List Local → PoolMap → ℕ → Out (ℤ × Option ℤ)
operands_of t calls (expr.Index a place i) ls p k =
    then_do (pointer_of t calls a ls p k)
    (λ b p k. then_do (value_of t calls i ls p k) (λ j p k. Got (b, Some j) p k))
operands_of t calls (expr.Arrow base place name) ls p k =
    then_do (value_of t calls base ls p k) (λ b p k. Got (b, None) p k)
operands_of t calls (expr.Root name) ls p k = Got (pos 0, None) p k
operands_of t calls (expr.Number n) ls p k = Got (pos 0, None) p k
operands_of t calls expr.Null ls p k = Got (pos 0, None) p k
operands_of t calls (expr.Variable name) ls p k = Got (pos 0, None) p k
operands_of t calls (expr.Call name all) ls p k = Got (pos 0, None) p k
operands_of t calls (expr.New place name) ls p k = Got (pos 0, None) p k
operands_of t calls (expr.Unary op place a) ls p k = Got (pos 0, None) p k
operands_of t calls (expr.Binary op place a b) ls p k = Got (pos 0, None) p k
operands_of t calls (expr.Conditional c place a b) ls p k = Got (pos 0, None) p k

-- the checks, and then the store
abbrev pub stored_end : Result PoolWord TrapAt → ℤ → List Local → PoolMap → ℕ → StmtEnd
stored_end (Ok w) v ls p k = Next ls (write_word p w v) k
stored_end (Err trap) v ls p k = Traps trap

-- a local gets the value; for any other target, base and index come first, then the value, the
-- checks and the store
abbrev pub assign_to : Tables → Calls → Option (List ℕ) → ExprTree → (PoolMap → ℕ → Out ℤ)
    → List Local → PoolMap → ℕ → StmtEnd
assign_to t calls (Some name) target value ls p k =
    with_value (value p k) (λ v p k. Next (assigned name v ls) p k)
assign_to t calls None target value ls p k = with_value (operands_of t calls target ls p k)
    (λ o p k. with_value (value p k)
    (λ v p k. stored_end (located t ls p target o.0 o.1) v ls p k))

-- base and index once, the checks and the load, the right side, and then the checks again and the
-- store
abbrev pub update : Tables → Calls → Option (List ℕ) → ExprTree → BinaryOp → IntType
    → (place : ℕ) → (PoolMap → ℕ → Out ℤ) → List Local → PoolMap → ℕ → StmtEnd
update t calls (Some name) target op n place right ls p k =
    with_value (right p k) (λ y p k.
    with_value
    (or_trap (binary_of op n (value_named name ls) y) (placed_trap trap.Divide place) p k)
    (λ v p k. Next (assigned name v ls) p k))
update t calls None target op n place right ls p k = with_value (operands_of t calls target ls p k)
    (λ o p k. with_value (loaded (located t ls p target o.0 o.1) p k)
    (λ x p k. with_value (right p k)
    (λ y p k. with_value (or_trap (binary_of op n x y) (placed_trap trap.Divide place) p k)
    (λ v p k. stored_end (located t ls p target o.0 o.1) v ls p k))))

-- the local that a target is, if it is one
abbrev pub target_local : ExprTree → Option (List ℕ)
target_local (expr.Variable name) = Some name.text
target_local (expr.Number n) = None
target_local expr.Null = None
target_local (expr.Call name all) = None
target_local (expr.Root name) = None
target_local (expr.New place name) = None
target_local (expr.Arrow base place name) = None
target_local (expr.Index a place i) = None
target_local (expr.Unary op place a) = None
target_local (expr.Binary op place a b) = None
target_local (expr.Conditional c place a b) = None

abbrev pub freed : Result PoolMap TrapAt → List Local → ℕ → StmtEnd
freed (Ok p) ls k = Next ls p k
freed (Err trap) ls k = Traps trap

abbrev pub assign_end : Tables → Calls → AssignOp → (place : ℕ) → ExprTree → ExprTree → List Local
    → PoolMap → ℕ → StmtEnd
assign_end t calls assign.Set place target e ls p k =
    assign_to t calls (target_local target) target (λ p k. value_of t calls e ls p k) ls p k
assign_end t calls (assign.Update op) place target e ls p k = update t calls (target_local target)
    target (update_binary op) (sides_type t (scopes_of ls) (update_binary op) target e) place
    (λ p k. value_of t calls e ls p k) ls p k

-- the sum and the difference are the same of both types of ints
abbrev pub steps : Tables → Calls → StepOp → (place : ℕ) → ExprTree → List Local → PoolMap
    → ℕ → StmtEnd
steps t calls step.Up place target ls p k = update t calls (target_local target) target binary.Add
    Signed place (λ p k. Got (pos 1) p k) ls p k
steps t calls step.Down place target ls p k = update t calls (target_local target) target binary.Sub
    Signed place (λ p k. Got (pos 1) p k) ls p k

abbrev pub end_of_simple : Tables → Calls → SimpleTree → List Local → PoolMap → ℕ → StmtEnd
end_of_simple t calls (stmt.Assign target op place e) ls p k =
    assign_end t calls op place target e ls p k
end_of_simple t calls (stmt.Step target op place) ls p k = steps t calls op place target ls p k
end_of_simple t calls (stmt.Call name all) ls p k =
    with_value (value_of t calls (expr.Call name all) ls p k) (λ v p k. Next ls p k)
end_of_simple t calls (stmt.Free place e) ls p k = with_value (value_of t calls e ls p k)
    (λ v p k. freed (at_place place (free_object t ls p e v)) ls k)
end_of_simple t calls (stmt.Abort place) ls p k = Traps (placed_trap trap.Abort place)

-- a local without an initial value becomes 0 each time its declaration is reached
abbrev pub declaration_end : Tables → Calls → DeclarationTree → List Local → PoolMap → ℕ → StmtEnd
declaration_end t calls d ls p k =
    with_value (option_map_or (λ i. value_of t calls i.value ls p k) d.initial (Got (pos 0) p k))
    (λ v p k. Next (local_declared d.name.text (declared_type t d.ty) v ls) p k)

abbrev pub end_of_first : Tables → Calls → Option FirstTree → List Local → PoolMap → ℕ → StmtEnd
end_of_first t calls None ls p k = Next ls p k
end_of_first t calls (Some (stmt.Declare d)) ls p k = declaration_end t calls d ls p k
end_of_first t calls (Some (stmt.Simply x)) ls p k = end_of_simple t calls x ls p k

abbrev pub end_of_third : Tables → Calls → Option SimpleTree → List Local → PoolMap → ℕ → StmtEnd
end_of_third t calls None ls p k = Next ls p k
end_of_third t calls (Some x) ls p k = end_of_simple t calls x ls p k

-- an absent condition holds
abbrev pub condition_of : Tables → Calls → Option ExprTree → List Local → PoolMap → ℕ → Out ℤ
condition_of t calls None ls p k = Got (pos 1) p k
condition_of t calls (Some e) ls p k = value_of t calls e ls p k

abbrev pub return_end : Tables → Calls → Option ExprTree → List Local → PoolMap → ℕ → StmtEnd
return_end t calls None ls p k = Gave (pos 0) p k
return_end t calls (Some e) ls p k = with_value (value_of t calls e ls p k) (λ v p k. Gave v p k)

-- the end of a scope: its locals are forgotten, and the n from before it are left
abbrev pub in_scope : ℕ → StmtEnd → StmtEnd
in_scope n (Next ls p k) = Next (oldest n ls) p k
in_scope n (Broke ls p k) = Broke (oldest n ls) p k
in_scope n (Again ls p k) = Again (oldest n ls) p k
in_scope n (Gave v p k) = Gave v p k
in_scope n (Traps trap) = Traps trap

-- what follows the body of a turn
abbrev pub after_turn : StmtEnd → (List Local → PoolMap → ℕ → StmtEnd) → StmtEnd
after_turn (Next ls p k) go = go ls p k
after_turn (Again ls p k) go = go ls p k
after_turn (Broke ls p k) go = Next ls p k
after_turn (Gave v p k) go = Gave v p k
after_turn (Traps trap) go = Traps trap

-- at most n turns of a loop whose word has this place: a tick, the condition, the body, and the
-- third part
abbrev pub turns : ℕ → (place : ℕ) → (List Local → PoolMap → ℕ → Out ℤ)
    → (List Local → PoolMap → ℕ → StmtEnd) → (List Local → PoolMap → ℕ → StmtEnd)
    → List Local → PoolMap → ℕ → StmtEnd
turns zero place test body third ls p k = Traps (placed_trap trap.Steps place)
turns (suc n) place test body third ls p k = tick k (Traps (placed_trap trap.Steps place))
    (λ k. with_value (test ls p k) (λ v p k. at_zero v (Next ls p k)
    (after_turn (body ls p k) (λ ls p k.
    then_next (third ls p k) (λ ls p k. turns n place test body third ls p k)))))

abbrev mutual
  pub end_of_stmt : Tables → Calls → StmtTree → List Local → PoolMap → ℕ → StmtEnd
  end_of_stmt t calls stmt.Empty ls p k = Next ls p k
  end_of_stmt t calls (stmt.Declares d) ls p k = declaration_end t calls d ls p k
  end_of_stmt t calls (stmt.Simple x) ls p k = end_of_simple t calls x ls p k
  end_of_stmt t calls (stmt.Block all) ls p k = in_scope (length ls) (ends_of t calls all ls p k)
  end_of_stmt t calls (stmt.If c a) ls p k =
      with_value (value_of t calls c ls p k)
      (λ v p k. at_zero v (Next ls p k) (in_scope (length ls) (end_of_stmt t calls a ls p k)))
  end_of_stmt t calls (stmt.IfElse c a b) ls p k =
      with_value (value_of t calls c ls p k)
      (λ v p k. at_zero v (in_scope (length ls) (end_of_stmt t calls b ls p k))
      (in_scope (length ls) (end_of_stmt t calls a ls p k)))
  end_of_stmt t calls (stmt.While place c a) ls p k =
      turns k place (λ ls p k. value_of t calls c ls p k) (λ ls p k.
      in_scope (length ls) (end_of_stmt t calls a ls p k)) (λ ls p k. Next ls p k) ls p k
  -- the first round of a `do` takes no tick
  end_of_stmt t calls (stmt.Do place a c) ls p k =
      after_turn (in_scope (length ls) (end_of_stmt t calls a ls p k)) (λ ls p k. turns k place
      (λ ls p k. value_of t calls c ls p k) (λ ls p k.
      in_scope (length ls) (end_of_stmt t calls a ls p k)) (λ ls p k. Next ls p k) ls p k)
  -- a `for` is a scope around its parts
  end_of_stmt t calls (stmt.For place first c third a) ls p k =
      in_scope (length ls) (then_next (end_of_first t calls first ls p k) (λ ls p k. turns k place
      (λ ls p k. condition_of t calls c ls p k) (λ ls p k.
      in_scope (length ls) (end_of_stmt t calls a ls p k)) (λ ls p k.
      end_of_third t calls third ls p k) ls p k))
  end_of_stmt t calls stmt.Break ls p k = Broke ls p k
  end_of_stmt t calls stmt.Continue ls p k = Again ls p k
  end_of_stmt t calls (stmt.Return place e) ls p k = return_end t calls e ls p k

  pub ends_of : Tables → Calls → Statements → List Local → PoolMap → ℕ → StmtEnd
  ends_of t calls stmt.Nothing ls p k = Next ls p k
  ends_of t calls (stmt.Then x xs) ls p k =
      then_next (end_of_stmt t calls x ls p k) (λ ls p k. ends_of t calls xs ls p k)

-- a body that does not return a value gives 0
abbrev pub given : StmtEnd → Out ℤ
given (Next ls p k) = Got (pos 0) p k
given (Broke ls p k) = Got (pos 0) p k
given (Again ls p k) = Got (pos 0) p k
given (Gave v p k) = Got v p k
given (Traps trap) = Stops trap

abbrev pub function_value : Tables → Calls → FunctionTree → List ℤ → PoolMap → ℕ → Out ℤ
function_value t calls f vs p k = given (ends_of t calls f.body (bound t f.parameters vs []) p k)

-- a call when `room` more functions may be opened
abbrev pub calls_of : Tables → (room : ℕ) → Calls
calls_of t zero place f vs p k = Stops (placed_trap trap.Depth place)
calls_of t (suc room) place f vs p k = function_value t (calls_of t room) f vs p k
