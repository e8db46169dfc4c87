-- The accesses of an evaluation to the words of the pool, in their order. They stand beside the
-- meaning and change nothing in it: each is told from the states that the meaning goes through. An
-- evaluation that traps, or runs out of ticks, has those before its trap.
--
-- An access is the read or the write of a field, or one of the stores of `pm_new` and `pm_free`.
-- The headers that a check or the search for a free slot reads count as none.
use Rattle.std.specs.Prelude.{ℕ, zero, suc, ℤ, pos, List, [], ◌∷◌, ◌++◌, length, Option, None, Some}
use Rattle.std.specs.Prelude.{Result, Ok, Err, option_map}
use Rattle.std.specs.Option.{option_map_or}
use Rattle.c_tree.specs.ExprTree.{ExprTree, Arguments}
use Rattle.c_tree.specs.ExprTree as expr
use Rattle.c_tree.specs.StmtTree.{StmtTree, Statements, SimpleTree, FirstTree, DeclarationTree}
use Rattle.c_tree.specs.StmtTree as stmt
use Rattle.c_tree.specs.ItemTree.{FunctionTree}
use Rattle.c_tree.specs.Operators.{update_binary}
use Rattle.c_tree.specs.declared.expr.BinaryOp.{BinaryOp}
use Rattle.c_tree.specs.declared.expr.BinaryOp.TheVariants as binary
use Rattle.c_tree.specs.declared.expr.IntType.{IntType}
use Rattle.c_tree.specs.declared.expr.IntType.TheVariants.{Signed}
use Rattle.c_tree.specs.declared.stmt.AssignOp.TheVariants as assign
use Rattle.c_tree.specs.declared.stmt.StepOp.TheVariants as step
use Rattle.c_types.specs.Expressions.{sides_type}
use Rattle.c_types.specs.Tables.{Tables, function_named, struct_named, number_at, words_at}
use Rattle.pool_map.specs.PoolMap.{PoolMap, least_free}
use Rattle.pool_map.specs.declared.trap.TrapKind.{TrapKind}
use Rattle.pool_map.specs.declared.trap.TrapKind.TheVariants as trap
use Rattle.pool_map.specs.declared.word.PoolWord.{PoolWord}
use Rattle.pool_map.specs.declared.word.PoolWord.TheVariants.{Field}
use Rattle.c_meaning.specs.declared.trap_at.TrapAt.{TrapAt}
use Rattle.c_meaning.specs.Locals.{Local, bound, scopes_of}
use Rattle.c_meaning.specs.Access.{struct_slot, struct_pointed_by}
use Rattle.c_meaning.specs.Operators.{binary_of}
use Rattle.c_meaning.specs.Meaning.{Out, Got, Stops, StmtEnd, Next, Broke, Again, Gave, Traps}
use Rattle.c_meaning.specs.Meaning.{Calls, at_zero, tick, or_trap, placed_trap, loaded, located}
use Rattle.c_meaning.specs.Meaning.{value_of, pointer_of, values_of, operands_of, target_local}
use Rattle.c_meaning.specs.Meaning.{end_of_first, end_of_third, condition_of, in_scope, end_of_stmt}
use Rattle.c_meaning.specs.Meaning.{calls_of}

pub data Access : Type 0 where
  Loaded : PoolWord → Access
  Wrote : PoolWord → ℤ → Access
  -- a store to a slot's header: the kind of a new object, or 0 for a free slot
  Headed : (slot : ℕ) → ℤ → Access

-- those of what follows a value, a statement, or the body of a turn, if it is reached
abbrev pub on_value : {A : Type 0} → Out A → (A → PoolMap → ℕ → List Access) → List Access
on_value (Got a p k) go = go a p k
on_value (Stops trap) go = []

abbrev pub on_next : StmtEnd → (List Local → PoolMap → ℕ → List Access) → List Access
on_next (Next ls p k) go = go ls p k
on_next (Broke ls p k) go = []
on_next (Again ls p k) go = []
on_next (Gave v p k) go = []
on_next (Traps trap) go = []

abbrev pub on_turn : StmtEnd → (List Local → PoolMap → ℕ → List Access) → List Access
on_turn (Next ls p k) go = go ls p k
on_turn (Again ls p k) go = go ls p k
on_turn (Broke ls p k) go = []
on_turn (Gave v p k) go = []
on_turn (Traps trap) go = []

abbrev pub read_at : Result PoolWord TrapAt → List Access
read_at (Ok w) = Loaded w ∷ []
read_at (Err trap) = []

abbrev pub write_at : Result PoolWord TrapAt → ℤ → List Access
write_at (Ok w) v = Wrote w v ∷ []
write_at (Err trap) v = []

-- 0 to n words of a slot, from word i on
abbrev pub zeros_written : (slot i n : ℕ) → List Access
zeros_written s i zero = []
zeros_written s i (suc n) = Wrote (Field s i) (pos 0) ∷ zeros_written s (suc i) n

-- a new object in this slot; none where no slot is free
abbrev pub object_made : (kind words : ℕ) → Option ℕ → List Access
object_made kind words None = []
object_made kind words (Some s) = Headed s (pos kind) ∷ zeros_written s 0 words

abbrev pub new_accesses : Tables → PoolMap → List ℕ → List Access
new_accesses t p name = option_map_or
    (λ i. object_made (number_at t i) (words_at t i) (least_free p)) (struct_named t name) []

abbrev pub object_freed : Result ℕ TrapKind → List Access
object_freed (Ok s) = Headed s (pos 0) ∷ []
object_freed (Err kind) = []

abbrev pub free_accesses : Tables → List Local → PoolMap → ExprTree → ℤ → List Access
free_accesses t ls p e pointer =
    object_freed (struct_slot p (option_map (number_at t) (struct_pointed_by t ls e)) pointer)

-- those of the right side of an operator, which `&&` and `||` may leave out
abbrev pub right_accesses : BinaryOp → (left : ℤ) → List Access → List Access
right_accesses binary.Both x right = at_zero x [] right
right_accesses binary.Either x right = at_zero x right []
right_accesses o x right = right

-- those of a function call, from its arguments
abbrev pub CallAccesses : Type 0
CallAccesses = FunctionTree → List ℤ → PoolMap → ℕ → List Access

-- those of the arguments, and then of the call, unless no tick is left
abbrev pub called_accesses : CallAccesses → Option FunctionTree → List Access → Out (List ℤ)
    → List Access
called_accesses seen None before arguments = []
called_accesses seen (Some f) before arguments =
    before ++ on_value arguments (λ vs p k. tick k [] (λ k. seen f vs p k))

abbrev mutual
  pub value_accesses : Tables → Calls → CallAccesses → ExprTree → List Local → PoolMap → ℕ
      → List Access
  value_accesses t calls seen (expr.Number n) ls p k = []
  value_accesses t calls seen expr.Null ls p k = []
  value_accesses t calls seen (expr.Variable name) ls p k = []
  value_accesses t calls seen (expr.Call name all) ls p k =
      called_accesses seen (function_named t name.text) (argument_accesses t calls seen all ls p k)
      (values_of t calls all ls p k)
  value_accesses t calls seen (expr.New place name) ls p k = new_accesses t p name.text
  value_accesses t calls seen (expr.Root name) ls p k =
      read_at (located t ls p (expr.Root name) (pos 0) None)
  value_accesses t calls seen (expr.Arrow base place name) ls p k =
      value_accesses t calls seen base ls p k ++ on_value (value_of t calls base ls p k)
      (λ b p k. read_at (located t ls p (expr.Arrow base place name) b None))
  value_accesses t calls seen (expr.Index a place i) ls p k =
      pointer_accesses t calls seen a ls p k ++ on_value (pointer_of t calls a ls p k)
      (λ b p k. value_accesses t calls seen i ls p k ++ on_value (value_of t calls i ls p k)
      (λ j p k. read_at (located t ls p (expr.Index a place i) b (Some j))))
  value_accesses t calls seen (expr.Unary o place a) ls p k = value_accesses t calls seen a ls p k
  value_accesses t calls seen (expr.Binary o place a b) ls p k =
      value_accesses t calls seen a ls p k ++ on_value (value_of t calls a ls p k)
      (λ x p k. right_accesses o x (value_accesses t calls seen b ls p k))
  value_accesses t calls seen (expr.Conditional c place a b) ls p k =
      value_accesses t calls seen c ls p k ++ on_value (value_of t calls c ls p k)
      (λ x p k. at_zero x (value_accesses t calls seen b ls p k)
      (value_accesses t calls seen a ls p k))

  -- those of the pointer that leads to a field
  pub pointer_accesses : Tables → Calls → CallAccesses → ExprTree → List Local → PoolMap → ℕ
      → List Access
  pointer_accesses t calls seen (expr.Arrow base place name) ls p k =
      value_accesses t calls seen base ls p k
  pointer_accesses t calls seen e ls p k = []

  pub argument_accesses : Tables → Calls → CallAccesses → Arguments → List Local → PoolMap → ℕ
      → List Access
  argument_accesses t calls seen expr.None ls p k = []
  argument_accesses t calls seen (expr.More first e rest) ls p k =
      value_accesses t calls seen e ls p k ++ on_value (value_of t calls e ls p k)
      (λ v p k. argument_accesses t calls seen rest ls p k)

-- those of the operands of a target
abbrev pub operand_accesses : Tables → Calls → CallAccesses → ExprTree → List Local → PoolMap → ℕ
    → List Access
operand_accesses t calls seen (expr.Index a place i) ls p k =
    pointer_accesses t calls seen a ls p k ++ on_value (pointer_of t calls a ls p k)
    (λ b p k. value_accesses t calls seen i ls p k)
operand_accesses t calls seen (expr.Arrow base place name) ls p k =
    value_accesses t calls seen base ls p k
operand_accesses t calls seen e ls p k = []

-- of `=`: the operands, the value and the write; a local is no word of the pool
abbrev pub set_accesses : Tables → Calls → CallAccesses → Option (List ℕ) → ExprTree → ExprTree
    → List Local → PoolMap → ℕ → List Access
set_accesses t calls seen (Some name) target e ls p k = value_accesses t calls seen e ls p k
set_accesses t calls seen None target e ls p k =
    operand_accesses t calls seen target ls p k ++ on_value (operands_of t calls target ls p k)
    (λ o p k. value_accesses t calls seen e ls p k ++ on_value (value_of t calls e ls p k)
    (λ v p k. write_at (located t ls p target o.0 o.1) v))

-- of an assignment with an operator: the operands, the read, the right side and the write
abbrev pub update_accesses : Tables → Calls → CallAccesses → Option (List ℕ) → ExprTree → BinaryOp
    → IntType → (place : ℕ) → (PoolMap → ℕ → Out ℤ) → (PoolMap → ℕ → List Access) → List Local
    → PoolMap → ℕ → List Access
update_accesses t calls seen (Some name) target op n place right rights ls p k = rights p k
update_accesses t calls seen None target op n place right rights ls p k =
    operand_accesses t calls seen target ls p k ++ on_value (operands_of t calls target ls p k)
    (λ o p k. read_at (located t ls p target o.0 o.1)
    ++ on_value (loaded (located t ls p target o.0 o.1) p k)
    (λ x p k. rights p k ++ on_value (right p k)
    (λ y p k. on_value (or_trap (binary_of op n x y) (placed_trap trap.Divide place) p k)
    (λ v p k. write_at (located t ls p target o.0 o.1) v))))

abbrev pub simple_accesses : Tables → Calls → CallAccesses → SimpleTree → List Local → PoolMap → ℕ
    → List Access
simple_accesses t calls seen (stmt.Assign target assign.Set place e) ls p k =
    set_accesses t calls seen (target_local target) target e ls p k
simple_accesses t calls seen (stmt.Assign target (assign.Update op) place e) ls p k =
    update_accesses t calls seen (target_local target) target (update_binary op)
    (sides_type t (scopes_of ls) (update_binary op) target e) place
    (λ p k. value_of t calls e ls p k) (λ p k. value_accesses t calls seen e ls p k) ls p k
simple_accesses t calls seen (stmt.Step target step.Up place) ls p k =
    update_accesses t calls seen (target_local target) target binary.Add Signed place
    (λ p k. Got (pos 1) p k) (λ p k. []) ls p k
simple_accesses t calls seen (stmt.Step target step.Down place) ls p k =
    update_accesses t calls seen (target_local target) target binary.Sub Signed place
    (λ p k. Got (pos 1) p k) (λ p k. []) ls p k
simple_accesses t calls seen (stmt.Call name all) ls p k =
    value_accesses t calls seen (expr.Call name all) ls p k
simple_accesses t calls seen (stmt.Free place e) ls p k =
    value_accesses t calls seen e ls p k ++ on_value (value_of t calls e ls p k)
    (λ v p k. free_accesses t ls p e v)
simple_accesses t calls seen (stmt.Abort place) ls p k = []

-- of a condition or a value that may be absent
abbrev pub optional_accesses : Tables → Calls → CallAccesses → Option ExprTree → List Local
    → PoolMap → ℕ → List Access
optional_accesses t calls seen None ls p k = []
optional_accesses t calls seen (Some e) ls p k = value_accesses t calls seen e ls p k

abbrev pub declaration_accesses : Tables → Calls → CallAccesses → DeclarationTree → List Local
    → PoolMap → ℕ → List Access
declaration_accesses t calls seen d ls p k =
    option_map_or (λ i. value_accesses t calls seen i.value ls p k) d.initial []

abbrev pub first_accesses : Tables → Calls → CallAccesses → Option FirstTree → List Local
    → PoolMap → ℕ → List Access
first_accesses t calls seen None ls p k = []
first_accesses t calls seen (Some (stmt.Declare d)) ls p k =
    declaration_accesses t calls seen d ls p k
first_accesses t calls seen (Some (stmt.Simply x)) ls p k = simple_accesses t calls seen x ls p k

abbrev pub third_accesses : Tables → Calls → CallAccesses → Option SimpleTree → List Local
    → PoolMap → ℕ → List Access
third_accesses t calls seen None ls p k = []
third_accesses t calls seen (Some x) ls p k = simple_accesses t calls seen x ls p k

-- of at most n turns of a loop: of its parts, as `turns` evaluates them
abbrev pub turn_accesses : ℕ → (test : List Local → PoolMap → ℕ → Out ℤ)
    → (body third : List Local → PoolMap → ℕ → StmtEnd)
    → (tests bodies thirds : List Local → PoolMap → ℕ → List Access) → List Local → PoolMap → ℕ
    → List Access
turn_accesses zero test body third tests bodies thirds ls p k = []
turn_accesses (suc n) test body third tests bodies thirds ls p k =
    tick k [] (λ k. tests ls p k ++ on_value (test ls p k) (λ v p k. at_zero v []
    (bodies ls p k ++ on_turn (body ls p k) (λ ls p k. thirds ls p k ++ on_next (third ls p k)
    (λ ls p k. turn_accesses n test body third tests bodies thirds ls p k)))))

abbrev mutual
  pub stmt_accesses : Tables → Calls → CallAccesses → StmtTree → List Local → PoolMap → ℕ
      → List Access
  stmt_accesses t calls seen stmt.Empty ls p k = []
  stmt_accesses t calls seen (stmt.Declares d) ls p k = declaration_accesses t calls seen d ls p k
  stmt_accesses t calls seen (stmt.Simple x) ls p k = simple_accesses t calls seen x ls p k
  stmt_accesses t calls seen (stmt.Block all) ls p k = statement_accesses t calls seen all ls p k
  stmt_accesses t calls seen (stmt.If c a) ls p k =
      value_accesses t calls seen c ls p k ++ on_value (value_of t calls c ls p k)
      (λ v p k. at_zero v [] (stmt_accesses t calls seen a ls p k))
  stmt_accesses t calls seen (stmt.IfElse c a b) ls p k =
      value_accesses t calls seen c ls p k ++ on_value (value_of t calls c ls p k)
      (λ v p k. at_zero v (stmt_accesses t calls seen b ls p k)
      (stmt_accesses t calls seen a ls p k))
  stmt_accesses t calls seen (stmt.While place c a) ls p k =
      turn_accesses k (λ ls p k. value_of t calls c ls p k) (λ ls p k.
      in_scope (length ls) (end_of_stmt t calls a ls p k)) (λ ls p k. Next ls p k)
      (λ ls p k. value_accesses t calls seen c ls p k)
      (λ ls p k. stmt_accesses t calls seen a ls p k) (λ ls p k. []) ls p k
  stmt_accesses t calls seen (stmt.Do place a c) ls p k =
      stmt_accesses t calls seen a ls p k
      ++ on_turn (in_scope (length ls) (end_of_stmt t calls a ls p k)) (λ ls p k. turn_accesses k
      (λ ls p k. value_of t calls c ls p k) (λ ls p k.
      in_scope (length ls) (end_of_stmt t calls a ls p k)) (λ ls p k. Next ls p k)
      (λ ls p k. value_accesses t calls seen c ls p k)
      (λ ls p k. stmt_accesses t calls seen a ls p k) (λ ls p k. []) ls p k)
  stmt_accesses t calls seen (stmt.For place first c third a) ls p k =
      first_accesses t calls seen first ls p k
      ++ on_next (end_of_first t calls first ls p k) (λ ls p k. turn_accesses k
      (λ ls p k. condition_of t calls c ls p k) (λ ls p k.
      in_scope (length ls) (end_of_stmt t calls a ls p k))
      (λ ls p k. end_of_third t calls third ls p k)
      (λ ls p k. optional_accesses t calls seen c ls p k)
      (λ ls p k. stmt_accesses t calls seen a ls p k)
      (λ ls p k. third_accesses t calls seen third ls p k) ls p k)
  stmt_accesses t calls seen stmt.Break ls p k = []
  stmt_accesses t calls seen stmt.Continue ls p k = []
  stmt_accesses t calls seen (stmt.Return place e) ls p k = optional_accesses t calls seen e ls p k

  pub statement_accesses : Tables → Calls → CallAccesses → Statements → List Local → PoolMap → ℕ
      → List Access
  statement_accesses t calls seen stmt.Nothing ls p k = []
  statement_accesses t calls seen (stmt.Then x xs) ls p k =
      stmt_accesses t calls seen x ls p k ++ on_next (end_of_stmt t calls x ls p k)
      (λ ls p k. statement_accesses t calls seen xs ls p k)

abbrev pub function_accesses : Tables → Calls → CallAccesses → FunctionTree → List ℤ → PoolMap
    → ℕ → List Access
function_accesses t calls seen f vs p k =
    statement_accesses t calls seen f.body (bound t f.parameters vs []) p k

-- of a call when `room` more functions may be opened
abbrev pub call_accesses : Tables → (room : ℕ) → CallAccesses
call_accesses t zero f vs p k = []
call_accesses t (suc room) f vs p k =
    function_accesses t (calls_of t room) (call_accesses t room) f vs p k
