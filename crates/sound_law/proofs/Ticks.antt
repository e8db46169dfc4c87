-- Ticks are only taken: whatever runs, no more are left than there were. And whatever traps has
-- another trap than a full log.
use Rattle.std.proofs.Common.{ℕ, zero, suc, ◌≤◌, ℤ, pos, Bool, true, false, List, [], length}
use Rattle.std.proofs.Common.{subst, arith}
use Rattle.std.specs.Prelude.{Option, None, Some, Result, Ok, Err, if◌then◌else◌}
use Rattle.std.specs.Option.{option_map_or}
use Rattle.c_tree.specs.ExprTree.{ExprTree, Arguments}
use Rattle.c_tree.specs.ExprTree as expr
use Rattle.c_tree.specs.StmtTree.{StmtTree, Statements, SimpleTree, FirstTree, DeclarationTree}
use Rattle.c_tree.specs.StmtTree.{InitialTree}
use Rattle.c_tree.specs.StmtTree as stmt
use Rattle.c_tree.specs.ItemTree.{FunctionTree}
use Rattle.c_tree.specs.declared.expr.IntType.{IntType}
use Rattle.c_tree.specs.declared.expr.IntType.TheVariants.{Signed}
use Rattle.c_tree.specs.declared.expr.BinaryOp.{BinaryOp}
use Rattle.c_tree.specs.declared.expr.BinaryOp.TheVariants as binary
use Rattle.c_tree.specs.declared.stmt.AssignOp.TheVariants as assign
use Rattle.c_tree.specs.declared.stmt.StepOp.TheVariants as step
use Rattle.c_tree.specs.Operators.{update_binary}
use Rattle.c_types.specs.Expressions.{sides_type}
use Rattle.c_types.specs.Tables.{Tables, function_named}
use Rattle.pool_map.specs.declared.trap.TrapKind.TheVariants as trap
use Rattle.pool_map.specs.PoolMap.{PoolMap}
use Rattle.pool_map.specs.Checks.{is_zero}
use Rattle.c_meaning.specs.declared.trap_at.TrapAt.{TrapAt}
use Rattle.pool_map.specs.declared.word.PoolWord.{PoolWord}
use Rattle.c_meaning.specs.Locals.{Local, scopes_of, bound, value_named}
use Rattle.c_meaning.specs.Operators.{binary_of}
use Rattle.c_meaning.specs.Meaning.{Out, Got, Stops, StmtEnd, Next, Broke, Again, Gave, Traps}
use Rattle.c_meaning.specs.Meaning.{Calls, then_do, with_value, then_next, at_zero, tick, or_trap}
use Rattle.c_meaning.specs.Meaning.{loaded, strict, binary_means, called, value_of}
use Rattle.c_meaning.specs.Meaning.{pointer_of, values_of, operands_of, stored_end, assign_to}
use Rattle.c_meaning.specs.Meaning.{update, target_local, freed, end_of_simple, declaration_end}
use Rattle.c_meaning.specs.Meaning.{end_of_first, end_of_third, condition_of, return_end, in_scope}
use Rattle.c_meaning.specs.Meaning.{after_turn, turns, end_of_stmt, ends_of, given, function_value}
use Rattle.c_meaning.specs.Meaning.{calls_of, placed_trap, located, at_place}
use Rattle.c_meaning.specs.Access.{free_object}
use Rattle.c_meaning.specs.Transaction.{Outcome, Done, Trap, transaction, run_transaction, outcome}
use Rattle.sound_law.specs.Law.{NeverFullLaw}
use Rattle.sound_law.proofs.Checks.{IsOwn, FailsAt, placed_fails, located_fails, free_fails}

-- at most k ticks are left; or it traps, with a trap of the source
abbrev pub Falls : {A : Type 0} → ℕ → Out A → Type 0
Falls k (Got a p j) = j ≤ k
Falls k (Stops trap) = IsOwn trap.kind

abbrev pub EndsBelow : ℕ → StmtEnd → Type 0
EndsBelow k (Next ls p j) = j ≤ k
EndsBelow k (Broke ls p j) = j ≤ k
EndsBelow k (Again ls p j) = j ≤ k
EndsBelow k (Gave v p j) = j ≤ k
EndsBelow k (Traps trap) = IsOwn trap.kind

falls_more : {A : Type 0} (j k : ℕ) (o : Out A) → j ≤ k → Falls j o → Falls k o
falls_more j k (Got a p i) le h = omega (arith, le, h)
falls_more j k (Stops trap) le h = h

below_more : (j k : ℕ) (e : StmtEnd) → j ≤ k → EndsBelow j e → EndsBelow k e
below_more j k (Next ls p i) le h = omega (arith, le, h)
below_more j k (Broke ls p i) le h = omega (arith, le, h)
below_more j k (Again ls p i) le h = omega (arith, le, h)
below_more j k (Gave v p i) le h = omega (arith, le, h)
below_more j k (Traps trap) le h = h

pub same : (k : ℕ) → k ≤ k
same k = omega arith

do_falls : {A B : Type 0} (k : ℕ) (o : Out A) (go : A → PoolMap → ℕ → Out B) → Falls k o
    → ((a : A) (p : PoolMap) (j : ℕ) → Falls j (go a p j)) → Falls k (then_do o go)
do_falls k (Got a p j) go h next = falls_more j k (go a p j) h (next a p j)
do_falls k (Stops trap) go h next = h

value_below : {A : Type 0} (k : ℕ) (o : Out A) (go : A → PoolMap → ℕ → StmtEnd) → Falls k o
    → ((a : A) (p : PoolMap) (j : ℕ) → EndsBelow j (go a p j)) → EndsBelow k (with_value o go)
value_below k (Got a p j) go h next = below_more j k (go a p j) h (next a p j)
value_below k (Stops trap) go h next = h

next_below : (k : ℕ) (e : StmtEnd) (go : List Local → PoolMap → ℕ → StmtEnd) → EndsBelow k e
    → ((ls : List Local) (p : PoolMap) (j : ℕ) → EndsBelow j (go ls p j))
    → EndsBelow k (then_next e go)
next_below k (Next ls p j) go h next = below_more j k (go ls p j) h (next ls p j)
next_below k (Broke ls p j) go h next = h
next_below k (Again ls p j) go h next = h
next_below k (Gave v p j) go h next = h
next_below k (Traps trap) go h next = h

turn_below : (k : ℕ) (e : StmtEnd) (go : List Local → PoolMap → ℕ → StmtEnd) → EndsBelow k e
    → ((ls : List Local) (p : PoolMap) (j : ℕ) → EndsBelow j (go ls p j))
    → EndsBelow k (after_turn e go)
turn_below k (Next ls p j) go h next = below_more j k (go ls p j) h (next ls p j)
turn_below k (Again ls p j) go h next = below_more j k (go ls p j) h (next ls p j)
turn_below k (Broke ls p j) go h next = h
turn_below k (Gave v p j) go h next = h
turn_below k (Traps trap) go h next = h

scope_below : (k n : ℕ) (e : StmtEnd) → EndsBelow k e → EndsBelow k (in_scope n e)
scope_below k n (Next ls p j) h = h
scope_below k n (Broke ls p j) h = h
scope_below k n (Again ls p j) h = h
scope_below k n (Gave v p j) h = h
scope_below k n (Traps trap) h = h

zero_below : (k : ℕ) (c : Bool) (a b : StmtEnd) → EndsBelow k a → EndsBelow k b
    → EndsBelow k (if c then a else b)
zero_below k true a b left right = left
zero_below k false a b left right = right

zero_falls : (k : ℕ) (c : Bool) (a b : Out ℤ) → Falls k a → Falls k b
    → Falls k (if c then a else b)
zero_falls k true a b left right = left
zero_falls k false a b left right = right

tick_falls : (place k : ℕ) (go : ℕ → Out ℤ) → ((j : ℕ) → Falls j (go j))
    → Falls k (tick k (Stops (placed_trap trap.Steps place)) go)
tick_falls place zero go next = tt
tick_falls place (suc k) go next = falls_more k (suc k) (go k) (omega arith) (next k)

tick_below : (place k : ℕ) (go : ℕ → StmtEnd) → ((j : ℕ) → EndsBelow j (go j))
    → EndsBelow k (tick k (Traps (placed_trap trap.Steps place)) go)
tick_below place zero go next = tt
tick_below place (suc k) go next = below_more k (suc k) (go k) (omega arith) (next k)

loaded_falls : (r : Result PoolWord TrapAt) (p : PoolMap) (k : ℕ) → FailsAt r
    → Falls k (loaded r p k)
loaded_falls (Ok w) p k h = same k
loaded_falls (Err trap) p k h = h

or_trap_falls : (o : Option ℤ) (place : ℕ) (p : PoolMap) (k : ℕ)
    → Falls k (or_trap o (placed_trap trap.Divide place) p k)
or_trap_falls None place p k = tt
or_trap_falls (Some v) place p k = same k

abbrev Each : (PoolMap → ℕ → Out ℤ) → Type 0
Each b = (p : PoolMap) (k : ℕ) → Falls k (b p k)

truth_falls : (k : ℕ) (b : Out ℤ) → Falls k b
    → Falls k (then_do b (λ y p k. Got (at_zero y (pos 0) (pos 1)) p k))
truth_falls k b h = do_falls k b _ h (λ y p j. same j)

strict_falls : (k : ℕ) (op : BinaryOp) (int : IntType) (place : ℕ) (a : Out ℤ)
    (b : PoolMap → ℕ → Out ℤ)
    → Falls k a → Each b → Falls k (strict op int place a b)
strict_falls k op int place a b left right = do_falls k a _ left
    (λ x p j. do_falls j (b p j) _ (right p j)
    (λ y p i. or_trap_falls (binary_of op int x y) place p i))

binary_falls : (k : ℕ) (op : BinaryOp) (int : IntType) (place : ℕ) (a : Out ℤ)
    (b : PoolMap → ℕ → Out ℤ)
    → Falls k a → Each b → Falls k (binary_means op int place a b)
binary_falls k binary.Both int place a b left right = do_falls k a _ left
    (λ x p j. zero_falls j (is_zero x) (Got (pos 0) p j) _ (same j)
    (truth_falls j (b p j) (right p j)))
binary_falls k binary.Either int place a b left right = do_falls k a _ left
    (λ x p j. zero_falls j (is_zero x) _ (Got (pos 1) p j)
    (truth_falls j (b p j) (right p j)) (same j))
binary_falls k binary.Mul int place a b left right =
    strict_falls k binary.Mul int place a b left right
binary_falls k binary.Div int place a b left right =
    strict_falls k binary.Div int place a b left right
binary_falls k binary.Rem int place a b left right =
    strict_falls k binary.Rem int place a b left right
binary_falls k binary.Add int place a b left right =
    strict_falls k binary.Add int place a b left right
binary_falls k binary.Sub int place a b left right =
    strict_falls k binary.Sub int place a b left right
binary_falls k binary.ShiftLeft int place a b left right =
    strict_falls k binary.ShiftLeft int place a b left right
binary_falls k binary.ShiftRight int place a b left right =
    strict_falls k binary.ShiftRight int place a b left right
binary_falls k binary.Less int place a b left right =
    strict_falls k binary.Less int place a b left right
binary_falls k binary.LessEqual int place a b left right =
    strict_falls k binary.LessEqual int place a b left right
binary_falls k binary.Greater int place a b left right =
    strict_falls k binary.Greater int place a b left right
binary_falls k binary.GreaterEqual int place a b left right =
    strict_falls k binary.GreaterEqual int place a b left right
binary_falls k binary.Equal int place a b left right =
    strict_falls k binary.Equal int place a b left right
binary_falls k binary.NotEqual int place a b left right =
    strict_falls k binary.NotEqual int place a b left right
binary_falls k binary.And int place a b left right =
    strict_falls k binary.And int place a b left right
binary_falls k binary.Xor int place a b left right =
    strict_falls k binary.Xor int place a b left right
binary_falls k binary.Or int place a b left right =
    strict_falls k binary.Or int place a b left right

abbrev pub CallsFall : Calls → Type 0
CallsFall calls = (place : ℕ) (f : FunctionTree) (vs : List ℤ) (p : PoolMap) (k : ℕ)
    → Falls k (calls place f vs p k)

module _ (t : Tables) (calls : Calls) (fall : CallsFall calls) where
  called_falls : (place : ℕ) (o : Option FunctionTree) (all : FunctionTree → Out (List ℤ))
      (p : PoolMap) (k : ℕ) → ((f : FunctionTree) → Falls k (all f))
      → Falls k (called calls place o all p k)
  called_falls place None all p k h = same k
  called_falls place (Some f) all p k h = do_falls k (all f) _ (h f)
      (λ vs p j. tick_falls place j (λ i. calls place f vs p i)
      (λ i. fall place f vs p i))

  mutual
    pub value_falls : (e : ExprTree) (ls : List Local) (p : PoolMap) (k : ℕ)
        → Falls k (value_of t calls e ls p k)
    value_falls (expr.Number n) ls p k = same k
    value_falls expr.Null ls p k = same k
    value_falls (expr.Variable name) ls p k = same k
    value_falls (expr.Call name all) ls p k = called_falls name.place (function_named t name.text)
        (λ f. values_of t calls all ls p k) p k (λ f. values_fall all ls p k)
    value_falls (expr.New place name) ls p k = same k
    value_falls (expr.Root name) ls p k =
        loaded_falls (located t ls p (expr.Root name) (pos 0) None) p k
        (located_fails t ls p (expr.Root name) (pos 0) None)
    value_falls (expr.Arrow base place name) ls p k =
        do_falls k (value_of t calls base ls p k) _ (value_falls base ls p k)
        (λ b p j. loaded_falls (located t ls p (expr.Arrow base place name) b None) p j
        (located_fails t ls p (expr.Arrow base place name) b None))
    value_falls (expr.Index a place i) ls p k =
        do_falls k (pointer_of t calls a ls p k) _ (pointer_falls a ls p k)
        (λ b p j. do_falls j (value_of t calls i ls p j) _ (value_falls i ls p j)
        (λ x p n. loaded_falls (located t ls p (expr.Index a place i) b (Some x)) p n
        (located_fails t ls p (expr.Index a place i) b (Some x))))
    value_falls (expr.Unary op place a) ls p k =
        do_falls k (value_of t calls a ls p k) _ (value_falls a ls p k) (λ x p j. same j)
    value_falls (expr.Binary op place a b) ls p k =
        binary_falls k op (sides_type t (scopes_of ls) op a b) place (value_of t calls a ls p k)
        (λ p k. value_of t calls b ls p k) (value_falls a ls p k) (λ p j. value_falls b ls p j)
    value_falls (expr.Conditional c place a b) ls p k =
        do_falls k (value_of t calls c ls p k) _ (value_falls c ls p k)
        (λ x p j. zero_falls j (is_zero x) (value_of t calls b ls p j) (value_of t calls a ls p j)
        (value_falls b ls p j) (value_falls a ls p j))

    pointer_falls : (e : ExprTree) (ls : List Local) (p : PoolMap) (k : ℕ)
        → Falls k (pointer_of t calls e ls p k)
    pointer_falls (expr.Arrow base place name) ls p k = value_falls base ls p k
    pointer_falls (expr.Root name) ls p k = same k
    pointer_falls (expr.Number n) ls p k = same k
    pointer_falls expr.Null ls p k = same k
    pointer_falls (expr.Variable name) ls p k = same k
    pointer_falls (expr.Call name all) ls p k = same k
    pointer_falls (expr.New place name) ls p k = same k
    pointer_falls (expr.Index a place i) ls p k = same k
    pointer_falls (expr.Unary op place a) ls p k = same k
    pointer_falls (expr.Binary op place a b) ls p k = same k
    pointer_falls (expr.Conditional c place a b) ls p k = same k

    values_fall : (all : Arguments) (ls : List Local) (p : PoolMap) (k : ℕ)
        → Falls k (values_of t calls all ls p k)
    values_fall expr.None ls p k = same k
    values_fall (expr.More first e rest) ls p k =
        do_falls k (value_of t calls e ls p k) _ (value_falls e ls p k)
        (λ v p j. do_falls j (values_of t calls rest ls p j) _ (values_fall rest ls p j)
        (λ vs p i. same i))

  operands_fall : (e : ExprTree) (ls : List Local) (p : PoolMap) (k : ℕ)
      → Falls k (operands_of t calls e ls p k)
  operands_fall (expr.Index a place i) ls p k =
      do_falls k (pointer_of t calls a ls p k) _ (pointer_falls a ls p k)
      (λ b p j. do_falls j (value_of t calls i ls p j) _ (value_falls i ls p j) (λ x p n. same n))
  operands_fall (expr.Arrow base place name) ls p k =
      do_falls k (value_of t calls base ls p k) _ (value_falls base ls p k) (λ b p j. same j)
  operands_fall (expr.Root name) ls p k = same k
  operands_fall (expr.Number n) ls p k = same k
  operands_fall expr.Null ls p k = same k
  operands_fall (expr.Variable name) ls p k = same k
  operands_fall (expr.Call name all) ls p k = same k
  operands_fall (expr.New place name) ls p k = same k
  operands_fall (expr.Unary op place a) ls p k = same k
  operands_fall (expr.Binary op place a b) ls p k = same k
  operands_fall (expr.Conditional c place a b) ls p k = same k

  stored_below : (r : Result PoolWord TrapAt) (v : ℤ) (ls : List Local) (p : PoolMap) (k : ℕ)
      → FailsAt r → EndsBelow k (stored_end r v ls p k)
  stored_below (Ok w) v ls p k h = same k
  stored_below (Err trap) v ls p k h = h

  assign_below : (o : Option (List ℕ)) (e : ExprTree) (value : PoolMap → ℕ → Out ℤ)
      (ls : List Local) (p : PoolMap) (k : ℕ) → Each value
      → EndsBelow k (assign_to t calls o e value ls p k)
  assign_below (Some name) e value ls p k h =
      value_below k (value p k) _ (h p k) (λ v p j. same j)
  assign_below None e value ls p k h =
      value_below k (operands_of t calls e ls p k) _ (operands_fall e ls p k)
      (λ o p j. value_below j (value p j) _ (h p j)
      (λ v p i. stored_below (located t ls p e o.0 o.1) v ls p i
      (located_fails t ls p e o.0 o.1)))

  update_below : (o : Option (List ℕ)) (e : ExprTree) (op : BinaryOp) (int : IntType) (place : ℕ)
      (right : PoolMap → ℕ → Out ℤ) (ls : List Local) (p : PoolMap) (k : ℕ) → Each right
      → EndsBelow k (update t calls o e op int place right ls p k)
  update_below (Some name) e op int place right ls p k h = value_below k (right p k) _ (h p k)
      (λ y p j. value_below j
      (or_trap (binary_of op int (value_named name ls) y) (placed_trap trap.Divide place) p j) _
      (or_trap_falls (binary_of op int (value_named name ls) y) place p j)
      (λ v p i. same i))
  update_below None e op int place right ls p k h =
      value_below k (operands_of t calls e ls p k) _ (operands_fall e ls p k)
      (λ o p j. value_below j (loaded (located t ls p e o.0 o.1) p j) _
      (loaded_falls (located t ls p e o.0 o.1) p j (located_fails t ls p e o.0 o.1))
      (λ x p i. value_below i (right p i) _ (h p i)
      (λ y p n. value_below n (or_trap (binary_of op int x y) (placed_trap trap.Divide place) p n) _
      (or_trap_falls (binary_of op int x y) place p n)
      (λ v p m. stored_below (located t ls p e o.0 o.1) v ls p m
      (located_fails t ls p e o.0 o.1)))))

  freed_below : (r : Result PoolMap TrapAt) (ls : List Local) (k : ℕ) → FailsAt r
      → EndsBelow k (freed r ls k)
  freed_below (Ok p) ls k h = same k
  freed_below (Err trap) ls k h = h

  simple_below : (x : SimpleTree) (ls : List Local) (p : PoolMap) (k : ℕ)
      → EndsBelow k (end_of_simple t calls x ls p k)
  simple_below (stmt.Assign target assign.Set place e) ls p k =
      assign_below (target_local target) target (λ p k. value_of t calls e ls p k) ls p k
      (λ p k. value_falls e ls p k)
  simple_below (stmt.Assign target (assign.Update op) place e) ls p k =
      update_below (target_local target) target (update_binary op)
      (sides_type t (scopes_of ls) (update_binary op) target e) place
      (λ p k. value_of t calls e ls p k) ls p
      k (λ p k. value_falls e ls p k)
  simple_below (stmt.Step target step.Up place) ls p k =
      update_below (target_local target) target binary.Add Signed place
      (λ p k. Got (pos 1) p k) ls p k
      (λ p k. same k)
  simple_below (stmt.Step target step.Down place) ls p k =
      update_below (target_local target) target binary.Sub Signed place
      (λ p k. Got (pos 1) p k) ls p k
      (λ p k. same k)
  simple_below (stmt.Call name all) ls p k =
      value_below k (value_of t calls (expr.Call name all) ls p k) _
      (value_falls (expr.Call name all) ls p k) (λ v p j. same j)
  simple_below (stmt.Free place e) ls p k =
      value_below k (value_of t calls e ls p k) _ (value_falls e ls p k)
      (λ v p j. freed_below (at_place place (free_object t ls p e v)) ls j
      (placed_fails place (free_object t ls p e v) (free_fails t ls p e v)))
  simple_below (stmt.Abort place) ls p k = tt

  initial_falls : (o : Option InitialTree) (ls : List Local) (p : PoolMap) (k : ℕ)
      → Falls k (option_map_or (λ i. value_of t calls i.value ls p k) o (Got (pos 0) p k))
  initial_falls None ls p k = same k
  initial_falls (Some i) ls p k = value_falls i.value ls p k

  declaration_below : (d : DeclarationTree) (ls : List Local) (p : PoolMap) (k : ℕ)
      → EndsBelow k (declaration_end t calls d ls p k)
  declaration_below d ls p k = value_below k
      (option_map_or (λ i. value_of t calls i.value ls p k) d.initial (Got (pos 0) p k)) _
      (initial_falls d.initial ls p k) (λ v p j. same j)

  first_below : (o : Option FirstTree) (ls : List Local) (p : PoolMap) (k : ℕ)
      → EndsBelow k (end_of_first t calls o ls p k)
  first_below None ls p k = same k
  first_below (Some (stmt.Declare d)) ls p k = declaration_below d ls p k
  first_below (Some (stmt.Simply x)) ls p k = simple_below x ls p k

  pub third_below : (o : Option SimpleTree) (ls : List Local) (p : PoolMap) (k : ℕ)
      → EndsBelow k (end_of_third t calls o ls p k)
  third_below None ls p k = same k
  third_below (Some x) ls p k = simple_below x ls p k

  pub condition_falls : (o : Option ExprTree) (ls : List Local) (p : PoolMap) (k : ℕ)
      → Falls k (condition_of t calls o ls p k)
  condition_falls None ls p k = same k
  condition_falls (Some e) ls p k = value_falls e ls p k

  return_below : (o : Option ExprTree) (ls : List Local) (p : PoolMap) (k : ℕ)
      → EndsBelow k (return_end t calls o ls p k)
  return_below None ls p k = same k
  return_below (Some e) ls p k = value_below k (value_of t calls e ls p k) _
      (value_falls e ls p k) (λ v p j. same j)

  turns_below : (n place : ℕ) (test : List Local → PoolMap → ℕ → Out ℤ)
      (body third : List Local → PoolMap → ℕ → StmtEnd) (ls : List Local) (p : PoolMap) (k : ℕ)
      → ((ls : List Local) (p : PoolMap) (k : ℕ) → Falls k (test ls p k))
      → ((ls : List Local) (p : PoolMap) (k : ℕ) → EndsBelow k (body ls p k))
      → ((ls : List Local) (p : PoolMap) (k : ℕ) → EndsBelow k (third ls p k))
      → EndsBelow k (turns n place test body third ls p k)
  turns_below zero place test body third ls p k a b c = tt
  turns_below (suc n) place test body third ls p k a b c =
      tick_below place k _
      (λ k. value_below k (test ls p k) _ (a ls p k)
      (λ v p k. zero_below k (is_zero v) (Next ls p k) _ (same k)
      (turn_below k (body ls p k) _ (b ls p k)
      (λ ls p k. next_below k (third ls p k) _ (c ls p k)
      (λ ls p k. turns_below n place test body third ls p k a b c)))))

  mutual
    pub stmt_below : (x : StmtTree) (ls : List Local) (p : PoolMap) (k : ℕ)
        → EndsBelow k (end_of_stmt t calls x ls p k)
    stmt_below stmt.Empty ls p k = same k
    stmt_below (stmt.Declares d) ls p k = declaration_below d ls p k
    stmt_below (stmt.Simple x) ls p k = simple_below x ls p k
    stmt_below (stmt.Block all) ls p k =
        scope_below k (length ls) (ends_of t calls all ls p k) (statements_below all ls p k)
    stmt_below (stmt.If c a) ls p k = value_below k (value_of t calls c ls p k) _
        (value_falls c ls p k) (λ v p j. zero_below j (is_zero v) (Next ls p j) _ (same j)
        (scope_below j (length ls) (end_of_stmt t calls a ls p j) (stmt_below a ls p j)))
    stmt_below (stmt.IfElse c a b) ls p k = value_below k (value_of t calls c ls p k) _
        (value_falls c ls p k) (λ v p j. zero_below j (is_zero v) _ _
        (scope_below j (length ls) (end_of_stmt t calls b ls p j) (stmt_below b ls p j))
        (scope_below j (length ls) (end_of_stmt t calls a ls p j) (stmt_below a ls p j)))
    stmt_below (stmt.While place c a) ls p k = turns_below k place _ _ _ ls p k
        (λ ls p k. value_falls c ls p k)
        (λ ls p k. scope_below k (length ls) (end_of_stmt t calls a ls p k) (stmt_below a ls p k))
        (λ ls p k. same k)
    stmt_below (stmt.Do place a c) ls p k =
        turn_below k (in_scope (length ls) (end_of_stmt t calls a ls p k)) _
        (scope_below k (length ls) (end_of_stmt t calls a ls p k) (stmt_below a ls p k))
        (λ ls p k. turns_below k place _ _ _ ls p k (λ ls p k. value_falls c ls p k)
        (λ ls p k. scope_below k (length ls) (end_of_stmt t calls a ls p k) (stmt_below a ls p k))
        (λ ls p k. same k))
    stmt_below (stmt.For place first c third a) ls p k = scope_below k (length ls) _
        (next_below k (end_of_first t calls first ls p k) _ (first_below first ls p k)
        (λ ls p k. turns_below k place _ _ _ ls p k (λ ls p k. condition_falls c ls p k)
        (λ ls p k. scope_below k (length ls) (end_of_stmt t calls a ls p k) (stmt_below a ls p k))
        (λ ls p k. third_below third ls p k)))
    stmt_below stmt.Break ls p k = same k
    stmt_below stmt.Continue ls p k = same k
    stmt_below (stmt.Return place e) ls p k = return_below e ls p k

    statements_below : (xs : Statements) (ls : List Local) (p : PoolMap) (k : ℕ)
        → EndsBelow k (ends_of t calls xs ls p k)
    statements_below stmt.Nothing ls p k = same k
    statements_below (stmt.Then x xs) ls p k =
        next_below k (end_of_stmt t calls x ls p k) _ (stmt_below x ls p k)
        (λ ls p j. statements_below xs ls p j)

  pub scoped_below : (a : StmtTree) (ls : List Local) (p : PoolMap) (k : ℕ)
      → EndsBelow k (in_scope (length ls) (end_of_stmt t calls a ls p k))
  scoped_below a ls p k =
      scope_below k (length ls) (end_of_stmt t calls a ls p k) (stmt_below a ls p k)

  given_falls : (k : ℕ) (e : StmtEnd) → EndsBelow k e → Falls k (given e)
  given_falls k (Next ls p j) h = h
  given_falls k (Broke ls p j) h = h
  given_falls k (Again ls p j) h = h
  given_falls k (Gave v p j) h = h
  given_falls k (Traps trap) h = h

  function_falls : (f : FunctionTree) (vs : List ℤ) (p : PoolMap) (k : ℕ)
      → Falls k (function_value t calls f vs p k)
  function_falls f vs p k =
      given_falls k (ends_of t calls f.body (bound t f.parameters vs []) p k)
      (statements_below f.body (bound t f.parameters vs []) p k)

pub calls_fall : (t : Tables) (room : ℕ) → CallsFall (calls_of t room)
calls_fall t zero place f vs p k = tt
calls_fall t (suc room) place f vs p k =
    function_falls t (calls_of t room) (calls_fall t room) f vs p k

-- a transaction that traps

run_falls : (t : Tables) (o : Option FunctionTree) (p : PoolMap) (args : List ℤ) (k : ℕ)
    → Falls k (run_transaction t o p args k)
run_falls t None p args k = same k
run_falls t (Some f) p args k = function_falls t (calls_of t 255) (calls_fall t 255) f args p k

abbrev OwnOutcome : Outcome → Type 0
OwnOutcome (Done p v) = Unit {0}
OwnOutcome (Trap kind) = IsOwn kind

outcome_own : (k : ℕ) (o : Out ℤ) → Falls k o → OwnOutcome (outcome o)
outcome_own k (Got v p j) h = tt
outcome_own k (Stops trap) h = h

pub never_full : NeverFullLaw
never_full t p number args ticks is =
    subst OwnOutcome is (outcome_own ticks (run_transaction t (transaction t number) p args ticks)
    (run_falls t (transaction t number) p args ticks))
