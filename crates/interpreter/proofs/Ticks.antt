-- Ticks never rise: an expression, a statement or a call leaves no more ticks than it was given. So
-- a loop that may take as many turns as ticks are left may as well take more, which are never
-- reached.
use Rattle.std.proofs.Common.{◌≡◌, ℕ, zero, suc, ◌≤◌, ℤ, pos, negsuc, List, [], length, Option}
use Rattle.std.proofs.Common.{None, Some, Result, Ok, Err, refl, ap, arith}
use Rattle.c_tree.specs.ExprTree.{ExprTree, Arguments, Ident}
use Rattle.c_tree.specs.ExprTree as expr
use Rattle.c_tree.specs.StmtTree.{StmtTree, Statements, SimpleTree, FirstTree, DeclarationTree}
use Rattle.c_tree.specs.StmtTree.{InitialTree}
use Rattle.c_tree.specs.StmtTree as stmt
use Rattle.c_tree.specs.ItemTree.{FunctionTree}
use Rattle.c_tree.specs.Operators.{update_binary}
use Rattle.c_tree.specs.declared.expr.IntType.{IntType}
use Rattle.c_tree.specs.declared.expr.IntType.TheVariants.{Signed}
use Rattle.c_tree.specs.declared.expr.BinaryOp.{BinaryOp}
use Rattle.c_tree.specs.declared.expr.BinaryOp.TheVariants as binary
use Rattle.c_tree.specs.declared.stmt.AssignOp.{AssignOp}
use Rattle.c_tree.specs.declared.stmt.AssignOp.TheVariants as assign
use Rattle.c_tree.specs.declared.stmt.StepOp.{StepOp}
use Rattle.c_tree.specs.declared.stmt.StepOp.TheVariants as step
use Rattle.std.specs.Option.{option_map_or}
use Rattle.c_types.specs.Expressions.{sides_type}
use Rattle.c_types.specs.Tables.{Tables, function_named}
use Rattle.pool_map.specs.declared.trap.TrapKind.TheVariants as trap
use Rattle.pool_map.specs.PoolMap.{PoolMap}
use Rattle.c_meaning.specs.declared.trap_at.TrapAt.{TrapAt}
use Rattle.pool_map.specs.declared.word.PoolWord.{PoolWord}
use Rattle.c_meaning.specs.Locals.{Local, scopes_of, bound}
use Rattle.c_meaning.specs.Access.{free_object}
use Rattle.c_meaning.specs.Operators.{binary_of}
use Rattle.interpreter.specs.inside.Resume.{body_end}
use Rattle.c_meaning.specs.Meaning.{Out, Got, Stops, StmtEnd, Next, Broke, Again, Gave, Traps}
use Rattle.c_meaning.specs.Meaning.{at_zero, tick, target_local}
use Rattle.c_meaning.specs.Meaning.{Calls, then_do, with_value, then_next, or_trap}
use Rattle.c_meaning.specs.Meaning.{loaded, strict, both, either, binary_means, called}
use Rattle.c_meaning.specs.Meaning.{value_of, pointer_of, values_of, operands_of, stored_end}
use Rattle.c_meaning.specs.Meaning.{assign_to, update, freed, assign_end, steps}
use Rattle.c_meaning.specs.Meaning.{end_of_simple, declaration_end, end_of_first, end_of_third}
use Rattle.c_meaning.specs.Meaning.{condition_of, return_end, in_scope, after_turn, turns}
use Rattle.c_meaning.specs.Meaning.{end_of_stmt, ends_of, given, calls_of, placed_trap, located}
use Rattle.c_meaning.specs.Meaning.{at_place}

-- at most n ticks are left
abbrev pub Within : {A : Type 0} → ℕ → Out A → Type 0
Within n (Got a p k) = k ≤ n
Within n (Stops trap) = Unit {0}

abbrev pub Ends : ℕ → StmtEnd → Type 0
Ends n (Next ls p k) = k ≤ n
Ends n (Broke ls p k) = k ≤ n
Ends n (Again ls p k) = k ≤ n
Ends n (Gave v p k) = k ≤ n
Ends n (Traps trap) = Unit {0}

abbrev pub CallsWithin : Calls → Type 0
CallsWithin calls = (place : ℕ) (f : FunctionTree) (vs : List ℤ) (p : PoolMap) (k n : ℕ) → k ≤ n
    → Within n (calls place f vs p k)

within-then : {A B : Type 0} (n : ℕ) (a : Out A) (f : A → PoolMap → ℕ → Out B) → Within n a
    → ((x : A) (p : PoolMap) (k : ℕ) → k ≤ n → Within n (f x p k)) → Within n (then_do a f)
within-then n (Got x p k) f h go = go x p k h
within-then n (Stops trap) f h go = tt

within-zero : {A : Type 0} (n : ℕ) (v : ℤ) (a b : Out A) → Within n a → Within n b
    → Within n (at_zero v a b)
within-zero n (pos zero) a b ha hb = ha
within-zero n (pos (suc x)) a b ha hb = hb
within-zero n (negsuc x) a b ha hb = hb

within-or_trap : {A : Type 0} (n : ℕ) (o : Option A) (t : TrapAt) (p : PoolMap) (k : ℕ) → k ≤ n
    → Within n (or_trap o t p k)
within-or_trap n None t p k le = tt
within-or_trap n (Some a) t p k le = le

within-loaded : (n : ℕ) (r : Result PoolWord TrapAt) (p : PoolMap) (k : ℕ) → k ≤ n
    → Within n (loaded r p k)
within-loaded n (Ok w) p k le = le
within-loaded n (Err t) p k le = tt

within-tick : {A : Type 0} (n k : ℕ) (t : TrapAt) (go : ℕ → Out A) → k ≤ n
    → ((m : ℕ) → m ≤ n → Within n (go m)) → Within n (tick k (Stops t) go)
within-tick n zero t go le h = tt
within-tick n (suc k) t go le h = h k (omega (arith, le))

-- a computation that never leaves more ticks than it was given
abbrev Keeps : (PoolMap → ℕ → Out ℤ) → Type 0
Keeps b = (p : PoolMap) (k n : ℕ) → k ≤ n → Within n (b p k)

within-joined : (n : ℕ) (op : BinaryOp) (int : IntType) (place : ℕ) (a : Out ℤ)
    (b : PoolMap → ℕ → Out ℤ)
    → Within n a → Keeps b
    → Within n (strict op int place a b)
within-joined n op int place a b ha hb =
    within-then n a _ ha (λ x p k le.
    within-then n (b p k) _ (hb p k n le) (λ y p k le.
    within-or_trap n (binary_of op int x y) (placed_trap trap.Divide place) p k le))

within-truth : (n : ℕ) (b : Out ℤ) → Within n b
    → Within n (then_do b (λ y p k. Got (at_zero y (pos 0) (pos 1)) p k))
within-truth n b hb = within-then n b _ hb (λ y p k le. le)

within-both : (n : ℕ) (a : Out ℤ) (b : PoolMap → ℕ → Out ℤ) → Within n a → Keeps b
    → Within n (both a b)
within-both n a b ha hb = within-then n a _ ha (λ x p k le.
    within-zero n x (Got (pos 0) p k) _ le (within-truth n (b p k) (hb p k n le)))

within-either : (n : ℕ) (a : Out ℤ) (b : PoolMap → ℕ → Out ℤ) → Within n a → Keeps b
    → Within n (either a b)
within-either n a b ha hb = within-then n a _ ha (λ x p k le.
    within-zero n x _ (Got (pos 1) p k) (within-truth n (b p k) (hb p k n le)) le)

within-binary : (n : ℕ) (op : BinaryOp) (int : IntType) (place : ℕ) (a : Out ℤ)
    (b : PoolMap → ℕ → Out ℤ)
    → Within n a → Keeps b
    → Within n (binary_means op int place a b)
within-binary n binary.Both int place a b ha hb = within-both n a b ha hb
within-binary n binary.Either int place a b ha hb = within-either n a b ha hb
within-binary n binary.Mul int place a b ha hb = within-joined n binary.Mul int place a b ha hb
within-binary n binary.Div int place a b ha hb = within-joined n binary.Div int place a b ha hb
within-binary n binary.Rem int place a b ha hb = within-joined n binary.Rem int place a b ha hb
within-binary n binary.Add int place a b ha hb = within-joined n binary.Add int place a b ha hb
within-binary n binary.Sub int place a b ha hb = within-joined n binary.Sub int place a b ha hb
within-binary n binary.ShiftLeft int place a b ha hb =
    within-joined n binary.ShiftLeft int place a b ha hb
within-binary n binary.ShiftRight int place a b ha hb =
    within-joined n binary.ShiftRight int place a b ha hb
within-binary n binary.Less int place a b ha hb = within-joined n binary.Less int place a b ha hb
within-binary n binary.LessEqual int place a b ha hb =
    within-joined n binary.LessEqual int place a b ha hb
within-binary n binary.Greater int place a b ha hb =
    within-joined n binary.Greater int place a b ha hb
within-binary n binary.GreaterEqual int place a b ha hb =
    within-joined n binary.GreaterEqual int place a b ha hb
within-binary n binary.Equal int place a b ha hb = within-joined n binary.Equal int place a b ha hb
within-binary n binary.NotEqual int place a b ha hb =
    within-joined n binary.NotEqual int place a b ha hb
within-binary n binary.And int place a b ha hb = within-joined n binary.And int place a b ha hb
within-binary n binary.Xor int place a b ha hb = within-joined n binary.Xor int place a b ha hb
within-binary n binary.Or int place a b ha hb = within-joined n binary.Or int place a b ha hb

within-called : (n : ℕ) (calls : Calls) (place : ℕ) (o : Option FunctionTree)
    (arguments : FunctionTree → Out (List ℤ)) (p : PoolMap) (k : ℕ)
    → CallsWithin calls → ((f : FunctionTree) → Within n (arguments f)) → k ≤ n
    → Within n (called calls place o arguments p k)
within-called n calls place None arguments p k h ha le = le
within-called n calls place (Some f) arguments p k h ha le = within-then n (arguments f) _ (ha f)
    (λ vs p k le. within-tick n k (placed_trap trap.Steps place) _ le
    (λ m le. h place f vs p m n le))

mutual
  pub within-value : (t : Tables) (calls : Calls) (h : CallsWithin calls) (e : ExprTree)
      (ls : List Local) (p : PoolMap) (k n : ℕ)
      → k ≤ n → Within n (value_of t calls e ls p k)
  within-value t calls h (expr.Number x) ls p k n le = le
  within-value t calls h expr.Null ls p k n le = le
  within-value t calls h (expr.Variable name) ls p k n le = le
  within-value t calls h (expr.Call name all) ls p k n le =
      within-called n calls name.place (function_named t name.text) _ p k h
      (λ f. within-values t calls h all ls p k n le) le
  within-value t calls h (expr.New place name) ls p k n le = le
  within-value t calls h (expr.Root name) ls p k n le =
      within-loaded n (located t ls p (expr.Root name) (pos 0) None) p k le
  within-value t calls h (expr.Arrow base place name) ls p k n le =
      within-then n (value_of t calls base ls p k) _
      (within-value t calls h base ls p k n le) (λ b p k le.
      within-loaded n (located t ls p (expr.Arrow base place name) b None) p k le)
  within-value t calls h (expr.Index a place i) ls p k n le =
      within-then n (pointer_of t calls a ls p k) _ (within-pointer t calls h a ls p k n le)
      (λ b p k le. within-then n (value_of t calls i ls p k) _
      (within-value t calls h i ls p k n le)
      (λ j p k le. within-loaded n (located t ls p (expr.Index a place i) b (Some j)) p k le))
  within-value t calls h (expr.Unary op place a) ls p k n le =
      within-then n (value_of t calls a ls p k) _ (within-value t calls h a ls p k n le)
      (λ x p k le. le)
  within-value t calls h (expr.Binary op place a b) ls p k n le =
      within-binary n op (sides_type t (scopes_of ls) op a b) place (value_of t calls a ls p k) _
      (within-value t calls h a ls p k n le) (λ p k n le. within-value t calls h b ls p k n le)
  within-value t calls h (expr.Conditional c place a b) ls p k n le =
      within-then n (value_of t calls c ls p k) _ (within-value t calls h c ls p k n le)
      (λ x p k le. within-zero n x (value_of t calls b ls p k) (value_of t calls a ls p k)
      (within-value t calls h b ls p k n le) (within-value t calls h a ls p k n le))

  pub within-pointer : (t : Tables) (calls : Calls) (h : CallsWithin calls) (e : ExprTree)
      (ls : List Local) (p : PoolMap) (k n : ℕ)
      → k ≤ n → Within n (pointer_of t calls e ls p k)
  within-pointer t calls h (expr.Arrow base place name) ls p k n le =
      within-value t calls h base ls p k n le
  within-pointer t calls h (expr.Root name) ls p k n le = le
  within-pointer t calls h (expr.Number x) ls p k n le = le
  within-pointer t calls h expr.Null ls p k n le = le
  within-pointer t calls h (expr.Variable name) ls p k n le = le
  within-pointer t calls h (expr.Call name all) ls p k n le = le
  within-pointer t calls h (expr.New place name) ls p k n le = le
  within-pointer t calls h (expr.Index a place i) ls p k n le = le
  within-pointer t calls h (expr.Unary op place a) ls p k n le = le
  within-pointer t calls h (expr.Binary op place a b) ls p k n le = le
  within-pointer t calls h (expr.Conditional c place a b) ls p k n le = le

  pub within-values : (t : Tables) (calls : Calls) (h : CallsWithin calls) (es : Arguments)
      (ls : List Local) (p : PoolMap) (k n : ℕ)
      → k ≤ n → Within n (values_of t calls es ls p k)
  within-values t calls h expr.None ls p k n le = le
  within-values t calls h (expr.More first e rest) ls p k n le =
      within-then n (value_of t calls e ls p k) _ (within-value t calls h e ls p k n le)
      (λ v p k le. within-then n (values_of t calls rest ls p k) _
      (within-values t calls h rest ls p k n le) (λ vs p k le. le))

within-operands : (t : Tables) (calls : Calls) (h : CallsWithin calls) (e : ExprTree)
    (ls : List Local) (p : PoolMap) (k n : ℕ)
    → k ≤ n → Within n (operands_of t calls e ls p k)
within-operands t calls h (expr.Index a place i) ls p k n le =
    within-then n (pointer_of t calls a ls p k) _ (within-pointer t calls h a ls p k n le)
    (λ b p k le. within-then n (value_of t calls i ls p k) _ (within-value t calls h i ls p k n le)
    (λ j p k le. le))
within-operands t calls h (expr.Arrow base place name) ls p k n le =
    within-then n (value_of t calls base ls p k) _ (within-value t calls h base ls p k n le)
    (λ b p k le. le)
within-operands t calls h (expr.Root name) ls p k n le = le
within-operands t calls h (expr.Number x) ls p k n le = le
within-operands t calls h expr.Null ls p k n le = le
within-operands t calls h (expr.Variable name) ls p k n le = le
within-operands t calls h (expr.Call name all) ls p k n le = le
within-operands t calls h (expr.New place name) ls p k n le = le
within-operands t calls h (expr.Unary op place a) ls p k n le = le
within-operands t calls h (expr.Binary op place a b) ls p k n le = le
within-operands t calls h (expr.Conditional c place a b) ls p k n le = le

ends-with : {A : Type 0} (n : ℕ) (a : Out A) (f : A → PoolMap → ℕ → StmtEnd) → Within n a
    → ((x : A) (p : PoolMap) (k : ℕ) → k ≤ n → Ends n (f x p k)) → Ends n (with_value a f)
ends-with n (Got x p k) f h go = go x p k h
ends-with n (Stops trap) f h go = tt

ends-then : (n : ℕ) (e : StmtEnd) (f : List Local → PoolMap → ℕ → StmtEnd) → Ends n e
    → ((ls : List Local) (p : PoolMap) (k : ℕ) → k ≤ n → Ends n (f ls p k)) → Ends n (then_next e f)
ends-then n (Next ls p k) f h go = go ls p k h
ends-then n (Broke ls p k) f h go = h
ends-then n (Again ls p k) f h go = h
ends-then n (Gave v p k) f h go = h
ends-then n (Traps trap) f h go = tt

ends-after : (n : ℕ) (e : StmtEnd) (f : List Local → PoolMap → ℕ → StmtEnd) → Ends n e
    → ((ls : List Local) (p : PoolMap) (k : ℕ) → k ≤ n → Ends n (f ls p k))
    → Ends n (after_turn e f)
ends-after n (Next ls p k) f h go = go ls p k h
ends-after n (Again ls p k) f h go = go ls p k h
ends-after n (Broke ls p k) f h go = h
ends-after n (Gave v p k) f h go = h
ends-after n (Traps trap) f h go = tt

ends-scope : (n count : ℕ) (e : StmtEnd) → Ends n e → Ends n (in_scope count e)
ends-scope n count (Next ls p k) h = h
ends-scope n count (Broke ls p k) h = h
ends-scope n count (Again ls p k) h = h
ends-scope n count (Gave v p k) h = h
ends-scope n count (Traps trap) h = tt

ends-zero : (n : ℕ) (v : ℤ) (a b : StmtEnd) → Ends n a → Ends n b → Ends n (at_zero v a b)
ends-zero n (pos zero) a b ha hb = ha
ends-zero n (pos (suc x)) a b ha hb = hb
ends-zero n (negsuc x) a b ha hb = hb

ends-tick : (n k : ℕ) (kind : TrapAt) (go : ℕ → StmtEnd) → k ≤ n
    → ((m : ℕ) → m ≤ n → Ends n (go m)) → Ends n (tick k (Traps kind) go)
ends-tick n zero kind go le h = tt
ends-tick n (suc k) kind go le h = h k (omega (arith, le))

ends-stored : (n : ℕ) (r : Result PoolWord TrapAt) (v : ℤ) (ls : List Local) (p : PoolMap) (k : ℕ)
    → k ≤ n → Ends n (stored_end r v ls p k)
ends-stored n (Ok w) v ls p k le = le
ends-stored n (Err kind) v ls p k le = tt

ends-freed : (n : ℕ) (r : Result PoolMap TrapAt) (ls : List Local) (k : ℕ) → k ≤ n
    → Ends n (freed r ls k)
ends-freed n (Ok p) ls k le = le
ends-freed n (Err kind) ls k le = tt

ends-assign_to : (t : Tables) (calls : Calls) (h : CallsWithin calls) (o : Option (List ℕ))
    (target : ExprTree) (value : PoolMap → ℕ → Out ℤ)
    (hv : Keeps value) (ls : List Local) (p : PoolMap) (k n : ℕ) → k ≤ n
    → Ends n (assign_to t calls o target value ls p k)
ends-assign_to t calls h (Some name) target value hv ls p k n le =
    ends-with n (value p k) _ (hv p k n le) (λ v p k le. le)
ends-assign_to t calls h None target value hv ls p k n le =
    ends-with n (operands_of t calls target ls p k) _ (within-operands t calls h target ls p k n le)
    (λ o p k le. ends-with n (value p k) _ (hv p k n le) (λ v p k le.
    ends-stored n (located t ls p target o.0 o.1) v ls p k le))

ends-update : (t : Tables) (calls : Calls) (h : CallsWithin calls) (o : Option (List ℕ))
    (target : ExprTree) (op : BinaryOp) (int : IntType) (place : ℕ) (value : PoolMap → ℕ → Out ℤ)
    (hv : Keeps value) (ls : List Local) (p : PoolMap) (k n : ℕ) → k ≤ n
    → Ends n (update t calls o target op int place value ls p k)
ends-update t calls h (Some name) target op int place value hv ls p k n le =
    ends-with n (value p k) _ (hv p k n le)
    (λ y p k le. ends-with n (or_trap (binary_of op int _ y) (placed_trap trap.Divide place) p k) _
    (within-or_trap n (binary_of op int _ y) (placed_trap trap.Divide place) p k le)
    (λ v p k le. le))
ends-update t calls h None target op int place value hv ls p k n le =
    ends-with n (operands_of t calls target ls p k) _ (within-operands t calls h target ls p k n le)
    (λ o p k le. ends-with n (loaded (located t ls p target o.0 o.1) p k) _
    (within-loaded n (located t ls p target o.0 o.1) p k le)
    (λ x p k le. ends-with n (value p k) _ (hv p k n le)
    (λ y p k le. ends-with n (or_trap (binary_of op int x y) (placed_trap trap.Divide place) p k) _
    (within-or_trap n (binary_of op int x y) (placed_trap trap.Divide place) p k le)
    (λ v p k le. ends-stored n (located t ls p target o.0 o.1) v ls p k le))))

ends-assigns : (t : Tables) (calls : Calls) (h : CallsWithin calls) (op : AssignOp) (place : ℕ)
    (target e : ExprTree) (ls : List Local) (p : PoolMap) (k n : ℕ)
    → k ≤ n → Ends n (assign_end t calls op place target e ls p k)
ends-assigns t calls h assign.Set place target e ls p k n le =
    ends-assign_to t calls h (target_local target) target _ (λ p k n le.
    within-value t calls h e ls p k n le) ls p k n le
ends-assigns t calls h (assign.Update op) place target e ls p k n le =
    ends-update t calls h (target_local target) target (update_binary op)
    (sides_type t (scopes_of ls) (update_binary op) target e) place _ (λ p k n le.
    within-value t calls h e ls p k n le) ls p k n le

ends-steps : (t : Tables) (calls : Calls) (h : CallsWithin calls) (op : StepOp) (place : ℕ)
    (target : ExprTree) (ls : List Local) (p : PoolMap) (k n : ℕ)
    → k ≤ n → Ends n (steps t calls op place target ls p k)
ends-steps t calls h step.Up place target ls p k n le =
    ends-update t calls h (target_local target) target binary.Add Signed place _
    (λ p k n le. le) ls p k n le
ends-steps t calls h step.Down place target ls p k n le =
    ends-update t calls h (target_local target) target binary.Sub Signed place _
    (λ p k n le. le) ls p k n le

ends-simple : (t : Tables) (calls : Calls) (h : CallsWithin calls) (x : SimpleTree)
    (ls : List Local) (p : PoolMap) (k n : ℕ)
    → k ≤ n → Ends n (end_of_simple t calls x ls p k)
ends-simple t calls h (stmt.Assign target op place e) ls p k n le =
    ends-assigns t calls h op place target e ls p k n le
ends-simple t calls h (stmt.Step target op place) ls p k n le =
    ends-steps t calls h op place target ls p k n le
ends-simple t calls h (stmt.Call name all) ls p k n le =
    ends-with n (value_of t calls (expr.Call name all) ls p k) _
    (within-value t calls h (expr.Call name all) ls p k n le) (λ v p k le. le)
ends-simple t calls h (stmt.Free place e) ls p k n le =
    ends-with n (value_of t calls e ls p k) _ (within-value t calls h e ls p k n le)
    (λ v p k le. ends-freed n (at_place place (free_object t ls p e v)) ls k le)
ends-simple t calls h (stmt.Abort place) ls p k n le = tt

within-initial : (t : Tables) (calls : Calls) (h : CallsWithin calls) (o : Option InitialTree)
    (ls : List Local) (p : PoolMap) (k n : ℕ)
    → k ≤ n → Within n (option_map_or (λ i. value_of t calls i.value ls p k) o (Got (pos 0) p k))
within-initial t calls h None ls p k n le = le
within-initial t calls h (Some i) ls p k n le = within-value t calls h i.value ls p k n le

ends-declaration : (t : Tables) (calls : Calls) (h : CallsWithin calls) (d : DeclarationTree)
    (ls : List Local) (p : PoolMap) (k n : ℕ)
    → k ≤ n → Ends n (declaration_end t calls d ls p k)
ends-declaration t calls h d ls p k n le =
    ends-with n (option_map_or (λ i. value_of t calls i.value ls p k) d.initial (Got (pos 0) p k)) _
    (within-initial t calls h d.initial ls p k n le) (λ v p k le. le)

ends-first : (t : Tables) (calls : Calls) (h : CallsWithin calls) (o : Option FirstTree)
    (ls : List Local) (p : PoolMap) (k n : ℕ)
    → k ≤ n → Ends n (end_of_first t calls o ls p k)
ends-first t calls h None ls p k n le = le
ends-first t calls h (Some (stmt.Declare d)) ls p k n le = ends-declaration t calls h d ls p k n le
ends-first t calls h (Some (stmt.Simply x)) ls p k n le = ends-simple t calls h x ls p k n le

pub ends-third : (t : Tables) (calls : Calls) (h : CallsWithin calls) (o : Option SimpleTree)
    (ls : List Local) (p : PoolMap) (k n : ℕ)
    → k ≤ n → Ends n (end_of_third t calls o ls p k)
ends-third t calls h None ls p k n le = le
ends-third t calls h (Some x) ls p k n le = ends-simple t calls h x ls p k n le

pub within-condition : (t : Tables) (calls : Calls) (h : CallsWithin calls) (o : Option ExprTree)
    (ls : List Local) (p : PoolMap) (k n : ℕ)
    → k ≤ n → Within n (condition_of t calls o ls p k)
within-condition t calls h None ls p k n le = le
within-condition t calls h (Some e) ls p k n le = within-value t calls h e ls p k n le

ends-return : (t : Tables) (calls : Calls) (h : CallsWithin calls) (o : Option ExprTree)
    (ls : List Local) (p : PoolMap) (k n : ℕ)
    → k ≤ n → Ends n (return_end t calls o ls p k)
ends-return t calls h None ls p k n le = le
ends-return t calls h (Some e) ls p k n le =
    ends-with n (value_of t calls e ls p k) _ (within-value t calls h e ls p k n le)
    (λ v p k le. le)

abbrev pub Tests : (List Local → PoolMap → ℕ → Out ℤ) → Type 0
Tests test = (ls : List Local) (p : PoolMap) (k n : ℕ) → k ≤ n → Within n (test ls p k)

abbrev pub Does : (List Local → PoolMap → ℕ → StmtEnd) → Type 0
Does body = (ls : List Local) (p : PoolMap) (k n : ℕ) → k ≤ n → Ends n (body ls p k)

ends-turns : (m place : ℕ) (test : List Local → PoolMap → ℕ → Out ℤ)
    (body third : List Local → PoolMap → ℕ → StmtEnd) (ht : Tests test) (hb : Does body)
    (h3 : Does third) (ls : List Local) (p : PoolMap) (k n : ℕ) → k ≤ n
    → Ends n (turns m place test body third ls p k)
ends-turns zero place test body third ht hb h3 ls p k n le = tt
ends-turns (suc m) place test body third ht hb h3 ls p k n le =
    ends-tick n k (placed_trap trap.Steps place) _ le
    (λ k le. ends-with n (test ls p k) _ (ht ls p k n le)
    (λ v p k le. ends-zero n v (Next ls p k) _ le (ends-after n (body ls p k) _ (hb ls p k n le)
    (λ ls p k le. ends-then n (third ls p k) _ (h3 ls p k n le) (λ ls p k le.
    ends-turns m place test body third ht hb h3 ls p k n le)))))

mutual
  pub ends-stmt : (t : Tables) (calls : Calls) (h : CallsWithin calls) (s : StmtTree)
      (ls : List Local) (p : PoolMap) (k n : ℕ)
      → k ≤ n → Ends n (end_of_stmt t calls s ls p k)
  ends-stmt t calls h stmt.Empty ls p k n le = le
  ends-stmt t calls h (stmt.Declares d) ls p k n le = ends-declaration t calls h d ls p k n le
  ends-stmt t calls h (stmt.Simple x) ls p k n le = ends-simple t calls h x ls p k n le
  ends-stmt t calls h (stmt.Block all) ls p k n le =
      ends-scope n (length ls) (ends_of t calls all ls p k) (ends-all t calls h all ls p k n le)
  ends-stmt t calls h (stmt.If c a) ls p k n le =
      ends-with n (value_of t calls c ls p k) _ (within-value t calls h c ls p k n le)
      (λ v p k le. ends-zero n v (Next ls p k) _ le
      (ends-scope n (length ls) (end_of_stmt t calls a ls p k)
      (ends-stmt t calls h a ls p k n le)))
  ends-stmt t calls h (stmt.IfElse c a b) ls p k n le =
      ends-with n (value_of t calls c ls p k) _ (within-value t calls h c ls p k n le)
      (λ v p k le. ends-zero n v _ _
      (ends-scope n (length ls) (end_of_stmt t calls b ls p k)
      (ends-stmt t calls h b ls p k n le))
      (ends-scope n (length ls) (end_of_stmt t calls a ls p k) (ends-stmt t calls h a ls p k n le)))
  ends-stmt t calls h (stmt.While place c a) ls p k n le =
      ends-turns k place _ _ _ (λ ls p k n le. within-value t calls h c ls p k n le)
      (λ ls p k n le. ends-scope n (length ls) (end_of_stmt t calls a ls p k)
      (ends-stmt t calls h a ls p k n le)) (λ ls p k n le. le) ls p k n le
  ends-stmt t calls h (stmt.Do place a c) ls p k n le =
      ends-after n (in_scope (length ls) (end_of_stmt t calls a ls p k)) _
      (ends-scope n (length ls) (end_of_stmt t calls a ls p k) (ends-stmt t calls h a ls p k n le))
      (λ ls p k le. ends-turns k place _ _ _ (λ ls p k n le. within-value t calls h c ls p k n le)
      (λ ls p k n le. ends-scope n (length ls) (end_of_stmt t calls a ls p k)
      (ends-stmt t calls h a ls p k n le)) (λ ls p k n le. le) ls p k n le)
  ends-stmt t calls h (stmt.For place first c third a) ls p k n le =
      ends-scope n (length ls) _ (ends-then n (end_of_first t calls first ls p k) _
      (ends-first t calls h first ls p k n le)
      (λ ls p k le. ends-turns k place _ _ _
      (λ ls p k n le. within-condition t calls h c ls p k n le)
      (λ ls p k n le. ends-scope n (length ls) (end_of_stmt t calls a ls p k)
      (ends-stmt t calls h a ls p k n le)) (λ ls p k n le. ends-third t calls h third ls p k n le)
      ls p k n le))
  ends-stmt t calls h stmt.Break ls p k n le = le
  ends-stmt t calls h stmt.Continue ls p k n le = le
  ends-stmt t calls h (stmt.Return place e) ls p k n le = ends-return t calls h e ls p k n le

  pub ends-all : (t : Tables) (calls : Calls) (h : CallsWithin calls) (ss : Statements)
      (ls : List Local) (p : PoolMap) (k n : ℕ)
      → k ≤ n → Ends n (ends_of t calls ss ls p k)
  ends-all t calls h stmt.Nothing ls p k n le = le
  ends-all t calls h (stmt.Then x xs) ls p k n le =
      ends-then n (end_of_stmt t calls x ls p k) _ (ends-stmt t calls h x ls p k n le)
      (λ ls p k le. ends-all t calls h xs ls p k n le)

pub ends-body : (t : Tables) (calls : Calls) (h : CallsWithin calls) (s : StmtTree)
    (ls : List Local) (p : PoolMap) (k n : ℕ)
    → k ≤ n → Ends n (body_end t calls s ls p k)
ends-body t calls h (stmt.While place c a) ls p k n le =
    ends-scope n (length ls) (end_of_stmt t calls a ls p k) (ends-stmt t calls h a ls p k n le)
ends-body t calls h (stmt.Do place a c) ls p k n le =
    ends-scope n (length ls) (end_of_stmt t calls a ls p k) (ends-stmt t calls h a ls p k n le)
ends-body t calls h (stmt.For place first c third a) ls p k n le =
    ends-scope n (length ls) (end_of_stmt t calls a ls p k) (ends-stmt t calls h a ls p k n le)
ends-body t calls h stmt.Empty ls p k n le = le
ends-body t calls h (stmt.Declares d) ls p k n le = le
ends-body t calls h (stmt.Simple x) ls p k n le = le
ends-body t calls h (stmt.Block all) ls p k n le = le
ends-body t calls h (stmt.If c a) ls p k n le = le
ends-body t calls h (stmt.IfElse c a b) ls p k n le = le
ends-body t calls h stmt.Break ls p k n le = le
ends-body t calls h stmt.Continue ls p k n le = le
ends-body t calls h (stmt.Return place e) ls p k n le = le

within-given : (n : ℕ) (e : StmtEnd) → Ends n e → Within n (given e)
within-given n (Next ls p k) h = h
within-given n (Broke ls p k) h = h
within-given n (Again ls p k) h = h
within-given n (Gave v p k) h = h
within-given n (Traps trap) h = tt

pub within-calls : (t : Tables) (room : ℕ) → CallsWithin (calls_of t room)
within-calls t zero place f vs p k n le = tt
within-calls t (suc room) place f vs p k n le =
    within-given n (ends_of t (calls_of t room) f.body (bound t f.parameters vs []) p k)
    (ends-all t (calls_of t room) (within-calls t room) f.body
    (bound t f.parameters vs []) p k n le)

-- two continuations give the same end if they agree whenever at most n ticks are left
same-with : {A : Type 0} (n : ℕ) (a : Out A) (f g : A → PoolMap → ℕ → StmtEnd) → Within n a
    → ((x : A) (p : PoolMap) (k : ℕ) → k ≤ n → f x p k ≡ g x p k) → with_value a f ≡ with_value a g
same-with n (Got x p k) f g h go = go x p k h
same-with n (Stops trap) f g h go = refl

same-after : (n : ℕ) (e : StmtEnd) (f g : List Local → PoolMap → ℕ → StmtEnd) → Ends n e
    → ((ls : List Local) (p : PoolMap) (k : ℕ) → k ≤ n → f ls p k ≡ g ls p k)
    → after_turn e f ≡ after_turn e g
same-after n (Next ls p k) f g h go = go ls p k h
same-after n (Again ls p k) f g h go = go ls p k h
same-after n (Broke ls p k) f g h go = refl
same-after n (Gave v p k) f g h go = refl
same-after n (Traps trap) f g h go = refl

same-next : (n : ℕ) (e : StmtEnd) (f g : List Local → PoolMap → ℕ → StmtEnd) → Ends n e
    → ((ls : List Local) (p : PoolMap) (k : ℕ) → k ≤ n → f ls p k ≡ g ls p k)
    → then_next e f ≡ then_next e g
same-next n (Next ls p k) f g h go = go ls p k h
same-next n (Again ls p k) f g h go = refl
same-next n (Broke ls p k) f g h go = refl
same-next n (Gave v p k) f g h go = refl
same-next n (Traps trap) f g h go = refl

-- one turn of a loop, and then the given other turns
abbrev pub turn_then : (List Local → PoolMap → ℕ → Out ℤ)
    → (body third more : List Local → PoolMap → ℕ → StmtEnd) → List Local → PoolMap → ℕ → StmtEnd
turn_then test body third more ls p k = with_value (test ls p k)
    (λ v p k. at_zero v (Next ls p k)
    (after_turn (body ls p k) (λ ls p k. then_next (third ls p k) (λ ls p k. more ls p k))))

turn-same : (m : ℕ) (test : List Local → PoolMap → ℕ → Out ℤ) (body third f g : List Local → PoolMap
    → ℕ → StmtEnd) (ht : Tests test) (hb : Does body) (h3 : Does third)
    (ls : List Local) (p : PoolMap) (k : ℕ) → k ≤ m
    → ((ls : List Local) (p : PoolMap) (k : ℕ) → k ≤ m → f ls p k ≡ g ls p k)
    → turn_then test body third f ls p k ≡ turn_then test body third g ls p k
turn-same m test body third f g ht hb h3 ls p k le same =
    same-with m (test ls p k) _ _ (ht ls p k m le)
    (λ v p k le. ap (at_zero v (Next ls p k)) (same-after m (body ls p k) _ _ (hb ls p k m le)
    (λ ls p k le. same-next m (third ls p k) _ _ (h3 ls p k m le) same)))

-- allowing more turns than there are ticks changes nothing
turns-same : (m n place : ℕ) (test : List Local → PoolMap → ℕ → Out ℤ)
    (body third : List Local → PoolMap → ℕ → StmtEnd) (ht : Tests test) (hb : Does body)
    (h3 : Does third) (ls : List Local) (p : PoolMap) (k : ℕ) → k ≤ m → k ≤ n
    → turns m place test body third ls p k ≡ turns n place test body third ls p k
turns-same zero zero place test body third ht hb h3 ls p k le le' = refl
turns-same zero (suc n) place test body third ht hb h3 ls p zero le le' = refl
turns-same zero (suc n) place test body third ht hb h3 ls p (suc k) le le' =
    absurd (omega (arith, le))
turns-same (suc m) zero place test body third ht hb h3 ls p zero le le' = refl
turns-same (suc m) zero place test body third ht hb h3 ls p (suc k) le le' =
    absurd (omega (arith, le'))
turns-same (suc m) (suc n) place test body third ht hb h3 ls p zero le le' = refl
turns-same (suc m) (suc n) place test body third ht hb h3 ls p (suc k) le le' =
    turn-same k test body third (λ ls p k. turns m place test body third ls p k) (λ ls p k.
    turns n place test body third ls p k) ht hb h3 ls p k (omega arith)
    (λ ls p j lj. turns-same m n place test body third ht hb h3 ls p j (omega (arith, le, lj))
    (omega (arith, le', lj)))

-- all turns of a loop: the first, and then as many as the ticks allow
pub turns-more : (place : ℕ) (test : List Local → PoolMap → ℕ → Out ℤ)
    (body third : List Local → PoolMap → ℕ → StmtEnd) (ht : Tests test) (hb : Does body)
    (h3 : Does third) (ls : List Local) (p : PoolMap) (k : ℕ)
    → turns (suc k) place test body third ls p (suc k) ≡ turn_then test body third (λ ls p k.
    turns k place test body third ls p k) ls p k
turns-more place test body third ht hb h3 ls p k =
    turn-same k test body third (λ ls p j. turns k place test body third ls p j) (λ ls p j.
    turns j place test body third ls p j) ht hb h3 ls p k (omega arith)
    (λ ls p j lj. turns-same k j place test body third ht hb h3 ls p j lj (omega arith))
