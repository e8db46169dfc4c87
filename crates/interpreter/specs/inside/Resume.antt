-- The outcome of the remaining work list. Each item of it has a meaning by the definition of the
-- program's meaning, so a run in progress has the outcome of all remaining items, one after
-- another, from how the last statement ended.
use Rattle.std.specs.Prelude.{◌≡◌, map, ℕ, zero, suc, ◌-◌, ℤ, pos, List, [], ◌∷◌, length, take}
use Rattle.std.specs.Prelude.{drop, reverse, Option, None, Some, Result, Ok, Err}
use Rattle.c_tree.specs.ExprTree.{ExprTree}
use Rattle.c_tree.specs.ExprTree as expr
use Rattle.c_tree.specs.StmtTree.{StmtTree, SimpleTree}
use Rattle.c_tree.specs.StmtTree as stmt
use Rattle.c_tree.specs.ItemTree.{FunctionTree}
use Rattle.c_types.specs.Tables.{Tables, declared_type}
use Rattle.pool_map.specs.declared.trap.TrapKind.{TrapKind}
use Rattle.pool_map.specs.declared.trap.TrapKind.TheVariants as trap
use Rattle.pool_map.specs.PoolMap.{PoolMap}
use Rattle.interpreter.specs.declared.fault.Fault.{Fault}
use Rattle.interpreter.specs.declared.fault.Fault.TheVariants.{NoMemory, Trapped}
use Rattle.interpreter.specs.declared.work.ExprTask.{ExprTask}
use Rattle.interpreter.specs.declared.work.ExprTask.TheVariants as expr_task
use Rattle.interpreter.specs.declared.work.StmtTask.{StmtTask}
use Rattle.interpreter.specs.declared.work.StmtTask.TheVariants as stmt_task
use Rattle.interpreter.specs.declared.work.WordTask.{WordTask}
use Rattle.interpreter.specs.declared.work.WordTask.TheVariants as word_task
use Rattle.interpreter.specs.declared.work.Flow.{Flow}
use Rattle.interpreter.specs.declared.work.Flow.TheVariants as flow
use Rattle.c_meaning.specs.Locals.{Local, assigned, local_declared, bound}
use Rattle.pool_map.specs.declared.word.PoolWord.{PoolWord}
use Rattle.c_meaning.specs.Access.{free_object}
use Rattle.c_meaning.specs.Operators.{unary_of, binary_of}
use Rattle.c_meaning.specs.declared.trap_at.TrapAt.{TrapAt}
use Rattle.c_meaning.specs.Meaning.{Out, Got, Stops, StmtEnd, Next, Broke, Again, Gave, Traps}
use Rattle.c_meaning.specs.Meaning.{at_zero, tick, Calls, then_do, then_next, or_trap, loaded}
use Rattle.c_meaning.specs.Meaning.{stored_end, freed, value_of, values_of, operands_of}
use Rattle.c_meaning.specs.Meaning.{end_of_simple, end_of_third, condition_of, in_scope}
use Rattle.c_meaning.specs.Meaning.{after_turn, turns, end_of_stmt, ends_of, given, calls_of}
use Rattle.c_meaning.specs.Meaning.{placed_trap, located, at_place}
use Rattle.interpreter.specs.declared.work.Work.{Work}
use Rattle.interpreter.specs.declared.work.Work.TheVariants as work
use Rattle.interpreter.specs.inside.Todo.{Todo, todo_of}
use Rattle.interpreter.specs.inside.Todo as todo

-- the work list, next item first; the waiting values, newest first; the locals of the open function
-- and of those below it; the pool and the ticks left
pub record ResumeState : Type 0 where
  pub plan : List Work
  pub values : List ℤ
  pub top : List Local
  pub below : List (List Local)
  pub pool : PoolMap
  pub ticks : ℕ

-- the outcome of the remaining work, from the values, the locals below and how the last statement
-- ended
abbrev pub Goes : Type 0
Goes = List ℤ → List (List Local) → StmtEnd → Out ℤ

-- the effect of a function call while these functions wait: at most 256 may be open
abbrev pub calls : Tables → List (List Local) → Calls
calls t below = calls_of t (255 - length below)

-- the newest value, or 0 if none waits
abbrev pub newest : List ℤ → ℤ
newest [] = pos 0
newest (v ∷ vs) = v

-- continues with one value, or with several, the last of them the newest
abbrev pub pushed : Goes → List ℤ → List (List Local) → List Local → Out ℤ → Out ℤ
pushed go vs below ls (Got v p k) = go (v ∷ vs) below (Next ls p k)
pushed go vs below ls (Stops trap) = Stops trap

abbrev pub laid : List ℤ → List ℤ → List ℤ
laid [] vs = vs
laid (x ∷ xs) vs = laid xs (x ∷ vs)

abbrev pub pushed_all : Goes → List ℤ → List (List Local) → List Local → Out (List ℤ) → Out ℤ
pushed_all go vs below ls (Got xs p k) = go (laid xs vs) below (Next ls p k)
pushed_all go vs below ls (Stops trap) = Stops trap

-- case on whether a target is an element: its operands are the pointer, then the index
abbrev pub element_operand : {A : Type 0} → ExprTree → A → A → A
element_operand (expr.Index a place i) x y = x
element_operand (expr.Number n) x y = y
element_operand expr.Null x y = y
element_operand (expr.Variable name) x y = y
element_operand (expr.Call name all) x y = y
element_operand (expr.Root name) x y = y
element_operand (expr.New place name) x y = y
element_operand (expr.Arrow base place name) x y = y
element_operand (expr.Unary op place a) x y = y
element_operand (expr.Binary op place a b) x y = y
element_operand (expr.Conditional c place a b) x y = y

abbrev pub pointer_in : ExprTree → List ℤ → ℤ
pointer_in e vs = element_operand e (newest (drop 1 vs)) (newest vs)

abbrev pub index_operand : ExprTree → List ℤ → Option ℤ
index_operand e vs = element_operand e (Some (newest vs)) None

abbrev pub under : ExprTree → List ℤ → List ℤ
under e vs = element_operand e (drop 1 (drop 1 vs)) (drop 1 vs)

abbrev pub with_index : Option ℤ → List ℤ → List ℤ
with_index None vs = vs
with_index (Some j) vs = j ∷ vs

abbrev pub pushed_operands : Goes → List ℤ → List (List Local) → List Local
    → Out (ℤ × Option ℤ) → Out ℤ
pushed_operands go vs below ls (Got o p k) = go (with_index o.1 (o.0 ∷ vs)) below (Next ls p k)
pushed_operands go vs below ls (Stops trap) = Stops trap

-- does something if the last statement ended normally; else nothing
abbrev pub if_next : Goes → List ℤ → List (List Local) → StmtEnd
    → (List Local → PoolMap → ℕ → Out ℤ) → Out ℤ
if_next go vs below (Next ls p k) does = does ls p k
if_next go vs below (Broke ls p k) does = go vs below (Broke ls p k)
if_next go vs below (Again ls p k) does = go vs below (Again ls p k)
if_next go vs below (Gave v p k) does = go vs below (Gave v p k)
if_next go vs below (Traps trap) does = go vs below (Traps trap)

-- the object that a pointer names was freed
abbrev pub ObjectFreed : {A : Type 0} → Result PoolMap TrapKind → Result A TrapKind
    → (new : PoolMap) → Type 0
ObjectFreed out (Ok a) new = out ≡ Ok new
ObjectFreed out (Err kind) new = out ≡ Err kind

-- the operands of a target, the checks, and the word that they lead to
abbrev pub loaded_from : Tables → Calls → ExprTree → List Local → PoolMap → ℕ → Out ℤ
loaded_from t calls e ls p k =
    then_do (operands_of t calls e ls p k)
    (λ o p k. loaded (located t ls p e o.0 o.1) p k)

-- the checks, and then the word that a target's operands lead to
abbrev pub target_word : Tables → ExprTree → List ℤ → List Local → PoolMap → Result PoolWord TrapAt
target_word t e vs ls p = located t ls p e (pointer_in e vs) (index_operand e vs)

-- the effect of each task on an expression, after which `go` continues
abbrev pub expr_act : Tables → ExprTask → ExprTree → Goes → List ℤ → List (List Local) → List Local
    → PoolMap → ℕ → Out ℤ
expr_act t expr_task.Eval e go vs below ls p k =
    pushed go vs below ls (value_of t (calls t below) e ls p k)
expr_act t expr_task.Both e go vs below ls p k = pushed go (drop 1 vs) below ls
    (at_zero (newest vs) (Got (pos 0) p k)
    (then_do (value_of t (calls t below) e ls p k)
    (λ y p k. Got (at_zero y (pos 0) (pos 1)) p k)))
expr_act t expr_task.Either e go vs below ls p k = pushed go (drop 1 vs) below ls
    (at_zero (newest vs) (then_do (value_of t (calls t below) e ls p k)
    (λ y p k. Got (at_zero y (pos 0) (pos 1)) p k)) (Got (pos 1) p k))
expr_act t expr_task.Load e go vs below ls p k =
    pushed go (under e vs) below ls (loaded (target_word t e vs ls p) p k)
expr_act t expr_task.Fetch e go vs below ls p k =
    pushed go (with_index (index_operand e vs) (pointer_in e vs ∷ under e vs)) below ls
    (loaded (target_word t e vs ls p) p k)
expr_act t expr_task.Store e go vs below ls p k =
    go (under e (drop 1 vs)) below
    (stored_end (target_word t e (drop 1 vs) ls p) (newest vs) ls p k)
expr_act t (expr_task.Free place) e go vs below ls p k =
    go (drop 1 vs) below (freed (at_place place (free_object t ls p e (newest vs))) ls k)

-- the effect of each task on the waiting words
abbrev pub word_act : WordTask → Goes → List ℤ → List (List Local) → List Local → PoolMap
    → ℕ → Out ℤ
word_act (word_task.Put v) go vs below ls p k = go (v ∷ vs) below (Next ls p k)
word_act word_task.Forget go vs below ls p k = go (drop 1 vs) below (Next ls p k)
word_act (word_task.Unary op) go vs below ls p k =
    go (unary_of op (newest vs) ∷ drop 1 vs) below (Next ls p k)
word_act (word_task.Binary op n place) go vs below ls p k = pushed go (drop 1 (drop 1 vs)) below ls
    (or_trap (binary_of op n (newest (drop 1 vs)) (newest vs)) (placed_trap trap.Divide place) p k)
word_act word_task.Truth go vs below ls p k =
    go (at_zero (newest vs) (pos 0) (pos 1) ∷ drop 1 vs) below (Next ls p k)

-- what follows the condition of an `if`
abbrev pub branch_chosen : Tables → Calls → StmtTree → ℤ → List Local → PoolMap → ℕ → StmtEnd
branch_chosen t calls (stmt.If c a) v ls p k =
    at_zero v (Next ls p k) (in_scope (length ls) (end_of_stmt t calls a ls p k))
branch_chosen t calls (stmt.IfElse c a b) v ls p k =
    at_zero v (in_scope (length ls) (end_of_stmt t calls b ls p k))
    (in_scope (length ls) (end_of_stmt t calls a ls p k))
branch_chosen t calls stmt.Empty v ls p k = Next ls p k
branch_chosen t calls (stmt.Declares d) v ls p k = Next ls p k
branch_chosen t calls (stmt.Simple x) v ls p k = Next ls p k
branch_chosen t calls (stmt.Block all) v ls p k = Next ls p k
branch_chosen t calls (stmt.While place c a) v ls p k = Next ls p k
branch_chosen t calls (stmt.Do place a c) v ls p k = Next ls p k
branch_chosen t calls (stmt.For place first c third a) v ls p k = Next ls p k
branch_chosen t calls stmt.Break v ls p k = Next ls p k
branch_chosen t calls stmt.Continue v ls p k = Next ls p k
branch_chosen t calls (stmt.Return place e) v ls p k = Next ls p k

-- the parts of a loop: the place of its word, its condition, its third part and its body
abbrev pub loop_place : StmtTree → ℕ
loop_place (stmt.While place c a) = place
loop_place (stmt.Do place a c) = place
loop_place (stmt.For place first c third a) = place
loop_place stmt.Empty = 0
loop_place (stmt.Declares d) = 0
loop_place (stmt.Simple x) = 0
loop_place (stmt.Block all) = 0
loop_place (stmt.If c a) = 0
loop_place (stmt.IfElse c a b) = 0
loop_place stmt.Break = 0
loop_place stmt.Continue = 0
loop_place (stmt.Return place e) = 0

abbrev pub condition_in : StmtTree → Option ExprTree
condition_in (stmt.While place c a) = Some c
condition_in (stmt.Do place a c) = Some c
condition_in (stmt.For place first c third a) = c
condition_in stmt.Empty = None
condition_in (stmt.Declares d) = None
condition_in (stmt.Simple x) = None
condition_in (stmt.Block all) = None
condition_in (stmt.If c a) = None
condition_in (stmt.IfElse c a b) = None
condition_in stmt.Break = None
condition_in stmt.Continue = None
condition_in (stmt.Return place e) = None

abbrev pub third_in : StmtTree → Option SimpleTree
third_in (stmt.For place first c third a) = third
third_in (stmt.While place c a) = None
third_in (stmt.Do place a c) = None
third_in stmt.Empty = None
third_in (stmt.Declares d) = None
third_in (stmt.Simple x) = None
third_in (stmt.Block all) = None
third_in (stmt.If c a) = None
third_in (stmt.IfElse c a b) = None
third_in stmt.Break = None
third_in stmt.Continue = None
third_in (stmt.Return place e) = None

abbrev pub body_end : Tables → Calls → StmtTree → List Local → PoolMap → ℕ → StmtEnd
body_end t calls (stmt.While place c a) ls p k = in_scope (length ls) (end_of_stmt t calls a ls p k)
body_end t calls (stmt.Do place a c) ls p k = in_scope (length ls) (end_of_stmt t calls a ls p k)
body_end t calls (stmt.For place first c third a) ls p k =
    in_scope (length ls) (end_of_stmt t calls a ls p k)
body_end t calls stmt.Empty ls p k = Next ls p k
body_end t calls (stmt.Declares d) ls p k = Next ls p k
body_end t calls (stmt.Simple x) ls p k = Next ls p k
body_end t calls (stmt.Block all) ls p k = Next ls p k
body_end t calls (stmt.If c a) ls p k = Next ls p k
body_end t calls (stmt.IfElse c a b) ls p k = Next ls p k
body_end t calls stmt.Break ls p k = Next ls p k
body_end t calls stmt.Continue ls p k = Next ls p k
body_end t calls (stmt.Return place e) ls p k = Next ls p k

-- at most n turns of a loop, and all of them; its turns after the end of a body
abbrev pub some_turns : Tables → Calls → StmtTree → ℕ → List Local → PoolMap → ℕ → StmtEnd
some_turns t calls s n ls p k =
    turns n (loop_place s) (λ ls p k. condition_of t calls (condition_in s) ls p k) (λ ls p k.
    body_end t calls s ls p k)
    (λ ls p k. end_of_third t calls (third_in s) ls p k) ls p k

abbrev pub all_turns : Tables → Calls → StmtTree → List Local → PoolMap → ℕ → StmtEnd
all_turns t calls s ls p k = some_turns t calls s k ls p k

abbrev pub more_turns : Tables → Calls → StmtTree → List Local → PoolMap → ℕ → StmtEnd
more_turns t calls s ls p k = then_next (end_of_third t calls (third_in s) ls p k) (λ ls p k.
    all_turns t calls s ls p k)

-- the effect of each task on a statement
abbrev pub stmt_act : Tables → StmtTask → StmtTree → Goes → List ℤ → List (List Local)
    → StmtEnd → Out ℤ
stmt_act t stmt_task.Exec s go vs below end =
    go vs below (then_next end (λ ls p k. end_of_stmt t (calls t below) s ls p k))
stmt_act t stmt_task.Choose s go vs below end =
    if_next go vs below end (λ ls p k.
    go (drop 1 vs) below (branch_chosen t (calls t below) s (newest vs) ls p k))
stmt_act t stmt_task.Turn s go vs below end =
    go vs below (then_next end (λ ls p k. all_turns t (calls t below) s ls p k))
stmt_act t stmt_task.Test s go vs below end =
    if_next go vs below end (λ ls p k. go (drop 1 vs) below
    (at_zero (newest vs) (Next ls p k)
    (after_turn (body_end t (calls t below) s ls p k) (λ ls p k.
    more_turns t (calls t below) s ls p k))))
stmt_act t stmt_task.Again s go vs below end =
    go vs below (after_turn end (λ ls p k. more_turns t (calls t below) s ls p k))

-- the end of the open function, whose value the caller gets
abbrev pub left_function : Goes → List ℤ → List (List Local) → Out ℤ → Out ℤ
left_function go vs [] out = pushed go vs [] [] out
left_function go vs (ls ∷ below) out = pushed go vs below ls out

-- one item, and then the remaining work
abbrev pub todo_act : Tables → Todo → Goes → List ℤ → List (List Local) → StmtEnd → Out ℤ
todo_act t (todo.Expr task e) go vs below end =
    if_next go vs below end (λ ls p k. expr_act t task e go vs below ls p k)
todo_act t (todo.Stmt task s) go vs below end = stmt_act t task s go vs below end
todo_act t (todo.Sides a b) go vs below end =
    if_next go vs below end (λ ls p k. pushed go (drop 1 vs) below ls
    (at_zero (newest vs) (value_of t (calls t below) b ls p k)
    (value_of t (calls t below) a ls p k)))
todo_act t (todo.Arguments all) go vs below end =
    if_next go vs below end (λ ls p k.
    pushed_all go vs below ls (values_of t (calls t below) all ls p k))
todo_act t (todo.Rest all) go vs below end =
    go vs below (then_next end (λ ls p k. ends_of t (calls t below) all ls p k))
todo_act t (todo.Simple x) go vs below end =
    go vs below (then_next end (λ ls p k. end_of_simple t (calls t below) x ls p k))
todo_act t (todo.Declare d) go vs below end = if_next go vs below end
    (λ ls p k. go (drop 1 vs) below
    (Next (local_declared d.name.text (declared_type t d.ty) (newest vs) ls) p k))
todo_act t (todo.Assign name) go vs below end =
    if_next go vs below end (λ ls p k.
    go (drop 1 vs) below (Next (assigned name (newest vs) ls) p k))
todo_act t (todo.Call place f count) go vs below end =
    if_next go vs below end (λ ls p k. pushed go (drop count vs) below ls
    (tick k (Stops (placed_trap trap.Steps place)) (λ k.
    calls t below place f (reverse (take count vs)) p k)))
todo_act t todo.Leave go vs below end = left_function go vs below (given end)
todo_act t (todo.Close count) go vs below end = go vs below (in_scope count end)
todo_act t (todo.Word task) go vs below end =
    if_next go vs below end (λ ls p k. word_act task go vs below ls p k)
todo_act t todo.Give go vs below end =
    if_next go vs below end (λ ls p k. go (drop 1 vs) below (Gave (newest vs) p k))

-- when nothing remains, the newest value is the transaction's
abbrev pub ended : List ℤ → StmtEnd → Out ℤ
ended vs (Next ls p k) = Got (newest vs) p k
ended vs (Broke ls p k) = Got (newest vs) p k
ended vs (Again ls p k) = Got (newest vs) p k
ended vs (Gave v p k) = Got (newest vs) p k
ended vs (Traps trap) = Stops trap

-- the whole work list, one item after another
abbrev pub resume : Tables → List Todo → List ℤ → List (List Local) → StmtEnd → Out ℤ
resume t [] vs below end = ended vs end
resume t (x ∷ xs) vs below end = todo_act t x (resume t xs) vs below end

abbrev pub plan_going : Tables → ResumeState → Goes
plan_going t s = resume t (map todo_of s.plan)

-- how the last statement of a run in progress ended
abbrev pub end_at : Flow → List Local → PoolMap → ℕ → StmtEnd
end_at flow.Next ls p k = Next ls p k
end_at flow.Break ls p k = Broke ls p k
end_at flow.Continue ls p k = Again ls p k
end_at (flow.Return v) ls p k = Gave v p k

abbrev pub resumed_at : Tables → Flow → ResumeState → Out ℤ
resumed_at t how s = plan_going t s s.values s.below (end_at how s.top s.pool s.ticks)

-- the outcome of a run from now on; with a value on top; with operands on top; and after a
-- statement that ends like this
abbrev pub resumed : Tables → ResumeState → Out ℤ
resumed t s = plan_going t s s.values s.below (Next s.top s.pool s.ticks)

abbrev pub resumed_with : Tables → ResumeState → Out ℤ → Out ℤ
resumed_with t s out = pushed (plan_going t s) s.values s.below s.top out

abbrev pub with_operands : Tables → ResumeState → Out (ℤ × Option ℤ) → Out ℤ
with_operands t s out = pushed_operands (plan_going t s) s.values s.below s.top out

abbrev pub with_end : Tables → ResumeState → StmtEnd → Out ℤ
with_end t s end = plan_going t s s.values s.below end

-- the body of a function that is opened above the open one, with the `count` newest values as
-- arguments
abbrev pub entering : Tables → FunctionTree → (count : ℕ) → ResumeState → Out ℤ
entering t f count s = resume t (todo.Rest f.body ∷ todo.Leave ∷ map todo_of s.plan)
    (drop count s.values) (s.top ∷ s.below)
    (Next (bound t f.parameters (reverse (take count s.values)) []) s.pool s.ticks)

-- one more item at the front of the work list: it is done first, and then the rest
abbrev pub planned : Work → ResumeState → ResumeState
planned x s = record s { plan = x ∷ s.plan }

abbrev pub begun_at : Tables → Todo → Flow → ResumeState → Out ℤ
begun_at t x how s = todo_act t x (plan_going t s) s.values s.below
    (end_at how s.top s.pool s.ticks)

abbrev pub todo_begun : Tables → Todo → ResumeState → Out ℤ
todo_begun t x s = todo_act t x (plan_going t s) s.values s.below (Next s.top s.pool s.ticks)

-- the next item was popped, if there was one
abbrev pub Taken : Option Work → (new old : ResumeState) → Type 0
Taken None new old = (old.plan ≡ []) × (new ≡ old)
Taken (Some x) new old = old ≡ planned x new

-- the end of a scope is planned, after which the present locals are left
abbrev pub scoped : ResumeState → ResumeState
scoped s = planned (work.Close (length s.top)) s

-- the right side of an operator, which is 1 if none is written
abbrev pub right_of : Tables → Calls → Option ExprTree → List Local → PoolMap → ℕ → Out ℤ
right_of t calls None ls p k = Got (pos 1) p k
right_of t calls (Some e) ls p k = value_of t calls e ls p k

abbrev pub right_todo : Option ExprTree → Todo
right_todo None = todo.Word (word_task.Put (pos 1))
right_todo (Some e) = todo.Expr expr_task.Eval e

-- A step leads on to the outcome, or ends in its trap. Of want of memory nothing is said.
abbrev pub LeadsToOutcome : {A : Type 0} → Result A Fault → Out ℤ → (A → Out ℤ) → Type 0
LeadsToOutcome (Ok a) out now = now a ≡ out
LeadsToOutcome (Err NoMemory) out now = Unit
LeadsToOutcome (Err (Trapped trap)) out now = out ≡ Stops trap

-- a step that did this item leads on
abbrev pub StepLeads : {A : Type 0} → Tables → Todo → (old : ResumeState) → Result A Fault
    → (new : ResumeState) → Type 0
StepLeads t x old result new = LeadsToOutcome result (todo_begun t x old) (λ _. resumed t new)

-- a tick was taken, if one was left
abbrev pub Ticked : {A : Type 0} → (place : ℕ) → Result A TrapAt → (new old : ResumeState) → Type 0
Ticked place (Ok a) new old = old ≡ record new { ticks = suc new.ticks }
Ticked place (Err stop) new old = (stop ≡ placed_trap trap.Steps place) × (old.ticks ≡ zero)
