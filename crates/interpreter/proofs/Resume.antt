-- Each step keeps the outcome of the run: one lemma for each way in which one item of the work list
-- is replaced by others.
use Rattle.std.proofs.Common.{◌≡◌, ◌≢◌, ◌<◌, ◌-◌, ◌++◌, ℕ, zero, suc, ℤ, pos, negsuc, List, [], ◌∷◌}
use Rattle.std.proofs.Common.{map, drop, take, reverse, length, Option, None, Some, option_map}
use Rattle.std.proofs.Common.{Result, Ok, Err, IfOk, refl, sym, ap, ◌∙◌, subst, arith, append_assoc}
use Rattle.std.proofs.lemmas.List.{reverse-append, length-reverse, reverse-reverse}
use Rattle.std.proofs.Math.Seq.{drop-append_seam, take-append_seam}
use Rattle.std.specs.Option.{option_map_or}
use Rattle.c_tree.specs.declared.expr.Argument.{Argument}
use Rattle.c_tree.specs.declared.expr.IntType.{IntType}
use Rattle.c_tree.specs.declared.expr.BinaryOp.{BinaryOp}
use Rattle.c_tree.specs.ExprTree.{ExprTree, expr_of, arguments_in}
use Rattle.c_tree.specs.ExprTree as expr
use Rattle.c_tree.specs.StmtTree.{StmtTree, DeclarationTree, InitialTree}
use Rattle.c_tree.specs.StmtTree as stmt
use Rattle.c_tree.specs.ItemTree.{FunctionTree}
use Rattle.c_types.specs.Tables.{Tables, function_named}
use Rattle.pool_map.specs.declared.trap.TrapKind.TheVariants as trap
use Rattle.pool_map.specs.PoolMap.{PoolMap}
use Rattle.c_meaning.specs.declared.trap_at.TrapAt.{TrapAt}
use Rattle.interpreter.specs.declared.fault.Fault.{Fault}
use Rattle.interpreter.specs.declared.fault.Fault.TheVariants.{NoMemory, Trapped}
use Rattle.interpreter.specs.declared.work.ExprTask.TheVariants as expr_task
use Rattle.interpreter.specs.declared.work.StmtTask.TheVariants as stmt_task
use Rattle.interpreter.specs.declared.work.WordTask.TheVariants as word_task
use Rattle.interpreter.specs.declared.work.Work.{Work}
use Rattle.interpreter.specs.declared.work.Work.TheVariants as work
use Rattle.c_meaning.specs.Locals.{Local, value_named, assigned}
use Rattle.c_meaning.specs.Meaning.{Out, Got, Stops, StmtEnd, Next, Gave, Traps, Calls, then_do}
use Rattle.c_meaning.specs.Meaning.{at_zero, tick, target_local}
use Rattle.c_meaning.specs.Meaning.{with_value, after_turn, or_trap, loaded}
use Rattle.c_meaning.specs.Meaning.{stored_end, called, value_of, pointer_of, values_of}
use Rattle.c_meaning.specs.Meaning.{operands_of, assign_to, update, end_of_simple}
use Rattle.c_meaning.specs.Meaning.{declaration_end, return_end, condition_of, end_of_stmt}
use Rattle.c_meaning.specs.Meaning.{function_value, placed_trap, located}
use Rattle.c_meaning.specs.Transaction.{Done, outcome, stop_place}
use Rattle.interpreter.specs.inside.Todo.{Todo, todo_of}
use Rattle.interpreter.specs.inside.Todo as todo
use Rattle.interpreter.specs.inside.Resume.{ResumeState, Goes, calls, newest, pushed, laid}
use Rattle.interpreter.specs.inside.Resume.{pushed_all, pointer_in, index_operand, under}
use Rattle.interpreter.specs.inside.Resume.{with_index, pushed_operands, loaded_from, condition_in}
use Rattle.interpreter.specs.inside.Resume.{third_in, some_turns, body_end, more_turns, target_word}
use Rattle.interpreter.specs.inside.Resume.{left_function, todo_act, resume, plan_going}
use Rattle.interpreter.specs.inside.Resume.{right_of, right_todo, LeadsToOutcome}
use Rattle.c_meaning.specs.Operators.{binary_of}
use Rattle.interpreter.specs.Answers.{PlainAnswers}
use Rattle.interpreter.specs.inside.Answers.{plain_answer, place_answer, RunGives}
use Rattle.interpreter.proofs.Ticks.{within-calls, within-condition, ends-body, ends-third}
use Rattle.interpreter.proofs.Ticks.{turns-more}

-- the work list, as trees
abbrev pub seen : ResumeState → List Todo
seen s = map todo_of s.plan

pub then_ok : {T E P Q : Type 0} (r : Result T E) → IfOk r (λ _. P) → (P → Q) → IfOk r (λ _. Q)
then_ok (Ok a) h f = f h
then_ok (Err e) h f = tt

-- a trap ends the whole remaining run
pub resume-traps : (t : Tables) (xs : List Todo) (vs : List ℤ) (below : List (List Local))
    (trap : TrapAt)
    → resume t xs vs below (Traps trap) ≡ Stops trap
resume-traps t [] vs below trap = refl
resume-traps t (todo.Expr task e ∷ xs) vs below trap = resume-traps t xs vs below trap
resume-traps t (todo.Stmt stmt_task.Exec s ∷ xs) vs below trap = resume-traps t xs vs below trap
resume-traps t (todo.Stmt stmt_task.Choose s ∷ xs) vs below trap = resume-traps t xs vs below trap
resume-traps t (todo.Stmt stmt_task.Turn s ∷ xs) vs below trap = resume-traps t xs vs below trap
resume-traps t (todo.Stmt stmt_task.Test s ∷ xs) vs below trap = resume-traps t xs vs below trap
resume-traps t (todo.Stmt stmt_task.Again s ∷ xs) vs below trap = resume-traps t xs vs below trap
resume-traps t (todo.Sides a b ∷ xs) vs below trap = resume-traps t xs vs below trap
resume-traps t (todo.Arguments all ∷ xs) vs below trap = resume-traps t xs vs below trap
resume-traps t (todo.Rest all ∷ xs) vs below trap = resume-traps t xs vs below trap
resume-traps t (todo.Simple x ∷ xs) vs below trap = resume-traps t xs vs below trap
resume-traps t (todo.Declare d ∷ xs) vs below trap = resume-traps t xs vs below trap
resume-traps t (todo.Assign name ∷ xs) vs below trap = resume-traps t xs vs below trap
resume-traps t (todo.Call place f count ∷ xs) vs below trap = resume-traps t xs vs below trap
resume-traps t (todo.Leave ∷ xs) vs [] trap = refl
resume-traps t (todo.Leave ∷ xs) vs (ls ∷ below) trap = refl
resume-traps t (todo.Close count ∷ xs) vs below trap = resume-traps t xs vs below trap
resume-traps t (todo.Word task ∷ xs) vs below trap = resume-traps t xs vs below trap
resume-traps t (todo.Give ∷ xs) vs below trap = resume-traps t xs vs below trap

pub ruleset traps = (resume-traps)

-- a value, and then the statement that ends with it; values below may be used up
ended-onto : (t : Tables) (xs : List Todo) (next : Goes) (vs to : List ℤ)
    (below : List (List Local)) (ls : List Local) (a : Out ℤ) (f : ℤ → PoolMap → ℕ → StmtEnd)
    → ((x : ℤ) (p : PoolMap) (k : ℕ) → next (x ∷ vs) below (Next ls p k) ≡ resume t xs to below
    (f x p k))
    → pushed next vs below ls a ≡ resume t xs to below (with_value a f)
ended-onto t xs next vs to below ls (Got x p k) f h = h x p k
ended-onto t xs next vs to below ls (Stops trap) f h = sym (resume-traps t xs to below trap)

pub ended-with : (t : Tables) (xs : List Todo) (next : Goes) (vs : List ℤ)
    (below : List (List Local)) (ls : List Local) (a : Out ℤ) (f : ℤ → PoolMap → ℕ → StmtEnd)
    → ((x : ℤ) (p : PoolMap) (k : ℕ) → next (x ∷ vs) below (Next ls p k) ≡ resume t xs vs below
    (f x p k))
    → pushed next vs below ls a ≡ resume t xs vs below (with_value a f)
ended-with t xs next vs below ls a f h = ended-onto t xs next vs vs below ls a f h

-- `return` with a value
pub return-then : (t : Tables) (s : ResumeState) (e : ExprTree)
    → pushed (resume t (todo.Give ∷ seen s)) s.values s.below s.top
    (value_of t (calls t s.below) e s.top s.pool s.ticks)
    ≡ resume t (seen s) s.values s.below
    (return_end t (calls t s.below) (Some e) s.top s.pool s.ticks)
return-then t s e = ended-with t (seen s) (resume t (todo.Give ∷ seen s)) s.values s.below s.top
    (value_of t (calls t s.below) e s.top s.pool s.ticks)
    (λ v p k. Gave v p k) (λ v p k. refl)

-- a declaration with an initial value
pub declare-then : (t : Tables) (s : ResumeState) (d : DeclarationTree) (i : InitialTree)
    → d.initial ≡ Some i
    → pushed (resume t (todo.Declare d ∷ seen s)) s.values s.below s.top
    (value_of t (calls t s.below) i.value s.top s.pool s.ticks)
    ≡ resume t (seen s) s.values s.below
    (declaration_end t (calls t s.below) d s.top s.pool s.ticks)
declare-then t s d i is = rw is (ended-with t (seen s) (resume t (todo.Declare d ∷ seen s)) s.values
    s.below s.top
    (value_of t (calls t s.below) i.value s.top s.pool s.ticks) _ (λ v p k. refl))

-- the condition of an `if`, and then its choice
abbrev pub IsIf : StmtTree → ExprTree → Type 0
IsIf (stmt.If c a) e = c ≡ e
IsIf (stmt.IfElse c a b) e = c ≡ e
IsIf stmt.Empty e = ⊥
IsIf (stmt.Declares d) e = ⊥
IsIf (stmt.Simple x) e = ⊥
IsIf (stmt.Block all) e = ⊥
IsIf (stmt.While place c a) e = ⊥
IsIf (stmt.Do place a c) e = ⊥
IsIf (stmt.For place first c third a) e = ⊥
IsIf stmt.Break e = ⊥
IsIf stmt.Continue e = ⊥
IsIf (stmt.Return place value) e = ⊥

pub if-then : (t : Tables) (s : ResumeState) (x : StmtTree) (e : ExprTree) → IsIf x e
    → pushed (resume t (todo.Stmt stmt_task.Choose x ∷ seen s)) s.values s.below s.top
    (value_of t (calls t s.below) e s.top s.pool s.ticks)
    ≡ resume t (seen s) s.values s.below (end_of_stmt t (calls t s.below) x s.top s.pool s.ticks)
if-then t s (stmt.If c a) e is =
    rw is (ended-with t (seen s) (resume t (todo.Stmt stmt_task.Choose (stmt.If e a) ∷ seen s))
    s.values s.below s.top
    (value_of t (calls t s.below) e s.top s.pool s.ticks) _ (λ v p k. refl))
if-then t s (stmt.IfElse c a b) e is =
    rw is (ended-with t (seen s) (resume t (todo.Stmt stmt_task.Choose (stmt.IfElse e a b)
    ∷ seen s)) s.values s.below s.top
    (value_of t (calls t s.below) e s.top s.pool s.ticks) _ (λ v p k. refl))
if-then t s stmt.Empty e is = absurd is
if-then t s (stmt.Declares d) e is = absurd is
if-then t s (stmt.Simple x) e is = absurd is
if-then t s (stmt.Block all) e is = absurd is
if-then t s (stmt.While place c a) e is = absurd is
if-then t s (stmt.Do place a c) e is = absurd is
if-then t s (stmt.For place first c third a) e is = absurd is
if-then t s stmt.Break e is = absurd is
if-then t s stmt.Continue e is = absurd is
if-then t s (stmt.Return place value) e is = absurd is

-- a call for its effect, and `pm_free`
pub forget-then : (t : Tables) (s : ResumeState) (a : Out ℤ)
    → pushed (resume t (todo.Word word_task.Forget ∷ seen s)) s.values s.below s.top a
    ≡ resume t (seen s) s.values s.below (with_value a (λ v p k. Next s.top p k))
forget-then t s a = ended-with t (seen s) (resume t (todo.Word word_task.Forget ∷ seen s)) s.values
    s.below s.top a _ (λ v p k. refl)

pub free-then : (t : Tables) (s : ResumeState) (place : ℕ) (e : ExprTree)
    → pushed (resume t (todo.Expr (expr_task.Free place) e ∷ seen s)) s.values s.below s.top
    (value_of t (calls t s.below) e s.top s.pool s.ticks)
    ≡ resume t (seen s) s.values s.below
    (end_of_simple t (calls t s.below) (stmt.Free place e) s.top s.pool s.ticks)
free-then t s place e = ended-with t (seen s)
    (resume t (todo.Expr (expr_task.Free place) e ∷ seen s)) s.values s.below s.top
    (value_of t (calls t s.below) e s.top s.pool s.ticks) _ (λ v p k. refl)

-- one turn of a loop
pub turn-then : (t : Tables) (s : ResumeState) (x : StmtTree)
    → pushed (resume t (todo.Stmt stmt_task.Test x ∷ seen s)) s.values s.below s.top
    (condition_of t (calls t s.below) (condition_in x) s.top s.pool s.ticks)
    ≡ resume t (seen s) s.values s.below
    (some_turns t (calls t s.below) x (suc s.ticks) s.top s.pool (suc s.ticks))
turn-then t s x = ended-with t (seen s) (resume t (todo.Stmt stmt_task.Test x ∷ seen s)) s.values
    s.below s.top
    (condition_of t (calls t s.below) (condition_in x) s.top s.pool s.ticks) _ (λ v p k. refl)
    ∙ sym (ap (resume t (seen s) s.values s.below) (turns-more _ _ _ _
    (λ ls p k n le. within-condition t (calls t s.below) (within-calls t _) (condition_in x)
    ls p k n le)
    (λ ls p k n le. ends-body t (calls t s.below) (within-calls t _) x ls p k n le)
    (λ ls p k n le. ends-third t (calls t s.below) (within-calls t _) (third_in x) ls p k n le)
    s.top s.pool s.ticks))

pub at_zero-other : {A : Type 0} (v : ℤ) (a b : A) → v ≢ pos 0 → at_zero v a b ≡ b
at_zero-other (pos zero) a b other = absurd (other refl)
at_zero-other (pos (suc n)) a b other = refl
at_zero-other (negsuc n) a b other = refl

-- the body of a turn whose condition holds
pub test-then : (t : Tables) (s : ResumeState) (x : StmtTree) → newest s.values ≢ pos 0
    → resume t (todo.Stmt stmt_task.Again x ∷ seen s) (drop 1 s.values) s.below
    (body_end t (calls t s.below) x s.top s.pool s.ticks)
    ≡ todo_act t (todo.Stmt stmt_task.Test x) (plan_going t s) s.values s.below
    (Next s.top s.pool s.ticks)
test-then t s x other = sym (ap (plan_going t s (drop 1 s.values) s.below)
    (at_zero-other (newest s.values) (Next s.top s.pool s.ticks)
    (after_turn (body_end t (calls t s.below) x s.top s.pool s.ticks) (λ ls p k.
    more_turns t (calls t s.below) x ls p k)) other))

-- arguments are popped in the reverse order of pushing
laid-reverse : (xs vs : List ℤ) → laid xs vs ≡ reverse xs ++ vs
laid-reverse [] vs = refl
laid-reverse (x ∷ xs) vs = laid-reverse xs (x ∷ vs)
    ∙ sym (ap (λ l. l ++ vs) (reverse-append (x ∷ []) xs) ∙ append_assoc (reverse xs) (x ∷ []) vs)

taken-laid : (n : ℕ) (xs vs : List ℤ) → length xs ≡ n → reverse (take n (laid xs vs)) ≡ xs
taken-laid n xs vs is = rw (laid-reverse xs vs)
    (subst (λ m. reverse (take m (reverse xs ++ vs)) ≡ xs) (length-reverse xs ∙ is)
    (ap reverse (take-append_seam (reverse xs) vs) ∙ reverse-reverse xs))

dropped-laid : (n : ℕ) (xs vs : List ℤ) → length xs ≡ n → drop n (laid xs vs) ≡ vs
dropped-laid n xs vs is = rw (laid-reverse xs vs)
    (subst (λ m. drop m (reverse xs ++ vs) ≡ vs) (length-reverse xs ∙ is)
    (drop-append_seam (reverse xs) vs))

-- as many values as there are arguments
abbrev Counted : ℕ → Out (List ℤ) → Type 0
Counted n (Got xs p k) = length xs ≡ n
Counted n (Stops trap) = Unit {0}

counted-more : (n : ℕ) (a : Out ℤ) (rest : PoolMap → ℕ → Out (List ℤ))
    → ((p : PoolMap) (k : ℕ) → Counted n (rest p k))
    → Counted (suc n) (then_do a (λ v p k. then_do (rest p k) (λ vs p k. Got (v ∷ vs) p k)))
counted-more n (Stops trap) rest h = tt
counted-more n (Got v p k) rest h = more n v (rest p k) (h p k)
  where
    more : (n : ℕ) (v : ℤ) (r : Out (List ℤ)) → Counted n r
        → Counted (suc n) (then_do r (λ vs p k. Got (v ∷ vs) p k))
    more n v (Got vs p k) is = ap suc is
    more n v (Stops trap) is = tt

counted-values : (t : Tables) (cs : Calls) (xs : List Argument) (ls : List Local) (p : PoolMap)
    (k : ℕ) → Counted (length xs) (values_of t cs (arguments_in xs) ls p k)
counted-values t cs [] ls p k = refl
counted-values t cs (x ∷ xs) ls p k =
    counted-more (length xs) (value_of t cs (expr_of x.value) ls p k)
    (λ p k. values_of t cs (arguments_in xs) ls p k)
    (λ p k. counted-values t cs xs ls p k)

pushed_all-call : (t : Tables) (xs : List Todo) (vs : List ℤ) (below : List (List Local))
    (ls : List Local) (place : ℕ) (f : FunctionTree) (n : ℕ) (a : Out (List ℤ)) → Counted n a
    → pushed_all (resume t (todo.Call place f n ∷ xs)) vs below ls a
    ≡ pushed (resume t xs) vs below ls
    (then_do a (λ vs p k. tick k (Stops (placed_trap trap.Steps place)) (λ k.
    calls t below place f vs p k)))
pushed_all-call t xs vs below ls place f n (Got args p k) is =
    rw (taken-laid n args vs is, dropped-laid n args vs is) refl
pushed_all-call t xs vs below ls place f n (Stops trap) is = refl

-- a call of a function that exists
pub call-then : (t : Tables) (s : ResumeState) (place : ℕ) (name : List ℕ) (f : FunctionTree)
    (args : List Argument) → function_named t name ≡ Some f
    → pushed_all (resume t (todo.Call place f (length args) ∷ seen s)) s.values s.below s.top
    (values_of t (calls t s.below) (arguments_in args) s.top s.pool s.ticks)
    ≡ pushed (resume t (seen s)) s.values s.below s.top
    (called (calls t s.below) place (function_named t name)
    (λ f. values_of t (calls t s.below) (arguments_in args) s.top s.pool s.ticks) s.pool s.ticks)
call-then t s place name f args is =
    rw is (pushed_all-call t (seen s) s.values s.below s.top place f (length args)
    (values_of t (calls t s.below) (arguments_in args) s.top s.pool s.ticks)
    (counted-values t (calls t s.below) args s.top s.pool s.ticks))

-- a call opens a function if there is room for it
pub calls-open : (t : Tables) (ls : List Local) (below : List (List Local)) (place : ℕ)
    (f : FunctionTree) (vs : List ℤ) (p : PoolMap) (k : ℕ) → length below < 255
    → calls t below place f vs p k ≡ function_value t (calls t (ls ∷ below)) f vs p k
calls-open t ls below place f vs p k room =
    let e : 255 - length below ≡ suc (255 - suc (length below)) = omega (arith, room) in rw e refl

-- a target's operands: those of an element, and of a field of a pointer's object
pub operands-element : (t : Tables) (s : ResumeState) (a i : ExprTree)
    → pushed (resume t (todo.Expr expr_task.Eval i ∷ seen s)) s.values s.below s.top
    (pointer_of t (calls t s.below) a s.top s.pool s.ticks)
    ≡ pushed_operands (resume t (seen s)) s.values s.below s.top
    (operands_of t (calls t s.below) (expr.Index a 0 i) s.top s.pool s.ticks)
operands-element t s a i = by_pointer (pointer_of t (calls t s.below) a s.top s.pool s.ticks)
  where
    by_index : (b : ℤ) (o : Out ℤ) → pushed (resume t (seen s)) (b ∷ s.values) s.below s.top o
        ≡ pushed_operands (resume t (seen s)) s.values s.below s.top
        (then_do o (λ j p k. Got (b, Some j) p k))
    by_index b (Got j p k) = refl
    by_index b (Stops trap) = refl

    by_pointer : (o : Out ℤ) → pushed (resume t (todo.Expr expr_task.Eval i ∷ seen s)) s.values
        s.below s.top o
        ≡ pushed_operands (resume t (seen s)) s.values s.below s.top
        (then_do o (λ b p k. then_do (value_of t (calls t s.below) i s.top p k)
        (λ j p k. Got (b, Some j) p k)))
    by_pointer (Got b p k) = by_index b (value_of t (calls t s.below) i s.top p k)
    by_pointer (Stops trap) = refl

pub operands-pointer : (go : Goes) (vs : List ℤ) (below : List (List Local)) (ls : List Local)
    (a : Out ℤ)
    → pushed go vs below ls a ≡ pushed_operands go vs below ls
    (then_do a (λ b p k. Got (b, None) p k))
operands-pointer go vs below ls (Got b p k) = refl
operands-pointer go vs below ls (Stops trap) = refl

-- the operands are on the stack in the order in which their target pops them
abbrev Fits : ExprTree → ℤ × Option ℤ → Type 0
Fits e o = (vs : List ℤ)
    → (pointer_in e (with_index o.1 (o.0 ∷ vs)) ≡ o.0)
    × (index_operand e (with_index o.1 (o.0 ∷ vs)) ≡ o.1)
    × (under e (with_index o.1 (o.0 ∷ vs)) ≡ vs)

abbrev Shaped : ExprTree → Out (ℤ × Option ℤ) → Type 0
Shaped e (Got o p k) = Fits e o
Shaped e (Stops trap) = Unit {0}

shaped-pointer : (base : ExprTree) (place : ℕ) (name : expr.Ident) (a : Out ℤ)
    → Shaped (expr.Arrow base place name) (then_do a (λ b p k. Got (b, None) p k))
shaped-pointer base place name (Got b p k) = λ vs. (refl, refl, refl)
shaped-pointer base place name (Stops trap) = tt

shaped-index : (a i : ExprTree) (place : ℕ) (b : ℤ) (o : Out ℤ)
    → Shaped (expr.Index a place i) (then_do o (λ j p k. Got (b, Some j) p k))
shaped-index a i place b (Got j p k) = λ vs. (refl, refl, refl)
shaped-index a i place b (Stops trap) = tt

shaped-element : (a i : ExprTree) (place : ℕ) (o : Out ℤ) (index : PoolMap → ℕ → Out ℤ)
    → Shaped (expr.Index a place i)
    (then_do o (λ b p k. then_do (index p k) (λ j p k. Got (b, Some j) p k)))
shaped-element a i place (Got b p k) index = shaped-index a i place b (index p k)
shaped-element a i place (Stops trap) index = tt

shaped-operands : (t : Tables) (cs : Calls) (e : ExprTree) (ls : List Local) (p : PoolMap) (k : ℕ)
    → Shaped e (operands_of t cs e ls p k)
shaped-operands t cs (expr.Index a place i) ls p k =
    shaped-element a i place (pointer_of t cs a ls p k) (λ p k. value_of t cs i ls p k)
shaped-operands t cs (expr.Arrow base place name) ls p k =
    shaped-pointer base place name (value_of t cs base ls p k)
shaped-operands t cs (expr.Root name) ls p k = λ vs. (refl, refl, refl)
shaped-operands t cs (expr.Number n) ls p k = λ vs. (refl, refl, refl)
shaped-operands t cs expr.Null ls p k = λ vs. (refl, refl, refl)
shaped-operands t cs (expr.Variable name) ls p k = λ vs. (refl, refl, refl)
shaped-operands t cs (expr.Call name all) ls p k = λ vs. (refl, refl, refl)
shaped-operands t cs (expr.New place name) ls p k = λ vs. (refl, refl, refl)
shaped-operands t cs (expr.Unary op place a) ls p k = λ vs. (refl, refl, refl)
shaped-operands t cs (expr.Binary op place a b) ls p k = λ vs. (refl, refl, refl)
shaped-operands t cs (expr.Conditional c place a b) ls p k = λ vs. (refl, refl, refl)

-- the operands, and then the word that they lead to
by-load : (t : Tables) (s : ResumeState) (e : ExprTree) (o : Out (ℤ × Option ℤ)) → Shaped e o
    → pushed_operands (resume t (todo.Expr expr_task.Load e ∷ seen s)) s.values s.below s.top o
    ≡ pushed (resume t (seen s)) s.values s.below s.top
    (then_do o (λ o p k. loaded (located t s.top p e o.0 o.1) p k))
by-load t s e (Got o p k) h = let fits = h s.values in rw (fits.0, fits.1, fits.2) refl
by-load t s e (Stops trap) h = refl

pub load-then : (t : Tables) (s : ResumeState) (e : ExprTree)
    → pushed_operands (resume t (todo.Expr expr_task.Load e ∷ seen s)) s.values s.below s.top
    (operands_of t (calls t s.below) e s.top s.pool s.ticks)
    ≡ pushed (resume t (seen s)) s.values s.below s.top
    (loaded_from t (calls t s.below) e s.top s.pool s.ticks)
load-then t s e = by-load t s e (operands_of t (calls t s.below) e s.top s.pool s.ticks)
    (shaped-operands t (calls t s.below) e s.top s.pool s.ticks)

pub loaded_from-arrow : {A : Type 0} (a : Out ℤ) (f : ℤ × Option ℤ → PoolMap → ℕ → Out A)
    → then_do (then_do a (λ b p k. Got (b, None) p k)) f ≡ then_do a (λ b p k. f (b, None) p k)
loaded_from-arrow (Got b p k) f = refl
loaded_from-arrow (Stops trap) f = refl

pub loaded_from-index : {A : Type 0} (a : Out ℤ) (index : PoolMap → ℕ → Out ℤ) (f : ℤ × Option ℤ
    → PoolMap → ℕ → Out A)
    → then_do (then_do a (λ b p k. then_do (index p k) (λ j p k. Got (b, Some j) p k))) f
    ≡ then_do a (λ b p k. then_do (index p k) (λ j p k. f (b, Some j) p k))
loaded_from-index (Stops trap) index f = refl
loaded_from-index (Got b p k) index f = inner (index p k)
  where
    inner : (o : Out ℤ) → then_do (then_do o (λ j p k. Got (b, Some j) p k)) f
        ≡ then_do o (λ j p k. f (b, Some j) p k)
    inner (Got j p k) = refl
    inner (Stops trap) = refl

pub arrow-loads : (t : Tables) (cs : Calls) (base : ExprTree) (place : ℕ) (name : expr.Ident)
    (ls : List Local) (p : PoolMap) (k : ℕ)
    → loaded_from t cs (expr.Arrow base place name) ls p k
    ≡ value_of t cs (expr.Arrow base place name) ls p k
arrow-loads t cs base place name ls p k = loaded_from-arrow (value_of t cs base ls p k) _

pub index-loads : (t : Tables) (cs : Calls) (a : ExprTree) (place : ℕ) (i : ExprTree)
    (ls : List Local) (p : PoolMap) (k : ℕ)
    → loaded_from t cs (expr.Index a place i) ls p k ≡ value_of t cs (expr.Index a place i) ls p k
index-loads t cs a place i ls p k =
    loaded_from-index (pointer_of t cs a ls p k) (λ p k. value_of t cs i ls p k) _

-- an assignment to a local, and to a field
pub assign-local : (t : Tables) (s : ResumeState) (target : ExprTree) (name : List ℕ)
    (value : PoolMap → ℕ → Out ℤ) → target_local target ≡ Some name
    → pushed (resume t (todo.Assign name ∷ seen s)) s.values s.below s.top (value s.pool s.ticks)
    ≡ resume t (seen s) s.values s.below (assign_to t (calls t s.below) (target_local target) target
    value s.top s.pool s.ticks)
assign-local t s target name value is =
    rw is (ended-with t (seen s) (resume t (todo.Assign name ∷ seen s)) s.values s.below s.top
    (value s.pool s.ticks) _ (λ v p k. refl))

-- the store, with the operands that its target pops
stored-fits : (t : Tables) (s : ResumeState) (e : ExprTree) (o : ℤ × Option ℤ) (v : ℤ) (p : PoolMap)
    (k : ℕ) → Fits e o
    → resume t (seen s) (under e (with_index o.1 (o.0 ∷ s.values))) s.below
    (stored_end (target_word t e (with_index o.1 (o.0 ∷ s.values)) s.top p) v s.top p k)
    ≡ resume t (seen s) s.values s.below (stored_end (located t s.top p e o.0 o.1)
    v s.top p k)
stored-fits t s e o v p k h = let fits = h s.values in rw (fits.0, fits.1, fits.2) refl

-- the value, and then the store after the checks
by-store : (t : Tables) (s : ResumeState) (e : ExprTree) (o : ℤ × Option ℤ) (a : Out ℤ) → Fits e o
    → pushed (resume t (todo.Expr expr_task.Store e ∷ seen s)) (with_index o.1 (o.0 ∷ s.values))
    s.below s.top a
    ≡ resume t (seen s) s.values s.below
    (with_value a (λ v p k. stored_end (located t s.top p e o.0 o.1) v
    s.top p k))
by-store t s e o a h = ended-onto t (seen s) (resume t (todo.Expr expr_task.Store e ∷ seen s))
    (with_index o.1 (o.0 ∷ s.values)) s.values s.below s.top a
    (λ v p k. stored_end (located t s.top p e o.0 o.1) v s.top p k)
    (λ v p k. stored-fits t s e o v p k h)

by-set : (t : Tables) (s : ResumeState) (e right : ExprTree) (o : Out (ℤ × Option ℤ)) → Shaped e o
    → pushed_operands (resume t (todo.Expr expr_task.Eval right ∷ todo.Expr expr_task.Store e
    ∷ seen s)) s.values s.below s.top o
    ≡ resume t (seen s) s.values s.below
    (with_value o (λ o p k. with_value (value_of t (calls t s.below) right s.top p k)
    (λ v p k. stored_end (located t s.top p e o.0 o.1) v s.top p k)))
by-set t s e right (Stops trap) h = sym (resume-traps t (seen s) s.values s.below trap)
by-set t s e right (Got o p k) h = by-store t s e o (value_of t (calls t s.below) right s.top p k) h

pub assign-field : (t : Tables) (s : ResumeState) (e right : ExprTree) → target_local e ≡ None
    → pushed_operands (resume t (todo.Expr expr_task.Eval right ∷ todo.Expr expr_task.Store e
    ∷ seen s)) s.values s.below s.top (operands_of t (calls t s.below) e s.top s.pool s.ticks)
    ≡ resume t (seen s) s.values s.below
    (assign_to t (calls t s.below) (target_local e) e
    (λ p k. value_of t (calls t s.below) right s.top p k) s.top s.pool s.ticks)
assign-field t s e right is = rw is
    (by-set t s e right (operands_of t (calls t s.below) e s.top s.pool s.ticks)
    (shaped-operands t (calls t s.below) e s.top s.pool s.ticks))

-- the right side of an assignment that updates, of `++` and of `--`
abbrev pub IsRight : Tables → ResumeState → Todo → (PoolMap → ℕ → Out ℤ) → Type 0
IsRight t s x right = (go : Goes) (vs : List ℤ) (p : PoolMap) (k : ℕ)
    → todo_act t x go vs s.below (Next s.top p k) ≡ pushed go vs s.below s.top (right p k)

pub right-then : (t : Tables) (s : ResumeState) (o : Option ExprTree)
    → IsRight t s (right_todo o) (λ p k. right_of t (calls t s.below) o s.top p k)
right-then t s None go vs p k = refl
right-then t s (Some e) go vs p k = refl

pub right-work : {A : Type 0} (o : Option A) (tree : A → ExprTree) (planned : A → Work)
    → ((a : A) → todo_of (planned a) ≡ todo.Expr expr_task.Eval (tree a))
    → todo_of (option_map_or planned o (work.Word (word_task.Put (pos 1))))
    ≡ right_todo (option_map tree o)
right-work None tree planned is = refl
right-work (Some a) tree planned is = is a

variable-value : (t : Tables) (cs : Calls) (e : ExprTree) (name : List ℕ) (ls : List Local)
    (p : PoolMap) (k : ℕ) → target_local e ≡ Some name
    → value_of t cs e ls p k ≡ Got (value_named name ls) p k
variable-value t cs (expr.Variable n) name ls p k is = let same : n.text ≡ name = cc in
    ap (λ m. Got (value_named m ls) p k) same
variable-value t cs (expr.Number n) name ls p k is = cc
variable-value t cs expr.Null name ls p k is = cc
variable-value t cs (expr.Call f all) name ls p k is = cc
variable-value t cs (expr.Root n) name ls p k is = cc
variable-value t cs (expr.New place n) name ls p k is = cc
variable-value t cs (expr.Arrow base place n) name ls p k is = cc
variable-value t cs (expr.Index a place i) name ls p k is = cc
variable-value t cs (expr.Unary op place a) name ls p k is = cc
variable-value t cs (expr.Binary op place a b) name ls p k is = cc
variable-value t cs (expr.Conditional c place a b) name ls p k is = cc

-- the right side and the operator, with the left value on the stack
by-binary : (t : Tables) (s : ResumeState) (x : Todo) (op : BinaryOp) (int : IntType) (place : ℕ)
    (xs : List Todo) (vs : List ℤ) (left_function : ℤ) (right : PoolMap → ℕ → Out ℤ)
    (f : ℤ → PoolMap → ℕ → StmtEnd)
    (p : PoolMap) (k : ℕ) → IsRight t s x right
    → ((v : ℤ) (p : PoolMap) (k : ℕ) → resume t xs (v ∷ vs) s.below (Next s.top p k)
    ≡ resume t (seen s) s.values s.below (f v p k))
    → resume t (x ∷ todo.Word (word_task.Binary op int place) ∷ xs) (left_function ∷ vs) s.below
    (Next s.top p k)
    ≡ resume t (seen s) s.values s.below
    (with_value (right p k) (λ y p k.
    with_value (or_trap (binary_of op int left_function y) (placed_trap trap.Divide place) p k) f))
by-binary t s x op int place xs vs left_function right f p k is h =
    is (resume t (todo.Word (word_task.Binary op int place) ∷ xs)) (left_function ∷ vs) p k
    ∙ ended-onto t (seen s) (resume t (todo.Word (word_task.Binary op int place) ∷ xs))
    (left_function ∷ vs) s.values s.below s.top (right p k)
    (λ y p k. with_value
    (or_trap (binary_of op int left_function y) (placed_trap trap.Divide place) p k) f)
    (λ y p k. ended-onto t (seen s) (resume t xs) vs s.values s.below s.top
    (or_trap (binary_of op int left_function y) (placed_trap trap.Divide place) p k) f h)

pub update-local : (t : Tables) (s : ResumeState) (e : ExprTree) (name : List ℕ) (x : Todo)
    (op : BinaryOp) (int : IntType) (place : ℕ) (right : PoolMap → ℕ → Out ℤ)
    → target_local e ≡ Some name
    → IsRight t s x right
    → pushed (resume t (x ∷ todo.Word (word_task.Binary op int place) ∷ todo.Assign name ∷ seen s))
    s.values s.below s.top (value_of t (calls t s.below) e s.top s.pool s.ticks)
    ≡ resume t (seen s) s.values s.below
    (update t (calls t s.below) (target_local e) e op int place right s.top s.pool s.ticks)
update-local t s e name x op int place right is h =
    rw (variable-value t (calls t s.below) e name s.top s.pool s.ticks is, is)
    (by-binary t s x op int place (todo.Assign name ∷ seen s) s.values
    (value_named name s.top) right
    (λ v p k. Next (assigned name v s.top) p k) s.pool s.ticks h (λ v p k. refl))

by-update : (t : Tables) (s : ResumeState) (e : ExprTree) (x : Todo) (op : BinaryOp)
    (int : IntType) (place : ℕ) (right : PoolMap → ℕ → Out ℤ) (o : Out (ℤ × Option ℤ))
    → IsRight t s x right → Shaped e o
    → pushed_operands (resume t (todo.Expr expr_task.Fetch e ∷ x
    ∷ todo.Word (word_task.Binary op int place) ∷ todo.Expr expr_task.Store e ∷ seen s))
    s.values s.below s.top o
    ≡ resume t (seen s) s.values s.below
    (with_value o (λ o p k. with_value
    (loaded (located t s.top p e o.0 o.1) p k)
    (λ x p k. with_value (right p k)
    (λ y p k. with_value (or_trap (binary_of op int x y) (placed_trap trap.Divide place) p k)
    (λ v p k. stored_end (located t s.top p e o.0 o.1) v s.top p k)))))
by-update t s e x op int place right (Stops trap) is h =
    sym (resume-traps t (seen s) s.values s.below trap)
by-update t s e x op int place right (Got o p k) is h =
    let fits = h s.values in
    let store = todo.Expr expr_task.Store e ∷ seen s in
    rw (fits.0, fits.1, fits.2) (ended-onto t (seen s)
    (resume t (x ∷ todo.Word (word_task.Binary op int place) ∷ store))
    (with_index o.1 (o.0 ∷ s.values))
    s.values s.below s.top
    (loaded (located t s.top p e o.0 o.1) p k) _
    (λ l p k. by-binary t s x op int place store (with_index o.1 (o.0 ∷ s.values)) l right
    (λ v p k. stored_end (located t s.top p e o.0 o.1) v s.top p k) p k is
    (λ v p k. stored-fits t s e o v p k h)))

pub update-field : (t : Tables) (s : ResumeState) (e : ExprTree) (x : Todo) (op : BinaryOp)
    (int : IntType) (place : ℕ) (right : PoolMap → ℕ → Out ℤ) → target_local e ≡ None
    → IsRight t s x right
    → pushed_operands (resume t (todo.Expr expr_task.Fetch e ∷ x
    ∷ todo.Word (word_task.Binary op int place) ∷ todo.Expr expr_task.Store e ∷ seen s))
    s.values s.below s.top (operands_of t (calls t s.below) e s.top s.pool s.ticks)
    ≡ resume t (seen s) s.values s.below
    (update t (calls t s.below) (target_local e) e op int place right s.top s.pool s.ticks)
update-field t s e x op int place right is h =
    rw is (by-update t s e x op int place right
    (operands_of t (calls t s.below) e s.top s.pool s.ticks) h
    (shaped-operands t (calls t s.below) e s.top s.pool s.ticks))

-- the whole run, and its end
pub left-outcome : (t : Tables) (a : Out ℤ) → left_function (resume t []) [] [] a ≡ a
left-outcome t (Got v p k) = refl
left-outcome t (Stops trap) = refl

-- a run that stopped, as its caller sees it
pub stopped-as : {A : Type 0} (fault : Fault) (out : Out ℤ) (now : A → Out ℤ)
    → LeadsToOutcome (Err fault) out now → RunGives (Err fault) out
stopped-as NoMemory out now h = tt
stopped-as (Trapped trap) out now h = h

-- an answer says how the run ended
pub answered : (r : Result (PoolMap × ℤ) Fault) (out : Out ℤ) → RunGives r out
    → PlainAnswers (plain_answer r) (outcome out)
answered (Ok done) out h = h
answered (Err NoMemory) out h = tt
answered (Err (Trapped trap)) out h = ap outcome h

done-place : (out : Out ℤ) (p : PoolMap) (v : ℤ) → outcome out ≡ Done p v → None ≡ stop_place out
done-place (Got v' p' k) p v h = refl
done-place (Stops trap) p v h = cc

pub placed : {E : Type 0} (r : Result (PoolMap × ℤ) Fault) (e : E) (out : Out ℤ) → RunGives r out
    → IfOk (place_answer r e) (λ place. place ≡ stop_place out)
placed (Ok done) e out h = done-place out done.0 done.1 h
placed (Err NoMemory) e out h = tt
placed (Err (Trapped trap)) e out h = sym (ap stop_place h)
