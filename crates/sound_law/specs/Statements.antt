-- What statements, functions and their calls ask for while they run is there, followed as
-- `end_of_stmt` runs them.
use Rattle.std.specs.Prelude.{ℕ, zero, suc, ℤ, pos, ◌≡◌, List, [], length, Option, None, Some}
use Rattle.std.specs.Prelude.{true, false}
use Rattle.c_tree.specs.ExprTree.{ExprTree}
use Rattle.c_tree.specs.ExprTree as expr
use Rattle.c_tree.specs.StmtTree.{StmtTree, Statements, SimpleTree, FirstTree}
use Rattle.c_tree.specs.StmtTree.{InitialTree}
use Rattle.c_tree.specs.StmtTree as stmt
use Rattle.c_tree.specs.ItemTree.{FunctionTree}
use Rattle.c_tree.specs.declared.expr.IntType.{IntType}
use Rattle.c_tree.specs.declared.expr.IntType.TheVariants.{Signed}
use Rattle.c_tree.specs.declared.expr.BinaryOp.{BinaryOp}
use Rattle.c_tree.specs.declared.expr.BinaryOp.TheVariants as binary
use Rattle.c_tree.specs.declared.stmt.AssignOp.{AssignOp}
use Rattle.c_tree.specs.declared.stmt.AssignOp.TheVariants as assign
use Rattle.c_tree.specs.declared.stmt.StepOp.{StepOp}
use Rattle.c_tree.specs.declared.stmt.StepOp.TheVariants as step
use Rattle.c_tree.specs.Operators.{update_binary}
use Rattle.c_types.specs.Expressions.{sides_type}
use Rattle.c_types.specs.Tables.{Tables}
use Rattle.pool_map.specs.declared.trap.TrapKind.TheVariants as trap
use Rattle.pool_map.specs.PoolMap.{PoolMap}
use Rattle.pool_map.specs.Checks.{is_zero}
use Rattle.c_meaning.specs.Locals.{Local, scopes_of, bound}
use Rattle.c_meaning.specs.Access.{target_field, struct_pointed_by}
use Rattle.c_meaning.specs.Operators.{binary_of}
use Rattle.c_meaning.specs.Meaning.{Out, Got, StmtEnd, Next, Broke, Again, Gave, Traps, Calls}
use Rattle.c_meaning.specs.Meaning.{value_of, operands_of, loaded, or_trap, target_local}
use Rattle.c_meaning.specs.Meaning.{end_of_first, end_of_third, condition_of, in_scope}
use Rattle.c_meaning.specs.Meaning.{end_of_stmt, calls_of, placed_trap, located}
use Rattle.sound_law.specs.Places.{IsLocal, IsNumbered, FindsWord}
use Rattle.sound_law.specs.Expressions.{Past, AfterTick, Finds, FindsOperands}

-- what holds where a statement ends normally
abbrev pub AfterNext : StmtEnd → (List Local → PoolMap → ℕ → Type 0) → Type 0
AfterNext (Next ls p k) next = next ls p k
AfterNext (Broke ls p k) next = Unit {0}
AfterNext (Again ls p k) next = Unit {0}
AfterNext (Gave v p k) next = Unit {0}
AfterNext (Traps trap) next = Unit {0}

-- what holds after the body of a turn, if the loop goes on
abbrev pub AfterTurn : StmtEnd → (List Local → PoolMap → ℕ → Type 0) → Type 0
AfterTurn (Next ls p k) next = next ls p k
AfterTurn (Again ls p k) next = next ls p k
AfterTurn (Broke ls p k) next = Unit {0}
AfterTurn (Gave v p k) next = Unit {0}
AfterTurn (Traps trap) next = Unit {0}

-- at most n turns of a loop: its condition, its body and its third part, with what each of them
-- asks for; the count of turns ends only where the ticks do
abbrev pub TurnsFind : ℕ
    → (test : List Local → PoolMap → ℕ → Out ℤ) → (List Local → PoolMap → ℕ → Type 0)
    → (body : List Local → PoolMap → ℕ → StmtEnd) → (List Local → PoolMap → ℕ → Type 0)
    → (third : List Local → PoolMap → ℕ → StmtEnd) → (List Local → PoolMap → ℕ → Type 0)
    → List Local → PoolMap → ℕ → Type 0
TurnsFind zero test Test body Body third Third ls p k = k ≡ 0
TurnsFind (suc n) test Test body Body third Third ls p k = AfterTick k (λ k. Test ls p k
    × Past (test ls p k) (λ v p k. is_zero v ≡ false → Body ls p k
    × AfterTurn (body ls p k) (λ ls p k. Third ls p k
    × AfterNext (third ls p k) (λ ls p k.
    TurnsFind n test Test body Body third Third ls p k))))

module _ (t : Tables) (calls : Calls) (found : FunctionTree → List ℤ → PoolMap → ℕ → Type 0) where
  -- the target is a local that is there, or a word that is there once base, index and value are
  -- evaluated
  abbrev pub SetFinds : Option (List ℕ) → ExprTree → ExprTree → List Local → PoolMap → ℕ → Type 0
  SetFinds (Some name) target e ls p k = IsLocal name ls × Finds t calls found e ls p k
  SetFinds None target e ls p k = FindsOperands t calls found target ls p k
      × Past (operands_of t calls target ls p k) (λ o p k. Finds t calls found e ls p k
      × Past (value_of t calls e ls p k)
      (λ v p k. FindsWord t ls p (target_field target) o.0 o.1))

  -- the word is there for the load, and once more for the store after the right side
  abbrev pub UpdateFinds : Option (List ℕ) → ExprTree → BinaryOp → IntType → (place : ℕ)
      → (right : PoolMap → ℕ → Out ℤ) → (PoolMap → ℕ → Type 0)
      → List Local → PoolMap → ℕ → Type 0
  UpdateFinds (Some name) target op int place right Right ls p k = IsLocal name ls × Right p k
  UpdateFinds None target op int place right Right ls p k =
      FindsOperands t calls found target ls p k
      × Past (operands_of t calls target ls p k)
      (λ o p k. FindsWord t ls p (target_field target) o.0 o.1
      × Past (loaded (located t ls p target o.0 o.1) p k)
      (λ x p k. Right p k × Past (right p k)
      (λ y p k. Past (or_trap (binary_of op int x y) (placed_trap trap.Divide place) p k)
      (λ v p k. FindsWord t ls p (target_field target) o.0 o.1))))

  abbrev pub AssignFinds : AssignOp → (place : ℕ) → ExprTree → ExprTree → List Local → PoolMap → ℕ
      → Type 0
  AssignFinds assign.Set place target e ls p k = SetFinds (target_local target) target e ls p k
  AssignFinds (assign.Update op) place target e ls p k =
      UpdateFinds (target_local target) target (update_binary op)
      (sides_type t (scopes_of ls) (update_binary op) target e) place
      (λ p k. value_of t calls e ls p k) (λ p k. Finds t calls found e ls p k) ls p k

  abbrev pub StepFinds : StepOp → (place : ℕ) → ExprTree → List Local → PoolMap → ℕ → Type 0
  StepFinds step.Up place target ls p k = UpdateFinds (target_local target) target binary.Add
      Signed place (λ p k. Got (pos 1) p k) (λ p k. Unit {0}) ls p k
  StepFinds step.Down place target ls p k = UpdateFinds (target_local target) target binary.Sub
      Signed place (λ p k. Got (pos 1) p k) (λ p k. Unit {0}) ls p k

  abbrev pub SimpleFinds : SimpleTree → List Local → PoolMap → ℕ → Type 0
  SimpleFinds (stmt.Assign target op place e) ls p k = AssignFinds op place target e ls p k
  SimpleFinds (stmt.Step target op place) ls p k = StepFinds op place target ls p k
  SimpleFinds (stmt.Call name all) ls p k = Finds t calls found (expr.Call name all) ls p k
  SimpleFinds (stmt.Free place e) ls p k = Finds t calls found e ls p k
      × IsNumbered t (struct_pointed_by t ls e)
  SimpleFinds (stmt.Abort place) ls p k = Unit {0}

  abbrev pub OptionFinds : Option ExprTree → List Local → PoolMap → ℕ → Type 0
  OptionFinds None ls p k = Unit {0}
  OptionFinds (Some e) ls p k = Finds t calls found e ls p k

  abbrev pub InitialFinds : Option InitialTree → List Local → PoolMap → ℕ → Type 0
  InitialFinds None ls p k = Unit {0}
  InitialFinds (Some i) ls p k = Finds t calls found i.value ls p k

  abbrev pub FirstFinds : Option FirstTree → List Local → PoolMap → ℕ → Type 0
  FirstFinds None ls p k = Unit {0}
  FirstFinds (Some (stmt.Declare d)) ls p k = InitialFinds d.initial ls p k
  FirstFinds (Some (stmt.Simply x)) ls p k = SimpleFinds x ls p k

  abbrev pub ThirdFinds : Option SimpleTree → List Local → PoolMap → ℕ → Type 0
  ThirdFinds None ls p k = Unit {0}
  ThirdFinds (Some x) ls p k = SimpleFinds x ls p k

  abbrev mutual
    pub StmtFinds : StmtTree → List Local → PoolMap → ℕ → Type 0
    StmtFinds stmt.Empty ls p k = Unit {0}
    StmtFinds (stmt.Declares d) ls p k = InitialFinds d.initial ls p k
    StmtFinds (stmt.Simple x) ls p k = SimpleFinds x ls p k
    StmtFinds (stmt.Block all) ls p k = StatementsFind all ls p k
    StmtFinds (stmt.If c a) ls p k = Finds t calls found c ls p k
        × Past (value_of t calls c ls p k) (λ v p k. is_zero v ≡ false → StmtFinds a ls p k)
    StmtFinds (stmt.IfElse c a b) ls p k = Finds t calls found c ls p k
        × Past (value_of t calls c ls p k) (λ v p k. (is_zero v ≡ false → StmtFinds a ls p k)
        × (is_zero v ≡ true → StmtFinds b ls p k))
    StmtFinds (stmt.While place c a) ls p k = TurnsFind k
        (λ ls p k. value_of t calls c ls p k) (λ ls p k. Finds t calls found c ls p k)
        (λ ls p k. in_scope (length ls) (end_of_stmt t calls a ls p k))
        (λ ls p k. StmtFinds a ls p k)
        (λ ls p k. Next ls p k) (λ ls p k. Unit {0}) ls p k
    -- the first round of a `do` has no test
    StmtFinds (stmt.Do place a c) ls p k = StmtFinds a ls p k
        × AfterTurn (in_scope (length ls) (end_of_stmt t calls a ls p k)) (λ ls p k. TurnsFind k
        (λ ls p k. value_of t calls c ls p k) (λ ls p k. Finds t calls found c ls p k)
        (λ ls p k. in_scope (length ls) (end_of_stmt t calls a ls p k))
        (λ ls p k. StmtFinds a ls p k)
        (λ ls p k. Next ls p k) (λ ls p k. Unit {0}) ls p k)
    StmtFinds (stmt.For place first c third a) ls p k = FirstFinds first ls p k
        × AfterNext (end_of_first t calls first ls p k) (λ ls p k. TurnsFind k
        (λ ls p k. condition_of t calls c ls p k) (λ ls p k. OptionFinds c ls p k)
        (λ ls p k. in_scope (length ls) (end_of_stmt t calls a ls p k))
        (λ ls p k. StmtFinds a ls p k)
        (λ ls p k. end_of_third t calls third ls p k) (λ ls p k. ThirdFinds third ls p k) ls p k)
    StmtFinds stmt.Break ls p k = Unit {0}
    StmtFinds stmt.Continue ls p k = Unit {0}
    StmtFinds (stmt.Return place e) ls p k = OptionFinds e ls p k

    pub StatementsFind : Statements → List Local → PoolMap → ℕ → Type 0
    StatementsFind stmt.Nothing ls p k = Unit {0}
    StatementsFind (stmt.Then x xs) ls p k = StmtFinds x ls p k
        × AfterNext (end_of_stmt t calls x ls p k) (λ ls p k. StatementsFind xs ls p k)

  -- a function has an argument for each of its parameters, and its body finds what it asks for
  abbrev pub FunctionFinds : FunctionTree → List ℤ → PoolMap → ℕ → Type 0
  FunctionFinds f vs p k = (length vs ≡ length f.parameters)
      × StatementsFind f.body (bound t f.parameters vs []) p k

-- a call when `room` more functions may be opened
abbrev pub CallFinds : Tables → (room : ℕ) → FunctionTree → List ℤ → PoolMap → ℕ → Type 0
CallFinds t zero f vs p k = Unit {0}
CallFinds t (suc room) f vs p k =
    FunctionFinds t (calls_of t room) (λ f vs p k. CallFinds t room f vs p k) f vs p k
