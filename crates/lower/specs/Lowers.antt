-- The code of a tree. It is fixed except for the numbers of registers.
use Rattle.std.specs.Prelude.{ℕ, suc, ℤ, pos, negsuc, List, [], ◌∷◌, ◌++◌, false, Option, None}
use Rattle.std.specs.Prelude.{Some}
use Rattle.nvm_base.specs.declared.op.BinOp.{BinOp}
use Rattle.nvm_base.specs.declared.op.BinOp.TheVariants as op
use Rattle.pool_map.specs.declared.trap.TrapKind.TheVariants as trap
use Rattle.c_tree.specs.declared.expr.UnaryOp.TheVariants as unary
use Rattle.c_tree.specs.declared.stmt.AssignOp.TheVariants as assign
use Rattle.c_tree.specs.declared.stmt.UpdateOp.{UpdateOp}
use Rattle.c_tree.specs.declared.stmt.UpdateOp.TheVariants as update
use Rattle.c_tree.specs.declared.stmt.StepOp.{StepOp}
use Rattle.c_tree.specs.declared.stmt.StepOp.TheVariants as step
use Rattle.c_tree.specs.ExprTree as expr
use Rattle.c_tree.specs.ExprTree.{ExprTree, Arguments, Ident}
use Rattle.c_tree.specs.StmtTree as stmt
use Rattle.c_tree.specs.StmtTree.{StmtTree, Statements, SimpleTree, FirstTree, DeclarationTree}
use Rattle.c_tree.specs.StmtTree.{InitialTree}
use Rattle.c_tree.specs.Program.{Program, source_line}
use Rattle.c_types.specs.Tables.{Tables, declared_type, pointed_struct}
use Rattle.c_types.specs.Expressions.{type_of, sides_type}
use Rattle.ir.specs.declared.instruction.Target.{Target}
use Rattle.ir.specs.declared.instruction.Instruction.{Instruction}
use Rattle.ir.specs.declared.instruction.Instruction.TheVariants.{Const, Copy, Bin, Jump, Branch}
use Rattle.ir.specs.declared.instruction.Instruction.TheVariants.{Load, Store, New, Free, Call}
use Rattle.ir.specs.declared.instruction.Instruction.TheVariants.{Return, Tick, Trap}
use Rattle.lower.specs.declared.form.Form.{Form}
use Rattle.lower.specs.declared.form.Form.TheVariants.{Both, Either, Direct, Exchanged}
use Rattle.lower.specs.Forms.{form_of, typed_form, operation_of}
use Rattle.c_tree.specs.Operators.{update_binary}
use Rattle.lower.specs.Names.{Variables, inner_variables, variable_declared, register_of}
use Rattle.lower.specs.Names.{function_number, kind_named, struct_kind_at}
use Rattle.lower.specs.Names.{root_target, field_target, element_target, no_target, variable_of}

-- what code is made from: the meaning of the names of structs and functions, the tree with its
-- lines, and the register of the value whose code ends at a place
pub record Context : Type 0 where
  pub tables : Tables
  pub tree : Program
  pub node : ℕ → ℕ

-- the end of the code of an operator and its right side that begins at p
abbrev pub form_end : Form → (ℕ → ℕ) → ℕ → ℕ
form_end Both right p = suc (suc (suc (suc (right (suc p)))))
form_end Either right p = suc (suc (suc (suc (right (suc (suc p))))))
form_end (Direct o) right p = suc (right p)
form_end (Exchanged o) right p = suc (right p)

abbrev mutual
  -- the end of the code of an expression that begins at p
  pub exp_end : ExprTree → ℕ → ℕ
  exp_end (expr.Number n) p = suc p
  exp_end expr.Null p = suc p
  exp_end (expr.Variable name) p = p
  exp_end (expr.Call name all) p = suc (suc (arguments_end all p))
  exp_end (expr.Root name) p = suc p
  exp_end (expr.New place name) p = suc p
  exp_end (expr.Arrow base place name) p = suc (exp_end base p)
  exp_end (expr.Index base place index) p = suc (exp_end index (target_end base p))
  exp_end (expr.Unary unary.Negate place a) p = suc (exp_end a (suc p))
  exp_end (expr.Unary unary.Complement place a) p = suc (exp_end a (suc p))
  exp_end (expr.Unary unary.Not place a) p = suc (suc (exp_end a p))
  -- a cast has no code; the type of ints makes no difference to the length of an operator's code
  exp_end (expr.Unary (unary.Cast n) place a) p = exp_end a p
  exp_end (expr.Binary o place a b) p = form_end (form_of o) (exp_end b) (exp_end a p)
  exp_end (expr.Conditional c place a b) p =
      suc (exp_end b (suc (suc (exp_end a (suc (exp_end c p))))))

  -- the end of the code of the base and the index of a field or an element
  pub target_end : ExprTree → ℕ → ℕ
  target_end (expr.Arrow base place name) p = exp_end base p
  target_end (expr.Index base place index) p = exp_end index (target_end base p)
  target_end (expr.Root name) p = p
  target_end (expr.Number n) p = p
  target_end expr.Null p = p
  target_end (expr.Variable name) p = p
  target_end (expr.Call name all) p = p
  target_end (expr.New place name) p = p
  target_end (expr.Unary o place a) p = p
  target_end (expr.Binary o place a b) p = p
  target_end (expr.Conditional c place a b) p = p

  pub arguments_end : Arguments → ℕ → ℕ
  arguments_end expr.None p = p
  arguments_end (expr.More first value rest) p = arguments_end rest (exp_end value p)

-- the register of an expression whose code ends at q; a variable has its own, and a cast that of
-- its operand
abbrev pub reg_of : Context → Variables → ExprTree → ℕ → ℕ
reg_of s v (expr.Variable name) q = register_of name.text v
reg_of s v (expr.Number n) q = s.node q
reg_of s v expr.Null q = s.node q
reg_of s v (expr.Call name all) q = s.node q
reg_of s v (expr.Root name) q = s.node q
reg_of s v (expr.New place name) q = s.node q
reg_of s v (expr.Arrow base place name) q = s.node q
reg_of s v (expr.Index base place index) q = s.node q
reg_of s v (expr.Unary (unary.Cast n) place a) q = reg_of s v a q
reg_of s v (expr.Unary unary.Negate place a) q = s.node q
reg_of s v (expr.Unary unary.Not place a) q = s.node q
reg_of s v (expr.Unary unary.Complement place a) q = s.node q
reg_of s v (expr.Binary o place a b) q = s.node q
reg_of s v (expr.Conditional c place a b) q = s.node q

-- the registers of arguments whose code begins at p
abbrev pub registers_of : Context → Variables → Arguments → ℕ → List ℕ
registers_of s v expr.None p = []
registers_of s v (expr.More first value rest) p =
    reg_of s v value (exp_end value p) ∷ registers_of s v rest (exp_end value p)

-- the target of a field or an element whose code begins at p
abbrev pub target_of : Context → Variables → ExprTree → ℕ → Target
target_of s v (expr.Root name) p = root_target s.tables name.text
target_of s v (expr.Arrow base place name) p =
    field_target s.tables (type_of s.tables v.scopes base)
    (reg_of s v base (exp_end base p)) name.text
target_of s v (expr.Index base place index) p =
    element_target (target_of s v base p) (reg_of s v index (exp_end index (target_end base p)))
target_of s v (expr.Number n) p = no_target
target_of s v expr.Null p = no_target
target_of s v (expr.Variable name) p = no_target
target_of s v (expr.Call name all) p = no_target
target_of s v (expr.New place name) p = no_target
target_of s v (expr.Unary o place a) p = no_target
target_of s v (expr.Binary o place a b) p = no_target
target_of s v (expr.Conditional c place a b) p = no_target

-- 1 if a register isn't 0, else 0
abbrev pub truth_code : (on to p : ℕ) → List Instruction
truth_code on to p = Branch on (suc (suc (suc p))) ∷ Const to (pos 1)
    ∷ Jump (suc (suc (suc (suc p)))) ∷ Const to (pos 0) ∷ []

-- the code of an operator and its right side, from p on, after that of its left side
abbrev pub form_code : Form → (node : ℕ → ℕ) → (code : ℕ → List Instruction) → (end reg : ℕ → ℕ)
    → (on p : ℕ) → List Instruction
form_code Both node code end reg on p =
    let q : ℕ = end (suc p) in
    Branch on (suc (suc (suc q))) ∷
    (code (suc p) ++ truth_code (reg q) (node (suc (suc (suc (suc q))))) q)
form_code Either node code end reg on p =
    let q : ℕ = end (suc (suc p)) in
    Branch on (suc (suc p)) ∷ Jump (suc q)
    ∷ (code (suc (suc p)) ++ truth_code (reg q) (node (suc (suc (suc (suc q))))) q)
form_code (Direct o) node code end reg on p =
    code p ++ Bin o (node (suc (end p))) on (reg (end p)) ∷ []
form_code (Exchanged o) node code end reg on p =
    code p ++ Bin o (node (suc (end p))) (reg (end p)) on ∷ []

abbrev mutual
  -- the code of an expression, from p on
  pub exp_code : Context → Variables → ExprTree → ℕ → List Instruction
  exp_code s v (expr.Number n) p = Const (s.node (suc p)) n ∷ []
  exp_code s v expr.Null p = Const (s.node (suc p)) (pos 0) ∷ []
  exp_code s v (expr.Variable name) p = []
  exp_code s v (expr.Call name all) p =
      arguments_code s v all p ++ Tick ∷ Call (s.node (suc (suc (arguments_end all p))))
      (function_number s.tables name.text) (registers_of s v all p) ∷ []
  exp_code s v (expr.Root name) p = Load (s.node (suc p)) (root_target s.tables name.text) ∷ []
  exp_code s v (expr.New place name) p =
      New (s.node (suc p)) (kind_named s.tables name.text) false (source_line s.tree place) ∷ []
  exp_code s v (expr.Arrow base place name) p =
      exp_code s v base p ++ Load (s.node (suc (exp_end base p)))
      (target_of s v (expr.Arrow base place name) p) ∷ []
  exp_code s v (expr.Index base place index) p =
      (target_code s v base p ++ exp_code s v index (target_end base p))
      ++ Load (s.node (suc (exp_end index (target_end base p))))
      (target_of s v (expr.Index base place index) p) ∷ []
  exp_code s v (expr.Unary unary.Negate place a) p =
      let q : ℕ = exp_end a (suc p) in
      Const (s.node (suc p)) (pos 0)
      ∷ (exp_code s v a (suc p) ++ Bin op.Sub (s.node (suc q)) (s.node (suc p)) (reg_of s v a q)
      ∷ [])
  exp_code s v (expr.Unary unary.Complement place a) p =
      let q : ℕ = exp_end a (suc p) in
      Const (s.node (suc p)) (negsuc 0)
      ∷ (exp_code s v a (suc p) ++ Bin op.Xor (s.node (suc q)) (s.node (suc p)) (reg_of s v a q)
      ∷ [])
  exp_code s v (expr.Unary unary.Not place a) p =
      let q : ℕ = exp_end a p in
      exp_code s v a p ++ Const (s.node (suc q)) (pos 0) ∷ Bin op.Eq (s.node (suc (suc q)))
      (reg_of s v a q) (s.node (suc q)) ∷ []
  exp_code s v (expr.Unary (unary.Cast n) place a) p = exp_code s v a p
  exp_code s v (expr.Binary o place a b) p =
      let q : ℕ = exp_end a p in
      exp_code s v a p ++ form_code (typed_form (sides_type s.tables v.scopes o a b) (form_of o))
      s.node (exp_code s v b) (exp_end b) (reg_of s v b) (reg_of s v a q) q
  -- a branch over the left side, and after each side a copy to one register
  exp_code s v (expr.Conditional c place a b) p =
      let p1 : ℕ = exp_end c p in
      let p2 : ℕ = exp_end a (suc p1) in
      let p3 : ℕ = exp_end b (suc (suc p2)) in
      exp_code s v c p ++ (Branch (reg_of s v c p1) (suc (suc p2)) ∷ (exp_code s v a (suc p1)
      ++ Copy (s.node (suc p3)) (reg_of s v a p2) ∷ Jump (suc p3)
      ∷ (exp_code s v b (suc (suc p2)) ++ Copy (s.node (suc p3)) (reg_of s v b p3) ∷ [])))

  -- the code of the base and of the index of a field or an element
  pub target_code : Context → Variables → ExprTree → ℕ → List Instruction
  target_code s v (expr.Arrow base place name) p = exp_code s v base p
  target_code s v (expr.Index base place index) p =
      target_code s v base p ++ exp_code s v index (target_end base p)
  target_code s v (expr.Root name) p = []
  target_code s v (expr.Number n) p = []
  target_code s v expr.Null p = []
  target_code s v (expr.Variable name) p = []
  target_code s v (expr.Call name all) p = []
  target_code s v (expr.New place name) p = []
  target_code s v (expr.Unary o place a) p = []
  target_code s v (expr.Binary o place a b) p = []
  target_code s v (expr.Conditional c place a b) p = []

  pub arguments_code : Context → Variables → Arguments → ℕ → List Instruction
  arguments_code s v expr.None p = []
  arguments_code s v (expr.More first value rest) p =
      exp_code s v value p ++ arguments_code s v rest (exp_end value p)

-- an optional value; if absent, it is a constant
abbrev pub or_end : Option ExprTree → ℕ → ℕ
or_end None p = suc p
or_end (Some e) p = exp_end e p

abbrev pub or_reg : Context → Variables → Option ExprTree → ℕ → ℕ
or_reg s v None q = s.node q
or_reg s v (Some e) q = reg_of s v e q

abbrev pub or_code : Context → Variables → ℤ → Option ExprTree → ℕ → List Instruction
or_code s v n None p = Const (s.node (suc p)) n ∷ []
or_code s v n (Some e) p = exp_code s v e p

-- `=`, to a variable or to a field or an element
abbrev pub set_end : Option Ident → ExprTree → ExprTree → ℕ → ℕ
set_end (Some name) target value p = suc (exp_end value p)
set_end None target value p = suc (exp_end value (target_end target p))

abbrev pub set_code : Context → Variables → Option Ident → ExprTree → (place : ℕ) → ExprTree → ℕ
    → List Instruction
set_code s v (Some name) target place value p =
    exp_code s v value p ++ Copy (register_of name.text v) (reg_of s v value (exp_end value p)) ∷ []
set_code s v None target place value p =
    let p1 : ℕ = target_end target p in
    let p2 : ℕ = exp_end value p1 in
    target_code s v target p ++ (exp_code s v value p1 ++ Store (target_of s v target p)
    (reg_of s v value p2) (source_line s.tree place) ∷ [])

-- an assignment with an operator, and `++` and `--`, which have no value and mean 1: base and index
-- are evaluated once
abbrev pub update_end : Option Ident → ExprTree → Option ExprTree → ℕ → ℕ
update_end (Some name) target value p = suc (suc (or_end value p))
update_end None target value p = suc (suc (or_end value (suc (target_end target p))))

abbrev pub update_code : Context → Variables → Option Ident → ExprTree → (place : ℕ) → BinOp
    → Option ExprTree → ℕ → List Instruction
update_code s v (Some name) target place o value p =
    let p1 : ℕ = or_end value p in
    let r : ℕ = register_of name.text v in
    or_code s v (pos 1) value p ++ Bin o (s.node (suc p1)) r (or_reg s v value p1)
    ∷ Copy r (s.node (suc p1)) ∷ []
update_code s v None target place o value p =
    let p1 : ℕ = target_end target p in
    let p2 : ℕ = or_end value (suc p1) in
    let t : Target = target_of s v target p in
    target_code s v target p ++ (Load (s.node (suc p1)) t ∷ (or_code s v (pos 1) value (suc p1)
    ++ Bin o (s.node (suc p2)) (s.node (suc p1)) (or_reg s v value p2) ∷ Store t (s.node (suc p2))
    (source_line s.tree place) ∷ []))

-- the operation of an assignment with an operator, with the target on its left
abbrev pub update_operation : UpdateOp → BinOp
update_operation update.Mul = op.Mul
update_operation update.Div = op.Div
update_operation update.Rem = op.Rem
update_operation update.Add = op.Add
update_operation update.Sub = op.Sub
update_operation update.ShiftLeft = op.Shl
update_operation update.ShiftRight = op.Shr
update_operation update.And = op.And
update_operation update.Xor = op.Xor
update_operation update.Or = op.Or

abbrev pub step_operation : StepOp → BinOp
step_operation step.Up = op.Add
step_operation step.Down = op.Sub

abbrev pub simple_end : SimpleTree → ℕ → ℕ
simple_end (stmt.Assign target assign.Set place value) p =
    set_end (variable_of target) target value p
simple_end (stmt.Assign target (assign.Update o) place value) p =
    update_end (variable_of target) target (Some value) p
simple_end (stmt.Step target o place) p = update_end (variable_of target) target None p
simple_end (stmt.Call name all) p = exp_end (expr.Call name all) p
simple_end (stmt.Free place pointer) p = suc (exp_end pointer p)
simple_end (stmt.Abort place) p = suc p

abbrev pub simple_code : Context → Variables → SimpleTree → ℕ → List Instruction
simple_code s v (stmt.Assign target assign.Set place value) p =
    set_code s v (variable_of target) target place value p
simple_code s v (stmt.Assign target (assign.Update o) place value) p =
    update_code s v (variable_of target) target place
    (operation_of (sides_type s.tables v.scopes (update_binary o) target value)
    (update_operation o)) (Some value) p
simple_code s v (stmt.Step target o place) p =
    update_code s v (variable_of target) target place (step_operation o) None p
simple_code s v (stmt.Call name all) p = exp_code s v (expr.Call name all) p
simple_code s v (stmt.Free place pointer) p =
    exp_code s v pointer p ++ Free (reg_of s v pointer (exp_end pointer p))
    (struct_kind_at s.tables (pointed_struct (type_of s.tables v.scopes pointer)))
    (source_line s.tree place) ∷ []
simple_code s v (stmt.Abort place) p = Trap trap.Abort ∷ []

-- a declared variable has the register of the instruction that gives it its first value
abbrev pub initial_end : Option InitialTree → ℕ → ℕ
initial_end None p = suc p
initial_end (Some i) p = suc (exp_end i.value p)

abbrev pub initial_code : Context → Variables → Option InitialTree → ℕ → List Instruction
initial_code s v None p = Const (s.node (suc p)) (pos 0) ∷ []
initial_code s v (Some i) p = exp_code s v i.value p ++ Copy (s.node (suc (exp_end i.value p)))
    (reg_of s v i.value (exp_end i.value p)) ∷ []

-- the variables after a declaration whose code begins at p
abbrev pub variables_after_declaration : Context → DeclarationTree → ℕ → Variables → Variables
variables_after_declaration s d p v =
    variable_declared d.name.text (declared_type s.tables d.ty) (s.node (initial_end d.initial p)) v

-- the optional first part of a `for`
abbrev pub first_end : Option FirstTree → ℕ → ℕ
first_end None p = p
first_end (Some (stmt.Declare d)) p = initial_end d.initial p
first_end (Some (stmt.Simply x)) p = simple_end x p

abbrev pub first_code : Context → Variables → Option FirstTree → ℕ → List Instruction
first_code s v None p = []
first_code s v (Some (stmt.Declare d)) p = initial_code s v d.initial p
first_code s v (Some (stmt.Simply x)) p = simple_code s v x p

abbrev pub variables_after_first : Context → Option FirstTree → ℕ → Variables → Variables
variables_after_first s None p v = v
variables_after_first s (Some (stmt.Declare d)) p v = variables_after_declaration s d p v
variables_after_first s (Some (stmt.Simply x)) p v = v

-- the optional third part of a `for`
abbrev pub third_end : Option SimpleTree → ℕ → ℕ
third_end None p = p
third_end (Some x) p = simple_end x p

abbrev pub third_code : Context → Variables → Option SimpleTree → ℕ → List Instruction
third_code s v None p = []
third_code s v (Some x) p = simple_code s v x p

-- the variables after a statement whose code begins at p: only a declaration changes them
abbrev pub variables_after : Context → StmtTree → ℕ → Variables → Variables
variables_after s (stmt.Declares d) p v = variables_after_declaration s d p v
variables_after s stmt.Empty p v = v
variables_after s (stmt.Simple x) p v = v
variables_after s (stmt.Block all) p v = v
variables_after s (stmt.If c a) p v = v
variables_after s (stmt.IfElse c a b) p v = v
variables_after s (stmt.While place c a) p v = v
variables_after s (stmt.Do place a c) p v = v
variables_after s (stmt.For place first c third a) p v = v
variables_after s stmt.Break p v = v
variables_after s stmt.Continue p v = v
variables_after s (stmt.Return place value) p v = v

abbrev mutual
  pub stmt_end : StmtTree → ℕ → ℕ
  stmt_end stmt.Empty p = p
  stmt_end (stmt.Declares d) p = initial_end d.initial p
  stmt_end (stmt.Simple x) p = simple_end x p
  stmt_end (stmt.Block all) p = statements_end all p
  stmt_end (stmt.If c a) p = stmt_end a (suc (exp_end c p))
  stmt_end (stmt.IfElse c a b) p = stmt_end b (suc (stmt_end a (suc (exp_end c p))))
  stmt_end (stmt.While place c a) p = suc (stmt_end a (suc (exp_end c (suc p))))
  stmt_end (stmt.Do place a c) p = suc (suc (exp_end c (suc (stmt_end a p))))
  stmt_end (stmt.For place first c third a) p =
      suc (third_end third (stmt_end a (suc (or_end c (suc (first_end first p))))))
  stmt_end stmt.Break p = suc p
  stmt_end stmt.Continue p = suc p
  stmt_end (stmt.Return place value) p = suc (or_end value p)

  pub statements_end : Statements → ℕ → ℕ
  statements_end stmt.Nothing p = p
  statements_end (stmt.Then x xs) p = statements_end xs (stmt_end x p)

abbrev mutual
  -- the code of a statement, from p on; break goes to the place `out`, continue to the place
  -- `again`
  pub stmt_code : Context → Variables → StmtTree → (out again p : ℕ) → List Instruction
  stmt_code s v stmt.Empty out again p = []
  stmt_code s v (stmt.Declares d) out again p = initial_code s v d.initial p
  stmt_code s v (stmt.Simple x) out again p = simple_code s v x p
  stmt_code s v (stmt.Block all) out again p = statements_code s (inner_variables v) all out again p
  stmt_code s v (stmt.If c a) out again p =
      let p1 : ℕ = exp_end c p in
      exp_code s v c p ++ (Branch (reg_of s v c p1) (stmt_end a (suc p1))
      ∷ stmt_code s (inner_variables v) a out again (suc p1))
  stmt_code s v (stmt.IfElse c a b) out again p =
      let p1 : ℕ = exp_end c p in
      let p2 : ℕ = stmt_end a (suc p1) in
      exp_code s v c p ++ (Branch (reg_of s v c p1) (suc p2)
      ∷ (stmt_code s (inner_variables v) a out again (suc p1) ++ Jump (stmt_end b (suc p2))
      ∷ stmt_code s (inner_variables v) b out again (suc p2)))
  stmt_code s v (stmt.While place c a) out again p =
      let p1 : ℕ = exp_end c (suc p) in
      let p2 : ℕ = stmt_end a (suc p1) in
      Tick ∷ (exp_code s v c (suc p)
      ++ (Branch (reg_of s v c p1) (suc p2)
      ∷ (stmt_code s (inner_variables v) a (suc p2) p (suc p1) ++ Jump p ∷ [])))
  stmt_code s v (stmt.Do place a c) out again p =
      let p1 : ℕ = stmt_end a p in
      let p2 : ℕ = exp_end c (suc p1) in
      stmt_code s (inner_variables v) a (suc (suc p2)) p1 p
      ++ (Tick ∷ (exp_code s v c (suc p1)
      ++ (Branch (reg_of s v c p2) (suc (suc p2)) ∷ Jump p ∷ [])))
  stmt_code s v (stmt.For place first c third a) out again p =
      let u : Variables = variables_after_first s first p (inner_variables v) in
      let p0 : ℕ = first_end first p in
      let p1 : ℕ = or_end c (suc p0) in
      let p2 : ℕ = stmt_end a (suc p1) in
      let p3 : ℕ = third_end third p2 in
      first_code s (inner_variables v) first p
      ++ (Tick ∷ (or_code s u (pos 1) c (suc p0) ++ (Branch (or_reg s u c p1) (suc p3)
      ∷ (stmt_code s (inner_variables u) a (suc p3) p2 (suc p1)
      ++ (third_code s u third p2 ++ Jump p0 ∷ [])))))
  stmt_code s v stmt.Break out again p = Jump out ∷ []
  stmt_code s v stmt.Continue out again p = Jump again ∷ []
  stmt_code s v (stmt.Return place value) out again p =
      or_code s v (pos 0) value p ++ Return (or_reg s v value (or_end value p)) ∷ []

  pub statements_code : Context → Variables → Statements → (out again p : ℕ) → List Instruction
  statements_code s v stmt.Nothing out again p = []
  statements_code s v (stmt.Then x xs) out again p =
      stmt_code s v x out again p ++ statements_code s (variables_after s x p v) xs out again
      (stmt_end x p)
