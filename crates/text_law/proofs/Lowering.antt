-- Trees with the same items and the same lines have the same code.
use Rattle.std.proofs.Common.{◌≡◌, ℕ, suc, ◌+◌, ℤ, pos, Bool, true, false, List, [], ◌∷◌}
use Rattle.std.proofs.Common.{◌++◌, Option, Some, None, refl, ap, ◌∙◌}
use Rattle.std.specs.Prelude.{map, if◌then◌else◌, length}
use Rattle.nvm_base.specs.declared.op.BinOp.{BinOp}
use Rattle.nvm_base.specs.declared.op.BinOp.TheVariants as op
use Rattle.c_tree.specs.declared.expr.UnaryOp.TheVariants as unary
use Rattle.c_tree.specs.declared.stmt.AssignOp.TheVariants as assign
use Rattle.c_tree.specs.ExprTree as expr
use Rattle.c_tree.specs.ExprTree.{ExprTree, Arguments, Ident}
use Rattle.c_tree.specs.StmtTree as stmt
use Rattle.c_tree.specs.StmtTree.{StmtTree, Statements, SimpleTree, FirstTree, InitialTree}
use Rattle.c_tree.specs.ItemTree.{ItemTree, FunctionTree, ParameterTree}
use Rattle.c_tree.specs.Program.{Program, source_line, tree_of}
use Rattle.c_types.specs.Tables.{Tables, declared_type, tables_of, pointed_struct}
use Rattle.c_tree.specs.Operators.{update_binary}
use Rattle.c_types.specs.Expressions.{type_of, sides_type}
use Rattle.c_types.specs.Shapes.{shapes_in}
use Rattle.ir.specs.declared.instruction.Target.{Target}
use Rattle.ir.specs.declared.instruction.Instruction.{Instruction}
use Rattle.ir.specs.declared.instruction.Instruction.TheVariants.{Copy, Bin, Jump, Branch}
use Rattle.ir.specs.declared.instruction.Instruction.TheVariants.{Load, Store, New, Free, Call}
use Rattle.ir.specs.declared.instruction.Instruction.TheVariants.{Return, Tick}
use Rattle.ir.specs.declared.function.IrFunction.{IrFunction}
use Rattle.ir.specs.declared.function.Ir.{Ir}
use Rattle.lower.specs.declared.form.Form.{Form}
use Rattle.lower.specs.declared.form.Form.TheVariants.{Both, Either, Direct, Exchanged}
use Rattle.lower.specs.Forms.{form_of, typed_form, operation_of}
use Rattle.lower.specs.Names.{Variables, inner_variables, variable_declared, register_of}
use Rattle.lower.specs.Names.{function_number, struct_kind_at, field_target, element_target}
use Rattle.lower.specs.Names.{kind_named, variable_of}
use Rattle.lower.specs.Assigned.{is_assigned}
use Rattle.lower.specs.Lowers.{Context, exp_end, target_end, arguments_end, reg_of, registers_of}
use Rattle.lower.specs.Lowers.{target_of, truth_code, form_code, exp_code, target_code}
use Rattle.lower.specs.Lowers.{arguments_code, or_end, or_reg, or_code, set_code, update_code}
use Rattle.lower.specs.Lowers.{update_operation, step_operation, simple_code, initial_code}
use Rattle.lower.specs.Lowers.{first_end, first_code}
use Rattle.lower.specs.Lowers.{variables_after_first, third_end, third_code, variables_after}
use Rattle.lower.specs.Lowers.{stmt_end, statements_end, stmt_code, statements_code}
use Rattle.lower.specs.Program.{parameters_end, parameters_code, variables_after_parameters}
use Rattle.lower.specs.Program.{no_variables, function_code}
use Rattle.lower.specs.Program.{lowered_function, lowered}

abbrev Code : Type 0
Code = List Instruction

both : (a b c d : Code) → a ≡ b → c ≡ d → a ++ c ≡ b ++ d
both a b c d e f = ap (λ (x : Code). x ++ c) e ∙ ap (λ (x : Code). b ++ x) f

heads : (i j : Instruction) (c d : Code) → i ≡ j → c ≡ d → i ∷ c ≡ j ∷ d
heads i j c d e f = ap (λ (x : Instruction). x ∷ c) e ∙ ap (λ (x : Code). j ∷ x) f

ends : (i j : Instruction) → i ≡ j → i ∷ [] ≡ j ∷ []
ends i j e = ap (λ (x : Instruction). x ∷ []) e

rest : (i : Instruction) (c d : Code) → c ≡ d → i ∷ c ≡ i ∷ d
rest i c d e = ap (λ (x : Code). i ∷ x) e

form_same : (f : Form) (node : ℕ → ℕ) (code code' : ℕ → Code) (end reg reg' : ℕ → ℕ)
    (on on' p : ℕ) → ((q : ℕ) → code q ≡ code' q) → ((q : ℕ) → reg q ≡ reg' q) → on ≡ on'
    → form_code f node code end reg on p ≡ form_code f node code' end reg' on' p
form_same Both node code code' end reg reg' on on' p same regs ons =
    let q : ℕ = end (suc p) in
    heads _ _ _ _ (ap (λ (r : ℕ). Branch r (suc (suc (suc q)))) ons)
    (both _ _ _ _ (same (suc p))
    (ap (λ (r : ℕ). truth_code r (node (suc (suc (suc (suc q))))) q) (regs q)))
form_same Either node code code' end reg reg' on on' p same regs ons =
    let q : ℕ = end (suc (suc p)) in
    heads _ _ _ _ (ap (λ (r : ℕ). Branch r (suc (suc p))) ons)
    (rest _ _ _ (both _ _ _ _ (same (suc (suc p)))
    (ap (λ (r : ℕ). truth_code r (node (suc (suc (suc (suc q))))) q) (regs q))))
form_same (Direct o) node code code' end reg reg' on on' p same regs ons =
    both _ _ _ _ (same p)
    (ends _ _ (ap (λ (r : ℕ). Bin o (node (suc (end p))) r (reg (end p))) ons
    ∙ ap (λ (r : ℕ). Bin o (node (suc (end p))) on' r) (regs (end p))))
form_same (Exchanged o) node code code' end reg reg' on on' p same regs ons =
    both _ _ _ _ (same p)
    (ends _ _ (ap (λ (r : ℕ). Bin o (node (suc (end p))) (reg (end p)) r) ons
    ∙ ap (λ (r : ℕ). Bin o (node (suc (end p))) r on') (regs (end p))))

module _ (t : Tables) (one two : Program) (node : ℕ → ℕ)
    (lines : (place : ℕ) → source_line one place ≡ source_line two place) where
  abbrev a : Context
  a = record { tables = t; tree = one; node = node }

  abbrev b : Context
  b = record { tables = t; tree = two; node = node }

  reg_same : (v : Variables) (e : ExprTree) (q : ℕ) → reg_of a v e q ≡ reg_of b v e q
  reg_same v (expr.Variable name) q = refl
  reg_same v (expr.Number n) q = refl
  reg_same v expr.Null q = refl
  reg_same v (expr.Call name all) q = refl
  reg_same v (expr.Root name) q = refl
  reg_same v (expr.New place name) q = refl
  reg_same v (expr.Arrow base place name) q = refl
  reg_same v (expr.Index base place index) q = refl
  reg_same v (expr.Unary (unary.Cast n) place x) q = reg_same v x q
  reg_same v (expr.Unary unary.Negate place x) q = refl
  reg_same v (expr.Unary unary.Not place x) q = refl
  reg_same v (expr.Unary unary.Complement place x) q = refl
  reg_same v (expr.Binary o place x y) q = refl
  reg_same v (expr.Conditional c place x y) q = refl

  registers_same : (v : Variables) (all : Arguments) (p : ℕ)
      → registers_of a v all p ≡ registers_of b v all p
  registers_same v expr.None p = refl
  registers_same v (expr.More first value others) p =
      ap (λ (r : ℕ). r ∷ registers_of a v others (exp_end value p))
      (reg_same v value (exp_end value p))
      ∙ ap (λ (rs : List ℕ). reg_of b v value (exp_end value p) ∷ rs)
      (registers_same v others (exp_end value p))

  target_same : (v : Variables) (e : ExprTree) (p : ℕ) → target_of a v e p ≡ target_of b v e p
  target_same v (expr.Root name) p = refl
  target_same v (expr.Arrow base place name) p =
      ap (λ (r : ℕ). field_target t (type_of t v.scopes base) r name.text)
      (reg_same v base (exp_end base p))
  target_same v (expr.Index base place index) p =
      ap (λ (x : Target). element_target x (reg_of a v index (exp_end index (target_end base p))))
      (target_same v base p)
      ∙ ap (λ (r : ℕ). element_target (target_of b v base p) r)
      (reg_same v index (exp_end index (target_end base p)))
  target_same v (expr.Variable name) p = refl
  target_same v (expr.Number n) p = refl
  target_same v expr.Null p = refl
  target_same v (expr.Call name all) p = refl
  target_same v (expr.New place name) p = refl
  target_same v (expr.Unary o place x) p = refl
  target_same v (expr.Binary o place x y) p = refl
  target_same v (expr.Conditional c place x y) p = refl

  loads_same : (v : Variables) (e : ExprTree) (p to : ℕ)
      → Load to (target_of a v e p) ∷ [] ≡ Load to (target_of b v e p) ∷ []
  loads_same v e p to = ends _ _ (ap (λ (x : Target). Load to x) (target_same v e p))

  mutual
    exp_same : (v : Variables) (e : ExprTree) (p : ℕ) → exp_code a v e p ≡ exp_code b v e p
    exp_same v (expr.Number n) p = refl
    exp_same v expr.Null p = refl
    exp_same v (expr.Variable name) p = refl
    exp_same v (expr.Call name all) p =
        both _ _ _ _ (arguments_same v all p)
        (rest _ _ _ (ends _ _ (ap (λ (rs : List ℕ). Call (node (suc (suc (arguments_end all p))))
        (function_number t name.text) rs) (registers_same v all p))))
    exp_same v (expr.Root name) p = refl
    exp_same v (expr.New place name) p =
        ends _ _ (ap (λ (n : ℕ). New (node (suc p)) (kind_named t name.text) false n) (lines place))
    exp_same v (expr.Arrow base place name) p =
        both _ _ _ _ (exp_same v base p)
        (loads_same v (expr.Arrow base place name) p (node (suc (exp_end base p))))
    exp_same v (expr.Index base place index) p =
        both _ _ _ _ (both _ _ _ _ (aims_same v base p)
        (exp_same v index (target_end base p)))
        (loads_same v (expr.Index base place index) p
        (node (suc (exp_end index (target_end base p)))))
    exp_same v (expr.Unary unary.Negate place x) p =
        let q : ℕ = exp_end x (suc p) in
        rest _ _ _ (both _ _ _ _ (exp_same v x (suc p))
        (ends _ _ (ap (λ (r : ℕ). Bin op.Sub (node (suc q)) (node (suc p)) r) (reg_same v x q))))
    exp_same v (expr.Unary unary.Complement place x) p =
        let q : ℕ = exp_end x (suc p) in
        rest _ _ _ (both _ _ _ _ (exp_same v x (suc p))
        (ends _ _ (ap (λ (r : ℕ). Bin op.Xor (node (suc q)) (node (suc p)) r) (reg_same v x q))))
    exp_same v (expr.Unary unary.Not place x) p =
        let q : ℕ = exp_end x p in
        both _ _ _ _ (exp_same v x p)
        (rest _ _ _ (ends _ _ (ap (λ (r : ℕ). Bin op.Eq (node (suc (suc q))) r (node (suc q)))
        (reg_same v x q))))
    exp_same v (expr.Unary (unary.Cast n) place x) p = exp_same v x p
    exp_same v (expr.Binary o place x y) p =
        let q : ℕ = exp_end x p in
        both _ _ _ _ (exp_same v x p)
        (form_same (typed_form (sides_type t v.scopes o x y) (form_of o)) node (exp_code a v y)
        (exp_code b v y) (exp_end y) (reg_of a v y) (reg_of b v y) (reg_of a v x q)
        (reg_of b v x q) q (exp_same v y) (reg_same v y) (reg_same v x q))
    exp_same v (expr.Conditional c place x y) p =
        let p1 : ℕ = exp_end c p in
        let p2 : ℕ = exp_end x (suc p1) in
        let p3 : ℕ = exp_end y (suc (suc p2)) in
        both _ _ _ _ (exp_same v c p)
        (heads _ _ _ _ (ap (λ (r : ℕ). Branch r (suc (suc p2))) (reg_same v c p1))
        (both _ _ _ _ (exp_same v x (suc p1))
        (heads _ _ _ _ (ap (λ (r : ℕ). Copy (node (suc p3)) r) (reg_same v x p2))
        (rest _ _ _ (both _ _ _ _ (exp_same v y (suc (suc p2)))
        (ends _ _ (ap (λ (r : ℕ). Copy (node (suc p3)) r) (reg_same v y p3))))))))

    aims_same : (v : Variables) (e : ExprTree) (p : ℕ) → target_code a v e p ≡ target_code b v e p
    aims_same v (expr.Arrow base place name) p = exp_same v base p
    aims_same v (expr.Index base place index) p =
        both _ _ _ _ (aims_same v base p) (exp_same v index (target_end base p))
    aims_same v (expr.Root name) p = refl
    aims_same v (expr.Number n) p = refl
    aims_same v expr.Null p = refl
    aims_same v (expr.Variable name) p = refl
    aims_same v (expr.Call name all) p = refl
    aims_same v (expr.New place name) p = refl
    aims_same v (expr.Unary o place x) p = refl
    aims_same v (expr.Binary o place x y) p = refl
    aims_same v (expr.Conditional c place x y) p = refl

    arguments_same : (v : Variables) (all : Arguments) (p : ℕ)
        → arguments_code a v all p ≡ arguments_code b v all p
    arguments_same v expr.None p = refl
    arguments_same v (expr.More first value others) p =
        both _ _ _ _ (exp_same v value p) (arguments_same v others (exp_end value p))

  or_reg_same : (v : Variables) (o : Option ExprTree) (q : ℕ) → or_reg a v o q ≡ or_reg b v o q
  or_reg_same v None q = refl
  or_reg_same v (Some e) q = reg_same v e q

  or_same : (v : Variables) (n : ℤ) (o : Option ExprTree) (p : ℕ)
      → or_code a v n o p ≡ or_code b v n o p
  or_same v n None p = refl
  or_same v n (Some e) p = exp_same v e p

  set_same : (v : Variables) (o : Option Ident) (x : ExprTree) (place : ℕ) (e : ExprTree) (p : ℕ)
      → set_code a v o x place e p ≡ set_code b v o x place e p
  set_same v (Some name) x place e p =
      both _ _ _ _ (exp_same v e p)
      (ends _ _ (ap (λ (r : ℕ). Copy (register_of name.text v) r) (reg_same v e (exp_end e p))))
  set_same v None x place e p =
      let p1 : ℕ = target_end x p in
      let p2 : ℕ = exp_end e p1 in
      both _ _ _ _ (aims_same v x p) (both _ _ _ _ (exp_same v e p1)
      (ends _ _ (ap (λ (y : Target). Store y (reg_of a v e p2) (source_line one place))
      (target_same v x p)
      ∙ ap (λ (r : ℕ). Store (target_of b v x p) r (source_line one place)) (reg_same v e p2)
      ∙ ap (λ (n : ℕ). Store (target_of b v x p) (reg_of b v e p2) n) (lines place))))

  update_same : (v : Variables) (o : Option Ident) (x : ExprTree) (place : ℕ) (f : BinOp)
      (e : Option ExprTree) (p : ℕ)
      → update_code a v o x place f e p ≡ update_code b v o x place f e p
  update_same v (Some name) x place f e p =
      let p1 : ℕ = or_end e p in
      both _ _ _ _ (or_same v (pos 1) e p)
      (heads _ _ _ _ (ap (λ (r : ℕ). Bin f (node (suc p1)) (register_of name.text v) r)
      (or_reg_same v e p1)) refl)
  update_same v None x place f e p =
      let p1 : ℕ = target_end x p in
      let p2 : ℕ = or_end e (suc p1) in
      both _ _ _ _ (aims_same v x p)
      (heads _ _ _ _ (ap (λ (y : Target). Load (node (suc p1)) y) (target_same v x p))
      (both _ _ _ _ (or_same v (pos 1) e (suc p1))
      (heads _ _ _ _ (ap (λ (r : ℕ). Bin f (node (suc p2)) (node (suc p1)) r)
      (or_reg_same v e p2))
      (ends _ _ (ap (λ (y : Target). Store y (node (suc p2)) (source_line one place))
      (target_same v x p)
      ∙ ap (λ (n : ℕ). Store (target_of b v x p) (node (suc p2)) n) (lines place))))))

  simple_same : (v : Variables) (x : SimpleTree) (p : ℕ)
      → simple_code a v x p ≡ simple_code b v x p
  simple_same v (stmt.Assign x assign.Set place e) p = set_same v (variable_of x) x place e p
  simple_same v (stmt.Assign x (assign.Update o) place e) p =
      update_same v (variable_of x) x place
      (operation_of (sides_type t v.scopes (update_binary o) x e) (update_operation o)) (Some e) p
  simple_same v (stmt.Step x o place) p =
      update_same v (variable_of x) x place (step_operation o) None p
  simple_same v (stmt.Call name all) p = exp_same v (expr.Call name all) p
  simple_same v (stmt.Free place e) p =
      let kind : ℕ = struct_kind_at t (pointed_struct (type_of t v.scopes e)) in
      both _ _ _ _ (exp_same v e p)
      (ends _ _ (ap (λ (r : ℕ). Free r kind (source_line one place)) (reg_same v e (exp_end e p))
      ∙ ap (λ (n : ℕ). Free (reg_of b v e (exp_end e p)) kind n) (lines place)))
  simple_same v (stmt.Abort place) p = refl

  initial_same : (v : Variables) (o : Option InitialTree) (p : ℕ)
      → initial_code a v o p ≡ initial_code b v o p
  initial_same v None p = refl
  initial_same v (Some i) p =
      both _ _ _ _ (exp_same v i.value p)
      (ends _ _ (ap (λ (r : ℕ). Copy (node (suc (exp_end i.value p))) r)
      (reg_same v i.value (exp_end i.value p))))

  first_same : (v : Variables) (o : Option FirstTree) (p : ℕ)
      → first_code a v o p ≡ first_code b v o p
  first_same v None p = refl
  first_same v (Some (stmt.Declare d)) p = initial_same v d.initial p
  first_same v (Some (stmt.Simply x)) p = simple_same v x p

  after_first_same : (o : Option FirstTree) (p : ℕ) (v : Variables)
      → variables_after_first a o p v ≡ variables_after_first b o p v
  after_first_same None p v = refl
  after_first_same (Some (stmt.Declare d)) p v = refl
  after_first_same (Some (stmt.Simply x)) p v = refl

  third_same : (v : Variables) (o : Option SimpleTree) (p : ℕ)
      → third_code a v o p ≡ third_code b v o p
  third_same v None p = refl
  third_same v (Some x) p = simple_same v x p

  after_same : (x : StmtTree) (p : ℕ) (v : Variables)
      → variables_after a x p v ≡ variables_after b x p v
  after_same (stmt.Declares d) p v = refl
  after_same stmt.Empty p v = refl
  after_same (stmt.Simple x) p v = refl
  after_same (stmt.Block all) p v = refl
  after_same (stmt.If c x) p v = refl
  after_same (stmt.IfElse c x y) p v = refl
  after_same (stmt.While place c x) p v = refl
  after_same (stmt.Do place x c) p v = refl
  after_same (stmt.For place first c third x) p v = refl
  after_same stmt.Break p v = refl
  after_same stmt.Continue p v = refl
  after_same (stmt.Return place value) p v = refl

  -- a `for`, of which the variables after its first part are known
  for_same : (first : Option FirstTree) (c : Option ExprTree) (third : Option SimpleTree)
      (x : StmtTree) (v u w : Variables) (p0 p1 p2 p3 p : ℕ) → u ≡ w
      → ((y : Variables) → stmt_code a (inner_variables y) x (suc p3) p2 (suc p1)
      ≡ stmt_code b (inner_variables y) x (suc p3) p2 (suc p1))
      → first_code a (inner_variables v) first p
      ++ (Tick ∷ (or_code a u (pos 1) c (suc p0) ++ (Branch (or_reg a u c p1) (suc p3)
      ∷ (stmt_code a (inner_variables u) x (suc p3) p2 (suc p1)
      ++ (third_code a u third p2 ++ Jump p0 ∷ [])))))
      ≡ first_code b (inner_variables v) first p
      ++ (Tick ∷ (or_code b w (pos 1) c (suc p0) ++ (Branch (or_reg b w c p1) (suc p3)
      ∷ (stmt_code b (inner_variables w) x (suc p3) p2 (suc p1)
      ++ (third_code b w third p2 ++ Jump p0 ∷ [])))))
  for_same first c third x v u w p0 p1 p2 p3 p same body =
      both _ _ _ _ (first_same (inner_variables v) first p)
      (rest _ _ _ (both _ _ _ _
      (or_same u (pos 1) c (suc p0) ∙ ap (λ (y : Variables). or_code b y (pos 1) c (suc p0)) same)
      (heads _ _ _ _
      (ap (λ (r : ℕ). Branch r (suc p3))
      (or_reg_same u c p1 ∙ ap (λ (y : Variables). or_reg b y c p1) same))
      (both _ _ _ _
      (body u ∙ ap (λ (y : Variables). stmt_code b (inner_variables y) x (suc p3) p2 (suc p1)) same)
      (both _ _ _ _
      (third_same u third p2 ∙ ap (λ (y : Variables). third_code b y third p2) same) refl)))))

  mutual
    stmt_same : (v : Variables) (x : StmtTree) (out again p : ℕ)
        → stmt_code a v x out again p ≡ stmt_code b v x out again p
    stmt_same v stmt.Empty out again p = refl
    stmt_same v (stmt.Declares d) out again p = initial_same v d.initial p
    stmt_same v (stmt.Simple x) out again p = simple_same v x p
    stmt_same v (stmt.Block all) out again p = all_same (inner_variables v) all out again p
    stmt_same v (stmt.If c x) out again p =
        let p1 : ℕ = exp_end c p in
        both _ _ _ _ (exp_same v c p)
        (heads _ _ _ _ (ap (λ (r : ℕ). Branch r (stmt_end x (suc p1))) (reg_same v c p1))
        (stmt_same (inner_variables v) x out again (suc p1)))
    stmt_same v (stmt.IfElse c x y) out again p =
        let p1 : ℕ = exp_end c p in
        let p2 : ℕ = stmt_end x (suc p1) in
        both _ _ _ _ (exp_same v c p)
        (heads _ _ _ _ (ap (λ (r : ℕ). Branch r (suc p2)) (reg_same v c p1))
        (both _ _ _ _ (stmt_same (inner_variables v) x out again (suc p1))
        (rest _ _ _ (stmt_same (inner_variables v) y out again (suc p2)))))
    stmt_same v (stmt.While place c x) out again p =
        let p1 : ℕ = exp_end c (suc p) in
        let p2 : ℕ = stmt_end x (suc p1) in
        rest _ _ _ (both _ _ _ _ (exp_same v c (suc p))
        (heads _ _ _ _ (ap (λ (r : ℕ). Branch r (suc p2)) (reg_same v c p1))
        (both _ _ _ _ (stmt_same (inner_variables v) x (suc p2) p (suc p1)) refl)))
    stmt_same v (stmt.Do place x c) out again p =
        let p1 : ℕ = stmt_end x p in
        let p2 : ℕ = exp_end c (suc p1) in
        both _ _ _ _ (stmt_same (inner_variables v) x (suc (suc p2)) p1 p)
        (rest _ _ _ (both _ _ _ _ (exp_same v c (suc p1))
        (heads _ _ _ _ (ap (λ (r : ℕ). Branch r (suc (suc p2))) (reg_same v c p2)) refl)))
    stmt_same v (stmt.For place first c third x) out again p =
        let p0 : ℕ = first_end first p in
        let p1 : ℕ = or_end c (suc p0) in
        let p2 : ℕ = stmt_end x (suc p1) in
        let p3 : ℕ = third_end third p2 in
        for_same first c third x v (variables_after_first a first p (inner_variables v))
        (variables_after_first b first p (inner_variables v)) p0 p1 p2 p3 p
        (after_first_same first p (inner_variables v))
        (λ (y : Variables). stmt_same (inner_variables y) x (suc p3) p2 (suc p1))
    stmt_same v stmt.Break out again p = refl
    stmt_same v stmt.Continue out again p = refl
    stmt_same v (stmt.Return place o) out again p =
        both _ _ _ _ (or_same v (pos 0) o p)
        (ends _ _ (ap (λ (r : ℕ). Return r) (or_reg_same v o (or_end o p))))

    all_same : (v : Variables) (xs : Statements) (out again p : ℕ)
        → statements_code a v xs out again p ≡ statements_code b v xs out again p
    all_same v stmt.Nothing out again p = refl
    all_same v (stmt.Then x xs) out again p =
        both _ _ _ _ (stmt_same v x out again p)
        (all_same (variables_after a x p v) xs out again (stmt_end x p)
        ∙ ap (λ (y : Variables). statements_code b y xs out again (stmt_end x p))
        (after_same x p v))

  copies_same : (body : Statements) (n : ℕ) (xs : List ParameterTree) (p : ℕ)
      → parameters_code a body n xs p ≡ parameters_code b body n xs p
  copies_same body n [] p = refl
  copies_same body n (x ∷ xs) p =
      by_test (is_assigned x.name.text body) (copies_same body (suc n) xs (suc p))
      (copies_same body (suc n) xs p)
    where
      by_test : (is : Bool) {c c' d d' : Code} → c ≡ c' → d ≡ d'
          → (if is then Copy (node (suc p)) n ∷ c else d)
          ≡ (if is then Copy (node (suc p)) n ∷ c' else d')
      by_test true e f = rest _ _ _ e
      by_test false e f = f

  given_same : (body : Statements) (n : ℕ) (xs : List ParameterTree) (p : ℕ) (v : Variables)
      → variables_after_parameters a body n xs p v ≡ variables_after_parameters b body n xs p v
  given_same body n [] p v = refl
  given_same body n (x ∷ xs) p v =
      by_test (is_assigned x.name.text body)
      (given_same body (suc n) xs (suc p)
      (variable_declared x.name.text (declared_type t x.ty) (node (suc p)) v))
      (given_same body (suc n) xs p
      (variable_declared x.name.text (declared_type t x.ty) n v))
    where
      by_test : (is : Bool) {u u' w w' : Variables} → u ≡ u' → w ≡ w'
          → (if is then u else w) ≡ (if is then u' else w')
      by_test true e f = e
      by_test false e f = f

  function_same : (f : FunctionTree) → function_code a f ≡ function_code b f
  function_same f =
      let p : ℕ = parameters_end f.body f.parameters 0 in
      let q : ℕ = statements_end f.body p in
      both _ _ _ _ (copies_same f.body 0 f.parameters 0)
      (both _ _ _ _ (all_same (variables_after_parameters a f.body 0 f.parameters 0 no_variables)
      f.body q q p
      ∙ ap (λ (y : Variables). statements_code b y f.body q q p)
      (given_same f.body 0 f.parameters 0 no_variables)) refl)

-- the code of functions by these tables
abbrev lowered_by : Tables → Program → Ir
lowered_by t tree = record {
  functions = map (lowered_function t tree) t.functions;
  shapes = shapes_in t;
}

module _ (t : Tables) (one two : Program)
    (lines : (place : ℕ) → source_line one place ≡ source_line two place) where
  each_same : (f : FunctionTree) → lowered_function t one f ≡ lowered_function t two f
  each_same f =
      let n : ℕ = length f.parameters in
      ap (λ (code : Code). record {
        name = f.name.text;
        parameters = n;
        registers = n + length code;
        tx = f.tx;
        code = code;
      }) (function_same t one two (λ (q : ℕ). n + q) lines f)

  functions_same : (fs : List FunctionTree)
      → map (lowered_function t one) fs ≡ map (lowered_function t two) fs
  functions_same [] = refl
  functions_same (f ∷ fs) =
      ap (λ (x : IrFunction). x ∷ map (lowered_function t one) fs) (each_same f)
      ∙ ap (λ (xs : List IrFunction). lowered_function t two f ∷ xs) (functions_same fs)

pub lowered_same : (one two : Program) → tree_of one ≡ tree_of two
    → ((place : ℕ) → source_line one place ≡ source_line two place)
    → lowered one ≡ lowered two
lowered_same one two items lines =
    let t : Tables = tables_of (tree_of one) in
    ap (λ (fs : List IrFunction). record { functions = fs; shapes = shapes_in t })
    (functions_same t one two lines t.functions)
    ∙ ap (λ (xs : List ItemTree). lowered_by (tables_of xs) two) items
