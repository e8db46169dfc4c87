-- The length of the code of statements and of functions: it goes from its beginning to its end.
use Rattle.std.proofs.Common.{◌≡◌, ℕ, suc, ◌+◌, ℤ, pos, List, [], ◌∷◌, length, Bool, true, false}
use Rattle.std.proofs.Common.{arith}
use Rattle.std.specs.Prelude.{Option, None, Some, if◌then◌else◌}
use Rattle.nvm_base.specs.declared.op.BinOp.{BinOp}
use Rattle.c_tree.specs.declared.stmt.AssignOp.TheVariants as assign
use Rattle.c_tree.specs.Operators.{update_binary}
use Rattle.c_tree.specs.ExprTree as expr
use Rattle.c_tree.specs.ExprTree.{ExprTree, Ident}
use Rattle.c_tree.specs.StmtTree as stmt
use Rattle.c_tree.specs.StmtTree.{StmtTree, Statements, SimpleTree, FirstTree, InitialTree}
use Rattle.c_tree.specs.ItemTree.{FunctionTree, ParameterTree}
use Rattle.c_tree.specs.Program.{Program}
use Rattle.c_types.specs.Expressions.{sides_type}
use Rattle.c_types.specs.Tables.{Tables}
use Rattle.ir.specs.declared.instruction.Instruction.{Instruction}
use Rattle.ir.specs.declared.instruction.Instruction.TheVariants.{Copy}
use Rattle.lower.specs.Names.{Variables, inner_variables, variable_of}
use Rattle.lower.specs.Assigned.{is_assigned}
use Rattle.lower.specs.Forms.{operation_of}
use Rattle.lower.specs.Lowers.{Context, exp_end, target_end, or_end, or_code, set_end, set_code}
use Rattle.lower.specs.Lowers.{update_end, update_code, update_operation, step_operation}
use Rattle.lower.specs.Lowers.{simple_end, simple_code}
use Rattle.lower.specs.Lowers.{initial_end, initial_code, first_end, first_code}
use Rattle.lower.specs.Lowers.{variables_after_first, third_end, third_code, variables_after}
use Rattle.lower.specs.Lowers.{stmt_end, stmt_code, statements_end, statements_code}
use Rattle.lower.specs.Program.{parameters_end, parameters_code, variables_after_parameters}
use Rattle.lower.specs.Program.{no_variables, function_code, context_at, lowered_function}
use Rattle.lower.specs.inside.Program.{function_end}
use Rattle.tree_law.proofs.sizes.Lengths.{Leads, none, first, joined, one, two, exp_leads}
use Rattle.tree_law.proofs.sizes.Lengths.{target_leads}

or_leads : (k : Context) (v : Variables) (n : ℤ) (e : Option ExprTree) (p : ℕ)
    → Leads p (or_code k v n e p) (or_end e p)
or_leads k v n None p = one
or_leads k v n (Some e) p = exp_leads k v e p

set_leads : (k : Context) (v : Variables) (name : Option Ident) (target : ExprTree) (place : ℕ)
    (value : ExprTree) (p : ℕ) → Leads p (set_code k v name target place value p)
    (set_end name target value p)
set_leads k v (Some name) target place value p = joined (exp_leads k v value p) one
set_leads k v None target place value p =
    joined (target_leads k v target p) (joined (exp_leads k v value (target_end target p)) one)

update_leads : (k : Context) (v : Variables) (name : Option Ident) (target : ExprTree) (place : ℕ)
    (o : BinOp) (value : Option ExprTree) (p : ℕ)
    → Leads p (update_code k v name target place o value p) (update_end name target value p)
update_leads k v (Some name) target place o value p = joined (or_leads k v (pos 1) value p) two
update_leads k v None target place o value p =
    joined (target_leads k v target p)
    (first (joined (or_leads k v (pos 1) value (suc (target_end target p))) two))

simple_leads : (k : Context) (v : Variables) (x : SimpleTree) (p : ℕ)
    → Leads p (simple_code k v x p) (simple_end x p)
simple_leads k v (stmt.Assign target assign.Set place value) p =
    set_leads k v (variable_of target) target place value p
simple_leads k v (stmt.Assign target (assign.Update o) place value) p =
    update_leads k v (variable_of target) target place
    (operation_of (sides_type k.tables v.scopes (update_binary o) target value)
    (update_operation o)) (Some value) p
simple_leads k v (stmt.Step target o place) p =
    update_leads k v (variable_of target) target place (step_operation o) None p
simple_leads k v (stmt.Call name all) p = exp_leads k v (expr.Call name all) p
simple_leads k v (stmt.Free place pointer) p = joined (exp_leads k v pointer p) one
simple_leads k v (stmt.Abort place) p = one

initial_leads : (k : Context) (v : Variables) (i : Option InitialTree) (p : ℕ)
    → Leads p (initial_code k v i p) (initial_end i p)
initial_leads k v None p = one
initial_leads k v (Some i) p = joined (exp_leads k v i.value p) one

first_leads : (k : Context) (v : Variables) (x : Option FirstTree) (p : ℕ)
    → Leads p (first_code k v x p) (first_end x p)
first_leads k v None p = none
first_leads k v (Some (stmt.Declare d)) p = initial_leads k v d.initial p
first_leads k v (Some (stmt.Simply x)) p = simple_leads k v x p

third_leads : (k : Context) (v : Variables) (x : Option SimpleTree) (p : ℕ)
    → Leads p (third_code k v x p) (third_end x p)
third_leads k v None p = none
third_leads k v (Some x) p = simple_leads k v x p

mutual
  stmt_leads : (k : Context) (v : Variables) (x : StmtTree) (out again p : ℕ)
      → Leads p (stmt_code k v x out again p) (stmt_end x p)
  stmt_leads k v stmt.Empty out again p = none
  stmt_leads k v (stmt.Declares d) out again p = initial_leads k v d.initial p
  stmt_leads k v (stmt.Simple x) out again p = simple_leads k v x p
  stmt_leads k v (stmt.Block all) out again p =
      statements_lead k (inner_variables v) all out again p
  stmt_leads k v (stmt.If c a) out again p =
      joined (exp_leads k v c p) (first
      (stmt_leads k (inner_variables v) a out again (suc (exp_end c p))))
  stmt_leads k v (stmt.IfElse c a b) out again p =
      let p1 : ℕ = exp_end c p in
      let p2 : ℕ = stmt_end a (suc p1) in
      joined (exp_leads k v c p) (first
      (joined (stmt_leads k (inner_variables v) a out again (suc p1))
      (first (stmt_leads k (inner_variables v) b out again (suc p2)))))
  stmt_leads k v (stmt.While place c a) out again p =
      let p1 : ℕ = exp_end c (suc p) in
      let p2 : ℕ = stmt_end a (suc p1) in
      first (joined (exp_leads k v c (suc p))
      (first (joined (stmt_leads k (inner_variables v) a (suc p2) p (suc p1)) one)))
  stmt_leads k v (stmt.Do place a c) out again p =
      let p1 : ℕ = stmt_end a p in
      let p2 : ℕ = exp_end c (suc p1) in
      joined (stmt_leads k (inner_variables v) a (suc (suc p2)) p1 p)
      (first (joined (exp_leads k v c (suc p1)) two))
  stmt_leads k v (stmt.For place x c third a) out again p =
      let u : Variables = variables_after_first k x p (inner_variables v) in
      let p0 : ℕ = first_end x p in
      let p1 : ℕ = or_end c (suc p0) in
      let p2 : ℕ = stmt_end a (suc p1) in
      let p3 : ℕ = third_end third p2 in
      joined (first_leads k (inner_variables v) x p)
      (first (joined (or_leads k u (pos 1) c (suc p0))
      (first (joined (stmt_leads k (inner_variables u) a (suc p3) p2 (suc p1))
      (joined (third_leads k u third p2) one)))))
  stmt_leads k v stmt.Break out again p = one
  stmt_leads k v stmt.Continue out again p = one
  stmt_leads k v (stmt.Return place value) out again p = joined (or_leads k v (pos 0) value p) one

  statements_lead : (k : Context) (v : Variables) (xs : Statements) (out again p : ℕ)
      → Leads p (statements_code k v xs out again p) (statements_end xs p)
  statements_lead k v stmt.Nothing out again p = none
  statements_lead k v (stmt.Then x xs) out again p =
      joined (stmt_leads k v x out again p)
      (statements_lead k (variables_after k x p v) xs out again
      (stmt_end x p))

parameter_leads : (x : Instruction) (p : ℕ) (xs ys : List Instruction) (b : Bool) (end : ℕ → ℕ)
    → Leads (suc p) xs (end (suc p)) → Leads p ys (end p)
    → Leads p (if b then x ∷ xs else ys) (end (if b then suc p else p))
parameter_leads x p xs ys true end h g = first h
parameter_leads x p xs ys false end h g = g

parameters_lead : (k : Context) (body : Statements) (n : ℕ) (xs : List ParameterTree) (p : ℕ)
    → Leads p (parameters_code k body n xs p) (parameters_end body xs p)
parameters_lead k body n [] p = none
parameters_lead k body n (x ∷ xs) p =
    parameter_leads (Copy (k.node (suc p)) n) p (parameters_code k body (suc n) xs (suc p))
    (parameters_code k body (suc n) xs p) (is_assigned x.name.text body) (parameters_end body xs)
    (parameters_lead k body (suc n) xs (suc p)) (parameters_lead k body (suc n) xs p)

function_leads : (k : Context) (f : FunctionTree) → Leads 0 (function_code k f) (function_end f)
function_leads k f =
    let p : ℕ = parameters_end f.body f.parameters 0 in
    let q : ℕ = statements_end f.body p in
    joined (parameters_lead k f.body 0 f.parameters 0)
    (joined (statements_lead k (variables_after_parameters k f.body 0 f.parameters 0 no_variables)
    f.body q q p) two)

-- the length of a function's code
pub function_long : (t : Tables) (tree : Program) (f : FunctionTree)
    → length (lowered_function t tree f).code ≡ function_end f
function_long t tree f =
    let h : 0 + length (lowered_function t tree f).code ≡ function_end f =
    (function_leads (context_at t tree (length f.parameters)) f).long in
    omega (arith, h)
