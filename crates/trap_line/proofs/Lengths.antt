-- A function has the tokens of one instruction for each instruction of its code.
use Rattle.std.proofs.Common.{◌≡◌, ℕ, suc, List, [], ◌∷◌, ◌++◌, length, refl, ap, arith}
use Rattle.std.proofs.Common.{length-append, Bool, true, false}
use Rattle.std.specs.Prelude.{Option, None, Some, if◌then◌else◌, pos}
use Rattle.nvm_base.specs.declared.op.BinOp.{BinOp}
use Rattle.c_tree.specs.declared.expr.IntType.{IntType}
use Rattle.c_tree.specs.declared.expr.UnaryOp.TheVariants as unary
use Rattle.c_tree.specs.declared.stmt.AssignOp.TheVariants as assign
use Rattle.c_tree.specs.Operators.{update_binary}
use Rattle.c_tree.specs.ExprTree as expr
use Rattle.c_tree.specs.ExprTree.{ExprTree, Arguments, Ident}
use Rattle.c_tree.specs.StmtTree as stmt
use Rattle.c_tree.specs.StmtTree.{StmtTree, Statements, SimpleTree, FirstTree, InitialTree}
use Rattle.c_tree.specs.ItemTree.{FunctionTree, ParameterTree}
use Rattle.c_types.specs.Expressions.{sides_type}
use Rattle.ir.specs.declared.instruction.Instruction.{Instruction}
use Rattle.ir.specs.declared.instruction.Instruction.TheVariants.{Copy}
use Rattle.lower.specs.declared.form.Form.{Form}
use Rattle.lower.specs.declared.form.Form.TheVariants.{Both, Either, Direct, Exchanged}
use Rattle.lower.specs.Forms.{form_of, typed_form, operation_of}
use Rattle.lower.specs.Names.{Variables, inner_variables, variable_of}
use Rattle.lower.specs.Assigned.{is_assigned}
use Rattle.lower.specs.Lowers.{Context, exp_code, exp_end, target_code, target_end, arguments_code}
use Rattle.lower.specs.Lowers.{form_code, reg_of, or_code, or_end, set_code, update_code}
use Rattle.lower.specs.Lowers.{update_operation, step_operation, simple_code, initial_code}
use Rattle.lower.specs.Lowers.{first_code, first_end, variables_after_first, third_code, third_end}
use Rattle.lower.specs.Lowers.{stmt_code, stmt_end, statements_code, statements_end}
use Rattle.lower.specs.Lowers.{variables_after}
use Rattle.lower.specs.Program.{parameters_code, parameters_end, variables_after_parameters}
use Rattle.lower.specs.Program.{no_variables, function_code}
use Rattle.trap_line.specs.declared.spot.Spot.{Spot}
use Rattle.trap_line.specs.Spots.{never, form_spots, exp_spots, target_spots, arguments_spots}
use Rattle.trap_line.specs.Spots.{or_spots, set_spots, update_spots, simple_spots, initial_spots}
use Rattle.trap_line.specs.Spots.{first_spots, third_spots, stmt_spots, statements_spots}
use Rattle.trap_line.specs.Spots.{parameters_spots, function_spots}

-- parts of equal length, put together
both_long : {A B : Type 0} (a b : List A) (c d : List B) → length a ≡ length c
    → length b ≡ length d → length (a ++ b) ≡ length (c ++ d)
both_long a b c d x y = omega (arith, length-append a b, length-append c d, x, y)

form_long : (n : IntType) (f : Form) (place : ℕ) (right : List Spot) (node : ℕ → ℕ)
    (code : ℕ → List Instruction) (end reg : ℕ → ℕ) (on p : ℕ)
    → ((x : ℕ) → length right ≡ length (code x))
    → length (form_spots f place right)
    ≡ length (form_code (typed_form n f) node code end reg on p)
form_long n Both place right node code end reg on p long =
    ap suc (both_long right _ (code (suc p)) _ (long (suc p)) refl)
form_long n Either place right node code end reg on p long =
    ap (λ (x : ℕ). suc (suc x))
    (both_long right _ (code (suc (suc p))) _ (long (suc (suc p))) refl)
form_long n (Direct o) place right node code end reg on p long =
    both_long right _ (code p) _ (long p) refl
form_long n (Exchanged o) place right node code end reg on p long =
    both_long right _ (code p) _ (long p) refl

mutual
  exp_long : (s : Context) (v : Variables) (e : ExprTree) (p : ℕ)
      → length (exp_spots e) ≡ length (exp_code s v e p)
  exp_long s v (expr.Number n) p = refl
  exp_long s v expr.Null p = refl
  exp_long s v (expr.Variable name) p = refl
  exp_long s v (expr.Call name all) p =
      both_long (arguments_spots all) _ (arguments_code s v all p) _ (arguments_long s v all p) refl
  exp_long s v (expr.Root name) p = refl
  exp_long s v (expr.New place name) p = refl
  exp_long s v (expr.Arrow base place name) p =
      both_long (exp_spots base) _ (exp_code s v base p) _ (exp_long s v base p) refl
  exp_long s v (expr.Index base place index) p =
      both_long (target_spots base ++ exp_spots index) _
      (target_code s v base p ++ exp_code s v index (target_end base p)) _
      (both_long (target_spots base) (exp_spots index) (target_code s v base p)
      (exp_code s v index (target_end base p)) (target_long s v base p)
      (exp_long s v index (target_end base p))) refl
  exp_long s v (expr.Unary unary.Negate place a) p =
      ap suc (both_long (exp_spots a) _ (exp_code s v a (suc p)) _ (exp_long s v a (suc p)) refl)
  exp_long s v (expr.Unary unary.Complement place a) p =
      ap suc (both_long (exp_spots a) _ (exp_code s v a (suc p)) _ (exp_long s v a (suc p)) refl)
  exp_long s v (expr.Unary unary.Not place a) p =
      both_long (exp_spots a) _ (exp_code s v a p) _ (exp_long s v a p) refl
  exp_long s v (expr.Unary (unary.Cast n) place a) p = exp_long s v a p
  exp_long s v (expr.Binary o place a b) p =
      both_long (exp_spots a) _ (exp_code s v a p) _ (exp_long s v a p)
      (form_long (sides_type s.tables v.scopes o a b) (form_of o) place (exp_spots b) s.node
      (exp_code s v b) (exp_end b) (reg_of s v b) (reg_of s v a (exp_end a p)) (exp_end a p)
      (λ x. exp_long s v b x))
  exp_long s v (expr.Conditional c place a b) p =
      let p1 : ℕ = exp_end c p in
      let p2 : ℕ = exp_end a (suc p1) in
      both_long (exp_spots c) _ (exp_code s v c p) _ (exp_long s v c p)
      (ap suc (both_long (exp_spots a) _ (exp_code s v a (suc p1)) _ (exp_long s v a (suc p1))
      (ap (λ (x : ℕ). suc (suc x)) (both_long (exp_spots b) _ (exp_code s v b (suc (suc p2))) _
      (exp_long s v b (suc (suc p2))) refl))))

  target_long : (s : Context) (v : Variables) (e : ExprTree) (p : ℕ)
      → length (target_spots e) ≡ length (target_code s v e p)
  target_long s v (expr.Arrow base place name) p = exp_long s v base p
  target_long s v (expr.Index base place index) p =
      both_long (target_spots base) (exp_spots index) (target_code s v base p)
      (exp_code s v index (target_end base p)) (target_long s v base p)
      (exp_long s v index (target_end base p))
  target_long s v (expr.Root name) p = refl
  target_long s v (expr.Number n) p = refl
  target_long s v expr.Null p = refl
  target_long s v (expr.Variable name) p = refl
  target_long s v (expr.Call name all) p = refl
  target_long s v (expr.New place name) p = refl
  target_long s v (expr.Unary o place a) p = refl
  target_long s v (expr.Binary o place a b) p = refl
  target_long s v (expr.Conditional c place a b) p = refl

  arguments_long : (s : Context) (v : Variables) (all : Arguments) (p : ℕ)
      → length (arguments_spots all) ≡ length (arguments_code s v all p)
  arguments_long s v expr.None p = refl
  arguments_long s v (expr.More first value rest) p =
      both_long (exp_spots value) (arguments_spots rest) (exp_code s v value p)
      (arguments_code s v rest (exp_end value p)) (exp_long s v value p)
      (arguments_long s v rest (exp_end value p))

or_long : (s : Context) (v : Variables) (n : _) (e : Option ExprTree) (p : ℕ)
    → length (or_spots e) ≡ length (or_code s v n e p)
or_long s v n None p = refl
or_long s v n (Some e) p = exp_long s v e p

set_long : (s : Context) (v : Variables) (name : Option Ident) (target : ExprTree) (place : ℕ)
    (value : ExprTree) (p : ℕ)
    → length (set_spots name target place value) ≡ length (set_code s v name target place value p)
set_long s v (Some name) target place value p =
    both_long (exp_spots value) _ (exp_code s v value p) _ (exp_long s v value p) refl
set_long s v None target place value p =
    both_long (target_spots target) _ (target_code s v target p) _ (target_long s v target p)
    (both_long (exp_spots value) _ (exp_code s v value (target_end target p)) _
    (exp_long s v value (target_end target p)) refl)

update_long : (s : Context) (v : Variables) (name : Option Ident) (target : ExprTree) (place : ℕ)
    (o : BinOp) (value : Option ExprTree) (p : ℕ)
    → length (update_spots name target place value)
    ≡ length (update_code s v name target place o value p)
update_long s v (Some name) target place o value p =
    both_long (or_spots value) _ (or_code s v (pos 1) value p) _ (or_long s v (pos 1) value p) refl
update_long s v None target place o value p =
    both_long (target_spots target) _ (target_code s v target p) _ (target_long s v target p)
    (ap suc (both_long (or_spots value) _ (or_code s v (pos 1) value (suc (target_end target p))) _
    (or_long s v (pos 1) value (suc (target_end target p))) refl))

simple_long : (s : Context) (v : Variables) (x : SimpleTree) (p : ℕ)
    → length (simple_spots x) ≡ length (simple_code s v x p)
simple_long s v (stmt.Assign target assign.Set place value) p =
    set_long s v (variable_of target) target place value p
simple_long s v (stmt.Assign target (assign.Update o) place value) p =
    update_long s v (variable_of target) target place
    (operation_of (sides_type s.tables v.scopes (update_binary o) target value)
    (update_operation o)) (Some value) p
simple_long s v (stmt.Step target o place) p =
    update_long s v (variable_of target) target place (step_operation o) None p
simple_long s v (stmt.Call name all) p = exp_long s v (expr.Call name all) p
simple_long s v (stmt.Free place pointer) p =
    both_long (exp_spots pointer) _ (exp_code s v pointer p) _ (exp_long s v pointer p) refl
simple_long s v (stmt.Abort place) p = refl

initial_long : (s : Context) (v : Variables) (i : Option InitialTree) (p : ℕ)
    → length (initial_spots i) ≡ length (initial_code s v i p)
initial_long s v None p = refl
initial_long s v (Some i) p =
    both_long (exp_spots i.value) _ (exp_code s v i.value p) _ (exp_long s v i.value p) refl

first_long : (s : Context) (v : Variables) (x : Option FirstTree) (p : ℕ)
    → length (first_spots x) ≡ length (first_code s v x p)
first_long s v None p = refl
first_long s v (Some (stmt.Declare d)) p = initial_long s v d.initial p
first_long s v (Some (stmt.Simply x)) p = simple_long s v x p

third_long : (s : Context) (v : Variables) (x : Option SimpleTree) (p : ℕ)
    → length (third_spots x) ≡ length (third_code s v x p)
third_long s v None p = refl
third_long s v (Some x) p = simple_long s v x p

mutual
  stmt_long : (s : Context) (v : Variables) (x : StmtTree) (out again p : ℕ)
      → length (stmt_spots x) ≡ length (stmt_code s v x out again p)
  stmt_long s v stmt.Empty out again p = refl
  stmt_long s v (stmt.Declares d) out again p = initial_long s v d.initial p
  stmt_long s v (stmt.Simple x) out again p = simple_long s v x p
  stmt_long s v (stmt.Block all) out again p =
      statements_long s (inner_variables v) all out again p
  stmt_long s v (stmt.If c a) out again p =
      both_long (exp_spots c) _ (exp_code s v c p) _ (exp_long s v c p)
      (ap suc (stmt_long s (inner_variables v) a out again (suc (exp_end c p))))
  stmt_long s v (stmt.IfElse c a b) out again p =
      let p1 : ℕ = exp_end c p in
      let p2 : ℕ = stmt_end a (suc p1) in
      both_long (exp_spots c) _ (exp_code s v c p) _ (exp_long s v c p)
      (ap suc (both_long (stmt_spots a) _ (stmt_code s (inner_variables v) a out again (suc p1)) _
      (stmt_long s (inner_variables v) a out again (suc p1))
      (ap suc (stmt_long s (inner_variables v) b out again (suc p2)))))
  stmt_long s v (stmt.While place c a) out again p =
      let p1 : ℕ = exp_end c (suc p) in
      let p2 : ℕ = stmt_end a (suc p1) in
      ap suc (both_long (exp_spots c) _ (exp_code s v c (suc p)) _ (exp_long s v c (suc p))
      (ap suc (both_long (stmt_spots a) _ (stmt_code s (inner_variables v) a (suc p2) p (suc p1)) _
      (stmt_long s (inner_variables v) a (suc p2) p (suc p1)) refl)))
  stmt_long s v (stmt.Do place a c) out again p =
      let p1 : ℕ = stmt_end a p in
      let q : ℕ = suc (suc (exp_end c (suc p1))) in
      both_long (stmt_spots a) _ (stmt_code s (inner_variables v) a q p1 p) _
      (stmt_long s (inner_variables v) a q p1 p)
      (ap suc (both_long (exp_spots c) _ (exp_code s v c (suc p1)) _ (exp_long s v c (suc p1))
      refl))
  stmt_long s v (stmt.For place first c third a) out again p =
      let u : Variables = variables_after_first s first p (inner_variables v) in
      let p0 : ℕ = first_end first p in
      let p1 : ℕ = or_end c (suc p0) in
      let p2 : ℕ = stmt_end a (suc p1) in
      let p3 : ℕ = third_end third p2 in
      both_long (first_spots first) _ (first_code s (inner_variables v) first p) _
      (first_long s (inner_variables v) first p)
      (ap suc (both_long (or_spots c) _ (or_code s u (pos 1) c (suc p0)) _
      (or_long s u (pos 1) c (suc p0))
      (ap suc (both_long (stmt_spots a) _
      (stmt_code s (inner_variables u) a (suc p3) p2 (suc p1)) _
      (stmt_long s (inner_variables u) a (suc p3) p2 (suc p1))
      (both_long (third_spots third) _ (third_code s u third p2) _ (third_long s u third p2)
      refl)))))
  stmt_long s v stmt.Break out again p = refl
  stmt_long s v stmt.Continue out again p = refl
  stmt_long s v (stmt.Return place value) out again p =
      both_long (or_spots value) _ (or_code s v (pos 0) value p) _ (or_long s v (pos 0) value p)
      refl

  statements_long : (s : Context) (v : Variables) (xs : Statements) (out again p : ℕ)
      → length (statements_spots xs) ≡ length (statements_code s v xs out again p)
  statements_long s v stmt.Nothing out again p = refl
  statements_long s v (stmt.Then x xs) out again p =
      both_long (stmt_spots x) (statements_spots xs) (stmt_code s v x out again p)
      (statements_code s (variables_after s x p v) xs out again (stmt_end x p))
      (stmt_long s v x out again p)
      (statements_long s (variables_after s x p v) xs out again (stmt_end x p))

parameters_long : (k : Context) (body : Statements) (n : ℕ) (xs : List ParameterTree) (p : ℕ)
    → length (parameters_spots body xs) ≡ length (parameters_code k body n xs p)
parameters_long k body n [] p = refl
parameters_long k body n (x ∷ xs) p =
    by (is_assigned x.name.text body) (parameters_long k body (suc n) xs (suc p))
    (parameters_long k body (suc n) xs p)
  where
    by : (b : Bool)
        → length (parameters_spots body xs) ≡ length (parameters_code k body (suc n) xs (suc p))
        → length (parameters_spots body xs) ≡ length (parameters_code k body (suc n) xs p)
        → length (if b then never ∷ parameters_spots body xs else parameters_spots body xs)
        ≡ length (if b then Copy (k.node (suc p)) n ∷ parameters_code k body (suc n) xs (suc p)
        else parameters_code k body (suc n) xs p)
    by true copied own = ap suc copied
    by false copied own = own

code_long : (k : Context) (f : FunctionTree)
    → length (function_spots f) ≡ length (function_code k f)
code_long k f =
    let p : ℕ = parameters_end f.body f.parameters 0 in
    let q : ℕ = statements_end f.body p in
    let v : Variables = variables_after_parameters k f.body 0 f.parameters 0 no_variables in
    both_long (parameters_spots f.body f.parameters) _ (parameters_code k f.body 0 f.parameters 0) _
    (parameters_long k f.body 0 f.parameters 0)
    (both_long (statements_spots f.body) _ (statements_code k v f.body q q p) _
    (statements_long k v f.body q q p) refl)
