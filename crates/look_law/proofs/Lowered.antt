-- The code of statements and functions that don't store only looks.
use Rattle.std.proofs.Common.{◌≡◌, ℕ, ℤ, pos, suc, ◌≤◌, ◌<◌, ◌^◌, Bool, true, false}
use Rattle.std.proofs.Common.{List, [], ◌∷◌, length, refl, sym, ap, ◌∙◌, subst, arith}
use Rattle.std.specs.Prelude.{◌||◌, not, slice_get, unwrap_or, option_map, Option, None, Some}
use Rattle.std.specs.Prelude.{if◌then◌else◌}
use Rattle.std.specs.Option.{option_map_or}
use Rattle.std.proofs.lemmas.Bool.{or_parts, not-true}
use Rattle.std.proofs.lemmas.List.{length-map}
use Rattle.std.proofs.lemmas.Option.{none-some, same_Some, slice_get-map}
use Rattle.nvm_base.specs.declared.op.BinOp.{BinOp}
use Rattle.c_tree.specs.declared.stmt.AssignOp.TheVariants as assign
use Rattle.c_tree.specs.Operators.{update_binary}
use Rattle.c_tree.specs.ExprTree as expr
use Rattle.c_tree.specs.ExprTree.{ExprTree, Ident}
use Rattle.c_tree.specs.StmtTree as stmt
use Rattle.c_tree.specs.StmtTree.{StmtTree, Statements, SimpleTree, FirstTree, InitialTree}
use Rattle.c_tree.specs.ItemTree.{FunctionTree, ParameterTree}
use Rattle.c_tree.specs.Program.{Program, tree_of}
use Rattle.c_types.specs.Expressions.{sides_type}
use Rattle.c_types.specs.Tables.{Tables, tables_of}
use Rattle.c_types.specs.Looking.{is_variable, exp_stores, value_stores, simple_stores}
use Rattle.c_types.specs.Looking.{first_stores, head_stores, statement_stores}
use Rattle.c_types.specs.Looking.{statements_store, next_known}
use Rattle.ir.specs.declared.instruction.Instruction.TheVariants.{Copy}
use Rattle.ir.specs.declared.function.IrFunction.{IrFunction}
use Rattle.lower.specs.Assigned.{is_assigned}
use Rattle.lower.specs.Forms.{operation_of}
use Rattle.lower.specs.Names.{Variables, nowhere, inner_variables, variable_of}
use Rattle.lower.specs.Lowers.{Context, exp_end, exp_code, or_end, or_code, set_code, update_code}
use Rattle.lower.specs.Lowers.{update_operation, step_operation, simple_code, initial_code}
use Rattle.lower.specs.Lowers.{first_end, first_code, variables_after_first, third_end, third_code}
use Rattle.lower.specs.Lowers.{variables_after, stmt_end, stmt_code, statements_end}
use Rattle.lower.specs.Lowers.{statements_code}
use Rattle.lower.specs.Program.{parameters_end, parameters_code, variables_after_parameters}
use Rattle.lower.specs.Program.{no_variables, function_code, context_at, lowered_function, lowered}
use Rattle.look_law.specs.Code.{CodeLooks, FunctionsLook, looking_by}
use Rattle.look_law.proofs.LoweredValues.{AllLook, both_look, exp_looks}

or_looks : (k : Context) (known : List Bool) (v : Variables) (m : ℤ) (e : Option ExprTree) (p : ℕ)
    → length known ≤ nowhere → value_stores k.tables known e ≡ false
    → AllLook known (or_code k v m e p)
or_looks k known v m None p few h = (refl, tt)
or_looks k known v m (Some e) p few h = exp_looks k known v e p few h

-- a target that isn't stored to is a variable
variable_in : (target : ExprTree) → not (is_variable target) ≡ false
    → (name : Ident) × (variable_of target ≡ Some name)
variable_in (expr.Variable n) h = (n, refl)
variable_in (expr.Number n) h = absurd (cc)
variable_in expr.Null h = absurd (cc)
variable_in (expr.Call n all) h = absurd (cc)
variable_in (expr.Root n) h = absurd (cc)
variable_in (expr.New place n) h = absurd (cc)
variable_in (expr.Arrow base place n) h = absurd (cc)
variable_in (expr.Index base place index) h = absurd (cc)
variable_in (expr.Unary op place e) h = absurd (cc)
variable_in (expr.Binary op place a b) h = absurd (cc)
variable_in (expr.Conditional c place a b) h = absurd (cc)

set_looks : (k : Context) (known : List Bool) (v : Variables) (target : ExprTree) (place : ℕ)
    (value : ExprTree) (p : ℕ) → length known ≤ nowhere → not (is_variable target) ≡ false
    → exp_stores k.tables known value ≡ false
    → AllLook known (set_code k v (variable_of target) target place value p)
set_looks k known v target place value p few is h =
    let named = variable_in target is in
    subst (λ (o : Option Ident). AllLook known (set_code k v o target place value p)) (sym named.1)
    (both_look known (exp_code k v value p) _ (exp_looks k known v value p few h) (refl, tt))

update_looks : (k : Context) (known : List Bool) (v : Variables) (target : ExprTree) (place : ℕ)
    (o : BinOp) (value : Option ExprTree) (p : ℕ) → length known ≤ nowhere
    → not (is_variable target) ≡ false → value_stores k.tables known value ≡ false
    → AllLook known (update_code k v (variable_of target) target place o value p)
update_looks k known v target place o value p few is h =
    let named = variable_in target is in
    subst (λ (name : Option Ident). AllLook known (update_code k v name target place o value p))
    (sym named.1)
    (both_look known (or_code k v (pos 1) value p) _ (or_looks k known v (pos 1) value p few h)
    (refl, (refl, tt)))

simple_looks : (k : Context) (known : List Bool) (v : Variables) (x : SimpleTree) (p : ℕ)
    → length known ≤ nowhere → simple_stores k.tables known x ≡ false
    → AllLook known (simple_code k v x p)
simple_looks k known v (stmt.Assign target assign.Set place value) p few h =
    let parts = or_parts (not (is_variable target)) (exp_stores k.tables known value) h in
    set_looks k known v target place value p few parts.0 parts.1
simple_looks k known v (stmt.Assign target (assign.Update o) place value) p few h =
    let parts = or_parts (not (is_variable target)) (exp_stores k.tables known value) h in
    update_looks k known v target place
    (operation_of (sides_type k.tables v.scopes (update_binary o) target value)
    (update_operation o)) (Some value) p few parts.0 parts.1
simple_looks k known v (stmt.Step target o place) p few h =
    update_looks k known v target place (step_operation o) None p few h refl
simple_looks k known v (stmt.Call name all) p few h =
    exp_looks k known v (expr.Call name all) p few h
simple_looks k known v (stmt.Free place pointer) p few h = absurd (cc)
simple_looks k known v (stmt.Abort place) p few h = (refl, tt)

initial_looks : (k : Context) (known : List Bool) (v : Variables) (i : Option InitialTree) (p : ℕ)
    → length known ≤ nowhere
    → option_map_or (λ (i : InitialTree). exp_stores k.tables known i.value) i false ≡ false
    → AllLook known (initial_code k v i p)
initial_looks k known v None p few h = (refl, tt)
initial_looks k known v (Some i) p few h =
    both_look known (exp_code k v i.value p) _ (exp_looks k known v i.value p few h) (refl, tt)

first_looks : (k : Context) (known : List Bool) (v : Variables) (f : Option FirstTree) (p : ℕ)
    → length known ≤ nowhere → option_map_or (first_stores k.tables known) f false ≡ false
    → AllLook known (first_code k v f p)
first_looks k known v None p few h = tt
first_looks k known v (Some (stmt.Declare d)) p few h =
    initial_looks k known v d.initial p few h
first_looks k known v (Some (stmt.Simply x)) p few h = simple_looks k known v x p few h

third_looks : (k : Context) (known : List Bool) (v : Variables) (x : Option SimpleTree) (p : ℕ)
    → length known ≤ nowhere → option_map_or (simple_stores k.tables known) x false ≡ false
    → AllLook known (third_code k v x p)
third_looks k known v None p few h = tt
third_looks k known v (Some x) p few h = simple_looks k known v x p few h

mutual
  stmt_looks : (k : Context) (known : List Bool) (v : Variables) (x : StmtTree) (out again p : ℕ)
      → length known ≤ nowhere → statement_stores k.tables known x ≡ false
      → AllLook known (stmt_code k v x out again p)
  stmt_looks k known v stmt.Empty out again p few h = tt
  stmt_looks k known v (stmt.Declares d) out again p few h =
      initial_looks k known v d.initial p few h
  stmt_looks k known v (stmt.Simple x) out again p few h = simple_looks k known v x p few h
  stmt_looks k known v (stmt.Block all) out again p few h =
      statements_look k known (inner_variables v) all out again p few h
  stmt_looks k known v (stmt.If c x) out again p few h =
      let q : ℕ = suc (exp_end c p) in
      let parts = or_parts (exp_stores k.tables known c) (statement_stores k.tables known x) h in
      both_look known (exp_code k v c p) _ (exp_looks k known v c p few parts.0)
      (refl, stmt_looks k known (inner_variables v) x out again q few parts.1)
  stmt_looks k known v (stmt.IfElse c x y) out again p few h =
      let p1 : ℕ = suc (exp_end c p) in
      let p2 : ℕ = suc (stmt_end x p1) in
      let parts = or_parts (exp_stores k.tables known c)
      (statement_stores k.tables known x || statement_stores k.tables known y) h in
      let sides = or_parts (statement_stores k.tables known x) (statement_stores k.tables known y)
      parts.1 in
      both_look known (exp_code k v c p) _ (exp_looks k known v c p few parts.0) (
        refl,
        both_look known (stmt_code k (inner_variables v) x out again p1) _
            (stmt_looks k known (inner_variables v) x out again p1 few sides.0)
            (refl, stmt_looks k known (inner_variables v) y out again p2 few sides.1),
      )
  stmt_looks k known v (stmt.While place c x) out again p few h =
      let p1 : ℕ = suc (exp_end c (suc p)) in
      let p2 : ℕ = suc (stmt_end x p1) in
      let parts = or_parts (exp_stores k.tables known c) (statement_stores k.tables known x) h in (
        refl,
        both_look known (exp_code k v c (suc p)) _ (exp_looks k known v c (suc p) few parts.0) (
          refl,
          both_look known (stmt_code k (inner_variables v) x p2 p p1) _
              (stmt_looks k known (inner_variables v) x p2 p p1 few parts.1) (refl, tt),
        ),
      )
  stmt_looks k known v (stmt.Do place x c) out again p few h =
      let p1 : ℕ = stmt_end x p in
      let q : ℕ = suc (suc (exp_end c (suc p1))) in
      let parts = or_parts (exp_stores k.tables known c) (statement_stores k.tables known x) h in
      both_look known (stmt_code k (inner_variables v) x q p1 p) _
      (stmt_looks k known (inner_variables v) x q p1 p few parts.1) (
        refl,
        both_look known (exp_code k v c (suc p1)) _ (exp_looks k known v c (suc p1) few parts.0)
            (refl, (refl, tt)),
      )
  stmt_looks k known v (stmt.For place first c third x) out again p few h =
      let w : Variables = inner_variables v in
      let u : Variables = variables_after_first k first p w in
      let p0 : ℕ = suc (first_end first p) in
      let p1 : ℕ = suc (or_end c p0) in
      let p2 : ℕ = stmt_end x p1 in
      let p3 : ℕ = suc (third_end third p2) in
      let parts = or_parts (head_stores k.tables known first c third)
      (statement_stores k.tables known x) h in
      let head = or_parts (option_map_or (first_stores k.tables known) first false)
      (value_stores k.tables known c
      || option_map_or (simple_stores k.tables known) third false) parts.0 in
      let rest = or_parts (value_stores k.tables known c)
      (option_map_or (simple_stores k.tables known) third false) head.1 in
      both_look known (first_code k w first p) _ (first_looks k known w first p few head.0) (
        refl,
        both_look known (or_code k u (pos 1) c p0) _
            (or_looks k known u (pos 1) c p0 few rest.0) (
              refl,
              both_look known (stmt_code k (inner_variables u) x p3 p2 p1) _
                  (stmt_looks k known (inner_variables u) x p3 p2 p1 few parts.1)
                  (both_look known (third_code k u third p2) _
                  (third_looks k known u third p2 few rest.1) (refl, tt)),
            ),
      )
  stmt_looks k known v stmt.Break out again p few h = (refl, tt)
  stmt_looks k known v stmt.Continue out again p few h = (refl, tt)
  stmt_looks k known v (stmt.Return place value) out again p few h =
      both_look known (or_code k v (pos 0) value p) _
      (or_looks k known v (pos 0) value p few h) (refl, tt)

  statements_look : (k : Context) (known : List Bool) (v : Variables) (xs : Statements)
      (out again p : ℕ) → length known ≤ nowhere → statements_store k.tables known xs ≡ false
      → AllLook known (statements_code k v xs out again p)
  statements_look k known v stmt.Nothing out again p few h = tt
  statements_look k known v (stmt.Then x xs) out again p few h =
      let parts = or_parts (statement_stores k.tables known x) (statements_store k.tables known xs)
      h in
      both_look known (stmt_code k v x out again p) _
      (stmt_looks k known v x out again p few parts.0)
      (statements_look k known (variables_after k x p v) xs out again (stmt_end x p) few parts.1)

parameters_look : (k : Context) (known : List Bool) (body : Statements) (n : ℕ)
    (xs : List ParameterTree) (p : ℕ) → AllLook known (parameters_code k body n xs p)
parameters_look k known body n [] p = tt
parameters_look k known body n (x ∷ xs) p =
    by_test (is_assigned x.name.text body) (λ q. parameters_look k known body (suc n) xs q)
  where
    by_test : (b : Bool) → ((q : ℕ) → AllLook known (parameters_code k body (suc n) xs q))
        → AllLook known (if b then Copy (k.node (suc p)) n ∷ parameters_code k body (suc n) xs
        (suc p) else parameters_code k body (suc n) xs p)
    by_test true rest = (refl, rest (suc p))
    by_test false rest = rest p

function_looks : (k : Context) (known : List Bool) (f : FunctionTree) → length known ≤ nowhere
    → statements_store k.tables known f.body ≡ false → AllLook known (function_code k f)
function_looks k known f few h =
    let p : ℕ = parameters_end f.body f.parameters 0 in
    let q : ℕ = statements_end f.body p in
    let v : Variables = variables_after_parameters k f.body 0 f.parameters 0 no_variables in
    both_look known (parameters_code k f.body 0 f.parameters 0) _
    (parameters_look k known f.body 0 f.parameters 0)
    (both_look known (statements_code k v f.body q q p) _
    (statements_look k known v f.body q q p few h) (refl, (refl, tt)))

-- a function of the list that isn't known to store doesn't
not_known : (t : Tables) (known : List Bool) (f : ℕ) (x : FunctionTree)
    → next_known t known ≡ known → slice_get t.functions f ≡ Some x → looking_by known f ≡ true
    → statements_store t known x.body ≡ false
not_known t known f x same at is =
    let told : slice_get known f ≡ Some (statements_store t known x.body) =
    sym (ap (λ (bs : List Bool). slice_get bs f) same)
    ∙ slice_get-map (λ (g : FunctionTree). statements_store t known g.body) t.functions f
    ∙ ap (option_map (λ (g : FunctionTree). statements_store t known g.body)) at in
    not-true (statements_store t known x.body)
    (sym (ap (λ (o : Option Bool). not (unwrap_or o false)) told) ∙ is)

module _ (tree : Program) (known : List Bool)
    (same : next_known (tables_of (tree_of tree)) known ≡ known)
    (short : length (tables_of (tree_of tree)).functions < 2 ^ 32) where
  abbrev t : Tables
  t = tables_of (tree_of tree)

  few : length known ≤ nowhere
  few =
      let long : length known ≡ length t.functions = sym (ap (λ (bs : List Bool). length bs) same)
      ∙ length-map t.functions (λ (g : FunctionTree). statements_store t known g.body) in
      omega (arith, long, short)

  one_looks : (f : ℕ) (u : IrFunction) (o : Option FunctionTree) → looking_by known f ≡ true
      → slice_get t.functions f ≡ o → option_map (lowered_function t tree) o ≡ Some u
      → CodeLooks (looking_by known) u.code
  one_looks f u None is at e = absurd (none-some u e)
  one_looks f u (Some x) is at e =
      subst (λ (w : IrFunction). CodeLooks (looking_by known) w.code)
      (same_Some (lowered_function t tree x) u e)
      (function_looks (context_at t tree (length x.parameters)) known x few
      (not_known t known f x same at is))

  pub lowers : FunctionsLook (lowered tree).functions (looking_by known)
  lowers f u is found =
      one_looks f u (slice_get t.functions f) is refl
      (sym (slice_get-map (lowered_function t tree) t.functions f) ∙ found)
