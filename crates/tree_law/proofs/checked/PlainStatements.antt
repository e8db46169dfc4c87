-- The code of statements and functions that break no rule calls no transaction, and has no log.
use Rattle.std.proofs.Common.{◌≡◌, ℕ, ℤ, pos, suc, Bool, true, false, List, [], ◌∷◌, refl}
use Rattle.std.specs.Prelude.{Option, None, Some, if◌then◌else◌}
use Rattle.std.specs.Option.{option_map_or}
use Rattle.nvm_base.specs.declared.op.BinOp.{BinOp}
use Rattle.c_tree.specs.declared.stmt.AssignOp.TheVariants as assign
use Rattle.c_tree.specs.Operators.{update_binary}
use Rattle.c_tree.specs.ExprTree.{ExprTree, Ident}
use Rattle.c_tree.specs.StmtTree as stmt
use Rattle.c_tree.specs.StmtTree.{StmtTree, Statements, SimpleTree, FirstTree, DeclarationTree}
use Rattle.c_tree.specs.StmtTree.{InitialTree}
use Rattle.c_tree.specs.ItemTree.{FunctionTree, ParameterTree}
use Rattle.c_types.specs.declared.value_type.ValueType.{ValueType}
use Rattle.c_types.specs.Tables.{Tables, function_named, declared_type}
use Rattle.c_types.specs.Expressions.{Scope, value_broken, broken_in, call_broken, parameters_of}
use Rattle.c_types.specs.Expressions.{argument_count, sides_type}
use Rattle.c_types.specs.Statements as types
use Rattle.c_types.specs.Statements.{type_broken, simple_broken, initial_broken, declaration_broken}
use Rattle.c_types.specs.Statements.{first_broken, return_broken, statement_broken}
use Rattle.c_types.specs.Statements.{statements_broken}
use Rattle.c_types.specs.Declarations as declarations
use Rattle.c_types.specs.Declarations.{type_given, parameters_broken, body_broken}
use Rattle.c_types.proofs.Unbroken.{none_left, none_right}
use Rattle.ir.specs.declared.instruction.Instruction.TheVariants.{Copy}
use Rattle.lower.specs.Assigned.{is_assigned}
use Rattle.lower.specs.Forms.{operation_of}
use Rattle.lower.specs.Names.{Variables, inner_variables, variable_of}
use Rattle.lower.specs.Lowers.{Context, exp_end, exp_code, target_end, target_code, arguments_code}
use Rattle.lower.specs.Lowers.{or_end, or_code, set_code, update_code, update_operation}
use Rattle.lower.specs.Lowers.{step_operation, simple_code, initial_code, first_end, first_code}
use Rattle.lower.specs.Lowers.{variables_after_first}
use Rattle.lower.specs.Lowers.{third_end, third_code, variables_after, stmt_end, stmt_code}
use Rattle.lower.specs.Lowers.{statements_end, statements_code}
use Rattle.lower.specs.Program.{parameters_end, parameters_code, variables_after_parameters}
use Rattle.lower.specs.Program.{no_variables, function_code}
use Rattle.lower.proofs.Sane.{IsSane}
use Rattle.tree_law.proofs.checked.PlainCalls.{AllPlain, both_plain, call_plain, exp_plain}
use Rattle.tree_law.proofs.checked.PlainCalls.{target_plain, arguments_plain}

value_plain : (k : Context) (s : List Scope) (v : Variables) (e : ExprTree) (p : ℕ)
    → IsSane k.tables → value_broken k.tables s e ≡ [] → AllPlain k.tables (exp_code k v e p)
value_plain k s v e p h b = exp_plain k s v e p h (none_left (broken_in k.tables s e) _ b)

place_plain : (k : Context) (s : List Scope) (v : Variables) (e : ExprTree) (p : ℕ)
    → IsSane k.tables → value_broken k.tables s e ≡ [] → AllPlain k.tables (target_code k v e p)
place_plain k s v e p h b = target_plain k s v e p h (none_left (broken_in k.tables s e) _ b)

or_plain : (k : Context) (s : List Scope) (v : Variables) (m : ℤ) (e : Option ExprTree) (p : ℕ)
    → IsSane k.tables → option_map_or (value_broken k.tables s) e [] ≡ []
    → AllPlain k.tables (or_code k v m e p)
or_plain k s v m None p h b = (tt, tt)
or_plain k s v m (Some e) p h b = value_plain k s v e p h b

set_plain : (k : Context) (s : List Scope) (v : Variables) (name : Option Ident) (target : ExprTree)
    (place : ℕ) (value : ExprTree) (p : ℕ) → IsSane k.tables
    → value_broken k.tables s target ≡ [] → value_broken k.tables s value ≡ []
    → AllPlain k.tables (set_code k v name target place value p)
set_plain k s v (Some name) target place value p h b c =
    both_plain k.tables (exp_code k v value p) _ (value_plain k s v value p h c) (tt, tt)
set_plain k s v None target place value p h b c =
    let q : ℕ = target_end target p in
    both_plain k.tables (target_code k v target p) _ (place_plain k s v target p h b)
    (both_plain k.tables (exp_code k v value q) _ (value_plain k s v value q h c) (tt, tt))

update_plain : (k : Context) (s : List Scope) (v : Variables) (name : Option Ident)
    (target : ExprTree) (place : ℕ) (o : BinOp) (value : Option ExprTree) (p : ℕ) → IsSane k.tables
    → value_broken k.tables s target ≡ [] → option_map_or (value_broken k.tables s) value [] ≡ []
    → AllPlain k.tables (update_code k v name target place o value p)
update_plain k s v (Some name) target place o value p h b c =
    both_plain k.tables (or_code k v (pos 1) value p) _ (or_plain k s v (pos 1) value p h c)
    (tt, (tt, tt))
update_plain k s v None target place o value p h b c =
    let q : ℕ = suc (target_end target p) in
    both_plain k.tables (target_code k v target p) _ (place_plain k s v target p h b) (
      tt,
      both_plain k.tables (or_code k v (pos 1) value q) _ (or_plain k s v (pos 1) value q h c)
          (tt, (tt, tt)),
    )

simple_plain : (k : Context) (s : List Scope) (v : Variables) (x : SimpleTree) (p : ℕ)
    → IsSane k.tables → simple_broken k.tables s x ≡ [] → AllPlain k.tables (simple_code k v x p)
simple_plain k s v (stmt.Assign target assign.Set place value) p h b =
    let t : Tables = k.tables in
    set_plain k s v (variable_of target) target place value p h
    (none_left (value_broken t s target) _ b)
    (none_left (value_broken t s value) _ (none_right (value_broken t s target) _ b))
simple_plain k s v (stmt.Assign target (assign.Update o) place value) p h b =
    let t : Tables = k.tables in
    update_plain k s v (variable_of target) target place
    (operation_of (sides_type k.tables v.scopes (update_binary o) target value)
    (update_operation o)) (Some value) p h
    (none_left (value_broken t s target) _ b)
    (none_left (value_broken t s value) _ (none_right (value_broken t s target) _ b))
simple_plain k s v (stmt.Step target o place) p h b =
    update_plain k s v (variable_of target) target place (step_operation o) None p h
    (none_left (value_broken k.tables s target) _ b) refl
simple_plain k s v (stmt.Call name all) p h b =
    let t : Tables = k.tables in
    let f : Option FunctionTree = function_named t name.text in
    both_plain t (arguments_code k v all p) _
    (arguments_plain k s v (parameters_of f) 0 all p h
    (none_right (call_broken false f (argument_count all) name.place) _ b)) (
      tt,
      (
        call_plain t false name (argument_count all) h
            (none_left (call_broken false f (argument_count all) name.place) _ b),
        tt,
      ),
    )
simple_plain k s v (stmt.Free place pointer) p h b =
    both_plain k.tables (exp_code k v pointer p) _
    (value_plain k s v pointer p h (none_left (value_broken k.tables s pointer) _ b)) (tt, tt)
simple_plain k s v (stmt.Abort place) p h b = (tt, tt)

initial_plain : (k : Context) (s : List Scope) (v : Variables) (ty : ValueType)
    (i : Option InitialTree) (p : ℕ) → IsSane k.tables
    → option_map_or (initial_broken k.tables s ty) i [] ≡ []
    → AllPlain k.tables (initial_code k v i p)
initial_plain k s v ty None p h b = (tt, tt)
initial_plain k s v ty (Some i) p h b =
    both_plain k.tables (exp_code k v i.value p) _
    (value_plain k s v i.value p h (none_left (value_broken k.tables s i.value) _ b)) (tt, tt)

declaration_plain : (k : Context) (s : List Scope) (v : Variables) (d : DeclarationTree) (p : ℕ)
    → IsSane k.tables → declaration_broken k.tables s d ≡ []
    → AllPlain k.tables (initial_code k v d.initial p)
declaration_plain k s v d p h b =
    let t : Tables = k.tables in
    initial_plain k s v (declared_type t d.ty) d.initial p h
    (none_left (option_map_or (initial_broken t s (declared_type t d.ty)) d.initial []) _
    (none_right (type_broken t d.ty) _ b))

first_plain : (k : Context) (s : List Scope) (v : Variables) (f : Option FirstTree) (p : ℕ)
    → IsSane k.tables → option_map_or (first_broken k.tables s) f [] ≡ []
    → AllPlain k.tables (first_code k v f p)
first_plain k s v None p h b = tt
first_plain k s v (Some (stmt.Declare d)) p h b = declaration_plain k s v d p h b
first_plain k s v (Some (stmt.Simply x)) p h b = simple_plain k s v x p h b

third_plain : (k : Context) (s : List Scope) (v : Variables) (x : Option SimpleTree) (p : ℕ)
    → IsSane k.tables → option_map_or (simple_broken k.tables s) x [] ≡ []
    → AllPlain k.tables (third_code k v x p)
third_plain k s v None p h b = tt
third_plain k s v (Some x) p h b = simple_plain k s v x p h b

return_plain : (k : Context) (type_given : Option ValueType) (s : List Scope) (v : Variables)
    (place : ℕ) (value : Option ExprTree) (p : ℕ) → IsSane k.tables
    → return_broken k.tables type_given s place value ≡ []
    → AllPlain k.tables (or_code k v (pos 0) value p)
return_plain k type_given s v place None p h b = (tt, tt)
return_plain k type_given s v place (Some e) p h b =
    value_plain k s v e p h (none_left (value_broken k.tables s e) _ b)

mutual
  stmt_plain : (k : Context) (type_given : Option ValueType) (s : List Scope) (v : Variables)
      (x : StmtTree) (out again p : ℕ) → IsSane k.tables → statement_broken k.tables type_given s x
      ≡ [] → AllPlain k.tables (stmt_code k v x out again p)
  stmt_plain k type_given s v stmt.Empty out again p h b = tt
  stmt_plain k type_given s v (stmt.Declares d) out again p h b = declaration_plain k s v d p h b
  stmt_plain k type_given s v (stmt.Simple x) out again p h b = simple_plain k s v x p h b
  stmt_plain k type_given s v (stmt.Block all) out again p h b =
      statements_plain k type_given (types.inner_scopes s) (inner_variables v) all out again p h b
  stmt_plain k type_given s v (stmt.If c x) out again p h b =
      let t : Tables = k.tables in
      let q : ℕ = suc (exp_end c p) in
      both_plain t (exp_code k v c p) _
      (value_plain k s v c p h (none_left (value_broken t s c) _ b)) (
        tt,
        stmt_plain k type_given (types.inner_scopes s) (inner_variables v) x out again q h
            (none_right (value_broken t s c) _ b),
      )
  stmt_plain k type_given s v (stmt.IfElse c x y) out again p h b =
      let t : Tables = k.tables in
      let p1 : ℕ = suc (exp_end c p) in
      let p2 : ℕ = suc (stmt_end x p1) in
      let inner : List Scope = types.inner_scopes s in
      let rest = none_right (value_broken t s c) _ b in
      both_plain t (exp_code k v c p) _
      (value_plain k s v c p h (none_left (value_broken t s c) _ b)) (
        tt,
        both_plain t (stmt_code k (inner_variables v) x out again p1) _
            (stmt_plain k type_given inner (inner_variables v) x out again p1 h
            (none_left (statement_broken t type_given inner x) _ rest)) (
              tt,
              stmt_plain k type_given inner (inner_variables v) y out again p2 h
                  (none_right (statement_broken t type_given inner x) _ rest),
            ),
      )
  stmt_plain k type_given s v (stmt.While place c x) out again p h b =
      let t : Tables = k.tables in
      let p1 : ℕ = suc (exp_end c (suc p)) in
      let p2 : ℕ = suc (stmt_end x p1) in (
        tt,
        both_plain t (exp_code k v c (suc p)) _
            (value_plain k s v c (suc p) h (none_left (value_broken t s c) _ b)) (
              tt,
              both_plain t (stmt_code k (inner_variables v) x p2 p p1) _
                  (stmt_plain k type_given (types.inner_scopes s) (inner_variables v) x p2 p p1 h
                  (none_right (value_broken t s c) _ b)) (tt, tt),
            ),
      )
  stmt_plain k type_given s v (stmt.Do place x c) out again p h b =
      let t : Tables = k.tables in
      let p1 : ℕ = stmt_end x p in
      let q : ℕ = suc (suc (exp_end c (suc p1))) in
      let inner : List Scope = types.inner_scopes s in
      both_plain t (stmt_code k (inner_variables v) x q p1 p) _
      (stmt_plain k type_given inner (inner_variables v) x q p1 p h
      (none_left (statement_broken t type_given inner x) _ b)) (
        tt,
        both_plain t (exp_code k v c (suc p1)) _
            (value_plain k s v c (suc p1) h
            (none_right (statement_broken t type_given inner x) _ b)) (tt, (tt, tt)),
      )
  stmt_plain k type_given s v (stmt.For place first c third x) out again p h b =
      let t : Tables = k.tables in
      let w : Variables = inner_variables v in
      let u : Variables = variables_after_first k first p w in
      let p0 : ℕ = suc (first_end first p) in
      let p1 : ℕ = suc (or_end c p0) in
      let p2 : ℕ = stmt_end x p1 in
      let p3 : ℕ = suc (third_end third p2) in
      let start : List Scope = types.inner_scopes s in
      let inner : List Scope = option_map_or (λ f. types.scopes_after_first t f start)
      first start in
      let r0 = none_right (option_map_or (first_broken t start) first []) _ b in
      let r1 = none_right (option_map_or (value_broken t inner) c []) _ r0 in
      both_plain t (first_code k w first p) _
      (first_plain k start w first p h
      (none_left (option_map_or (first_broken t start) first []) _ b)) (
        tt,
        both_plain t (or_code k u (pos 1) c p0) _
            (or_plain k inner u (pos 1) c p0 h
            (none_left (option_map_or (value_broken t inner) c []) _ r0)) (
              tt,
              both_plain t (stmt_code k (inner_variables u) x p3 p2 p1) _
                  (stmt_plain k type_given inner (inner_variables u) x p3 p2 p1 h
                  (none_right (option_map_or (simple_broken t inner) third []) _ r1))
                  (both_plain t (third_code k u third p2) _
                  (third_plain k inner u third p2 h
                  (none_left (option_map_or (simple_broken t inner) third []) _ r1)) (tt, tt)),
            ),
      )
  stmt_plain k type_given s v stmt.Break out again p h b = (tt, tt)
  stmt_plain k type_given s v stmt.Continue out again p h b = (tt, tt)
  stmt_plain k type_given s v (stmt.Return place value) out again p h b =
      both_plain k.tables (or_code k v (pos 0) value p) _
      (return_plain k type_given s v place value p h b) (tt, tt)

  statements_plain : (k : Context) (type_given : Option ValueType) (s : List Scope) (v : Variables)
      (xs : Statements) (out again p : ℕ) → IsSane k.tables
      → statements_broken k.tables type_given s xs ≡ []
      → AllPlain k.tables (statements_code k v xs out again p)
  statements_plain k type_given s v stmt.Nothing out again p h b = tt
  statements_plain k type_given s v (stmt.Then x xs) out again p h b =
      let t : Tables = k.tables in
      both_plain t (stmt_code k v x out again p) _
      (stmt_plain k type_given s v x out again p h
      (none_left (statement_broken t type_given s x) _ b))
      (statements_plain k type_given (types.scopes_after t x s) (variables_after k x p v) xs out
      again (stmt_end x p) h (none_right (statement_broken t type_given s x) _ b))

parameters_plain : (k : Context) (body : Statements) (n : ℕ) (xs : List ParameterTree) (p : ℕ)
    → AllPlain k.tables (parameters_code k body n xs p)
parameters_plain k body n [] p = tt
parameters_plain k body n (x ∷ xs) p =
    by_test (is_assigned x.name.text body) (λ q. parameters_plain k body (suc n) xs q)
  where
    by_test : (b : Bool) → ((q : ℕ) → AllPlain k.tables (parameters_code k body (suc n) xs q))
        → AllPlain k.tables (if b then Copy (k.node (suc p)) n ∷ parameters_code k body (suc n) xs
        (suc p) else parameters_code k body (suc n) xs p)
    by_test true rest = (tt, rest (suc p))
    by_test false rest = rest p

pub function_plain : (k : Context) (f : FunctionTree) → IsSane k.tables
    → body_broken k.tables f ≡ [] → AllPlain k.tables (function_code k f)
function_plain k f h b =
    let t : Tables = k.tables in
    let p : ℕ = parameters_end f.body f.parameters 0 in
    let q : ℕ = statements_end f.body p in
    let start : List Scope = types.inner_scopes [] in
    let v : Variables = variables_after_parameters k f.body 0 f.parameters 0 no_variables in
    let scopes : List Scope = declarations.scopes_after_parameters t start f.parameters in
    both_plain t (parameters_code k f.body 0 f.parameters 0) _
    (parameters_plain k f.body 0 f.parameters 0)
    (both_plain t (statements_code k v f.body q q p) _
    (statements_plain k (type_given t f.result_type) scopes v f.body q q p h
    (none_right (parameters_broken t start 0 f.parameters) _ b)) (tt, (tt, tt)))
