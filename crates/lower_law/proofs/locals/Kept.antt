-- The code of a tree that breaks no rule never assigns parameters: it assigns registers of places,
-- and those of variables that the function assigns, which are registers of places too.
use Rattle.std.proofs.Common.{◌≡◌, ℕ, zero, suc, ◌+◌, ◌≤◌, pos, Bool, true, false, List, [], ◌∷◌}
use Rattle.std.proofs.Common.{length, refl, sym, ap, ◌∙◌, subst, arith}
use Rattle.std.specs.Prelude.{Option, None, Some, if◌then◌else◌, ◌||◌, slice_get, option_map}
use Rattle.std.specs.Prelude.{bytes_eq}
use Rattle.std.specs.Option.{option_map_or}
use Rattle.std.proofs.lemmas.Slice.Eq.{bytes_eq-Decides}
use Rattle.std.proofs.lemmas.Option.{slice_get-map, none-some, same_Some}
use Rattle.std.proofs.lemmas.Bool.{false≢true}
use Rattle.nvm_base.specs.declared.op.BinOp.{BinOp}
use Rattle.c_tree.specs.declared.stmt.AssignOp.TheVariants as assign
use Rattle.c_tree.specs.Operators.{update_binary}
use Rattle.c_tree.specs.ExprTree as expr
use Rattle.c_tree.specs.ExprTree.{ExprTree, Ident}
use Rattle.c_tree.specs.StmtTree as stmt
use Rattle.c_tree.specs.StmtTree.{StmtTree, Statements, SimpleTree, FirstTree}
use Rattle.c_tree.specs.ItemTree.{FunctionTree, ParameterTree}
use Rattle.c_tree.specs.Program.{Program, tree_of}
use Rattle.c_types.specs.Tables.{Tables, tables_of, declared_type}
use Rattle.c_types.specs.Expressions.{sides_type}
use Rattle.ir.specs.declared.instruction.Instruction.{Instruction}
use Rattle.ir.specs.declared.instruction.Instruction.TheVariants.{Copy}
use Rattle.ir.specs.declared.function.IrFunction.{IrFunction}
use Rattle.ir.specs.declared.function.Ir.{Ir}
use Rattle.lower.specs.Assigned.{is_named, is_assignment, declares, first_declares, first_assigns}
use Rattle.lower.specs.Assigned.{third_assigns, assigns_name, is_assigned}
use Rattle.lower.specs.Forms.{operation_of}
use Rattle.lower.specs.Names.{Variables, inner_variables, variable_declared, register_of}
use Rattle.lower.specs.Names.{variable_of}
use Rattle.lower.specs.Lowers.{Context, exp_end, exp_code, target_end, target_code, or_end, or_code}
use Rattle.lower.specs.Lowers.{set_code, update_code, update_operation, step_operation}
use Rattle.lower.specs.Lowers.{simple_code, initial_end}
use Rattle.lower.specs.Lowers.{first_end, first_code, variables_after_first, third_end, third_code}
use Rattle.lower.specs.Lowers.{variables_after, stmt_end, stmt_code, statements_end}
use Rattle.lower.specs.Lowers.{statements_code}
use Rattle.lower.specs.Program.{parameters_end, parameters_code, variables_after_parameters}
use Rattle.lower.specs.Program.{no_variables, function_code, context_at, lowered_function, lowered}
use Rattle.code_meaning.specs.Parameters.{KeepsParameters}
use Rattle.lower_law.proofs.locals.Locals.{Entry, Agrees, entry_register, register_found}
use Rattle.lower_law.proofs.names.StmtFits.{TargetFits, SimpleFits, FirstFits, ThirdFits, StmtFits}
use Rattle.lower_law.proofs.names.StmtFits.{StatementsFit, entry_in, first_entries, entries_after}
use Rattle.lower_law.proofs.runs.Functions.{parameter_entry, parameter_entries, ParametersFit}
use Rattle.lower_law.proofs.runs.Functions.{FunctionFits, ProgramFits}
use Rattle.lower_law.proofs.locals.Leaves.{IsFrom, Leaves, AllLeave, both_leave, Spares}
use Rattle.lower_law.proofs.locals.Leaves.{bytes_self, bytes_turned, spares_part}
use Rattle.lower_law.proofs.locals.Leaves.{spares_declared, or_leaves, initial_leaves, exp_leaves}
use Rattle.lower_law.proofs.locals.Leaves.{target_leaves}

module _ (n : ℕ) (k : Context) (from : (q : ℕ) → n ≤ k.node q) where
  module _ (ir : Ir) where
    -- a variable that is assigned
    variable_from : (v : Variables) (es : List Entry) (target : ExprTree) (name : Ident)
        → Agrees v es → variable_of target ≡ Some name → TargetFits k ir v es (Some name) target
        → Spares n es (λ x. is_named x target) → n ≤ register_of name.text v
    variable_from v es target name agrees is fits h =
        subst (λ r. n ≤ r) (sym (register_found v es name.text fits.0 agrees fits.1))
        (h name.text fits.0 fits.1 (ap (λ (o : Option Ident).
        option_map_or (λ (x : Ident). bytes_eq x.text name.text) o false) is
        ∙ bytes_self name.text))

    set_leaves : (v : Variables) (es : List Entry) (name : Option Ident) (target : ExprTree)
        (place : ℕ) (value : ExprTree) (p : ℕ) → Agrees v es → variable_of target ≡ name
        → TargetFits k ir v es name target → Spares n es (λ x. is_named x target)
        → AllLeave n (set_code k v name target place value p)
    set_leaves v es (Some name) target place value p agrees is fits h =
        both_leave n (exp_code k v value p) _ (exp_leaves n k from v value p)
        (variable_from v es target name agrees is fits h, tt)
    set_leaves v es None target place value p agrees is fits h =
        both_leave n (target_code k v target p) _ (target_leaves n k from v target p)
        (both_leave n (exp_code k v value (target_end target p)) _
        (exp_leaves n k from v value (target_end target p)) (tt, tt))

    update_leaves : (v : Variables) (es : List Entry) (name : Option Ident) (target : ExprTree)
        (place : ℕ) (o : BinOp) (value : Option ExprTree) (p : ℕ) → Agrees v es
        → variable_of target ≡ name → TargetFits k ir v es name target
        → Spares n es (λ x. is_named x target)
        → AllLeave n (update_code k v name target place o value p)
    update_leaves v es (Some name) target place o value p agrees is fits h =
        both_leave n (or_code k v (pos 1) value p) _ (or_leaves n k from v (pos 1) value p)
        (from (suc (or_end value p)), (variable_from v es target name agrees is fits h, tt))
    update_leaves v es None target place o value p agrees is fits h =
        let p1 : ℕ = target_end target p in
        both_leave n (target_code k v target p) _ (target_leaves n k from v target p) (
          from (suc p1),
          both_leave n (or_code k v (pos 1) value (suc p1)) _
              (or_leaves n k from v (pos 1) value (suc p1)) (
                from (suc (or_end value (suc p1))),
                (tt, tt),
              ),
        )

    simple_leaves : (v : Variables) (es : List Entry) (x : SimpleTree) (p : ℕ) → Agrees v es
        → SimpleFits k ir v es x → Spares n es (λ y. is_assignment y x)
        → AllLeave n (simple_code k v x p)
    simple_leaves v es (stmt.Assign target assign.Set place value) p agrees fits h =
        set_leaves v es (variable_of target) target place value p agrees refl fits.0 h
    simple_leaves v es (stmt.Assign target (assign.Update o) place value) p agrees fits h =
        update_leaves v es (variable_of target) target place
        (operation_of (sides_type k.tables v.scopes (update_binary o) target value)
        (update_operation o)) (Some value) p agrees refl fits.0 h
    simple_leaves v es (stmt.Step target o place) p agrees fits h =
        update_leaves v es (variable_of target) target place (step_operation o) None p agrees
        refl fits h
    simple_leaves v es (stmt.Call name all) p agrees fits h =
        exp_leaves n k from v (expr.Call name all) p
    simple_leaves v es (stmt.Free place pointer) p agrees fits h =
        both_leave n (exp_code k v pointer p) _ (exp_leaves n k from v pointer p) (tt, tt)
    simple_leaves v es (stmt.Abort place) p agrees fits h = (tt, tt)

    first_leaves : (v : Variables) (es : List Entry) (first : Option FirstTree) (p : ℕ)
        → Agrees v es → FirstFits k ir v es first → Spares n es (λ y. first_assigns y first)
        → AllLeave n (first_code k v first p)
    first_leaves v es None p agrees fits h = tt
    first_leaves v es (Some (stmt.Declare d)) p agrees fits h =
        initial_leaves n k from v d.initial p
    first_leaves v es (Some (stmt.Simply x)) p agrees fits h = simple_leaves v es x p agrees fits h

    first_agrees : (v : Variables) (es : List Entry) (first : Option FirstTree) (p : ℕ)
        → Agrees v es → FirstFits k ir v es first
        → Agrees (variables_after_first k first p v) (first_entries k ir first p es)
    first_agrees v es None p agrees fits = agrees
    first_agrees v es (Some (stmt.Declare d)) p agrees fits =
        fits.1 (k.node (initial_end d.initial p))
    first_agrees v es (Some (stmt.Simply x)) p agrees fits = agrees

    -- after the first part of a loop, which hides the name that it declares
    first_spares : (es : List Entry) (first : Option FirstTree) (p : ℕ) (f g : List ℕ → Bool)
        → ((name : List ℕ) → first_declares name first ≡ false → g name ≡ true → f name ≡ true)
        → Spares n es f → Spares n (first_entries k ir first p es) g
    first_spares es None p f g part h = spares_part n es f g (λ name e. part name refl e) h
    first_spares es (Some (stmt.Declare d)) p f g part h =
        spares_declared n es (entry_in k ir d (k.node (initial_end d.initial p))) f g
        (from (initial_end d.initial p)) (λ name other e.
        part name (bytes_turned name d.name.text other) e) h
    first_spares es (Some (stmt.Simply x)) p f g part h =
        spares_part n es f g (λ name e. part name refl e) h

    third_leaves : (v : Variables) (es : List Entry) (x : Option SimpleTree) (p : ℕ) → Agrees v es
        → ThirdFits k ir v es x → Spares n es (λ y. third_assigns y x)
        → AllLeave n (third_code k v x p)
    third_leaves v es None p agrees fits h = tt
    third_leaves v es (Some x) p agrees fits h = simple_leaves v es x p agrees fits h

    statement_agrees : (v : Variables) (es : List Entry) (x : StmtTree) (p : ℕ) → Agrees v es
        → StmtFits k ir v es x p → Agrees (variables_after k x p v) (entries_after k ir x p es)
    statement_agrees v es (stmt.Declares d) p agrees fits =
        fits.1 (k.node (initial_end d.initial p))
    statement_agrees v es stmt.Empty p agrees fits = agrees
    statement_agrees v es (stmt.Simple x) p agrees fits = agrees
    statement_agrees v es (stmt.Block all) p agrees fits = agrees
    statement_agrees v es (stmt.If c a) p agrees fits = agrees
    statement_agrees v es (stmt.IfElse c a b) p agrees fits = agrees
    statement_agrees v es (stmt.While place c a) p agrees fits = agrees
    statement_agrees v es (stmt.Do place a c) p agrees fits = agrees
    statement_agrees v es (stmt.For place first c third a) p agrees fits = agrees
    statement_agrees v es stmt.Break p agrees fits = agrees
    statement_agrees v es stmt.Continue p agrees fits = agrees
    statement_agrees v es (stmt.Return place value) p agrees fits = agrees

    -- after a statement, which hides the name that it declares
    after_spares : (es : List Entry) (x : StmtTree) (p : ℕ) (f g : List ℕ → Bool)
        → ((name : List ℕ) → declares name x ≡ false → g name ≡ true → f name ≡ true)
        → Spares n es f
        → Spares n (entries_after k ir x p es) g
    after_spares es (stmt.Declares d) p f g part h =
        spares_declared n es (entry_in k ir d (k.node (initial_end d.initial p))) f g
        (from (initial_end d.initial p)) (λ name other e.
        part name (bytes_turned name d.name.text other) e) h
    after_spares es stmt.Empty p f g part h = spares_part n es f g (λ name e. part name refl e) h
    after_spares es (stmt.Simple x) p f g part h =
        spares_part n es f g (λ name e. part name refl e) h
    after_spares es (stmt.Block all) p f g part h =
        spares_part n es f g (λ name e. part name refl e) h
    after_spares es (stmt.If c a) p f g part h = spares_part n es f g (λ name e. part name refl e) h
    after_spares es (stmt.IfElse c a b) p f g part h =
        spares_part n es f g (λ name e. part name refl e) h
    after_spares es (stmt.While place c a) p f g part h =
        spares_part n es f g (λ name e. part name refl e) h
    after_spares es (stmt.Do place a c) p f g part h =
        spares_part n es f g (λ name e. part name refl e) h
    after_spares es (stmt.For place first c third a) p f g part h =
        spares_part n es f g (λ name e. part name refl e) h
    after_spares es stmt.Break p f g part h = spares_part n es f g (λ name e. part name refl e) h
    after_spares es stmt.Continue p f g part h = spares_part n es f g (λ name e. part name refl e) h
    after_spares es (stmt.Return place value) p f g part h =
        spares_part n es f g (λ name e. part name refl e) h

    -- a test of two parts
    or_left : (a b : Bool) → a ≡ true → (if a then true else b) ≡ true
    or_left a b e = ap (λ (c : Bool). if c then true else b) e

    or_right : (a b : Bool) → b ≡ true → (if a then true else b) ≡ true
    or_right true b e = refl
    or_right false b e = e

    mutual
      stmt_leaves : (v : Variables) (es : List Entry) (x : StmtTree) (out again p : ℕ) → Agrees v es
          → StmtFits k ir v es x p → Spares n es (λ y. assigns_name y x)
          → AllLeave n (stmt_code k v x out again p)
      stmt_leaves v es stmt.Empty out again p agrees fits h = tt
      stmt_leaves v es (stmt.Declares d) out again p agrees fits h =
          initial_leaves n k from v d.initial p
      stmt_leaves v es (stmt.Simple x) out again p agrees fits h =
          simple_leaves v es x p agrees fits h
      stmt_leaves v es (stmt.Block all) out again p agrees fits h =
          statements_leave (inner_variables v) es all out again p agrees fits h
      stmt_leaves v es (stmt.If c a) out again p agrees fits h =
          both_leave n (exp_code k v c p) _ (exp_leaves n k from v c p)
          (tt, stmt_leaves (inner_variables v) es a out again (suc (exp_end c p)) agrees fits.1 h)
      stmt_leaves v es (stmt.IfElse c a b) out again p agrees fits h =
          let p1 : ℕ = exp_end c p in
          let p2 : ℕ = stmt_end a (suc p1) in
          both_leave n (exp_code k v c p) _ (exp_leaves n k from v c p) (
            tt,
            both_leave n (stmt_code k (inner_variables v) a out again (suc p1)) _
                (stmt_leaves (inner_variables v) es a out again (suc p1) agrees fits.1
                (spares_part n es (λ y. assigns_name y (stmt.IfElse c a b))
                (λ y. assigns_name y a) (λ y e. or_left (assigns_name y a) (assigns_name y b) e)
                h)) (
                  tt,
                  stmt_leaves (inner_variables v) es b out again (suc p2) agrees fits.2
                      (spares_part n es (λ y. assigns_name y (stmt.IfElse c a b))
                      (λ y. assigns_name y b) (λ y e.
                      or_right (assigns_name y a) (assigns_name y b) e)
                      h),
                ),
          )
      stmt_leaves v es (stmt.While place c a) out again p agrees fits h =
          let p1 : ℕ = exp_end c (suc p) in
          let p2 : ℕ = stmt_end a (suc p1) in (
            tt,
            both_leave n (exp_code k v c (suc p)) _ (exp_leaves n k from v c (suc p)) (
              tt,
              both_leave n (stmt_code k (inner_variables v) a (suc p2) p (suc p1)) _
                  (stmt_leaves (inner_variables v) es a (suc p2) p (suc p1) agrees fits.1 h)
                  (tt, tt),
            ),
          )
      stmt_leaves v es (stmt.Do place a c) out again p agrees fits h =
          let p1 : ℕ = stmt_end a p in
          let p2 : ℕ = exp_end c (suc p1) in
          both_leave n (stmt_code k (inner_variables v) a (suc (suc p2)) p1 p) _
          (stmt_leaves (inner_variables v) es a (suc (suc p2)) p1 p agrees fits.0 h) (
            tt,
            both_leave n (exp_code k v c (suc p1)) _ (exp_leaves n k from v c (suc p1))
                (tt, (tt, tt)),
          )
      stmt_leaves v es (stmt.For place first c third a) out again p agrees fits h =
          let u : Variables = variables_after_first k first p (inner_variables v) in
          let us : List Entry = first_entries k ir first p es in
          let p0 : ℕ = first_end first p in
          let p1 : ℕ = or_end c (suc p0) in
          let p2 : ℕ = stmt_end a (suc p1) in
          let p3 : ℕ = third_end third p2 in
          let all : List ℕ → Bool = λ y. assigns_name y (stmt.For place first c third a) in
          let known : Agrees u us = first_agrees (inner_variables v) es first p agrees fits.0 in
          both_leave n (first_code k (inner_variables v) first p) _
          (first_leaves (inner_variables v) es first p agrees fits.0
          (spares_part n es all (λ y. first_assigns y first)
          (λ y e. begins y first (first_assigns y first) (third_assigns y third)
          (assigns_name y a) e) h)) (
            tt,
            both_leave n (or_code k u (pos 1) c (suc p0)) _
                (or_leaves n k from u (pos 1) c (suc p0)) (
                  tt,
                  both_leave n (stmt_code k (inner_variables u) a (suc p3) p2 (suc p1)) _
                      (stmt_leaves (inner_variables u) us a (suc p3) p2 (suc p1) known fits.3
                      (first_spares es first p all (λ y. assigns_name y a) (λ y new e.
                      body_part (first_declares y first) (first_assigns y first)
                      (third_assigns y third) (assigns_name y a) new e) h))
                      (both_leave n (third_code k u third p2) _
                      (third_leaves u us third p2 known fits.2
                      (first_spares es first p all (λ y. third_assigns y third) (λ y new e.
                      third_part (first_declares y first) (first_assigns y first)
                      (third_assigns y third) (assigns_name y a) new e) h))
                      (tt, tt)),
                ),
          )
        where
          third_part : (d f t b : Bool) → d ≡ false → t ≡ true
              → (if d then false else (f || t || b)) ≡ true
          third_part true f t b new e = absurd (false≢true (sym new))
          third_part false true t b new e = refl
          third_part false false true b new e = refl
          third_part false false false b new e = absurd (false≢true e)

          body_part : (d f t b : Bool) → d ≡ false → b ≡ true
              → (if d then false else (f || t || b)) ≡ true
          body_part true f t b new e = absurd (false≢true (sym new))
          body_part false true t b new e = refl
          body_part false false true b new e = refl
          body_part false false false b new e = e

          begins : (y : List ℕ) (x : Option FirstTree) (f t b : Bool) → first_assigns y x ≡ true
              → (if first_declares y x then false else (first_assigns y x || t || b)) ≡ true
          begins y None f t b e = absurd (false≢true e)
          begins y (Some (stmt.Declare d)) f t b e = absurd (false≢true e)
          begins y (Some (stmt.Simply x)) f t b e = ap (λ (c : Bool). c || t || b) e
      stmt_leaves v es stmt.Break out again p agrees fits h = (tt, tt)
      stmt_leaves v es stmt.Continue out again p agrees fits h = (tt, tt)
      stmt_leaves v es (stmt.Return place value) out again p agrees fits h =
          both_leave n (or_code k v (pos 0) value p) _ (or_leaves n k from v (pos 0) value p)
          (tt, tt)

      statements_leave : (v : Variables) (es : List Entry) (xs : Statements) (out again p : ℕ)
          → Agrees v es → StatementsFit k ir v es xs p → Spares n es (λ y. is_assigned y xs)
          → AllLeave n (statements_code k v xs out again p)
      statements_leave v es stmt.Nothing out again p agrees fits h = tt
      statements_leave v es (stmt.Then x xs) out again p agrees fits h =
          both_leave n (stmt_code k v x out again p) _
          (stmt_leaves v es x out again p agrees fits.0
          (spares_part n es (λ y. is_assigned y (stmt.Then x xs)) (λ y. assigns_name y x)
          (λ y e. own y x (assigns_name y x) (is_assigned y xs) e) h))
          (statements_leave (variables_after k x p v) (entries_after k ir x p es) xs out again
          (stmt_end x p) (statement_agrees v es x p agrees fits.0) fits.1
          (after_spares es x p (λ y. is_assigned y (stmt.Then x xs)) (λ y. is_assigned y xs)
          (λ y new e. later (declares y x) (assigns_name y x) (is_assigned y xs) new e) h))
        where
          later : (d a b : Bool) → d ≡ false → b ≡ true
              → (if d then false else if a then true else b) ≡ true
          later true a b new e = absurd (false≢true (sym new))
          later false true b new e = refl
          later false false b new e = e

          own : (y : List ℕ) (x : StmtTree) (a b : Bool) → assigns_name y x ≡ true
              → (if declares y x then false else if assigns_name y x then true else b) ≡ true
          own y (stmt.Declares d) a b e = absurd (false≢true e)
          own y stmt.Empty a b e = absurd (false≢true e)
          own y (stmt.Simple s) a b e = ap (λ (c : Bool). if c then true else b) e
          own y (stmt.Block all) a b e = ap (λ (c : Bool). if c then true else b) e
          own y (stmt.If c d) a b e = ap (λ (c : Bool). if c then true else b) e
          own y (stmt.IfElse c d f) a b e = ap (λ (c : Bool). if c then true else b) e
          own y (stmt.While place c d) a b e = ap (λ (c : Bool). if c then true else b) e
          own y (stmt.Do place d c) a b e = ap (λ (c : Bool). if c then true else b) e
          own y (stmt.For place first c third d) a b e = ap (λ (c : Bool). if c then true else b) e
          own y stmt.Break a b e = absurd (false≢true e)
          own y stmt.Continue a b e = absurd (false≢true e)
          own y (stmt.Return place value) a b e = absurd (false≢true e)

-- the parameters: each has its own register, or that of its copy, if the function assigns it
parameters_spare : (n : ℕ) (k : Context) (body : Statements) (i : ℕ) (xs : List ParameterTree)
    (p : ℕ) (es : List Entry) → ((q : ℕ) → n ≤ k.node q) → Spares n es (λ y. is_assigned y body)
    → Spares n (parameter_entries k body i xs p es) (λ y. is_assigned y body)
parameters_spare n k body i [] p es from h = h
parameters_spare n k body i (x ∷ xs) p es from h =
    by_test (is_assigned x.name.text body) refl (λ q r le.
    parameters_spare n k body (suc i) xs q (parameter_entry k.tables x r ∷ es) from (new r le))
  where
    new : (r : ℕ) → (is_assigned x.name.text body ≡ true → n ≤ r)
        → Spares n (parameter_entry k.tables x r ∷ es) (λ y. is_assigned y body)
    new r le name q is e = by_name (bytes_eq name x.name.text) refl is
      where
        by_name : (b : Bool) → bytes_eq name x.name.text ≡ b
            → (if b then Some r else entry_register name es) ≡ Some q → n ≤ q
        by_name true at is =
            let same : r ≡ q = same_Some r q is in
            let low : n ≤ r = le (ap (λ (y : List ℕ). is_assigned y body)
            (sym ((bytes_eq-Decides name x.name.text).0 at)) ∙ e) in
            omega (arith, low, same)
        by_name false at is = h name q is e

    by_test : (b : Bool) → is_assigned x.name.text body ≡ b
        → ((q r : ℕ) → (is_assigned x.name.text body ≡ true → n ≤ r)
        → Spares n (parameter_entries k body (suc i) xs q (parameter_entry k.tables x r ∷ es))
        (λ y. is_assigned y body))
        → Spares n (if b then parameter_entries k body (suc i) xs (suc p)
        (parameter_entry k.tables x (k.node (suc p)) ∷ es)
        else parameter_entries k body (suc i) xs p (parameter_entry k.tables x i ∷ es))
        (λ y. is_assigned y body)
    by_test true at next = next (suc p) (k.node (suc p)) (λ e. from (suc p))
    by_test false at next = next p i (λ e. absurd (false≢true (sym at ∙ e)))

parameters_agree : (k : Context) (body : Statements) (i : ℕ) (xs : List ParameterTree) (p : ℕ)
    (v : Variables) (es : List Entry) → Agrees v es → ParametersFit k.tables xs v es
    → Agrees (variables_after_parameters k body i xs p v) (parameter_entries k body i xs p es)
parameters_agree k body i [] p v es agrees fits = agrees
parameters_agree k body i (x ∷ xs) p v es agrees fits =
    by_test (is_assigned x.name.text body)
    (λ q r. parameters_agree k body (suc i) xs q
    (variable_declared x.name.text (declared_type k.tables x.ty) r v)
    (parameter_entry k.tables x r ∷ es) (fits r).0 (fits r).1)
  where
    by_test : (b : Bool)
        → ((q r : ℕ) → Agrees (variables_after_parameters k body (suc i) xs q
        (variable_declared x.name.text (declared_type k.tables x.ty) r v))
        (parameter_entries k body (suc i) xs q (parameter_entry k.tables x r ∷ es)))
        → Agrees (if b then variables_after_parameters k body (suc i) xs (suc p)
        (variable_declared x.name.text (declared_type k.tables x.ty) (k.node (suc p)) v)
        else variables_after_parameters k body (suc i) xs p
        (variable_declared x.name.text (declared_type k.tables x.ty) i v))
        (if b then parameter_entries k body (suc i) xs (suc p)
        (parameter_entry k.tables x (k.node (suc p)) ∷ es)
        else parameter_entries k body (suc i) xs p (parameter_entry k.tables x i ∷ es))
    by_test true next = next (suc p) (k.node (suc p))
    by_test false next = next p i

parameters_leave : (n : ℕ) (k : Context) (body : Statements) (i : ℕ) (xs : List ParameterTree)
    (p : ℕ) → ((q : ℕ) → n ≤ k.node q) → AllLeave n (parameters_code k body i xs p)
parameters_leave n k body i [] p from = tt
parameters_leave n k body i (x ∷ xs) p from =
    by_test (is_assigned x.name.text body) (λ q. parameters_leave n k body (suc i) xs q from)
  where
    by_test : (b : Bool) → ((q : ℕ) → AllLeave n (parameters_code k body (suc i) xs q))
        → AllLeave n (if b then Copy (k.node (suc p)) i ∷ parameters_code k body (suc i) xs (suc p)
        else parameters_code k body (suc i) xs p)
    by_test true rest = (from (suc p), rest (suc p))
    by_test false rest = rest p

function_leaves : (n : ℕ) (k : Context) (ir : Ir) (fn : FunctionTree) → ((q : ℕ) → n ≤ k.node q)
    → FunctionFits k ir fn → AllLeave n (function_code k fn)
function_leaves n k ir fn from fits =
    let p : ℕ = parameters_end fn.body fn.parameters 0 in
    let q : ℕ = statements_end fn.body p in
    let v : Variables = variables_after_parameters k fn.body 0 fn.parameters 0 no_variables in
    let es : List Entry = parameter_entries k fn.body 0 fn.parameters 0 [] in
    both_leave n (parameters_code k fn.body 0 fn.parameters 0) _
    (parameters_leave n k fn.body 0 fn.parameters 0 from)
    (both_leave n (statements_code k v fn.body q q p) _
    (statements_leave n k from ir v es fn.body q q p
    (parameters_agree k fn.body 0 fn.parameters 0 no_variables [] (λ name. (refl, refl))
    fits.parameters) fits.body
    (parameters_spare n k fn.body 0 fn.parameters 0 [] from (λ name r is e.
    absurd (none-some r is))))
    (from (suc q), (tt, tt)))

leaves_at : (n : ℕ) (is : List Instruction) (p : ℕ) (i : Instruction) → AllLeave n is
    → slice_get is p ≡ Some i → Leaves n i
leaves_at n [] p i all at = absurd (none-some i at)
leaves_at n (x ∷ xs) zero i all at = subst (Leaves n) (same_Some x i at) all.0
leaves_at n (x ∷ xs) (suc p) i all at = leaves_at n xs p i all.1 at

-- the trees of a program's functions correspond to their code, place by place
function_of : (tree : Program) (g : ℕ) (u : IrFunction)
    → slice_get (lowered tree).functions g ≡ Some u
    → (fn : FunctionTree) × (slice_get (tables_of (tree_of tree)).functions g ≡ Some fn)
    × (lowered_function (tables_of (tree_of tree)) tree fn ≡ u)
function_of tree g u is =
    let t : Tables = tables_of (tree_of tree) in
    by_function (slice_get t.functions g) refl
    (sym (slice_get-map (lowered_function t tree) t.functions g) ∙ is)
  where
    by_function : (o : Option FunctionTree) → slice_get (tables_of (tree_of tree)).functions g ≡ o
        → option_map (lowered_function (tables_of (tree_of tree)) tree) o ≡ Some u
        → (fn : FunctionTree) × (slice_get (tables_of (tree_of tree)).functions g ≡ Some fn)
        × (lowered_function (tables_of (tree_of tree)) tree fn ≡ u)
    by_function None at e = absurd (none-some u e)
    by_function (Some fn) at e = (fn, at, some_same e)
      where
        some_same : Some (lowered_function (tables_of (tree_of tree)) tree fn) ≡ Some u
            → lowered_function (tables_of (tree_of tree)) tree fn ≡ u
        some_same e = cc

pub keeps_parameters : (tree : Program) → ProgramFits (tables_of (tree_of tree)) tree (lowered tree)
    → KeepsParameters (lowered tree).functions
keeps_parameters tree fits g p u i r is at assigns_name =
    let t : Tables = tables_of (tree_of tree) in
    let f = function_of tree g u is in
    let n : ℕ = length f.0.parameters in
    let all : AllLeave n (function_code (context_at t tree n) f.0) =
    function_leaves n (context_at t tree n) (lowered tree) f.0 (λ q. below n q)
    (fits.fits g f.0 f.1) in
    let here : Leaves n i = leaves_at n (function_code (context_at t tree n) f.0) p i all
    (ap (λ (x : IrFunction). slice_get x.code p) f.2 ∙ at) in
    subst (λ (x : IrFunction). x.parameters ≤ r) f.2 (subst (IsFrom n) assigns_name here)
  where
    below : (n q : ℕ) → n ≤ n + q
    below n q = omega arith
