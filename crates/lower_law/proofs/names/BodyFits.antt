-- The names of statements and of functions that break no rule fit.
use Rattle.std.proofs.Common.{◌≡◌, ℕ, suc, ◌+◌, Bool, true, false, List, [], ◌∷◌, ◌++◌, length}
use Rattle.std.proofs.Common.{refl, sym, ◌∙◌, subst}
use Rattle.std.specs.Prelude.{Option, None, Some, not, nat_eq, if◌then◌else◌}
use Rattle.std.specs.Option.{option_map_or}
use Rattle.std.proofs.lemmas.Bool.{not-true}
use Rattle.c_tree.specs.ExprTree.{ExprTree}
use Rattle.c_tree.specs.StmtTree as stmt
use Rattle.c_tree.specs.StmtTree.{StmtTree, Statements, SimpleTree, FirstTree, DeclarationTree}
use Rattle.c_tree.specs.StmtTree.{InitialTree}
use Rattle.c_tree.specs.ItemTree.{FunctionTree, ParameterTree}
use Rattle.c_tree.specs.Program.{Program, tree_of}
use Rattle.c_types.specs.declared.value_type.ValueType.{ValueType}
use Rattle.c_types.specs.declared.broken.Rule.TheVariants.{Mismatch, NotAssignable, Twice, TooBig}
use Rattle.c_types.specs.declared.fault.LimitKind.TheVariants as limit
use Rattle.c_types.specs.declared.broken.Broken.{Broken}
use Rattle.c_types.specs.Broken.{unless}
use Rattle.c_types.specs.Fits.{is_int, is_pointer, assigns}
use Rattle.c_types.specs.Tables.{Tables, tables_of, function_named, declared_type}
use Rattle.c_types.specs.Shapes.{shapes_in}
use Rattle.c_types.specs.Fault.{breaks}
use Rattle.c_types.specs.Expressions.{Scope, value_broken, type_of, call_broken, parameters_of}
use Rattle.c_types.specs.Expressions.{argument_count}
use Rattle.c_types.specs.Statements as types
use Rattle.c_types.specs.Statements.{is_declared, is_target, type_broken, simple_broken}
use Rattle.c_types.specs.Statements.{initial_broken, declaration_broken, first_broken}
use Rattle.c_types.specs.Statements.{return_broken, statement_broken, statements_broken}
use Rattle.c_types.specs.Declarations as declarations
use Rattle.c_types.specs.Declarations.{type_given, parameter_broken, parameters_broken}
use Rattle.c_types.specs.Declarations.{scopes_after_parameter, function_broken, body_broken}
use Rattle.c_types.proofs.Unbroken.{none_left, none_right, holds}
use Rattle.ir.specs.declared.function.Ir.{Ir}
use Rattle.lower.specs.Assigned.{is_assigned}
use Rattle.lower.specs.Names.{Variables, inner_variables, variable_declared}
use Rattle.lower.specs.Lowers.{Context, exp_end, or_end, initial_end, variables_after_declaration}
use Rattle.lower.specs.Lowers.{first_end, variables_after_first, variables_after, stmt_end}
use Rattle.lower.specs.Program.{parameters_end, variables_after_parameters, no_variables}
use Rattle.lower.specs.Program.{context_at, lowered}
use Rattle.lower.proofs.Sane.{IsSane, sane, broken_functions, function_at_place}
use Rattle.lower.proofs.GoodTypes.{IsGood, declared_good}
use Rattle.lower.proofs.Alike.{IsSame, Alike, alike_same, alike_declared, value_same, or_same}
use Rattle.lower.proofs.Alike.{simple_same, third_same}
use Rattle.lower_law.proofs.locals.Locals.{Entry}
use Rattle.lower_law.proofs.names.Declared.{HasLevel, agrees_declared, level_declared}
use Rattle.lower_law.proofs.names.Typed.{call_fits}
use Rattle.lower_law.proofs.names.ExpFits.{Sees, value_fits, arguments_fit, target_fits, free_fits}
use Rattle.lower_law.proofs.names.Fits.{ExpFits}
use Rattle.lower_law.proofs.names.StmtFits.{OrFits, SimpleFits, InitialFits, DeclarationFits}
use Rattle.lower_law.proofs.names.StmtFits.{FirstFits}
use Rattle.lower_law.proofs.names.StmtFits.{ThirdFits, StmtFits, StatementsFit, entry_in}
use Rattle.lower_law.proofs.names.StmtFits.{first_entries}
use Rattle.lower_law.proofs.names.StmtFits.{entries_after}
use Rattle.lower_law.proofs.runs.Functions.{parameter_entry, parameter_entries, ParametersFit}
use Rattle.lower_law.proofs.runs.Functions.{FunctionFits, ProgramFits, stands_in}

-- in the scopes of the typing rules each name means what it means to the code, and what is new
-- there is new in the code
record Stands (t : Tables) (s : List Scope) (v : Variables) (es : List Entry) : Type 0 where
  pub same : IsSame s v.scopes
  pub new : (name : List ℕ) → is_declared name s ≡ false → is_declared name v.scopes ≡ false
  pub level : HasLevel v.scopes v.locals
  pub sees : Sees t v es

-- the same in a block, whose declarations change both scopes in the same way
record Within (t : Tables) (s : List Scope) (v : Variables) (es : List Entry) : Type 0 where
  pub alike : Alike s v.scopes
  pub level : HasLevel v.scopes v.locals
  pub sees : Sees t v es

alike_new : (name : List ℕ) (s u : List Scope) → Alike s u → is_declared name s ≡ false
    → is_declared name u ≡ false
alike_new name [] u h e = absurd h
alike_new name (x ∷ s) [] h e = absurd h
alike_new name (x ∷ s) (y ∷ u) h e = subst (λ (z : Scope). is_declared name (z ∷ u) ≡ false) h.0 e

stands_within : (t : Tables) (s : List Scope) (v : Variables) (es : List Entry) → Within t s v es
    → Stands t s v es
stands_within t s v es h = record {
  same = alike_same s v.scopes h.alike;
  new = λ name e.
      alike_new name s v.scopes h.alike e;
  level = h.level;
  sees = h.sees;
}

-- a new scope
within_inside : (t : Tables) (s : List Scope) (v : Variables) (es : List Entry) → Stands t s v es
    → Within t (types.inner_scopes s) (inner_variables v) es
within_inside t s v es h = record {
  alike = (refl, h.same);
  level = tt;
  sees = record { agrees = λ name. h.sees.agrees name; good = h.sees.good };
}

stands_inside : (t : Tables) (s : List Scope) (v : Variables) (es : List Entry) → IsSame s v.scopes
    → Sees t v es → Stands t s (inner_variables v) es
stands_inside t s v es same sees =
    record {
      same = same;
      new = λ name e. refl;
      level = tt;
      sees = record { agrees = λ name. sees.agrees name; good = sees.good };
    }

within_declared : (t : Tables) (s : List Scope) (v : Variables) (es : List Entry) (name : List ℕ)
    (ty : ValueType) (r : ℕ) → IsGood t ty → is_declared name s ≡ false → Within t s v es
    → Within t (types.scope_declared name ty s) (variable_declared name ty r v)
    (record { name = name; ty = ty; register = r } ∷ es)
within_declared t s v es name ty r good new h = record {
  alike = alike_declared name ty s v.scopes h.alike;
  level = level_declared name ty r v h.level;
  sees = record {
    agrees = agrees_declared name ty r v es h.level
        (alike_new name s v.scopes h.alike new) h.sees.agrees;
    good = (good, h.sees.good);
  };
}

module _ (k : Context) (ir : Ir) (whole : IsSane k.tables) (shaped : ir.shapes ≡ shapes_in k.tables)
  where
    or_fits : (v : Variables) (es : List Entry) (e : Option ExprTree) → Sees k.tables v es
        → option_map_or (value_broken k.tables v.scopes) e [] ≡ [] → OrFits k ir v es e
    or_fits v es None h b = tt
    or_fits v es (Some e) h b = value_fits k ir whole shaped v es h e b

    simple_fits : (v : Variables) (es : List Entry) (x : SimpleTree) → Sees k.tables v es
        → simple_broken k.tables v.scopes x ≡ [] → SimpleFits k ir v es x
    simple_fits v es (stmt.Assign target o place value) h b =
        let t : Tables = k.tables in
        let rest = none_right (value_broken t v.scopes target) _ b in
        let good : is_target target ≡ true =
        holds (is_target target) place NotAssignable
        (none_right (unless (assigns o (type_of t v.scopes target) (type_of t v.scopes value)) place
        Mismatch) _ (none_right (value_broken t v.scopes value) _ rest)) in (
          target_fits k ir whole shaped v es h target good
              (none_left (value_broken t v.scopes target) _ b),
          value_fits k ir whole shaped v es h value
              (none_left (value_broken t v.scopes value) _ rest),
        )
    simple_fits v es (stmt.Step target o place) h b =
        let t : Tables = k.tables in
        let good : is_target target ≡ true =
        holds (is_target target) place NotAssignable
        (none_right (unless (is_int (type_of t v.scopes target)) place Mismatch) _
        (none_right (value_broken t v.scopes target) _ b)) in
        target_fits k ir whole shaped v es h target good
        (none_left (value_broken t v.scopes target) _ b)
    simple_fits v es (stmt.Call name all) h b =
        let f : Option FunctionTree = function_named k.tables name.text in (
          call_fits k.tables false name (argument_count all) whole
              (none_left (call_broken false f (argument_count all) name.place) _ b),
          arguments_fit k ir whole shaped v es h (parameters_of f) 0 all
              (none_right (call_broken false f (argument_count all) name.place) _ b),
        )
    simple_fits v es (stmt.Free place pointer) h b =
        let t : Tables = k.tables in
        let own : value_broken t v.scopes pointer ≡ [] =
        none_left (value_broken t v.scopes pointer) _ b in
        let good : is_pointer (type_of t v.scopes pointer) ≡ true =
        holds (is_pointer (type_of t v.scopes pointer)) place Mismatch
        (none_right (value_broken t v.scopes pointer) _ b) in (
          value_fits k ir whole shaped v es h pointer own,
          free_fits k ir whole shaped v es h pointer own good,
        )
    simple_fits v es (stmt.Abort place) h b = tt

    initial_fits : (s : List Scope) (v : Variables) (es : List Entry) (ty : ValueType)
        (i : Option InitialTree) → Stands k.tables s v es
        → option_map_or (initial_broken k.tables s ty) i [] ≡ [] → InitialFits k ir v es i
    initial_fits s v es ty None h b = tt
    initial_fits s v es ty (Some i) h b =
        value_fits k ir whole shaped v es h.sees i.value
        (sym (value_same k.tables s v.scopes h.same i.value)
        ∙ none_left (value_broken k.tables s i.value) _ b)

    declared_new : (s : List Scope) (d : DeclarationTree) → declaration_broken k.tables s d ≡ []
        → is_declared d.name.text s ≡ false
    declared_new s d b =
        not-true (is_declared d.name.text s)
        (holds (not (is_declared d.name.text s)) d.name.place Twice
        (none_right (option_map_or (initial_broken k.tables s (declared_type k.tables d.ty))
        d.initial
        []) _ (none_right (type_broken k.tables d.ty) _ b)))

    declaration_fits : (s : List Scope) (v : Variables) (es : List Entry) (d : DeclarationTree)
        → Stands k.tables s v es → declaration_broken k.tables s d ≡ []
        → DeclarationFits k ir v es d
    declaration_fits s v es d h b =
        let ty : ValueType = declared_type k.tables d.ty in (
          initial_fits s v es ty d.initial h
              (none_left (option_map_or (initial_broken k.tables s ty) d.initial []) _
              (none_right (type_broken k.tables d.ty) _ b)),
          λ r. agrees_declared d.name.text ty r v es h.level
              (h.new d.name.text (declared_new s d b))
              h.sees.agrees,
        )

    declaration_within : (s : List Scope) (v : Variables) (es : List Entry) (d : DeclarationTree)
        (p : ℕ) → Within k.tables s v es → declaration_broken k.tables s d ≡ []
        → Within k.tables (types.scopes_after_declaration k.tables d s)
        (variables_after_declaration k d p v)
        (entry_in k ir d (k.node (initial_end d.initial p)) ∷ es)
    declaration_within s v es d p h b =
        within_declared k.tables s v es d.name.text (declared_type k.tables d.ty)
        (k.node (initial_end d.initial p))
        (declared_good k.tables d.ty (none_left (type_broken k.tables d.ty) _ b))
        (declared_new s d b) h

    first_fits : (s : List Scope) (v : Variables) (es : List Entry) (first : Option FirstTree)
        → Stands k.tables s v es → option_map_or (first_broken k.tables s) first [] ≡ []
        → FirstFits k ir v es first
    first_fits s v es None h b = tt
    first_fits s v es (Some (stmt.Declare d)) h b = declaration_fits s v es d h b
    first_fits s v es (Some (stmt.Simply x)) h b =
        simple_fits v es x h.sees (sym (simple_same k.tables s v.scopes h.same x) ∙ b)

    first_within : (s : List Scope) (v : Variables) (es : List Entry) (first : Option FirstTree)
        (p : ℕ) → Within k.tables s v es → option_map_or (first_broken k.tables s) first [] ≡ []
        → Within k.tables (option_map_or (λ f. types.scopes_after_first k.tables f s) first s)
        (variables_after_first k first p v) (first_entries k ir first p es)
    first_within s v es None p h b = h
    first_within s v es (Some (stmt.Declare d)) p h b = declaration_within s v es d p h b
    first_within s v es (Some (stmt.Simply x)) p h b = h

    third_fits : (v : Variables) (es : List Entry) (x : Option SimpleTree) → Sees k.tables v es
        → option_map_or (simple_broken k.tables v.scopes) x [] ≡ [] → ThirdFits k ir v es x
    third_fits v es None h b = tt
    third_fits v es (Some x) h b = simple_fits v es x h b

    return_fits : (give : Option ValueType) (s : List Scope) (v : Variables) (es : List Entry)
        (place : ℕ) (value : Option ExprTree) → Stands k.tables s v es
        → return_broken k.tables give s place value ≡ [] → OrFits k ir v es value
    return_fits give s v es place None h b = tt
    return_fits give s v es place (Some e) h b =
        value_fits k ir whole shaped v es h.sees e (sym (value_same k.tables s v.scopes h.same e)
        ∙ none_left (value_broken k.tables s e) _ b)

    statement_within : (give : Option ValueType) (s : List Scope) (v : Variables) (es : List Entry)
        (x : StmtTree) (p : ℕ) → Within k.tables s v es → statement_broken k.tables give s x ≡ []
        → Within k.tables (types.scopes_after k.tables x s) (variables_after k x p v)
        (entries_after k ir x p es)
    statement_within give s v es (stmt.Declares d) p h b = declaration_within s v es d p h b
    statement_within give s v es stmt.Empty p h b = h
    statement_within give s v es (stmt.Simple x) p h b = h
    statement_within give s v es (stmt.Block all) p h b = h
    statement_within give s v es (stmt.If c a) p h b = h
    statement_within give s v es (stmt.IfElse c a d) p h b = h
    statement_within give s v es (stmt.While place c a) p h b = h
    statement_within give s v es (stmt.Do place a c) p h b = h
    statement_within give s v es (stmt.For place first c third a) p h b = h
    statement_within give s v es stmt.Break p h b = h
    statement_within give s v es stmt.Continue p h b = h
    statement_within give s v es (stmt.Return place value) p h b = h

    -- a condition
    test_fits : (s : List Scope) (v : Variables) (es : List Entry) (c : ExprTree)
        (rest : List Broken)
        → Stands k.tables s v es → value_broken k.tables s c ++ rest ≡ [] → ExpFits k ir v es c
    test_fits s v es c rest h b = value_fits k ir whole shaped v es h.sees c
        (sym (value_same k.tables s v.scopes h.same c)
        ∙ none_left (value_broken k.tables s c) rest b)

    mutual
      stmt_fits : (give : Option ValueType) (s : List Scope) (v : Variables) (es : List Entry)
          (x : StmtTree) (p : ℕ) → Stands k.tables s v es → statement_broken k.tables give s x ≡ []
          → StmtFits k ir v es x p
      stmt_fits give s v es stmt.Empty p h b = tt
      stmt_fits give s v es (stmt.Declares d) p h b = declaration_fits s v es d h b
      stmt_fits give s v es (stmt.Simple x) p h b =
          simple_fits v es x h.sees (sym (simple_same k.tables s v.scopes h.same x) ∙ b)
      stmt_fits give s v es (stmt.Block all) p h b =
          statements_fit give (types.inner_scopes s) (inner_variables v) es all p
          (within_inside k.tables s v es h) b
      stmt_fits give s v es (stmt.If c a) p h b = (
        test_fits s v es c _ h b,
        stmt_fits give (types.inner_scopes s) (inner_variables v) es a (suc (exp_end c p))
            (stands_within k.tables (types.inner_scopes s) (inner_variables v) es
            (within_inside k.tables s v es h)) (none_right (value_broken k.tables s c) _ b),
      )
      stmt_fits give s v es (stmt.IfElse c a d) p h b =
          let start : List Scope = types.inner_scopes s in
          let rest = none_right (value_broken k.tables s c) _ b in
          let inner : Stands k.tables start (inner_variables v) es =
          stands_within k.tables start (inner_variables v) es (within_inside k.tables s v es h) in (
            test_fits s v es c _ h b,
            stmt_fits give start (inner_variables v) es a (suc (exp_end c p)) inner
                (none_left (statement_broken k.tables give start a) _ rest),
            stmt_fits give start (inner_variables v) es d (suc (stmt_end a (suc (exp_end c p))))
                inner
                (none_right (statement_broken k.tables give start a) _ rest),
          )
      stmt_fits give s v es (stmt.While place c a) p h b = (
        test_fits s v es c _ h b,
        stmt_fits give (types.inner_scopes s) (inner_variables v) es a (suc (exp_end c (suc p)))
            (stands_within k.tables (types.inner_scopes s) (inner_variables v) es
            (within_inside k.tables s v es h)) (none_right (value_broken k.tables s c) _ b),
      )
      stmt_fits give s v es (stmt.Do place a c) p h b =
          let start : List Scope = types.inner_scopes s in (
            stmt_fits give start (inner_variables v) es a p
                (stands_within k.tables start (inner_variables v) es
                (within_inside k.tables s v es h))
                (none_left (statement_broken k.tables give start a) _ b),
            value_fits k ir whole shaped v es h.sees c
                (sym (value_same k.tables s v.scopes h.same c)
                ∙ none_right (statement_broken k.tables give start a) _ b),
          )
      stmt_fits give s v es (stmt.For place first c third a) p h b =
          let t : Tables = k.tables in
          let start : List Scope = types.inner_scopes s in
          let u : Variables = variables_after_first k first p (inner_variables v) in
          let us : List Entry = first_entries k ir first p es in
          let inner : List Scope = option_map_or (λ f. types.scopes_after_first t f start)
          first start in
          let begin : Within t start (inner_variables v) es = within_inside t s v es h in
          let b0 : option_map_or (first_broken t start) first [] ≡ [] =
          none_left (option_map_or (first_broken t start) first []) _ b in
          let r0 = none_right (option_map_or (first_broken t start) first []) _ b in
          let w : Within t inner u us = first_within start (inner_variables v) es first p
          begin b0 in
          let same : IsSame inner u.scopes = alike_same inner u.scopes w.alike in
          let b1 : option_map_or (value_broken t u.scopes) c [] ≡ [] =
          sym (or_same t inner u.scopes same c)
          ∙ none_left (option_map_or (value_broken t inner) c []) _ r0 in
          let r1 = none_right (option_map_or (value_broken t inner) c []) _ r0 in
          let b2 : option_map_or (simple_broken t u.scopes) third [] ≡ [] =
          sym (third_same t inner u.scopes same third)
          ∙ none_left (option_map_or (simple_broken t inner) third []) _ r1 in
          let b3 : statement_broken t give inner a ≡ [] =
          none_right (option_map_or (simple_broken t inner) third []) _ r1 in (
            first_fits start (inner_variables v) es first
                (stands_within t start (inner_variables v) es begin) b0,
            or_fits u us c w.sees b1,
            third_fits u us third w.sees b2,
            stmt_fits give inner (inner_variables u) us a (suc (or_end c (suc (first_end first p))))
                (stands_inside t inner u us same w.sees) b3,
          )
      stmt_fits give s v es stmt.Break p h b = tt
      stmt_fits give s v es stmt.Continue p h b = tt
      stmt_fits give s v es (stmt.Return place value) p h b =
          return_fits give s v es place value h b

      statements_fit : (give : Option ValueType) (s : List Scope) (v : Variables) (es : List Entry)
          (xs : Statements) (p : ℕ) → Within k.tables s v es
          → statements_broken k.tables give s xs ≡ []
          → StatementsFit k ir v es xs p
      statements_fit give s v es stmt.Nothing p h b = tt
      statements_fit give s v es (stmt.Then x xs) p h b =
          let own : statement_broken k.tables give s x ≡ [] =
          none_left (statement_broken k.tables give s x) _ b in (
            stmt_fits give s v es x p (stands_within k.tables s v es h) own,
            statements_fit give (types.scopes_after k.tables x s) (variables_after k x p v)
                (entries_after k ir x p es) xs (stmt_end x p)
                (statement_within give s v es x p h own)
                (none_right (statement_broken k.tables give s x) _ b),
          )

-- parameters, in any registers
parameter_new : (t : Tables) (s : List Scope) (i : ℕ) (x : ParameterTree)
    → parameter_broken t s i x ≡ [] → is_declared x.name.text s ≡ false
parameter_new t s i x b =
    not-true (is_declared x.name.text s) (holds (not (is_declared x.name.text s)) x.name.place Twice
    (none_right (unless (not (nat_eq i 22)) x.name.place (TooBig limit.Parameters 23)) _
    (none_right (type_broken t x.ty) _ b)))

parameter_within : (t : Tables) (s : List Scope) (v : Variables) (es : List Entry) (i : ℕ)
    (x : ParameterTree) (r : ℕ) → Within t s v es → parameter_broken t s i x ≡ []
    → Within t (scopes_after_parameter t s x)
    (variable_declared x.name.text (declared_type t x.ty) r v) (parameter_entry t x r ∷ es)
parameter_within t s v es i x r h b =
    within_declared t s v es x.name.text (declared_type t x.ty) r
    (declared_good t x.ty (none_left (type_broken t x.ty) _ b)) (parameter_new t s i x b) h

parameters_fit : (t : Tables) (s : List Scope) (v : Variables) (es : List Entry) (i : ℕ)
    (xs : List ParameterTree) → Within t s v es → parameters_broken t s i xs ≡ []
    → ParametersFit t xs v es
parameters_fit t s v es i [] h b = tt
parameters_fit t s v es i (x ∷ xs) h b =
    let own : parameter_broken t s i x ≡ [] = none_left (parameter_broken t s i x) _ b in
    λ r. let w : Within t (scopes_after_parameter t s x)
    (variable_declared x.name.text (declared_type t x.ty) r v) (parameter_entry t x r ∷ es) =
    parameter_within t s v es i x r h own in (
      w.sees.agrees,
      parameters_fit t (scopes_after_parameter t s x)
          (variable_declared x.name.text (declared_type t x.ty) r v) (parameter_entry t x r ∷ es)
          (i + 1) xs w (none_right (parameter_broken t s i x) _ b),
    )

parameters_within : (k : Context) (body : Statements) (n : ℕ) (s : List Scope) (v : Variables)
    (es : List Entry) (i : ℕ) (xs : List ParameterTree) (p : ℕ) → Within k.tables s v es
    → parameters_broken k.tables s i xs ≡ []
    → Within k.tables (declarations.scopes_after_parameters k.tables s xs)
    (variables_after_parameters k body n xs p v) (parameter_entries k body n xs p es)
parameters_within k body n s v es i [] p h b = h
parameters_within k body n s v es i (x ∷ xs) p h b =
    by_test (is_assigned x.name.text body)
    (λ q r. parameters_within k body (suc n) (scopes_after_parameter k.tables s x)
    (variable_declared x.name.text (declared_type k.tables x.ty) r v)
    (parameter_entry k.tables x r ∷ es) (i + 1) xs q
    (parameter_within k.tables s v es i x r h (none_left (parameter_broken k.tables s i x) _ b))
    (none_right (parameter_broken k.tables s i x) _ b))
  where
    t : Tables
    t = k.tables

    ty : ValueType
    ty = declared_type k.tables x.ty

    by_test : (c : Bool)
        → ((q r : ℕ) → Within t (declarations.scopes_after_parameters t
        (scopes_after_parameter t s x) xs)
        (variables_after_parameters k body (suc n) xs q (variable_declared x.name.text ty r v))
        (parameter_entries k body (suc n) xs q (parameter_entry t x r ∷ es)))
        → Within t (declarations.scopes_after_parameters t (scopes_after_parameter t s x) xs)
        (if c then variables_after_parameters k body (suc n) xs (suc p)
        (variable_declared x.name.text ty (k.node (suc p)) v)
        else variables_after_parameters k body (suc n) xs p
        (variable_declared x.name.text ty n v))
        (if c then parameter_entries k body (suc n) xs (suc p) (parameter_entry t x (k.node (suc p))
        ∷ es) else parameter_entries k body (suc n) xs p (parameter_entry t x n ∷ es))
    by_test true next = next (suc p) (k.node (suc p))
    by_test false next = next p n

-- at the start of a function no name means anything
none_within : (t : Tables) → Within t (types.inner_scopes []) no_variables []
none_within t = record {
  alike = (refl, λ name. refl);
  level = tt;
  sees = record { agrees = λ name. (refl, refl); good = tt };
}

-- a function
pub function_fits : (k : Context) (ir : Ir) (fn : FunctionTree) → IsSane k.tables
    → ir.shapes ≡ shapes_in k.tables → body_broken k.tables fn ≡ [] → FunctionFits k ir fn
function_fits k ir fn whole shaped b =
    let t : Tables = k.tables in
    let start : List Scope = types.inner_scopes [] in
    let b1 : parameters_broken t start 0 fn.parameters ≡ [] =
    none_left (parameters_broken t start 0 fn.parameters) _ b in
    record {
      parameters = parameters_fit t start no_variables [] 0 fn.parameters (none_within t) b1;
      body = statements_fit k ir whole shaped (type_given t fn.result_type)
          (declarations.scopes_after_parameters t start fn.parameters)
          (variables_after_parameters k fn.body 0 fn.parameters 0 no_variables)
          (parameter_entries k fn.body 0 fn.parameters 0 []) fn.body
          (parameters_end fn.body fn.parameters 0)
          (parameters_within k fn.body 0 start no_variables [] 0 fn.parameters 0 (none_within t) b1)
          (none_right (parameters_broken t start 0 fn.parameters) _ b);
    }

-- a program
pub program_fits : (tree : Program) → breaks tree ≡ []
    → ProgramFits (tables_of (tree_of tree)) tree (lowered tree)
program_fits tree e =
    let t : Tables = tables_of (tree_of tree) in
    record {
      stands = stands_in tree;
      fits = λ g fn is. function_fits (context_at t tree (length fn.parameters)) (lowered tree) fn
          (sane tree e) refl (none_right (function_broken t (0 + g) fn) (body_broken t fn)
          (function_at_place t 0 t.functions g fn (broken_functions tree e) is));
    }
