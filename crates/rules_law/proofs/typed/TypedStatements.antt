-- A statement that is well typed breaks no rule.
use Rattle.std.proofs.Common.{◌≡◌, ℕ, true, List, [], refl}
use Rattle.std.specs.Prelude.{not, Option, None, Some, option_map}
use Rattle.std.specs.Option.{option_map_or}
use Rattle.std.proofs.lemmas.Bool.{not_from_false}
use Rattle.c_tree.specs.ExprTree.{ExprTree}
use Rattle.c_tree.specs.ExprTree as expr
use Rattle.c_tree.specs.StmtTree.{StmtTree, Statements, SimpleTree, FirstTree, TypeTree}
use Rattle.c_tree.specs.StmtTree.{InitialTree, DeclarationTree}
use Rattle.c_tree.specs.StmtTree as stmt
use Rattle.c_tree.specs.declared.stmt.AssignOp.{AssignOp}
use Rattle.c_tree.specs.declared.stmt.AssignOp.TheVariants as assign
use Rattle.c_types.specs.declared.value_type.ValueType.{ValueType}
use Rattle.c_types.specs.declared.broken.Rule.TheVariants.{Twice, Mismatch, NotAssignable}
use Rattle.c_types.specs.Broken.{unless}
use Rattle.c_types.specs.Fits.{is_int, is_pointer, type_takes, assigns}
use Rattle.c_types.specs.Tables.{Tables, declared_type}
use Rattle.c_types.specs.Expressions.{Scope, type_of, value_broken}
use Rattle.c_types.specs.Statements.{inner_scopes, is_declared, is_target, is_field, scopes_after}
use Rattle.c_types.specs.Statements.{scopes_after_first, type_broken, simple_broken, initial_broken}
use Rattle.c_types.specs.Statements.{declaration_broken, first_broken, return_broken}
use Rattle.c_types.specs.Statements.{statement_broken, statements_broken}
use Rattle.rules_law.specs.typed.Types.{StaticType, Number, PointerTo, value_type}
use Rattle.rules_law.specs.typed.Expressions.{HasType, IsArray}
use Rattle.rules_law.specs.typed.Statements.{IsAssignable, IsAssigned, IsSimple, IsInitial}
use Rattle.rules_law.specs.typed.Statements.{IsDeclared, IsFirst, IsCondition, IsThird, IsReturned}
use Rattle.rules_law.specs.typed.Statements.{IsStatement, AreStatements}
use Rattle.rules_law.proofs.typed.Broken.{none_both, kept}
use Rattle.rules_law.proofs.typed.Fitting.{numbers_fit, taken_fits, written_kept, declared_is}
use Rattle.rules_law.proofs.typed.TypedExpressions.{typed_is, value_kept, called_kept}

array_form : (t : Tables) (s : List Scope) (e : ExprTree) (x : StaticType) → IsArray t s e x
    → is_field e ≡ true
array_form t s (expr.Root name) x h = refl
array_form t s (expr.Arrow base place name) x h = refl
array_form t s (expr.Number n) x h = absurd h
array_form t s expr.Null x h = absurd h
array_form t s (expr.Variable name) x h = absurd h
array_form t s (expr.Call name all) x h = absurd h
array_form t s (expr.New place name) x h = absurd h
array_form t s (expr.Index base place index) x h = absurd h
array_form t s (expr.Unary op place a) x h = absurd h
array_form t s (expr.Binary op place a b) x h = absurd h
array_form t s (expr.Conditional c place a b) x h = absurd h

target_form : (t : Tables) (s : List Scope) (e : ExprTree) (x : StaticType) → IsAssignable e
    → HasType t s e x → is_target e ≡ true
target_form t s (expr.Variable name) x is h = refl
target_form t s (expr.Root name) x is h = refl
target_form t s (expr.Arrow base place name) x is h = refl
target_form t s (expr.Index base place index) x is h = array_form t s base x h.0
target_form t s (expr.Number n) x is h = absurd is
target_form t s expr.Null x is h = absurd is
target_form t s (expr.Call name all) x is h = absurd is
target_form t s (expr.New place name) x is h = absurd is
target_form t s (expr.Unary op place a) x is h = absurd is
target_form t s (expr.Binary op place a b) x is h = absurd is
target_form t s (expr.Conditional c place a b) x is h = absurd is

assigned_fits : (op : AssignOp) (x y : StaticType) → IsAssigned op x y
    → assigns op (value_type x) (value_type y) ≡ true
assigned_fits assign.Set x y h = taken_fits x y h
assigned_fits (assign.Update op) x y h = numbers_fit x y h

simple_kept : (t : Tables) (s : List Scope) (d : SimpleTree) → IsSimple t s d
    → simple_broken t s d ≡ []
simple_kept t s (stmt.Assign target op place e) h =
    none_both (value_broken t s target) _ (value_kept t s target h.1 h.3)
    (none_both (value_broken t s e) _ (value_kept t s e h.2 h.4)
    (none_both (unless (assigns op (type_of t s target) (type_of t s e)) place Mismatch) _
    (kept (assigns op (type_of t s target) (type_of t s e)) place Mismatch (rw
    (typed_is t s target h.1 h.3, typed_is t s e h.2 h.4) (assigned_fits op h.1 h.2 h.5)))
    (kept (is_target target) place NotAssignable (target_form t s target h.1 h.0 h.3))))
simple_kept t s (stmt.Step target op place) h =
    none_both (value_broken t s target) _ (value_kept t s target (Number h.1) h.2)
    (none_both (unless (is_int (type_of t s target)) place Mismatch) _
    (kept (is_int (type_of t s target)) place Mismatch (rw (typed_is t s target
    (Number h.1) h.2) refl))
    (kept (is_target target) place NotAssignable (target_form t s target (Number h.1) h.0 h.2)))
simple_kept t s (stmt.Call name all) h = called_kept t s name all h
simple_kept t s (stmt.Free place e) h =
    none_both (value_broken t s e) _ (value_kept t s e (PointerTo h.0) h.1)
    (kept (is_pointer (type_of t s e)) place Mismatch (rw (typed_is t s e
    (PointerTo h.0) h.1) refl))
simple_kept t s (stmt.Abort place) h = refl

initial_kept : (t : Tables) (s : List Scope) (ty : ValueType) (x : StaticType)
    (i : Option InitialTree) → ty ≡ value_type x → IsInitial t s x i
    → option_map_or (initial_broken t s ty) i [] ≡ []
initial_kept t s ty x None is h = refl
initial_kept t s ty x (Some i) is h =
    none_both (value_broken t s i.value) _ (value_kept t s i.value h.0 h.1)
    (kept (type_takes ty (type_of t s i.value)) i.place Mismatch (rw
    (is, typed_is t s i.value h.0 h.1) (taken_fits x h.0 h.2)))

declaration_kept : (t : Tables) (s : List Scope) (d : DeclarationTree) → IsDeclared t s d
    → declaration_broken t s d ≡ []
declaration_kept t s d h =
    none_both (type_broken t d.ty) _ (written_kept t d.ty h.1 h.2)
    (none_both (option_map_or (initial_broken t s (declared_type t d.ty)) d.initial []) _
    (initial_kept t s (declared_type t d.ty) h.1 d.initial (declared_is t d.ty h.1 h.2) h.3)
    (kept (not (is_declared d.name.text s)) d.name.place Twice (not_from_false _ h.0)))

first_kept : (t : Tables) (s : List Scope) (o : Option FirstTree) → IsFirst t s o
    → option_map_or (first_broken t s) o [] ≡ []
first_kept t s None h = refl
first_kept t s (Some (stmt.Declare d)) h = declaration_kept t s d h
first_kept t s (Some (stmt.Simply x)) h = simple_kept t s x h

condition_kept : (t : Tables) (s : List Scope) (o : Option ExprTree) → IsCondition t s o
    → option_map_or (value_broken t s) o [] ≡ []
condition_kept t s None h = refl
condition_kept t s (Some e) h = value_kept t s e h.0 h.1

third_kept : (t : Tables) (s : List Scope) (o : Option SimpleTree) → IsThird t s o
    → option_map_or (simple_broken t s) o [] ≡ []
third_kept t s None h = refl
third_kept t s (Some x) h = simple_kept t s x h

return_kept : (t : Tables) (s : List Scope) (result : Option TypeTree) (place : ℕ)
    (value : Option ExprTree) → IsReturned t s result value
    → return_broken t (option_map (declared_type t) result) s place value ≡ []
return_kept t s None place None h = refl
return_kept t s None place (Some e) h = absurd h
return_kept t s (Some ty) place None h = absurd h
return_kept t s (Some ty) place (Some e) h =
    none_both (value_broken t s e) _ (value_kept t s e h.1 h.3)
    (kept (type_takes (declared_type t ty) (type_of t s e)) place Mismatch (rw
    (declared_is t ty h.0 h.2, typed_is t s e h.1 h.3) (taken_fits h.0 h.1 h.4)))

mutual
  pub statement_kept : (t : Tables) (result : Option TypeTree) (s : List Scope) (x : StmtTree)
      → IsStatement t result s x
      → statement_broken t (option_map (declared_type t) result) s x ≡ []
  statement_kept t result s stmt.Empty h = refl
  statement_kept t result s (stmt.Declares d) h = declaration_kept t s d h
  statement_kept t result s (stmt.Simple x) h = simple_kept t s x h
  statement_kept t result s (stmt.Block all) h = statements_kept t result (inner_scopes s) all h
  statement_kept t result s (stmt.If c a) h =
      none_both (value_broken t s c) _ (value_kept t s c h.0.0 h.0.1) (statement_kept t result
      (inner_scopes s) a h.1)
  statement_kept t result s (stmt.IfElse c a e) h =
      none_both (value_broken t s c) _ (value_kept t s c h.0.0 h.0.1)
      (none_both (statement_broken t (option_map (declared_type t) result) (inner_scopes s) a) _
      (statement_kept t result (inner_scopes s) a h.1)
      (statement_kept t result (inner_scopes s) e h.2))
  statement_kept t result s (stmt.While place c a) h =
      none_both (value_broken t s c) _ (value_kept t s c h.0.0 h.0.1) (statement_kept t result
      (inner_scopes s) a h.1)
  statement_kept t result s (stmt.Do place a c) h =
      none_both (statement_broken t (option_map (declared_type t) result) (inner_scopes s) a) _
      (statement_kept t result (inner_scopes s) a h.0) (value_kept t s c h.1.0 h.1.1)
  statement_kept t result s (stmt.For place first c third a) h =
      let s1 : List Scope = inner_scopes s in
      let inner : List Scope = option_map_or (λ f. scopes_after_first t f s1) first s1 in
      none_both (option_map_or (first_broken t s1) first []) _ (first_kept t s1 first h.0)
      (none_both (option_map_or (value_broken t inner) c []) _ (condition_kept t inner c h.1)
      (none_both (option_map_or (simple_broken t inner) third []) _
      (third_kept t inner third h.2) (statement_kept t result inner a h.3)))
  statement_kept t result s stmt.Break h = refl
  statement_kept t result s stmt.Continue h = refl
  statement_kept t result s (stmt.Return place value) h = return_kept t s result place value h

  pub statements_kept : (t : Tables) (result : Option TypeTree) (s : List Scope)
      (all : Statements) → AreStatements t result s all
      → statements_broken t (option_map (declared_type t) result) s all ≡ []
  statements_kept t result s stmt.Nothing h = refl
  statements_kept t result s (stmt.Then x xs) h =
      none_both (statement_broken t (option_map (declared_type t) result) s x) _
      (statement_kept t result s x h.0) (statements_kept t result (scopes_after t x s) xs h.1)
