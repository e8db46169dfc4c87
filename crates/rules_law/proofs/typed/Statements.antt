-- A statement that breaks no rule is well typed.
use Rattle.std.proofs.Common.{◌≡◌, ℕ, true, false, List, []}
use Rattle.std.specs.Prelude.{not, Option, None, Some, option_map}
use Rattle.std.specs.Option.{option_map_or}
use Rattle.std.proofs.lemmas.Bool.{false≢true, not-true}
use Rattle.c_tree.specs.ExprTree.{ExprTree}
use Rattle.c_tree.specs.ExprTree as expr
use Rattle.c_tree.specs.StmtTree.{StmtTree, Statements, SimpleTree, FirstTree, TypeTree}
use Rattle.c_tree.specs.StmtTree.{InitialTree, DeclarationTree}
use Rattle.c_tree.specs.StmtTree as stmt
use Rattle.c_tree.specs.declared.stmt.AssignOp.{AssignOp}
use Rattle.c_tree.specs.declared.stmt.AssignOp.TheVariants as assign
use Rattle.c_types.specs.declared.value_type.ValueType.{ValueType}
use Rattle.c_types.specs.declared.broken.Rule.TheVariants.{Twice, Mismatch, NotAssignable}
use Rattle.c_types.specs.Broken.{unless}
use Rattle.c_types.specs.Fits.{is_int, is_pointer, type_takes, assigns}
use Rattle.c_types.specs.Tables.{Tables, declared_type}
use Rattle.c_types.specs.Expressions.{Scope, type_of, value_broken}
use Rattle.c_types.specs.Statements.{inner_scopes, is_declared, is_target, scopes_after}
use Rattle.c_types.specs.Statements.{scopes_after_first, scopes_after_declaration, type_broken}
use Rattle.c_types.specs.Statements.{simple_broken, initial_broken, declaration_broken}
use Rattle.c_types.specs.Statements.{first_broken, return_broken, statement_broken}
use Rattle.c_types.specs.Statements.{statements_broken}
use Rattle.c_types.proofs.Unbroken.{none_left, none_right, holds}
use Rattle.rules_law.specs.typed.Types.{StaticType, PointerTo, IsNumber, value_type}
use Rattle.rules_law.specs.typed.Expressions.{HasType}
use Rattle.rules_law.specs.typed.Statements.{IsAssignable, IsAssigned, IsSimple, IsInitial}
use Rattle.rules_law.specs.typed.Statements.{IsDeclared, IsFirst, IsCondition, IsThird, IsReturned}
use Rattle.rules_law.specs.typed.Statements.{IsStatement, AreStatements}
use Rattle.rules_law.specs.typed.Programs.{IsResult}
use Rattle.rules_law.proofs.typed.Fitting.{number_only, numbers_only, pointer_only, taken}
use Rattle.rules_law.proofs.typed.Fitting.{taken_answer, type_written, declared_is}
use Rattle.rules_law.proofs.typed.Known.{AreKnown, known_inside, known_declared, IsReady}
use Rattle.rules_law.proofs.typed.Expressions.{value_is, call_is, typed_is}

target_form : (e : ExprTree) → is_target e ≡ true → IsAssignable e
target_form (expr.Variable name) is = tt
target_form (expr.Root name) is = tt
target_form (expr.Arrow base place name) is = tt
target_form (expr.Index base place index) is = tt
target_form (expr.Number n) is = absurd (false≢true is)
target_form expr.Null is = absurd (false≢true is)
target_form (expr.Call name all) is = absurd (false≢true is)
target_form (expr.New place name) is = absurd (false≢true is)
target_form (expr.Unary op place a) is = absurd (false≢true is)
target_form (expr.Binary op place a b) is = absurd (false≢true is)
target_form (expr.Conditional c place a b) is = absurd (false≢true is)

assigned_types : (op : AssignOp) (x y : StaticType)
    → assigns op (value_type x) (value_type y) ≡ true → IsAssigned op x y
assigned_types assign.Set x y e = taken x y e
assigned_types (assign.Update op) x y e = numbers_only x y e

assigned_answer : (op : AssignOp) (a b : ValueType) (x y : StaticType) → a ≡ value_type x
    → b ≡ value_type y → assigns op a b ≡ true → IsAssigned op x y
assigned_answer op a b x y is same good = assigned_types op x y (rw (is, same) at good)

simple_is : (t : Tables) (s : List Scope) (d : SimpleTree) → IsReady t → AreKnown s
    → simple_broken t s d ≡ [] → IsSimple t s d
simple_is t s (stmt.Assign target op place e) ready known b =
    let b1 = none_left (value_broken t s target) _ b in
    let r1 = none_right (value_broken t s target) _ b in
    let b2 = none_left (value_broken t s e) _ r1 in
    let r2 = none_right (value_broken t s e) _ r1 in
    let l : (x : StaticType) × (type_of t s target ≡ value_type x)
    × HasType t s target x = value_is t s target ready known b1 in
    let r : (x : StaticType) × (type_of t s e ≡ value_type x)
    × HasType t s e x = value_is t s e ready known b2 in
    let good : assigns op (type_of t s target) (type_of t s e) ≡ true =
    holds (assigns op (type_of t s target) (type_of t s e)) place Mismatch
    (none_left (unless (assigns op (type_of t s target) (type_of t s e)) place Mismatch) _ r2) in
    let form : is_target target ≡ true =
    holds (is_target target) place NotAssignable (none_right (unless (assigns op
    (type_of t s target) (type_of t s e)) place Mismatch) _ r2) in (
      target_form target form,
      l.0,
      r.0,
      l.2,
      r.2,
      assigned_answer op
          (type_of t s target) (type_of t s e) l.0 r.0 l.1 r.1 good,
    )
simple_is t s (stmt.Step target op place) ready known b =
    let b1 = none_left (value_broken t s target) _ b in
    let r1 = none_right (value_broken t s target) _ b in
    let l : (x : StaticType) × (type_of t s target ≡ value_type x)
    × HasType t s target x = value_is t s target ready known b1 in
    let good : is_int (type_of t s target) ≡ true =
    holds (is_int (type_of t s target)) place Mismatch (none_left (unless (is_int
    (type_of t s target)) place Mismatch) _ r1) in
    let form : is_target target ≡ true =
    holds (is_target target) place NotAssignable (none_right (unless (is_int
    (type_of t s target)) place Mismatch) _ r1) in
    let number : IsNumber l.0 = number_only l.0 (rw l.1 at good) in
    (target_form target form, number.0, rw number.1 at l.2)
simple_is t s (stmt.Call name all) ready known b = call_is t s name all ready known b
simple_is t s (stmt.Free place e) ready known b =
    let b1 = none_left (value_broken t s e) _ b in
    let l : (x : StaticType) × (type_of t s e ≡ value_type x)
    × HasType t s e x = value_is t s e ready known b1 in
    let good : is_pointer (type_of t s e) ≡ true =
    holds (is_pointer (type_of t s e)) place Mismatch (none_right (value_broken t s e) _ b) in
    let p : (i : ℕ) × (l.0 ≡ PointerTo i) = pointer_only l.0 (rw l.1 at good) in
    (p.0, rw p.1 at l.2)
simple_is t s (stmt.Abort place) ready known b = tt

initial_is : (t : Tables) (s : List Scope) (ty : ValueType) (x : StaticType)
    (i : Option InitialTree) → IsReady t → AreKnown s → ty ≡ value_type x
    → option_map_or (initial_broken t s ty) i [] ≡ [] → IsInitial t s x i
initial_is t s ty x None ready known is b = tt
initial_is t s ty x (Some i) ready known is b =
    let v : (y : StaticType) × (type_of t s i.value ≡ value_type y)
    × HasType t s i.value y =
    value_is t s i.value ready known (none_left (value_broken t s i.value) _ b) in
    let good : type_takes ty (type_of t s i.value) ≡ true =
    holds (type_takes ty (type_of t s i.value)) i.place Mismatch (none_right
    (value_broken t s i.value) _ b) in
    (v.0, v.2, taken_answer ty (type_of t s i.value) x v.0 is v.1 good)

declaration_is : (t : Tables) (s : List Scope) (d : DeclarationTree) → IsReady t → AreKnown s
    → declaration_broken t s d ≡ [] → IsDeclared t s d
declaration_is t s d ready known b =
    let w = type_written t d.ty (none_left (type_broken t d.ty) _ b) in
    let rest = none_right (type_broken t d.ty) _ b in
    let first = none_left (option_map_or (initial_broken t s
    (declared_type t d.ty)) d.initial []) _ rest in
    let new = holds (not (is_declared d.name.text s)) d.name.place Twice (none_right
    (option_map_or (initial_broken t s (declared_type t d.ty)) d.initial []) _ rest) in (
      not-true _ new,
      w.0,
      w.1,
      initial_is t s (declared_type t d.ty) w.0 d.initial ready known
          (declared_is t d.ty w.0 w.1) first,
    )

-- the names after a declaration
declaration_known : (t : Tables) (s : List Scope) (d : DeclarationTree) → AreKnown s
    → declaration_broken t s d ≡ [] → AreKnown (scopes_after_declaration t d s)
declaration_known t s d known b =
    let w = type_written t d.ty (none_left (type_broken t d.ty) _ b) in
    known_declared d.name.text (declared_type t d.ty) w.0 s (declared_is t d.ty w.0 w.1) known

first_is : (t : Tables) (s : List Scope) (o : Option FirstTree) → IsReady t → AreKnown s
    → option_map_or (first_broken t s) o [] ≡ [] → IsFirst t s o
first_is t s None ready known b = tt
first_is t s (Some (stmt.Declare d)) ready known b = declaration_is t s d ready known b
first_is t s (Some (stmt.Simply x)) ready known b = simple_is t s x ready known b

first_known : (t : Tables) (s : List Scope) (o : Option FirstTree) → AreKnown s
    → option_map_or (first_broken t s) o [] ≡ []
    → AreKnown (option_map_or (λ f. scopes_after_first t f s) o s)
first_known t s None known b = known
first_known t s (Some (stmt.Declare d)) known b = declaration_known t s d known b
first_known t s (Some (stmt.Simply x)) known b = known

condition_is : (t : Tables) (s : List Scope) (o : Option ExprTree) → IsReady t → AreKnown s
    → option_map_or (value_broken t s) o [] ≡ [] → IsCondition t s o
condition_is t s None ready known b = tt
condition_is t s (Some e) ready known b = typed_is t s e ready known b

third_is : (t : Tables) (s : List Scope) (o : Option SimpleTree) → IsReady t → AreKnown s
    → option_map_or (simple_broken t s) o [] ≡ [] → IsThird t s o
third_is t s None ready known b = tt
third_is t s (Some x) ready known b = simple_is t s x ready known b

return_is : (t : Tables) (s : List Scope) (result : Option TypeTree) (place : ℕ)
    (value : Option ExprTree) → IsReady t → AreKnown s → IsResult t result
    → return_broken t (option_map (declared_type t) result) s place value ≡ []
    → IsReturned t s result value
return_is t s None place None ready known res b = tt
return_is t s None place (Some e) ready known res b =
    absurd (false≢true (holds false place Mismatch (none_right (value_broken t s e) _ b)))
return_is t s (Some ty) place None ready known res b =
    absurd (false≢true (holds false place Mismatch b))
return_is t s (Some ty) place (Some e) ready known res b =
    let v : (y : StaticType) × (type_of t s e ≡ value_type y)
    × HasType t s e y = value_is t s e ready known (none_left (value_broken t s e) _ b) in
    let good : type_takes (declared_type t ty) (type_of t s e) ≡ true =
    holds (type_takes (declared_type t ty) (type_of t s e)) place Mismatch (none_right
    (value_broken t s e) _ b) in (
      res.0,
      v.0,
      res.1,
      v.2,
      taken_answer (declared_type t ty)
          (type_of t s e) res.0 v.0 (declared_is t ty res.0 res.1) v.1 good,
    )

statement_known : (t : Tables) (result : Option TypeTree) (s : List Scope) (x : StmtTree)
    → AreKnown s → statement_broken t (option_map (declared_type t) result) s x ≡ []
    → AreKnown (scopes_after t x s)
statement_known t result s (stmt.Declares d) known b = declaration_known t s d known b
statement_known t result s stmt.Empty known b = known
statement_known t result s (stmt.Simple x) known b = known
statement_known t result s (stmt.Block all) known b = known
statement_known t result s (stmt.If c a) known b = known
statement_known t result s (stmt.IfElse c a e) known b = known
statement_known t result s (stmt.While place c a) known b = known
statement_known t result s (stmt.Do place a c) known b = known
statement_known t result s (stmt.For place first c third a) known b = known
statement_known t result s stmt.Break known b = known
statement_known t result s stmt.Continue known b = known
statement_known t result s (stmt.Return place value) known b = known

mutual
  pub statement_is : (t : Tables) (result : Option TypeTree) (s : List Scope) (x : StmtTree)
      → IsReady t → IsResult t result → AreKnown s
      → statement_broken t (option_map (declared_type t) result) s x ≡ [] → IsStatement t result s x
  statement_is t result s stmt.Empty ready res known b = tt
  statement_is t result s (stmt.Declares d) ready res known b = declaration_is t s d ready known b
  statement_is t result s (stmt.Simple x) ready res known b = simple_is t s x ready known b
  statement_is t result s (stmt.Block all) ready res known b =
      statements_are t result (inner_scopes s) all ready res (known_inside s known) b
  statement_is t result s (stmt.If c a) ready res known b = (
    typed_is t s c ready known (none_left (value_broken t s c) _ b),
    statement_is t result
        (inner_scopes s) a ready res (known_inside s known) (none_right (value_broken t s c) _ b),
  )
  statement_is t result s (stmt.IfElse c a e) ready res known b =
      let rest = none_right (value_broken t s c) _ b in
      let one = statement_broken t (option_map (declared_type t) result) (inner_scopes s) a in (
        typed_is t s c ready known (none_left (value_broken t s c) _ b),
        statement_is t result
            (inner_scopes s) a ready res (known_inside s known) (none_left one _ rest),
        statement_is t result (inner_scopes s) e ready res (known_inside s known)
            (none_right one _ rest),
      )
  statement_is t result s (stmt.While place c a) ready res known b = (
    typed_is t s c ready known (none_left (value_broken t s c) _ b),
    statement_is t result
        (inner_scopes s) a ready res (known_inside s known) (none_right (value_broken t s c) _ b),
  )
  statement_is t result s (stmt.Do place a c) ready res known b =
      let one = statement_broken t (option_map (declared_type t) result) (inner_scopes s) a in (
        statement_is t result (inner_scopes s) a ready res (known_inside s known)
            (none_left one _ b),
        typed_is t s c ready known (none_right one _ b),
      )
  statement_is t result s (stmt.For place first c third a) ready res known b =
      let s1 : List Scope = inner_scopes s in
      let inner : List Scope = option_map_or (λ f. scopes_after_first t f s1) first s1 in
      let k1 : AreKnown s1 = known_inside s known in
      let b1 = none_left (option_map_or (first_broken t s1) first []) _ b in
      let r1 = none_right (option_map_or (first_broken t s1) first []) _ b in
      let k2 : AreKnown inner = first_known t s1 first k1 b1 in
      let b2 = none_left (option_map_or (value_broken t inner) c []) _ r1 in
      let r2 = none_right (option_map_or (value_broken t inner) c []) _ r1 in
      let b3 = none_left (option_map_or (simple_broken t inner) third []) _ r2 in
      let b4 = none_right (option_map_or (simple_broken t inner) third []) _ r2 in (
        first_is t s1 first ready k1 b1,
        condition_is t inner c ready k2 b2,
        third_is t inner
            third ready k2 b3,
        statement_is t result inner a ready res k2 b4,
      )
  statement_is t result s stmt.Break ready res known b = tt
  statement_is t result s stmt.Continue ready res known b = tt
  statement_is t result s (stmt.Return place value) ready res known b =
      return_is t s result place value ready known res b

  pub statements_are : (t : Tables) (result : Option TypeTree) (s : List Scope)
      (all : Statements) → IsReady t → IsResult t result → AreKnown s
      → statements_broken t (option_map (declared_type t) result) s all ≡ []
      → AreStatements t result s all
  statements_are t result s stmt.Nothing ready res known b = tt
  statements_are t result s (stmt.Then x xs) ready res known b =
      let one = statement_broken t (option_map (declared_type t) result) s x in (
        statement_is t result s x ready res known (none_left one _ b),
        statements_are t result (scopes_after t x s) xs ready res
            (statement_known t result s x known
            (none_left one _ b)) (none_right one _ b),
      )
