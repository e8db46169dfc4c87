-- Scopes in which each name means the same give expressions the same types and broken rules.
use Rattle.std.proofs.Common.{◌≡◌, ℕ, ◌+◌, Bool, true, false, List, [], ◌∷◌, ◌++◌, refl, ap, ◌∙◌}
use Rattle.std.specs.Prelude.{is_some, Option, None, Some, unwrap_or}
use Rattle.std.specs.Option.{option_map_or}
use Rattle.c_tree.specs.ExprTree as expr
use Rattle.c_tree.specs.ExprTree.{ExprTree, Arguments, Ident}
use Rattle.c_tree.specs.StmtTree as stmt
use Rattle.c_tree.specs.StmtTree.{SimpleTree, FirstTree, InitialTree}
use Rattle.c_tree.specs.ItemTree.{FunctionTree, ParameterTree}
use Rattle.c_types.specs.declared.value_type.ValueType.{ValueType}
use Rattle.c_types.specs.declared.value_type.ValueType.TheVariants.{Any}
use Rattle.c_types.specs.declared.value_type.Kind.{Kind}
use Rattle.c_types.specs.declared.value_type.Kind.TheVariants.{Value}
use Rattle.c_types.specs.declared.broken.Broken.{Broken}
use Rattle.c_types.specs.declared.broken.Rule.TheVariants.{UnknownName}
use Rattle.c_types.specs.Broken.{unless}
use Rattle.c_types.specs.Tables.{Tables, function_named}
use Rattle.c_types.specs.Expressions.{Scope, type_in, variable_type, or_else, type_of_kind}
use Rattle.c_types.specs.Expressions.{value_broken, kind_of, all_taken, broken_in, broken_in_all}
use Rattle.c_types.specs.Expressions.{call_type, call_broken, parameters_of, argument_count}
use Rattle.c_types.specs.Expressions.{arrow_kind}
use Rattle.c_types.specs.Statements.{scope_declared, simple_broken, initial_broken}

-- each name means the same
abbrev pub IsSame : List Scope → List Scope → Type 0
IsSame s u = (name : List ℕ) → variable_type name s ≡ variable_type name u

-- the innermost scopes are the same, and in the scopes around them each name means the same
abbrev pub Alike : List Scope → List Scope → Type 0
Alike [] u = ⊥
Alike (x ∷ s) [] = ⊥
Alike (x ∷ s) (y ∷ u) = (x ≡ y) × IsSame s u

pub alike_same : (s u : List Scope) → Alike s u → IsSame s u
alike_same [] u h = absurd h
alike_same (x ∷ s) [] h = absurd h
alike_same (x ∷ s) (y ∷ u) h =
    λ name. ap (λ (z : Scope). or_else (type_in name z) (variable_type name s)) h.0
    ∙ ap (or_else (type_in name y)) (h.1 name)

pub alike_declared : (name : List ℕ) (ty : ValueType) (s u : List Scope) → Alike s u
    → Alike (scope_declared name ty s) (scope_declared name ty u)
alike_declared name ty [] u h = absurd h
alike_declared name ty (x ∷ s) [] h = absurd h
alike_declared name ty (x ∷ s) (y ∷ u) h = (
  ap (λ (z : Scope). record { names = z.names ++ name ∷ []; types = z.types ++ ty ∷ [] }) h.0,
  h.1,
)

mutual
  pub kind_same : (t : Tables) (s u : List Scope) → IsSame s u → (e : ExprTree)
      → kind_of t s e ≡ kind_of t u e
  kind_same t s u h (expr.Number n) = refl
  kind_same t s u h expr.Null = refl
  kind_same t s u h (expr.Variable name) =
      ap (λ (o : Option ValueType). Value (unwrap_or o Any)) (h name.text)
  kind_same t s u h (expr.Call name all) =
      let f : Option FunctionTree = function_named t name.text in
      ap (λ (b : Bool). Value (call_type t true f (argument_count all) b))
      (taken_same t s u h (parameters_of f) 0 all)
  kind_same t s u h (expr.Root name) = refl
  kind_same t s u h (expr.New place name) = refl
  kind_same t s u h (expr.Arrow base place name) =
      ap (λ (k : Kind). arrow_kind t (type_of_kind k) name) (kind_same t s u h base)
  kind_same t s u h (expr.Index base place index) =
      rw (kind_same t s u h base, kind_same t s u h index) refl
  kind_same t s u h (expr.Unary op place a) = rw (kind_same t s u h a) refl
  kind_same t s u h (expr.Binary op place a b) = rw (kind_same t s u h a, kind_same t s u h b) refl
  kind_same t s u h (expr.Conditional c place a b) =
      rw (kind_same t s u h c, kind_same t s u h a, kind_same t s u h b) refl

  pub taken_same : (t : Tables) (s u : List Scope) → IsSame s u
      → (ps : List ParameterTree) (i : ℕ) (es : Arguments)
      → all_taken t s ps i es ≡ all_taken t u ps i es
  taken_same t s u h ps i expr.None = refl
  taken_same t s u h ps i (expr.More first value rest) =
      rw (kind_same t s u h value, taken_same t s u h ps (i + 1) rest) refl

mutual
  pub broken_same : (t : Tables) (s u : List Scope) → IsSame s u → (e : ExprTree)
      → broken_in t s e ≡ broken_in t u e
  broken_same t s u h (expr.Number n) = refl
  broken_same t s u h expr.Null = refl
  broken_same t s u h (expr.Variable name) =
      ap (λ (o : Option ValueType). unless (is_some o) name.place UnknownName) (h name.text)
  broken_same t s u h (expr.Call name all) =
      let f : Option FunctionTree = function_named t name.text in
      ap (λ (bs : List Broken). call_broken true f (argument_count all) name.place ++ bs)
      (broken_all_same t s u h (parameters_of f) 0 all)
  broken_same t s u h (expr.Root name) = refl
  broken_same t s u h (expr.New place name) = refl
  broken_same t s u h (expr.Arrow base place name) =
      rw (broken_same t s u h base, kind_same t s u h base) refl
  broken_same t s u h (expr.Index base place index) =
      rw (
        broken_same t s u h base,
        kind_same t s u h base,
        broken_same t s u h index,
        kind_same t s u h index,
      ) refl
  broken_same t s u h (expr.Unary op place a) = rw (broken_same t s u h a, kind_same t s u h a) refl
  broken_same t s u h (expr.Binary op place a b) =
      rw (
        broken_same t s u h a,
        kind_same t s u h a,
        broken_same t s u h b,
        kind_same t s u h b,
      ) refl
  broken_same t s u h (expr.Conditional c place a b) =
      rw (
        broken_same t s u h c,
        kind_same t s u h c,
        broken_same t s u h a,
        kind_same t s u h a,
        broken_same t s u h b,
        kind_same t s u h b,
      ) refl

  pub broken_all_same : (t : Tables) (s u : List Scope) → IsSame s u
      → (ps : List ParameterTree) (i : ℕ) (es : Arguments)
      → broken_in_all t s ps i es ≡ broken_in_all t u ps i es
  broken_all_same t s u h ps i expr.None = refl
  broken_all_same t s u h ps i (expr.More first value rest) =
      rw (
        broken_same t s u h value,
        kind_same t s u h value,
        broken_all_same t s u h ps (i + 1) rest,
      )
      refl

pub value_same : (t : Tables) (s u : List Scope) → IsSame s u → (e : ExprTree)
    → value_broken t s e ≡ value_broken t u e
value_same t s u h e = rw (broken_same t s u h e, kind_same t s u h e) refl

pub or_same : (t : Tables) (s u : List Scope) → IsSame s u → (e : Option ExprTree)
    → option_map_or (value_broken t s) e [] ≡ option_map_or (value_broken t u) e []
or_same t s u h None = refl
or_same t s u h (Some e) = value_same t s u h e

pub initial_same : (t : Tables) (s u : List Scope) (ty : ValueType) → IsSame s u
    → (i : Option InitialTree) → option_map_or (initial_broken t s ty) i []
    ≡ option_map_or (initial_broken t u ty) i []
initial_same t s u ty h None = refl
initial_same t s u ty h (Some i) = rw (value_same t s u h i.value, kind_same t s u h i.value) refl

pub simple_same : (t : Tables) (s u : List Scope) → IsSame s u → (x : SimpleTree)
    → simple_broken t s x ≡ simple_broken t u x
simple_same t s u h (stmt.Assign target op place value) =
    rw (
      value_same t s u h target,
      kind_same t s u h target,
      value_same t s u h value,
      kind_same t s u h value,
    ) refl
simple_same t s u h (stmt.Step target op place) =
    rw (value_same t s u h target, kind_same t s u h target) refl
simple_same t s u h (stmt.Call name all) =
    ap (λ (bs : List Broken). call_broken false (function_named t name.text) (argument_count all)
    name.place ++ bs) (broken_all_same t s u h (parameters_of (function_named t name.text)) 0 all)
simple_same t s u h (stmt.Free place pointer) =
    rw (value_same t s u h pointer, kind_same t s u h pointer) refl
simple_same t s u h (stmt.Abort place) = refl

pub third_same : (t : Tables) (s u : List Scope) → IsSame s u → (x : Option SimpleTree)
    → option_map_or (simple_broken t s) x [] ≡ option_map_or (simple_broken t u) x []
third_same t s u h None = refl
third_same t s u h (Some x) = simple_same t s u h x
