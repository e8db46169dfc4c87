-- A tree that breaks no rule has few parameters.
use Rattle.std.proofs.Common.{◌≡◌, ℕ, ◌+◌, ◌≤◌, true, false, List, [], ◌∷◌, ◌++◌, length}
use Rattle.std.proofs.Common.{arith, ⊎_elim, ◌≢◌}
use Rattle.std.specs.Prelude.{nat_eq, not, is_some, slice_get}
use Rattle.std.specs.List.{AllByRecursion}
use Rattle.std.proofs.lemmas.Bool.Decides.{eqb_tells}
use Rattle.std.proofs.lemmas.Bool.{false≢true}
use Rattle.c_tree.specs.ItemTree.{FunctionTree, ParameterTree}
use Rattle.c_tree.specs.Program.{Program, tree_of}
use Rattle.c_types.specs.declared.broken.Rule.TheVariants.{Twice, TooBig, NoRoot}
use Rattle.c_types.specs.declared.fault.LimitKind.TheVariants as limit
use Rattle.c_types.specs.Broken.{unless}
use Rattle.c_types.specs.Tables.{Tables, tables_of}
use Rattle.c_types.specs.Expressions.{Scope}
use Rattle.c_types.specs.Statements.{inner_scopes, type_broken, is_declared}
use Rattle.c_types.specs.Fault.{breaks}
use Rattle.c_types.specs.Declarations.{structs_broken, roots_broken, function_broken, body_broken}
use Rattle.c_types.specs.Declarations.{parameter_broken, parameters_broken, functions_broken}
use Rattle.c_types.specs.Declarations.{scopes_after_parameter}
use Rattle.c_types.proofs.Unbroken.{none_left, none_right, holds}
use Rattle.lower.specs.inside.Program.{TakesFew}

pub not_at : (n i : ℕ) → i ≤ n → not (nat_eq i n) ≡ true → i + 1 ≤ n
not_at n i le e =
    ⊎_elim
    (λ (d : (nat_eq i n ≡ true) × (i ≡ n)). absurd (false≢true (rw d.0 at e)))
    (λ (d : (nat_eq i n ≡ false) × (i ≢ n)). omega (arith, d.1, le))
    (eqb_tells i n)

pub few_parameters : (t : Tables) (s : List Scope) (i : ℕ) (ps : List ParameterTree) → i ≤ 22
    → parameters_broken t s i ps ≡ [] → i + length ps ≤ 22
few_parameters t s i [] le e = omega (arith, le)
few_parameters t s i (p ∷ ps) le e =
    let here : parameter_broken t s i p ≡ [] =
    none_left (parameter_broken t s i p)
    (parameters_broken t (scopes_after_parameter t s p) (i + 1) ps) e in
    let rest : parameters_broken t (scopes_after_parameter t s p) (i + 1) ps ≡ [] =
    none_right (parameter_broken t s i p)
    (parameters_broken t (scopes_after_parameter t s p) (i + 1) ps) e in
    let room : i + 1 ≤ 22 = not_at 22 i le
    (holds (not (nat_eq i 22)) p.name.place (TooBig limit.Parameters 23)
    (none_left (unless (not (nat_eq i 22)) p.name.place (TooBig limit.Parameters 23))
    (unless (not (is_declared p.name.text s)) p.name.place Twice)
    (none_right (type_broken t p.ty) _ here))) in
    let less : (i + 1) + length ps ≤ 22 =
    few_parameters t (scopes_after_parameter t s p) (i + 1) ps room rest in
    omega (arith, less)

few_from : (t : Tables) (i : ℕ) (fs : List FunctionTree) → functions_broken t i fs ≡ []
    → AllByRecursion TakesFew fs
few_from t i [] e = tt
few_from t i (f ∷ fs) e =
    let here : function_broken t i f ++ body_broken t f ≡ [] =
    none_left (function_broken t i f ++ body_broken t f) (functions_broken t (i + 1) fs) e in
    let body : body_broken t f ≡ [] = none_right (function_broken t i f) (body_broken t f) here in
    let few : 0 + length f.parameters ≤ 22 =
    few_parameters t (inner_scopes []) 0 f.parameters (omega arith)
    (none_left (parameters_broken t (inner_scopes []) 0 f.parameters) _ body) in (
      omega (arith, few),
      few_from t (i + 1) fs (none_right (function_broken t i f ++ body_broken t f)
          (functions_broken t (i + 1) fs) e),
    )

pub few_functions : (tree : Program) → breaks tree ≡ []
    → AllByRecursion TakesFew (tables_of (tree_of tree)).functions
few_functions tree e =
    let t : Tables = tables_of (tree_of tree) in
    few_from t 0 t.functions (none_left (functions_broken t 0 t.functions) _
    (none_right (unless (is_some (slice_get t.roots 0)) (length tree.lines) NoRoot) _
    (none_right (roots_broken t 0 t.roots) _ (none_right (structs_broken t 0 t.structs) _ e))))
