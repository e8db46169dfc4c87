-- The code of a tree that breaks no rule is well formed.
use Rattle.std.proofs.Common.{◌≡◌, ℕ, suc, ◌+◌, ◌≤◌, ◌<◌, ◌^◌, List, [], ◌∷◌, ◌++◌, length, map}
use Rattle.std.proofs.Common.{refl, sym, ap, subst, ◌∙◌, arith}
use Rattle.std.specs.Prelude.{Some, slice_get, option_map}
use Rattle.std.specs.List.{AllByRecursion}
use Rattle.std.proofs.lemmas.List.{length-map}
use Rattle.std.proofs.lemmas.Option.{slice_get-map}
use Rattle.nvm_base.proofs.Lists.{all_append}
use Rattle.c_tree.specs.ItemTree.{FunctionTree, ParameterTree}
use Rattle.c_tree.specs.Program.{Program, tree_of}
use Rattle.c_types.specs.Tables.{Tables, tables_of, declared_type}
use Rattle.c_types.specs.Expressions.{Scope}
use Rattle.c_types.specs.Statements as types
use Rattle.c_types.specs.Statements.{statements_broken}
use Rattle.c_types.specs.Declarations as declarations
use Rattle.c_types.specs.Declarations.{type_given, parameters_broken, function_broken, body_broken}
use Rattle.c_types.specs.Declarations.{whole_function_broken, functions_broken}
use Rattle.c_types.specs.Fault.{breaks}
use Rattle.c_types.specs.Shapes.{shapes_in}
use Rattle.c_types.proofs.Unbroken.{none_left, none_right}
use Rattle.ir.specs.declared.instruction.Instruction.{Instruction}
use Rattle.ir.specs.declared.instruction.Instruction.TheVariants.{Return}
use Rattle.ir.specs.declared.function.IrFunction.{IrFunction}
use Rattle.ir.specs.declared.function.Ir.{Ir}
use Rattle.ir.specs.WellFormed.{IsInstruction, EndsWell, IsFunction, IsWellFormed}
use Rattle.lower.specs.Names.{Variables}
use Rattle.lower.specs.Lowers.{Context, statements_end, statements_code}
use Rattle.lower.specs.Program.{parameters_end, parameters_code, variables_after_parameters}
use Rattle.lower.specs.Program.{no_variables, function_code, context_at, lowered_function, lowered}
use Rattle.lower.specs.inside.Program.{function_end, IsCounted}
use Rattle.lower.proofs.Ends.{statements_end_le}
use Rattle.lower.proofs.Sane.{IsSane, sane, broken_functions}
use Rattle.lower.proofs.Alike.{Alike, alike_declared}
use Rattle.lower.proofs.ExprSound.{IsPlaced}
use Rattle.lower.proofs.StmtSound.{statements_sound, parameters_sound}

ends_return : (xs : List Instruction) (from : ℕ) → EndsWell (xs ++ Return from ∷ [])
ends_return [] from = tt
ends_return (i ∷ []) from = tt
ends_return (i ∷ j ∷ is) from = ends_return (j ∷ is) from

ends_closing : (xs ys : List Instruction) (i : Instruction) (from : ℕ)
    → EndsWell (xs ++ (ys ++ i ∷ Return from ∷ []))
ends_closing xs ys i from = subst EndsWell (joined xs ys i from)
    (ends_return (xs ++ (ys ++ i ∷ [])) from)
  where
    inner : (ys : List Instruction) (i : Instruction) (from : ℕ)
        → (ys ++ i ∷ []) ++ Return from ∷ [] ≡ ys ++ i ∷ Return from ∷ []
    inner [] i from = refl
    inner (y ∷ ys) i from = ap (λ l. y ∷ l) (inner ys i from)

    joined : (xs ys : List Instruction) (i : Instruction) (from : ℕ)
        → (xs ++ (ys ++ i ∷ [])) ++ Return from ∷ [] ≡ xs ++ (ys ++ i ∷ Return from ∷ [])
    joined [] ys i from = inner ys i from
    joined (x ∷ xs) ys i from = ap (λ l. x ∷ l) (joined xs ys i from)

alike_parameters : (t : Tables) (s : List Scope) (ps : List ParameterTree) → Alike s s
    → Alike (declarations.scopes_after_parameters t s ps)
    (declarations.scopes_after_parameters t s ps)
alike_parameters t s [] h = h
alike_parameters t s (x ∷ xs) h =
    alike_parameters t (types.scope_declared x.name.text (declared_type t x.ty) s) xs
    (alike_declared x.name.text (declared_type t x.ty) s s h)

function_sound : (k : Context) (ir : Ir) (r : ℕ) (f : FunctionTree)
    → IsPlaced k ir r (function_end f) → body_broken k.tables f ≡ [] → length f.parameters ≤ r
    → AllByRecursion (IsInstruction ir r (function_end f)) (function_code k f)
function_sound k ir r f h b le =
    let t : Tables = k.tables in
    let n : ℕ = function_end f in
    let p : ℕ = parameters_end f.body f.parameters 0 in
    let q : ℕ = statements_end f.body p in
    let start : List Scope = types.inner_scopes [] in
    let v : Variables = variables_after_parameters k f.body 0 f.parameters 0 no_variables in
    let le1 : p ≤ q = statements_end_le f.body p in
    let b1 : parameters_broken t start 0 f.parameters ≡ [] =
    none_left (parameters_broken t start 0 f.parameters) _ b in
    let s1 = parameters_sound k ir r n f.body 0 0 f.parameters 0 no_variables h (tt, tt) b1
    (omega (arith, le)) (omega (arith, le1)) in
    let afterwards : List Scope = declarations.scopes_after_parameters t start f.parameters in
    let alike : Alike afterwards v.scopes =
    subst (λ (x : List Scope). Alike afterwards x) s1.2
    (alike_parameters t start f.parameters (refl, λ name. refl)) in
    let s2 = statements_sound k ir r n (type_given t f.result_type) afterwards v f.body q q p h s1.1
    alike (none_right (parameters_broken t start 0 f.parameters) _ b) (omega arith) (omega arith)
    (omega arith) in
    let close : k.node (suc q) < r = h.below (suc q) (omega arith) in
    all_append (IsInstruction ir r n) (parameters_code k f.body 0 f.parameters 0) _ s1.0
    (all_append (IsInstruction ir r n) (statements_code k v f.body q q p) _ s2 (close, (close, tt)))

-- the functions of a program, some of which are these
functions_sound : (ir : Ir) (t : Tables) (tree : Program) (i : ℕ) (fs : List FunctionTree)
    → IsSane t → ir.shapes ≡ shapes_in t
    → ((i : ℕ) (f : FunctionTree) → slice_get t.functions i ≡ Some f → (u : IrFunction)
    × (slice_get ir.functions i ≡ Some u) × (u.parameters ≡ length f.parameters))
    → functions_broken t i fs ≡ [] → AllByRecursion (IsCounted t tree) fs
    → AllByRecursion (IsFunction ir) (map (lowered_function t tree) fs)
functions_sound ir t tree i [] h is there b counted = tt
functions_sound ir t tree i (f ∷ fs) h is there b counted =
    let m : ℕ = length f.parameters in
    let k : Context = context_at t tree m in
    let code : List Instruction = function_code k f in
    let r : ℕ = m + length code in
    let long : length code ≡ function_end f = counted.0.0 in
    let few : function_end f ≤ 2 ^ 29 = counted.0.1 in
    let placed : IsPlaced k ir r (function_end f) =
    record {
      sane = h;
      shapes = is;
      functions = there;
      below = λ q lt.
          omega (arith, lt, long);
    } in
    let body : body_broken t f ≡ [] =
    none_right (function_broken t i f) (body_broken t f)
    (none_left (whole_function_broken t i f) (functions_broken t (i + 1) fs) b) in
    let all : AllByRecursion (IsInstruction ir r (function_end f)) code =
    function_sound k ir r f placed body (omega arith) in
    let here : AllByRecursion (IsInstruction ir r (length code)) code =
    subst (λ (n : ℕ). AllByRecursion (IsInstruction ir r n) code) (sym long) all in
    let ends : EndsWell code = ends_closing (parameters_code k f.body 0 f.parameters 0) _ _ _ in (
      (omega arith, omega (arith, long, few), ends, here),
      functions_sound ir t tree (i + 1) fs h is there
          (none_right (whole_function_broken t i f) (functions_broken t (i + 1) fs) b) counted.1,
    )

pub well_formed : (tree : Program) → breaks tree ≡ []
    → AllByRecursion (IsCounted (tables_of (tree_of tree)) tree)
    (tables_of (tree_of tree)).functions
    → IsWellFormed (lowered tree)
well_formed tree b counted =
    let t : Tables = tables_of (tree_of tree) in
    let h : IsSane t = sane tree b in
    let few : length t.functions ≤ 1024 = h.functions in
    let there : (i : ℕ) (f : FunctionTree) → slice_get t.functions i ≡ Some f → (u : IrFunction)
    × (slice_get (lowered tree).functions i ≡ Some u) × (u.parameters ≡ length f.parameters) =
    λ i f is. (
      lowered_function t tree f,
      slice_get-map (lowered_function t tree) t.functions i
          ∙ ap (option_map (lowered_function t tree)) is,
      refl,
    ) in
    let long : length (map (lowered_function t tree) t.functions) ≡ length t.functions =
    length-map t.functions (lowered_function t tree) in (
      omega (arith, few, long),
      functions_sound (lowered tree) t tree 0 t.functions h refl there
          (broken_functions tree b) counted,
    )
