-- The code of expressions that break no rule names only what exists.
use Rattle.std.proofs.Common.{◌≡◌, ℕ, suc, ◌+◌, ◌≤◌, ◌<◌, Bool, true, List, [], ◌++◌}
use Rattle.std.proofs.Common.{length, map, refl, sym, ap, subst, ◌∙◌, arith, rules}
use Rattle.std.specs.Prelude.{nat_eq, ◌&&◌, ◌||◌, not, if◌then◌else◌, is_some, slice_get, Option}
use Rattle.std.specs.Prelude.{None, Some, option_map, option_and_then}
use Rattle.std.specs.Option.{option_map_or}
use Rattle.std.specs.Int.{w64, cast_unsigned}
use Rattle.std.specs.List.{AllByRecursion}
use Rattle.std.proofs.lemmas.Option.{slice_get-map, slice_get_within}
use Rattle.std.proofs.lemmas.Bool.{false≢true, and_parts}
use Rattle.nvm_base.proofs.Lists.{all_append}
use Rattle.c_tree.specs.declared.expr.IntType.{IntType}
use Rattle.c_tree.specs.declared.expr.UnaryOp.TheVariants as unary
use Rattle.c_tree.specs.ExprTree as expr
use Rattle.c_tree.specs.ExprTree.{ExprTree, Arguments, Ident}
use Rattle.c_tree.specs.ItemTree.{FunctionTree, ParameterTree, FieldTree, LengthTree}
use Rattle.pool_map.specs.declared.shapes.FieldShape.{FieldShape}
use Rattle.pool_map.specs.declared.shapes.StructShape.{StructShape}
use Rattle.pool_map.specs.declared.shapes.Shapes.{Shapes}
use Rattle.c_types.specs.declared.value_type.ValueType.{ValueType}
use Rattle.c_types.specs.declared.value_type.ValueType.TheVariants.{Int, Pointer, Null, Any}
use Rattle.c_types.specs.declared.value_type.Kind.{Kind}
use Rattle.c_types.specs.declared.value_type.Kind.TheVariants.{Value, Array}
use Rattle.c_types.specs.declared.broken.Broken.{Broken}
use Rattle.c_types.specs.declared.broken.Rule.TheVariants.{UnknownName, Twice, Mismatch}
use Rattle.c_types.specs.Broken.{broken_at, unless}
use Rattle.c_types.specs.Fits.{is_any, is_int, type_takes}
use Rattle.c_types.specs.Tables.{Tables, StructTree, index_of, function_names, function_named}
use Rattle.c_types.specs.Tables.{is_length, declared_type, field_names, is_first}
use Rattle.c_types.specs.Statements.{type_broken}
use Rattle.c_types.specs.Shapes.{field_shape, is_unsigned, root_fields, shapes_in}
use Rattle.c_types.specs.Declarations.{length_broken, field_broken}
use Rattle.c_types.specs.Expressions.{Scope, variable_type, with_unindexed, value_broken}
use Rattle.c_types.specs.Expressions.{field_kind, member, member_kind, member_broken, root_kind}
use Rattle.c_types.specs.Expressions.{root_broken, arrow_kind, arrow_broken, is_indexed}
use Rattle.c_types.specs.Expressions.{call_broken, parameters_of, parameter_type, argument_count}
use Rattle.c_types.specs.Expressions.{kind_of, type_of, sides_type, broken_in, broken_in_all}
use Rattle.c_types.proofs.Unbroken.{none_left, none_right, holds}
use Rattle.ir.specs.declared.instruction.Target.{Target}
use Rattle.ir.specs.declared.instruction.Target.TheVariants.{Root, Field}
use Rattle.ir.specs.declared.instruction.Instruction.{Instruction}
use Rattle.ir.specs.declared.function.IrFunction.{IrFunction}
use Rattle.ir.specs.declared.function.Ir.{Ir}
use Rattle.ir.specs.WellFormed.{IsIndexed, IsTarget, IsKind, TakesArgs, IsInstruction, shape_field}
use Rattle.lower.specs.declared.form.Form.{Form}
use Rattle.lower.specs.declared.form.Form.TheVariants.{Both, Either, Direct, Exchanged}
use Rattle.lower.specs.Forms.{form_of, typed_form}
use Rattle.lower.specs.Names.{Variables, variable_register, found_number, function_number}
use Rattle.lower.specs.Names.{kind_named, struct_kind_at, field_number, root_target, field_target}
use Rattle.lower.specs.Names.{element_target}
use Rattle.lower.specs.Lowers.{Context, exp_end, exp_code, reg_of, target_end, target_code}
use Rattle.lower.specs.Lowers.{target_of, arguments_end, arguments_code, registers_of, form_end}
use Rattle.lower.specs.Lowers.{form_code, truth_code}
use Rattle.lower.proofs.Ends.{exp_end_le, arguments_end_le, form_end_le, form_end_typed}
use Rattle.lower.proofs.Sane.{IsSane, IsFieldOf, IsKindOf, kind_of_struct}
use Rattle.lower.proofs.GoodTypes.{IsGood, IsGoodKind, Agree, found, found_register, pointer_good}
use Rattle.lower.proofs.GoodTypes.{member_there, good_any, declared_good, value_good, indexed_array}
use Rattle.lower.proofs.GoodTypes.{callee, callee_arity, function_there, kind_good}

-- a function with r registers and n instructions, in a program of these tables
pub record IsPlaced (k : Context) (ir : Ir) (r n : ℕ) : Type 0 where
  pub sane : IsSane k.tables
  pub shapes : ir.shapes ≡ shapes_in k.tables
  pub functions : (i : ℕ) (f : FunctionTree) → slice_get k.tables.functions i ≡ Some f
      → (u : IrFunction) × (slice_get ir.functions i ≡ Some u)
      × (u.parameters ≡ length f.parameters)
  pub below : (q : ℕ) → q < n → k.node q < r

-- the target of what is denoted; a whole array still needs an index
abbrev pub TargetFits : Shapes → ℕ → Kind → Target → Type 0
TargetFits shapes r (Value ty) target = IsTarget shapes r target
TargetFits shapes r (Array el place) target = (q : ℕ) → q < r
    → IsTarget shapes r (element_target target q)

abbrev FieldFits : ℕ → Kind → Option FieldShape → Type 0
FieldFits r (Value ty) f = IsIndexed r f None
FieldFits r (Array el place) f = (q : ℕ) → q < r → IsIndexed r f (Some q)

fits_field : (shapes : Shapes) (r : ℕ) (k : Kind) (f : Option FieldShape) (base kind field : ℕ)
    → base < r → shape_field shapes kind field ≡ f → FieldFits r k f
    → TargetFits shapes r k (Field base kind field None)
fits_field shapes r (Value ty) f base kind field lt is h = (lt, rw is h)
fits_field shapes r (Array el place) f base kind field lt is h = λ q less. (lt, rw is (h q less))

fits_root : (shapes : Shapes) (r : ℕ) (k : Kind) (f : Option FieldShape) (field : ℕ)
    → slice_get shapes.root field ≡ f → FieldFits r k f → TargetFits shapes r k (Root field None)
fits_root shapes r (Value ty) f field is h = rw is h
fits_root shapes r (Array el place) f field is h = λ q less. rw is (h q less)

field_fits : (t : Tables) (r place i : ℕ) (names : List (List ℕ)) (f : FieldTree)
    → field_broken t names i f ≡ [] → FieldFits r (field_kind t place f) (Some (field_shape f))
field_fits t r place i names f e = by_length f.len (declared_type t f.ty)
    (declared_good t f.ty (none_left (type_broken t f.ty) _ e))
    (none_right (unless (is_first (index_of f.name.text names) i) f.name.place Twice)
    (option_map_or length_broken f.len []) (none_right (type_broken t f.ty) _ e))
  where
    by_length : (l : Option LengthTree) (ty : ValueType) → IsGood t ty
        → option_map_or length_broken l [] ≡ []
        → FieldFits r (option_map_or (λ l. if is_any ty || not (is_length l.value) then Value Any
        else Array ty place) l (Value ty))
        (Some (record {
          name = f.name.text;
          unsigned = is_unsigned f.ty;
          length = option_map (λ l. cast_unsigned w64 l.value) l;
        }))
    by_length None ty g e = refl
    by_length (Some l) ty g e = rw (good_any t ty g, holds (is_length l.value) l.place _ e)
        (λ q lt. (cast_unsigned w64 l.value, refl, lt))

member_fits : (t : Tables) (r i : ℕ) (s : StructTree) (name : Ident) → IsSane t
    → slice_get t.structs i ≡ Some s → member_broken t i name ≡ []
    → FieldFits r (member_kind t i name)
    (slice_get (map field_shape s.fields) (field_number t name.text (Some i)))
member_fits t r i s name h is e =
    let there : (f : FieldTree) × (member t i name ≡ Some f) × IsFieldOf t i s name.text f =
    member_there t i s name h is e in
    let get : slice_get (map field_shape s.fields) (field_number t name.text (Some i))
    ≡ Some (field_shape there.0) =
    ap (slice_get (map field_shape s.fields)) there.2.number ∙ slice_get-map field_shape s.fields
    there.2.place ∙ ap (option_map field_shape) there.2.found in
    rw (there.1, get) (field_fits t r name.place (0 + there.2.place) (field_names s) there.0
    there.2.holds)

arrow_fits : (t : Tables) (r : ℕ) (ty : ValueType) (base place : ℕ) (name : Ident) → IsSane t
    → base < r → IsGood t ty → arrow_broken t ty place name ≡ []
    → TargetFits (shapes_in t) r (arrow_kind t ty name) (field_target t ty base name.text)
arrow_fits t r (Pointer i) base place name h lt g e =
    let kind : IsKindOf t i g.0 = kind_of_struct t i g.0 h.structs g.1 g.2 in
    fits_field (shapes_in t) r (member_kind t i name)
    (slice_get (map field_shape g.0.fields) (field_number t name.text (Some i))) base
    (struct_kind_at t (Some i)) (field_number t name.text (Some i)) lt
    (ap (option_and_then (λ (s : StructShape).
    slice_get s.fields (field_number t name.text (Some i)))) kind.shape)
    (member_fits t r i g.0 name h g.1 e)
arrow_fits t r (Int n) base place name h lt g e = absurd (some_none e)
  where
    some_none : broken_at place Mismatch ≡ [] → ⊥
    some_none e = cc
arrow_fits t r Null base place name h lt g e = absurd (some_none e)
  where
    some_none : broken_at place Mismatch ≡ [] → ⊥
    some_none e = cc
arrow_fits t r Any base place name h lt g e = absurd g

root_fits : (t : Tables) (r : ℕ) (name : Ident) → IsSane t → root_broken t name ≡ []
    → TargetFits (shapes_in t) r (root_kind t name) (root_target t name.text)
root_fits t r name h e =
    let i : ℕ = h.root.0 in
    let s : StructTree = h.root.1 in
    let fields : root_fields t ≡ s.fields = rw (h.root.2, h.root.3) refl in
    let e2 : member_broken t i name ≡ [] = rw h.root.2 at e in
    let fits : FieldFits r (member_kind t i name)
    (slice_get (map field_shape s.fields) (field_number t name.text (Some i))) =
    member_fits t r i s name h h.root.3 e2 in
    let kind : member_kind t i name ≡ root_kind t name =
    sym (ap (λ o. option_map_or (λ i. member_kind t i name) o (Value Any)) h.root.2) in
    let target : Root (field_number t name.text (Some i)) None ≡ root_target t name.text =
    sym (ap (λ o. Root (field_number t name.text o) None) h.root.2) in
    subst (λ (x : Kind). TargetFits (shapes_in t) r x (root_target t name.text)) kind
    (subst (λ (x : Target). TargetFits (shapes_in t) r (member_kind t i name) x) target
    (fits_root (shapes_in t) r (member_kind t i name)
    (slice_get (map field_shape s.fields) (field_number t name.text (Some i)))
    (field_number t name.text (Some i))
    (ap (λ fs. slice_get (map field_shape fs) (field_number t name.text (Some i))) fields) fits))

-- what is used as a value is no whole array
pub value_fits : (shapes : Shapes) (r : ℕ) (broken : List Broken) (k : Kind) (target : Target)
    → with_unindexed broken k ≡ [] → TargetFits shapes r k target → IsTarget shapes r target
value_fits shapes r broken (Value ty) target e h = h
value_fits shapes r broken (Array el place) target e h =
    absurd (some_none (none_right broken (broken_at place Mismatch) e))
  where
    some_none : broken_at place Mismatch ≡ [] → ⊥
    some_none e = cc

index_fits : (shapes : Shapes) (r : ℕ) (t : Tables) (k : Kind) (target : Target) (q : ℕ)
    → IsGoodKind t k → is_indexed k ≡ true → TargetFits shapes r k target → q < r
    → IsTarget shapes r (element_target target q)
index_fits shapes r t (Array el place) target q g e h lt = h q lt
index_fits shapes r t (Value Any) target q g e h lt = absurd g
index_fits shapes r t (Value (Int n)) target q g e h lt = absurd (false≢true e)
index_fits shapes r t (Value Null) target q g e h lt = absurd (false≢true e)
index_fits shapes r t (Value (Pointer i)) target q g e h lt = absurd (false≢true e)

-- a field of the root or of an object, or an element
abbrev pub IsPlace : ExprTree → Type 0
IsPlace (expr.Root name) = Unit {0}
IsPlace (expr.Arrow base place name) = Unit {0}
IsPlace (expr.Index base place index) = Unit {0}
IsPlace (expr.Number n) = ⊥
IsPlace expr.Null = ⊥
IsPlace (expr.Variable name) = ⊥
IsPlace (expr.Call name all) = ⊥
IsPlace (expr.New place name) = ⊥
IsPlace (expr.Unary op place a) = ⊥
IsPlace (expr.Binary op place a b) = ⊥
IsPlace (expr.Conditional c place a b) = ⊥

pub value_array : (ty el : ValueType) (place : ℕ) → Value ty ≡ Array el place → ⊥
value_array ty el place e = cc

array_place : (t : Tables) (s : List Scope) (e : ExprTree) (el : ValueType) (place : ℕ)
    → kind_of t s e ≡ Array el place → IsPlace e
array_place t s (expr.Root name) el place is = tt
array_place t s (expr.Arrow base broken_at name) el place is = tt
array_place t s (expr.Index base broken_at index) el place is = tt
array_place t s (expr.Number n) el place is = value_array _ el place is
array_place t s expr.Null el place is = value_array _ el place is
array_place t s (expr.Variable name) el place is = value_array _ el place is
array_place t s (expr.Call name all) el place is = value_array _ el place is
array_place t s (expr.New broken_at name) el place is = value_array _ el place is
array_place t s (expr.Unary op broken_at a) el place is = value_array _ el place is
array_place t s (expr.Binary op broken_at a b) el place is = value_array _ el place is
array_place t s (expr.Conditional c broken_at a b) el place is = value_array _ el place is

-- if an expression breaks no rule, neither do its parts
pub arrow_parts : (t : Tables) (s : List Scope) (base : ExprTree) (place : ℕ) (name : Ident)
    → broken_in t s (expr.Arrow base place name) ≡ []
    → (value_broken t s base ≡ []) × (arrow_broken t (type_of t s base) place name ≡ [])
arrow_parts t s base place name e =
    (none_left (value_broken t s base) _ e, none_right (value_broken t s base) _ e)

pub index_parts : (t : Tables) (s : List Scope) (base : ExprTree) (place : ℕ) (index : ExprTree)
    → broken_in t s (expr.Index base place index) ≡ []
    → (broken_in t s base ≡ []) × (value_broken t s index ≡ [])
    × (is_indexed (kind_of t s base) ≡ true)
index_parts t s base place index e =
    let rest : value_broken t s index
    ++ unless (is_indexed (kind_of t s base) && is_int (type_of t s index)) place Mismatch ≡ [] =
    none_right (broken_in t s base) _ e in (
      none_left (broken_in t s base) _ e,
      none_left (value_broken t s index) _ rest,
      (and_parts (is_indexed (kind_of t s base)) (is_int (type_of t s index))
          (holds (is_indexed (kind_of t s base) && is_int (type_of t s index)) place Mismatch
          (none_right (value_broken t s index) _ rest))).0,
    )

pub type_good : (t : Tables) (r : ℕ) (v : Variables) (e : ExprTree) → IsSane t
    → Agree t r v.scopes v.locals → value_broken t v.scopes e ≡ [] → IsGood t (type_of t v.scopes e)
type_good t r v e h a b = value_good t (broken_in t v.scopes e) (kind_of t v.scopes e)
    (kind_good t r v e h a (none_left (broken_in t v.scopes e) _ b)) b

-- the register of a value exists
pub reg_below : (k : Context) (ir : Ir) (r n : ℕ) (v : Variables) (e : ExprTree) (q : ℕ)
    → IsPlaced k ir r n → Agree k.tables r v.scopes v.locals → broken_in k.tables v.scopes e ≡ []
    → q < n → reg_of k v e q < r
reg_below k ir r n v (expr.Variable name) q h a b lt =
    found_register k.tables r (variable_type name.text v.scopes)
    (variable_register name.text v.locals) (found k.tables r name.text v.scopes v.locals a)
    (holds (is_some (variable_type name.text v.scopes)) name.place UnknownName b)
reg_below k ir r n v (expr.Number m) q h a b lt = h.below q lt
reg_below k ir r n v expr.Null q h a b lt = h.below q lt
reg_below k ir r n v (expr.Call name all) q h a b lt = h.below q lt
reg_below k ir r n v (expr.Root name) q h a b lt = h.below q lt
reg_below k ir r n v (expr.New place name) q h a b lt = h.below q lt
reg_below k ir r n v (expr.Arrow base place name) q h a b lt = h.below q lt
reg_below k ir r n v (expr.Index base place index) q h a b lt = h.below q lt
reg_below k ir r n v (expr.Unary unary.Negate place x) q h a b lt = h.below q lt
reg_below k ir r n v (expr.Unary unary.Not place x) q h a b lt = h.below q lt
reg_below k ir r n v (expr.Unary unary.Complement place x) q h a b lt = h.below q lt
reg_below k ir r n v (expr.Unary (unary.Cast to) place x) q h a b lt =
    reg_below k ir r n v x q h a (none_left (broken_in k.tables v.scopes x) _
    (none_left (value_broken k.tables v.scopes x) _ b)) lt
reg_below k ir r n v (expr.Binary o place x y) q h a b lt = h.below q lt
reg_below k ir r n v (expr.Conditional c place x y) q h a b lt = h.below q lt

-- a call names a function with as many parameters
length_registers : (k : Context) (v : Variables) (es : Arguments) (p : ℕ)
    → length (registers_of k v es p) ≡ argument_count es
length_registers k v expr.None p = refl
length_registers k v (expr.More first value rest) p =
    ap suc (length_registers k v rest (exp_end value p))

pub call_takes : (k : Context) (ir : Ir) (r n : ℕ) (v : Variables) (wanted : Bool) (name : Ident)
    (all : Arguments) (p : ℕ) → IsPlaced k ir r n
    → call_broken wanted (function_named k.tables name.text) (argument_count all) name.place ≡ []
    → TakesArgs (slice_get ir.functions (function_number k.tables name.text))
    (registers_of k v all p)
call_takes k ir r n v wanted name all p h e =
    let t : Tables = k.tables in
    let c = callee wanted (function_named t name.text) (argument_count all) name.place e in
    let f : FunctionTree = c.0 in
    let arity : argument_count all ≡ length f.parameters =
    eq_from (argument_count all) (length f.parameters)
    (callee_arity wanted f (argument_count all) name.place c.2) in
    let there : (i : ℕ) × (index_of name.text (function_names t) ≡ Some i)
    × (slice_get t.functions i ≡ Some f) = function_there t name.text f c.1 in
    let u : (u : IrFunction) × (slice_get ir.functions there.0 ≡ Some u)
    × (u.parameters ≡ length f.parameters) = h.functions there.0 f there.2 in
    let number : function_number t name.text ≡ there.0 =
    ap found_number there.1 ∙ small_number there.0
    (slice_get_within t.functions there.0 f there.2) h.sane.functions in
    rw (number, u.1) (length_registers k v all p ∙ arity ∙ sym u.2)
  where
    eq_from : (a b : ℕ) → nat_eq a b ≡ true → a ≡ b
    eq_from a b e = search (rules)

    small_number : (n : ℕ) → n < length k.tables.functions → length k.tables.functions ≤ 1024
        → found_number (Some n) ≡ n
    small_number n lt le = omega (arith, lt, le)

form_sound : (k : Context) (ir : Ir) (r n : ℕ) (f : Form) (code : ℕ → List Instruction) (end reg : ℕ
    → ℕ) (on p : ℕ) → IsPlaced k ir r n
    → ((x : ℕ) → end x < n → AllByRecursion (IsInstruction ir r n) (code x)) → ((x : ℕ) → x ≤ end x)
    → ((q : ℕ) → q < n → reg q < r) → on < r → form_end f end p < n
    → AllByRecursion (IsInstruction ir r n) (form_code f k.node code end reg on p)
form_sound k ir r n Both code end reg on p h all le below o lt =
    let q : ℕ = end (suc p) in
    let to : k.node (suc (suc (suc (suc q)))) < r = h.below (suc (suc (suc (suc q)))) lt in (
      (o, omega (arith, lt)),
      all_append (IsInstruction ir r n) (code (suc p))
          (truth_code (reg q) (k.node (suc (suc (suc (suc q))))) q)
          (all (suc p) (omega (arith, lt)))
          ((below q (omega (arith, lt)), omega (arith, lt)), (to, (lt, (to, tt)))),
    )
form_sound k ir r n Either code end reg on p h all le below o lt =
    let q : ℕ = end (suc (suc p)) in
    let less : suc (suc p) ≤ q = le (suc (suc p)) in
    let to : k.node (suc (suc (suc (suc q)))) < r = h.below (suc (suc (suc (suc q)))) lt in (
      (o, omega (arith, lt, less)),
      (
        omega (arith, lt),
        all_append (IsInstruction ir r n) (code (suc (suc p)))
            (truth_code (reg q) (k.node (suc (suc (suc (suc q))))) q)
            (all (suc (suc p)) (omega (arith, lt)))
            ((below q (omega (arith, lt)), omega (arith, lt)), (to, (lt, (to, tt)))),
      ),
    )
form_sound k ir r n (Direct b) code end reg on p h all le below o lt =
    all_append (IsInstruction ir r n) (code p) _ (all p (omega (arith, lt)))
    ((h.below (suc (end p)) lt, o, below (end p) (omega (arith, lt))), tt)
form_sound k ir r n (Exchanged b) code end reg on p h all le below o lt =
    all_append (IsInstruction ir r n) (code p) _ (all p (omega (arith, lt)))
    ((h.below (suc (end p)) lt, below (end p) (omega (arith, lt)), o), tt)

unary_part : (t : Tables) (s : List Scope) (x : ExprTree) (rest : List Broken)
    → value_broken t s x ++ rest ≡ [] → value_broken t s x ≡ []
unary_part t s x rest e = none_left (value_broken t s x) rest e

mutual
  pub exp_sound : (k : Context) (ir : Ir) (r n : ℕ) (v : Variables) (e : ExprTree) (p : ℕ)
      → IsPlaced k ir r n → Agree k.tables r v.scopes v.locals
      → value_broken k.tables v.scopes e ≡ [] → exp_end e p < n
      → AllByRecursion (IsInstruction ir r n) (exp_code k v e p)
  exp_sound k ir r n v (expr.Number m) p h a b lt = (h.below (suc p) lt, tt)
  exp_sound k ir r n v expr.Null p h a b lt = (h.below (suc p) lt, tt)
  exp_sound k ir r n v (expr.Variable name) p h a b lt = tt
  exp_sound k ir r n v (expr.Call name all) p h a b lt =
      let t : Tables = k.tables in
      let own : broken_in t v.scopes (expr.Call name all) ≡ [] =
      none_left (broken_in t v.scopes (expr.Call name all)) _ b in
      let f : Option FunctionTree = function_named t name.text in
      let args = arguments_sound k ir r n v (parameters_of f) 0 all p h a
      (none_right (call_broken true f (argument_count all) name.place) _ own)
      (omega (arith, lt)) in
      all_append (IsInstruction ir r n) (arguments_code k v all p) _ args.0 (
        tt,
        (
          (
            h.below (suc (suc (arguments_end all p))) lt,
            args.1,
            call_takes k ir r n v true name all p h
                (none_left (call_broken true f (argument_count all) name.place) _ own),
          ),
          tt,
        ),
      )
  exp_sound k ir r n v (expr.Root name) p h a b lt =
      let t : Tables = k.tables in
      let fits : TargetFits (shapes_in t) r (root_kind t name) (root_target t name.text) =
      root_fits t r name h.sane (none_left (root_broken t name) _ b) in (
        (
          h.below (suc p) lt,
          rw h.shapes
              (value_fits (shapes_in t) r (root_broken t name) (root_kind t name)
              (root_target t name.text) b fits),
        ),
        tt,
      )
  exp_sound k ir r n v (expr.New place name) p h a b lt =
      let t : Tables = k.tables in
      let g = pointer_good t name (none_left (broken_in t v.scopes (expr.New place name)) _ b) in
      let kind : IsKindOf t g.0 g.1 = kind_of_struct t g.0 g.1 h.sane.structs g.3 g.4 in
      let is : IsKind ir.shapes (kind_named t name.text) = rw (h.shapes, g.2) kind.kind in
      ((h.below (suc p) lt, is), tt)
  exp_sound k ir r n v (expr.Arrow base place name) p h a b lt =
      let t : Tables = k.tables in
      let s : List Scope = v.scopes in
      let parts = arrow_parts t s base place name
      (none_left (broken_in t s (expr.Arrow base place name)) _ b) in
      let reg : reg_of k v base (exp_end base p) < r =
      reg_below k ir r n v base (exp_end base p) h a (none_left (broken_in t s base) _ parts.0)
      (omega (arith, lt)) in
      let fits = arrow_fits t r (type_of t s base) (reg_of k v base (exp_end base p)) place name
      h.sane reg (type_good t r v base h.sane a parts.0) parts.1 in
      all_append (IsInstruction ir r n) (exp_code k v base p) _
      (exp_sound k ir r n v base p h a parts.0 (omega (arith, lt))) (
        (
          h.below (suc (exp_end base p)) lt,
          rw h.shapes (value_fits (shapes_in t) r (broken_in t s (expr.Arrow base place name))
              (kind_of t s (expr.Arrow base place name)) _ b fits),
        ),
        tt,
      )
  exp_sound k ir r n v (expr.Index base place index) p h a b lt =
      let t : Tables = k.tables in
      let s : List Scope = v.scopes in
      let q : ℕ = target_end base p in
      let parts = index_parts t s base place index
      (none_left (broken_in t s (expr.Index base place index)) _ b) in
      let gb : IsGoodKind t (kind_of t s base) = kind_good t r v base h.sane a parts.0 in
      let array = indexed_array t (kind_of t s base) gb parts.2 in
      let le : q ≤ exp_end index q = exp_end_le index q in
      let base_sound = target_sound k ir r n v base p h a
      (array_place t s base array.0 array.1 array.2) parts.0 (omega (arith, lt, le)) in
      let reg : reg_of k v index (exp_end index q) < r =
      reg_below k ir r n v index (exp_end index q) h a (none_left (broken_in t s index) _ parts.1)
      (omega (arith, lt)) in
      all_append (IsInstruction ir r n) (target_code k v base p ++ exp_code k v index q) _
      (all_append (IsInstruction ir r n) (target_code k v base p) _ base_sound.0
      (exp_sound k ir r n v index q h a parts.1 (omega (arith, lt)))) (
        (
          h.below (suc (exp_end index q)) lt,
          index_fits ir.shapes r t (kind_of t s base) (target_of k v base p)
              (reg_of k v index (exp_end index q)) gb parts.2 base_sound.1 reg,
        ),
        tt,
      )
  exp_sound k ir r n v (expr.Unary unary.Negate place x) p h a b lt =
      let t : Tables = k.tables in
      let u : value_broken t v.scopes x ≡ [] =
      unary_part t v.scopes x _ (none_left
      (broken_in t v.scopes (expr.Unary unary.Negate place x)) _ b) in
      let q : ℕ = exp_end x (suc p) in
      let le : suc p ≤ q = exp_end_le x (suc p) in (
        h.below (suc p) (omega (arith, lt, le)),
        all_append (IsInstruction ir r n) (exp_code k v x (suc p)) _
            (exp_sound k ir r n v x (suc p) h a u (omega (arith, lt))) (
              (
                h.below (suc q) lt,
                h.below (suc p) (omega (arith, lt, le)),
                reg_below k ir r n v x q h a (none_left (broken_in t v.scopes x) _ u)
                    (omega (arith, lt)),
              ),
              tt,
            ),
      )
  exp_sound k ir r n v (expr.Unary unary.Complement place x) p h a b lt =
      let t : Tables = k.tables in
      let u : value_broken t v.scopes x ≡ [] =
      unary_part t v.scopes x _ (none_left
      (broken_in t v.scopes (expr.Unary unary.Complement place x)) _ b) in
      let q : ℕ = exp_end x (suc p) in
      let le : suc p ≤ q = exp_end_le x (suc p) in (
        h.below (suc p) (omega (arith, lt, le)),
        all_append (IsInstruction ir r n) (exp_code k v x (suc p)) _
            (exp_sound k ir r n v x (suc p) h a u (omega (arith, lt))) (
              (
                h.below (suc q) lt,
                h.below (suc p) (omega (arith, lt, le)),
                reg_below k ir r n v x q h a (none_left (broken_in t v.scopes x) _ u)
                    (omega (arith, lt)),
              ),
              tt,
            ),
      )
  exp_sound k ir r n v (expr.Unary unary.Not place x) p h a b lt =
      let t : Tables = k.tables in
      let u : value_broken t v.scopes x ≡ [] =
      unary_part t v.scopes x _ (none_left (broken_in t v.scopes (expr.Unary unary.Not place x)) _
      b) in
      let q : ℕ = exp_end x p in
      all_append (IsInstruction ir r n) (exp_code k v x p) _
      (exp_sound k ir r n v x p h a u (omega (arith, lt))) (
        h.below (suc q) (omega (arith, lt)),
        (
          (
            h.below (suc (suc q)) lt,
            reg_below k ir r n v x q h a
                (none_left (broken_in t v.scopes x) _ u) (omega (arith, lt)),
            h.below (suc q) (omega (arith, lt)),
          ),
          tt,
        ),
      )
  exp_sound k ir r n v (expr.Unary (unary.Cast to) place x) p h a b lt =
      let u : value_broken k.tables v.scopes x ≡ [] =
      unary_part k.tables v.scopes x _ (none_left
      (broken_in k.tables v.scopes (expr.Unary (unary.Cast to) place x)) _ b) in
      exp_sound k ir r n v x p h a u lt
  exp_sound k ir r n v (expr.Binary o place x y) p h a b lt =
      let t : Tables = k.tables in
      let s : List Scope = v.scopes in
      let q : ℕ = exp_end x p in
      let int : IntType = sides_type t s o x y in
      let f : Form = typed_form int (form_of o) in
      let less : form_end f (exp_end y) q < n =
      subst (λ (z : ℕ). z < n) (sym (form_end_typed int (form_of o) (exp_end y) q)) lt in
      let own : broken_in t s (expr.Binary o place x y) ≡ [] =
      none_left (broken_in t s (expr.Binary o place x y)) _ b in
      let u : value_broken t s x ≡ [] = unary_part t s x _ own in
      let w : value_broken t s y ≡ [] =
      unary_part t s y _ (none_right (value_broken t s x) _ own) in
      let le : q ≤ form_end (form_of o) (exp_end y) q =
      form_end_le (form_of o) (exp_end y) q (λ z. exp_end_le y z) in
      all_append (IsInstruction ir r n) (exp_code k v x p) _
      (exp_sound k ir r n v x p h a u (omega (arith, lt, le)))
      (form_sound k ir r n f (exp_code k v y) (exp_end y) (reg_of k v y)
      (reg_of k v x q) q h
      (λ z less. exp_sound k ir r n v y z h a w less) (λ z. exp_end_le y z) (λ z less.
      reg_below k ir r n v y z h a (none_left (broken_in t s y) _ w) less)
      (reg_below k ir r n v x q h a (none_left (broken_in t s x) _ u) (omega (arith, lt, le))) less)
  exp_sound k ir r n v (expr.Conditional c place x y) p h a b lt =
      let t : Tables = k.tables in
      let s : List Scope = v.scopes in
      let p1 : ℕ = exp_end c p in
      let p2 : ℕ = exp_end x (suc p1) in
      let p3 : ℕ = exp_end y (suc (suc p2)) in
      let own : broken_in t s (expr.Conditional c place x y) ≡ [] =
      none_left (broken_in t s (expr.Conditional c place x y)) _ b in
      let sides = none_right (value_broken t s c) _ own in
      let bc : value_broken t s c ≡ [] = unary_part t s c _ own in
      let bl : value_broken t s x ≡ [] = unary_part t s x _ sides in
      let br : value_broken t s y ≡ [] =
      unary_part t s y _ (none_right (value_broken t s x) _ sides) in
      let le1 : suc p1 ≤ p2 = exp_end_le x (suc p1) in
      let le2 : suc (suc p2) ≤ p3 = exp_end_le y (suc (suc p2)) in
      let to : k.node (suc p3) < r = h.below (suc p3) lt in
      let reg_c : reg_of k v c p1 < r =
      reg_below k ir r n v c p1 h a (none_left (broken_in t s c) _ bc)
      (omega (arith, lt, le1, le2)) in
      let reg_x : reg_of k v x p2 < r =
      reg_below k ir r n v x p2 h a (none_left (broken_in t s x) _ bl) (omega (arith, lt, le2)) in
      let reg_y : reg_of k v y p3 < r =
      reg_below k ir r n v y p3 h a (none_left (broken_in t s y) _ br) (omega (arith, lt)) in
      all_append (IsInstruction ir r n) (exp_code k v c p) _
      (exp_sound k ir r n v c p h a bc (omega (arith, lt, le1, le2))) (
        (reg_c, omega (arith, lt, le2)),
        all_append (IsInstruction ir r n) (exp_code k v x (suc p1)) _
            (exp_sound k ir r n v x (suc p1) h a bl (omega (arith, lt, le2))) (
              (to, reg_x),
              (
                lt,
                all_append (IsInstruction ir r n) (exp_code k v y (suc (suc p2))) _
                    (exp_sound k ir r n v y (suc (suc p2)) h a br (omega (arith, lt)))
                    ((to, reg_y), tt),
              ),
            ),
      )

  pub target_sound : (k : Context) (ir : Ir) (r n : ℕ) (v : Variables) (e : ExprTree) (p : ℕ)
      → IsPlaced k ir r n → Agree k.tables r v.scopes v.locals → IsPlace e
      → broken_in k.tables v.scopes e ≡ [] → target_end e p < n
      → AllByRecursion (IsInstruction ir r n) (target_code k v e p)
      × TargetFits ir.shapes r (kind_of k.tables v.scopes e) (target_of k v e p)
  target_sound k ir r n v (expr.Root name) p h a is b lt =
      (tt, rw h.shapes (root_fits k.tables r name h.sane b))
  target_sound k ir r n v (expr.Arrow base place name) p h a is b lt =
      let t : Tables = k.tables in
      let s : List Scope = v.scopes in
      let parts = arrow_parts t s base place name b in
      let reg : reg_of k v base (exp_end base p) < r =
      reg_below k ir r n v base (exp_end base p) h a (none_left (broken_in t s base) _ parts.0)
      lt in (
        exp_sound k ir r n v base p h a parts.0 lt,
        rw h.shapes (arrow_fits t r (type_of t s base) (reg_of k v base (exp_end base p)) place name
            h.sane reg (type_good t r v base h.sane a parts.0) parts.1),
      )
  target_sound k ir r n v (expr.Index base place index) p h a is b lt =
      let t : Tables = k.tables in
      let s : List Scope = v.scopes in
      let q : ℕ = target_end base p in
      let parts = index_parts t s base place index b in
      let gb : IsGoodKind t (kind_of t s base) = kind_good t r v base h.sane a parts.0 in
      let array = indexed_array t (kind_of t s base) gb parts.2 in
      let le : q ≤ exp_end index q = exp_end_le index q in
      let base_sound = target_sound k ir r n v base p h a
      (array_place t s base array.0 array.1 array.2) parts.0 (omega (arith, lt, le)) in
      let reg : reg_of k v index (exp_end index q) < r =
      reg_below k ir r n v index (exp_end index q) h a (none_left (broken_in t s index) _ parts.1)
      lt in (
        all_append (IsInstruction ir r n) (target_code k v base p) _ base_sound.0
            (exp_sound k ir r n v index q h a parts.1 lt),
        index_fits ir.shapes r t (kind_of t s base) (target_of k v base p)
            (reg_of k v index (exp_end index q)) gb parts.2 base_sound.1 reg,
      )
  target_sound k ir r n v (expr.Number m) p h a is b lt = absurd is
  target_sound k ir r n v expr.Null p h a is b lt = absurd is
  target_sound k ir r n v (expr.Variable name) p h a is b lt = absurd is
  target_sound k ir r n v (expr.Call name all) p h a is b lt = absurd is
  target_sound k ir r n v (expr.New place name) p h a is b lt = absurd is
  target_sound k ir r n v (expr.Unary o place x) p h a is b lt = absurd is
  target_sound k ir r n v (expr.Binary o place x y) p h a is b lt = absurd is
  target_sound k ir r n v (expr.Conditional c place x y) p h a is b lt = absurd is

  pub arguments_sound : (k : Context) (ir : Ir) (r n : ℕ) (v : Variables) (ps : List ParameterTree)
      (i : ℕ) (es : Arguments) (p : ℕ) → IsPlaced k ir r n → Agree k.tables r v.scopes v.locals
      → broken_in_all k.tables v.scopes ps i es ≡ [] → arguments_end es p < n
      → AllByRecursion (IsInstruction ir r n) (arguments_code k v es p)
      × AllByRecursion (λ x. x < r) (registers_of k v es p)
  arguments_sound k ir r n v ps i expr.None p h a b lt = (tt, tt)
  arguments_sound k ir r n v ps i (expr.More first x rest) p h a b lt =
      let t : Tables = k.tables in
      let s : List Scope = v.scopes in
      let q : ℕ = exp_end x p in
      let u : value_broken t s x ≡ [] = none_left (value_broken t s x) _ b in
      let later : broken_in_all t s ps (i + 1) rest ≡ [] =
      none_right (unless (type_takes (parameter_type t ps i) (type_of t s x)) first Mismatch) _
      (none_right (value_broken t s x) _ b) in
      let le : q ≤ arguments_end rest q = arguments_end_le rest q in
      let others = arguments_sound k ir r n v ps (i + 1) rest q h a later lt in (
        all_append (IsInstruction ir r n) (exp_code k v x p) _
            (exp_sound k ir r n v x p h a u (omega (arith, lt, le))) others.0,
        (
          reg_below k ir r n v x q h a (none_left (broken_in t s x) _ u) (omega (arith, lt, le)),
          others.1,
        ),
      )
