-- The names of an expression that breaks no rule fit.
use Rattle.std.proofs.Common.{◌≡◌, ℕ, ◌+◌, ◌<◌, Bool, true, false, List, [], ◌∷◌, refl, sym, ap}
use Rattle.std.proofs.Common.{◌∙◌, subst, arith}
use Rattle.std.specs.Prelude.{Option, None, Some, is_some, if◌then◌else◌, option_map, bytes_eq}
use Rattle.std.proofs.lemmas.Bool.{false≢true}
use Rattle.c_tree.specs.ExprTree as expr
use Rattle.c_tree.specs.ExprTree.{ExprTree, Arguments, Ident}
use Rattle.c_tree.specs.ItemTree.{FunctionTree, ParameterTree}
use Rattle.c_types.specs.declared.value_type.ValueType.{ValueType}
use Rattle.c_types.specs.declared.value_type.Kind.TheVariants.{Array}
use Rattle.c_types.specs.declared.broken.Rule.TheVariants.{UnknownName, Mismatch}
use Rattle.c_types.specs.Broken.{unless}
use Rattle.c_types.specs.Fits.{type_takes, is_pointer}
use Rattle.c_types.specs.Tables.{Tables, function_named, number_at, pointed_struct}
use Rattle.c_types.specs.Shapes.{shapes_in}
use Rattle.c_types.specs.Expressions.{variable_type, kind_of, type_of, broken_in, broken_in_all}
use Rattle.c_types.specs.Expressions.{value_broken, call_broken, parameters_of, parameter_type}
use Rattle.c_types.specs.Expressions.{argument_count, root_broken, arrow_broken}
use Rattle.c_types.specs.Statements.{is_target}
use Rattle.c_types.proofs.Unbroken.{none_left, none_right, holds}
use Rattle.pool_map.specs.declared.shapes.Shapes.{Shapes}
use Rattle.c_meaning.specs.Access as access
use Rattle.ir.specs.declared.function.Ir.{Ir}
use Rattle.lower.specs.Names.{Variables, LocalRegister, variable_of, root_target, field_target}
use Rattle.lower.specs.Lowers.{Context, exp_end, reg_of}
use Rattle.lower.proofs.Sane.{IsSane}
use Rattle.lower.proofs.GoodTypes.{IsGood, IsGoodKind, Agree, kind_good, value_good, indexed_array}
use Rattle.lower.proofs.Alike.{IsSame, kind_same, broken_same}
use Rattle.lower.proofs.ExprSound.{arrow_parts, index_parts, value_array}
use Rattle.code_meaning.specs.Code.{spot_of}
use Rattle.lower_law.proofs.locals.Locals.{Entry, Agrees, entry_type, entry_register, scopes_in}
use Rattle.lower_law.proofs.locals.Sides.{scopes_same, type_met}
use Rattle.lower_law.proofs.names.Fits.{NewFits, FieldFits, ExpFits, PointerFits, ArgumentsFit}
use Rattle.lower_law.proofs.names.StmtFits.{TargetFits, FreeFits}
use Rattle.lower_law.proofs.names.Typed.{call_fits}
use Rattle.lower_law.proofs.names.Fields.{root_word, arrow_word, new_parts, freed_slot}

-- the types of the entries are good
abbrev pub AreGood : Tables → List Entry → Type 0
AreGood t [] = Unit {0}
AreGood t (e ∷ es) = IsGood t e.ty × AreGood t es

-- each name means the same entry, which has a good type
pub record Sees (t : Tables) (v : Variables) (es : List Entry) : Type 0 where
  pub agrees : Agrees v es
  pub good : AreGood t es

-- the entries as variables of the code
abbrev locals_in : List Entry → List (List LocalRegister)
locals_in [] = []
locals_in (e ∷ es) = (record { name = e.name; register = 0 } ∷ []) ∷ locals_in es

abbrev variables_in : List Entry → Variables
variables_in es = record { scopes = scopes_in es; locals = locals_in es }

good_agree : (t : Tables) (es : List Entry) → AreGood t es → Agree t 1 (scopes_in es) (locals_in es)
good_agree t [] g = tt
good_agree t (e ∷ es) g = let lt : 0 < 1 = omega arith in ((refl, g.0, lt, tt), good_agree t es g.1)

register_there : (name : List ℕ) (es : List Entry) → is_some (entry_type name es) ≡ true
    → (r : ℕ) × (entry_register name es ≡ Some r)
register_there name [] e = absurd (false≢true e)
register_there name (x ∷ es) e =
    by_test (bytes_eq name x.name) (λ rest. register_there name es rest) e
  where
    by_test : (b : Bool) → (is_some (entry_type name es) ≡ true
        → (r : ℕ) × (entry_register name es ≡ Some r))
        → is_some (if b then Some x.ty else entry_type name es) ≡ true
        → (r : ℕ) × ((if b then Some x.register else entry_register name es) ≡ Some r)
    by_test true rest e = (x.register, refl)
    by_test false rest e = rest e

module _ (k : Context) (ir : Ir) (sane : IsSane k.tables) (shaped : ir.shapes ≡ shapes_in k.tables)
    (v : Variables) (es : List Entry) (sees : Sees k.tables v es) where
  met : IsSame v.scopes (scopes_in es)
  met = scopes_same v es sees.agrees

  kind_is_good : (e : ExprTree) → broken_in k.tables v.scopes e ≡ []
      → IsGoodKind k.tables (kind_of k.tables v.scopes e)
  kind_is_good e b =
      subst (IsGoodKind k.tables) (sym (kind_same k.tables v.scopes (scopes_in es) met e))
      (kind_good k.tables 1 (variables_in es) e sane (good_agree k.tables es sees.good)
      (sym (broken_same k.tables v.scopes (scopes_in es) met e) ∙ b))

  type_is_good : (e : ExprTree) → value_broken k.tables v.scopes e ≡ []
      → IsGood k.tables (type_of k.tables v.scopes e)
  type_is_good e b = value_good k.tables (broken_in k.tables v.scopes e)
      (kind_of k.tables v.scopes e) (kind_is_good e (none_left (broken_in k.tables v.scopes e) _ b))
      b

  root_fits : (name : Ident) → root_broken k.tables name ≡ [] → FieldFits k ir v es (expr.Root name)
  root_fits name b p ls is w c j = root_word k.tables name w c j sane b
      ∙ ap (λ (x : Shapes). spot_of x w (root_target k.tables name.text) c j) (sym shaped)

  arrow_fits : (base : ExprTree) (place : ℕ) (name : Ident) → value_broken k.tables v.scopes base
      ≡ [] → arrow_broken k.tables (type_of k.tables v.scopes base) place name ≡ []
      → FieldFits k ir v es (expr.Arrow base place name)
  arrow_fits base place name b e p ls is w c j =
      let ty : ValueType = type_of k.tables v.scopes base in
      let reg : ℕ = reg_of k v base (exp_end base p) in
      ap (λ (y : ValueType). access.pointed_word k.tables w (pointed_struct y) c
      name.text j) (type_met k.tables v es ls sees.agrees is base)
      ∙ arrow_word k.tables ty place name reg w c j sane (type_is_good base b) e
      ∙ ap (λ (x : Shapes). spot_of x w (field_target k.tables ty reg name.text) c j) (sym shaped)

  own : (e : ExprTree) → value_broken k.tables v.scopes e ≡ [] → broken_in k.tables v.scopes e ≡ []
  own e b = none_left (broken_in k.tables v.scopes e) _ b

  mutual
    pub exp_fits : (e : ExprTree) → broken_in k.tables v.scopes e ≡ [] → ExpFits k ir v es e
    exp_fits (expr.Number n) b = tt
    exp_fits expr.Null b = tt
    exp_fits (expr.Variable name) b =
        register_there name.text es (subst (λ (o : Option ValueType). is_some o ≡ true)
        (sees.agrees name.text).0 (holds (is_some (variable_type name.text v.scopes)) name.place
        UnknownName b))
    exp_fits (expr.Call name all) b =
        let f : Option FunctionTree = function_named k.tables name.text in (
          call_fits k.tables true name (argument_count all) sane
              (none_left (call_broken true f (argument_count all) name.place) _ b),
          arguments_fit (parameters_of f) 0 all
              (none_right (call_broken true f (argument_count all) name.place) _ b),
        )
    exp_fits (expr.Root name) b = root_fits name b
    exp_fits (expr.New place name) b = subst (λ (x : Shapes). NewFits k.tables x name.text)
        (sym shaped) (new_parts k.tables name sane b)
    exp_fits (expr.Arrow base place name) b =
        let parts = arrow_parts k.tables v.scopes base place name b in
        (exp_fits base (own base parts.0), arrow_fits base place name parts.0 parts.1)
    exp_fits (expr.Index base place index) b =
        let parts = index_parts k.tables v.scopes base place index b in
        let array = indexed_array k.tables (kind_of k.tables v.scopes base)
        (kind_is_good base parts.0) parts.2 in
        (pointer_fits base array.0 array.1 array.2 parts.0, exp_fits index (own index parts.1))
    exp_fits (expr.Unary o place a) b =
        exp_fits a (own a (none_left (value_broken k.tables v.scopes a) _ b))
    exp_fits (expr.Binary o place a c) b = (
      exp_fits a (own a (none_left (value_broken k.tables v.scopes a) _ b)),
      exp_fits c (own c (none_left (value_broken k.tables v.scopes c) _
          (none_right (value_broken k.tables v.scopes a) _ b))),
    )
    exp_fits (expr.Conditional c place a d) b =
        let sides = none_right (value_broken k.tables v.scopes c) _ b in
        let rest = none_right (value_broken k.tables v.scopes a) _ sides in (
          exp_fits c (own c (none_left (value_broken k.tables v.scopes c) _ b)),
          exp_fits a (own a (none_left (value_broken k.tables v.scopes a) _ sides)),
          exp_fits d (own d (none_left (value_broken k.tables v.scopes d) _ rest)),
        )

    -- an array, one of whose elements is meant
    pointer_fits : (e : ExprTree) (el : ValueType) (place : ℕ)
        → kind_of k.tables v.scopes e ≡ Array el place → broken_in k.tables v.scopes e ≡ []
        → PointerFits k ir v es e
    pointer_fits (expr.Root name) el at is b = root_fits name b
    pointer_fits (expr.Arrow base place name) el at is b =
        let parts = arrow_parts k.tables v.scopes base place name b in
        (exp_fits base (own base parts.0), arrow_fits base place name parts.0 parts.1)
    pointer_fits (expr.Number n) el at is b = value_array _ el at is
    pointer_fits expr.Null el at is b = value_array _ el at is
    pointer_fits (expr.Variable name) el at is b = value_array _ el at is
    pointer_fits (expr.Call name all) el at is b = value_array _ el at is
    pointer_fits (expr.New place name) el at is b = value_array _ el at is
    pointer_fits (expr.Index base place index) el at is b = absurd (value_array _ el at is)
    pointer_fits (expr.Unary o place a) el at is b = value_array _ el at is
    pointer_fits (expr.Binary o place a c) el at is b = value_array _ el at is
    pointer_fits (expr.Conditional c place a d) el at is b = value_array _ el at is

    pub arguments_fit : (ps : List ParameterTree) (i : ℕ) (all : Arguments)
        → broken_in_all k.tables v.scopes ps i all ≡ [] → ArgumentsFit k ir v es all
    arguments_fit ps i expr.None b = tt
    arguments_fit ps i (expr.More first e rest) b =
        let later : broken_in_all k.tables v.scopes ps (i + 1) rest ≡ [] =
        none_right (unless (type_takes (parameter_type k.tables ps i)
        (type_of k.tables v.scopes e)) first Mismatch) _
        (none_right (value_broken k.tables v.scopes e) _ b) in (
          exp_fits e (own e (none_left (value_broken k.tables v.scopes e) _ b)),
          arguments_fit ps (i + 1) rest later,
        )

  -- an expression that is used as a value
  pub value_fits : (e : ExprTree) → value_broken k.tables v.scopes e ≡ [] → ExpFits k ir v es e
  value_fits e b = exp_fits e (own e b)

  -- the target of an assignment
  pub target_fits : (e : ExprTree) → is_target e ≡ true → value_broken k.tables v.scopes e ≡ []
      → TargetFits k ir v es (variable_of e) e
  target_fits (expr.Variable name) is b = value_fits (expr.Variable name) b
  target_fits (expr.Root name) is b = value_fits (expr.Root name) b
  target_fits (expr.Arrow base place name) is b = value_fits (expr.Arrow base place name) b
  target_fits (expr.Index base place index) is b = value_fits (expr.Index base place index) b
  target_fits (expr.Number n) is b = absurd (false≢true is)
  target_fits expr.Null is b = absurd (false≢true is)
  target_fits (expr.Call name all) is b = absurd (false≢true is)
  target_fits (expr.New place name) is b = absurd (false≢true is)
  target_fits (expr.Unary o place a) is b = absurd (false≢true is)
  target_fits (expr.Binary o place a c) is b = absurd (false≢true is)
  target_fits (expr.Conditional c place a d) is b = absurd (false≢true is)

  -- the operand of `pm_free`
  pub free_fits : (e : ExprTree) → value_broken k.tables v.scopes e ≡ []
      → is_pointer (type_of k.tables v.scopes e) ≡ true → FreeFits k ir v es e
  free_fits e b pointer ls is w c =
      ap (λ (y : ValueType).
      access.struct_slot w (option_map (number_at k.tables) (pointed_struct y)) c)
      (type_met k.tables v es ls sees.agrees is e)
      ∙ freed_slot k.tables (type_of k.tables v.scopes e) w c sane (type_is_good e b) pointer
