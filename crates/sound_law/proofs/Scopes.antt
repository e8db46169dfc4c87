-- The locals of the meaning and the scopes of the rules.
use Rattle.std.proofs.Common.{◌≡◌, ℕ, suc, Bool, true, false, List, [], ◌∷◌}
use Rattle.std.proofs.Common.{refl, sym, ◌∙◌, subst, ◌⊎◌, inl, inr}
use Rattle.std.specs.Prelude.{Option, None, Some, if◌then◌else◌, option_map}
use Rattle.std.specs.Prelude.{option_and_then, slice_get, bytes_eq}
use Rattle.std.proofs.lemmas.Option.{none-some, same_Some}
use Rattle.c_tree.specs.declared.expr.IntType.{IntType}
use Rattle.c_tree.specs.declared.expr.UnaryOp.{UnaryOp}
use Rattle.c_tree.specs.declared.expr.UnaryOp.TheVariants as unary
use Rattle.c_tree.specs.ExprTree.{ExprTree, Arguments}
use Rattle.c_tree.specs.ExprTree as expr
use Rattle.c_tree.specs.ItemTree.{ParameterTree}
use Rattle.c_types.specs.declared.value_type.ValueType.{ValueType}
use Rattle.c_types.specs.declared.value_type.ValueType.TheVariants.{Int}
use Rattle.c_types.specs.Tables.{Tables}
use Rattle.c_types.specs.Expressions.{Scope, or_else, variable_type}
use Rattle.c_meaning.specs.Locals.{Local, scopes_of}
use Rattle.rules_law.specs.typed.Types.{StaticType, Number, PointerTo, NullPointer, value_type}
use Rattle.rules_law.specs.typed.Types.{Applies, GivesUnary, HaveInCommon, Unites}
use Rattle.rules_law.specs.typed.Expressions.{HasType, IsArray, ArePassed}
use Rattle.rules_law.proofs.typed.Fitting.{binary_answer}
use Rattle.sound_law.specs.Places.{IsLocal}
use Rattle.sound_law.proofs.Fields.{IsSmall, pointer_small, written_small}

-- the look-up of a name among locals
abbrev pub local_type : List ℕ → List Local → Option ValueType
local_type name [] = None
local_type name (l ∷ ls) = if bytes_eq name l.name then Some l.ty else local_type name ls

pub scopes_type : (name : List ℕ) (ls : List Local)
    → variable_type name (scopes_of ls) ≡ local_type name ls
scopes_type name [] = refl
scopes_type name (l ∷ ls) = by_test (bytes_eq name l.name) (scopes_type name ls)
  where
    by_test : (b : Bool) → variable_type name (scopes_of ls) ≡ local_type name ls
        → or_else (option_and_then (slice_get (l.ty ∷ [])) (if b then Some 0
        else option_map suc None)) (variable_type name (scopes_of ls))
        ≡ (if b then Some l.ty else local_type name ls)
    by_test true rest = refl
    by_test false rest = rest

pub is_local : (name : List ℕ) (ls : List Local) (ty : ValueType)
    → variable_type name (scopes_of ls) ≡ Some ty → IsLocal name ls
is_local name ls ty e = there ls (sym (scopes_type name ls) ∙ e)
  where
    there : (ls : List Local) → local_type name ls ≡ Some ty → IsLocal name ls
    there [] e = none-some ty e
    there (l ∷ ls) e = by_test (bytes_eq name l.name) refl (there ls) e
      where
        by_test : (b : Bool) → bytes_eq name l.name ≡ b
            → (local_type name ls ≡ Some ty → IsLocal name ls)
            → (if b then Some l.ty else local_type name ls) ≡ Some ty
            → (bytes_eq name l.name ≡ true) ⊎ IsLocal name ls
        by_test true is rest e = inl is
        by_test false is rest e = inr (rest e)

-- each name has a type, and its pointers lead to small structs
abbrev pub AreSmallTypes : Tables → List ValueType → Type 0
AreSmallTypes t [] = Unit {0}
AreSmallTypes t (ty ∷ tys) =
    ((x : StaticType) × (ty ≡ value_type x) × IsSmall t x) × AreSmallTypes t tys

abbrev pub AreSmall : Tables → List Scope → Type 0
AreSmall t [] = Unit {0}
AreSmall t (s ∷ ss) = AreSmallTypes t s.types × AreSmall t ss

same_type : (x y : StaticType) → value_type x ≡ value_type y → x ≡ y
same_type (Number n) (Number m) e = cc
same_type (Number n) (PointerTo j) e = cc
same_type (Number n) NullPointer e = cc
same_type (PointerTo i) (Number n) e = cc
same_type (PointerTo i) (PointerTo j) e = cc
same_type (PointerTo i) NullPointer e = cc
same_type NullPointer (Number n) e = cc
same_type NullPointer (PointerTo j) e = cc
same_type NullPointer NullPointer e = refl

pub local_small : (t : Tables) (name : List ℕ) (ls : List Local) (x : StaticType)
    → AreSmall t (scopes_of ls)
    → variable_type name (scopes_of ls) ≡ Some (value_type x) → IsSmall t x
local_small t name ls x all e = there ls all (sym (scopes_type name ls) ∙ e)
  where
    there : (ls : List Local) → AreSmall t (scopes_of ls) → local_type name ls ≡ Some (value_type x)
        → IsSmall t x
    there [] all e = absurd (none-some (value_type x) e)
    there (l ∷ ls) all e = by_test (bytes_eq name l.name) (there ls all.1) e
      where
        own : Some l.ty ≡ Some (value_type x) → IsSmall t x
        own e = subst (λ (y : StaticType). IsSmall t y) (same_type all.0.0.0 x (sym all.0.0.1
            ∙ same_Some l.ty (value_type x) e)) all.0.0.2

        by_test : (b : Bool) → (local_type name ls ≡ Some (value_type x) → IsSmall t x)
            → (if b then Some l.ty else local_type name ls) ≡ Some (value_type x) → IsSmall t x
        by_test true rest e = own e
        by_test false rest e = rest e

-- numbers are no pointers
int_small : (t : Tables) (n : IntType) (x : StaticType) → Int n ≡ value_type x → IsSmall t x
int_small t n (Number m) e = tt
int_small t n (PointerTo i) e = absurd (cc e)
int_small t n NullPointer e = tt

unary_small : (t : Tables) (op : UnaryOp) (y x : StaticType) → Applies op y → GivesUnary op y x
    → IsSmall t x
unary_small t unary.Not y x h g = rw g tt
unary_small t unary.Negate y x h g = rw (g, h.1) tt
unary_small t unary.Complement y x h g = rw (g, h.1) tt
unary_small t (unary.Cast n) y x h g = rw g tt

common_small : (t : Tables) (y z x : StaticType) → HaveInCommon y z x → IsSmall t x
common_small t y z x (inl h) = rw h.1 tt
common_small t y z x (inr h) = rw h.2 tt

-- the type of both sides of `?` is that of one side, or a number's
united_small : (t : Tables) (y z x : StaticType) → Unites y z x → IsSmall t y → IsSmall t z
    → IsSmall t x
united_small t (Number n) z x h left right = common_small t (Number n) z x h.0
united_small t (PointerTo i) z x (inl h) left right = rw h.0 left
united_small t (PointerTo i) z x (inr h) left right = rw h.0 right
united_small t NullPointer z x (inl h) left right = rw h.0 left
united_small t NullPointer z x (inr h) left right = rw h.0 right

-- a pointer that an expression gives leads to a small struct
pub type_small : (t : Tables) (ls : List Local) (e : ExprTree) (x : StaticType)
    → AreSmall t (scopes_of ls)
    → HasType t (scopes_of ls) e x → IsSmall t x
type_small t ls (expr.Number n) x all h = rw h tt
type_small t ls expr.Null x all h = rw h tt
type_small t ls (expr.Variable name) x all h = local_small t name.text ls x all h
type_small t ls (expr.Root name) x all h = written_small t h.2.field.ty x h.2.typed
type_small t ls (expr.New place name) x all h = pointer_small t name.text x h
type_small t ls (expr.Arrow base place name) x all h = written_small t h.2.field.ty x h.2.typed
type_small t ls (expr.Index base place index) x all h = array_small base h.0
  where
    array_small : (e : ExprTree) → IsArray t (scopes_of ls) e x → IsSmall t x
    array_small (expr.Root name) h = written_small t h.2.field.ty x h.2.typed
    array_small (expr.Arrow base place name) h = written_small t h.2.field.ty x h.2.typed
    array_small (expr.Number n) h = absurd h
    array_small expr.Null h = absurd h
    array_small (expr.Variable name) h = absurd h
    array_small (expr.Call name all) h = absurd h
    array_small (expr.New place name) h = absurd h
    array_small (expr.Index base place index) h = absurd h
    array_small (expr.Unary op place a) h = absurd h
    array_small (expr.Binary op place a b) h = absurd h
    array_small (expr.Conditional c place a b) h = absurd h
type_small t ls (expr.Unary op place a) x all h = unary_small t op h.0 x h.2 h.3
type_small t ls (expr.Binary op place a b) x all h =
    int_small t _ x (binary_answer op h.0 h.1 x h.4 h.5)
type_small t ls (expr.Conditional c place a b) x all h =
    united_small t h.2 h.3 x h.6 (type_small t ls a h.2 all h.4) (type_small t ls b h.3 all h.5)
type_small t ls (expr.Call name args) x all h = written_small t h.1 x h.3

-- each name means the same in both scopes, so each expression has the same types
abbrev pub IsSame : List Scope → List Scope → Type 0
IsSame s u = (name : List ℕ) → variable_type name s ≡ variable_type name u

mutual
  pub type_moved : (t : Tables) (s u : List Scope) (e : ExprTree) (x : StaticType) → IsSame s u
      → HasType t s e x → HasType t u e x
  type_moved t s u (expr.Number n) x same h = h
  type_moved t s u expr.Null x same h = h
  type_moved t s u (expr.Variable name) x same h = sym (same name.text) ∙ h
  type_moved t s u (expr.Root name) x same h = h
  type_moved t s u (expr.New place name) x same h = h
  type_moved t s u (expr.Arrow base place name) x same h =
      (h.0, type_moved t s u base (PointerTo h.0) same h.1, h.2)
  type_moved t s u (expr.Index base place index) x same h =
      (array_moved t s u base x same h.0, h.1, type_moved t s u index (Number h.1) same h.2)
  type_moved t s u (expr.Unary op place a) x same h =
      (h.0, type_moved t s u a h.0 same h.1, h.2, h.3)
  type_moved t s u (expr.Binary op place a b) x same h =
      (h.0, h.1, type_moved t s u a h.0 same h.2, type_moved t s u b h.1 same h.3, h.4, h.5)
  type_moved t s u (expr.Conditional c place a b) x same h = (
    h.0,
    type_moved t s u c h.0 same h.1,
    h.2,
    h.3,
    type_moved t s u a h.2 same h.4,
    type_moved t s u b h.3 same h.5,
    h.6,
  )
  type_moved t s u (expr.Call name all) x same h =
      (h.0, h.1, h.2, h.3, h.4, h.5, passed_moved t s u h.0.parameters all same h.6)

  array_moved : (t : Tables) (s u : List Scope) (e : ExprTree) (x : StaticType) → IsSame s u
      → IsArray t s e x → IsArray t u e x
  array_moved t s u (expr.Root name) x same h = h
  array_moved t s u (expr.Arrow base place name) x same h =
      (h.0, type_moved t s u base (PointerTo h.0) same h.1, h.2)
  array_moved t s u (expr.Number n) x same h = absurd h
  array_moved t s u expr.Null x same h = absurd h
  array_moved t s u (expr.Variable name) x same h = absurd h
  array_moved t s u (expr.Call name all) x same h = absurd h
  array_moved t s u (expr.New place name) x same h = absurd h
  array_moved t s u (expr.Index base place index) x same h = absurd h
  array_moved t s u (expr.Unary op place a) x same h = absurd h
  array_moved t s u (expr.Binary op place a b) x same h = absurd h
  array_moved t s u (expr.Conditional c place a b) x same h = absurd h

  pub passed_moved : (t : Tables) (s u : List Scope) (ps : List ParameterTree) (all : Arguments)
      → IsSame s u → ArePassed t s ps all → ArePassed t u ps all
  passed_moved t s u [] expr.None same h = tt
  passed_moved t s u [] (expr.More first e rest) same h = absurd h
  passed_moved t s u (p ∷ ps) expr.None same h = absurd h
  passed_moved t s u (p ∷ ps) (expr.More first e rest) same h =
      (passed_moved t s u ps rest same h.0, h.1, h.2, h.3, type_moved t s u e h.2 same h.4, h.5)
