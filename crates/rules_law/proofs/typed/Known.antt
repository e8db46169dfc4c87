-- Scopes whose names have types, and what the tables of a program that breaks no rule give.
use Rattle.std.proofs.Common.{◌≡◌, ℕ, zero, suc, true, false, List, [], ◌∷◌, ◌++◌, refl, sym, ◌∙◌}
use Rattle.std.specs.Prelude.{if◌then◌else◌, ◌||◌, not, is_some, slice_get, Option, None, Some}
use Rattle.std.specs.Prelude.{option_and_then}
use Rattle.std.specs.Option.{option_map_or}
use Rattle.std.proofs.lemmas.Option.{none-some, same_Some}
use Rattle.std.proofs.lemmas.Bool.{false≢true}
use Rattle.c_tree.specs.ExprTree.{Ident}
use Rattle.c_tree.specs.ItemTree.{FieldTree, FunctionTree, LengthTree, ParameterTree}
use Rattle.c_types.specs.declared.value_type.ValueType.{ValueType}
use Rattle.c_types.specs.declared.value_type.ValueType.TheVariants.{Any}
use Rattle.c_types.specs.declared.value_type.Kind.{Kind}
use Rattle.c_types.specs.declared.value_type.Kind.TheVariants.{Value, Array}
use Rattle.c_types.specs.Fits.{is_any}
use Rattle.c_types.specs.Tables.{Tables, StructTree, index_of, field_named, field_names}
use Rattle.c_types.specs.Tables.{function_named, function_names, root_struct, is_length}
use Rattle.c_types.specs.Tables.{declared_type}
use Rattle.c_types.specs.Expressions.{Scope, or_else, type_in, variable_type, field_kind, member}
use Rattle.c_types.specs.Expressions.{member_kind}
use Rattle.c_types.specs.Statements.{inner_scopes, scope_declared}
use Rattle.rules_law.specs.typed.Types.{StaticType, value_type, IsWritten, HasValueField, HasArray}
use Rattle.rules_law.specs.typed.Programs.{IsLength, IsField, IsResult}
use Rattle.rules_law.proofs.typed.Fitting.{no_any, declared_is}

-- every name of the scopes has a type
abbrev pub AreTypes : List ValueType → Type 0
AreTypes [] = Unit {0}
AreTypes (ty ∷ tys) = ((x : StaticType) × (ty ≡ value_type x)) × AreTypes tys

abbrev pub AreKnown : List Scope → Type 0
AreKnown [] = Unit {0}
AreKnown (s ∷ ss) = AreTypes s.types × AreKnown ss

type_at : (tys : List ValueType) (j : ℕ) (ty : ValueType) → AreTypes tys
    → slice_get tys j ≡ Some ty → (x : StaticType) × (ty ≡ value_type x)
type_at [] j ty h e = absurd (none-some ty e)
type_at (y ∷ tys) zero ty h e = (h.0.0, sym (same_Some y ty e) ∙ h.0.1)
type_at (y ∷ tys) (suc j) ty h e = type_at tys j ty h.1 e

type_found : (tys : List ValueType) (o : Option ℕ) (ty : ValueType) → AreTypes tys
    → option_and_then (slice_get tys) o ≡ Some ty → (x : StaticType) × (ty ≡ value_type x)
type_found tys None ty h e = absurd (none-some ty e)
type_found tys (Some j) ty h e = type_at tys j ty h e

pub variable_known : (name : List ℕ) (ss : List Scope) (ty : ValueType) → AreKnown ss
    → variable_type name ss ≡ Some ty → (x : StaticType) × (ty ≡ value_type x)
variable_known name [] ty h e = absurd (none-some ty e)
variable_known name (s ∷ ss) ty h e =
    by_scope (type_in name s) refl e (variable_known name ss ty h.1)
  where
    by_scope : (o : Option ValueType) → type_in name s ≡ o
        → or_else o (variable_type name ss) ≡ Some ty
        → (variable_type name ss ≡ Some ty → (x : StaticType) × (ty ≡ value_type x))
        → (x : StaticType) × (ty ≡ value_type x)
    by_scope None is e rest = rest e
    by_scope (Some y) is e rest = type_found s.types (index_of name s.names) ty h.0 (is ∙ e)

pub known_inside : (ss : List Scope) → AreKnown ss → AreKnown (inner_scopes ss)
known_inside ss h = (tt, h)

types_more : (tys : List ValueType) (ty : ValueType) (x : StaticType) → ty ≡ value_type x
    → AreTypes tys → AreTypes (tys ++ ty ∷ [])
types_more [] ty x is h = ((x, is), tt)
types_more (y ∷ tys) ty x is h = (h.0, types_more tys ty x is h.1)

pub known_declared : (name : List ℕ) (ty : ValueType) (x : StaticType) (ss : List Scope)
    → ty ≡ value_type x → AreKnown ss → AreKnown (scope_declared name ty ss)
known_declared name ty x [] is h = tt
known_declared name ty x (s ∷ ss) is h = (types_more s.types ty x is h.0, h.1)

-- every parameter has a type as it is written
abbrev pub AreWritten : Tables → List ParameterTree → Type 0
AreWritten t [] = Unit {0}
AreWritten t (p ∷ ps) = ((x : StaticType) × IsWritten t p.ty x) × AreWritten t ps

-- what the names of a program mean where its structs, its root and its functions break no rule
pub record IsReady (t : Tables) : Type 0 where
  pub fields : (i : ℕ) (s : StructTree) → slice_get t.structs i ≡ Some s
      → (j : ℕ) (f : FieldTree) → slice_get s.fields j ≡ Some f → IsField t s j f
  pub root : (i : ℕ) × (root_struct t ≡ Some i)
  pub results : (i : ℕ) (f : FunctionTree) → slice_get t.functions i ≡ Some f
      → IsResult t f.result_type
  pub parameters : (i : ℕ) (f : FunctionTree) → slice_get t.functions i ≡ Some f
      → AreWritten t f.parameters

-- what is found by a name stands at some place
found_at : {A : Type 0} (xs : List A) (o : Option ℕ) (x : A)
    → option_and_then (slice_get xs) o ≡ Some x → (j : ℕ) × (slice_get xs j ≡ Some x)
found_at xs None x e = absurd (none-some x e)
found_at xs (Some j) x e = (j, e)

pub function_at : (t : Tables) (name : List ℕ) (f : FunctionTree)
    → function_named t name ≡ Some f → (i : ℕ) × (slice_get t.functions i ≡ Some f)
function_at t name f e = found_at t.functions (index_of name (function_names t)) f e

pub field_at : (s : StructTree) (name : List ℕ) (f : FieldTree) → field_named s name ≡ Some f
    → (j : ℕ) × (slice_get s.fields j ≡ Some f)
field_at s name f e = found_at s.fields (index_of name (field_names s)) f e

-- a kind that is a value of a type of F, or an array with elements of a type of A
abbrev pub Means : (F A : StaticType → Type 0) → Kind → Type 0
Means F A (Value ty) = (x : StaticType) × (ty ≡ value_type x) × F x
Means F A (Array el place) = (x : StaticType) × (el ≡ value_type x) × A x

field_means : (t : Tables) (i place : ℕ) (name : List ℕ) (s : StructTree) (f : FieldTree)
    (x : StaticType) → slice_get t.structs i ≡ Some s
    → field_named s name ≡ Some f → IsWritten t f.ty x → IsLength f.len
    → Means (HasValueField t i name) (HasArray t i name) (field_kind t place f)
field_means t i place name s f x there named typed long =
    by_length f.len (declared_type t f.ty) refl (declared_is t f.ty x typed) long
  where
    by_length : (o : Option LengthTree) (ty : ValueType) → f.len ≡ o → ty ≡ value_type x
        → IsLength o
        → Means (HasValueField t i name) (HasArray t i name) (option_map_or
        (λ l. if is_any ty || not (is_length l.value) then Value Any else Array ty place) o
        (Value ty))
    by_length None ty is g ok = (
      x,
      g,
      record {
        owner = s;
        there = there;
        field = f;
        named = named;
        single = is;
        typed = typed;
      },
    )
    by_length (Some l) ty is g ok =
        let any : is_any ty ≡ false = rw g (no_any x) in
        rw (any, ok) (
          x,
          g,
          record {
            owner = s;
            there = there;
            field = f;
            named = named;
            size = l;
            many = is;
            within = ok;
            typed = typed;
          },
        )

-- a field that is there
pub member_means : (t : Tables) (i : ℕ) (name : Ident) → IsReady t
    → is_some (member t i name) ≡ true
    → Means (HasValueField t i name.text) (HasArray t i name.text) (member_kind t i name)
member_means t i name ready e = by_struct (slice_get t.structs i) refl e
  where
    by_field : (s : StructTree) (o : Option FieldTree) → slice_get t.structs i ≡ Some s
        → field_named s name.text ≡ o → is_some o ≡ true
        → Means (HasValueField t i name.text) (HasArray t i name.text) (option_map_or
        (field_kind t name.place) o (Value Any))
    by_field s None is named e = absurd (false≢true e)
    by_field s (Some f) is named e =
        let j : (j : ℕ) × (slice_get s.fields j ≡ Some f) = field_at s name.text f named in
        let ok : IsField t s j.0 f = ready.fields i s is j.0 f j.1 in
        field_means t i name.place name.text s f ok.typed.0 is named ok.typed.1 ok.long

    by_struct : (o : Option StructTree) → slice_get t.structs i ≡ o
        → is_some (option_and_then (λ s. field_named s name.text) o) ≡ true
        → Means (HasValueField t i name.text) (HasArray t i name.text) (option_map_or
        (field_kind t name.place) (option_and_then (λ s. field_named s name.text) o)
        (Value Any))
    by_struct None is e = absurd (false≢true e)
    by_struct (Some s) is e = by_field s (field_named s name.text) is refl e
