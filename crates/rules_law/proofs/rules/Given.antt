-- The type that the check finds is the one that the rules give, also where a rule is broken.
use Rattle.std.proofs.Common.{◌≡◌, ℕ, suc, ◌+◌, inl, inr, Bool, true, false, List, [], ◌∷◌}
use Rattle.std.proofs.Common.{length, refl, sym, ap, ◌∙◌, subst}
use Rattle.std.specs.Prelude.{if◌then◌else◌, ◌&&◌, ◌||◌, not, nat_eq, nat_le, is_some, unwrap_or}
use Rattle.std.specs.Prelude.{slice_get, Option, None, Some, option_and_then}
use Rattle.std.specs.Option.{option_map_or}
use Rattle.std.proofs.lemmas.Bool.{false≢true, and_parts, not-true}
use Rattle.nvm_base.proofs.Tests.{le_from, same_from}
use Rattle.c_tree.specs.declared.expr.IntType.{IntType}
use Rattle.c_tree.specs.declared.expr.UnaryOp.{UnaryOp}
use Rattle.c_tree.specs.declared.expr.BinaryOp.{BinaryOp}
use Rattle.c_tree.specs.ExprTree.{ExprTree, Arguments, Ident}
use Rattle.c_tree.specs.ExprTree as expr
use Rattle.c_tree.specs.StmtTree.{TypeTree}
use Rattle.c_tree.specs.StmtTree as stmt
use Rattle.c_tree.specs.ItemTree.{FieldTree, FunctionTree, LengthTree, ParameterTree}
use Rattle.c_types.specs.declared.value_type.ValueType.{ValueType}
use Rattle.c_types.specs.declared.value_type.ValueType.TheVariants.{Int, Pointer, Null, Any}
use Rattle.c_types.specs.declared.value_type.Kind.{Kind}
use Rattle.c_types.specs.declared.value_type.Kind.TheVariants.{Value, Array}
use Rattle.c_types.specs.Fits.{is_any, is_int, type_takes, comparable, common_type, joins_types}
use Rattle.c_types.specs.Fits.{applies, unary_type, binary_type}
use Rattle.c_types.specs.Tables.{Tables, StructTree, struct_named, function_named, field_named}
use Rattle.c_types.specs.Tables.{root_struct, words_at, is_length, pointer_type, declared_type}
use Rattle.c_types.specs.Tables.{pointed_limit}
use Rattle.c_types.specs.Expressions.{Scope, variable_type, type_of_kind, field_kind}
use Rattle.c_types.specs.Expressions.{member_kind, arrow_kind, is_indexed, element_of, type_if}
use Rattle.c_types.specs.Expressions.{may_call, call_type, result_type, parameters_of, number_type}
use Rattle.c_types.specs.Expressions.{parameter_type, argument_count, kind_of, all_taken, type_of}
use Rattle.rules_law.specs.typed.Types.{StaticType, Number, PointerTo, NullPointer, value_type}
use Rattle.rules_law.specs.typed.Types.{IsPointer, IsWritten, HasValueField, HasArray, AcceptsType}
use Rattle.rules_law.specs.typed.Types.{Unites, Applies, Joins, GivesUnary, GivesBinary}
use Rattle.rules_law.proofs.typed.Fitting.{applied_answer, unary_gives, binary_gives, binary_same}
use Rattle.rules_law.proofs.typed.Fitting.{joined_answer, united, declared_is}
use Rattle.rules_law.proofs.typed.Expressions.{IsRest, whole_rest, next_rest, rest_type, suc_zero}
use Rattle.rules_law.proofs.typed.Expressions.{suc_same}
use Rattle.rules_law.specs.rules.Given.{Types, GivesArray, AreTaken}
use Rattle.rules_law.proofs.rules.Fits.{CanBe, IsOf, any_not, may_be, true_takes}

number_is : (n : IntType) (x : StaticType) → Int n ≡ value_type x → x ≡ Number n
number_is n (Number m) e = cc
number_is n (PointerTo i) e = absurd (cc e)
number_is n NullPointer e = absurd (cc e)

null_is : (x : StaticType) → Null ≡ value_type x → x ≡ NullPointer
null_is (Number n) e = absurd (cc e)
null_is (PointerTo i) e = absurd (cc e)
null_is NullPointer e = refl

pointed_is : (i : ℕ) (x : StaticType) → Pointer i ≡ value_type x → x ≡ PointerTo i
pointed_is i (Number n) e = absurd (cc e)
pointed_is i (PointerTo j) e = cc
pointed_is i NullPointer e = absurd (cc e)

pub same_type : (x y : StaticType) → value_type x ≡ value_type y → y ≡ x
same_type (Number n) y e = number_is n y e
same_type (PointerTo i) y e = pointed_is i y e
same_type NullPointer y e = null_is y e

static_of : (ty : ValueType) → is_any ty ≡ false → (x : StaticType) × (ty ≡ value_type x)
static_of (Int n) e = (Number n, refl)
static_of (Pointer i) e = (PointerTo i, refl)
static_of Null e = (NullPointer, refl)
static_of Any e = absurd (false≢true (sym e))

-- a type as it is written
pointer_of : (t : Tables) (name : List ℕ) (x : StaticType) → pointer_type t name ≡ value_type x
    → IsPointer t name x
pointer_of t name x e = by (struct_named t name) refl e
  where
    small : (i : ℕ) (c : Bool) → struct_named t name ≡ Some i → nat_le (words_at t i)
        (pointed_limit (root_struct t) i) ≡ c
        → (if c then Pointer i else Any) ≡ value_type x → IsPointer t name x
    small i true is le e = record {
      place = i;
      named = is;
      small = le_from (words_at t i) (pointed_limit (root_struct t) i) le;
      is = pointed_is i x e;
    }
    small i false is le e = any_not x e

    by : (o : Option ℕ) → struct_named t name ≡ o
        → option_map_or (λ i. if nat_le (words_at t i) (pointed_limit (root_struct t) i) then
        Pointer i else Any) o Any
        ≡ value_type x → IsPointer t name x
    by None is e = any_not x e
    by (Some i) is e = small i (nat_le (words_at t i) (pointed_limit (root_struct t) i)) is refl e

written_of : (t : Tables) (ty : TypeTree) (x : StaticType) → declared_type t ty ≡ value_type x
    → IsWritten t ty x
written_of t (stmt.Int n) x e = number_is n x e
written_of t (stmt.Pointer name) x e = pointer_of t name.text x e

pub written_is : (t : Tables) (ty : TypeTree) → IsOf (IsWritten t ty) (declared_type t ty)
written_is t ty x = (written_of t ty x, declared_is t ty x)

-- what a kind says of the types of F, if it is a value, and of A, if it is an array
abbrev pub Says : (F A : StaticType → Type 0) → Kind → Type 0
Says F A (Value ty) = (x : StaticType) → ty ≡ value_type x → F x
Says F A (Array el n) = (x : StaticType) × (el ≡ value_type x) × A x

pub says_type : (F A : StaticType → Type 0) (k : Kind) (x : StaticType) → Says F A k
    → type_of_kind k ≡ value_type x → F x
says_type F A (Value ty) x m e = m x e
says_type F A (Array el n) x m e = any_not x e

field_says : (t : Tables) (i place : ℕ) (name : List ℕ) (s : StructTree) (f : FieldTree)
    → slice_get t.structs i ≡ Some s → field_named s name ≡ Some f
    → Says (HasValueField t i name) (HasArray t i name) (field_kind t place f)
field_says t i place name s f there named = by f.len refl
  where
    long : (l : LengthTree) (any is : Bool) → f.len ≡ Some l
        → is_any (declared_type t f.ty) ≡ any → is_length l.value ≡ is
        → Says (HasValueField t i name) (HasArray t i name) (if any || not is then Value Any
        else Array (declared_type t f.ty) place)
    long l true is many known within = λ x e. any_not x e
    long l false false many known within = λ x e. any_not x e
    long l false true many known within =
        let x = static_of (declared_type t f.ty) known in (
          x.0,
          x.1,
          record {
            owner = s;
            there = there;
            field = f;
            named = named;
            size = l;
            many = many;
            within = within;
            typed = written_of t f.ty x.0 x.1;
          },
        )

    by : (o : Option LengthTree) → f.len ≡ o
        → Says (HasValueField t i name) (HasArray t i name) (option_map_or
        (λ l. if is_any (declared_type t f.ty) || not (is_length l.value) then Value Any
        else Array (declared_type t f.ty) place) o (Value (declared_type t f.ty)))
    by None single = λ x e. record {
      owner = s;
      there = there;
      field = f;
      named = named;
      single = single;
      typed = written_of t f.ty x e;
    }
    by (Some l) many = long l (is_any (declared_type t f.ty)) (is_length l.value) many refl
        refl

member_says : (t : Tables) (i : ℕ) (name : Ident)
    → Says (HasValueField t i name.text) (HasArray t i name.text) (member_kind t i name)
member_says t i name = by_struct (slice_get t.structs i) refl
  where
    by_field : (s : StructTree) (o : Option FieldTree) → slice_get t.structs i ≡ Some s
        → field_named s name.text ≡ o
        → Says (HasValueField t i name.text) (HasArray t i name.text) (option_map_or
        (field_kind t name.place) o (Value Any))
    by_field s None is named = λ x e. any_not x e
    by_field s (Some f) is named = field_says t i name.place name.text s f is named

    by_struct : (o : Option StructTree) → slice_get t.structs i ≡ o
        → Says (HasValueField t i name.text) (HasArray t i name.text) (option_map_or
        (field_kind t name.place) (option_and_then (λ s. field_named s name.text) o)
        (Value Any))
    by_struct None is = λ x e. any_not x e
    by_struct (Some s) is = by_field s (field_named s name.text) is refl

root_says : (t : Tables) (s : List Scope) (name : Ident) (i : ℕ) (k : Kind)
    → root_struct t ≡ Some i → Says (HasValueField t i name.text) (HasArray t i name.text) k
    → Says (Types t s (expr.Root name)) (GivesArray t s (expr.Root name)) k
root_says t s name i (Value ty) is m = λ x e. (i, is, m x e)
root_says t s name i (Array el n) is m = (m.0, m.1, (i, is, m.2))

root_by : (t : Tables) (s : List Scope) (name : Ident) (o : Option ℕ) → root_struct t ≡ o
    → Says (Types t s (expr.Root name)) (GivesArray t s (expr.Root name)) (option_map_or
    (λ i. member_kind t i name) o (Value Any))
root_by t s name None is = λ x e. any_not x e
root_by t s name (Some i) is = root_says t s name i (member_kind t i name) is (member_says t i name)

arrow_says : (t : Tables) (s : List Scope) (base : ExprTree) (place : ℕ) (name : Ident) (i : ℕ)
    (k : Kind) → Types t s base (PointerTo i)
    → Says (HasValueField t i name.text) (HasArray t i name.text) k
    → Says (Types t s (expr.Arrow base place name)) (GivesArray t s (expr.Arrow base place name)) k
arrow_says t s base place name i (Value ty) g m = λ x e. (i, g, m x e)
arrow_says t s base place name i (Array el n) g m = (m.0, m.1, (i, g, m.2))

arrow_by : (t : Tables) (s : List Scope) (base : ExprTree) (place : ℕ) (name : Ident)
    (ty : ValueType) → ((i : ℕ) → ty ≡ Pointer i → Types t s base (PointerTo i))
    → Says (Types t s (expr.Arrow base place name)) (GivesArray t s (expr.Arrow base place name))
    (arrow_kind t ty name)
arrow_by t s base place name (Int n) g = λ x e. any_not x e
arrow_by t s base place name (Pointer i) g =
    arrow_says t s base place name i (member_kind t i name) (g i refl) (member_says t i name)
arrow_by t s base place name Null g = λ x e. any_not x e
arrow_by t s base place name Any g = λ x e. any_not x e

-- a result that has a type: its rule is kept, and no part was refused
kept_of : (c : Bool) (ty : ValueType) (x : StaticType) → type_if c ty ≡ value_type x
    → (c ≡ true) × (ty ≡ value_type x)
kept_of true ty x e = (refl, e)
kept_of false ty x e = any_not x e

element_says : (F A : StaticType → Type 0) (k : Kind) (x : StaticType) → Says F A k
    → element_of k ≡ value_type x → A x
element_says F A (Array el n) x m e = subst A (same_type x m.0 (sym e ∙ m.1)) m.2
element_says F A (Value ty) x m e = any_not x e

int_only : (ty : ValueType) → is_int ty ≡ true → is_any ty ≡ false
    → (n : IntType) × (ty ≡ Int n)
int_only (Int n) i a = (n, refl)
int_only (Pointer n) i a = absurd (false≢true i)
int_only Null i a = absurd (false≢true i)
int_only Any i a = absurd (false≢true (sym a))

variable_by : (o : Option ValueType) (x : StaticType) → unwrap_or o Any ≡ value_type x
    → o ≡ Some (value_type x)
variable_by None x e = any_not x e
variable_by (Some ty) x e = ap Some e

-- an argument of a type that its parameter takes
taken_by : (a b : ValueType) (y : StaticType) → b ≡ value_type y → type_takes a b ≡ true
    → (x : StaticType) × CanBe a x × AcceptsType x y
taken_by a b y is good =
    let p = true_takes a b good in
    (p.0, p.2, subst (λ y. AcceptsType p.0 y) (same p.1 p.3) p.4)
  where
    same : (z : StaticType) → CanBe b z → z ≡ y
    same z (inl e) = same_type y z (sym is ∙ e)
    same z (inr e) = any_not y (sym e ∙ is)

-- both sides of `?` together
united_answer : (a b : ValueType) (y z x : StaticType) → a ≡ value_type y → b ≡ value_type z
    → comparable a b ≡ true → common_type a b ≡ value_type x → Unites y z x
united_answer a b y z x is same good e =
    let u = united y z (rw (is, same) at good) in
    let f : common_type (value_type y) (value_type z) ≡ value_type x = rw (is, same) at e in
    subst (Unites y z) (same_type x u.0 (sym f ∙ u.1)) u.2

-- an operator's value
unary_by : (op : UnaryOp) (a : ValueType) (y x : StaticType) → a ≡ value_type y → Applies op y
    → unary_type op a ≡ value_type x → GivesUnary op y x
unary_by op a y x is good e =
    let g = unary_gives op y good in
    let f : unary_type op (value_type y) ≡ value_type x = sym (ap (unary_type op) is) ∙ e in
    subst (GivesUnary op y) (same_type x g.0 (sym f ∙ g.1)) g.2

binary_by : (op : BinaryOp) (a b : ValueType) (y z x : StaticType) → a ≡ value_type y
    → b ≡ value_type z → Joins op y z → binary_type op a b ≡ value_type x → GivesBinary op y z x
binary_by op a b y z x is same good e =
    let g = binary_gives op y z good in
    let f : binary_type op (value_type y) (value_type z) ≡ value_type x =
    sym (binary_same op a b y z is same) ∙ e in
    subst (GivesBinary op y z) (same_type x g.0 (sym f ∙ g.1)) g.2

zero_suc : (n : ℕ) → 0 ≡ suc n → ⊥
zero_suc n e = cc

result_of : (t : Tables) (f : FunctionTree) (x : StaticType) (o : Option TypeTree)
    → f.result_type ≡ o → is_some o ≡ true → option_map_or (declared_type t) o Any ≡ value_type x
    → (ty : TypeTree) × (f.result_type ≡ Some ty) × IsWritten t ty x
result_of t f x None is some e = absurd (false≢true some)
result_of t f x (Some ty) is some e = (ty, is, written_of t ty x e)

call_by : (t : Tables) (s : List Scope) (name : Ident) (all : Arguments) (o : Option FunctionTree)
    → function_named t name.text ≡ o
    → ((f : FunctionTree) → argument_count all ≡ length f.parameters
    → all_taken t s f.parameters 0 all ≡ true → AreTaken t s f.parameters all)
    → (x : StaticType) → call_type t true o (argument_count all)
    (all_taken t s (parameters_of o) 0 all) ≡ value_type x → Types t s (expr.Call name all) x
call_by t s name all None is g x e = any_not x e
call_by t s name all (Some f) is g x e =
    let n : ℕ = argument_count all in
    let passed : Bool = all_taken t s f.parameters 0 all in
    let k = kept_of (may_call true f n && passed) (result_type t f) x e in
    let may : may_call true f n ≡ true = (and_parts (may_call true f n) passed k.0).0 in
    let two = (and_parts ((not true || is_some f.result_type) && nat_eq n (length f.parameters))
    (not f.tx) may).0 in
    let r = result_of t f x f.result_type refl
    (and_parts (not true || is_some f.result_type) (nat_eq n (length f.parameters)) two).0 k.1 in (
      f,
      r.0,
      r.1,
      r.2,
      is,
      not-true f.tx (and_parts ((not true || is_some f.result_type)
          && nat_eq n (length f.parameters)) (not f.tx) may).1,
      g f (same_from n (length f.parameters) (and_parts (not true || is_some f.result_type)
          (nat_eq n (length f.parameters)) two).1) (and_parts (may_call true f n) passed k.0).1,
    )

mutual
  pub says : (t : Tables) (s : List Scope) (e : ExprTree)
      → Says (Types t s e) (GivesArray t s e) (kind_of t s e)
  says t s (expr.Number n) = λ x e. number_is (number_type n) x e
  says t s expr.Null = λ x e. null_is x e
  says t s (expr.Variable name) = λ x e. variable_by (variable_type name.text s) x e
  says t s (expr.Root name) = root_by t s name (root_struct t) refl
  says t s (expr.New place name) = λ x e. pointer_of t name.text x e
  says t s (expr.Arrow base place name) = arrow_by t s base place name (type_of t s base)
      (λ i e. says_type (Types t s base) (GivesArray t s base) (kind_of t s base) (PointerTo i)
      (says t s base) e)
  says t s (expr.Index base place index) = λ x e.
      let i : ValueType = type_of t s index in
      let both : Bool = is_indexed (kind_of t s base) && is_int i in
      let k = kept_of (both && not (is_any i)) (element_of (kind_of t s base)) x e in
      let parts = and_parts both (not (is_any i)) k.0 in
      let indexed = and_parts (is_indexed (kind_of t s base)) (is_int i) parts.0 in
      let int = int_only i indexed.1 (not-true (is_any i) parts.1) in (
        element_says (Types t s base) (GivesArray t s base) (kind_of t s base) x (says t s base)
            k.1,
        int.0,
        says_type (Types t s index) (GivesArray t s index) (kind_of t s index) (Number int.0)
            (says t s index) int.1,
      )
  says t s (expr.Unary op place a) = λ x e.
      let y : ValueType = type_of t s a in
      let k = kept_of (applies op y && not (is_any y)) (unary_type op y) x e in
      let parts = and_parts (applies op y) (not (is_any y)) k.0 in
      let z = static_of y (not-true (is_any y) parts.1) in
      let good = applied_answer op y z.0 z.1 parts.0 in (
        z.0,
        says_type (Types t s a) (GivesArray t s a) (kind_of t s a) z.0 (says t s a) z.1,
        good,
        unary_by op y z.0 x z.1 good k.1,
      )
  says t s (expr.Binary op place a b) = λ x e.
      let y : ValueType = type_of t s a in
      let z : ValueType = type_of t s b in
      let one : Bool = joins_types op y z in
      let two : Bool = one && not (is_any y) in
      let k = kept_of (two && not (is_any z)) (binary_type op y z) x e in
      let left = (and_parts two (not (is_any z)) k.0).0 in
      let p = static_of y (not-true (is_any y) (and_parts one (not (is_any y)) left).1) in
      let q = static_of z (not-true (is_any z) (and_parts two (not (is_any z)) k.0).1) in
      let good = joined_answer op y z p.0 q.0 p.1 q.1 (and_parts one (not (is_any y)) left).0 in (
        p.0,
        q.0,
        says_type (Types t s a) (GivesArray t s a) (kind_of t s a) p.0 (says t s a) p.1,
        says_type (Types t s b) (GivesArray t s b) (kind_of t s b) q.0 (says t s b) q.1,
        good,
        binary_by op y z p.0 q.0 x p.1 q.1 good k.1,
      )
  says t s (expr.Conditional c place a b) = λ x e.
      let v : ValueType = type_of t s c in
      let y : ValueType = type_of t s a in
      let z : ValueType = type_of t s b in
      let two : Bool = not (is_any v) && not (is_any y) in
      let k = kept_of (comparable y z && (two && not (is_any z))) (common_type y z) x e in
      let parts = and_parts (comparable y z) (two && not (is_any z)) k.0 in
      let known = and_parts two (not (is_any z)) parts.1 in
      let left = and_parts (not (is_any v)) (not (is_any y)) known.0 in
      let o = static_of v (not-true (is_any v) left.0) in
      let p = static_of y (not-true (is_any y) left.1) in
      let q = static_of z (not-true (is_any z) known.1) in (
        o.0,
        says_type (Types t s c) (GivesArray t s c) (kind_of t s c) o.0 (says t s c) o.1,
        p.0,
        q.0,
        says_type (Types t s a) (GivesArray t s a) (kind_of t s a) p.0 (says t s a) p.1,
        says_type (Types t s b) (GivesArray t s b) (kind_of t s b) q.0 (says t s b) q.1,
        united_answer y z p.0 q.0 x p.1 q.1 parts.0 k.1,
      )
  says t s (expr.Call name all) = call_by t s name all (function_named t name.text) refl
      (λ f n h. taken t s f.parameters f.parameters 0 all (whole_rest f.parameters) n h)

  taken : (t : Tables) (s : List Scope) (ps qs : List ParameterTree) (i : ℕ) (all : Arguments)
      → IsRest ps i qs → argument_count all ≡ length qs → all_taken t s ps i all ≡ true
      → AreTaken t s qs all
  taken t s ps [] i expr.None rest n h = tt
  taken t s ps [] i (expr.More first e others) rest n h =
      absurd (suc_zero (argument_count others) n)
  taken t s ps (q ∷ qs) i expr.None rest n h = absurd (zero_suc (length qs) n)
  taken t s ps (q ∷ qs) i (expr.More first e others) rest n h =
      let x : ValueType = type_of t s e in
      let fits : Bool = type_takes (parameter_type t ps i) x in
      let one : Bool = fits && not (is_any x) in
      let later : Bool = all_taken t s ps (i + 1) others in
      let here = (and_parts one later h).0 in
      let y = static_of x (not-true (is_any x) (and_parts fits (not (is_any x)) here).1) in
      let good = subst (λ ty. type_takes ty x ≡ true) (rest_type t ps qs q i rest)
      (and_parts fits (not (is_any x)) here).0 in
      let p = taken_by (declared_type t q.ty) x y.0 y.1 good in (
        taken t s ps qs (i + 1) others (next_rest ps qs q i rest)
            (suc_same (argument_count others) (length qs) n) (and_parts one later h).1,
        p.0,
        y.0,
        may_be (IsWritten t q.ty) (declared_type t q.ty) (written_is t q.ty) p.0 p.1,
        says_type (Types t s e) (GivesArray t s e) (kind_of t s e) y.0 (says t s e) y.1,
        p.2,
      )
