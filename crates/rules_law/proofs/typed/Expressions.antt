-- An expression that breaks no rule has a type, and it is the one that the check finds.
use Rattle.std.proofs.Common.{◌≡◌, ℕ, suc, ◌+◌, Bool, true, false, List, [], ◌∷◌, ◌++◌, length}
use Rattle.std.proofs.Common.{refl, sym, ap, ◌∙◌, arith}
use Rattle.std.specs.Prelude.{◌&&◌, ◌||◌, not, nat_eq, is_some, unwrap_or, slice_get, Option, None}
use Rattle.std.specs.Prelude.{Some}
use Rattle.std.specs.Option.{option_map_or}
use Rattle.std.proofs.lemmas.Bool.{false≢true, and_parts, not-true}
use Rattle.nvm_base.proofs.Tests.{same_from, some_of}
use Rattle.c_tree.specs.ExprTree.{ExprTree, Arguments, Ident}
use Rattle.c_tree.specs.ExprTree as expr
use Rattle.c_tree.specs.StmtTree.{TypeTree}
use Rattle.c_tree.specs.ItemTree.{FunctionTree, ParameterTree}
use Rattle.c_types.specs.declared.value_type.ValueType.{ValueType}
use Rattle.c_types.specs.declared.value_type.ValueType.TheVariants.{Any}
use Rattle.c_types.specs.declared.value_type.Kind.{Kind}
use Rattle.c_types.specs.declared.value_type.Kind.TheVariants.{Value, Array}
use Rattle.c_types.specs.declared.broken.Broken.{Broken}
use Rattle.c_types.specs.declared.broken.Rule.TheVariants.{UnknownName, Mismatch, Arity, BadTx}
use Rattle.c_types.specs.Broken.{broken_at, unless}
use Rattle.c_types.specs.Fits.{is_any, is_int, type_takes, comparable, common_type, joins_types}
use Rattle.c_types.specs.Fits.{applies, unary_type, binary_type}
use Rattle.c_types.specs.Tables.{Tables, function_named, root_struct, declared_type}
use Rattle.c_types.specs.Expressions.{Scope, variable_type, type_of_kind, member, member_kind}
use Rattle.c_types.specs.Expressions.{with_unindexed, arrow_kind, arrow_broken, is_indexed}
use Rattle.c_types.specs.Expressions.{element_of, type_if, conditional_type, call_broken, call_type}
use Rattle.c_types.specs.Expressions.{result_type, number_type}
use Rattle.c_types.specs.Expressions.{parameters_of, parameter_type, argument_count, kind_of}
use Rattle.c_types.specs.Expressions.{all_taken, type_of, broken_in, broken_in_all, value_broken}
use Rattle.c_types.proofs.Unbroken.{none_left, none_right, some_none, holds}
use Rattle.rules_law.specs.typed.Types.{StaticType, Number, PointerTo, NullPointer, value_type}
use Rattle.rules_law.specs.typed.Types.{IsWritten, HasValueField, HasArray, IsNumber}
use Rattle.rules_law.specs.typed.Expressions.{HasType, IsArray, ArePassed, IsTyped, IsTypedCall}
use Rattle.rules_law.specs.typed.Programs.{IsResult}
use Rattle.rules_law.proofs.typed.Fitting.{no_any, number_only, applied_answer, joined_answer}
use Rattle.rules_law.proofs.typed.Fitting.{united, unary_gives, binary_gives, binary_same}
use Rattle.rules_law.proofs.typed.Fitting.{taken_answer, pointer_written, pointer_is, declared_is}
use Rattle.rules_law.proofs.typed.Known.{AreKnown, variable_known, AreWritten, IsReady, function_at}
use Rattle.rules_law.proofs.typed.Known.{Means, member_means}

value_means : (F A : StaticType → Type 0) (k : Kind) (b : List Broken) → Means F A k
    → with_unindexed b k ≡ [] → (x : StaticType) × (type_of_kind k ≡ value_type x) × F x
value_means F A (Value ty) b m e = m
value_means F A (Array el place) b m e =
    absurd (some_none place Mismatch (none_right b (broken_at place Mismatch) e))

not_indexed : (x : StaticType) → is_indexed (Value (value_type x)) ≡ true → ⊥
not_indexed (Number n) e = false≢true e
not_indexed (PointerTo i) e = false≢true e
not_indexed NullPointer e = false≢true e

array_means : (F A : StaticType → Type 0) (k : Kind) → Means F A k → is_indexed k ≡ true
    → (x : StaticType) × (element_of k ≡ value_type x) × A x
array_means F A (Array el place) m e = m
array_means F A (Value ty) m e = absurd (not_indexed m.0 (rw (← m.1) e))

-- that `->` reaches
arrow_means : (t : Tables) (base : StaticType) (place : ℕ) (name : Ident) → IsReady t
    → arrow_broken t (value_type base) place name ≡ []
    → (i : ℕ) × (base ≡ PointerTo i)
    × Means (HasValueField t i name.text) (HasArray t i name.text) (arrow_kind t
    (value_type base) name)
arrow_means t (Number n) place name ready e = absurd (some_none place Mismatch e)
arrow_means t (PointerTo i) place name ready e = (
  i,
  refl,
  member_means t i name ready (holds (is_some
      (member t i name)) name.place UnknownName e),
)
arrow_means t NullPointer place name ready e = absurd (some_none place Mismatch e)

-- a function that may be called, and what the rules of a call ask of it
pub record IsCallee (wanted : Bool) (o : Option FunctionTree) (n : ℕ) : Type 0 where
  pub callee : FunctionTree
  pub found : o ≡ Some callee
  pub gives : (not wanted || is_some callee.result_type) ≡ true
  pub counted : nat_eq n (length callee.parameters) ≡ true
  pub plain : not callee.tx ≡ true

pub callee_of : (wanted : Bool) (o : Option FunctionTree) (n place : ℕ)
    → call_broken wanted o n place ≡ [] → IsCallee wanted o n
callee_of wanted None n place e = absurd (some_none place UnknownName e)
callee_of wanted (Some f) n place e =
    let a = unless (not wanted || is_some f.result_type) place Mismatch in
    let b = unless (nat_eq n (length f.parameters)) place Arity in
    let c = unless (not f.tx) place BadTx in
    record {
      callee = f;
      found = refl;
      gives = holds (not wanted || is_some f.result_type) place Mismatch (none_left a _ e);
      counted = holds (nat_eq n (length f.parameters)) place Arity (none_left b c
          (none_right a _ e));
      plain = holds (not f.tx) place BadTx (none_right b c (none_right a _ e));
    }

-- the result of a function that gives one
result_is : (t : Tables) (o : Option TypeTree) → is_some o ≡ true → IsResult t o
    → (ty : TypeTree) × (o ≡ Some ty) × (x : StaticType) × IsWritten t ty x
result_is t None e r = absurd (false≢true e)
result_is t (Some ty) e r = (ty, refl, r.0, r.1)

-- the parameters from place i on are these
abbrev pub IsRest : List ParameterTree → ℕ → List ParameterTree → Type 0
IsRest ps i qs = (j : ℕ) → slice_get ps (i + j) ≡ slice_get qs j

pub whole_rest : (ps : List ParameterTree) → IsRest ps 0 ps
whole_rest ps j = ap (slice_get ps) (same j)
  where
    same : (j : ℕ) → 0 + j ≡ j
    same j = omega arith

pub next_rest : (ps qs : List ParameterTree) (q : ParameterTree) (i : ℕ) → IsRest ps i (q ∷ qs)
    → IsRest ps (i + 1) qs
next_rest ps qs q i h j = ap (slice_get ps) (next i j) ∙ h (suc j)
  where
    next : (i j : ℕ) → (i + 1) + j ≡ i + suc j
    next i j = omega arith

pub rest_type : (t : Tables) (ps qs : List ParameterTree) (q : ParameterTree) (i : ℕ)
    → IsRest ps i (q ∷ qs) → parameter_type t ps i ≡ declared_type t q.ty
rest_type t ps qs q i h =
    ap (λ (o : Option ParameterTree). option_map_or (λ p. declared_type t p.ty) o Any) (ap
    (slice_get ps) (same i) ∙ h 0)
  where
    same : (i : ℕ) → i ≡ i + 0
    same i = omega arith

pub suc_zero : (n : ℕ) → suc n ≡ 0 → ⊥
suc_zero n e = cc

pub suc_same : (m n : ℕ) → suc m ≡ suc n → m ≡ n
suc_same m n e = cc

-- a field of the root, and one reached by `->`
of_root : (t : Tables) (s : List Scope) (name : Ident) (i : ℕ) (k : Kind)
    → root_struct t ≡ Some i → Means (HasValueField t i name.text) (HasArray t i name.text) k
    → Means (HasType t s (expr.Root name)) (IsArray t s (expr.Root name)) k
of_root t s name i (Value ty) is m = (m.0, m.1, (i, is, m.2))
of_root t s name i (Array el place) is m = (m.0, m.1, (i, is, m.2))

of_arrow : (t : Tables) (s : List Scope) (base : ExprTree) (place : ℕ) (name : Ident) (i : ℕ)
    (k : Kind) → HasType t s base (PointerTo i)
    → Means (HasValueField t i name.text) (HasArray t i name.text) k
    → Means (HasType t s (expr.Arrow base place name)) (IsArray t s (expr.Arrow base place name)) k
of_arrow t s base place name i (Value ty) h m = (m.0, m.1, (i, h, m.2))
of_arrow t s base place name i (Array el p) h m = (m.0, m.1, (i, h, m.2))

-- the type of a call that the rules allow
call_typed : (t : Tables) (s : List Scope) (all : Arguments) (o : Option FunctionTree)
    (f : FunctionTree) (x : StaticType) → o ≡ Some f → is_some f.result_type ≡ true
    → nat_eq (argument_count all) (length f.parameters) ≡ true → not f.tx ≡ true
    → all_taken t s f.parameters 0 all ≡ true → result_type t f ≡ value_type x
    → call_type t true o (argument_count all) (all_taken t s (parameters_of o) 0 all) ≡ value_type x
call_typed t s all o f x found gives counted plain passed typed =
    rw (found, gives, counted, plain, passed) typed

-- a type where its rule holds and no part was refused
type_if_is : (b c : Bool) (ty : ValueType) (x : StaticType) → b ≡ true → c ≡ false
    → ty ≡ value_type x → type_if (b && not c) ty ≡ value_type x
type_if_is b c ty x good any is = rw (good, any) is

type_if_two : (b c d : Bool) (ty : ValueType) (x : StaticType) → b ≡ true → c ≡ false → d ≡ false
    → ty ≡ value_type x → type_if ((b && not c) && not d) ty ≡ value_type x
type_if_two b c d ty x good any none is = rw (good, any, none) is

-- both sides of `?` together
compared_types : (a b : ValueType) (y z : StaticType) → a ≡ value_type y → b ≡ value_type z
    → comparable a b ≡ true → comparable (value_type y) (value_type z) ≡ true
compared_types a b y z is same good = rw (is, same) at good

conditional_is : (c a b : ValueType) (v y z x : StaticType) → c ≡ value_type v
    → a ≡ value_type y → b ≡ value_type z → comparable (value_type y) (value_type z) ≡ true
    → common_type (value_type y) (value_type z) ≡ value_type x
    → conditional_type c a b ≡ value_type x
conditional_is c a b v y z x hc ha hb good is =
    rw (hc, ha, hb, good, no_any v, no_any y, no_any z) is

-- what is used as a value, by what it denotes where it breaks no rule
value_from : (t : Tables) (s : List Scope) (e : ExprTree)
    → (broken_in t s e ≡ [] → Means (HasType t s e) (IsArray t s e) (kind_of t s e))
    → value_broken t s e ≡ []
    → (x : StaticType) × (type_of t s e ≡ value_type x) × HasType t s e x
value_from t s e means b =
    value_means (HasType t s e) (IsArray t s e) (kind_of t s e) (broken_in t s e)
    (means (none_left (broken_in t s e) _ b)) b

mutual
  pub kind_means : (t : Tables) (s : List Scope) (e : ExprTree) → IsReady t → AreKnown s
      → broken_in t s e ≡ [] → Means (HasType t s e) (IsArray t s e) (kind_of t s e)
  kind_means t s (expr.Number n) ready known b = (Number (number_type n), refl, refl)
  kind_means t s expr.Null ready known b = (NullPointer, refl, refl)
  kind_means t s (expr.Variable name) ready known b =
      let there : (ty : ValueType)
      × (variable_type name.text s ≡ Some ty) =
      some_of (variable_type name.text s) (holds (is_some
      (variable_type name.text s)) name.place UnknownName b) in
      let typed : (x : StaticType)
      × (there.0 ≡ value_type x) = variable_known name.text s there.0 known there.1 in
      let whole : variable_type name.text s ≡ Some (value_type typed.0) = there.1
      ∙ ap Some typed.1 in
      (typed.0, ap (λ (o : Option ValueType). unwrap_or o Any) whole, whole)
  kind_means t s (expr.Root name) ready known b =
      let i : ℕ = ready.root.0 in
      let is : root_struct t ≡ Some i = ready.root.1 in
      let there : is_some (member t i name) ≡ true =
      holds (is_some (member t i name)) name.place UnknownName (rw is at b) in
      rw is (of_root t s name i (member_kind t i name) is (member_means t i name ready there))
  kind_means t s (expr.New place name) ready known b =
      let p = pointer_written t name b in
      (p.0, pointer_is t name.text p.0 p.1, p.1)
  kind_means t s (expr.Arrow base place name) ready known b =
      let u : value_broken t s base ≡ [] = none_left (value_broken t s base) _ b in
      let v : (x : StaticType) × (type_of t s base ≡ value_type x)
      × HasType t s base x = value_from t s base (kind_means t s base ready known) u in
      let rest : arrow_broken t (type_of t s base) place name ≡ [] =
      none_right (value_broken t s base) _ b in
      let m = arrow_means t v.0 place name ready (rw v.1 at rest) in
      rw v.1 (of_arrow t s base place name m.0 (arrow_kind t (value_type v.0) name)
      (rw m.1 at v.2) m.2)
  kind_means t s (expr.Index base place index) ready known b =
      let b1 : broken_in t s base ≡ [] = none_left (broken_in t s base) _ b in
      let rest = none_right (broken_in t s base) _ b in
      let b2 : value_broken t s index ≡ [] = none_left (value_broken t s index) _ rest in
      let both : (is_indexed (kind_of t s base) && is_int (type_of t s index)) ≡ true =
      holds (is_indexed (kind_of t s base) && is_int (type_of t s index)) place Mismatch
      (none_right (value_broken t s index) _ rest) in
      let a = array_means (HasType t s base) (IsArray t s base) (kind_of t s base)
      (kind_means t s base ready known b1) (and_parts _ _ both).0 in
      let v : (x : StaticType) × (type_of t s index ≡ value_type x)
      × HasType t s index x = value_from t s index (kind_means t s index ready known) b2 in
      let int : is_int (type_of t s index) ≡ true =
      (and_parts (is_indexed (kind_of t s base)) _ both).1 in
      let number : IsNumber v.0 = number_only v.0 (rw v.1 at int) in
      let any : is_any (type_of t s index) ≡ false = rw v.1 (no_any v.0) in (
        a.0,
        type_if_is (is_indexed (kind_of t s base) && is_int (type_of t s index))
            (is_any (type_of t s index)) (element_of (kind_of t s base)) a.0 both any a.1,
        (a.2, number.0, rw number.1 at v.2),
      )
  kind_means t s (expr.Unary op place a) ready known b =
      let u : value_broken t s a ≡ [] = none_left (value_broken t s a) _ b in
      let v : (x : StaticType) × (type_of t s a ≡ value_type x)
      × HasType t s a x = value_from t s a (kind_means t s a ready known) u in
      let good : applies op (type_of t s a) ≡ true =
      holds (applies op (type_of t s a)) place Mismatch (none_right
      (value_broken t s a) _ b) in
      let any : is_any (type_of t s a) ≡ false = rw v.1 (no_any v.0) in
      let applied = applied_answer op (type_of t s a) v.0 v.1 good in
      let g = unary_gives op v.0 applied in (
        g.0,
        type_if_is (applies op (type_of t s a)) (is_any (type_of t s a))
            (unary_type op (type_of t s a)) g.0 good any (ap (unary_type op) v.1 ∙ g.1),
        (v.0, v.2, applied, g.2),
      )
  kind_means t s (expr.Binary op place x y) ready known b =
      let u : value_broken t s x ≡ [] = none_left (value_broken t s x) _ b in
      let rest = none_right (value_broken t s x) _ b in
      let w : value_broken t s y ≡ [] = none_left (value_broken t s y) _ rest in
      let l : (z : StaticType) × (type_of t s x ≡ value_type z)
      × HasType t s x z = value_from t s x (kind_means t s x ready known) u in
      let r : (z : StaticType) × (type_of t s y ≡ value_type z)
      × HasType t s y z = value_from t s y (kind_means t s y ready known) w in
      let good : joins_types op (type_of t s x) (type_of t s y) ≡ true =
      holds (joins_types op (type_of t s x) (type_of t s y)) place Mismatch (none_right
      (value_broken t s y) _ rest) in
      let any : is_any (type_of t s x) ≡ false = rw l.1 (no_any l.0) in
      let none : is_any (type_of t s y) ≡ false = rw r.1 (no_any r.0) in
      let joined = joined_answer op (type_of t s x) (type_of t s y) l.0 r.0 l.1 r.1 good in
      let g = binary_gives op l.0 r.0 joined in
      let is = binary_same op (type_of t s x) (type_of t s y) l.0 r.0 l.1 r.1 in (
        g.0,
        type_if_two (joins_types op (type_of t s x) (type_of t s y)) (is_any (type_of t s x))
            (is_any (type_of t s y)) (binary_type op (type_of t s x) (type_of t s y)) g.0 good any
            none (is ∙ g.1),
        (l.0, r.0, l.2, r.2, joined, g.2),
      )
  kind_means t s (expr.Conditional c place x y) ready known b =
      let rest = none_right (value_broken t s c) _ b in
      let last = none_right (value_broken t s x) _ rest in
      let v : (z : StaticType) × (type_of t s c ≡ value_type z)
      × HasType t s c z = value_from t s c (kind_means t s c ready known)
      (none_left (value_broken t s c) _ b) in
      let l : (z : StaticType) × (type_of t s x ≡ value_type z)
      × HasType t s x z = value_from t s x (kind_means t s x ready known)
      (none_left (value_broken t s x) _ rest) in
      let r : (z : StaticType) × (type_of t s y ≡ value_type z)
      × HasType t s y z = value_from t s y (kind_means t s y ready known)
      (none_left (value_broken t s y) _ last) in
      let good : comparable (type_of t s x) (type_of t s y) ≡ true =
      holds (comparable (type_of t s x) (type_of t s y)) place Mismatch (none_right
      (value_broken t s y) _ last) in
      let fit = compared_types (type_of t s x) (type_of t s y) l.0 r.0 l.1 r.1 good in
      let u = united l.0 r.0 fit in (
        u.0,
        conditional_is (type_of t s c) (type_of t s x) (type_of t s y) v.0 l.0 r.0 u.0 v.1 l.1 r.1
            fit u.1,
        (v.0, v.2, l.0, r.0, l.2, r.2, u.2),
      )
  kind_means t s (expr.Call name all) ready known b =
      let o : Option FunctionTree = function_named t name.text in
      let c : IsCallee true o (argument_count all) =
      callee_of true o (argument_count all) name.place (none_left (call_broken true o
      (argument_count all) name.place) _ b) in
      let f : FunctionTree = c.callee in
      let at_place : (i : ℕ)
      × (slice_get t.functions i ≡ Some f) = function_at t name.text f c.found in
      let later : broken_in_all t s (parameters_of o) 0 all ≡ [] =
      none_right (call_broken true o (argument_count all) name.place) _ b in
      let passed : (all_taken t s f.parameters 0 all ≡ true)
      × ArePassed t s f.parameters all =
      arguments_are t s f.parameters f.parameters 0 all ready known (whole_rest f.parameters)
      (same_from _ _ c.counted) (ready.parameters at_place.0 f at_place.1) (rw c.found at later) in
      let gives : is_some f.result_type ≡ true = c.gives in
      let r = result_is t f.result_type gives (ready.results at_place.0 f at_place.1) in
      let typed : result_type t f ≡ value_type r.2 =
      ap (λ (ty : Option TypeTree). option_map_or (declared_type t) ty Any) r.1
      ∙ declared_is t r.0 r.2 r.3 in (
        r.2,
        call_typed t s all o f r.2 c.found gives c.counted c.plain passed.0 typed,
        (f, r.0, r.1, r.3, c.found, not-true f.tx c.plain, passed.1),
      )

  -- the arguments from place i on, for these parameters
  pub arguments_are : (t : Tables) (s : List Scope) (ps qs : List ParameterTree) (i : ℕ)
      (all : Arguments) → IsReady t → AreKnown s → IsRest ps i qs → argument_count all ≡ length qs
      → AreWritten t qs
      → broken_in_all t s ps i all ≡ [] → (all_taken t s ps i all ≡ true) × ArePassed t s qs all
  arguments_are t s ps [] i expr.None ready known rest same written b = (refl, tt)
  arguments_are t s ps [] i (expr.More first e others) ready known rest same written b =
      absurd (suc_zero (argument_count others) same)
  arguments_are t s ps (q ∷ qs) i expr.None ready known rest same written b =
      absurd (suc_zero (length qs) (sym same))
  arguments_are t s ps (q ∷ qs) i (expr.More first e others) ready known rest same written b =
      let u : value_broken t s e ≡ [] = none_left (value_broken t s e) _ b in
      let later = none_right (value_broken t s e) _ b in
      let v : (x : StaticType) × (type_of t s e ≡ value_type x)
      × HasType t s e x = value_from t s e (kind_means t s e ready known) u in
      let good : type_takes (parameter_type t ps i) (type_of t s e) ≡ true =
      holds (type_takes (parameter_type t ps i) (type_of t s e)) first Mismatch (none_left
      (unless (type_takes (parameter_type t ps i) (type_of t s e)) first Mismatch) _ later) in
      let any : is_any (type_of t s e) ≡ false = rw v.1 (no_any v.0) in
      let x : StaticType = written.0.0 in
      let wanted : parameter_type t ps i ≡ value_type x = rest_type t ps qs q i rest
      ∙ declared_is t q.ty x written.0.1 in
      let more : (all_taken t s ps (i + 1) others ≡ true)
      × ArePassed t s qs others =
      arguments_are t s ps qs (i + 1) others ready known (next_rest ps qs q i rest)
      (suc_same (argument_count others) (length qs) same) written.1
      (none_right (unless (type_takes (parameter_type t ps i)
      (type_of t s e)) first Mismatch) _ later) in (
        rw (good, any, more.0) refl,
        (
          more.1,
          x,
          v.0,
          written.0.1,
          v.2,
          taken_answer
              (parameter_type t ps i) (type_of t s e) x v.0 wanted v.1 good,
        ),
      )

-- what is used as a value
pub value_is : (t : Tables) (s : List Scope) (e : ExprTree) → IsReady t → AreKnown s
    → value_broken t s e ≡ []
    → (x : StaticType) × (type_of t s e ≡ value_type x) × HasType t s e x
value_is t s e ready known b = value_from t s e (kind_means t s e ready known) b

-- a call whose result isn't used
pub call_is : (t : Tables) (s : List Scope) (name : Ident) (all : Arguments) → IsReady t
    → AreKnown s
    → call_broken false (function_named t name.text) (argument_count all) name.place
    ++ broken_in_all t s
    (parameters_of (function_named t name.text)) 0 all ≡ [] → IsTypedCall t s name all
call_is t s name all ready known b =
    let o : Option FunctionTree = function_named t name.text in
    let c : IsCallee false o (argument_count all) =
    callee_of false o (argument_count all) name.place (none_left (call_broken false o
    (argument_count all) name.place) _ b) in
    let f : FunctionTree = c.callee in
    let at_place : (i : ℕ)
    × (slice_get t.functions i ≡ Some f) = function_at t name.text f c.found in
    let later : broken_in_all t s (parameters_of o) 0 all ≡ [] =
    none_right (call_broken false o (argument_count all) name.place) _ b in
    let passed = arguments_are t s f.parameters f.parameters 0 all ready known
    (whole_rest f.parameters) (same_from _ _ c.counted)
    (ready.parameters at_place.0 f at_place.1) (rw c.found at later) in
    (f, c.found, not-true f.tx c.plain, passed.1)

pub typed_is : (t : Tables) (s : List Scope) (e : ExprTree) → IsReady t → AreKnown s
    → value_broken t s e ≡ [] → IsTyped t s e
typed_is t s e ready known b =
    let v : (x : StaticType) × (type_of t s e ≡ value_type x)
    × HasType t s e x = value_is t s e ready known b in
    (v.0, v.2)
