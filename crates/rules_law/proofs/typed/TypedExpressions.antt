-- An expression that has a type breaks no rule, and the check finds that type.
use Rattle.std.proofs.Common.{◌≡◌, ℕ, suc, ◌+◌, Bool, true, false, List, [], ◌∷◌, ◌++◌, length}
use Rattle.std.proofs.Common.{refl, ap, ◌∙◌}
use Rattle.std.specs.Prelude.{◌||◌, not, nat_eq, is_some, Some}
use Rattle.std.proofs.lemmas.Bool.{not_from_false}
use Rattle.nvm_base.proofs.Tests.{same_true}
use Rattle.c_tree.specs.ExprTree.{ExprTree, Arguments, Ident}
use Rattle.c_tree.specs.ExprTree as expr
use Rattle.c_tree.specs.ItemTree.{FunctionTree, ParameterTree}
use Rattle.c_types.specs.declared.value_type.Kind.TheVariants.{Value, Array}
use Rattle.c_types.specs.declared.broken.Rule.TheVariants.{UnknownName, Mismatch, Arity, BadTx}
use Rattle.c_types.specs.Broken.{unless}
use Rattle.c_types.specs.Fits.{type_takes, comparable, joins_types, applies}
use Rattle.c_types.specs.Tables.{Tables, function_named, declared_type}
use Rattle.c_types.specs.Expressions.{Scope, member, member_kind, callee_broken, call_broken}
use Rattle.c_types.specs.Expressions.{parameters_of, parameter_type, argument_count, kind_of}
use Rattle.c_types.specs.Expressions.{all_taken, type_of, broken_in, broken_in_all, value_broken}
use Rattle.rules_law.specs.typed.Types.{StaticType, Number, PointerTo, value_type, HasValueField}
use Rattle.rules_law.specs.typed.Types.{HasArray}
use Rattle.rules_law.specs.typed.Expressions.{HasType, IsArray, ArePassed, IsTypedCall}
use Rattle.rules_law.proofs.typed.Broken.{none_both, kept}
use Rattle.rules_law.proofs.typed.Fitting.{no_any, applied_fits, joined_fits, taken_fits}
use Rattle.rules_law.proofs.typed.Fitting.{unary_answer, binary_answer}
use Rattle.rules_law.proofs.typed.Fitting.{united_fits}
use Rattle.rules_law.proofs.typed.Fitting.{pointer_is, pointer_kept, declared_is}
use Rattle.rules_law.proofs.typed.Expressions.{IsRest, whole_rest, next_rest, rest_type}

-- a field that is there
pub member_is : (t : Tables) (i : ℕ) (name : Ident) (x : StaticType) → HasValueField t i name.text x
    → member_kind t i name ≡ Value (value_type x)
member_is t i name x h =
    let is : declared_type t h.field.ty ≡ value_type x = declared_is t h.field.ty x h.typed in
    rw (h.there, h.named, h.single, is) refl

member_some : (t : Tables) (i : ℕ) (name : Ident) (x : StaticType) → HasValueField t i name.text x
    → is_some (member t i name) ≡ true
member_some t i name x h = rw (h.there, h.named) refl

pub array_is : (t : Tables) (i : ℕ) (name : Ident) (x : StaticType) → HasArray t i name.text x
    → member_kind t i name ≡ Array (value_type x) name.place
array_is t i name x h =
    let is : declared_type t h.field.ty ≡ value_type x = declared_is t h.field.ty x h.typed in
    rw (h.there, h.named, h.many, is, no_any x, h.within) refl

array_some : (t : Tables) (i : ℕ) (name : Ident) (x : StaticType) → HasArray t i name.text x
    → is_some (member t i name) ≡ true
array_some t i name x h = rw (h.there, h.named) refl

counted : (t : Tables) (s : List Scope) (ps : List ParameterTree) (all : Arguments)
    → ArePassed t s ps all → argument_count all ≡ length ps
counted t s [] expr.None h = refl
counted t s [] (expr.More first e rest) h = absurd h
counted t s (p ∷ ps) expr.None h = absurd h
counted t s (p ∷ ps) (expr.More first e rest) h = ap suc (counted t s ps rest h.0)

mutual
  pub typed_kind : (t : Tables) (s : List Scope) (e : ExprTree) (x : StaticType)
      → HasType t s e x → kind_of t s e ≡ Value (value_type x)
  typed_kind t s (expr.Number n) x h = rw h refl
  typed_kind t s expr.Null x h = rw h refl
  typed_kind t s (expr.Variable name) x h = rw h refl
  typed_kind t s (expr.Root name) x h = rw h.1 (member_is t h.0 name x h.2)
  typed_kind t s (expr.New place name) x h = ap Value (pointer_is t name.text x h)
  typed_kind t s (expr.Arrow base place name) x h =
      rw (typed_kind t s base (PointerTo h.0) h.1) (member_is t h.0 name x h.2)
  typed_kind t s (expr.Index base place index) x h =
      let a = array_kind t s base x h.0 in
      rw (a.1, typed_kind t s index (Number h.1) h.2) refl
  typed_kind t s (expr.Unary op place a) x h =
      rw (typed_kind t s a h.0 h.1, applied_fits op h.0 h.2, no_any h.0)
      (ap Value (unary_answer op h.0 x h.2 h.3))
  typed_kind t s (expr.Binary op place a b) x h =
      rw (
        typed_kind t s a h.0 h.2,
        typed_kind t s b h.1 h.3,
        joined_fits op h.0 h.1 h.4,
        no_any h.0,
        no_any h.1,
      ) (ap Value (binary_answer op h.0 h.1 x h.4 h.5))
  typed_kind t s (expr.Conditional c place a b) x h =
      let u = united_fits h.2 h.3 x h.6 in
      rw (
        typed_kind t s c h.0 h.1,
        typed_kind t s a h.2 h.4,
        typed_kind t s b h.3 h.5,
        u.0,
        no_any h.0,
        no_any h.2,
        no_any h.3,
      ) (ap Value u.1)
  typed_kind t s (expr.Call name all) x h =
      let f : FunctionTree = h.0 in
      let passed : all_taken t s f.parameters 0 all ≡ true =
      passed_taken t s f.parameters f.parameters 0 all (whole_rest f.parameters) h.6 in
      let many : nat_eq (argument_count all) (length f.parameters) ≡ true =
      rw (counted t s f.parameters all h.6) (same_true (length f.parameters)) in
      rw (h.4, h.2, many, h.5, passed) (ap Value (declared_is t h.1 x h.3))

  pub array_kind : (t : Tables) (s : List Scope) (e : ExprTree) (x : StaticType)
      → IsArray t s e x → (place : ℕ) × (kind_of t s e ≡ Array (value_type x) place)
  array_kind t s (expr.Root name) x h = (name.place, rw h.1 (array_is t h.0 name x h.2))
  array_kind t s (expr.Arrow base place name) x h =
      (name.place, rw (typed_kind t s base (PointerTo h.0) h.1) (array_is t h.0 name x h.2))
  array_kind t s (expr.Number n) x h = absurd h
  array_kind t s expr.Null x h = absurd h
  array_kind t s (expr.Variable name) x h = absurd h
  array_kind t s (expr.Call name all) x h = absurd h
  array_kind t s (expr.New place name) x h = absurd h
  array_kind t s (expr.Index base place index) x h = absurd h
  array_kind t s (expr.Unary op place a) x h = absurd h
  array_kind t s (expr.Binary op place a b) x h = absurd h
  array_kind t s (expr.Conditional c place a b) x h = absurd h

  pub passed_taken : (t : Tables) (s : List Scope) (ps qs : List ParameterTree) (i : ℕ)
      (all : Arguments) → IsRest ps i qs → ArePassed t s qs all → all_taken t s ps i all ≡ true
  passed_taken t s ps [] i expr.None rest h = refl
  passed_taken t s ps [] i (expr.More first e others) rest h = absurd h
  passed_taken t s ps (q ∷ qs) i expr.None rest h = absurd h
  passed_taken t s ps (q ∷ qs) i (expr.More first e others) rest h =
      let wanted : parameter_type t ps i ≡ value_type h.1 = rest_type t ps qs q i rest
      ∙ declared_is t q.ty h.1 h.3 in
      rw (
        wanted,
        typed_kind t s e h.2 h.4,
        taken_fits h.1 h.2 h.5,
        no_any h.2,
        passed_taken t s
            ps qs (i + 1) others (next_rest ps qs q i rest) h.0,
      ) refl

pub typed_is : (t : Tables) (s : List Scope) (e : ExprTree) (x : StaticType) → HasType t s e x
    → type_of t s e ≡ value_type x
typed_is t s e x h = rw (typed_kind t s e x h) refl

-- what is used as a value
used_kept : (t : Tables) (s : List Scope) (e : ExprTree) (x : StaticType) → HasType t s e x
    → broken_in t s e ≡ [] → value_broken t s e ≡ []
used_kept t s e x h b = rw (b, typed_kind t s e x h) refl

-- a call that the rules allow
callee_kept : (wanted : Bool) (f : FunctionTree) (n place : ℕ)
    → (not wanted || is_some f.result_type) ≡ true → nat_eq n (length f.parameters) ≡ true
    → f.tx ≡ false → callee_broken wanted f n place ≡ []
callee_kept wanted f n place gives many plain =
    none_both (unless (not wanted || is_some f.result_type) place Mismatch) _
    (kept _ place Mismatch gives)
    (none_both (unless (nat_eq n (length f.parameters)) place Arity) _ (kept _ place Arity many)
    (kept _ place BadTx (not_from_false f.tx plain)))

-- a call whose arguments break no rule
call_parts : (t : Tables) (s : List Scope) (wanted : Bool) (name : Ident) (all : Arguments)
    (f : FunctionTree) → function_named t name.text ≡ Some f
    → (not wanted || is_some f.result_type) ≡ true → f.tx ≡ false
    → ArePassed t s f.parameters all → broken_in_all t s f.parameters 0 all ≡ []
    → call_broken wanted (function_named t name.text) (argument_count all) name.place
    ++ broken_in_all t s
    (parameters_of (function_named t name.text)) 0 all ≡ []
call_parts t s wanted name all f found gives plain h passed =
    let many : nat_eq (argument_count all) (length f.parameters) ≡ true =
    rw (counted t s f.parameters all h) (same_true (length f.parameters)) in
    rw found (none_both (callee_broken wanted f (argument_count all) name.place) _
    (callee_kept wanted f (argument_count all) name.place gives many plain) passed)

mutual
  pub typed_kept : (t : Tables) (s : List Scope) (e : ExprTree) (x : StaticType)
      → HasType t s e x → broken_in t s e ≡ []
  typed_kept t s (expr.Number n) x h = refl
  typed_kept t s expr.Null x h = refl
  typed_kept t s (expr.Variable name) x h = rw h refl
  typed_kept t s (expr.Root name) x h =
      rw h.1 (kept (is_some (member t h.0 name)) name.place UnknownName
      (member_some t h.0 name x h.2))
  typed_kept t s (expr.New place name) x h = pointer_kept t name x h
  typed_kept t s (expr.Arrow base place name) x h =
      none_both (value_broken t s base) _ (used_kept t s base (PointerTo h.0) h.1
      (typed_kept t s base (PointerTo h.0) h.1))
      (rw (typed_is t s base (PointerTo h.0) h.1) (kept (is_some
      (member t h.0 name)) name.place UnknownName (member_some t h.0 name x h.2)))
  typed_kept t s (expr.Index base place index) x h =
      let a = array_kind t s base x h.0 in
      none_both (broken_in t s base) _ (array_kept t s base x h.0)
      (none_both (value_broken t s index) _ (used_kept t s index (Number h.1) h.2
      (typed_kept t s index (Number h.1) h.2)) (rw
      (a.1, typed_is t s index (Number h.1) h.2) refl))
  typed_kept t s (expr.Unary op place a) x h =
      none_both (value_broken t s a) _ (used_kept t s a h.0 h.1
      (typed_kept t s a h.0 h.1)) (kept (applies op
      (type_of t s a)) place Mismatch (rw (typed_is t s a h.0 h.1) (applied_fits op h.0 h.2)))
  typed_kept t s (expr.Binary op place a b) x h =
      none_both (value_broken t s a) _ (used_kept t s a h.0 h.2
      (typed_kept t s a h.0 h.2))
      (none_both (value_broken t s b) _ (used_kept t s b h.1 h.3
      (typed_kept t s b h.1 h.3))
      (kept (joins_types op (type_of t s a) (type_of t s b)) place Mismatch (rw
      (typed_is t s a h.0 h.2, typed_is t s b h.1 h.3) (joined_fits op h.0 h.1 h.4))))
  typed_kept t s (expr.Conditional c place a b) x h =
      none_both (value_broken t s c) _ (used_kept t s c h.0 h.1 (typed_kept t s c h.0 h.1))
      (none_both (value_broken t s a) _ (used_kept t s a h.2 h.4 (typed_kept t s a h.2 h.4))
      (none_both (value_broken t s b) _ (used_kept t s b h.3 h.5 (typed_kept t s b h.3 h.5))
      (kept (comparable (type_of t s a) (type_of t s b)) place Mismatch (rw
      (typed_is t s a h.2 h.4, typed_is t s b h.3 h.5) (united_fits h.2 h.3 x h.6).0))))
  typed_kept t s (expr.Call name all) x h =
      let f : FunctionTree = h.0 in
      let gives : is_some f.result_type ≡ true = rw h.2 refl in
      call_parts t s true name all f h.4 gives h.5 h.6 (passed_kept t s f.parameters f.parameters 0
      all (whole_rest f.parameters) h.6)

  pub array_kept : (t : Tables) (s : List Scope) (e : ExprTree) (x : StaticType)
      → IsArray t s e x → broken_in t s e ≡ []
  array_kept t s (expr.Root name) x h =
      rw h.1 (kept (is_some (member t h.0 name)) name.place UnknownName
      (array_some t h.0 name x h.2))
  array_kept t s (expr.Arrow base place name) x h =
      none_both (value_broken t s base) _ (used_kept t s base (PointerTo h.0) h.1
      (typed_kept t s base (PointerTo h.0) h.1))
      (rw (typed_is t s base (PointerTo h.0) h.1) (kept (is_some
      (member t h.0 name)) name.place UnknownName (array_some t h.0 name x h.2)))
  array_kept t s (expr.Number n) x h = absurd h
  array_kept t s expr.Null x h = absurd h
  array_kept t s (expr.Variable name) x h = absurd h
  array_kept t s (expr.Call name all) x h = absurd h
  array_kept t s (expr.New place name) x h = absurd h
  array_kept t s (expr.Index base place index) x h = absurd h
  array_kept t s (expr.Unary op place a) x h = absurd h
  array_kept t s (expr.Binary op place a b) x h = absurd h
  array_kept t s (expr.Conditional c place a b) x h = absurd h

  pub passed_kept : (t : Tables) (s : List Scope) (ps qs : List ParameterTree) (i : ℕ)
      (all : Arguments) → IsRest ps i qs → ArePassed t s qs all → broken_in_all t s ps i all ≡ []
  passed_kept t s ps [] i expr.None rest h = refl
  passed_kept t s ps [] i (expr.More first e others) rest h = absurd h
  passed_kept t s ps (q ∷ qs) i expr.None rest h = absurd h
  passed_kept t s ps (q ∷ qs) i (expr.More first e others) rest h =
      let wanted : parameter_type t ps i ≡ value_type h.1 = rest_type t ps qs q i rest
      ∙ declared_is t q.ty h.1 h.3 in
      none_both (value_broken t s e) _ (used_kept t s e h.2 h.4
      (typed_kept t s e h.2 h.4))
      (none_both (unless (type_takes (parameter_type t ps i) (type_of t s e)) first Mismatch) _
      (kept (type_takes (parameter_type t ps i) (type_of t s e)) first Mismatch (rw
      (wanted, typed_is t s e h.2 h.4) (taken_fits h.1 h.2 h.5)))
      (passed_kept t s ps qs (i + 1) others (next_rest ps qs q i rest) h.0))

pub value_kept : (t : Tables) (s : List Scope) (e : ExprTree) (x : StaticType)
    → HasType t s e x → value_broken t s e ≡ []
value_kept t s e x h = used_kept t s e x h
    (typed_kept t s e x h)

pub called_kept : (t : Tables) (s : List Scope) (name : Ident) (all : Arguments)
    → IsTypedCall t s name all
    → call_broken false (function_named t name.text) (argument_count all) name.place
    ++ broken_in_all t s
    (parameters_of (function_named t name.text)) 0 all ≡ []
called_kept t s name all h = call_parts t s false name all h.0 h.1 refl h.2 h.3
    (passed_kept t s h.0.parameters h.0.parameters 0 all (whole_rest h.0.parameters) h.3)
