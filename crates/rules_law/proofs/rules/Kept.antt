-- The check finds the type that the rules give.
use Rattle.std.proofs.Common.{◌≡◌, ℕ, suc, ◌+◌, inl, true, List, [], ◌∷◌, length}
use Rattle.std.proofs.Common.{refl, sym, ap, ◌∙◌, subst}
use Rattle.std.specs.Prelude.{nat_eq}
use Rattle.nvm_base.proofs.Tests.{same_true}
use Rattle.c_tree.specs.ExprTree.{ExprTree, Arguments}
use Rattle.c_tree.specs.ExprTree as expr
use Rattle.c_tree.specs.ItemTree.{FunctionTree, ParameterTree}
use Rattle.c_types.specs.declared.value_type.ValueType.{ValueType}
use Rattle.c_types.specs.declared.value_type.Kind.{Kind}
use Rattle.c_types.specs.declared.value_type.Kind.TheVariants.{Value, Array}
use Rattle.c_types.specs.Fits.{type_takes}
use Rattle.c_types.specs.Tables.{Tables}
use Rattle.c_types.specs.Tables.{declared_type}
use Rattle.c_types.specs.Expressions.{Scope, type_of_kind}
use Rattle.c_types.specs.Expressions.{parameter_type, argument_count, kind_of, all_taken, type_of}
use Rattle.rules_law.specs.typed.Types.{StaticType, Number, PointerTo, value_type, IsWritten}
use Rattle.rules_law.proofs.typed.Fitting.{no_any, applied_fits, joined_fits, united_fits}
use Rattle.rules_law.proofs.typed.Fitting.{pointer_is, unary_answer, binary_answer}
use Rattle.rules_law.proofs.typed.Fitting.{declared_is}
use Rattle.rules_law.proofs.typed.Expressions.{IsRest, whole_rest, next_rest, rest_type}
use Rattle.rules_law.specs.rules.Given.{Types, GivesArray, AreTaken, EndsAt}
use Rattle.rules_law.proofs.typed.TypedExpressions.{member_is, array_is, typed_is}
use Rattle.rules_law.specs.rules.Law.{TypesLaw, ArraysLaw, TypedLaw}
use Rattle.rules_law.proofs.rules.Fits.{IsOf, can_be, takes_true}
use Rattle.rules_law.proofs.rules.Given.{Says, says, says_type, same_type, written_is}

counted : (t : Tables) (s : List Scope) (qs : List ParameterTree) (all : Arguments)
    → AreTaken t s qs all → argument_count all ≡ length qs
counted t s [] expr.None h = refl
counted t s [] (expr.More first e rest) h = absurd h
counted t s (q ∷ qs) expr.None h = absurd h
counted t s (q ∷ qs) (expr.More first e rest) h = ap suc (counted t s qs rest h.0)

mutual
  pub given_kind : (t : Tables) (s : List Scope) (e : ExprTree) (x : StaticType)
      → Types t s e x → kind_of t s e ≡ Value (value_type x)
  given_kind t s (expr.Number n) x h = rw h refl
  given_kind t s expr.Null x h = rw h refl
  given_kind t s (expr.Variable name) x h = rw h refl
  given_kind t s (expr.Root name) x h = rw h.1 (member_is t h.0 name x h.2)
  given_kind t s (expr.New place name) x h = ap Value (pointer_is t name.text x h)
  given_kind t s (expr.Arrow base place name) x h =
      rw (given_kind t s base (PointerTo h.0) h.1) (member_is t h.0 name x h.2)
  given_kind t s (expr.Index base place index) x h =
      let a = given_array t s base x h.0 in
      rw (a.1, given_kind t s index (Number h.1) h.2) refl
  given_kind t s (expr.Unary op place a) x h =
      rw (given_kind t s a h.0 h.1, applied_fits op h.0 h.2, no_any h.0)
      (ap Value (unary_answer op h.0 x h.2 h.3))
  given_kind t s (expr.Binary op place a b) x h =
      rw (
        given_kind t s a h.0 h.2,
        given_kind t s b h.1 h.3,
        joined_fits op h.0 h.1 h.4,
        no_any h.0,
        no_any h.1,
      ) (ap Value (binary_answer op h.0 h.1 x h.4 h.5))
  given_kind t s (expr.Conditional c place a b) x h =
      let u = united_fits h.2 h.3 x h.6 in
      rw (
        given_kind t s c h.0 h.1,
        given_kind t s a h.2 h.4,
        given_kind t s b h.3 h.5,
        u.0,
        no_any h.0,
        no_any h.2,
        no_any h.3,
      ) (ap Value u.1)
  given_kind t s (expr.Call name all) x h =
      let f : FunctionTree = h.0 in
      let passed : all_taken t s f.parameters 0 all ≡ true =
      given_taken t s f.parameters f.parameters 0 all (whole_rest f.parameters) h.6 in
      let many : nat_eq (argument_count all) (length f.parameters) ≡ true =
      rw (counted t s f.parameters all h.6) (same_true (length f.parameters)) in
      rw (h.4, h.2, many, h.5, passed) (ap Value (declared_is t h.1 x h.3))

  pub given_array : (t : Tables) (s : List Scope) (e : ExprTree) (x : StaticType)
      → GivesArray t s e x
      → (n : ℕ) × (kind_of t s e ≡ Array (value_type x) n) × EndsAt e n
  given_array t s (expr.Root name) x h =
      (name.place, rw h.1 (array_is t h.0 name x h.2), refl)
  given_array t s (expr.Arrow base place name) x h =
      (name.place, rw (given_kind t s base (PointerTo h.0) h.1) (array_is t h.0 name x h.2), refl)
  given_array t s (expr.Number n) x h = absurd h
  given_array t s expr.Null x h = absurd h
  given_array t s (expr.Variable name) x h = absurd h
  given_array t s (expr.Call name all) x h = absurd h
  given_array t s (expr.New place name) x h = absurd h
  given_array t s (expr.Index base place index) x h = absurd h
  given_array t s (expr.Unary op place a) x h = absurd h
  given_array t s (expr.Binary op place a b) x h = absurd h
  given_array t s (expr.Conditional c place a b) x h = absurd h

  pub given_taken : (t : Tables) (s : List Scope) (ps qs : List ParameterTree) (i : ℕ)
      (all : Arguments) → IsRest ps i qs → AreTaken t s qs all → all_taken t s ps i all ≡ true
  given_taken t s ps [] i expr.None rest h = refl
  given_taken t s ps [] i (expr.More first e others) rest h = absurd h
  given_taken t s ps (q ∷ qs) i expr.None rest h = absurd h
  given_taken t s ps (q ∷ qs) i (expr.More first e others) rest h =
      let k = given_kind t s e h.2 h.4 in
      let is : type_of t s e ≡ value_type h.2 = ap type_of_kind k in
      let good : type_takes (parameter_type t ps i) (value_type h.2) ≡ true =
      subst (λ ty. type_takes ty (value_type h.2) ≡ true) (sym (rest_type t ps qs q i rest))
      (takes_true (declared_type t q.ty) (value_type h.2) h.1 h.2
      (can_be (IsWritten t q.ty) (declared_type t q.ty) (written_is t q.ty) h.1 h.3) (inl refl)
      h.5) in
      rw (
        is,
        good,
        no_any h.2,
        given_taken t s ps qs (i + 1) others (next_rest ps qs q i rest) h.0,
      ) refl

pub given_type : (t : Tables) (s : List Scope) (e : ExprTree) (x : StaticType)
    → Types t s e x → type_of t s e ≡ value_type x
given_type t s e x h = ap type_of_kind (given_kind t s e x h)

pub type_given_of : (t : Tables) (s : List Scope) (e : ExprTree) (x : StaticType)
    → type_of t s e ≡ value_type x → Types t s e x
type_given_of t s e x is =
    says_type (Types t s e) (GivesArray t s e) (kind_of t s e) x (says t s e) is

pub gives_is : (t : Tables) (s : List Scope) (e : ExprTree) → IsOf (Types t s e) (type_of t s e)
gives_is t s e x = (type_given_of t s e x, given_type t s e x)

-- of a kind that is an array: what is said of it, for the type of its elements
array_from : (F A : StaticType → Type 0) (k : Kind) (el : ValueType) (n : ℕ) → Says F A k
    → k ≡ Array el n → (x : StaticType) × (el ≡ value_type x) × A x
array_from F A (Array e m) el n h is = (h.0, same el e m n is ∙ h.1, h.2)
  where
    same : (a b : ValueType) (m n : ℕ) → Array b m ≡ Array a n → a ≡ b
    same a b m n e = cc
array_from F A (Value ty) el n h is = absurd (cc is)

place_from : (k : Kind) (a b : ValueType) (n m : ℕ) → k ≡ Array a m → k ≡ Array b n → m ≡ n
place_from k a b n m one two = cc

pub array_at : (t : Tables) (s : List Scope) (e : ExprTree) (el : ValueType) (n : ℕ)
    → kind_of t s e ≡ Array el n
    → (x : StaticType) × (el ≡ value_type x) × GivesArray t s e x × EndsAt e n
array_at t s e el n is =
    let g = array_from (Types t s e) (GivesArray t s e) (kind_of t s e) el n (says t s e) is in
    let a = given_array t s e g.0 g.2 in (
      g.0,
      g.1,
      g.2,
      subst (EndsAt e) (place_from (kind_of t s e) (value_type g.0) el n a.0 a.1 is) a.2,
    )

array_given : (t : Tables) (s : List Scope) (e : ExprTree) (x : StaticType) (n : ℕ)
    → kind_of t s e ≡ Array (value_type x) n → GivesArray t s e x × EndsAt e n
array_given t s e x n is =
    let g = array_at t s e (value_type x) n is in
    (subst (GivesArray t s e) (same_type x g.0 g.1) g.2, g.3)

ends_same : (e : ExprTree) (m n : ℕ) → EndsAt e m → EndsAt e n → m ≡ n
ends_same (expr.Root name) m n a b = a ∙ sym b
ends_same (expr.Arrow base place name) m n a b = a ∙ sym b
ends_same (expr.Number k) m n a b = absurd a
ends_same expr.Null m n a b = absurd a
ends_same (expr.Variable name) m n a b = absurd a
ends_same (expr.Call name all) m n a b = absurd a
ends_same (expr.New place name) m n a b = absurd a
ends_same (expr.Index base place index) m n a b = absurd a
ends_same (expr.Unary op place c) m n a b = absurd a
ends_same (expr.Binary op place c d) m n a b = absurd a
ends_same (expr.Conditional c place d e) m n a b = absurd a

pub given_at : (t : Tables) (s : List Scope) (e : ExprTree) (x : StaticType) (n : ℕ)
    → GivesArray t s e x → EndsAt e n → kind_of t s e ≡ Array (value_type x) n
given_at t s e x n h ends =
    let a = given_array t s e x h in
    subst (λ n. kind_of t s e ≡ Array (value_type x) n) (ends_same e a.0 n a.2 ends) a.1

pub types_law : TypesLaw
types_law t s e x = (type_given_of t s e x, given_type t s e x)

pub arrays_law : ArraysLaw
arrays_law t s e x n = (array_given t s e x n, λ h. given_at t s e x n h.0 h.1)

pub typed_law : TypedLaw
typed_law t s e x h = type_given_of t s e x (typed_is t s e x h)
