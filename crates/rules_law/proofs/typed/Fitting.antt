-- What fits by the check fits by the rules, and the other way round.
use Rattle.std.proofs.Common.{◌≡◌, ℕ, ◌⊎◌, ⊎_elim, inl, inr, true, false, List, [], refl, sym, ap}
use Rattle.std.proofs.Common.{◌∙◌}
use Rattle.std.specs.Prelude.{◌&&◌, nat_le, Option, None, Some}
use Rattle.std.specs.Option.{option_map_or}
use Rattle.std.proofs.lemmas.Bool.{false≢true, and_parts}
use Rattle.nvm_base.proofs.Tests.{le_from, le_true, same_from, same_true}
use Rattle.c_tree.specs.declared.expr.IntType.{IntType}
use Rattle.c_tree.specs.declared.expr.IntType.TheVariants.{Signed, Unsigned}
use Rattle.c_tree.specs.declared.expr.UnaryOp.{UnaryOp}
use Rattle.c_tree.specs.declared.expr.UnaryOp.TheVariants as unary
use Rattle.c_tree.specs.declared.expr.BinaryOp.{BinaryOp}
use Rattle.c_tree.specs.declared.expr.BinaryOp.TheVariants as binary
use Rattle.c_tree.specs.ExprTree.{Ident}
use Rattle.c_tree.specs.StmtTree.{TypeTree}
use Rattle.c_tree.specs.StmtTree as stmt
use Rattle.c_types.specs.declared.value_type.ValueType.{ValueType}
use Rattle.c_types.specs.declared.value_type.ValueType.TheVariants.{Int}
use Rattle.c_types.specs.declared.broken.Rule.TheVariants.{UnknownName, TooBig}
use Rattle.c_types.specs.declared.fault.LimitKind.TheVariants as limit
use Rattle.c_types.specs.Broken.{broken_at, unless}
use Rattle.c_types.specs.Fits.{is_any, is_int, is_pointer, is_null, is_pointer_to, type_takes}
use Rattle.c_types.specs.Fits.{comparable, common_type, joins_types, applies, int_of, common_int}
use Rattle.c_types.specs.Fits.{unary_type, binary_type}
use Rattle.c_types.specs.Tables.{Tables, struct_named, words_at, pointer_type, declared_type}
use Rattle.c_types.specs.Tables.{root_struct, pointed_limit}
use Rattle.c_types.specs.Expressions.{pointer_broken}
use Rattle.c_types.specs.Statements.{type_broken}
use Rattle.c_types.proofs.Unbroken.{some_none, holds}
use Rattle.rules_law.specs.typed.Types.{StaticType, Number, PointerTo, NullPointer, value_type}
use Rattle.rules_law.specs.typed.Types.{IsPointer, IsWritten, Applies, Compares, Joins, AcceptsType}
use Rattle.rules_law.specs.typed.Types.{IsNumber, AreNumbers, HaveInCommon, GivesUnary, GivesBinary}
use Rattle.rules_law.specs.typed.Types.{Unites}

pub no_any : (x : StaticType) → is_any (value_type x) ≡ false
no_any (Number n) = refl
no_any (PointerTo i) = refl
no_any NullPointer = refl

pub number_only : (x : StaticType) → is_int (value_type x) ≡ true → IsNumber x
number_only (Number n) e = (n, refl)
number_only (PointerTo i) e = absurd (false≢true e)
number_only NullPointer e = absurd (false≢true e)

pub number_fits : (x : StaticType) → IsNumber x → is_int (value_type x) ≡ true
number_fits x h = rw h.1 refl

null_only : (x : StaticType) → is_null (value_type x) ≡ true → x ≡ NullPointer
null_only (Number n) e = absurd (false≢true e)
null_only (PointerTo i) e = absurd (false≢true e)
null_only NullPointer e = refl

pub pointer_only : (x : StaticType) → is_pointer (value_type x) ≡ true → (i : ℕ) × (x ≡ PointerTo i)
pointer_only (Number n) e = absurd (false≢true e)
pointer_only (PointerTo i) e = (i, refl)
pointer_only NullPointer e = absurd (false≢true e)

pointer_to : (i : ℕ) (y : StaticType) → is_pointer_to i (value_type y) ≡ true
    → (y ≡ PointerTo i) ⊎ (y ≡ NullPointer)
pointer_to i (Number n) e = absurd (false≢true e)
pointer_to i (PointerTo j) e = inl (ap PointerTo (sym (same_from i j e)))
pointer_to i NullPointer e = inr refl

pointer_fits : (i : ℕ) (y : StaticType) → (y ≡ PointerTo i) ⊎ (y ≡ NullPointer)
    → is_pointer_to i (value_type y) ≡ true
pointer_fits i y h = ⊎_elim
    (λ (e : y ≡ PointerTo i). rw (e, same_true i) refl)
    (λ (e : y ≡ NullPointer). rw e refl) h

pub numbers_only : (x y : StaticType) → (is_int (value_type x) && is_int (value_type y)) ≡ true
    → AreNumbers x y
numbers_only x y e =
    (number_only x (and_parts _ _ e).0, number_only y (and_parts (is_int (value_type x)) _ e).1)

pub numbers_fit : (x y : StaticType) → AreNumbers x y
    → (is_int (value_type x) && is_int (value_type y)) ≡ true
numbers_fit x y h = rw (h.0.1, h.1.1) refl

pub applied : (op : UnaryOp) (x : StaticType) → applies op (value_type x) ≡ true → Applies op x
applied unary.Not x e = tt
applied unary.Negate x e = number_only x e
applied unary.Complement x e = number_only x e
applied (unary.Cast n) x e = number_only x e

pub applied_fits : (op : UnaryOp) (x : StaticType) → Applies op x → applies op (value_type x) ≡ true
applied_fits unary.Not x h = refl
applied_fits unary.Negate x h = number_fits x h
applied_fits unary.Complement x h = number_fits x h
applied_fits (unary.Cast n) x h = number_fits x h

compared : (x y : StaticType) → comparable (value_type x) (value_type y) ≡ true → Compares x y
compared (Number n) y e = number_only y e
compared (PointerTo i) y e = pointer_to i y e
compared NullPointer (Number n) e = absurd (false≢true e)
compared NullPointer (PointerTo i) e = inr (i, refl)
compared NullPointer NullPointer e = inl refl

compared_fits : (x y : StaticType) → Compares x y → comparable (value_type x) (value_type y) ≡ true
compared_fits (Number n) y h = number_fits y h
compared_fits (PointerTo i) y h = pointer_fits i y h
compared_fits NullPointer y h = ⊎_elim
    (λ (e : y ≡ NullPointer). rw e refl)
    (λ (e : (i : ℕ) × (y ≡ PointerTo i)). rw e.1 refl) h

pub joined : (op : BinaryOp) (x y : StaticType)
    → joins_types op (value_type x) (value_type y) ≡ true → Joins op x y
joined binary.Both x y e = tt
joined binary.Either x y e = tt
joined binary.Equal x y e = compared x y e
joined binary.NotEqual x y e = compared x y e
joined binary.Mul x y e = numbers_only x y e
joined binary.Div x y e = numbers_only x y e
joined binary.Rem x y e = numbers_only x y e
joined binary.Add x y e = numbers_only x y e
joined binary.Sub x y e = numbers_only x y e
joined binary.ShiftLeft x y e = numbers_only x y e
joined binary.ShiftRight x y e = numbers_only x y e
joined binary.Less x y e = numbers_only x y e
joined binary.LessEqual x y e = numbers_only x y e
joined binary.Greater x y e = numbers_only x y e
joined binary.GreaterEqual x y e = numbers_only x y e
joined binary.And x y e = numbers_only x y e
joined binary.Xor x y e = numbers_only x y e
joined binary.Or x y e = numbers_only x y e

pub joined_fits : (op : BinaryOp) (x y : StaticType) → Joins op x y
    → joins_types op (value_type x) (value_type y) ≡ true
joined_fits binary.Both x y h = refl
joined_fits binary.Either x y h = refl
joined_fits binary.Equal x y h = compared_fits x y h
joined_fits binary.NotEqual x y h = compared_fits x y h
joined_fits binary.Mul x y h = numbers_fit x y h
joined_fits binary.Div x y h = numbers_fit x y h
joined_fits binary.Rem x y h = numbers_fit x y h
joined_fits binary.Add x y h = numbers_fit x y h
joined_fits binary.Sub x y h = numbers_fit x y h
joined_fits binary.ShiftLeft x y h = numbers_fit x y h
joined_fits binary.ShiftRight x y h = numbers_fit x y h
joined_fits binary.Less x y h = numbers_fit x y h
joined_fits binary.LessEqual x y h = numbers_fit x y h
joined_fits binary.Greater x y h = numbers_fit x y h
joined_fits binary.GreaterEqual x y h = numbers_fit x y h
joined_fits binary.And x y h = numbers_fit x y h
joined_fits binary.Xor x y h = numbers_fit x y h
joined_fits binary.Or x y h = numbers_fit x y h

pub taken : (x y : StaticType) → type_takes (value_type x) (value_type y) ≡ true → AcceptsType x y
taken (Number n) y e = inr (inl ((n, refl), number_only y e))
taken (PointerTo i) y e = ⊎_elim
    (λ (is : y ≡ PointerTo i). inl (sym is))
    (λ (null : y ≡ NullPointer). inr (inr (i, refl, null))) (pointer_to i y e)
taken NullPointer y e = inl (sym (null_only y e))

takes_itself : (x : StaticType) → type_takes (value_type x) (value_type x) ≡ true
takes_itself (Number n) = refl
takes_itself (PointerTo i) = same_true i
takes_itself NullPointer = refl

pub taken_fits : (x y : StaticType) → AcceptsType x y
    → type_takes (value_type x) (value_type y) ≡ true
taken_fits x y (inl e) = rw (← e) (takes_itself x)
taken_fits x y (inr (inl h)) = numbers_take x y h.0.0 h.1.0 h.0.1 h.1.1
  where
    numbers_take : (x y : StaticType) (n m : IntType) → x ≡ Number n → y ≡ Number m
        → type_takes (value_type x) (value_type y) ≡ true
    numbers_take x y n m is same = rw (is, same) refl
taken_fits x y (inr (inr h)) = rw (h.1, h.2) refl

-- the common type of two numbers, and the type of an operator's value
in_common : (n m : IntType) → HaveInCommon (Number n) (Number m) (Number (common_int n m))
in_common Signed Signed = inr (refl, refl, refl)
in_common Signed Unsigned = inl (inr refl, refl)
in_common Unsigned m = inl (inl refl, refl)

not_both : (Number Signed ≡ Number Unsigned) ⊎ (Number Signed ≡ Number Unsigned) → ⊥
not_both (inl e) = cc e
not_both (inr e) = cc e

common_only : (n m : IntType) (x : StaticType) → HaveInCommon (Number n) (Number m) x
    → x ≡ Number (common_int n m)
common_only Unsigned m x (inl h) = h.1
common_only Unsigned m x (inr h) = absurd (cc h.0)
common_only Signed Unsigned x (inl h) = h.1
common_only Signed Unsigned x (inr h) = absurd (cc h.1)
common_only Signed Signed x (inl h) = absurd (not_both h.0)
common_only Signed Signed x (inr h) = h.2

abbrev Answers : (ValueType → ValueType → ValueType)
    → (StaticType → StaticType → StaticType → Type 0) → StaticType → StaticType → Type 0
Answers f R y z = (x : StaticType) × (f (value_type y) (value_type z) ≡ value_type x) × R y z x

abbrev common_of : ValueType → ValueType → ValueType
common_of a b = Int (common_int (int_of a) (int_of b))

numbers_give : (y z : StaticType) → AreNumbers y z → Answers common_of HaveInCommon y z
numbers_give y z h = by y z h.0.0 h.1.0 h.0.1 h.1.1
  where
    by : (y z : StaticType) (n m : IntType) → y ≡ Number n → z ≡ Number m
        → Answers common_of HaveInCommon y z
    by y z n m is same =
        (Number (common_int n m), rw (is, same) refl, rw (is, same) (in_common n m))

numbers_answer : (y z x : StaticType) → AreNumbers y z → HaveInCommon y z x
    → common_of (value_type y) (value_type z) ≡ value_type x
numbers_answer y z x h g = by y z h.0.0 h.1.0 h.0.1 h.1.1 g
  where
    by : (y z : StaticType) (n m : IntType) → y ≡ Number n → z ≡ Number m
        → HaveInCommon y z x → common_of (value_type y) (value_type z) ≡ value_type x
    by y z n m is same g =
        rw (is, same) (ap value_type (sym (common_only n m x (rw (is, same) at g))))

int_is : (y : StaticType) → IsNumber y → Int (int_of (value_type y)) ≡ value_type y
int_is y h = rw h.1 refl

pub unary_gives : (op : UnaryOp) (y : StaticType) → Applies op y
    → (x : StaticType) × (unary_type op (value_type y) ≡ value_type x) × GivesUnary op y x
unary_gives unary.Not y h = (Number Signed, refl, refl)
unary_gives unary.Negate y h = (y, int_is y h, refl)
unary_gives unary.Complement y h = (y, int_is y h, refl)
unary_gives (unary.Cast n) y h = (Number n, refl, refl)

pub unary_answer : (op : UnaryOp) (y x : StaticType) → Applies op y → GivesUnary op y x
    → unary_type op (value_type y) ≡ value_type x
unary_answer unary.Not y x h g = ap value_type (sym g)
unary_answer unary.Negate y x h g = int_is y h ∙ ap value_type (sym g)
unary_answer unary.Complement y x h g = int_is y h ∙ ap value_type (sym g)
unary_answer (unary.Cast n) y x h g = ap value_type (sym g)

pub binary_gives : (op : BinaryOp) (y z : StaticType) → Joins op y z
    → Answers (binary_type op) (GivesBinary op) y z
binary_gives binary.Both y z h = (Number Signed, refl, refl)
binary_gives binary.Either y z h = (Number Signed, refl, refl)
binary_gives binary.Equal y z h = (Number Signed, refl, refl)
binary_gives binary.NotEqual y z h = (Number Signed, refl, refl)
binary_gives binary.Less y z h = (Number Signed, refl, refl)
binary_gives binary.LessEqual y z h = (Number Signed, refl, refl)
binary_gives binary.Greater y z h = (Number Signed, refl, refl)
binary_gives binary.GreaterEqual y z h = (Number Signed, refl, refl)
binary_gives binary.ShiftLeft y z h = (y, int_is y h.0, refl)
binary_gives binary.ShiftRight y z h = (y, int_is y h.0, refl)
binary_gives binary.Mul y z h = numbers_give y z h
binary_gives binary.Div y z h = numbers_give y z h
binary_gives binary.Rem y z h = numbers_give y z h
binary_gives binary.Add y z h = numbers_give y z h
binary_gives binary.Sub y z h = numbers_give y z h
binary_gives binary.And y z h = numbers_give y z h
binary_gives binary.Xor y z h = numbers_give y z h
binary_gives binary.Or y z h = numbers_give y z h

pub binary_answer : (op : BinaryOp) (y z x : StaticType) → Joins op y z → GivesBinary op y z x
    → binary_type op (value_type y) (value_type z) ≡ value_type x
binary_answer binary.Both y z x h g = ap value_type (sym g)
binary_answer binary.Either y z x h g = ap value_type (sym g)
binary_answer binary.Equal y z x h g = ap value_type (sym g)
binary_answer binary.NotEqual y z x h g = ap value_type (sym g)
binary_answer binary.Less y z x h g = ap value_type (sym g)
binary_answer binary.LessEqual y z x h g = ap value_type (sym g)
binary_answer binary.Greater y z x h g = ap value_type (sym g)
binary_answer binary.GreaterEqual y z x h g = ap value_type (sym g)
binary_answer binary.ShiftLeft y z x h g = int_is y h.0 ∙ ap value_type (sym g)
binary_answer binary.ShiftRight y z x h g = int_is y h.0 ∙ ap value_type (sym g)
binary_answer binary.Mul y z x h g = numbers_answer y z x h g
binary_answer binary.Div y z x h g = numbers_answer y z x h g
binary_answer binary.Rem y z x h g = numbers_answer y z x h g
binary_answer binary.Add y z x h g = numbers_answer y z x h g
binary_answer binary.Sub y z x h g = numbers_answer y z x h g
binary_answer binary.And y z x h g = numbers_answer y z x h g
binary_answer binary.Xor y z x h g = numbers_answer y z x h g
binary_answer binary.Or y z x h g = numbers_answer y z x h g

-- both sides of `?`
pub united : (y z : StaticType) → comparable (value_type y) (value_type z) ≡ true
    → (x : StaticType) × (common_type (value_type y) (value_type z) ≡ value_type x) × Unites y z x
united (Number n) z e = with_number (number_only z e)
  where
    with_number : IsNumber z → (x : StaticType)
        × (common_type (value_type (Number n)) (value_type z) ≡ value_type x)
        × Unites (Number n) z x
    with_number h = let c = numbers_give (Number n) z ((n, refl), h) in (c.0, c.1, (c.2, h))
united (PointerTo i) z e = (PointerTo i, refl, inl (refl, taken (PointerTo i) z e))
united NullPointer (Number n) e = absurd (false≢true e)
united NullPointer (PointerTo i) e = (PointerTo i, refl, inr (refl, inr (inr (i, refl, refl))))
united NullPointer NullPointer e = (NullPointer, refl, inl (refl, inl refl))

abbrev AreTogether : StaticType → StaticType → StaticType → Type 0
AreTogether y z x = (comparable (value_type y) (value_type z) ≡ true)
    × (common_type (value_type y) (value_type z) ≡ value_type x)

pointer_left : (i : ℕ) (z : StaticType) → AcceptsType (PointerTo i) z
    → AreTogether (PointerTo i) z (PointerTo i)
pointer_left i z h = (taken_fits (PointerTo i) z h, refl)

pointer_right : (i : ℕ) (z : StaticType) → AcceptsType z (PointerTo i)
    → AreTogether (PointerTo i) z z
pointer_right i (Number n) h = absurd (false≢true (taken_fits (Number n) (PointerTo i) h))
pointer_right i (PointerTo j) h =
    let same : i ≡ j = sym (same_from j i (taken_fits (PointerTo j) (PointerTo i) h)) in
    rw same (same_true j, refl)
pointer_right i NullPointer h = absurd (false≢true (taken_fits NullPointer (PointerTo i) h))

null_left : (z : StaticType) → AcceptsType NullPointer z → AreTogether NullPointer z NullPointer
null_left z h = rw (null_only z (taken_fits NullPointer z h)) (refl, refl)

null_right : (z : StaticType) → AcceptsType z NullPointer → AreTogether NullPointer z z
null_right (Number n) h = absurd (false≢true (taken_fits (Number n) NullPointer h))
null_right (PointerTo i) h = (refl, refl)
null_right NullPointer h = (refl, refl)

pub united_fits : (y z x : StaticType) → Unites y z x → AreTogether y z x
united_fits (Number n) z x h =
    (number_fits z h.1, numbers_answer (Number n) z x ((n, refl), h.1) h.0)
united_fits (PointerTo i) z x (inl h) = rw h.0 (pointer_left i z h.1)
united_fits (PointerTo i) z x (inr h) = rw h.0 (pointer_right i z h.1)
united_fits NullPointer z x (inl h) = rw h.0 (null_left z h.1)
united_fits NullPointer z x (inr h) = rw h.0 (null_right z h.1)

-- the same of types that the check answers, which are those of the rules
pub applied_answer : (op : UnaryOp) (a : ValueType) (x : StaticType) → a ≡ value_type x
    → applies op a ≡ true → Applies op x
applied_answer op a x is good = applied op x (rw is at good)

pub joined_answer : (op : BinaryOp) (a b : ValueType) (x y : StaticType) → a ≡ value_type x
    → b ≡ value_type y → joins_types op a b ≡ true → Joins op x y
joined_answer op a b x y is same good = joined op x y (rw (is, same) at good)

pub binary_same : (op : BinaryOp) (a b : ValueType) (y z : StaticType) → a ≡ value_type y
    → b ≡ value_type z → binary_type op a b ≡ binary_type op (value_type y) (value_type z)
binary_same op a b y z is same =
    ap (λ (v : ValueType). binary_type op v b) is ∙ ap (binary_type op (value_type y)) same

pub taken_answer : (a b : ValueType) (x y : StaticType) → a ≡ value_type x → b ≡ value_type y
    → type_takes a b ≡ true → AcceptsType x y
taken_answer a b x y is same good = taken x y (rw (is, same) at good)

-- a type where it is written
pointer_case : (t : Tables) (name : Ident) (o : Option ℕ) → struct_named t name.text ≡ o
    → option_map_or (λ i. unless (nat_le (words_at t i) (pointed_limit (root_struct t) i))
    name.place (TooBig limit.Pointer
    (words_at t i))) o (broken_at name.place UnknownName) ≡ []
    → (x : StaticType) × IsPointer t name.text x
pointer_case t name None is e = absurd (some_none name.place UnknownName e)
pointer_case t name (Some i) is e = (
  PointerTo i,
  record {
    place = i;
    named = is;
    small = le_from (words_at t i) (pointed_limit (root_struct t) i)
        (holds (nat_le (words_at t i) (pointed_limit (root_struct t) i)) name.place
        (TooBig limit.Pointer (words_at t i)) e);
    is = refl;
  },
)

pub pointer_written : (t : Tables) (name : Ident) → pointer_broken t name ≡ []
    → (x : StaticType) × IsPointer t name.text x
pointer_written t name e = pointer_case t name (struct_named t name.text) refl e

pub type_written : (t : Tables) (ty : TypeTree) → type_broken t ty ≡ []
    → (x : StaticType) × IsWritten t ty x
type_written t (stmt.Int n) e = (Number n, refl)
type_written t (stmt.Pointer name) e = pointer_written t name e

pub pointer_is : (t : Tables) (name : List ℕ) (x : StaticType) → IsPointer t name x
    → pointer_type t name ≡ value_type x
pointer_is t name x h = rw (
  h.named,
  le_true (words_at t h.place)
      (pointed_limit (root_struct t) h.place) h.small,
  h.is,
) refl

pub pointer_kept : (t : Tables) (name : Ident) (x : StaticType) → IsPointer t name.text x
    → pointer_broken t name ≡ []
pointer_kept t name x h = rw (
  h.named,
  le_true (words_at t h.place)
      (pointed_limit (root_struct t) h.place) h.small,
) refl

-- what is declared with a type that is there has it
pub declared_is : (t : Tables) (ty : TypeTree) (x : StaticType) → IsWritten t ty x
    → declared_type t ty ≡ value_type x
declared_is t (stmt.Int n) x h = rw h refl
declared_is t (stmt.Pointer name) x h = pointer_is t name.text x h

pub written_kept : (t : Tables) (ty : TypeTree) (x : StaticType) → IsWritten t ty x
    → type_broken t ty ≡ []
written_kept t (stmt.Int n) x h = refl
written_kept t (stmt.Pointer name) x h = pointer_kept t name x h
