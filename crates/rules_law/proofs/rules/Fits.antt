-- A test of types fails exactly where no types that its operands may have fit.
use Rattle.std.proofs.Common.{◌≡◌, ℕ, ◌⊎◌, inl, inr, Bool, true, false, refl, sym, ap, ◌∙◌}
use Rattle.std.specs.Prelude.{◌&&◌, is_some, Option, None, Some, ◌↔◌}
use Rattle.std.proofs.lemmas.Bool.{false≢true, and_parts}
use Rattle.nvm_base.proofs.Tests.{same_from}
use Rattle.c_tree.specs.declared.expr.IntType.{IntType}
use Rattle.c_tree.specs.declared.expr.IntType.TheVariants.{Signed}
use Rattle.c_tree.specs.declared.expr.UnaryOp.{UnaryOp}
use Rattle.c_tree.specs.declared.expr.UnaryOp.TheVariants as unary
use Rattle.c_tree.specs.declared.expr.BinaryOp.{BinaryOp}
use Rattle.c_tree.specs.declared.expr.BinaryOp.TheVariants as binary
use Rattle.c_tree.specs.declared.stmt.AssignOp.{AssignOp}
use Rattle.c_tree.specs.declared.stmt.AssignOp.TheVariants as assign
use Rattle.c_types.specs.declared.value_type.ValueType.{ValueType}
use Rattle.c_types.specs.declared.value_type.ValueType.TheVariants.{Int, Pointer, Null, Any}
use Rattle.c_types.specs.declared.value_type.Kind.{Kind}
use Rattle.c_types.specs.declared.value_type.Kind.TheVariants.{Value, Array}
use Rattle.c_types.specs.Fits.{is_int, is_pointer, is_null, is_pointer_to, type_takes, comparable}
use Rattle.c_types.specs.Fits.{joins_types, applies, assigns}
use Rattle.c_types.specs.Expressions.{is_indexed}
use Rattle.rules_law.specs.typed.Types.{StaticType, Number, PointerTo, NullPointer, value_type}
use Rattle.rules_law.specs.typed.Types.{Applies, Compares, Joins, IsNumber, AreNumbers}
use Rattle.rules_law.specs.typed.Types.{AcceptsType}
use Rattle.rules_law.specs.typed.Statements.{IsAssigned}
use Rattle.rules_law.proofs.typed.Fitting.{joined_fits, taken_fits}
use Rattle.rules_law.specs.rules.Given.{MayBe}
use Rattle.rules_law.specs.rules.Rules.{NoOperand, NoOperands, NoAssignment, NoGift, NoNumber}
use Rattle.rules_law.specs.rules.Rules.{NoPointer}

pub failed : (b : Bool) (P : Type 0) → (b ≡ true → P) → (P → ⊥) → b ≡ false
failed true P f never = absurd (never (f refl))
failed false P f never = refl

pub none_of : {A : Type 0} (o : Option A) → is_some o ≡ false → o ≡ None
none_of None e = refl
none_of (Some x) e = absurd (false≢true (sym e))

-- a type that something may have, by the type that the check finds
abbrev pub CanBe : ValueType → StaticType → Type 0
CanBe ty x = (ty ≡ value_type x) ⊎ (ty ≡ Any)

-- the check finds the type that F says, and any where F says none
abbrev pub IsOf : (F : StaticType → Type 0) → ValueType → Type 0
IsOf F a = (x : StaticType) → (a ≡ value_type x) ↔ F x

pub any_not : {C : Type 0} (x : StaticType) → Any ≡ value_type x → C
any_not (Number n) e = absurd (cc e)
any_not (PointerTo i) e = absurd (cc e)
any_not NullPointer e = absurd (cc e)

any_by : (a : ValueType) → ((y : StaticType) → a ≡ value_type y → ⊥) → a ≡ Any
any_by (Int n) none = absurd (none (Number n) refl)
any_by (Pointer i) none = absurd (none (PointerTo i) refl)
any_by Null none = absurd (none NullPointer refl)
any_by Any none = refl

pub can_be : (F : StaticType → Type 0) (a : ValueType) → IsOf F a → (x : StaticType) → MayBe F x
    → CanBe a x
can_be F a is x (inl h) = inl ((is x).1 h)
can_be F a is x (inr none) = inr (any_by a (λ y e. none y ((is y).0 e)))

pub may_be : (F : StaticType → Type 0) (a : ValueType) → IsOf F a → (x : StaticType) → CanBe a x
    → MayBe F x
may_be F a is x (inl e) = inl ((is x).0 e)
may_be F a is x (inr e) = inr (λ y h. any_not y (sym e ∙ (is y).1 h))

some_type : (a : ValueType) → (x : StaticType) × CanBe a x
some_type (Int n) = (Number n, inl refl)
some_type (Pointer i) = (PointerTo i, inl refl)
some_type Null = (NullPointer, inl refl)
some_type Any = (Number Signed, inr refl)

number_true : (a : ValueType) (x : StaticType) → CanBe a x → IsNumber x → is_int a ≡ true
number_true a x (inl e) h = rw (e, h.1) refl
number_true a x (inr e) h = rw e refl

true_number : (a : ValueType) → is_int a ≡ true → (n : IntType) × CanBe a (Number n)
true_number (Int n) e = (n, inl refl)
true_number (Pointer i) e = absurd (false≢true e)
true_number Null e = absurd (false≢true e)
true_number Any e = (Signed, inr refl)

pub no_number : (F : StaticType → Type 0) (a : ValueType) → IsOf F a → is_int a ≡ false → NoNumber F
no_number F a is e n m =
    false≢true (sym e ∙ number_true a (Number n) (can_be F a is (Number n) m) (n, refl))

pub number_no : (F : StaticType → Type 0) (a : ValueType) → IsOf F a → NoNumber F → is_int a ≡ false
number_no F a is never = failed (is_int a) ((n : IntType) × CanBe a (Number n)) (true_number a)
    (λ h. never h.0 (may_be F a is (Number h.0) h.1))

pointer_true : (a : ValueType) (i : ℕ) → CanBe a (PointerTo i) → is_pointer a ≡ true
pointer_true a i (inl e) = rw e refl
pointer_true a i (inr e) = rw e refl

true_pointer : (a : ValueType) → is_pointer a ≡ true → (i : ℕ) × CanBe a (PointerTo i)
true_pointer (Int n) e = absurd (false≢true e)
true_pointer (Pointer i) e = (i, inl refl)
true_pointer Null e = absurd (false≢true e)
true_pointer Any e = (0, inr refl)

pub no_pointer : (F : StaticType → Type 0) (a : ValueType) → IsOf F a → is_pointer a ≡ false
    → NoPointer F
no_pointer F a is e i m = false≢true (sym e ∙ pointer_true a i (can_be F a is (PointerTo i) m))

pub pointer_no : (F : StaticType → Type 0) (a : ValueType) → IsOf F a → NoPointer F
    → is_pointer a ≡ false
pointer_no F a is never = failed (is_pointer a) ((i : ℕ) × CanBe a (PointerTo i)) (true_pointer a)
    (λ h. never h.0 (may_be F a is (PointerTo h.0) h.1))

-- two types that fit each other
abbrev Pair : ValueType → ValueType → (StaticType → StaticType → Type 0) → Type 0
Pair a b R = (x : StaticType) × (y : StaticType) × CanBe a x × CanBe b y × R x y

numbers_true : (a b : ValueType) (x y : StaticType) → CanBe a x → CanBe b y → AreNumbers x y
    → (is_int a && is_int b) ≡ true
numbers_true a b x y m n h = rw (number_true a x m h.0, number_true b y n h.1) refl

true_numbers : (a b : ValueType) → (is_int a && is_int b) ≡ true → Pair a b AreNumbers
true_numbers a b e =
    let p = true_number a (and_parts (is_int a) (is_int b) e).0 in
    let q = true_number b (and_parts (is_int a) (is_int b) e).1 in
    (Number p.0, Number q.0, p.1, q.1, ((p.0, refl), (q.0, refl)))

compares_any : (x : StaticType) → comparable (value_type x) Any ≡ true
compares_any (Number n) = refl
compares_any (PointerTo i) = refl
compares_any NullPointer = refl

compares_itself : (x : StaticType) → Compares x x
compares_itself (Number n) = (n, refl)
compares_itself (PointerTo i) = inl refl
compares_itself NullPointer = inl refl

compare_true : (a b : ValueType) (x y : StaticType) → CanBe a x → CanBe b y → Compares x y
    → comparable a b ≡ true
compare_true a b x y (inl e) (inl f) h = rw (e, f) (joined_fits binary.Equal x y h)
compare_true a b x y (inl e) (inr f) h = rw (e, f) (compares_any x)
compare_true a b x y (inr e) n h = rw e refl

pointer_pair : (i : ℕ) (b : ValueType) → is_pointer_to i b ≡ true
    → (y : StaticType) × CanBe b y × ((y ≡ PointerTo i) ⊎ (y ≡ NullPointer))
pointer_pair i (Int n) e = absurd (false≢true e)
pointer_pair i (Pointer j) e = (PointerTo j, inl refl, inl (ap PointerTo (sym (same_from i j e))))
pointer_pair i Null e = (NullPointer, inl refl, inr refl)
pointer_pair i Any e = (PointerTo i, inr refl, inl refl)

true_compare : (a b : ValueType) → comparable a b ≡ true → Pair a b Compares
true_compare (Int n) b e =
    let p = true_number b e in (Number n, Number p.0, inl refl, p.1, (p.0, refl))
true_compare (Pointer i) b e =
    let p = pointer_pair i b e in (PointerTo i, p.0, inl refl, p.1, p.2)
true_compare Null (Int n) e = absurd (false≢true e)
true_compare Null (Pointer j) e = (NullPointer, PointerTo j, inl refl, inl refl, inr (j, refl))
true_compare Null Null e = (NullPointer, NullPointer, inl refl, inl refl, inl refl)
true_compare Null Any e = (NullPointer, NullPointer, inl refl, inr refl, inl refl)
true_compare Any b e =
    let y = some_type b in (y.0, y.0, inr refl, y.1, compares_itself y.0)

joins_true : (op : BinaryOp) (a b : ValueType) (x y : StaticType) → CanBe a x → CanBe b y
    → Joins op x y → joins_types op a b ≡ true
joins_true binary.Both a b x y m n h = refl
joins_true binary.Either a b x y m n h = refl
joins_true binary.Equal a b x y m n h = compare_true a b x y m n h
joins_true binary.NotEqual a b x y m n h = compare_true a b x y m n h
joins_true binary.Mul a b x y m n h = numbers_true a b x y m n h
joins_true binary.Div a b x y m n h = numbers_true a b x y m n h
joins_true binary.Rem a b x y m n h = numbers_true a b x y m n h
joins_true binary.Add a b x y m n h = numbers_true a b x y m n h
joins_true binary.Sub a b x y m n h = numbers_true a b x y m n h
joins_true binary.ShiftLeft a b x y m n h = numbers_true a b x y m n h
joins_true binary.ShiftRight a b x y m n h = numbers_true a b x y m n h
joins_true binary.Less a b x y m n h = numbers_true a b x y m n h
joins_true binary.LessEqual a b x y m n h = numbers_true a b x y m n h
joins_true binary.Greater a b x y m n h = numbers_true a b x y m n h
joins_true binary.GreaterEqual a b x y m n h = numbers_true a b x y m n h
joins_true binary.And a b x y m n h = numbers_true a b x y m n h
joins_true binary.Xor a b x y m n h = numbers_true a b x y m n h
joins_true binary.Or a b x y m n h = numbers_true a b x y m n h

any_pair : (a b : ValueType) → Pair a b (λ x y. Unit {0})
any_pair a b = let x = some_type a in let y = some_type b in (x.0, y.0, x.1, y.1, tt)

true_joins : (op : BinaryOp) (a b : ValueType) → joins_types op a b ≡ true → Pair a b (Joins op)
true_joins binary.Both a b e = any_pair a b
true_joins binary.Either a b e = any_pair a b
true_joins binary.Equal a b e = true_compare a b e
true_joins binary.NotEqual a b e = true_compare a b e
true_joins binary.Mul a b e = true_numbers a b e
true_joins binary.Div a b e = true_numbers a b e
true_joins binary.Rem a b e = true_numbers a b e
true_joins binary.Add a b e = true_numbers a b e
true_joins binary.Sub a b e = true_numbers a b e
true_joins binary.ShiftLeft a b e = true_numbers a b e
true_joins binary.ShiftRight a b e = true_numbers a b e
true_joins binary.Less a b e = true_numbers a b e
true_joins binary.LessEqual a b e = true_numbers a b e
true_joins binary.Greater a b e = true_numbers a b e
true_joins binary.GreaterEqual a b e = true_numbers a b e
true_joins binary.And a b e = true_numbers a b e
true_joins binary.Xor a b e = true_numbers a b e
true_joins binary.Or a b e = true_numbers a b e

pub no_operands : (op : BinaryOp) (F G : StaticType → Type 0) (a b : ValueType) → IsOf F a
    → IsOf G b → joins_types op a b ≡ false → NoOperands op F G
no_operands op F G a b is same e x y m n h =
    false≢true (sym e ∙ joins_true op a b x y (can_be F a is x m) (can_be G b same y n) h)

pub operands_no : (op : BinaryOp) (F G : StaticType → Type 0) (a b : ValueType) → IsOf F a
    → IsOf G b → NoOperands op F G → joins_types op a b ≡ false
operands_no op F G a b is same never = failed (joins_types op a b) (Pair a b (Joins op))
    (true_joins op a b)
    (λ h. never h.0 h.1 (may_be F a is h.0 h.2) (may_be G b same h.1 h.3) h.4)

applies_true : (op : UnaryOp) (a : ValueType) (x : StaticType) → CanBe a x → Applies op x
    → applies op a ≡ true
applies_true unary.Not a x m h = refl
applies_true unary.Negate a x m h = number_true a x m h
applies_true unary.Complement a x m h = number_true a x m h
applies_true (unary.Cast n) a x m h = number_true a x m h

number_operand : (a : ValueType) → is_int a ≡ true → (x : StaticType) × CanBe a x × IsNumber x
number_operand a e = let p = true_number a e in (Number p.0, p.1, (p.0, refl))

true_applies : (op : UnaryOp) (a : ValueType) → applies op a ≡ true
    → (x : StaticType) × CanBe a x × Applies op x
true_applies unary.Not a e = let x = some_type a in (x.0, x.1, tt)
true_applies unary.Negate a e = number_operand a e
true_applies unary.Complement a e = number_operand a e
true_applies (unary.Cast n) a e = number_operand a e

pub no_operand : (op : UnaryOp) (F : StaticType → Type 0) (a : ValueType) → IsOf F a
    → applies op a ≡ false → NoOperand op F
no_operand op F a is e x m h = false≢true (sym e ∙ applies_true op a x (can_be F a is x m) h)

pub operand_no : (op : UnaryOp) (F : StaticType → Type 0) (a : ValueType) → IsOf F a
    → NoOperand op F → applies op a ≡ false
operand_no op F a is never = failed (applies op a)
    ((x : StaticType) × CanBe a x × Applies op x) (true_applies op a)
    (λ h. never h.0 (may_be F a is h.0 h.1) h.2)

takes_any : (x : StaticType) → type_takes (value_type x) Any ≡ true
takes_any (Number n) = refl
takes_any (PointerTo i) = refl
takes_any NullPointer = refl

pub takes_true : (a b : ValueType) (x y : StaticType) → CanBe a x → CanBe b y → AcceptsType x y
    → type_takes a b ≡ true
takes_true a b x y (inl e) (inl f) h = rw (e, f) (taken_fits x y h)
takes_true a b x y (inl e) (inr f) h = rw (e, f) (takes_any x)
takes_true a b x y (inr e) n h = rw e refl

null_pair : (b : ValueType) → is_null b ≡ true → CanBe b NullPointer
null_pair (Int n) e = absurd (false≢true e)
null_pair (Pointer i) e = absurd (false≢true e)
null_pair Null e = inl refl
null_pair Any e = inr refl

given_pointer : (i : ℕ) (y : StaticType) → (y ≡ PointerTo i) ⊎ (y ≡ NullPointer)
    → AcceptsType (PointerTo i) y
given_pointer i y (inl e) = inl (sym e)
given_pointer i y (inr e) = inr (inr (i, refl, e))

pub true_takes : (a b : ValueType) → type_takes a b ≡ true → Pair a b AcceptsType
true_takes (Int n) b e =
    let p = true_number b e in
    (Number n, Number p.0, inl refl, p.1, inr (inl ((n, refl), (p.0, refl))))
true_takes (Pointer i) b e =
    let p = pointer_pair i b e in (PointerTo i, p.0, inl refl, p.1, given_pointer i p.0 p.2)
true_takes Null b e = (NullPointer, NullPointer, inl refl, null_pair b e, inl refl)
true_takes Any b e = let y = some_type b in (y.0, y.0, inr refl, y.1, inl refl)

pub no_gift : (F G : StaticType → Type 0) (a b : ValueType) → IsOf F a
    → IsOf G b → type_takes a b ≡ false → NoGift F G
no_gift F G a b is same e x y m n h =
    false≢true (sym e ∙ takes_true a b x y (can_be F a is x m) (can_be G b same y n) h)

pub gift_no : (F G : StaticType → Type 0) (a b : ValueType) → IsOf F a
    → IsOf G b → NoGift F G → type_takes a b ≡ false
gift_no F G a b is same never = failed (type_takes a b) (Pair a b AcceptsType)
    (true_takes a b)
    (λ h. never h.0 h.1 (may_be F a is h.0 h.2) (may_be G b same h.1 h.3) h.4)

assigns_true : (op : AssignOp) (a b : ValueType) (x y : StaticType) → CanBe a x → CanBe b y
    → IsAssigned op x y → assigns op a b ≡ true
assigns_true assign.Set a b x y m n h = takes_true a b x y m n h
assigns_true (assign.Update op) a b x y m n h = numbers_true a b x y m n h

true_assigns : (op : AssignOp) (a b : ValueType) → assigns op a b ≡ true
    → Pair a b (IsAssigned op)
true_assigns assign.Set a b e = true_takes a b e
true_assigns (assign.Update op) a b e = true_numbers a b e

pub no_assignment : (op : AssignOp) (F G : StaticType → Type 0) (a b : ValueType) → IsOf F a
    → IsOf G b → assigns op a b ≡ false → NoAssignment op F G
no_assignment op F G a b is same e x y m n h =
    false≢true (sym e ∙ assigns_true op a b x y (can_be F a is x m) (can_be G b same y n) h)

pub assignment_no : (op : AssignOp) (F G : StaticType → Type 0) (a b : ValueType) → IsOf F a
    → IsOf G b → NoAssignment op F G → assigns op a b ≡ false
assignment_no op F G a b is same never = failed (assigns op a b) (Pair a b (IsAssigned op))
    (true_assigns op a b)
    (λ h. never h.0 h.1 (may_be F a is h.0 h.2) (may_be G b same h.1 h.3) h.4)

-- what stands before `[`
pub no_array : (k : Kind) → is_indexed k ≡ false → (x : StaticType) × (k ≡ Value (value_type x))
no_array (Array element place) e = absurd (false≢true (sym e))
no_array (Value (Int n)) e = (Number n, refl)
no_array (Value (Pointer i)) e = (PointerTo i, refl)
no_array (Value Null) e = (NullPointer, refl)
no_array (Value Any) e = absurd (false≢true (sym e))

value_no : (x : StaticType) → is_indexed (Value (value_type x)) ≡ false
value_no (Number n) = refl
value_no (PointerTo i) = refl
value_no NullPointer = refl

pub array_no : (k : Kind) (x : StaticType) → k ≡ Value (value_type x) → is_indexed k ≡ false
array_no k x e = rw e (value_no x)
