-- What a part breaks by itself, as `c_types` lists it, is what the rows give for it.
use Rattle.std.proofs.Common.{◌≡◌, ◌≢◌, ℕ, zero, suc, ◌<◌, ◌⊎◌, inl, inr, Bool, true, false, List}
use Rattle.std.proofs.Common.{[], ◌∷◌, ◌++◌, length, refl, sym, ap, ◌∙◌, subst, arith}
use Rattle.std.specs.Prelude.{◌&&◌, ◌||◌, not, nat_eq, nat_le, is_some, slice_get, Option, None}
use Rattle.std.specs.Prelude.{Some}
use Rattle.std.specs.Option.{option_map_or}
use Rattle.std.specs.Int.{w64, cast_unsigned}
use Rattle.std.proofs.lemmas.Bool.Decides.{nat_tests}
use Rattle.std.proofs.lemmas.Option.{none-some, same_Some}
use Rattle.std.proofs.lemmas.Bool.{not-false, and_cases, and_left, and_right, false≢true, or_parts}
use Rattle.nvm_base.proofs.Tests.{same_from, same_true}
use Rattle.c_tree.specs.declared.expr.BinaryOp.TheVariants as binary
use Rattle.c_tree.specs.ExprTree.{ExprTree, Arguments, Ident}
use Rattle.c_tree.specs.ExprTree as expr
use Rattle.c_tree.specs.StmtTree.{SimpleTree, TypeTree, InitialTree, DeclarationTree}
use Rattle.c_tree.specs.StmtTree as stmt
use Rattle.c_tree.specs.ItemTree.{FieldTree, FunctionTree, LengthTree, ParameterTree}
use Rattle.c_tree.specs.declared.item.Marked.{Marked}
use Rattle.c_tree.specs.declared.item.Marked.TheVariants as mark
use Rattle.c_types.specs.declared.value_type.ValueType.{ValueType}
use Rattle.c_types.specs.declared.value_type.ValueType.TheVariants as answered
use Rattle.c_types.specs.declared.value_type.Kind.{Kind}
use Rattle.c_types.specs.declared.value_type.Kind.TheVariants as kind
use Rattle.c_types.specs.declared.fault.LimitKind.TheVariants as limit
use Rattle.c_types.specs.declared.broken.Broken.{Broken}
use Rattle.c_types.specs.declared.broken.Rule.{Rule}
use Rattle.c_types.specs.declared.broken.Rule.TheVariants.{UnknownName, Twice, Mismatch}
use Rattle.c_types.specs.declared.broken.Rule.TheVariants.{NotAssignable, Arity, TooBig, NoRoot}
use Rattle.c_types.specs.declared.broken.Rule.TheVariants.{BadTx}
use Rattle.c_types.specs.Broken.{broken_at, unless}
use Rattle.c_types.specs.LeastLaw.{IsAmong}
use Rattle.c_types.specs.Fits.{is_int, is_pointer, type_takes, comparable, joins_types, applies}
use Rattle.c_types.specs.Fits.{assigns}
use Rattle.c_types.specs.Tables.{Tables, StructTree, RootTree, index_of, field_names, is_first}
use Rattle.c_types.specs.Tables.{function_names, function_named, struct_named, root_struct}
use Rattle.c_types.specs.Tables.{words_of_struct, words_at, is_length, declared_type, pointed_limit}
use Rattle.c_types.specs.Expressions.{Scope, variable_type, variable_broken, member, member_broken}
use Rattle.c_types.specs.Expressions.{root_broken, arrow_broken, is_indexed, unindexed, kind_of}
use Rattle.c_types.specs.Expressions.{type_of, type_of_kind, pointer_broken, call_broken}
use Rattle.c_types.specs.Expressions.{parameters_of, parameter_type, argument_count}
use Rattle.c_types.specs.Statements.{is_declared, is_target}
use Rattle.c_types.specs.Declarations.{length_broken, struct_broken, root_item_broken, all_ints}
use Rattle.c_types.specs.Declarations.{is_transaction}
use Rattle.c_types.specs.Transactions.{is_const}
use Rattle.c_types.specs.Looking.{statements_store, storing, look_broken}
use Rattle.pool_map.specs.declared.limits.TheConstants.{OBJECT_WORDS, ROOT_WORDS}
use Rattle.rules_law.proofs.typed.Programs.{first_at}
use Rattle.rules_law.specs.typed.Types.{PointerTo, IsWritten}
use Rattle.rules_law.specs.rules.Part.{Part}
use Rattle.rules_law.specs.rules.Part as part
use Rattle.rules_law.specs.rules.Given.{Types}
use Rattle.rules_law.specs.rules.Rules.{Breaks}
use Rattle.rules_law.specs.rules.Rules as row
use Rattle.rules_law.proofs.rules.Among.{either, one_of, unless_of}
use Rattle.rules_law.proofs.rules.Fits.{none_of}
use Rattle.rules_law.proofs.rules.Fits.{no_number, no_pointer}
use Rattle.rules_law.proofs.rules.Fits.{no_operands, no_operand}
use Rattle.rules_law.proofs.rules.Fits.{no_gift, no_assignment, no_array}
use Rattle.rules_law.proofs.rules.Given.{written_is}
use Rattle.rules_law.proofs.rules.Storing.{stores_from}
use Rattle.rules_law.proofs.rules.Kept.{gives_is, type_given_of, array_at}

-- the rules that an expression breaks, without those of its parts
abbrev pub own_expression : Tables → List Scope → ExprTree → List Broken
own_expression t s (expr.Number n) = []
own_expression t s expr.Null = []
own_expression t s (expr.Variable name) = variable_broken s name
own_expression t s (expr.Call name all) = []
own_expression t s (expr.Root name) = root_broken t name
own_expression t s (expr.New place name) = []
own_expression t s (expr.Arrow base place name) = arrow_broken t (type_of t s base) place name
own_expression t s (expr.Index base place index) =
    unless (is_indexed (kind_of t s base) && is_int (type_of t s index)) place Mismatch
own_expression t s (expr.Unary op place a) = unless (applies op (type_of t s a)) place Mismatch
own_expression t s (expr.Binary op place a b) =
    unless (joins_types op (type_of t s a) (type_of t s b)) place Mismatch
own_expression t s (expr.Conditional c place a b) =
    unless (comparable (type_of t s a) (type_of t s b)) place Mismatch

abbrev pub own_simple : Tables → List Scope → SimpleTree → List Broken
own_simple t s (stmt.Assign target op place e) =
    unless (assigns op (type_of t s target) (type_of t s e)) place Mismatch
    ++ unless (is_target target) place NotAssignable
own_simple t s (stmt.Step target op place) =
    unless (is_int (type_of t s target)) place Mismatch
    ++ unless (is_target target) place NotAssignable
own_simple t s (stmt.Call name all) = []
own_simple t s (stmt.Free place e) = unless (is_pointer (type_of t s e)) place Mismatch
own_simple t s (stmt.Abort place) = []

abbrev pub own_initial : Tables → List Scope → ValueType → InitialTree → List Broken
own_initial t s ty i = unless (type_takes ty (type_of t s i.value)) i.place Mismatch

abbrev pub own_local : Tables → List Scope → DeclarationTree → List Broken
own_local t s d = option_map_or (own_initial t s (declared_type t d.ty)) d.initial []
    ++ unless (not (is_declared d.name.text s)) d.name.place Twice

abbrev pub own_return : Tables → Option TypeTree → List Scope → ℕ → Option ExprTree → List Broken
own_return t None s place None = []
own_return t None s place (Some e) = broken_at place Mismatch
own_return t (Some ty) s place None = broken_at place Mismatch
own_return t (Some ty) s place (Some e) =
    unless (type_takes (declared_type t ty) (type_of t s e)) place Mismatch

abbrev pub own_field : StructTree → ℕ → FieldTree → List Broken
own_field s j f = unless (is_first (index_of f.name.text (field_names s)) j) f.name.place Twice
    ++ option_map_or length_broken f.len []

abbrev pub own_parameter : List Scope → ℕ → ParameterTree → List Broken
own_parameter s i q = unless (not (nat_eq i 22)) q.name.place (TooBig limit.Parameters 23)
    ++ unless (not (is_declared q.name.text s)) q.name.place Twice

abbrev pub own_function : Tables → ℕ → FunctionTree → List Broken
own_function t i f = unless (is_first (index_of f.name.text (function_names t)) i) f.name.place
    Twice
    ++ (unless (not (nat_eq i 1024)) f.name.place (TooBig limit.Functions 1025)
    ++ unless (not f.tx || is_transaction t f) f.name.place BadTx)

abbrev pub own : Tables → Part → List Broken
own t (part.Whole end) = unless (is_some (slice_get t.roots 0)) end NoRoot
own t (part.Struct i s) = struct_broken t i s
own t (part.Root i r) = root_item_broken t i r
own t (part.Function i f) = own_function t i f ++ look_broken t (storing t) f
own t (part.Field s j f) = own_field s j f
own t (part.Parameter s i q) = own_parameter s i q
own t (part.PointerTo name) = pointer_broken t name
own t (part.Local s d) = own_local t s d
own t (part.Simple s x) = own_simple t s x
own t (part.Returned result s place e) = own_return t result s place e
own t (part.Expression s e) = own_expression t s e
own t (part.Value s e) = unindexed (kind_of t s e)
own t (part.Called used name all) =
    call_broken used (function_named t name.text) (argument_count all) name.place
own t (part.Argument s callee i first e) =
    unless (type_takes (parameter_type t (parameters_of (function_named t callee.text)) i)
    (type_of t s e)) first Mismatch

-- small tests
pub le_not : (a b : ℕ) → nat_le a b ≡ false → b < a
le_not a b e = grind (arith, nat_tests)

pub not_le : (a b : ℕ) → b < a → nat_le a b ≡ false
not_le a b lt = grind (arith, nat_tests)

pub same_not : (a b : ℕ) → nat_eq a b ≡ false → a ≢ b
same_not a b e is = false≢true (sym e ∙ (ap (nat_eq a) (sym is) ∙ same_true a))

pub not_same : (a b : ℕ) → a ≢ b → nat_eq a b ≡ false
not_same a b other = by (nat_eq a b) refl
  where
    by : (c : Bool) → nat_eq a b ≡ c → nat_eq a b ≡ false
    by true e = absurd (other (same_from a b e))
    by false e = e

pub not_first : (o : Option ℕ) (i : ℕ) → is_first o i ≡ false → o ≢ Some i
not_first None i e is = none-some i is
not_first (Some j) i e is = same_not i j e (sym (same_Some j i is))

pub first_not : (o : Option ℕ) (i : ℕ) → o ≢ Some i → is_first o i ≡ false
first_not None i other = refl
first_not (Some j) i other = not_same i j (λ (e : i ≡ j). other (ap Some (sym e)))

pub no_roots : (rs : List RootTree) → is_some (slice_get rs 0) ≡ false → rs ≡ []
no_roots [] e = refl
no_roots (r ∷ rs) e = absurd (false≢true (sym e))

-- the rows of an expression
root_rows : (t : Tables) (s : List Scope) (name : Ident) (b : Broken) (o : Option ℕ)
    → root_struct t ≡ o
    → IsAmong b (option_map_or (λ i. member_broken t i name) o
    (unless (is_some (slice_get t.roots 0)) name.place UnknownName))
    → Breaks t (part.Expression s (expr.Root name)) b.rule b.place
root_rows t s name b None is h =
    unless_of (Breaks t (part.Expression s (expr.Root name))) b (is_some (slice_get t.roots 0))
    name.place UnknownName h (λ e. row.no_root_with_field (no_roots t.roots e))
root_rows t s name b (Some i) is h =
    unless_of (Breaks t (part.Expression s (expr.Root name))) b (is_some (member t i name))
    name.place UnknownName h (λ e. row.no_field_of_root i is (none_of (member t i name) e))

arrow_rows : (t : Tables) (s : List Scope) (base : ExprTree) (place : ℕ) (name : Ident)
    (b : Broken) (ty : ValueType) → type_of t s base ≡ ty
    → IsAmong b (arrow_broken t ty place name)
    → Breaks t (part.Expression s (expr.Arrow base place name)) b.rule b.place
arrow_rows t s base place name b (answered.Int n) is h =
    one_of (Breaks t (part.Expression s (expr.Arrow base place name))) b place Mismatch h
    (row.before_arrow (no_pointer (Types t s base) (type_of t s base) (gives_is t s base)
    (ap is_pointer is)))
arrow_rows t s base place name b (answered.Pointer i) is h =
    unless_of (Breaks t (part.Expression s (expr.Arrow base place name))) b
    (is_some (member t i name)) name.place UnknownName h
    (λ e. row.no_field i (type_given_of t s base (PointerTo i) is) (none_of (member t i name) e))
arrow_rows t s base place name b answered.Null is h =
    one_of (Breaks t (part.Expression s (expr.Arrow base place name))) b place Mismatch h
    (row.before_arrow (no_pointer (Types t s base) (type_of t s base) (gives_is t s base)
    (ap is_pointer is)))
arrow_rows t s base place name b answered.Any is h = absurd h

index_rows : (t : Tables) (s : List Scope) (base index : ExprTree) (place : ℕ)
    → (is_indexed (kind_of t s base) && is_int (type_of t s index)) ≡ false
    → Breaks t (part.Expression s (expr.Index base place index)) Mismatch place
index_rows t s base index place e =
    by (and_cases (is_indexed (kind_of t s base)) (is_int (type_of t s index)) e)
  where
    by : (is_indexed (kind_of t s base) ≡ false) ⊎ (is_int (type_of t s index) ≡ false)
        → Breaks t (part.Expression s (expr.Index base place index)) Mismatch place
    by (inl e) = let x = no_array (kind_of t s base) e in
        row.before_index x.0 (type_given_of t s base x.0 (ap type_of_kind x.1))
    by (inr e) = row.index (no_number (Types t s index) (type_of t s index) (gives_is t s index) e)

rows_expression : (t : Tables) (s : List Scope) (e : ExprTree) (b : Broken)
    → IsAmong b (own_expression t s e) → Breaks t (part.Expression s e) b.rule b.place
rows_expression t s (expr.Number n) b h = absurd h
rows_expression t s expr.Null b h = absurd h
rows_expression t s (expr.Variable name) b h =
    unless_of (Breaks t (part.Expression s (expr.Variable name))) b
    (is_some (variable_type name.text s)) name.place UnknownName h
    (λ e. row.no_variable (none_of (variable_type name.text s) e))
rows_expression t s (expr.Call name all) b h = absurd h
rows_expression t s (expr.Root name) b h = root_rows t s name b (root_struct t) refl h
rows_expression t s (expr.New place name) b h = absurd h
rows_expression t s (expr.Arrow base place name) b h =
    arrow_rows t s base place name b (type_of t s base) refl h
rows_expression t s (expr.Index base place index) b h =
    unless_of (Breaks t (part.Expression s (expr.Index base place index))) b
    (is_indexed (kind_of t s base) && is_int (type_of t s index)) place Mismatch h
    (index_rows t s base index place)
rows_expression t s (expr.Unary op place a) b h =
    unless_of (Breaks t (part.Expression s (expr.Unary op place a))) b
    (applies op (type_of t s a)) place Mismatch h
    (λ e. row.operand (no_operand op (Types t s a) (type_of t s a) (gives_is t s a) e))
rows_expression t s (expr.Binary op place x y) b h =
    unless_of (Breaks t (part.Expression s (expr.Binary op place x y))) b
    (joins_types op (type_of t s x) (type_of t s y)) place Mismatch h
    (λ e. row.operands (no_operands op (Types t s x) (Types t s y) (type_of t s x) (type_of t s y)
    (gives_is t s x) (gives_is t s y) e))
rows_expression t s (expr.Conditional c place x y) b h =
    unless_of (Breaks t (part.Expression s (expr.Conditional c place x y))) b
    (comparable (type_of t s x) (type_of t s y)) place Mismatch h
    (λ e. row.sides (no_operands binary.Equal (Types t s x) (Types t s y) (type_of t s x)
    (type_of t s y) (gives_is t s x) (gives_is t s y) e))

rows_value : (t : Tables) (s : List Scope) (e : ExprTree) (b : Broken) (k : Kind)
    → kind_of t s e ≡ k → IsAmong b (unindexed k) → Breaks t (part.Value s e) b.rule b.place
rows_value t s e b (kind.Value ty) is h = absurd h
rows_value t s e b (kind.Array element place) is h =
    let x = array_at t s e element place is in
    one_of (Breaks t (part.Value s e)) b place Mismatch h (row.not_indexed x.0 x.2 x.3)

rows_pointer : (t : Tables) (name : Ident) (b : Broken) (o : Option ℕ)
    → struct_named t name.text ≡ o
    → IsAmong b (option_map_or (λ i. unless (nat_le (words_at t i)
    (pointed_limit (root_struct t) i)) name.place
    (TooBig limit.Pointer (words_at t i))) o (broken_at name.place UnknownName))
    → Breaks t (part.PointerTo name) b.rule b.place
rows_pointer t name b None is h =
    one_of (Breaks t (part.PointerTo name)) b name.place UnknownName h (row.no_struct is)
rows_pointer t name b (Some i) is h =
    unless_of (Breaks t (part.PointerTo name)) b (nat_le (words_at t i)
    (pointed_limit (root_struct t) i)) name.place
    (TooBig limit.Pointer (words_at t i)) h
    (λ e. row.pointed_words i is (le_not (words_at t i) (pointed_limit (root_struct t) i) e))

-- the rows of a call
void_rows : (t : Tables) (used : Bool) (name : Ident) (all : Arguments) (f : FunctionTree)
    → function_named t name.text ≡ Some f → (not used || is_some f.result_type) ≡ false
    → Breaks t (part.Called used name all) Mismatch name.place
void_rows t true name all f is e = row.void_used f is (none_of f.result_type e)
void_rows t false name all f is e = absurd (false≢true (sym e))

rows_call : (t : Tables) (used : Bool) (name : Ident) (all : Arguments) (b : Broken)
    (o : Option FunctionTree) → function_named t name.text ≡ o
    → IsAmong b (call_broken used o (argument_count all) name.place)
    → Breaks t (part.Called used name all) b.rule b.place
rows_call t used name all b None is h =
    one_of (Breaks t (part.Called used name all)) b name.place UnknownName h (row.no_function is)
rows_call t used name all b (Some f) is h =
    let one = unless (not used || is_some f.result_type) name.place Mismatch in
    let two = unless (nat_eq (argument_count all) (length f.parameters)) name.place Arity in
    let three = unless (not f.tx) name.place BadTx in
    let P : Rule → ℕ → Type 0 = Breaks t (part.Called used name all) in
    either one (two ++ three) b h
    (λ h. unless_of P b (not used || is_some f.result_type) name.place Mismatch h
    (void_rows t used name all f is))
    (λ h. either two three b h
    (λ h. unless_of P b (nat_eq (argument_count all) (length f.parameters)) name.place Arity h
    (λ e. row.other_number f is (same_not (argument_count all) (length f.parameters) e)))
    (λ h. unless_of P b (not f.tx) name.place BadTx h
    (λ e. row.tx_called f is (not-false f.tx e))))

passed_case : (t : Tables) (s : List Scope) (name : Ident) (i first : ℕ) (e : ExprTree)
    (f : FunctionTree) (q : Option ParameterTree) → function_named t name.text ≡ Some f
    → slice_get f.parameters i ≡ q
    → type_takes (option_map_or (λ p. declared_type t p.ty) q answered.Any) (type_of t s e) ≡ false
    → Breaks t (part.Argument s name i first e) Mismatch first
passed_case t s name i first e f None is at e1 = absurd (false≢true (sym e1))
passed_case t s name i first e f (Some q) is at e1 =
    row.passed f q is at (no_gift (IsWritten t q.ty) (Types t s e) (declared_type t q.ty)
    (type_of t s e) (written_is t q.ty) (gives_is t s e) e1)

passed_rows : (t : Tables) (s : List Scope) (name : Ident) (i first : ℕ) (e : ExprTree)
    (o : Option FunctionTree) → function_named t name.text ≡ o
    → type_takes (parameter_type t (parameters_of o) i) (type_of t s e) ≡ false
    → Breaks t (part.Argument s name i first e) Mismatch first
passed_rows t s name i first e None is e1 = absurd (false≢true (sym e1))
passed_rows t s name i first e (Some f) is e1 =
    passed_case t s name i first e f (slice_get f.parameters i) is refl e1

-- the rows of statements
rows_simple : (t : Tables) (s : List Scope) (x : SimpleTree) (b : Broken)
    → IsAmong b (own_simple t s x) → Breaks t (part.Simple s x) b.rule b.place
rows_simple t s (stmt.Assign target op place e) b h =
    let P : Rule → ℕ → Type 0 = Breaks t (part.Simple s (stmt.Assign target op place e)) in
    either (unless (assigns op (type_of t s target) (type_of t s e)) place Mismatch)
    (unless (is_target target) place NotAssignable) b h
    (λ h. unless_of P b (assigns op (type_of t s target) (type_of t s e)) place Mismatch h
    (λ n. row.assigned (no_assignment op (Types t s target) (Types t s e) (type_of t s target)
    (type_of t s e) (gives_is t s target) (gives_is t s e) n)))
    (λ h. unless_of P b (is_target target) place NotAssignable h (λ n. row.no_target n))
rows_simple t s (stmt.Step target op place) b h =
    let P : Rule → ℕ → Type 0 = Breaks t (part.Simple s (stmt.Step target op place)) in
    either (unless (is_int (type_of t s target)) place Mismatch)
    (unless (is_target target) place NotAssignable) b h
    (λ h. unless_of P b (is_int (type_of t s target)) place Mismatch h
    (λ n. row.stepped (no_number (Types t s target) (type_of t s target) (gives_is t s target) n)))
    (λ h. unless_of P b (is_target target) place NotAssignable h
    (λ n. row.no_target_stepped n))
rows_simple t s (stmt.Call name all) b h = absurd h
rows_simple t s (stmt.Free place e) b h =
    unless_of (Breaks t (part.Simple s (stmt.Free place e))) b (is_pointer (type_of t s e)) place
    Mismatch h (λ n. row.freed (no_pointer (Types t s e) (type_of t s e) (gives_is t s e) n))
rows_simple t s (stmt.Abort place) b h = absurd h

initial_rows : (t : Tables) (s : List Scope) (d : DeclarationTree) (b : Broken)
    (o : Option InitialTree) → d.initial ≡ o
    → IsAmong b (option_map_or (own_initial t s (declared_type t d.ty)) o [])
    → Breaks t (part.Local s d) b.rule b.place
initial_rows t s d b None is h = absurd h
initial_rows t s d b (Some i) is h =
    unless_of (Breaks t (part.Local s d)) b
    (type_takes (declared_type t d.ty) (type_of t s i.value)) i.place Mismatch h
    (λ n. row.initial i is (no_gift (IsWritten t d.ty) (Types t s i.value) (declared_type t d.ty)
    (type_of t s i.value) (written_is t d.ty) (gives_is t s i.value) n))

rows_local : (t : Tables) (s : List Scope) (d : DeclarationTree) (b : Broken)
    → IsAmong b (own_local t s d) → Breaks t (part.Local s d) b.rule b.place
rows_local t s d b h =
    either (option_map_or (own_initial t s (declared_type t d.ty)) d.initial [])
    (unless (not (is_declared d.name.text s)) d.name.place Twice) b h
    (λ h. initial_rows t s d b d.initial refl h)
    (λ h. unless_of (Breaks t (part.Local s d)) b (not (is_declared d.name.text s)) d.name.place
    Twice h (λ n. row.local_again (not-false (is_declared d.name.text s) n)))

rows_return : (t : Tables) (result : Option TypeTree) (s : List Scope) (place : ℕ)
    (o : Option ExprTree) (b : Broken) → IsAmong b (own_return t result s place o)
    → Breaks t (part.Returned result s place o) b.rule b.place
rows_return t None s place None b h = absurd h
rows_return t None s place (Some e) b h =
    one_of (Breaks t (part.Returned None s place (Some e))) b place Mismatch h row.value_in_void
rows_return t (Some ty) s place None b h =
    one_of (Breaks t (part.Returned (Some ty) s place None)) b place Mismatch h row.no_value
rows_return t (Some ty) s place (Some e) b h =
    unless_of (Breaks t (part.Returned (Some ty) s place (Some e))) b
    (type_takes (declared_type t ty) (type_of t s e)) place Mismatch h
    (λ n. row.returned (no_gift (IsWritten t ty) (Types t s e) (declared_type t ty)
    (type_of t s e) (written_is t ty) (gives_is t s e) n))

-- the rows of declarations
length_rows : (t : Tables) (s : StructTree) (j : ℕ) (f : FieldTree) (b : Broken)
    (o : Option LengthTree) → f.len ≡ o → IsAmong b (option_map_or length_broken o [])
    → Breaks t (part.Field s j f) b.rule b.place
length_rows t s j f b None is h = absurd h
length_rows t s j f b (Some l) is h =
    unless_of (Breaks t (part.Field s j f)) b (is_length l.value) l.place
    (TooBig limit.Array (cast_unsigned w64 l.value)) h (λ n. row.array_length l is n)

rows_field : (t : Tables) (s : StructTree) (j : ℕ) (f : FieldTree) (b : Broken)
    → IsAmong b (own_field s j f) → Breaks t (part.Field s j f) b.rule b.place
rows_field t s j f b h =
    let found = index_of f.name.text (field_names s) in
    either (unless (is_first found j) f.name.place Twice) (option_map_or length_broken f.len []) b h
    (λ h. unless_of (Breaks t (part.Field s j f)) b (is_first found j) f.name.place Twice h
    (λ n. row.field_again (not_first found j n)))
    (λ h. length_rows t s j f b f.len refl h)

many_parameters_at : (t : Tables) (s : List Scope) (i : ℕ) (q : ParameterTree)
    → not (nat_eq i 22) ≡ false
    → Breaks t (part.Parameter s i q) (TooBig limit.Parameters 23) q.name.place
many_parameters_at t s i q e =
    subst (λ i. Breaks t (part.Parameter s i q) (TooBig limit.Parameters 23) q.name.place)
    (sym (same_from i 22 (not-false (nat_eq i 22) e))) row.many_parameters

rows_parameter : (t : Tables) (s : List Scope) (i : ℕ) (q : ParameterTree) (b : Broken)
    → IsAmong b (own_parameter s i q) → Breaks t (part.Parameter s i q) b.rule b.place
rows_parameter t s i q b h =
    let P : Rule → ℕ → Type 0 = Breaks t (part.Parameter s i q) in
    either (unless (not (nat_eq i 22)) q.name.place (TooBig limit.Parameters 23))
    (unless (not (is_declared q.name.text s)) q.name.place Twice) b h
    (λ h. unless_of P b (not (nat_eq i 22)) q.name.place (TooBig limit.Parameters 23) h
    (many_parameters_at t s i q))
    (λ h. unless_of P b (not (is_declared q.name.text s)) q.name.place Twice h
    (λ n. row.parameter_again (not-false (is_declared q.name.text s) n)))

rows_root : (t : Tables) (i : ℕ) (r : RootTree) (b : Broken) → IsAmong b (root_item_broken t i r)
    → Breaks t (part.Root i r) b.rule b.place
rows_root t i r b h =
    let P : Rule → ℕ → Type 0 = Breaks t (part.Root i r) in
    either (unless (is_some (struct_named t r.name.text)) r.name.place UnknownName)
    (unless (nat_eq i 0) r.place Twice) b h
    (λ h. unless_of P b (is_some (struct_named t r.name.text)) r.name.place UnknownName h
    (λ n. row.no_struct_of_root (none_of (struct_named t r.name.text) n)))
    (λ h. unless_of P b (nat_eq i 0) r.place Twice h (λ n. row.root_again (later i n)))
  where
    later : (i : ℕ) → nat_eq i 0 ≡ false → 0 < i
    later i e = grind (arith, nat_tests)

many_structs_at : (t : Tables) (i : ℕ) (s : StructTree) → not (nat_eq i 255) ≡ false
    → Breaks t (part.Struct i s) (TooBig limit.Structs 256) s.name.place
many_structs_at t i s e =
    subst (λ i. Breaks t (part.Struct i s) (TooBig limit.Structs 256) s.name.place)
    (sym (same_from i 255 (not-false (nat_eq i 255) e))) row.many_structs

rows_struct : (t : Tables) (i : ℕ) (s : StructTree) (b : Broken) → IsAmong b (struct_broken t i s)
    → Breaks t (part.Struct i s) b.rule b.place
rows_struct t i s b h =
    let P : Rule → ℕ → Type 0 = Breaks t (part.Struct i s) in
    let root : Bool = is_first (root_struct t) i in
    let words : ℕ = words_of_struct s in
    let at : ℕ = s.name.place in
    let one = unless (is_first (struct_named t s.name.text) i) at Twice in
    let two = unless (not (nat_eq i 255)) at (TooBig limit.Structs 256) in
    let three = unless (root || nat_le words OBJECT_WORDS) at (TooBig limit.Struct words) in
    let four = unless (not root || nat_le words ROOT_WORDS) at (TooBig limit.Root words) in
    either one (two ++ (three ++ four)) b h
    (λ h. unless_of P b (is_first (struct_named t s.name.text) i) at Twice h
    (λ n. row.struct_again (not_first (struct_named t s.name.text) i n)))
    (λ h. either two (three ++ four) b h
    (λ h. unless_of P b (not (nat_eq i 255)) at (TooBig limit.Structs 256) h
    (many_structs_at t i s))
    (λ h. either three four b h
    (λ h. unless_of P b (root || nat_le words OBJECT_WORDS) at (TooBig limit.Struct words) h
    (λ n. row.struct_words (not_first (root_struct t) i
    (or_parts root (nat_le words OBJECT_WORDS) n).0)
    (le_not words OBJECT_WORDS (or_parts root (nat_le words OBJECT_WORDS) n).1)))
    (λ h. unless_of P b (not root || nat_le words ROOT_WORDS) at (TooBig limit.Root words) h
    (λ n. row.root_words (first_at (root_struct t) i (not-false root
    (or_parts (not root) (nat_le words ROOT_WORDS) n).0))
    (le_not words ROOT_WORDS (or_parts (not root) (nat_le words ROOT_WORDS) n).1)))))

-- a parameter that isn't an int
pub no_int_among : (t : Tables) (qs : List ParameterTree) → all_ints t qs ≡ false
    → (j : ℕ) × (q : ParameterTree) × (slice_get qs j ≡ Some q)
    × (is_int (declared_type t q.ty) ≡ false)
no_int_among t [] e = absurd (false≢true (sym e))
no_int_among t (q ∷ qs) e =
    by (and_cases (is_int (declared_type t q.ty)) (all_ints t qs) e) (no_int_among t qs)
  where
    by : (is_int (declared_type t q.ty) ≡ false) ⊎ (all_ints t qs ≡ false)
        → (all_ints t qs ≡ false → (j : ℕ) × (p : ParameterTree) × (slice_get qs j ≡ Some p)
        × (is_int (declared_type t p.ty) ≡ false))
        → (j : ℕ) × (p : ParameterTree) × (slice_get (q ∷ qs) j ≡ Some p)
        × (is_int (declared_type t p.ty) ≡ false)
    by (inl e) rest = (0, q, refl, e)
    by (inr e) rest = let r = rest e in (suc r.0, r.1, r.2, r.3)

pub among_no_int : (t : Tables) (qs : List ParameterTree) (j : ℕ) (q : ParameterTree)
    → slice_get qs j ≡ Some q → is_int (declared_type t q.ty) ≡ false → all_ints t qs ≡ false
among_no_int t [] j q is e = absurd (none-some q is)
among_no_int t (p ∷ qs) zero q is e = and_left (is_int (declared_type t p.ty)) (all_ints t qs)
    (subst (λ (p : ParameterTree). is_int (declared_type t p.ty) ≡ false)
    (sym (same_Some p q is)) e)
among_no_int t (p ∷ qs) (suc j) q is e =
    and_right (is_int (declared_type t p.ty)) (all_ints t qs) (among_no_int t qs j q is e)

tx_rows : (t : Tables) (i : ℕ) (f : FunctionTree) (o : Option TypeTree) → f.tx ≡ true
    → f.result_type ≡ o
    → (option_map_or (λ ty. is_int (declared_type t ty)) o false && all_ints t f.parameters) ≡ false
    → Breaks t (part.Function i f) BadTx f.name.place
tx_rows t i f None tx is e = row.tx_void tx is
tx_rows t i f (Some ty) tx is e =
    by (and_cases (is_int (declared_type t ty)) (all_ints t f.parameters) e)
  where
    by : (is_int (declared_type t ty) ≡ false) ⊎ (all_ints t f.parameters ≡ false)
        → Breaks t (part.Function i f) BadTx f.name.place
    by (inl e) = row.tx_result ty tx is
        (no_number (IsWritten t ty) (declared_type t ty) (written_is t ty) e)
    by (inr e) =
        let q = no_int_among t f.parameters e in
        row.tx_parameter q.0 q.1 tx q.2
        (no_number (IsWritten t q.1.ty) (declared_type t q.1.ty) (written_is t q.1.ty) q.3)

many_functions_at : (t : Tables) (i : ℕ) (f : FunctionTree) → not (nat_eq i 1024) ≡ false
    → Breaks t (part.Function i f) (TooBig limit.Functions 1025) f.name.place
many_functions_at t i f e =
    subst (λ i. Breaks t (part.Function i f) (TooBig limit.Functions 1025) f.name.place)
    (sym (same_from i 1024 (not-false (nat_eq i 1024) e))) row.many_functions

rows_function : (t : Tables) (i : ℕ) (f : FunctionTree) (b : Broken)
    → IsAmong b (own_function t i f) → Breaks t (part.Function i f) b.rule b.place
rows_function t i f b h =
    let P : Rule → ℕ → Type 0 = Breaks t (part.Function i f) in
    let found = index_of f.name.text (function_names t) in
    let at : ℕ = f.name.place in
    let one = unless (is_first found i) at Twice in
    let two = unless (not (nat_eq i 1024)) at (TooBig limit.Functions 1025) in
    let three = unless (not f.tx || is_transaction t f) at BadTx in
    either one (two ++ three) b h
    (λ h. unless_of P b (is_first found i) at Twice h
    (λ n. row.function_again (not_first found i n)))
    (λ h. either two three b h
    (λ h. unless_of P b (not (nat_eq i 1024)) at (TooBig limit.Functions 1025) h
    (many_functions_at t i f))
    (λ h. unless_of P b (not f.tx || is_transaction t f) at BadTx h
    (λ n. tx_rows t i f f.result_type (not-false f.tx
    (or_parts (not f.tx) (is_transaction t f) n).0) refl
    (or_parts (not f.tx) (is_transaction t f) n).1)))

const_is : (a : Marked) → is_const a ≡ true → a ≡ mark.Const
const_is mark.Plain e = absurd (false≢true e)
const_is mark.Abort e = absurd (false≢true e)
const_is mark.Const e = refl

rows_look : (t : Tables) (i : ℕ) (f : FunctionTree) (b : Broken)
    → IsAmong b (look_broken t (storing t) f) → Breaks t (part.Function i f) b.rule b.place
rows_look t i f b h =
    let stores : Bool = statements_store t (storing t) f.body in
    unless_of (Breaks t (part.Function i f)) b (not (is_const f.mark) || not stores) f.name.place
    BadTx h
    (λ n. let both = or_parts (not (is_const f.mark)) (not stores) n in
    row.const_stores (const_is f.mark (not-false (is_const f.mark) both.0))
    (stores_from t f (not-false stores both.1)))

pub rows : (t : Tables) (p : Part) (b : Broken) → IsAmong b (own t p) → Breaks t p b.rule b.place
rows t (part.Whole end) b h =
    unless_of (Breaks t (part.Whole end)) b (is_some (slice_get t.roots 0)) end NoRoot h
    (λ n. row.no_root (no_roots t.roots n))
rows t (part.Struct i s) b h = rows_struct t i s b h
rows t (part.Root i r) b h = rows_root t i r b h
rows t (part.Function i f) b h = either (own_function t i f) (look_broken t (storing t) f) b h
    (λ h. rows_function t i f b h) (λ h. rows_look t i f b h)
rows t (part.Field s j f) b h = rows_field t s j f b h
rows t (part.Parameter s i q) b h = rows_parameter t s i q b h
rows t (part.PointerTo name) b h = rows_pointer t name b (struct_named t name.text) refl h
rows t (part.Local s d) b h = rows_local t s d b h
rows t (part.Simple s x) b h = rows_simple t s x b h
rows t (part.Returned result s place e) b h = rows_return t result s place e b h
rows t (part.Expression s e) b h = rows_expression t s e b h
rows t (part.Value s e) b h = rows_value t s e b (kind_of t s e) refl h
rows t (part.Called used name all) b h =
    rows_call t used name all b (function_named t name.text) refl h
rows t (part.Argument s callee i first e) b h =
    unless_of (Breaks t (part.Argument s callee i first e)) b
    (type_takes (parameter_type t (parameters_of (function_named t callee.text)) i)
    (type_of t s e)) first Mismatch h
    (passed_rows t s callee i first e (function_named t callee.text) refl)
