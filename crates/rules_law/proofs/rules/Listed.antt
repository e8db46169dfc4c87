-- What a row gives for a part is among the rules that `c_types` lists for it.
use Rattle.std.proofs.Common.{◌≡◌, ◌≢◌, ℕ, ◌<◌, inl, Bool, true, false, List, [], ◌++◌}
use Rattle.std.proofs.Common.{length, refl, sym, ap, subst, arith}
use Rattle.std.specs.Prelude.{◌&&◌, ◌||◌, not, nat_eq, nat_le, is_some, slice_get, None}
use Rattle.std.specs.Prelude.{Some}
use Rattle.std.specs.Option.{option_map_or}
use Rattle.std.specs.Int.{w64, cast_unsigned}
use Rattle.std.proofs.lemmas.Bool.Decides.{nat_tests}
use Rattle.std.proofs.lemmas.Bool.{or_from, not_from_true, and_left, and_right, false≢true}
use Rattle.c_tree.specs.declared.expr.BinaryOp.TheVariants as binary
use Rattle.c_tree.specs.ExprTree.{Arguments, Ident}
use Rattle.c_tree.specs.StmtTree.{TypeTree, InitialTree, DeclarationTree}
use Rattle.c_tree.specs.ItemTree.{FieldTree, FunctionTree, LengthTree, ParameterTree}
use Rattle.c_tree.specs.declared.item.Marked.TheVariants as mark
use Rattle.c_types.specs.declared.value_type.ValueType.{ValueType}
use Rattle.c_types.specs.declared.value_type.ValueType.TheVariants as answered
use Rattle.c_types.specs.declared.value_type.Kind.{Kind}
use Rattle.c_types.specs.declared.fault.LimitKind.TheVariants as limit
use Rattle.c_types.specs.declared.broken.Broken.{Broken}
use Rattle.c_types.specs.declared.broken.Rule.{Rule}
use Rattle.c_types.specs.declared.broken.Rule.TheVariants.{UnknownName, Twice, Mismatch}
use Rattle.c_types.specs.declared.broken.Rule.TheVariants.{NotAssignable, Arity, TooBig}
use Rattle.c_types.specs.declared.broken.Rule.TheVariants.{BadTx}
use Rattle.c_types.specs.Broken.{broken_at, unless}
use Rattle.c_types.specs.LeastLaw.{IsAmong}
use Rattle.c_types.specs.Fits.{is_int, is_pointer, type_takes, comparable, joins_types, applies}
use Rattle.c_types.specs.Fits.{assigns}
use Rattle.c_types.specs.Tables.{Tables, StructTree, index_of, field_names, is_first}
use Rattle.c_types.specs.Tables.{function_names, function_named, struct_named, root_struct}
use Rattle.c_types.specs.Tables.{words_of_struct, words_at, is_length, declared_type, pointed_limit}
use Rattle.c_types.specs.Expressions.{Scope, variable_type, member, member_broken, arrow_broken}
use Rattle.c_types.specs.Expressions.{is_indexed, unindexed, kind_of, type_of, callee_broken}
use Rattle.c_types.specs.Expressions.{call_broken, argument_count, parameter_type, parameters_of}
use Rattle.c_types.specs.Statements.{is_declared, is_target}
use Rattle.c_types.specs.Declarations.{length_broken, all_ints, is_transaction}
use Rattle.c_types.specs.Transactions.{is_const}
use Rattle.c_types.specs.Looking.{statements_store, storing, look_broken}
use Rattle.pool_map.specs.declared.limits.TheConstants.{OBJECT_WORDS, ROOT_WORDS}
use Rattle.rules_law.specs.typed.Types.{PointerTo, IsWritten}
use Rattle.rules_law.proofs.typed.Programs.{root_first}
use Rattle.rules_law.specs.rules.Part.{Part}
use Rattle.rules_law.specs.rules.Part as part
use Rattle.rules_law.specs.rules.Given.{Types}
use Rattle.rules_law.specs.rules.Stores.{Stores}
use Rattle.rules_law.specs.rules.Rules.{Breaks}
use Rattle.rules_law.specs.rules.Rules as row
use Rattle.rules_law.proofs.rules.Among.{Told, among_left, among_right, unless_told}
use Rattle.rules_law.proofs.rules.Fits.{number_no, pointer_no}
use Rattle.rules_law.proofs.rules.Fits.{operands_no, operand_no, gift_no, assignment_no, array_no}
use Rattle.rules_law.proofs.rules.Own.{own, own_initial, own_local, own_field, own_function}
use Rattle.rules_law.proofs.rules.Own.{not_le, not_same, first_not}
use Rattle.rules_law.proofs.rules.Own.{among_no_int}
use Rattle.rules_law.proofs.rules.Storing.{stores_to}
use Rattle.rules_law.proofs.rules.Given.{written_is}
use Rattle.rules_law.proofs.rules.Kept.{given_kind, given_type, gives_is, given_at}

arrow_listed : (t : Tables) (place : ℕ) (name : Ident) (ty : ValueType) → is_pointer ty ≡ false
    → IsAmong (Told Mismatch place) (arrow_broken t ty place name)
arrow_listed t place name (answered.Int n) e = inl refl
arrow_listed t place name (answered.Pointer i) e = absurd (false≢true (sym e))
arrow_listed t place name answered.Null e = inl refl
arrow_listed t place name answered.Any e = absurd (false≢true (sym e))

-- one of the three rules of a call
call_listed : (t : Tables) (used : Bool) (name : Ident) (all : Arguments) (f : FunctionTree)
    (b : Broken) → function_named t name.text ≡ Some f
    → IsAmong b (callee_broken used f (argument_count all) name.place)
    → IsAmong b (call_broken used (function_named t name.text) (argument_count all) name.place)
call_listed t used name all f b is h =
    subst (λ o. IsAmong b (call_broken used o (argument_count all) name.place)) (sym is) h

void_listed : (f : FunctionTree) (n place : ℕ) → f.result_type ≡ None
    → IsAmong (Told Mismatch place) (callee_broken true f n place)
void_listed f n place none =
    among_left (unless (not true || is_some f.result_type) place Mismatch)
    (unless (nat_eq n (length f.parameters)) place Arity ++ unless (not f.tx) place BadTx)
    (Told Mismatch place)
    (unless_told (not true || is_some f.result_type) place Mismatch (rw none refl))

arity_listed : (used : Bool) (f : FunctionTree) (n place : ℕ) → n ≢ length f.parameters
    → IsAmong (Told Arity place) (callee_broken used f n place)
arity_listed used f n place other =
    among_right (unless (not used || is_some f.result_type) place Mismatch)
    (unless (nat_eq n (length f.parameters)) place Arity ++ unless (not f.tx) place BadTx)
    (Told Arity place)
    (among_left (unless (nat_eq n (length f.parameters)) place Arity)
    (unless (not f.tx) place BadTx) (Told Arity place)
    (unless_told (nat_eq n (length f.parameters)) place Arity
    (not_same n (length f.parameters) other)))

tx_listed : (used : Bool) (f : FunctionTree) (n place : ℕ) → f.tx ≡ true
    → IsAmong (Told BadTx place) (callee_broken used f n place)
tx_listed used f n place tx =
    among_right (unless (not used || is_some f.result_type) place Mismatch)
    (unless (nat_eq n (length f.parameters)) place Arity ++ unless (not f.tx) place BadTx)
    (Told BadTx place)
    (among_right (unless (nat_eq n (length f.parameters)) place Arity)
    (unless (not f.tx) place BadTx) (Told BadTx place)
    (unless_told (not f.tx) place BadTx (rw tx refl)))

-- one of the four rules of a struct
abbrev again_struct : Tables → ℕ → StructTree → List Broken
again_struct t i s = unless (is_first (struct_named t s.name.text) i) s.name.place Twice

abbrev count_structs : ℕ → StructTree → List Broken
count_structs i s = unless (not (nat_eq i 255)) s.name.place (TooBig limit.Structs 256)

abbrev of_struct : Tables → ℕ → StructTree → List Broken
of_struct t i s = unless (is_first (root_struct t) i || nat_le (words_of_struct s) OBJECT_WORDS)
    s.name.place
    (TooBig limit.Struct (words_of_struct s))

abbrev of_root : Tables → ℕ → StructTree → List Broken
of_root t i s = unless (not (is_first (root_struct t) i) || nat_le (words_of_struct s) ROOT_WORDS)
    s.name.place (TooBig limit.Root (words_of_struct s))

words_listed : (t : Tables) (i : ℕ) (s : StructTree) (b : Broken)
    → IsAmong b (of_struct t i s ++ of_root t i s) → IsAmong b (own t (part.Struct i s))
words_listed t i s b h =
    among_right (again_struct t i s) (count_structs i s ++ (of_struct t i s ++ of_root t i s)) b
    (among_right (count_structs i s) (of_struct t i s ++ of_root t i s) b h)

-- one of the three rules of a function
abbrev again_function : Tables → ℕ → FunctionTree → List Broken
again_function t i f =
    unless (is_first (index_of f.name.text (function_names t)) i) f.name.place Twice

abbrev count_functions : ℕ → FunctionTree → List Broken
count_functions i f = unless (not (nat_eq i 1024)) f.name.place (TooBig limit.Functions 1025)

abbrev of_tx : Tables → FunctionTree → List Broken
of_tx t f = unless (not f.tx || is_transaction t f) f.name.place BadTx

function_listed : (t : Tables) (i : ℕ) (f : FunctionTree) (b : Broken)
    → IsAmong b (own_function t i f) → IsAmong b (own t (part.Function i f))
function_listed t i f b h = among_left (own_function t i f) (look_broken t (storing t) f) b h

bad_listed : (t : Tables) (i : ℕ) (f : FunctionTree) → f.tx ≡ true → is_transaction t f ≡ false
    → IsAmong (Told BadTx f.name.place) (own t (part.Function i f))
bad_listed t i f tx e =
    function_listed t i f (Told BadTx f.name.place)
    (among_right (again_function t i f) (count_functions i f ++ of_tx t f) (Told BadTx f.name.place)
    (among_right (count_functions i f) (of_tx t f) (Told BadTx f.name.place)
    (unless_told (not f.tx || is_transaction t f) f.name.place BadTx
    (or_from (not f.tx) (is_transaction t f) (rw tx refl) e))))

const_listed : (t : Tables) (i : ℕ) (f : FunctionTree) → f.mark ≡ mark.Const → Stores t f
    → IsAmong (Told BadTx f.name.place) (own t (part.Function i f))
const_listed t i f is h =
    let stores : Bool = statements_store t (storing t) f.body in
    among_right (own_function t i f) (look_broken t (storing t) f) (Told BadTx f.name.place)
    (unless_told (not (is_const f.mark) || not stores) f.name.place BadTx
    (or_from (not (is_const f.mark)) (not stores) (not_from_true (is_const f.mark)
    (ap is_const is)) (not_from_true stores (stores_to t f h))))

no_result : (t : Tables) (f : FunctionTree) → f.result_type ≡ None → is_transaction t f ≡ false
no_result t f none = and_left (option_map_or (λ ty. is_int (declared_type t ty))
    f.result_type false) (all_ints t f.parameters) (rw none refl)

no_int_result : (t : Tables) (f : FunctionTree) (ty : TypeTree) → f.result_type ≡ Some ty
    → is_int (declared_type t ty) ≡ false → is_transaction t f ≡ false
no_int_result t f ty is e = and_left (option_map_or (λ ty. is_int (declared_type t ty))
    f.result_type false) (all_ints t f.parameters)
    (subst (λ o. option_map_or (λ ty. is_int (declared_type t ty)) o false ≡ false) (sym is) e)

no_int_parameter : (t : Tables) (f : FunctionTree) (j : ℕ) (q : ParameterTree)
    → slice_get f.parameters j ≡ Some q → is_int (declared_type t q.ty) ≡ false
    → is_transaction t f ≡ false
no_int_parameter t f j q is e = and_right (option_map_or (λ ty. is_int (declared_type t ty))
    f.result_type false) (all_ints t f.parameters) (among_no_int t f.parameters j q is e)

-- one of the rules of a field, of a parameter, of a local, of a target
length_listed : (s : StructTree) (j : ℕ) (f : FieldTree) (l : LengthTree) → f.len ≡ Some l
    → is_length l.value ≡ false
    → IsAmong (Told (TooBig limit.Array (cast_unsigned w64 l.value)) l.place) (own_field s j f)
length_listed s j f l is e =
    let b : Broken = Told (TooBig limit.Array (cast_unsigned w64 l.value)) l.place in
    among_right (unless (is_first (index_of f.name.text (field_names s)) j) f.name.place Twice)
    (option_map_or length_broken f.len []) b
    (subst (λ o. IsAmong b (option_map_or length_broken o [])) (sym is)
    (unless_told (is_length l.value) l.place (TooBig limit.Array (cast_unsigned w64 l.value)) e))

initial_listed : (t : Tables) (s : List Scope) (d : DeclarationTree) (i : InitialTree)
    → d.initial ≡ Some i → type_takes (declared_type t d.ty) (type_of t s i.value) ≡ false
    → IsAmong (Told Mismatch i.place) (own_local t s d)
initial_listed t s d i is e =
    among_left (option_map_or (own_initial t s (declared_type t d.ty)) d.initial [])
    (unless (not (is_declared d.name.text s)) d.name.place Twice) (Told Mismatch i.place)
    (subst (λ o. IsAmong (Told Mismatch i.place)
    (option_map_or (own_initial t s (declared_type t d.ty)) o [])) (sym is)
    (unless_told (type_takes (declared_type t d.ty) (type_of t s i.value)) i.place Mismatch e))

not_zero : (i : ℕ) → 0 < i → nat_eq i 0 ≡ false
not_zero i lt = grind (arith, nat_tests)

pub listed : {t : Tables} {p : Part} {r : Rule} {n : ℕ} → Breaks t p r n
    → IsAmong (Told r n) (own t p)
listed (row.no_variable {s = s} {name = name} is) =
    unless_told (is_some (variable_type name.text s)) name.place UnknownName (rw is refl)
listed {t} (row.no_function {used = used} {name = name} {all = all} is) =
    subst (λ o. IsAmong (Told UnknownName name.place)
    (call_broken used o (argument_count all) name.place)) (sym is) (inl refl)
listed (row.no_struct is) = rw is (inl refl)
listed {t} (row.no_struct_of_root {i = i} {r = r} is) =
    among_left (unless (is_some (struct_named t r.name.text)) r.name.place UnknownName)
    (unless (nat_eq i 0) r.place Twice) (Told UnknownName r.name.place)
    (unless_told (is_some (struct_named t r.name.text)) r.name.place UnknownName (rw is refl))
listed {t} (row.no_field {s = s} {base = base} {place = place} {name = name} i is none) =
    subst (λ ty. IsAmong (Told UnknownName name.place) (arrow_broken t ty place name))
    (sym (given_type t s base (PointerTo i) is))
    (unless_told (is_some (member t i name)) name.place UnknownName (rw none refl))
listed {t} (row.no_field_of_root {name = name} i is none) =
    subst (λ o. IsAmong (Told UnknownName name.place) (option_map_or
    (λ i. member_broken t i name) o (unless (is_some (slice_get t.roots 0)) name.place
    UnknownName))) (sym is)
    (unless_told (is_some (member t i name)) name.place UnknownName (rw none refl))
listed (row.no_root_with_field none) = rw none (inl refl)
listed {t} (row.struct_again {i = i} {s = s} other) =
    among_left (again_struct t i s) (count_structs i s ++ (of_struct t i s ++ of_root t i s))
    (Told Twice s.name.place)
    (unless_told (is_first (struct_named t s.name.text) i) s.name.place Twice
    (first_not (struct_named t s.name.text) i other))
listed {t} (row.function_again {i = i} {f = f} other) =
    function_listed t i f (Told Twice f.name.place)
    (among_left (again_function t i f) (count_functions i f ++ of_tx t f) (Told Twice f.name.place)
    (unless_told (is_first (index_of f.name.text (function_names t)) i) f.name.place Twice
    (first_not (index_of f.name.text (function_names t)) i other)))
listed (row.field_again {s = s} {j = j} {f = f} other) =
    among_left (unless (is_first (index_of f.name.text (field_names s)) j) f.name.place Twice)
    (option_map_or length_broken f.len []) (Told Twice f.name.place)
    (unless_told (is_first (index_of f.name.text (field_names s)) j) f.name.place Twice
    (first_not (index_of f.name.text (field_names s)) j other))
listed {t} (row.local_again {s = s} {d = d} is) =
    among_right (option_map_or (own_initial t s (declared_type t d.ty)) d.initial [])
    (unless (not (is_declared d.name.text s)) d.name.place Twice) (Told Twice d.name.place)
    (unless_told (not (is_declared d.name.text s)) d.name.place Twice (rw is refl))
listed (row.parameter_again {s = s} {i = i} {q = q} is) =
    among_right (unless (not (nat_eq i 22)) q.name.place (TooBig limit.Parameters 23))
    (unless (not (is_declared q.name.text s)) q.name.place Twice) (Told Twice q.name.place)
    (unless_told (not (is_declared q.name.text s)) q.name.place Twice (rw is refl))
listed {t} (row.root_again {i = i} {r = r} lt) =
    among_right (unless (is_some (struct_named t r.name.text)) r.name.place UnknownName)
    (unless (nat_eq i 0) r.place Twice) (Told Twice r.place)
    (unless_told (nat_eq i 0) r.place Twice (not_zero i lt))
listed {t} (row.operands {s = s} {op = op} {place = place} {a = a} {b = b} never) =
    unless_told (joins_types op (type_of t s a) (type_of t s b)) place Mismatch
    (operands_no op (Types t s a) (Types t s b) (type_of t s a) (type_of t s b) (gives_is t s a)
    (gives_is t s b) never)
listed {t} (row.sides {s = s} {place = place} {c = c} {a = a} {b = b} never) =
    unless_told (comparable (type_of t s a) (type_of t s b)) place Mismatch
    (operands_no binary.Equal (Types t s a) (Types t s b) (type_of t s a) (type_of t s b)
    (gives_is t s a) (gives_is t s b) never)
listed {t} (row.operand {s = s} {op = op} {place = place} {a = a} never) =
    unless_told (applies op (type_of t s a)) place Mismatch (operand_no op
    (Types t s a) (type_of t s a) (gives_is t s a) never)
listed {t} (row.before_arrow {s = s} {base = base} {place = place} {name = name} never) =
    arrow_listed t place name (type_of t s base)
    (pointer_no (Types t s base) (type_of t s base) (gives_is t s base) never)
listed {t} (row.before_index {s = s} {base = base} {index = index} {place = place} x is) =
    unless_told (is_indexed (kind_of t s base) && is_int (type_of t s index)) place Mismatch
    (and_left (is_indexed (kind_of t s base)) (is_int (type_of t s index))
    (array_no (kind_of t s base) x (given_kind t s base x is)))
listed {t} (row.index {s = s} {base = base} {index = index} {place = place} never) =
    unless_told (is_indexed (kind_of t s base) && is_int (type_of t s index)) place Mismatch
    (and_right (is_indexed (kind_of t s base)) (is_int (type_of t s index))
    (number_no (Types t s index) (type_of t s index) (gives_is t s index) never))
listed {t} (row.not_indexed {s = s} {e = e} {place = place} x is ends) =
    subst (λ (k : Kind). IsAmong (Told Mismatch place) (unindexed k))
    (sym (given_at t s e x place is ends)) (inl refl)
listed {t} (row.void_used {name = name} {all = all} f is none) =
    call_listed t true name all f (Told Mismatch name.place) is
    (void_listed f (argument_count all) name.place none)
listed {t} (row.assigned {s = s} {target = target} {e = e} {op = op} {place = place} never) =
    among_left (unless (assigns op (type_of t s target) (type_of t s e)) place Mismatch)
    (unless (is_target target) place NotAssignable) (Told Mismatch place)
    (unless_told (assigns op (type_of t s target) (type_of t s e)) place Mismatch
    (assignment_no op (Types t s target) (Types t s e) (type_of t s target) (type_of t s e)
    (gives_is t s target) (gives_is t s e) never))
listed {t} (row.initial {s = s} {d = d} i is never) =
    initial_listed t s d i is (gift_no (IsWritten t d.ty) (Types t s i.value) (declared_type t d.ty)
    (type_of t s i.value) (written_is t d.ty) (gives_is t s i.value) never)
listed {t} (row.stepped {s = s} {target = target} {place = place} never) =
    among_left (unless (is_int (type_of t s target)) place Mismatch)
    (unless (is_target target) place NotAssignable) (Told Mismatch place)
    (unless_told (is_int (type_of t s target)) place Mismatch
    (number_no (Types t s target) (type_of t s target) (gives_is t s target) never))
listed {t} (row.passed {s = s} {name = name} {i = i} {first = first} {e = e} f q is at never) =
    let wanted : parameter_type t (parameters_of (function_named t name.text)) i
    ≡ declared_type t q.ty = rw (is, at) refl in
    unless_told (type_takes (parameter_type t (parameters_of (function_named t name.text)) i)
    (type_of t s e)) first Mismatch
    (subst (λ ty. type_takes ty (type_of t s e) ≡ false) (sym wanted)
    (gift_no (IsWritten t q.ty) (Types t s e) (declared_type t q.ty) (type_of t s e)
    (written_is t q.ty) (gives_is t s e) never))
listed row.value_in_void = inl refl
listed row.no_value = inl refl
listed {t} (row.returned {s = s} {place = place} {ty = ty} {e = e} never) =
    unless_told (type_takes (declared_type t ty) (type_of t s e)) place Mismatch
    (gift_no (IsWritten t ty) (Types t s e) (declared_type t ty) (type_of t s e)
    (written_is t ty) (gives_is t s e) never)
listed {t} (row.freed {s = s} {place = place} {e = e} never) =
    unless_told (is_pointer (type_of t s e)) place Mismatch (pointer_no
    (Types t s e) (type_of t s e) (gives_is t s e) never)
listed {t} (row.no_target {s = s} {target = target} {e = e} {op = op} {place = place} is) =
    among_right (unless (assigns op (type_of t s target) (type_of t s e)) place Mismatch)
    (unless (is_target target) place NotAssignable) (Told NotAssignable place)
    (unless_told (is_target target) place NotAssignable is)
listed {t} (row.no_target_stepped {s = s} {target = target} {place = place} is) =
    among_right (unless (is_int (type_of t s target)) place Mismatch)
    (unless (is_target target) place NotAssignable) (Told NotAssignable place)
    (unless_told (is_target target) place NotAssignable is)
listed {t} (row.other_number {used = used} {name = name} {all = all} f is other) =
    call_listed t used name all f (Told Arity name.place) is
    (arity_listed used f (argument_count all) name.place other)
listed (row.array_length {s = s} {j = j} {f = f} l is e) = length_listed s j f l is e
listed {t} (row.struct_words {i = i} {s = s} other more) =
    words_listed t i s (Told (TooBig limit.Struct (words_of_struct s)) s.name.place)
    (among_left (of_struct t i s) (of_root t i s)
    (Told (TooBig limit.Struct (words_of_struct s)) s.name.place)
    (unless_told (is_first (root_struct t) i || nat_le (words_of_struct s) OBJECT_WORDS)
    s.name.place
    (TooBig limit.Struct (words_of_struct s))
    (or_from (is_first (root_struct t) i) (nat_le (words_of_struct s) OBJECT_WORDS)
    (first_not (root_struct t) i other) (not_le (words_of_struct s) OBJECT_WORDS more))))
listed {t} (row.root_words {i = i} {s = s} is more) =
    words_listed t i s (Told (TooBig limit.Root (words_of_struct s)) s.name.place)
    (among_right (of_struct t i s) (of_root t i s)
    (Told (TooBig limit.Root (words_of_struct s)) s.name.place)
    (unless_told (not (is_first (root_struct t) i) || nat_le (words_of_struct s) ROOT_WORDS)
    s.name.place
    (TooBig limit.Root (words_of_struct s))
    (or_from (not (is_first (root_struct t) i)) (nat_le (words_of_struct s) ROOT_WORDS)
    (rw (root_first (root_struct t) i is) refl) (not_le (words_of_struct s) ROOT_WORDS more))))
listed {t} (row.pointed_words {name = name} i is more) =
    subst (λ o. IsAmong (Told (TooBig limit.Pointer (words_at t i)) name.place) (option_map_or
    (λ i. unless (nat_le (words_at t i) (pointed_limit (root_struct t) i)) name.place
    (TooBig limit.Pointer (words_at t i))) o
    (broken_at name.place UnknownName))) (sym is)
    (unless_told (nat_le (words_at t i) (pointed_limit (root_struct t) i)) name.place
    (TooBig limit.Pointer (words_at t i))
    (not_le (words_at t i) (pointed_limit (root_struct t) i) more))
listed {t} (row.many_structs {s = s}) =
    among_right (again_struct t 255 s) (count_structs 255 s ++ (of_struct t 255 s
    ++ of_root t 255 s)) (Told (TooBig limit.Structs 256) s.name.place)
    (among_left (count_structs 255 s) (of_struct t 255 s ++ of_root t 255 s)
    (Told (TooBig limit.Structs 256) s.name.place)
    (unless_told (not (nat_eq 255 255)) s.name.place (TooBig limit.Structs 256) refl))
listed {t} (row.many_functions {f = f}) =
    function_listed t 1024 f (Told (TooBig limit.Functions 1025) f.name.place)
    (among_right (again_function t 1024 f) (count_functions 1024 f ++ of_tx t f)
    (Told (TooBig limit.Functions 1025) f.name.place)
    (among_left (count_functions 1024 f) (of_tx t f)
    (Told (TooBig limit.Functions 1025) f.name.place)
    (unless_told (not (nat_eq 1024 1024)) f.name.place (TooBig limit.Functions 1025) refl)))
listed (row.many_parameters {s = s} {q = q}) =
    among_left (unless (not (nat_eq 22 22)) q.name.place (TooBig limit.Parameters 23))
    (unless (not (is_declared q.name.text s)) q.name.place Twice)
    (Told (TooBig limit.Parameters 23) q.name.place)
    (unless_told (not (nat_eq 22 22)) q.name.place (TooBig limit.Parameters 23) refl)
listed (row.no_root none) = rw none (inl refl)
listed {t} (row.tx_void {i = i} {f = f} tx none) = bad_listed t i f tx (no_result t f none)
listed {t} (row.tx_result {i = i} {f = f} ty tx is never) =
    bad_listed t i f tx (no_int_result t f ty is (number_no (IsWritten t ty) (declared_type t ty)
    (written_is t ty) never))
listed {t} (row.tx_parameter {i = i} {f = f} j q tx is never) =
    bad_listed t i f tx (no_int_parameter t f j q is (number_no (IsWritten t q.ty)
    (declared_type t q.ty) (written_is t q.ty) never))
listed {t} (row.const_stores {i = i} {f = f} is h) = const_listed t i f is h
listed {t} (row.tx_called {used = used} {name = name} {all = all} f is tx) =
    call_listed t used name all f (Told BadTx name.place) is
    (tx_listed used f (argument_count all) name.place tx)
