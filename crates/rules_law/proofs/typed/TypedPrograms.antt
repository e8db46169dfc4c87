-- A program that is well typed breaks no rule.
use Rattle.std.proofs.Common.{◌≡◌, ℕ, suc, ◌+◌, ◌≤◌, ◌<◌, Bool, true, false, List, [], ◌∷◌, length}
use Rattle.std.proofs.Common.{refl, arith}
use Rattle.std.specs.Prelude.{◌||◌, not, nat_le, nat_eq, is_some, slice_get, Option, None, Some}
use Rattle.std.specs.Option.{option_map_or}
use Rattle.std.proofs.lemmas.Bool.Decides.{nat_tests}
use Rattle.std.proofs.lemmas.Bool.{false≢true, not_from_false}
use Rattle.nvm_base.proofs.Tests.{le_true}
use Rattle.c_tree.specs.declared.expr.IntType.{IntType}
use Rattle.c_tree.specs.StmtTree.{TypeTree}
use Rattle.c_tree.specs.StmtTree as stmt
use Rattle.c_tree.specs.ItemTree.{FieldTree, FunctionTree, LengthTree, ParameterTree}
use Rattle.c_tree.specs.declared.item.Marked.{Marked}
use Rattle.c_tree.specs.declared.item.Marked.TheVariants as mark
use Rattle.c_tree.specs.Program.{Program, tree_of}
use Rattle.c_types.specs.declared.broken.Rule.TheVariants.{Twice, TooBig, NoRoot, BadTx}
use Rattle.c_types.specs.declared.fault.LimitKind.TheVariants as limit
use Rattle.c_types.specs.Broken.{unless}
use Rattle.c_types.specs.Tables.{Tables, StructTree, RootTree, tables_of, index_of, is_first}
use Rattle.c_types.specs.Tables.{field_names, function_names, struct_named, root_struct}
use Rattle.c_types.specs.Tables.{words_of_struct, is_length}
use Rattle.c_types.specs.Expressions.{Scope}
use Rattle.c_types.specs.Statements.{inner_scopes, is_declared, type_broken}
use Rattle.c_types.specs.Declarations.{length_broken, field_broken, fields_broken, struct_broken}
use Rattle.c_types.specs.Declarations.{whole_struct_broken, structs_broken, roots_broken}
use Rattle.c_types.specs.Declarations.{parameter_broken, parameters_broken, scopes_after_parameter}
use Rattle.c_types.specs.Declarations.{scopes_after_parameters, all_ints, is_transaction}
use Rattle.c_types.specs.Declarations.{function_broken, whole_function_broken, functions_broken}
use Rattle.c_types.specs.Transactions.{is_const}
use Rattle.c_types.specs.Looking.{statements_store, storing, look_broken, looks_broken}
use Rattle.c_types.specs.Fault.{breaks}
use Rattle.pool_map.specs.declared.limits.TheConstants.{OBJECT_WORDS, ROOT_WORDS}
use Rattle.rules_law.specs.rules.Stores.{Stores}
use Rattle.rules_law.proofs.rules.Storing.{stores_from}
use Rattle.rules_law.specs.typed.Programs.{IsLength, IsField, IsStruct, AreParameters, AreInts}
use Rattle.rules_law.specs.typed.Programs.{IsResult, IsTypedFunction, IsWellTyped}
use Rattle.rules_law.proofs.typed.Broken.{none_both, kept}
use Rattle.rules_law.proofs.typed.Fitting.{written_kept}
use Rattle.rules_law.proofs.typed.Programs.{plus_zero, plus_next, zero_plus, first_at, root_first}
use Rattle.rules_law.proofs.typed.TypedStatements.{statements_kept}

not_last : (n i : ℕ) → i < n → not (nat_eq i n) ≡ true
not_last n i lt = grind (arith, nat_tests)

length_kept : (o : Option LengthTree) → IsLength o → option_map_or length_broken o [] ≡ []
length_kept None h = refl
length_kept (Some l) h = kept (is_length l.value) l.place _ h

field_kept : (t : Tables) (s : StructTree) (j : ℕ) (f : FieldTree) → IsField t s j f
    → field_broken t (field_names s) j f ≡ []
field_kept t s j f h =
    none_both (type_broken t f.ty) _ (written_kept t f.ty h.typed.0 h.typed.1)
    (none_both (unless (is_first (index_of f.name.text (field_names s)) j) f.name.place Twice) _
    (kept _ f.name.place Twice (root_first (index_of f.name.text
    (field_names s)) j h.first)) (length_kept f.len h.long))

fields_kept : (t : Tables) (s : StructTree) (i : ℕ) (fs : List FieldTree)
    → ((j : ℕ) (f : FieldTree) → slice_get fs j ≡ Some f → IsField t s (i + j) f)
    → fields_broken t (field_names s) i fs ≡ []
fields_kept t s i [] h = refl
fields_kept t s i (f ∷ fs) h =
    none_both (field_broken t (field_names s) i f) _ (field_kept t s i f
    (rw (plus_zero i) at (h 0 f refl)))
    (fields_kept t s (i + 1) fs (λ j g e. rw (plus_next i j) at (h (suc j) g e)))

either_small : (b : Bool) (n : ℕ) → (b ≡ false → n ≤ OBJECT_WORDS) → (b || nat_le n OBJECT_WORDS) ≡
    true
either_small true n h = refl
either_small false n h = le_true n OBJECT_WORDS (h refl)

either_large : (b : Bool) (n : ℕ) → (b ≡ true → n ≤ ROOT_WORDS) → (not b || nat_le n ROOT_WORDS) ≡
    true
either_large true n h = le_true n ROOT_WORDS (h refl)
either_large false n h = refl

other_struct : (o : Option ℕ) (i : ℕ) → is_first o i ≡ false → o ≡ Some i → ⊥
other_struct o i other is = false≢true (rw other at (root_first o i is))

struct_kept : (t : Tables) (i : ℕ) (s : StructTree) → IsStruct t i s
    → whole_struct_broken t i s ≡ []
struct_kept t i s h =
    let root : Bool = is_first (root_struct t) i in
    let small : (root || nat_le (words_of_struct s) OBJECT_WORDS) ≡ true =
    either_small root (words_of_struct s)
    (λ other. h.small (other_struct (root_struct t) i other)) in
    let large : (not root || nat_le (words_of_struct s) ROOT_WORDS) ≡ true =
    either_large root (words_of_struct s) (λ is. h.root (first_at (root_struct t) i is)) in
    none_both (struct_broken t i s) _
    (none_both (unless (is_first (struct_named t s.name.text) i) s.name.place Twice) _
    (kept _ s.name.place Twice (root_first (struct_named t s.name.text) i h.first))
    (none_both (unless (not (nat_eq i 255)) s.name.place (TooBig limit.Structs 256)) _
    (kept _ s.name.place (TooBig limit.Structs 256) (not_last 255 i h.few))
    (none_both (unless (root || nat_le (words_of_struct s) OBJECT_WORDS) s.name.place
    (TooBig limit.Struct
    (words_of_struct s))) _ (kept _ s.name.place (TooBig limit.Struct (words_of_struct s)) small)
    (kept (not root || nat_le (words_of_struct s) ROOT_WORDS) s.name.place (TooBig limit.Root
    (words_of_struct s)) large))))
    (fields_kept t s 0 s.fields (λ j f e. rw (zero_plus j) (h.fields j f e)))

structs_kept : (t : Tables) (i : ℕ) (ss : List StructTree) → ((j : ℕ) (s : StructTree)
    → slice_get ss j ≡ Some s → IsStruct t (i + j) s) → structs_broken t i ss ≡ []
structs_kept t i [] h = refl
structs_kept t i (s ∷ ss) h =
    none_both (whole_struct_broken t i s) _ (struct_kept t i s (rw (plus_zero i) at (h 0 s refl)))
    (structs_kept t (i + 1) ss (λ j x e. rw (plus_next i j) at (h (suc j) x e)))

root_kept : (t : Tables) (r : RootTree) (i : ℕ) → struct_named t r.name.text ≡ Some i
    → roots_broken t 0 (r ∷ []) ≡ []
root_kept t r i is = rw is refl

parameters_kept : (t : Tables) (s : List Scope) (i : ℕ) (ps : List ParameterTree)
    → AreParameters t s i ps → parameters_broken t s i ps ≡ []
parameters_kept t s i [] h = refl
parameters_kept t s i (p ∷ ps) h =
    none_both (parameter_broken t s i p) _
    (none_both (type_broken t p.ty) _ (written_kept t p.ty h.0.0 h.0.1)
    (none_both (unless (not (nat_eq i 22)) p.name.place (TooBig limit.Parameters 23)) _
    (kept _ p.name.place (TooBig limit.Parameters 23) (not_last 22 i h.1))
    (kept (not (is_declared p.name.text s)) p.name.place Twice (not_from_false _ h.2))))
    (parameters_kept t (scopes_after_parameter t s p) (i + 1) ps h.3)

ints_true : (t : Tables) (ps : List ParameterTree) → AreInts ps → all_ints t ps ≡ true
ints_true t [] h = refl
ints_true t (p ∷ ps) h = rw (h.0.1, ints_true t ps h.1) refl

tx_true : (t : Tables) (f : FunctionTree) (tx : Bool) → (tx ≡ true
    → ((n : IntType) × (f.result_type ≡ Some (stmt.Int n))) × AreInts f.parameters)
    → (not tx || is_transaction t f) ≡ true
tx_true t f true h = rw ((h refl).0.1, ints_true t f.parameters (h refl).1) refl
tx_true t f false h = refl

result_kept : (t : Tables) (o : Option TypeTree) → IsResult t o
    → option_map_or (type_broken t) o [] ≡ []
result_kept t None h = refl
result_kept t (Some ty) h = written_kept t ty h.0 h.1

function_kept : (t : Tables) (i : ℕ) (f : FunctionTree) → IsTypedFunction t i f
    → whole_function_broken t i f ≡ []
function_kept t i f h =
    none_both (function_broken t i f) _
    (none_both (option_map_or (type_broken t) f.result_type []) _
    (result_kept t f.result_type h.result)
    (none_both (unless (is_first (index_of f.name.text
    (function_names t)) i) f.name.place Twice) _ (kept _ f.name.place Twice (root_first
    (index_of f.name.text (function_names t)) i h.first))
    (none_both (unless (not (nat_eq i 1024)) f.name.place (TooBig limit.Functions 1025)) _
    (kept _ f.name.place (TooBig limit.Functions 1025) (not_last 1024 i h.few))
    (kept (not f.tx || is_transaction t f) f.name.place BadTx (tx_true t f f.tx h.transaction)))))
    (none_both (parameters_broken t (inner_scopes []) 0 f.parameters) _ (parameters_kept t
    (inner_scopes []) 0 f.parameters h.parameters)
    (statements_kept t f.result_type (scopes_after_parameters t (inner_scopes []) f.parameters)
    f.body h.body))

functions_kept : (t : Tables) (i : ℕ) (fs : List FunctionTree) → ((j : ℕ) (f : FunctionTree)
    → slice_get fs j ≡ Some f → IsTypedFunction t (i + j) f) → functions_broken t i fs ≡ []
functions_kept t i [] h = refl
functions_kept t i (f ∷ fs) h =
    none_both (whole_function_broken t i f) _
    (function_kept t i f (rw (plus_zero i) at (h 0 f refl)))
    (functions_kept t (i + 1) fs (λ j g e. rw (plus_next i j) at (h (suc j) g e)))

look_good : (a : Marked) (b : Bool) → (a ≡ mark.Const → b ≡ true → ⊥)
    → (not (is_const a) || not b) ≡ true
look_good mark.Plain b h = refl
look_good mark.Abort b h = refl
look_good mark.Const true h = absurd (h refl refl)
look_good mark.Const false h = refl

looks_kept : (t : Tables) (fs : List FunctionTree) → ((j : ℕ) (f : FunctionTree)
    → slice_get fs j ≡ Some f → f.mark ≡ mark.Const → Stores t f → ⊥)
    → looks_broken t (storing t) fs ≡ []
looks_kept t [] h = refl
looks_kept t (f ∷ fs) h =
    none_both (look_broken t (storing t) f) _
    (kept (not (is_const f.mark) || not (statements_store t (storing t) f.body)) f.name.place BadTx
    (look_good f.mark (statements_store t (storing t) f.body)
    (λ is e. h 0 f refl is (stores_from t f e))))
    (looks_kept t fs (λ j g e. h (suc j) g e))

pub unbroken : (tree : Program) → IsWellTyped (tables_of (tree_of tree)) → breaks tree ≡ []
unbroken tree h =
    let t : Tables = tables_of (tree_of tree) in
    none_both (structs_broken t 0 t.structs) _ (structs_kept t 0 t.structs
    (λ i s e. rw (zero_plus i) (h.structs i s e)))
    (none_both (roots_broken t 0 t.roots) _ (rw h.root.2 (root_kept t h.root.0 h.root.1 h.root.3))
    (none_both (unless (is_some (slice_get t.roots 0)) (length tree.lines) NoRoot) _
    (rw h.root.2 refl)
    (none_both (functions_broken t 0 t.functions) _
    (functions_kept t 0 t.functions (λ i f e. rw (zero_plus i) (h.functions i f e)))
    (looks_kept t t.functions (λ i f e. (h.functions i f e).looks)))))
