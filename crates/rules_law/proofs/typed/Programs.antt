-- A program that breaks no rule is well typed.
use Rattle.std.proofs.Common.{◌≡◌, ℕ, zero, suc, ◌+◌, ◌≤◌, ◌<◌, Bool, true, false, List, [], ◌∷◌}
use Rattle.std.proofs.Common.{length, refl, sym, ap, subst, arith}
use Rattle.std.specs.Prelude.{◌||◌, not, nat_le, nat_eq, is_some, slice_get, Option, None, Some}
use Rattle.std.specs.Option.{option_map_or}
use Rattle.std.proofs.lemmas.Bool.Decides.{nat_tests}
use Rattle.std.proofs.lemmas.Option.{none-some, same_Some}
use Rattle.std.proofs.lemmas.Bool.{false_from_ne_true, false≢true, and_parts, not-true}
use Rattle.nvm_base.proofs.Tests.{le_from, same_from, same_true, some_of}
use Rattle.c_tree.specs.declared.expr.IntType.{IntType}
use Rattle.c_tree.specs.StmtTree.{TypeTree}
use Rattle.c_tree.specs.StmtTree as stmt
use Rattle.c_tree.specs.ItemTree.{FieldTree, FunctionTree, LengthTree, ParameterTree}
use Rattle.c_tree.specs.declared.item.Marked.{Marked}
use Rattle.c_tree.specs.declared.item.Marked.TheVariants as mark
use Rattle.c_tree.specs.Program.{Program, tree_of}
use Rattle.c_types.specs.declared.broken.Rule.TheVariants.{UnknownName, Twice, TooBig, NoRoot}
use Rattle.c_types.specs.declared.broken.Rule.TheVariants.{BadTx}
use Rattle.c_types.specs.declared.fault.LimitKind.TheVariants as limit
use Rattle.c_types.specs.Broken.{unless}
use Rattle.c_types.specs.Fits.{is_int}
use Rattle.c_types.specs.Tables.{Tables, StructTree, RootTree, tables_of, index_of, is_first}
use Rattle.c_types.specs.Tables.{field_names, function_names, struct_named, root_struct}
use Rattle.c_types.specs.Tables.{words_of_struct, is_length, declared_type}
use Rattle.c_types.specs.Expressions.{Scope}
use Rattle.c_types.specs.Statements.{inner_scopes, is_declared, type_broken}
use Rattle.c_types.specs.Declarations.{length_broken, field_broken, fields_broken, struct_broken}
use Rattle.c_types.specs.Declarations.{whole_struct_broken, structs_broken, root_item_broken}
use Rattle.c_types.specs.Declarations.{roots_broken, parameter_broken, parameters_broken}
use Rattle.c_types.specs.Declarations.{scopes_after_parameter, scopes_after_parameters, all_ints}
use Rattle.c_types.specs.Declarations.{is_transaction, function_broken, body_broken}
use Rattle.c_types.specs.Declarations.{whole_function_broken, functions_broken}
use Rattle.c_types.specs.Transactions.{is_const}
use Rattle.c_types.specs.Looking.{statements_store, storing, look_broken, looks_broken}
use Rattle.c_types.specs.Fault.{breaks}
use Rattle.c_types.proofs.Unbroken.{none_left, none_right, some_none, holds}
use Rattle.pool_map.specs.declared.limits.TheConstants.{OBJECT_WORDS, ROOT_WORDS}
use Rattle.rules_law.specs.rules.Stores.{Stores}
use Rattle.rules_law.proofs.rules.Storing.{stores_to}
use Rattle.rules_law.specs.typed.Types.{StaticType, IsWritten}
use Rattle.rules_law.specs.typed.Programs.{IsLength, IsField, IsStruct, AreParameters, AreInts}
use Rattle.rules_law.specs.typed.Programs.{IsResult, IsTypedFunction, IsWellTyped}
use Rattle.rules_law.proofs.typed.Fitting.{type_written, declared_is}
use Rattle.rules_law.proofs.typed.Known.{AreKnown, known_inside, known_declared, AreWritten}
use Rattle.rules_law.proofs.typed.Known.{IsReady}
use Rattle.rules_law.proofs.typed.Statements.{statements_are}

pub plus_zero : (i : ℕ) → i + 0 ≡ i
plus_zero i = omega arith

pub plus_next : (i j : ℕ) → i + suc j ≡ (i + 1) + j
plus_next i j = omega arith

-- the first of its name
pub first_at : (o : Option ℕ) (i : ℕ) → is_first o i ≡ true → o ≡ Some i
first_at None i e = absurd (false≢true e)
first_at (Some j) i e = ap Some (sym (same_from i j e))

below : (n i : ℕ) → i ≤ n → not (nat_eq i n) ≡ true → i < n
below n i le e = grind (arith, nat_tests)

length_is : (o : Option LengthTree) → option_map_or length_broken o [] ≡ [] → IsLength o
length_is None b = tt
length_is (Some l) b = holds (is_length l.value) l.place _ b

field_is : (t : Tables) (s : StructTree) (j : ℕ) (f : FieldTree)
    → field_broken t (field_names s) j f ≡ [] → IsField t s j f
field_is t s j f b =
    let rest = none_right (type_broken t f.ty) _ b in
    let one = unless (is_first (index_of f.name.text (field_names s)) j) f.name.place Twice in
    record {
      first = first_at (index_of f.name.text (field_names s)) j (holds (is_first
          (index_of f.name.text (field_names s)) j) f.name.place Twice (none_left one _ rest));
      typed = type_written t f.ty (none_left (type_broken t f.ty) _ b);
      long = length_is f.len (none_right one _ rest);
    }

field_found : (t : Tables) (s : StructTree) (i : ℕ) (fs : List FieldTree)
    → fields_broken t (field_names s) i fs ≡ [] → (j : ℕ) (f : FieldTree)
    → slice_get fs j ≡ Some f → IsField t s (i + j) f
field_found t s i [] b j f e = absurd (none-some f e)
field_found t s i (x ∷ fs) b zero f e =
    rw (← same_Some x f e, plus_zero i) (field_is t s i x (none_left (field_broken t
    (field_names s) i x) _ b))
field_found t s i (x ∷ fs) b (suc j) f e =
    rw (plus_next i j) (field_found t s (i + 1) fs (none_right (field_broken t
    (field_names s) i x) _ b) j f e)

pub zero_plus : (j : ℕ) → 0 + j ≡ j
zero_plus j = omega arith

pub root_first : (o : Option ℕ) (i : ℕ) → o ≡ Some i → is_first o i ≡ true
root_first o i e = rw (e, same_true i) refl

small_words : (b : Bool) (n : ℕ) → (b || nat_le n OBJECT_WORDS) ≡ true → b ≡ false → n ≤
    OBJECT_WORDS
small_words true n e is = absurd (false≢true (sym is))
small_words false n e is = le_from n OBJECT_WORDS e

root_words : (b : Bool) (n : ℕ) → (not b || nat_le n ROOT_WORDS) ≡ true → b ≡ true → n ≤ ROOT_WORDS
root_words true n e is = le_from n ROOT_WORDS e
root_words false n e is = absurd (false≢true is)

struct_is : (t : Tables) (i : ℕ) (s : StructTree) → i ≤ 255 → whole_struct_broken t i s ≡ []
    → IsStruct t i s
struct_is t i s le b =
    let root : Bool = is_first (root_struct t) i in
    let own : struct_broken t i s ≡ [] = none_left (struct_broken t i s) _ b in
    let fields : fields_broken t (field_names s) 0 s.fields ≡ [] =
    none_right (struct_broken t i s) _ b in
    let one = unless (is_first (struct_named t s.name.text) i) s.name.place Twice in
    let two = unless (not (nat_eq i 255)) s.name.place (TooBig limit.Structs 256) in
    let three = unless (root || nat_le (words_of_struct s) OBJECT_WORDS) s.name.place
    (TooBig limit.Struct
    (words_of_struct s)) in
    let r1 = none_right one _ own in
    let r2 = none_right two _ r1 in
    let small : (root || nat_le (words_of_struct s) OBJECT_WORDS) ≡ true =
    holds (root || nat_le (words_of_struct s) OBJECT_WORDS) s.name.place
    (TooBig limit.Struct (words_of_struct s))
    (none_left three _ r2) in
    let large : (not root || nat_le (words_of_struct s) ROOT_WORDS) ≡ true =
    holds (not root || nat_le (words_of_struct s) ROOT_WORDS) s.name.place (TooBig limit.Root
    (words_of_struct s)) (none_right three _ r2) in
    record {
      few = below 255 i le (holds (not (nat_eq i 255)) s.name.place (TooBig limit.Structs 256)
          (none_left two _ r1));
      first = first_at (struct_named t s.name.text) i (holds (is_first
          (struct_named t s.name.text) i) s.name.place Twice (none_left one _ own));
      root = λ is. root_words root (words_of_struct s) large (root_first (root_struct t) i is);
      small = λ other. small_words root (words_of_struct s) small
          (false_from_ne_true root (λ is. other (first_at (root_struct t) i is)));
      fields = λ j f e. rw (← zero_plus j) (field_found t s 0 s.fields fields j f e);
    }

struct_found : (t : Tables) (i : ℕ) (ss : List StructTree) → i ≤ 255
    → structs_broken t i ss ≡ [] → (j : ℕ) (s : StructTree) → slice_get ss j ≡ Some s
    → IsStruct t (i + j) s
struct_found t i [] le b j s e = absurd (none-some s e)
struct_found t i (x ∷ ss) le b zero s e =
    rw (← same_Some x s e, plus_zero i) (struct_is t i x le (none_left
    (whole_struct_broken t i x) _ b))
struct_found t i (x ∷ ss) le b (suc j) s e =
    let here : IsStruct t i x = struct_is t i x le (none_left (whole_struct_broken t i x) _ b) in
    rw (plus_next i j) (struct_found t (i + 1) ss (omega (arith, here.few)) (none_right
    (whole_struct_broken t i x) _ b) j s e)

root_is : (t : Tables) (rs : List RootTree) → is_some (slice_get rs 0) ≡ true
    → roots_broken t 0 rs ≡ []
    → (r : RootTree) × (i : ℕ) × (rs ≡ r ∷ []) × (struct_named t r.name.text ≡ Some i)
root_is t [] e b = absurd (false≢true e)
root_is t (r ∷ []) e b =
    let own : root_item_broken t 0 r ≡ [] = none_left (root_item_broken t 0 r) _ b in
    let known = unless (is_some (struct_named t r.name.text)) r.name.place UnknownName in
    let i : (i : ℕ)
    × (struct_named t r.name.text ≡ Some i) =
    some_of (struct_named t r.name.text) (holds (is_some
    (struct_named t r.name.text)) r.name.place UnknownName (none_left known _ own)) in
    (r, i.0, refl, i.1)
root_is t (r ∷ q ∷ rs) e b =
    let second = none_left (root_item_broken t 1 q) _ (none_right (root_item_broken t 0 r) _ b) in
    absurd (some_none q.place Twice (none_right (unless (is_some
    (struct_named t q.name.text)) q.name.place UnknownName) _ second))

parameters_are : (t : Tables) (s : List Scope) (i : ℕ) (ps : List ParameterTree) → i ≤ 22
    → parameters_broken t s i ps ≡ [] → AreParameters t s i ps
parameters_are t s i [] le b = tt
parameters_are t s i (p ∷ ps) le b =
    let own : parameter_broken t s i p ≡ [] = none_left (parameter_broken t s i p) _ b in
    let rest = none_right (type_broken t p.ty) _ own in
    let one = unless (not (nat_eq i 22)) p.name.place (TooBig limit.Parameters 23) in
    let lt : i < 22 =
    below 22 i le (holds (not (nat_eq i 22)) p.name.place (TooBig limit.Parameters 23)
    (none_left one _ rest)) in (
      type_written t p.ty (none_left (type_broken t p.ty) _ own),
      lt,
      not-true _ (holds (not
          (is_declared p.name.text s)) p.name.place Twice (none_right one _ rest)),
      parameters_are t (scopes_after_parameter t s p) (i + 1) ps (omega (arith, lt)) (none_right
          (parameter_broken t s i p) _ b),
    )

parameters_written : (t : Tables) (s : List Scope) (i : ℕ) (ps : List ParameterTree)
    → AreParameters t s i ps → AreWritten t ps
parameters_written t s i [] h = tt
parameters_written t s i (p ∷ ps) h =
    (h.0, parameters_written t (scopes_after_parameter t s p) (i + 1) ps h.3)

parameters_known : (t : Tables) (s : List Scope) (ps : List ParameterTree) → AreKnown s
    → AreWritten t ps → AreKnown (scopes_after_parameters t s ps)
parameters_known t s [] known h = known
parameters_known t s (p ∷ ps) known h =
    parameters_known t (scopes_after_parameter t s p) ps (known_declared p.name.text
    (declared_type t p.ty) h.0.0 s (declared_is t p.ty h.0.0 h.0.1) known) h.1

-- what is a number was written so
int_only : (t : Tables) (ty : TypeTree) (x : StaticType) → IsWritten t ty x
    → is_int (declared_type t ty) ≡ true → (n : IntType) × (ty ≡ stmt.Int n)
int_only t (stmt.Int n) x h e = (n, refl)
int_only t (stmt.Pointer name) x h e =
    let is = declared_is t (stmt.Pointer name) x h in
    absurd (false≢true (rw (is, h.is) at e))

ints_only : (t : Tables) (ps : List ParameterTree) → AreWritten t ps → all_ints t ps ≡ true
    → AreInts ps
ints_only t [] h e = tt
ints_only t (p ∷ ps) h e = (
  int_only t p.ty h.0.0 h.0.1 (and_parts _ _ e).0,
  ints_only t ps h.1 (and_parts (is_int
      (declared_type t p.ty)) _ e).1,
)

result_int : (t : Tables) (o : Option TypeTree) → IsResult t o
    → option_map_or (λ ty. is_int (declared_type t ty)) o false ≡ true
    → (n : IntType) × (o ≡ Some (stmt.Int n))
result_int t None h e = absurd (false≢true e)
result_int t (Some ty) h e = let i = int_only t ty h.0 h.1 e in (i.0, ap Some i.1)

result_written : (t : Tables) (o : Option TypeTree) → option_map_or (type_broken t) o [] ≡ []
    → IsResult t o
result_written t None b = tt
result_written t (Some ty) b = type_written t ty b

good_tx : (tx good : Bool) → (not tx || good) ≡ true → tx ≡ true → good ≡ true
good_tx true good e is = e
good_tx false good e is = absurd (false≢true is)

-- all of a function but its body
pub record IsHead (t : Tables) (i : ℕ) (f : FunctionTree) : Type 0 where
  pub few : i < 1024
  pub first : index_of f.name.text (function_names t) ≡ Some i
  pub result : IsResult t f.result_type
  pub transaction : f.tx ≡ true
      → ((n : IntType) × (f.result_type ≡ Some (stmt.Int n))) × AreInts f.parameters
  pub parameters : AreParameters t (inner_scopes []) 0 f.parameters
  pub body : body_broken t f ≡ []

head_is : (t : Tables) (i : ℕ) (f : FunctionTree) → i ≤ 1024 → whole_function_broken t i f ≡ []
    → IsHead t i f
head_is t i f le b =
    let own : function_broken t i f ≡ [] = none_left (function_broken t i f) _ b in
    let body : body_broken t f ≡ [] = none_right (function_broken t i f) _ b in
    let result : IsResult t f.result_type =
    result_written t f.result_type (none_left (option_map_or
    (type_broken t) f.result_type []) _ own) in
    let r0 = none_right (option_map_or (type_broken t) f.result_type []) _ own in
    let one = unless (is_first (index_of f.name.text (function_names t)) i) f.name.place Twice in
    let two = unless (not (nat_eq i 1024)) f.name.place (TooBig limit.Functions 1025) in
    let r1 = none_right one _ r0 in
    let parameters : AreParameters t (inner_scopes []) 0 f.parameters =
    parameters_are t (inner_scopes []) 0 f.parameters (omega arith) (none_left
    (parameters_broken t (inner_scopes []) 0 f.parameters) _ body) in
    let tx : (not f.tx || is_transaction t f) ≡ true =
    holds (not f.tx || is_transaction t f) f.name.place BadTx (none_right two _ r1) in
    record {
      few = below 1024 i le (holds (not (nat_eq i 1024)) f.name.place
          (TooBig limit.Functions 1025) (none_left two _ r1));
      first = first_at (index_of f.name.text (function_names t)) i (holds (is_first
          (index_of f.name.text (function_names t)) i) f.name.place Twice (none_left one _ r0));
      result = result;
      transaction = λ is.
          let good : is_transaction t f ≡ true = good_tx f.tx (is_transaction t f) tx is in (
            result_int t f.result_type result (and_parts _ _ good).0,
            ints_only t f.parameters (parameters_written t
                (inner_scopes []) 0 f.parameters parameters) (and_parts (option_map_or (λ ty. is_int
                (declared_type t ty)) f.result_type false) _ good).1,
          );
      parameters = parameters;
      body = body;
    }

head_found : (t : Tables) (i : ℕ) (fs : List FunctionTree) → i ≤ 1024
    → functions_broken t i fs ≡ [] → (j : ℕ) (f : FunctionTree) → slice_get fs j ≡ Some f
    → IsHead t (i + j) f
head_found t i [] le b j f e = absurd (none-some f e)
head_found t i (x ∷ fs) le b zero f e =
    rw (← same_Some x f e, plus_zero i) (head_is t i x le (none_left
    (whole_function_broken t i x) _ b))
head_found t i (x ∷ fs) le b (suc j) f e =
    let here : IsHead t i x = head_is t i x le (none_left (whole_function_broken t i x) _ b) in
    rw (plus_next i j) (head_found t (i + 1) fs (omega (arith, here.few)) (none_right
    (whole_function_broken t i x) _ b) j f e)

-- a function that is marked `const` doesn't store
look_is : (a : Marked) (b : Bool) → (not (is_const a) || not b) ≡ true → a ≡ mark.Const → b ≡ true
    → ⊥
look_is mark.Plain b good is e = cc
look_is mark.Abort b good is e = cc
look_is mark.Const true good is e = false≢true good
look_is mark.Const false good is e = false≢true e

look_found : (t : Tables) (fs : List FunctionTree) → looks_broken t (storing t) fs ≡ [] → (j : ℕ)
    (f : FunctionTree) → slice_get fs j ≡ Some f → f.mark ≡ mark.Const → Stores t f → ⊥
look_found t [] b j f e is stores = none-some f e
look_found t (x ∷ fs) b zero f e is stores =
    let good : Bool = not (is_const f.mark) || not (statements_store t (storing t) f.body) in
    look_is f.mark (statements_store t (storing t) f.body)
    (holds good f.name.place BadTx (subst (λ (f : FunctionTree). look_broken t (storing t) f ≡ [])
    (same_Some x f e) (none_left (look_broken t (storing t) x) _ b))) is (stores_to t f stores)
look_found t (x ∷ fs) b (suc j) f e is stores =
    look_found t fs (none_right (look_broken t (storing t) x) _ b) j f e is stores

function_is : (t : Tables) (i : ℕ) (f : FunctionTree) → IsReady t → IsHead t i f
    → (f.mark ≡ mark.Const → Stores t f → ⊥) → IsTypedFunction t i f
function_is t i f ready h looks =
    let written : AreWritten t f.parameters =
    parameters_written t (inner_scopes []) 0 f.parameters h.parameters in
    record {
      few = h.few;
      first = h.first;
      result = h.result;
      transaction = h.transaction;
      looks = looks;
      parameters = h.parameters;
      body = statements_are t f.result_type (scopes_after_parameters t
          (inner_scopes []) f.parameters) f.body ready h.result
          (parameters_known t (inner_scopes []) f.parameters (known_inside [] tt) written)
          (none_right
          (parameters_broken t (inner_scopes []) 0 f.parameters) _ h.body);
    }

root_place : (t : Tables) (r : RootTree) (i : ℕ) → t.roots ≡ r ∷ []
    → struct_named t r.name.text ≡ Some i → root_struct t ≡ Some i
root_place t r i is named = rw is named

pub well_typed : (tree : Program) → breaks tree ≡ [] → IsWellTyped (tables_of (tree_of tree))
well_typed tree b =
    let t : Tables = tables_of (tree_of tree) in
    let b1 : structs_broken t 0 t.structs ≡ [] = none_left (structs_broken t 0 t.structs) _ b in
    let r1 = none_right (structs_broken t 0 t.structs) _ b in
    let b2 : roots_broken t 0 t.roots ≡ [] = none_left (roots_broken t 0 t.roots) _ r1 in
    let r2 = none_right (roots_broken t 0 t.roots) _ r1 in
    let three = unless (is_some (slice_get t.roots 0)) (length tree.lines) NoRoot in
    let some : is_some (slice_get t.roots 0) ≡ true =
    holds (is_some (slice_get t.roots 0)) (length tree.lines) NoRoot (none_left three _ r2) in
    let r3 = none_right three _ r2 in
    let b4 : functions_broken t 0 t.functions ≡ [] =
    none_left (functions_broken t 0 t.functions) _ r3 in
    let b5 : looks_broken t (storing t) t.functions ≡ [] =
    none_right (functions_broken t 0 t.functions) _ r3 in
    let structs = λ (i : ℕ) (s : StructTree)
    (e : slice_get t.structs i ≡ Some s). let made : IsStruct t i s =
    rw (← zero_plus i) (struct_found t 0 t.structs (omega arith) b1 i s e) in made in
    let root : (r : RootTree) × (i : ℕ) × (t.roots ≡ r ∷ [])
    × (struct_named t r.name.text ≡ Some i) = root_is t t.roots some b2 in
    let heads = λ (i : ℕ) (f : FunctionTree)
    (e : slice_get t.functions i ≡ Some f). let made : IsHead t i f =
    rw (← zero_plus i) (head_found t 0 t.functions (omega arith) b4 i f e) in made in
    let ready : IsReady t = record {
      fields = λ i s e. (structs i s e).fields;
      root = (root.1, root_place t root.0 root.1 root.2 root.3);
      results = λ i f e. (heads i f e).result;
      parameters = λ i f e. parameters_written t (inner_scopes []) 0 f.parameters
          (heads i f e).parameters;
    } in
    record {
      structs = structs;
      root = root;
      functions = λ i f e. function_is t i f ready (heads i f e)
          (look_found t t.functions b5 i f e);
    }
