-- The types of expressions that break no rule: none is any, and pointers lead to numbered structs.
use Rattle.std.proofs.Common.{◌≡◌, ℕ, suc, ◌+◌, ◌<◌, Bool, true, false, List, [], ◌∷◌, ◌++◌, length}
use Rattle.std.proofs.Common.{refl, sym, ap, ◌∙◌}
use Rattle.std.specs.Prelude.{nat_le, nat_eq, ◌&&◌, ◌||◌, not, if◌then◌else◌, is_some, slice_get}
use Rattle.std.specs.Prelude.{Option, None, Some, option_map, option_and_then, unwrap_or, bytes_eq}
use Rattle.std.specs.Option.{option_map_or}
use Rattle.std.proofs.lemmas.Bool.{false≢true, and_parts}
use Rattle.std.proofs.lemmas.Option.{none-some}
use Rattle.nvm_base.proofs.Tests.{some_of}
use Rattle.c_tree.specs.declared.expr.UnaryOp.{UnaryOp}
use Rattle.c_tree.specs.declared.expr.UnaryOp.TheVariants as unary
use Rattle.c_tree.specs.ExprTree as expr
use Rattle.c_tree.specs.ExprTree.{ExprTree, Arguments, Ident}
use Rattle.c_tree.specs.StmtTree as stmt
use Rattle.c_tree.specs.StmtTree.{TypeTree}
use Rattle.c_tree.specs.ItemTree.{FunctionTree, ParameterTree, FieldTree, LengthTree}
use Rattle.c_types.specs.declared.value_type.ValueType.{ValueType}
use Rattle.c_types.specs.declared.value_type.ValueType.TheVariants.{Int, Pointer, Null, Any}
use Rattle.c_types.specs.declared.value_type.Kind.{Kind}
use Rattle.c_types.specs.declared.value_type.Kind.TheVariants.{Value, Array}
use Rattle.c_types.specs.declared.broken.Broken.{Broken}
use Rattle.c_types.specs.declared.broken.Rule.TheVariants.{UnknownName, Mismatch, Arity, TooBig}
use Rattle.c_types.specs.declared.broken.Rule.TheVariants.{BadTx}
use Rattle.c_types.specs.declared.fault.LimitKind.TheVariants as limit
use Rattle.c_types.specs.Broken.{broken_at, unless}
use Rattle.c_types.specs.Fits.{is_any, is_int, type_takes, comparable, common_type, joins_types}
use Rattle.c_types.specs.Fits.{applies, unary_type}
use Rattle.c_types.specs.Tables.{Tables, StructTree, index_of, struct_named, function_named}
use Rattle.c_types.specs.Tables.{field_named, root_struct, is_length, words_at, pointed_limit}
use Rattle.c_types.specs.Tables.{pointer_type, declared_type, field_names, function_names, is_first}
use Rattle.c_types.specs.Statements.{type_broken}
use Rattle.c_types.specs.Declarations.{length_broken, field_broken}
use Rattle.c_types.specs.Expressions.{Scope, or_else, type_in, variable_type, type_of_kind}
use Rattle.c_types.specs.Expressions.{with_unindexed, field_kind, member, member_kind}
use Rattle.c_types.specs.Expressions.{member_broken, arrow_kind, arrow_broken, is_indexed}
use Rattle.c_types.specs.Expressions.{element_of, pointer_broken, may_call, callee_broken}
use Rattle.c_types.specs.Expressions.{call_broken, call_type, parameters_of, parameter_type}
use Rattle.c_types.specs.Expressions.{argument_count, kind_of, all_taken, type_of, broken_in}
use Rattle.c_types.specs.Expressions.{broken_in_all}
use Rattle.c_types.proofs.Unbroken.{none_left, none_right, holds}
use Rattle.lower.specs.Names as names
use Rattle.lower.specs.Names.{Variables, LocalRegister, register_in, variable_register}
use Rattle.lower.specs.Names.{nowhere, with_local}
use Rattle.lower.proofs.Sane.{IsSane, IsFieldOf, is_pointed, index_of_in, field_of_struct}

-- a type that isn't any; a pointer leads to a struct that isn't too large
abbrev pub IsGood : Tables → ValueType → Type 0
IsGood t (Int n) = Unit {0}
IsGood t Null = Unit {0}
IsGood t Any = ⊥
IsGood t (Pointer i) = (s : StructTree) × (slice_get t.structs i ≡ Some s)
    × (is_pointed t i s ≡ true)

abbrev pub IsGoodKind : Tables → Kind → Type 0
IsGoodKind t (Value ty) = IsGood t ty
IsGoodKind t (Array element place) = IsGood t element

pub good_any : (t : Tables) (ty : ValueType) → IsGood t ty → is_any ty ≡ false
good_any t (Int n) g = refl
good_any t Null g = refl
good_any t Any g = absurd g
good_any t (Pointer i) g = refl

-- what the look-up of a name finds: both its type and its register, or neither
abbrev pub Found : Tables → ℕ → Option ValueType → Option ℕ → Type 0
Found t r None None = Unit {0}
Found t r None (Some q) = ⊥
Found t r (Some ty) None = ⊥
Found t r (Some ty) (Some q) = IsGood t ty × (q < r)

-- the names of one scope have good types, and their registers are among the first r
abbrev pub AgreeIn : Tables → ℕ → List (List ℕ) → List ValueType → List LocalRegister → Type 0
AgreeIn t r [] [] [] = Unit {0}
AgreeIn t r [] [] (l ∷ ls) = ⊥
AgreeIn t r [] (ty ∷ tys) ls = ⊥
AgreeIn t r (n ∷ ns) [] ls = ⊥
AgreeIn t r (n ∷ ns) (ty ∷ tys) [] = ⊥
AgreeIn t r (n ∷ ns) (ty ∷ tys) (l ∷ ls) = (l.name ≡ n) × IsGood t ty × (l.register < r)
    × AgreeIn t r ns tys ls

abbrev pub Agree : Tables → ℕ → List Scope → List (List LocalRegister) → Type 0
Agree t r [] [] = Unit {0}
Agree t r [] (l ∷ ls) = ⊥
Agree t r (s ∷ ss) [] = ⊥
Agree t r (s ∷ ss) (l ∷ ls) = AgreeIn t r s.names s.types l × Agree t r ss ls

found_in : (t : Tables) (r : ℕ) (name : List ℕ) (ns : List (List ℕ)) (tys : List ValueType)
    (ls : List LocalRegister) → AgreeIn t r ns tys ls
    → Found t r (option_and_then (slice_get tys) (index_of name ns)) (register_in name ls)
found_in t r name [] [] [] h = tt
found_in t r name [] [] (l ∷ ls) h = absurd h
found_in t r name [] (ty ∷ tys) ls h = absurd h
found_in t r name (n ∷ ns) [] ls h = absurd h
found_in t r name (n ∷ ns) (ty ∷ tys) [] h = absurd h
found_in t r name (n ∷ ns) (ty ∷ tys) (l ∷ ls) h =
    rw h.0 (by_test (bytes_eq name n) (index_of name ns) (register_in name ls) h.1 h.2
    (found_in t r name ns tys ls h.3))
  where
    by_test : (b : Bool) (o : Option ℕ) (q : Option ℕ) → IsGood t ty → l.register < r
        → Found t r (option_and_then (slice_get tys) o) q
        → Found t r (option_and_then (slice_get (ty ∷ tys)) (if b then Some 0
        else option_map suc o)) (if b then Some l.register else q)
    by_test true o q g lt rest = (g, lt)
    by_test false None q g lt rest = rest
    by_test false (Some j) q g lt rest = rest

found_or : (t : Tables) (r : ℕ) (a c : Option ValueType) (b d : Option ℕ) → Found t r a b
    → Found t r c d → Found t r (or_else a c) (names.register_or_else b d)
found_or t r None c None d h k = k
found_or t r None c (Some q) d h k = absurd h
found_or t r (Some ty) c None d h k = absurd h
found_or t r (Some ty) c (Some q) d h k = h

pub found : (t : Tables) (r : ℕ) (name : List ℕ) (ss : List Scope) (ls : List (List LocalRegister))
    → Agree t r ss ls → Found t r (variable_type name ss) (variable_register name ls)
found t r name [] [] h = tt
found t r name [] (l ∷ ls) h = absurd h
found t r name (s ∷ ss) [] h = absurd h
found t r name (s ∷ ss) (l ∷ ls) h =
    found_or t r (type_in name s) (variable_type name ss) (register_in name l)
    (variable_register name ls)
    (found_in t r name s.names s.types l h.0) (found t r name ss ls h.1)

pub found_good : (t : Tables) (r : ℕ) (a : Option ValueType) (b : Option ℕ) → Found t r a b
    → is_some a ≡ true → IsGood t (unwrap_or a Any)
found_good t r None b h e = absurd (false≢true e)
found_good t r (Some ty) None h e = absurd h
found_good t r (Some ty) (Some q) h e = h.0

pub found_register : (t : Tables) (r : ℕ) (a : Option ValueType) (b : Option ℕ) → Found t r a b
    → is_some a ≡ true → unwrap_or b nowhere < r
found_register t r None b h e = absurd (false≢true e)
found_register t r (Some ty) None h e = absurd h
found_register t r (Some ty) (Some q) h e = h.1

agree_in_more : (t : Tables) (r : ℕ) (name : List ℕ) (ty : ValueType) (q : ℕ) (ns : List (List ℕ))
    (tys : List ValueType) (ls : List LocalRegister) → IsGood t ty → q < r → AgreeIn t r ns tys ls
    → AgreeIn t r (ns ++ name ∷ []) (tys ++ ty ∷ []) (with_local name q ls)
agree_in_more t r name ty q [] [] [] g lt h = (refl, g, lt, tt)
agree_in_more t r name ty q [] [] (l ∷ ls) g lt h = absurd h
agree_in_more t r name ty q [] (y ∷ ys) ls g lt h = absurd h
agree_in_more t r name ty q (n ∷ ns) [] ls g lt h = absurd h
agree_in_more t r name ty q (n ∷ ns) (y ∷ ys) [] g lt h = absurd h
agree_in_more t r name ty q (n ∷ ns) (y ∷ ys) (l ∷ ls) g lt h =
    (h.0, h.1, h.2, agree_in_more t r name ty q ns ys ls g lt h.3)

pub agree_declared : (t : Tables) (r : ℕ) (name : List ℕ) (ty : ValueType) (q : ℕ) (v : Variables)
    → IsGood t ty → q < r → Agree t r v.scopes v.locals
    → Agree t r (names.variable_declared name ty q v).scopes
    (names.variable_declared name ty q v).locals
agree_declared t r name ty q v g lt h = parts v.scopes v.locals h
  where
    parts : (ss : List Scope) (ls : List (List LocalRegister)) → Agree t r ss ls
        → Agree t r (names.variable_declared name ty q (record { scopes = ss; locals = ls })).scopes
        (names.variable_declared name ty q (record { scopes = ss; locals = ls })).locals
    parts [] [] h = tt
    parts [] (l ∷ ls) h = absurd h
    parts (s ∷ ss) [] h = absurd h
    parts (s ∷ ss) (l ∷ ls) h = (agree_in_more t r name ty q s.names s.types l g lt h.0, h.1)

-- a type as it is written
pointer_case : (t : Tables) (name : Ident) (o : Option ℕ) → struct_named t name.text ≡ o
    → option_map_or (λ i. unless (nat_le (words_at t i) (pointed_limit (root_struct t) i))
    name.place
    (TooBig limit.Pointer (words_at t i))) o (broken_at name.place UnknownName) ≡ []
    → (i : ℕ) × (s : StructTree) × (struct_named t name.text ≡ Some i)
    × (slice_get t.structs i ≡ Some s) × (is_pointed t i s ≡ true)
    × (pointer_type t name.text ≡ Pointer i)
pointer_case t name None is e = absurd (some_none e)
  where
    some_none : broken_at name.place UnknownName ≡ [] → ⊥
    some_none e = cc
pointer_case t name (Some i) is e =
    let s : (s : StructTree) × (slice_get t.structs i ≡ Some s) =
    index_of_in (λ (s : StructTree). s.name.text) name.text t.structs i is in
    let small : nat_le (words_at t i) (pointed_limit (root_struct t) i) ≡ true =
    holds (nat_le (words_at t i) (pointed_limit (root_struct t) i)) name.place
    (TooBig limit.Pointer (words_at t i)) e in
    (i, s.0, is, s.1, rw s.1 at small, rw (is, small) refl)

pub pointer_good : (t : Tables) (name : Ident) → pointer_broken t name ≡ []
    → (i : ℕ) × (s : StructTree) × (struct_named t name.text ≡ Some i)
    × (slice_get t.structs i ≡ Some s) × (is_pointed t i s ≡ true)
    × (pointer_type t name.text ≡ Pointer i)
pointer_good t name e = pointer_case t name (struct_named t name.text) refl e

pub declared_good : (t : Tables) (ty : TypeTree) → type_broken t ty ≡ []
    → IsGood t (declared_type t ty)
declared_good t (stmt.Int n) e = tt
declared_good t (stmt.Pointer name) e =
    let h : (i : ℕ) × (s : StructTree) × (struct_named t name.text ≡ Some i)
    × (slice_get t.structs i ≡ Some s) × (is_pointed t i s ≡ true)
    × (pointer_type t name.text ≡ Pointer i) = pointer_good t name e in
    rw h.5 (h.1, h.3, h.4)

-- a field that exists
pub member_there : (t : Tables) (i : ℕ) (s : StructTree) (name : Ident) → IsSane t
    → slice_get t.structs i ≡ Some s → member_broken t i name ≡ []
    → (f : FieldTree) × (member t i name ≡ Some f) × IsFieldOf t i s name.text f
member_there t i s name h is e =
    let there : (f : FieldTree) × (member t i name ≡ Some f) =
    some_of (member t i name) (holds (is_some (member t i name)) name.place UnknownName e) in
    let named : field_named s name.text ≡ Some there.0 =
    sym (ap (option_and_then (λ (x : StructTree). field_named x name.text)) is) ∙ there.1 in
    (there.0, there.1, field_of_struct t i s name.text there.0 h is named)

field_parts : (t : Tables) (names : List (List ℕ)) (place : ℕ) (i : ℕ) (f : FieldTree)
    → field_broken t names i f ≡ [] → IsGoodKind t (field_kind t place f)
field_parts t names place i f e = by_length f.len (declared_type t f.ty)
    (declared_good t f.ty (none_left (type_broken t f.ty) _ e))
    (none_right (unless (is_first (index_of f.name.text names) i) f.name.place _)
    (option_map_or length_broken f.len []) (none_right (type_broken t f.ty) _ e))
  where
    by_length : (l : Option LengthTree) (ty : ValueType) → IsGood t ty
        → option_map_or length_broken l [] ≡ []
        → IsGoodKind t (option_map_or (λ l. if is_any ty || not (is_length l.value) then Value Any
        else Array ty place) l (Value ty))
    by_length None ty g e = g
    by_length (Some l) ty g e = rw (good_any t ty g, holds (is_length l.value) l.place _ e) g

member_good : (t : Tables) (i : ℕ) (s : StructTree) (name : Ident) → IsSane t
    → slice_get t.structs i ≡ Some s → member_broken t i name ≡ []
    → IsGoodKind t (member_kind t i name)
member_good t i s name h is e =
    let there : (f : FieldTree) × (member t i name ≡ Some f) × IsFieldOf t i s name.text f =
    member_there t i s name h is e in
    rw there.1 (field_parts t (field_names s) name.place (0 + there.2.place) there.0 there.2.holds)

pub value_good : (t : Tables) (broken : List Broken) (k : Kind) → IsGoodKind t k
    → with_unindexed broken k ≡ [] → IsGood t (type_of_kind k)
value_good t broken (Value ty) g e = g
value_good t broken (Array element place) g e =
    absurd (some_none (none_right broken (broken_at place Mismatch) e))
  where
    some_none : broken_at place Mismatch ≡ [] → ⊥
    some_none e = cc

arrow_good : (t : Tables) (ty : ValueType) (place : ℕ) (name : Ident) → IsSane t → IsGood t ty
    → arrow_broken t ty place name ≡ [] → IsGoodKind t (arrow_kind t ty name)
arrow_good t (Pointer i) place name h g e = member_good t i g.0 name h g.1 e
arrow_good t (Int n) place name h g e = absurd (some_none e)
  where
    some_none : broken_at place Mismatch ≡ [] → ⊥
    some_none e = cc
arrow_good t Null place name h g e = absurd (some_none e)
  where
    some_none : broken_at place Mismatch ≡ [] → ⊥
    some_none e = cc
arrow_good t Any place name h g e = absurd g

-- what is indexed is an array
pub indexed_array : (t : Tables) (k : Kind) → IsGoodKind t k → is_indexed k ≡ true
    → (el : ValueType) × (place : ℕ) × (k ≡ Array el place)
indexed_array t (Array el place) g e = (el, place, refl)
indexed_array t (Value Any) g e = absurd g
indexed_array t (Value (Int n)) g e = absurd (false≢true e)
indexed_array t (Value Null) g e = absurd (false≢true e)
indexed_array t (Value (Pointer i)) g e = absurd (false≢true e)

element_good : (t : Tables) (k : Kind) → IsGoodKind t k → is_indexed k ≡ true
    → IsGood t (element_of k)
element_good t (Array el place) g e = g
element_good t (Value Any) g e = absurd g
element_good t (Value (Int n)) g e = absurd (false≢true e)
element_good t (Value Null) g e = absurd (false≢true e)
element_good t (Value (Pointer i)) g e = absurd (false≢true e)

-- a function that is called
pub callee : (wanted : Bool) (o : Option FunctionTree) (n place : ℕ)
    → call_broken wanted o n place ≡ [] → (f : FunctionTree) × (o ≡ Some f)
    × (callee_broken wanted f n place ≡ [])
callee wanted None n place e = absurd (some_none e)
  where
    some_none : broken_at place UnknownName ≡ [] → ⊥
    some_none e = cc
callee wanted (Some f) n place e = (f, refl, e)

pub callee_arity : (wanted : Bool) (f : FunctionTree) (n place : ℕ)
    → callee_broken wanted f n place ≡ [] → nat_eq n (length f.parameters) ≡ true
callee_arity wanted f n place e =
    holds (nat_eq n (length f.parameters)) place Arity
    (none_left (unless (nat_eq n (length f.parameters)) place Arity)
    (unless (not f.tx) place BadTx)
    (none_right (unless (not wanted || is_some f.result_type) place Mismatch) _ e))

callee_may : (f : FunctionTree) (n place : ℕ) → callee_broken true f n place ≡ []
    → (is_some f.result_type ≡ true) × (may_call true f n ≡ true)
callee_may f n place e =
    let a : is_some f.result_type ≡ true =
    holds (is_some f.result_type) place Mismatch
    (none_left (unless (not true || is_some f.result_type) place Mismatch) _ e) in
    let b : nat_eq n (length f.parameters) ≡ true = callee_arity true f n place e in
    let c : not f.tx ≡ true = holds (not f.tx) place BadTx
    (none_right (unless (nat_eq n (length f.parameters)) place Arity) _
    (none_right (unless (not true || is_some f.result_type) place Mismatch) _ e)) in
    (a, rw (a, b, c) refl)

result_good : (t : Tables) (ty : Option TypeTree) → is_some ty ≡ true
    → option_map_or (type_broken t) ty [] ≡ [] → IsGood t (option_map_or (declared_type t) ty Any)
result_good t None e b = absurd (false≢true e)
result_good t (Some ty) e b = declared_good t ty b

-- a function that is found is one of the functions
pub function_there : (t : Tables) (name : List ℕ) (f : FunctionTree)
    → function_named t name ≡ Some f → (i : ℕ) × (index_of name (function_names t) ≡ Some i)
    × (slice_get t.functions i ≡ Some f)
function_there t name f e = by_index (index_of name (function_names t)) refl e
  where
    by_index : (o : Option ℕ) → index_of name (function_names t) ≡ o
        → option_and_then (slice_get t.functions) o ≡ Some f
        → (i : ℕ) × (index_of name (function_names t) ≡ Some i) × (slice_get t.functions i ≡ Some f)
    by_index None is e = absurd (none-some f e)
    by_index (Some i) is e = (i, is, e)

call_good : (t : Tables) (name : List ℕ) (o : Option FunctionTree) (n place : ℕ) (taken : Bool)
    → IsSane t → function_named t name ≡ o → call_broken true o n place ≡ [] → taken ≡ true
    → IsGood t (call_type t true o n taken)
call_good t name None n place taken h is e all = absurd (some_none e)
  where
    some_none : broken_at place UnknownName ≡ [] → ⊥
    some_none e = cc
call_good t name (Some f) n place taken h is e all =
    let may : (is_some f.result_type ≡ true) × (may_call true f n ≡ true) =
    callee_may f n place e in
    let there : (i : ℕ) × (index_of name (function_names t) ≡ Some i)
    × (slice_get t.functions i ≡ Some f) = function_there t name f is in
    rw (may.1, all) (result_good t f.result_type may.0 (h.results there.0 f there.2))

common_good : (t : Tables) (x y : ValueType) → IsGood t x → IsGood t y
    → IsGood t (common_type x y)
common_good t Null y gx gy = gy
common_good t (Int n) y gx gy = gx
common_good t (Pointer i) y gx gy = gx
common_good t Any y gx gy = gx

unary_good : (t : Tables) (op : UnaryOp) (x : ValueType) → IsGood t (unary_type op x)
unary_good t unary.Negate x = tt
unary_good t unary.Not x = tt
unary_good t unary.Complement x = tt
unary_good t (unary.Cast n) x = tt

mutual
  -- an expression that breaks no rule denotes something good
  pub kind_good : (t : Tables) (r : ℕ) (v : Variables) (e : ExprTree) → IsSane t
      → Agree t r v.scopes v.locals → broken_in t v.scopes e ≡ []
      → IsGoodKind t (kind_of t v.scopes e)
  kind_good t r v (expr.Number n) h a b = tt
  kind_good t r v expr.Null h a b = tt
  kind_good t r v (expr.Variable name) h a b =
      found_good t r (variable_type name.text v.scopes) (variable_register name.text v.locals)
      (found t r name.text v.scopes v.locals a)
      (holds (is_some (variable_type name.text v.scopes)) name.place UnknownName b)
  kind_good t r v (expr.Call name all) h a b =
      let o : Option FunctionTree = function_named t name.text in
      call_good t name.text o (argument_count all) name.place
      (all_taken t v.scopes (parameters_of o) 0 all) h refl
      (none_left (call_broken true o (argument_count all) name.place)
      (broken_in_all t v.scopes (parameters_of o) 0 all) b)
      (all_good t r v (parameters_of o) 0 all h a
      (none_right (call_broken true o (argument_count all) name.place)
      (broken_in_all t v.scopes (parameters_of o) 0 all) b))
  kind_good t r v (expr.Root name) h a b =
      let root : (i : ℕ) × (s : StructTree) × (root_struct t ≡ Some i)
      × (slice_get t.structs i ≡ Some s) = h.root in
      rw root.2 (member_good t root.0 root.1 name h root.3 (rw root.2 at b))
  kind_good t r v (expr.New place name) h a b =
      let p : (i : ℕ) × (s : StructTree) × (struct_named t name.text ≡ Some i)
      × (slice_get t.structs i ≡ Some s) × (is_pointed t i s ≡ true)
      × (pointer_type t name.text ≡ Pointer i) = pointer_good t name b in
      rw p.5 (p.1, p.3, p.4)
  kind_good t r v (expr.Arrow base place name) h a b =
      let u : with_unindexed (broken_in t v.scopes base) (kind_of t v.scopes base) ≡ [] =
      none_left (with_unindexed (broken_in t v.scopes base) (kind_of t v.scopes base)) _ b in
      arrow_good t (type_of t v.scopes base) place name h
      (value_good t (broken_in t v.scopes base) (kind_of t v.scopes base)
      (kind_good t r v base h a (none_left (broken_in t v.scopes base) _ u)) u)
      (none_right (with_unindexed (broken_in t v.scopes base) (kind_of t v.scopes base)) _ b)
  kind_good t r v (expr.Index base place index) h a b =
      let s : List Scope = v.scopes in
      let rest : with_unindexed (broken_in t s index) (kind_of t s index)
      ++ unless (is_indexed (kind_of t s base) && is_int (type_of t s index)) place Mismatch
      ≡ [] = none_right (broken_in t s base) _ b in
      let u : with_unindexed (broken_in t s index) (kind_of t s index) ≡ [] =
      none_left (with_unindexed (broken_in t s index) (kind_of t s index)) _ rest in
      let gb : IsGoodKind t (kind_of t s base) =
      kind_good t r v base h a (none_left (broken_in t s base) _ b) in
      let gi : IsGood t (type_of t s index) =
      value_good t (broken_in t s index) (kind_of t s index)
      (kind_good t r v index h a (none_left (broken_in t s index) _ u)) u in
      let good : (is_indexed (kind_of t s base) && is_int (type_of t s index)) ≡ true =
      holds (is_indexed (kind_of t s base) && is_int (type_of t s index)) place Mismatch
      (none_right (with_unindexed (broken_in t s index) (kind_of t s index)) _ rest) in
      let i : is_indexed (kind_of t s base) ≡ true =
      (and_parts (is_indexed (kind_of t s base)) (is_int (type_of t s index)) good).0 in
      rw (good, good_any t (type_of t s index) gi) (element_good t (kind_of t s base) gb i)
  kind_good t r v (expr.Unary op place x) h a b =
      let s : List Scope = v.scopes in
      let u : with_unindexed (broken_in t s x) (kind_of t s x) ≡ [] =
      none_left (with_unindexed (broken_in t s x) (kind_of t s x)) _ b in
      let g : IsGood t (type_of t s x) =
      value_good t (broken_in t s x) (kind_of t s x)
      (kind_good t r v x h a (none_left (broken_in t s x) _ u)) u in
      let good : applies op (type_of t s x) ≡ true =
      holds (applies op (type_of t s x)) place Mismatch
      (none_right (with_unindexed (broken_in t s x) (kind_of t s x)) _ b) in
      rw (good, good_any t (type_of t s x) g) (unary_good t op (type_of t s x))
  kind_good t r v (expr.Binary op place x y) h a b =
      let s : List Scope = v.scopes in
      let rest : with_unindexed (broken_in t s y) (kind_of t s y)
      ++ unless (joins_types op (type_of t s x) (type_of t s y)) place Mismatch ≡ [] =
      none_right (with_unindexed (broken_in t s x) (kind_of t s x)) _ b in
      let u : with_unindexed (broken_in t s x) (kind_of t s x) ≡ [] =
      none_left (with_unindexed (broken_in t s x) (kind_of t s x)) _ b in
      let w : with_unindexed (broken_in t s y) (kind_of t s y) ≡ [] =
      none_left (with_unindexed (broken_in t s y) (kind_of t s y)) _ rest in
      let gx : IsGood t (type_of t s x) =
      value_good t (broken_in t s x) (kind_of t s x)
      (kind_good t r v x h a (none_left (broken_in t s x) _ u)) u in
      let gy : IsGood t (type_of t s y) =
      value_good t (broken_in t s y) (kind_of t s y)
      (kind_good t r v y h a (none_left (broken_in t s y) _ w)) w in
      let good : joins_types op (type_of t s x) (type_of t s y) ≡ true =
      holds (joins_types op (type_of t s x) (type_of t s y)) place Mismatch
      (none_right (with_unindexed (broken_in t s y) (kind_of t s y)) _ rest) in
      rw (good, good_any t (type_of t s x) gx, good_any t (type_of t s y) gy) tt
  kind_good t r v (expr.Conditional c place x y) h a b =
      let s : List Scope = v.scopes in
      let sides = none_right (with_unindexed (broken_in t s c) (kind_of t s c)) _ b in
      let rest = none_right (with_unindexed (broken_in t s x) (kind_of t s x)) _ sides in
      let bc : with_unindexed (broken_in t s c) (kind_of t s c) ≡ [] =
      none_left (with_unindexed (broken_in t s c) (kind_of t s c)) _ b in
      let bl : with_unindexed (broken_in t s x) (kind_of t s x) ≡ [] =
      none_left (with_unindexed (broken_in t s x) (kind_of t s x)) _ sides in
      let br : with_unindexed (broken_in t s y) (kind_of t s y) ≡ [] =
      none_left (with_unindexed (broken_in t s y) (kind_of t s y)) _ rest in
      let gc : IsGood t (type_of t s c) =
      value_good t (broken_in t s c) (kind_of t s c)
      (kind_good t r v c h a (none_left (broken_in t s c) _ bc)) bc in
      let gx : IsGood t (type_of t s x) =
      value_good t (broken_in t s x) (kind_of t s x)
      (kind_good t r v x h a (none_left (broken_in t s x) _ bl)) bl in
      let gy : IsGood t (type_of t s y) =
      value_good t (broken_in t s y) (kind_of t s y)
      (kind_good t r v y h a (none_left (broken_in t s y) _ br)) br in
      let good : comparable (type_of t s x) (type_of t s y) ≡ true =
      holds (comparable (type_of t s x) (type_of t s y)) place Mismatch
      (none_right (with_unindexed (broken_in t s y) (kind_of t s y)) _ rest) in
      rw (
        good,
        good_any t (type_of t s c) gc,
        good_any t (type_of t s x) gx,
        good_any t (type_of t s y) gy,
      ) (common_good t (type_of t s x) (type_of t s y) gx gy)

  all_good : (t : Tables) (r : ℕ) (v : Variables) (ps : List ParameterTree) (i : ℕ) (es : Arguments)
      → IsSane t → Agree t r v.scopes v.locals → broken_in_all t v.scopes ps i es ≡ []
      → all_taken t v.scopes ps i es ≡ true
  all_good t r v ps i expr.None h a b = refl
  all_good t r v ps i (expr.More first x rest) h a b =
      let s : List Scope = v.scopes in
      let u : with_unindexed (broken_in t s x) (kind_of t s x) ≡ [] =
      none_left (with_unindexed (broken_in t s x) (kind_of t s x)) _ b in
      let later : unless (type_takes (parameter_type t ps i) (type_of t s x)) first Mismatch
      ++ broken_in_all t s ps (i + 1) rest ≡ [] =
      none_right (with_unindexed (broken_in t s x) (kind_of t s x)) _ b in
      let g : IsGood t (type_of t s x) =
      value_good t (broken_in t s x) (kind_of t s x)
      (kind_good t r v x h a (none_left (broken_in t s x) _ u)) u in
      let good : type_takes (parameter_type t ps i) (type_of t s x) ≡ true =
      holds (type_takes (parameter_type t ps i) (type_of t s x)) first Mismatch
      (none_left (unless (type_takes (parameter_type t ps i) (type_of t s x)) first Mismatch)
      _ later) in
      let others : all_taken t s ps (i + 1) rest ≡ true =
      all_good t r v ps (i + 1) rest h a
      (none_right (unless (type_takes (parameter_type t ps i) (type_of t s x)) first Mismatch)
      _ later) in
      rw (good, good_any t (type_of t s x) g, others) refl
