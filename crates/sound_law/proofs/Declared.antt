-- A declared name means the new local, and other names keep their meaning. The locals from before a
-- scope are left at its end.
use Rattle.std.proofs.Common.{◌≡◌, ℕ, zero, suc, ◌+◌, ◌-◌, ◌≤◌, ℤ, pos, Bool, true, false, List, []}
use Rattle.std.proofs.Common.{◌∷◌, ◌++◌, length, refl, sym, ap, ◌∙◌, arith}
use Rattle.std.specs.Prelude.{Option, None, Some, if◌then◌else◌, option_map, drop}
use Rattle.std.specs.Prelude.{option_and_then, slice_get, slice_index_or, bytes_eq}
use Rattle.std.proofs.lemmas.Slice.Eq.{bytes_eq-Decides}
use Rattle.c_tree.specs.ItemTree.{ParameterTree}
use Rattle.c_types.specs.declared.value_type.ValueType.{ValueType}
use Rattle.c_types.specs.Tables.{Tables, index_of, declared_type}
use Rattle.c_types.specs.Expressions.{Scope, type_in, or_else, variable_type}
use Rattle.c_types.specs.Statements.{scope_declared, is_declared}
use Rattle.c_types.specs.Declarations.{scopes_after_parameter, scopes_after_parameters}
use Rattle.c_types.proofs.Index.{is_some_None}
use Rattle.c_meaning.specs.Locals.{Local, scopes_of, assigned, oldest, bound, local_declared}
use Rattle.rules_law.specs.typed.Types.{StaticType, value_type}
use Rattle.rules_law.specs.typed.Programs.{AreParameters}
use Rattle.rules_law.proofs.typed.Fitting.{declared_is}
use Rattle.sound_law.proofs.Fields.{IsSmall, written_small}
use Rattle.sound_law.proofs.Scopes.{AreSmall, IsSame}

-- each name of a scope has a type
abbrev pub ArePaired : List (List ℕ) → List ValueType → Type 0
ArePaired [] [] = Unit {0}
ArePaired [] (y ∷ ys) = ⊥
ArePaired (n ∷ ns) [] = ⊥
ArePaired (n ∷ ns) (y ∷ ys) = ArePaired ns ys

-- there is an innermost scope, and each of its names has a type
abbrev pub IsOpen : List Scope → Type 0
IsOpen [] = ⊥
IsOpen (s ∷ ss) = ArePaired s.names s.types

-- the scope of one local
abbrev pub one : List ℕ → ValueType → Scope
one name ty = record { names = name ∷ []; types = ty ∷ [] }

last_type : (x name : List ℕ) (ty : ValueType) (ns : List (List ℕ)) (ys : List ValueType)
    → ArePaired ns ys → option_and_then (slice_get (ys ++ ty ∷ [])) (index_of x (ns ++ name ∷ []))
    ≡ or_else (option_and_then (slice_get ys) (index_of x ns)) (if bytes_eq x name
    then Some ty else None)
last_type x name ty [] [] h = by_test (bytes_eq x name)
  where
    by_test : (b : Bool) → option_and_then (slice_get (ty ∷ [])) (if b then Some 0
        else option_map suc None) ≡ (if b then Some ty else None)
    by_test true = refl
    by_test false = refl
last_type x name ty [] (y ∷ ys) h = absurd h
last_type x name ty (n ∷ ns) [] h = absurd h
last_type x name ty (n ∷ ns) (y ∷ ys) h =
    by_test (bytes_eq x n) (index_of x (ns ++ name ∷ [])) (index_of x ns)
    (last_type x name ty ns ys h)
  where
    by_test : (b : Bool) (o u : Option ℕ) → option_and_then (slice_get (ys ++ ty ∷ [])) o
        ≡ or_else (option_and_then (slice_get ys) u) (if bytes_eq x name then Some ty else None)
        → option_and_then (slice_get (y ∷ (ys ++ ty ∷ []))) (if b then Some 0 else option_map suc o)
        ≡ or_else (option_and_then (slice_get (y ∷ ys)) (if b then Some 0
        else option_map suc u)) (if bytes_eq x name then Some ty else None)
    by_test true o u e = refl
    by_test false None None e = e
    by_test false None (Some j) e = e
    by_test false (Some i) None e = e
    by_test false (Some i) (Some j) e = e

or_none : (a b : Option ValueType) → or_else (or_else a None) b ≡ or_else a b
or_none None b = refl
or_none (Some ty) b = refl

one_type : (x name : List ℕ) (ty : ValueType) → type_in x (one name ty) ≡ (if bytes_eq x name
    then Some ty else None)
one_type x name ty = by_test (bytes_eq x name)
  where
    by_test : (b : Bool) → option_and_then (slice_get (ty ∷ [])) (if b then Some 0
        else option_map suc None) ≡ (if b then Some ty else None)
    by_test true = refl
    by_test false = refl

-- a declared name means the same in the scopes and among the locals
pub same_declared : (name : List ℕ) (ty : ValueType) (s u : List Scope) → IsOpen s
    → is_declared name s ≡ false → IsSame s u → IsSame (scope_declared name ty s) (one name ty ∷ u)
same_declared name ty [] u paired new same x = absurd paired
same_declared name ty (s ∷ ss) u paired new same x =
    ap (λ o. or_else o (variable_type x ss)) (last_type x name ty s.names s.types paired)
    ∙ by_test (bytes_eq x name) refl
    ∙ sym (ap (λ o. or_else o (variable_type x u)) (one_type x name ty))
  where
    absent : bytes_eq x name ≡ true → index_of x s.names ≡ None
    absent e = ap (λ (y : List ℕ). index_of y s.names) ((bytes_eq-Decides x name).0 e)
        ∙ is_some_None (index_of name s.names) new

    by_test : (b : Bool) → bytes_eq x name ≡ b
        → or_else (or_else (type_in x s) (if b then Some ty else None)) (variable_type x ss)
        ≡ or_else (if b then Some ty else None) (variable_type x u)
    by_test true e = ap (λ o. or_else (or_else (option_and_then (slice_get s.types) o) (Some ty))
        (variable_type x ss)) (absent e)
    by_test false e = or_none (type_in x s) (variable_type x ss) ∙ same x

paired_more : (name : List ℕ) (ty : ValueType) (ns : List (List ℕ)) (ys : List ValueType)
    → ArePaired ns ys → ArePaired (ns ++ name ∷ []) (ys ++ ty ∷ [])
paired_more name ty [] [] h = tt
paired_more name ty [] (y ∷ ys) h = absurd h
paired_more name ty (n ∷ ns) [] h = absurd h
paired_more name ty (n ∷ ns) (y ∷ ys) h = paired_more name ty ns ys h

pub open_declared : (name : List ℕ) (ty : ValueType) (s : List Scope) → IsOpen s
    → IsOpen (scope_declared name ty s)
open_declared name ty [] h = absurd h
open_declared name ty (s ∷ ss) h = paired_more name ty s.names s.types h

-- an assignment changes no name and no type
pub assigned_scopes : (name : List ℕ) (v : ℤ) (ls : List Local)
    → scopes_of (assigned name v ls) ≡ scopes_of ls
assigned_scopes name v [] = refl
assigned_scopes name v (l ∷ ls) = by_test (bytes_eq name l.name) (assigned_scopes name v ls)
  where
    by_test : (b : Bool) → scopes_of (assigned name v ls) ≡ scopes_of ls
        → scopes_of (if b then record { name = l.name; ty = l.ty; value = v } ∷ ls
        else l ∷ assigned name v ls) ≡ scopes_of (l ∷ ls)
    by_test true e = refl
    by_test false e = ap (λ (ss : List Scope). one l.name l.ty ∷ ss) e

-- more locals, the newest ones, than those of the scopes c
pub record Over (c : List Scope) (ls : List Local) : Type 0 where
  pub top : List Scope
  pub split : scopes_of ls ≡ top ++ c

pub over_same : (c : List Scope) (ls : List Local) → scopes_of ls ≡ c → Over c ls
over_same c ls e = record { top = []; split = e }

append_two : (a b c : List Scope) → a ++ (b ++ c) ≡ (a ++ b) ++ c
append_two [] b c = refl
append_two (x ∷ a) b c = ap (λ (xs : List Scope). x ∷ xs) (append_two a b c)

pub over_more : (c : List Scope) (ls ks : List Local) → Over c ls → Over (scopes_of ls) ks
    → Over c ks
over_more c ls ks h g = record {
  top = g.top ++ h.top;
  split = g.split ∙ ap (λ (xs : List Scope). g.top ++ xs) h.split
      ∙ append_two g.top h.top c;
}

scopes_length : (ls : List Local) → length (scopes_of ls) ≡ length ls
scopes_length [] = refl
scopes_length (l ∷ ls) = ap suc (scopes_length ls)

length_more : (top c : List Scope) → length c ≤ length (top ++ c)
length_more [] c = omega arith
length_more (x ∷ top) c = omega (arith, length_more top c)

drop_scopes : (n : ℕ) (ls : List Local) → scopes_of (drop n ls) ≡ drop n (scopes_of ls)
drop_scopes zero ls = refl
drop_scopes (suc n) [] = refl
drop_scopes (suc n) (l ∷ ls) = drop_scopes n ls

drop_top : (top c : List Scope) → drop (length (top ++ c) - length c) (top ++ c) ≡ c
drop_top [] c = let e : length c - length c ≡ 0 = omega arith in rw e refl
drop_top (x ∷ top) c =
    let le : length c ≤ length (top ++ c) = length_more top c in
    let e : suc (length (top ++ c)) - length c ≡ suc (length (top ++ c) - length c) =
    omega (arith, le) in
    rw e (drop_top top c)

pub scope_end : (n : ℕ) (c : List Scope) (ls : List Local) → n ≡ length c → Over c ls
    → scopes_of (oldest n ls) ≡ c
scope_end n c ls is h =
    let long : length ls ≡ length (h.top ++ c) = sym (scopes_length ls) ∙ ap length h.split in
    drop_scopes (length ls - n) ls
    ∙ ap (λ (xs : List Scope). drop (length ls - n) xs) h.split
    ∙ ap (λ m. drop (m - n) (h.top ++ c)) long
    ∙ ap (λ m. drop (length (h.top ++ c) - m) (h.top ++ c)) is
    ∙ drop_top h.top c

pub own_end : (ls ks : List Local) → Over (scopes_of ls) ks
    → scopes_of (oldest (length ls) ks) ≡ scopes_of ls
own_end ls ks h = scope_end (length ls) (scopes_of ls) ks (sym (scopes_length ls)) h

-- what the rules know of the locals
pub record Sees (t : Tables) (s u : List Scope) : Type 0 where
  pub same : IsSame s u
  pub paired : IsOpen s
  pub small : AreSmall t u

pub sees_declared : (t : Tables) (name : List ℕ) (ty : ValueType) (x : StaticType)
    (s u : List Scope) → is_declared name s ≡ false → (e : ty ≡ value_type x)
    → IsSmall t x → Sees t s u → Sees t (scope_declared name ty s) (one name ty ∷ u)
sees_declared t name ty x s u new is small h = record {
  same = same_declared name ty s u h.paired new h.same;
  paired = open_declared name ty s h.paired;
  small = (((x, is, small), tt), h.small);
}

-- the parameters
pub parameters_seen : (t : Tables) (ps : List ParameterTree) (i : ℕ) (s : List Scope)
    (vs : List ℤ) (ls : List Local) → AreParameters t s i ps → Sees t s (scopes_of ls)
    → Sees t (scopes_after_parameters t s ps) (scopes_of (bound t ps vs ls))
parameters_seen t [] i s vs ls h sees = sees
parameters_seen t (p ∷ ps) i s vs ls h sees =
    parameters_seen t ps (i + 1) (scopes_after_parameter t s p) (drop 1 vs)
    (local_declared p.name.text (declared_type t p.ty) (slice_index_or vs 0 (pos 0)) ls) h.3
    (sees_declared t p.name.text (declared_type t p.ty) h.0.0 s (scopes_of ls) h.2
    (declared_is t p.ty h.0.0 h.0.1) (written_small t p.ty h.0.0 h.0.1) sees)
