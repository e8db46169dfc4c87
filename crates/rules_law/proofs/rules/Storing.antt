-- The rounds of c_types find exactly the functions that store: what a round knows is so, and after
-- as many rounds as there are functions the next one tells nothing new.
use Rattle.std.proofs.Common.{◌≡◌, ℕ, zero, suc, ◌≤◌, ◌<◌, ◌⊎◌, inl, inr, Bool, true, false}
use Rattle.std.proofs.Common.{List, [], ◌∷◌, length, refl, sym, ap, ◌∙◌, subst, arith}
use Rattle.std.specs.Prelude.{map, slice_get, unwrap_or, if◌then◌else◌, bytes_eq, Option, None}
use Rattle.std.specs.Prelude.{Some, option_map, option_and_then}
use Rattle.std.specs.Option.{option_map_or}
use Rattle.std.proofs.lemmas.Bool.{false≢true, not-true}
use Rattle.std.proofs.lemmas.Option.{none-some, same_Some, slice_get-map}
use Rattle.c_tree.specs.ExprTree.{ExprTree}
use Rattle.c_tree.specs.ExprTree as expr
use Rattle.c_tree.specs.StmtTree.{Statements, SimpleTree}
use Rattle.c_tree.specs.StmtTree as stmt
use Rattle.c_tree.specs.ItemTree.{FunctionTree}
use Rattle.c_types.specs.Tables.{Tables, index_of, function_names, function_named}
use Rattle.c_types.specs.Expressions.{Scope}
use Rattle.c_types.specs.Statements.{inner_scopes}
use Rattle.c_types.specs.Declarations.{scopes_after_parameters}
use Rattle.c_types.specs.Looking.{is_known, is_variable, statements_store, next_known}
use Rattle.c_types.specs.Looking.{known_after, storing}
use Rattle.c_types.proofs.Rounds.{rounds_stay}
use Rattle.rules_law.specs.rules.Part.{Part}
use Rattle.rules_law.specs.rules.Part as part
use Rattle.rules_law.specs.rules.Stores.{IsStore, assigned, stepped, made, freed, InBody, Stores}
use Rattle.rules_law.specs.rules.Stores.{itself, called}
use Rattle.rules_law.proofs.rules.Stored.{makes, writes, part_stores, stored_statements}
use Rattle.rules_law.proofs.rules.Stored.{in_statements}

never : {C : Type 0} → false ≡ true → C
never h = absurd (false≢true h)

-- what is known of functions is so
abbrev IsSound : Tables → (known : List Bool) → Type 0
IsSound t known = (i : ℕ) (f : FunctionTree) → slice_get t.functions i ≡ Some f
    → slice_get known i ≡ Some true → Stores t f

-- the place of a name is that of a function
named_step : (f : FunctionTree) (fs : List FunctionTree) (b : Bool) (o : Option ℕ) (i : ℕ)
    → (if b then Some 0 else option_map suc o) ≡ Some i
    → ((j : ℕ) → o ≡ Some j → (g : FunctionTree) × (slice_get fs j ≡ Some g))
    → (g : FunctionTree) × (slice_get (f ∷ fs) i ≡ Some g)
named_step f fs true o zero is rest = (f, refl)
named_step f fs true o (suc i) is rest =
    let e : 0 ≡ suc i = same_Some 0 (suc i) is in absurd (omega (arith, e))
named_step f fs false None i is rest = absurd (none-some i is)
named_step f fs false (Some j) zero is rest =
    let e : suc j ≡ 0 = same_Some (suc j) 0 is in absurd (omega (arith, e))
named_step f fs false (Some j) (suc i) is rest =
    let e : suc j ≡ suc i = same_Some (suc j) (suc i) is in rest i (ap Some (omega (arith, e)))

named_at : (name : List ℕ) (fs : List FunctionTree) (i : ℕ)
    → index_of name (map (λ (f : FunctionTree). f.name.text) fs) ≡ Some i
    → (g : FunctionTree) × (slice_get fs i ≡ Some g)
named_at name [] i is = absurd (none-some i is)
named_at name (f ∷ fs) i is = named_step f fs (bytes_eq name f.name.text)
    (index_of name (map (λ (f : FunctionTree). f.name.text) fs)) i is (named_at name fs)

-- what is known of a name is known of its place
known_some : (o : Option Bool) → unwrap_or o false ≡ true → o ≡ Some true
known_some None h = never h
known_some (Some b) h = ap Some h

known_place : (known : List Bool) (o : Option ℕ)
    → option_map_or (λ i. unwrap_or (slice_get known i) false) o false ≡ true
    → (i : ℕ) × (o ≡ Some i) × (slice_get known i ≡ Some true)
known_place known None h = never h
known_place known (Some i) h = (i, refl, known_some (slice_get known i) h)

-- a part that stores, alone or by a call
made_is : (s : List Scope) (e : ExprTree) → makes e ≡ true → IsStore (part.Expression s e)
made_is s (expr.New place name) h = made
made_is s _ h = never h

written_is : (s : List Scope) (x : SimpleTree) → writes x ≡ true → IsStore (part.Simple s x)
written_is s (stmt.Assign target op place e) h = assigned (not-true (is_variable target) h)
written_is s (stmt.Step target op place) h = stepped (not-true (is_variable target) h)
written_is s (stmt.Free place e) h = freed
written_is s _ h = never h

call_is : (t : Tables) (known : List Bool) (name : List ℕ) → IsSound t known
    → is_known t known name ≡ true
    → (g : FunctionTree) × (function_named t name ≡ Some g) × Stores t g
call_is t known name sound h =
    let k = known_place known (index_of name (function_names t)) h in
    let n = named_at name t.functions k.0 k.1 in
    (n.0, ap (option_and_then (slice_get t.functions)) k.1 ∙ n.1, sound k.0 n.0 n.1 k.2)

part_is : (t : Tables) (known : List Bool) (f : FunctionTree) (p : Part) → IsSound t known
    → InBody t f p → part_stores t known p ≡ true → Stores t f
part_is t known f (part.Expression s e) sound d h = itself d (made_is s e h)
part_is t known f (part.Simple s x) sound d h = itself d (written_is s x h)
part_is t known f (part.Called used name all) sound d h =
    let c = call_is t known name.text sound h in called d c.1 c.2
part_is t known f _ sound d h = never h

body_is : (t : Tables) (known : List Bool) (f : FunctionTree) → IsSound t known
    → statements_store t known f.body ≡ true → Stores t f
body_is t known f sound h =
    let s = stored_statements t known f.result_type
    (scopes_after_parameters t (inner_scopes []) f.parameters) f.body h in
    part_is t known f s.0 sound s.1 s.2

-- what is known of the function at a place
at_place : {A : Type 0} (g : FunctionTree → A) (fs : List FunctionTree) (i : ℕ) (f : FunctionTree)
    → slice_get fs i ≡ Some f → slice_get (map g fs) i ≡ Some (g f)
at_place g fs i f is = slice_get-map g fs i ∙ ap (option_map g) is

next_sound : (t : Tables) (known : List Bool) → IsSound t known → IsSound t (next_known t known)
next_sound t known sound i f is h =
    let at = at_place (λ (f : FunctionTree). statements_store t known f.body) t.functions i f is in
    body_is t known f sound (same_Some (statements_store t known f.body) true (sym at ∙ h))

after_sound : (t : Tables) (n : ℕ) (known : List Bool) → IsSound t known
    → IsSound t (known_after t n known)
after_sound t zero known sound = sound
after_sound t (suc n) known sound =
    after_sound t n (next_known t known) (next_sound t known sound)

none_sound : (t : Tables) → IsSound t (map (λ (f : FunctionTree). false) t.functions)
none_sound t i f is h =
    let at = at_place (λ (f : FunctionTree). false) t.functions i f is in
    never (same_Some false true (sym at ∙ h))

-- what the rule refuses stores
pub stores_from : (t : Tables) (f : FunctionTree) → statements_store t (storing t) f.body ≡ true
    → Stores t f
stores_from t f h = body_is t (storing t) f
    (after_sound t (length t.functions) (map (λ (f : FunctionTree). false) t.functions)
    (none_sound t)) h

-- all that is known on the left is known on the right
abbrev IsBelow : List Bool → List Bool → Type 0
IsBelow [] [] = Unit {0}
IsBelow [] (y ∷ ys) = ⊥
IsBelow (x ∷ xs) [] = ⊥
IsBelow (x ∷ xs) (y ∷ ys) = (x ≡ true → y ≡ true) × IsBelow xs ys

below_at : (xs ys : List Bool) (i : ℕ) → IsBelow xs ys → slice_get xs i ≡ Some true
    → slice_get ys i ≡ Some true
below_at [] [] i b h = h
below_at [] (y ∷ ys) i b h = absurd b
below_at (x ∷ xs) [] i b h = absurd b
below_at (x ∷ xs) (y ∷ ys) zero b h = ap Some (b.0 (same_Some x true h))
below_at (x ∷ xs) (y ∷ ys) (suc i) b h = below_at xs ys i b.1 h

known_more : (t : Tables) (xs ys : List Bool) (name : List ℕ) → IsBelow xs ys
    → is_known t xs name ≡ true → is_known t ys name ≡ true
known_more t xs ys name b h =
    let k = known_place xs (index_of name (function_names t)) h in
    ap (λ (o : Option ℕ). option_map_or (λ i. unwrap_or (slice_get ys i) false) o false) k.1
    ∙ ap (λ (o : Option Bool). unwrap_or o false) (below_at xs ys k.0 b k.2)

part_more : (t : Tables) (xs ys : List Bool) (p : Part) → IsBelow xs ys
    → part_stores t xs p ≡ true → part_stores t ys p ≡ true
part_more t xs ys (part.Expression s e) b h = h
part_more t xs ys (part.Simple s x) b h = h
part_more t xs ys (part.Called used name all) b h = known_more t xs ys name.text b h
part_more t xs ys _ b h = never h

body_more : (t : Tables) (xs ys : List Bool) (all : Statements) → IsBelow xs ys
    → statements_store t xs all ≡ true → statements_store t ys all ≡ true
body_more t xs ys all b h =
    let s = stored_statements t xs None [] all h in
    in_statements t ys s.1 (part_more t xs ys s.0 b s.2)

bodies_more : (t : Tables) (xs ys : List Bool) (fs : List FunctionTree) → IsBelow xs ys
    → IsBelow (map (λ (f : FunctionTree). statements_store t xs f.body) fs)
    (map (λ (f : FunctionTree). statements_store t ys f.body) fs)
bodies_more t xs ys [] b = tt
bodies_more t xs ys (f ∷ fs) b = (body_more t xs ys f.body b, bodies_more t xs ys fs b)

none_below : (g : FunctionTree → Bool) (fs : List FunctionTree)
    → IsBelow (map (λ (f : FunctionTree). false) fs) (map g fs)
none_below g [] = tt
none_below g (f ∷ fs) = (λ h. never h, none_below g fs)

-- how many functions aren't known to store
abbrev unknown : List Bool → ℕ
unknown [] = 0
unknown (true ∷ xs) = unknown xs
unknown (false ∷ xs) = suc (unknown xs)

unknown_all : (fs : List FunctionTree)
    → unknown (map (λ (f : FunctionTree). false) fs) ≤ length fs
unknown_all [] = omega arith
unknown_all (f ∷ fs) = let e = unknown_all fs in omega (arith, e)

-- a round tells nothing new, or there are fewer that aren't known
same_or_less : (xs ys : List Bool) → IsBelow xs ys → (ys ≡ xs) ⊎ (unknown ys < unknown xs)
same_or_less [] [] b = inl refl
same_or_less [] (y ∷ ys) b = absurd b
same_or_less (x ∷ xs) [] b = absurd b
same_or_less (true ∷ xs) (true ∷ ys) b = one_more (same_or_less xs ys b.1)
  where
    one_more : (ys ≡ xs) ⊎ (unknown ys < unknown xs)
        → (true ∷ ys ≡ true ∷ xs) ⊎ (unknown ys < unknown xs)
    one_more (inl e) = inl (ap (λ (zs : List Bool). true ∷ zs) e)
    one_more (inr lt) = inr lt
same_or_less (true ∷ xs) (false ∷ ys) b = never (b.0 refl)
same_or_less (false ∷ xs) (true ∷ ys) b = inr (fewer (same_or_less xs ys b.1))
  where
    fewer : (ys ≡ xs) ⊎ (unknown ys < unknown xs) → unknown ys < suc (unknown xs)
    fewer (inl e) = let same : unknown ys ≡ unknown xs = ap unknown e in omega (arith, same)
    fewer (inr lt) = omega (arith, lt)
same_or_less (false ∷ xs) (false ∷ ys) b = one_more (same_or_less xs ys b.1)
  where
    one_more : (ys ≡ xs) ⊎ (unknown ys < unknown xs)
        → (false ∷ ys ≡ false ∷ xs) ⊎ (suc (unknown ys) < suc (unknown xs))
    one_more (inl e) = inl (ap (λ (zs : List Bool). false ∷ zs) e)
    one_more (inr lt) = inr (omega (arith, lt))

-- after n rounds, where at most n functions aren't known, the next tells nothing new
settled : (t : Tables) (n : ℕ) (known : List Bool) → IsBelow known (next_known t known)
    → unknown known ≤ n
    → next_known t (known_after t n known) ≡ known_after t n known
settled t zero known b le = by (same_or_less known (next_known t known) b)
  where
    by : (next_known t known ≡ known) ⊎ (unknown (next_known t known) < unknown known)
        → next_known t known ≡ known
    by (inl e) = e
    by (inr lt) = absurd (omega (arith, lt, le))
settled t (suc n) known b le = by (same_or_less known (next_known t known) b)
    (settled t n (next_known t known)
    (bodies_more t known (next_known t known) t.functions b))
  where
    by : (next_known t known ≡ known) ⊎ (unknown (next_known t known) < unknown known)
        → (unknown (next_known t known) ≤ n
        → next_known t (known_after t n (next_known t known))
        ≡ known_after t n (next_known t known))
        → next_known t (known_after t n (next_known t known))
        ≡ known_after t n (next_known t known)
    by (inl e) rest = subst (λ (k : List Bool). next_known t k ≡ k)
        (sym (ap (known_after t n) e ∙ rounds_stay t n known e)) e
    by (inr lt) rest = rest (omega (arith, lt, le))

pub storing_settled : (t : Tables) → next_known t (storing t) ≡ storing t
storing_settled t =
    settled t (length t.functions) (map (λ (f : FunctionTree). false) t.functions)
    (none_below (λ (f : FunctionTree). statements_store t
    (map (λ (f : FunctionTree). false) t.functions) f.body) t.functions)
    (unknown_all t.functions)

-- what stores is refused
store_is : (t : Tables) (known : List Bool) {p : Part} → IsStore p → part_stores t known p ≡ true
store_is t known (assigned e) = rw e refl
store_is t known (stepped e) = rw e refl
store_is t known made = refl
store_is t known freed = refl

pub known_from : (t : Tables) (name : List ℕ) (g : FunctionTree) (known : List Bool)
    → next_known t known ≡ known → function_named t name ≡ Some g
    → statements_store t known g.body ≡ true → is_known t known name ≡ true
known_from t name g known settled is h = by (index_of name (function_names t)) is
  where
    by : (o : Option ℕ) → option_and_then (slice_get t.functions) o ≡ Some g
        → option_map_or (λ i. unwrap_or (slice_get known i) false) o false ≡ true
    by None is = absurd (none-some g is)
    by (Some i) is =
        let at = at_place (λ (f : FunctionTree). statements_store t known f.body) t.functions i g
        is in
        let there : slice_get known i ≡ Some true =
        ap (λ (k : List Bool). slice_get k i) (sym settled) ∙ (at ∙ ap Some h) in
        ap (λ (o : Option Bool). unwrap_or o false) there

stores_known : (t : Tables) (known : List Bool) → next_known t known ≡ known
    → {f : FunctionTree} → Stores t f → statements_store t known f.body ≡ true
stores_known t known settled (itself d is) = in_statements t known d (store_is t known is)
stores_known t known settled (called {g = g} {name = name} d is h) =
    in_statements t known d
    (known_from t name.text g known settled is (stores_known t known settled h))

pub stores_to : (t : Tables) (f : FunctionTree) → Stores t f
    → statements_store t (storing t) f.body ≡ true
stores_to t f h = stores_known t (storing t) (storing_settled t) h
