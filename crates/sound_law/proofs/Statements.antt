-- A typed statement finds what it asks for, leaves a pool that fits, and the locals that the rules
-- know.
use Rattle.std.proofs.Common.{◌≡◌, ℕ, ℤ, pos, List, [], ◌∷◌, length, refl, sym}
use Rattle.std.proofs.Common.{subst}
use Rattle.std.specs.Prelude.{Option, None, Some}
use Rattle.std.specs.Option.{option_map_or}
use Rattle.c_tree.specs.ExprTree.{ExprTree}
use Rattle.c_tree.specs.StmtTree.{StmtTree, Statements, SimpleTree, FirstTree, DeclarationTree}
use Rattle.c_tree.specs.StmtTree.{TypeTree}
use Rattle.c_tree.specs.StmtTree as stmt
use Rattle.c_tree.specs.ItemTree.{FunctionTree}
use Rattle.c_types.specs.Tables.{Tables, declared_type}
use Rattle.c_types.specs.Expressions.{Scope}
use Rattle.c_types.specs.Statements.{inner_scopes, scopes_after, scopes_after_first}
use Rattle.pool_map.specs.PoolMap.{PoolMap}
use Rattle.pool_map.specs.Checks.{is_zero}
use Rattle.c_meaning.specs.Locals.{Local, scopes_of}
use Rattle.c_meaning.specs.Meaning.{Got, StmtEnd, Next, Broke, Again, Gave, Traps, Calls}
use Rattle.c_meaning.specs.Meaning.{value_of, declaration_end, return_end}
use Rattle.c_meaning.specs.Meaning.{end_of_first, end_of_third, condition_of, in_scope}
use Rattle.c_meaning.specs.Meaning.{end_of_stmt, ends_of}
use Rattle.lower.proofs.Sane.{IsSane}
use Rattle.rules_law.specs.typed.Programs.{IsWellTyped}
use Rattle.rules_law.specs.typed.Types.{StaticType}
use Rattle.rules_law.specs.typed.Expressions.{HasType}
use Rattle.rules_law.specs.typed.Statements.{IsDeclared, IsFirst, IsCondition, IsThird, IsReturned}
use Rattle.rules_law.specs.typed.Statements.{IsStatement, AreStatements}
use Rattle.rules_law.proofs.typed.Fitting.{declared_is}
use Rattle.sound_law.specs.Expressions.{Finds}
use Rattle.sound_law.specs.Statements.{OptionFinds, InitialFinds, FirstFinds}
use Rattle.sound_law.specs.Statements.{ThirdFinds, StmtFinds, StatementsFind}
use Rattle.sound_law.proofs.Fields.{written_small}
use Rattle.sound_law.proofs.Scopes.{type_moved}
use Rattle.sound_law.proofs.Expressions.{Fits, Leaves, AreSound, after_more, exp_sound}
use Rattle.sound_law.proofs.Ticks.{CallsFall, same, value_falls, condition_falls, third_below}
use Rattle.sound_law.proofs.Ticks.{scoped_below}
use Rattle.sound_law.proofs.Declared.{Over, over_same, one, Sees, sees_declared}
use Rattle.sound_law.proofs.Ends.{EndsAs, EndsOver, EndsWith, with_as, with_over, value_ends}
use Rattle.sound_law.proofs.Ends.{zero_ends, declared_ends, declared_next, scope_ends, turn_ends}
use Rattle.sound_law.proofs.Ends.{turn_next, turns_find, turns_end}
use Rattle.sound_law.proofs.Simple.{simple_sound, initial_sound}

-- the scopes of the locals after a statement that ends normally
abbrev declared_then : Tables → DeclarationTree → List Scope → List Scope
declared_then t d c = one d.name.text (declared_type t d.ty) ∷ c

abbrev scopes_then : Tables → StmtTree → List Scope → List Scope
scopes_then t (stmt.Declares d) c = declared_then t d c
scopes_then t stmt.Empty c = c
scopes_then t (stmt.Simple x) c = c
scopes_then t (stmt.Block all) c = c
scopes_then t (stmt.If e a) c = c
scopes_then t (stmt.IfElse e a b) c = c
scopes_then t (stmt.While place e a) c = c
scopes_then t (stmt.Do place a e) c = c
scopes_then t (stmt.For place first e third a) c = c
scopes_then t stmt.Break c = c
scopes_then t stmt.Continue c = c
scopes_then t (stmt.Return place e) c = c

abbrev first_then : Tables → Option FirstTree → List Scope → List Scope
first_then t None c = c
first_then t (Some (stmt.Declare d)) c = declared_then t d c
first_then t (Some (stmt.Simply x)) c = c

over_declared : (t : Tables) (d : DeclarationTree) (c : List Scope) (ls : List Local)
    → scopes_of ls ≡ declared_then t d c → Over c ls
over_declared t d c ls e =
    record { top = one d.name.text (declared_type t d.ty) ∷ []; split = e }

over_then : (t : Tables) (x : StmtTree) (c : List Scope) (ls : List Local)
    → scopes_of ls ≡ scopes_then t x c → Over c ls
over_then t (stmt.Declares d) c ls e = over_declared t d c ls e
over_then t stmt.Empty c ls e = over_same c ls e
over_then t (stmt.Simple x) c ls e = over_same c ls e
over_then t (stmt.Block all) c ls e = over_same c ls e
over_then t (stmt.If v a) c ls e = over_same c ls e
over_then t (stmt.IfElse v a b) c ls e = over_same c ls e
over_then t (stmt.While place v a) c ls e = over_same c ls e
over_then t (stmt.Do place a v) c ls e = over_same c ls e
over_then t (stmt.For place first v third a) c ls e = over_same c ls e
over_then t stmt.Break c ls e = over_same c ls e
over_then t stmt.Continue c ls e = over_same c ls e
over_then t (stmt.Return place v) c ls e = over_same c ls e

over_first : (t : Tables) (o : Option FirstTree) (c : List Scope) (ls : List Local)
    → scopes_of ls ≡ first_then t o c → Over c ls
over_first t None c ls e = over_same c ls e
over_first t (Some (stmt.Declare d)) c ls e = over_declared t d c ls e
over_first t (Some (stmt.Simply x)) c ls e = over_same c ls e

sees_new : (t : Tables) (s u : List Scope) (d : DeclarationTree) → IsDeclared t s d → Sees t s u
    → Sees t (scopes_after t (stmt.Declares d) s) (declared_then t d u)
sees_new t s u d h sees =
    sees_declared t d.name.text (declared_type t d.ty) h.1 s u h.0 (declared_is t d.ty h.1 h.2)
    (written_small t d.ty h.1 h.2) sees

sees_then : (t : Tables) (result : Option TypeTree) (x : StmtTree) (s u : List Scope)
    → IsStatement t result s x → Sees t s u → Sees t (scopes_after t x s) (scopes_then t x u)
sees_then t result (stmt.Declares d) s u h sees = sees_new t s u d h sees
sees_then t result stmt.Empty s u h sees = sees
sees_then t result (stmt.Simple x) s u h sees = sees
sees_then t result (stmt.Block all) s u h sees = sees
sees_then t result (stmt.If v a) s u h sees = sees
sees_then t result (stmt.IfElse v a b) s u h sees = sees
sees_then t result (stmt.While place v a) s u h sees = sees
sees_then t result (stmt.Do place a v) s u h sees = sees
sees_then t result (stmt.For place first v third a) s u h sees = sees
sees_then t result stmt.Break s u h sees = sees
sees_then t result stmt.Continue s u h sees = sees
sees_then t result (stmt.Return place v) s u h sees = sees

sees_inside : (t : Tables) (s u : List Scope) → Sees t s u → Sees t (inner_scopes s) u
sees_inside t s u h = record { same = λ name. h.same name; paired = tt; small = h.small }

-- the scopes inside a `for`
abbrev for_scopes : Tables → Option FirstTree → List Scope → List Scope
for_scopes t first s =
    option_map_or (λ f. scopes_after_first t f (inner_scopes s)) first (inner_scopes s)

sees_first : (t : Tables) (o : Option FirstTree) (s u : List Scope)
    → IsFirst t (inner_scopes s) o → Sees t s u → Sees t (for_scopes t o s) (first_then t o u)
sees_first t None s u h sees = sees_inside t s u sees
sees_first t (Some (stmt.Declare d)) s u h sees =
    sees_new t (inner_scopes s) u d h (sees_inside t s u sees)
sees_first t (Some (stmt.Simply x)) s u h sees = sees_inside t s u sees

module _ (t : Tables) (sane : IsSane t) (typed : IsWellTyped t) (calls : Calls)
    (found : FunctionTree → List ℤ → PoolMap → ℕ → Type 0)
    (sound : AreSound t sane typed calls found)
    (fall : CallsFall calls) where
  value_sound : (e : ExprTree) (x : StaticType) (s : List Scope) (ls : List Local) (p : PoolMap)
      (k : ℕ) → HasType t s e x → Sees t s (scopes_of ls) → Fits t p
      → Finds t calls found e ls p k × Leaves t (value_of t calls e ls p k)
  value_sound e x s ls p k h sees fits =
      exp_sound t sane typed calls found sound ls sees.small e x p k
      (type_moved t s (scopes_of ls) e x sees.same h) fits

  declaration_sound : (d : DeclarationTree) (s : List Scope) (ls : List Local) (p : PoolMap)
      (k : ℕ) → IsDeclared t s d → Sees t s (scopes_of ls) → Fits t p
      → InitialFinds t calls found d.initial ls p k
      × EndsAs t (scopes_of ls) (declared_then t d (scopes_of ls))
      (declaration_end t calls d ls p k)
  declaration_sound d s ls p k h sees fits =
      let r = initial_sound t sane typed calls found sound ls sees.small d.initial s h.1 p k h.3
      sees.same fits in (
        r.0,
        value_ends t (option_map_or (λ i. value_of t calls i.value ls p k) d.initial
            (Got (pos 0) p k)) _ (λ v p k. Fits t p)
            (EndsAs t (scopes_of ls) (declared_then t d (scopes_of ls))) (λ trap. tt) r.1
            (λ v p k fits. (refl, fits)),
      )

  first_sound : (o : Option FirstTree) (s : List Scope) (ls : List Local) (p : PoolMap) (k : ℕ)
      → IsFirst t s o → Sees t s (scopes_of ls) → Fits t p
      → FirstFinds t calls found o ls p k
      × EndsAs t (scopes_of ls) (first_then t o (scopes_of ls)) (end_of_first t calls o ls p k)
  first_sound None s ls p k h sees fits = (tt, (refl, fits))
  first_sound (Some (stmt.Declare d)) s ls p k h sees fits =
      declaration_sound d s ls p k h sees fits
  first_sound (Some (stmt.Simply x)) s ls p k h sees fits =
      let r = simple_sound t sane typed calls found sound ls sees.small x s p k h sees.same fits in
      (r.0, with_as t (scopes_of ls) (end_of_first t calls (Some (stmt.Simply x)) ls p k) r.1)

  third_sound : (o : Option SimpleTree) (s : List Scope) (ls : List Local) (p : PoolMap) (k : ℕ)
      → IsThird t s o → Sees t s (scopes_of ls) → Fits t p
      → ThirdFinds t calls found o ls p k
      × EndsWith t (scopes_of ls) (end_of_third t calls o ls p k)
  third_sound None s ls p k h sees fits = (tt, (refl, fits))
  third_sound (Some x) s ls p k h sees fits =
      simple_sound t sane typed calls found sound ls sees.small x s p k h sees.same fits

  condition_sound : (o : Option ExprTree) (s : List Scope) (ls : List Local) (p : PoolMap) (k : ℕ)
      → IsCondition t s o → Sees t s (scopes_of ls) → Fits t p
      → OptionFinds t calls found o ls p k × Leaves t (condition_of t calls o ls p k)
  condition_sound None s ls p k h sees fits = (tt, fits)
  condition_sound (Some e) s ls p k h sees fits = value_sound e h.0 s ls p k h.1 sees fits

  return_sound : (result : Option TypeTree) (o : Option ExprTree) (s c : List Scope)
      (ls : List Local) (p : PoolMap) (k : ℕ) → IsReturned t s result o → Sees t s (scopes_of ls)
      → Fits t p → OptionFinds t calls found o ls p k
      × EndsAs t c c (return_end t calls o ls p k)
  return_sound None None s c ls p k h sees fits = (tt, fits)
  return_sound None (Some e) s c ls p k h sees fits = absurd h
  return_sound (Some ty) None s c ls p k h sees fits = absurd h
  return_sound (Some ty) (Some e) s c ls p k h sees fits =
      let r = value_sound e h.1 s ls p k h.3 sees fits in (
        r.0,
        value_ends t (value_of t calls e ls p k) _ (λ v p k. Fits t p) (EndsAs t c c) (λ trap. tt)
            r.1 (λ v p k fits. fits),
      )

  -- the end of a body that is a scope of its own
  as_over : (c d : List Scope) (e : StmtEnd) → ((ls : List Local) → scopes_of ls ≡ d → Over c ls)
      → EndsAs t c d e → EndsOver t c e
  as_over c d (Next ls p k) over h = (over ls h.0, h.1)
  as_over c d (Broke ls p k) over h = h
  as_over c d (Again ls p k) over h = h
  as_over c d (Gave v p k) over h = h
  as_over c d (Traps trap) over h = tt

  scoped : (a : StmtTree) (c : List Scope) (ls : List Local) (p : PoolMap) (k : ℕ)
      → scopes_of ls ≡ c → StmtFinds t calls found a ls p k
      × EndsAs t (scopes_of ls) (scopes_then t a (scopes_of ls)) (end_of_stmt t calls a ls p k)
      → StmtFinds t calls found a ls p k
      × EndsWith t c (in_scope (length ls) (end_of_stmt t calls a ls p k))
  scoped a c ls p k is r = (
    r.0,
    subst (λ (d : List Scope). EndsWith t d (in_scope (length ls) (end_of_stmt t calls a ls p k)))
        is (scope_ends t ls (end_of_stmt t calls a ls p k)
        (as_over (scopes_of ls) (scopes_then t a (scopes_of ls)) (end_of_stmt t calls a ls p k)
        (λ ks e. over_then t a (scopes_of ls) ks e) r.1)),
  )

  moved : (s c : List Scope) (ls : List Local) → scopes_of ls ≡ c → Sees t s c
      → Sees t s (scopes_of ls)
  moved s c ls is sees = subst (λ (d : List Scope). Sees t s d) (sym is) sees

  third_kept : (o : Option SimpleTree) (s c : List Scope) (ls : List Local) (p : PoolMap) (k : ℕ)
      → scopes_of ls ≡ c → IsThird t s o → Sees t s c → Fits t p
      → ThirdFinds t calls found o ls p k × EndsWith t c (end_of_third t calls o ls p k)
  third_kept o s c ls p k is h sees fits =
      let r = third_sound o s ls p k h (moved s c ls is sees) fits in
      (r.0, subst (λ (d : List Scope). EndsWith t d (end_of_third t calls o ls p k)) is r.1)

  over_from : (c : List Scope) (ls : List Local) (e : StmtEnd) → scopes_of ls ≡ c
      → EndsWith t c e → EndsOver t (scopes_of ls) e
  over_from c ls e is h =
      subst (λ (d : List Scope). EndsOver t d e) (sym is) (with_over t c e h)

  mutual
    pub stmt_sound : (x : StmtTree) (result : Option TypeTree) (s : List Scope) (ls : List Local)
        (p : PoolMap) (k : ℕ) → IsStatement t result s x → Sees t s (scopes_of ls) → Fits t p
        → StmtFinds t calls found x ls p k
        × EndsAs t (scopes_of ls) (scopes_then t x (scopes_of ls)) (end_of_stmt t calls x ls p k)
    stmt_sound stmt.Empty result s ls p k h sees fits = (tt, (refl, fits))
    stmt_sound (stmt.Declares d) result s ls p k h sees fits =
        declaration_sound d s ls p k h sees fits
    stmt_sound (stmt.Simple x) result s ls p k h sees fits =
        let r =
        simple_sound t sane typed calls found sound ls sees.small x s p k h sees.same fits in
        (r.0, with_as t (scopes_of ls) (end_of_stmt t calls (stmt.Simple x) ls p k) r.1)
    stmt_sound (stmt.Block all) result s ls p k h sees fits =
        let r = statements_sound all result (inner_scopes s) ls p k h
        (sees_inside t s (scopes_of ls) sees) fits in (
          r.0,
          with_as t (scopes_of ls) (end_of_stmt t calls (stmt.Block all) ls p k)
              (scope_ends t ls (ends_of t calls all ls p k) r.1),
        )
    stmt_sound (stmt.If c a) result s ls p k h sees fits =
        let v = value_sound c h.0.0 s ls p k h.0.1 sees fits in
        let inner = sees_inside t s (scopes_of ls) sees in (
          (
            v.0,
            after_more (value_of t calls c ls p k) (λ v p k. Fits t p) _ v.1
                (λ v p k fits e. (stmt_sound a result (inner_scopes s) ls p k h.1 inner fits).0),
          ),
          with_as t (scopes_of ls) (end_of_stmt t calls (stmt.If c a) ls p k)
              (value_ends t (value_of t calls c ls p k) _ (λ v p k. Fits t p)
              (EndsWith t (scopes_of ls)) (λ trap. tt) v.1
              (λ v p k fits. zero_ends t (is_zero v) (Next ls p k) _ (EndsWith t (scopes_of ls))
              (refl, fits)
              (scoped a (scopes_of ls) ls p k refl
              (stmt_sound a result (inner_scopes s) ls p k h.1 inner fits)).1)),
        )
    stmt_sound (stmt.IfElse c a b) result s ls p k h sees fits =
        let v = value_sound c h.0.0 s ls p k h.0.1 sees fits in
        let inner = sees_inside t s (scopes_of ls) sees in (
          (
            v.0,
            after_more (value_of t calls c ls p k) (λ v p k. Fits t p) _ v.1
                (λ v p k fits. (
                  (λ e. (stmt_sound a result (inner_scopes s) ls p k h.1 inner fits).0),
                  (λ e. (stmt_sound b result (inner_scopes s) ls p k h.2 inner fits).0),
                )),
          ),
          with_as t (scopes_of ls) (end_of_stmt t calls (stmt.IfElse c a b) ls p k)
              (value_ends t (value_of t calls c ls p k) _ (λ v p k. Fits t p)
              (EndsWith t (scopes_of ls)) (λ trap. tt) v.1
              (λ v p k fits. zero_ends t (is_zero v) _ _ (EndsWith t (scopes_of ls))
              (scoped b (scopes_of ls) ls p k refl
              (stmt_sound b result (inner_scopes s) ls p k h.2 inner fits)).1
              (scoped a (scopes_of ls) ls p k refl
              (stmt_sound a result (inner_scopes s) ls p k h.1 inner fits)).1)),
        )
    stmt_sound (stmt.While place c a) result s ls p k h sees fits =
        let u = scopes_of ls in
        let tests = λ (ks : List Local) (p : PoolMap) (k : ℕ) (is : scopes_of ks ≡ u)
        (fits : Fits t p). value_sound c h.0.0 s ks p k h.0.1 (moved s u ks is sees) fits in
        let bodies = λ (ks : List Local) (p : PoolMap) (k : ℕ) (is : scopes_of ks ≡ u)
        (fits : Fits t p). scoped a u ks p k is (stmt_sound a result (inner_scopes s) ks p k h.1
        (sees_inside t s (scopes_of ks) (moved s u ks is sees)) fits) in (
          turns_find t u _ _ _ _ (λ ks p k. Next ks p k) (λ ks p k. Unit {0}) tests bodies
              (λ ks p k is fits. (tt, (is, fits)))
              (λ ks p k. value_falls t calls fall c ks p k)
              (λ ks p k. scoped_below t calls fall a ks p k) (λ ks p k. same k)
              k ls p k refl fits (same k),
          with_as t u (end_of_stmt t calls (stmt.While place c a) ls p k)
              (turns_end t u _ _ _ _ (λ ks p k. Next ks p k) (λ ks p k. Unit {0}) tests bodies
              (λ ks p k is fits. (tt, (is, fits))) k place ls p k refl fits),
        )
    stmt_sound (stmt.Do place a c) result s ls p k h sees fits =
        let u = scopes_of ls in
        let tests = λ (ks : List Local) (p : PoolMap) (k : ℕ) (is : scopes_of ks ≡ u)
        (fits : Fits t p). value_sound c h.1.0 s ks p k h.1.1 (moved s u ks is sees) fits in
        let bodies = λ (ks : List Local) (p : PoolMap) (k : ℕ) (is : scopes_of ks ≡ u)
        (fits : Fits t p). scoped a u ks p k is (stmt_sound a result (inner_scopes s) ks p k h.0
        (sees_inside t s (scopes_of ks) (moved s u ks is sees)) fits) in
        let round = bodies ls p k refl fits in
        let below = scoped_below t calls fall a ls p k in (
          (
            round.0,
            turn_next t u k (in_scope (length ls) (end_of_stmt t calls a ls p k)) _ round.1 below
                (λ ks p k is fits le. turns_find t u _ _ _ _ (λ ks p k. Next ks p k)
                (λ ks p k. Unit {0}) tests bodies (λ ks p k is fits. (tt, (is, fits)))
                (λ ks p k. value_falls t calls fall c ks p k)
                (λ ks p k. scoped_below t calls fall a ks p k) (λ ks p k. same k)
                k ks p k is fits (same k)),
          ),
          with_as t u (end_of_stmt t calls (stmt.Do place a c) ls p k)
              (turn_ends t u (in_scope (length ls) (end_of_stmt t calls a ls p k)) _ round.1
              (λ ks p k is fits. turns_end t u _ _ _ _ (λ ks p k. Next ks p k)
              (λ ks p k. Unit {0}) tests bodies (λ ks p k is fits. (tt, (is, fits)))
              k place ks p k is fits)),
        )
    stmt_sound (stmt.For place first c third a) result s ls p k h sees fits =
        let u = scopes_of ls in
        let inside = for_scopes t first s in
        let w = first_then t first u in
        let seen : Sees t inside w = sees_first t first s u h.0 sees in
        let f = first_sound first (inner_scopes s) ls p k h.0 (sees_inside t s u sees) fits in
        let tests = λ (ks : List Local) (p : PoolMap) (k : ℕ) (is : scopes_of ks ≡ w)
        (fits : Fits t p). condition_sound c inside ks p k h.1 (moved inside w ks is seen) fits in
        let bodies = λ (ks : List Local) (p : PoolMap) (k : ℕ) (is : scopes_of ks ≡ w)
        (fits : Fits t p). scoped a w ks p k is (stmt_sound a result inside ks p k h.3
        (moved inside w ks is seen) fits) in
        let thirds = λ (ks : List Local) (p : PoolMap) (k : ℕ) (is : scopes_of ks ≡ w)
        (fits : Fits t p). third_kept third inside w ks p k is h.2 seen fits in (
          (
            f.0,
            declared_next t u w (end_of_first t calls first ls p k) _ f.1
                (λ ks p k is fits. turns_find t w _ _ _ _ _ _ tests bodies thirds
                (λ ks p k. condition_falls t calls fall c ks p k)
                (λ ks p k. scoped_below t calls fall a ks p k)
                (λ ks p k. third_below t calls fall third ks p k) k ks p k is fits (same k)),
          ),
          with_as t u (end_of_stmt t calls (stmt.For place first c third a) ls p k)
              (scope_ends t ls _ (declared_ends t u w (end_of_first t calls first ls p k) _
              (λ ks e. over_first t first u ks e) f.1
              (λ ks p k is fits. over_from w ks _ is
              (turns_end t w _ _ _ _ _ _ tests bodies thirds k place ks p k is fits)))),
        )
    stmt_sound stmt.Break result s ls p k h sees fits =
        (tt, (over_same (scopes_of ls) ls refl, fits))
    stmt_sound stmt.Continue result s ls p k h sees fits =
        (tt, (over_same (scopes_of ls) ls refl, fits))
    stmt_sound (stmt.Return place e) result s ls p k h sees fits =
        return_sound result e s (scopes_of ls) ls p k h sees fits

    pub statements_sound : (xs : Statements) (result : Option TypeTree) (s : List Scope)
        (ls : List Local) (p : PoolMap) (k : ℕ) → AreStatements t result s xs
        → Sees t s (scopes_of ls) → Fits t p → StatementsFind t calls found xs ls p k
        × EndsOver t (scopes_of ls) (ends_of t calls xs ls p k)
    statements_sound stmt.Nothing result s ls p k h sees fits =
        (tt, (over_same (scopes_of ls) ls refl, fits))
    statements_sound (stmt.Then x xs) result s ls p k h sees fits =
        let u = scopes_of ls in
        let r = stmt_sound x result s ls p k h.0 sees fits in
        let later = sees_then t result x s u h.0 sees in (
          (
            r.0,
            declared_next t u (scopes_then t x u) (end_of_stmt t calls x ls p k) _ r.1
                (λ ks p k is fits. (statements_sound xs result (scopes_after t x s) ks p k h.1
                (moved (scopes_after t x s) (scopes_then t x u) ks is later) fits).0),
          ),
          declared_ends t u (scopes_then t x u) (end_of_stmt t calls x ls p k) _
              (λ ks e. over_then t x u ks e) r.1
              (λ ks p k is fits. (statements_sound xs result (scopes_after t x s) ks p k h.1
              (moved (scopes_after t x s) (scopes_then t x u) ks is later) fits).1),
        )
