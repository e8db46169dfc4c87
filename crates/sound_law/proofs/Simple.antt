-- A typed assignment, call or free finds what it asks for, leaves a pool that fits, and changes no
-- name and no type of a local.
use Rattle.std.proofs.Common.{◌≡◌, ℕ, ℤ, pos, List, refl, subst}
use Rattle.std.specs.Prelude.{Option, None, Some, Result, Ok, Err}
use Rattle.std.specs.Option.{option_map_or}
use Rattle.std.proofs.lemmas.Option.{none-some, same_Some}
use Rattle.c_tree.specs.ExprTree.{ExprTree}
use Rattle.c_tree.specs.ExprTree as expr
use Rattle.c_tree.specs.StmtTree.{SimpleTree, InitialTree}
use Rattle.c_tree.specs.StmtTree as stmt
use Rattle.c_tree.specs.ItemTree.{FunctionTree}
use Rattle.c_tree.specs.declared.expr.IntType.{IntType}
use Rattle.c_tree.specs.declared.expr.IntType.TheVariants.{Signed}
use Rattle.c_tree.specs.declared.expr.BinaryOp.{BinaryOp}
use Rattle.c_tree.specs.declared.expr.BinaryOp.TheVariants as binary
use Rattle.c_tree.specs.declared.stmt.AssignOp.TheVariants as assign
use Rattle.c_tree.specs.declared.stmt.StepOp.TheVariants as step
use Rattle.c_tree.specs.Operators.{update_binary}
use Rattle.c_types.specs.Tables.{Tables}
use Rattle.c_types.specs.Expressions.{Scope, sides_type}
use Rattle.c_types.specs.Shapes.{shapes_in}
use Rattle.pool_map.specs.declared.trap.TrapKind.{TrapKind}
use Rattle.pool_map.specs.declared.trap.TrapKind.TheVariants as trap
use Rattle.pool_map.specs.PoolMap.{PoolMap, free}
use Rattle.pool_map.specs.Checks.{then_on}
use Rattle.c_meaning.specs.declared.trap_at.TrapAt.{TrapAt}
use Rattle.pool_map.specs.declared.word.PoolWord.{PoolWord}
use Rattle.c_meaning.specs.Locals.{Local, scopes_of, value_named}
use Rattle.c_meaning.specs.Access.{target_field, struct_pointed_by}
use Rattle.c_meaning.specs.Operators.{binary_of}
use Rattle.c_meaning.specs.Meaning.{Out, Got, StmtEnd, Calls, with_value}
use Rattle.c_meaning.specs.Meaning.{value_of, pointer_of, operands_of, stored_end, assign_to}
use Rattle.c_meaning.specs.Meaning.{update, target_local, freed, loaded, or_trap, end_of_simple}
use Rattle.c_meaning.specs.Meaning.{placed_trap, at_place, located}
use Rattle.lower.proofs.Sane.{IsSane}
use Rattle.rules_law.specs.typed.Programs.{IsWellTyped}
use Rattle.rules_law.specs.typed.Types.{StaticType, Number, PointerTo, value_type}
use Rattle.rules_law.specs.typed.Expressions.{HasType}
use Rattle.rules_law.specs.typed.Statements.{IsAssignable, IsSimple, IsInitial}
use Rattle.rules_law.proofs.typed.TypedExpressions.{typed_is}
use Rattle.sound_law.specs.Places.{IsLocal, FindsWord}
use Rattle.sound_law.specs.Expressions.{Past, Finds, FindsOperands}
use Rattle.sound_law.specs.Statements.{SetFinds, UpdateFinds, SimpleFinds, InitialFinds}
use Rattle.sound_law.proofs.Pools.{store_fits, free_fits}
use Rattle.sound_law.proofs.Fields.{small_numbered, points_to}
use Rattle.sound_law.proofs.Scopes.{AreSmall, IsSame, is_local, type_small, type_moved}
use Rattle.sound_law.proofs.Scopes.{passed_moved}
use Rattle.sound_law.proofs.Expressions.{Fits, Leaves, AreSound, after_do, after_more}
use Rattle.sound_law.proofs.Expressions.{loaded_leaves, or_trap_leaves, element_finds}
use Rattle.sound_law.proofs.Expressions.{root_value_finds, arrow_value_finds, exp_sound, call_sound}
use Rattle.sound_law.proofs.Expressions.{pointer_sound}
use Rattle.sound_law.proofs.Declared.{assigned_scopes}
use Rattle.sound_law.proofs.Ends.{EndsWith, value_ends}

some_none : {A : Type 0} (x : A) → Some x ≡ None → ⊥
some_none x e = cc

module _ (t : Tables) (sane : IsSane t) (typed : IsWellTyped t) (calls : Calls)
    (found : FunctionTree → List ℤ → PoolMap → ℕ → Type 0)
    (sound : AreSound t sane typed calls found)
    (ls : List Local) (small : AreSmall t (scopes_of ls)) where
  -- the word of a target is there in every pool that fits
  abbrev IsTarget : ExprTree → ℤ × Option ℤ → Type 0
  IsTarget target o = (p : PoolMap) → Fits t p → FindsWord t ls p (target_field target) o.0 o.1

  operands_sound : (target : ExprTree) (x : StaticType) (p : PoolMap) (k : ℕ) → IsAssignable target
      → target_local target ≡ None → HasType t (scopes_of ls) target x → Fits t p
      → FindsOperands t calls found target ls p k
      × Past (operands_of t calls target ls p k) (λ o p k. Fits t p × IsTarget target o)
  operands_sound (expr.Root name) x p k good is h fits = (
    tt,
    (
      fits,
      (λ p fits. root_value_finds t sane typed calls found sound ls small name x p (pos 0) h fits),
    ),
  )
  operands_sound (expr.Arrow base place name) x p k good is h fits =
      let b =
      exp_sound t sane typed calls found sound ls small base (PointerTo h.0) p k h.1 fits in (
        b.0,
        after_do (value_of t calls base ls p k) _ (λ v p k. Fits t p)
            (λ o p k. Fits t p × IsTarget (expr.Arrow base place name) o) b.1
            (λ v p k fits. (
              fits,
              (λ p fits. arrow_value_finds t sane typed calls found sound ls small base place name x
                  p v
                  h fits),
            )),
      )
  operands_sound (expr.Index a place i) x p k good is h fits =
      let b = pointer_sound t sane typed calls found sound ls small a x p k h.0 fits in (
        (
          b.0,
          after_more (pointer_of t calls a ls p k) (λ v p k. Fits t p)
              (λ v p k. Finds t calls found i ls p k) b.1
              (λ v p k fits.
              (exp_sound t sane typed calls found sound ls small i (Number h.1) p k h.2 fits).0),
        ),
        after_do (pointer_of t calls a ls p k) _ (λ v p k. Fits t p)
            (λ o p k. Fits t p × IsTarget (expr.Index a place i) o) b.1
            (λ v p k fits. after_do (value_of t calls i ls p k) _ (λ j p k. Fits t p)
            (λ o p k. Fits t p × IsTarget (expr.Index a place i) o)
            (exp_sound t sane typed calls found sound ls small i (Number h.1) p k h.2 fits).1
            (λ j p k fits. (
              fits,
              (λ p fits. element_finds t sane typed calls found sound ls small a x p v j h.0 fits),
            ))),
      )
  operands_sound (expr.Variable name) x p k good is h fits = absurd (some_none name.text is)
  operands_sound (expr.Number n) x p k good is h fits = absurd good
  operands_sound expr.Null x p k good is h fits = absurd good
  operands_sound (expr.Call name all) x p k good is h fits = absurd good
  operands_sound (expr.New place name) x p k good is h fits = absurd good
  operands_sound (expr.Unary op place a) x p k good is h fits = absurd good
  operands_sound (expr.Binary op place a b) x p k good is h fits = absurd good
  operands_sound (expr.Conditional c place a b) x p k good is h fits = absurd good

  target_there : (target : ExprTree) (name : List ℕ) (x : StaticType)
      → target_local target ≡ Some name → HasType t (scopes_of ls) target x → IsLocal name ls
  target_there (expr.Variable y) name x is h =
      subst (λ (n : List ℕ). IsLocal n ls) (same_Some y.text name is)
      (is_local y.text ls (value_type x) h)
  target_there (expr.Number n) name x is h = absurd (none-some name is)
  target_there expr.Null name x is h = absurd (none-some name is)
  target_there (expr.Call y all) name x is h = absurd (none-some name is)
  target_there (expr.Root y) name x is h = absurd (none-some name is)
  target_there (expr.New place y) name x is h = absurd (none-some name is)
  target_there (expr.Arrow base place y) name x is h = absurd (none-some name is)
  target_there (expr.Index a place i) name x is h = absurd (none-some name is)
  target_there (expr.Unary op place a) name x is h = absurd (none-some name is)
  target_there (expr.Binary op place a b) name x is h = absurd (none-some name is)
  target_there (expr.Conditional c place a b) name x is h = absurd (none-some name is)

  abbrev Ends : StmtEnd → Type 0
  Ends e = EndsWith t (scopes_of ls) e

  stored_ends : (r : Result PoolWord TrapAt) (v : ℤ) (p : PoolMap) (k : ℕ) → Fits t p
      → Ends (stored_end r v ls p k)
  stored_ends (Ok w) v p k fits = (refl, store_fits (shapes_in t) p w v fits)
  stored_ends (Err trap) v p k fits = tt

  value_then : {A : Type 0} (o : Out A) (go : A → PoolMap → ℕ → StmtEnd)
      (P : A → PoolMap → ℕ → Type 0) → Past o P
      → ((a : A) (p : PoolMap) (k : ℕ) → P a p k → Ends (go a p k)) → Ends (with_value o go)
  value_then o go P h next = value_ends t o go P (EndsWith t (scopes_of ls)) (λ trap. tt) h next

  set_sound : (o : Option (List ℕ)) (target e : ExprTree) (x y : StaticType) (p : PoolMap) (k : ℕ)
      → target_local target ≡ o → IsAssignable target → HasType t (scopes_of ls) target x
      → HasType t (scopes_of ls) e y → Fits t p → SetFinds t calls found o target e ls p k
      × Ends (assign_to t calls o target (λ p k. value_of t calls e ls p k) ls p k)
  set_sound (Some name) target e x y p k is good h g fits =
      let v = exp_sound t sane typed calls found sound ls small e y p k g fits in (
        (target_there target name x is h, v.0),
        value_then (value_of t calls e ls p k) _ (λ v p k. Fits t p) v.1
            (λ v p k fits. (assigned_scopes name v ls, fits)),
      )
  set_sound None target e x y p k is good h g fits =
      let o = operands_sound target x p k good is h fits in (
        (
          o.0,
          after_more (operands_of t calls target ls p k) (λ o p k. Fits t p × IsTarget target o) _
              o.1
              (λ o p k there. (
                (exp_sound t sane typed calls found sound ls small e y p k g there.0).0,
                after_more (value_of t calls e ls p k) (λ v p k. Fits t p) _
                    (exp_sound t sane typed calls found sound ls small e y p k g there.0).1
                    (λ v p k fits. there.1 p fits),
              )),
        ),
        value_then (operands_of t calls target ls p k) _
            (λ o p k. Fits t p × IsTarget target o) o.1
            (λ o p k there. value_then (value_of t calls e ls p k) _ (λ v p k. Fits t p)
            (exp_sound t sane typed calls found sound ls small e y p k g there.0).1
            (λ v p k fits. stored_ends (located t ls p target o.0 o.1) v p k fits)),
      )

  update_sound : (o : Option (List ℕ)) (target : ExprTree) (op : BinaryOp) (int : IntType)
      (place : ℕ) (right : PoolMap → ℕ → Out ℤ) (Right : PoolMap → ℕ → Type 0) (x : StaticType)
      (p : PoolMap) (k : ℕ) → target_local target ≡ o → IsAssignable target
      → HasType t (scopes_of ls) target x
      → ((p : PoolMap) (k : ℕ) → Fits t p → Right p k × Leaves t (right p k)) → Fits t p
      → UpdateFinds t calls found o target op int place right Right ls p k
      × Ends (update t calls o target op int place right ls p k)
  update_sound (Some name) target op int place right Right x p k is good h each fits = (
    (target_there target name x is h, (each p k fits).0),
    value_then (right p k) _ (λ v p k. Fits t p) (each p k fits).1
        (λ y p k fits. value_then
        (or_trap (binary_of op int (value_named name ls) y) (placed_trap trap.Divide place) p k) _
        (λ v p k. Fits t p)
        (or_trap_leaves t (binary_of op int (value_named name ls) y)
        (placed_trap trap.Divide place) p k
        fits)
        (λ v p k fits. (assigned_scopes name v ls, fits))),
  )
  update_sound None target op int place right Right x p k is good h each fits =
      let o = operands_sound target x p k good is h fits in (
        (
          o.0,
          after_more (operands_of t calls target ls p k) (λ o p k. Fits t p × IsTarget target o) _
              o.1
              (λ o p k there. (
                there.1 p there.0,
                after_more (loaded (located t ls p target o.0 o.1) p k)
                    (λ v p k. Fits t p) _
                    (loaded_leaves t (located t ls p target o.0 o.1) p k there.0)
                    (λ x p k fits. (
                      (each p k fits).0,
                      after_more (right p k) (λ v p k. Fits t p) _ (each p k fits).1
                          (λ y p k fits. after_more
                          (or_trap (binary_of op int x y) (placed_trap trap.Divide place) p k)
                          (λ v p k. Fits t p) _
                          (or_trap_leaves t (binary_of op int x y)
                          (placed_trap trap.Divide place) p k fits)
                          (λ v p k fits. there.1 p fits)),
                    )),
              )),
        ),
        value_then (operands_of t calls target ls p k) _
            (λ o p k. Fits t p × IsTarget target o) o.1
            (λ o p k there. value_then
            (loaded (located t ls p target o.0 o.1) p k) _ (λ v p k. Fits t p)
            (loaded_leaves t (located t ls p target o.0 o.1) p k there.0)
            (λ x p k fits. value_then (right p k) _ (λ v p k. Fits t p) (each p k fits).1
            (λ y p k fits. value_then
            (or_trap (binary_of op int x y) (placed_trap trap.Divide place) p k) _
            (λ v p k. Fits t p)
            (or_trap_leaves t (binary_of op int x y) (placed_trap trap.Divide place) p k fits)
            (λ v p k fits. stored_ends (located t ls p target o.0 o.1) v p k fits)))),
      )

  freed_ends : (place : ℕ) (r : Result ℕ TrapKind) (p : PoolMap) (k : ℕ) → Fits t p
      → Ends (freed (at_place place (then_on r (λ s. Ok (free p s)))) ls k)
  freed_ends place (Ok s) p k fits = (refl, free_fits (shapes_in t) p s fits)
  freed_ends place (Err kind) p k fits = tt

  pub simple_sound : (x : SimpleTree) (s : List Scope) (p : PoolMap) (k : ℕ) → IsSimple t s x
      → IsSame s (scopes_of ls) → Fits t p → SimpleFinds t calls found x ls p k
      × Ends (end_of_simple t calls x ls p k)
  simple_sound (stmt.Assign target assign.Set place e) s p k h same fits =
      set_sound (target_local target) target e h.1 h.2 p k refl h.0
      (type_moved t s (scopes_of ls) target h.1 same h.3)
      (type_moved t s (scopes_of ls) e h.2 same h.4) fits
  simple_sound (stmt.Assign target (assign.Update op) place e) s p k h same fits =
      update_sound (target_local target) target (update_binary op)
      (sides_type t (scopes_of ls) (update_binary op) target e) place
      (λ p k. value_of t calls e ls p k) (λ p k. Finds t calls found e ls p k) h.1 p k refl h.0
      (type_moved t s (scopes_of ls) target h.1 same h.3)
      (λ p k fits. exp_sound t sane typed calls found sound ls small e h.2 p k
      (type_moved t s (scopes_of ls) e h.2 same h.4) fits) fits
  simple_sound (stmt.Step target step.Up place) s p k h same fits =
      update_sound (target_local target) target binary.Add Signed place
      (λ p k. Got (pos 1) p k) (λ p k. Unit {0}) (Number h.1) p k refl h.0
      (type_moved t s (scopes_of ls) target (Number h.1) same h.2) (λ p k fits. (tt, fits)) fits
  simple_sound (stmt.Step target step.Down place) s p k h same fits =
      update_sound (target_local target) target binary.Sub Signed place
      (λ p k. Got (pos 1) p k) (λ p k. Unit {0}) (Number h.1) p k refl h.0
      (type_moved t s (scopes_of ls) target (Number h.1) same h.2) (λ p k fits. (tt, fits)) fits
  simple_sound (stmt.Call name all) s p k h same fits =
      let r = call_sound t sane typed calls found sound ls small name all h.0 p k h.1
      (passed_moved t s (scopes_of ls) h.0.parameters all same h.3) fits in (
        r.0,
        value_then (value_of t calls (expr.Call name all) ls p k) _ (λ v p k. Fits t p) r.1
            (λ v p k fits. (refl, fits)),
      )
  simple_sound (stmt.Free place e) s p k h same fits =
      let has = type_moved t s (scopes_of ls) e (PointerTo h.0) same h.1 in
      let r = exp_sound t sane typed calls found sound ls small e (PointerTo h.0) p k has fits in (
        (
          r.0,
          small_numbered t sane typed h.0 (struct_pointed_by t ls e)
              (points_to t sane typed ls e h.0 (typed_is t (scopes_of ls) e (PointerTo h.0) has))
              (type_small t ls e (PointerTo h.0) small has),
        ),
        value_then (value_of t calls e ls p k) _ (λ v p k. Fits t p) r.1
            (λ v p k fits. freed_ends place _ p k fits),
      )
  simple_sound (stmt.Abort place) s p k h same fits = (tt, tt)

  -- an initial value, and a value that may be absent
  pub initial_sound : (o : Option InitialTree) (s : List Scope) (x : StaticType) (p : PoolMap)
      (k : ℕ) → IsInitial t s x o → IsSame s (scopes_of ls) → Fits t p
      → InitialFinds t calls found o ls p k
      × Leaves t (option_map_or (λ i. value_of t calls i.value ls p k) o (Got (pos 0) p k))
  initial_sound None s x p k h same fits = (tt, fits)
  initial_sound (Some i) s x p k h same fits =
      exp_sound t sane typed calls found sound ls small i.value h.0 p k
      (type_moved t s (scopes_of ls) i.value h.0 same h.1) fits
