-- A typed expression finds what it asks for, and leaves a pool that fits.
use Rattle.std.proofs.Common.{◌≡◌, ℕ, zero, suc, ℤ, pos, Bool, true, false, List, [], ◌∷◌, length}
use Rattle.std.proofs.Common.{refl, sym, ap, subst}
use Rattle.std.specs.Prelude.{Option, None, Some, Result, Ok, Err, slice_get, if◌then◌else◌}
use Rattle.c_tree.specs.ExprTree.{ExprTree, Arguments, Ident}
use Rattle.c_tree.specs.ExprTree as expr
use Rattle.c_tree.specs.ItemTree.{FunctionTree, ParameterTree}
use Rattle.c_tree.specs.declared.expr.IntType.{IntType}
use Rattle.c_tree.specs.declared.expr.BinaryOp.{BinaryOp}
use Rattle.c_tree.specs.declared.expr.BinaryOp.TheVariants as binary
use Rattle.c_types.specs.Expressions.{sides_type}
use Rattle.c_types.specs.Tables.{Tables, function_named}
use Rattle.c_types.specs.Shapes.{shapes_in}
use Rattle.pool_map.specs.declared.trap.TrapKind.TheVariants as trap
use Rattle.pool_map.specs.PoolMap.{PoolMap}
use Rattle.pool_map.specs.PoolFits.{PoolFits}
use Rattle.pool_map.specs.Checks.{is_zero}
use Rattle.c_meaning.specs.declared.trap_at.TrapAt.{TrapAt}
use Rattle.pool_map.specs.declared.word.PoolWord.{PoolWord}
use Rattle.c_meaning.specs.Locals.{Local, scopes_of}
use Rattle.c_meaning.specs.Meaning.{Out, Got, Stops, Calls, then_do, tick, or_trap, loaded, strict}
use Rattle.c_meaning.specs.Meaning.{at_zero, both, either, binary_means, called, value_of}
use Rattle.c_meaning.specs.Meaning.{values_of, pointer_of, placed_trap, located}
use Rattle.c_meaning.specs.Operators.{binary_of}
use Rattle.lower.proofs.Sane.{IsSane}
use Rattle.rules_law.specs.typed.Programs.{IsWellTyped}
use Rattle.rules_law.specs.typed.Types.{StaticType, Number, PointerTo, value_type}
use Rattle.rules_law.specs.typed.Expressions.{HasType, IsArray, ArePassed}
use Rattle.rules_law.proofs.typed.TypedExpressions.{typed_is}
use Rattle.rules_law.proofs.typed.Known.{function_at}
use Rattle.sound_law.specs.Places.{FindsWord}
use Rattle.sound_law.specs.Expressions.{Past, AfterTick, goes_right, Finds, FindsPointer, FindsAll}
use Rattle.sound_law.proofs.Fields.{single, many, root_finds, arrow_finds, new_leaves, new_numbered}
use Rattle.sound_law.proofs.Scopes.{AreSmall, is_local, type_small}

pub after_do : {A B : Type 0} (o : Out A) (go : A → PoolMap → ℕ → Out B)
    (P : A → PoolMap → ℕ → Type 0) (Q : B → PoolMap → ℕ → Type 0) → Past o P
    → ((a : A) (p : PoolMap) (k : ℕ) → P a p k → Past (go a p k) Q) → Past (then_do o go) Q
after_do (Got a p k) go P Q h next = next a p k h
after_do (Stops trap) go P Q h next = tt

pub after_more : {A : Type 0} (o : Out A) (P Q : A → PoolMap → ℕ → Type 0) → Past o P
    → ((a : A) (p : PoolMap) (k : ℕ) → P a p k → Q a p k) → Past o Q
after_more (Got a p k) P Q h next = next a p k h
after_more (Stops trap) P Q h next = tt

pub tick_after : {A : Type 0} (stop : TrapAt) (k : ℕ) (go : ℕ → Out A)
    (Q : A → PoolMap → ℕ → Type 0) → ((k : ℕ) → Past (go k) Q) → Past (tick k (Stops stop) go) Q
tick_after stop zero go Q next = tt
tick_after stop (suc k) go Q next = next k

pub after_tick : (k : ℕ) (Q : ℕ → Type 0) → ((k : ℕ) → Q k) → AfterTick k Q
after_tick zero Q next = tt
after_tick (suc k) Q next = next k

module _ (t : Tables) where
  -- the pool fits
  abbrev pub Fits : PoolMap → Type 0
  Fits p = PoolFits (shapes_in t) p

  -- the outcome's pool fits
  abbrev pub Leaves : {A : Type 0} → Out A → Type 0
  Leaves o = Past o (λ a p k. Fits p)

  pub loaded_leaves : (r : Result PoolWord TrapAt) (p : PoolMap) (k : ℕ) → Fits p
      → Leaves (loaded r p k)
  loaded_leaves (Ok w) p k fits = fits
  loaded_leaves (Err trap) p k fits = tt

  pub or_trap_leaves : (o : Option ℤ) (stop : TrapAt) (p : PoolMap) (k : ℕ) → Fits p
      → Leaves (or_trap o stop p k)
  or_trap_leaves None stop p k fits = tt
  or_trap_leaves (Some v) stop p k fits = fits

  strict_leaves : (op : BinaryOp) (n : IntType) (place : ℕ) (a : Out ℤ)
      (b : PoolMap → ℕ → Out ℤ) → Leaves a
      → ((p : PoolMap) (k : ℕ) → Fits p → Leaves (b p k)) → Leaves (strict op n place a b)
  strict_leaves op n place a b left right =
      after_do a _ (λ v p k. Fits p) (λ v p k. Fits p) left
      (λ x p k fits. after_do (b p k) _ (λ v p k. Fits p) (λ v p k. Fits p) (right p k fits)
      (λ y p k fits. or_trap_leaves (binary_of op n x y) (placed_trap trap.Divide place) p k fits))

  zero_leaves : (c : Bool) (a b : Out ℤ) → Leaves a → Leaves b → Leaves (if c then a else b)
  zero_leaves true a b left right = left
  zero_leaves false a b left right = right

  truth_leaves : (b : Out ℤ) → Leaves b
      → Leaves (then_do b (λ y p k. Got (at_zero y (pos 0) (pos 1)) p k))
  truth_leaves b h = after_do b _ (λ v p k. Fits p) (λ v p k. Fits p) h (λ y p k fits. fits)

  both_leaves : (a : Out ℤ) (b : PoolMap → ℕ → Out ℤ) → Leaves a
      → ((p : PoolMap) (k : ℕ) → Fits p → Leaves (b p k)) → Leaves (both a b)
  both_leaves a b left right = after_do a _ (λ v p k. Fits p) (λ v p k. Fits p) left
      (λ x p k fits. zero_leaves (is_zero x) (Got (pos 0) p k) _ fits
      (truth_leaves (b p k) (right p k fits)))

  either_leaves : (a : Out ℤ) (b : PoolMap → ℕ → Out ℤ) → Leaves a
      → ((p : PoolMap) (k : ℕ) → Fits p → Leaves (b p k)) → Leaves (either a b)
  either_leaves a b left right = after_do a _ (λ v p k. Fits p) (λ v p k. Fits p) left
      (λ x p k fits. zero_leaves (is_zero x) _ (Got (pos 1) p k)
      (truth_leaves (b p k) (right p k fits)) fits)

  binary_leaves : (op : BinaryOp) (n : IntType) (place : ℕ) (a : Out ℤ)
      (b : PoolMap → ℕ → Out ℤ) → Leaves a
      → ((p : PoolMap) (k : ℕ) → Fits p → Leaves (b p k)) → Leaves (binary_means op n place a b)
  binary_leaves binary.Both n place a b left right = both_leaves a b left right
  binary_leaves binary.Either n place a b left right = either_leaves a b left right
  binary_leaves binary.Mul n place a b left right = strict_leaves binary.Mul n place a b left right
  binary_leaves binary.Div n place a b left right = strict_leaves binary.Div n place a b left right
  binary_leaves binary.Rem n place a b left right = strict_leaves binary.Rem n place a b left right
  binary_leaves binary.Add n place a b left right = strict_leaves binary.Add n place a b left right
  binary_leaves binary.Sub n place a b left right = strict_leaves binary.Sub n place a b left right
  binary_leaves binary.ShiftLeft n place a b left right =
      strict_leaves binary.ShiftLeft n place a b left right
  binary_leaves binary.ShiftRight n place a b left right =
      strict_leaves binary.ShiftRight n place a b left right
  binary_leaves binary.Less n place a b left right =
      strict_leaves binary.Less n place a b left right
  binary_leaves binary.LessEqual n place a b left right =
      strict_leaves binary.LessEqual n place a b left right
  binary_leaves binary.Greater n place a b left right =
      strict_leaves binary.Greater n place a b left right
  binary_leaves binary.GreaterEqual n place a b left right =
      strict_leaves binary.GreaterEqual n place a b left right
  binary_leaves binary.Equal n place a b left right =
      strict_leaves binary.Equal n place a b left right
  binary_leaves binary.NotEqual n place a b left right =
      strict_leaves binary.NotEqual n place a b left right
  binary_leaves binary.And n place a b left right = strict_leaves binary.And n place a b left right
  binary_leaves binary.Xor n place a b left right = strict_leaves binary.Xor n place a b left right
  binary_leaves binary.Or n place a b left right = strict_leaves binary.Or n place a b left right

  module _ (sane : IsSane t) (typed : IsWellTyped t) (calls : Calls)
      (found : FunctionTree → List ℤ → PoolMap → ℕ → Type 0) where
    -- each function, called with its arguments, finds what it asks for
    abbrev pub AreSound : Type 0
    AreSound = (place i : ℕ) (f : FunctionTree) (vs : List ℤ) (p : PoolMap) (k : ℕ)
        → slice_get t.functions i ≡ Some f → length vs ≡ length f.parameters → Fits p
        → found f vs p k × Leaves (calls place f vs p k)

    module _ (sound : AreSound) (ls : List Local) (small : AreSmall t (scopes_of ls)) where
      pub element_finds : (e : ExprTree) (x : StaticType) (p : PoolMap) (b j : ℤ)
          → IsArray t (scopes_of ls) e x → Fits p → FindsWord t ls p e b (Some j)
      element_finds (expr.Root name) x p b j h fits =
          root_finds t sane typed h.0 name ls p b (Some j) h.1 (many t h.0 name.text x j h.2) fits
      element_finds (expr.Arrow base place name) x p b j h fits =
          arrow_finds t sane typed h.0 base place name ls p b (Some j)
          (typed_is t (scopes_of ls) base (PointerTo h.0) h.1)
          (type_small t ls base (PointerTo h.0) small h.1) (many t h.0 name.text x j h.2) fits
      element_finds (expr.Number n) x p b j h fits = absurd h
      element_finds expr.Null x p b j h fits = absurd h
      element_finds (expr.Variable name) x p b j h fits = absurd h
      element_finds (expr.Call name all) x p b j h fits = absurd h
      element_finds (expr.New place name) x p b j h fits = absurd h
      element_finds (expr.Index base place index) x p b j h fits = absurd h
      element_finds (expr.Unary op place a) x p b j h fits = absurd h
      element_finds (expr.Binary op place a c) x p b j h fits = absurd h
      element_finds (expr.Conditional c place a d) x p b j h fits = absurd h

      pub root_value_finds : (name : Ident) (x : StaticType) (p : PoolMap) (b : ℤ)
          → HasType t (scopes_of ls) (expr.Root name) x → Fits p
          → FindsWord t ls p (expr.Root name) b None
      root_value_finds name x p b h fits =
          root_finds t sane typed h.0 name ls p b None h.1 (single t h.0 name.text x h.2) fits

      pub arrow_value_finds : (base : ExprTree) (place : ℕ) (name : Ident) (x : StaticType)
          (p : PoolMap) (b : ℤ) → HasType t (scopes_of ls) (expr.Arrow base place name) x → Fits p
          → FindsWord t ls p (expr.Arrow base place name) b None
      arrow_value_finds base place name x p b h fits =
          arrow_finds t sane typed h.0 base place name ls p b None
          (typed_is t (scopes_of ls) base (PointerTo h.0) h.1)
          (type_small t ls base (PointerTo h.0) small h.1) (single t h.0 name.text x h.2) fits

      -- a call of a function that is there
      abbrev Passed : FunctionTree → Arguments → PoolMap → ℕ → Type 0
      Passed f all p k = FindsAll t calls found all ls p k × Past (values_of t calls all ls p k)
          (λ vs p k. (length vs ≡ length f.parameters) × Fits p)

      call_from : (name : Ident) (all : Arguments) (f : FunctionTree) (p : PoolMap) (k : ℕ)
          → function_named t name.text ≡ Some f → Passed f all p k
          → Finds t calls found (expr.Call name all) ls p k
          × Leaves (value_of t calls (expr.Call name all) ls p k)
      call_from name all f p k named r =
          let at = function_at t name.text f named in (
            (
              f,
              named,
              r.0,
              after_more (values_of t calls all ls p k)
                  (λ vs p k. (length vs ≡ length f.parameters) × Fits p)
                  (λ vs p k. AfterTick k (λ k. found f vs p k)) r.1
                  (λ vs p k h. after_tick k (λ k. found f vs p k)
                  (λ k. (sound name.place at.0 f vs p k at.1 h.0 h.1).0)),
            ),
            subst (λ (o : Option FunctionTree). Leaves (called calls name.place o
                (λ f. values_of t calls all ls p k) p k)) (sym named)
                (after_do (values_of t calls all ls p k) _
                (λ vs p k. (length vs ≡ length f.parameters) × Fits p) (λ v p k. Fits p) r.1
                (λ vs p k h. tick_after (placed_trap trap.Steps name.place) k
                (λ k. calls name.place f vs p k) (λ v p k. Fits p)
                (λ k. (sound name.place at.0 f vs p k at.1 h.0 h.1).1))),
          )

      mutual
        pub exp_sound : (e : ExprTree) (x : StaticType) (p : PoolMap) (k : ℕ)
            → HasType t (scopes_of ls) e x → Fits p
            → Finds t calls found e ls p k × Leaves (value_of t calls e ls p k)
        exp_sound (expr.Number n) x p k h fits = (tt, fits)
        exp_sound expr.Null x p k h fits = (tt, fits)
        exp_sound (expr.Variable name) x p k h fits = (is_local name.text ls (value_type x) h, fits)
        exp_sound (expr.Root name) x p k h fits = (
          root_value_finds name x p (pos 0) h fits,
          loaded_leaves (located t ls p (expr.Root name) (pos 0) None) p k fits,
        )
        exp_sound (expr.New place name) x p k h fits =
            (new_numbered t sane typed name x h, new_leaves t sane typed name x p h fits)
        exp_sound (expr.Arrow base place name) x p k h fits =
            let b = exp_sound base (PointerTo h.0) p k h.1 fits in (
              (
                b.0,
                after_more (value_of t calls base ls p k) (λ v p k. Fits p)
                    (λ v p k. FindsWord t ls p (expr.Arrow base place name) v None) b.1
                    (λ v p k fits. arrow_value_finds base place name x p v h fits),
              ),
              after_do (value_of t calls base ls p k) _ (λ v p k. Fits p) (λ v p k. Fits p) b.1
                  (λ v p k fits. loaded_leaves (located t ls p (expr.Arrow base place name) v
                  None) p k fits),
            )
        exp_sound (expr.Index a place i) x p k h fits =
            let b = pointer_sound a x p k h.0 fits in (
              (
                b.0,
                after_more (pointer_of t calls a ls p k) (λ v p k. Fits p)
                    (λ v p k. Finds t calls found i ls p k × Past (value_of t calls i ls p k)
                    (λ j p k. FindsWord t ls p a v (Some j))) b.1
                    (λ v p k fits. (
                      (exp_sound i (Number h.1) p k h.2 fits).0,
                      after_more (value_of t calls i ls p k) (λ v p k. Fits p)
                          (λ j p k. FindsWord t ls p a v (Some j))
                          (exp_sound i (Number h.1) p k h.2 fits).1
                          (λ j p k fits. element_finds a x p v j h.0 fits),
                    )),
              ),
              after_do (pointer_of t calls a ls p k) _ (λ v p k. Fits p) (λ v p k. Fits p) b.1
                  (λ v p k fits. after_do (value_of t calls i ls p k) _ (λ v p k. Fits p)
                  (λ v p k. Fits p) (exp_sound i (Number h.1) p k h.2 fits).1
                  (λ j p k fits. loaded_leaves (located t ls p (expr.Index a place i) v (Some j))
                  p k fits)),
            )
        exp_sound (expr.Unary op place a) x p k h fits =
            let r = exp_sound a h.0 p k h.1 fits in (
              r.0,
              after_do (value_of t calls a ls p k) _ (λ v p k. Fits p) (λ v p k. Fits p) r.1
                  (λ v p k fits. fits),
            )
        exp_sound (expr.Binary op place a b) x p k h fits =
            let r = exp_sound a h.0 p k h.2 fits in (
              (
                r.0,
                after_more (value_of t calls a ls p k) (λ v p k. Fits p)
                    (λ v p k. goes_right op v ≡ true → Finds t calls found b ls p k) r.1
                    (λ v p k fits e. (exp_sound b h.1 p k h.3 fits).0),
              ),
              binary_leaves op (sides_type t (scopes_of ls) op a b) place
                  (value_of t calls a ls p k)
                  (λ p k. value_of t calls b ls p k) r.1
                  (λ p k fits. (exp_sound b h.1 p k h.3 fits).1),
            )
        exp_sound (expr.Conditional c place a b) x p k h fits =
            let r = exp_sound c h.0 p k h.1 fits in (
              (
                r.0,
                after_more (value_of t calls c ls p k) (λ v p k. Fits p)
                    (λ v p k. (is_zero v ≡ false → Finds t calls found a ls p k)
                    × (is_zero v ≡ true → Finds t calls found b ls p k)) r.1
                    (λ v p k fits. (
                      (λ e. (exp_sound a h.2 p k h.4 fits).0),
                      (λ e. (exp_sound b h.3 p k h.5 fits).0),
                    )),
              ),
              after_do (value_of t calls c ls p k) _ (λ v p k. Fits p) (λ v p k. Fits p) r.1
                  (λ v p k fits. zero_leaves (is_zero v) (value_of t calls b ls p k)
                  (value_of t calls a ls p k) (exp_sound b h.3 p k h.5 fits).1
                  (exp_sound a h.2 p k h.4 fits).1),
            )
        exp_sound (expr.Call name all) x p k h fits =
            call_from name all h.0 p k h.4 (all_sound h.0.parameters all p k h.6 fits)

        pub pointer_sound : (e : ExprTree) (x : StaticType) (p : PoolMap) (k : ℕ)
            → IsArray t (scopes_of ls) e x → Fits p
            → FindsPointer t calls found e ls p k × Leaves (pointer_of t calls e ls p k)
        pointer_sound (expr.Root name) x p k h fits = (tt, fits)
        pointer_sound (expr.Arrow base place name) x p k h fits =
            exp_sound base (PointerTo h.0) p k h.1 fits
        pointer_sound (expr.Number n) x p k h fits = absurd h
        pointer_sound expr.Null x p k h fits = absurd h
        pointer_sound (expr.Variable name) x p k h fits = absurd h
        pointer_sound (expr.Call name all) x p k h fits = absurd h
        pointer_sound (expr.New place name) x p k h fits = absurd h
        pointer_sound (expr.Index base place index) x p k h fits = absurd h
        pointer_sound (expr.Unary op place a) x p k h fits = absurd h
        pointer_sound (expr.Binary op place a b) x p k h fits = absurd h
        pointer_sound (expr.Conditional c place a b) x p k h fits = absurd h

        all_sound : (ps : List ParameterTree) (all : Arguments) (p : PoolMap) (k : ℕ)
            → ArePassed t (scopes_of ls) ps all → Fits p
            → FindsAll t calls found all ls p k × Past (values_of t calls all ls p k)
            (λ vs p k. (length vs ≡ length ps) × Fits p)
        all_sound [] expr.None p k h fits = (tt, (refl, fits))
        all_sound [] (expr.More first e rest) p k h fits = absurd h
        all_sound (q ∷ ps) expr.None p k h fits = absurd h
        all_sound (q ∷ ps) (expr.More first e rest) p k h fits =
            let r = exp_sound e h.2 p k h.4 fits in (
              (
                r.0,
                after_more (value_of t calls e ls p k) (λ v p k. Fits p)
                    (λ v p k. FindsAll t calls found rest ls p k) r.1
                    (λ v p k fits. (all_sound ps rest p k h.0 fits).0),
              ),
              after_do (value_of t calls e ls p k) _ (λ v p k. Fits p)
                  (λ vs p k. (length vs ≡ length (q ∷ ps)) × Fits p) r.1
                  (λ v p k fits. after_do (values_of t calls rest ls p k) _
                  (λ vs p k. (length vs ≡ length ps) × Fits p)
                  (λ vs p k. (length vs ≡ length (q ∷ ps)) × Fits p)
                  (all_sound ps rest p k h.0 fits).1
                  (λ vs p k h. (ap suc h.0, h.1))),
            )

      pub call_sound : (name : Ident) (all : Arguments) (f : FunctionTree) (p : PoolMap) (k : ℕ)
          → function_named t name.text ≡ Some f → ArePassed t (scopes_of ls) f.parameters all
          → Fits p → Finds t calls found (expr.Call name all) ls p k
          × Leaves (value_of t calls (expr.Call name all) ls p k)
      call_sound name all f p k named passed fits =
          call_from name all f p k named (all_sound f.parameters all p k passed fits)
