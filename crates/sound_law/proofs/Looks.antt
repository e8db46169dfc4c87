-- What doesn't store leaves the pool as it was.
use Rattle.std.proofs.Common.{◌≡◌, ℕ, zero, suc, ℤ, pos, Bool, true, false, List, [], length, refl}
use Rattle.std.proofs.Common.{sym, ◌∙◌, subst}
use Rattle.std.specs.Prelude.{◌||◌, not, Option, None, Some, Result, Ok, Err, if◌then◌else◌}
use Rattle.std.specs.Option.{option_map_or}
use Rattle.std.proofs.lemmas.Bool.{false≢true}
use Rattle.c_tree.specs.ExprTree.{ExprTree, Arguments, Ident}
use Rattle.c_tree.specs.ExprTree as expr
use Rattle.c_tree.specs.StmtTree.{StmtTree, Statements, SimpleTree, FirstTree, DeclarationTree}
use Rattle.c_tree.specs.StmtTree.{InitialTree}
use Rattle.c_tree.specs.StmtTree as stmt
use Rattle.c_tree.specs.ItemTree.{FunctionTree}
use Rattle.c_tree.specs.Operators.{update_binary}
use Rattle.c_tree.specs.declared.expr.IntType.{IntType}
use Rattle.c_tree.specs.declared.expr.IntType.TheVariants.{Signed}
use Rattle.c_tree.specs.declared.expr.BinaryOp.{BinaryOp}
use Rattle.c_tree.specs.declared.expr.BinaryOp.TheVariants as binary
use Rattle.c_tree.specs.declared.stmt.AssignOp.{AssignOp}
use Rattle.c_tree.specs.declared.stmt.AssignOp.TheVariants as assign
use Rattle.c_tree.specs.declared.stmt.StepOp.{StepOp}
use Rattle.c_tree.specs.declared.stmt.StepOp.TheVariants as step
use Rattle.c_types.specs.Expressions.{sides_type}
use Rattle.c_types.specs.Tables.{Tables, function_named}
use Rattle.c_types.specs.Looking.{is_known, is_variable, exp_stores, arguments_store, value_stores}
use Rattle.c_types.specs.Looking.{simple_stores, declaration_stores, first_stores, statement_stores}
use Rattle.c_types.specs.Looking.{statements_store, next_known, storing}
use Rattle.pool_map.specs.PoolMap.{PoolMap}
use Rattle.pool_map.specs.Checks.{is_zero}
use Rattle.pool_map.specs.declared.trap.TrapKind.TheVariants as trap
use Rattle.pool_map.specs.declared.word.PoolWord.{PoolWord}
use Rattle.c_meaning.specs.declared.trap_at.TrapAt.{TrapAt}
use Rattle.c_meaning.specs.Locals.{Local, scopes_of, value_named, bound}
use Rattle.c_meaning.specs.Operators.{binary_of}
use Rattle.c_meaning.specs.Meaning.{Out, Got, Stops, StmtEnd, Next, Broke, Again, Gave, Traps}
use Rattle.c_meaning.specs.Meaning.{Calls, then_do, with_value, then_next, after_turn, in_scope}
use Rattle.c_meaning.specs.Meaning.{given, tick, at_zero, or_trap, loaded, located, strict, both}
use Rattle.c_meaning.specs.Meaning.{either, binary_means, called, value_of, values_of, pointer_of}
use Rattle.c_meaning.specs.Meaning.{assign_to, update, target_local, assign_end, steps}
use Rattle.c_meaning.specs.Meaning.{end_of_simple}
use Rattle.c_meaning.specs.Meaning.{declaration_end, end_of_first, end_of_third, condition_of}
use Rattle.c_meaning.specs.Meaning.{return_end, turns, end_of_stmt, ends_of, function_value}
use Rattle.c_meaning.specs.Meaning.{calls_of, placed_trap}
use Rattle.c_meaning.specs.Transaction.{outcome, run_transaction}
use Rattle.rules_law.specs.rules.Stores.{Stores}
use Rattle.rules_law.proofs.rules.Storing.{known_from, storing_settled, stores_from}
use Rattle.sound_law.specs.Expressions.{Past}
use Rattle.sound_law.specs.Law.{LeavesSame, LooksLaw}
use Rattle.sound_law.proofs.Laws.{numbered_stands}

never : {C : Type 0} → true ≡ false → C
never h = absurd (false≢true (sym h))

neither : (b c : Bool) → b || c ≡ false → (b ≡ false) × (c ≡ false)
neither true c e = never e
neither false c e = (refl, e)

-- with this pool

module _ (w : PoolMap) where
  abbrev Stays : {A : Type 0} → Out A → Type 0
  Stays o = Past o (λ a p k. p ≡ w)

  and_then : {A B : Type 0} (o : Out A) (go : A → PoolMap → ℕ → Out B) → Stays o
      → ((a : A) (p : PoolMap) (k : ℕ) → p ≡ w → Stays (go a p k)) → Stays (then_do o go)
  and_then (Got a p k) go h next = next a p k h
  and_then (Stops stop) go h next = tt

  tick_stays : {A : Type 0} (stop : TrapAt) (k : ℕ) (go : ℕ → Out A)
      → ((k : ℕ) → Stays (go k)) → Stays (tick k (Stops stop) go)
  tick_stays stop zero go next = tt
  tick_stays stop (suc k) go next = next k

  loaded_stays : (r : Result PoolWord TrapAt) (p : PoolMap) (k : ℕ) → p ≡ w
      → Stays (loaded r p k)
  loaded_stays (Ok word) p k same = same
  loaded_stays (Err stop) p k same = tt

  or_trap_stays : (o : Option ℤ) (stop : TrapAt) (p : PoolMap) (k : ℕ) → p ≡ w
      → Stays (or_trap o stop p k)
  or_trap_stays None stop p k same = tt
  or_trap_stays (Some v) stop p k same = same

  zero_stays : (c : Bool) (a b : Out ℤ) → Stays a → Stays b → Stays (if c then a else b)
  zero_stays true a b left right = left
  zero_stays false a b left right = right

  truth_stays : (b : Out ℤ) → Stays b
      → Stays (then_do b (λ y p k. Got (at_zero y (pos 0) (pos 1)) p k))
  truth_stays b h = and_then b _ h (λ y p k same. same)

  module _ (a : Out ℤ) (b : PoolMap → ℕ → Out ℤ) (left : Stays a)
      (right : (p : PoolMap) (k : ℕ) → p ≡ w → Stays (b p k)) where
    strict_stays : (op : BinaryOp) (n : IntType) (place : ℕ) → Stays (strict op n place a b)
    strict_stays op n place =
        and_then a _ left (λ x p k same. and_then (b p k) _ (right p k same)
        (λ y q j still.
        or_trap_stays (binary_of op n x y) (placed_trap trap.Divide place) q j still))

    both_stays : Stays (both a b)
    both_stays = and_then a _ left (λ x p k same. zero_stays (is_zero x) (Got (pos 0) p k) _ same
        (truth_stays (b p k) (right p k same)))

    either_stays : Stays (either a b)
    either_stays = and_then a _ left (λ x p k same. zero_stays (is_zero x) _ (Got (pos 1) p k)
        (truth_stays (b p k) (right p k same)) same)

    binary_stays : (op : BinaryOp) (n : IntType) (place : ℕ) → Stays (binary_means op n place a b)
    binary_stays binary.Both n place = both_stays
    binary_stays binary.Either n place = either_stays
    binary_stays binary.Mul n place = strict_stays binary.Mul n place
    binary_stays binary.Div n place = strict_stays binary.Div n place
    binary_stays binary.Rem n place = strict_stays binary.Rem n place
    binary_stays binary.Add n place = strict_stays binary.Add n place
    binary_stays binary.Sub n place = strict_stays binary.Sub n place
    binary_stays binary.ShiftLeft n place = strict_stays binary.ShiftLeft n place
    binary_stays binary.ShiftRight n place = strict_stays binary.ShiftRight n place
    binary_stays binary.Less n place = strict_stays binary.Less n place
    binary_stays binary.LessEqual n place = strict_stays binary.LessEqual n place
    binary_stays binary.Greater n place = strict_stays binary.Greater n place
    binary_stays binary.GreaterEqual n place = strict_stays binary.GreaterEqual n place
    binary_stays binary.Equal n place = strict_stays binary.Equal n place
    binary_stays binary.NotEqual n place = strict_stays binary.NotEqual n place
    binary_stays binary.And n place = strict_stays binary.And n place
    binary_stays binary.Xor n place = strict_stays binary.Xor n place
    binary_stays binary.Or n place = strict_stays binary.Or n place

  -- ends of statements

  abbrev EndStays : StmtEnd → Type 0
  EndStays (Next ls p k) = p ≡ w
  EndStays (Broke ls p k) = p ≡ w
  EndStays (Again ls p k) = p ≡ w
  EndStays (Gave v p k) = p ≡ w
  EndStays (Traps stop) = Unit {0}

  value_stays : {A : Type 0} (o : Out A) (go : A → PoolMap → ℕ → StmtEnd) → Stays o
      → ((a : A) (p : PoolMap) (k : ℕ) → p ≡ w → EndStays (go a p k))
      → EndStays (with_value o go)
  value_stays (Got a p k) go h next = next a p k h
  value_stays (Stops stop) go h next = tt

  zero_end : (c : Bool) (a b : StmtEnd) → EndStays a → EndStays b
      → EndStays (if c then a else b)
  zero_end true a b left right = left
  zero_end false a b left right = right

  next_stays : (e : StmtEnd) (go : List Local → PoolMap → ℕ → StmtEnd) → EndStays e
      → ((ls : List Local) (p : PoolMap) (k : ℕ) → p ≡ w → EndStays (go ls p k))
      → EndStays (then_next e go)
  next_stays (Next ls p k) go h next = next ls p k h
  next_stays (Broke ls p k) go h next = h
  next_stays (Again ls p k) go h next = h
  next_stays (Gave v p k) go h next = h
  next_stays (Traps stop) go h next = tt

  turn_stays : (e : StmtEnd) (go : List Local → PoolMap → ℕ → StmtEnd) → EndStays e
      → ((ls : List Local) (p : PoolMap) (k : ℕ) → p ≡ w → EndStays (go ls p k))
      → EndStays (after_turn e go)
  turn_stays (Next ls p k) go h next = next ls p k h
  turn_stays (Again ls p k) go h next = next ls p k h
  turn_stays (Broke ls p k) go h next = h
  turn_stays (Gave v p k) go h next = h
  turn_stays (Traps stop) go h next = tt

  scope_stays : (n : ℕ) (e : StmtEnd) → EndStays e → EndStays (in_scope n e)
  scope_stays n (Next ls p k) h = h
  scope_stays n (Broke ls p k) h = h
  scope_stays n (Again ls p k) h = h
  scope_stays n (Gave v p k) h = h
  scope_stays n (Traps stop) h = tt

  given_stays : (e : StmtEnd) → EndStays e → Stays (given e)
  given_stays (Next ls p k) h = h
  given_stays (Broke ls p k) h = h
  given_stays (Again ls p k) h = h
  given_stays (Gave v p k) h = h
  given_stays (Traps stop) h = tt

  tick_end : (stop : TrapAt) (k : ℕ) (go : ℕ → StmtEnd) → ((k : ℕ) → EndStays (go k))
      → EndStays (tick k (Traps stop) go)
  tick_end stop zero go next = tt
  tick_end stop (suc k) go next = next k

  -- a loop whose parts leave the pool
  module _ (test : List Local → PoolMap → ℕ → Out ℤ)
      (body third : List Local → PoolMap → ℕ → StmtEnd)
      (tests : (ls : List Local) (p : PoolMap) (k : ℕ) → p ≡ w → Stays (test ls p k))
      (bodies : (ls : List Local) (p : PoolMap) (k : ℕ) → p ≡ w → EndStays (body ls p k))
      (thirds : (ls : List Local) (p : PoolMap) (k : ℕ) → p ≡ w → EndStays (third ls p k)) where
    turns_stay : (n place : ℕ) (ls : List Local) (p : PoolMap) (k : ℕ) → p ≡ w
        → EndStays (turns n place test body third ls p k)
    turns_stay zero place ls p k same = tt
    turns_stay (suc n) place ls p k same = tick_end (placed_trap trap.Steps place) k _ (λ k.
        value_stays (test ls p k) _ (tests ls p k same)
        (λ v p k same. zero_end (is_zero v) (Next ls p k) _ same
        (turn_stays (body ls p k) _ (bodies ls p k same)
        (λ ls p k same. next_stays (third ls p k) _ (thirds ls p k same)
        (λ ls p k same. turns_stay n place ls p k same)))))

  -- parts of a function that doesn't store, by what is known of those that it calls

  module _ (t : Tables) (known : List Bool) (settled : next_known t known ≡ known)
      (calls : Calls)
      (keeps : (place : ℕ) (g : FunctionTree) (vs : List ℤ) (p : PoolMap) (k : ℕ)
      → statements_store t known g.body ≡ false → p ≡ w → Stays (calls place g vs p k)) where
    not_stored : (name : List ℕ) (g : FunctionTree) (b : Bool)
        → statements_store t known g.body ≡ b → function_named t name ≡ Some g
        → is_known t known name ≡ false → b ≡ false
    not_stored name g true is named none =
        never (sym (known_from t name g known settled named is) ∙ none)
    not_stored name g false is named none = refl

    call_stays : (name : Ident) (all : Arguments) (ls : List Local) (p : PoolMap) (k : ℕ)
        → is_known t known name.text ≡ false → Stays (values_of t calls all ls p k) → p ≡ w
        → Stays (value_of t calls (expr.Call name all) ls p k)
    call_stays name all ls p k none values same = by_name (function_named t name.text) refl
      where
        by_name : (o : Option FunctionTree) → function_named t name.text ≡ o
            → Stays (called calls name.place o (λ f. values_of t calls all ls p k) p k)
        by_name None named = same
        by_name (Some g) named =
            and_then (values_of t calls all ls p k) _ values (λ vs q j still.
            tick_stays (placed_trap trap.Steps name.place) j _ (λ i.
            keeps name.place g vs q i
            (not_stored name.text g (statements_store t known g.body) refl named none) still))

    mutual
      exp_stays : (e : ExprTree) (ls : List Local) (p : PoolMap) (k : ℕ)
          → exp_stores t known e ≡ false → p ≡ w → Stays (value_of t calls e ls p k)
      exp_stays (expr.Number n) ls p k none same = same
      exp_stays expr.Null ls p k none same = same
      exp_stays (expr.Variable name) ls p k none same = same
      exp_stays (expr.New place name) ls p k none same = never none
      exp_stays (expr.Root name) ls p k none same =
          loaded_stays (located t ls p (expr.Root name) (pos 0) None) p k same
      exp_stays (expr.Arrow base place name) ls p k none same =
          and_then (value_of t calls base ls p k) _ (exp_stays base ls p k none same)
          (λ b q j still.
          loaded_stays (located t ls q (expr.Arrow base place name) b None) q j still)
      exp_stays (expr.Index a place i) ls p k none same =
          let parts = neither (exp_stores t known a) (exp_stores t known i) none in
          and_then (pointer_of t calls a ls p k) _ (pointer_stays a ls p k parts.0 same)
          (λ b q j still. and_then (value_of t calls i ls q j) _
          (exp_stays i ls q j parts.1 still) (λ n r m yet.
          loaded_stays (located t ls r (expr.Index a place i) b (Some n)) r m yet))
      exp_stays (expr.Unary op place a) ls p k none same =
          and_then (value_of t calls a ls p k) _ (exp_stays a ls p k none same)
          (λ x q j still. still)
      exp_stays (expr.Binary op place a b) ls p k none same =
          let parts = neither (exp_stores t known a) (exp_stores t known b) none in
          binary_stays (value_of t calls a ls p k) (λ p k. value_of t calls b ls p k)
          (exp_stays a ls p k parts.0 same) (λ q j still. exp_stays b ls q j parts.1 still) op
          (sides_type t (scopes_of ls) op a b) place
      exp_stays (expr.Conditional c place a b) ls p k none same =
          let parts = neither (exp_stores t known c)
          (exp_stores t known a || exp_stores t known b) none in
          let sides = neither (exp_stores t known a) (exp_stores t known b) parts.1 in
          and_then (value_of t calls c ls p k) _ (exp_stays c ls p k parts.0 same)
          (λ x q j still. zero_stays (is_zero x) (value_of t calls b ls q j)
          (value_of t calls a ls q j) (exp_stays b ls q j sides.1 still)
          (exp_stays a ls q j sides.0 still))
      exp_stays (expr.Call name all) ls p k none same =
          let parts = neither (is_known t known name.text) (arguments_store t known all) none in
          call_stays name all ls p k parts.0 (values_stay all ls p k parts.1 same) same

      pointer_stays : (e : ExprTree) (ls : List Local) (p : PoolMap) (k : ℕ)
          → exp_stores t known e ≡ false → p ≡ w → Stays (pointer_of t calls e ls p k)
      pointer_stays (expr.Arrow base place name) ls p k none same = exp_stays base ls p k none same
      pointer_stays (expr.Root name) ls p k none same = same
      pointer_stays (expr.Number n) ls p k none same = same
      pointer_stays expr.Null ls p k none same = same
      pointer_stays (expr.Variable name) ls p k none same = same
      pointer_stays (expr.Call name all) ls p k none same = same
      pointer_stays (expr.New place name) ls p k none same = same
      pointer_stays (expr.Index a place i) ls p k none same = same
      pointer_stays (expr.Unary op place a) ls p k none same = same
      pointer_stays (expr.Binary op place a b) ls p k none same = same
      pointer_stays (expr.Conditional c place a b) ls p k none same = same

      values_stay : (all : Arguments) (ls : List Local) (p : PoolMap) (k : ℕ)
          → arguments_store t known all ≡ false → p ≡ w → Stays (values_of t calls all ls p k)
      values_stay expr.None ls p k none same = same
      values_stay (expr.More first e rest) ls p k none same =
          let parts = neither (exp_stores t known e) (arguments_store t known rest) none in
          and_then (value_of t calls e ls p k) _ (exp_stays e ls p k parts.0 same)
          (λ v q j still. and_then (values_of t calls rest ls q j) _
          (values_stay rest ls q j parts.1 still) (λ vs r m yet. yet))

    -- a target that isn't stored to is a local
    target_is : (target : ExprTree) → not (is_variable target) ≡ false
        → (name : List ℕ) × (target_local target ≡ Some name)
    target_is (expr.Variable name) none = (name.text, refl)
    target_is (expr.Number n) none = never none
    target_is expr.Null none = never none
    target_is (expr.Call name all) none = never none
    target_is (expr.Root name) none = never none
    target_is (expr.New place name) none = never none
    target_is (expr.Arrow base place name) none = never none
    target_is (expr.Index a place i) none = never none
    target_is (expr.Unary op place a) none = never none
    target_is (expr.Binary op place a b) none = never none
    target_is (expr.Conditional c place a b) none = never none

    module _ (target : ExprTree) (place : ℕ) (ls : List Local) (p : PoolMap) (k : ℕ)
        (local : not (is_variable target) ≡ false) where
      update_stays : (op : BinaryOp) (int : IntType) (right : PoolMap → ℕ → Out ℤ)
          → Stays (right p k)
          → EndStays (update t calls (target_local target) target op int place right ls p k)
      update_stays op int right h =
          let named = target_is target local in
          subst (λ (o : Option (List ℕ)).
          EndStays (update t calls o target op int place right ls p k)) (sym named.1)
          (value_stays (right p k) _ h (λ y q j still.
          value_stays (or_trap (binary_of op int (value_named named.0 ls) y)
          (placed_trap trap.Divide place) q j) _
          (or_trap_stays (binary_of op int (value_named named.0 ls) y)
          (placed_trap trap.Divide place) q j still) (λ v r m yet. yet)))

      assign_stays : (op : AssignOp) (e : ExprTree) → exp_stores t known e ≡ false → p ≡ w
          → EndStays (assign_end t calls op place target e ls p k)
      assign_stays assign.Set e none same =
          let named = target_is target local in
          subst (λ (o : Option (List ℕ)). EndStays (assign_to t calls o target
          (λ p k. value_of t calls e ls p k) ls p k)) (sym named.1)
          (value_stays (value_of t calls e ls p k) _ (exp_stays e ls p k none same)
          (λ v q j still. still))
      assign_stays (assign.Update op) e none same =
          update_stays (update_binary op)
          (sides_type t (scopes_of ls) (update_binary op) target e)
          (λ p k. value_of t calls e ls p k)
          (exp_stays e ls p k none same)

      step_stays : (op : StepOp) → p ≡ w → EndStays (steps t calls op place target ls p k)
      step_stays step.Up same = update_stays binary.Add Signed (λ p k. Got (pos 1) p k) same
      step_stays step.Down same = update_stays binary.Sub Signed (λ p k. Got (pos 1) p k) same

    simple_stays : (x : SimpleTree) (ls : List Local) (p : PoolMap) (k : ℕ)
        → simple_stores t known x ≡ false → p ≡ w → EndStays (end_of_simple t calls x ls p k)
    simple_stays (stmt.Assign target op place e) ls p k none same =
        let parts = neither (not (is_variable target)) (exp_stores t known e) none in
        assign_stays target place ls p k parts.0 op e parts.1 same
    simple_stays (stmt.Step target op place) ls p k none same =
        step_stays target place ls p k none op same
    simple_stays (stmt.Call name all) ls p k none same =
        value_stays (value_of t calls (expr.Call name all) ls p k) _
        (exp_stays (expr.Call name all) ls p k none same) (λ v q j still. still)
    simple_stays (stmt.Free place e) ls p k none same = never none
    simple_stays (stmt.Abort place) ls p k none same = tt

    initial_stays : (o : Option InitialTree) (ls : List Local) (p : PoolMap) (k : ℕ)
        → option_map_or (λ (i : InitialTree). exp_stores t known i.value) o false ≡ false → p ≡ w
        → Stays (option_map_or (λ (i : InitialTree). value_of t calls i.value ls p k) o
        (Got (pos 0) p k))
    initial_stays None ls p k none same = same
    initial_stays (Some i) ls p k none same = exp_stays i.value ls p k none same

    declaration_stays : (d : DeclarationTree) (ls : List Local) (p : PoolMap) (k : ℕ)
        → declaration_stores t known d ≡ false → p ≡ w
        → EndStays (declaration_end t calls d ls p k)
    declaration_stays d ls p k none same =
        value_stays (option_map_or (λ (i : InitialTree). value_of t calls i.value ls p k)
        d.initial (Got (pos 0) p k)) _ (initial_stays d.initial ls p k none same)
        (λ v q j still. still)

    first_stays : (o : Option FirstTree) (ls : List Local) (p : PoolMap) (k : ℕ)
        → option_map_or (first_stores t known) o false ≡ false → p ≡ w
        → EndStays (end_of_first t calls o ls p k)
    first_stays None ls p k none same = same
    first_stays (Some (stmt.Declare d)) ls p k none same = declaration_stays d ls p k none same
    first_stays (Some (stmt.Simply x)) ls p k none same = simple_stays x ls p k none same

    third_stays : (o : Option SimpleTree) (ls : List Local) (p : PoolMap) (k : ℕ)
        → option_map_or (simple_stores t known) o false ≡ false → p ≡ w
        → EndStays (end_of_third t calls o ls p k)
    third_stays None ls p k none same = same
    third_stays (Some x) ls p k none same = simple_stays x ls p k none same

    condition_stays : (o : Option ExprTree) (ls : List Local) (p : PoolMap) (k : ℕ)
        → value_stores t known o ≡ false → p ≡ w → Stays (condition_of t calls o ls p k)
    condition_stays None ls p k none same = same
    condition_stays (Some e) ls p k none same = exp_stays e ls p k none same

    return_stays : (o : Option ExprTree) (ls : List Local) (p : PoolMap) (k : ℕ)
        → value_stores t known o ≡ false → p ≡ w → EndStays (return_end t calls o ls p k)
    return_stays None ls p k none same = same
    return_stays (Some e) ls p k none same =
        value_stays (value_of t calls e ls p k) _ (exp_stays e ls p k none same)
        (λ v q j still. still)

    mutual
      stmt_stays : (x : StmtTree) (ls : List Local) (p : PoolMap) (k : ℕ)
          → statement_stores t known x ≡ false → p ≡ w → EndStays (end_of_stmt t calls x ls p k)
      stmt_stays stmt.Empty ls p k none same = same
      stmt_stays (stmt.Declares d) ls p k none same = declaration_stays d ls p k none same
      stmt_stays (stmt.Simple x) ls p k none same = simple_stays x ls p k none same
      stmt_stays (stmt.Block all) ls p k none same =
          scope_stays (length ls) (ends_of t calls all ls p k) (all_stay all ls p k none same)
      stmt_stays (stmt.If c a) ls p k none same =
          let parts = neither (exp_stores t known c) (statement_stores t known a) none in
          value_stays (value_of t calls c ls p k) _ (exp_stays c ls p k parts.0 same)
          (λ v q j still. zero_end (is_zero v) (Next ls q j) _ still
          (scope_stays (length ls) (end_of_stmt t calls a ls q j)
          (stmt_stays a ls q j parts.1 still)))
      stmt_stays (stmt.IfElse c a b) ls p k none same =
          let parts = neither (exp_stores t known c)
          (statement_stores t known a || statement_stores t known b) none in
          let sides = neither (statement_stores t known a) (statement_stores t known b) parts.1 in
          value_stays (value_of t calls c ls p k) _ (exp_stays c ls p k parts.0 same)
          (λ v q j still. zero_end (is_zero v) _ _
          (scope_stays (length ls) (end_of_stmt t calls b ls q j)
          (stmt_stays b ls q j sides.1 still))
          (scope_stays (length ls) (end_of_stmt t calls a ls q j)
          (stmt_stays a ls q j sides.0 still)))
      stmt_stays (stmt.While place c a) ls p k none same =
          let parts = neither (exp_stores t known c) (statement_stores t known a) none in
          turns_stay (λ ls p k. value_of t calls c ls p k)
          (λ ls p k. in_scope (length ls) (end_of_stmt t calls a ls p k)) (λ ls p k. Next ls p k)
          (λ ls p k same. exp_stays c ls p k parts.0 same)
          (λ ls p k same. scope_stays (length ls) (end_of_stmt t calls a ls p k)
          (stmt_stays a ls p k parts.1 same)) (λ ls p k same. same) k place ls p k same
      stmt_stays (stmt.Do place a c) ls p k none same =
          let parts = neither (exp_stores t known c) (statement_stores t known a) none in
          turn_stays (in_scope (length ls) (end_of_stmt t calls a ls p k)) _
          (scope_stays (length ls) (end_of_stmt t calls a ls p k)
          (stmt_stays a ls p k parts.1 same))
          (λ ls p k same. turns_stay (λ ls p k. value_of t calls c ls p k)
          (λ ls p k. in_scope (length ls) (end_of_stmt t calls a ls p k)) (λ ls p k. Next ls p k)
          (λ ls p k same. exp_stays c ls p k parts.0 same)
          (λ ls p k same. scope_stays (length ls) (end_of_stmt t calls a ls p k)
          (stmt_stays a ls p k parts.1 same)) (λ ls p k same. same) k place ls p k same)
      stmt_stays (stmt.For place first c third a) ls p k none same =
          let parts = neither (option_map_or (first_stores t known) first false
          || (value_stores t known c || option_map_or (simple_stores t known) third false))
          (statement_stores t known a) none in
          let head = neither (option_map_or (first_stores t known) first false)
          (value_stores t known c || option_map_or (simple_stores t known) third false) parts.0 in
          let rest = neither (value_stores t known c)
          (option_map_or (simple_stores t known) third false) head.1 in
          scope_stays (length ls) _
          (next_stays (end_of_first t calls first ls p k) _ (first_stays first ls p k head.0 same)
          (λ ls p k same. turns_stay (λ ls p k. condition_of t calls c ls p k)
          (λ ls p k. in_scope (length ls) (end_of_stmt t calls a ls p k))
          (λ ls p k. end_of_third t calls third ls p k)
          (λ ls p k same. condition_stays c ls p k rest.0 same)
          (λ ls p k same. scope_stays (length ls) (end_of_stmt t calls a ls p k)
          (stmt_stays a ls p k parts.1 same))
          (λ ls p k same. third_stays third ls p k rest.1 same) k place ls p k same))
      stmt_stays stmt.Break ls p k none same = same
      stmt_stays stmt.Continue ls p k none same = same
      stmt_stays (stmt.Return place e) ls p k none same = return_stays e ls p k none same

      all_stay : (all : Statements) (ls : List Local) (p : PoolMap) (k : ℕ)
          → statements_store t known all ≡ false → p ≡ w → EndStays (ends_of t calls all ls p k)
      all_stay stmt.Nothing ls p k none same = same
      all_stay (stmt.Then x xs) ls p k none same =
          let parts = neither (statement_stores t known x) (statements_store t known xs) none in
          next_stays (end_of_stmt t calls x ls p k) _ (stmt_stays x ls p k parts.0 same)
          (λ ls p k same. all_stay xs ls p k parts.1 same)

    function_stays : (g : FunctionTree) (vs : List ℤ) (p : PoolMap) (k : ℕ)
        → statements_store t known g.body ≡ false → p ≡ w
        → Stays (function_value t calls g vs p k)
    function_stays g vs p k none same =
        given_stays (ends_of t calls g.body (bound t g.parameters vs []) p k)
        (all_stay g.body (bound t g.parameters vs []) p k none same)

  module _ (t : Tables) (known : List Bool) (settled : next_known t known ≡ known) where
    calls_stay : (room place : ℕ) (g : FunctionTree) (vs : List ℤ) (p : PoolMap) (k : ℕ)
        → statements_store t known g.body ≡ false → p ≡ w → Stays (calls_of t room place g vs p k)
    calls_stay zero place g vs p k none same = tt
    calls_stay (suc room) place g vs p k none same =
        function_stays t known settled (calls_of t room) (calls_stay room) g vs p k none same

outcome_same : (w : PoolMap) (o : Out ℤ) → Stays w o → LeavesSame w (outcome o)
outcome_same w (Got v p k) h = h
outcome_same w (Stops stop) h = tt

-- what the rules refuse isn't there
no_store : (t : Tables) (f : FunctionTree) (b : Bool) → statements_store t (storing t) f.body ≡ b
    → (Stores t f → ⊥) → b ≡ false
no_store t f true stores none = absurd (none (stores_from t f stores))
no_store t f false stores none = refl

pub looks : LooksLaw
looks t typed number f named is w args ticks =
    let at = numbered_stands t.functions number f named in
    let none : statements_store t (storing t) f.body ≡ false =
    no_store t f (statements_store t (storing t) f.body) refl
    ((typed.functions at.0 f at.1).looks is) in
    subst (λ (o : Option FunctionTree). LeavesSame w (outcome (run_transaction t o w args ticks)))
    (sym named)
    (outcome_same w (function_value t (calls_of t 255) f args w ticks)
    (function_stays w t (storing t) (storing_settled t) (calls_of t 255)
    (calls_stay w t (storing t) (storing_settled t) 255) f args w ticks none refl))
