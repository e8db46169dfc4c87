-- Functions, calls, and the law.
use Rattle.std.proofs.Common.{◌≡◌, ℕ, zero, suc, ℤ, Bool, true, false, List, [], ◌∷◌, length, refl}
use Rattle.std.proofs.Common.{subst, sym}
use Rattle.std.specs.Prelude.{Option, Some, slice_get, if◌then◌else◌}
use Rattle.std.proofs.lemmas.Option.{none-some}
use Rattle.c_tree.specs.ItemTree.{FunctionTree}
use Rattle.c_tree.specs.Program.{tree_of}
use Rattle.c_types.specs.Tables.{Tables, tables_of}
use Rattle.c_types.specs.Shapes.{shapes_in, transactions_in}
use Rattle.c_types.specs.Statements.{inner_scopes}
use Rattle.c_types.specs.Declarations.{scopes_after_parameters}
use Rattle.pool_map.specs.PoolMap.{PoolMap}
use Rattle.c_meaning.specs.Locals.{bound, scopes_of}
use Rattle.c_meaning.specs.Meaning.{Out, Got, Stops, Calls, ends_of, function_value, calls_of}
use Rattle.c_meaning.specs.Transaction.{outcome, transaction_in}
use Rattle.c_meaning.specs.Transaction.{run_transaction}
use Rattle.lower.proofs.Sane.{IsSane, sane}
use Rattle.rules_law.specs.typed.Programs.{IsTypedFunction, IsWellTyped}
use Rattle.rules_law.proofs.typed.Laws.{accepted}
use Rattle.sound_law.specs.Statements.{FunctionFinds, CallFinds}
use Rattle.sound_law.specs.Law.{LeavesFitting, SoundLaw}
use Rattle.sound_law.proofs.Expressions.{Fits, Leaves, AreSound}
use Rattle.sound_law.proofs.Declared.{Sees, parameters_seen}
use Rattle.sound_law.proofs.Ends.{given_leaves}
use Rattle.sound_law.proofs.Ticks.{CallsFall, calls_fall}
use Rattle.sound_law.proofs.Statements.{statements_sound}

-- no locals and no names
none_seen : (t : Tables) → Sees t (inner_scopes []) []
none_seen t = record { same = λ name. refl; paired = tt; small = tt }

module _ (t : Tables) (sane : IsSane t) (typed : IsWellTyped t) where
  function_sound : (calls : Calls) (found : FunctionTree → List ℤ → PoolMap → ℕ → Type 0)
      → AreSound t sane typed calls found → CallsFall calls → (i : ℕ) (f : FunctionTree)
      (vs : List ℤ) (p : PoolMap)
      (k : ℕ) → slice_get t.functions i ≡ Some f → length vs ≡ length f.parameters → Fits t p
      → FunctionFinds t calls found f vs p k × Leaves t (function_value t calls f vs p k)
  function_sound calls found sound fall i f vs p k is many fits =
      let h : IsTypedFunction t i f = typed.functions i f is in
      let sees = parameters_seen t f.parameters 0 (inner_scopes []) vs [] h.parameters
      (none_seen t) in
      let r = statements_sound t sane typed calls found sound fall f.body f.result_type
      (scopes_after_parameters t (inner_scopes []) f.parameters) (bound t f.parameters vs []) p k
      h.body sees fits in (
        (many, r.0),
        given_leaves t (scopes_of (bound t f.parameters vs []))
            (ends_of t calls f.body (bound t f.parameters vs []) p k) r.1,
      )

  calls_sound : (room : ℕ) → AreSound t sane typed (calls_of t room)
      (λ f vs p k. CallFinds t room f vs p k)
  calls_sound zero place i f vs p k is many fits = (tt, tt)
  calls_sound (suc room) place i f vs p k is many fits =
      function_sound (calls_of t room) (λ f vs p k. CallFinds t room f vs p k) (calls_sound room)
      (calls_fall t room) i f vs p k is many fits

-- a transaction is one of the functions
transaction_stands : (fs : List FunctionTree) (i : ℕ) (f : FunctionTree)
    → slice_get (transactions_in fs) i ≡ Some f → (g : ℕ) × (slice_get fs g ≡ Some f)
transaction_stands [] i f e = absurd (none-some f e)
transaction_stands (x ∷ fs) i f e =
    by_test x.tx i (λ j e. next (transaction_stands fs j f e)) e
  where
    next : (g : ℕ) × (slice_get fs g ≡ Some f) → (g : ℕ) × (slice_get (x ∷ fs) g ≡ Some f)
    next h = (suc h.0, h.1)

    by_test : (b : Bool) (i : ℕ) → ((j : ℕ) → slice_get (transactions_in fs) j ≡ Some f
        → (g : ℕ) × (slice_get (x ∷ fs) g ≡ Some f))
        → slice_get (if b then x ∷ transactions_in fs else transactions_in fs) i ≡ Some f
        → (g : ℕ) × (slice_get (x ∷ fs) g ≡ Some f)
    by_test true zero rest e = (0, e)
    by_test true (suc j) rest e = rest j e
    by_test false i rest e = rest i e

pub numbered_stands : (fs : List FunctionTree) (number : ℕ) (f : FunctionTree)
    → transaction_in number fs ≡ Some f → (g : ℕ) × (slice_get fs g ≡ Some f)
numbered_stands fs zero f e = absurd (none-some f e)
numbered_stands fs (suc i) f e = transaction_stands fs i f e

outcome_fits : (t : Tables) (o : Out ℤ) → Leaves t o → LeavesFitting (shapes_in t) (outcome o)
outcome_fits t (Got v p k) h = h
outcome_fits t (Stops trap) h = tt

pub sound : SoundLaw
sound tree b number f is p args ticks fits many =
    let t : Tables = tables_of (tree_of tree) in
    let at = numbered_stands t.functions number f is in
    let r = function_sound t (sane tree b) (accepted tree b) (calls_of t 255)
    (λ f vs p k. CallFinds t 255 f vs p k)
    (calls_sound t (sane tree b) (accepted tree b) 255) (calls_fall t 255) at.0 f args p
    ticks at.1 many fits in (
      r.0,
      subst (λ (o : Option FunctionTree). LeavesFitting (shapes_in t)
          (outcome (run_transaction t o p args ticks))) (sym is)
          (outcome_fits t (function_value t (calls_of t 255) f args p ticks) r.1),
    )
