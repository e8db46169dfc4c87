-- The transaction of a number is the same function in the tree and in the code; the outcome of its
-- run.
use Rattle.std.proofs.Common.{◌≡◌, ℕ, zero, suc, ◌+◌, ◌*◌, ℤ, Bool, true, false, List, [], ◌∷◌, map}
use Rattle.std.proofs.Common.{refl, sym, ap, ◌∙◌, arith}
use Rattle.std.specs.Prelude.{Some, if◌then◌else◌, slice_get}
use Rattle.std.proofs.lemmas.Option.{none-some}
use Rattle.c_tree.specs.ItemTree.{FunctionTree}
use Rattle.c_tree.specs.Program.{Program, tree_of}
use Rattle.c_types.specs.Tables.{Tables, tables_of}
use Rattle.c_types.specs.Shapes.{transactions_in}
use Rattle.pool_map.specs.PoolMap.{PoolMap}
use Rattle.c_meaning.specs.Meaning.{Out, Got, Stops, function_value, calls_of}
use Rattle.c_meaning.specs.Transaction.{outcome, transaction, transaction_means, run_transaction}
use Rattle.ir.specs.declared.function.IrFunction.{IrFunction}
use Rattle.lower.specs.Program.{lowered_function, lowered}
use Rattle.code_meaning.specs.Code.{exec, code_start}
use Rattle.code_meaning.specs.Whole.{whole}
use Rattle.lower_law.specs.Law.{call_end, KeepsMeaning, entries_from, entry_in, ended_outcome}

-- the place of a transaction among the functions
record Entered (t : Tables) (tree : Program) (fs : List FunctionTree) (g0 i : ℕ)
    (f : FunctionTree) : Type 0 where
  pub g : ℕ
  pub stands : slice_get fs g ≡ Some f
  pub entry : slice_get (entries_from g0 (map (lowered_function t tree) fs)) i ≡ Some (g0 + g)

entered_from : (t : Tables) (tree : Program) (fs : List FunctionTree) (g0 i : ℕ) (f : FunctionTree)
    → slice_get (transactions_in fs) i ≡ Some f → Entered t tree fs g0 i f
entered_from t tree [] g0 i f e = absurd (none-some f e)
entered_from t tree (x ∷ fs) g0 i f e =
    told (by_test x.tx i (λ j e'. entered_from t tree fs (g0 + 1) j f e') e)
  where
    us : List IrFunction
    us = map (lowered_function t tree) fs

    told : (g : ℕ) × (slice_get (x ∷ fs) g ≡ Some f)
        × (slice_get (entries_from g0 (map (lowered_function t tree) (x ∷ fs))) i ≡ Some (g0 + g))
        → Entered t tree (x ∷ fs) g0 i f
    told h = record { g = h.0; stands = h.1; entry = h.2 }

    plus : (a : ℕ) → a ≡ a + 0
    plus a = omega arith

    next : (a b : ℕ) → (a + 1) + b ≡ a + suc b
    next a b = omega arith

    by_test : (b : Bool) (i : ℕ) → ((j : ℕ) → slice_get (transactions_in fs) j ≡ Some f
        → Entered t tree fs (g0 + 1) j f)
        → slice_get (if b then x ∷ transactions_in fs else transactions_in fs) i ≡ Some f
        → (g : ℕ) × (slice_get (x ∷ fs) g ≡ Some f)
        × (slice_get (if b then g0 ∷ entries_from (g0 + 1) us else entries_from (g0 + 1) us) i
        ≡ Some (g0 + g))
    by_test true zero rest e = (0, e, ap Some (plus g0))
    by_test true (suc j) rest e = let r = rest j e in
        (suc r.g, r.stands, r.entry ∙ ap Some (next g0 r.g))
    by_test false i rest e = let r = rest i e in
        (suc r.g, r.stands, r.entry ∙ ap Some (next g0 r.g))

outcome_same : (o : Out ℤ) → ended_outcome (call_end o) ≡ Some (outcome o)
outcome_same (Got v w t) = refl
outcome_same (Stops k) = refl

-- a transaction, by its number
pub transaction_keeps : (tree : Program) → KeepsMeaning (tables_of (tree_of tree)) (lowered tree)
    → (number : ℕ) (f : FunctionTree) → transaction (tables_of (tree_of tree)) number ≡ Some f
    → (w : PoolMap) (args : List ℤ) (n : ℕ)
    → (g : ℕ) × (entry_in number (lowered tree).functions ≡ Some g)
    × ((j : ℕ) × (ended_outcome (exec (lowered tree) j (code_start g args w n))
    ≡ Some (transaction_means (tables_of (tree_of tree)) w number args n)))
transaction_keeps tree keeps zero f is w args n = absurd (none-some f is)
transaction_keeps tree keeps (suc i) f is w args n =
    let t : Tables = tables_of (tree_of tree) in
    let r = entered_from t tree t.functions 0 i f is in
    let j : ℕ = (n + 1) * whole (lowered tree).functions in (
      r.g,
      r.entry ∙ ap Some (zero_plus r.g),
      (
        j,
        ap ended_outcome (keeps.ends r.g f args w n r.stands)
            ∙ outcome_same (function_value t (calls_of t 255) f args w n)
            ∙ ap Some (sym (ap (λ o. outcome (run_transaction t o w args n)) is)),
      ),
    )
  where
    zero_plus : (a : ℕ) → 0 + a ≡ a
    zero_plus a = omega arith
