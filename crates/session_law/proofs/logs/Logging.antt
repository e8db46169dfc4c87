-- The number of words that take a record: there is one, and it is larger than a bound exactly where
-- a store takes a record after as many others as the bound says. So a transaction comes to one
-- outcome, and a list of them leads to one pool.
use Rattle.std.proofs.Common.{◌≡◌, inl, inr, ℕ, zero, suc, ◌<◌, ◌≤◌, Bool, true, false, List, []}
use Rattle.std.proofs.Common.{◌∷◌, ◌++◌, ℤ, refl, sym, ap, ◌∙◌, subst, arith, append_assoc}
use Rattle.nvm_base.specs.Listed.{is_listed}
use Rattle.ir.specs.declared.function.IrFunction.{IrFunction}
use Rattle.pool_map.specs.PoolMap.{PoolMap}
use Rattle.c_meaning.specs.Transaction.{Outcome, Done, Trap}
use Rattle.lower.specs.Program.{lowered}
use Rattle.cnvm_session.specs.declared.program.Program.{Program}
use Rattle.cnvm_session.specs.Marks.{rolls_back_of}
use Rattle.session_law.specs.Logged.{StoreAt, TakeRecords, FillsLog}
use Rattle.session_law.specs.Source.{run_stores, LogsBy, outcome_with}
use Rattle.session_law.specs.History.{LeavesPool, LeadsTo}
use Rattle.session_law.specs.Law.{DeterminedLaw, LedLaw, FullLaw}

clash : {A : Type 0} (b : Bool) → b ≡ true → b ≡ false → A
clash b on off = let e : true ≡ false = sym on ∙ off in absurd cc

module _ (rolls : Bool) (functions : List IrFunction) where
  -- a first part of the stores takes no more records than all of them
  part : (xs ys : List StoreAt) (ls : List ℕ) (n m : ℕ)
      → TakeRecords rolls functions ls (xs ++ ys) n → TakeRecords rolls functions ls xs m → m ≤ n
  part [] ys ls n m all none = omega (arith, none)
  part (a ∷ xs) ys ls n m (inl x) (inl y) =
      let less = part xs ys (a.word ∷ ls) x.0 y.0 x.4 y.4 in omega (arith, x.1, y.1, less)
  part (a ∷ xs) ys ls n m (inl x) (inr y) = clash (is_listed a.word ls) (y.0 x.2) x.3
  part (a ∷ xs) ys ls n m (inr x) (inl y) = clash (is_listed a.word ls) (x.0 y.2) y.3
  part (a ∷ xs) ys ls n m (inr x) (inr y) = part xs ys ls n m x.1 y.1

  one_number : (stores : List StoreAt) (ls : List ℕ) (n m : ℕ)
      → TakeRecords rolls functions ls stores n → TakeRecords rolls functions ls stores m → n ≡ m
  one_number [] ls n m none nothing = none ∙ sym nothing
  one_number (a ∷ stores) ls n m (inl x) (inl y) =
      x.1 ∙ ap suc (one_number stores (a.word ∷ ls) x.0 y.0 x.4 y.4) ∙ sym y.1
  one_number (a ∷ stores) ls n m (inl x) (inr y) = clash (is_listed a.word ls) (y.0 x.2) x.3
  one_number (a ∷ stores) ls n m (inr x) (inl y) = clash (is_listed a.word ls) (x.0 y.2) y.3
  one_number (a ∷ stores) ls n m (inr x) (inr y) = one_number stores ls n m x.1 y.1

  fills : (stores : List StoreAt) (ls : List ℕ) (n records : ℕ)
      → TakeRecords rolls functions ls stores n → records < n
      → FillsLog rolls functions ls records stores
  fills [] ls n records none less = absurd (omega (arith, none, less))
  fills (a ∷ stores) ls n zero (inl x) less = record {
    before = [];
    due = a;
    later = stores;
    is = refl;
    full = refl;
    more = inl (0, refl, x.2, x.3, refl);
  }
  fills (a ∷ stores) ls n (suc records) (inl x) less =
      let f = fills stores (a.word ∷ ls) x.0 records x.4 (omega (arith, x.1, less)) in
      record {
        before = a ∷ f.before;
        due = f.due;
        later = f.later;
        is = ap (λ (xs : List StoreAt). a ∷ xs) f.is;
        full = inl (records, refl, x.2, x.3, f.full);
        more = inl (suc records, refl, x.2, x.3, f.more);
      }
  fills (a ∷ stores) ls n records (inr x) less =
      let f = fills stores ls n records x.1 less in
      record {
        before = a ∷ f.before;
        due = f.due;
        later = f.later;
        is = ap (λ (xs : List StoreAt). a ∷ xs) f.is;
        full = inr (x.0, f.full);
        more = inr (x.0, f.more);
      }

  filled : (stores : List StoreAt) (n records : ℕ) → TakeRecords rolls functions [] stores n
      → FillsLog rolls functions [] records stores → records < n
  filled stores n records all f =
      let parts : stores ≡ (f.before ++ f.due ∷ []) ++ f.later =
      f.is ∙ sym (append_assoc f.before (f.due ∷ []) f.later) in
      let less = part (f.before ++ f.due ∷ []) f.later [] n (suc records)
      (subst (λ (xs : List StoreAt). TakeRecords rolls functions [] xs n) parts all) f.more in
      omega (arith, less)

pub full_law : FullLaw
full_law rolls functions stores n records all =
    (fills rolls functions stores [] n records all, filled rolls functions stores n records all)

pub one_logged : (marked : Bool) (program : Program) (pool : PoolMap) (tx : ℕ) (args : List ℤ)
    (n m : ℕ) → LogsBy marked program pool tx args n → LogsBy marked program pool tx args m → n ≡ m
one_logged marked program pool tx args n m first second =
    one_number marked (lowered program.typed).functions (run_stores program pool tx args) [] n m
    first second

pub one_outcome : DeterminedLaw
one_outcome marked program pool tx args n m o p first second =
    let number : n ≡ m =
    one_logged marked program pool tx args n m first.logs second.logs in (
      number,
      sym first.is ∙ ap (outcome_with program pool tx args) number ∙ second.is,
    )

-- one pool after a transaction
one_pool : (marked : Bool) (p q r : PoolMap) (o : Outcome) → LeavesPool marked o p q
    → LeavesPool marked o p r → q ≡ r
one_pool marked p q r (Done pool value) first second = first ∙ sym second
one_pool marked p q r (Trap kind) first second = first.1 ∙ sym second.1

-- and after a list of them
pub one_led : LedLaw
one_led program p q r [] first second = first ∙ sym second
one_led program p q r (call ∷ calls) first second =
    let marked : Bool = rolls_back_of program call.tx in
    let one : first.0 ≡ second.0 =
    one_pool marked p first.0 second.0 first.1.1
    first.1.3
    (subst (λ (o : Outcome). LeavesPool marked o p second.0)
    (sym (one_outcome marked program p call.tx call.args first.1.0 second.1.0 first.1.1 second.1.1
    first.1.2 second.1.2).1) second.1.3) in
    one_led program second.0 q r calls
    (subst (λ (x : PoolMap). LeadsTo program x calls q) one first.2) second.2
