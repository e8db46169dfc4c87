-- The mark and the type of the transaction of a number, as the tree gives them.
use Rattle.std.proofs.Common.{◌≡◌, ◌-◌, ◌<◌, ◌≤◌, ℕ, zero, suc, Bool, false, Option, Some, None}
use Rattle.std.proofs.Common.{length, option_map, slice_get, refl, sym, ap, subst, arith}
use Rattle.std.proofs.lemmas.Option.{slice_get_past}
use Rattle.std.specs.Option.{option_map_or}
use Rattle.c_tree.specs.ItemTree.{FunctionTree}
use Rattle.c_types.specs.Shapes.{transactions_of}
use Rattle.c_types.specs.Transactions.{is_const}
use Rattle.cnvm_session.specs.declared.program.Program.{Program}
use Rattle.cnvm_session.specs.Marks.{is_marked, rolls_back_of, looks_of, returns_unsigned}
use Rattle.cnvm_session.specs.Marks.{unsigned_of}

found : (p : FunctionTree → Bool) (o : Option FunctionTree) (r : Bool) → Some r ≡ option_map p o
    → r ≡ option_map_or p o false
found p None r is = absurd cc
found p (Some f) r is = cc

-- the same of the transaction of a number
module _ (p : FunctionTree → Bool) (program : Program) where
  abbrev tested : ℕ → Bool
  tested i = option_map_or p (slice_get (transactions_of program.typed) i) false

  found_at : (i : ℕ) (r : Bool)
      → Some r ≡ option_map p (slice_get (transactions_of program.typed) (suc i - 1))
      → r ≡ tested i
  found_at i r is =
      let before : suc i - 1 ≡ i = omega arith in
      found p (slice_get (transactions_of program.typed) i) r
      (subst (λ (j : ℕ). Some r ≡ option_map p (slice_get (transactions_of program.typed) j))
      before is)

  past_at : (i : ℕ) → length (transactions_of program.typed) < suc i → false ≡ tested i
  past_at i less =
      sym (ap (λ (o : Option FunctionTree). option_map_or p o false)
      (slice_get_past (transactions_of program.typed) i (omega (arith, less))))

pub mark_found : (program : Program) (tx : ℕ) (r : Bool) → 1 ≤ tx
    → Some r ≡ option_map is_marked (slice_get (transactions_of program.typed) (tx - 1))
    → r ≡ rolls_back_of program tx
mark_found program zero r first is = absurd (omega arith)
mark_found program (suc i) r first is = found_at is_marked program i r is

pub mark_first : (program : Program) (tx : ℕ) → tx < 1 → false ≡ rolls_back_of program tx
mark_first program zero less = refl
mark_first program (suc i) less = absurd (omega arith)

pub mark_past : (program : Program) (tx : ℕ) → length (transactions_of program.typed) < tx
    → false ≡ rolls_back_of program tx
mark_past program zero less = refl
mark_past program (suc i) less = past_at is_marked program i less

abbrev only_looks : FunctionTree → Bool
only_looks f = is_const f.mark

pub look_found : (program : Program) (tx : ℕ) (r : Bool) → 1 ≤ tx
    → Some r ≡ option_map only_looks (slice_get (transactions_of program.typed) (tx - 1))
    → r ≡ looks_of program tx
look_found program zero r first is = absurd (omega arith)
look_found program (suc i) r first is = found_at only_looks program i r is

pub look_first : (program : Program) (tx : ℕ) → tx < 1 → false ≡ looks_of program tx
look_first program zero less = refl
look_first program (suc i) less = absurd (omega arith)

pub look_past : (program : Program) (tx : ℕ) → length (transactions_of program.typed) < tx
    → false ≡ looks_of program tx
look_past program zero less = refl
look_past program (suc i) less = past_at only_looks program i less

pub unsigned_found : (program : Program) (tx : ℕ) (r : Bool) → 1 ≤ tx
    → Some r ≡ option_map returns_unsigned (slice_get (transactions_of program.typed) (tx - 1))
    → r ≡ unsigned_of program tx
unsigned_found program zero r first is = absurd (omega arith)
unsigned_found program (suc i) r first is = found_at returns_unsigned program i r is

pub unsigned_first : (program : Program) (tx : ℕ) → tx < 1 → false ≡ unsigned_of program tx
unsigned_first program zero less = refl
unsigned_first program (suc i) less = absurd (omega arith)

pub unsigned_past : (program : Program) (tx : ℕ) → length (transactions_of program.typed) < tx
    → false ≡ unsigned_of program tx
unsigned_past program zero less = refl
unsigned_past program (suc i) less = past_at returns_unsigned program i less

pub ruleset marks = (mark_found, mark_first, mark_past)

pub ruleset looking = (look_found, look_first, look_past)

pub ruleset types = (unsigned_found, unsigned_first, unsigned_past)
