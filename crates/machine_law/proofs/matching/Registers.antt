-- Registers of the code, which are a map from all numbers, and those of a frame.
use Rattle.std.proofs.Common.{◌≡◌, ◌≢◌, ◌⊎◌, inl, inr, ℕ, zero, suc, ◌+◌, ◌<◌, ◌≤◌, List, [], ◌∷◌}
use Rattle.std.proofs.Common.{length, map, replicate, ℤ, pos, refl, sym, ap, ◌∙◌, arith, get_or}
use Rattle.std.proofs.Common.{set, length-set}
use Rattle.std.specs.List.{AllByRecursion}
use Rattle.std.proofs.lemmas.Bool.{cases_eq}
use Rattle.std.proofs.lemmas.List.{get_or-set_same, get_or-set_other, get_or-replicate}
use Rattle.std.proofs.lemmas.List.{length-replicate}
use Rattle.code_meaning.specs.Code.{register_at, put_register}
use Rattle.code_meaning.proofs.Registers.{at_put_same, at_put_other}
use Rattle.pm_machine.specs.Machine.{registers_filled, registers_placed}

module _ (n r : ℕ) (regs words : List ℤ) (v : ℤ) (holds : (q : ℕ) → q < n
    → get_or words q (pos 0) ≡ register_at regs q) (room : n ≤ length words) where
  set_put_at : (q : ℕ) → q < n → (q ≡ r) ⊎ (q ≢ r)
      → get_or (set words r v) q (pos 0) ≡ register_at (put_register regs r v) q
  set_put_at q low (inl e) =
      ap (λ (i : ℕ). get_or (set words r v) i (pos 0)) e ∙ get_or-set_same words r v (pos 0)
      (omega arith) ∙ sym (at_put_same regs r v)
      ∙ ap (register_at (put_register regs r v)) (sym e)
  set_put_at q low (inr ne) = get_or-set_other words r q v (pos 0) ne ∙ holds q low
      ∙ sym (at_put_other regs r q v ne)

  -- a register that is written
  pub set_put : (q : ℕ) → q < n → get_or (set words r v) q (pos 0)
      ≡ register_at (put_register regs r v) q
  set_put q low = set_put_at q low (cases_eq q r)

filled_before : (vs to : List ℤ) (i r : ℕ) → r < i → get_or (registers_filled to i vs) r (pos 0)
    ≡ get_or to r (pos 0)
filled_before [] to i r low = refl
filled_before (v ∷ vs) to i r low = filled_before vs (set to i v) (i + 1) r (omega arith)
    ∙ get_or-set_other to i r v (pos 0) (λ e. absurd (omega arith))

filled_at : (vs to : List ℤ) (i k : ℕ) → i + k < length to
    → ((q : ℕ) → i ≤ q → q < length to → get_or to q (pos 0) ≡ pos 0)
    → get_or (registers_filled to i vs) (i + k) (pos 0) ≡ register_at vs k
filled_at [] to i k low none = none (i + k) (omega arith) low
filled_at (v ∷ vs) to i zero low none =
    let e : i + 0 ≡ i = omega arith in
    ap (λ (j : ℕ). get_or (registers_filled (set to i v) (i + 1) vs) j (pos 0)) e
    ∙ filled_before vs (set to i v) (i + 1) i (omega arith) ∙ get_or-set_same to i v (pos 0)
    (omega arith)
filled_at (v ∷ vs) to i (suc k) low none =
    let e : i + suc k ≡ i + 1 + k = omega arith in
    let long : length (set to i v) ≡ length to = length-set to i v in
    ap (λ (j : ℕ). get_or (registers_filled (set to i v) (i + 1) vs) j (pos 0)) e
    ∙ filled_at vs (set to i v) (i + 1) k (omega arith) (λ q past few.
    get_or-set_other to i q v (pos 0) (λ e. absurd (omega arith))
    ∙ none q (omega arith) (omega arith))

pub filled_length : (vs to : List ℤ) (i : ℕ) → length (registers_filled to i vs) ≡ length to
filled_length [] to i = refl
filled_length (v ∷ vs) to i = filled_length vs (set to i v) (i + 1) ∙ length-set to i v

-- arguments in the first registers of a blank frame
pub filled_is : (vs : List ℤ) (size r : ℕ) → r < size
    → get_or (registers_filled (replicate size (pos 0)) 0 vs) r (pos 0) ≡ register_at vs r
filled_is vs size r low =
    let blank : List ℤ = replicate size (pos 0) in
    let long : length blank ≡ size = length-replicate size (pos 0) in
    let e : r ≡ 0 + r = omega arith in
    ap (λ (j : ℕ). get_or (registers_filled blank 0 vs) j (pos 0)) e
    ∙ filled_at vs blank 0 r (omega arith) (λ q past few.
    get_or-replicate size q (pos 0) (pos 0) (omega arith))

placed_filled : (from to : List ℤ) (i : ℕ) (args : List ℕ)
    → registers_placed from to i args ≡ registers_filled to i
    (map (λ a. get_or from a (pos 0)) args)
placed_filled from to i [] = refl
placed_filled from to i (a ∷ args) =
    placed_filled from (set to i (get_or from a (pos 0))) (i + 1) args

read_args : (n : ℕ) (regs words : List ℤ) (args : List ℕ)
    → ((q : ℕ) → q < n → get_or words q (pos 0) ≡ register_at regs q)
    → AllByRecursion (λ a. a < n) args → map (λ a. get_or words a (pos 0)) args
    ≡ map (register_at regs) args
read_args n regs words [] holds low = refl
read_args n regs words (a ∷ args) holds low =
    ap (λ (v : ℤ). v ∷ map (λ a. get_or words a (pos 0)) args) (holds a low.0)
    ∙ ap (λ (vs : List ℤ). register_at regs a ∷ vs) (read_args n regs words args holds low.1)

-- a called function's registers
pub placed_is : (n : ℕ) (regs words : List ℤ) (args : List ℕ) (size r : ℕ)
    → ((q : ℕ) → q < n → get_or words q (pos 0) ≡ register_at regs q)
    → AllByRecursion (λ a. a < n) args → r < size →
    get_or (registers_placed words (replicate size (pos 0)) 0 args) r (pos 0)
    ≡ register_at (map (register_at regs) args) r
placed_is n regs words args size r holds low few =
    let blank : List ℤ = replicate size (pos 0) in
    ap (λ (ws : List ℤ). get_or ws r (pos 0)) (placed_filled words blank 0 args
    ∙ ap (registers_filled blank 0) (read_args n regs words args holds low))
    ∙ filled_is (map (register_at regs) args) size r few

pub placed_length : (words : List ℤ) (args : List ℕ) (size : ℕ)
    → length (registers_placed words (replicate size (pos 0)) 0 args) ≡ size
placed_length words args size =
    let blank : List ℤ = replicate size (pos 0) in
    ap (λ (ws : List ℤ). length ws) (placed_filled words blank 0 args)
    ∙ filled_length (map (λ a. get_or words a (pos 0)) args) blank 0
    ∙ length-replicate size (pos 0)
