-- The checker names the first fault.
use Rattle.std.proofs.Common.{◌≡◌, ◌<◌, ◌+◌, ℕ, zero, suc, Bool, true, false, List, [], ◌∷◌}
use Rattle.std.proofs.Common.{Option, Some, None, refl, subst, arith}
use Rattle.std.specs.Prelude.{slice_get, if◌then◌else◌}
use Rattle.ir.specs.declared.function.Ir.{Ir}
use Rattle.walk_check.specs.declared.certificate.Certificate.{Certificate}
use Rattle.walk_check.specs.Keeps.{first_bad, keeps_piece, keeps_reason, fault_from}
use Rattle.walk_check.specs.Law.{AllKeep, IsFirstBad, Names, FaultsAreFirst}

module _ {X : Type 0} (keeps : ℕ → X → Bool) where
  -- the k-th of the remaining ones, which is number n + k of all
  abbrev Keeping : ℕ → List X → Type 0
  Keeping n xs = (k : ℕ) (x : X) → slice_get xs k ≡ Some x → keeps (n + k) x ≡ true

  abbrev Found : ℕ → List X → ℕ → Type 0
  Found n xs m =
      (k : ℕ) × (m ≡ n + k) × ((x : X) × (slice_get xs k ≡ Some x) × (keeps m x ≡ false))
      × ((j : ℕ) (x : X) → j < k → slice_get xs j ≡ Some x → keeps (n + j) x ≡ true)

  here : (n : ℕ) (y x : X) → keeps n y ≡ true → Some y ≡ Some x → keeps (n + 0) x ≡ true
  here n y x h is =
      let same : y ≡ x = cc in
      let sum : n ≡ n + 0 = omega arith in
      subst (λ m. keeps m x ≡ true) sum (subst (λ z. keeps n z ≡ true) same h)

  there : (n k : ℕ) (x : X) → keeps ((n + 1) + k) x ≡ true → keeps (n + suc k) x ≡ true
  there n k x h = let sum : (n + 1) + k ≡ n + suc k = omega arith in
      subst (λ m. keeps m x ≡ true) sum h

  none_found : (n : ℕ) (xs : List X) → first_bad keeps n xs ≡ None → Keeping n xs
  none_found n [] none k x is = absurd cc
  none_found n (y ∷ xs) none k x is =
      by (keeps n y) refl none k is (λ none. none_found (n + 1) xs none)
    where
      by : (t : Bool) → keeps n y ≡ t → (if t then first_bad keeps (n + 1) xs else Some n) ≡ None
          → (k : ℕ) → slice_get (y ∷ xs) k ≡ Some x
          → (first_bad keeps (n + 1) xs ≡ None → Keeping (n + 1) xs) → keeps (n + k) x ≡ true
      by false h none k is more = absurd cc
      by true h none zero is more = here n y x h is
      by true h none (suc k) is more = there n k x (more none k x is)

  found : (n m : ℕ) (xs : List X) → first_bad keeps n xs ≡ Some m → Found n xs m
  found n m [] is = absurd cc
  found n m (y ∷ xs) is = by (keeps n y) refl is (λ some. found (n + 1) m xs some)
    where
      by : (t : Bool) → keeps n y ≡ t
          → (if t then first_bad keeps (n + 1) xs else Some n) ≡ Some m
          → (first_bad keeps (n + 1) xs ≡ Some m → Found (n + 1) xs m) → Found n (y ∷ xs) m
      by false h is more =
          let same : n ≡ m = cc in (
            0,
            omega arith,
            (y, refl, subst (λ k. keeps k y ≡ false) same h),
            λ j x less is. absurd (omega arith),
          )
      by true h is more =
          let r = more is in
          let sum : m ≡ (n + 1) + r.0 = r.1 in
          (suc r.0, omega arith, r.2, before r.0 r.3)
        where
          before : (k : ℕ)
              → ((j : ℕ) (x : X) → j < k → slice_get xs j ≡ Some x → keeps ((n + 1) + j) x ≡ true)
              → (j : ℕ) (x : X) → j < suc k → slice_get (y ∷ xs) j ≡ Some x
              → keeps (n + j) x ≡ true
          before k all zero x less is = here n y x h is
          before k all (suc j) x less is = there n j x (all j x (omega arith) is)

  pub all_keep : (xs : List X) → first_bad keeps 0 xs ≡ None → AllKeep keeps xs
  all_keep xs none n x is = let sum : 0 + n ≡ n = omega arith in
      subst (λ m. keeps m x ≡ true) sum (none_found 0 xs none n x is)

  pub is_first : (xs : List X) (m : ℕ) → first_bad keeps 0 xs ≡ Some m → IsFirstBad keeps xs m
  is_first xs m some =
      let r = found 0 m xs some in
      let sum : m ≡ 0 + r.0 = r.1 in
      let same : r.0 ≡ m = omega arith in (
        (r.2.0, subst (λ k. slice_get xs k ≡ Some r.2.0) same r.2.1, r.2.2),
        λ k x less is.
            let from : 0 + k ≡ k = omega arith in
            let within : k < r.0 = omega arith in
            subst (λ j. keeps j x ≡ true) from (r.3 k x within is),
      )

named : (ir : Ir) (c : Certificate) (a b : Option ℕ)
    → first_bad (keeps_piece ir c.passed) 0 c.passed ≡ a
    → first_bad (keeps_reason ir c.passed) 0 c.reasons ≡ b → Names ir c (fault_from a b)
named ir c (Some n) b piece reason = is_first (keeps_piece ir c.passed) c.passed n piece
named ir c None (Some n) piece reason = (
  all_keep (keeps_piece ir c.passed) c.passed piece,
  is_first (keeps_reason ir c.passed) c.reasons n reason,
)
named ir c None None piece reason = (
  all_keep (keeps_piece ir c.passed) c.passed piece,
  all_keep (keeps_reason ir c.passed) c.reasons reason,
)

pub faults_first : FaultsAreFirst
faults_first ir c =
    named ir c (first_bad (keeps_piece ir c.passed) 0 c.passed)
    (first_bad (keeps_reason ir c.passed) 0 c.reasons) refl refl
