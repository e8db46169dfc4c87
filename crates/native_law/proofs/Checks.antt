-- What the checks of an image say of its functions and their instructions.
use Rattle.std.proofs.Common.{◌≡◌, ℕ, zero, suc, ◌+◌, ◌<◌, ◌≤◌, refl, subst, arith}
use Rattle.std.proofs.Common.{Bool, true, false, Option, Some, None, List, [], ◌∷◌, length}
use Rattle.std.specs.Prelude.{slice_get, nat_lt, nat_le, ◌&&◌, if◌then◌else◌}
use Rattle.std.proofs.lemmas.Bool.{ltb-true, ltb-false, leb-true}
use Rattle.pm_machine.specs.declared.op.Op.{Op}
use Rattle.pm_machine.specs.declared.op.Function.{Function}
use Rattle.pm_machine.specs.Checked.{is_good_op, bad_from, bad_in, bad_of, at_function}
use Rattle.pm_machine.specs.Checked.{most_registers}
use Rattle.native_law.proofs.Tests.{left_of, right_of}

-- a test that passed, where no place is bad
tested : (t : Bool) (x : ℕ) (later : Option ℕ) → (if t then later else Some x) ≡ None
    → (t ≡ true) × (later ≡ None)
tested true x later e = (refl, e)
tested false x later e = absurd (cc)

good_from : (us : List Function) (u : Function) (p : ℕ) (ops : List Op)
    → bad_from us u p ops ≡ None → (i : ℕ) (op : Op) → slice_get ops i ≡ Some op
    → is_good_op us u (p + i) op ≡ true
good_from us u p [] e i op at = absurd (cc)
good_from us u p (o ∷ ops) e zero op at =
    let good = (tested (is_good_op us u p o) p (bad_from us u (p + 1) ops) e).0 in
    let same : o ≡ op = cc in
    let here : p ≡ p + 0 = omega arith in
    subst (λ (k : ℕ). is_good_op us u k op ≡ true) here
    (subst (λ (x : Op). is_good_op us u p x ≡ true) same good)
good_from us u p (o ∷ ops) e (suc i) op at =
    let there : p + 1 + i ≡ p + suc i = omega arith in
    subst (λ (k : ℕ). is_good_op us u k op ≡ true) there (good_from us u (p + 1) ops
    (tested (is_good_op us u p o) p (bad_from us u (p + 1) ops) e).1 i op at)

both_none : (f : ℕ) (x : Option ℕ) (later : Option (ℕ × ℕ)) → at_function f x later ≡ None
    → (x ≡ None) × (later ≡ None)
both_none f None later e = (refl, e)
both_none f (Some p) later e = absurd (cc)

none_bad : (us : List Function) (f : ℕ) (rest : List Function) → bad_of us f rest ≡ None → (i : ℕ)
    (u : Function) → slice_get rest i ≡ Some u → bad_in us u ≡ None
none_bad us f [] e i u at = absurd (cc)
none_bad us f (v ∷ rest) e zero u at =
    let same : v ≡ u = cc in
    subst (λ (w : Function). bad_in us w ≡ None) same
    (both_none f (bad_in us v) (bad_of us (f + 1) rest) e).0
none_bad us f (v ∷ rest) e (suc i) u at =
    none_bad us (f + 1) rest (both_none f (bad_in us v) (bad_of us (f + 1) rest) e).1 i u at

module _ (us : List Function) (f : ℕ) (u : Function) (good : bad_of us 0 us ≡ None)
    (found : slice_get us f ≡ Some u) where
  parts : (nat_le u.parameters u.registers && nat_lt 0 (length u.code) ≡ true)
      × (bad_from us u 0 u.code ≡ None)
  parts = tested (nat_le u.parameters u.registers && nat_lt 0 (length u.code)) 0
      (bad_from us u 0 u.code) (none_bad us 0 us good f u found)

  pub parameters_fit : u.parameters ≤ u.registers
  parameters_fit = leb-true u.parameters u.registers
      (left_of (nat_le u.parameters u.registers) (nat_lt 0 (length u.code)) parts.0)

  pub some_code : 0 < length u.code
  some_code = ltb-true 0 (length u.code)
      (right_of (nat_le u.parameters u.registers) (nat_lt 0 (length u.code)) parts.0)

  pub good_at : (p : ℕ) (op : Op) → slice_get u.code p ≡ Some op → is_good_op us u p op ≡ true
  good_at p op at =
      let here : 0 + p ≡ p = omega arith in
      subst (λ (k : ℕ). is_good_op us u k op ≡ true) here (good_from us u 0 u.code parts.1 p op at)

greater : (n m : ℕ) (t : Bool) → nat_lt n m ≡ t
    → (n ≤ (if t then m else n)) × (m ≤ (if t then m else n))
greater n m true e = let below = ltb-true n m e in (omega arith, omega arith)
greater n m false e = let above = ltb-false n m e in (omega arith, omega arith)

most_past : (n : ℕ) (us : List Function) → n ≤ most_registers n us
most_past n [] = omega arith
most_past n (u ∷ us) =
    let more : ℕ = if nat_lt n u.registers then u.registers else n in
    let rest = most_past more us in
    let past = (greater n u.registers (nat_lt n u.registers) refl).0 in
    omega (arith, rest, past)

pub most_at : (n : ℕ) (us : List Function) (k : ℕ) (u : Function) → slice_get us k ≡ Some u
    → u.registers ≤ most_registers n us
most_at n [] k u e = absurd (cc)
most_at n (v ∷ us) zero u e =
    let same : v ≡ u = cc in
    let more : ℕ = if nat_lt n v.registers then v.registers else n in
    let rest = most_past more us in
    let past = (greater n v.registers (nat_lt n v.registers) refl).1 in
    let all : v.registers ≤ most_registers more us = omega (arith, rest, past) in
    subst (λ (w : Function). w.registers ≤ most_registers more us) same all
most_at n (v ∷ us) (suc k) u e =
    most_at (if nat_lt n v.registers then v.registers else n) us k u e
