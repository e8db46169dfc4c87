-- Where the jumps of a program lead.
use Rattle.std.specs.Prelude.{◌≡◌, ◌==◌, ◌&&◌, ◌+◌, ◌-◌, ◌<◌, ◌≤◌, ℕ, Bool, true, false, List}
use Rattle.std.specs.Prelude.{Option, Some, None, slice_get, slice_set, nat_lt, nat_le}
use Rattle.std.specs.Prelude.{if◌then◌else◌}
use Rattle.ir.specs.declared.instruction.Instruction.{Instruction}
use Rattle.ir.specs.declared.instruction.Instruction.TheVariants.{Jump, Branch}
use Rattle.ir.specs.declared.function.IrFunction.{IrFunction}
use Rattle.walk_maker.specs.declared.jumps.Jumps.{Jumps}

abbrev pub landing_of : Instruction → Option ℕ
landing_of (Jump place) = Some place
landing_of (Branch on place) = Some place
landing_of _ = None

abbrev pub jumps_to : Option ℕ → ℕ → Bool
jumps_to None q = false
jumps_to (Some t) q = q == t

-- no instruction from place a on and before place b jumps to q
abbrev pub NoneJumps : List Instruction → (q a b : ℕ) → Type 0
NoneJumps code q a b = (p : ℕ) (i : Instruction) → slice_get code p ≡ Some i → a ≤ p → p < b
    → jumps_to (landing_of i) q ≡ false

-- what is kept of the jumps from place d on holds
pub record AreJumpsFrom (code : List Instruction) (d : ℕ) (j : Jumps) : Type 0 where
  pub quiet_first : (q n : ℕ) → slice_get j.firsts q ≡ Some n → NoneJumps code q d n
  pub quiet_next : (p n q : ℕ) (i : Instruction) → d ≤ p → slice_get j.nexts p ≡ Some n
      → slice_get code p ≡ Some i → jumps_to (landing_of i) q ≡ true → NoneJumps code q (p + 1) n

abbrev pub AreJumps : List Instruction → Jumps → Type 0
AreJumps code j = AreJumpsFrom code 0 j

-- the number, or 0
abbrev pub number_or_zero : Option ℕ → ℕ
number_or_zero None = 0
number_or_zero (Some n) = n

abbrev pub first_jump : Jumps → ℕ → ℕ
first_jump j q = number_or_zero (slice_get j.firsts q)

abbrev pub next_jump : Jumps → ℕ → ℕ
next_jump j p = number_or_zero (slice_get j.nexts p)

-- with the instruction at place p, which jumps there
abbrev pub noted : Option ℕ → (p : ℕ) → Jumps → Jumps
noted None p j = j
noted (Some t) p j = record {
  firsts = slice_set j.firsts t p;
  nexts = slice_set j.nexts p (first_jump j t);
}

abbrev pub AreAllJumps : List IrFunction → List Jumps → Type 0
AreAllJumps functions js = (f : ℕ) (u : IrFunction) (j : Jumps) → slice_get functions f ≡ Some u
    → slice_get js f ≡ Some j → AreJumps u.code j

abbrev pub first_at : Option Jumps → ℕ → ℕ
first_at None q = 0
first_at (Some j) q = first_jump j q

abbrev pub next_at : Option Jumps → ℕ → ℕ
next_at None p = 0
next_at (Some j) p = next_jump j p

abbrev pub first_in : List Jumps → (f q : ℕ) → ℕ
first_in js f q = first_at (slice_get js f) q

abbrev pub next_in : List Jumps → (f p : ℕ) → ℕ
next_in js f p = next_at (slice_get js f) p

abbrev pub later_of : (at jump : ℕ) → ℕ
later_of at jump = if nat_lt at jump then jump else at

-- the first place from `at` on that may lead to q, if no jump before `jump` leads there
abbrev pub candidate : (q at jump : ℕ) → ℕ
candidate q at jump = if nat_lt at q && nat_le q jump then q - 1 else later_of at jump

-- the bound for the places after p: no jump before it leads to q; `jump` is the bound for p itself
abbrev pub jump_after : List Jumps → (f q jump p : ℕ) → Instruction → ℕ
jump_after js f q jump p i =
    if (p == jump) && jumps_to (landing_of i) q then next_in js f p else jump
