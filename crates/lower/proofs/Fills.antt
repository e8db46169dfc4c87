-- Filling holes, one after another.
use Rattle.std.proofs.Common.{◌≡◌, ℕ, zero, suc, ◌+◌, ◌≤◌, Bool, true, false, List, [], ◌∷◌, length}
use Rattle.std.proofs.Common.{refl, sym, ap, arith, add-one}
use Rattle.std.specs.Prelude.{slice_set, if◌then◌else◌}
use Rattle.ir.specs.declared.instruction.Instruction.{Instruction}
use Rattle.ir.specs.declared.instruction.Instruction.TheVariants.{Const, Copy, Bin, Jump, Branch}
use Rattle.ir.specs.declared.instruction.Instruction.TheVariants.{Load, Store, New, Free, Call}
use Rattle.ir.specs.declared.instruction.Instruction.TheVariants.{Return, Tick, Trap, Log}
use Rattle.lower.specs.inside.Holes.{hole_filled, is_hole, is_hole_at, fill_from}

filled_hole : (h place : ℕ) (i : Instruction) → is_hole h i ≡ true
    → hole_filled h place i ≡ Jump place
filled_hole h place (Jump q) e = ap (λ (b : Bool). Jump (if b then place else q)) e
filled_hole h place (Const to value) e = cc
filled_hole h place (Copy to from) e = cc
filled_hole h place (Bin op to left right) e = cc
filled_hole h place (Branch on q) e = cc
filled_hole h place (Load to target) e = cc
filled_hole h place (Store target from line) e = cc
filled_hole h place (New to kind log_fill line) e = cc
filled_hole h place (Free from kind line) e = cc
filled_hole h place (Call to function args) e = cc
filled_hole h place (Return from) e = cc
filled_hole h place Tick e = cc
filled_hole h place (Trap kind) e = cc
filled_hole h place (Log target) e = cc

filled_none : (h place : ℕ) (i : Instruction) → is_hole h i ≡ false → hole_filled h place i ≡ i
filled_none h place (Jump q) e = ap (λ (b : Bool). Jump (if b then place else q)) e
filled_none h place (Const to value) e = refl
filled_none h place (Copy to from) e = refl
filled_none h place (Bin op to left right) e = refl
filled_none h place (Branch on q) e = refl
filled_none h place (Load to target) e = refl
filled_none h place (Store target from line) e = refl
filled_none h place (New to kind log_fill line) e = refl
filled_none h place (Free from kind line) e = refl
filled_none h place (Call to function args) e = refl
filled_none h place (Return from) e = refl
filled_none h place Tick e = refl
filled_none h place (Trap kind) e = refl
filled_none h place (Log target) e = refl

fill_from_hole : (h n place : ℕ) (c : List Instruction) → is_hole_at h c n ≡ true
    → fill_from h (suc n) place (slice_set c n (Jump place)) ≡ fill_from h n place c
fill_from_hole h zero place [] e = refl
fill_from_hole h (suc n) place [] e = refl
fill_from_hole h zero place (i ∷ is) e =
    ap (λ (j : Instruction). j ∷ fill_from h 0 place is) (sym (filled_hole h place i e))
fill_from_hole h (suc n) place (i ∷ is) e = ap (λ l. i ∷ l) (fill_from_hole h n place is e)

fill_from_none : (h n place : ℕ) (c : List Instruction) → is_hole_at h c n ≡ false
    → fill_from h (suc n) place c ≡ fill_from h n place c
fill_from_none h zero place [] e = refl
fill_from_none h (suc n) place [] e = refl
fill_from_none h zero place (i ∷ is) e =
    ap (λ (j : Instruction). j ∷ fill_from h 0 place is) (sym (filled_none h place i e))
fill_from_none h (suc n) place (i ∷ is) e = ap (λ l. i ∷ l) (fill_from_none h n place is e)

pub fill_from_hole_more : (h n place : ℕ) (c : List Instruction) → is_hole_at h c n ≡ true
    → fill_from h (n + 1) place (slice_set c n (Jump place)) ≡ fill_from h n place c
fill_from_hole_more h n place c e = rw add-one (fill_from_hole h n place c e)

pub fill_from_none_more : (h n place : ℕ) (c : List Instruction) → is_hole_at h c n ≡ false
    → fill_from h (n + 1) place c ≡ fill_from h n place c
fill_from_none_more h n place c e = rw add-one (fill_from_none h n place c e)

pub fill_from_past : (h n place : ℕ) (c : List Instruction) → length c ≤ n
    → fill_from h n place c ≡ c
fill_from_past h zero place [] le = refl
fill_from_past h (suc n) place [] le = refl
fill_from_past h zero place (i ∷ is) le = absurd (omega arith)
fill_from_past h (suc n) place (i ∷ is) le =
    ap (λ l. i ∷ l) (fill_from_past h n place is (omega arith))

pub ruleset fills = (fill_from_hole_more, fill_from_none_more, fill_from_past)
