-- Jumps whose target isn't known yet: they lead to a hole, which is a place that no code has.
use Rattle.std.specs.Prelude.{ℕ, zero, suc, ◌-◌, ◌^◌, List, [], ◌∷◌, Bool, false, if◌then◌else◌}
use Rattle.std.specs.Prelude.{nat_eq, slice_get}
use Rattle.std.specs.Option.{option_map_or}
use Rattle.ir.specs.declared.instruction.Instruction.{Instruction}
use Rattle.ir.specs.declared.instruction.Instruction.TheVariants.{Const, Copy, Bin, Jump, Branch}
use Rattle.ir.specs.declared.instruction.Instruction.TheVariants.{Load, Store, New, Free, Call}
use Rattle.ir.specs.declared.instruction.Instruction.TheVariants.{Return, Tick, Trap, Log}
use Rattle.lower.specs.Names.{nowhere}

-- the hole for jumps out of the innermost loop
abbrev pub leave : ℕ
leave = nowhere

-- the hole for a `continue` in a `for`, to its third part, or in a `do`, to its tick
abbrev pub third_part : ℕ
third_part = 2 ^ 32 - 2

abbrev pub to_place : ℕ → ℕ → ℕ → ℕ
to_place h place q = if nat_eq q h then place else q

-- an instruction whose jump to the hole h is replaced by a jump to a place
abbrev pub hole_filled : ℕ → ℕ → Instruction → Instruction
hole_filled h place (Jump q) = Jump (to_place h place q)
hole_filled h place (Const to value) = Const to value
hole_filled h place (Copy to from) = Copy to from
hole_filled h place (Bin op to left right) = Bin op to left right
hole_filled h place (Branch on q) = Branch on q
hole_filled h place (Load to target) = Load to target
hole_filled h place (Store target from line) = Store target from line
hole_filled h place (New to kind log_fill line) = New to kind log_fill line
hole_filled h place (Free from kind line) = Free from kind line
hole_filled h place (Call to function args) = Call to function args
hole_filled h place (Return from) = Return from
hole_filled h place Tick = Tick
hole_filled h place (Trap kind) = Trap kind
hole_filled h place (Log target) = Log target

abbrev pub is_hole : ℕ → Instruction → Bool
is_hole h (Jump q) = nat_eq q h
is_hole h (Const to value) = false
is_hole h (Copy to from) = false
is_hole h (Bin op to left right) = false
is_hole h (Branch on q) = false
is_hole h (Load to target) = false
is_hole h (Store target from line) = false
is_hole h (New to kind log_fill line) = false
is_hole h (Free from kind line) = false
is_hole h (Call to function args) = false
is_hole h (Return from) = false
is_hole h Tick = false
is_hole h (Trap kind) = false
is_hole h (Log target) = false

abbrev pub is_hole_at : ℕ → List Instruction → ℕ → Bool
is_hole_at h code n = option_map_or (is_hole h) (slice_get code n) false

-- the code whose jumps to the hole h, from a place on, are replaced by jumps to a place
abbrev pub fill_from : ℕ → ℕ → ℕ → List Instruction → List Instruction
fill_from h n place [] = []
fill_from h zero place (i ∷ is) = hole_filled h place i ∷ fill_from h zero place is
fill_from h (suc n) place (i ∷ is) = i ∷ fill_from h n place is
