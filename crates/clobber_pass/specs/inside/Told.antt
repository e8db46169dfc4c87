-- What a row records of the facts of a class.
use Rattle.std.specs.Prelude.{◌≡◌, ◌<◌, ◌||◌, ◌+◌, ℕ, Bool, true, false, List, Option, Some, None}
use Rattle.std.specs.Prelude.{slice_get, nat_lt, if◌then◌else◌}
use Rattle.ir.specs.declared.function.IrFunction.{IrFunction}
use Rattle.ir.specs.declared.fact.Fact.{Fact}
use Rattle.ir.specs.declared.fact.Fact.TheVariants.{Here, Unwritten, RootUnwritten, ReadRoot}
use Rattle.ir.specs.declared.fact.Fact.TheVariants.{ReadField, Freed}
use Rattle.ir.specs.declared.fact.Origins.{Origins}
use Rattle.ir.specs.declared.fact.Origins.TheVariants.{Nowhere, One, Two}
use Rattle.clobber_pass.specs.declared.topic.Topic.{Topic}
use Rattle.clobber_pass.specs.declared.topic.Topic.TheVariants.{Frees, Root, Fields}
use Rattle.clobber_pass.specs.inside.Class.{Class, is_about, slot}
use Rattle.clobber_pass.specs.Row.{tells}

-- one of the facts is recorded
abbrev pub tells_any : List ℕ → ℕ → Origins → Bool
tells_any row x Nowhere = false
tells_any row x (One a) = tells row x (slot a)
tells_any row x (Two a b) = tells row x (slot a) || tells row x (slot b)

-- the number of words of a row
abbrev pub row_width : Topic → (registers : ℕ) → ℕ
row_width Frees registers = 2
row_width (Root first) registers = 2
row_width (Fields all) registers = registers + 2

-- the column of a slot, or of a fact, at the entry of a function with n parameters: a register that
-- is no parameter has the column of the walk itself
abbrev pub column_of : ℕ → ℕ → ℕ
column_of n s = if nat_lt s (n + 2) then s else 0

abbrev pub column : ℕ → Fact → ℕ
column n e = column_of n (slot e)

abbrev pub parameter_count : Option IrFunction → ℕ
parameter_count None = 0
parameter_count (Some u) = u.parameters

abbrev pub parameters_at : List IrFunction → ℕ → ℕ
parameters_at functions g = parameter_count (slice_get functions g)

abbrev pub register_count : Option IrFunction → ℕ
register_count None = 0
register_count (Some u) = u.registers

abbrev pub registers_at : List IrFunction → ℕ → ℕ
registers_at functions g = register_count (slice_get functions g)

-- the fact's register is among the first n
abbrev pub Fits : ℕ → Fact → Type 0
Fits n (Unwritten r s x) = r < n
Fits n Here = Unit {0}
Fits n (RootUnwritten x) = Unit {0}
Fits n (ReadRoot x) = Unit {0}
Fits n (ReadField s x) = Unit {0}
Fits n Freed = Unit {0}

-- a fact that can be recorded in a function
abbrev pub Matters : List IrFunction → Class → ℕ → Fact → Type 0
Matters functions class f b = (is_about class b ≡ true) × Fits (registers_at functions f) b
