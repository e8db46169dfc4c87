-- Which stores are logged: those that may overwrite a word that was read before.
use Rattle.std.specs.Prelude.{◌≡◌, ℕ, Bool, true, false, List, Some}
use mathlib.Core.Logic.{◌⊎◌}
use Rattle.ir.specs.declared.function.IrFunction.{IrFunction}
use Rattle.ir.specs.declared.instruction.Target.{Target}
use Rattle.ir.specs.declared.instruction.Target.TheVariants.{Root, Field}
use Rattle.ir.specs.declared.instruction.Instruction.TheVariants.{Store, New, Free}
use Rattle.ir.specs.declared.site.Site.{Site}
use Rattle.ir.specs.declared.fact.Fact.{Fact}
use Rattle.ir.specs.declared.fact.Fact.TheVariants.{Unwritten, RootUnwritten, ReadRoot, ReadField}
use Rattle.ir.specs.declared.fact.Fact.TheVariants.{Freed}
use Rattle.ir.specs.Places.{instruction_at}
use Rattle.ir.specs.Walk.{Kept, Open, at, Comes}
use Rattle.ir.specs.Table.{holds}

abbrev pub unwritten : Target → Fact
unwritten (Root x i) = RootUnwritten x
unwritten (Field b s x i) = Unwritten b s x

abbrev pub read_fact : Target → Fact
read_fact (Root x i) = ReadRoot x
read_fact (Field b s x i) = ReadField s x

-- some walk reaches the place with the fact
abbrev pub SomeWalk : List IrFunction → ℕ → ℕ → Fact → Type 0
SomeWalk functions f p a = (k : Kept) × (calls : List Open) × Comes functions (at f p k calls)
    × (holds k a ≡ true)

-- A store is clobber if some walk reaches it with its target not surely written, and some walk, the
-- same or another, reaches it with its class read before.
abbrev pub IsClobber : List IrFunction → ℕ → ℕ → Type 0
IsClobber functions f p = (target : Target) × (from : ℕ) × (line : ℕ)
    × (instruction_at functions f p ≡ Some (Store target from line))
    × SomeWalk functions f p (unwritten target) × SomeWalk functions f p (read_fact target)

-- The fill of a new object is clobber if some walk reaches it after a free.
abbrev pub IsClobberFill : List IrFunction → ℕ → ℕ → Type 0
IsClobberFill functions f p = (to : ℕ) × (kind : ℕ) × (log_fill : Bool) × (line : ℕ)
    × (instruction_at functions f p ≡ Some (New to kind log_fill line))
    × SomeWalk functions f p Freed

-- Every store of a header is logged: of a new object and of a freed one.
abbrev pub WritesHeader : List IrFunction → ℕ → ℕ → Type 0
WritesHeader functions f p =
    ((to : ℕ) × (kind : ℕ) × (log_fill : Bool) × (line : ℕ)
    × (instruction_at functions f p ≡ Some (New to kind log_fill line)))
    ⊎ ((from : ℕ) × (kind : ℕ) × (line : ℕ)
    × (instruction_at functions f p ≡ Some (Free from kind line)))

abbrev pub LoggedAt : List IrFunction → Bool → ℕ → ℕ → Type 0
LoggedAt functions true f p = IsClobberFill functions f p
LoggedAt functions false f p = IsClobber functions f p ⊎ WritesHeader functions f p

-- The sites whose old values are logged.
abbrev pub IsLogged : List IrFunction → Site → Type 0
IsLogged functions s = LoggedAt functions s.fill s.function s.place
