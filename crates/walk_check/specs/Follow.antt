-- Which fact follows from which: along one instruction, into a call, and past one. The table for an
-- instruction is that of ir (origins); those for a call are at_call and back.
use Rattle.std.specs.Prelude.{◌==◌, ◌&&◌, ◌||◌, ◌+◌, ℕ, Bool, true, false, List, Option, Some}
use Rattle.std.specs.Prelude.{None, slice_get, position}
use Rattle.ir.specs.declared.instruction.Target.{Target}
use Rattle.ir.specs.declared.instruction.Target.TheVariants.{Root, Field}
use Rattle.ir.specs.declared.instruction.Instruction.{Instruction}
use Rattle.ir.specs.declared.instruction.Instruction.TheVariants.{Jump, Branch, Load, Call, Return}
use Rattle.ir.specs.declared.instruction.Instruction.TheVariants.{Trap}
use Rattle.ir.specs.declared.fact.Fact.{Fact}
use Rattle.ir.specs.declared.fact.Fact.TheVariants.{Here, Unwritten, RootUnwritten, ReadRoot}
use Rattle.ir.specs.declared.fact.Origins.{Origins}
use Rattle.ir.specs.declared.fact.Origins.TheVariants.{One, Two}
use Rattle.ir.specs.declared.fact.Back.{Back}
use Rattle.ir.specs.declared.fact.Back.TheVariants.{FromReturn, Stays}
use Rattle.ir.specs.Table.{origins}
use Rattle.walk_check.specs.Facts.{same, among}

-- an instruction at p leads to q within its function
abbrev pub leads : Instruction → ℕ → ℕ → Bool
leads (Jump place) p q = q == place
leads (Branch on place) p q = (q == p + 1) || (q == place)
leads (Call to g args) p q = false
leads (Return from) p q = false
leads (Trap kind) p q = false
leads _ p q = q == p + 1

-- a load of an element of the root's array field x: its target counts as unwritten from Start on
abbrev pub array_read : Instruction → Fact → Fact → Bool
array_read (Load to (Root y (Some i))) Here (ReadRoot x) = x == y
array_read _ _ _ = false

-- after an instruction, b follows from a
abbrev pub along : Instruction → Fact → Fact → Bool
along i a b = among a (origins i b) || array_read i a b

-- the fact a isn't about an argument, or is Start
abbrev pub unpassed : List ℕ → Fact → Bool
unpassed args Here = true
unpassed args (Unwritten r s x) = no_place (position (λ a. a == r) args)
  where
    no_place : Option ℕ → Bool
    no_place None = true
    no_place (Some j) = false
unpassed args _ = false

abbrev pub bound_argument : Option ℕ → ℕ → ℕ → Fact → Bool
bound_argument None s x a = false
bound_argument (Some r) s x a = same a (Unwritten r s x)

-- the fact a at a call is bound as b at the called function's entry. A fact that isn't about an
-- argument is bound as Start.
abbrev pub binds : List ℕ → Fact → Fact → Bool
binds args a (Unwritten j s x) = bound_argument (slice_get args j) s x a
binds args a Here = unpassed args a
binds args a b = same a b

-- past a call, b follows from a through a piece from x to y: b is what the return gives back, or it
-- isn't about an argument and holds as before
abbrev pub passes : List ℕ → (a x y b : Fact) → Back → Bool
passes args a x y b (FromReturn z) = same z y && binds args a x
passes args a x y b Stays = same a b && (same x Here && same y Here)

-- the facts with which a store's target is unwritten. In an array of the root it counts as
-- unwritten from Start on.
abbrev pub unwritten_ends : Target → Origins
unwritten_ends (Root x None) = One (RootUnwritten x)
unwritten_ends (Root x (Some i)) = Two (RootUnwritten x) Here
unwritten_ends (Field b s x i) = One (Unwritten b s x)
