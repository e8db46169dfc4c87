-- The transfer table: which facts before an instruction give each fact after it.
use Rattle.std.specs.Prelude.{◌≡◌, ◌==◌, ◌&&◌, ◌||◌, not, ℕ, Bool, true, if◌then◌else◌, List}
use Rattle.std.specs.Prelude.{Option, Some, None, slice_get, position}
use mathlib.Core.Logic.{◌⊎◌}
use Rattle.ir.specs.declared.instruction.Target.TheVariants.{Root, Field}
use Rattle.ir.specs.declared.instruction.Instruction.{Instruction}
use Rattle.ir.specs.declared.instruction.Instruction.TheVariants.{Const, Copy, Bin, Load, Store}
use Rattle.ir.specs.declared.instruction.Instruction.TheVariants.{New, Free}
use Rattle.ir.specs.declared.fact.Fact.{Fact}
use Rattle.ir.specs.declared.fact.Fact.TheVariants.{Here, Unwritten, RootUnwritten, ReadRoot}
use Rattle.ir.specs.declared.fact.Fact.TheVariants.{ReadField, Freed}
use Rattle.ir.specs.declared.fact.Origins.{Origins}
use Rattle.ir.specs.declared.fact.Origins.TheVariants.{Nowhere, One, Two}
use Rattle.ir.specs.declared.fact.Back.{Back}
use Rattle.ir.specs.declared.fact.Back.TheVariants.{FromReturn, Stays}
use Rattle.ir.specs.Walk.{Kept}

-- whether a fact holds of what a walk keeps
abbrev pub holds : Kept → Fact → Bool
holds k Here = true
holds k (Unwritten r s x) = not (k.written r s x)
holds k (RootUnwritten x) = not (k.root x)
holds k (ReadRoot x) = k.root_read x
holds k (ReadField s x) = k.field_read s x
holds k Freed = k.freed

-- the fact is one of these origins
abbrev pub AmongOrigins : Fact → Origins → Type 0
AmongOrigins a Nowhere = ⊥
AmongOrigins a (One b) = a ≡ b
AmongOrigins a (Two b c) = (a ≡ b) ⊎ (a ≡ c)

-- the origins of 'not surely written through r'
abbrev pub unwritten_from : Instruction → ℕ → ℕ → ℕ → Origins
unwritten_from (Const to v) r s x = if r == to then One Here else One (Unwritten r s x)
unwritten_from (Bin op to left right) r s x = if r == to then One Here else One (Unwritten r s x)
unwritten_from (Copy to from) r s x = if r == to then One (Unwritten from s x)
    else One (Unwritten r s x)
unwritten_from (Load to t) r s x = if r == to then One Here else One (Unwritten r s x)
unwritten_from (New to kind log_fill line) r s x = if r == to then Nowhere
    else One (Unwritten r s x)
unwritten_from (Store (Field b t y None) from line) r s x = if (r == b) && ((s == t) && (x == y))
    then Nowhere else One (Unwritten r s x)
unwritten_from _ r s x = One (Unwritten r s x)

abbrev pub root_unwritten_from : Instruction → ℕ → Origins
root_unwritten_from (Store (Root y None) from line) x = if x == y then Nowhere
    else One (RootUnwritten x)
root_unwritten_from _ x = One (RootUnwritten x)

abbrev pub root_read_from : Instruction → ℕ → Origins
root_read_from (Load to (Root y i)) x = if x == y then Two (ReadRoot x) (RootUnwritten x)
    else One (ReadRoot x)
root_read_from _ x = One (ReadRoot x)

abbrev pub field_read_from : Instruction → ℕ → ℕ → Origins
field_read_from (Load to (Field b t y i)) s x = if (s == t) && (x == y)
    then Two (ReadField s x) (Unwritten b s x) else One (ReadField s x)
field_read_from _ s x = One (ReadField s x)

abbrev pub freed_from : Instruction → Origins
freed_from (Free from kind line) = One Here
freed_from _ = One Freed

-- the facts before an instruction that is neither a call nor a return, any of which gives the fact
-- after it
abbrev pub origins : Instruction → Fact → Origins
origins i Here = One Here
origins i (Unwritten r s x) = unwritten_from i r s x
origins i (RootUnwritten x) = root_unwritten_from i x
origins i (ReadRoot x) = root_read_from i x
origins i (ReadField s x) = field_read_from i s x
origins i Freed = freed_from i

-- the fact of a parameter comes from its argument; any other register of the function has nothing
-- surely written
abbrev pub argument_fact : Option ℕ → ℕ → ℕ → Fact
argument_fact None s x = Here
argument_fact (Some a) s x = Unwritten a s x

-- the fact at a call that gives a fact at the called function's entry
abbrev pub at_call : List ℕ → Fact → Fact
at_call args (Unwritten r s x) = argument_fact (slice_get args r) s x
at_call args Here = Here
at_call args (RootUnwritten x) = RootUnwritten x
at_call args (ReadRoot x) = ReadRoot x
at_call args (ReadField s x) = ReadField s x
at_call args Freed = Freed

abbrev pub from_parameter : Option ℕ → ℕ → ℕ → Back
from_parameter None s x = Stays
from_parameter (Some j) s x = FromReturn (Unwritten j s x)

-- the origin of a fact after a call
abbrev pub back : ℕ → List ℕ → Fact → Back
back to args (Unwritten r s x) = if r == to then FromReturn Here
    else from_parameter (position (λ a. a == r) args) s x
back to args Here = FromReturn Here
back to args (RootUnwritten x) = FromReturn (RootUnwritten x)
back to args (ReadRoot x) = FromReturn (ReadRoot x)
back to args (ReadField s x) = FromReturn (ReadField s x)
back to args Freed = FromReturn Freed
