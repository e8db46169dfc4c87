-- What holds at a call, from what is to hold after it.
use Rattle.std.specs.Prelude.{◌==◌, ℕ, List, Option, None, Some, position, nat_lt, if◌then◌else◌}
use Rattle.ir.specs.declared.fact.Fact.{Fact}
use Rattle.ir.specs.declared.fact.Fact.TheVariants.{Here, Unwritten, RootUnwritten, ReadRoot}
use Rattle.ir.specs.declared.fact.Fact.TheVariants.{ReadField, Freed}
use Rattle.ir.specs.declared.fact.Back.{Back}
use Rattle.ir.specs.declared.fact.Back.TheVariants.{FromReturn, Stays}
use Rattle.ir.specs.Table.{at_call}

abbrev pub from_place : (parameters j : ℕ) → (s x : ℕ) → Back
from_place parameters j s x = if nat_lt j parameters then FromReturn (Unwritten j s x) else Stays

abbrev pub from_position : (parameters : ℕ) → Option ℕ → (s x : ℕ) → Back
from_position parameters None s x = Stays
from_position parameters (Some j) s x = from_place parameters j s x

-- where a fact right after a call comes from
abbrev pub back_in : (parameters to : ℕ) → List ℕ → Fact → Back
back_in parameters to args (Unwritten r s x) = if r == to then FromReturn Here
    else from_position parameters (position (λ a. a == r) args) s x
back_in parameters to args Here = FromReturn Here
back_in parameters to args (RootUnwritten x) = FromReturn (RootUnwritten x)
back_in parameters to args (ReadRoot x) = FromReturn (ReadRoot x)
back_in parameters to args (ReadField s x) = FromReturn (ReadField s x)
back_in parameters to args Freed = FromReturn Freed

-- the fact that has to hold at the called function's return
abbrev pub exit_of : Back → Fact
exit_of (FromReturn y) = y
exit_of Stays = Here

-- the fact at the call, if the piece through the called function begins with x
abbrev pub before_call : Back → List ℕ → (x b : Fact) → Fact
before_call (FromReturn y) args x b = at_call args x
before_call Stays args x b = b
