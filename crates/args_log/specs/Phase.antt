-- How far the seal of call k has come, from the versions of its line: none has it, some have it, or
-- all have it.
use Rattle.std.specs.Prelude.{Bool, if◌then◌else◌, ℤ}
use Rattle.std.specs.Ordering.{int_eq}
use Rattle.std.specs.List.{list_all, list_any}
use Rattle.cache_model.specs.Cache.{Words, Line, versions}
use Rattle.pmem.specs.declared.answer.Phase.{Phase}
use Rattle.pmem.specs.declared.answer.Phase.TheVariants.{Unsealed, Sealing, Sealed}
use Rattle.pool_layout.specs.declared.places.TheConstants.{SEAL}

abbrev pub has_seal : ℤ → Words → Bool
has_seal k version = int_eq (version SEAL) k

abbrev pub phase_of : Line → ℤ → Phase
phase_of line k =
    if list_all (has_seal k) (versions line) then Sealed
    else (if list_any (has_seal k) (versions line) then Sealing else Unsealed)
