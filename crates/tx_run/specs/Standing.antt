-- Whether a pool takes a call: its mark is 0, and the number of finished calls (DONE) and the
-- attempt (ATTEMPT) are from 0 to 2^62 - 1. The mark is checked first.
use Rattle.std.specs.Prelude.{◌^◌, Bool, false, ◌&&◌, nat_lt, if◌then◌else◌, ℤ, pos, negsuc}
use Rattle.std.specs.Ordering.{int_eq}
use Rattle.cache_model.specs.Cache.{Words}
use Rattle.pool_layout.specs.declared.places.TheConstants.{DONE, ATTEMPT, MARK}
use Rattle.pool_map.specs.declared.trap.TrapKind.{TrapKind}
use Rattle.pool_map.specs.declared.trap.TrapKind.TheVariants as trap
use Rattle.pool_map.specs.Trap.{trap_of}
use Rattle.pm_machine.specs.Machine.{trap_at}
use Rattle.tx_run.specs.declared.standing.Standing.{Standing}
use Rattle.tx_run.specs.declared.standing.Standing.TheVariants.{Ready, Unusable, Numbers}

-- the trap of a mark; a mark that is no trap's number counts as Depth
abbrev pub trap_of_mark : ℤ → TrapKind
trap_of_mark (pos n) = if nat_lt n (2 ^ 32) then trap_at (trap_of n) else trap.Depth
trap_of_mark (negsuc n) = trap.Depth

abbrev pub is_number : ℤ → Bool
is_number (pos n) = nat_lt n (2 ^ 62)
is_number (negsuc n) = false

abbrev pub standing_of : Words → Standing
standing_of w =
    if int_eq (w MARK) (pos 0) then (if is_number (w DONE) && is_number (w ATTEMPT) then Ready
    else Numbers)
    else Unusable (trap_of_mark (w MARK))
