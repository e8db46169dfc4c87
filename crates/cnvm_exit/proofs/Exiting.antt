-- How a call on files ends: on a new device, and where it finds no memory to read its words.
use Rattle.std.proofs.Common.{◌≡◌, ℕ, List, None, refl, subst}
use Rattle.pmem.specs.Device.{Device}
use Rattle.cnvm_words.specs.Asked.{plan_of}
use Rattle.session_run.specs.declared.status.Status.{Status}
use Rattle.session_run.specs.declared.status.Status.TheVariants as status
use Rattle.cnvm_exit.specs.Exits.{no_sources, new_device, EndsCall}
use Rattle.cnvm_cli.specs.Meant.{CallMeant}
use Rattle.cnvm_cli.specs.PoolMeant.{HasPool}
use Rattle.cnvm_cli.specs.World.{seen}
use Rattle.cnvm_cli.proofs.meant.Meaning.{memory_meant}
use Rattle.cnvm_cli.proofs.Faultless.{call_never}

-- the call begins on a device that is new, with no step so far
pub ends_on : (words : List (List ℕ)) (result : Status) (d b : Device) (k j : ℕ)
    → CallMeant (plan_of words) no_sources result (seen None None d k) (seen None None b j)
    → d ≡ new_device → k ≡ 0 → EndsCall words result
ends_on words result d b k j meant new none = (
  b,
  j,
  subst (λ (x : Device). CallMeant (plan_of words) no_sources result (seen None None x 0)
      (seen None None b j)) new
      (subst (λ (i : ℕ). CallMeant (plan_of words) no_sources result (seen None None d i)
      (seen None None b j)) none meant),
)

pub memory_ends : (words : List (List ℕ)) → EndsCall words status.NoMemory
memory_ends words = (
  new_device,
  0,
  memory_meant (plan_of words) no_sources (seen None None new_device 0)
      (seen None None new_device 0) tt (tt, refl, refl),
)

-- a new device has no armed fault, so it never fails, but for one over a pool's file
pub never_ends : (words : List (List ℕ)) (result : Status) → EndsCall words result
    → result ≡ status.DeviceFault → HasPool (plan_of words)
never_ends words result ends is =
    let call : EndsCall words status.DeviceFault = subst (EndsCall words) is ends in
    call_never (plan_of words) no_sources (seen None None new_device 0)
    (seen None None call.0 call.1) refl call.2
