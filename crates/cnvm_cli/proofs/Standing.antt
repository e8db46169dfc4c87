-- How serving stands where it ends.
use Rattle.std.proofs.Common.{◌≡◌, Result, Ok, Err, List, ℤ, ℕ, Option, refl, subst}
use Rattle.file_pmem.specs.declared.link.MirrorState.{MirrorState}
use Rattle.file_pmem.specs.declared.link.MirrorState.TheVariants.{Awake}
use Rattle.pmem.specs.Device.{Device}
use Rattle.cnvm_session.specs.declared.creating.StartFault.{StartFault}
use Rattle.cnvm_session.specs.declared.program.Program.{Program}
use Rattle.session_serve.specs.declared.serving.Served.{Served}
use Rattle.session_serve.specs.declared.serving.Served.TheVariants as served
use Rattle.session_serve.specs.Begins.{OpenedServed}
use Rattle.cnvm_cli.specs.Serve.{StandsAt, IsNeverGivenUp}

pub never_given : (r : Result Served StartFault) → (r ≡ Ok served.GivenUp → ⊥) → IsNeverGivenUp r
never_given (Ok served.GivenUp) never = never refl
never_given (Ok served.Done) never = tt
never_given (Ok served.ReadFault) never = tt
never_given (Ok served.LongLine) never = tt
never_given (Ok served.ManyLines) never = tt
never_given (Ok served.NoMemory) never = tt
never_given (Ok served.WriteFault) never = tt
never_given (Err why) never = tt

pub stands_at : (r : Result Served StartFault) (s : MirrorState)
    → (r ≡ Ok served.Done → s ≡ Awake) → (r ≡ Ok served.ReadFault → s ≡ Awake)
    → (r ≡ Ok served.GivenUp → s ≡ Awake → ⊥) → StandsAt r s
stands_at (Ok served.Done) s done read given_up = done refl
stands_at (Ok served.ReadFault) s done read given_up = read refl
stands_at (Ok served.LongLine) s done read given_up = tt
stands_at (Ok served.ManyLines) s done read given_up = tt
stands_at (Ok served.NoMemory) s done read given_up = tt
stands_at (Ok served.WriteFault) s done read given_up = tt
stands_at (Ok served.GivenUp) s done read given_up = given_up refl
stands_at (Err why) s done read given_up = tt

pub made_stands : (end : Served) (s : MirrorState) → (end ≡ served.Done → s ≡ Awake)
    → (end ≡ served.ReadFault → s ≡ Awake) → (end ≡ served.GivenUp → s ≡ Awake → ⊥)
    → StandsAt (Ok end) s
made_stands served.Done s done read given_up = done refl
made_stands served.ReadFault s done read given_up = read refl
made_stands served.LongLine s done read given_up = tt
made_stands served.ManyLines s done read given_up = tt
made_stands served.NoMemory s done read given_up = tt
made_stands served.WriteFault s done read given_up = tt
made_stands served.GivenUp s done read given_up = given_up refl

pub opened_by : (r : Result Served StartFault) (left left' : Option (List ℕ)) (program : Program)
    (h w : List ℤ) (d d' : Device) (o o' : Option (List ℕ)) (k k' : ℕ) → h ≡ w
    → OpenedServed r left left' program h d o k d' o' k'
    → OpenedServed r left left' program w d o k d' o' k'
opened_by r left left' program h w d d' o o' k k' same ran =
    subst (λ (xs : List ℤ). OpenedServed r left left' program xs d o k d' o' k') same ran
