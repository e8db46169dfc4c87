-- The recovery of one compartment.
use Rattle.std.proofs.Common.{◌≡◌, ◌∙◌, ℕ, Bool, true, false, if◌then◌else◌, None, length, refl}
use Rattle.std.proofs.Common.{sym, ap, subst}
use Rattle.pmem.specs.Device.{Device}
use Rattle.pm_machine.specs.declared.records.Policy.{Policy}
use Rattle.recovery.specs.Recovered.{IsRecovered}
use Rattle.recovery.specs.declared.answer.RecoverAnswer.{RecoverAnswer}
use Rattle.recovery.specs.declared.answer.RecoverAnswer.TheVariants as recovered
use Rattle.pool_workers.specs.Crew.{Tasks, task_at, OtherTasksStay, compartment, StaysAside}
use Rattle.cnvm_session.specs.declared.program.Program.{Program}
use Rattle.cnvm_session.specs.Marks.{policy_of, owes_marked}
use Rattle.workers_session.specs.WorkersState.{WorkersState}
use Rattle.workers_session.specs.WorkersCommands.{scene_of, ends_power, keeps_down, RecoversOne}

pub down_before : (keeps down : Bool) → down ≡ true → true ≡ (if keeps then true else down)
down_before true down is = refl
down_before false down is = sym is

pub down_by : (keeps down : Bool) → down ≡ false → keeps ≡ (if keeps then true else down)
down_by true down is = refl
down_by false down is = sym is

ends_keeps : (a : RecoverAnswer) → ends_power a ≡ true → keeps_down a ≡ true
ends_keeps recovered.Clean is = absurd cc
ends_keeps (recovered.Redone v l) is = absurd cc
ends_keeps (recovered.Trap t) is = absurd cc
ends_keeps (recovered.Aborted t) is = absurd cc
ends_keeps (recovered.Unusable t) is = absurd cc
ends_keeps recovered.Numbers is = absurd cc
ends_keeps (recovered.Off p) is = refl
ends_keeps recovered.Failed is = refl
ends_keeps recovered.NoMemory is = refl

pub ends_down : (a : RecoverAnswer) (down now : Bool)
    → now ≡ (if keeps_down a then true else down) → ends_power a ≡ true → now ≡ true
ends_down a down now is over =
    is ∙ ap (λ (keeps : Bool). if keeps then true else down) (ends_keeps a over)

pub recovers_one : (program : Program) (worker : ℕ) (a : RecoverAnswer) (w : WorkersState)
    (us : Tasks) (e d b : Device) (k k1 : ℕ) (p : Policy) (marked now : Bool) → e ≡ d
    → p ≡ policy_of marked → marked ≡ owes_marked program (compartment program.image worker d)
    → IsRecovered a p program.image (compartment program.image worker e)
    (compartment program.image worker b) k k1
    → task_at us worker ≡ None → OtherTasksStay worker w.tasks us → length us ≡ length w.tasks
    → StaysAside program.image worker e b → now ≡ (if keeps_down a then true else w.down)
    → RecoversOne program worker a (scene_of w d k)
    (scene_of (record { tasks = us; down = now }) b k1)
recovers_one program worker a w us e d b k k1 p marked now same by mark is dropped others count
    aside down =
    let image = program.image in
    record {
      recovered = subst (λ (q : Policy). IsRecovered a q image (compartment image worker d)
          (compartment image worker b) k k1) (by ∙ ap policy_of mark)
          (subst (λ (x : Device). IsRecovered a p image (compartment image worker x)
          (compartment image worker b) k k1) same is);
      dropped = dropped;
      others = others;
      count = count;
      aside = subst (λ (x : Device). StaysAside image worker x b) same aside;
      down = down;
    }
