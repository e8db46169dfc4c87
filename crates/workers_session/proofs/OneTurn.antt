-- One turn of a worker, by the transaction that it has.
use Rattle.std.proofs.Common.{◌≡◌, ◌≢◌, ◌∙◌, ⊎_elim, ℕ, ◌+◌, ◌<◌, ◌≤◌, true, false, Option, Some}
use Rattle.std.proofs.Common.{None, length, refl, sym, ap, subst, arith}
use Rattle.std.proofs.lemmas.Bool.{cases_eq}
use Rattle.pmem.specs.Device.{Device}
use Rattle.pm_machine.specs.declared.image.Image.{Image}
use Rattle.pool_workers.specs.declared.answer.TurnAnswer.{TurnAnswer}
use Rattle.pool_workers.specs.declared.answer.TurnAnswer.TheVariants as turned
use Rattle.pool_workers.specs.declared.task.Task.{Task}
use Rattle.pool_workers.specs.Task.{ticks_of, IsUncutOr, IsGoing}
use Rattle.pool_workers.specs.Crew.{Tasks, task_at, AreTasks, AreUncut, HasCompartments}
use Rattle.pool_workers.specs.Crew.{OtherTasksStay}
use Rattle.pool_workers.specs.Crew.{TurnOf, compartment}
use Rattle.workers_session.specs.WorkersState.{WorkersState, IsReadyFor}
use Rattle.workers_session.specs.WorkersCommands.{is_interrupted}
use Rattle.workers_session.specs.inside.Turning.{turns_in, busy_one}
use Rattle.workers_session.proofs.Onward.{turned_on, goes_on}
use Rattle.workers_session.proofs.Rounds.{turn_fewer}

-- what a turn promises of the workers and the device, and what it was given
pub record TurnPromise (image : Image) (i : ℕ) (a : TurnAnswer) (w : WorkersState) (us : Tasks)
    (d b : Device) (k k1 : ℕ) : Type 0 where
  pub sound : IsReadyFor image w d
  pub up : w.down ≡ false
  pub known : i < length w.tasks
  pub idle : task_at w.tasks i ≡ None →
      (a ≡ turned.Idle) × (us ≡ w.tasks) × (b ≡ d) × (k1 ≡ k)
  pub turned : (t : Task) → task_at w.tasks i ≡ Some t → d.on ≡ true →
      TurnOf image i a w.tasks us d b × (k1 ≡ k + ticks_of t)
  pub uncut : IsGoing a → IsUncutOr (task_at us i)
  pub others : OtherTasksStay i w.tasks us
  pub count : length us ≡ length w.tasks
  pub tasks : AreTasks image us
  pub lines : HasCompartments image us b

module _ (image : Image) (i : ℕ) (a : TurnAnswer) (w : WorkersState) (us : Tasks) (d b : Device)
    (k k1 : ℕ) (p : TurnPromise image i a w us d b k k1) where
  abbrev after : WorkersState
  after = record { tasks = us; down = is_interrupted a }

  on : d.on ≡ true
  on = p.sound.on p.up

  on_by : (o : Option Task) → task_at w.tasks i ≡ o → is_interrupted a ≡ false → b.on ≡ true
  on_by None is goes = ap (λ (x : Device). x.on) (p.idle is).2 ∙ on
  on_by (Some t) is goes =
      let one = (p.turned t is on).0 in
      turned_on a image one.task (task_at us i) (compartment image i d) (compartment image i b)
      one.turned goes ∙ on

  uncut_by : is_interrupted a ≡ false → AreUncut us
  uncut_by goes =
      λ j. ⊎_elim
      (λ (e : j ≡ i). subst (λ (n : ℕ). IsUncutOr (task_at us n)) (sym e)
      (p.uncut (goes_on a goes)))
      (λ (ne : j ≢ i). subst IsUncutOr (sym (p.others j ne)) (p.sound.uncut p.up j))
      (cases_eq j i)

  pub turn_sound : IsReadyFor image after b
  turn_sound = record {
    few = (let same = p.count in let few = p.sound.few in omega arith);
    tasks = p.tasks;
    lines = p.lines;
    on = λ goes. on_by (task_at w.tasks i) refl goes;
    uncut = λ goes. uncut_by goes;
  }

  fewer_by : (o : Option Task) → task_at w.tasks i ≡ o → is_interrupted a ≡ false →
      turns_in image.parts.most us + busy_one o ≤ turns_in image.parts.most w.tasks
  fewer_by None is goes =
      let same : turns_in image.parts.most us ≡ turns_in image.parts.most w.tasks =
      ap (turns_in image.parts.most) (p.idle is).1 in
      omega arith
  fewer_by (Some t) is goes =
      let one = (p.turned t is on).0 in
      turn_fewer image i a one.task w.tasks us (compartment image i d) (compartment image i b)
      one.task_is p.sound.tasks (p.sound.uncut p.up i) one.turned goes p.count p.known p.others

  pub turn_lower : is_interrupted a ≡ false →
      turns_in image.parts.most us + busy_one (task_at w.tasks i)
      ≤ turns_in image.parts.most w.tasks
  turn_lower goes = fewer_by (task_at w.tasks i) refl goes
