-- What a begin does, by how the compartment's pool stands.
use Rattle.std.proofs.Common.{◌≡◌, ◌≢◌, ◌∙◌, inl, inr, ⊎_elim, ℕ, Bool, true, false, List, [], ◌∷◌}
use Rattle.std.proofs.Common.{None, length, ℤ, refl, sym, ap, subst, if◌then◌else◌}
use Rattle.std.proofs.lemmas.Bool.{cases_eq}
use Rattle.cache_model.specs.Cache.{Words}
use Rattle.pmem.specs.Device.{Device}
use Rattle.pool_map.specs.declared.trap.TrapKind.{TrapKind}
use Rattle.pm_machine.specs.declared.image.Image.{Image}
use Rattle.tx_run.specs.Standing.{standing_of}
use Rattle.tx_run.specs.declared.standing.Standing.{Standing}
use Rattle.tx_run.specs.declared.standing.Standing.TheVariants as stands
use Rattle.pool_workers.specs.declared.answer.BeginAnswer.{BeginAnswer}
use Rattle.pool_workers.specs.declared.answer.BeginAnswer.TheVariants as begins
use Rattle.pool_workers.specs.Crew.{Tasks, task_at, OtherTasksStay, Begins}
use Rattle.workers_session.specs.WorkersState.{WorkersState, marked_line}
use Rattle.workers_session.specs.WorkersCommands.{BeginsAs, scene_of}
use Rattle.workers_session.specs.inside.Turning.{begin_line, begin_runs_out}
use Rattle.workers_session.proofs.Crews.{same_tasks, scene_is}

pub not_off : (w : Words) → standing_of w ≡ stands.Off → ⊥
not_off w e = one _ _ _ e
  where
    one : (mark fits : Bool) (kind : TrapKind)
        → (if mark then (if fits then stands.Ready else stands.Numbers) else stands.Unusable kind)
        ≡ stands.Off → ⊥
    one true true kind e = cc
    one true false kind e = cc
    one false fits kind e = cc

module _ (image : Image) (worker tx : ℕ) (args : List ℤ) (d : Device) (k : ℕ) (w : WorkersState)
    (us : Tasks) (up : w.down ≡ false) (idle : task_at w.tasks worker ≡ None)
    (others : OtherTasksStay worker w.tasks us) (count : length us ≡ length w.tasks) where
  -- the worker still has no transaction, so the list is as it was
  same_list : task_at us worker ≡ None → us ≡ w.tasks
  same_list none =
      same_tasks w.tasks us count
      (λ j. ⊎_elim
      (λ (e : j ≡ worker). subst (λ (n : ℕ). task_at us n ≡ task_at w.tasks n) (sym e)
      (none ∙ sym idle))
      (λ (ne : j ≢ worker). others j ne)
      (cases_eq j worker))

  ready_as : (looks : Bool) (a : BeginAnswer) → Begins a looks image tx args (task_at us worker) →
      BeginsAs stands.Ready looks image worker tx args (scene_of w d k) (begin_line a worker ∷ [])
      (scene_of (record { tasks = us; down = begin_runs_out a }) d k)
  ready_as looks begins.Started h = inl (record {
    told = refl;
    begun = h;
    others = others;
    count = count;
    up = refl;
    device = refl;
    steps = refl;
  })
  ready_as looks begins.NoMemory h =
      inr (
        refl,
        λ i. record {
          workers = record { tasks = same_list h i; down = true };
          device = d;
          steps = k;
        },
      )
  ready_as looks begins.Busy h = absurd h
  ready_as looks (begins.Unusable kind) h = absurd h
  ready_as looks begins.Numbers h = absurd h
  ready_as looks begins.Off h = absurd h

  pub begins_as : (looks : Bool) (s : Standing) (a : BeginAnswer) → marked_line s ≡ None
      → (s ≡ stands.Off → ⊥) →
      (looks ≡ false → s ≡ stands.Numbers → (a ≡ begins.Numbers) × (us ≡ w.tasks)) →
      (looks ≡ true → s ≡ stands.Numbers → Begins a looks image tx args (task_at us worker)) →
      (s ≡ stands.Ready → Begins a looks image tx args (task_at us worker)) →
      BeginsAs s looks image worker tx args (scene_of w d k) (begin_line a worker ∷ [])
      (scene_of (record { tasks = us; down = begin_runs_out a }) d k)
  begins_as looks stands.Ready a unmarked on numbers free ready = ready_as looks a (ready refl)
  begins_as true stands.Numbers a unmarked on numbers free ready =
      ready_as true a (free refl refl)
  begins_as false stands.Numbers a unmarked on numbers free ready =
      let same = numbers refl refl in (
        ap (λ (x : BeginAnswer). begin_line x worker ∷ []) same.0,
        scene_is (scene_of w d k) (scene_of (record { tasks = us; down = begin_runs_out a }) d k)
            same.1 (ap begin_runs_out same.0 ∙ sym up) refl refl,
      )
  begins_as looks (stands.Unusable kind) a unmarked on numbers free ready = absurd cc
  begins_as looks stands.Off a unmarked on numbers free ready = absurd (on refl)
