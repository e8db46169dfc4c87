-- Lists of transactions, by what each worker has.
use Rattle.std.proofs.lemmas.Bool.{cases_eq}
use Rattle.std.proofs.lemmas.List.{length-replicate}
use Rattle.std.proofs.Common.{◌≡◌, ◌≢◌, ◌∙◌, ◌⊎◌, ⊎_elim, ℕ, zero, suc, ◌+◌, ◌<◌, ◌≤◌, nat_lt}
use Rattle.std.proofs.Common.{if◌then◌else◌, Bool, true, false, List, [], ◌∷◌, ◌++◌, Some, None}
use Rattle.std.proofs.Common.{length, drop, replicate, refl, sym, ap, subst, append_assoc, arith}
use Rattle.cache_model.specs.Event.{CacheEvent}
use Rattle.pmem.specs.Device.{Device, blanked}
use Rattle.pmem.specs.Played.{PlaysAll}
use Rattle.pmem.proofs.Refused.{all_on}
use Rattle.pm_machine.specs.declared.image.Image.{Image}
use Rattle.pool_workers.specs.Task.{IsUncutOr}
use Rattle.pool_workers.specs.Crew.{Tasks, task_at, AreTasks, HasCompartments, OtherTasksStay}
use Rattle.cnvm_session.specs.declared.program.Program.{Program}
use Rattle.workers_session.specs.declared.line.WorkersLine.{WorkersLine}
use Rattle.workers_session.specs.WorkersState.{IsReadyFor, new_workers, stranger_in}
use Rattle.workers_session.specs.WorkersCommands.{Scene, scene_of, stopped_line, stopped_lines}
use Rattle.workers_session.specs.WorkersCommands.{RecoversFrom, Resumes}
use Rattle.workers_session.proofs.Rounds.{split_last}

pub idle_at : (n j : ℕ) → task_at (replicate n None) j ≡ None
idle_at zero j = refl
idle_at (suc n) zero = refl
idle_at (suc n) (suc j) = idle_at n j

pub same_tasks : (ts us : Tasks) → length us ≡ length ts →
    ((j : ℕ) → task_at us j ≡ task_at ts j) → us ≡ ts
same_tasks [] [] len same = refl
same_tasks [] (p ∷ ps) len same = absurd (omega arith)
same_tasks (o ∷ os) [] len same = absurd (omega arith)
same_tasks (o ∷ os) (p ∷ ps) len same =
    let head : p ≡ o = same 0 in
    let rest : ps ≡ os = same_tasks os ps (omega arith) (λ j. same (suc j)) in
    rw (head, rest) refl

pub scene_is : (x y : Scene) → y.workers.tasks ≡ x.workers.tasks → y.workers.down ≡ x.workers.down
    → y.device ≡ x.device → y.steps ≡ x.steps → y ≡ x
scene_is x y tasks down device steps =
    λ i. record {
      workers = record { tasks = tasks i; down = down i };
      device = device i;
      steps = steps i;
    }

head_known : (n worker : ℕ) (workers : List ℕ) (less : Bool) → nat_lt worker n ≡ less →
    (if less then stranger_in n workers else Some worker) ≡ None →
    (nat_lt worker n ≡ true) × (stranger_in n workers ≡ None)
head_known n worker workers true is known = (is, known)
head_known n worker workers false is known = absurd cc

-- the first of numbers that all are workers'
pub first_known : (n worker : ℕ) (workers : List ℕ) → stranger_in n (worker ∷ workers) ≡ None →
    (nat_lt worker n ≡ true) × (stranger_in n workers ≡ None)
first_known n worker workers known =
    head_known n worker workers (nat_lt worker n) refl known

pub stopped_next : (ts : Tasks) (i w : ℕ) → i < length ts →
    stopped_lines w (drop i ts)
    ≡ stopped_line w (task_at ts i) ++ stopped_lines (suc w) (drop (suc i) ts)
stopped_next [] i w less = absurd (omega arith)
stopped_next (o ∷ os) zero w less = refl
stopped_next (o ∷ os) (suc i) w less = stopped_next os i w (omega arith)

pub stopped_more : (ts : Tasks) (i : ℕ) (lines first all : List WorkersLine) → i < length ts →
    first ≡ stopped_line i (task_at ts i) →
    lines ++ stopped_lines i (drop i ts) ≡ all →
    (lines ++ first) ++ stopped_lines (i + 1) (drop (i + 1) ts) ≡ all
stopped_more ts i lines first all less is was =
    let next : i + 1 ≡ suc i = omega arith in
    rw (
      next,
      is,
      append_assoc lines (stopped_line i (task_at ts i))
          (stopped_lines (suc i) (drop (suc i) ts)),
      ← stopped_next ts i i less,
    ) was

-- a new pool of compartments, whose workers are idle
pub created_ready : (image : Image) (count lines : ℕ) (ts : Tasks) (d b : Device)
    (es : List CacheEvent) → ts ≡ replicate count None → count ≤ 8 → AreTasks image ts →
    HasCompartments image ts b → PlaysAll (blanked lines d) es b →
    IsReadyFor image (record { tasks = ts; down = false }) b
created_ready image count lines ts d b es idle few tasks devices played =
    let long : length ts ≡ count =
    ap (λ (us : Tasks). length us) idle ∙ length-replicate count None in
    record {
      few = omega arith;
      tasks = tasks;
      lines = devices;
      on = λ up. all_on es (blanked lines d) b played;
      uncut = λ up j.
          subst IsUncutOr
          (sym (ap (λ (us : Tasks). task_at us j) idle ∙ idle_at count j)) tt;
    }

-- workers without a transaction
module _ (count : ℕ) (ts : Tasks) (idle : ts ≡ replicate count None) where
  pub idle_long : length ts ≡ count
  idle_long = ap (λ (us : Tasks). length us) idle ∙ length-replicate count None

  pub idle_tasks : (image : Image) → AreTasks image ts
  idle_tasks image = subst (AreTasks image) (sym idle) (each count)
    where
      each : (n : ℕ) → AreTasks image (replicate n None)
      each zero = tt
      each (suc n) = (tt, each n)

  -- the recoveries of all their compartments open the pools
  pub idle_resumes : (program : Program) (n : ℕ) (d : Device) (k : ℕ) (lines : List WorkersLine)
      (y : Scene) → RecoversFrom program 0 n (scene_of (record { tasks = ts; down = false }) d k)
      lines y → n ≡ count → Resumes program count d k lines y
  idle_resumes program n d k lines y recovers all =
      subst (λ (m : ℕ). RecoversFrom program 0 m (scene_of (new_workers count) d k) lines y) all
      (subst (λ (us : Tasks). RecoversFrom program 0 n
      (scene_of (record { tasks = us; down = false }) d k) lines y) idle recovers)

-- one more worker is idle
pub idle_more : (i : ℕ) (ts us : Tasks) → ((j : ℕ) → j < i → task_at ts j ≡ None) →
    task_at us i ≡ None → OtherTasksStay i ts us → (j : ℕ) → j < i + 1 → task_at us j ≡ None
idle_more i ts us idle own others j less = ⊎_elim
    (λ (e : j ≡ i). subst (λ (n : ℕ). task_at us n ≡ None) (sym e) own)
    (λ (ne : j ≢ i). others j ne ∙ idle j (below j i ne (omega arith)))
    (cases_eq j i)
  where
    below : (k n : ℕ) → k ≢ n → k < suc n → k < n
    below k n ne before = ⊎_elim (λ (l : k < n). l) (λ (e : k ≡ n). absurd (ne e))
        (split_last k n before)
