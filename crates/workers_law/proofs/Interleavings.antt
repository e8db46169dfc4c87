-- Every interleaving of turns.
use Rattle.std.proofs.Common.{◌≡◌, ◌≢◌, ⊎_elim, ℕ, Bool, List, [], ◌∷◌, Option, Some, None, sym, ap}
use Rattle.std.proofs.Common.{◌∙◌, subst}
use Rattle.std.proofs.lemmas.Bool.{cases_eq}
use Rattle.cache_model.specs.Cache.{Cache}
use Rattle.pmem.specs.Device.{Device}
use Rattle.pmem.specs.declared.answer.Refusal.TheVariants.{Off, Failed, NoMemory}
use Rattle.pool_layout.specs.Sizes.{pool_lines}
use Rattle.pm_machine.specs.declared.image.Image.{Image}
use Rattle.pm_machine.specs.declared.records.Policy.TheVariants.{EndPool}
use Rattle.tx_run.specs.Due.{due_call}
use Rattle.pool_workers.specs.declared.answer.TurnAnswer.{TurnAnswer}
use Rattle.pool_workers.specs.declared.answer.TurnAnswer.TheVariants as answer
use Rattle.pool_workers.specs.declared.task.Task.{Task}
use Rattle.pool_workers.specs.Compartment.{first_line}
use Rattle.pool_workers.specs.Crew.{Tasks, task_at, compartment, TurnOf}
use Rattle.workers_law.specs.Interleaving.{TaskStart, Turns, StandsFor, AllStand, InterleavingLaw}
use Rattle.workers_law.specs.Standing.{ShowsSome, TaskStands, StandsOr}
use Rattle.pool_workers.specs.Task.{IsTask, IsTaskOr, IsGoing, WentWhole, Turned}
use Rattle.workers_law.proofs.Compartments.{apart}
use Rattle.workers_law.proofs.Stands.{turns, shows_fence, shown_images}
use Rattle.workers_law.specs.Fenced.{fenced_cache}
use Rattle.workers_law.specs.Left.{left_or}
use Rattle.workers_law.proofs.Asides.{aside_in}

going_whole : (a : TurnAnswer) (image : Image) (t : Task) (o : Option Task) (d b : Device) →
    IsGoing a → Turned a image t o d b → WentWhole a image t o d b
going_whole answer.Idle image t o d b going h = absurd h
going_whole answer.Went image t o d b going h = h
going_whole (answer.Done v l) image t o d b going h = h
going_whole (answer.Trap k) image t o d b going h = h
going_whole (answer.Aborted k) image t o d b going h = h
going_whole answer.Off image t o d b going h = absurd going
going_whole answer.Failed image t o d b going h = absurd going
going_whole answer.NoMemory image t o d b going h = absurd going

module _ (image : Image) where
  waits_for : (s : Option TaskStart) (o : Option Task) (c : Cache) (k : Bool) →
      StandsFor image s o c → StandsFor image s o (fenced_cache k c)
  waits_for None o c k h = h
  waits_for (Some s) None c k h = shows_fence k (due_call EndPool image s.tx s.args s.cache) []
      s.cache c h
  waits_for (Some s) (Some t) c k h = (turns image s.tx s.args s.cache).2 t c k h

  goes_for : (s : Option TaskStart) (a : TurnAnswer) (t : Task) (o : Option Task) (d b : Device) →
      IsTask image t → StandsFor image s (Some t) d.cache → WentWhole a image t o d b →
      StandsFor image s o b.cache
  goes_for None a t o d b task h went = h
  goes_for (Some s) a t o d b task h went =
      (turns image s.tx s.args s.cache).1 a t o d b task h went

  some_shows : (s : TaskStart) (o : Option Task) (c : Cache) →
      StandsOr image s.tx s.args s.cache o c →
      ShowsSome (due_call EndPool image s.tx s.args s.cache) s.cache c
  some_shows s o c h = record { left = left_or image o c; shows = h }

  turned_shows : (s : TaskStart) (a : TurnAnswer) (t : Task) (o : Option Task) (d b : Device) →
      IsTask image t → TaskStands image s.tx s.args s.cache t d.cache → Turned a image t o d b →
      ShowsSome (due_call EndPool image s.tx s.args s.cache) s.cache b.cache
  turned_shows s answer.Idle t o d b task h turned = absurd turned
  turned_shows s answer.Went t o d b task h turned =
      some_shows s o b.cache
      ((turns image s.tx s.args s.cache).1 answer.Went t o d b task h turned)
  turned_shows s (answer.Done v l) t o d b task h turned =
      some_shows s o b.cache
      ((turns image s.tx s.args s.cache).1 (answer.Done v l) t o d b task h turned)
  turned_shows s (answer.Trap k) t o d b task h turned =
      some_shows s o b.cache
      ((turns image s.tx s.args s.cache).1 (answer.Trap k) t o d b task h turned)
  turned_shows s (answer.Aborted k) t o d b task h turned =
      some_shows s o b.cache
      ((turns image s.tx s.args s.cache).1 (answer.Aborted k) t o d b task h turned)
  turned_shows s answer.Off t o d b task h turned =
      (turns image s.tx s.args s.cache).3 Off t d b task h turned.0
  turned_shows s answer.Failed t o d b task h turned =
      (turns image s.tx s.args s.cache).3 Failed t d b task h turned.0
  turned_shows s answer.NoMemory t o d b task h turned =
      (turns image s.tx s.args s.cache).3 NoMemory t d b task h turned.0

  module _ (starts : ℕ → Option TaskStart) (worker : ℕ) (a : TurnAnswer) (ts us : Tasks)
      (d b : Device) (all : AllStand image starts ts d)
      (turn : TurnOf image worker a ts us d b) where
    own_task : IsTask image turn.task
    own_task = subst (IsTaskOr image) turn.task_is (all worker).0

    own_stands : StandsFor image (starts worker) (Some turn.task) (compartment image worker d).cache
    own_stands = subst
        (λ (o : Option Task). StandsFor image (starts worker) o
        (compartment image worker d).cache) turn.task_is (all worker).1

    other_cache : (j : ℕ) → worker ≢ j →
        (compartment image j b).cache
        ≡ fenced_cache turn.aside.fenced (compartment image j d).cache
    other_cache j ne =
        aside_in (first_line image.parts.sizes worker) (pool_lines image.parts.sizes)
        (first_line image.parts.sizes j)
        (pool_lines image.parts.sizes) turn.aside.fenced d.cache b.cache
        (apart (pool_lines image.parts.sizes) worker j ne) turn.aside.others

    other_stands : (j : ℕ) → j ≢ worker →
        StandsFor image (starts j) (task_at us j) (compartment image j b).cache
    other_stands j ne =
        subst (λ (o : Option Task). StandsFor image (starts j) o (compartment image j b).cache)
        (sym (turn.others j ne))
        (subst (λ (c : Cache). StandsFor image (starts j) (task_at ts j) c)
        (sym (other_cache j (λ e. ne (sym e))))
        (waits_for (starts j) (task_at ts j) (compartment image j d).cache turn.aside.fenced
        (all j).1))

    stands : IsGoing a → AllStand image starts us b
    stands going j = ⊎_elim
        (λ (e : j ≡ worker). subst
        (λ (i : ℕ). IsTaskOr image (task_at us i)
        × StandsFor image (starts i) (task_at us i) (compartment image i b).cache) (sym e) (
          turn.is_task,
          goes_for (starts worker) a turn.task (task_at us worker)
              (compartment image worker d) (compartment image worker b) own_task own_stands
              (going_whole a image turn.task (task_at us worker) (compartment image worker d)
              (compartment image worker b) going turn.turned),
        ))
        (λ (ne : j ≢ worker).
        (subst (IsTaskOr image) (sym (turn.others j ne)) (all j).0, other_stands j ne))
        (cases_eq j worker)

    shows : (j : ℕ) (s : TaskStart) → starts j ≡ Some s →
        ShowsSome (due_call EndPool image s.tx s.args s.cache) s.cache (compartment image j b).cache
    shows j s is = ⊎_elim
        (λ (e : j ≡ worker). subst
        (λ (i : ℕ). ShowsSome (due_call EndPool image s.tx s.args s.cache) s.cache
        (compartment image i b).cache) (sym e)
        (turned_shows s a turn.task (task_at us worker) (compartment image worker d)
        (compartment image worker b) own_task
        (subst (λ (o : Option TaskStart). StandsFor image o (Some turn.task)
        (compartment image worker d).cache) (ap starts (sym e) ∙ is) own_stands) turn.turned))
        (λ (ne : j ≢ worker). some_shows s (task_at us j) (compartment image j b).cache
        (subst (λ (o : Option TaskStart). StandsFor image o (task_at us j)
        (compartment image j b).cache) is (other_stands j ne)))
        (cases_eq j worker)

  turns_stand : (starts : ℕ → Option TaskStart) (workers : List ℕ) (ts us : Tasks) (d b : Device) →
      AllStand image starts ts d → Turns image workers ts d us b → AllStand image starts us b
  turns_stand starts [] ts us d b all h =
      subst (λ (x : Tasks). AllStand image starts x b) (sym h.0)
      (subst (λ (x : Device). AllStand image starts ts x) (sym h.1) all)
  turns_stand starts (worker ∷ workers) ts us d b all h =
      turns_stand starts workers h.1 us h.2 b
      (stands starts worker h.0 ts h.1 d h.2 all h.3 h.4) h.5

pub interleaving : InterleavingLaw
interleaving = (
  turns_stand,
  (λ image starts worker a ts us d b all turn j s is.
      let h = shows image starts worker a ts us d b all turn j s is in (
        h,
        λ marks left im.
            (shown_images (due_call EndPool image s.tx s.args s.cache) s.cache
            (compartment image j b).cache marks).0 left h im,
      )),
)
