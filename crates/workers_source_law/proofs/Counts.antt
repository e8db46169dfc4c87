-- No command changes how many workers there are.
use Rattle.std.proofs.Common.{◌≡◌, inl, inr, ℕ, zero, suc, Bool, true, false, ◌==◌, List, [], ◌∷◌}
use Rattle.std.proofs.Common.{Option, None, Some, length, ℤ, refl, ap, ◌∙◌}
use Rattle.cache_model.specs.Collapse.{bad}
use Rattle.cache_model.specs.declared.choice.Choice.{Choice}
use Rattle.pmem.specs.Device.{memory_of}
use Rattle.pm_machine.specs.declared.image.Image.{Image}
use Rattle.tx_run.specs.declared.standing.Standing.{Standing}
use Rattle.tx_run.specs.declared.standing.Standing.TheVariants as stands
use Rattle.pool_workers.specs.declared.answer.TurnAnswer.{TurnAnswer}
use Rattle.pool_workers.specs.declared.task.Task.{Task}
use Rattle.pool_workers.specs.Crew.{task_at, standing_at}
use Rattle.cnvm_session.specs.declared.program.Program.{Program}
use Rattle.cnvm_session.specs.Commands.{call_number, tx_parameters, fallen}
use Rattle.cnvm_session.specs.Marks.{rolls_back_of, looks_of}
use Rattle.workers_script.specs.declared.command.WorkersCommand.{WorkersCommand}
use Rattle.workers_script.specs.declared.command.WorkersCommand.TheVariants as command
use Rattle.workers_session.specs.declared.line.WorkersLine.{WorkersLine}
use Rattle.workers_session.specs.WorkersState.{refusal_at, stranger_in}
use Rattle.workers_session.specs.WorkersCommands.{Scene, Unchanged, Starts, BeginsNamed, BeginsTo}
use Rattle.workers_session.specs.WorkersCommands.{BeginsBy, BeginsWith, BeginsAs, ShowsWorker}
use Rattle.workers_session.specs.WorkersCommands.{LastsWorker, TurnFor, TurnList, TurnsKnown}
use Rattle.workers_session.specs.WorkersCommands.{TurnsGiven, rounds_of, FinishesAll, ends_power}
use Rattle.workers_session.specs.WorkersCommands.{RecoversFrom, cut_scene, PowersAll}
use Rattle.workers_session.specs.WorkersCommands.{WorkersCommanded}

abbrev pub count : Scene → ℕ
count x = length x.workers.tasks

same : (x y : Scene) → y ≡ x → count y ≡ count x
same x y is = ap (λ (z : Scene). count z) is

module _ (image : Image) (worker : ℕ) (args : List ℤ) (x : Scene) (lines : List WorkersLine)
    (y : Scene) where
  begins_as : (st : Standing) (looks : Bool) (tx : ℕ)
      → BeginsAs st looks image worker tx args x lines y → count y ≡ count x
  begins_as stands.Ready looks tx (inl begun) = begun.count
  begins_as stands.Ready looks tx (inr out) = ap (λ (z : Scene). count z) out.1
  begins_as stands.Numbers true tx (inl begun) = begun.count
  begins_as stands.Numbers true tx (inr out) = ap (λ (z : Scene). count z) out.1
  begins_as stands.Numbers false tx is = same x y is.1
  begins_as (stands.Unusable kind) looks tx is = absurd is
  begins_as stands.Off looks tx is = absurd is

  begins_with : (fits looks : Bool) (tx : ℕ) → BeginsWith fits looks image worker tx args x lines y
      → count y ≡ count x
  begins_with true looks tx is = begins_as (standing_at image worker x.device) looks tx is
  begins_with false looks tx is = same x y is.1

  begins_by : (marked looks : Bool) (n tx : ℕ)
      → BeginsBy marked looks n image worker tx args x lines y → count y ≡ count x
  begins_by true looks n tx is = same x y is.1
  begins_by false looks n tx is = begins_with (n == length args) looks tx is

module _ (program : Program) (worker : ℕ) (x : Scene) (lines : List WorkersLine) (y : Scene) where
  begins_to : (o : Option ℕ) (tx : ℕ) (args : List ℤ)
      → BeginsTo o program worker tx args x lines y → count y ≡ count x
  begins_to None tx args is = same x y is.1
  begins_to (Some n) tx args is =
      begins_by program.image worker args x lines y (rolls_back_of program tx)
      (looks_of program tx) n tx is

  begins_named : (o : Option ℕ) (args : List ℤ) → BeginsNamed o program worker args x lines y
      → count y ≡ count x
  begins_named None args is = same x y is.1
  begins_named (Some tx) args is = begins_to (tx_parameters program.image tx) tx args is

  starts : (o : Option WorkersLine) (name : List ℕ) (args : List ℤ)
      → Starts o program worker name args x lines y → count y ≡ count x
  starts (Some l) name args is = same x y is.1
  starts None name args is = begins_named (call_number program name) args is

  shows : (o : Option WorkersLine) → ShowsWorker o program worker x lines y → count y ≡ count x
  shows (Some l) is = same x y is.1
  shows None (inl tells) = same x y tells.told.1
  shows None (inr out) = ap (λ (z : Scene). count z) out.1

  lasts : (o : Option WorkersLine) → LastsWorker o program.image worker x lines y
      → count y ≡ count x
  lasts (Some l) is = same x y is.1
  lasts None is = same x y is.1

-- nothing more is done, or the rest is
after : (over : Bool) (z : Scene) (rest : List WorkersLine) (y : Scene)
    → (over ≡ true → Unchanged [] z rest y) → (over ≡ false → count y ≡ count z)
    → count y ≡ count z
after true z rest y ends goes = same z y (ends refl).1
after false z rest y ends goes = goes refl

module _ (program : Program) where
  turn_for : (o : Option Task) (worker : ℕ) (a : TurnAnswer) (x y : Scene)
      → TurnFor o program.image worker a x y → count y ≡ count x
  turn_for None worker a x y is = same x y is.1
  turn_for (Some t) worker a x y is = is.1

  turn_list : (workers : List ℕ) (x : Scene) (lines : List WorkersLine) (y : Scene)
      → TurnList program workers x lines y → count y ≡ count x
  turn_list [] x lines y is = same x y is.1
  turn_list (worker ∷ workers) x lines y is =
      after is.2.workers.down is.2 is.1 y is.5.0
      (λ up. turn_list workers is.2 is.1 y (is.5.1 up))
      ∙ turn_for (task_at x.workers.tasks worker) worker is.3.0 x is.2 is.3.1

  turns_known : (o : Option ℕ) (workers : List ℕ) (x : Scene) (lines : List WorkersLine)
      (y : Scene) → TurnsKnown o program workers x lines y → count y ≡ count x
  turns_known (Some worker) workers x lines y is = same x y is.1
  turns_known None workers x lines y is = turn_list workers x lines y is

  turns_given : (down : Bool) (workers : List ℕ) (x : Scene) (lines : List WorkersLine)
      (y : Scene) → TurnsGiven down program workers x lines y → count y ≡ count x
  turns_given true workers x lines y is = same x y is.1
  turns_given false workers x lines y is =
      turns_known (stranger_in (count x) workers) workers x lines y is

  finishes : (down : Bool) (x : Scene) (lines : List WorkersLine) (y : Scene)
      → FinishesAll down program x lines y → count y ≡ count x
  finishes true x lines y is = same x y is.1
  finishes false x lines y is = turn_list (rounds_of is.0 (count x)) x lines y is.1

module _ (program : Program) where
  recovers : (n worker : ℕ) (x : Scene) (lines : List WorkersLine) (y : Scene)
      → RecoversFrom program worker n x lines y → count y ≡ count x
  recovers zero worker x lines y is = same x y is.1
  recovers (suc n) worker x lines y is =
      after (ends_power is.0) is.2 is.1 y is.5.0
      (λ on. recovers n (suc worker) is.2 is.1 y (is.5.1 on))
      ∙ is.3.count

  powers : (choice : Choice) (x : Scene) (lines : List WorkersLine) (y : Scene)
      → PowersAll program choice x lines y → count y ≡ count x
  powers choice x lines y is =
      fits (fallen 0 choice.picks) (bad (memory_of x.device) choice.picks) refl refl
    where
      fits : (falls lacks : Option ℕ) → fallen 0 choice.picks ≡ falls
          → bad (memory_of x.device) choice.picks ≡ lacks → count y ≡ count x
      fits (Some l) lacks falls is_bad = same x y (is.0 l falls).1
      fits None (Some l) falls is_bad = same x y (is.1 l falls is_bad).1
      fits None None falls is_bad =
          recovers (count x) 0 (cut_scene choice x) lines y (is.2 falls is_bad)

pub command_count : (program : Program) (c : WorkersCommand) (x : Scene)
    (lines : List WorkersLine) (y : Scene) → WorkersCommanded program c x lines y
    → count y ≡ count x
command_count program (command.Start worker name args) x lines y is =
    starts program worker x lines y (refusal_at program.image x.workers worker x.device) name args
    is
command_count program (command.Turn workers) x lines y is =
    turns_given program x.workers.down workers x lines y is
command_count program command.Finish x lines y is =
    finishes program x.workers.down x lines y is
command_count program (command.Stop left) x lines y is = ap (λ (z : Scene). count z) is.1
command_count program (command.Fault at) x lines y is = ap (λ (z : Scene). count z) is.1
command_count program (command.Power choice) x lines y is =
    powers program choice x lines y is
command_count program (command.Show worker) x lines y is =
    shows program worker x lines y (refusal_at program.image x.workers worker x.device) is
command_count program (command.Last worker) x lines y is =
    lasts program worker x lines y (refusal_at program.image x.workers worker x.device) is
