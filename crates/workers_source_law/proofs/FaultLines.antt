-- Which lines tell of a device that failed, and that its count rose where they do.
use Rattle.std.proofs.Common.{◌≡◌, ◌≤◌, ◌⊎◌, ℕ, zero, suc, Bool, true, false, List, [], ◌∷◌, ◌++◌}
use Rattle.std.proofs.Common.{ℤ, Option, Some, None, length, nat_lt, ◌==◌, if◌then◌else◌, inl, inr}
use Rattle.std.proofs.Common.{⊎_elim, refl, ap, subst, ◌∙◌, arith}
use Rattle.std.proofs.lemmas.Bool.{both_ways}
use Rattle.cache_model.specs.Collapse.{bad}
use Rattle.cache_model.specs.declared.choice.Choice.{Choice}
use Rattle.pmem.specs.Device.{Device, FaultsRose, memory_of}
use Rattle.pm_machine.specs.declared.image.Image.{Image}
use Rattle.tx_run.specs.declared.standing.Standing.{Standing}
use Rattle.tx_run.specs.declared.standing.Standing.TheVariants as stands
use Rattle.recovery.specs.declared.answer.RecoverAnswer.{RecoverAnswer}
use Rattle.recovery.specs.declared.answer.RecoverAnswer.TheVariants as recovered
use Rattle.pool_workers.specs.declared.answer.TurnAnswer.{TurnAnswer}
use Rattle.pool_workers.specs.declared.answer.TurnAnswer.TheVariants as turned
use Rattle.pool_workers.specs.declared.task.Task.{Task}
use Rattle.pool_workers.specs.Crew.{Tasks, task_at, compartment, standing_at}
use Rattle.workers_law.proofs.FaultCounts.{turn_faults}
use Rattle.cnvm_session.specs.declared.answer.Answer.TheVariants as answer
use Rattle.cnvm_session.specs.declared.program.Program.{Program}
use Rattle.cnvm_session.specs.Commands.{call_number, tx_parameters, fallen}
use Rattle.cnvm_session.specs.Outcomes.{answer_of_recovery}
use Rattle.cnvm_session.specs.Marks.{rolls_back_of, looks_of, policy_of, owes_marked}
use Rattle.cnvm_session.specs.Marks.{owes_unsigned}
use Rattle.cnvm_session.proofs.Recoveries.{recovery_counts}
use Rattle.workers_script.specs.declared.command.WorkersCommand.TheVariants as command
use Rattle.workers_session.specs.declared.line.WorkersLine.{WorkersLine}
use Rattle.workers_session.specs.declared.line.WorkersLine.TheVariants as line
use Rattle.workers_session.specs.WorkersState.{WorkersState, busy_line, marked_line, unready}
use Rattle.workers_session.specs.WorkersState.{refused_first, refusal_at, stranger_in}
use Rattle.workers_session.specs.WorkersCommands.{Scene, RefusedWith, Unchanged, RunsOut, Starts}
use Rattle.workers_session.specs.WorkersCommands.{BeginsNamed, BeginsTo, BeginsBy, BeginsWith}
use Rattle.workers_session.specs.WorkersCommands.{HasBegun, BeginsAs, ShowsWorker, last_text_line}
use Rattle.workers_session.specs.WorkersCommands.{LastsWorker, stopped_lines, turn_lines, TurnFor}
use Rattle.workers_session.specs.WorkersCommands.{TurnsOnce, TurnList, TurnsKnown, TurnsGiven}
use Rattle.workers_session.specs.WorkersCommands.{rounds_of, FinishesAll, ends_power, RecoversFrom}
use Rattle.workers_session.specs.WorkersCommands.{PowersAll, cut_scene, compartment_of}
use Rattle.workers_session.specs.WorkersCommands.{task_unsigned}
use Rattle.workers_source_law.specs.FaultsTold.{is_fault, names_fault, TellsFault, BlamesRightly}
use Rattle.workers_source_law.specs.FaultsTold.{ToldFaultLaw, RunFaultLaw}

rose_left : (a b c : ℕ) → FaultsRose a b → b ≤ c → FaultsRose a c
rose_left a b c rose less = grind arith

rose_right : (a b c : ℕ) → a ≤ b → FaultsRose b c → FaultsRose a c
rose_right a b c less rose = grind arith

-- the line, if there is one, tells of no fault
abbrev QuietOr : Option WorkersLine → Type 0
QuietOr None = Unit {0}
QuietOr (Some l) = names_fault l ≡ false

one_quiet : (l : WorkersLine) → names_fault l ≡ false → TellsFault (l ∷ []) → ⊥
one_quiet l quiet told = ⊎_elim (λ yes. both_ways (names_fault l) quiet yes) (λ none. none) told

tells_append : (xs ys : List WorkersLine) → TellsFault (xs ++ ys) → TellsFault xs ⊎ TellsFault ys
tells_append [] ys told = inr told
tells_append (x ∷ xs) ys (inl told) = inl (inl told)
tells_append (x ∷ xs) ys (inr told) =
    ⊎_elim (λ first. inl (inr first)) (λ rest. inr rest) (tells_append xs ys told)

-- the device stays, and the lines tell of no fault
still : (x : Scene) (lines told : List WorkersLine) (y : Scene) → lines ≡ told
    → (TellsFault told → ⊥) → y.device.faults ≡ x.device.faults → BlamesRightly x lines y
still x lines told y are quiet same = (
  omega (arith, same),
  λ tells. absurd (quiet (subst TellsFault are tells)),
)

unchanged : (x : Scene) (told lines : List WorkersLine) (y : Scene) → (TellsFault told → ⊥)
    → Unchanged told x lines y → BlamesRightly x lines y
unchanged x told lines y quiet is =
    still x lines told y is.0 quiet (ap (λ (s : Scene). s.device.faults) is.1)

refused : (l : WorkersLine) (x : Scene) (lines : List WorkersLine) (y : Scene)
    → names_fault l ≡ false → RefusedWith l x lines y → BlamesRightly x lines y
refused l x lines y quiet is = unchanged x (l ∷ []) lines y (one_quiet l quiet) is

runs_out : (x : Scene) (lines : List WorkersLine) (y : Scene) → RunsOut x lines y
    → BlamesRightly x lines y
runs_out x lines y is =
    still x lines (line.Plain answer.NoMemory ∷ []) y is.0
    (one_quiet (line.Plain answer.NoMemory) refl)
    (ap (λ (s : Scene). s.device.faults) is.1)

-- what is done after these lines, and then the rest
joined : (x z y : Scene) (first rest lines : List WorkersLine) → BlamesRightly x first z
    → BlamesRightly z rest y → lines ≡ first ++ rest → BlamesRightly x lines y
joined x z y first rest lines one others are =
    let le = one.0 in let more = others.0 in (
      omega (arith, le, more),
      λ tells.
          ⊎_elim (λ told. rose_left _ z.device.faults _ (one.1 told) more)
          (λ told. rose_right _ z.device.faults _ le (others.1 told))
          (tells_append first rest (subst TellsFault are tells)),
    )

-- nothing more is done, or the rest is
after : (over : Bool) (z : Scene) (rest : List WorkersLine) (y : Scene)
    → (over ≡ true → Unchanged [] z rest y) → (over ≡ false → BlamesRightly z rest y)
    → BlamesRightly z rest y
after true z rest y ends goes = unchanged z [] rest y (λ none. none) (ends refl)
after false z rest y ends goes = goes refl

unready_quiet : (down known : Bool) (o : Option Task) (worker : ℕ)
    → QuietOr (if down then Some (line.Plain answer.RefusedDown)
    else (if known then busy_line worker o else Some (line.RefusedWorker worker)))
unready_quiet true known o worker = refl
unready_quiet false true None worker = tt
unready_quiet false true (Some t) worker = refl
unready_quiet false false o worker = refl

marked_quiet : (s : Standing) → QuietOr (marked_line s)
marked_quiet stands.Ready = tt
marked_quiet (stands.Unusable kind) = refl
marked_quiet stands.Numbers = tt
marked_quiet stands.Off = tt

first_quiet : (a b : Option WorkersLine) → QuietOr a → QuietOr b → QuietOr (refused_first a b)
first_quiet None b first second = second
first_quiet (Some l) b first second = first

refusal_quiet : (image : Image) (w : WorkersState) (worker : ℕ) (d : Device)
    → QuietOr (refusal_at image w worker d)
refusal_quiet image w worker d =
    first_quiet (unready w worker) (marked_line (standing_at image worker d))
    (unready_quiet w.down (nat_lt worker (length w.tasks)) (task_at w.tasks worker) worker)
    (marked_quiet (standing_at image worker d))

module _ (image : Image) (worker : ℕ) (args : List ℤ) (x : Scene) (lines : List WorkersLine)
    (y : Scene) where
  has_begun : (looks : Bool) (tx : ℕ) → HasBegun looks image worker tx args x lines y
      → BlamesRightly x lines y
  has_begun looks tx begun =
      still x lines (line.Started worker ∷ []) y begun.told
      (one_quiet (line.Started worker) refl)
      (ap (λ (d : Device). d.faults) begun.device)

  begins_as : (s : Standing) (looks : Bool) (tx : ℕ)
      → BeginsAs s looks image worker tx args x lines y → BlamesRightly x lines y
  begins_as stands.Ready looks tx (inl begun) = has_begun looks tx begun
  begins_as stands.Ready looks tx (inr out) = runs_out x lines y out
  begins_as stands.Numbers true tx (inl begun) = has_begun true tx begun
  begins_as stands.Numbers true tx (inr out) = runs_out x lines y out
  begins_as stands.Numbers false tx is =
      refused (line.Plain answer.RefusedNumbers) x lines y refl is
  begins_as (stands.Unusable kind) looks tx is = absurd is
  begins_as stands.Off looks tx is = absurd is

  begins_with : (b looks : Bool) (tx : ℕ) → BeginsWith b looks image worker tx args x lines y
      → BlamesRightly x lines y
  begins_with true looks tx is = begins_as (standing_at image worker x.device) looks tx is
  begins_with false looks tx is = refused (line.Plain answer.RefusedArity) x lines y refl is

  begins_by : (marked looks : Bool) (count tx : ℕ)
      → BeginsBy marked looks count image worker tx args x lines y → BlamesRightly x lines y
  begins_by true looks count tx is = refused line.RefusedAbort x lines y refl is
  begins_by false looks count tx is = begins_with (count == length args) looks tx is

module _ (program : Program) (worker : ℕ) (x : Scene) (lines : List WorkersLine) (y : Scene) where
  begins_to : (o : Option ℕ) (tx : ℕ) (args : List ℤ)
      → BeginsTo o program worker tx args x lines y → BlamesRightly x lines y
  begins_to None tx args is = refused (line.Plain answer.RefusedUnknown) x lines y refl is
  begins_to (Some count) tx args is =
      begins_by program.image worker args x lines y (rolls_back_of program tx) (looks_of program tx)
      count tx is

  begins_named : (o : Option ℕ) (args : List ℤ) → BeginsNamed o program worker args x lines y
      → BlamesRightly x lines y
  begins_named None args is = refused (line.Plain answer.RefusedUnknown) x lines y refl is
  begins_named (Some tx) args is = begins_to (tx_parameters program.image tx) tx args is

  starts : (o : Option WorkersLine) (name : List ℕ) (args : List ℤ) → QuietOr o
      → Starts o program worker name args x lines y → BlamesRightly x lines y
  starts (Some l) name args quiet is = refused l x lines y quiet is
  starts None name args quiet is =
      begins_named (call_number program name) args is

  shows : (o : Option WorkersLine) → QuietOr o → ShowsWorker o program worker x lines y
      → BlamesRightly x lines y
  shows (Some l) quiet is = refused l x lines y quiet is
  shows None quiet (inl tells) =
      unchanged x (line.Plain (answer.Shown tells.text) ∷ []) lines y
      (one_quiet (line.Plain (answer.Shown tells.text)) refl) tells.told
  shows None quiet (inr out) = runs_out x lines y out

  lasts : (o : Option WorkersLine) → QuietOr o → LastsWorker o program.image worker x lines y
      → BlamesRightly x lines y
  lasts (Some l) quiet is = refused l x lines y quiet is
  lasts None quiet is =
      unchanged x (last_text_line program.image worker x.device ∷ []) lines y
      (one_quiet (last_text_line program.image worker x.device) refl) is

stopped_quiet : (worker : ℕ) (ts : Tasks) → TellsFault (stopped_lines worker ts) → ⊥
stopped_quiet worker [] told = told
stopped_quiet worker (None ∷ ts) told = stopped_quiet (suc worker) ts told
stopped_quiet worker (Some t ∷ ts) (inl told) = both_ways false refl told
stopped_quiet worker (Some t ∷ ts) (inr told) = stopped_quiet (suc worker) ts told

-- the lines of a turn tell of a fault only where its answer does
turn_told : (u : Bool) (a : TurnAnswer) (worker : ℕ) (ts : Tasks)
    → TellsFault (turn_lines u a worker ts) → a ≡ turned.Failed
turn_told u turned.Idle worker ts told = absurd told
turn_told u turned.Went worker ts told = absurd told
turn_told u (turned.Done value logged) worker ts told =
    absurd (one_quiet (line.Own worker (answer.Done value u logged)) refl told)
turn_told u (turned.Trap kind) worker ts told =
    absurd (one_quiet (line.Own worker (answer.Trap kind)) refl told)
turn_told u (turned.Aborted kind) worker ts told =
    absurd (one_quiet (line.Own worker (answer.Aborted kind)) refl told)
turn_told u turned.Off worker ts told = absurd (stopped_quiet 0 ts told)
turn_told u turned.Failed worker ts told = refl
turn_told u turned.NoMemory worker ts told =
    absurd (one_quiet (line.Plain answer.NoMemory) refl told)

-- the line of a recovery tells of a fault only where its answer does
recovery_told : (u : Bool) (a : RecoverAnswer) → is_fault (answer_of_recovery u a) ≡ true
    → a ≡ recovered.Failed
recovery_told u recovered.Clean told = absurd (both_ways false refl told)
recovery_told u (recovered.Redone value logged) told = absurd (both_ways false refl told)
recovery_told u (recovered.Trap kind) told = absurd (both_ways false refl told)
recovery_told u (recovered.Aborted kind) told = absurd (both_ways false refl told)
recovery_told u (recovered.Unusable kind) told = absurd (both_ways false refl told)
recovery_told u recovered.Numbers told = absurd (both_ways false refl told)
recovery_told u (recovered.Off phase) told = absurd (both_ways false refl told)
recovery_told u recovered.Failed told = refl
recovery_told u recovered.NoMemory told = absurd (both_ways false refl told)

module _ (program : Program) where
  turn_for : (u : Bool) (o : Option Task) (worker : ℕ) (a : TurnAnswer) (x y : Scene)
      (lines : List WorkersLine) → TurnFor o program.image worker a x y
      → lines ≡ turn_lines u a worker y.workers.tasks → BlamesRightly x lines y
  turn_for u None worker a x y lines is are =
      still x lines [] y
      (are ∙ ap (λ (b : TurnAnswer). turn_lines u b worker y.workers.tasks) is.0) (λ none. none)
      (ap (λ (s : Scene). s.device.faults) is.1)
  turn_for u (Some t) worker a x y lines is are =
      let rose = turn_faults a program.image is.0.task (task_at y.workers.tasks worker)
      (compartment program.image worker x.device) (compartment program.image worker y.device)
      is.0.turned in (
        rose.0,
        λ tells. rose.1 (turn_told u a worker y.workers.tasks (subst TellsFault are tells)),
      )

  turns_once : (worker : ℕ) (x : Scene) (lines : List WorkersLine) (y : Scene)
      → TurnsOnce program worker x lines y → BlamesRightly x lines y
  turns_once worker x lines y is =
      turn_for (task_unsigned program (task_at x.workers.tasks worker))
      (task_at x.workers.tasks worker) worker is.0 x y lines is.1 is.2

  turn_list : (workers : List ℕ) (x : Scene) (lines : List WorkersLine) (y : Scene)
      → TurnList program workers x lines y → BlamesRightly x lines y
  turn_list [] x lines y is = unchanged x [] lines y (λ none. none) is
  turn_list (worker ∷ workers) x lines y is =
      joined x is.2 y is.0 is.1 lines (turns_once worker x is.0 is.2 is.3)
      (after is.2.workers.down is.2 is.1 y is.5.0
      (λ up. turn_list workers is.2 is.1 y (is.5.1 up))) is.4

  turns_known : (o : Option ℕ) (workers : List ℕ) (x : Scene) (lines : List WorkersLine)
      (y : Scene) → TurnsKnown o program workers x lines y → BlamesRightly x lines y
  turns_known (Some worker) workers x lines y is =
      refused (line.RefusedWorker worker) x lines y refl is
  turns_known None workers x lines y is = turn_list workers x lines y is

  turns_given : (down : Bool) (workers : List ℕ) (x : Scene) (lines : List WorkersLine)
      (y : Scene) → TurnsGiven down program workers x lines y → BlamesRightly x lines y
  turns_given true workers x lines y is =
      refused (line.Plain answer.RefusedDown) x lines y refl is
  turns_given false workers x lines y is =
      turns_known (stranger_in (length x.workers.tasks) workers) workers x lines y is

  finishes : (down : Bool) (x : Scene) (lines : List WorkersLine) (y : Scene)
      → FinishesAll down program x lines y → BlamesRightly x lines y
  finishes true x lines y is =
      refused (line.Plain answer.RefusedDown) x lines y refl is
  finishes false x lines y is =
      turn_list (rounds_of is.0 (length x.workers.tasks)) x lines y is.1

module _ (program : Program) where
  recovers : (n worker : ℕ) (x : Scene) (lines : List WorkersLine) (y : Scene)
      → RecoversFrom program worker n x lines y → BlamesRightly x lines y
  recovers zero worker x lines y is = unchanged x [] lines y (λ none. none) is
  recovers (suc n) worker x lines y is =
      let policy = policy_of (owes_marked program (compartment_of program worker x)) in
      let typed = owes_unsigned program (compartment_of program worker x) in
      let counts = recovery_counts typed is.0 policy program.image (compartment_of program worker x)
      (compartment_of program worker is.2) x.steps is.2.steps is.3.recovered in
      joined x is.2 y (line.Own worker (answer_of_recovery typed is.0) ∷ []) is.1 lines (
        counts.0,
        λ told.
            counts.1 (ap (answer_of_recovery typed)
            (recovery_told typed is.0 (⊎_elim (λ here. here) (λ none. absurd none) told))),
      )
      (after (ends_power is.0) is.2 is.1 y is.5.0
      (λ on. recovers n (suc worker) is.2 is.1 y (is.5.1 on))) is.4

  powers : (choice : Choice) (x : Scene) (lines : List WorkersLine) (y : Scene)
      → PowersAll program choice x lines y → BlamesRightly x lines y
  powers choice x lines y is =
      fits (fallen 0 choice.picks) (bad (memory_of x.device) choice.picks) refl refl
    where
      fits : (falls lacks : Option ℕ) → fallen 0 choice.picks ≡ falls
          → bad (memory_of x.device) choice.picks ≡ lacks → BlamesRightly x lines y
      fits (Some l) lacks falls is_bad =
          refused (line.Plain (answer.RefusedPick l)) x lines y refl (is.0 l falls)
      fits None (Some l) falls is_bad =
          refused (line.Plain (answer.RefusedPick l)) x lines y refl (is.1 l falls is_bad)
      fits None None falls is_bad =
          recovers (length x.workers.tasks) 0 (cut_scene choice x) lines y (is.2 falls is_bad)

pub told_fault : ToldFaultLaw
told_fault program (command.Start worker name args) x y lines is =
    starts program worker x lines y (refusal_at program.image x.workers worker x.device) name args
    (refusal_quiet program.image x.workers worker x.device) is
told_fault program (command.Turn workers) x y lines is =
    turns_given program x.workers.down workers x lines y is
told_fault program command.Finish x y lines is =
    finishes program x.workers.down x lines y is
told_fault program (command.Stop left) x y lines is =
    still x lines [] y is.0 (λ none. none) (ap (λ (s : Scene). s.device.faults) is.1)
told_fault program (command.Fault at) x y lines is =
    still x lines [] y is.0 (λ none. none) (ap (λ (s : Scene). s.device.faults) is.1)
told_fault program (command.Power choice) x y lines is =
    powers program choice x lines y is
told_fault program (command.Show worker) x y lines is =
    shows program worker x lines y (refusal_at program.image x.workers worker x.device)
    (refusal_quiet program.image x.workers worker x.device) is
told_fault program (command.Last worker) x y lines is =
    lasts program worker x lines y (refusal_at program.image x.workers worker x.device)
    (refusal_quiet program.image x.workers worker x.device) is

pub run_fault : RunFaultLaw
run_fault program [] x y w w' is =
    let same : y.device.faults ≡ x.device.faults = ap (λ (s : Scene). s.device.faults) is.0 in
    omega (arith, same)
run_fault program (c ∷ commands) x y w w' is =
    let one = told_fault program c x is.1 is.0 is.3 in
    let le = one.0 in
    let more = run_fault program commands is.1 y is.2 w' is.5 in
    omega (arith, le, more)
