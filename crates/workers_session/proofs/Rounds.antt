-- A turn that isn't interrupted lowers the number of turns that are left.
use Rattle.std.proofs.Common.{◌≡◌, ◌⊎◌, inl, inr, ⊎_elim, ℕ, zero, suc, ◌+◌, ◌-◌, ◌<◌, ◌≤◌, false}
use Rattle.std.proofs.Common.{[], ◌∷◌, Option, Some, length, refl, ap, subst, ne_eqb, arith}
use Rattle.std.proofs.Common.{Bool, true, if◌then◌else◌}
use Rattle.cache_model.specs.Cache.{Cache, view}
use Rattle.cache_model.specs.Play.{play}
use Rattle.pmem.specs.Device.{Device}
use Rattle.pm_machine.specs.declared.image.Image.{Image}
use Rattle.pm_machine.specs.declared.machine.Machine.{Machine}
use Rattle.pm_machine.specs.declared.records.Policy.TheVariants.{EndPool}
use Rattle.pm_machine.specs.declared.effect.End.TheVariants.{Trapped}
use Rattle.pool_map.specs.declared.trap.TrapKind.TheVariants.{Depth}
use Rattle.pm_machine.specs.Logging.{Logging, Turn, Plays, Stops, turn_of}
use Rattle.pm_machine.specs.Looking.{is_look}
use Rattle.pm_machine.specs.Machine.{StepOutcome, Goes, Ends, step}
use Rattle.pm_machine.specs.Runs.{heap_in, logging_on}
use Rattle.clobber_log.specs.Logs.{attempt_in}
use Rattle.tx_run.specs.Due.{due_seal}
use Rattle.pool_workers.specs.declared.answer.TurnAnswer.{TurnAnswer}
use Rattle.pool_workers.specs.declared.answer.TurnAnswer.TheVariants as turned
use Rattle.pool_workers.specs.declared.task.Task.{Task}
use Rattle.pool_workers.specs.declared.task.Task.TheVariants.{Begun, Running, Ending, Cut}
use Rattle.pool_workers.specs.declared.task.Task.TheVariants.{Looking}
use Rattle.pool_workers.specs.declared.look.Look.{Look}
use Rattle.pool_workers.specs.declared.look.Look.TheVariants.{Fresh, Going, Seen}
use Rattle.pool_workers.specs.Look.{going_look, looked, HasLeft}
use Rattle.pool_workers.specs.Task.{machine_at, going, stepped_task, task_past, Turned, IsTask}
use Rattle.pool_workers.specs.Task.{IsTaskOr, IsUncut, IsUncutOr}
use Rattle.pool_workers.specs.Crew.{Tasks, task_at, AreTasks, OtherTasksStay}
use Rattle.workers_session.specs.WorkersCommands.{is_interrupted}
use Rattle.workers_session.specs.inside.Turning.{look_turns, turns_of, turns_left, turns_in}
use Rattle.workers_session.specs.inside.Turning.{busy_one, busy_first}

going_most : (most tx : ℕ) (m : Machine) (a k : ℕ) → turns_of most (going tx m a k) ≤ k + 1
going_most most tx m a zero =
    let same : turns_of most (going tx m a zero) ≡ 1 = refl in omega arith
going_most most tx m a (suc k) =
    let same : turns_of most (going tx m a (suc k)) ≡ suc k + 1 =
    rw (ne_eqb (suc k) 0 (λ e. omega arith)) refl in
    omega arith

stepped_most : (most tx a k : ℕ) (g : Logging) (x : Turn) → 0 < k →
    turns_of most (stepped_task tx a k g x) < k + 1
stepped_most most tx a k g (Plays es h t) more =
    let few = going_most most tx (machine_at t h) a (k - 1) in omega arith
stepped_most most tx a k g (Stops end) more = omega arith

look_most : (most : ℕ) (m : Machine) (k : ℕ) → look_turns most (going_look m k) ≤ k + 1
look_most most m zero =
    let same : look_turns most (going_look m zero) ≡ 1 = refl in omega arith
look_most most m (suc k) =
    let same : look_turns most (going_look m (suc k)) ≡ suc k + 1 =
    rw (ne_eqb (suc k) 0 (λ e. omega arith)) refl in
    omega arith

looked_most : (most k : ℕ) (g : Logging) (x : StepOutcome) → 0 < k →
    look_turns most (looked k g x) < k + 1
looked_most most k g (Ends end) more = omega arith
looked_most most k g (Goes e s) more = by_look (is_look e)
  where
    by_look : (b : Bool) → look_turns most (if b then
        going_look (record { processor = s; records = g }) (k - 1) else Seen (Trapped Depth))
        < k + 1
    by_look true =
        let few = look_most most (record { processor = s; records = g }) (k - 1) in omega arith
    by_look false = omega arith

look_less : (image : Image) (tx : ℕ) (l : Look) (c : Cache) → HasLeft l →
    turns_left image.parts.most (task_past image (Looking tx l) c) + 1
    ≤ look_turns image.parts.most l
look_less image tx (Fresh m) c is =
    let most = look_most image.parts.most m image.parts.most in omega arith
look_less image tx (Going m k) c is =
    let less = looked_most image.parts.most k m.records
    (step image m.processor (heap_in image.parts.sizes c)) is in omega arith
look_less image tx (Seen end) c is = omega arith

past_less : (image : Image) (t : Task) (c : Cache) → IsTask image t → IsUncut t →
    turns_left image.parts.most (task_past image t c) + 1 ≤ turns_of image.parts.most t
past_less image (Begun tx args m) c is uncut =
    let now = play c (due_seal tx args c) in
    let most = going_most image.parts.most tx
    (machine_at m.processor (logging_on EndPool image.parts.sizes now))
    (attempt_in image.parts.sizes (view now)) image.parts.most in
    omega arith
past_less image (Running tx m a k) c is uncut =
    let less = stepped_most image.parts.most tx a k m.records
    (turn_of image m.records m.processor (heap_in image.parts.sizes c)) is.2 in
    omega arith
past_less image (Ending tx end l) c is uncut = omega arith
past_less image (Looking tx l) c is uncut = look_less image tx l c is
past_less image (Cut p) c is uncut = absurd uncut

turned_less : (a : TurnAnswer) (image : Image) (t : Task) (o : Option Task) (d b : Device) →
    IsTask image t → IsUncut t → Turned a image t o d b → is_interrupted a ≡ false →
    turns_left image.parts.most o + 1 ≤ turns_of image.parts.most t
turned_less turned.Idle image t o d b is uncut h goes = absurd h
turned_less turned.Went image t o d b is uncut h goes =
    rw h.1 (past_less image t d.cache is uncut)
turned_less (turned.Done v l) image t o d b is uncut h goes =
    rw h.1 (past_less image t d.cache is uncut)
turned_less (turned.Trap k) image t o d b is uncut h goes =
    rw h.1 (past_less image t d.cache is uncut)
turned_less (turned.Aborted k) image t o d b is uncut h goes =
    rw h.1 (past_less image t d.cache is uncut)
turned_less turned.Off image t o d b is uncut h goes = absurd cc
turned_less turned.Failed image t o d b is uncut h goes = absurd cc
turned_less turned.NoMemory image t o d b is uncut h goes = absurd cc

shift_suc : (i j : ℕ) → suc j ≡ suc i → j ≡ i
shift_suc i j e = omega arith

same_turns : (m : ℕ) (ts us : Tasks) → length us ≡ length ts →
    ((j : ℕ) → task_at us j ≡ task_at ts j) → turns_in m us ≡ turns_in m ts
same_turns m [] [] len same = refl
same_turns m [] (p ∷ ps) len same = absurd (omega arith)
same_turns m (o ∷ os) [] len same = absurd (omega arith)
same_turns m (o ∷ os) (p ∷ ps) len same =
    let head : p ≡ o = same 0 in
    let rest = same_turns m os ps (omega arith) (λ j. same (suc j)) in
    rw (head, rest) refl

-- only the turns of one worker are others
one_other : (m i : ℕ) (ts us : Tasks) → length us ≡ length ts → i < length ts →
    OtherTasksStay i ts us →
    turns_in m us + turns_left m (task_at ts i) ≡ turns_in m ts + turns_left m (task_at us i)
one_other m i [] us len less others = absurd (omega arith)
one_other m i (o ∷ os) [] len less others = absurd (omega arith)
one_other m zero (o ∷ os) (p ∷ ps) len less others =
    let rest = same_turns m os ps (omega arith) (λ j. others (suc j) (λ e. omega arith)) in
    omega arith
one_other m (suc i) (o ∷ os) (p ∷ ps) len less others =
    let head : p ≡ o = others 0 (λ e. omega arith) in
    let rest = one_other m i os ps (omega arith) (omega arith)
    (λ j ne. others (suc j) (λ e. ne (shift_suc i j e))) in
    rw head (omega arith)

pub is_task_at : (image : Image) (ts : Tasks) (i : ℕ) → AreTasks image ts →
    IsTaskOr image (task_at ts i)
is_task_at image [] i are = tt
is_task_at image (o ∷ os) zero are = are.0
is_task_at image (o ∷ os) (suc i) are = is_task_at image os i are.1

-- a turn of a worker that has a transaction
pub turn_fewer : (image : Image) (i : ℕ) (a : TurnAnswer) (t : Task) (ts us : Tasks) (d b : Device)
    → task_at ts i ≡ Some t → AreTasks image ts → IsUncutOr (task_at ts i) →
    Turned a image t (task_at us i) d b → is_interrupted a ≡ false →
    length us ≡ length ts → i < length ts → OtherTasksStay i ts us →
    turns_in image.parts.most us + 1 ≤ turns_in image.parts.most ts
turn_fewer image i a t ts us d b is are uncut h goes len less others =
    let task : IsTaskOr image (Some t) = subst (IsTaskOr image) is (is_task_at image ts i are) in
    let going_on : IsUncutOr (Some t) = subst IsUncutOr is uncut in
    let lower = turned_less a image t (task_at us i) d b task going_on h goes in
    let one = one_other image.parts.most i ts us len less others in
    let was : turns_left image.parts.most (task_at ts i) ≡ turns_of image.parts.most t =
    ap (turns_left image.parts.most) is in
    omega arith

pub split_last : (i n : ℕ) → i < suc n → (i < n) ⊎ (i ≡ n)
split_last zero zero less = inr refl
split_last zero (suc n) less = inl (omega arith)
split_last (suc i) zero less = absurd (omega arith)
split_last (suc i) (suc n) less = ⊎_elim
    (λ (before : i < n). inl (omega arith))
    (λ (last : i ≡ n). inr (ap suc last))
    (split_last i n (omega arith))

-- one more turn of a round, of a worker that has had none before
pub busy_more : (m i : ℕ) (start now next : Tasks) → task_at now i ≡ task_at start i →
    turns_in m now + busy_first i start ≤ turns_in m start →
    turns_in m next + busy_one (task_at now i) ≤ turns_in m now →
    turns_in m next + busy_first (i + 1) start ≤ turns_in m start
busy_more m i start now next same before one =
    let last : busy_one (task_at now i) ≡ busy_one (task_at start i) = ap busy_one same in
    let next_one : i + 1 ≡ suc i = omega arith in
    rw next_one (omega arith)
