-- A worker that is in a transaction: how its compartment stands to the one in which the transaction
-- began, and what the source says when it ends.
use Rattle.std.proofs.Common.{◌≡◌, ℕ, zero, suc, ◌+◌, ◌-◌, ◌^◌, ◌<◌, ◌≤◌, Bool, true}
use Rattle.std.proofs.Common.{false, ◌&&◌, ◌==◌, if◌then◌else◌, List, [], length, Some}
use Rattle.std.proofs.Common.{Option, None, ℤ, pos, refl, sym, ap, ◌∙◌, subst, arith}
use Rattle.cache_model.specs.Event.{CacheEvent}
use Rattle.cache_model.specs.Cache.{Words, Cache, view}
use Rattle.cache_model.specs.Play.{play}
use Rattle.cache_model.specs.Image.{Images}
use Rattle.pmem.specs.Device.{Device}
use Rattle.pool_layout.specs.declared.places.TheConstants.{DONE, ATTEMPT, MARK}
use Rattle.pool_layout.specs.Good.{Lost, Good}
use Rattle.pool_map.specs.declared.trap.TrapKind.{TrapKind}
use Rattle.pool_map.specs.declared.trap.TrapKind.TheVariants as trap
use Rattle.pool_map.specs.Trap.{trap_number}
use Rattle.clobber_log.specs.Logs.{attempt_in}
use Rattle.pm_machine.specs.declared.effect.End.{End}
use Rattle.pm_machine.specs.declared.effect.End.TheVariants.{Halted, Trapped}
use Rattle.pm_machine.specs.declared.image.Image.{Image}
use Rattle.pm_machine.specs.declared.machine.Machine.{Machine}
use Rattle.pm_machine.specs.declared.records.Policy.TheVariants.{EndPool}
use Rattle.pm_machine.specs.Effects.{heap_end}
use Rattle.pm_machine.specs.Logging as log
use Rattle.pm_machine.specs.Logging.{Logging, Turn, Plays, Stops, turn_of, blank}
use Rattle.pm_machine.specs.Machine.{State, start}
use Rattle.pm_machine.specs.Runs.{heap_in, logging_on, due, owing, played}
use Rattle.crash_law.specs.Law.{IsAtRest, IsCut, AreMarked}
use Rattle.run_law.specs.Seen.{result_of, E, W}
use Rattle.tx_run.specs.declared.standing.Standing.TheVariants as stands
use Rattle.tx_run.specs.Standing.{is_number, standing_of}
use Rattle.tx_run.specs.declared.answer.CallAnswer.{CallAnswer}
use Rattle.tx_run.specs.declared.answer.CallAnswer.TheVariants as called
use Rattle.tx_run.specs.Due.{due_seal, due_call}
use Rattle.tx_run.specs.Called.{Called, IsTxCalled}
use Rattle.cut_law.specs.Law.{call_of, pool_with, BeginsOn, RunsSound}
use Rattle.pool_workers.specs.declared.answer.TurnAnswer.{TurnAnswer}
use Rattle.pool_workers.specs.declared.task.Task.{Task}
use Rattle.pool_workers.specs.declared.look.Look.TheVariants.{Fresh, Going, Seen}
use Rattle.pool_workers.specs.declared.task.Task.TheVariants.{Begun, Running, Ending, Cut}
use Rattle.pool_workers.specs.declared.task.Task.TheVariants.{Looking}
use Rattle.pool_workers.specs.Task.{machine_at, task_tx, going, stepped_task, task_past}
use Rattle.pool_workers.specs.Task.{end_answer, piece_of, IsTask, IsUncut, IsUncutOr, WentWhole}
use Rattle.workers_law.specs.AsCall.{begun_task}
use Rattle.workers_law.specs.Fate.{fate_of, task_logs, task_steps, is_looking, told_end}
use Rattle.workers_law.specs.Fenced.{fenced_cache}
use Rattle.workers_law.specs.Standing.{ShowsPlayed, ShowsSome, TaskStands}
use Rattle.workers_law.proofs.Powers.{fenced}
use Rattle.workers_law.proofs.Stands.{turns, shown_images}
use Rattle.workers_law.proofs.Fates.{fates}
use Rattle.workers_law.proofs.CutsTurned.{cut_turns}
use Rattle.workers_law.proofs.AsCalls as ascalls
use Rattle.workers_law.specs.Phases.{InPhase}
use Rattle.workers_law.proofs.Phases.{phases}
use Rattle.workers_source_law.proofs.Phases.{rest_lacks, rest_number}
use Rattle.pmem.proofs.Refused.{all_cache}
use Rattle.cnvm_session.specs.declared.mode.Mode.TheVariants as mode
use Rattle.cnvm_session.specs.declared.program.Program.{Program}
use Rattle.cnvm_session.specs.Commands.{tx_parameters}
use Rattle.cnvm_session.specs.Marks.{rolls_back_of, looks_of, unsigned_of}
use Rattle.cnvm_session.specs.Pool.{sizes_of}
use Rattle.session_law.specs.Words.{AreWords}
use Rattle.session_law.specs.Agrees.{Agrees, RunsAs}
use Rattle.session_law.specs.State.{Pending, Ready, Unusable, SourceState, standing_as}
use Rattle.session_law.specs.State.{done_with}
use Rattle.session_law.specs.Answers.{IsDoneWith, TrapsAs}
use Rattle.session_law.specs.Holds.{IsResting, OwesBy, Holds}
use Rattle.session_law.proofs.Words.{held_words}
use Rattle.session_law.proofs.images.Ones.{rest_one}
use Rattle.session_law.proofs.images.Retired.{count_at}
use Rattle.session_law.proofs.images.Reading.{numbers_small, stands_numbers}
use Rattle.session_law.proofs.answers.Calls.{call_runs}
use Rattle.session_law.proofs.logs.Exact.{Recorded, run_recorded}
use Rattle.workers_source_law.proofs.Stills.{still, AreFewer}
use Rattle.workers_source_law.proofs.Stills.{rest_stands, rest_same}

-- The compartment's cache c is as some first events of the call left the cache `start`, which was
-- at rest in this state; the task is what is left, and its fate is that of the whole call.
pub record IsAtWork (program : Program) (super : Words) (call : Pending) (t : Task) (c : Cache)
    (s : SourceState) : Type 0 where
  pub start : Cache
  pub marked : AreMarked start
  pub resting : IsResting program super (still start) s
  pub takes : tx_parameters program.image call.tx ≡ Some (length call.args)
  pub words : AreWords call.args
  pub plain : rolls_back_of program call.tx ≡ false
  pub stores : looks_of program call.tx ≡ false
  pub ready : standing_of (view start) ≡ stands.Ready
  pub task : IsTask program.image t
  pub kind : is_looking t ≡ false
  pub names : task_tx t ≡ call.tx
  pub uncut : IsUncut t
  pub stands : TaskStands program.image call.tx call.args start t c
  pub fate : fate_of program.image t c
      ≡ fate_of program.image (begun_task program.image call.tx call.args) start
  pub logs : task_logs program.image t c
      ≡ task_logs program.image (begun_task program.image call.tx call.args) start
  pub phase : InPhase (pos (suc s.done)) t c

-- a run takes at most the steps that it may

owing_few : (image : Image) (a k : ℕ) (g : Logging) (c : Cache) (x : Turn) →
    ((h : Logging) (t : State) (d : Cache) → (due image a k h t d).steps ≤ k) →
    (owing image.parts.sizes a g (heap_in image.parts.sizes c)
    (λ es h t. due image a k h t (played image.parts.sizes a g c es)) x).steps ≤ suc k
owing_few image a k g c (Stops end) rest = omega arith
owing_few image a k g c (Plays es h t) rest =
    let later = rest h t (played image.parts.sizes a g c es) in omega arith

steps_few : (image : Image) (a k : ℕ) (g : Logging) (s : State) (c : Cache) →
    (due image a k g s c).steps ≤ k
steps_few image a zero g s c = omega arith
steps_few image a (suc k) g s c =
    owing_few image a k g c (turn_of image g s (heap_in image.parts.sizes c))
    (λ h t d. steps_few image a k h t d)

call_steps : (image : Image) (tx : ℕ) (args : List ℤ) (c : Cache)
    → task_steps image (begun_task image tx args) c ≤ image.parts.most
call_steps image tx args c =
    let b = play c (due_seal tx args c) in
    steps_few image _ image.parts.most _ (start image tx args) b

-- a pool that takes calls has numbers in range
numbers_of : (image : Words) → standing_of image ≡ stands.Ready → image MARK ≡ pos 0
    → (is_number (image DONE) && is_number (image ATTEMPT)) ≡ true
numbers_of image ready mark = go (is_number (image DONE) && is_number (image ATTEMPT)) refl
  where
    go : (b : Bool) → (is_number (image DONE) && is_number (image ATTEMPT)) ≡ b → b ≡ true
    go true is = refl
    go false is = let none = sym ready ∙ stands_numbers image mark is in absurd cc

-- after a turn that wasn't refused the task is uncut

going_uncut : (tx : ℕ) (m : Machine) (a k : ℕ) → IsUncut (going tx m a k)
going_uncut tx m a k = go (k == 0)
  where
    go : (b : Bool) → IsUncut (if b then Ending tx (Trapped trap.Steps) (length m.records.words)
        else Running tx m a k)
    go true = tt
    go false = tt

stepped_uncut : (tx a k : ℕ) (g : Logging) (x : Turn) → IsUncut (stepped_task tx a k g x)
stepped_uncut tx a k g (Plays es h t) = going_uncut tx (machine_at t h) a (k - 1)
stepped_uncut tx a k g (Stops end) = tt

pub past_uncut : (image : Image) (t : Task) (c : Cache) → IsUncut t
    → IsUncutOr (task_past image t c)
past_uncut image (Begun tx args m) c uncut =
    let sealed : Cache = play c (due_seal tx args c) in
    going_uncut tx (machine_at m.processor (logging_on EndPool image.parts.sizes sealed))
    (attempt_in image.parts.sizes (view sealed)) image.parts.most
past_uncut image (Running tx m a k) c uncut =
    stepped_uncut tx a k m.records
    (turn_of image m.records m.processor (heap_in image.parts.sizes c))
past_uncut image (Ending tx end l) c uncut = tt
past_uncut image (Looking tx (Fresh m)) c uncut = tt
past_uncut image (Looking tx (Going m k)) c uncut = tt
past_uncut image (Looking tx (Seen end)) c uncut = tt
past_uncut image (Cut p) c uncut = absurd uncut

-- nor does it change the transaction's number

going_names : (tx : ℕ) (m : Machine) (a k : ℕ) → task_tx (going tx m a k) ≡ tx
going_names tx m a k = go (k == 0)
  where
    go : (b : Bool) → task_tx (if b then Ending tx (Trapped trap.Steps) (length m.records.words)
        else Running tx m a k) ≡ tx
    go true = refl
    go false = refl

stepped_names : (tx a k : ℕ) (g : Logging) (x : Turn) → task_tx (stepped_task tx a k g x) ≡ tx
stepped_names tx a k g (Plays es h t) = going_names tx (machine_at t h) a (k - 1)
stepped_names tx a k g (Stops end) = refl

-- the transaction that is left, if any, has this number
abbrev pub NamesOr : ℕ → Option Task → Type 0
NamesOr n None = Unit {0}
NamesOr n (Some t) = task_tx t ≡ n

pub past_names : (image : Image) (t : Task) (c : Cache) → IsUncut t
    → NamesOr (task_tx t) (task_past image t c)
past_names image (Begun tx args m) c uncut =
    let sealed : Cache = play c (due_seal tx args c) in
    going_names tx (machine_at m.processor (logging_on EndPool image.parts.sizes sealed))
    (attempt_in image.parts.sizes (view sealed)) image.parts.most
past_names image (Running tx m a k) c uncut =
    stepped_names tx a k m.records
    (turn_of image m.records m.processor (heap_in image.parts.sizes c))
past_names image (Ending tx end l) c uncut = tt
past_names image (Looking tx (Fresh m)) c uncut = refl
past_names image (Looking tx (Going m k)) c uncut = refl
past_names image (Looking tx (Seen end)) c uncut = tt
past_names image (Cut p) c uncut = absurd uncut

-- nor whether it only looks

going_stores : (tx : ℕ) (m : Machine) (a k : ℕ) → is_looking (going tx m a k) ≡ false
going_stores tx m a k = go (k == 0)
  where
    go : (b : Bool) → is_looking (if b then Ending tx (Trapped trap.Steps) (length m.records.words)
        else Running tx m a k) ≡ false
    go true = refl
    go false = refl

stepped_stores : (tx a k : ℕ) (g : Logging) (x : Turn)
    → is_looking (stepped_task tx a k g x) ≡ false
stepped_stores tx a k g (Plays es h t) = going_stores tx (machine_at t h) a (k - 1)
stepped_stores tx a k g (Stops end) = refl

-- the transaction that is left, if any, looks or doesn't
abbrev pub KindOr : Bool → Option Task → Type 0
KindOr looks None = Unit {0}
KindOr looks (Some t) = is_looking t ≡ looks

pub past_kind : (image : Image) (t : Task) (c : Cache) → IsUncut t
    → KindOr (is_looking t) (task_past image t c)
past_kind image (Begun tx args m) c uncut =
    let sealed : Cache = play c (due_seal tx args c) in
    going_stores tx (machine_at m.processor (logging_on EndPool image.parts.sizes sealed))
    (attempt_in image.parts.sizes (view sealed)) image.parts.most
past_kind image (Running tx m a k) c uncut =
    stepped_stores tx a k m.records
    (turn_of image m.records m.processor (heap_in image.parts.sizes c))
past_kind image (Ending tx end l) c uncut = tt
past_kind image (Looking tx (Fresh m)) c uncut = refl
past_kind image (Looking tx (Going m k)) c uncut = refl
past_kind image (Looking tx (Seen end)) c uncut = tt
past_kind image (Cut p) c uncut = absurd uncut

module _ (program : Program) (super : Words) (call : Pending) (s : SourceState) where
  abbrev due_of : Cache → List CacheEvent
  due_of c = due_call EndPool program.image call.tx call.args c

  -- another worker's fence
  pub work_fenced : (t : Task) (k : Bool) (c : Cache) → IsAtWork program super call t c s
      → IsAtWork program super call t (fenced_cache k c) s
  work_fenced t k c w =
      let same : view (fenced_cache k c) ≡ view c = (fenced k c).1 in
      let fate = fates.1 program.image t (fenced_cache k c) c same in
      record {
        start = w.start;
        marked = w.marked;
        resting = w.resting;
        takes = w.takes;
        words = w.words;
        plain = w.plain;
        stores = w.stores;
        ready = w.ready;
        task = w.task;
        kind = w.kind;
        names = w.names;
        uncut = w.uncut;
        stands = (turns program.image call.tx call.args w.start).2 t c k w.stands;
        fate = fate.0 ∙ w.fate;
        logs = fate.1 ∙ w.logs;
        phase = phases.2 (pos (suc s.done)) t c k w.uncut w.phase;
      }

  -- its own whole turn
  pub work_goes : (a : TurnAnswer) (t u : Task) (d b : Device) → IsTask program.image u
      → IsAtWork program super call t d.cache s → WentWhole a program.image t (Some u) d b
      → IsAtWork program super call u b.cache s
  work_goes a t u d b task w went =
      let played : b.cache ≡ play d.cache (piece_of program.image t d.cache) =
      all_cache (piece_of program.image t d.cache) d b went.2 in
      let now = fates.0 program.image t u d.cache w.task w.uncut (sym went.1) in
      record {
        start = w.start;
        marked = w.marked;
        resting = w.resting;
        takes = w.takes;
        words = w.words;
        plain = w.plain;
        stores = w.stores;
        ready = w.ready;
        task = task;
        kind = subst (KindOr (is_looking t)) (sym went.1)
            (past_kind program.image t d.cache w.uncut) ∙ w.kind;
        names = subst (NamesOr (task_tx t)) (sym went.1)
            (past_names program.image t d.cache w.uncut) ∙ w.names;
        uncut = subst IsUncutOr (sym went.1) (past_uncut program.image t d.cache w.uncut);
        stands = (turns program.image call.tx call.args w.start).1 a t (Some u) d b w.task w.stands
            went;
        fate = ap (fate_of program.image u) played ∙ now.0 ∙ w.fate;
        logs = ap (task_logs program.image u) played ∙ now.1 ∙ w.logs;
        phase = phases.1 program.image (pos (suc s.done)) a t u d b w.uncut w.phase went;
      }

  -- it begins
  pub work_begins : (c : Cache) → AreMarked c → IsResting program super (still c) s
      → tx_parameters program.image call.tx ≡ Some (length call.args) → AreWords call.args
      → rolls_back_of program call.tx ≡ false → looks_of program call.tx ≡ false
      → standing_of (view c) ≡ stands.Ready
      → IsAtWork program super call (begun_task program.image call.tx call.args) c s
  work_begins c marked resting takes words plain stores ready = record {
    start = c;
    marked = marked;
    resting = resting;
    takes = takes;
    words = words;
    plain = plain;
    stores = stores;
    ready = ready;
    task = refl;
    kind = refl;
    names = refl;
    uncut = tt;
    stands = (turns program.image call.tx call.args c).0;
    fate = refl;
    logs = refl;
    phase = phases.0 false program.image (pos (suc s.done)) call.tx call.args c
        (rest_lacks program super c s resting) (rest_number program super c s resting);
  }

  module _ (agrees : Agrees program) (t : Task) (c0 : Cache)
      (w : IsAtWork program super call t c0 s) where
    abbrev start_of : Cache
    start_of = w.start

    abbrev h : Words
    h = heap_in (sizes_of program) start_of

    runs : RunsAs program h call.tx call.args
    runs = agrees.runs h call.tx call.args w.resting.holds.headers
        (held_words program h s w.resting.holds) w.words w.takes

    few : (call.tx < 2 ^ 63) × (length call.args ≤ 22)
    few = agrees.few call.tx (length call.args) w.takes

    good : Good (pool_with program.image super) s.done h (view start_of)
    good = w.resting.before.good

    small : (s.done < 2 ^ 62) × (good.attempt < 2 ^ 62)
    small = numbers_small (view start_of) s.done good.attempt good.done good.attempt_is
        (numbers_of (view start_of) w.ready good.mark)

    begins : BeginsOn program.image super call.tx s.done start_of (view start_of)
    begins = record {
      tx_fits = few.0;
      d_fits = small.0;
      only = rest_one start_of w.resting.rest;
      good = good;
      a_fits = small.1;
      empty = sym (count_at (sizes_of program) (view start_of) good.attempt good.attempt_is
          (let fits = good.attempt_fits in omega arith)) ∙ w.resting.empty;
    }

    -- the run with its records
    own : Recorded false program h call.tx call.args (log.takes (blank EndPool) runs.effects)
    own = run_recorded false program h call.tx call.args runs

    sound : RunsSound EndPool program.image call.tx call.args h own.end own.effects
    sound = record { few = few.1; ran = own.ran; sound = own.sound }

    -- whatever a cut leaves of the compartment, it is as of a cut call
    pub work_owes : (c : Cache) → ShowsSome (due_of start_of) start_of c
        → OwesBy false program super call (still c) s
    work_owes c shows =
        let cut = (cut_turns program.image super call.tx call.args start_of (view start_of) s.done
        own.end own.effects begins sound w.marked).0 c shows in
        record {
          heap = h;
          holds = w.resting.holds;
          takes = w.takes;
          words = w.words;
          end = own.end;
          effects = own.effects;
          ran = own.ran;
          left = subst (λ (last : ℤ).
              Images (IsCut (pool_with program.image super) (call_of s.done call.tx call.args)
              (E EndPool own.effects) (W own.effects) h (heap_end h own.effects) last
              (result_of EndPool last own.end)) c) w.resting.before.last_is cut;
        }

    -- the end of the call on a device that refuses nothing
    abbrev over : Cache
    over = play start_of (due_of start_of)

    abbrev fate0 : End
    fate0 = fate_of program.image (begun_task program.image call.tx call.args) start_of

    as_called : (r : CallAnswer) → Called r EndPool program.image call.tx call.args (still start_of)
        (still over) 0 (0 + task_steps program.image (begun_task program.image call.tx call.args)
        start_of)
        → IsTxCalled r EndPool program.image call.tx call.args (still start_of) (still over) 0
        (0 + task_steps program.image (begun_task program.image call.tx call.args) start_of)
    as_called r is = record {
      ready = λ on stands. is;
      unusable = λ kind on stands. let no = sym w.ready ∙ stands in absurd cc;
      numbers = λ on stands. let no = sym w.ready ∙ stands in absurd cc;
      off = λ off. absurd cc;
      bound = λ on. omega arith;
      most = let few = call_steps program.image call.tx call.args start_of in omega arith;
    }

    module _ (c : Cache) (all : ShowsPlayed (due_of start_of) [] start_of c) where
      shown_rest : IsAtRest over → IsAtRest c
      shown_rest = (shown_images (due_of start_of) start_of c w.marked).2 all

      shown_view : view c ≡ view over
      shown_view = (shown_images (due_of start_of) start_of c w.marked).3 all

      shown_fewer : AreFewer over c
      shown_fewer image is = (shown_images (due_of start_of) start_of c w.marked).1 image all is

      -- it ended with a value
      pub work_done : (v : ℤ) (l : ℕ) → fate0 ≡ Halted v
          → l ≡ task_logs program.image (begun_task program.image call.tx call.args) start_of
          → (u : SourceState)
          × IsDoneWith false program s call.tx call.args v (unsigned_of program call.tx) l Ready u
          × (u.standing ≡ Ready) × IsResting program super (still c) u
      work_done v l halted logs =
          let ran = (ascalls.called program.image call.tx call.args 0 start_of 0).0 v halted in
          let own_logs = task_logs program.image (begun_task program.image call.tx call.args)
          start_of in
          let done = call_runs false program super agrees (still start_of) (standing_as Ready s)
          (rest_stands program super (still start_of) s Ready w.resting) call.tx call.args w.takes
          w.words w.plain (called.Done v own_logs) (still over) 0
          (0 + task_steps program.image (begun_task program.image call.tx call.args) start_of) refl
          (as_called (called.Done v own_logs) ran) in
          let typed = unsigned_of program call.tx in
          let at : IsDoneWith false program s call.tx call.args v typed own_logs Ready done.0 =
          done.1 in
          let u : SourceState = done_with at.0 v Ready s in
          let rests : IsResting program super (still over) u =
          (subst (λ (x : SourceState). Holds program super mode.Ready (still over) x) at.2 done.2).1
          in (
            u,
            subst (λ (n : ℕ). IsDoneWith false program s call.tx call.args v typed n Ready u)
                (sym logs) (at.0, at.1, refl, refl),
            refl,
            rest_same program super over c u (shown_rest rests.rest) shown_view rests,
          )

      -- it trapped
      pub work_traps : (kind : TrapKind) → fate0 ≡ Trapped kind
          → TrapsAs false program s call.tx call.args kind
          × Images (Lost program.image.parts.sizes (trap_number kind)) c
      work_traps kind trapped =
          let ran = (ascalls.called program.image call.tx call.args 0 start_of 0).1 kind trapped in
          let done = call_runs false program super agrees (still start_of) (standing_as Ready s)
          (rest_stands program super (still start_of) s Ready w.resting) call.tx call.args w.takes
          w.words w.plain (called.Trap kind) (still over) 0
          (0 + task_steps program.image (begun_task program.image call.tx call.args) start_of) refl
          (as_called (called.Trap kind) ran) in
          let at : (false ≡ false) × TrapsAs false program s call.tx call.args kind
          × (done.0 ≡ standing_as (Unusable kind) (standing_as Ready s)) = done.1 in
          let lost : Images (Lost program.image.parts.sizes (trap_number kind)) over =
          (subst (λ (x : SourceState). Holds program super (mode.Unusable kind) (still over) x)
          at.2 done.2).1 in
          (at.1, λ image is. lost image (shown_fewer image is))

-- the last turn: the task was at its end, and the answer tells the fate
pub record HasEnded (program : Program) (super : Words) (call : Pending) (t : Task)
    (s : SourceState) (c : Cache) (w : IsAtWork program super call t c s) (b : Cache)
    (a : TurnAnswer) : Type 0 where
  pub all : ShowsPlayed (due_call EndPool program.image call.tx call.args w.start) [] w.start b
  pub told : a ≡ end_answer
      (fate_of program.image (begun_task program.image call.tx call.args) w.start)
      (task_logs program.image (begun_task program.image call.tx call.args) w.start)

pub work_ends : (program : Program) (super : Words) (call : Pending) (s : SourceState)
    (a : TurnAnswer) (t : Task) (d b : Device)
    (w : IsAtWork program super call t d.cache s) → WentWhole a program.image t None d b
    → HasEnded program super call t s d.cache w b.cache a
work_ends program super call s a t d b w went = record {
  all = (turns program.image call.tx call.args w.start).1 a t None d b w.task w.stands went;
  told = went.0 ∙ fates.2 program.image t d.cache (sym went.1)
      ∙ ap (λ (looks : Bool). told_end looks (fate_of program.image t d.cache)
      (task_logs program.image t d.cache)) w.kind
      ∙ ap (λ (e : End). end_answer e (task_logs program.image t d.cache)) w.fate
      ∙ ap (end_answer (fate_of program.image (begun_task program.image call.tx call.args) w.start))
      w.logs;
}
