-- A worker whose transaction only looks: its compartment is at rest, and the answer is that of a
-- session's look.
use Rattle.std.proofs.Common.{◌≡◌, suc, Bool, true, false, List, [], length, Some, Option, None}
use Rattle.std.proofs.Common.{inl, pos, refl, sym, ap, ◌∙◌, subst}
use Rattle.cache_model.specs.Event.{CacheEvent}
use Rattle.cache_model.specs.Cache.{Words, Cache, view}
use Rattle.cache_model.specs.Image.{Images}
use Rattle.cache_model.specs.Play.{play}
use Rattle.pmem.specs.Device.{Device}
use Rattle.pmem.specs.Played.{PlaysAll, PlaysPart}
use Rattle.pmem.specs.declared.answer.Refusal.{Refusal}
use Rattle.pm_machine.specs.declared.image.Image.{Image}
use Rattle.pm_machine.specs.declared.records.Policy.TheVariants.{EndPool}
use Rattle.pm_machine.specs.Logging as log
use Rattle.pm_machine.specs.Logging.{blank}
use Rattle.pm_machine.specs.Runs.{heap_in}
use Rattle.crash_law.specs.Pools.{IsBefore}
use Rattle.cut_law.specs.Law.{pool_with}
use Rattle.tx_run.specs.Looked.{look_answer}
use Rattle.tx_run.specs.declared.looking.LookAnswer.{LookAnswer}
use Rattle.pool_workers.specs.declared.answer.TurnAnswer.{TurnAnswer}
use Rattle.pool_workers.specs.declared.task.Task.{Task}
use Rattle.pool_workers.specs.declared.task.Task.TheVariants.{Begun, Running, Ending, Looking, Cut}
use Rattle.pool_workers.specs.Look.{seen_answer}
use Rattle.pool_workers.specs.Task.{first_task, task_tx, piece_of, IsTask, IsUncut, IsUncutOr}
use Rattle.pool_workers.specs.Task.{WentWhole}
use Rattle.workers_law.specs.Fate.{fate_of, task_logs, is_looking, told_end}
use Rattle.workers_law.specs.Fenced.{fenced_cache}
use Rattle.workers_law.specs.Phases.{InPhase}
use Rattle.workers_law.proofs.Fates.{fates}
use Rattle.workers_law.proofs.Phases.{phases}
use Rattle.workers_law.proofs.Powers.{fenced}
use Rattle.cnvm_session.specs.declared.program.Program.{Program}
use Rattle.cnvm_session.specs.Commands.{tx_parameters}
use Rattle.cnvm_session.specs.Marks.{rolls_back_of, looks_of, unsigned_of}
use Rattle.cnvm_session.specs.Outcomes.{answer_of_look}
use Rattle.cnvm_session.specs.Pool.{sizes_of}
use Rattle.session_law.specs.Words.{AreWords}
use Rattle.session_law.specs.Agrees.{Agrees, RunsAs}
use Rattle.session_law.specs.State.{Pending, Ready, SourceState, standing_as}
use Rattle.session_law.specs.Answers.{Looks}
use Rattle.session_law.specs.Holds.{IsResting, OwesBy}
use Rattle.session_law.proofs.Words.{held_words}
use Rattle.session_law.proofs.logs.Exact.{Recorded, run_recorded}
use Rattle.session_law.proofs.answers.Looking.{look_runs}
use Rattle.session_law.proofs.images.Ones.{rest_images}
use Rattle.workers_source_law.proofs.AtWork.{IsAtWork, NamesOr, KindOr, past_uncut, past_names}
use Rattle.workers_source_law.proofs.AtWork.{past_kind, work_fenced}
use Rattle.workers_source_law.proofs.Phases.{rest_lacks, rest_number}
use Rattle.workers_source_law.proofs.Stills.{still, rest_stands, rest_fenced}

-- such a transaction at its start
abbrev pub look_task : Program → Pending → Task
look_task program call = first_task true program.image call.tx call.args

-- The compartment's cache c is at rest in this state, and the task will be answered as a look at
-- it.
pub record IsAtLook (program : Program) (super : Words) (call : Pending) (t : Task) (c : Cache)
    (s : SourceState) : Type 0 where
  pub resting : IsResting program super (still c) s
  pub takes : tx_parameters program.image call.tx ≡ Some (length call.args)
  pub words : AreWords call.args
  pub plain : rolls_back_of program call.tx ≡ false
  pub looks : looks_of program call.tx ≡ true
  pub task : IsTask program.image t
  pub kind : is_looking t ≡ true
  pub names : task_tx t ≡ call.tx
  pub uncut : IsUncut t
  pub fate : fate_of program.image t c ≡ fate_of program.image (look_task program call) c
  pub logs : task_logs program.image t c ≡ 0
  pub phase : InPhase (pos (suc s.done)) t c

-- its turns play nothing
quiet_piece : (image : Image) (t : Task) (c : Cache) → is_looking t ≡ true → piece_of image t c ≡ []
quiet_piece image (Begun tx args m) c looks = absurd cc
quiet_piece image (Running tx m a k) c looks = absurd cc
quiet_piece image (Ending tx end l) c looks = absurd cc
quiet_piece image (Looking tx l) c looks = refl
quiet_piece image (Cut p) c looks = absurd cc

pub look_same : (a : TurnAnswer) (image : Image) (t : Task) (o : Option Task) (d b : Device)
    → is_looking t ≡ true → WentWhole a image t o d b → b ≡ d
look_same a image t o d b looks went =
    subst (λ (es : List CacheEvent). PlaysAll d es b) (quiet_piece image t d.cache looks) went.2

-- so none is refused
pub look_unrefused : (why : Refusal) (image : Image) (t : Task) (d b : Device)
    → is_looking t ≡ true → PlaysPart why d (piece_of image t d.cache) b → ⊥
look_unrefused why image t d b looks part =
    subst (λ (es : List CacheEvent). PlaysPart why d es b) (quiet_piece image t d.cache looks) part

module _ (program : Program) (super : Words) (call : Pending) (s : SourceState) where
  -- another worker's fence
  pub look_fenced : (t : Task) (k : Bool) (c : Cache) → IsAtLook program super call t c s
      → IsAtLook program super call t (fenced_cache k c) s
  look_fenced t k c w =
      let same : view (fenced_cache k c) ≡ view c = (fenced k c).1 in
      let fate = fates.1 program.image t (fenced_cache k c) c same in
      let first = fates.1 program.image (look_task program call) (fenced_cache k c) c same in
      record {
        resting = rest_fenced program super k c s w.resting;
        takes = w.takes;
        words = w.words;
        plain = w.plain;
        looks = w.looks;
        task = w.task;
        kind = w.kind;
        names = w.names;
        uncut = w.uncut;
        fate = fate.0 ∙ w.fate ∙ sym first.0;
        logs = fate.1 ∙ w.logs;
        phase = phases.2 (pos (suc s.done)) t c k w.uncut w.phase;
      }

  -- its own turn
  pub look_goes : (a : TurnAnswer) (t u : Task) (d b : Device) → IsTask program.image u
      → IsAtLook program super call t d.cache s → WentWhole a program.image t (Some u) d b
      → IsAtLook program super call u b.cache s
  look_goes a t u d b task w went =
      let same : d.cache ≡ b.cache =
      sym (ap (λ (x : Device). x.cache) (look_same a program.image t (Some u) d b w.kind went)) in
      let now = fates.0 program.image t u d.cache w.task w.uncut (sym went.1) in
      let played : d.cache ≡ play d.cache (piece_of program.image t d.cache) =
      sym (ap (play d.cache) (quiet_piece program.image t d.cache w.kind)) in
      record {
        resting = subst (λ (c : Cache). IsResting program super (still c) s) same w.resting;
        takes = w.takes;
        words = w.words;
        plain = w.plain;
        looks = w.looks;
        task = task;
        kind = subst (KindOr (is_looking t)) (sym went.1)
            (past_kind program.image t d.cache w.uncut) ∙ w.kind;
        names = subst (NamesOr (task_tx t)) (sym went.1)
            (past_names program.image t d.cache w.uncut) ∙ w.names;
        uncut = subst IsUncutOr (sym went.1) (past_uncut program.image t d.cache w.uncut);
        fate = ap (fate_of program.image u) (sym same ∙ played) ∙ now.0 ∙ w.fate
            ∙ ap (fate_of program.image (look_task program call)) same;
        logs = ap (task_logs program.image u) (sym same ∙ played) ∙ now.1 ∙ w.logs;
        phase = phases.1 program.image (pos (suc s.done)) a t u d b w.uncut w.phase went;
      }

  -- it begins
  pub look_begins : (c : Cache) → IsResting program super (still c) s
      → tx_parameters program.image call.tx ≡ Some (length call.args) → AreWords call.args
      → rolls_back_of program call.tx ≡ false → looks_of program call.tx ≡ true
      → IsAtLook program super call (look_task program call) c s
  look_begins c resting takes words plain looks = record {
    resting = resting;
    takes = takes;
    words = words;
    plain = plain;
    looks = looks;
    task = tt;
    kind = refl;
    names = refl;
    uncut = tt;
    fate = refl;
    logs = refl;
    phase = phases.0 true program.image (pos (suc s.done)) call.tx call.args c
        (rest_lacks program super c s resting) (rest_number program super c s resting);
  }

  -- its last turn answers the fate
  pub look_ends : (a : TurnAnswer) (t : Task) (d b : Device)
      → IsAtLook program super call t d.cache s → WentWhole a program.image t None d b
      → a ≡ seen_answer (fate_of program.image (look_task program call) d.cache)
  look_ends a t d b w went =
      went.0 ∙ fates.2 program.image t d.cache (sym went.1)
      ∙ ap (λ (looks : Bool). told_end looks (fate_of program.image t d.cache)
      (task_logs program.image t d.cache)) w.kind
      ∙ ap seen_answer w.fate

  module _ (agrees : Agrees program) (t : Task) (c : Cache)
      (w : IsAtLook program super call t c s) where
    abbrev h : Words
    h = heap_in (sizes_of program) c

    runs : RunsAs program h call.tx call.args
    runs = agrees.runs h call.tx call.args w.resting.holds.headers
        (held_words program h s w.resting.holds) w.words w.takes

    own : Recorded false program h call.tx call.args (log.takes (blank EndPool) runs.effects)
    own = run_recorded false program h call.tx call.args runs

    before : Images (IsBefore (pool_with program.image super) s.done h s.last) c
    before = rest_images (IsBefore (pool_with program.image super) s.done h s.last) c
        w.resting.rest w.resting.before

    -- whatever a cut leaves of the compartment, it is as before a call
    pub look_owes : OwesBy false program super call (still c) s
    look_owes = record {
      heap = h;
      holds = w.resting.holds;
      takes = w.takes;
      words = w.words;
      end = own.end;
      effects = own.effects;
      ran = own.ran;
      left = λ image im. inl (before image im);
    }

    -- the source says the same of a look with this end
    pub look_means : (r : LookAnswer)
        → r ≡ look_answer (fate_of program.image (look_task program call) c)
        → (u : SourceState) × Looks program (standing_as Ready s) call.tx call.args
        (answer_of_look (unsigned_of program call.tx) r) u
    look_means r is =
        let answered = look_runs program super agrees (still c) (standing_as Ready s)
        (rest_stands program super (still c) s Ready w.resting) call.tx call.args w.takes w.words
        w.looks refl r 0 _ (record { on = λ on. inl (is, refl); off = λ off. absurd cc }) in
        (answered.0, answered.1)

-- a worker that is in a transaction, which only looks or doesn't
abbrev pub IsBusyWith : Program → Words → Pending → Task → Cache → SourceState → (looks : Bool)
    → Type 0
IsBusyWith program super call t c s true = IsAtLook program super call t c s
IsBusyWith program super call t c s false = IsAtWork program super call t c s

pub record IsBusyIn (program : Program) (super : Words) (call : Pending) (t : Task) (c : Cache)
    (s : SourceState) : Type 0 where
  pub looks : Bool
  pub busy : IsBusyWith program super call t c s looks

module _ (program : Program) (super : Words) (call : Pending) (t : Task) (s : SourceState) where
  pub busy_fenced : (k : Bool) (c : Cache) → IsBusyIn program super call t c s
      → IsBusyIn program super call t (fenced_cache k c) s
  busy_fenced k c is = record { looks = is.looks; busy = go is.looks is.busy }
    where
      go : (looks : Bool) → IsBusyWith program super call t c s looks
          → IsBusyWith program super call t (fenced_cache k c) s looks
      go true w = look_fenced program super call s t k c w
      go false w = work_fenced program super call s t k c w

  pub busy_names : (c : Cache) → IsBusyIn program super call t c s → task_tx t ≡ call.tx
  busy_names c is = go is.looks is.busy
    where
      go : (looks : Bool) → IsBusyWith program super call t c s looks → task_tx t ≡ call.tx
      go true w = w.names
      go false w = w.names

  pub busy_phase : (c : Cache) → IsBusyIn program super call t c s
      → InPhase (pos (suc s.done)) t c
  busy_phase c is = go is.looks is.busy
    where
      go : (looks : Bool) → IsBusyWith program super call t c s looks
          → InPhase (pos (suc s.done)) t c
      go true w = w.phase
      go false w = w.phase
