-- Turns: the lines that they give are those of the source.
use Rattle.std.proofs.Common.{◌≡◌, ◌≢◌, ◌⊎◌, ⊎_elim, inl, inr, ℕ, zero, suc, ◌+◌, ◌<◌, Bool, true}
use Rattle.std.proofs.Common.{false, List, [], ◌∷◌, ◌++◌, length, Option, Some, None, refl, sym, ap}
use Rattle.std.proofs.Common.{◌∙◌, subst, arith, nat_lt, if◌then◌else◌, ◌≤◌, pos, append-nil}
use Rattle.std.proofs.lemmas.Bool.{cases_eq, ltb-true}
use Rattle.cache_model.specs.Cache.{Words, Cache}
use Rattle.pmem.specs.Device.{Device}
use Rattle.pmem.specs.Played.{PlaysPart}
use Rattle.pmem.specs.declared.answer.Refusal.{Refusal}
use Rattle.pmem.specs.declared.answer.Refusal.TheVariants as refusal
use Rattle.pm_machine.specs.declared.effect.End.{End}
use Rattle.pm_machine.specs.declared.effect.End.TheVariants.{Halted, Trapped}
use Rattle.pm_machine.specs.declared.image.Image.{Image}
use Rattle.pm_machine.specs.declared.records.Policy.TheVariants.{EndPool}
use Rattle.crash_law.specs.Law.{AreMarked}
use Rattle.pool_workers.specs.declared.answer.TurnAnswer.{TurnAnswer}
use Rattle.pool_workers.specs.declared.answer.TurnAnswer.TheVariants as turned
use Rattle.pool_workers.specs.declared.task.Task.{Task}
use Rattle.pool_workers.specs.declared.look.Look.TheVariants.{Fresh, Going, Seen}
use Rattle.pool_workers.specs.declared.task.Task.TheVariants.{Begun, Running, Ending, Cut}
use Rattle.pool_workers.specs.declared.task.Task.TheVariants.{Looking}
use Rattle.pool_workers.specs.Look.{seen_answer}
use Rattle.pool_workers.specs.Task.{task_past, answer_past, end_answer, piece_of, IsUncut}
use Rattle.pool_workers.specs.Task.{WentWhole, Turned, IsTaskOr, task_phase}
use Rattle.pool_workers.specs.Crew.{Tasks, task_at, compartment, TurnOf}
use Rattle.workers_law.specs.AsCall.{begun_task}
use Rattle.workers_law.specs.Fate.{fate_of, task_logs}
use Rattle.workers_law.specs.Fenced.{fenced_cache}
use Rattle.workers_law.specs.Left.{left_or}
use Rattle.tx_run.specs.Due.{due_call}
use Rattle.tx_run.specs.Looked.{look_answer}
use Rattle.tx_run.specs.declared.looking.LookAnswer.TheVariants as looked
use Rattle.workers_law.specs.Standing.{ShowsPlayed, ShowsSome}
use Rattle.workers_law.proofs.Stands.{turns}
use Rattle.workers_law.specs.Phases.{InPhase}
use Rattle.workers_law.proofs.Phases.{phases}
use Rattle.cache_model.specs.Image.{Images}
use Rattle.session_law.specs.Law.{HasPhase}
use Rattle.cnvm_session.specs.declared.answer.Answer.{Answer}
use Rattle.cnvm_session.specs.declared.answer.Answer.TheVariants as answer
use Rattle.cnvm_session.specs.declared.program.Program.{Program}
use Rattle.cnvm_session.specs.Marks.{unsigned_of}
use Rattle.workers_session.specs.declared.line.WorkersLine.{WorkersLine}
use Rattle.workers_session.specs.declared.line.WorkersLine.TheVariants as line
use Rattle.workers_session.specs.WorkersState.{stranger_in}
use Rattle.workers_session.specs.WorkersCommands.{Scene, Unchanged, stopped_lines, turn_lines}
use Rattle.workers_session.specs.WorkersCommands.{is_interrupted, TurnFor, TurnList, TurnsKnown}
use Rattle.workers_session.specs.WorkersCommands.{task_unsigned}
use Rattle.workers_session.specs.WorkersCommands.{TurnsGiven, rounds_of, round_from, FinishesAll}
use Rattle.session_law.specs.Agrees.{Agrees}
use Rattle.session_law.specs.Holds.{IsResting}
use Rattle.session_law.specs.State.{Pending, Ready, Down, Unusable, SourceState, standing_as}
use Rattle.workers_source_law.specs.States.{States, RestStays}
use Rattle.workers_source_law.specs.Lines.{IsEndedWith, Ends, TurnLines}
use Rattle.workers_source_law.specs.Law.{Instant, LinesHold}
use Rattle.workers_source_law.proofs.Phases.{phase_images}
use Rattle.workers_source_law.proofs.Stills.{still, own, marks_play, rest_stands}
use Rattle.workers_source_law.proofs.AtWork.{IsAtWork, work_goes, work_owes, work_done, work_traps}
use Rattle.workers_source_law.proofs.AtWork.{work_ends}
use Rattle.workers_source_law.proofs.AtLook.{look_task, IsAtLook, look_same, look_unrefused}
use Rattle.workers_source_law.proofs.AtLook.{look_goes, look_ends, look_owes, look_means}
use Rattle.workers_source_law.proofs.AtLook.{IsBusyWith, IsBusyIn, busy_fenced, busy_names}
use Rattle.workers_source_law.proofs.AtLook.{busy_phase}
use Rattle.workers_source_law.proofs.Invariants.{Stands, AllStand, changed, changed_own}
use Rattle.workers_source_law.proofs.Invariants.{changed_others, AtCall, busy_at, stands_work}
use Rattle.workers_source_law.proofs.Invariants.{stands_rest, stands_lost, others_stand}
use Rattle.workers_source_law.proofs.Invariants.{other_aside}

-- lines one after another
pub lines_append : (program : Program) (first rest : List WorkersLine) (s r t : States)
    → TurnLines program first s r → TurnLines program rest r t
    → TurnLines program (first ++ rest) s t
lines_append program [] rest s r t before later =
    subst (λ (x : States). TurnLines program rest x t) before later
lines_append program (l ∷ first) rest s r t before later =
    (before.0, before.1, lines_append program first rest before.0 r t before.2 later)

-- the transaction that a worker owes, if it is busy
abbrev OwesIf : Option Task → SourceState → Type 0
OwesIf None s = Unit {0}
OwesIf (Some t) s = (call : Pending) × (s.standing ≡ Down (Some call))

stopped_mean : (program : Program) (s : States) (w : ℕ) (os : Tasks)
    → ((j : ℕ) → j < length os → OwesIf (task_at os j) (s (w + j)))
    → TurnLines program (stopped_lines w os) s s
stopped_mean program s w [] owes = refl
stopped_mean program s w (None ∷ os) owes =
    stopped_mean program s (suc w) os (λ j less.
    subst (λ (i : ℕ). OwesIf (task_at os j) (s i))
    (let e : w + suc j ≡ suc w + j = omega arith in e)
    (owes (suc j) (omega arith)))
stopped_mean program s w (Some t ∷ os) owes =
    let mine : OwesIf (Some t) (s w) = subst (λ (i : ℕ). OwesIf (Some t) (s i))
    (let e : w + 0 ≡ w = omega arith in e) (owes 0 (omega arith)) in
    let rest : TurnLines program (stopped_lines (suc w) os) s s =
    stopped_mean program s (suc w) os (λ j less.
    subst (λ (i : ℕ). OwesIf (task_at os j) (s i))
    (let e : w + suc j ≡ suc w + j = omega arith in e)
    (owes (suc j) (omega arith))) in
    (s, (mine.0, mine.1, refl, λ j ne. refl), rest)

-- a turn after which a task is left ended nothing
some_went : (image : Image) (t u : Task) (c : Cache) → IsUncut t → task_past image t c ≡ Some u
    → answer_past t ≡ turned.Went
some_went image (Begun tx args m) u c uncut is = refl
some_went image (Running tx m a k) u c uncut is = refl
some_went image (Ending tx end l) u c uncut is = absurd cc
some_went image (Looking tx (Fresh m)) u c uncut is = refl
some_went image (Looking tx (Going m k)) u c uncut is = refl
some_went image (Looking tx (Seen end)) u c uncut is = absurd cc
some_went image (Cut p) u c uncut is = absurd uncut

-- a turn that wasn't refused, or the refusal
refused_or : (a : TurnAnswer) (image : Image) (t : Task) (o : Option Task) (d b : Device)
    → Turned a image t o d b
    → WentWhole a image t o d b
    ⊎ ((why : Refusal) × PlaysPart why d (piece_of image t d.cache) b × (is_interrupted a ≡ true))
refused_or turned.Idle image t o d b is = absurd is
refused_or turned.Went image t o d b is = inl is
refused_or (turned.Done v l) image t o d b is = inl is
refused_or (turned.Trap k) image t o d b is = inl is
refused_or (turned.Aborted k) image t o d b is = inl is
refused_or turned.Off image t o d b is = inr (refusal.Off, is.0, refl)
refused_or turned.Failed image t o d b is = inr (refusal.Failed, is.0, refl)
refused_or turned.NoMemory image t o d b is = inr (refusal.NoMemory, is.0, refl)

module _ (program : Program) (supers : ℕ → Words) (agrees : Agrees program) where
  -- what one turn gives
  abbrev Gives : Scene → States → List WorkersLine → Scene → Type 0
  Gives x s lines y = (t : States) × TurnLines program lines s t × AllStand program supers y t
      × LinesHold program lines (record { scene = y; states = t })
      × (y.workers.down ≡ false → (v : Instant) → LinesHold program lines v)

  module _ (worker : ℕ) (x y : Scene) (s : States) (a : TurnAnswer) (up : x.workers.down ≡ false)
      (all : AllStand program supers x s) (less : worker < length x.workers.tasks)
      (turn : TurnOf program.image worker a x.workers.tasks y.workers.tasks x.device y.device)
      (count : length y.workers.tasks ≡ length x.workers.tasks)
      (down : y.workers.down ≡ is_interrupted a) where
    abbrev super : Words
    super = supers worker

    abbrev c : Cache
    c = own program worker x.device

    abbrev b : Cache
    b = own program worker y.device

    at : AtCall program super turn.task c (s worker)
    at = busy_at program super (task_at x.workers.tasks worker) turn.task c (s worker)
        (subst (λ (is : Bool). Stands program super is (task_at x.workers.tasks worker) c
        (s worker)) up (all worker less)) turn.task_is

    -- whether the transaction returns `uint64_t`
    abbrev typed : Bool
    typed = task_unsigned program (task_at x.workers.tasks worker)

    typed_is : typed ≡ unsigned_of program at.call.tx
    typed_is = ap (task_unsigned program) turn.task_is ∙ ap (unsigned_of program)
        (busy_names program super at.call turn.task (s worker) c at.busy)

    rest_of : (t : States) → RestStays worker s t
        → Stands program super y.workers.down (task_at y.workers.tasks worker) b (t worker)
        → AllStand program supers y t
    rest_of t stay mine = others_stand program supers worker x y s t count turn.others turn.aside
        stay up all (λ less. mine)

    -- the transaction ended with this answer, and leaves this state
    ended : (told : Answer) (u : SourceState)
        → turn_lines typed a worker y.workers.tasks ≡ line.Own worker told ∷ []
        → ((v : Instant) → LinesHold program (line.Own worker told ∷ []) v)
        → Ends program at.call told (s worker) u → Stands program super y.workers.down None b u
        → task_at y.workers.tasks worker ≡ None
        → Gives x s (turn_lines typed a worker y.workers.tasks) y
    ended told u are holds ends stands none =
        let t : States = changed worker u s in (
          t,
          subst (λ (ls : List WorkersLine). TurnLines program ls s t) (sym are) (
            t,
            (
              at.call,
              at.standing,
              subst (λ (v : SourceState). Ends program at.call told (s worker) v)
                  (sym (changed_own worker u s)) ends,
              changed_others worker u s,
            ),
            refl,
          ),
          rest_of t (changed_others worker u s)
              (subst (λ (v : SourceState). Stands program super y.workers.down
              (task_at y.workers.tasks worker) b v) (sym (changed_own worker u s))
              (subst (λ (o : Option Task). Stands program super y.workers.down o b u) (sym none)
              stands)),
          subst (λ (ls : List WorkersLine). LinesHold program ls
              (record { scene = y; states = t })) (sym are)
              (holds (record { scene = y; states = t })),
          λ up v. subst (λ (ls : List WorkersLine). LinesHold program ls v) (sym are) (holds v),
        )

    -- a task is left
    went_on : a ≡ turned.Went → AllStand program supers y s
        → Gives x s (turn_lines typed a worker y.workers.tasks) y
    went_on answers stand =
        let are : turn_lines typed a worker y.workers.tasks ≡ [] =
        ap (λ (z : TurnAnswer). turn_lines typed z worker y.workers.tasks) answers in (
          s,
          subst (λ (ls : List WorkersLine). TurnLines program ls s s) (sym are) refl,
          stand,
          subst (λ (ls : List WorkersLine). LinesHold program ls
              (record { scene = y; states = s })) (sym are) tt,
          λ up v. subst (λ (ls : List WorkersLine). LinesHold program ls v) (sym are) tt,
        )

    -- each busy worker still owes its transaction
    all_owe : (j : ℕ) → j < length y.workers.tasks → OwesIf (task_at y.workers.tasks j) (s j)
    all_owe j fits = ⊎_elim
        (λ (e : j ≡ worker). subst (λ (i : ℕ). OwesIf (task_at y.workers.tasks i) (s i)) (sym e)
        (own_owes (task_at y.workers.tasks worker)))
        (λ (ne : j ≢ worker). subst (λ (o : Option Task). OwesIf o (s j)) (sym (turn.others j ne))
        (other_owes j (omega (arith, fits, count)) (task_at x.workers.tasks j) refl))
        (cases_eq j worker)
      where
        own_owes : (o : Option Task) → OwesIf o (s worker)
        own_owes None = tt
        own_owes (Some u) = (at.call, at.standing)

        other_owes : (j : ℕ) → j < length x.workers.tasks → (o : Option Task)
            → task_at x.workers.tasks j ≡ o → OwesIf o (s j)
        other_owes j fits None is = tt
        other_owes j fits (Some u) is =
            let there = busy_at program (supers j) (task_at x.workers.tasks j) u
            (own program j x.device) (s j)
            (subst (λ (b : Bool). Stands program (supers j) b (task_at x.workers.tasks j)
            (own program j x.device) (s j)) up (all j fits)) is in
            (there.call, there.standing)

    interrupted_lines : (z : TurnAnswer) → is_interrupted z ≡ true
        → TurnLines program (turn_lines typed z worker y.workers.tasks) s s
    interrupted_lines turned.Idle is = absurd cc
    interrupted_lines turned.Went is = absurd cc
    interrupted_lines (turned.Done v l) is = absurd cc
    interrupted_lines (turned.Trap k) is = absurd cc
    interrupted_lines (turned.Aborted k) is = absurd cc
    interrupted_lines turned.Off is =
        stopped_mean program s 0 y.workers.tasks
        (λ j fits. subst (λ (i : ℕ). OwesIf (task_at y.workers.tasks j) (s i))
        (let e : j ≡ 0 + j = omega arith in e) (all_owe j fits))
    interrupted_lines turned.Failed is = (s, refl, refl)
    interrupted_lines turned.NoMemory is = (s, refl, refl)

    -- each busy worker's phase is that of the seal in its compartment
    abbrev PhaseOr : ℕ → Option Task → Type 0
    PhaseOr j None = Unit {0}
    PhaseOr j (Some u) = Images (HasPhase (task_phase u) (s j)) (own program j y.device)

    phase_as : (j : ℕ) (u : Task) → InPhase (pos (suc (s j).done)) u (own program j y.device)
        → PhaseOr j (Some u)
    phase_as j u is = phase_images (s j) (own program j y.device) (task_phase u)
        (phases.4 (pos (suc (s j).done)) u (own program j y.device) is)

    other_phase : (j : ℕ) → j ≢ worker → j < length x.workers.tasks → (o : Option Task)
        → task_at x.workers.tasks j ≡ o → PhaseOr j o
    other_phase j ne fits None is = tt
    other_phase j ne fits (Some u) is =
        let there = busy_at program (supers j) (task_at x.workers.tasks j) u
        (own program j x.device) (s j)
        (subst (λ (b : Bool). Stands program (supers j) b (task_at x.workers.tasks j)
        (own program j x.device) (s j)) up (all j fits)) is in
        let aside = other_aside program worker j x.device y.device ne turn.aside in
        phase_as j u
        (subst (InPhase (pos (suc (s j).done)) u) (sym aside.now)
        (busy_phase program (supers j) there.call u (s j)
        (fenced_cache aside.fenced (own program j x.device))
        (busy_fenced program (supers j) there.call u (s j) aside.fenced (own program j x.device)
        there.busy)))

    stopped_hold : (w : ℕ) (os : Tasks)
        → ((j : ℕ) → j < length os → PhaseOr (w + j) (task_at os j))
        → LinesHold program (stopped_lines w os) (record { scene = y; states = s })
    stopped_hold w [] each_is = tt
    stopped_hold w (None ∷ os) each_is =
        stopped_hold (suc w) os (λ j less. subst (λ (i : ℕ). PhaseOr i (task_at os j))
        (let e : w + suc j ≡ suc w + j = omega arith in e) (each_is (suc j) (omega arith)))
    stopped_hold w (Some t ∷ os) each_is = (
      subst (λ (i : ℕ). PhaseOr i (Some t)) (let e : w + 0 ≡ w = omega arith in e)
          (each_is 0 (omega arith)),
      stopped_hold (suc w) os (λ j less. subst (λ (i : ℕ). PhaseOr i (task_at os j))
          (let e : w + suc j ≡ suc w + j = omega arith in e) (each_is (suc j) (omega arith))),
    )

    -- its transaction may store
    module _ (work : IsAtWork program super at.call turn.task c (s worker)) where
      shown_marks : ShowsSome (due_call EndPool program.image at.call.tx at.call.args work.start)
          work.start b → AreMarked b
      shown_marks shows = subst AreMarked (sym shows.shows.now_is)
          (marks_play shows.shows.shown work.start work.marked)

      owing : (down : Bool) (o : Option Task)
          → ShowsSome (due_call EndPool program.image at.call.tx at.call.args work.start)
          work.start b
          → (down ≡ false → (t : Task) × (o ≡ Some t)
          × IsBusyIn program super at.call t b (s worker))
          → Stands program super down o b (s worker)
      owing is o shows goes =
          stands_work program super at.call is o b (s worker) at.standing (shown_marks shows)
          (work_owes program super at.call (s worker) agrees turn.task c work b shows)
          work.plain goes

      -- the turn was refused
      stops : (why : Refusal) → PlaysPart why (compartment program.image worker x.device)
          (piece_of program.image turn.task c) (compartment program.image worker y.device)
          → is_interrupted a ≡ true → AllStand program supers y s
      stops why part interrupted =
          let shows = (turns program.image at.call.tx at.call.args work.start).3 why turn.task
          (compartment program.image worker x.device) (compartment program.image worker y.device)
          work.task work.stands part in
          rest_of s (λ j ne. refl)
          (owing y.workers.down (task_at y.workers.tasks worker) shows
          (λ is. let no = sym is ∙ down ∙ interrupted in absurd cc))

      -- a task is left
      goes_on : (u : Task) → task_at y.workers.tasks worker ≡ Some u
          → WentWhole a program.image turn.task (Some u) (compartment program.image worker x.device)
          (compartment program.image worker y.device)
          → AllStand program supers y s
      goes_on u is went =
          let next : IsAtWork program super at.call u b (s worker) =
          work_goes program super at.call (s worker) a turn.task u
          (compartment program.image worker x.device) (compartment program.image worker y.device)
          (subst (IsTaskOr program.image) is turn.is_task) work went in
          rest_of s (λ j ne. refl)
          (owing y.workers.down (task_at y.workers.tasks worker)
          (record { left = left_or program.image (Some u) b; shows = transported })
          (λ down. (u, is, record { looks = false; busy = next })))
        where
          transported : ShowsPlayed
              (due_call EndPool program.image at.call.tx at.call.args work.start)
              (left_or program.image (Some u) b) work.start b
          transported =
              (turns program.image at.call.tx at.call.args work.start).1 a turn.task (Some u)
              (compartment program.image worker x.device)
              (compartment program.image worker y.device) work.task work.stands went

      -- the transaction ended
      ends : (end : End) (l : ℕ)
          → fate_of program.image (begun_task program.image at.call.tx at.call.args) work.start
          ≡ end
          → l ≡ task_logs program.image (begun_task program.image at.call.tx at.call.args)
          work.start
          → a ≡ end_answer end l → task_at y.workers.tasks worker ≡ None
          → ShowsPlayed (due_call EndPool program.image at.call.tx at.call.args work.start) []
          work.start b
          → Gives x s (turn_lines typed a worker y.workers.tasks) y
      ends (Halted v) l fate logs told none shown =
          let done = work_done program super at.call (s worker) agrees turn.task c work b shown v l
          fate logs in
          ended (answer.Done v typed l) done.0
          (ap (λ (z : TurnAnswer). turn_lines typed z worker y.workers.tasks) told)
          (λ v. (tt, tt))
          (subst (λ (looks : Bool). IsEndedWith looks program at.call v typed l (s worker) done.0)
          (sym work.stores) (done.1.0, done.1.1, done.1.2, typed_is))
          (stands_rest program super y.workers.down b done.0 done.2
          (shown_marks (record { left = []; shows = shown })) done.3) none
      ends (Trapped kind) l fate logs told none shown =
          let lost = work_traps program super at.call (s worker) agrees turn.task c work b shown
          kind fate in
          let v : SourceState = standing_as (Unusable kind) (s worker) in
          ended (answer.Trap kind) v
          (ap (λ (z : TurnAnswer). turn_lines typed z worker y.workers.tasks) told)
          (λ v. (tt, tt)) (lost.0, refl, work.stores)
          (stands_lost program super y.workers.down b v kind refl
          (shown_marks (record { left = []; shows = shown })) lost.1) none

      whole : (o : Option Task) → task_at y.workers.tasks worker ≡ o
          → WentWhole a program.image turn.task o (compartment program.image worker x.device)
          (compartment program.image worker y.device)
          → Gives x s (turn_lines typed a worker y.workers.tasks) y
      whole None is went =
          let over = work_ends program super at.call (s worker) a turn.task
          (compartment program.image worker x.device) (compartment program.image worker y.device)
          work went in
          ends (fate_of program.image (begun_task program.image at.call.tx at.call.args)
          work.start) (task_logs program.image (begun_task program.image at.call.tx at.call.args)
          work.start) refl refl over.told is over.all
      whole (Some u) is went =
          went_on (went.0 ∙ some_went program.image turn.task u c work.uncut (sym went.1))
          (goes_on u is went)

      own_phase : (o : Option Task) → Turned turned.Off program.image turn.task o
          (compartment program.image worker x.device) (compartment program.image worker y.device)
          → PhaseOr worker o
      own_phase None off = absurd off.1
      own_phase (Some (Begun tx args m)) off = absurd off.1
      own_phase (Some (Running tx m n k)) off = absurd off.1
      own_phase (Some (Ending tx end l)) off = absurd off.1
      own_phase (Some (Looking tx l)) off = absurd off.1
      own_phase (Some (Cut p)) off =
          phase_as worker (Cut p)
          (phases.3 program.image (pos (suc (s worker).done)) turn.task p
          (compartment program.image worker x.device) (compartment program.image worker y.device)
          work.phase off)

      all_phases : Turned turned.Off program.image turn.task (task_at y.workers.tasks worker)
          (compartment program.image worker x.device) (compartment program.image worker y.device)
          → (j : ℕ) → j < length y.workers.tasks → PhaseOr j (task_at y.workers.tasks j)
      all_phases off j fits = ⊎_elim
          (λ (e : j ≡ worker). subst (λ (i : ℕ). PhaseOr i (task_at y.workers.tasks i)) (sym e)
          (own_phase (task_at y.workers.tasks worker) off))
          (λ (ne : j ≢ worker). subst (λ (o : Option Task). PhaseOr j o) (sym (turn.others j ne))
          (other_phase j ne (omega (arith, fits, count)) (task_at x.workers.tasks j) refl))
          (cases_eq j worker)

      phase_lines : (z : TurnAnswer) → Turned z program.image turn.task
          (task_at y.workers.tasks worker) (compartment program.image worker x.device)
          (compartment program.image worker y.device)
          → LinesHold program (turn_lines typed z worker y.workers.tasks)
          (record { scene = y; states = s })
      phase_lines turned.Idle is = tt
      phase_lines turned.Went is = tt
      phase_lines (turned.Done v l) is = (tt, tt)
      phase_lines (turned.Trap k) is = (tt, tt)
      phase_lines (turned.Aborted k) is = (tt, tt)
      phase_lines turned.Off is =
          stopped_hold 0 y.workers.tasks
          (λ j fits. subst (λ (i : ℕ). PhaseOr i (task_at y.workers.tasks j))
          (let e : j ≡ 0 + j = omega arith in e) (all_phases is j fits))
      phase_lines turned.Failed is = (tt, tt)
      phase_lines turned.NoMemory is = (tt, tt)

      work_gives : Gives x s (turn_lines typed a worker y.workers.tasks) y
      work_gives = ⊎_elim
          (λ went. whole (task_at y.workers.tasks worker) refl went)
          (λ refused. (
            s,
            interrupted_lines a refused.2,
            stops refused.0 refused.1 refused.2,
            phase_lines a turn.turned,
            λ up v. let no = sym up ∙ down ∙ refused.2 in absurd cc,
          ))
          (refused_or a program.image turn.task (task_at y.workers.tasks worker)
          (compartment program.image worker x.device) (compartment program.image worker y.device)
          turn.turned)

    -- its transaction only looks
    module _ (look : IsAtLook program super at.call turn.task c (s worker)) where
      abbrev WentTo : Option Task → Type 0
      WentTo o = WentWhole a program.image turn.task o
          (compartment program.image worker x.device) (compartment program.image worker y.device)

      stays : (o : Option Task) → WentTo o → c ≡ b
      stays o went = sym (ap (λ (d : Device). d.cache)
          (look_same a program.image turn.task o (compartment program.image worker x.device)
          (compartment program.image worker y.device) look.kind went))

      look_marked : c ≡ b → AreMarked b
      look_marked same = subst AreMarked same (all worker less).marked

      looks_on : (u : Task) → task_at y.workers.tasks worker ≡ Some u → WentTo (Some u)
          → AllStand program supers y s
      looks_on u is went =
          let next : IsAtLook program super at.call u b (s worker) =
          look_goes program super at.call (s worker) a turn.task u
          (compartment program.image worker x.device) (compartment program.image worker y.device)
          (subst (IsTaskOr program.image) is turn.is_task) look went in
          rest_of s (λ j ne. refl)
          (stands_work program super at.call y.workers.down (task_at y.workers.tasks worker) b
          (s worker) at.standing (look_marked (stays (Some u) went))
          (look_owes program super at.call (s worker) agrees u b next) next.plain
          (λ down. (u, is, record { looks = true; busy = next })))

      -- it is idle again, and its compartment is as it was
      idle_again : c ≡ b → (u : SourceState) → u ≡ standing_as Ready (s worker)
          → Stands program super y.workers.down None b u
      idle_again same u is =
          stands_rest program super y.workers.down b u
          (ap (λ (v : SourceState). v.standing) is) (look_marked same)
          (subst (λ (d : Cache). IsResting program super (still d) u) same
          (subst (λ (v : SourceState). IsResting program super (still c) v) (sym is)
          (rest_stands program super (still c) (s worker) Ready look.resting)))

      look_over : (end : End) → fate_of program.image (look_task program at.call) c ≡ end
          → a ≡ seen_answer end → task_at y.workers.tasks worker ≡ None → c ≡ b
          → Gives x s (turn_lines typed a worker y.workers.tasks) y
      look_over (Halted v) fate told none same =
          let means = look_means program super at.call (s worker) agrees turn.task c look
          (looked.Done v) (sym (ap look_answer fate)) in
          ended (answer.Done v typed 0) means.0
          (ap (λ (z : TurnAnswer). turn_lines typed z worker y.workers.tasks) told)
          (λ v. (tt, tt))
          (subst (λ (looks : Bool). IsEndedWith looks program at.call v typed 0 (s worker) means.0)
          (sym look.looks) (means.1.0, means.1.1, means.1.2, typed_is))
          (idle_again same means.0 means.1.2) none
      look_over (Trapped kind) fate told none same =
          let means = look_means program super at.call (s worker) agrees turn.task c look
          (looked.Aborted kind) (sym (ap look_answer fate)) in
          ended (answer.Aborted kind) means.0
          (ap (λ (z : TurnAnswer). turn_lines typed z worker y.workers.tasks) told)
          (λ v. (tt, tt)) (look.looks, means.1) (idle_again same means.0 means.1.1) none

      look_whole : (o : Option Task) → task_at y.workers.tasks worker ≡ o → WentTo o
          → Gives x s (turn_lines typed a worker y.workers.tasks) y
      look_whole None is went =
          look_over (fate_of program.image (look_task program at.call) c) refl
          (look_ends program super at.call (s worker) a turn.task
          (compartment program.image worker x.device) (compartment program.image worker y.device)
          look went) is (stays None went)
      look_whole (Some u) is went =
          went_on (went.0 ∙ some_went program.image turn.task u c look.uncut (sym went.1))
          (looks_on u is went)

      look_gives : Gives x s (turn_lines typed a worker y.workers.tasks) y
      look_gives = ⊎_elim
          (λ went. look_whole (task_at y.workers.tasks worker) refl went)
          (λ refused. absurd (look_unrefused refused.0 program.image turn.task
          (compartment program.image worker x.device) (compartment program.image worker y.device)
          look.kind refused.1))
          (refused_or a program.image turn.task (task_at y.workers.tasks worker)
          (compartment program.image worker x.device) (compartment program.image worker y.device)
          turn.turned)

    by_kind : (looks : Bool) → IsBusyWith program super at.call turn.task c (s worker) looks
        → Gives x s (turn_lines typed a worker y.workers.tasks) y
    by_kind true look = look_gives look
    by_kind false work = work_gives work

    pub turn_gives : Gives x s (turn_lines typed a worker y.workers.tasks) y
    turn_gives = by_kind at.busy.looks at.busy.busy

  -- nothing happens
  pub unchanged_gives : (x y : Scene) (s : States) → AllStand program supers x s
      → y ≡ x → AllStand program supers y s
  unchanged_gives x y s all same = subst (λ (z : Scene). AllStand program supers z s) (sym same) all

  -- no line, or one that refuses
  quiet_gives : (ls : List WorkersLine) (x y : Scene) (s : States) (lines : List WorkersLine)
      → AllStand program supers x s → TurnLines program ls s s
      → ((v : Instant) → LinesHold program ls v) → lines ≡ ls → y ≡ x → Gives x s lines y
  quiet_gives ls x y s lines all means holds are same = (
    s,
    subst (λ (other : List WorkersLine). TurnLines program other s s) (sym are) means,
    unchanged_gives x y s all same,
    subst (λ (other : List WorkersLine). LinesHold program other
        (record { scene = y; states = s })) (sym are) (holds (record { scene = y; states = s })),
    λ up v. subst (λ (other : List WorkersLine). LinesHold program other v) (sym are) (holds v),
  )

  once : (worker : ℕ) (x y : Scene) (s : States) (a : TurnAnswer) (o : Option Task)
      → task_at x.workers.tasks worker ≡ o → x.workers.down ≡ false → AllStand program supers x s
      → worker < length x.workers.tasks → TurnFor o program.image worker a x y
      → Gives x s (turn_lines (task_unsigned program (task_at x.workers.tasks worker)) a worker
      y.workers.tasks) y
  once worker x y s a None is up all less turn =
      let u = task_unsigned program (task_at x.workers.tasks worker) in
      quiet_gives [] x y s (turn_lines u a worker y.workers.tasks) all refl (λ v. tt)
      (ap (λ (z : TurnAnswer). turn_lines u z worker y.workers.tasks) turn.0) turn.1
  once worker x y s a (Some t) is up all less turn =
      turn_gives worker x y s a up all less turn.0 turn.1 turn.3

  -- the numbers of the workers are in range
  abbrev AreKnown : ℕ → List ℕ → Type 0
  AreKnown count [] = Unit {0}
  AreKnown count (worker ∷ workers) = (worker < count) × AreKnown count workers

  turn_count : (worker : ℕ) (x y : Scene) (a : TurnAnswer) (o : Option Task)
      → TurnFor o program.image worker a x y
      → length y.workers.tasks ≡ length x.workers.tasks
  turn_count worker x y a None turn = ap (λ (z : Scene). length z.workers.tasks) turn.1
  turn_count worker x y a (Some t) turn = turn.1

  holds_append : (first rest : List WorkersLine) (v : Instant) → LinesHold program first v
      → LinesHold program rest v → LinesHold program (first ++ rest) v
  holds_append [] rest v before later = later
  holds_append (l ∷ first) rest v before later =
      (before.0, holds_append first rest v before.1 later)

  by_down : (x y z : Scene) (s : States) (first rest : List WorkersLine)
      (given : Gives x s first z) → (z.workers.down ≡ true → Unchanged [] z rest y)
      → (z.workers.down ≡ false → Gives z given.0 rest y)
      → (down : Bool) → z.workers.down ≡ down → Gives x s (first ++ rest) y
  by_down x y z s first rest given over goes true down =
      let same = over down in
      let are : first ++ rest ≡ first =
      ap (λ (ls : List WorkersLine). first ++ ls) same.0 ∙ append-nil first in (
        given.0,
        subst (λ (ls : List WorkersLine). TurnLines program ls s given.0) (sym are) given.1,
        unchanged_gives z y given.0 given.2 same.1,
        subst (λ (ls : List WorkersLine). LinesHold program ls
            (record { scene = y; states = given.0 })) (sym are)
            (subst (λ (w : Scene). LinesHold program first
            (record { scene = w; states = given.0 })) (sym same.1) given.3),
        λ up v. let no = sym up ∙ ap (λ (w : Scene). w.workers.down) same.1 ∙ down in absurd cc,
      )
  by_down x y z s first rest given over goes false down =
      let more = goes down in (
        more.0,
        lines_append program first rest s given.0 more.0 given.1 more.1,
        more.2,
        holds_append first rest (record { scene = y; states = more.0 })
            (given.4 down (record { scene = y; states = more.0 })) more.3,
        λ up v. holds_append first rest v (given.4 down v) (more.4 up v),
      )

  pub list_gives : (workers : List ℕ) (x y : Scene) (s : States) (lines : List WorkersLine)
      → AreKnown (length x.workers.tasks) workers → x.workers.down ≡ false
      → AllStand program supers x s → TurnList program workers x lines y
      → Gives x s lines y
  list_gives [] x y s lines known up all is =
      quiet_gives [] x y s lines all refl (λ v. tt) is.0 is.1
  list_gives (worker ∷ workers) x y s lines known up all is =
      let first = is.0 in
      let rest = is.1 in
      let z = is.2 in
      let one = is.3 in
      let count = turn_count worker x z one.0 (task_at x.workers.tasks worker) one.1 in
      let given : Gives x s first z =
      subst (λ (ls : List WorkersLine). Gives x s ls z) (sym one.2)
      (once worker x z s one.0 (task_at x.workers.tasks worker) refl up all known.0 one.1) in
      subst (λ (ls : List WorkersLine). Gives x s ls y) (sym is.4)
      (by_down x y z s first rest given is.5.0
      (λ goes. list_gives workers z y given.0 rest
      (subst (λ (n : ℕ). AreKnown n workers) (sym count) known.1) goes given.2 (is.5.1 goes))
      z.workers.down refl)

  -- no worker is a stranger
  known_step : (count worker : ℕ) (workers : List ℕ)
      → (stranger_in count workers ≡ None → AreKnown count workers) → (b : Bool)
      → nat_lt worker count ≡ b
      → (if b then stranger_in count workers else Some worker) ≡ None
      → AreKnown count (worker ∷ workers)
  known_step count worker workers rest true less is = (ltb-true worker count less, rest is)
  known_step count worker workers rest false less is = absurd cc

  known_of : (count : ℕ) (workers : List ℕ) → stranger_in count workers ≡ None
      → AreKnown count workers
  known_of count [] is = tt
  known_of count (worker ∷ workers) is =
      known_step count worker workers (λ none. known_of count workers none)
      (nat_lt worker count) refl is

  pub turns_give : (down : Bool) (workers : List ℕ) (x y : Scene) (s : States)
      (lines : List WorkersLine) → x.workers.down ≡ down → AllStand program supers x s
      → TurnsGiven down program workers x lines y → Gives x s lines y
  turns_give true workers x y s lines is all given =
      quiet_gives (line.Plain answer.RefusedDown ∷ []) x y s lines all (s, refl, refl)
      (λ v. (tt, tt)) given.0 given.1
  turns_give false workers x y s lines up all given =
      go (stranger_in (length x.workers.tasks) workers) refl given
    where
      go : (o : Option ℕ) → stranger_in (length x.workers.tasks) workers ≡ o
          → TurnsKnown o program workers x lines y → Gives x s lines y
      go (Some stranger) is given =
          quiet_gives (line.RefusedWorker stranger ∷ []) x y s lines all (s, refl, refl)
          (λ v. (tt, tt)) given.0 given.1
      go None is given =
          list_gives workers x y s lines (known_of (length x.workers.tasks) workers is) up all given

  -- rounds of all workers
  known_append : (count : ℕ) (one two : List ℕ) → AreKnown count one → AreKnown count two
      → AreKnown count (one ++ two)
  known_append count [] two first second = second
  known_append count (w ∷ one) two first second =
      (first.0, known_append count one two first.1 second)

  round_known : (count worker n : ℕ) → worker + n ≤ count → AreKnown count (round_from worker n)
  round_known count worker zero fits = tt
  round_known count worker (suc n) fits =
      (omega arith, round_known count (suc worker) n (omega arith))

  rounds_known : (rounds count : ℕ) → AreKnown count (rounds_of rounds count)
  rounds_known zero count = tt
  rounds_known (suc n) count =
      known_append count (round_from 0 count) (rounds_of n count)
      (round_known count 0 count (omega arith)) (rounds_known n count)

  pub finish_gives : (down : Bool) (x y : Scene) (s : States) (lines : List WorkersLine)
      → x.workers.down ≡ down → AllStand program supers x s
      → FinishesAll down program x lines y → Gives x s lines y
  finish_gives true x y s lines is all given =
      quiet_gives (line.Plain answer.RefusedDown ∷ []) x y s lines all (s, refl, refl)
      (λ v. (tt, tt)) given.0 given.1
  finish_gives false x y s lines up all given =
      list_gives (rounds_of given.0 (length x.workers.tasks)) x y s lines
      (rounds_known given.0 (length x.workers.tasks)) up all given.1
