-- What each single line says of the worker that its command names.
use Rattle.std.proofs.Common.{◌≡◌, ◌⊎◌, inl, inr, ℕ, ◌<◌, Bool, true, false, ◌&&◌, nat_lt, ◌==◌}
use Rattle.std.proofs.Common.{if◌then◌else◌, List, [], ◌∷◌, Option, None, Some, length, ℤ, pos}
use Rattle.std.proofs.Common.{int_eq, refl, ap, subst, sym, ◌∙◌, arith}
use Rattle.std.proofs.lemmas.Bool.{ltb-true}
use Rattle.std.proofs.lemmas.Bool.Decides.{Decides-int_eq}
use Rattle.cache_model.specs.Cache.{Words}
use Rattle.pool_layout.specs.declared.places.TheConstants.{DONE, LAST, ATTEMPT, MARK}
use Rattle.pool_map.specs.declared.trap.TrapKind.{TrapKind}
use Rattle.pool_map.specs.declared.trap.TrapKind.TheVariants as trap
use Rattle.pool_map.specs.Trap.{trap_number}
use Rattle.tx_run.specs.declared.standing.Standing as device
use Rattle.tx_run.specs.declared.standing.Standing.TheVariants as stands
use Rattle.tx_run.specs.Standing.{is_number, trap_of_mark, standing_of}
use Rattle.pool_workers.specs.declared.task.Task.{Task}
use Rattle.pool_workers.specs.Crew.{Tasks, task_at, standing_at}
use Rattle.cnvm_script.specs.declared.command.Command.{Command}
use Rattle.cnvm_script.specs.declared.command.Command.TheVariants as session
use Rattle.cnvm_session.specs.declared.answer.Answer.{Answer}
use Rattle.cnvm_session.specs.declared.answer.Answer.TheVariants as answer
use Rattle.cnvm_session.specs.declared.program.Program.{Program}
use Rattle.cnvm_session.specs.Commands.{call_number, tx_parameters}
use Rattle.cnvm_session.specs.Marks.{rolls_back_of, looks_of}
use Rattle.workers_session.specs.declared.line.WorkersLine.{WorkersLine}
use Rattle.workers_session.specs.declared.line.WorkersLine.TheVariants as line
use Rattle.workers_session.specs.WorkersState.{busy_line, marked_line, refused_first, refusal_at}
use Rattle.workers_session.specs.WorkersCommands.{Scene, Starts, BeginsNamed, BeginsTo, BeginsBy}
use Rattle.workers_session.specs.WorkersCommands.{HasBegun, RunsOut, BeginsWith, BeginsAs}
use Rattle.workers_session.specs.WorkersCommands.{ShowsWorker, last_text_line, LastsWorker}
use Rattle.session_law.specs.Source.{source_parameters}
use Rattle.session_law.specs.Agrees.{Agrees}
use Rattle.session_law.specs.State.{Standing, Ready, Down, Unusable, SourceState}
use Rattle.session_law.specs.Answers.{RunsAs, CallsWith, CallsTo, CallsNamed, Calls, Shows}
use Rattle.session_law.specs.Answers.{Lasts, Answers}
use Rattle.session_law.proofs.images.Reading.{kind_read, is_marked}
use Rattle.workers_source_law.specs.Lines.{worker_image, TellsState}
use Rattle.workers_source_law.specs.Law.{Instant, WorkerHolds, AllHold}
use Rattle.workers_source_law.specs.Alone.{IsBusy, IsBarred}

-- what the standing of an image says of it

unusable_if : (b n : Bool) (k kind : TrapKind)
    → (if b then (if n then stands.Ready else stands.Numbers) else stands.Unusable k)
    ≡ stands.Unusable kind → (b ≡ false) × (k ≡ kind)
unusable_if true true k kind is = absurd cc
unusable_if true false k kind is = absurd cc
unusable_if false n k kind is = (refl, cc)

numbers_if : (b n : Bool) (k : TrapKind)
    → (if b then (if n then stands.Ready else stands.Numbers) else stands.Unusable k)
    ≡ stands.Numbers → n ≡ false
numbers_if true true k is = absurd cc
numbers_if true false k is = refl
numbers_if false n k is = absurd cc

unmarked_if : (b n : Bool) (k : TrapKind)
    → marked_line (if b then (if n then stands.Ready else stands.Numbers) else stands.Unusable k)
    ≡ None → b ≡ true
unmarked_if true n k is = refl
unmarked_if false n k is = absurd cc

module _ (image : Words) where
  abbrev counts : Bool
  counts = is_number (image DONE) && is_number (image ATTEMPT)

  unusable_of : (kind : TrapKind) → standing_of image ≡ stands.Unusable kind
      → (int_eq (image MARK) (pos 0) ≡ false) × (trap_of_mark (image MARK) ≡ kind)
  unusable_of kind is =
      unusable_if (int_eq (image MARK) (pos 0)) counts (trap_of_mark (image MARK)) kind is

  numbers_of : standing_of image ≡ stands.Numbers → counts ≡ false
  numbers_of is = numbers_if (int_eq (image MARK) (pos 0)) counts (trap_of_mark (image MARK)) is

  unmarked_of : marked_line (standing_of image) ≡ None → image MARK ≡ pos 0
  unmarked_of is =
      (Decides-int_eq (image MARK) (pos 0)).0
      (unmarked_if (int_eq (image MARK) (pos 0)) counts (trap_of_mark (image MARK)) is)

positive : (k : TrapKind) → 0 < trap_number k
positive trap.Null = omega arith
positive trap.Stale = omega arith
positive trap.Index = omega arith
positive trap.Divide = omega arith
positive trap.Steps = omega arith
positive trap.Abort = omega arith
positive trap.LogFull = omega arith
positive trap.Depth = omega arith

-- no worker has this number
abbrev pub IsNone : ℕ → Instant → Type 0
IsNone worker x = nat_lt worker (length x.scene.workers.tasks) ≡ false

-- a worker that has no transaction, by its mark

module _ (program : Program) (worker : ℕ) (x : Instant) where
  abbrev image : Words
  image = worker_image program worker x.scene.device

  abbrev s : SourceState
  s = x.states worker

  abbrev HoldsAs : Standing → Option Task → Type 0
  HoldsAs st o = WorkerHolds st program worker o x.scene.device s

  busy_as : (st : Standing) (t : Task) → s.standing ≡ st → HoldsAs st (Some t) → IsBusy s
  busy_as Ready t is holds = let no = holds.0 in absurd cc
  busy_as (Down None) t is holds = absurd holds
  busy_as (Down (Some call)) t is holds = (call, is)
  busy_as (Unusable kind) t is holds = let no = holds.0 in absurd cc

  ready_as : (st : Standing) → HoldsAs st None → image MARK ≡ pos 0 → st ≡ Ready
  ready_as Ready holds mark = refl
  ready_as (Down None) holds mark = absurd holds
  ready_as (Down (Some call)) holds mark = absurd cc
  ready_as (Unusable kind) holds mark =
      absurd (is_marked (image MARK) (trap_number kind) holds.1 (positive kind) mark)

  unusable_as : (st : Standing) (kind : TrapKind) → HoldsAs st None
      → standing_of image ≡ stands.Unusable kind → st ≡ Unusable kind
  unusable_as Ready kind holds is =
      let no = sym (unusable_of image kind is).0
      ∙ (Decides-int_eq (image MARK) (pos 0)).1 holds.1.mark in absurd cc
  unusable_as (Down None) kind holds is = absurd holds
  unusable_as (Down (Some call)) kind holds is = absurd cc
  unusable_as (Unusable k) kind holds is =
      ap (λ (i : TrapKind). Unusable i)
      (sym (kind_read (image MARK) k holds.1) ∙ (unusable_of image kind is).1)

  -- an answer of the worker's compartment alone is that of a session, on its image
  abbrev pub Tells : Command → Answer → Type 0
  Tells c answer.NoMemory = Unit {0}
  Tells c answer.RefusedDown = Unit {0}
  Tells c a = Answers program s image c a s

  -- what a line says of this worker, where its command is to start it, show it or tell its last
  abbrev pub Says : (starts bars : Type 0) → Command → WorkersLine → Type 0
  Says starts bars c (line.Own w a) = ⊥
  Says starts bars c (line.Plain a) = Tells c a
  Says starts bars c (line.Started w) = starts
  Says starts bars c (line.RefusedWorker w) = (w ≡ worker) × IsNone worker x
  Says starts bars c (line.RefusedBusy w) = (w ≡ worker) × IsBusy s
  Says starts bars c line.RefusedAbort = bars

  -- a single line, and what it says
  abbrev pub SaysOne : (starts bars : Type 0) → Command → List WorkersLine → Type 0
  SaysOne starts bars c lines = (l : WorkersLine) × (lines ≡ l ∷ []) × Says starts bars c l

  abbrev SaysOr : (starts bars : Type 0) → Command → Option WorkersLine → Type 0
  SaysOr starts bars c None = Unit {0}
  SaysOr starts bars c (Some l) = Says starts bars c l

  module _ (held : AllHold program x) where
    abbrev tasks : Tasks
    tasks = x.scene.workers.tasks

    abbrev at : device.Standing
    at = standing_at program.image worker x.scene.device

    abbrev unready_of : (down known : Bool) → Option Task → Option WorkersLine
    unready_of down known o =
        if down then Some (line.Plain answer.RefusedDown)
        else (if known then busy_line worker o else Some (line.RefusedWorker worker))

    -- what is held of the worker, if the workers are up and it is one of them
    holds_now : (o : Option Task) → x.scene.workers.down ≡ false
        → nat_lt worker (length tasks) ≡ true → task_at tasks worker ≡ o
        → HoldsAs s.standing o
    holds_now o up known is =
        subst (HoldsAs s.standing) is (held up worker (ltb-true worker (length tasks) known))

    -- where it is refused
    module _ (starts bars : Type 0) (c : Command)
        (refuses : (kind : TrapKind) → s.standing ≡ Unusable kind
        → Answers program s image c (answer.RefusedUnusable kind) s) where
      marked_says : (st : device.Standing) → at ≡ st → HoldsAs s.standing None
          → SaysOr starts bars c (marked_line st)
      marked_says stands.Ready is holds = tt
      marked_says (stands.Unusable kind) is holds =
          refuses kind (unusable_as s.standing kind holds is)
      marked_says stands.Numbers is holds = tt
      marked_says stands.Off is holds = tt

      unready_says : (down known : Bool) (o : Option Task) → x.scene.workers.down ≡ down
          → nat_lt worker (length tasks) ≡ known → task_at tasks worker ≡ o
          → SaysOr starts bars c (refused_first (unready_of down known o) (marked_line at))
      unready_says true known o up less is = tt
      unready_says false false o up less is = (refl, less)
      unready_says false true (Some t) up less is =
          (refl, busy_as s.standing t refl (holds_now (Some t) up less is))
      unready_says false true None up less is =
          marked_says at refl (holds_now None up less is)

      refusal_says : SaysOr starts bars c
          (refusal_at program.image x.scene.workers worker x.scene.device)
      refusal_says =
          unready_says x.scene.workers.down (nat_lt worker (length tasks)) (task_at tasks worker)
          refl refl refl

    -- where it isn't, it takes calls
    free_if : (down known : Bool) (o : Option Task) → x.scene.workers.down ≡ down
        → nat_lt worker (length tasks) ≡ known → task_at tasks worker ≡ o
        → refused_first (unready_of down known o) (marked_line at) ≡ None → s.standing ≡ Ready
    free_if true known o up less is none = absurd cc
    free_if false false o up less is none = absurd cc
    free_if false true (Some t) up less is none = absurd cc
    free_if false true None up less is none =
        ready_as s.standing (holds_now None up less is) (unmarked_of image none)

    free : refusal_at program.image x.scene.workers worker x.scene.device ≡ None
        → s.standing ≡ Ready
    free none =
        free_if x.scene.workers.down (nat_lt worker (length tasks)) (task_at tasks worker) refl
        refl refl none

    -- `start`
    module _ (agrees : Agrees program) (name : List ℕ) (args : List ℤ) (lines : List WorkersLine)
        (y : Scene) where
      abbrev pub Started : Type 0
      Started = SaysOne (Unit {0}) (IsBarred program name s) (session.Call name args) lines

      module _ (ready : s.standing ≡ Ready) where
        -- an answer of a session that takes calls
        calls : (a : Answer) → Calls Ready program s image name args a s
            → Answers program s image (session.Call name args) a s
        calls a is =
            subst (λ (st : Standing). Calls st program s image name args a s) (sym ready) is

        module _ (tx : ℕ) (named : call_number program name ≡ Some tx) where
          calls_to : (a : Answer)
              → CallsTo (source_parameters program tx) program s image tx args a s
              → Answers program s image (session.Call name args) a s
          calls_to a is =
              calls a (subst (λ (o : Option ℕ). CallsNamed o program s image args a s) (sym named)
              is)

          calls_with : (count : ℕ) (same : Bool) (a : Answer)
              → tx_parameters program.image tx ≡ Some count → (count == length args) ≡ same
              → CallsWith same program s image tx args a s
              → Answers program s image (session.Call name args) a s
          calls_with count same a takes fits is =
              calls_to a
              (subst (λ (o : Option ℕ). CallsTo o program s image tx args a s)
              (sym (sym (agrees.parameters tx) ∙ takes))
              (subst (λ (b : Bool). CallsWith b program s image tx args a s) (sym fits) is))

          begun_or : (looks : Bool) → HasBegun looks program.image worker tx args x.scene lines y
              ⊎ RunsOut x.scene lines y → Started
          begun_or looks (inl begun) = (line.Started worker, begun.told, tt)
          begun_or looks (inr out) = (line.Plain answer.NoMemory, out.0, tt)

          begins_as : (st : device.Standing) (looks : Bool) (count : ℕ)
              → looks_of program tx ≡ looks → at ≡ st
              → tx_parameters program.image tx ≡ Some count → (count == length args) ≡ true
              → BeginsAs st looks program.image worker tx args x.scene lines y → Started
          begins_as stands.Ready looks count kind is takes fits begins = begun_or looks begins
          begins_as stands.Numbers true count kind is takes fits begins = begun_or true begins
          begins_as stands.Numbers false count stores is takes fits begins = (
            line.Plain answer.RefusedNumbers,
            begins.0,
            calls_with count true answer.RefusedNumbers takes fits
                (subst (λ (b : Bool). RunsAs b (rolls_back_of program tx) program s image tx args
                answer.RefusedNumbers s) (sym stores) (numbers_of image is, refl)),
          )
          begins_as (stands.Unusable why) looks count kind is takes fits begins = absurd begins
          begins_as stands.Off looks count kind is takes fits begins = absurd begins

          begins_with : (count : ℕ) (same : Bool) → tx_parameters program.image tx ≡ Some count
              → (count == length args) ≡ same
              → BeginsWith same (looks_of program tx) program.image worker tx args x.scene lines y
              → Started
          begins_with count true takes fits is =
              begins_as at (looks_of program tx) count refl refl takes fits is
          begins_with count false takes fits is = (
            line.Plain answer.RefusedArity,
            is.0,
            calls_with count false answer.RefusedArity takes fits (refl, refl),
          )

          begins_by : (marked : Bool) (count : ℕ) → rolls_back_of program tx ≡ marked
              → tx_parameters program.image tx ≡ Some count
              → BeginsBy marked (looks_of program tx) count program.image worker tx args x.scene
              lines y → Started
          begins_by true count mark takes is =
              (line.RefusedAbort, is.0, (tx, named, mark, ready))
          begins_by false count mark takes is =
              begins_with count (count == length args) takes refl is

          begins_to : (o : Option ℕ) → tx_parameters program.image tx ≡ o
              → BeginsTo o program worker tx args x.scene lines y → Started
          begins_to None takes is = (
            line.Plain answer.RefusedUnknown,
            is.0,
            calls_to answer.RefusedUnknown
                (subst (λ (o : Option ℕ). CallsTo o program s image tx args answer.RefusedUnknown s)
                (sym (sym (agrees.parameters tx) ∙ takes)) (refl, refl)),
          )
          begins_to (Some count) takes is =
              begins_by (rolls_back_of program tx) count refl takes is

        begins_named : (o : Option ℕ) → call_number program name ≡ o
            → BeginsNamed o program worker args x.scene lines y → Started
        begins_named None named is = (
          line.Plain answer.RefusedUnknown,
          is.0,
          calls answer.RefusedUnknown
              (subst (λ (o : Option ℕ).
              CallsNamed o program s image args answer.RefusedUnknown s) (sym named)
              (refl, refl)),
        )
        begins_named (Some tx) named is =
            begins_to tx named (tx_parameters program.image tx) refl is

      starts_as : (o : Option WorkersLine)
          → refusal_at program.image x.scene.workers worker x.scene.device ≡ o
          → SaysOr (Unit {0}) (IsBarred program name s) (session.Call name args) o
          → Starts o program worker name args x.scene lines y → Started
      starts_as (Some l) why says is = (l, is.0, says)
      starts_as None why says is =
          begins_named (free why) (call_number program name) refl is

      pub start_says : Starts (refusal_at program.image x.scene.workers worker x.scene.device)
          program worker name args x.scene lines y → Started
      start_says is =
          starts_as (refusal_at program.image x.scene.workers worker x.scene.device) refl
          (refusal_says (Unit {0}) (IsBarred program name s) (session.Call name args)
          (λ kind is. subst (λ (st : Standing).
          Calls st program s image name args (answer.RefusedUnusable kind) s) (sym is)
          (refl, refl))) is

    -- `show` and `last`
    module _ (lines : List WorkersLine) (y : Scene) (tells : TellsState program s lines) where
      abbrev pub Looked : Command → Type 0
      Looked c = SaysOne ⊥ (Unit {0}) c lines

      shows : (o : Option WorkersLine) → SaysOr ⊥ (Unit {0}) session.Show o
          → ShowsWorker o program worker x.scene lines y → Looked session.Show
      shows (Some l) says is = (l, is.0, says)
      shows None says (inl is) =
          let told = subst (TellsState program s) is.told.0 tells in (
            line.Plain (answer.Shown is.text),
            is.told.0,
            subst (λ (st : Standing). Shows st program s (answer.Shown is.text) s) (sym told.1)
                (told.0, refl),
          )
      shows None says (inr is) = (line.Plain answer.NoMemory, is.0, tt)

      pub show_says : ShowsWorker (refusal_at program.image x.scene.workers worker x.scene.device)
          program worker x.scene lines y → Looked session.Show
      show_says is =
          shows (refusal_at program.image x.scene.workers worker x.scene.device)
          (refusal_says ⊥ (Unit {0}) session.Show
          (λ kind is. subst (λ (st : Standing).
          Shows st program s (answer.RefusedUnusable kind) s) (sym is) (refl, refl))) is

      lasts : (o : Option WorkersLine) → SaysOr ⊥ (Unit {0}) session.Last o
          → LastsWorker o program.image worker x.scene lines y → Looked session.Last
      lasts (Some l) says is = (l, is.0, says)
      lasts None says is =
          let told = subst (TellsState program s) is.0 tells in (
            last_text_line program.image worker x.scene.device,
            is.0,
            subst (λ (st : Standing).
                Lasts st s (answer.Last (image DONE) (image LAST)) s) (sym told.2) (
                  ap (λ (v : ℤ). answer.Last v (image LAST)) told.0
                      ∙ ap (λ (v : ℤ). answer.Last (pos s.done) v) told.1,
                  refl,
                ),
          )

      pub last_says : LastsWorker (refusal_at program.image x.scene.workers worker x.scene.device)
          program.image worker x.scene lines y → Looked session.Last
      last_says is =
          lasts (refusal_at program.image x.scene.workers worker x.scene.device)
          (refusal_says ⊥ (Unit {0}) session.Last
          (λ kind is. subst (λ (st : Standing). Lasts st s (answer.RefusedUnusable kind) s)
          (sym is) (refl, refl))) is
