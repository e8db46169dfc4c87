-- What a run on the pool of a file means. The pool's lines lie in a device that is mirrored in the
-- file: whatever a killed process or a loss of power leaves of the file is an image of the device.
use Rattle.std.specs.Prelude.{ℕ, ℤ, ◌≡◌, ◌≢◌, ◌⊎◌, List, [], ◌++◌, Option, Some, ⊤}
use Rattle.std.specs.Prelude.{Bool, true, false, is_some}
use Rattle.std.specs.Io.KnownBytes.{Appends}
use Rattle.cache_model.specs.Cache.{Words}
use Rattle.pmem.specs.Device.{Device}
use Rattle.file_pmem.specs.declared.link.MirrorState.TheVariants.{Awake}
use Rattle.pool_layout.specs.Image.{image_words}
use Rattle.cnvm_script.specs.declared.command.Command.{Command}
use Rattle.cnvm_session.specs.declared.answer.Answer.{Answer}
use Rattle.cnvm_session.specs.declared.mode.Mode.TheVariants.{Ready}
use Rattle.cnvm_session.specs.declared.program.Program.{Program}
use Rattle.cnvm_session.specs.AnswerText.{answer_text}
use Rattle.session_law.specs.State.{created}
use Rattle.session_law.specs.Holds.{Holds}
use Rattle.session_law.specs.Ran.{Moment, OpenStep, fresh_moment}
use Rattle.session_law.specs.Law.{super_words}
use Rattle.session_run.specs.declared.status.Status.{Status}
use Rattle.session_run.specs.declared.status.Status.TheVariants as status
use Rattle.session_run.specs.Held.{FirstTold}
use Rattle.session_run.specs.Strict.{strict_status, IsAnswered}
use Rattle.cnvm_compile.specs.declared.asked.Asked.{Asked}
use Rattle.cnvm_compile.specs.declared.compiling.Compiled.{Compiled}
use Rattle.cnvm_cli.specs.declared.refused.Refused.{Refused}
use Rattle.cnvm_cli.specs.CrewMeant.{CrewMeant}
use Rattle.cnvm_cli.specs.Former.{MovesOn, TakesIf}
use Rattle.cnvm_cli.specs.Meant.{RanAll, RanWith, RanPart, OpenedMeantAs}
use Rattle.cnvm_cli.specs.PoolSide.{PoolSide, IsKept, IsUnrun, RunsFile}
use Rattle.cnvm_cli.specs.Run.{RefusedAs}
use Rattle.cnvm_cli.specs.Serve.{ServeFileMeant}
use Rattle.cnvm_words.specs.declared.plan.Plan.{Plan}
use Rattle.cnvm_words.specs.declared.plan.Plan.TheVariants as plan
use Rattle.cnvm_cli.specs.Verdict.{asked_by, TextsGive, TextsRefuse}
use Rattle.cnvm_cli.specs.World.{Sources}

-- a chain of steps over some first commands, whose answers are written
abbrev pub RanSome : Program → Words → List Command → Moment → Option (List ℕ)
    → Option (List ℕ) → Device → ℕ → Type 0
RanSome program super commands x w w' d' k' =
    (first : List Command) × (rest : List Command) × (commands ≡ first ++ rest)
    × RanAll program super first x w w' d' k'

-- A run on a file with these words: as one on an image's pool; or the file refused something, and
-- the run ended at the answer at hand. After status 0 or 10 the file mirrors the device.
abbrev pub HeldMeant : Program → List Command → List ℤ → Status → (before after : PoolSide)
    → Type 0
HeldMeant program commands words result before after =
    (IsAnswered result → after.held.state ≡ Awake)
    × (OpenedMeantAs program commands words result before.out after.out before.held.device
    after.held.device before.steps after.steps
    ⊎ ((result ≡ status.DeviceFault) × (after.held.state ≢ Awake)
    × ((a : Answer) × (x : Moment) × (w : Option (List ℕ))
    × OpenStep program words before.held.device before.steps a x
    × Appends before.out w (answer_text a)
    × RanSome program (image_words words) commands x w after.out after.held.device after.steps)))

-- The commands are answered from this moment on: all of them, or a part, or some until the file
-- refused something. After status 0 or 10 the file mirrors the device.
abbrev pub AnsweredMeant : Program → Words → List Command → Moment → Status
    → (told : Option (List ℕ)) → (after : PoolSide) → Type 0
AnsweredMeant program super commands x status.Done told after =
    RanWith program super commands x false told after.out after.held.device after.steps
    × (after.held.state ≡ Awake)
AnsweredMeant program super commands x status.Unmet told after =
    RanWith program super commands x true told after.out after.held.device after.steps
    × (after.held.state ≡ Awake)
AnsweredMeant program super commands x status.NoMemory told after =
    RanPart program super commands x told after.out after.held.device after.steps
AnsweredMeant program super commands x status.WriteFault told after =
    RanPart program super commands x told after.out after.held.device after.steps
AnsweredMeant program super commands x status.DeviceFault told after =
    RanSome program super commands x told after.out after.held.device after.steps
    × (after.held.state ≢ Awake)
AnsweredMeant program super commands x _ told after = ⊥

-- A run on a file with these words, which is a pool of the former program: it ends as a run of that
-- program without commands, whose opening ended early; or the opening is answered, and the pool is
-- moved, or isn't.
abbrev pub MovedMeant : (former new : Program) → List Command → List ℤ → Status
    → (before after : PoolSide) → Type 0
MovedMeant former new commands words result before after =
    ((result ≢ status.Done) × HeldMeant former [] words result before after)
    ⊎ ((a : Answer) × (x : Moment) × (told : Option (List ℕ))
    × OpenStep former words before.held.device before.steps a x
    × Appends before.out told (answer_text a)
    × MovesOn (λ super y. AnsweredMeant new super commands y result told after) former new
    (image_words words) x result told after)

-- A run on a new pool whose file was made: it holds the empty pool, `created` is written, and then
-- the commands are answered.
abbrev pub NewMeant : Program → List Command → Status → Device → (before after : PoolSide) → Type 0
NewMeant program commands result b before after =
    Holds program (super_words program) Ready b (created program)
    × FirstTold
    (λ unmet told. RanWith program (super_words program) commands
    (fresh_moment program b before.steps) unmet told after.out after.held.device after.steps
    × (after.held.state ≡ Awake))
    (λ told. RanPart program (super_words program) commands (fresh_moment program b before.steps)
    told after.out after.held.device after.steps)
    (λ told. RanSome program (super_words program) commands (fresh_moment program b before.steps)
    told after.out after.held.device after.steps × (after.held.state ≢ Awake))
    ((after.held.device ≡ b) × (after.steps ≡ before.steps)) result before.out after.out

-- What a run on the pool of a file means: a text is refused, and this is reported; or the source of
-- the compiled program says what each answer is.
abbrev pub FileMeant : Asked → (moves : Bool) → Sources → Status → (before after : PoolSide)
    → Type 0
FileMeant asked moves told result before after =
    ((why : Refused) × TextsRefuse asked told.program told.script why
    × RefusedAs why result before.out after.out × IsUnrun before after)
    ⊎ ((compiled : Compiled) × (commands : List Command)
    × TextsGive asked told.program told.script compiled commands
    × RunsFile (TakesIf moves asked told.former
    (λ words. HeldMeant compiled.program commands words result before after)
    (λ old words. MovedMeant old.program compiled.program commands words result before after)
    compiled.program told.image result before after)
    (λ b. NewMeant compiled.program commands result b before after)
    compiled.program result before after)

-- the plan runs on a pool's file
abbrev pub HasPool : Option Plan → Type 0
HasPool (Some (plan.RunPool p s slots records ticks pool former strict)) = ⊤
HasPool (Some (plan.ServePool p slots records ticks pool former)) = ⊤
HasPool (Some (plan.WorkersPool p s workers slots records ticks pool)) = ⊤
HasPool _ = ⊥

-- A call by its plan: one that names no pool's file leaves the device over it as it was.
abbrev pub PlanOnFile : Option Plan → Sources → Status → (before after : PoolSide) → Type 0
PlanOnFile (Some (plan.RunPool p s slots records ticks pool former strict)) told result before
    after =
    (ran : Status) × (result ≡ strict_status strict ran)
    × FileMeant (asked_by slots records ticks) (is_some former) told ran before after
PlanOnFile (Some (plan.ServePool p slots records ticks pool former)) told result before after =
    ServeFileMeant (asked_by slots records ticks) (is_some former) told result before after
PlanOnFile (Some (plan.WorkersPool p s workers slots records ticks pool)) told result before after =
    CrewMeant (asked_by slots records ticks) workers told result before after
PlanOnFile _ told result before after =
    (after.held ≡ before.held) × (after.found ≡ before.found)

-- What a call does with a pool's file. However it ends, what a crash leaves of the file is an image
-- of the device.
abbrev pub CallOnFile : Option Plan → Sources → Status → (before after : PoolSide) → Type 0
CallOnFile words told result before after =
    IsKept after.held × PlanOnFile words told result before after
