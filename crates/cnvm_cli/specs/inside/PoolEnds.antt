-- How a run on the pool of a file ends, as the bodies promise it.
use Rattle.std.specs.Prelude.{ℕ, ◌≡◌, ◌≢◌, ◌⊎◌, List, [], ℤ, Option, Bool, is_some}
use Rattle.file_pmem.specs.File.{FileLines}
use Rattle.pmem.specs.Device.{Device}
use Rattle.cnvm_script.specs.declared.command.Command.{Command}
use Rattle.cnvm_session.specs.declared.program.Program.{Program}
use Rattle.file_pmem.specs.declared.link.MirrorState.TheVariants.{Awake}
use Rattle.cnvm_session.specs.declared.mode.Mode.{Mode}
use Rattle.session_run.specs.Held.{OpensTold, AnswersAs, HeldAs, NewAs}
use Rattle.session_run.specs.declared.status.Status.TheVariants as status
use Rattle.session_run.specs.Strict.{strict_status}
use Rattle.cnvm_cli.specs.declared.former.FormerPool.{FormerPool}
use Rattle.cnvm_cli.specs.Former.{TakesEither, TakesIf}
use Rattle.cnvm_cli.specs.inside.FormerEnds.{MovesAs, TakesWords, TakesPool}
use Rattle.session_run.specs.declared.status.Status.{Status}
use Rattle.cnvm_compile.specs.declared.asked.Asked.{Asked}
use Rattle.cnvm_compile.specs.declared.compiling.Compiled.{Compiled}
use Rattle.cnvm_words.specs.declared.plan.Plan.{Plan}
use Rattle.cnvm_words.specs.declared.plan.Plan.TheVariants as plan
use Rattle.cnvm_cli.specs.declared.refused.Refused.{Refused}
use Rattle.cnvm_cli.specs.PoolSide.{PoolSide, IsUnrun, RunsFile, TakesFile, MakesPool}
use Rattle.cnvm_cli.specs.Run.{RefusedAs}
use Rattle.cnvm_cli.specs.inside.CrewEnds.{CrewEnds}
use Rattle.cnvm_cli.specs.inside.ServeEnds.{ServeEnds}
use Rattle.cnvm_cli.specs.Verdict.{asked_by, TextsGive, TextsRefuse}
use Rattle.cnvm_cli.specs.World.{Sources}

-- a run on a file with these words, and one on a new pool on this device
abbrev pub RunsOn : Program → List Command → Status → (before after : PoolSide) → List ℤ → Type 0
RunsOn program commands result before after words =
    HeldAs program commands words result after.held.state before.out after.out before.held.device
    after.held.device before.steps after.steps

abbrev pub RunsNew : Program → List Command → Status → (before after : PoolSide) → Device → Type 0
RunsNew program commands result before after b =
    NewAs program commands result after.held.state before.out after.out b after.held.device
    before.steps after.steps

abbrev pub MissingEnds : Program → List Command → Status → (before after : PoolSide) → Type 0
MissingEnds program commands result before after =
    MakesPool (RunsNew program commands result before after) program result before after

abbrev pub ImageEnds : Program → List Command → (image : Option (List ℕ))
    → (shown : Option FileLines) → Status → (before after : PoolSide) → Type 0
ImageEnds program commands image shown result before after =
    TakesFile (RunsOn program commands result before after) program image shown result before after

-- a file is held that shows this, and these are the words of its image
abbrev pub WordsEnd : Program → List Command → List ℤ → (shown : Option FileLines) → Status
    → (before after : PoolSide) → Type 0
WordsEnd program commands words shown result before after =
    TakesWords (RunsOn program commands result before after) program words shown result before after

-- an opened pool of the former program is moved, or isn't, and run on
abbrev pub RunsMoved : (former new : Program) → List Command → Status → (before after : PoolSide)
    → List ℤ → Type 0
RunsMoved former new commands result before after words =
    ((result ≢ status.Done) × RunsOn former [] result before after words)
    ⊎ ((m : Mode) × (d : Device) × (k : ℕ) × (told : Option (List ℕ))
    × OpensTold former words m Awake before.out told before.held.device d before.steps k
    × MovesAs (λ b. AnswersAs new commands m result after.held.state told after.out b
    after.held.device k after.steps) former new m d k result told after)

abbrev pub MovedEnds : (new : Program) → List Command → FormerPool → (shown : Option FileLines)
    → Status → (before after : PoolSide) → Type 0
MovedEnds new commands pool shown result before after =
    TakesPool (RunsMoved pool.compiled.program new commands result before after) pool shown result
    before after

abbrev pub EitherEnds : Asked → Program → List Command → (former image : Option (List ℕ))
    → (shown : Option FileLines) → Status → (before after : PoolSide) → Type 0
EitherEnds asked program commands former image shown result before after =
    TakesEither asked former (RunsOn program commands result before after)
    (λ old. RunsMoved old.program program commands result before after) program image shown result
    before after

abbrev pub FoundEnds : Asked → (moves : Bool) → Program → List Command
    → (former image : Option (List ℕ)) → Status → (before after : PoolSide) → Type 0
FoundEnds asked moves program commands former image result before after =
    RunsFile (TakesIf moves asked former (RunsOn program commands result before after)
    (λ old. RunsMoved old.program program commands result before after) program image result before
    after) (RunsNew program commands result before after) program result before after

abbrev pub FileEnds : Asked → (moves : Bool) → Sources → Status → (before after : PoolSide) → Type 0
FileEnds asked moves told result before after =
    ((why : Refused) × TextsRefuse asked told.program told.script why
    × RefusedAs why result before.out after.out × IsUnrun before after)
    ⊎ ((compiled : Compiled) × (commands : List Command)
    × TextsGive asked told.program told.script compiled commands
    × FoundEnds asked moves compiled.program commands told.former told.image result before after)

abbrev pub PlanOnFileEnds : Plan → Sources → Status → (before after : PoolSide) → Type 0
PlanOnFileEnds (plan.RunPool p s slots records ticks pool former strict) told result before after =
    (ran : Status) × (result ≡ strict_status strict ran)
    × FileEnds (asked_by slots records ticks) (is_some former) told ran before after
PlanOnFileEnds (plan.ServePool p slots records ticks pool former) told result before after =
    ServeEnds (asked_by slots records ticks) (is_some former) told result before after
PlanOnFileEnds (plan.WorkersPool p s workers slots records ticks pool) told result before after =
    CrewEnds (asked_by slots records ticks) workers told result before after
PlanOnFileEnds _ told result before after =
    (after.held ≡ before.held) × (after.found ≡ before.found)
