-- How the top call ends, as the bodies promise it: what the session does, without what it means.
use Rattle.std.specs.Prelude.{ℕ, List, Bool, true, false, Option, is_some, ◌≡◌, ◌⊎◌}
use Rattle.std.specs.Io.KnownBytes.{Keeps}
use Rattle.pmem.specs.Device.{Device}
use Rattle.cnvm_script.specs.declared.command.Command.{Command}
use Rattle.cnvm_session.specs.declared.program.Program.{Program}
use Rattle.cnvm_compile.specs.declared.asked.Asked.{Asked}
use Rattle.cnvm_compile.specs.declared.compiling.Compiled.{Compiled}
use Rattle.cnvm_compile.specs.Compilation.{IsCompiled}
use Rattle.cnvm_words.specs.declared.plan.Plan.{Plan}
use Rattle.cnvm_words.specs.declared.plan.Plan.TheVariants as plan
use Rattle.cnvm_cli.specs.declared.refused.Refused.{Refused}
use Rattle.session_run.specs.declared.status.Status.{Status}
use Rattle.session_run.specs.declared.storm.StormOrder.{StormOrder}
use Rattle.cnvm_cli.specs.CodeEnds.{CodeEnds}
use Rattle.cnvm_cli.specs.Emitted.{EmitEnds}
use Rattle.cnvm_cli.specs.Listed.{ListEnds}
use Rattle.cnvm_cli.specs.Meant.{Start, Fresh, FromImage, start_if}
use Rattle.cnvm_cli.specs.Run.{RefusedAs}
use Rattle.session_run.specs.Saved.{SavedAs}
use Rattle.cnvm_cli.specs.StormMeant.{ordered}
use Rattle.cnvm_cli.specs.Verdict.{asked_by, OfBytes, ProgramRefuses, TextsGive, TextsRefuse}
use Rattle.cnvm_cli.specs.WhyEnds.{WhyEnds}
use Rattle.cnvm_cli.specs.inside.ServeEnds.{MemoryEnds}
use Rattle.cnvm_cli.specs.inside.WorkersEnds.{WorkersEnds}
use Rattle.cnvm_cli.specs.World.{Sources, Outside, IsUntouched}
use Rattle.cnvm_cli.specs.inside.Opened.{ImageEnds}
use Rattle.session_run.specs.Commands.{RanAs}
use Rattle.session_run.specs.Storms.{StormedAs}
use Rattle.session_run.specs.Strict.{strict_status}

-- How the commands end on the pool that they start from.
abbrev pub PoolEnds : Start → Program → List Command → Status → Option (List ℕ) → Option (List ℕ)
    → Device → Device → (k k' : ℕ) → Type 0
PoolEnds Fresh program commands result w w' d d' k k' = RanAs program commands result w w' d d' k k'
PoolEnds (FromImage image) program commands result w w' d d' k k' =
    ImageEnds program commands image result w w' d d' k k'

-- the same, and the pool isn't saved
abbrev pub EndsUnsaved : Start → Program → List Command → Status
    → (before after : Outside) → Type 0
EndsUnsaved start program commands result before after =
    PoolEnds start program commands result before.out after.out before.dev after.dev before.steps
    after.steps
    × Keeps before.image after.image

-- the same, followed by saving the pool
abbrev pub EndsSaved : Start → Program → List Command → Status → (before after : Outside) → Type 0
EndsSaved start program commands result before after =
    (ran : Status) × (d : Device) × PoolEnds start program commands ran before.out after.out
    before.dev d before.steps after.steps
    × SavedAs ran result before.image after.image d after.dev

abbrev pub JobEnds : (saves : Bool) → Start → Program → List Command → Status
    → (before after : Outside) → Type 0
JobEnds false start program commands result before after =
    EndsUnsaved start program commands result before after
JobEnds true start program commands result before after =
    EndsSaved start program commands result before after

-- How a run ends. A source failed, or there was no memory, before anything was written; or the
-- program or the script is refused, and this is reported: then nothing is run or saved. Or the
-- commands are run.
abbrev pub RunEnds : Asked → Sources → (opens saves : Bool) → Status
    → (before after : Outside) → Type 0
RunEnds asked told opens saves result before after =
    ((why : Refused) × TextsRefuse asked told.program told.script why
    × RefusedAs why result before.out after.out
    × IsUntouched before after)
    ⊎ ((compiled : Compiled) × (commands : List Command)
    × TextsGive asked told.program told.script compiled commands
    × JobEnds saves (start_if opens told.image) compiled.program commands result before after)

-- How a storm ends: the program is refused, this is reported, and nothing is run; or the storm is
-- run on a new pool.
abbrev pub StormEnds : Asked → StormOrder → (program : Option (List ℕ)) → Status
    → Option (List ℕ) → Option (List ℕ) → Device → Device
    → (k k' : ℕ) → Type 0
StormEnds asked order program result w w' d d' k k' =
    ((why : Refused) × ProgramRefuses program why × RefusedAs why result w w' × (d' ≡ d) × (k' ≡ k))
    ⊎ ((compiled : Compiled) × OfBytes program (λ text. IsCompiled asked text compiled)
    × StormedAs compiled.program order result w w' d d' k k')

-- How the call ends, by its plan.
abbrev pub PlanEnds : Plan → Sources → Status → (before after : Outside) → Type 0
PlanEnds (plan.Run p s slots records ticks from save strict) told result before after =
    (ran : Status) × (result ≡ strict_status strict ran)
    × RunEnds (asked_by slots records ticks) told (is_some from) (is_some save) ran before after
PlanEnds (plan.RunPool p s slots records ticks pool former strict) told result before after =
    Keeps before.image after.image × (after.dev ≡ before.dev)
PlanEnds (plan.Serve p slots records ticks) told result before after =
    MemoryEnds (asked_by slots records ticks) told result before.out after.out before.dev after.dev
    before.steps after.steps
    × Keeps before.image after.image
PlanEnds (plan.ServePool p slots records ticks pool former) told result before after =
    Keeps before.image after.image × (after.dev ≡ before.dev)
PlanEnds (plan.List p) told result before after =
    ListEnds told.program result before.out after.out × IsUntouched before after
PlanEnds (plan.Storm p start count reach plain slots records ticks) told result before after =
    StormEnds (asked_by slots records ticks) (ordered start count reach plain) told.program
    result before.out after.out before.dev
    after.dev before.steps after.steps
    × Keeps before.image after.image
PlanEnds (plan.Why p) told result before after =
    WhyEnds told.program result before.out after.out × IsUntouched before after
PlanEnds (plan.Workers p s workers slots records ticks) told result before after =
    WorkersEnds (asked_by slots records ticks) workers told.program told.script result
    before.out after.out before.dev after.dev before.steps after.steps
    × Keeps before.image after.image
PlanEnds (plan.WorkersPool p s workers slots records ticks pool) told result before after =
    Keeps before.image after.image × (after.dev ≡ before.dev)
PlanEnds (plan.Emit p prefix header slots records ticks) told result before after =
    EmitEnds (asked_by slots records ticks) prefix header told.program result before.out after.out
    × IsUntouched before after
PlanEnds (plan.Code p) told result before after =
    CodeEnds told.program result before.out after.out × IsUntouched before after
