-- What a run of a script of workers on the compartments of a file means by the source of its
-- program. Their lines lie in a device that is mirrored in the file: whatever a killed process or a
-- loss of power leaves of the file is an image of the device.
use Rattle.std.specs.Prelude.{ℕ, ℤ, ◌*◌, ◌≡◌, ◌≢◌, ◌⊎◌, ◌++◌, List, Option, Result, Ok, Err}
use Rattle.std.specs.Io.KnownBytes.{Appends}
use Rattle.nvm_base.specs.Parts.{AppendsPart}
use Rattle.pmem.specs.Device.{Device}
use Rattle.file_pmem.specs.declared.link.MirrorState.TheVariants.{Awake}
use Rattle.pool_layout.specs.Sizes.{pool_lines}
use Rattle.cnvm_session.specs.declared.creating.StartFault.TheVariants as start
use Rattle.cnvm_session.specs.declared.program.Program.{Program}
use Rattle.cnvm_session.specs.Pool.{sizes_of}
use Rattle.session_run.specs.Held.{created_line}
use Rattle.session_run.specs.declared.status.Status.{Status}
use Rattle.workers_script.specs.declared.command.WorkersCommand.{WorkersCommand}
use Rattle.workers_script.specs.WorkersGrammar.{workers_script_meaning}
use Rattle.workers_run.specs.declared.fault.RunFault.{RunFault}
use Rattle.workers_run.specs.declared.fault.RunFault.TheVariants as fault
use Rattle.workers_run.specs.WorkersRan.{AreCreated, UnopenedWorkers}
use Rattle.workers_source_law.specs.Law.{RanNew, BrokeOffNew, RanOpened, BrokeOffOpened}
use Rattle.cnvm_compile.specs.declared.asked.Asked.{Asked}
use Rattle.cnvm_compile.specs.declared.compiling.Compiled.{Compiled}
use Rattle.cnvm_compile.specs.Compilation.{IsCompiled}
use Rattle.cnvm_cli.specs.declared.refused.Refused.{Refused}
use Rattle.cnvm_cli.specs.CrewOpened.{CrewRefuses, CrewGives, last_version}
use Rattle.cnvm_cli.specs.PoolSide.{PoolSide, IsUnrun, MakesFile, TakesImage, RunsFound}
use Rattle.cnvm_cli.specs.Run.{RefusedAs}
use Rattle.cnvm_cli.specs.Verdict.{OfBytes, SpellsIn, RefuseIn}
use Rattle.cnvm_cli.specs.World.{Sources}
use Rattle.cnvm_cli.specs.WorkersMeant.{run_status}

-- a fact about some first commands
abbrev pub OfSome : (List WorkersCommand → Type 0) → List WorkersCommand → Type 0
OfSome P commands =
    (first : List WorkersCommand) × (rest : List WorkersCommand) × (commands ≡ first ++ rest)
    × P first

-- A run on a file with the words of these images: each compartment is recovered and answers as the
-- source says of its own image; all commands are done, and the file mirrors the device; or the run
-- breaks off; or the file refused something, and the run ended at the lines at hand.
abbrev pub HeldCrewMeant : Program → (count : ℕ) → List WorkersCommand → Result Unit RunFault
    → (before after : PoolSide) → List ℤ → Type 0
HeldCrewMeant program count commands (Ok u) before after words =
    RanOpened program count commands words before.out after.out before.held.device
    after.held.device before.steps after.steps
    × (after.held.state ≡ Awake)
HeldCrewMeant program count commands (Err fault.Device) before after words =
    UnopenedWorkers start.Failed program count words before.out after.out before.held.device
    after.held.device before.steps after.steps
    ⊎ (OfSome (λ first. RanOpened program count first words before.out after.out before.held.device
    after.held.device before.steps after.steps) commands
    × (after.held.state ≢ Awake))
HeldCrewMeant program count commands (Err fault.NoMemory) before after words =
    UnopenedWorkers start.NoMemory program count words before.out after.out before.held.device
    after.held.device before.steps after.steps
    ⊎ BrokeOffOpened program count commands words before.out after.out before.held.device
    after.held.device before.steps after.steps
HeldCrewMeant program count commands (Err fault.Write) before after words =
    BrokeOffOpened program count commands words before.out after.out before.held.device
    after.held.device before.steps after.steps

-- the same on new compartments whose file was made: `created` is written first
abbrev pub NewCrewMeant : Program → (count : ℕ) → List WorkersCommand → Result Unit RunFault
    → (before after : PoolSide) → Device → Type 0
NewCrewMeant program count commands (Ok u) before after b =
    (told : Option (List ℕ)) × Appends before.out told created_line
    × RanNew program count commands told after.out before.held.device after.held.device before.steps
    after.steps
    × (after.held.state ≡ Awake)
NewCrewMeant program count commands (Err fault.Device) before after b =
    (told : Option (List ℕ)) × Appends before.out told created_line
    × OfSome (λ first. RanNew program count first told after.out before.held.device
    after.held.device before.steps after.steps) commands
    × (after.held.state ≢ Awake)
NewCrewMeant program count commands (Err fault.NoMemory) before after b =
    (told : Option (List ℕ)) × Appends before.out told created_line
    × BrokeOffNew program count commands told after.out before.held.device after.held.device
    before.steps after.steps
NewCrewMeant program count commands (Err fault.Write) before after b =
    (AppendsPart before.out after.out created_line × (after.held.device ≡ b)
    × (after.steps ≡ before.steps))
    ⊎ ((told : Option (List ℕ)) × Appends before.out told created_line
    × BrokeOffNew program count commands told after.out before.held.device after.held.device
    before.steps after.steps)

-- the status is that of a run that ended so
abbrev pub EndsCrew : Status → (Result Unit RunFault → Type 0) → Type 0
EndsCrew result P = (r : Result Unit RunFault) × (result ≡ run_status r) × P r

-- What a run of a script of workers on the compartments of a file means: a text is refused, and
-- this is reported; or the source of the compiled program says what each line is.
abbrev pub CrewMeant : Asked → (count : ℕ) → Sources → Status → (before after : PoolSide) → Type 0
CrewMeant asked count told result before after =
    ((why : Refused) × RefuseIn workers_script_meaning asked told.program told.script why
    × RefusedAs why result before.out after.out × IsUnrun before after)
    ⊎ ((compiled : Compiled) × (commands : List WorkersCommand)
    × OfBytes told.program (λ text. IsCompiled asked text compiled)
    × OfBytes told.script (SpellsIn workers_script_meaning commands)
    × RunsFound
    (λ shown. TakesImage (CrewRefuses compiled.program count told.image)
    (CrewGives compiled.program count told.image)
    (λ words. EndsCrew result (λ r. HeldCrewMeant compiled.program count commands r before after
    words)) (pool_lines (sizes_of compiled.program) * count) (last_version compiled.program count)
    shown result before after)
    (MakesFile (AreCreated compiled.program count before.held.device)
    (λ b. EndsCrew result (λ r. NewCrewMeant compiled.program count commands r before after b))
    result before after) result before after)
