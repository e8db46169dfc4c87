-- How a run of a script of workers on the compartments of a file ends, as the bodies promise it.
use Rattle.std.specs.Prelude.{ℕ, ℤ, List, Option, Result, Ok, Err, ◌*◌, ◌≡◌, ◌⊎◌, ⊤}
use Rattle.pmem.specs.Device.{Device}
use Rattle.file_pmem.specs.File.{FileLines}
use Rattle.pool_layout.specs.Sizes.{pool_lines}
use Rattle.cnvm_session.specs.declared.program.Program.{Program}
use Rattle.cnvm_session.specs.Pool.{sizes_of}
use Rattle.session_run.specs.declared.status.Status.{Status}
use Rattle.workers_script.specs.declared.command.WorkersCommand.{WorkersCommand}
use Rattle.workers_script.specs.WorkersGrammar.{workers_script_meaning}
use Rattle.workers_session.specs.WorkersState.{new_workers}
use Rattle.workers_session.specs.WorkersCommands.{scene_of}
use Rattle.workers_run.specs.declared.fault.RunFault.{RunFault}
use Rattle.workers_run.specs.WorkersRan.{AreCreated}
use Rattle.workers_run.specs.WorkersHeld.{HeldAs, MadeAs}
use Rattle.workers_source_law.specs.Opened.{AreOpened}
use Rattle.cnvm_compile.specs.declared.asked.Asked.{Asked}
use Rattle.cnvm_compile.specs.declared.compiling.Compiled.{Compiled}
use Rattle.cnvm_compile.specs.Compilation.{IsCompiled}
use Rattle.cnvm_cli.specs.declared.refused.Refused.{Refused}
use Rattle.cnvm_cli.specs.declared.refused.Refused.TheVariants as refused
use Rattle.cnvm_cli.specs.declared.workers.Crew.{Crew}
use Rattle.cnvm_cli.specs.CrewOpened.{AreCrewWords, IsCrewFault, CrewRefuses, CrewGives}
use Rattle.cnvm_cli.specs.CrewOpened.{last_version}
use Rattle.cnvm_cli.specs.PoolSide.{PoolSide, IsUnrun, IsSilent, MakesFile, RunsWordsOn}
use Rattle.cnvm_cli.specs.PoolSide.{TakesImage, RunsFound}
use Rattle.cnvm_cli.specs.Run.{RefusedAs}
use Rattle.cnvm_cli.specs.Verdict.{OfBytes, SpellsIn, RefuseIn}
use Rattle.cnvm_cli.specs.World.{Sources}
use Rattle.cnvm_cli.specs.WorkersMeant.{run_status}

-- the program and the commands that the two texts give
abbrev pub CrewGiven : Asked → (program script : Option (List ℕ)) → Compiled → List WorkersCommand
    → Type 0
CrewGiven asked program script compiled commands =
    OfBytes program (λ text. IsCompiled asked text compiled)
    × OfBytes script (SpellsIn workers_script_meaning commands)

-- a crew is made of what the texts give, or the texts are refused
abbrev pub CrewReadAs : Result Crew Refused → Asked → (program script : Option (List ℕ)) → Type 0
CrewReadAs (Ok crew) asked program script =
    CrewGiven asked program script crew.compiled crew.commands
CrewReadAs (Err why) asked program script = RefuseIn workers_script_meaning asked program script why

-- what the reader of the images makes of the bytes that were read
abbrev pub CrewIs : Program → (count : ℕ) → Result (List ℤ) Refused → List ℕ → Type 0
CrewIs program count (Ok words) bytes =
    AreOpened program count words × AreCrewWords program count bytes words
CrewIs program count (Err (refused.Image fault)) bytes = IsCrewFault program count bytes fault
CrewIs program count (Err refused.ReadFault) bytes = ⊤
CrewIs program count (Err refused.NoMemory) bytes = ⊤
CrewIs program count (Err _) bytes = ⊥

-- what the reader of the images answers
abbrev pub CrewImageReadAs : Program → (count : ℕ) → Result (List ℤ) Refused
    → (image : Option (List ℕ)) → Type 0
CrewImageReadAs program count (Ok words) image = CrewGives program count image words
CrewImageReadAs program count (Err why) image = CrewRefuses program count image why

-- a run on a file with these words, and one on new compartments on this device
abbrev pub RunsOnCrew : Program → (count : ℕ) → List WorkersCommand → Status
    → (before after : PoolSide) → List ℤ → Type 0
RunsOnCrew program count commands result before after words =
    (r : Result Unit RunFault) × (result ≡ run_status r)
    × HeldAs program count commands words r after.held.state before.out after.out before.held.device
    after.held.device before.steps after.steps

abbrev pub RunsNewCrew : Program → (count : ℕ) → List WorkersCommand → Status
    → (before after : PoolSide) → Device → Type 0
RunsNewCrew program count commands result before after b =
    (r : Result Unit RunFault) × (result ≡ run_status r)
    × MadeAs program commands (scene_of (new_workers count) b before.steps) r after.held.state
    before.out after.out after.held.device after.steps

abbrev pub CrewMissingEnds : Program → (count : ℕ) → List WorkersCommand → Status
    → (before after : PoolSide) → Type 0
CrewMissingEnds program count commands result before after =
    MakesFile (AreCreated program count before.held.device)
    (RunsNewCrew program count commands result before after) result before after

abbrev pub CrewImageEnds : Program → (count : ℕ) → List WorkersCommand → (image : Option (List ℕ))
    → (shown : Option FileLines) → Status → (before after : PoolSide) → Type 0
CrewImageEnds program count commands image shown result before after =
    TakesImage (CrewRefuses program count image) (CrewGives program count image)
    (RunsOnCrew program count commands result before after) (pool_lines (sizes_of program) * count)
    (last_version program count) shown result before after

-- a file is held that shows this, and these are the words of its images
abbrev pub CrewWordsEnd : Program → (count : ℕ) → List WorkersCommand → List ℤ
    → (shown : Option FileLines) → Status → (before after : PoolSide) → Type 0
CrewWordsEnd program count commands words shown result before after =
    IsSilent result before after
    ⊎ RunsWordsOn (RunsOnCrew program count commands result before after) words
    (pool_lines (sizes_of program) * count) (last_version program count) shown result before after

abbrev pub CrewFoundEnds : Program → (count : ℕ) → List WorkersCommand → (image : Option (List ℕ))
    → Status → (before after : PoolSide) → Type 0
CrewFoundEnds program count commands image result before after =
    RunsFound
    (λ shown. CrewImageEnds program count commands image shown result before after)
    (CrewMissingEnds program count commands result before after) result before after

abbrev pub CrewEnds : Asked → (count : ℕ) → Sources → Status → (before after : PoolSide) → Type 0
CrewEnds asked count told result before after =
    ((why : Refused) × RefuseIn workers_script_meaning asked told.program told.script why
    × RefusedAs why result before.out after.out × IsUnrun before after)
    ⊎ ((compiled : Compiled) × (commands : List WorkersCommand)
    × CrewGiven asked told.program told.script compiled commands
    × CrewFoundEnds compiled.program count commands told.image result before after)
