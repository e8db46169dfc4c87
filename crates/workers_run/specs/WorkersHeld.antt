-- A run of a script of workers on the compartments of a file: their lines lie in a device that is
-- mirrored in the file. It ends as a run in memory does; or the file refused something, and the run
-- ended there.
use Rattle.std.specs.Prelude.{ℕ, ℤ, ◌*◌, ◌≡◌, ◌≢◌, ◌⊎◌, ◌++◌, List, Option, Result, Ok, Err}
use Rattle.std.specs.Io.KnownBytes.{Appends}
use Rattle.nvm_base.specs.Parts.{AppendsPart}
use Rattle.cache_model.specs.Cache.{view}
use Rattle.pmem.specs.Device.{Device}
use Rattle.pm_machine.specs.HeapPool.{words_from}
use Rattle.file_pmem.specs.declared.link.MirrorState.{MirrorState}
use Rattle.file_pmem.specs.declared.link.MirrorState.TheVariants.{Awake}
use Rattle.pool_workers.specs.declared.answer.MakeFault.{MakeFault}
use Rattle.pool_workers.specs.declared.answer.MakeFault.TheVariants as make
use Rattle.pool_workers.specs.Making.{Unmade}
use Rattle.cnvm_session.specs.declared.creating.StartFault.TheVariants as start
use Rattle.cnvm_session.specs.declared.program.Program.{Program}
use Rattle.session_run.specs.Held.{created_line}
use Rattle.workers_script.specs.declared.command.WorkersCommand.{WorkersCommand}
use Rattle.workers_session.specs.WorkersState.{WorkersState, new_workers}
use Rattle.workers_session.specs.WorkersCommands.{Scene, scene_of}
use Rattle.workers_run.specs.declared.fault.RunFault.{RunFault}
use Rattle.workers_run.specs.declared.fault.RunFault.TheVariants as fault
use Rattle.workers_run.specs.WorkersRan.{RunsWorkers, BreaksOff, AreCreated, UnopenedWorkers}
use Rattle.workers_run.specs.WorkersRan.{RunsOpened, BreaksOffOpened}

-- some first commands are done, perhaps all or none, and their lines are written
abbrev pub RunsSome : Program → List WorkersCommand → Scene → Option (List ℕ) → Scene
    → Option (List ℕ) → Type 0
RunsSome program commands x w y w' =
    (first : List WorkersCommand) × (rest : List WorkersCommand) × (commands ≡ first ++ rest)
    × RunsWorkers program first x w y w'

-- how the lines at hand are written where a run ends at them, with the file in this state
abbrev pub EndsAt : RunFault → MirrorState → Option (List ℕ) → Option (List ℕ) → List ℕ → Type 0
EndsAt fault.Device s w w' text = Appends w w' text × (s ≢ Awake)
EndsAt fault.NoMemory s w w' text = AppendsPart w w' text
EndsAt fault.Write s w w' text = AppendsPart w w' text

-- The commands aren't all done, for this cause: the file has refused something; or of the lines of
-- one a part is written.
abbrev pub BreaksHeld : RunFault → MirrorState → Program → List WorkersCommand → Scene
    → Option (List ℕ) → Scene → Option (List ℕ) → Type 0
BreaksHeld fault.Device s program commands x w y w' =
    RunsSome program commands x w y w' × (s ≢ Awake)
BreaksHeld fault.NoMemory s program commands x w y w' = BreaksOff program commands x w y w'
BreaksHeld fault.Write s program commands x w y w' = BreaksOff program commands x w y w'

-- the compartments are opened, and some first commands are done
abbrev pub OpensSome : Program → (count : ℕ) → List WorkersCommand → List ℤ
    → (w w' : Option (List ℕ)) → (d d' : Device) → (k k' : ℕ) → Type 0
OpensSome program count commands words w w' d d' k k' =
    (first : List WorkersCommand) × (rest : List WorkersCommand) × (commands ≡ first ++ rest)
    × RunsOpened program count first words w w' d d' k k'

-- How a run on a file with the words of these images ends, with the file in this state. A run to
-- its end leaves a file that mirrors the device.
abbrev pub HeldAs : Program → (count : ℕ) → List WorkersCommand → List ℤ → Result Unit RunFault
    → MirrorState → (w w' : Option (List ℕ)) → (d d' : Device) → (k k' : ℕ) → Type 0
HeldAs program count commands words (Ok u) s w w' d d' k k' =
    RunsOpened program count commands words w w' d d' k k' × (s ≡ Awake)
HeldAs program count commands words (Err fault.Device) s w w' d d' k k' =
    UnopenedWorkers start.Failed program count words w w' d d' k k'
    ⊎ (OpensSome program count commands words w w' d d' k k' × (s ≢ Awake))
HeldAs program count commands words (Err fault.NoMemory) s w w' d d' k k' =
    UnopenedWorkers start.NoMemory program count words w w' d d' k k'
    ⊎ BreaksOffOpened program count commands words w w' d d' k k'
HeldAs program count commands words (Err fault.Write) s w w' d d' k k' =
    BreaksOffOpened program count commands words w w' d d' k k'

-- how a run ends from a scene in which the file was just made: `created` is written first
abbrev pub MadeAs : Program → List WorkersCommand → Scene → Result Unit RunFault → MirrorState
    → (w w' : Option (List ℕ)) → (d' : Device) → (k' : ℕ) → Type 0
MadeAs program commands x (Ok u) s w w' d' k' =
    (told : Option (List ℕ)) × (t : WorkersState) × Appends w told created_line
    × RunsWorkers program commands x told (scene_of t d' k') w' × (s ≡ Awake)
MadeAs program commands x (Err fault.Write) s w w' d' k' =
    (AppendsPart w w' created_line × (d' ≡ x.device) × (k' ≡ x.steps))
    ⊎ ((told : Option (List ℕ)) × (t : WorkersState) × Appends w told created_line
    × BreaksOff program commands x told (scene_of t d' k') w')
MadeAs program commands x (Err why) s w w' d' k' =
    (told : Option (List ℕ)) × (t : WorkersState) × Appends w told created_line
    × BreaksHeld why s program commands x told (scene_of t d' k') w'

-- The compartments are created in memory, and these are the words of all of them; or they couldn't
-- be, for this cause; or they are created, and there was no memory for the words.
abbrev pub CreatesAll : Program → (count : ℕ) → Result (WorkersState × List ℤ) MakeFault → Device
    → Device → Type 0
CreatesAll program count (Ok made) d d' =
    AreCreated program count d d' × (made.0 ≡ new_workers count)
    × (made.1 ≡ words_from (view d'.cache) 0 (8 * d'.lines))
CreatesAll program count (Err why) d d' =
    Unmade why program.image.parts.sizes program.digest count d d'
    ⊎ ((why ≡ make.NoMemory) × AreCreated program count d d')
