-- A run of a script of workers on a new pool of compartments, or on one that is opened: one chain
-- of commands. Each command is done, and its lines are written, before the next.
use Rattle.std.specs.Prelude.{ℕ, ℤ, ◌*◌, ◌≡◌, ◌⊎◌, List, [], ◌∷◌, ◌++◌, Option}
use Rattle.std.specs.Io.KnownBytes.{Appends, Keeps}
use Rattle.nvm_base.specs.Parts.{AppendsPart}
use Rattle.pmem.specs.Device.{Device, blanked}
use Rattle.pmem.specs.Played.{PlaysAll}
use Rattle.pool_layout.specs.Sizes.{pool_lines}
use Rattle.pool_workers.specs.declared.answer.MakeFault.{MakeFault}
use Rattle.pool_workers.specs.Making.{creations, Unmade}
use Rattle.cnvm_session.specs.declared.creating.StartFault.{StartFault}
use Rattle.cnvm_session.specs.declared.program.Program.{Program}
use Rattle.cnvm_session.specs.Opening.{opening_events}
use Rattle.cnvm_session.specs.Unmade.{IsUnmade}
use Rattle.workers_script.specs.declared.command.WorkersCommand.{WorkersCommand}
use Rattle.workers_session.specs.declared.line.WorkersLine.{WorkersLine}
use Rattle.workers_session.specs.LineText.{line_text}
use Rattle.workers_session.specs.WorkersState.{WorkersState, new_workers}
use Rattle.workers_session.specs.WorkersCommands.{Scene, scene_of, Resumes, WorkersCommanded}

-- the texts of lines, one after another
abbrev pub lines_text : List WorkersLine → List ℕ
lines_text [] = []
lines_text (line ∷ lines) = line_text line ++ lines_text lines

-- All commands are done, and all of their lines are written: from a scene and the bytes that the
-- sink shows to the scene and the bytes after them.
abbrev pub RunsWorkers : Program → List WorkersCommand → Scene → Option (List ℕ) → Scene
    → Option (List ℕ) → Type 0
RunsWorkers program [] x w y w' = (y ≡ x) × (w' ≡ w)
RunsWorkers program (command ∷ commands) x w y w' =
    (lines : List WorkersLine) × (z : Scene) × (w1 : Option (List ℕ))
    × WorkersCommanded program command x lines z
    × Appends w w1 (lines_text lines) × RunsWorkers program commands z w1 y w'

-- The first commands are done, and their lines are written; of the lines of the last of these a
-- part is written, perhaps none.
abbrev pub BreaksOff : Program → List WorkersCommand → Scene → Option (List ℕ) → Scene
    → Option (List ℕ) → Type 0
BreaksOff program [] x w y w' = ⊥
BreaksOff program (command ∷ commands) x w y w' =
    ((lines : List WorkersLine) × WorkersCommanded program command x lines y
    × AppendsPart w w' (lines_text lines))
    ⊎ ((lines : List WorkersLine) × (z : Scene) × (w1 : Option (List ℕ))
    × WorkersCommanded program command x lines z
    × Appends w w1 (lines_text lines) × BreaksOff program commands z w1 y w')

-- The compartments are created: the lines are blank, and all events that create the pools are done.
abbrev pub AreCreated : Program → (count : ℕ) → (d b : Device) → Type 0
AreCreated program count d b =
    PlaysAll (blanked (pool_lines program.image.parts.sizes * count) d)
    (creations program.image.parts.sizes program.digest 0 count) b

-- The compartments couldn't be created for this cause: nothing is written, and no step is taken.
abbrev pub Unbegun : MakeFault → Program → (count : ℕ) → (w w' : Option (List ℕ)) → (d d' : Device)
    → (k k' : ℕ) → Type 0
Unbegun why program count w w' d d' k k' =
    Keeps w w' × (k' ≡ k)
    × Unmade why program.image.parts.sizes program.digest count d d'

-- The compartments are created, and all commands are run on them.
abbrev pub RunsNew : Program → (count : ℕ) → List WorkersCommand → (w w' : Option (List ℕ))
    → (d d' : Device) → (k k' : ℕ) → Type 0
RunsNew program count commands w w' d d' k k' =
    (b : Device) × (s : WorkersState) × AreCreated program count d b
    × RunsWorkers program commands (scene_of (new_workers count) b k) w (scene_of s d' k') w'

-- The compartments are created, and the run on them breaks off.
abbrev pub BreaksOffNew : Program → (count : ℕ) → List WorkersCommand → (w w' : Option (List ℕ))
    → (d d' : Device) → (k k' : ℕ) → Type 0
BreaksOffNew program count commands w w' d d' k k' =
    (b : Device) × (s : WorkersState) × AreCreated program count d b
    × BreaksOff program commands (scene_of (new_workers count) b k) w (scene_of s d' k') w'

-- The images of all compartments are written on blank lines, one after another, and the pools in
-- them are opened: each is recovered, with a line.
pub record OpensWorkers (program : Program) (count : ℕ) (words : List ℤ) (d : Device) (k : ℕ)
    (lines : List WorkersLine) (y : Scene) : Type 0 where
  pub opened : Device
  pub written : PlaysAll (blanked (pool_lines program.image.parts.sizes * count) d)
      (opening_events (pool_lines program.image.parts.sizes * count) words) opened
  pub resumes : Resumes program count opened k lines y

-- The compartments couldn't be opened for this cause: nothing is written, no step is taken, and of
-- the events that write the images some first ones may be done.
abbrev pub UnopenedWorkers : StartFault → Program → (count : ℕ) → List ℤ
    → (w w' : Option (List ℕ)) → (d d' : Device) → (k k' : ℕ) → Type 0
UnopenedWorkers why program count words w w' d d' k k' =
    Keeps w w' × (k' ≡ k)
    × IsUnmade why (pool_lines program.image.parts.sizes * count)
    (opening_events (pool_lines program.image.parts.sizes * count) words) d d'

-- The compartments are opened, the lines of their recoveries are written, and all commands are run
-- on them.
abbrev pub RunsOpened : Program → (count : ℕ) → List WorkersCommand → List ℤ
    → (w w' : Option (List ℕ)) → (d d' : Device) → (k k' : ℕ) → Type 0
RunsOpened program count commands words w w' d d' k k' =
    (lines : List WorkersLine) × (x : Scene) × (w1 : Option (List ℕ)) × (s : WorkersState)
    × OpensWorkers program count words d k lines x × Appends w w1 (lines_text lines)
    × RunsWorkers program commands x w1 (scene_of s d' k') w'

-- The compartments are opened, and of the lines of their recoveries a part is written; or all of
-- them are, and the run breaks off.
abbrev pub BreaksOffOpened : Program → (count : ℕ) → List WorkersCommand → List ℤ
    → (w w' : Option (List ℕ)) → (d d' : Device) → (k k' : ℕ) → Type 0
BreaksOffOpened program count commands words w w' d d' k k' =
    ((lines : List WorkersLine) × (s : WorkersState)
    × OpensWorkers program count words d k lines (scene_of s d' k')
    × AppendsPart w w' (lines_text lines))
    ⊎ ((lines : List WorkersLine) × (x : Scene) × (w1 : Option (List ℕ)) × (s : WorkersState)
    × OpensWorkers program count words d k lines x × Appends w w1 (lines_text lines)
    × BreaksOff program commands x w1 (scene_of s d' k') w')
