-- A process is killed while it runs workers on a file, or the power is lost. The next process opens
-- what is left of the file, with as many workers.
use Rattle.std.specs.Prelude.{ℕ, ◌*◌, ◌<◌, ◌≡◌, List, length, Option, ℤ}
use Rattle.std.specs.List.{AllByRecursion}
use Rattle.cache_model.specs.Cache.{Words}
use Rattle.pmem.specs.Device.{Device, memory_of}
use Rattle.file_pmem.specs.File.{FileLines, MayLeave}
use Rattle.file_pmem.specs.Mirror.{CoversCopies, IsBlankPast}
use Rattle.pool_layout.specs.Image.{image_words}
use Rattle.pool_layout.specs.Sizes.{pool_lines}
use Rattle.pool_workers.specs.Crew.{compartment}
use Rattle.cnvm_session.specs.declared.program.Program.{Program}
use Rattle.cnvm_session.specs.Pool.{sizes_of}
use Rattle.workers_script.specs.declared.command.WorkersCommand.{WorkersCommand}
use Rattle.workers_run.specs.WorkersRan.{RunsNew, BreaksOffNew, RunsOpened, BreaksOffOpened}
use Rattle.session_law.specs.Agrees.{Agrees}
use Rattle.session_law.specs.Holds.{HeldAs}
use Rattle.session_law.specs.Law.{super_words}
use Rattle.workers_source_law.specs.Law.{Instant, HasWordArgs, last_instant, RanNew, BrokeOffNew}
use Rattle.workers_source_law.specs.Law.{RanFrom, BrokeOffFrom}
use Rattle.workers_source_law.specs.States.{States}
use Rattle.workers_source_law.specs.Opened.{AreOpened, image_at, all_opened}

-- Whatever is left of a worker's compartment, the source knows of it what it knows of the worker.
-- Lines 0 and 1 of each compartment have the words of its own first image.
abbrev pub AllHeld : Program → (firsts : ℕ → Words) → Instant → Type 0
AllHeld program firsts x =
    (worker : ℕ) → worker < length x.scene.workers.tasks →
    HeldAs (x.states worker).standing program (firsts worker)
    (compartment program.image worker x.scene.device) (x.states worker)

-- new compartments have these words there
abbrev pub new_firsts : Program → ℕ → Words
new_firsts program worker = super_words program

-- The words are what a crash may leave of the file that covers the device of all workers.
pub record AreLeft (program : Program) (x : Instant) (f : FileLines) (words : List ℤ) : Type 0 where
  pub lines : x.scene.device.lines ≡ pool_lines (sizes_of program) * length x.scene.workers.tasks
  pub past : IsBlankPast (memory_of x.scene.device)
  pub covers : CoversCopies f (memory_of x.scene.device)
  pub left : MayLeave f x.scene.device.lines (image_words words)
  pub whole : length words ≡ 8 * x.scene.device.lines

-- So it is at the end of each run on new compartments, however it ends.
abbrev pub NewHeldLaw : Type 0
NewHeldLaw =
    (program : Program) (count : ℕ) (commands : List WorkersCommand) (w w' : Option (List ℕ))
    (d d' : Device) (k k' : ℕ) → Agrees program → AllByRecursion HasWordArgs commands →
    RunsNew program count commands w w' d d' k k'
    → (ran : RanNew program count commands w w' d d' k k')
    × AllHeld program (new_firsts program) (last_instant ran.1 d' k' ran.2)

abbrev pub NewHeldPartLaw : Type 0
NewHeldPartLaw =
    (program : Program) (count : ℕ) (commands : List WorkersCommand) (w w' : Option (List ℕ))
    (d d' : Device) (k k' : ℕ) → Agrees program → AllByRecursion HasWordArgs commands →
    BreaksOffNew program count commands w w' d d' k k'
    → (ran : BrokeOffNew program count commands w w' d d' k k')
    × AllHeld program (new_firsts program) (last_instant ran.1 d' k' ran.2)

-- A run from these states, at whose end so it is too.
abbrev pub RanHeld : Program → (count : ℕ) → (firsts : ℕ → Words) → (from : States)
    → List WorkersCommand → List ℤ → (w w' : Option (List ℕ)) → (d d' : Device) → (k k' : ℕ)
    → Type 0
RanHeld program count firsts from commands words w w' d d' k k' =
    (ran : RanFrom program count from commands words w w' d d' k k')
    × AllHeld program firsts (last_instant ran.3 d' k' ran.4)

-- and one that breaks off
abbrev pub BrokeOffHeld : Program → (count : ℕ) → (firsts : ℕ → Words) → (from : States)
    → List WorkersCommand → List ℤ → (w w' : Option (List ℕ)) → (d d' : Device) → (k k' : ℕ)
    → Type 0
BrokeOffHeld program count firsts from commands words w w' d d' k k' =
    (broke : BrokeOffFrom program count from commands words w w' d d' k k')
    × AllHeld program firsts (last_instant broke.1 d' k' broke.2)

-- So it is at the end of each run on images that are opened.
abbrev pub OpenedHeldLaw : Type 0
OpenedHeldLaw =
    (program : Program) (count : ℕ) (commands : List WorkersCommand) (words : List ℤ)
    (w w' : Option (List ℕ)) (d d' : Device) (k k' : ℕ) →
    Agrees program → AllByRecursion HasWordArgs commands → AreOpened program count words →
    RunsOpened program count commands words w w' d d' k k'
    → RanHeld program count (image_at program words) (all_opened program words) commands words w w'
    d d' k k'

abbrev pub OpenedHeldPartLaw : Type 0
OpenedHeldPartLaw =
    (program : Program) (count : ℕ) (commands : List WorkersCommand) (words : List ℤ)
    (w w' : Option (List ℕ)) (d d' : Device) (k k' : ℕ) →
    Agrees program → AllByRecursion HasWordArgs commands → AreOpened program count words →
    BreaksOffOpened program count commands words w w' d d' k k'
    → BrokeOffHeld program count (image_at program words) (all_opened program words) commands words
    w w' d d' k k'

-- What the next process does with the words that are left is a run from what the source knew of the
-- workers: each recovery is answered as after a power cut which left that image of the compartment.
-- So it goes on, over any number of processes.
abbrev pub ReopenedLaw : Type 0
ReopenedLaw =
    (program : Program) (firsts : ℕ → Words) (x : Instant) (f : FileLines)
    (commands : List WorkersCommand) (words : List ℤ) (w w' : Option (List ℕ)) (d d' : Device)
    (k k' : ℕ) →
    Agrees program → AllByRecursion HasWordArgs commands →
    AllHeld program firsts x → AreLeft program x f words →
    RunsOpened program (length x.scene.workers.tasks) commands words w w' d d' k k'
    → RanHeld program (length x.scene.workers.tasks) firsts x.states commands words w w' d d' k k'

-- and if it breaks off
abbrev pub ReopenedPartLaw : Type 0
ReopenedPartLaw =
    (program : Program) (firsts : ℕ → Words) (x : Instant) (f : FileLines)
    (commands : List WorkersCommand) (words : List ℤ) (w w' : Option (List ℕ)) (d d' : Device)
    (k k' : ℕ) →
    Agrees program → AllByRecursion HasWordArgs commands →
    AllHeld program firsts x → AreLeft program x f words →
    BreaksOffOpened program (length x.scene.workers.tasks) commands words w w' d d' k k'
    → BrokeOffHeld program (length x.scene.workers.tasks) firsts x.states commands words w w' d d'
    k k'
