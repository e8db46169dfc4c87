-- The count of faults never falls while a command of a script of workers is done, and `device
-- fault` stands in its lines only if it rose.
use Rattle.std.specs.Prelude.{◌≡◌, ◌≤◌, ◌⊎◌, Bool, true, false, List, [], ◌∷◌, Option, ℕ}
use Rattle.pmem.specs.Device.{FaultsRose}
use Rattle.cnvm_session.specs.declared.answer.Answer.{Answer}
use Rattle.cnvm_session.specs.declared.answer.Answer.TheVariants as answer
use Rattle.cnvm_session.specs.declared.program.Program.{Program}
use Rattle.workers_script.specs.declared.command.WorkersCommand.{WorkersCommand}
use Rattle.workers_session.specs.declared.line.WorkersLine.{WorkersLine}
use Rattle.workers_session.specs.declared.line.WorkersLine.TheVariants as line
use Rattle.workers_session.specs.WorkersCommands.{Scene, WorkersCommanded}
use Rattle.workers_run.specs.WorkersRan.{RunsWorkers}

-- whether an answer, and whether a line, tells that the device failed
abbrev pub is_fault : Answer → Bool
is_fault answer.DeviceFault = true
is_fault _ = false

abbrev pub names_fault : WorkersLine → Bool
names_fault (line.Own worker a) = is_fault a
names_fault (line.Plain a) = is_fault a
names_fault _ = false

abbrev pub TellsFault : List WorkersLine → Type 0
TellsFault [] = ⊥
TellsFault (l ∷ lines) = (names_fault l ≡ true) ⊎ TellsFault lines

-- the count doesn't fall, and rises if these lines tell of a fault
abbrev pub BlamesRightly : Scene → List WorkersLine → Scene → Type 0
BlamesRightly x lines y =
    (x.device.faults ≤ y.device.faults)
    × (TellsFault lines → FaultsRose x.device.faults y.device.faults)

abbrev pub ToldFaultLaw : Type 0
ToldFaultLaw =
    (program : Program) (command : WorkersCommand) (x y : Scene) (lines : List WorkersLine) →
    WorkersCommanded program command x lines y → BlamesRightly x lines y

abbrev pub RunFaultLaw : Type 0
RunFaultLaw =
    (program : Program) (commands : List WorkersCommand) (x y : Scene) (w w' : Option (List ℕ)) →
    RunsWorkers program commands x w y w' → x.device.faults ≤ y.device.faults
