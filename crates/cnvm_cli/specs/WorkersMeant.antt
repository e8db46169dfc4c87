-- What a run of a script of workers means by the source of its program.
use Rattle.std.specs.Prelude.{ℕ, List, Option, Result, Ok, Err, ◌≡◌, ◌⊎◌}
use Rattle.pmem.specs.Device.{Device}
use Rattle.pool_workers.specs.declared.answer.MakeFault.{MakeFault}
use Rattle.pool_workers.specs.declared.answer.MakeFault.TheVariants as make
use Rattle.cnvm_session.specs.declared.creating.StartFault.{StartFault}
use Rattle.cnvm_session.specs.declared.creating.StartFault.TheVariants as start
use Rattle.cnvm_session.specs.declared.program.Program.{Program}
use Rattle.workers_script.specs.declared.command.WorkersCommand.{WorkersCommand}
use Rattle.workers_script.specs.WorkersGrammar.{workers_script_meaning}
use Rattle.workers_run.specs.declared.fault.RunFault.{RunFault}
use Rattle.workers_run.specs.declared.fault.RunFault.TheVariants as fault
use Rattle.workers_run.specs.WorkersRan.{Unbegun}
use Rattle.workers_source_law.specs.Law.{RanNew, BrokeOffNew}
use Rattle.cnvm_compile.specs.declared.asked.Asked.{Asked}
use Rattle.cnvm_compile.specs.declared.compiling.Compiled.{Compiled}
use Rattle.cnvm_compile.specs.Compilation.{IsCompiled}
use Rattle.cnvm_cli.specs.declared.refused.Refused.{Refused}
use Rattle.session_run.specs.declared.status.Status.{Status}
use Rattle.session_run.specs.declared.status.Status.TheVariants as status
use Rattle.session_run.specs.AsStatus.{AsStatus, met}
use Rattle.cnvm_cli.specs.Run.{RefusedAs}
use Rattle.cnvm_cli.specs.Verdict.{OfBytes, SpellsIn, RefuseIn}

-- the same cause, of a pool of compartments
abbrev pub make_fault : StartFault → MakeFault
make_fault start.Failed = make.Failed
make_fault start.NoMemory = make.NoMemory

-- the status of a run of workers
abbrev pub run_status : Result Unit RunFault → Status
run_status (Ok u) = status.Done
run_status (Err fault.Device) = status.DeviceFault
run_status (Err fault.NoMemory) = status.NoMemory
run_status (Err fault.Write) = status.WriteFault

-- what the commands mean on a new pool of compartments, by the status
abbrev pub WorkersMeantAs : Program → (count : ℕ) → List WorkersCommand → Status
    → Option (List ℕ) → Option (List ℕ) → Device → Device → (k k' : ℕ) → Type 0
WorkersMeantAs program count commands result w w' d d' k k' =
    AsStatus (λ why. Unbegun (make_fault why) program count w w' d d' k k')
    (BrokeOffNew program count commands w w' d d' k k')
    (met (RanNew program count commands w w' d d' k k'))
    (BrokeOffNew program count commands w w' d d' k k') result

-- The program or the script is refused, this is reported, and nothing is run; or the script's
-- commands are run on a new pool of compartments, each as the source of the compiled program says
-- of its worker's own compartment.
abbrev pub WorkersMeant : Asked → (count : ℕ) → (program script : Option (List ℕ)) → Status
    → Option (List ℕ) → Option (List ℕ) → Device → Device → (k k' : ℕ) → Type 0
WorkersMeant asked count program script result w w' d d' k k' =
    ((why : Refused) × RefuseIn workers_script_meaning asked program script why
    × RefusedAs why result w w' × (d' ≡ d) × (k' ≡ k))
    ⊎ ((compiled : Compiled) × (commands : List WorkersCommand)
    × OfBytes program (λ text. IsCompiled asked text compiled)
    × OfBytes script (SpellsIn workers_script_meaning commands)
    × WorkersMeantAs compiled.program count commands result w w' d d' k k')
