-- A run of a script of workers means what its program's source says.
use Rattle.std.proofs.Common.{ℕ, List, Option, Result, Ok, Err, OnOk, IsErrOf, ◌⊎◌, inl, inr, refl}
use Rattle.std.specs.List.{AllByRecursion}
use Rattle.pmem.specs.Device.{Device}
use Rattle.cnvm_session.specs.declared.program.Program.{Program}
use Rattle.workers_script.specs.declared.command.WorkersCommand.{WorkersCommand}
use Rattle.workers_script.specs.WorkersGrammar.{workers_script_meaning}
use Rattle.pool_workers.specs.declared.answer.MakeFault.TheVariants as make
use Rattle.workers_run.specs.declared.fault.RunFault.{RunFault}
use Rattle.workers_run.specs.declared.fault.RunFault.TheVariants as fault
use Rattle.workers_run.specs.WorkersRan.{Unbegun, RunsNew, BreaksOffNew}
use Rattle.session_law.specs.Agrees.{Agrees}
use Rattle.workers_source_law.specs.Law.{HasWordArgs}
use Rattle.workers_source_law.proofs.Runs.{workers_run, workers_part}
use Rattle.workers_source_law.proofs.Scripts.{word_commands}
use Rattle.cnvm_compile.specs.declared.asked.Asked.{Asked}
use Rattle.cnvm_compile.specs.Compilation.{IsCompiled}
use Rattle.session_run.specs.declared.status.Status.{Status}
use Rattle.cnvm_cli.specs.Verdict.{SpellsIn}
use Rattle.cnvm_cli.specs.inside.WorkersEnds.{WorkersRanAs, WorkersEnds}
use Rattle.cnvm_cli.specs.WorkersMeant.{make_fault, run_status, WorkersMeantAs, WorkersMeant}
use Rattle.cnvm_cli.proofs.texts.Sources.{known_bytes}
use Rattle.cnvm_cli.proofs.Statuses.{status_map, met_map}

-- how a run ends, by its status
pub ran_by : (program : Program) (count : ℕ) (commands : List WorkersCommand)
    (w w' : Option (List ℕ)) (d d' : Device) (k k' : ℕ) (r : Result Unit RunFault)
    → OnOk r (RunsNew program count commands w w' d d' k k')
    → (IsErrOf r fault.Write → BreaksOffNew program count commands w w' d d' k k')
    → (IsErrOf r fault.Device → Unbegun make.Failed program count w w' d d' k k')
    → (IsErrOf r fault.NoMemory → Unbegun make.NoMemory program count w w' d d' k k'
    ⊎ BreaksOffNew program count commands w w' d d' k k')
    → WorkersRanAs program count commands (run_status r) w w' d d' k k'
ran_by program count commands w w' d d' k k' (Ok u) all part device memory = all
ran_by program count commands w w' d d' k k' (Err fault.Write) all part device memory = part refl
ran_by program count commands w w' d d' k k' (Err fault.Device) all part device memory =
    device refl
ran_by program count commands w w' d d' k k' (Err fault.NoMemory) all part device memory =
    memory refl

ran_meant : (program : Program) → Agrees program → (count : ℕ) (commands : List WorkersCommand)
    → AllByRecursion HasWordArgs commands → (result : Status) (w w' : Option (List ℕ))
    (d d' : Device) (k k' : ℕ) → WorkersRanAs program count commands result w w' d d' k k'
    → WorkersMeantAs program count commands result w w' d d' k k'
ran_meant program agrees count commands words result w w' d d' k k' ran =
    status_map (λ why. Unbegun (make_fault why) program count w w' d d' k k')
    (workers_part program count commands w w' d d' k k' agrees words)
    (met_map (workers_run program count commands w w' d d' k k' agrees words))
    (workers_part program count commands w w' d d' k k' agrees words) result ran

pub workers_meant : (asked : Asked) (count : ℕ) (program script : Option (List ℕ))
    (result : Status) (w w' : Option (List ℕ)) (d d' : Device) (k k' : ℕ)
    → WorkersEnds asked count program script result w w' d d' k k'
    → WorkersMeant asked count program script result w w' d d' k k'
workers_meant asked count program script result w w' d d' k k' (inl refused) = inl refused
workers_meant asked count program script result w w' d d' k k' (inr ran) =
    let from = known_bytes program (λ text. IsCompiled asked text ran.0) ran.2 in
    let has = known_bytes script (SpellsIn workers_script_meaning ran.1) ran.3 in
    inr (
      ran.0,
      ran.1,
      ran.2,
      ran.3,
      ran_meant ran.0.program from.1.agrees count ran.1 (word_commands has.0 ran.1 has.1.1)
          result w w' d d' k k' ran.4,
    )
