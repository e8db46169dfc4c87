-- How a run of a script of workers ends.
use Rattle.std.specs.Prelude.{ℕ, List, Option, ◌≡◌, ◌⊎◌}
use Rattle.pmem.specs.Device.{Device}
use Rattle.cnvm_session.specs.declared.program.Program.{Program}
use Rattle.workers_script.specs.declared.command.WorkersCommand.{WorkersCommand}
use Rattle.workers_script.specs.WorkersGrammar.{workers_script_meaning}
use Rattle.workers_run.specs.WorkersRan.{Unbegun, RunsNew, BreaksOffNew}
use Rattle.cnvm_compile.specs.declared.asked.Asked.{Asked}
use Rattle.cnvm_compile.specs.declared.compiling.Compiled.{Compiled}
use Rattle.cnvm_compile.specs.Compilation.{IsCompiled}
use Rattle.cnvm_cli.specs.declared.refused.Refused.{Refused}
use Rattle.session_run.specs.declared.status.Status.{Status}
use Rattle.session_run.specs.AsStatus.{AsStatus, met}
use Rattle.cnvm_cli.specs.Run.{RefusedAs}
use Rattle.cnvm_cli.specs.Verdict.{OfBytes, SpellsIn, RefuseIn}
use Rattle.cnvm_cli.specs.WorkersMeant.{make_fault}

-- how the commands end on a new pool of compartments, by the status
abbrev pub WorkersRanAs : Program → (count : ℕ) → List WorkersCommand → Status
    → Option (List ℕ) → Option (List ℕ) → Device → Device → (k k' : ℕ) → Type 0
WorkersRanAs program count commands result w w' d d' k k' =
    AsStatus (λ why. Unbegun (make_fault why) program count w w' d d' k k')
    (BreaksOffNew program count commands w w' d d' k k')
    (met (RunsNew program count commands w w' d d' k k'))
    (BreaksOffNew program count commands w w' d d' k k') result

-- The program or the script is refused, this is reported, and nothing is run; or the script's
-- commands are run on a new pool of compartments, one for each worker.
abbrev pub WorkersEnds : Asked → (count : ℕ) → (program script : Option (List ℕ)) → Status
    → Option (List ℕ) → Option (List ℕ) → Device → Device → (k k' : ℕ) → Type 0
WorkersEnds asked count program script result w w' d d' k k' =
    ((why : Refused) × RefuseIn workers_script_meaning asked program script why
    × RefusedAs why result w w' × (d' ≡ d) × (k' ≡ k))
    ⊎ ((compiled : Compiled) × (commands : List WorkersCommand)
    × OfBytes program (λ text. IsCompiled asked text compiled)
    × OfBytes script (SpellsIn workers_script_meaning commands)
    × WorkersRanAs compiled.program count commands result w w' d d' k k')
