-- How a run of a script of workers ends on the compartments of a file, from what its parts promise.
use Rattle.std.proofs.Common.{◌≡◌, ◌*◌, ℕ, List, Option, Result, ℤ, inr, subst}
use Rattle.pmem.specs.Device.{Device}
use Rattle.pool_layout.specs.Sizes.{pool_lines}
use Rattle.file_pmem.specs.File.{FileLines, HoldsNewest}
use Rattle.cnvm_session.specs.declared.program.Program.{Program}
use Rattle.cnvm_session.specs.Pool.{sizes_of}
use Rattle.session_run.specs.declared.status.Status.{Status}
use Rattle.workers_script.specs.declared.command.WorkersCommand.{WorkersCommand}
use Rattle.workers_session.specs.WorkersState.{WorkersState, new_workers}
use Rattle.workers_session.specs.WorkersCommands.{scene_of}
use Rattle.workers_run.specs.declared.fault.RunFault.{RunFault}
use Rattle.workers_run.specs.WorkersRan.{AreCreated}
use Rattle.workers_run.specs.WorkersHeld.{HeldAs, MadeAs}
use Rattle.cnvm_cli.specs.CrewOpened.{last_version}
use Rattle.cnvm_cli.specs.PoolSide.{PoolSide}
use Rattle.cnvm_cli.specs.WorkersMeant.{run_status}
use Rattle.cnvm_cli.specs.inside.CrewEnds.{RunsOnCrew, RunsNewCrew, CrewMissingEnds, CrewWordsEnd}
use Rattle.cnvm_cli.proofs.Taking.{runs_held}

module _ (program : Program) (count : ℕ) (own commands : List WorkersCommand)
    (r : Result Unit RunFault) (result : Status) (before after : PoolSide)
    (status : result ≡ run_status r) (same : own ≡ commands) where
  -- on new compartments whose file was made
  pub new_by : (session : WorkersState) (b : Device) → AreCreated program count before.held.device b
      → session ≡ new_workers count
      → MadeAs program own (scene_of session b before.steps) r after.held.state before.out after.out
      after.held.device after.steps
      → CrewMissingEnds program count commands result before after
  new_by session b created is made =
      let ran : RunsNewCrew program count commands result before after b = (
        r,
        status,
        subst
            (λ (s : WorkersState). MadeAs program commands (scene_of s b before.steps) r
            after.held.state before.out after.out after.held.device after.steps)
            is
            (subst
            (λ (cs : List WorkersCommand). MadeAs program cs (scene_of session b before.steps) r
            after.held.state before.out after.out after.held.device after.steps) same made),
      )
      in
      inr (inr (b, created, ran))

  -- on the compartments of a file, which holds these words
  pub held_by_words : (shown : Option FileLines) (lines : ℕ) (words held : List ℤ)
      → held ≡ words → lines ≡ pool_lines (sizes_of program) * count
      → HoldsNewest shown lines held
      → HeldAs program count own held r after.held.state before.out after.out before.held.device
      after.held.device before.steps after.steps
      → CrewWordsEnd program count commands words shown result before after
  held_by_words shown lines words held equal many newest ran =
      let ends : RunsOnCrew program count commands result before after held = (
        r,
        status,
        subst
            (λ (cs : List WorkersCommand). HeldAs program count cs held r after.held.state
            before.out after.out before.held.device after.held.device before.steps after.steps)
            same ran,
      )
      in
      inr (runs_held (RunsOnCrew program count commands result before after)
      (pool_lines (sizes_of program) * count) (last_version program count) shown result before after
      lines held words many newest equal ends)
