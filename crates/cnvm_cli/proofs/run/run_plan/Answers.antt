use Rattle.std.proofs.Common.{refl}
use Rattle.session_run.proofs.Running.{keeps_same}
use Rattle.cnvm_cli.proofs.run.run_plan.Goals as goal

pub returns-in-Run-clause-ends : goal.returns-in-Run-clause-ends
returns-in-Run-clause-ends g c =
    rw (
      c.in-Run.is,
      ← c.asked_by-asked.ensures,
      ← c.is_some-opens.ensures,
      ← c.is_some-saves.ensures,
    ) (c.run.result, c.strict_status.ensures.value, c.run.ensures.ends)

pub returns-in-Serve-clause-ends : goal.returns-in-Serve-clause-ends
returns-in-Serve-clause-ends g c =
    rw (c.in-Serve.is, ← c.asked_by-asked-in-Serve.ensures)
    (c.serve_memory.ensures.ends, c.serve_memory.ensures.image)

pub returns-in-ServePool-clause-pool : goal.returns-in-ServePool-clause-pool
returns-in-ServePool-clause-pool g c =
    rw (
      c.in-ServePool.is,
      ← c.asked_by-asked-in-ServePool.ensures,
      ← c.is_some-moves-in-ServePool.ensures,
    ) c.serve_file.ensures.ends

pub returns-in-Storm-clause-ends : goal.returns-in-Storm-clause-ends
returns-in-Storm-clause-ends g c =
    rw (c.in-Storm.is, ← c.asked_by-asked-in-Storm.ensures)
    (c.run_storm.ensures.ends, c.run_storm.ensures.image)

pub returns-in-Workers-clause-ends : goal.returns-in-Workers-clause-ends
returns-in-Workers-clause-ends g c =
    rw (c.in-Workers.is, ← c.asked_by-asked-in-Workers.ensures)
    (c.run_script.ensures.ends, c.run_script.ensures.image)

pub returns-in-WorkersPool-clause-pool : goal.returns-in-WorkersPool-clause-pool
returns-in-WorkersPool-clause-pool g c =
    rw (c.in-WorkersPool.is, ← c.asked_by-asked-in-WorkersPool.ensures)
    c.run_crew_file.ensures.ends

pub returns-in-Emit-clause-ends : goal.returns-in-Emit-clause-ends
returns-in-Emit-clause-ends g c =
    rw (c.in-Emit.is, ← c.asked_by-asked-in-Emit.ensures, ← c.as_str.ensures)
    (c.emit.ensures.ends, (keeps_same _, refl, refl))

pub returns-in-RunPool-clause-pool : goal.returns-in-RunPool-clause-pool
returns-in-RunPool-clause-pool g c =
    rw (
      c.in-RunPool.is,
      ← c.asked_by-asked-in-RunPool.ensures,
      ← c.is_some-moves.ensures,
    ) (c.run_file-ran.result, c.strict_status-in-RunPool.ensures.value, c.run_file-ran.ensures.ends)
