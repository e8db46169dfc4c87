use Rattle.std.proofs.Common.{[]}
use Rattle.session_run.proofs.Holding.{held_broken}
use Rattle.session_run.proofs.held.open_held.Goals as goal

pub returns-in-Err-clause-ended : goal.returns-in-Err-clause-ended
returns-in-Err-clause-ended g c =
    rw (c.status_of.ensures)
    (held_broken c.args.program.now [] c.args.words.now c.start_held.new.dev.link.state _ _ _ _ _ _
    c.in-Ok.started.1 c.in-Ok.started.0 c.in-Err.why c.in-Ok.ensures.opens c.in-Err.ensures.broken)
