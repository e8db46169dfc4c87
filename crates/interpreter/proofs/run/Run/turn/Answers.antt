use Rattle.std.proofs.Common.{◌∙◌}
use Rattle.c_tree.specs.StmtTree.{stmt_of}
use Rattle.interpreter.proofs.Resume.{turn-then}
use Rattle.interpreter.proofs.run.Run.turn.Goals as goal

pub returns-clause-does : goal.returns-clause-does
returns-clause-does c = λ t. c.in_ok-plan_condition.ensures t
    ∙ rw (c.in_ok-tick.ensures, c.in_ok-plan_stmt.ensures)
    (turn-then t c.tick.new.self (stmt_of c.args.stmt.now))
