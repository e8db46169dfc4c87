use Rattle.c_parser.proofs.FixesStmt.{simple_abort}
use Rattle.c_parser.proofs.build_stmt.simple.Goals as goal

pub returns-in-Abort-clause-fixes : goal.returns-in-Abort-clause-fixes
returns-in-Abort-clause-fixes c =
    simple_abort _ _ _ _ _ c.in-Abort.ensures.value c.place_after-next.ensures.moves
    c.place_after.ensures.moves c.place_after-in-Abort.ensures.moves
