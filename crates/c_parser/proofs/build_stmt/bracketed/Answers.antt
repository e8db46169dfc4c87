use Rattle.c_parser.proofs.FixesStmt.{bracketed_inner}
use Rattle.c_parser.proofs.build_stmt.bracketed.Goals as goal

pub returns-clause-fixes : goal.returns-clause-fixes
returns-clause-fixes c = bracketed_inner _ _ _ _ _ _ c.place_after.ensures.moves
    c.in_ok-inner.ensures.fixes c.place_after-2.ensures.moves
