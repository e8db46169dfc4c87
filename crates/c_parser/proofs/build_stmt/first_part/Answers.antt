use Rattle.c_parser.proofs.FixesStmt.{first_part_simply}
use Rattle.c_parser.proofs.build_stmt.first_part.Goals as goal

pub returns-in_ok-one-in_default-clause-fixes : goal.returns-in_ok-one-in_default-clause-fixes
returns-in_ok-one-in_default-clause-fixes c =
    first_part_simply _ _ _ _ _ c.kind_at.ensures.value c.in_default.not-Semicolon
    c.in_default.not-Int c.in_default.not-Struct c.in_ok-one-in_default.ensures.fixes
