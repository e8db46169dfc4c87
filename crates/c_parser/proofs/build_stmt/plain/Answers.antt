use Rattle.std.proofs.Common.{arith}
use Rattle.c_parser.proofs.FixesStmt.{nothing_plain, break_plain, continue_plain, simple_is_plain}
use Rattle.c_parser.proofs.build_stmt.plain.Goals as goal

pub returns-in-Semicolon-clause-fixes : goal.returns-in-Semicolon-clause-fixes
returns-in-Semicolon-clause-fixes c =
    nothing_plain _ _ _ c.in-Semicolon.ensures.value c.place_after-next.ensures.moves

pub returns-in-Break-clause-fixes : goal.returns-in-Break-clause-fixes
returns-in-Break-clause-fixes c =
    break_plain _ _ _ _ c.in-Break.ensures.value c.place_after-next.ensures.moves
    c.place_after-in-Break.ensures.moves

pub returns-in-Continue-clause-fixes : goal.returns-in-Continue-clause-fixes
returns-in-Continue-clause-fixes c =
    continue_plain _ _ _ _ c.in-Continue.ensures.value c.place_after-next.ensures.moves
    c.place_after-in-Continue.ensures.moves

pub returns-in_ok-one-in_default : goal.returns-in_ok-one-in_default
returns-in_ok-one-in_default c = record {
  stays = omega (arith, c.in_ok-one-in_default.ensures.stays, c.beyond.ensures.stays);
  fixes =
      simple_is_plain _ _ _ _ _ _ _ c.kind_at.ensures.value c.in_default.not-Semicolon
      c.in_default.not-Int c.in_default.not-Struct c.in_default.not-Break
      c.in_default.not-Continue c.in_default.not-Return c.place_after-next.ensures.moves
      c.in_ok-one-in_default.ensures.stays c.in_ok-one-in_default.ensures.fixes
      c.beyond.ensures.moves;
  moves = λ inside. omega (arith, c.beyond.ensures.least, c.place_after-next.ensures.moves inside);
}
