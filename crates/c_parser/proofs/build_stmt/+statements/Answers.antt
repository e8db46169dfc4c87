use Rattle.std.proofs.Common.{sym, ◌∙◌}
use Rattle.c_parser.proofs.FixesStmt.{led_stmt, stated_choice, stated_while, stated_do, stated_for}
use Rattle.c_parser.proofs.FixesStmt.{stated_plain, block_end}
use Rattle.c_parser.proofs.build_stmt.+statements.Goals as goal

pub block-returns-clause-fixes : goal.block-returns-clause-fixes
block-returns-clause-fixes t c =
    block_end _ _ _ _ _ c.each.invariant.leads (sym c.each-test.false ∙ c.goes_on.ensures.value)
    c.place_after.ensures.moves

pub statement-returns-in-If-clause-fixes : goal.statement-returns-in-If-clause-fixes
statement-returns-in-If-clause-fixes t c =
    led_stmt _ _ _ c.choice.ensures.fixes
    (stated_choice _ _ _ c.in-If.ensures.value c.place_after-in-If.ensures.moves)

pub statement-returns-in-While-clause-fixes : goal.statement-returns-in-While-clause-fixes
statement-returns-in-While-clause-fixes t c =
    led_stmt _ _ _ c.repeated.ensures.fixes
    (stated_while _ _ _ c.in-While.ensures.value c.place_after-in-While.ensures.moves)

pub statement-returns-in-Do-clause-fixes : goal.statement-returns-in-Do-clause-fixes
statement-returns-in-Do-clause-fixes t c =
    led_stmt _ _ _ c.repeated_after.ensures.fixes
    (stated_do _ _ _ c.in-Do.ensures.value c.place_after-in-Do.ensures.moves)

pub statement-returns-in-For-clause-fixes : goal.statement-returns-in-For-clause-fixes
statement-returns-in-For-clause-fixes t c =
    led_stmt _ _ _ c.counted.ensures.fixes
    (stated_for _ _ _ c.in-For.ensures.value c.place_after-in-For.ensures.moves)

pub statement-returns-in_default : goal.statement-returns-in_default
statement-returns-in_default t c = record {
  stays = c.plain.ensures.stays;
  fixes =
      led_stmt _ _ _ c.plain.ensures.fixes
      (stated_plain _ _ _ c.kind_at.ensures.value c.in_default.not-OpenBrace c.in_default.not-If
      c.in_default.not-While c.in_default.not-Do c.in_default.not-For);
  moves = c.plain.ensures.moves;
}
