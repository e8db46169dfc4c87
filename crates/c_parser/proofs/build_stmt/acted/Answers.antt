use Rattle.std.proofs.Common.{◌∙◌, arith}
use Rattle.c_parser.proofs.FixesStmt.{acted_assign, acted_call}
use Rattle.c_parser.proofs.build_stmt.acted.Goals as goal

pub returns-in_ok-value-in-Assign-clause-fixes : goal.returns-in_ok-value-in-Assign-clause-fixes
returns-in_ok-value-in-Assign-clause-fixes c =
    acted_assign _ _ _ _ _ _ _ c.in-Assign.ensures.value c.place_after.ensures.moves
    c.in_ok-value-in-Assign.ensures.fixes

pub returns-in_default : goal.returns-in_default
returns-in_default c = record {
  stays = omega arith;
  fixes =
      acted_call _ _ _ _ (λ o h. c.in_default.not-Assign o (c.kind_at.ensures.value ∙ h))
      (λ o h. c.in_default.not-Step o (c.kind_at.ensures.value ∙ h)) c.call_alone.ensures;
}
