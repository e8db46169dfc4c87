use Rattle.program_notes.proofs.Refusals.{accepted, rule_refused}
use Rattle.program_notes.proofs.program.of_tree.Goals as goal

pub of_rule-requires : goal.of_rule-requires
of_rule-requires c = rule_refused _ _ _ _ c.requires c.in-Err.ensures.refused

pub returns-in-Ok : goal.returns-in-Ok
returns-in-Ok c = record {
  tells = accepted _ _ _ _ c.requires c.in-Ok.ensures.kept;
}
