use Rattle.program_notes.proofs.Refusals.{placed_first}
use Rattle.program_notes.proofs.program.at_rule.Goals as goal

pub returns : goal.returns
returns c = record {
  tells = placed_first _ _ _ _ _ _ _ c.requires c.in_ok-message.ensures.begins
      c.in_ok-push_str.ensures.bytes;
}
