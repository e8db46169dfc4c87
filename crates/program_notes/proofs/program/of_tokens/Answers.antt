use Rattle.program_notes.proofs.Refusals.{syntax_refused}
use Rattle.program_notes.proofs.program.of_tokens.Goals as goal

pub at_token-requires : goal.at_token-requires
at_token-requires c =
    syntax_refused _ _ _ c.requires (c.in-Err-Syntax.ensures.none _ c.in-Err-Syntax.field-0-is)
    (c.in-Err-Syntax.ensures.some _ c.in-Err-Syntax.field-0-is)
