use Rattle.std.proofs.Common.{◌∙◌, sym}
use Rattle.program_notes.proofs.Refusals.{constant_refused}
use Rattle.program_notes.proofs.program.at_constant.Goals as goal

pub at-requires : goal.at-requires
at-requires c =
    constant_refused _ _ _ c.requires (sym c.constant_start.ensures ∙ c.in-Some.is)
