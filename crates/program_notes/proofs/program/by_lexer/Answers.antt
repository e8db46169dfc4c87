use Rattle.program_notes.proofs.Refusals.{byte_refused, number_refused, comment_refused}
use Rattle.program_notes.proofs.program.by_lexer.Goals as goal

pub at-requires : goal.at-requires
at-requires c = byte_refused _ _ _ _ c.requires c.in-BadByte.is

pub at-requires-in-BadNumber : goal.at-requires-in-BadNumber
at-requires-in-BadNumber c = number_refused _ _ _ _ c.requires c.in-BadNumber.is

pub at-requires-in-OpenComment : goal.at-requires-in-OpenComment
at-requires-in-OpenComment c = comment_refused _ _ _ _ c.requires c.in-OpenComment.is
