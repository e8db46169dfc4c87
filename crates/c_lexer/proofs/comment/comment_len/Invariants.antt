-- Searching the remaining bytes gives the result of searching all of them.
use Rattle.std.proofs.Common.{◌≡◌, drop}
use Rattle.c_lexer.specs.Comments.{after_close, comment_len}
use Rattle.c_lexer.proofs.comment.comment_len.Given as goal

abbrev pub invariant-loop-at : goal.invariant-loop-at
invariant-loop-at l = after_close l.at (drop l.at l.left) ≡ comment_len l.left
