-- The run is a text, since it is ASCII.
use Rattle.c_lexer.proofs.Runs.{run_utf8}
use Rattle.c_lexer.proofs.piece.word_piece.Goals as goal

pub word_or_name-requires : goal.word_or_name-requires
word_or_name-requires c = rw c.run_len-width.ensures.width (run_utf8 c.args.left.now)
