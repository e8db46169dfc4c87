-- The code's table is the table of the rules.
use Rattle.c_lexer.specs.Words.{word_spelled}
use Rattle.c_lexer.proofs.word.profile_word.Goals as goal

pub returns : goal.returns
unfolding word_spelled
returns c = rw c.as_slice.ensures at c.first_spelled.ensures
