-- The code's table is the table of the rules.
use Rattle.std.proofs.Common.{sym, subst}
use Rattle.c_lexer.specs.Marks.{mark_at}
use Rattle.c_lexer.proofs.Marks.{HasWidth, mark_width}
use Rattle.c_lexer.proofs.mark.longest_mark.Goals as goal

pub returns-clause-mark : goal.returns-clause-mark
unfolding mark_at
returns-clause-mark c = rw c.as_slice.ensures at c.first_fit.ensures.fit

pub returns-clause-some : goal.returns-clause-some
returns-clause-some c = subst HasWidth (sym (returns-clause-mark c)) (mark_width c.args.left.now)
