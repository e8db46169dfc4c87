use Rattle.std.proofs.Common.{rules}
use Rattle.c_types.specs.Views.{tables_in}
use Rattle.interpreter.proofs.run.Run.step.Goals as goal

pub returns-in_err-on_word-in-Word-clause-does : goal.returns-in_err-on_word-in-Word-clause-does
returns-in_err-on_word-in-Word-clause-does c = let does =
    c.in_err-on_word-in-Word.ensures.does (tables_in c.args.program.now) in search rules

pub returns-in_ok-sides-in-Sides-clause-does : goal.returns-in_ok-sides-in-Sides-clause-does
returns-in_ok-sides-in-Sides-clause-does c =
    rw c.in-Sides.is (c.in_ok-sides-in-Sides.ensures (tables_in c.args.program.now))
