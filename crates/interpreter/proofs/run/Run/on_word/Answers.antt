use Rattle.interpreter.proofs.run.Run.on_word.Goals as goal

pub returns-in-Binary-clause-does : goal.returns-in-Binary-clause-does
returns-in-Binary-clause-does c = λ t. rw c.in-Binary.is (c.binary.ensures.does t)
