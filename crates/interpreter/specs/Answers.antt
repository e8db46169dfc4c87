-- The answer of a call: the transaction's outcome, or want of memory, of which nothing is promised.
use Rattle.std.specs.Prelude.{◌≡◌}
use Rattle.interpreter.specs.declared.answer.PlainAnswer.{PlainAnswer}
use Rattle.interpreter.specs.declared.answer.PlainAnswer.TheVariants as answer
use Rattle.c_meaning.specs.Transaction.{Outcome, Done, Trap}

abbrev pub PlainAnswers : PlainAnswer → Outcome → Type 0
PlainAnswers (answer.Done pool value) out = out ≡ Done pool value
PlainAnswers (answer.Trap kind) out = out ≡ Trap kind
PlainAnswers answer.NoMemory out = Unit
