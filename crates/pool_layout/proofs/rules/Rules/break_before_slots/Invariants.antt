-- No word so far breaks a rule.
use Rattle.pool_layout.specs.Bytes.{word_in}
use Rattle.pool_layout.specs.Content.{KeepsBelow}
use Rattle.pool_layout.proofs.rules.Rules.break_before_slots.Given as goal

abbrev pub invariant-loop-word : goal.invariant-loop-word
invariant-loop-word l = KeepsBelow l.self (word_in l.bytes) l.word
