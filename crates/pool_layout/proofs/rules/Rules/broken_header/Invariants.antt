-- No word before this slot breaks a rule.
use Rattle.pool_layout.specs.Bytes.{word_in}
use Rattle.pool_layout.specs.inside.Content.{KeepsToSlot}
use Rattle.pool_layout.proofs.rules.Rules.broken_header.Given as goal

abbrev pub invariant-loop-slot : goal.invariant-loop-slot
invariant-loop-slot l = KeepsToSlot l.self (word_in l.bytes) l.slot
