use Rattle.std.proofs.Common.{arith}
use Rattle.pool_layout.proofs.rules.Rules.break_before_slots.Goals as goal

pub returns-clause-kept : goal.returns-clause-kept
returns-clause-kept c = λ q inside less.
    c.loop-word.invariant q inside
    (omega (
      arith,
      less,
      c.loop-word-test.false,
      c.word-slots.ensures.value,
      c.slot_word.ensures,
    ))
