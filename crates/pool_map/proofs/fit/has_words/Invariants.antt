use Rattle.std.proofs.Common.{◌≡◌, ◌==◌, drop}
use Rattle.pool_map.specs.PoolFits.{words_of}
use Rattle.pool_map.proofs.fit.has_words.Given as goal

abbrev pub invariant-loop-field : goal.invariant-loop-field
invariant-loop-field l = (l.left == words_of (drop l.field-index l.fields))
    ≡ (l.initial.left == words_of l.fields)
