use Rattle.std.proofs.Common.{◌≡◌, ◌+◌, min, drop}
use Rattle.pool_map.specs.PoolFits.{words_of}
use Rattle.pool_map.specs.declared.limits.TheConstants.{OBJECT_WORDS}
use Rattle.pool_map.proofs.width.words_of.Given as goal

abbrev pub invariant-loop-field : goal.invariant-loop-field
invariant-loop-field l = min (l.words + words_of (drop l.field-index l.fields)) OBJECT_WORDS
    ≡ min (words_of l.fields) OBJECT_WORDS
