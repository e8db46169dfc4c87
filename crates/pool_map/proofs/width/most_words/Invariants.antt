use Rattle.std.proofs.Common.{◌≡◌, ◌≤◌, max, min, drop}
use Rattle.pool_map.specs.Width.{most_words}
use Rattle.pool_map.specs.declared.limits.TheConstants.{OBJECT_WORDS}
use Rattle.pool_map.proofs.width.most_words.Given as goal

abbrev pub invariant-loop-shape : goal.invariant-loop-shape
invariant-loop-shape l = record {
  few : l.most ≤ OBJECT_WORDS;
  left : min (max l.most (most_words (drop l.shape-index l.structs))) OBJECT_WORDS
      ≡ min (most_words l.structs) OBJECT_WORDS;
}
