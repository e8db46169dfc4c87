use Rattle.std.proofs.Common.{◌≡◌, ◌+◌, drop}
use Rattle.pool_map.specs.PoolFits.{words_of}
use Rattle.pool_map.specs.declared.limits.TheConstants.{ROOT_WORDS}
use Rattle.cnvm_compile.specs.SizesAsked.{within}
use Rattle.cnvm_compile.proofs.compiling.root_words.Given as goal

abbrev pub invariant-loop-field : goal.invariant-loop-field
invariant-loop-field l = within 1 ROOT_WORDS (l.words + words_of (drop l.field-index l.shapes.root))
    ≡ within 1 ROOT_WORDS (words_of l.shapes.root)
