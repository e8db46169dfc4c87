use Rattle.std.proofs.Common.{rules, codes}
use Rattle.pool_map.specs.PoolText.{word_text}
use Rattle.pool_map.proofs.Joined.{joined}
use Rattle.pool_map.proofs.show.push_elements.Goals as goal

-- src/show.rt:138:1
pub returns : goal.returns
returns c =
    joined (word_text c.args.unsigned) (codes ",") _ c.push_word.new.text _ _ c.loop-word.word-index
    c.in-len1-up.len_at_least c.loop-word-test.false c.loop-word.invariant (search rules)
