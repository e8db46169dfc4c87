use Rattle.std.proofs.Common.{◌≡◌, ◌++◌, drop, codes, flat_map}
use Rattle.pool_map.specs.PoolText.{word_text}
use Rattle.pool_map.proofs.show.push_elements.Given as goal

abbrev pub invariant-loop-word : goal.invariant-loop-word
invariant-loop-word l =
    l.text ++ flat_map (λ y. codes "," ++ word_text l.unsigned y) (drop l.word-index l.others)
    ≡ l.initial.text ++ flat_map (λ y. codes "," ++ word_text l.unsigned y) l.others
