use Rattle.std.proofs.Common.{◌≡◌, ◌++◌, drop, length}
use Rattle.pool_map.specs.PoolFits.{words_of}
use Rattle.pool_map.specs.PoolText.{fields_text}
use Rattle.pool_map.proofs.show.push_fields.Given as goal

abbrev pub invariant-loop-field : goal.invariant-loop-field
invariant-loop-field l = (length l.rest ≡ words_of (drop l.field-index l.fields))
    × (l.text ++ fields_text (drop l.field-index l.fields) l.rest ≡ l.initial.text
    ++ fields_text l.fields l.initial.rest)
