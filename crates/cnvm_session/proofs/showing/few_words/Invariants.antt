use Rattle.std.proofs.Common.{◌≡◌, ◌+◌, ◌≤◌, drop}
use Rattle.pool_map.specs.PoolFits.{words_of}
use Rattle.cnvm_session.proofs.showing.few_words.Given as goal

abbrev pub invariant-loop-field : goal.invariant-loop-field
invariant-loop-field l = record {
  few : l.all ≤ l.most;
  left : l.all + words_of (drop l.field-index l.fields) ≡ words_of l.fields;
}
