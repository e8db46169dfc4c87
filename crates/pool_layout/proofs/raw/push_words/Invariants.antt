-- The words so far are those of the bytes so far, after the first ones.
use Rattle.std.proofs.Common.{◌≡◌, ◌++◌, ◌*◌, take}
use Rattle.pool_layout.specs.Bytes.{bytes_of}
use Rattle.pool_layout.specs.inside.Bytes.{AreWords}
use Rattle.pool_layout.proofs.raw.push_words.Given as goal

abbrev pub invariant-loop-k : goal.invariant-loop-k
invariant-loop-k l = record {
  bytes : bytes_of l.words ≡ bytes_of l.fn.words ++ take (8 * l.k) l.bytes;
  words : AreWords l.fn.words → AreWords l.words;
}
