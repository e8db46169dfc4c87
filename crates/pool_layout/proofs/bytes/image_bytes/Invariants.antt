-- The bytes so far, and then the bytes of the words that are left, are the bytes of all words.
use Rattle.std.proofs.Common.{◌≡◌, ◌++◌, drop}
use Rattle.pool_layout.specs.Bytes.{bytes_of}
use Rattle.pool_layout.proofs.bytes.image_bytes.Given as goal

abbrev pub invariant-loop-word : goal.invariant-loop-word
invariant-loop-word l = l.bytes ++ bytes_of (drop l.word-index l.words) ≡ bytes_of l.words
