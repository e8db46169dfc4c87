-- The bytes so far stand at the end.
use Rattle.std.proofs.Common.{◌≡◌, ◌<◌, ◌+◌, ◌%◌, ◌++◌, take, length}
use Rattle.pool_layout.specs.Bytes.{bytes_of}
use Rattle.pool_layout.specs.inside.Bytes.{AreWords}
use Rattle.pool_layout.proofs.raw.push_bytes.Given as goal

abbrev pub invariant-loop-byte : goal.invariant-loop-byte
invariant-loop-byte l = record {
  bytes : bytes_of l.words ++ l.rest
      ≡ (bytes_of l.fn.words ++ l.fn.rest) ++ take l.byte-index l.bytes;
  end : length l.rest ≡ (length l.fn.rest + l.byte-index) % 8;
  words : AreWords l.fn.words → AreWords l.words;
  short : length l.rest < 8;
}
