use Rattle.std.proofs.Common.{◌<◌, ◌++◌, length, refl, arith}
use Rattle.pool_layout.specs.Bytes.{bytes_of}
use Rattle.pool_layout.proofs.KeptWords.{byte_put}
use Rattle.pool_layout.proofs.raw.push_bytes.Goals as goal

pub loop-byte-preserved : goal.loop-byte-preserved
loop-byte-preserved c =
    let lt : c.loop-byte.byte-index < length c.args.bytes.now = omega arith in
    record {
      bytes = byte_put (bytes_of c.args.words.now ++ c.args.rest.now)
          (bytes_of c.loop-byte.words ++ c.loop-byte.rest)
          (bytes_of c.push_byte.new.words ++ c.push_byte.new.rest) c.args.bytes.now
          c.loop-byte.byte-index _ lt refl c.loop-byte.invariant.bytes
          c.in_ok-push_byte.ensures.ok;
      end = omega (arith, c.loop-byte.invariant.end, c.in_ok-push_byte.ensures.end);
      words = λ all. c.in_ok-push_byte.ensures.words (c.loop-byte.invariant.words all);
      short = c.in_ok-push_byte.ensures.short;
    }
