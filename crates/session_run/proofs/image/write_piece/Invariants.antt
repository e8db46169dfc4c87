-- The words so far stand at the front of the piece.
use Rattle.std.proofs.Common.{◌≡◌, ◌*◌, length, take}
use Rattle.cache_model.specs.Cache.{view}
use Rattle.pool_layout.specs.Bytes.{bytes_of}
use Rattle.pm_machine.specs.HeapPool.{words_from}
use Rattle.session_run.proofs.image.write_piece.Given as goal

abbrev pub invariant-loop-k : goal.invariant-loop-k
invariant-loop-k g l = record {
  bytes : take (8 * l.k) l.piece
      ≡ bytes_of (words_from (view (g.P.PmemWork.device l.dev).cache) l.from l.k);
  long : length l.piece ≡ 16384;
}
