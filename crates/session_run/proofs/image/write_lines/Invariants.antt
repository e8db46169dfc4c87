-- The words so far were written.
use Rattle.std.proofs.Common.{◌≤◌, ◌-◌, ◌*◌}
use Rattle.std.specs.Io.KnownBytes.{Appends}
use Rattle.cache_model.specs.Cache.{view}
use Rattle.pool_layout.specs.Bytes.{bytes_of}
use Rattle.pm_machine.specs.HeapPool.{words_from}
use Rattle.session_run.proofs.image.write_lines.Given as goal

abbrev pub invariant-writing : goal.invariant-writing
invariant-writing g l = record {
  written : Appends (g.O.Sink.written l.fn.out) (g.O.Sink.written l.out)
      (bytes_of (words_from (view (g.P.PmemWork.device l.dev).cache) 0 l.from));
  within : l.from ≤ 8 * l.lines;
  count : g.O.Sink.faults l.fn.out ≤ g.O.Sink.faults l.out;
}

abbrev pub decreases-writing : goal.decreases-writing
decreases-writing g l = 8 * l.lines - l.from
