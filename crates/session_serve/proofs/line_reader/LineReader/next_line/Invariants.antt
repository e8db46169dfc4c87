-- None of the first `size` bytes ends a line.
use Rattle.std.proofs.Common.{◌≡◌, ◌<◌, ◌≤◌, ◌+◌, ◌-◌, take, length}
use Rattle.std.specs.Io.KnownBytes.{Keeps}
use Rattle.cnvm_script.specs.declared.read.TheConstants.{SCRIPT_BYTES}
use Rattle.session_serve.specs.Left.{left_of}
use Rattle.session_serve.specs.LineSize.{line_size}
use Rattle.session_serve.proofs.line_reader.LineReader.next_line.Given as goal

abbrev pub invariant-reads : goal.invariant-reads
invariant-reads g l = record {
  within : l.size ≤ length l.self.ahead.items;
  clean : line_size (take l.size l.self.ahead.items) ≡ l.size;
  kept : Keeps (left_of g.S.Source.left l.fn.self l.fn.source)
      (left_of g.S.Source.left l.self l.source);
  unread : line_size l.fn.self.ahead.items < length l.fn.self.ahead.items
      → (l.source ≡ l.fn.source) × (l.self.ahead.items ≡ l.fn.self.ahead.items);
  count : g.S.Source.faults l.fn.source ≤ g.S.Source.faults l.source;
}

abbrev pub decreases-reads : goal.decreases-reads
decreases-reads g l = SCRIPT_BYTES + 1 - length l.self.ahead.items
