use Rattle.std.proofs.Common.{◌≡◌, ◌+◌, drop}
use Rattle.session_serve.specs.LineSize.{line_size}
use Rattle.session_serve.proofs.line_reader.line_size.Given as goal

abbrev pub invariant-loop-at : goal.invariant-loop-at
invariant-loop-at l = line_size l.bytes ≡ l.at + line_size (drop l.at l.bytes)
