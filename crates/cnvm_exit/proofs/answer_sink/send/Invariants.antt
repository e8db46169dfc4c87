-- What is taken stays as it is, and each turn leaves fewer bytes.
use Rattle.std.proofs.Common.{◌≤◌, length}
use Rattle.std.specs.Io.KnownBytes.{Keeps, append_known}
use Rattle.cnvm_exit.proofs.answer_sink.send.Given as goal

abbrev pub invariant-sending : goal.invariant-sending
invariant-sending g l =
    let written = g.K.Sink.written in
    Keeps (append_known (written l.initial.sink) l.initial.held.items)
    (append_known (written l.sink) l.held.items)
    × (g.K.Sink.faults l.initial.sink ≤ g.K.Sink.faults l.sink)

abbrev pub decreases-sending : goal.decreases-sending
decreases-sending g l = length l.held.items
