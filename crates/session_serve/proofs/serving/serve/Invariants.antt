-- As many lines are taken and answered as the loop has counted.
use Rattle.std.proofs.Common.{◌≡◌, ◌≤◌, ℕ, List, length}
use Rattle.pool_layout.specs.Sizes.{pool_lines}
use Rattle.session_serve.specs.Left.{left_of}
use Rattle.session_serve.specs.Serves.{Serves, TakesLines}
use Rattle.session_serve.proofs.serving.serve.Given as goal

abbrev pub invariant-loop-count : goal.invariant-loop-count
invariant-loop-count g l =
    let dev = g.P.PmemWork.device in
    let written = g.K.Sink.written in
    let left = g.S.Source.left in record {
      lines : (dev l.dev).lines ≡ pool_lines l.program.image.parts.sizes;
      kept : g.W.Watch.kept l.dev;
      reads : g.S.Source.faults l.initial.source ≤ g.S.Source.faults l.source;
      count : g.K.Sink.faults l.initial.out ≤ g.K.Sink.faults l.out;
      served : (given : List (List ℕ)) × (length given ≡ l.count)
          × TakesLines (left l.initial.source) given (left_of left l.reader l.source)
          × Serves l.program given l.initial.session (dev l.initial.dev) (written l.initial.out)
          l.initial.steps l.session (dev l.dev) (written l.out) l.steps;
    }
