use Rattle.std.proofs.Common.{◌≤◌, ℕ, List, Option, drop}
use Rattle.std.specs.Io.KnownBytes.{Appends}
use Rattle.nvm_base.specs.Parts.{AppendsPart}
use Rattle.workers_run.specs.WorkersRan.{lines_text}
use Rattle.workers_run.proofs.writing.put_lines.Given as goal

-- if the lines that are left are written from here, then all of them are from the start
abbrev pub invariant-loop-line : goal.invariant-loop-line
invariant-loop-line g l =
    let written = g.K.Sink.written in record {
      count : g.K.Sink.faults l.initial.out ≤ g.K.Sink.faults l.out;
      all : (w : Option (List ℕ))
          → Appends (written l.out) w (lines_text (drop l.line-index l.lines))
          → Appends (written l.initial.out) w (lines_text l.lines);
      part : (w : Option (List ℕ))
          → AppendsPart (written l.out) w (lines_text (drop l.line-index l.lines))
          → AppendsPart (written l.initial.out) w (lines_text l.lines);
    }
