use Rattle.std.proofs.Common.{◌≡◌, ◌-◌}
use Rattle.pmem.specs.Device.{Device}
use Rattle.pmem.specs.Played.{PlaysAll, PlaysPart}
use Rattle.pmem.specs.declared.answer.Refusal.{Refusal}
use Rattle.cnvm_session.specs.Opening.{flushes_of}
use Rattle.cnvm_session.proofs.opening.flush_lines.Given as goal

-- if the lines that are left lead on from here, then all lines lead on from the start
abbrev pub invariant-loop-line : goal.invariant-loop-line
invariant-loop-line g l =
    let dev = g.P.PmemWork.device in record {
      lines : (dev l.dev).lines ≡ (dev l.initial.dev).lines;
      all : (b : Device) → PlaysAll (dev l.dev) (flushes_of l.words l.line (l.lines - l.line)) b
          → PlaysAll (dev l.initial.dev) (flushes_of l.words 0 l.lines) b;
      part : (why : Refusal) (b : Device)
          → PlaysPart why (dev l.dev) (flushes_of l.words l.line (l.lines - l.line)) b
          → PlaysPart why (dev l.initial.dev) (flushes_of l.words 0 l.lines) b;
    }
