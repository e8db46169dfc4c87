use Rattle.std.proofs.Common.{◌≡◌, ◌+◌, ◌-◌}
use Rattle.pmem.specs.Device.{Device}
use Rattle.pmem.specs.Played.{PlaysAll, PlaysPart}
use Rattle.pmem.specs.declared.answer.Refusal.{Refusal}
use Rattle.args_log.specs.Seal.{flushes_from}
use Rattle.args_log.proofs.sealing.flush_payload.Given as goal

-- playing the remaining flushes gives what playing all of them gives from the start
abbrev pub invariant-loop-k : goal.invariant-loop-k
invariant-loop-k g l =
    let dev = g.P.PmemWork.device in record {
      lines : (dev l.dev).lines ≡ (dev l.initial.dev).lines;
      all : (b : Device) → PlaysAll (dev l.dev) (flushes_from (3 + l.k) (l.count - l.k)) b
          → PlaysAll (dev l.initial.dev) (flushes_from 3 l.count) b;
      part : (why : Refusal) (b : Device)
          → PlaysPart why (dev l.dev) (flushes_from (3 + l.k) (l.count - l.k)) b
          → PlaysPart why (dev l.initial.dev) (flushes_from 3 l.count) b;
    }
