use Rattle.std.proofs.Common.{◌≡◌, ◌-◌}
use Rattle.pmem.specs.Device.{Device}
use Rattle.pmem.specs.Played.{PlaysAll, PlaysPart}
use Rattle.pmem.specs.declared.answer.Refusal.{Refusal}
use Rattle.pool_workers.specs.Making.{creations}
use Rattle.pool_workers.proofs.creating.create_all.Given as goal

-- playing the remaining events gives what playing all of them gives from the start
abbrev pub invariant-loop-worker : goal.invariant-loop-worker
invariant-loop-worker g l =
    let dev = g.P.PmemWork.device in record {
      lines : (dev l.dev).lines ≡ (dev l.initial.dev).lines;
      all : (b : Device) →
          PlaysAll (dev l.dev) (creations l.sizes l.digest l.worker (l.count - l.worker)) b →
          PlaysAll (dev l.initial.dev) (creations l.sizes l.digest 0 l.count) b;
      part : (why : Refusal) (b : Device) →
          PlaysPart why (dev l.dev) (creations l.sizes l.digest l.worker (l.count - l.worker)) b →
          PlaysPart why (dev l.initial.dev) (creations l.sizes l.digest 0 l.count) b;
    }
