use Rattle.std.proofs.Common.{◌≡◌, ◌+◌, drop}
use Rattle.pmem.specs.Device.{Device}
use Rattle.pmem.specs.Played.{PlaysAll, PlaysPart}
use Rattle.pmem.specs.declared.answer.Refusal.{Refusal}
use Rattle.args_log.specs.Seal.{stores_from}
use Rattle.args_log.proofs.sealing.store_arguments.Given as goal
use Rattle.pool_layout.specs.declared.places.TheConstants.{FIRST_ARGUMENT}

-- playing the remaining stores gives what playing all of them gives from the start
abbrev pub invariant-loop-k : goal.invariant-loop-k
invariant-loop-k g l =
    let dev = g.P.PmemWork.device in record {
      lines : (dev l.dev).lines ≡ (dev l.initial.dev).lines;
      all : (b : Device)
          → PlaysAll (dev l.dev) (stores_from (FIRST_ARGUMENT + l.k) (drop l.k l.args)) b
          → PlaysAll (dev l.initial.dev) (stores_from FIRST_ARGUMENT l.args) b;
      part : (why : Refusal) (b : Device)
          → PlaysPart why (dev l.dev) (stores_from (FIRST_ARGUMENT + l.k) (drop l.k l.args)) b
          → PlaysPart why (dev l.initial.dev) (stores_from FIRST_ARGUMENT l.args) b;
    }
