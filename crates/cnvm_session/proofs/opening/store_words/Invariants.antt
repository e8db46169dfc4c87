use Rattle.std.proofs.Common.{◌≡◌, ◌-◌, length}
use Rattle.pmem.specs.Device.{Device}
use Rattle.pmem.specs.Played.{PlaysAll, PlaysPart}
use Rattle.pmem.specs.declared.answer.Refusal.{Refusal}
use Rattle.cnvm_session.specs.Opening.{stores_of}
use Rattle.cnvm_session.proofs.opening.store_words.Given as goal

-- if the lines that are left lead on from here, then all lines lead on from the start
abbrev pub invariant-loop-place : goal.invariant-loop-place
invariant-loop-place g l =
    let dev = g.P.PmemWork.device in record {
      lines : (dev l.dev).lines ≡ (dev l.initial.dev).lines;
      all : (b : Device) → PlaysAll (dev l.dev)
          (stores_of l.words l.place (length l.words - l.place)) b
          → PlaysAll (dev l.initial.dev) (stores_of l.words 0 (length l.words)) b;
      part : (why : Refusal) (b : Device)
          → PlaysPart why (dev l.dev) (stores_of l.words l.place (length l.words - l.place)) b
          → PlaysPart why (dev l.initial.dev) (stores_of l.words 0 (length l.words)) b;
    }
