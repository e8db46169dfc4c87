-- The answer of a list of events follows from its result.
use Rattle.std.proofs.Common.{List, Result, Ok, Err, OnOk, IfErr}
use Rattle.cache_model.specs.Event.{CacheEvent}
use Rattle.pmem.specs.Device.{Device}
use Rattle.pmem.specs.Played.{PlaysAll, PlaysPart, Played}
use Rattle.pmem.specs.Answer.{answer_of}
use Rattle.pmem.specs.declared.answer.Refusal.{Refusal}
use Rattle.pmem.specs.declared.answer.Refusal.TheVariants.{Off, Failed, NoMemory}

pub played_of : {A : Type 0} (r : Result A Refusal) (d : Device) (es : List CacheEvent) (b : Device)
    → OnOk r (PlaysAll d es b) → IfErr r (λ why. PlaysPart why d es b) → Played (answer_of r) d es b
played_of (Ok _) d es b all part = all
played_of (Err Off) d es b all part = part
played_of (Err Failed) d es b all part = part
played_of (Err NoMemory) d es b all part = part
