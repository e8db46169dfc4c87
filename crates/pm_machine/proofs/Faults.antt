-- The count of faults never falls.
use Rattle.std.proofs.Common.{◌≤◌, List, Result, Ok, Err, OnOk, IfErr}
use Rattle.cache_model.specs.Event.{CacheEvent}
use Rattle.pmem.specs.Device.{Device}
use Rattle.pmem.specs.Played.{PlaysAll, PlaysPart}
use Rattle.pmem.specs.declared.answer.Refusal.{Refusal}
use Rattle.pmem.proofs.Parts.{all_rise, part_rise}

pub rise_of : {A : Type 0} (r : Result A Refusal) (es : List CacheEvent) (d b : Device)
    → OnOk r (PlaysAll d es b) → IfErr r (λ why. PlaysPart why d es b) → d.faults ≤ b.faults
rise_of (Ok _) es d b all part = all_rise es d b all
rise_of (Err why) es d b all part = part_rise es why d b part
