-- Lists of events that follow one another.
use Rattle.std.proofs.Common.{inl, inr, List, [], ◌∷◌, ◌++◌, subst}
use Rattle.cache_model.specs.Event.{CacheEvent}
use Rattle.pmem.specs.Device.{Device, spent}
use Rattle.pmem.specs.Played.{PlaysAll, PlaysPart}
use Rattle.pmem.specs.declared.answer.Refusal.{Refusal}

-- all of the first list, then all of the next
pub all_append : (es fs : List CacheEvent) (d b c : Device) → PlaysAll d es b → PlaysAll b fs c
    → PlaysAll d (es ++ fs) c
all_append [] fs d b c first second = subst (λ (x : Device). PlaysAll x fs c) first second
all_append (e ∷ es) fs d b c first second =
    (first.0, all_append es fs (spent d e) b c first.1 second)

-- all of the first list, then a part of the next
pub part_right : (es fs : List CacheEvent) (why : Refusal) (d b c : Device) → PlaysAll d es b
    → PlaysPart why b fs c → PlaysPart why d (es ++ fs) c
part_right [] fs why d b c first second = subst (λ (x : Device). PlaysPart why x fs c) first second
part_right (e ∷ es) fs why d b c first second =
    inr (first.0, part_right es fs why (spent d e) b c first.1 second)

-- a part of the first list
pub part_left : (es fs : List CacheEvent) (why : Refusal) (d c : Device) → PlaysPart why d es c
    → PlaysPart why d (es ++ fs) c
part_left [] fs why d c part = absurd part
part_left (e ∷ es) fs why d c (inl stops) = inl stops
part_left (e ∷ es) fs why d c (inr rest) = inr (rest.0, part_left es fs why (spent d e) c rest.1)
