-- What the device holds after a list of events was played, or a part of it.
use Rattle.std.proofs.Common.{◌≡◌, inl, inr, true, ℕ, ◌≤◌, List, [], ◌∷◌, None, sym, ap, ◌∙◌}
use Rattle.std.proofs.Common.{subst, arith}
use Rattle.std.proofs.lemmas.Option.{none-some}
use Rattle.cache_model.specs.Event.{CacheEvent}
use Rattle.cache_model.specs.Cache.{Cache}
use Rattle.cache_model.specs.During.{during}
use Rattle.cache_model.proofs.During.{during_end}
use Rattle.pmem.specs.Device.{Device, FaultsRose, IsDown, spent, less_one}
use Rattle.pmem.specs.Played.{Refuses, PlaysAll, PlaysPart}
use Rattle.pmem.specs.declared.answer.Refusal.{Refusal}
use Rattle.pmem.specs.declared.answer.Refusal.TheVariants.{Off, Failed, NoMemory}
use Rattle.pmem.proofs.Refused.{all_cache, all_faults}

pub refused_cache : (why : Refusal) (d b : Device) → Refuses why d b → b.cache ≡ d.cache
refused_cache Off d b h = ap (λ (x : Device). x.cache) h.1
refused_cache Failed d b h = ap (λ (x : Device). x.cache) h.3
refused_cache NoMemory d b h = ap (λ (x : Device). x.cache) h

-- what holds of the cache during a list of events

pub during_start : (Q : Cache → Type 0) (es : List CacheEvent) (c : Cache) → during c es Q → Q c
during_start Q [] c h = h
during_start Q (e ∷ es) c h = h.0

pub part_during : (Q : Cache → Type 0) (why : Refusal) (es : List CacheEvent) (d b : Device)
    → PlaysPart why d es b → during d.cache es Q → Q b.cache
part_during Q why [] d b part h = absurd part
part_during Q why (e ∷ es) d b (inl refused) h =
    subst Q (sym (refused_cache why d b refused.1)) h.0
part_during Q why (e ∷ es) d b (inr rest) h = part_during Q why es (spent d e) b rest.1 h.1

pub all_during : (Q : Cache → Type 0) (es : List CacheEvent) (d b : Device) → PlaysAll d es b
    → during d.cache es Q → Q b.cache
all_during Q es d b all h = subst Q (sym (all_cache es d b all)) (during_end d.cache es Q h)

-- the count of faults never falls, and it rose where an event failed

rose : (n m : ℕ) → FaultsRose n m → n ≤ m
rose n m (inl less) = omega arith
rose n m (inr same) = let e = same.0 in omega arith

pub same_rise : (d b : Device) → b ≡ d → d.faults ≤ b.faults
same_rise d b is = let same = ap (λ (x : Device). x.faults) is in omega arith

refused_rise : (why : Refusal) (d b : Device) → Refuses why d b → d.faults ≤ b.faults
refused_rise Off d b h = let same = ap (λ (x : Device). x.faults) h.1 in omega arith
refused_rise Failed d b h = rose d.faults b.faults h.2
refused_rise NoMemory d b h = same_rise d b h

pub all_rise : (es : List CacheEvent) (d b : Device) → PlaysAll d es b → d.faults ≤ b.faults
all_rise es d b all = let same = all_faults es d b all in omega arith

pub part_rise : (es : List CacheEvent) (why : Refusal) (d b : Device) → PlaysPart why d es b
    → d.faults ≤ b.faults
part_rise [] why d b part = absurd part
part_rise (e ∷ es) why d b (inl refused) = refused_rise why d b refused.1
part_rise (e ∷ es) why d b (inr rest) = part_rise es why (spent d e) b rest.1

pub part_failed : (es : List CacheEvent) (d b : Device) → PlaysPart Failed d es b
    → FaultsRose d.faults b.faults
part_failed [] d b part = absurd part
part_failed (e ∷ es) d b (inl refused) = refused.1.2
part_failed (e ∷ es) d b (inr rest) = part_failed es (spent d e) b rest.1

pub rose_part : (why : Refusal) (d : Device) (es : List CacheEvent) (b : Device) → why ≡ Failed
    → PlaysPart why d es b → FaultsRose d.faults b.faults
rose_part why d es b is part = part_failed es d b (subst (λ w. PlaysPart w d es b) is part)

-- the device is on, and nothing will switch it off
abbrev pub IsOn : Device → Type 0
IsOn d = (d.on ≡ true) × (d.left ≡ None)

not_down : (d : Device) → IsOn d → IsDown d → ⊥
not_down d on (inl off) = let e = sym on.0 ∙ off in cc
not_down d on (inr none) = none-some 0 (sym on.1 ∙ none)

never_off_of : (d : Device) (es : List CacheEvent) (b : Device) → IsOn d → PlaysPart Off d es b → ⊥
never_off_of d [] b on part = part
never_off_of d (e ∷ es) b on (inl refused) = not_down d on refused.1.0
never_off_of d (e ∷ es) b on (inr rest) =
    never_off_of (spent d e) es b (on.0, ap less_one on.1) rest.1

pub never_off : (why : Refusal) (d : Device) (es : List CacheEvent) (b : Device) → why ≡ Off
    → IsOn d → PlaysPart why d es b → ⊥
never_off why d es b is on part = never_off_of d es b on (subst (λ w. PlaysPart w d es b) is part)
