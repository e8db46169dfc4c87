-- The events of one turn of a loop, followed by the rest.
use Rattle.std.proofs.Common.{◌≡◌, ℕ, suc, ◌+◌, ◌-◌, ◌<◌, ℤ, List, ◌++◌, refl, sym, subst, arith}
use Rattle.std.proofs.Common.{add-one}
use Rattle.cache_model.specs.Event.{CacheEvent}
use Rattle.pmem.specs.Device.{Device}
use Rattle.pmem.specs.Played.{PlaysAll, PlaysPart}
use Rattle.pmem.specs.declared.answer.Refusal.{Refusal}
use Rattle.pmem.proofs.Glue.{all_append, part_left, part_right}
use Rattle.cnvm_session.specs.Opening.{store_of, stores_of, flush_of, flushes_of}

pub stores_at : (words : List ℤ) (place n : ℕ) → place < n → stores_of words place (n - place)
    ≡ store_of words place ++ stores_of words (place + 1) (n - (place + 1))
stores_at words place n less =
    let left : n - place ≡ suc (n - (place + 1)) = omega arith in
    rw (left, add-one) refl

pub flushes_at : (words : List ℤ) (line n : ℕ) → line < n
    → flushes_of words line (n - line) ≡ flush_of words line ++ flushes_of words (line + 1)
    (n - (line + 1))
flushes_at words line n less =
    let left : n - line ≡ suc (n - (line + 1)) = omega arith in
    rw (left, add-one) refl

pub all_next : (es fs gs : List CacheEvent) (d a b : Device) → es ≡ fs ++ gs → PlaysAll d fs a
    → PlaysAll a gs b → PlaysAll d es b
all_next es fs gs d a b is first rest =
    subst (λ hs. PlaysAll d hs b) (sym is) (all_append fs gs d a b first rest)

pub part_next : (why : Refusal) (es fs gs : List CacheEvent) (d a b : Device) → es ≡ fs ++ gs
    → PlaysAll d fs a → PlaysPart why a gs b → PlaysPart why d es b
part_next why es fs gs d a b is first rest =
    subst (λ hs. PlaysPart why d hs b) (sym is) (part_right fs gs why d a b first rest)

pub part_first : (why : Refusal) (es fs gs : List CacheEvent) (d b : Device) → es ≡ fs ++ gs
    → PlaysPart why d fs b → PlaysPart why d es b
part_first why es fs gs d b is part =
    subst (λ hs. PlaysPart why d hs b) (sym is) (part_left fs gs why d b part)
