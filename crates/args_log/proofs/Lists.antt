-- Stores and flushes that follow one another.
use Rattle.std.proofs.Common.{◌≡◌, ℕ, suc, ◌+◌, ◌-◌, ◌<◌, List, [], ◌∷◌, inl, inr, refl, sym, subst}
use Rattle.std.proofs.Common.{arith}
use Rattle.cache_model.specs.Event.{CacheEvent, Flush}
use Rattle.pmem.specs.Device.{Device}
use Rattle.pmem.specs.Played.{PlaysAll, PlaysPart, RefusesEvent}
use Rattle.pmem.specs.declared.answer.Refusal.{Refusal}
use Rattle.args_log.specs.Seal.{flushes_from}

pub flushes_at : (l k n : ℕ) → k < n → flushes_from (l + k) (n - k) ≡ Flush (l + k)
    ∷ flushes_from (l + (k + 1)) (n - (k + 1))
flushes_at l k n less =
    let left : n - k ≡ suc (n - (k + 1)) = omega arith in
    let line : suc (l + k) ≡ l + (k + 1) = omega arith in
    rw (left, ← line) refl

-- one event is done, and then all or some of the rest; or one is refused
pub all_one : (es rest : List CacheEvent) (e : CacheEvent) (d a b : Device) → es ≡ e ∷ rest
    → PlaysAll d (e ∷ []) a → PlaysAll a rest b → PlaysAll d es b
all_one es rest e d a b is one more =
    subst (λ fs. PlaysAll d fs b) (sym is)
    (one.0, subst (λ (k : Device). PlaysAll k rest b) one.1 more)

pub part_one : (why : Refusal) (es rest : List CacheEvent) (e : CacheEvent) (d a b : Device)
    → es ≡ e ∷ rest → PlaysAll d (e ∷ []) a → PlaysPart why a rest b → PlaysPart why d es b
part_one why es rest e d a b is one more =
    subst (λ fs. PlaysPart why d fs b) (sym is)
    (inr (one.0, subst (λ (k : Device). PlaysPart why k rest b) one.1 more))

pub part_now : (why : Refusal) (es rest : List CacheEvent) (e : CacheEvent) (d b : Device)
    → es ≡ e ∷ rest → RefusesEvent why d e b → PlaysPart why d es b
part_now why es rest e d b is refused = subst (λ fs. PlaysPart why d fs b) (sym is) (inl refused)
