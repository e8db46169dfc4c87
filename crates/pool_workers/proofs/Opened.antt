-- An answered event of the whole device, as the window sees it, and its effect outside.
use Rattle.std.proofs.Common.{◌≡◌, ◌⊎◌, inl, inr, ℕ, suc, ◌+◌, ◌*◌, ◌<◌, Bool, true, Option, Some}
use Rattle.std.proofs.Common.{None, IfSome, ℤ, sym, ap, ◌∙◌, subst, ◌≤◌, arith}
use Rattle.std.proofs.Math.Nat.{mul-le-mul_left, mul-suc}
use Rattle.cache_model.specs.Event.{CacheEvent, Store, Flush, Fence}
use Rattle.cache_model.specs.Cache.{Cache, view}
use Rattle.cache_model.specs.Play.{apply}
use Rattle.pmem.specs.Device.{Device, spent}
use Rattle.pmem.specs.Played.{Refuses, Answered, Stored}
use Rattle.pmem.specs.Zeros.{IsFirstZero}
use Rattle.pmem.specs.declared.answer.Event.{Event}
use Rattle.pmem.specs.declared.answer.Event.TheVariants as event
use Rattle.pmem.specs.declared.answer.StoreEvent.{StoreEvent}
use Rattle.pmem.specs.declared.answer.StoreEvent.TheVariants as stored
use Rattle.pmem.specs.declared.answer.Refusal.{Refusal}
use Rattle.pmem.specs.declared.answer.Refusal.TheVariants.{Off, Failed, NoMemory}
use Rattle.pool_workers.specs.Compartment.{cache_in, device_in, lifted, IsInside, AreAside}
use Rattle.pool_workers.proofs.Windows.{own_event, aside_store, aside_flush, aside_fence, view_in}

spent_in : (f n : ℕ) (d b : Device) (e : CacheEvent) → IsInside n e → b ≡ spent d (lifted f e) →
    device_in f n b ≡ spent (device_in f n d) e
spent_in f n d b e in_it is =
    ap (device_in f n) is
    ∙ (λ i. record (spent (device_in f n d) e) { cache = own_event f n d.cache e in_it i })

refuses_in : (f n : ℕ) (why : Refusal) (d b : Device) → Refuses why d b →
    Refuses why (device_in f n d) (device_in f n b)
refuses_in f n Off d b h = (h.0, ap (device_in f n) h.1)
refuses_in f n Failed d b h = (h.0, h.1, h.2, ap (device_in f n) h.3)
refuses_in f n NoMemory d b h = ap (device_in f n) h

answered_in : (f n : ℕ) (a : Event) (d b : Device) (e : CacheEvent) → IsInside n e →
    Answered a d (lifted f e) b → Answered a (device_in f n d) e (device_in f n b)
answered_in f n event.Done d b e in_it h = (h.0, spent_in f n d b e in_it h.1)
answered_in f n event.Off d b e in_it h = refuses_in f n Off d b h
answered_in f n event.Failed d b e in_it h = refuses_in f n Failed d b h

stored_in : (f n : ℕ) (a : StoreEvent) (d b : Device) (e : CacheEvent) → IsInside n e →
    Stored a d (lifted f e) b → Stored a (device_in f n d) e (device_in f n b)
stored_in f n stored.Done d b e in_it h = (h.0, spent_in f n d b e in_it h.1)
stored_in f n stored.Off d b e in_it h = refuses_in f n Off d b h
stored_in f n stored.Failed d b e in_it h = refuses_in f n Failed d b h
stored_in f n stored.NoMemory d b e in_it h = (h.0, ap (device_in f n) h.1)

-- the cache after an answered event
abbrev Leaves : Device → CacheEvent → Device → Type 0
Leaves d e b = (b.cache ≡ d.cache) ⊎ (b.cache ≡ apply d.cache e)

refuses_leaves : (why : Refusal) (d b : Device) (e : CacheEvent) → Refuses why d b → Leaves d e b
refuses_leaves Off d b e h = inl (ap (λ (x : Device). x.cache) h.1)
refuses_leaves Failed d b e h = inl (ap (λ (x : Device). x.cache) h.3)
refuses_leaves NoMemory d b e h = inl (ap (λ (x : Device). x.cache) h)

answered_leaves : (a : Event) (d b : Device) (e : CacheEvent) → Answered a d e b → Leaves d e b
answered_leaves event.Done d b e h = inr (ap (λ (x : Device). x.cache) h.1)
answered_leaves event.Off d b e h = refuses_leaves Off d b e h
answered_leaves event.Failed d b e h = refuses_leaves Failed d b e h

stored_leaves : (a : StoreEvent) (d b : Device) (e : CacheEvent) → Stored a d e b → Leaves d e b
stored_leaves stored.Done d b e h = inr (ap (λ (x : Device). x.cache) h.1)
stored_leaves stored.Off d b e h = refuses_leaves Off d b e h
stored_leaves stored.Failed d b e h = refuses_leaves Failed d b e h
stored_leaves stored.NoMemory d b e h = inl (ap (λ (x : Device). x.cache) h.1)

kept : (f n : ℕ) (k : Bool) (c : Cache) (d b : Device) (e : CacheEvent) → Leaves d e b →
    AreAside f n k c d.cache → AreAside f n k c (apply d.cache e) → AreAside f n k c b.cache
kept f n k c d b e (inl same) was next = subst (AreAside f n k c) (sym same) was
kept f n k c d b e (inr done) was next = subst (AreAside f n k c) (sym done) next

module _ (f n at : ℕ) (is : at ≡ f) where
  pub store_in : (w : ℕ) (x y : ℤ) (a : StoreEvent) (d b : Device) → y ≡ x → w < 8 * n →
      Stored a d (Store (8 * at + w) y) b →
      Stored a (device_in f n d) (Store w x) (device_in f n b)
  store_in w x y a d b same lt h =
      stored_in f n a d b (Store w x) lt
      (subst (λ (k : ℕ). Stored a d (Store (8 * k + w) x) b) is
      (subst (λ (z : ℤ). Stored a d (Store (8 * at + w) z) b) same h))

  pub flush_in : (l : ℕ) (a : Event) (d b : Device) → l < n → Answered a d (Flush (at + l)) b →
      Answered a (device_in f n d) (Flush l) (device_in f n b)
  flush_in l a d b lt h =
      answered_in f n a d b (Flush l) lt (subst (λ (k : ℕ). Answered a d (Flush (k + l)) b) is h)

  pub load_in : (w : ℕ) (v : Option ℤ) (c : Cache) → w < 8 * n →
      IfSome v (λ x. x ≡ view c (8 * at + w)) → IfSome v (λ x. x ≡ view (cache_in f n c) w)
  load_in w None c lt h = h
  load_in w (Some x) c lt h = h ∙ ap (λ (k : ℕ). view c (8 * k + w)) is ∙ sym (view_in f n w c lt)

  pub first_zero_in : (w d m : ℕ) (v : Option ℕ) (c : Cache) → 1 ≤ d → w + d * m ≤ 8 * n →
      IfSome v (IsFirstZero (view c) (8 * at + w) d m) →
      IfSome v (IsFirstZero (view (cache_in f n c)) w d m)
  first_zero_in w d m None c some le h = h
  first_zero_in w d m (Some k) c some le h =
      let here : (i : ℕ) → i < m →
      view c (8 * at + w + d * i) ≡ view (cache_in f n c) (w + d * i) = λ i lt.
      let place : 8 * at + w + d * i ≡ 8 * f + (w + d * i) = omega (arith, is) in
      let within : d * suc i ≤ d * m = mul-le-mul_left d lt in
      ap (view c) place ∙ sym (view_in f n (w + d * i) c (omega (arith, within, mul-suc d i))) in
      record {
        few = h.few;
        before = λ i lt e. h.before i lt (here i (omega (arith, h.few)) ∙ e);
        there = λ lt. sym (here k lt) ∙ h.there lt;
      }

  pub store_aside : (w : ℕ) (x : ℤ) (k : Bool) (c : Cache) (a : StoreEvent) (d b : Device) →
      w < 8 * n → Stored a d (Store (8 * at + w) x) b → AreAside f n k c d.cache →
      AreAside f n k c b.cache
  store_aside w x k c a d b lt h was =
      kept f n k c d b (Store (8 * at + w) x) (stored_leaves a d b (Store (8 * at + w) x) h) was
      (subst (λ (j : ℕ). AreAside f n k c (apply d.cache (Store (8 * j + w) x))) (sym is)
      (aside_store f n w x k c d.cache lt was))

  pub flush_aside : (l : ℕ) (k : Bool) (c : Cache) (a : Event) (d b : Device) → l < n →
      Answered a d (Flush (at + l)) b → AreAside f n k c d.cache → AreAside f n k c b.cache
  flush_aside l k c a d b lt h was =
      kept f n k c d b (Flush (at + l)) (answered_leaves a d b (Flush (at + l)) h) was
      (subst (λ (j : ℕ). AreAside f n k c (apply d.cache (Flush (j + l)))) (sym is)
      (aside_flush f n l k c d.cache lt was))

pub fence_in : (f n : ℕ) (a : Event) (d b : Device) → Answered a d Fence b →
    Answered a (device_in f n d) Fence (device_in f n b)
fence_in f n a d b h = answered_in f n a d b Fence tt h

pub fence_aside : (f n : ℕ) (k : Bool) (c : Cache) (a : Event) (d b : Device) → a ≡ event.Done →
    Answered a d Fence b → AreAside f n k c d.cache → AreAside f n true c b.cache
fence_aside f n k c event.Done d b is h was =
    subst (λ (x : Device). AreAside f n true c x.cache) (sym h.1)
    (aside_fence f n k c d.cache was)
fence_aside f n k c event.Off d b is h was = absurd (cc)
fence_aside f n k c event.Failed d b is h was = absurd (cc)
