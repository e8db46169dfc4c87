-- Each LOG is followed by its STORE.
use Rattle.std.proofs.Common.{◌≡◌, ℕ, zero, suc, ◌+◌, ◌-◌, ◌==◌, if◌then◌else◌, Bool, true, false}
use Rattle.std.proofs.Common.{List, [], ◌∷◌, length, slice_get, Option, Some, None, ℤ, ltb, refl}
use Rattle.std.proofs.Common.{sym, ap, ◌∙◌, subst, arith}
use Rattle.std.specs.List.{AllByRecursion}
use Rattle.cache_model.specs.Cache.{Words}
use Rattle.crash_law.specs.Effects.{IsPaired}
use Rattle.pm_machine.specs.declared.effect.Effect.{Effect}
use Rattle.pm_machine.specs.declared.effect.Effect.TheVariants.{Loads, Scans, Stores, Logs, Flushes}
use Rattle.pm_machine.specs.declared.effect.Effect.TheVariants.{Fences, Quiet}
use Rattle.pm_machine.specs.declared.effect.End.{End}
use Rattle.pm_machine.specs.declared.effect.End.TheVariants.{Trapped}
use Rattle.pool_map.specs.declared.trap.TrapKind.TheVariants as trap
use Rattle.pm_machine.specs.declared.frame.Frame.{Frame}
use Rattle.pm_machine.specs.declared.image.Image.{Image}
use Rattle.pm_machine.specs.declared.op.Op.{Op}
use Rattle.pm_machine.specs.declared.op.Op.TheVariants.{Load, Store, Log, Flush, Call, Ret, Tick}
use Rattle.pm_machine.specs.declared.op.Function.{Function}
use Rattle.pm_machine.specs.Effects.{heap_past}
use Rattle.pm_machine.specs.Machine.{State, StepOutcome, Goes, Ends, Run, Finished, follow, step}
use Rattle.pm_machine.specs.Machine.{run, execute, fetch, fetch_in, target, read_register}
use Rattle.pm_machine.specs.Machine.{load, store, log, flush, call, return, passed, tick_spent}
use Rattle.pm_machine.specs.Machine.{entered}
use Rattle.pm_machine.proofs.Fuel.{began_rest}
use Rattle.run_law.specs.Seen.{seen_all}
use Rattle.run_law.proofs.Headers.{pair_headers}
use Rattle.machine_law.specs.emitted.Pairs.{IsStoreOf, IsStoreFirst, ArePaired, HasPairs, PairedLaw}

-- the instruction is a STORE to the word of R[a] + z
pub record StoreIn (found : Option Op) (a : ℕ) (z : ℤ) : Type 0 where
  pub from : ℕ
  pub is : found ≡ Some (Store a z from)

store_is : (a : ℕ) (z : ℤ) (q : Op) → IsStoreOf a z q → StoreIn (Some q) a z
store_is a z (Store x y b) h =
    record {
      from = b;
      is = ap (λ (i : ℕ). Some (Store i y b)) h.0
          ∙ ap (λ (j : ℤ). Some (Store a j b)) h.1;
    }
store_is a z q h = absurd h

first_is : (a : ℕ) (z : ℤ) (ops : List Op) → IsStoreFirst a z ops → StoreIn (slice_get ops 0) a z
first_is a z [] h = absurd h
first_is a z (q ∷ ops) h = store_is a z q h

rest_paired : (q : Op) (ops : List Op) → ArePaired (q ∷ ops) → ArePaired ops
rest_paired (Log a o) ops h = h.1
rest_paired q ops h = h

store_after : (ops : List Op) (k a : ℕ) (z : ℤ) → ArePaired ops → slice_get ops k ≡ Some (Log a z)
    → StoreIn (slice_get ops (k + 1)) a z
store_after [] k a z h e = absurd (cc)
store_after (q ∷ ops) zero a z h e =
    let same : q ≡ Log a z = cc in
    let one : zero + 1 ≡ suc zero = omega arith in
    let both : ArePaired (Log a z ∷ ops) = subst (λ (r : Op). ArePaired (r ∷ ops)) same h in
    subst (λ (n : ℕ). StoreIn (slice_get (q ∷ ops) n) a z) (sym one) (first_is a z ops both.0)
store_after (q ∷ ops) (suc k) a z h e =
    let next : suc k + 1 ≡ suc (k + 1) = omega arith in
    subst (λ (n : ℕ). StoreIn (slice_get (q ∷ ops) n) a z) (sym next)
    (store_after ops k a z (rest_paired q ops h) e)

paired_at : (us : List Function) (f : ℕ) (u : Function) → AllByRecursion HasPairs us
    → slice_get us f ≡ Some u → ArePaired u.code
paired_at [] f u h e = absurd (cc)
paired_at (v ∷ us) zero u h e = let same : v ≡ u = cc in subst HasPairs same h.0
paired_at (v ∷ us) (suc f) u h e = paired_at us f u h.1 e

after_in : (o : Option Function) (p a : ℕ) (z : ℤ)
    → ((u : Function) → o ≡ Some u → ArePaired u.code) → fetch_in p o ≡ Some (Log a z)
    → StoreIn (fetch_in (p + 1) o) a z
after_in None p a z h e = absurd (cc)
after_in (Some u) p a z h e = store_after u.code p a z (h u refl) e

-- the next instruction, while a LOG of word u waits for its STORE
pub record IsWaiting (image : Image) (u : ℕ) (s : State) : Type 0 where
  pub a : ℕ
  pub z : ℤ
  pub b : ℕ
  pub there : fetch image s ≡ Some (Store a z b)
  pub aims : target image s a z ≡ Some u

module _ (image : Image) where
  abbrev Waits : Option ℕ → State → Type 0
  Waits None s = Unit {0}
  Waits (Some u) s = IsWaiting image u s

  abbrev Fits : Option ℕ → StepOutcome → Type 0
  Fits None (Ends e) = Unit {0}
  Fits None (Goes (Loads w) t) = Unit {0}
  Fits None (Goes (Scans w apart many) t) = Unit {0}
  Fits None (Goes (Stores w x) t) = Unit {0}
  Fits None (Goes (Logs w) t) = IsWaiting image w t
  Fits None (Goes (Flushes l) t) = Unit {0}
  Fits None (Goes Fences t) = Unit {0}
  Fits None (Goes Quiet t) = Unit {0}
  Fits (Some u) (Ends e) = ⊥
  Fits (Some u) (Goes (Loads w) t) = ⊥
  Fits (Some u) (Goes (Scans w apart many) t) = ⊥
  Fits (Some u) (Goes (Stores w x) t) = u ≡ w
  Fits (Some u) (Goes (Logs w) t) = ⊥
  Fits (Some u) (Goes (Flushes l) t) = ⊥
  Fits (Some u) (Goes Fences t) = ⊥
  Fits (Some u) (Goes Quiet t) = ⊥

  -- the word that waits for its STORE after a step
  abbrev after : Effect → Option ℕ
  after (Loads w) = None
  after (Scans w apart many) = None
  after (Stores w x) = None
  after (Logs w) = Some w
  after (Flushes l) = None
  after Fences = None
  after Quiet = None

  still_waits : (last : Option ℕ) (e : Effect) (t : State) → Fits last (Goes e t)
      → Waits (after e) t
  still_waits None (Logs w) t fits = fits
  still_waits None (Loads w) t fits = tt
  still_waits None (Scans w apart many) t fits = tt
  still_waits None (Stores w x) t fits = tt
  still_waits None (Flushes l) t fits = tt
  still_waits None Fences t fits = tt
  still_waits None Quiet t fits = tt
  still_waits (Some u) (Loads w) t fits = absurd fits
  still_waits (Some u) (Scans w apart many) t fits = absurd fits
  still_waits (Some u) (Stores w x) t fits = tt
  still_waits (Some u) (Logs w) t fits = absurd fits
  still_waits (Some u) (Flushes l) t fits = absurd fits
  still_waits (Some u) Fences t fits = absurd fits
  still_waits (Some u) Quiet t fits = absurd fits

  one_more : (last : Option ℕ) (e : Effect) (t : State) (es : List Effect) → Fits last (Goes e t)
      → IsPaired (after e) (seen_all es) → IsPaired last (seen_all (e ∷ es))
  one_more None (Loads w) t es fits rest = rest
  one_more None (Scans w apart many) t es fits rest =
      pair_headers None w apart many (seen_all es) rest
  one_more None (Stores w x) t es fits rest = rest
  one_more None (Logs w) t es fits rest = rest
  one_more None (Flushes l) t es fits rest = rest
  one_more None Fences t es fits rest = rest
  one_more None Quiet t es fits rest = rest
  one_more (Some u) (Loads w) t es fits rest = absurd fits
  one_more (Some u) (Scans w apart many) t es fits rest = absurd fits
  one_more (Some u) (Stores w x) t es fits rest = (fits, rest)
  one_more (Some u) (Logs w) t es fits rest = absurd fits
  one_more (Some u) (Flushes l) t es fits rest = absurd fits
  one_more (Some u) Fences t es fits rest = absurd fits
  one_more (Some u) Quiet t es fits rest = absurd fits

  none_left : (last : Option ℕ) (e : End) → Fits last (Ends e) → IsPaired last (seen_all [])
  none_left None e fits = tt
  none_left (Some u) e fits = absurd fits

  paired_on : (last : Option ℕ) (o : StepOutcome) (f : Effect → State → Run) (end : End)
      (es : List Effect) → Fits last o →
      ((q : Option ℕ) (e : Effect) (t : State) (rest : List Effect) → Waits q t
      → f e t ≡ Finished end rest → IsPaired q (seen_all rest)) →
      follow f o ≡ Finished end es → IsPaired last (seen_all es)
  paired_on last (Ends q) f end es fits next h =
      let none : [] ≡ es = cc in
      subst (λ (fs : List Effect). IsPaired last (seen_all fs)) none (none_left last q fits)
  paired_on last (Goes e t) f end es fits next h =
      let inv = began_rest e (f e t) end es h in
      subst (λ (fs : List Effect). IsPaired last (seen_all fs)) (sym inv.2)
      (one_more last e t inv.0 fits (next (after e) e t inv.0 (still_waits last e t fits) inv.1))

  module _ (paired : AllByRecursion HasPairs image.parts.functions) (heap : Words)
      (s : State) where
    fits_load : (r : ℕ) (p : Option ℕ) → Fits None (load heap s r p)
    fits_load r None = tt
    fits_load r (Some w) = tt

    fits_store : (x : ℤ) (p : Option ℕ) → Fits None (store s x p)
    fits_store x None = tt
    fits_store x (Some w) = tt

    fits_log : (a : ℕ) (z : ℤ) (p : Option ℕ) → target image s a z ≡ p
        → StoreIn (fetch image (passed s)) a z
        → Fits None (log s p)
    fits_log a z None aims there = tt
    fits_log a z (Some w) aims there =
        record { a = a; z = z; b = there.from; there = there.is; aims = aims }

    fits_flush : (p : Option ℕ) → Fits None (flush s p)
    fits_flush None = tt
    fits_flush (Some l) = tt

    fits_call : (r f : ℕ) (args : List ℕ) → Fits None (call s r f args)
    fits_call r f args = by_depth (ltb (length s.below + 1) 256)
      where
        by_depth : (b : Bool) → Fits None
            (if b then Goes Quiet (entered s r f args) else Ends (Trapped trap.Depth))
        by_depth true = tt
        by_depth false = tt

    fits_return : (v : ℤ) (o : Option Frame) → Fits None (return s v o)
    fits_return v None = tt
    fits_return v (Some caller) = tt

    fits_tick : (b : Bool) → Fits None
        (if b then Ends (Trapped trap.Steps) else Goes Quiet (tick_spent s))
    fits_tick true = tt
    fits_tick false = tt

    fits_act : (i : Option Op) → fetch image s ≡ i → Fits None (execute image heap s i)
    fits_act None e = tt
    fits_act (Some (Load r a o)) e = fits_load r (target image s a o)
    fits_act (Some (Store a o b)) e = fits_store (read_register s b) (target image s a o)
    fits_act (Some (Log a o)) e =
        fits_log a o (target image s a o) refl
        (after_in (slice_get image.parts.functions s.top.function) s.top.place a o
        (λ u is. paired_at image.parts.functions s.top.function u paired is) e)
    fits_act (Some Flush) e = fits_flush (slice_get s.dirty 0)
    fits_act (Some (Call r f args)) e = fits_call r f args
    fits_act (Some (Ret a)) e = fits_return (read_register s a)
        (slice_get s.below (length s.below - 1))
    fits_act (Some Tick) e = fits_tick (s.ticks == 0)
    fits_act (Some i) e = tt

    fits_step : (last : Option ℕ) → Waits last s → Fits last (step image s heap)
    fits_step None waits = fits_act (fetch image s) refl
    fits_step (Some u) waits =
        subst (λ (i : Option Op). Fits (Some u) (execute image heap s i))
        (sym waits.there)
        (subst (λ (p : Option ℕ). Fits (Some u) (store s (read_register s waits.b) p))
        (sym waits.aims) refl)

  pub paired_run : (paired : AllByRecursion HasPairs image.parts.functions) (k : ℕ)
      (last : Option ℕ) (s : State) (heap : Words) (end : End) (es : List Effect) → Waits last s
      → run image k s heap ≡ Finished end es → IsPaired last (seen_all es)
  paired_run paired zero last s heap end es waits h = absurd (cc)
  paired_run paired (suc k) last s heap end es waits h =
      paired_on last (step image s heap)
      (λ e t. run image k t (heap_past heap e)) end es
      (fits_step paired heap s last waits)
      (λ q e t rest w r. paired_run paired k q t (heap_past heap e) end rest w r)
      h

pub paired_all : PairedLaw
paired_all image k s heap end es paired h = paired_run image paired k None s heap end es tt h
