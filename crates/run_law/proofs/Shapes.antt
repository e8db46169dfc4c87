-- The shape of what is left of a tidy run.
use Rattle.std.proofs.Common.{◌≡◌, ℕ, ◌/◌, nat_eq, List, [], ◌∷◌, ℤ, refl}
use Rattle.indexmap.specs.IndexSet.{insert_key}
use Rattle.pm_machine.specs.declared.effect.Effect.{Effect}
use Rattle.pm_machine.specs.declared.effect.Effect.TheVariants.{Loads, Scans, Stores, Logs, Flushes}
use Rattle.pm_machine.specs.declared.effect.Effect.TheVariants.{Fences, Quiet}
use Rattle.pm_machine.specs.declared.effect.End.{End}
use Rattle.pm_machine.specs.declared.effect.End.TheVariants.{Halted, Trapped}
use Rattle.run_law.specs.Sound.{IsStill, IsFlushed, IsTidy, IsTidyEnd}

-- the shape of the rest of a tidy run: stores may come; the lines are flushed; nothing comes; or no
-- flush and no fence comes
pub data Shape : Type 0 where
  Open Closing : List ℕ → Shape
  Over Still : Shape

abbrev pub Fits : Shape → List Effect → Type 0
Fits (Open ds) es = IsTidy ds es
Fits (Closing ds) es = IsFlushed ds es
Fits Over es = es ≡ []
Fits Still es = IsStill es

-- stores may come
abbrev pub MayStore : Shape → Type 0
MayStore (Open ds) = Unit {0}
MayStore (Closing ds) = ⊥
MayStore Over = ⊥
MayStore Still = Unit {0}

abbrev pub flushed : List ℕ → Shape
flushed [] = Over
flushed (k ∷ ks) = Closing ks

abbrev pub next : Shape → Effect → Shape
next (Open ds) (Stores w x) = Open (insert_key nat_eq ds (w / 8))
next (Open ds) (Flushes l) = flushed ds
next (Open ds) Fences = Over
next (Open ds) e = Open ds
next (Closing ds) (Flushes l) = flushed ds
next (Closing ds) Fences = Over
next (Closing ds) e = Closing ds
next Over e = Over
next Still e = Still

pub record Tail (sh : Shape) (e : Effect) (fs : List Effect) : Type 0 where
  pub there : Fits (next sh e) fs
  pub back : (es : List Effect) → Fits (next sh e) es → Fits sh (e ∷ es)
  pub open_before : MayStore (next sh e) → MayStore sh
      × ((es : List Effect) → IsStill es → IsStill (e ∷ es))

flush_tail : (ds : List ℕ) (l : ℕ) (fs : List Effect) → IsFlushed ds (Flushes l ∷ fs) →
    Tail (Closing ds) (Flushes l) fs
flush_tail [] l fs h = absurd h
flush_tail (k ∷ ks) l fs h =
    record { there = h.1; back = λ es g. (h.0, g); open_before = λ may. absurd may }

fence_tail : (ds : List ℕ) (fs : List Effect) → IsFlushed ds (Fences ∷ fs) →
    Tail (Closing ds) Fences fs
fence_tail [] fs h = record { there = h; back = λ es g. g; open_before = λ may. absurd may }
fence_tail (k ∷ ks) fs h = absurd h

pub tail_of : (sh : Shape) (e : Effect) (fs : List Effect) → Fits sh (e ∷ fs) → Tail sh e fs
tail_of (Open ds) (Loads w) fs h =
    record { there = h; back = λ es g. g; open_before = λ may. (tt, λ es still. still) }
tail_of (Open ds) (Scans w apart m) fs h =
    record { there = h; back = λ es g. g; open_before = λ may. (tt, λ es still. still) }
tail_of (Open ds) (Stores w x) fs h =
    record { there = h; back = λ es g. g; open_before = λ may. (tt, λ es still. still) }
tail_of (Open ds) (Logs w) fs h =
    record { there = h; back = λ es g. g; open_before = λ may. (tt, λ es still. still) }
tail_of (Open ds) Quiet fs h =
    record { there = h; back = λ es g. g; open_before = λ may. (tt, λ es still. still) }
tail_of (Open []) (Flushes l) fs h = absurd h
tail_of (Open (k ∷ ks)) (Flushes l) fs h =
    record { there = h.1; back = λ es g. (h.0, g); open_before = λ may. absurd may }
tail_of (Open []) Fences fs h =
    record { there = h; back = λ es g. g; open_before = λ may. absurd may }
tail_of (Open (k ∷ ks)) Fences fs h = absurd h
tail_of (Closing ds) (Loads w) fs h =
    record { there = h; back = λ es g. g; open_before = λ may. absurd may }
tail_of (Closing ds) (Scans w apart m) fs h =
    record { there = h; back = λ es g. g; open_before = λ may. absurd may }
tail_of (Closing ds) (Stores w x) fs h = absurd h
tail_of (Closing ds) (Logs w) fs h = absurd h
tail_of (Closing ds) Quiet fs h =
    record { there = h; back = λ es g. g; open_before = λ may. absurd may }
tail_of (Closing ds) (Flushes l) fs h = flush_tail ds l fs h
tail_of (Closing ds) Fences fs h = fence_tail ds fs h
tail_of Over e fs h = absurd (cc (h))
tail_of Still (Loads w) fs h =
    record { there = h; back = λ es g. g; open_before = λ may. (tt, λ es still. still) }
tail_of Still (Scans w apart m) fs h =
    record { there = h; back = λ es g. g; open_before = λ may. (tt, λ es still. still) }
tail_of Still (Stores w x) fs h =
    record { there = h; back = λ es g. g; open_before = λ may. (tt, λ es still. still) }
tail_of Still (Logs w) fs h =
    record { there = h; back = λ es g. g; open_before = λ may. (tt, λ es still. still) }
tail_of Still Quiet fs h =
    record { there = h; back = λ es g. g; open_before = λ may. (tt, λ es still. still) }
tail_of Still (Flushes l) fs h = absurd h
tail_of Still Fences fs h = absurd h

pub may_store : (sh : Shape) (w : ℕ) (x : ℤ) (fs : List Effect) → Fits sh (Stores w x ∷ fs) →
    MayStore sh
may_store (Open ds) w x fs h = tt
may_store (Closing ds) w x fs h = h
may_store Over w x fs h = absurd (cc (h))
may_store Still w x fs h = tt

pub may_log : (sh : Shape) (w : ℕ) (fs : List Effect) → Fits sh (Logs w ∷ fs) → MayStore sh
may_log (Open ds) w fs h = tt
may_log (Closing ds) w fs h = h
may_log Over w fs h = absurd (cc (h))
may_log Still w fs h = tt

pub log_before : (sh : Shape) (w : ℕ) (es : List Effect) → MayStore sh → Fits sh es →
    Fits sh (Logs w ∷ es)
log_before (Open ds) w es may h = h
log_before (Closing ds) w es may h = absurd may
log_before Over w es may h = absurd may
log_before Still w es may h = h

pub quiet_before : (sh : Shape) (es : List Effect) → MayStore sh → Fits sh es → Fits sh (Quiet ∷ es)
quiet_before (Open ds) es may h = h
quiet_before (Closing ds) es may h = absurd may
quiet_before Over es may h = absurd may
quiet_before Still es may h = h

-- after a LOG the shape is the same
pub log_next : (sh : Shape) (w : ℕ) → MayStore sh → next sh (Logs w) ≡ sh
log_next (Open ds) w may = refl
log_next (Closing ds) w may = absurd may
log_next Over w may = absurd may
log_next Still w may = refl

-- the shape of a run, by its end
abbrev pub shape : End → Shape
shape (Halted v) = Open []
shape (Trapped k) = Still

pub fits_of : (end : End) (fs : List Effect) → IsTidyEnd [] end fs → Fits (shape end) fs
fits_of (Halted v) fs h = h
fits_of (Trapped k) fs h = h

pub of_fits : (end : End) (fs : List Effect) → Fits (shape end) fs → IsTidyEnd [] end fs
of_fits (Halted v) fs h = h
of_fits (Trapped k) fs h = h
