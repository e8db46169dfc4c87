-- The loads of headers change only the inputs of a run as the crash law sees it.
use Rattle.std.proofs.Common.{◌≡◌, ◌⊎◌, inl, inr, ℕ, zero, suc, ◌+◌, List, Option, Some}
use Rattle.std.proofs.Common.{None, ℤ, refl}
use Rattle.pool_layout.specs.declared.limits.Sizes.{Sizes}
use Rattle.crash_law.specs.Effects.{Effect, IsInput, IsOverwritten, IsLoggedFirst, IsPaired}
use Rattle.crash_law.specs.Effects.{trace_of, logs_of, effect_events}
use Rattle.pm_machine.specs.Find.{IsHeader}
use Rattle.run_law.specs.Seen.{headers_before}

pub events_headers : (z : Sizes) (a n : ℕ) (heap : ℕ → ℤ) (w d k : ℕ) (es : List Effect) →
    effect_events z a n heap (headers_before w d k es) ≡ effect_events z a n heap es
events_headers z a n heap w d zero es = refl
events_headers z a n heap w d (suc k) es = events_headers z a n heap (w + d) d k es

pub trace_headers : (last : Option ℕ) (w d k : ℕ) (es : List Effect) →
    trace_of last (headers_before w d k es) ≡ trace_of last es
trace_headers last w d zero es = refl
trace_headers last w d (suc k) es = trace_headers last (w + d) d k es

pub logs_headers : (w d k : ℕ) (es : List Effect) → logs_of (headers_before w d k es) ≡ logs_of es
logs_headers w d zero es = refl
logs_headers w d (suc k) es = logs_headers (w + d) d k es

pub over_headers : (w d k u : ℕ) (es : List Effect) → IsOverwritten es u →
    IsOverwritten (headers_before w d k es) u
over_headers w d zero u es h = h
over_headers w d (suc k) u es h = over_headers (w + d) d k u es h

pub headers_over : (w d k u : ℕ) (es : List Effect) → IsOverwritten (headers_before w d k es) u →
    IsOverwritten es u
headers_over w d zero u es h = h
headers_over w d (suc k) u es h = headers_over (w + d) d k u es h

pub first_headers : (w d k u : ℕ) (es : List Effect) → IsLoggedFirst es u →
    IsLoggedFirst (headers_before w d k es) u
first_headers w d zero u es h = h
first_headers w d (suc k) u es h = first_headers (w + d) d k u es h

pub headers_first : (w d k u : ℕ) (es : List Effect) → IsLoggedFirst (headers_before w d k es) u →
    IsLoggedFirst es u
headers_first w d zero u es h = h
headers_first w d (suc k) u es h = headers_first (w + d) d k u es h

pub pair_headers : (last : Option ℕ) (w d k : ℕ) (es : List Effect) → IsPaired last es →
    IsPaired last (headers_before w d k es)
pair_headers last w d zero es h = h
pair_headers None w d (suc k) es h = pair_headers None (w + d) d k es h
pair_headers (Some v) w d (suc k) es h = pair_headers (Some v) (w + d) d k es h

pub headers_pair : (last : Option ℕ) (w d k : ℕ) (es : List Effect) →
    IsPaired last (headers_before w d k es) → IsPaired last es
headers_pair last w d zero es h = h
headers_pair None w d (suc k) es h = headers_pair None (w + d) d k es h
headers_pair (Some v) w d (suc k) es h = headers_pair (Some v) (w + d) d k es h

-- a header that is loaded is an input, and so is each input of what follows
pub input_headers : (w d k u : ℕ) (es : List Effect) → IsHeader w d k u ⊎ IsInput es u →
    IsInput (headers_before w d k es) u
input_headers w d zero u es (inl h) = absurd h
input_headers w d zero u es (inr h) = h
input_headers w d (suc k) u es (inl (inl e)) = inl e
input_headers w d (suc k) u es (inl (inr h)) = inr (input_headers (w + d) d k u es (inl h))
input_headers w d (suc k) u es (inr h) = inr (input_headers (w + d) d k u es (inr h))
