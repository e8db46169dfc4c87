-- The inputs and the overwritten words of a run, as the machine and as the crash law have them.
use Rattle.std.proofs.Common.{inl, inr, ⊎_elim, ℕ, List, [], ◌∷◌}
use Rattle.crash_law.specs.Effects.{IsInput, IsOverwritten}
use Rattle.pm_machine.specs.declared.effect.Effect.{Effect}
use Rattle.pm_machine.specs.declared.effect.Effect.TheVariants as effect
use Rattle.pm_machine.specs.Inputs as own
use Rattle.run_law.specs.Seen.{seen_all}
use Rattle.run_law.proofs.Headers.{input_headers, over_headers, headers_over}

pub input_seen : (es : List Effect) (u : ℕ) → own.IsInput es u → IsInput (seen_all es) u
input_seen [] u h = h
input_seen (effect.Loads w ∷ es) u h = ⊎_elim (λ e. inl e) (λ r. inr (input_seen es u r)) h
input_seen (effect.Scans w apart many ∷ es) u h =
    input_headers w apart many u (seen_all es)
    (⊎_elim (λ is. inl is) (λ r. inr (input_seen es u r)) h)
input_seen (effect.Stores w x ∷ es) u h = (h.0, input_seen es u h.1)
input_seen (effect.Logs w ∷ es) u h = input_seen es u h
input_seen (effect.Flushes l ∷ es) u h = input_seen es u h
input_seen (effect.Fences ∷ es) u h = input_seen es u h
input_seen (effect.Quiet ∷ es) u h = input_seen es u h

pub over_seen : (es : List Effect) (u : ℕ) → own.IsOverwritten es u → IsOverwritten (seen_all es) u
over_seen [] u h = h
over_seen (effect.Loads w ∷ es) u h = over_seen es u h
over_seen (effect.Scans w apart many ∷ es) u h =
    over_headers w apart many u (seen_all es) (over_seen es u h)
over_seen (effect.Stores w x ∷ es) u h = ⊎_elim (λ e. inl e) (λ r. inr (over_seen es u r)) h
over_seen (effect.Logs w ∷ es) u h = over_seen es u h
over_seen (effect.Flushes l ∷ es) u h = over_seen es u h
over_seen (effect.Fences ∷ es) u h = over_seen es u h
over_seen (effect.Quiet ∷ es) u h = over_seen es u h

pub seen_over : (es : List Effect) (u : ℕ) → IsOverwritten (seen_all es) u → own.IsOverwritten es u
seen_over [] u h = h
seen_over (effect.Loads w ∷ es) u h = seen_over es u h
seen_over (effect.Scans w apart many ∷ es) u h =
    seen_over es u (headers_over w apart many u (seen_all es) h)
seen_over (effect.Stores w x ∷ es) u h = ⊎_elim (λ e. inl e) (λ r. inr (seen_over es u r)) h
seen_over (effect.Logs w ∷ es) u h = seen_over es u h
seen_over (effect.Flushes l ∷ es) u h = seen_over es u h
seen_over (effect.Fences ∷ es) u h = seen_over es u h
seen_over (effect.Quiet ∷ es) u h = seen_over es u h
