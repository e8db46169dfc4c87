-- A run stays in the heap, its records fit, and its trap's number is at least 1.
use Rattle.std.proofs.Common.{◌≡◌, ⊎_elim, ℕ, zero, suc, ◌+◌, ◌<◌, ◌≤◌, List, [], ◌∷◌, ◌++◌}
use Rattle.std.proofs.Common.{Option, Some, None, Bool, true, false, if◌then◌else◌, ℤ, refl, sym}
use Rattle.std.proofs.Common.{subst, arith}
use Rattle.cache_model.specs.Cache.{Words}
use Rattle.pool_layout.specs.Sizes.{heap_words}
use Rattle.pool_map.specs.declared.trap.TrapKind.{TrapKind}
use Rattle.pool_map.specs.declared.trap.TrapKind.TheVariants as trap
use Rattle.pool_map.specs.Trap.{trap_number}
use Rattle.crash_law.specs.Due as due
use Rattle.crash_law.specs.Effects.{IsOverwritten, logs_of}
use Rattle.pm_machine.specs.declared.effect.Effect.{Effect}
use Rattle.pm_machine.specs.declared.effect.Effect.TheVariants.{Loads, Scans, Stores, Logs, Flushes}
use Rattle.pm_machine.specs.declared.effect.Effect.TheVariants.{Fences, Quiet}
use Rattle.pm_machine.specs.declared.effect.End.{End}
use Rattle.pm_machine.specs.declared.effect.End.TheVariants.{Halted, Trapped}
use Rattle.pm_machine.specs.declared.image.Image.{Image}
use Rattle.pm_machine.specs.declared.records.Policy.{Policy}
use Rattle.pm_machine.specs.declared.records.Policy.TheVariants.{EndPool, RollBack}
use Rattle.pm_machine.specs.Effects.{heap_end}
use Rattle.pm_machine.specs.Machine.{State, StepOutcome, Goes, Ends, Run, Finished, step}
use Rattle.pm_machine.specs.Logging.{Logging, Plays, Stops, missing, bare, with_record, noted}
use Rattle.pm_machine.specs.Logging.{has_room, turn, follows, logged_run}
use Rattle.pm_machine.specs.Runs.{AreLines}
use Rattle.pm_machine.specs.inside.Runs.{IsInRange, StepKeeps}
use Rattle.pm_machine.proofs.Range.{keeps_step}
use Rattle.pm_machine.proofs.Recording.{begun_rest, room_after}
use Rattle.run_law.specs.Seen.{seen_all, result_of}
use Rattle.run_law.proofs.Headers.{logs_headers, headers_over}

module _ (C H : ℕ) where
  abbrev Fit : ℕ → List Effect → Type 0
  Fit n es = ((w : ℕ) → IsOverwritten (seen_all es) w → w < H) × (n + logs_of (seen_all es) ≤ C)

  fit_bare : (n : ℕ) (e : Effect) (es : List Effect) → IsInRange H e → Fit n es
      → Fit n (bare e ∷ es)
  fit_bare n (Loads w) es fits rest = rest
  fit_bare n (Scans w apart many) es fits rest =
      let same = logs_headers w apart many (seen_all es) in
      ((λ u over. rest.0 u (headers_over w apart many u (seen_all es) over)), omega (arith, rest.1))
  fit_bare n (Stores w x) es fits rest = (
    (λ u over. ⊎_elim (λ e. subst (λ (v : ℕ). v < H) (sym e) fits) (λ later. rest.0 u later) over),
    rest.1,
  )
  fit_bare n (Logs w) es fits rest = rest
  fit_bare n (Flushes l) es fits rest = rest
  fit_bare n Fences es fits rest = rest
  fit_bare n Quiet es fits rest = rest

  -- a step with its record
  fit_more : (g : Logging) (o : Option ℕ) (e : Effect) (es : List Effect) → IsInRange H e
      → Fit (noted g o).count es → Fit g.count (with_record o e ++ es)
  fit_more g None e es fits rest = fit_bare g.count e es fits rest
  fit_more g (Some w) e es fits rest =
      let both = fit_bare (suc g.count) e es fits rest in (both.0, let r = both.1 in omega arith)

pub trap_some : (k : TrapKind) → 0 < trap_number k
trap_some trap.Null = omega arith
trap_some trap.Stale = omega arith
trap_some trap.Index = omega arith
trap_some trap.Divide = omega arith
trap_some trap.Steps = omega arith
trap_some trap.Abort = omega arith
trap_some trap.LogFull = omega arith
trap_some trap.Depth = omega arith

pub trap_is : (p : Policy) (last : ℤ) (end : End) (t : ℕ)
    → result_of p last end ≡ due.Trapped t → 0 < t
trap_is p last (Halted v) t is = absurd (cc)
trap_is EndPool last (Trapped k) t is = let e : trap_number k ≡ t = cc in
    subst (λ (i : ℕ). 0 < i) e (trap_some k)
trap_is RollBack last (Trapped k) t is = absurd (cc)

module _ (image : Image) (end : End) where
  abbrev C : ℕ
  C = image.parts.sizes.records

  abbrev words : ℕ
  words = heap_words image.parts.sizes

  abbrev next_run : ℕ → Words → List Effect → Logging → State → Run
  next_run k heap es g t = logged_run image k g t (heap_end heap es)

  held_on : (k : ℕ) (g : Logging) (heap : Words) (o : StepOutcome) (es : List Effect)
      → g.count ≤ C → StepKeeps words o →
      ((g : Logging) (t : State) (h : Words) (rest : List Effect) → g.count ≤ C
      → AreLines words t.dirty → logged_run image k g t h ≡ Finished end rest
      → Fit C words g.count rest) →
      follows (next_run k heap) (turn C g o) ≡ Finished end es → Fit C words g.count es
  held_on k g heap (Ends q) es le keeps next ran =
      let none : [] ≡ es = cc in
      subst (Fit C words g.count) none ((λ w over. absurd over), omega arith)
  held_on k g heap (Goes e t) es le keeps next ran = go (has_room C g o) refl ran
    where
      o : Option ℕ
      o = missing g e

      go : (b : Bool) → has_room C g o ≡ b →
          follows (next_run k heap)
          (if b then Plays (with_record o e) (noted g o) t else Stops (Trapped trap.LogFull))
          ≡ Finished end es → Fit C words g.count es
      go false room ran =
          let none : [] ≡ es = cc in
          subst (Fit C words g.count) none ((λ w over. absurd over), omega arith)
      go true room ran =
          let inv = begun_rest (with_record o e) (next_run k heap (with_record o e) (noted g o) t)
          end es ran in
          subst (Fit C words g.count) (sym inv.2)
          (fit_more C words g o e inv.0 keeps.0
          (next (noted g o) t (heap_end heap (with_record o e)) inv.0 (room_after C g o le room)
          keeps.1 inv.1))

  pub run_held : (k : ℕ) (g : Logging) (s : State) (heap : Words) (es : List Effect)
      → g.count ≤ C → AreLines words s.dirty → logged_run image k g s heap ≡ Finished end es
      → Fit C words g.count es
  run_held zero g s heap es le lines ran = absurd (cc)
  run_held (suc k) g s heap es le lines ran =
      held_on k g heap (step image s heap) es le
      (keeps_step image heap s (step image s heap) lines refl) (λ g t h rest.
      run_held k g t h rest) ran
