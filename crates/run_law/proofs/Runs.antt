-- The machine's runs have the properties that the crash law asks for.
use Rattle.std.proofs.Common.{pos, ◌≡◌, ◌⊎◌, inl, inr, ℕ, suc, List, [], ◌∷◌, ◌++◌, None}
use Rattle.std.proofs.Common.{refl, sym, ap, ◌∙◌, append_assoc, ℤ, arith}
use Rattle.cache_model.specs.Event.{CacheEvent, Flush, Fence}
use Rattle.cache_model.specs.Cache.{Words}
use Rattle.pool_layout.specs.Sizes.{heap_words}
use Rattle.pool_map.specs.Trap.{trap_number}
use Rattle.crash_law.specs.Due.{Entry, run_events, flush_all, lines_of, Undone, undo_events}
use Rattle.crash_law.specs.Due.{no_records, records_after}
use Rattle.args_log.specs.Retire.{retire_events, mark_events}
use Rattle.crash_law.specs.Pools.{IsKept}
use Rattle.crash_law.specs.Effects.{Effect as Seen}
use Rattle.crash_law.specs.Law.{IsRun}
use Rattle.crash_law.proofs.Effects.{trace_from, stored_of}
use Rattle.pm_machine.specs.declared.effect.Effect.{Effect}
use Rattle.pm_machine.specs.declared.effect.End.{End}
use Rattle.pm_machine.specs.declared.effect.End.TheVariants.{Halted, Trapped}
use Rattle.pm_machine.specs.declared.records.Policy.{Policy}
use Rattle.pm_machine.specs.declared.records.Policy.TheVariants.{EndPool, RollBack}
use Rattle.pm_machine.specs.declared.image.Image.{Image}
use Rattle.pm_machine.specs.Inputs as own
use Rattle.pm_machine.specs.Machine.{State, Finished}
use Rattle.pm_machine.specs.Logging.{blank, logged_run}
use Rattle.pm_machine.specs.Runs.{AreLines}
use Rattle.run_law.specs.Seen.{seen_all, trace_in, result_of, E, W}
use Rattle.run_law.specs.Sound.{IsSoundRun}
use Rattle.run_law.specs.Law.{DueRunLaw, RestoredLaw}
use Rattle.run_law.proofs.Inputs.{over_seen, seen_over}
use Rattle.run_law.proofs.Join.{join}
use Rattle.run_law.proofs.Sounds.{run_held, trap_is}

-- a call that is undone restores each word that it overwrites
undone_covers : (p : Policy) (last : ℤ) (end : End) (es : List Effect) (before : ℤ)
    → result_of p last end ≡ Undone before → (w : ℕ) → W es w → E p es w
undone_covers p last (Halted v) es before is w over = absurd (cc (is))
undone_covers EndPool last (Trapped k) es before is w over = absurd (cc (is))
undone_covers RollBack last (Trapped k) es before is w over = inr over

pub run_is : (p : Policy) (last : ℤ) (image : Image) (super : Words) (k : ℕ) (s : State)
    (heap : Words) (end : End) (es : List Effect) →
    AreLines (heap_words image.parts.sizes) s.dirty
    → logged_run image k (blank p) s heap ≡ Finished end es → IsSoundRun p end es →
    IsRun (record { sizes = image.parts.sizes; super = super }) (E p es) (W es)
    (result_of p last end) (trace_in es)
run_is p last image super k s heap end es lines ran is =
    let seen : List Seen = seen_all es in
    let held = run_held image end k (blank p) s heap es (omega arith) lines ran in
    record {
      trace_is = trace_from image.parts.sizes.records (heap_words image.parts.sizes)
          (E p es) (W es) seen None 0 (λ w. ⊥) (seen_over es) held.0 is.paired
          (let f = held.1 in omega arith)
          (λ u input h. inr (inr (is.covered u input (seen_over es u h))));
      all_stored = λ w over. stored_of None seen w (over_seen es w over);
      trap_is = trap_is p last end;
      undone_is = λ before e w over. undone_covers p last end es before e w over;
    }

flush_all_append : (ls : List ℕ) (es fs : List CacheEvent)
    → flush_all ls es ++ fs ≡ flush_all ls (es ++ fs)
flush_all_append [] es fs = refl
flush_all_append (l ∷ ls) es fs =
    ap (λ (r : List CacheEvent). Flush l ∷ r) (flush_all_append ls es fs)

pub due_run_is : DueRunLaw
due_run_is p z a k heap last (Halted v) es is =
    let trace : List Entry = trace_in es in
    ap (λ (r : List CacheEvent). r ++ retire_events v (pos k) (pos (suc a)))
    (join z a heap (Halted v) es is.paired is.tidy).0
    ∙ append_assoc (run_events z a 0 heap trace) (flush_all (lines_of z [] trace) (Fence ∷ []))
    (retire_events v (pos k) (pos (suc a)))
    ∙ ap (λ (r : List CacheEvent). run_events z a 0 heap trace ++ r)
    (flush_all_append (lines_of z [] trace) (Fence ∷ []) (retire_events v (pos k) (pos (suc a))))
due_run_is EndPool z a k heap last (Trapped t) es is =
    let trace : List Entry = trace_in es in
    ap (λ (r : List CacheEvent). r ++ mark_events (trap_number t))
    (join z a heap (Trapped t) es is.paired is.tidy).0
    ∙ append_assoc (run_events z a 0 heap trace) [] (mark_events (trap_number t))
due_run_is RollBack z a k heap last (Trapped t) es is =
    let trace : List Entry = trace_in es in
    let undo : List CacheEvent = undo_events z a k (records_after no_records heap trace) last in
    ap (λ (r : List CacheEvent). r ++ undo)
    (join z a heap (Trapped t) es is.paired is.tidy).0
    ∙ append_assoc (run_events z a 0 heap trace) [] undo

-- what is loaded is kept, and so is what isn't overwritten
kept_by : (p : Policy) (es : List Effect) (u : ℕ) → (W es u → ⊥) ⊎ own.IsInput es u
    → IsKept (E p es) (W es) u
kept_by p es u (inl never) = inl never
kept_by EndPool es u (inr input) = inr input
kept_by RollBack es u (inr input) = inr (inl input)

pub restored_alike : RestoredLaw
restored_alike p H es h r restores u lt kept = sym (restores u lt (kept_by p es u kept))
