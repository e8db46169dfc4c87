-- A run with its records is sound if the run without them is.
use Rattle.std.proofs.Common.{◌≡◌, ◌≢◌, ◌⊎◌, ◌||◌, inl, inr, ⊎_elim, ℕ, suc, ◌+◌}
use Rattle.std.proofs.Common.{if◌then◌else◌, nat_lt}
use Rattle.std.proofs.Common.{nat_eq, Bool, true, false, List, [], ◌∷◌, ◌++◌, Option, Some, None}
use Rattle.std.proofs.Common.{ℤ, refl, sym, ap, ◌∙◌, subst, eqb-true, eq-eqb}
use Rattle.std.specs.List.{list_any}
use Rattle.std.proofs.lemmas.Bool.{cases_eq, or_cases}
use Rattle.std.proofs.lemmas.List.Folds.{list_any-append}
use Rattle.indexmap.specs.IndexSet.{insert_key}
use Rattle.pool_map.specs.declared.trap.TrapKind.TheVariants.{LogFull}
use Rattle.pm_machine.specs.declared.effect.Effect.{Effect}
use Rattle.pm_machine.specs.declared.effect.Effect.TheVariants.{Loads, Scans, Stores, Logs, Flushes}
use Rattle.pm_machine.specs.declared.effect.Effect.TheVariants.{Fences, Quiet}
use Rattle.pm_machine.specs.declared.effect.End.{End}
use Rattle.pm_machine.specs.declared.effect.End.TheVariants.{Trapped}
use Rattle.pm_machine.specs.declared.records.Policy.{Policy}
use Rattle.pm_machine.specs.declared.records.Policy.TheVariants.{EndPool, RollBack}
use Rattle.pm_machine.specs.Inputs.{IsInput, IsOverwritten}
use Rattle.pm_machine.specs.Machine.{Run, Finished}
use Rattle.pm_machine.specs.Logging.{Logging, with_record, has_room, noted, begun, with_records}
use Rattle.crash_law.specs.Effects.{IsPaired, IsLoggedFirst}
use Rattle.crash_law.specs.Effects as past
use Rattle.run_law.specs.Seen.{seen_all, E, W}
use Rattle.run_law.specs.Sound.{IsStill, IsTidyEnd, IsSoundRun}
use Rattle.run_law.specs.Law.{RecordsSoundLaw}
use Rattle.run_law.proofs.Headers.{pair_headers, headers_pair, first_headers, headers_first}
use Rattle.run_law.proofs.Shapes.{Shape, Fits, MayStore, next, tail_of, may_store, may_log}
use Rattle.run_law.proofs.Shapes.{log_before, quiet_before, log_next, shape, fits_of, of_fits}

-- the word is one of the list
abbrev Listed : ℕ → List ℕ → Type 0
Listed u ws = list_any (nat_eq u) ws ≡ true

insert_listed : (u w : ℕ) (ws : List ℕ) → Listed u (insert_key nat_eq ws w)
    → (u ≡ w) ⊎ Listed u ws
insert_listed u w ws is = go (list_any (nat_eq w) ws) is
  where
    go : (b : Bool) → Listed u (if b then ws else ws ++ w ∷ []) → (u ≡ w) ⊎ Listed u ws
    go true is = inr is
    go false is =
        ⊎_elim (λ old. inr old)
        (λ new. ⊎_elim (λ e. inl (eqb-true u w e)) (λ no. absurd (cc (no)))
        (or_cases (nat_eq u w) false new))
        (or_cases (list_any (nat_eq u) ws) (nat_eq u w || false)
        (sym (list_any-append (nat_eq u) ws (w ∷ [])) ∙ is))

inserted : (w : ℕ) (ws : List ℕ) → Listed w (insert_key nat_eq ws w)
inserted w ws = go (list_any (nat_eq w) ws) refl
  where
    last : (b : Bool) → nat_eq w w ≡ true → (b || (nat_eq w w || false)) ≡ true
    last true e = refl
    last false e = ap (λ (x : Bool). x || false) e

    go : (b : Bool) → list_any (nat_eq w) ws ≡ b → Listed w (if b then ws else ws ++ w ∷ [])
    go true is = is
    go false is = list_any-append (nat_eq w) ws (w ∷ [])
        ∙ last (list_any (nat_eq w) ws) (eq-eqb w w refl)

-- The word of the last LOG whose STORE hasn't come, in the run without records and in the one with
-- them; a LOG of a word that has a record is quiet in the second.
abbrev Pending : List ℕ → (q last : Option ℕ) → Type 0
Pending ws None None = Unit {0}
Pending ws None (Some u) = ⊥
Pending ws (Some v) None = Listed v ws
Pending ws (Some v) (Some u) = (v ≡ u) × Listed v ws

-- what is asked of the run without records, so that a word's first store is logged
abbrev Asked : Policy → List Effect → ℕ → Type 0
Asked EndPool fs u = IsLoggedFirst (seen_all fs) u
Asked RollBack fs u = Unit {0}

-- the run r with records beside the one with these effects
record Shown (p : Policy) (ws : List ℕ) (sh : Shape) (last : Option ℕ) (end0 : End)
    (fs : List Effect) (r : Run) : Type 0 where
  end : End
  es : List Effect
  ran : r ≡ Finished end es
  paired : IsPaired last (seen_all es)
  fits : ((end ≡ end0) × Fits sh es) ⊎ ((end ≡ Trapped LogFull) × IsStill es × MayStore sh)
  inputs : (u : ℕ) → IsInput es u → IsInput fs u
  over : (u : ℕ) → IsOverwritten es u → IsOverwritten fs u
  covers : (u : ℕ) → Asked p fs u → IsOverwritten es u
      → Listed u ws ⊎ IsLoggedFirst (seen_all es) u

-- an effect that stands in both runs
module _ (p : Policy) (ws : List ℕ) (sh : Shape) (end0 : End) (fs : List Effect) (r : Run) where
  abbrev Fitted : Shape → End → List Effect → Type 0
  Fitted sh end es = ((end ≡ end0) × Fits sh es)
      ⊎ ((end ≡ Trapped LogFull) × IsStill es × MayStore sh)

  fits_more : (e : Effect) (end : End) (es : List Effect) → Fits sh (e ∷ fs)
      → Fitted (next sh e) end es → Fitted sh end (e ∷ es)
  fits_more e end es fits f =
      let tail = tail_of sh e fs fits in
      ⊎_elim (λ k. inl (k.0, tail.back es k.1))
      (λ k. let o = tail.open_before k.2 in inr (k.0, o.1 es k.1, o.0)) f

  -- one that is neither a store nor a LOG
  record IsPlain (e : Effect) : Type 0 where
    pair : (last : Option ℕ) (es : List Effect) → IsPaired last (seen_all es)
        → IsPaired last (seen_all (e ∷ es))
    inputs : (es : List Effect) (u : ℕ) → ((u : ℕ) → IsInput es u → IsInput fs u)
        → IsInput (e ∷ es) u → IsInput (e ∷ fs) u
    over : (es : List Effect) (u : ℕ) → IsOverwritten (e ∷ es) u → IsOverwritten es u
    over_back : (u : ℕ) → IsOverwritten fs u → IsOverwritten (e ∷ fs) u
    first : (es : List Effect) (u : ℕ) → IsLoggedFirst (seen_all es) u
        → IsLoggedFirst (seen_all (e ∷ es)) u
    asked : (u : ℕ) → Asked p (e ∷ fs) u → Asked p fs u

  shown_plain : (e : Effect) (last : Option ℕ) → IsPlain e → Fits sh (e ∷ fs)
      → Shown p ws (next sh e) last end0 fs r
      → Shown p ws sh last end0 (e ∷ fs) (begun (e ∷ []) r)
  shown_plain e last plain fits s = record {
    end = s.end;
    es = e ∷ s.es;
    ran = ap (begun (e ∷ [])) s.ran;
    paired = plain.pair last s.es s.paired;
    fits = fits_more e s.end s.es fits s.fits;
    inputs = λ u input. plain.inputs s.es u s.inputs input;
    over = λ u over. plain.over_back u (s.over u (plain.over s.es u over));
    covers = λ u asked over. ⊎_elim (λ has. inl has) (λ f. inr (plain.first s.es u f))
        (s.covers u (plain.asked u asked) (plain.over s.es u over));
  }

  -- a store that takes no record
  shown_store : (w : ℕ) (x : ℤ) (last : Option ℕ) → Fits sh (Stores w x ∷ fs)
      → ((es : List Effect) → IsPaired None (seen_all es)
      → IsPaired last (seen_all (Stores w x ∷ es)))
      → ((u : ℕ) → Asked p (Stores w x ∷ fs) u
      → (Asked p fs u × ((u ≢ w) ⊎ Listed u ws)))
      → Shown p ws (next sh (Stores w x)) None end0 fs r
      → Shown p ws sh last end0 (Stores w x ∷ fs) (begun (Stores w x ∷ []) r)
  shown_store w x last fits pair known s = record {
    end = s.end;
    es = Stores w x ∷ s.es;
    ran = ap (begun (Stores w x ∷ [])) s.ran;
    paired = pair s.es s.paired;
    fits = fits_more (Stores w x) s.end s.es fits s.fits;
    inputs = λ u input. (input.0, s.inputs u input.1);
    over = λ u over. ⊎_elim (λ e. inl e) (λ later. inr (s.over u later)) over;
    covers = λ u asked over. go u (known u asked) over;
  }
    where
      go : (u : ℕ) → Asked p fs u × ((u ≢ w) ⊎ Listed u ws)
          → (u ≡ w) ⊎ IsOverwritten s.es u
          → Listed u ws ⊎ ((u ≢ w) × IsLoggedFirst (seen_all s.es) u)
      go u (asked, inr has) over = inl has
      go u (asked, inl ne) (inl e) = absurd (ne e)
      go u (asked, inl ne) (inr later) =
          ⊎_elim (λ has. inl has) (λ first. inr (ne, first)) (s.covers u asked later)

  -- the log is full
  shown_full : MayStore sh → Shown p ws sh None end0 fs (Finished (Trapped LogFull) [])
  shown_full may = record {
    end = Trapped LogFull;
    es = [];
    ran = refl;
    paired = tt;
    fits = inr (refl, tt, may);
    inputs = λ u input. absurd input;
    over = λ u over. absurd over;
    covers = λ u asked over. absurd over;
  }

-- a store that takes a record
shown_logged : (ws : List ℕ) (sh : Shape) (end0 : End) (fs : List Effect) (r : Run) (w : ℕ) (x : ℤ)
    → Fits sh (Stores w x ∷ fs)
    → Shown RollBack (insert_key nat_eq ws w) (next sh (Stores w x)) None end0 fs r
    → Shown RollBack ws sh None end0 (Stores w x ∷ fs) (begun (Logs w ∷ Stores w x ∷ []) r)
shown_logged ws sh end0 fs r w x fits s = record {
  end = s.end;
  es = Logs w ∷ Stores w x ∷ s.es;
  ran = ap (begun (Logs w ∷ Stores w x ∷ [])) s.ran;
  paired = (refl, s.paired);
  fits = ⊎_elim
      (λ k. inl (k.0, log_before sh w (Stores w x ∷ s.es) may k.1))
      (λ k. inr (k.0, k.1, k.2))
      (fits_more RollBack ws sh end0 fs r (Stores w x) s.end s.es fits s.fits);
  inputs = λ u input. (input.0, s.inputs u input.1);
  over = λ u over. ⊎_elim (λ e. inl e) (λ later. inr (s.over u later)) over;
  covers = λ u asked over. go u (cases_eq u w) over;
}
  where
    may : MayStore sh
    may = may_store sh w x fs fits

    go : (u : ℕ) → (u ≡ w) ⊎ (u ≢ w) → (u ≡ w) ⊎ IsOverwritten s.es u
        → Listed u ws ⊎ ((u ≡ w) ⊎ ((u ≢ w) × IsLoggedFirst (seen_all s.es) u))
    go u (inl e) over = inr (inl e)
    go u (inr ne) (inl e) = inr (inl e)
    go u (inr ne) (inr later) =
        ⊎_elim
        (λ has. ⊎_elim (λ e. inr (inl e)) (λ old. inl old) (insert_listed u w ws has))
        (λ first. inr (inr (ne, first))) (s.covers u tt later)

-- a LOG of a word that has a record
module _ (p : Policy) (ws : List ℕ) (sh : Shape) (end0 : End) (fs : List Effect) (r : Run) (w : ℕ)
    (fits : Fits sh (Logs w ∷ fs)) where
  may : MayStore sh
  may = may_log sh w fs fits

  quiet : (end : End) (es : List Effect)
      → ((end ≡ end0) × Fits (next sh (Logs w)) es)
      ⊎ ((end ≡ Trapped LogFull) × IsStill es × MayStore (next sh (Logs w)))
      → ((end ≡ end0) × Fits sh (Quiet ∷ es))
      ⊎ ((end ≡ Trapped LogFull) × IsStill es × MayStore sh)
  quiet end es f =
      ⊎_elim (λ k. inl (
        k.0,
        quiet_before sh es may
            (subst (λ (s : Shape). Fits s es) (log_next sh w may) k.1),
      ))
      (λ k. inr (k.0, k.1, may)) f

  shown_quiet : Listed w ws → ((u : ℕ) → Asked p (Logs w ∷ fs) u → (u ≡ w) ⊎ Asked p fs u)
      → Shown p ws (next sh (Logs w)) None end0 fs r
      → Shown p ws sh None end0 (Logs w ∷ fs) (begun (Quiet ∷ []) r)
  shown_quiet has asked s = record {
    end = s.end;
    es = Quiet ∷ s.es;
    ran = ap (begun (Quiet ∷ [])) s.ran;
    paired = s.paired;
    fits = quiet s.end s.es s.fits;
    inputs = λ u input. s.inputs u input;
    over = λ u over. s.over u over;
    covers = λ u is over. ⊎_elim
        (λ e. inl (subst (λ (v : ℕ). Listed v ws) (sym e) has))
        (λ more. s.covers u more over) (asked u is);
  }

  shown_taken : ((u : ℕ) → Asked p (Logs w ∷ fs) u → (u ≡ w) ⊎ Asked p fs u)
      → Shown p (insert_key nat_eq ws w) (next sh (Logs w)) (Some w) end0 fs r
      → Shown p ws sh None end0 (Logs w ∷ fs) (begun (Logs w ∷ Quiet ∷ []) r)
  shown_taken asked s = record {
    end = s.end;
    es = Logs w ∷ Quiet ∷ s.es;
    ran = ap (begun (Logs w ∷ Quiet ∷ [])) s.ran;
    paired = s.paired;
    fits = ⊎_elim (λ k. inl (k.0, log_before sh w (Quiet ∷ s.es) may k.1))
        (λ k. inr (k.0, k.1, k.2)) (quiet s.end s.es s.fits);
    inputs = λ u input. s.inputs u input;
    over = λ u over. s.over u over;
    covers = λ u is over. ⊎_elim (λ e. inr (inl e))
        (λ more. ⊎_elim
        (λ has. ⊎_elim (λ e. inr (inl e)) (λ old. inl old) (insert_listed u w ws has))
        (λ first. inr (inr first)) (s.covers u more over)) (asked u is);
  }

pair_load : (last : Option ℕ) (w : ℕ) (es : List Effect) → IsPaired last (seen_all es) →
    IsPaired last (seen_all (Loads w ∷ es))
pair_load None w es p = p
pair_load (Some v) w es p = p

load_pair : (last : Option ℕ) (w : ℕ) (es : List Effect) →
    IsPaired last (seen_all (Loads w ∷ es)) → IsPaired last (seen_all es)
load_pair None w es p = p
load_pair (Some v) w es p = p

pair_still : (last : Option ℕ) (es : List past.Effect) → IsPaired last es
    → IsPaired last (past.Still ∷ es)
pair_still None es p = p
pair_still (Some v) es p = p

still_pair : (last : Option ℕ) (es : List past.Effect) → IsPaired last (past.Still ∷ es)
    → IsPaired last es
still_pair None es p = p
still_pair (Some v) es p = p

asked_by : (p : Policy) (e : Effect) (fs : List Effect) (u : ℕ)
    → (IsLoggedFirst (seen_all (e ∷ fs)) u → IsLoggedFirst (seen_all fs) u)
    → Asked p (e ∷ fs) u → Asked p fs u
asked_by EndPool e fs u f asked = f asked
asked_by RollBack e fs u f asked = tt

asked_log : (p : Policy) (w : ℕ) (fs : List Effect) (u : ℕ) → Asked p (Logs w ∷ fs) u
    → (u ≡ w) ⊎ Asked p fs u
asked_log EndPool w fs u asked = asked
asked_log RollBack w fs u asked = inr tt

module _ (p : Policy) (ws : List ℕ) (sh : Shape) (end0 : End) (fs : List Effect) (r : Run) where
  plain_loads : (w : ℕ) → IsPlain p ws sh end0 fs r (Loads w)
  plain_loads w = record {
    pair = λ last es paired. pair_load last w es paired;
    inputs = λ es u known input. ⊎_elim (λ e. inl e) (λ more. inr (known u more)) input;
    over = λ es u over. over;
    over_back = λ u over. over;
    first = λ es u first. first;
    asked = λ u asked. asked_by p (Loads w) fs u (λ f. f) asked;
  }

  plain_scans : (w d m : ℕ) → IsPlain p ws sh end0 fs r (Scans w d m)
  plain_scans w d m = record {
    pair = λ last es paired. pair_headers last w d m (seen_all es) paired;
    inputs = λ es u known input. ⊎_elim (λ e. inl e) (λ more. inr (known u more)) input;
    over = λ es u over. over;
    over_back = λ u over. over;
    first = λ es u first. first_headers w d m u (seen_all es) first;
    asked = λ u asked. asked_by p (Scans w d m) fs u
        (λ f. headers_first w d m u (seen_all fs) f) asked;
  }

  plain_flushes : (l : ℕ) → IsPlain p ws sh end0 fs r (Flushes l)
  plain_flushes l = record {
    pair = λ last es paired. pair_still last (seen_all es) paired;
    inputs = λ es u known input. known u input;
    over = λ es u over. over;
    over_back = λ u over. over;
    first = λ es u first. first;
    asked = λ u asked. asked_by p (Flushes l) fs u (λ f. f) asked;
  }

  plain_fences : IsPlain p ws sh end0 fs r Fences
  plain_fences = record {
    pair = λ last es paired. pair_still last (seen_all es) paired;
    inputs = λ es u known input. known u input;
    over = λ es u over. over;
    over_back = λ u over. over;
    first = λ es u first. first;
    asked = λ u asked. asked_by p Fences fs u (λ f. f) asked;
  }

  plain_quiet : IsPlain p ws sh end0 fs r Quiet
  plain_quiet = record {
    pair = λ last es paired. pair_still last (seen_all es) paired;
    inputs = λ es u known input. known u input;
    over = λ es u over. over;
    over_back = λ u over. over;
    first = λ es u first. first;
    asked = λ u asked. asked_by p Quiet fs u (λ f. f) asked;
  }

module _ (C : ℕ) (end0 : End) where
  abbrev logging : Policy → (n : ℕ) → List ℕ → Logging
  logging p n ws = record { policy = p; count = n; words = ws }

  abbrev Known : List Effect → Type 0
  Known fs = (p : Policy) (n : ℕ) (ws : List ℕ) (sh : Shape) (q last : Option ℕ)
      → Pending ws q last → IsPaired q (seen_all fs) → Fits sh fs
      → Shown p ws sh last end0 fs (with_records C (logging p n ws) end0 fs)

  nothing_left : (ws : List ℕ) (q last : Option ℕ) → Pending ws q last → IsPaired q []
      → IsPaired last []
  nothing_left ws None None pending paired = tt
  nothing_left ws None (Some u) pending paired = absurd pending
  nothing_left ws (Some v) None pending paired = absurd paired
  nothing_left ws (Some v) (Some u) pending paired = absurd paired

  no_effects : Known []
  no_effects p n ws sh q last pending paired fits = record {
    end = end0;
    es = [];
    ran = refl;
    paired = nothing_left ws q last pending paired;
    fits = inl (refl, fits);
    inputs = λ u input. input;
    over = λ u over. over;
    covers = λ u asked over. absurd over;
  }

  -- before a store
  store_pairs : (ws : List ℕ) (q last : Option ℕ) (w : ℕ) (x : ℤ) (fs : List Effect)
      → Pending ws q last → IsPaired q (seen_all (Stores w x ∷ fs)) →
      IsPaired None (seen_all fs) × ((es : List Effect) → IsPaired None (seen_all es)
      → IsPaired last (seen_all (Stores w x ∷ es)))
      × (list_any (nat_eq w) ws ≡ false → last ≡ None)
  store_pairs ws None None w x fs pending paired = (paired, (λ es p. p), λ no. refl)
  store_pairs ws None (Some u) w x fs pending paired = absurd pending
  store_pairs ws (Some v) None w x fs has paired = (paired.1, (λ es p. p), λ no. refl)
  store_pairs ws (Some v) (Some u) w x fs (same, has) paired = (
    paired.1,
    λ es p. (sym same ∙ paired.0, p),
    λ no. let yes : Listed w ws = subst (λ (u : ℕ). Listed u ws) paired.0 has in
        absurd (cc (yes, no)),
  )

  stores : (w : ℕ) (x : ℤ) (fs : List Effect) → Known fs → Known (Stores w x ∷ fs)
  stores w x fs known EndPool n ws sh q last pending paired fits =
      let pairs = store_pairs ws q last w x fs pending paired in
      shown_store EndPool ws sh end0 fs (with_records C (logging EndPool n ws) end0 fs) w x last
      fits pairs.1 (λ u asked. (asked.1, inl asked.0))
      (known EndPool n ws (next sh (Stores w x)) None None tt pairs.0
      (tail_of sh (Stores w x) fs fits).there)
  stores w x fs known RollBack n ws sh q last pending paired fits =
      go (list_any (nat_eq w) ws) refl
    where
      pairs : IsPaired None (seen_all fs) × ((es : List Effect) → IsPaired None (seen_all es)
          → IsPaired last (seen_all (Stores w x ∷ es)))
          × (list_any (nat_eq w) ws ≡ false → last ≡ None)
      pairs = store_pairs ws q last w x fs pending paired

      g : Logging
      g = logging RollBack n ws

      rest : Logging → Run
      rest h = with_records C h end0 fs

      ran : Option ℕ → Run
      ran o = if has_room C g o then begun (with_record o (Stores w x)) (rest (noted g o))
          else Finished (Trapped LogFull) []

      apart : Listed w ws → (u : ℕ) → (u ≡ w) ⊎ (u ≢ w) → (u ≢ w) ⊎ Listed u ws
      apart has u (inl e) = inr (subst (λ (v : ℕ). Listed v ws) (sym e) has)
      apart has u (inr ne) = inl ne

      room : (b : Bool) → last ≡ None →
          Shown RollBack ws sh last end0 (Stores w x ∷ fs)
          (if b then begun (Logs w ∷ Stores w x ∷ []) (rest (noted g (Some w)))
          else Finished (Trapped LogFull) [])
      room true none =
          subst (λ (l : Option ℕ). Shown RollBack ws sh l end0 (Stores w x ∷ fs)
          (begun (Logs w ∷ Stores w x ∷ []) (rest (noted g (Some w))))) (sym none)
          (shown_logged ws sh end0 fs (rest (noted g (Some w))) w x fits
          (known RollBack (suc n) (insert_key nat_eq ws w) (next sh (Stores w x)) None None tt
          pairs.0 (tail_of sh (Stores w x) fs fits).there))
      room false none =
          subst (λ (l : Option ℕ). Shown RollBack ws sh l end0 (Stores w x ∷ fs)
          (Finished (Trapped LogFull) [])) (sym none)
          (shown_full RollBack ws sh end0 (Stores w x ∷ fs) (rest g) (may_store sh w x fs fits))

      go : (b : Bool) → list_any (nat_eq w) ws ≡ b →
          Shown RollBack ws sh last end0 (Stores w x ∷ fs) (ran (if b then None else Some w))
      go true has =
          shown_store RollBack ws sh end0 fs (rest g) w x last fits pairs.1
          (λ u asked. (tt, apart has u (cases_eq u w)))
          (known RollBack n ws (next sh (Stores w x)) None None tt pairs.0
          (tail_of sh (Stores w x) fs fits).there)
      go false absent = room (nat_lt n C) (pairs.2 absent)

  no_log : (ws : List ℕ) (q last : Option ℕ) (w : ℕ) (fs : List Effect) → Pending ws q last
      → IsPaired q (seen_all (Logs w ∷ fs)) → (last ≡ None) × IsPaired (Some w) (seen_all fs)
  no_log ws None None w fs pending paired = (refl, paired)
  no_log ws None (Some u) w fs pending paired = absurd pending
  no_log ws (Some v) None w fs pending paired = absurd paired
  no_log ws (Some v) (Some u) w fs pending paired = absurd paired

  logs : (w : ℕ) (fs : List Effect) → Known fs → Known (Logs w ∷ fs)
  logs w fs known p n ws sh q last pending paired fits =
      subst (λ (l : Option ℕ). Shown p ws sh l end0 (Logs w ∷ fs)
      (with_records C (logging p n ws) end0 (Logs w ∷ fs))) (sym before.0)
      (go (list_any (nat_eq w) ws) refl)
    where
      before : (last ≡ None) × IsPaired (Some w) (seen_all fs)
      before = no_log ws q last w fs pending paired

      g : Logging
      g = logging p n ws

      rest : Logging → Run
      rest h = with_records C h end0 fs

      ran : Option ℕ → Run
      ran o = if has_room C g o then begun (with_record o (Logs w)) (rest (noted g o))
          else Finished (Trapped LogFull) []

      room : (b : Bool) → Shown p ws sh None end0 (Logs w ∷ fs)
          (if b then begun (Logs w ∷ Quiet ∷ []) (rest (noted g (Some w)))
          else Finished (Trapped LogFull) [])
      room true =
          shown_taken p ws sh end0 fs (rest (noted g (Some w))) w fits
          (λ u asked. asked_log p w fs u asked)
          (known p (suc n) (insert_key nat_eq ws w) (next sh (Logs w)) (Some w) (Some w)
          (refl, inserted w ws) before.1 (tail_of sh (Logs w) fs fits).there)
      room false = shown_full p ws sh end0 (Logs w ∷ fs) (rest g) (may_log sh w fs fits)

      go : (b : Bool) → list_any (nat_eq w) ws ≡ b →
          Shown p ws sh None end0 (Logs w ∷ fs) (ran (if b then None else Some w))
      go true has =
          shown_quiet p ws sh end0 fs (rest g) w fits has (λ u asked. asked_log p w fs u asked)
          (known p n ws (next sh (Logs w)) (Some w) None has before.1
          (tail_of sh (Logs w) fs fits).there)
      go false absent = room (nat_lt n C)

  -- an effect that is neither
  plain : (e : Effect) (fs : List Effect) → Known fs →
      ((p : Policy) (ws : List ℕ) (sh : Shape) (r : Run) → IsPlain p ws sh end0 fs r e) →
      ((q : Option ℕ) → IsPaired q (seen_all (e ∷ fs)) → IsPaired q (seen_all fs)) →
      (p : Policy) (n : ℕ) (ws : List ℕ) (sh : Shape) (q last : Option ℕ)
      → Pending ws q last → IsPaired q (seen_all (e ∷ fs)) → Fits sh (e ∷ fs)
      → Shown p ws sh last end0 (e ∷ fs)
      (begun (e ∷ []) (with_records C (logging p n ws) end0 fs))
  plain e fs known is unpair p n ws sh q last pending paired fits =
      let r : Run = with_records C (logging p n ws) end0 fs in
      shown_plain p ws sh end0 fs r e last (is p ws sh r) fits
      (known p n ws (next sh e) q last pending (unpair q paired) (tail_of sh e fs fits).there)

  recorded : (fs : List Effect) → Known fs
  recorded [] = no_effects
  recorded (Stores w x ∷ fs) = stores w x fs (recorded fs)
  recorded (Logs w ∷ fs) = logs w fs (recorded fs)
  recorded (Loads w ∷ fs) =
      plain (Loads w) fs (recorded fs) (λ p ws sh r. plain_loads p ws sh end0 fs r w)
      (λ q paired. load_pair q w fs paired)
  recorded (Scans w apart m ∷ fs) =
      plain (Scans w apart m) fs (recorded fs)
      (λ p ws sh r. plain_scans p ws sh end0 fs r w apart m)
      (λ q paired. headers_pair q w apart m (seen_all fs) paired)
  recorded (Flushes l ∷ fs) =
      plain (Flushes l) fs (recorded fs) (λ p ws sh r. plain_flushes p ws sh end0 fs r l)
      (λ q paired. still_pair q (seen_all fs) paired)
  recorded (Fences ∷ fs) =
      plain Fences fs (recorded fs) (λ p ws sh r. plain_fences p ws sh end0 fs r)
      (λ q paired. still_pair q (seen_all fs) paired)
  recorded (Quiet ∷ fs) =
      plain Quiet fs (recorded fs) (λ p ws sh r. plain_quiet p ws sh end0 fs r)
      (λ q paired. still_pair q (seen_all fs) paired)

-- what is asked of the run without records, of a word that the one with them must restore
asked_of : (p : Policy) (end0 : End) (fs es : List Effect) → IsSoundRun EndPool end0 fs
    → ((u : ℕ) → IsInput es u → IsInput fs u) → ((u : ℕ) → IsOverwritten es u → IsOverwritten fs u)
    → (u : ℕ) → E p es u → W es u → Asked p fs u
asked_of EndPool end0 fs es sound inputs over u input stored =
    sound.covered u (inputs u input) (over u stored)
asked_of RollBack end0 fs es sound inputs over u input stored = tt

pub records_sound : RecordsSoundLaw
records_sound p C end0 end1 fs es1 sound ran =
    let s = recorded C end0 fs p 0 [] (shape end0) None None tt sound.paired
    (fits_of end0 fs sound.tidy) in
    let end_is : s.end ≡ end1 = cc (s.ran, ran) in
    let es_is : s.es ≡ es1 = cc (s.ran, ran) in
    subst (λ (q : End). IsSoundRun p q es1) end_is
    (subst (λ (es : List Effect). IsSoundRun p s.end es) es_is (record {
      covered = λ u input over. ⊎_elim (λ has. absurd (cc (has))) (λ first. first)
          (s.covers u (asked_of p end0 fs s.es sound s.inputs s.over u input over) over);
      paired = s.paired;
      tidy = ⊎_elim
          (λ k. subst (λ (q : End). IsTidyEnd [] q s.es) (sym k.0) (of_fits end0 s.es k.1))
          (λ k. subst (λ (q : End). IsTidyEnd [] q s.es) (sym k.0) k.1)
          s.fits;
    }))
