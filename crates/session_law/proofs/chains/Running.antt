-- An owed transaction is done exactly if it was sealed.
use Rattle.std.proofs.Common.{◌≡◌, ◌≢◌, ◌⊎◌, inl, inr, ℕ, suc, Bool, true, false, if◌then◌else◌}
use Rattle.std.proofs.Common.{List, [], ◌∷◌, ◌++◌, Some, None, ℤ, pos, ap, ◌∙◌, subst, append-nil}
use Rattle.std.proofs.Common.{refl}
use Rattle.cache_model.specs.Cache.{view, Words}
use Rattle.pmem.specs.Device.{powered}
use Rattle.pool_layout.specs.declared.places.TheConstants.{SEAL}
use Rattle.pool_map.specs.declared.trap.TrapKind.{TrapKind}
use Rattle.c_meaning.specs.Transaction.{Outcome, Done, Trap}
use Rattle.cnvm_session.specs.declared.answer.Answer.{Answer}
use Rattle.cnvm_session.specs.declared.answer.Answer.TheVariants as answer
use Rattle.cnvm_session.specs.declared.program.Program.{Program}
use Rattle.cnvm_session.specs.Marks.{rolls_back_of}
use Rattle.session_law.specs.State.{Pending, Standing, Ready, Down, SourceState, standing_as}
use Rattle.session_law.specs.Answers.{HasSeal, ConcludesAs, IsConcluded, FindsOf, FindsOwed, Rests}
use Rattle.session_law.specs.Answers.{RedoesBy, Recovers, Powers}
use Rattle.session_law.specs.History.{waiting_of, is_retired, recovered_by}
use Rattle.session_law.specs.Law.{SealedLaw, IsCompleted}
use Rattle.session_law.proofs.chains.Histories.{finished_counts, fresh_shows, retired_shows}

module _ (program : Program) (owed : Pending) (s t : SourceState)
    (image : Words) where
  abbrev Recovered : Answer → SourceState → Type 0
  Recovered a found = Recovers found.standing program found image a t

  at_owed : (found : SourceState) → s.standing ≡ Down (Some owed) →
      FindsOwed s.standing program s image found →
      FindsOf (Some owed) program s image found
  at_owed found standing finds =
      subst (λ (x : Standing). FindsOwed x program s image found) standing finds

-- what is done, and what the history says of it

module _ (program : Program) (owed : Pending) (s t : SourceState) (image : Words)
    (standing : s.standing ≡ Down (Some owed)) (h g : List Pending) where
  abbrev Told : Type 0
  Told =
      (HasSeal s image × (g ≡ h ++ owed ∷ [])
      × IsConcluded (rolls_back_of program owed.tx) program owed s Ready t)
      ⊎ ((image SEAL ≢ pos (suc s.done)) × (g ≡ h) × (t ≡ standing_as Ready s))

  waiting : waiting_of s.standing ≡ owed ∷ []
  waiting = ap waiting_of standing

  grown : (b : Bool) → is_retired s image ≡ b →
      g ≡ h ++ (if is_retired s image then waiting_of s.standing else []) →
      g ≡ h ++ (if b then owed ∷ [] else [])
  grown b is e =
      e ∙ ap (λ (x : Bool). h ++ (if x then waiting_of s.standing else [])) is
      ∙ ap (λ (ws : List Pending). h ++ (if b then ws else [])) waiting

  -- one that was finished before the cut is ready after it
  rested_by : (marked : Bool) (o : Outcome) (found : SourceState)
      → ConcludesAs marked o (Down None) s found → t ≡ standing_as Ready found
      → ConcludesAs marked o Ready s t
  rested_by marked (Done pool value) found is now = now ∙ ap (standing_as Ready) is
  rested_by marked (Trap kind) found is now = (is.0, now ∙ ap (standing_as Ready) is.1)

  rested : (marked : Bool) (found : SourceState)
      → IsConcluded marked program owed s (Down None) found → t ≡ standing_as Ready found
      → IsConcluded marked program owed s Ready t
  rested marked found is now = (is.0, is.1, is.2, rested_by marked is.1 found is.3 now)

  none_told : (found : SourceState) → FindsOf (Some owed) program s image found →
      Recovers found.standing program found image answer.RecoveredNone t →
      g ≡ h ++ recovered_by s image answer.RecoveredNone → Told
  none_told found (inl fresh) recovers e =
      inr (
        fresh.0,
        grown false (fresh_shows program s image fresh.0) e ∙ append-nil h,
        subst (Recovered program owed s t image answer.RecoveredNone) fresh.1 recovers,
      )
  none_told found (inr (inl retired)) recovers e =
      inl (
        retired.0,
        grown true (retired_shows program s image retired.0 retired.1) e,
        rested (rolls_back_of program owed.tx) found retired.2
            (subst (λ (st : Standing). Recovers st program found image answer.RecoveredNone t)
            (finished_counts program (rolls_back_of program owed.tx) s found owed (Down None)
            retired.2).1 recovers),
      )
  none_told found (inr (inr sealed)) recovers e =
      absurd (subst (Recovered program owed s t image answer.RecoveredNone) sealed.2 recovers)

  -- how the session stood makes no difference
  settled_by : (marked : Bool) (o : Outcome)
      → ConcludesAs marked o Ready (standing_as (Down (Some owed)) s) t
      → ConcludesAs marked o Ready s t
  settled_by marked (Done pool value) is = is
  settled_by marked (Trap kind) is = is

  settled : (marked : Bool)
      → IsConcluded marked program owed (standing_as (Down (Some owed)) s) Ready t
      → IsConcluded marked program owed s Ready t
  settled marked is = (is.0, is.1, is.2, settled_by marked is.1 is.3)

  -- an answer that only the recovery of an owed transaction gives
  module _ (a : Answer) (never : (found : SourceState) → Rests program found image a t → ⊥)
      (shows : recovered_by s image a ≡ waiting_of s.standing)
      (finishes : (found : SourceState)
      → RedoesBy (rolls_back_of program owed.tx) program owed found image a t
      → IsConcluded (rolls_back_of program owed.tx) program owed found Ready t) where
    not_rested : (found : SourceState) → found.standing ≡ Down None →
        Recovers found.standing program found image a t → ⊥
    not_rested found is recovers =
        never found (subst (λ (st : Standing). Recovers st program found image a t) is recovers)

    redone_told : (found : SourceState) → FindsOf (Some owed) program s image found →
        Recovers found.standing program found image a t → g ≡ h ++ recovered_by s image a → Told
    redone_told found (inl fresh) recovers e =
        absurd (not_rested found (ap (λ (x : SourceState). x.standing) fresh.1) recovers)
    redone_told found (inr (inl retired)) recovers e =
        absurd (not_rested found
        (finished_counts program (rolls_back_of program owed.tx) s found owed (Down None)
        retired.2).1 recovers)
    redone_told found (inr (inr sealed)) recovers e =
        inl (
          sealed.0,
          e ∙ ap (λ (ws : List Pending). h ++ ws) (shows ∙ waiting),
          settled (rolls_back_of program owed.tx) (finishes (standing_as (Down (Some owed)) s)
              (subst (Recovered program owed s t image a) sealed.2 recovers)),
        )

  value_finishes : (value : ℤ) (unsigned : Bool) (logged : ℕ) (marked : Bool) (found : SourceState)
      → RedoesBy marked program owed found image (answer.RecoveredRedone value unsigned logged) t
      → IsConcluded marked program owed found Ready t
  value_finishes value unsigned logged marked found is = (logged, Done is.0 value, is.1, is.2)

  abort_finishes : (kind : TrapKind) (marked : Bool) (found : SourceState)
      → RedoesBy marked program owed found image (answer.RecoveredAborted kind) t
      → IsConcluded marked program owed found Ready t
  abort_finishes kind marked found is = (is.1.0, Trap kind, is.1.1, (is.0, is.2))

  pub told_of : (a : Answer) → IsCompleted a → Powers program s image a t →
      g ≡ h ++ recovered_by s image a → Told
  told_of answer.RecoveredNone completed answers e =
      none_told answers.1.0 (at_owed program owed s t image answers.1.0 standing answers.1.1)
      answers.1.2 e
  told_of (answer.RecoveredRedone value unsigned logged) completed answers e =
      redone_told (answer.RecoveredRedone value unsigned logged) (λ found no. no) refl
      (λ found. value_finishes value unsigned logged (rolls_back_of program owed.tx) found)
      answers.1.0
      (at_owed program owed s t image answers.1.0 standing answers.1.1) answers.1.2 e
  told_of (answer.RecoveredAborted kind) completed answers e =
      redone_told (answer.RecoveredAborted kind) (λ found no. no) refl
      (λ found. abort_finishes kind (rolls_back_of program owed.tx) found) answers.1.0
      (at_owed program owed s t image answers.1.0 standing answers.1.1) answers.1.2 e
  told_of answer.Silent completed answers e = absurd completed
  told_of (answer.Done v u l) completed answers e = absurd completed
  told_of (answer.Trap k) completed answers e = absurd completed
  told_of (answer.Aborted k) completed answers e = absurd completed
  told_of (answer.Stopped p) completed answers e = absurd completed
  told_of answer.DeviceFault completed answers e = absurd completed
  told_of (answer.RecoveredTrap k) completed answers e = absurd completed
  told_of (answer.Shown text) completed answers e = absurd completed
  told_of (answer.ShownDead trap text) completed answers e = absurd completed
  told_of (answer.Last n v) completed answers e = absurd completed
  told_of answer.NoMemory completed answers e = absurd completed
  told_of answer.RefusedDown completed answers e = absurd completed
  told_of (answer.RefusedUnusable k) completed answers e = absurd completed
  told_of answer.RefusedUnknown completed answers e = absurd completed
  told_of answer.RefusedArity completed answers e = absurd completed
  told_of answer.RefusedNumbers completed answers e = absurd completed
  told_of (answer.RefusedPick line) completed answers e = absurd completed

pub exactly_sealed : SealedLaw
exactly_sealed program super choice owed x y a standing completed step =
    told_of program owed x.state y.state (view (powered choice x.device).cache) standing
    x.history y.history a completed step.meant step.history
