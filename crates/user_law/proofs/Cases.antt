-- What each answer says, in a few cases.
use Rattle.std.proofs.Common.{◌≡◌, ◌⊎◌, inl, inr, pos, refl}
use Rattle.cache_model.specs.Cache.{Words}
use Rattle.pmem.specs.declared.answer.Phase.{Phase}
use Rattle.pmem.specs.declared.answer.Phase.TheVariants as phase
use Rattle.pool_layout.specs.declared.places.TheConstants.{MARK}
use Rattle.pool_map.specs.declared.trap.TrapKind.{TrapKind}
use Rattle.cnvm_session.specs.declared.answer.Answer.{Answer}
use Rattle.cnvm_session.specs.declared.answer.Answer.TheVariants as answer
use Rattle.cnvm_session.specs.Laws.{IsBadPick}
use Rattle.session_law.specs.State.{Pending}
use Rattle.user_law.specs.Source.{Source}
use Rattle.user_law.specs.State.{Ready, Idle, Owed, Unusable, UserState, stands_as}
use Rattle.user_law.specs.Answers.{finished, UserRuns, UserLooks, UserTells, found_as}
use Rattle.user_law.specs.Answers.{RecoveryEnds}
use Rattle.user_law.specs.Answers.{UserRecovers, UserPowers}
use Rattle.user_law.specs.Stays.{IsPowerCut}

module _ (p : Source) (s t : UserState) (image : Words) where
  -- owed, as before, or run to its end
  pub runs_by : (call : Pending) (a : Answer) → UserRuns p s image call a t →
      ((at : Phase) × (t ≡ stands_as (Owed call at) s)
      × ((at ≡ phase.Sealing) ⊎ (a ≡ answer.Stopped at)))
      ⊎ ((t ≡ s) ⊎ (t ≡ finished Ready p s call))
  runs_by call answer.Silent is = inr (inr is.1)
  runs_by call (answer.Done value unsigned logged) is = inr (inr is.1)
  runs_by call (answer.Trap kind) is = inr (inr is.1)
  runs_by call (answer.Aborted kind) is = inr (inr is.1)
  runs_by call (answer.Stopped at) is = inl (at, is, inr refl)
  runs_by call answer.DeviceFault is = inl (phase.Sealing, is, inl refl)
  runs_by call answer.RecoveredNone is = inr (inr is.1)
  runs_by call (answer.RecoveredRedone value unsigned logged) is = inr (inr is.1)
  runs_by call (answer.RecoveredTrap kind) is = inr (inr is.1)
  runs_by call (answer.RecoveredAborted kind) is = inr (inr is.1)
  runs_by call (answer.Shown text) is = inr (inr is.1)
  runs_by call (answer.ShownDead trap text) is = inr (inr is.1)
  runs_by call (answer.Last n value) is = inr (inr is.1)
  runs_by call answer.NoMemory is = inl (phase.Sealing, is, inl refl)
  runs_by call answer.RefusedDown is = inr (inr is.1)
  runs_by call (answer.RefusedUnusable kind) is = inr (inr is.1)
  runs_by call answer.RefusedUnknown is = inr (inr is.1)
  runs_by call answer.RefusedArity is = inr (inr is.1)
  runs_by call answer.RefusedNumbers is = inr (inl is.1)
  runs_by call (answer.RefusedPick line) is = inr (inr is.1)

  -- as before, or no memory
  pub looks_by : (call : Pending) (a : Answer) → UserLooks p s call a t →
      (t ≡ s) ⊎ ((a ≡ answer.NoMemory) × (t ≡ stands_as Idle s))
  looks_by call (answer.Done value unsigned logged) is = inl is.2
  looks_by call (answer.Aborted kind) is = inl is.1
  looks_by call answer.NoMemory is = inr (refl, is)
  looks_by call _ is = absurd is

  pub tells_by : (a : Answer) → UserTells p s a t → (t ≡ s) ⊎ (t ≡ stands_as Idle s)
  tells_by answer.Silent is = inl is.1
  tells_by (answer.Done value unsigned logged) is = inl is.1
  tells_by (answer.Trap kind) is = inl is.1
  tells_by (answer.Aborted kind) is = inl is.1
  tells_by (answer.Stopped at) is = inl is.1
  tells_by answer.DeviceFault is = inl is.1
  tells_by answer.RecoveredNone is = inl is.1
  tells_by (answer.RecoveredRedone value unsigned logged) is = inl is.1
  tells_by (answer.RecoveredTrap kind) is = inl is.1
  tells_by (answer.RecoveredAborted kind) is = inl is.1
  tells_by (answer.Shown text) is = inl is.1
  tells_by (answer.ShownDead trap text) is = inl is.1
  tells_by (answer.Last n value) is = inl is.1
  tells_by answer.NoMemory is = inr is
  tells_by answer.RefusedDown is = inl is.1
  tells_by (answer.RefusedUnusable kind) is = inl is.1
  tells_by answer.RefusedUnknown is = inl is.1
  tells_by answer.RefusedArity is = inl is.1
  tells_by answer.RefusedNumbers is = inl is.1
  tells_by (answer.RefusedPick line) is = inl is.1

  -- as it was found, or at its end
  pub recovers_by : (a : Answer) → UserRecovers p s image a t →
      (t ≡ s) ⊎ RecoveryEnds s.standing p s a t
  recovers_by answer.Silent is = inr is
  recovers_by (answer.Done value unsigned logged) is = inr is
  recovers_by (answer.Trap kind) is = inr is
  recovers_by (answer.Aborted kind) is = inr is
  recovers_by (answer.Stopped at) is = inl is.1
  recovers_by answer.DeviceFault is = inl is
  recovers_by answer.RecoveredNone is = inr is
  recovers_by (answer.RecoveredRedone value unsigned logged) is = inr is
  recovers_by (answer.RecoveredTrap kind) is = inr is
  recovers_by (answer.RecoveredAborted kind) is = inr is
  recovers_by (answer.Shown text) is = inr is
  recovers_by (answer.ShownDead trap text) is = inr is
  recovers_by (answer.Last n value) is = inr is
  recovers_by answer.NoMemory is = inl is
  recovers_by answer.RefusedDown is = inr is
  recovers_by (answer.RefusedUnusable kind) is = inr is
  recovers_by answer.RefusedUnknown is = inr is
  recovers_by answer.RefusedArity is = inr is
  recovers_by answer.RefusedNumbers is = inl is.1
  recovers_by (answer.RefusedPick line) is = inr is

  -- a bad pick, a mark, or a recovery from what is found
  abbrev pub PowersTo : Answer → Type 0
  PowersTo a = (IsBadPick a × (t ≡ s))
      ⊎ (((kind : TrapKind) × (t ≡ stands_as (Unusable kind) s))
      ⊎ ((image MARK ≡ pos 0) × IsPowerCut a
      × UserRecovers p (found_as s.standing p s image) image a t))

  pub powers_by : (a : Answer) → UserPowers p s image a t → PowersTo a
  powers_by answer.Silent is = inr (inr (is.0, tt, is.1))
  powers_by (answer.Done value unsigned logged) is = inr (inr (is.0, tt, is.1))
  powers_by (answer.Trap kind) is = inr (inr (is.0, tt, is.1))
  powers_by (answer.Aborted kind) is = inr (inr (is.0, tt, is.1))
  powers_by (answer.Stopped at) is = inr (inr (is.0, tt, is.1))
  powers_by answer.DeviceFault is = inr (inr (is.0, tt, is.1))
  powers_by answer.RecoveredNone is = inr (inr (is.0, tt, is.1))
  powers_by (answer.RecoveredRedone value unsigned logged) is = inr (inr (is.0, tt, is.1))
  powers_by (answer.RecoveredTrap kind) is = inr (inr (is.0, tt, is.1))
  powers_by (answer.RecoveredAborted kind) is = inr (inr (is.0, tt, is.1))
  powers_by (answer.Shown text) is = inr (inr (is.0, tt, is.1))
  powers_by (answer.ShownDead trap text) is = inr (inr (is.0, tt, is.1))
  powers_by (answer.Last n value) is = inr (inr (is.0, tt, is.1))
  powers_by answer.NoMemory is = inr (inr (is.0, tt, is.1))
  powers_by answer.RefusedDown is = inr (inr (is.0, tt, is.1))
  powers_by (answer.RefusedUnusable kind) is = inr (inl (kind, is.2))
  powers_by answer.RefusedUnknown is = inr (inr (is.0, tt, is.1))
  powers_by answer.RefusedArity is = inr (inr (is.0, tt, is.1))
  powers_by answer.RefusedNumbers is = inr (inr (is.0, tt, is.1))
  powers_by (answer.RefusedPick line) is = inl (tt, is)
