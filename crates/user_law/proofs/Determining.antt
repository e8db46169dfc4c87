-- An answer tells the state, and a command has one end; so have chains and runs.
use Rattle.std.proofs.Common.{◌≡◌, ◌⊎◌, inl, inr, ⊎_elim, ℕ, ◌==◌, Bool, true, false, List, [], ◌∷◌}
use Rattle.std.proofs.Common.{length, Option, Some, None, ℤ, pos, refl, sym, ap, ◌∙◌, subst, arith}
use Rattle.std.specs.Prelude.{suc, Result, Ok, Err, flat_map}
use Rattle.std.specs.List.{AllByRecursion}
use Rattle.std.specs.Ordering.{int_eq}
use Rattle.cache_model.specs.Cache.{Words}
use Rattle.cache_model.specs.declared.choice.Choice.{Choice}
use Rattle.pmem.specs.Device.{Device}
use Rattle.pmem.specs.declared.answer.Phase.{Phase}
use Rattle.pool_layout.specs.declared.places.TheConstants.{MARK}
use Rattle.pool_layout.proofs.Records.{pos_inj}
use Rattle.pool_map.specs.declared.trap.TrapKind.{TrapKind}
use Rattle.pool_map.specs.declared.trap.TrapKind.TheVariants as trap
use Rattle.pool_map.specs.Trap.{trap_number}
use Rattle.pool_map.specs.PoolMap.{PoolMap}
use Rattle.pool_map.specs.PoolText.{pool_text}
use Rattle.c_types.specs.Shapes.{shapes_in}
use Rattle.c_meaning.specs.Transaction.{Outcome, Done, Trap}
use Rattle.cnvm_script.specs.declared.command.Command.{Command}
use Rattle.cnvm_script.specs.declared.command.Command.TheVariants as command
use Rattle.cnvm_session.specs.declared.answer.Answer.{Answer}
use Rattle.cnvm_session.specs.declared.answer.Answer.TheVariants as answer
use Rattle.cnvm_session.specs.AnswerText.{answer_text}
use Rattle.session_law.specs.State.{Pending}
use Rattle.session_law.specs.Ran.{found_by}
use Rattle.user_law.specs.Source.{Source, number_named, arity_of, rolls_back, looks, means}
use Rattle.user_law.specs.Source.{comes_to, gives_unsigned, pool_of_image}
use Rattle.user_law.specs.State.{UserStanding, Ready, Idle, Owed, Unusable, UserState, stands_as}
use Rattle.user_law.specs.State.{state_after}
use Rattle.user_law.specs.Answers.{call_told, call_told_by, finished, StaysWith, UserRuns}
use Rattle.user_law.specs.Answers.{UserLooks, UserRunsAs, UserCallsWith}
use Rattle.user_law.specs.Answers.{UserCallsTo, UserCallsNamed, UserCalls, UserTells, UserShows}
use Rattle.user_law.specs.Answers.{UserTellsDead, UserShowsDead}
use Rattle.user_law.specs.Answers.{UserLasts, has_next_seal, has_next_count, found_by_seal}
use Rattle.user_law.specs.Answers.{found_as, RecoveryEnds, UserRecovers, HasTrapped, UserPowers}
use Rattle.user_law.specs.Answers.{UserAnswers}
use Rattle.user_law.specs.History.{grown_history}
use Rattle.user_law.specs.Ran.{UserMoment, UserStep, UserRan}
use Rattle.user_law.specs.Run.{source_with, first_moment}
use Rattle.user_law.specs.Determined.{CameToEnd, IsOfImage, CountAlike, CutsAlike}
use Rattle.user_law.specs.Determined.{KnowsTheSame}
use Rattle.user_law.specs.Determined.{OneStateLaw, OneEndLaw, SameAnswersLaw}
use Rattle.user_law.specs.Determined.{SameScriptLaw, SameOutputLaw}

-- what holds of each end, and of each of the other answers, holds of all answers
by_end : (P : Answer → Type 0) → ((a : Answer) → CameToEnd a → P a)
    → ((at : Phase) → P (answer.Stopped at)) → P answer.DeviceFault → P answer.NoMemory
    → P answer.RefusedNumbers → ((line : ℕ) → P (answer.RefusedPick line)) → (a : Answer) → P a
by_end P ends off fault none out pick answer.Silent = ends answer.Silent tt
by_end P ends off fault none out pick (answer.Done value unsigned logged) =
    ends (answer.Done value unsigned logged) tt
by_end P ends off fault none out pick (answer.Trap kind) = ends (answer.Trap kind) tt
by_end P ends off fault none out pick (answer.Aborted kind) = ends (answer.Aborted kind) tt
by_end P ends off fault none out pick (answer.Stopped at) = off at
by_end P ends off fault none out pick answer.DeviceFault = fault
by_end P ends off fault none out pick answer.RecoveredNone = ends answer.RecoveredNone tt
by_end P ends off fault none out pick (answer.RecoveredRedone value unsigned logged) =
    ends (answer.RecoveredRedone value unsigned logged) tt
by_end P ends off fault none out pick (answer.RecoveredTrap kind) =
    ends (answer.RecoveredTrap kind) tt
by_end P ends off fault none out pick (answer.RecoveredAborted kind) =
    ends (answer.RecoveredAborted kind) tt
by_end P ends off fault none out pick (answer.Shown text) = ends (answer.Shown text) tt
by_end P ends off fault none out pick (answer.ShownDead trap text) =
    ends (answer.ShownDead trap text) tt
by_end P ends off fault none out pick (answer.Last n value) = ends (answer.Last n value) tt
by_end P ends off fault none out pick answer.NoMemory = none
by_end P ends off fault none out pick answer.RefusedDown = ends answer.RefusedDown tt
by_end P ends off fault none out pick (answer.RefusedUnusable kind) =
    ends (answer.RefusedUnusable kind) tt
by_end P ends off fault none out pick answer.RefusedUnknown = ends answer.RefusedUnknown tt
by_end P ends off fault none out pick answer.RefusedArity = ends answer.RefusedArity tt
by_end P ends off fault none out pick answer.RefusedNumbers = out
by_end P ends off fault none out pick (answer.RefusedPick line) = pick line

-- what each relation says of an end

module _ (p : Source) (s : UserState) (image : Words) (t : UserState) where
  abbrev RunEnds : Pending → Answer → Type 0
  RunEnds call a = (a ≡ call_told_by p s call) × (t ≡ finished Ready p s call)

  run_end : (call : Pending) (a : Answer) → CameToEnd a → UserRuns p s image call a t
      → RunEnds call a
  run_end call answer.Silent ends is = is
  run_end call (answer.Done value unsigned logged) ends is = is
  run_end call (answer.Trap kind) ends is = is
  run_end call (answer.Aborted kind) ends is = is
  run_end call (answer.Stopped at) ends is = absurd ends
  run_end call answer.DeviceFault ends is = absurd ends
  run_end call answer.RecoveredNone ends is = is
  run_end call (answer.RecoveredRedone value unsigned logged) ends is = is
  run_end call (answer.RecoveredTrap kind) ends is = is
  run_end call (answer.RecoveredAborted kind) ends is = is
  run_end call (answer.Shown text) ends is = is
  run_end call (answer.ShownDead trap text) ends is = is
  run_end call (answer.Last n value) ends is = is
  run_end call answer.NoMemory ends is = absurd ends
  run_end call answer.RefusedDown ends is = is
  run_end call (answer.RefusedUnusable kind) ends is = is
  run_end call answer.RefusedUnknown ends is = is
  run_end call answer.RefusedArity ends is = is
  run_end call answer.RefusedNumbers ends is = absurd ends
  run_end call (answer.RefusedPick line) ends is = absurd ends

  -- it is answered as a call that rolls back and takes no record
  abbrev LookEnds : Pending → Answer → Type 0
  LookEnds call a =
      StaysWith (call_told true (gives_unsigned p call.tx) 0 (means p s.pool call)) s a t

  look_end : (call : Pending) (a : Answer) → CameToEnd a → UserLooks p s call a t
      → LookEnds call a
  look_end call (answer.Done value unsigned logged) ends is =
      let told = ap (call_told true (gives_unsigned p call.tx) 0) is.0 in
      ((λ i. answer.Done value (is.3 i) (is.1 i)) ∙ sym told, is.2)
  look_end call (answer.Aborted kind) ends is =
      (sym (ap (call_told true (gives_unsigned p call.tx) 0) is.0), is.1)
  look_end call answer.NoMemory ends is = absurd ends
  look_end call _ ends is = absurd is

  abbrev TellEnds : Answer → Type 0
  TellEnds a = StaysWith (answer.Shown (pool_text (shapes_in p.tables) s.pool)) s a t

  tell_end : (a : Answer) → CameToEnd a → UserTells p s a t → TellEnds a
  tell_end answer.Silent ends is = is
  tell_end (answer.Done value unsigned logged) ends is = is
  tell_end (answer.Trap kind) ends is = is
  tell_end (answer.Aborted kind) ends is = is
  tell_end (answer.Stopped at) ends is = absurd ends
  tell_end answer.DeviceFault ends is = absurd ends
  tell_end answer.RecoveredNone ends is = is
  tell_end (answer.RecoveredRedone value unsigned logged) ends is = is
  tell_end (answer.RecoveredTrap kind) ends is = is
  tell_end (answer.RecoveredAborted kind) ends is = is
  tell_end (answer.Shown text) ends is = is
  tell_end (answer.ShownDead trap text) ends is = is
  tell_end (answer.Last n value) ends is = is
  tell_end answer.NoMemory ends is = absurd ends
  tell_end answer.RefusedDown ends is = is
  tell_end (answer.RefusedUnusable kind) ends is = is
  tell_end answer.RefusedUnknown ends is = is
  tell_end answer.RefusedArity ends is = is
  tell_end answer.RefusedNumbers ends is = absurd ends
  tell_end (answer.RefusedPick line) ends is = absurd ends

  recovery_end : (a : Answer) → CameToEnd a → UserRecovers p s image a t
      → RecoveryEnds s.standing p s a t
  recovery_end answer.Silent ends is = is
  recovery_end (answer.Done value unsigned logged) ends is = is
  recovery_end (answer.Trap kind) ends is = is
  recovery_end (answer.Aborted kind) ends is = is
  recovery_end (answer.Stopped at) ends is = absurd ends
  recovery_end answer.DeviceFault ends is = absurd ends
  recovery_end answer.RecoveredNone ends is = is
  recovery_end (answer.RecoveredRedone value unsigned logged) ends is = is
  recovery_end (answer.RecoveredTrap kind) ends is = is
  recovery_end (answer.RecoveredAborted kind) ends is = is
  recovery_end (answer.Shown text) ends is = is
  recovery_end (answer.ShownDead trap text) ends is = is
  recovery_end (answer.Last n value) ends is = is
  recovery_end answer.NoMemory ends is = absurd ends
  recovery_end answer.RefusedDown ends is = is
  recovery_end (answer.RefusedUnusable kind) ends is = is
  recovery_end answer.RefusedUnknown ends is = is
  recovery_end answer.RefusedArity ends is = is
  recovery_end answer.RefusedNumbers ends is = absurd ends
  recovery_end (answer.RefusedPick line) ends is = absurd ends

-- a power cut that isn't refused for its pick: by the mark, or by a recovery from what is found
module _ (p : Source) (s : UserState) (image : Words) (t : UserState) where
  abbrev ByMark : UserStanding → Answer → Type 0
  ByMark st a = (kind : TrapKind) × (a ≡ answer.RefusedUnusable kind)
      × (image MARK ≡ pos (trap_number kind)) × HasTrapped st p s kind
      × (t ≡ stands_as (Unusable kind) s)

  abbrev ByRecovery : UserStanding → Answer → Type 0
  ByRecovery st a = (image MARK ≡ pos 0)
      × RecoveryEnds (found_as st p s image).standing p (found_as st p s image) a t

  abbrev PowerEnds : UserStanding → Answer → Type 0
  PowerEnds st a = ByMark st a ⊎ ByRecovery st a

  abbrev found : UserState
  found = found_as s.standing p s image

  recovered : (a : Answer) → CameToEnd a
      → (image MARK ≡ pos 0) × UserRecovers p found image a t → PowerEnds s.standing a
  recovered a ends is = inr (is.0, recovery_end p found image t a ends is.1)

  power_end : (a : Answer) → CameToEnd a → UserPowers p s image a t → PowerEnds s.standing a
  power_end answer.Silent ends is = recovered answer.Silent ends is
  power_end (answer.Done value unsigned logged) ends is =
      recovered (answer.Done value unsigned logged) ends is
  power_end (answer.Trap kind) ends is = recovered (answer.Trap kind) ends is
  power_end (answer.Aborted kind) ends is = recovered (answer.Aborted kind) ends is
  power_end (answer.Stopped at) ends is = absurd ends
  power_end answer.DeviceFault ends is = absurd ends
  power_end answer.RecoveredNone ends is = recovered answer.RecoveredNone ends is
  power_end (answer.RecoveredRedone value unsigned logged) ends is =
      recovered (answer.RecoveredRedone value unsigned logged) ends is
  power_end (answer.RecoveredTrap kind) ends is = recovered (answer.RecoveredTrap kind) ends is
  power_end (answer.RecoveredAborted kind) ends is =
      recovered (answer.RecoveredAborted kind) ends is
  power_end (answer.Shown text) ends is = recovered (answer.Shown text) ends is
  power_end (answer.ShownDead trap text) ends is = recovered (answer.ShownDead trap text) ends is
  power_end (answer.Last n value) ends is = recovered (answer.Last n value) ends is
  power_end answer.NoMemory ends is = absurd ends
  power_end answer.RefusedDown ends is = recovered answer.RefusedDown ends is
  power_end (answer.RefusedUnusable kind) ends is = inl (kind, refl, is.0, is.1, is.2)
  power_end answer.RefusedUnknown ends is = recovered answer.RefusedUnknown ends is
  power_end answer.RefusedArity ends is = recovered answer.RefusedArity ends is
  power_end answer.RefusedNumbers ends is = absurd ends
  power_end (answer.RefusedPick line) ends is = absurd ends

-- one answer gives one state

recovery_one : (p : Source) (s : UserState) (a b : Answer) (t u : UserState) (st : UserStanding)
    → RecoveryEnds st p s a t → RecoveryEnds st p s b u → (a ≡ b) × (t ≡ u)
recovery_one p s a b t u Ready is so = absurd is
recovery_one p s a b t u Idle is so = (is.0 ∙ sym so.0, is.1 ∙ sym so.1)
recovery_one p s a b t u (Owed call seal) is so = (is.0 ∙ sym so.0, is.1 ∙ sym so.1)
recovery_one p s a b t u (Unusable kind) is so = absurd is

module _ (p : Source) (s : UserState) (image other : Words) (t u : UserState) where
  run_state : (call : Pending) (a : Answer) → UserRuns p s image call a t
      → UserRuns p s other call a u → t ≡ u
  run_state call = by_end
      (λ (a : Answer). UserRuns p s image call a t → UserRuns p s other call a u → t ≡ u)
      (λ a ends is so. (run_end p s image t call a ends is).1
      ∙ sym (run_end p s other u call a ends so).1)
      (λ at is so. is ∙ sym so) (λ is so. is ∙ sym so) (λ is so. is ∙ sym so)
      (λ is so. is.1 ∙ sym so.1) (λ line is so. is.1 ∙ sym so.1)

  look_state : (call : Pending) (a : Answer) → UserLooks p s call a t → UserLooks p s call a u
      → t ≡ u
  look_state call (answer.Done value unsigned logged) is so = is.2 ∙ sym so.2
  look_state call (answer.Aborted kind) is so = is.1 ∙ sym so.1
  look_state call answer.NoMemory is so = is ∙ sym so
  look_state call _ is so = absurd is

  tell_state : (a : Answer) → UserTells p s a t → UserTells p s a u → t ≡ u
  tell_state = by_end (λ (a : Answer). UserTells p s a t → UserTells p s a u → t ≡ u)
      (λ a ends is so. (tell_end p s image t a ends is).1
      ∙ sym (tell_end p s image u a ends so).1)
      (λ at is so. is.1 ∙ sym so.1) (λ is so. is.1 ∙ sym so.1) (λ is so. is ∙ sym so)
      (λ is so. is.1 ∙ sym so.1) (λ line is so. is.1 ∙ sym so.1)

  recovery_state : (a : Answer) → UserRecovers p s image a t → UserRecovers p s other a u → t ≡ u
  recovery_state = by_end
      (λ (a : Answer). UserRecovers p s image a t → UserRecovers p s other a u → t ≡ u)
      (λ a ends is so. (recovery_one p s a a t u s.standing
      (recovery_end p s image t a ends is) (recovery_end p s other u a ends so)).1)
      (λ at is so. is.1 ∙ sym so.1) (λ is so. is ∙ sym so) (λ is so. is ∙ sym so)
      (λ is so. is.1 ∙ sym so.1)
      (λ line is so. (recovery_one p s (answer.RefusedPick line) (answer.RefusedPick line) t u
      s.standing is so).1)

module _ (p : Source) (s : UserState) (image other : Words) (t u : UserState)
    (found : found_as s.standing p s image ≡ found_as s.standing p s other) where
  same_found : (a : Answer)
      → (image MARK ≡ pos 0) × UserRecovers p (found_as s.standing p s image) image a t
      → (other MARK ≡ pos 0) × UserRecovers p (found_as s.standing p s other) other a u → t ≡ u
  same_found a is so = recovery_state p (found_as s.standing p s image) image other t u a is.1
      (subst (λ (f : UserState). UserRecovers p f other a u) (sym found) so.1)

  power_state : (a : Answer) → UserPowers p s image a t → UserPowers p s other a u → t ≡ u
  power_state answer.Silent is so = same_found answer.Silent is so
  power_state (answer.Done value unsigned logged) is so =
      same_found (answer.Done value unsigned logged) is so
  power_state (answer.Trap kind) is so = same_found (answer.Trap kind) is so
  power_state (answer.Aborted kind) is so = same_found (answer.Aborted kind) is so
  power_state (answer.Stopped at) is so = same_found (answer.Stopped at) is so
  power_state answer.DeviceFault is so = same_found answer.DeviceFault is so
  power_state answer.RecoveredNone is so = same_found answer.RecoveredNone is so
  power_state (answer.RecoveredRedone value unsigned logged) is so =
      same_found (answer.RecoveredRedone value unsigned logged) is so
  power_state (answer.RecoveredTrap kind) is so = same_found (answer.RecoveredTrap kind) is so
  power_state (answer.RecoveredAborted kind) is so =
      same_found (answer.RecoveredAborted kind) is so
  power_state (answer.Shown text) is so = same_found (answer.Shown text) is so
  power_state (answer.ShownDead trap text) is so = same_found (answer.ShownDead trap text) is so
  power_state (answer.Last n value) is so = same_found (answer.Last n value) is so
  power_state answer.NoMemory is so = same_found answer.NoMemory is so
  power_state answer.RefusedDown is so = same_found answer.RefusedDown is so
  power_state (answer.RefusedUnusable kind) is so = is.2 ∙ sym so.2
  power_state answer.RefusedUnknown is so = same_found answer.RefusedUnknown is so
  power_state answer.RefusedArity is so = same_found answer.RefusedArity is so
  power_state answer.RefusedNumbers is so = same_found answer.RefusedNumbers is so
  power_state (answer.RefusedPick line) is so = is ∙ sym so

-- one end of a power cut

trap_in : Outcome → TrapKind
trap_in (Done pool value) = trap.Null
trap_in (Trap kind) = kind

some_number : (kind : TrapKind) → trap_number kind ≡ 0 → ⊥
some_number trap.Null e = omega arith
some_number trap.Stale e = omega arith
some_number trap.Index e = omega arith
some_number trap.Divide e = omega arith
some_number trap.Steps e = omega arith
some_number trap.Abort e = omega arith
some_number trap.LogFull e = omega arith
some_number trap.Depth e = omega arith

trapped_one : (p : Source) (s : UserState) (st : UserStanding) (kind other : TrapKind)
    → HasTrapped st p s kind → HasTrapped st p s other → kind ≡ other
unfolding trap_in
trapped_one p s Ready kind other is so = absurd is
trapped_one p s Idle kind other is so = absurd is
trapped_one p s (Owed call seal) kind other is so = ap trap_in (sym is.1 ∙ so.1)
trapped_one p s (Unusable first) kind other is so = is ∙ sym so

-- no call is owed
abbrev OwesNone : UserStanding → Type 0
OwesNone Ready = Unit {0}
OwesNone Idle = Unit {0}
OwesNone (Owed call seal) = ⊥
OwesNone (Unusable kind) = Unit {0}

module _ (p : Source) (s : UserState) (image other : Words) (t u : UserState) (a b : Answer) where
  marks_one : (st : UserStanding) → ByMark p s image t st a → ByMark p s other u st b
      → (a ≡ b) × (t ≡ u)
  marks_one st is so = let same = trapped_one p s st is.0 so.0 is.3 so.3 in (
    is.1 ∙ ap answer.RefusedUnusable same ∙ sym so.1,
    is.4 ∙ ap (λ (kind : TrapKind). stands_as (Unusable kind) s) same ∙ sym so.4,
  )

  -- from images of which the same is found
  alike_one : (st : UserStanding) → image MARK ≡ other MARK
      → found_as st p s image ≡ found_as st p s other → PowerEnds p s image t st a
      → PowerEnds p s other u st b → (a ≡ b) × (t ≡ u)
  alike_one st mark finds (inl is) (inl so) = marks_one st is so
  alike_one st mark finds (inl is) (inr so) =
      absurd (some_number is.0 (pos_inj (trap_number is.0) 0 (sym is.2 ∙ mark ∙ so.0)))
  alike_one st mark finds (inr is) (inl so) =
      absurd (some_number so.0 (pos_inj (trap_number so.0) 0 (sym so.2 ∙ sym mark ∙ is.0)))
  alike_one st mark finds (inr is) (inr so) =
      recovery_one p (found_as st p s image) a b t u (found_as st p s image).standing is.1
      (subst (λ (f : UserState). RecoveryEnds f.standing p f b u) (sym finds) so.1)

  -- where nothing is owed the image doesn't matter
  owing_none : (st : UserStanding) → s.standing ≡ st → OwesNone st → PowerEnds p s image t st a
      → PowerEnds p s other u st b → (a ≡ b) × (t ≡ u)
  owing_none Ready stands owes (inl is) so = absurd is.3
  owing_none Ready stands owes (inr is) (inl so) = absurd so.3
  owing_none Ready stands owes (inr is) (inr so) =
      recovery_one p (stands_as Idle s) a b t u Idle is.1 so.1
  owing_none Idle stands owes (inl is) so = absurd is.3
  owing_none Idle stands owes (inr is) (inl so) = absurd so.3
  owing_none Idle stands owes (inr is) (inr so) =
      recovery_one p (stands_as Idle s) a b t u Idle is.1 so.1
  owing_none (Owed call seal) stands owes is so = absurd owes
  owing_none (Unusable kind) stands owes (inl is) (inl so) = marks_one (Unusable kind) is so
  owing_none (Unusable kind) stands owes (inl is) (inr so) =
      absurd (subst (λ (st : UserStanding). RecoveryEnds st p s b u) stands so.1)
  owing_none (Unusable kind) stands owes (inr is) so =
      absurd (subst (λ (st : UserStanding). RecoveryEnds st p s a t) stands is.1)

-- what is found, by the seal and the count alone
found_same : (p : Source) (s : UserState) (image other : Words) (st : UserStanding)
    → CountAlike image other → found_as st p s image ≡ found_as st p s other
found_same p s image other Ready alike = refl
found_same p s image other Idle alike = refl
found_same p s image other (Owed call seal) alike =
    ap (λ (w : ℤ). found_by_seal (int_eq w (pos (suc s.done))) (has_next_count s image) p s call)
    alike.0
    ∙ ap (λ (w : ℤ). found_by_seal (has_next_seal s other) (int_eq w (pos (suc s.done))) p s call)
    alike.1
found_same p s image other (Unusable kind) alike = refl

-- no call is owed after an end, if none was before

after_free : (rolls : Bool) (o : Outcome) (s : UserState)
    → OwesNone (state_after Ready rolls o s).standing
after_free rolls (Done pool value) s = tt
after_free true (Trap kind) s = tt
after_free false (Trap kind) s = tt

stays_free : (s t : UserState) → t ≡ s → OwesNone s.standing → OwesNone t.standing
stays_free s t is = subst (λ (v : UserState). OwesNone v.standing) (sym is)

module _ (p : Source) (s : UserState) (image : Words) (t : UserState) (a : Answer) where
  power_free : (st : UserStanding) → s.standing ≡ st → OwesNone st → PowerEnds p s image t st a
      → OwesNone t.standing
  power_free st stands owes (inl is) = stays_free (stands_as (Unusable is.0) s) t is.4 tt
  power_free Ready stands owes (inr is) = stays_free (stands_as Ready s) t is.1.1 tt
  power_free Idle stands owes (inr is) = stays_free (stands_as Ready s) t is.1.1 tt
  power_free (Owed call seal) stands owes (inr is) = absurd owes
  power_free (Unusable kind) stands owes (inr is) =
      absurd (subst (λ (st : UserStanding). RecoveryEnds st p s a t) stands is.1)

-- Two relations, as from two images: an answer gives one state, there is one end, and it owes no
-- call if none was owed.
abbrev Fixes : UserState → (R Q : Answer → UserState → Type 0) → Type 0
Fixes s R Q =
    ((a : Answer) (t u : UserState) → R a t → Q a u → t ≡ u)
    × ((a b : Answer) (t u : UserState) → CameToEnd a → CameToEnd b → R a t → Q b u
    → (a ≡ b) × (t ≡ u))
    × ((a : Answer) (t : UserState) → OwesNone s.standing → CameToEnd a → R a t
    → OwesNone t.standing)

stays_fix : (why : Answer) (s : UserState) → Fixes s (StaysWith why s) (StaysWith why s)
stays_fix why s = (
  λ a t u is so. is.1 ∙ sym so.1,
  λ a b t u ends also is so. (is.0 ∙ sym so.0, is.1 ∙ sym so.1),
  λ a t owes ends is. stays_free s t is.1 owes,
)

module _ (p : Source) (s : UserState) (image other : Words) where
  run_fix : (call : Pending) → Fixes s (UserRuns p s image call) (UserRuns p s other call)
  run_fix call = (
    λ a t u is so. run_state p s image other t u call a is so,
    λ a b t u ends also is so.
        let first = run_end p s image t call a ends is in
        let second = run_end p s other u call b also so in
        (first.0 ∙ sym second.0, first.1 ∙ sym second.1),
    λ a t owes ends is. stays_free (finished Ready p s call) t
        (run_end p s image t call a ends is).1
        (after_free (rolls_back p call.tx) (comes_to p s.pool call) s),
  )

  look_fix : (call : Pending) → Fixes s (UserLooks p s call) (UserLooks p s call)
  look_fix call = (
    λ a t u is so. look_state p s image other t u call a is so,
    λ a b t u ends also is so.
        let first = look_end p s image t call a ends is in
        let second = look_end p s other u call b also so in
        (first.0 ∙ sym second.0, first.1 ∙ sym second.1),
    λ a t owes ends is. stays_free s t (look_end p s image t call a ends is).1 owes,
  )

  as_fix : (looks : Bool) (call : Pending)
      → Fixes s (UserRunsAs looks p s image call) (UserRunsAs looks p s other call)
  as_fix true call = look_fix call
  as_fix false call = run_fix call

  with_fix : (fits : Bool) (call : Pending)
      → Fixes s (UserCallsWith fits p s image call) (UserCallsWith fits p s other call)
  with_fix true call = as_fix (looks p call.tx) call
  with_fix false call = stays_fix answer.RefusedArity s

  to_fix : (count : Option ℕ) (call : Pending)
      → Fixes s (UserCallsTo count p s image call) (UserCallsTo count p s other call)
  to_fix None call = stays_fix answer.RefusedUnknown s
  to_fix (Some count) call = with_fix (count == length call.args) call

  named_fix : (number : Option ℕ) (args : List ℤ)
      → Fixes s (UserCallsNamed number p s image args) (UserCallsNamed number p s other args)
  named_fix None args = stays_fix answer.RefusedUnknown s
  named_fix (Some tx) args = to_fix (arity_of p tx) (record { tx = tx; args = args })

  calls_fix : (st : UserStanding) (name : List ℕ) (args : List ℤ)
      → Fixes s (UserCalls st p s image name args) (UserCalls st p s other name args)
  calls_fix Ready name args = named_fix (number_named p name) args
  calls_fix Idle name args = stays_fix answer.RefusedDown s
  calls_fix (Owed call seal) name args = stays_fix answer.RefusedDown s
  calls_fix (Unusable kind) name args = stays_fix (answer.RefusedUnusable kind) s

  shows_fix : (st : UserStanding) → Fixes s (UserShows st p s) (UserShows st p s)
  shows_fix Ready = (
    λ a t u is so. tell_state p s image other t u a is so,
    λ a b t u ends also is so.
        let first = tell_end p s image t a ends is in
        let second = tell_end p s image u b also so in
        (first.0 ∙ sym second.0, first.1 ∙ sym second.1),
    λ a t owes ends is. stays_free s t (tell_end p s image t a ends is).1 owes,
  )
  shows_fix Idle = stays_fix answer.RefusedDown s
  shows_fix (Owed call seal) = stays_fix answer.RefusedDown s
  shows_fix (Unusable kind) = stays_fix (answer.RefusedUnusable kind) s

  deads_state : (st : UserStanding) (a : Answer) (t u : UserState)
      → UserShowsDead st p s image a t → UserShowsDead st p s other a u → t ≡ u
  deads_state Ready = (shows_fix Ready).0
  deads_state Idle = (shows_fix Idle).0
  deads_state (Owed call seal) = (shows_fix (Owed call seal)).0
  deads_state (Unusable kind) = λ a t u is so. is.1 ∙ sym so.1

  -- if the text is the image's, both images hold the same pool
  abbrev HoldAlike : Answer → Type 0
  HoldAlike a = IsOfImage a → pool_of_image p image ≡ pool_of_image p other

  abbrev dead_text : Words → List ℕ
  dead_text words = pool_text (shapes_in p.tables) (pool_of_image p words)

  dead_end : (words : Words) (kind : TrapKind) (a : Answer) → CameToEnd a
      → UserTellsDead p words kind a → a ≡ answer.ShownDead kind (dead_text words)
  dead_end words kind a ends is =
      ⊎_elim (λ shown. shown) (λ none. absurd (subst CameToEnd none ends)) is

  dead_told : (kind : TrapKind) (a b : Answer) → HoldAlike a
      → a ≡ answer.ShownDead kind (dead_text image)
      → b ≡ answer.ShownDead kind (dead_text other) → a ≡ b
  dead_told kind a b alike is so =
      is ∙ ap (λ (pool : PoolMap). answer.ShownDead kind (pool_text (shapes_in p.tables) pool))
      (alike (subst IsOfImage (sym is) tt)) ∙ sym so

  deads_end : (st : UserStanding) (a b : Answer) (t u : UserState) → HoldAlike a → CameToEnd a
      → CameToEnd b → UserShowsDead st p s image a t → UserShowsDead st p s other b u
      → (a ≡ b) × (t ≡ u)
  deads_end Ready a b t u alike = (shows_fix Ready).1 a b t u
  deads_end Idle a b t u alike = (shows_fix Idle).1 a b t u
  deads_end (Owed call seal) a b t u alike = (shows_fix (Owed call seal)).1 a b t u
  deads_end (Unusable kind) a b t u alike = λ ends also is so. (
    dead_told kind a b alike (dead_end image kind a ends is.0) (dead_end other kind b also so.0),
    is.1 ∙ sym so.1,
  )

  deads_free : (st : UserStanding) (a : Answer) (t : UserState) → OwesNone s.standing
      → CameToEnd a → UserShowsDead st p s image a t → OwesNone t.standing
  deads_free Ready a t = (shows_fix Ready).2 a t
  deads_free Idle a t = (shows_fix Idle).2 a t
  deads_free (Owed call seal) a t = (shows_fix (Owed call seal)).2 a t
  deads_free (Unusable kind) a t = λ owes ends is. stays_free s t is.1 owes

  lasts_fix : (st : UserStanding) → Fixes s (UserLasts st s) (UserLasts st s)
  lasts_fix Ready = stays_fix (answer.Last (pos s.done) s.last) s
  lasts_fix Idle = stays_fix answer.RefusedDown s
  lasts_fix (Owed call seal) = stays_fix answer.RefusedDown s
  lasts_fix (Unusable kind) = stays_fix (answer.RefusedUnusable kind) s

  -- of two images a power cut finds the same
  abbrev FindsAlike : Command → Type 0
  FindsAlike (command.Power choice) =
      found_as s.standing p s image ≡ found_as s.standing p s other
  FindsAlike c = Unit {0}

  answers_state : (c : Command) (a : Answer) (t u : UserState) → FindsAlike c
      → UserAnswers p s image c a t → UserAnswers p s other c a u → t ≡ u
  answers_state (command.Call name args) a t u alike = (calls_fix s.standing name args).0 a t u
  answers_state (command.Stop left) a t u alike = (stays_fix answer.Silent s).0 a t u
  answers_state (command.Fault at) a t u alike = (stays_fix answer.Silent s).0 a t u
  answers_state (command.Power choice) a t u alike = power_state p s image other t u alike a
  answers_state command.Show a t u alike = (shows_fix s.standing).0 a t u
  answers_state command.ShowDead a t u alike = deads_state s.standing a t u
  answers_state command.Last a t u alike = (lasts_fix s.standing).0 a t u

  -- what a power cut finds has one end, and a text of an image is that of both
  abbrev EndsAlike : Command → Answer → Type 0
  EndsAlike (command.Power choice) a =
      (b : Answer) (t u : UserState) → PowerEnds p s image t s.standing a
      → PowerEnds p s other u s.standing b → (a ≡ b) × (t ≡ u)
  EndsAlike command.ShowDead a = HoldAlike a
  EndsAlike c a = Unit {0}

  answers_end : (c : Command) (a b : Answer) (t u : UserState) → EndsAlike c a → CameToEnd a
      → CameToEnd b → UserAnswers p s image c a t → UserAnswers p s other c b u
      → (a ≡ b) × (t ≡ u)
  answers_end (command.Call name args) a b t u alike =
      (calls_fix s.standing name args).1 a b t u
  answers_end (command.Stop left) a b t u alike = (stays_fix answer.Silent s).1 a b t u
  answers_end (command.Fault at) a b t u alike = (stays_fix answer.Silent s).1 a b t u
  answers_end (command.Power choice) a b t u alike = λ ends also is so.
      alike b t u (power_end p s image t a ends is) (power_end p s other u b also so)
  answers_end command.Show a b t u alike = (shows_fix s.standing).1 a b t u
  answers_end command.ShowDead a b t u alike = deads_end s.standing a b t u alike
  answers_end command.Last a b t u alike = (lasts_fix s.standing).1 a b t u

  answers_free : (c : Command) (a : Answer) (t : UserState) → OwesNone s.standing → CameToEnd a
      → UserAnswers p s image c a t → OwesNone t.standing
  answers_free (command.Call name args) a t = (calls_fix s.standing name args).2 a t
  answers_free (command.Stop left) a t = (stays_fix answer.Silent s).2 a t
  answers_free (command.Fault at) a t = (stays_fix answer.Silent s).2 a t
  answers_free (command.Power choice) a t = λ owes ends is.
      power_free p s image t a s.standing refl owes (power_end p s image t a ends is)
  answers_free command.Show a t = (shows_fix s.standing).2 a t
  answers_free command.ShowDead a t = deads_free s.standing a t
  answers_free command.Last a t = (lasts_fix s.standing).2 a t

counted_alike : (p : Source) (s : UserState) (image other : Words) (c : Command)
    → CountAlike image other → FindsAlike p s image other c
counted_alike p s image other (command.Call name args) alike = tt
counted_alike p s image other (command.Stop left) alike = tt
counted_alike p s image other (command.Fault at) alike = tt
counted_alike p s image other (command.Power choice) alike =
    found_same p s image other s.standing alike
counted_alike p s image other command.Show alike = tt
counted_alike p s image other command.ShowDead alike = tt
counted_alike p s image other command.Last alike = tt

pub one_state_law : OneStateLaw
one_state_law p s t u image other c a alike is so =
    answers_state p s image other c a t u (counted_alike p s image other c alike) is so

same_ends : (p : Source) (s : UserState) (image : Words) (c : Command) (a : Answer)
    → EndsAlike p s image image c a
same_ends p s image (command.Call name args) a = tt
same_ends p s image (command.Stop left) a = tt
same_ends p s image (command.Fault at) a = tt
same_ends p s image (command.Power choice) a = λ b t u is so.
    alike_one p s image image t u a b s.standing refl refl is so
same_ends p s image command.Show a = tt
same_ends p s image command.ShowDead a = λ shown. refl
same_ends p s image command.Last a = tt

pub one_end_law : OneEndLaw
one_end_law p s t u image c a b ends also is so =
    answers_end p s image image c a b t u (same_ends p s image c a) ends also is so

-- chains

none_alike : (p : Source) (s : UserState) (image other : Words) (c : Command) (a : Answer)
    → OwesNone s.standing → (IsOfImage a → ⊥) → EndsAlike p s image other c a
none_alike p s image other (command.Call name args) a owes told = tt
none_alike p s image other (command.Stop left) a owes told = tt
none_alike p s image other (command.Fault at) a owes told = tt
none_alike p s image other (command.Power choice) a owes told = λ b t u is so.
    owing_none p s image other t u a b s.standing refl owes is so
none_alike p s image other command.Show a owes told = tt
none_alike p s image other command.ShowDead a owes told = λ shown. absurd (told shown)
none_alike p s image other command.Last a owes told = tt

-- what is found after a cut, if it leaves the same where a call is owed
owed_alike : (p : Source) (s : UserState) (choice : Choice) (d e : Device) (st : UserStanding)
    → CutsAlike st (command.Power choice) d e
    → found_as st p s (found_by (command.Power choice) d)
    ≡ found_as st p s (found_by (command.Power choice) e)
owed_alike p s choice d e Ready alike = refl
owed_alike p s choice d e Idle alike = refl
owed_alike p s choice d e (Owed call seal) alike =
    found_same p s (found_by (command.Power choice) d) (found_by (command.Power choice) e)
    (Owed call seal) alike
owed_alike p s choice d e (Unusable kind) alike = refl

cut_alike : (p : Source) (s : UserState) (d e : Device) (c : Command)
    → CutsAlike s.standing c d e → FindsAlike p s (found_by c d) (found_by c e) c
cut_alike p s d e (command.Call name args) alike = tt
cut_alike p s d e (command.Stop left) alike = tt
cut_alike p s d e (command.Fault at) alike = tt
cut_alike p s d e (command.Power choice) alike = owed_alike p s choice d e s.standing alike
cut_alike p s d e command.Show alike = tt
cut_alike p s d e command.ShowDead alike = tt
cut_alike p s d e command.Last alike = tt

module _ (p : Source) (c : Command) (x z u w : UserMoment) (a b : Answer)
    (same : KnowsTheSame x u) (one : UserStep p c x a z) (other : UserStep p c u b w) where
  -- the second step, from the state of the first
  moved : UserAnswers p x.state (found_by c u.device) c b w.state
  moved = subst (λ (s : UserState). UserAnswers p s (found_by c u.device) c b w.state)
      (sym same.0) other.meant

  steps_history : z.state ≡ w.state → z.history ≡ w.history
  steps_history is =
      one.history
      ∙ ap (λ (s : UserState). grown_history p s c z.state x.history) same.0
      ∙ ap (λ (t : UserState). grown_history p u.state c t x.history) is
      ∙ ap (λ (h : List Pending). grown_history p u.state c w.state h) same.1
      ∙ sym other.history

  steps_state : a ≡ b → CutsAlike x.state.standing c x.device u.device → KnowsTheSame z w
  steps_state answered alike =
      let is : z.state ≡ w.state = answers_state p x.state (found_by c x.device)
      (found_by c u.device) c a z.state w.state (cut_alike p x.state x.device u.device c alike)
      one.meant (subst (λ (e : Answer). UserAnswers p x.state (found_by c u.device) c e w.state)
      (sym answered) moved) in (is, steps_history is)

  steps_end : OwesNone x.state.standing → CameToEnd a → CameToEnd b → (IsOfImage a → ⊥)
      → (a ≡ b) × KnowsTheSame z w
  steps_end owes ends also told =
      let is = answers_end p x.state (found_by c x.device) (found_by c u.device) c a b z.state
      w.state (none_alike p x.state (found_by c x.device) (found_by c u.device) c a owes told) ends
      also one.meant moved in (is.0, (is.1, steps_history is.1))

ends_same : (x y u v : UserMoment) → KnowsTheSame x u → y ≡ x → v ≡ u → KnowsTheSame y v
ends_same x y u v same one other = (
  ap (λ (m : UserMoment). m.state) one ∙ same.0 ∙ sym (ap (λ (m : UserMoment). m.state) other),
  ap (λ (m : UserMoment). m.history) one ∙ same.1
      ∙ sym (ap (λ (m : UserMoment). m.history) other),
)

pub same_answers_law : SameAnswersLaw
same_answers_law p [] [] x y u v one other same alike = ends_same x y u v same one other
same_answers_law p [] (a ∷ answers) x y u v one other same alike = absurd one
same_answers_law p (c ∷ commands) [] x y u v one other same alike = absurd one
same_answers_law p (c ∷ commands) (a ∷ answers) x y u v one other same alike =
    same_answers_law p commands answers one.0 y other.0 v one.2 other.2
    (steps_state p c x one.0 u other.0 a a same one.1 other.1 refl alike.0) alike.1

same_ends_chain : (p : Source) (commands : List Command) (answers others : List Answer)
    (x y u v : UserMoment) → OwesNone x.state.standing → KnowsTheSame x u
    → AllByRecursion CameToEnd answers → AllByRecursion CameToEnd others
    → AllByRecursion (λ (a : Answer). IsOfImage a → ⊥) answers
    → UserRan p commands answers x y → UserRan p commands others u v
    → (answers ≡ others) × KnowsTheSame y v
same_ends_chain p [] [] [] x y u v owes same ends also told one other =
    (refl, ends_same x y u v same one other)
same_ends_chain p [] [] (b ∷ others) x y u v owes same ends also told one other = absurd other
same_ends_chain p [] (a ∷ answers) others x y u v owes same ends also told one other = absurd one
same_ends_chain p (c ∷ commands) [] others x y u v owes same ends also told one other = absurd one
same_ends_chain p (c ∷ commands) (a ∷ answers) [] x y u v owes same ends also told one other =
    absurd other
same_ends_chain p (c ∷ commands) (a ∷ answers) (b ∷ others) x y u v owes same ends also told one
    other =
    let first = steps_end p c x one.0 u other.0 a b same one.1 other.1 owes ends.0 also.0 told.0 in
    let rest = same_ends_chain p commands answers others one.0 y other.0 v
    (answers_free p x.state (found_by c x.device) (found_by c x.device) c a one.0.state owes ends.0
    one.1.meant) first.1 ends.1 also.1 told.1 one.2 other.2 in (
      ap (λ (e : Answer). e ∷ answers) first.0
          ∙ ap (λ (es : List Answer). b ∷ es) rest.0,
      rest.1,
    )

pub same_script_law : SameScriptLaw
same_script_law p commands answers others x y u v ready same ends also told one other =
    same_ends_chain p commands answers others x y u v
    (subst OwesNone (sym ready) tt) same ends also told one other

-- the commands that a text means
commands_in : Result (List Command) ℕ → List Command
commands_in (Ok commands) = commands
commands_in (Err line) = []

pub same_output_law : SameOutputLaw
unfolding commands_in
same_output_law text script meaning sizes d b e f written rewritten run again ends also told =
    let p : Source = source_with meaning sizes in
    let same : run.commands ≡ again.commands =
    ap commands_in (sym run.spelled ∙ again.spelled) in
    let moved : UserRan p run.commands again.answers (first_moment p e) again.last =
    subst (λ (commands : List Command).
    UserRan p commands again.answers (first_moment p e) again.last) (sym same) again.ran in
    let one = same_script_law p run.commands run.answers again.answers (first_moment p d) run.last
    (first_moment p e) again.last refl (refl, refl) ends also told run.ran moved in (
      run.written_is ∙ ap (λ (answers : List Answer). flat_map answer_text answers) one.0
          ∙ sym again.written_is,
      one.1,
    )
