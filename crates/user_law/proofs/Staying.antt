-- Once every image has the seal, the call is finished before any later call.
use Rattle.std.proofs.Common.{◌≡◌, ◌⊎◌, inl, inr, ⊎_elim, ℕ, suc, ◌==◌, Bool, true, false, List, []}
use Rattle.std.proofs.Common.{◌∷◌, ◌++◌, length, ℤ, pos, refl, sym, ap, ◌∙◌, subst, append_assoc}
use Rattle.std.proofs.Common.{arith}
use Rattle.std.proofs.lemmas.Bool.Decides.{Decides-int_eq}
use Rattle.cache_model.specs.Cache.{Words}
use Rattle.cache_model.specs.declared.choice.Choice.{Choice}
use Rattle.pmem.specs.Device.{Device}
use Rattle.pmem.specs.declared.answer.Phase.{Phase}
use Rattle.pmem.specs.declared.answer.Phase.TheVariants as phase
use Rattle.pool_layout.specs.declared.places.TheConstants.{MARK, SEAL}
use Rattle.pool_map.specs.declared.trap.TrapKind.{TrapKind}
use Rattle.c_meaning.specs.Transaction.{Outcome, Done, Trap}
use Rattle.cnvm_script.specs.declared.command.Command.{Command}
use Rattle.cnvm_script.specs.declared.command.Command.TheVariants as command
use Rattle.cnvm_session.specs.declared.answer.Answer.{Answer}
use Rattle.cnvm_session.specs.declared.answer.Answer.TheVariants as answer
use Rattle.cnvm_session.specs.Laws.{IsBadPick}
use Rattle.session_law.specs.State.{Pending}
use Rattle.session_law.specs.History.{call_to}
use Rattle.session_law.specs.Ran.{found_by}
use Rattle.session_law.proofs.images.Ones.{at_left}
use Rattle.user_law.specs.Source.{Source, rolls_back, comes_to, number_named}
use Rattle.user_law.specs.State.{UserStanding, Ready, Idle, Owed, Unusable, UserState, stands_as}
use Rattle.user_law.specs.State.{state_after}
use Rattle.user_law.specs.Answers.{UserCalls, UserShows, UserShowsDead, UserLasts}
use Rattle.user_law.specs.Answers.{has_next_seal, has_next_count, RecoveryEnds}
use Rattle.user_law.specs.Answers.{found_by_seal, found_as, UserRecovers, UserPowers}
use Rattle.user_law.specs.History.{owed_in, subject_of, finished_by}
use Rattle.user_law.specs.Keeps.{UserKeeps, UserKeepsAs, HasNextSeal}
use Rattle.user_law.specs.Ran.{UserMoment, UserStep}
use Rattle.user_law.specs.Stays.{IsSure, IsPowerCut, CutSealedLaw, SureLaw, OnceSealedLaw}
use Rattle.user_law.specs.Stays.{CutUnsealedLaw}
use Rattle.user_law.specs.Stays.{HeadLaw, RunHeadLaw}
use Rattle.user_law.specs.State.{first_state}
use Rattle.user_law.specs.Run.{first_moment, source_with}
use Rattle.user_law.specs.History.{pool_after_all}
use Rattle.user_law.proofs.Moving.{chain_grows}
use Rattle.user_law.specs.Stays.{UserKeptLaw}
use Rattle.user_law.proofs.Cases.{recovers_by, powers_by}
use Rattle.user_law.proofs.Moving.{Stays, after_standing, stays_history, counts_history}
use Rattle.user_law.proofs.Moving.{step_grows}

-- a standing in which no call is taken
abbrev Blocks : UserStanding → Type 0
Blocks Ready = ⊥
Blocks Idle = ⊥
Blocks (Owed call seal) = Unit {0}
Blocks (Unusable kind) = Unit {0}

module _ (p : Source) (s t : UserState) (image : Words) (a : Answer) where
  calls_same : (name : List ℕ) (args : List ℤ) (st : UserStanding) → Blocks st →
      UserCalls st p s image name args a t → t ≡ s
  calls_same name args Ready blocks is = absurd blocks
  calls_same name args Idle blocks is = is.1
  calls_same name args (Owed call seal) blocks is = is.1
  calls_same name args (Unusable kind) blocks is = is.1

  shows_same : (st : UserStanding) → Blocks st → UserShows st p s a t → t ≡ s
  shows_same Ready blocks is = absurd blocks
  shows_same Idle blocks is = is.1
  shows_same (Owed call seal) blocks is = is.1
  shows_same (Unusable kind) blocks is = is.1

  deads_same : (st : UserStanding) → Blocks st → UserShowsDead st p s image a t → t ≡ s
  deads_same Ready blocks is = absurd blocks
  deads_same Idle blocks is = is.1
  deads_same (Owed call seal) blocks is = is.1
  deads_same (Unusable kind) blocks is = is.1

  lasts_same : (st : UserStanding) → Blocks st → UserLasts st s a t → t ≡ s
  lasts_same Ready blocks is = is.1
  lasts_same Idle blocks is = is.1
  lasts_same (Owed call seal) blocks is = is.1
  lasts_same (Unusable kind) blocks is = is.1

-- a recovery that leads on from a state with an outcome
module _ (p : Source) (x y : UserMoment) (call : Pending) (image : Words) (a : Answer)
    (history : y.history ≡ x.history ++ finished_by (y.state.done == x.state.done) (call ∷ []))
  where
    abbrev s : UserState
    s = x.state

    abbrev t : UserState
    t = y.state

    counted : t.done ≡ suc s.done → IsSure x.history call y
    counted more = inl ([], counts_history p x y (call ∷ []) history call refl more)

    lost : (kind : TrapKind) → t ≡ stands_as (Unusable kind) s → IsSure x.history call y
    lost kind is = inr (inr (kind, ap (λ (z : UserState). z.standing) is))

    after_sure : (st : UserStanding) (rolls : Bool) (o : Outcome) → t ≡ state_after st rolls o s →
        IsSure x.history call y
    after_sure st rolls (Done pool value) is = counted (ap (λ (z : UserState). z.done) is)
    after_sure st true (Trap kind) is = counted (ap (λ (z : UserState). z.done) is)
    after_sure st false (Trap kind) is = lost kind is

    ended_sure : (rolls : Bool) (o : Outcome) →
        UserRecovers p (state_after Idle rolls o s) image a t →
        IsSure x.history call y
    ended_sure rolls (Done pool value) rec =
        ⊎_elim (λ (same : t ≡ state_after Idle rolls (Done pool value) s).
        after_sure Idle rolls (Done pool value) same)
        (λ (ends : RecoveryEnds Idle p (state_after Idle rolls (Done pool value) s) a t).
        counted (ap (λ (z : UserState). z.done) ends.1))
        (recovers_by p (state_after Idle rolls (Done pool value) s) t image a rec)
    ended_sure true (Trap kind) rec =
        ⊎_elim (λ (same : t ≡ state_after Idle true (Trap kind) s). after_sure Idle true (Trap
        kind) same)
        (λ (ends : RecoveryEnds Idle p (state_after Idle true (Trap kind) s) a t).
        counted (ap (λ (z : UserState). z.done) ends.1))
        (recovers_by p (state_after Idle true (Trap kind) s) t image a rec)
    ended_sure false (Trap kind) rec =
        ⊎_elim (λ (same : t ≡ stands_as (Unusable kind) s). lost kind same)
        (λ (ends : RecoveryEnds (Unusable kind) p (stands_as (Unusable kind) s) a t). absurd
        ends)
        (recovers_by p (stands_as (Unusable kind) s) t image a rec)

    still_sure : t ≡ stands_as (Owed call phase.Sealed) s → IsSure x.history call y
    still_sure same =
        inr (inl (
          ap (λ (z : UserState). z.standing) same,
          stays_history p x y (call ∷ []) history
              (ap (λ (z : UserState). z.done) same, ap (λ (z : UserState). z.pool) same),
        ))

    sealed_sure : (count : Bool) →
        UserRecovers p (found_by_seal true count p s call) image a t
        → IsSure x.history call y
    sealed_sure true rec =
        ended_sure (rolls_back p call.tx) (comes_to p s.pool call) rec
    sealed_sure false rec =
        ⊎_elim (λ (same : t ≡ stands_as (Owed call phase.Sealed) s). still_sure same)
        (λ (ends : RecoveryEnds (Owed call phase.Sealed) p (stands_as (Owed call
        phase.Sealed) s) a t).
        after_sure Ready (rolls_back p call.tx) (comes_to p s.pool call) (ends.1
        ∙ after_standing Ready (Owed call phase.Sealed) (rolls_back p call.tx)
        (comes_to p s.pool call) s))
        (recovers_by p (stands_as (Owed call phase.Sealed) s) t image a rec)

    abbrev Found : Type 0
    Found =
        (image MARK ≡ pos 0) × IsPowerCut a
        × UserRecovers p (found_as s.standing p s image) image a t

    abbrev Rest : Type 0
    Rest = ((kind : TrapKind) × (t ≡ stands_as (Unusable kind) s)) ⊎ Found

    -- a power cut that leaves the seal
    power_sure : (seal : Phase) → s.standing ≡ Owed call seal → has_next_seal s image ≡ true →
        (IsBadPick a × (t ≡ s) → IsSure x.history call y) → UserPowers p s image a t →
        IsSure x.history call y
    power_sure seal standing has bad_pick is =
        ⊎_elim bad_pick
        (λ (rest : Rest). ⊎_elim
        (λ (mark : (kind : TrapKind) × (t ≡ stands_as (Unusable kind) s)). lost mark.0 mark.1)
        (λ (found : Found). sealed_sure (has_next_count s image)
        (subst (λ (b : Bool). UserRecovers p (found_by_seal b (has_next_count s image) p
        s call)
        image a t) has
        (subst (λ (st : UserStanding). UserRecovers p (found_as st p s image) image a t)
        standing found.2))) rest)
        (powers_by p s t image a is)

owed_history : (p : Source) (choice : Choice) (x y : UserMoment) (call : Pending) (seal : Phase) →
    x.state.standing ≡ Owed call seal →
    y.history ≡ x.history ++ finished_by (y.state.done == x.state.done)
    (subject_of p x.state (command.Power choice)) →
    y.history ≡ x.history ++ finished_by (y.state.done == x.state.done) (call ∷ [])
owed_history p choice x y call seal standing history =
    history ∙ ap (λ (st : UserStanding).
    x.history ++ finished_by (y.state.done == x.state.done) (owed_in st)) standing

-- a refused pick is no cut
no_cut : (a : Answer) → IsBadPick a → IsPowerCut a → ⊥
no_cut answer.Silent bad cut = bad
no_cut (answer.Done value unsigned logged) bad cut = bad
no_cut (answer.Trap kind) bad cut = bad
no_cut (answer.Aborted kind) bad cut = bad
no_cut (answer.Stopped at) bad cut = bad
no_cut answer.DeviceFault bad cut = bad
no_cut answer.RecoveredNone bad cut = bad
no_cut (answer.RecoveredRedone value unsigned logged) bad cut = bad
no_cut (answer.RecoveredTrap kind) bad cut = bad
no_cut (answer.RecoveredAborted kind) bad cut = bad
no_cut (answer.Shown text) bad cut = bad
no_cut (answer.ShownDead trap text) bad cut = bad
no_cut (answer.Last n value) bad cut = bad
no_cut answer.NoMemory bad cut = bad
no_cut answer.RefusedDown bad cut = bad
no_cut (answer.RefusedUnusable kind) bad cut = bad
no_cut answer.RefusedUnknown bad cut = bad
no_cut answer.RefusedArity bad cut = bad
no_cut answer.RefusedNumbers bad cut = bad
no_cut (answer.RefusedPick line) bad cut = cut

pub sealed_law : CutSealedLaw
sealed_law p choice call seal x y a standing cut step has =
    power_sure p x y call (found_by (command.Power choice) x.device) a
    (owed_history p choice x y call seal standing step.history) seal standing has
    (λ bad. absurd (no_cut a bad.0 cut)) step.meant

module _ (p : Source) (before : List Pending) (call : Pending)
    (x y : UserMoment) (a : Answer) where
  in_history : (c : Command) → UserStep p c x a y →
      (later : List Pending) × (x.history ≡ before ++ call ∷ later) → IsSure before call y
  in_history c step has =
      let grown = step_grows p c x y a step in
      inl (
        has.0 ++ grown.new,
        grown.history ∙ ap (λ (h : List Pending). h ++ grown.new) has.1
            ∙ append_assoc before (call ∷ has.0) grown.new,
      )

  still_owed : (subject : List Pending) → x.state.standing ≡ Owed call phase.Sealed →
      x.history ≡ before → y.state ≡ x.state →
      y.history ≡ x.history ++ finished_by (y.state.done == x.state.done) subject →
      IsSure before call y
  still_owed subject standing same is history =
      inr (inl (
        ap (λ (z : UserState). z.standing) is ∙ standing,
        stays_history p x y subject history
            (ap (λ (z : UserState). z.done) is, ap (λ (z : UserState). z.pool) is) ∙ same,
      ))

  still_lost : (kind : TrapKind) → x.state.standing ≡ Unusable kind → y.state ≡ x.state →
      IsSure before call y
  still_lost kind standing is =
      inr (inr (kind, ap (λ (z : UserState). z.standing) is ∙ standing))

  owed_step : (c : Command) → UserStep p c x a y → UserKeeps p x.device x.state →
      x.state.standing ≡ Owed call phase.Sealed → x.history ≡ before → IsSure before call y
  owed_step (command.Call name args) step keeps standing same =
      still_owed (call_to (number_named p name) args) standing same
      (calls_same p x.state y.state (found_by (command.Call name args) x.device) a name args
      (Owed call phase.Sealed) tt (subst (λ (st : UserStanding). UserCalls st p x.state
      (found_by (command.Call name args) x.device) name args a y.state) standing step.meant))
      step.history
  owed_step (command.Stop left) step keeps standing same =
      still_owed [] standing same step.meant.1 step.history
  owed_step (command.Fault at) step keeps standing same =
      still_owed [] standing same step.meant.1 step.history
  owed_step (command.Power choice) step keeps standing same =
      let image : Words = found_by (command.Power choice) x.device in
      let kept : UserKeepsAs (Owed call phase.Sealed) p x.device x.state =
      subst (λ (st : UserStanding). UserKeepsAs st p x.device x.state) standing keeps in
      let seal : HasNextSeal x.state image = at_left (HasNextSeal x.state) x.device.cache
      choice.rest
      choice.picks kept.1 in
      subst (λ (h : List Pending). IsSure h call y) same
      (power_sure p x y call image a
      (owed_history p choice x y call phase.Sealed standing step.history) phase.Sealed standing
      ((Decides-int_eq (image SEAL) (pos (suc x.state.done))).1 seal)
      (λ bad. subst (λ (h : List Pending). IsSure h call y) (sym same)
      (still_owed (subject_of p x.state (command.Power choice)) standing same bad.1
      step.history)) step.meant)
  owed_step command.Show step keeps standing same =
      still_owed [] standing same
      (shows_same p x.state y.state (found_by command.Show x.device) a
      (Owed call phase.Sealed) tt
      (subst (λ (st : UserStanding). UserShows st p x.state a y.state) standing step.meant))
      step.history
  owed_step command.ShowDead step keeps standing same =
      still_owed [] standing same
      (deads_same p x.state y.state (found_by command.ShowDead x.device) a
      (Owed call phase.Sealed) tt
      (subst (λ (st : UserStanding). UserShowsDead st p x.state
      (found_by command.ShowDead x.device) a y.state) standing step.meant))
      step.history
  owed_step command.Last step keeps standing same =
      still_owed [] standing same
      (lasts_same p x.state y.state (found_by command.Last x.device) a
      (Owed call phase.Sealed) tt
      (subst (λ (st : UserStanding). UserLasts st x.state a y.state) standing step.meant))
      step.history

  lost_step : (c : Command) → UserStep p c x a y → (kind : TrapKind) →
      x.state.standing ≡ Unusable kind → IsSure before call y
  lost_step (command.Call name args) step kind standing =
      still_lost kind standing
      (calls_same p x.state y.state (found_by (command.Call name args) x.device) a name args
      (Unusable kind) tt (subst (λ (st : UserStanding). UserCalls st p x.state
      (found_by (command.Call name args) x.device) name args a y.state) standing step.meant))
  lost_step (command.Stop left) step kind standing = still_lost kind standing step.meant.1
  lost_step (command.Fault at) step kind standing = still_lost kind standing step.meant.1
  lost_step (command.Power choice) step kind standing =
      let image : Words = found_by (command.Power choice) x.device in
      ⊎_elim (λ (bad : IsBadPick a × (y.state ≡ x.state)). still_lost kind standing bad.1)
      (λ (rest : ((k : TrapKind) × (y.state ≡ stands_as (Unusable k) x.state))
      ⊎ ((image MARK ≡ pos 0) × IsPowerCut a
      × UserRecovers p (found_as x.state.standing p x.state image) image a y.state)).
      ⊎_elim (λ (mark : (k : TrapKind) × (y.state ≡ stands_as (Unusable k) x.state)).
      inr (inr (mark.0, ap (λ (z : UserState). z.standing) mark.1)))
      (λ (found : (image MARK ≡ pos 0) × IsPowerCut a
      × UserRecovers p (found_as x.state.standing p x.state image) image a y.state).
      ⊎_elim (λ (same : y.state ≡ x.state). still_lost kind standing same)
      (λ (ends : RecoveryEnds x.state.standing p x.state a y.state).
      absurd (subst (λ (st : UserStanding). RecoveryEnds st p x.state a y.state) standing
      ends))
      (recovers_by p x.state y.state image a
      (subst (λ (st : UserStanding). UserRecovers p (found_as st p x.state image) image a
      y.state) standing found.2))) rest)
      (powers_by p x.state y.state image a step.meant)
  lost_step command.Show step kind standing =
      still_lost kind standing
      (shows_same p x.state y.state (found_by command.Show x.device) a (Unusable kind) tt
      (subst (λ (st : UserStanding). UserShows st p x.state a y.state) standing step.meant))
  lost_step command.ShowDead step kind standing =
      still_lost kind standing
      (deads_same p x.state y.state (found_by command.ShowDead x.device) a (Unusable kind) tt
      (subst (λ (st : UserStanding). UserShowsDead st p x.state
      (found_by command.ShowDead x.device) a y.state) standing step.meant))
  lost_step command.Last step kind standing =
      still_lost kind standing
      (lasts_same p x.state y.state (found_by command.Last x.device) a (Unusable kind) tt
      (subst (λ (st : UserStanding). UserLasts st x.state a y.state) standing step.meant))

  sure_step : (c : Command) → UserStep p c x a y → UserKeeps p x.device x.state →
      IsSure before call x → IsSure before call y
  sure_step c step keeps sure =
      ⊎_elim (in_history c step)
      (λ (rest : ((x.state.standing ≡ Owed call phase.Sealed) × (x.history ≡ before))
      ⊎ ((kind : TrapKind) × (x.state.standing ≡ Unusable kind))).
      ⊎_elim (λ (owed : (x.state.standing ≡ Owed call phase.Sealed) × (x.history ≡ before)).
      owed_step c step keeps owed.0 owed.1)
      (λ (bad : (kind : TrapKind) × (x.state.standing ≡ Unusable kind)).
      lost_step c step bad.0 bad.1) rest) sure

pub sure_law : SureLaw
sure_law p [] [] before call x y keeps sure same =
    subst (IsSure before call) (sym same) sure
sure_law p [] (a ∷ answers) before call x y keeps sure ran = absurd ran
sure_law p (c ∷ commands) [] before call x y keeps sure ran = absurd ran
sure_law p (c ∷ commands) (a ∷ answers) before call x y keeps sure ran =
    sure_law p commands answers before call ran.0 y ran.1.kept
    (sure_step p before call x ran.0 a c ran.1 keeps sure) ran.2

-- a sure call is in the history where calls are taken
sure_taken : (before : List Pending) (call : Pending) (x : UserMoment) →
    x.state.standing ≡ Ready → IsSure before call x →
    (later : List Pending) × (x.history ≡ before ++ call ∷ later)
sure_taken before call x ready (inl has) = has
sure_taken before call x ready (inr (inl owed)) =
    let clash : Ready ≡ Owed call phase.Sealed = sym ready ∙ owed.0 in absurd cc
sure_taken before call x ready (inr (inr lost)) =
    let clash : Ready ≡ Unusable lost.0 = sym ready ∙ lost.1 in absurd cc

pub once_sealed_law : OnceSealedLaw
once_sealed_law p choice call seal commands answers x y z a standing cut step has ran ready =
    sure_taken x.history call z ready
    (sure_law p commands answers x.history call y z step.kept
    (sealed_law p choice call seal x y a standing cut step has) ran)

pub kept_law : UserKeptLaw
kept_law p [] [] x y keeps same =
    subst (λ (z : UserMoment). UserKeeps p z.device z.state) (sym same) keeps
kept_law p [] (a ∷ answers) x y keeps ran = absurd ran
kept_law p (c ∷ commands) [] x y keeps ran = absurd ran
kept_law p (c ∷ commands) (a ∷ answers) x y keeps ran =
    kept_law p commands answers ran.0 y ran.1.kept ran.2

-- a power cut that doesn't leave the seal
module _ (p : Source) (s t : UserState) (image : Words) (a : Answer) where
  as_stays : (st : UserStanding) → t ≡ stands_as st s → Stays s t
  as_stays st is = (ap (λ (z : UserState). z.done) is, ap (λ (z : UserState). z.pool) is)

  same_stays : t ≡ s → Stays s t
  same_stays is = (ap (λ (z : UserState). z.done) is, ap (λ (z : UserState). z.pool) is)

  idle_stays : UserRecovers p (stands_as Idle s) image a t → Stays s t
  idle_stays is =
      ⊎_elim (λ (same : t ≡ stands_as Idle s). as_stays Idle same)
      (λ (ends : RecoveryEnds Idle p (stands_as Idle s) a t). as_stays Ready ends.1)
      (recovers_by p (stands_as Idle s) t image a is)

  found_stays : (st : UserStanding) → s.standing ≡ st → has_next_seal s image ≡ false →
      UserRecovers p (found_as st p s image) image a t → Stays s t
  found_stays Ready standing none is = idle_stays is
  found_stays Idle standing none is = idle_stays is
  found_stays (Owed call seal) standing none is =
      idle_stays (subst (λ (b : Bool). UserRecovers p
      (found_by_seal b (has_next_count s image) p s call) image a t) none is)
  found_stays (Unusable kind) standing none is =
      ⊎_elim (λ (same : t ≡ s). same_stays same)
      (λ (ends : RecoveryEnds s.standing p s a t).
      absurd (subst (λ (x : UserStanding). RecoveryEnds x p s a t) standing ends))
      (recovers_by p s t image a is)

  power_stays : has_next_seal s image ≡ false → UserPowers p s image a t → Stays s t
  power_stays none is =
      ⊎_elim (λ (bad : IsBadPick a × (t ≡ s)). same_stays bad.1)
      (λ (rest : ((kind : TrapKind) × (t ≡ stands_as (Unusable kind) s))
      ⊎ ((image MARK ≡ pos 0) × IsPowerCut a
      × UserRecovers p (found_as s.standing p s image) image a t)).
      ⊎_elim (λ (mark : (kind : TrapKind) × (t ≡ stands_as (Unusable kind) s)).
      as_stays (Unusable mark.0) mark.1)
      (λ (found : (image MARK ≡ pos 0) × IsPowerCut a
      × UserRecovers p (found_as s.standing p s image) image a t).
      found_stays s.standing refl none found.2) rest)
      (powers_by p s t image a is)

pub unsealed_law : CutUnsealedLaw
unsealed_law p choice x y a step none =
    let same = power_stays p x.state y.state (found_by (command.Power choice) x.device) a none
    step.meant in (
      stays_history p x y (owed_in x.state.standing) step.history same,
      same.0,
      same.1,
    )

pub head_law : HeadLaw
head_law p d commands answers y keeps ran =
    let grown = chain_grows p commands answers (first_moment p d) y ran in
    let counted = grown.count in
    let same : length grown.new ≡ length y.history =
    ap (λ (h : List Pending). length h) (sym grown.history) in (
      grown.pool ∙ ap (pool_after_all p (first_state p).pool) (sym grown.history),
      omega (arith, counted, same),
      kept_law p commands answers (first_moment p d) y keeps ran,
    )

pub run_head_law : RunHeadLaw
run_head_law text script meaning sizes d b written run =
    let p : Source = source_with meaning sizes in
    let head = head_law p d run.commands run.answers run.last run.holds run.ran in
    (head.0, head.1, subst (λ (e : Device). UserKeeps p e run.last.state) run.ends head.2)
