-- In which images the seal of an owed call is, after each step.
use Rattle.std.proofs.Common.{◌≡◌, ◌⊎◌, inl, inr, ⊎_elim, ℕ, suc, ◌==◌, Bool, true, false, List}
use Rattle.std.proofs.Common.{length, Option, Some, None, ℤ, pos, refl, sym, ap, ◌∙◌, subst}
use Rattle.std.proofs.lemmas.Bool.Decides.{Decides-int_eq}
use Rattle.cache_model.specs.Cache.{Words, Cache, view}
use Rattle.cache_model.specs.Image.{Images}
use Rattle.cache_model.specs.declared.choice.Choice.{Choice}
use Rattle.pmem.specs.Device.{Device, powered}
use Rattle.pmem.specs.declared.answer.Phase.{Phase}
use Rattle.pmem.specs.declared.answer.Phase.TheVariants as phase
use Rattle.pool_layout.specs.declared.places.TheConstants.{DONE, MARK, SEAL}
use Rattle.pool_map.specs.declared.trap.TrapKind.{TrapKind}
use Rattle.c_meaning.specs.Transaction.{Outcome, Done, Trap}
use Rattle.cnvm_script.specs.declared.command.Command.{Command}
use Rattle.cnvm_script.specs.declared.command.Command.TheVariants as command
use Rattle.cnvm_session.specs.declared.answer.Answer.{Answer}
use Rattle.cnvm_session.specs.declared.answer.Answer.TheVariants as answer
use Rattle.cnvm_session.specs.declared.mode.Mode.{Mode}
use Rattle.cnvm_session.specs.declared.mode.Mode.TheVariants as mode
use Rattle.cnvm_session.specs.declared.program.Program.{Program}
use Rattle.cnvm_session.specs.Commands.{Commanded}
use Rattle.cnvm_session.specs.Laws.{IsBadPick}
use Rattle.cnvm_session.proofs.Refusing.{command_kept}
use Rattle.session_law.specs.Agrees.{Agrees}
use Rattle.session_law.specs.State.{Pending}
use Rattle.session_law.specs.Holds.{HoldsAs, Holds}
use Rattle.session_law.specs.Ran.{found_by}
use Rattle.session_law.specs.Law.{IsWordCommand}
use Rattle.session_law.specs.Law as session_law
use Rattle.session_law.proofs.chains.Phases.{stopped_phase}
use Rattle.user_law.specs.Source.{Source, Logs, rolls_back, looks, comes_to, number_named}
use Rattle.user_law.specs.Source.{arity_of}
use Rattle.user_law.specs.State.{UserStanding, Ready, Idle, Owed, Unusable, UserState, stands_as}
use Rattle.user_law.specs.State.{state_after}
use Rattle.user_law.specs.Answers.{UserRuns, UserRunsAs, UserCallsWith, UserCallsTo}
use Rattle.user_law.specs.Answers.{UserCallsNamed, UserCalls}
use Rattle.user_law.specs.Answers.{UserShows, UserShowsDead, UserLasts, has_next_seal}
use Rattle.user_law.specs.Answers.{has_next_count, finished}
use Rattle.user_law.specs.Answers.{found_by_seal, found_as, RecoveryEnds, UserRecovers, UserPowers}
use Rattle.user_law.specs.Answers.{UserAnswers}
use Rattle.user_law.specs.Keeps.{IsOwedAt, HasNextSeal, UserKeepsAs, UserKeeps}
use Rattle.user_law.specs.Stays.{IsPowerCut}
use Rattle.user_law.specs.Seen.{source_in, plain, plain_standing, HasOwedPhase}
use Rattle.user_law.proofs.Cases.{runs_by, looks_by, tells_by, recovers_by, powers_by}
use Rattle.user_law.proofs.Keeping.{owed_sealing}
use Rattle.user_law.proofs.Sealing.{seal_kept}

-- a call is owed
abbrev IsOwing : UserStanding → Type 0
IsOwing Ready = ⊥
IsOwing Idle = ⊥
IsOwing (Owed call seal) = Unit {0}
IsOwing (Unusable kind) = ⊥

module _ (program : Program) (super : Words) (logs : Logs) (agrees : Agrees program)
    (m n : Mode) (d b : Device) (s : UserState) (k k1 : ℕ)
    (holds : Holds program super m d (plain s))
    (keeps : UserKeeps (source_in program logs) d s) where
  abbrev p : Source
  p = source_in program logs

  abbrev Phased : UserState → Type 0
  Phased v = HasOwedPhase v.standing p b v

  -- a state that differs in its standing alone owes nothing more where nothing is owed
  same_as : (st : UserStanding) → UserKeepsAs st p d s → (IsOwing st → b.cache ≡ d.cache) →
      HasOwedPhase st p b s
  same_as Ready kept cache = tt
  same_as Idle kept cache = tt
  same_as (Owed call seal) kept cache =
      subst (λ (c : Cache). Images (IsOwedAt seal p s) c) (sym (cache tt)) kept.1
  same_as (Unusable kind) kept cache = tt

  same_phased : (v : UserState) → v ≡ s → (IsOwing s.standing → b.cache ≡ d.cache) → Phased v
  same_phased v is cache = subst Phased (sym is) (same_as s.standing keeps cache)

  none_owing : (st : UserStanding) → s.standing ≡ st → (IsOwing st → ⊥) → IsOwing s.standing → ⊥
  none_owing st standing none owing = none (subst IsOwing standing owing)

  -- a session that owes a call is down
  down_as : (st : UserStanding) → HoldsAs (plain_standing st) program super m d (plain s) →
      IsOwing st → m ≡ mode.Down
  down_as Ready held owing = absurd owing
  down_as Idle held owing = absurd owing
  down_as (Owed call seal) held owing = held.0
  down_as (Unusable kind) held owing = absurd owing

  after_phased : (st : UserStanding) (rolls : Bool) (o : Outcome) (u : UserState)
      → (IsOwing st → ⊥) → HasOwedPhase (state_after st rolls o u).standing p b
      (state_after st rolls o u)
  after_phased Ready rolls (Done pool value) u none = tt
  after_phased Ready true (Trap kind) u none = tt
  after_phased Ready false (Trap kind) u none = tt
  after_phased Idle rolls (Done pool value) u none = tt
  after_phased Idle true (Trap kind) u none = tt
  after_phased Idle false (Trap kind) u none = tt
  after_phased (Owed call seal) rolls o u none = absurd (none tt)
  after_phased (Unusable kind) rolls (Done pool value) u none = tt
  after_phased (Unusable kind) true (Trap trap) u none = tt
  after_phased (Unusable kind) false (Trap trap) u none = tt

  module _ (v : UserState) (a : Answer) (after : Holds program super n b (plain v)) where
    ready_phased : (u : UserState) (call : Pending) → v ≡ finished Ready p u call → Phased v
    ready_phased u call is =
        subst Phased (sym is)
        (after_phased Ready (rolls_back p call.tx) (comes_to p u.pool call) u (λ no. no))

    idle_phased : (u : UserState) (call : Pending) → v ≡ finished Idle p u call → Phased v
    idle_phased u call is =
        subst Phased (sym is)
        (after_phased Idle (rolls_back p call.tx) (comes_to p u.pool call) u (λ no. no))

    plain_phased : (st : UserStanding) (u : UserState) → (IsOwing st → ⊥) → v ≡ stands_as st u →
        Phased v
    plain_phased Ready u none is = subst Phased (sym is) tt
    plain_phased Idle u none is = subst Phased (sym is) tt
    plain_phased (Owed call seal) u none is = absurd (none tt)
    plain_phased (Unusable kind) u none is = subst Phased (sym is) tt

    sealing_phased : (call : Pending) → v ≡ stands_as (Owed call phase.Sealing) s → Phased v
    sealing_phased call is =
        subst Phased (sym is)
        (owed_sealing program logs super b (stands_as (Owed call phase.Sealing) s) n call
        (subst (λ (z : UserState). Holds program super n b (plain z)) is after))

    module _ (name : List ℕ) (args : List ℤ) (words : IsWordCommand (command.Call name args))
        (did : Commanded program (command.Call name args) m d a n b k k1) (image : Words) where
      stopped : (at : Phase) (call : Pending) → a ≡ answer.Stopped at →
          Images (session_law.HasPhase at (plain s)) b.cache
      stopped at call is =
          stopped_phase program super name args m n d b (plain s) at k k1 agrees words holds
          (subst (λ (x : Answer). Commanded program (command.Call name args) m d x n b k k1) is did)

      stopped_phased : (at : Phase) (call : Pending) → v ≡ stands_as (Owed call at) s →
          a ≡ answer.Stopped at → Phased v
      stopped_phased phase.Unsealed call is stop =
          subst Phased (sym is) (stopped phase.Unsealed call stop)
      stopped_phased phase.Sealing call is stop = sealing_phased call is
      stopped_phased phase.Sealed call is stop =
          subst Phased (sym is) (stopped phase.Sealed call stop)

      same_ready : s.standing ≡ Ready → v ≡ s → Phased v
      same_ready standing is =
          same_phased v is (λ owing. absurd (none_owing Ready standing (λ no. no) owing))

      runs_phased : s.standing ≡ Ready → (call : Pending) → UserRuns p s image call a v →
          Phased v
      runs_phased standing call is = by_case (runs_by p s v image call a is)
        where
          by_case : ((at : Phase) × (v ≡ stands_as (Owed call at) s)
              × ((at ≡ phase.Sealing) ⊎ (a ≡ answer.Stopped at)))
              ⊎ ((v ≡ s) ⊎ (v ≡ finished Ready p s call)) → Phased v
          by_case (inl (at, cut, inl sealing)) =
              sealing_phased call
              (cut ∙ ap (λ (x : Phase). stands_as (Owed call x) s) sealing)
          by_case (inl (at, cut, inr stop)) = stopped_phased at call cut stop
          by_case (inr (inl same)) = same_ready standing same
          by_case (inr (inr ends)) = ready_phased s call ends

      as_phased : s.standing ≡ Ready → (call : Pending) (looks : Bool) →
          UserRunsAs looks p s image call a v → Phased v
      as_phased standing call true is =
          ⊎_elim (same_ready standing)
          (λ (none : (a ≡ answer.NoMemory) × (v ≡ stands_as Idle s)).
          plain_phased Idle s (λ no. no) none.1)
          (looks_by p s v image call a is)
      as_phased standing call false is = runs_phased standing call is

      with_phased : s.standing ≡ Ready → (call : Pending) (same : Bool) →
          UserCallsWith same p s image call a v → Phased v
      with_phased standing call true is = as_phased standing call (looks p call.tx) is
      with_phased standing call false is = same_ready standing is.1

      to_phased : s.standing ≡ Ready → (call : Pending) (count : Option ℕ) →
          UserCallsTo count p s image call a v → Phased v
      to_phased standing call None is = same_ready standing is.1
      to_phased standing call (Some count) is =
          with_phased standing call (count == length call.args) is

      named_phased : s.standing ≡ Ready → (number : Option ℕ) →
          UserCallsNamed number p s image args a v → Phased v
      named_phased standing None is = same_ready standing is.1
      named_phased standing (Some tx) is =
          to_phased standing (record { tx = tx; args = args }) (arity_of p tx) is

      calls_cache : IsOwing s.standing → b.cache ≡ d.cache
      calls_cache owing = by_mode m (down_as s.standing holds owing) did
        where
          by_mode : (x : Mode) → x ≡ mode.Down →
              Commanded program (command.Call name args) x d a n b k k1 → b.cache ≡ d.cache
          by_mode mode.Down is done = ap (λ (e : Device). e.cache) done.2
          by_mode mode.Ready is done = let clash : mode.Ready ≡ mode.Down = is in absurd cc
          by_mode (mode.Unusable kind) is done =
              let clash : mode.Unusable kind ≡ mode.Down = is in absurd cc

      calls_phased : (st : UserStanding) → s.standing ≡ st →
          UserCalls st p s image name args a v → Phased v
      calls_phased Ready standing is = named_phased standing (number_named p name) is
      calls_phased Idle standing is = same_phased v is.1 calls_cache
      calls_phased (Owed call seal) standing is = same_phased v is.1 calls_cache
      calls_phased (Unusable kind) standing is = same_phased v is.1 calls_cache

    shows_cache : Commanded program command.Show m d a n b k k1 → IsOwing s.standing →
        b.cache ≡ d.cache
    shows_cache did owing = by_mode m (down_as s.standing holds owing) did
      where
        by_mode : (x : Mode) → x ≡ mode.Down → Commanded program command.Show x d a n b k k1 →
            b.cache ≡ d.cache
        by_mode mode.Down is done = ap (λ (e : Device). e.cache) done.2
        by_mode mode.Ready is done = let clash : mode.Ready ≡ mode.Down = is in absurd cc
        by_mode (mode.Unusable kind) is done =
            let clash : mode.Unusable kind ≡ mode.Down = is in absurd cc

    shows_phased : Commanded program command.Show m d a n b k k1 → (image : Words) →
        (st : UserStanding) → s.standing ≡ st → UserShows st p s a v → Phased v
    shows_phased did image Ready standing is =
        ⊎_elim (λ (same : v ≡ s). same_phased v same (shows_cache did))
        (λ (idle : v ≡ stands_as Idle s). plain_phased Idle s (λ no. no) idle)
        (tells_by p s v image a is)
    shows_phased did image Idle standing is = same_phased v is.1 (shows_cache did)
    shows_phased did image (Owed call seal) standing is = same_phased v is.1 (shows_cache did)
    shows_phased did image (Unusable kind) standing is = same_phased v is.1 (shows_cache did)

    deads_cache : Commanded program command.ShowDead m d a n b k k1 → IsOwing s.standing →
        b.cache ≡ d.cache
    deads_cache did owing = by_mode m (down_as s.standing holds owing) did
      where
        by_mode : (x : Mode) → x ≡ mode.Down → Commanded program command.ShowDead x d a n b k k1 →
            b.cache ≡ d.cache
        by_mode mode.Down is done = ap (λ (e : Device). e.cache) done.2
        by_mode mode.Ready is done = let clash : mode.Ready ≡ mode.Down = is in absurd cc
        by_mode (mode.Unusable kind) is done =
            let clash : mode.Unusable kind ≡ mode.Down = is in absurd cc

    deads_phased : Commanded program command.ShowDead m d a n b k k1 → (image : Words) →
        (st : UserStanding) → UserShowsDead st p s image a v → Phased v
    deads_phased did image Ready is =
        ⊎_elim (λ (same : v ≡ s). same_phased v same (deads_cache did))
        (λ (idle : v ≡ stands_as Idle s). plain_phased Idle s (λ no. no) idle)
        (tells_by p s v image a is)
    deads_phased did image Idle is = same_phased v is.1 (deads_cache did)
    deads_phased did image (Owed call seal) is = same_phased v is.1 (deads_cache did)
    deads_phased did image (Unusable kind) is = same_phased v is.1 (deads_cache did)

    lasts_cache : Commanded program command.Last m d a n b k k1 → IsOwing s.standing →
        b.cache ≡ d.cache
    lasts_cache did owing = by_mode m (down_as s.standing holds owing) did
      where
        by_mode : (x : Mode) → x ≡ mode.Down → Commanded program command.Last x d a n b k k1 →
            b.cache ≡ d.cache
        by_mode mode.Down is done = ap (λ (e : Device). e.cache) done.2
        by_mode mode.Ready is done = let clash : mode.Ready ≡ mode.Down = is in absurd cc
        by_mode (mode.Unusable kind) is done =
            let clash : mode.Unusable kind ≡ mode.Down = is in absurd cc

    lasts_phased : Commanded program command.Last m d a n b k k1 → (st : UserStanding) →
        UserLasts st s a v → Phased v
    lasts_phased did Ready is = same_phased v is.1 (lasts_cache did)
    lasts_phased did Idle is = same_phased v is.1 (lasts_cache did)
    lasts_phased did (Owed call seal) is = same_phased v is.1 (lasts_cache did)
    lasts_phased did (Unusable kind) is = same_phased v is.1 (lasts_cache did)

    module _ (choice : Choice) (did : Commanded program (command.Power choice) m d a n b k k1) where
      abbrev image : Words
      image = view (powered choice d).cache

      abbrev Rec : UserState → Type 0
      Rec f = UserRecovers p f image a v

      bad_phased : IsBadPick a → v ≡ s → Phased v
      bad_phased bad is =
          same_phased v is (λ owing. ap (λ (e : Device). e.cache)
          (command_kept program (command.Power choice) m n d b a k k1 bad did).0)

      -- nothing is owed any more
      from_idle : Rec (stands_as Idle s) → Phased v
      from_idle is =
          ⊎_elim (λ (same : v ≡ stands_as Idle s). plain_phased Idle s (λ no. no) same)
          (λ (ends : RecoveryEnds Idle p (stands_as Idle s) a v).
          plain_phased Ready (stands_as Idle s) (λ no. no) ends.1)
          (recovers_by p (stands_as Idle s) v image a is)

      from_finished : (rolls : Bool) (o : Outcome) → Rec (state_after Idle rolls o s) → Phased v
      from_finished rolls (Done pool value) is =
          ⊎_elim (λ (same : v ≡ state_after Idle rolls (Done pool value) s).
          plain_phased Idle (state_after Idle rolls (Done pool value) s) (λ no. no) same)
          (λ (ends : RecoveryEnds Idle p (state_after Idle rolls (Done pool value) s) a v).
          plain_phased Ready (state_after Idle rolls (Done pool value) s) (λ no. no) ends.1)
          (recovers_by p (state_after Idle rolls (Done pool value) s) v image a is)
      from_finished true (Trap kind) is =
          ⊎_elim (λ (same : v ≡ state_after Idle true (Trap kind) s).
          plain_phased Idle (state_after Idle true (Trap kind) s) (λ no. no) same)
          (λ (ends : RecoveryEnds Idle p (state_after Idle true (Trap kind) s) a v).
          plain_phased Ready (state_after Idle true (Trap kind) s) (λ no. no) ends.1)
          (recovers_by p (state_after Idle true (Trap kind) s) v image a is)
      from_finished false (Trap kind) is =
          ⊎_elim (λ (same : v ≡ stands_as (Unusable kind) s).
          plain_phased (Unusable kind) s (λ no. no) same)
          (λ (ends : RecoveryEnds (Unusable kind) p (stands_as (Unusable kind) s) a v).
          absurd ends)
          (recovers_by p (stands_as (Unusable kind) s) v image a is)

      module _ (cut : IsPowerCut a) (mark : image MARK ≡ pos 0) (call : Pending) (seal : Phase)
          (standing : s.standing ≡ Owed call seal) where
        sealed : has_next_seal s image ≡ true → has_next_count s image ≡ false →
            Images (HasNextSeal s) b.cache
        sealed has none =
            seal_kept program super choice call m n d b (plain s) a k k1 agrees holds
            (ap plain_standing standing) cut did mark
            (λ more. let clash : true ≡ false =
            sym ((Decides-int_eq (image DONE) (pos (suc s.done))).1 more) ∙ none in absurd cc)
            ((Decides-int_eq (image SEAL) (pos (suc s.done))).0 has)

        from_sealed : has_next_seal s image ≡ true → has_next_count s image ≡ false →
            Rec (stands_as (Owed call phase.Sealed) s) → Phased v
        from_sealed has none is =
            ⊎_elim (λ (same : v ≡ stands_as (Owed call phase.Sealed) s).
            subst Phased (sym same) (sealed has none))
            (λ (ends : RecoveryEnds (Owed call phase.Sealed) p
            (stands_as (Owed call phase.Sealed) s) a v).
            ready_phased (stands_as (Owed call phase.Sealed) s) call ends.1)
            (recovers_by p (stands_as (Owed call phase.Sealed) s) v image a is)

        by_seal : (sealed count : Bool) → has_next_seal s image ≡ sealed →
            has_next_count s image ≡ count →
            Rec (found_by_seal sealed count p s call) → Phased v
        by_seal false count has counts is = from_idle is
        by_seal true true has counts is =
            from_finished (rolls_back p call.tx) (comes_to p s.pool call) is
        by_seal true false has counts is = from_sealed has counts is

      found_phased : IsPowerCut a → image MARK ≡ pos 0 → (st : UserStanding) →
          s.standing ≡ st → Rec (found_as st p s image) → Phased v
      found_phased cut mark Ready standing is = from_idle is
      found_phased cut mark Idle standing is = from_idle is
      found_phased cut mark (Owed call seal) standing is =
          by_seal cut mark call seal standing (has_next_seal s image) (has_next_count s image) refl
          refl is
      found_phased cut mark (Unusable kind) standing is =
          ⊎_elim (λ (same : v ≡ s). same_phased v same (λ owing.
          absurd (none_owing (Unusable kind) standing (λ no. no) owing)))
          (λ (ends : RecoveryEnds s.standing p s a v).
          absurd (subst (λ (x : UserStanding). RecoveryEnds x p s a v) standing ends))
          (recovers_by p s v image a is)

      abbrev Rest : Type 0
      Rest = ((kind : TrapKind) × (v ≡ stands_as (Unusable kind) s))
          ⊎ ((image MARK ≡ pos 0) × IsPowerCut a × Rec (found_as s.standing p s image))

      powers_phased : UserPowers p s image a v → Phased v
      powers_phased is = by_case (powers_by p s v image a is)
        where
          by_case : (IsBadPick a × (v ≡ s)) ⊎ Rest → Phased v
          by_case (inl bad) = bad_phased bad.0 bad.1
          by_case (inr (inl marked)) = plain_phased (Unusable marked.0) s (λ no. no) marked.1
          by_case (inr (inr found)) = found_phased found.1 found.0 s.standing refl found.2

    pub step_phased : (c : Command) → IsWordCommand c → Commanded program c m d a n b k k1 →
        UserAnswers p s (found_by c d) c a v → Phased v
    step_phased (command.Call name args) words did is =
        calls_phased name args words did (view d.cache) s.standing refl is
    step_phased (command.Stop left) words did is =
        same_phased v is.1 (λ owing. ap (λ (e : Device). e.cache) did.2)
    step_phased (command.Fault at) words did is =
        same_phased v is.1 (λ owing. ap (λ (e : Device). e.cache) did.2)
    step_phased (command.Power choice) words did is = powers_phased choice did is
    step_phased command.Show words did is =
        shows_phased did (view d.cache) s.standing refl is
    step_phased command.ShowDead words did is =
        deads_phased did (view d.cache) s.standing is
    step_phased command.Last words did is = lasts_phased did s.standing is
