-- The history grows exactly by what is finished, and leads to the pool.
use Rattle.std.proofs.Common.{◌≡◌, ◌⊎◌, inl, inr, ⊎_elim, ℕ, suc, ◌==◌, Bool, true, false}
use Rattle.std.proofs.Common.{List, [], ◌∷◌, ◌++◌, length, Option, Some, None, ℤ, pos, refl, sym}
use Rattle.std.proofs.Common.{ap}
use Rattle.std.proofs.Common.{◌∙◌, subst, arith, append_assoc, append-nil, length-append}
use Rattle.std.proofs.lemmas.Bool.{eqb-true}
use Rattle.nvm_base.proofs.Tests.{same_true}
use Rattle.cache_model.specs.Cache.{Words}
use Rattle.pmem.specs.declared.answer.Phase.{Phase}
use Rattle.pmem.specs.declared.answer.Phase.TheVariants as phase
use Rattle.pool_layout.specs.declared.places.TheConstants.{MARK}
use Rattle.pool_map.specs.declared.trap.TrapKind.{TrapKind}
use Rattle.pool_map.specs.PoolMap.{PoolMap}
use Rattle.c_meaning.specs.Transaction.{Outcome, Done, Trap}
use Rattle.cnvm_script.specs.declared.command.Command.{Command}
use Rattle.cnvm_script.specs.declared.command.Command.TheVariants as command
use Rattle.cnvm_session.specs.declared.answer.Answer.{Answer}
use Rattle.cnvm_session.specs.declared.answer.Answer.TheVariants as answer
use Rattle.cnvm_session.specs.Laws.{IsBadPick}
use Rattle.session_law.specs.State.{Pending}
use Rattle.session_law.specs.History.{call_to}
use Rattle.session_law.specs.Ran.{found_by}
use Rattle.user_law.specs.Source.{Source, number_named, arity_of, comes_to, rolls_back, looks}
use Rattle.user_law.specs.State.{UserStanding, Ready, Idle, Owed, Unusable, UserState, stands_as}
use Rattle.user_law.specs.State.{state_after}
use Rattle.user_law.specs.Answers.{finished, UserRunsAs, UserCallsWith, UserCallsTo}
use Rattle.user_law.specs.Answers.{UserCallsNamed, UserCalls, UserShows, UserShowsDead, UserLasts}
use Rattle.user_law.specs.Answers.{has_next_seal, has_next_count, found_by_seal, found_as}
use Rattle.user_law.specs.Answers.{RecoveryEnds, UserAnswers}
use Rattle.user_law.specs.Answers.{UserRecovers, UserPowers}
use Rattle.user_law.specs.History.{owed_in, subject_of, finished_by, pool_after}
use Rattle.user_law.specs.History.{pool_after_all}
use Rattle.user_law.specs.Ran.{UserMoment, UserStep}
use Rattle.user_law.specs.Stays.{IsPowerCut, UserHasGrown, UserWholeLaw}
use Rattle.user_law.proofs.Cases.{runs_by, looks_by, tells_by, recovers_by, powers_by}

pub not_next : (n : ℕ) → (suc n == n) ≡ false
not_next n = go (suc n == n) refl
  where
    go : (b : Bool) → (suc n == n) ≡ b → b ≡ false
    go true e = let same = eqb-true (suc n) n e in absurd (omega (arith, same))
    go false e = refl

-- as many are done and the pool is the same
abbrev pub Stays : UserState → UserState → Type 0
Stays s t = (t.done ≡ s.done) × (t.pool ≡ s.pool)

-- one more is done, of this outcome
abbrev pub Counts : Outcome → UserState → UserState → Type 0
Counts o s t = (t.done ≡ suc s.done) × (t.pool ≡ pool_after o s.pool)

-- nothing is finished, or the subject is
abbrev pub Moves : Source → UserState → List Pending → UserState → Type 0
Moves p s subject t = Stays s t
    ⊎ ((call : Pending) × (subject ≡ call ∷ []) × Counts (comes_to p s.pool call) s t)

pub after_moves : (st : UserStanding) (rolls : Bool) (o : Outcome) (s : UserState) →
    Stays s (state_after st rolls o s) ⊎ Counts o s (state_after st rolls o s)
after_moves st rolls (Done pool value) s = inr (refl, refl)
after_moves st true (Trap kind) s = inr (refl, refl)
after_moves st false (Trap kind) s = inl (refl, refl)

-- what stands before an outcome doesn't matter
pub after_standing : (st u : UserStanding) (rolls : Bool) (o : Outcome) (s : UserState) →
    state_after st rolls o (stands_as u s) ≡ state_after st rolls o s
after_standing st u rolls (Done pool value) s = refl
after_standing st u true (Trap kind) s = refl
after_standing st u false (Trap kind) s = refl

module _ (p : Source) (s : UserState) where
  same_moves : (subject : List Pending) (t : UserState) → t ≡ s → Moves p s subject t
  same_moves subject t is =
      inl (ap (λ (x : UserState). x.done) is, ap (λ (x : UserState). x.pool) is)

  as_moves : (subject : List Pending) (st : UserStanding) (t : UserState) → t ≡ stands_as st s →
      Moves p s subject t
  as_moves subject st t is =
      inl (ap (λ (x : UserState). x.done) is, ap (λ (x : UserState). x.pool) is)

  finished_moves : (call : Pending) (st : UserStanding) (t : UserState) →
      t ≡ finished st p s call →
      Moves p s (call ∷ []) t
  finished_moves call st t is =
      subst (Moves p s (call ∷ [])) (sym is)
      (⊎_elim (λ (same : Stays s (finished st p s call)). inl same)
      (λ (counts : Counts (comes_to p s.pool call) s (finished st p s call)).
      inr (call, refl, counts))
      (after_moves st (rolls_back p call.tx) (comes_to p s.pool call) s))

  module _ (image : Words) (a : Answer) (t : UserState) where
    runs_move : (call : Pending) (looks : Bool) → UserRunsAs looks p s image call a t →
        Moves p s (call ∷ []) t
    runs_move call true is =
        ⊎_elim (λ (same : t ≡ s). same_moves (call ∷ []) t same)
        (λ (none : (a ≡ answer.NoMemory) × (t ≡ stands_as Idle s)).
        as_moves (call ∷ []) Idle t none.1)
        (looks_by p s t image call a is)
    runs_move call false is =
        ⊎_elim (λ (cut : (at : Phase) × (t ≡ stands_as (Owed call at) s)
        × ((at ≡ phase.Sealing) ⊎ (a ≡ answer.Stopped at))).
        as_moves (call ∷ []) (Owed call cut.0) t cut.1)
        (λ (rest : (t ≡ s) ⊎ (t ≡ finished Ready p s call)).
        ⊎_elim (λ (same : t ≡ s). same_moves (call ∷ []) t same)
        (λ (ends : t ≡ finished Ready p s call). finished_moves call Ready t ends) rest)
        (runs_by p s t image call a is)

    with_moves : (call : Pending) (same : Bool) → UserCallsWith same p s image call a t →
        Moves p s (call ∷ []) t
    with_moves call true is = runs_move call (looks p call.tx) is
    with_moves call false is = same_moves (call ∷ []) t is.1

    to_moves : (call : Pending) (count : Option ℕ) → UserCallsTo count p s image call a t →
        Moves p s (call ∷ []) t
    to_moves call None is = same_moves (call ∷ []) t is.1
    to_moves call (Some count) is = with_moves call (count == length call.args) is

    named_moves : (args : List ℤ) (number : Option ℕ) →
        UserCallsNamed number p s image args a t → Moves p s (call_to number args) t
    named_moves args None is = same_moves [] t is.1
    named_moves args (Some tx) is =
        to_moves (record { tx = tx; args = args }) (arity_of p tx) is

    calls_move : (name : List ℕ) (args : List ℤ) (st : UserStanding) →
        UserCalls st p s image name args a t →
        Moves p s (call_to (number_named p name) args) t
    calls_move name args Ready is = named_moves args (number_named p name) is
    calls_move name args Idle is = same_moves (call_to (number_named p name) args) t is.1
    calls_move name args (Owed call seal) is =
        same_moves (call_to (number_named p name) args) t is.1
    calls_move name args (Unusable kind) is =
        same_moves (call_to (number_named p name) args) t is.1

    shows_move : (st : UserStanding) → UserShows st p s a t → Moves p s [] t
    shows_move Ready is =
        ⊎_elim (λ (same : t ≡ s). same_moves [] t same)
        (λ (idle : t ≡ stands_as Idle s). as_moves [] Idle t idle) (tells_by p s t image a is)
    shows_move Idle is = same_moves [] t is.1
    shows_move (Owed call seal) is = same_moves [] t is.1
    shows_move (Unusable kind) is = same_moves [] t is.1

    deads_move : (st : UserStanding) → UserShowsDead st p s image a t → Moves p s [] t
    deads_move Ready is = shows_move Ready is
    deads_move Idle is = shows_move Idle is
    deads_move (Owed call seal) is = shows_move (Owed call seal) is
    deads_move (Unusable kind) is = same_moves [] t is.1

    lasts_move : (st : UserStanding) → UserLasts st s a t → Moves p s [] t
    lasts_move Ready is = same_moves [] t is.1
    lasts_move Idle is = same_moves [] t is.1
    lasts_move (Owed call seal) is = same_moves [] t is.1
    lasts_move (Unusable kind) is = same_moves [] t is.1

    -- from what is found, where this is the state before but for its standing
    idle_moves : (subject : List Pending) → UserRecovers p (stands_as Idle s) image a t →
        Moves p s subject t
    idle_moves subject is =
        ⊎_elim (λ (same : t ≡ stands_as Idle s). as_moves subject Idle t same)
        (λ (ends : RecoveryEnds Idle p (stands_as Idle s) a t). as_moves subject Ready t
        ends.1)
        (recovers_by p (stands_as Idle s) t image a is)

    unusable_moves : (subject : List Pending) (f : UserState) (kind : TrapKind)
        → f.standing ≡ Unusable kind →
        UserRecovers p f image a t → t ≡ f
    unusable_moves subject f kind standing is =
        ⊎_elim (λ (same : t ≡ f). same)
        (λ (ends : RecoveryEnds f.standing p f a t).
        absurd (subst (λ (x : UserStanding). RecoveryEnds x p f a t) standing ends))
        (recovers_by p f t image a is)

    done_moves : (call : Pending) (o : Outcome) (rolls : Bool) →
        comes_to p s.pool call ≡ o → rolls_back p call.tx ≡ rolls →
        UserRecovers p (state_after Idle rolls o s) image a t → Moves p s (call ∷ []) t
    done_moves call (Done pool value) rolls is marks rec =
        inr (
          call,
          refl,
          subst (λ (x : Outcome). Counts x s t) (sym is)
              (⊎_elim (λ (same : t ≡ state_after Idle rolls (Done pool value) s).
              (ap (λ (x : UserState). x.done) same, ap (λ (x : UserState). x.pool) same))
              (λ (ends : RecoveryEnds Idle p (state_after Idle rolls (Done pool value) s) a t).
              (ap (λ (x : UserState). x.done) ends.1, ap (λ (x : UserState). x.pool) ends.1))
              (recovers_by p (state_after Idle rolls (Done pool value) s) t image a rec)),
        )
    done_moves call (Trap kind) true is marks rec =
        inr (
          call,
          refl,
          subst (λ (x : Outcome). Counts x s t) (sym is)
              (⊎_elim (λ (same : t ≡ state_after Idle true (Trap kind) s).
              (ap (λ (x : UserState). x.done) same, ap (λ (x : UserState). x.pool) same))
              (λ (ends : RecoveryEnds Idle p (state_after Idle true (Trap kind) s) a t).
              (ap (λ (x : UserState). x.done) ends.1, ap (λ (x : UserState). x.pool) ends.1))
              (recovers_by p (state_after Idle true (Trap kind) s) t image a rec)),
        )
    done_moves call (Trap kind) false is marks rec =
        as_moves (call ∷ []) (Unusable kind) t
        (unusable_moves [] (stands_as (Unusable kind) s) kind refl rec)

    owed_moves : (call : Pending) (seal count : Bool) →
        UserRecovers p (found_by_seal seal count p s call) image a t →
        Moves p s (call ∷ []) t
    owed_moves call false count is = idle_moves (call ∷ []) is
    owed_moves call true true is =
        done_moves call (comes_to p s.pool call) (rolls_back p call.tx) refl refl is
    owed_moves call true false is =
        ⊎_elim (λ (same : t ≡ stands_as (Owed call phase.Sealed) s). as_moves (call ∷ []) (Owed
        call phase.Sealed) t same)
        (λ (ends : RecoveryEnds (Owed call phase.Sealed) p (stands_as (Owed call
        phase.Sealed) s) a t).
        finished_moves call Ready t (ends.1
        ∙ after_standing Ready (Owed call phase.Sealed) (rolls_back p call.tx)
        (comes_to p s.pool call) s))
        (recovers_by p (stands_as (Owed call phase.Sealed) s) t image a is)

    found_moves : (st : UserStanding) → s.standing ≡ st →
        UserRecovers p (found_as st p s image) image a t → Moves p s (owed_in st) t
    found_moves Ready standing is = idle_moves [] is
    found_moves Idle standing is = idle_moves [] is
    found_moves (Owed call seal) standing is =
        owed_moves call (has_next_seal s image) (has_next_count s image) is
    found_moves (Unusable kind) standing is =
        same_moves [] t (unusable_moves [] s kind standing is)

    abbrev Found : Type 0
    Found = (image MARK ≡ pos 0) × IsPowerCut a
        × UserRecovers p (found_as s.standing p s image) image a t

    abbrev Rest : Type 0
    Rest = ((kind : TrapKind) × (t ≡ stands_as (Unusable kind) s)) ⊎ Found

    powers_move : UserPowers p s image a t → Moves p s (owed_in s.standing) t
    powers_move is =
        ⊎_elim (λ (bad : IsBadPick a × (t ≡ s)). same_moves (owed_in s.standing) t bad.1)
        (λ (rest : Rest). ⊎_elim (λ (mark : (kind : TrapKind) × (t ≡ stands_as (Unusable kind) s)).
        as_moves (owed_in s.standing) (Unusable mark.0) t mark.1)
        (λ (found : Found). found_moves s.standing refl found.2) rest)
        (powers_by p s t image a is)

  pub answers_move : (image : Words) (c : Command) (a : Answer) (t : UserState) →
      UserAnswers p s image c a t → Moves p s (subject_of p s c) t
  answers_move image (command.Call name args) a t is =
      calls_move image a t name args s.standing is
  answers_move image (command.Stop left) a t is = same_moves [] t is.1
  answers_move image (command.Fault at) a t is = same_moves [] t is.1
  answers_move image (command.Power choice) a t is = powers_move image a t is
  answers_move image command.Show a t is = shows_move image a t s.standing is
  answers_move image command.ShowDead a t is = deads_move image a t s.standing is
  answers_move image command.Last a t is = lasts_move image a t s.standing is

module _ (p : Source) (x y : UserMoment) (subject : List Pending)
    (history : y.history ≡ x.history ++ finished_by (y.state.done == x.state.done) subject) where
  pub stays_history : Stays x.state y.state → y.history ≡ x.history
  stays_history same =
      history ∙ ap (λ (b : Bool). x.history ++ finished_by b subject)
      (ap (λ (n : ℕ). n == x.state.done) same.0 ∙ same_true x.state.done)
      ∙ append-nil x.history

  pub counts_history : (call : Pending) → subject ≡ call ∷ [] → y.state.done ≡ suc x.state.done →
      y.history ≡ x.history ++ call ∷ []
  counts_history call is more =
      history ∙ ap (λ (b : Bool). x.history ++ finished_by b subject)
      (ap (λ (n : ℕ). n == x.state.done) more ∙ not_next x.state.done)
      ∙ ap (λ (zs : List Pending). x.history ++ zs) is

  pub move_grows : Moves p x.state subject y.state → UserHasGrown p x y
  move_grows moves =
      ⊎_elim (λ (same : Stays x.state y.state). record {
        new = [];
        history = stays_history same ∙ sym (append-nil x.history);
        pool = same.1;
        count = let e = same.0 in omega (arith, e);
      })
      (λ (counts : (call : Pending) × (subject ≡ call ∷ [])
      × Counts (comes_to p x.state.pool call) x.state y.state). record {
        new = counts.0 ∷ [];
        history = counts_history counts.0 counts.1 counts.2.0;
        pool = counts.2.1;
        count = let e = counts.2.0 in omega (arith, e);
      }) moves

pub step_grows : (p : Source) (c : Command) (x y : UserMoment) (a : Answer)
    → UserStep p c x a y → UserHasGrown p x y
step_grows p c x y a step =
    move_grows p x y (subject_of p x.state c) step.history
    (answers_move p x.state (found_by c x.device) c a y.state step.meant)

all_append : (p : Source) (pool : PoolMap) (xs ys : List Pending) →
    pool_after_all p pool (xs ++ ys) ≡ pool_after_all p (pool_after_all p pool xs) ys
all_append p pool [] ys = refl
all_append p pool (call ∷ xs) ys =
    all_append p (pool_after (comes_to p pool call) pool) xs ys

pub grown_trans : (p : Source) (x y z : UserMoment) → UserHasGrown p x y →
    UserHasGrown p y z → UserHasGrown p x z
grown_trans p x y z first second = record {
  new = first.new ++ second.new;
  history = second.history ∙ ap (λ (h : List Pending). h ++ second.new) first.history
      ∙ append_assoc x.history first.new second.new;
  pool = second.pool
      ∙ ap (λ (pool : PoolMap). pool_after_all p pool second.new) first.pool
      ∙ sym (all_append p x.state.pool first.new second.new);
  count = let e = first.count in let f = second.count in
      let g = length-append first.new second.new in omega (arith, e, f, g);
}

pub none_grown : (p : Source) (x y : UserMoment) → y ≡ x → UserHasGrown p x y
none_grown p x y same = record {
  new = [];
  history = ap (λ (z : UserMoment). z.history) same ∙ sym (append-nil x.history);
  pool = ap (λ (z : UserMoment). z.state.pool) same;
  count = let e = ap (λ (z : UserMoment). z.state.done) same in omega (arith, e);
}

pub chain_grows : UserWholeLaw
chain_grows p [] [] x y same = none_grown p x y same
chain_grows p [] (a ∷ answers) x y ran = absurd ran
chain_grows p (c ∷ commands) [] x y ran = absurd ran
chain_grows p (c ∷ commands) (a ∷ answers) x y ran =
    grown_trans p x ran.0 y (step_grows p c x ran.0 a ran.1)
    (chain_grows p commands answers ran.0 y ran.2)
