-- The source gives one answer of each kind.
use Rattle.std.proofs.Common.{◌≡◌, ◌⊎◌, inl, inr, ⊎_elim, ◌==◌, ℕ, suc, Bool, true, false, List}
use Rattle.std.proofs.Common.{length, Option, Some, None, ℤ, pos, refl, sym, ap, ◌∙◌, subst, arith}
use Rattle.cache_model.specs.Cache.{Words}
use Rattle.pool_layout.specs.declared.places.TheConstants.{DONE, MARK}
use Rattle.pool_layout.proofs.Records.{pos_inj}
use Rattle.pool_map.specs.declared.trap.TrapKind.{TrapKind}
use Rattle.pool_map.specs.declared.trap.TrapKind.TheVariants as trap
use Rattle.pool_map.specs.Trap.{trap_number}
use Rattle.pool_map.specs.PoolMap.{PoolMap}
use Rattle.pool_map.specs.PoolText.{pool_text}
use Rattle.c_types.specs.Shapes.{shapes_of}
use Rattle.c_meaning.specs.Transaction.{Outcome, Done, Trap}
use Rattle.cnvm_script.specs.declared.command.Command.TheVariants as command
use Rattle.cnvm_session.specs.declared.answer.Answer.{Answer}
use Rattle.cnvm_session.specs.declared.answer.Answer.TheVariants as answer
use Rattle.cnvm_session.specs.declared.program.Program.{Program}
use Rattle.cnvm_session.specs.Commands.{call_number}
use Rattle.cnvm_session.specs.Marks.{rolls_back_of, looks_of, unsigned_of}
use Rattle.session_law.specs.Source.{source_parameters, means, ComesBy, pool_of_image}
use Rattle.session_law.specs.State.{Pending, Standing, Ready, Down, Unusable, SourceState}
use Rattle.session_law.specs.State.{standing_as, done_with, undone_as}
use Rattle.session_law.specs.Answers.{Refused, RunsBy, Looks, RunsAs, CallsWith, CallsTo}
use Rattle.session_law.specs.Answers.{CallsNamed, Calls, Tells, Shows, ShowsDead, Lasts}
use Rattle.session_law.specs.Answers.{ConcludesAs, IsConcluded, FindsOf, FindsOwed, Rests}
use Rattle.session_law.specs.Answers.{RedoesBy, Recovers, IsMarked, Powers}
use Rattle.session_law.proofs.logs.Logging.{one_outcome}
use Rattle.needed_law.specs.AnswerKind.{AnswerKind, Meant, CutOff, FaultCame, NoRoom, AtLimit}
use Rattle.needed_law.specs.AnswerKind.{UnfitPick, answer_kind}
use Rattle.needed_law.specs.Answered.{OneAnswerLaw}

abbrev pub IsMeant : AnswerKind → Type 0
IsMeant Meant = Unit {0}
IsMeant (CutOff at) = ⊥
IsMeant FaultCame = ⊥
IsMeant NoRoom = ⊥
IsMeant AtLimit = ⊥
IsMeant (UnfitPick line) = ⊥

abbrev pub IsOfPick : AnswerKind → Type 0
IsOfPick Meant = ⊥
IsOfPick (CutOff at) = ⊥
IsOfPick FaultCame = ⊥
IsOfPick NoRoom = ⊥
IsOfPick AtLimit = ⊥
IsOfPick (UnfitPick line) = Unit {0}

pick_not_meant : (k : AnswerKind) → IsOfPick k → IsMeant k → ⊥
pick_not_meant Meant of is = of
pick_not_meant (CutOff at) of is = is
pick_not_meant FaultCame of is = is
pick_not_meant NoRoom of is = is
pick_not_meant AtLimit of is = is
pick_not_meant (UnfitPick line) of is = is

-- the answer of a kind that isn't the source's
answer_of_kind : AnswerKind → Answer
answer_of_kind Meant = answer.Silent
answer_of_kind (CutOff at) = answer.Stopped at
answer_of_kind FaultCame = answer.DeviceFault
answer_of_kind NoRoom = answer.NoMemory
answer_of_kind AtLimit = answer.RefusedNumbers
answer_of_kind (UnfitPick line) = answer.RefusedPick line

by_kind : (a : Answer) → IsMeant (answer_kind a) ⊎ (a ≡ answer_of_kind (answer_kind a))
unfolding answer_of_kind
by_kind answer.Silent = inl tt
by_kind (answer.Done value unsigned logged) = inl tt
by_kind (answer.Trap kind) = inl tt
by_kind (answer.Aborted kind) = inl tt
by_kind (answer.Stopped at) = inr refl
by_kind answer.DeviceFault = inr refl
by_kind answer.RecoveredNone = inl tt
by_kind (answer.RecoveredRedone value unsigned logged) = inl tt
by_kind (answer.RecoveredTrap kind) = inl tt
by_kind (answer.RecoveredAborted kind) = inl tt
by_kind (answer.Shown text) = inl tt
by_kind (answer.ShownDead trap text) = inl tt
by_kind (answer.Last n value) = inl tt
by_kind answer.NoMemory = inr refl
by_kind answer.RefusedDown = inl tt
by_kind (answer.RefusedUnusable kind) = inl tt
by_kind answer.RefusedUnknown = inl tt
by_kind answer.RefusedArity = inl tt
by_kind answer.RefusedNumbers = inr refl
by_kind (answer.RefusedPick line) = inr refl

unmeant : (a : Answer) → (IsMeant (answer_kind a) → ⊥) → a ≡ answer_of_kind (answer_kind a)
unmeant a unlike = ⊎_elim (λ (is : IsMeant (answer_kind a)). absurd (unlike is))
    (λ (e : a ≡ answer_of_kind (answer_kind a)). e) (by_kind a)

-- two answers of one kind that isn't the source's are the same
same_kind : (a b : Answer) → (IsMeant (answer_kind a) → ⊥) → answer_kind a ≡ answer_kind b → a ≡ b
same_kind a b unlike kinds =
    unmeant a unlike ∙ ap answer_of_kind kinds
    ∙ sym (unmeant b (λ is. unlike (subst IsMeant (sym kinds) is)))

-- a relation that gives one answer of each kind
abbrev IsOne : (Answer → SourceState → Type 0) → Type 0
IsOne R = (a b : Answer) (t u : SourceState) → R a t → R b u
    → answer_kind a ≡ answer_kind b → (a ≡ b) × (t ≡ u)

-- the source's answer; or another, after which the state is one of its kind
abbrev Splits : (meant : Answer → SourceState → Type 0) (after : AnswerKind → SourceState)
    → Answer → SourceState → Type 0
Splits meant after a t = (IsMeant (answer_kind a) × meant a t)
    ⊎ ((IsMeant (answer_kind a) → ⊥) × (t ≡ after (answer_kind a)))

split_one : (meant : Answer → SourceState → Type 0) (after : AnswerKind → SourceState)
    → ((a b : Answer) (t u : SourceState) → meant a t → meant b u → (a ≡ b) × (t ≡ u))
    → (a b : Answer) (t u : SourceState) → Splits meant after a t → Splits meant after b u
    → answer_kind a ≡ answer_kind b → (a ≡ b) × (t ≡ u)
split_one meant after one a b t u (inl x) (inl y) kinds = one a b t u x.1 y.1
split_one meant after one a b t u (inl x) (inr y) kinds = absurd (y.0 (subst IsMeant kinds x.0))
split_one meant after one a b t u (inr x) (inl y) kinds =
    absurd (x.0 (subst IsMeant (sym kinds) y.0))
split_one meant after one a b t u (inr x) (inr y) kinds =
    (same_kind a b x.0 kinds, x.1 ∙ ap after kinds ∙ sym y.1)

refused_one : (why : Answer) (s : SourceState) → IsOne (Refused why s)
refused_one why s a b t u x y kinds = (x.0 ∙ sym y.0, x.1 ∙ sym y.1)

-- the outcome decides
abbrev ByOutcome : (answers : Outcome → ℕ → Answer) (states : Outcome → SourceState)
    → (marked : Bool) → Program → PoolMap → (tx : ℕ) → List ℤ → Answer → SourceState → Type 0
ByOutcome answers states marked program pool tx args a t =
    (logged : ℕ) × (o : Outcome) × ComesBy marked program pool tx args logged o
    × (a ≡ answers o logged) × (t ≡ states o)

outcome_one : (answers : Outcome → ℕ → Answer) (states : Outcome → SourceState) (marked : Bool)
    (program : Program) (pool : PoolMap) (tx : ℕ) (args : List ℤ) (a b : Answer)
    (t u : SourceState)
    → ByOutcome answers states marked program pool tx args a t
    → ByOutcome answers states marked program pool tx args b u → (a ≡ b) × (t ≡ u)
outcome_one answers states marked program pool tx args a b t u x y =
    let same = one_outcome marked program pool tx args x.0 y.0 x.1 y.1 x.2 y.2 in (
      x.3 ∙ ap (λ (n : ℕ). answers x.1 n) same.0 ∙ ap (λ (o : Outcome). answers o y.0) same.1
          ∙ sym y.3,
      x.4 ∙ ap states same.1 ∙ sym y.4,
    )

pub true_not_false : true ≡ false → ⊥
true_not_false e = absurd cc

-- a call that runs
call_answer : (marked unsigned : Bool) → Outcome → ℕ → Answer
call_answer marked unsigned (Done pool value) logged = answer.Done value unsigned logged
call_answer false unsigned (Trap kind) logged = answer.Trap kind
call_answer true unsigned (Trap kind) logged = answer.Aborted kind

call_state : Bool → SourceState → Outcome → SourceState
call_state marked s (Done pool value) = done_with pool value Ready s
call_state false s (Trap kind) = standing_as (Unusable kind) s
call_state true s (Trap kind) = undone_as Ready s

call_after : SourceState → (tx : ℕ) → List ℤ → AnswerKind → SourceState
call_after s tx args Meant = s
call_after s tx args (CutOff at) = standing_as (Down (Some (record { tx = tx; args = args }))) s
call_after s tx args FaultCame = standing_as (Down (Some (record { tx = tx; args = args }))) s
call_after s tx args NoRoom = standing_as (Down (Some (record { tx = tx; args = args }))) s
call_after s tx args AtLimit = s
call_after s tx args (UnfitPick line) = s

module _ (program : Program) (s : SourceState) (image : Words) where
  module _ (tx : ℕ) (args : List ℤ) where
    abbrev typed : Bool
    typed = unsigned_of program tx

    runs_split : (marked : Bool) (a : Answer) (t : SourceState)
        → RunsBy marked program s image tx args a t
        → Splits (ByOutcome (call_answer marked typed) (call_state marked s) marked program s.pool
        tx args) (call_after s tx args) a t
    unfolding call_answer call_state call_after
    runs_split marked answer.Silent t h = absurd h
    runs_split true (answer.Done value unsigned logged) t h =
        let told = ap (λ (b : Bool). answer.Done value b logged) h.3 in
        inl (tt, (logged, Done h.0 value, h.1, told, h.2))
    runs_split false (answer.Done value unsigned logged) t h =
        let told = ap (λ (b : Bool). answer.Done value b logged) h.3 in
        inl (tt, (logged, Done h.0 value, h.1, told, h.2))
    runs_split true (answer.Trap kind) t h = absurd (true_not_false h.0)
    runs_split false (answer.Trap kind) t h = inl (tt, (h.1.0, Trap kind, h.1.1, refl, h.2))
    runs_split true (answer.Aborted kind) t h = inl (tt, (h.1.0, Trap kind, h.1.1, refl, h.2))
    runs_split false (answer.Aborted kind) t h = absurd (true_not_false (sym h.0))
    runs_split marked (answer.Stopped at) t h = inr ((λ is. is), h)
    runs_split marked answer.DeviceFault t h = inr ((λ is. is), h)
    runs_split marked answer.RecoveredNone t h = absurd h
    runs_split marked (answer.RecoveredRedone value unsigned logged) t h = absurd h
    runs_split marked (answer.RecoveredTrap kind) t h = absurd h
    runs_split marked (answer.RecoveredAborted kind) t h = absurd h
    runs_split marked (answer.Shown text) t h = absurd h
    runs_split marked (answer.ShownDead trap text) t h = absurd h
    runs_split marked (answer.Last n value) t h = absurd h
    runs_split marked answer.NoMemory t h = inr ((λ is. is), h)
    runs_split marked answer.RefusedDown t h = absurd h
    runs_split marked (answer.RefusedUnusable kind) t h = absurd h
    runs_split marked answer.RefusedUnknown t h = absurd h
    runs_split marked answer.RefusedArity t h = absurd h
    runs_split marked answer.RefusedNumbers t h = inr ((λ is. is), h.1)
    runs_split marked (answer.RefusedPick line) t h = absurd h

    runs_one : (marked : Bool) → IsOne (RunsBy marked program s image tx args)
    runs_one marked a b t u x y kinds =
        split_one (ByOutcome (call_answer marked typed) (call_state marked s) marked program s.pool
        tx args) (call_after s tx args)
        (outcome_one (call_answer marked typed) (call_state marked s) marked program s.pool tx
        args) a b t u (runs_split marked a t x) (runs_split marked b u y) kinds

    -- a call that only looks: what the transaction comes to decides
    abbrev look_answer : Outcome → Answer
    look_answer (Done pool value) = answer.Done value typed 0
    look_answer (Trap kind) = answer.Aborted kind

    abbrev IsLook : Answer → SourceState → Type 0
    IsLook a t = (a ≡ look_answer (means program s.pool tx args)) × (t ≡ s)

    looks_split : (a : Answer) (t : SourceState) → Looks program s tx args a t
        → Splits IsLook (λ k. standing_as (Down None) s) a t
    looks_split answer.Silent t h = absurd h
    looks_split (answer.Done value unsigned logged) t h =
        inl (tt, ((λ i. answer.Done value (h.3 i) (h.1 i)) ∙ sym (ap look_answer h.0), h.2))
    looks_split (answer.Trap kind) t h = absurd h
    looks_split (answer.Aborted kind) t h = inl (tt, (sym (ap look_answer h.0), h.1))
    looks_split (answer.Stopped at) t h = absurd h
    looks_split answer.DeviceFault t h = absurd h
    looks_split answer.RecoveredNone t h = absurd h
    looks_split (answer.RecoveredRedone value unsigned logged) t h = absurd h
    looks_split (answer.RecoveredTrap kind) t h = absurd h
    looks_split (answer.RecoveredAborted kind) t h = absurd h
    looks_split (answer.Shown text) t h = absurd h
    looks_split (answer.ShownDead trap text) t h = absurd h
    looks_split (answer.Last n value) t h = absurd h
    looks_split answer.NoMemory t h = inr ((λ is. is), h)
    looks_split answer.RefusedDown t h = absurd h
    looks_split (answer.RefusedUnusable kind) t h = absurd h
    looks_split answer.RefusedUnknown t h = absurd h
    looks_split answer.RefusedArity t h = absurd h
    looks_split answer.RefusedNumbers t h = absurd h
    looks_split (answer.RefusedPick line) t h = absurd h

    looks_one : IsOne (Looks program s tx args)
    looks_one a b t u x y kinds =
        split_one IsLook (λ k. standing_as (Down None) s)
        (λ v w f g first second. (first.0 ∙ sym second.0, first.1 ∙ sym second.1)) a b t u
        (looks_split a t x) (looks_split b u y) kinds

    any_one : (looks marked : Bool) → IsOne (RunsAs looks marked program s image tx args)
    any_one true marked = looks_one
    any_one false marked = runs_one marked

    with_one : (same : Bool) → IsOne (CallsWith same program s image tx args)
    with_one true = any_one (looks_of program tx) (rolls_back_of program tx)
    with_one false = refused_one answer.RefusedArity s

    to_one : (count : Option ℕ) → IsOne (CallsTo count program s image tx args)
    to_one None = refused_one answer.RefusedUnknown s
    to_one (Some count) = with_one (count == length args)

  named_one : (args : List ℤ) (number : Option ℕ) → IsOne (CallsNamed number program s image args)
  named_one args None = refused_one answer.RefusedUnknown s
  named_one args (Some tx) = to_one tx args (source_parameters program tx)

  calls_one : (name : List ℕ) (args : List ℤ) (st : Standing)
      → IsOne (Calls st program s image name args)
  calls_one name args Ready = named_one args (call_number program name)
  calls_one name args (Down owed) = refused_one answer.RefusedDown s
  calls_one name args (Unusable kind) = refused_one (answer.RefusedUnusable kind) s

  -- `show` and `last`
  abbrev IsShown : Answer → SourceState → Type 0
  IsShown a t = (a ≡ answer.Shown (pool_text (shapes_of program.typed) s.pool)) × (t ≡ s)

  tells_split : (a : Answer) (t : SourceState) → Tells program s a t
      → Splits IsShown (λ k. standing_as (Down None) s) a t
  tells_split answer.Silent t h = absurd h
  tells_split (answer.Done value unsigned logged) t h = absurd h
  tells_split (answer.Trap kind) t h = absurd h
  tells_split (answer.Aborted kind) t h = absurd h
  tells_split (answer.Stopped at) t h = absurd h
  tells_split answer.DeviceFault t h = absurd h
  tells_split answer.RecoveredNone t h = absurd h
  tells_split (answer.RecoveredRedone value unsigned logged) t h = absurd h
  tells_split (answer.RecoveredTrap kind) t h = absurd h
  tells_split (answer.RecoveredAborted kind) t h = absurd h
  tells_split (answer.Shown text) t h = inl (tt, (ap answer.Shown h.0, h.1))
  tells_split (answer.ShownDead trap text) t h = absurd h
  tells_split (answer.Last n value) t h = absurd h
  tells_split answer.NoMemory t h = inr ((λ is. is), h)
  tells_split answer.RefusedDown t h = absurd h
  tells_split (answer.RefusedUnusable kind) t h = absurd h
  tells_split answer.RefusedUnknown t h = absurd h
  tells_split answer.RefusedArity t h = absurd h
  tells_split answer.RefusedNumbers t h = absurd h
  tells_split (answer.RefusedPick line) t h = absurd h

  shows_one : (st : Standing) → IsOne (Shows st program s)
  shows_one Ready = λ a b t u x y kinds.
      split_one IsShown (λ k. standing_as (Down None) s)
      (λ v w f g first second. (first.0 ∙ sym second.0, first.1 ∙ sym second.1)) a b t u
      (tells_split a t x) (tells_split b u y) kinds
  shows_one (Down owed) = refused_one answer.RefusedDown s
  shows_one (Unusable kind) = refused_one (answer.RefusedUnusable kind) s

  -- `show dead` of a pool that a trap has ended
  abbrev IsShownDead : TrapKind → Answer → SourceState → Type 0
  IsShownDead kind a t =
      (a ≡ answer.ShownDead kind
      (pool_text (shapes_of program.typed) (pool_of_image program image))) × (t ≡ s)

  dead_split : (kind : TrapKind) (a : Answer) (t : SourceState)
      → ShowsDead (Unusable kind) program s image a t
      → Splits (IsShownDead kind) (λ k. s) a t
  dead_split kind a t h =
      ⊎_elim (λ shown. inl (
        subst (λ (x : Answer). IsMeant (answer_kind x)) (sym shown) tt,
        (shown, h.1),
      ))
      (λ none. inr ((λ is. subst (λ (x : Answer). IsMeant (answer_kind x)) none is), h.1)) h.0

  deads_one : (st : Standing) → IsOne (ShowsDead st program s image)
  deads_one Ready = shows_one Ready
  deads_one (Down owed) = shows_one (Down owed)
  deads_one (Unusable kind) = λ a b t u x y kinds.
      split_one (IsShownDead kind) (λ k. s)
      (λ v w f g first second. (first.0 ∙ sym second.0, first.1 ∙ sym second.1)) a b t u
      (dead_split kind a t x) (dead_split kind b u y) kinds

  lasts_one : (st : Standing) → IsOne (Lasts st s)
  lasts_one Ready = refused_one (answer.Last (pos s.done) s.last) s
  lasts_one (Down owed) = refused_one answer.RefusedDown s
  lasts_one (Unusable kind) = refused_one (answer.RefusedUnusable kind) s

  -- a recovery where nothing is owed
  abbrev IsNone : Answer → SourceState → Type 0
  IsNone a t = (a ≡ answer.RecoveredNone) × (t ≡ standing_as Ready s)

  rests_split : (a : Answer) (t : SourceState) → Rests program s image a t
      → Splits IsNone (λ k. s) a t
  rests_split answer.Silent t h = absurd h
  rests_split (answer.Done value unsigned logged) t h = absurd h
  rests_split (answer.Trap kind) t h = absurd h
  rests_split (answer.Aborted kind) t h = absurd h
  rests_split (answer.Stopped at) t h = inr ((λ is. is), h.1)
  rests_split answer.DeviceFault t h = inr ((λ is. is), h)
  rests_split answer.RecoveredNone t h = inl (tt, (refl, h))
  rests_split (answer.RecoveredRedone value unsigned logged) t h = absurd h
  rests_split (answer.RecoveredTrap kind) t h = absurd h
  rests_split (answer.RecoveredAborted kind) t h = absurd h
  rests_split (answer.Shown text) t h = absurd h
  rests_split (answer.ShownDead trap text) t h = absurd h
  rests_split (answer.Last n value) t h = absurd h
  rests_split answer.NoMemory t h = inr ((λ is. is), h)
  rests_split answer.RefusedDown t h = absurd h
  rests_split (answer.RefusedUnusable kind) t h = absurd h
  rests_split answer.RefusedUnknown t h = absurd h
  rests_split answer.RefusedArity t h = absurd h
  rests_split answer.RefusedNumbers t h = inr ((λ is. is), h.1)
  rests_split (answer.RefusedPick line) t h = absurd h

  rests_one : IsOne (Rests program s image)
  rests_one a b t u x y kinds =
      split_one IsNone (λ k. s)
      (λ v w f g first second. (first.0 ∙ sym second.0, first.1 ∙ sym second.1)) a b t u
      (rests_split a t x) (rests_split b u y) kinds

-- a recovery where a transaction is owed
redo_answer : (marked unsigned : Bool) → Outcome → ℕ → Answer
redo_answer marked unsigned (Done pool value) logged =
    answer.RecoveredRedone value unsigned logged
redo_answer false unsigned (Trap kind) logged = answer.RecoveredTrap kind
redo_answer true unsigned (Trap kind) logged = answer.RecoveredAborted kind

module _ (program : Program) (owed : Pending) (s : SourceState) (image : Words) where
  abbrev typed_redo : Bool
  typed_redo = unsigned_of program owed.tx

  redoes_split : (marked : Bool) (a : Answer) (t : SourceState)
      → RedoesBy marked program owed s image a t
      → Splits (ByOutcome (redo_answer marked typed_redo) (call_state marked s) marked program
      s.pool
      owed.tx owed.args) (λ k. s) a t
  unfolding redo_answer call_state
  redoes_split marked answer.Silent t h = absurd h
  redoes_split marked (answer.Done value unsigned logged) t h = absurd h
  redoes_split marked (answer.Trap kind) t h = absurd h
  redoes_split marked (answer.Aborted kind) t h = absurd h
  redoes_split marked (answer.Stopped at) t h = inr ((λ is. is), h.1)
  redoes_split marked answer.DeviceFault t h = inr ((λ is. is), h)
  redoes_split marked answer.RecoveredNone t h = absurd h
  redoes_split true (answer.RecoveredRedone value unsigned logged) t h =
      let told = ap (λ (b : Bool). answer.RecoveredRedone value b logged) h.3 in
      inl (tt, (logged, Done h.0 value, h.1, told, h.2))
  redoes_split false (answer.RecoveredRedone value unsigned logged) t h =
      let told = ap (λ (b : Bool). answer.RecoveredRedone value b logged) h.3 in
      inl (tt, (logged, Done h.0 value, h.1, told, h.2))
  redoes_split true (answer.RecoveredTrap kind) t h = absurd (true_not_false h.0)
  redoes_split false (answer.RecoveredTrap kind) t h =
      inl (tt, (h.1.0, Trap kind, h.1.1, refl, h.2))
  redoes_split true (answer.RecoveredAborted kind) t h =
      inl (tt, (h.1.0, Trap kind, h.1.1, refl, h.2))
  redoes_split false (answer.RecoveredAborted kind) t h = absurd (true_not_false (sym h.0))
  redoes_split marked (answer.Shown text) t h = absurd h
  redoes_split marked (answer.ShownDead trap text) t h = absurd h
  redoes_split marked (answer.Last n value) t h = absurd h
  redoes_split marked answer.NoMemory t h = inr ((λ is. is), h)
  redoes_split marked answer.RefusedDown t h = absurd h
  redoes_split marked (answer.RefusedUnusable kind) t h = absurd h
  redoes_split marked answer.RefusedUnknown t h = absurd h
  redoes_split marked answer.RefusedArity t h = absurd h
  redoes_split marked answer.RefusedNumbers t h = inr ((λ is. is), h.1)
  redoes_split marked (answer.RefusedPick line) t h = absurd h

  redoes_one : (marked : Bool) → IsOne (RedoesBy marked program owed s image)
  redoes_one marked a b t u x y kinds =
      split_one (ByOutcome (redo_answer marked typed_redo) (call_state marked s) marked program
      s.pool owed.tx owed.args) (λ k. s)
      (outcome_one (redo_answer marked typed_redo) (call_state marked s) marked program s.pool
      owed.tx owed.args) a b t u (redoes_split marked a t x) (redoes_split marked b u y) kinds

recovers_one : (program : Program) (s : SourceState) (image : Words) (st : Standing)
    → IsOne (Recovers st program s image)
recovers_one program s image Ready = λ a b t u x y kinds. absurd x
recovers_one program s image (Down None) = rests_one program s image
recovers_one program s image (Down (Some owed)) =
    redoes_one program owed s image (rolls_back_of program owed.tx)
recovers_one program s image (Unusable kind) = λ a b t u x y kinds. absurd x

-- what is found
concluded : Outcome → Standing → SourceState → SourceState
concluded (Done pool value) standing s = done_with pool value standing s
concluded (Trap kind) standing s = undone_as standing s

concludes_as : (marked : Bool) (o : Outcome) (standing : Standing) (s t : SourceState)
    → ConcludesAs marked o standing s t → t ≡ concluded o standing s
unfolding concluded
concludes_as marked (Done pool value) standing s t h = h
concludes_as marked (Trap kind) standing s t h = h.1

concluded_one : (marked : Bool) (program : Program) (owed : Pending) (s : SourceState)
    (standing : Standing) (t u : SourceState) → IsConcluded marked program owed s standing t
    → IsConcluded marked program owed s standing u → t ≡ u
concluded_one marked program owed s standing t u x y =
    let same = one_outcome marked program s.pool owed.tx owed.args x.0 y.0 x.1 y.1 x.2 y.2 in
    concludes_as marked x.1 standing s t x.3
    ∙ ap (λ (o : Outcome). concluded o standing s) same.1
    ∙ sym (concludes_as marked y.1 standing s u y.3)

one_more : (w : ℤ) (n : ℕ) → w ≡ pos (suc n) → w ≡ pos n → ⊥
one_more w n more same = let e : suc n ≡ n = pos_inj (suc n) n (sym more ∙ same) in omega arith

module _ (program : Program) (s : SourceState) (image : Words) (t u : SourceState) where
  found_of : (owed : Option Pending) → FindsOf owed program s image t
      → FindsOf owed program s image u → t ≡ u
  found_of None x y = x ∙ sym y
  found_of (Some owed) (inl x) (inl y) = x.1 ∙ sym y.1
  found_of (Some owed) (inl x) (inr (inl y)) = absurd (x.0 y.0)
  found_of (Some owed) (inl x) (inr (inr y)) = absurd (x.0 y.0)
  found_of (Some owed) (inr (inl x)) (inl y) = absurd (y.0 x.0)
  found_of (Some owed) (inr (inl x)) (inr (inl y)) =
      concluded_one (rolls_back_of program owed.tx) program owed s (Down None) t u x.2 y.2
  found_of (Some owed) (inr (inl x)) (inr (inr y)) = absurd (one_more (image DONE) s.done x.1 y.1)
  found_of (Some owed) (inr (inr x)) (inl y) = absurd (y.0 x.0)
  found_of (Some owed) (inr (inr x)) (inr (inl y)) = absurd (one_more (image DONE) s.done y.1 x.1)
  found_of (Some owed) (inr (inr x)) (inr (inr y)) = x.2 ∙ sym y.2

  found_one : (st : Standing) → FindsOwed st program s image t → FindsOwed st program s image u
      → t ≡ u
  found_one Ready x y = found_of None x y
  found_one (Down owed) x y = found_of owed x y
  found_one (Unusable kind) x y = absurd x

-- the trap of a pool's mark
trap_in : Outcome → TrapKind
trap_in (Done pool value) = trap.Null
trap_in (Trap kind) = kind

marked_one : (st : Standing) (program : Program) (s : SourceState) (kind other : TrapKind)
    → IsMarked st program s kind → IsMarked st program s other → kind ≡ other
unfolding trap_in
marked_one Ready program s kind other x y = absurd x
marked_one (Down None) program s kind other x y = absurd x
marked_one (Down (Some owed)) program s kind other x y =
    ap trap_in (one_outcome (rolls_back_of program owed.tx) program s.pool owed.tx owed.args x.1.0
    y.1.0 (Trap kind) (Trap other) x.1.1 y.1.1).1
marked_one (Unusable trapped) program s kind other x y = x ∙ sym y

some_number : (kind : TrapKind) → trap_number kind ≡ 0 → ⊥
some_number trap.Null e = omega arith
some_number trap.Stale e = omega arith
some_number trap.Index e = omega arith
some_number trap.Divide e = omega arith
some_number trap.Steps e = omega arith
some_number trap.Abort e = omega arith
some_number trap.LogFull e = omega arith
some_number trap.Depth e = omega arith

-- `power`: a pick doesn't fit, or the pool has a mark, or it is recovered
module _ (program : Program) (s : SourceState) (image : Words) where
  abbrev ByMark : Answer → SourceState → Type 0
  ByMark a t = (kind : TrapKind) × (a ≡ answer.RefusedUnusable kind)
      × (image MARK ≡ pos (trap_number kind)) × IsMarked s.standing program s kind
      × (t ≡ standing_as (Unusable kind) s)

  abbrev ByRecovery : Answer → SourceState → Type 0
  ByRecovery a t = (IsOfPick (answer_kind a) → ⊥) × (image MARK ≡ pos 0) × ((found : SourceState)
      × FindsOwed s.standing program s image found
      × Recovers found.standing program found image a t)

  powers_split : (a : Answer) (t : SourceState) → Powers program s image a t
      → (IsOfPick (answer_kind a) × (t ≡ s)) ⊎ (ByMark a t ⊎ ByRecovery a t)
  powers_split answer.Silent t h = inr (inr ((λ is. is), h.0, h.1))
  powers_split (answer.Done value unsigned logged) t h = inr (inr ((λ is. is), h.0, h.1))
  powers_split (answer.Trap kind) t h = inr (inr ((λ is. is), h.0, h.1))
  powers_split (answer.Aborted kind) t h = inr (inr ((λ is. is), h.0, h.1))
  powers_split (answer.Stopped at) t h = inr (inr ((λ is. is), h.0, h.1))
  powers_split answer.DeviceFault t h = inr (inr ((λ is. is), h.0, h.1))
  powers_split answer.RecoveredNone t h = inr (inr ((λ is. is), h.0, h.1))
  powers_split (answer.RecoveredRedone value unsigned logged) t h = inr (inr ((λ is. is), h.0, h.1))
  powers_split (answer.RecoveredTrap kind) t h = inr (inr ((λ is. is), h.0, h.1))
  powers_split (answer.RecoveredAborted kind) t h = inr (inr ((λ is. is), h.0, h.1))
  powers_split (answer.Shown text) t h = inr (inr ((λ is. is), h.0, h.1))
  powers_split (answer.ShownDead trap text) t h = inr (inr ((λ is. is), h.0, h.1))
  powers_split (answer.Last n value) t h = inr (inr ((λ is. is), h.0, h.1))
  powers_split answer.NoMemory t h = inr (inr ((λ is. is), h.0, h.1))
  powers_split answer.RefusedDown t h = inr (inr ((λ is. is), h.0, h.1))
  powers_split (answer.RefusedUnusable kind) t h =
      inr (inl (kind, refl, h.0, h.1, h.2))
  powers_split answer.RefusedUnknown t h = inr (inr ((λ is. is), h.0, h.1))
  powers_split answer.RefusedArity t h = inr (inr ((λ is. is), h.0, h.1))
  powers_split answer.RefusedNumbers t h = inr (inr ((λ is. is), h.0, h.1))
  powers_split (answer.RefusedPick line) t h = inl (tt, h)

  recovered_one : (a b : Answer) (t u : SourceState) → ByRecovery a t → ByRecovery b u
      → answer_kind a ≡ answer_kind b → (a ≡ b) × (t ≡ u)
  recovered_one a b t u x y kinds =
      let same : y.2.0 ≡ x.2.0 =
      found_one program s image y.2.0 x.2.0 s.standing y.2.1 x.2.1 in
      recovers_one program x.2.0 image x.2.0.standing a b t u x.2.2
      (subst (λ (found : SourceState). Recovers found.standing program found image b u) same y.2.2)
      kinds

  split_power : (a b : Answer) (t u : SourceState)
      → (IsOfPick (answer_kind a) × (t ≡ s)) ⊎ (ByMark a t ⊎ ByRecovery a t)
      → (IsOfPick (answer_kind b) × (u ≡ s)) ⊎ (ByMark b u ⊎ ByRecovery b u)
      → answer_kind a ≡ answer_kind b → (a ≡ b) × (t ≡ u)
  split_power a b t u (inl x) (inl y) kinds =
      (same_kind a b (pick_not_meant (answer_kind a) x.0) kinds, x.1 ∙ sym y.1)
  split_power a b t u (inl x) (inr (inl y)) kinds =
      absurd (subst IsOfPick (kinds ∙ ap answer_kind y.1) x.0)
  split_power a b t u (inl x) (inr (inr y)) kinds = absurd (y.0 (subst IsOfPick kinds x.0))
  split_power a b t u (inr (inl x)) (inl y) kinds =
      absurd (subst IsOfPick (sym kinds ∙ ap answer_kind x.1) y.0)
  split_power a b t u (inr (inl x)) (inr (inl y)) kinds =
      let same = marked_one s.standing program s x.0 y.0 x.3 y.3 in (
        x.1 ∙ ap answer.RefusedUnusable same ∙ sym y.1,
        x.4 ∙ ap (λ (kind : TrapKind). standing_as (Unusable kind) s) same ∙ sym y.4,
      )
  split_power a b t u (inr (inl x)) (inr (inr y)) kinds =
      absurd (some_number x.0 (pos_inj (trap_number x.0) 0 (sym x.2 ∙ y.1)))
  split_power a b t u (inr (inr x)) (inl y) kinds = absurd (x.0 (subst IsOfPick (sym kinds) y.0))
  split_power a b t u (inr (inr x)) (inr (inl y)) kinds =
      absurd (some_number y.0 (pos_inj (trap_number y.0) 0 (sym y.2 ∙ x.1)))
  split_power a b t u (inr (inr x)) (inr (inr y)) kinds = recovered_one a b t u x y kinds

pub one_answer : OneAnswerLaw
one_answer program s image (command.Call name args) a b t u =
    calls_one program s image name args s.standing a b t u
one_answer program s image (command.Stop left) a b t u = refused_one answer.Silent s a b t u
one_answer program s image (command.Fault at) a b t u = refused_one answer.Silent s a b t u
one_answer program s image (command.Power choice) a b t u = λ x y kinds.
    split_power program s image a b t u (powers_split program s image a t x)
    (powers_split program s image b u y) kinds
one_answer program s image command.Show a b t u = shows_one program s image s.standing a b t u
one_answer program s image command.ShowDead a b t u = deads_one program s image s.standing a b t u
one_answer program s image command.Last a b t u = lasts_one program s image s.standing a b t u
