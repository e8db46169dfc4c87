-- What session_law says of an answer, without the machine, as the user's definitions say it.
use Rattle.std.proofs.Common.{◌≡◌, ◌≢◌, inl, inr, ℕ, zero, suc, ◌==◌, ◌&&◌, ◌^◌, ◌<◌, ◌≤◌}
use Rattle.std.proofs.Common.{Bool}
use Rattle.std.proofs.Common.{◌-◌, true, false, List, length, Option, Some, None, ℤ, pos, negsuc}
use Rattle.std.proofs.Common.{int_eq}
use Rattle.std.proofs.Common.{ltb, leb, nat_lt, nat_le, if◌then◌else◌, refl, sym, ap, ◌∙◌, subst}
use Rattle.std.proofs.Common.{arith}
use Rattle.std.proofs.lemmas.Bool.{ltb-true, ltb-false, leb-true}
use Rattle.std.proofs.lemmas.Bool.Decides.{Decides-int_eq}
use Rattle.cache_model.specs.Cache.{Words}
use Rattle.pmem.specs.declared.answer.Phase.TheVariants as phase
use Rattle.pool_layout.specs.declared.places.TheConstants.{DONE, ATTEMPT, MARK, SEAL}
use Rattle.pool_layout.proofs.Records.{pos_inj}
use Rattle.pool_map.specs.declared.trap.TrapKind.{TrapKind}
use Rattle.c_meaning.specs.Transaction.{Outcome, Done, Trap}
use Rattle.clobber_log.specs.Logs.{attempt_of, attempt_in, count_in}
use Rattle.tx_run.specs.Standing.{is_number}
use Rattle.recovery.specs.Found.{has_numbers}
use Rattle.cnvm_script.specs.declared.command.Command.TheVariants as command
use Rattle.cnvm_session.specs.declared.answer.Answer.{Answer}
use Rattle.cnvm_session.specs.declared.answer.Answer.TheVariants as answer
use Rattle.cnvm_session.specs.declared.program.Program.{Program}
use Rattle.cnvm_session.specs.Commands as commanded
use Rattle.cnvm_session.specs.Marks.{rolls_back_of, looks_of, unsigned_of}
use Rattle.cnvm_session.specs.Pool.{sizes_of}
use Rattle.session_law.specs.Answers as machine
use Rattle.session_law.specs.Source.{source_parameters, ComesBy}
use Rattle.session_law.specs.State.{Pending, SourceState}
use Rattle.session_law.specs.State as session
use Rattle.session_law.proofs.logs.Logging.{one_outcome}
use Rattle.user_law.specs.Source.{Source, Logs, rolls_back, comes_to, gives_unsigned}
use Rattle.user_law.specs.State.{UserStanding, Ready, Idle, Owed, Unusable, UserState, stands_as}
use Rattle.user_law.specs.State.{state_after}
use Rattle.user_law.specs.Answers.{call_told, recovery_told, call_told_by, recovery_told_by}
use Rattle.user_law.specs.Answers.{finished, UserRuns, UserLooks, UserRunsAs, UserCallsWith}
use Rattle.user_law.specs.Answers.{UserCallsTo, UserCallsNamed, UserCalls, UserTells, UserShows}
use Rattle.user_law.specs.Answers.{UserShowsDead}
use Rattle.user_law.specs.Answers.{UserLasts, NumbersAreOut}
use Rattle.user_law.specs.Answers.{has_next_seal, has_next_count, found_by_seal, found_as}
use Rattle.user_law.specs.Answers.{UserRecovers}
use Rattle.user_law.specs.Answers.{HasTrapped, UserPowers}
use Rattle.user_law.specs.Seen.{source_in, plain, plain_standing, HasCounts}
use Rattle.user_law.specs.Seen.{MeantLaw}
use Rattle.user_law.proofs.Looking.{looks_same}

-- an attempt at its end is no number
no_number : (x : ℤ) → leb (2 ^ 62) (attempt_of x) ≡ true → is_number x ≡ false
no_number (pos n) full = go (ltb n (2 ^ 62)) refl
  where
    low : n < 2 ^ 62 → ⊥
    low less = by (ltb n (2 ^ 63 - 2)) refl
      where
        by : (b : Bool) → ltb n (2 ^ 63 - 2) ≡ b → ⊥
        by true e = let more : 2 ^ 62 ≤ n = leb-true (2 ^ 62) n
            (subst (λ (c : Bool). leb (2 ^ 62) (if c then n else 2 ^ 63 - 2) ≡ true) e full) in
            absurd (omega (arith, more, less))
        by false e = let more = ltb-false n (2 ^ 63 - 2) e in absurd (omega (arith, more, less))

    go : (b : Bool) → ltb n (2 ^ 62) ≡ b → b ≡ false
    go true e = absurd (low (ltb-true n (2 ^ 62) e))
    go false e = refl
no_number (negsuc n) full = refl

and_right : (b c : Bool) → b && c ≡ true → c ≡ true
and_right true c e = e
and_right false c e = absurd cc

and_false : (b c : Bool) → c ≡ false → b && c ≡ false
and_false true c e = e
and_false false c e = refl

-- the image's numbers are out where a recovery is refused for them
out_of : (program : Program) (image : Words) → has_numbers (count_in (sizes_of program) image)
    (attempt_in (sizes_of program) image) ≡ true → NumbersAreOut image
out_of program image full =
    and_false (is_number (image DONE)) (is_number (image ATTEMPT)) (no_number (image ATTEMPT)
    (and_right (nat_lt 0 (count_in (sizes_of program) image))
    (nat_le (2 ^ 62) (attempt_in (sizes_of program) image)) full))

not_eq : (v w : ℤ) → v ≢ w → int_eq v w ≡ false
not_eq v w none = by_test (int_eq v w) refl
  where
    by_test : (b : Bool) → int_eq v w ≡ b → b ≡ false
    by_test true e = absurd (none ((Decides-int_eq v w).0 e))
    by_test false e = refl

module _ (program : Program) (logs : Logs) (count : HasCounts program logs) where
  abbrev p : Source
  p = source_in program logs

  abbrev marked : Pending → Bool
  marked call = rolls_back_of program call.tx

  rolls : (tx : ℕ) → rolls_back p tx ≡ rolls_back_of program tx
  rolls zero = refl
  rolls (suc i) = refl

  types : (tx : ℕ) → gives_unsigned p tx ≡ unsigned_of program tx
  types zero = refl
  types (suc i) = refl

  abbrev Comes : UserState → Pending → ℕ → Outcome → Type 0
  Comes s call n o = ComesBy (marked call) program s.pool call.tx call.args n o

  comes : (s : UserState) (call : Pending) (n : ℕ) (o : Outcome) → Comes s call n o →
      (n ≡ p.logged s.pool call) × (o ≡ comes_to p s.pool call)
  comes s call n o is =
      one_outcome (marked call) program s.pool call.tx call.args n (p.logged s.pool call) o
      (comes_to p s.pool call) is (record { logs = count.logged s.pool call; is = refl })

  told_is : (s : UserState) (call : Pending) (u : Bool) (n : ℕ) (o : Outcome) →
      u ≡ unsigned_of program call.tx → Comes s call n o →
      call_told (marked call) u n o ≡ call_told_by p s call
  told_is s call u n o type_is is =
      let both = comes s call n o is in
      let same : u ≡ gives_unsigned p call.tx = type_is ∙ sym (types call.tx) in
      λ i. call_told (sym (rolls call.tx) i) (same i) (both.0 i) (both.1 i)

  retold_is : (s : UserState) (call : Pending) (u : Bool) (n : ℕ) (o : Outcome) →
      u ≡ unsigned_of program call.tx → Comes s call n o →
      recovery_told (marked call) u n o ≡ recovery_told_by p s call
  retold_is s call u n o type_is is =
      let both = comes s call n o is in
      let same : u ≡ gives_unsigned p call.tx = type_is ∙ sym (types call.tx) in
      λ i. recovery_told (sym (rolls call.tx) i) (same i) (both.0 i) (both.1 i)

  finished_is : (st : UserStanding) (s : UserState) (call : Pending) (n : ℕ) (o : Outcome) →
      Comes s call n o → state_after st (marked call) o s ≡ finished st p s call
  finished_is st s call n o is =
      let both = comes s call n o is in
      λ i. state_after st (sym (rolls call.tx) i) (both.1 i) s

  -- some state that is this one without the seal, of which that holds
  abbrev HasState : SourceState → (UserState → Type 0) → Type 0
  HasState t P = (u : UserState) × (t ≡ plain u) × P u

  -- a call that came to a value, or to a trap, is run to its end
  module _ (s : UserState) (t : SourceState) (call : Pending) where
    abbrev Ended : Answer → Type 0
    Ended a = HasState t (λ (u : UserState). (a ≡ call_told_by p s call)
        × (u ≡ finished Ready p s call))

    abbrev Reended : Answer → Type 0
    Reended a = HasState t (λ (u : UserState). (a ≡ recovery_told_by p s call)
        × (u ≡ finished Ready p s call))

    done_meant : (value : ℤ) (unsigned : Bool) (logged : ℕ) →
        machine.IsDoneWith (marked call) program (plain s) call.tx call.args value unsigned logged
        session.Ready t → Ended (answer.Done value unsigned logged)
    done_meant value unsigned logged is = (
      finished Ready p s call,
      is.2 ∙ ap plain (finished_is Ready s call logged (Done is.0 value) is.1),
      (told_is s call unsigned logged (Done is.0 value) is.3 is.1, refl),
    )

    redone_meant : (value : ℤ) (unsigned : Bool) (logged : ℕ) →
        machine.IsDoneWith (marked call) program (plain s) call.tx call.args value unsigned logged
        session.Ready t → Reended (answer.RecoveredRedone value unsigned logged)
    redone_meant value unsigned logged is = (
      finished Ready p s call,
      is.2 ∙ ap plain (finished_is Ready s call logged (Done is.0 value) is.1),
      (retold_is s call unsigned logged (Done is.0 value) is.3 is.1, refl),
    )

    -- a trap, by whether the transaction is marked
    module _ (by : Bool) (marks : marked call ≡ by) (kind : TrapKind)
        (traps : machine.TrapsAs (marked call) program (plain s) call.tx call.args kind)
        (after : t ≡ plain (state_after Ready by (Trap kind) s)) where
      abbrev typed : Bool
      typed = unsigned_of program call.tx

      trap_state : t ≡ plain (finished Ready p s call)
      trap_state = after ∙ ap (λ (b : Bool). plain (state_after Ready b (Trap kind) s)) (sym marks)
          ∙ ap plain (finished_is Ready s call traps.0 (Trap kind) traps.1)

      trap_meant : Ended (call_told by typed traps.0 (Trap kind))
      trap_meant = (
        finished Ready p s call,
        trap_state,
        (
          ap (λ (b : Bool). call_told b typed traps.0 (Trap kind)) (sym marks)
              ∙ told_is s call typed traps.0 (Trap kind) refl traps.1,
          refl,
        ),
      )

      retrap_meant : Reended (recovery_told by typed traps.0 (Trap kind))
      retrap_meant = (
        finished Ready p s call,
        trap_state,
        (
          ap (λ (b : Bool). recovery_told b typed traps.0 (Trap kind)) (sym marks)
              ∙ retold_is s call typed traps.0 (Trap kind) refl traps.1,
          refl,
        ),
      )

  module _ (s : UserState) (image : Words) (t : SourceState) where
    runs_meant : (call : Pending) (a : Answer) →
        machine.RunsBy (marked call) program (plain s) image call.tx call.args a t →
        HasState t (UserRuns p s image call a)
    runs_meant call answer.Silent is = absurd is
    runs_meant call (answer.Done value unsigned logged) is =
        done_meant s t call value unsigned logged is
    runs_meant call (answer.Trap kind) is = trap_meant s t call false is.0 kind is.1 is.2
    runs_meant call (answer.Aborted kind) is = trap_meant s t call true is.0 kind is.1 is.2
    runs_meant call (answer.Stopped at) is = (stands_as (Owed call at) s, is, refl)
    runs_meant call answer.DeviceFault is = (stands_as (Owed call phase.Sealing) s, is, refl)
    runs_meant call answer.RecoveredNone is = absurd is
    runs_meant call (answer.RecoveredRedone value unsigned logged) is = absurd is
    runs_meant call (answer.RecoveredTrap kind) is = absurd is
    runs_meant call (answer.RecoveredAborted kind) is = absurd is
    runs_meant call (answer.Shown text) is = absurd is
    runs_meant call (answer.ShownDead trap text) is = absurd is
    runs_meant call (answer.Last n value) is = absurd is
    runs_meant call answer.NoMemory is = (stands_as (Owed call phase.Sealing) s, is, refl)
    runs_meant call answer.RefusedDown is = absurd is
    runs_meant call (answer.RefusedUnusable kind) is = absurd is
    runs_meant call answer.RefusedUnknown is = absurd is
    runs_meant call answer.RefusedArity is = absurd is
    runs_meant call answer.RefusedNumbers is = (s, is.1, (is.0, refl))
    runs_meant call (answer.RefusedPick line) is = absurd is

    look_meant : (call : Pending) (a : Answer) →
        machine.Looks program (plain s) call.tx call.args a t → HasState t (UserLooks p s call a)
    look_meant call (answer.Done value unsigned logged) is =
        (s, is.2, (is.0, is.1, refl, is.3 ∙ sym (types call.tx)))
    look_meant call (answer.Aborted kind) is = (s, is.1, (is.0, refl))
    look_meant call answer.NoMemory is = (stands_as Idle s, is, refl)
    look_meant call _ is = absurd is

    as_meant : (b : Bool) (call : Pending) (a : Answer) →
        machine.RunsAs b (marked call) program (plain s) image call.tx call.args a t →
        HasState t (UserRunsAs b p s image call a)
    as_meant true call a is = look_meant call a is
    as_meant false call a is = runs_meant call a is

    with_meant : (same : Bool) (call : Pending) (a : Answer) →
        machine.CallsWith same program (plain s) image call.tx call.args a t →
        HasState t (UserCallsWith same p s image call a)
    with_meant true call a is =
        subst (λ (b : Bool). HasState t (UserRunsAs b p s image call a))
        (sym (looks_same program logs call.tx)) (as_meant (looks_of program call.tx) call a is)
    with_meant false call a is = (s, is.1, (is.0, refl))

    to_meant : (n : Option ℕ) (call : Pending) (a : Answer) →
        machine.CallsTo n program (plain s) image call.tx call.args a t →
        HasState t (UserCallsTo n p s image call a)
    to_meant None call a is = (s, is.1, (is.0, refl))
    to_meant (Some n) call a is = with_meant (n == length call.args) call a is

    named_meant : (number : Option ℕ) (args : List ℤ) (a : Answer) →
        machine.CallsNamed number program (plain s) image args a t →
        HasState t (UserCallsNamed number p s image args a)
    named_meant None args a is = (s, is.1, (is.0, refl))
    named_meant (Some tx) args a is =
        to_meant (source_parameters program tx) (record { tx = tx; args = args }) a is

    calls_meant : (st : UserStanding) (name : List ℕ) (args : List ℤ) (a : Answer) →
        machine.Calls (plain_standing st) program (plain s) image name args a t →
        HasState t (UserCalls st p s image name args a)
    calls_meant Ready name args a is = named_meant (commanded.call_number program name) args a is
    calls_meant Idle name args a is = (s, is.1, (is.0, refl))
    calls_meant (Owed call seal) name args a is = (s, is.1, (is.0, refl))
    calls_meant (Unusable kind) name args a is = (s, is.1, (is.0, refl))

    tells_meant : (a : Answer) → machine.Tells program (plain s) a t → HasState t (UserTells p s a)
    tells_meant answer.Silent is = absurd is
    tells_meant (answer.Done value unsigned logged) is = absurd is
    tells_meant (answer.Trap kind) is = absurd is
    tells_meant (answer.Aborted kind) is = absurd is
    tells_meant (answer.Stopped at) is = absurd is
    tells_meant answer.DeviceFault is = absurd is
    tells_meant answer.RecoveredNone is = absurd is
    tells_meant (answer.RecoveredRedone value unsigned logged) is = absurd is
    tells_meant (answer.RecoveredTrap kind) is = absurd is
    tells_meant (answer.RecoveredAborted kind) is = absurd is
    tells_meant (answer.Shown text) is = (s, is.1, (ap answer.Shown is.0, refl))
    tells_meant (answer.ShownDead trap text) is = absurd is
    tells_meant (answer.Last n value) is = absurd is
    tells_meant answer.NoMemory is = (stands_as Idle s, is, refl)
    tells_meant answer.RefusedDown is = absurd is
    tells_meant (answer.RefusedUnusable kind) is = absurd is
    tells_meant answer.RefusedUnknown is = absurd is
    tells_meant answer.RefusedArity is = absurd is
    tells_meant answer.RefusedNumbers is = absurd is
    tells_meant (answer.RefusedPick line) is = absurd is

    shows_meant : (st : UserStanding) (a : Answer) →
        machine.Shows (plain_standing st) program (plain s) a t → HasState t (UserShows st p s a)
    shows_meant Ready a is = tells_meant a is
    shows_meant Idle a is = (s, is.1, (is.0, refl))
    shows_meant (Owed call seal) a is = (s, is.1, (is.0, refl))
    shows_meant (Unusable kind) a is = (s, is.1, (is.0, refl))

    deads_meant : (st : UserStanding) (a : Answer) →
        machine.ShowsDead (plain_standing st) program (plain s) image a t →
        HasState t (UserShowsDead st p s image a)
    deads_meant Ready a is = shows_meant Ready a is
    deads_meant Idle a is = shows_meant Idle a is
    deads_meant (Owed call seal) a is = shows_meant (Owed call seal) a is
    deads_meant (Unusable kind) a is = (s, is.1, (is.0, refl))

    lasts_meant : (st : UserStanding) (a : Answer) →
        machine.Lasts (plain_standing st) (plain s) a t →
        HasState t (UserLasts st s a)
    lasts_meant Ready a is = (s, is.1, (is.0, refl))
    lasts_meant Idle a is = (s, is.1, (is.0, refl))
    lasts_meant (Owed call seal) a is = (s, is.1, (is.0, refl))
    lasts_meant (Unusable kind) a is = (s, is.1, (is.0, refl))

    -- nothing is owed
    rests_meant : (a : Answer) → machine.Rests program (plain (stands_as Idle s)) image a t →
        HasState t (UserRecovers p (stands_as Idle s) image a)
    rests_meant answer.Silent is = absurd is
    rests_meant (answer.Done value unsigned logged) is = absurd is
    rests_meant (answer.Trap kind) is = absurd is
    rests_meant (answer.Aborted kind) is = absurd is
    rests_meant (answer.Stopped at) is = (stands_as Idle s, is.1, (is.0, refl))
    rests_meant answer.DeviceFault is = (stands_as Idle s, is, refl)
    rests_meant answer.RecoveredNone is = (stands_as Ready s, is, (refl, refl))
    rests_meant (answer.RecoveredRedone value unsigned logged) is = absurd is
    rests_meant (answer.RecoveredTrap kind) is = absurd is
    rests_meant (answer.RecoveredAborted kind) is = absurd is
    rests_meant (answer.Shown text) is = absurd is
    rests_meant (answer.ShownDead trap text) is = absurd is
    rests_meant (answer.Last n value) is = absurd is
    rests_meant answer.NoMemory is = (stands_as Idle s, is, refl)
    rests_meant answer.RefusedDown is = absurd is
    rests_meant (answer.RefusedUnusable kind) is = absurd is
    rests_meant answer.RefusedUnknown is = absurd is
    rests_meant answer.RefusedArity is = absurd is
    rests_meant answer.RefusedNumbers is =
        (stands_as Idle s, is.1, (out_of program image is.0, refl))
    rests_meant (answer.RefusedPick line) is = absurd is

    -- a call is owed
    abbrev waiting : Pending → UserState
    waiting call = stands_as (Owed call phase.Sealed) s

    redoes_meant : (call : Pending) (a : Answer) →
        machine.RedoesBy (marked call) program call (plain (waiting call)) image a t →
        HasState t (UserRecovers p (waiting call) image a)
    redoes_meant call answer.Silent is = absurd is
    redoes_meant call (answer.Done value unsigned logged) is = absurd is
    redoes_meant call (answer.Trap kind) is = absurd is
    redoes_meant call (answer.Aborted kind) is = absurd is
    redoes_meant call (answer.Stopped at) is = (waiting call, is.1, (is.0, refl))
    redoes_meant call answer.DeviceFault is = (waiting call, is, refl)
    redoes_meant call answer.RecoveredNone is = absurd is
    redoes_meant call (answer.RecoveredRedone value unsigned logged) is =
        redone_meant (waiting call) t call value unsigned logged is
    redoes_meant call (answer.RecoveredTrap kind) is =
        retrap_meant (waiting call) t call false is.0 kind is.1 is.2
    redoes_meant call (answer.RecoveredAborted kind) is =
        retrap_meant (waiting call) t call true is.0 kind is.1 is.2
    redoes_meant call (answer.Shown text) is = absurd is
    redoes_meant call (answer.ShownDead trap text) is = absurd is
    redoes_meant call (answer.Last n value) is = absurd is
    redoes_meant call answer.NoMemory is = (waiting call, is, refl)
    redoes_meant call answer.RefusedDown is = absurd is
    redoes_meant call (answer.RefusedUnusable kind) is = absurd is
    redoes_meant call answer.RefusedUnknown is = absurd is
    redoes_meant call answer.RefusedArity is = absurd is
    redoes_meant call answer.RefusedNumbers is =
        (waiting call, is.1, (out_of program image is.0, refl))
    redoes_meant call (answer.RefusedPick line) is = absurd is

  module _ (s : UserState) (image : Words) (t found : SourceState) (a : Answer)
      (rec : machine.Recovers found.standing program found image a t) where
    abbrev Sees : UserState → Type 0
    Sees f = HasState t (UserRecovers p f image a)

    rests_from : (g : UserState) → found ≡ plain (stands_as Idle g) → Sees (stands_as Idle g)
    rests_from g e =
        rests_meant g image t a
        (subst (λ (f : SourceState). machine.Recovers f.standing program f image a t) e rec)

    -- a call that was finished before the cut
    retired_from : (m : Bool) (o : Outcome) →
        machine.ConcludesAs m o (session.Down None) (plain s) found → Sees (state_after Idle m o s)
    retired_from m (Done pool value) is = rests_from (state_after Idle m (Done pool value) s) is
    retired_from true (Trap kind) is = rests_from (state_after Idle true (Trap kind) s) is.1
    retired_from false (Trap kind) is = let clash : false ≡ true = is.0 in absurd cc

    owed_meant : (call : Pending) → machine.FindsOf (Some call) program (plain s) image found →
        Sees (found_by_seal (has_next_seal s image) (has_next_count s image) p s call)
    owed_meant call (inl is) =
        subst (λ (b : Bool). Sees (found_by_seal b (has_next_count s image) p s call))
        (sym (not_eq (image SEAL) (pos (suc s.done)) is.0)) (rests_from s is.1)
    owed_meant call (inr (inl is)) =
        let ends : machine.IsConcluded (marked call) program call (plain s) (session.Down None)
        found = is.2 in
        subst (λ (b : Bool). Sees (found_by_seal b (has_next_count s image) p s call))
        (sym ((Decides-int_eq (image SEAL) (pos (suc s.done))).1 is.0))
        (subst (λ (b : Bool). Sees (found_by_seal true b p s call))
        (sym ((Decides-int_eq (image DONE) (pos (suc s.done))).1 is.1))
        (subst Sees (finished_is Idle s call ends.0 ends.1 ends.2)
        (retired_from (marked call) ends.1 ends.3)))
    owed_meant call (inr (inr is)) =
        subst (λ (b : Bool). Sees (found_by_seal b (has_next_count s image) p s call))
        (sym ((Decides-int_eq (image SEAL) (pos (suc s.done))).1 is.0))
        (subst (λ (b : Bool). Sees (found_by_seal true b p s call))
        (sym (not_eq (image DONE) (pos (suc s.done)) (λ more.
        let same : s.done ≡ suc s.done = pos_inj s.done (suc s.done) (sym is.1 ∙ more) in
        absurd (omega (arith, same)))))
        (redoes_meant s image t call a
        (subst (λ (f : SourceState). machine.Recovers f.standing program f image a t) is.2 rec)))

    found_meant : (st : UserStanding) →
        machine.FindsOwed (plain_standing st) program (plain s) image found →
        Sees (found_as st p s image)
    found_meant Ready is = rests_from s is
    found_meant Idle is = rests_from s is
    found_meant (Owed call seal) is = owed_meant call is
    found_meant (Unusable kind) is = absurd is

  module _ (s : UserState) (image : Words) (t : SourceState) where
    trapped : (st : UserStanding) (kind : TrapKind) →
        machine.IsMarked (plain_standing st) program (plain s) kind → HasTrapped st p s kind
    trapped Ready kind is = absurd is
    trapped Idle kind is = absurd is
    trapped (Owed call seal) kind is = (
      rolls call.tx ∙ is.0,
      sym (comes s call is.1.0 (Trap kind) is.1.1).1,
    )
    trapped (Unusable trap) kind is = is

    abbrev Found : Answer → Type 0
    Found a = (image MARK ≡ pos 0) × ((found : SourceState)
        × machine.FindsOwed (plain_standing s.standing) program (plain s) image found
        × machine.Recovers found.standing program found image a t)

    recovered_meant : (a : Answer) → Found a → HasState t (λ (u : UserState).
        (image MARK ≡ pos 0) × UserRecovers p (found_as s.standing p s image) image a u)
    recovered_meant a is =
        let sees = found_meant s image t is.1.0 a is.1.2 s.standing is.1.1 in (
          sees.0,
          sees.1,
          (is.0, sees.2),
        )

    powers_meant : (a : Answer) → machine.Powers program (plain s) image a t →
        HasState t (UserPowers p s image a)
    powers_meant answer.Silent is =
        recovered_meant answer.Silent is
    powers_meant (answer.Done value unsigned logged) is =
        recovered_meant (answer.Done value unsigned logged) is
    powers_meant (answer.Trap kind) is =
        recovered_meant (answer.Trap kind) is
    powers_meant (answer.Aborted kind) is =
        recovered_meant (answer.Aborted kind) is
    powers_meant (answer.Stopped at) is =
        recovered_meant (answer.Stopped at) is
    powers_meant answer.DeviceFault is =
        recovered_meant answer.DeviceFault is
    powers_meant answer.RecoveredNone is =
        recovered_meant answer.RecoveredNone is
    powers_meant (answer.RecoveredRedone value unsigned logged) is =
        recovered_meant (answer.RecoveredRedone value unsigned logged) is
    powers_meant (answer.RecoveredTrap kind) is =
        recovered_meant (answer.RecoveredTrap kind) is
    powers_meant (answer.RecoveredAborted kind) is =
        recovered_meant (answer.RecoveredAborted kind) is
    powers_meant (answer.Shown text) is =
        recovered_meant (answer.Shown text) is
    powers_meant (answer.ShownDead trap text) is =
        recovered_meant (answer.ShownDead trap text) is
    powers_meant (answer.Last n value) is =
        recovered_meant (answer.Last n value) is
    powers_meant answer.NoMemory is =
        recovered_meant answer.NoMemory is
    powers_meant answer.RefusedDown is =
        recovered_meant answer.RefusedDown is
    powers_meant (answer.RefusedUnusable kind) is =
        (stands_as (Unusable kind) s, is.2, (is.0, trapped s.standing kind is.1, refl))
    powers_meant answer.RefusedUnknown is =
        recovered_meant answer.RefusedUnknown is
    powers_meant answer.RefusedArity is =
        recovered_meant answer.RefusedArity is
    powers_meant answer.RefusedNumbers is =
        recovered_meant answer.RefusedNumbers is
    powers_meant (answer.RefusedPick line) is = (s, is, refl)

pub meant_law : MeantLaw
meant_law program logs s t image (command.Call name args) a count is =
    calls_meant program logs count s image t s.standing name args a is
meant_law program logs s t image (command.Stop left) a count is = (s, is.1, (is.0, refl))
meant_law program logs s t image (command.Fault at) a count is = (s, is.1, (is.0, refl))
meant_law program logs s t image (command.Power choice) a count is =
    powers_meant program logs count s image t a is
meant_law program logs s t image command.Show a count is =
    shows_meant program logs count s image t s.standing a is
meant_law program logs s t image command.ShowDead a count is =
    deads_meant program logs count s image t s.standing a is
meant_law program logs s t image command.Last a count is =
    lasts_meant program logs count s image t s.standing a is
