-- Each command has an end.
use Rattle.std.proofs.Common.{◌≡◌, ℕ, ◌==◌, Bool, true, false, List, length, Option, Some, None}
use Rattle.std.proofs.Common.{ℤ, pos, inl, refl, sym, ap, ◌∙◌, subst}
use Rattle.std.specs.Option.{option_map_or}
use Rattle.cache_model.specs.Cache.{Words}
use Rattle.pool_layout.specs.declared.places.TheConstants.{MARK}
use Rattle.pool_map.specs.PoolText.{pool_text}
use Rattle.pool_map.specs.PoolMap.{PoolMap}
use Rattle.c_types.specs.Shapes.{shapes_in}
use Rattle.rules_law.specs.typed.Programs.{IsWellTyped}
use Rattle.c_meaning.specs.Transaction.{Outcome, Done, Trap}
use Rattle.cnvm_script.specs.declared.command.Command.TheVariants as command
use Rattle.cnvm_session.specs.declared.answer.Answer.{Answer}
use Rattle.cnvm_session.specs.declared.answer.Answer.TheVariants as answer
use Rattle.session_law.specs.State.{Pending}
use Rattle.user_law.specs.Source.{Source, number_named, arity_of, rolls_back, looks, means}
use Rattle.user_law.specs.Source.{comes_to, gives_unsigned, pool_of_image}
use Rattle.user_law.specs.State.{UserStanding, Ready, Idle, Owed, Unusable, UserState, stands_as}
use Rattle.user_law.specs.Answers.{call_told, recovery_told, finished, UserRuns, UserLooks}
use Rattle.user_law.specs.Answers.{UserRunsAs, UserCallsWith, UserCallsTo, UserCallsNamed}
use Rattle.user_law.specs.Answers.{UserCalls}
use Rattle.user_law.specs.Answers.{UserShows, UserShowsDead, UserLasts, found_as, RecoveryEnds}
use Rattle.user_law.specs.Answers.{UserPowers}
use Rattle.user_law.specs.History.{pool_after}
use Rattle.user_law.specs.Played.{only_looks}
use Rattle.user_law.specs.Determined.{CameToEnd, CanRecover, SomeEndLaw}
use Rattle.user_law.proofs.Leaving.{leaves}

-- a relation that has an end
abbrev HasEnd : (Answer → UserState → Type 0) → Type 0
HasEnd R = (a : Answer) × (t : UserState) × CameToEnd a × R a t

module _ (p : Source) (s : UserState) (image : Words) where
  module _ (call : Pending) where
    abbrev told_of : (rolls : Bool) → Outcome → Answer
    told_of rolls o = call_told rolls (gives_unsigned p call.tx) (p.logged s.pool call) o

    run_of : (rolls : Bool) (o : Outcome) → rolls_back p call.tx ≡ rolls
        → comes_to p s.pool call ≡ o → HasEnd (UserRuns p s image call)
    run_of rolls (Done pool value) marked is = (
      answer.Done value (gives_unsigned p call.tx) (p.logged s.pool call),
      finished Ready p s call,
      tt,
      (
        sym (ap (told_of (rolls_back p call.tx)) is),
        refl,
      ),
    )
    run_of true (Trap kind) marked is = (
      answer.Aborted kind,
      finished Ready p s call,
      tt,
      (
        sym (ap (told_of (rolls_back p call.tx)) is
            ∙ ap (λ (b : Bool). told_of b (Trap kind)) marked),
        refl,
      ),
    )
    run_of false (Trap kind) marked is = (
      answer.Trap kind,
      finished Ready p s call,
      tt,
      (
        sym (ap (told_of (rolls_back p call.tx)) is
            ∙ ap (λ (b : Bool). told_of b (Trap kind)) marked),
        refl,
      ),
    )

    look_of : (o : Outcome) → means p s.pool call ≡ o → pool_after o s.pool ≡ s.pool
        → HasEnd (UserLooks p s call)
    look_of (Done pool value) is stays = (
      answer.Done value (gives_unsigned p call.tx) 0,
      s,
      tt,
      (is ∙ ap (λ (w : PoolMap). Done w value) stays, refl, refl, refl),
    )
    look_of (Trap kind) is stays = (answer.Aborted kind, s, tt, (is, refl))

    some_run : (b : Bool) → looks p call.tx ≡ b → (b ≡ true → IsWellTyped p.tables)
        → HasEnd (UserRunsAs b p s image call)
    some_run true only typed =
        look_of (means p s.pool call) refl (leaves p s.pool call (typed refl) only)
    some_run false only typed = run_of (rolls_back p call.tx) (comes_to p s.pool call) refl refl

    module _ (typed : looks p call.tx ≡ true → IsWellTyped p.tables) where
      some_with : (fits : Bool) → HasEnd (UserCallsWith fits p s image call)
      some_with true = some_run (looks p call.tx) refl typed
      some_with false = (answer.RefusedArity, s, tt, (refl, refl))

      some_to : (arity : Option ℕ) → HasEnd (UserCallsTo arity p s image call)
      some_to None = (answer.RefusedUnknown, s, tt, (refl, refl))
      some_to (Some count) = some_with (count == length call.args)

  some_named : (number : Option ℕ) (args : List ℤ)
      → (option_map_or (looks p) number false ≡ true → IsWellTyped p.tables)
      → HasEnd (UserCallsNamed number p s image args)
  some_named None args typed = (answer.RefusedUnknown, s, tt, (refl, refl))
  some_named (Some tx) args typed =
      some_to (record { tx = tx; args = args }) typed (arity_of p tx)

  some_call : (st : UserStanding) (name : List ℕ) (args : List ℤ)
      → (only_looks p (command.Call name args) ≡ true → IsWellTyped p.tables)
      → HasEnd (UserCalls st p s image name args)
  some_call Ready name args typed = some_named (number_named p name) args typed
  some_call Idle name args typed = (answer.RefusedDown, s, tt, (refl, refl))
  some_call (Owed call seal) name args typed = (answer.RefusedDown, s, tt, (refl, refl))
  some_call (Unusable kind) name args typed = (answer.RefusedUnusable kind, s, tt, (refl, refl))

  some_show : (st : UserStanding) → HasEnd (UserShows st p s)
  some_show Ready = (
    answer.Shown (pool_text (shapes_in p.tables) s.pool),
    s,
    tt,
    (refl, refl),
  )
  some_show Idle = (answer.RefusedDown, s, tt, (refl, refl))
  some_show (Owed call seal) = (answer.RefusedDown, s, tt, (refl, refl))
  some_show (Unusable kind) = (answer.RefusedUnusable kind, s, tt, (refl, refl))

  some_dead : (st : UserStanding) → HasEnd (UserShowsDead st p s image)
  some_dead Ready = some_show Ready
  some_dead Idle = some_show Idle
  some_dead (Owed call seal) = some_show (Owed call seal)
  some_dead (Unusable kind) = (
    answer.ShownDead kind (pool_text (shapes_in p.tables) (pool_of_image p image)),
    s,
    tt,
    (inl refl, refl),
  )

  some_last : (st : UserStanding) → HasEnd (UserLasts st s)
  some_last Ready = (answer.Last (pos s.done) s.last, s, tt, (refl, refl))
  some_last Idle = (answer.RefusedDown, s, tt, (refl, refl))
  some_last (Owed call seal) = (answer.RefusedDown, s, tt, (refl, refl))
  some_last (Unusable kind) = (answer.RefusedUnusable kind, s, tt, (refl, refl))

  -- a recovery from what is found

  abbrev found : UserState
  found = found_as s.standing p s image

  module _ (mark : image MARK ≡ pos 0) where
    -- where it stands so, this answer is one of the power cut
    told_as : (st : UserStanding) (a : Answer) (t : UserState) → found.standing ≡ st
        → RecoveryEnds st p found a t
        → (image MARK ≡ pos 0) × RecoveryEnds found.standing p found a t
    told_as st a t stands is =
        (mark, subst (λ (now : UserStanding). RecoveryEnds now p found a t) (sym stands) is)

    module _ (call : Pending) where
      abbrev told : Outcome → Answer
      told o =
          recovery_told (rolls_back p call.tx) (gives_unsigned p call.tx) (p.logged found.pool call)
          o

      abbrev its_value : ℤ → Answer
      its_value value =
          answer.RecoveredRedone value (gives_unsigned p call.tx) (p.logged found.pool call)

      marked_told : (rolls : Bool) (o : Outcome) → rolls_back p call.tx ≡ rolls
          → comes_to p found.pool call ≡ o
          → recovery_told rolls (gives_unsigned p call.tx) (p.logged found.pool call) o
          ≡ told (comes_to p found.pool call)
      marked_told rolls o marked is =
          sym (ap told is
          ∙ ap (λ (b : Bool).
          recovery_told b (gives_unsigned p call.tx) (p.logged found.pool call) o) marked)

      redo_of : (st : UserStanding) (rolls : Bool) (o : Outcome) → found.standing ≡ st
          → ((a : Answer) → a ≡ told (comes_to p found.pool call)
          → RecoveryEnds st p found a (finished Ready p found call))
          → rolls_back p call.tx ≡ rolls → comes_to p found.pool call ≡ o
          → HasEnd (UserPowers p s image)
      redo_of st rolls (Done pool value) stands ends marked is = (
        its_value value,
        finished Ready p found call,
        tt,
        told_as st (its_value value) (finished Ready p found call) stands
            (ends (its_value value)
            (marked_told rolls (Done pool value) marked is)),
      )
      redo_of st true (Trap kind) stands ends marked is = (
        answer.RecoveredAborted kind,
        finished Ready p found call,
        tt,
        told_as st (answer.RecoveredAborted kind) (finished Ready p found call) stands
            (ends (answer.RecoveredAborted kind) (marked_told true (Trap kind) marked is)),
      )
      redo_of st false (Trap kind) stands ends marked is = (
        answer.RecoveredTrap kind,
        finished Ready p found call,
        tt,
        told_as st (answer.RecoveredTrap kind) (finished Ready p found call) stands
            (ends (answer.RecoveredTrap kind) (marked_told false (Trap kind) marked is)),
      )

    some_power : (st : UserStanding) → found.standing ≡ st → CanRecover st
        → HasEnd (UserPowers p s image)
    some_power Ready stands can = absurd can
    some_power Idle stands can = (
      answer.RecoveredNone,
      stands_as Ready found,
      tt,
      told_as Idle answer.RecoveredNone (stands_as Ready found) stands (refl, refl),
    )
    some_power (Owed call seal) stands can =
        redo_of call (Owed call seal) (rolls_back p call.tx) (comes_to p found.pool call) stands
        (λ a is. (is, refl)) refl refl
    some_power (Unusable kind) stands can = absurd can

pub some_end_law : SomeEndLaw
some_end_law p s image (command.Call name args) finds typed =
    some_call p s image s.standing name args typed
some_end_law p s image (command.Stop left) finds typed = (answer.Silent, s, tt, (refl, refl))
some_end_law p s image (command.Fault at) finds typed = (answer.Silent, s, tt, (refl, refl))
some_end_law p s image (command.Power choice) finds typed =
    some_power p s image finds.0 (found_as s.standing p s image).standing refl finds.1
some_end_law p s image command.Show finds typed = some_show p s image s.standing
some_end_law p s image command.ShowDead finds typed =
    some_dead p s image s.standing
some_end_law p s image command.Last finds typed = some_last p s image s.standing
