-- Where no cut and no fault is armed, no command is cut off, and calls and recoveries end.
use Rattle.std.proofs.Common.{◌≡◌, inl, inr, ℕ, ◌==◌, Bool, true, false, List, [], ◌∷◌, length}
use Rattle.std.proofs.Common.{Option, Some, None, ℤ, refl, sym, ap, ◌∙◌, subst}
use Rattle.cache_model.specs.Cache.{Words}
use Rattle.cache_model.specs.Event.{CacheEvent}
use Rattle.cache_model.specs.declared.choice.Choice.{Choice}
use Rattle.pmem.specs.Device.{Device, IsDown, MayFail, spent, less_one, armed_less, powered}
use Rattle.pmem.specs.Played.{PlaysAll, PlaysPart}
use Rattle.pmem.specs.declared.answer.Refusal.TheVariants as refusal
use Rattle.c_meaning.specs.Transaction.{Outcome, Done, Trap}
use Rattle.cnvm_script.specs.declared.command.Command.{Command}
use Rattle.cnvm_script.specs.declared.command.Command.TheVariants as command
use Rattle.cnvm_session.specs.declared.answer.Answer.{Answer}
use Rattle.cnvm_session.specs.declared.answer.Answer.TheVariants as answer
use Rattle.session_law.specs.State.{Pending}
use Rattle.session_law.specs.Ran.{found_by}
use Rattle.user_law.specs.Source.{Source, number_named, arity_of, rolls_back, looks, comes_to}
use Rattle.user_law.specs.Source.{gives_unsigned}
use Rattle.user_law.specs.State.{UserStanding, Ready, Idle, Owed, Unusable, UserState, stands_as}
use Rattle.user_law.specs.State.{state_after}
use Rattle.user_law.specs.Answers.{call_told, recovery_told, call_told_by, recovery_told_by}
use Rattle.user_law.specs.Answers.{finished, UserRuns, UserLooks, UserRunsAs, UserCallsWith}
use Rattle.user_law.specs.Answers.{UserCallsTo, UserCallsNamed, UserCalls, found_as, RecoveryEnds}
use Rattle.user_law.specs.Answers.{UserPowers, StaysWith}
use Rattle.user_law.specs.Played.{prepared, PlaysAs}
use Rattle.user_law.specs.Ran.{UserMoment}
use Rattle.session_law.specs.Ends.{IsInterrupted, ArmsNothing}
use Rattle.user_law.specs.Ends.{IsQuiet, UserUninterruptedLaw, QuietScriptLaw, UserEndsAs}
use Rattle.user_law.specs.Ends.{UserCallEndsLaw, UserRecoveryEndsLaw}

-- an event that was done arms nothing
spent_quiet : (d : Device) (e : CacheEvent) → IsQuiet d → IsQuiet (spent d e)
spent_quiet d e quiet = (quiet.0, (ap less_one quiet.1.0, ap armed_less quiet.1.1))

none_some : (o : Option ℕ) → o ≡ None → o ≡ Some 0 → ⊥
none_some o none some = let clash = sym none ∙ some in absurd cc

not_down : (d : Device) → IsQuiet d → IsDown d → ⊥
not_down d quiet (inl off) = let clash : true ≡ false = sym quiet.0 ∙ off in absurd cc
not_down d quiet (inr none) = none_some d.left quiet.1.0 none

not_failing : (d : Device) → IsQuiet d → MayFail d.armed → ⊥
not_failing d quiet may = none_some None refl (subst MayFail quiet.1.1 may)

no_cut : (es : List CacheEvent) (d b : Device) → IsQuiet d → PlaysPart refusal.Off d es b → ⊥
no_cut [] d b quiet part = part
no_cut (e ∷ es) d b quiet (inl refused) = not_down d quiet refused.1.0
no_cut (e ∷ es) d b quiet (inr rest) = no_cut es (spent d e) b (spent_quiet d e quiet) rest.1

no_fault : (es : List CacheEvent) (d b : Device) → IsQuiet d
    → PlaysPart refusal.Failed d es b → ⊥
no_fault [] d b quiet part = part
no_fault (e ∷ es) d b quiet (inl refused) = not_failing d quiet refused.1.1
no_fault (e ∷ es) d b quiet (inr rest) = no_fault es (spent d e) b (spent_quiet d e quiet) rest.1

all_quiet : (es : List CacheEvent) (d b : Device) → IsQuiet d → PlaysAll d es b → IsQuiet b
all_quiet [] d b quiet is = subst IsQuiet (sym is) quiet
all_quiet (e ∷ es) d b quiet is = all_quiet es (spent d e) b (spent_quiet d e quiet) is.1

part_quiet : (es : List CacheEvent) (d b : Device) → IsQuiet d
    → PlaysPart refusal.NoMemory d es b → IsQuiet b
part_quiet [] d b quiet part = absurd part
part_quiet (e ∷ es) d b quiet (inl refused) = subst IsQuiet (sym refused.1) quiet
part_quiet (e ∷ es) d b quiet (inr rest) =
    part_quiet es (spent d e) b (spent_quiet d e quiet) rest.1

module _ (d b : Device) (es : List CacheEvent) (quiet : IsQuiet d) where
  same_quiet : b ≡ d → IsQuiet b
  same_quiet is = subst IsQuiet (sym is) quiet

  played_quiet : (a : Answer) → PlaysAs a d es b → (IsInterrupted a → ⊥) × IsQuiet b
  played_quiet answer.Silent is = (λ i. i, same_quiet is)
  played_quiet (answer.Done value unsigned logged) is = (λ i. i, all_quiet es d b quiet is)
  played_quiet (answer.Trap kind) is = (λ i. i, all_quiet es d b quiet is)
  played_quiet (answer.Aborted kind) is = (λ i. i, all_quiet es d b quiet is)
  played_quiet (answer.Stopped at) is = absurd (no_cut es d b quiet is)
  played_quiet answer.DeviceFault is = absurd (no_fault es d b quiet is)
  played_quiet answer.RecoveredNone is = (λ i. i, all_quiet es d b quiet is)
  played_quiet (answer.RecoveredRedone value unsigned logged) is =
      (λ i. i, all_quiet es d b quiet is)
  played_quiet (answer.RecoveredTrap kind) is = (λ i. i, all_quiet es d b quiet is)
  played_quiet (answer.RecoveredAborted kind) is = (λ i. i, all_quiet es d b quiet is)
  played_quiet (answer.Shown text) is = (λ i. i, same_quiet is)
  played_quiet (answer.ShownDead trap text) is = (λ i. i, same_quiet is)
  played_quiet (answer.Last n value) is = (λ i. i, same_quiet is)
  played_quiet answer.NoMemory (inl is) = (λ i. i, same_quiet is)
  played_quiet answer.NoMemory (inr is) = (λ i. i, part_quiet es d b quiet is)
  played_quiet answer.RefusedDown is = (λ i. i, same_quiet is)
  played_quiet (answer.RefusedUnusable kind) is = (λ i. i, same_quiet is)
  played_quiet answer.RefusedUnknown is = (λ i. i, same_quiet is)
  played_quiet answer.RefusedArity is = (λ i. i, same_quiet is)
  played_quiet answer.RefusedNumbers is = (λ i. i, same_quiet is)
  played_quiet (answer.RefusedPick line) is = (λ i. i, same_quiet is)

pub uninterrupted_law : UserUninterruptedLaw
uninterrupted_law p c x y a quiet step =
    played_quiet (prepared c a x.device) y.device step.events quiet a step.played

powered_quiet : (choice : Choice) (d : Device) → d.left ≡ None → d.armed ≡ Some None
    → IsQuiet (powered choice d)
powered_quiet choice d left armed = (refl, (left, armed))

module _ (choice : Choice) (d : Device) (quiet : IsQuiet d) where
  cut_quiet : IsQuiet (powered choice d)
  cut_quiet = powered_quiet choice d quiet.1.0 quiet.1.1

  power_quiet : (a : Answer) → IsQuiet (prepared (command.Power choice) a d)
  power_quiet answer.Silent = cut_quiet
  power_quiet (answer.Done value unsigned logged) = cut_quiet
  power_quiet (answer.Trap kind) = cut_quiet
  power_quiet (answer.Aborted kind) = cut_quiet
  power_quiet (answer.Stopped at) = cut_quiet
  power_quiet answer.DeviceFault = cut_quiet
  power_quiet answer.RecoveredNone = cut_quiet
  power_quiet (answer.RecoveredRedone value unsigned logged) = cut_quiet
  power_quiet (answer.RecoveredTrap kind) = cut_quiet
  power_quiet (answer.RecoveredAborted kind) = cut_quiet
  power_quiet (answer.Shown text) = cut_quiet
  power_quiet (answer.ShownDead trap text) = cut_quiet
  power_quiet (answer.Last n value) = cut_quiet
  power_quiet answer.NoMemory = cut_quiet
  power_quiet answer.RefusedDown = cut_quiet
  power_quiet (answer.RefusedUnusable kind) = cut_quiet
  power_quiet answer.RefusedUnknown = cut_quiet
  power_quiet answer.RefusedArity = cut_quiet
  power_quiet answer.RefusedNumbers = cut_quiet
  power_quiet (answer.RefusedPick line) = quiet

command_quiet : (c : Command) (a : Answer) (d : Device) → ArmsNothing c → IsQuiet d
    → IsQuiet (prepared c a d)
command_quiet (command.Call name args) a d arms quiet = quiet
command_quiet (command.Stop left) a d arms quiet = absurd arms
command_quiet (command.Fault at) a d arms quiet = absurd arms
command_quiet (command.Power choice) a d arms quiet = power_quiet choice d quiet a
command_quiet command.Show a d arms quiet = quiet
command_quiet command.ShowDead a d arms quiet = quiet
command_quiet command.Last a d arms quiet = quiet

pub quiet_script_law : QuietScriptLaw
quiet_script_law p [] [] x y quiet arms ran =
    (tt, subst (λ (z : UserMoment). IsQuiet z.device) (sym ran) quiet)
quiet_script_law p [] (a ∷ answers) x y quiet arms ran = absurd ran
quiet_script_law p (c ∷ commands) [] x y quiet arms ran = absurd ran
quiet_script_law p (c ∷ commands) (a ∷ answers) x y quiet arms ran =
    let first = uninterrupted_law p c x ran.0 a (command_quiet c a x.device arms.0 quiet) ran.1 in
    let rest = quiet_script_law p commands answers ran.0 y first.1 arms.1 ran.2 in
    ((first.0, rest.0), rest.1)

-- how each outcome is answered

call_outcome : (rolls unsigned : Bool) (logged : ℕ) (o : Outcome) (s : UserState) →
    UserEndsAs (call_told rolls unsigned logged o) (state_after Ready rolls o s)
call_outcome rolls unsigned logged (Done pool value) s = refl
call_outcome true unsigned logged (Trap kind) s = refl
call_outcome false unsigned logged (Trap kind) s = refl

recovery_outcome : (rolls unsigned : Bool) (logged : ℕ) (o : Outcome) (s : UserState) →
    UserEndsAs (recovery_told rolls unsigned logged o) (state_after Ready rolls o s)
recovery_outcome rolls unsigned logged (Done pool value) s = refl
recovery_outcome true unsigned logged (Trap kind) s = refl
recovery_outcome false unsigned logged (Trap kind) s = refl

-- an answer and a state that are these
ends_as : (a b : Answer) (t u : UserState) → a ≡ b → t ≡ u → UserEndsAs b u → UserEndsAs a t
ends_as a b t u answered comes is =
    subst (λ (c : Answer). UserEndsAs c t) (sym answered)
    (subst (λ (v : UserState). UserEndsAs b v) (sym comes) is)

module _ (p : Source) (s t : UserState) (a : Answer) where
  recovery_ends : (st : UserStanding) → RecoveryEnds st p s a t → UserEndsAs a t
  recovery_ends Ready is = absurd is
  recovery_ends Idle is =
      ends_as a answer.RecoveredNone t (stands_as Ready s) is.0 is.1 refl
  recovery_ends (Owed call seal) is =
      ends_as a (recovery_told_by p s call) t (finished Ready p s call) is.0 is.1
      (recovery_outcome (rolls_back p call.tx) (gives_unsigned p call.tx) (p.logged s.pool call)
      (comes_to p s.pool call) s)
  recovery_ends (Unusable kind) is = absurd is

module _ (p : Source) (choice : Choice) (x y : UserMoment) (left : x.device.left ≡ None)
    (armed : x.device.armed ≡ Some None) where
  abbrev image : Words
  image = found_by (command.Power choice) x.device

  abbrev found : UserState
  found = found_as x.state.standing p x.state image

  abbrev cut : IsQuiet (powered choice x.device)
  cut = powered_quiet choice x.device left armed

  ended : (a : Answer) → RecoveryEnds found.standing p found a y.state → UserEndsAs a y.state
  ended a is = recovery_ends p found y.state a found.standing is

  power_ends : (a : Answer) (es : List CacheEvent)
      → PlaysAs a (prepared (command.Power choice) a x.device) es y.device
      → UserPowers p x.state image a y.state → UserEndsAs a y.state
  power_ends answer.Silent es played is = ended answer.Silent is.1
  power_ends (answer.Done value unsigned logged) es played is =
      ended (answer.Done value unsigned logged) is.1
  power_ends (answer.Trap kind) es played is = ended (answer.Trap kind) is.1
  power_ends (answer.Aborted kind) es played is = ended (answer.Aborted kind) is.1
  power_ends (answer.Stopped at) es played is =
      absurd (no_cut es (powered choice x.device) y.device cut played)
  power_ends answer.DeviceFault es played is =
      absurd (no_fault es (powered choice x.device) y.device cut played)
  power_ends answer.RecoveredNone es played is = ended answer.RecoveredNone is.1
  power_ends (answer.RecoveredRedone value unsigned logged) es played is =
      ended (answer.RecoveredRedone value unsigned logged) is.1
  power_ends (answer.RecoveredTrap kind) es played is = ended (answer.RecoveredTrap kind) is.1
  power_ends (answer.RecoveredAborted kind) es played is = ended (answer.RecoveredAborted kind) is.1
  power_ends (answer.Shown text) es played is = ended (answer.Shown text) is.1
  power_ends (answer.ShownDead trap text) es played is = ended (answer.ShownDead trap text) is.1
  power_ends (answer.Last n value) es played is = ended (answer.Last n value) is.1
  power_ends answer.NoMemory es played is = tt
  power_ends answer.RefusedDown es played is = ended answer.RefusedDown is.1
  power_ends (answer.RefusedUnusable kind) es played is =
      ap (λ (u : UserState). u.standing) is.2
  power_ends answer.RefusedUnknown es played is = ended answer.RefusedUnknown is.1
  power_ends answer.RefusedArity es played is = ended answer.RefusedArity is.1
  power_ends answer.RefusedNumbers es played is = tt
  power_ends (answer.RefusedPick line) es played is = tt

pub recovery_ends_law : UserRecoveryEndsLaw
recovery_ends_law p choice x y a safe step =
    power_ends p choice x y safe.0 safe.1 a step.events step.played step.meant

-- a call that is run
module _ (p : Source) (s t : UserState) (image : Words) (d b : Device) (es : List CacheEvent)
    (quiet : IsQuiet d) where
  run_ended : (call : Pending) (a : Answer)
      → (a ≡ call_told_by p s call) × (t ≡ finished Ready p s call) → UserEndsAs a t
  run_ended call a is =
      ends_as a (call_told_by p s call) t (finished Ready p s call) is.0 is.1
      (call_outcome (rolls_back p call.tx) (gives_unsigned p call.tx) (p.logged s.pool call)
      (comes_to p s.pool call) s)

  run_ends : (call : Pending) (a : Answer) → PlaysAs a d es b → UserRuns p s image call a t
      → UserEndsAs a t
  run_ends call answer.Silent played is = run_ended call answer.Silent is
  run_ends call (answer.Done value unsigned logged) played is =
      run_ended call (answer.Done value unsigned logged) is
  run_ends call (answer.Trap kind) played is = run_ended call (answer.Trap kind) is
  run_ends call (answer.Aborted kind) played is = run_ended call (answer.Aborted kind) is
  run_ends call (answer.Stopped at) played is = absurd (no_cut es d b quiet played)
  run_ends call answer.DeviceFault played is = absurd (no_fault es d b quiet played)
  run_ends call answer.RecoveredNone played is = run_ended call answer.RecoveredNone is
  run_ends call (answer.RecoveredRedone value unsigned logged) played is =
      run_ended call (answer.RecoveredRedone value unsigned logged) is
  run_ends call (answer.RecoveredTrap kind) played is =
      run_ended call (answer.RecoveredTrap kind) is
  run_ends call (answer.RecoveredAborted kind) played is =
      run_ended call (answer.RecoveredAborted kind) is
  run_ends call (answer.Shown text) played is = run_ended call (answer.Shown text) is
  run_ends call (answer.ShownDead trap text) played is =
      run_ended call (answer.ShownDead trap text) is
  run_ends call (answer.Last n value) played is = run_ended call (answer.Last n value) is
  run_ends call answer.NoMemory played is = tt
  run_ends call answer.RefusedDown played is = run_ended call answer.RefusedDown is
  run_ends call (answer.RefusedUnusable kind) played is =
      run_ended call (answer.RefusedUnusable kind) is
  run_ends call answer.RefusedUnknown played is = run_ended call answer.RefusedUnknown is
  run_ends call answer.RefusedArity played is = run_ended call answer.RefusedArity is
  run_ends call answer.RefusedNumbers played is = tt
  run_ends call (answer.RefusedPick line) played is = run_ended call (answer.RefusedPick line) is

  look_ends : (call : Pending) (a : Answer) → s.standing ≡ Ready → UserLooks p s call a t
      → UserEndsAs a t
  look_ends call (answer.Done value unsigned logged) ready is =
      ap (λ (u : UserState). u.standing) is.2 ∙ ready
  look_ends call (answer.Aborted kind) ready is =
      ap (λ (u : UserState). u.standing) is.1 ∙ ready
  look_ends call answer.NoMemory ready is = tt
  look_ends call _ ready is = absurd is

  module _ (a : Answer) (played : PlaysAs a d es b) (ready : s.standing ≡ Ready) where
    -- a refusal that changes nothing
    stays : (why : Answer) → ((u : UserState) → u.standing ≡ Ready → UserEndsAs why u)
        → StaysWith why s a t → UserEndsAs a t
    stays why leaves is = ends_as a why t s is.0 is.1 (leaves s ready)

    as_ends : (looks : Bool) (call : Pending) → UserRunsAs looks p s image call a t
        → UserEndsAs a t
    as_ends true call is = look_ends call a ready is
    as_ends false call is = run_ends call a played is

    with_ends : (fits : Bool) (call : Pending) → UserCallsWith fits p s image call a t
        → UserEndsAs a t
    with_ends true call is = as_ends (looks p call.tx) call is
    with_ends false call is = stays answer.RefusedArity (λ u is. is) is

    to_ends : (arity : Option ℕ) (call : Pending) → UserCallsTo arity p s image call a t
        → UserEndsAs a t
    to_ends None call is = stays answer.RefusedUnknown (λ u is. is) is
    to_ends (Some count) call is = with_ends (count == length call.args) call is

    named_ends : (number : Option ℕ) (args : List ℤ) → UserCallsNamed number p s image args a t
        → UserEndsAs a t
    named_ends None args is = stays answer.RefusedUnknown (λ u is. is) is
    named_ends (Some tx) args is =
        to_ends (arity_of p tx) (record { tx = tx; args = args }) is

pub call_ends_law : UserCallEndsLaw
call_ends_law p name args x y a quiet ready step =
    let meant : UserCalls Ready p x.state (found_by (command.Call name args) x.device) name args a
    y.state =
    subst (λ (st : UserStanding). UserCalls st p x.state
    (found_by (command.Call name args) x.device) name args a y.state) ready step.meant in
    named_ends p x.state y.state (found_by (command.Call name args) x.device) x.device y.device
    step.events quiet a step.played ready (number_named p name) args meant
