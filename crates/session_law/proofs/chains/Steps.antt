-- How many steps a recovery takes if it runs an owed transaction to its end.
use Rattle.std.proofs.Common.{◌≡◌, inl, inr, ℕ, suc, ◌+◌, Bool, true, false, List, Option}
use Rattle.std.proofs.Common.{Some, None, ap, refl, subst, arith}
use Rattle.cache_model.specs.Cache.{Words, view}
use Rattle.cache_model.specs.Collapse.{bad}
use Rattle.cache_model.specs.declared.choice.Choice.{Choice}
use Rattle.pmem.specs.Device.{Device, memory_of, powered}
use Rattle.pool_layout.specs.declared.places.TheConstants.{MARK}
use Rattle.pool_layout.specs.Good.{Pool, Good}
use Rattle.pool_map.specs.declared.trap.TrapKind.{TrapKind}
use Rattle.pool_map.specs.Trap.{trap_number}
use Rattle.args_log.specs.Pending.{tx_number}
use Rattle.clobber_log.specs.Logs.{count_in}
use Rattle.pm_machine.specs.declared.effect.Effect.{Effect}
use Rattle.pm_machine.specs.declared.effect.End.{End}
use Rattle.pm_machine.specs.declared.effect.End.TheVariants.{Halted, Trapped}
use Rattle.pm_machine.specs.declared.records.Policy.{Policy}
use Rattle.pm_machine.specs.declared.records.Policy.TheVariants.{EndPool}
use Rattle.pm_machine.specs.Effects.{heap_end}
use Rattle.crash_law.specs.Pools.{Call}
use Rattle.crash_law.specs.Law.{IsCut, IsEnd}
use Rattle.run_law.specs.Seen.{result_of, E, W}
use Rattle.recovery.specs.Recovered.{Cleaned, IsRecovered, numbers_out, tx_in}
use Rattle.recovery.specs.declared.answer.RecoverAnswer.{RecoverAnswer}
use Rattle.recovery.specs.declared.answer.RecoverAnswer.TheVariants as recovered
use Rattle.recovery.specs.Due.{due_clean}
use Rattle.cut_law.specs.Law.{call_of, pool_with}
use Rattle.cut_law.specs.Steps.{run_steps}
use Rattle.cnvm_session.specs.declared.mode.Mode.{Mode}
use Rattle.cnvm_session.specs.declared.answer.Answer.{Answer}
use Rattle.cnvm_session.specs.declared.answer.Answer.TheVariants as answer
use Rattle.cnvm_session.specs.declared.program.Program.{Program}
use Rattle.cnvm_session.specs.Marks.{rolls_back_of, policy_of, owes_marked}
use Rattle.cnvm_session.specs.Marks.{owes_unsigned}
use Rattle.cnvm_session.specs.Outcomes.{answer_of_recovery, RecoversBy}
use Rattle.cnvm_session.specs.Outcomes as outcomes
use Rattle.cnvm_session.specs.Commands as commanded
use Rattle.cnvm_session.specs.Commands.{fallen}
use Rattle.cnvm_session.specs.Pool.{sizes_of}
use Rattle.session_law.specs.Agrees.{Agrees}
use Rattle.session_law.specs.State.{Pending, SourceState}
use Rattle.session_law.specs.Holds.{OwesBy}
use Rattle.session_law.specs.Law.{IsRedone, RecoveryStepsLaw}
use Rattle.session_law.proofs.images.Ones.{left_rest, at_left}
use Rattle.session_law.proofs.images.Reading.{is_marked, is_unsealed, is_owed}
use Rattle.session_law.proofs.answers.Recoveries.{marked_recovers, redo_counts}
use Rattle.session_law.proofs.answers.Powers.{not_owing, owing_as}

-- a recovery of a pool where nothing is owed runs no transaction
module _ (program : Program) (e b : Device) (u : Bool) (r : RecoverAnswer) (k k1 : ℕ)
    (redone : IsRedone (answer_of_recovery u r)) where
  not_numbers : r ≡ recovered.Numbers → ⊥
  not_numbers is = subst (λ (x : RecoverAnswer). IsRedone (answer_of_recovery u x)) is redone

  not_good : (p : Policy) (pool : Pool) (d : ℕ) (h : Words) → e.on ≡ true
      → Good pool d h (view e.cache) → IsRecovered r p program.image e b k k1 → ⊥
  not_good p pool d h on good is = go (numbers_out program.image e) refl
    where
      clean : (x : RecoverAnswer) → IsRedone (answer_of_recovery u x)
          → Cleaned x e (due_clean (sizes_of program) (count_in (sizes_of program) (view e.cache))
          e.cache) b → ⊥
      clean recovered.Clean some h = some
      clean (recovered.Redone v l) some h = h
      clean (recovered.Trap kind) some h = h
      clean (recovered.Aborted kind) some h = h
      clean (recovered.Unusable kind) some h = h
      clean recovered.Numbers some h = h
      clean (recovered.Off p) some h = some
      clean recovered.Failed some h = some
      clean recovered.NoMemory some h = some

      go : (out : Bool) → numbers_out program.image e ≡ out → ⊥
      go true out = not_numbers (is.numbers on good.mark out).0
      go false in_range = clean r redone
          (is.clean on good.mark in_range (is_unsealed (view e.cache) d good.done good.unsealed))

module _ (marked : Bool) (program : Program) (super : Words) (agrees : Agrees program)
    (choice : Choice) (owed : Pending) (d b : Device) (s : SourceState) (k k1 : ℕ)
    (mark : rolls_back_of program owed.tx ≡ marked) (owes : OwesBy marked program super owed d s)
  where
    abbrev p : Policy
    p = policy_of marked

    abbrev e : Device
    e = powered choice d

    abbrev pool : Pool
    pool = pool_with program.image super

    abbrev call : Call
    call = call_of s.done owed.tx owed.args

    abbrev h : Words
    h = owes.heap

    abbrev es : List Effect
    es = owes.effects

    abbrev Taken : Type 0
    Taken = k1 ≡ k + (count_in (sizes_of program) (view e.cache) + run_steps p owes.end es)

    abbrev typed : Bool
    typed = owes_unsigned program e

    abbrev Recovered : Answer → Mode → Type 0
    Recovered a n = outcomes.Recovers program e a n b k k1

    recovers_by : (m : Bool) (a : Answer) (n : Mode) → owes_marked program e ≡ m
        → Recovered a n → RecoversBy m typed program.image e a n b k k1
    recovers_by m a n owing is =
        subst (λ (x : Bool). RecoversBy x typed program.image e a n b k k1) owing is

    never_good : (a : Answer) (n : Mode) (done : ℕ) (g : Words) → IsRedone a
        → Good pool done g (view e.cache) → Recovered a n → ⊥
    never_good a n done g redone good is =
        let un = recovers_by false a n (not_owing program e
        (is_unsealed (view e.cache) done good.done good.unsealed)) is in
        not_good program e b typed un.tx_answer k k1 (subst IsRedone un.answer redone) EndPool pool
        done g refl good un.recovered

    trapped : (m : Bool) (kind : TrapKind) (a : Answer) (n : Mode) → IsRedone a
        → IsEnd pool call h (heap_end h es) (result_of (policy_of m) s.last (Trapped kind))
        (view e.cache) → Recovered a n → Taken
    trapped true kind a n redone seen is =
        absurd (never_good a n (suc s.done) h redone seen.good is)
    trapped false kind a n redone lost is =
        let refused = marked_recovers program e b kind (owes_marked program e) typed a n k k1 refl
        lost.0
        (is_marked (view e.cache MARK) (trap_number kind) lost.0 lost.1) is in
        absurd (subst IsRedone refused.0 redone)

    ended : (x : End) (a : Answer) (n : Mode) → IsRedone a
        → IsEnd pool call h (heap_end h es) (result_of p s.last x) (view e.cache) → Recovered a n
        → Taken
    ended (Halted v) a n redone seen is =
        absurd (never_good a n (suc s.done) (heap_end h es) redone seen.good is)
    ended (Trapped kind) a n redone seen is = trapped marked kind a n redone seen is

    at_cut : (a : Answer) (n : Mode) → IsRedone a
        → IsCut pool call (E p es) (W es) h (heap_end h es) s.last (result_of p s.last owes.end)
        (view e.cache)
        → Recovered a n → Taken
    at_cut a n redone (inl before) is = absurd (never_good a n s.done h redone before.good is)
    at_cut a n redone (inr (inl sealed)) is =
        let names : tx_in e ≡ owed.tx = ap tx_number (sealed.call_is 0 (omega arith)) in
        let its = recovers_by marked a n (owing_as program e owed.tx marked
        (is_owed (view e.cache) s.done sealed.done sealed.sealed) names mark) is in
        redo_counts marked program super agrees e s owed h owes.end es refl
        (left_rest d.cache choice.rest choice.picks) owes.holds owes.takes owes.words owes.ran
        mark sealed typed its.tx_answer b k k1 (subst IsRedone its.answer redone) its.recovered
    at_cut a n redone (inr (inr seen)) is = ended owes.end a n redone seen is

    by_answer : (a : Answer) (n : Mode) → IsRedone a → Recovered a n → Taken
    by_answer a n redone is = at_cut a n redone
        (at_left (IsCut pool call (E p es) (W es) h (heap_end h es) s.last
        (result_of p s.last owes.end)) d.cache choice.rest choice.picks owes.left) is

    not_pick : (m n : Mode) (a : Answer) (line : ℕ) → IsRedone a →
        commanded.Refused (answer.RefusedPick line) m d a n b k k1 → ⊥
    not_pick m n a line redone refused = subst IsRedone refused.0 redone

    by_picks : (m n : Mode) (a : Answer) → IsRedone a
        → commanded.Powers program choice m d a n b k k1 → (first pick : Option ℕ)
        → fallen 0 choice.picks ≡ first → bad (memory_of d) choice.picks ≡ pick → Taken
    by_picks m n a redone powers (Some line) pick falls is =
        absurd (not_pick m n a line redone (powers.0 line falls))
    by_picks m n a redone powers None (Some line) rises is =
        absurd (not_pick m n a line redone (powers.1 line rises is))
    by_picks m n a redone powers None None rises fits =
        by_answer a n redone (powers.2 rises fits)

pub redone_steps : RecoveryStepsLaw
redone_steps marked program super choice owed m n d b s a k k1 agrees mark owes redone powers =
    by_picks marked program super agrees choice owed d b s k k1 mark owes m n a redone powers
    (fallen 0 choice.picks) (bad (memory_of d) choice.picks) refl refl
