-- A transaction that is aborted, in its call or in its recovery, leaves the heap from before it.
use Rattle.std.proofs.Common.{◌≡◌, inl, inr, ℕ, suc, ◌==◌, ◌&&◌, Bool, true, false, List, length}
use Rattle.std.proofs.Common.{Option, Some, None, ℤ, refl, sym, ap, ◌∙◌, subst, arith}
use Rattle.std.proofs.lemmas.Bool.{eqb-true}
use Rattle.cache_model.specs.Event.{CacheEvent}
use Rattle.cache_model.specs.Cache.{Words, view}
use Rattle.cache_model.specs.Collapse.{bad}
use Rattle.cache_model.specs.declared.choice.Choice.{Choice}
use Rattle.pmem.specs.Device.{Device, memory_of, powered}
use Rattle.pool_layout.specs.declared.places.TheConstants.{DONE, ATTEMPT}
use Rattle.pool_layout.specs.Good.{Pool, Good}
use Rattle.pool_map.specs.declared.trap.TrapKind.{TrapKind}
use Rattle.args_log.specs.Pending.{tx_number}
use Rattle.pm_machine.specs.declared.effect.End.{End}
use Rattle.pm_machine.specs.declared.effect.End.TheVariants.{Halted, Trapped}
use Rattle.pm_machine.specs.declared.records.Policy.{Policy}
use Rattle.pm_machine.specs.declared.records.Policy.TheVariants.{EndPool, RollBack}
use Rattle.pm_machine.specs.Effects.{heap_end}
use Rattle.pm_machine.specs.Runs.{heap_in}
use Rattle.crash_law.specs.Pools.{Call}
use Rattle.crash_law.specs.Law.{IsCut, IsEnd}
use Rattle.run_law.specs.Seen.{result_of, E, W}
use Rattle.tx_run.specs.Standing.{is_number}
use Rattle.tx_run.specs.Called.{Called}
use Rattle.recovery.specs.Recovered.{Cleaned, IsRecovered, numbers_out, tx_in}
use Rattle.recovery.specs.declared.answer.RecoverAnswer.{RecoverAnswer}
use Rattle.recovery.specs.declared.answer.RecoverAnswer.TheVariants as recovered
use Rattle.tx_run.specs.declared.answer.CallAnswer.{CallAnswer}
use Rattle.tx_run.specs.declared.answer.CallAnswer.TheVariants as called
use Rattle.cut_law.specs.Law.{call_of, pool_with}
use Rattle.cnvm_session.specs.declared.mode.Mode.{Mode}
use Rattle.cnvm_session.specs.declared.mode.Mode.TheVariants as mode
use Rattle.cnvm_session.specs.declared.answer.Answer.TheVariants as answer
use Rattle.cnvm_session.specs.declared.program.Program.{Program}
use Rattle.cnvm_session.specs.Commands as commanded
use Rattle.cnvm_session.specs.Commands.{call_number, tx_parameters, fallen}
use Rattle.cnvm_session.specs.Marks.{rolls_back_of, looks_of, policy_of, unsigned_of}
use Rattle.cnvm_session.specs.Marks.{owes_unsigned}
use Rattle.cnvm_session.specs.Outcomes.{answer_of_call, answer_of_recovery, RecoversBy}
use Rattle.cnvm_session.specs.Outcomes as outcomes
use Rattle.cnvm_session.specs.Pool.{sizes_of}
use Rattle.session_law.specs.Words.{AreWords}
use Rattle.session_law.specs.Agrees.{Agrees}
use Rattle.session_law.specs.State.{Pending, Standing, Ready, Down, Unusable, SourceState}
use Rattle.session_law.specs.Holds.{IsResting, OwesBy, HoldsAs, Holds}
use Rattle.session_law.specs.Law.{IsRolledBack}
use Rattle.session_law.proofs.images.Ones.{left_rest, at_left}
use Rattle.session_law.proofs.images.Reading.{numbers_small, stands_ready, stands_numbers}
use Rattle.session_law.proofs.images.Reading.{is_unsealed}
use Rattle.session_law.proofs.images.Reading.{is_owed}
use Rattle.session_law.proofs.answers.Calls.{call_restores}
use Rattle.session_law.proofs.answers.Recoveries.{redo_restores}
use Rattle.session_law.proofs.answers.Powers.{not_owing, owing_as}

-- the answer of a call that was rolled back
aborted_call : (u : Bool) (r : CallAnswer) (kind : TrapKind)
    → answer.Aborted kind ≡ answer_of_call u r → r ≡ called.Aborted kind
aborted_call u (called.Done v l) kind e = absurd cc
aborted_call u (called.Trap trap) kind e = absurd cc
aborted_call u (called.Aborted trap) kind e =
    let same : kind ≡ trap = cc in ap called.Aborted (sym same)
aborted_call u (called.Off p) kind e = absurd cc
aborted_call u called.Failed kind e = absurd cc
aborted_call u (called.Unusable trap) kind e = absurd cc
aborted_call u called.Numbers kind e = absurd cc
aborted_call u called.NoMemory kind e = absurd cc

-- and of a recovery
aborted_recovery : (u : Bool) (r : RecoverAnswer) (kind : TrapKind)
    → answer.RecoveredAborted kind ≡ answer_of_recovery u r → r ≡ recovered.Aborted kind
aborted_recovery u recovered.Clean kind e = absurd cc
aborted_recovery u (recovered.Redone v l) kind e = absurd cc
aborted_recovery u (recovered.Trap trap) kind e = absurd cc
aborted_recovery u (recovered.Aborted trap) kind e =
    let same : kind ≡ trap = cc in ap recovered.Aborted (sym same)
aborted_recovery u (recovered.Unusable trap) kind e = absurd cc
aborted_recovery u recovered.Numbers kind e = absurd cc
aborted_recovery u (recovered.Off p) kind e = absurd cc
aborted_recovery u recovered.Failed kind e = absurd cc
aborted_recovery u recovered.NoMemory kind e = absurd cc

module _ (program : Program) (super : Words) (agrees : Agrees program)
    (d b : Device) (s : SourceState) (resting : IsResting program super d s)
    (args : List ℤ) (words : AreWords args) (kind : TrapKind) (n : Mode) (k k1 : ℕ) where
  abbrev Restored : Type 0
  Restored = IsRolledBack program (heap_in (sizes_of program) d.cache) s.last b

  by_mark : (tx : ℕ) → tx_parameters program.image tx ≡ Some (length args) → (marked u : Bool)
      → rolls_back_of program tx ≡ marked →
      outcomes.RunsBy marked u program.image tx args d (answer.Aborted kind) n b k k1 → Restored
  by_mark tx takes marked u mark is =
      go (is_number (view d.cache DONE) && is_number (view d.cache ATTEMPT)) refl
    where
      rolled : is.tx_answer ≡ called.Aborted kind
      rolled = aborted_call u is.tx_answer kind is.answer

      go : (numbers : Bool) → (is_number (view d.cache DONE) && is_number (view d.cache ATTEMPT))
          ≡ numbers → Restored
      go true numbers =
          let good = resting.before.good in
          call_restores marked program super agrees d s resting tx args takes words
          (numbers_small (view d.cache) s.done good.attempt good.done good.attempt_is numbers) b
          mark kind k k1
          (subst (λ (x : CallAnswer). Called x (policy_of marked) program.image tx args d b k k1)
          rolled
          (is.called.ready resting.on (stands_ready (view d.cache) good.mark numbers)))
      go false numbers =
          let same = (is.called.numbers resting.on
          (stands_numbers (view d.cache) resting.before.good.mark numbers)).0 in
          let clash : called.Numbers ≡ called.Aborted kind = sym same ∙ rolled in
          absurd cc

  by_marks : (tx : ℕ) → tx_parameters program.image tx ≡ Some (length args) →
      (looks marked u : Bool) → rolls_back_of program tx ≡ marked →
      outcomes.RunsAs looks marked u program.image tx args d (answer.Aborted kind) n b k k1
      → Restored
  by_marks tx takes true marked u mark is =
      subst (IsRolledBack program (heap_in (sizes_of program) d.cache) s.last) (sym is.same)
      (record { heap = λ w less. refl; last_is = resting.before.last_is })
  by_marks tx takes false marked u mark is = by_mark tx takes marked u mark is

  by_count : (tx count : ℕ) (same : Bool) → (count == length args) ≡ same
      → tx_parameters program.image tx ≡ Some count
      → commanded.CallsWith same program tx args d (answer.Aborted kind) n b k k1 → Restored
  by_count tx count true same takes h =
      by_marks tx (takes ∙ ap (λ (i : ℕ). Some i) (eqb-true count (length args) same))
      (looks_of program tx) (rolls_back_of program tx) (unsigned_of program tx) refl h
  by_count tx count false same takes h = let e = h.0 in absurd cc

  by_parameters : (tx : ℕ) (count : Option ℕ) → tx_parameters program.image tx ≡ count
      → commanded.CallsTo count program tx args d (answer.Aborted kind) n b k k1 → Restored
  by_parameters tx None takes h = let e = h.0 in absurd cc
  by_parameters tx (Some count) takes h = by_count tx count (count == length args) refl takes h

  by_name : (number : Option ℕ)
      → commanded.CallsNamed number program args d (answer.Aborted kind) n b k k1 → Restored
  by_name None h = let e = h.0 in absurd cc
  by_name (Some tx) h = by_parameters tx (tx_parameters program.image tx) refl h

module _ (program : Program) (super : Words) (agrees : Agrees program) (name : List ℕ)
    (args : List ℤ) (words : AreWords args) (m n : Mode) (d b : Device) (s : SourceState)
    (kind : TrapKind) (k k1 : ℕ)
    (h : commanded.Calls program name args m d (answer.Aborted kind) n b k k1) where
  abbrev Back : Type 0
  Back = IsRolledBack program (heap_in (sizes_of program) d.cache) s.last b

  in_mode : (x : Mode) → commanded.Calls program name args x d (answer.Aborted kind) n b k k1
      → (x ≡ mode.Ready → IsResting program super d s) → Back
  in_mode mode.Ready calls resting = by_name program super agrees d b s (resting refl) args words
      kind n k k1 (call_number program name) calls
  in_mode mode.Down calls resting = let e = calls.0 in absurd cc
  in_mode (mode.Unusable trap) calls resting = let e = calls.0 in absurd cc

  at_rest : (st : Standing) → HoldsAs st program super m d s → m ≡ mode.Ready
      → IsResting program super d s
  at_rest Ready holds is = holds.1
  at_rest (Down None) holds is =
      let clash : mode.Down ≡ mode.Ready = sym holds.0 ∙ is in absurd cc
  at_rest (Down (Some owed)) holds is =
      let clash : mode.Down ≡ mode.Ready = sym holds.0 ∙ is in absurd cc
  at_rest (Unusable trap) holds is =
      let clash : mode.Unusable trap ≡ mode.Ready = sym holds.0 ∙ is in absurd cc

pub call_rolled_back : (program : Program) (super : Words) (name : List ℕ) (args : List ℤ)
    (m n : Mode) (d b : Device) (s : SourceState) (kind : TrapKind) (k k1 : ℕ) → Agrees program
    → AreWords args → Holds program super m d s
    → commanded.Calls program name args m d (answer.Aborted kind) n b k k1
    → IsRolledBack program (heap_in (sizes_of program) d.cache) s.last b
call_rolled_back program super name args m n d b s kind k k1 agrees words holds h =
    in_mode program super agrees name args words m n d b s kind k k1 h m h
    (λ is. at_rest program super agrees name args words m n d b s kind k k1 h s.standing holds is)

-- an image in which nothing is owed isn't recovered so
module _ (program : Program) (e b : Device) (r : RecoverAnswer) (k k1 : ℕ) (on : e.on ≡ true)
    (kind : TrapKind) (rolled : r ≡ recovered.Aborted kind) where
  never_clean : (es : List CacheEvent) → Cleaned r e es b → ⊥
  never_clean es clean = subst (λ (x : RecoverAnswer). Cleaned x e es b) rolled clean

  not_good : (p : Policy) (pool : Pool) (d : ℕ) (h : Words) → Good pool d h (view e.cache)
      → IsRecovered r p program.image e b k k1 → ⊥
  not_good p pool d h good is = go (numbers_out program.image e) refl
    where
      go : (out : Bool) → numbers_out program.image e ≡ out → ⊥
      go true out =
          let clash : recovered.Numbers ≡ recovered.Aborted kind =
          sym (is.numbers on good.mark out).0 ∙ rolled in
          absurd cc
      go false in_range = never_clean _
          (is.clean on good.mark in_range (is_unsealed (view e.cache) d good.done good.unsealed))

module _ (program : Program) (super : Words) (agrees : Agrees program) (choice : Choice)
    (owed : Pending) (m n : Mode) (d b : Device) (s : SourceState) (kind : TrapKind) (k k1 : ℕ)
    (mark : rolls_back_of program owed.tx ≡ true) (owes : OwesBy true program super owed d s) where
  abbrev e : Device
  e = powered choice d

  abbrev one : Words
  one = view e.cache

  abbrev pool : Pool
  pool = pool_with program.image super

  abbrev call : Call
  call = call_of s.done owed.tx owed.args

  abbrev Undone : Type 0
  Undone = IsRolledBack program owes.heap s.last b

  abbrev owes_type : Bool
  owes_type = owes_unsigned program e

  abbrev Recovers : Bool → Type 0
  Recovers marked =
      RecoversBy marked owes_type program.image e (answer.RecoveredAborted kind) n b k k1

  abbrev Recovered : Type 0
  Recovered = outcomes.Recovers program e (answer.RecoveredAborted kind) n b k k1

  -- an image that isn't sealed
  unsealed : (done : ℕ) (h : Words) → Good pool done h one → Recovered → ⊥
  unsealed done h good is =
      let un : Recovers false = subst Recovers
      (not_owing program e (is_unsealed one done good.done good.unsealed)) is in
      not_good program e b un.tx_answer k k1 refl kind
      (aborted_recovery owes_type un.tx_answer kind un.answer) EndPool pool done h good un.recovered

  ended : (x : End)
      → IsEnd pool call owes.heap (heap_end owes.heap owes.effects) (result_of RollBack s.last x)
      one → Recovered → Undone
  ended (Halted v) seen is =
      absurd (unsealed (suc s.done) (heap_end owes.heap owes.effects) seen.good is)
  ended (Trapped trap) seen is = absurd (unsealed (suc s.done) owes.heap seen.good is)

  at_cut : IsCut pool call (E RollBack owes.effects) (W owes.effects) owes.heap
      (heap_end owes.heap owes.effects) s.last (result_of RollBack s.last owes.end) one
      → Recovered → Undone
  at_cut (inl before) is = absurd (unsealed s.done owes.heap before.good is)
  at_cut (inr (inl sealed)) is =
      let names : tx_in e ≡ owed.tx = ap tx_number (sealed.call_is 0 (omega arith)) in
      let its : Recovers true = subst Recovers (owing_as program e owed.tx true
      (is_owed one s.done sealed.done sealed.sealed) names mark) is in
      redo_restores true program super agrees e s owed owes.heap owes.end owes.effects refl
      (left_rest d.cache choice.rest choice.picks) owes.holds owes.takes owes.words owes.ran mark
      sealed kind its.tx_answer b k k1 (aborted_recovery owes_type its.tx_answer kind its.answer)
      its.recovered
  at_cut (inr (inr seen)) is = ended owes.end seen is

  by_picks : (first pick : Option ℕ) → fallen 0 choice.picks ≡ first
      → bad (memory_of d) choice.picks ≡ pick
      → commanded.Powers program choice m d (answer.RecoveredAborted kind) n b k k1 → Undone
  by_picks (Some line) pick falls is powers = let e = (powers.0 line falls).0 in absurd cc
  by_picks None (Some line) rises is powers = let e = (powers.1 line rises is).0 in absurd cc
  by_picks None None rises fits powers =
      at_cut
      (at_left (IsCut pool call (E RollBack owes.effects) (W owes.effects) owes.heap
      (heap_end owes.heap owes.effects) s.last (result_of RollBack s.last owes.end)) d.cache
      choice.rest choice.picks owes.left) (powers.2 rises fits)

pub power_rolled_back : (program : Program) (super : Words) (choice : Choice) (owed : Pending)
    (m n : Mode) (d b : Device) (s : SourceState) (kind : TrapKind) (k k1 : ℕ) → Agrees program
    → rolls_back_of program owed.tx ≡ true → (owes : OwesBy true program super owed d s)
    → commanded.Powers program choice m d (answer.RecoveredAborted kind) n b k k1
    → IsRolledBack program owes.heap s.last b
power_rolled_back program super choice owed m n d b s kind k k1 agrees mark owes powers =
    by_picks program super agrees choice owed m n d b s kind k k1 mark owes
    (fallen 0 choice.picks) (bad (memory_of d) choice.picks) refl refl powers
