-- In which phase a call was stopped, and whether the images that a power cut may leave have its
-- seal.
use Rattle.std.proofs.Common.{◌≡◌, inl, inr, ℕ, zero, suc, ◌+◌, ◌^◌, ◌<◌, ◌≤◌, ◌==◌, Bool, true}
use Rattle.std.proofs.Common.{false, ◌&&◌, w64, List, [], ◌∷◌, ◌++◌, length, take, Option, Some}
use Rattle.std.proofs.Common.{None, ℤ, pos, refl, sym, ap, ◌∙◌, subst, arith, append-nil}
use Rattle.std.specs.Int.{cast_signed}
use Rattle.std.proofs.lemmas.Bool.{eqb-true}
use Rattle.std.proofs.lemmas.List.{take_all}
use Rattle.cache_model.specs.Event.{CacheEvent, Store, Flush, Fence}
use Rattle.cache_model.specs.Cache.{Words, Cache, view}
use Rattle.cache_model.specs.Play.{apply, play}
use Rattle.cache_model.specs.Image.{Images}
use Rattle.cache_model.specs.During.{during}
use Rattle.cache_model.proofs.Views.{view_same, view_flush, view_fence}
use Rattle.cache_model.proofs.During.{play_append}
use Rattle.pmem.specs.Device.{Device, spent}
use Rattle.pmem.specs.Played.{PlaysPart}
use Rattle.pmem.specs.declared.answer.Refusal.{Refusal}
use Rattle.pmem.specs.declared.answer.Refusal.TheVariants as refusal
use Rattle.pmem.specs.declared.answer.Phase.{Phase}
use Rattle.pmem.specs.declared.answer.Phase.TheVariants as phase
use Rattle.pmem.proofs.Refused.{all_cache}
use Rattle.pmem.proofs.Parts.{part_during, refused_cache}
use Rattle.pool_layout.specs.declared.places.TheConstants.{DONE, ATTEMPT, FUNCTION, SEAL}
use Rattle.pool_layout.specs.declared.limits.Sizes.{Sizes}
use Rattle.args_log.specs.Next.{number_after}
use Rattle.args_log.specs.Seal.{stores_from, flushes_from, payload_lines, payload_events}
use Rattle.args_log.specs.Seal.{unsealed_events, sealing_events, seal_events}
use Rattle.args_log.specs.Retire.{retire_events, mark_events}
use Rattle.pm_machine.specs.declared.effect.End.{End}
use Rattle.pm_machine.specs.declared.effect.End.TheVariants.{Halted, Trapped}
use Rattle.pm_machine.specs.declared.records.Policy.{Policy}
use Rattle.pm_machine.specs.declared.records.Policy.TheVariants.{EndPool, RollBack}
use Rattle.pm_machine.specs.Machine.{start}
use Rattle.pm_machine.specs.Runs.{Due, end_of, due_on}
use Rattle.crash_law.specs.Pools.{Call}
use Rattle.crash_law.specs.Law.{IsAtRest}
use Rattle.crash_law.proofs.Rest.{due_seal_rest}
use Rattle.tx_run.specs.Standing.{is_number}
use Rattle.tx_run.specs.Due.{due_run, due_seal, due_unsealed, tail_events, retiring_still}
use Rattle.tx_run.specs.Called.{Called, WentAt}
use Rattle.tx_run.specs.declared.answer.CallAnswer.{CallAnswer}
use Rattle.tx_run.specs.declared.answer.CallAnswer.TheVariants as called
use Rattle.cut_law.proofs.Misses.{Misses, misses_append}
use Rattle.cnvm_session.specs.declared.mode.Mode.{Mode}
use Rattle.cnvm_session.specs.declared.mode.Mode.TheVariants as mode
use Rattle.cnvm_session.specs.declared.answer.Answer.TheVariants as answer
use Rattle.cnvm_session.specs.declared.program.Program.{Program}
use Rattle.cnvm_session.specs.Outcomes.{answer_of_call}
use Rattle.cnvm_session.specs.Outcomes as commanded_by
use Rattle.cnvm_session.specs.Marks.{rolls_back_of, looks_of, policy_of, unsigned_of}
use Rattle.clobber_log.specs.Restore.{restore_events}
use Rattle.cut_law.proofs.Backs.{misses_restore}
use Rattle.cnvm_session.specs.Commands as commanded
use Rattle.cnvm_session.specs.Commands.{call_number, tx_parameters}
use Rattle.cnvm_session.specs.Pool.{sizes_of}
use Rattle.session_law.specs.Words.{AreWords}
use Rattle.session_law.specs.Agrees.{Agrees}
use Rattle.session_law.specs.State.{Standing, Ready, Down, Unusable, SourceState}
use Rattle.session_law.specs.Holds.{IsResting, HoldsAs}
use Rattle.session_law.specs.Law.{HasPhase, PhaseLaw}
use Rattle.session_law.proofs.images.Cleaning.{missed_at, rest_at}
use Rattle.session_law.proofs.images.Retired.{next_small}
use Rattle.session_law.proofs.images.Reading.{numbers_small, stands_ready, stands_numbers}
use Rattle.session_law.proofs.answers.Calls.{ran_events}
use Rattle.session_law.proofs.answers.Looking.{look_is_on, stopped_look}

-- if a list of events is refused at one of them, what holds during all but its last event still
-- holds
part_before : (Q : Cache → Type 0) (why : Refusal) (es : List CacheEvent) (x : CacheEvent)
    (d b : Device) → PlaysPart why d (es ++ x ∷ []) b → during d.cache es Q → Q b.cache
part_before Q why [] x d b (inl refused) h =
    subst Q (sym (refused_cache why d b refused.1)) h
part_before Q why [] x d b (inr rest) h = absurd rest.1
part_before Q why (e ∷ es) x d b (inl refused) h =
    subst Q (sym (refused_cache why d b refused.1)) h.0
part_before Q why (e ∷ es) x d b (inr rest) h = part_before Q why es x (spent d e) b rest.1 h.1

-- the record's own words end before the seal

misses_stores : (xs : List ℤ) (q : ℕ) → q + length xs ≤ SEAL → Misses SEAL (stores_from q xs)
misses_stores [] q few = tt
misses_stores (x ∷ xs) q few = ((λ e. absurd (omega arith)), misses_stores xs (suc q) (omega arith))

misses_flushes : (l n : ℕ) → Misses SEAL (flushes_from l n)
misses_flushes l zero = tt
misses_flushes l (suc n) = misses_flushes (suc l) n

misses_payload : (f : ℤ) (args : List ℤ) → length args ≤ 22 → Misses SEAL (payload_events f args)
unfolding payload_events
misses_payload f args few =
    misses_append SEAL (stores_from FUNCTION (f ∷ args))
    (flushes_from 3 (payload_lines (length args))
    ++ Fence ∷ []) (misses_stores (f ∷ args) FUNCTION (omega arith))
    (misses_append SEAL (flushes_from 3 (payload_lines (length args))) (Fence ∷ [])
    (misses_flushes 3 (payload_lines (length args))) tt)

-- nor do the events after a run: those of the log store no word below the heap
misses_tail : (p : Policy) (z : Sizes) (end : End) (c : Cache) → Misses SEAL (tail_events p z end c)
unfolding retire_events mark_events
misses_tail p z (Halted v) c = (
  (λ e. absurd (omega arith)),
  ((λ e. absurd (omega arith)), ((λ e. absurd (omega arith)), tt)),
)
misses_tail EndPool z (Trapped kind) c = ((λ e. absurd (omega arith)), tt)
misses_tail RollBack z (Trapped kind) c =
    misses_append SEAL (restore_events z (view c))
    (retiring_still (play c (restore_events z (view c))))
    (misses_restore z SEAL (view c) (omega arith)) (
      (λ e. absurd (omega arith)),
      ((λ e. absurd (omega arith)), ((λ e. absurd (omega arith)), tt)),
    )

-- after the seal each line has one version, and the seal is there

sealed_rest : (z : Sizes) (f : ℤ) (args : List ℤ) (done : ℕ) (c : Cache) → IsAtRest c
    → IsAtRest (play c (seal_events f args (pos (suc done))))
sealed_rest z f args done c rest =
    let call : Call = record { done = done; function = f; args = args } in
    subst (λ (es : List CacheEvent). IsAtRest (play c es))
    (append-nil (seal_events f args (pos (suc done))))
    (due_seal_rest z 0 call [] c rest (λ d at_rest. at_rest))

sealed_word : (f : ℤ) (args : List ℤ) (k : ℤ) (c : Cache)
    → view (play c (seal_events f args k)) SEAL ≡ k
unfolding seal_events unsealed_events sealing_events
sealed_word f args k c =
    let paid : Cache = play c (payload_events f args) in
    ap (λ (d : Cache). view d SEAL) (play_append c (payload_events f args ++ Store SEAL k ∷ [])
    (Flush 5 ∷ Fence ∷ []) ∙ ap (λ (d : Cache). play d (Flush 5 ∷ Fence ∷ []))
    (play_append c (payload_events f args) (Store SEAL k ∷ [])))
    ∙ view_fence (apply (apply paid (Store SEAL k)) (Flush 5)) SEAL
    ∙ view_flush (apply paid (Store SEAL k)) 5 SEAL
    ∙ view_same paid SEAL k

module _ (program : Program) (super : Words) (agrees : Agrees program)
    (d b : Device) (s : SourceState) (resting : IsResting program super d s) where
  module _ (tx : ℕ) (args : List ℤ) (takes : tx_parameters program.image tx ≡ Some (length args))
      (words : AreWords args) (small : (s.done < 2 ^ 62) × (resting.before.good.attempt < 2 ^ 62))
    where
      abbrev c : Cache
      c = d.cache

      few : length (take 22 args) ≤ 22
      few = let fits = (agrees.few tx (length args) takes).1 in
          subst (λ (xs : List ℤ). length xs ≤ 22) (sym (take_all 22 args fits)) fits

      number : number_after (view c DONE) ≡ pos (suc s.done)
      number = next_small (view c DONE) s.done resting.before.good.done
          (let fits = resting.before.good.done_fits in omega arith)

      unsealed : PlaysPart refusal.Off d (due_unsealed tx args c) b
          → Images (HasPhase phase.Unsealed s) b.cache
      unfolding unsealed_events
      unsealed part image is seal =
          let kept : Images (λ (other : Words). other SEAL ≡ view c SEAL) b.cache =
          part_before (Images (λ (other : Words). other SEAL ≡ view c SEAL)) refusal.Off
          (payload_events (cast_signed w64 tx) (take 22 args))
          (Store SEAL (number_after (view c DONE))) d b part
          (missed_at SEAL (view c SEAL) (payload_events (cast_signed w64 tx) (take 22 args)) c
          (misses_payload (cast_signed w64 tx) (take 22 args) few) (rest_at SEAL c resting.rest)) in
          resting.before.good.unsealed (sym (kept image is) ∙ seal)

      abbrev cache_after : Cache
      cache_after = play c (due_seal tx args c)

      after_rest : IsAtRest cache_after
      after_rest =
          subst (λ (k : ℤ). IsAtRest (play c (seal_events (cast_signed w64 tx) (take 22 args) k)))
          (sym number) (sealed_rest (sizes_of program) (cast_signed w64 tx) (take 22 args) s.done c
          resting.rest)

      seal_after : view cache_after SEAL ≡ pos (suc s.done)
      seal_after = sealed_word (cast_signed w64 tx) (take 22 args) (number_after (view c DONE))
          c ∙ number

      run_misses : (marked : Bool) → Misses SEAL
          (due_run (policy_of marked) program.image (start program.image tx args) cache_after)
      run_misses marked =
          let p : Policy = policy_of marked in
          let ran : Due = due_on p program.image (start program.image tx args) cache_after in
          misses_append SEAL ran.events
          (tail_events p (sizes_of program) (end_of ran.fate) (play cache_after ran.events))
          (ran_events marked program super agrees d s resting tx args takes words small SEAL
          (omega arith))
          (misses_tail p (sizes_of program) (end_of ran.fate) (play cache_after ran.events))

      sealed : (list : List CacheEvent) → Misses SEAL list → (between : Device)
          → between.cache ≡ cache_after → PlaysPart refusal.Off between list b
          → Images (HasPhase phase.Sealed s) b.cache
      sealed list misses between same part =
          let Q : Cache → Type 0 = Images (λ (other : Words). other SEAL ≡ view cache_after SEAL) in
          let all : during cache_after list Q =
          missed_at SEAL (view cache_after SEAL) list cache_after misses
          (rest_at SEAL cache_after after_rest) in
          let kept : Q b.cache = part_during Q refusal.Off list between b part
          (subst (λ (x : Cache). during x list Q) (sym same) all) in
          λ image is. kept image is ∙ seal_after

      went : (marked : Bool) (at : Phase)
          → WentAt at (policy_of marked) program.image tx args d b → Images (HasPhase at s) b.cache
      went marked phase.Unsealed h = unsealed h
      went marked phase.Sealing h = λ image is. tt
      went marked phase.Sealed h =
          sealed
          (due_run (policy_of marked) program.image (start program.image tx args) cache_after)
          (run_misses marked) h.between (all_cache (due_seal tx args c) d h.between h.done) h.went

  -- the phase, from the call's answer
  off_of : (u : Bool) (r : CallAnswer) (at : Phase) → answer.Stopped at ≡ answer_of_call u r
      → r ≡ called.Off at
  off_of u (called.Done v l) at e = absurd cc
  off_of u (called.Trap kind) at e = absurd cc
  off_of u (called.Aborted kind) at e = absurd cc
  off_of u (called.Off p) at e = let same : at ≡ p = cc in ap called.Off (sym same)
  off_of u called.Failed at e = absurd cc
  off_of u (called.Unusable kind) at e = absurd cc
  off_of u called.Numbers at e = absurd cc
  off_of u called.NoMemory at e = absurd cc

  module _ (tx : ℕ) (args : List ℤ) (at : Phase) (n : Mode) (k k1 : ℕ)
      (takes : tx_parameters program.image tx ≡ Some (length args)) (words : AreWords args) where
    abbrev Numbers : Bool → Type 0
    Numbers numbers = (is_number (view d.cache DONE) && is_number (view d.cache ATTEMPT)) ≡ numbers

    small_of : Numbers true → (s.done < 2 ^ 62) × (resting.before.good.attempt < 2 ^ 62)
    small_of numbers =
        let good = resting.before.good in
        numbers_small (view d.cache) s.done good.attempt good.done good.attempt_is numbers

    by_numbers : (numbers : Bool) → Numbers numbers → (marked u : Bool) →
        commanded_by.RunsBy marked u program.image tx args d (answer.Stopped at) n b k k1
        → Images (HasPhase at s) b.cache
    by_numbers true numbers marked u is =
        let ran = is.called.ready resting.on
        (stands_ready (view d.cache) resting.before.good.mark numbers) in
        let off : Called (called.Off at) (policy_of marked) program.image tx args d b k k1 =
        subst (λ (x : CallAnswer). Called x (policy_of marked) program.image tx args d b k k1)
        (off_of u is.tx_answer at is.answer) ran in
        went tx args takes words (small_of numbers) marked at off.1
    by_numbers false numbers marked u is =
        let same = (is.called.numbers resting.on
        (stands_numbers (view d.cache) resting.before.good.mark numbers)).0 in
        let clash : called.Numbers ≡ called.Off at =
        sym same ∙ off_of u is.tx_answer at is.answer in
        absurd cc

    by_looks : (looks marked u : Bool) →
        commanded_by.RunsAs looks marked u program.image tx args d (answer.Stopped at) n b k k1
        → Images (HasPhase at s) b.cache
    by_looks true marked u is =
        absurd (look_is_on is.seen program.image tx args d k k1 resting.on is.looked
        (stopped_look u is.seen at is.answer))
    by_looks false marked u is =
        by_numbers (is_number (view d.cache DONE) && is_number (view d.cache ATTEMPT)) refl marked u
        is

    by_call : commanded_by.Runs program tx args d (answer.Stopped at) n b k k1
        → Images (HasPhase at s) b.cache
    by_call is =
        by_looks (looks_of program tx) (rolls_back_of program tx) (unsigned_of program tx) is

  module _ (args : List ℤ) (words : AreWords args) (at : Phase) (n : Mode) (k k1 : ℕ) where
    by_count : (tx count : ℕ) (same : Bool) → (count == length args) ≡ same
        → tx_parameters program.image tx ≡ Some count
        → commanded.CallsWith same program tx args d (answer.Stopped at) n b k k1
        → Images (HasPhase at s) b.cache
    by_count tx count true same takes h =
        by_call tx args at n k k1
        (takes ∙ ap (λ (i : ℕ). Some i) (eqb-true count (length args) same)) words h
    by_count tx count false same takes h = let e = h.0 in absurd cc

    by_parameters : (tx : ℕ) (count : Option ℕ) → tx_parameters program.image tx ≡ count
        → commanded.CallsTo count program tx args d (answer.Stopped at) n b k k1
        → Images (HasPhase at s) b.cache
    by_parameters tx None takes h = let e = h.0 in absurd cc
    by_parameters tx (Some count) takes h = by_count tx count (count == length args) refl takes h

    by_name : (number : Option ℕ) → commanded.CallsNamed number program args d
        (answer.Stopped at) n b k k1 → Images (HasPhase at s) b.cache
    by_name None h = let e = h.0 in absurd cc
    by_name (Some tx) h = by_parameters tx (tx_parameters program.image tx) refl h

module _ (program : Program) (super : Words) (agrees : Agrees program)
    (name : List ℕ) (args : List ℤ) (words : AreWords args) (n : Mode) (d b : Device)
    (s : SourceState) (at : Phase) (k k1 : ℕ) where
  in_mode : (m : Mode) → commanded.Calls program name args m d (answer.Stopped at) n b k k1
      → (m ≡ mode.Ready → IsResting program super d s) → Images (HasPhase at s) b.cache
  in_mode mode.Ready h resting = by_name program super agrees d b s (resting refl) args words
      at n k k1 (call_number program name) h
  in_mode mode.Down h resting = let e = h.0 in absurd cc
  in_mode (mode.Unusable kind) h resting = let e = h.0 in absurd cc

  at_rest : (m : Mode) (st : Standing) → HoldsAs st program super m d s → m ≡ mode.Ready
      → IsResting program super d s
  at_rest m Ready holds is = holds.1
  at_rest m (Down None) holds is = let clash : mode.Down ≡ mode.Ready = sym holds.0 ∙ is in
      absurd cc
  at_rest m (Down (Some owed)) holds is = let clash : mode.Down ≡ mode.Ready = sym holds.0 ∙ is in
      absurd cc
  at_rest m (Unusable kind) holds is = let clash : mode.Unusable kind ≡ mode.Ready =
      sym holds.0 ∙ is in absurd cc

pub stopped_phase : PhaseLaw
stopped_phase program super name args m n d b s at k k1 agrees words holds h =
    in_mode program super agrees name args words n d b s at k k1 m h
    (λ is. at_rest program super agrees name args words n d b s at k k1 m
    s.standing holds is)
