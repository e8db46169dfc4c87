-- A call of a transaction on a device at rest is answered as the source says.
use Rattle.std.proofs.Common.{◌≡◌, ℕ, suc, ◌+◌, ◌^◌, ◌<◌, ◌≤◌, Bool, true, false, ◌&&◌, List}
use Rattle.std.proofs.Common.{length, Some, ℤ, refl, sym, ◌∙◌, subst, arith}
use Rattle.cache_model.specs.Event.{CacheEvent}
use Rattle.cache_model.specs.Cache.{Words, view}
use Rattle.cache_model.specs.Play.{play}
use Rattle.cache_model.specs.Image.{Images, HasOne}
use Rattle.pmem.specs.Device.{Device}
use Rattle.pmem.specs.Played.{PlaysAll}
use Rattle.pmem.proofs.Refused.{all_cache, all_on}
use Rattle.pool_layout.specs.declared.places.TheConstants.{LAST, DONE, ATTEMPT}
use Rattle.pool_layout.specs.declared.limits.Sizes.{Sizes}
use Rattle.pool_layout.specs.Places as places
use Rattle.pool_layout.specs.Log.{count}
use Rattle.pool_layout.specs.Good.{Pool, Good}
use Rattle.pool_map.specs.declared.trap.TrapKind.{TrapKind}
use Rattle.pm_machine.specs.declared.effect.Effect.{Effect}
use Rattle.pm_machine.specs.declared.effect.End.{End}
use Rattle.pm_machine.specs.declared.effect.End.TheVariants.{Halted, Trapped}
use Rattle.pm_machine.specs.declared.records.Policy.{Policy}
use Rattle.pm_machine.specs.declared.records.Policy.TheVariants.{RollBack}
use Rattle.pm_machine.specs.Effects.{heap_end}
use Rattle.pm_machine.specs.Machine.{start, Finished}
use Rattle.pm_machine.specs.Logging.{tx_run}
use Rattle.pm_machine.specs.Runs.{heap_in, Due, due_on}
use Rattle.crash_law.specs.Pools.{Call, IsRetired}
use Rattle.crash_law.specs.Law.{Retires, IsAtRest, IsCut, IsEnded}
use Rattle.run_law.specs.Seen.{result_of, E, W}
use Rattle.tx_run.specs.Standing.{is_number}
use Rattle.tx_run.specs.Due.{due_seal, due_call}
use Rattle.tx_run.specs.Called.{Called, IsTxCalled}
use Rattle.tx_run.specs.declared.answer.CallAnswer.{CallAnswer}
use Rattle.tx_run.specs.declared.answer.CallAnswer.TheVariants as called
use Rattle.cut_law.specs.Law.{call_of, pool_with}
use Rattle.cut_law.specs.Leaves as leaves
use Rattle.cut_law.specs.Steps.{run_steps}
use Rattle.cut_law.proofs.Cuts.{call_at_rest, owes_after}
use Rattle.cut_law.proofs.Leaving.{call_leaves}
use Rattle.cut_law.proofs.Misses.{Misses, misses_run}
use Rattle.cnvm_session.specs.declared.mode.Mode.{Mode}
use Rattle.cnvm_session.specs.declared.mode.Mode.TheVariants as mode
use Rattle.cnvm_session.specs.declared.answer.Answer.{Answer}
use Rattle.cnvm_session.specs.declared.answer.Answer.TheVariants as answer
use Rattle.cnvm_session.specs.declared.program.Program.{Program}
use Rattle.cnvm_session.specs.Commands.{tx_parameters}
use Rattle.cnvm_session.specs.Marks.{rolls_back_of, policy_of, unsigned_of}
use Rattle.cnvm_session.specs.Outcomes.{answer_of_call, mode_of_call}
use Rattle.cnvm_session.specs.Pool.{sizes_of}
use Rattle.session_law.specs.Source.{outcome_with}
use Rattle.session_law.specs.Words.{AreWords}
use Rattle.session_law.specs.Agrees.{Agrees, RunsAs}
use Rattle.session_law.specs.State.{Pending, Standing, Ready, Down, Unusable, SourceState}
use Rattle.session_law.specs.State.{standing_as, done_with, undone_as}
use Rattle.session_law.specs.Answers.{RunsBy}
use Rattle.session_law.specs.Holds.{IsResting, OwesBy, HoldsAs, Holds}
use Rattle.session_law.specs.Law.{IsRolledBack, RanToEnd, TakesBy}
use Rattle.session_law.proofs.Words.{held_words}
use Rattle.session_law.proofs.logs.Exact.{run_recorded}
use Rattle.session_law.proofs.images.Ones.{rest_one, at_view}
use Rattle.session_law.proofs.images.Retired.{count_at, retired_none}
use Rattle.session_law.proofs.images.Reading.{numbers_small, stands_ready, stands_numbers}
use Rattle.session_law.proofs.images.Restoring.{KeepsIn, cut_keeps}
use Rattle.session_law.proofs.images.Resting.{resting_at, ends_pool, rolls_back, Meant, meant}
use Rattle.session_law.proofs.images.Resting.{HasHalted}
use Rattle.session_law.proofs.images.Resting.{run_halted, run_done, run_trapped}

module _ (marked : Bool) (program : Program) (super : Words) (agrees : Agrees program)
    (d : Device) (s : SourceState) (resting : IsResting program super d s)
    (tx : ℕ) (args : List ℤ) (takes : tx_parameters program.image tx ≡ Some (length args))
    (words : AreWords args) where
  abbrev p : Policy
  p = policy_of marked

  abbrev z : Sizes
  z = sizes_of program

  abbrev pool : Pool
  pool = pool_with program.image super

  abbrev h : Words
  h = heap_in z d.cache

  abbrev owed : Pending
  owed = record { tx = tx; args = args }

  abbrev call : Call
  call = call_of s.done tx args

  abbrev events : List CacheEvent
  events = due_call p program.image tx args d.cache

  runs : RunsAs program h tx args
  runs = agrees.runs h tx args resting.holds.headers (held_words program h s resting.holds)
      words takes

  abbrev end : End
  end = (run_recorded marked program h tx args runs).end

  abbrev es : List Effect
  es = (run_recorded marked program h tx args runs).effects

  ran : tx_run p program.image program.image.parts.most h tx args ≡ Finished end es
  ran = (run_recorded marked program h tx args runs).ran

  own : Meant marked program s.pool owed h end es
  own = meant marked program s owed h end es resting.holds runs ran

  few : (tx < 2 ^ 63) × (length args ≤ 22)
  few = agrees.few tx (length args) takes

  only : HasOne d.cache (view d.cache)
  only = rest_one d.cache resting.rest

  good : Good pool s.done h (view d.cache)
  good = resting.before.good

  empty : count (places.pool_of z) good.attempt (view d.cache) ≡ 0
  empty = sym (count_at z (view d.cache) good.attempt good.attempt_is
      (let fits = good.attempt_fits in omega arith)) ∙ resting.empty

  abbrev typed : Bool
  typed = unsigned_of program tx

  abbrev Answered : Answer → Mode → Device → Type 0
  Answered a n b = (t : SourceState) × RunsBy marked program s (view d.cache) tx args a t
      × Holds program super n b t

  module _ (small : (s.done < 2 ^ 62) × (good.attempt < 2 ^ 62)) (b : Device)
      (mark : rolls_back_of program tx ≡ marked) where
    abbrev last : ℤ
    last = view d.cache LAST

    abbrev Cut : ℤ → Words → Type 0
    Cut x = IsCut pool call (E p es) (W es) h (heap_end h es) x (result_of p x end)

    abbrev Ended : End → Words → Type 0
    Ended e = IsEnded pool call h (heap_end h es) (result_of p last e)

    left : (r : CallAnswer) (k k1 : ℕ) → Called r p program.image tx args d b k k1
        → Images (Cut last) b.cache
        × leaves.AnswerTells r p end es (Images (Ended end) b.cache) k k1
    left r k k1 called =
        call_leaves p program.image super tx args d b (view d.cache) s.done end es few.0 few.1
        small.0 only good small.1 empty ran own.sound r k k1 called

    owes : (r : CallAnswer) (k k1 : ℕ) → Called r p program.image tx args d b k k1
        → OwesBy marked program super owed b (standing_as (Down (Some owed)) s)
    owes r k k1 called =
        record {
          heap = h;
          holds = record {
            headers = resting.holds.headers;
            pool = resting.holds.pool;
            words = resting.holds.words;
          };
          takes = takes;
          words = words;
          end = end;
          effects = es;
          ran = ran;
          left = subst (λ (x : ℤ). Images (Cut x) b.cache) resting.before.last_is
              (left r k k1 called).0;
        }

    cut_off : (r : CallAnswer) (k k1 : ℕ) → Called r p program.image tx args d b k k1
        → Holds program super mode.Down b (standing_as (Down (Some owed)) s)
    cut_off r k k1 called = (
      refl,
      subst (λ (x : Bool). OwesBy x program super owed b (standing_as (Down (Some owed)) s))
          (sym mark) (owes r k k1 called),
    )

    -- after a call that is retired each line has one version
    played_rest : PlaysAll d events b → Retires (result_of p last end) → IsAtRest b.cache
    played_rest all retires =
        subst IsAtRest (sym (all_cache events d b all))
        (call_at_rest p program.image super tx args d.cache (view d.cache) s.done end es few.0 few.1
        small.0 only good small.1 empty ran own.sound retires resting.rest)

    done : (v : ℤ) (l k k1 : ℕ) → Called (called.Done v l) p program.image tx args d b k k1
        → Answered (answer.Done v typed l) mode.Ready b
    done v l k k1 did =
        let all : PlaysAll d events b = did.0.played in
        let tells = (left (called.Done v l) k k1 did).1 in
        let is : end ≡ Halted v = tells.0 in
        let has : HasHalted program (outcome_with program s.pool tx args own.logged) v
        (heap_end h es) = run_halted marked program s.pool owed h end es own v is in
        let ended : Images (Ended (Halted v)) b.cache =
        subst (λ (e : End). Images (Ended e) b.cache) is tells.2 in
        let retired : IsRetired pool (suc s.done) (heap_end h es) v (view b.cache) =
        at_view (Ended (Halted v)) b.cache ended in
        let seen = retired.done in
        let rest : IsAtRest b.cache =
        played_rest all (subst (λ (e : End). Retires (result_of p last e)) (sym is) tt) in
        let t : SourceState = done_with has.pool v Ready s in (
          t,
          (has.pool, run_done marked program s.pool owed h end es own v is l tells.1, refl, refl),
          (
            refl,
            resting_at program super b t (heap_end h es) (all_on events d b all ∙ resting.on) rest
                (record { good = seen.good; last_is = seen.last_is })
                (retired_none pool (suc s.done) (heap_end h es) v (view b.cache) retired)
                (record { headers = has.headers; pool = has.holds; words = has.words }),
          ),
        )

    trap_ends : (kind : TrapKind) (k k1 : ℕ)
        → Called (called.Trap kind) p program.image tx args d b k k1
        → Answered (answer.Trap kind) (mode.Unusable kind) b
    trap_ends kind k k1 did =
        let tells = (left (called.Trap kind) k k1 did).1 in
        let is : end ≡ Trapped kind = tells.1 in
        let ended : Images (Ended (Trapped kind)) b.cache =
        subst (λ (e : End). Images (Ended e) b.cache) is tells.2 in (
          standing_as (Unusable kind) s,
          (
            ends_pool marked tells.0,
            run_trapped marked program s.pool owed h end es own kind is,
            refl,
          ),
          (
            refl,
            subst (λ (q : Policy). Images (IsEnded pool call h (heap_end h es)
                (result_of q last (Trapped kind))) b.cache) tells.0 ended,
            all_on events d b did.1.played ∙ resting.on,
          ),
        )

    -- a call that is rolled back is retired with the heap and the last value from before it
    undone : (kind : TrapKind) (k k1 : ℕ)
        → Called (called.Aborted kind) p program.image tx args d b k k1
        → IsRetired pool (suc s.done) h last (view b.cache)
    undone kind k k1 did =
        let tells = (left (called.Aborted kind) k k1 did).1 in
        at_view (IsEnded pool call h (heap_end h es) (result_of RollBack last (Trapped kind)))
        b.cache
        (subst (λ (q : Policy). Images (IsEnded pool call h (heap_end h es)
        (result_of q last (Trapped kind))) b.cache) tells.0
        (subst (λ (e : End). Images (Ended e) b.cache) tells.1 tells.2))

    rolled_back : (kind : TrapKind) (k k1 : ℕ)
        → Called (called.Aborted kind) p program.image tx args d b k k1
        → Answered (answer.Aborted kind) mode.Ready b
    rolled_back kind k k1 did =
        let all : PlaysAll d events b = did.1.played in
        let tells = (left (called.Aborted kind) k k1 did).1 in
        let is : end ≡ Trapped kind = tells.1 in
        let seen : IsRetired pool (suc s.done) h last (view b.cache) = undone kind k k1 did in
        let rest : IsAtRest b.cache =
        played_rest all (subst (λ (e : End). Retires (result_of p last e)) (sym is)
        (subst (λ (q : Policy). Retires (result_of q last (Trapped kind))) (sym tells.0) tt)) in
        let t : SourceState = undone_as Ready s in (
          t,
          (
            rolls_back marked tells.0,
            run_trapped marked program s.pool owed h end es own kind is,
            refl,
          ),
          (
            refl,
            resting_at program super b t h (all_on events d b all ∙ resting.on) rest
                (record {
                  good = seen.done.good;
                  last_is = seen.done.last_is ∙ resting.before.last_is;
                })
                (retired_none pool (suc s.done) h last (view b.cache) seen)
                (record {
                  headers = resting.holds.headers;
                  pool = resting.holds.pool;
                  words = resting.holds.words;
                }),
          ),
        )

    by_answer : (r : CallAnswer) (k k1 : ℕ) → Called r p program.image tx args d b k k1
        → Answered (answer_of_call typed r) (mode_of_call r) b
    by_answer (called.Done v l) k k1 did = done v l k k1 did
    by_answer (called.Trap kind) k k1 did = trap_ends kind k k1 did
    by_answer (called.Aborted kind) k k1 did = rolled_back kind k k1 did
    by_answer (called.Off at) k k1 did =
        (standing_as (Down (Some owed)) s, refl, cut_off (called.Off at) k k1 did)
    by_answer called.Failed k k1 did =
        (standing_as (Down (Some owed)) s, refl, cut_off called.Failed k k1 did)
    by_answer called.NoMemory k k1 did =
        (standing_as (Down (Some owed)) s, refl, cut_off called.NoMemory k k1 did)
    by_answer (called.Unusable kind) k k1 did = absurd did
    by_answer called.Numbers k k1 did = absurd did

  -- the events of the run after the seal are those of the machine's effects
  pub ran_events : (s.done < 2 ^ 62) × (resting.before.good.attempt < 2 ^ 62) → (q : ℕ) → q < 48
      → Misses q (due_on (policy_of marked) program.image (start program.image tx args)
      (play d.cache (due_seal tx args d.cache))).events
  unfolding good
  ran_events small q less =
      let is = owes_after p program.image super tx args d.cache (view d.cache) s.done end es few.0
      few.1 small.0 only good small.1 empty ran own.sound in
      subst (λ (x : Due). Misses q x.events) (sym is) (misses_run z good.attempt 0 q h es less)

  -- a call that is aborted leaves the heap from before it
  pub call_restores : (s.done < 2 ^ 62) × (resting.before.good.attempt < 2 ^ 62) → (b : Device)
      → rolls_back_of program tx ≡ marked → (kind : TrapKind) (k k1 : ℕ)
      → Called (called.Aborted kind) (policy_of marked) program.image tx args d b k k1
      → IsRolledBack program (heap_in (sizes_of program) d.cache) s.last b
  unfolding good
  call_restores small b mark kind k k1 did =
      let seen = undone small b mark kind k k1 did in
      record {
        heap = seen.done.good.heap;
        last_is = seen.done.last_is ∙ resting.before.last_is;
      }

  -- wherever the call ends, each image that doesn't show it yet has the heap from before
  pub call_keeps : (s.done < 2 ^ 62) × (resting.before.good.attempt < 2 ^ 62) → (b : Device)
      → rolls_back_of program tx ≡ marked → (r : CallAnswer) (k k1 : ℕ)
      → Called r (policy_of marked) program.image tx args d b k k1
      → Images (KeepsIn marked program s.done (heap_in (sizes_of program) d.cache)) b.cache
  unfolding good
  call_keeps small b mark r k k1 did image is =
      cut_keeps program super marked call es h (heap_end h es) (view d.cache LAST) end image
      ((left small b mark r k k1 did).0 image is)

  -- a call that is run to its end takes the steps of its run
  pub call_counts : (s.done < 2 ^ 62) × (resting.before.good.attempt < 2 ^ 62) → (b : Device)
      → rolls_back_of program tx ≡ marked → (u : Bool) (r : CallAnswer) (k k1 : ℕ)
      → RanToEnd (answer_of_call u r)
      → Called r (policy_of marked) program.image tx args d b k k1
      → (taken : ℕ) × TakesBy marked program (heap_in (sizes_of program) d.cache) tx args taken
      × (k1 ≡ k + taken)
  unfolding good
  call_counts small b mark u (called.Done v l) k k1 ran_to did =
      let tells = (left small b mark (called.Done v l) k k1 did).1 in
      (run_steps p end es, (end, es, ran, refl), tells.3)
  call_counts small b mark u (called.Trap kind) k k1 ran_to did =
      let tells = (left small b mark (called.Trap kind) k k1 did).1 in
      (run_steps p end es, (end, es, ran, refl), tells.3)
  call_counts small b mark u (called.Aborted kind) k k1 ran_to did =
      let tells = (left small b mark (called.Aborted kind) k k1 did).1 in
      (run_steps p end es, (end, es, ran, refl), tells.3)
  call_counts small b mark u (called.Off at) k k1 ran_to did = absurd ran_to
  call_counts small b mark u called.Failed k k1 ran_to did = absurd ran_to
  call_counts small b mark u (called.Unusable kind) k k1 ran_to did = absurd ran_to
  call_counts small b mark u called.Numbers k k1 ran_to did = absurd ran_to
  call_counts small b mark u called.NoMemory k k1 ran_to did = absurd ran_to

  pub call_runs : (mark : rolls_back_of program tx ≡ marked) (r : CallAnswer) (b : Device)
      (k k1 : ℕ) → s.standing ≡ Ready
      → IsTxCalled r (policy_of marked) program.image tx args d b k k1
      → Answered (answer_of_call typed r) (mode_of_call r) b
  call_runs mark r b k k1 ready is = go (is_number (view d.cache DONE)
      && is_number (view d.cache ATTEMPT)) refl
    where
      go : (numbers : Bool) → (is_number (view d.cache DONE) && is_number (view d.cache ATTEMPT))
          ≡ numbers → Answered (answer_of_call typed r) (mode_of_call r) b
      go true numbers =
          by_answer (numbers_small (view d.cache) s.done good.attempt good.done good.attempt_is
          numbers) b mark r k k1
          (is.ready resting.on (stands_ready (view d.cache) good.mark numbers))
      go false numbers =
          let same = is.numbers resting.on (stands_numbers (view d.cache) good.mark numbers) in
          let holds : Holds program super mode.Ready b s =
          subst (λ (x : Device). Holds program super mode.Ready x s) (sym same.1)
          (subst (λ (x : Standing). HoldsAs x program super mode.Ready d s) (sym ready)
          (refl, resting)) in
          subst (λ (x : CallAnswer). Answered (answer_of_call typed x) (mode_of_call x) b)
          (sym same.0) (s, (numbers, refl), holds)
