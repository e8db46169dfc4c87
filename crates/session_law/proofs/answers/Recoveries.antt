-- How what a power cut leaves is recovered: where nothing is owed, where a transaction is owed, and
-- where the pool has a mark.
use Rattle.std.proofs.Common.{◌≡◌, ◌≢◌, ◌⊎◌, inl, inr, ℕ, suc, ◌+◌, ◌^◌, ◌<◌, ◌≤◌, Bool, true}
use Rattle.std.proofs.Common.{false, List, length, Some, None, ℤ, pos, refl, sym, ap, ◌∙◌, subst}
use Rattle.std.proofs.Common.{arith}
use Rattle.cache_model.specs.Event.{CacheEvent}
use Rattle.cache_model.specs.Cache.{Words, Cache, view}
use Rattle.cache_model.specs.Play.{play}
use Rattle.cache_model.specs.Image.{Images, HasOne}
use Rattle.cache_model.specs.During.{during}
use Rattle.cache_model.proofs.During.{during_end}
use Rattle.pmem.specs.Device.{Device}
use Rattle.pmem.specs.Played.{PlaysAll, PlaysPart}
use Rattle.pmem.specs.declared.answer.Phase.TheVariants as phase
use Rattle.pmem.specs.declared.answer.Refusal.{Refusal}
use Rattle.pmem.specs.declared.answer.Refusal.TheVariants as refusal
use Rattle.pmem.proofs.Refused.{all_cache, all_on}
use Rattle.pmem.proofs.Parts.{part_during}
use Rattle.pool_layout.specs.declared.places.TheConstants.{LAST, ATTEMPT, MARK, SEAL}
use Rattle.pool_layout.specs.declared.limits.Sizes.{Sizes}
use Rattle.pool_layout.specs.Places as places
use Rattle.pool_layout.specs.Log.{count}
use Rattle.pool_layout.specs.Good.{Pool, Good}
use Rattle.pool_map.specs.declared.trap.TrapKind.{TrapKind}
use Rattle.pool_map.specs.Trap.{trap_number}
use Rattle.clobber_log.specs.Logs.{attempt_of, attempt_in, count_in}
use Rattle.args_log.specs.Pending as record_of
use Rattle.pm_machine.specs.declared.effect.Effect.{Effect}
use Rattle.pm_machine.specs.declared.effect.End.{End}
use Rattle.pm_machine.specs.declared.effect.End.TheVariants.{Halted, Trapped}
use Rattle.pm_machine.specs.declared.records.Policy.{Policy}
use Rattle.pm_machine.specs.declared.records.Policy.TheVariants.{RollBack}
use Rattle.pm_machine.specs.Effects.{heap_end}
use Rattle.pm_machine.specs.Machine.{Finished}
use Rattle.pm_machine.specs.Logging.{tx_run}
use Rattle.crash_law.specs.Pools.{Call, Owed, IsBefore, IsRetired}
use Rattle.crash_law.specs.Law.{KeepsLast, Retires, IsAtRest, IsEnd, IsEnded, IsClean}
use Rattle.run_law.specs.Seen.{result_of, E, W}
use Rattle.recovery.specs.Due.{due_clean, due_redo}
use Rattle.recovery.specs.Found.{has_numbers, names_tx, recorded}
use Rattle.recovery.specs.Recovered.{Cleaned, Redid, IsRecovered, numbers_out, tx_in}
use Rattle.recovery.specs.declared.answer.RecoverAnswer.{RecoverAnswer}
use Rattle.recovery.specs.declared.answer.RecoverAnswer.TheVariants as recovered
use Rattle.cut_law.specs.Law.{call_of, pool_with}
use Rattle.cut_law.specs.Leaves as leaves
use Rattle.cut_law.specs.Steps.{run_steps}
use Rattle.cut_law.proofs.Cleans.{cut_clean}
use Rattle.cut_law.proofs.Leaving.{redo_leaves}
use Rattle.cut_law.proofs.Redoes.{redo_at_rest}
use Rattle.cnvm_session.specs.declared.mode.Mode.{Mode}
use Rattle.cnvm_session.specs.declared.mode.Mode.TheVariants as mode
use Rattle.cnvm_session.specs.declared.answer.Answer.{Answer}
use Rattle.cnvm_session.specs.declared.answer.Answer.TheVariants as answer
use Rattle.cnvm_session.specs.declared.program.Program.{Program}
use Rattle.cnvm_session.specs.Commands.{tx_parameters}
use Rattle.cnvm_session.specs.Marks.{rolls_back_of, policy_of, unsigned_of}
use Rattle.cnvm_session.specs.Outcomes.{answer_of_recovery, mode_of_recovery}
use Rattle.cnvm_session.specs.Outcomes.{RecoversBy}
use Rattle.cnvm_session.specs.Pool.{sizes_of}
use Rattle.session_law.specs.Source.{outcome_with}
use Rattle.session_law.specs.Words.{AreWords}
use Rattle.session_law.specs.Agrees.{Agrees}
use Rattle.session_law.specs.State.{Pending, Ready, Down, Unusable, SourceState, standing_as}
use Rattle.session_law.specs.State.{done_with, undone_as}
use Rattle.session_law.specs.Answers.{HasSeal, Rests, RedoesBy}
use Rattle.session_law.specs.Holds.{HoldsPool, OwesBy, Holds}
use Rattle.session_law.specs.Law.{IsRolledBack, IsRedone}
use Rattle.session_law.proofs.Words.{held_words}
use Rattle.session_law.proofs.images.Ones.{rest_one, rest_images, at_view}
use Rattle.session_law.proofs.images.Retired.{attempt_small, count_at, retired_none}
use Rattle.session_law.proofs.images.Cleaning.{missed_at, rest_at, clean_last, clean_rest}
use Rattle.session_law.proofs.images.Redone.{redo_misses}
use Rattle.session_law.proofs.images.Reading.{kind_read, is_unsealed, is_owed, room_of, names_one}
use Rattle.session_law.proofs.images.Reading.{recorded_is}
use Rattle.session_law.proofs.images.Resting.{resting_at, ends_pool, rolls_back, Meant, meant}
use Rattle.session_law.proofs.images.Resting.{HasHalted}
use Rattle.session_law.proofs.images.Resting.{run_halted, run_done, run_trapped}

-- whether the numbers are out, by the image's own attempt
pub numbers_at : (z : Sizes) (image : Words) (a : ℕ) → image ATTEMPT ≡ pos a → a ≤ 2 ^ 62 + 2
    → has_numbers (count_in z image) (attempt_in z image) ≡ false → 0 < count_in z image
    → a < 2 ^ 62
numbers_at z image a is fits none some =
    room_of (count_in z image) a (ap (has_numbers (count_in z image))
    (sym (ap attempt_of is ∙ attempt_small a fits)) ∙ none) some

-- a pool with a mark, whatever its record names
pub marked_recovers : (program : Program) (e b : Device) (kind : TrapKind) (marked u : Bool)
    (a : Answer) (n : Mode) (k k1 : ℕ) → e.on ≡ true
    → view e.cache MARK ≡ pos (trap_number kind) → view e.cache MARK ≢ pos 0
    → RecoversBy marked u program.image e a n b k k1
    → (a ≡ answer.RefusedUnusable kind) × (n ≡ mode.Unusable kind) × (b ≡ e)
marked_recovers program e b kind marked u a n k k1 on mark some is =
    let same = is.recovered.unusable on some in
    let read : is.tx_answer ≡ recovered.Unusable kind =
    same.0 ∙ ap recovered.Unusable (kind_read (view e.cache MARK) kind mark) in (
      is.answer ∙ ap (answer_of_recovery u) read,
      is.mode ∙ ap mode_of_recovery read,
      same.1,
    )

-- The recovery where nothing is owed.
module _ (program : Program) (super : Words) (e : Device) (s : SourceState) (h : Words)
    (on : e.on ≡ true) (rest : IsAtRest e.cache) (holds : HoldsPool program h s)
    (before : IsBefore (pool_with program.image super) s.done h s.last (view e.cache)) where
  abbrev z : Sizes
  z = sizes_of program

  abbrev pool : Pool
  pool = pool_with program.image super

  abbrev one : Words
  one = view e.cache

  abbrev n : ℕ
  n = count_in z one

  abbrev down : SourceState
  down = standing_as (Down None) s

  abbrev Rested : Answer → Mode → Device → Type 0
  Rested a m b = (t : SourceState) × Rests program down one a t × Holds program super m b t

  abbrev Kept : Words → Type 0
  Kept = IsBefore pool s.done h s.last

  counted : count (places.pool_of z) before.good.attempt one ≡ n
  counted = sym (count_at z one before.good.attempt before.good.attempt_is
      (let fits = before.good.attempt_fits in omega arith))

  owes : (b : Device) → Images Kept b.cache → Holds program super mode.Down b down
  owes b left = (
    refl,
    record {
      heap = h;
      holds = record { headers = holds.headers; pool = holds.pool; words = holds.words };
      left = left;
    },
  )

  module _ (room : 0 < n → before.good.attempt < 2 ^ 62) (b : Device) where
    abbrev events : List CacheEvent
    events = due_clean z n e.cache

    cut : during e.cache events (Images (Good pool s.done h))
        × Images (IsClean pool s.done h) (play e.cache events)
    cut = cut_clean program.image super e.cache one s.done h (rest_one e.cache rest) before.good n
        counted room

    last : during e.cache events (Images (λ (image : Words). image LAST ≡ one 16))
    last = clean_last z n e.cache rest

    part : (why : Refusal) → PlaysPart why e events b → Images Kept b.cache
    part why p image is =
        record {
          good = part_during (Images (Good pool s.done h)) why events e b p cut.0 image is;
          last_is = part_during (Images (λ (other : Words). other 16 ≡ one 16)) why events e b p
              last image is ∙ before.last_is;
        }

    clean : PlaysAll e events b → Rested answer.RecoveredNone mode.Ready b
    clean all =
        let played : b.cache ≡ play e.cache events = all_cache events e b all in
        let t : SourceState = standing_as Ready s in
        let seen : IsClean pool s.done h (view b.cache) =
        at_view (IsClean pool s.done h) b.cache
        (subst (Images (IsClean pool s.done h)) (sym played) cut.1) in
        let last_is : view b.cache LAST ≡ one 16 =
        at_view (λ (image : Words). image LAST ≡ one 16) b.cache
        (subst (Images (λ (image : Words). image LAST ≡ one 16)) (sym played)
        (during_end e.cache events (Images (λ (image : Words). image LAST ≡ one 16)) last)) in
        let none : count_in z (view b.cache) ≡ 0 =
        count_at z (view b.cache) seen.good.attempt seen.good.attempt_is
        (let fits = seen.good.attempt_fits in omega arith)
        ∙ seen.empty seen.good.attempt seen.good.attempt_is in (
          t,
          refl,
          (
            refl,
            resting_at program super b t h (all_on events e b all ∙ on)
                (subst IsAtRest (sym played) (clean_rest z n e.cache rest))
                (record { good = seen.good; last_is = last_is ∙ before.last_is })
                none
                (record { headers = holds.headers; pool = holds.pool; words = holds.words }),
          ),
        )

    -- every image has the heap from before, whatever the recovery answers
    whole : PlaysAll e events b → Images Kept b.cache
    whole all image is =
        let played : b.cache ≡ play e.cache events = all_cache events e b all in
        record {
          good = (subst (Images (IsClean pool s.done h)) (sym played) cut.1 image is).good;
          last_is =
              subst (Images (λ (other : Words). other 16 ≡ one 16)) (sym played)
              (during_end e.cache events (Images (λ (other : Words). other 16 ≡ one 16)) last)
              image is ∙ before.last_is;
        }

    left_after : (r : RecoverAnswer) → Cleaned r e events b → Images Kept b.cache
    left_after recovered.Clean all = whole all
    left_after (recovered.Off phase.Unsealed) p = part refusal.Off p
    left_after (recovered.Off phase.Sealing) p = absurd p
    left_after (recovered.Off phase.Sealed) p = absurd p
    left_after recovered.Failed p = part refusal.Failed p
    left_after recovered.NoMemory p = part refusal.NoMemory p
    left_after (recovered.Redone v l) p = absurd p
    left_after (recovered.Trap kind) p = absurd p
    left_after (recovered.Aborted kind) p = absurd p
    left_after (recovered.Unusable kind) p = absurd p
    left_after recovered.Numbers p = absurd p

    cleaned : (u : Bool) (r : RecoverAnswer) → Cleaned r e events b
        → Rested (answer_of_recovery u r) (mode_of_recovery r) b
    cleaned u recovered.Clean all = clean all
    cleaned u (recovered.Off phase.Unsealed) p = (down, (refl, refl), owes b (part refusal.Off p))
    cleaned u (recovered.Off phase.Sealing) p = absurd p
    cleaned u (recovered.Off phase.Sealed) p = absurd p
    cleaned u recovered.Failed p = (down, refl, owes b (part refusal.Failed p))
    cleaned u recovered.NoMemory p = (down, refl, owes b (part refusal.NoMemory p))
    cleaned u (recovered.Redone v l) p = absurd p
    cleaned u (recovered.Trap kind) p = absurd p
    cleaned u (recovered.Aborted kind) p = absurd p
    cleaned u (recovered.Unusable kind) p = absurd p
    cleaned u recovered.Numbers p = absurd p

  pub rest_recovers : (p : Policy) (u : Bool) (r : RecoverAnswer) (b : Device) (k k1 : ℕ)
      → IsRecovered r p program.image e b k k1
      → Rested (answer_of_recovery u r) (mode_of_recovery r) b
  rest_recovers p u r b k k1 is = go (numbers_out program.image e) refl
    where
      go : (out : Bool) → numbers_out program.image e ≡ out
          → Rested (answer_of_recovery u r) (mode_of_recovery r) b
      go true out =
          let same = is.numbers on before.good.mark out in
          subst (λ (x : RecoverAnswer). Rested (answer_of_recovery u x) (mode_of_recovery x) b)
          (sym same.0) (
            down,
            (out, refl),
            owes b (subst (λ (x : Device). Images Kept x.cache) (sym same.1)
                (rest_images Kept e.cache rest before)),
          )
      go false in_range =
          cleaned (numbers_at z one before.good.attempt before.good.attempt_is
          (let fits = before.good.attempt_fits in omega arith) in_range) b u r
          (is.clean on before.good.mark in_range
          (is_unsealed one s.done before.good.done before.good.unsealed))

  pub rest_left : (p : Policy) (r : RecoverAnswer) (b : Device) (k k1 : ℕ)
      → IsRecovered r p program.image e b k k1
      → Images (IsBefore (pool_with program.image super) s.done h s.last) b.cache
  rest_left p r b k k1 is = go (numbers_out program.image e) refl
    where
      go : (out : Bool) → numbers_out program.image e ≡ out → Images Kept b.cache
      go true out = subst (λ (x : Device). Images Kept x.cache)
          (sym (is.numbers on before.good.mark out).1) (rest_images Kept e.cache rest before)
      go false in_range =
          left_after (numbers_at z one before.good.attempt before.good.attempt_is
          (let fits = before.good.attempt_fits in omega arith) in_range) b r
          (is.clean on before.good.mark in_range
          (is_unsealed one s.done before.good.done before.good.unsealed))

-- The recovery where a transaction is owed.
module _ (marked : Bool) (program : Program) (super : Words) (agrees : Agrees program)
    (e : Device) (s : SourceState) (owed : Pending) (h : Words) (end : End) (es : List Effect)
    (on : e.on ≡ true) (rest : IsAtRest e.cache) (holds : HoldsPool program h s)
    (takes : tx_parameters program.image owed.tx ≡ Some (length owed.args))
    (words : AreWords owed.args)
    (ran : tx_run (policy_of marked) program.image program.image.parts.most h owed.tx owed.args
    ≡ Finished end es)
    (mark : rolls_back_of program owed.tx ≡ marked)
    (sealed : Owed (pool_with program.image super) (call_of s.done owed.tx owed.args)
    (E (policy_of marked) es) (W es) h (KeepsLast (result_of (policy_of marked) s.last end))
    (view e.cache)) where
  abbrev p : Policy
  p = policy_of marked

  abbrev sizes : Sizes
  sizes = sizes_of program

  abbrev its_pool : Pool
  its_pool = pool_with program.image super

  abbrev image : Words
  image = view e.cache

  abbrev m : ℕ
  m = count_in sizes image

  abbrev call : Call
  call = call_of s.done owed.tx owed.args

  abbrev waiting : SourceState
  waiting = standing_as (Down (Some owed)) s

  abbrev typed : Bool
  typed = unsigned_of program owed.tx

  abbrev Redone : Answer → Mode → Device → Type 0
  Redone a n b = (t : SourceState) × RedoesBy marked program owed waiting image a t
      × Holds program super n b t

  own : Meant marked program s.pool owed h end es
  own = meant marked program s owed h end es holds
      (agrees.runs h owed.tx owed.args holds.headers (held_words program h s holds) words takes) ran

  few : length owed.args ≤ 22
  few = (agrees.few owed.tx (length owed.args) takes).1

  only : HasOne e.cache image
  only = rest_one e.cache rest

  abbrev Ended : End → Words → Type 0
  Ended x = IsEnded its_pool call h (heap_end h es) (result_of p s.last x)

  abbrev Left : Words → Type 0
  Left other = Owed its_pool call (E p es) (W es) h (KeepsLast (result_of p s.last end)) other
      ⊎ IsEnd its_pool call h (heap_end h es) (result_of p s.last end) other

  owing : (b : Device) → Images Left b.cache → Holds program super mode.Down b waiting
  owing b left = (
    refl,
    subst (λ (x : Bool). OwesBy x program super owed b waiting) (sym mark)
        (record {
          heap = h;
          holds = record { headers = holds.headers; pool = holds.pool; words = holds.words };
          takes = takes;
          words = words;
          end = end;
          effects = es;
          ran = ran;
          left = λ other is. inr (left other is);
        }),
  )

  counted_m : count (places.pool_of sizes) sealed.attempt image ≡ m
  counted_m = sym (count_at sizes image sealed.attempt sealed.attempt_is
      (let fits = sealed.attempt_fits in omega arith))

  module _ (space : 0 < m → sealed.attempt < 2 ^ 62) (b : Device) where
    abbrev list : List CacheEvent
    list = due_redo p program.image owed.tx owed.args m e.cache

    leaves_it : (r : RecoverAnswer) (k k1 : ℕ)
        → Redid r p program.image owed.tx owed.args m e b k k1
        → Images Left b.cache
        × leaves.Retells r p end es (Images (Ended end) b.cache) (k + m) k1
    leaves_it r k k1 redid = redo_leaves p program.image super owed.tx owed.args e b image s.done h
        s.last end es few only sealed ran own.sound m counted_m space r k k1 redid

    -- after a recovery that retires the call each line has one version
    played_rest : PlaysAll e list b → Retires (result_of p s.last end) → IsAtRest b.cache
    played_rest all retires =
        subst IsAtRest (sym (all_cache list e b all))
        (redo_at_rest p program.image super owed.tx owed.args e.cache image s.done h s.last end es
        few only sealed ran own.sound m counted_m space retires rest)

    redone : (v : ℤ) (l k k1 : ℕ)
        → Redid (recovered.Redone v l) p program.image owed.tx owed.args m e b k k1
        → Redone (answer.RecoveredRedone v typed l) mode.Ready b
    redone v l k k1 redid =
        let all : PlaysAll e list b = redid.0.played in
        let tells = (leaves_it (recovered.Redone v l) k k1 redid).1 in
        let is : end ≡ Halted v = tells.0 in
        let has : HasHalted program (outcome_with program s.pool owed.tx owed.args own.logged) v
        (heap_end h es) = run_halted marked program s.pool owed h end es own v is in
        let ended : Images (Ended (Halted v)) b.cache =
        subst (λ (x : End). Images (Ended x) b.cache) is tells.2 in
        let retired : IsRetired its_pool (suc s.done) (heap_end h es) v (view b.cache) =
        at_view (Ended (Halted v)) b.cache ended in
        let seen = retired.done in
        let rested : IsAtRest b.cache =
        played_rest all (subst (λ (x : End). Retires (result_of p s.last x)) (sym is) tt) in
        let t : SourceState = done_with has.pool v Ready s in (
          t,
          (has.pool, run_done marked program s.pool owed h end es own v is l tells.1, refl, refl),
          (
            refl,
            resting_at program super b t (heap_end h es) (all_on list e b all ∙ on) rested
                (record { good = seen.good; last_is = seen.last_is })
                (retired_none its_pool (suc s.done) (heap_end h es) v (view b.cache) retired)
                (record { headers = has.headers; pool = has.holds; words = has.words }),
          ),
        )

    trap_ends : (kind : TrapKind) (k k1 : ℕ)
        → Redid (recovered.Trap kind) p program.image owed.tx owed.args m e b k k1
        → Redone (answer.RecoveredTrap kind) (mode.Unusable kind) b
    trap_ends kind k k1 redid =
        let tells = (leaves_it (recovered.Trap kind) k k1 redid).1 in
        let is : end ≡ Trapped kind = tells.1 in
        let ended : Images (Ended (Trapped kind)) b.cache =
        subst (λ (x : End). Images (Ended x) b.cache) is tells.2 in (
          standing_as (Unusable kind) s,
          (
            ends_pool marked tells.0,
            run_trapped marked program s.pool owed h end es own kind is,
            refl,
          ),
          (
            refl,
            subst (λ (q : Policy). Images (IsEnded its_pool call h (heap_end h es)
                (result_of q s.last (Trapped kind))) b.cache) tells.0 ended,
            all_on list e b redid.1.played ∙ on,
          ),
        )

    -- a call that is rolled back is retired with the heap and the last value from before it
    undone : (kind : TrapKind) (k k1 : ℕ)
        → Redid (recovered.Aborted kind) p program.image owed.tx owed.args m e b k k1
        → IsRetired its_pool (suc s.done) h s.last (view b.cache)
    undone kind k k1 redid =
        let tells = (leaves_it (recovered.Aborted kind) k k1 redid).1 in
        at_view (IsEnded its_pool call h (heap_end h es)
        (result_of RollBack s.last (Trapped kind))) b.cache
        (subst (λ (q : Policy). Images (IsEnded its_pool call h (heap_end h es)
        (result_of q s.last (Trapped kind))) b.cache) tells.0
        (subst (λ (x : End). Images (Ended x) b.cache) tells.1 tells.2))

    rolled_back : (kind : TrapKind) (k k1 : ℕ)
        → Redid (recovered.Aborted kind) p program.image owed.tx owed.args m e b k k1
        → Redone (answer.RecoveredAborted kind) mode.Ready b
    rolled_back kind k k1 redid =
        let all : PlaysAll e list b = redid.1.played in
        let tells = (leaves_it (recovered.Aborted kind) k k1 redid).1 in
        let is : end ≡ Trapped kind = tells.1 in
        let seen : IsRetired its_pool (suc s.done) h s.last (view b.cache) =
        undone kind k k1 redid in
        let rested : IsAtRest b.cache =
        played_rest all (subst (λ (x : End). Retires (result_of p s.last x)) (sym is)
        (subst (λ (q : Policy). Retires (result_of q s.last (Trapped kind))) (sym tells.0) tt)) in
        let t : SourceState = undone_as Ready s in (
          t,
          (
            rolls_back marked tells.0,
            run_trapped marked program s.pool owed h end es own kind is,
            refl,
          ),
          (
            refl,
            resting_at program super b t h (all_on list e b all ∙ on) rested
                (record { good = seen.done.good; last_is = seen.done.last_is })
                (retired_none its_pool (suc s.done) h s.last (view b.cache) seen)
                (record { headers = holds.headers; pool = holds.pool; words = holds.words }),
          ),
        )

    redo_back : (kind : TrapKind) (k k1 : ℕ)
        → Redid (recovered.Aborted kind) p program.image owed.tx owed.args m e b k k1
        → IsRolledBack program h s.last b
    redo_back kind k k1 redid =
        let seen = undone kind k k1 redid in
        record { heap = seen.done.good.heap; last_is = seen.done.last_is }

    redid_by : (r : RecoverAnswer) (k k1 : ℕ)
        → Redid r p program.image owed.tx owed.args m e b k k1
        → Redone (answer_of_recovery typed r) (mode_of_recovery r) b
    redid_by (recovered.Redone v l) k k1 redid = redone v l k k1 redid
    redid_by (recovered.Trap kind) k k1 redid = trap_ends kind k k1 redid
    redid_by (recovered.Aborted kind) k k1 redid = rolled_back kind k k1 redid
    redid_by (recovered.Off phase.Sealed) k k1 redid =
        (waiting, (refl, refl), owing b (leaves_it (recovered.Off phase.Sealed) k k1 redid).0)
    redid_by (recovered.Off phase.Unsealed) k k1 redid = absurd redid
    redid_by (recovered.Off phase.Sealing) k k1 redid = absurd redid
    redid_by recovered.Failed k k1 redid =
        (waiting, refl, owing b (leaves_it recovered.Failed k k1 redid).0)
    redid_by recovered.NoMemory k k1 redid =
        (waiting, refl, owing b (leaves_it recovered.NoMemory k k1 redid).0)
    redid_by recovered.Clean k k1 redid = absurd redid
    redid_by (recovered.Unusable kind) k k1 redid = absurd redid
    redid_by recovered.Numbers k k1 redid = absurd redid

  -- the record names the transaction and its arguments
  pub tx_is : tx_in e ≡ owed.tx
  tx_is = ap record_of.tx_number (sealed.call_is 0 (omega arith))

  args_are : recorded program.image owed.tx image ≡ owed.args
  args_are = recorded_is program.image owed.tx owed.args image takes few (λ k less.
      sealed.call_is k less)

  -- the call that the recovery makes, where its numbers aren't out
  its_call : (r : RecoverAnswer) (b : Device) (k k1 : ℕ) → numbers_out program.image e ≡ false
      → IsRecovered r p program.image e b k k1
      → Redid r p program.image owed.tx owed.args m e b k k1
  its_call r b k k1 in_range is =
      let named = subst (λ (tx : ℕ). names_tx program.image tx ≡ true) (sym tx_is)
      (names_one program.image owed.tx (length owed.args) takes) in
      let redid = is.redid on sealed.mark in_range (is_owed image s.done sealed.done sealed.sealed)
      named in
      let its_tx = subst (λ (tx : ℕ). Redid r p program.image tx (recorded program.image tx image) m
      e b k k1) tx_is redid in
      subst (λ (args : List ℤ). Redid r p program.image owed.tx args m e b k k1) args_are its_tx

  space_in : numbers_out program.image e ≡ false → 0 < m → sealed.attempt < 2 ^ 62
  space_in in_range = numbers_at sizes image sealed.attempt sealed.attempt_is
      (let fits = sealed.attempt_fits in omega arith) in_range

  -- a recovery that runs the call to its end takes one step for each valid record, and those of the
  -- run
  pub redo_counts : (u : Bool) (r : RecoverAnswer) (b : Device) (k k1 : ℕ)
      → IsRedone (answer_of_recovery u r) → IsRecovered r (policy_of marked) program.image e b k k1
      → k1 ≡ k + (count_in (sizes_of program) (view e.cache) + run_steps (policy_of marked) end es)
  redo_counts u r b k k1 redo is = go (numbers_out program.image e) refl
    where
      taken : (x : RecoverAnswer) (A : Type 0) → IsRedone (answer_of_recovery u x)
          → leaves.Retells x p end es A (k + m) k1 → k1 ≡ k + (m + run_steps p end es)
      taken (recovered.Redone v l) A some tells = let count = tells.3 in omega (arith, count)
      taken (recovered.Trap kind) A some tells = let count = tells.3 in omega (arith, count)
      taken (recovered.Aborted kind) A some tells = let count = tells.3 in omega (arith, count)
      taken recovered.Clean A some tells = absurd some
      taken (recovered.Unusable kind) A some tells = absurd some
      taken recovered.Numbers A some tells = absurd some
      taken (recovered.Off at) A some tells = absurd some
      taken recovered.Failed A some tells = absurd some
      taken recovered.NoMemory A some tells = absurd some

      go : (out : Bool) → numbers_out program.image e ≡ out
          → k1 ≡ k + (m + run_steps p end es)
      go true out = absurd (subst (λ (x : RecoverAnswer). IsRedone (answer_of_recovery u x))
          (is.numbers on sealed.mark out).0 redo)
      go false in_range = taken r (Images (Ended end) b.cache) redo
          (leaves_it (space_in in_range) b r k k1 (its_call r b k k1 in_range is)).1

  -- a recovery that is aborted leaves the heap from before the call
  pub redo_restores : (kind : TrapKind) (r : RecoverAnswer) (b : Device) (k k1 : ℕ)
      → r ≡ recovered.Aborted kind → IsRecovered r (policy_of marked) program.image e b k k1
      → IsRolledBack program h s.last b
  redo_restores kind r b k k1 rolled is = go (numbers_out program.image e) refl
    where
      go : (out : Bool) → numbers_out program.image e ≡ out → IsRolledBack program h s.last b
      go true out =
          let clash : recovered.Numbers ≡ recovered.Aborted kind =
          sym (is.numbers on sealed.mark out).0 ∙ rolled in
          absurd cc
      go false in_range =
          redo_back (space_in in_range) b kind k k1
          (subst (λ (x : RecoverAnswer). Redid x p program.image owed.tx owed.args m e b k k1)
          rolled (its_call r b k k1 in_range is))

  pub redo_recovers : (r : RecoverAnswer) (b : Device) (k k1 : ℕ)
      → IsRecovered r (policy_of marked) program.image e b k k1
      → Redone (answer_of_recovery typed r) (mode_of_recovery r) b
  redo_recovers r b k k1 is = go (numbers_out program.image e) refl
    where
      go : (out : Bool) → numbers_out program.image e ≡ out
          → Redone (answer_of_recovery typed r) (mode_of_recovery r) b
      go true out =
          let same = is.numbers on sealed.mark out in
          subst (λ (x : RecoverAnswer). Redone (answer_of_recovery typed x) (mode_of_recovery x) b)
          (sym same.0) (
            waiting,
            (out, refl),
            owing b
                (subst (λ (x : Device). Images Left x.cache) (sym same.1)
                (rest_images Left e.cache rest (inl sealed))),
          )
      go false in_range = redid_by (space_in in_range) b r k k1 (its_call r b k k1 in_range is)

  -- what every image is after the recovery, whatever it answers
  pub redo_left : (r : RecoverAnswer) (b : Device) (k k1 : ℕ)
      → IsRecovered r (policy_of marked) program.image e b k k1
      → Images (λ (other : Words).
      Owed (pool_with program.image super) (call_of s.done owed.tx owed.args)
      (E (policy_of marked) es) (W es) h (KeepsLast (result_of (policy_of marked) s.last end)) other
      ⊎ IsEnd (pool_with program.image super) (call_of s.done owed.tx owed.args) h (heap_end h es)
      (result_of (policy_of marked) s.last end) other) b.cache
  redo_left r b k k1 is = go (numbers_out program.image e) refl
    where
      go : (out : Bool) → numbers_out program.image e ≡ out → Images Left b.cache
      go true out = subst (λ (x : Device). Images Left x.cache)
          (sym (is.numbers on sealed.mark out).1)
          (rest_images Left e.cache rest (inl sealed))
      go false in_range = (leaves_it (space_in in_range) b r k k1 (its_call r b k k1 in_range is)).0

  abbrev SealIs : Cache → Type 0
  SealIs = Images (λ (other : Words). other SEAL ≡ image SEAL)

  abbrev redo_list : List CacheEvent
  redo_list = due_redo p program.image owed.tx owed.args m e.cache

  -- each image that a recovery leaves still has the seal, whatever it answers
  pub redo_keeps_seal : (r : RecoverAnswer) (b : Device) (k k1 : ℕ)
      → IsRecovered r (policy_of marked) program.image e b k k1 → Images (HasSeal s) b.cache
  redo_keeps_seal r b k k1 is = go (numbers_out program.image e) refl
    where
      here : SealIs e.cache
      here = rest_images (λ (other : Words). other SEAL ≡ image SEAL) e.cache rest refl

      sealed_by : SealIs b.cache → Images (HasSeal s) b.cache
      sealed_by kept other among = kept other among ∙ sealed.sealed

      by_answer : (x : RecoverAnswer) → during e.cache redo_list SealIs
          → Redid x p program.image owed.tx owed.args m e b k k1 → SealIs b.cache
      by_answer (recovered.Redone v l) all h =
          subst SealIs (sym (all_cache redo_list e b h.0.played))
          (during_end e.cache redo_list SealIs all)
      by_answer (recovered.Trap kind) all h =
          subst SealIs (sym (all_cache redo_list e b h.1.played))
          (during_end e.cache redo_list SealIs all)
      by_answer (recovered.Aborted kind) all h =
          subst SealIs (sym (all_cache redo_list e b h.1.played))
          (during_end e.cache redo_list SealIs all)
      by_answer (recovered.Off phase.Sealed) all h =
          part_during SealIs refusal.Off redo_list e b h all
      by_answer (recovered.Off phase.Unsealed) all h = absurd h
      by_answer (recovered.Off phase.Sealing) all h = absurd h
      by_answer recovered.Failed all h = part_during SealIs refusal.Failed redo_list e b h all
      by_answer recovered.NoMemory all (inl h) =
          subst (λ (x : Device). SealIs x.cache) (sym h.0) here
      by_answer recovered.NoMemory all (inr h) =
          part_during SealIs refusal.NoMemory redo_list e b h all
      by_answer recovered.Clean all h = absurd h
      by_answer (recovered.Unusable kind) all h = absurd h
      by_answer recovered.Numbers all h = absurd h

      go : (out : Bool) → numbers_out program.image e ≡ out → Images (HasSeal s) b.cache
      go true out =
          sealed_by (subst (λ (x : Device). SealIs x.cache)
          (sym (is.numbers on sealed.mark out).1) here)
      go false in_range =
          sealed_by (by_answer r
          (missed_at SEAL (image SEAL) redo_list e.cache
          (redo_misses p program.image super owed.tx owed.args e.cache image s.done h s.last end es
          few only sealed ran own.sound m counted_m (space_in in_range) refl)
          (rest_at SEAL e.cache rest))
          (its_call r b k k1 in_range is))
