-- A power cut, by what is owed, and the recovery after it.
use Rattle.std.proofs.Common.{◌≡◌, inl, inr, ℕ, suc, ◌&&◌, Bool, true, false}
use Rattle.std.proofs.Common.{List, Option, Some, None, ℤ, pos, refl, sym, ap, ◌∙◌, subst, arith}
use Rattle.cache_model.specs.Cache.{Words, view}
use Rattle.cache_model.specs.Image.{Images}
use Rattle.cache_model.specs.Collapse.{bad}
use Rattle.cache_model.specs.declared.choice.Choice.{Choice}
use Rattle.pmem.specs.Device.{Device, memory_of, powered}
use Rattle.pool_map.specs.declared.trap.TrapKind.{TrapKind}
use Rattle.pool_map.specs.Trap.{trap_number}
use Rattle.pm_machine.specs.declared.effect.Effect.{Effect}
use Rattle.pm_machine.specs.declared.effect.End.{End}
use Rattle.pm_machine.specs.declared.effect.End.TheVariants.{Halted, Trapped}
use Rattle.pm_machine.specs.declared.records.Policy.{Policy}
use Rattle.pm_machine.specs.declared.records.Policy.TheVariants.{EndPool}
use Rattle.pm_machine.specs.Effects.{heap_end}
use Rattle.pool_layout.specs.declared.places.TheConstants.{DONE, MARK}
use Rattle.pool_layout.specs.Good.{Lost, Pool}
use Rattle.pool_layout.specs.Image.{is_sealed}
use Rattle.c_meaning.specs.Transaction.{Done, Trap}
use Rattle.crash_law.specs.Pools.{Call, IsBefore, IsDone}
use Rattle.crash_law.specs.Law.{IsAtRest, IsCut, IsEnd}
use Rattle.run_law.specs.Seen.{result_of, E, W}
use Rattle.args_log.specs.Pending.{tx_number}
use Rattle.recovery.specs.Recovered.{tx_in}
use Rattle.cut_law.specs.Law.{call_of, pool_with}
use Rattle.cnvm_session.specs.declared.mode.Mode.{Mode}
use Rattle.cnvm_session.specs.declared.mode.Mode.TheVariants as mode
use Rattle.cnvm_session.specs.declared.answer.Answer.{Answer}
use Rattle.cnvm_session.specs.declared.answer.Answer.TheVariants as answer
use Rattle.cnvm_session.specs.declared.program.Program.{Program}
use Rattle.cnvm_session.specs.Marks.{rolls_back_of, policy_of, owes_marked}
use Rattle.cnvm_session.specs.Marks.{unsigned_of, owes_unsigned}
use Rattle.cnvm_session.specs.Outcomes.{RecoversBy}
use Rattle.cnvm_session.specs.Outcomes as outcomes
use Rattle.cnvm_session.specs.Commands as commanded
use Rattle.cnvm_session.specs.Commands.{fallen}
use Rattle.session_law.specs.Source.{outcome_with}
use Rattle.session_law.specs.Agrees.{Agrees}
use Rattle.session_law.specs.State.{Pending, Standing, Ready, Down, Unusable, SourceState}
use Rattle.session_law.specs.State.{standing_as, done_with, undone_as}
use Rattle.session_law.specs.Answers.{HasSeal, IsConcluded, FindsOf, FindsOwed, Rests}
use Rattle.session_law.specs.Answers.{RedoesBy, Recovers, MarksAs}
use Rattle.session_law.specs.Answers.{IsMarked, Powers}
use Rattle.session_law.specs.Holds.{HoldsPool, OwesNone, OwesBy, HoldsAs, Holds, HeldAs}
use Rattle.session_law.proofs.Words.{held_words}
use Rattle.session_law.proofs.images.Ones.{rest_images, at_view, left_rest, at_left}
use Rattle.session_law.proofs.images.Reading.{is_marked, is_unsealed, is_owed}
use Rattle.session_law.proofs.images.Resting.{resting_owes, Meant, meant, HasHalted, run_halted}
use Rattle.session_law.proofs.images.Resting.{run_trapped}
use Rattle.session_law.proofs.answers.Recoveries.{marked_recovers, rest_recovers, redo_recovers}

-- a recovery of what is found never answers that the pool has a mark, or that a pick doesn't fit

no_mark : (program : Program) (st : Standing) (found t : SourceState)
    (image : Words) (kind : TrapKind)
    → Recovers st program found image (answer.RefusedUnusable kind) t → ⊥
no_mark program Ready found t image kind is = is
no_mark program (Down None) found t image kind is = is
no_mark program (Down (Some owed)) found t image kind is = is
no_mark program (Unusable trap) found t image kind is = is

no_pick : (program : Program) (st : Standing) (found t : SourceState)
    (image : Words) (line : ℕ)
    → Recovers st program found image (answer.RefusedPick line) t → ⊥
no_pick program Ready found t image line is = is
no_pick program (Down None) found t image line is = is
no_pick program (Down (Some owed)) found t image line is = is
no_pick program (Unusable trap) found t image line is = is

powers_of :
    (program : Program) (s found t : SourceState) (image : Words) (a : Answer) →
    image MARK ≡ pos 0 → FindsOwed s.standing program s image found
    → Recovers found.standing program found image a t → Powers program s image a t
powers_of program s found t image (answer.RefusedUnusable kind) mark finds is =
    absurd (no_mark program found.standing found t image kind is)
powers_of program s found t image (answer.RefusedPick line) mark finds is =
    absurd (no_pick program found.standing found t image line is)
powers_of program s found t image answer.Silent mark finds is = (mark, (found, finds, is))
powers_of program s found t image (answer.Done v u l) mark finds is = (mark, (found, finds, is))
powers_of program s found t image (answer.Trap kind) mark finds is = (mark, (found, finds, is))
powers_of program s found t image (answer.Aborted kind) mark finds is = (mark, (found, finds, is))
powers_of program s found t image (answer.Stopped p) mark finds is = (mark, (found, finds, is))
powers_of program s found t image answer.DeviceFault mark finds is = (mark, (found, finds, is))
powers_of program s found t image answer.RecoveredNone mark finds is = (mark, (found, finds, is))
powers_of program s found t image (answer.RecoveredRedone v u l) mark finds is =
    (mark, (found, finds, is))
powers_of program s found t image (answer.RecoveredTrap kind) mark finds is =
    (mark, (found, finds, is))
powers_of program s found t image (answer.RecoveredAborted kind) mark finds is =
    (mark, (found, finds, is))
powers_of program s found t image (answer.Shown text) mark finds is = (mark, (found, finds, is))
powers_of program s found t image (answer.ShownDead trap text) mark finds is =
    (mark, (found, finds, is))
powers_of program s found t image (answer.Last f v) mark finds is = (mark, (found, finds, is))
powers_of program s found t image answer.NoMemory mark finds is = (mark, (found, finds, is))
powers_of program s found t image answer.RefusedDown mark finds is = (mark, (found, finds, is))
powers_of program s found t image answer.RefusedUnknown mark finds is = (mark, (found, finds, is))
powers_of program s found t image answer.RefusedArity mark finds is = (mark, (found, finds, is))
powers_of program s found t image answer.RefusedNumbers mark finds is = (mark, (found, finds, is))

-- a state that is down with nothing owed
down_same : (found : SourceState) → found.standing ≡ Down None
    → standing_as (Down None) found ≡ found
down_same found standing = λ i. standing_as (sym standing i) found

-- an image that isn't sealed owes nothing
pub not_owing : (program : Program) (e : Device) → is_sealed (view e.cache) ≡ false
    → owes_marked program e ≡ false
not_owing program e unsealed = ap (λ (x : Bool). x && rolls_back_of program (tx_in e)) unsealed

-- an image that is sealed owes the transaction that its record names
pub owing_as : (program : Program) (e : Device) (tx : ℕ) (marked : Bool)
    → is_sealed (view e.cache) ≡ true → tx_in e ≡ tx → rolls_back_of program tx ≡ marked
    → owes_marked program e ≡ marked
owing_as program e tx marked sealed names mark =
    ap (λ (x : Bool). x && rolls_back_of program (tx_in e)) sealed
    ∙ ap (rolls_back_of program) names ∙ mark

-- and the type of that transaction
pub owing_type : (program : Program) (e : Device) (tx : ℕ) → is_sealed (view e.cache) ≡ true
    → tx_in e ≡ tx → owes_unsigned program e ≡ unsigned_of program tx
owing_type program e tx sealed names =
    ap (λ (x : Bool). x && unsigned_of program (tx_in e)) sealed ∙ ap (unsigned_of program) names

module _ (program : Program) (super : Words) (agrees : Agrees program)
    (e : Device) (s : SourceState) (on : e.on ≡ true) (rest : IsAtRest e.cache)
    (a : Answer) (n : Mode) (b : Device) (k k1 : ℕ)
    (is : outcomes.Recovers program e a n b k k1) where
  abbrev one : Words
  one = view e.cache

  abbrev pool : Pool
  pool = pool_with program.image super

  abbrev Answered : Type 0
  Answered = (t : SourceState) × Powers program s one a t × Holds program super n b t

  -- the recovery, by whether the image owes a marked transaction, and by its type
  by_owed : (marked typed : Bool) → owes_marked program e ≡ marked
      → owes_unsigned program e ≡ typed → RecoversBy marked typed program.image e a n b k k1
  by_owed marked typed owes kind =
      subst (λ (x : Bool). RecoversBy x typed program.image e a n b k k1) owes
      (subst (λ (x : Bool). RecoversBy (owes_marked program e) x program.image e a n b k k1) kind
      is)

  -- nothing is owed in the image
  rested : (found : SourceState) (h : Words) → HoldsPool program h found
      → IsBefore pool found.done h found.last one → found.standing ≡ Down None
      → FindsOwed s.standing program s one found → Answered
  rested found h holds before standing finds =
      let un = by_owed false (owes_unsigned program e) (not_owing program e
      (is_unsealed one found.done before.good.done before.good.unsealed)) refl in
      let done = rest_recovers program super e found h on rest holds before EndPool
      (owes_unsigned program e) un.tx_answer b k k1 un.recovered in (
        done.0,
        powers_of program s found done.0 one a before.good.mark finds
            (subst (λ (st : Standing). Recovers st program found one a done.0) (sym standing)
            (subst (λ (f : SourceState). Rests program f one a done.0) (down_same found standing)
            (subst (λ (x : Answer). Rests program (standing_as (Down None) found) one x done.0)
            (sym un.answer) done.1))),
        subst (λ (x : Mode). Holds program super x b done.0) (sym un.mode) done.2,
      )

  from_none : FindsOwed s.standing program s one (standing_as (Down None) s) →
      OwesNone program super e s → Answered
  from_none finds owes =
      rested (standing_as (Down None) s) owes.heap
      (record {
        headers = owes.holds.headers;
        pool = owes.holds.pool;
        words = owes.holds.words;
      })
      (at_view (IsBefore pool s.done owes.heap s.last) e.cache owes.left) refl finds

  -- the pool has a mark, and the source allows its trap
  from_mark : (kind : TrapKind) → IsMarked s.standing program s kind →
      Lost pool.sizes (trap_number kind) one → Answered
  from_mark kind marks lost =
      let found = marked_recovers program e b kind (owes_marked program e)
      (owes_unsigned program e) a n k k1 on lost.0
      (is_marked (one 19) (trap_number kind) lost.0 lost.1) is in
      let holds : Holds program super (mode.Unusable kind) b (standing_as (Unusable kind) s) = (
        refl,
        subst (λ (x : Device). Images (Lost pool.sizes (trap_number kind)) x.cache)
            (sym found.2) (rest_images (Lost pool.sizes (trap_number kind)) e.cache rest lost),
        ap (λ (x : Device). x.on) found.2 ∙ on,
      ) in (
        standing_as (Unusable kind) s,
        subst (λ (x : Answer). Powers program s one x (standing_as (Unusable kind) s))
            (sym found.0) (lost.0, marks, refl),
        subst (λ (x : Mode). Holds program super x b (standing_as (Unusable kind) s))
            (sym found.1) holds,
      )

  module _ (owed : Pending) (standing : s.standing ≡ Down (Some owed)) where
    abbrev call : Call
    call = call_of s.done owed.tx owed.args

    abbrev waiting : SourceState
    waiting = standing_as (Down (Some owed)) s

    finds_as : (found : SourceState) → FindsOf (Some owed) program s one found →
        FindsOwed s.standing program s one found
    finds_as found finds =
        subst (λ (x : Standing). FindsOwed x program s one found) (sym standing) finds

    -- the image is from before the call
    at_before : (h : Words) → HoldsPool program h s → IsBefore pool s.done h s.last one → Answered
    at_before h holds before =
        rested (standing_as (Down None) s) h
        (record { headers = holds.headers; pool = holds.pool; words = holds.words }) before refl
        (finds_as (standing_as (Down None) s) (inl (before.good.unsealed, refl)))

    module _ (marked : Bool) (mark : rolls_back_of program owed.tx ≡ marked)
        (owes : OwesBy marked program super owed e s) where
      abbrev p : Policy
      p = policy_of marked

      abbrev h : Words
      h = owes.heap

      abbrev es : List Effect
      es = owes.effects

      own : Meant marked program s.pool owed h owes.end es
      own = meant marked program s owed h owes.end es owes.holds
          (agrees.runs h owed.tx owed.args owes.holds.headers (held_words program h s owes.holds)
          owes.words owes.takes) owes.ran

      -- the transaction was finished before the cut
      finished_as : (found : SourceState) → HasSeal s one → one DONE ≡ pos (suc s.done)
          → IsConcluded marked program owed s (Down None) found
          → FindsOwed s.standing program s one found
      finished_as found seal done finished =
          finds_as found (inr (inl (
            seal,
            done,
            subst (λ (x : Bool). IsConcluded x program owed s (Down None) found) (sym mark)
                finished,
          )))

      done_at : (v : ℤ) → owes.end ≡ Halted v → IsDone pool (suc s.done) (heap_end h es) v one
          → Answered
      done_at v ends seen =
          let has : HasHalted program (outcome_with program s.pool owed.tx owed.args own.logged) v
          (heap_end h es) = run_halted marked program s.pool owed h owes.end es own v ends in
          let found : SourceState = done_with has.pool v (Down None) s in
          rested found (heap_end h es)
          (record { headers = has.headers; pool = has.holds; words = has.words })
          (record { good = seen.good; last_is = seen.last_is }) refl
          (finished_as found seen.seal_is seen.good.done
          (own.logged, Done has.pool v, record { logs = own.logs; is = has.is }, refl))

      undone_at : (kind : TrapKind) → owes.end ≡ Trapped kind → marked ≡ true
          → IsDone pool (suc s.done) h s.last one → Answered
      undone_at kind ends is_marked seen =
          let traps = run_trapped marked program s.pool owed h owes.end es own kind ends in
          let found : SourceState = undone_as (Down None) s in
          rested found h
          (record {
            headers = owes.holds.headers;
            pool = owes.holds.pool;
            words = owes.holds.words;
          })
          (record { good = seen.good; last_is = seen.last_is }) refl
          (finished_as found seen.seal_is seen.good.done
          (traps.0, Trap kind, traps.1, (is_marked, refl)))

      lost_at : (kind : TrapKind) → owes.end ≡ Trapped kind → marked ≡ false
          → Lost pool.sizes (trap_number kind) one → Answered
      lost_at kind ends unmarked lost =
          from_mark kind
          (subst (λ (x : Standing). IsMarked x program s kind) (sym standing)
          (subst (λ (x : Bool). MarksAs x program s owed kind) (sym mark)
          (unmarked, run_trapped marked program s.pool owed h owes.end es own kind ends)))
          lost

      trapped_at : (m : Bool) → marked ≡ m → (kind : TrapKind) → owes.end ≡ Trapped kind
          → IsEnd pool call h (heap_end h es) (result_of (policy_of m) s.last (Trapped kind)) one
          → Answered
      trapped_at true is kind ends seen = undone_at kind ends is seen
      trapped_at false is kind ends lost = lost_at kind ends is lost

      at_end : (x : End) → owes.end ≡ x
          → IsEnd pool call h (heap_end h es) (result_of p s.last x) one → Answered
      at_end (Halted v) ends seen = done_at v ends seen
      at_end (Trapped kind) ends seen = trapped_at marked refl kind ends seen

      at_cut : IsCut pool call (E p es) (W es) h (heap_end h es) s.last
          (result_of p s.last owes.end) one → Answered
      at_cut (inl before) = at_before h owes.holds before
      at_cut (inr (inl sealed)) =
          let names : tx_in e ≡ owed.tx = ap tx_number (sealed.call_is 0 (omega arith)) in
          let seal = is_owed one s.done sealed.done sealed.sealed in
          let its = by_owed marked (unsigned_of program owed.tx)
          (owing_as program e owed.tx marked seal names mark)
          (owing_type program e owed.tx seal names) in
          let done = redo_recovers marked program super agrees e s owed h owes.end es on rest
          owes.holds owes.takes owes.words owes.ran mark sealed its.tx_answer b k k1
          its.recovered in (
            done.0,
            powers_of program s waiting done.0 one a sealed.mark
                (finds_as waiting (inr (inr (sealed.sealed, sealed.done, refl))))
                (subst (λ (x : Bool). RedoesBy x program owed waiting one a done.0) (sym mark)
                (subst (λ (x : Answer). RedoesBy marked program owed waiting one x done.0)
                (sym its.answer) done.1)),
            subst (λ (x : Mode). Holds program super x b done.0) (sym its.mode) done.2,
          )
      at_cut (inr (inr ended)) = at_end owes.end refl ended

      from_one : Answered
      from_one = at_cut (at_view (IsCut pool call (E p es) (W es) h (heap_end h es) s.last
          (result_of p s.last owes.end)) e.cache owes.left)

  at_standing : (st : Standing) → s.standing ≡ st → HeldAs st program super e s → Answered
  at_standing Ready standing held =
      from_none (subst (λ (x : Standing).
      FindsOwed x program s one (standing_as (Down None) s)) (sym standing) refl) held
  at_standing (Down None) standing held =
      from_none (subst (λ (x : Standing).
      FindsOwed x program s one (standing_as (Down None) s)) (sym standing) refl) held
  at_standing (Down (Some owed)) standing held =
      from_one owed standing (rolls_back_of program owed.tx) refl held
  at_standing (Unusable kind) standing held =
      from_mark kind
      (subst (λ (x : Standing). IsMarked x program s kind) (sym standing) refl)
      (at_view (Lost pool.sizes (trap_number kind)) e.cache held)

  pub held_recovers : HeldAs s.standing program super e s → Answered
  held_recovers held = at_standing s.standing refl held

-- what the choice leaves
module _ (program : Program) (super : Words) (choice : Choice) (d : Device) (s : SourceState) where
  pub left_images : (P : Words → Type 0) → Images P d.cache → Images P (powered choice d).cache
  left_images P all = rest_images P (powered choice d).cache
      (left_rest d.cache choice.rest choice.picks) (at_left P d.cache choice.rest choice.picks all)

  left_none : OwesNone program super d s → OwesNone program super (powered choice d) s
  left_none owes = record {
    heap = owes.heap;
    holds = owes.holds;
    left = left_images (IsBefore (pool_with program.image super) s.done owes.heap s.last) owes.left;
  }

  left_owed : (owed : Pending) (marked : Bool) → OwesBy marked program super owed d s
      → OwesBy marked program super owed (powered choice d) s
  left_owed owed marked owes = record {
    heap = owes.heap;
    holds = owes.holds;
    takes = owes.takes;
    words = owes.words;
    end = owes.end;
    effects = owes.effects;
    ran = owes.ran;
    left =
        left_images
        (IsCut (pool_with program.image super) (call_of s.done owed.tx owed.args)
        (E (policy_of marked) owes.effects) (W owes.effects) owes.heap
        (heap_end owes.heap owes.effects) s.last (result_of (policy_of marked) s.last owes.end))
        owes.left;
  }

  pub left_held : (m : Mode) (st : Standing) → HoldsAs st program super m d s
      → HeldAs st program super (powered choice d) s
  left_held m Ready holds = left_none (resting_owes program super d s holds.1)
  left_held m (Down None) holds = left_none holds.1
  left_held m (Down (Some owed)) holds =
      left_owed owed (rolls_back_of program owed.tx) holds.1
  left_held m (Unusable kind) holds =
      left_images (Lost program.image.parts.sizes (trap_number kind)) holds.1

-- a pick that doesn't fit
refused_pick :
    (program : Program) (super : Words) (image : Words) (m n : Mode)
    (d b : Device) (s : SourceState) (a : Answer) (line k k1 : ℕ) →
    Holds program super m d s
    → commanded.Refused (answer.RefusedPick line) m d a n b k k1 →
    (t : SourceState) × Powers program s image a t × Holds program super n b t
refused_pick program super image m n d b s a line k k1 holds refused = (
  s,
  subst (λ (x : Answer). Powers program s image x s) (sym refused.0) refl,
  subst (λ (x : Mode). Holds program super x b s) (sym refused.1)
      (subst (λ (x : Device). Holds program super m x s) (sym refused.2) holds),
)

module _ (program : Program) (super : Words) (agrees : Agrees program)
    (choice : Choice) (m n : Mode) (d b : Device) (s : SourceState) (a : Answer) (k k1 : ℕ)
    (holds : Holds program super m d s) (powers : commanded.Powers program choice m d a n b
    k k1) where
  by_picks : (first pick : Option ℕ) → fallen 0 choice.picks ≡ first
      → bad (memory_of d) choice.picks ≡ pick
      → (t : SourceState) × Powers program s (view (powered choice d).cache) a t
      × Holds program super n b t
  by_picks (Some line) pick falls is =
      refused_pick program super (view (powered choice d).cache) m n d b s a line k k1 holds
      (powers.0 line falls)
  by_picks None (Some line) rises is =
      refused_pick program super (view (powered choice d).cache) m n d b s a line k k1 holds
      (powers.1 line rises is)
  by_picks None None rises fits =
      held_recovers program super agrees (powered choice d) s refl
      (left_rest d.cache choice.rest choice.picks) a n b k k1 (powers.2 rises fits)
      (left_held program super choice d s m s.standing holds)

  pub power_answers : (t : SourceState) × Powers program s (view (powered choice d).cache) a
      t × Holds program super n b t
  power_answers = by_picks (fallen 0 choice.picks) (bad (memory_of d) choice.picks) refl refl
