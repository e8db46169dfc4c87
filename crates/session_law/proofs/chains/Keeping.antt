-- A chain that finishes no transaction, or only such as it rolls back, keeps the heap of its start.
use Rattle.std.proofs.Common.{◌≡◌, ◌≢◌, ◌⊎◌, inl, inr, ℕ, suc, ◌<◌, Bool, true, false}
use Rattle.std.proofs.Common.{List, Some, None, pos, refl, sym, ap, ◌∙◌, subst, arith}
use Rattle.cache_model.specs.Cache.{Words, view}
use Rattle.cache_model.specs.Image.{Images}
use Rattle.pmem.specs.Device.{Device}
use Rattle.pool_layout.specs.declared.places.TheConstants.{DONE, MARK, SEAL}
use Rattle.pool_layout.specs.Sizes.{heap_words}
use Rattle.pool_layout.specs.Good.{Pool, Lost}
use Rattle.pool_map.specs.declared.trap.TrapKind.{TrapKind}
use Rattle.pool_map.specs.Trap.{trap_number}
use Rattle.args_log.specs.Pending.{tx_number}
use Rattle.pm_machine.specs.declared.effect.Effect.{Effect}
use Rattle.pm_machine.specs.declared.effect.End.{End}
use Rattle.pm_machine.specs.declared.effect.End.TheVariants.{Halted, Trapped}
use Rattle.pm_machine.specs.declared.records.Policy.{Policy}
use Rattle.pm_machine.specs.declared.records.Policy.TheVariants.{EndPool}
use Rattle.pm_machine.specs.Effects.{heap_end}
use Rattle.pm_machine.specs.Runs.{heap_in}
use Rattle.crash_law.specs.Pools.{Call, Owed, IsBefore}
use Rattle.crash_law.specs.Law.{KeepsLast, IsAtRest, IsCut, IsEnd}
use Rattle.run_law.specs.Seen.{result_of, E, W}
use Rattle.recovery.specs.Recovered.{IsRecovered, tx_in}
use Rattle.recovery.specs.declared.answer.RecoverAnswer.{RecoverAnswer}
use Rattle.recovery.specs.declared.answer.RecoverAnswer.TheVariants as recovered
use Rattle.cut_law.specs.Law.{call_of, pool_with}
use Rattle.cnvm_session.specs.declared.mode.Mode.{Mode}
use Rattle.cnvm_session.specs.declared.answer.Answer.{Answer}
use Rattle.cnvm_session.specs.declared.answer.Answer.TheVariants as answer
use Rattle.cnvm_session.specs.declared.program.Program.{Program}
use Rattle.cnvm_session.specs.Marks.{rolls_back_of, policy_of, owes_marked}
use Rattle.cnvm_session.specs.Marks.{owes_unsigned}
use Rattle.cnvm_session.specs.Outcomes.{answer_of_recovery, RecoversBy}
use Rattle.cnvm_session.specs.Outcomes as outcomes
use Rattle.cnvm_session.specs.Pool.{sizes_of}
use Rattle.session_law.specs.Agrees.{Agrees}
use Rattle.session_law.specs.State.{Pending, Standing, Ready, Down, Unusable, SourceState}
use Rattle.session_law.specs.State.{standing_as, undone_as}
use Rattle.session_law.specs.Answers.{FindsOf, FindsOwed, Rests}
use Rattle.session_law.specs.Answers.{RedoesBy, Recovers, Powers}
use Rattle.session_law.specs.Holds.{HoldsPool, IsResting, OwesNone, OwesBy, Holds, HeldAs}
use Rattle.session_law.specs.Law.{IsRollback}
use Rattle.session_law.proofs.images.Ones.{rest_images, at_view}
use Rattle.session_law.proofs.images.Reading.{is_marked, is_unsealed, is_owed}
use Rattle.session_law.proofs.images.Restoring.{Restores, KeepsIn, not_next, good_restores}
use Rattle.session_law.proofs.images.Restoring.{owed_restores}
use Rattle.session_law.proofs.images.Restoring.{cut_restores, end_sealed}
use Rattle.session_law.proofs.answers.Recoveries.{marked_recovers, rest_left, redo_left}
use Rattle.session_law.proofs.answers.Recoveries.{redo_restores}
use Rattle.session_law.proofs.answers.Powers.{not_owing, owing_as}
use Rattle.session_law.proofs.chains.Histories.{finished_counts}

-- the step finishes no transaction, or rolls back the one that it finishes
abbrev pub FinishesNone : SourceState → Answer → SourceState → Type 0
FinishesNone s a t = (t.done ≡ s.done) ⊎ IsRollback a

pub not_finished : (s t : SourceState) (a : Answer) → t.done ≡ suc s.done → (IsRollback a → ⊥)
    → FinishesNone s a t → ⊥
not_finished s t a more never (inl same) = absurd (omega (arith, more, same))
not_finished s t a more never (inr rolls) = never rolls

module _ (program : Program) (super : Words) (agrees : Agrees program) (h : Words) where
  abbrev pool : Pool
  pool = pool_with program.image super

  abbrev Whole : Device → Type 0
  Whole b = Images (Restores program h) b.cache

  -- where a transaction is owed: each image that doesn't show it yet
  abbrev pub KeepsBy : (marked : Bool) → Device → SourceState → Type 0
  KeepsBy marked b s = Images (KeepsIn marked program s.done h) b.cache

  -- the device keeps this heap
  abbrev pub KeepsAs : Standing → Device → SourceState → Type 0
  KeepsAs Ready b s = Whole b
  KeepsAs (Down None) b s = Whole b
  KeepsAs (Down (Some owed)) b s = KeepsBy (rolls_back_of program owed.tx) b s
  KeepsAs (Unusable kind) b s = Unit {0}

  pub record Keeps (s : SourceState) (b : Device) (t : SourceState) : Type 0 where
    pub pool : t.pool ≡ s.pool
    pub last : t.last ≡ s.last
    pub heap : KeepsAs t.standing b t

  pub leaf : (s t u : SourceState) (b : Device) → t ≡ u → u.pool ≡ s.pool → u.last ≡ s.last
      → KeepsAs u.standing b u → Keeps s b t
  leaf s t u b is pool last keeps = record {
    pool = ap (λ (x : SourceState). x.pool) is ∙ pool;
    last = ap (λ (x : SourceState). x.last) is ∙ last;
    heap = subst (λ (x : SourceState). KeepsAs x.standing b x) (sym is) keeps;
  }

  whole_by : (marked : Bool) (b : Device) (s : SourceState) → Whole b → KeepsBy marked b s
  whole_by true b s whole = λ image is done. whole image is
  whole_by false b s whole = λ image is mark unsealed. whole image is

  pub whole_keeps : (st : Standing) (b : Device) (s : SourceState) → Whole b → KeepsAs st b s
  whole_keeps Ready b s whole = whole
  whole_keeps (Down None) b s whole = whole
  whole_keeps (Down (Some owed)) b s whole = whole_by (rolls_back_of program owed.tx) b s whole
  whole_keeps (Unusable kind) b s whole = tt

  -- a device at rest with this heap
  pub resting_whole : (b : Device) (t : SourceState) → IsResting program super b t
      → ((w : ℕ) → w < heap_words (sizes_of program)
      → heap_in (sizes_of program) b.cache w ≡ h w) → Whole b
  resting_whole b t resting same =
      rest_images (Restores program h) b.cache resting.rest
      (λ w less. good_restores program super t.done (heap_in (sizes_of program) b.cache)
      (view b.cache) resting.before.good w less ∙ same w less)

  pub resting_heap : (b : Device) (t : SourceState) → IsResting program super b t → Whole b
      → (w : ℕ) → w < heap_words (sizes_of program) → heap_in (sizes_of program) b.cache w ≡ h w
  resting_heap b t resting whole w less =
      sym (good_restores program super t.done (heap_in (sizes_of program) b.cache)
      (view b.cache) resting.before.good w less)
      ∙ at_view (Restores program h) b.cache whole w less

  -- a recovery after a power cut
  module _ (e : Device) (s : SourceState) (on : e.on ≡ true) (rest : IsAtRest e.cache)
      (a : Answer) (n : Mode) (b : Device) (k k1 : ℕ)
      (is : outcomes.Recovers program e a n b k k1) (t : SourceState)
      (powers : Powers program s (view e.cache) a t) (none : FinishesNone s a t)
      (holds : Holds program super n b t) where
    abbrev one : Words
    one = view e.cache

    abbrev Back : Answer → Type 0
    Back x =
        (one MARK ≡ pos 0)
        × ((found : SourceState) × FindsOwed s.standing program s one found
        × Recovers found.standing program found one x t)

    abbrev typed : Bool
    typed = owes_unsigned program e

    by_owed : (marked : Bool) → owes_marked program e ≡ marked
        → RecoversBy marked typed program.image e a n b k k1
    by_owed marked owes =
        subst (λ (x : Bool). RecoversBy x typed program.image e a n b k k1) owes is

    unusable : (kind : TrapKind) → t ≡ standing_as (Unusable kind) s → Keeps s b t
    unusable kind same = leaf s t (standing_as (Unusable kind) s) b same refl refl tt

    -- where nothing is owed, the state is one that was found, but for its standing
    module _ (Q : SourceState → Type 0)
        (finds : (f : SourceState) → FindsOwed s.standing program s one f
        → (f.standing ≡ Down None) × Q f) where
      abbrev Told : Type 0
      Told = ((st : Standing) × (f : SourceState) × Q f × (t ≡ standing_as st f))
          ⊎ ((kind : TrapKind) × (t ≡ standing_as (Unusable kind) s))

      rests : (x : Answer) (back : Back x) → Rests program back.1.0 one x t
      rests x back = subst (λ (st : Standing). Recovers st program back.1.0 one x t)
          (finds back.1.0 back.1.1).0 back.1.2

      told : (r : RecoverAnswer) → Powers program s one (answer_of_recovery typed r) t → Told
      told recovered.Clean p =
          inl (Ready, p.1.0, (finds p.1.0 p.1.1).1, rests answer.RecoveredNone p)
      told (recovered.Redone v l) p = absurd (rests (answer.RecoveredRedone v typed l) p)
      told (recovered.Trap kind) p = absurd (rests (answer.RecoveredTrap kind) p)
      told (recovered.Aborted kind) p = absurd (rests (answer.RecoveredAborted kind) p)
      told (recovered.Unusable kind) p = inr (kind, p.2)
      told recovered.Numbers p = inl (
        p.1.0.standing,
        p.1.0,
        (finds p.1.0 p.1.1).1,
        (rests answer.RefusedNumbers p).1,
      )
      told (recovered.Off at) p = inl (
        p.1.0.standing,
        p.1.0,
        (finds p.1.0 p.1.1).1,
        (rests (answer.Stopped at) p).1,
      )
      told recovered.Failed p = inl (
        p.1.0.standing,
        p.1.0,
        (finds p.1.0 p.1.1).1,
        rests answer.DeviceFault p,
      )
      told recovered.NoMemory p = inl (
        p.1.0.standing,
        p.1.0,
        (finds p.1.0 p.1.1).1,
        rests answer.NoMemory p,
      )

      -- so no transaction is rolled back
      never_rolls : (r : RecoverAnswer) → IsRollback (answer_of_recovery typed r)
          → Powers program s one (answer_of_recovery typed r) t → ⊥
      never_rolls recovered.Clean rolls p = rolls
      never_rolls (recovered.Redone v l) rolls p = rolls
      never_rolls (recovered.Trap kind) rolls p = rolls
      never_rolls (recovered.Aborted kind) rolls p = rests (answer.RecoveredAborted kind) p
      never_rolls (recovered.Unusable kind) rolls p = rolls
      never_rolls recovered.Numbers rolls p = rolls
      never_rolls (recovered.Off at) rolls p = rolls
      never_rolls recovered.Failed rolls p = rolls
      never_rolls recovered.NoMemory rolls p = rolls

    abbrev Fresh : SourceState → Type 0
    Fresh f = f ≡ standing_as (Down None) s

    abbrev Counted : SourceState → Type 0
    Counted f = f.done ≡ suc s.done

    fresh_keeps : Whole b
        → (((st : Standing) × (f : SourceState) × Fresh f × (t ≡ standing_as st f))
        ⊎ ((kind : TrapKind) × (t ≡ standing_as (Unusable kind) s))) → Keeps s b t
    fresh_keeps whole (inl x) =
        leaf s t (standing_as x.0 s) b (x.3 ∙ ap (standing_as x.0) x.2) refl refl
        (whole_keeps x.0 b (standing_as x.0 s) whole)
    fresh_keeps whole (inr x) = unusable x.0 x.1

    counted_keeps : (IsRollback a → ⊥)
        → (((st : Standing) × (f : SourceState) × Counted f × (t ≡ standing_as st f))
        ⊎ ((kind : TrapKind) × (t ≡ standing_as (Unusable kind) s))) → Keeps s b t
    counted_keeps never (inl x) =
        absurd (not_finished s t a (ap (λ (y : SourceState). y.done) x.3 ∙ x.2) never none)
    counted_keeps never (inr x) = unusable x.0 x.1

    -- nothing is owed in the image
    from_before : (g : Words) → HoldsPool program g s → IsBefore pool s.done g s.last one
        → Restores program h one
        → ((f : SourceState) → FindsOwed s.standing program s one f → Fresh f) → Keeps s b t
    from_before g held before restores finds =
        let un = by_owed false (not_owing program e
        (is_unsealed one s.done before.good.done before.good.unsealed)) in
        let whole : Whole b =
        λ image seen w less.
        good_restores program super s.done g image
        (rest_left program super e s g on rest held before EndPool un.tx_answer b k k1 un.recovered
        image seen).good w less
        ∙ sym (good_restores program super s.done g one before.good w less) ∙ restores w less in
        fresh_keeps whole
        (told Fresh
        (λ f is. (ap (λ (x : SourceState). x.standing) (finds f is), finds f is)) un.tx_answer
        (subst (λ (x : Answer). Powers program s one x t) un.answer powers))

    from_none : FindsOwed s.standing program s one ≡ FindsOf None program s one
        → OwesNone program super e s → Whole e → Keeps s b t
    from_none same owes whole =
        from_before owes.heap owes.holds
        (at_view (IsBefore pool s.done owes.heap s.last) e.cache owes.left)
        (at_view (Restores program h) e.cache whole)
        (λ f finds. subst (λ (P : SourceState → Type 0). P f) same finds)

    from_lost : (kind : TrapKind) → Lost pool.sizes (trap_number kind) one → Keeps s b t
    from_lost kind lost =
        let found = marked_recovers program e b kind (owes_marked program e) typed a n k k1 on
        lost.0 (is_marked (one MARK) (trap_number kind) lost.0 lost.1) is in
        unusable kind (subst (λ (x : Answer). Powers program s one x t) found.0 powers).2

    module _ (owed : Pending) (standing : s.standing ≡ Down (Some owed)) where
      abbrev call : Call
      call = call_of s.done owed.tx owed.args

      abbrev waiting : SourceState
      waiting = standing_as (Down (Some owed)) s

      finds_of : (f : SourceState) → FindsOwed s.standing program s one f
          → FindsOf (Some owed) program s one f
      finds_of f finds =
          subst (λ (x : Standing). FindsOwed x program s one f) standing finds

      finds_fresh : one SEAL ≢ pos (suc s.done) → (f : SourceState)
          → FindsOf (Some owed) program s one f → Fresh f
      finds_fresh unsealed f (inl fresh) = fresh.1
      finds_fresh unsealed f (inr (inl retired)) = absurd (unsealed retired.0)
      finds_fresh unsealed f (inr (inr sealed)) = absurd (unsealed sealed.0)

      finds_retired : one SEAL ≡ pos (suc s.done) → one DONE ≡ pos (suc s.done)
          → (f : SourceState) → FindsOf (Some owed) program s one f
          → (f.standing ≡ Down None) × Counted f
      finds_retired seal done f (inl fresh) = absurd (fresh.0 seal)
      finds_retired seal done f (inr (inl retired)) =
          let counts = finished_counts program (rolls_back_of program owed.tx) s f owed
          (Down None) retired.2 in
          (counts.1, counts.0)
      finds_retired seal done f (inr (inr sealed)) =
          absurd (not_next (one DONE) s.done sealed.1 done)

      finds_counted : one SEAL ≡ pos (suc s.done) → one DONE ≡ pos (suc s.done)
          → (f : SourceState) → FindsOwed s.standing program s one f
          → (f.standing ≡ Down None) × Counted f
      finds_counted seal done f finds = finds_retired seal done f (finds_of f finds)

      -- the image shows that the transaction was finished
      from_retired : one SEAL ≡ pos (suc s.done) → one DONE ≡ pos (suc s.done)
          → (one SEAL ≡ pos (suc (suc s.done)) → ⊥) → Keeps s b t
      from_retired seal done unsealed =
          let un = by_owed false (not_owing program e
          (is_unsealed one (suc s.done) done unsealed)) in
          let its = subst (λ (x : Answer). Powers program s one x t) un.answer powers in
          counted_keeps
          (λ rolls. never_rolls Counted (finds_counted seal done) un.tx_answer
          (subst IsRollback un.answer rolls) its)
          (told Counted (finds_counted seal done) un.tx_answer its)

      -- the image owes the transaction
      module _ (seal : one SEAL ≡ pos (suc s.done)) (done : one DONE ≡ pos s.done)
          (marked : Bool) (mark : rolls_back_of program owed.tx ≡ marked) where
        redone_from : (x : Answer) (f : SourceState) → FindsOf (Some owed) program s one f
            → Recovers f.standing program f one x t → RedoesBy marked program owed waiting one x t
        redone_from x f (inl fresh) recovers = absurd (fresh.0 seal)
        redone_from x f (inr (inl retired)) recovers =
            absurd (not_next (one DONE) s.done done retired.1)
        redone_from x f (inr (inr sealed)) recovers =
            subst (λ (m : Bool). RedoesBy m program owed waiting one x t) mark
            (subst (λ (g : SourceState). Recovers g.standing program g one x t) sealed.2 recovers)

        redone_at : (x : Answer) → Back x → RedoesBy marked program owed waiting one x t
        redone_at x back =
            redone_from x back.1.0 (finds_of back.1.0 back.1.1) back.1.2

        still : KeepsBy marked b waiting → t ≡ waiting → Keeps s b t
        still keeps same = leaf s t waiting b same refl refl
            (subst (λ (m : Bool). KeepsBy m b waiting) (sym mark) keeps)

      module _ (marked : Bool) (mark : rolls_back_of program owed.tx ≡ marked)
          (owes : OwesBy marked program super owed e s) (keeps : KeepsBy marked e s) where
        abbrev p : Policy
        p = policy_of marked

        abbrev heap : Words
        heap = owes.heap

        abbrev es : List Effect
        es = owes.effects

        -- an image from before the call keeps the heap
        before_by : (m : Bool) → one DONE ≡ pos s.done → one MARK ≡ pos 0
            → one SEAL ≢ pos (suc s.done) → KeepsIn m program s.done h one → Restores program h one
        before_by true done unmarked unsealed kept = kept done
        before_by false done unmarked unsealed kept = kept unmarked unsealed

        kept_one : KeepsIn marked program s.done h one
        kept_one = at_view (KeepsIn marked program s.done h) e.cache keeps

        module _ (sealed : Owed pool call (E p es) (W es) heap
            (KeepsLast (result_of p s.last owes.end)) one) where
          -- the heap from before the call, as the log restores it
          same_heap : (m : Bool) → m ≡ true
              → Owed pool call (E (policy_of m) es) (W es) heap
              (KeepsLast (result_of (policy_of m) s.last owes.end)) one
              → KeepsIn m program s.done h one
              → (w : ℕ) → w < heap_words (sizes_of program) → heap w ≡ h w
          same_heap true is seen kept w less =
              sym (owed_restores program super call es heap _ one seen w less)
              ∙ kept seen.done w less
          same_heap false is seen kept w less = absurd (cc)

          abbrev Cut : (m : Bool) → Words → Type 0
          Cut m image = Owed pool call (E (policy_of m) es) (W es) heap
              (KeepsLast (result_of (policy_of m) s.last owes.end)) image
              ⊎ IsEnd pool call heap (heap_end heap es) (result_of (policy_of m) s.last owes.end)
              image

          after_by : (m : Bool)
              → Owed pool call (E (policy_of m) es) (W es) heap
              (KeepsLast (result_of (policy_of m) s.last owes.end)) one
              → KeepsIn m program s.done h one → (image : Words) → Cut m image
              → KeepsIn m program s.done h image
          after_by true seen kept image left =
              λ done w less.
              cut_restores program super call es heap (heap_end heap es) s.last owes.end image
              (inr left) done w less ∙ same_heap true refl seen kept w less
          after_by false seen kept image (inl owed_still) =
              λ unmarked unsealed. absurd (unsealed owed_still.sealed)
          after_by false seen kept image (inr ended) =
              λ unmarked unsealed.
              absurd (end_sealed program super call heap (heap_end heap es) s.last owes.end image
              ended unmarked unsealed)

          after : (r : RecoverAnswer) → IsRecovered r p program.image e b k k1
              → KeepsBy marked b waiting
          after r did image seen =
              after_by marked sealed kept_one image
              (redo_left marked program super agrees e s owed heap owes.end es on rest
              owes.holds owes.takes owes.words owes.ran mark sealed r b k k1 did image seen)

          at : (x : Answer) → Back x → RedoesBy marked program owed waiting one x t
          at x back = redone_at sealed.sealed sealed.done marked mark x back

          stays : (r : RecoverAnswer) → IsRecovered r p program.image e b k k1 → t ≡ waiting
              → Keeps s b t
          stays r did same = still sealed.sealed sealed.done marked mark (after r did) same

          redone_keeps : (r : RecoverAnswer) → IsRecovered r p program.image e b k k1
              → Powers program s one (answer_of_recovery typed r) t
              → FinishesNone s (answer_of_recovery typed r) t → Keeps s b t
          redone_keeps recovered.Clean did q only = absurd (at answer.RecoveredNone q)
          redone_keeps (recovered.Redone v l) did q only =
              let done = at (answer.RecoveredRedone v typed l) q in
              absurd (not_finished s t (answer.RecoveredRedone v typed l)
              (ap (λ (x : SourceState). x.done) done.2) (λ rolls. rolls) only)
          redone_keeps (recovered.Trap kind) did q only =
              unusable kind (at (answer.RecoveredTrap kind) q).2
          redone_keeps (recovered.Aborted kind) did q only =
              let told = at (answer.RecoveredAborted kind) q in
              let back = redo_restores marked program super agrees e s owed heap owes.end es on rest
              owes.holds owes.takes owes.words owes.ran mark sealed kind (recovered.Aborted kind) b
              k k1 refl did in
              let resting : IsResting program super b (undone_as Ready waiting) =
              (subst (λ (x : SourceState). Holds program super n b x) told.2 holds).1 in
              leaf s t (undone_as Ready waiting) b told.2 refl refl
              (resting_whole b (undone_as Ready waiting) resting
              (λ w less. back.heap w less ∙ same_heap marked told.0 sealed kept_one w less))
          redone_keeps (recovered.Unusable kind) did q only = unusable kind q.2
          redone_keeps recovered.Numbers did q only =
              stays recovered.Numbers did (at answer.RefusedNumbers q).1
          redone_keeps (recovered.Off phase) did q only =
              stays (recovered.Off phase) did (at (answer.Stopped phase) q).1
          redone_keeps recovered.Failed did q only =
              stays recovered.Failed did (at answer.DeviceFault q)
          redone_keeps recovered.NoMemory did q only =
              stays recovered.NoMemory did (at answer.NoMemory q)

          from_sealed : Keeps s b t
          from_sealed =
              let names : tx_in e ≡ owed.tx = ap tx_number (sealed.call_is 0 (omega arith)) in
              let its = by_owed marked (owing_as program e owed.tx marked
              (is_owed one s.done sealed.done sealed.sealed) names mark) in
              redone_keeps its.tx_answer its.recovered
              (subst (λ (x : Answer). Powers program s one x t) its.answer powers)
              (subst (λ (x : Answer). FinishesNone s x t) its.answer none)

        from_trap : (m : Bool) (kind : TrapKind)
            → IsEnd pool call heap (heap_end heap es)
            (result_of (policy_of m) s.last (Trapped kind))
            one
            → Keeps s b t
        from_trap true kind seen = from_retired seen.seal_is seen.good.done seen.good.unsealed
        from_trap false kind lost = from_lost kind lost

        from_end : (x : End)
            → IsEnd pool call heap (heap_end heap es) (result_of p s.last x) one → Keeps s b t
        from_end (Halted v) seen = from_retired seen.seal_is seen.good.done seen.good.unsealed
        from_end (Trapped kind) seen = from_trap marked kind seen

        from_cut : IsCut pool call (E p es) (W es) heap (heap_end heap es) s.last
            (result_of p s.last owes.end) one → Keeps s b t
        from_cut (inl before) =
            from_before heap owes.holds before
            (before_by marked before.good.done before.good.mark before.good.unsealed kept_one)
            (λ f finds. finds_fresh before.good.unsealed f (finds_of f finds))
        from_cut (inr (inl sealed)) = from_sealed sealed
        from_cut (inr (inr seen)) = from_end owes.end seen

        from_by : Keeps s b t
        from_by =
            from_cut (at_view (IsCut pool call (E p es) (W es) heap (heap_end heap es) s.last
            (result_of p s.last owes.end)) e.cache owes.left)

    from_standing : (st : Standing) → s.standing ≡ st → HeldAs st program super e s
        → KeepsAs st e s → Keeps s b t
    from_standing Ready standing held keeps =
        from_none (ap (λ (x : Standing). FindsOwed x program s one) standing) held keeps
    from_standing (Down None) standing held keeps =
        from_none (ap (λ (x : Standing). FindsOwed x program s one) standing) held keeps
    from_standing (Down (Some owed)) standing held keeps =
        from_by owed standing (rolls_back_of program owed.tx) refl held keeps
    from_standing (Unusable kind) standing held keeps =
        from_lost kind (at_view (Lost pool.sizes (trap_number kind)) e.cache held)

    pub recovery_keeps : HeldAs s.standing program super e s → KeepsAs s.standing e s
        → Keeps s b t
    recovery_keeps held keeps = from_standing s.standing refl held keeps
