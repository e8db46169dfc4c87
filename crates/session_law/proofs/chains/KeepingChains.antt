-- A command that finishes no transaction, or rolls back the one that it finishes, keeps the heap,
-- and so does a chain of such commands.
use Rattle.std.proofs.Common.{◌≡◌, ◌⊎◌, inl, inr, ⊎_elim, ℕ, ◌==◌, ◌&&◌, ◌<◌, Bool, true}
use Rattle.std.proofs.Common.{false, List, [], ◌∷◌, length, Option, Some, None, ℤ, pos, refl}
use Rattle.std.proofs.Common.{sym, ap, ◌∙◌, subst, arith, length-append}
use Rattle.std.proofs.lemmas.Bool.{eqb-true}
use Rattle.std.specs.List.{AllByRecursion}
use Rattle.cache_model.specs.Cache.{Words, view}
use Rattle.cache_model.specs.Image.{Images}
use Rattle.cache_model.specs.Collapse.{bad}
use Rattle.cache_model.specs.declared.choice.Choice.{Choice}
use Rattle.pmem.specs.Device.{Device, memory_of, powered}
use Rattle.pool_layout.specs.declared.places.TheConstants.{DONE, ATTEMPT, MARK}
use Rattle.pool_layout.specs.Sizes.{heap_words}
use Rattle.pool_map.specs.declared.trap.TrapKind.{TrapKind}
use Rattle.c_types.specs.Shapes.{shapes_of}
use Rattle.pm_machine.specs.declared.records.Policy.{Policy}
use Rattle.pm_machine.specs.Runs.{heap_in}
use Rattle.tx_run.specs.Standing.{is_number}
use Rattle.tx_run.specs.Called.{IsTxCalled}
use Rattle.tx_run.specs.declared.answer.CallAnswer.{CallAnswer}
use Rattle.tx_run.specs.declared.answer.CallAnswer.TheVariants as called
use Rattle.cnvm_script.specs.declared.command.Command.{Command}
use Rattle.cnvm_script.specs.declared.command.Command.TheVariants as command
use Rattle.cnvm_session.specs.declared.mode.Mode.{Mode}
use Rattle.cnvm_session.specs.declared.mode.Mode.TheVariants as mode
use Rattle.cnvm_session.specs.declared.answer.Answer.{Answer}
use Rattle.cnvm_session.specs.declared.answer.Answer.TheVariants as answer
use Rattle.cnvm_session.specs.declared.program.Program.{Program}
use Rattle.cnvm_session.specs.Marks.{rolls_back_of, looks_of, policy_of, unsigned_of}
use Rattle.cnvm_session.specs.Outcomes.{answer_of_call}
use Rattle.cnvm_session.specs.Outcomes as outcomes
use Rattle.cnvm_session.specs.Commands as commanded
use Rattle.cnvm_session.specs.Commands.{call_number, tx_parameters, fallen, Commanded}
use Rattle.cnvm_session.specs.Pool.{sizes_of}
use Rattle.session_law.specs.Words.{AreWords}
use Rattle.session_law.specs.Agrees.{Agrees}
use Rattle.session_law.specs.State.{Pending, Standing, Ready, Down, Unusable, SourceState}
use Rattle.session_law.specs.State.{standing_as, undone_as}
use Rattle.session_law.specs.Answers.{RunsBy, RunsAs, CallsWith, CallsTo}
use Rattle.session_law.specs.Answers.{CallsNamed, Calls, Tells, Shows, ShowsDead, Lasts}
use Rattle.session_law.specs.Answers.{Powers, Answers}
use Rattle.session_law.specs.Holds.{IsResting, HoldsAs, Holds}
use Rattle.session_law.specs.History.{done_by}
use Rattle.session_law.specs.Ran.{found_by, Moment, SessionStep, Ran}
use Rattle.session_law.specs.Law.{IsWordCommand, IsRolledBack, IsRollback, OnlyRollsBack}
use Rattle.session_law.specs.Law.{RollbackChainLaw}
use Rattle.session_law.proofs.images.Ones.{left_rest}
use Rattle.session_law.proofs.images.Reading.{numbers_small, stands_ready, stands_numbers}
use Rattle.session_law.proofs.images.Restoring.{Restores, KeepsIn}
use Rattle.session_law.proofs.answers.Calls.{call_keeps, call_restores}
use Rattle.session_law.proofs.answers.Looking.{looked_state}
use Rattle.session_law.proofs.answers.Dead.{shows_ready, shows_down}
use Rattle.session_law.proofs.answers.Powers.{left_images, left_held}
use Rattle.session_law.proofs.chains.Histories.{answer_done}
use Rattle.session_law.proofs.chains.Chains.{chain_kept}
use Rattle.session_law.proofs.chains.Keeping.{FinishesNone, not_finished, KeepsBy, KeepsAs, Keeps}
use Rattle.session_law.proofs.chains.Keeping.{leaf}
use Rattle.session_law.proofs.chains.Keeping.{whole_keeps, resting_whole, resting_heap}
use Rattle.session_law.proofs.chains.Keeping.{recovery_keeps}

module _ (program : Program) (super : Words) (agrees : Agrees program) (h : Words) where
  abbrev Kept : SourceState → Device → SourceState → Type 0
  Kept s b t = Keeps program super agrees h s b t

  abbrev Holding : Standing → Device → SourceState → Type 0
  Holding st b s = KeepsAs program super agrees h st b s

  -- nothing changed but what the cache doesn't show
  same_by : (marked : Bool) (d b : Device) (s : SourceState) → b.cache ≡ d.cache
      → KeepsBy program super agrees h marked d s → KeepsBy program super agrees h marked b s
  same_by marked d b s cache keeps =
      subst (Images (KeepsIn marked program s.done h)) (sym cache) keeps

  on_cache : (st : Standing) (d b : Device) (s : SourceState) → b.cache ≡ d.cache
      → Holding st d s → Holding st b s
  on_cache Ready d b s cache keeps = subst (Images (Restores program h)) (sym cache) keeps
  on_cache (Down None) d b s cache keeps = subst (Images (Restores program h)) (sym cache) keeps
  on_cache (Down (Some owed)) d b s cache keeps =
      same_by (rolls_back_of program owed.tx) d b s cache keeps
  on_cache (Unusable kind) d b s cache keeps = tt

  same_keeps : (d b : Device) (s t : SourceState) → b.cache ≡ d.cache → t ≡ s
      → Holding s.standing d s → Kept s b t
  same_keeps d b s t cache same keeps =
      leaf program super agrees h s t s b same refl refl (on_cache s.standing d b s cache keeps)

  -- a call on a device at rest
  module _ (d b : Device) (s t : SourceState) (n : Mode) (a : Answer) (args : List ℤ)
      (words : AreWords args) (k k1 : ℕ) (resting : IsResting program super d s)
      (ready : s.standing ≡ Ready) (keeps : Holding Ready d s) (none : FinishesNone s a t)
      (holds : Holds program super n b t) where
    abbrev image : Words
    image = view d.cache

    abbrev Numbers : Bool → Type 0
    Numbers x = (is_number (image DONE) && is_number (image ATTEMPT)) ≡ x

    same_heap : (w : ℕ) → w < heap_words (sizes_of program)
        → heap_in (sizes_of program) d.cache w ≡ h w
    same_heap = resting_heap program super agrees h d s resting keeps

    stays : t ≡ s → b ≡ d → Kept s b t
    stays same device = same_keeps d b s t (ap (λ (x : Device). x.cache) device) same
        (subst (λ (st : Standing). Holding st d s) (sym ready) keeps)

    module _ (tx : ℕ) (takes : tx_parameters program.image tx ≡ Some (length args)) where
      abbrev owed : Pending
      owed = record { tx = tx; args = args }

      abbrev waiting : SourceState
      waiting = standing_as (Down (Some owed)) s

      module _ (marked : Bool) (mark : rolls_back_of program tx ≡ marked) where
        abbrev p : Policy
        p = policy_of marked

        after_by : (m : Bool) (other : Words)
            → KeepsIn m program s.done (heap_in (sizes_of program) d.cache) other
            → KeepsIn m program s.done h other
        after_by true other kept = λ done w less. kept done w less ∙ same_heap w less
        after_by false other kept =
            λ unmarked unsealed w less. kept unmarked unsealed w less ∙ same_heap w less

        cut_off : (r : CallAnswer) → IsTxCalled r p program.image tx args d b k k1
            → (r ≡ called.Numbers → ⊥) → t ≡ waiting → Kept s b t
        cut_off r did other same = go (is_number (image DONE) && is_number (image ATTEMPT)) refl
          where
            good : (image MARK ≡ pos 0)
            good = resting.before.good.mark

            go : (x : Bool) → Numbers x → Kept s b t
            go true numbers =
                let small = numbers_small image s.done resting.before.good.attempt
                resting.before.good.done resting.before.good.attempt_is numbers in
                let after : KeepsBy program super agrees h marked b waiting =
                λ other seen. after_by marked other
                (call_keeps marked program super agrees d s resting tx args takes words small b mark
                r k k1 (did.ready resting.on (stands_ready image good numbers)) other seen) in
                leaf program super agrees h s t waiting b same refl refl
                (subst (λ (m : Bool). KeepsBy program super agrees h m b waiting) (sym mark) after)
            go false numbers =
                absurd (other (did.numbers resting.on (stands_numbers image good numbers)).0)

        -- a call that is rolled back
        back : (kind : TrapKind) → IsTxCalled (called.Aborted kind) p program.image tx args d b k k1
            → IsRolledBack program (heap_in (sizes_of program) d.cache) s.last b
        back kind did = go (is_number (image DONE) && is_number (image ATTEMPT)) refl
          where
            go : (x : Bool) → Numbers x
                → IsRolledBack program (heap_in (sizes_of program) d.cache) s.last b
            go true numbers =
                call_restores marked program super agrees d s resting tx args takes words
                (numbers_small image s.done resting.before.good.attempt
                resting.before.good.done resting.before.good.attempt_is numbers) b mark kind k k1
                (did.ready resting.on (stands_ready image resting.before.good.mark numbers))
            go false numbers =
                let same = (did.numbers resting.on
                (stands_numbers image resting.before.good.mark numbers)).0 in
                absurd cc

        call_kept : (u : Bool) (r : CallAnswer) → IsTxCalled r p program.image tx args d b k k1
            → RunsBy marked program s image tx args (answer_of_call u r) t
            → FinishesNone s (answer_of_call u r) t → Kept s b t
        call_kept u (called.Done v l) did runs only =
            absurd (not_finished s t (answer.Done v u l)
            (ap (λ (x : SourceState). x.done) runs.2) (λ rolls. rolls) only)
        call_kept u (called.Trap kind) did runs only =
            leaf program super agrees h s t (standing_as (Unusable kind) s) b runs.2 refl refl tt
        call_kept u (called.Aborted kind) did runs only =
            let rested : IsResting program super b (undone_as Ready s) =
            (subst (λ (x : SourceState). Holds program super n b x) runs.2 holds).1 in
            leaf program super agrees h s t (undone_as Ready s) b runs.2 refl refl
            (resting_whole program super agrees h b (undone_as Ready s) rested
            (λ w less. (back kind did).heap w less ∙ same_heap w less))
        call_kept u (called.Off at) did runs only =
            cut_off (called.Off at) did (λ clash. absurd cc) runs
        call_kept u called.Failed did runs only =
            cut_off called.Failed did (λ clash. absurd cc) runs
        call_kept u called.NoMemory did runs only =
            cut_off called.NoMemory did (λ clash. absurd cc) runs
        call_kept u (called.Unusable kind) did runs only = absurd runs
        call_kept u called.Numbers did runs only =
            stays runs.1
            (did.numbers resting.on (stands_numbers image resting.before.good.mark runs.0)).1

      by_mark : (marked u : Bool) → rolls_back_of program tx ≡ marked
          → outcomes.RunsBy marked u program.image tx args d a n b k k1
          → RunsBy marked program s image tx args a t → Kept s b t
      by_mark marked u mark did runs =
          call_kept marked mark u did.tx_answer did.called
          (subst (λ (x : Answer). RunsBy marked program s image tx args x t) did.answer runs)
          (subst (λ (x : Answer). FinishesNone s x t) did.answer none)

      by_marks : (looks marked u : Bool) → rolls_back_of program tx ≡ marked
          → outcomes.RunsAs looks marked u program.image tx args d a n b k k1
          → RunsAs looks marked program s image tx args a t → Kept s b t
      by_marks true marked u mark did runs =
          ⊎_elim (λ same. stays same did.same)
          (λ down. leaf program super agrees h s t (standing_as (Down None) s) b down.1 refl refl
          (subst (Images (Restores program h)) (sym (ap (λ (x : Device). x.cache) did.same)) keeps))
          (looked_state program s t tx args a runs)
      by_marks false marked u mark did runs = by_mark marked u mark did runs

    by_count : (tx count : ℕ) (same : Bool) → (count == length args) ≡ same
        → tx_parameters program.image tx ≡ Some count
        → commanded.CallsWith same program tx args d a n b k k1
        → CallsWith same program s image tx args a t → Kept s b t
    by_count tx count true same takes did calls =
        by_marks tx (takes ∙ ap (λ (i : ℕ). Some i) (eqb-true count (length args) same))
        (looks_of program tx) (rolls_back_of program tx) (unsigned_of program tx) refl did calls
    by_count tx count false same takes did calls = stays calls.1 did.2

    by_parameters : (tx : ℕ) (count : Option ℕ) → tx_parameters program.image tx ≡ count
        → commanded.CallsTo count program tx args d a n b k k1
        → CallsTo count program s image tx args a t → Kept s b t
    by_parameters tx None takes did calls = stays calls.1 did.2
    by_parameters tx (Some count) takes did calls =
        by_count tx count (count == length args) refl takes did calls

    by_name : (number : Option ℕ) → commanded.CallsNamed number program args d a n b k k1
        → CallsNamed number program s image args a t → Kept s b t
    by_name None did calls = stays calls.1 did.2
    by_name (Some tx) did calls =
        by_parameters tx (tx_parameters program.image tx) refl did
        (subst (λ (count : Option ℕ). CallsTo count program s image tx args a t)
        (sym (agrees.parameters tx)) calls)

  -- a command of a session, from one moment to the next
  module _ (m n : Mode) (d b : Device) (s t : SourceState) (a : Answer) (k k1 : ℕ)
      (before : Holds program super m d s) (after : Holds program super n b t)
      (none : FinishesNone s a t) (keeps : Holding s.standing d s) where
    stay : t ≡ s → b ≡ d → Kept s b t
    stay same device =
        same_keeps d b s t (ap (λ (x : Device). x.cache) device) same keeps

    down_is : (owed : Option Pending) → HoldsAs (Down owed) program super m d s → m ≡ mode.Down
    down_is None holds = holds.0
    down_is (Some call) holds = holds.0

    call_as : (name : List ℕ) (args : List ℤ) → AreWords args → (st : Standing) → s.standing ≡ st
        → HoldsAs st program super m d s → Holding st d s
        → commanded.Calls program name args m d a n b k k1
        → Calls st program s (view d.cache) name args a t → Kept s b t
    call_as name args words Ready standing holds here did calls =
        by_name d b s t n a args words k k1 holds.1 standing here none after
        (call_number program name)
        (subst (λ (x : Mode). commanded.Calls program name args x d a n b k k1) holds.0 did) calls
    call_as name args words (Down owed) standing holds here did calls =
        stay calls.1
        (subst (λ (x : Mode). commanded.Calls program name args x d a n b k k1)
        (down_is owed holds) did).2
    call_as name args words (Unusable kind) standing holds here did calls =
        stay calls.1
        (subst (λ (x : Mode). commanded.Calls program name args x d a n b k k1) holds.0 did).2

    -- `show` and `last`

    told_same : (x : Answer) → Tells program s x t → (t ≡ s) ⊎ (t ≡ standing_as (Down None) s)
    told_same (answer.Shown text) is = inl is.1
    told_same (answer.ShownDead trap text) is = absurd is
    told_same answer.NoMemory is = inr is
    told_same answer.Silent is = absurd is
    told_same (answer.Done v u l) is = absurd is
    told_same (answer.Trap kind) is = absurd is
    told_same (answer.Aborted kind) is = absurd is
    told_same (answer.Stopped p) is = absurd is
    told_same answer.DeviceFault is = absurd is
    told_same answer.RecoveredNone is = absurd is
    told_same (answer.RecoveredRedone v u l) is = absurd is
    told_same (answer.RecoveredTrap kind) is = absurd is
    told_same (answer.RecoveredAborted kind) is = absurd is
    told_same (answer.Last f v) is = absurd is
    told_same answer.RefusedDown is = absurd is
    told_same (answer.RefusedUnusable kind) is = absurd is
    told_same answer.RefusedUnknown is = absurd is
    told_same answer.RefusedArity is = absurd is
    told_same answer.RefusedNumbers is = absurd is
    told_same (answer.RefusedPick line) is = absurd is

    show_as : (st : Standing) → s.standing ≡ st → HoldsAs st program super m d s → Holding st d s
        → commanded.Shows (shapes_of program.typed) (sizes_of program) m d a n b k k1
        → Shows st program s a t → Kept s b t
    show_as Ready standing holds here did shows =
        let device = (subst (λ (x : Mode).
        commanded.Shows (shapes_of program.typed) (sizes_of program) x d a n b k k1) holds.0
        did).1 in
        ⊎_elim (λ same. stay same device)
        (λ down. leaf program super agrees h s t (standing_as (Down None) s) b down refl refl
        (subst (Images (Restores program h)) (sym (ap (λ (x : Device). x.cache) device)) here))
        (told_same a shows)
    show_as (Down owed) standing holds here did shows =
        stay shows.1 (subst (λ (x : Mode).
        commanded.Shows (shapes_of program.typed) (sizes_of program) x d a n b k k1)
        (down_is owed holds) did).2
    show_as (Unusable kind) standing holds here did shows =
        stay shows.1 (subst (λ (x : Mode).
        commanded.Shows (shapes_of program.typed) (sizes_of program) x d a n b k k1) holds.0
        did).2

    dead_as : (st : Standing) → s.standing ≡ st → HoldsAs st program super m d s → Holding st d s
        → commanded.ShowsDead (shapes_of program.typed) (sizes_of program) m d a n b k k1
        → ShowsDead st program s (view d.cache) a t → Kept s b t
    dead_as Ready standing holds here did shows =
        show_as Ready standing holds here (shows_ready program m d a n b k k1 holds.0 did) shows
    dead_as (Down owed) standing holds here did shows =
        show_as (Down owed) standing holds here
        (shows_down program m d a n b k k1 (down_is owed holds) did) shows
    dead_as (Unusable kind) standing holds here did shows =
        stay shows.1 (subst (λ (x : Mode).
        commanded.ShowsDead (shapes_of program.typed) (sizes_of program) x d a n b k k1) holds.0
        did).2

    last_as : (st : Standing) → HoldsAs st program super m d s
        → commanded.Lasts m d a n b k k1 → Lasts st s a t → Kept s b t
    last_as Ready holds did lasts =
        stay lasts.1 (subst (λ (x : Mode). commanded.Lasts x d a n b k k1) holds.0 did).2
    last_as (Down owed) holds did lasts =
        stay lasts.1
        (subst (λ (x : Mode). commanded.Lasts x d a n b k k1) (down_is owed holds) did).2
    last_as (Unusable kind) holds did lasts =
        stay lasts.1 (subst (λ (x : Mode). commanded.Lasts x d a n b k k1) holds.0 did).2

    -- a power cut
    module _ (choice : Choice) where
      abbrev e : Device
      e = powered choice d

      cut_by : (marked : Bool) → KeepsBy program super agrees h marked d s
          → KeepsBy program super agrees h marked e s
      cut_by marked here =
          left_images program super choice d s (KeepsIn marked program s.done h) here

      cut_keeps : (st : Standing) → Holding st d s → Holding st e s
      cut_keeps Ready here = left_images program super choice d s (Restores program h) here
      cut_keeps (Down None) here = left_images program super choice d s (Restores program h) here
      cut_keeps (Down (Some owed)) here = cut_by (rolls_back_of program owed.tx) here
      cut_keeps (Unusable kind) here = tt

      by_picks : (first pick : Option ℕ) → fallen 0 choice.picks ≡ first
          → bad (memory_of d) choice.picks ≡ pick → commanded.Powers program choice m d a n b k k1
          → Powers program s (view e.cache) a t → Kept s b t
      by_picks (Some line) pick falls is did powers =
          let refused = did.0 line falls in
          stay (subst (λ (x : Answer). Powers program s (view e.cache) x t) refused.0 powers)
          refused.2
      by_picks None (Some line) rises is did powers =
          let refused = did.1 line rises is in
          stay (subst (λ (x : Answer). Powers program s (view e.cache) x t) refused.0 powers)
          refused.2
      by_picks None None rises fits did powers =
          recovery_keeps program super agrees h e s refl
          (left_rest d.cache choice.rest choice.picks) a n b k k1 (did.2 rises fits) t powers none
          after (left_held program super choice d s m s.standing before)
          (cut_keeps s.standing keeps)

    command_keeps : (c : Command) → IsWordCommand c → Commanded program c m d a n b k k1
        → Answers program s (found_by c d) c a t → Kept s b t
    command_keeps (command.Call name args) words did meant =
        call_as name args words s.standing refl before keeps did meant
    command_keeps (command.Stop left) words did meant =
        same_keeps d b s t (ap (λ (x : Device). x.cache) did.2) meant.1 keeps
    command_keeps (command.Fault at) words did meant =
        same_keeps d b s t (ap (λ (x : Device). x.cache) did.2) meant.1 keeps
    command_keeps (command.Power choice) words did meant =
        by_picks choice (fallen 0 choice.picks) (bad (memory_of d) choice.picks) refl refl did meant
    command_keeps command.Show words did meant =
        show_as s.standing refl before keeps did meant
    command_keeps command.ShowDead words did meant =
        dead_as s.standing refl before keeps did meant
    command_keeps command.Last words did meant = last_as s.standing before did meant

  -- a step of a chain

  no_more : (c : Command) (x z : Moment) (a : Answer) → SessionStep program super c x a z
      → (z.history ≡ x.history) ⊎ IsRollback a → FinishesNone x.state a z.state
  no_more c x z a step (inl same) =
      let does = answer_done program x.state z.state (found_by c x.device) c a step.meant in
      let long = sym (ap (λ (calls : List Pending). length calls) same)
      ∙ ap (λ (calls : List Pending). length calls) step.history
      ∙ length-append x.history (done_by program x.state (found_by c x.device) c a) in
      inl (omega (arith, does.count, long))
  no_more c x z a step (inr rolls) = inr rolls

  pub chain_keeps : (commands : List Command) (answers : List Answer) (x y : Moment)
      → AllByRecursion IsWordCommand commands → Holds program super x.mode x.device x.state
      → Holding x.state.standing x.device x.state
      → (ran : Ran program super commands answers x y)
      → OnlyRollsBack program super commands answers x y ran
      → Kept x.state y.device y.state
  chain_keeps [] [] x y words holds keeps same only =
      subst (λ (z : Moment). Kept x.state z.device z.state) (sym same)
      (leaf program super agrees h x.state x.state x.state x.device refl refl refl keeps)
  chain_keeps [] (a ∷ answers) x y words holds keeps ran only = absurd ran
  chain_keeps (c ∷ commands) [] x y words holds keeps ran only = absurd ran
  chain_keeps (c ∷ commands) (a ∷ answers) x y words holds keeps ran only =
      let z : Moment = ran.0 in
      let first = command_keeps x.mode z.mode x.device z.device x.state z.state a x.steps z.steps
      holds ran.1.holds (no_more c x z a ran.1 only.0) keeps c words.0 ran.1.did ran.1.meant in
      let rest = chain_keeps commands answers z y words.1 ran.1.holds first.heap ran.2 only.1 in
      record {
        pool = rest.pool ∙ first.pool;
        last = rest.last ∙ first.last;
        heap = rest.heap;
      }

-- the heap at a moment that takes calls
module _ (program : Program) (super : Words) where
  at_rest : (x : Moment) → Holds program super x.mode x.device x.state
      → x.state.standing ≡ Ready → IsResting program super x.device x.state
  at_rest x holds ready =
      (subst (λ (st : Standing). HoldsAs st program super x.mode x.device x.state) ready holds).1

pub chain_rolled_back : RollbackChainLaw
chain_rolled_back program super commands answers x y agrees words holds ready ran only =
    let h : Words = heap_in (sizes_of program) x.device.cache in
    let whole : Images (Restores program h) x.device.cache =
    resting_whole program super agrees h x.device x.state (at_rest program super x holds ready)
    (λ w less. refl) in
    let keeps = chain_keeps program super agrees h commands answers x y words holds
    (whole_keeps program super agrees h x.state.standing x.device x.state whole) ran only in
    record {
      pool = keeps.pool;
      last = keeps.last;
      device = λ now.
          let rested = at_rest program super y
          (chain_kept program super commands answers x y holds ran) now in
          record {
            heap = resting_heap program super agrees h y.device y.state rested
                (subst (λ (st : Standing). KeepsAs program super agrees h st y.device y.state) now
                keeps.heap);
            last_is = rested.before.last_is ∙ keeps.last;
          };
    }
