-- Each command is answered as the source says.
use Rattle.std.proofs.Common.{◌≡◌, ℕ, Bool, true, false, ◌==◌, List, length, Option, Some, None, ℤ}
use Rattle.std.proofs.Common.{pos, inl, inr, refl, sym, ap, ◌∙◌, subst, ⊎_elim}
use Rattle.std.proofs.lemmas.Bool.{eqb-true}
use Rattle.cache_model.specs.Cache.{Words, Cache, view}
use Rattle.cache_model.specs.Image.{Images}
use Rattle.pmem.specs.Device.{Device, with_left, with_armed}
use Rattle.pool_map.specs.declared.trap.TrapKind.{TrapKind}
use Rattle.pool_map.specs.Trap.{trap_number}
use Rattle.pool_map.specs.PoolText.{pool_text}
use Rattle.c_types.specs.Shapes.{shapes_of}
use Rattle.clobber_log.specs.Logs.{count_in}
use Rattle.pm_machine.specs.Effects.{heap_end}
use Rattle.pm_machine.specs.Runs.{heap_in}
use Rattle.pool_layout.specs.declared.places.TheConstants.{LAST, DONE}
use Rattle.pool_layout.specs.Good.{Lost}
use Rattle.crash_law.specs.Pools.{IsBefore}
use Rattle.crash_law.specs.Law.{IsAtRest, IsCut}
use Rattle.run_law.specs.Seen.{result_of, E, W}
use Rattle.cut_law.specs.Law.{call_of, pool_with}
use Rattle.cnvm_script.specs.declared.command.Command.TheVariants as command
use Rattle.cnvm_session.specs.declared.mode.Mode.{Mode}
use Rattle.cnvm_session.specs.declared.mode.Mode.TheVariants as mode
use Rattle.cnvm_session.specs.declared.answer.Answer.{Answer}
use Rattle.cnvm_session.specs.declared.answer.Answer.TheVariants as answer
use Rattle.cnvm_session.specs.declared.program.Program.{Program}
use Rattle.pm_machine.specs.HeapPool.{heap_of}
use Rattle.cnvm_session.specs.Commands as commanded
use Rattle.cnvm_session.specs.Outcomes as outcomes
use Rattle.cnvm_session.specs.Outcomes.{mode_of_look}
use Rattle.cnvm_session.specs.Marks.{rolls_back_of, looks_of, policy_of, unsigned_of}
use Rattle.cnvm_session.specs.Commands.{call_number, tx_parameters}
use Rattle.cnvm_session.specs.Pool.{sizes_of}
use Rattle.session_law.specs.Source.{source_pool}
use Rattle.session_law.specs.Words.{AreWords}
use Rattle.session_law.specs.Agrees.{Agrees}
use Rattle.session_law.specs.State.{Pending, Standing, Ready, Down, Unusable, SourceState}
use Rattle.session_law.specs.State.{standing_as}
use Rattle.session_law.specs.Answers.{Refused, RunsBy, Looks, RunsAs, CallsWith, CallsTo}
use Rattle.session_law.specs.Answers.{CallsNamed, Calls, Tells, Shows, TellsDead}
use Rattle.session_law.specs.Answers.{ShowsDead, Lasts}
use Rattle.session_law.specs.Holds.{HoldsPool, IsResting, OwesBy, HoldsAs, Holds}
use Rattle.session_law.specs.Law.{SessionLaw}
use Rattle.session_law.proofs.images.Heaps.{pool_same, shown_same, pool_fits}
use Rattle.session_law.proofs.images.Resting.{resting_down}
use Rattle.session_law.proofs.answers.Calls.{call_runs}
use Rattle.session_law.proofs.answers.Looking.{look_runs}
use Rattle.session_law.proofs.answers.Dead.{told_dead, shows_ready, shows_down}
use Rattle.session_law.proofs.answers.Powers.{power_answers}

module _ (program : Program) (super : Words) where
  -- a device with the same cache owes the same
  same_owed : (owed : Pending) (d e : Device) (s : SourceState) → e.cache ≡ d.cache
      → (marked : Bool) → OwesBy marked program super owed d s
      → OwesBy marked program super owed e s
  same_owed owed d e s cache marked r = record {
    heap = r.heap;
    holds = r.holds;
    takes = r.takes;
    words = r.words;
    end = r.end;
    effects = r.effects;
    ran = r.ran;
    left = subst (Images (IsCut (pool_with program.image super)
        (call_of s.done owed.tx owed.args) (E (policy_of marked) r.effects) (W r.effects) r.heap
        (heap_end r.heap r.effects) s.last (result_of (policy_of marked) s.last r.end)))
        (sym cache) r.left;
  }

  -- a device with the same cache and the same switch holds the same
  same_as : (m : Mode) (d e : Device) (s : SourceState) → e.on ≡ d.on → e.cache ≡ d.cache
      → (st : Standing) → HoldsAs st program super m d s → HoldsAs st program super m e s
  same_as m d e s on cache Ready holds =
      let r = holds.1 in
      let back : d.cache ≡ e.cache = sym cache in (
        holds.0,
        record {
          on = on ∙ r.on;
          rest = subst IsAtRest back r.rest;
          before = subst (λ (c : Cache). IsBefore (pool_with program.image super) s.done
              (heap_in (sizes_of program) c) s.last (view c)) back r.before;
          empty = subst (λ (c : Cache). count_in (sizes_of program) (view c) ≡ 0) back r.empty;
          holds = subst (λ (c : Cache). HoldsPool program (heap_in (sizes_of program) c) s)
              back r.holds;
        },
      )
  same_as m d e s on cache (Down None) holds =
      let r = holds.1 in (
        holds.0,
        record {
          heap = r.heap;
          holds = r.holds;
          left = subst (Images (IsBefore (pool_with program.image super) s.done r.heap s.last))
              (sym cache) r.left;
        },
      )
  same_as m d e s on cache (Down (Some owed)) holds =
      (holds.0, same_owed owed d e s cache (rolls_back_of program owed.tx) holds.1)
  same_as m d e s on cache (Unusable kind) holds = (
    holds.0,
    subst (Images (Lost program.image.parts.sizes (trap_number kind)))
        (sym cache) holds.1,
    on ∙ holds.2,
  )

  moved : (m n : Mode) (d b : Device) (s : SourceState) → n ≡ m → b ≡ d → Holds program super m d s
      → Holds program super n b s
  moved m n d b s modes devices holds =
      subst (λ (x : Mode). Holds program super x b s) (sym modes)
      (subst (λ (x : Device). Holds program super m x s) (sym devices) holds)

  -- a command that is refused
  refused_as : (why : Answer) (m n : Mode) (d b : Device) (s : SourceState) (a : Answer) (k k1 : ℕ)
      →
      Holds program super m d s → commanded.Refused why m d a n b k k1 →
      (t : SourceState) × Refused why s a t × Holds program super n b t
  refused_as why m n d b s a k k1 holds h = (s, (h.0, refl), moved m n d b s h.1 h.2 holds)

  down_mode : (owed : Option Pending) (m : Mode) (d : Device) (s : SourceState)
      → HoldsAs (Down owed) program super m d s → m ≡ mode.Down
  down_mode None m d s holds = holds.0
  down_mode (Some owed) m d s holds = holds.0

  module _ (agrees : Agrees program) (n : Mode) (d b : Device)
      (s : SourceState) (a : Answer) (args : List ℤ) (words : AreWords args) (k k1 : ℕ)
      (ready : s.standing ≡ Ready) (resting : IsResting program super d s) where
    at_ready : Holds program super mode.Ready d s
    at_ready = subst (λ (x : Standing). HoldsAs x program super mode.Ready d s) (sym ready)
        (refl, resting)

    by_mark : (tx : ℕ) → tx_parameters program.image tx ≡ Some (length args) → (marked : Bool) →
        rolls_back_of program tx ≡ marked →
        outcomes.RunsBy marked (unsigned_of program tx) program.image tx args d a n b k k1 →
        (t : SourceState) × RunsBy marked program s (view d.cache) tx args a t
        × Holds program super n b t
    by_mark tx exact marked mark h =
        let done = call_runs marked program super agrees d s resting tx args exact words mark
        h.tx_answer b k k1 ready h.called in (
          done.0,
          subst (λ (x : Answer). RunsBy marked program s (view d.cache) tx args x done.0)
              (sym h.answer) done.1,
          subst (λ (x : Mode). Holds program super x b done.0) (sym h.mode) done.2,
        )

    by_look : (tx : ℕ) → tx_parameters program.image tx ≡ Some (length args) →
        looks_of program tx ≡ true →
        outcomes.Looks (unsigned_of program tx) program.image tx args d a n b k k1 →
        (t : SourceState) × Looks program s tx args a t × Holds program super n b t
    by_look tx exact looks h =
        let done = look_runs program super agrees d s resting tx args exact words looks ready h.seen
        k k1 h.looked in (
          done.0,
          subst (λ (x : Answer). Looks program s tx args x done.0) (sym h.answer) done.1,
          subst (λ (x : Mode). Holds program super x b done.0) (sym h.mode)
              (subst (λ (x : Device). Holds program super (mode_of_look h.seen) x done.0)
              (sym h.same) done.2),
        )

    by_marks : (tx : ℕ) → tx_parameters program.image tx ≡ Some (length args) →
        (looks marked : Bool) → looks_of program tx ≡ looks → rolls_back_of program tx ≡ marked →
        outcomes.RunsAs looks marked (unsigned_of program tx) program.image tx args d a n b k k1 →
        (t : SourceState) × RunsAs looks marked program s (view d.cache) tx args a t
        × Holds program super n b t
    by_marks tx exact true marked looks mark h = by_look tx exact looks h
    by_marks tx exact false marked looks mark h = by_mark tx exact marked mark h

    by_count : (tx count : ℕ) (same : Bool) → (count == length args) ≡ same
        → tx_parameters program.image tx ≡ Some count
        → commanded.CallsWith same program tx args d a n b k k1 → (t : SourceState)
        × CallsWith same program s (view d.cache) tx args a t × Holds program super n b t
    by_count tx count true same takes h =
        by_marks tx (takes ∙ ap (λ (c : ℕ). Some c) (eqb-true count (length args) same))
        (looks_of program tx) (rolls_back_of program tx) refl refl h
    by_count tx count false same takes h =
        refused_as answer.RefusedArity mode.Ready n d b s a k k1 at_ready h

    by_parameters : (tx : ℕ) (count : Option ℕ) → tx_parameters program.image tx ≡ count
        → commanded.CallsTo count program tx args d a n b k k1
        → (t : SourceState) × CallsTo count program s (view d.cache) tx args a t
        × Holds program super n b t
    by_parameters tx None takes h =
        refused_as answer.RefusedUnknown mode.Ready n d b s a k k1 at_ready h
    by_parameters tx (Some count) takes h = by_count tx count (count == length args) refl takes h

    by_name : (number : Option ℕ) → commanded.CallsNamed number program args d a n b k k1
        → (t : SourceState) × CallsNamed number program s (view d.cache) args a t
        × Holds program super n b t
    by_name None h = refused_as answer.RefusedUnknown mode.Ready n d b s a k k1 at_ready h
    by_name (Some tx) h =
        let done = by_parameters tx (tx_parameters program.image tx) refl h in (
          done.0,
          subst (λ (count : Option ℕ). CallsTo count program s (view d.cache) tx args
              a done.0) (agrees.parameters tx) done.1,
          done.2,
        )

  calls_as : (agrees : Agrees program) (name : List ℕ) (args : List ℤ)
      (words : AreWords args) (m n : Mode) (d b : Device) (s : SourceState) (a : Answer) (k k1 : ℕ)
      (st : Standing) → s.standing ≡ st
      → HoldsAs st program super m d s → Holds program super m d s
      → commanded.Calls program name args m d a n b k k1
      → (t : SourceState) × Calls st program s (view d.cache) name args a t
      × Holds program super n b t
  calls_as agrees name args words m n d b s a k k1 Ready standing here holds h =
      by_name agrees n d b s a args words k k1 standing here.1 (call_number program name)
      (subst (λ (x : Mode). commanded.Calls program name args x d a n b k k1) here.0 h)
  calls_as agrees name args words m n d b s a k k1 (Down owed) standing here holds h =
      let is : m ≡ mode.Down = down_mode owed m d s here in
      refused_as answer.RefusedDown mode.Down n d b s a k k1
      (subst (λ (x : Mode). Holds program super x d s) is holds)
      (subst (λ (x : Mode). commanded.Calls program name args x d a n b k k1) is h)
  calls_as agrees name args words m n d b s a k k1 (Unusable kind) standing here holds h =
      refused_as (answer.RefusedUnusable kind) (mode.Unusable kind) n d b s a k k1
      (subst (λ (x : Mode). Holds program super x d s) here.0 holds)
      (subst (λ (x : Mode). commanded.Calls program name args x d a n b k k1) here.0 h)

  -- the answer of `show`
  module _ (agrees : Agrees program) (n : Mode) (d : Device)
      (s : SourceState) (ready : s.standing ≡ Ready) (resting : IsResting program super d s) where
    text_as : (text : List ℕ) → commanded.Tells (shapes_of program.typed) (sizes_of program) d
        (answer.Shown text) n → text ≡ pool_text (shapes_of program.typed) s.pool
    text_as text h =
        let shown : Words = heap_of (sizes_of program) (view d.cache) in
        let same : source_pool program shown ≡ s.pool =
        pool_same program shown (heap_in (sizes_of program) d.cache)
        (shown_same (sizes_of program) d.cache) ∙ resting.holds.pool in
        h.0 resting.on (pool_fits program shown agrees.root)
        ∙ ap (pool_text (shapes_of program.typed)) same

    ready_as : n ≡ mode.Ready → Holds program super n d s
    ready_as is = subst (λ (x : Standing). HoldsAs x program super n d s) (sym ready) (is, resting)

    tells_as : (a : Answer) → commanded.Tells (shapes_of program.typed) (sizes_of program) d a n
        → (t : SourceState) × Tells program s a t × Holds program super n d t
    tells_as (answer.Shown text) h = (s, (text_as text h, refl), ready_as h.1)
    tells_as (answer.ShownDead trap text) h = absurd h
    tells_as answer.NoMemory h =
        (standing_as (Down None) s, refl, (h, resting_down program super d s resting))
    tells_as answer.Silent h = absurd h
    tells_as (answer.Done v u l) h = absurd h
    tells_as (answer.Trap t) h = absurd h
    tells_as (answer.Aborted t) h = absurd h
    tells_as (answer.Stopped p) h = absurd h
    tells_as answer.DeviceFault h = absurd h
    tells_as answer.RecoveredNone h = absurd h
    tells_as (answer.RecoveredRedone v u l) h = absurd h
    tells_as (answer.RecoveredTrap t) h = absurd h
    tells_as (answer.RecoveredAborted t) h = absurd h
    tells_as (answer.Last f v) h = absurd h
    tells_as answer.RefusedDown h = absurd h
    tells_as (answer.RefusedUnusable t) h = absurd h
    tells_as answer.RefusedUnknown h = absurd h
    tells_as answer.RefusedArity h = absurd h
    tells_as answer.RefusedNumbers h = absurd h
    tells_as (answer.RefusedPick l) h = absurd h

  shows_as :
      (agrees : Agrees program) (m n : Mode) (d b : Device)
      (s : SourceState) (a : Answer) (k k1 : ℕ) (st : Standing) →
      s.standing ≡ st → HoldsAs st program super m d s → Holds program super m d s
      → commanded.Shows (shapes_of program.typed) (sizes_of program) m d a n b k k1 →
      (t : SourceState) × Shows st program s a t × Holds program super n b t
  shows_as agrees m n d b s a k k1 Ready standing here holds h =
      let at = subst (λ (x : Mode). commanded.Shows (shapes_of program.typed) (sizes_of program) x d
      a n b k k1) here.0 h in
      let done = tells_as agrees n d s standing here.1 a at.0 in
      (done.0, done.1, subst (λ (x : Device). Holds program super n x done.0) (sym at.1) done.2)
  shows_as agrees m n d b s a k k1 (Down owed) standing here holds h =
      let is : m ≡ mode.Down = down_mode owed m d s here in
      refused_as answer.RefusedDown mode.Down n d b s a k k1
      (subst (λ (x : Mode). Holds program super x d s) is holds)
      (subst (λ (x : Mode). commanded.Shows (shapes_of program.typed) (sizes_of program) x d a n b
      k k1) is h)
  shows_as agrees m n d b s a k k1 (Unusable kind) standing here holds h =
      refused_as (answer.RefusedUnusable kind) (mode.Unusable kind) n d b s a k k1
      (subst (λ (x : Mode). Holds program super x d s) here.0 holds)
      (subst (λ (x : Mode). commanded.Shows (shapes_of program.typed) (sizes_of program) x d a n b k
      k1) here.0 h)

  -- the answer of `show dead`
  dead_told : (agrees : Agrees program) (d : Device) (kind : TrapKind) (a : Answer) → d.on ≡ true
      → commanded.TellsDead (shapes_of program.typed) (sizes_of program) kind d a
      → TellsDead program (view d.cache) kind a
  dead_told agrees d kind a on h =
      ⊎_elim (λ shown. inl (shown.1 ∙ ap (answer.ShownDead kind) (shown.2 on
      (pool_fits program (heap_of (sizes_of program) (view d.cache)) agrees.root))))
      (λ none. inr none)
      (told_dead (shapes_of program.typed) (sizes_of program) kind d a h)

  dead_as :
      (agrees : Agrees program) (m n : Mode) (d b : Device)
      (s : SourceState) (a : Answer) (k k1 : ℕ) (st : Standing) →
      s.standing ≡ st → HoldsAs st program super m d s → Holds program super m d s
      → commanded.ShowsDead (shapes_of program.typed) (sizes_of program) m d a n b k k1 →
      (t : SourceState) × ShowsDead st program s (view d.cache) a t × Holds program super n b t
  dead_as agrees m n d b s a k k1 Ready standing here holds h =
      shows_as agrees m n d b s a k k1 Ready standing here holds
      (shows_ready program m d a n b k k1 here.0 h)
  dead_as agrees m n d b s a k k1 (Down owed) standing here holds h =
      shows_as agrees m n d b s a k k1 (Down owed) standing here holds
      (shows_down program m d a n b k k1 (down_mode owed m d s here) h)
  dead_as agrees m n d b s a k k1 (Unusable kind) standing here holds h =
      let at = subst (λ (x : Mode). commanded.ShowsDead (shapes_of program.typed)
      (sizes_of program) x d a n b k k1) here.0 h in (
        s,
        (dead_told agrees d kind a here.2 at.0, refl),
        moved m n d b s (at.1 ∙ sym here.0) at.2 holds,
      )

  -- the answer of `last`
  lasts_as : (m n : Mode) (d b : Device) (s : SourceState) (a : Answer) (k k1 : ℕ) (st : Standing) →
      s.standing ≡ st → HoldsAs st program super m d s → Holds program super m d s
      → commanded.Lasts m d a n b k k1 → (t : SourceState) × Lasts st s a t
      × Holds program super n b t
  lasts_as m n d b s a k k1 Ready standing here holds h =
      let at = subst (λ (x : Mode). commanded.Lasts x d a n b k k1) here.0 h in
      let words : answer.Last (view d.cache DONE) (view d.cache LAST) ≡ answer.Last (pos s.done)
      s.last = λ i. answer.Last (here.1.before.good.done i) (here.1.before.last_is i) in
      (s, (at.0 here.1.on ∙ words, refl), moved m n d b s (at.1 ∙ sym here.0) at.2 holds)
  lasts_as m n d b s a k k1 (Down owed) standing here holds h =
      let is : m ≡ mode.Down = down_mode owed m d s here in
      refused_as answer.RefusedDown mode.Down n d b s a k k1
      (subst (λ (x : Mode). Holds program super x d s) is holds)
      (subst (λ (x : Mode). commanded.Lasts x d a n b k k1) is h)
  lasts_as m n d b s a k k1 (Unusable kind) standing here holds h =
      refused_as (answer.RefusedUnusable kind) (mode.Unusable kind) n d b s a k k1
      (subst (λ (x : Mode). Holds program super x d s) here.0 holds)
      (subst (λ (x : Mode). commanded.Lasts x d a n b k k1) here.0 h)

pub each_command : SessionLaw
each_command program super (command.Call name args) m n d b s a k k1 agrees words holds h =
    calls_as program super agrees name args words m n d b s a k k1 s.standing refl
    holds holds h
each_command program super (command.Stop left) m n d b s a k k1 agrees words holds h = (
  s,
  (h.0, refl),
  moved program super m n (with_left left d) b s h.1 h.2
      (same_as program super m d (with_left left d) s refl refl s.standing holds),
)
each_command program super (command.Fault at) m n d b s a k k1 agrees words holds h = (
  s,
  (h.0, refl),
  moved program super m n (with_armed at d) b s h.1 h.2
      (same_as program super m d (with_armed at d) s refl refl s.standing holds),
)
each_command program super (command.Power choice) m n d b s a k k1 agrees words holds h =
    power_answers program super agrees choice m n d b s a k k1 holds h
each_command program super command.Show m n d b s a k k1 agrees words holds h =
    shows_as program super agrees m n d b s a k k1 s.standing refl holds holds h
each_command program super command.ShowDead m n d b s a k k1 agrees words holds h =
    dead_as program super agrees m n d b s a k k1 s.standing refl holds holds h
each_command program super command.Last m n d b s a k k1 agrees words holds h =
    lasts_as program super m n d b s a k k1 s.standing refl holds holds h
