-- What a worker's chain finishes: each transaction that it began at most once, in order.
use Rattle.std.proofs.Common.{◌≡◌, inl, inr, ℕ, suc, false, List, [], ◌∷◌, ◌++◌, Option, Some, None}
use Rattle.std.proofs.Common.{length, ◌<◌, ℤ, refl, sym, ap, ◌∙◌, subst, arith, Bool, true}
use Rattle.std.proofs.Common.{if◌then◌else◌}
use Rattle.cache_model.specs.Cache.{Words}
use Rattle.pool_map.specs.PoolMap.{PoolMap}
use Rattle.pool_workers.specs.Crew.{task_at}
use Rattle.cnvm_session.specs.declared.answer.Answer.{Answer}
use Rattle.cnvm_session.specs.declared.answer.Answer.TheVariants as answer
use Rattle.cnvm_session.specs.declared.program.Program.{Program}
use Rattle.cnvm_session.specs.Commands.{call_number}
use Rattle.cnvm_session.specs.Marks.{rolls_back_of, looks_of}
use Rattle.workers_script.specs.declared.command.WorkersCommand.{WorkersCommand}
use Rattle.session_law.specs.State.{Pending, Standing, Ready, Down, Unusable, SourceState}
use Rattle.session_law.specs.State.{standing_as, created}
use Rattle.session_law.specs.Answers.{Powers}
use Rattle.session_law.specs.History.{GivesPool, LeadsTo, waiting_of, call_to, counted, called_by}
use Rattle.session_law.specs.History.{recovered_by, IsPart, HasDone}
use Rattle.session_law.proofs.chains.Histories.{part_none, part_same, part_append, both, same_done}
use Rattle.session_law.proofs.chains.Histories.{powers_done}
use Rattle.session_law.proofs.chains.Running.{told_of}
use Rattle.workers_source_law.specs.Lines.{IsEndedWith, Ends}
use Rattle.workers_source_law.specs.Law.{Instant, AllHold, WorkerHolds, RanWorkers, first_instant}
use Rattle.workers_source_law.specs.Law.{last_instant}
use Rattle.workers_source_law.specs.Alone.{OwnEvent, Began, Ended, Recovered, Told, Busy, Barred}
use Rattle.workers_source_law.specs.Alone.{RecoversAlone, Stray, AloneStep, AloneChain}
use Rattle.workers_source_law.specs.Alone.{own_events_in}
use Rattle.workers_source_law.specs.OwnHistory.{begun_by, begun_in, storing, own_finished}
use Rattle.workers_source_law.specs.OwnHistory.{history_of, answered_from, OwnSealedLaw}
use Rattle.workers_source_law.specs.OwnHistory.{OwnHistoryLaw, OwnPoolLaw, AloneNewLaw}
use Rattle.workers_source_law.proofs.Alones.{still_less, run_alone}
use Rattle.workers_source_law.proofs.Runs.{count_new}

-- a transaction that stays owed was owed before

not_none : (done : List Pending) (call : Pending) → done ++ (call ∷ []) ≡ [] → ⊥
not_none [] call is = absurd cc
not_none (d ∷ done) call is = absurd cc

same_one : (done : List Pending) (call owed : Pending) (rest : List Pending)
    → done ++ (call ∷ []) ≡ owed ∷ rest → rest ≡ [] → call ≡ owed
same_one [] call owed rest is none = cc
same_one (d ∷ done) call owed rest is none =
    let tail : done ++ (call ∷ []) ≡ rest = cc in absurd (not_none done call (tail ∙ none))

still_owed : (st : Standing) (done : List Pending) (call : Pending)
    → IsPart (done ++ (call ∷ [])) (waiting_of st ++ []) → st ≡ Down (Some call)
still_owed Ready done call is = absurd (not_none done call is)
still_owed (Down None) done call is = absurd (not_none done call is)
still_owed (Down (Some owed)) done call (inl none) = absurd (not_none done call none)
still_owed (Down (Some owed)) done call (inr one) =
    ap (λ (c : Pending). Down (Some c)) (sym (same_one done call owed one.0 one.1 one.2))
still_owed (Unusable kind) done call is = absurd (not_none done call is)

same_call : (call other : Pending) → Down (Some call) ≡ Down (Some other) → other ≡ call
same_call call other is = cc

module _ (program : Program) where
  -- a transaction that it owes isn't marked
  abbrev pub OwesPlain : SourceState → Type 0
  OwesPlain s =
      (call : Pending) → s.standing ≡ Down (Some call) → rolls_back_of program call.tx ≡ false

  ready_plain : (s : SourceState) → s.standing ≡ Ready → OwesPlain s
  ready_plain s ready call is =
      let clash : Ready ≡ Down (Some call) = sym ready ∙ is in absurd cc

  same_plain : (s t : SourceState) → t ≡ s → OwesPlain s → OwesPlain t
  same_plain s t same plain = subst OwesPlain (sym same) plain

  -- nothing is finished, and what is owed now was owed or begun
  only_standing : (s t : SourceState) (st : Standing) (calls : List Pending)
      → t ≡ standing_as st s → IsPart (waiting_of st) (waiting_of s.standing ++ calls)
      → HasDone program s t [] calls
  only_standing s t st calls is part =
      subst (λ (u : SourceState). HasDone program s u [] calls) (sym is)
      (record { pool = refl; count = omega arith; part = part })

  -- a transaction that it owes is this one, unless that only looks
  abbrev Owing : List Pending → SourceState → Type 0
  Owing owed s =
      (call : Pending) → s.standing ≡ Down (Some call) → owed ≡ storing program (call ∷ [])

  -- the end of an owed transaction

  module _ (call : Pending) (s t : SourceState) (at : s.standing ≡ Down (Some call)) where
    waits : waiting_of s.standing ≡ call ∷ []
    waits = ap waiting_of at

    -- whether it only looks
    stored : (looks : Bool) → looks_of program call.tx ≡ looks
        → storing program (waiting_of s.standing) ≡ (if looks then [] else call ∷ [])
    stored looks is =
        ap (storing program) waits ∙ ap (λ (b : Bool). if b then [] else call ∷ []) is

    done_one : (value : ℤ) (unsigned : Bool) (logged : ℕ)
        → rolls_back_of program call.tx ≡ false
        → IsEndedWith false program call value unsigned logged s t
        → HasDone program s t (waiting_of s.standing) []
    done_one value unsigned logged plain is =
        let more : t.done ≡ suc s.done = ap (λ (u : SourceState). u.done) is.2 in
        let ready : t.standing ≡ Ready = ap (λ (u : SourceState). u.standing) is.2 in
        let gives : GivesPool (rolls_back_of program call.tx) program call s.pool is.0 =
        subst (λ (b : Bool). GivesPool b program call s.pool is.0) (sym plain)
        (logged, _, is.1, refl) in
        subst (λ (calls : List Pending). HasDone program s t calls []) (sym waits)
        (record {
          pool = (is.0, gives, ap (λ (u : SourceState). u.pool) is.2);
          count = omega (arith, more);
          part = subst (λ (st : Standing).
              IsPart ((call ∷ []) ++ waiting_of st) (waiting_of s.standing ++ [])) (sym ready)
              (subst (λ (ws : List Pending). IsPart (call ∷ []) (ws ++ [])) (sym waits)
              (part_same (call ∷ [])));
        })

    -- nothing is done, and it takes calls again
    none_done : t ≡ standing_as Ready s → HasDone program s t [] []
    none_done is = only_standing s t Ready [] is (part_none (waiting_of s.standing ++ []))

    done_as : (looks : Bool) → looks_of program call.tx ≡ looks → (value : ℤ) (unsigned : Bool)
        (logged : ℕ) → rolls_back_of program call.tx ≡ false
        → IsEndedWith looks program call value unsigned logged s t
        → HasDone program s t (storing program (waiting_of s.standing)) []
    done_as true kind value unsigned logged plain is =
        subst (λ (calls : List Pending). HasDone program s t calls []) (sym (stored true kind))
        (none_done is.2)
    done_as false kind value unsigned logged plain is =
        subst (λ (calls : List Pending). HasDone program s t calls [])
        (waits ∙ sym (stored false kind)) (done_one value unsigned logged plain is)

    ends_done : (a : Answer) → rolls_back_of program call.tx ≡ false → Ends program call a s t
        → HasDone program s t (called_by (storing program (waiting_of s.standing)) a) []
    ends_done (answer.Done value unsigned logged) plain is =
        done_as (looks_of program call.tx) refl value unsigned logged plain is
    ends_done (answer.Trap kind) plain is =
        only_standing s t (Unusable kind) [] is.1
        (part_none (waiting_of s.standing ++ []))
    ends_done (answer.Aborted kind) plain is =
        subst (λ (calls : List Pending). HasDone program s t calls []) (sym (stored true is.0))
        (none_done is.1.1)
    ends_done (answer.Stopped p) plain is = same_done program s t [] is
    ends_done answer.Silent plain is = absurd is
    ends_done answer.DeviceFault plain is = absurd is
    ends_done answer.RecoveredNone plain is = absurd is
    ends_done (answer.RecoveredRedone value unsigned logged) plain is = absurd is
    ends_done (answer.RecoveredTrap kind) plain is = absurd is
    ends_done (answer.RecoveredAborted kind) plain is = absurd is
    ends_done (answer.Shown text) plain is = absurd is
    ends_done (answer.ShownDead trap text) plain is = absurd is
    ends_done (answer.Last done value) plain is = absurd is
    ends_done answer.NoMemory plain is = absurd is
    ends_done answer.RefusedDown plain is = absurd is
    ends_done (answer.RefusedUnusable kind) plain is = absurd is
    ends_done answer.RefusedUnknown plain is = absurd is
    ends_done answer.RefusedArity plain is = absurd is
    ends_done answer.RefusedNumbers plain is = absurd is
    ends_done (answer.RefusedPick l) plain is = absurd is

  -- a recovery is that of a session
  as_powers : (image : Words) (a : Answer) (s t : SourceState)
      → RecoversAlone program image a s t → Powers program s image a t
  as_powers image (answer.RefusedPick at) s t is = absurd is
  as_powers image a s t is = is

  -- a step finishes what it says

  begun_done : (tx : ℕ) (o : Option ℕ) (args : List ℤ) (s t : SourceState) → o ≡ Some tx
      → HasDone program s t [] (call_to (Some tx) args) → HasDone program s t [] (call_to o args)
  begun_done tx o args s t named is =
      subst (λ (p : Option ℕ). HasDone program s t [] (call_to p args)) (sym named) is

  step_done : (e : OwnEvent) (s t : SourceState) → OwesPlain s → AloneStep program e s t
      → HasDone program s t (own_finished program s e) (begun_by program e)
  step_done (Began name args) s t plain is =
      let call : Pending = record { tx = is.tx; args = args } in
      begun_done is.tx (call_number program name) args s t is.named
      (only_standing s t (Down (Some call)) (call ∷ []) is.owed
      (part_append [] (waiting_of s.standing) (call ∷ []) (call ∷ [])
      (part_none (waiting_of s.standing)) (part_same (call ∷ []))))
  step_done (Ended a) s t plain is = ends_done is.0 s t is.1 a (plain is.0 is.1) is.2
  step_done (Recovered image a) s t plain is =
      powers_done program s t image a (as_powers image a s t is)
  step_done (Told image c a) s t plain is = same_done program s t [] is.1
  step_done Busy s t plain is = same_done program s t [] is.1
  step_done (Barred name) s t plain is = same_done program s t [] is.1
  step_done Stray s t plain is = absurd is

  -- what it owes afterwards it owed before, unless it began it
  module _ (e : OwnEvent) (s t : SourceState) (none : begun_by program e ≡ [])
      (done : HasDone program s t (own_finished program s e) (begun_by program e)) where
    still_owes : (call : Pending) → t.standing ≡ Down (Some call) → s.standing ≡ Down (Some call)
    still_owes call is =
        still_owed s.standing (own_finished program s e) call
        (subst (λ (st : Standing).
        IsPart (own_finished program s e ++ waiting_of st) (waiting_of s.standing ++ [])) is
        (subst (λ (calls : List Pending).
        IsPart (own_finished program s e ++ waiting_of t.standing)
        (waiting_of s.standing ++ calls)) none done.part))

    still_plain : OwesPlain s → OwesPlain t
    still_plain plain call is = plain call (still_owes call is)

    still_owing : (owed : List Pending) → Owing owed s → Owing owed t
    still_owing owed owing call is = owing call (still_owes call is)

  step_plain : (e : OwnEvent) (s t : SourceState) → OwesPlain s → AloneStep program e s t
      → OwesPlain t
  step_plain (Began name args) s t plain is call owed =
      ap (λ (c : Pending). rolls_back_of program c.tx)
      (same_call (record { tx = is.tx; args = args }) call
      (sym (ap (λ (u : SourceState). u.standing) is.owed) ∙ owed))
      ∙ is.plain
  step_plain (Ended a) s t plain is call owed =
      still_plain (Ended a) s t refl (step_done (Ended a) s t plain is) plain call owed
  step_plain (Recovered image a) s t plain is call owed =
      still_plain (Recovered image a) s t refl (step_done (Recovered image a) s t plain is) plain
      call owed
  step_plain (Told image c a) s t plain is call owed = same_plain s t is.1 plain call owed
  step_plain Busy s t plain is call owed = same_plain s t is.1 plain call owed
  step_plain (Barred name) s t plain is call owed = same_plain s t is.1 plain call owed
  step_plain Stray s t plain is call owed = absurd is

  chain_done : (events : List OwnEvent) (s t : SourceState)
      (chain : AloneChain program events s t) → OwesPlain s
      → HasDone program s t (history_of program events s t chain) (begun_in program events)
  chain_done [] s t chain plain = same_done program s t [] chain
  chain_done (e ∷ events) s t chain plain =
      both program s chain.0 t (own_finished program s e)
      (history_of program events chain.0 t chain.2) (begun_by program e) (begun_in program events)
      (step_done e s chain.0 plain chain.1)
      (chain_done events chain.0 t chain.2 (step_plain e s chain.0 plain chain.1))

  -- those that were answered with a value are finished

  by_kind : (tx : ℕ) (args : List ℤ) (looks : Bool) → call_to (if looks then None else Some tx) args
      ≡ (if looks then [] else record { tx = tx; args = args } ∷ [])
  by_kind tx args true = refl
  by_kind tx args false = refl

  began_owing : (name : List ℕ) (args : List ℤ) (s t : SourceState)
      → AloneStep program (Began name args) s t
      → Owing (call_to (counted program (call_number program name)) args) t
  began_owing name args s t is call owed =
      ap (λ (o : Option ℕ). call_to (counted program o) args) is.named
      ∙ by_kind is.tx args (looks_of program is.tx)
      ∙ ap (λ (c : Pending). storing program (c ∷ []))
      (sym (same_call (record { tx = is.tx; args = args }) call
      (sym (ap (λ (u : SourceState). u.standing) is.owed) ∙ owed)))

  ended_part : (owed : List Pending) (a : Answer) (s t : SourceState) → Owing owed s
      → AloneStep program (Ended a) s t
      → IsPart (called_by owed a) (called_by (storing program (waiting_of s.standing)) a)
  ended_part owed a s t owing is =
      subst (λ (calls : List Pending). IsPart (called_by owed a) (called_by calls a))
      (owing is.0 is.1
      ∙ sym (ap (λ (st : Standing). storing program (waiting_of st)) is.1))
      (part_same (called_by owed a))

  chain_answered : (events : List OwnEvent) (owed : List Pending) (s t : SourceState)
      (chain : AloneChain program events s t) → OwesPlain s → Owing owed s
      → IsPart (answered_from program owed events) (history_of program events s t chain)
  chain_answered [] owed s t chain plain owing = refl
  chain_answered (Began name args ∷ events) owed s t chain plain owing =
      chain_answered events (call_to (counted program (call_number program name)) args) chain.0 t
      chain.2
      (step_plain (Began name args) s chain.0 plain chain.1)
      (began_owing name args s chain.0 chain.1)
  chain_answered (Ended a ∷ events) owed s t chain plain owing =
      part_append (called_by owed a) (called_by (storing program (waiting_of s.standing)) a)
      (answered_from program owed events) (history_of program events chain.0 t chain.2)
      (ended_part owed a s chain.0 owing chain.1)
      (chain_answered events owed chain.0 t chain.2
      (step_plain (Ended a) s chain.0 plain chain.1)
      (still_owing (Ended a) s chain.0 refl (step_done (Ended a) s chain.0 plain chain.1) owed
      owing))
  chain_answered (Recovered image a ∷ events) owed s t chain plain owing =
      part_append [] (recovered_by s image a) (answered_from program owed events)
      (history_of program events chain.0 t chain.2) (part_none (recovered_by s image a))
      (chain_answered events owed chain.0 t chain.2
      (step_plain (Recovered image a) s chain.0 plain chain.1)
      (still_owing (Recovered image a) s chain.0 refl
      (step_done (Recovered image a) s chain.0 plain chain.1) owed owing))
  chain_answered (Told image c a ∷ events) owed s t chain plain owing =
      chain_answered events owed chain.0 t chain.2 (same_plain s chain.0 chain.1.1 plain)
      (subst (Owing owed) (sym chain.1.1) owing)
  chain_answered (Busy ∷ events) owed s t chain plain owing =
      chain_answered events owed chain.0 t chain.2 (same_plain s chain.0 chain.1.1 plain)
      (subst (Owing owed) (sym chain.1.1) owing)
  chain_answered (Barred name ∷ events) owed s t chain plain owing =
      chain_answered events owed chain.0 t chain.2 (same_plain s chain.0 chain.1.1 plain)
      (subst (Owing owed) (sym chain.1.1) owing)
  chain_answered (Stray ∷ events) owed s t chain plain owing = absurd chain.1

pub own_history : OwnHistoryLaw
own_history program events s t chain ready = record {
  does = chain_done program events s t chain (ready_plain program s ready);
  answered = chain_answered program events [] s t chain (ready_plain program s ready)
      (λ call is. let clash : Ready ≡ Down (Some call) = sym ready ∙ is in absurd cc);
}

pub own_sealed : OwnSealedLaw
own_sealed program owed s t image a standing completed is =
    told_of program owed s t image standing [] (recovered_by s image a) a completed
    (as_powers program image a s t is) refl

-- what the compartments hold at the end of a run, and of how many workers
all_held : (program : Program) (worker : ℕ) (commands : List WorkersCommand) (x y : Instant)
    (w w' : Option (List ℕ)) → AllHold program x → worker < length x.scene.workers.tasks
    → RanWorkers program commands x w y w'
    → AllHold program y × (worker < length y.scene.workers.tasks)
all_held program worker [] x y w w' held less ran =
    subst (λ (i : Instant). AllHold program i × (worker < length i.scene.workers.tasks))
    (sym ran.0) (held, less)
all_held program worker (c ∷ commands) x y w w' held less ran =
    all_held program worker commands ran.1 y ran.2 w' ran.3.holds
    (still_less program worker c x ran.1 ran.0 ran.3 less) ran.5

pub own_pool : OwnPoolLaw
own_pool program commands x w y w' ran worker chain held less up begins ends =
    let known = all_held program worker commands x y w w' held less ran in
    let events : List OwnEvent = own_events_in program worker commands x w y w' ran in
    let holds = subst (λ (st : Standing). WorkerHolds st program worker
    (task_at y.scene.workers.tasks worker) y.scene.device (y.states worker)) ends
    (known.0 up worker known.1) in
    subst (λ (p : PoolMap). LeadsTo program (x.states worker).pool
    (history_of program events (x.states worker) (y.states worker) chain) p) (sym holds.1.pool)
    (own_history program events (x.states worker) (y.states worker) chain begins).does.pool

pub own_new : AloneNewLaw
own_new program count commands w w' d d' k k' ran worker agrees less =
    let x : Instant = first_instant program count ran.0 k in
    let y : Instant = last_instant ran.1 d' k' ran.2 in
    let same = count_new count in
    let chain = run_alone program commands x w y w' ran.5 worker agrees ran.4
    (omega (arith, same, less)) in (
      chain,
      own_history program (own_events_in program worker commands x w y w' ran.5) (created program)
          (ran.2 worker) chain refl,
    )
