-- A worker's own lines are steps of its own state, and no other line changes that.
use Rattle.std.proofs.Common.{◌≡◌, ◌∙◌, inl, inr, ℕ, suc, Bool, true, false, ◌==◌, List, []}
use Rattle.std.proofs.Common.{◌∷◌, ◌++◌, Option, Some, length, ℤ, refl, sym, ap, subst, eq-eqb}
use Rattle.std.proofs.Common.{◌<◌, nat_lt, arith}
use Rattle.std.proofs.lemmas.Bool.{eqb-true, eqb-false, ltb-false}
use Rattle.cache_model.specs.Cache.{Words}
use Rattle.cache_model.specs.declared.choice.Choice.{Choice}
use Rattle.pmem.specs.Device.{Device, powered}
use Rattle.cnvm_script.specs.declared.command.Command.{Command}
use Rattle.cnvm_script.specs.declared.command.Command.TheVariants as session
use Rattle.cnvm_session.specs.declared.answer.Answer.{Answer}
use Rattle.cnvm_session.specs.declared.answer.Answer.TheVariants as answer
use Rattle.cnvm_session.specs.declared.program.Program.{Program}
use Rattle.cnvm_session.specs.Marks.{looks_of}
use Rattle.workers_script.specs.declared.command.WorkersCommand.{WorkersCommand}
use Rattle.workers_script.specs.declared.command.WorkersCommand.TheVariants as command
use Rattle.workers_session.specs.declared.line.WorkersLine.{WorkersLine}
use Rattle.workers_session.specs.declared.line.WorkersLine.TheVariants as line
use Rattle.session_law.specs.Agrees.{Agrees}
use Rattle.session_law.specs.State.{Pending, Standing, Ready, Down, SourceState, standing_as}
use Rattle.session_law.specs.Answers.{RunsAs, CallsWith, CallsTo, CallsNamed, Calls}
use Rattle.session_law.specs.Answers.{Powers, Answers}
use Rattle.workers_source_law.specs.States.{States, RestStays}
use Rattle.workers_source_law.specs.Lines.{Owes, StartLines, IsEndedWith, Ends, TurnLine}
use Rattle.workers_source_law.specs.Lines.{TurnLines}
use Rattle.workers_source_law.specs.Lines.{worker_image, RecoveryLines, PowerLines}
use Rattle.workers_source_law.specs.Law.{Instant, AllHold, WorkersStep}
use Rattle.workers_source_law.specs.Alone.{OwnEvent, Began, Ended, Recovered, Told, Busy, Barred}
use Rattle.workers_source_law.specs.Alone.{Stray, RecoversAlone, BeginsAlone, EndsAlone, IsBusy}
use Rattle.workers_source_law.specs.Alone.{IsBarred, AloneStep, AloneChain, event_if, told_if}
use Rattle.workers_source_law.specs.Alone.{named_event, plain_event, own_event, own_events_of}
use Rattle.workers_source_law.specs.Alone.{own_events_in, own_events_before, AloneLaw, AlonePartLaw}
use Rattle.workers_source_law.specs.Alone.{EndsAsCall, AsCallLaw}
use Rattle.workers_source_law.proofs.Counts.{command_count}
use Rattle.workers_source_law.proofs.OwnLines.{IsNone, Tells, Says, start_says, show_says}
use Rattle.workers_source_law.proofs.OwnLines.{last_says}
use Rattle.workers_source_law.proofs.GivenLines.{IsOfTurns, AreOfTurns, turns_say, finish_says}
use Rattle.workers_source_law.proofs.GivenLines.{IsNoPick, NamesNoPick, NameNoPick, powers_say}

module _ (program : Program) where
  pub chain_append : (es fs : List OwnEvent) (s r t : SourceState) → AloneChain program es s r
      → AloneChain program fs r t → AloneChain program (es ++ fs) s t
  chain_append [] fs s r t first second =
      subst (λ (u : SourceState). AloneChain program fs u t) first second
  chain_append (e ∷ es) fs s r t first second =
      (first.0, first.1, chain_append es fs first.0 r t first.2 second)

  module _ (worker : ℕ) where
    stay : (s t : States) → t ≡ s → t worker ≡ s worker
    stay s t same = ap (λ (f : States). f worker) same

    -- a line of worker w is a step of this worker, or leaves its state
    module _ (w : ℕ) (e : OwnEvent) (s r : States) (step : AloneStep program e (s w) (r w))
        (others : RestStays w s r) where
      step_if : (b : Bool) → (w == worker) ≡ b
          → AloneChain program (event_if b e) (s worker) (r worker)
      step_if true is =
          subst (λ (j : ℕ). AloneChain program (e ∷ []) (s j) (r j)) (eqb-true w worker is)
          (r w, step, refl)
      step_if false is = others worker (λ same. eqb-false w worker is (sym same))

      own_step : AloneChain program (event_if (w == worker) e) (s worker) (r worker)
      own_step = step_if (w == worker) refl

    -- a line that names no worker isn't this one's
    nobody : (w count : ℕ) (s t : States) → worker < count → nat_lt w count ≡ false → t ≡ s
        → AloneChain program (event_if (w == worker) Stray) (s worker) (t worker)
    nobody w count s t less none same = by_test (w == worker) refl
      where
        by_test : (b : Bool) → (w == worker) ≡ b
            → AloneChain program (event_if b Stray) (s worker) (t worker)
        by_test true is =
            let more = ltb-false w count none in
            let known = eqb-true w worker is in absurd (omega (arith, more, known, less))
        by_test false is = stay s t same

    -- lines of turns
    module _ (c : WorkersCommand) (d : Device)
        (ends : (w : ℕ) (a : Answer) → named_event program c d w a ≡ Ended a)
        (plain : (a : Answer) → plain_event program worker c d a ≡ []) (count : ℕ)
        (less : worker < count) where
      turn_line : (l : WorkersLine) (s r : States) → IsOfTurns count l → TurnLine program l s r
          → AloneChain program (own_event program worker c d l) (s worker) (r worker)
      turn_line (line.Own w a) s r fits is =
          own_step w (named_event program c d w a) s r
          (subst (λ (e : OwnEvent). AloneStep program e (s w) (r w)) (sym (ends w a))
          (is.0, is.1, is.2)) is.3
      turn_line (line.Plain a) s r fits is =
          subst (λ (es : List OwnEvent). AloneChain program es (s worker) (r worker))
          (sym (plain a)) (stay s r is)
      turn_line (line.Started w) s r fits is = absurd fits
      turn_line (line.RefusedWorker w) s r fits is = nobody w count s r less fits is
      turn_line (line.RefusedBusy w) s r fits is = absurd fits
      turn_line line.RefusedAbort s r fits is = absurd fits

      turns_alone : (lines : List WorkersLine) (s t : States) → AreOfTurns count lines
          → TurnLines program lines s t
          → AloneChain program (own_events_of program worker c d lines) (s worker) (t worker)
      turns_alone [] s t fits is = stay s t is
      turns_alone (l ∷ lines) s t fits is =
          chain_append (own_event program worker c d l) (own_events_of program worker c d lines)
          (s worker) (is.0 worker) (t worker) (turn_line l s is.0 fits.0 is.1)
          (turns_alone lines is.0 t fits.1 is.2)

    module _ (d : Device) where
      -- what a command's lines make of this worker's state
      abbrev Lead : WorkersCommand → List WorkersLine → States → States → Type 0
      Lead c lines s t =
          AloneChain program (own_events_of program worker c d lines) (s worker) (t worker)

      -- lines of recoveries
      module _ (choice : Choice) where
        abbrev power : WorkersCommand
        power = command.Power choice

        recovers : (image : Words) (a : Answer) (s t : SourceState) → IsNoPick a
            → Powers program s image a t → RecoversAlone program image a s t
        recovers image (answer.RefusedPick at) s t fits is = absurd fits
        recovers image a s t fits is = is

        recoveries_alone : (j : ℕ) (lines : List WorkersLine) (s t : States) → NameNoPick lines
            → RecoveryLines program (λ i. worker_image program i (powered choice d)) j lines s t
            → Lead power lines s t
        recoveries_alone j [] s t fits is = stay s t is
        recoveries_alone j (l ∷ lines) s t fits is =
            chain_append (own_event program worker power d l)
            (own_events_of program worker power d lines) (s worker) (is.1 worker) (t worker)
            (subst (λ (k : WorkersLine).
            AloneChain program (own_event program worker power d k) (s worker) (is.1 worker))
            (sym is.2)
            (own_step j (Recovered (worker_image program j (powered choice d)) is.0) s is.1
            (recovers (worker_image program j (powered choice d)) is.0 (s j) (is.1 j)
            (subst NamesNoPick is.2 fits.0) is.3) is.4))
            (recoveries_alone (suc j) lines is.1 t fits.1 is.5)

        power_alone : (lines : List WorkersLine) (s t : States) → NameNoPick lines
            → PowerLines program (powered choice d) lines s t → Lead power lines s t
        power_alone lines s t fits (inl is) =
            subst (λ (ls : List WorkersLine). Lead power ls s t) (sym is.1) (stay s t is.2)
        power_alone lines s t fits (inr is) = recoveries_alone 0 lines s t fits is

    -- a single line
    module _ (v : ℕ) (x : Instant) (t : States)
        (less : worker < length x.scene.workers.tasks) where
      abbrev s : States
      s = x.states

      abbrev d : Device
      d = x.scene.device

      -- a line of worker v that changes nothing
      module _ (same : t ≡ s) where
        kept : (e : OwnEvent) → AloneStep program e (s v) (t v)
            → AloneChain program (event_if (v == worker) e) (s worker) (t worker)
        kept e step = own_step v e s t step (λ j ne. ap (λ (f : States). f j) same)

        same_own : t v ≡ s v
        same_own = ap (λ (f : States). f v) same

        told : (c : Command) (a : Answer) → Tells program v x c a
            → AloneChain program (told_if (v == worker) a (Told (worker_image program v d) c a))
            (s worker) (t worker)
        told c answer.NoMemory is = stay s t same
        told c answer.RefusedDown is = stay s t same
        told c a is =
            kept (Told (worker_image program v d) c a) (
              subst (λ (u : SourceState). Answers program (s v) (worker_image program v d) c a u)
                  (sym same_own) is,
              same_own,
            )

        busy : (w : ℕ) → (w ≡ v) × IsBusy (s v)
            → AloneChain program (event_if (w == worker) Busy) (s worker) (t worker)
        busy w is =
            subst (λ (i : ℕ).
            AloneChain program (event_if (i == worker) Busy) (s worker) (t worker)) (sym is.0)
            (kept Busy (is.1, same_own))

        barred : (name : List ℕ) → IsBarred program name (s v)
            → AloneChain program (event_if (v == worker) (Barred name)) (s worker) (t worker)
        barred name is = kept (Barred name) (is, same_own)

      stranger : (w : ℕ) → (w ≡ v) × IsNone v x → t ≡ s
          → AloneChain program (event_if (w == worker) Stray) (s worker) (t worker)
      stranger w is same =
          nobody w (length x.scene.workers.tasks) s t less
          (subst (λ (j : ℕ). IsNone j x) (sym is.0) is.1) same

      begun : (name : List ℕ) (args : List ℤ) (w : ℕ) → w ≡ v → Owes program v name args s t
          → AloneChain program (event_if (w == worker) (Began name args)) (s worker) (t worker)
      begun name args w is owes =
          subst (λ (i : ℕ).
          AloneChain program (event_if (i == worker) (Began name args)) (s worker) (t worker))
          (sym is)
          (own_step v (Began name args) s t
          (record {
            tx = owes.tx;
            named = owes.named;
            takes = owes.takes;
            plain = owes.plain;
            ready = owes.ready;
            owed = owes.owed;
          })
          owes.others)

      start_line : (name : List ℕ) (args : List ℤ) (l : WorkersLine)
          → Says program v x (Unit {0}) (IsBarred program name (s v)) (session.Call name args) l
          → StartLines program v name args (l ∷ []) s t
          → AloneChain program (own_event program worker (command.Start v name args) d l)
          (s worker) (t worker)
      start_line name args (line.Own w a) says is = absurd says
      start_line name args (line.Plain a) says is = told is (session.Call name args) a says
      start_line name args (line.Started w) says is = begun name args w is.0 is.1
      start_line name args (line.RefusedWorker w) says is = stranger w says is
      start_line name args (line.RefusedBusy w) says is = busy is w says
      start_line name args line.RefusedAbort says is = barred is name says

      show_line : (l : WorkersLine) → Says program v x ⊥ (Unit {0}) session.Show l → t ≡ s
          → AloneChain program (own_event program worker (command.Show v) d l) (s worker)
          (t worker)
      show_line (line.Own w a) says is = absurd says
      show_line (line.Plain a) says is = told is session.Show a says
      show_line (line.Started w) says is = absurd says
      show_line (line.RefusedWorker w) says is = stranger w says is
      show_line (line.RefusedBusy w) says is = busy is w says
      show_line line.RefusedAbort says is = stay s t is

      last_line : (l : WorkersLine) → Says program v x ⊥ (Unit {0}) session.Last l → t ≡ s
          → AloneChain program (own_event program worker (command.Last v) d l) (s worker)
          (t worker)
      last_line (line.Own w a) says is = absurd says
      last_line (line.Plain a) says is = told is session.Last a says
      last_line (line.Started w) says is = absurd says
      last_line (line.RefusedWorker w) says is = stranger w says is
      last_line (line.RefusedBusy w) says is = busy is w says
      last_line line.RefusedAbort says is = stay s t is

    -- a command
    module _ (agrees : Agrees program) (x z : Instant) (held : AllHold program x)
        (less : worker < length x.scene.workers.tasks) (lines : List WorkersLine) where
      -- where it gives one line
      one_line : (c : WorkersCommand) (l : WorkersLine) → lines ≡ l ∷ []
          → AloneChain program (own_event program worker c x.scene.device l) (x.states worker)
          (z.states worker)
          → Lead x.scene.device c lines x.states z.states
      one_line c l is chain =
          subst (λ (ls : List WorkersLine). Lead x.scene.device c ls x.states z.states) (sym is)
          (chain_append (own_event program worker c x.scene.device l) [] (x.states worker)
          (z.states worker) (z.states worker) chain refl)

      no_line : (c : WorkersCommand) → (lines ≡ []) × (z.states ≡ x.states)
          → Lead x.scene.device c lines x.states z.states
      no_line c is =
          subst (λ (ls : List WorkersLine). Lead x.scene.device c ls x.states z.states)
          (sym is.0) (stay x.states z.states is.1)

      step_alone : (c : WorkersCommand) → WorkersStep program c x lines z
          → Lead x.scene.device c lines x.states z.states
      step_alone (command.Start v name args) step =
          let one = start_says program v x held agrees name args lines z.scene step.did in
          one_line (command.Start v name args) one.0 one.1
          (start_line v x z.states less name args one.0 one.2
          (subst (λ (ls : List WorkersLine).
          StartLines program v name args ls x.states z.states) one.1 step.meant))
      step_alone (command.Turn workers) step =
          turns_alone (command.Turn workers) x.scene.device (λ w a. refl) (λ a. refl)
          (length x.scene.workers.tasks) less lines x.states z.states
          (turns_say program x.scene lines z.scene x.scene.workers.down workers step.did)
          step.meant
      step_alone command.Finish step =
          turns_alone command.Finish x.scene.device (λ w a. refl) (λ a. refl)
          (length x.scene.workers.tasks) less lines x.states z.states
          (finish_says program x.scene lines z.scene x.scene.workers.down step.did)
          step.meant
      step_alone (command.Stop left) step = no_line (command.Stop left) step.meant
      step_alone (command.Fault at) step = no_line (command.Fault at) step.meant
      step_alone (command.Power choice) step =
          power_alone x.scene.device choice lines x.states z.states
          (powers_say program choice x.scene lines z.scene step.did) step.meant
      step_alone (command.Show v) step =
          let one = show_says program v x held lines z.scene step.meant.0 step.did in
          one_line (command.Show v) one.0 one.1
          (show_line v x z.states less one.0 one.2 step.meant.1)
      step_alone (command.Last v) step =
          let one = last_says program v x held lines z.scene step.meant.0 step.did in
          one_line (command.Last v) one.0 one.1
          (last_line v x z.states less one.0 one.2 step.meant.1)

pub still_less : (program : Program) (worker : ℕ) (c : WorkersCommand) (x z : Instant)
    (lines : List WorkersLine) → WorkersStep program c x lines z
    → worker < length x.scene.workers.tasks → worker < length z.scene.workers.tasks
still_less program worker c x z lines step less =
    let same = command_count program c x.scene lines z.scene step.did in omega (arith, same, less)

pub run_alone : AloneLaw
run_alone program [] x w y w' ran worker agrees held less =
    ap (λ (i : Instant). i.states worker) ran.0
run_alone program (c ∷ commands) x w y w' ran worker agrees held less =
    chain_append program (own_events_of program worker c x.scene.device ran.0)
    (own_events_in program worker commands ran.1 ran.2 y w' ran.5) (x.states worker)
    (ran.1.states worker) (y.states worker)
    (step_alone program worker agrees x ran.1 held less ran.0 c ran.3)
    (run_alone program commands ran.1 ran.2 y w' ran.5 worker agrees ran.3.holds
    (still_less program worker c x ran.1 ran.0 ran.3 less))

pub part_alone : AlonePartLaw
part_alone program [] x w y w' broke worker agrees held less = absurd broke
part_alone program (c ∷ commands) x w y w' (inl broke) worker agrees held less =
    step_alone program worker agrees x y held less broke.0 c broke.1
part_alone program (c ∷ commands) x w y w' (inr broke) worker agrees held less =
    chain_append program (own_events_of program worker c x.scene.device broke.0)
    (own_events_before program worker commands broke.1 broke.2 y w' broke.5) (x.states worker)
    (broke.1.states worker) (y.states worker)
    (step_alone program worker agrees x broke.1 held less broke.0 c broke.3)
    (part_alone program commands broke.1 broke.2 y w' broke.5 worker agrees broke.3.holds
    (still_less program worker c x broke.1 broke.0 broke.3 less))

-- a transaction begun and ended is a call of a session

module _ (program : Program) (s : SourceState) (ready : s.standing ≡ Ready) (tx : ℕ)
    (args : List ℤ) where
  abbrev call : Pending
  call = record { tx = tx; args = args }

  abbrev owing : SourceState
  owing = standing_as (Down (Some call)) s

  -- a look leaves the state as it was
  as_it_was : standing_as Ready owing ≡ s
  as_it_was = ap (λ (st : Standing). standing_as st s) (sym ready)

  done_as : (looks : Bool) (value : ℤ) (unsigned : Bool) (logged : ℕ) (t : SourceState)
      (image : Words) → IsEndedWith looks program call value unsigned logged owing t
      → RunsAs looks false program s image tx args (answer.Done value unsigned logged) t
  done_as true value unsigned logged t image is = (is.0, is.1, is.2 ∙ as_it_was, is.3)
  done_as false value unsigned logged t image is = is

  runs : (a : Answer) (t : SourceState) (image : Words) → Ends program call a owing t
      → EndsAsCall program s image tx args a t
  runs (answer.Done value unsigned logged) t image is =
      done_as (looks_of program tx) value unsigned logged t image is
  runs (answer.Trap kind) t image is =
      subst (λ (looks : Bool). RunsAs looks false program s image tx args (answer.Trap kind) t)
      (sym is.2) (refl, is.0, is.1)
  runs (answer.Aborted kind) t image is =
      subst (λ (looks : Bool). RunsAs looks false program s image tx args (answer.Aborted kind) t)
      (sym is.0) (is.1.0, is.1.1 ∙ as_it_was)
  runs (answer.Stopped at) t image is = is
  runs answer.Silent t image is = absurd is
  runs answer.DeviceFault t image is = absurd is
  runs answer.RecoveredNone t image is = absurd is
  runs (answer.RecoveredRedone value unsigned logged) t image is = absurd is
  runs (answer.RecoveredTrap kind) t image is = absurd is
  runs (answer.RecoveredAborted kind) t image is = absurd is
  runs (answer.Shown text) t image is = absurd is
  runs (answer.ShownDead trap text) t image is = absurd is
  runs (answer.Last done value) t image is = absurd is
  runs answer.NoMemory t image is = absurd is
  runs answer.RefusedDown t image is = absurd is
  runs (answer.RefusedUnusable kind) t image is = absurd is
  runs answer.RefusedUnknown t image is = absurd is
  runs answer.RefusedArity t image is = absurd is
  runs answer.RefusedNumbers t image is = absurd is
  runs (answer.RefusedPick at) t image is = absurd is

  same_call : (other : Pending) → Down (Some call) ≡ Down (Some other) → other ≡ call
  same_call other is = cc

  ended : (a : Answer) (t : SourceState) (image : Words) → EndsAlone program a owing t
      → EndsAsCall program s image tx args a t
  ended a t image is =
      runs a t image
      (subst (λ (c : Pending). Ends program c a owing t) (same_call is.0 is.1) is.2)

-- what a session answers to a call that takes these arguments and isn't marked
answers_as : (program : Program) (name : List ℕ) (args : List ℤ) (a : Answer) (s r t : SourceState)
    (image : Words) (begins : BeginsAlone program name args s r)
    → RunsAs (looks_of program begins.tx) false program s image begins.tx args a t
    → Answers program s image (session.Call name args) a t
answers_as program name args a s r t image begins runs =
    let marked = subst (λ (b : Bool).
    RunsAs (looks_of program begins.tx) b program s image begins.tx args a t) (sym begins.plain)
    runs in
    let fits = subst (λ (b : Bool). CallsWith b program s image begins.tx args a t)
    (sym (eq-eqb (length args) (length args) refl)) marked in
    let takes = subst (λ (o : Option ℕ). CallsTo o program s image begins.tx args a t)
    (sym begins.takes) fits in
    let named = subst (λ (o : Option ℕ). CallsNamed o program s image args a t)
    (sym begins.named) takes in
    subst (λ (st : Standing). Calls st program s image name args a t) (sym begins.ready) named

pub as_call : AsCallLaw
as_call program name args s r image begins = record {
  tx = begins.tx;
  named = begins.named;
  interrupted = begins.owed;
  ended = λ a t ends. ended program s begins.ready begins.tx args a t image
      (subst (λ (u : SourceState). EndsAlone program a u t) begins.owed ends);
  called = λ a t runs. answers_as program name args a s r t image begins runs;
}
