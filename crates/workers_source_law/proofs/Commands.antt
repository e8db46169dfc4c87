-- Each command's lines are those of the source.
use Rattle.std.proofs.Common.{◌≡◌, ◌&&◌, ◌⊎◌, inl, inr, ℕ, ◌<◌, ◌==◌, Bool, true, false, nat_lt}
use Rattle.std.proofs.Common.{if◌then◌else◌, int_eq, List, [], ◌∷◌, length, Option, Some, None, ℤ}
use Rattle.std.proofs.Common.{pos, is_some, refl, sym, ap, ◌∙◌, subst}
use Rattle.std.proofs.lemmas.Bool.{ltb-true, eqb-true}
use Rattle.std.proofs.lemmas.Bool.Decides.{Decides-int_eq}
use Rattle.cache_model.specs.Cache.{Words, Cache, view}
use Rattle.pmem.specs.Device.{Device, with_left, with_armed}
use Rattle.pool_layout.specs.declared.places.TheConstants.{MARK, DONE, LAST, ATTEMPT}
use Rattle.pool_layout.specs.Good.{Lost}
use Rattle.pool_map.specs.declared.trap.TrapKind.{TrapKind}
use Rattle.pool_map.specs.Trap.{trap_number}
use Rattle.pool_map.specs.PoolText.{pool_text}
use Rattle.pm_machine.specs.HeapPool.{heap_of}
use Rattle.c_types.specs.Shapes.{shapes_of}
use Rattle.pm_machine.specs.declared.image.Image.{Image}
use Rattle.pm_machine.specs.Runs.{heap_in}
use Rattle.tx_run.specs.declared.standing.Standing as device
use Rattle.tx_run.specs.declared.standing.Standing.TheVariants as stands
use Rattle.crash_law.specs.Law.{AreMarked}
use Rattle.tx_run.specs.Standing.{is_number, standing_of, trap_of_mark}
use Rattle.pool_workers.specs.declared.task.Task.{Task}
use Rattle.pool_workers.specs.Crew.{task_at, StaysAside, standing_at}
use Rattle.pool_workers.specs.Task.{first_task}
use Rattle.workers_law.specs.AsCall.{begun_task}
use Rattle.workers_law.specs.Left.{left_of}
use Rattle.cnvm_session.specs.declared.answer.Answer.TheVariants as answer
use Rattle.cnvm_session.specs.declared.program.Program.{Program}
use Rattle.cnvm_session.specs.Commands.{call_number, tx_parameters}
use Rattle.cnvm_session.specs.Marks.{rolls_back_of, looks_of}
use Rattle.cnvm_session.specs.Pool.{sizes_of}
use Rattle.workers_script.specs.declared.command.WorkersCommand.{WorkersCommand}
use Rattle.workers_script.specs.declared.command.WorkersCommand.TheVariants as command
use Rattle.workers_session.specs.declared.line.WorkersLine.{WorkersLine}
use Rattle.workers_session.specs.declared.line.WorkersLine.TheVariants as line
use Rattle.workers_session.specs.WorkersState.{WorkersState, busy_line, marked_line, unready}
use Rattle.workers_session.specs.WorkersState.{refused_first, refusal_at}
use Rattle.workers_session.specs.Looks.{IsPoolText}
use Rattle.workers_session.specs.WorkersCommands.{Scene, Unchanged, RefusedWith, RunsOut, HasBegun}
use Rattle.workers_session.specs.WorkersCommands.{BeginsAs, BeginsWith, BeginsBy, BeginsTo}
use Rattle.workers_session.specs.WorkersCommands.{BeginsNamed, Starts, ShowsWorker, LastsWorker}
use Rattle.workers_session.specs.WorkersCommands.{with_device, WorkersCommanded}
use Rattle.session_law.specs.Source.{source_pool}
use Rattle.session_law.specs.Words.{AreWords}
use Rattle.session_law.specs.Agrees.{Agrees}
use Rattle.session_law.specs.State.{Pending, Standing, Ready, Down, Unusable, SourceState}
use Rattle.session_law.specs.State.{standing_as}
use Rattle.session_law.specs.Holds.{IsResting, OwesBy, HeldAs}
use Rattle.session_law.proofs.images.Heaps.{pool_same, shown_same, pool_fits}
use Rattle.session_law.proofs.images.Ones.{at_view}
use Rattle.session_law.proofs.images.Reading.{is_marked}
use Rattle.workers_source_law.specs.States.{States}
use Rattle.workers_source_law.specs.Lines.{StartLines, TellsState, LinesMean}
use Rattle.workers_source_law.specs.Law.{HasWordArgs, WorkerHolds, AllHold, PhasesHold}
use Rattle.workers_source_law.proofs.Stills.{still, own, rest_stands}
use Rattle.workers_source_law.proofs.AtWork.{IsAtWork, work_begins, work_owes}
use Rattle.workers_source_law.proofs.AtLook.{look_task, IsAtLook, look_begins, look_owes, IsBusyIn}
use Rattle.workers_source_law.proofs.Invariants.{UpAs, Stands, AllStand, changed, changed_own}
use Rattle.workers_source_law.proofs.Invariants.{changed_others, stands_down, stands_work}
use Rattle.workers_source_law.proofs.Invariants.{others_stand}
use Rattle.workers_source_law.proofs.Turns.{turns_give, finish_gives}
use Rattle.workers_source_law.proofs.Powering.{powers_give}

-- a line that refuses a worker, if there is one, has this property

abbrev HoldsOr : (WorkersLine → Type 0) → Option WorkersLine → Type 0
HoldsOr P None = Unit {0}
HoldsOr P (Some l) = P l

module _ (P : WorkersLine → Type 0) (downs : P (line.Plain answer.RefusedDown))
    (strangers : (w : ℕ) → P (line.RefusedWorker w)) (busy : (w : ℕ) → P (line.RefusedBusy w))
    (marked : (kind : TrapKind) → P (line.Plain (answer.RefusedUnusable kind))) where
  unready_holds : (down known : Bool) (o : Option Task) (worker : ℕ)
      → HoldsOr P (if down then Some (line.Plain answer.RefusedDown)
      else (if known then busy_line worker o else Some (line.RefusedWorker worker)))
  unready_holds true known o worker = downs
  unready_holds false true None worker = tt
  unready_holds false true (Some t) worker = busy worker
  unready_holds false false o worker = strangers worker

  marked_holds : (s : device.Standing) → HoldsOr P (marked_line s)
  marked_holds stands.Ready = tt
  marked_holds (stands.Unusable kind) = marked kind
  marked_holds stands.Numbers = tt
  marked_holds stands.Off = tt

  first_holds : (a b : Option WorkersLine) → HoldsOr P a → HoldsOr P b
      → HoldsOr P (refused_first a b)
  first_holds None b first second = second
  first_holds (Some l) b first second = first

  refusal_holds : (image : Image) (w : WorkersState) (worker : ℕ) (d : Device)
      → HoldsOr P (refusal_at image w worker d)
  refusal_holds image w worker d =
      first_holds (unready w worker) (marked_line (standing_at image worker d))
      (unready_holds w.down (nat_lt worker (length w.tasks)) (task_at w.tasks worker) worker)
      (marked_holds (standing_at image worker d))

-- no such line: the workers are up, this one is idle, and its compartment has no mark

first_none : (a b : Option WorkersLine) → refused_first a b ≡ None → (a ≡ None) × (b ≡ None)
first_none None b is = (refl, is)
first_none (Some l) b is = absurd cc

unready_none : (down known : Bool) (o : Option Task) (worker : ℕ)
    → (if down then Some (line.Plain answer.RefusedDown)
    else (if known then busy_line worker o else Some (line.RefusedWorker worker))) ≡ None
    → (down ≡ false) × (known ≡ true) × (o ≡ None)
unready_none true known o worker is = absurd cc
unready_none false true None worker is = (refl, refl, refl)
unready_none false true (Some t) worker is = absurd cc
unready_none false false o worker is = absurd cc

unmarked_if : (b n : Bool) (kind : TrapKind)
    → marked_line (if b then (if n then stands.Ready else stands.Numbers)
    else stands.Unusable kind) ≡ None → b ≡ true
unmarked_if true n kind is = refl
unmarked_if false n kind is = absurd cc

unmarked_of : (image : Words) → marked_line (standing_of image) ≡ None → image MARK ≡ pos 0
unmarked_of image is = (Decides-int_eq (image MARK) (pos 0)).0
    (unmarked_if (int_eq (image MARK) (pos 0)) (is_number (image DONE)
    && is_number (image ATTEMPT)) (trap_of_mark (image MARK)) is)

module _ (program : Program) (supers : ℕ → Words) where
  -- a worker that takes a command
  record IsFree (worker : ℕ) (x : Scene) (s : States) : Type 0 where
    up : x.workers.down ≡ false
    less : worker < length x.workers.tasks
    standing : (s worker).standing ≡ Ready
    marked : AreMarked (own program worker x.device)
    rests : IsResting program (supers worker) (still (own program worker x.device)) (s worker)

  free_at : (worker : ℕ) (x : Scene) (s : States) → AllStand program supers x s
      → refusal_at program.image x.workers worker x.device ≡ None → IsFree worker x s
  free_at worker x s all none =
      let both = first_none (unready x.workers worker)
      (marked_line (standing_at program.image worker x.device)) none in
      let ready = unready_none x.workers.down (nat_lt worker (length x.workers.tasks))
      (task_at x.workers.tasks worker) worker both.0 in
      let less : worker < length x.workers.tasks =
      ltb-true worker (length x.workers.tasks) ready.1 in
      let is = all worker less in
      go ready.0 less ready.2 is (unmarked_of (view (own program worker x.device)) both.1)
      (s worker).standing refl is.held (is.up ready.0)
    where
      go : x.workers.down ≡ false → worker < length x.workers.tasks
          → task_at x.workers.tasks worker ≡ None
          → Stands program (supers worker) x.workers.down (task_at x.workers.tasks worker)
          (own program worker x.device) (s worker)
          → view (own program worker x.device) MARK ≡ pos 0
          → (st : Standing) → (s worker).standing ≡ st
          → HeldAs st program (supers worker) (still (own program worker x.device)) (s worker)
          → UpAs st program (supers worker) (task_at x.workers.tasks worker)
          (own program worker x.device) (s worker) → IsFree worker x s
      go up less idle is mark Ready standing held now = record {
        up = up;
        less = less;
        standing = standing;
        marked = is.marked;
        rests = now.1;
      }
      go up less idle is mark (Down None) standing held now = absurd now
      go up less idle is mark (Down (Some call)) standing held now =
          let no = sym idle ∙ now.1 in absurd cc
      go up less idle is mark (Unusable kind) standing held now =
          let lost = at_view (Lost program.image.parts.sizes (trap_number kind))
          (own program worker x.device) held in
          absurd (is_marked (view (own program worker x.device) MARK) (trap_number kind) lost.0
          lost.1 mark)

  -- there was no memory
  out_stands : (x y : Scene) (s : States) (lines : List WorkersLine)
      → AllStand program supers x s → RunsOut x lines y → AllStand program supers y s
  out_stands x y s lines all is =
      subst (λ (v : Scene). AllStand program supers v s) (sym is.1)
      (λ j less. stands_down program (supers j) x.workers.down (task_at x.workers.tasks j)
      (task_at x.workers.tasks j) (own program j x.device) (s j) (all j less))

  same_stands : (x y : Scene) (s : States) → AllStand program supers x s → y ≡ x
      → AllStand program supers y s
  same_stands x y s all same = subst (λ (v : Scene). AllStand program supers v s) (sym same) all

  module _ (agrees : Agrees program) (worker : ℕ) (name : List ℕ) (args : List ℤ)
      (words : AreWords args) (x y : Scene) (s : States) (lines : List WorkersLine)
      (all : AllStand program supers x s) where
    abbrev Started : Type 0
    Started = (t : States) × StartLines program worker name args lines s t
        × AllStand program supers y t

    refused_start : (l : WorkersLine) → StartLines program worker name args (l ∷ []) s s
        → RefusedWith l x lines y → Started
    refused_start l means is = (
      s,
      subst (λ (ls : List WorkersLine). StartLines program worker name args ls s s) (sym is.0)
          means,
      same_stands x y s all is.1,
    )

    module _ (free : IsFree worker x s) (tx : ℕ) (named : call_number program name ≡ Some tx) where
      abbrev call : Pending
      call = record { tx = tx; args = args }

      abbrev super : Words
      super = supers worker

      abbrev owing : SourceState
      owing = standing_as (Down (Some call)) (s worker)

      abbrev c : Cache
      c = own program worker x.device

      -- the worker is in its transaction, which it owes
      record IsBusyFirst (looks : Bool) : Type 0 where
        busy : IsBusyIn program super call (first_task looks program.image tx args) c owing
        owes : OwesBy false program super call (still c) owing

      busy_first : (looks : Bool) → looks_of program tx ≡ looks
          → tx_parameters program.image tx ≡ Some (length args)
          → rolls_back_of program tx ≡ false
          → (looks ≡ false → standing_at program.image worker x.device ≡ stands.Ready)
          → IsBusyFirst looks
      busy_first true looks takes plain ready =
          let look : IsAtLook program super call (look_task program call) c owing =
          look_begins program super call owing c
          (rest_stands program super (still c) (s worker) (Down (Some call)) free.rests) takes words
          plain looks in
          record {
            busy = record { looks = true; busy = look };
            owes = look_owes program super call owing agrees (look_task program call) c look;
          }
      busy_first false stores takes plain ready =
          let work : IsAtWork program super call (begun_task program.image tx args) c owing =
          work_begins program super call owing c free.marked
          (rest_stands program super (still c) (s worker) (Down (Some call)) free.rests) takes words
          plain stores (ready refl) in
          record {
            busy = record { looks = false; busy = work };
            owes = work_owes program super call owing agrees (begun_task program.image tx args) c
                work c (record {
                  left = left_of program.image (begun_task program.image tx args) c;
                  shows = work.stands;
                });
          }

      begun : (looks : Bool) → looks_of program tx ≡ looks
          → tx_parameters program.image tx ≡ Some (length args)
          → rolls_back_of program tx ≡ false
          → (looks ≡ false → standing_at program.image worker x.device ≡ stands.Ready)
          → HasBegun looks program.image worker tx args x lines y → Started
      begun looks kind takes plain ready is =
          let first : IsBusyFirst looks = busy_first looks kind takes plain ready in
          let t : States = changed worker owing s in
          let aside : StaysAside program.image worker x.device y.device =
          subst (λ (d : Device). StaysAside program.image worker x.device d) (sym is.device)
          (record { lines = refl; fenced = false; others = λ l out. refl }) in (
            t,
            subst (λ (ls : List WorkersLine). StartLines program worker name args ls s t)
                (sym is.told) (
                  refl,
                  record {
                    tx = tx;
                    named = named;
                    takes = sym (agrees.parameters tx) ∙ takes;
                    plain = plain;
                    ready = free.standing;
                    owed = changed_own worker owing s;
                    others = changed_others worker owing s;
                  },
                ),
            others_stand program supers worker x y s t is.count is.others aside
                (changed_others worker owing s) free.up all
                (λ less. subst (λ (u : SourceState). Stands program super y.workers.down
                (task_at y.workers.tasks worker) (own program worker y.device) u)
                (sym (changed_own worker owing s))
                (subst (λ (d : Device). Stands program super y.workers.down
                (task_at y.workers.tasks worker) (own program worker d) owing) (sym is.device)
                (stands_work program super call y.workers.down (task_at y.workers.tasks worker) c
                owing refl free.marked first.owes plain
                (λ up. (first_task looks program.image tx args, is.begun, first.busy))))),
          )

      begun_or : (looks : Bool) → looks_of program tx ≡ looks
          → tx_parameters program.image tx ≡ Some (length args)
          → rolls_back_of program tx ≡ false
          → (looks ≡ false → standing_at program.image worker x.device ≡ stands.Ready)
          → HasBegun looks program.image worker tx args x lines y ⊎ RunsOut x lines y → Started
      begun_or looks kind takes plain ready (inl is) = begun looks kind takes plain ready is
      begun_or looks kind takes plain ready (inr is) = (
        s,
        subst (λ (ls : List WorkersLine). StartLines program worker name args ls s s) (sym is.0)
            refl,
        out_stands x y s lines all is,
      )

      begins_as : (st : device.Standing) (looks : Bool) → looks_of program tx ≡ looks
          → standing_at program.image worker x.device ≡ st
          → tx_parameters program.image tx ≡ Some (length args) → rolls_back_of program tx ≡ false
          → BeginsAs st looks program.image worker tx args x lines y → Started
      begins_as stands.Ready looks kind ready takes plain is =
          begun_or looks kind takes plain (λ stores. ready) is
      begins_as stands.Numbers true kind ready takes plain is =
          begun_or true kind takes plain (λ stores. absurd cc) is
      begins_as stands.Numbers false kind ready takes plain is =
          refused_start (line.Plain answer.RefusedNumbers) refl is
      begins_as (stands.Unusable why) looks kind ready takes plain is = absurd is
      begins_as stands.Off looks kind ready takes plain is = absurd is

      begins_with : (count : ℕ) (same : Bool) → (count == length args) ≡ same
          → tx_parameters program.image tx ≡ Some count → rolls_back_of program tx ≡ false
          → BeginsWith same (looks_of program tx) program.image worker tx args x lines y → Started
      begins_with count true same takes plain is =
          begins_as (standing_at program.image worker x.device) (looks_of program tx) refl refl
          (takes ∙ ap (λ (n : ℕ). Some n) (eqb-true count (length args) same)) plain is
      begins_with count false same takes plain is =
          refused_start (line.Plain answer.RefusedArity) refl is

      begins_by : (count : ℕ) (marked : Bool) → rolls_back_of program tx ≡ marked
          → tx_parameters program.image tx ≡ Some count
          → BeginsBy marked (looks_of program tx) count program.image worker tx args x lines y
          → Started
      begins_by count true mark takes is = refused_start line.RefusedAbort refl is
      begins_by count false mark takes is =
          begins_with count (count == length args) refl takes mark is

      begins_to : (o : Option ℕ) → tx_parameters program.image tx ≡ o
          → BeginsTo o program worker tx args x lines y → Started
      begins_to None takes is = refused_start (line.Plain answer.RefusedUnknown) refl is
      begins_to (Some count) takes is =
          begins_by count (rolls_back_of program tx) refl takes is

    begins_named : IsFree worker x s → (o : Option ℕ) → call_number program name ≡ o
        → BeginsNamed o program worker args x lines y → Started
    begins_named free None named is = refused_start (line.Plain answer.RefusedUnknown) refl is
    begins_named free (Some tx) named is =
        begins_to free tx named (tx_parameters program.image tx) refl is

    start_gives : (o : Option WorkersLine)
        → refusal_at program.image x.workers worker x.device ≡ o
        → HoldsOr (λ l. StartLines program worker name args (l ∷ []) s s) o
        → Starts o program worker name args x lines y → Started
    start_gives (Some l) why means is = refused_start l means is
    start_gives None why means is =
        begins_named (free_at worker x s all why) (call_number program name) refl is

  -- `show` and `last`
  module _ (agrees : Agrees program) (worker : ℕ) (x y : Scene) (s : States)
      (lines : List WorkersLine) (all : AllStand program supers x s) where
    abbrev Looked : Type 0
    Looked = (t : States) × (TellsState program (s worker) lines × (t ≡ s))
        × AllStand program supers y t

    tells : (ls : List WorkersLine) → TellsState program (s worker) ls
        → Unchanged ls x lines y → Looked
    tells ls means is = (
      s,
      (subst (TellsState program (s worker)) (sym is.0) means, refl),
      same_stands x y s all is.1,
    )

    text_is : IsFree worker x s → (text : List ℕ) → IsPoolText program worker x.device text
        → text ≡ pool_text (shapes_of program.typed) (s worker).pool
    text_is free text is =
        let c = own program worker x.device in
        let shown : Words = heap_of (sizes_of program) (view c) in
        let same : source_pool program shown ≡ (s worker).pool =
        pool_same program shown (heap_in (sizes_of program) c) (shown_same (sizes_of program) c)
        ∙ free.rests.holds.pool in
        is (pool_fits program shown agrees.root)
        ∙ ap (pool_text (shapes_of program.typed)) same

    show_gives : (o : Option WorkersLine)
        → refusal_at program.image x.workers worker x.device ≡ o
        → HoldsOr (λ l. TellsState program (s worker) (l ∷ [])) o
        → ShowsWorker o program worker x lines y → Looked
    show_gives (Some l) why means is = tells (l ∷ []) means is
    show_gives None why means (inl is) =
        let free = free_at worker x s all why in
        tells (line.Plain (answer.Shown is.text) ∷ [])
        (text_is free is.text is.is_text, free.standing) is.told
    show_gives None why means (inr is) = (
      s,
      (subst (TellsState program (s worker)) (sym is.0) tt, refl),
      out_stands x y s lines all is,
    )

    last_gives : (o : Option WorkersLine)
        → refusal_at program.image x.workers worker x.device ≡ o
        → HoldsOr (λ l. TellsState program (s worker) (l ∷ [])) o
        → LastsWorker o program.image worker x lines y → Looked
    last_gives (Some l) why means is = tells (l ∷ []) means is
    last_gives None why means is =
        let free = free_at worker x s all why in
        tells (line.Plain (answer.Last (view (own program worker x.device) DONE)
        (view (own program worker x.device) LAST)) ∷ [])
        (free.rests.before.good.done, free.rests.before.last_is, free.standing) is

  -- what the compartments hold

  holds_up : (super : Words) (st : Standing) (worker : ℕ) (o : Option Task) (d : Device)
      (s : SourceState) → HeldAs st program super (still (own program worker d)) s
      → UpAs st program super o (own program worker d) s → WorkerHolds st program worker o d s
  holds_up _ Ready worker o d s held up = (
    up.0,
    record {
      pool = up.1.holds.pool;
      done = up.1.before.good.done;
      last = up.1.before.last_is;
      mark = up.1.before.good.mark;
    },
  )
  holds_up _ (Down None) worker o d s held up = up
  holds_up _ (Down (Some owed)) worker o d s held up = ap (λ (p : Option Task). is_some p) up.1
  holds_up _ (Unusable kind) worker o d s held up = (
    up,
    (at_view (Lost program.image.parts.sizes (trap_number kind)) (own program worker d) held).0,
  )

  pub all_hold : (x : Scene) (s : States) → AllStand program supers x s
      → AllHold program (record { scene = x; states = s })
  all_hold x s all up worker less =
      holds_up (supers worker) (s worker).standing worker (task_at x.workers.tasks worker) x.device
      (s worker) (all worker less).held ((all worker less).up up)

  pub command_gives : (agrees : Agrees program) (c : WorkersCommand) (x y : Scene) (s : States)
      (lines : List WorkersLine) → HasWordArgs c → AllStand program supers x s
      → WorkersCommanded program c x lines y
      → (t : States) × LinesMean program c x.device lines s t × AllStand program supers y t
      × PhasesHold program c lines (record { scene = y; states = t })
  command_gives agrees (command.Start worker name args) x y s lines words all is =
      let done = start_gives agrees worker name args words x y s lines all
      (refusal_at program.image x.workers worker x.device) refl
      (refusal_holds (λ l. StartLines program worker name args (l ∷ []) s s) refl (λ w. refl)
      (λ w. refl) (λ kind. refl) program.image x.workers worker x.device) is in
      (done.0, done.1, done.2, tt)
  command_gives agrees (command.Turn workers) x y s lines words all is =
      let done = turns_give program supers agrees x.workers.down workers x y s lines refl all is in
      (done.0, done.1, done.2, done.3)
  command_gives agrees command.Finish x y s lines words all is =
      let done = finish_gives program supers agrees x.workers.down x y s lines refl all is in
      (done.0, done.1, done.2, done.3)
  command_gives agrees (command.Stop left) x y s lines words all is =
      (s, (is.0, refl), same_stands (with_device (with_left left x.device) x) y s all is.1, tt)
  command_gives agrees (command.Fault at) x y s lines words all is =
      (s, (is.0, refl), same_stands (with_device (with_armed at x.device) x) y s all is.1, tt)
  command_gives agrees (command.Power choice) x y s lines words all is =
      let done = powers_give program supers agrees choice x y s lines all is in
      (done.0, done.1, done.2, tt)
  command_gives agrees (command.Show worker) x y s lines words all is =
      let done = show_gives agrees worker x y s lines all
      (refusal_at program.image x.workers worker x.device) refl
      (refusal_holds (λ l. TellsState program (s worker) (l ∷ [])) tt (λ w. tt) (λ w. tt)
      (λ kind. tt) program.image x.workers worker x.device) is in
      (done.0, done.1, done.2, tt)
  command_gives agrees (command.Last worker) x y s lines words all is =
      let done = last_gives agrees worker x y s lines all
      (refusal_at program.image x.workers worker x.device) refl
      (refusal_holds (λ l. TellsState program (s worker) (l ∷ [])) tt (λ w. tt) (λ w. tt)
      (λ kind. tt) program.image x.workers worker x.device) is in
      (done.0, done.1, done.2, tt)
