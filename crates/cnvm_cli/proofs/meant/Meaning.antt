-- A run means what its program's source says.
use Rattle.std.proofs.Common.{◌≡◌, ℕ, ℤ, List, [], ◌∷◌, Bool, true, false, Option, Some, None}
use Rattle.std.proofs.Common.{is_some, inl, inr, append-nil, refl, sym, ap, subst, ◌||◌, ◌∙◌}
use Rattle.std.specs.List.{AllByRecursion}
use Rattle.std.specs.Io.KnownBytes.{Appends, Keeps}
use Rattle.nvm_base.proofs.Pieces.{appends_more}
use Rattle.cache_model.specs.Cache.{Words}
use Rattle.pmem.specs.Device.{Device}
use Rattle.pool_layout.specs.Image.{image_words}
use Rattle.pool_layout.specs.Opened.{IsOpened}
use Rattle.cnvm_script.specs.declared.command.Command.{Command}
use Rattle.cnvm_session.specs.AnswerText.{answer_text}
use Rattle.cnvm_session.specs.declared.program.Program.{Program}
use Rattle.cnvm_session.specs.Pool.{wanted_of}
use Rattle.session_law.specs.Agrees.{Agrees}
use Rattle.session_law.specs.Holds.{Holds}
use Rattle.session_law.specs.Words.{AreWords}
use Rattle.session_law.specs.Ran.{Moment, fresh_moment}
use Rattle.session_law.specs.Law.{IsWordCommand, super_words}
use Rattle.session_law.proofs.chains.Chains.{steps_on, open_step}
use Rattle.session_law.proofs.answers.Commands.{each_command}
use Rattle.session_law.proofs.answers.Creating.{created_rests}
use Rattle.session_law.proofs.answers.Opening.{opened_answers}
use Rattle.session_law.proofs.Scripts.{script_words}
use Rattle.cnvm_words.specs.declared.plan.Plan.{Plan}
use Rattle.cnvm_words.specs.declared.plan.Plan.TheVariants as plan
use Rattle.cnvm_compile.specs.declared.asked.Asked.{Asked}
use Rattle.cnvm_compile.specs.declared.compiling.Compiled.{Compiled}
use Rattle.cnvm_compile.specs.Compilation.{IsCompiled}
use Rattle.cnvm_cli.specs.declared.refused.Refused.TheVariants as refused
use Rattle.session_run.specs.declared.status.Status.{Status}
use Rattle.session_run.specs.declared.status.Status.TheVariants as status
use Rattle.cnvm_cli.specs.StormMeant.{ordered}
use Rattle.cnvm_cli.specs.Verdict.{HasCommands, TextsGive, asked_by}
use Rattle.cnvm_cli.specs.Opened.{ImageGives}
use Rattle.session_run.specs.Made.{Unopened}
use Rattle.session_run.specs.Commands.{OpensAll, OpenedAs}
use Rattle.session_run.specs.Made.{Uncreated}
use Rattle.session_run.specs.Commands.{RunsAndWrites, RunsPart, CreatedAll, CreatedPart, RanAs}
use Rattle.cnvm_cli.specs.World.{Sources, Outside, IsUntouched}
use Rattle.cnvm_cli.specs.Meant.{Start, Fresh, FromImage, start_if, text_of, RanAll, RanPart}
use Rattle.cnvm_cli.specs.Meant.{RanWith}
use Rattle.session_run.specs.Strict.{is_refused, any_refused}
use Rattle.cnvm_cli.specs.Meant.{MeansAll, MeansPart, MeantAs, OpensMeant, OpenMeansPart}
use Rattle.cnvm_cli.specs.Meant.{OpenedMeantAs, StartMeant, JobMeant, RunMeant, PlanMeant}
use Rattle.cnvm_cli.specs.Meant.{CallMeant}
use Rattle.cnvm_cli.specs.inside.Ends.{PoolEnds, JobEnds, RunEnds, PlanEnds}
use Rattle.session_run.specs.Commands as cli
use Rattle.cnvm_cli.proofs.Moments.{next_to, opened_to}
use Rattle.cnvm_cli.proofs.meant.ServeMeaning.{memory_served}
use Rattle.cnvm_cli.proofs.texts.Sources.{known_bytes}
use Rattle.cnvm_cli.proofs.Statuses.{status_map, strict_memory}
use Rattle.cnvm_cli.proofs.meant.StormMeaning.{storm_meant}
use Rattle.cnvm_cli.proofs.meant.WorkersMeaning.{workers_meant}

-- nothing is written
none_written : (w w' : Option (List ℕ)) → w' ≡ w → Appends w w' []
none_written w w' is = subst (λ (v : Option (List ℕ)). Appends w v []) (sym is) (same w)
  where
    same : (v : Option (List ℕ)) → Appends v v []
    same None = tt
    same (Some bytes) = sym (append-nil bytes)

or_none : (a : Bool) → (a || false) ≡ a
or_none true = refl
or_none false = refl

or_more : (a b c : Bool) → ((a || b) || c) ≡ (a || (b || c))
or_more true b c = refl
or_more false b c = refl

module _ (program : Program) (super : Words)
    (agrees : Agrees program) where
  -- from whether an answer was refused to whether one is
  abbrev RanFrom : List Command → Moment → (u u' : Bool) → Option (List ℕ) → Option (List ℕ)
      → Device → ℕ → Type 0
  RanFrom commands x u u' w w' d' k' =
      (all : RanAll program super commands x w w' d' k')
      × (u' ≡ (u || any_refused all.answers))

  run_from : (commands : List Command) → AllByRecursion IsWordCommand commands →
      (x : Moment) (d' : Device) (w w' : Option (List ℕ)) (k' : ℕ) (u u' : Bool) →
      Holds program super x.mode x.device x.state
      → RunsAndWrites program commands x.mode x.device w x.steps u d' w' k' u' →
      RanFrom commands x u u' w w' d' k'
  run_from [] words x d' w w' k' u u' holds r = (
    record {
      answers = [];
      last = x;
      ran = refl;
      device = sym r.0;
      steps = sym r.2;
      written = none_written w w' r.1;
    },
    r.3 ∙ sym (or_none u),
  )
  run_from (c ∷ commands) words x d' w w' k' u u' holds r =
      let one = steps_on each_command program super agrees c x r.0 r.1 r.2 r.4 words.0
      holds r.5 in
      let y : Moment = next_to program c x r.0 r.1 r.2 r.4 one.0 in
      let more = run_from commands words.1 y d' r.3 w' k' (u || is_refused r.0) u' one.1.holds r.7
      in
      let rest : RanAll program super commands y r.3 w' d' k' = more.0 in (
        record {
          answers = r.0 ∷ rest.answers;
          last = rest.last;
          ran = (y, one.1, rest.ran);
          device = rest.device;
          steps = rest.steps;
          written =
              appends_more w r.3 w' (answer_text r.0) (text_of rest.answers) r.6 rest.written;
        },
        more.1 ∙ or_more u (is_refused r.0) (any_refused rest.answers),
      )

  -- all commands of a run
  pub run_all : (commands : List Command) → AllByRecursion IsWordCommand commands →
      (x : Moment) (d' : Device) (w w' : Option (List ℕ)) (k' : ℕ) (unmet : Bool) →
      Holds program super x.mode x.device x.state
      → RunsAndWrites program commands x.mode x.device w x.steps false d' w' k' unmet →
      RanWith program super commands x unmet w w' d' k'
  run_all commands words x d' w w' k' unmet holds r =
      run_from commands words x d' w w' k' false unmet holds r

  pub run_part : (commands : List Command) → AllByRecursion IsWordCommand commands →
      (x : Moment) (d' : Device) (w w' : Option (List ℕ)) (k' : ℕ) →
      Holds program super x.mode x.device x.state
      → RunsPart program commands x.mode x.device w x.steps d' w' k' →
      RanPart program super commands x w w' d' k'
  run_part [] words x d' w w' k' holds r = absurd r
  run_part (c ∷ commands) words x d' w w' k' holds (inl r) =
      let one = steps_on each_command program super agrees c x r.0 r.1 d' k' words.0
      holds r.2 in
      record {
        first = [];
        next = c;
        others = commands;
        are = refl;
        answers = [];
        before = x;
        ran = refl;
        told = w;
        written = none_written w w refl;
        answer = r.0;
        last = next_to program c x r.0 r.1 d' k' one.0;
        step = one.1;
        device = refl;
        steps = refl;
        part = r.3;
      }
  run_part (c ∷ commands) words x d' w w' k' holds (inr r) =
      let one = steps_on each_command program super agrees c x r.0 r.1 r.2 r.4 words.0
      holds r.5 in
      let y : Moment = next_to program c x r.0 r.1 r.2 r.4 one.0 in
      let rest = run_part commands words.1 y d' r.3 w' k' one.1.holds r.7 in
      record {
        first = c ∷ rest.first;
        next = rest.next;
        others = rest.others;
        are = ap (λ (cs : List Command). c ∷ cs) rest.are;
        answers = r.0 ∷ rest.answers;
        before = rest.before;
        ran = (y, one.1, rest.ran);
        told = rest.told;
        written =
            appends_more w r.3 rest.told (answer_text r.0) (text_of rest.answers) r.6 rest.written;
        answer = rest.answer;
        last = rest.last;
        step = rest.step;
        device = rest.device;
        steps = rest.steps;
        part = rest.part;
      }

module _ (program : Program) (agrees : Agrees program)
    (commands : List Command) (words : AllByRecursion IsWordCommand commands) where
  created_all : (w w' : Option (List ℕ)) (d d' : Device) (k k' : ℕ) (unmet : Bool) →
      CreatedAll program commands unmet w w' d d' k k' →
      MeansAll program commands unmet w w' d d' k k'
  created_all w w' d d' k k' unmet r =
      let holds = created_rests program d r.0 r.1 in (
        r.0,
        r.1,
        holds,
        run_all program (super_words program) agrees commands words
            (fresh_moment program r.0 k) d' w w' k' unmet holds r.2,
      )

  created_part : (w w' : Option (List ℕ)) (d d' : Device) (k k' : ℕ) →
      CreatedPart program commands w w' d d' k k' →
      MeansPart program commands w w' d d' k k'
  created_part w w' d d' k k' r =
      let holds = created_rests program d r.0 r.1 in (
        r.0,
        r.1,
        holds,
        run_part program (super_words program) agrees commands words
            (fresh_moment program r.0 k) d' w w' k' holds r.2,
      )

  ran_meant : (result : Status) (w w' : Option (List ℕ)) (d d' : Device) (k k' : ℕ) →
      RanAs program commands result w w' d d' k k' →
      MeantAs program commands result w w' d d' k k'
  ran_meant result w w' d d' k k' r =
      status_map (λ why. Uncreated program why w w' d d' k k') (created_part w w' d d' k k')
      (created_all w w' d d' k k') (created_part w w' d d' k k') result r

  opens_meant : (words : List ℤ) → AreWords words → IsOpened (wanted_of program) words →
      (w w' : Option (List ℕ)) (d d' : Device) (k k' : ℕ) (unmet : Bool) →
      OpensAll program commands words unmet w w' d d' k k' →
      OpensMeant program commands words unmet w w' d d' k k'
  opens_meant list are opened w w' d d' k k' unmet r =
      let first = open_step opened_answers program list r.1 d r.2 r.0 k r.4 agrees are
      opened r.5 in
      let x : Moment = opened_to program list r.0 r.1 r.2 r.4 first.0 in (
        r.0,
        x,
        r.3,
        first.1,
        r.6,
        run_all program (image_words list) agrees commands words x
            d' r.3 w' k' unmet first.1.holds r.7,
      )

  part_meant : (words : List ℤ) → AreWords words → IsOpened (wanted_of program) words →
      (w w' : Option (List ℕ)) (d d' : Device) (k k' : ℕ) →
      cli.OpensPart program commands words w w' d d' k k' →
      OpenMeansPart program commands words w w' d d' k k'
  part_meant list are opened w w' d d' k k' (inl r) =
      let first = open_step opened_answers program list r.1 d d' r.0 k k' agrees are
      opened r.2 in
      inl (r.0, opened_to program list r.0 r.1 d' k' first.0, first.1, refl, refl, r.3)
  part_meant list are opened w w' d d' k k' (inr r) =
      let first = open_step opened_answers program list r.1 d r.2 r.0 k r.4 agrees are
      opened r.5 in
      let x : Moment = opened_to program list r.0 r.1 r.2 r.4 first.0 in
      inr (
        r.0,
        x,
        r.3,
        first.1,
        r.6,
        run_part program (image_words list) agrees commands
            words x d' r.3 w' k' first.1.holds r.7,
      )

  pub opened_meant : (words : List ℤ) → AreWords words → IsOpened (wanted_of program) words →
      (result : Status) (w w' : Option (List ℕ)) (d d' : Device) (k k' : ℕ) →
      OpenedAs program commands words result w w' d d' k k' →
      OpenedMeantAs program commands words result w w' d d' k k'
  opened_meant list are opened result w w' d d' k k' r =
      status_map (λ why. Unopened program list why w w' d d' k k')
      (part_meant list are opened w w' d d' k k') (opens_meant list are opened w w' d d' k k')
      (part_meant list are opened w w' d d' k k') result r

  start_meant :
      (start : Start) (result : Status) (w w' : Option (List ℕ)) (d d' : Device) (k k' : ℕ) →
      PoolEnds start program commands result w w' d d' k k' →
      StartMeant start program commands result w w' d d' k k'
  start_meant Fresh result w w' d d' k k' ends = ran_meant result w w' d d' k k' ends
  start_meant (FromImage image) result w w' d d' k k' (inl refused) =
      inl (refused.0, refused.1, refused.2, refused.3, refused.4)
  start_meant (FromImage image) result w w' d d' k k' (inr ran) =
      let gives : ImageGives program image ran.0 = ran.1 in
      inr (
        ran.0,
        gives,
        opened_meant ran.0 gives.1 gives.0 result w w' d d'
            k k' ran.2,
      )

  job_meant : (saves : Bool) (start : Start) (result : Status) (before after : Outside)
      → JobEnds saves start program commands result before after
      → JobMeant saves start program commands result before after
  job_meant false start result before after ends = (
    start_meant start result before.out after.out before.dev after.dev before.steps
        after.steps ends.0,
    ends.1,
  )
  job_meant true start result before after ends = (
    ends.0,
    ends.1,
    start_meant start ends.0 before.out after.out before.dev ends.1
        before.steps after.steps ends.2,
    ends.3,
  )

run_meant : (asked : Asked) (told : Sources) (opens saves : Bool) (result : Status)
    (before after : Outside) → RunEnds asked told opens saves result before after
    → RunMeant asked told opens saves result before after
run_meant asked told opens saves result before after (inl refused) =
    inl (refused.0, refused.1, refused.2, refused.3)
run_meant asked told opens saves result before after (inr ran) =
    let compiled : Compiled = ran.0 in
    let gives : TextsGive asked told.program told.script compiled ran.1 = ran.2 in
    let from = known_bytes told.program (λ text. IsCompiled asked text compiled) gives.0 in
    let has = known_bytes told.script (HasCommands ran.1) gives.1 in
    inr (
      compiled,
      ran.1,
      gives,
      job_meant compiled.program from.1.agrees ran.1 (script_words has.0 ran.1 has.1.1)
          saves (start_if opens told.image) result before after ran.3,
    )

plan_meant : (asked : Plan) (told : Sources) (result : Status) (before after : Outside)
    → PlanEnds asked told result before after → PlanMeant asked told result before after
plan_meant (plan.Run p s slots records ticks from save strict) told result before after ends = (
  ends.0,
  ends.1,
  run_meant (asked_by slots records ticks) told (is_some from) (is_some save) ends.0 before after
      ends.2,
)
plan_meant (plan.RunPool p s slots records ticks pool former strict) told result before after ends =
    ends
plan_meant (plan.Serve p slots records ticks) told result before after ends =
    (memory_served (asked_by slots records ticks) told result before after ends.0, ends.1)
plan_meant (plan.ServePool p slots records ticks pool former) told result before after ends = ends
plan_meant (plan.List p) told result before after ends = ends
plan_meant (plan.Storm p start count reach plain slots records ticks) told result before after
    ends = (
      storm_meant (asked_by slots records ticks) (ordered start count reach plain) told.program
          result before.out after.out before.dev after.dev before.steps after.steps ends.0,
      ends.1,
    )
plan_meant (plan.Why p) told result before after ends = ends
plan_meant (plan.Workers p s workers slots records ticks) told result before after ends = (
  workers_meant (asked_by slots records ticks) workers told.program told.script result before.out
      after.out before.dev after.dev before.steps after.steps ends.0,
  ends.1,
)
plan_meant (plan.WorkersPool p s workers slots records ticks pool) told result before after ends =
    ends
plan_meant (plan.Emit p prefix header slots records ticks) told result before after ends = ends
plan_meant (plan.Code p) told result before after ends = ends

-- words that make a plan
pub plan_meant_as : (words : Option Plan) (asked : Plan) (told : Sources) (result : Status)
    (before after : Outside) → words ≡ Some asked
    → PlanEnds asked told result before after → CallMeant words told result before after
plan_meant_as words asked told result before after is ends =
    subst (λ (w : Option Plan). CallMeant w told result before after) (sym is)
    (plan_meant asked told result before after ends)

-- a call that finds no memory to read its words
pub memory_meant : (words : Option Plan) (told : Sources) (before after : Outside) →
    Keeps before.out after.out → IsUntouched before after →
    CallMeant words told status.NoMemory before after
memory_meant None told before after keeps same = (inr (inl (refl, keeps)), same)
memory_meant (Some (plan.Run p s slots records ticks from save strict)) told before after keeps
    same =
    (status.NoMemory, strict_memory strict, inl (refused.NoMemory, inl tt, (refl, keeps), same))
memory_meant (Some (plan.RunPool p s slots records ticks pool former strict)) told before after
    keeps same = (same.0, same.1)
memory_meant (Some (plan.Serve p slots records ticks)) told before after keeps same =
    (inl (refused.NoMemory, tt, (refl, keeps), same.1, same.2), same.0)
memory_meant (Some (plan.ServePool p slots records ticks pool former)) told before after keeps
    same = (same.0, same.1)
memory_meant (Some (plan.List p)) told before after keeps same =
    (inl (refused.NoMemory, tt, (refl, keeps)), same)
memory_meant (Some (plan.Storm p start count reach plain slots records ticks)) told before after
    keeps same =
    (inl (refused.NoMemory, tt, (refl, keeps), same.1, same.2), same.0)
memory_meant (Some (plan.Why p)) told before after keeps same =
    (inl (refused.NoMemory, tt, (refl, keeps)), same)
memory_meant (Some (plan.Workers p s workers slots records ticks)) told before after keeps same =
    (inl (refused.NoMemory, inl tt, (refl, keeps), same.1, same.2), same.0)
memory_meant (Some (plan.WorkersPool p s workers slots records ticks pool)) told before after keeps
    same = (same.0, same.1)
memory_meant (Some (plan.Emit p prefix header slots records ticks)) told before after keeps same =
    (inl (refused.NoMemory, tt, (refl, keeps)), same)
memory_meant (Some (plan.Code p)) told before after keeps same =
    (inl (refused.NoMemory, tt, (refl, keeps)), same)
