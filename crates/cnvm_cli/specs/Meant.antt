-- What a call means by the source of its program. A run is one chain of steps on the device, each
-- answered as the source says to the image that is found there; after it the device holds what the
-- source knows of the pool. The power may be cut at any store, flush or fence on the way, also
-- during a recovery.
use Rattle.std.specs.Prelude.{ℕ, ℤ, List, [], ◌∷◌, ◌++◌, Bool, true, false, Option, Some, None}
use Rattle.std.specs.Prelude.{is_some, ◌≡◌, ◌⊎◌}
use Rattle.std.specs.Io.KnownBytes.{Appends, Keeps}
use Rattle.nvm_base.specs.Parts.{AppendsPart}
use Rattle.cache_model.specs.Cache.{Words}
use Rattle.pmem.specs.Device.{Device}
use Rattle.pool_layout.specs.Image.{image_words}
use Rattle.cnvm_script.specs.declared.command.Command.{Command}
use Rattle.cnvm_session.specs.declared.answer.Answer.{Answer}
use Rattle.cnvm_session.specs.declared.mode.Mode.TheVariants.{Ready}
use Rattle.cnvm_session.specs.declared.program.Program.{Program}
use Rattle.cnvm_session.specs.AnswerText.{answer_text}
use Rattle.session_law.specs.State.{created}
use Rattle.session_law.specs.Holds.{Holds}
use Rattle.session_law.specs.Ran.{Moment, SessionStep, Ran, fresh_moment, OpenStep}
use Rattle.session_law.specs.Law.{super_words}
use Rattle.cnvm_compile.specs.declared.asked.Asked.{Asked}
use Rattle.cnvm_compile.specs.declared.compiling.Compiled.{Compiled}
use Rattle.cnvm_words.specs.declared.plan.Plan.{Plan}
use Rattle.cnvm_words.specs.declared.plan.Plan.TheVariants as plan
use Rattle.cnvm_cli.specs.declared.refused.Refused.{Refused}
use Rattle.cnvm_cli.specs.declared.refused.Refused.TheVariants as refused
use Rattle.session_run.specs.declared.status.Status.{Status}
use Rattle.session_run.specs.AsStatus.{AsStatus}
use Rattle.cnvm_cli.specs.CodeEnds.{CodeEnds}
use Rattle.cnvm_cli.specs.Emitted.{EmitEnds}
use Rattle.cnvm_cli.specs.Listed.{ListEnds}
use Rattle.cnvm_cli.specs.Opened.{ImageRefuses, ImageGives}
use Rattle.cnvm_cli.specs.Run.{RefusedAs}
use Rattle.session_run.specs.Made.{Created, Uncreated, Unopened}
use Rattle.session_run.specs.Saved.{SavedAs}
use Rattle.session_run.specs.Strict.{any_refused, strict_status}
use Rattle.cnvm_cli.specs.Serve.{ServeMeant}
use Rattle.cnvm_cli.specs.StormMeant.{ordered, StormMeant}
use Rattle.cnvm_cli.specs.Verdict.{asked_by, TextsGive, TextsRefuse}
use Rattle.cnvm_cli.specs.WhyEnds.{WhyEnds}
use Rattle.cnvm_cli.specs.WorkersMeant.{WorkersMeant}
use Rattle.cnvm_cli.specs.World.{Sources, Outside, IsUntouched}

-- the texts of answers, one after another
abbrev pub text_of : List Answer → List ℕ
text_of [] = []
text_of (a ∷ answers) = answer_text a ++ text_of answers

-- A chain of steps over all commands, from a moment to one with this device and this number of
-- steps; the answers' texts are written.
pub record RanAll (program : Program) (super : Words) (commands : List Command)
    (x : Moment) (w w' : Option (List ℕ)) (d' : Device) (k' : ℕ) : Type 0 where
  pub answers : List Answer
  pub last : Moment
  pub ran : Ran program super commands answers x last
  pub device : last.device ≡ d'
  pub steps : last.steps ≡ k'
  pub written : Appends w w' (text_of answers)

-- A chain of steps over the first commands, whose answers are written, and one more step, whose
-- answer is written in part, perhaps not at all.
pub record RanPart (program : Program) (super : Words) (commands : List Command)
    (x : Moment) (w w' : Option (List ℕ)) (d' : Device) (k' : ℕ) : Type 0 where
  pub first : List Command
  pub next : Command
  pub others : List Command
  pub are : commands ≡ first ++ next ∷ others
  pub answers : List Answer
  pub before : Moment
  pub ran : Ran program super first answers x before
  pub told : Option (List ℕ)
  pub written : Appends w told (text_of answers)
  pub answer : Answer
  pub last : Moment
  pub step : SessionStep program super next before answer last
  pub device : last.device ≡ d'
  pub steps : last.steps ≡ k'
  pub part : AppendsPart told w' (answer_text answer)

-- the same, and this is whether one of the answers is a trap or a refusal
abbrev pub RanWith : Program → Words → List Command → Moment → (unmet : Bool) → Option (List ℕ)
    → Option (List ℕ) → Device → ℕ → Type 0
RanWith program super commands x unmet w w' d' k' =
    (all : RanAll program super commands x w w' d' k') × (unmet ≡ any_refused all.answers)

-- A new pool is made, and holds the empty pool; then all commands are run on it.
abbrev pub MeansAll : Program → List Command → (unmet : Bool) → Option (List ℕ) →
    Option (List ℕ) → Device → Device → (k k' : ℕ) → Type 0
MeansAll program commands unmet w w' d d' k k' =
    (b : Device) × Created program d b
    × Holds program (super_words program) Ready b (created program)
    × RanWith program (super_words program) commands (fresh_moment program b k) unmet w w' d' k'

abbrev pub MeansPart : Program → List Command → Option (List ℕ) → Option (List ℕ) →
    Device → Device → (k k' : ℕ) → Type 0
MeansPart program commands w w' d d' k k' =
    (b : Device) × Created program d b
    × Holds program (super_words program) Ready b (created program)
    × RanPart program (super_words program) commands (fresh_moment program b k) w w' d' k'

-- what a run on a new pool means, by its status
abbrev pub MeantAs : Program → List Command → Status → Option (List ℕ) → Option (List ℕ) →
    Device → Device → (k k' : ℕ) → Type 0
MeantAs program commands result w w' d d' k k' =
    AsStatus (λ why. Uncreated program why w w' d d' k k')
    (MeansPart program commands w w' d d' k k')
    (λ unmet. MeansAll program commands unmet w w' d d' k k')
    (MeansPart program commands w w' d d' k k') result

-- The pool of an image is opened first, from what the source knows of the image, and its recovery
-- is answered before the commands.
abbrev pub OpensMeant : Program → List Command → List ℤ → (unmet : Bool) → Option (List ℕ) →
    Option (List ℕ) → Device → Device → (k k' : ℕ) → Type 0
OpensMeant program commands words unmet w w' d d' k k' =
    (a : Answer) × (x : Moment) × (w1 : Option (List ℕ)) × OpenStep program words d k a x
    × Appends w w1 (answer_text a) × RanWith program (image_words words) commands x unmet
    w1 w' d' k'

abbrev pub OpenMeansPart : Program → List Command → List ℤ → Option (List ℕ) →
    Option (List ℕ) → Device → Device → (k k' : ℕ) → Type 0
OpenMeansPart program commands words w w' d d' k k' =
    ((a : Answer) × (x : Moment) × OpenStep program words d k a x × (x.device ≡ d')
    × (x.steps ≡ k') × AppendsPart w w' (answer_text a))
    ⊎ ((a : Answer) × (x : Moment) × (w1 : Option (List ℕ)) × OpenStep program words d k a x
    × Appends w w1 (answer_text a) × RanPart program (image_words words) commands x
    w1 w' d' k')

-- what a run on the pool of an image's words means, by its status
abbrev pub OpenedMeantAs : Program → List Command → List ℤ → Status → Option (List ℕ) →
    Option (List ℕ) → Device → Device → (k k' : ℕ) → Type 0
OpenedMeantAs program commands words result w w' d d' k k' =
    AsStatus (λ why. Unopened program words why w w' d d' k k')
    (OpenMeansPart program commands words w w' d d' k k')
    (λ unmet. OpensMeant program commands words unmet w w' d d' k k')
    (OpenMeansPart program commands words w w' d d' k k') result

-- The pool of a run: a new one, or that of an image.
pub data Start : Type 0 where
  Fresh : Start
  FromImage : (image : Option (List ℕ)) → Start

abbrev pub start_if : (opens : Bool) → (image : Option (List ℕ)) → Start
start_if false image = Fresh
start_if true image = FromImage image

-- A run on a new pool; or on the pool of an image, which may be refused: then this is reported, and
-- nothing is run.
abbrev pub StartMeant : Start → Program → List Command → Status → Option (List ℕ) →
    Option (List ℕ) → Device → Device → (k k' : ℕ) → Type 0
StartMeant Fresh program commands result w w' d d' k k' =
    MeantAs program commands result w w' d d' k k'
StartMeant (FromImage image) program commands result w w' d d' k k' =
    ((why : Refused) × ImageRefuses program image why × RefusedAs why result w w' × (d' ≡ d)
    × (k' ≡ k))
    ⊎ ((words : List ℤ) × ImageGives program image words × OpenedMeantAs program commands
    words result w w' d d' k k')

-- the same, and the pool is then saved or isn't
abbrev pub JobMeant : (saves : Bool) → Start → Program → List Command → Status
    → (before after : Outside) → Type 0
JobMeant false start program commands result before after =
    StartMeant start program commands result before.out after.out before.dev after.dev
    before.steps after.steps
    × Keeps before.image after.image
JobMeant true start program commands result before after =
    (ran : Status) × (d : Device)
    × StartMeant start program commands ran before.out after.out before.dev d before.steps
    after.steps
    × SavedAs ran result before.image after.image d after.dev

-- What a run means: the program or the script is refused, this is reported, and nothing is run or
-- saved; or the run means what the source of the compiled program says.
abbrev pub RunMeant : Asked → Sources → (opens saves : Bool) → Status
    → (before after : Outside) → Type 0
RunMeant asked told opens saves result before after =
    ((why : Refused) × TextsRefuse asked told.program told.script why
    × RefusedAs why result before.out after.out × IsUntouched before after)
    ⊎ ((compiled : Compiled) × (commands : List Command)
    × TextsGive asked told.program told.script compiled commands
    × JobMeant saves (start_if opens told.image) compiled.program commands result before after)

abbrev pub PlanMeant : Plan → Sources → Status → (before after : Outside) → Type 0
PlanMeant (plan.Run p s slots records ticks from save strict) told result before after =
    (ran : Status) × (result ≡ strict_status strict ran)
    × RunMeant (asked_by slots records ticks) told (is_some from) (is_some save) ran before after
PlanMeant (plan.RunPool p s slots records ticks pool former strict) told result before after =
    Keeps before.image after.image × (after.dev ≡ before.dev)
PlanMeant (plan.Serve p slots records ticks) told result before after =
    ServeMeant (asked_by slots records ticks) told result before after
    × Keeps before.image after.image
PlanMeant (plan.ServePool p slots records ticks pool former) told result before after =
    Keeps before.image after.image × (after.dev ≡ before.dev)
PlanMeant (plan.List p) told result before after =
    ListEnds told.program result before.out after.out × IsUntouched before after
PlanMeant (plan.Storm p start count reach plain slots records ticks) told result before after =
    StormMeant (asked_by slots records ticks) (ordered start count reach plain) told.program result
    before.out after.out before.dev after.dev before.steps after.steps
    × Keeps before.image after.image
PlanMeant (plan.Why p) told result before after =
    WhyEnds told.program result before.out after.out × IsUntouched before after
PlanMeant (plan.Workers p s workers slots records ticks) told result before after =
    WorkersMeant (asked_by slots records ticks) workers told.program told.script result
    before.out after.out before.dev after.dev before.steps after.steps
    × Keeps before.image after.image
PlanMeant (plan.WorkersPool p s workers slots records ticks pool) told result before after =
    Keeps before.image after.image × (after.dev ≡ before.dev)
PlanMeant (plan.Emit p prefix header slots records ticks) told result before after =
    EmitEnds (asked_by slots records ticks) prefix header told.program result before.out after.out
    × IsUntouched before after
PlanMeant (plan.Code p) told result before after =
    CodeEnds told.program result before.out after.out × IsUntouched before after

-- What a call means. Words that ask for nothing are a wrong use: this is reported, and nothing is
-- run or saved.
abbrev pub CallMeant : Option Plan → Sources → Status → (before after : Outside) → Type 0
CallMeant None told result before after =
    RefusedAs refused.Usage result before.out after.out × IsUntouched before after
CallMeant (Some asked) told result before after = PlanMeant asked told result before after
