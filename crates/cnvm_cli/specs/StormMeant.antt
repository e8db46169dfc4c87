-- What a storm means by the source of its program. It is one chain of steps on the device over the
-- commands that are drawn, each answered as the source says to the image that is found there; these
-- answers are counted.
use Rattle.std.specs.Prelude.{ℕ, zero, suc, ◌<◌, ◌-◌, ◌^◌, min, List, [], ◌∷◌, ◌++◌, Option, Some}
use Rattle.std.specs.Prelude.{◌≡◌, ◌⊎◌, Bool}
use Rattle.std.specs.Io.KnownBytes.{Appends, Keeps}
use Rattle.nvm_base.specs.Parts.{AppendsPart}
use Rattle.pmem.specs.Device.{Device}
use Rattle.c_tree.specs.ItemTree.{FunctionTree}
use Rattle.c_types.specs.Shapes.{transactions_of}
use Rattle.cnvm_script.specs.declared.command.Command.{Command}
use Rattle.cnvm_script.specs.declared.command.Command.TheVariants as command
use Rattle.cnvm_script.specs.Storm.{storm_round, storm_after}
use Rattle.cnvm_session.specs.declared.answer.Answer.{Answer}
use Rattle.cnvm_session.specs.declared.mode.Mode.TheVariants.{Ready}
use Rattle.cnvm_session.specs.declared.program.Program.{Program}
use Rattle.cnvm_session.specs.AnswerText.{answer_text}
use Rattle.session_law.specs.State.{created}
use Rattle.session_law.specs.Holds.{Holds}
use Rattle.session_law.specs.Ran.{Moment, SessionStep, Ran, fresh_moment}
use Rattle.session_law.specs.Law.{super_words}
use Rattle.cnvm_compile.specs.declared.asked.Asked.{Asked}
use Rattle.cnvm_compile.specs.declared.compiling.Compiled.{Compiled}
use Rattle.cnvm_compile.specs.Compilation.{IsCompiled}
use Rattle.cnvm_cli.specs.declared.refused.Refused.{Refused}
use Rattle.session_run.specs.declared.status.Status.{Status}
use Rattle.session_run.specs.declared.storm.StormOrder.{StormOrder}
use Rattle.session_run.specs.declared.storm.Tally.{Tally}
use Rattle.session_run.specs.AsStatus.{AsStatus}
use Rattle.cnvm_cli.specs.Verdict.{OfBytes, ProgramRefuses}
use Rattle.cnvm_cli.specs.Run.{RefusedAs}
use Rattle.session_run.specs.Made.{Created, Uncreated}
use Rattle.session_run.specs.Stormed.{counted, no_tally, summary_text, any_broken}

abbrev pub ordered : (start count reach : ℕ) → (plain : Bool) → StormOrder
ordered start count reach plain =
    record { start = start; count = count; reach = reach; plain = plain }

-- the commands of `count` rounds of the generator, from the number x on
abbrev pub Drawn : List FunctionTree → (reach : ℕ) → ℕ → (count : ℕ) → List Command → Type 0
Drawn fs reach x zero commands = commands ≡ []
Drawn fs reach x (suc count) commands =
    (round : List Command) × (others : List Command) × (y : ℕ)
    × (Some round ≡ storm_round reach x fs) × (Some y ≡ storm_after x fs)
    × (commands ≡ round ++ others) × Drawn fs reach y count others

-- for a program without a transaction nothing is drawn
abbrev pub DrawnOf : List FunctionTree → Program → (reach : ℕ) → ℕ → (count : ℕ) → List Command
    → Type 0
DrawnOf [] program reach x count commands = commands ≡ []
DrawnOf (f ∷ fs) program reach x count commands =
    Drawn (transactions_of program.typed) reach x count commands

-- all commands of a storm
abbrev pub AreDrawn : Program → StormOrder → List Command → Type 0
AreDrawn program order commands =
    DrawnOf (transactions_of program.typed) program order.reach (min order.start (2 ^ 32 - 1))
    order.count commands

-- each answer is counted
abbrev pub tally_of : List Command → List Answer → Tally → Tally
tally_of [] answers t = t
tally_of (c ∷ commands) [] t = t
tally_of (c ∷ commands) (a ∷ answers) t = tally_of commands answers (counted c a t)

-- a chain of steps over all commands of a storm
pub record Storms (program : Program) (order : StormOrder) (x : Moment) :
    Type 0 where
  pub commands : List Command
  pub drawn : AreDrawn program order commands
  pub answers : List Answer
  pub last : Moment
  pub ran : Ran program (super_words program) commands answers x last

-- The summary is written, and then the answer of `last`.
abbrev pub SummaryMeant : Program → (plain : Bool) → Tally → Moment → Option (List ℕ) →
    Option (List ℕ) → Device → (k' : ℕ) → Type 0
SummaryMeant program plain t x w w' d' k' =
    (a : Answer) × (y : Moment) × (w1 : Option (List ℕ)) × Appends w w1 (summary_text plain t)
    × SessionStep program (super_words program) command.Last x a y
    × Appends w1 w' (answer_text a)
    × (y.device ≡ d') × (y.steps ≡ k')

-- a part of the summary is written, or all of it and a part of the answer of `last`
abbrev pub SummaryPart : Program → (plain : Bool) → Tally → Moment → Option (List ℕ) →
    Option (List ℕ) → Device → (k' : ℕ) → Type 0
SummaryPart program plain t x w w' d' k' =
    (AppendsPart w w' (summary_text plain t) × (x.device ≡ d') × (x.steps ≡ k'))
    ⊎ ((a : Answer) × (y : Moment) × (w1 : Option (List ℕ)) × Appends w w1 (summary_text plain t)
    × SessionStep program (super_words program) command.Last x a y
    × AppendsPart w1 w' (answer_text a) × (y.device ≡ d') × (y.steps ≡ k'))

-- A new pool is made, and holds the empty pool; then the storm is run on it, and this much of its
-- summary is written.
abbrev pub CountsMeant : Program → StormOrder → (unmet : Bool) → Option (List ℕ) →
    Option (List ℕ) → Device → Device → (k k' : ℕ) → Type 0
CountsMeant program order unmet w w' d d' k k' =
    (b : Device) × Created program d b
    × Holds program (super_words program) Ready b (created program)
    × ((storm : Storms program order (fresh_moment program b k))
    × SummaryMeant program order.plain (tally_of storm.commands storm.answers no_tally) storm.last
    w w' d' k'
    × (unmet ≡ any_broken (tally_of storm.commands storm.answers no_tally)))

abbrev pub CountsPart : Program → StormOrder → Option (List ℕ) → Option (List ℕ) →
    Device → Device → (k k' : ℕ) → Type 0
CountsPart program order w w' d d' k k' =
    (b : Device) × Created program d b
    × Holds program (super_words program) Ready b (created program)
    × ((storm : Storms program order (fresh_moment program b k))
    × SummaryPart program order.plain (tally_of storm.commands storm.answers no_tally) storm.last
    w w' d' k')

-- There was no memory for the commands of a round: fewer rounds are run, and nothing is written.
abbrev pub CountsCut : Program → StormOrder → Option (List ℕ) → Option (List ℕ) →
    Device → Device → (k k' : ℕ) → Type 0
CountsCut program order w w' d d' k k' =
    (b : Device) × Created program d b
    × Holds program (super_words program) Ready b (created program)
    × (fewer : ℕ) × (fewer < order.count)
    × ((storm : Storms program (record order { count = fewer }) (fresh_moment program b k))
    × (storm.last.device ≡ d') × (storm.last.steps ≡ k') × Keeps w w')

-- what a storm on a new pool means, by its status
abbrev pub StormMeantAs : Program → StormOrder → Status → Option (List ℕ) →
    Option (List ℕ) → Device → Device → (k k' : ℕ) → Type 0
StormMeantAs program order result w w' d d' k k' =
    AsStatus (λ why. Uncreated program why w w' d d' k k')
    (CountsCut program order w w' d d' k k'
    ⊎ CountsPart program order w w' d d' k k')
    (λ unmet. CountsMeant program order unmet w w' d d' k k')
    (CountsPart program order w w' d d' k k') result

-- What a storm means: the program is refused, this is reported, and nothing is run; or the storm
-- means what the source of the compiled program says.
abbrev pub StormMeant : Asked → StormOrder → (program : Option (List ℕ)) → Status →
    Option (List ℕ) → Option (List ℕ) → Device → Device → (k k' : ℕ) → Type 0
StormMeant asked order told result w w' d d' k k' =
    ((why : Refused) × ProgramRefuses told why × RefusedAs why result w w' × (d' ≡ d) × (k' ≡ k))
    ⊎ ((compiled : Compiled) × OfBytes told (λ text. IsCompiled asked text compiled)
    × StormMeantAs compiled.program order result w w' d d' k k')
