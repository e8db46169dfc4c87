-- A storm: rounds of generated commands, run on a new pool.
use Rattle.std.specs.Prelude.{ℕ, zero, suc, ◌<◌, ◌-◌, ◌^◌, min, List, [], ◌∷◌, Option, Some, ◌≡◌}
use Rattle.std.specs.Prelude.{◌⊎◌, Bool}
use Rattle.std.specs.Io.KnownBytes.{Appends, Keeps}
use Rattle.nvm_base.specs.Parts.{AppendsPart}
use Rattle.pmem.specs.Device.{Device}
use Rattle.c_tree.specs.ItemTree.{FunctionTree}
use Rattle.c_types.specs.Shapes.{transactions_of}
use Rattle.cnvm_script.specs.declared.command.Command.{Command}
use Rattle.cnvm_script.specs.declared.command.Command.TheVariants as command
use Rattle.cnvm_script.specs.Storm.{storm_round, storm_after}
use Rattle.cnvm_session.specs.declared.answer.Answer.{Answer}
use Rattle.cnvm_session.specs.declared.mode.Mode.{Mode}
use Rattle.cnvm_session.specs.declared.mode.Mode.TheVariants.{Ready}
use Rattle.cnvm_session.specs.declared.program.Program.{Program}
use Rattle.cnvm_session.specs.AnswerText.{answer_text}
use Rattle.cnvm_session.specs.Commands.{Commanded}
use Rattle.session_run.specs.declared.status.Status.{Status}
use Rattle.session_run.specs.declared.storm.StormOrder.{StormOrder}
use Rattle.session_run.specs.declared.storm.Tally.{Tally}
use Rattle.session_run.specs.AsStatus.{AsStatus}
use Rattle.session_run.specs.Made.{Created, Uncreated}
use Rattle.session_run.specs.Stormed.{counted, no_tally, summary_text, any_broken}

-- commands are run, and each answer is counted
abbrev pub CountsAnswers : Program → List Command → Tally → Mode → Device → ℕ → Tally → Mode
    → Device → ℕ → Type 0
CountsAnswers program [] t m d k t' m' d' k' = (t' ≡ t) × (m' ≡ m) × (d' ≡ d) × (k' ≡ k)
CountsAnswers program (c ∷ cs) t m d k t' m' d' k' =
    (a : Answer) × (m1 : Mode) × (d1 : Device) × (k1 : ℕ) × Commanded program c m d a m1 d1 k k1
    × CountsAnswers program cs (counted c a t) m1 d1 k1 t' m' d' k'

-- `count` rounds of the generator, from the number x on
abbrev pub Rounds : Program → (reach : ℕ) → ℕ → (count : ℕ) → Tally → Mode → Device → ℕ → Tally
    → Mode → Device → ℕ → Type 0
Rounds program reach x zero t m d k t' m' d' k' = (t' ≡ t) × (m' ≡ m) × (d' ≡ d) × (k' ≡ k)
Rounds program reach x (suc count) t m d k t' m' d' k' =
    (commands : List Command) × (y : ℕ)
    × (Some commands ≡ storm_round reach x (transactions_of program.typed))
    × (Some y ≡ storm_after x (transactions_of program.typed)) × (t1 : Tally) × (m1 : Mode)
    × (d1 : Device) × (k1 : ℕ)
    × CountsAnswers program commands t m d k t1 m1 d1 k1 × Rounds program reach y count t1 m1 d1 k1
    t' m' d' k'

-- for a program without a transaction nothing is run
abbrev pub RoundsOf : List FunctionTree → Program → (reach : ℕ) → ℕ → (count : ℕ) → Tally → Mode
    → Device → ℕ → Tally → Mode → Device → ℕ → Type 0
RoundsOf [] program reach x count t m d k t' m' d' k' = (t' ≡ t) × (m' ≡ m) × (d' ≡ d) × (k' ≡ k)
RoundsOf (f ∷ fs) program reach x count t m d k t' m' d' k' =
    Rounds program reach x count t m d k t' m' d' k'

abbrev pub Rages : Program → StormOrder → Tally → Mode → Device → ℕ → Tally → Mode → Device → ℕ
    → Type 0
Rages program order t m d k t' m' d' k' =
    RoundsOf (transactions_of program.typed) program order.reach (min order.start (2 ^ 32 - 1))
    order.count t m d k t' m' d' k'

-- fewer rounds are run, since there was no memory for the commands of the next
abbrev pub RoundsPart : Program → (reach : ℕ) → ℕ → (count : ℕ) → Tally → Mode → Device → ℕ
    → Device → ℕ → Type 0
RoundsPart program reach x count t m d k d' k' =
    (fewer : ℕ) × (fewer < count) × (t' : Tally) × (m' : Mode)
    × Rounds program reach x fewer t m d k t' m' d' k'

abbrev pub RagesPart : Program → StormOrder → Tally → Mode → Device → ℕ → Device → ℕ → Type 0
RagesPart program order t m d k d' k' =
    (fewer : ℕ) × (fewer < order.count) × (t' : Tally) × (m' : Mode)
    × Rages program (record order { count = fewer }) t m d k t' m' d' k'

-- the summary is written, and then the answer of `last`
abbrev pub TallyAll : Program → (plain : Bool) → Tally → Mode → Device → Option (List ℕ) → ℕ
    → Device → Option (List ℕ) → ℕ → Type 0
TallyAll program plain t m d w k d' w' k' =
    (a : Answer) × (n : Mode) × (w1 : Option (List ℕ)) × Appends w w1 (summary_text plain t)
    × Commanded program command.Last m d a n d' k k'
    × Appends w1 w' (answer_text a)

-- a part of the summary is written, or all of it and a part of the answer of `last`
abbrev pub TallyPart : Program → (plain : Bool) → Tally → Mode → Device → Option (List ℕ) → ℕ
    → Device → Option (List ℕ) → ℕ → Type 0
TallyPart program plain t m d w k d' w' k' =
    (AppendsPart w w' (summary_text plain t) × (d' ≡ d) × (k' ≡ k))
    ⊎ ((a : Answer) × (n : Mode) × (w1 : Option (List ℕ)) × Appends w w1 (summary_text plain t)
    × Commanded program command.Last m d a n d' k k'
    × AppendsPart w1 w' (answer_text a))

-- all rounds are run, and then this is written; a check was broken or not
abbrev pub StormsAll : Program → StormOrder → (unmet : Bool) → Mode → Device → Option (List ℕ) → ℕ
    → Device → Option (List ℕ) → ℕ → Type 0
StormsAll program order unmet m d w k d' w' k' =
    (t : Tally) × (m1 : Mode) × (d1 : Device) × (k1 : ℕ) × Rages program order no_tally m d k
    t m1 d1 k1
    × TallyAll program order.plain t m1 d1 w k1 d' w' k' × (unmet ≡ any_broken t)

abbrev pub StormsPart : Program → StormOrder → Mode → Device → Option (List ℕ) → ℕ → Device
    → Option (List ℕ) → ℕ → Type 0
StormsPart program order m d w k d' w' k' =
    (t : Tally) × (m1 : Mode) × (d1 : Device) × (k1 : ℕ) × Rages program order no_tally m d k
    t m1 d1 k1
    × TallyPart program order.plain t m1 d1 w k1 d' w' k'

abbrev pub StormedAll : Program → StormOrder → (unmet : Bool) → Option (List ℕ)
    → Option (List ℕ) → Device → Device → (k k' : ℕ) → Type 0
StormedAll program order unmet w w' d d' k k' =
    (b : Device) × Created program d b × StormsAll program order unmet Ready b w k d' w' k'

abbrev pub StormedPart : Program → StormOrder → Option (List ℕ) → Option (List ℕ) → Device
    → Device → (k k' : ℕ) → Type 0
StormedPart program order w w' d d' k k' =
    (b : Device) × Created program d b × StormsPart program order Ready b w k d' w' k'

-- there was no memory for all of the storm: fewer rounds are run, and nothing is written; or a part
-- of the summary is
abbrev pub StormStarves : Program → StormOrder → Mode → Device → Option (List ℕ) → ℕ
    → Device → Option (List ℕ) → ℕ → Type 0
StormStarves program order m d w k d' w' k' =
    (Keeps w w' × RagesPart program order no_tally m d k d' k')
    ⊎ StormsPart program order m d w k d' w' k'

abbrev pub StormedStarved : Program → StormOrder → Option (List ℕ) → Option (List ℕ)
    → Device → Device → (k k' : ℕ) → Type 0
StormedStarved program order w w' d d' k k' =
    (b : Device) × Created program d b × StormStarves program order Ready b w k d' w' k'

-- How a storm on a new pool ends, by its status.
abbrev pub StormedAs : Program → StormOrder → Status → Option (List ℕ) → Option (List ℕ)
    → Device → Device → (k k' : ℕ) → Type 0
StormedAs program order result w w' d d' k k' =
    AsStatus (λ why. Uncreated program why w w' d d' k k')
    (StormedStarved program order w w' d d' k k')
    (λ unmet. StormedAll program order unmet w w' d d' k k')
    (StormedPart program order w w' d d' k k') result
