-- What serving means by the source of the program. Each line is answered as the source says, and
-- its answer is written whole before the next read: so, whenever a read is made, all that was read
-- and ends a line is answered, and a pool's file mirrors the device.
use Rattle.std.specs.Prelude.{ℕ, ℤ, List, [], ◌∷◌, Option, Some, None, Result, Ok, Err, ◌≡◌, ◌≢◌}
use Rattle.std.specs.Prelude.{◌⊎◌, ⊤, Bool, codes}
use Rattle.std.specs.Io.KnownBytes.{Appends}
use Rattle.nvm_base.specs.Parts.{AppendsPart}
use Rattle.cache_model.specs.Cache.{Words}
use Rattle.pmem.specs.Device.{Device}
use Rattle.file_pmem.specs.declared.link.MirrorState.{MirrorState}
use Rattle.file_pmem.specs.declared.link.MirrorState.TheVariants.{Awake}
use Rattle.pool_layout.specs.Image.{image_words}
use Rattle.cnvm_script.specs.declared.command.Command.{Command}
use Rattle.cnvm_script.specs.Commands.{line_meaning}
use Rattle.cnvm_session.specs.declared.answer.Answer.{Answer}
use Rattle.cnvm_session.specs.declared.creating.StartFault.{StartFault}
use Rattle.cnvm_session.specs.declared.creating.StartFault.TheVariants as start
use Rattle.cnvm_session.specs.declared.mode.Mode.TheVariants.{Ready}
use Rattle.cnvm_session.specs.declared.program.Program.{Program}
use Rattle.session_law.specs.State.{created}
use Rattle.session_law.specs.Holds.{Holds}
use Rattle.session_law.specs.Ran.{Moment, SessionStep, OpenStep, fresh_moment}
use Rattle.session_law.specs.Law.{super_words}
use Rattle.session_run.specs.declared.status.Status.{Status}
use Rattle.session_run.specs.declared.status.Status.TheVariants as status
use Rattle.session_run.specs.Made.{Created, Uncreated, Unopened}
use Rattle.session_serve.specs.declared.serving.Served.{Served}
use Rattle.session_serve.specs.declared.serving.Served.TheVariants as served
use Rattle.session_serve.specs.Begins.{EndsFirst, EndsAfter, created_text, ended_text}
use Rattle.session_serve.specs.Serves.{ServingEnds}
use Rattle.cnvm_compile.specs.declared.asked.Asked.{Asked}
use Rattle.cnvm_compile.specs.declared.compiling.Compiled.{Compiled}
use Rattle.cnvm_compile.specs.Compilation.{IsCompiled}
use Rattle.cnvm_cli.specs.declared.refused.Refused.{Refused}
use Rattle.cnvm_cli.specs.declared.refused.Refused.TheVariants as refused
use Rattle.cnvm_cli.specs.Former.{MovesOn, TakesIf}
use Rattle.cnvm_cli.specs.PoolSide.{PoolSide, IsUnrun, RunsFile}
use Rattle.cnvm_cli.specs.Run.{RefusedAs}
use Rattle.cnvm_cli.specs.Verdict.{OfBytes, ProgramRefuses}
use Rattle.cnvm_cli.specs.World.{Sources, Outside}

-- A line's answer, from one moment to the next.
abbrev pub LineMeant : Option (Option Command) → Program → Words → Moment → (text : List ℕ)
    → Moment → Type 0
LineMeant (Some (Some command)) program super x text y =
    (a : Answer) × SessionStep program super command x a y × (text ≡ ended_text a)
LineMeant (Some None) program super x text y = (text ≡ codes "\n") × (y ≡ x)
LineMeant None program super x text y = (text ≡ codes "refused line\n\n") × (y ≡ x)

-- A chain over all of these lines, whose answers are written.
abbrev pub LinesMeant : Program → Words → List (List ℕ) → Moment → Option (List ℕ) → Moment
    → Option (List ℕ) → Type 0
LinesMeant program super [] x w y w' = (y ≡ x) × (w' ≡ w)
LinesMeant program super (line ∷ lines) x w y w' =
    (text : List ℕ) × (z : Moment) × (told : Option (List ℕ))
    × LineMeant (line_meaning line) program super x text z × Appends w told text
    × LinesMeant program super lines z told y w'

-- a chain that ends on this device, with this number of steps
abbrev pub AllMeant : Program → Words → Moment → Device → Option (List ℕ) → (k' : ℕ)
    → Option (List ℕ) → List (List ℕ) → Type 0
AllMeant program super x d' w' k' w given =
    (y : Moment) × LinesMeant program super given x w y w' × (y.device ≡ d') × (y.steps ≡ k')

-- the same, and then the next line, whose answer is written in part, perhaps not at all
abbrev pub PartMeant : Program → Words → Moment → Device → Option (List ℕ) → (k' : ℕ)
    → Option (List ℕ) → List (List ℕ) → (next : List ℕ) → Type 0
PartMeant program super x d' w' k' w given next =
    (y : Moment) × (told : Option (List ℕ)) × LinesMeant program super given x w y told
    × (text : List ℕ) × (z : Moment) × LineMeant (line_meaning next) program super y text z
    × AppendsPart told w' text × (z.device ≡ d') × (z.steps ≡ k')

-- the first answer is this text, and then lines are answered from this moment on
abbrev pub ServedFrom : Served → (text : List ℕ) → (left left' : Option (List ℕ)) → Program
    → Words → Moment → (w w' : Option (List ℕ)) → Device → (k' : ℕ) → Type 0
ServedFrom end text left left' program super x w w' d' k' =
    EndsAfter end text left left' w w' ((d' ≡ x.device) × (k' ≡ x.steps))
    (AllMeant program super x d' w' k') (PartMeant program super x d' w' k')

-- on a new pool on this device, which holds the empty pool
abbrev pub NewMeantTo : Served → (left left' : Option (List ℕ)) → Program → Device
    → (w w' : Option (List ℕ)) → Device → (k k' : ℕ) → Type 0
NewMeantTo end left left' program b w w' d' k k' =
    Holds program (super_words program) Ready b (created program)
    × ServedFrom end created_text left left' program (super_words program)
    (fresh_moment program b k) w w' d' k'

-- on a new pool in memory, which may fail to be made
abbrev pub MemoryMeantTo : Result Served StartFault → (left left' : Option (List ℕ)) → Program
    → (w w' : Option (List ℕ)) → (d d' : Device) → (k k' : ℕ) → Type 0
MemoryMeantTo (Ok end) left left' program w w' d d' k k' =
    (b : Device) × Created program d b × NewMeantTo end left left' program b w w' d' k k'
MemoryMeantTo (Err why) left left' program w w' d d' k k' = Uncreated program why w w' d d' k k'

-- on the pool of these words, which is opened first
abbrev pub OpenMeantTo : Result Served StartFault → (left left' : Option (List ℕ)) → Program
    → List ℤ → (w w' : Option (List ℕ)) → (d d' : Device) → (k k' : ℕ) → Type 0
OpenMeantTo (Ok end) left left' program words w w' d d' k k' =
    (a : Answer) × (x : Moment) × OpenStep program words d k a x
    × ServedFrom end (ended_text a) left left' program (image_words words) x w w' d' k'
OpenMeantTo (Err why) left left' program words w w' d d' k k' =
    Unopened program words why w w' d d' k k'

-- this status, and no more is written
abbrev pub IsStatus : (due result : Status) → (w w' : Option (List ℕ)) → Type 0
IsStatus due result w w' = (result ≡ due) × (w' ≡ w)

-- The status of a serving. A line of more bytes than a script may have, and an input of more lines
-- than can be counted, are told as a script that is too long.
abbrev pub StatusOf : Result Served StartFault → Status → (w w' : Option (List ℕ)) → Type 0
StatusOf (Ok served.Done) result w w' = IsStatus status.Done result w w'
StatusOf (Ok served.ReadFault) result w w' = IsStatus status.ReadFault result w w'
StatusOf (Ok served.LongLine) result w w' = RefusedAs refused.LongScript result w w'
StatusOf (Ok served.ManyLines) result w w' = RefusedAs refused.LongScript result w w'
StatusOf (Ok served.NoMemory) result w w' = IsStatus status.NoMemory result w w'
StatusOf (Ok served.WriteFault) result w w' = IsStatus status.WriteFault result w w'
StatusOf (Ok served.GivenUp) result w w' = IsStatus status.DeviceFault result w w'
StatusOf (Err start.Failed) result w w' = IsStatus status.DeviceFault result w w'
StatusOf (Err start.NoMemory) result w w' = IsStatus status.NoMemory result w w'

-- How a file stands to the device: it mirrors it at the end of input and when a read fails. Serving
-- ends as given up only where it has refused something.
abbrev pub StandsAt : Result Served StartFault → MirrorState → Type 0
StandsAt (Ok served.Done) s = s ≡ Awake
StandsAt (Ok served.ReadFault) s = s ≡ Awake
StandsAt (Ok served.GivenUp) s = s ≢ Awake
StandsAt _ s = ⊤

-- Serving in memory never ends as given up.
abbrev pub IsNeverGivenUp : Result Served StartFault → Type 0
IsNeverGivenUp (Ok served.GivenUp) = ⊥
IsNeverGivenUp _ = ⊤

-- What serving in memory means: the program is refused, this is reported, and nothing is run; or
-- lines are served on a new pool.
abbrev pub ServeMeant : Asked → Sources → Status → (before after : Outside) → Type 0
ServeMeant asked told result before after =
    ((why : Refused) × ProgramRefuses told.program why
    × RefusedAs why result before.out after.out × (after.dev ≡ before.dev)
    × (after.steps ≡ before.steps))
    ⊎ ((compiled : Compiled) × OfBytes told.program (λ text. IsCompiled asked text compiled)
    × (r : Result Served StartFault) × (w : Option (List ℕ)) × StatusOf r result w after.out
    × IsNeverGivenUp r × MemoryMeantTo r told.script told.rest compiled.program before.out w
    before.dev after.dev before.steps after.steps)

-- serving ends so, and this is its status
abbrev pub Concludes : (ends : Result Served StartFault → (w : Option (List ℕ)) → Type 0)
    → Status → (after : PoolSide) → Type 0
Concludes ends result after =
    (r : Result Served StartFault) × (w : Option (List ℕ)) × StatusOf r result w after.out
    × StandsAt r after.held.state × ends r w

-- lines are answered from this moment on, without a first answer
abbrev pub ServesOkFrom : Result Served StartFault → (left left' : Option (List ℕ)) → Program
    → Words → Moment → (told w' : Option (List ℕ)) → (after : PoolSide) → Type 0
ServesOkFrom (Ok end) left left' program super x told w' after =
    ServingEnds end left left' (AllMeant program super x after.held.device w' after.steps told)
    (PartMeant program super x after.held.device w' after.steps told)
ServesOkFrom (Err why) left left' program super x told w' after = ⊥

-- a new pool whose file was made
abbrev pub MadeMeantTo : Result Served StartFault → (left left' : Option (List ℕ)) → Program
    → Device → (w w' : Option (List ℕ)) → Device → (k k' : ℕ) → Type 0
MadeMeantTo (Ok end) left left' program b w w' d' k k' =
    NewMeantTo end left left' program b w w' d' k k'
MadeMeantTo (Err why) left left' program b w w' d' k k' = ⊥

-- lines are answered from this moment on
abbrev pub LinesMeantTo : (left left' : Option (List ℕ)) → Program → Words → Moment → Status
    → (told : Option (List ℕ)) → (after : PoolSide) → Type 0
LinesMeantTo left left' program super x result told after =
    Concludes (λ r w. ServesOkFrom r left left' program super x told w after) result after

-- serving ends at the opening of the pool of these words
abbrev pub OpeningMeantTo : Result Served StartFault → Program → List ℤ → (w w' : Option (List ℕ))
    → (d d' : Device) → (k k' : ℕ) → Type 0
OpeningMeantTo (Ok end) program words w w' d d' k k' =
    (a : Answer) × (x : Moment) × OpenStep program words d k a x × EndsFirst end (ended_text a) w w'
    × (d' ≡ x.device) × (k' ≡ x.steps)
OpeningMeantTo (Err why) program words w w' d d' k k' = Unopened program words why w w' d d' k k'

-- A pool of the former program is served: serving ends at its opening; or the opening is answered,
-- and the pool is moved, or isn't.
abbrev pub MovedMeantTo : (left left' : Option (List ℕ)) → (former new : Program) → List ℤ → Status
    → (before after : PoolSide) → Type 0
MovedMeantTo left left' former new words result before after =
    Concludes (λ r w. OpeningMeantTo r former words before.out w before.held.device
    after.held.device before.steps after.steps) result after
    ⊎ ((a : Answer) × (x : Moment) × (told : Option (List ℕ))
    × OpenStep former words before.held.device before.steps a x
    × Appends before.out told (ended_text a)
    × MovesOn (λ super y. LinesMeantTo left left' new super y result told after) former new
    (image_words words) x result told after)

-- What serving the pool of a file means: the program is refused, and this is reported; or lines are
-- served on the pool, which is taken from the file or made as for a run.
abbrev pub ServeFileMeant : Asked → (moves : Bool) → Sources → Status → (before after : PoolSide)
    → Type 0
ServeFileMeant asked moves told result before after =
    ((why : Refused) × ProgramRefuses told.program why
    × RefusedAs why result before.out after.out × IsUnrun before after)
    ⊎ ((compiled : Compiled) × OfBytes told.program (λ text. IsCompiled asked text compiled)
    × RunsFile (TakesIf moves asked told.former
    (λ words. Concludes (λ r w. OpenMeantTo r told.script told.rest compiled.program
    words before.out w before.held.device after.held.device before.steps after.steps) result after)
    (λ old words. MovedMeantTo told.script told.rest old.program compiled.program words result
    before after)
    compiled.program told.image result before after)
    (λ b. Concludes (λ r w. MadeMeantTo r told.script told.rest compiled.program b before.out w
    after.held.device before.steps after.steps) result after)
    compiled.program result before after)
