-- How serving ends, as the bodies promise it.
use Rattle.std.specs.Prelude.{ℕ, ℤ, List, Option, Result, Ok, Err, ◌≡◌, ◌⊎◌, Bool}
use Rattle.pmem.specs.Device.{Device}
use Rattle.file_pmem.specs.File.{FileLines}
use Rattle.cnvm_session.specs.declared.creating.StartFault.{StartFault}
use Rattle.cnvm_session.specs.declared.program.Program.{Program}
use Rattle.session_run.specs.declared.status.Status.{Status}
use Rattle.session_serve.specs.declared.serving.Served.{Served}
use Rattle.file_pmem.specs.declared.link.MirrorState.TheVariants.{Awake}
use Rattle.cnvm_session.specs.declared.mode.Mode.{Mode}
use Rattle.session_serve.specs.Begins.{NewServed, CreatedServed, OpenedServed, OpensTold}
use Rattle.session_serve.specs.Begins.{OpeningEnds}
use Rattle.session_serve.specs.Serves.{ServingEnds, ServesTo, ServesPart}
use Rattle.cnvm_cli.specs.declared.former.FormerPool.{FormerPool}
use Rattle.cnvm_cli.specs.Former.{TakesEither, TakesIf}
use Rattle.cnvm_cli.specs.inside.FormerEnds.{MovesAs, TakesWords, TakesPool}
use Rattle.cnvm_compile.specs.declared.asked.Asked.{Asked}
use Rattle.cnvm_compile.specs.declared.compiling.Compiled.{Compiled}
use Rattle.cnvm_compile.specs.Compilation.{IsCompiled}
use Rattle.cnvm_cli.specs.declared.refused.Refused.{Refused}
use Rattle.cnvm_cli.specs.PoolSide.{PoolSide, IsUnrun, RunsFile, TakesFile, MakesPool}
use Rattle.cnvm_cli.specs.Run.{RefusedAs}
use Rattle.cnvm_cli.specs.Serve.{StatusOf, IsNeverGivenUp, Concludes}
use Rattle.cnvm_cli.specs.Verdict.{OfBytes, ProgramRefuses}
use Rattle.cnvm_cli.specs.World.{Sources}

abbrev pub MemoryEnds : Asked → Sources → Status → (w w' : Option (List ℕ)) → (d d' : Device)
    → (k k' : ℕ) → Type 0
MemoryEnds asked told result w w' d d' k k' =
    ((why : Refused) × ProgramRefuses told.program why × RefusedAs why result w w' × (d' ≡ d)
    × (k' ≡ k))
    ⊎ ((compiled : Compiled) × OfBytes told.program (λ text. IsCompiled asked text compiled)
    × (r : Result Served StartFault) × (v : Option (List ℕ)) × StatusOf r result v w'
    × IsNeverGivenUp r × CreatedServed r told.script told.rest compiled.program d w k d' v k')

-- a new pool whose file was made
abbrev pub MadeServed : Result Served StartFault → (left left' : Option (List ℕ)) → Program
    → Device → Option (List ℕ) → (k : ℕ) → Device → Option (List ℕ) → (k' : ℕ) → Type 0
MadeServed (Ok end) left left' program b w k d' w' k' =
    NewServed end left left' program b w k d' w' k'
MadeServed (Err why) left left' program b w k d' w' k' = ⊥

abbrev pub ServesOn : (left left' : Option (List ℕ)) → Program → Status
    → (before after : PoolSide) → List ℤ → Type 0
ServesOn left left' program result before after words =
    Concludes (λ r w. OpenedServed r left left' program words before.held.device before.out
    before.steps after.held.device w after.steps) result after

abbrev pub ServesNew : (left left' : Option (List ℕ)) → Program → Status
    → (before after : PoolSide) → Device → Type 0
ServesNew left left' program result before after b =
    Concludes (λ r w. MadeServed r left left' program b before.out before.steps after.held.device
    w after.steps) result after

abbrev pub ServeMissing : Program → (left left' : Option (List ℕ)) → Status
    → (before after : PoolSide) → Type 0
ServeMissing program left left' result before after =
    MakesPool (ServesNew left left' program result before after) program result before after

abbrev pub ServeImage : Program → (left left' image : Option (List ℕ))
    → (shown : Option FileLines) → Status → (before after : PoolSide) → Type 0
ServeImage program left left' image shown result before after =
    TakesFile (ServesOn left left' program result before after) program image shown result before
    after

-- a file is held that shows this, and these are the words of its image
abbrev pub ServeWords : Program → (left left' : Option (List ℕ)) → List ℤ
    → (shown : Option FileLines) → Status → (before after : PoolSide) → Type 0
ServeWords program left left' words shown result before after =
    TakesWords (ServesOn left left' program result before after) program words shown result before
    after

-- lines are answered from this mode on this device
abbrev pub ServesFrom : Result Served StartFault → (left left' : Option (List ℕ)) → Program → Mode
    → Device → (told : Option (List ℕ)) → (k : ℕ) → (d' : Device) → (w : Option (List ℕ))
    → (k' : ℕ) → Type 0
ServesFrom (Ok end) left left' program m d told k d' w k' =
    ServingEnds end left left' (ServesTo program m d told k d' w k')
    (ServesPart program m d told k d' w k')
ServesFrom (Err why) left left' program m d told k d' w k' = ⊥

-- an opened pool of the former program is moved, or isn't, and served
abbrev pub ServesMoved : (left left' : Option (List ℕ)) → (former new : Program) → Status
    → (before after : PoolSide) → List ℤ → Type 0
ServesMoved left left' former new result before after words =
    Concludes (λ r w. OpeningEnds r former words before.out w before.held.device
    after.held.device before.steps after.steps) result after
    ⊎ ((m : Mode) × (d : Device) × (k : ℕ) × (told : Option (List ℕ))
    × OpensTold former words m Awake before.out told before.held.device d before.steps k
    × MovesAs (λ b. Concludes (λ r w. ServesFrom r left left' new m b told k after.held.device w
    after.steps) result after) former new m d k result told after)

abbrev pub ServeMoved : (new : Program) → FormerPool → (left left' : Option (List ℕ))
    → (shown : Option FileLines) → Status → (before after : PoolSide) → Type 0
ServeMoved new pool left left' shown result before after =
    TakesPool (ServesMoved left left' pool.compiled.program new result before after) pool shown
    result before after

abbrev pub ServeEither : Asked → Program → (left left' former image : Option (List ℕ))
    → (shown : Option FileLines) → Status → (before after : PoolSide) → Type 0
ServeEither asked program left left' former image shown result before after =
    TakesEither asked former (ServesOn left left' program result before after)
    (λ old. ServesMoved left left' old.program program result before after) program image shown
    result before after

abbrev pub ServeFound : Asked → (moves : Bool) → Program
    → (left left' former image : Option (List ℕ)) → Status → (before after : PoolSide) → Type 0
ServeFound asked moves program left left' former image result before after =
    RunsFile (TakesIf moves asked former (ServesOn left left' program result before after)
    (λ old. ServesMoved left left' old.program program result before after) program image result
    before after) (ServesNew left left' program result before after) program result before after

abbrev pub ServeEnds : Asked → (moves : Bool) → Sources → Status → (before after : PoolSide)
    → Type 0
ServeEnds asked moves told result before after =
    ((why : Refused) × ProgramRefuses told.program why
    × RefusedAs why result before.out after.out × IsUnrun before after)
    ⊎ ((compiled : Compiled) × OfBytes told.program (λ text. IsCompiled asked text compiled)
    × ServeFound asked moves compiled.program told.script told.rest told.former told.image result
    before after)
