-- Which function calls which, and which functions have to be swept again since what a called
-- function's returns have grew.
use Rattle.std.specs.Prelude.{◌≡◌, ◌==◌, ◌+◌, ◌<◌, ℕ, Bool, true, false, List, [], ◌∷◌, ◌++◌}
use Rattle.std.specs.Prelude.{length}
use Rattle.std.specs.Prelude.{slice_set, if◌then◌else◌}
use Rattle.ir.specs.declared.function.IrFunction.{IrFunction}
use Rattle.ir.specs.declared.instruction.Instruction.{Instruction}
use Rattle.ir.specs.declared.instruction.Instruction.TheVariants.{Call}
use Rattle.ir.specs.Places.{CallsAt}
use Rattle.clobber_pass.specs.declared.topic.Topic.{Topic}
use Rattle.clobber_pass.specs.declared.calling.Edge.{Edge}
use Rattle.clobber_pass.specs.inside.Told.{parameters_at}
use Rattle.clobber_pass.specs.inside.Sweep.{exits_of}
use Rattle.clobber_pass.specs.Sweep.{row_in}
use Rattle.clobber_pass.specs.inside.Closed.{AllColumns, Ended, ShapedExits, Within}
use Rattle.clobber_pass.specs.inside.Sound.{SoundExits}
use Rattle.clobber_pass.specs.inside.Flow.{waits}

-- some call is to this function
abbrev pub IsCalled : List IrFunction → ℕ → Type 0
IsCalled functions g = (f : ℕ) × (p : ℕ) × (to : ℕ) × (args : List ℕ)
    × CallsAt functions f p to g args

-- what each called function's exits record is closed under its code
abbrev pub CalledEnded : List IrFunction → Topic → List (List (List ℕ)) → Type 0
CalledEnded functions topic exits = (g : ℕ) → IsCalled functions g
    → AllColumns functions topic exits g

-- the calls of an instruction of function f, of a code, and of the functions from f on
abbrev pub edges_at : ℕ → Instruction → List Edge
edges_at f (Call to g args) = record { caller = f; called = g } ∷ []
edges_at f _ = []

abbrev pub edges_in : ℕ → List Instruction → List Edge
edges_in f [] = []
edges_in f (i ∷ is) = edges_at f i ++ edges_in f is

abbrev pub edges_from : ℕ → List IrFunction → List Edge
edges_from f [] = []
edges_from f (u ∷ us) = edges_in f u.code ++ edges_from (f + 1) us

-- each function that calls this one has to be swept again
abbrev pub woken : List Edge → ℕ → List Bool → List Bool
woken [] g waiting = waiting
woken (e ∷ es) g waiting = woken es g (if e.called == g then slice_set waiting e.caller true
    else waiting)

-- each function that is called has to be swept again
abbrev pub all_called : List Edge → List Bool → List Bool
all_called [] waiting = waiting
all_called (e ∷ es) waiting = all_called es (slice_set waiting e.called true)

-- the exits of all other functions are as they were, and this one's record all that they recorded
pub record Apart (f : ℕ) (exits new : List (List (List ℕ))) : Type 0 where
  pub same : (h : ℕ) → (h ≡ f → ⊥) → exits_of new h ≡ exits_of exits h
  pub keeps : (c : ℕ) → Within (row_in (exits_of exits f) c) (row_in (exits_of new f) c)

-- no call of the function is to itself
abbrev pub CallsOthers : List IrFunction → ℕ → Type 0
CallsOthers functions f = (p to : ℕ) (args : List ℕ) → CallsAt functions f p to f args → ⊥

-- for one column: what the function's exits record is closed, if it doesn't call itself
pub record EndedAlone (functions : List IrFunction) (topic : Topic) (exits : List (List (List ℕ)))
    (f c : ℕ) : Type 0 where
  pub ends : CallsOthers functions f → Ended functions topic exits f c

abbrev pub ColumnsAlone : List IrFunction → Topic → List (List (List ℕ)) → ℕ → Type 0
ColumnsAlone functions topic exits f = (c : ℕ) → c < parameters_at functions f + 2
    → EndedAlone functions topic exits f c

-- what is kept of the exits, and of the functions that have to be swept again
pub record Passing (functions : List IrFunction) (topic : Topic) (exits : List (List (List ℕ)))
    (waiting : List Bool) : Type 0 where
  pub shaped : ShapedExits functions topic exits
  pub sound : SoundExits functions topic exits
  pub size : length waiting ≡ length functions
  pub settled : (g : ℕ) → waits waiting g ≡ false → IsCalled functions g
      → AllColumns functions topic exits g
