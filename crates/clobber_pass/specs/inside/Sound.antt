-- What is recorded of returns is derived.
use Rattle.std.specs.Prelude.{◌≡◌, ◌<◌, ℕ, true, List}
use Rattle.ir.specs.declared.function.IrFunction.{IrFunction}
use Rattle.ir.specs.declared.fact.Fact.{Fact}
use Rattle.ir.specs.Places.{ReturnsAt}
use Rattle.ir.specs.Derived.{Passes}
use Rattle.clobber_pass.specs.declared.topic.Topic.{Topic}
use Rattle.clobber_pass.specs.inside.Class.{Class, class_at, is_about, slot}
use Rattle.clobber_pass.specs.Row.{has_bit}
use Rattle.clobber_pass.specs.inside.Told.{column, parameters_at}
use Rattle.clobber_pass.specs.inside.Sweep.{exits_of, exit}
use Rattle.clobber_pass.specs.declared.topic.TheConstants.{TOPIC_FIELDS}

-- some fact of a column at the entry of g gives this one at a return
abbrev pub Backed : List IrFunction → Class → ℕ → ℕ → Fact → Type 0
Backed functions class g c y = (e : Fact) × (q : ℕ) × (is_about class e ≡ true)
    × (column (parameters_at functions g) e ≡ c) × Passes functions g 0 e q y
    × ReturnsAt functions g q

-- for each of a topic's bits
pub record SoundExits (functions : List IrFunction) (topic : Topic) (exits : List (List (List ℕ))) :
    Type 0 where
  pub backed : (x g c : ℕ) (y : Fact) → x < TOPIC_FIELDS → is_about (class_at topic x) y ≡ true
      → has_bit x (exit (exits_of exits g) c (slot y)) ≡ true
      → Backed functions (class_at topic x) g c y
