-- Tables of facts about one class that are closed under the steps of walks. A table may record more
-- facts than walks have, but never fewer.
use Rattle.std.specs.Prelude.{◌≡◌, ℕ, suc, Bool, true, List, Some}
use Rattle.ir.specs.declared.function.IrFunction.{IrFunction}
use Rattle.ir.specs.declared.instruction.Instruction.{Instruction}
use Rattle.ir.specs.declared.fact.Fact.{Fact}
use Rattle.ir.specs.declared.fact.Fact.TheVariants.{Here}
use Rattle.ir.specs.declared.fact.Back.TheVariants.{FromReturn, Stays}
use Rattle.ir.specs.Places.{instruction_at, IsTransaction, Leads, CallsAt, ReturnsAt}
use Rattle.ir.specs.Walk.{at_start}
use Rattle.ir.specs.Table.{holds, AmongOrigins, origins, at_call, back}
use Rattle.ir.specs.Derived.{Passes}
use Rattle.clobber_pass.specs.inside.Class.{Class}
use Rattle.clobber_pass.specs.inside.Told.{Matters}
use Rattle.clobber_pass.specs.inside.Calling.{IsCalled}

-- What is recorded at the places of the function f is closed under each step within f. `pass g x y`
-- says that the fact x at the entry of g may give y at a return of g.
pub record StaysTold (functions : List IrFunction) (class : Class) (pass : ℕ → Fact → Fact → Bool)
    (f : ℕ) (told : ℕ → Fact → Bool) : Type 0 where
  pub along : (p q : ℕ) (i : Instruction) (a b : Fact) → instruction_at functions f p ≡ Some i
      → Leads i p q → AmongOrigins a (origins i b) → Matters functions class f b → told p a ≡ true
      → told q b ≡ true
  pub through : (p g to : ℕ) (args : List ℕ) (x y b : Fact) → CallsAt functions f p to g args
      → Matters functions class g x → Matters functions class f b → pass g x y ≡ true
      → back to args b ≡ FromReturn y → told p (at_call args x) ≡ true → told (suc p) b ≡ true
  pub past : (p g to : ℕ) (args : List ℕ) (b : Fact) → CallsAt functions f p to g args
      → Matters functions class f b → pass g Here Here ≡ true → back to args b ≡ Stays
      → told p b ≡ true → told (suc p) b ≡ true

-- what is recorded of each called function, from each fact at its entry, and what is recorded to
-- pass through it
pub record TellsPasses (functions : List IrFunction) (class : Class) (pass : ℕ → Fact → Fact → Bool)
    (told : (f : ℕ) → IsCalled functions f → Fact → ℕ → Fact → Bool) : Type 0 where
  pub begins : (f : ℕ) (c : IsCalled functions f) (e : Fact) → Matters functions class f e
      → told f c e 0 e ≡ true
  pub stays : (f : ℕ) (c : IsCalled functions f) (e : Fact) → Matters functions class f e
      → StaysTold functions class pass f (told f c e)
  pub ends : (f : ℕ) (c : IsCalled functions f) (q : ℕ) (e y : Fact) → Matters functions class f e
      → Matters functions class f y → ReturnsAt functions f q → told f c e q y ≡ true
      → pass f e y ≡ true

-- everything that passes through a called function is recorded
abbrev pub AllPass : List IrFunction → Class → (ℕ → Fact → Fact → Bool) → Type 0
AllPass functions class pass = (f q : ℕ) (e y : Fact) → IsCalled functions f
    → Matters functions class f y → Passes functions f 0 e q y → ReturnsAt functions f q
    → pass f e y ≡ true

-- what is recorded at each place, over all walks
pub record TellsFlows (functions : List IrFunction) (class : Class) (pass : ℕ → Fact → Fact → Bool)
    (told : ℕ → ℕ → Fact → Bool) : Type 0 where
  pub begins : (f : ℕ) (e : Fact) → Matters functions class f e → IsTransaction functions f
      → holds at_start e ≡ true → told f 0 e ≡ true
  pub enters : (f p g to : ℕ) (args : List ℕ) (x : Fact) → CallsAt functions f p to g args
      → Matters functions class g x → told f p (at_call args x) ≡ true → told g 0 x ≡ true
  pub stays : (f : ℕ) → StaysTold functions class pass f (told f)
