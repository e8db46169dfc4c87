-- The same facts as those of whole walks, derived one call at a time: what a called function
-- brings about is derived once, and used at each call.
use Rattle.std.specs.Prelude.{◌≡◌, ℕ, suc, true, List, Some}
use Rattle.ir.specs.declared.function.IrFunction.{IrFunction}
use Rattle.ir.specs.declared.instruction.Instruction.{Instruction}
use Rattle.ir.specs.declared.fact.Fact.{Fact}
use Rattle.ir.specs.declared.fact.Fact.TheVariants.{Here}
use Rattle.ir.specs.declared.fact.Back.TheVariants.{FromReturn, Stays}
use Rattle.ir.specs.Places.{instruction_at, IsTransaction, Leads, CallsAt, ReturnsAt}
use Rattle.ir.specs.Walk.{at_start}
use Rattle.ir.specs.Table.{holds, AmongOrigins, origins, at_call, back}

-- Within one call of a function f: the fact e at place o gives the fact b at place p. A call on the
-- way is passed by a derivation from the called function's entry to one of its returns. From place
-- 0 this is the summary of f.
pub data Passes (functions : List IrFunction) : ℕ → ℕ → Fact → ℕ → Fact → Type 0 where
  starts : {f o : ℕ} {e : Fact} → Passes functions f o e o e
  along : {f o p q : ℕ} {e a b : Fact} (i : Instruction) → Passes functions f o e p a
      → instruction_at functions f p ≡ Some i → Leads i p q → AmongOrigins a (origins i b)
      → Passes functions f o e q b
  through : {f o p g q to : ℕ} {args : List ℕ} {e x y b : Fact}
      → Passes functions f o e p (at_call args x) → CallsAt functions f p to g args
      → Passes functions g 0 x q y → ReturnsAt functions g q → back to args b ≡ FromReturn y
      → Passes functions f o e (suc p) b
  past : {f o p g q to : ℕ} {args : List ℕ} {e b : Fact} → Passes functions f o e p b
      → CallsAt functions f p to g args → Passes functions g 0 Here q Here → ReturnsAt functions g q
      → back to args b ≡ Stays → Passes functions f o e (suc p) b

-- The flows: a fact at a place, over all walks from transactions. Calls are passed by summaries,
-- and entered.
pub data Flows (functions : List IrFunction) : ℕ → ℕ → Fact → Type 0 where
  first : {f : ℕ} {e : Fact} → IsTransaction functions f → holds at_start e ≡ true
      → Flows functions f 0 e
  called : {f p g to : ℕ} {args : List ℕ} {x : Fact} → Flows functions f p (at_call args x)
      → CallsAt functions f p to g args → Flows functions g 0 x
  on : {f p q : ℕ} {a b : Fact} (i : Instruction) → Flows functions f p a
      → instruction_at functions f p ≡ Some i → Leads i p q → AmongOrigins a (origins i b)
      → Flows functions f q b
  across : {f p g q to : ℕ} {args : List ℕ} {x y b : Fact} → Flows functions f p (at_call args x)
      → CallsAt functions f p to g args → Passes functions g 0 x q y → ReturnsAt functions g q
      → back to args b ≡ FromReturn y → Flows functions f (suc p) b
  beside : {f p g q to : ℕ} {args : List ℕ} {b : Fact} → Flows functions f p b
      → CallsAt functions f p to g args → Passes functions g 0 Here q Here → ReturnsAt functions g q
      → back to args b ≡ Stays → Flows functions f (suc p) b
