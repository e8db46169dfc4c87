-- A table that is closed backward and has no start has no flow.
use Rattle.std.proofs.Common.{◌≡◌, ℕ, suc, true, List, Some}
use Rattle.ir.specs.declared.instruction.Instruction.{Instruction}
use Rattle.ir.specs.declared.function.IrFunction.{IrFunction}
use Rattle.ir.specs.declared.fact.Fact.{Fact}
use Rattle.ir.specs.declared.fact.Fact.TheVariants.{Here}
use Rattle.ir.specs.declared.fact.Back.TheVariants.{FromReturn, Stays}
use Rattle.ir.specs.Places.{instruction_at, IsTransaction, Leads, CallsAt, ReturnsAt}
use Rattle.ir.specs.Walk.{at_start}
use Rattle.ir.specs.Table.{holds, AmongOrigins, origins, at_call, back}
use Rattle.ir.specs.Derived.{Passes, Flows}
use Rattle.ir.specs.Derived.Passes.{starts, along, through, past}
use Rattle.ir.specs.Derived.Flows.{first, called, on, across, beside}
use Rattle.walk_maker.specs.declared.table.Aim.{Aim}
use Rattle.walk_maker.specs.declared.table.Aim.TheVariants.{ToSite, ToReturn}

module _ (functions : List IrFunction) (Has : Aim → ℕ → ℕ → Fact → Type 0) where
  -- with a spot the table has all spots from which a walk comes to it
  pub record IsClosed : Type 0 where
    pub before : (a : Aim) (f p q : ℕ) (i : Instruction) (x b : Fact) → Has a f q b
        → instruction_at functions f p ≡ Some i → Leads i p q → AmongOrigins x (origins i b)
        → Has a f p x
    pub at_return : (a : Aim) (f p g q to : ℕ) (args : List ℕ) (y b : Fact) → Has a f (suc p) b
        → CallsAt functions f p to g args → ReturnsAt functions g q
        → back to args b ≡ FromReturn y → Has (ToReturn y) g q y
    pub at_stay : (a : Aim) (f p g q to : ℕ) (args : List ℕ) (b : Fact) → Has a f (suc p) b
        → CallsAt functions f p to g args → ReturnsAt functions g q
        → back to args b ≡ Stays → Has (ToReturn Here) g q Here
    pub through_call : (a : Aim) (f p g to : ℕ) (args : List ℕ) (x y b : Fact)
        → Has a f (suc p) b → CallsAt functions f p to g args
        → back to args b ≡ FromReturn y → Has (ToReturn y) g 0 x → Has a f p (at_call args x)
    pub past_call : (a : Aim) (f p g to : ℕ) (args : List ℕ) (b : Fact) → Has a f (suc p) b
        → CallsAt functions f p to g args → back to args b ≡ Stays
        → Has (ToReturn Here) g 0 Here → Has a f p b
    pub at_caller : (f p g to : ℕ) (args : List ℕ) (x : Fact) → Has ToSite g 0 x
        → CallsAt functions f p to g args → Has ToSite f p (at_call args x)
    pub no_start : (f : ℕ) (e : Fact) → IsTransaction functions f → holds at_start e ≡ true
        → Has ToSite f 0 e → ⊥

  module _ (c : IsClosed) where
    passes_had : {f o p : ℕ} {e b : Fact} (a : Aim) → Passes functions f o e p b → Has a f p b
        → Has a f o e
    passes_had a starts h = h
    passes_had a (along {f = f} {p = p} {q = q} {a = x} {b = b} i d is to m) h =
        passes_had a d (c.before a f p q i x b h is to m)
    passes_had a (through {f = f} {p = p} {g = g} {q = q} {to = to} {args = args} {x = x}
        {y = y} {b = b} d call r ret same) h =
        let inner =
        passes_had (ToReturn y) r (c.at_return a f p g q to args y b h call ret same) in
        passes_had a d (c.through_call a f p g to args x y b h call same inner)
    passes_had a (past {f = f} {p = p} {g = g} {q = q} {to = to} {args = args} {b = b} d call r
        ret same) h =
        let inner =
        passes_had (ToReturn Here) r (c.at_stay a f p g q to args b h call ret same) in
        passes_had a d (c.past_call a f p g to args b h call same inner)

    pub none_flows : {f p : ℕ} {b : Fact} → Flows functions f p b → Has ToSite f p b → ⊥
    none_flows (first {f = f} {e = e} t h) has = c.no_start f e t h has
    none_flows (called {f = f} {p = p} {g = g} {to = to} {args = args} {x = x} d call) has =
        none_flows d (c.at_caller f p g to args x has call)
    none_flows (on {f = f} {p = p} {q = q} {a = x} {b = b} i d is to m) has =
        none_flows d (c.before ToSite f p q i x b has is to m)
    none_flows (across {f = f} {p = p} {g = g} {q = q} {to = to} {args = args} {x = x} {y = y}
        {b = b} d call r ret same) has =
        let inner =
        passes_had (ToReturn y) r (c.at_return ToSite f p g q to args y b has call ret same) in
        none_flows d (c.through_call ToSite f p g to args x y b has call same inner)
    none_flows (beside {f = f} {p = p} {g = g} {q = q} {to = to} {args = args} {b = b} d call r
        ret same) has =
        let inner =
        passes_had (ToReturn Here) r (c.at_stay ToSite f p g q to args b has call ret same) in
        none_flows d (c.past_call ToSite f p g to args b has call same inner)
