-- A call and a return.
use Rattle.std.proofs.Common.{◌≡◌, ℕ, suc, ℤ, Bool, true, false, if◌then◌else◌, nat_lt, List, []}
use Rattle.std.proofs.Common.{◌∷◌, map, length, Option, None, Some, refl, ap, subst}
use Rattle.pool_map.specs.declared.trap.TrapKind.TheVariants as trap
use Rattle.pool_map.specs.PoolMap.{PoolMap}
use Rattle.ir.specs.declared.instruction.Instruction.TheVariants.{Call}
use Rattle.ir.specs.declared.function.IrFunction.{IrFunction}
use Rattle.ir.specs.declared.function.Ir.{Ir}
use Rattle.ir.specs.declared.site.Site.{Site}
use Rattle.ir.specs.Places.{instruction_at, CallsAt, ReturnsAt}
use Rattle.ir.specs.WellFormed.{IsWellFormed}
use Rattle.ir.specs.Walk as walk
use Rattle.ir.specs.Walk.{Kept, Open, Comes, facts_at_entry, given_back}
use Rattle.ir.specs.Walk.WalkStep.{enters, returns}
use Rattle.code_meaning.specs.Code as code
use Rattle.code_meaning.specs.Code.{CodeState, Here, Frame, frame, Move, Goes, Ends, Trapped, Spot}
use Rattle.code_meaning.specs.Code.{register_at, put_register, opens, open_limit}
use Rattle.code_meaning.specs.Deeds.{Deed, deeds_on}
use Rattle.code_meaning.specs.Parameters.{KeepsParameters}
use Rattle.log_law.proofs.covered.Spots.{Sure}
use Rattle.log_law.proofs.covered.Knowing.{known_on}
use Rattle.log_law.proofs.covered.Pools.{same_leaves}
use Rattle.log_law.proofs.covered.Registers.{at_map}
use Rattle.log_law.proofs.covered.Frames.{sure_entered, sure_back, opens_put}
use Rattle.log_law.proofs.covered.Moments.{Agrees, Covers, Later, comes_on, passing}

module _ (ir : Ir) (well : IsWellFormed ir) (keeps : KeepsParameters ir.functions) (u : Spot)
    (a : Site) (d : CodeState → List Deed) (later : Later ir u a d) where
  -- a return goes on after the innermost call
  returned : (f p : ℕ) (regs : List ℤ) (w : PoolMap) (t : ℕ) (k : Kept) (v : ℤ) (g q : ℕ)
      (old : List ℤ) (to : ℕ) (below : List Frame) (c : Open) (calls : List Open)
      → Comes ir.functions (walk.at f p k (c ∷ calls)) → ReturnsAt ir.functions f p
      → Agrees ir u f regs (frame g q old to ∷ below) w k (c ∷ calls)
      → Covers ir u a (d (Here g q (put_register old to v) below w t)) w k
  returned f p regs w t k v g q old to below c calls comes ret agrees =
      let o = agrees.2 in
      let kept : Kept = given_back c.to c.args c.kept k in
      let came : Comes ir.functions (walk.at c.function (suc c.place) kept calls) =
      comes_on ir.functions (walk.at f p k (c ∷ calls))
      (walk.at c.function (suc c.place) kept calls) comes (returns ret) in
      let came_to : Comes ir.functions (walk.at g q kept calls) =
      subst (λ r. Comes ir.functions (walk.at g r kept calls)) o.1
      (subst (λ h. Comes ir.functions (walk.at h (suc c.place) kept calls)) o.0 came) in
      let call : instruction_at ir.functions g c.place ≡ Some (Call c.to f c.args) =
      subst (λ h. instruction_at ir.functions h c.place ≡ Some (Call c.to f c.args)) o.0 o.3 in
      let sure : Sure ir.shapes u w (put_register old to v) kept.written =
      subst (λ r. Sure ir.shapes u w (put_register old r v) kept.written) o.2
      (sure_back ir.shapes u w regs old c.to v c.args c.kept k o.4 agrees.0 o.5) in
      passing ir u a (d (Here g q (put_register old to v) below w t)) w w k kept
      (known_on ir.shapes u w w k kept
      (record { root = λ x h. h; field = λ s x h. h; freed = λ h. h }) (λ s h. h)
      (same_leaves ir.shapes u w kept.freed))
      (later g q (put_register old to v) below w t kept calls came_to (
        sure,
        agrees.1,
        opens_put ir well keeps u w g c.place (Call c.to f c.args) to old v below
            calls call (ap Some o.2) o.6,
      ))

  pub return_covers : (f p : ℕ) (regs : List ℤ) (below : List Frame) (w : PoolMap) (t : ℕ)
      (k : Kept) (v : ℤ) (calls : List Open)
      → Comes ir.functions (walk.at f p k calls) → ReturnsAt ir.functions f p
      → Agrees ir u f regs below w k calls
      → Covers ir u a (deeds_on d (code.gives below v w t)) w k
  return_covers f p regs [] w t k v calls comes ret agrees = λ known first. absurd first
  return_covers f p regs (frame g q old to ∷ below) w t k v [] comes ret agrees = absurd agrees.2
  return_covers f p regs (frame g q old to ∷ below) w t k v (c ∷ calls) comes ret agrees =
      returned f p regs w t k v g q old to below c calls comes ret agrees

  module _ (f p : ℕ) (regs : List ℤ) (below : List Frame) (w : PoolMap) (t : ℕ) (k : Kept)
      (calls : List Open)
      (comes : Comes ir.functions (walk.at f p k calls))
      (agrees : Agrees ir u f regs below w k calls)
      (to g : ℕ) (args : List ℕ) (call : CallsAt ir.functions f p to g args) where
    room : (b : Bool) → Covers ir u a
        (deeds_on d (if b then Goes (Here g 0 (map (register_at regs) args)
        (frame f (suc p) regs to ∷ below) w t) else Ends (Trapped trap.Depth))) w k
    room false = λ known first. absurd first
    room true =
        let opened : Open = record { function = f; place = p; to = to; args = args; kept = k } in
        passing ir u a (d (Here g 0 (map (register_at regs) args) (frame f (suc p) regs to ∷ below)
        w t)) w w k (facts_at_entry args k)
        (known_on ir.shapes u w w k (facts_at_entry args k)
        (record { root = λ x h. h; field = λ s x h. h; freed = λ h. h }) (λ s h. h)
        (same_leaves ir.shapes u w k.freed))
        (later g 0 (map (register_at regs) args) (frame f (suc p) regs to ∷ below) w t
        (facts_at_entry args k) (opened ∷ calls)
        (comes_on ir.functions (walk.at f p k calls)
        (walk.at g 0 (facts_at_entry args k) (opened ∷ calls)) comes (enters call)) (
          sure_entered ir.shapes u w regs args k agrees.0,
          agrees.1,
          (refl, refl, refl, call, λ j b e. at_map regs args j b e, agrees.0, agrees.2),
        ))

    pub call_covers : (o : Option IrFunction)
        → Covers ir u a (deeds_on d (opens o g (map (register_at regs) args)
        (frame f (suc p) regs to ∷ below) w t)) w k
    call_covers None = λ known first. absurd first
    call_covers (Some v) = room (nat_lt (length (frame f (suc p) regs to ∷ below)) open_limit)
