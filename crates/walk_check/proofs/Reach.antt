-- The places of one function that a fact reaches: over all walks, or from a fact at the entry.
use Rattle.std.proofs.Common.{◌≡◌, ◌≤◌, ℕ, suc, Bool, true, false, List, Some, None, refl, ap, inl}
use Rattle.std.proofs.Common.{inr}
use Rattle.std.specs.Prelude.{◌==◌, not, slice_get, if◌then◌else◌}
use Rattle.std.proofs.lemmas.Bool.{eqb-true}
use mathlib.Core.Logic.{◌⊎◌}
use Rattle.ir.specs.declared.instruction.Target.TheVariants.{Root, Field}
use Rattle.ir.specs.declared.instruction.Instruction.{Instruction}
use Rattle.ir.specs.declared.instruction.Instruction.TheVariants.{Load, Store}
use Rattle.ir.specs.declared.function.IrFunction.{IrFunction}
use Rattle.ir.specs.declared.function.Ir.{Ir}
use Rattle.ir.specs.declared.fact.Fact.{Fact}
use Rattle.ir.specs.declared.fact.Fact.TheVariants.{Here, Unwritten, RootUnwritten}
use Rattle.ir.specs.declared.fact.Origins.TheVariants.{Nowhere, One}
use Rattle.ir.specs.declared.fact.Back.TheVariants.{FromReturn, Stays}
use Rattle.ir.specs.Places.{instruction_at, Leads, CallsAt, ReturnsAt}
use Rattle.ir.specs.Walk.{Kept, facts_after, WalkSpot, at, WalkStep, Walk}
use Rattle.ir.specs.Walk.WalkStep.{goes, enters, returns}
use Rattle.ir.specs.Walk.Walk.{none, more}
use Rattle.ir.specs.Table.{AmongOrigins, origins, at_call, back}
use Rattle.ir.specs.Derived.{Passes, Flows}
use Rattle.ir.specs.Derived.Passes.{starts, along, through, past}
use Rattle.ir.specs.Derived.Flows.{on, across, beside}
use Rattle.ir.proofs.Law.{exact}
use Rattle.walk_check.proofs.Standing.{NeverWritten}

-- a root field that no store writes stays unwritten, along an instruction
root_stays : (ir : Ir) (f p x : ℕ) (i : Instruction) → NeverWritten ir x
    → instruction_at ir.functions f p ≡ Some i
    → AmongOrigins (RootUnwritten x) (origins i (RootUnwritten x))
root_stays ir f p x (Store (Root y None) from line) never is = other (x == y) refl
  where
    other : (t : Bool) → (x == y) ≡ t
        → AmongOrigins (RootUnwritten x) (if t then Nowhere else One (RootUnwritten x))
    other true same = let y_is : x ≡ y = eqb-true x y same in
        absurd (never f p from line (rw y_is is))
    other false same = refl
root_stays ir f p x (Store (Root y (Some i)) from line) never is = refl
root_stays ir f p x (Store (Field b s y i) from line) never is = refl
root_stays ir f p x _ never is = refl

-- .. and in each walk
abbrev RootKept : ℕ → WalkSpot → Type 0
RootKept x (at f p k calls) = k.root x ≡ false

root_after : (ir : Ir) (f p x : ℕ) (k : Kept) (i : Instruction) → NeverWritten ir x
    → instruction_at ir.functions f p ≡ Some i → k.root x ≡ false → (facts_after i k).root x ≡ false
root_after ir f p x k (Store (Root y None) from line) never is kept = other (x == y) refl
  where
    other : (t : Bool) → (x == y) ≡ t → (if t then true else k.root x) ≡ false
    other true same = let y_is : x ≡ y = eqb-true x y same in
        absurd (never f p from line (rw y_is is))
    other false same = kept
root_after ir f p x k (Store (Root y (Some i)) from line) never is kept = kept
root_after ir f p x k (Store (Field b s y None) from line) never is kept = kept
root_after ir f p x k (Store (Field b s y (Some i)) from line) never is kept = kept
root_after ir f p x k (Load to (Root y i)) never is kept = kept
root_after ir f p x k (Load to (Field b s y i)) never is kept = kept
root_after ir f p x k _ never is kept = kept

root_step : (ir : Ir) (x : ℕ) {a b : WalkSpot} → NeverWritten ir x → WalkStep ir.functions a b
    → RootKept x a → RootKept x b
root_step ir x never (goes {f = f} {p = p} {k = k} i is to) kept =
    root_after ir f p x k i never is kept
root_step ir x never (enters call) kept = kept
root_step ir x never (returns ret) kept = kept

root_walk : (ir : Ir) (x : ℕ) {a b : WalkSpot} → NeverWritten ir x → Walk ir.functions a b
    → RootKept x a → RootKept x b
root_walk ir x never none kept = kept
root_walk ir x never (more w s) kept = root_step ir x never s (root_walk ir x never w kept)

-- if a fact passes, then so do the fact that a walk is here, and the fact that a root field without
-- stores is unwritten
pub here_too : (functions : List IrFunction) {f o p : ℕ} {e b : Fact} → Passes functions f o e p b
    → Passes functions f o Here p Here
here_too functions starts = starts
here_too functions (along i d is to m) = along i (here_too functions d) is to refl
here_too functions (through d call r ret same) =
    through (here_too functions d) call (here_too functions r) ret refl
here_too functions (past d call r ret same) = through (here_too functions d) call r ret refl

root_too : (ir : Ir) (x : ℕ) {f o p : ℕ} {e b : Fact} → NeverWritten ir x
    → Passes ir.functions f o e p b → Passes ir.functions f o (RootUnwritten x) p (RootUnwritten x)
root_too ir x never starts = starts
root_too ir x never (along {f = f} {p = p} i d is to m) =
    along i (root_too ir x never d) is to (root_stays ir f p x i never is)
root_too ir x never (through d call r ret same) =
    through (root_too ir x never d) call (root_too ir x never r) ret refl
root_too ir x never (past d call r ret same) =
    through (root_too ir x never d) call (root_too ir x never r) ret refl

-- Where facts of f hold: they are closed under the rules of the table, and with a fact the weaker
-- ones hold too.
pub record Reach (ir : Ir) (f : ℕ) (At : ℕ → Fact → Type 0) : Type 0 where
  pub goes_on : (p q : ℕ) (i : Instruction) (a b : Fact)
      → instruction_at ir.functions f p ≡ Some i → Leads i p q
      → AmongOrigins a (origins i b) → At p a
      → At q b
  pub goes_through : (p g q to : ℕ) (args : List ℕ) (x y b : Fact)
      → CallsAt ir.functions f p to g args → At p (at_call args x) → Passes ir.functions g 0 x q y
      → ReturnsAt ir.functions g q → back to args b ≡ FromReturn y → At (suc p) b
  pub goes_past : (p g q to : ℕ) (args : List ℕ) (b : Fact) → CallsAt ir.functions f p to g args
      → At p b → Passes ir.functions g 0 Here q Here → ReturnsAt ir.functions g q
      → back to args b ≡ Stays → At (suc p) b
  pub is_here : (p : ℕ) (a : Fact) → At p a → At p Here
  pub is_root : (p x : ℕ) (a : Fact) → NeverWritten ir x → At p a → At p (RootUnwritten x)

-- the facts at each entry of a called function
abbrev pub Inner : Ir → ℕ → Fact → Type 0
Inner ir g (Unwritten r s x) =
    (u : IrFunction) × (slice_get ir.functions g ≡ Some u) × (u.parameters ≤ r)
Inner ir g _ = ⊥

abbrev pub NeverRoot : Ir → Fact → Type 0
NeverRoot ir (RootUnwritten x) = NeverWritten ir x
NeverRoot ir _ = ⊥

abbrev pub AtEntries : Ir → ℕ → Fact → Type 0
AtEntries ir g e = (e ≡ Here) ⊎ (Inner ir g e ⊎ NeverRoot ir e)

-- e is at the entry of g if a is
abbrev pub Enters : Ir → ℕ → (a e : Fact) → Type 0
Enters ir g a e = (e ≡ a) ⊎ AtEntries ir g e

-- over all walks
flow_root : (ir : Ir) (f p x : ℕ) (a : Fact) → NeverWritten ir x → Flows ir.functions f p a
    → Flows ir.functions f p (RootUnwritten x)
flow_root ir f p x a never d =
    let w = (exact ir.functions f p a).1 d in
    let kept : w.0.root x ≡ false = root_walk ir x never w.2.2 refl in
    (exact ir.functions f p (RootUnwritten x)).0 (w.0, w.1, w.2, ap not kept)

pub flow_here : (ir : Ir) (f p : ℕ) (a : Fact) → Flows ir.functions f p a
    → Flows ir.functions f p Here
flow_here ir f p a d =
    let w = (exact ir.functions f p a).1 d in
    (exact ir.functions f p Here).0 (w.0, w.1, w.2, refl)

pub flow_reach : (ir : Ir) (f : ℕ) → Reach ir f (Flows ir.functions f)
flow_reach ir f = record {
  goes_on = λ p q i a b is to m d. on i d is to m;
  goes_through = λ p g q to args x y b call d r ret same. across d call r ret same;
  goes_past = λ p g q to args b call d r ret same. beside d call r ret same;
  is_here = λ p a d. flow_here ir f p a d;
  is_root = λ p x a never d. flow_root ir f p x a never d;
}

-- from a fact at the entry
abbrev pub Passed : Ir → ℕ → Fact → ℕ → Fact → Type 0
Passed ir f a p b = (e : Fact) × Enters ir f a e × Passes ir.functions f 0 e p b

pub pass_reach : (ir : Ir) (f : ℕ) (a : Fact) → Reach ir f (Passed ir f a)
pass_reach ir f a = record {
  goes_on = λ p q i c b is to m d. (d.0, d.1, along i d.2 is to m);
  goes_through = λ p g q to args x y b call d r ret same. (d.0, d.1, through d.2 call r ret same);
  goes_past = λ p g q to args b call d r ret same. (d.0, d.1, past d.2 call r ret same);
  is_here = λ p c d. (Here, inr (inl refl), here_too ir.functions d.2);
  is_root = λ p x c never d. (RootUnwritten x, inr (inr (inr never)), root_too ir x never d.2);
}
