-- A moment of a run and a matching spot of a walk, and the claim for them: if the word was read
-- before, or will be, the first store to it from here on comes from a logged site. That the claim
-- holds at the run's later moments is a premise.
use Rattle.std.proofs.Common.{◌≡◌, ℕ, suc, ℤ, List, Some, subst, inl, inr, ⊎_elim}
use mathlib.Core.Logic.{◌⊎◌}
use Rattle.pool_map.specs.PoolMap.{PoolMap}
use Rattle.ir.specs.declared.instruction.Instruction.{Instruction}
use Rattle.ir.specs.declared.function.Ir.{Ir}
use Rattle.ir.specs.declared.function.IrFunction.{IrFunction}
use Rattle.ir.specs.declared.site.Site.{Site}
use Rattle.ir.specs.Places.{instruction_at, Leads}
use Rattle.ir.specs.Clobber.{IsLogged}
use Rattle.ir.specs.WellFormed.{IsWellFormed}
use Rattle.ir.specs.Walk as walk
use Rattle.ir.specs.Walk.{Kept, Open, WalkStep, Comes, facts_after}
use Rattle.ir.specs.Walk.WalkStep.{goes}
use Rattle.ir.specs.Walk.Walk.{more}
use Rattle.code_meaning.specs.Code.{CodeState, Here, Frame, Spot, put_register}
use Rattle.code_meaning.specs.Deeds.{Deed}
use Rattle.code_meaning.specs.Parameters.{assigned_register, KeepsParameters}
use Rattle.log_law.specs.covered.Covered.{IsInput, FirstStore}
use Rattle.log_law.proofs.covered.Spots.{Sure, SureRoot, Known, Stays, Leaves, More}
use Rattle.log_law.proofs.covered.Knowing.{known_on}
use Rattle.log_law.proofs.covered.Pools.{same_leaves}
use Rattle.log_law.proofs.covered.Frames.{Opens, opens_put}

abbrev pub Agrees : Ir → Spot → (f : ℕ) → List ℤ → List Frame → PoolMap → Kept → List Open → Type 0
Agrees ir u f regs below w k calls = Sure ir.shapes u w regs k.written × SureRoot ir.shapes u k.root
    × Opens ir u w f regs below calls

abbrev pub Covers : Ir → Spot → Site → List Deed → PoolMap → Kept → Type 0
Covers ir u a ds w k = (Known ir.shapes u w k ⊎ IsInput ds u) → FirstStore ds u a
    → IsLogged ir.functions a

-- the claim holds from each moment on, where d gives the deeds of a run from a state on
abbrev pub Later : Ir → Spot → Site → (CodeState → List Deed) → Type 0
Later ir u a d = (f p : ℕ) (regs : List ℤ) (below : List Frame) (w : PoolMap) (t : ℕ) (k : Kept)
    (calls : List Open)
    → Comes ir.functions (walk.at f p k calls) → Agrees ir u f regs below w k calls
    → Covers ir u a (d (Here f p regs below w t)) w k

pub comes_on : (functions : List IrFunction) (b c : walk.WalkSpot) → Comes functions b
    → WalkStep functions b c → Comes functions c
comes_on functions b c comes s = (comes.0, comes.1, more comes.2 s)

pub passing : (ir : Ir) (u : Spot) (a : Site) (ds : List Deed) (w w' : PoolMap) (k k' : Kept)
    → (Known ir.shapes u w k → Known ir.shapes u w' k') → Covers ir u a ds w' k'
    → Covers ir u a ds w k
passing ir u a ds w w' k k' on covers =
    λ known first. covers (⊎_elim (λ h. inl (on h)) (λ h. inr h) known) first

module _ (ir : Ir) (well : IsWellFormed ir) (keeps : KeepsParameters ir.functions) (u : Spot)
    (a : Site) (d : CodeState → List Deed) (later : Later ir u a d)
    (f p : ℕ) (regs : List ℤ) (below : List Frame) (w : PoolMap) (t : ℕ) (k : Kept)
    (calls : List Open)
    (comes : Comes ir.functions (walk.at f p k calls)) (agrees : Agrees ir u f regs below w k calls)
  where
    -- the run goes on after an instruction
    pub next : (i : Instruction) (q : ℕ) (regs' : List ℤ) (w' : PoolMap) (t' : ℕ)
        → instruction_at ir.functions f p ≡ Some i → Leads i p q
        → More k (facts_after i k) → Stays ir.shapes u w w'
        → Leaves ir.shapes u w w' (facts_after i k).freed
        → Agrees ir u f regs' below w' (facts_after i k) calls
        → Covers ir u a (d (Here f q regs' below w' t')) w k
    next i q regs' w' t' is leads reads stays leaves agree =
        passing ir u a (d (Here f q regs' below w' t')) w w' k (facts_after i k)
        (known_on ir.shapes u w w' k (facts_after i k) reads stays leaves)
        (later f q regs' below w' t' (facts_after i k) calls
        (comes_on ir.functions (walk.at f p k calls) (walk.at f q (facts_after i k) calls) comes
        (goes i is leads)) agree)

    -- the instruction assigns a register
    pub next_put : (i : Instruction) (to : ℕ) (v : ℤ) → instruction_at ir.functions f p ≡ Some i
        → Leads i p (suc p) → assigned_register i ≡ Some to
        → More k (facts_after i k) → Sure ir.shapes u w (put_register regs to v)
        (facts_after i k).written → SureRoot ir.shapes u (facts_after i k).root
        → Covers ir u a (d (Here f (suc p) (put_register regs to v) below w t)) w k
    next_put i to v is leads assigns reads sure root =
        next i (suc p) (put_register regs to v) w t is leads reads (λ s h. h)
        (same_leaves ir.shapes u w (facts_after i k).freed)
        (sure, root, opens_put ir well keeps u w f p i to regs v below calls is assigns agrees.2)

    -- the instruction changes nothing that the walk keeps
    pub next_same : (i : Instruction) (q t' : ℕ) → instruction_at ir.functions f p ≡ Some i
        → Leads i p q → facts_after i k ≡ k → Covers ir u a (d (Here f q regs below w t')) w k
    next_same i q t' is leads same =
        later f q regs below w t' k calls
        (subst (λ k'. Comes ir.functions (walk.at f q k' calls)) same
        (comes_on ir.functions (walk.at f p k calls) (walk.at f q (facts_after i k) calls) comes
        (goes i is leads))) agrees
