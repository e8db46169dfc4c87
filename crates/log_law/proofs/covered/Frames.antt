-- The call stack of a run and that of a walk. While a call is open, its parameters hold the same
-- values as the caller's registers that were passed.
use Rattle.std.proofs.Common.{◌≡◌, ◌≢◌, ◌<◌, ◌≤◌, ℕ, zero, suc, ℤ, Bool, true, false, if◌then◌else◌}
use Rattle.std.proofs.Common.{◌==◌, List, [], ◌∷◌, map, Option, None, Some, option_and_then}
use Rattle.std.proofs.Common.{slice_get, slice_index_or, position, length, refl, ap, sym, ◌∙◌}
use Rattle.std.proofs.Common.{subst, arith}
use Rattle.std.specs.List.{AllByRecursion}
use Rattle.std.proofs.lemmas.Bool.{false≢true, eqb-true, eq-eqb}
use Rattle.std.proofs.lemmas.Option.{slice_get_within, slice_get-get_or}
use Rattle.std.proofs.lemmas.List.Quantifiers.{position-Some}
use Rattle.nvm_base.proofs.Lists.{all_at}
use Rattle.pool_map.specs.declared.shapes.Shapes.{Shapes}
use Rattle.pool_map.specs.PoolMap.{PoolMap}
use Rattle.ir.specs.declared.instruction.Instruction.{Instruction}
use Rattle.ir.specs.declared.instruction.Instruction.TheVariants.{Call}
use Rattle.ir.specs.declared.function.IrFunction.{IrFunction}
use Rattle.ir.specs.declared.function.Ir.{Ir}
use Rattle.ir.specs.Places.{instruction_at, CallsAt}
use Rattle.ir.specs.WellFormed.{IsWellFormed, IsFunction, IsInstruction, TakesArgs}
use Rattle.ir.specs.Walk.{Kept, Open, register_has, facts_passed, facts_at_entry, facts_taken}
use Rattle.ir.specs.Walk.{given_back}
use Rattle.code_meaning.specs.Code.{Frame, frame, Spot, register_at, put_register}
use Rattle.code_meaning.specs.Parameters.{assigned_register, KeepsParameters}
use Rattle.code_meaning.proofs.Registers.{at_put_same, at_put_other}
use Rattle.log_law.proofs.covered.Registers.{at_map}
use Rattle.log_law.proofs.covered.Spots.{Names, Lies, Sure, Stays, sure_stays}

-- the instruction at a place, from the code
function_in : (o : Option IrFunction) (p : ℕ) (i : Instruction)
    → option_and_then (λ (v : IrFunction). slice_get v.code p) o ≡ Some i → (v : IrFunction)
    × (o ≡ Some v) × (slice_get v.code p ≡ Some i)
function_in None p i e = absurd (cc)
function_in (Some v) p i e = (v, refl, e)

function_of : (functions : List IrFunction) (f p : ℕ) (i : Instruction)
    → instruction_at functions f p ≡ Some i → (v : IrFunction) × (slice_get functions f ≡ Some v)
    × (slice_get v.code p ≡ Some i)
function_of functions f p i e = function_in (slice_get functions f) p i e

pub well_at : (ir : Ir) (f p : ℕ) (i : Instruction) → IsWellFormed ir
    → instruction_at ir.functions f p ≡ Some i → (r : ℕ) × (n : ℕ) × IsInstruction ir r n i
well_at ir f p i well is =
    let v = function_of ir.functions f p i is in
    let fits : IsFunction ir v.0 = all_at (IsFunction ir) ir.functions f v.0 well.1 v.1 in (
      v.0.registers,
      length v.0.code,
      all_at (IsInstruction ir v.0.registers (length v.0.code))
          v.0.code p i fits.3 v.2,
    )

parameters_of : (ir : Ir) (f p to g : ℕ) (args : List ℕ) (v : IrFunction) → IsWellFormed ir
    → CallsAt ir.functions f p to g args → slice_get ir.functions g ≡ Some v
    → length args ≡ v.parameters
parameters_of ir f p to g args v well call e =
    let w = well_at ir f p (Call to g args) well call in
    subst (λ o. TakesArgs o args) e w.2.2

-- the parameters hold the values that were passed
abbrev pub Passed : List ℤ → List ℤ → List ℕ → Type 0
Passed regs old args = (j b : ℕ) → slice_get args j ≡ Some b
    → register_at regs j ≡ register_at old b

abbrev pub Opens : Ir → Spot → PoolMap → (f : ℕ) → List ℤ → List Frame → List Open → Type 0
Opens ir u w f regs [] [] = Unit {0}
Opens ir u w f regs [] (c ∷ calls) = ⊥
Opens ir u w f regs (frame g q old to ∷ below) [] = ⊥
Opens ir u w f regs (frame g q old to ∷ below) (c ∷ calls) =
    (c.function ≡ g) × (suc c.place ≡ q) × (c.to ≡ to) × CallsAt ir.functions c.function c.place
    c.to f c.args
    × Passed regs old c.args × Sure ir.shapes u w old c.kept.written
    × Opens ir u w g old below calls

pub opens_stay : (ir : Ir) (u : Spot) (w w' : PoolMap) (f : ℕ) (regs : List ℤ) (below : List Frame)
    (calls : List Open) → Stays ir.shapes u w w'
    → Opens ir u w f regs below calls → Opens ir u w' f regs below calls
opens_stay ir u w w' f regs [] [] stays h = h
opens_stay ir u w w' f regs [] (c ∷ calls) stays h = h
opens_stay ir u w w' f regs (frame g q old to ∷ below) [] stays h = h
opens_stay ir u w w' f regs (frame g q old to ∷ below) (c ∷ calls) stays h = (
  h.0,
  h.1,
  h.2,
  h.3,
  h.4,
  sure_stays ir.shapes u w w' old c.kept.written stays h.5,
  opens_stay ir u w w' g old below calls stays h.6,
)

-- no parameter is assigned
passed_put : (regs old : List ℤ) (args : List ℕ) (r : ℕ) (v : ℤ) → length args ≤ r
    → Passed regs old args → Passed (put_register regs r v) old args
passed_put regs old args r v le h = λ j b is.
    let below : j < length args = slice_get_within args j b is in
    let far : j ≢ r = λ e. omega arith in
    at_put_other regs r j v far ∙ h j b is

pub opens_put : (ir : Ir) → IsWellFormed ir → KeepsParameters ir.functions
    → (u : Spot) (w : PoolMap) (f p : ℕ) (i : Instruction) (r : ℕ) (regs : List ℤ) (v : ℤ)
    (below : List Frame) (calls : List Open)
    → instruction_at ir.functions f p ≡ Some i → assigned_register i ≡ Some r
    → Opens ir u w f regs below calls → Opens ir u w f (put_register regs r v) below calls
opens_put ir well keeps u w f p i r regs v [] [] is to h = h
opens_put ir well keeps u w f p i r regs v [] (c ∷ calls) is to h = h
opens_put ir well keeps u w f p i r regs v (frame g q old back ∷ below) [] is to h = h
opens_put ir well keeps u w f p i r regs v (frame g q old back ∷ below) (c ∷ calls) is to h =
    let o = function_of ir.functions f p i is in
    let same : length c.args ≡ o.0.parameters =
    parameters_of ir c.function c.place c.to f c.args o.0 well h.3 o.1 in
    let above : o.0.parameters ≤ r = keeps f p o.0 i r o.1 o.2 to in
    (h.0, h.1, h.2, h.3, passed_put regs old c.args r v (omega arith) h.4, h.5, h.6)

-- after an assignment
sure_told : (shapes : Shapes) (u : Spot) (w : PoolMap) (regs : List ℤ) (to : ℕ) (v : ℤ) (r s x : ℕ)
    (t new old : Bool) → (r == to) ≡ t
    → (new ≡ true → Names u v → Lies shapes u w s x → ⊥)
    → (old ≡ true → Names u (register_at regs r) → Lies shapes u w s x → ⊥)
    → (if t then new else old) ≡ true → Names u (register_at (put_register regs to v) r)
    → Lies shapes u w s x → ⊥
sure_told shapes u w regs to v r s x true new old e told kept h n l =
    let same : r ≡ to = eqb-true r to e in
    told h (subst (λ a. Names u a) (ap (register_at (put_register regs to v)) same
    ∙ at_put_same regs to v) n) l
sure_told shapes u w regs to v r s x false new old e told kept h n l =
    kept h (subst (λ a. Names u a)
    (at_put_other regs to r v (λ same. false≢true (sym e ∙ eq-eqb r to same))) n) l

pub sure_put : (shapes : Shapes) (u : Spot) (w : PoolMap) (regs : List ℤ) (to : ℕ) (v : ℤ) (told : ℕ
    → ℕ → Bool) (k : Kept)
    → ((s x : ℕ) → told s x ≡ true → Names u v → Lies shapes u w s x → ⊥)
    → Sure shapes u w regs k.written
    → Sure shapes u w (put_register regs to v) (register_has to told k).written
sure_put shapes u w regs to v told k new kept = λ r s x h n l.
    sure_told shapes u w regs to v r s x (r == to) (told s x) (k.written r s x) refl (new s x)
    (kept r s x) h n l

-- at the entry of a called function
sure_passed : (shapes : Shapes) (u : Spot) (w : PoolMap) (regs : List ℤ) (args : List ℕ)
    (written : ℕ → ℕ → ℕ → Bool) (r s x : ℕ) (o : Option ℕ) → slice_get args r ≡ o
    → Sure shapes u w regs written → facts_passed o written s x ≡ true
    → Names u (register_at (map (register_at regs) args) r) → Lies shapes u w s x → ⊥
sure_passed shapes u w regs args written r s x None e sure h n l = absurd (false≢true h)
sure_passed shapes u w regs args written r s x (Some b) e sure h n l =
    sure b s x h (subst (λ a. Names u a) (at_map regs args r b e) n) l

pub sure_entered : (shapes : Shapes) (u : Spot) (w : PoolMap) (regs : List ℤ) (args : List ℕ)
    (k : Kept) → Sure shapes u w regs k.written
    → Sure shapes u w (map (register_at regs) args) (facts_at_entry args k).written
sure_entered shapes u w regs args k sure =
    λ r s x h n l. sure_passed shapes u w regs args k.written r s x (slice_get args r) refl
    sure h n l

-- after a return
position_at : (args : List ℕ) (r j : ℕ) → position (λ a. a == r) args ≡ Some j
    → slice_get args j ≡ Some r
position_at args r j e =
    let at_j = position-Some (λ a. a == r) args j 0 e in
    let same : slice_index_or args j 0 ≡ r = eqb-true (slice_index_or args j 0) r at_j.1 in
    slice_get-get_or args j 0 at_j.0 ∙ ap Some same

sure_taken : (shapes : Shapes) (u : Spot) (w : PoolMap) (regs old : List ℤ) (args : List ℕ)
    (written had : ℕ → ℕ → ℕ → Bool) (r s x : ℕ) (o : Option ℕ) → position (λ a. a == r) args ≡ o
    → Passed regs old args → Sure shapes u w regs written → Sure shapes u w old had
    → facts_taken o written (had r) s x ≡ true → Names u (register_at old r)
    → Lies shapes u w s x → ⊥
sure_taken shapes u w regs old args written had r s x None e held sure before h n l =
    before r s x h n l
sure_taken shapes u w regs old args written had r s x (Some j) e held sure before h n l =
    sure j s x h (subst (λ a. Names u a) (sym (held j r (position_at args r j e))) n) l

pub sure_back : (shapes : Shapes) (u : Spot) (w : PoolMap) (regs old : List ℤ) (to : ℕ) (v : ℤ)
    (args : List ℕ) (before k : Kept) → Passed regs old args
    → Sure shapes u w regs k.written → Sure shapes u w old before.written
    → Sure shapes u w (put_register old to v) (given_back to args before k).written
sure_back shapes u w regs old to v args before k held sure kept = λ r s x h n l.
    sure_told shapes u w old to v r s x (r == to) false
    (facts_taken (position (λ a. a == r) args) k.written (before.written r) s x) refl
    (λ e m j. false≢true e)
    (sure_taken shapes u w regs old args k.written before.written r s x
    (position (λ a. a == r) args) refl held sure kept) h n l
