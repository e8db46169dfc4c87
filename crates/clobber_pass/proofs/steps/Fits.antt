-- All that well formed code names exists; and the origins of a fact that matters in a function
-- matter too.
use Rattle.std.proofs.Common.{◌≡◌, ◌<◌, ◌≤◌, ℕ, Bool, true, false, cond, List}
use Rattle.std.proofs.Common.{Option, Some, None, length, refl, sym, ap, subst, arith, inl, inr}
use Rattle.std.specs.Prelude.{◌==◌, ◌&&◌, slice_get, position, option_and_then}
use Rattle.std.specs.List.{AllByRecursion}
use Rattle.std.proofs.lemmas.List.Quantifiers.{position-Some}
use Rattle.nvm_base.proofs.Lists.{all_at}
use Rattle.ir.specs.declared.instruction.Target.TheVariants.{Root, Field}
use Rattle.ir.specs.declared.instruction.Instruction.{Instruction}
use Rattle.ir.specs.declared.instruction.Instruction.TheVariants.{Const, Copy, Bin, Load, Store}
use Rattle.ir.specs.declared.instruction.Instruction.TheVariants.{New, Free, Call}
use Rattle.ir.specs.declared.function.IrFunction.{IrFunction}
use Rattle.ir.specs.declared.function.Ir.{Ir}
use Rattle.ir.specs.declared.fact.Fact.{Fact}
use Rattle.ir.specs.declared.fact.Fact.TheVariants.{Here, Unwritten, RootUnwritten, ReadRoot}
use Rattle.ir.specs.declared.fact.Fact.TheVariants.{ReadField, Freed}
use Rattle.ir.specs.declared.fact.Origins.{Origins}
use Rattle.ir.specs.declared.fact.Origins.TheVariants.{Nowhere, One, Two}
use Rattle.ir.specs.declared.fact.Back.TheVariants.{FromReturn, Stays}
use Rattle.ir.specs.Places.{instruction_at, CallsAt}
use Rattle.ir.specs.Table.{AmongOrigins, origins, argument_fact, at_call, from_parameter, back}
use Rattle.ir.specs.WellFormed.{IsInstruction, TakesArgs, IsFunction, IsWellFormed}
use Rattle.clobber_pass.specs.inside.Class.{Class}
use Rattle.clobber_pass.specs.inside.Told.{parameter_count, parameters_at, register_count}
use Rattle.clobber_pass.specs.inside.Told.{registers_at, Fits, Matters}
use Rattle.clobber_pass.proofs.steps.About.{about_origins, about_at_call, about_return, about_stays}

-- an instruction of well formed code, with its function
pub record Standing (ir : Ir) (f p : ℕ) (i : Instruction) : Type 0 where
  pub body : IrFunction
  pub there : slice_get ir.functions f ≡ Some body
  pub at : slice_get body.code p ≡ Some i
  pub whole : IsFunction ir body
  pub well : IsInstruction ir body.registers (length body.code) i

standing_of : (ir : Ir) (f p : ℕ) (i : Instruction) (u : Option IrFunction) → IsWellFormed ir
    → slice_get ir.functions f ≡ u → option_and_then (λ (u : IrFunction). slice_get u.code p) u
    ≡ Some i → Standing ir f p i
standing_of ir f p i None well there is = absurd cc
standing_of ir f p i (Some u) well there is =
    let whole : IsFunction ir u = all_at (IsFunction ir) ir.functions f u well.1 there in
    record {
      body = u;
      there = there;
      at = is;
      whole = whole;
      well = all_at (IsInstruction ir u.registers (length u.code)) u.code p i whole.3 is;
    }

pub standing : (ir : Ir) (f p : ℕ) (i : Instruction) → IsWellFormed ir
    → instruction_at ir.functions f p ≡ Some i → Standing ir f p i
standing ir f p i well is = standing_of ir f p i (slice_get ir.functions f) well refl is

-- the facts that fit
module _ (ir : Ir) (registers n : ℕ) where
  abbrev AllFit : Origins → Type 0
  AllFit o = (a : Fact) → AmongOrigins a o → Fits registers a

  fit_one : (b : Fact) → Fits registers b → AllFit (One b)
  fit_one b h a is = subst (Fits registers) (sym is) h

  fit_two : (b c : Fact) → Fits registers b → Fits registers c → AllFit (Two b c)
  fit_two b c h j a (inl is) = subst (Fits registers) (sym is) h
  fit_two b c h j a (inr is) = subst (Fits registers) (sym is) j

  fit_none : AllFit Nowhere
  fit_none a m = absurd m

  either : (test : Bool) (u v : Origins) → AllFit u → AllFit v → AllFit (cond test u v)
  either true u v h j = h
  either false u v h j = j

  fit_unwritten : (i : Instruction) (r s x : ℕ) → IsInstruction ir registers n i → r < registers
      → AllFit (origins i (Unwritten r s x))
  fit_unwritten (Const to v) r s x ok h =
      either (r == to) _ _ (fit_one Here tt) (fit_one (Unwritten r s x) h)
  fit_unwritten (Bin op to left right) r s x ok h =
      either (r == to) _ _ (fit_one Here tt) (fit_one (Unwritten r s x) h)
  fit_unwritten (Copy to from) r s x ok h =
      either (r == to) _ _ (fit_one (Unwritten from s x) ok.1) (fit_one (Unwritten r s x) h)
  fit_unwritten (Load to u) r s x ok h =
      either (r == to) _ _ (fit_one Here tt) (fit_one (Unwritten r s x) h)
  fit_unwritten (New to kind log_fill line) r s x ok h =
      either (r == to) _ _ fit_none (fit_one (Unwritten r s x) h)
  fit_unwritten (Store (Field b k y None) from line) r s x ok h =
      either ((r == b) && ((s == k) && (x == y))) _ _ fit_none (fit_one (Unwritten r s x) h)
  fit_unwritten (Store (Field b k y (Some i)) from line) r s x ok h = fit_one (Unwritten r s x) h
  fit_unwritten (Store (Root y i) from line) r s x ok h = fit_one (Unwritten r s x) h
  fit_unwritten _ r s x ok h = fit_one (Unwritten r s x) h

  fit_root : (i : Instruction) (x : ℕ) → AllFit (origins i (RootUnwritten x))
  fit_root (Store (Root y None) from line) x =
      either (x == y) _ _ fit_none (fit_one (RootUnwritten x) tt)
  fit_root (Store (Root y (Some i)) from line) x = fit_one (RootUnwritten x) tt
  fit_root (Store (Field b k y i) from line) x = fit_one (RootUnwritten x) tt
  fit_root _ x = fit_one (RootUnwritten x) tt

  fit_root_read : (i : Instruction) (x : ℕ) → AllFit (origins i (ReadRoot x))
  fit_root_read (Load to (Root y i)) x =
      either (x == y) _ _ (fit_two (ReadRoot x) (RootUnwritten x) tt tt) (fit_one (ReadRoot x) tt)
  fit_root_read (Load to (Field b k y i)) x = fit_one (ReadRoot x) tt
  fit_root_read _ x = fit_one (ReadRoot x) tt

  fit_field_read : (i : Instruction) (s x : ℕ) → IsInstruction ir registers n i
      → AllFit (origins i (ReadField s x))
  fit_field_read (Load to (Field b k y i)) s x ok =
      either ((s == k) && (x == y)) _ _ (fit_two (ReadField s x) (Unwritten b s x) tt ok.1.0)
      (fit_one (ReadField s x) tt)
  fit_field_read (Load to (Root y i)) s x ok = fit_one (ReadField s x) tt
  fit_field_read _ s x ok = fit_one (ReadField s x) tt

  fit_freed : (i : Instruction) → AllFit (origins i Freed)
  fit_freed (Free from kind line) = fit_one Here tt
  fit_freed _ = fit_one Freed tt

  pub fit_origins : (i : Instruction) (b : Fact) → IsInstruction ir registers n i → Fits registers b
      → AllFit (origins i b)
  fit_origins i Here ok h = fit_one Here tt
  fit_origins i (Unwritten r s x) ok h = fit_unwritten i r s x ok h
  fit_origins i (RootUnwritten x) ok h = fit_root i x
  fit_origins i (ReadRoot x) ok h = fit_root_read i x
  fit_origins i (ReadField s x) ok h = fit_field_read i s x ok
  fit_origins i Freed ok h = fit_freed i

fit_argument : (registers : ℕ) (args : List ℕ) (a : Option ℕ) (r s x : ℕ) → slice_get args r ≡ a
    → AllByRecursion (λ a. a < registers) args → Fits registers (argument_fact a s x)
fit_argument registers args None r s x is all = tt
fit_argument registers args (Some a) r s x is all = all_at (λ a. a < registers) args r a all is

fit_at_call : (registers : ℕ) (args : List ℕ) (x : Fact) → AllByRecursion (λ a. a < registers) args
    → Fits registers (at_call args x)
fit_at_call registers args Here all = tt
fit_at_call registers args (Unwritten r s x) all =
    fit_argument registers args (slice_get args r) r s x refl all
fit_at_call registers args (RootUnwritten x) all = tt
fit_at_call registers args (ReadRoot x) all = tt
fit_at_call registers args (ReadField s x) all = tt
fit_at_call registers args Freed all = tt

-- the first place of a register among the arguments is in the list
position_inside : (args : List ℕ) (r j : ℕ) → position (λ a. a == r) args ≡ Some j → j < length args
position_inside args r j is = (position-Some (λ a. a == r) args j 0 is).0

-- a parameter is a register
fit_parameter : (args : List ℕ) (r s x registers : ℕ) (j : Option ℕ) (y : Fact)
    → length args ≤ registers → position (λ a. a == r) args ≡ j
    → from_parameter j s x ≡ FromReturn y
    → Fits registers y
fit_parameter args r s x registers None y few is same = absurd cc
fit_parameter args r s x registers (Some j) y few is same =
    let e : Unwritten j s x ≡ y = cc in
    let inside : j < length args = position_inside args r j is in
    let within : j < registers = omega arith in
    subst (Fits registers) e within

fit_result : (args : List ℕ) (r s x registers : ℕ) (test : Bool) (y : Fact)
    → length args ≤ registers → cond test (FromReturn Here)
    (from_parameter (position (λ a. a == r) args) s x) ≡ FromReturn y → Fits registers y
fit_result args r s x registers true y few same = let e : Here ≡ y = cc in
    subst (Fits registers) e tt
fit_result args r s x registers false y few same =
    fit_parameter args r s x registers (position (λ a. a == r) args) y few refl same

fit_return : (to : ℕ) (args : List ℕ) (registers : ℕ) (b y : Fact) → length args ≤ registers
    → back to args b ≡ FromReturn y → Fits registers y
fit_return to args registers (Unwritten r s x) y few same =
    fit_result args r s x registers (r == to) y few same
fit_return to args registers Here y few same = let e : Here ≡ y = cc in subst (Fits registers) e tt
fit_return to args registers (RootUnwritten x) y few same = let e : RootUnwritten x ≡ y = cc in
    subst (Fits registers) e tt
fit_return to args registers (ReadRoot x) y few same = let e : ReadRoot x ≡ y = cc in
    subst (Fits registers) e tt
fit_return to args registers (ReadField s x) y few same = let e : ReadField s x ≡ y = cc in
    subst (Fits registers) e tt
fit_return to args registers Freed y few same = let e : Freed ≡ y = cc in
    subst (Fits registers) e tt

-- a call has as many arguments as its function has parameters, which are some of that function's
-- registers
taken : (ir : Ir) (g : ℕ) (args : List ℕ) (u : Option IrFunction) → IsWellFormed ir
    → slice_get ir.functions g ≡ u → TakesArgs u args → (length args ≡ parameter_count u)
    × (parameter_count u ≤ register_count u)
taken ir g args None well is takes = absurd takes
taken ir g args (Some u) well is takes =
    (takes, (all_at (IsFunction ir) ir.functions g u well.1 is).0)

module _ (ir : Ir) (well : IsWellFormed ir) where
  pub registers_there : (f : ℕ) (u : IrFunction) → slice_get ir.functions f ≡ Some u
      → registers_at ir.functions f ≡ u.registers
  registers_there f u is = ap register_count is

  pub parameters_there : (f : ℕ) (u : IrFunction) → slice_get ir.functions f ≡ Some u
      → parameters_at ir.functions f ≡ u.parameters
  parameters_there f u is = ap parameter_count is

  pub args_count : (f p g to : ℕ) (args : List ℕ) → CallsAt ir.functions f p to g args
      → length args ≡ parameters_at ir.functions g
  args_count f p g to args call =
      let s = standing ir f p (Call to g args) well call in
      (taken ir g args (slice_get ir.functions g) well refl s.well.2).0

  args_few : (f p g to : ℕ) (args : List ℕ) → CallsAt ir.functions f p to g args
      → length args ≤ registers_at ir.functions g
  args_few f p g to args call =
      let s = standing ir f p (Call to g args) well call in
      let t = taken ir g args (slice_get ir.functions g) well refl s.well.2 in
      subst (λ n. n ≤ registers_at ir.functions g) (sym t.0) t.1

  module _ (class : Class) where
    pub matters_origins : (f p : ℕ) (i : Instruction) (a b : Fact)
        → instruction_at ir.functions f p ≡ Some i → AmongOrigins a (origins i b)
        → Matters ir.functions class f b → Matters ir.functions class f a
    matters_origins f p i a b is m h =
        let s = standing ir f p i well is in
        let e = registers_there f s.body s.there in (
          about_origins class i b h.0 a m,
          subst (λ n. Fits n a) (sym e) (fit_origins ir s.body.registers (length s.body.code) i b
              s.well (subst (λ n. Fits n b) e h.1) a m),
        )

    pub matters_at_call : (f p g to : ℕ) (args : List ℕ) (x : Fact)
        → CallsAt ir.functions f p to g args → Matters ir.functions class g x
        → Matters ir.functions class f (at_call args x)
    matters_at_call f p g to args x call h =
        let s = standing ir f p (Call to g args) well call in
        let e = registers_there f s.body s.there in (
          about_at_call class args x h.0,
          subst (λ n. Fits n (at_call args x)) (sym e)
              (fit_at_call s.body.registers args x s.well.1),
        )

    pub matters_return : (f p g to : ℕ) (args : List ℕ) (b y : Fact)
        → CallsAt ir.functions f p to g args → Matters ir.functions class f b
        → back to args b ≡ FromReturn y → Matters ir.functions class g y
    matters_return f p g to args b y call h same = (
      about_return class to args b y h.0 same,
      fit_return to args (registers_at ir.functions g) b
          y (args_few f p g to args call) same,
    )

    pub matters_stays : (f g to : ℕ) (args : List ℕ) (b : Fact) → Matters ir.functions class f b
        → back to args b ≡ Stays → Matters ir.functions class g Here
    matters_stays f g to args b h same = (about_stays class to args b h.0 same, tt)
