-- If what a fact names exists, so does what its origins name.
use Rattle.std.proofs.Common.{◌≡◌, ◌<◌, ◌≤◌, ℕ, Bool, true, false, cond, List, Option, Some, None}
use Rattle.std.proofs.Common.{length, refl, sym, subst, arith, inl, inr}
use Rattle.std.specs.Prelude.{◌==◌, ◌&&◌, slice_get, position, is_some}
use Rattle.std.specs.List.{AllByRecursion}
use Rattle.std.proofs.lemmas.Bool.{and_from, lt-ltb}
use Rattle.std.proofs.lemmas.List.Quantifiers.{position-Some}
use Rattle.nvm_base.proofs.Lists.{all_at}
use Rattle.pool_map.specs.declared.shapes.FieldShape.{FieldShape}
use Rattle.pool_map.specs.declared.shapes.Shapes.{Shapes}
use Rattle.ir.specs.declared.instruction.Target.{Target}
use Rattle.ir.specs.declared.instruction.Target.TheVariants.{Root, Field}
use Rattle.ir.specs.declared.instruction.Instruction.{Instruction}
use Rattle.ir.specs.declared.instruction.Instruction.TheVariants.{Const, Copy, Bin, Load, Store}
use Rattle.ir.specs.declared.instruction.Instruction.TheVariants.{New, Free, Call}
use Rattle.ir.specs.declared.function.IrFunction.{IrFunction}
use Rattle.ir.specs.declared.function.Ir.{Ir}
use Rattle.ir.specs.declared.fact.Fact.{Fact}
use Rattle.ir.specs.declared.fact.Fact.TheVariants.{Here, Unwritten, RootUnwritten, ReadRoot}
use Rattle.ir.specs.declared.fact.Fact.TheVariants.{ReadField, Freed}
use Rattle.ir.specs.declared.fact.Origins.{Origins}
use Rattle.ir.specs.declared.fact.Origins.TheVariants.{Nowhere, One, Two}
use Rattle.ir.specs.declared.fact.Back.TheVariants.{FromReturn}
use Rattle.ir.specs.Table.{AmongOrigins, origins, argument_fact, at_call, from_parameter, back}
use Rattle.ir.specs.Clobber.{unwritten, read_fact}
use Rattle.ir.specs.WellFormed.{IsIndexed, IsTarget, shape_field, IsInstruction, TakesArgs}
use Rattle.ir.specs.WellFormed.{IsFunction, IsWellFormed}
use Rattle.walk_check.specs.Keeps.{fact_is_there}

abbrev pub There : Shapes → (registers : ℕ) → Fact → Type 0
There shapes registers Here = Unit {0}
There shapes registers (Unwritten r s x) =
    (r < registers) × (is_some (shape_field shapes s x) ≡ true)
There shapes registers (RootUnwritten x) = is_some (slice_get shapes.root x) ≡ true
There shapes registers (ReadRoot x) = is_some (slice_get shapes.root x) ≡ true
There shapes registers (ReadField s x) = is_some (shape_field shapes s x) ≡ true
There shapes registers Freed = Unit {0}

pub is_there-from : (shapes : Shapes) (u : IrFunction) (b : Fact) → There shapes u.registers b
    → fact_is_there shapes u b ≡ true
is_there-from shapes u Here h = refl
is_there-from shapes u (Unwritten r s x) h = and_from _ _ (lt-ltb r u.registers h.0) h.1
is_there-from shapes u (RootUnwritten x) h = h
is_there-from shapes u (ReadRoot x) h = h
is_there-from shapes u (ReadField s x) h = h
is_there-from shapes u Freed h = refl

module _ (ir : Ir) (registers n : ℕ) where
  abbrev Fits : Fact → Type 0
  Fits b = There ir.shapes registers b

  abbrev AllFit : Origins → Type 0
  AllFit o = (a : Fact) → AmongOrigins a o → Fits a

  fit_one : (b : Fact) → Fits b → AllFit (One b)
  fit_one b h a is = subst Fits (sym is) h

  fit_two : (b c : Fact) → Fits b → Fits c → AllFit (Two b c)
  fit_two b c h j a (inl is) = subst Fits (sym is) h
  fit_two b c h j a (inr is) = subst Fits (sym is) j

  fit_none : AllFit Nowhere
  fit_none a m = absurd m

  either : (test : Bool) (u v : Origins) → AllFit u → AllFit v → AllFit (cond test u v)
  either true u v h j = h
  either false u v h j = j

  fit_unwritten : (i : Instruction) (r s x : ℕ) → IsInstruction ir registers n i
      → Fits (Unwritten r s x) → AllFit (origins i (Unwritten r s x))
  fit_unwritten (Const to v) r s x ok h =
      either (r == to) _ _ (fit_one Here tt) (fit_one (Unwritten r s x) h)
  fit_unwritten (Bin op to left right) r s x ok h =
      either (r == to) _ _ (fit_one Here tt) (fit_one (Unwritten r s x) h)
  fit_unwritten (Copy to from) r s x ok h =
      either (r == to) _ _ (fit_one (Unwritten from s x) (ok.1, h.1)) (fit_one (Unwritten r s x) h)
  fit_unwritten (Load to u) r s x ok h =
      either (r == to) _ _ (fit_one Here tt) (fit_one (Unwritten r s x) h)
  fit_unwritten (New to kind log_fill line) r s x ok h =
      either (r == to) _ _ fit_none (fit_one (Unwritten r s x) h)
  fit_unwritten (Store (Field b k y None) from line) r s x ok h =
      either ((r == b) && ((s == k) && (x == y))) _ _ fit_none (fit_one (Unwritten r s x) h)
  fit_unwritten (Store (Field b k y (Some i)) from line) r s x ok h = fit_one (Unwritten r s x) h
  fit_unwritten (Store (Root y i) from line) r s x ok h = fit_one (Unwritten r s x) h
  fit_unwritten _ r s x ok h = fit_one (Unwritten r s x) h

  fit_root : (i : Instruction) (x : ℕ) → Fits (RootUnwritten x)
      → AllFit (origins i (RootUnwritten x))
  fit_root (Store (Root y None) from line) x h =
      either (x == y) _ _ fit_none (fit_one (RootUnwritten x) h)
  fit_root (Store (Root y (Some i)) from line) x h = fit_one (RootUnwritten x) h
  fit_root (Store (Field b k y i) from line) x h = fit_one (RootUnwritten x) h
  fit_root _ x h = fit_one (RootUnwritten x) h

  fit_root_read : (i : Instruction) (x : ℕ) → Fits (ReadRoot x) → AllFit (origins i (ReadRoot x))
  fit_root_read (Load to (Root y i)) x h =
      either (x == y) _ _ (fit_two (ReadRoot x) (RootUnwritten x) h h) (fit_one (ReadRoot x) h)
  fit_root_read (Load to (Field b k y i)) x h = fit_one (ReadRoot x) h
  fit_root_read _ x h = fit_one (ReadRoot x) h

  fit_field_read : (i : Instruction) (s x : ℕ) → IsInstruction ir registers n i
      → Fits (ReadField s x) → AllFit (origins i (ReadField s x))
  fit_field_read (Load to (Field b k y i)) s x ok h =
      either ((s == k) && (x == y)) _ _ (fit_two (ReadField s x) (Unwritten b s x) h (ok.1.0, h))
      (fit_one (ReadField s x) h)
  fit_field_read (Load to (Root y i)) s x ok h = fit_one (ReadField s x) h
  fit_field_read _ s x ok h = fit_one (ReadField s x) h

  fit_freed : (i : Instruction) → AllFit (origins i Freed)
  fit_freed (Free from kind line) = fit_one Here tt
  fit_freed _ = fit_one Freed tt

  pub there_origins : (i : Instruction) (b : Fact) → IsInstruction ir registers n i
      → There ir.shapes registers b → (a : Fact) → AmongOrigins a (origins i b)
      → There ir.shapes registers a
  there_origins i Here ok h = fit_one Here tt
  there_origins i (Unwritten r s x) ok h = fit_unwritten i r s x ok h
  there_origins i (RootUnwritten x) ok h = fit_root i x h
  there_origins i (ReadRoot x) ok h = fit_root_read i x h
  there_origins i (ReadField s x) ok h = fit_field_read i s x ok h
  there_origins i Freed ok h = fit_freed i

there_argument : (shapes : Shapes) (registers : ℕ) (args : List ℕ) (a : Option ℕ) (r s x : ℕ)
    → slice_get args r ≡ a → AllByRecursion (λ a. a < registers) args
    → is_some (shape_field shapes s x) ≡ true → There shapes registers (argument_fact a s x)
there_argument shapes registers args None r s x is all h = tt
there_argument shapes registers args (Some a) r s x is all h =
    (all_at (λ a. a < registers) args r a all is, h)

-- at a call, from the called function's entry
there_at_call : (shapes : Shapes) (few registers : ℕ) (args : List ℕ) (x : Fact)
    → AllByRecursion (λ a. a < registers) args → There shapes few x
    → There shapes registers (at_call args x)
there_at_call shapes few registers args Here all h = tt
there_at_call shapes few registers args (Unwritten r s x) all h =
    there_argument shapes registers args (slice_get args r) r s x refl all h.1
there_at_call shapes few registers args (RootUnwritten x) all h = h
there_at_call shapes few registers args (ReadRoot x) all h = h
there_at_call shapes few registers args (ReadField s x) all h = h
there_at_call shapes few registers args Freed all h = tt

position_inside : (args : List ℕ) (r j : ℕ) → position (λ a. a == r) args ≡ Some j
    → j < length args
position_inside args r j is = (position-Some (λ a. a == r) args j 0 is).0

there_parameter : (shapes : Shapes) (args : List ℕ) (r s x registers : ℕ) (j : Option ℕ)
    (y : Fact) → length args ≤ registers → is_some (shape_field shapes s x) ≡ true
    → position (λ a. a == r) args ≡ j → from_parameter j s x ≡ FromReturn y
    → There shapes registers y
there_parameter shapes args r s x registers None y few h is same = absurd cc
there_parameter shapes args r s x registers (Some j) y few h is same =
    let e : Unwritten j s x ≡ y = cc in
    let inside : j < length args = position_inside args r j is in
    let within : j < registers = omega arith in
    subst (There shapes registers) e (within, h)

there_result : (shapes : Shapes) (args : List ℕ) (r s x registers : ℕ) (test : Bool) (y : Fact)
    → length args ≤ registers → is_some (shape_field shapes s x) ≡ true
    → cond test (FromReturn Here) (from_parameter (position (λ a. a == r) args) s x)
    ≡ FromReturn y → There shapes registers y
there_result shapes args r s x registers true y few h same = let e : Here ≡ y = cc in
    subst (There shapes registers) e tt
there_result shapes args r s x registers false y few h same =
    there_parameter shapes args r s x registers (position (λ a. a == r) args) y few h refl same

-- at a return, from after the call
there_return : (shapes : Shapes) (to : ℕ) (args : List ℕ) (many registers : ℕ) (b y : Fact)
    → length args ≤ registers → There shapes many b → back to args b ≡ FromReturn y
    → There shapes registers y
there_return shapes to args many registers (Unwritten r s x) y few h same =
    there_result shapes args r s x registers (r == to) y few h.1 same
there_return shapes to args many registers Here y few h same = let e : Here ≡ y = cc in
    subst (There shapes registers) e tt
there_return shapes to args many registers (RootUnwritten x) y few h same =
    let e : RootUnwritten x ≡ y = cc in subst (There shapes registers) e h
there_return shapes to args many registers (ReadRoot x) y few h same = let e : ReadRoot x ≡ y =
    cc in subst (There shapes registers) e h
there_return shapes to args many registers (ReadField s x) y few h same =
    let e : ReadField s x ≡ y = cc in subst (There shapes registers) e h
there_return shapes to args many registers Freed y few h same = let e : Freed ≡ y = cc in
    subst (There shapes registers) e tt

-- a call in a well formed code: the called function, with its parameters
pub record Called (ir : Ir) (u : IrFunction) (g : ℕ) (args : List ℕ) : Type 0 where
  pub body : IrFunction
  pub there : slice_get ir.functions g ≡ Some body
  pub count : length args ≡ body.parameters
  pub few : body.parameters ≤ body.registers
  pub within : AllByRecursion (λ a. a < u.registers) args

called_by : (ir : Ir) (u : IrFunction) (g : ℕ) (args : List ℕ) (v : Option IrFunction)
    → IsWellFormed ir → slice_get ir.functions g ≡ v → AllByRecursion (λ a. a < u.registers) args
    → TakesArgs v args → Called ir u g args
called_by ir u g args None well is within takes = absurd takes
called_by ir u g args (Some v) well is within takes = record {
  body = v;
  there = is;
  count = takes;
  few = (all_at (IsFunction ir) ir.functions g v well.1 is).0;
  within = within;
}

-- each instruction of well formed code is well formed
pub well_at : (ir : Ir) (f p : ℕ) (u : IrFunction) (i : Instruction) → IsWellFormed ir
    → slice_get ir.functions f ≡ Some u → slice_get u.code p ≡ Some i
    → IsInstruction ir u.registers (length u.code) i
well_at ir f p u i well there is =
    all_at (IsInstruction ir u.registers (length u.code)) u.code p i
    (all_at (IsFunction ir) ir.functions f u well.1 there).3 is

pub called_at : (ir : Ir) (f p g to : ℕ) (args : List ℕ) (u : IrFunction) → IsWellFormed ir
    → slice_get ir.functions f ≡ Some u → slice_get u.code p ≡ Some (Call to g args)
    → Called ir u g args
called_at ir f p g to args u well there is =
    let ok = well_at ir f p u (Call to g args) well there is in
    called_by ir u g args (slice_get ir.functions g) well refl ok.1 ok.2

pub call_there : (ir : Ir) (u : IrFunction) (g : ℕ) (args : List ℕ) (c : Called ir u g args)
    (x : Fact) → There ir.shapes c.body.registers x → There ir.shapes u.registers (at_call args x)
call_there ir u g args c x h =
    there_at_call ir.shapes c.body.registers u.registers args x c.within h

pub return_there : (ir : Ir) (u : IrFunction) (g to : ℕ) (args : List ℕ) (c : Called ir u g args)
    (b y : Fact) → There ir.shapes u.registers b → back to args b ≡ FromReturn y
    → There ir.shapes c.body.registers y
return_there ir u g to args c b y h is =
    let count : length args ≡ c.body.parameters = c.count in
    let few : c.body.parameters ≤ c.body.registers = c.few in
    there_return ir.shapes to args u.registers c.body.registers b y (omega arith) h is

-- a target's facts
indexed : (r : ℕ) (shape : Option FieldShape) (index : Option ℕ) → IsIndexed r shape index
    → is_some shape ≡ true
indexed r None index h = absurd h
indexed r (Some shape) index h = refl

pub target_unwritten : (shapes : Shapes) (r : ℕ) (target : Target) → IsTarget shapes r target
    → There shapes r (unwritten target)
target_unwritten shapes r (Root x i) h = indexed r (slice_get shapes.root x) i h
target_unwritten shapes r (Field b s x i) h = (h.0, indexed r (shape_field shapes s x) i h.1)

pub target_read : (shapes : Shapes) (r : ℕ) (target : Target) → IsTarget shapes r target
    → There shapes r (read_fact target)
target_read shapes r (Root x i) h = indexed r (slice_get shapes.root x) i h
target_read shapes r (Field b s x i) h = indexed r (shape_field shapes s x) i h.1
