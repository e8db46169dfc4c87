-- The exits of a function record every fact that passes through it.
use Rattle.std.proofs.Common.{◌≡◌, ◌<◌, ◌≤◌, ◌+◌, ℕ, Bool, true, List, Option, Some, None, length}
use Rattle.std.proofs.Common.{refl, sym, ◌∙◌, ap, subst, arith, ⊎_elim}
use Rattle.std.specs.Prelude.{slice_get, option_and_then}
use Rattle.std.proofs.lemmas.Bool.{cases_lt, lt-ltb, le-ltb}
use Rattle.ir.specs.declared.instruction.Instruction.TheVariants.{Return}
use Rattle.ir.specs.declared.function.IrFunction.{IrFunction}
use Rattle.ir.specs.declared.function.Ir.{Ir}
use Rattle.ir.specs.declared.fact.Fact.{Fact}
use Rattle.ir.specs.Places.{ReturnsAt}
use Rattle.ir.specs.WellFormed.{IsWellFormed}
use Rattle.clobber_pass.specs.declared.topic.Topic.{Topic}
use Rattle.clobber_pass.specs.inside.Class.{Class, class_at, slot}
use Rattle.clobber_pass.specs.inside.Told.{row_width, column_of, column, parameters_at, Fits}
use Rattle.clobber_pass.specs.inside.Told.{Matters}
use Rattle.clobber_pass.specs.inside.Closed.{row_reaching, seen_in_row, told_in, Shaped, pass_in}
use Rattle.clobber_pass.specs.inside.Closed.{entry_row, EndedIn}
use Rattle.clobber_pass.specs.inside.Sound.{SoundExits}
use Rattle.clobber_pass.specs.inside.Calling.{IsCalled, CalledEnded}
use Rattle.clobber_pass.specs.inside.Law.{StaysTold, TellsPasses, AllPass}
use Rattle.clobber_pass.proofs.steps.Fits.{registers_there, parameters_there}
use Rattle.clobber_pass.proofs.derived.Columns.{length_entry, entry_in, length_made, made_shaped}
use Rattle.clobber_pass.proofs.closed.Reached.{slot_inside, wide, next_told}
use Rattle.clobber_pass.proofs.closed.Stays.{stays_told, code_of, end_told}
use Rattle.clobber_pass.proofs.closed.Told.{all_pass}

column_few : (n s : ℕ) → column_of n s < n + 2
column_few n s = ⊎_elim inside outside (cases_lt s (n + 2))
  where
    inside : s < n + 2 → column_of n s < n + 2
    inside less = rw (lt-ltb s (n + 2) less) less

    outside : n + 2 ≤ s → column_of n s < n + 2
    outside past = let few : 0 < n + 2 = omega arith in rw (le-ltb s (n + 2) past) few

module _ (ir : Ir) (well : IsWellFormed ir) (topic : Topic) (exits : List (List (List ℕ)))
    (sound : SoundExits ir.functions topic exits)
    (ended : CalledEnded ir.functions topic exits) (x : ℕ) (few : x < 16) where
  abbrev class : Class
  class = class_at topic x

  in_column : (f : ℕ) (called : IsCalled ir.functions f) (e : Fact) (u : IrFunction)
      → slice_get ir.functions f ≡ Some u
      → EndedIn topic exits f (column (parameters_at ir.functions f) e) u
  in_column f called e u there =
      (ended f called (column (parameters_at ir.functions f) e)
      (column_few (parameters_at ir.functions f) (slot e))).ends u there

  abbrev told_by : (f : ℕ) (called : IsCalled ir.functions f) (e : Fact) (o : Option IrFunction)
      → slice_get ir.functions f ≡ o → ℕ → Fact → Bool
  told_by f called e None is p b = true
  told_by f called e (Some u) is p b =
      told_in topic exits (in_column f called e u is).rows
      (entry_row topic u.parameters u.registers (column (parameters_at ir.functions f) e))
      u.code x p b

  abbrev told : (f : ℕ) → IsCalled ir.functions f → Fact → ℕ → Fact → Bool
  told f called e p b = told_by f called e (slice_get ir.functions f) refl p b

  module _ (f : ℕ) (called : IsCalled ir.functions f) (e : Fact) (u : IrFunction)
      (there : slice_get ir.functions f ≡ Some u) where
    abbrev c : ℕ
    c = column (parameters_at ir.functions f) e

    abbrev rows : List (List ℕ)
    rows = (in_column f called e u there).rows

    abbrev entry : List ℕ
    entry = entry_row topic u.parameters u.registers c

    shape : Shaped (row_width topic u.registers) rows
    shape = made_shaped ir well topic exits sound f u there c (in_column f called e u there).made

    count : length rows ≡ length u.code + 1
    count = length_made topic exits entry u.code (in_column f called e u there).made

    size : length entry ≡ row_width topic u.registers
    size = length_entry topic u.parameters u.registers c

    begins_there : Matters ir.functions class f e
        → seen_in_row x (slot e) (row_reaching topic exits rows entry 0 u.code 0) ≡ true
    begins_there h =
        let fits : Fits u.registers e =
        subst (λ n. Fits n e) (registers_there ir well f u there) h.1 in
        let inside : slot e < row_width topic u.registers =
        slot_inside topic u.registers x e h.0 fits in
        let same : column_of u.parameters (slot e) ≡ c =
        ap (λ n. column_of n (slot e)) (sym (parameters_there ir well f u there)) in
        next_told topic exits (length u.code) rows (row_width topic u.registers)
        (wide topic u.registers) shape x u.code entry 0 (slot e)
        (in_column f called e u there).closed size inside
        (entry_in topic u.parameters u.registers c (slot e) x few inside same)

    stays_there : StaysTold ir.functions class (pass_in ir.functions exits x) f
        (told_in topic exits rows entry u.code x)
    stays_there = stays_told ir well topic exits x few f u there rows entry shape count size
        (in_column f called e u there).closed

    ends_there : (q : ℕ) (y : Fact) → Matters ir.functions class f y → ReturnsAt ir.functions f q
        → told_in topic exits rows entry u.code x q y ≡ true
        → pass_in ir.functions exits x f e y ≡ true
    ends_there q y h (from, is) t =
        (in_column f called e u there).told x (slot y)
        (end_told ir well topic exits x few f u there rows entry shape count size
        (in_column f called e u there).closed q from y
        (code_of ir well topic exits x few f u there rows entry shape count size
        (in_column f called e u there).closed q (Return from) is) h t)

  begins_by : (f : ℕ) (called : IsCalled ir.functions f) (e : Fact) (o : Option IrFunction)
      (is : slice_get ir.functions f ≡ o) → Matters ir.functions class f e
      → told_by f called e o is 0 e ≡ true
  begins_by f called e None is h = refl
  begins_by f called e (Some u) is h = begins_there f called e u is h

  stays_by : (f : ℕ) (called : IsCalled ir.functions f) (e : Fact) (o : Option IrFunction)
      (is : slice_get ir.functions f ≡ o)
      → StaysTold ir.functions class (pass_in ir.functions exits x) f (told_by f called e o is)
  stays_by f called e None is = record {
    along = λ p q i a b is to m h t. refl;
    through = λ p g to args y z b call hy h pass same t. refl;
    past = λ p g to args b call h pass same t. refl;
  }
  stays_by f called e (Some u) is = stays_there f called e u is

  ends_by : (f : ℕ) (called : IsCalled ir.functions f) (e : Fact) (o : Option IrFunction)
      (is : slice_get ir.functions f ≡ o) (q : ℕ) (y : Fact) → Matters ir.functions class f y
      → ReturnsAt ir.functions f q → told_by f called e o is q y ≡ true
      → pass_in ir.functions exits x f e y ≡ true
  ends_by f called e None is q y h (from, there) t =
      nowhere (sym (ap (λ o. option_and_then (λ (u : IrFunction). slice_get u.code q) o) is)
      ∙ there)
    where
      nowhere : None ≡ Some (Return from) → pass_in ir.functions exits x f e y ≡ true
      nowhere no_way = absurd cc
  ends_by f called e (Some u) is q y h ret t = ends_there f called e u is q y h ret t

  tells_passes : TellsPasses ir.functions class (pass_in ir.functions exits x) told
  tells_passes = record {
    begins = λ f called e h. begins_by f called e (slice_get ir.functions f) refl h;
    stays = λ f called e h. stays_by f called e (slice_get ir.functions f) refl;
    ends = λ f called q e y he hy ret t. ends_by f called e (slice_get ir.functions f) refl q
        y hy ret t;
  }

  pub exits_tell_all : AllPass ir.functions class (pass_in ir.functions exits x)
  exits_tell_all = all_pass ir well class (pass_in ir.functions exits x) told tells_passes
