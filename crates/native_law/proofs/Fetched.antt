-- What is fetched: the statement of the instruction.
use Rattle.std.proofs.Common.{◌≡◌, ℕ, zero, suc, ◌+◌, refl, sym, ◌∙◌, ap, subst, arith}
use Rattle.std.proofs.Common.{Option, Some, List, [], ◌∷◌, length, map, ◌<◌}
use Rattle.std.specs.Prelude.{slice_get}
use Rattle.cache_model.specs.Cache.{Words}
use Rattle.pm_machine.specs.declared.op.Op.{Op}
use Rattle.pm_machine.specs.declared.image.Image.{Image}
use Rattle.pm_machine.specs.Machine.{State, execute, fetch, fetch_in}
use Rattle.pm_machine.specs.Logging.{turn, turn_of}
use Rattle.c_fragment.specs.Statement.{CFunction}
use Rattle.c_fragment.specs.State.{CState}
use Rattle.c_fragment.specs.Meaning.{CStep, c_does, c_step, done_in, statement_done}
use Rattle.c_fragment.specs.Translation.{statement_of, statements_from, c_function}
use Rattle.native_law.specs.Printed.{IsPrintable}
use Rattle.native_law.specs.inside.Standing.{MirrorsState, TurnsAgree}
use Rattle.native_law.proofs.Steps.{straight, mapped}

statement_at : (q : ℕ) (ops : List Op) (i : ℕ) (op : Op) → slice_get ops i ≡ Some op
    → slice_get (statements_from q ops) i ≡ Some (statement_of (q + i) op)
statement_at q [] i op e = absurd (cc)
statement_at q (o ∷ ops) zero op e =
    let same : o ≡ op = cc in let k : q ≡ q + 0 = omega arith in
    ap (λ (x : Op). Some (statement_of q x)) same ∙ ap (λ (m : ℕ). Some (statement_of m op)) k
statement_at q (o ∷ ops) (suc i) op e =
    let k : q + 1 + i ≡ q + suc i = omega arith in
    statement_at (q + 1) ops i op e ∙ ap (λ (m : ℕ). Some (statement_of m op)) k

length_same : (q : ℕ) (ops : List Op) → length (statements_from q ops) ≡ length ops
length_same q [] = refl
length_same q (o ∷ ops) = ap suc (length_same (q + 1) ops)

found_at : (ops : List Op) (i : ℕ) → i < length ops → (op : Op) × (slice_get ops i ≡ Some op)
found_at [] i low = absurd (omega (arith, low))
found_at (o ∷ ops) zero low = (o, refl)
found_at (o ∷ ops) (suc i) low = found_at ops i (omega (arith, low))

module _ (image : Image) (heap : Words) (s : State) (c : CState)
    (code : IsPrintable image.parts.functions) (stands : MirrorsState image heap s c) where
  abbrev file : List CFunction
  file = map c_function image.parts.functions

  -- the instruction that is fetched
  pub found_here : (op : Op) × (slice_get stands.top.u.code s.top.place ≡ Some op)
  found_here = found_at stands.top.u.code s.top.place stands.top.inside

  -- the statement of the instruction is done
  pub step_is : (op : Op) → slice_get stands.top.u.code s.top.place ≡ Some op
      → c_step image.parts.sizes file c
      ≡ c_does image.parts.sizes file (length stands.top.u.code) c (statement_of s.top.place op)
  step_is op at =
      let z = image.parts.sizes in
      let u = stands.top.u in
      let found : slice_get file c.function ≡ Some (c_function u) =
      ap (λ (f : ℕ). slice_get file f) stands.top.function
      ∙ mapped image.parts.functions s.top.function u stands.top.found in
      let plus : 0 + s.top.place ≡ s.top.place = omega arith in
      let line : slice_get (statements_from 0 u.code) c.place ≡ Some (statement_of s.top.place op) =
      ap (λ (p : ℕ). slice_get (statements_from 0 u.code) p) stands.top.place
      ∙ statement_at 0 u.code s.top.place op at
      ∙ ap (λ (m : ℕ). Some (statement_of m op)) plus in
      ap (done_in z file c) found
      ∙ ap (λ (m : ℕ). statement_done z file m c (slice_get (statements_from 0 u.code) c.place))
      (length_same 0 u.code)
      ∙ ap (statement_done z file (length u.code) c) line

  -- the next step
  pub steps_agree : TurnsAgree image heap (turn_of image c.logging s heap)
      (c_step image.parts.sizes file c)
  steps_agree =
      let z = image.parts.sizes in
      let op : Op = found_here.0 in
      let fetched : fetch image s ≡ Some op =
      ap (fetch_in s.top.place) stands.top.found ∙ found_here.1 in
      subst (λ (o : Option Op). TurnsAgree image heap
      (turn z.records c.logging (execute image heap s o)) (c_step z file c)) (sym fetched)
      (subst (λ (x : CStep). TurnsAgree image heap
      (turn z.records c.logging (execute image heap s (Some op))) x) (sym (step_is op found_here.1))
      (straight image heap s c code stands op found_here.1))
