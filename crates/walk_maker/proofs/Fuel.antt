-- One step of each reading.
use Rattle.std.proofs.Common.{◌≡◌, ◌<◌, ◌≤◌, ◌+◌, ◌-◌, ◌++◌, [], ◌∷◌, ℕ}
use Rattle.std.proofs.Common.{zero, suc, Bool, false, List}
use Rattle.std.proofs.Common.{Some, None, length, refl, sym, ◌∙◌, ap, subst, arith, append_assoc}
use Rattle.std.proofs.lemmas.List.{append-nil}
use Rattle.walk_check.specs.declared.certificate.Step.{Step}
use Rattle.walk_check.specs.declared.certificate.Piece.{Piece}
use Rattle.walk_maker.specs.inside.Table.{step_of}
use Rattle.walk_maker.specs.inside.Reading.{next_of, steps_on}
use Rattle.std.specs.Prelude.{slice_get, drop}
use Rattle.ir.specs.declared.function.IrFunction.{IrFunction}
use Rattle.walk_maker.specs.declared.table.Entry.{Entry}
use Rattle.walk_maker.specs.inside.Reading.{next_from, steps_of, steps_at, piece_end, end_from}
use Rattle.walk_maker.specs.inside.Reading.{entered_from, piece_from, pieces_of, pieces_on}

less_one : (d c : ℕ) → c < d → d - c ≡ suc (d - (c + 1))
less_one d c less = omega arith

pub steps_more : (t : List Entry) (d c n : ℕ) → c < d
    → steps_of t (d - c) n ≡ steps_at (steps_of t (d - (c + 1))) (slice_get t n)
steps_more t d c n less = ap (λ k. steps_of t k n) (less_one d c less)

module _ (t : List Entry) (d c n : ℕ) (steps whole : List Step) (less : c < d)
    (rest : steps ++ steps_of t (d - c) n ≡ whole) where
  opened : steps ++ steps_at (steps_of t (d - (c + 1))) (slice_get t n) ≡ whole
  opened = subst (λ xs. steps ++ xs ≡ whole) (steps_more t d c n less) rest

  pub push_none : slice_get t n ≡ None → steps ≡ whole
  push_none is =
      let here : steps ++ [] ≡ whole =
      subst (λ o. steps ++ steps_at (steps_of t (d - (c + 1))) o ≡ whole) is opened in
      sym (append-nil steps) ∙ here

  pub push_last : (e : Entry) → slice_get t n ≡ Some e → next_of e.link ≡ None
      → steps ++ step_of e ∷ [] ≡ whole
  push_last e is stops =
      let here : steps ++ step_of e ∷ steps_on (steps_of t (d - (c + 1))) (next_of e.link)
      ≡ whole =
      subst (λ o. steps ++ steps_at (steps_of t (d - (c + 1))) o ≡ whole) is opened in
      subst (λ o. steps ++ step_of e ∷ steps_on (steps_of t (d - (c + 1))) o ≡ whole) stops here

  pub push_next : (e : Entry) (m : ℕ) → slice_get t n ≡ Some e → next_of e.link ≡ Some m
      → (steps ++ step_of e ∷ []) ++ steps_of t (d - (c + 1)) m ≡ whole
  push_next e m is next =
      let here : steps ++ step_of e ∷ steps_on (steps_of t (d - (c + 1))) (next_of e.link)
      ≡ whole =
      subst (λ o. steps ++ steps_at (steps_of t (d - (c + 1))) o ≡ whole) is opened in
      append_assoc steps (step_of e ∷ []) (steps_of t (d - (c + 1)) m)
      ∙ subst (λ o. steps ++ step_of e ∷ steps_on (steps_of t (d - (c + 1))) o ≡ whole) next here

pub end_more : (t : List Entry) (d c n : ℕ) → c < d
    → piece_end t (d - c) n ≡ end_from (piece_end t (d - (c + 1))) n (next_from (slice_get t n))
end_more t d c n less = ap (λ k. piece_end t k n) (less_one d c less)

pub pieces_more : (functions : List IrFunction) (t : List Entry) (d c : ℕ) (opens : Bool) (n : ℕ)
    → c < d → pieces_of functions t (d - c) opens n
    ≡ piece_from functions t opens n ∷ pieces_on (pieces_of functions t (d - (c + 1)) false)
    (entered_from (slice_get t (piece_end t (length t) n)))
pieces_more functions t d c opens n less =
    ap (λ k. pieces_of functions t k opens n) (less_one d c less)

pub pieces_next : (functions : List IrFunction) (t : List Entry) (d c : ℕ) (opens : Bool)
    (n m : ℕ) (pieces whole : List Piece) → c < d
    → entered_from (slice_get t (piece_end t (length t) n)) ≡ Some m
    → pieces ++ pieces_of functions t (d - c) opens n ≡ whole
    → (pieces ++ piece_from functions t opens n ∷ []) ++ pieces_of functions t (d - (c + 1)) false m
    ≡ whole
pieces_next functions t d c opens n m pieces whole less enters rest =
    let opened : pieces ++ piece_from functions t opens n
    ∷ pieces_on (pieces_of functions t (d - (c + 1)) false)
    (entered_from (slice_get t (piece_end t (length t) n))) ≡ whole =
    subst (λ xs. pieces ++ xs ≡ whole) (pieces_more functions t d c opens n less) rest in
    append_assoc pieces (piece_from functions t opens n ∷ [])
    (pieces_of functions t (d - (c + 1)) false m)
    ∙ subst (λ o. pieces ++ piece_from functions t opens n
    ∷ pieces_on (pieces_of functions t (d - (c + 1)) false) o ≡ whole) enters opened

-- the rest of a list from an element on
pub drop_at : {X : Type 0} (xs : List X) (i : ℕ) (x : X) → slice_get xs i ≡ Some x
    → drop i xs ≡ x ∷ drop (i + 1) xs
drop_at [] i x is = absurd cc
drop_at {X} (y ∷ ys) zero x is = let same : y ≡ x = cc in
    rw (sym same, one_drop ys y) refl
  where
    one_drop : {X : Type 0} (ys : List X) (y : X) → drop (0 + 1) (y ∷ ys) ≡ ys
    one_drop ys y = refl
drop_at {X} (y ∷ ys) (suc i) x is = rw (suc_drop ys i y) (drop_at ys i x is)
  where
    suc_drop : {X : Type 0} (ys : List X) (i : ℕ) (y : X)
        → drop (suc i + 1) (y ∷ ys) ≡ drop (i + 1) ys
    suc_drop ys i y = let e : suc i + 1 ≡ suc (i + 1) = omega arith in
        ap (λ n. drop n (y ∷ ys)) e

pub drop_past : {X : Type 0} (xs : List X) (i : ℕ) → length xs ≤ i → drop i xs ≡ []
drop_past [] zero past = refl
drop_past [] (suc i) past = refl
drop_past (y ∷ ys) zero past = absurd (omega arith)
drop_past (y ∷ ys) (suc i) past = drop_past ys i (omega arith)
