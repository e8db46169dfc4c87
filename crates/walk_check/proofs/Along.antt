-- Every fact that a piece of a valid certificate reaches holds; and the pieces that pass calls are
-- sound.
use Rattle.std.proofs.Common.{◌≡◌, ◌<◌, ◌+◌, ◌&&◌, ℕ, zero, suc, Bool, true, false, List, [], ◌∷◌}
use Rattle.std.proofs.Common.{Option, Some, None, refl, subst, arith, inl, inr, ⊎_elim}
use Rattle.std.specs.Prelude.{slice_get, take, if◌then◌else◌}
use Rattle.std.proofs.lemmas.Bool.{false≢true, and_parts, or_cases, eqb-true, leb-true}
use Rattle.ir.specs.declared.instruction.Instruction.{Instruction}
use Rattle.ir.specs.declared.instruction.Instruction.TheVariants.{Return}
use Rattle.ir.specs.declared.function.IrFunction.{IrFunction}
use Rattle.ir.specs.declared.function.Ir.{Ir}
use Rattle.ir.specs.declared.fact.Fact.{Fact}
use Rattle.ir.specs.declared.fact.Fact.TheVariants.{Here, Unwritten, RootUnwritten, ReadRoot}
use Rattle.ir.specs.declared.fact.Fact.TheVariants.{ReadField, Freed}
use Rattle.ir.specs.Places.{instruction_at, ReturnsAt}
use Rattle.ir.specs.Derived.Passes.{starts}
use Rattle.ir.specs.WellFormed.{IsWellFormed}
use Rattle.walk_check.specs.declared.certificate.Step.{Step}
use Rattle.walk_check.specs.declared.certificate.Piece.{Piece}
use Rattle.walk_check.specs.Facts.{fact_of}
use Rattle.walk_check.specs.Keeps.{blank_step, first_step, last_step, first_fact, last_place}
use Rattle.walk_check.specs.Keeps.{last_fact}
use Rattle.walk_check.specs.Keeps.{follows, holds_at_entry, begins_piece, chain, steps_keep}
use Rattle.walk_check.specs.Keeps.{piece_keeps}
use Rattle.walk_check.specs.Keeps.{is_return, passing_keeps, bad_piece}
use Rattle.walk_check.proofs.Tests.{slice_get-take}
use Rattle.walk_check.proofs.Reach.{Reach, Passed, pass_reach}
use Rattle.walk_check.proofs.Bound.{PassSound, AllSound, follows_there}

-- what a walk has at an entry holds there
abbrev pub Begins : Ir → ℕ → (opens : Bool) → (ℕ → Fact → Type 0) → Type 0
Begins ir f opens At = (u : IrFunction) (b : Fact) → slice_get ir.functions f ≡ Some u
    → holds_at_entry opens u b ≡ true → At 0 b

module _ (ir : Ir) (well : IsWellFormed ir) (passed : List Piece) (sound : AllSound ir passed)
  where
    module _ (f : ℕ) (At : ℕ → Fact → Type 0) (reach : Reach ir f At) (opens : Bool)
        (entry_there : Begins ir f opens At) where
      begins_there : (u : IrFunction) (a b : Step) → slice_get ir.functions f ≡ Some u
          → begins_piece opens u a b ≡ true → At b.place (fact_of b.fact)
      begins_there u a b there h =
          let parts = and_parts _ _ h in
          let second = and_parts _ _ parts.1 in
          let third = and_parts _ _ second.1 in
          let at_entry : b.place ≡ 0 = eqb-true b.place 0 second.0 in
          rw at_entry (entry_there u (fact_of b.fact) there third.1)

      chain_there : (u : IrFunction) (entry : Bool) (a : Step) (rest : List Step)
          → slice_get ir.functions f ≡ Some u → chain passed opens u entry a rest ≡ true
          → At a.place (fact_of a.fact)
          → At (last_step a rest).place (fact_of (last_step a rest).fact)
      chain_there u entry a [] there h d = d
      chain_there u entry a (b ∷ rest) there h d =
          let parts = and_parts _ _ h in
          let here : At b.place (fact_of b.fact) =
          ⊎_elim
          (λ e. begins_there u a b there (and_parts entry (begins_piece opens u a b) e).1)
          (λ e. follows_there ir well f At reach passed u a b a.through there sound e d)
          (or_cases (entry && begins_piece opens u a b) (follows passed u a b a.through) parts.0) in
          chain_there u false b rest there parts.1 here

      steps_there : (steps : List Step) (u : Option IrFunction) → slice_get ir.functions f ≡ u
          → steps_keep ir passed opens steps u ≡ true → At 0 (fact_of (first_step steps).fact)
          → At (last_step blank_step steps).place (fact_of (last_step blank_step steps).fact)
      steps_there steps None there h d = absurd (false≢true h)
      steps_there [] (Some u) there h d = absurd (false≢true h)
      steps_there (a ∷ rest) (Some u) there h d =
          let parts = and_parts _ _ h in
          let more = and_parts _ _ parts.1 in
          let at_entry : a.place ≡ 0 = eqb-true a.place 0 parts.0 in
          let begun_at : At a.place (fact_of a.fact) = rw at_entry d in
          chain_there u true a rest there more.1 begun_at

    pub piece_there : (piece : Piece) (At : ℕ → Fact → Type 0) (opens : Bool)
        → Reach ir piece.function At → Begins ir piece.function opens At
        → piece_keeps ir passed opens piece ≡ true → At 0 (first_fact piece)
        → At (last_place piece) (last_fact piece)
    piece_there piece At opens reach entry_there h d =
        steps_there piece.function At reach opens entry_there piece.steps
        (slice_get ir.functions piece.function) refl h d

    -- a piece that passes calls
    return_there : (f p : ℕ) (o : Option Instruction) → instruction_at ir.functions f p ≡ o
        → is_return o ≡ true → ReturnsAt ir.functions f p
    return_there f p (Some (Return from)) is h = (from, is)
    return_there f p None is h = absurd (false≢true h)
    return_there f p (Some _) is h = absurd (false≢true h)

    entry_passed : (piece : Piece)
        → Begins ir piece.function false (Passed ir piece.function (first_fact piece))
    entry_passed piece u (Unwritten r s x) there h =
        (Unwritten r s x, inr (inr (inl (u, there, leb-true u.parameters r h))), starts)
    entry_passed piece u (RootUnwritten x) there h = absurd (false≢true h)
    entry_passed piece u Here there h = absurd (false≢true h)
    entry_passed piece u (ReadRoot x) there h = absurd (false≢true h)
    entry_passed piece u (ReadField s x) there h = absurd (false≢true h)
    entry_passed piece u Freed there h = absurd (false≢true h)

    pub passing_sound : (piece : Piece) → passing_keeps ir passed piece ≡ true → PassSound ir piece
    passing_sound piece h =
        let parts = and_parts _ _ h in
        let first = first_fact piece in
        let d =
        piece_there piece (Passed ir piece.function first) false
        (pass_reach ir piece.function first) (entry_passed piece) parts.0
        (first, inl refl, starts) in (
          d.0,
          last_place piece,
          d.1,
          d.2,
          return_there piece.function (last_place piece)
              (instruction_at ir.functions piece.function (last_place piece)) refl parts.1,
        )

module _ (ir : Ir) (well : IsWellFormed ir) (passed : List Piece) where
  -- each piece keeps the rules, together with those before it
  each_keeps : (n : ℕ) (rest : List Piece) → bad_piece ir passed n rest ≡ None
      → (k : ℕ) (piece : Piece) → slice_get rest k ≡ Some piece
      → passing_keeps ir (take (n + k) passed) piece ≡ true
  each_keeps n [] none k piece is = absurd cc
  each_keeps n (a ∷ rest) none k piece is =
      by (passing_keeps ir (take n passed) a) refl none k is
      (λ none j is. each_keeps (n + 1) rest none j piece is)
    where
      by : (t : Bool) → passing_keeps ir (take n passed) a ≡ t
          → (if t then bad_piece ir passed (n + 1) rest else Some n) ≡ None → (k : ℕ)
          → slice_get (a ∷ rest) k ≡ Some piece
          → (bad_piece ir passed (n + 1) rest ≡ None → (j : ℕ) → slice_get rest j ≡ Some piece
          → passing_keeps ir (take ((n + 1) + j) passed) piece ≡ true)
          → passing_keeps ir (take (n + k) passed) piece ≡ true
      by false keeps none k is others = absurd cc
      by true keeps none zero is others =
          let same : a ≡ piece = cc in
          let sum : n ≡ n + 0 = omega arith in
          subst (λ m. passing_keeps ir (take m passed) piece ≡ true) sum
          (subst (λ x. passing_keeps ir (take n passed) x ≡ true) same keeps)
      by true keeps none (suc k) is others =
          let sum : (n + 1) + k ≡ n + suc k = omega arith in
          subst (λ m. passing_keeps ir (take m passed) piece ≡ true) sum (others none k is)

  abbrev SoundBelow : ℕ → Type 0
  SoundBelow m = (n : ℕ) (piece : Piece) → n < m → slice_get passed n ≡ Some piece
      → PassSound ir piece

  below : (none : bad_piece ir passed 0 passed ≡ None) (m : ℕ) → SoundBelow m
  below none zero n piece less is = absurd (omega arith)
  below none (suc m) n piece less is =
      let earlier : AllSound ir (take n passed) = λ k other there. let b =
      slice_get-take n passed k other there in below none m k other (omega arith) b.1 in
      let none_before : 0 + n ≡ n = omega arith in
      passing_sound ir well (take n passed) earlier piece
      (subst (λ m. passing_keeps ir (take m passed) piece ≡ true) none_before
      (each_keeps 0 passed none n piece is))

  pub all_sound : bad_piece ir passed 0 passed ≡ None → AllSound ir passed
  all_sound none n piece is = below none (suc n) n piece (omega arith) is
