-- With more pieces that pass calls, what kept the rules still keeps them.
use Rattle.std.proofs.Common.{◌≡◌, ◌<◌, ◌+◌, ◌&&◌, ◌||◌, ◌++◌, ℕ, zero, suc, Bool, true, false}
use Rattle.std.proofs.Common.{List, [], ◌∷◌, Option, Some, None, length, refl, sym, ap, subst}
use Rattle.std.proofs.Common.{arith, inl, inr, ⊎_elim}
use Rattle.std.specs.Prelude.{slice_get, take}
use Rattle.std.proofs.lemmas.Bool.{false≢true, and_parts, and_from, or_cases, or_left, or_right}
use Rattle.std.proofs.lemmas.List.{take-append-le}
use Rattle.std.proofs.Math.Seq.{take-append_seam}
use mathlib.Core.Logic.{◌⊎◌}
use Rattle.ir.specs.declared.instruction.Instruction.{Instruction}
use Rattle.ir.specs.declared.function.IrFunction.{IrFunction}
use Rattle.ir.specs.declared.function.Ir.{Ir}
use Rattle.ir.specs.declared.fact.Origins.{Origins}
use Rattle.ir.specs.declared.site.Site.{Site}
use Rattle.walk_check.specs.declared.certificate.Step.{Step}
use Rattle.walk_check.specs.declared.certificate.Piece.{Piece}
use Rattle.walk_check.specs.inside.Grown.{ArePassing, Grows}
use Rattle.walk_check.specs.inside.Grown.ArePassing.{no_piece, one_more}
use Rattle.walk_check.specs.inside.Grown.Grows.{stays, grows}
use Rattle.walk_check.specs.Keeps.{goes_past, follows, begins_piece, chain, steps_keep, piece_keeps}
use Rattle.walk_check.specs.Keeps.{passing_keeps, pieces_keep, walk_keeps, bad_piece}

pub grows_on : {ps qs rs : List Piece} → Grows ps qs → Grows qs rs → Grows ps rs
grows_on g stays = g
grows_on g (grows p h) = grows p (grows_on g h)

pub slice_get_more : {X : Type 0} (xs : List X) (y : X) (n : ℕ) (x : X) → slice_get xs n ≡ Some x
    → slice_get (xs ++ y ∷ []) n ≡ Some x
slice_get_more [] y n x is = absurd cc
slice_get_more (z ∷ xs) y zero x is = is
slice_get_more (z ∷ xs) y (suc n) x is = slice_get_more xs y n x is

past_more : (ps : List Piece) (p : Piece) (o : Option Instruction) (q : Option Piece) (n : ℕ)
    (a b : Step) → slice_get ps n ≡ q → goes_past o q a b ≡ true
    → goes_past o (slice_get (ps ++ p ∷ []) n) a b ≡ true
past_more ps p None q n a b is h = absurd (false≢true h)
past_more ps p (Some i) None n a b is h = absurd (false≢true h)
past_more ps p (Some i) (Some q) n a b is h = rw (slice_get_more ps p n q is) h

pub follows_more : (ps : List Piece) (p : Piece) (u : IrFunction) (a b : Step) (through : Option ℕ)
    → follows ps u a b through ≡ true → follows (ps ++ p ∷ []) u a b through ≡ true
follows_more ps p u a b None h = h
follows_more ps p u a b (Some n) h =
    past_more ps p (slice_get u.code a.place) (slice_get ps n) n a b refl h

chain_more : (ps : List Piece) (p : Piece) (opens : Bool) (u : IrFunction) (entry : Bool)
    (a : Step) (rest : List Step) → chain ps opens u entry a rest ≡ true
    → chain (ps ++ p ∷ []) opens u entry a rest ≡ true
chain_more ps p opens u entry a [] h = h
chain_more ps p opens u entry a (b ∷ rest) h =
    let parts = and_parts _ _ h in
    let link : ((entry && begins_piece opens u a b) || follows (ps ++ p ∷ []) u a b a.through)
    ≡ true =
    ⊎_elim
    (λ e. or_left (entry && begins_piece opens u a b) (follows (ps ++ p ∷ []) u a b a.through) e)
    (λ e. or_right (entry && begins_piece opens u a b) (follows (ps ++ p ∷ []) u a b a.through)
    (follows_more ps p u a b a.through e))
    (or_cases _ _ parts.0) in
    and_from _ _ link (chain_more ps p opens u false b rest parts.1)

pub chain_grown : {ps qs : List Piece} (opens : Bool) (u : IrFunction) (entry : Bool) (a : Step)
    (rest : List Step) → Grows ps qs → chain ps opens u entry a rest ≡ true
    → chain qs opens u entry a rest ≡ true
chain_grown opens u entry a rest stays h = h
chain_grown opens u entry a rest (grows {qs = qs} p g) h =
    chain_more qs p opens u entry a rest (chain_grown opens u entry a rest g h)

steps_more : (ir : Ir) (ps : List Piece) (p : Piece) (opens : Bool) (steps : List Step)
    (u : Option IrFunction) → steps_keep ir ps opens steps u ≡ true
    → steps_keep ir (ps ++ p ∷ []) opens steps u ≡ true
steps_more ir ps p opens steps None h = absurd (false≢true h)
steps_more ir ps p opens [] (Some u) h = absurd (false≢true h)
steps_more ir ps p opens (a ∷ rest) (Some u) h =
    let parts = and_parts _ _ h in
    let more = and_parts _ _ parts.1 in
    and_from _ _ parts.0 (and_from _ _ more.0 (chain_more ps p opens u true a rest more.1))

piece_more : (ir : Ir) (ps : List Piece) (p : Piece) (opens : Bool) (a : Piece)
    → piece_keeps ir ps opens a ≡ true → piece_keeps ir (ps ++ p ∷ []) opens a ≡ true
piece_more ir ps p opens a h =
    steps_more ir ps p opens a.steps (slice_get ir.functions a.function) h

pieces_more : (ir : Ir) (ps : List Piece) (p : Piece) (site : Site) (ends : Origins)
    (opens : Bool) (a : Piece) (rest : List Piece)
    → pieces_keep ir ps site ends opens a rest ≡ true
    → pieces_keep ir (ps ++ p ∷ []) site ends opens a rest ≡ true
pieces_more ir ps p site ends opens a [] h =
    let parts = and_parts _ _ h in
    and_from _ _ (piece_more ir ps p opens a parts.0) parts.1
pieces_more ir ps p site ends opens a (b ∷ rest) h =
    let parts = and_parts _ _ h in
    let more = and_parts _ _ parts.1 in
    and_from _ _ (piece_more ir ps p opens a parts.0)
    (and_from _ _ more.0 (pieces_more ir ps p site ends false b rest more.1))

pub pieces_grown : {ps qs : List Piece} (ir : Ir) (site : Site) (ends : Origins) (opens : Bool)
    (a : Piece) (rest : List Piece) → Grows ps qs
    → pieces_keep ir ps site ends opens a rest ≡ true
    → pieces_keep ir qs site ends opens a rest ≡ true
pieces_grown ir site ends opens a rest stays h = h
pieces_grown ir site ends opens a rest (grows {qs = qs} p g) h =
    pieces_more ir qs p site ends opens a rest (pieces_grown ir site ends opens a rest g h)

pub walk_grown : {ps qs : List Piece} (ir : Ir) (site : Site) (ends : Origins)
    (pieces : List Piece) → Grows ps qs → walk_keeps ir ps site ends pieces ≡ true
    → walk_keeps ir qs site ends pieces ≡ true
walk_grown ir site ends [] g h = absurd (false≢true h)
walk_grown ir site ends (a ∷ rest) g h =
    let parts = and_parts _ _ h in
    and_from _ _ parts.0 (pieces_grown ir site ends true a rest g parts.1)

-- the checker finds no fault in them
module _ (ir : Ir) where
  abbrev EachKeeps : List Piece → Type 0
  EachKeeps ps = (k : ℕ) (piece : Piece) → slice_get ps k ≡ Some piece
      → passing_keeps ir (take k ps) piece ≡ true

  split_last : {X : Type 0} (xs : List X) (y : X) (k : ℕ) (x : X)
      → slice_get (xs ++ y ∷ []) k ≡ Some x
      → ((k < length xs) × (slice_get xs k ≡ Some x)) ⊎ ((k ≡ length xs) × (y ≡ x))
  split_last [] y zero x is = let e : y ≡ x = cc in inr (refl, e)
  split_last [] y (suc k) x is = absurd cc
  split_last (z ∷ xs) y zero x is = inl (omega arith, is)
  split_last (z ∷ xs) y (suc k) x is =
      ⊎_elim
      (λ e. let less : k < length xs = e.0 in inl (omega arith, e.1))
      (λ e. let same : k ≡ length xs = e.0 in inr (ap suc same, e.1))
      (split_last xs y k x is)

  each_keeps : {ps : List Piece} → ArePassing ir ps → EachKeeps ps
  each_keeps no_piece k piece is = absurd cc
  each_keeps (one_more {ps = ps} p all keeps) k piece is =
      ⊎_elim
      (λ e. let less : k < length ps = e.0 in
      subst (λ xs. passing_keeps ir xs piece ≡ true)
      (sym (take-append-le k ps (p ∷ []) (omega arith))) (each_keeps all k piece e.1))
      (λ e. let last : k ≡ length ps = e.0 in
      let whole : take k (ps ++ p ∷ []) ≡ ps = rw last (take-append_seam ps (p ∷ [])) in
      subst (λ xs. passing_keeps ir xs piece ≡ true) (sym whole)
      (subst (λ x. passing_keeps ir ps x ≡ true) e.1 keeps))
      (split_last ps p k piece is)

  none_bad : (ps : List Piece) (n : ℕ) (rest : List Piece)
      → ((k : ℕ) (piece : Piece) → slice_get rest k ≡ Some piece
      → passing_keeps ir (take (n + k) ps) piece ≡ true) → bad_piece ir ps n rest ≡ None
  none_bad ps n [] all = refl
  none_bad ps n (a ∷ rest) all =
      let first : passing_keeps ir (take (n + 0) ps) a ≡ true = all 0 a refl in
      let sum : n + 0 ≡ n = omega arith in
      let keeps : passing_keeps ir (take n ps) a ≡ true =
      subst (λ m. passing_keeps ir (take m ps) a ≡ true) sum first in
      rw keeps (none_bad ps (n + 1) rest (λ k piece is.
      let more : n + suc k ≡ (n + 1) + k = omega arith in
      subst (λ m. passing_keeps ir (take m ps) piece ≡ true) more (all (suc k) piece is)))

  pub no_bad_piece : (ps : List Piece) → ArePassing ir ps → bad_piece ir ps 0 ps ≡ None
  no_bad_piece ps all = none_bad ps 0 ps (λ k piece is.
      let same : k ≡ 0 + k = omega arith in
      subst (λ m. passing_keeps ir (take m ps) piece ≡ true) same (each_keeps all k piece is))
