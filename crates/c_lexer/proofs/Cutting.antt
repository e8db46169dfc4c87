-- The cut at a place: the effect of its first piece, and the cut after that piece.
use Rattle.std.proofs.Common.{◌≡◌, ℕ, zero, suc, ◌-◌, ◌<◌, ◌≤◌, List, [], ◌∷◌, length, take, drop}
use Rattle.std.proofs.Common.{get_or, sub-one, arith, refl}
use Rattle.std.specs.Prelude.{Ok}
use Rattle.c_lexer.specs.declared.spot.Spot.{Spot}
use Rattle.c_lexer.specs.Cuts.{Cut, begin_piece, cut_left, end_of}
use Rattle.c_lexer.specs.Next.{next_piece}
use Rattle.c_lexer.specs.Spots.{past_byte}
use Rattle.c_lexer.specs.inside.Spots.{spot_past}

-- the cut after the bytes that lie inside a piece
pub cut_inside : (inside : ℕ) (spot : Spot) (left : List ℕ) →
    cut_left inside spot left ≡ cut_left 0 (spot_past spot (take inside left)) (drop inside left)
unfolding cut_left
cut_inside zero spot [] = refl
cut_inside zero spot (b ∷ bs) = refl
cut_inside (suc inside) spot [] = refl
cut_inside (suc inside) spot (b ∷ bs) = cut_inside inside (past_byte spot b) bs

-- the cut after the first byte of a piece, of which n bytes remain
abbrev pub after_first : Spot → List ℕ → ℕ → Cut
after_first spot left inside = cut_left inside (past_byte spot (get_or left 0 0)) (drop 1 left)

-- the cut begins with the piece at this place
pub cut_begins : (spot : Spot) (left : List ℕ) → 0 < length left →
    cut_left 0 spot left ≡ begin_piece (next_piece spot left) spot (after_first spot left)
unfolding cut_left
cut_begins spot [] some = absurd (omega arith)
cut_begins spot (b ∷ bs) some = refl

-- the cut goes on after the last byte of the piece
pub cut_goes_on : (spot : Spot) (left : List ℕ) (width : ℕ) → 0 < width → width ≤ length left →
    after_first spot left (width - 1) ≡ cut_left 0 (spot_past spot (take width left))
    (drop width left)
cut_goes_on spot [] width some within = absurd (omega arith)
cut_goes_on spot (b ∷ bs) zero some within = absurd (omega arith)
cut_goes_on spot (b ∷ bs) (suc n) some within = rw sub-one (cut_inside n (past_byte spot b) bs)

pub cut_ends : (spot : Spot) (left : List ℕ) → length left ≡ 0 →
    cut_left 0 spot left ≡ record { tokens = []; ending = Ok (end_of spot) }
unfolding cut_left
cut_ends spot [] none = refl
cut_ends spot (b ∷ bs) none = absurd (omega arith)
