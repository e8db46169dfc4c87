-- How the answer follows from the cut of the remaining bytes, after the tokens kept so far.
use Rattle.std.proofs.Common.{◌≡◌, ℕ, ◌-◌, ◌<◌, ◌≤◌, List, length, take, drop, arith, sym, ap, ◌∙◌}
use Rattle.std.specs.Prelude.{Result, Ok, Err, IsErrAnd}
use Rattle.c_lexer.specs.declared.fault.LexFault.{LexFault}
use Rattle.c_lexer.specs.declared.piece.Piece.{Piece}
use Rattle.c_lexer.specs.declared.spot.Spot.{Spot}
use Rattle.c_lexer.specs.declared.token.Placed.{Placed}
use Rattle.c_lexer.specs.Cuts.{Cut, begin_piece, cut_left, cut, end_of, limited}
use Rattle.c_lexer.specs.inside.Cuts.{after_tokens}
use Rattle.c_lexer.specs.Next.{next_piece}
use Rattle.c_lexer.specs.inside.Spots.{spot_past}
use Rattle.c_lexer.specs.TokenList.{Tokens}
use Rattle.c_lexer.proofs.Cutting.{after_first, cut_begins, cut_goes_on, cut_ends}
use Rattle.c_lexer.proofs.Limits.{ended_well}

-- no byte is left
pub finished : (text left : List ℕ) (kept : List Placed) (spot : Spot) → length kept ≤ 16384 →
    length left ≡ 0 → after_tokens kept (cut_left 0 spot left) ≡ cut text →
    Ok (record { tokens = kept; last = spot.line; size = spot.at }) ≡ limited (cut text)
finished text left kept spot room none leads =
    sym (ap limited (sym leads)
    ∙ ap (λ (c : Cut). limited (after_tokens kept c)) (cut_ends spot left none)
    ∙ ended_well kept (end_of spot) room)

-- the piece at this place ends the cut
pub stopped : (text left : List ℕ) (kept : List Placed) (spot : Spot) (piece : Piece)
    (fault : LexFault) →
    0 < length left → piece ≡ next_piece spot left →
    after_tokens kept (cut_left 0 spot left) ≡ cut text →
    ((go : ℕ → Cut) → limited (after_tokens kept (begin_piece piece spot go)) ≡ Err fault) →
    Err fault ≡ limited (cut text)
stopped text left kept spot piece fault some is leads ends =
    sym (ap limited (sym leads)
    ∙ ap (λ (c : Cut). limited (after_tokens kept c)) (cut_begins spot left some)
    ∙ ap (λ (p : Piece). limited (after_tokens kept
    (begin_piece p spot (after_first spot left)))) (sym is)
    ∙ ends (after_first spot left))

-- the cut goes on after the piece at this place
pub gone_on : (text left : List ℕ) (kept more : List Placed) (spot : Spot) (piece : Piece)
    (width : ℕ) →
    0 < width → width ≤ length left → piece ≡ next_piece spot left →
    after_tokens kept (cut_left 0 spot left) ≡ cut text →
    ((go : ℕ → Cut) → after_tokens kept (begin_piece piece spot go) ≡ after_tokens more
    (go (width - 1))) →
    after_tokens more (cut_left 0 (spot_past spot (take width left)) (drop width left)) ≡ cut text
gone_on text left kept more spot piece width some within is leads goes =
    ap (λ (c : Cut). after_tokens more c) (sym (cut_goes_on spot left width some within))
    ∙ sym (goes (after_first spot left))
    ∙ ap (λ (p : Piece). after_tokens kept (begin_piece p spot (after_first spot left))) is
    ∙ ap (λ (c : Cut). after_tokens kept c) (sym (cut_begins spot left (omega arith)))
    ∙ leads

-- `?` passes on the fault of the called function
pub told : (answer : Result Tokens LexFault) (fault : LexFault) → IsErrAnd answer (λ e. e ≡ fault)
    → answer ≡ Err fault
told (Ok list) fault is = absurd is
told (Err e) fault is = ap (λ (f : LexFault). let made : Result Tokens LexFault = Err f in made) is
