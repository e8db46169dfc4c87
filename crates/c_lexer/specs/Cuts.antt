-- How a text is cut into pieces. Each byte lies inside a piece that began before it, or begins the
-- next one; so the pieces follow one another up to the end of the text or the first refusal.
-- Blanks, comments and skipped lines give no token; a token is kept with the line on which it
-- begins and the number of bytes before it.
use Rattle.std.specs.Prelude.{◌≡◌, ℕ, zero, suc, List, [], ◌∷◌, ◌++◌, length, ◌-◌, ◌≤◌, Result, Ok}
use Rattle.std.specs.Prelude.{Err, nat_lt, if◌then◌else◌}
use Rattle.c_lexer.specs.declared.fault.LexFault.{LexFault}
use Rattle.c_lexer.specs.declared.fault.LexFault.TheVariants.{TooLong}
use Rattle.c_lexer.specs.declared.piece.Piece.{Piece}
use Rattle.c_lexer.specs.declared.piece.Piece.TheVariants.{Skips, Spells, Refuses}
use Rattle.c_lexer.specs.declared.spot.Spot.{Spot}
use Rattle.c_lexer.specs.declared.token.Placed.{Placed}
use Rattle.c_lexer.specs.declared.token.Token.{Token}
use Rattle.c_lexer.specs.Next.{next_piece}
use Rattle.c_lexer.specs.Spots.{text_start, past_byte}
use Rattle.c_lexer.specs.TokenList.{Tokens}
use Rattle.c_lexer.specs.declared.scan.TheConstants.{MOST_BYTES, MOST_TOKENS}

-- the end of a text: its line, and the number of bytes before it
pub record TextEnd : Type 0 where
  pub line : ℕ
  pub size : ℕ

-- the tokens up to the end or the first refusal, and the place of the end or that refusal
pub record Cut : Type 0 where
  pub tokens : List Placed
  pub ending : Result TextEnd LexFault

-- a token that begins here
abbrev pub placed_at : Spot → Token → Placed
placed_at spot token = record { token = token; line = spot.line; start = spot.at }

-- the text ends here
abbrev pub end_of : Spot → TextEnd
end_of spot = record { line = spot.line; size = spot.at }

-- the cut at a piece that begins here, where `go n` is the cut after it if n of its bytes remain
abbrev pub begin_piece : Piece → Spot → (ℕ → Cut) → Cut
begin_piece (Skips width) spot go = go (width - 1)
begin_piece (Spells width token) spot go =
    let rest = go (width - 1) in
    record { tokens = placed_at spot token ∷ rest.tokens; ending = rest.ending }
begin_piece (Refuses fault) spot go = record { tokens = []; ending = Err fault }

-- the cut of the remaining bytes, of which the first `inside` lie inside a piece that began before
unfoldable pub cut_left : ℕ → Spot → List ℕ → Cut
cut_left inside spot [] = record { tokens = []; ending = Ok (end_of spot) }
cut_left (suc inside) spot (b ∷ bs) = cut_left inside (past_byte spot b) bs
cut_left zero spot (b ∷ bs) = begin_piece (next_piece spot (b ∷ bs)) spot (λ inside.
    cut_left inside (past_byte spot b) bs)

abbrev pub cut : List ℕ → Cut
cut text = cut_left 0 text_start text

-- the whole text is cut into these tokens, and ends at this place
abbrev pub Cuts : List ℕ → Tokens → Type 0
Cuts text list =
    cut text
    ≡ record { tokens = list.tokens; ending = Ok (record { line = list.last; size = list.size }) }

-- the limits: 262,144 bytes and 16,384 tokens
pub record IsWithinLimits (text : List ℕ) (list : Tokens) : Type 0 where
  pub bytes : length text ≤ MOST_BYTES
  pub count : length list.tokens ≤ MOST_TOKENS

-- the answer: too many bytes are refused before all else, and the 16,385th token is refused where
-- it begins
abbrev pub lex_answer : List Placed → Result TextEnd LexFault → Result Tokens LexFault
lex_answer tokens (Ok end) =
    Ok (record { tokens = tokens; last = end.line; size = end.size })
lex_answer tokens (Err fault) = Err fault

abbrev pub limited : Cut → Result Tokens LexFault
limited c = if nat_lt MOST_TOKENS (length c.tokens) then Err TooLong
    else lex_answer c.tokens c.ending

abbrev pub answer : List ℕ → Result Tokens LexFault
answer text = if nat_lt MOST_BYTES (length text) then Err TooLong else limited (cut text)
