-- The piece at a place: a comment, a blank, a skipped line, a number, a name or word, or the
-- longest mark that fits; or the refusal of the byte there. `left` is the text from the place on,
-- which isn't empty.
use Rattle.std.specs.Prelude.{ℕ, ℤ, List, take, ◌<◌, ◌≤◌, Option, Some, None, nat_eq, ◌&&◌, ◌||◌}
use Rattle.std.specs.Prelude.{if◌then◌else◌, codes, slice_index}
use Rattle.std.specs.List.{starts_with}
use Rattle.std.specs.Char.{is_ascii_digit}
use Rattle.c_lexer.specs.declared.fault.LexFault.TheVariants.{BadByte, BadNumber, OpenComment}
use Rattle.c_lexer.specs.declared.piece.Piece.{Piece}
use Rattle.c_lexer.specs.declared.piece.Piece.TheVariants.{Skips, Spells, Refuses}
use Rattle.c_lexer.specs.declared.spot.Spot.{Spot}
use Rattle.c_lexer.specs.declared.token.Mark.{Mark}
use Rattle.c_lexer.specs.declared.token.Token.TheVariants as token
use Rattle.c_lexer.specs.Bytes.{is_blank, begins_name, run_len, line_len}
use Rattle.c_lexer.specs.Comments.{comment_len, begins_include}
use Rattle.c_lexer.specs.Marks.{mark_at}
use Rattle.c_lexer.specs.Numbers.{number_of}
use Rattle.c_lexer.specs.Words.{word_token}

-- the run of letters, digits and `_` at the front
abbrev pub run_of : List ℕ → List ℕ
run_of left = take (run_len left) left

abbrev pub comment_piece : Spot → Option ℕ → Piece
comment_piece spot None = Refuses (OpenComment spot.line spot.at)
comment_piece spot (Some width) = Skips width

abbrev pub number_piece : Spot → ℕ → Option ℤ → Piece
number_piece spot width None = Refuses (BadNumber spot.line spot.at)
number_piece spot width (Some value) = Spells width (token.Number value)

abbrev pub mark_piece : Spot → Option (ℕ × Mark) → Piece
mark_piece spot None = Refuses (BadByte spot.line spot.at)
mark_piece spot (Some (width, mark)) = Spells width (token.Mark mark)

unfoldable pub next_piece : Spot → List ℕ → Piece
next_piece spot left =
    if is_blank (slice_index left 0) then Skips 1
    else (if starts_with nat_eq left (codes "//") || (spot.fresh && begins_include left)
    then Skips (line_len left)
    else (if starts_with nat_eq left (codes "/*") then comment_piece spot (comment_len left)
    else (if is_ascii_digit (slice_index left 0)
    then number_piece spot (run_len left) (number_of (run_of left))
    else (if begins_name (slice_index left 0) then Spells (run_len left) (word_token (run_of left))
    else mark_piece spot (mark_at left)))))
