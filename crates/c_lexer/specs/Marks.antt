-- The marks and their spellings. The mark at the front of a text is the longest that fits: the
-- table lists longer marks before shorter ones, and the first one that the text begins with is
-- taken.
use Rattle.std.specs.Prelude.{ℕ, List, [], ◌∷◌, length, Option, Some, None, nat_eq, if◌then◌else◌}
use Rattle.std.specs.Prelude.{codes}
use Rattle.std.specs.List.{starts_with}
use Rattle.c_lexer.specs.declared.token.Mark.{Mark}
use Rattle.c_lexer.specs.declared.token.Mark.TheVariants as mark

abbrev pub marks : List (List ℕ × Mark)
marks =
    (codes "<<=", mark.ShiftLeftAssign) ∷
    (codes ">>=", mark.ShiftRightAssign) ∷
    (codes "->", mark.Arrow) ∷
    (codes "++", mark.Increment) ∷
    (codes "--", mark.Decrement) ∷
    (codes "+=", mark.AddAssign) ∷
    (codes "-=", mark.SubAssign) ∷
    (codes "*=", mark.MulAssign) ∷
    (codes "/=", mark.DivAssign) ∷
    (codes "%=", mark.RemAssign) ∷
    (codes "&=", mark.AndAssign) ∷
    (codes "^=", mark.XorAssign) ∷
    (codes "|=", mark.OrAssign) ∷
    (codes "<<", mark.ShiftLeft) ∷
    (codes ">>", mark.ShiftRight) ∷
    (codes "<=", mark.LessEqual) ∷
    (codes ">=", mark.GreaterEqual) ∷
    (codes "==", mark.Equal) ∷
    (codes "!=", mark.NotEqual) ∷
    (codes "&&", mark.AndAnd) ∷
    (codes "||", mark.OrOr) ∷
    (codes "+", mark.Plus) ∷
    (codes "-", mark.Minus) ∷
    (codes "*", mark.Star) ∷
    (codes "/", mark.Slash) ∷
    (codes "%", mark.Percent) ∷
    (codes "<", mark.Less) ∷
    (codes ">", mark.Greater) ∷
    (codes "&", mark.And) ∷
    (codes "^", mark.Xor) ∷
    (codes "|", mark.Or) ∷
    (codes "!", mark.Not) ∷
    (codes "~", mark.Tilde) ∷
    (codes "=", mark.Assign) ∷
    (codes "?", mark.Question) ∷
    (codes ":", mark.Colon) ∷
    (codes ".", mark.Dot) ∷
    (codes ",", mark.Comma) ∷
    (codes ";", mark.Semicolon) ∷
    (codes "(", mark.OpenRound) ∷
    (codes ")", mark.CloseRound) ∷
    (codes "{", mark.OpenBrace) ∷
    (codes "}", mark.CloseBrace) ∷
    (codes "[", mark.OpenSquare) ∷
    (codes "]", mark.CloseSquare) ∷
    []

-- the first mark of a table that these bytes begin with, and its length
abbrev pub first_fit : List ℕ → List (List ℕ × Mark) → Option (ℕ × Mark)
first_fit left [] = None
first_fit left (row ∷ rows) =
    if starts_with nat_eq left row.0 then Some (length row.0, row.1) else first_fit left rows

unfoldable pub mark_at : List ℕ → Option (ℕ × Mark)
mark_at left = first_fit left marks
