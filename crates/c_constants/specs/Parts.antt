-- What definitions see of a token, its place, and the refusals at a place.
use Rattle.std.specs.Prelude.{ℕ, ℤ, pos, ◌+◌, List, [], length, Option, Some, None, slice_get}
use Rattle.std.specs.Prelude.{nat_lt, if◌then◌else◌}
use Rattle.c_lexer.specs.TokenList.{Tokens, line_at, start_at}
use Rattle.c_lexer.specs.declared.token.Mark.{Mark}
use Rattle.c_lexer.specs.declared.token.Mark.TheVariants as mark
use Rattle.c_lexer.specs.declared.token.Placed.{Placed}
use Rattle.c_lexer.specs.declared.token.Token.{Token}
use Rattle.c_lexer.specs.declared.token.Token.TheVariants as token
use Rattle.c_lexer.specs.declared.token.Word.TheVariants as word
use Rattle.nvm_base.specs.declared.op.BinOp.TheVariants as op
use Rattle.c_constants.specs.declared.fault.ConstFault.{ConstFault}
use Rattle.c_constants.specs.declared.fault.ConstFault.TheVariants as fault
use Rattle.c_constants.specs.declared.part.Part.{Part}
use Rattle.c_constants.specs.declared.part.Part.TheVariants as part

abbrev pub mark_part : Mark → Part
mark_part mark.Star = part.Operator op.Mul
mark_part mark.Slash = part.Operator op.Div
mark_part mark.Percent = part.Operator op.Rem
mark_part mark.Plus = part.Operator op.Add
mark_part mark.Minus = part.Operator op.Sub
mark_part mark.ShiftLeft = part.Operator op.Shl
mark_part mark.ShiftRight = part.Operator op.Shr
mark_part mark.And = part.Operator op.And
mark_part mark.Xor = part.Operator op.Xor
mark_part mark.Or = part.Operator op.Or
mark_part mark.Not = part.Not
mark_part mark.Tilde = part.Tilde
mark_part mark.Assign = part.Assign
mark_part mark.Comma = part.Comma
mark_part mark.Semicolon = part.Semicolon
mark_part mark.OpenRound = part.OpenRound
mark_part mark.CloseRound = part.CloseRound
mark_part mark.OpenBrace = part.OpenBrace
mark_part mark.CloseBrace = part.CloseBrace
mark_part _ = part.Other

abbrev pub token_part : Token → Part
token_part (token.Name text) = part.Name
token_part (token.Number n) = part.Number
token_part (token.Mark m) = mark_part m
token_part (token.Word word.Enum) = part.Enum
token_part _ = part.Other

abbrev pub placed_part : Option Placed → Part
placed_part None = part.End
placed_part (Some p) = token_part p.token

abbrev token_name : Token → List ℕ
token_name (token.Name text) = text
token_name _ = []

abbrev token_number : Token → ℤ
token_number (token.Number n) = n
token_number _ = pos 0

abbrev pub placed_name : Option Placed → List ℕ
placed_name None = []
placed_name (Some p) = token_name p.token

abbrev pub placed_number : Option Placed → ℤ
placed_number None = pos 0
placed_number (Some p) = token_number p.token

abbrev pub part_at : Tokens → ℕ → Part
part_at list place = placed_part (slice_get list.tokens place)

abbrev pub name_at : Tokens → ℕ → List ℕ
name_at list place = placed_name (slice_get list.tokens place)

abbrev pub token_number_at : Tokens → ℕ → ℤ
token_number_at list place = placed_number (slice_get list.tokens place)

-- the place after a token; the end has none after it
abbrev pub next_place : Tokens → ℕ → ℕ
next_place list place = if nat_lt place (length list.tokens) then place + 1 else place

-- the refusals, each at the token of a place or at the end
abbrev pub syntax : Tokens → ℕ → ConstFault
syntax list place = fault.Syntax (line_at list place) (start_at list place)

abbrev pub too_deep : Tokens → ℕ → ConstFault
too_deep list place = fault.TooDeep (line_at list place) (start_at list place)

abbrev pub named_twice : Tokens → ℕ → ConstFault
named_twice list place = fault.Twice (line_at list place) (start_at list place)

abbrev pub unknown_name : Tokens → ℕ → ConstFault
unknown_name list place = fault.UnknownName (line_at list place) (start_at list place)

abbrev pub bad_number : Tokens → ℕ → ConstFault
bad_number list place = fault.BadNumber (line_at list place) (start_at list place)
