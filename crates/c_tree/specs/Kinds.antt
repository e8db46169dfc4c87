-- What the grammar sees of a token: its kind, the text of a name, the value of a number. Marks that
-- the grammar treats alike are one kind: the binary operators, the assignments, the steps. The end
-- of a list has a kind too.
use Rattle.std.specs.Prelude.{ℕ, ℤ, pos, List, [], Option, Some, None, slice_get}
use Rattle.c_lexer.specs.declared.token.Mark.{Mark}
use Rattle.c_lexer.specs.declared.token.Mark.TheVariants as mark
use Rattle.c_lexer.specs.declared.token.Word.{Word}
use Rattle.c_lexer.specs.declared.token.Word.TheVariants as word
use Rattle.c_lexer.specs.declared.token.Token.{Token}
use Rattle.c_lexer.specs.declared.token.Token.TheVariants as token
use Rattle.c_lexer.specs.declared.token.Placed.{Placed}
use Rattle.c_tree.specs.declared.expr.BinaryOp.TheVariants as op
use Rattle.c_tree.specs.declared.expr.IntType.TheVariants as int
use Rattle.c_tree.specs.declared.stmt.AssignOp.TheVariants as assign
use Rattle.c_tree.specs.declared.stmt.UpdateOp.TheVariants as update
use Rattle.c_tree.specs.declared.stmt.StepOp.TheVariants as turn
use Rattle.c_tree.specs.declared.kind.Kind.{Kind}
use Rattle.c_tree.specs.declared.kind.Kind.TheVariants as kind
use Rattle.c_tree.specs.ExprTree.{Ident}

abbrev pub mark_kind : Mark → Kind
mark_kind mark.Arrow = kind.Arrow
mark_kind mark.Increment = kind.Step turn.Up
mark_kind mark.Decrement = kind.Step turn.Down
mark_kind mark.AddAssign = kind.Assign (assign.Update update.Add)
mark_kind mark.SubAssign = kind.Assign (assign.Update update.Sub)
mark_kind mark.MulAssign = kind.Assign (assign.Update update.Mul)
mark_kind mark.DivAssign = kind.Assign (assign.Update update.Div)
mark_kind mark.RemAssign = kind.Assign (assign.Update update.Rem)
mark_kind mark.AndAssign = kind.Assign (assign.Update update.And)
mark_kind mark.XorAssign = kind.Assign (assign.Update update.Xor)
mark_kind mark.OrAssign = kind.Assign (assign.Update update.Or)
mark_kind mark.ShiftLeftAssign = kind.Assign (assign.Update update.ShiftLeft)
mark_kind mark.ShiftRightAssign = kind.Assign (assign.Update update.ShiftRight)
mark_kind mark.ShiftLeft = kind.Operator op.ShiftLeft
mark_kind mark.ShiftRight = kind.Operator op.ShiftRight
mark_kind mark.LessEqual = kind.Operator op.LessEqual
mark_kind mark.GreaterEqual = kind.Operator op.GreaterEqual
mark_kind mark.Equal = kind.Operator op.Equal
mark_kind mark.NotEqual = kind.Operator op.NotEqual
mark_kind mark.AndAnd = kind.Operator op.Both
mark_kind mark.OrOr = kind.Operator op.Either
mark_kind mark.Plus = kind.Operator op.Add
mark_kind mark.Minus = kind.Operator op.Sub
mark_kind mark.Star = kind.Operator op.Mul
mark_kind mark.Slash = kind.Operator op.Div
mark_kind mark.Percent = kind.Operator op.Rem
mark_kind mark.Less = kind.Operator op.Less
mark_kind mark.Greater = kind.Operator op.Greater
mark_kind mark.And = kind.Operator op.And
mark_kind mark.Xor = kind.Operator op.Xor
mark_kind mark.Or = kind.Operator op.Or
mark_kind mark.Not = kind.Not
mark_kind mark.Tilde = kind.Tilde
mark_kind mark.Assign = kind.Assign assign.Set
mark_kind mark.Question = kind.Question
mark_kind mark.Colon = kind.Colon
mark_kind mark.Dot = kind.Dot
mark_kind mark.Comma = kind.Comma
mark_kind mark.Semicolon = kind.Semicolon
mark_kind mark.OpenRound = kind.OpenRound
mark_kind mark.CloseRound = kind.CloseRound
mark_kind mark.OpenBrace = kind.OpenBrace
mark_kind mark.CloseBrace = kind.CloseBrace
mark_kind mark.OpenSquare = kind.OpenSquare
mark_kind mark.CloseSquare = kind.CloseSquare

abbrev pub word_kind : Word → Kind
word_kind word.Int64 = kind.Int int.Signed
word_kind word.Uint64 = kind.Int int.Unsigned
word_kind word.Void = kind.Void
word_kind word.Struct = kind.Struct
-- definitions of constants are taken out before the grammar looks
word_kind word.Enum = kind.Other
word_kind word.Persistent = kind.Persistent
word_kind word.Root = kind.Root
word_kind word.Tx = kind.Tx
word_kind word.Const = kind.Const
word_kind word.If = kind.If
word_kind word.Else = kind.Else
word_kind word.While = kind.While
word_kind word.Do = kind.Do
word_kind word.For = kind.For
word_kind word.Break = kind.Break
word_kind word.Continue = kind.Continue
word_kind word.Return = kind.Return
word_kind word.Null = kind.Null
word_kind word.PmNew = kind.PmNew
word_kind word.PmFree = kind.PmFree
word_kind word.Abort = kind.Abort

abbrev pub token_kind : Token → Kind
token_kind (token.Name text) = kind.Name
token_kind (token.Number n) = kind.Number
token_kind (token.Mark m) = mark_kind m
token_kind (token.Word w) = word_kind w
token_kind token.Reserved = kind.Other

abbrev pub placed_kind : Option Placed → Kind
placed_kind None = kind.End
placed_kind (Some p) = token_kind p.token

abbrev token_text : Token → List ℕ
token_text (token.Name text) = text
token_text _ = []

abbrev token_value : Token → ℤ
token_value (token.Number n) = n
token_value _ = pos 0

abbrev pub placed_text : Option Placed → List ℕ
placed_text None = []
placed_text (Some p) = token_text p.token

abbrev pub placed_value : Option Placed → ℤ
placed_value None = pos 0
placed_value (Some p) = token_value p.token

-- the kind of the token at a place
abbrev pub kind_at : List Placed → ℕ → Kind
kind_at ts i = placed_kind (slice_get ts i)

-- the name at a place
abbrev pub ident_at : List Placed → ℕ → Ident
ident_at ts i = record { text = placed_text (slice_get ts i); place = i }

-- the number at a place
abbrev pub value_at : List Placed → ℕ → ℤ
value_at ts i = placed_value (slice_get ts i)
