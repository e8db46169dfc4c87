-- What only bodies and proofs need beside `Declarations`: the tokens by their places.
use Rattle.std.specs.Prelude.{ℕ, List, [], Option, Some, None, slice_get}
use Rattle.c_lexer.specs.TokenList.{Tokens}
use Rattle.c_lexer.specs.declared.token.Placed.{Placed}
use Rattle.c_constants.specs.declared.declaration.Stand.{Stand}
use Rattle.c_constants.specs.Declarations.{left_of, stand_after, seen_of}

abbrev pub left_got : Tokens → Stand → Option Placed → List Placed
left_got list t None = []
left_got list t (Some p) = left_of list t p

-- what the token at a place leaves
abbrev pub left_at : Tokens → Stand → (place : ℕ) → List Placed
left_at list t place = left_got list t (slice_get list.tokens place)

abbrev pub stand_got : Stand → (place : ℕ) → Option Placed → Stand
stand_got t place None = t
stand_got t place (Some p) = stand_after t place (seen_of p.token)

-- what comes after it
abbrev pub stand_past : Tokens → Stand → (place : ℕ) → Stand
stand_past list t place = stand_got t place (slice_get list.tokens place)
