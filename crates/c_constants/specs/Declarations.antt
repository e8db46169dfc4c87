-- Declarations of several names. One begins with a type, an int type or `struct NAME`, right
-- after a `;`, `{` or `}`, and goes on up to the next of these. In it each `,` outside of round
-- and square brackets becomes a `;` and the tokens of the type once more, which keep their
-- places.
use Rattle.std.specs.Prelude.{ℕ, ◌+◌, ◌-◌, ◌==◌, List, [], ◌∷◌, ◌++◌, Option, Some, None, Result}
use Rattle.std.specs.Prelude.{slice_get, if◌then◌else◌}
use Rattle.c_lexer.specs.TokenList.{Tokens}
use Rattle.c_lexer.specs.declared.token.Mark.{Mark}
use Rattle.c_lexer.specs.declared.token.Mark.TheVariants as mark
use Rattle.c_lexer.specs.declared.token.Placed.{Placed}
use Rattle.c_lexer.specs.declared.token.Token.{Token}
use Rattle.c_lexer.specs.declared.token.Token.TheVariants as token
use Rattle.c_lexer.specs.declared.token.Word.TheVariants as word
use Rattle.c_constants.specs.declared.declaration.Base.{Base}
use Rattle.c_constants.specs.declared.declaration.Base.TheVariants as base
use Rattle.c_constants.specs.declared.declaration.Stand.{Stand}
use Rattle.c_constants.specs.declared.declaration.Stand.TheVariants as stand
use Rattle.c_constants.specs.declared.fault.ConstFault.{ConstFault}
use Rattle.c_constants.specs.declared.seen.Seen.{Seen}
use Rattle.c_constants.specs.declared.seen.Seen.TheVariants as seen_as
use Rattle.c_constants.specs.StandIns.{put_all}

abbrev pub mark_seen : Mark → Seen
mark_seen mark.Comma = seen_as.Comma
mark_seen mark.OpenRound = seen_as.Open
mark_seen mark.OpenSquare = seen_as.Open
mark_seen mark.CloseRound = seen_as.Close
mark_seen mark.CloseSquare = seen_as.Close
mark_seen mark.Semicolon = seen_as.Border
mark_seen mark.OpenBrace = seen_as.Border
mark_seen mark.CloseBrace = seen_as.Border
mark_seen _ = seen_as.Other

abbrev pub seen_of : Token → Seen
seen_of (token.Name text) = seen_as.Name
seen_of (token.Mark m) = mark_seen m
seen_of (token.Word word.Int64) = seen_as.Ints
seen_of (token.Word word.Uint64) = seen_as.Ints
seen_of (token.Word word.Struct) = seen_as.Struct
seen_of _ = seen_as.Other

-- what comes after the token at a place, where a declaration may begin with it
abbrev pub begun : (place : ℕ) → Seen → Stand
begun place seen_as.Ints = stand.Declaration (base.Ints place) 0
begun place seen_as.Struct = stand.Struct place
begun place _ = stand.Elsewhere

-- the same after the word `struct`
abbrev pub named : (word place : ℕ) → Seen → Stand
named word place seen_as.Name = stand.Declaration (base.Struct word place) 0
named word place _ = stand.Elsewhere

abbrev pub depth_after : ℕ → Seen → ℕ
depth_after d seen_as.Open = d + 1
depth_after d seen_as.Close = d - 1
depth_after d _ = d

-- what comes after a token that isn't `;`, `{` or `}`
abbrev pub stand_within : Stand → (place : ℕ) → Seen → Stand
stand_within stand.Elsewhere place s = stand.Elsewhere
stand_within stand.Fresh place s = begun place s
stand_within (stand.Struct word) place s = named word place s
stand_within (stand.Declaration b d) place s = stand.Declaration b (depth_after d s)

abbrev pub stand_after : Stand → (place : ℕ) → Seen → Stand
stand_after t place seen_as.Border = stand.Fresh
stand_after t place s = stand_within t place s

-- how many brackets are open
abbrev pub depth : Stand → ℕ
depth (stand.Declaration b d) = d
depth _ = 0

abbrev pub these : Option Placed → List Placed
these None = []
these (Some p) = p ∷ []

abbrev pub base_tokens : Tokens → Base → List Placed
base_tokens list (base.Ints word) = these (slice_get list.tokens word)
base_tokens list (base.Struct word name) =
    these (slice_get list.tokens word) ++ these (slice_get list.tokens name)

-- what stands for a comma
abbrev pub next_begun : Tokens → Base → (comma : Placed) → List Placed
next_begun list b comma =
    record { token = token.Mark mark.Semicolon; line = comma.line; start = comma.start }
    ∷ base_tokens list b

-- the type of a declaration in which a comma ends a name
abbrev pub base_ended : Stand → Seen → Option Base
base_ended (stand.Declaration b d) seen_as.Comma = if d == 0 then Some b else None
base_ended t s = None

abbrev pub left_by : Tokens → Placed → Option Base → List Placed
left_by list p None = p ∷ []
left_by list p (Some b) = next_begun list b p

abbrev pub left_of : Tokens → Stand → Placed → List Placed
left_of list t p = left_by list p (base_ended t (seen_of p.token))

-- what the tokens from a place on leave, of which the first stands so
abbrev pub one_each_from : Tokens → Stand → (place : ℕ) → List Placed → List Placed
one_each_from list t place [] = []
one_each_from list t place (p ∷ ps) =
    left_of list t p ++ one_each_from list (stand_after t place (seen_of p.token)) (place + 1) ps

-- the list with one name in each declaration, or the refusal of one of over 16,384
abbrev pub one_name_each : Tokens → Result Tokens ConstFault
one_name_each list = put_all (record { tokens = []; last = list.last; size = list.size })
    (one_each_from list stand.Elsewhere 0 list.tokens)
