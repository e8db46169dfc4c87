-- The tokens that stand for a token outside of definitions: for a constant's name those of its
-- value, with the name's place, and for any other token itself.
use Rattle.std.specs.Prelude.{ℕ, ℤ, pos, negsuc, suc, ◌-◌, ◌^◌, ◌==◌, List, [], ◌∷◌, ◌++◌, length}
use Rattle.std.specs.Prelude.{map, Option, Some, None, Result, Ok, Err, nat_lt, if◌then◌else◌}
use Rattle.c_lexer.specs.TokenList.{Tokens}
use Rattle.c_lexer.specs.declared.scan.TheConstants.{MOST_TOKENS}
use Rattle.c_lexer.specs.declared.token.Mark.{Mark}
use Rattle.c_lexer.specs.declared.token.Mark.TheVariants as mark
use Rattle.c_lexer.specs.declared.token.Placed.{Placed}
use Rattle.c_lexer.specs.declared.token.Token.{Token}
use Rattle.c_lexer.specs.declared.token.Token.TheVariants as token
use Rattle.c_constants.specs.declared.fault.ConstFault.{ConstFault}
use Rattle.c_constants.specs.declared.fault.ConstFault.TheVariants as fault
use Rattle.c_constants.specs.declared.name.Constant.{Constant}
use Rattle.c_constants.specs.Names.{constant_named}

abbrev pub in_brackets : Mark → ℤ → List Token
in_brackets m number =
    token.Mark mark.OpenRound ∷ token.Mark m ∷ token.Number number ∷ token.Mark mark.CloseRound ∷ []

-- `negsuc n` is -(n + 1)
abbrev pub word_tokens : ℤ → List Token
word_tokens (pos n) = token.Number (pos n) ∷ []
word_tokens (negsuc n) =
    if n == 2 ^ 63 - 1 then in_brackets mark.Tilde (pos (2 ^ 63 - 1))
    else in_brackets mark.Minus (pos (suc n))

abbrev pub placed_all : (line start : ℕ) → List Token → List Placed
placed_all line start tokens = map (λ t. record { token = t; line = line; start = start }) tokens

abbrev pub constant_word : List Constant → Token → Option ℤ
constant_word names (token.Name text) = constant_named names text
constant_word names _ = None

abbrev pub stand_ins_by : Placed → Option ℤ → List Placed
stand_ins_by p None = p ∷ []
stand_ins_by p (Some w) = placed_all p.line p.start (word_tokens w)

abbrev pub stand_ins : List Constant → Placed → List Placed
stand_ins names p = stand_ins_by p (constant_word names p.token)

-- one token more, or the refusal of a list of over 16,384
abbrev pub put_one : Tokens → Placed → Result Tokens ConstFault
put_one out p =
    if nat_lt (length out.tokens) MOST_TOKENS
    then Ok (record { tokens = out.tokens ++ p ∷ []; last = out.last; size = out.size })
    else Err fault.TooLong

abbrev pub then_put : Result Tokens ConstFault → (Tokens → Result Tokens ConstFault)
    → Result Tokens ConstFault
then_put (Ok out) go = go out
then_put (Err f) go = Err f

abbrev pub put_all : Tokens → List Placed → Result Tokens ConstFault
put_all out [] = Ok out
put_all out (p ∷ ps) = then_put (put_one out p) (λ more. put_all more ps)
