-- A name is a word that a program text reads as one name, from its first byte to its last: the
-- first
-- token of the word's text is a name, and that is the whole word. So scripts and programs have one
-- reading of names, and one list of words that are none.
use Rattle.std.specs.Prelude.{ℕ, List, Bool, false, Option, None, Some, Result, Ok, Err}
use Rattle.std.specs.Prelude.{bytes_eq, slice_get}
use Rattle.c_lexer.specs.declared.fault.LexFault.{LexFault}
use Rattle.c_lexer.specs.declared.token.Placed.{Placed}
use Rattle.c_lexer.specs.declared.token.Token.{Token}
use Rattle.c_lexer.specs.declared.token.Token.TheVariants as token
use Rattle.c_lexer.specs.Cuts.{answer}
use Rattle.c_lexer.specs.TokenList.{Tokens}

abbrev pub is_name_token : Token → List ℕ → Bool
is_name_token (token.Name text) word = bytes_eq text word
is_name_token (token.Number value) word = false
is_name_token (token.Mark mark) word = false
is_name_token (token.Word reserved) word = false
is_name_token token.Reserved word = false

abbrev pub begins_with : Option Placed → List ℕ → Bool
begins_with None word = false
begins_with (Some first) word = is_name_token first.token word

abbrev pub is_read : Result Tokens LexFault → List ℕ → Bool
is_read (Err fault) word = false
is_read (Ok list) word = begins_with (slice_get list.tokens 0) word

unfoldable pub is_name : List ℕ → Bool
is_name word = is_read (answer word) word
