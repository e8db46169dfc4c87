-- The tokens that the constants of a text leave, with one name in each declaration.
use Rattle.std.specs.Prelude.{ℕ, List, ◌≡◌, Ok}
use Rattle.c_lexer.specs.Cuts as lexer
use Rattle.c_lexer.specs.TokenList.{Tokens}
use Rattle.c_constants.specs.Passes.{tokens_left}

-- the text is cut into tokens, of which these are left
pub record LeavesTokens (text : List ℕ) (list : Tokens) : Type 0 where
  pub all : Tokens
  pub cut : lexer.answer text ≡ Ok all
  pub left : tokens_left all ≡ Ok list
