-- What is left of a list whose numbers are words: few tokens, and numbers that are words.
use Rattle.std.specs.Prelude.{◌≡◌, ◌≤◌, List, length, Some, Ok}
use Rattle.std.specs.List.{AllByRecursion}
use Rattle.nvm_base.specs.Wrap.{IsWord}
use Rattle.c_lexer.specs.TokenList.{Tokens}
use Rattle.c_lexer.specs.declared.scan.TheConstants.{MOST_TOKENS}
use Rattle.c_lexer.specs.declared.token.Placed.{Placed}
use Rattle.c_constants.specs.Parts.{placed_number}
use Rattle.c_constants.specs.Passes.{tokens_left}

-- the token's number is a word; a token that is no number counts as 0
abbrev pub IsWordToken : Placed → Type 0
IsWordToken p = IsWord (placed_number (Some p))

abbrev pub AreWordTokens : List Placed → Type 0
AreWordTokens ts = AllByRecursion IsWordToken ts

pub record AreInRange (ts : List Placed) : Type 0 where
  pub few : length ts ≤ MOST_TOKENS
  pub words : AreWordTokens ts

abbrev pub TokensLeftLaw : Type 0
TokensLeftLaw = (all list : Tokens) → AreWordTokens all.tokens → tokens_left all ≡ Ok list
    → AreInRange list.tokens
