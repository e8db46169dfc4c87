-- What is open, counted on the stack of wants: an open bracket shows as a want that ends with its
-- closing one, an open body as the want for its end, and an open expression as the want for its
-- rest, which counts its operators. Spelled tokens have the weights of `Weight`.
use Rattle.std.specs.Prelude.{ℕ, ◌+◌, List, [], ◌∷◌, Option, Some, None}
use Rattle.c_lexer.specs.declared.token.Placed.{Placed}
use Rattle.c_parser.specs.declared.want.Want.{Want}
use Rattle.c_parser.specs.declared.want.Want.TheVariants.{Operand, Rest, Named, Dot, Colon, Opened}
use Rattle.c_parser.specs.declared.want.Want.TheVariants.{FirstArgument}
use Rattle.c_parser.specs.declared.want.Want.TheVariants.{MoreArguments, Round, Square, Target}
use Rattle.c_parser.specs.declared.want.Want.TheVariants.{Bare, Block, Fields, Parameters}
use Rattle.c_parser.specs.declared.want.Want.TheVariants.{MoreParameters, Items}
use Rattle.c_tree.specs.Kinds.{token_kind}
use Rattle.c_parser.specs.inside.Wants.{parser_step}

-- 1 for a want that ends with the closing bracket of an open one
abbrev pub brackets : Want → ℕ
brackets Round = 1
brackets (Opened n) = 1
brackets Square = 1
brackets FirstArgument = 1
brackets MoreArguments = 1
brackets (Block loop) = 1
brackets Fields = 1
brackets Parameters = 1
brackets MoreParameters = 1
brackets _ = 0

-- 1 for the end of an open body without braces
abbrev pub bodies : Want → ℕ
bodies Bare = 1
bodies _ = 0

-- the number of operators so far in the expression that the want belongs to
abbrev pub operators : Want → ℕ
operators (Operand n) = n
operators (Rest n) = n
operators (Named n) = n
operators (Dot n) = n
operators (Colon n) = n
operators (Opened n) = n
operators (Target n) = n
operators _ = 0

abbrev pub own_weight : Want → ℕ
own_weight w = brackets w + bodies w + operators w

abbrev pub weight : List Want → ℕ
weight [] = 0
weight (w ∷ k) = own_weight w + weight k

-- the weight of each token, as far as the tokens begin a program
abbrev pub weigh : Option (List Want) → (List Want → List ℕ) → List ℕ
weigh None others = []
weigh (Some k) others = weight k ∷ others k

abbrev pub weights_from : List Placed → List Want → List ℕ
weights_from [] k = []
weights_from (x ∷ xs) k = weigh (parser_step k (token_kind x.token)) (λ k. weights_from xs k)

unfoldable pub weights : List Placed → List ℕ
weights ts = weights_from ts (Items ∷ [])
