-- The meaning of the parser's answers.
use Rattle.std.specs.Prelude.{ℕ, ◌+◌, ◌≡◌, ◌≤◌, ◌<◌, List, Some, slice_get, Result, Ok, Err}
use Rattle.c_lexer.specs.declared.token.Placed.{Placed}
use Rattle.c_parser.specs.declared.fault.ParseFault.{ParseFault}
use Rattle.c_parser.specs.declared.fault.ParseFault.TheVariants.{NoMemory}
use Rattle.c_tree.specs.ItemTree.{ItemTree}
use Rattle.c_tree.specs.Program.{Program, tree_of}
use Rattle.c_tree.specs.ItemSpelling.{SpellsProgram}
use Rattle.c_parser.specs.Weight.{spelled_weights}

-- no token before that place is too heavy
abbrev pub LightBefore : List ℕ → ℕ → Type 0
LightBefore ws place = (i w : ℕ) → i < place → slice_get ws i ≡ Some w → w ≤ 64

-- the lists are the same before that place; no token comes after the end
abbrev pub Agree : List Placed → List Placed → ℕ → Type 0
Agree ts us place = (i : ℕ) → i < place → slice_get us i ≡ slice_get ts i

-- no program begins with the tokens before that place
abbrev pub NoneBegins : List Placed → ℕ → Type 0
NoneBegins ts place = (us : List Placed) (xs : List ItemTree) → Agree ts us place
    → SpellsProgram us xs → ⊥

-- some program begins with the tokens before that place, and none of them is too heavy
abbrev pub SomeBegins : List Placed → ℕ → Type 0
SomeBegins ts place = (us : List Placed) × (xs : List ItemTree) × Agree ts us place
    × (spelled : SpellsProgram us xs) × LightBefore (spelled_weights spelled) place

-- some program begins with the tokens up to the one at that place, which is the first that is too
-- heavy
abbrev pub SomeSinks : List Placed → ℕ → Type 0
SomeSinks ts place =
    (us : List Placed) × (xs : List ItemTree) × Agree ts us (place + 1)
    × (spelled : SpellsProgram us xs) × LightBefore (spelled_weights spelled) place
    × (w : ℕ) × (slice_get (spelled_weights spelled) place ≡ Some w) × (64 < w)

-- the answer is that tree, or memory ran out
abbrev pub ParseGives : Result Program ParseFault → List ItemTree → Type 0
ParseGives (Ok p) xs = tree_of p ≡ xs
ParseGives (Err f) xs = f ≡ NoMemory
