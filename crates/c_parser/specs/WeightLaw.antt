-- The laws of `spelled_weights`: the list has one entry for each token, and an entry depends only
-- on the tokens up to its own.
use Rattle.std.specs.Prelude.{◌≡◌, ◌<◌, ℕ, List, length, slice_get}
use Rattle.c_lexer.specs.declared.token.Placed.{Placed}
use Rattle.c_tree.specs.ItemTree.{ItemTree}
use Rattle.c_tree.specs.ItemSpelling.{SpellsProgram}
use Rattle.c_parser.specs.Weight.{spelled_weights}
use Rattle.c_parser.specs.Exact.{Agree}

abbrev pub OneWeightEach : Type 0
OneWeightEach = (ts : List Placed) (xs : List ItemTree) (spelled : SpellsProgram ts xs)
    → length (spelled_weights spelled) ≡ length ts

-- programs that agree before a place have equal weights before it
abbrev pub EqualWeights : Type 0
EqualWeights = (ts us : List Placed) (xs ys : List ItemTree) (place : ℕ) → Agree ts us place
    → (spelled : SpellsProgram ts xs) (other : SpellsProgram us ys) (i : ℕ) → i < place
    → slice_get (spelled_weights other) i ≡ slice_get (spelled_weights spelled) i
