-- What only bodies and proofs need beside `Exact`.
use Rattle.std.specs.Prelude.{◌+◌, ◌≡◌, ◌≤◌, ◌<◌, List, [], ◌∷◌}
use Rattle.c_lexer.specs.declared.token.Placed.{Placed}
use Rattle.c_tree.specs.ItemTree.{ItemTree}
use Rattle.c_tree.specs.ItemSpelling.{SpellsProgram}

-- some tree spells these tokens
abbrev pub Spelled : List Placed → Type 0
Spelled ts = (xs : List ItemTree) × SpellsProgram ts xs
