-- The length of lowered code: a tree's code has at most four instructions for each token that
-- spells the tree. Every token counts, also those without code, and each is in the list once; the
-- end of the text is not one of them.
use Rattle.std.specs.Prelude.{◌≡◌, ◌≤◌, ◌+◌, ◌*◌, List, map, length}
use Rattle.c_lexer.specs.declared.token.Placed.{Placed}
use Rattle.c_tree.specs.ItemSpelling.{SpellsProgram}
use Rattle.c_tree.specs.Program.{Program, tree_of}
use Rattle.lower.specs.Program.{lowered}
use Rattle.code_meaning.specs.Whole.{whole}

-- the tree need not keep the typing rules
abbrev pub SizeLaw : Type 0
SizeLaw = (tree : Program) (tokens : List Placed) → SpellsProgram tokens (tree_of tree)
    → whole (lowered tree).functions ≤ 4 * length tokens

-- the bound on a call's steps allows for these instructions; it counts the tokens by their lines,
-- which the parsed tree keeps
abbrev pub AllowedLaw : Type 0
AllowedLaw = (tree : Program) (tokens : List Placed) → SpellsProgram tokens (tree_of tree)
    → tree.lines ≡ map (λ placed. placed.line) tokens
    → whole (lowered tree).functions ≤ 64 * length tree.lines + 256
