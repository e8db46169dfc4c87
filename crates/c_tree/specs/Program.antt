-- A whole program: its items, the line of each of its tokens, and the line of the text's end, which
-- is the line at the number of tokens.
use Rattle.std.specs.Prelude.{ℕ, List, slice_get}
use Rattle.std.specs.Option.{option_map_or}
use Rattle.c_tree.specs.declared.item.Item.{Item}
use Rattle.c_tree.specs.ItemTree.{ItemTree, items_in}

pub record Program : Type 0 where
  pub all : List Item
  pub lines : List ℕ
  pub last : ℕ

abbrev pub source_line : Program → ℕ → ℕ
source_line p place = option_map_or (λ line. line) (slice_get p.lines place) p.last

-- the program's tree
abbrev pub tree_of : Program → List ItemTree
tree_of p = items_in p.all
