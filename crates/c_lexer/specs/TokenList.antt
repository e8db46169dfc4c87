-- The tokens of a text with their places, and the text's last line and its size in bytes. The end
-- counts as a place of its own, at the list's length: it is on the last line, and the whole text is
-- before it.
use Rattle.std.specs.Prelude.{ℕ, List, slice_get}
use Rattle.std.specs.Option.{option_map_or}
use Rattle.c_lexer.specs.declared.token.Placed.{Placed}

pub record Tokens : Type 0 where
  pub tokens : List Placed
  pub last : ℕ
  pub size : ℕ

abbrev pub line_at : Tokens → ℕ → ℕ
line_at list place = option_map_or (λ placed. placed.line) (slice_get list.tokens place) list.last

abbrev pub start_at : Tokens → ℕ → ℕ
start_at list place = option_map_or (λ placed. placed.start) (slice_get list.tokens place) list.size
