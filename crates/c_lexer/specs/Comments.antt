-- Where a comment ends, and how a skipped line begins. A comment runs from `/*` to the next `*/`
-- after these two bytes, so `/*/` doesn't close itself. A skipped line begins with `#`, then spaces
-- and tabs, then `include`; whether the `#` is the line's first byte other than a space or tab is
-- known from the bytes before it.
use Rattle.std.specs.Prelude.{ℕ, List, [], ◌∷◌, drop, ◌+◌, Bool, Option, Some, None, nat_eq, ◌&&◌}
use Rattle.std.specs.Prelude.{if◌then◌else◌, codes}
use Rattle.std.specs.List.{starts_with, prefix_len}
use Rattle.c_lexer.specs.Bytes.{is_indent}

-- the place after the next `*/`, where the first of these bytes is at the given place
abbrev pub after_close : ℕ → List ℕ → Option ℕ
after_close at [] = None
after_close at (b ∷ bs) =
    if starts_with nat_eq (b ∷ bs) (codes "*/") then Some (at + 2) else after_close (at + 1) bs

-- the length of the comment that these bytes begin with
abbrev pub comment_len : List ℕ → Option ℕ
comment_len left = after_close 2 (drop 2 left)

-- the bytes without the spaces and tabs at their front
abbrev pub past_indent : List ℕ → List ℕ
past_indent left = drop (prefix_len is_indent left) left

unfoldable pub begins_include : List ℕ → Bool
begins_include left =
    starts_with nat_eq left (codes "#") && starts_with nat_eq (past_indent (drop 1 left))
    (codes "include")
