-- The prefix of the names in a C file. It is a name of C, and no name that is made of it and `_` is
-- one of the runtime's own, which begin with `cn_`, `cnvm_`, `CN_` and `CNVM_`. Without a word of
-- its own it is the name of the program's file, without folder and ending, if that is a prefix, and
-- else `pool`.
use Rattle.std.specs.Prelude.{ℕ, List, [], ◌∷◌, Bool, false, not, ◌&&◌, ◌||◌, ◌==◌, take, codes}
use Rattle.std.specs.Prelude.{Option, Some, None, if◌then◌else◌}
use Rattle.std.specs.List.{list_all, prefix_len}
use Rattle.std.specs.Path.{path_file_stem}
use Rattle.std.specs.Str.{bytes_eq}
use Rattle.c_lexer.specs.Bytes.{begins_name, is_word_byte}

-- a letter or `_`, and then letters, digits and `_`
abbrev pub is_name : List ℕ → Bool
is_name [] = false
is_name (b ∷ bs) = begins_name b && list_all is_word_byte bs

-- a name up to its first `_`, and its length
abbrev pub head_len : List ℕ → ℕ
head_len name = prefix_len (λ b. not (b == 95)) name

abbrev pub head_of : List ℕ → List ℕ
head_of name = take (head_len name) name

-- the runtime's own names begin with this and `_`
abbrev pub is_own_head : List ℕ → Bool
is_own_head head =
    bytes_eq head (codes "cn") || (bytes_eq head (codes "cnvm") || (bytes_eq head (codes "CN")
    || bytes_eq head (codes "CNVM")))

abbrev pub is_prefix : List ℕ → Bool
is_prefix text = is_name text && not (is_own_head (head_of text))

abbrev pub prefix_or_pool : Option (List ℕ) → List ℕ
prefix_or_pool None = codes "pool"
prefix_or_pool (Some text) = if is_prefix text then text else codes "pool"

-- the prefix of the program at this path
abbrev pub default_prefix : (path : List ℕ) → List ℕ
default_prefix path = prefix_or_pool (path_file_stem path)

-- the prefix that the words give, if they give one, or the default
abbrev pub asked_prefix : (path : List ℕ) → (given : Option (List ℕ)) → Option (List ℕ)
asked_prefix path None = Some (default_prefix path)
asked_prefix path (Some text) = if is_prefix text then Some text else None
