-- The name of a transaction's function in C, after the prefix and a `_`. It is the transaction's
-- own. Where the file has a function on pools of that name, a `_` comes after it, and likewise
-- after each name that is such a one with `_` after it: so no other transaction has the name.
use Rattle.std.specs.Prelude.{ℕ, List, ◌++◌, Bool, ◌&&◌, ◌||◌, ◌==◌, take, drop, length, codes}
use Rattle.std.specs.Prelude.{if◌then◌else◌}
use Rattle.std.specs.List.{list_all}
use Rattle.std.specs.Str.{bytes_eq}

abbrev pub is_underscore : ℕ → Bool
is_underscore b = b == 95

-- the name begins with this one, and all that follows is `_`
abbrev pub extends : (own name : List ℕ) → Bool
extends own name =
    bytes_eq (take (length own) name) own && list_all is_underscore (drop (length own) name)

-- the functions that make a pool, and those that use one
abbrev pub is_making : List ℕ → Bool
is_making name = extends (codes "pool_create") name || extends (codes "pool_open") name

abbrev pub is_using : List ℕ → Bool
is_using name =
    extends (codes "pool_close") name || (extends (codes "pool_done") name
    || (extends (codes "pool_last") name || extends (codes "pool_events") name))

abbrev pub is_own : List ℕ → Bool
is_own name = is_making name || is_using name

abbrev pub c_name : List ℕ → List ℕ
c_name name = if is_own name then name ++ codes "_" else name
