-- The locals of an open function are a list, newest first. A name means the newest local that has
-- it, so an inner name hides an outer one; at the end of a scope the locals from before it are
-- left.
use Rattle.std.specs.Prelude.{ℕ, ℤ, pos, ◌-◌, List, [], ◌∷◌, length, drop, slice_index_or}
use Rattle.std.specs.Prelude.{if◌then◌else◌, bytes_eq}
use Rattle.c_tree.specs.ItemTree.{ParameterTree}
use Rattle.c_types.specs.declared.value_type.ValueType.{ValueType}
use Rattle.c_types.specs.Expressions.{Scope}
use Rattle.c_types.specs.Tables.{Tables, declared_type}

pub record Local : Type 0 where
  pub name : List ℕ
  pub ty : ValueType
  pub value : ℤ

-- the scopes that give the types of expressions: one for each local
abbrev pub scopes_of : List Local → List Scope
scopes_of [] = []
scopes_of (l ∷ ls) = record { names = l.name ∷ []; types = l.ty ∷ [] } ∷ scopes_of ls

-- the word of the local with this name, or 0 if there is none
abbrev pub value_named : List ℕ → List Local → ℤ
value_named name [] = pos 0
value_named name (l ∷ ls) = if bytes_eq name l.name then l.value else value_named name ls

abbrev pub assigned : List ℕ → ℤ → List Local → List Local
assigned name v [] = []
assigned name v (l ∷ ls) = if bytes_eq name l.name
    then record { name = l.name; ty = l.ty; value = v } ∷ ls else l ∷ assigned name v ls

-- the oldest n locals
abbrev pub oldest : ℕ → List Local → List Local
oldest n ls = drop (length ls - n) ls

abbrev pub local_declared : List ℕ → ValueType → ℤ → List Local → List Local
local_declared name ty v ls = record { name = name; ty = ty; value = v } ∷ ls

-- the parameters with their arguments, added to the locals that are there; a missing argument is 0
abbrev pub bound : Tables → List ParameterTree → List ℤ → List Local → List Local
bound t [] vs ls = ls
bound t (p ∷ ps) vs ls = bound t ps (drop 1 vs)
    (local_declared p.name.text (declared_type t p.ty) (slice_index_or vs 0 (pos 0)) ls)
