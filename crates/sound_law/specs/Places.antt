-- What a program reads or stores exists: the local, the struct, its field, the pool's word. Where
-- one is missing the meaning gives a default: 0, an unchanged pool, NULL, or the greatest offset.
use Rattle.std.specs.Prelude.{ℕ, ℤ, ◌≡◌, ◌+◌, ◌-◌, ◌^◌, ◌<◌, ◌≤◌, ◌⊎◌, List, [], ◌∷◌, length, true}
use Rattle.std.specs.Prelude.{Option, None, Some, Result, Ok, Err, bytes_eq, slice_get}
use Rattle.c_tree.specs.ExprTree.{ExprTree}
use Rattle.c_tree.specs.ExprTree as expr
use Rattle.c_tree.specs.ItemTree.{FieldTree, LengthTree}
use Rattle.c_types.specs.Tables.{Tables, StructTree, index_of, field_names, root_struct, is_length}
use Rattle.c_types.specs.Tables.{field_words, field_words_before, words_of_struct, pointed_limit}
use Rattle.pool_map.specs.declared.trap.TrapKind.{TrapKind}
use Rattle.pool_map.specs.PoolMap.{PoolMap, HasField}
use Rattle.pool_map.specs.declared.word.PoolWord.{PoolWord}
use Rattle.pool_map.specs.declared.word.PoolWord.TheVariants.{Root, Field}
use Rattle.c_meaning.specs.Locals.{Local}
use Rattle.c_meaning.specs.Access.{struct_pointed_by, word_named}
use Rattle.rules_law.specs.typed.Programs.{IsStruct}

-- a local of this name is there
abbrev pub IsLocal : List ℕ → List Local → Type 0
IsLocal name [] = ⊥
IsLocal name (l ∷ ls) = (bytes_eq name l.name ≡ true) ⊎ IsLocal name ls

-- the pool has the word
abbrev pub InPool : PoolMap → PoolWord → Type 0
InPool p (Root i) = i < length p.root
InPool p (Field s i) = HasField p s i

-- the word that the checks lead to, if they don't trap
abbrev pub LeadsInto : PoolMap → Result PoolWord TrapKind → Type 0
LeadsInto p (Ok w) = InPool p w
LeadsInto p (Err trap) = Unit {0}

-- the struct that a pointer leads to exists, has a number, and breaks no rule
abbrev pub IsNumbered : Tables → Option ℕ → Type 0
IsNumbered t at = (i : ℕ) × (s : StructTree)
    × (at ≡ Some i) × (slice_get t.structs i ≡ Some s)
    × (words_of_struct s ≤ pointed_limit (root_struct t) i)
    × IsStruct t i s

-- an array, of a length that is allowed, has an index, and a field that is no array has none
abbrev pub IndexFits : Option LengthTree → Option ℤ → Type 0
IndexFits None None = Unit {0}
IndexFits None (Some j) = ⊥
IndexFits (Some l) None = ⊥
IndexFits (Some l) (Some j) = is_length l.value ≡ true

-- the struct at this place is there, keeps the rules and has the field, and no count of words up to
-- the field's last is cut
pub record HasMember (t : Tables) (at : Option ℕ) (name : List ℕ) (index : Option ℤ) :
    Type 0 where
  pub number : ℕ
  pub known : at ≡ Some number
  pub owner : StructTree
  pub there : slice_get t.structs number ≡ Some owner
  pub whole : IsStruct t number owner
  pub place : ℕ
  pub found : index_of name (field_names owner) ≡ Some place
  pub field : FieldTree
  pub stands : slice_get owner.fields place ≡ Some field
  pub indexed : IndexFits field.len index
  pub counted : field_words_before place 0 owner.fields + field_words field ≤ 2 ^ 64 - 1

-- the word that a field names, or one of its elements, given the pointer that leads to it: a field
-- of the root, or of a struct that the expression before `->` points to; nothing else names a word
abbrev pub FindsWord : Tables → List Local → PoolMap → ExprTree → (pointer : ℤ) → Option ℤ → Type 0
FindsWord t ls p (expr.Root name) pointer index = HasMember t (root_struct t) name.text index
    × LeadsInto p (word_named t ls p (expr.Root name) pointer index)
FindsWord t ls p (expr.Arrow base place name) pointer index =
    IsNumbered t (struct_pointed_by t ls base)
    × HasMember t (struct_pointed_by t ls base) name.text index
    × LeadsInto p (word_named t ls p (expr.Arrow base place name) pointer index)
FindsWord t ls p (expr.Number n) pointer index = ⊥
FindsWord t ls p expr.Null pointer index = ⊥
FindsWord t ls p (expr.Variable name) pointer index = ⊥
FindsWord t ls p (expr.Call name all) pointer index = ⊥
FindsWord t ls p (expr.New place name) pointer index = ⊥
FindsWord t ls p (expr.Index a place i) pointer index = ⊥
FindsWord t ls p (expr.Unary op place a) pointer index = ⊥
FindsWord t ls p (expr.Binary op place a b) pointer index = ⊥
FindsWord t ls p (expr.Conditional c place a b) pointer index = ⊥
