-- A pool fits the shapes if it has the root's words, and each object has a kind from 1 to the
-- number of structs and as many field words as that struct. A field has one word; an array field
-- has as many as its length.
use Rattle.std.specs.Prelude.{ℕ, zero, suc, ◌≡◌, List, Option, None, ◌==◌, ◌&&◌, sum_by, unwrap_or}
use Rattle.std.specs.Prelude.{slice_get, length, IsSomeAnd, IfSome}
use Rattle.std.specs.List.{AllByRecursion}
use Rattle.pool_map.specs.declared.object.Object.{Object}
use Rattle.pool_map.specs.declared.shapes.FieldShape.{FieldShape}
use Rattle.pool_map.specs.declared.shapes.StructShape.{StructShape}
use Rattle.pool_map.specs.declared.shapes.Shapes.{Shapes}
use Rattle.pool_map.specs.PoolMap.{PoolMap}

abbrev pub words_of_field : FieldShape → ℕ
words_of_field field = unwrap_or field.length 1

abbrev pub words_of : List FieldShape → ℕ
words_of fields = sum_by words_of_field fields

-- the struct of that number, if there is one; structs are numbered from 1
abbrev pub struct_at : List StructShape → ℕ → Option StructShape
struct_at structs zero = None
struct_at structs (suc i) = slice_get structs i

abbrev pub ObjectFits : List StructShape → Object → Type 0
ObjectFits structs object = IsSomeAnd (struct_at structs object.kind)
    (λ shape. length object.fields ≡ words_of shape.fields)

abbrev pub PoolFits : Shapes → PoolMap → Type 0
PoolFits shapes pool = (length pool.root ≡ words_of shapes.root)
    × AllByRecursion (λ slot. IfSome slot (ObjectFits shapes.structs)) pool.slots
