-- What only bodies and proofs need beside `PoolFits`.
use Rattle.std.specs.Prelude.{◌≡◌, List, Option, None, Some, Bool, true, false, ◌==◌, ◌&&◌, length}
use Rattle.std.specs.List.{list_all}
use Rattle.pool_map.specs.declared.object.Object.{Object}
use Rattle.pool_map.specs.declared.shapes.StructShape.{StructShape}
use Rattle.pool_map.specs.declared.shapes.Shapes.{Shapes}
use Rattle.pool_map.specs.PoolMap.{PoolMap}
use Rattle.pool_map.specs.PoolFits.{words_of, struct_at}

-- the same, as a test
abbrev pub has_words : Option StructShape → Object → Bool
has_words None object = false
has_words (Some shape) object = length object.fields == words_of shape.fields

abbrev pub object_fits : List StructShape → Object → Bool
object_fits structs object = has_words (struct_at structs object.kind) object

abbrev pub slot_fits : List StructShape → Option Object → Bool
slot_fits structs None = true
slot_fits structs (Some object) = object_fits structs object

abbrev pub pool_fits : Shapes → PoolMap → Bool
pool_fits shapes pool = (length pool.root == words_of shapes.root)
    && list_all (slot_fits shapes.structs) pool.slots
