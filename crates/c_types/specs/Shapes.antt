-- What a typed program provides: the shapes of its root and of its numbered structs, to which
-- pointers may lead, and its transactions, each in the order of the text.
use Rattle.std.specs.Prelude.{ℕ, ◌+◌, Bool, true, false, Option, List, [], ◌∷◌, map, drop}
use Rattle.std.specs.Prelude.{if◌then◌else◌, nat_le, option_map}
use Rattle.std.specs.Prelude.{option_and_then, slice_get}
use Rattle.std.specs.Option.{option_map_or}
use Rattle.std.specs.Int.{w64, cast_unsigned}
use Rattle.c_tree.specs.declared.expr.IntType.TheVariants.{Unsigned}
use Rattle.c_tree.specs.StmtTree.{TypeTree, Int}
use Rattle.c_tree.specs.ItemTree.{FieldTree, FunctionTree}
use Rattle.c_tree.specs.Program.{Program, tree_of}
use Rattle.pool_map.specs.declared.shapes.FieldShape.{FieldShape}
use Rattle.pool_map.specs.declared.shapes.StructShape.{StructShape}
use Rattle.pool_map.specs.declared.shapes.Shapes.{Shapes}
use Rattle.c_types.specs.Tables.{Tables, StructTree, tables_of, words_of_struct, root_struct}
use Rattle.c_types.specs.Tables.{pointed_limit}

-- whether a type is `uint64_t`
abbrev pub is_unsigned : TypeTree → Bool
is_unsigned (Int Unsigned) = true
is_unsigned _ = false

abbrev pub field_shape : FieldTree → FieldShape
field_shape f = record {
  name = f.name.text;
  unsigned = is_unsigned f.ty;
  length = option_map (λ l. cast_unsigned w64 l.value) f.len;
}

abbrev pub struct_shape : StructTree → StructShape
struct_shape s = record { name = s.name.text; fields = map field_shape s.fields }

-- of the structs from place i on, those that aren't too large for pointers
abbrev pub numbered : (root : Option ℕ) → (i : ℕ) → List StructTree → List StructTree
numbered root i [] = []
numbered root i (s ∷ ss) = if nat_le (words_of_struct s) (pointed_limit root i)
    then s ∷ numbered root (i + 1) ss else numbered root (i + 1) ss

-- those of the structs from place i on
abbrev pub numbered_from : (i : ℕ) → Tables → List StructTree
numbered_from i t = numbered (root_struct t) i (drop i t.structs)

abbrev pub numbered_in : Tables → List StructTree
numbered_in t = numbered (root_struct t) 0 t.structs

abbrev pub root_fields : Tables → List FieldTree
root_fields t = option_map_or (λ s. s.fields)
    (option_and_then (slice_get t.structs) (root_struct t)) []

abbrev pub shapes_in : Tables → Shapes
shapes_in t = record {
  root = map field_shape (root_fields t);
  structs = map struct_shape (numbered_in t);
}

abbrev pub transactions_in : List FunctionTree → List FunctionTree
transactions_in [] = []
transactions_in (f ∷ fs) = if f.tx then f ∷ transactions_in fs else transactions_in fs

abbrev pub shapes_of : Program → Shapes
shapes_of p = shapes_in (tables_of (tree_of p))

abbrev pub transactions_of : Program → List FunctionTree
transactions_of p = transactions_in (tables_of (tree_of p)).functions
