-- Which struct of a program's former text differs in its new one. Where none does, a pool of the
-- former program is one of the new program: the roots have the same fields, and the new program's
-- numbered structs begin with the former one's, each with the same name and fields. What comes
-- after them fits into the former one's slots, so that both programs have slots of one width.
use Rattle.std.specs.Prelude.{ℕ, List, [], ◌∷◌, Bool, true, false, Option, Some, None}
use Rattle.std.specs.Prelude.{if◌then◌else◌, ◌&&◌, ◌-◌, nat_le, slice_get}
use Rattle.std.specs.Option.{option_map_or}
use Rattle.std.specs.Ordering.{int_eq}
use Rattle.std.specs.Str.{bytes_eq}
use Rattle.c_tree.specs.declared.expr.IntType.{IntType}
use Rattle.c_tree.specs.declared.expr.IntType.TheVariants.{Signed, Unsigned}
use Rattle.c_tree.specs.ItemTree.{FieldTree, LengthTree}
use Rattle.c_tree.specs.StmtTree.{TypeTree, Int, Pointer}
use Rattle.c_tree.specs.Program.{Program, tree_of}
use Rattle.c_types.specs.Tables.{Tables, StructTree, RootTree, tables_of, words_of_struct}
use Rattle.c_types.specs.Shapes.{root_fields, numbered_in, shapes_of}
use Rattle.pool_map.specs.Width.{slot_words}

abbrev pub is_same_int : IntType → IntType → Bool
is_same_int Signed Signed = true
is_same_int Unsigned Unsigned = true
is_same_int _ _ = false

abbrev pub is_same_type : TypeTree → TypeTree → Bool
is_same_type (Int m) (Int n) = is_same_int m n
is_same_type (Pointer a) (Pointer b) = bytes_eq a.text b.text
is_same_type _ _ = false

abbrev pub is_same_length : Option LengthTree → Option LengthTree → Bool
is_same_length None None = true
is_same_length (Some m) (Some n) = int_eq m.value n.value
is_same_length _ _ = false

-- the same type, name and length
abbrev pub is_same_field : FieldTree → FieldTree → Bool
is_same_field f g =
    is_same_type f.ty g.ty && (bytes_eq f.name.text g.name.text && is_same_length f.len g.len)

abbrev pub are_same_fields : List FieldTree → List FieldTree → Bool
are_same_fields [] [] = true
are_same_fields (f ∷ fs) (g ∷ gs) = is_same_field f g && are_same_fields fs gs
are_same_fields _ _ = false

-- the same name and fields
abbrev pub is_same_struct : StructTree → StructTree → Bool
is_same_struct s t = bytes_eq s.name.text t.name.text && are_same_fields s.fields t.fields

-- the structs after the first one, if that is the same as the former one
abbrev pub after_same : StructTree → List StructTree → Option (List StructTree)
after_same s [] = None
after_same s (t ∷ ts) = if is_same_struct s t then Some ts else None

-- the first struct that has more words than these
abbrev pub first_wider : (room : ℕ) → List StructTree → Option (List ℕ)
first_wider room [] = None
first_wider room (s ∷ ss) =
    if nat_le (words_of_struct s) room then first_wider room ss else Some s.name.text

-- the first of the former structs that isn't the same at its place among the new ones, or the first
-- struct after them that is too large
abbrev pub numbered_other : (room : ℕ) → (former new : List StructTree) → Option (List ℕ)
numbered_other room [] ts = first_wider room ts
numbered_other room (s ∷ ss) ts =
    option_map_or (numbered_other room ss) (after_same s ts) (Some s.name.text)

-- the name of the former root's struct, or of the new one's where there was no root
abbrev pub root_name : (former new : Tables) → List ℕ
root_name former new =
    option_map_or (λ (r : RootTree). r.name.text) (slice_get former.roots 0)
    (option_map_or (λ (r : RootTree). r.name.text) (slice_get new.roots 0) [])

abbrev pub other_in : (room : ℕ) → (former new : Tables) → Option (List ℕ)
other_in room former new =
    if are_same_fields (root_fields former) (root_fields new)
    then numbered_other room (numbered_in former) (numbered_in new)
    else Some (root_name former new)

-- how many field words a slot of the program's pools has
abbrev pub slot_room : Program → ℕ
slot_room p = slot_words (shapes_of p).structs - 1

-- the first struct that differs: the root's, or else a numbered one, or one that is too large
abbrev pub first_other : (former new : Program) → Option (List ℕ)
first_other former new =
    other_in (slot_room former) (tables_of (tree_of former)) (tables_of (tree_of new))
