-- The text of a pool has a line `root` and, from the least slot on, a line `slot S T` for each slot
-- S with an object, where T is the name of the object's struct. Each line continues with ` F=V` for
-- each field F, in the fields' order. A value V is a number in decimal, with `-` if it is negative,
-- and that of a field of `uint64_t` one from 0 on;
-- the value of an array is its elements between `[` and `]`, separated by `,`. Each line ends with
-- LF.
use Rattle.std.specs.Prelude.{ℕ, suc, ◌++◌, List, [], ◌∷◌, Option, None, Some, ℤ, pos, take, drop}
use Rattle.std.specs.Prelude.{slice_index_or, codes, Bool, true, false}
use Rattle.std.specs.Int.{w64, cast_unsigned}
use Rattle.std.specs.List.{join_by}
use Rattle.std.specs.Fmt.{decimal, signed_decimal}
use Rattle.pool_map.specs.declared.object.Object.{Object}
use Rattle.pool_map.specs.declared.shapes.FieldShape.{FieldShape}
use Rattle.pool_map.specs.declared.shapes.StructShape.{StructShape}
use Rattle.pool_map.specs.declared.shapes.Shapes.{Shapes}
use Rattle.pool_map.specs.PoolMap.{PoolMap}
use Rattle.pool_map.specs.PoolFits.{words_of_field, struct_at}

-- a word in decimal, as a number with its sign, or as the number from 0 to 2^64 - 1 with its bits
abbrev pub word_text : (unsigned : Bool) → ℤ → List ℕ
word_text true word = decimal (cast_unsigned w64 word)
word_text false word = signed_decimal word

-- the text of a field's value with these words; the option is the length of an array
abbrev pub value_text : (unsigned : Bool) → Option ℕ → List ℤ → List ℕ
value_text u None words = word_text u (slice_index_or words 0 (pos 0))
value_text u (Some _) words = codes "[" ++ (join_by (word_text u) (codes ",") words ++ codes "]")

abbrev pub field_text : FieldShape → List ℤ → List ℕ
field_text field words =
    codes " " ++ (field.name ++ (codes "=" ++ value_text field.unsigned field.length words))

-- the texts of the fields, whose words come in the fields' order
abbrev pub fields_text : List FieldShape → List ℤ → List ℕ
fields_text [] words = []
fields_text (field ∷ fields) words =
    field_text field (take (words_of_field field) words) ++ fields_text fields
    (drop (words_of_field field) words)

abbrev pub root_line : List FieldShape → List ℤ → List ℕ
root_line fields words = codes "root" ++ (fields_text fields words ++ codes "\n")

abbrev pub struct_line : (slot : ℕ) → Option StructShape → List ℤ → List ℕ
struct_line s None words = []
struct_line s (Some shape) words =
    codes "slot " ++ (decimal s ++ (codes " "
    ++ (shape.name ++ (fields_text shape.fields words ++ codes "\n"))))

-- the line of slot s, or nothing if it has no object
abbrev pub slot_line : List StructShape → (slot : ℕ) → Option Object → List ℕ
slot_line structs s None = []
slot_line structs s (Some object) = struct_line s (struct_at structs object.kind) object.fields

-- the lines of a list of slots that begins with slot s
abbrev pub slot_lines : List StructShape → (slot : ℕ) → List (Option Object) → List ℕ
slot_lines structs s [] = []
slot_lines structs s (slot ∷ slots) = slot_line structs s slot ++ slot_lines structs (suc s) slots

abbrev pub pool_text : Shapes → PoolMap → List ℕ
pool_text shapes pool = root_line shapes.root pool.root ++ slot_lines shapes.structs 1 pool.slots
