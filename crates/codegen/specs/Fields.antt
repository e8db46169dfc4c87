-- The places of a field's words, counted from the first field word of the root or of an object, in
-- the order of the fields; an array takes its length. A field that doesn't exist, or doesn't fit
-- within a limit of words, has no place.
use Rattle.std.specs.Prelude.{ℕ, ◌+◌, ◌-◌, ◌==◌, nat_le, if◌then◌else◌, List, [], ◌∷◌, Option, Some}
use Rattle.std.specs.Prelude.{None, option_map, option_and_then}
use Rattle.pool_map.specs.declared.shapes.FieldShape.{FieldShape}
use Rattle.pool_map.specs.declared.shapes.StructShape.{StructShape}
use Rattle.pool_map.specs.declared.shapes.Shapes.{Shapes}
use Rattle.pool_map.specs.PoolFits.{words_of_field, struct_at}
use Rattle.pool_layout.specs.declared.limits.Sizes.{Sizes}
use Rattle.codegen.specs.declared.fields.FieldPlace.{FieldPlace}
use Rattle.codegen.specs.declared.fields.At.{At}
use Rattle.codegen.specs.declared.fields.At.TheVariants.{Word, Element}
use Rattle.codegen.specs.declared.fields.Reach.{Reach}
use Rattle.pool_layout.specs.Sizes.{slot_words}

-- the word after a field that begins at word n
abbrev pub word_after_field : (limit n : ℕ) → FieldShape → Option ℕ
word_after_field limit n field = if nat_le (n + words_of_field field) limit
    then Some (n + words_of_field field) else None

-- the word after fields that begin at word n
abbrev pub words_from : (limit n : ℕ) → List FieldShape → Option ℕ
words_from limit n [] = Some n
words_from limit n (field ∷ fields) =
    option_and_then (λ (m : ℕ). words_from limit m fields) (word_after_field limit n field)

abbrev pub place_at : (n : ℕ) → FieldShape → FieldPlace
place_at n field = record { first = n; length = field.length }

-- field f among fields that begin at word n
abbrev pub field_at : (limit n : ℕ) → List FieldShape → ℕ → Option FieldPlace
field_at limit n [] f = None
field_at limit n (field ∷ fields) f =
    option_and_then (λ (m : ℕ). if f == 0 then Some (place_at n field)
    else field_at limit m fields (f - 1)) (word_after_field limit n field)

-- an index is given exactly for an array
abbrev pub element_at : Option ℕ → Option ℕ → Option At
element_at None None = Some Word
element_at None (Some index) = None
element_at (Some length) None = None
element_at (Some length) (Some index) = Some (Element index length)

abbrev pub reach : Option FieldPlace → Option ℕ → Option Reach
reach None index = None
reach (Some place) index = option_map (λ (a : At). record { first = place.first; at = a })
    (element_at place.length index)

-- the root has the sizes' number of words
abbrev pub root_reach : Sizes → Shapes → ℕ → Option ℕ → Option Reach
root_reach s shapes field index = reach (field_at s.root_words 0 shapes.root field) index

-- a slot has room for its words but the header
abbrev pub room : Sizes → ℕ
room s = slot_words s - 1

abbrev pub struct_place : Sizes → Shapes → (kind field : ℕ) → Option FieldPlace
struct_place s shapes kind field =
    option_and_then (λ (u : StructShape). field_at (room s) 0 u.fields field)
    (struct_at shapes.structs kind)

abbrev pub struct_reach : Sizes → Shapes → (kind field : ℕ) → Option ℕ → Option Reach
struct_reach s shapes kind field index = reach (struct_place s shapes kind field) index

abbrev pub object_words : Sizes → Shapes → ℕ → Option ℕ
object_words s shapes kind =
    option_and_then (λ (u : StructShape). words_from (room s) 0 u.fields)
    (struct_at shapes.structs kind)
