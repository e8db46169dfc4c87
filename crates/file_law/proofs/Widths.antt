-- Structs that have room in the slots of others leave the width as it is.
use Rattle.std.proofs.Common.{◌≡◌, ℕ, suc, ◌-◌, ◌≤◌, Bool, true, false, if◌then◌else◌, nat_le}
use Rattle.std.proofs.Common.{List, [], ◌∷◌, ◌++◌, map, Some, None, slice_get, refl, sym}
use Rattle.std.proofs.Common.{arith}
use Rattle.std.specs.Prelude.{max}
use Rattle.std.proofs.lemmas.Option.{none-some}
use Rattle.pool_map.specs.declared.shapes.StructShape.{StructShape}
use Rattle.pool_map.specs.PoolFits.{words_of}
use Rattle.pool_map.specs.Width.{most_words, slot_words}
use Rattle.c_types.specs.Tables.{StructTree, words_of_struct}
use Rattle.c_types.specs.Shapes.{field_shape, struct_shape}
use Rattle.cnvm_session.specs.Former.{first_wider}

most_more : (xs ys : List StructShape)
    → most_words (xs ++ ys) ≡ max (most_words xs) (most_words ys)
most_more [] ys = omega arith
most_more (x ∷ xs) ys = omega (arith, most_more xs ys)

pub same_width : (xs ys : List StructShape) → most_words ys ≤ slot_words xs - 1
    → slot_words (xs ++ ys) ≡ slot_words xs
same_width xs ys few = omega (arith, few, most_more xs ys)

pub none_wider : (room : ℕ) (ss : List StructTree)
    → ((k : ℕ) (s : StructTree) → slice_get ss k ≡ Some s
    → nat_le (words_of_struct s) room ≡ true → words_of (map field_shape s.fields) ≤ room)
    → first_wider room ss ≡ None → most_words (map struct_shape ss) ≤ room
none_wider room [] counted none = omega arith
none_wider room (s ∷ ss) counted none =
    by_test (nat_le (words_of_struct s) room) refl none
    (none_wider room ss (λ k x is. counted (suc k) x is))
  where
    by_test : (b : Bool) → nat_le (words_of_struct s) room ≡ b
        → (if b then first_wider room ss else Some s.name.text) ≡ None
        → (first_wider room ss ≡ None → most_words (map struct_shape ss) ≤ room)
        → most_words (map struct_shape (s ∷ ss)) ≤ room
    by_test true e rest later = omega (arith, counted 0 s refl e, later rest)
    by_test false e some later = absurd (none-some s.name.text (sym some))
