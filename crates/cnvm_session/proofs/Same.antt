-- Lists of fields that aren't equally long aren't the same.
use Rattle.std.proofs.Common.{◌≡◌, ◌≢◌, List, [], ◌∷◌, ◌&&◌, Bool, true, false, length, map, suc}
use Rattle.std.proofs.Common.{refl, ap}
use Rattle.c_tree.specs.declared.item.Field.{Field}
use Rattle.c_tree.specs.ItemTree.{field_tree}
use Rattle.cnvm_session.specs.Former.{are_same_fields, is_same_field}

and_false : (b c : Bool) → false ≡ c → false ≡ (b && c)
and_false true c e = e
and_false false c e = refl

pub other_length : (fs gs : List Field) → length fs ≢ length gs
    → false ≡ are_same_fields (map field_tree fs) (map field_tree gs)
other_length [] [] other = absurd (other refl)
other_length [] (g ∷ gs) other = refl
other_length (f ∷ fs) [] other = refl
other_length (f ∷ fs) (g ∷ gs) other =
    and_false (is_same_field (field_tree f) (field_tree g)) _
    (other_length fs gs (λ e. other (ap suc e)))
