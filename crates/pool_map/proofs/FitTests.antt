-- The test whether a pool fits the shapes is exact.
use Rattle.std.proofs.Common.{◌≡◌, List, [], ◌∷◌, Option, None, Some}
use Rattle.std.proofs.Common.{IfSome, IsSomeAnd, length, refl}
use Rattle.std.specs.Bool.{Decides}
use Rattle.std.specs.List.{AllByRecursion, list_all}
use Rattle.std.proofs.lemmas.Bool.Decides.{Decides-eqb, Decides-and}
use Rattle.pool_map.specs.declared.object.Object.{Object}
use Rattle.pool_map.specs.declared.shapes.StructShape.{StructShape}
use Rattle.pool_map.specs.declared.shapes.Shapes.{Shapes}
use Rattle.pool_map.specs.PoolMap.{PoolMap}
use Rattle.pool_map.specs.PoolFits.{words_of, struct_at, ObjectFits, PoolFits}
use Rattle.pool_map.specs.inside.PoolFits.{has_words, slot_fits, pool_fits}

words_decide : (shape : Option StructShape) (object : Object)
    → Decides (has_words shape object)
    (IsSomeAnd shape (λ s. length object.fields ≡ words_of s.fields))
words_decide None object = (λ h. absurd (cc), λ h. absurd h)
words_decide (Some shape) object = Decides-eqb (length object.fields) (words_of shape.fields)

slot_decides : (structs : List StructShape) (slot : Option Object)
    → Decides (slot_fits structs slot) (IfSome slot (ObjectFits structs))
slot_decides structs None = (λ h. tt, λ h. refl)
slot_decides structs (Some object) = words_decide (struct_at structs object.kind) object

slots_decide : (structs : List StructShape) (slots : List (Option Object))
    → Decides (list_all (slot_fits structs) slots)
    (AllByRecursion (λ slot. IfSome slot (ObjectFits structs)) slots)
slots_decide structs [] = (λ h. tt, λ h. refl)
slots_decide structs (slot ∷ slots) =
    Decides-and _ _ (slot_decides structs slot) (slots_decide structs slots)

pub decides : (shapes : Shapes) (pool : PoolMap)
    → Decides (pool_fits shapes pool) (PoolFits shapes pool)
decides shapes pool =
    Decides-and _ _ (Decides-eqb (length pool.root) (words_of shapes.root))
    (slots_decide shapes.structs pool.slots)
