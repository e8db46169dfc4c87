-- A struct has fewer words than a slot whose width is that of the structs.
use Rattle.std.proofs.Common.{◌≡◌, ℕ, zero, suc, ◌<◌, ◌≤◌, List, [], ◌∷◌, Some, subst, arith}
use Rattle.std.specs.Prelude.{max, slice_get}
use Rattle.std.proofs.Math.Nat.{le-max_left}
use Rattle.std.proofs.lemmas.Option.{none-some, same_Some}
use Rattle.pool_map.specs.declared.limits.TheConstants.{OBJECT_WORDS}
use Rattle.pool_map.specs.declared.shapes.StructShape.{StructShape}
use Rattle.pool_map.specs.PoolFits.{words_of}
use Rattle.pool_map.specs.Width.{most_words, slot_words}

words_within : (structs : List StructShape) (k : ℕ) (shape : StructShape)
    → slice_get structs k ≡ Some shape → words_of shape.fields ≤ most_words structs
words_within [] k shape is = absurd (none-some shape is)
words_within (s ∷ ss) zero shape is =
    let same : s ≡ shape = same_Some s shape is in
    subst (λ (x : StructShape). words_of x.fields ≤ max (words_of s.fields) (most_words ss)) same
    (le-max_left (words_of s.fields) (most_words ss))
words_within (s ∷ ss) (suc k) shape is =
    let rest = words_within ss k shape is in omega (arith, rest)

pub fits_slot : (structs : List StructShape) (k : ℕ) (shape : StructShape)
    → slice_get structs k ≡ Some shape → words_of shape.fields ≤ OBJECT_WORDS
    → words_of shape.fields < slot_words structs
fits_slot structs k shape is few =
    let within : words_of shape.fields ≤ most_words structs = words_within structs k shape is in
    omega (arith, within, few)
