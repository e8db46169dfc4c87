-- A heap whose headers name structs of a list holds the same objects if the list is longer.
use Rattle.std.proofs.Common.{◌≡◌, ℕ, zero, suc, ◌+◌, ◌<◌, ◌≤◌, Bool, true, false, if◌then◌else◌}
use Rattle.std.proofs.Common.{nat_lt, List, [], ◌∷◌, ◌++◌, length, slice_get, Some, None, ℤ}
use Rattle.std.proofs.Common.{pos, refl, sym, ap, ◌∙◌, arith}
use Rattle.cache_model.specs.Cache.{Words}
use Rattle.pool_layout.specs.declared.limits.Sizes.{Sizes}
use Rattle.pool_layout.specs.Sizes.{slot_word}
use Rattle.pool_layout.specs.Headers.{HasHeaders}
use Rattle.pool_layout.specs.Image.{IsUpTo}
use Rattle.pool_map.specs.declared.shapes.StructShape.{StructShape}
use Rattle.pool_map.specs.PoolFits.{struct_at}
use Rattle.pm_machine.specs.HeapPool.{object_with, kind_in, object_of, object_in, objects_from}

get_more : (xs ys : List StructShape) (i : ℕ) → i < length xs
    → slice_get (xs ++ ys) i ≡ slice_get xs i
get_more [] ys i less = absurd (omega (arith, less))
get_more (x ∷ xs) ys zero less = refl
get_more (x ∷ xs) ys (suc i) less = get_more xs ys i (omega (arith, less))

struct_more : (structs more : List StructShape) (kind : ℕ) → kind ≤ length structs
    → struct_at (structs ++ more) kind ≡ struct_at structs kind
struct_more structs more zero up_to = refl
struct_more structs more (suc i) up_to = get_more structs more i (omega (arith, up_to))

module _ (s : Sizes) (structs more : List StructShape) (h : Words) where
  kind_more : (w kind : ℕ) → kind ≤ length structs
      → object_of s (structs ++ more) h w (kind_in (pos kind))
      ≡ object_of s structs h w (kind_in (pos kind))
  kind_more w kind up_to = go (nat_lt kind 256)
    where
      go : (b : Bool) → object_of s (structs ++ more) h w (if b then Some kind else None)
          ≡ object_of s structs h w (if b then Some kind else None)
      go true = ap (object_with s h w kind) (struct_more structs more kind up_to)
      go false = refl

  object_more : (w : ℕ) → IsUpTo (length structs) (h w)
      → object_in s (structs ++ more) h w ≡ object_in s structs h w
  object_more w header =
      ap (λ (x : ℤ). object_of s (structs ++ more) h w (kind_in x)) header.2
      ∙ kind_more w header.0 header.1
      ∙ sym (ap (λ (x : ℤ). object_of s structs h w (kind_in x)) header.2)

  objects_in : (slot n : ℕ) → 1 ≤ slot → slot + n ≤ s.slots + 1
      → HasHeaders s (length structs) h
      → objects_from s (structs ++ more) h slot n ≡ objects_from s structs h slot n
  objects_in slot zero first last headers = refl
  objects_in slot (suc n) first last headers =
      let head = object_more (slot_word s slot) (headers slot first (omega (arith, last))) in
      λ i. head i ∷ objects_in (suc slot) n (omega (arith, first)) (omega (arith, last)) headers i

  pub objects_more : HasHeaders s (length structs) h
      → objects_from s (structs ++ more) h 1 s.slots ≡ objects_from s structs h 1 s.slots
  objects_more headers = objects_in 1 s.slots (omega arith) (omega arith) headers
