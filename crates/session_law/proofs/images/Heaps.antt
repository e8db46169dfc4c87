-- Heaps with the same words hold the same pool, and what a heap holds fits the program's shapes.
use Rattle.std.proofs.Common.{◌≡◌, ℕ, zero, suc, ◌+◌, ◌-◌, ◌*◌, ◌<◌, ◌≤◌, Bool, true, false}
use Rattle.std.proofs.Common.{if◌then◌else◌, nat_le, nat_lt, leb, ltb, List, ◌∷◌, length, Option}
use Rattle.std.proofs.Common.{Some, None, IsSomeAnd, IfSome}
use Rattle.std.proofs.Common.{ℤ, pos, refl, sym, ap, ◌∙◌, subst, arith}
use Rattle.std.specs.List.{AllByRecursion}
use Rattle.std.proofs.lemmas.Bool.{leb-false, ltb-false}
use Rattle.cache_model.specs.Cache.{Words, Cache, view}
use Rattle.pool_layout.specs.declared.limits.Sizes.{Sizes}
use Rattle.pool_layout.specs.declared.places.Place.TheVariants.{Heap}
use Rattle.pool_layout.specs.Places as places
use Rattle.pool_layout.specs.Sizes.{heap_words, slot_words, slot_word}
use Rattle.pool_layout.proofs.Slots.{slot_within}
use Rattle.pool_map.specs.declared.object.Object.{Object}
use Rattle.pool_map.specs.declared.shapes.StructShape.{StructShape}
use Rattle.pool_map.specs.PoolFits.{words_of, struct_at, ObjectFits, PoolFits}
use Rattle.pm_machine.specs.HeapPool.{heap_of, words_from, object_with, kind_in, object_of}
use Rattle.pm_machine.specs.HeapPool.{object_in, objects_from}
use Rattle.pm_machine.specs.Runs.{heap_in}
use Rattle.c_types.specs.Shapes.{shapes_of}
use Rattle.cnvm_session.specs.declared.program.Program.{Program}
use Rattle.cnvm_session.specs.Pool.{sizes_of}
use Rattle.session_law.specs.Source.{source_pool, HasSourceHeaders}

-- the two heaps have the same words below this one
abbrev AreSame : ℕ → Words → Words → Type 0
AreSame top h g = (w : ℕ) → w < top → h w ≡ g w

words_same : (h g : Words) (top w n : ℕ) → w + n ≤ top → AreSame top h g
    → words_from h w n ≡ words_from g w n
words_same h g top w zero fits same = refl
words_same h g top w (suc n) fits same =
    let head : h w ≡ g w = same w (omega arith) in
    λ i. head i ∷ words_same h g top (suc w) n (omega arith) same i

abbrev object : ℕ → List ℤ → Option Object
object kind fields = Some (record { kind = kind; fields = fields })

module _ (s : Sizes) (structs : List StructShape) (h g : Words) (top w : ℕ)
    (fits : w + slot_words s ≤ top) (same : AreSame top h g) where
  with_same : (kind : ℕ) (o : Option StructShape)
      → object_with s h w kind o ≡ object_with s g w kind o
  with_same kind None = refl
  with_same kind (Some shape) = go (nat_le (slot_words s) (words_of shape.fields)) refl
    where
      go : (b : Bool) → leb (slot_words s) (words_of shape.fields) ≡ b
          → (if b then None else object kind (words_from h (w + 1) (words_of shape.fields)))
          ≡ (if b then None else object kind (words_from g (w + 1) (words_of shape.fields)))
      go true e = refl
      go false e =
          let few : words_of shape.fields < slot_words s =
          leb-false (slot_words s) (words_of shape.fields) e in
          ap (object kind) (words_same h g top (w + 1) (words_of shape.fields) (omega arith) same)

  of_same : (o : Option ℕ) → object_of s structs h w o ≡ object_of s structs g w o
  of_same None = refl
  of_same (Some kind) = with_same kind (struct_at structs kind)

  object_same : object_in s structs h w ≡ object_in s structs g w
  object_same = ap (λ (x : ℤ). object_of s structs h w (kind_in x))
      (same w (omega (arith, s.slot_fits.0)))
      ∙ of_same (kind_in (g w))

objects_same : (s : Sizes) (structs : List StructShape) (h g : Words) (slot n : ℕ) → 1 ≤ slot
    → slot + n ≤ s.slots + 1 → AreSame (heap_words s) h g
    → objects_from s structs h slot n ≡ objects_from s structs g slot n
objects_same s structs h g slot zero first last same = refl
objects_same s structs h g slot (suc n) first last same =
    let within : slot_words s * (slot - 1) + slot_words s ≤ slot_words s * s.slots =
    slot_within (slot_words s) s.slots slot first (omega (arith, last)) in
    let head = object_same s structs h g (heap_words s) (slot_word s slot)
    (omega (arith, within)) same in
    λ i. head i ∷ objects_same s structs h g (suc slot) n (omega arith) (omega arith) same i

pub pool_same : (program : Program) (h g : Words) → AreSame (heap_words (sizes_of program)) h g
    → source_pool program h ≡ source_pool program g
pool_same program h g same =
    let s : Sizes = sizes_of program in
    let root = words_same h g (heap_words s) 0 s.root_words (omega arith) same in
    let slots = objects_same s (shapes_of program.typed).structs h g 1 s.slots (omega arith)
    (omega arith) same in
    λ i. record { root = root i; slots = slots i }

pub headers_same : (program : Program) (h g : Words) → AreSame (heap_words (sizes_of program)) h g
    → HasSourceHeaders program h → HasSourceHeaders program g
headers_same program h g same headers slot first last =
    let header = headers slot first last in
    let s : Sizes = sizes_of program in
    let within : slot_words s * (slot - 1) + slot_words s ≤ slot_words s * s.slots =
    slot_within (slot_words s) s.slots slot first last in (
      header.0,
      header.1,
      sym (same (slot_word s slot) (omega (arith, within, s.slot_fits.0)))
          ∙ header.2,
    )

-- `show` reads the heap of the view
pub shown_same : (s : Sizes) (c : Cache) → AreSame (heap_words s) (heap_of s (view c)) (heap_in s c)
shown_same s c w less = go (nat_lt w (heap_words s)) refl
  where
    go : (b : Bool) → ltb w (heap_words s) ≡ b
        → (if b then view c (places.at (places.pool_of s) (Heap w)) else pos 0)
        ≡ view c (places.at (places.pool_of s) (Heap w))
    go true e = refl
    go false e = let more : heap_words s ≤ w = ltb-false w (heap_words s) e in absurd (omega arith)

pub length_words : (h : Words) (w n : ℕ) → length (words_from h w n) ≡ n
length_words h w zero = refl
length_words h w (suc n) = ap suc (length_words h (suc w) n)

module _ (s : Sizes) (structs : List StructShape) (h : Words) where
  with_fits : (w kind : ℕ) (o : Option StructShape) → struct_at structs kind ≡ o
      → IfSome (object_with s h w kind o) (ObjectFits structs)
  with_fits w kind None is = tt
  with_fits w kind (Some shape) is = go (nat_le (slot_words s) (words_of shape.fields))
    where
      go : (b : Bool) → IfSome (if b then None
          else object kind (words_from h (w + 1) (words_of shape.fields))) (ObjectFits structs)
      go true = tt
      go false =
          subst (λ (o : Option StructShape).
          IsSomeAnd o (λ (x : StructShape). length (words_from h (w + 1) (words_of shape.fields))
          ≡ words_of x.fields)) (sym is)
          (length_words h (w + 1) (words_of shape.fields))

  of_fits : (w : ℕ) (o : Option ℕ) → IfSome (object_of s structs h w o) (ObjectFits structs)
  of_fits w None = tt
  of_fits w (Some kind) = with_fits w kind (struct_at structs kind) refl

  objects_fit : (slot n : ℕ)
      → AllByRecursion (λ (o : Option Object). IfSome o (ObjectFits structs))
      (objects_from s structs h slot n)
  objects_fit slot zero = tt
  objects_fit slot (suc n) = (
    of_fits (slot_word s slot) (kind_in (h (slot_word s slot))),
    objects_fit (suc slot) n,
  )

pub pool_fits : (program : Program) (h : Words) → words_of (shapes_of program.typed).root
    ≡ (sizes_of program).root_words → PoolFits (shapes_of program.typed) (source_pool program h)
pool_fits program h root = (
  length_words h 0 (sizes_of program).root_words ∙ sym root,
  objects_fit (sizes_of program) (shapes_of program.typed).structs h 1 (sizes_of program).slots,
)
