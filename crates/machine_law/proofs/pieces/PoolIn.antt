-- The pool that a heap stands for.
use Rattle.std.proofs.Common.{◌≡◌, ℕ, zero, suc, ◌+◌, ◌<◌, ◌≤◌, List, length, Option, None, Some}
use Rattle.std.proofs.Common.{IfSome, IsSomeAnd, option_map, get_or, ℤ, pos, negsuc, refl, sym, ap}
use Rattle.std.proofs.Common.{◌∙◌, subst, arith, ⊎_elim, ext_get_or}
use Rattle.std.specs.List.{AllByRecursion}
use Rattle.std.proofs.lemmas.Option.{slice_get_cases}
use Rattle.cache_model.specs.Cache.{Words}
use Rattle.pool_layout.specs.declared.limits.Sizes.{Sizes}
use Rattle.pool_layout.specs.Headers.{HasHeaders}
use Rattle.pm_machine.specs.HeapPool.{words_from}
use Rattle.pool_map.specs.declared.object.Object.{Object}
use Rattle.pool_map.specs.declared.shapes.StructShape.{StructShape}
use Rattle.pool_map.specs.declared.shapes.Shapes.{Shapes}
use Rattle.pool_map.specs.PoolFits.{PoolFits, ObjectFits, words_of, struct_at}
use Rattle.pool_map.specs.PoolMap.{PoolMap, object_at, field_of}
use Rattle.pool_map.proofs.Points.{IsSlot-HasField}
use Rattle.code_meaning.specs.Code.{Spot, InRoot, InSlot, load_spot}
use Rattle.machine_law.specs.pieces.Stands.{Stands, HasWord, heap_word, header_word, header_of}
use Rattle.machine_law.specs.pieces.Fits.{IsFit}
use Rattle.machine_law.specs.pieces.Pools.{PoolLaw, HeadersLaw}
use Rattle.machine_law.proofs.pieces.Read.{read_object, read_slot, read_slots, read_pool, pool_same}
use Rattle.machine_law.proofs.pieces.Changes.{object_fits}

words_length : (heap : Words) (w n : ℕ) → length (words_from heap w n) ≡ n
words_length heap w zero = refl
words_length heap w (suc n) = ap suc (words_length heap (suc w) n)

words_at : (heap : Words) (w n i : ℕ) (d : ℤ) → i < n
    → get_or (words_from heap w n) i d ≡ heap (w + i)
words_at heap w zero i d few = absurd (omega arith)
words_at heap w (suc n) zero d few = let e : w ≡ w + 0 = omega arith in ap heap e
words_at heap w (suc n) (suc i) d few = let e : suc w + i ≡ w + suc i = omega arith in
    words_at heap (suc w) n i d (omega arith) ∙ ap heap e

-- a slot's object
module _ (structs : List StructShape) (heap : Words) (w : ℕ) where
  head_is : (k : ℕ) → k ≤ length structs → header_of (read_slot structs heap w (pos k)) ≡ pos k
  head_is zero few = refl
  head_is (suc k) few = ⊎_elim
      (λ g. ap (λ (o : Option StructShape). header_of (option_map (read_object heap w (suc k)) o))
      g.2)
      (λ g. absurd (omega (arith, g.0)))
      (slice_get_cases structs k).1

  field_with : (k i : ℕ) (o : Option StructShape)
      → IsSomeAnd (option_map (read_object heap w k) o) (λ object. i < length object.fields)
      → heap (w + 1 + i) ≡ field_of (option_map (read_object heap w k) o) i
  field_with k i None has = absurd has
  field_with k i (Some shape) has =
      sym (words_at heap (w + 1) (words_of shape.fields) i (pos 0)
      (subst (λ (n : ℕ). i < n) (words_length heap (w + 1) (words_of shape.fields)) has))

  field_in : (z : ℤ) (i : ℕ) → IsSomeAnd (read_slot structs heap w z) (λ object.
      i < length object.fields) → heap (w + 1 + i) ≡ field_of (read_slot structs heap w z) i
  field_in (pos k) i has = field_with k i (struct_at structs k) has
  field_in (negsuc k) i has = absurd has

  fits_with : (k : ℕ) (o : Option StructShape) → struct_at structs k ≡ o
      → IfSome (option_map (read_object heap w k) o) (ObjectFits structs)
  fits_with k None e = tt
  fits_with k (Some shape) e = subst (λ (o : Option StructShape).
      IsSomeAnd o (λ u. length (words_from heap (w + 1) (words_of shape.fields))
      ≡ words_of u.fields))
      (sym e) (words_length heap (w + 1) (words_of shape.fields))

  fits_in : (z : ℤ) → IfSome (read_slot structs heap w z) (ObjectFits structs)
  fits_in (pos k) = fits_with k (struct_at structs k) refl
  fits_in (negsuc k) = tt

  -- the object that is there is the one that the heap holds
  same_with : (o : Object) (u : Option StructShape)
      → IsSomeAnd u (λ shape. length o.fields ≡ words_of shape.fields)
      → ((i : ℕ) → i < length o.fields → heap (w + 1 + i) ≡ get_or o.fields i (pos 0))
      → option_map (read_object heap w o.kind) u ≡ Some o
  same_with o None fits words = absurd fits
  same_with o (Some shape) fits words =
      let long : length (words_from heap (w + 1) (words_of shape.fields)) ≡ words_of shape.fields =
      words_length heap (w + 1) (words_of shape.fields) in
      ap (λ (fields : List ℤ). Some (record { kind = o.kind; fields = fields }))
      (ext_get_or (pos 0) (words_from heap (w + 1) (words_of shape.fields)) o.fields
      (long ∙ sym fits)
      (λ i less. let few : i < words_of shape.fields = subst (λ (n : ℕ). i < n) long less in
      words_at heap (w + 1) (words_of shape.fields) i (pos 0) few ∙ words i (omega arith)))

  same_in : (o : Option Object) → IfSome o (ObjectFits structs)
      → ((i : ℕ) → IsSomeAnd o (λ object. i < length object.fields)
      → heap (w + 1 + i) ≡ field_of o i)
      → read_slot structs heap w (header_of o) ≡ o
  same_in None fits words = refl
  same_in (Some o) fits words = same_with o (struct_at structs o.kind) fits words

  kind_few : (o : Option Object) → IfSome o (ObjectFits structs) → (k : ℕ) × (k ≤ length structs)
      × (header_of o ≡ pos k)
  kind_few None fits = (0, omega arith, refl)
  kind_few (Some o) fits = (o.kind, by o.kind fits, refl)
    where
      by : (k : ℕ) → IsSomeAnd (struct_at structs k)
          (λ shape. length o.fields ≡ words_of shape.fields) → k ≤ length structs
      by zero fits = omega arith
      by (suc k) fits = ⊎_elim
          (λ g. omega (arith, g.1))
          (λ g. absurd (subst (λ (u : Option StructShape).
          IsSomeAnd u (λ shape. length o.fields ≡ words_of shape.fields)) g.1 fits))
          (slice_get_cases structs k).1

-- all slots
module _ (s : Sizes) (structs : List StructShape) (heap : Words) where
  abbrev slot_in : ℕ → Option Object
  slot_in q = read_slot structs heap (header_word s q) (heap (header_word s q))

  slots_length : (q n : ℕ) → length (read_slots s structs heap q n) ≡ n
  slots_length q zero = refl
  slots_length q (suc n) = ap suc (slots_length (suc q) n)

  slot_at : (q n i : ℕ) → i < n → get_or (read_slots s structs heap q n) i None ≡ slot_in (q + i)
  slot_at q zero i few = absurd (omega arith)
  slot_at q (suc n) zero few = let e : q ≡ q + 0 = omega arith in ap slot_in e
  slot_at q (suc n) (suc i) few = let e : suc q + i ≡ q + suc i = omega arith in
      slot_at (suc q) n i (omega arith) ∙ ap slot_in e

  slots_fit : (q n : ℕ) → AllByRecursion (λ slot. IfSome slot (ObjectFits structs))
      (read_slots s structs heap q n)
  slots_fit q zero = tt
  slots_fit q (suc n) = (
    fits_in structs heap (header_word s q) (heap (header_word s q)),
    slots_fit (suc q) n,
  )

module _ (s : Sizes) (shapes : Shapes) (heap : Words) (fit : IsFit s shapes)
    (valid : HasHeaders s (length shapes.structs) heap) where
  abbrev pool : PoolMap
  pool = read_pool shapes s heap

  object_is : (q : ℕ) → 1 ≤ q → q ≤ s.slots → object_at pool q ≡ slot_in s shapes.structs heap q
  object_is zero low high = absurd (omega arith)
  object_is (suc i) low high = let e : 1 + i ≡ suc i = omega arith in
      slot_at s shapes.structs heap 1 s.slots i (omega arith) ∙ ap (slot_in s shapes.structs heap) e

  stands_in : Stands s heap pool
  stands_in = record {
    root_words = words_length heap 0 s.root_words;
    slots = slots_length s shapes.structs heap 1 s.slots;
    headers = λ q low high.
        let k = valid q low high in
        sym (ap header_of (object_is q low high)
        ∙ ap (λ (z : ℤ). header_of (read_slot shapes.structs heap (header_word s q) z)) k.2
        ∙ head_is shapes.structs heap (header_word s q) k.0 k.1 ∙ sym k.2);
    words = word;
  }
    where
      word : (x : Spot) → HasWord pool x → heap (heap_word s x) ≡ load_spot pool x
      word (InRoot i) has =
          let few : i < s.root_words = subst (λ (n : ℕ). i < n)
          (words_length heap 0 s.root_words) has in
          let e : 0 + i ≡ i = omega arith in
          sym (words_at heap 0 s.root_words i (pos 0) few ∙ ap heap e)
      word (InSlot q i) has =
          let slot = IsSlot-HasField pool q i has in
          let is = object_is q slot.0 (omega (
            arith,
            slot.1,
            slots_length s shapes.structs heap 1 s.slots,
          )) in
          let has' = subst (λ (o : Option Object). IsSomeAnd o (λ object. i < length object.fields))
          is has in
          field_in shapes.structs heap (header_word s q) (heap (header_word s q)) i has'
          ∙ sym (ap (λ (o : Option Object). field_of o i) is)

  fits_all : PoolFits shapes pool
  fits_all = (
    words_length heap 0 s.root_words ∙ sym fit.root,
    slots_fit s shapes.structs heap 1 s.slots,
  )

pub pool_is : PoolLaw
pool_is s shapes heap fit valid =
    let same = pool_same s shapes fit heap valid in (
      subst (Stands s heap) (sym same) (stands_in s shapes heap fit valid),
      subst (PoolFits shapes) (sym same) (fits_all s shapes heap fit valid),
    )

pub headers_are : HeadersLaw
headers_are s shapes heap w fit fits stands =
    (valid, same ∙ sym (pool_same s shapes fit heap valid))
  where
    valid : HasHeaders s (length shapes.structs) heap
    valid q low high = let k = kind_few shapes.structs heap (header_word s q) (object_at w q)
        (object_fits shapes w q fits) in (k.0, k.1, stands.headers q low high ∙ k.2)

    slot_is : (q : ℕ) → 1 ≤ q → q ≤ s.slots → slot_in s shapes.structs heap q ≡ object_at w q
    slot_is q low high =
        ap (read_slot shapes.structs heap (header_word s q)) (stands.headers q low high)
        ∙ same_in shapes.structs heap (header_word s q) (object_at w q)
        (object_fits shapes w q fits) (λ i has. stands.words (InSlot q i) has)

    root_is : w.root ≡ words_from heap 0 s.root_words
    root_is = ext_get_or (pos 0) w.root (words_from heap 0 s.root_words)
        (stands.root_words ∙ sym (words_length heap 0 s.root_words))
        (λ i less. let few = stands.root_words in let e : 0 + i ≡ i = omega arith in
        sym (words_at heap 0 s.root_words i (pos 0) (omega arith) ∙ ap heap e
        ∙ stands.words (InRoot i) less))

    slots_are : w.slots ≡ read_slots s shapes.structs heap 1 s.slots
    slots_are = ext_get_or None w.slots (read_slots s shapes.structs heap 1 s.slots)
        (stands.slots ∙ sym (slots_length s shapes.structs heap 1 s.slots))
        (λ i less. let few = stands.slots in let e : 1 + i ≡ suc i = omega arith in
        sym (slot_at s shapes.structs heap 1 s.slots i (omega arith)
        ∙ ap (slot_in s shapes.structs heap) e ∙ slot_is (suc i) (omega arith) (omega arith)))

    same : w ≡ read_pool shapes s heap
    same = λ i. record { root = root_is i; slots = slots_are i }
