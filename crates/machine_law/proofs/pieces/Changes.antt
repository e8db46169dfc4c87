-- A pool after a change of one word or one slot, and the heap that stands for it.
use Rattle.std.proofs.Common.{◌≡◌, ◌≢◌, ◌⊎◌, inl, inr, ⊎_elim, ℕ, zero, suc, ◌+◌, ◌-◌, ◌<◌, ◌≤◌}
use Rattle.std.proofs.Common.{Bool, true, false, List, ◌++◌, length, Option, None, Some}
use Rattle.std.proofs.Common.{IsSomeAnd, IfSome, option_map, get_or, set, ℤ, pos, refl}
use Rattle.std.proofs.Common.{sym, ap, ◌∙◌, subst, arith, slice_get}
use Rattle.std.specs.Prelude.{if◌then◌else◌}
use Rattle.std.proofs.lemmas.Bool.{cases_eq, cases_lt, lt-ltb}
use Rattle.std.proofs.lemmas.List.{length-set, get_or-replicate, get_or-set_same, get_or-set_other}
use Rattle.std.proofs.lemmas.List.{length-replicate}
use Rattle.cache_model.specs.Cache.{Words, put}
use Rattle.cache_model.proofs.Versions.{put_same, put_other}
use Rattle.pool_layout.specs.declared.limits.Sizes.{Sizes}
use Rattle.pool_layout.specs.Sizes.{slot_words, slot_word}
use Rattle.pool_map.specs.declared.object.Object.{Object}
use Rattle.pool_map.specs.declared.shapes.StructShape.{StructShape}
use Rattle.pool_map.specs.declared.shapes.Shapes.{Shapes}
use Rattle.pool_map.specs.PoolFits.{PoolFits, ObjectFits, words_of, struct_at}
use Rattle.pool_map.specs.PoolMap.{PoolMap, IsSlot, object_at, with_object, blank_object, new, free}
use Rattle.pool_map.specs.PoolMap.{field_of, with_field, HasField, write, read_root, write_root}
use Rattle.pool_map.proofs.Points.{object_at-with_object_same, object_at-with_object_other}
use Rattle.pool_map.proofs.Points.{IsSlot-HasField, read_root-write_root_same}
use Rattle.pool_map.proofs.Points.{read_root-write_root_other}
use Rattle.pool_map.proofs.Fitting.{slot_all}
use Rattle.pool_map.specs.Checks.{has_word}
use Rattle.code_meaning.specs.Code.{Spot, InRoot, InSlot, load_spot, store_spot}
use Rattle.pm_machine.specs.declared.effect.Effect.{Effect}
use Rattle.pm_machine.specs.Effects.{heap_end}
use Rattle.pool_layout.proofs.Slots.{slots_follow}
use Rattle.machine_law.specs.pieces.Stands.{Stands, HasWord, heap_word, header_word, header_of}
use Rattle.machine_law.specs.pieces.Fits.{IsFit}
use Rattle.machine_law.specs.pieces.Shows.{IsThere}
use Rattle.machine_law.proofs.pieces.Stores.{store_effects, zero_effects}

pub object_fits : (shapes : Shapes) (w : PoolMap) (q : ℕ) → PoolFits shapes w
    → IfSome (object_at w q) (ObjectFits shapes.structs)
object_fits shapes w zero fits = tt
object_fits shapes w (suc i) fits = slot_all (ObjectFits shapes.structs) w.slots i fits.1

-- an object's words fit in its slot
few_words : (structs : List StructShape) (most kind n : ℕ)
    → ((k : ℕ) (shape : StructShape) → slice_get structs k ≡ Some shape
    → words_of shape.fields < most)
    → IsSomeAnd (struct_at structs kind) (λ shape. n ≡ words_of shape.fields) → n < most
few_words structs most zero n short h = absurd h
few_words structs most (suc k) n short h = by (slice_get structs k) refl h
  where
    by : (o : Option StructShape) → slice_get structs k ≡ o
        → IsSomeAnd o (λ shape. n ≡ words_of shape.fields) → n < most
    by None e h = absurd h
    by (Some shape) e h = let few = short k shape e in omega (arith, h)

field_short : (s : Sizes) (shapes : Shapes) (o : Option Object) (i : ℕ) → IsFit s shapes
    → IfSome o (ObjectFits shapes.structs) → IsSomeAnd o (λ object. i < length object.fields)
    → i + 1 < slot_words s
field_short s shapes None i fit fits has = absurd has
field_short s shapes (Some object) i fit fits has = let most =
    few_words shapes.structs (slot_words s) object.kind (length object.fields) fit.short fits in
    omega arith

-- each word that a pool has is a word of the heap
pub there_of : (s : Sizes) (shapes : Shapes) (heap : Words) (w : PoolMap) (x : Spot)
    → IsFit s shapes → PoolFits shapes w → Stands s heap w → HasWord w x → IsThere s x
there_of s shapes heap w (InRoot i) fit fits stands has = let e = stands.root_words in omega arith
there_of s shapes heap w (InSlot q i) fit fits stands has =
    let slot = IsSlot-HasField w q i has in
    let e = stands.slots in (
      slot.0,
      omega (arith, slot.1),
      field_short s shapes (object_at w q) i fit (object_fits shapes w q fits) has,
    )

-- the heap word isn't one of slot q
abbrev pub Outside : Sizes → ℕ → ℕ → Type 0
Outside s q x = (x < slot_word s q) ⊎ (slot_word s q + slot_words s ≤ x)

other_slot : (s : Sizes) (q t i : ℕ) → 1 ≤ q → 1 ≤ t → t ≢ q → i < slot_words s
    → Outside s q (slot_word s t + i)
other_slot s q t i low low' ne few =
    ⊎_elim (λ (lt : t < q).
    inl (let before = slots_follow (slot_words s) t q low' lt in omega arith)) (λ (ge : q ≤ t).
    inr (let lt : q < t = ⊎_elim {C = q < t} (λ (e : t ≡ q). absurd (ne e)) (λ (n : t ≡ q → ⊥).
    grind arith) (cases_eq t q) in
    let before = slots_follow (slot_words s) q t low lt in omega arith)) (cases_lt t q)

module _ (s : Sizes) (shapes : Shapes) (heap : Words) (w : PoolMap) (fit : IsFit s shapes)
    (fits : PoolFits shapes w) (stands : Stands s heap w) where
  -- one slot is changed, and no word outside it
  pub stands_at : (heap' : Words) (q : ℕ) (o : Option Object) → IsSlot w q
      → ((x : ℕ) → Outside s q x → heap' x ≡ heap x) → heap' (header_word s q) ≡ header_of o
      → ((i : ℕ) → IsSomeAnd o (λ object. i < length object.fields)
      → heap' (heap_word s (InSlot q i)) ≡ field_of o i) → Stands s heap' (with_object w q o)
  stands_at heap' q o slot same head field = record {
    root_words = stands.root_words;
    slots = length-set w.slots (q - 1) o ∙ stands.slots;
    headers = λ t low high. ⊎_elim
        (λ (e : t ≡ q). ap (λ (n : ℕ). heap' (header_word s n)) e ∙ head
        ∙ sym (ap header_of (ap (object_at (with_object w q o)) e
        ∙ object_at-with_object_same w q o slot)))
        (λ (ne : t ≡ q → ⊥). let at : slot_word s t + 0 ≡ slot_word s t = omega arith in
        same (header_word s t) (subst (Outside s q)
        at (other_slot s q t 0 slot.0 low ne (omega arith))) ∙ stands.headers t low high
        ∙ sym (ap header_of (object_at-with_object_other w q t o slot ne)))
        (cases_eq t q);
    words = word;
  }
    where
      word : (x : Spot) → HasWord (with_object w q o) x
          → heap' (heap_word s x) ≡ load_spot (with_object w q o) x
      word (InRoot i) has =
          let e = stands.root_words in
          same i (inl (omega (arith, slot.0))) ∙ stands.words (InRoot i) has
      word (InSlot t i) has = ⊎_elim
          (λ (e : t ≡ q).
          let is : object_at (with_object w q o) t ≡ o = ap (object_at (with_object w q o)) e
          ∙ object_at-with_object_same w q o slot in
          ap (λ (n : ℕ). heap' (heap_word s (InSlot n i))) e
          ∙ field i (subst (λ (r : Option Object).
          IsSomeAnd r (λ object. i < length object.fields)) is has)
          ∙ sym (ap (λ (r : Option Object). field_of r i) is))
          (λ (ne : t ≡ q → ⊥).
          let is : object_at (with_object w q o) t ≡ object_at w t =
          object_at-with_object_other w q t o slot ne in
          let has' : HasField w t i = subst (λ (r : Option Object).
          IsSomeAnd r (λ object. i < length object.fields)) is has in
          let there = there_of s shapes heap w (InSlot t i) fit fits stands has' in
          let at : slot_word s t + suc i ≡ heap_word s (InSlot t i) = omega arith in
          same (heap_word s (InSlot t i))
          (subst (Outside s q) at (other_slot s q t (suc i) slot.0 there.0 ne
          (omega (arith, there.2)))) ∙ stands.words (InSlot t i) has'
          ∙ sym (ap (λ (r : Option Object). field_of r i) is))
          (cases_eq t q)

  pub stands_free : (q : ℕ) → IsSlot w q → Stands s (put heap (header_word s q) (pos 0)) (free w q)
  stands_free q slot =
      stands_at (put heap (header_word s q) (pos 0)) q None slot
      (λ x out. put_other heap (header_word s q) x (pos 0)
      (λ e. ⊎_elim {C = ⊥} (λ lt. absurd (omega arith)) (λ ge. absurd (omega arith)) out))
      (put_same heap (header_word s q) (pos 0))
      (λ i has. absurd has)

-- a store, and zeros, in the heap
store_heap : (b : Bool) (heap : Words) (q : ℕ) (v : ℤ) (es : List Effect)
    → heap_end heap (store_effects b q v ++ es) ≡ heap_end (put heap q v) es
store_heap false heap q v es = refl
store_heap true heap q v es = refl

pub stored_heap : (b : Bool) (heap : Words) (q : ℕ) (v : ℤ) → heap_end heap (store_effects b q v)
    ≡ put heap q v
stored_heap false heap q v = refl
stored_heap true heap q v = refl

module _ (s : Sizes) (b : Bool) (q : ℕ) where
  zeroed_out : (c i : ℕ) (heap : Words) (x : ℕ) → (x < heap_word s (InSlot q i))
      ⊎ (heap_word s (InSlot q i) + c ≤ x) → heap_end heap (zero_effects s b q i c) x ≡ heap x
  zeroed_out zero i heap x out = refl
  zeroed_out (suc c) i heap x out =
      ap (λ (h : Words). h x) (store_heap b heap (heap_word s (InSlot q i)) (pos 0)
      (zero_effects s b q (suc i) c))
      ∙ zeroed_out c (suc i) (put heap (heap_word s (InSlot q i)) (pos 0)) x
      (⊎_elim (λ lt. inl (omega arith)) (λ ge. inr (omega arith)) out)
      ∙ put_other heap (heap_word s (InSlot q i)) x (pos 0)
      (λ e. ⊎_elim {C = ⊥} (λ lt. absurd (omega arith)) (λ ge. absurd (omega arith)) out)

  zeroed_in : (c i k : ℕ) (heap : Words) → k < c
      → heap_end heap (zero_effects s b q i c) (heap_word s (InSlot q (i + k))) ≡ pos 0
  zeroed_in zero i k heap few = absurd (omega arith)
  zeroed_in (suc c) i zero heap few =
      let at : i + 0 ≡ i = omega arith in
      ap (λ (n : ℕ). heap_end heap (zero_effects s b q i (suc c)) (heap_word s (InSlot q n))) at
      ∙ ap (λ (h : Words). h (heap_word s (InSlot q i)))
      (store_heap b heap (heap_word s (InSlot q i)) (pos 0) (zero_effects s b q (suc i) c))
      ∙ zeroed_out c (suc i) (put heap (heap_word s (InSlot q i)) (pos 0))
      (heap_word s (InSlot q i)) (inl (omega arith))
      ∙ put_same heap (heap_word s (InSlot q i)) (pos 0)
  zeroed_in (suc c) i (suc k) heap few =
      let at : i + suc k ≡ suc i + k = omega arith in
      ap (λ (n : ℕ). heap_end heap (zero_effects s b q i (suc c)) (heap_word s (InSlot q n))) at
      ∙ ap (λ (h : Words). h (heap_word s (InSlot q (suc i + k))))
      (store_heap b heap (heap_word s (InSlot q i)) (pos 0) (zero_effects s b q (suc i) c))
      ∙ zeroed_in c (suc i) k (put heap (heap_word s (InSlot q i)) (pos 0)) (omega arith)

module _ (s : Sizes) (shapes : Shapes) (heap : Words) (w : PoolMap) (fit : IsFit s shapes)
    (fits : PoolFits shapes w) (stands : Stands s heap w) where
  -- the header and the zeros of a new object
  pub stands_new : (b : Bool) (q kind c : ℕ) → IsSlot w q → c < slot_words s
      → Stands s (heap_end heap (store_effects true (header_word s q) (pos kind)
      ++ zero_effects s b q
      0 c)) (new w q kind c)
  stands_new b q kind c slot few =
      let h1 : Words = put heap (header_word s q) (pos kind) in
      stands_at s shapes heap w fit fits stands (heap_end h1 (zero_effects s b q 0 c)) q
      (Some (blank_object kind c)) slot
      (λ x out. zeroed_out s b q c 0 h1 x
      (⊎_elim (λ lt. inl (omega arith)) (λ ge. inr (omega arith)) out)
      ∙ put_other heap (header_word s q) x (pos kind)
      (λ e. ⊎_elim {C = ⊥} (λ lt. absurd (omega arith)) (λ ge. absurd (omega arith)) out))
      (zeroed_out s b q c 0 h1 (header_word s q) (inl (omega arith))
      ∙ put_same heap (header_word s q) (pos kind))
      (λ i has.
      let less : i < c = subst (λ (n : ℕ). i < n) (length-replicate c (pos 0)) has in
      let at : 0 + i ≡ i = omega arith in
      subst (λ (n : ℕ). heap_end h1 (zero_effects s b q 0 c) (heap_word s (InSlot q n)) ≡ pos 0)
      at (zeroed_in s b q c 0 i h1 less) ∙ sym (get_or-replicate c i (pos 0) (pos 0) less))

  has_word_is : (o : Option Object) (i : ℕ) → IsSomeAnd o (λ object. i < length object.fields)
      → has_word o i ≡ true
  has_word_is None i has = absurd has
  has_word_is (Some object) i has = lt-ltb i (length object.fields) has

  stands_field : (q i : ℕ) (v : ℤ) → HasField w q i
      → Stands s (put heap (heap_word s (InSlot q i)) v) (write w q i v)
  stands_field q i v has = by (object_at w q) refl has
    where
      by : (o : Option Object) → object_at w q ≡ o
          → IsSomeAnd o (λ object. i < length object.fields)
          → Stands s (put heap (heap_word s (InSlot q i)) v)
          (with_object w q (option_map (with_field i v) o))
      by None is has' = absurd has'
      by (Some object) is has' =
          let slot = IsSlot-HasField w q i has in
          let few = field_short s shapes (object_at w q) i fit (object_fits shapes w q fits) has in
          let head = stands.headers q slot.0 (let e = stands.slots in omega (arith, slot.1))
          ∙ ap header_of is in
          stands_at s shapes heap w fit fits stands (put heap (heap_word s (InSlot q i)) v) q
          (Some (with_field i v object)) slot
          (λ x out. put_other heap (heap_word s (InSlot q i)) x v
          (λ e. ⊎_elim {C = ⊥} (λ lt. absurd (omega arith)) (λ ge. absurd (omega arith)) out))
          (put_other heap (heap_word s (InSlot q i)) (header_word s q) v (λ e. absurd (omega arith))
          ∙ head)
          (λ j has''. field j (subst (λ (n : ℕ). j < n) (length-set object.fields i v) has''))
        where
          old : (j : ℕ) → j < length object.fields
              → heap (heap_word s (InSlot q j)) ≡ get_or object.fields j (pos 0)
          old j less = stands.words (InSlot q j)
              (subst (λ (r : Option Object). IsSomeAnd r (λ o. j < length o.fields)) (sym is) less)
              ∙ ap (λ (r : Option Object). field_of r j) is

          field : (j : ℕ) → j < length object.fields
              → put heap (heap_word s (InSlot q i)) v (heap_word s (InSlot q j))
              ≡ get_or (set object.fields i v) j (pos 0)
          field j less = ⊎_elim
              (λ (e : j ≡ i). ap (λ (n : ℕ).
              put heap (heap_word s (InSlot q i)) v (heap_word s (InSlot q n))) e
              ∙ put_same heap (heap_word s (InSlot q i)) v
              ∙ sym (ap (λ (n : ℕ). get_or (set object.fields i v) n (pos 0)) e
              ∙ get_or-set_same object.fields i v (pos 0) has'))
              (λ (ne : j ≡ i → ⊥). put_other heap (heap_word s (InSlot q i))
              (heap_word s (InSlot q j)) v (λ e. ne (omega arith)) ∙ old j less
              ∙ sym (get_or-set_other object.fields i j v (pos 0) ne))
              (cases_eq j i)

  same_objects : (root : List ℤ) (q : ℕ) → object_at (record { root = root; slots = w.slots }) q
      ≡ object_at w q
  same_objects root zero = refl
  same_objects root (suc q) = refl

  stands_root : (i : ℕ) (v : ℤ) → i < length w.root → Stands s (put heap i v) (write_root w i v)
  stands_root i v has =
      let e = stands.root_words in
      record {
        root_words = length-set w.root i v ∙ stands.root_words;
        slots = stands.slots;
        headers = λ t low high. put_other heap i (header_word s t) v (λ same. absurd (omega arith))
            ∙ stands.headers t low high ∙ sym (ap header_of (same_objects (set w.root i v) t));
        words = word;
      }
    where
      word : (x : Spot) → HasWord (write_root w i v) x
          → put heap i v (heap_word s x) ≡ load_spot (write_root w i v) x
      word (InRoot j) has' = ⊎_elim
          (λ (same : j ≡ i). ap (λ (n : ℕ). put heap i v n) same ∙ put_same heap i v
          ∙ sym (ap (read_root (write_root w i v)) same ∙ read_root-write_root_same w i v has))
          (λ (ne : j ≡ i → ⊥). put_other heap i j v ne
          ∙ stands.words (InRoot j) (subst (λ (n : ℕ). j < n) (length-set w.root i v) has')
          ∙ sym (read_root-write_root_other w i j v ne))
          (cases_eq j i)
      word (InSlot q j) has' =
          let is = same_objects (set w.root i v) q in
          let e = stands.root_words in
          put_other heap i (heap_word s (InSlot q j)) v (λ same. absurd (omega arith))
          ∙ stands.words (InSlot q j) (subst (λ (r : Option Object).
          IsSomeAnd r (λ o. j < length o.fields)) is has')
          ∙ sym (ap (λ (r : Option Object). field_of r j) is)

  pub stands_store : (x : Spot) (v : ℤ) → HasWord w x
      → Stands s (put heap (heap_word s x) v) (store_spot w x v)
  stands_store (InRoot i) v has = stands_root i v has
  stands_store (InSlot q i) v has =
      subst (λ (b : Bool). Stands s (put heap (heap_word s (InSlot q i)) v) (if b then write w q i v
      else w)) (sym (has_word_is (object_at w q) i has)) (stands_field q i v has)
