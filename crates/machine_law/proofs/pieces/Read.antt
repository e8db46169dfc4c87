-- The pool that a heap holds, read without asking how large its numbers are. Of a heap with valid
-- headers it is the same.
use Rattle.std.proofs.Common.{◌≡◌, ℕ, zero, suc, ◌+◌, ◌<◌, ◌≤◌, ℤ, pos, negsuc, Bool, true}
use Rattle.std.proofs.Common.{List, [], ◌∷◌, length, Option, Some, None, refl, sym, ap, ap₂, ◌∙◌}
use Rattle.std.proofs.Common.{arith}
use Rattle.std.specs.Prelude.{slice_get, nat_lt, if◌then◌else◌, option_map}
use Rattle.std.proofs.lemmas.Bool.{lt-ltb, lt-leb}
use Rattle.cache_model.specs.Cache.{Words}
use Rattle.pool_layout.specs.declared.limits.Sizes.{Sizes}
use Rattle.pool_layout.specs.Sizes.{slot_words, slot_word}
use Rattle.pool_layout.specs.Headers.{HasHeaders}
use Rattle.pool_map.specs.declared.object.Object.{Object}
use Rattle.pool_map.specs.declared.shapes.StructShape.{StructShape}
use Rattle.pool_map.specs.declared.shapes.Shapes.{Shapes}
use Rattle.pool_map.specs.PoolFits.{words_of, struct_at}
use Rattle.pool_map.specs.PoolMap.{PoolMap}
use Rattle.pm_machine.specs.HeapPool as shown
use Rattle.pm_machine.specs.HeapPool.{words_from}
use Rattle.machine_law.specs.pieces.Stands.{header_word}
use Rattle.machine_law.specs.pieces.Fits.{IsFit}

-- the object of a struct whose header is heap word w
abbrev pub read_object : Words → (w kind : ℕ) → StructShape → Object
read_object heap w kind shape =
    record { kind = kind; fields = words_from heap (w + 1) (words_of shape.fields) }

abbrev pub read_slot : List StructShape → Words → (w : ℕ) → ℤ → Option Object
read_slot structs heap w (pos k) = option_map (read_object heap w k) (struct_at structs k)
read_slot structs heap w (negsuc k) = None

-- n slots, from slot q on
abbrev pub read_slots : Sizes → List StructShape → Words → (q n : ℕ) → List (Option Object)
read_slots s structs heap q zero = []
read_slots s structs heap q (suc n) =
    read_slot structs heap (header_word s q) (heap (header_word s q)) ∷ read_slots s structs
    heap (suc q) n

abbrev pub read_pool : Shapes → Sizes → Words → PoolMap
read_pool shapes s heap = record {
  root = words_from heap 0 s.root_words;
  slots = read_slots s shapes.structs heap 1 s.slots;
}

with_same : (s : Sizes) (h : Words) (w k : ℕ) (o : Option StructShape)
    → ((shape : StructShape) → o ≡ Some shape → words_of shape.fields < slot_words s)
    → shown.object_with s h w k o ≡ option_map (read_object h w k) o
with_same s h w k None short = refl
with_same s h w k (Some shape) short =
    ap (λ (b : Bool). if b then None
    else Some (record { kind = k; fields = words_from h (w + 1) (words_of shape.fields) }))
    (lt-leb (slot_words s) (words_of shape.fields) (short shape refl))

struct_short : (most : ℕ) (structs : List StructShape)
    → ((k : ℕ) (shape : StructShape) → slice_get structs k ≡ Some shape
    → words_of shape.fields < most)
    → (k : ℕ) (shape : StructShape) → struct_at structs k ≡ Some shape
    → words_of shape.fields < most
struct_short most structs short zero shape e = absurd (cc)
struct_short most structs short (suc k) shape e = short k shape e

object_same : (s : Sizes) (shapes : Shapes) → IsFit s shapes
    → (h : Words) (w k : ℕ) → k ≤ length shapes.structs → h w ≡ pos k
    → shown.object_in s shapes.structs h w ≡ read_slot shapes.structs h w (h w)
object_same s shapes fit h w k le e =
    let few : nat_lt k 256 ≡ true = lt-ltb k 256 (omega (arith, le, fit.few)) in
    ap (λ (v : ℤ). shown.object_of s shapes.structs h w (shown.kind_in v)) e
    ∙ ap (λ (b : Bool). shown.object_of s shapes.structs h w (if b then Some k else None)) few
    ∙ with_same s h w k (struct_at shapes.structs k)
    (struct_short (slot_words s) shapes.structs fit.short k)
    ∙ ap (λ (v : ℤ). read_slot shapes.structs h w v) (sym e)

slots_same : (s : Sizes) (shapes : Shapes) → IsFit s shapes
    → (h : Words) → HasHeaders s (length shapes.structs) h → (n q : ℕ) → 1 ≤ q
    → q + n ≤ suc s.slots → shown.objects_from s shapes.structs h q n
    ≡ read_slots s shapes.structs h q n
slots_same s shapes fit h valid zero q one le = refl
slots_same s shapes fit h valid (suc n) q one le =
    let k = valid q one (omega (arith, le)) in
    ap₂ (λ (o : Option Object) (os : List (Option Object)). o ∷ os)
    (object_same s shapes fit h (slot_word s q) k.0 k.1 k.2)
    (slots_same s shapes fit h valid n (suc q) (omega arith) (omega (arith, le)))

pub pool_same : (s : Sizes) (shapes : Shapes) → IsFit s shapes
    → (h : Words) → HasHeaders s (length shapes.structs) h
    → shown.pool_in shapes s h ≡ read_pool shapes s h
pool_same s shapes fit h valid =
    ap (λ (os : List (Option Object)). record { root = words_from h 0 s.root_words; slots = os })
    (slots_same s shapes fit h valid s.slots 1 (omega arith) (omega arith))
