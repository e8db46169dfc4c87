-- Pools and arguments are made of words: a new pool's, those of a heap whose numbers are words, and
-- those of an image's record.
use Rattle.std.proofs.Common.{ℕ, zero, suc, ◌+◌, ◌-◌, Bool, true, false, cond, if◌then◌else◌}
use Rattle.std.proofs.Common.{nat_le, List, replicate, slice_index_or, slice_get, Option, Some}
use Rattle.std.proofs.Common.{None, ℤ, pos, int_eq, sym, subst, arith}
use Rattle.std.proofs.lemmas.Int.{ints}
use Rattle.nvm_base.specs.Wrap.{IsWord}
use Rattle.cache_model.specs.Cache.{Words}
use Rattle.pool_layout.specs.declared.limits.Sizes.{Sizes}
use Rattle.pool_layout.specs.declared.places.Layout.{Layout}
use Rattle.pool_layout.specs.declared.places.Place.TheVariants.{RecordWord, RecordOld, Heap}
use Rattle.pool_layout.specs.Places.{at}
use Rattle.pool_layout.specs.Sizes.{slot_words, slot_word}
use Rattle.pool_layout.specs.Log.{count}
use Rattle.pool_layout.specs.Restored.{undo, undone, restored}
use Rattle.pool_map.specs.declared.object.Object.{Object}
use Rattle.pool_map.specs.declared.shapes.StructShape.{StructShape}
use Rattle.pool_map.specs.PoolFits.{words_of, struct_at}
use Rattle.pool_map.specs.PoolMap.{field_of, empty_pool, read}
use Rattle.pm_machine.specs.HeapPool.{words_from, object_with, kind_in, object_of, objects_from}
use Rattle.c_types.specs.Shapes.{shapes_of}
use Rattle.pm_machine.specs.declared.image.Image.{Image}
use Rattle.recovery.specs.Found.{entry_words, recorded}
use Rattle.cnvm_session.specs.declared.program.Program.{Program}
use Rattle.cnvm_session.specs.Pool.{sizes_of}
use Rattle.session_law.specs.Source.{source_pool}
use Rattle.session_law.specs.Words.{AreWords, HasPoolWords}
use Rattle.session_law.specs.State.{SourceState}
use Rattle.session_law.specs.Holds.{HoldsPool}

zero_word : IsWord (pos 0)
zero_word = (omega (arith, ints), omega (arith, ints))

-- each number of an image or a heap is a word
abbrev pub AreAll : Words → Type 0
AreAll h = (w : ℕ) → IsWord (h w)

pub held_words : (program : Program) (h : Words) (s : SourceState) → HoldsPool program h s
    → HasPoolWords (source_pool program h)
held_words program h s holds = subst HasPoolWords (sym holds.pool) holds.words

-- each field of an object is a word

abbrev OfWords : Option Object → Type 0
OfWords o = (i : ℕ) → IsWord (field_of o i)

abbrev AreOfWords : List (Option Object) → Type 0
AreOfWords os = (n : ℕ) → OfWords (slice_index_or os n None)

has_words : (root : List ℤ) (slots : List (Option Object)) → AreWords root → AreOfWords slots
    → HasPoolWords (record { root = root; slots = slots })
has_words root slots are all = record { root = are; objects = objects }
  where
    objects : (slot i : ℕ) → IsWord (read (record { root = root; slots = slots }) slot i)
    objects zero i = zero_word
    objects (suc n) i = all n i

-- the words of a new pool

zeros_words : (n : ℕ) → AreWords (replicate n (pos 0))
zeros_words zero i = zero_word
zeros_words (suc n) zero = zero_word
zeros_words (suc n) (suc i) = zeros_words n i

free_words : (n : ℕ) → AreOfWords (replicate n None)
free_words zero slot i = zero_word
free_words (suc n) zero i = zero_word
free_words (suc n) (suc slot) i = free_words n slot i

pub empty_words : (root_words slots : ℕ) → HasPoolWords (empty_pool root_words slots)
empty_words root_words slots =
    has_words (replicate root_words (pos 0)) (replicate slots None) (zeros_words root_words)
    (free_words slots)

-- the words of a heap's pool

module _ (h : Words) (are : AreAll h) where
  list_words : (w n : ℕ) → AreWords (words_from h w n)
  list_words w zero i = zero_word
  list_words w (suc n) zero = are w
  list_words w (suc n) (suc i) = list_words (suc w) n i

  with_words : (s : Sizes) (w kind : ℕ) (o : Option StructShape)
      → OfWords (object_with s h w kind o)
  with_words s w kind None i = zero_word
  with_words s w kind (Some shape) i = go (nat_le (slot_words s) (words_of shape.fields))
    where
      go : (b : Bool) → IsWord (field_of (if b then None
          else Some (record { kind = kind; fields = words_from h (w + 1) (words_of shape.fields) }))
          i)
      go true = zero_word
      go false = list_words (w + 1) (words_of shape.fields) i

  of_words : (s : Sizes) (structs : List StructShape) (w : ℕ) (o : Option ℕ)
      → OfWords (object_of s structs h w o)
  of_words s structs w None i = zero_word
  of_words s structs w (Some kind) i = with_words s w kind (struct_at structs kind) i

  objects_words : (s : Sizes) (structs : List StructShape) (slot n : ℕ)
      → AreOfWords (objects_from s structs h slot n)
  objects_words s structs slot zero j i = zero_word
  objects_words s structs slot (suc n) zero i =
      of_words s structs (slot_word s slot) (kind_in (h (slot_word s slot))) i
  objects_words s structs slot (suc n) (suc j) i = objects_words s structs (suc slot) n j i

pub pool_words : (program : Program) (h : Words) → AreAll h → HasPoolWords (source_pool program h)
pool_words program h are =
    let z : Sizes = sizes_of program in
    let structs : List StructShape = (shapes_of program.typed).structs in
    has_words (words_from h 0 z.root_words) (objects_from z structs h 1 z.slots)
    (list_words h are 0 z.root_words) (objects_words h are z structs 1 z.slots)

-- the words of the heap that a log restores

undo_words : (x old : ℤ) (h : Words) → IsWord old → AreAll h → AreAll (undo x old h)
undo_words x old h is are w = go (int_eq x (pos w))
  where
    go : (b : Bool) → IsWord (cond b old (h w))
    go true = is
    go false = are w

undone_words : (word old : Words) (n : ℕ) (h : Words) → AreAll old → AreAll h
    → AreAll (undone word old n h)
undone_words word old zero h olds are = are
undone_words word old (suc n) h olds are =
    undone_words word old n (undo (word n) (old n) h) olds
    (undo_words (word n) (old n) h (olds n) are)

pub restored_words : (l : Layout) (a : ℕ) (image : Words) → AreAll image
    → AreAll (restored l a image)
unfolding restored
restored_words l a image are =
    undone_words (λ j. image (at l (RecordWord j))) (λ j. image (at l (RecordOld j)))
    (count l a image) (λ w. image (at l (Heap w)))
    (λ j. are (at l (RecordOld j))) (λ w. are (at l (Heap w)))

-- the words of a record's arguments

pub recorded_words : (image : Image) (tx : ℕ) (w : Words) → AreAll w
    → AreWords (recorded image tx w)
recorded_words image tx w are =
    list_words w are 25 (entry_words (slice_get image.parts.txs (tx - 1)))
