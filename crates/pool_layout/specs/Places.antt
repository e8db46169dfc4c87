-- The places of a pool: each word by its name, and its number in the pool. Line k is words 8 k to 8
-- k + 7. The two versions of the layout differ only in the length of the argument record.
use Rattle.std.specs.Prelude.{ℕ, ◌+◌, ◌*◌, ◌/◌, ◌<◌, ◌≤◌, ◌≡◌}
use Rattle.pool_layout.specs.declared.limits.Sizes.{Sizes}
use Rattle.pool_layout.specs.declared.places.TheConstants.{LAST, DONE, ATTEMPT, MARK, FUNCTION}
use Rattle.pool_layout.specs.declared.places.TheConstants.{SEAL}
use Rattle.pool_layout.specs.declared.places.Version.{Version}
use Rattle.pool_layout.specs.declared.places.Version.TheVariants.{First, Second}
use Rattle.pool_layout.specs.declared.places.Layout.{Layout}
use Rattle.pool_layout.specs.declared.places.Place.{Place}
use Rattle.pool_layout.specs.declared.places.Place.TheVariants.{Super, Last, Done, Attempt, Mark}
use Rattle.pool_layout.specs.declared.places.Place.TheVariants.{Spare, Argument, Seal, RecordWord}
use Rattle.pool_layout.specs.declared.places.Place.TheVariants.{RecordOld, RecordStamp, RecordSpare}
use Rattle.pool_layout.specs.declared.places.Place.TheVariants.{Heap}
use Rattle.pool_layout.specs.declared.places.HeapPlace.{HeapPlace}
use Rattle.pool_layout.specs.declared.places.HeapPlace.TheVariants.{Root, Header, Field}
use Rattle.pool_layout.specs.Sizes.{root_lines, pool_lines, heap_start, heap_words, slot_words}
use Rattle.pool_layout.specs.Sizes.{slot_word}

-- the seal is the last word of the argument record, which begins at line 3
abbrev pub seal_word : Version → ℕ
seal_word First = 31
seal_word Second = SEAL

-- the line of record 0, right after the seal
abbrev pub log_line : Version → ℕ
log_line First = 4
log_line Second = 6

-- the layout of a pool that is created or saved
abbrev pub pool_of : Sizes → Layout
pool_of s = record { version = Second; sizes = s }

-- lines 0 and 1; line 2; the argument record, its word 0 the function; the records; the heap
abbrev pub at : Layout → Place → ℕ
at l (Super k) = k
at l Last = LAST
at l Done = DONE
at l Attempt = ATTEMPT
at l Mark = MARK
at l (Spare k) = 20 + k
at l (Argument k) = FUNCTION + k
at l Seal = seal_word l.version
at l (RecordWord i) = 8 * (log_line l.version + i)
at l (RecordOld i) = 8 * (log_line l.version + i) + 1
at l (RecordStamp i) = 8 * (log_line l.version + i) + 2
at l (RecordSpare i k) = 8 * (log_line l.version + i) + 3 + k
at l (Heap w) = 8 * (log_line l.version + l.sizes.records) + w

abbrev pub line_of : Layout → Place → ℕ
line_of l q = at l q / 8

-- the number of words of the pool
abbrev pub layout_words : Layout → ℕ
layout_words l = 8 * (log_line l.version + l.sizes.records) + heap_words l.sizes

-- the places that a pool of these sizes has
abbrev pub IsPlace : Layout → Place → Type 0
IsPlace l (Super k) = k < LAST
IsPlace l (Spare k) = k < 4
IsPlace l (Argument k) = FUNCTION + k < seal_word l.version
IsPlace l (RecordWord i) = i < l.sizes.records
IsPlace l (RecordOld i) = i < l.sizes.records
IsPlace l (RecordStamp i) = i < l.sizes.records
IsPlace l (RecordSpare i k) = (i < l.sizes.records) × (k < 5)
IsPlace l (Heap w) = w < heap_words l.sizes
IsPlace l q = Unit {0}

-- the words of the heap: the root's lines, in which the words after the last root word are unread,
-- and the words of each slot
abbrev pub heap_at : Sizes → HeapPlace → ℕ
heap_at s (Root k) = k
heap_at s (Header slot) = slot_word s slot
heap_at s (Field slot k) = slot_word s slot + 1 + k

abbrev pub IsHeapPlace : Sizes → HeapPlace → Type 0
IsHeapPlace s (Root k) = k < 8 * root_lines s
IsHeapPlace s (Header slot) = (1 ≤ slot) × (slot ≤ s.slots)
IsHeapPlace s (Field slot k) = (1 ≤ slot) × (slot ≤ s.slots) × (k + 1 < slot_words s)

-- different places are different words
abbrev pub PlacesApart : Type 0
PlacesApart = (l : Layout) (q r : Place) → IsPlace l q → IsPlace l r → at l q ≡ at l r → q ≡ r

-- each place is a word of the pool
abbrev pub PlacesFit : Type 0
PlacesFit = (l : Layout) (q : Place) → IsPlace l q → at l q < layout_words l

-- each heap word has one line
abbrev pub HeapLines : Type 0
HeapLines = (l : Layout) (w : ℕ) → line_of l (Heap w) ≡ log_line l.version + l.sizes.records + w / 8

abbrev pub HeapApart : Type 0
HeapApart = (s : Sizes) (q r : HeapPlace) → IsHeapPlace s q → IsHeapPlace s r
    → heap_at s q ≡ heap_at s r → q ≡ r

abbrev pub HeapFits : Type 0
HeapFits = (s : Sizes) (q : HeapPlace) → IsHeapPlace s q → heap_at s q < heap_words s

-- the words of a pool are those of its lines, and its heap begins at heap word 0
abbrev pub SizesAgree : Type 0
SizesAgree = (s : Sizes) → (layout_words (pool_of s) ≡ 8 * pool_lines s)
    × (at (pool_of s) (Heap 0) ≡ heap_start s)
