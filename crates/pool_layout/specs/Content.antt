-- The rules of content of an image, each attached to the word whose value breaks it. They depend on
-- a layout, the number of transactions and the number of structs.
use Rattle.std.specs.Prelude.{ℕ, zero, suc, ◌-◌, ◌*◌, ◌%◌, ◌^◌, ◌<◌, ◌≡◌, ◌==◌, ◌&&◌, ◌||◌}
use Rattle.std.specs.Prelude.{not, nat_le, nat_lt, Bool, true, false, ℤ, pos, negsuc, ◌+ℤ◌, int_le}
use Rattle.cache_model.specs.Cache.{Words}
use Rattle.pool_layout.specs.declared.limits.Sizes.{Sizes}
use Rattle.pool_layout.specs.declared.places.Version.{Version}
use Rattle.pool_layout.specs.declared.places.Version.TheVariants.{First, Second}
use Rattle.pool_layout.specs.declared.places.Layout.{Layout}
use Rattle.pool_layout.specs.declared.places.Place.{Place}
use Rattle.pool_layout.specs.declared.places.Place.TheVariants.{Done, Attempt, Mark, Argument, Seal}
use Rattle.pool_layout.specs.declared.places.Place.TheVariants.{RecordWord, RecordOld, RecordStamp}
use Rattle.pool_layout.specs.declared.places.Place.TheVariants.{Heap}
use Rattle.pool_layout.specs.declared.rules.Rules.{Rules}
use Rattle.pool_layout.specs.Sizes.{root_lines, slot_words, heap_words}
use Rattle.pool_layout.specs.Places.{at, IsPlace}
use Rattle.pool_layout.specs.Image.{is_next, is_sealed_in}

-- the word is a number from low to high
abbrev pub is_within : ℕ → ℕ → ℤ → Bool
is_within low high (pos n) = nat_le low n && nat_le n high
is_within low high (negsuc n) = false

-- record i is valid; all records before record i are valid
abbrev pub is_valid : Layout → Words → ℕ → Bool
is_valid l image i = is_next (image (at l (RecordStamp i))) (image (at l Attempt))

abbrev pub are_valid : Layout → Words → ℕ → Bool
are_valid l image zero = true
are_valid l image (suc i) = are_valid l image i && is_valid l image i

-- the word is from 0 to the attempt plus 1
abbrev pub is_stamp : ℤ → ℤ → Bool
is_stamp attempt x = int_le (pos 0) x && int_le x (attempt +ℤ pos 1)

-- the word is the address of a heap word
abbrev pub in_heap : Sizes → ℤ → Bool
in_heap s (pos w) = nat_lt w (heap_words s)
in_heap s (negsuc n) = false

abbrev pub is_header : Sizes → ℕ → Bool
is_header s w = nat_le (8 * root_lines s) w && ((w - 8 * root_lines s) % slot_words s == 0)

-- the word is the heap address of a header
abbrev pub names_header : Sizes → ℤ → Bool
names_header s (pos w) = nat_lt w (heap_words s) && is_header s w
names_header s (negsuc n) = false

abbrev pub is_first_version : Version → Bool
is_first_version First = true
is_first_version Second = false

-- Done and the attempt are from 0 to 2^62, the mark from 0 to 8, each header from 0 to the number
-- of structs. Each stamp is from 0 to the attempt plus 1, and no valid record comes after one that
-- isn't valid. If the pool is sealed, the function is one of the transactions, the heap word of
-- each valid record lies in the heap, and the old value of a record that names a header is from 0
-- to the number of structs. A pool of the first version isn't sealed.
unfoldable pub breaks_rule : Rules → Words → Place → Bool
breaks_rule r image Done = not (is_within 0 (2 ^ 62) (image (at r.layout Done)))
breaks_rule r image Attempt = not (is_within 0 (2 ^ 62) (image (at r.layout Attempt)))
breaks_rule r image Mark = not (is_within 0 8 (image (at r.layout Mark)))
breaks_rule r image (Argument k) =
    (k == 0) && (is_sealed_in r.layout.version image
    && not (is_within 1 r.txs (image (at r.layout (Argument k)))))
breaks_rule r image Seal = is_first_version r.layout.version && is_sealed_in r.layout.version image
breaks_rule r image (RecordWord i) =
    is_sealed_in r.layout.version image && (is_valid r.layout image i
    && not (in_heap r.layout.sizes (image (at r.layout (RecordWord i)))))
breaks_rule r image (RecordOld i) =
    is_sealed_in r.layout.version image && (is_valid r.layout image i
    && (names_header r.layout.sizes (image (at r.layout (RecordWord i)))
    && not (is_within 0 r.structs (image (at r.layout (RecordOld i))))))
breaks_rule r image (RecordStamp i) =
    not (is_stamp (image (at r.layout Attempt)) (image (at r.layout (RecordStamp i))))
    || (is_valid r.layout image i && not (are_valid r.layout image i))
breaks_rule r image (Heap w) =
    is_header r.layout.sizes w && not (is_within 0 r.structs (image (at r.layout (Heap w))))
breaks_rule r image q = false

-- no word breaks a rule
abbrev pub KeepsRules : Rules → Words → Type 0
KeepsRules r image = (q : Place) → IsPlace r.layout q → breaks_rule r image q ≡ false

-- no word below n breaks a rule
abbrev pub KeepsBelow : Rules → Words → ℕ → Type 0
KeepsBelow r image n = (q : Place) → IsPlace r.layout q → at r.layout q < n
    → breaks_rule r image q ≡ false

-- w is the least word that breaks a rule
pub record IsFirstBreak (r : Rules) (image : Words) (w : ℕ) : Type 0 where
  pub place : Place
  pub inside : IsPlace r.layout place
  pub word : at r.layout place ≡ w
  pub broken : breaks_rule r image place ≡ true
  pub least : KeepsBelow r image w
