-- An image that breaks no rule of content opens.
use Rattle.std.proofs.Common.{◌≡◌, ℕ, ◌+◌, ◌^◌, ◌<◌, ◌≤◌, ◌&&◌, not, true, false, ℤ, pos}
use Rattle.std.proofs.Common.{refl, ap, arith}
use Rattle.std.proofs.lemmas.Bool.{not-false, or_parts}
use Rattle.cache_model.specs.Cache.{Words}
use Rattle.pool_layout.specs.declared.places.Version.{Version}
use Rattle.pool_layout.specs.declared.places.Version.TheVariants.{First, Second}
use Rattle.pool_layout.specs.declared.places.Place.TheVariants.{Done, Attempt, Mark, Argument, Seal}
use Rattle.pool_layout.specs.declared.places.Place.TheVariants.{RecordWord, RecordOld, RecordStamp}
use Rattle.pool_layout.specs.declared.places.Place.TheVariants.{Heap}
use Rattle.pool_layout.specs.declared.rules.Rules.{Rules}
use Rattle.pool_layout.specs.Sizes.{heap_words, slot_word}
use Rattle.pool_layout.specs.Places.{at, seal_word}
use Rattle.pool_layout.specs.Image.{is_sealed_in, IsUpTo}
use Rattle.pool_layout.specs.Log.{WellMade, count}
use Rattle.pool_layout.specs.Restored.{restored}
use Rattle.pool_layout.specs.Content.{are_valid, is_stamp, in_heap, is_header, names_header}
use Rattle.pool_layout.specs.Content.{is_first_version}
use Rattle.pool_layout.specs.Opens.{IsOpenable, NamesOwed, IsBelow}
use Rattle.pool_layout.specs.Headers.{HasHeaders}
use Rattle.pool_layout.proofs.Records.{LogIs, log_is}
use Rattle.pool_layout.proofs.Undone.{undone_each}
use Rattle.pool_layout.proofs.Kept.{and_rest, within_is, up_to}
use Rattle.pool_layout.proofs.Kept.{below_is, slot_header, slot_inside, slot_named, valid_is}
use Rattle.pool_layout.proofs.Kept.{is_valid_of, stamp_is, are_valid_below}
use Rattle.pool_layout.specs.Content.{KeepsRules, breaks_rule, is_within, is_valid}

done_fits : (r : Rules) (image : Words) → KeepsRules r image
    → IsUpTo (2 ^ 62) (image (at r.layout Done))
unfolding breaks_rule
done_fits r image keeps = up_to (2 ^ 62) (image (at r.layout Done)) (keeps Done tt)

attempt_fits : (r : Rules) (image : Words) → KeepsRules r image
    → IsUpTo (2 ^ 62) (image (at r.layout Attempt))
unfolding breaks_rule
attempt_fits r image keeps = up_to (2 ^ 62) (image (at r.layout Attempt)) (keeps Attempt tt)

mark_fits : (r : Rules) (image : Words) → KeepsRules r image → IsUpTo 8 (image (at r.layout Mark))
unfolding breaks_rule
mark_fits r image keeps = up_to 8 (image (at r.layout Mark)) (keeps Mark tt)

well_made : (r : Rules) (image : Words) → KeepsRules r image → (a : ℕ)
    → image (at r.layout Attempt) ≡ pos a → WellMade r.layout a image
unfolding breaks_rule
well_made r image keeps a is = record {
  stamps = λ j lt. stamp_is (image (at r.layout Attempt)) (image (at r.layout (RecordStamp j))) a is
      (or_parts
      (not (is_stamp (image (at r.layout Attempt)) (image (at r.layout (RecordStamp j)))))
      (is_valid r.layout image j && not (are_valid r.layout image j))
      (keeps (RecordStamp j) lt)).0;
  first = λ j k jk lt valid_k. valid_is (image (at r.layout (RecordStamp j)))
      (image (at r.layout Attempt)) a is
      (are_valid_below r.layout image j k jk (not-false (are_valid r.layout image k)
      (and_rest (is_valid r.layout image k) (not (are_valid r.layout image k))
      (or_parts
      (not (is_stamp (image (at r.layout Attempt)) (image (at r.layout (RecordStamp k)))))
      (is_valid r.layout image k && not (are_valid r.layout image k))
      (keeps (RecordStamp k) lt)).1
      (is_valid_of (image (at r.layout (RecordStamp k))) (image (at r.layout Attempt)) a is
      valid_k))));
}

headers_fit : (r : Rules) (image : Words) → KeepsRules r image
    → HasHeaders r.layout.sizes r.structs (λ w. image (at r.layout (Heap w)))
unfolding breaks_rule
headers_fit r image keeps = λ slot low high.
    up_to r.structs (image (at r.layout (Heap (slot_word r.layout.sizes slot))))
    (and_rest (is_header r.layout.sizes (slot_word r.layout.sizes slot))
    (not (is_within 0 r.structs (image (at r.layout (Heap (slot_word r.layout.sizes slot))))))
    (keeps (Heap (slot_word r.layout.sizes slot)) (slot_inside r.layout.sizes slot low high))
    (slot_header r.layout.sizes slot))

-- sealed images

function_inside : (v : Version) → 24 + 0 < seal_word v
function_inside First = omega arith
function_inside Second = omega arith

function_is : (r : Rules) (image : Words) → KeepsRules r image
    → is_sealed_in r.layout.version image ≡ true
    → (f : ℕ) × (1 ≤ f) × (f ≤ r.txs) × (image (at r.layout (Argument 0)) ≡ pos f)
unfolding breaks_rule
function_is r image keeps sealed = within_is 1 r.txs (image (at r.layout (Argument 0)))
    (not-false (is_within 1 r.txs (image (at r.layout (Argument 0))))
    (and_rest (is_sealed_in r.layout.version image)
    (not (is_within 1 r.txs (image (at r.layout (Argument 0)))))
    (keeps (Argument 0) (function_inside r.layout.version)) sealed))

record_inside : (r : Rules) (image : Words) → KeepsRules r image
    → is_sealed_in r.layout.version image ≡ true
    → (j : ℕ) → j < r.layout.sizes.records → is_valid r.layout image j ≡ true
    → IsBelow (heap_words r.layout.sizes) (image (at r.layout (RecordWord j)))
unfolding breaks_rule
record_inside r image keeps sealed j lt valid_j =
    below_is r.layout.sizes (image (at r.layout (RecordWord j)))
    (and_rest (is_valid r.layout image j)
    (not (in_heap r.layout.sizes (image (at r.layout (RecordWord j)))))
    (and_rest (is_sealed_in r.layout.version image) (is_valid r.layout image j
    && not (in_heap r.layout.sizes (image (at r.layout (RecordWord j)))))
    (keeps (RecordWord j) lt) sealed)
    valid_j)

old_fits : (r : Rules) (image : Words) → KeepsRules r image
    → is_sealed_in r.layout.version image ≡ true
    → (j : ℕ) → j < r.layout.sizes.records → is_valid r.layout image j ≡ true
    → names_header r.layout.sizes (image (at r.layout (RecordWord j))) ≡ true
    → IsUpTo r.structs (image (at r.layout (RecordOld j)))
unfolding breaks_rule
old_fits r image keeps sealed j lt valid_j named =
    let x : ℤ = image (at r.layout (RecordWord j)) in
    let old : ℤ = image (at r.layout (RecordOld j)) in
    up_to r.structs old
    (and_rest (names_header r.layout.sizes x) (not (is_within 0 r.structs old))
    (and_rest (is_valid r.layout image j) (names_header r.layout.sizes x
    && not (is_within 0 r.structs old))
    (and_rest (is_sealed_in r.layout.version image) (is_valid r.layout image j
    && (names_header r.layout.sizes x && not (is_within 0 r.structs old)))
    (keeps (RecordOld j) lt) sealed)
    valid_j) named)

restored_headers : (r : Rules) (image : Words) → KeepsRules r image → (a : ℕ)
    → image (at r.layout Attempt) ≡ pos a → LogIs r.layout a (count r.layout a image) image
    → is_sealed_in r.layout.version image ≡ true
    → HasHeaders r.layout.sizes r.structs (restored r.layout a image)
unfolding restored
restored_headers r image keeps a is log sealed = λ slot low high.
    undone_each (IsUpTo r.structs) (λ (j : ℕ). image (at r.layout (RecordWord j))) (λ (j : ℕ).
    image (at r.layout (RecordOld j))) (count r.layout a image) (λ (w : ℕ).
    image (at r.layout (Heap w))) (slot_word r.layout.sizes slot)
    (λ j lt word_is. old_fits r image keeps sealed j (omega (arith, log.room))
    (is_valid_of (image (at r.layout (RecordStamp j))) (image (at r.layout Attempt)) a is
    (log.valid_stamp j lt))
    (slot_named r.layout.sizes slot (image (at r.layout (RecordWord j))) low high word_is))
    (headers_fit r image keeps slot low high)

owed : (r : Rules) (image : Words) → KeepsRules r image → (a : ℕ)
    → image (at r.layout Attempt) ≡ pos a → is_sealed_in r.layout.version image ≡ true
    → NamesOwed r a image
owed r image keeps a is sealed =
    let log : LogIs r.layout a (count r.layout a image) image =
    log_is r.layout a (count r.layout a image) image (well_made r image keeps a is) refl in
    record {
      function = function_is r image keeps sealed;
      in_heap = λ j lt. record_inside r image keeps sealed j (omega (arith, log.room))
          (is_valid_of (image (at r.layout (RecordStamp j))) (image (at r.layout Attempt)) a is
          (log.valid_stamp j lt));
      headers = restored_headers r image keeps a is log sealed;
    }

first_open : (r : Rules) (image : Words) → KeepsRules r image → r.layout.version ≡ First
    → is_sealed_in r.layout.version image ≡ false
unfolding breaks_rule
first_open r image keeps first =
    and_rest (is_first_version r.layout.version) (is_sealed_in r.layout.version image)
    (keeps Seal tt) (ap is_first_version first)

pub kept_opens : (r : Rules) (image : Words) → KeepsRules r image → IsOpenable r image
kept_opens r image keeps =
    let a = attempt_fits r image keeps in
    record {
      mark = mark_fits r image keeps;
      done = done_fits r image keeps;
      attempt = a.0;
      attempt_is = a.2;
      attempt_fits = a.1;
      log = well_made r image keeps a.0 a.2;
      headers = headers_fit r image keeps;
      sealed = owed r image keeps a.0 a.2;
      first_unsealed = first_open r image keeps;
    }
