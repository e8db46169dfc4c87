-- A moved pool keeps its content.
use Rattle.std.proofs.Common.{◌≡◌, ◌≢◌, ⊎_elim, ℕ, suc, ◌+◌, ◌<◌, List, [], ◌∷◌, ◌++◌, length}
use Rattle.std.proofs.Common.{get_or, Bool, true, false, ℤ, pos, refl, sym, ap, ◌∙◌, arith}
use Rattle.std.proofs.Math.ListN.{get_or-append}
use Rattle.std.proofs.Math.Seq.{get_or-append_seam}
use Rattle.std.proofs.lemmas.Bool.{cases_eq}
use Rattle.cache_model.specs.Cache.{Words}
use Rattle.pool_layout.specs.declared.limits.Sizes.{Sizes}
use Rattle.pool_layout.specs.declared.places.Place.TheVariants.{Last, Done, Attempt, Mark, Seal}
use Rattle.pool_layout.specs.declared.places.Place.TheVariants.{RecordStamp, Heap}
use Rattle.pool_layout.specs.declared.places.Place.{Place}
use Rattle.pool_layout.specs.Places.{at, pool_of, IsPlace}
use Rattle.pool_layout.specs.Image.{image_words, is_next, is_sealed}
use Rattle.pool_layout.specs.Log.{WellMade}
use Rattle.pool_layout.specs.Moved.{moved, first_layout, AreMoved, KeepsPool}
use Rattle.pool_layout.proofs.Apart.{same_place}
use Rattle.pool_layout.proofs.Records.{count_is}
use Rattle.pool_layout.proofs.Kept.{valid_is}

moved_stamp : (s : Sizes) (image : Words) (words : List ℤ) → AreMoved s image words → (j : ℕ)
    → j < s.records → image_words words (at (pool_of s) (RecordStamp j)) ≡ pos 0
unfolding moved
moved_stamp s image words are j lt = are.each (RecordStamp j) lt

not_next : (x : ℤ) (a : ℕ) → x ≡ pos 0 → x ≡ pos (suc a) → ⊥
not_next x a none is = absurd (cc)

moved_log : (s : Sizes) (image : Words) (words : List ℤ) → AreMoved s image words
    → WellMade (pool_of s) 0 (image_words words)
moved_log s image words are = record {
  stamps = λ j lt. (0, omega arith, moved_stamp s image words are j lt);
  first = λ j k jk lt is. absurd (not_next (image_words words (at (pool_of s) (RecordStamp k))) 0
      (moved_stamp s image words are k lt) is);
}

pub moved_keeps : (s : Sizes) (image : Words) (words : List ℤ) → AreMoved s image words
    → KeepsPool s image (image_words words)
unfolding moved
moved_keeps s image words are = record {
  last = are.each Last tt;
  done = are.each Done tt;
  mark = are.each Mark tt;
  attempt = are.each Attempt tt;
  heap = λ w lt. are.each (Heap w) lt;
  log = moved_log s image words are;
  empty = count_is (pool_of s) 0 0 (image_words words) (omega arith) (λ j lt. absurd (omega arith))
      (λ j ge lt is. not_next (image_words words (at (pool_of s) (RecordStamp j))) 0
      (moved_stamp s image words are j lt) is);
}

no_sum : (x y : ℤ) (d : ℕ) → x ≡ pos 0 → y ≡ pos d → is_next x y ≡ false
no_sum x y d none is = go (is_next x y) refl
  where
    go : (b : Bool) → is_next x y ≡ b → b ≡ false
    go false e = refl
    go true e = let same : pos 0 ≡ pos (suc d) = sym none ∙ valid_is x y d is e in absurd cc

pub moved_unsealed : (s : Sizes) (image : Words) (words : List ℤ) (d : ℕ) → AreMoved s image words
    → image (at (first_layout s) Done) ≡ pos d → is_sealed (image_words words) ≡ false
unfolding moved
moved_unsealed s image words d are is =
    no_sum (image_words words (at (pool_of s) Seal)) (image_words words (at (pool_of s) Done)) d
    (are.each Seal tt) (are.each Done tt ∙ is)

-- one more word of a moved pool
pub moved_more : (s : Sizes) (image : Words) (words : List ℤ) (n : ℕ) (p : Place) (x : ℤ)
    → length words ≡ n
    → ((q : Place) → IsPlace (pool_of s) q → at (pool_of s) q < n
    → image_words words (at (pool_of s) q) ≡ moved s image q)
    → IsPlace (pool_of s) p → at (pool_of s) p ≡ n → x ≡ moved s image p
    → (q : Place) → IsPlace (pool_of s) q → at (pool_of s) q < n + 1
    → image_words (words ++ x ∷ []) (at (pool_of s) q) ≡ moved s image q
moved_more s image words n p x len each inside here is q hq lt = ⊎_elim
    (λ (same : at (pool_of s) q ≡ n).
    ap (λ (k : ℕ). get_or (words ++ x ∷ []) k (pos 0)) (same ∙ sym len)
    ∙ get_or-append_seam words x [] (pos 0) ∙ is
    ∙ ap (moved s image) (same_place (pool_of s) p q inside hq (here ∙ sym same)))
    (λ (ne : at (pool_of s) q ≢ n).
    get_or-append words (x ∷ []) (pos 0) (at (pool_of s) q) (omega arith) ∙ each q hq (omega arith))
    (cases_eq (at (pool_of s) q) n)
