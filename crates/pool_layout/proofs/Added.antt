-- Bytes that are taken from a source piece by piece.
use Rattle.std.proofs.Common.{◌≡◌, ◌<◌, ◌≤◌, ◌+◌, ◌-◌, ◌++◌, ⊎_elim, ℕ, List, [], length, take}
use Rattle.std.proofs.Common.{Option, Some, None, IfSome, refl, sym, ap, ◌∙◌, arith, append_assoc}
use Rattle.std.proofs.Common.{length-append}
use Rattle.std.proofs.Math.Seq.{take-append_seam}
use Rattle.std.proofs.lemmas.Bool.{cases_lt}
use Rattle.std.proofs.lemmas.List.{append-nil, take_all}
use Rattle.std.specs.Io.KnownBytes.{Consumes, IsAtEnd}
use Rattle.nvm_base.proofs.Pieces.{consumes_more}
use Rattle.pool_layout.specs.Taken.{ReadOnto}

-- bytes were taken and added, and so many are missing
pub record TakesOnto (before after : Option (List ℕ)) (most missing : ℕ) (old new : List ℕ) : Type 0
  where
    pub bytes : List ℕ
    pub grown : new ≡ old ++ bytes
    pub taken : Consumes before after bytes
    pub count : length bytes + missing ≡ most

none_taken : (left : Option (List ℕ)) → Consumes left left []
none_taken None = tt
none_taken (Some all) = refl

pub nothing_taken : (left : Option (List ℕ)) (most : ℕ) (old : List ℕ)
    → TakesOnto left left most most old old
nothing_taken left most old = record {
  bytes = [];
  grown = sym (append-nil old);
  taken = none_taken left;
  count = omega arith;
}

-- one more piece
pub piece_taken : (a b c : Option (List ℕ)) (most missing count : ℕ)
    (old so_far new piece : List ℕ) → TakesOnto a b most missing old so_far → Consumes b c piece
    → new ≡ so_far ++ piece → count ≡ length piece → length piece ≤ missing
    → TakesOnto a c most (missing - count) old new
piece_taken a b c most missing count old so_far new piece takes next grown long within = record {
  bytes = takes.bytes ++ piece;
  grown = grown ∙ ap (λ (x : List ℕ). x ++ piece) takes.grown
      ∙ append_assoc old takes.bytes piece;
  taken = consumes_more a b c takes.bytes piece takes.taken next;
  count = let before = takes.count in rw length-append (omega arith);
}

first_of : (left after : Option (List ℕ)) (bytes : List ℕ) (most : ℕ) → Consumes left after bytes
    → length bytes ≤ most → (length bytes < most → IsAtEnd after)
    → IfSome left (λ all. bytes ≡ take most all)
first_of None after bytes most taken within end = tt
first_of (Some all) None bytes most taken within end = absurd taken
first_of (Some all) (Some rest) bytes most taken within end = ⊎_elim
    (λ (lt : length bytes < most).
    sym (ap (take most) (taken ∙ ap (λ (x : List ℕ). bytes ++ x) (end lt) ∙ append-nil bytes)
    ∙ take_all most bytes within))
    (λ (ge : most ≤ length bytes).
    let same : most ≡ length bytes = omega arith in
    sym (ap (take most) taken ∙ ap (λ (n : ℕ). take n (bytes ++ rest)) same
    ∙ take-append_seam bytes rest))
    (cases_lt (length bytes) most)

-- nothing is missing, or the source has no more
pub all_taken : (a b : Option (List ℕ)) (most missing : ℕ) (old new : List ℕ)
    → TakesOnto a b most missing old new → (0 < missing → IsAtEnd b) → ReadOnto a most old new
all_taken a b most missing old new takes end =
    let count = takes.count in
    record {
      bytes = takes.bytes;
      grown = takes.grown;
      first = first_of a b takes.bytes most takes.taken (omega arith)
          (λ (lt : length takes.bytes < most). end (omega arith));
      within = omega arith;
    }
