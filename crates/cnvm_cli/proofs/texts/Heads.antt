-- The first bytes of an image, and its rest.
use Rattle.std.proofs.Common.{◌≡◌, ℕ, zero, suc, ◌+◌, ◌*◌, ◌-◌, ◌<◌, ◌≤◌, ℤ, List, [], ◌∷◌, ◌++◌}
use Rattle.std.proofs.Common.{length, take, drop, Option, Some, None, refl, sym, ap, subst, ◌∙◌}
use Rattle.std.proofs.Common.{⊎_elim, arith, append_assoc, length-append, append-nil}
use Rattle.std.proofs.lemmas.Bool.{cases_lt}
use Rattle.std.specs.Prelude.{option_map}
use Rattle.std.specs.Io.KnownBytes.{Consumes, IsAtEnd}
use Rattle.std.proofs.lemmas.List.{take_all, drop_at, take-append-le, get_or_append_left}
use Rattle.std.proofs.lemmas.List.{length-take, length-take-le}
use Rattle.pool_layout.specs.Bytes.{bytes_of, bytes_of_word, word_from}
use Rattle.pool_layout.specs.Fault.{digest_in}
use Rattle.cnvm_cli.specs.Verdict.{OfBytes}

take_none : (n : ℕ) → take {A = ℕ} n [] ≡ []
take_none zero = refl
take_none (suc n) = refl

take_append : (n k : ℕ) (xs ys : List ℕ) → length xs + k ≡ n
    → take n (xs ++ ys) ≡ xs ++ take k ys
take_append n k [] ys is = let e : k ≡ n = omega arith in ap (λ (i : ℕ). take i ys) (sym e)
take_append zero k (x ∷ xs) ys is = absurd (omega arith)
take_append (suc n) k (x ∷ xs) ys is =
    ap (λ (l : List ℕ). x ∷ l) (take_append n k xs ys (omega arith))

cons_not : (x : ℕ) (xs : List ℕ) → x ∷ xs ≡ [] → ⊥
cons_not x xs e = cc

-- the part of an image that is read: its first bytes, and then the rest
pub part_is : (n : ℕ) (head more : List ℕ) → length head ≤ 96 → 96 ≤ n
    → (length head < 96 → more ≡ []) → take n (head ++ more) ≡ head ++ take (n - 96) more
part_is n head [] within most end =
    let whole : length (head ++ []) ≤ n = rw append-nil (omega arith) in
    take_all n (head ++ []) whole ∙ ap (λ (l : List ℕ). head ++ l) (sym (take_none (n - 96)))
part_is n head (x ∷ more) within most end =
    take_append n (n - 96) head (x ∷ more) full
  where
    full : length head + (n - 96) ≡ n
    full = ⊎_elim
        (λ (lt : length head < 96). let e = end lt in absurd (cons_not x more e))
        (λ (ge : 96 ≤ length head). omega arith)
        (cases_lt (length head) 96)

length_word : (x : ℤ) → length (bytes_of_word x) ≡ 8
unfolding bytes_of_word
length_word x = refl

pub length_bytes : (ws : List ℤ) → length (bytes_of ws) ≡ 8 * length ws
length_bytes [] = refl
length_bytes (x ∷ ws) =
    let one = length_word x in
    let more = length_bytes ws in
    length-append (bytes_of_word x) (bytes_of ws) ∙ omega arith

-- the first bytes of an image, with a digest in place of theirs
pub length_mended : (head : List ℕ) (digest : List ℤ) → length head ≡ 96 → length digest ≡ 4
    → length (take 64 head ++ bytes_of digest) ≡ 96
length_mended head digest long four =
    let front : length (take 64 head) ≡ 64 = length-take-le 64 head (omega arith) in
    let back = length_bytes digest in
    length-append (take 64 head) (bytes_of digest) ∙ omega arith

word_append : (xs ys : List ℕ) (at : ℕ) → at + 8 ≤ length xs
    → word_from (xs ++ ys) at ≡ word_from xs at
unfolding word_from
word_append xs ys at le =
    rw (
      get_or_append_left xs ys 0 at (omega arith),
      get_or_append_left xs ys 0 (at + 1) (omega arith),
      get_or_append_left xs ys 0 (at + 2) (omega arith),
      get_or_append_left xs ys 0 (at + 3) (omega arith),
      get_or_append_left xs ys 0 (at + 4) (omega arith),
      get_or_append_left xs ys 0 (at + 5) (omega arith),
      get_or_append_left xs ys 0 (at + 6) (omega arith),
      get_or_append_left xs ys 0 (at + 7) (omega arith),
    ) refl

pub digest_append : (xs ys : List ℕ) → 96 ≤ length xs → digest_in (xs ++ ys) ≡ digest_in xs
digest_append xs ys le =
    rw (
      word_append xs ys 64 (omega arith),
      word_append xs ys 72 (omega arith),
      word_append xs ys 80 (omega arith),
      word_append xs ys 88 (omega arith),
    ) refl

pub unmoved_consumes : (digest : List ℤ) (image left : Option (List ℕ)) (head : List ℕ)
    → length head ≡ 96 → Consumes image left head
    → Consumes
    (option_map (λ bytes. take 64 bytes ++ (bytes_of digest ++ drop 96 bytes)) image) left
    (take 64 head ++ bytes_of digest)
unmoved_consumes digest None left head long consumes = tt
unmoved_consumes digest (Some all) None head long consumes = consumes
unmoved_consumes digest (Some all) (Some more) head long consumes =
    let first : take 64 all ≡ take 64 head =
    ap (take 64) consumes ∙ take-append-le 64 head more (omega arith) in
    let rest : drop 96 all ≡ more = ap (drop 96) consumes ∙ drop_at head more 96 long in
    rw (first, rest) (sym (append_assoc (take 64 head) (bytes_of digest) more))

known : (n : ℕ) (head more : List ℕ) (P : List ℕ → Type 0) → length head ≤ 96 → 96 ≤ n
    → P (head ++ take (n - 96) more) → (text : List ℕ) × P (take n text)
known n head more P within most is =
    let short : length (take (n - 96) more) ≤ n - 96 = rw length-take (omega arith) in
    let whole : length (head ++ take (n - 96) more) ≤ n = rw length-append (omega arith) in (
      head ++ take (n - 96) more,
      subst P (sym (take_all n (head ++ take (n - 96) more) whole)) is,
    )

-- what holds of the part of an image that is read
pub of_rest : (n : ℕ) (image left : Option (List ℕ)) (head : List ℕ) (P : List ℕ → Type 0)
    → length head ≤ 96 → 96 ≤ n → Consumes image left head → (length head < 96 → IsAtEnd left)
    → OfBytes left (λ bytes. P (head ++ take (n - 96) bytes))
    → OfBytes image (λ all. P (take n all))
of_rest n None None head P within most consumes end is = known n head is.0 P within most is.1
of_rest n None (Some more) head P within most consumes end is = known n head more P within most is
of_rest n (Some all) None head P within most consumes end is = absurd consumes
of_rest n (Some all) (Some more) head P within most consumes end is =
    subst P (sym (ap (take n) consumes ∙ part_is n head more within most end)) is

-- what holds of the digest of an image that is longer than this part of it
pub of_digest : (image left : Option (List ℕ)) (head : List ℕ) (P : List ℕ → Type 0)
    → 96 ≤ length head → Consumes image left head
    → ((bytes : List ℕ) → 96 ≤ length bytes → digest_in bytes ≡ digest_in head → P bytes)
    → OfBytes image P
of_digest None left head P long consumes so = (head, so head long refl)
of_digest (Some all) None head P long consumes so = absurd consumes
of_digest (Some all) (Some more) head P long consumes so =
    let whole : length all ≡ length head + length more =
    ap (λ (l : List ℕ). length l) consumes ∙ length-append head more in
    so all (omega arith) (ap digest_in consumes ∙ digest_append head more long)
