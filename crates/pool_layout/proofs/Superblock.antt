-- If no fault before those of content applies, lines 0 and 1 are those of the wanted pool.
use Rattle.std.proofs.Common.{◌≡◌, ◌≢◌, ℕ, zero, suc, ◌+◌, ◌<◌, ◌≤◌, Bool, true, false, not, ◌&&◌}
use Rattle.std.proofs.Common.{◌||◌, nat_le, nat_lt, cond, List, [], ◌∷◌, length, get_or, Option}
use Rattle.std.proofs.Common.{Some, None, ℤ, pos, refl, ap, ◌∙◌, arith}
use Rattle.std.specs.Ordering.{int_eq}
use Rattle.std.specs.Cmp.Lexicographic.{pointwise}
use Rattle.std.proofs.lemmas.Bool.Decides.{Decides-int_eq, nat_tests}
use Rattle.std.proofs.lemmas.Bool.{and_parts, not-false}
use Rattle.pool_layout.specs.declared.places.Version.TheVariants.{First, Second}
use Rattle.pool_layout.specs.declared.wanted.Wanted.{Wanted}
use Rattle.pool_layout.specs.declared.wanted.ImageFault.{ImageFault}
use Rattle.pool_layout.specs.declared.wanted.ImageFault.TheVariants.{Short, Magic}
use Rattle.pool_layout.specs.declared.wanted.ImageFault.TheVariants.{Version as OfVersion}
use Rattle.pool_layout.specs.declared.wanted.ImageFault.TheVariants.{Sizes as OfSizes, Digest}
use Rattle.pool_layout.specs.Bytes.{word_in}
use Rattle.pool_layout.specs.Good.{magic, sizes_words}
use Rattle.pool_layout.specs.Fault.{when, first_fault, early_fault, short_fault, magic_fault}
use Rattle.pool_layout.specs.Fault.{version_fault, size_fault, sizes_fault, length_fault}
use Rattle.pool_layout.specs.Fault.{digest_fault, digest_in, needed, version_of}
use Rattle.pool_layout.proofs.Kept.{and_rest}

head_none : (o : Option ImageFault) (os : List (Option ImageFault)) → first_fault (o ∷ os) ≡ None
    → o ≡ None
head_none None os e = refl
head_none (Some fault) os e = absurd (cc)

tail_none : (o : Option ImageFault) (os : List (Option ImageFault)) → first_fault (o ∷ os) ≡ None
    → first_fault os ≡ None
tail_none None os e = e
tail_none (Some fault) os e = absurd (cc)

when_none : (b : Bool) (fault : ImageFault) → when b fault ≡ None → b ≡ false
when_none true fault e = absurd (cc)
when_none false fault e = refl

same : (x y : ℤ) → not (int_eq x y) ≡ false → x ≡ y
same x y e = (Decides-int_eq x y).0 (not-false (int_eq x y) e)

size_same : (bytes : List ℕ) (k wanted : ℕ) → size_fault bytes k wanted ≡ None
    → word_in bytes k ≡ pos wanted
size_same bytes k wanted e = same (word_in bytes k) (pos wanted)
    (when_none (not (int_eq (word_in bytes k) (pos wanted)))
    (OfSizes (word_in bytes k) (pos wanted)) e)

-- what holds if no fault before those of content applies
pub record HasHead (wanted : Wanted) (bytes : List ℕ) : Type 0 where
  pub long : nat_lt (length bytes) (needed wanted bytes) ≡ false
  pub magic_is : word_in bytes 0 ≡ magic
  pub version : not (int_eq (word_in bytes 1) (pos 1) || int_eq (word_in bytes 1) (pos 2)) ≡ false
  pub slots : word_in bytes 2 ≡ pos wanted.sizes.slots
  pub records : word_in bytes 3 ≡ pos wanted.sizes.records
  pub root_words : word_in bytes 4 ≡ pos wanted.sizes.root_words
  pub ticks : word_in bytes 5 ≡ pos wanted.sizes.ticks
  pub short : nat_lt (needed wanted bytes) (length bytes) ≡ false
  pub digest : pointwise int_eq (digest_in bytes) wanted.digest ≡ true

pub has_head : (wanted : Wanted) (bytes : List ℕ) → early_fault wanted bytes ≡ None
    → HasHead wanted bytes
unfolding early_fault
has_head wanted bytes e =
    let s = wanted.sizes in
    let all4 : List (Option ImageFault) = digest_fault wanted bytes ∷ [] in
    let all3 : List (Option ImageFault) = sizes_fault wanted bytes ∷ all4 in
    let all2 : List (Option ImageFault) = version_fault bytes ∷ all3 in
    let all1 : List (Option ImageFault) = magic_fault bytes ∷ all2 in
    let e1 = tail_none (short_fault wanted bytes) all1 e in
    let e2 = tail_none (magic_fault bytes) all2 e1 in
    let e3 = tail_none (version_fault bytes) all3 e2 in
    let e4 = tail_none (sizes_fault wanted bytes) all4 e3 in
    let f = head_none (sizes_fault wanted bytes) all4 e3 in
    let sizes4 : List (Option ImageFault) = length_fault wanted bytes ∷ [] in
    let sizes3 : List (Option ImageFault) = size_fault bytes 5 s.ticks ∷ sizes4 in
    let sizes2 : List (Option ImageFault) = size_fault bytes 4 s.root_words ∷ sizes3 in
    let sizes1 : List (Option ImageFault) = size_fault bytes 3 s.records ∷ sizes2 in
    let f1 = tail_none (size_fault bytes 2 s.slots) sizes1 f in
    let f2 = tail_none (size_fault bytes 3 s.records) sizes2 f1 in
    let f3 = tail_none (size_fault bytes 4 s.root_words) sizes3 f2 in
    let f4 = tail_none (size_fault bytes 5 s.ticks) sizes4 f3 in
    record {
      long = when_none (nat_lt (length bytes) (needed wanted bytes))
          (Short (length bytes) (needed wanted bytes))
          (head_none (short_fault wanted bytes) all1 e);
      magic_is = same (word_in bytes 0) magic
          (when_none (not (int_eq (word_in bytes 0) magic)) (Magic (word_in bytes 0) magic)
          (head_none (magic_fault bytes) all2 e1));
      version = when_none (not (int_eq (word_in bytes 1) (pos 1)
          || int_eq (word_in bytes 1) (pos 2))) (OfVersion (word_in bytes 1) (pos 2))
          (head_none (version_fault bytes) all3 e2);
      slots = size_same bytes 2 s.slots (head_none (size_fault bytes 2 s.slots) sizes1 f);
      records = size_same bytes 3 s.records (head_none (size_fault bytes 3 s.records) sizes2 f1);
      root_words = size_same bytes 4 s.root_words
          (head_none (size_fault bytes 4 s.root_words) sizes3 f2);
      ticks = size_same bytes 5 s.ticks (head_none (size_fault bytes 5 s.ticks) sizes4 f3);
      short = when_none (nat_lt (needed wanted bytes) (length bytes))
          (OfSizes (pos (length bytes)) (pos (needed wanted bytes)))
          (head_none (length_fault wanted bytes) [] f4);
      digest = not-false (pointwise int_eq (digest_in bytes) wanted.digest)
          (when_none (not (pointwise int_eq (digest_in bytes) wanted.digest))
          (Digest (digest_in bytes) wanted.digest) (head_none (digest_fault wanted bytes) [] e4));
    }

same_list : (xs ys : List ℤ) → pointwise int_eq xs ys ≡ true → xs ≡ ys
same_list [] [] e = refl
same_list [] (y ∷ ys) e = absurd (cc)
same_list (x ∷ xs) [] e = absurd (cc)
same_list (x ∷ xs) (y ∷ ys) e =
    let first : x ≡ y =
    (Decides-int_eq x y).0 (and_parts (int_eq x y) (pointwise int_eq xs ys) e).0 in
    let rest : xs ≡ ys = same_list xs ys (and_parts (int_eq x y) (pointwise int_eq xs ys) e).1 in
    λ i. first i ∷ rest i

-- the digest's words, one by one
pub digest_word : (wanted : Wanted) (bytes : List ℕ) → HasHead wanted bytes → (k : ℕ) → k < 4
    → word_in bytes (8 + k) ≡ get_or wanted.digest k (pos 0)
digest_word wanted bytes head k lt =
    each k lt ∙ ap (λ (xs : List ℤ). get_or xs k (pos 0))
    (same_list (digest_in bytes) wanted.digest head.digest)
  where
    each : (j : ℕ) → j < 4 → word_in bytes (8 + j) ≡ get_or (digest_in bytes) j (pos 0)
    each zero below = refl
    each (suc zero) below = refl
    each (suc (suc zero)) below = refl
    each (suc (suc (suc zero))) below = refl
    each (suc (suc (suc (suc j)))) below = absurd (omega arith)

-- the words of the sizes, if word 1 is 2
pub sizes_word : (wanted : Wanted) (bytes : List ℕ) (image : ℕ → ℤ) → HasHead wanted bytes
    → image 1 ≡ pos 2 → ((k : ℕ) → k < 6 → k ≢ 1 → image k ≡ word_in bytes k) → (k : ℕ) → k < 6
    → image k ≡ get_or (sizes_words wanted.sizes) k (pos 0)
sizes_word wanted bytes image head second others zero lt = others 0 lt (omega arith) ∙ head.magic_is
sizes_word wanted bytes image head second others (suc zero) lt = second
sizes_word wanted bytes image head second others (suc (suc zero)) lt =
    others 2 lt (omega arith) ∙ head.slots
sizes_word wanted bytes image head second others (suc (suc (suc zero))) lt =
    others 3 lt (omega arith) ∙ head.records
sizes_word wanted bytes image head second others (suc (suc (suc (suc zero)))) lt =
    others 4 lt (omega arith) ∙ head.root_words
sizes_word wanted bytes image head second others (suc (suc (suc (suc (suc zero))))) lt =
    others 5 lt (omega arith) ∙ head.ticks
sizes_word wanted bytes image head second others (suc (suc (suc (suc (suc (suc k)))))) lt =
    absurd (omega arith)

not_or : (a b : Bool) → not (a || b) ≡ false → a ≡ false → b ≡ true
not_or true b e f = absurd (cc)
not_or false b e f = not-false b e

-- word 1 of an image that isn't read as one of the first version
pub second_word : (wanted : Wanted) (bytes : List ℕ) → HasHead wanted bytes → 16 ≤ length bytes
    → version_of bytes ≡ Second → word_in bytes 1 ≡ pos 2
second_word wanted bytes head long second =
    let there : nat_le 16 (length bytes) ≡ true = grind (arith, nat_tests) in
    let other : int_eq (word_in bytes 1) (pos 1) ≡ false =
    and_rest (nat_le 16 (length bytes)) (int_eq (word_in bytes 1) (pos 1))
    (chosen (nat_le 16 (length bytes) && int_eq (word_in bytes 1) (pos 1)) second) there in
    (Decides-int_eq (word_in bytes 1) (pos 2)).0
    (not_or (int_eq (word_in bytes 1) (pos 1)) (int_eq (word_in bytes 1) (pos 2))
    head.version other)
  where
    chosen : (b : Bool) → cond b First Second ≡ Second → b ≡ false
    chosen true e = absurd (cc)
    chosen false e = refl
