-- Words to bytes, and back.
use Rattle.std.proofs.Common.{◌≡◌, ◌<◌, ◌≤◌, ◌++◌, ◌+◌, ◌*◌, ◌^◌, ◌∷◌, [], ℕ, ℤ, pos, zero, suc}
use Rattle.std.proofs.Common.{List, length, take, drop, get_or, refl, sym, ap, ◌∙◌, append_assoc}
use Rattle.std.proofs.Common.{add-one, arith, length-drop, length-append}
use Rattle.std.specs.Int.{w64, cast_signed, cast_unsigned, from_le_bytes, to_le_bytes}
use Rattle.std.proofs.Math.Seq.{drop-cons, take-add, take-append_seam}
use Rattle.std.proofs.lemmas.List.{get_or-drop, get_or_past, append-nil, length-take-le}
use Rattle.std.proofs.lemmas.Nat.{le_bytes_8}
use Rattle.std.proofs.lemmas.Int.{of_z-to_z}
use Rattle.pool_layout.specs.Bytes.{bytes_of, bytes_of_word, word_from, word_in}

-- one more of the words that are left
pub bytes_of-drop : (xs : List ℤ) (i : ℕ) (out : List ℕ) → i < length xs
    → (out ++ bytes_of_word (get_or xs i (pos 0))) ++ bytes_of (drop (i + 1) xs) ≡ out
    ++ bytes_of (drop i xs)
bytes_of-drop xs i out lt = rw (add-one, drop-cons xs i (pos 0) lt, append_assoc) refl

bytes_of-append : (xs ys : List ℤ) → bytes_of (xs ++ ys) ≡ bytes_of xs ++ bytes_of ys
bytes_of-append [] ys = refl
bytes_of-append (x ∷ xs) ys = ap (λ (bs : List ℕ). bytes_of_word x ++ bs) (bytes_of-append xs ys)
    ∙ sym (append_assoc (bytes_of_word x) (bytes_of xs) (bytes_of ys))

-- eight bytes that were copied into others
pub put_bytes : (piece bytes new : List ℕ) (at : ℕ)
    → new ≡ (take at piece ++ bytes) ++ drop (at + 8) piece → length bytes ≡ 8
    → at + 8 ≤ length piece → take (at + 8) new ≡ take at piece ++ bytes
put_bytes piece bytes new at is eight room =
    let first : length (take at piece) ≡ at = length-take-le at piece (omega arith) in
    let both : length (take at piece ++ bytes) ≡ at + 8 =
    length-append (take at piece) bytes ∙ omega arith in
    ap (take (at + 8)) is
    ∙ ap (λ (n : ℕ). take n ((take at piece ++ bytes) ++ drop (at + 8) piece)) (sym both)
    ∙ take-append_seam (take at piece ++ bytes) (drop (at + 8) piece)

-- the first eight of a list
abbrev pub eight : List ℕ → List ℕ
eight xs = get_or xs 0 0 ∷ get_or xs 1 0 ∷ get_or xs 2 0 ∷ get_or xs 3 0 ∷ get_or xs 4 0
    ∷ get_or xs 5 0 ∷ get_or xs 6 0 ∷ get_or xs 7 0 ∷ []

eight_take : (xs : List ℕ) → 8 ≤ length xs → eight xs ≡ take 8 xs
eight_take (a ∷ b ∷ c ∷ d ∷ e ∷ f ∷ g ∷ h ∷ xs) le = refl
eight_take xs le = absurd (omega arith)

eight_bytes : (xs : List ℕ) → ((i : ℕ) → get_or xs i 0 < 256) → (i : ℕ)
    → get_or (eight xs) i 0 < 256
eight_bytes xs all zero = all 0
eight_bytes xs all (suc zero) = all 1
eight_bytes xs all (suc (suc zero)) = all 2
eight_bytes xs all (suc (suc (suc zero))) = all 3
eight_bytes xs all (suc (suc (suc (suc zero)))) = all 4
eight_bytes xs all (suc (suc (suc (suc (suc zero))))) = all 5
eight_bytes xs all (suc (suc (suc (suc (suc (suc zero)))))) = all 6
eight_bytes xs all (suc (suc (suc (suc (suc (suc (suc zero))))))) = all 7
eight_bytes xs all (suc (suc (suc (suc (suc (suc (suc (suc i)))))))) = omega arith

sum_fits : (a b c d e f g h : ℕ) → a < 256 → b < 256 → c < 256 → d < 256 → e < 256 → f < 256
    → g < 256 → h < 256 → from_le_bytes w64 (a ∷ b ∷ c ∷ d ∷ e ∷ f ∷ g ∷ h ∷ []) < 2 ^ 64
sum_fits a b c d e f g h ha hb hc hd he hf hg hh = omega arith

eight_word : (xs : List ℕ) → 8 ≤ length xs → ((i : ℕ) → get_or xs i 0 < 256)
    → to_le_bytes w64 (cast_unsigned w64 (cast_signed w64 (from_le_bytes w64 (eight xs))))
    ≡ take 8 xs
eight_word xs le all =
    let fits : from_le_bytes w64 (eight xs) < 2 ^ 64 =
    sum_fits (get_or xs 0 0) (get_or xs 1 0) (get_or xs 2 0) (get_or xs 3 0) (get_or xs 4 0)
    (get_or xs 5 0) (get_or xs 6 0) (get_or xs 7 0) (all 0) (all 1) (all 2) (all 3) (all 4)
    (all 5) (all 6) (all 7) in
    le_bytes_8 (eight xs) (cast_unsigned w64 (cast_signed w64 (from_le_bytes w64 (eight xs)))) refl
    (eight_bytes xs all) (of_z-to_z w64 (from_le_bytes w64 (eight xs)) fits) ∙ eight_take xs le

pub eight_at : (bytes : List ℕ) (at : ℕ) → eight (drop at bytes) ≡ get_or bytes at 0
    ∷ get_or bytes (at + 1) 0 ∷ get_or bytes (at + 2) 0 ∷ get_or bytes (at + 3) 0
    ∷ get_or bytes (at + 4) 0 ∷ get_or bytes (at + 5) 0 ∷ get_or bytes (at + 6) 0
    ∷ get_or bytes (at + 7) 0 ∷ []
eight_at bytes at =
    let none : at + 0 ≡ at = omega arith in
    rw (
      get_or-drop at bytes 0 0,
      get_or-drop at bytes 1 0,
      get_or-drop at bytes 2 0,
      get_or-drop at bytes 3 0,
      get_or-drop at bytes 4 0,
      get_or-drop at bytes 5 0,
      get_or-drop at bytes 6 0,
      get_or-drop at bytes 7 0,
      none,
    ) refl

word_bytes : (bytes : List ℕ) (at : ℕ) → at + 8 ≤ length bytes → ((i : ℕ) → get_or bytes i 0 < 256)
    → bytes_of_word (word_from bytes at) ≡ take 8 (drop at bytes)
unfolding word_from bytes_of_word
word_bytes bytes at le all =
    let room : 8 ≤ length (drop at bytes) = rw length-drop (omega arith) in
    ap (λ (bs : List ℕ). to_le_bytes w64
    (cast_unsigned w64 (cast_signed w64 (from_le_bytes w64 bs)))) (sym (eight_at bytes at))
    ∙ eight_word (drop at bytes) room (λ i. rw get_or-drop (all (at + i)))

-- one more of the words that are read
pub bytes_of-more : (old bytes : List ℕ) (ws : List ℤ) (k : ℕ)
    → ((i : ℕ) → get_or bytes i 0 < 256) → 8 * k + 8 ≤ length bytes
    → bytes_of ws ≡ old ++ take (8 * k) bytes
    → bytes_of (ws ++ word_in bytes k ∷ []) ≡ old ++ take (8 * (k + 1)) bytes
bytes_of-more old bytes ws k all le so_far =
    let next : 8 * (k + 1) ≡ 8 * k + 8 = omega arith in
    let word : bytes_of_word (word_in bytes k) ++ [] ≡ take 8 (drop (8 * k) bytes) =
    append-nil (bytes_of_word (word_in bytes k)) ∙ word_bytes bytes (8 * k) le all in
    bytes_of-append ws (word_in bytes k ∷ [])
    ∙ (λ i. so_far i ++ word i)
    ∙ append_assoc old (take (8 * k) bytes) (take 8 (drop (8 * k) bytes))
    ∙ ap (λ (bs : List ℕ). old ++ bs)
    (sym (ap (λ (n : ℕ). take n bytes) next ∙ take-add (8 * k) 8 bytes))

-- past the end of the bytes, a word is 0
pub word_after : (bytes : List ℕ) (at : ℕ) → length bytes ≤ at → word_from bytes at ≡ pos 0
unfolding word_from
word_after bytes at le =
    rw (
      get_or_past bytes at 0 le,
      get_or_past bytes (at + 1) 0 (omega arith),
      get_or_past bytes (at + 2) 0 (omega arith),
      get_or_past bytes (at + 3) 0 (omega arith),
      get_or_past bytes (at + 4) 0 (omega arith),
      get_or_past bytes (at + 5) 0 (omega arith),
      get_or_past bytes (at + 6) 0 (omega arith),
      get_or_past bytes (at + 7) 0 (omega arith),
    ) refl
