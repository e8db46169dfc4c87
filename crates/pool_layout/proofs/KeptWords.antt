-- Bytes that are kept as words, and the bytes after the last whole word.
use Rattle.std.proofs.Common.{◌≡◌, ◌<◌, ◌≤◌, ◌++◌, ◌+◌, ◌*◌, ◌%◌, ◌∷◌, [], ℕ, ℤ, pos, zero}
use Rattle.std.proofs.Common.{suc, List, length, take, drop, get_or, refl, sym, ap, ◌∙◌, arith}
use Rattle.std.proofs.Common.{append_assoc, length-append, FitsSigned, ⊎_elim}
use Rattle.std.specs.Int.{w64, cast_signed, cast_unsigned, from_le_bytes}
use Rattle.std.proofs.Math.Seq.{drop-append-add, drop-cons, take-add}
use Rattle.std.proofs.lemmas.List.{append-nil, get_or_past, take-append-drop}
use Rattle.std.proofs.lemmas.Nat.{from_le_bytes-to_le_bytes_8}
use Rattle.std.proofs.lemmas.Int.{to_z-of_z}
use Rattle.std.proofs.Math.Facts.{Fits-of_z}
use Rattle.std.proofs.lemmas.Bool.{cases_lt}
use Rattle.pool_layout.specs.Bytes.{bytes_of, bytes_of_word, word_from, word_in}
use Rattle.pool_layout.specs.Image.{image_words}
use Rattle.pool_layout.specs.inside.Bytes.{AreWords}
use Rattle.pool_layout.proofs.Words.{eight, eight_at, word_after}

length_word : (x : ℤ) → length (bytes_of_word x) ≡ 8
unfolding bytes_of_word
length_word x = refl

length_bytes : (ws : List ℤ) → length (bytes_of ws) ≡ 8 * length ws
length_bytes [] = refl
length_bytes (x ∷ ws) =
    let one = length_word x in
    let more = length_bytes ws in
    length-append (bytes_of_word x) (bytes_of ws) ∙ omega arith

pub raw_length : (ws : List ℤ) (rest : List ℕ)
    → length (bytes_of ws ++ rest) ≡ 8 * length ws + length rest
raw_length ws rest =
    let whole = length_bytes ws in
    length-append (bytes_of ws) rest ∙ omega arith

pub no_words : AreWords []
no_words i = record { sfits = omega arith }

-- one more word
pub are_words_more : (ws : List ℤ) (x : ℤ) → AreWords ws → FitsSigned w64 x
    → AreWords (ws ++ x ∷ [])
are_words_more [] x all fits zero = fits
are_words_more [] x all fits (suc i) = all 0
are_words_more (w ∷ ws) x all fits zero = all 0
are_words_more (w ∷ ws) x all fits (suc i) = are_words_more ws x (λ j. all (suc j)) fits i

-- the bytes of a word are that word
eight_word_back : (x : ℤ) (zs : List ℕ) → FitsSigned w64 x
    → cast_signed w64 (from_le_bytes w64 (eight (bytes_of_word x ++ zs))) ≡ x
unfolding bytes_of_word
eight_word_back x zs fits =
    ap (cast_signed w64) (from_le_bytes-to_le_bytes_8 (cast_unsigned w64 x) (Fits-of_z fits).fits)
    ∙ to_z-of_z w64 x fits

drop_word : (x : ℤ) (zs : List ℕ) (n : ℕ) → drop (8 + n) (bytes_of_word x ++ zs) ≡ drop n zs
drop_word x zs n =
    ap (λ (m : ℕ). drop (m + n) (bytes_of_word x ++ zs)) (sym (length_word x))
    ∙ drop-append-add (bytes_of_word x) zs n

-- the bytes from word k on
drop_words : (ws : List ℤ) (rest : List ℕ) (k : ℕ) → k ≤ length ws
    → drop (8 * k) (bytes_of ws ++ rest) ≡ bytes_of (drop k ws) ++ rest
drop_words ws rest zero le = refl
drop_words [] rest (suc k) le = absurd (omega arith)
drop_words (x ∷ ws) rest (suc k) le =
    let next : 8 * suc k ≡ 8 + 8 * k = omega arith in
    ap (λ (n : ℕ). drop n ((bytes_of_word x ++ bytes_of ws) ++ rest)) next
    ∙ ap (drop (8 + 8 * k)) (append_assoc (bytes_of_word x) (bytes_of ws) rest)
    ∙ drop_word x (bytes_of ws ++ rest) (8 * k) ∙ drop_words ws rest k (omega arith)

word_of : (bytes : List ℕ) (at : ℕ)
    → word_from bytes at ≡ cast_signed w64 (from_le_bytes w64 (eight (drop at bytes)))
unfolding word_from
word_of bytes at = ap (λ (bs : List ℕ). cast_signed w64 (from_le_bytes w64 bs))
    (sym (eight_at bytes at))

-- a word that is kept is that of the bytes
word_kept : (ws : List ℤ) (rest : List ℕ) (k : ℕ) → AreWords ws → k < length ws
    → word_in (bytes_of ws ++ rest) k ≡ get_or ws k (pos 0)
word_kept ws rest k all lt =
    let x : ℤ = get_or ws k (pos 0) in
    word_of (bytes_of ws ++ rest) (8 * k)
    ∙ ap (λ (bs : List ℕ). cast_signed w64 (from_le_bytes w64 (eight bs)))
    (drop_words ws rest k (omega arith)
    ∙ ap (λ (vs : List ℤ). bytes_of vs ++ rest) (drop-cons ws k (pos 0) lt)
    ∙ append_assoc (bytes_of_word x) (bytes_of (drop (suc k) ws)) rest)
    ∙ eight_word_back x (bytes_of (drop (suc k) ws) ++ rest) (all k)

words_kept : (ws : List ℤ) → AreWords ws → image_words ws ≡ word_in (bytes_of ws)
words_kept ws all = λ i p. one p i
  where
    one : (p : ℕ) → get_or ws p (pos 0) ≡ word_in (bytes_of ws) p
    one p = ⊎_elim
        (λ (lt : p < length ws).
        sym (word_kept ws [] p all lt)
        ∙ ap (λ (bs : List ℕ). word_in bs p) (append-nil (bytes_of ws)))
        (λ (ge : length ws ≤ p).
        let whole = length_bytes ws in
        get_or_past ws p (pos 0) ge ∙ sym (word_after (bytes_of ws) (8 * p) (omega arith)))
        (cases_lt p (length ws))

-- without a byte after the last word
no_rest : (ws : List ℤ) (rest : List ℕ) → length rest < 8
    → length (bytes_of ws ++ rest) % 8 ≡ 0 → rest ≡ []
no_rest ws [] short whole = refl
no_rest ws (b ∷ rest) short whole = let long = raw_length ws (b ∷ rest) in absurd (omega arith)

-- what the bytes show of the words that are kept

pub room_kept : (ws : List ℤ) (rest bytes : List ℕ) (k : ℕ) → bytes_of ws ++ rest ≡ bytes
    → length rest < 8 → 8 * k + 8 ≤ length bytes → k < length ws
room_kept ws rest bytes k is short room =
    let long : length bytes ≡ 8 * length ws + length rest =
    ap (λ (bs : List ℕ). length bs) (sym is) ∙ raw_length ws rest in
    omega arith

pub word_shown : (ws : List ℤ) (rest bytes : List ℕ) (k : ℕ) → bytes_of ws ++ rest ≡ bytes
    → AreWords ws × (length rest < 8) → 8 * k + 8 ≤ length bytes
    → get_or ws k (pos 0) ≡ word_in bytes k
word_shown ws rest bytes k is kept room =
    sym (word_kept ws rest k kept.0 (room_kept ws rest bytes k is kept.1 room))
    ∙ ap (λ (bs : List ℕ). word_in bs k) is

-- the words of bytes that are whole words
pub record IsWhole (ws : List ℤ) (bytes : List ℕ) : Type 0 where
  pub bytes_are : bytes_of ws ≡ bytes
  pub whole : 8 * length ws ≡ length bytes
  pub words : image_words ws ≡ word_in bytes

pub whole_kept : (ws : List ℤ) (rest bytes : List ℕ) → bytes_of ws ++ rest ≡ bytes
    → AreWords ws × (length rest < 8) → length bytes % 8 ≡ 0 → IsWhole ws bytes
whole_kept ws rest bytes is kept whole =
    let none : rest ≡ [] = no_rest ws rest kept.1
    (ap (λ (bs : List ℕ). length bs % 8) is ∙ whole) in
    let all : bytes_of ws ≡ bytes =
    sym (append-nil (bytes_of ws)) ∙ ap (λ (r : List ℕ). bytes_of ws ++ r) (sym none) ∙ is in
    record {
      bytes_are = all;
      whole = sym (length_bytes ws) ∙ ap (λ (bs : List ℕ). length bs) all;
      words = words_kept ws kept.0 ∙ ap word_in all;
    }

-- bytes that are put at the end, in parts

pub halves : (n : ℕ) (piece first others : List ℕ) → first ≡ take n piece → others ≡ drop n piece
    → piece ≡ first ++ others
halves n piece first others front back =
    sym (take-append-drop n piece) ∙ (λ i. sym front i ++ sym back i)

pub byte_put : (a b c bytes : List ℕ) (i x : ℕ) → i < length bytes → x ≡ get_or bytes i 0
    → b ≡ a ++ take i bytes → c ≡ b ++ x ∷ [] → c ≡ a ++ take (i + 1) bytes
byte_put a b c bytes i x lt is so_far put =
    let next : take (i + 1) bytes ≡ take i bytes ++ x ∷ [] =
    take-add i 1 bytes
    ∙ ap (λ (bs : List ℕ). take i bytes ++ take 1 bs) (drop-cons bytes i 0 lt)
    ∙ ap (λ (y : ℕ). take i bytes ++ y ∷ []) (sym is) in
    put ∙ ap (λ (bs : List ℕ). bs ++ x ∷ []) so_far ∙ append_assoc a (take i bytes) (x ∷ [])
    ∙ ap (λ (bs : List ℕ). a ++ bs) (sym next)

-- first up to the end of a word, and then the others
pub then_others : (a b r first others piece d : List ℕ) → length r ≡ 0 → b ++ r ≡ a ++ first
    → piece ≡ first ++ others → d ≡ b ++ others → d ≡ a ++ piece
then_others a b [] first others piece d none one parts two =
    two ∙ ap (λ (x : List ℕ). x ++ others) (sym (append-nil b) ∙ one)
    ∙ append_assoc a first others ∙ ap (λ (x : List ℕ). a ++ x) (sym parts)
then_others a b (x ∷ r) first others piece d none one parts two = absurd (omega arith)

-- whole words, and then the last bytes
pub then_last : (a b r whole last piece d : List ℕ) → length r ≡ 0 → b ≡ a ++ whole
    → piece ≡ whole ++ last → d ≡ (b ++ r) ++ last → d ≡ a ++ piece
then_last a b [] whole last piece d none one parts two =
    two ∙ ap (λ (x : List ℕ). x ++ last) (append-nil b ∙ one)
    ∙ append_assoc a whole last ∙ ap (λ (x : List ℕ). a ++ x) (sym parts)
then_last a b (x ∷ r) whole last piece d none one parts two = absurd (omega arith)
