-- The numbers among the tokens of a text, and among those that its constants leave, are words.
use Rattle.std.proofs.Common.{◌≡◌, ℕ, zero, suc, ◌-◌, ◌^◌, ◌≤◌, ℤ, pos, Bool, true, false, List, []}
use Rattle.std.proofs.Common.{◌∷◌, length, drop, refl, subst, arith, ◌<◌, ltb}
use Rattle.std.specs.Prelude.{nat_le, nat_lt, nat_eq, ◌==◌, ◌&&◌, ◌||◌, if◌then◌else◌, slice_index}
use Rattle.std.specs.Prelude.{codes, Option, None, Some, Result, Ok, Err}
use Rattle.std.specs.Int.{w64, cast_signed}
use Rattle.std.specs.List.{list_all, starts_with}
use Rattle.std.specs.Char.{is_digit, is_ascii_digit}
use Rattle.std.specs.Str.Parse.{digits_value_after}
use Rattle.std.proofs.lemmas.Int.{ints}
use Rattle.std.proofs.lemmas.Bool.{and_parts, ltb-true, ltb-false}
use Rattle.nvm_base.specs.Wrap.{IsWord}
use Rattle.nvm_base.proofs.Tests.{le_from}
use Rattle.c_lexer.specs.declared.fault.LexFault.{LexFault}
use Rattle.c_lexer.specs.declared.fault.LexFault.TheVariants.{TooLong}
use Rattle.c_lexer.specs.declared.token.Placed.{Placed}
use Rattle.c_lexer.specs.Bytes.{is_blank, begins_name, run_len, line_len}
use Rattle.c_lexer.specs.Comments.{comment_len, begins_include}
use Rattle.c_lexer.specs.Cuts.{TextEnd, Cut, placed_at, begin_piece, cut_left, cut, lex_answer}
use Rattle.c_lexer.specs.Cuts.{limited, answer}
use Rattle.c_lexer.specs.Marks.{mark_at}
use Rattle.c_lexer.specs.Next.{run_of, comment_piece, number_piece, mark_piece, next_piece}
use Rattle.c_lexer.specs.Numbers.{digits_after, numeral, number_of}
use Rattle.c_lexer.specs.Spots.{text_start, past_byte}
use Rattle.c_lexer.specs.TokenList.{Tokens}
use Rattle.c_lexer.specs.Words.{spelled_by, word_spelled, is_never_accepted}
use Rattle.c_lexer.specs.declared.token.Token.{Token}
use Rattle.c_lexer.specs.declared.token.Token.TheVariants as token
use Rattle.c_constants.specs.Laws.{IsWordToken, AreWordTokens, AreInRange}
use Rattle.c_constants.specs.Left.{LeavesTokens}
use Rattle.c_constants.proofs.Leaving.{left}
use Rattle.c_tree.specs.Kinds.{placed_value, value_at}

pub small_word : (n : ℕ) → n ≤ 2 ^ 63 - 1 → IsWord (pos n)
small_word n le = (omega (arith, ints), omega (arith, ints, le))

abbrev IsWordOr : Option ℤ → Type 0
IsWordOr None = Unit {0}
IsWordOr (Some v) = IsWord v

-- the word of a number below 2^64
bits_word : (n : ℕ) → n < 2 ^ 64 → IsWord (cast_signed w64 n)
bits_word n small = by (ltb n (2 ^ 63)) refl
  where
    by : (t : Bool) → ltb n (2 ^ 63) ≡ t → IsWord (cast_signed w64 n)
    by true low = let below = ltb-true n (2 ^ 63) low in
        rw low (omega (arith, ints), omega (arith, ints, below))
    by false high = let above = ltb-false n (2 ^ 63) high in
        rw high (omega (arith, ints, above, small), omega (arith, ints, above, small))

digits_words : (base most before : ℕ) (digits : List ℕ) → most < 2 ^ 64
    → IsWordOr (digits_after base most before digits)
digits_words base most before digits small =
    by_test (list_all (λ d. is_digit d base) digits
    && nat_le (digits_value_after base before digits) most) refl
  where
    by_test : (b : Bool) → (list_all (λ d. is_digit d base) digits
        && nat_le (digits_value_after base before digits) most) ≡ b
        → IsWordOr (if b then Some (cast_signed w64 (digits_value_after base before digits))
        else None)
    by_test true at = let fits = le_from (digits_value_after base before digits) most
        (and_parts (list_all (λ d. is_digit d base) digits)
        (nat_le (digits_value_after base before digits) most) at).1 in
        bits_word (digits_value_after base before digits) (omega (arith, fits, small))
    by_test false at = tt

either_words : (b : Bool) (x y : Option ℤ) → IsWordOr x → IsWordOr y → IsWordOr (if b then x else y)
either_words true x y a c = a
either_words false x y a c = c

numeral_words : (base most : ℕ) (digits : List ℕ) → most < 2 ^ 64
    → IsWordOr (numeral base most digits)
numeral_words base most digits small =
    either_words (nat_lt 0 (length digits)) (digits_after base most 0 digits)
    None (digits_words base most 0 digits small) tt

number_words : (run : List ℕ) → IsWordOr (number_of run)
unfolding number_of
number_words run =
    either_words (starts_with nat_eq run (codes "0x") || starts_with nat_eq run (codes "0X"))
    (numeral 16 (2 ^ 64 - 1) (drop 2 run)) _
    (numeral_words 16 (2 ^ 64 - 1) (drop 2 run) (omega arith))
    (either_words (slice_index run 0 == 48 && nat_lt 1 (length run)) None
    (numeral 10 (2 ^ 63 - 1) run) tt (numeral_words 10 (2 ^ 63 - 1) run (omega arith)))

-- a cut that begins with a piece has only words as numbers
record KeepsWords {S P : Type 0} (begun : P → S → (ℕ → Cut) → Cut) (x : P) : Type 0 where
  holds : (spot : S) (go : ℕ → Cut) → ((n : ℕ) → AreWordTokens (go n).tokens)
      → AreWordTokens (begun x spot go).tokens

either_piece : {S P : Type 0} {begun : P → S → (ℕ → Cut) → Cut} (b : Bool) {x y : P}
    → KeepsWords begun x → KeepsWords begun y → KeepsWords begun (if b then x else y)
either_piece true a c = a
either_piece false a c = c

comment_words : (at : _) (o : Option ℕ) → KeepsWords begin_piece (comment_piece at o)
comment_words at None = record { holds = λ spot go h. tt }
comment_words at (Some width) = record { holds = λ spot go h. h (width - 1) }

number_piece_words : (at : _) (width : ℕ) (o : Option ℤ) → IsWordOr o
    → KeepsWords begin_piece (number_piece at width o)
number_piece_words at width None w = record { holds = λ spot go h. tt }
number_piece_words at width (Some v) w = record { holds = λ spot go h. (w, h (width - 1)) }

mark_words : (at : _) (o : Option (ℕ × _)) → KeepsWords begin_piece (mark_piece at o)
mark_words at None = record { holds = λ spot go h. tt }
mark_words at (Some (width, mark)) =
    record { holds = λ spot go h. (small_word 0 (omega arith), h (width - 1)) }

spelled_words : (run : List ℕ) (o : Option _) (reserved : Bool) (spot : _)
    → IsWordToken (placed_at spot (spelled_by run o reserved))
spelled_words run (Some word) reserved spot = small_word 0 (omega arith)
spelled_words run None true spot = small_word 0 (omega arith)
spelled_words run None false spot = small_word 0 (omega arith)

next_words : (spot : _) (left : List ℕ) → KeepsWords begin_piece (next_piece spot left)
unfolding next_piece
next_words spot left =
    either_piece (is_blank (slice_index left 0)) (record { holds = λ spot go h. h 0 })
    (either_piece (starts_with nat_eq left (codes "//") || (spot.fresh && begins_include left))
    (record { holds = λ spot go h. h (line_len left - 1) })
    (either_piece (starts_with nat_eq left (codes "/*"))
    (comment_words spot (comment_len left))
    (either_piece (is_ascii_digit (slice_index left 0))
    (number_piece_words spot (run_len left) (number_of (run_of left))
    (number_words (run_of left)))
    (either_piece (begins_name (slice_index left 0))
    (record {
      holds = λ spot go h. (
        spelled_words (run_of left) (word_spelled (run_of left)) (is_never_accepted (run_of left))
            spot,
        h (run_len left - 1),
      );
    })
    (mark_words spot (mark_at left))))))

cut_words : (inside : ℕ) (spot : _) (left : List ℕ)
    → AreWordTokens (cut_left inside spot left).tokens
unfolding cut_left
cut_words zero spot [] = tt
cut_words (suc inside) spot [] = tt
cut_words (suc inside) spot (b ∷ bs) = cut_words inside (past_byte spot b) bs
cut_words zero spot (b ∷ bs) =
    (next_words spot (b ∷ bs)).holds spot (λ inside. cut_left inside (past_byte spot b) bs)
    (λ n. cut_words n (past_byte spot b) bs)

-- a token has one number, for the constants and for the tree
token_word : (t : Token) (line start : ℕ)
    → IsWordToken (record { token = t; line = line; start = start })
    → IsWord (placed_value (Some (record { token = t; line = line; start = start })))
token_word (token.Number n) line start w = w
token_word _ line start w = w

value_word : (ts : List Placed) (i : ℕ) → AreWordTokens ts → IsWord (value_at ts i)
value_word [] i h = small_word 0 (omega arith)
value_word (t ∷ ts) zero h = token_word t.token t.line t.start h.0
value_word (t ∷ ts) (suc i) h = value_word ts i h.1

abbrev Answers : Result Tokens LexFault → Tokens → Type 0
Answers r list = r ≡ Ok list

answer_words : (text : List ℕ) (list : Tokens) → answer text ≡ Ok list
    → AreWordTokens list.tokens
answer_words text list e = by_bytes (nat_lt 262144 (length text)) e
  where
    err_ok : (f : LexFault) → Answers (Err f) list → ⊥
    err_ok f e = cc

    same : (x : Tokens) → Answers (Ok x) list → x ≡ list
    same x e = cc

    by_end : (ts : List Placed) (r : Result TextEnd LexFault) → AreWordTokens ts
        → Answers (lex_answer ts r) list → AreWordTokens list.tokens
    by_end ts (Ok end) h e = subst (λ (x : Tokens). AreWordTokens x.tokens)
        (same (record { tokens = ts; last = end.line; size = end.size }) e) h
    by_end ts (Err fault) h e = absurd (err_ok fault e)

    by_count : (b : Bool) (c : Cut) → AreWordTokens c.tokens
        → Answers (if b then Err TooLong else lex_answer c.tokens c.ending) list
        → AreWordTokens list.tokens
    by_count true c h e = absurd (err_ok TooLong e)
    by_count false c h e = by_end c.tokens c.ending h e

    by_bytes : (b : Bool) → Answers (if b then Err TooLong else limited (cut text)) list
        → AreWordTokens list.tokens
    by_bytes true e = absurd (err_ok TooLong e)
    by_bytes false e = by_count (nat_lt 16384 (length (cut text).tokens)) (cut text)
        (cut_words 0 text_start text) e

left_in_range : (text : List ℕ) (list : Tokens) → LeavesTokens text list → AreInRange list.tokens
left_in_range text list is = left is.all list (answer_words text is.all is.cut) is.left

pub left_few : (text : List ℕ) (list : Tokens) → LeavesTokens text list → length list.tokens ≤ 16384
left_few text list is = (left_in_range text list is).few

-- the number at a place
pub left_word : (text : List ℕ) (list : Tokens) → LeavesTokens text list → (i : ℕ)
    → IsWord (value_at list.tokens i)
left_word text list is i = value_word list.tokens i (left_in_range text list is).words
