-- The lines of a list of tokens, one by one.
use Rattle.std.proofs.Common.{ℕ, zero, suc, ◌+◌, ◌≡◌, ◌<◌, List, [], ◌∷◌, ◌++◌, length, map, drop}
use Rattle.std.proofs.Common.{slice_get, sym, ap, ◌∙◌, refl, arith, add-one}
use Rattle.std.specs.Option.{option_map_or}
use Rattle.std.proofs.lemmas.Option.{slice_get_past}
use Rattle.c_lexer.specs.declared.token.Placed.{Placed}

append_one : (ls rest : List ℕ) (n : ℕ) → (ls ++ n ∷ []) ++ rest ≡ ls ++ n ∷ rest
append_one [] rest n = refl
append_one (x ∷ xs) rest n = ap (λ l. x ∷ l) (append_one xs rest n)

line_drop : (ts : List Placed) (i n d : ℕ) → i < length ts
    → n ≡ option_map_or (λ placed. placed.line) (slice_get ts i) d
    → map (λ placed. placed.line) (drop i ts) ≡ n ∷ map (λ placed. placed.line) (drop (suc i) ts)
line_drop [] i n d inside e = absurd (omega (arith, inside))
line_drop (x ∷ xs) zero n d inside e = ap (λ n. n ∷ map (λ placed. placed.line) xs) (sym e)
line_drop (x ∷ xs) (suc i) n d inside e = line_drop xs i n d (omega (arith, inside)) e

pub lines_more : (ls : List ℕ) (ts : List Placed) (i n d : ℕ) → i < length ts
    → n ≡ option_map_or (λ placed. placed.line) (slice_get ts i) d
    → (ls ++ n ∷ []) ++ map (λ placed. placed.line) (drop (i + 1) ts) ≡ ls
    ++ map (λ placed. placed.line) (drop i ts)
lines_more ls ts i n d inside e =
    append_one ls (map (λ placed. placed.line) (drop (i + 1) ts)) n
    ∙ ap (λ j. ls ++ n ∷ map (λ placed. placed.line) (drop j ts)) (add-one i)
    ∙ sym (ap (λ r. ls ++ r) (line_drop ts i n d inside e))

pub ruleset lines = (lines_more, slice_get_past)
