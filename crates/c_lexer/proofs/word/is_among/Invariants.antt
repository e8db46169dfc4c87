-- The remaining spellings give the result of the whole table.
use Rattle.std.proofs.Common.{◌≡◌, ℕ, List, drop, map}
use Rattle.std.specs.Borrow.{Bor}
use Rattle.std.specs.List.{list_any}
use Rattle.std.specs.Str.{bytes_eq}
use Rattle.c_lexer.proofs.word.is_among.Given as goal

abbrev pub invariant-loop-spelling : goal.invariant-loop-spelling
invariant-loop-spelling l =
    let any = λ (table : List (Bor (List ℕ))). list_any (λ spelling. bytes_eq l.run spelling)
    (map (λ (s : Bor (List ℕ)). s.now) table) in
    any (drop l.spelling-index l.table) ≡ any l.table
