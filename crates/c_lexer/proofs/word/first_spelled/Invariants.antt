-- The remaining rows give the result of the whole table.
use Rattle.std.proofs.Common.{◌≡◌, ℕ, List, drop, map}
use Rattle.std.specs.Borrow.{Bor}
use Rattle.c_lexer.specs.declared.token.Word.{Word}
use Rattle.c_lexer.specs.Words.{beside}
use Rattle.c_lexer.proofs.word.first_spelled.Given as goal

abbrev pub invariant-loop-spelling : goal.invariant-loop-spelling
invariant-loop-spelling l =
    let rows = λ (table : List (Bor (List ℕ) × Word)).
    map (λ (row : Bor (List ℕ) × Word). (row.0.now, row.1)) table in
    beside l.run (rows (drop l.spelling-index l.table)) ≡ beside l.run (rows l.table)
