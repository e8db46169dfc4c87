-- The remaining rows give the result of the whole table.
use Rattle.std.proofs.Common.{◌≡◌, ℕ, List, drop, map}
use Rattle.std.specs.Borrow.{Bor}
use Rattle.c_lexer.specs.declared.token.Mark.{Mark}
use Rattle.c_lexer.specs.Marks.{first_fit}
use Rattle.c_lexer.proofs.mark.first_fit.Given as goal

abbrev pub invariant-loop-spelling : goal.invariant-loop-spelling
invariant-loop-spelling l =
    let rows = λ (table : List (Bor (List ℕ) × Mark)).
    map (λ (row : Bor (List ℕ) × Mark). (row.0.now, row.1)) table in
    first_fit l.left (rows (drop l.spelling-index l.table)) ≡ first_fit l.left (rows l.table)
