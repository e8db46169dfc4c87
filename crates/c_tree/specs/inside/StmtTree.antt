-- What only bodies and proofs need beside `StmtTree`.
use Rattle.std.specs.Prelude.{[], ◌∷◌}
use Rattle.c_tree.specs.declared.stmt.Stmt.{Row_of-Stmt, end_of-Stmt, more_of-Stmt, Held-Stmt-If-2}
use Rattle.c_tree.specs.StmtTree.{Statements, Nothing, Then}

-- the first list followed by the second
abbrev pub statements_then : Statements → Statements → Statements
statements_then Nothing others = others
statements_then (Then x xs) others = Then x (statements_then xs others)
