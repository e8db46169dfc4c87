-- What only bodies and proofs need beside `Statements`.
use Rattle.std.specs.Prelude.{List, [], ◌∷◌, ◌++◌}
use Rattle.c_tree.specs.StmtTree as stmt
use Rattle.c_tree.specs.StmtTree.{Statements}
use Rattle.c_types.specs.Tables.{Tables}
use Rattle.c_types.specs.Expressions.{Scope}
use Rattle.c_types.specs.Statements.{scopes_after}

abbrev pub scopes_after_all : Tables → Statements → List Scope → List Scope
scopes_after_all t stmt.Nothing s = s
scopes_after_all t (stmt.Then x xs) s = scopes_after_all t xs (scopes_after t x s)
