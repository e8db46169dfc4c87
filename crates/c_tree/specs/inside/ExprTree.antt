-- What only bodies and proofs need beside `ExprTree`.
use Rattle.std.specs.Prelude.{[], ◌∷◌}
use Rattle.c_tree.specs.declared.expr.Expr.{Row_of-Argument, end_of-Argument, more_of-Argument}
use Rattle.c_tree.specs.ExprTree.{Arguments, None, More}

-- the first list followed by the second
abbrev pub followed_by : Arguments → Arguments → Arguments
followed_by None others = others
followed_by (More first value rest) others = More first value (followed_by rest others)
