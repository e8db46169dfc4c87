-- The tree of a node that holds a list, and of a list with one more element.
use Rattle.std.proofs.Common.{◌≡◌, List, [], ◌∷◌, ◌++◌, refl, ap, ◌∙◌, Vec, Global}
use Rattle.c_tree.specs.declared.expr.Name.{Name}
use Rattle.c_tree.specs.declared.expr.Argument.{Argument}
use Rattle.c_tree.specs.declared.expr.Expr.{Row_of-Argument, end_of-Argument, more_of-Argument}
use Rattle.c_tree.specs.declared.expr.Expr.TheBlock.{items-the_row-Argument}
use Rattle.c_tree.specs.declared.expr.Expr.TheBlock.{hidden-the_row-Argument-0}
use Rattle.c_tree.specs.declared.expr.Expr.TheBlock.{items_hidden-the_row-Argument-0}
use Rattle.c_tree.specs.declared.expr.Expr.TheVariants as expr
use Rattle.c_tree.specs.declared.stmt.Stmt.{Stmt, Row_of-Stmt, end_of-Stmt, more_of-Stmt}
use Rattle.c_tree.specs.declared.stmt.Stmt.TheBlock.{items-the_row-Stmt, hidden-the_row-Stmt-0}
use Rattle.c_tree.specs.declared.stmt.Stmt.TheBlock.{items_hidden-the_row-Stmt-0}
use Rattle.c_tree.specs.declared.stmt.Stmt.TheVariants as stmt
use Rattle.c_tree.specs.ExprTree.{Arguments, None, More, Call, ident_of, expr_of, arguments_of}
use Rattle.c_tree.specs.ExprTree.{arguments_in}
use Rattle.c_tree.specs.inside.ExprTree.{followed_by}
use Rattle.c_tree.specs.StmtTree.{Statements, Nothing, Then, Block, stmt_of, statements_of}
use Rattle.c_tree.specs.StmtTree.{statements_in}
use Rattle.c_tree.specs.inside.StmtTree.{statements_then}

pub argument_row : {m : _} (r : Row_of-Argument m)
    → arguments_of r ≡ arguments_in (items-the_row-Argument m r)
argument_row end_of-Argument = refl
argument_row (more_of-Argument first value rest) =
    ap (More first (expr_of value)) (argument_row rest)

pub expr_of-Call : (name : Name) (all : Vec Argument Global)
    → expr_of (expr.Call name all) ≡ Call (ident_of name) (arguments_in all.items)
expr_of-Call name all =
    ap (Call (ident_of name)) (argument_row (hidden-the_row-Argument-0 all)
    ∙ ap arguments_in (items_hidden-the_row-Argument-0 all))

pub followed_by-one_more : (xs : List Argument) (x : Argument) (es : Arguments)
    → followed_by (arguments_in (xs ++ x ∷ [])) es ≡ followed_by (arguments_in xs)
    (More x.first (expr_of x.value) es)
followed_by-one_more [] x es = refl
followed_by-one_more (y ∷ ys) x es =
    ap (More y.first (expr_of y.value)) (followed_by-one_more ys x es)

pub followed_by-nothing : (es : Arguments) → followed_by es None ≡ es
followed_by-nothing None = refl
followed_by-nothing (More first value rest) = ap (More first value) (followed_by-nothing rest)

pub statement_row : {m : _} (r : Row_of-Stmt m)
    → statements_of r ≡ statements_in (items-the_row-Stmt m r)
statement_row end_of-Stmt = refl
statement_row (more_of-Stmt x rest) = ap (Then (stmt_of x)) (statement_row rest)

pub stmt_of-Block : (all : Vec Stmt Global)
    → stmt_of (stmt.Block all) ≡ Block (statements_in all.items)
stmt_of-Block all = ap Block (statement_row (hidden-the_row-Stmt-0 all)
    ∙ ap statements_in (items_hidden-the_row-Stmt-0 all))

pub and_then-one_more : (xs : List Stmt) (x : Stmt) (ss : Statements)
    → statements_then (statements_in (xs ++ x ∷ [])) ss ≡ statements_then (statements_in xs)
    (Then (stmt_of x) ss)
and_then-one_more [] x ss = refl
and_then-one_more (y ∷ ys) x ss = ap (Then (stmt_of y)) (and_then-one_more ys x ss)

pub and_then-nothing : (ss : Statements) → statements_then ss Nothing ≡ ss
and_then-nothing Nothing = refl
and_then-nothing (Then x rest) = ap (Then x) (and_then-nothing rest)
