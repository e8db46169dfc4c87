use Rattle.std.proofs.Common.{◌≢◌, rules}
use Rattle.c_tree.specs.declared.stmt.AssignOp.TheVariants as assign
use Rattle.c_tree.specs.declared.kind.Kind.TheVariants as kind
use Rattle.c_tree.specs.Kinds.{kind_at}
use Rattle.c_parser.proofs.FixesStmt.{declares_plain}
use Rattle.c_parser.proofs.build_stmt.declaration.Goals as goal

pub returns-clause-fixes : goal.returns-clause-fixes
returns-clause-fixes c =
    let not : kind_at c.args.tokens.now.tokens c.place_after-next.result ≢ kind.Assign assign.Set =
    search rules in
    declares_plain _ _ _ _ _ _ c.in_ok-ty.ensures.fixes c.in_ok-name.ensures
    c.place_after-next.ensures.moves not
