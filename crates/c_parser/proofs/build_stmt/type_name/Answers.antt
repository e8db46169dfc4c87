use Rattle.std.proofs.Common.{◌≢◌, refl, rules}
use Rattle.c_tree.specs.declared.kind.Kind.TheVariants as kind
use Rattle.c_tree.specs.Kinds.{kind_at}
use Rattle.c_parser.proofs.FixesStmt.{typed_int}
use Rattle.c_parser.proofs.build_stmt.type_name.Goals as goal

pub returns-clause-fixes : goal.returns-clause-fixes
returns-clause-fixes c =
    let not : kind_at c.args.tokens.now.tokens c.args.at ≢ kind.Struct = search rules in
    typed_int _ _ _ _ _ not c.place_after-next.ensures.moves c.int_at.ensures refl
