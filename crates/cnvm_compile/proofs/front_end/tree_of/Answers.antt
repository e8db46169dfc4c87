use Rattle.std.proofs.Common.{refl, sym, subst}
use Rattle.cnvm_compile.specs.inside.FrontEnd.{RefusesList}
use Rattle.cnvm_compile.proofs.Refusing.{deep_within}
use Rattle.cnvm_compile.proofs.front_end.tree_of.Goals as goal

pub refused_at-requires-in-Err-TooDeep : goal.refused_at-requires-in-Err-TooDeep
refused_at-requires-in-Err-TooDeep c =
    deep_within _ _ (c.in-Err-TooDeep.ensures.deep c.in-Err-TooDeep.place
    c.in-Err-TooDeep.field-0-is)

pub returns-in-Err-Syntax-clause-err : goal.returns-in-Err-Syntax-clause-err
returns-in-Err-Syntax-clause-err c =
    subst (RefusesList c.args.list.now) (sym c.refused_at.ensures) (
      c.in-Err-Syntax.ensures.none c.in-Err-Syntax.place c.in-Err-Syntax.field-0-is,
      c.in-Err-Syntax.ensures.some c.in-Err-Syntax.place c.in-Err-Syntax.field-0-is,
      refl,
    )
