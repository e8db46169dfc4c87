use Rattle.std.proofs.Common.{sym, ◌∙◌}
use Rattle.c_types.specs.Views.{tables_in}
use Rattle.c_types.proofs.Rounds.{call_stores}
use Rattle.c_types.proofs.looking.+storing_values.Goals as goal

pub exp_stores-returns-else-is_known : goal.exp_stores-returns-else-is_known
exp_stores-returns-else-is_known t c =
    call_stores (tables_in c.args.program.now) c.args.known.now c.args.expr.now c.in-Call.name
    c.in-Call.arguments c.arguments_store.result c.deref.result.now c.in-Call.is
    (sym c.is_known.ensures ∙ c.if-is_known.false) c.arguments_store.ensures c.deref.ensures.value
