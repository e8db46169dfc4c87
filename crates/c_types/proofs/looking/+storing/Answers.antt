use Rattle.c_types.specs.Views.{tables_in}
use Rattle.c_types.proofs.Rounds.{block_stores}
use Rattle.c_types.proofs.looking.+storing.Goals as goal

pub statement_stores-returns-in-Block : goal.statement_stores-returns-in-Block
statement_stores-returns-in-Block t c =
    block_stores (tables_in c.args.program.now) c.args.known.now c.args.stmt.now c.in-Block.all
    c.statements_store.result c.deref.result.now c.in-Block.is c.statements_store.ensures
    c.deref.ensures.value
