use Rattle.std.proofs.Common.{sym, refl}
use borrow.Author.Tests.{ltb-true}
use Rattle.c_types.proofs.Gathered.{slice_get_functions, slice_get_at}
use Rattle.code_print.proofs.functions.function_at.Goals as goal

pub returns-in-Some : goal.returns-in-Some
returns-in-Some c =
    let here = slice_get_at c.args.functions.now c.args.number c.in-Some.function.now
    (ltb-true _ _ (sym c.in-Some.ensures.lookup.0)) c.in-Some.ensures.lookup.1 in
    rw (slice_get_functions, here) refl
