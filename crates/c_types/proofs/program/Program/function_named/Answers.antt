use Rattle.std.proofs.Common.{sym, refl}
use borrow.Author.Tests.{ltb-true}
use Rattle.c_types.proofs.Gathered.{slice_get_functions, slice_get_at}
use Rattle.c_types.proofs.program.Program.function_named.Goals as goal

pub returns-in-Some : goal.returns-in-Some
returns-in-Some c =
    let here = slice_get_at c.deref.result.now c.in_ok-at.at c.in-Some.function.now
    (ltb-true _ _ (sym c.in-Some.ensures.lookup.0)) c.in-Some.ensures.lookup.1 in
    rw (← c.self.view_is, ← c.self.invariant.1, ← c.in_ok-at.ensures)
    (rw (slice_get_functions, ← c.deref.ensures.value, here) refl)
