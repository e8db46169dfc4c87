use Rattle.std.proofs.Common.{arith}
use Rattle.recovery.proofs.recovering.recover_with.Goals as goal

pub returns-in-Sealed-clause-most : goal.returns-in-Sealed-clause-most
returns-in-Sealed-clause-most g c =
    let few = (c.look.ensures.names c.in-Sealed.tx c.in-Sealed.count c.in-Sealed.args
    c.in-Sealed.is).2 in
    let most = c.redo.ensures.most in
    omega arith
