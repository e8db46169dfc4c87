use Rattle.std.proofs.Common.{◌∙◌, sym}
use Rattle.interpreter.proofs.Ends.{found-last, found-others}
use Rattle.interpreter.proofs.locals.+place_in.Goals as goal

pub returns-then-eq : goal.returns-then-eq
returns-then-eq t c =
    found-last c.args.name.now c.args.all.now c.in-Some.others.now c.in-Some.entry.now
    c.in-Some.ensures.cases.0 (sym c.eq.ensures ∙ c.if-eq.true)

pub returns-else-eq : goal.returns-else-eq
returns-else-eq t c =
    found-others c.args.name.now c.args.all.now c.in-Some.others.now c.in-Some.entry.now
    c.place_in.result c.in-Some.ensures.cases.0 (sym c.eq.ensures ∙ c.if-eq.false)
    c.place_in.ensures
