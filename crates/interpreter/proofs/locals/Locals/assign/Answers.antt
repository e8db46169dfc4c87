use Rattle.std.proofs.Common.{◌∙◌, sym, ap, Some}
use Rattle.std.specs.Prelude.{FitsSigned}
use Rattle.std.specs.Int.{w64}
use Rattle.std.proofs.lemmas.Int.{to_z-of_z}
use Rattle.c_meaning.specs.Locals.{scopes_of}
use Rattle.interpreter.specs.inside.Entries.{seen_locals, Found}
use Rattle.interpreter.proofs.Ends.{scopes_of-assigned}
use Rattle.interpreter.proofs.locals.Locals.assign.Goals as goal

pub invariant_of-self : goal.invariant_of-self
invariant_of-self c =
    let found : Found c.args.name.now c.self.inside.all.items (Some c.in-Some.at) =
    rw (c.deref.ensures.value, c.in-Some.is) at c.place_in.ensures in
    let fits : FitsSigned w64 c.args.value = c.ranges.value in
    let set = simp to_z-of_z at c.set_in.ensures in
    c.self.invariant ∙ sym (ap (λ es. scopes_of (seen_locals es)) set
    ∙ ap scopes_of (found.1 c.args.value)
    ∙ scopes_of-assigned c.args.name.now c.args.value (seen_locals c.self.inside.all.items))
