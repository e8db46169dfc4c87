use Rattle.std.proofs.Common.{rules, ◌≡◌, ◌<◌, ◌+◌, subst, Some, slice_get, length, refl}
use Rattle.std.proofs.lemmas.Option.{slice_get_read}
use Rattle.clobber_pass.specs.inside.Carrying.{Led}
use Rattle.clobber_pass.proofs.derived.Carrying.{leads_on, passes_on}
use Rattle.clobber_pass.proofs.carry.carry_word.Goals as goal

pub returns-in_ok-pass-clause-carries : goal.returns-in_ok-pass-clause-carries
returns-in_ok-pass-clause-carries c =
    let code = c.args.code.now in
    let i = c.in-Some.instruction.now in
    let g = c.args.grown in
    let there : slice_get code g.place ≡ Some i = slice_get_read code (length code) g.place i refl
    c.in-Some.ensures.lookup.3.0 c.in-Some.ensures.lookup.1 in
    let inside : g.place + 1 < length code = search rules in
    let leading = subst (λ o. Led o g c.args.rows.now c.lead_on.new.rows c.args.growth.now
    c.lead_on.new.growth) c.target.ensures c.in_ok-lead_on.ensures.led in
    passes_on c.args.topic c.args.exits.now code (length c.args.row.now) g i there c.args.rows.now
    c.lead_on.new.rows c.args.growth.now c.lead_on.new.growth leading c.pass.new.rows
    c.pass.new.growth inside c.in_ok-pass.ensures.carries

pub returns-else-grown-code-clause-carries : goal.returns-else-grown-code-clause-carries
returns-else-grown-code-clause-carries c =
    let code = c.args.code.now in
    let i = c.in-Some.instruction.now in
    let g = c.args.grown in
    let there : slice_get code g.place ≡ Some i = slice_get_read code (length code) g.place i refl
    c.in-Some.ensures.lookup.3.0 c.in-Some.ensures.lookup.1 in
    let leading = subst (λ o. Led o g c.args.rows.now c.lead_on.new.rows c.args.growth.now
    c.lead_on.new.growth) c.target.ensures c.in_ok-lead_on.ensures.led in
    leads_on c.args.topic c.args.exits.now code (length c.args.row.now) g i there c.args.rows.now
    c.lead_on.new.rows c.args.growth.now c.lead_on.new.growth leading
