use Rattle.clobber_pass.proofs.Topical.{has_last, keeps_more}
use Rattle.clobber_pass.proofs.classes.add_field.Goals as goal

pub returns-clause-has : goal.returns-clause-has
returns-clause-has c = has_last c.args.fields.now c.push.new.self c.args.field
    c.in_ok-push.ensures.ok

pub returns-clause-kept : goal.returns-clause-kept
returns-clause-kept c = keeps_more c.args.fields.now c.push.new.self _ c.in_ok-push.ensures.ok
