use Rattle.std.proofs.Common.{◌∙◌, ◌++◌, ap}
use Rattle.clobber_pass.specs.inside.Carrying.{grown_from}
use Rattle.clobber_pass.proofs.derived.Carrying.{row_carrying}
use Rattle.clobber_pass.proofs.carry.carry_row.Goals as goal

pub carry_growth-requires : goal.carry_growth-requires
carry_growth-requires c = row_carrying c.args.topic c.args.exits.now c.args.entry.now
    c.args.code.now c.args.rows.now c.args.place c.push_row.new.self c.requires
    (c.in_ok-push_row.ensures
    ∙ ap (λ gs. gs ++ grown_from c.args.place 0 c.row.result.now) c.new-growth.ensures
    ∙ ap (grown_from c.args.place 0) c.row.ensures)
