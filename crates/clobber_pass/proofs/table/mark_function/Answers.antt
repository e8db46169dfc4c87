use Rattle.std.proofs.Common.{rules, ◌≡◌, length}
use Rattle.clobber_pass.specs.Sweep.{row_in}
use Rattle.clobber_pass.proofs.marked.Tabled.{no_row, unreached}
use Rattle.clobber_pass.proofs.table.mark_function.Goals as goal

pub returns-then-is_empty-clause-marked : goal.returns-then-is_empty-clause-marked
returns-then-is_empty-clause-marked c =
    let empty : length (row_in c.args.flow.now.entries c.args.function) ≡ 0 = search rules in
    let none = no_row (row_in c.args.flow.now.entries c.args.function) empty in
    unreached c.args.ir.now c.requires.well c.args.topic c.args.exits.now c.requires.exits
    c.requires.ended c.args.flow.now.entries c.requires.entries c.requires.start
    c.args.flow.now.tables c.requires.flow c.args.function none c.args.table.now
