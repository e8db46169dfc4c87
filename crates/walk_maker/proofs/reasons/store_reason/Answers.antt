use Rattle.std.proofs.Common.{rules, Some, None}
use Rattle.ir.specs.Clobber.{unwritten, read_fact}
use Rattle.walk_maker.specs.inside.Reasons.{WalkGiven}
use Rattle.walk_maker.proofs.Judged.{not_read, clobbered}
use Rattle.walk_maker.proofs.reasons.store_reason.Goals as goal

pub returns-in-None-2 : goal.returns-in-None-2
returns-in-None-2 c =
    let w : WalkGiven c.args.ir.now c.args.site (unwritten c.args.target) c.args.passed.now
    c.walk_to.new.passed (Some c.in-Some.unwrites) = search rules in
    let g : WalkGiven c.args.ir.now c.args.site (read_fact c.args.target) c.walk_to.new.passed
    c.walk_to-in-Some.new.passed None = search rules in
    not_read c.args.ir.now c.requires.well c.args.site c.args.target c.requires.store w g

pub returns-in-Some-2 : goal.returns-in-Some-2
returns-in-Some-2 c =
    let w : WalkGiven c.args.ir.now c.args.site (unwritten c.args.target) c.args.passed.now
    c.walk_to.new.passed (Some c.in-Some.unwrites) = search rules in
    let g : WalkGiven c.args.ir.now c.args.site (read_fact c.args.target) c.walk_to.new.passed
    c.walk_to-in-Some.new.passed (Some c.in-Some-2.reads) = search rules in
    clobbered c.args.ir.now c.requires.well c.args.site c.args.target c.requires.store w g
