use Rattle.std.proofs.Common.{◌<◌, rules}
use Rattle.c_file.proofs.Added.{argument_added}
use Rattle.c_file.proofs.pieces.push_all.Goals as goal

pub loop-k-preserved : goal.loop-k-preserved
loop-k-preserved c =
    let low : c.loop-k.k < c.args.count = search rules in
    argument_added c.loop-k.text c.push_worded.new.text _ c.args.how c.loop-k.k c.args.count low
    c.in_ok-push_worded.ensures c.loop-k.invariant
