use Rattle.std.proofs.Common.{length}
use Rattle.c_parser.proofs.want.Wants.+put.Given as goal

abbrev pub decreases-put : goal.decreases-put
decreases-put l = length l.more.now
