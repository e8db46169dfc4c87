use Rattle.pool_layout.proofs.Early.{early_refuses}
use Rattle.pool_layout.proofs.read.read_image.Goals as goal

pub returns-in-Some-clause-refused : goal.returns-in-Some-clause-refused
returns-in-Some-clause-refused c =
    early_refuses c.args.wanted.now c.args.bytes c.in-Some.fault (cc)
