use Rattle.pool_layout.proofs.Answer.{opened_moved}
use Rattle.pool_layout.proofs.read.read_first.Goals as goal

pub returns-clause-opened : goal.returns-clause-opened
returns-clause-opened c =
    opened_moved c.args.wanted.now c.args.bytes.now c.moved_words.result c.requires.accepted
    c.requires.version
    (c.moved_words.ensures)
