use Rattle.pool_layout.proofs.Answer.{opened_read}
use Rattle.pool_layout.proofs.read.read_second.Goals as goal

pub returns-clause-opened : goal.returns-clause-opened
returns-clause-opened c =
    opened_read c.args.wanted.now c.args.bytes c.into_words.result c.requires.accepted
    c.requires.version c.requires.whole c.into_words.ensures.whole c.into_words.ensures.words
