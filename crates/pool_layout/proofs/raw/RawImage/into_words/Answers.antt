use Rattle.pool_layout.proofs.KeptWords.{whole_kept}
use Rattle.pool_layout.proofs.raw.RawImage.into_words.Goals as goal

pub returns-clause-bytes : goal.returns-clause-bytes
returns-clause-bytes c =
    (whole_kept c.self.inside.words c.self.inside.rest c.args.self c.self.view_is c.self.invariant
    c.requires).bytes_are

pub returns-clause-whole : goal.returns-clause-whole
returns-clause-whole c =
    (whole_kept c.self.inside.words c.self.inside.rest c.args.self c.self.view_is c.self.invariant
    c.requires).whole

pub returns-clause-words : goal.returns-clause-words
returns-clause-words c =
    (whole_kept c.self.inside.words c.self.inside.rest c.args.self c.self.view_is c.self.invariant
    c.requires).words
