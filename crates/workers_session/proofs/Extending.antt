-- Lines that are put at the end of others.
use Rattle.std.proofs.Common.{List, [], ◌++◌, Option, Some, None, append_assoc, append-nil}
use Rattle.workers_session.specs.declared.line.WorkersLine.{WorkersLine}
use Rattle.workers_session.specs.inside.Turning.{Extends}

pub extends_nothing : (told : Option (List WorkersLine)) → Extends told told []
extends_nothing None = tt
extends_nothing (Some lines) = simp append-nil

pub extends_more : (a b c : Option (List WorkersLine)) (xs ys : List WorkersLine) →
    Extends a b xs → Extends b c ys → Extends a c (xs ++ ys)
extends_more a b None xs ys p q = tt
extends_more a None (Some m) xs ys p q = absurd q
extends_more None (Some l) (Some m) xs ys p q = absurd p
extends_more (Some k) (Some l) (Some m) xs ys p q = rw (q, p) (append_assoc k xs ys)
