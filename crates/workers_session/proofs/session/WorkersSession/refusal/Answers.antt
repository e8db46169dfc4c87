use Rattle.std.proofs.Common.{refl}
use Rattle.pool_workers.proofs.Rooms.{compartment_within}
use Rattle.workers_session.proofs.session.WorkersSession.refusal.Goals as goal

pub standing_of-requires-clause-inside : goal.standing_of-requires-clause-inside
standing_of-requires-clause-inside g c =
    compartment_within c.args.image.now.parts.sizes c.args.worker _
    (g.P.PmemWork.device c.args.dev.now).lines (c.in_default.ensures.known refl)
    c.requires.sound.lines
