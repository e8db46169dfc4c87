use Rattle.std.proofs.Common.{◌∙◌, ap, refl}
use Rattle.pmem.specs.Device.{Device}
use Rattle.pool_workers.proofs.Rooms.{compartment_within}
use Rattle.workers_session.proofs.session.WorkersSession.last.Goals as goal

pub last_of-done-requires-clause-inside : goal.last_of-done-requires-clause-inside
last_of-done-requires-clause-inside g c =
    compartment_within c.args.image.now.parts.sizes c.args.worker _
    (g.P.PmemWork.device c.refusal.new.dev).lines (c.in_default.ensures.known refl)
    (ap (λ (d : Device). d.lines) c.refusal.ensures.same ∙ c.requires.sound.lines)
