use Rattle.std.proofs.Common.{◌∙◌, ap, refl}
use Rattle.pmem.specs.Device.{Device}
use Rattle.pool_workers.proofs.Rooms.{compartment_within}
use Rattle.workers_session.proofs.session.WorkersSession.show.Goals as goal

pub text_of-requires-clause-inside : goal.text_of-requires-clause-inside
text_of-requires-clause-inside g c =
    compartment_within c.args.program.now.image.parts.sizes c.args.worker _
    (g.P.PmemWork.device c.refusal.new.dev).lines (c.in_default.ensures.known refl)
    (ap (λ (d : Device). d.lines) c.refusal.ensures.same ∙ c.requires.sound.lines)
