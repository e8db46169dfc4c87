use Rattle.file_pmem.specs.Mirror.{shown}
use Rattle.file_pmem.proofs.Mirroring.{wake_mirroring, parts_mirror, file_same}
use Rattle.file_pmem.proofs.mirror.FilePmem.wake.Goals as goal

pub invariant_of-self : goal.invariant_of-self
invariant_of-self g c =
    let old = c.self.inside in
    let new = c.wake.new.self in
    let content = g.F.LineFile.content in
    wake_mirroring old.link.state new.state old.link.dirty new.dirty (shown content old.link)
    (shown content new) (g.L.Lines.memory old.lines)
    (file_same _ content old.link new c.wake.ensures.file) c.wake.ensures.clean
    (parts_mirror _ _ g.L.Lines.memory content _ _ c.self.view_is c.requires) c.self.invariant
