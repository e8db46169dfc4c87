use Rattle.std.proofs.Common.{sym, subst, ◌∙◌, ◌<◌, ◌*◌}
use Rattle.file_pmem.specs.Mirror.{FileParts, shown}
use Rattle.file_pmem.proofs.Mirroring.{store_mirroring, gate_done}
use Rattle.file_pmem.proofs.mirror.FilePmemPmemWork.store.Goals as goal

pub invariant_of-self-in-Ok : goal.invariant_of-self-in-Ok
invariant_of-self-in-Ok g c =
    let old = c.self.inside in
    let going = gate_done c.has_refused.result old.switch c.gate.new.self c.in-Done.ensures in
    store_mirroring old.link.state old.link.dirty (shown g.F.LineFile.content old.link)
    (g.L.Lines.memory old.lines) (g.L.Lines.memory c.store.new.self) c.args.word _
    (subst (λ (v : FileParts _ _). c.args.word < 8 * (g.L.Lines.memory v.lines).lines)
    (sym c.self.view_is) c.requires)
    (sym c.has_refused.ensures ∙ going.1) c.in-Ok.ensures.done c.self.invariant
