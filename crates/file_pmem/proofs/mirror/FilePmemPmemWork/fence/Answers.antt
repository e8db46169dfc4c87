use Rattle.std.proofs.Common.{refl, sym, ◌∙◌}
use Rattle.file_pmem.specs.Mirror.{shown}
use Rattle.file_pmem.proofs.Mirroring.{fence_done, fence_refused, gate_done}
use Rattle.file_pmem.proofs.mirror.FilePmemPmemWork.fence.Goals as goal

pub invariant_of-self : goal.invariant_of-self
invariant_of-self g c =
    let old = c.self.inside in
    let new = c.sync_if.new.link in
    let going = gate_done c.has_refused.result old.switch c.gate.new.self c.in-Done.ensures in
    fence_done old.switch.on old.link.state new.state old.link.dirty new.dirty
    (shown g.F.LineFile.content old.link) (shown g.F.LineFile.content new)
    (g.L.Lines.memory old.lines) (g.L.Lines.memory c.fence.new.self) c.sync_if.ensures.done
    going.0 (sym c.has_refused.ensures ∙ going.1) c.sync_if.ensures.fresh
    c.sync_if.ensures.clean c.fence.ensures c.self.invariant

pub invariant_of-self-in-Off : goal.invariant_of-self-in-Off
invariant_of-self-in-Off g c =
    let old = c.self.inside in
    let new = c.sync_if.new.link in
    let m = g.L.Lines.memory old.lines in
    fence_refused old.link.state new.state old.link.dirty new.dirty
    (shown g.F.LineFile.content old.link) (shown g.F.LineFile.content new) m m
    c.sync_if.ensures.failed c.sync_if.ensures.fresh c.sync_if.ensures.same
    c.sync_if.ensures.clean refl c.self.invariant

pub invariant_of-self-in-Failed : goal.invariant_of-self-in-Failed
invariant_of-self-in-Failed g c =
    let old = c.self.inside in
    let new = c.sync_if.new.link in
    let m = g.L.Lines.memory old.lines in
    fence_refused old.link.state new.state old.link.dirty new.dirty
    (shown g.F.LineFile.content old.link) (shown g.F.LineFile.content new) m m
    c.sync_if.ensures.failed c.sync_if.ensures.fresh c.sync_if.ensures.same
    c.sync_if.ensures.clean refl c.self.invariant
