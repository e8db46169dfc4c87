use Rattle.std.proofs.Common.{refl, drop, length}
use Rattle.pm_machine.specs.Machine.{State}
use Rattle.pm_machine.proofs.processor.Processor.run_silently.Goals as goal

pub returns-clause-leads : goal.returns-clause-leads
returns-clause-leads g c =
    let m = c.self.inside in
    let s : State = record {
      top = m.top;
      below = m.below.frames;
      ticks = m.ticks;
      dirty = drop m.flushed m.lines.keys;
      size = length m.top.registers;
    } in
    let size = c.run_silently-to.ensures.size in
    rw (← c.self.view_is, size) (c.run_silently-to.ensures.leads s refl)

pub returns-clause-looks : goal.returns-clause-looks
returns-clause-looks g c =
    let m = c.self.inside in
    let s : State = record {
      top = m.top;
      below = m.below.frames;
      ticks = m.ticks;
      dirty = drop m.flushed m.lines.keys;
      size = length m.top.registers;
    } in
    let size = c.run_silently-to.ensures.size in
    rw (← c.self.view_is, size) (c.run_silently-to.ensures.looks s refl)
