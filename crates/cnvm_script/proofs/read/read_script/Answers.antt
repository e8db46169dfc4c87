use Rattle.std.proofs.Common.{◌∙◌, arith}
use Rattle.cnvm_script.proofs.Scripts.{after_step}
use Rattle.cnvm_script.proofs.read.read_script.Goals as goal

pub lines-preserved : goal.lines-preserved
lines-preserved c = (
  omega arith,
  after_step c.lines.script c.lines.number c.lines.rest.now c.next_line.result.0.now
      c.next_line.result.1.now c.in-Ok.read c.add.new.script
      c.next_line.ensures.lines c.in-Ok.ensures c.in_ok-add.ensures
      ∙ c.lines.invariant.1,
)
