use Rattle.std.proofs.Common.{refl, ◌∙◌, ◌++◌, ◌<◌, sym, ap, ◌+◌, ◌-◌, subst}
use Rattle.clobber_pass.specs.inside.Told.{row_width}
use Rattle.clobber_pass.specs.inside.Flow.{enter_from, enter_row}
use Rattle.clobber_pass.proofs.bits.Views.{pushed, enter_next}
use Rattle.clobber_pass.proofs.flow.enter_row.Goals as goal

pub loop-slot-preserved : goal.loop-slot-preserved
loop-slot-preserved c =
    let w = row_width c.args.topic c.args.registers in
    let args = c.args.args.now in
    let row = c.args.row.now in
    let slot = c.loop-slot.slot in
    let less : slot < w = subst (λ m. slot < m) c.width-slot-end.ensures c.loop-slot-test.true in
    pushed c.push.new.self.items c.loop-slot.new.items
    (enter_from args row (slot + 1) (w - (slot + 1)))
    (enter_row c.args.topic c.args.registers args row) c.enter_word.result
    (c.in_ok-push.ensures.items ∙ rw c.enter_word.ensures refl)
    (rw c.enter_word.ensures (ap (λ t. c.loop-slot.new.items ++ t)
    (sym (enter_next args row slot w less)) ∙ c.loop-slot.invariant))
