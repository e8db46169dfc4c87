use Rattle.std.proofs.Common.{refl, ◌∙◌, ◌++◌, ◌<◌, sym, ap, ◌+◌, ◌-◌, subst}
use Rattle.clobber_pass.specs.inside.Told.{row_width}
use Rattle.clobber_pass.specs.inside.Closed.{entry_from, entry_row}
use Rattle.clobber_pass.proofs.bits.Views.{pushed, entry_next}
use Rattle.clobber_pass.proofs.entry.entry_row.Goals as goal

pub loop-slot-preserved : goal.loop-slot-preserved
loop-slot-preserved c =
    let w = row_width c.args.topic c.args.registers in
    let n = c.args.parameters in
    let column = c.args.column in
    let slot = c.loop-slot.slot in
    let less : slot < w = subst (λ m. slot < m) c.width-slot-end.ensures c.loop-slot-test.true in
    pushed c.push.new.self.items c.loop-slot.row.items
    (entry_from n column (slot + 1) (w - (slot + 1)))
    (entry_row c.args.topic n c.args.registers column) c.entry_word.result
    (c.in_ok-push.ensures.items ∙ rw c.entry_word.ensures refl)
    (rw c.entry_word.ensures (ap (λ t. c.loop-slot.row.items ++ t)
    (sym (entry_next n column slot w less)) ∙ c.loop-slot.invariant))
