use Rattle.std.proofs.Common.{refl, ◌∙◌, ◌++◌, sym, ap, drop, ◌+◌}
use Rattle.clobber_pass.specs.inside.Sweep.{exits_of, call_from}
use Rattle.clobber_pass.proofs.bits.Views.{pushed, call_next}
use Rattle.clobber_pass.proofs.sweep.call.Goals as goal

pub loop-slot-preserved : goal.loop-slot-preserved
loop-slot-preserved c =
    let exits = exits_of c.args.exits.now c.args.function in
    let row = c.args.row.now in
    let next = call_next exits c.args.to c.args.args.now row row c.loop-slot.slot c.loop-slot.slot
    c.loop-slot-test.true in
    pushed c.push.new.self.items c.loop-slot.new.items
    (call_from exits c.args.to c.args.args.now row (c.loop-slot.slot + 1)
    (drop (c.loop-slot.slot + 1) row)) (call_from exits c.args.to c.args.args.now row 0 row)
    c.slot_after.result (c.in_ok-push.ensures.items ∙ rw c.slot_after.ensures refl)
    (rw c.slot_after.ensures (ap (λ t. c.loop-slot.new.items ++ t) (sym next)
    ∙ c.loop-slot.invariant))
