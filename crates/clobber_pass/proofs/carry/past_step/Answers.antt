use Rattle.std.proofs.Common.{◌≡◌, ◌∙◌, ◌+◌, sym, ap, length, slice_set}
use Rattle.std.proofs.lemmas.Result.{IfOk-weaker}
use Rattle.clobber_pass.specs.inside.Row.{after_row}
use Rattle.clobber_pass.specs.inside.Closed.{one_word_row}
use Rattle.clobber_pass.proofs.derived.Carrying.{step_carries, step_blank}
use Rattle.clobber_pass.proofs.carry.past_step.Goals as goal

pub returns-clause-carries : goal.returns-clause-carries
returns-clause-carries c =
    let s = c.args.grown.slot in
    let w = c.args.grown.word in
    let row = after_row c.args.topic c.args.instruction.now
    (one_word_row (length c.args.row.now) s w) in
    let row_is : c.step.new.row ≡ row = c.step.ensures
    ∙ ap (after_row c.args.topic c.args.instruction.now)
    (c.put.ensures ∙ ap (λ r. slice_set r s w) c.requires.blank) in
    IfOk-weaker c.hand_on-3.result _ _ (λ done on.
    step_carries (c.args.grown.place + 1) row c.step.new.row c.hand_on.new.row c.hand_on-2.new.row
    s 1 c.args.rows.now c.hand_on.new.rows c.hand_on-2.new.rows c.hand_on-3.new.rows
    c.args.growth.now c.hand_on.new.growth c.hand_on-2.new.growth c.hand_on-3.new.growth row_is
    c.in_ok-hand_on.ensures.row c.in_ok-hand_on-2.ensures.row c.in_ok-hand_on.ensures.carries
    c.in_ok-hand_on-2.ensures.carries on) c.hand_on-3.ensures.carries

pub returns-clause-blank : goal.returns-clause-blank
returns-clause-blank c =
    let s = c.args.grown.slot in
    let w = c.args.grown.word in
    let n = length c.args.row.now in
    let row_is : c.step.new.row ≡ after_row c.args.topic c.args.instruction.now
    (one_word_row n s w) =
    c.step.ensures ∙ ap (after_row c.args.topic c.args.instruction.now)
    (c.put.ensures ∙ ap (λ r. slice_set r s w) c.requires.blank) in
    IfOk-weaker c.hand_on-3.result _ _ (λ done is.
    step_blank c.args.topic c.args.instruction.now n s w c.result_slot.result c.step.new.row
    c.hand_on.new.row c.hand_on-2.new.row c.hand_on-3.new.row row_is c.in_ok-hand_on.ensures.row
    c.in_ok-hand_on-2.ensures.row c.result_slot.ensures is ∙ sym c.requires.blank)
    c.hand_on-3.ensures.row
