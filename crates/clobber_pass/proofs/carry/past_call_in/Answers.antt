use Rattle.std.proofs.Common.{rules, ◌<◌, length}
use Rattle.std.proofs.lemmas.Result.{IfOk-weaker}
use Rattle.clobber_pass.specs.inside.Sweep.{exits_of}
use Rattle.clobber_pass.proofs.derived.Carrying.{call_carries}
use Rattle.clobber_pass.proofs.carry.past_call_in.Goals as goal

pub returns-clause-carries : goal.returns-clause-carries
returns-clause-carries c =
    let inside : c.args.slot < length c.args.row.now = search rules in
    IfOk-weaker c.arrive.result _ _ (λ done a.
    call_carries c.args.next c.args.slot c.slot_after-word.result
    (exits_of c.args.exits.now c.args.function) c.args.to c.args.args.now c.args.row.now
    c.args.rows.now c.arrive.new.rows c.args.growth.now c.arrive.new.growth inside
    c.slot_after-word.ensures a) c.arrive.ensures.arrived
