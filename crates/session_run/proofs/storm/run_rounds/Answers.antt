use Rattle.std.proofs.Common.{◌-◌, ◌+◌, List, Some, ap, ◌∙◌, arith, rules}
use Rattle.cnvm_script.specs.declared.command.Command.{Command}
use Rattle.session_run.proofs.Raging.{rounds_more, rounds_part_more}
use Rattle.session_run.proofs.storm.run_rounds.Goals as goal

pub loop-round-preserved : goal.loop-round-preserved
loop-round-preserved g c =
    let less = c.loop-round-test.true in record {
      lines = search rules;
      same = search rules;
      leads = λ t m d k rest. c.loop-round.invariant.leads t m d k
          (rounds_more c.args.program.now c.args.order.reach c.loop-round.storm c.round.new.self
          (c.args.order.count - c.loop-round.round)
          (c.args.order.count - (c.loop-round.round + 1))
          c.as_slice.result.now _ _ t _ _ m _ _ d _ _ k (omega arith)
          (ap (λ (l : List Command). Some l) c.as_slice.ensures ∙ c.in_ok-script.ensures.commands)
          c.in_ok-script.ensures.state
          c.run_round.ensures.counts rest);
      part = λ d k rest. c.loop-round.invariant.part d k
          (rounds_part_more c.args.program.now c.args.order.reach c.loop-round.storm
          c.round.new.self
          (c.args.order.count - c.loop-round.round)
          (c.args.order.count - (c.loop-round.round + 1))
          c.as_slice.result.now _ _ _ _ _ _ d _ _ k (omega arith)
          (ap (λ (l : List Command). Some l) c.as_slice.ensures ∙ c.in_ok-script.ensures.commands)
          c.in_ok-script.ensures.state
          c.run_round.ensures.counts rest);
    }
