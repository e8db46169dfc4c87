use Rattle.std.proofs.Common.{rules, ◌∙◌, List, subst}
use Rattle.std.specs.Io.KnownBytes.{Appends}
use Rattle.workers_session.specs.declared.line.WorkersLine.{WorkersLine}
use Rattle.workers_run.specs.WorkersRan.{lines_text}
use Rattle.workers_run.specs.WorkersHeld.{EndsAt}
use Rattle.workers_run.proofs.WorkersRuns.{part_none, runs_more, breaks_more, breaks_here}
use Rattle.workers_run.proofs.WorkersHolding.{some_more, broken_here}
use Rattle.workers_run.proofs.held.answer_held.Goals as goal

pub returns-in_default-clause-broken : goal.returns-in_default-clause-broken
returns-in_default-clause-broken g c =
    let does = c.in_default.ensures.does in
    c.loop-given.invariant.part _ _
    (breaks_here c.args.program.now c.args.commands.now c.loop-given.given-index
    c.given-item.result c.loop-given-test.true c.given-item.is _ does.0 _ does.2 _ _
    (part_none _ (lines_text does.0)))

pub returns-in-Err-clause-broken : goal.returns-in-Err-clause-broken
returns-in-Err-clause-broken g c =
    let does = c.in-Some.ensures.does in
    let written = g.K.Sink.written in
    broken_here c.args.program.now c.args.commands.now c.loop-given.given-index
    c.given-item.result c.loop-given-test.true c.given-item.is _ does.0 _ does.2 _ c.in-Err.why _ _
    _ _ c.loop-given.invariant.part c.loop-given.invariant.some
    (subst
    (λ (l : List WorkersLine). EndsAt c.in-Err.why c.command.new.dev.link.state
    (written c.loop-given.out) (written c.put_kept.new.out) (lines_text l))
    (c.as_slice-in-loop-given.ensures ∙ does.1) c.in-Err.ensures.broken)

pub loop-given-preserved : goal.loop-given-preserved
loop-given-preserved g c =
    let does = c.in-Some.ensures.does in
    let written = g.K.Sink.written in
    let told = subst
    (λ (l : List WorkersLine).
    Appends (written c.loop-given.out) (written c.put_kept.new.out) (lines_text l))
    (c.as_slice-in-loop-given.ensures ∙ does.1) c.in_default-put_kept.ensures.whole in record {
      sound = c.in-Some.ensures.sound;
      awake = c.in_default-put_kept.ensures.kept;
      count = search rules;
      all = λ y w rest. c.loop-given.invariant.all y w
          (runs_more c.args.program.now c.args.commands.now c.loop-given.given-index
          c.given-item.result c.loop-given-test.true c.given-item.is _ does.0 _ does.2 _ y _ w
          told rest);
      part = λ y w rest. c.loop-given.invariant.part y w
          (breaks_more c.args.program.now c.args.commands.now c.loop-given.given-index
          c.given-item.result c.loop-given-test.true c.given-item.is _ does.0 _ does.2 _ y _ w
          told rest);
      some = λ y w rest. c.loop-given.invariant.some y w
          (some_more c.args.program.now c.args.commands.now c.loop-given.given-index
          c.given-item.result c.loop-given-test.true c.given-item.is _ does.0 _ does.2 _ y _ w
          told rest);
    }
