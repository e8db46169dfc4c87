use Rattle.std.proofs.Common.{◌-◌, ◌^◌, arith, rules}
use Rattle.session_serve.specs.Left.{left_of}
use Rattle.session_serve.proofs.LineByLine.{served_end, one_more, given_end}
use Rattle.session_serve.proofs.serving.serve.Goals as goal

pub returns-in-Some-clause-served : goal.returns-in-Some-clause-served
returns-in-Some-clause-served g c =
    let before = c.loop-count.invariant.served in
    let left = g.S.Source.left in
    served_end c.args.program.now (left c.args.source.now)
    (left_of left c.loop-count.reader c.loop-count.source) before.0
    _ _ _ _ _ _ _ _ _ _ _ _ before.2 before.3 c.serve_next.new.reader.ahead.items
    (left c.serve_next.new.source) c.in-Some.end (search rules) (search rules)
    c.in-Some.ensures.next

pub returns-then-not-stands-clause-served : goal.returns-then-not-stands-clause-served
returns-then-not-stands-clause-served g c =
    let before = c.loop-count.invariant.served in
    let next = c.in_default.ensures.next in
    let left = g.S.Source.left in
    let all = one_more c.loop-count.count c.args.program.now (left c.args.source.now)
    (left_of left c.loop-count.reader c.loop-count.source)
    (left_of left c.serve_next.new.reader c.serve_next.new.source) before.0 next.0 next.2
    _ _ _ _ _ _ _ _ _ _ _ _ before.1 before.2 before.3 next.1 next.3 next.4 in
    given_end c.args.program.now (left c.args.source.now) (left c.serve_next.new.source)
    c.serve_next.new.reader.ahead.items all.0 1 _ _ _ _ _ _ _ _ (omega (arith, all.1)) all.2 all.3

pub returns-clause-served : goal.returns-clause-served
returns-clause-served g c =
    let before = c.loop-count.invariant.served in
    let left = g.S.Source.left in
    given_end c.args.program.now (left c.args.source.now) (left c.loop-count.source)
    c.loop-count.reader.ahead.items before.0 (2 ^ 64 - 1) _ _ _ _ _ _ _ _
    (omega (arith, before.1)) before.2 before.3

pub loop-count-preserved : goal.loop-count-preserved
loop-count-preserved g c =
    let before = c.loop-count.invariant.served in
    let next = c.in_default.ensures.next in
    let left = g.S.Source.left in record {
      lines = search rules;
      kept = search rules;
      reads = search rules;
      count = search rules;
      served = one_more c.loop-count.count c.args.program.now (left c.args.source.now)
          (left_of left c.loop-count.reader c.loop-count.source)
          (left_of left c.serve_next.new.reader c.serve_next.new.source) before.0 next.0 next.2
          _ _ _ _ _ _ _ _ _ _ _ _ before.1 before.2 before.3 next.1 next.3 next.4;
    }
