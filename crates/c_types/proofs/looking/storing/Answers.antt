use Rattle.std.proofs.Common.{◌-◌, length, map, ap}
use Rattle.c_tree.specs.ItemTree.{function_tree}
use Rattle.c_types.specs.Looking.{storing}
use Rattle.c_types.specs.Views.{tables_in}
use Rattle.c_types.proofs.Rounds.{round_is, round_done, rounds_end}
use Rattle.c_types.proofs.looking.storing.Goals as goal

pub returns-then-eq : goal.returns-then-eq
returns-then-eq c =
    let functions = ap (map function_tree) c.functions-functions.ensures in
    rounds_end (tables_in c.args.program.now)
    (length c.functions-functions.result.now - c.loop.counter) c.loop.known.items
    c.in_ok-next.next.items (storing (tables_in c.args.program.now)) c.as_slice.result.now
    c.as_slice-in-loop.result.now c.eq.result c.eq.ensures c.as_slice.ensures.value
    c.as_slice-in-loop.ensures.value c.if-eq.true
    (round_is (tables_in c.args.program.now) _ c.loop.known.items c.deref.result.now
    c.in_ok-next.next.items c.in_ok-next.ensures c.deref.ensures.value functions)
    c.loop.invariant

pub loop-preserved : goal.loop-preserved
loop-preserved c =
    let functions = ap (map function_tree) c.functions-functions.ensures in
    round_done (tables_in c.args.program.now) (length c.functions-functions.result.now)
    c.loop.counter c.loop.known.items c.in_ok-next.next.items
    (storing (tables_in c.args.program.now)) c.loop-test.true
    (round_is (tables_in c.args.program.now) _ c.loop.known.items c.deref.result.now
    c.in_ok-next.next.items c.in_ok-next.ensures c.deref.ensures.value functions)
    c.loop.invariant
