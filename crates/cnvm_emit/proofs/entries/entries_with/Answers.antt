use Rattle.std.proofs.Common.{◌++◌, ◌+◌, ◌∙◌, List, drop, ap}
use Rattle.c_file.specs.declared.entry.Entry.{Entry}
use Rattle.c_types.specs.Shapes.{transactions_of}
use Rattle.cnvm_emit.specs.Entries.{entries_from}
use Rattle.cnvm_emit.proofs.Listed.{entries_step}
use Rattle.cnvm_emit.proofs.entries.entries_with.Goals as goal

pub loop-place-preserved : goal.loop-place-preserved
loop-place-preserved c =
    let txs = c.args.txs.now in
    let fs = transactions_of c.args.typed.now in
    let k = c.loop-place.place in
    ap (λ (es : List Entry). es ++ entries_from (drop (k + 1) txs) (drop (k + 1) fs))
    c.in_ok-push.ensures.items
    ∙ entries_step c.loop-place.entries.items txs fs k _ c.in_ok-entry_of.field-0
    c.loop-place-test.true c.in_ok-entry_of.ensures
    ∙ c.loop-place.invariant
