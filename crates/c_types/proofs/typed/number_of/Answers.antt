use Rattle.std.proofs.Common.{◌≡◌, ◌+◌, ◌∙◌, ap, sym, true, false}
use Rattle.std.specs.Prelude.{bytes_eq}
use Rattle.c_types.proofs.Elements.{drop_at, number_here, number_later}
use Rattle.c_types.proofs.typed.number_of.Goals as goal

pub returns-then-eq : goal.returns-then-eq
returns-then-eq c =
    let here = drop_at c.args.transactions.now c.loop-transaction.transaction-index
    c.transaction-item.result c.loop-transaction-test.true c.transaction-item.is in
    let same : bytes_eq c.args.name.now c.transaction-item.result.name ≡ true =
    rw c.as_str.ensures at (sym c.eq.ensures ∙ c.if-eq.true) in
    sym (number_here c.args.name.now _ _ c.transaction-item.result c.loop-transaction.number here
    same) ∙ c.loop-transaction.invariant.left

pub loop-transaction-preserved : goal.loop-transaction-preserved
loop-transaction-preserved c =
    let here = drop_at c.args.transactions.now c.loop-transaction.transaction-index
    c.transaction-item.result c.loop-transaction-test.true c.transaction-item.is in
    let other : bytes_eq c.args.name.now c.transaction-item.result.name ≡ false =
    rw c.as_str.ensures at (sym c.eq.ensures ∙ c.if-eq.false) in
    record {
      number_index = ap (λ n. n + 1) c.loop-transaction.invariant.number_index;
      left = sym (number_later c.args.name.now _ _ c.transaction-item.result
          c.loop-transaction.number here other) ∙ c.loop-transaction.invariant.left;
    }
