use Rattle.std.proofs.Common.{◌≡◌, ◌<◌, length, rules, arith, inl, inr, ◌∙◌}
use Rattle.c_lexer.proofs.Answering.{finished, stopped, gone_on, told}
use Rattle.c_lexer.proofs.scan.scan.Goals as goal

pub returns : goal.returns
returns c =
    let at = c.loop-left in
    let none : length at.left.now ≡ 0 = search rules in
    record {
      exact = inr (rw c.of.ensures
          (finished c.args.text.now at.left.now at.all.items at.spot at.invariant.room none
          at.invariant.leads));
    }

pub returns-in_err-width : goal.returns-in_err-width
returns-in_err-width c =
    let at = c.loop-left in
    let some : 0 < length at.left.now = search rules in
    let is = told c.from_residual-in_err-width.result c.in_err-width.field-0.0
    c.from_residual-in_err-width.ensures.1 in
    elim c.in_err-width.ensures.err [
      | inl memory ↦ record { exact = inl (rw memory at is) }
      | inr ends ↦ record {
        exact = inr (is ∙ stopped c.args.text.now at.left.now at.all.items at.spot
            c.in_ok-piece.piece
            c.in_err-width.field-0.0 some c.in_ok-piece.ensures.piece at.invariant.leads ends);
      }
    ]

pub loop-left-preserved : goal.loop-left-preserved
loop-left-preserved c =
    let at = c.loop-left in
    let width = c.in_ok-width.ensures.inside (length at.left.now) c.in_ok-piece.ensures.inside in
    record {
      leads = rw (c.pass.ensures.spot, c.split_at.ensures.front, c.split_at.ensures.back)
          (gone_on c.args.text.now at.left.now at.all.items c.take.new.all.items at.spot
          c.in_ok-piece.piece c.in_ok-width.width
          width.0 width.1 c.in_ok-piece.ensures.piece at.invariant.leads
          c.in_ok-width.ensures.leads);
      room = c.in_ok-width.ensures.room;
      lines = omega (
        arith,
        width,
        c.pass.ensures.line,
        c.split_at.ensures.front_len,
        c.split_at.ensures.back_len,
      );
      bytes = omega (
        arith,
        width,
        at.invariant.bytes,
        c.pass.ensures.at,
        c.split_at.ensures.front_len,
        c.split_at.ensures.back_len,
      );
      small = at.invariant.small;
    }
