use Rattle.std.proofs.Common.{◌≡◌, sym, ap, ◌∙◌, arith, Some}
use Rattle.c_parser.specs.inside.Run.{ends, parser_stepped, Refused}
use Rattle.c_parser.proofs.Steps.{run_end}
use Rattle.c_parser.proofs.judge.judge.Goals as goal

pub returns-then-branch-clause-accepted : goal.returns-then-branch-clause-accepted
returns-then-branch-clause-accepted c =
    let inv = c.loop-at.invariant in
    inv.runs ∙ run_end (Some 64) c.args.tokens.now.tokens c.loop-at.at c.loop-at.stack
    (omega (arith, c.loop-at-test.false, c.len-at-end.ensures, inv.inside))
    ∙ ap (ends c.loop-at.at) (sym c.in_ok-step-2.ensures)
    ∙ ap (λ b. ends c.loop-at.at (parser_stepped b c.step-2.new.stack)) c.if-branch.true

pub returns-clause-refused : goal.returns-clause-refused
returns-clause-refused c =
    let inv = c.loop-at.invariant in
    let here : c.loop-at.at ≡ c.len.result =
    omega (arith, c.loop-at-test.false, c.len-at-end.ensures, c.len.ensures, inv.inside) in
    inv.runs ∙ run_end (Some 64) c.args.tokens.now.tokens c.loop-at.at c.loop-at.stack
    (omega (arith, c.loop-at-test.false, c.len-at-end.ensures, inv.inside))
    ∙ ap (ends c.loop-at.at) (sym c.in_ok-step-2.ensures)
    ∙ ap (λ b. ends c.loop-at.at (parser_stepped b c.step-2.new.stack)) c.if-branch.false
    ∙ ap Refused here
