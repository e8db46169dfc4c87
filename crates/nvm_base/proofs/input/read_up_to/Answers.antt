use Rattle.std.proofs.Common.{arith, ◌≤◌}
use Rattle.std.proofs.lemmas.Grind.{common_steps}
use Rattle.nvm_base.specs.Parts.{Takes}
use Rattle.nvm_base.proofs.Pieces.{takes_more, on_err_anyway}
use Rattle.nvm_base.proofs.input.read_up_to.Goals as goal

pub returns-in_err-read_piece-clause-gave : goal.returns-in_err-read_piece-clause-gave
returns-in_err-read_piece-clause-gave g c =
    let left = g.S.Source.left in
    let gave : Takes (left c.args.source.now) (left c.read_piece.new.source)
    (λ n. n ≤ c.args.most) =
    takes_more (left c.args.source.now) (left c.loop-piece.source) (left c.read_piece.new.source)
    c.loop-piece.taken
    c.args.most _ c.loop-piece.invariant.given c.in_err-read_piece.ensures.gave
    (λ n h. grind (arith, common_steps, h)) in
    on_err_anyway c.from_residual.result gave
