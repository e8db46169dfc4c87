use Rattle.std.proofs.Common.{rules, ◌≡◌, ◌≤◌, ◌+◌, [], drop, length, subst, sym}
use Rattle.std.proofs.Common.{arith}
use Rattle.std.proofs.lemmas.Option.{slice_get-get_or}
use Rattle.walk_check.specs.inside.Grown.ArePassing.{no_piece}
use Rattle.walk_maker.proofs.Fuel.{drop_past}
use Rattle.walk_maker.proofs.Judged.{Reasoned, reasoned_at, reasoned_all, no_fault, lists_logged}
use Rattle.walk_maker.proofs.reasons.each_certificate.Goals as goal

pub loop-index-init : goal.loop-index-init
loop-index-init c =
    let none : c.new-passed.result ≡ [] = search rules in
    let empty : c.new-reasons.result ≡ [] = search rules in
    rw (none, empty) (no_piece, tt, λ rest more. more)

pub loop-index-preserved : goal.loop-index-preserved
loop-index-preserved c =
    let ir = c.args.ir.now in
    let all = c.args.sites.now in
    let left = drop (c.loop-index.index + 1) all in
    subst (λ rs. Reasoned ir all left c.marked_reason.new.passed rs)
    (sym c.in_ok-push_reason.ensures)
    (reasoned_at ir all c.loop-index.index _ c.loop-index.passed c.marked_reason.new.passed
    c.loop-index.reasons c.in_ok-reason.reason c.requires.well
    (slice_get-get_or all c.loop-index.index _ c.loop-index-test.true) c.in_ok-reason.ensures
    c.loop-index.invariant)

pub returns-clause-lists : goal.returns-clause-lists
returns-clause-lists c =
    let ir = c.args.ir.now in
    let all = c.args.sites.now in
    let past : length all ≤ c.loop-index.index = omega (arith, c.loop-index-test.false) in
    let h : Reasoned ir all [] c.loop-index.passed c.loop-index.reasons =
    subst (λ xs. Reasoned ir all xs c.loop-index.passed c.loop-index.reasons)
    (drop_past all c.loop-index.index past) c.loop-index.invariant in
    lists_logged ir all c.loop-index.passed c.loop-index.reasons c.requires.well h.0 h.1
    (reasoned_all ir all c.loop-index.passed c.loop-index.reasons h)

pub returns-clause-keeps : goal.returns-clause-keeps
returns-clause-keeps c =
    no_fault c.args.ir.now c.loop-index.passed c.loop-index.reasons c.loop-index.invariant.0
    c.loop-index.invariant.1
