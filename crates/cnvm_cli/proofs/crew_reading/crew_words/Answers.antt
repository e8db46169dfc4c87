use Rattle.std.proofs.Common.{◌≡◌, ◌+◌, ◌++◌, List, ℕ, ℤ, Ok, Err, sym, ap, ◌∙◌, subst, arith}
use Rattle.cnvm_cli.specs.inside.Opened.{ImageIs}
use Rattle.cnvm_cli.proofs.CrewWords.{SoFar, so_far_none, so_far_more, so_far_all, refused_at}
use Rattle.cnvm_cli.proofs.crew_reading.crew_words.Goals as goal

pub loop-worker-init : goal.loop-worker-init
loop-worker-init c =
    subst (λ (ws : List ℤ). SoFar c.args.program.now c.args.count c.args.bytes.now 0 ws)
    (sym c.new-words.ensures) (so_far_none c.args.program.now c.args.count c.args.bytes.now)

pub loop-worker-preserved : goal.loop-worker-preserved
loop-worker-preserved c =
    let p = c.args.program.now in
    let bytes = c.args.bytes.now in
    let words = c.loop-worker.words in
    let is = subst (λ (b : List ℕ). ImageIs p (Ok c.in-Ok.own) b) c.bytes_within-image.ensures
    c.in-Ok.ensures.are in
    subst (λ (ws : List ℤ). SoFar p c.args.count bytes (c.loop-worker.worker + 1) ws)
    (sym (c.in_default.ensures.ok ∙ ap (λ (more : List ℤ). words ++ more) c.as_slice.ensures))
    (so_far_more p c.args.count bytes c.loop-worker.worker words c.in-Ok.own
    c.loop-worker.invariant is)

pub returns-in-Err-clause-are : goal.returns-in-Err-clause-are
returns-in-Err-clause-are c =
    let p = c.args.program.now in
    refused_at p c.args.count c.args.bytes.now c.loop-worker.worker c.loop-worker.words
    c.in-Err.why c.loop-worker.invariant c.loop-worker-test.true
    (subst (λ (b : List ℕ). ImageIs p (Err c.in-Err.why) b) c.bytes_within-image.ensures
    c.in-Err.ensures.are)

pub returns-clause-are : goal.returns-clause-are
returns-clause-are c =
    let all : c.loop-worker.worker ≡ c.args.count =
    (let end = c.loop-worker-test.false in omega (arith, end)) in
    so_far_all c.args.program.now c.args.count c.args.bytes.now c.loop-worker.words
    (subst (λ (n : ℕ). SoFar c.args.program.now c.args.count c.args.bytes.now n
    c.loop-worker.words) all c.loop-worker.invariant)
