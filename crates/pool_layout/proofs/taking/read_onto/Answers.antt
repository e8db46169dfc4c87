use Rattle.std.proofs.Common.{◌≡◌, ◌<◌, ◌≤◌, ◌-◌, ◌++◌, List, ℕ, length, sym, ap, ◌∙◌, subst}
use Rattle.std.proofs.Common.{arith}
use Rattle.std.proofs.lemmas.Grind.{common_steps}
use Rattle.pool_layout.proofs.Added.{TakesOnto, nothing_taken, piece_taken, all_taken}
use Rattle.pool_layout.proofs.taking.read_onto.Goals as goal

pub reading-init : goal.reading-init
reading-init g c =
    let left = g.S.Source.left c.args.source.now in
    record {
      taken = subst (λ (image : List ℕ). TakesOnto left left c.args.most c.args.most
          c.args.image.now image) (sym c.reserve.ensures)
          (nothing_taken left c.args.most c.args.image.now);
      count = omega arith;
    }

pub reading-preserved : goal.reading-preserved
reading-preserved g c =
    let left = g.S.Source.left in
    let bytes : List ℕ = c.as_slice-bytes.result.now in
    let piece : List ℕ = c.in_ok-piece.piece in
    let long : length bytes ≡ length piece =
    ap (λ (l : List ℕ). length l) c.as_slice-bytes.ensures in
    record {
      taken = piece_taken (left c.args.source.now) (left c.reading.source)
          (left c.read_up_to.new.source) c.args.most c.reading.missing (length bytes)
          c.args.image.now c.reading.image c.extend.new.self piece c.reading.invariant.taken
          c.in_ok-piece.ensures.taken
          (c.in_ok-extend.ensures
          ∙ ap (λ (l : List ℕ). c.reading.image ++ l) c.as_slice-bytes.ensures)
          long
          (grind (arith, common_steps, c.in_ok-piece.ensures.within, c.min-asked.ensures));
      count = omega (arith, c.reading.invariant.count, c.in_ok-piece.ensures.count);
    }

pub returns-then-count-asked-clause-read : goal.returns-then-count-asked-clause-read
returns-then-count-asked-clause-read g c =
    let left = g.S.Source.left in
    let bytes : List ℕ = c.as_slice-bytes.result.now in
    let piece : List ℕ = c.in_ok-piece.piece in
    let long : length bytes ≡ length piece =
    ap (λ (l : List ℕ). length l) c.as_slice-bytes.ensures in
    let short : length piece < c.min-asked.result = omega (arith, c.if-count-asked.true) in
    all_taken (left c.args.source.now) (left c.read_up_to.new.source) c.args.most
    (c.reading.missing - length bytes) c.args.image.now c.extend.new.self
    (piece_taken (left c.args.source.now) (left c.reading.source)
    (left c.read_up_to.new.source) c.args.most c.reading.missing (length bytes)
    c.args.image.now c.reading.image c.extend.new.self piece c.reading.invariant.taken
    c.in_ok-piece.ensures.taken
    (c.in_ok-extend.ensures ∙ ap (λ (l : List ℕ). c.reading.image ++ l) c.as_slice-bytes.ensures)
    long (grind (arith, common_steps, c.in_ok-piece.ensures.within, c.min-asked.ensures)))
    (λ (more : 0 < c.reading.missing - length bytes). c.in_ok-piece.ensures.end short)

pub returns-clause-read : goal.returns-clause-read
returns-clause-read g c =
    let left = g.S.Source.left in
    all_taken (left c.args.source.now) (left c.reading.source) c.args.most c.reading.missing
    c.args.image.now c.reading.image c.reading.invariant.taken
    (λ (more : 0 < c.reading.missing).
    let none : c.reading.missing ≤ 0 = c.reading-test.false in absurd (omega arith))
