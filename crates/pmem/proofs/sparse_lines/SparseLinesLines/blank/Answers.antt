use Rattle.std.proofs.Common.{ℕ, ◌≡◌, ◌*◌, inr, replicate, pos, refl, ap, ◌∙◌, arith}
use Rattle.pmem.proofs.Cuts.{blank_sparse, blank_tidy}
use Rattle.pmem.proofs.Sparses.{listed_none}
use Rattle.pmem.proofs.sparse_lines.SparseLinesLines.blank.Goals as goal

pub invariant_of-result : goal.invariant_of-result
invariant_of-result c =
    let is = c.in-Some.ensures in
    let e : c.in-Some.len ≡ 8 * c.args.count = omega arith in (
      blank_tidy (record {
        count = c.args.count;
        words = c.in_ok-words.words.items;
        kept = c.in_ok-kept.kept;
      })
          (c.in_ok-words.ensures.items_if_clones_equal (λ y same. same)
          ∙ ap (λ (k : ℕ). replicate k (pos 0)) e) c.in_ok-kept.ensures,
      inr (listed_none c.new.result.items c.in_ok-kept.kept c.in_ok-kept.ensures),
      c.new-2.ensures c.in_ok-words.words.items,
    )

pub returns : goal.returns
returns c =
    let is = c.in-Some.ensures in
    let e : c.in-Some.len ≡ 8 * c.args.count = omega arith in
    blank_sparse (record {
      count = c.args.count;
      words = c.in_ok-words.words.items;
      kept = c.in_ok-kept.kept;
    }) c.args.count refl
    (c.in_ok-words.ensures.items_if_clones_equal (λ y same. same)
    ∙ ap (λ (k : ℕ). replicate k (pos 0)) e) c.in_ok-kept.ensures
