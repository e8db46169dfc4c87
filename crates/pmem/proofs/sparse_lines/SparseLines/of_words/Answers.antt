use Rattle.std.proofs.Common.{◌≡◌, ◌*◌, ◌/◌, ◌∙◌, inr, length, ap, refl, arith, rules, List, ℤ}
use Rattle.pmem.proofs.Cuts.{filled_sparse, filled_tidy}
use Rattle.pmem.proofs.Sparses.{listed_none}
use Rattle.pmem.proofs.sparse_lines.SparseLines.of_words.Goals as goal

pub invariant_of-result : goal.invariant_of-result
invariant_of-result c =
    let words : List ℤ = c.args.words.now in
    let items : c.extend_from_slice.new.self.items ≡ words = search rules in
    let long : length c.extend_from_slice.new.self.items ≡ length words = ap length items in (
      filled_tidy (record {
        count = length words / 8;
        words = c.extend_from_slice.new.self.items;
        kept = c.in_ok-kept.kept;
      }) (omega (arith, c.requires)) c.in_ok-kept.ensures,
      inr (listed_none c.new.result.items c.in_ok-kept.kept c.in_ok-kept.ensures),
      c.new-2.ensures c.extend_from_slice.new.self.items,
    )

pub returns : goal.returns
returns c =
    let words : List ℤ = c.args.words.now in
    let items : c.extend_from_slice.new.self.items ≡ words = search rules in
    filled_sparse (record {
      count = length words / 8;
      words = c.extend_from_slice.new.self.items;
      kept = c.in_ok-kept.kept;
    }) words refl items c.in_ok-kept.ensures
