use Rattle.std.proofs.Common.{ℕ, List, ◌==◌, cond, Option, None, sym, ap, ◌∙◌, arith}
use Rattle.std.specs.Ordering.{nat_cmp}
use Rattle.std.specs.BTreeMap.{is_at}
use Rattle.cache_model.specs.Collapse.{picked}
use Rattle.pmem.specs.Sparse.{Older, kept_at, newest_of}
use Rattle.pmem.specs.inside.Sparse.{or_newest, left_older}
use Rattle.pmem.proofs.Cuts.{cut_step, cut_done, gone_some}
use Rattle.pmem.proofs.sparse_lines.leave_all.Goals as goal

pub leaving-preserved : goal.leaving-preserved
leaving-preserved c =
    let wrote = λ (l q : ℕ). c.leave_line.ensures.wrote l q
    ∙ ap (λ (o : Option ℕ). or_newest l (newest_of c.leaving.words.items l)
    (cond (l == c.in-Some.line) (left_older c.args.rest o c.in-Some.older) None) q)
    c.pick_of.ensures in
    let gone = λ (q : ℕ). ap (λ (es : List (ℕ × Older)). kept_at es q) c.give.ensures
    ∙ c.in-Some.ensures.gone q in
    let step = cut_step c.args.rest (picked c.args.picks.now) c.leaving.words.items
    c.leave_line.new.words.items c.leaving.lines c.give.new.self
    c.in-Some.line c.in-Some.older c.in-Some.ensures.some.0 gone wrote in (
      λ p q. step p q ∙ c.leaving.invariant.0 p q,
      c.leave_line.ensures.length ∙ c.leaving.invariant.1,
      λ p y found.
          let had = c.leaving.invariant.2 p y
          (gone_some (is_at (nat_cmp c.in-Some.line) p) (kept_at c.leaving.lines p) y
          (sym (gone p) ∙ found)) in
          let same = c.leave_line.ensures.length in
          omega arith,
    )

pub returns-clause-left : goal.returns-clause-left
returns-clause-left c = λ l q. cut_done c.args.rest (picked c.args.picks.now l)
    c.leaving.words.items c.leaving.lines l q c.in_default.ensures.none.0
    ∙ c.leaving.invariant.0 l q
