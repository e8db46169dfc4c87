use Rattle.std.proofs.Common.{ℤ, ◌≡◌, ◌<◌, ◌*◌, ◌+◌, ◌/◌, List, ap, ◌∙◌, slice_range, FitsSigned}
use Rattle.std.proofs.Common.{w64, arith}
use Rattle.cache_model.specs.Event.{Store}
use Rattle.cache_model.specs.Play.{after}
use Rattle.pmem.specs.Sparse.{Sparse, sparse_memory}
use Rattle.pmem.proofs.Sparses.{store_sparse, tidy_store, same_sparse, listed_stored}
use Rattle.pmem.proofs.Cuts.{round, on_err}
use Rattle.pmem.proofs.sparse_lines.SparseLinesLines.store.Goals as goal

pub returns-in_err-keep-clause-refused : goal.returns-in_err-keep-clause-refused
returns-in_err-keep-clause-refused c =
    let s : Sparse = record {
      count = c.self.inside.count;
      words = c.self.inside.words.items;
      kept = c.self.inside.kept;
    } in
    on_err _ (same_sparse s c.keep.new.self c.in_err-keep.ensures.refused
    ∙ ap sparse_memory c.self.view_is)

pub invariant_of-self-2 : goal.invariant_of-self-2
invariant_of-self-2 c =
    let s : Sparse = record {
      count = c.self.inside.count;
      words = c.self.inside.words.items;
      kept = c.self.inside.kept;
    } in
    let n : c.self.inside.count ≡ c.args.self.now.count =
    ap (λ (z : Sparse). z.count) c.self.view_is in
    let below : c.args.word < 8 * c.args.self.now.count = c.requires in
    let lt : c.args.word < 8 * c.self.inside.count = omega arith in (
      tidy_store s c.keep.new.self c.args.word _ c.version_of-version.result
          c.self.invariant.0 lt c.in_ok-keep.ensures.done,
      listed_stored c.self.inside.unlisted c.self.inside.marked.items s.kept
          c.keep.new.self (c.args.word / 8) c.version_of-version.result
          c.self.invariant.1 c.in_ok-keep.ensures.done,
      c.store.ensures s.words (omega (arith, c.self.invariant.0.words)) c.self.invariant.2,
    )

pub returns-clause-done : goal.returns-clause-done
returns-clause-done c =
    let s : Sparse = record {
      count = c.self.inside.count;
      words = c.self.inside.words.items;
      kept = c.self.inside.kept;
    } in
    let n : c.self.inside.count ≡ c.args.self.now.count =
    ap (λ (z : Sparse). z.count) c.self.view_is in
    let below : c.args.word < 8 * c.args.self.now.count = c.requires in
    let lt : c.args.word < 8 * c.self.inside.count = omega arith in
    let fits : FitsSigned w64 c.args.value = c.ranges.value in
    let range : c.version_of-version.result ≡ slice_range c.self.inside.words.items
    (8 * (c.args.word / 8)) (8 * (c.args.word / 8) + 8) =
    c.version_of-version.ensures ∙ ap (λ (ws : List ℤ).
    slice_range ws (8 * (c.args.word / 8)) (8 * (c.args.word / 8) + 8)) c.deref.ensures.value in
    store_sparse s c.keep.new.self c.args.word _ c.version_of-version.result
    c.self.invariant.0 lt range c.in_ok-keep.ensures.done
    ∙ ap (λ (x : ℤ). after (sparse_memory s) (Store c.args.word x)) (round c.args.value fits)
    ∙ ap (λ (z : Sparse). after (sparse_memory z) (Store c.args.word c.args.value)) c.self.view_is
