use Rattle.std.proofs.Common.{◌≡◌, ◌≢◌, ◌∙◌, ⊎_elim, pos, sym, subst, arith, rules, w64, FitsSigned}
use Rattle.std.proofs.Common.{to_z, of_z, slice_index_or, slice_set, ℕ, ◌+◌}
use Rattle.std.proofs.lemmas.Bool.{cases_eq}
use Rattle.std.proofs.lemmas.Int.{to_z-of_z}
use Rattle.std.proofs.lemmas.List.{get_or-set_same, get_or-set_other, length-set}
use Rattle.cache_model.specs.Cache.{view}
use Rattle.args_log.proofs.reading.arguments.Goals as goal
use Rattle.pool_layout.specs.declared.places.TheConstants.{FIRST_ARGUMENT}

pub loop-k-preserved : goal.loop-k-preserved
loop-k-preserved g c =
    let k = c.loop-k.k in
    let args = c.loop-k.args in
    let size = c.loop-k.invariant.size in
    let less = c.loop-k-test.true in
    let fits : FitsSigned w64 c.word.result = search rules in
    let back = to_z-of_z w64 c.word.result fits in
    let new = to_z w64 (of_z w64 c.word.result) in
    record {
      size = length-set args k new ∙ size;
      words = λ j lt. ⊎_elim
          (λ (same : j ≡ k).
          subst (λ (i : ℕ). slice_index_or (slice_set args k new) i (pos 0)
          ≡ view (g.P.PmemWork.device c.args.dev.now).cache (FIRST_ARGUMENT + i)) (sym same)
          (get_or-set_same args k new (pos 0) (omega arith) ∙ back ∙ c.word.ensures))
          (λ (ne : j ≢ k). get_or-set_other args k j new (pos 0) ne
          ∙ c.loop-k.invariant.words j (omega arith))
          (cases_eq j k);
    }
