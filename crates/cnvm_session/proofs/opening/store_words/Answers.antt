use Rattle.std.proofs.Common.{length, rules}
use Rattle.cnvm_session.proofs.Plays.{stores_at, all_next, part_next, part_first}
use Rattle.cnvm_session.proofs.opening.store_words.Goals as goal

pub returns-in-Err-clause-refused : goal.returns-in-Err-clause-refused
returns-in-Err-clause-refused g c =
    c.loop-place.invariant.part _ _
    (part_first _ _ _ _ _ _ (stores_at c.args.words.now c.loop-place.place (length c.args.words.now)
    c.loop-place-test.true) c.in-Err.ensures.refused)

pub loop-place-preserved : goal.loop-place-preserved
loop-place-preserved g c = record {
  lines = search rules;
  all = λ b rest. c.loop-place.invariant.all b
      (all_next _ _ _ _ _ b (stores_at c.args.words.now c.loop-place.place (length c.args.words.now)
      c.loop-place-test.true) c.in_default.ensures.done rest);
  part = λ why b rest. c.loop-place.invariant.part why b
      (part_next why _ _ _ _ _ b (stores_at c.args.words.now c.loop-place.place
      (length c.args.words.now) c.loop-place-test.true) c.in_default.ensures.done rest);
}
