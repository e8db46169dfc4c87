use Rattle.std.proofs.Common.{rules, ◌≡◌, ◌∙◌, sym, ap, arith, length, List, ℕ}
use Rattle.std.proofs.lemmas.List.{with_items_is, length-replicate}
use Rattle.clobber_pass.proofs.derived.Carrying.{popped}
use Rattle.clobber_pass.proofs.carry.carry_growth.Goals as goal

pub loop-preserved : goal.loop-preserved
loop-preserved c =
    let was = c.loop.row in
    let row = c.carry_word.new.row in
    let given : c.deref_mut.result.now ≡ was.items = search rules in
    let same : row ≡ was.items = c.in_ok-carry_word.ensures.blank ∙ given in
    let long : length c.args.entry.now ≡ length c.deref_mut.result.now =
    sym (ap (λ (r : List ℕ). length r) (given ∙ c.loop.invariant.1)
    ∙ length-replicate (length c.args.entry.now) 0) in
    let parts = popped c.args.topic c.args.exits.now c.args.entry.now c.args.code.now c.loop.rows
    c.loop.growth c.pop.new.self c.in-Some.grown c.in-Some.ensures.some c.loop.invariant.0 in (
      c.in_ok-carry_word.ensures.carries.keeps c.args.entry.now long parts.1 parts.0,
      with_items_is was row (ap (λ (r : List ℕ). length r) same ∙ sym was.ok.0) ∙ same
          ∙ c.loop.invariant.1,
      omega (arith, c.in_ok-carry_word.ensures.room, c.loop.invariant.2),
    )
