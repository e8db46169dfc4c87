use Rattle.std.proofs.Common.{ℕ, ◌≡◌, ◌∙◌, ap, replicate, arith}
use Rattle.cache_model.specs.inside.Lists.{zero_list}
use Rattle.cache_model.proofs.Lists.{blank_memory}
use Rattle.cache_model.proofs.cache.Cache.new.Goals as goal

pub returns-clause-done : goal.returns-clause-done
returns-clause-done c =
    let past = c.loop-test.false in
    let within = c.loop.auto.counter-end in
    let e : c.loop.counter ≡ c.args.lines = omega arith in
    blank_memory _ _ (c.loop.invariant ∙ ap (λ (n : ℕ). replicate n zero_list) e)
