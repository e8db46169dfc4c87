use Rattle.std.proofs.Common.{ap}
use Rattle.cache_model.specs.Cache.{Memory}
use Rattle.cache_model.proofs.Lefts.{good_within, collapse_memory}
use Rattle.cache_model.proofs.cache.Cache.collapse.Goals as goal

pub keep_picked-requires-clause-picks : goal.keep_picked-requires-clause-picks
keep_picked-requires-clause-picks c =
    good_within _ _ _ _ c.self.view_is c.in_default.is c.bad_pick.ensures

pub returns-clause-done : goal.returns-clause-done
returns-clause-done c =
    let within = good_within _ _ _ _ c.self.view_is c.in_default.is c.bad_pick.ensures in
    rw (c.keep_rest.ensures.kept, c.keep_picked.ensures.kept, c.as_slice-picks.ensures)
    (collapse_memory c.args.choice.now _ _ c.self.view_is c.requires
    (rw (← c.as_slice-picks.ensures) within))

pub returns-clause-lines : goal.returns-clause-lines
returns-clause-lines c = ap (λ (m : Memory). m.lines) (returns-clause-done c)
