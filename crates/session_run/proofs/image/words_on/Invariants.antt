use Rattle.std.proofs.Common.{◌≡◌, ◌-◌, ◌*◌, ◌++◌}
use Rattle.cache_model.specs.Cache.{view}
use Rattle.pm_machine.specs.HeapPool.{words_from}
use Rattle.session_run.proofs.image.words_on.Given as goal

-- the words so far, followed by those that are left, are all of them
abbrev pub invariant-loop-k : goal.invariant-loop-k
invariant-loop-k g l =
    let d = g.P.PmemWork.device l.dev in
    l.words ++ words_from (view d.cache) l.k (8 * d.lines - l.k) ≡ words_from (view d.cache) 0
    (8 * d.lines)
