use Rattle.std.proofs.Common.{◌≡◌, ◌+◌, ◌<◌, ℕ, pos, length, slice_index_or}
use Rattle.cache_model.specs.Cache.{view}
use Rattle.args_log.proofs.reading.arguments.Given as goal
use Rattle.pool_layout.specs.declared.places.TheConstants.{ARGUMENTS, FIRST_ARGUMENT}

-- the words so far are those of the record
abbrev pub invariant-loop-k : goal.invariant-loop-k
invariant-loop-k g l = record {
  size : length l.args ≡ ARGUMENTS;
  words : (j : ℕ) → j < l.k → slice_index_or l.args j (pos 0)
      ≡ view (g.P.PmemWork.device l.dev).cache (FIRST_ARGUMENT + j);
}
