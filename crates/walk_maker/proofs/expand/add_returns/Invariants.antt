use Rattle.std.proofs.Common.{◌≡◌, drop}
use Rattle.walk_maker.specs.inside.Expand as expand
use Rattle.walk_maker.proofs.expand.add_returns.Given as goal

abbrev pub invariant-loop-place : goal.invariant-loop-place
invariant-loop-place l =
    expand.returns_added l.function l.exit l.place (drop l.place l.code) l.table
    ≡ expand.returns_added l.function l.exit 0 l.code l.initial.table
