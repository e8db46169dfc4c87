use Rattle.std.proofs.Common.{◌≡◌, ◌≤◌, length, [], ◌∷◌, Some}
use Rattle.c_parser.specs.declared.want.Want.TheVariants.{Items}
use Rattle.c_parser.specs.inside.Stacks.{weight}
use Rattle.c_parser.specs.inside.Run.{parse_run}
use Rattle.c_parser.proofs.judge.judge.Given as goal

abbrev pub invariant-loop-at : goal.invariant-loop-at
invariant-loop-at l = record {
  runs : parse_run (Some 64) l.tokens.tokens 0 (Items ∷ []) ≡ parse_run (Some 64) l.tokens.tokens
      l.at (l.stack);
  light : weight l.stack ≤ 64;
  inside : l.at ≤ length l.tokens.tokens;
}
