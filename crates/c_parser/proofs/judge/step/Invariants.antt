use Rattle.std.proofs.Common.{◌≡◌, ◌≤◌, length}
use Rattle.c_parser.specs.inside.Wants.{parser_step}
use Rattle.c_parser.specs.inside.Stacks.{weight}
use Rattle.c_parser.proofs.judge.step.Given as goal

-- the remaining wants do with the token what all of them do
abbrev pub invariant-next : goal.invariant-next
invariant-next l = record {
  same : parser_step l.stack l.kind ≡ parser_step l.initial.stack l.kind;
  light : weight l.stack ≤ 64;
}

abbrev pub decreases-next : goal.decreases-next
decreases-next l = length l.stack
