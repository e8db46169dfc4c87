use Rattle.std.proofs.Common.{◌≡◌, ◌+◌, ℕ, length, List, if◌then◌else◌}
use Rattle.workers_session.specs.declared.line.WorkersLine.{WorkersLine}
use Rattle.workers_session.specs.WorkersState.{IsReadyFor}
use Rattle.workers_session.specs.WorkersCommands.{scene_of, rounds_of, TurnList}
use Rattle.workers_session.specs.inside.Turning.{Extends, turns_in}
use Rattle.workers_session.proofs.session.WorkersSession.rounds.Given as goal

-- some rounds lead here
abbrev pub invariant-rounds : goal.invariant-rounds
invariant-rounds g l =
    let dev = g.P.PmemWork.device in
    let all = length l.initial.self.tasks in record {
      sound : IsReadyFor l.program.image l.self (dev l.dev);
      count : length l.self.tasks ≡ all;
      rounds : ℕ;
      lines : List WorkersLine;
      told : Extends l.initial.told l.told lines;
      turns : TurnList l.program (rounds_of rounds all)
          (scene_of l.initial.self (dev l.initial.dev) l.initial.steps) lines
          (scene_of l.self (dev l.dev) l.steps);
    }

abbrev pub decreases-rounds : goal.decreases-rounds
decreases-rounds g l =
    if l.self.down then 0 else 1 + turns_in l.program.image.parts.most l.self.tasks
