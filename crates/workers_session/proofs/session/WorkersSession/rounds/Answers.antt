use Rattle.std.proofs.Common.{◌≡◌, ◌∙◌, ◌++◌, List, ℕ, suc, subst, false, length, rules}
use Rattle.workers_session.specs.WorkersCommands.{TurnList, scene_of, round_from, rounds_of}
use Rattle.workers_session.proofs.Extending.{extends_more}
use Rattle.workers_session.proofs.Turnings.{turns_append, rounds_end}
use Rattle.workers_session.proofs.session.WorkersSession.rounds.Goals as goal

pub rounds-preserved : goal.rounds-preserved
rounds-preserved g c =
    let dev = g.P.PmemWork.device in
    let program = c.args.program.now in
    let all = length c.args.self.now.tasks in
    let was = c.rounds.invariant in
    let does = c.round-told.ensures.does in
    let x = scene_of c.args.self.now (dev c.args.dev.now) c.args.steps.now in
    let z = scene_of c.rounds.self (dev c.rounds.dev) c.rounds.steps in
    let m = scene_of c.round-told.new.self (dev c.round-told.new.dev) c.round-told.new.steps in
    let up : c.rounds.self.down ≡ false = search rules in
    record {
      sound = c.round-told.ensures.sound;
      count = c.round-told.ensures.count ∙ was.count;
      rounds = suc was.rounds;
      lines = was.lines ++ does.0;
      told = extends_more c.args.told c.rounds.told c.round-told.result was.lines does.0 was.told
          does.1;
      turns = subst (λ (ws : List ℕ). TurnList program ws x (was.lines ++ does.0) m)
          (rounds_end was.rounds all)
          (turns_append program (rounds_of was.rounds all) (round_from 0 all) x z m was.lines does.0
          was.turns up
          (subst (λ (n : ℕ). TurnList program (round_from 0 n) z does.0 m) was.count does.2));
    }
