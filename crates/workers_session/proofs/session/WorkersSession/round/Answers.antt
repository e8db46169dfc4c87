use Rattle.std.proofs.Common.{◌≡◌, ◌∙◌, ◌++◌, ◌+◌, ◌-◌, ◌≤◌, ◌<◌, List, [], ℕ, ap, sym, subst}
use Rattle.std.proofs.Common.{refl, length, arith}
use Rattle.std.proofs.Math.Nat.{sub-zero}
use Rattle.workers_session.specs.WorkersState.{WorkersState}
use Rattle.workers_session.specs.WorkersCommands.{scene_of, round_from, TurnList}
use Rattle.workers_session.proofs.Extending.{extends_more, extends_nothing}
use Rattle.workers_session.proofs.Rounds.{busy_more}
use Rattle.workers_session.proofs.Turnings.{LeadsOn, leads_next, leads_over, leads_end, round_next}
use Rattle.workers_session.proofs.Turnings.{round_none}
use Rattle.workers_session.proofs.session.WorkersSession.round.Goals as goal

pub returns-then-self-clause-does : goal.returns-then-self-clause-does
returns-then-self-clause-does g c =
    let dev = g.P.PmemWork.device in
    let i = c.loop-worker.worker in
    let all = length c.args.self.now.tasks in
    let does = c.turn-told.ensures.does in
    let x = scene_of c.args.self.now (dev c.args.dev.now) c.args.steps.now in
    let z = scene_of c.loop-worker.self (dev c.loop-worker.dev) c.loop-worker.steps in
    let m = scene_of c.turn-told.new.self (dev c.turn-told.new.dev) c.turn-told.new.steps in
    let lines = c.loop-worker.invariant.lines in
    let end = c.count-worker-end.ensures in
    let test = c.loop-worker-test.true in
    let less : i < all = omega (arith, end, test) in (
      lines ++ does.0,
      extends_more c.args.told c.loop-worker.told c.turn-told.result lines does.0
          c.loop-worker.invariant.told does.1,
      leads_over c.args.program.now i (round_from (i + 1) (all - (i + 1))) (round_from 0 all) x z m
          lines does.0
          (subst (λ (l : List ℕ). LeadsOn c.args.program.now l (round_from 0 all) x z lines)
          (round_next i all less) c.loop-worker.invariant.leads) does.2
          (sym (ap (λ (s : WorkersState). s.down) c.self.view_is) ∙ c.if-self.true),
    )

pub loop-worker-init : goal.loop-worker-init
loop-worker-init g c =
    let all = length c.args.self.now.tasks in
    let x = scene_of c.args.self.now (g.P.PmemWork.device c.args.dev.now) c.args.steps.now in
    record {
      sound = c.requires.sound;
      up = c.requires.up;
      count = refl;
      rest = λ j low. refl;
      fewer = omega arith;
      lines = [];
      told = extends_nothing c.args.told;
      leads = λ rest y is.
          subst (λ (n : ℕ). TurnList c.args.program.now (round_from 0 n) x rest y) (sub-zero all)
          is;
    }

pub loop-worker-preserved : goal.loop-worker-preserved
loop-worker-preserved g c =
    let dev = g.P.PmemWork.device in
    let i = c.loop-worker.worker in
    let all = length c.args.self.now.tasks in
    let does = c.turn-told.ensures.does in
    let x = scene_of c.args.self.now (dev c.args.dev.now) c.args.steps.now in
    let z = scene_of c.loop-worker.self (dev c.loop-worker.dev) c.loop-worker.steps in
    let m = scene_of c.turn-told.new.self (dev c.turn-told.new.dev) c.turn-told.new.steps in
    let lines = c.loop-worker.invariant.lines in
    let end = c.count-worker-end.ensures in
    let test = c.loop-worker-test.true in
    let less : i < all = omega (arith, end, test) in
    let up = sym (ap (λ (s : WorkersState). s.down) c.self.view_is) ∙ c.if-self.false in
    record {
      sound = c.turn-told.ensures.sound;
      up = up;
      count = c.turn-told.ensures.count ∙ c.loop-worker.invariant.count;
      rest = λ j past.
          c.turn-told.ensures.others j (λ (e : j ≡ i). omega arith)
          ∙ c.loop-worker.invariant.rest j (omega arith);
      fewer = busy_more c.args.program.now.image.parts.most i c.args.self.now.tasks
          c.loop-worker.self.tasks
          c.turn-told.new.self.tasks (c.loop-worker.invariant.rest i (omega arith))
          c.loop-worker.invariant.fewer (c.turn-told.ensures.fewer up);
      lines = lines ++ does.0;
      told = extends_more c.args.told c.loop-worker.told c.turn-told.result lines does.0
          c.loop-worker.invariant.told does.1;
      leads = leads_next c.args.program.now i (round_from (i + 1) (all - (i + 1))) (round_from 0
          all)
          x z m lines does.0
          (subst (λ (l : List ℕ). LeadsOn c.args.program.now l (round_from 0 all) x z lines)
          (round_next i all less) c.loop-worker.invariant.leads) does.2 up;
    }

pub returns-clause-does : goal.returns-clause-does
returns-clause-does g c =
    let dev = g.P.PmemWork.device in
    let i = c.loop-worker.worker in
    let all = length c.args.self.now.tasks in
    let x = scene_of c.args.self.now (dev c.args.dev.now) c.args.steps.now in
    let z = scene_of c.loop-worker.self (dev c.loop-worker.dev) c.loop-worker.steps in
    let lines = c.loop-worker.invariant.lines in
    let end = c.count-worker-end.ensures in
    let test = c.loop-worker-test.false in
    let none : all ≤ i = omega (arith, end) in (
      lines ++ [],
      extends_more c.args.told c.loop-worker.told c.loop-worker.told lines []
          c.loop-worker.invariant.told (extends_nothing c.loop-worker.told),
      leads_end c.args.program.now (round_from 0 all) x z lines
          (subst (λ (l : List ℕ). LeadsOn c.args.program.now l (round_from 0 all) x z lines)
          (round_none i all none) c.loop-worker.invariant.leads),
    )
