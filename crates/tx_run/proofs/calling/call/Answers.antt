use Rattle.std.proofs.Common.{arith}
use Rattle.tx_run.proofs.CallParts.{short}
use Rattle.tx_run.proofs.calling.call.Goals as goal

pub returns-in-None-clause-called : goal.returns-in-None-clause-called
returns-in-None-clause-called g c =
    let d = g.P.PmemWork.device c.args.dev.now in record {
      ready = λ on ready. short c.args.policy c.args.image.now c.args.tx c.args.args.now d d;
      unusable = λ kind on unusable. let ready = c.in-Ready.ensures.on on in absurd cc;
      numbers = λ on numbers. let ready = c.in-Ready.ensures.on on in absurd cc;
      off = λ off. let ready = c.in-Ready.ensures.off off in absurd cc;
      bound = λ on. omega arith;
      most = omega arith;
    }
