use Rattle.std.proofs.Common.{arith}
use Rattle.pmem.proofs.Refused.{all_on}
use Rattle.cnvm_session.proofs.Bounding.{owed_most}
use Rattle.cnvm_session.proofs.session.start_from.Goals as goal

pub resume-requires-clause-on : goal.resume-requires-clause-on
resume-requires-clause-on g c = all_on _ _ _ c.in-Ok.ensures.done

pub returns-in-Ok-clause-most : goal.returns-in-Ok-clause-most
returns-in-Ok-clause-most g c =
    let owed = owed_most c.args.program.now (g.P.PmemWork.device c.open_pool.new.dev) in
    let most = c.resume.ensures.most in omega (arith, owed, most)
