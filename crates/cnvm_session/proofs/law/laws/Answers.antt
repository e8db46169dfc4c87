use Rattle.cnvm_session.proofs.Rest.{rest_alike, rest_owes, rest_none}
use Rattle.cnvm_session.proofs.Quiets.{good_rests, one_rests}
use Rattle.cnvm_session.proofs.Refusing.{command_kept}
use Rattle.cnvm_session.proofs.Bounding.{command_most}
use Rattle.cnvm_session.proofs.law.laws.Goals as goal

pub returns-clause-rest : goal.returns-clause-rest
returns-clause-rest c = λ program choice m n d b a k k1 rests rise fit does.
    let recovers = does.2 rise fit in (
      rest_alike program choice n d b a k k1 rests recovers,
      rest_owes program choice n d b a k k1 rests recovers,
      rest_none program choice n d b a k k1 rests recovers,
    )

pub returns-clause-one : goal.returns-clause-one
returns-clause-one c = one_rests

pub returns-clause-good : goal.returns-clause-good
returns-clause-good c = good_rests

pub returns-clause-refused : goal.returns-clause-refused
returns-clause-refused c = command_kept

pub returns-clause-most : goal.returns-clause-most
returns-clause-most c = command_most
