-- The laws, put together.
use Rattle.rules_law.specs.typed.Law.{AcceptedLaw, CompleteLaw, TypeLaw}
use Rattle.rules_law.proofs.typed.Programs.{well_typed}
use Rattle.rules_law.proofs.typed.TypedPrograms.{unbroken}
use Rattle.rules_law.proofs.typed.TypedExpressions.{typed_is}

pub accepted : AcceptedLaw
accepted tree b = well_typed tree b

pub complete : CompleteLaw
complete tree h = unbroken tree h

pub types : TypeLaw
types t s e x h = typed_is t s e x h
