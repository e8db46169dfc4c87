-- The laws of lowering, put together: the names fit, and code whose names fit does what its tree
-- means.
use Rattle.std.proofs.Common.{◌≡◌, refl}
use Rattle.std.specs.Prelude.{Some}
use Rattle.std.proofs.lemmas.Option.{none-some}
use Rattle.c_meaning.specs.Transaction.{Outcome}
use Rattle.lower.specs.Program.{lowered}
use Rattle.code_meaning.specs.Code.{CodeEnd, Ended, Trapped, Unfinished, Stuck, exec, code_start}
use Rattle.code_meaning.specs.Code.{IsOver}
use Rattle.c_tree.specs.Program.{tree_of}
use Rattle.c_types.specs.Tables.{tables_of}
use Rattle.lower_law.specs.Law.{ended_outcome, LowerLaw, TransactionLaw}
use Rattle.lower_law.specs.Accesses.{AccessesLaw}
use Rattle.lower_law.specs.Parameters.{ParametersLaw}
use Rattle.lower_law.proofs.runs.Functions.{keeps, keeps_accesses}
use Rattle.lower_law.proofs.runs.Entries.{transaction_keeps}
use Rattle.lower_law.proofs.names.BodyFits.{program_fits}
use Rattle.lower_law.proofs.locals.Kept.{keeps_parameters}

pub lower : LowerLaw
lower tree e = keeps (tables_of (tree_of tree)) tree (lowered tree) (program_fits tree e)

pub accesses : AccessesLaw
accesses tree e =
    keeps_accesses (tables_of (tree_of tree)) tree (lowered tree) (program_fits tree e)

-- a run with an outcome has ended
has_outcome : (e : CodeEnd) (o : Outcome) → ended_outcome e ≡ Some o → IsOver e
has_outcome (Ended w v t) o is = tt
has_outcome (Trapped k) o is = tt
has_outcome Unfinished o is = absurd (none-some o is)
has_outcome Stuck o is = tt

pub transaction : TransactionLaw
transaction tree e number f is w args n =
    let h = transaction_keeps tree (lower tree e) number f is w args n in
    let end : CodeEnd = exec (lowered tree) h.2.0 (code_start h.0 args w n) in
    (h.0, h.1, (end, (has_outcome end _ h.2.1, (h.2.0, refl)), h.2.1))

pub parameters : ParametersLaw
parameters tree e = keeps_parameters tree (program_fits tree e)
