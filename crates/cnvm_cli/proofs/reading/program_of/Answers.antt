use Rattle.std.proofs.Common.{Some, sym, subst}
use Rattle.cnvm_cli.specs.declared.refused.Refused.{Refused}
use Rattle.cnvm_cli.specs.Verdict.{ProgramRefuses}
use Rattle.cnvm_cli.proofs.texts.Verdicts.{told_refuses}
use Rattle.cnvm_cli.proofs.reading.program_of.Goals as goal

pub returns-in-Err-clause-is : goal.returns-in-Err-clause-is
returns-in-Err-clause-is c =
    subst (λ (why : Refused). ProgramRefuses (Some c.args.text.now) why)
    (sym c.refused_by.ensures.value)
    (told_refuses c.args.text.now c.in-Err.fault c.told_of.result (sym c.told_of.ensures)
    c.in-Err.ensures.refused)
