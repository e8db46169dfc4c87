use Rattle.clap.specs.Words.{app_of}
use Rattle.cnvm_words.proofs.Simple.{fault_told}
use Rattle.cnvm_words.proofs.read.matches_of.Goals as goal

pub returns-clause-usage : goal.returns-clause-usage
returns-clause-usage c same =
    fault_told (app_of c.in_ok-command.command) _ c.in-Err.error c.in_ok-command.ensures.app
    c.in-Err.ensures.kinds (c.is_memory.ensures c.if-is_memory.false)
