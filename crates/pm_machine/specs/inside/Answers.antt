-- What only bodies and proofs need beside `Answers`.
use Rattle.std.specs.Prelude.{Result, Ok, Err}
use Rattle.pmem.specs.declared.answer.Refusal.{Refusal}
use Rattle.pmem.specs.declared.answer.Refusal.TheVariants as refusal
use Rattle.pm_machine.specs.declared.effect.End.{End}
use Rattle.pm_machine.specs.declared.effect.End.TheVariants as end
use Rattle.pm_machine.specs.declared.answer.RunAnswer.{RunAnswer}
use Rattle.pm_machine.specs.declared.answer.RunAnswer.TheVariants as run

abbrev pub run_answer : Result End Refusal → RunAnswer
run_answer (Ok (end.Halted v)) = run.Halted v
run_answer (Ok (end.Trapped k)) = run.Trapped k
run_answer (Err refusal.Off) = run.Off
run_answer (Err refusal.Failed) = run.Failed
run_answer (Err refusal.NoMemory) = run.NoMemory
