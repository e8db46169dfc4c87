-- The texts of the lines that answer the commands of a script of workers: an answer is written as
-- in a session, after the number of its worker where it names one.
use Rattle.std.specs.Prelude.{ℕ, List, ◌++◌, codes}
use Rattle.std.specs.Fmt.{decimal}
use Rattle.cnvm_session.specs.AnswerText.{answer_text}
use Rattle.workers_session.specs.declared.line.WorkersLine.{WorkersLine}
use Rattle.workers_session.specs.declared.line.WorkersLine.TheVariants.{Own, Plain, Started}
use Rattle.workers_session.specs.declared.line.WorkersLine.TheVariants.{RefusedWorker, RefusedBusy}
use Rattle.workers_session.specs.declared.line.WorkersLine.TheVariants.{RefusedAbort}

abbrev pub line_text : WorkersLine → List ℕ
line_text (Own worker answer) = decimal worker ++ (codes " " ++ answer_text answer)
line_text (Plain answer) = answer_text answer
line_text (Started worker) = codes "started " ++ (decimal worker ++ codes "\n")
line_text (RefusedWorker worker) = codes "refused worker " ++ (decimal worker ++ codes "\n")
line_text (RefusedBusy worker) = codes "refused busy " ++ (decimal worker ++ codes "\n")
line_text RefusedAbort = codes "refused abort\n"
