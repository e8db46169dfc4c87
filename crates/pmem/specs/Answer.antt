-- The answer of a list of events, from the result of playing it.
use Rattle.std.specs.Prelude.{Result, Ok, Err}
use Rattle.pmem.specs.declared.answer.Refusal.{Refusal}
use Rattle.pmem.specs.declared.answer.Refusal.TheVariants.{Off, Failed, NoMemory}
use Rattle.pmem.specs.declared.answer.LogAnswer.{LogAnswer}
use Rattle.pmem.specs.declared.answer.LogAnswer.TheVariants as log

abbrev pub answer_of : {A : Type 0} → Result A Refusal → LogAnswer
answer_of (Ok _) = log.Done
answer_of (Err Off) = log.Off
answer_of (Err Failed) = log.Failed
answer_of (Err NoMemory) = log.NoMemory
