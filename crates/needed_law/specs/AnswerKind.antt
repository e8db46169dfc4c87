-- Answers by what decides them: the source and the image that the command finds; or what the
-- source doesn't know, as when the power goes off.
use Rattle.std.specs.Prelude.{ℕ}
use Rattle.pmem.specs.declared.answer.Phase.{Phase}
use Rattle.cnvm_session.specs.declared.answer.Answer.{Answer}
use Rattle.cnvm_session.specs.declared.answer.Answer.TheVariants as answer

-- the source's answer; or the power went off in a phase of the seal, the device failed, memory was
-- wanting, the pool's numbers are at their limit, or a pick doesn't fit
pub data AnswerKind : Type 0 where
  Meant : AnswerKind
  CutOff : (at : Phase) → AnswerKind
  FaultCame NoRoom AtLimit : AnswerKind
  UnfitPick : (line : ℕ) → AnswerKind

abbrev pub answer_kind : Answer → AnswerKind
answer_kind (answer.Stopped at) = CutOff at
answer_kind answer.DeviceFault = FaultCame
answer_kind answer.NoMemory = NoRoom
answer_kind answer.RefusedNumbers = AtLimit
answer_kind (answer.RefusedPick line) = UnfitPick line
answer_kind a = Meant
