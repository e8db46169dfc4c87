-- What a clause can say of the two answers of a read or a write: a number of bytes, or a failure.
use Rattle.std.specs.Prelude.{ℕ, ⊤}
use Rattle.nvm_base.specs.declared.source.ReadAnswer.{ReadAnswer}
use Rattle.nvm_base.specs.declared.source.ReadAnswer.TheVariants as read
use Rattle.nvm_base.specs.declared.sink.WriteAnswer.{WriteAnswer}
use Rattle.nvm_base.specs.declared.sink.WriteAnswer.TheVariants as write

-- P holds of the number of bytes that a read gave, if it gave one
abbrev pub IfRead : ReadAnswer → (ℕ → Type 0) → Type 0
IfRead (read.Count n) P = P n
IfRead read.Failed P = ⊤

-- P holds, if the read failed
abbrev pub OnReadFailed : ReadAnswer → Type 0 → Type 0
OnReadFailed (read.Count n) P = ⊤
OnReadFailed read.Failed P = P

-- P holds of the number of bytes that a write took, if it took any
abbrev pub IfWritten : WriteAnswer → (ℕ → Type 0) → Type 0
IfWritten (write.Count n) P = P n
IfWritten write.Failed P = ⊤

-- P holds, if the write failed
abbrev pub OnWriteFailed : WriteAnswer → Type 0 → Type 0
OnWriteFailed (write.Count n) P = ⊤
OnWriteFailed write.Failed P = P
