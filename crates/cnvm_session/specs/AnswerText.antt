-- Each answer is one line that ends with LF, with these exceptions: the answer of `stop` and
-- `fault` has no line, and that of `show` has the lines of the pool; of `show dead`, in a pool that
-- a trap has ended, they come after a line `dead KIND`. The value of a transaction that returns
-- `uint64_t` is the number from 0 to 2^64 - 1 with its bits; that of `last` always has its sign,
-- since the pool keeps no type.
use Rattle.std.specs.Prelude.{ℕ, List, [], ◌++◌, codes}
use Rattle.std.specs.Fmt.{decimal, signed_decimal}
use Rattle.pmem.specs.declared.answer.Phase.{Phase}
use Rattle.pmem.specs.declared.answer.Phase.TheVariants.{Unsealed, Sealing, Sealed}
use Rattle.pool_map.specs.PoolText.{word_text}
use Rattle.pool_map.specs.Trap.{trap_name}
use Rattle.cnvm_session.specs.declared.answer.Answer.{Answer}
use Rattle.cnvm_session.specs.declared.answer.Answer.TheVariants.{Silent, Done, Trap, Aborted}
use Rattle.cnvm_session.specs.declared.answer.Answer.TheVariants.{Stopped, DeviceFault}
use Rattle.cnvm_session.specs.declared.answer.Answer.TheVariants.{RecoveredNone}
use Rattle.cnvm_session.specs.declared.answer.Answer.TheVariants.{RecoveredRedone, RecoveredTrap}
use Rattle.cnvm_session.specs.declared.answer.Answer.TheVariants.{RecoveredAborted, Shown}
use Rattle.cnvm_session.specs.declared.answer.Answer.TheVariants.{ShownDead, Last, NoMemory}
use Rattle.cnvm_session.specs.declared.answer.Answer.TheVariants.{RefusedDown, RefusedUnusable}
use Rattle.cnvm_session.specs.declared.answer.Answer.TheVariants.{RefusedUnknown, RefusedArity}
use Rattle.cnvm_session.specs.declared.answer.Answer.TheVariants.{RefusedNumbers, RefusedPick}

abbrev pub phase_name : Phase → List ℕ
phase_name Unsealed = codes "unsealed"
phase_name Sealing = codes "sealing"
phase_name Sealed = codes "sealed"

abbrev pub answer_text : Answer → List ℕ
answer_text Silent = []
answer_text (Done value unsigned logged) =
    codes "= " ++ (word_text unsigned value ++ (codes " log " ++ (decimal logged ++ codes "\n")))
answer_text (Trap kind) = codes "trap " ++ (trap_name kind ++ codes "\n")
answer_text (Aborted kind) = codes "aborted " ++ (trap_name kind ++ codes "\n")
answer_text (Stopped phase) = codes "stopped " ++ (phase_name phase ++ codes "\n")
answer_text DeviceFault = codes "device fault\n"
answer_text RecoveredNone = codes "recovered none\n"
answer_text (RecoveredRedone value unsigned logged) =
    codes "recovered redone " ++ (word_text unsigned value
    ++ (codes " log " ++ (decimal logged ++ codes "\n")))
answer_text (RecoveredTrap kind) = codes "recovered trap " ++ (trap_name kind ++ codes "\n")
answer_text (RecoveredAborted kind) =
    codes "recovered aborted " ++ (trap_name kind ++ codes "\n")
answer_text (Shown lines) = lines
answer_text (ShownDead kind lines) =
    codes "dead " ++ (trap_name kind ++ (codes "\n" ++ lines))
answer_text (Last done value) =
    codes "last " ++ (signed_decimal done ++ (codes " " ++ (signed_decimal value ++ codes "\n")))
answer_text NoMemory = codes "no memory\n"
answer_text RefusedDown = codes "refused down\n"
answer_text (RefusedUnusable kind) = codes "refused unusable " ++ (trap_name kind ++ codes "\n")
answer_text RefusedUnknown = codes "refused unknown\n"
answer_text RefusedArity = codes "refused arity\n"
answer_text RefusedNumbers = codes "refused numbers\n"
answer_text (RefusedPick line) = codes "refused pick " ++ (decimal line ++ codes "\n")
