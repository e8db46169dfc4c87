-- A call that only looks leaves the pool, as the source of a well typed program means it.
use Rattle.std.proofs.Common.{◌≡◌, true, false, Option, None, Some, refl}
use Rattle.std.specs.Option.{option_map_or}
use Rattle.std.proofs.lemmas.Bool.{false≢true}
use Rattle.pool_map.specs.PoolMap.{PoolMap}
use Rattle.c_tree.specs.declared.item.Marked.{Marked}
use Rattle.c_tree.specs.declared.item.Marked.TheVariants as mark
use Rattle.c_tree.specs.ItemTree.{FunctionTree}
use Rattle.c_types.specs.Transactions.{is_const}
use Rattle.rules_law.specs.typed.Programs.{IsWellTyped}
use Rattle.c_meaning.specs.Transaction.{Outcome, Done, Trap, transaction}
use Rattle.sound_law.specs.Law.{LeavesSame}
use Rattle.sound_law.proofs.Looks as sound
use Rattle.session_law.specs.State.{Pending}
use Rattle.user_law.specs.Source.{Source, looks, means}
use Rattle.user_law.specs.History.{pool_after}

const_is : (m : Marked) → is_const m ≡ true → m ≡ mark.Const
const_is mark.Plain is = absurd (false≢true is)
const_is mark.Abort is = absurd (false≢true is)
const_is mark.Const is = refl

same_after : (pool : PoolMap) (o : Outcome) → LeavesSame pool o → pool_after o pool ≡ pool
same_after pool (Done after value) same = same
same_after pool (Trap kind) same = refl

pub leaves : (p : Source) (pool : PoolMap) (call : Pending) → IsWellTyped p.tables
    → looks p call.tx ≡ true → pool_after (means p pool call) pool ≡ pool
leaves p pool call typed only = by_option (transaction p.tables call.tx) refl only
  where
    by_option : (o : Option FunctionTree) → transaction p.tables call.tx ≡ o
        → option_map_or (λ (f : FunctionTree). is_const f.mark) o false ≡ true
        → pool_after (means p pool call) pool ≡ pool
    by_option None named is = absurd (false≢true is)
    by_option (Some f) named is =
        same_after pool (means p pool call)
        (sound.looks p.tables typed call.tx f named (const_is f.mark is) pool call.args
        p.sizes.ticks)
