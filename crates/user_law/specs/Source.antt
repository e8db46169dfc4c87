-- A program as its user knows it: the declarations of its text, and the sizes of its pool. What a
-- call comes to is a function of these, of the pool that the call finds, and of one number, how
-- many log records the call takes. That number is a function too, chosen once for a text.
use Rattle.std.specs.Prelude.{ℕ, suc, if◌then◌else◌, nat_lt, Bool, false, List, length, map}
use Rattle.std.specs.Prelude.{Option, option_map}
use Rattle.std.specs.Option.{option_map_or}
use Rattle.cache_model.specs.Cache.{Words}
use Rattle.c_lexer.specs.TokenList.{Tokens}
use Rattle.c_constants.specs.Left.{LeavesTokens}
use Rattle.c_tree.specs.ItemTree.{ItemTree, FunctionTree}
use Rattle.c_tree.specs.ItemSpelling.{SpellsProgram}
use Rattle.c_types.specs.Transactions.{is_abort, is_const}
use Rattle.c_types.specs.Tables.{Tables, tables_of, index_of}
use Rattle.c_types.specs.Shapes.{shapes_in, transactions_in, is_unsigned}
use Rattle.rules_law.specs.typed.Programs.{IsWellTyped}
use Rattle.c_meaning.specs.Transaction.{Outcome, Trap, transaction, transaction_means}
use Rattle.pool_layout.specs.declared.limits.Sizes.{Sizes}
use Rattle.pool_map.specs.declared.trap.TrapKind.TheVariants.{LogFull}
use Rattle.pool_map.specs.PoolMap.{PoolMap}
use Rattle.pm_machine.specs.HeapPool.{heap_of, pool_in}
use Rattle.session_law.specs.State.{Pending}

-- The tokens that the text's constants leave spell these items, and the items are well typed.
pub record HasItems (text : List ℕ) (items : List ItemTree) : Type 0 where
  pub list : Tokens
  pub left : LeavesTokens text list
  pub spelled : SpellsProgram list.tokens items
  pub typed : IsWellTyped (tables_of items)

-- how many log records a call takes on a pool
abbrev pub Logs : Type 0
Logs = PoolMap → Pending → ℕ

-- The structs, the root and the functions of the program; the slots, log records, root words and
-- ticks of its pool; how many tokens its text has; and how many log records each call takes.
pub record Source : Type 0 where
  pub tables : Tables
  pub sizes : Sizes
  pub tokens : ℕ
  pub logged : Logs

-- the number of the transaction of that name, counted from 1 in the order of the text
abbrev pub number_named : Source → List ℕ → Option ℕ
number_named p name = option_map suc
    (index_of name (map (λ (f : FunctionTree). f.name.text) (transactions_in p.tables.functions)))

abbrev pub arity_of : Source → (tx : ℕ) → Option ℕ
arity_of p tx =
    option_map (λ (f : FunctionTree). length f.parameters) (transaction p.tables tx)

-- whether the transaction is marked `abort`: where it traps, it is rolled back
abbrev pub rolls_back : Source → (tx : ℕ) → Bool
rolls_back p tx = option_map_or (λ (f : FunctionTree). is_abort f.mark)
    (transaction p.tables tx) false

-- whether the transaction is marked `const`: it only looks at the pool
abbrev pub looks : Source → (tx : ℕ) → Bool
looks p tx = option_map_or (λ (f : FunctionTree). is_const f.mark)
    (transaction p.tables tx) false

-- whether the transaction returns `uint64_t`
abbrev pub gives_unsigned : Source → (tx : ℕ) → Bool
gives_unsigned p tx =
    option_map_or (λ (f : FunctionTree). option_map_or is_unsigned f.result_type false)
    (transaction p.tables tx) false

-- what the source means of a call on a pool: the pool after it and a value, or a trap
abbrev pub means : Source → PoolMap → Pending → Outcome
means p pool call = transaction_means p.tables pool call.tx call.args p.sizes.ticks

-- What a call comes to on a pool: a full log if it takes more records than the log has; else what
-- the source means.
abbrev pub comes_to : Source → PoolMap → Pending → Outcome
comes_to p pool call =
    if nat_lt p.sizes.records (p.logged pool call) then Trap LogFull else means p pool call

-- the pool that an image holds
abbrev pub pool_of_image : Source → Words → PoolMap
pool_of_image p image = pool_in (shapes_in p.tables) p.sizes (heap_of p.sizes image)
