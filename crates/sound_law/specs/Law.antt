-- A checked program never asks for what isn't there. So where the meaning gives a value of its own,
-- only to be total, that value is never met.
use Rattle.std.specs.Prelude.{ℕ, ℤ, ◌≡◌, List, [], length, Some}
use Rattle.c_tree.specs.declared.item.Marked.TheVariants as mark
use Rattle.c_tree.specs.ItemTree.{FunctionTree}
use Rattle.c_tree.specs.Program.{Program, tree_of}
use Rattle.c_types.specs.Tables.{Tables, tables_of}
use Rattle.c_types.specs.Fault.{breaks}
use Rattle.c_types.specs.Shapes.{shapes_of}
use Rattle.pool_map.specs.declared.shapes.Shapes.{Shapes}
use Rattle.pool_map.specs.declared.trap.TrapKind.TheVariants.{LogFull}
use Rattle.pool_map.specs.PoolMap.{PoolMap}
use Rattle.pool_map.specs.PoolFits.{PoolFits}
use Rattle.rules_law.specs.typed.Programs.{IsWellTyped}
use Rattle.c_meaning.specs.Meaning.{calls_of}
use Rattle.c_meaning.specs.Transaction.{Outcome, Done, Trap, transaction, transaction_means}
use Rattle.sound_law.specs.Statements.{FunctionFinds, CallFinds}

-- the pool that is left fits; after a trap the meaning says nothing of it
abbrev pub LeavesFitting : Shapes → Outcome → Type 0
LeavesFitting shapes (Done p v) = PoolFits shapes p
LeavesFitting shapes (Trap k) = Unit {0}

-- what a transaction asks for, when 255 more functions may be opened, is there
abbrev pub TransactionFinds : Tables → FunctionTree → PoolMap → List ℤ → ℕ → Type 0
TransactionFinds t f p args ticks =
    FunctionFinds t (calls_of t 255) (λ f vs p k. CallFinds t 255 f vs p k) f args p ticks

-- A transaction of a tree that breaks no rule, called with an argument for each parameter on a pool
-- that fits the program's shapes, finds all that it asks for, and leaves a pool that fits.
abbrev pub SoundLaw : Type 0
SoundLaw = (tree : Program) → breaks tree ≡ [] → (number : ℕ) (f : FunctionTree)
    → transaction (tables_of (tree_of tree)) number ≡ Some f
    → (p : PoolMap) (args : List ℤ) (ticks : ℕ)
    → PoolFits (shapes_of tree) p → length args ≡ length f.parameters
    → TransactionFinds (tables_of (tree_of tree)) f p args ticks
    × LeavesFitting (shapes_of tree)
    (transaction_means (tables_of (tree_of tree)) p number args ticks)

-- A source has no log: by its source no transaction traps with a full log.
abbrev pub NeverFullLaw : Type 0
NeverFullLaw = (t : Tables) (p : PoolMap) (number : ℕ) (args : List ℤ) (ticks : ℕ)
    → transaction_means t p number args ticks ≡ Trap LogFull → ⊥

-- the pool that is left is this one; after a trap the meaning says nothing of it
abbrev pub LeavesSame : PoolMap → Outcome → Type 0
LeavesSame before (Done p v) = p ≡ before
LeavesSame before (Trap k) = Unit {0}

-- A transaction of a well typed program that is marked `const` leaves the pool as it was.
abbrev pub LooksLaw : Type 0
LooksLaw = (t : Tables) → IsWellTyped t → (number : ℕ) (f : FunctionTree)
    → transaction t number ≡ Some f → f.mark ≡ mark.Const
    → (p : PoolMap) (args : List ℤ) (ticks : ℕ)
    → LeavesSame p (transaction_means t p number args ticks)
