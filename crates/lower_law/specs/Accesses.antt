-- The loads and stores of lowered code are the accesses of the tree, in their order: those that its
-- meaning makes, and no others. So which words a run stores, and what a store may have read before,
-- rest on the source; of the code only the site of a store is left.
use Rattle.std.specs.Prelude.{◌≡◌, ℕ, ℤ, List, [], map, Some, slice_get}
use Rattle.c_tree.specs.ItemTree.{FunctionTree}
use Rattle.c_tree.specs.Program.{Program, tree_of}
use Rattle.c_types.specs.Tables.{Tables, tables_of}
use Rattle.c_types.specs.Fault.{breaks}
use Rattle.pool_map.specs.PoolMap.{PoolMap}
use Rattle.c_meaning.specs.Meaning.{calls_of}
use Rattle.c_meaning.specs.Accesses.{Access, Loaded, Wrote, Headed, function_accesses, call_accesses}
use Rattle.ir.specs.declared.function.Ir.{Ir}
use Rattle.lower.specs.Program.{lowered}
use Rattle.code_meaning.specs.Code.{IsOver, exec, code_start}
use Rattle.code_meaning.specs.Deeds.{Deed, Reads, Writes, Heads, deeds}

-- an effect of the code as an access of the source, without its site
abbrev pub access_of : Deed → Access
access_of (Reads spot) = Loaded spot
access_of (Writes site spot word) = Wrote spot word
access_of (Heads site slot word) = Headed slot word

-- Each run of a function that has ended, with a value or by a trap, has done what its tree does,
-- called with n ticks while no other is open.
pub record KeepsAccesses (t : Tables) (ir : Ir) : Type 0 where
  pub done : (g : ℕ) (f : FunctionTree) (args : List ℤ) (w : PoolMap) (n k : ℕ)
      → slice_get t.functions g ≡ Some f → IsOver (exec ir k (code_start g args w n))
      → map access_of (deeds ir k (code_start g args w n))
      ≡ function_accesses t (calls_of t 255) (call_accesses t 255) f args w n

abbrev pub AccessesLaw : Type 0
AccessesLaw = (tree : Program) → breaks tree ≡ []
    → KeepsAccesses (tables_of (tree_of tree)) (lowered tree)
