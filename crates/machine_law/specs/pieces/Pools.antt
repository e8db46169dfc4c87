-- A heap with valid headers stands for the pool that it holds, and each instruction keeps that the
-- pool fits.
use Rattle.std.specs.Prelude.{ℕ, ◌≡◌, List, length}
use Rattle.std.specs.Prelude.{Some, ℤ}
use Rattle.cache_model.specs.Cache.{Words}
use Rattle.pool_layout.specs.declared.limits.Sizes.{Sizes}
use Rattle.pool_layout.specs.Headers.{HasHeaders}
use Rattle.pm_machine.specs.HeapPool.{pool_in}
use Rattle.pool_map.specs.declared.shapes.Shapes.{Shapes}
use Rattle.pool_map.specs.PoolFits.{PoolFits}
use Rattle.pool_map.specs.PoolMap.{PoolMap}
use Rattle.ir.specs.declared.function.Ir.{Ir}
use Rattle.ir.specs.declared.instruction.Instruction.{Instruction}
use Rattle.ir.specs.WellFormed.{IsInstruction}
use Rattle.code_meaning.specs.Code.{Frame, Here, CodeEnd, Ended, Trapped, Unfinished, Stuck, Move}
use Rattle.code_meaning.specs.Code.{Goes, Ends, act}
use Rattle.machine_law.specs.pieces.Stands.{Stands}
use Rattle.machine_law.specs.pieces.Fits.{IsFit}

-- A heap with valid headers stands for its pool, which fits.
abbrev pub PoolLaw : Type 0
PoolLaw = (s : Sizes) (shapes : Shapes) (heap : Words) → IsFit s shapes
    → HasHeaders s (length shapes.structs) heap →
    Stands s heap (pool_in shapes s heap) × PoolFits shapes (pool_in shapes s heap)

-- A heap that stands for a pool that fits has valid headers, and stands for no other pool.
abbrev pub HeadersLaw : Type 0
HeadersLaw = (s : Sizes) (shapes : Shapes) (heap : Words) (w : PoolMap) → IsFit s shapes
    → PoolFits shapes w → Stands s heap w →
    HasHeaders s (length shapes.structs) heap × (w ≡ pool_in shapes s heap)

abbrev pub FitsEnd : Shapes → CodeEnd → Type 0
FitsEnd shapes (Ended w v t) = PoolFits shapes w
FitsEnd shapes (Trapped k) = Unit {0}
FitsEnd shapes Unfinished = Unit {0}
FitsEnd shapes Stuck = Unit {0}

abbrev pub FitsMove : Shapes → Move → Type 0
FitsMove shapes (Goes (Here f p regs below w t)) = PoolFits shapes w
FitsMove shapes (Ends e) = FitsEnd shapes e

-- The pool still fits after an instruction.
abbrev pub FitsLaw : Type 0
FitsLaw = (ir : Ir) (r n f p t : ℕ) (i : Instruction) (regs : List ℤ) (below : List Frame)
    (w : PoolMap) →
    IsInstruction ir r n i → PoolFits ir.shapes w
    → FitsMove ir.shapes (act ir (Some i) f p regs below w t)
