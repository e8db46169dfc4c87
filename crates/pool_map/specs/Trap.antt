-- The traps have the numbers 1 to 8 and the names that answers print.
use Rattle.std.specs.Prelude.{ℕ, List, [], ◌∷◌, Option, ◌==◌, codes, find}
use Rattle.pool_map.specs.declared.trap.TrapKind.{TrapKind}
use Rattle.pool_map.specs.declared.trap.TrapKind.TheVariants.{Null, Stale, Index, Divide, Steps}
use Rattle.pool_map.specs.declared.trap.TrapKind.TheVariants.{Abort, LogFull, Depth}

-- the traps, in the order of their numbers
abbrev pub traps : List TrapKind
traps = Null ∷ Stale ∷ Index ∷ Divide ∷ Steps ∷ Abort ∷ LogFull ∷ Depth ∷ []

abbrev pub trap_number : TrapKind → ℕ
trap_number Null = 1
trap_number Stale = 2
trap_number Index = 3
trap_number Divide = 4
trap_number Steps = 5
trap_number Abort = 6
trap_number LogFull = 7
trap_number Depth = 8

abbrev pub trap_name : TrapKind → List ℕ
trap_name Null = codes "null"
trap_name Stale = codes "stale"
trap_name Index = codes "index"
trap_name Divide = codes "divide"
trap_name Steps = codes "steps"
trap_name Abort = codes "abort"
trap_name LogFull = codes "logfull"
trap_name Depth = codes "depth"

-- the trap of that number, if there is one
abbrev pub trap_of : ℕ → Option TrapKind
trap_of n = find (λ kind. trap_number kind == n) traps
