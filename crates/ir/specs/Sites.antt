-- The store sites of a program, in code order: function by function, and in each function
-- instruction by instruction. A store and a free have one site each; a new has two, first its
-- header's and then its fill's.
use Rattle.std.specs.Prelude.{ℕ, ◌+◌, List, [], ◌∷◌, ◌++◌, true, false}
use Rattle.ir.specs.declared.instruction.Instruction.{Instruction}
use Rattle.ir.specs.declared.instruction.Instruction.TheVariants.{Const, Copy, Bin, Jump, Branch}
use Rattle.ir.specs.declared.instruction.Instruction.TheVariants.{Load, Store, New, Free, Call}
use Rattle.ir.specs.declared.instruction.Instruction.TheVariants.{Return, Tick, Trap, Log}
use Rattle.ir.specs.declared.function.IrFunction.{IrFunction}
use Rattle.ir.specs.declared.site.Site.{Site}

-- the sites of the instruction at place p of function f
abbrev pub sites_at : ℕ → ℕ → Instruction → List Site
sites_at f p (Store target from line) = record { function = f; place = p; fill = false } ∷ []
sites_at f p (New to kind log_fill line) = record { function = f; place = p; fill = false }
    ∷ record { function = f; place = p; fill = true } ∷ []
sites_at f p (Free from kind line) = record { function = f; place = p; fill = false } ∷ []
sites_at f p (Const to value) = []
sites_at f p (Copy to from) = []
sites_at f p (Bin op to left right) = []
sites_at f p (Jump place) = []
sites_at f p (Branch on place) = []
sites_at f p (Load to target) = []
sites_at f p (Call to function args) = []
sites_at f p (Return from) = []
sites_at f p Tick = []
sites_at f p (Trap kind) = []
sites_at f p (Log target) = []

-- the sites of the instructions from place p of function f on
abbrev pub sites_from : ℕ → ℕ → List Instruction → List Site
sites_from f p [] = []
sites_from f p (i ∷ is) = sites_at f p i ++ sites_from f (p + 1) is

-- the sites of the functions from function f on
abbrev pub sites_of : ℕ → List IrFunction → List Site
sites_of f [] = []
sites_of f (u ∷ us) = sites_from f 0 u.code ++ sites_of (f + 1) us
