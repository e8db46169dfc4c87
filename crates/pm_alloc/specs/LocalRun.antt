-- Running a piece of code alone on a heap: places are counted from its start, the function's
-- registers are words by their numbers, and its temporary registers a list. The effects are kept,
-- the newest first.
use Rattle.std.specs.Prelude.{ℕ, zero, suc, ◌+◌, List, ◌∷◌, Option, Some}
use Rattle.std.specs.Prelude.{None, ℤ, pos, negsuc, ◌+ℤ◌, slice_get, get_or, set}
use Rattle.std.specs.Int.{w64, int_wrap}
use Rattle.nvm_base.specs.Applied.{applied}
use Rattle.cache_model.specs.Cache.{Words, put}
use Rattle.pool_layout.specs.declared.limits.Sizes.{Sizes}
use Rattle.pool_layout.specs.Sizes.{heap_words, slot_words, slot_word}
use Rattle.pm_machine.specs.declared.effect.Effect.{Effect}
use Rattle.pm_machine.specs.declared.effect.Effect.TheVariants.{Loads, Scans, Stores, Logs}
use Rattle.pm_machine.specs.Find.{least, looks}
use Rattle.pm_machine.specs.Machine.{word_at}
use Rattle.pm_alloc.specs.declared.local.Reg.{Reg}
use Rattle.pm_alloc.specs.declared.local.Reg.TheVariants.{Own, Temp}
use Rattle.pm_alloc.specs.declared.local.Local.{Local}
use Rattle.pm_alloc.specs.declared.local.Local.TheVariants.{Const, Mov, Bin, Jmp, Jz, Load, Store}
use Rattle.pm_alloc.specs.declared.local.Local.TheVariants.{Find, Log, Tick, Trap}
use Rattle.pm_alloc.specs.Runs.{Next, Goes, Traps, Off}

-- the state that the piece shares with all other code
pub record World : Type 0 where
  pub heap : Words
  pub seen : List Effect
  pub ticks : ℕ

pub record Loc : Type 0 where
  pub at : ℕ
  pub own : Words
  pub temp : List ℤ
  pub world : World

abbrev pub branch_at_zero : {A : Type 0} → ℤ → A → A → A
branch_at_zero (pos zero) a b = a
branch_at_zero (pos (suc n)) a b = b
branch_at_zero (negsuc n) a b = b

abbrev pub local_read : Words → List ℤ → Reg → ℤ
local_read own temp (Own r) = own r
local_read own temp (Temp j) = get_or temp j (pos 0)

abbrev pub local_write : ℕ → Words → List ℤ → World → Reg → ℤ → Loc
local_write at own temp w (Own r) x = record { at = at; own = put own r x; temp = temp; world = w }
local_write at own temp w (Temp j) x = record { at = at; own = own; temp = set temp j x; world = w }

abbrev pub go_to : Loc → ℕ → Loc
go_to l at = record { at = at; own = l.own; temp = l.temp; world = l.world }

abbrev pub local_next : Loc → World → Loc
local_next l w = record { at = l.at + 1; own = l.own; temp = l.temp; world = w }

abbrev pub see : World → Effect → World
see w e = record { heap = w.heap; seen = e ∷ w.seen; ticks = w.ticks }

-- the headers that a search for a free slot loads
abbrev pub searched : Sizes → World → World
searched s w = see w (Scans (slot_word s 1) (slot_words s) (looks s w.heap))

-- a word stored
abbrev pub local_stored : World → ℕ → ℤ → World
local_stored w q v = record {
  heap = put w.heap q v;
  seen = Stores q v ∷ w.seen;
  ticks = w.ticks;
}

-- LOG asks for a record of a word
abbrev pub logged : World → ℕ → World
logged w q = see w (Logs q)

abbrev pub local_load : Loc → Reg → Option ℕ → Next World Loc
local_load l r None = Goes (local_write (l.at + 1) l.own l.temp l.world r (pos 0))
local_load l r (Some w) = Goes (local_write (l.at + 1) l.own l.temp (see l.world (Loads w)) r
    (l.world.heap w))

abbrev pub local_store : Loc → ℤ → Option ℕ → Next World Loc
local_store l x None = Goes (local_next l l.world)
local_store l x (Some w) = Goes (local_next l (local_stored l.world w x))

abbrev pub local_log : Loc → Option ℕ → Next World Loc
local_log l None = Goes (local_next l l.world)
local_log l (Some w) = Goes (local_next l (logged l.world w))

abbrev pub local_tick : Loc → ℕ → Next World Loc
local_tick l zero = Traps 5 l.world
local_tick l (suc n) = Goes (local_next l
    (record { heap = l.world.heap; seen = l.world.seen; ticks = n }))

-- the heap word at a + o, where the sum wraps
abbrev pub local_target : Sizes → ℤ → ℤ → Option ℕ
local_target s a o = word_at (heap_words s) (int_wrap w64 (a +ℤ o))

abbrev pub local_act : Sizes → Loc → Option Local → Next World Loc
local_act s l None = Off
local_act s l (Some (Const r v)) = Goes (local_write (l.at + 1) l.own l.temp l.world r v)
local_act s l (Some (Mov r a)) =
    Goes (local_write (l.at + 1) l.own l.temp l.world r (local_read l.own l.temp a))
local_act s l (Some (Bin o r a b)) =
    Goes (local_write (l.at + 1) l.own l.temp l.world r
    (applied o (local_read l.own l.temp a) (local_read l.own l.temp b)))
local_act s l (Some (Jmp t)) = Goes (go_to l t)
local_act s l (Some (Jz a t)) =
    branch_at_zero (local_read l.own l.temp a) (Goes (go_to l t)) (Goes (go_to l (l.at + 1)))
local_act s l (Some (Load r a o)) = local_load l r (local_target s (local_read l.own l.temp a) o)
local_act s l (Some (Store a o b)) =
    local_store l (local_read l.own l.temp b) (local_target s (local_read l.own l.temp a) o)
local_act s l (Some (Find r)) =
    Goes (local_write (l.at + 1) l.own l.temp (searched s l.world) r (pos (least s l.world.heap)))
local_act s l (Some (Log a o)) =
    local_log l (local_target s (local_read l.own l.temp a) o)
local_act s l (Some Tick) = local_tick l l.world.ticks
local_act s l (Some (Trap k)) = Traps k l.world

abbrev pub local_step : Sizes → List Local → Loc → Next World Loc
local_step s code l = local_act s l (slice_get code l.at)
