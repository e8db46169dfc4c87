-- Code whose values are words: its registers, those of its callers, the pool's words and the code's
-- constants are from -2^63 to 2^63 - 1. A run of such code from such a state has only words.
use Rattle.std.specs.Prelude.{ℕ, ◌<◌, ◌^◌, List, length, ℤ}
use Rattle.std.specs.List.{AllByRecursion}
use Rattle.nvm_base.specs.Wrap.{IsWord}
use Rattle.pool_map.specs.PoolMap.{PoolMap}
use Rattle.ir.specs.declared.function.Ir.{Ir}
use Rattle.code_meaning.specs.Code.{Spot, Frame, frame, CodeState, Here, CodeEnd, Ended, Trapped}
use Rattle.code_meaning.specs.Code.{Unfinished, Stuck, Move, Goes, Ends, register_at, load_spot}
use Rattle.code_meaning.specs.Code.{instruction_step}
use Rattle.code_meaning.specs.Constants.{HasWordConstants}

abbrev pub HoldWords : List ℤ → Type 0
HoldWords regs = (r : ℕ) → IsWord (register_at regs r)

-- the words of a pool, and the numbers of its slots, are words
pub record HasWords (w : PoolMap) : Type 0 where
  pub word : (x : Spot) → IsWord (load_spot w x)
  pub slots : length w.slots < 2 ^ 63

abbrev pub IsWordFrame : Frame → Type 0
IsWordFrame (frame f p regs to) = HoldWords regs

abbrev pub IsWordState : CodeState → Type 0
IsWordState (Here f p regs below w t) = HoldWords regs × AllByRecursion IsWordFrame below
    × HasWords w

abbrev pub IsWordEnd : CodeEnd → Type 0
IsWordEnd (Ended w v t) = HasWords w × IsWord v
IsWordEnd (Trapped k) = Unit {0}
IsWordEnd Unfinished = Unit {0}
IsWordEnd Stuck = Unit {0}

abbrev pub IsWordMove : Move → Type 0
IsWordMove (Goes c) = IsWordState c
IsWordMove (Ends e) = IsWordEnd e

abbrev pub WordsLaw : Type 0
WordsLaw = (ir : Ir) (c : CodeState) → HasWordConstants ir.functions → IsWordState c
    → IsWordMove (instruction_step ir c)
