-- The effect of the code of `pm_new`, from its start with any registers: with the least free slot
-- it logs and stores the header, stores zeros, each logged if the fill is, and gives the slot; if
-- no slot is free it gives 0 and has stored nothing. It takes at most 39 steps if a slot has
-- 16 words, and 10 more for each further word, whatever the number of slots.
use Rattle.std.specs.Prelude.{ℕ, zero, suc, ◌+◌, ◌-◌, ◌*◌, ◌<◌, ◌≤◌, ◌≡◌, Bool, true, false}
use Rattle.std.specs.Prelude.{List, length, ℤ, pos}
use Rattle.cache_model.specs.Cache.{Words, put}
use Rattle.pool_layout.specs.declared.limits.Sizes.{Sizes}
use Rattle.pool_layout.specs.Sizes.{slot_words, slot_word}
use Rattle.pm_machine.specs.Find.{least}
use Rattle.pm_alloc.specs.Pieces.{new_code}
use Rattle.pm_alloc.specs.Runs.{Goes, local_run}
use Rattle.pm_alloc.specs.LocalRun.{World, local_stored, logged, searched, local_step}
use Rattle.pm_alloc.specs.Search.{temporaries, IsPool}

-- a store, with or without its log
abbrev pub wrote : Bool → World → ℕ → ℤ → World
wrote false w q v = local_stored w q v
wrote true w q v = local_stored (logged w q) q v

-- c zeros from word q on
abbrev pub zeroed : Bool → World → (q c : ℕ) → World
zeroed b w q zero = w
zeroed b w q (suc c) = zeroed b (wrote b w q (pos 0)) (q + 1) c

-- the result, by the slot that was found
abbrev pub world_after_new : Sizes → (kind c : ℕ) → Bool → World → ℕ → World
world_after_new s kind c b w zero = w
world_after_new s kind c b w (suc q) =
    zeroed b (wrote true w (slot_word s (suc q)) (pos kind)) (slot_word s (suc q) + 1) c

abbrev pub NewCodeLaw : Type 0
NewCodeLaw =
    (s : Sizes) (to kind c : ℕ) (b : Bool) (own : Words) (x : ℕ → ℤ) (w : World) → IsPool s →
    c < slot_words s → (n : ℕ) × (n ≤ 39 + 10 * (slot_words s - 16))
    × ((temp : List ℤ) × (local_run (local_step s (new_code s to kind c b)) n
    (record { at = 0; own = own; temp = temporaries x; world = w }) ≡ Goes (record {
      at = length (new_code s to kind c b);
      own = put own to (pos (least s w.heap));
      temp = temp;
      world = world_after_new s kind c b (searched s w) (least s w.heap);
    })))
