-- The search for a free slot in the code of `pm_new`: its first step, which only loads headers.
use Rattle.std.specs.Prelude.{ℕ, ◌≤◌, ◌≡◌, Bool, List, [], ◌∷◌, ℤ, pos}
use Rattle.cache_model.specs.Cache.{Words}
use Rattle.pool_layout.specs.declared.limits.Sizes.{Sizes}
use Rattle.pool_layout.specs.Sizes.{root_lines}
use Rattle.pool_map.specs.declared.limits.TheConstants.{SLOTS}
use Rattle.pm_machine.specs.Find.{least}
use Rattle.pm_alloc.specs.Pieces.{new_code}
use Rattle.pm_alloc.specs.Runs.{Goes, local_run}
use Rattle.pm_alloc.specs.LocalRun.{World, searched, local_step}

-- eight temporary registers with any words
abbrev pub temporaries : (ℕ → ℤ) → List ℤ
temporaries x = x 0 ∷ x 1 ∷ x 2 ∷ x 3 ∷ x 4 ∷ x 5 ∷ x 6 ∷ x 7 ∷ []

pub record IsPool (s : Sizes) : Type 0 where
  pub some : 1 ≤ s.slots
  pub few : s.slots ≤ SLOTS
  pub lines : root_lines s ≤ 8192

-- After one step from its start, with any registers, the code of `pm_new` has the least free slot
-- in temporary 0, or 0 if none is free; it has loaded headers and done nothing else.
abbrev pub SearchLaw : Type 0
SearchLaw = (s : Sizes) (to kind c : ℕ) (b : Bool) (own : Words) (x : ℕ → ℤ) (w : World) →
    local_run (local_step s (new_code s to kind c b)) 1
    (record { at = 0; own = own; temp = temporaries x; world = w })
    ≡ Goes (record {
      at = 1;
      own = own;
      temp = pos (least s w.heap) ∷ x 1 ∷ x 2 ∷ x 3 ∷ x 4 ∷ x 5
          ∷ x 6 ∷ x 7 ∷ [];
      world = searched s w;
    })
