-- The effect of the checks of a pointer, and of the code of `pm_free` after them: null and stale
-- trap as the source says, by the pointer's number and the header of its slot; else the header is
-- loaded, logged and set to 0.
use Rattle.std.specs.Prelude.{ℕ, zero, suc, ◌+◌, ◌*◌, ◌≤◌, ◌≡◌, ◌==◌, if◌then◌else◌, nat_lt}
use Rattle.std.specs.Prelude.{true, List, [], ◌∷◌, ◌++◌, length, ℤ, pos, negsuc}
use Rattle.nvm_base.specs.Operations.{unsigned}
use Rattle.nvm_base.specs.Wrap.{IsWord}
use Rattle.cache_model.specs.Cache.{Words}
use Rattle.pool_layout.specs.declared.limits.Sizes.{Sizes}
use Rattle.pool_layout.specs.Sizes.{slot_words, slot_word}
use Rattle.pm_machine.specs.declared.effect.Effect.TheVariants.{Loads}
use Rattle.pm_alloc.specs.declared.local.Local.{Local}
use Rattle.pm_alloc.specs.Pieces.{pointer_check, free_code}
use Rattle.pm_alloc.specs.Runs.{Goes, Traps, local_run}
use Rattle.pm_alloc.specs.LocalRun.{World, Loc, see, local_step}
use Rattle.pm_alloc.specs.Search.{temporaries, IsPool}
use Rattle.pm_alloc.specs.New.{wrote}

-- what a pointer is: null, no slot, a slot that has no object of the kind, or a slot that has one
pub data Looked : Type 0 where
  Null : Looked
  Outside : Looked
  Other : (slot : ℕ) → Looked
  Is : (slot : ℕ) → Looked

-- decided by the header of a slot
abbrev pub by_header : (kind slot : ℕ) → ℤ → Looked
by_header kind q z = if unsigned z == unsigned (pos kind) then Is q else Other q

abbrev pub look : Sizes → Words → (kind : ℕ) → ℤ → Looked
look s heap kind (pos zero) = Null
look s heap kind (pos (suc n)) = if nat_lt (suc n) (s.slots + 1)
    then by_header kind (suc n) (heap (slot_word s (suc n))) else Outside
look s heap kind (negsuc n) = Outside

abbrev pub header_seen : Sizes → World → ℕ → World
header_seen s w q = see w (Loads (slot_word s q))

abbrev pub local_start : Words → (ℕ → ℤ) → World → Loc
local_start own x w = record { at = 0; own = own; temp = temporaries x; world = w }

-- the result of the checks; after them temporary 0 holds W times the slot
abbrev pub Checked : Sizes → List Local → (own x : ℕ → ℤ) → World → ℕ → Looked → Type 0
Checked s code own x w n Null = local_run (local_step s code) n (local_start own x w) ≡ Traps 1 w
Checked s code own x w n Outside = local_run (local_step s code) n (local_start own x w) ≡ Traps 2 w
Checked s code own x w n (Other q) = local_run (local_step s code) n (local_start own x w)
    ≡ Traps 2 (header_seen s w q)
Checked s code own x w n (Is q) =
    (u : ℤ) × (v : ℤ) × (local_run (local_step s code) n (local_start own x w)
    ≡ Goes (record {
      at = 12;
      own = own;
      temp = pos (q * slot_words s) ∷ u ∷ v ∷ x 3 ∷ x 4 ∷ x 5 ∷ x 6 ∷ x 7
          ∷ [];
      world = header_seen s w q;
    }))

-- the checks of a register that holds a word take at most 11 steps, whatever follows them
abbrev pub PointerLaw : Type 0
PointerLaw = (s : Sizes) (p kind : ℕ) (rest : List Local) (own x : ℕ → ℤ) (w : World) → IsPool s
    → IsWord (own p) → (n : ℕ) × (n ≤ 11) × Checked s (pointer_check s p kind ++ rest) own x w n
    (look s w.heap kind (own p))

abbrev pub Freed : Sizes → (p kind : ℕ) → (own x : ℕ → ℤ) → World → ℕ → Looked → Type 0
Freed s p kind own x w n Null =
    local_run (local_step s (free_code s p kind)) n (local_start own x w) ≡ Traps 1 w
Freed s p kind own x w n Outside =
    local_run (local_step s (free_code s p kind)) n (local_start own x w) ≡ Traps 2 w
Freed s p kind own x w n (Other q) =
    local_run (local_step s (free_code s p kind)) n (local_start own x w)
    ≡ Traps 2 (header_seen s w q)
Freed s p kind own x w n (Is q) =
    (temp : List ℤ) × (local_run (local_step s (free_code s p kind)) n (local_start own x w)
    ≡ Goes (record {
      at = length (free_code s p kind);
      own = own;
      temp = temp;
      world = wrote true (header_seen s w q) (slot_word s q) (pos 0);
    }))

-- `pm_free` takes at most 14 steps
abbrev pub FreeLaw : Type 0
FreeLaw = (s : Sizes) (p kind : ℕ) (own x : ℕ → ℤ) (w : World) → IsPool s → IsWord (own p)
    → (n : ℕ) × (n ≤ 14) × Freed s p kind own x w n (look s w.heap kind (own p))
