-- A new and a free. If the fill of a new stores to a word that was read, a free was passed, since
-- the slot is empty.
use Rattle.std.proofs.Common.{◌≡◌, ℕ, suc, ℤ, pos, Bool, true, false, List, [], ◌∷◌, ◌++◌, Option}
use Rattle.std.proofs.Common.{None, Some, Result, Ok, Err, refl, subst, inl, inr, ⊎_elim}
use Rattle.pool_map.specs.declared.trap.TrapKind.{TrapKind}
use Rattle.pool_map.specs.PoolFits.{words_of}
use Rattle.pool_map.specs.PoolMap.{PoolMap, IsSlot, object_at, least_free, new, free}
use Rattle.pool_map.proofs.Least.{least_free-some}
use Rattle.ir.specs.declared.instruction.Instruction.TheVariants.{New, Free}
use Rattle.ir.specs.declared.function.Ir.{Ir}
use Rattle.ir.specs.declared.site.Site.{Site}
use Rattle.ir.specs.Places.{instruction_at}
use Rattle.ir.specs.WellFormed.{IsWellFormed}
use Rattle.ir.specs.Walk as walk
use Rattle.ir.specs.Walk.{Kept, Open, Comes, facts_after}
use Rattle.ir.specs.Clobber.{IsLogged, IsClobberFill}
use Rattle.code_meaning.specs.Code.{CodeState, Here, Frame, Goes, Spot, InRoot, InSlot, register_at}
use Rattle.pool_map.specs.Checks.{then_on, new_at}
use Rattle.code_meaning.specs.Code.{put_register, slot_of, fields_of, with_ok}
use Rattle.code_meaning.specs.Deeds.{Deed, Heads, if_ok, site, deeds_new, deeds_on}
use Rattle.code_meaning.specs.Parameters.{KeepsParameters}
use Rattle.log_law.proofs.covered.Spots.{Known, Stays, sure_stays}
use Rattle.log_law.proofs.covered.Knowing.{freed_known}
use Rattle.log_law.proofs.covered.Fills.{Filled, first_zeros, input_zeros}
use Rattle.log_law.proofs.covered.Pools.{kind_is_slot, empty_kind, new_stays, new_leaves, new_named}
use Rattle.log_law.proofs.covered.Pools.{null_named, free_stays, free_leaves}
use Rattle.log_law.proofs.covered.Frames.{sure_put, opens_put, opens_stay}
use Rattle.log_law.proofs.covered.Targets.{slot_ok}
use Rattle.log_law.proofs.covered.Moments.{Agrees, Covers, Later, next, next_put}

filled_freed : (ir : Ir) (u : Spot) (w : PoolMap) (k : Kept) (q n : ℕ) → object_at w q ≡ None
    → Filled u q 0 n → Known ir.shapes u w k → k.freed ≡ true
filled_freed ir (InRoot i) w k q n none filled known = absurd filled
filled_freed ir (InSlot p i) w k q n none filled known =
    freed_known ir.shapes p i w k (λ t h. empty_kind w p q t filled.0 none h) known

module _ (ir : Ir) (well : IsWellFormed ir) (keeps : KeepsParameters ir.functions) (u : Spot)
    (a : Site) (d : CodeState → List Deed) (later : Later ir u a d)
    (f p : ℕ) (regs : List ℤ) (below : List Frame) (w : PoolMap) (t : ℕ) (k : Kept)
    (calls : List Open)
    (comes : Comes ir.functions (walk.at f p k calls)) (agrees : Agrees ir u f regs below w k calls)
  where
    module _ (to kind : ℕ) (log_fill : Bool) (line : ℕ)
        (is : instruction_at ir.functions f p ≡ Some (New to kind log_fill line)) where
      no_room : Covers ir u a (d (Here f (suc p) (put_register regs to (pos 0)) below w t)) w k
      no_room =
          next_put ir well keeps u a d later f p regs below w t k calls comes agrees
          (New to kind log_fill line) to (pos 0) is refl refl
          (record { root = λ x h. h; field = λ s x h. h; freed = λ h. h })
          (sure_put ir.shapes u w regs to (pos 0) (λ s x. true) k (λ s x h n l.
          null_named ir.shapes u w s x n l) agrees.0) agrees.1

      -- the fill doesn't store to the word
      unfilled : (q : ℕ) → IsSlot w q → object_at w q ≡ None
          → (Filled u q 0 (words_of (fields_of ir.shapes kind)) → ⊥)
          → Covers ir u a (d (Here f (suc p) (put_register regs to (pos q)) below
          (new w q kind (words_of (fields_of ir.shapes kind))) t)) w k
      unfilled q slot none un =
          let w' : PoolMap = new w q kind (words_of (fields_of ir.shapes kind)) in
          let stays : Stays ir.shapes u w w' = new_stays ir.shapes u w q kind slot un in
          next ir well keeps u a d later f p regs below w t k calls comes agrees
          (New to kind log_fill line) (suc p) (put_register regs to (pos q)) w' t is refl
          (record { root = λ x h. h; field = λ s x h. h; freed = λ h. h }) stays
          (
          new_leaves ir.shapes u w q kind (words_of (fields_of ir.shapes kind)) k.freed slot none
          ) (
            sure_put ir.shapes u w' regs to (pos q) (λ s x. true) k (λ s x h n l.
                new_named ir.shapes u w q kind slot un s x n l)
                (sure_stays ir.shapes u w w' regs k.written stays agrees.0),
            agrees.1,
            opens_put ir well keeps u w' f p (New to kind log_fill line) to regs (pos q) below calls
                is refl (opens_stay ir u w w' f regs below calls stays agrees.2),
          )

      fills : (q n : ℕ) → object_at w q ≡ None → Filled u q 0 n → Known ir.shapes u w k
          → IsClobberFill ir.functions f p
      fills q n none filled known = (
        to,
        kind,
        log_fill,
        line,
        is,
        (k, calls, comes, filled_freed ir u w k q n none filled known),
      )

      pub new_covers : (o : Option ℕ) → least_free w ≡ o
          → Covers ir u a (deeds_new f p kind (words_of (fields_of ir.shapes kind)) o
          ++ deeds_on d (Goes (Here f (suc p)
          (put_register regs to (new_at w kind (words_of (fields_of ir.shapes kind)) o).0) below
          (new_at w kind (words_of (fields_of ir.shapes kind)) o).1 t))) w k
      new_covers None h = no_room
      new_covers (Some q) h = λ known first.
          let least = least_free-some w q h in
          let n : ℕ = words_of (fields_of ir.shapes kind) in
          let ds : List Deed = d (Here f (suc p) (put_register regs to (pos q)) below
          (new w q kind n) t) in
          elim (first_zeros (site f p true) q 0 n ds u a first) [
            | inl now ↦ elim known [
              | inl had ↦ subst (λ b. IsLogged ir.functions b) now.1 (fills q n least.1 now.0 had)
              | inr input ↦ absurd ((input_zeros (site f p true) q 0 n ds u input).0 now.0)
            ]
            | inr rest ↦ unfilled q least.0 least.1 rest.0
                (⊎_elim (λ had. inl had) (λ input.
                inr (input_zeros (site f p true) q 0 n ds u input).1)
                known) rest.1
          ]

    module _ (from kind line : ℕ) (is : instruction_at ir.functions f p
        ≡ Some (Free from kind line))
      where
        pub free_covers : (r : Result ℕ TrapKind) → slot_of w kind (register_at regs from) ≡ r
            → Covers ir u a (if_ok r (λ s. Heads (site f p false) s (pos 0) ∷ [])
            ++ deeds_on d (with_ok (then_on r (λ s. Ok (free w s)))
            (λ w. Goes (Here f (suc p) regs below w t)))) w k
        free_covers (Err e) h = λ known first. absurd first
        free_covers (Ok q) h =
            let slot : IsSlot w q = kind_is_slot w q kind
            (slot_ok w kind (register_at regs from) q h).1 in
            let stays : Stays ir.shapes u w (free w q) = free_stays ir.shapes u w q slot in
            next ir well keeps u a d later f p regs below w t k calls comes agrees
            (Free from kind line)
            (suc p) regs (free w q) t is refl
            (record { root = λ x h. h; field = λ s x h. h; freed = λ h. refl }) stays
            (free_leaves ir.shapes u w q slot) (
              sure_stays ir.shapes u w (free w q) regs k.written stays agrees.0,
              agrees.1,
              opens_stay ir u w (free w q) f regs below calls stays agrees.2,
            )
