-- The checks of a pointer, and the code of `pm_free`.
use Rattle.std.proofs.Common.{◌≡◌, ℕ, zero, suc, ◌+◌, ◌-◌, ◌*◌, ◌^◌, ◌≤◌, Bool, true, false}
use Rattle.std.proofs.Common.{List, [], ◌∷◌, ◌++◌, ℤ, pos, negsuc, refl, arith, ltb, subst}
use Rattle.std.proofs.Common.{mul_comm}
use Rattle.std.specs.Prelude.{◌+ℤ◌, ◌==◌, if◌then◌else◌}
use Rattle.std.specs.Int.{w64, int_wrap}
use Rattle.std.proofs.lemmas.Bool.{le-ltb, ltb-true}
use Rattle.std.proofs.lemmas.Int.{ints}
use Rattle.nvm_base.specs.Operations.{unsigned}
use Rattle.nvm_base.specs.Wrap.{IsWord}
use Rattle.cache_model.specs.Cache.{Words}
use Rattle.pool_layout.specs.declared.limits.Sizes.{Sizes}
use Rattle.pool_layout.specs.Sizes.{heap_words, slot_words, slot_word}
use Rattle.pm_alloc.specs.declared.local.Reg.TheVariants.{Temp}
use Rattle.pm_alloc.specs.declared.local.Local.{Local}
use Rattle.pm_alloc.specs.declared.local.Local.TheVariants.{Const}
use Rattle.pm_alloc.specs.Pieces.{offset, store_code, pointer_check, free_code}
use Rattle.pm_alloc.specs.Runs.{Next, Goes, Traps, local_run}
use Rattle.pm_alloc.specs.LocalRun.{World, Loc, local_step}
use Rattle.pm_alloc.specs.Search.{IsPool}
use Rattle.pm_alloc.specs.Free.{Looked, Null, Outside, Other, Is, by_header, look, header_seen}
use Rattle.pm_alloc.specs.Free.{Checked, PointerLaw, Freed, FreeLaw}
use Rattle.pm_alloc.proofs.Runs.{run_on}
use Rattle.pm_alloc.proofs.Fills.{with_log}
use Rattle.pm_alloc.proofs.Search.{header_address, header_within, slot_times}

module _ (s : Sizes) (p kind : ℕ) (rest : List Local) (own x : ℕ → ℤ) (w : World)
    (pool : IsPool s) where
  abbrev go : ℕ → Loc → Next World Loc
  go n l = local_run (local_step s (pointer_check s p kind ++ rest)) n l

  abbrev loc : ℕ → (t0 t1 t2 : ℤ) → World → Loc
  loc at t0 t1 t2 v = record {
    at = at;
    own = own;
    temp = t0 ∷ t1 ∷ t2 ∷ x 3 ∷ x 4 ∷ x 5 ∷ x 6 ∷ x 7
        ∷ [];
    world = v;
  }

  abbrev start : Loc
  start = loc 0 (x 0) (x 1) (x 2) w

  is_null : own p ≡ pos 0 → go 2 start ≡ Traps 1 w
  is_null e = rw e refl

  -- a word that is no slot's number
  is_outside : (n : ℕ) → go 1 start ≡ Goes (loc 1 (x 0) (x 1) (x 2) w) → unsigned (own p) ≡ n
      → ltb n (s.slots + 1) ≡ false → go 5 start ≡ Traps 2 w
  is_outside n some e high =
      run_on (local_step s (pointer_check s p kind ++ rest)) 1 4 start _ _ some (rw (e, high) refl)

  -- a pointer in range: W times its slot, before the header is loaded
  in_bounds : (n : ℕ) → own p ≡ pos (suc n) → ltb (suc n) (s.slots + 1) ≡ true
      → go 6 start ≡ Goes (loc 6 (pos (suc n * slot_words s)) (pos (s.slots + 1)) (pos 1) w)
  in_bounds n e high =
      let few = ltb-true (suc n) (s.slots + 1) high in
      let at : int_wrap w64 (pos (suc n * slot_words s)) ≡ pos (suc n * slot_words s) =
      slot_times s (suc n) (omega (arith, few)) in
      rw (e, e, high, e, at) refl

  -- the header
  header_loaded : (n : ℕ) → ltb (suc n) (s.slots + 1) ≡ true
      → go 2 (loc 6 (pos (suc n * slot_words s)) (pos (s.slots + 1)) (pos 1) w)
      ≡ Goes (loc 8 (pos (suc n * slot_words s)) (w.heap (slot_word s (suc n))) (pos kind)
      (header_seen s w (suc n)))
  header_loaded n high =
      let few = ltb-true (suc n) (s.slots + 1) high in
      let at : int_wrap w64 (pos (suc n * slot_words s) +ℤ offset s 0) ≡ pos (slot_word s (suc n)) =
      header_address s (suc n) (suc n * slot_words s) pool (mul_comm (suc n) (slot_words s))
      (omega arith) (omega (arith, few)) in
      let within : ltb (slot_word s (suc n)) (heap_words s) ≡ true =
      header_within s (suc n) (omega arith) (omega (arith, few)) in
      rw (at, within) refl

  to_test : (n : ℕ) → own p ≡ pos (suc n) → ltb (suc n) (s.slots + 1) ≡ true
      → go 8 start ≡ Goes (loc 8 (pos (suc n * slot_words s)) (w.heap (slot_word s (suc n)))
      (pos kind) (header_seen s w (suc n)))
  to_test n e high = run_on (local_step s (pointer_check s p kind ++ rest)) 6 2 start _ _
      (in_bounds n e high) (header_loaded n high)

  by_test : (n : ℕ) (c : Bool) → (unsigned (w.heap (slot_word s (suc n))) == unsigned (pos kind))
      ≡ c → own p ≡ pos (suc n) → ltb (suc n) (s.slots + 1) ≡ true → (m : ℕ) × (m ≤ 11)
      × Checked s (pointer_check s p kind ++ rest) own x w m (if c then Is (suc n)
      else Other (suc n))
  by_test n true same e high = (
    10,
    omega arith,
    (
      pos 0,
      pos kind,
      run_on (local_step s (pointer_check s p kind ++ rest)) 8 2 start _ _
          (to_test n e high) (rw same refl),
    ),
  )
  by_test n false same e high = (
    11,
    omega arith,
    run_on (local_step s (pointer_check s p kind ++ rest)) 8 3 start _ _ (to_test n e high)
        (rw same refl),
  )

  in_range : (n : ℕ) (c : Bool) → ltb (suc n) (s.slots + 1) ≡ c → own p ≡ pos (suc n)
      → (m : ℕ) × (m ≤ 11) × Checked s (pointer_check s p kind ++ rest) own x w m
      (if c then by_header kind (suc n) (w.heap (slot_word s (suc n))) else Outside)
  in_range n true high e = by_test n (unsigned (w.heap (slot_word s (suc n)))
      == unsigned (pos kind)) refl e high
  in_range n false high e =
      (5, omega arith, is_outside (suc n) (rw e refl) (rw e refl) high)

  pub check_run : (z : ℤ) → own p ≡ z → IsWord (own p) → (m : ℕ) × (m ≤ 11)
      × Checked s (pointer_check s p kind ++ rest) own x w m (look s w.heap kind z)
  check_run (pos zero) e word = (2, omega arith, is_null e)
  check_run (pos (suc n)) e word = in_range n (ltb (suc n) (s.slots + 1)) refl e
  check_run (negsuc n) e word =
      let small : IsWord (negsuc n) = subst IsWord e word in
      let high : ltb (2 ^ 64 - suc n) (s.slots + 1) ≡ false =
      le-ltb (2 ^ 64 - suc n) (s.slots + 1) (omega (arith, ints, small.0, pool.few)) in
      (5, omega arith, is_outside (2 ^ 64 - suc n) (rw e refl) (rw e refl) high)

pub pointer_checked : PointerLaw
pointer_checked s p kind rest own x w pool word =
    check_run s p kind rest own x w pool (own p) refl word

-- the slot of a pointer is one of the pool's
pub record IsSlot (s : Sizes) (q : ℕ) : Type 0 where
  pub low : 1 ≤ q
  pub high : q ≤ s.slots

module _ (s : Sizes) (heap : Words) (kind q : ℕ) where
  by_kind : (n : ℕ) (c : Bool) → suc n ≤ s.slots → (if c then Is (suc n) else Other (suc n)) ≡ Is q
      → IsSlot s q
  by_kind n true few e = let same : suc n ≡ q = cc in
      record { low = omega arith; high = omega arith }
  by_kind n false few e = absurd (cc)

  by_range : (n : ℕ) (c : Bool) → ltb (suc n) (s.slots + 1) ≡ c
      → (if c then by_header kind (suc n) (heap (slot_word s (suc n))) else Outside) ≡ Is q
      → IsSlot s q
  by_range n true high e = by_kind n (unsigned (heap (slot_word s (suc n))) == unsigned (pos kind))
      (omega (arith, ltb-true (suc n) (s.slots + 1) high)) e
  by_range n false high e = absurd (cc)

  pub look_slot : (z : ℤ) → look s heap kind z ≡ Is q → IsSlot s q
  look_slot (pos zero) e = absurd (cc)
  look_slot (pos (suc n)) e = by_range n (ltb (suc n) (s.slots + 1)) refl e
  look_slot (negsuc n) e = absurd (cc)

module _ (s : Sizes) (p kind : ℕ) (own x : ℕ → ℤ) (w : World) (pool : IsPool s) where
  freed_if : (n : ℕ) (r : Looked) → n ≤ 11 → ((q : ℕ) → r ≡ Is q → IsSlot s q)
      → Checked s (free_code s p kind) own x w n r → (m : ℕ) × (m ≤ 14) × Freed s p kind own x w m r
  freed_if n Null few among e = (n, omega arith, e)
  freed_if n Outside few among e = (n, omega arith, e)
  freed_if n (Other q) few among e = (n, omega arith, e)
  freed_if n (Is q) few among f =
      let slot = among q refl in
      let at : int_wrap w64 (pos (q * slot_words s) +ℤ offset s 0) ≡ pos (slot_word s q) =
      header_address s q (q * slot_words s) pool (mul_comm q (slot_words s)) slot.low slot.high in
      let within : ltb (slot_word s q) (heap_words s) ≡ true =
      header_within s q slot.low slot.high in
      let write = with_log s (free_code s p kind) own
      (pos (q * slot_words s) ∷ pos 0 ∷ f.1 ∷ x 3 ∷ x 4 ∷ x 5 ∷ x 6 ∷ x 7 ∷ []) 13
      (slot_word s q) (header_seen s w q) (Temp 0) (Temp 1) (offset s 0) refl
      refl at within in (
        n + 1 + 2,
        omega arith,
        (
          pos (q * slot_words s) ∷ pos 0 ∷ f.1 ∷ x 3 ∷ x 4 ∷ x 5 ∷ x 6 ∷ x 7 ∷ [],
          run_on (local_step s (free_code s p kind)) (n + 1) 2 _ _ _
              (run_on (local_step s (free_code s p kind)) n 1 _ _ _ f.2 refl) write,
        ),
      )

pub free_done : FreeLaw
free_done s p kind own x w pool word =
    let f = pointer_checked s p kind (Const (Temp 1) (pos 0) ∷ store_code true (Temp 0) (offset s 0)
    (Temp 1)) own x w pool word in
    freed_if s p kind own x w pool f.0 (look s w.heap kind (own p)) f.1
    (λ q e. look_slot s w.heap kind q (own p) e) f.2
