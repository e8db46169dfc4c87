-- The checks of a pointer and of an index do what the code's checks do.
use Rattle.std.proofs.Common.{◌≡◌, ℕ, zero, suc, ◌+◌, ◌-◌, ◌*◌, ◌^◌, ◌<◌, ◌≤◌, Bool, true, false}
use Rattle.std.proofs.Common.{List, [], ◌∷◌, ◌++◌, Option, None, Some, Result, Ok, Err, ℤ, pos}
use Rattle.std.proofs.Common.{negsuc, refl, sym, ap, ◌∙◌, subst, arith, ltb, eqb}
use Rattle.std.specs.Prelude.{if◌then◌else◌, nat_eq, slice_get}
use Rattle.std.specs.Int.{w64, int_wrap}
use Rattle.std.proofs.lemmas.Bool.{ltb-true, ltb-false, le-ltb, ne_eqb, eqb-true}
use Rattle.std.proofs.lemmas.Int.{ints}
use Rattle.std.proofs.lemmas.List.{get_or_past}
use Rattle.nvm_base.specs.Operations.{truth, unsigned}
use Rattle.nvm_base.specs.Wrap.{IsWord}
use Rattle.cache_model.specs.Cache.{Words}
use Rattle.pool_layout.specs.declared.limits.Sizes.{Sizes}
use Rattle.pool_layout.specs.Sizes.{slot_words, slot_word}
use Rattle.pool_map.specs.declared.object.Object.{Object}
use Rattle.pool_map.specs.declared.trap.TrapKind.{TrapKind}
use Rattle.pool_map.specs.declared.trap.TrapKind.TheVariants as trap
use Rattle.pool_map.specs.Trap.{trap_number}
use Rattle.pool_map.specs.PoolMap.{PoolMap, object_at}
use Rattle.ir.specs.declared.site.Site.{Site}
use Rattle.pool_map.specs.Checks.{element_in}
use Rattle.code_meaning.specs.Code.{slot_of, is_kind}
use Rattle.pm_machine.specs.declared.effect.Effect.{Effect}
use Rattle.pm_machine.specs.declared.effect.Effect.TheVariants.{Loads}
use Rattle.pm_alloc.specs.declared.local.Local.{Local}
use Rattle.pm_alloc.specs.declared.local.Local.TheVariants.{Bin, Trap}
use Rattle.pm_alloc.specs.declared.local.Reg.TheVariants.{Own, Temp}
use Rattle.nvm_base.specs.declared.op.BinOp.TheVariants.{Add}
use Rattle.pm_alloc.specs.Pieces.{pointer_check, index_check}
use Rattle.pm_alloc.specs.Search.{IsPool}
use Rattle.pm_alloc.specs.Runs.{Next, Goes, Traps, local_run}
use Rattle.pm_alloc.specs.LocalRun.{World, Loc, local_step}
use Rattle.pm_alloc.specs.Free.{Looked, Outside, Other, Is, look, by_header, local_start, Checked}
use Rattle.pm_alloc.proofs.Free.{pointer_checked}
use Rattle.pm_alloc.proofs.Search.{small}
use Rattle.pm_alloc.proofs.Runs.{run_on}
use Rattle.machine_law.specs.pieces.Stands.{Stands, header_of}
use Rattle.machine_law.specs.pieces.Shows.{ShowsDeeds, done, looks}
use Rattle.machine_law.specs.pieces.Law.{onward}
use Rattle.pm_alloc.proofs.Fills.{Here}

-- the object in slot q has the kind
pub record IsObject (s : Sizes) (w : PoolMap) (kind q : ℕ) : Type 0 where
  pub low : 1 ≤ q
  pub high : q ≤ s.slots
  pub object : Object
  pub is : object_at w q ≡ Some object
  pub kind_is : object.kind ≡ kind

abbrev pub rest_of : (ℕ → ℤ) → List ℤ
rest_of x = x 3 ∷ x 4 ∷ x 5 ∷ x 6 ∷ x 7 ∷ []

-- the result of the checks, compared with what the code makes of the pointer; only headers have
-- been loaded
abbrev pub Points : Sizes → (Site → Bool) → List Local → (own x : ℕ → ℤ) → World → PoolMap
    → (kind n : ℕ) → List Effect → Result ℕ TrapKind → Type 0
Points s logged piece own x v w kind n es (Err k) =
    local_run (local_step s piece) n (local_start own x v) ≡ Traps (trap_number k)
    (onward v es v.ticks)
Points s logged piece own x v w kind n es (Ok q) = IsObject s w kind q
    × ((t1 : ℤ) × (t2 : ℤ) × (local_run (local_step s piece) n (local_start own x v)
    ≡ Goes (record {
      at = 12;
      own = own;
      temp = pos (q * slot_words s) ∷ t1 ∷ t2 ∷ rest_of x;
      world = onward v es v.ticks;
    })))

abbrev pub Pointed : Sizes → (Site → Bool) → List Local → (own x : ℕ → ℤ) → World → PoolMap
    → (kind : ℕ) → Result ℕ TrapKind → Type 0
Pointed s logged piece own x v w kind r =
    (n : ℕ) × (n ≤ 11) × ((es : List Effect)
    × (ShowsDeeds s logged [] es × Points s logged piece own x v w kind n es r))

module _ (s : Sizes) (logged : Site → Bool) (p kind : ℕ) (rest : List Local) (own x : ℕ → ℤ)
    (v : World) (w : PoolMap) (some : 0 < kind) (stands : Stands s v.heap w) where
  abbrev piece : List Local
  piece = pointer_check s p kind ++ rest

  abbrev Checks : Looked → Type 0
  Checks l = (n : ℕ) × (n ≤ 11) × Checked s piece own x v n l

  one_look : (q : ℕ) → 1 ≤ q → q ≤ s.slots → ShowsDeeds s logged [] (Loads (slot_word s q) ∷ [])
  one_look q low high = looks q (low, high) done

  by_kind : (n : ℕ) (o : Object) (b : Bool) → nat_eq o.kind kind ≡ b → object_at w (suc n) ≡ Some o
      → suc n ≤ s.slots → Checks (if b then Is (suc n) else Other (suc n))
      → Pointed s logged piece own x v w kind (if b then Ok (suc n) else Err trap.Stale)
  by_kind n o true same is high c = (
    c.0,
    c.1,
    (
      Loads (slot_word s (suc n)) ∷ [],
      (
        one_look (suc n) (omega arith) high,
        (
          record {
            low = omega arith;
            high = high;
            object = o;
            is = is;
            kind_is = eqb-true o.kind kind same;
          },
          c.2,
        ),
      ),
    ),
  )
  by_kind n o false same is high c =
      (c.0, c.1, (Loads (slot_word s (suc n)) ∷ [], (one_look (suc n) (omega arith) high, c.2)))

  by_object : (n : ℕ) (o : Option Object) → object_at w (suc n) ≡ o → suc n ≤ s.slots
      → Checks (by_header kind (suc n) (header_of o))
      → Pointed s logged piece own x v w kind (if is_kind o kind then Ok (suc n)
      else Err trap.Stale)
  by_object n None is high c =
      let other : eqb 0 kind ≡ false = ne_eqb 0 kind (λ e. absurd (omega arith)) in
      let d = subst (λ (b : Bool). Checks (if b then Is (suc n) else Other (suc n))) other c in
      (d.0, d.1, (Loads (slot_word s (suc n)) ∷ [], (one_look (suc n) (omega arith) high, d.2)))
  by_object n (Some o) is high c = by_kind n o (nat_eq o.kind kind) refl is high c

  by_range : (n : ℕ) (b : Bool) → ltb (suc n) (s.slots + 1) ≡ b
      → Checks (if b then by_header kind (suc n) (v.heap (slot_word s (suc n))) else Outside)
      → Pointed s logged piece own x v w kind (if is_kind (object_at w (suc n)) kind then Ok (suc n)
      else Err trap.Stale)
  by_range n true within c =
      let high = ltb-true (suc n) (s.slots + 1) within in
      by_object n (object_at w (suc n)) refl (omega arith)
      (subst (λ (z : ℤ). Checks (by_header kind (suc n) z))
      (stands.headers (suc n) (omega arith) (omega arith)) c)
  by_range n false far c =
      let high = ltb-false (suc n) (s.slots + 1) far in
      let none : object_at w (suc n) ≡ None = get_or_past w.slots n None (let e = stands.slots in
      omega arith) in
      subst (λ (o : Option Object). Pointed s logged piece own x v w kind (if is_kind o kind
      then Ok (suc n) else Err trap.Stale)) (sym none)
      (c.0, c.1, ([], (done, c.2)))

  points : (z : ℤ) → Checks (look s v.heap kind z)
      → Pointed s logged piece own x v w kind (slot_of w kind z)
  points (pos zero) c = (c.0, c.1, ([], (done, c.2)))
  points (pos (suc n)) c = by_range n (ltb (suc n) (s.slots + 1)) refl c
  points (negsuc n) c = (c.0, c.1, ([], (done, c.2)))

  pub pointer_runs : IsPool s → IsWord (own p)
      → Pointed s logged piece own x v w kind (slot_of w kind (own p))
  pointer_runs pool word = points (own p) (pointer_checked s p kind rest own x v pool word)

-- The check of an index is at place k, and the first temporary register holds a; after the check it
-- holds the sum of a and the index.
module _ (s : Sizes) (piece : List Local) (k i len : ℕ) (here : Here piece k (index_check k i len))
    (own : Words) (v : World) where
  abbrev loc : ℕ → (t0 t1 t2 : ℤ) → List ℤ → Loc
  loc at t0 t1 t2 more = record { at = at; own = own; temp = t0 ∷ t1 ∷ t2 ∷ more; world = v }

  abbrev go : ℕ → Loc → Next World Loc
  go n l = local_run (local_step s piece) n l

  abbrev pub Indexes : (a n : ℕ) → (t1 t2 : ℤ) → List ℤ → Result ℕ TrapKind → Type 0
  Indexes a n t1 t2 more (Err e) = go n (loc k (pos a) t1 t2 more) ≡ Traps (trap_number e) v
  Indexes a n t1 t2 more (Ok j) =
      (j < len) × ((u1 : ℤ) × (u2 : ℤ)
      × (go n (loc k (pos a) t1 t2 more) ≡ Goes (loc (k + 6) (pos (a + j)) u1 u2 more)))

  bad_is : slice_get piece (k + 4) ≡ Some (Trap 3)
  bad_is = let e : k + 1 + 1 + 1 + 1 ≡ k + 4 = omega arith in
      subst (λ (n : ℕ). slice_get piece n ≡ Some (Trap 3)) e here.1.1.1.1.0

  good_is : slice_get piece (k + 5) ≡ Some (Bin Add (Temp 0) (Temp 0) (Own i))
  good_is = let e : k + 1 + 1 + 1 + 1 + 1 ≡ k + 5 = omega arith in
      subst (λ (n : ℕ). slice_get piece n ≡ Some (Bin Add (Temp 0) (Temp 0) (Own i))) e
      here.1.1.1.1.1.0

  -- after the comparison, which takes the index as an unsigned number m
  compared : (a m : ℕ) (t1 t2 : ℤ) (more : List ℤ) (c : Bool) → unsigned (own i) ≡ m
      → ltb m len ≡ c → go 2 (loc k (pos a) t1 t2 more)
      ≡ Goes (loc (k + 1 + 1) (pos a) (pos len) (truth c) more)
  compared a m t1 t2 more c e is = rw (here.0, here.1.0, e, is) refl

  too_high : (a : ℕ) (more : List ℤ)
      → go 2 (loc (k + 1 + 1) (pos a) (pos len) (pos 0) more) ≡ Traps 3 v
  too_high a more = rw (here.1.1.0, bad_is) refl

  outside : (a m : ℕ) (t1 t2 : ℤ) (more : List ℤ) → unsigned (own i) ≡ m → ltb m len ≡ false
      → go 4 (loc k (pos a) t1 t2 more) ≡ Traps 3 v
  outside a m t1 t2 more e is =
      run_on (local_step s piece) 2 2 (loc k (pos a) t1 t2 more) _ _
      (compared a m t1 t2 more false e is) (too_high a more)

  added : (a m : ℕ) (more : List ℤ) → own i ≡ pos m → a + m < 2 ^ 62
      → go 3 (loc (k + 1 + 1) (pos a) (pos len) (pos 1) more)
      ≡ Goes (loc (k + 5 + 1) (pos (a + m)) (pos len) (pos 1) more)
  added a m more e room =
      let sum : int_wrap w64 (pos (a + m)) ≡ pos (a + m) = small (a + m) room in
      rw (here.1.1.0, here.1.1.1.0, good_is, e, sum) refl

  pub index_runs : (a : ℕ) (t1 t2 z : ℤ) (more : List ℤ) → a + len < 2 ^ 62 → own i ≡ z
      → IsWord (own i) → (n : ℕ) × (n ≤ 5) × Indexes a n t1 t2 more (element_in len z)
  index_runs a t1 t2 (negsuc m) more room e word =
      let small : IsWord (negsuc m) = subst IsWord e word in
      let far : ltb (2 ^ 64 - suc m) len ≡ false =
      le-ltb (2 ^ 64 - suc m) len (omega (arith, ints, small.0)) in
      (4, omega arith, outside a (2 ^ 64 - suc m) t1 t2 more (rw e refl) far)
  index_runs a t1 t2 (pos m) more room e word = by (ltb m len) refl
    where
      by : (b : Bool) → ltb m len ≡ b → (n : ℕ) × (n ≤ 5)
          × Indexes a n t1 t2 more (if b then Ok m else Err trap.Index)
      by false is = (4, omega arith, outside a m t1 t2 more (rw e refl) is)
      by true is =
          let less = ltb-true m len is in
          let at : k + 5 + 1 ≡ k + 6 = omega arith in (
            5,
            omega arith,
            (
              less,
              (
                pos len,
                pos 1,
                run_on (local_step s piece) 2 3 (loc k (pos a) t1 t2 more) _ _
                    (compared a m t1 t2 more true (rw e refl) is) (added a m more e (omega arith))
                    ∙ ap (λ (n : ℕ). Goes (loc n (pos (a + m)) (pos len) (pos 1) more)) at,
              ),
            ),
          )
