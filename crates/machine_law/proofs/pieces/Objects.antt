-- A load, a store and a free: their pieces do what they do.
use Rattle.std.proofs.Common.{◌≡◌, ℕ, suc, ◌+◌, ◌*◌, ◌<◌, ◌≤◌, Bool, true, false, List, [], ◌∷◌}
use Rattle.std.proofs.Common.{◌++◌, length, Option, Some, Result, Ok, Err, ℤ, pos, refl, sym, ap}
use Rattle.std.proofs.Common.{◌∙◌, subst, arith, length-append, mul_comm}
use Rattle.std.specs.Prelude.{◌+ℤ◌, slice_get}
use Rattle.std.specs.Int.{w64, int_wrap}
use Rattle.cache_model.specs.Cache.{Words}
use Rattle.cache_model.specs.Cache as cache
use Rattle.pool_layout.specs.declared.limits.Sizes.{Sizes}
use Rattle.pool_layout.specs.Sizes.{slot_words}
use Rattle.pool_map.specs.declared.shapes.Shapes.{Shapes}
use Rattle.pool_map.specs.declared.trap.TrapKind.{TrapKind}
use Rattle.pool_map.specs.PoolFits.{PoolFits}
use Rattle.pool_map.specs.PoolMap.{PoolMap, free}
use Rattle.ir.specs.declared.site.Site.{Site}
use Rattle.ir.specs.declared.instruction.Target.{Target}
use Rattle.ir.specs.WellFormed.{IsTarget}
use Rattle.code_meaning.specs.Code.{Frame, Move, Spot, register_at, put_register}
use Rattle.code_meaning.specs.Code.{load_spot, store_spot, spot_of, slot_of, base_in, index_in}
use Rattle.pool_map.specs.Checks.{then_on}
use Rattle.code_meaning.specs.Code.{with_ok, free_in}
use Rattle.code_meaning.specs.Code as code
use Rattle.code_meaning.specs.Deeds.{Deed, Reads, Writes, Heads, site, if_ok}
use Rattle.pm_machine.specs.declared.effect.Effect.{Effect}
use Rattle.pm_machine.specs.declared.effect.Effect.TheVariants.{Loads}
use Rattle.pm_machine.specs.Effects.{heap_end}
use Rattle.pm_alloc.specs.declared.local.Reg.TheVariants.{Own, Temp}
use Rattle.pm_alloc.specs.declared.local.Local.{Local}
use Rattle.pm_alloc.specs.declared.local.Local.TheVariants.{Const, Load}
use Rattle.pm_alloc.specs.Pieces.{offset, store_code, free_code}
use Rattle.pm_alloc.specs.Runs.{Goes, local_run}
use Rattle.pm_alloc.specs.LocalRun.{World, Loc, local_step}
use Rattle.pm_alloc.specs.Free.{local_start}
use Rattle.pm_alloc.proofs.Runs.{run_on}
use Rattle.pm_alloc.proofs.Search.{header_address}
use Rattle.codegen.specs.Emit.{address_code, address_offset, load_at, load_code, store_at}
use Rattle.codegen.specs.Emit.{assign_code}
use Rattle.machine_law.specs.emitted.Steps.{piece_steps}
use Rattle.machine_law.specs.pieces.Stands.{Stands, heap_word, header_word}
use Rattle.machine_law.specs.pieces.Fits.{IsFit}
use Rattle.machine_law.specs.pieces.Shows.{ShowsDeeds, done, reads, IsThere}
use Rattle.machine_law.specs.pieces.Law.{onward}
use Rattle.machine_law.proofs.pieces.Shown.{heap_append, looks_heap}
use Rattle.machine_law.proofs.pieces.Comes.{comes, comes_on, done_by, traps_by}
use Rattle.machine_law.proofs.pieces.Addresses.{within}
use Rattle.pm_alloc.proofs.Fills.{Here, here_all, store_end, store_steps}
use Rattle.machine_law.proofs.pieces.Stores.{store_effects, store_comes, head_comes}
use Rattle.machine_law.proofs.pieces.Changes.{there_of, stored_heap, stands_store, stands_free}
use Rattle.machine_law.proofs.pieces.Checks.{IsObject, rest_of, Pointed, pointer_runs}
use Rattle.machine_law.proofs.pieces.Targets.{IsReached, Led, target_led}
use Rattle.machine_law.proofs.pieces.Locals.{written_is, Done}
use Rattle.machine_law.specs.pieces.Words.{HoldWords}

module _ (s : Sizes) (logged : Site → Bool) (shapes : Shapes) (f p : ℕ) (regs : List ℤ)
    (below : List Frame) (x : ℕ → ℤ) (v : World) (w : PoolMap) (fit : IsFit s shapes)
    (fits : PoolFits shapes w) (stands : Stands s v.heap w)
    (words : HoldWords regs) where
  abbrev first : Loc
  first = local_start (register_at regs) x v

  abbrev pub Does_all : List Local → List Deed → Move → Type 0
  Does_all piece ds move = Done s logged shapes f p regs below x v w fit fits stands
      piece ds move

  -- after the header loads of the checks the world is unchanged, except for the loads
  still : (es : List Effect) → ShowsDeeds s logged [] es → Stands s (heap_end v.heap es) w
  still es shows = subst (λ (h : Words). Stands s h w)
      (sym (looks_heap s logged [] es v.heap shows refl)) stands

  module _ (r : ℕ) (y : Target) (is : IsTarget shapes r y) where
    abbrev code_of : List Local
    code_of = address_code s shapes y

    abbrev by_of : Option ℤ
    by_of = address_offset s shapes y

    load_from : (to : ℕ) (q : Result Spot TrapKind)
        → Led s logged w (load_code s shapes to y) (register_at regs) x v (length code_of) by_of q →
        Does_all (load_code s shapes to y) (if_ok q (λ z. Reads z ∷ []))
        (with_ok q (λ z. code.Goes (code.Here f (suc p) (put_register regs to (load_spot w z))
        below w v.ticks)))
    load_from to (Err k) led = (
      led.0,
      omega (arith, led.1),
      traps_by s logged (load_code s shapes to y) led.0 first v led.2.0 k led.2.1.0 led.2.1.1,
    )
    load_from to (Ok z) led = (
      led.0 + 1,
      omega (arith, led.1),
      done_by s logged (load_code s shapes to y) (led.0 + 1) first v (Reads z ∷ [])
          (es ++ Loads (heap_word s z) ∷ []) last f (suc p) (put_register regs to (load_spot w z))
          below w v.ticks
          (comes_on s logged (load_code s shapes to y) led.0 1 first v [] (Reads z ∷ []) es
          (Loads (heap_word s z) ∷ []) mid last
          (comes led.2.1.0 reach.path)
          (comes (reads z there done) path))
          (record {
            place = length_is;
            temp = refl;
            own = written_is regs to (load_spot w z);
            world = refl;
            stands =
                subst (λ (h : Words). Stands s h w)
                (sym (heap_append es (Loads (heap_word s z) ∷ []) v.heap)) (still es led.2.1.0);
          }),
    )
      where
        es : List Effect
        es = led.2.0

        reach : IsReached s w (load_code s shapes to y) (register_at regs) x v (length code_of)
            by_of led.0 es z
        reach = led.2.1.1

        there : IsThere s z
        there = there_of s shapes v.heap w z fit fits stands reach.has

        mid : World → Loc
        mid u = record {
          at = length code_of;
          own = register_at regs;
          temp = reach.a ∷ reach.t1
              ∷ reach.t2 ∷ rest_of x;
          world = u;
        }

        last : World → Loc
        last u = record {
          at = length code_of + 1;
          own = cache.put (register_at regs) to
              (load_spot w z);
          temp = reach.a ∷ reach.t1 ∷ reach.t2 ∷ rest_of x;
          world = u;
        }

        here : slice_get (load_code s shapes to y) (length code_of)
            ≡ Some (Load (Own to) (Temp 0) reach.by)
        here = (subst (λ (o : Option ℤ). Here (load_code s shapes to y) (length code_of)
            (load_at to o)) reach.is (here_all (load_at to by_of) code_of)).0

        length_is : length code_of + 1 ≡ length (load_code s shapes to y)
        length_is = let one : length (load_at to by_of) ≡ 1 =
            ap (λ (o : Option ℤ). length (load_at to o)) reach.is in
            omega (arith, length-append code_of (load_at to by_of))

        u : World
        u = onward v es v.ticks

        value : u.heap (heap_word s z) ≡ load_spot w z
        value = (still es led.2.1.0).words z reach.has

        path : local_run (local_step s (load_code s shapes to y)) 1 (mid u)
            ≡ Goes (last (onward u (Loads (heap_word s z) ∷ []) u.ticks))
        path = loaded ∙ ap (λ (c : ℤ).
            Goes (record {
              at = length code_of + 1;
              own = cache.put (register_at regs) to c;
              temp = reach.a ∷ reach.t1 ∷ reach.t2 ∷ rest_of x;
              world = onward u (Loads (heap_word s z) ∷ []) u.ticks;
            })) value
          where
            loaded : local_run (local_step s (load_code s shapes to y)) 1 (mid u)
                ≡ Goes (record {
                  at = length code_of + 1;
                  own = cache.put (register_at regs) to
                      (u.heap (heap_word s z));
                  temp = reach.a ∷ reach.t1 ∷ reach.t2 ∷ rest_of x;
                  world = onward u (Loads (heap_word s z) ∷ []) u.ticks;
                })
            loaded = rw (here, reach.address, within s z there) refl

    pub load_does : (to : ℕ) → Does_all (load_code s shapes to y)
        (if_ok (spot_of shapes w y (base_in regs y) (index_in regs y)) (λ z. Reads z ∷ []))
        (with_ok (spot_of shapes w y (base_in regs y) (index_in regs y))
        (λ z. code.Goes (code.Here f (suc p) (put_register regs to (load_spot w z)) below w
        v.ticks)))
    load_does to = load_from to (spot_of shapes w y (base_in regs y) (index_in regs y))
        (target_led s logged shapes regs x v w fit fits stands words r y (load_at to by_of) is)

    module _ (b : Bool) (from : ℕ) (marked : logged (site f p false) ≡ b) where
      store_to : (q : Result Spot TrapKind)
          → Led s logged w (assign_code s shapes b y from) (register_at regs) x v
          (length code_of) by_of q →
          Does_all (assign_code s shapes b y from)
          (if_ok q (λ z. Writes (site f p false) z (register_at regs from) ∷ []))
          (with_ok q (λ z. code.Goes (code.Here f (suc p) regs below
          (store_spot w z (register_at regs from)) v.ticks)))
      store_to (Err k) led = (
        led.0,
        omega (arith, led.1),
        traps_by s logged (assign_code s shapes b y from) led.0 first v led.2.0 k led.2.1.0
            led.2.1.1,
      )
      store_to (Ok z) led = (
        led.0 + store_steps b,
        bound b,
        done_by s logged (assign_code s shapes b y from) (led.0 + store_steps b) first v
            (Writes (site f p false) z value ∷ []) (es ++ store_effects b (heap_word s z) value)
            last
            f (suc p) regs below (store_spot w z value) v.ticks
            (comes_on s logged (assign_code s shapes b y from) led.0 (store_steps b) first v []
            (Writes (site f p false) z value ∷ []) es (store_effects b (heap_word s z) value) mid
            last
            (comes led.2.1.0 reach.path)
            (store_comes s logged (assign_code s shapes b y from) (register_at regs) temp b
            (length code_of) z u (Temp 0) (Own from) reach.by value (site f p false) marked here
            reach.address there refl))
            (record {
              place = length_is b;
              temp = refl;
              own = λ r.
                  refl;
              world = refl;
              stands = subst (λ (h : Words). Stands s h (store_spot w z value))
                  (sym heap_is) (stands_store s shapes v.heap w fit fits stands z value reach.has);
            }),
      )
        where
          es : List Effect
          es = led.2.0

          value : ℤ
          value = register_at regs from

          bound : (c : Bool) → led.0 + store_steps c ≤ 1 + piece_steps s
          bound false = omega (arith, led.1)
          bound true = omega (arith, led.1)

          reach : IsReached s w (assign_code s shapes b y from) (register_at regs) x v
              (length code_of) by_of led.0 es z
          reach = led.2.1.1

          there : IsThere s z
          there = there_of s shapes v.heap w z fit fits stands reach.has

          temp : List ℤ
          temp = reach.a ∷ reach.t1 ∷ reach.t2 ∷ rest_of x

          mid : World → Loc
          mid u = record { at = length code_of; own = register_at regs; temp = temp; world = u }

          last : World → Loc
          last u = record {
            at = store_end b (length code_of);
            own = register_at regs;
            temp = temp;
            world = u;
          }

          here : Here (assign_code s shapes b y from) (length code_of)
              (store_code b (Temp 0) reach.by (Own from))
          here = subst (λ (o : Option ℤ). Here (assign_code s shapes b y from) (length code_of)
              (store_at b from o)) reach.is (here_all (store_at b from by_of) code_of)

          one_length : (c : Bool) (o : ℤ) → store_end c (length code_of) ≡ length code_of
              + length (store_code c (Temp 0) o (Own from))
          one_length false o = omega arith
          one_length true o = omega arith

          length_is : (c : Bool) → store_end c (length code_of)
              ≡ length (assign_code s shapes c y from)
          length_is c =
              let part : length (store_at c from by_of)
              ≡ length (store_code c (Temp 0) reach.by (Own from)) =
              ap (λ (o : Option ℤ). length (store_at c from o)) reach.is in
              one_length c reach.by ∙ ap (λ (n : ℕ). length code_of + n) (sym part)
              ∙ sym (length-append code_of (store_at c from by_of))

          u : World
          u = onward v es v.ticks

          heap_is : heap_end v.heap (es ++ store_effects b (heap_word s z) value) ≡ cache.put v.heap
              (heap_word s z) value
          heap_is = heap_append es (store_effects b (heap_word s z) value) v.heap
              ∙ stored_heap b (heap_end v.heap es) (heap_word s z) value
              ∙ ap (λ (h : Words). cache.put h (heap_word s z) value)
              (looks_heap s logged [] es v.heap led.2.1.0 refl)

      pub store_does : Does_all (assign_code s shapes b y from)
          (if_ok (spot_of shapes w y (base_in regs y) (index_in regs y))
          (λ z. Writes (site f p false) z (register_at regs from) ∷ []))
          (with_ok (spot_of shapes w y (base_in regs y) (index_in regs y))
          (λ z. code.Goes (code.Here f (suc p) regs below (store_spot w z (register_at regs from))
          v.ticks)))
      store_does = store_to (spot_of shapes w y (base_in regs y) (index_in regs y))
          (target_led s logged shapes regs x v w fit fits stands words r y
          (store_at b from by_of) is)

  -- a free
  module _ (from kind : ℕ) (some : 0 < kind) where
    abbrev freeing : List Local
    freeing = free_code s from kind

    free_from : (q : Result ℕ TrapKind) → Pointed s logged freeing (register_at regs) x v w kind q →
        Does_all freeing (if_ok q (λ n. Heads (site f p false) n (pos 0) ∷ []))
        (with_ok (then_on q (λ n. Ok (free w n)))
        (λ w'. code.Goes (code.Here f (suc p) regs below w' v.ticks)))
    free_from (Err k) c = (
      c.0,
      omega (arith, c.1),
      traps_by s logged freeing c.0 first v c.2.0 k c.2.1.0 c.2.1.1,
    )
    free_from (Ok n) c = (
      c.0 + 1 + 2,
      omega (arith, c.1),
      done_by s logged freeing (c.0 + 1 + 2) first v (Heads (site f p false) n (pos 0) ∷ [])
          (es ++ store_effects true (header_word s n) (pos 0)) (loc 15) f (suc p) regs below
          (free w n) v.ticks
          (comes_on s logged freeing (c.0 + 1) 2 first v [] (Heads (site f p false) n (pos 0) ∷ [])
          es (store_effects true (header_word s n) (pos 0)) (loc 13) (loc 15)
          (comes c.2.1.0
          (run_on (local_step s freeing) c.0 1 first _ _ c.2.1.1.1.2 refl))
          (head_comes s logged freeing (register_at regs) temp 13 n (onward v es v.ticks)
          (Temp 0) (Temp 1) (offset s 0) (pos 0) (site f p false) (refl, (refl, tt)) address
          (obj.low, obj.high) refl))
          (record {
            place = refl;
            temp = refl;
            own = λ r. refl;
            world = refl;
            stands =
                subst (λ (h : Words). Stands s h (free w n)) (sym heap_is)
                (stands_free s shapes v.heap w fit fits stands n slot);
          }),
    )
      where
        es : List Effect
        es = c.2.0

        obj : IsObject s w kind n
        obj = c.2.1.1.0

        temp : List ℤ
        temp = pos (n * slot_words s) ∷ pos 0 ∷ c.2.1.1.1.1 ∷ rest_of x

        loc : ℕ → World → Loc
        loc k u = record { at = k; own = register_at regs; temp = temp; world = u }

        address : int_wrap w64 (pos (n * slot_words s) +ℤ offset s 0) ≡ pos (header_word s n)
        address = header_address s n (n * slot_words s) fit.pool
            (mul_comm n (slot_words s)) obj.low obj.high

        slot : (1 ≤ n) × (n ≤ length w.slots)
        slot = (obj.low, omega (arith, obj.high, stands.slots))

        heap_is : heap_end v.heap (es ++ store_effects true (header_word s n) (pos 0))
            ≡ cache.put v.heap (header_word s n) (pos 0)
        heap_is = heap_append es (store_effects true (header_word s n) (pos 0)) v.heap
            ∙ ap (λ (h : Words). cache.put h (header_word s n) (pos 0))
            (looks_heap s logged [] es v.heap c.2.1.0 refl)

    pub free_does : Does_all freeing
        (if_ok (slot_of w kind (register_at regs from))
        (λ n. Heads (site f p false) n (pos 0) ∷ []))
        (with_ok (free_in w kind (register_at regs from))
        (λ w'. code.Goes (code.Here f (suc p) regs below w' v.ticks)))
    free_does = free_from (slot_of w kind (register_at regs from))
        (pointer_runs s logged from kind
        (Const (Temp 1) (pos 0) ∷ store_code true (Temp 0) (offset s 0) (Temp 1))
        (register_at regs) x
        v w some stands fit.pool (words from))
