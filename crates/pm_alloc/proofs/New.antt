-- The code of a new object, after the search.
use Rattle.std.proofs.Common.{◌≡◌, ℕ, zero, suc, ◌+◌, ◌-◌, ◌*◌, ◌<◌, ◌≤◌, Bool, true, false, List}
use Rattle.std.proofs.Common.{[], ◌∷◌, ◌++◌, length, ℤ, pos, refl, ap, ◌∙◌, arith, ltb, get_or}
use Rattle.std.proofs.Common.{length-append, mul_comm}
use Rattle.std.specs.Prelude.{◌+ℤ◌, if◌then◌else◌, nat_lt}
use Rattle.std.specs.Int.{w64, int_wrap}
use Rattle.std.proofs.lemmas.Bool.{ltb-true, and_parts}
use Rattle.cache_model.specs.Cache.{Words, put}
use Rattle.pool_layout.specs.declared.limits.Sizes.{Sizes}
use Rattle.pool_layout.specs.Sizes.{heap_words, slot_words, slot_word}
use Rattle.pm_machine.specs.Find.{least}
use Rattle.pm_alloc.specs.declared.objects.TheConstants.{UNROLLED_SLOT}
use Rattle.pm_alloc.specs.declared.local.Reg.TheVariants.{Own, Temp}
use Rattle.pm_alloc.specs.declared.local.Local.{Local}
use Rattle.pm_alloc.specs.declared.local.Local.TheVariants.{Mov}
use Rattle.pm_alloc.specs.Pieces.{offset, fill_code, loop_code, loop_fill, fills_by_loop, filling}
use Rattle.pm_alloc.specs.Pieces.{new_head, new_code}
use Rattle.pm_alloc.specs.Runs.{Next, Goes, local_run}
use Rattle.pm_alloc.specs.LocalRun.{World, Loc, searched, local_step}
use Rattle.pm_alloc.specs.Search.{temporaries, IsPool}
use Rattle.pm_alloc.specs.New.{wrote, zeroed, world_after_new, NewCodeLaw}
use Rattle.pm_alloc.proofs.Fills.{Here, here_all, here_back, with_log, fill_run, loop_run}
use Rattle.pm_alloc.proofs.Runs.{run_on}
use Rattle.pm_alloc.proofs.Search.{small, header_address, header_within, slot_times}
use Rattle.pm_alloc.proofs.Search.{searched_least, least_within}
use Rattle.pm_alloc.proofs.Slots.{slot_few}

module _ (s : Sizes) (to kind c : ℕ) (b : Bool) (own : Words) (x : ℕ → ℤ) (pool : IsPool s)
    (short : c < slot_words s) where
  abbrev at_loc : ℕ → Words → List ℤ → World → Loc
  at_loc p regs temp w = record { at = p; own = regs; temp = temp; world = w }

  abbrev last : List Local
  last = Mov (Own to) (Temp 0) ∷ []

  -- the registers with slot q, after its header was stored
  abbrev made : ℕ → List ℤ
  made q = pos q ∷ pos (slot_words s * q) ∷ x 2 ∷ x 3 ∷ x 4 ∷ pos kind ∷ pos 0 ∷ x 7 ∷ []

  -- from place 8 of a piece with a fill, the fill stores zeros and keeps the slot
  record FillRuns (fill frag : List Local) (q : ℕ) (v : World) : Type 0 where
    steps : ℕ
    few : steps ≤ 30 + 10 * (slot_words s - 16)
    temp : List ℤ
    eight : length temp ≡ 8
    slot : get_or temp 0 (pos 0) ≡ pos q
    run : local_run (local_step s frag) steps (at_loc 8 own (made q) v)
        ≡ Goes (at_loc (8 + length fill) own temp (zeroed b v (slot_word s q + 1) c))

  abbrev Fills : List Local → Type 0
  Fills fill = (frag : List Local) (q : ℕ) (v : World) → 1 ≤ q → q ≤ s.slots
      → Here frag 8 (fill ++ last) → FillRuns fill frag q v

  one_by_one : Fills (fill_code s b 1 c)
  one_by_one frag q v low high here =
      let r = fill_run s frag own (made q) b c 1 8 (slot_word s q + 1) q v last pool low high here
      refl (omega arith) refl refl in
      record {
        steps = r.0;
        few = omega (arith, r.1);
        temp = made q;
        eight = refl;
        slot = refl;
        run = r.2;
      }

  by_loop : fills_by_loop s c ≡ true → Fills (loop_fill s b 8 c)
  by_loop e frag q v low high here =
      let parts = and_parts (nat_lt UNROLLED_SLOT (slot_words s)) (nat_lt 0 c) e in
      let wide : UNROLLED_SLOT < slot_words s = ltb-true UNROLLED_SLOT (slot_words s) parts.0 in
      let some : 0 < c = ltb-true 0 c parts.1 in
      let w : ℕ = slot_words s * q in
      let sum : int_wrap w64 (pos (c + w)) ≡ pos (c + w) =
      small (c + w) (omega (arith, slot_few s q high)) in
      let begun : local_run (local_step s frag) 3 (at_loc 8 own (made q) v)
      ≡ Goes (at_loc 11 own (pos q ∷ pos w ∷ x 2 ∷ pos (c + w) ∷ pos 1 ∷ pos kind ∷ pos 0 ∷ x 7
      ∷ []) v) = rw (here.0, here.1.0, here.1.1.0, sum) refl in
      let r = loop_run s frag last own b 11 q kind (x 7) pool low high here.1.1.1 (c - 1) 0 w
      (c + w) (slot_word s q + 1) (x 2) v (omega arith) (omega arith) (omega arith) (omega arith) in
      let more : suc (c - 1) ≡ c = omega arith in
      let end : List ℤ =
      pos q ∷ pos (c + w) ∷ pos 1 ∷ pos (c + w) ∷ pos 1 ∷ pos kind ∷ pos 0 ∷ x 7 ∷ [] in
      let place : 11 + length (loop_code s b 11) ≡ 8 + length (loop_fill s b 8 c) = omega arith in
      record {
        steps = 3 + r.0;
        few = omega (arith, r.1);
        temp = end;
        eight = refl;
        slot = refl;
        run =
            run_on (local_step s frag) 3 r.0 _ _ _ begun r.2
            ∙ ap (λ (n : ℕ). Goes (at_loc (11 + length (loop_code s b 11)) own end
            (zeroed b v (slot_word s q + 1) n))) more
            ∙ ap (λ (n : ℕ). Goes (at_loc n own end (zeroed b v (slot_word s q + 1) c))) place;
      }

  fills_if : (d : Bool) → fills_by_loop s c ≡ d
      → Fills (if d then loop_fill s b 8 c else fill_code s b 1 c)
  fills_if true e = by_loop e
  fills_if false e = one_by_one

  module _ (w : World) (fill : List Local) (fills : Fills fill) where
    abbrev piece : List Local
    piece = new_head s kind (length fill) ++ (fill ++ last)

    abbrev go_new : ℕ → Loc → Next World Loc
    go_new n l = local_run (local_step s piece) n l

    -- where a search that finds q continues
    abbrev found : ℕ → Loc
    found q = at_loc 1 own (pos q ∷ x 1 ∷ x 2 ∷ x 3 ∷ x 4 ∷ x 5 ∷ x 6 ∷ x 7 ∷ []) (searched s w)

    on : (i j : ℕ) (l m : Loc) (r : Next World Loc) → go_new i l ≡ Goes m → go_new j m ≡ r
        → go_new (i + j) l ≡ r
    on i j l m r e f = run_on (local_step s piece) i j l m r e f

    whole : 8 + length fill + 1 ≡ length piece
    whole = omega (arith, length-append fill last)

    rest_here : Here piece 8 (fill ++ last)
    rest_here = here_all (fill ++ last) (new_head s kind (length fill))

    mov : (temp : List ℤ) (v : World) →
        go_new 1 (at_loc (8 + length fill) own temp v)
        ≡ Goes (at_loc (8 + length fill + 1) (put own to (get_or temp 0 (pos 0))) temp v)
    mov temp v = rw (here_back piece 8 fill last rest_here).0 refl

    -- the code from there on ends like this
    record NewDone (q : ℕ) : Type 0 where
      steps : ℕ
      few : steps ≤ 38 + 10 * (slot_words s - 16)
      temp : List ℤ
      eight : length temp ≡ 8
      run : go_new steps (found q)
          ≡ Goes (at_loc (length piece) (put own to (pos q)) temp
          (world_after_new s kind c b (searched s w) q))

    none_left : NewDone 0
    none_left = record {
      steps = 1 + 1;
      few = omega arith;
      temp = (found 0).temp;
      eight = refl;
      run =
          on 1 1 (found 0) (at_loc (8 + length fill) own (found 0).temp (searched s w)) _
          refl (mov (found 0).temp (searched s w))
          ∙ ap (λ (p : ℕ). Goes (at_loc p (put own to (pos 0)) (found 0).temp (searched s w)))
          whole;
    }

    module _ (r : ℕ) (high : suc r ≤ s.slots) where
      abbrev q : ℕ
      q = suc r

      abbrev temp1 : List ℤ
      temp1 = pos q ∷ pos (slot_words s * q) ∷ x 2 ∷ x 3 ∷ x 4 ∷ pos kind ∷ x 6 ∷ x 7 ∷ []

      abbrev w1 : World
      w1 = wrote true (searched s w) (slot_word s q) (pos kind)

      low : 1 ≤ q
      low = omega arith

      at_head : int_wrap w64 (pos (slot_words s * q) +ℤ offset s 0) ≡ pos (slot_word s q)
      at_head = header_address s q (slot_words s * q) pool refl low high

      within : ltb (slot_word s q) (heap_words s) ≡ true
      within = header_within s q low high

      times : int_wrap w64 (pos (q * slot_words s)) ≡ pos (slot_words s * q)
      times = slot_times s q high ∙ ap pos (mul_comm q (slot_words s))

      to_header : go_new 4 (found q) ≡ Goes (at_loc 5 own temp1 (searched s w))
      to_header =
          ap (λ (z : ℤ). Goes (at_loc 5 own (pos q ∷ z ∷ x 2 ∷ x 3 ∷ x 4 ∷ pos kind ∷ x 6 ∷ x 7
          ∷ []) (searched s w))) times

      header : go_new 2 (at_loc 5 own temp1 (searched s w)) ≡ Goes (at_loc 7 own temp1 w1)
      header =
          with_log s piece own temp1 5 (slot_word s q) (searched s w) (Temp 1)
          (Temp 5) (offset s 0) refl refl at_head within

      to_fill : go_new (4 + 2 + 1) (found q) ≡ Goes (at_loc 8 own (made q) w1)
      to_fill = on (4 + 2) 1 (found q) _ _ (on 4 2 (found q) _ _ to_header header) refl

      slot_made : NewDone (suc r)
      slot_made =
          let f = fills piece q w1 low high rest_here in
          let v : World = zeroed b w1 (slot_word s q + 1) c in
          record {
            steps = 4 + 2 + 1 + f.steps + 1;
            few = omega (arith, f.few);
            temp = f.temp;
            eight = f.eight;
            run =
                on (4 + 2 + 1 + f.steps) 1 (found q) _ _
                (on (4 + 2 + 1) f.steps (found q) _ _ to_fill f.run)
                (mov f.temp v)
                ∙ ap (λ (z : ℤ). Goes (at_loc (8 + length fill + 1) (put own to z) f.temp v)) f.slot
                ∙ ap (λ (p : ℕ). Goes (at_loc p (put own to (pos q)) f.temp v)) whole;
          }

    all_done : (q : ℕ) → least s w.heap ≡ q → NewDone q
    all_done zero is = none_left
    all_done (suc r) is = slot_made r (least_within s w.heap r is)

-- the code of a new object, from its start, with eight temporary registers at its end
pub record NewRun (s : Sizes) (to kind c : ℕ) (b : Bool) (own : Words) (x : ℕ → ℤ) (w : World) :
    Type 0 where
  pub steps : ℕ
  pub few : steps ≤ 39 + 10 * (slot_words s - 16)
  pub temp : List ℤ
  pub eight : length temp ≡ 8
  pub run : local_run (local_step s (new_code s to kind c b)) steps
      (record { at = 0; own = own; temp = temporaries x; world = w })
      ≡ Goes (record {
        at = length (new_code s to kind c b);
        own = put own to (pos (least s w.heap));
        temp = temp;
        world = world_after_new s kind c b (searched s w) (least s w.heap);
      })

pub new_runs : (s : Sizes) (to kind c : ℕ) (b : Bool) (own : Words) (x : ℕ → ℤ) (w : World)
    → IsPool s → c < slot_words s → NewRun s to kind c b own x w
new_runs s to kind c b own x w pool short =
    let d = all_done s to kind c b own x pool short w (filling s b 8 c)
    (fills_if s to kind c b own x pool short (fills_by_loop s c) refl) (least s w.heap) refl in
    record {
      steps = 1 + d.steps;
      few = omega (arith, d.few);
      temp = d.temp;
      eight = d.eight;
      run =
          run_on (local_step s (new_code s to kind c b)) 1 d.steps _ _ _
          (searched_least s to kind c b own x w) d.run;
    }

pub new_made : NewCodeLaw
new_made s to kind c b own x w pool short =
    let d = new_runs s to kind c b own x w pool short in (d.steps, d.few, (d.temp, d.run))
