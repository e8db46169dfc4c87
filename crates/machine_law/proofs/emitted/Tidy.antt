-- Flushes and fences come only at the end.
use Rattle.std.proofs.Common.{◌≡◌, ℕ, zero, suc, ◌+◌, ◌-◌, ◌/◌, ◌==◌, if◌then◌else◌, nat_eq, Bool}
use Rattle.std.proofs.Common.{true, false, List, [], ◌∷◌, ◌++◌, length, take, drop, slice_get}
use Rattle.std.proofs.Common.{get_or, Option, Some, None, ℤ, pos, ltb, refl, sym, ap, ◌∙◌, subst}
use Rattle.std.proofs.Common.{arith}
use Rattle.std.specs.List.{AllByRecursion}
use Rattle.std.specs.Ordering.{int_eq}
use Rattle.std.proofs.lemmas.Option.{slice_get-get_or, same_Some}
use Rattle.indexmap.specs.IndexSet.{insert_key}
use Rattle.cache_model.specs.Cache.{Words}
use Rattle.pool_map.specs.declared.trap.TrapKind.{TrapKind}
use Rattle.pool_map.specs.declared.trap.TrapKind.TheVariants as trap
use Rattle.pm_machine.specs.declared.effect.Effect.{Effect}
use Rattle.pm_machine.specs.declared.effect.Effect.TheVariants.{Loads, Scans, Stores, Logs, Flushes}
use Rattle.pm_machine.specs.declared.effect.Effect.TheVariants.{Fences, Quiet}
use Rattle.pm_machine.specs.declared.effect.End.{End}
use Rattle.pm_machine.specs.declared.effect.End.TheVariants.{Halted, Trapped}
use Rattle.pm_machine.specs.declared.frame.Frame.{Frame}
use Rattle.pm_machine.specs.declared.image.Image.{Image}
use Rattle.pm_machine.specs.declared.op.Op.{Op}
use Rattle.pm_machine.specs.declared.op.Op.TheVariants as op
use Rattle.pm_machine.specs.Effects.{heap_past}
use Rattle.pm_machine.specs.Machine.{State, StepOutcome, Goes, Ends, Run, Finished, began, follow}
use Rattle.pm_machine.specs.Machine.{run, execute, fetch, fetch_in, target, read_register}
use Rattle.pm_machine.specs.Machine.{load, store, log, flush, call, return, passed, moved_to}
use Rattle.pm_machine.specs.Machine.{tick_spent, entered, frame_at}
use Rattle.pm_machine.proofs.Fuel.{began_rest}
use Rattle.run_law.specs.Sound.{IsTidy, IsStill, IsFlushed, IsTidyEnd}
use Rattle.machine_law.specs.emitted.Tidy.{IsPlain, IsPlainAt, MayPrecede, LeadsPlain, IsTidyCode}
use Rattle.machine_law.specs.emitted.Tidy.{IsReturnless, bottom, OpenFramesTidy, TidyLaw}

bottom_push : (bs : List Frame) (x : Frame) (f g : ℕ) → x.function ≡ g
    → bottom (bs ++ x ∷ []) f ≡ bottom bs g
bottom_push [] x f g e = e
bottom_push (b ∷ bs) x f g e = refl

none_some : (o : Option Frame) (x : Frame) → o ≡ None → o ≡ Some x → ⊥
none_some o x e f = absurd (cc)

last_there : (b : Frame) (bs : List Frame) → slice_get (b ∷ bs) (length (b ∷ bs) - 1) ≡ None → ⊥
last_there b bs e = none_some (slice_get (b ∷ bs) (length (b ∷ bs) - 1))
    (get_or (b ∷ bs) (length (b ∷ bs) - 1) b) e
    (slice_get-get_or (b ∷ bs) (length (b ∷ bs) - 1) b (omega arith))

bottom_pop : (bs : List Frame) (c : Frame) (f : ℕ) → slice_get bs (length bs - 1) ≡ Some c
    → bottom (take (length bs - 1) bs) c.function ≡ bottom bs f
bottom_pop [] c f e = absurd (cc)
bottom_pop (b ∷ []) c f e =
    let n : length (b ∷ []) - 1 ≡ 0 = omega arith in
    let same : b ≡ c = same_Some b c (sym (ap (λ (m : ℕ). slice_get (b ∷ []) m) n) ∙ e) in
    ap (λ (m : ℕ). bottom (take m (b ∷ [])) c.function) n ∙ ap (λ (x : Frame). x.function)
    (sym same)
bottom_pop (b ∷ d ∷ bs) c f e =
    let n : length (b ∷ d ∷ bs) - 1 ≡ suc (length bs) = omega arith in
    ap (λ (m : ℕ). bottom (take m (b ∷ d ∷ bs)) c.function) n

module _ (P : Frame → Type 0) where
  all_push : (bs : List Frame) (x : Frame) → AllByRecursion P bs → P x
      → AllByRecursion P (bs ++ x ∷ [])
  all_push [] x h is = (is, tt)
  all_push (b ∷ bs) x h is = (h.0, all_push bs x h.1 is)

  all_take : (n : ℕ) (bs : List Frame) → AllByRecursion P bs → AllByRecursion P (take n bs)
  all_take zero bs h = tt
  all_take (suc n) [] h = tt
  all_take (suc n) (b ∷ bs) h = (h.0, all_take n bs h.1)

  all_at : (bs : List Frame) (k : ℕ) (x : Frame) → AllByRecursion P bs
      → slice_get bs k ≡ Some x → P x
  all_at [] k x h e = absurd (cc)
  all_at (b ∷ bs) zero x h e = let same : b ≡ x = cc in subst P same h.0
  all_at (b ∷ bs) (suc k) x h e = all_at bs k x h.1 e

-- the end: a HALT, after a FENCE, after the flushes
abbrev HaltEnd : End → List Effect → Type 0
HaltEnd (Halted v) es = es ≡ []
HaltEnd (Trapped k) es = ⊥

abbrev FenceEnd : End → List Effect → Type 0
FenceEnd (Halted v) es = es ≡ Fences ∷ []
FenceEnd (Trapped k) es = ⊥

abbrev FlushedEnd : List ℕ → End → List Effect → Type 0
FlushedEnd ls (Halted v) es = IsFlushed ls es × IsTidy ls es
FlushedEnd ls (Trapped k) es = ⊥

fence_end : (end : End) (rest es : List Effect) → es ≡ Fences ∷ rest → HaltEnd end rest
    → FenceEnd end es
fence_end (Halted v) rest es is h = is ∙ ap (λ (r : List Effect). Fences ∷ r) h
fence_end (Trapped k) rest es is h = absurd h

quiet_end : (end : End) (ls : List ℕ) (rest es : List Effect) → ls ≡ [] → es ≡ Quiet ∷ rest
    → FenceEnd end rest → FlushedEnd ls end es
quiet_end (Halted v) ls rest es none is h =
    let all : es ≡ Quiet ∷ Fences ∷ [] = is ∙ ap (λ (r : List Effect). Quiet ∷ r) h in
    subst (λ (fs : List Effect). IsFlushed ls fs × IsTidy ls fs) (sym all)
    (subst (λ (ks : List ℕ). IsFlushed ks (Quiet ∷ Fences ∷ []) × IsTidy ks (Quiet ∷ Fences ∷ []))
    (sym none) (refl, refl))
quiet_end (Trapped k) ls rest es none is h = absurd h

flush_end : (end : End) (l : ℕ) (ls all : List ℕ) (rest es : List Effect) → all ≡ l ∷ ls
    → es ≡ Flushes l ∷ rest → FlushedEnd (drop 1 all) end rest → FlushedEnd all end es
flush_end (Halted v) l ls all rest es at is h =
    let next_after : IsFlushed ls rest =
    subst (λ (ks : List ℕ). IsFlushed (drop 1 ks) rest) at h.0 in
    subst (λ (fs : List Effect). IsFlushed all fs × IsTidy all fs) (sym is)
    (subst (λ (ks : List ℕ). IsFlushed ks (Flushes l ∷ rest) × IsTidy ks (Flushes l ∷ rest))
    (sym at) ((refl, next_after), (refl, next_after)))
flush_end (Trapped k) l ls all rest es at is h = absurd h

halt_is : (v : ℤ) (end : End) (es : List Effect) → Finished (Halted v) [] ≡ Finished end es
    → HaltEnd end es
halt_is v end es h =
    let same : Halted v ≡ end = cc in
    let none : [] ≡ es = cc in
    subst (λ (q : End). HaltEnd q es) same (sym none)

module _ (image : Image) (tidy : (f : ℕ) → IsTidyCode (slice_get image.parts.functions f)) where
  abbrev next_run : (k : ℕ) → Words → Effect → State → Run
  next_run k heap e t = run image k t (heap_past heap e)

  next_after : (s : State) (o : Op) → fetch image s ≡ Some o → MayPrecede o (fetch image (passed s))
  next_after s o e = (tidy s.top.function).next s.top.place o e

  halted : (k : ℕ) (s : State) (heap : Words) (end : End) (es : List Effect) (a : ℕ)
      → fetch image s ≡ Some (op.Halt a) → run image k s heap ≡ Finished end es → HaltEnd end es
  halted zero s heap end es a e h = absurd (cc)
  halted (suc k) s heap end es a e h =
      halt_is (read_register s a) end es
      (subst (λ (i : Option Op). follow (next_run k heap) (execute image heap s i)
      ≡ Finished end es) e h)

  fenced : (k : ℕ) (s : State) (heap : Words) (end : End) (es : List Effect)
      → fetch image s ≡ Some op.Fence → run image k s heap ≡ Finished end es → FenceEnd end es
  fenced zero s heap end es e h = absurd (cc)
  fenced (suc k) s heap end es e h =
      let g : began Fences (run image k (passed s) heap) ≡ Finished end es =
      subst (λ (i : Option Op). follow (next_run k heap) (execute image heap s i)
      ≡ Finished end es) e h in
      let inv = began_rest Fences (run image k (passed s) heap) end es g in
      let stop = next_after s op.Fence e in
      fence_end end inv.0 es inv.2 (halted k (passed s) heap end inv.0 stop.0 stop.1 inv.1)

  flushed_by : (k : ℕ) (s : State) (heap : Words) (end : End) (es : List Effect)
      → fetch image s ≡ Some op.Flush →
      ((t : State) (rest : List Effect) → fetch image t ≡ Some op.Flush
      → run image k t heap ≡ Finished end rest → FlushedEnd t.dirty end rest) →
      (ls : List ℕ) → s.dirty ≡ ls → follow (next_run k heap) (flush s (slice_get ls 0))
      ≡ Finished end es → FlushedEnd s.dirty end es
  flushed_by k s heap end es e next [] is h =
      let inv = began_rest Quiet (run image k (passed s) heap) end es h in
      quiet_end end s.dirty inv.0 es is inv.2
      (fenced k (passed s) heap end inv.0 (next_after s op.Flush e) inv.1)
  flushed_by k s heap end es e next (l ∷ ls) is h =
      let t : State = record {
        top = s.top;
        below = s.below;
        ticks = s.ticks;
        dirty = drop 1 s.dirty;
        size = s.size;
      } in
      let inv = began_rest (Flushes l) (run image k t heap) end es h in
      flush_end end l ls s.dirty inv.0 es is inv.2 (next t inv.0 e inv.1)

  flushed : (k : ℕ) (s : State) (heap : Words) (end : End) (es : List Effect)
      → fetch image s ≡ Some op.Flush → run image k s heap ≡ Finished end es
      → FlushedEnd s.dirty end es
  flushed zero s heap end es e h = absurd (cc)
  flushed (suc k) s heap end es e h =
      let g : follow (next_run k heap) (flush s (slice_get s.dirty 0)) ≡ Finished end es =
      subst (λ (i : Option Op). follow (next_run k heap) (execute image heap s i)
      ≡ Finished end es) e h in
      flushed_by k s heap end es e (λ t rest at ran. flushed k t heap end rest at ran)
      s.dirty refl g

  flushed_tidies : (ls : List ℕ) (end : End) (es : List Effect) → FlushedEnd ls end es
      → IsTidyEnd ls end es
  flushed_tidies ls (Halted v) es h = h.1
  flushed_tidies ls (Trapped k) es h = absurd h

  -- a step other than FLUSH, from an open state
  module _ (heap : Words) (s : State) (is_open : OpenFramesTidy image s) where
    abbrev Kept : StepOutcome → Type 0
    Kept (Ends (Halted v)) = ⊥
    Kept (Ends (Trapped k)) = Unit {0}
    Kept (Goes (Loads w) t) = OpenFramesTidy image t × (t.dirty ≡ s.dirty)
    Kept (Goes (Scans w apart many) t) = OpenFramesTidy image t × (t.dirty ≡ s.dirty)
    Kept (Goes (Stores w x) t) = OpenFramesTidy image t
        × (t.dirty ≡ insert_key nat_eq s.dirty (w / 8))
    Kept (Goes (Logs w) t) = OpenFramesTidy image t × (t.dirty ≡ s.dirty)
    Kept (Goes (Flushes l) t) = ⊥
    Kept (Goes Fences t) = ⊥
    Kept (Goes Quiet t) = OpenFramesTidy image t × (t.dirty ≡ s.dirty)

    kept_opens : (e : Effect) (t : State) → Kept (Goes e t) → OpenFramesTidy image t
    kept_opens (Loads w) t h = h.0
    kept_opens (Scans w apart many) t h = h.0
    kept_opens (Stores w x) t h = h.0
    kept_opens (Logs w) t h = h.0
    kept_opens (Flushes l) t h = absurd h
    kept_opens Fences t h = absurd h
    kept_opens Quiet t h = h.0

    one_tidy : (e : Effect) (t : State) (end : End) (rest : List Effect) → Kept (Goes e t)
        → IsTidyEnd t.dirty end rest → IsTidyEnd s.dirty end (e ∷ rest)
    one_tidy (Loads w) t (Halted v) rest kept h = subst (λ (ls : List ℕ). IsTidy ls rest) kept.1 h
    one_tidy (Scans w apart many) t (Halted v) rest kept h =
        subst (λ (ls : List ℕ). IsTidy ls rest) kept.1 h
    one_tidy (Loads w) t (Trapped k) rest kept h = h
    one_tidy (Scans w apart many) t (Trapped k) rest kept h = h
    one_tidy (Stores w x) t (Halted v) rest kept h =
        subst (λ (ls : List ℕ). IsTidy ls rest) kept.1 h
    one_tidy (Stores w x) t (Trapped k) rest kept h = h
    one_tidy (Logs w) t (Halted v) rest kept h = subst (λ (ls : List ℕ). IsTidy ls rest) kept.1 h
    one_tidy (Logs w) t (Trapped k) rest kept h = h
    one_tidy (Flushes l) t end rest kept h = absurd kept
    one_tidy Fences t end rest kept h = absurd kept
    one_tidy Quiet t (Halted v) rest kept h = subst (λ (ls : List ℕ). IsTidy ls rest) kept.1 h
    one_tidy Quiet t (Trapped k) rest kept h = h

    trapped_tidy : (end : End) (es : List Effect) (k : TrapKind)
        → Finished (Trapped k) [] ≡ Finished end es → IsTidyEnd s.dirty end es
    trapped_tidy end es k h =
        let same : Trapped k ≡ end = cc in
        let none : [] ≡ es = cc in
        subst (λ (q : End). IsTidyEnd s.dirty q es) same (subst IsStill none tt)

    kept_on : (o : StepOutcome) (f : Effect → State → Run) (end : End) (es : List Effect) → Kept o →
        ((e : Effect) (t : State) (rest : List Effect) → OpenFramesTidy image t
        → f e t ≡ Finished end rest → IsTidyEnd t.dirty end rest) →
        follow f o ≡ Finished end es → IsTidyEnd s.dirty end es
    kept_on (Ends (Halted v)) f end es kept next h = absurd kept
    kept_on (Ends (Trapped k)) f end es kept next h = trapped_tidy end es k h
    kept_on (Goes e t) f end es kept next h =
        let inv = began_rest e (f e t) end es h in
        subst (λ (fs : List Effect). IsTidyEnd s.dirty end fs) (sym inv.2)
        (one_tidy e t end inv.0 kept (next e t inv.0 (kept_opens e t kept) inv.1))

    kept_load : (r : ℕ) (p : Option ℕ) → IsPlainAt (fetch image (passed s))
        → Kept (load heap s r p)
    kept_load r None plain = (
      record { here = plain; below = is_open.below; last = is_open.last },
      refl,
    )
    kept_load r (Some w) plain = (
      record {
        here = plain;
        below = is_open.below;
        last = is_open.last;
      },
      refl,
    )

    kept_store : (x : ℤ) (p : Option ℕ) → IsPlainAt (fetch image (passed s))
        → Kept (store s x p)
    kept_store x None plain = (
      record { here = plain; below = is_open.below; last = is_open.last },
      refl,
    )
    kept_store x (Some w) plain = (
      record {
        here = plain;
        below = is_open.below;
        last = is_open.last;
      },
      refl,
    )

    kept_log : (p : Option ℕ) → IsPlainAt (fetch image (passed s))
        → Kept (log s p)
    kept_log None plain = (
      record { here = plain; below = is_open.below; last = is_open.last },
      refl,
    )
    kept_log (Some w) plain =
        (record { here = plain; below = is_open.below; last = is_open.last }, refl)

    kept_branch : (t : ℕ) (b : Bool) → IsPlainAt (fetch image (moved_to s t))
        → IsPlainAt (fetch image (passed s))
        → Kept (Goes Quiet (if b then moved_to s t else passed s))
    kept_branch t true there plain =
        (record { here = there; below = is_open.below; last = is_open.last }, refl)
    kept_branch t false there plain =
        (record { here = plain; below = is_open.below; last = is_open.last }, refl)

    kept_call : (r f : ℕ) (args : List ℕ) → IsPlainAt (fetch image (passed s))
        → Kept (call s r f args)
    kept_call r f args plain = by_depth (ltb (length s.below + 1) 256)
      where
        by_depth : (b : Bool) → Kept (if b then Goes Quiet (entered s r f args)
            else Ends (Trapped trap.Depth))
        by_depth true = (
          record {
            here = (tidy f).first;
            below = all_push (λ (g : Frame).
                IsPlainAt (fetch_in g.place (slice_get image.parts.functions g.function))) s.below
                (frame_at s.top (s.top.place + 1)) is_open.below plain;
            last = subst (λ (g : ℕ). IsReturnless (slice_get image.parts.functions g))
                (sym (bottom_push s.below (frame_at s.top (s.top.place + 1)) f s.top.function refl))
                is_open.last;
          },
          refl,
        )
        by_depth false = tt

    no_return : (a : ℕ) (bs : List Frame) → fetch image s ≡ Some (op.Ret a)
        → IsReturnless (slice_get image.parts.functions (bottom bs s.top.function))
        → slice_get bs (length bs - 1) ≡ None → ⊥
    no_return a [] e last none = last s.top.place a e
    no_return a (b ∷ bs) e last none = last_there b bs none

    kept_return : (a : ℕ) (v : ℤ) (o : Option Frame) → fetch image s ≡ Some (op.Ret a)
        → slice_get s.below (length s.below - 1) ≡ o → Kept (return s v o)
    kept_return a v None e is = absurd (no_return a s.below e is_open.last is)
    kept_return a v (Some c) e is = (
      record {
        here = all_at (λ (g : Frame). IsPlainAt
            (fetch_in g.place (slice_get image.parts.functions g.function))) s.below
            (length s.below - 1) c is_open.below is;
        below = all_take (λ (g : Frame).
            IsPlainAt (fetch_in g.place (slice_get image.parts.functions g.function)))
            (length s.below - 1) s.below is_open.below;
        last = subst (λ (g : ℕ). IsReturnless (slice_get image.parts.functions g))
            (sym (bottom_pop s.below c s.top.function is)) is_open.last;
      },
      refl,
    )

    kept_tick : (b : Bool) → IsPlainAt (fetch image (passed s))
        → Kept (if b then Ends (Trapped trap.Steps) else Goes Quiet (tick_spent s))
    kept_tick true plain = tt
    kept_tick false plain = (
      record { here = plain; below = is_open.below; last = is_open.last },
      refl,
    )

    leads_to : (o : Op) → fetch image s ≡ Some o
        → LeadsPlain (slice_get image.parts.functions s.top.function) o
    leads_to o e = (tidy s.top.function).leads s.top.place o e

    -- by the instruction here
    abbrev Ran : Option Op → Type 0
    Ran i = (k : ℕ) (end : End) (es : List Effect)
        → ((e : Effect) (t : State) (rest : List Effect) → OpenFramesTidy image t
        → next_run k heap e t ≡ Finished end rest → IsTidyEnd t.dirty end rest) →
        run image (suc k) s heap ≡ Finished end es → fetch image s ≡ i → IsTidyEnd s.dirty end es

    by_kept : (i : Option Op) → (fetch image s ≡ i → Kept (execute image heap s i))
        → Ran i
    by_kept i kept k end es next h e =
        kept_on (execute image heap s i) (next_run k heap) end es (kept e) next
        (subst (λ (j : Option Op). follow (next_run k heap) (execute image heap s j)
        ≡ Finished end es) e h)

    plain_here : (o : Op) → fetch image s ≡ Some o → IsPlain o
    plain_here o e = subst IsPlainAt e is_open.here

    ran_at : (i : Option Op) → Ran i
    ran_at None = by_kept None (λ e. tt)
    ran_at (Some (op.Const r v)) =
        by_kept (Some (op.Const r v)) (λ e. (
          record {
            here = next_after s (op.Const r v) e;
            below = is_open.below;
            last = is_open.last;
          },
          refl,
        ))
    ran_at (Some (op.Mov r a)) = by_kept (Some (op.Mov r a))
        (λ e. (
          record {
            here = next_after s (op.Mov r a) e;
            below = is_open.below;
            last = is_open.last;
          },
          refl,
        ))
    ran_at (Some (op.Bin o r a b)) =
        by_kept (Some (op.Bin o r a b))
        (λ e. (
          record {
            here = next_after s (op.Bin o r a b) e;
            below = is_open.below;
            last = is_open.last;
          },
          refl,
        ))
    ran_at (Some (op.Jmp t)) = by_kept (Some (op.Jmp t))
        (λ e. (
          record { here = leads_to (op.Jmp t) e; below = is_open.below; last = is_open.last },
          refl,
        ))
    ran_at (Some (op.Jz a t)) = by_kept (Some (op.Jz a t))
        (λ e. kept_branch t (int_eq (read_register s a) (pos 0)) (leads_to (op.Jz a t) e)
        (next_after s (op.Jz a t) e))
    ran_at (Some (op.Load r a o)) =
        by_kept (Some (op.Load r a o))
        (λ e. kept_load r (target image s a o) (next_after s (op.Load r a o) e))
    ran_at (Some (op.Find r)) =
        by_kept (Some (op.Find r)) (λ e. (
          record { here = next_after s (op.Find r) e; below = is_open.below; last = is_open.last },
          refl,
        ))
    ran_at (Some (op.Store a o b)) =
        by_kept (Some (op.Store a o b)) (λ e. kept_store (read_register s b) (target image s a o)
        (next_after s (op.Store a o b) e))
    ran_at (Some (op.Log a o)) = by_kept (Some (op.Log a o))
        (λ e. kept_log (target image s a o) (next_after s (op.Log a o) e))
    ran_at (Some op.Flush) = λ k end es next h e.
        flushed_tidies s.dirty end es (flushed (suc k) s heap end es e h)
    ran_at (Some op.Fence) = λ k end es next h e. absurd (plain_here op.Fence e)
    ran_at (Some (op.Call r f args)) =
        by_kept (Some (op.Call r f args))
        (λ e. kept_call r f args (next_after s (op.Call r f args) e))
    ran_at (Some (op.Ret a)) = by_kept (Some (op.Ret a))
        (λ e. kept_return a (read_register s a) (slice_get s.below (length s.below - 1)) e refl)
    ran_at (Some op.Tick) = by_kept (Some op.Tick)
        (λ e. kept_tick (s.ticks == 0) (next_after s op.Tick e))
    ran_at (Some (op.Trap k)) = by_kept (Some (op.Trap k)) (λ e. tt)
    ran_at (Some (op.Halt a)) = λ k end es next h e. absurd (plain_here (op.Halt a) e)

  pub tidy_run : (k : ℕ) (s : State) (heap : Words) (end : End) (es : List Effect)
      → OpenFramesTidy image s → run image k s heap ≡ Finished end es → IsTidyEnd s.dirty end es
  tidy_run zero s heap end es is_open h = absurd (cc)
  tidy_run (suc k) s heap end es is_open h =
      ran_at heap s is_open (fetch image s) k end es (λ e t rest opened ran.
      tidy_run k t (heap_past heap e) end rest opened ran) h refl

pub tidy_all : TidyLaw
tidy_all image k s heap end es tidy is_open h = tidy_run image tidy k s heap end es is_open h
