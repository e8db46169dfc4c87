-- A piece of code in its place runs as it runs alone.
use Rattle.std.proofs.Common.{◌≡◌, ◌≢◌, ◌⊎◌, inl, inr, ℕ, zero, suc, ◌+◌, ◌-◌, ◌<◌, ◌≤◌, ◌^◌, Bool}
use Rattle.std.proofs.Common.{true, false, List, [], ◌∷◌, length, Some, None, Option, ℤ, pos}
use Rattle.std.proofs.Common.{negsuc, refl, sym, ap, ◌∙◌, subst, arith, ltb, get_or, set}
use Rattle.std.proofs.Common.{length-set, ne_eqb}
use Rattle.std.specs.Prelude.{slice_get, if◌then◌else◌, ◌==◌}
use Rattle.std.specs.List.{AllByRecursion}
use Rattle.std.specs.Ordering.{int_eq}
use Rattle.std.proofs.Math.Nat.{min-eq_left}
use Rattle.std.proofs.lemmas.Bool.{cases_eq, lt-ltb, le-ltb}
use Rattle.std.proofs.lemmas.List.{get_or-set_same, get_or-set_other}
use Rattle.cache_model.specs.Cache.{Words, put}
use Rattle.cache_model.proofs.Versions.{put_same, put_other}
use Rattle.nvm_base.specs.Applied.{applied}
use Rattle.pm_machine.specs.declared.effect.Effect.{Effect}
use Rattle.pm_machine.specs.declared.effect.Effect.TheVariants.{Loads, Scans, Stores, Logs, Quiet}
use Rattle.pm_machine.specs.declared.effect.End.TheVariants.{Trapped}
use Rattle.pool_map.specs.declared.trap.TrapKind.TheVariants as trap
use Rattle.pool_layout.specs.Sizes.{slot_words, slot_word}
use Rattle.pm_machine.specs.declared.image.Image.{Image}
use Rattle.pm_machine.specs.Find.{least, looks}
use Rattle.pm_machine.specs.declared.op.Op.{Op}
use Rattle.pm_machine.specs.Machine as machine
use Rattle.pm_alloc.specs.declared.local.Reg.{Reg}
use Rattle.pm_alloc.specs.declared.local.Reg.TheVariants.{Own, Temp}
use Rattle.pm_alloc.specs.declared.local.Local.{Local}
use Rattle.pm_alloc.specs.declared.local.Local.TheVariants.{Const, Mov, Bin, Jmp, Jz, Load, Store}
use Rattle.pm_alloc.specs.declared.local.Local.TheVariants.{Find, Log, Tick, Trap}
use Rattle.pm_alloc.specs.Placing.{sum, register_number, placed}
use Rattle.pm_alloc.specs.Runs.{Next, Goes, Traps, Off, then, local_run}
use Rattle.pm_alloc.specs.LocalRun.{World, Loc, branch_at_zero, local_read, local_write, go_to}
use Rattle.pm_alloc.specs.LocalRun.{local_target}
use Rattle.pm_alloc.specs.LocalRun as local
use Rattle.machine_law.specs.emitted.Moments.{RunMoment, RunStage, On, Over, staged, one}
use Rattle.machine_law.specs.emitted.Moments.{stage_then, go}
use Rattle.machine_law.specs.emitted.Placed.{heard, IsReg, IsFine, IsPlaced, FrameHolds, Setting}
use Rattle.machine_law.specs.emitted.Placed.{moment, Same, IsShared, Follows}

-- a sum that fits
pub sum_is : (a b : ℕ) → a + b < 2 ^ 32 → sum a b ≡ a + b
sum_is a b room = min-eq_left (omega arith)

pub fine_at : (n base : ℕ) (piece : List Local) (k : ℕ) (i : Local)
    → AllByRecursion (IsFine n base) piece → slice_get piece k ≡ Some i → IsFine n base i
fine_at n base [] k i h e = absurd (cc)
fine_at n base (j ∷ piece) zero i h e = let same : j ≡ i = cc in subst (IsFine n base) same h.0
fine_at n base (j ∷ piece) (suc k) i h e = fine_at n base piece k i h.1 e

-- a register of the piece has the same value in the frame
held : (base : ℕ) (own : Words) (temp regs : List ℤ) (a : Reg) → base + 8 < 2 ^ 32
    → FrameHolds base own temp regs → IsReg base a → get_or regs (register_number base a) (pos 0)
    ≡ local_read own temp a
held base own temp regs (Own r) room h is = h.own_is r is
held base own temp regs (Temp j) room h is =
    ap (λ (n : ℕ). get_or regs n (pos 0)) (sum_is base j (omega arith)) ∙ h.temp_is j is

module _ (base : ℕ) (own : Words) (temp regs : List ℤ) (room : base + 8 < 2 ^ 32)
    (h : FrameHolds base own temp regs) where
  own_same : (r : ℕ) (x : ℤ) → r < base → (q : ℕ) → q < base → (q ≡ r) ⊎ (q ≢ r)
      → get_or (set regs r x) q (pos 0) ≡ put own r x q
  own_same r x is q below (inl e) =
      ap (λ (i : ℕ). get_or (set regs r x) i (pos 0)) e ∙ get_or-set_same regs r x (pos 0)
      (omega (arith, h.room)) ∙ sym (put_same own r x) ∙ ap (put own r x) (sym e)
  own_same r x is q below (inr ne) = get_or-set_other regs r q x (pos 0) ne ∙ h.own_is q below
      ∙ sym (put_other own r q x ne)

  own_written : (r : ℕ) (x : ℤ) → r < base → FrameHolds base (put own r x) temp (set regs r x)
  own_written r x is = record {
    eight = h.eight;
    room = let e : length (set regs r x) ≡ length regs = length-set regs r x in
        omega (arith, h.room);
    own_is = λ q below. own_same r x is q below (cases_eq q r);
    temp_is = λ j small. get_or-set_other regs r (base + j) x (pos 0) (λ e. absurd (omega arith))
        ∙ h.temp_is j small;
  }

  temp_same : (j : ℕ) (x : ℤ) → j < 8 → (i : ℕ) → i < 8 → (i ≡ j) ⊎ (i ≢ j)
      → get_or (set regs (base + j) x) (base + i) (pos 0) ≡ get_or (set temp j x) i (pos 0)
  temp_same j x is i small (inl e) =
      ap (λ (k : ℕ). get_or (set regs (base + j) x) (base + k) (pos 0)) e
      ∙ get_or-set_same regs (base + j) x (pos 0) (omega (arith, h.room))
      ∙ sym (get_or-set_same temp j x (pos 0) (omega (arith, h.eight)))
      ∙ ap (λ (k : ℕ). get_or (set temp j x) k (pos 0)) (sym e)
  temp_same j x is i small (inr ne) =
      get_or-set_other regs (base + j) (base + i) x (pos 0) (λ e. ne (omega arith))
      ∙ h.temp_is i small ∙ sym (get_or-set_other temp j i x (pos 0) ne)

  temp_written : (j : ℕ) (x : ℤ) → j < 8
      → FrameHolds base own (set temp j x) (set regs (base + j) x)
  temp_written j x is = record {
    eight = length-set temp j x ∙ h.eight;
    room = let e : length (set regs (base + j) x) ≡ length regs = length-set regs (base + j) x in
        omega (arith, h.room);
    own_is = λ q below. get_or-set_other regs (base + j) q x (pos 0) (λ e. absurd (omega arith))
        ∙ h.own_is q below;
    temp_is = λ i small. temp_same j x is i small (cases_eq i j);
  }

module _ (image : Image) (x : Setting) (n : ℕ) (room : x.base + 8 < 2 ^ 32)
    (short : x.place + n < 2 ^ 32) where
  abbrev at_moment : (at : ℕ) → List ℤ → World → (dirty : List ℕ) → List Effect
      → RunMoment
  at_moment at regs w dirty seen = moment x at regs w dirty seen

  wrote : (at : ℕ) (own : Words) (temp : List ℤ) (w : World) (r : Reg) (v y : ℤ) (regs : List ℤ)
      (dirty : List ℕ) (seen : List Effect) →
      FrameHolds x.base own temp regs → heard seen ≡ w.seen → IsReg x.base r → y ≡ v →
      Same x (local_write (at + 1) own temp w r v)
      (at_moment (x.place + at + 1) (set regs (register_number x.base r) y) w dirty seen)
  wrote at own temp w (Own r) v y regs dirty seen h hear is e = record {
    regs = set regs r v;
    dirty = dirty;
    seen = seen;
    holds = own_written x.base own temp regs room h r v is;
    heard_is = hear;
    is = let next : x.place + at + 1 ≡ x.place + (at + 1) = omega arith in
        ap (λ (i : ℕ). at_moment i (set regs r y) w dirty seen) next
        ∙ ap (λ (z : ℤ). at_moment (x.place + (at + 1)) (set regs r z) w dirty seen) e;
  }
  wrote at own temp w (Temp j) v y regs dirty seen h hear is e = record {
    regs = set regs (x.base + j) v;
    dirty = dirty;
    seen = seen;
    holds = temp_written x.base own temp regs room h j v is;
    heard_is = hear;
    is = let next : x.place + at + 1 ≡ x.place + (at + 1) = omega arith in
        ap (λ (i : ℕ). at_moment i (set regs (sum x.base j) y) w dirty seen) next
        ∙ ap (λ (z : ℤ). at_moment (x.place + (at + 1)) (set regs (sum x.base j) z) w dirty
        seen) e
        ∙ ap (λ (i : ℕ). at_moment (x.place + (at + 1)) (set regs i v) w dirty seen)
        (sum_is x.base j (omega arith));
  }

  -- only the world and the place change
  passes : (l : Loc) (w : World) (regs : List ℤ) (dirty : List ℕ) (seen : List Effect)
      → FrameHolds x.base l.own l.temp regs → heard seen ≡ w.seen
      → Same x (local.local_next l w) (at_moment (x.place + l.at + 1) regs w dirty seen)
  passes l w regs dirty seen h hear = record {
    regs = regs;
    dirty = dirty;
    seen = seen;
    holds = record { eight = h.eight; room = h.room; own_is = h.own_is; temp_is = h.temp_is };
    heard_is = hear;
    is = let next : x.place + l.at + 1 ≡ x.place + (l.at + 1) = omega arith in
        ap (λ (i : ℕ). at_moment i regs w dirty seen) next;
  }

  jumps : (l : Loc) (t : ℕ) (regs : List ℤ) (dirty : List ℕ) (seen : List Effect) →
      FrameHolds x.base l.own l.temp regs → heard seen ≡ l.world.seen → t ≤ n
      → Same x (go_to l t) (at_moment (sum x.place t) regs l.world dirty seen)
  jumps l t regs dirty seen h hear low = record {
    regs = regs;
    dirty = dirty;
    seen = seen;
    holds = record { eight = h.eight; room = h.room; own_is = h.own_is; temp_is = h.temp_is };
    heard_is = hear;
    is = ap (λ (i : ℕ). at_moment i regs l.world dirty seen)
        (sum_is x.place t (omega arith));
  }

  module _ (l : Loc) (regs : List ℤ) (dirty : List ℕ) (seen : List Effect)
      (h : FrameHolds x.base l.own l.temp regs) (hear : heard seen ≡ l.world.seen) where
    abbrev now : RunMoment
    now = at_moment (x.place + l.at) regs l.world dirty seen

    abbrev acts : Op → RunStage
    acts o = staged now (machine.execute image l.world.heap now.state (Some o))

    shared : IsShared l.world now
    shared = record { heap_is = refl; ticks_is = refl; heard_is = hear }

    frame_read : (a : Reg) → IsReg x.base a → get_or regs (register_number x.base a) (pos 0)
        ≡ local_read l.own l.temp a
    frame_read a is = held x.base l.own l.temp regs a room h is

    branches : (a t : ℕ) (z : ℤ) → t ≤ n →
        Follows x (branch_at_zero z (Goes (go_to l t)) (Goes (go_to l (l.at + 1))))
        (staged now (machine.Goes Quiet (if int_eq z (pos 0)
        then machine.moved_to now.state (sum x.place t) else machine.passed now.state)))
    branches a t (pos zero) low = jumps l t regs dirty (Quiet ∷ seen) h hear low
    branches a t (pos (suc k)) low =
        let some : int_eq (pos (suc k)) (pos 0) ≡ false =
        (let above : ltb 0 (suc k) ≡ true = lt-ltb 0 (suc k) (omega arith) in
        let low : ltb (suc k) 0 ≡ false = le-ltb (suc k) 0 (omega arith) in
        rw (low, above) refl) in
        subst (λ (b : Bool). Follows x (Goes (go_to l (l.at + 1)))
        (staged now (machine.Goes Quiet (if b then machine.moved_to now.state (sum x.place t)
        else machine.passed now.state)))) (sym some)
        (passes l l.world regs dirty (Quiet ∷ seen) h hear)
    branches a t (negsuc k) low = passes l l.world regs dirty (Quiet ∷ seen) h hear

    loads : (r : Reg) (o : Option ℕ) → IsReg x.base r
        → Follows x (local.local_load l r o)
        (staged now (machine.load l.world.heap now.state (register_number x.base r) o))
    loads r None is = wrote l.at l.own l.temp l.world r (pos 0) (pos 0) regs dirty
        (Quiet ∷ seen) h hear is refl
    loads r (Some w) is = wrote l.at l.own l.temp (local.see l.world (Loads w)) r (l.world.heap w)
        (l.world.heap w) regs dirty (Loads w ∷ seen) h
        (ap (λ (es : List Effect). Loads w ∷ es) hear) is refl

    stores : (v : ℤ) (o : Option ℕ)
        → Follows x (local.local_store l v o) (staged now (machine.store now.state v o))
    stores v None = passes l l.world regs dirty (Quiet ∷ seen) h hear
    stores v (Some w) = passes l (local.local_stored l.world w v) regs
        (machine.stored now.state w).dirty (Stores w v ∷ seen) h
        (ap (λ (es : List Effect). Stores w v ∷ es) hear)

    logs : (o : Option ℕ)
        → Follows x (local.local_log l o) (staged now (machine.log now.state o))
    logs None = passes l l.world regs dirty (Quiet ∷ seen) h hear
    logs (Some w) = passes l (local.logged l.world w) regs dirty (Logs w ∷ seen) h
        (ap (λ (es : List Effect). Logs w ∷ es) hear)

    act_as : (i : Local) → IsFine n x.base i
        → Follows x (local.local_act image.parts.sizes l (Some i)) (acts (placed x.base x.place i))
    act_as (Const r v) is = wrote l.at l.own l.temp l.world r v v regs dirty (Quiet ∷ seen) h
        hear is refl
    act_as (Mov r a) is = wrote l.at l.own l.temp l.world r (local_read l.own l.temp a)
        (get_or regs (register_number x.base a) (pos 0)) regs dirty (Quiet ∷ seen)
        h hear is.0
        (frame_read a is.1)
    act_as (Bin o r a b) is =
        wrote l.at l.own l.temp l.world r
        (applied o (local_read l.own l.temp a) (local_read l.own l.temp b))
        (applied o (get_or regs (register_number x.base a) (pos 0))
        (get_or regs (register_number x.base b) (pos 0))) regs dirty (Quiet ∷ seen)
        h hear is.0
        (ap (λ (y : ℤ). applied o y (get_or regs (register_number x.base b) (pos 0)))
        (frame_read a is.1) ∙ ap (λ (y : ℤ). applied o (local_read l.own l.temp a) y)
        (frame_read b is.2))
    act_as (Jmp t) is = jumps l t regs dirty (Quiet ∷ seen) h hear is
    act_as (Jz a t) is =
        subst (λ (z : ℤ). Follows x (branch_at_zero z (Goes (go_to l t))
        (Goes (go_to l (l.at + 1)))) (acts (placed x.base x.place (Jz a t)))) (frame_read a is.0)
        (branches (register_number x.base a) t (get_or regs (register_number x.base a) (pos 0))
        is.1)
    act_as (Load r a o) is =
        subst (λ (z : ℤ). Follows x (local.local_load l r (local_target image.parts.sizes z o))
        (acts (placed x.base x.place (Load r a o)))) (frame_read a is.1)
        (loads r (local_target image.parts.sizes (get_or regs (register_number x.base a) (pos 0)) o)
        is.0)
    act_as (Find r) is =
        wrote l.at l.own l.temp (local.searched image.parts.sizes l.world) r
        (pos (least image.parts.sizes l.world.heap)) (pos (least image.parts.sizes l.world.heap))
        regs dirty
        (Scans (slot_word image.parts.sizes 1) (slot_words image.parts.sizes)
        (looks image.parts.sizes l.world.heap) ∷ seen) h
        (ap (λ (es : List Effect).
        Scans (slot_word image.parts.sizes 1) (slot_words image.parts.sizes)
        (looks image.parts.sizes l.world.heap) ∷ es) hear) is refl
    act_as (Store a o b) is =
        subst (λ (z : ℤ). Follows x (local.local_store l (local_read l.own l.temp b)
        (local_target image.parts.sizes z o)) (acts (placed x.base x.place (Store a o b))))
        (frame_read a is.0)
        (subst (λ (z : ℤ). Follows x (local.local_store l z
        (local_target image.parts.sizes (get_or regs (register_number x.base a) (pos 0)) o))
        (acts (placed x.base x.place (Store a o b)))) (frame_read b is.1)
        (stores (get_or regs (register_number x.base b) (pos 0))
        (local_target image.parts.sizes (get_or regs (register_number x.base a) (pos 0)) o)))
    act_as (Log a o) is =
        subst (λ (z : ℤ). Follows x (local.local_log l
        (local_target image.parts.sizes z o)) (acts (placed x.base x.place (Log a o))))
        (frame_read a is)
        (logs (local_target image.parts.sizes (get_or regs (register_number x.base a) (pos 0)) o))
    act_as Tick is = ticks l.world.ticks refl
      where
        ticks : (t : ℕ) → l.world.ticks ≡ t
            → Follows x (local.local_tick l t)
            (staged now (if t == 0 then machine.Ends (Trapped trap.Steps)
            else machine.Goes Quiet (machine.tick_spent now.state)))
        ticks zero e = (refl, shared)
        ticks (suc t) e =
            let less : l.world.ticks - 1 ≡ t = omega arith in
            let some : (suc t == 0) ≡ false = ne_eqb (suc t) 0 (λ none. absurd (omega arith)) in
            let fewer : ℕ → World =
            λ n. record { heap = l.world.heap; seen = l.world.seen; ticks = n } in
            subst (λ (b : Bool). Follows x (Goes (local.local_next l (fewer t)))
            (staged now (if b then machine.Ends (Trapped trap.Steps)
            else machine.Goes Quiet (machine.tick_spent now.state)))) (sym some)
            (subst (λ (c : ℕ). Same x (local.local_next l (fewer t))
            (at_moment (x.place + l.at + 1) regs (fewer c) dirty (Quiet ∷ seen))) (sym less)
            (passes l (fewer t) regs dirty (Quiet ∷ seen) h hear))
    act_as (Trap k) is = (refl, shared)

module _ (image : Image) (x : Setting) (piece : List Local)
    (placed_in : IsPlaced image x.function x.base x.place piece) where
  fetched : (o : Option Local) (l : Loc) (regs : List ℤ) (dirty : List ℕ)
      (seen : List Effect) → slice_get piece l.at ≡ o → FrameHolds x.base l.own l.temp regs
      → heard seen ≡ l.world.seen →
      Follows x (local.local_act image.parts.sizes l o)
      (one image (moment x (x.place + l.at) regs l.world dirty seen))
  fetched None l regs dirty seen e h hear = tt
  fetched (Some i) l regs dirty seen e h hear =
      let m : RunMoment = moment x (x.place + l.at) regs l.world dirty seen in
      subst (λ (o : Option Op). Follows x (local.local_act image.parts.sizes l (Some i))
      (staged m (machine.execute image l.world.heap m.state o)))
      (sym (placed_in.there l.at i e))
      (act_as image x (length piece) placed_in.room placed_in.short l regs dirty seen h hear
      i (fine_at (length piece) x.base piece l.at i placed_in.fine e))

  pub step_as : (l : Loc) (m : RunMoment) → Same x l m
      → Follows x (local.local_step image.parts.sizes piece l) (one image m)
  step_as l m same = subst (λ (b : RunMoment).
      Follows x (local.local_step image.parts.sizes piece l) (one image b)) (sym same.is)
      (fetched (slice_get piece l.at) l same.regs same.dirty same.seen refl same.holds
      same.heard_is)

  next_as : (n : ℕ) (r : Next World Loc) (s : RunStage) → Follows x r s
      → ((k : Loc) (b : RunMoment) → Same x k b
      → Follows x (local_run (local.local_step image.parts.sizes piece) n k) (go image n b)) →
      Follows x ((then) r (local_run (local.local_step image.parts.sizes piece) n))
      (stage_then s (go image n))
  next_as n (Goes l) (On m) same more = more l m same
  next_as n (Goes l) (Over end m) same more = absurd same
  next_as n (Traps k w) (On m) same more = absurd same
  next_as n (Traps k w) (Over end m) same more = same
  next_as n Off s same more = tt

  pub run_as : (n : ℕ) (l : Loc) (m : RunMoment) → Same x l m
      → Follows x (local_run (local.local_step image.parts.sizes piece) n l) (go image n m)
  run_as zero l m same = same
  run_as (suc n) l m same = next_as n (local.local_step image.parts.sizes piece l) (one image m)
      (step_as l m same) (λ k b. run_as n k b)
