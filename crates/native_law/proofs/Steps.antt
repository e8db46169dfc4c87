-- A step of the printed functions is the machine's, an instruction at a time.
use Rattle.std.proofs.Common.{◌≡◌, ℕ, zero, suc, [], ◌∷◌, ◌++◌, drop, take, ◌+◌, ◌-◌, ◌/◌, ◌^◌}
use Rattle.std.proofs.Common.{◌<◌, ◌≤◌, ℤ, pos, ◌+ℤ◌, refl, sym, subst, ◌∙◌, ap, arith}
use Rattle.std.proofs.Common.{Bool, true, false, Option, Some, None, List, length, map, replicate}
use Rattle.std.proofs.Common.{length-append}
use Rattle.std.specs.Prelude.{FitsSigned, slice_get, slice_set, slice_index_or, ◌==◌, ◌&&◌, ◌||◌}
use Rattle.std.specs.Prelude.{not, nat_lt, nat_eq, if◌then◌else◌}
use Rattle.std.specs.Int.{w64, int_wrap}
use Rattle.std.specs.List.{list_all}
use Rattle.std.specs.Ordering.{int_eq}
use Rattle.std.proofs.lemmas.Bool.{ltb-true, ltb-false, lt-ltb, eqb-true, eq-eqb}
use Rattle.std.proofs.lemmas.List.{length-set, length-map, length-replicate}
use Rattle.std.proofs.lemmas.Int.{SFits-int_wrap}
use Rattle.indexmap.specs.IndexSet.{insert_key}
use Rattle.cache_model.specs.Cache.{Words, put}
use Rattle.pool_layout.specs.Sizes.{heap_words}
use Rattle.nvm_base.specs.Operations.{unsigned}
use Rattle.nvm_base.specs.Applied.{applied}
use Rattle.nvm_base.proofs.LawLemmas.{word_fits}
use Rattle.pm_machine.specs.declared.op.Op.{Op}
use Rattle.pm_machine.specs.declared.op.Op.TheVariants.{Const, Mov, Bin, Jmp, Jz, Load, Store, Find}
use Rattle.pm_machine.specs.declared.op.Op.TheVariants.{Log, Flush, Fence, Call, Ret, Tick, Trap}
use Rattle.pm_machine.specs.declared.op.Op.TheVariants.{Halt}
use Rattle.pm_machine.specs.declared.op.Function.{Function}
use Rattle.pm_machine.specs.declared.effect.Effect.TheVariants as effect
use Rattle.pm_machine.specs.declared.effect.End.TheVariants as end
use Rattle.pool_map.specs.declared.trap.TrapKind.TheVariants as trap
use Rattle.pool_map.specs.Trap.{trap_number, trap_of}
use Rattle.pm_machine.specs.declared.frame.Frame.{Frame}
use Rattle.pm_machine.specs.declared.image.Image.{Image}
use Rattle.pm_machine.specs.Find.{least}
use Rattle.pm_machine.specs.Checked.{op_is_there, is_good_op, is_end, takes_arguments}
use Rattle.pm_machine.specs.Machine as machine
use Rattle.pm_machine.specs.Machine.{State, read_register, execute, load, store, log, target, fetch}
use Rattle.pm_machine.specs.Machine.{frame_at, fetch_in}
use Rattle.pm_machine.specs.Logging.{Plays, Stops, turn, unlisted, rolled, has_room, noted}
use Rattle.pm_machine.specs.Logging.{with_record}
use Rattle.c_fragment.specs.State.{Waiting, CState, Stored, state_at, state_past, with_register}
use Rattle.c_fragment.specs.State.{with_store, with_noted, with_tick, with_flushed, with_callee}
use Rattle.c_fragment.specs.State.{variables_of}
use Rattle.c_fragment.specs.Meaning.{CStep, Goes, Traps, c_does, assign, jump_to, recorded}
use Rattle.c_fragment.specs.Meaning.{after_record, flush_first, function_entered, function_left}
use Rattle.c_fragment.specs.Translation.{statement_of, c_function}
use Rattle.pm_machine.proofs.Range.{heap_few}
use Rattle.native_law.specs.Printed.{IsPrintable}
use Rattle.native_law.specs.inside.Standing.{HoldsBits, IsOpenAs, IsWaitingFor, WaitsAlike}
use Rattle.native_law.specs.inside.Standing.{MirrorsState, TurnsAgree}
use Rattle.native_law.proofs.Tests.{left_of, right_of, first_of}
use Rattle.native_law.proofs.Words.{operation_same, applied_fits, add_same, word_of, word_same}
use Rattle.native_law.proofs.Registers.{got, put_holds, begin_holds, placed_filled, values_same}
use Rattle.native_law.proofs.Registers.{values_fit}
use Rattle.native_law.proofs.Checks.{parameters_fit, some_code, good_at, most_at}
use Rattle.native_law.proofs.Frames.{last_is, rest_is, waits_length}
use Rattle.native_law.proofs.Searches.{zero_same, least_same, least_fits}

-- a trap's number is that of the trap with that number
trap_same : (k : ℕ) → 0 < k → k < 9 → k ≡ trap_number (machine.trap_at (trap_of k))
trap_same zero low high = absurd (omega (arith, low))
trap_same (suc zero) low high = refl
trap_same (suc (suc zero)) low high = refl
trap_same (suc (suc (suc zero))) low high = refl
trap_same (suc (suc (suc (suc zero)))) low high = refl
trap_same (suc (suc (suc (suc (suc zero))))) low high = refl
trap_same (suc (suc (suc (suc (suc (suc zero)))))) low high = refl
trap_same (suc (suc (suc (suc (suc (suc (suc zero))))))) low high = refl
trap_same (suc (suc (suc (suc (suc (suc (suc (suc zero)))))))) low high = refl
trap_same (suc (suc (suc (suc (suc (suc (suc (suc (suc k))))))))) low high =
    absurd (omega (arith, high))

pub mapped : (us : List Function) (i : ℕ) (u : Function) → slice_get us i ≡ Some u
    → slice_get (map c_function us) i ≡ Some (c_function u)
mapped [] i u e = absurd (cc)
mapped (v ∷ us) zero u e = let same : v ≡ u = cc in ap (λ (w : Function). Some (c_function w)) same
mapped (v ∷ us) (suc i) u e = mapped us i u e

taken : (us : List Function) (f n : ℕ) → takes_arguments (slice_get us f) n ≡ true
    → (v : Function) × (slice_get us f ≡ Some v) × (v.parameters ≡ n)
taken us f n e = by (slice_get us f) refl e
  where
    by : (o : Option Function) → slice_get us f ≡ o → takes_arguments o n ≡ true
        → (v : Function) × (slice_get us f ≡ Some v) × (v.parameters ≡ n)
    by None found e = absurd (cc)
    by (Some v) found e = (v, found, eqb-true v.parameters n e)

-- a record that is noted changes nothing else
noted_stands : (image : Image) (heap : Words) (s : State) (c : CState) (o : Option ℕ)
    → MirrorsState image heap s c → MirrorsState image heap s (with_noted c o)
noted_stands image heap s c o stands = record {
  top = stands.top;
  waiting = stands.waiting;
  few = stands.few;
  size = stands.size;
  ticks = stands.ticks;
  dirty = stands.dirty;
  heap = stands.heap;
  words = stands.words;
}

module _ (image : Image) (heap : Words) (s : State) (c : CState)
    (code : IsPrintable image.parts.functions) (stands : MirrorsState image heap s c) where
  abbrev us : List Function
  us = image.parts.functions

  abbrev m : ℕ
  m = length stands.top.u.code

  abbrev H : ℕ
  H = heap_words image.parts.sizes

  abbrev count : ℕ
  count = length c.registers

  abbrev here : ℕ
  here = s.top.place

  small : H ≤ 2 ^ 63
  small = omega (arith, heap_few image.parts.sizes)

  abbrev at : ℕ → ℤ
  at a = read_register s a

  abbrev C : ℕ
  C = image.parts.sizes.records

  abbrev agrees : machine.StepOutcome → CStep → Type 0
  agrees o x = TurnsAgree image heap (turn C c.logging o) x

  pub read : (a : ℕ) → nat_lt a count ≡ true → slice_get c.registers a ≡ Some (unsigned (at a))
  read a inside = got c.registers s.top.registers a stands.top.holds (ltb-true a count inside)

  pub word : (a : ℕ) → FitsSigned w64 (at a)
  word a = stands.top.holds.words a

  -- the function goes on at a place of its code
  on : (p q : ℕ) → p ≡ q → q < m → IsOpenAs us c.function p c.registers (frame_at s.top q)
  on p q e inside = record {
    u = stands.top.u;
    found = stands.top.found;
    function = stands.top.function;
    place = e;
    inside = inside;
    declared = stands.top.declared;
    holds = stands.top.holds;
  }

  abbrev next_place : c.place + 1 ≡ here + 1
  next_place = ap (λ (p : ℕ). p + 1) stands.top.place

  moved : (p q : ℕ) → p ≡ q → q < m
      → MirrorsState image heap (machine.moved_to s q) (state_at c p)
  moved p q e inside = record {
    top = on p q e inside;
    waiting = stands.waiting;
    few = stands.few;
    size = stands.size;
    ticks = stands.ticks;
    dirty = stands.dirty;
    heap = stands.heap;
    words = stands.words;
  }

  next : here + 1 < m → MirrorsState image heap (machine.passed s) (state_past c)
  next past = moved (c.place + 1) (here + 1) next_place past

  written : (r : ℕ) (v : ℤ) → r < count → FitsSigned w64 v → here + 1 < m
      → MirrorsState image heap (machine.written s r v) (with_register c r (unsigned v))
  written r v inside f past = record {
    top = record {
      u = stands.top.u;
      found = stands.top.found;
      function = stands.top.function;
      place = next_place;
      inside = past;
      declared = length-set c.registers r (unsigned v) ∙ stands.top.declared;
      holds = put_holds c.registers s.top.registers r v inside f stands.top.holds;
    };
    waiting = stands.waiting;
    few = stands.few;
    size = stands.size;
    ticks = stands.ticks;
    dirty = stands.dirty;
    heap = stands.heap;
    words = stands.words;
  }

  spent : here + 1 < m → MirrorsState image heap (machine.tick_spent s) (with_tick c)
  spent past = record {
    top = on (c.place + 1) (here + 1) next_place past;
    waiting = stands.waiting;
    few = stands.few;
    size = stands.size;
    ticks = ap (λ (k : ℕ). k - 1) stands.ticks;
    dirty = stands.dirty;
    heap = stands.heap;
    words = stands.words;
  }

  put_heap : (w : ℕ) (x : ℤ) (u : ℕ) → (if u == w then unsigned x else c.heap u)
      ≡ unsigned (put heap w x u)
  unfolding put
  put_heap w x u = by (u == w) refl
    where
      by : (t : Bool) → (u == w) ≡ t → (if u == w then unsigned x else c.heap u)
          ≡ unsigned (put heap w x u)
      by true e = rw e refl
      by false e = rw e (stands.heap u)

  put_fits : (w : ℕ) (x : ℤ) → FitsSigned w64 x → (u : ℕ) → u < H
      → FitsSigned w64 (put heap w x u)
  unfolding put
  put_fits w x f u low = by (u == w) refl
    where
      by : (t : Bool) → (u == w) ≡ t → FitsSigned w64 (put heap w x u)
      by true e = rw e f
      by false e = rw e (stands.words u low)

  pub stored : (w : ℕ) (x : ℤ) → FitsSigned w64 x → here + 1 < m
      → MirrorsState image (put heap w x) (machine.stored s w) (with_store c w (unsigned x))
  stored w x f past = record {
    top = on (c.place + 1) (here + 1) next_place past;
    waiting = stands.waiting;
    few = stands.few;
    size = stands.size;
    ticks = stands.ticks;
    dirty = ap (λ (ds : List ℕ). insert_key nat_eq ds (w / 8)) stands.dirty;
    heap = put_heap w x;
    words = put_fits w x f;
  }

  flushed : (l : ℕ) (ds : List ℕ) → s.dirty ≡ l ∷ ds
      → MirrorsState image heap (machine.cleaned s) (with_flushed c here ds)
  flushed l ds e = record {
    top = on here here refl stands.top.inside;
    waiting = stands.waiting;
    few = stands.few;
    size = stands.size;
    ticks = stands.ticks;
    dirty = sym (ap (λ (ks : List ℕ). drop 1 ks) e);
    heap = stands.heap;
    words = stands.words;
  }

  set : (r : ℕ) (v : ℤ) → nat_lt r count ≡ true → FitsSigned w64 v → here + 1 < m
      → agrees (machine.Goes effect.Quiet (machine.written s r v)) (assign c r (unsigned v))
  set r v inside f past = rw inside (refl, refl, written r v (ltb-true r count inside) f past)

  by_load : (r x : ℕ) (t : Bool) → nat_lt x H ≡ t → nat_lt r count ≡ true → here + 1 < m
      → agrees (load heap s r (if t then Some x else None))
      (assign c r (if t then c.heap x else 0))
  by_load r x true low inside past = rw (stands.heap x, inside) (
    refl,
    refl,
    written r (heap x) (ltb-true r count inside)
        (stands.words x (ltb-true x H low)) past,
  )
  by_load r x false low inside past = set r (pos 0) inside (record { sfits = omega arith }) past

  by_store : (x : ℕ) (v : ℤ) (t : Bool) → FitsSigned w64 v → here + 1 < m
      → agrees (store s v (if t then Some x else None))
      (if t then after_record image.parts.sizes
      (unlisted c.logging.words (rolled c.logging.policy x)) (Stored x (unsigned v) ∷ [])
      (with_store c x (unsigned v)) else Goes [] (state_past c))
  by_store x v true f past =
      let o = unlisted c.logging.words (rolled c.logging.policy x) in
      by o (has_room C c.logging o)
    where
      by : (o : Option ℕ) (t : Bool)
          → TurnsAgree image heap (if t then Plays (with_record o (effect.Stores x v))
          (noted c.logging o) (machine.stored s x) else Stops (end.Trapped trap.LogFull))
          (if t then Goes (recorded o ++ Stored x (unsigned v) ∷ [])
          (with_noted (with_store c x (unsigned v)) o) else Traps 7)
      by None true = (
        refl,
        refl,
        noted_stands image (put heap x v) (machine.stored s x)
            (with_store c x (unsigned v)) None (stored x v f past),
      )
      by (Some w) true = (
        refl,
        refl,
        noted_stands image (put heap x v) (machine.stored s x)
            (with_store c x (unsigned v)) (Some w) (stored x v f past),
      )
      by None false = refl
      by (Some w) false = refl
  by_store x v false f past = (refl, refl, next past)

  by_log : (x : ℕ) (t : Bool) → here + 1 < m
      → agrees (log s (if t then Some x else None))
      (if t then after_record image.parts.sizes (unlisted c.logging.words (Some x)) []
      (state_past c) else Goes [] (state_past c))
  by_log x true past =
      let o = unlisted c.logging.words (Some x) in
      by o (has_room C c.logging o)
    where
      by : (o : Option ℕ) (t : Bool)
          → TurnsAgree image heap (if t then Plays (with_record o (effect.Logs x))
          (noted c.logging o) (machine.passed s) else Stops (end.Trapped trap.LogFull))
          (if t then Goes (recorded o ++ []) (with_noted (state_past c) o) else Traps 7)
      by None true =
          (refl, refl, noted_stands image heap (machine.passed s) (state_past c) None (next past))
      by (Some w) true = (
        refl,
        refl,
        noted_stands image heap (machine.passed s) (state_past c)
            (Some w) (next past),
      )
      by None false = refl
      by (Some w) false = refl
  by_log x false past = (refl, refl, next past)

  by_branch : (t : ℕ) (z : Bool) → nat_lt t m ≡ true → here + 1 < m
      → agrees (machine.Goes effect.Quiet (if z then machine.moved_to s t else machine.passed s))
      (if z then jump_to m c t else Goes [] (state_past c))
  by_branch t true inside past = rw inside (refl, refl, moved t t refl (ltb-true t m inside))
  by_branch t false inside past = (refl, refl, next past)

  by_flush : (ds : List ℕ) → s.dirty ≡ ds → here + 1 < m
      → agrees (machine.flush s (slice_get ds 0)) (flush_first m c here ds)
  by_flush [] e past = (refl, refl, next past)
  by_flush (l ∷ ds) e past =
      let inside : nat_lt here m ≡ true = lt-ltb here m stands.top.inside in
      rw inside (refl, refl, flushed l ds e)

  by_tick : (t : Bool) → here + 1 < m
      → agrees (if t then machine.Ends (end.Trapped trap.Steps)
      else machine.Goes effect.Quiet (machine.tick_spent s))
      (if t then Traps 5 else Goes [] (with_tick c))
  by_tick true past = refl
  by_tick false past = (refl, refl, spent past)

  module _ (r f : ℕ) (args : List ℕ) (fetched : fetch image s ≡ Some (Call r f args))
      (past : here + 1 < m) (inside : nat_lt r count ≡ true)
      (low : list_all (λ a. nat_lt a count) args ≡ true) (v : Function)
      (found : slice_get us f ≡ Some v) (same : v.parameters ≡ length args) where
    abbrev values : List ℤ
    values = map (λ a. slice_index_or s.top.registers a (pos 0)) args

    abbrev given : List ℕ
    given = map (λ a. slice_index_or c.registers a 0) args

    given_is : given ≡ map unsigned values
    given_is = values_same c.registers s.top.registers args stands.top.holds low

    given_length : length given ≡ length args
    given_length = length-map args (λ a. slice_index_or c.registers a 0)

    values_length : length values ≡ length args
    values_length = length-map args (λ a. slice_index_or s.top.registers a (pos 0))

    begins : HoldsBits (variables_of (c_function v) given)
        (machine.registers_placed s.top.registers (replicate s.size (pos 0)) 0 args)
    begins =
        let rest : ℕ = v.registers - v.parameters in
        let fits = parameters_fit us f v image.good found in
        let most : v.registers ≤ image.largest =
        subst (λ (n : ℕ). v.registers ≤ n) (sym image.most) (most_at 0 us f v found) in
        let size = stands.size in
        let long = values_length in
        let room : length values + rest ≤ s.size = omega (arith, fits, most, size, long, same) in
        subst (λ (xs : List ℕ). HoldsBits (xs ++ replicate rest 0)
        (machine.registers_placed s.top.registers (replicate s.size (pos 0)) 0 args))
        (sym given_is)
        (subst (λ (ms : List ℤ). HoldsBits (map unsigned values ++ replicate rest 0) ms)
        (sym (placed_filled s.top.registers (replicate s.size (pos 0)) 0 args))
        (begin_holds values rest s.size room
        (values_fit s.top.registers args stands.top.holds.words)))

    declares : length (variables_of (c_function v) given) ≡ v.registers
    declares =
        let rest : ℕ = v.registers - v.parameters in
        let none : List ℕ = replicate rest 0 in
        let fits = parameters_fit us f v image.good found in
        let long : length none ≡ rest = length-replicate rest 0 in
        let all : length (given ++ none) ≡ length given + length none =
        length-append given none in
        let few = given_length in
        omega (arith, fits, long, all, few, same)

    waits : IsWaitingFor us f r (record {
      function = c.function;
      place = c.place + 1;
      to = r;
      registers = c.registers;
    }) (s.below ++ frame_at s.top (here + 1) ∷ [])
    waits = record {
      below = s.below;
      last = frame_at s.top (here + 1);
      split = refl;
      returning = code.returns s.top.function here r f args fetched;
      register = refl;
      declared = ltb-true r count inside;
      waits = on (c.place + 1) (here + 1) next_place past;
    }

    entered : length s.below + 1 < 256
        → MirrorsState image heap (machine.entered s r f args)
        (with_callee c r f (variables_of (c_function v) given))
    unfolding waits
    entered room = record {
      top = record {
        u = v;
        found = found;
        function = refl;
        place = refl;
        inside = some_code us f v image.good found;
        declared = declares;
        holds = begins;
      };
      waiting = (waits, stands.waiting);
      few = (let long = length-append s.below (frame_at s.top (here + 1) ∷ []) in
          omega (arith, long, room));
      size = stands.size;
      ticks = stands.ticks;
      dirty = stands.dirty;
      heap = stands.heap;
      words = stands.words;
    }

    as_many : length c.waiting ≡ length s.below
    as_many = waits_length us s.top.function s.top.to c.waiting s.below stands.waiting

    by_depth : (t : Bool) → nat_lt (length s.below + 1) 256 ≡ t
        → (length c.waiting + 1 == 256) ≡ not t
    by_depth true e = (let room = ltb-true (length s.below + 1) 256 e in
        by (length c.waiting + 1 == 256) refl room)
      where
        by : (t : Bool) → (length c.waiting + 1 == 256) ≡ t → length s.below + 1 < 256 → t ≡ false
        by true all room = (let full = eqb-true (length c.waiting + 1) 256 all in
            let same = as_many in absurd (omega (arith, full, same, room)))
        by false all room = refl
    by_depth false e = (let full = ltb-false (length s.below + 1) 256 e in
        let same = as_many in let few = stands.few in
        eq-eqb (length c.waiting + 1) 256 (omega (arith, full, same, few)))

    by_call : (t : Bool) → nat_lt (length s.below + 1) 256 ≡ t
        → agrees (if t then machine.Goes effect.Quiet (machine.entered s r f args)
        else machine.Ends (end.Trapped trap.Depth))
        (if not t then Traps 8 else Goes [] (with_callee c r f (variables_of (c_function v) given)))
    by_call true e = (refl, refl, entered (ltb-true (length s.below + 1) 256 e))
    by_call false e = refl

    call : agrees (machine.call s r f args)
        (function_entered c r f given (slice_get (map c_function us) f))
    call =
        let there : slice_get (map c_function us) f ≡ Some (c_function v) = mapped us f v found in
        let many : (v.parameters == length given) ≡ true =
        eq-eqb v.parameters (length given) (same ∙ sym given_length) in
        let t : Bool = nat_lt (length s.below + 1) 256 in
        rw there (rw many (rw (by_depth t refl) (by_call t refl)))

  leave : (v : ℤ) (ws : List Waiting) → FitsSigned w64 v
      → WaitsAlike us s.top.function s.top.to ws s.below
      → agrees (machine.return s v (slice_get s.below (length s.below - 1)))
      (function_left c (unsigned v) ws)
  leave v [] f w = rw w refl
  leave v (x ∷ xs) f w =
      let hs : List Frame = w.0.below in
      let g : Frame = w.0.last in
      let waited = w.0.waits in
      let last : slice_get s.below (length s.below - 1) ≡ Some g =
      ap (λ (gs : List Frame). slice_get gs (length gs - 1)) w.0.split ∙ last_is hs g in
      let rest : take (length s.below - 1) s.below ≡ hs =
      ap (λ (gs : List Frame). take (length gs - 1) gs) w.0.split ∙ rest_is hs g in
      let many : length s.below ≡ length hs + 1 =
      ap length w.0.split ∙ length-append hs (g ∷ []) in
      let few = stands.few in
      let fewer : length hs < 256 = omega (arith, few, many) in
      rw last (
        refl,
        refl,
        record {
          top = record {
            u = waited.u;
            found = waited.found;
            function = waited.function;
            place = waited.place;
            inside = waited.inside;
            declared = length-set x.registers x.to (unsigned v) ∙ waited.declared;
            holds = subst (λ (to : ℕ). HoldsBits (slice_set x.registers x.to (unsigned v))
                (slice_set g.registers to v)) (sym w.0.register)
                (put_holds x.registers g.registers x.to v w.0.declared f waited.holds);
          };
          waiting = subst (λ (gs : List Frame). WaitsAlike us g.function g.to xs gs) (sym rest) w.1;
          few = subst (λ (gs : List Frame). length gs < 256) (sym rest) fewer;
          size = stands.size;
          ticks = stands.ticks;
          dirty = stands.dirty;
          heap = stands.heap;
          words = stands.words;
        },
      )

  halt : (a : ℕ) (ws : List Waiting) → fetch image s ≡ Some (Halt a)
      → WaitsAlike us s.top.function s.top.to ws s.below
      → agrees (machine.Ends (end.Halted (at a))) (function_left c (unsigned (at a)) ws)
  halt a [] fetched w = refl
  halt a (x ∷ xs) fetched w = absurd (w.0.returning here a fetched)

  abbrev pub word_there : ℕ → ℤ → ℤ
  word_there a o = int_wrap w64 (at a +ℤ o)

  pub there : (a : ℕ) (o : ℤ) → target image s a o ≡ word_of H (unsigned (word_there a o))
  there a o = word_same H (word_there a o) small (SFits-int_wrap w64 (at a +ℤ o))

  pub fetched_at : (op : Op) → slice_get stands.top.u.code here ≡ Some op → fetch image s ≡ Some op
  fetched_at op found = ap (fetch_in here) stands.top.found ∙ found

  good_here : (op : Op) → slice_get stands.top.u.code here ≡ Some op
      → is_good_op us stands.top.u here op ≡ true
  good_here op found =
      good_at us s.top.function stands.top.u image.good stands.top.found here op found

  pub is_there : (op : Op) → slice_get stands.top.u.code here ≡ Some op
      → op_is_there us count m op ≡ true
  is_there op found =
      subst (λ (n : ℕ). op_is_there us n m op ≡ true) (sym stands.top.declared)
      (left_of (op_is_there us stands.top.u.registers m op) (nat_lt (here + 1) m || is_end op)
      (good_here op found))

  pub goes_past : (op : Op) → slice_get stands.top.u.code here ≡ Some op → is_end op ≡ false
      → here + 1 < m
  goes_past op found e =
      let good = right_of (op_is_there us stands.top.u.registers m op)
      (nat_lt (here + 1) m || is_end op) (good_here op found) in
      ltb-true (here + 1) m (first_of (nat_lt (here + 1) m)
      (subst (λ (t : Bool). (nat_lt (here + 1) m || t) ≡ true) e good))

  abbrev does : Op → CStep
  does op = c_does image.parts.sizes (map c_function us) m c (statement_of here op)

  pub straight : (op : Op) → slice_get stands.top.u.code here ≡ Some op
      → agrees (execute image heap s (Some op)) (does op)
  straight (Const r v) found =
      set r v (is_there (Const r v) found)
      (word_fits v (code.const s.top.function here r v (fetched_at (Const r v) found)))
      (goes_past (Const r v) found refl)
  straight (Mov r a) found =
      let e = is_there (Mov r a) found in
      let ia = right_of (nat_lt r count) (nat_lt a count) e in
      let ir = left_of (nat_lt r count) (nat_lt a count) e in
      rw (read a ia) (set r (at a) ir (word a) (goes_past (Mov r a) found refl))
  straight (Bin op r a b) found =
      let e = is_there (Bin op r a b) found in
      let rest = right_of (nat_lt r count) (nat_lt a count && nat_lt b count) e in
      let ia = left_of (nat_lt a count) (nat_lt b count) rest in
      let ib = right_of (nat_lt a count) (nat_lt b count) rest in
      let ir = left_of (nat_lt r count) (nat_lt a count && nat_lt b count) e in
      rw (read a ia) (rw (read b ib) (rw (operation_same (at a) (at b) (word a) (word b) op)
      (set r (applied op (at a) (at b)) ir (applied_fits (at a) (at b) (word a) (word b) op)
      (goes_past (Bin op r a b) found refl))))
  straight (Jmp t) found =
      let e = is_there (Jmp t) found in rw e (refl, refl, moved t t refl (ltb-true t m e))
  straight (Jz a t) found =
      let e = is_there (Jz a t) found in
      let ia = left_of (nat_lt a count) (nat_lt t m) e in
      let it = right_of (nat_lt a count) (nat_lt t m) e in
      rw (read a ia) (rw (zero_same (at a) (word a))
      (by_branch t (int_eq (at a) (pos 0)) it (goes_past (Jz a t) found refl)))
  straight (Load r a o) found =
      let e = is_there (Load r a o) found in
      let ir = left_of (nat_lt r count) (nat_lt a count) e in
      let ia = right_of (nat_lt r count) (nat_lt a count) e in
      let f = word_fits o (code.load s.top.function here r a o
      (fetched_at (Load r a o) found)) in
      let x = unsigned (word_there a o) in
      rw (read a ia) (rw (there a o) (rw (add_same (at a) o (word a) f)
      (by_load r x (nat_lt x H) refl ir (goes_past (Load r a o) found refl))))
  straight (Store a o b) found =
      let e = is_there (Store a o b) found in
      let ia = left_of (nat_lt a count) (nat_lt b count) e in
      let ib = right_of (nat_lt a count) (nat_lt b count) e in
      let f = word_fits o (code.store s.top.function here a b o
      (fetched_at (Store a o b) found)) in
      let x = unsigned (word_there a o) in
      rw (read a ia) (rw (read b ib) (rw (there a o) (rw (add_same (at a) o (word a) f)
      (by_store x (at b) (nat_lt x H) (word b)
      (goes_past (Store a o b) found refl)))))
  straight (Find r) found =
      let e = is_there (Find r) found in
      let z = image.parts.sizes in
      rw (least_same z heap c.heap stands.heap stands.words)
      (rw e (
        refl,
        refl,
        written r (pos (least z heap)) (ltb-true r count e)
            (least_fits z heap c.heap stands.heap stands.words) (goes_past (Find r) found refl),
      ))
  straight (Log a o) found =
      let f = word_fits o (code.log s.top.function here a o (fetched_at (Log a o) found)) in
      let x = unsigned (word_there a o) in
      rw (read a (is_there (Log a o) found)) (rw (there a o) (rw (add_same (at a) o (word a) f)
      (by_log x (nat_lt x H) (goes_past (Log a o) found refl))))
  straight Flush found =
      subst (λ (ds : List ℕ). agrees (machine.flush s (slice_get s.dirty 0))
      (flush_first m c here ds)) (sym stands.dirty)
      (by_flush s.dirty refl (goes_past Flush found refl))
  straight Fence found = (refl, refl, next (goes_past Fence found refl))
  straight (Call r f args) found =
      let e = is_there (Call r f args) found in
      let low = list_all (λ a. nat_lt a count) args in
      let takes = takes_arguments (slice_get us f) (length args) in
      let ir = left_of (nat_lt r count) (low && takes) e in
      let rest = right_of (nat_lt r count) (low && takes) e in
      let all = left_of low takes rest in
      let v = taken us f (length args) (right_of low takes rest) in
      rw ir (rw all (call r f args (fetched_at (Call r f args) found)
      (goes_past (Call r f args) found refl) ir all v.0 v.1 v.2))
  straight (Ret a) found =
      rw (read a (is_there (Ret a) found)) (leave (at a) c.waiting (word a) stands.waiting)
  straight Tick found =
      let same : (c.ticks == 0) ≡ (s.ticks == 0) = ap (λ (k : ℕ). k == 0) stands.ticks in
      rw same (by_tick (s.ticks == 0) (goes_past Tick found refl))
  straight (Trap k) found =
      let e = is_there (Trap k) found in
      trap_same k (ltb-true 0 k (left_of (nat_lt 0 k) (nat_lt k 9) e))
      (ltb-true k 9 (right_of (nat_lt 0 k) (nat_lt k 9) e))
  straight (Halt a) found =
      rw (read a (is_there (Halt a) found))
      (halt a c.waiting (fetched_at (Halt a) found) stands.waiting)
