-- Pieces that only lead forward end.
use Rattle.std.proofs.Common.{◌≡◌, ◌⊎◌, inl, inr, ℕ, zero, suc, ◌+◌, ◌-◌, ◌<◌, ◌≤◌, Bool, true}
use Rattle.std.proofs.Common.{false, List, [], ◌∷◌, ◌++◌, length, slice_get, Option, Some, None, ℤ}
use Rattle.std.proofs.Common.{pos, negsuc, refl, sym, ap, ◌∙◌, subst, arith, length-append}
use Rattle.std.proofs.Common.{get_or, ◌*◌}
use Rattle.std.specs.Prelude.{if◌then◌else◌, nat_le, nat_lt, ◌&&◌}
use Rattle.std.specs.List.{AllByRecursion}
use Rattle.std.specs.Option.{option_map_or}
use Rattle.std.proofs.lemmas.Bool.{cases_lt, leb-false, ltb-false}
use Rattle.cache_model.specs.Cache.{Words}
use Rattle.nvm_base.specs.declared.op.BinOp.{BinOp}
use Rattle.nvm_base.specs.Applied.{applied}
use Rattle.pm_machine.specs.declared.effect.Effect.TheVariants.{Loads}
use Rattle.pm_machine.specs.Find.{least}
use Rattle.pool_map.specs.declared.shapes.Shapes.{Shapes}
use Rattle.pool_layout.specs.declared.limits.Sizes.{Sizes}
use Rattle.pool_layout.specs.Sizes.{slot_words}
use Rattle.ir.specs.declared.instruction.Target.{Target}
use Rattle.ir.specs.declared.instruction.Target.TheVariants.{Root, Field}
use Rattle.ir.specs.declared.instruction.Instruction.{Instruction}
use Rattle.ir.specs.declared.instruction.Instruction.TheVariants as ir
use Rattle.pm_alloc.specs.declared.local.Reg.{Reg}
use Rattle.pm_alloc.specs.declared.local.Reg.TheVariants.{Own, Temp}
use Rattle.pm_alloc.specs.declared.local.Local.{Local}
use Rattle.pm_alloc.specs.declared.local.Local.TheVariants.{Const, Mov, Bin, Jmp, Jz, Load, Store}
use Rattle.pm_alloc.specs.declared.local.Local.TheVariants.{Find, Log, Tick, Trap}
use Rattle.pm_alloc.specs.Runs.{Next, Goes, Traps, Off, then, local_run}
use Rattle.pm_alloc.specs.LocalRun.{World, Loc, branch_at_zero, local_read, local_write, go_to}
use Rattle.pm_alloc.specs.LocalRun.{local_next, see, searched, logged, local_load, local_store}
use Rattle.pm_alloc.specs.LocalRun.{local_log, local_tick, local_target, local_act, local_step}
use Rattle.codegen.specs.declared.fields.At.{At}
use Rattle.codegen.specs.declared.fields.At.TheVariants.{Word, Element}
use Rattle.codegen.specs.declared.fields.Reach.{Reach}
use Rattle.codegen.specs.Fields.{root_reach, struct_reach, object_words}
use Rattle.codegen.specs.Emit.{at_code, root_code, object_code, address_code, address_offset}
use Rattle.codegen.specs.Emit.{load_at, store_at, make_words, divides, local_code}
use Rattle.pm_alloc.specs.Pieces.{pointer_check, fill_code, loop_fill, fills_by_loop, filling}
use Rattle.pm_alloc.specs.Pieces.{new_head, new_code}
use Rattle.pm_alloc.specs.declared.objects.TheConstants.{UNROLLED_SLOT}
use Rattle.pm_alloc.specs.Search.{temporaries, IsPool}
use Rattle.pm_alloc.proofs.New.{new_runs}
use Rattle.pm_alloc.proofs.Runs.{run_on}
use Rattle.pm_alloc.proofs.Search.{eight_are}
use Rattle.pm_machine.specs.declared.image.Image.{Image}
use Rattle.machine_law.specs.emitted.Moments.{RunMoment, RunStage, On, Over, go}
use Rattle.machine_law.specs.emitted.Placed.{IsFine, Setting, Same, IsPlaced, Follows}
use Rattle.machine_law.specs.emitted.Steps.{AreForward, PieceSettles, ForwardLaw, ForwardCode}
use Rattle.machine_law.specs.emitted.Steps.{piece_steps, SettlesLaw}
use Rattle.machine_law.proofs.emitted.Placed.{run_as, fine_at}

-- a step leads to a later place, at most m
abbrev Advances : (p m : ℕ) → Next World Loc → Type 0
Advances p m (Goes l) = (p < l.at) × (l.at ≤ m)
Advances p m (Traps k w) = Unit {0}
Advances p m Off = ⊥

abbrev pub IsAhead : ℕ → Local → Type 0
IsAhead k (Jmp t) = k < t
IsAhead k (Jz a t) = k < t
IsAhead k (Const r v) = Unit {0}
IsAhead k (Mov r a) = Unit {0}
IsAhead k (Bin o r a b) = Unit {0}
IsAhead k (Load r a o) = Unit {0}
IsAhead k (Find r) = Unit {0}
IsAhead k (Store a o b) = Unit {0}
IsAhead k (Log a o) = Unit {0}
IsAhead k Tick = Unit {0}
IsAhead k (Trap t) = Unit {0}

ahead_first : (k : ℕ) (i : Local) (ls : List Local) → AreForward k (i ∷ ls)
    → IsAhead k i × AreForward (suc k) ls
ahead_first k (Jmp t) ls h = h
ahead_first k (Jz a t) ls h = h
ahead_first k (Const r v) ls h = (tt, h)
ahead_first k (Mov r a) ls h = (tt, h)
ahead_first k (Bin o r a b) ls h = (tt, h)
ahead_first k (Load r a o) ls h = (tt, h)
ahead_first k (Find r) ls h = (tt, h)
ahead_first k (Store a o b) ls h = (tt, h)
ahead_first k (Log a o) ls h = (tt, h)
ahead_first k Tick ls h = (tt, h)
ahead_first k (Trap t) ls h = (tt, h)

pub ahead_at : (piece : List Local) (k p : ℕ) (i : Local) → AreForward k piece
    → slice_get piece p ≡ Some i → IsAhead (k + p) i
ahead_at [] k p i h e = absurd (cc)
ahead_at (j ∷ piece) k zero i h e =
    let same : j ≡ i = cc in
    let at : k ≡ k + zero = omega arith in
    subst (λ (n : ℕ). IsAhead n i) at (subst (IsAhead k) same (ahead_first k j piece h).0)
ahead_at (j ∷ piece) k (suc p) i h e =
    let at : suc k + p ≡ k + suc p = omega arith in
    subst (λ (n : ℕ). IsAhead n i) at (ahead_at piece (suc k) p i (ahead_first k j piece h).1 e)

module _ (s : Sizes) (m : ℕ) (l : Loc) (inside : l.at < m) where
  wrote_on : (own : Words) (temp : List ℤ) (w : World) (r : Reg) (v : ℤ)
      → Advances l.at m (Goes (local_write (l.at + 1) own temp w r v))
  wrote_on own temp w (Own r) v = (omega arith, omega arith)
  wrote_on own temp w (Temp j) v = (omega arith, omega arith)

  passed_on : (w : World) → Advances l.at m (Goes (local_next l w))
  passed_on w = (omega arith, omega arith)

  load_on : (r : Reg) (o : Option ℕ) → Advances l.at m (local_load l r o)
  load_on r None = wrote_on l.own l.temp l.world r (pos 0)
  load_on r (Some w) = wrote_on l.own l.temp (see l.world (Loads w)) r (l.world.heap w)

  store_on : (v : ℤ) (o : Option ℕ) → Advances l.at m (local_store l v o)
  store_on v None = passed_on l.world
  store_on v (Some w) = (omega arith, omega arith)

  log_on : (o : Option ℕ) → Advances l.at m (local_log l o)
  log_on None = passed_on l.world
  log_on (Some w) = passed_on (logged l.world w)

  tick_on : (n : ℕ) → Advances l.at m (local_tick l n)
  tick_on zero = tt
  tick_on (suc n) = (omega arith, omega arith)

  branch_on : (z : ℤ) (t : ℕ) → l.at < t → t ≤ m
      → Advances l.at m (branch_at_zero z (Goes (go_to l t)) (Goes (go_to l (l.at + 1))))
  branch_on (pos zero) t ahead low = (ahead, low)
  branch_on (pos (suc n)) t ahead low = (omega arith, omega arith)
  branch_on (negsuc n) t ahead low = (omega arith, omega arith)

  act_on : (base : ℕ) (i : Local) → IsAhead l.at i → IsFine m base i
      → Advances l.at m (local_act s l (Some i))
  act_on base (Const r v) ahead is = wrote_on l.own l.temp l.world r v
  act_on base (Mov r a) ahead is = wrote_on l.own l.temp l.world r (local_read l.own l.temp a)
  act_on base (Bin o r a b) ahead is =
      wrote_on l.own l.temp l.world r
      (applied o (local_read l.own l.temp a) (local_read l.own l.temp b))
  act_on base (Jmp t) ahead is = (ahead, is)
  act_on base (Jz a t) ahead is = branch_on (local_read l.own l.temp a) t ahead is.1
  act_on base (Load r a o) ahead is = load_on r (local_target s (local_read l.own l.temp a) o)
  act_on base (Find r) ahead is =
      wrote_on l.own l.temp (searched s l.world) r (pos (least s l.world.heap))
  act_on base (Store a o b) ahead is =
      store_on (local_read l.own l.temp b) (local_target s (local_read l.own l.temp a) o)
  act_on base (Log a o) ahead is = log_on (local_target s (local_read l.own l.temp a) o)
  act_on base Tick ahead is = tick_on l.world.ticks
  act_on base (Trap k) ahead is = tt

pub forward_at : (piece : List Local) (p : ℕ) (i : Local) → AreForward 0 piece
    → slice_get piece p ≡ Some i → IsAhead p i
forward_at piece p i forward e =
    let at : 0 + p ≡ p = omega arith in
    subst (λ (n : ℕ). IsAhead n i) at (ahead_at piece 0 p i forward e)

-- the place after the piece, or a trap
abbrev pub Left : ℕ → Next World Loc → Type 0
Left m (Goes l) = l.at ≡ m
Left m (Traps k w) = Unit {0}
Left m Off = ⊥

get_some : (piece : List Local) (p : ℕ) → p < length piece
    → (i : Local) × (slice_get piece p ≡ Some i)
get_some [] p low = absurd (omega arith)
get_some (j ∷ piece) zero low = (j, refl)
get_some (j ∷ piece) (suc p) low = get_some piece p (omega arith)

-- a piece that leads forward, from place start on
module _ (s : Sizes) (base start : ℕ) (piece : List Local)
    (fine : AllByRecursion (IsFine (length piece) base) piece) (forward : (p : ℕ) (i : Local)
    → start ≤ p → slice_get piece p ≡ Some i → IsAhead p i) where
  abbrev EndsIn : ℕ → Loc → Type 0
  EndsIn k l = (n : ℕ) × (n ≤ k) × Left (length piece) (local_run (local_step s piece) n l)

  step_on : (l : Loc) → start ≤ l.at → l.at < length piece
      → Advances l.at (length piece) (local_step s piece l)
  step_on l begun inside =
      let found = get_some piece l.at inside in
      let ahead : IsAhead l.at found.0 = forward l.at found.0 begun found.1 in
      subst (λ (o : Option Local). Advances l.at (length piece) (local_act s l o)) (sym found.1)
      (act_on s (length piece) l inside base found.0 ahead
      (fine_at (length piece) base piece l.at found.0 fine found.1))

  one_more : (k : ℕ) (l : Loc) (r : Next World Loc) → start ≤ l.at → local_step s piece l ≡ r
      → Advances l.at (length piece) r → length piece ≤ l.at + suc k
      → ((b : Loc) → start ≤ b.at → b.at ≤ length piece → length piece ≤ b.at + k → EndsIn k b)
      → EndsIn (suc k) l
  one_more k l (Goes b) begun e on long next =
      let f = next b (omega (arith, on.0)) on.1 (omega (arith, on.0)) in
      let first : local_run (local_step s piece) 1 l ≡ Goes b =
      ap (λ (r : Next World Loc). (then) r (local_run (local_step s piece) 0)) e in (
        1 + f.0,
        omega (arith, f.1),
        subst (Left (length piece))
            (sym (run_on (local_step s piece) 1 f.0 l b (local_run (local_step s piece) f.0 b) first
            refl)) f.2,
      )
  one_more k l (Traps t w) begun e on long next =
      let first : local_run (local_step s piece) 1 l ≡ Traps t w =
      ap (λ (r : Next World Loc). (then) r (local_run (local_step s piece) 0)) e in
      (1, omega arith, subst (Left (length piece)) (sym first) tt)
  one_more k l Off begun e on long next = absurd on

  by_place : (k : ℕ) (l : Loc) → start ≤ l.at → l.at ≤ length piece → length piece ≤ l.at + suc k
      → ((b : Loc) → start ≤ b.at → b.at ≤ length piece → length piece ≤ b.at + k → EndsIn k b)
      → (l.at < length piece) ⊎ (length piece ≤ l.at) → EndsIn (suc k) l
  by_place k l begun low long next (inl inside) =
      one_more k l (local_step s piece l) begun refl (step_on l begun inside) long next
  by_place k l begun low long next (inr past) = let e : l.at ≡ length piece = omega arith in
      (0, omega arith, e)

  pub ends : (k : ℕ) (l : Loc) → start ≤ l.at → l.at ≤ length piece → length piece ≤ l.at + k
      → EndsIn k l
  ends zero l begun low long = let e : l.at ≡ length piece = omega arith in (0, omega arith, e)
  ends (suc k) l begun low long =
      by_place k l begun low long (λ b from within more. ends k b from within more)
      (cases_lt l.at (length piece))

pub settled : (x : Setting) (piece : List Local) (r : Next World Loc) (g : RunStage) → Follows x r g
    → Left (length piece) r → PieceSettles x piece g
settled x piece (Goes k) (On b) same left = (k, left, same)
settled x piece (Goes k) (Over end b) same left = absurd same
settled x piece (Traps k w) (On b) same left = absurd same
settled x piece (Traps k w) (Over end b) same left = tt
settled x piece Off g same left = absurd left

pub forward_all : ForwardLaw
forward_all image x piece l m is forward same low =
    let f = ends image.parts.sizes x.base 0 piece is.fine (λ p i begun e.
    forward_at piece p i forward e) (length piece - l.at) l (omega arith) low (omega arith) in (
      f.0,
      omega (arith, f.1),
      settled x piece (local_run (local_step image.parts.sizes piece) f.0 l)
          (go image f.0 m) (run_as image x piece is f.0 l m same) f.2,
    )

-- the pieces of the emitted code

pub forward_append : (k : ℕ) (xs ys : List Local) → AreForward k xs → AreForward (k + length xs) ys
    → AreForward k (xs ++ ys)
forward_append k [] ys h rest = let e : k + 0 ≡ k = omega arith in
    subst (λ (n : ℕ). AreForward n ys) e rest
forward_append k (x ∷ xs) ys h rest =
    let parts = ahead_first k x xs h in
    let e : k + length (x ∷ xs) ≡ suc k + length xs = omega arith in
    forward_more k x (xs ++ ys) parts.0
    (forward_append (suc k) xs ys parts.1 (subst (λ (n : ℕ). AreForward n ys) e rest))
  where
    forward_more : (k : ℕ) (i : Local) (ls : List Local) → IsAhead k i → AreForward (suc k) ls
        → AreForward k (i ∷ ls)
    forward_more k (Jmp t) ls h rest = (h, rest)
    forward_more k (Jz a t) ls h rest = (h, rest)
    forward_more k (Const r v) ls h rest = rest
    forward_more k (Mov r a) ls h rest = rest
    forward_more k (Bin o r a b) ls h rest = rest
    forward_more k (Load r a o) ls h rest = rest
    forward_more k (Find r) ls h rest = rest
    forward_more k (Store a o b) ls h rest = rest
    forward_more k (Log a o) ls h rest = rest
    forward_more k Tick ls h rest = rest
    forward_more k (Trap t) ls h rest = rest

-- the piece leads forward, and has at most n instructions
abbrev pub IsShort : ℕ → List Local → Type 0
IsShort n piece = AreForward 0 piece × (length piece ≤ n)

pointer_forward : (s : Sizes) (p kind : ℕ) → AreForward 0 (pointer_check s p kind)
pointer_forward s p kind = (omega arith, (omega arith, (omega arith, tt)))

at_forward : (p : ℕ) (x : At) → AreForward p (at_code p x)
at_forward p Word = tt
at_forward p (Element i len) = (omega arith, (omega arith, tt))

at_length : (p : ℕ) (x : At) → length (at_code p x) ≤ 6
at_length p Word = omega arith
at_length p (Element i len) = omega arith

root_short : (o : Option Reach) → IsShort 18 (root_code o)
root_short None = (tt, omega arith)
root_short (Some r) = (at_forward 1 r.at, omega (arith, at_length 1 r.at))

object_short : (s : Sizes) (base kind : ℕ) (o : Option Reach)
    → IsShort 18 (object_code s base kind o)
object_short s base kind None = (tt, omega arith)
object_short s base kind (Some r) = (
  forward_append 0 (pointer_check s base kind) (at_code 12 r.at) (pointer_forward s base kind)
      (let e : 12 ≡ 0 + length (pointer_check s base kind) = omega arith in
      subst (λ (n : ℕ). AreForward n (at_code 12 r.at)) e (at_forward 12 r.at)),
  omega (arith, at_length 12 r.at, length-append (pointer_check s base kind) (at_code 12 r.at)),
)

pub address_short : (s : Sizes) (h : Shapes) (t : Target) → IsShort 18 (address_code s h t)
address_short s h (Root field index) = root_short (root_reach s h field index)
address_short s h (Field base kind field index) =
    object_short s base kind (struct_reach s h kind field index)

load_forward : (k to : ℕ) (o : Option ℤ) → AreForward k (load_at to o)
load_forward k to None = tt
load_forward k to (Some o) = tt

pub load_length : (to : ℕ) (o : Option ℤ) → length (load_at to o) ≤ 1
load_length to None = omega arith
load_length to (Some o) = omega arith

store_forward : (k : ℕ) (b : Bool) (from : ℕ) (o : Option ℤ) → AreForward k (store_at b from o)
store_forward k b from None = tt
store_forward k true from (Some o) = tt
store_forward k false from (Some o) = tt

pub store_length : (b : Bool) (from : ℕ) (o : Option ℤ) → length (store_at b from o) ≤ 2
store_length b from None = omega arith
store_length true from (Some o) = omega arith
store_length false from (Some o) = omega arith

-- a piece as short as any for slots of 16 words
loose : (s : Sizes) (piece : List Local) → IsShort 39 piece → IsShort (piece_steps s) piece
loose s piece h = (h.0, omega (arith, h.1))

bin_short : (o : BinOp) (to left right : ℕ) (d : Bool) →
    IsShort 39 (if d then Jz (Own right) 2 ∷ Jmp 3 ∷ Trap 4 ∷ Bin o (Own to) (Own left) (Own right)
    ∷ [] else Bin o (Own to) (Own left) (Own right) ∷ [])
bin_short o to left right true = ((omega arith, (omega arith, tt)), omega arith)
bin_short o to left right false = (tt, omega arith)

fill_forward : (s : Sizes) (k : ℕ) (b : Bool) (j c : ℕ) → AreForward k (fill_code s b j c)
fill_forward s k b j zero = tt
fill_forward s k true j (suc c) = fill_forward s (suc (suc k)) true (j + 1) c
fill_forward s k false j (suc c) = fill_forward s (suc k) false (j + 1) c

pub fill_length : (s : Sizes) (b : Bool) (j c : ℕ) → length (fill_code s b j c) ≤ 2 * c
fill_length s b j zero = omega arith
fill_length s true j (suc c) = omega (arith, fill_length s true (j + 1) c)
fill_length s false j (suc c) = omega (arith, fill_length s false (j + 1) c)

-- the code of a new object without a loop
new_short : (s : Sizes) (to kind c : ℕ) (b : Bool) → c < slot_words s →
    let fill : List Local = fill_code s b 1 c in
    IsShort (piece_steps s) (new_head s kind (length fill) ++ (fill ++ Mov (Own to) (Temp 0) ∷ []))
new_short s to kind c b few =
    let fill : List Local = fill_code s b 1 c in
    let last : List Local = Mov (Own to) (Temp 0) ∷ [] in (
      (omega arith, forward_append 8 fill last (fill_forward s 8 b 1 c) tt),
      omega (
        arith,
        fill_length s b 1 c,
        length-append (new_head s kind (length fill)) (fill ++ last),
        length-append fill last,
      ),
    )

filled_short : (s : Sizes) (to kind c : ℕ) (b d : Bool) → d ≡ false → c < slot_words s →
    let fill : List Local = if d then loop_fill s b 8 c else fill_code s b 1 c in
    IsShort (piece_steps s) (new_head s kind (length fill) ++ (fill ++ Mov (Own to) (Temp 0) ∷ []))
filled_short s to kind c b true e few = absurd (cc)
filled_short s to kind c b false e few = new_short s to kind c b few

short_if : (s : Sizes) (to kind c : ℕ) (b d : Bool) → fills_by_loop s c ≡ false
    → nat_le (slot_words s) c ≡ d →
    IsShort (piece_steps s) (if d then Trap 2 ∷ [] else new_code s to kind c b)
short_if s to kind c b true plain e = (tt, omega arith)
short_if s to kind c b false plain e =
    filled_short s to kind c b (fills_by_loop s c) plain (leb-false (slot_words s) c e)

made_short : (s : Sizes) (to kind : ℕ) (b : Bool) (o : Option ℕ)
    → option_map_or (fills_by_loop s) o false ≡ false →
    IsShort (piece_steps s) (make_words s to kind b o)
made_short s to kind b None plain = (tt, omega arith)
made_short s to kind b (Some c) plain =
    short_if s to kind c b (nat_le (slot_words s) c) plain refl

abbrev makes_object : Instruction → Bool
makes_object (ir.New to kind fill line) = true
makes_object i = false

-- the pieces of the other instructions
others_short : (s : Sizes) (h : Shapes) (b : Bool) (i : Instruction) → makes_object i ≡ false
    → IsShort 39 (local_code s h b i)
others_short s h b (ir.Bin o to left right) e = bin_short o to left right (divides o)
others_short s h b (ir.Load to t) e =
    let checks = address_short s h t in
    let o : Option ℤ = address_offset s h t in (
      forward_append 0 (address_code s h t) (load_at to o) checks.0
          (load_forward (0 + length (address_code s h t)) to o),
      omega (arith, checks.1, load_length to o, length-append (address_code s h t) (load_at to o)),
    )
others_short s h b (ir.Store t from line) e =
    let checks = address_short s h t in
    let o : Option ℤ = address_offset s h t in (
      forward_append 0 (address_code s h t) (store_at b from o) checks.0
          (store_forward (0 + length (address_code s h t)) b from o),
      omega (
        arith,
        checks.1,
        store_length b from o,
        length-append (address_code s h t) (store_at b from o),
      ),
    )
others_short s h b (ir.New to kind fill line) e = absurd (cc)
others_short s h b (ir.Free from kind line) e =
    ((omega arith, (omega arith, (omega arith, tt))), omega arith)
others_short s h b i e = (tt, omega arith)

pub forward_code : ForwardCode
forward_code s h b (ir.New to kind fill line) plain =
    made_short s to kind fill (object_words s h kind) plain
forward_code s h b i plain =
    loose s (local_code s h b i) (others_short s h b i refl)

-- the code of each instruction has at most 55 instructions

filling_length : (s : Sizes) (b d : Bool) (c : ℕ) → fills_by_loop s c ≡ d → c < slot_words s
    → length (if d then loop_fill s b 8 c else fill_code s b 1 c) ≤ 46
filling_length s true true c e few = omega arith
filling_length s false true c e few = omega arith
filling_length s b false c e few = by (nat_lt UNROLLED_SLOT (slot_words s)) refl
  where
    by : (d : Bool) → nat_lt UNROLLED_SLOT (slot_words s) ≡ d → length (fill_code s b 1 c) ≤ 46
    by false wide = omega (
      arith,
      fill_length s b 1 c,
      ltb-false UNROLLED_SLOT (slot_words s) wide,
    )
    by true wide =
        let none : nat_lt 0 c ≡ false =
        sym (ap (λ (d : Bool). d && nat_lt 0 c) wide) ∙ e in
        omega (arith, fill_length s b 1 c, ltb-false 0 c none)

made_length_if : (s : Sizes) (to kind c : ℕ) (b d : Bool) → nat_le (slot_words s) c ≡ d
    → length (if d then Trap 2 ∷ [] else new_code s to kind c b) ≤ 55
made_length_if s to kind c b true e = omega arith
made_length_if s to kind c b false e =
    let fill : List Local = filling s b 8 c in
    let last : List Local = Mov (Own to) (Temp 0) ∷ [] in
    omega (
      arith,
      filling_length s b (fills_by_loop s c) c refl (leb-false (slot_words s) c e),
      length-append (new_head s kind (length fill)) (fill ++ last),
      length-append fill last,
    )

made_length : (s : Sizes) (to kind : ℕ) (b : Bool) (o : Option ℕ)
    → length (make_words s to kind b o) ≤ 55
made_length s to kind b None = omega arith
made_length s to kind b (Some c) = made_length_if s to kind c b (nat_le (slot_words s) c) refl

pub code_length : (s : Sizes) (h : Shapes) (b : Bool) (i : Instruction)
    → length (local_code s h b i) ≤ 55
code_length s h b (ir.New to kind fill line) =
    made_length s to kind fill (object_words s h kind)
code_length s h b i = omega (arith, (others_short s h b i refl).1)

-- each piece settles, from its start
module _ (image : Image) (x : Setting) (l : Loc) (m : RunMoment) (at : l.at ≡ 0) (same : Same x l m)
    (pool : IsPool image.parts.sizes) where
  abbrev sizes : Sizes
  sizes = image.parts.sizes

  abbrev Settles : List Local → Type 0
  Settles piece = IsPlaced image x.function x.base x.place piece → (n : ℕ)
      × (n ≤ piece_steps sizes) × PieceSettles x piece (go image n m)

  settles_short : (piece : List Local) → IsShort (piece_steps sizes) piece → Settles piece
  settles_short piece short placed =
      let f = forward_all image x piece l m placed short.0 same (omega (arith, at)) in
      (f.0, omega (arith, f.1, short.1), f.2)

  starts : l ≡ record {
    at = 0;
    own = l.own;
    temp = temporaries (λ j. get_or l.temp j (pos 0));
    world = l.world;
  }
  starts =
      ap (λ (n : ℕ). record { at = n; own = l.own; temp = l.temp; world = l.world }) at
      ∙ ap (λ (ts : List ℤ). record { at = 0; own = l.own; temp = ts; world = l.world })
      (sym (eight_are l.temp same.holds.eight))

  settles_new : (to kind c : ℕ) (b : Bool) → c < slot_words sizes
      → Settles (new_code sizes to kind c b)
  settles_new to kind c b short placed =
      let piece : List Local = new_code sizes to kind c b in
      let r = new_runs sizes to kind c b l.own (λ j. get_or l.temp j (pos 0)) l.world pool short in
      let left : Left (length piece) (local_run (local_step sizes piece) r.steps l) =
      subst (λ (k : Loc). Left (length piece) (local_run (local_step sizes piece) r.steps k))
      (sym starts) (subst (Left (length piece)) (sym r.run) refl) in (
        r.steps,
        r.few,
        settled x piece (local_run (local_step sizes piece) r.steps l) (go image r.steps m)
            (run_as image x piece placed r.steps l m same) left,
      )

  settles_if : (to kind c : ℕ) (b d : Bool) → nat_le (slot_words sizes) c ≡ d
      → Settles (if d then Trap 2 ∷ [] else new_code sizes to kind c b)
  settles_if to kind c b true e = settles_short (Trap 2 ∷ []) (tt, omega arith)
  settles_if to kind c b false e = settles_new to kind c b (leb-false (slot_words sizes) c e)

  settles_made : (to kind : ℕ) (b : Bool) (o : Option ℕ) → Settles (make_words sizes to kind b o)
  settles_made to kind b None = settles_short (Trap 2 ∷ []) (tt, omega arith)
  settles_made to kind b (Some c) = settles_if to kind c b (nat_le (slot_words sizes) c) refl

  pub settles : (h : Shapes) (b : Bool) (i : Instruction) → Settles (local_code sizes h b i)
  settles h b (ir.New to kind fill line) = settles_made to kind fill (object_words sizes h kind)
  settles h b i = settles_short (local_code sizes h b i) (forward_code sizes h b i refl)

pub settles_all : SettlesLaw
settles_all image x h b i l m placed at same pool = settles image x l m at same pool h b i placed
