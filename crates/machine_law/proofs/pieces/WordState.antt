-- A step of code whose values are words leaves values that are words.
use Rattle.std.proofs.Common.{◌≡◌, ℕ, zero, suc, ◌-◌, ◌^◌, ◌<◌, Bool, true, false, List, [], ◌∷◌}
use Rattle.std.proofs.Common.{length, map, Option, None, Some, Result, Ok, Err, option_map}
use Rattle.std.proofs.Common.{replicate, get_or, set, ℤ, pos, refl, sym, ap, ◌∙◌, subst, arith}
use Rattle.std.proofs.Common.{⊎_elim, ltb}
use Rattle.std.specs.Prelude.{slice_get, nat_lt, if◌then◌else◌, bit_and, bit_or, bit_xor, ◌==◌}
use Rattle.std.specs.Int.{w64, cast_signed}
use Rattle.std.specs.List.{AllByRecursion}
use Rattle.std.proofs.lemmas.Nat.{and_le_l, or_lt, xor_lt}
use Rattle.std.proofs.lemmas.Bool.{cases_eq, ltb-true, ltb-false}
use Rattle.std.proofs.lemmas.Int.{ints}
use Rattle.std.proofs.lemmas.List.{length-set}
use Rattle.pool_map.proofs.Least.{least_free-some}
use Rattle.pool_map.specs.PoolFits.{words_of}
use Rattle.nvm_base.specs.declared.op.BinOp.{BinOp}
use Rattle.nvm_base.specs.declared.op.BinOp.TheVariants.{Add, Sub, Mul, Div, Rem, Shl, Shr, And, Or}
use Rattle.nvm_base.specs.declared.op.BinOp.TheVariants.{Xor, Lt, Le, Eq, Ne, Ult, Ule, Udiv}
use Rattle.nvm_base.specs.declared.op.BinOp.TheVariants.{Urem, Ushr}
use Rattle.nvm_base.specs.Wrap.{IsWord, wrap}
use Rattle.nvm_base.specs.Operations.{unsigned, truth}
use Rattle.nvm_base.proofs.LawLemmas.{wraps, unsigned_law}
use Rattle.pool_map.specs.declared.object.Object.{Object}
use Rattle.pool_map.specs.declared.trap.TrapKind.{TrapKind}
use Rattle.pool_map.specs.declared.trap.TrapKind.TheVariants as trap
use Rattle.pool_map.specs.PoolMap.{PoolMap, object_at, with_object, blank_object, field_of}
use Rattle.pool_map.specs.PoolMap.{with_field, least_free, write, free}
use Rattle.ir.specs.declared.function.Ir.{Ir}
use Rattle.ir.specs.declared.function.IrFunction.{IrFunction}
use Rattle.ir.specs.declared.instruction.Instruction.{Instruction}
use Rattle.ir.specs.declared.instruction.Instruction.TheVariants as ir
use Rattle.ir.specs.Places.{instruction_at}
use Rattle.code_meaning.specs.Code.{Frame, frame, Here, Move, Goes, Ends, Trapped, Spot, InRoot}
use Rattle.code_meaning.specs.Code.{InSlot, register_at, put_register, load_spot, store_spot}
use Rattle.pool_map.specs.Checks.{has_word, then_on, new_at, is_zero}
use Rattle.code_meaning.specs.Code.{spot_of, slot_of, base_in, index_in, with_ok}
use Rattle.code_meaning.specs.Code.{with_word, word_of, takes_tick, fields_of}
use Rattle.code_meaning.specs.Code.{gives, opens, act}
use Rattle.code_meaning.proofs.Registers.{at_put_same, at_put_other}
use Rattle.machine_law.specs.pieces.Words.{HoldWords, HasWords, IsWordFrame, IsWordMove, WordsLaw}

zero_word : IsWord (pos 0)
zero_word = (omega (arith, ints), omega (arith, ints))

truth_word : (b : Bool) → IsWord (truth b)
truth_word true = (omega (arith, ints), omega (arith, ints))
truth_word false = zero_word

cast_word : (n : ℕ) → n < 2 ^ 64 → IsWord (cast_signed w64 n)
cast_word n small = by (ltb n (2 ^ 63)) refl
  where
    by : (t : Bool) → ltb n (2 ^ 63) ≡ t → IsWord (cast_signed w64 n)
    by true low = let less = ltb-true n (2 ^ 63) low in
        rw low (omega (arith, ints), omega (arith, ints))
    by false high = let more = ltb-false n (2 ^ 63) high in
        rw high (omega (arith, ints), omega (arith, ints))

wrap_word : (z : ℤ) → IsWord (wrap z)
wrap_word z = (wraps z).in_range

-- the result of an operation is a word
abbrev IsWordIf : Option ℤ → Type 0
IsWordIf None = Unit {0}
IsWordIf (Some v) = IsWord v

unless_word : (c : Bool) (z : ℤ) → IsWordIf (if c then None else Some (wrap z))
unless_word true z = tt
unless_word false z = wrap_word z

pub word_is : (o : BinOp) (a b : ℤ) → IsWord a → IsWord b → IsWordIf (word_of o a b)
word_is Add a b wa wb = wrap_word _
word_is Sub a b wa wb = wrap_word _
word_is Mul a b wa wb = wrap_word _
word_is Div a b wa wb = unless_word (unsigned b == 0) _
word_is Rem a b wa wb = unless_word (unsigned b == 0) _
word_is Shl a b wa wb = wrap_word _
word_is Shr a b wa wb = wrap_word _
word_is And a b wa wb = cast_word (bit_and (unsigned a) (unsigned b))
    (omega (arith, (unsigned_law a wa).0, and_le_l (unsigned a) (unsigned b)))
word_is Or a b wa wb = cast_word (bit_or (unsigned a) (unsigned b))
    (or_lt 64 (unsigned a) (unsigned b) (unsigned_law a wa).0 (unsigned_law b wb).0)
word_is Xor a b wa wb = cast_word (bit_xor (unsigned a) (unsigned b))
    (xor_lt 64 (unsigned a) (unsigned b) (unsigned_law a wa).0 (unsigned_law b wb).0)
word_is Lt a b wa wb = truth_word _
word_is Le a b wa wb = truth_word _
word_is Eq a b wa wb = truth_word _
word_is Ne a b wa wb = truth_word _
word_is Ult a b wa wb = truth_word _
word_is Ule a b wa wb = truth_word _
word_is Udiv a b wa wb = unless_word (unsigned b == 0) _
word_is Urem a b wa wb = unless_word (unsigned b == 0) _
word_is Ushr a b wa wb = wrap_word _

put_words : (regs : List ℤ) (to : ℕ) (v : ℤ) → HoldWords regs → IsWord v
    → HoldWords (put_register regs to v)
put_words regs to v words word r = ⊎_elim
    (λ (e : r ≡ to). subst IsWord (sym (ap (register_at (put_register regs to v)) e
    ∙ at_put_same regs to v)) word)
    (λ (ne : r ≡ to → ⊥). subst IsWord (sym (at_put_other regs to r v ne)) (words r))
    (cases_eq r to)

args_words : (regs : List ℤ) (args : List ℕ) → HoldWords regs
    → HoldWords (map (register_at regs) args)
args_words regs [] words r = zero_word
args_words regs (a ∷ args) words zero = words a
args_words regs (a ∷ args) words (suc r) = args_words regs args words r

-- each word of a list in which one is replaced
set_words : (xs : List ℤ) (i j : ℕ) (v : ℤ) → ((k : ℕ) → IsWord (get_or xs k (pos 0))) → IsWord v
    → IsWord (get_or (set xs i v) j (pos 0))
set_words [] i j v words word = zero_word
set_words (x ∷ xs) zero zero v words word = word
set_words (x ∷ xs) zero (suc j) v words word = words (suc j)
set_words (x ∷ xs) (suc i) zero v words word = words zero
set_words (x ∷ xs) (suc i) (suc j) v words word = set_words xs i j v (λ k. words (suc k)) word

zeros_words : (n i : ℕ) → IsWord (get_or (replicate n (pos 0)) i (pos 0))
zeros_words zero i = zero_word
zeros_words (suc n) zero = zero_word
zeros_words (suc n) (suc i) = zeros_words n i

-- a slot put
slot_words : (slots : List (Option Object)) (i j k : ℕ) (o : Option Object)
    → ((a b : ℕ) → IsWord (field_of (get_or slots a None) b)) → ((b : ℕ) → IsWord (field_of o b))
    → IsWord (field_of (get_or (set slots i o) j None) k)
slot_words [] i j k o words one = zero_word
slot_words (x ∷ xs) zero zero k o words one = one k
slot_words (x ∷ xs) zero (suc j) k o words one = words (suc j) k
slot_words (x ∷ xs) (suc i) zero k o words one = words zero k
slot_words (x ∷ xs) (suc i) (suc j) k o words one =
    slot_words xs i j k o (λ a b. words (suc a) b) one

module _ (w : PoolMap) (words : HasWords w) where
  object_words_at : (a b : ℕ) → IsWord (field_of (get_or w.slots a None) b)
  object_words_at a b = words.word (InSlot (suc a) b)

  words_at : (q : ℕ) (o : Option Object) → ((b : ℕ) → IsWord (field_of o b))
      → HasWords (with_object w q o)
  words_at q o one = record {
    word = word;
    slots = subst (λ (n : ℕ). n < 2 ^ 63)
        (sym (length-set w.slots (q - 1) o)) words.slots;
  }
    where
      word : (x : Spot) → IsWord (load_spot (with_object w q o) x)
      word (InRoot i) = words.word (InRoot i)
      word (InSlot zero i) = zero_word
      word (InSlot (suc a) i) = slot_words w.slots (q - 1) a i o object_words_at one

  field_words : (o : Option Object) (i : ℕ) (v : ℤ) → ((b : ℕ) → IsWord (field_of o b)) → IsWord v
      → (b : ℕ) → IsWord (field_of (option_map (with_field i v) o) b)
  field_words None i v each one b = zero_word
  field_words (Some object) i v each one b = set_words object.fields i b v each one

  write_words : (q i : ℕ) (v : ℤ) (b : Bool) → IsWord v → HasWords (if b then write w q i v else w)
  write_words q i v true one = words_at q (option_map (with_field i v) (object_at w q))
      (field_words (object_at w q) i v (λ b. words.word (InSlot q b)) one)
  write_words q i v false one = words

  root_words : (i : ℕ) (v : ℤ) → IsWord v → HasWords (store_spot w (InRoot i) v)
  root_words i v one = record { word = word; slots = words.slots }
    where
      word : (x : Spot) → IsWord (load_spot (store_spot w (InRoot i) v) x)
      word (InRoot j) = set_words w.root i j v (λ k. words.word (InRoot k)) one
      word (InSlot zero j) = zero_word
      word (InSlot (suc q) j) = words.word (InSlot (suc q) j)

  store_words : (x : Spot) (v : ℤ) → IsWord v → HasWords (store_spot w x v)
  store_words (InRoot i) v one = root_words i v one
  store_words (InSlot q i) v one = write_words q i v (has_word (object_at w q) i) one

  new_words : (kind n : ℕ) (o : Option ℕ) → HasWords (new_at w kind n o).1
  new_words kind n None = words
  new_words kind n (Some q) = words_at q (Some (blank_object kind n)) (λ b. zeros_words n b)

  pointer_word : (kind n : ℕ) (o : Option ℕ) → least_free w ≡ o → IsWord (new_at w kind n o).0
  pointer_word kind n None is = zero_word
  pointer_word kind n (Some q) is = let slot = (least_free-some w q is).0 in
      let few = words.slots in (omega (arith, ints), omega (arith, ints, slot.1))

  free_words : (q : ℕ) → HasWords (free w q)
  free_words q = words_at q None (λ b. zero_word)

-- moves
ok_words : {A : Type 0} (r : Result A TrapKind) (go : A → Move) → ((a : A) → IsWordMove (go a))
    → IsWordMove (with_ok r go)
ok_words (Ok a) go each = each a
ok_words (Err k) go each = tt

operated : (o : Option ℤ) (go : ℤ → Move) → IsWordIf o → ((v : ℤ) → IsWord v → IsWordMove (go v))
    → IsWordMove (with_word o go)
operated None go word each = tt
operated (Some v) go word each = each v word

freed_words : (w : PoolMap) (r : Result ℕ TrapKind) (go : PoolMap → Move) → HasWords w
    → ((u : PoolMap) → HasWords u → IsWordMove (go u))
    → IsWordMove (with_ok (then_on r (λ q. Ok (free w q))) go)
freed_words w (Ok q) go words each = each (free w q) (free_words w words q)
freed_words w (Err k) go words each = tt

ticked_words : (t : ℕ) (go : ℕ → Move) → ((u : ℕ) → IsWordMove (go u))
    → IsWordMove (takes_tick t go)
ticked_words zero go each = tt
ticked_words (suc t) go each = each t

given_words : (below : List Frame) (v : ℤ) (w : PoolMap) (t : ℕ) → AllByRecursion IsWordFrame below
    → IsWord v → HasWords w → IsWordMove (gives below v w t)
given_words [] v w t frames word words = (words, word)
given_words (frame f p regs to ∷ below) v w t frames word words =
    (put_words regs to v frames.0 word, frames.1, words)

opened_words : (o : Option IrFunction) (g : ℕ) (args : List ℤ) (below : List Frame) (w : PoolMap)
    (t : ℕ) → HoldWords args → AllByRecursion IsWordFrame below → HasWords w
    → IsWordMove (opens o g args below w t)
opened_words None g args below w t each frames words = tt
opened_words (Some u) g args below w t each frames words = by (nat_lt (length below) 256)
  where
    by : (b : Bool) → IsWordMove (if b then Goes (Here g 0 args below w t)
        else Ends (Trapped trap.Depth))
    by true = (each, frames, words)
    by false = tt

either : (b : Bool) (c d : Move) → IsWordMove c → IsWordMove d → IsWordMove (if b then c else d)
either true c d one other = one
either false c d one other = other

acted : (program : Ir) (f p : ℕ) (regs : List ℤ) (below : List Frame) (w : PoolMap) (t : ℕ)
    (o : Option Instruction) → ((to : ℕ) (v : ℤ) → o ≡ Some (ir.Const to v) → IsWord v)
    → HoldWords regs → AllByRecursion IsWordFrame below → HasWords w
    → IsWordMove (act program o f p regs below w t)
acted program f p regs below w t None const each frames words = tt
acted program f p regs below w t (Some (ir.Const to v)) const each frames words =
    (put_words regs to v each (const to v refl), frames, words)
acted program f p regs below w t (Some (ir.Copy to from)) const each frames words =
    (put_words regs to (register_at regs from) each (each from), frames, words)
acted program f p regs below w t (Some (ir.Bin o to a b)) const each frames words =
    operated (word_of o (register_at regs a) (register_at regs b))
    (λ v. Goes (Here f (suc p) (put_register regs to v) below w t))
    (word_is o (register_at regs a) (register_at regs b) (each a) (each b)) (λ v word.
    (put_words regs to v each word, frames, words))
acted program f p regs below w t (Some (ir.Jump q)) const each frames words = (each, frames, words)
acted program f p regs below w t (Some (ir.Branch on q)) const each frames words =
    either (is_zero (register_at regs on)) (Goes (Here f q regs below w t))
    (Goes (Here f (suc p) regs below w t)) (each, frames, words) (each, frames, words)
acted program f p regs below w t (Some (ir.Load to x)) const each frames words =
    ok_words (spot_of program.shapes w x (base_in regs x) (index_in regs x))
    (λ s. Goes (Here f (suc p) (put_register regs to (load_spot w s)) below w t))
    (λ s. (put_words regs to (load_spot w s) each (words.word s), frames, words))
acted program f p regs below w t (Some (ir.Store x from line)) const each frames words =
    ok_words (spot_of program.shapes w x (base_in regs x) (index_in regs x))
    (λ s. Goes (Here f (suc p) regs below (store_spot w s (register_at regs from)) t))
    (λ s. (each, frames, store_words w words s (register_at regs from) (each from)))
acted program f p regs below w t (Some (ir.New to kind fill line)) const each frames words =
    let n : ℕ = words_of (fields_of program.shapes kind) in (
      put_words regs to (new_at w kind n (least_free w)).0 each
          (pointer_word w words kind n (least_free w) refl),
      frames,
      new_words w words kind n (least_free w),
    )
acted program f p regs below w t (Some (ir.Free from kind line)) const each frames words =
    freed_words w (slot_of w kind (register_at regs from))
    (λ u. Goes (Here f (suc p) regs below u t)) words (λ u kept. (each, frames, kept))
acted program f p regs below w t (Some (ir.Call to g args)) const each frames words =
    opened_words (slice_get program.functions g) g (map (register_at regs) args)
    (frame f (suc p) regs to ∷ below) w t (args_words regs args each) (each, frames) words
acted program f p regs below w t (Some (ir.Return from)) const each frames words =
    given_words below (register_at regs from) w t frames (each from) words
acted program f p regs below w t (Some ir.Tick) const each frames words =
    ticked_words t (λ u. Goes (Here f (suc p) regs below w u)) (λ u. (each, frames, words))
acted program f p regs below w t (Some (ir.Trap k)) const each frames words = tt
acted program f p regs below w t (Some (ir.Log x)) const each frames words = (each, frames, words)

pub words_stay : WordsLaw
words_stay program (Here f p regs below w t) constants is =
    acted program f p regs below w t (instruction_at program.functions f p) (λ to v e.
    constants f p to v e) is.0 is.1 is.2
