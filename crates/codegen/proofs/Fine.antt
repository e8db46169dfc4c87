-- Each piece of code is fine: it names registers of its function and temporary ones, jumps within
-- itself or right to its end, and traps with a trap's number.
use Rattle.std.proofs.Common.{◌≡◌, ℕ, zero, suc, ◌+◌, ◌≤◌, Bool, true, false, List, [], ◌∷◌, ◌++◌}
use Rattle.std.proofs.Common.{length, Option, Some, None, ℤ, pos, refl, ◌∙◌, arith, ltb, leb}
use Rattle.std.proofs.Common.{length-append}
use Rattle.std.specs.Prelude.{nat_lt, nat_le, ◌&&◌, if◌then◌else◌, option_map}
use Rattle.std.specs.List.{list_all}
use Rattle.std.proofs.lemmas.Bool.{le-leb, and_from, and_parts}
use Rattle.std.proofs.lemmas.List.Folds.{list_all-append}
use Rattle.nvm_base.specs.declared.op.BinOp.{BinOp}
use Rattle.pool_map.specs.declared.shapes.Shapes.{Shapes}
use Rattle.pool_map.specs.declared.trap.TrapKind.{TrapKind}
use Rattle.pool_map.specs.declared.trap.TrapKind.TheVariants as kinds
use Rattle.pool_map.specs.Trap.{trap_number}
use Rattle.pool_layout.specs.declared.limits.Sizes.{Sizes}
use Rattle.pool_layout.specs.Sizes.{slot_words}
use Rattle.ir.specs.declared.instruction.Target.{Target}
use Rattle.ir.specs.declared.instruction.Target.TheVariants.{Root, Field}
use Rattle.ir.specs.declared.instruction.Instruction.{Instruction}
use Rattle.ir.specs.declared.instruction.Instruction.TheVariants as ir
use Rattle.pm_alloc.specs.declared.local.Reg.{Reg}
use Rattle.pm_alloc.specs.declared.local.Reg.TheVariants.{Own, Temp}
use Rattle.pm_alloc.specs.declared.local.Local.{Local}
use Rattle.pm_alloc.specs.declared.local.Local.TheVariants.{Const, Mov, Bin, Jmp, Jz, Load, Store}
use Rattle.pm_alloc.specs.declared.local.Local.TheVariants.{Find, Log, Tick, Trap}
use Rattle.pm_alloc.specs.Pieces.{offset, store_code, pointer_check, fill_code, loop_code}
use Rattle.pm_alloc.specs.Pieces.{loop_fill}
use Rattle.pm_alloc.specs.Pieces.{fills_by_loop, filling, new_head, new_code}
use Rattle.codegen.specs.declared.fields.At.{At}
use Rattle.codegen.specs.declared.fields.At.TheVariants.{Word, Element}
use Rattle.codegen.specs.declared.fields.FieldPlace.{FieldPlace}
use Rattle.codegen.specs.declared.fields.Reach.{Reach}
use Rattle.codegen.specs.Fields.{element_at, reach, root_reach, struct_reach, struct_place}
use Rattle.codegen.specs.Fields.{field_at, object_words}
use Rattle.codegen.specs.Names.{index_below, target_below, is_below}
use Rattle.codegen.specs.Emit.{at_code, root_code, object_code, address_code, address_offset}
use Rattle.codegen.specs.Emit.{load_at, store_at, make_words, divides, local_code}

abbrev pub reg_fine : ℕ → Reg → Bool
reg_fine r (Own a) = nat_lt a r
reg_fine r (Temp j) = nat_lt j 8

-- n: the length of the piece; r: the function's number of registers
abbrev pub fine : (n r : ℕ) → Local → Bool
fine n r (Const a v) = reg_fine r a
fine n r (Mov a b) = reg_fine r a && reg_fine r b
fine n r (Bin o a b c) = reg_fine r a && (reg_fine r b && reg_fine r c)
fine n r (Jmp t) = nat_le t n
fine n r (Jz a t) = reg_fine r a && nat_le t n
fine n r (Load a b o) = reg_fine r a && reg_fine r b
fine n r (Store a o b) = reg_fine r a && reg_fine r b
fine n r (Find a) = reg_fine r a
fine n r (Log a o) = reg_fine r a
fine n r Tick = true
fine n r (Trap k) = nat_lt 0 k && nat_lt k 9

all_both : (f : Local → Bool) (xs ys : List Local) → list_all f xs ≡ true → list_all f ys ≡ true
    → list_all f (xs ++ ys) ≡ true
all_both f xs ys a b = list_all-append f xs ys ∙ and_from (list_all f xs) (list_all f ys) a b

joined : (r : ℕ) (xs ys : List Local) → ((n : ℕ) → length xs ≤ n → list_all (fine n r) xs ≡ true)
    → ((n : ℕ) → list_all (fine n r) ys ≡ true)
    → list_all (fine (length (xs ++ ys)) r) (xs ++ ys) ≡ true
joined r xs ys f g =
    let long : length xs ≤ length (xs ++ ys) = omega (arith, length-append xs ys) in
    all_both (fine (length (xs ++ ys)) r) xs ys (f (length (xs ++ ys)) long) (g (length (xs ++ ys)))

-- the checks
pointer_fine : (s : Sizes) (r base kind n : ℕ) → ltb base r ≡ true → 12 ≤ n
    → list_all (fine n r) (pointer_check s base kind) ≡ true
pointer_fine s r base kind n low long =
    let null : leb 11 n ≡ true = le-leb 11 n (omega arith) in
    let stale : leb 10 n ≡ true = le-leb 10 n (omega arith) in
    let past : leb 12 n ≡ true = le-leb 12 n long in
    rw (low, null, stale, past) refl

abbrev at_ok : ℕ → At → Bool
at_ok r Word = true
at_ok r (Element i len) = nat_lt i r

abbrev reach_ok : ℕ → Option Reach → Bool
reach_ok r None = true
reach_ok r (Some x) = at_ok r x.at

element_ok : (r first : ℕ) (len index : Option ℕ) → index_below r index ≡ true
    → reach_ok r (option_map (λ (a : At). record { first = first; at = a }) (element_at len index))
    ≡ true
element_ok r first None None low = refl
element_ok r first None (Some i) low = refl
element_ok r first (Some n) None low = refl
element_ok r first (Some n) (Some i) low = low

reach_is_ok : (r : ℕ) (place : Option FieldPlace) (index : Option ℕ) → index_below r index ≡ true
    → reach_ok r (reach place index) ≡ true
reach_is_ok r None index low = refl
reach_is_ok r (Some p) index low = element_ok r p.first p.length index low

at_fine : (r p : ℕ) (x : At) (n : ℕ) → at_ok r x ≡ true → p + length (at_code p x) ≤ n
    → list_all (fine n r) (at_code p x) ≡ true
at_fine r p Word n low long = refl
at_fine r p (Element i len) n low long =
    let low_i : ltb i r ≡ true = low in
    let bad : leb (p + 4) n ≡ true = le-leb (p + 4) n (omega arith) in
    let good : leb (p + 5) n ≡ true = le-leb (p + 5) n (omega arith) in
    rw (low_i, bad, good) refl

root_fine : (r : ℕ) (o : Option Reach) (n : ℕ) → reach_ok r o ≡ true → length (root_code o) ≤ n
    → list_all (fine n r) (root_code o) ≡ true
root_fine r None n low long = refl
root_fine r (Some x) n low long = at_fine r 1 x.at n low (omega arith)

object_fine : (s : Sizes) (r base kind : ℕ) (o : Option Reach) (n : ℕ) → ltb base r ≡ true
    → reach_ok r o ≡ true → length (object_code s base kind o) ≤ n
    → list_all (fine n r) (object_code s base kind o) ≡ true
object_fine s r base kind None n low ok long = refl
object_fine s r base kind (Some x) n low ok long =
    all_both (fine n r) (pointer_check s base kind) (at_code 12 x.at)
    (pointer_fine s r base kind n low (omega arith)) (at_fine r 12 x.at n ok (omega arith))

address_fine : (s : Sizes) (h : Shapes) (r : ℕ) (t : Target) → target_below r t ≡ true → (n : ℕ)
    → length (address_code s h t) ≤ n → list_all (fine n r) (address_code s h t) ≡ true
address_fine s h r (Root field index) low n long =
    root_fine r (root_reach s h field index) n
    (reach_is_ok r (field_at s.root_words 0 h.root field) index low) long
address_fine s h r (Field base kind field index) low n long =
    let parts = and_parts (nat_lt base r) (index_below r index) low in
    object_fine s r base kind (struct_reach s h kind field index) n parts.0
    (reach_is_ok r (struct_place s h kind field) index parts.1) long

-- the code after the checks
load_fine : (r to : ℕ) (o : Option ℤ) → ltb to r ≡ true → (n : ℕ)
    → list_all (fine n r) (load_at to o) ≡ true
load_fine r to None low n = refl
load_fine r to (Some o) low n = rw low refl

store_fine : (r from : ℕ) (b : Bool) (o : Option ℤ) → ltb from r ≡ true → (n : ℕ)
    → list_all (fine n r) (store_at b from o) ≡ true
store_fine r from b None low n = refl
store_fine r from true (Some o) low n = rw low refl
store_fine r from false (Some o) low n = rw low refl

-- new objects
head_fine : (s : Sizes) (r kind f n : ℕ) → 8 + f + 1 ≤ n →
    list_all (fine n r) (new_head s kind f) ≡ true
head_fine s r kind f n long =
    let afterwards : leb (8 + f) n ≡ true = le-leb (8 + f) n (omega arith) in
    rw afterwards refl

fill_fine : (s : Sizes) (r n : ℕ) (b : Bool) (j c : ℕ)
    → list_all (fine n r) (fill_code s b j c) ≡ true
fill_fine s r n b j zero = refl
fill_fine s r n true j (suc c) = fill_fine s r n true (j + 1) c
fill_fine s r n false j (suc c) = fill_fine s r n false (j + 1) c

-- a loop of one store, whose jump leads back
loop_fine : (s : Sizes) (r n : ℕ) (b : Bool) (p : ℕ) → p ≤ n
    → list_all (fine n r) (loop_code s b p) ≡ true
loop_fine s r n true p low = let back : leb p n ≡ true = le-leb p n low in rw back refl
loop_fine s r n false p low = let back : leb p n ≡ true = le-leb p n low in rw back refl

filling_fine : (s : Sizes) (r n c : ℕ) (b d : Bool)
    → 8 + length (if d then loop_fill s b 8 c else fill_code s b 1 c) + 1 ≤ n
    → list_all (fine n r) (if d then loop_fill s b 8 c else fill_code s b 1 c) ≡ true
filling_fine s r n c true true long = loop_fine s r n true 11 (omega arith)
filling_fine s r n c false true long = loop_fine s r n false 11 (omega arith)
filling_fine s r n c b false long = fill_fine s r n b 1 c

mov_fine : (r to n : ℕ) → ltb to r ≡ true → list_all (fine n r) (Mov (Own to) (Temp 0) ∷ []) ≡ true
mov_fine r to n low = rw low refl

new_fine : (s : Sizes) (r to kind c : ℕ) (b : Bool) → ltb to r ≡ true
    → list_all (fine (length (new_code s to kind c b)) r) (new_code s to kind c b) ≡ true
new_fine s r to kind c b low =
    let fill : List Local = filling s b 8 c in
    let tail : List Local = Mov (Own to) (Temp 0) ∷ [] in
    let head : List Local = new_head s kind (length fill) in
    let n : ℕ = length (new_code s to kind c b) in
    let long : 8 + length fill + 1 ≤ n =
    omega (arith, length-append head (fill ++ tail), length-append fill tail) in
    all_both (fine n r) head (fill ++ tail) (head_fine s r kind (length fill) n long)
    (all_both (fine n r) fill tail (filling_fine s r n c b (fills_by_loop s c) long)
    (mov_fine r to n low))

made_fine_if : (s : Sizes) (r to kind c : ℕ) (b d : Bool) → ltb to r ≡ true
    → list_all (fine (length (if d then Trap 2 ∷ [] else new_code s to kind c b)) r)
    (if d then Trap 2 ∷ [] else new_code s to kind c b) ≡ true
made_fine_if s r to kind c b true low = refl
made_fine_if s r to kind c b false low = new_fine s r to kind c b low

made_fine : (s : Sizes) (r to kind : ℕ) (b : Bool) (o : Option ℕ) → ltb to r ≡ true
    → list_all (fine (length (make_words s to kind b o)) r) (make_words s to kind b o) ≡ true
made_fine s r to kind b None low = refl
made_fine s r to kind b (Some c) low = made_fine_if s r to kind c b (nat_le (slot_words s) c) low

-- the other instructions
bin_fine_if : (o : BinOp) (r to left right : ℕ) (d : Bool) → ltb to r ≡ true → ltb left r ≡ true
    → ltb right r ≡ true → list_all
    (fine (length (if d then Jz (Own right) 2 ∷ Jmp 3 ∷ Trap 4 ∷ Bin o (Own to) (Own left)
    (Own right)
    ∷ [] else Bin o (Own to) (Own left) (Own right) ∷ [])) r) (if d then Jz (Own right) 2 ∷ Jmp 3
    ∷ Trap 4 ∷ Bin o (Own to) (Own left) (Own right) ∷ [] else Bin o (Own to) (Own left) (Own right)
    ∷ []) ≡ true
bin_fine_if o r to left right true a b c = rw (c, a, b) refl
bin_fine_if o r to left right false a b c = rw (a, b, c) refl

free_end_fine : (s : Sizes) (r n : ℕ)
    → list_all (fine n r) (Const (Temp 1) (pos 0) ∷ store_code true (Temp 0) (offset s 0) (Temp 1))
    ≡ true
free_end_fine s r n = refl

trap_fine : (k : TrapKind) (n r : ℕ) → list_all (fine n r) (Trap (trap_number k) ∷ []) ≡ true
trap_fine kinds.Null n r = refl
trap_fine kinds.Stale n r = refl
trap_fine kinds.Index n r = refl
trap_fine kinds.Divide n r = refl
trap_fine kinds.Steps n r = refl
trap_fine kinds.Abort n r = refl
trap_fine kinds.LogFull n r = refl
trap_fine kinds.Depth n r = refl

pub local_fine : (s : Sizes) (h : Shapes) (r : ℕ) (b : Bool) (i : Instruction) → is_below r i ≡ true
    → list_all (fine (length (local_code s h b i)) r) (local_code s h b i) ≡ true
local_fine s h r b (ir.Const to value) low = let a : ltb to r ≡ true = low in rw a refl
local_fine s h r b (ir.Copy to from) low =
    let parts = and_parts (nat_lt to r) (nat_lt from r) low in
    let a : ltb to r ≡ true = parts.0 in
    let c : ltb from r ≡ true = parts.1 in
    rw (a, c) refl
local_fine s h r b (ir.Bin o to left right) low =
    let parts = and_parts (nat_lt to r) (nat_lt left r && nat_lt right r) low in
    let rest = and_parts (nat_lt left r) (nat_lt right r) parts.1 in
    bin_fine_if o r to left right (divides o) parts.0 rest.0 rest.1
local_fine s h r b (ir.Load to t) low =
    let parts = and_parts (nat_lt to r) (target_below r t) low in
    joined r (address_code s h t) (load_at to (address_offset s h t)) (address_fine s h r t parts.1)
    (load_fine r to (address_offset s h t) parts.0)
local_fine s h r b (ir.Store t from line) low =
    let parts = and_parts (nat_lt from r) (target_below r t) low in
    joined r (address_code s h t) (store_at b from (address_offset s h t))
    (address_fine s h r t parts.1) (store_fine r from b (address_offset s h t) parts.0)
local_fine s h r b (ir.New to kind fill line) low =
    made_fine s r to kind fill (object_words s h kind) low
local_fine s h r b (ir.Free from kind line) low =
    joined r (pointer_check s from kind)
    (Const (Temp 1) (pos 0) ∷ store_code true (Temp 0) (offset s 0) (Temp 1)) (λ n long.
    pointer_fine s r from kind n low long) (λ n. free_end_fine s r n)
local_fine s h r b ir.Tick low = refl
local_fine s h r b (ir.Trap k) low = trap_fine k 1 r
local_fine s h r b (ir.Jump place) low = refl
local_fine s h r b (ir.Branch on place) low = refl
local_fine s h r b (ir.Call to function args) low = refl
local_fine s h r b (ir.Return from) low = refl
local_fine s h r b (ir.Log t) low = refl
