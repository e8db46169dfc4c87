-- The code that reaches objects, before it has a place. Temporary registers: 0 is an address (W
-- times a slot of W words, to which an index may be added) or, in `pm_new`, the slot; 1 and 2 are
-- used by the checks; 1 to 6 by `pm_new`.
use Rattle.std.specs.Prelude.{ℕ, zero, suc, ◌+◌, ◌*◌, Bool, true, false, ◌&&◌, if◌then◌else◌}
use Rattle.std.specs.Prelude.{nat_le, nat_lt}
use Rattle.std.specs.Prelude.{List, [], ◌∷◌, ◌++◌, length, ℤ, pos, ◌-ℤ◌}
use Rattle.nvm_base.specs.declared.op.BinOp.TheVariants.{Add, Mul, Eq, Ne, Ult}
use Rattle.pool_layout.specs.declared.limits.Sizes.{Sizes}
use Rattle.pool_layout.specs.Sizes.{root_lines, slot_words}
use Rattle.pm_alloc.specs.declared.objects.TheConstants.{UNROLLED_SLOT}
use Rattle.pm_alloc.specs.declared.local.Reg.{Reg}
use Rattle.pm_alloc.specs.declared.local.Reg.TheVariants.{Own, Temp}
use Rattle.pm_alloc.specs.declared.local.Local.{Local}
use Rattle.pm_alloc.specs.declared.local.Local.TheVariants.{Const, Mov, Bin, Jmp, Jz, Load, Store}
use Rattle.pm_alloc.specs.declared.local.Local.TheVariants.{Find, Log, Trap}

-- word j of the object in slot q is heap word W q + offset; word 0 is its header
abbrev pub offset : Sizes → ℕ → ℤ
offset s j = pos (8 * root_lines s + j) -ℤ pos (slot_words s)

-- a store, with or without its log
abbrev pub store_code : Bool → Reg → ℤ → Reg → List Local
store_code false x o a = Store x o a ∷ []
store_code true x o a = Log x o ∷ Store x o a ∷ []

-- The checks of a pointer, at the start of a piece: null goes to 11, stale to 10, else the code
-- goes on at 12 with W times the slot in temporary 0. As an unsigned number a negative word is
-- greater than each slot's.
abbrev pub pointer_steps : (past width header : ℤ) → (p kind : ℕ) → List Local
pointer_steps past width header p kind =
    Jz (Own p) 11
    ∷ Const (Temp 1) past ∷ Bin Ult (Temp 2) (Own p) (Temp 1) ∷ Jz (Temp 2) 10
    ∷ Const (Temp 0) width ∷ Bin Mul (Temp 0) (Own p) (Temp 0)
    ∷ Load (Temp 1) (Temp 0) header
    ∷ Const (Temp 2) (pos kind) ∷ Bin Ne (Temp 1) (Temp 1) (Temp 2) ∷ Jz (Temp 1) 12
    ∷ Trap 2 ∷ Trap 1 ∷ []

abbrev pub pointer_check : Sizes → (p kind : ℕ) → List Local
pointer_check s p kind = pointer_steps (pos (s.slots + 1)) (pos (slot_words s)) (offset s 0) p kind

-- the check of an index, from place at of a piece on, and the addition: the code goes on at at + 6
abbrev pub index_steps : (bad good i len : ℕ) → List Local
index_steps bad good i len =
    Const (Temp 1) (pos len) ∷ Bin Ult (Temp 2) (Own i) (Temp 1) ∷ Jz (Temp 2) bad
    ∷ Jmp good ∷ Trap 3
    ∷ Bin Add (Temp 0) (Temp 0) (Own i) ∷ []

abbrev pub index_check : (at i len : ℕ) → List Local
index_check at i len = index_steps (at + 4) (at + 5) i len

-- stores 0 to c words of an object, from word j on; temporary 1 holds W times the object's slot
abbrev pub fill_code : Sizes → Bool → (j c : ℕ) → List Local
fill_code s b j zero = []
fill_code s b j (suc c) = store_code b (Temp 1) (offset s j) (Temp 6) ++ fill_code s b (j + 1) c

-- The same as a loop, for a place p where its first store stands. Temporary 1 goes through the
-- words, 3 is where it ends, 4 is 1, and 2 is 0 as long as there is more.
abbrev pub loop_code : Sizes → Bool → (p : ℕ) → List Local
loop_code s b p = store_code b (Temp 1) (offset s 1) (Temp 6)
    ++ (Bin Add (Temp 1) (Temp 1) (Temp 4) ∷ Bin Eq (Temp 2) (Temp 1) (Temp 3) ∷ Jz (Temp 2) p ∷ [])

abbrev pub loop_fill : Sizes → Bool → (p c : ℕ) → List Local
loop_fill s b p c = Const (Temp 4) (pos 1) ∷ Const (Temp 3) (pos c)
    ∷ Bin Add (Temp 3) (Temp 3) (Temp 1) ∷ loop_code s b (p + 3)

-- A slot of few words is filled word by word, and a wider one by a loop; p is the place of the
-- fill. An object has a word at least.
abbrev pub fills_by_loop : Sizes → ℕ → Bool
fills_by_loop s c = nat_lt UNROLLED_SLOT (slot_words s) && nat_lt 0 c

abbrev pub filling : Sizes → Bool → (p c : ℕ) → List Local
filling s b p c = if fills_by_loop s c then loop_fill s b p c else fill_code s b 1 c

-- The search for the least free slot, and the store of its header; n is the length of the fill.
-- Temporary 0: the slot, 1: W times it, 5: the header, 6: 0. If no slot is free the code jumps
-- past the fill.
abbrev pub new_head : Sizes → (kind n : ℕ) → List Local
new_head s kind n =
    Find (Temp 0) ∷ Jz (Temp 0) (8 + n) ∷ Const (Temp 1) (pos (slot_words s))
    ∷ Bin Mul (Temp 1) (Temp 0) (Temp 1)
    ∷ Const (Temp 5) (pos kind) ∷ Log (Temp 1) (offset s 0) ∷ Store (Temp 1) (offset s 0) (Temp 5)
    ∷ Const (Temp 6) (pos 0) ∷ []

-- a new object of a kind with c words, whose fill is logged or not
abbrev pub new_code : Sizes → (to kind c : ℕ) → Bool → List Local
new_code s to kind c b =
    new_head s kind (length (filling s b 8 c))
    ++ (filling s b 8 c ++ Mov (Own to) (Temp 0) ∷ [])

-- a slot has room for one word less than it has; for more, the code is a trap
abbrev pub new_or_trap : Sizes → (to kind c : ℕ) → Bool → List Local
new_or_trap s to kind c b = if nat_le (slot_words s) c then Trap 2 ∷ []
    else new_code s to kind c b

abbrev pub free_code : Sizes → (p kind : ℕ) → List Local
free_code s p kind = pointer_check s p kind
    ++ (Const (Temp 1) (pos 0) ∷ store_code true (Temp 0) (offset s 0) (Temp 1))
