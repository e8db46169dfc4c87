-- The constants in the emitted code of an instruction are words.
use Rattle.std.proofs.Common.{◌≡◌, ℕ, zero, suc, ◌+◌, ◌-◌, ◌*◌, ◌^◌, ◌<◌, ◌≤◌, ℤ, pos}
use Rattle.std.proofs.Common.{Bool, true, false, Option, Some, None, List, [], ◌∷◌, ◌++◌, length}
use Rattle.std.proofs.Common.{refl, ap, subst, arith}
use Rattle.std.specs.Prelude.{FitsSigned, nat_le, if◌then◌else◌, option_map, ◌==◌}
use Rattle.std.specs.Prelude.{option_and_then, unwrap_or}
use Rattle.std.specs.Int.{w64}
use Rattle.std.specs.List.{AllByRecursion}
use Rattle.std.proofs.lemmas.Bool.{leb-true, leb-false}
use Rattle.std.proofs.lemmas.Int.{ints}
use Rattle.std.proofs.lemmas.Option.{slice_get_within}
use Rattle.nvm_base.specs.declared.op.BinOp.{BinOp}
use Rattle.nvm_base.specs.declared.op.BinOp.TheVariants.{Add, Eq}
use Rattle.pool_layout.specs.declared.limits.Sizes.{Sizes}
use Rattle.pool_layout.specs.Sizes.{root_lines, slot_words}
use Rattle.pool_map.specs.declared.shapes.FieldShape.{FieldShape}
use Rattle.pool_map.specs.declared.shapes.StructShape.{StructShape}
use Rattle.pool_map.specs.declared.shapes.Shapes.{Shapes}
use Rattle.pool_map.specs.PoolFits.{words_of_field, struct_at}
use Rattle.ir.specs.declared.instruction.Target.{Target}
use Rattle.ir.specs.declared.instruction.Target.TheVariants.{Root, Field}
use Rattle.ir.specs.declared.instruction.Instruction.{Instruction}
use Rattle.ir.specs.declared.instruction.Instruction.TheVariants as ir
use Rattle.pm_alloc.specs.declared.local.Reg.{Reg}
use Rattle.pm_alloc.specs.declared.local.Reg.TheVariants.{Own, Temp}
use Rattle.pm_alloc.specs.declared.local.Local.{Local}
use Rattle.pm_alloc.specs.declared.local.Local.TheVariants.{Const, Mov, Bin, Jmp, Jz, Load, Store}
use Rattle.pm_alloc.specs.declared.local.Local.TheVariants.{Find, Log, Tick, Trap}
use Rattle.pm_alloc.specs.Pieces.{offset, store_code, pointer_check, index_check, fill_code}
use Rattle.pm_alloc.specs.Pieces.{fills_by_loop, loop_code, loop_fill, filling, new_head, new_code}
use Rattle.pm_alloc.specs.Pieces.{free_code}
use Rattle.pm_alloc.specs.Placing.{sum}
use Rattle.codegen.specs.declared.fields.At.{At}
use Rattle.codegen.specs.declared.fields.At.TheVariants.{Word, Element}
use Rattle.codegen.specs.declared.fields.FieldPlace.{FieldPlace}
use Rattle.codegen.specs.declared.fields.Reach.{Reach}
use Rattle.codegen.specs.Fields.{field_at, place_at, element_at, reach}
use Rattle.codegen.specs.Fields.{root_reach, room, struct_place, struct_reach, object_words}
use Rattle.codegen.specs.Emit.{at_code, root_code, root_offset, object_code, object_offset}
use Rattle.codegen.specs.Emit.{address_code, address_offset, load_at, store_at}
use Rattle.codegen.specs.Emit.{make_words, divides, local_code}

-- the constant of an instruction is a word
abbrev pub Fits : Local → Type 0
Fits (Const r v) = FitsSigned w64 v
Fits (Load r a o) = FitsSigned w64 o
Fits (Store a o b) = FitsSigned w64 o
Fits (Log a o) = FitsSigned w64 o
Fits (Mov r a) = Unit {0}
Fits (Bin op r a b) = Unit {0}
Fits (Jmp t) = Unit {0}
Fits (Jz a t) = Unit {0}
Fits (Find r) = Unit {0}
Fits Tick = Unit {0}
Fits (Trap k) = Unit {0}

abbrev pub AllFit : List Local → Type 0
AllFit code = AllByRecursion Fits code

joined : (xs ys : List Local) → AllFit xs → AllFit ys → AllFit (xs ++ ys)
joined [] ys h rest = rest
joined (x ∷ xs) ys h rest = (h.0, joined xs ys h.1 rest)

number_fits : (n : ℕ) → n < 2 ^ 63 → FitsSigned w64 (pos n)
number_fits n low = record { sfits = omega (arith, low) }

-- a slot has few words
width_few : (s : Sizes) → slot_words s ≤ 512
width_few s = omega (arith, s.slot_fits.1)

width_fits : (s : Sizes) → FitsSigned w64 (pos (slot_words s))
width_fits s = number_fits (slot_words s) (omega (arith, width_few s))

offset_fits : (s : Sizes) (j : ℕ) → j < 2 ^ 32 → FitsSigned w64 (offset s j)
offset_fits s j low =
    let words = s.root_words_fit.1 in
    let lines : 8 * root_lines s < 2 ^ 32 = omega (arith, words) in
    omega (arith, ints, low, lines, width_few s)

store_fits : (b : Bool) (x : Reg) (o : ℤ) (a : Reg) → FitsSigned w64 o
    → AllFit (store_code b x o a)
store_fits false x o a f = (f, tt)
store_fits true x o a f = (f, (f, tt))

pointer_fits : (s : Sizes) (p kind : ℕ) → kind ≤ 255 → AllFit (pointer_check s p kind)
pointer_fits s p kind few =
    let slots = s.slots_fit.1 in
    let past = number_fits (s.slots + 1) (omega (arith, slots)) in
    let header = offset_fits s 0 (omega arith) in
    let number = number_fits kind (omega (arith, few)) in
    (tt, (past, (tt, (tt, (width_fits s, (tt, (header, (number, (tt, (tt, (tt, (tt, tt))))))))))))

index_fits : (at i len : ℕ) → len < 2 ^ 63 → AllFit (index_check at i len)
index_fits at i len low = (number_fits len low, (tt, (tt, (tt, (tt, (tt, tt))))))

fill_fits : (s : Sizes) (b : Bool) (j c : ℕ) → j + c < 2 ^ 32 → AllFit (fill_code s b j c)
fill_fits s b j zero low = tt
fill_fits s b j (suc c) low =
    joined (store_code b (Temp 1) (offset s j) (Temp 6)) (fill_code s b (j + 1) c)
    (store_fits b (Temp 1) (offset s j) (Temp 6) (offset_fits s j (omega (arith, low))))
    (fill_fits s b (j + 1) c (omega (arith, low)))

loop_fits : (s : Sizes) (b : Bool) (p : ℕ) → AllFit (loop_code s b p)
loop_fits s b p =
    joined (store_code b (Temp 1) (offset s 1) (Temp 6))
    (Bin Add (Temp 1) (Temp 1) (Temp 4) ∷ Bin Eq (Temp 2) (Temp 1) (Temp 3) ∷ Jz (Temp 2) p ∷ [])
    (store_fits b (Temp 1) (offset s 1) (Temp 6) (offset_fits s 1 (omega arith)))
    (tt, (tt, (tt, tt)))

filling_fits : (s : Sizes) (b : Bool) (p c : ℕ) → c < slot_words s → AllFit (filling s b p c)
filling_fits s b p c short = go (fills_by_loop s c)
  where
    go : (t : Bool) → AllFit (if t then loop_fill s b p c else fill_code s b 1 c)
    go true = (
      number_fits 1 (omega arith),
      (number_fits c (omega (arith, short, width_few s)), (tt, loop_fits s b (p + 3))),
    )
    go false = fill_fits s b 1 c (omega (arith, short, width_few s))

new_fits : (s : Sizes) (to kind c : ℕ) (b : Bool) → kind ≤ 255 → c < slot_words s
    → AllFit (new_code s to kind c b)
new_fits s to kind c b few short =
    let fill = filling s b 8 c in
    let none = number_fits 0 (omega arith) in
    let number = number_fits kind (omega (arith, few)) in
    let header = offset_fits s 0 (omega arith) in
    joined (new_head s kind (length fill)) (fill ++ Mov (Own to) (Temp 0) ∷ [])
    (tt, (tt, (width_fits s, (tt, (number, (header, (header, (none, tt))))))))
    (joined fill (Mov (Own to) (Temp 0) ∷ []) (filling_fits s b 8 c short) (tt, tt))

free_fits : (s : Sizes) (p kind : ℕ) → kind ≤ 255 → AllFit (free_code s p kind)
free_fits s p kind few =
    let header = offset_fits s 0 (omega arith) in
    joined (pointer_check s p kind)
    (Const (Temp 1) (pos 0) ∷ store_code true (Temp 0) (offset s 0) (Temp 1))
    (pointer_fits s p kind few) (number_fits 0 (omega arith), (header, (header, tt)))

-- a field's place, within so many words
record IsWithinWords (limit : ℕ) (place : FieldPlace) : Type 0 where
  first : place.first ≤ limit
  long : (len : ℕ) → place.length ≡ Some len → len ≤ limit

module _ (limit n f : ℕ) (field : FieldShape) (fields : List FieldShape) (place : FieldPlace)
    (rest : field_at limit (n + words_of_field field) fields (f - 1) ≡ Some place
    → IsWithinWords limit place) where
  by_index : (t : Bool) → n + words_of_field field ≤ limit
      → (if t then Some (place_at n field)
      else field_at limit (n + words_of_field field) fields (f - 1)) ≡ Some place
      → IsWithinWords limit place
  by_index true low e =
      let same : place_at n field ≡ place = cc in
      subst (IsWithinWords limit) same (record {
        first = omega (arith, low);
        long = λ len is.
            let words : words_of_field field ≡ len = ap (λ (o : Option ℕ). unwrap_or o 1) is in
            omega (arith, low, words);
      })
  by_index false low e = rest e

  by_room : (t : Bool) → nat_le (n + words_of_field field) limit ≡ t
      → option_and_then (λ (m : ℕ). if f == 0 then Some (place_at n field)
      else field_at limit m fields (f - 1))
      (if t then Some (n + words_of_field field) else None) ≡ Some place
      → IsWithinWords limit place
  by_room true fits e =
      by_index (f == 0) (leb-true (n + words_of_field field) limit fits) e
  by_room false fits e = absurd (cc)

within_words : (limit n : ℕ) (fields : List FieldShape) (f : ℕ) (place : FieldPlace)
    → field_at limit n fields f ≡ Some place → IsWithinWords limit place
within_words limit n [] f place e = absurd (cc)
within_words limit n (field ∷ fields) f place e =
    by_room limit n f field fields place
    (λ h. within_words limit (n + words_of_field field) fields (f - 1) place h)
    (nat_le (n + words_of_field field) limit) refl e

abbrev IsShortAt : ℕ → At → Type 0
IsShortAt limit Word = Unit {0}
IsShortAt limit (Element index len) = len ≤ limit

record IsShort (limit : ℕ) (r : Reach) : Type 0 where
  first : r.first ≤ limit
  at : IsShortAt limit r.at

by_element : (limit : ℕ) (place : FieldPlace) (r : Reach) → IsWithinWords limit place
    → (length index : Option ℕ) → place.length ≡ length
    → option_map (λ (a : At). record { first = place.first; at = a }) (element_at length index)
    ≡ Some r → IsShort limit r
by_element limit place r within None None is e =
    let same : record { first = place.first; at = Word } ≡ r = cc in
    subst (IsShort limit) same (record { first = within.first; at = tt })
by_element limit place r within None (Some i) is e = absurd (cc)
by_element limit place r within (Some len) None is e = absurd (cc)
by_element limit place r within (Some len) (Some i) is e =
    let same : record { first = place.first; at = Element i len } ≡ r = cc in
    subst (IsShort limit) same (record { first = within.first; at = within.long len is })

reach_short : (limit : ℕ) (o : Option FieldPlace) (index : Option ℕ) (r : Reach)
    → ((place : FieldPlace) → o ≡ Some place → IsWithinWords limit place)
    → reach o index ≡ Some r → IsShort limit r
reach_short limit None index r within e = absurd (cc)
reach_short limit (Some place) index r within e =
    by_element limit place r (within place refl) place.length index refl e

at_fits : (limit p : ℕ) (a : At) → limit < 2 ^ 63 → IsShortAt limit a → AllFit (at_code p a)
at_fits limit p Word low short = tt
at_fits limit p (Element index len) low short = index_fits p index len (omega (arith, low, short))

abbrev MayFit : Option ℤ → Type 0
MayFit None = Unit {0}
MayFit (Some o) = FitsSigned w64 o

-- the checks of a target, and the offset after them
abbrev AddressFits : List Local → Option ℤ → Type 0
AddressFits code o = AllFit code × MayFit o

root_fits : (limit : ℕ) (o : Option Reach) → limit ≤ 65536
    → ((r : Reach) → o ≡ Some r → IsShort limit r) → AddressFits (root_code o) (root_offset o)
root_fits limit None low short = ((tt, tt), tt)
root_fits limit (Some r) low short =
    let within = short r refl in
    let first = within.first in (
      (number_fits 0 (omega arith), at_fits limit 1 r.at (omega (arith, low)) within.at),
      number_fits r.first (omega (arith, low, first)),
    )

object_fits : (s : Sizes) (base kind : ℕ) (o : Option Reach)
    → ((r : Reach) → o ≡ Some r → IsShort (room s) r × (kind ≤ 255))
    → AddressFits (object_code s base kind o) (object_offset s o)
object_fits s base kind None short = ((tt, tt), tt)
object_fits s base kind (Some r) short =
    let within = (short r refl).0 in
    let first = within.first in
    let low : room s < 2 ^ 31 = omega (arith, width_few s) in
    let one : sum r.first 1 < 2 ^ 32 = omega (arith, first, low) in (
      joined (pointer_check s base kind) (at_code 12 r.at)
          (pointer_fits s base kind (short r refl).1)
          (at_fits (room s) 12 r.at (omega (arith, low)) within.at),
      offset_fits s (sum r.first 1) one,
    )

kind_within : (structs : List StructShape) (kind : ℕ) (u : StructShape)
    → struct_at structs kind ≡ Some u → kind ≤ length structs
kind_within structs zero u e = absurd (cc)
kind_within structs (suc i) u e = slice_get_within structs i u e

module _ (s : Sizes) (h : Shapes) (few : length h.structs ≤ 255) where
  struct_short : (kind field : ℕ) (o : Option StructShape) → struct_at h.structs kind ≡ o
      → (place : FieldPlace)
      → option_and_then (λ (u : StructShape). field_at (room s) 0 u.fields field) o ≡ Some place
      → IsWithinWords (room s) place × (kind ≤ 255)
  struct_short kind field None found place e = absurd (cc)
  struct_short kind field (Some u) found place e =
      let low = kind_within h.structs kind u found in
      (within_words (room s) 0 u.fields field place e, omega (arith, low, few))

  kind_few : (kind field : ℕ) (index : Option ℕ) (o : Option FieldPlace)
      → struct_place s h kind field ≡ o → (r : Reach) → reach o index ≡ Some r → kind ≤ 255
  kind_few kind field index None is r e = absurd (cc)
  kind_few kind field index (Some place) is r e =
      (struct_short kind field (struct_at h.structs kind) refl place is).1

  struct_reach_short : (kind field : ℕ) (index : Option ℕ) (r : Reach)
      → struct_reach s h kind field index ≡ Some r → IsShort (room s) r × (kind ≤ 255)
  struct_reach_short kind field index r e = (
    reach_short (room s) (struct_place s h kind field) index r (λ place is.
        (struct_short kind field (struct_at h.structs kind) refl place is).0) e,
    kind_few kind field index (struct_place s h kind field) refl r e,
  )

  address_fits : (t : Target) → AddressFits (address_code s h t) (address_offset s h t)
  address_fits (Root field index) =
      root_fits s.root_words (root_reach s h field index) s.root_words_fit.1
      (λ r e. reach_short s.root_words (field_at s.root_words 0 h.root field) index r
      (λ place is. within_words s.root_words 0 h.root field place is) e)
  address_fits (Field base kind field index) =
      object_fits s base kind (struct_reach s h kind field index)
      (λ r e. struct_reach_short kind field index r e)

  load_fits : (to : ℕ) (o : Option ℤ) → MayFit o → AllFit (load_at to o)
  load_fits to None f = tt
  load_fits to (Some o) f = (f, tt)

  assign_fits : (b : Bool) (from : ℕ) (o : Option ℤ) → MayFit o → AllFit (store_at b from o)
  assign_fits b from None f = tt
  assign_fits b from (Some o) f = store_fits b (Temp 0) o (Own from) f

  make_by : (to kind c : ℕ) (b t : Bool) → nat_le (slot_words s) c ≡ t → kind ≤ 255
      → AllFit (if t then Trap 2 ∷ [] else new_code s to kind c b)
  make_by to kind c b true e low = (tt, tt)
  make_by to kind c b false e low = new_fits s to kind c b low (leb-false (slot_words s) c e)

  words_fit : (to kind : ℕ) (b : Bool) (o : Option ℕ) → kind ≤ 255
      → AllFit (make_words s to kind b o)
  words_fit to kind b None low = (tt, tt)
  words_fit to kind b (Some c) low = make_by to kind c b (nat_le (slot_words s) c) refl low

  bin_fits : (o : BinOp) (to left right : ℕ) (t : Bool)
      → AllFit (if t then Jz (Own right) 2 ∷ Jmp 3 ∷ Trap 4
      ∷ Bin o (Own to) (Own left) (Own right) ∷ []
      else Bin o (Own to) (Own left) (Own right) ∷ [])
  bin_fits o to left right true = (tt, (tt, (tt, (tt, tt))))
  bin_fits o to left right false = (tt, tt)

  -- what an instruction must be for that
  abbrev pub HasWords : Instruction → Type 0
  HasWords (ir.Const to v) = FitsSigned w64 v
  HasWords (ir.New to kind fill line) = kind ≤ 255
  HasWords (ir.Free from kind line) = kind ≤ 255
  HasWords i = Unit {0}

  pub locals_fit : (b : Bool) (i : Instruction) → HasWords i → AllFit (local_code s h b i)
  locals_fit b (ir.Const to v) f = (f, tt)
  locals_fit b (ir.Copy to from) f = (tt, tt)
  locals_fit b (ir.Bin o to left right) f = bin_fits o to left right (divides o)
  locals_fit b (ir.Load to t) f =
      joined (address_code s h t) (load_at to (address_offset s h t)) (address_fits t).0
      (load_fits to (address_offset s h t) (address_fits t).1)
  locals_fit b (ir.Store t from line) f =
      joined (address_code s h t) (store_at b from (address_offset s h t)) (address_fits t).0
      (assign_fits b from (address_offset s h t) (address_fits t).1)
  locals_fit b (ir.New to kind fill line) f = words_fit to kind fill (object_words s h kind) f
  locals_fit b (ir.Free from kind line) f = free_fits s from kind f
  locals_fit b ir.Tick f = (tt, tt)
  locals_fit b (ir.Trap kind) f = (tt, tt)
  locals_fit b (ir.Jump place) f = tt
  locals_fit b (ir.Branch on place) f = tt
  locals_fit b (ir.Call to function args) f = tt
  locals_fit b (ir.Return from) f = tt
  locals_fit b (ir.Log t) f = tt
