-- The values of constants are words.
use Rattle.std.proofs.Common.{◌≡◌, ℕ, zero, suc, ◌-◌, ◌^◌, ◌<◌, ◌≤◌, ℤ, pos, negsuc, Bool, true}
use Rattle.std.proofs.Common.{false, List, [], ◌∷◌, refl, arith, ltb}
use Rattle.std.specs.Prelude.{◌==◌, ◌&&◌, int_lt, if◌then◌else◌, slice_get, bit_and, bit_or}
use Rattle.std.specs.Prelude.{bit_xor, Option, None, Some, Result, Ok, Err}
use Rattle.std.specs.Int.{w64, cast_signed}
use Rattle.std.specs.List.{AllByRecursion}
use Rattle.std.specs.Str.{bytes_eq}
use Rattle.std.proofs.lemmas.Nat.{and_le_l, or_lt, xor_lt}
use Rattle.std.proofs.lemmas.Bool.{ltb-true, ltb-false}
use Rattle.std.proofs.lemmas.Int.{ints}
use Rattle.nvm_base.specs.declared.op.BinOp.{BinOp}
use Rattle.nvm_base.specs.declared.op.BinOp.TheVariants as op
use Rattle.nvm_base.specs.Applied.{applied}
use Rattle.nvm_base.specs.Operations.{unsigned, truth}
use Rattle.nvm_base.specs.Wrap.{IsWord, wrap}
use Rattle.nvm_base.proofs.LawLemmas.{wraps, unsigned_law}
use Rattle.c_lexer.specs.declared.token.Placed.{Placed}
use Rattle.c_lexer.specs.TokenList.{Tokens}
use Rattle.c_constants.specs.declared.entry.Entry.{Entry}
use Rattle.c_constants.specs.declared.entry.Follows.{Follows}
use Rattle.c_constants.specs.declared.fault.ConstFault.{ConstFault}
use Rattle.c_constants.specs.declared.name.Constant.{Constant}
use Rattle.c_constants.specs.declared.part.Part.{Part}
use Rattle.c_constants.specs.declared.part.Part.TheVariants as part
use Rattle.c_constants.specs.declared.term.Sign.{Sign}
use Rattle.c_constants.specs.declared.term.Sign.TheVariants as sign
use Rattle.c_constants.specs.declared.term.Term.{Term}
use Rattle.c_constants.specs.Entries as entries
use Rattle.c_constants.specs.Laws.{AreWordTokens}
use Rattle.c_constants.specs.Names.{constant_named}
use Rattle.c_constants.specs.Parts.{part_at, placed_number, name_at, next_place, too_deep}
use Rattle.c_constants.specs.Parts.{bad_number}
use Rattle.c_constants.specs.Terms as terms
use Rattle.c_constants.specs.Terms.{Read, Task, Operand, Group, read_value}

pub small_word : (n : ℕ) → n ≤ 2 ^ 63 - 1 → IsWord (pos n)
small_word n le = (omega (arith, ints), omega (arith, ints, le))

pub zero_word : IsWord (pos 0)
zero_word = small_word 0 (omega arith)

wrap_word : (z : ℤ) → IsWord (wrap z)
wrap_word z = (wraps z).in_range

truth_word : (b : Bool) → IsWord (truth b)
truth_word true = small_word 1 (omega arith)
truth_word false = zero_word

cast_word : (n : ℕ) → n < 2 ^ 64 → IsWord (cast_signed w64 n)
cast_word n small = by (ltb n (2 ^ 63)) refl
  where
    by : (t : Bool) → ltb n (2 ^ 63) ≡ t → IsWord (cast_signed w64 n)
    by true low = let less = ltb-true n (2 ^ 63) low in
        rw low (omega (arith, ints), omega (arith, ints))
    by false high = let more = ltb-false n (2 ^ 63) high in
        rw high (omega (arith, ints), omega (arith, ints))

xor_word : (a b : ℤ) → IsWord a → IsWord b → IsWord (applied op.Xor a b)
xor_word a b wa wb = cast_word (bit_xor (unsigned a) (unsigned b))
    (xor_lt 64 (unsigned a) (unsigned b) (unsigned_law a wa).0 (unsigned_law b wb).0)

zero_or_word : (c : Bool) (z : ℤ) → IsWord (if c then pos 0 else wrap z)
zero_or_word true z = zero_word
zero_or_word false z = wrap_word z

-- the result of an operation on words is a word
applied_word : (o : BinOp) (a b : ℤ) → IsWord a → IsWord b → IsWord (applied o a b)
applied_word op.Add a b wa wb = wrap_word _
applied_word op.Sub a b wa wb = wrap_word _
applied_word op.Mul a b wa wb = wrap_word _
applied_word op.Div a b wa wb = zero_or_word (unsigned b == 0) _
applied_word op.Rem a b wa wb = zero_or_word (unsigned b == 0) _
applied_word op.Shl a b wa wb = wrap_word _
applied_word op.Shr a b wa wb = wrap_word _
applied_word op.And a b wa wb = cast_word (bit_and (unsigned a) (unsigned b))
    (omega (arith, (unsigned_law a wa).0, and_le_l (unsigned a) (unsigned b)))
applied_word op.Or a b wa wb = cast_word (bit_or (unsigned a) (unsigned b))
    (or_lt 64 (unsigned a) (unsigned b) (unsigned_law a wa).0 (unsigned_law b wb).0)
applied_word op.Xor a b wa wb = xor_word a b wa wb
applied_word op.Lt a b wa wb = truth_word _
applied_word op.Le a b wa wb = truth_word _
applied_word op.Eq a b wa wb = truth_word _
applied_word op.Ne a b wa wb = truth_word _
applied_word op.Ult a b wa wb = truth_word _
applied_word op.Ule a b wa wb = truth_word _
applied_word op.Udiv a b wa wb = zero_or_word (unsigned b == 0) _
applied_word op.Urem a b wa wb = zero_or_word (unsigned b == 0) _
applied_word op.Ushr a b wa wb = wrap_word _

signed_word : (s : Sign) (a : ℤ) → IsWord a → IsWord (terms.signed_word s a)
signed_word sign.Negate a w = wrap_word _
signed_word sign.Not a w = truth_word _
signed_word sign.Complement a w = xor_word (negsuc 0) a (omega (arith, ints), omega (arith, ints)) w

abbrev pub IsWordOr : Option ℤ → Type 0
IsWordOr None = Unit {0}
IsWordOr (Some v) = IsWord v

abbrev HoldsWord : Read → Type 0
HoldsWord (Ok t) = IsWord t.word
HoldsWord (Err fault) = Unit {0}

then_word : (r : Read) (go : Term → Read) → HoldsWord r
    → ((t : Term) → IsWord t.word → HoldsWord (go t)) → HoldsWord (terms.then_read r go)
then_word (Ok t) go w h = h t w
then_word (Err fault) go w h = tt

unless_word : (b : Bool) (f : ConstFault) (r : Read) → HoldsWord r
    → HoldsWord (if b then Err f else r)
unless_word true f r w = tt
unless_word false f r w = w

abbrev pub AreWords : List Constant → Type 0
AreWords names = AllByRecursion (λ (c : Constant). IsWord c.word) names

pub named_word : (names : List Constant) (name : List ℕ) → AreWords names
    → IsWordOr (constant_named names name)
named_word [] name h = tt
named_word (c ∷ cs) name h =
    either (bytes_eq name c.name) h.0 (named_word cs name h.1)
  where
    either : (b : Bool) → IsWord c.word → IsWordOr (constant_named cs name)
        → IsWordOr (if b then Some c.word else constant_named cs name)
    either true w more = w
    either false w more = more

number_word : (ts : List Placed) (i : ℕ) → AreWordTokens ts
    → IsWord (placed_number (slice_get ts i))
number_word [] i h = zero_word
number_word (t ∷ ts) zero h = h.0
number_word (t ∷ ts) (suc i) h = number_word ts i h.1

abbrev TaskWord : Task → Type 0
TaskWord (Operand room place) = Unit {0}
TaskWord (Group level left) = IsWord left.word

abbrev Gives : (Task → Read) → Type 0
Gives go = (t : Task) → TaskWord t → HoldsWord (go t)

abbrev HoldsNext : Result Follows ConstFault → Type 0
HoldsNext (Ok f) = IsWordOr f.next
HoldsNext (Err fault) = Unit {0}

abbrev pub HoldsEntry : Result Entry ConstFault → Type 0
HoldsEntry (Ok e) = IsWord e.word × IsWordOr e.follows.next
HoldsEntry (Err fault) = Unit {0}

-- what is read in a list whose numbers are words, with constants that are words
module _ (list : Tokens) (numbers : AreWordTokens list.tokens) (names : List Constant)
    (known : AreWords names) where
  whole_word : (go : Task → Read) → Gives go → (level room place : ℕ)
      → HoldsWord (terms.read_whole go level room place)
  whole_word go gives level room place =
      then_word (go (Operand room place)) (λ t. go (Group level t))
      (gives (Operand room place) tt) (λ t w. gives (Group level t) w)

  closed_word : (room : ℕ) (t : Term) (p : Part) → IsWord t.word
      → HoldsWord (terms.closed_by list room t p)
  closed_word room t part.CloseRound w = w
  closed_word room t _ w = tt

  bracket_word : (go : Task → Read) → Gives go → (room place : ℕ)
      → HoldsWord (terms.read_bracket go list room place)
  bracket_word go gives room place =
      unless_word (room == 0) (too_deep list place)
      (terms.then_read (terms.read_whole go 6 (room - 1) (next_place list place))
      (terms.closed list room))
      (then_word (terms.read_whole go 6 (room - 1) (next_place list place)) (terms.closed list room)
      (whole_word go gives 6 (room - 1) (next_place list place))
      (λ t w. closed_word room t (part_at list t.place) w))

  unary_word : (go : Task → Read) → Gives go → (room place : ℕ) (o : Option Sign)
      → HoldsWord (terms.unary go list room place o)
  unary_word go gives room place None = tt
  unary_word go gives room place (Some s) =
      unless_word (room == 0) (too_deep list place)
      (terms.then_read (go (Operand (room - 1) (next_place list place)))
      (λ t. Ok (terms.signed s t)))
      (then_word (go (Operand (room - 1) (next_place list place))) (λ t. Ok (terms.signed s t))
      (gives (Operand (room - 1) (next_place list place)) tt) (λ t w. signed_word s t.word w))

  known_word : (room place : ℕ) (o : Option ℤ) → IsWordOr o
      → HoldsWord (terms.known_term list room place o)
  known_word room place None w = tt
  known_word room place (Some v) w = w

  operand_word : (go : Task → Read) → Gives go → (room place : ℕ) (p : Part)
      → HoldsWord (terms.read_operand go list names room place p)
  operand_word go gives room place part.Number =
      let word : ℤ = placed_number (slice_get list.tokens place) in
      unless_word (int_lt word (pos 0)) (bad_number list place)
      (Ok (record { word = word; room = room; place = next_place list place }))
      (number_word list.tokens place numbers)
  operand_word go gives room place part.Name =
      known_word room place (constant_named names (name_at list place))
      (named_word names (name_at list place) known)
  operand_word go gives room place part.OpenRound = bracket_word go gives room place
  operand_word go gives room place p = unary_word go gives room place (terms.constant_sign p)

  joined_word : (o : BinOp) (left right : Term) → IsWord left.word → IsWord right.word
      → HoldsWord (terms.joined list o left right)
  joined_word o left right wl wr =
      unless_word (terms.is_division o && (unsigned right.word == 0)) (bad_number list left.place)
      (Ok (record {
        word = applied o left.word right.word;
        room = right.room;
        place = right.place;
      })) (applied_word o left.word right.word wl wr)

  joined_on_word : (go : Task → Read) → Gives go → (level : ℕ) (left : Term) (o : BinOp)
      → IsWord left.word → HoldsWord (terms.joined_on go list level left o)
  joined_on_word go gives level left o w =
      then_word
      (terms.read_whole go (terms.constant_level o - 1) (left.room - 1)
      (next_place list left.place))
      (λ right. terms.then_read (terms.joined list o left right) (λ both. go (Group level both)))
      (whole_word go gives (terms.constant_level o - 1) (left.room - 1)
      (next_place list left.place))
      (λ right wr. then_word (terms.joined list o left right) (λ both. go (Group level both))
      (joined_word o left right w wr) (λ both wb. gives (Group level both) wb))

  grouped_word : (go : Task → Read) → Gives go → (level : ℕ) (left : Term) (o : Option BinOp)
      → IsWord left.word → HoldsWord (terms.grouped go list level left o)
  grouped_word go gives level left None w = w
  grouped_word go gives level left (Some o) w =
      unless_word (left.room == 0) (too_deep list left.place)
      (terms.joined_on go list level left o) (joined_on_word go gives level left o w)

  task_word : (go : Task → Read) → Gives go → Gives (terms.read_task go list names)
  task_word go gives (Operand room place) w =
      operand_word go gives room place (part_at list place)
  task_word go gives (Group level left) w =
      grouped_word go gives level left (terms.constant_operator level (part_at list left.place)) w

  read_word : (steps : ℕ) → Gives (read_value steps list names)
  unfolding read_value
  read_word zero task w = tt
  read_word (suc steps) task w = task_word (read_value steps list names) (read_word steps) task w

  ending_word : (place : ℕ) (p : Part) → HoldsNext (entries.ending_by list place p)
  ending_word place part.Semicolon = tt
  ending_word place _ = tt

  comma_word : (v : ℤ) (place : ℕ) (p : Part) → HoldsNext (entries.comma_by list v place p)
  comma_word v place part.CloseBrace =
      ending_word (next_place list place) (part_at list (next_place list place))
  comma_word v place _ = wrap_word _

  follows_word : (t : Term) (p : Part) → HoldsNext (entries.follows_by list t p)
  follows_word t part.Comma =
      comma_word t.word (next_place list t.place) (part_at list (next_place list t.place))
  follows_word t part.CloseBrace =
      ending_word (next_place list t.place) (part_at list (next_place list t.place))
  follows_word t _ = tt

  word_after : (next : ℤ) (place : ℕ) (p : Part) → IsWord next
      → HoldsWord (entries.value_by list names next place p)
  word_after next place part.Assign w = whole_word (read_value 64 list names) (read_word 64) 6 63
      (next_place list place)
  word_after next place _ w = w

  followed_word : (v : ℤ) (f : Result Follows ConstFault) → IsWord v → HoldsNext f
      → HoldsEntry (entries.with_follows v f)
  followed_word v (Ok f) w n = (w, n)
  followed_word v (Err fault) w n = tt

  valued_word : (r : Read) → HoldsWord r → HoldsEntry (entries.then_entry list r)
  valued_word (Ok t) w = followed_word t.word (entries.after_value list t) w
      (follows_word t (part_at list t.place))
  valued_word (Err fault) w = tt

  new_word : (next : ℤ) (place : ℕ) (o : Option ℤ) → IsWord next
      → HoldsEntry (entries.entry_new list names next place o)
  new_word next place (Some v) w = tt
  new_word next place None w =
      valued_word (entries.value_after list names next (next_place list place))
      (word_after next (next_place list place) (part_at list (next_place list place)) w)

  pub entry_word : (next : ℤ) (place : ℕ) (p : Part) → IsWord next
      → HoldsEntry (entries.entry_by list names next place p)
  entry_word next place part.Name w =
      new_word next place (constant_named names (name_at list place)) w
  entry_word next place _ w = tt
