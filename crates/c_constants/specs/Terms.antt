-- The value of an expression of constants, by the grammar:
--
--   cprimary = number | name | "(" cexpr ")"
--   cunary   = cprimary | ( "-" | "~" | "!" ) cunary
--   cexpr    = cunary { operator cunary }
--
-- where the operators bind by levels, 1 tightest, and group to the left. Reading goes from a place
-- on and stops before the first token that continues nothing; the first refusal ends it. The *room*
-- is what the weight may still grow: an opening bracket and an operator take one each, and after a
-- closing bracket it is what it was before the opening one.
use Rattle.std.specs.Prelude.{ℕ, ℤ, pos, negsuc, zero, suc, ◌-◌, ◌==◌, List, Option, Some}
use Rattle.std.specs.Prelude.{None, Result, Ok, Err, Bool, true, false, nat_le}
use Rattle.std.specs.Prelude.{if◌then◌else◌, ◌&&◌, int_lt}
use Rattle.c_lexer.specs.TokenList.{Tokens}
use Rattle.nvm_base.specs.Applied.{applied}
use Rattle.nvm_base.specs.Operations as word
use Rattle.nvm_base.specs.declared.op.BinOp.{BinOp}
use Rattle.nvm_base.specs.declared.op.BinOp.TheVariants as op
use Rattle.c_constants.specs.declared.fault.ConstFault.{ConstFault}
use Rattle.c_constants.specs.declared.name.Constant.{Constant}
use Rattle.c_constants.specs.declared.part.Part.{Part}
use Rattle.c_constants.specs.declared.part.Part.TheVariants as part
use Rattle.c_constants.specs.declared.term.Sign.{Sign}
use Rattle.c_constants.specs.declared.term.Sign.TheVariants as sign
use Rattle.c_constants.specs.declared.term.Term.{Term}
use Rattle.c_constants.specs.Names.{constant_named}
use Rattle.c_constants.specs.Parts.{part_at, name_at, token_number_at, next_place}
use Rattle.c_constants.specs.Parts.{syntax, too_deep, unknown_name, bad_number}

-- what has been read: its value, the room that is left, and the place after it; or the refusal
abbrev pub Read : Type 0
Read = Result Term ConstFault

abbrev pub then_read : Read → (Term → Read) → Read
then_read (Ok t) go = go t
then_read (Err fault) go = Err fault

abbrev pub constant_level : BinOp → ℕ
constant_level op.Mul = 1
constant_level op.Div = 1
constant_level op.Rem = 1
constant_level op.Add = 2
constant_level op.Sub = 2
constant_level op.Shl = 3
constant_level op.Shr = 3
constant_level op.And = 4
constant_level op.Xor = 5
constant_level _ = 6

-- the operator that a token is, if it is one of at most that level
abbrev pub constant_operator : ℕ → Part → Option BinOp
constant_operator level (part.Operator o) = if nat_le (constant_level o) level then Some o else None
constant_operator level _ = None

abbrev pub constant_sign : Part → Option Sign
constant_sign (part.Operator op.Sub) = Some sign.Negate
constant_sign part.Not = Some sign.Not
constant_sign part.Tilde = Some sign.Complement
constant_sign _ = None

abbrev pub signed_word : Sign → ℤ → ℤ
signed_word sign.Negate a = word.sub (pos 0) a
signed_word sign.Not a = word.eq a (pos 0)
signed_word sign.Complement a = word.xor_of (negsuc 0) a

abbrev pub signed : Sign → Term → Term
signed s t = record { word = signed_word s t.word; room = t.room; place = t.place }

abbrev pub is_division : BinOp → Bool
is_division op.Div = true
is_division op.Rem = true
is_division _ = false

-- two sides joined by the operator that stands after the left one
abbrev pub joined : Tokens → BinOp → Term → Term → Read
joined list o left right =
    if is_division o && (word.unsigned right.word == 0) then Err (bad_number list left.place)
    else Ok (record {
      word = applied o left.word right.word;
      room = right.room;
      place = right.place;
    })

-- a number, which must be at most 2^63 - 1: a greater one is a word below 0
abbrev pub number_term : Tokens → ℕ → ℕ → Read
number_term list room place = let word = token_number_at list place in
    if int_lt word (pos 0) then Err (bad_number list place)
    else Ok (record { word = word; room = room; place = next_place list place })

abbrev pub known_term : Tokens → ℕ → ℕ → Option ℤ → Read
known_term list room place None = Err (unknown_name list place)
known_term list room place (Some w) =
    Ok (record { word = w; room = room; place = next_place list place })

-- what is read up to the closing bracket, which must stand here
abbrev pub closed_by : Tokens → ℕ → Term → Part → Read
closed_by list room t part.CloseRound =
    Ok (record { word = t.word; room = room; place = next_place list t.place })
closed_by list room t _ = Err (syntax list t.place)

abbrev pub closed : Tokens → ℕ → Term → Read
closed list room t = closed_by list room t (part_at list t.place)

-- what is to be read: an operand, with this room from this place on; or, after what has been read,
-- the operators of at most this level with their right sides
pub data Task : Type 0 where
  Operand : (room place : ℕ) → Task
  Group : (level : ℕ) → Term → Task

-- an operand and what is joined to it by operators of at most a level; `go` reads its parts
abbrev pub read_whole : (Task → Read) → (level room place : ℕ) → Read
read_whole go level room place = then_read (go (Operand room place)) (λ t. go (Group level t))

abbrev pub read_bracket : (Task → Read) → Tokens → (room place : ℕ) → Read
read_bracket go list room place =
    if room == 0 then Err (too_deep list place)
    else then_read (read_whole go 6 (room - 1) (next_place list place)) (closed list room)

abbrev pub unary : (Task → Read) → Tokens → (room place : ℕ) → Option Sign → Read
unary go list room place None = Err (syntax list place)
unary go list room place (Some s) =
    if room == 0 then Err (too_deep list place)
    else then_read (go (Operand (room - 1) (next_place list place))) (λ t. Ok (signed s t))

abbrev pub read_operand : (Task → Read) → Tokens → List Constant → (room place : ℕ) → Part → Read
read_operand go list names room place part.Number = number_term list room place
read_operand go list names room place part.Name =
    known_term list room place (constant_named names (name_at list place))
read_operand go list names room place part.OpenRound = read_bracket go list room place
read_operand go list names room place p = unary go list room place (constant_sign p)

-- the right side of an operator binds tighter than it
abbrev pub joined_on : (Task → Read) → Tokens → (level : ℕ) → Term → BinOp → Read
joined_on go list level left o =
    then_read (read_whole go (constant_level o - 1) (left.room - 1) (next_place list left.place))
    (λ right. then_read (joined list o left right) (λ both. go (Group level both)))

abbrev pub grouped : (Task → Read) → Tokens → (level : ℕ) → Term → Option BinOp → Read
grouped go list level left None = Ok left
grouped go list level left (Some o) =
    if left.room == 0 then Err (too_deep list left.place)
    else joined_on go list level left o

abbrev pub read_task : (Task → Read) → Tokens → List Constant → Task → Read
read_task go list names (Operand room place) =
    read_operand go list names room place (part_at list place)
read_task go list names (Group level left) =
    grouped go list level left (constant_operator level (part_at list left.place))

-- the reading of a task. Each part has less room than its whole, so that more steps than the room
-- are enough.
unfoldable pub read_value : (steps : ℕ) → Tokens → List Constant → Task → Read
read_value zero list names task = Err (syntax list 0)
read_value (suc steps) list names task = read_task (read_value steps list names) list names task

-- a constant's expression: its weight begins at 1, that of the definition's brace
abbrev pub expression : Tokens → List Constant → (place : ℕ) → Read
expression list names place = read_whole (read_value 64 list names) 6 63 place
