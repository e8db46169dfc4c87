-- The meaning of the fragment: a step is one statement. `Undefined` is what C gives no meaning: a
-- variable that isn't declared, a label that isn't there, a function that isn't there or has
-- another number of parameters, and running out of the code.
--
-- What a function of the runtime does to the pool's words is given here, and so is its result;
-- that its own text does so isn't said here.
use Rattle.std.specs.Prelude.{ℕ, ◌+◌, ◌-◌, ◌*◌, ◌/◌, ◌%◌, ◌^◌, ◌==◌, List, [], ◌∷◌, ◌++◌, length}
use Rattle.std.specs.Prelude.{map, pos}
use Rattle.std.specs.Prelude.{slice_get, slice_index_or, Option, Some, None, Bool, not, ◌&&◌}
use Rattle.std.specs.Prelude.{if◌then◌else◌, nat_le, nat_lt, bit_and, bit_or, bit_xor}
use Rattle.std.specs.Int.{w64, cast_signed}
use Rattle.std.specs.List.{list_all}
use Rattle.nvm_base.specs.Operations.{unsigned}
use Rattle.nvm_base.specs.Applied.{applied}
use Rattle.nvm_base.specs.declared.op.BinOp.TheVariants as operations
use Rattle.pool_layout.specs.declared.limits.Sizes.{Sizes}
use Rattle.pool_layout.specs.Sizes.{heap_words}
use Rattle.pm_machine.specs.Find.{least}
use Rattle.pm_machine.specs.Logging.{unlisted, rolled, has_room}
use Rattle.c_fragment.specs.Statement.{Operator, Plus, Minus, Times, Both, Either, OneOf, Equal}
use Rattle.c_fragment.specs.Statement.{Unequal, Below, Quotient, Remainder, ShiftLeft, ShiftRight}
use Rattle.c_fragment.specs.Statement.{Less, LessOrEqual, BelowOrEqual, PlainQuotient}
use Rattle.c_fragment.specs.Statement.{PlainRemainder, PlainShift}
use Rattle.c_fragment.specs.Statement.{Statement, SetWord, SetCopy, SetOperation}
use Rattle.c_fragment.specs.Statement.{Goto, GotoIfZero, SetLoad, StoreAt, SetFree, LogAt}
use Rattle.c_fragment.specs.Statement.{FlushFirst, FenceAll, SetCall, TakeTick, TrapWith}
use Rattle.c_fragment.specs.Statement.{ReturnWith, CFunction}
use Rattle.c_fragment.specs.State.{Waiting, CState, PoolStep, Stored, Recorded, Flushed}
use Rattle.c_fragment.specs.State.{Fenced, state_at, state_past, with_register, with_store}
use Rattle.c_fragment.specs.State.{with_noted, with_tick, with_flushed, variables_of, with_callee}
use Rattle.c_fragment.specs.State.{with_result}

-- A statement has the runtime do these steps and goes on, or it ends the run: with a value of the
-- function that was called first, or with a trap. After a trap each open function returns at once.
pub data CStep : Type 0 where
  Goes : List PoolStep → CState → CStep
  Returns : (v : ℕ) → CStep
  Traps : (k : ℕ) → CStep
  Undefined : CStep

abbrev pub one_if : Bool → ℕ
one_if holds = if holds then 1 else 0

-- C11, 6.2.5: a result of unsigned numbers is taken modulo 2^64
abbrev pub c_value : Operator → (a b : ℕ) → ℕ
c_value Plus a b = (a + b) % 2 ^ 64
c_value Minus a b = (a + (2 ^ 64 - b)) % 2 ^ 64
c_value Times a b = a * b % 2 ^ 64
c_value Both a b = bit_and a b
c_value Either a b = bit_or a b
c_value OneOf a b = bit_xor a b
c_value Equal a b = one_if (a == b)
c_value Unequal a b = one_if (not (a == b))
c_value Below a b = one_if (nat_lt a b)
c_value Quotient a b = unsigned (applied operations.Div (cast_signed w64 a) (cast_signed w64 b))
c_value Remainder a b = unsigned (applied operations.Rem (cast_signed w64 a) (cast_signed w64 b))
c_value ShiftLeft a b = unsigned (applied operations.Shl (cast_signed w64 a) (cast_signed w64 b))
c_value ShiftRight a b = unsigned (applied operations.Shr (cast_signed w64 a) (cast_signed w64 b))
c_value Less a b = unsigned (applied operations.Lt (cast_signed w64 a) (cast_signed w64 b))
c_value LessOrEqual a b = unsigned (applied operations.Le (cast_signed w64 a) (cast_signed w64 b))
c_value BelowOrEqual a b = one_if (nat_le a b)
c_value PlainQuotient a b = if b == 0 then 0 else a / b
c_value PlainRemainder a b = if b == 0 then 0 else a % b
c_value PlainShift a b = a / 2 ^ (b % 64)

-- what is done with a variable's value
abbrev pub using_value : Option ℕ → (ℕ → CStep) → CStep
using_value None more = Undefined
using_value (Some v) more = more v

abbrev pub assign : CState → (r v : ℕ) → CStep
assign c r v = if nat_lt r (length c.registers) then Goes [] (with_register c r v) else Undefined

-- goes to a label of a function of n statements
abbrev pub jump_to : (n : ℕ) → CState → ℕ → CStep
jump_to n c t = if nat_lt t n then Goes [] (state_at c t) else Undefined

abbrev pub address_of : (a o : ℕ) → ℕ
address_of a o = (a + o) % 2 ^ 64

-- cn_load_at
abbrev pub word_loaded : Sizes → CState → ℕ → ℕ
word_loaded z c x = if nat_lt x (heap_words z) then c.heap x else 0

-- cn_find: the least free slot, or 0
abbrev pub slot_found : Sizes → CState → ℕ
slot_found z c = least z (λ w. pos (c.heap w))

-- cn_log: the record of a word, if it takes one
abbrev pub recorded : Option ℕ → List PoolStep
recorded None = []
recorded (Some w) = Recorded w ∷ []

-- These steps lead to this state, after the record. A log without room for it ends the run.
abbrev pub after_record : Sizes → Option ℕ → List PoolStep → CState → CStep
after_record z w ps c = if has_room z.records c.logging w
    then Goes (recorded w ++ ps) (with_noted c w) else Traps 7

-- cn_store_at: in a call that rolls back it asks for a record
abbrev pub word_stored : Sizes → CState → (x v : ℕ) → CStep
word_stored z c x v = if nat_lt x (heap_words z)
    then after_record z (unlisted c.logging.words (rolled c.logging.policy x)) (Stored x v ∷ [])
    (with_store c x v) else Goes [] (state_past c)

-- cn_log_at
abbrev pub word_logged : Sizes → CState → ℕ → CStep
word_logged z c x = if nat_lt x (heap_words z)
    then after_record z (unlisted c.logging.words (Some x)) [] (state_past c)
    else Goes [] (state_past c)

-- cn_flush_first, and the jump to t where there was a line
abbrev pub flush_first : (n : ℕ) → CState → (t : ℕ) → List ℕ → CStep
flush_first n c t [] = Goes [] (state_past c)
flush_first n c t (l ∷ ls) =
    if nat_lt t n then Goes (Flushed l ∷ []) (with_flushed c t ls) else Undefined

-- 256 functions may be open
abbrev pub function_entered : CState → (r f : ℕ) → List ℕ → Option CFunction → CStep
function_entered c r f args None = Undefined
function_entered c r f args (Some u) = if u.parameters == length args
    then (if length c.waiting + 1 == 256 then Traps 8
    else Goes [] (with_callee c r f (variables_of u args))) else Undefined

-- a call of function f with these variables as arguments, its result to register r
abbrev pub call_done : List CFunction → CState → (r f : ℕ) → List ℕ → CStep
call_done us c r f args = if nat_lt r (length c.registers)
    && list_all (λ a. nat_lt a (length c.registers)) args
    then function_entered c r f (map (λ a. slice_index_or c.registers a 0) args) (slice_get us f)
    else Undefined

abbrev pub function_left : CState → (v : ℕ) → List Waiting → CStep
function_left c v [] = Returns v
function_left c v (w ∷ ws) = Goes [] (with_result c v w ws)

-- one statement of a function of n statements, in a file of functions
abbrev pub c_does : Sizes → List CFunction → (n : ℕ) → CState → Statement → CStep
c_does z us n c (SetWord r v) = assign c r v
c_does z us n c (SetCopy r a) = using_value (slice_get c.registers a) (λ x. assign c r x)
c_does z us n c (SetOperation op r a b) =
    using_value (slice_get c.registers a)
    (λ x. using_value (slice_get c.registers b) (λ y. assign c r (c_value op x y)))
c_does z us n c (Goto t) = jump_to n c t
c_does z us n c (GotoIfZero a t) =
    using_value (slice_get c.registers a)
    (λ x. if x == 0 then jump_to n c t else Goes [] (state_past c))
c_does z us n c (SetLoad r a o) =
    using_value (slice_get c.registers a) (λ x. assign c r (word_loaded z c (address_of x o)))
c_does z us n c (StoreAt a o b) =
    using_value (slice_get c.registers a)
    (λ x. using_value (slice_get c.registers b) (λ y. word_stored z c (address_of x o) y))
c_does z us n c (LogAt a o) =
    using_value (slice_get c.registers a) (λ x. word_logged z c (address_of x o))
c_does z us n c FenceAll = Goes (Fenced ∷ []) (state_past c)
c_does z us n c TakeTick = if c.ticks == 0 then Traps 5 else Goes [] (with_tick c)
c_does z us n c (TrapWith k) = Traps k
c_does z us n c (SetFree r) = assign c r (slot_found z c)
c_does z us n c (FlushFirst t) = flush_first n c t c.dirty
c_does z us n c (SetCall r f args) = call_done us c r f args
c_does z us n c (ReturnWith a) =
    using_value (slice_get c.registers a) (λ v. function_left c v c.waiting)

abbrev pub statement_done : Sizes → List CFunction → (n : ℕ) → CState → Option Statement
    → CStep
statement_done z us n c None = Undefined
statement_done z us n c (Some s) = c_does z us n c s

abbrev pub done_in : Sizes → List CFunction → CState → Option CFunction → CStep
done_in z us c None = Undefined
done_in z us c (Some u) = statement_done z us (length u.code) c (slice_get u.code c.place)

-- one step of a file of functions
abbrev pub c_step : Sizes → List CFunction → CState → CStep
c_step z us c = done_in z us c (slice_get us c.function)
