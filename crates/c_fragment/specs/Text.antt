-- The text of the fragment.
use Rattle.std.specs.Prelude.{ℕ, zero, suc, ◌+◌, ◌-◌, List, [], ◌∷◌, ◌++◌, codes, flat_map}
use Rattle.std.specs.Fmt.{decimal}
use Rattle.c_fragment.specs.Statement.{Operator, Plus, Minus, Times, Both, Either, OneOf, Equal}
use Rattle.c_fragment.specs.Statement.{Unequal, Below, Quotient, Remainder, ShiftLeft, ShiftRight}
use Rattle.c_fragment.specs.Statement.{Less, LessOrEqual, BelowOrEqual, PlainQuotient}
use Rattle.c_fragment.specs.Statement.{PlainRemainder, PlainShift}
use Rattle.c_fragment.specs.Statement.{Statement, SetWord, SetCopy, SetOperation}
use Rattle.c_fragment.specs.Statement.{Goto, GotoIfZero, SetLoad, StoreAt, SetFree, LogAt}
use Rattle.c_fragment.specs.Statement.{FlushFirst, FenceAll, SetCall, TakeTick, TrapWith}
use Rattle.c_fragment.specs.Statement.{ReturnWith, CFunction}

-- Each piece is followed by what comes after it, so that a whole text is one list of pieces.

-- `first R[a] middle R[b] last`
abbrev pub operation : (first middle last : List ℕ) → (a b : ℕ) → List ℕ
operation first middle last a b =
    first ++ (codes "r" ++ (decimal a ++ (middle ++ (codes "r" ++ (decimal b ++ last)))))

abbrev pub spaced : List ℕ → (a b : ℕ) → List ℕ
spaced sign a b = operation [] sign (codes ";") a b

abbrev pub helper : List ℕ → (a b : ℕ) → List ℕ
helper name a b = operation name (codes ", ") (codes ");") a b

abbrev pub operation_text : Operator → (a b : ℕ) → List ℕ
operation_text Plus a b = spaced (codes " + ") a b
operation_text Minus a b = spaced (codes " - ") a b
operation_text Times a b = spaced (codes " * ") a b
operation_text Both a b = spaced (codes " & ") a b
operation_text Either a b = spaced (codes " | ") a b
operation_text OneOf a b = spaced (codes " ^ ") a b
operation_text Equal a b = spaced (codes " == ") a b
operation_text Unequal a b = spaced (codes " != ") a b
operation_text Below a b = spaced (codes " < ") a b
operation_text Quotient a b = helper (codes "cn_div0(") a b
operation_text Remainder a b = helper (codes "cn_rem0(") a b
operation_text ShiftLeft a b = helper (codes "cn_shl(") a b
operation_text ShiftRight a b = helper (codes "cn_shr(") a b
operation_text Less a b = helper (codes "cn_lt(") a b
operation_text LessOrEqual a b = helper (codes "cn_le(") a b
operation_text BelowOrEqual a b = spaced (codes " <= ") a b
operation_text PlainQuotient a b = helper (codes "cn_udiv0(") a b
operation_text PlainRemainder a b = helper (codes "cn_urem0(") a b
operation_text PlainShift a b = helper (codes "cn_ushr(") a b

-- `rA + UINT64_C(o)` and a bracket
abbrev pub address : (a o : ℕ) → List ℕ → List ℕ
address a o more =
    codes "r" ++ (decimal a ++ (codes " + UINT64_C(" ++ (decimal o ++ (codes ")" ++ more))))

abbrev pub argument : ℕ → List ℕ
argument a = codes ", r" ++ decimal a

-- sets a register by what is called or computed
abbrev pub setting : ℕ → List ℕ → List ℕ
setting r value = codes "r" ++ (decimal r ++ (codes " = " ++ value))

-- a call up to its arguments, and after them
unfoldable pub opening : (r f : ℕ) → List ℕ
opening r f =
    codes "if (p->open == 256) { t = 8; goto T; } p->open++; r" ++ (decimal r
    ++ (codes " = cn_f" ++ (decimal f ++ codes "(p")))

abbrev pub closing : List ℕ
closing = codes "); p->open--; if (p->trap != 0) return 0;"

abbrev pub printed : Statement → List ℕ
printed (SetWord r v) = setting r (codes "UINT64_C(" ++ (decimal v ++ codes ");"))
printed (SetCopy r a) = setting r (codes "r" ++ (decimal a ++ codes ";"))
printed (SetOperation op r a b) = setting r (operation_text op a b)
printed (Goto t) = codes "goto L" ++ (decimal t ++ codes ";")
printed (GotoIfZero a t) =
    codes "if (r" ++ (decimal a ++ (codes " == 0) goto L" ++ (decimal t ++ codes ";")))
printed (SetLoad r a o) = setting r (codes "cn_load_at(p, " ++ address a o (codes ");"))
printed (StoreAt a o b) =
    codes "if (cn_store_at(p, " ++ address a o
    (codes ", r" ++ (decimal b ++ codes ")) { t = 7; goto T; }"))
printed (SetFree r) = setting r (codes "cn_find(p);")
printed (LogAt a o) = codes "if (cn_log_at(p, " ++ address a o (codes ")) { t = 7; goto T; }")
printed (FlushFirst t) = codes "if (cn_flush_first(p)) goto L" ++ (decimal t ++ codes ";")
printed FenceAll = codes "cn_fence(p);"
printed (SetCall r f args) = opening r f ++ (flat_map argument args ++ closing)
printed TakeTick = codes "if (p->ticks == 0) { t = 5; goto T; } p->ticks--;"
printed (TrapWith k) = codes "t = " ++ (decimal k ++ codes "; goto T;")
printed (ReturnWith a) = codes "return r" ++ (decimal a ++ codes ";")

-- the statements from label p on
abbrev pub lines_from : ℕ → List Statement → List ℕ
lines_from p [] = []
lines_from p (s ∷ ss) =
    codes "L" ++ (decimal p ++ (codes ": " ++ (printed s ++ (codes "\n" ++ lines_from (p + 1) ss))))

-- n parameters from register r on
abbrev pub parameters_from : (r n : ℕ) → List ℕ
parameters_from r zero = []
parameters_from r (suc n) =
    codes ", uint64_t r" ++ (decimal r ++ parameters_from (r + 1) n)

-- n more registers from register r on
abbrev pub registers_from : (r n : ℕ) → List ℕ
registers_from r zero = []
registers_from r (suc n) =
    codes "    uint64_t r" ++ (decimal r ++ (codes " = 0;\n" ++ registers_from (r + 1) n))

-- the head of function f, of n parameters, over pools of the program called prefix
unfoldable pub signature : List ℕ → (f n : ℕ) → List ℕ
signature prefix f n =
    codes "static uint64_t cn_f" ++ (decimal f ++ (codes "(struct " ++ (prefix
    ++ (codes "_pool *p" ++ (parameters_from 0 n ++ codes ")")))))

unfoldable pub function_text : List ℕ → ℕ → CFunction → List ℕ
function_text prefix f u =
    signature prefix f u.parameters ++ (codes " {\n"
    ++ (registers_from u.parameters (u.registers - u.parameters) ++ (codes "    uint64_t t = 0;\n"
    ++ (lines_from 0 u.code ++ codes "T: p->trap = t;\n    return 0;\n}\n"))))

-- the heads of functions from function f on
abbrev pub heads_from : List ℕ → ℕ → List CFunction → List ℕ
heads_from prefix f [] = []
heads_from prefix f (u ∷ us) =
    signature prefix f u.parameters ++ (codes ";\n" ++ heads_from prefix (f + 1) us)

abbrev pub bodies_from : List ℕ → ℕ → List CFunction → List ℕ
bodies_from prefix f [] = []
bodies_from prefix f (u ∷ us) = function_text prefix f u ++ bodies_from prefix (f + 1) us

-- each function's head, and then each function
abbrev pub functions_text : List ℕ → List CFunction → List ℕ
functions_text prefix us = heads_from prefix 0 us ++ bodies_from prefix 0 us
