-- The tree's locals and the code's registers. An entry gives a local's name, its type and its
-- register; entries are in the order of the locals, newest first.
use Rattle.std.proofs.Common.{◌≡◌, ℕ, ◌≤◌, ℤ, Bool, true, false, List, [], ◌∷◌, refl, sym, ap, ◌∙◌}
use Rattle.std.proofs.Common.{arith}
use Rattle.std.specs.Prelude.{Option, None, Some, if◌then◌else◌, bytes_eq, unwrap_or}
use Rattle.std.proofs.lemmas.Option.{none-some, same_Some}
use Rattle.c_types.specs.declared.value_type.ValueType.{ValueType}
use Rattle.c_types.specs.Expressions.{Scope, variable_type}
use Rattle.c_meaning.specs.Locals.{Local, scopes_of, value_named}
use Rattle.lower.specs.Names.{Variables, variable_register, register_of, nowhere}
use Rattle.code_meaning.specs.Code.{register_at}

pub record Entry : Type 0 where
  pub name : List ℕ
  pub ty : ValueType
  pub register : ℕ

abbrev pub entry_type : List ℕ → List Entry → Option ValueType
entry_type name [] = None
entry_type name (e ∷ es) = if bytes_eq name e.name then Some e.ty else entry_type name es

abbrev pub entry_register : List ℕ → List Entry → Option ℕ
entry_register name [] = None
entry_register name (e ∷ es) = if bytes_eq name e.name then Some e.register
    else entry_register name es

abbrev pub scopes_in : List Entry → List Scope
scopes_in [] = []
scopes_in (e ∷ es) = record { names = e.name ∷ []; types = e.ty ∷ [] } ∷ scopes_in es

-- each name means the same entry
abbrev pub Agrees : Variables → List Entry → Type 0
Agrees v es = (name : List ℕ) → (variable_type name v.scopes ≡ entry_type name es)
    × (variable_register name v.locals ≡ entry_register name es)

pub record IsHeld (e : Entry) (l : Local) (regs : List ℤ) : Type 0 where
  pub name : l.name ≡ e.name
  pub ty : l.ty ≡ e.ty
  pub value : register_at regs e.register ≡ l.value

-- the registers hold the locals
abbrev pub Holds : List Entry → List Local → List ℤ → Type 0
Holds [] [] regs = Unit {0}
Holds [] (l ∷ ls) regs = ⊥
Holds (e ∷ es) [] regs = ⊥
Holds (e ∷ es) (l ∷ ls) regs = IsHeld e l regs × Holds es ls regs

abbrev pub AreBelow : ℕ → List Entry → Type 0
AreBelow b [] = Unit {0}
AreBelow b (e ∷ es) = (e.register ≤ b) × AreBelow b es

-- the registers up to b are unchanged
abbrev pub Same : ℕ → List ℤ → List ℤ → Type 0
Same b regs regs' = (r : ℕ) → r ≤ b → register_at regs' r ≡ register_at regs r

pub value_held : (name : List ℕ) (es : List Entry) (ls : List Local) (regs : List ℤ) (r : ℕ)
    → Holds es ls regs → entry_register name es ≡ Some r → register_at regs r ≡ value_named name ls
value_held name [] ls regs r h is = absurd (none-some r is)
value_held name (e ∷ es) [] regs r h is = absurd h
value_held name (e ∷ es) (l ∷ ls) regs r h is =
    rw h.0.name (by_test (bytes_eq name e.name) (entry_register name es) h.0.value
    (λ rest. value_held name es ls regs r h.1 rest) is)
  where
    by_test : (b : Bool) (o : Option ℕ) → register_at regs e.register ≡ l.value
        → (o ≡ Some r → register_at regs r ≡ value_named name ls)
        → (if b then Some e.register else o)
        ≡ Some r → register_at regs r ≡ (if b then l.value else value_named name ls)
    by_test true o held rest is = ap (register_at regs) (sym (same_Some e.register r is)) ∙ held
    by_test false o held rest is = rest is

pub held_after : (b : ℕ) (es : List Entry) (ls : List Local) (regs regs' : List ℤ) → AreBelow b es
    → Same b regs regs' → Holds es ls regs → Holds es ls regs'
held_after b [] [] regs regs' below same h = tt
held_after b [] (l ∷ ls) regs regs' below same h = absurd h
held_after b (e ∷ es) [] regs regs' below same h = absurd h
held_after b (e ∷ es) (l ∷ ls) regs regs' below same h = (
  record { name = h.0.name; ty = h.0.ty; value = same e.register below.0 ∙ h.0.value },
  held_after b es ls regs regs' below.1 same h.1,
)

pub below_more : (b c : ℕ) (es : List Entry) → b ≤ c → AreBelow b es → AreBelow c es
below_more b c [] le h = tt
below_more b c (e ∷ es) le h = (omega (arith, le, h.0), below_more b c es le h.1)

pub entry_below : (b : ℕ) (name : List ℕ) (es : List Entry) (r : ℕ) → AreBelow b es
    → entry_register name es ≡ Some r → r ≤ b
entry_below b name [] r h is = absurd (none-some r is)
entry_below b name (e ∷ es) r h is =
    by_test (bytes_eq name e.name) (entry_register name es) h.0
    (λ rest. entry_below b name es r h.1 rest) is
  where
    by_test : (c : Bool) (o : Option ℕ) → e.register ≤ b → (o ≡ Some r → r ≤ b)
        → (if c then Some e.register else o) ≡ Some r → r ≤ b
    by_test true o le rest is = let same : e.register ≡ r = same_Some e.register r is in
        omega (arith, le, same)
    by_test false o le rest is = rest is

pub scopes_held : (es : List Entry) (ls : List Local) (regs : List ℤ) → Holds es ls regs
    → scopes_of ls ≡ scopes_in es
scopes_held [] [] regs h = refl
scopes_held [] (l ∷ ls) regs h = absurd h
scopes_held (e ∷ es) [] regs h = absurd h
scopes_held (e ∷ es) (l ∷ ls) regs h = rw (h.0.name, h.0.ty, scopes_held es ls regs h.1) refl

-- the register that a name means in the code
pub register_found : (v : Variables) (es : List Entry) (name : List ℕ) (r : ℕ) → Agrees v es
    → entry_register name es ≡ Some r → register_of name v ≡ r
register_found v es name r agrees is =
    ap (λ (o : Option ℕ). unwrap_or o nowhere) ((agrees name).1 ∙ is)
