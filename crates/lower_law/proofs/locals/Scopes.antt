-- Locals after declarations, assignments and the ends of scopes.
use Rattle.std.proofs.Common.{◌≡◌, ◌≢◌, ℕ, suc, ◌-◌, ◌≤◌, ℤ, Bool, true, false, List, [], ◌∷◌, ◌++◌}
use Rattle.std.proofs.Common.{length, refl, sym, ap, ◌∙◌, subst, arith}
use Rattle.std.specs.Prelude.{Option, Some, if◌then◌else◌, bytes_eq}
use Rattle.std.proofs.lemmas.Option.{none-some, same_Some}
use Rattle.c_types.specs.declared.value_type.ValueType.{ValueType}
use Rattle.c_meaning.specs.Locals.{Local, assigned, oldest, local_declared}
use Rattle.code_meaning.specs.Code.{register_at, put_register}
use Rattle.code_meaning.proofs.Registers.{at_put_same}
use Rattle.lower_law.proofs.runs.Paths.{at-put_other}
use Rattle.lower_law.proofs.locals.Locals.{Entry, entry_register, Holds, AreBelow, held_after}

abbrev pub Differs : ℕ → List Entry → Type 0
Differs r [] = Unit {0}
Differs r (e ∷ es) = (r ≢ e.register) × Differs r es

-- no two locals share a register
abbrev pub AreApart : List Entry → Type 0
AreApart [] = Unit {0}
AreApart (e ∷ es) = Differs e.register es × AreApart es

-- there may be more locals, the newest ones, than entries
pub record Over (es : List Entry) (ls : List Local) (regs : List ℤ) : Type 0 where
  pub top : List Local
  pub rest : List Local
  pub split : ls ≡ top ++ rest
  pub holds : Holds es rest regs

pub over : (es : List Entry) (ls : List Local) (regs : List ℤ) → Holds es ls regs → Over es ls regs
over es ls regs h = record { top = []; rest = ls; split = refl; holds = h }

pub over_less : (e : Entry) (es : List Entry) (ls : List Local) (regs : List ℤ)
    → Over (e ∷ es) ls regs → Over es ls regs
over_less e es ls regs h = less h.rest h.split h.holds
  where
    move : (top : List Local) (l : Local) (rest : List Local)
        → top ++ l ∷ rest ≡ (top ++ l ∷ []) ++ rest
    move [] l rest = refl
    move (x ∷ top) l rest = ap (λ xs. x ∷ xs) (move top l rest)

    less : (rest : List Local) → ls ≡ h.top ++ rest → Holds (e ∷ es) rest regs → Over es ls regs
    less [] split holds = absurd holds
    less (l ∷ rest) split holds = record {
      top = h.top ++ l ∷ [];
      rest = rest;
      split = split
          ∙ move h.top l rest;
      holds = holds.1;
    }

pub length_held : (es : List Entry) (ls : List Local) (regs : List ℤ) → Holds es ls regs
    → length ls ≡ length es
length_held [] [] regs h = refl
length_held [] (l ∷ ls) regs h = absurd h
length_held (e ∷ es) [] regs h = absurd h
length_held (e ∷ es) (l ∷ ls) regs h = ap suc (length_held es ls regs h.1)

length_more : (top rest : List Local) → length rest ≤ length (top ++ rest)
length_more [] rest = omega arith
length_more (x ∷ top) rest = omega (arith, length_more top rest)

oldest_rest : (top rest : List Local) → oldest (length rest) (top ++ rest) ≡ rest
oldest_rest [] rest = let e : length rest - length rest ≡ 0 = omega arith in rw e refl
oldest_rest (x ∷ top) rest =
    let le : length rest ≤ length (top ++ rest) = length_more top rest in
    let e : suc (length (top ++ rest)) - length rest ≡ suc (length (top ++ rest) - length rest) =
    omega (arith, le) in
    rw e (oldest_rest top rest)

-- the end of a scope leaves the locals from before it
pub scope_end : (n : ℕ) (es : List Entry) (ls : List Local) (regs : List ℤ) → n ≡ length es
    → Over es ls regs → Holds es (oldest n ls) regs
scope_end n es ls regs is h =
    let long : n ≡ length h.rest = is ∙ sym (length_held es h.rest regs h.holds) in
    subst (λ xs. Holds es xs regs)
    (sym (ap (oldest n) h.split ∙ ap (λ i. oldest i (h.top ++ h.rest)) long
    ∙ oldest_rest h.top h.rest)) h.holds

-- a new local in a register that no other has
pub declared_held : (b to : ℕ) (name : List ℕ) (ty : ValueType) (v : ℤ) (es : List Entry)
    (ls : List Local) (regs : List ℤ) → AreBelow b es → suc b ≤ to → Holds es ls regs
    → Holds (record { name = name; ty = ty; register = to } ∷ es) (local_declared name ty v ls)
    (put_register regs to v)
declared_held b to name ty v es ls regs under lt h = (
  record { name = refl; ty = refl; value = at_put_same regs to v },
  held_after b es ls regs (put_register regs to v) under (λ r small.
      at-put_other regs to r v (λ e. let same : to ≡ r = e in
      absurd (omega (arith, small, lt, same)))) h,
)

pub differs_below : (b to : ℕ) (es : List Entry) → AreBelow b es → suc b ≤ to → Differs to es
differs_below b to [] under lt = tt
differs_below b to (e ∷ es) under lt = (
  (λ is. let same : to ≡ e.register = is in absurd (omega (arith, lt, same, under.0))),
  differs_below b to es under.1 lt,
)

differs_found : (name : List ℕ) (q : ℕ) (es : List Entry) (r : ℕ) → Differs q es
    → entry_register name es ≡ Some r → r ≢ q
differs_found name q [] r d is = absurd (none-some r is)
differs_found name q (e ∷ es) r d is =
    by_test (bytes_eq name e.name) (entry_register name es)
    (λ rest. differs_found name q es r d.1 rest) is
  where
    by_test : (c : Bool) (o : Option ℕ) → (o ≡ Some r → r ≢ q) → (if c then Some e.register else o)
        ≡ Some r → r ≢ q
    by_test true o rest is same = d.0 (sym same ∙ sym (same_Some e.register r is))
    by_test false o rest is same = rest is same

held_put : (q : ℕ) (v : ℤ) (es : List Entry) (ls : List Local) (regs : List ℤ) → Differs q es
    → Holds es ls regs → Holds es ls (put_register regs q v)
held_put q v [] [] regs d h = tt
held_put q v [] (l ∷ ls) regs d h = absurd h
held_put q v (e ∷ es) [] regs d h = absurd h
held_put q v (e ∷ es) (l ∷ ls) regs d h = (
  record {
    name = h.0.name;
    ty = h.0.ty;
    value = at-put_other regs q e.register v d.0
        ∙ h.0.value;
  },
  held_put q v es ls regs d.1 h.1,
)

-- an assignment
pub assigned_held : (name : List ℕ) (r : ℕ) (v : ℤ) (es : List Entry) (ls : List Local)
    (regs : List ℤ) → AreApart es → entry_register name es ≡ Some r → Holds es ls regs
    → Holds es (assigned name v ls) (put_register regs r v)
assigned_held name r v [] ls regs apart is h = absurd (none-some r is)
assigned_held name r v (e ∷ es) [] regs apart is h = absurd h
assigned_held name r v (e ∷ es) (l ∷ ls) regs apart is h =
    subst (λ n. Holds (e ∷ es) (if bytes_eq name n
    then record { name = l.name; ty = l.ty; value = v } ∷ ls else l ∷ assigned name v ls)
    (put_register regs r v)) (sym h.0.name)
    (by_test (bytes_eq name e.name) (entry_register name es)
    (λ rest. assigned_held name r v es ls regs apart.1 rest h.1)
    (λ rest. differs_found name e.register es r apart.0 rest) is)
  where
    by_test : (b : Bool) (o : Option ℕ)
        → (o ≡ Some r → Holds es (assigned name v ls) (put_register regs r v))
        → (o ≡ Some r → r ≢ e.register) → (if b then Some e.register else o) ≡ Some r
        → Holds (e ∷ es) (if b then record { name = l.name; ty = l.ty; value = v } ∷ ls
        else l ∷ assigned name v ls) (put_register regs r v)
    by_test true o rest other is =
        let same : e.register ≡ r = same_Some e.register r is in (
          record {
            name = h.0.name;
            ty = h.0.ty;
            value = ap (register_at (put_register regs r v))
                same ∙ at_put_same regs r v;
          },
          held_put r v es ls regs (subst (λ q. Differs q es) same apart.0) h.1,
        )
    by_test false o rest other is = (
      record {
        name = h.0.name;
        ty = h.0.ty;
        value = at-put_other regs r e.register v (other is)
            ∙ h.0.value;
      },
      rest is,
    )
