-- The derivations of an expression from a place on, by production: what remains to derive.
use Rattle.std.proofs.Common.{ℕ, zero, suc, ◌+◌, ◌-◌, ◌≡◌, ◌≢◌, ◌<◌, ◌⊎◌, inl, inr, List, [], ◌∷◌}
use Rattle.std.proofs.Common.{length, Some, None, Bool, true, false, nat_eq, if◌then◌else◌, refl}
use Rattle.std.proofs.Common.{sym, ap, ◌∙◌, subst, arith, Result, Ok, Err, IfOk}
use Rattle.c_tree.specs.declared.expr.Expr.{Expr}
use Rattle.std.proofs.lemmas.Bool.{eqb-true}
use Rattle.c_lexer.specs.declared.token.Placed.{Placed}
use Rattle.c_tree.specs.declared.expr.BinaryOp.{BinaryOp}
use Rattle.c_tree.specs.declared.expr.IntType.{IntType}
use Rattle.c_tree.specs.declared.expr.UnaryOp.{UnaryOp}
use Rattle.c_tree.specs.declared.expr.UnaryOp.TheVariants as unary
use Rattle.c_tree.specs.declared.kind.Kind.{Kind}
use Rattle.c_tree.specs.declared.kind.Kind.TheVariants as kind
use Rattle.c_tree.specs.Kinds.{kind_at, ident_at, value_at}
use Rattle.c_tree.specs.Operators.{op_at, sign_of, level_of}
use Rattle.c_tree.specs.ExprTree.{ExprTree, Ident, expr_of}
use Rattle.c_tree.specs.ExprTree as tree
use Rattle.c_tree.specs.inside.ExprTree as inside_tree
use Rattle.c_tree.specs.Spelling.{Expression, unconditional, conditional, Level, level_zero}
use Rattle.c_tree.specs.Spelling.{level_suc, Chain, chain_end, chain_more, Unary, signed, cast}
use Rattle.c_tree.specs.Spelling.{unsigned, Postfix, postfix, Parts, parts_end, field}
use Rattle.c_tree.specs.Spelling.{element, Primary, number, null, variable, call, root, new}
use Rattle.c_tree.specs.Spelling.{brackets, SpellsArguments, no_arguments, arguments, MoreArguments}
use Rattle.c_tree.specs.Spelling.{no_more, more}
use Rattle.c_parser.specs.inside.Fixes.{Fixes, DerivesFrom, IsFollowed, Over, Uncalled}
use Rattle.c_parser.specs.inside.Pieces.{FromCondition, sides, FromWord, cast_from, cast_of}
use Rattle.c_parser.proofs.Steps.{IsToken}
use Rattle.c_parser.proofs.Forward.{Begins, expression_begins}
use Rattle.c_tree.proofs.Trees.{followed_by-nothing, followed_by-one_more, expr_of-Call}

-- the place of a token is within the list
pub inside : (ts : List Placed) (i : ℕ) → IsToken (kind_at ts i) → i < length ts
inside [] zero h = absurd h
inside [] (suc i) h = absurd h
inside (x ∷ xs) zero h = omega arith
inside (x ∷ xs) (suc i) h = let g : i < length xs = inside xs i h in omega arith

pub inside_at : (ts : List Placed) (i : ℕ) (t : Kind) → kind_at ts i ≡ t → IsToken t → i < length ts
inside_at ts i t is token = inside ts i (subst IsToken (sym is) token)

-- a derivation that leads to a fixed one is fixed
pub led : {A : Type 0} (P Q : ℕ → A → Type 0) (j : ℕ) (e : A) → DerivesFrom P Q → Fixes Q j e
    → Fixes P j e
led P Q j e leads fixes = record { same = λ k t h. fixes.same k t (leads.on k t h) }

less_over : (l : ℕ) (k : Kind) → Over (suc l) k → Over l k
less_over l (kind.Operator o) h = omega (arith, h)
less_over l kind.Question h = omega (arith, h)
less_over l kind.Arrow h = h
less_over l kind.OpenSquare h = h
less_over l kind.OpenRound h = h
less_over l _ h = tt

if_level : (b : Bool) (p o : BinaryOp) → (if b then Some p else None) ≡ Some o → b ≡ true
if_level true p o h = refl
if_level false p o h = cc

operator_over : (l : ℕ) (k : Kind) (o : BinaryOp) → op_at (suc l) k ≡ Some o → Over l k
operator_over l (kind.Operator p) o h =
    let e : level_of p ≡ suc l = eqb-true (level_of p) (suc l)
    (if_level (nat_eq (level_of p) (suc l)) p o h) in
    omega arith
operator_over l _ o h = cc

pub over_at : (l : ℕ) (k t : Kind) → k ≡ t → Over l t → Over l k
over_at l k t is h = subst (Over l) (sym is) h

chain_over : {ts : List Placed} {l i j : ℕ} {a e : ExprTree} → Chain ts l i j a e
    → Over (suc l) (kind_at ts j) → Over l (kind_at ts i)
chain_over {ts} {l} {i} chain_end over = less_over l (kind_at ts i) over
chain_over {ts} {l} {i} (chain_more o is b c) over = operator_over l (kind_at ts i) o is

-- the levels of binary operators
level_down : {ts : List Placed} {i k : ℕ} {t : ExprTree} → Level ts zero i k t → Unary ts i k t
level_down (level_zero u) = u

pub level_to_unary : (ts : List Placed) (l i : ℕ) → l ≡ 0
    → DerivesFrom (IsFollowed ts (Over l) (Level ts l i)) (IsFollowed ts (Over 0) (Unary ts i))
level_to_unary ts zero i e = record {
  on = λ k t h.
      record { spelled = level_down h.spelled; following = h.following };
}
level_to_unary ts (suc l) i e = absurd (cc)

level_taken : {ts : List Placed} {l i k m : ℕ} {a t : ExprTree}
    → Fixes (IsFollowed ts (Over l) (Level ts l i)) m a
    → Level ts (suc l) i k t → Over (suc l) (kind_at ts k) → Chain ts l m k a t
level_taken {ts} {l} {k = k} {a = a} {t = t} fixes (level_suc {m = n} {a = b} first chain) over =
    let e = fixes.same n b (record { spelled = first; following = chain_over chain over }) in
    subst (λ n. Chain ts l n k a t) (sym e.0) (subst (λ b. Chain ts l n k b t) (sym e.1) chain)

-- an answer that is passed on
pub led_expr : {E : Type 0} (r : Result (Expr × ℕ) E) (P Q : ℕ → ExprTree → Type 0)
    → IfOk r (λ r. Fixes Q r.1 (expr_of r.0)) → DerivesFrom P Q
    → IfOk r (λ r. Fixes P r.1 (expr_of r.0))
led_expr (Ok x) P Q h leads = led P Q x.1 (expr_of x.0) leads h
led_expr (Err e) P Q h leads = tt

pub chain_begins : (ts : List Placed) (l i m : ℕ) (a : ExprTree) → l ≢ 0
    → Fixes (IsFollowed ts (Over (l - 1)) (Level ts (l - 1) i)) m a
    → DerivesFrom (IsFollowed ts (Over l) (Level ts l i))
    (IsFollowed ts (Over l) (λ k t. Chain ts (l - 1) m k a t))
chain_begins ts zero i m a some fixes = absurd (some refl)
chain_begins ts (suc l) i m a some fixes =
    let n : suc l - 1 ≡ l = omega arith in
    let f : Fixes (IsFollowed ts (Over l) (Level ts l i)) m a =
    subst (λ l. Fixes (IsFollowed ts (Over l) (Level ts l i)) m a) n fixes in
    record {
      on = λ k t h. record {
        spelled = subst (λ l. Chain ts l m k a t) (sym n)
            (level_taken f h.spelled h.following);
        following = h.following;
      };
    }

chain_taken : {ts : List Placed} {l i k n m : ℕ} {a b t : ExprTree} (o : BinaryOp)
    → op_at (suc l) (kind_at ts i) ≡ Some o → (i < length ts → n ≡ i + 1)
    → Fixes (IsFollowed ts (Over l) (Level ts l n)) m b → Chain ts l i k a t
    → Over (suc l) (kind_at ts k) → Chain ts l m k (tree.Binary o i a b) t
chain_taken {ts} {l} {i} o is next fixes chain_end over =
    absurd (not_over l (kind_at ts i) o is over)
  where
    not_over : (l : ℕ) (k : Kind) (o : BinaryOp) → op_at (suc l) k ≡ Some o → Over (suc l) k → ⊥
    not_over l (kind.Operator p) o h over =
        let e : level_of p ≡ suc l = eqb-true (level_of p) (suc l)
        (if_level (nat_eq (level_of p) (suc l)) p o h) in
        omega (arith, over)
    not_over l _ o h over = cc
chain_taken {ts} {l} {i} {k} {n} {m} {a} {b} {t} o is next fixes
    (chain_more {m = q} {b = c} p was right chain) over =
    let op : p ≡ o = cc in
    let here : n ≡ i + 1 = next (inside ts i (operator_token (kind_at ts i) o is)) in
    let e = fixes.same q c (record {
      spelled = subst (λ n. Level ts l n q c) (sym here) right;
      following = chain_over chain over;
    }) in
    subst (λ o. Chain ts l m k (tree.Binary o i a b) t) op
    (subst (λ q. Chain ts l q k (tree.Binary p i a b) t) (sym e.0)
    (subst (λ c. Chain ts l q k (tree.Binary p i a c) t) (sym e.1) chain))
  where
    operator_token : (k : Kind) (o : BinaryOp) → op_at (suc l) k ≡ Some o → IsToken k
    operator_token (kind.Operator p) o h = tt
    operator_token _ o h = cc

pub chain_steps : (ts : List Placed) (l i n m : ℕ) (a b x : ExprTree) (o : BinaryOp) (P : ℕ
    → ExprTree → Type 0) → l ≢ 0
    → DerivesFrom P (IsFollowed ts (Over l) (λ k t. Chain ts (l - 1) i k a t))
    → Some o ≡ op_at l (kind_at ts i) → (i < length ts → n ≡ i + 1)
    → Fixes (IsFollowed ts (Over (l - 1)) (Level ts (l - 1) n)) m b → x ≡ tree.Binary o i a b
    → DerivesFrom P (IsFollowed ts (Over l) (λ k t. Chain ts (l - 1) m k x t))
chain_steps ts zero i n m a b x o P some leads is next fixes e = absurd (some refl)
chain_steps ts (suc l) i n m a b x o P some leads is next fixes e =
    let s : suc l - 1 ≡ l = omega arith in
    let f : Fixes (IsFollowed ts (Over l) (Level ts l n)) m b =
    subst (λ l. Fixes (IsFollowed ts (Over l) (Level ts l n)) m b) s fixes in
    record {
      on = λ k t h.
          let g = leads.on k t h in
          let c : Chain ts l i k a t = subst (λ l. Chain ts l i k a t) s g.spelled in
          record {
            spelled = subst (λ l. Chain ts l m k x t) (sym s)
                (subst (λ x. Chain ts l m k x t) (sym e)
                (chain_taken o (sym is) next f c g.following));
            following = g.following;
          };
    }

pub chain_ends : (ts : List Placed) (l i : ℕ) (a : ExprTree) (P : ℕ → ExprTree → Type 0) → l ≢ 0
    → DerivesFrom P (IsFollowed ts (Over l) (λ k t. Chain ts (l - 1) i k a t))
    → None ≡ op_at l (kind_at ts i) → Fixes P i a
chain_ends ts zero i a P some leads is = absurd (some refl)
chain_ends ts (suc l) i a P some leads is =
    let s : suc l - 1 ≡ l = omega arith in
    record { same = λ k t h. ends (subst (λ l. Chain ts l i k a t) s (leads.on k t h).spelled) is }
  where
    ends : {k : ℕ} {t : ExprTree} → Chain ts l i k a t → None ≡ op_at (suc l) (kind_at ts i)
        → (i ≡ k) × (a ≡ t)
    ends chain_end not = (refl, refl)
    ends (chain_more o is b c) not = absurd (cc)

-- a condition and both sides
pub condition_alone : (ts : List Placed) (i m : ℕ) (c : ExprTree)
    → Fixes (IsFollowed ts (Over 10) (Level ts 10 i)) m c → kind_at ts m ≢ kind.Question
    → Fixes (IsFollowed ts (Over 11) (Expression ts i)) m c
condition_alone ts i m c fixes not = record { same = λ k t h. taken h.spelled h.following }
  where
    taken : {k : ℕ} {t : ExprTree} → Expression ts i k t → Over 11 (kind_at ts k)
        → (m ≡ k) × (c ≡ t)
    taken {k} {t} (unconditional d) over = fixes.same k t (record {
      spelled = d;
      following = less_over 10 (kind_at ts k) over;
    })
    taken (conditional {m = q} {c = x} d is left colon right) over =
        let f = fixes.same q x (record {
          spelled = d;
          following = over_at 10 (kind_at ts q) kind.Question is (omega arith);
        }) in
        absurd (not (ap (kind_at ts) f.0 ∙ is))

pub condition_first : (ts : List Placed) (i m : ℕ) (c : ExprTree)
    → Fixes (IsFollowed ts (Over 10) (Level ts 10 i)) m c → kind_at ts m ≡ kind.Question
    → DerivesFrom (IsFollowed ts (Over 11) (Expression ts i))
    (IsFollowed ts (Over 11) (FromCondition ts m c))
condition_first ts i m c fixes is = record {
  on = λ k t h.
      record { spelled = taken h.spelled h.following; following = h.following };
}
  where
    none : (q : ℕ) → m ≡ q → Over 11 (kind_at ts q) → ⊥
    none q e over =
        let h : 11 < 11 = subst (Over 11) (ap (kind_at ts) (sym e) ∙ is) over in omega (arith, h)

    taken : {k : ℕ} {t : ExprTree} → Expression ts i k t → Over 11 (kind_at ts k)
        → FromCondition ts m c k t
    taken {k} {t} (unconditional d) over =
        let f = fixes.same k t (record {
          spelled = d;
          following = less_over 10 (kind_at ts k) over;
        }) in
        absurd (none k f.0 over)
    taken {k} {t} (conditional {m = q} {n = n} {c = x} {a = a} {b = b} d was left colon right)
        over =
        let f = fixes.same q x (record {
          spelled = d;
          following = over_at 10 (kind_at ts q) kind.Question was (omega arith);
        }) in
        subst (λ m. FromCondition ts m c k (tree.Conditional x q a b)) (sym f.0)
        (subst (λ c. FromCondition ts q c k (tree.Conditional x q a b)) (sym f.1)
        (sides was left colon right))

pub both_sides : (ts : List Placed) (i p q r j : ℕ) (c a b x : ExprTree)
    → kind_at ts i ≡ kind.Question → (i < length ts → p ≡ i + 1)
    → Fixes (IsFollowed ts (Over 11) (Expression ts p)) q a → (q < length ts → r ≡ q + 1)
    → Fixes (IsFollowed ts (Over 11) (Expression ts r)) j b → x ≡ tree.Conditional c i a b
    → Fixes (IsFollowed ts (Over 11) (FromCondition ts i c)) j x
both_sides ts i p q r j c a b x is to_p first to_r second e = record {
  same = λ k t h. taken h.spelled h.following;
}
  where
    taken : {k : ℕ} {t : ExprTree} → FromCondition ts i c k t → Over 11 (kind_at ts k)
        → (j ≡ k) × (x ≡ t)
    taken {k} (sides {n = n} {a = y} {b = z} was left colon right) over =
        let here : p ≡ i + 1 = to_p (inside_at ts i kind.Question is tt) in
        let f = first.same n y (record {
          spelled = subst (λ p. Expression ts p n y) (sym here) left;
          following = over_at 11 (kind_at ts n) kind.Colon colon tt;
        }) in
        let there : r ≡ n + 1 = subst (λ q. q < length ts → r ≡ q + 1) f.0 to_r
        (inside_at ts n kind.Colon colon tt) in
        let g = second.same k z (record {
          spelled = subst (λ r. Expression ts r k z) (sym there) right;
          following = over;
        }) in
        (g.0, e ∙ ap (λ a. tree.Conditional c i a b) f.1 ∙ ap (tree.Conditional c i y) g.1)

-- the primaries, by their first token
abbrev PrimaryOf : List Placed → ℕ → ℕ → ExprTree → Kind → Type 0
PrimaryOf ts i k t kind.Number = (k ≡ i + 1) × (t ≡ tree.Number (value_at ts i))
PrimaryOf ts i k t kind.Null = (k ≡ i + 1) × (t ≡ tree.Null)
PrimaryOf ts i k t kind.Name =
    ((k ≡ i + 1) × (t ≡ tree.Variable (ident_at ts i)))
    ⊎ ((all : tree.Arguments) × (kind_at ts (i + 1) ≡ kind.OpenRound)
    × SpellsArguments ts (i + 1 + 1) k all × (t ≡ tree.Call (ident_at ts i) all))
PrimaryOf ts i k t kind.Root =
    (kind_at ts (i + 1) ≡ kind.Dot) × (kind_at ts (i + 1 + 1) ≡ kind.Name) × (k ≡ i + 1 + 1 + 1)
    × (t ≡ tree.Root (ident_at ts (i + 1 + 1)))
PrimaryOf ts i k t kind.PmNew =
    (kind_at ts (i + 1) ≡ kind.OpenRound) × (kind_at ts (i + 1 + 1) ≡ kind.Struct)
    × (kind_at ts (i + 1 + 1 + 1) ≡ kind.Name)
    × (kind_at ts (i + 1 + 1 + 1 + 1) ≡ kind.CloseRound) × (k ≡ i + 1 + 1 + 1 + 1 + 1)
    × (t ≡ tree.New i (ident_at ts (i + 1 + 1 + 1)))
PrimaryOf ts i k t kind.OpenRound = (m : ℕ) × Expression ts (i + 1) m t
    × (kind_at ts m ≡ kind.CloseRound) × (k ≡ m + 1)
PrimaryOf ts i k t _ = ⊥

primary_of : {ts : List Placed} {i k : ℕ} {t : ExprTree} → Primary ts i k t
    → PrimaryOf ts i k t (kind_at ts i)
primary_of {ts} {i} {k} {t} (number is) = subst (PrimaryOf ts i k t) (sym is) (refl, refl)
primary_of {ts} {i} {k} {t} (null is) = subst (PrimaryOf ts i k t) (sym is) (refl, refl)
primary_of {ts} {i} {k} {t} (variable is) = subst (PrimaryOf ts i k t) (sym is) (inl (refl, refl))
primary_of {ts} {i} {k} {t} (call {all = all} is o a) =
    subst (PrimaryOf ts i k t) (sym is) (inr (all, o, a, refl))
primary_of {ts} {i} {k} {t} (root is d n) = subst (PrimaryOf ts i k t) (sym is) (d, n, refl, refl)
primary_of {ts} {i} {k} {t} (new is o s n c) =
    subst (PrimaryOf ts i k t) (sym is) (o, s, n, c, refl, refl)
primary_of {ts} {i} {k} {t} (brackets {m = m} is e c) =
    subst (PrimaryOf ts i k t) (sym is) (m, e, c, refl)

primary_is : {ts : List Placed} {i k : ℕ} {t : ExprTree} (s : Kind) → s ≡ kind_at ts i
    → Primary ts i k t → PrimaryOf ts i k t s
primary_is {ts} {i} {k} {t} s is d = subst (PrimaryOf ts i k t) (sym is) (primary_of d)

pub primary_number : (ts : List Placed) (i n : ℕ) (x : ExprTree) → kind.Number ≡ kind_at ts i
    → (i < length ts → n ≡ i + 1) → x ≡ tree.Number (value_at ts i)
    → Fixes (IsFollowed ts Uncalled (Primary ts i)) n x
primary_number ts i n x is next e = record {
  same = λ k t d.
      let p = primary_is kind.Number is d.spelled in
      (next (inside_at ts i kind.Number (sym is) tt) ∙ sym p.0, e ∙ sym p.1);
}

pub primary_null : (ts : List Placed) (i n : ℕ) (s : Kind) → s ≡ kind_at ts i
    → (i < length ts → n ≡ i + 1)
    → s ≢ kind.Number → s ≢ kind.Name → s ≢ kind.Root → s ≢ kind.PmNew → s ≢ kind.OpenRound
    → Fixes (IsFollowed ts Uncalled (Primary ts i)) n tree.Null
primary_null ts i n s is next a b c d e =
    record { same = λ k t h. taken s is a b c d e (primary_is s is h.spelled) }
  where
    taken : {k : ℕ} {t : ExprTree} (s : Kind) → s ≡ kind_at ts i → s ≢ kind.Number → s ≢ kind.Name
        → s ≢ kind.Root → s ≢ kind.PmNew → s ≢ kind.OpenRound
        → PrimaryOf ts i k t s → (n ≡ k) × (tree.Null ≡ t)
    taken kind.Null is a b c d e p =
        (next (inside_at ts i kind.Null (sym is) tt) ∙ sym p.0, sym p.1)
    taken kind.Number is a b c d e p = absurd (a refl)
    taken kind.Name is a b c d e p = absurd (b refl)
    taken kind.Root is a b c d e p = absurd (c refl)
    taken kind.PmNew is a b c d e p = absurd (d refl)
    taken kind.OpenRound is a b c d e p = absurd (e refl)
    taken _ is a b c d e p = absurd p

pub primary_variable : (ts : List Placed) (i n : ℕ) (x : ExprTree) (y : Ident)
    → kind.Name ≡ kind_at ts i → (i < length ts → n ≡ i + 1) → kind_at ts n ≢ kind.OpenRound
    → y ≡ ident_at ts i → x ≡ tree.Variable y → Fixes (IsFollowed ts Uncalled (Primary ts i)) n x
primary_variable ts i n x y is next not e f =
    record { same = λ k t h. taken (primary_is kind.Name is h.spelled) }
  where
    here : n ≡ i + 1
    here = next (inside_at ts i kind.Name (sym is) tt)

    taken : {k : ℕ} {t : ExprTree} → PrimaryOf ts i k t kind.Name → (n ≡ k) × (x ≡ t)
    taken (inl p) = (here ∙ sym p.0, f ∙ ap tree.Variable e ∙ sym p.1)
    taken (inr p) = absurd (not (ap (kind_at ts) here ∙ p.1))

pub primary_call : (ts : List Placed) (i n m j : ℕ) (x : ExprTree) (y : Ident)
    (all : tree.Arguments) → kind.Name ≡ kind_at ts i → (i < length ts → n ≡ i + 1)
    → kind_at ts n ≡ kind.OpenRound → (n < length ts → m ≡ n + 1)
    → Fixes (SpellsArguments ts m) j all
    → y ≡ ident_at ts i → x ≡ tree.Call y all → Fixes (IsFollowed ts Uncalled (Primary ts i)) j x
primary_call ts i n m j x y all is next opens after fixes e f =
    record { same = λ k t h. taken h.following (primary_is kind.Name is h.spelled) }
  where
    here : n ≡ i + 1
    here = next (inside_at ts i kind.Name (sym is) tt)

    there : m ≡ i + 1 + 1
    there = after (inside_at ts n kind.OpenRound opens tt) ∙ ap (λ n. n + 1) here

    taken : {k : ℕ} {t : ExprTree} → Uncalled (kind_at ts k) → PrimaryOf ts i k t kind.Name
        → (j ≡ k) × (x ≡ t)
    taken following (inl p) = absurd (following (ap (kind_at ts) (p.0 ∙ sym here) ∙ opens))
    taken {k} following (inr p) =
        let g = fixes.same k p.0 (subst (λ m. SpellsArguments ts m k p.0) (sym there) p.2) in
        (g.0, f ∙ ap (λ y. tree.Call y all) e ∙ ap (tree.Call (ident_at ts i)) g.1 ∙ sym p.3)

pub primary_root : (ts : List Placed) (i n m j : ℕ) (x : ExprTree) (y : Ident)
    → kind.Root ≡ kind_at ts i → (i < length ts → n ≡ i + 1) → (n < length ts → m ≡ n + 1)
    → (m < length ts → j ≡ m + 1) → y ≡ ident_at ts m → x ≡ tree.Root y
    → Fixes (IsFollowed ts Uncalled (Primary ts i)) j x
primary_root ts i n m j x y is to_n to_m to_j e f = record {
  same = λ k t h.
      let p = primary_is kind.Root is h.spelled in
      let a : n ≡ i + 1 = to_n (inside_at ts i kind.Root (sym is) tt) in
      let b : m ≡ i + 1 + 1 = subst (λ n. n < length ts → m ≡ n + 1) a to_m
      (inside_at ts (i + 1) kind.Dot p.0 tt) in
      let c : j ≡ i + 1 + 1 + 1 = subst (λ m. m < length ts → j ≡ m + 1) b to_j
      (inside_at ts (i + 1 + 1) kind.Name p.1 tt) in
      (c ∙ sym p.2, f ∙ ap tree.Root e ∙ ap (λ m. tree.Root (ident_at ts m)) b ∙ sym p.3);
}

pub primary_new : (ts : List Placed) (i n m o q j : ℕ) (x : ExprTree) (y : Ident)
    → kind.PmNew ≡ kind_at ts i → (i < length ts → n ≡ i + 1) → (n < length ts → m ≡ n + 1)
    → (m < length ts → o ≡ m + 1) → (o < length ts → q ≡ o + 1) → (q < length ts → j ≡ q + 1)
    → y ≡ ident_at ts o → x ≡ tree.New i y → Fixes (IsFollowed ts Uncalled (Primary ts i)) j x
primary_new ts i n m o q j x y is to_n to_m to_o to_q to_j e f = record {
  same = λ k t h.
      let p = primary_is kind.PmNew is h.spelled in
      let a : n ≡ i + 1 = to_n (inside_at ts i kind.PmNew (sym is) tt) in
      let b : m ≡ i + 1 + 1 = subst (λ n. n < length ts → m ≡ n + 1) a to_m
      (inside_at ts (i + 1) kind.OpenRound p.0 tt) in
      let c : o ≡ i + 1 + 1 + 1 = subst (λ m. m < length ts → o ≡ m + 1) b to_o
      (inside_at ts (i + 1 + 1) kind.Struct p.1 tt) in
      let d : q ≡ i + 1 + 1 + 1 + 1 =
      subst (λ o. o < length ts → q ≡ o + 1) c to_q
      (inside_at ts (i + 1 + 1 + 1) kind.Name p.2 tt) in
      let g : j ≡ i + 1 + 1 + 1 + 1 + 1 =
      subst (λ q. q < length ts → j ≡ q + 1) d to_j
      (inside_at ts (i + 1 + 1 + 1 + 1) kind.CloseRound p.3 tt) in
      (g ∙ sym p.4, f ∙ ap (tree.New i) e ∙ ap (λ o. tree.New i (ident_at ts o)) c ∙ sym p.5);
}

-- from an opening bracket to the place after its closing one
pub brackets_taken : (ts : List Placed) (i n m j : ℕ) (e : ExprTree) → kind_at ts i ≡ kind.OpenRound
    → (i < length ts → n ≡ i + 1)
    → Fixes (IsFollowed ts (Over 11) (Expression ts n)) m e → (m < length ts → j ≡ m + 1)
    → (k q : ℕ) (t : ExprTree) → Expression ts (i + 1) q t → kind_at ts q ≡ kind.CloseRound
    → k ≡ q + 1 → (j ≡ k) × (e ≡ t)
brackets_taken ts i n m j e is to_n fixes to_j k q t inner close end =
    let a : n ≡ i + 1 = to_n (inside_at ts i kind.OpenRound is tt) in
    let f = fixes.same q t (record {
      spelled = subst (λ n. Expression ts n q t) (sym a) inner;
      following = over_at 11 (kind_at ts q) kind.CloseRound close tt;
    }) in
    let b : j ≡ q + 1 = subst (λ m. m < length ts → j ≡ m + 1) f.0 to_j
    (inside_at ts q kind.CloseRound close tt) in
    (b ∙ sym end, f.1)

pub primary_brackets : (ts : List Placed) (i n m j : ℕ) (e : ExprTree)
    → kind.OpenRound ≡ kind_at ts i → (i < length ts → n ≡ i + 1)
    → Fixes (IsFollowed ts (Over 11) (Expression ts n)) m e → (m < length ts → j ≡ m + 1)
    → Fixes (IsFollowed ts Uncalled (Primary ts i)) j e
primary_brackets ts i n m j e is to_n fixes to_j = record {
  same = λ k t h.
      let p = primary_is kind.OpenRound is h.spelled in
      brackets_taken ts i n m j e (sym is) to_n fixes to_j k p.0 t p.1 p.2 p.3;
}

-- the arguments of a call
pub arguments_none : (ts : List Placed) (i n : ℕ) (xs : tree.Arguments)
    → kind_at ts i ≡ kind.CloseRound → (i < length ts → n ≡ i + 1) → xs ≡ tree.None
    → Fixes (SpellsArguments ts i) n xs
arguments_none ts i n xs is next e = record { same = λ k t d. taken d }
  where
    taken : {k : ℕ} {t : tree.Arguments} → SpellsArguments ts i k t → (n ≡ k) × (xs ≡ t)
    taken (no_arguments was) = (next (inside_at ts i kind.CloseRound is tt), e)
    taken (arguments first others) = absurd (subst Begins is (expression_begins first))

-- the arguments so far, and the rest from a place on
pub record MoreFrom (ts : List Placed) (i : ℕ) (xs : tree.Arguments) (k : ℕ) (t : tree.Arguments) :
    Type 0 where
  pub rest : tree.Arguments
  pub spelled : MoreArguments ts i k rest
  pub joined : inside_tree.followed_by xs rest ≡ t

more_over : {ts : List Placed} {i k : ℕ} {all : tree.Arguments} → MoreArguments ts i k all
    → Over 11 (kind_at ts i)
more_over {ts} {i} (no_more is) = over_at 11 (kind_at ts i) kind.CloseRound is tt
more_over {ts} {i} (more is e others) = over_at 11 (kind_at ts i) kind.Comma is tt

pub arguments_begin : (ts : List Placed) (i m : ℕ) (e : ExprTree) (xs ys : tree.Arguments)
    → kind_at ts i ≢ kind.CloseRound
    → Fixes (IsFollowed ts (Over 11) (Expression ts i)) m e → ys ≡ tree.None
    → ((es : tree.Arguments) → inside_tree.followed_by xs es ≡ inside_tree.followed_by ys
    (tree.More i e es)) → DerivesFrom (SpellsArguments ts i) (MoreFrom ts m xs)
arguments_begin ts i m e xs ys not fixes none added = record { on = λ k t d. taken d }
  where
    taken : {k : ℕ} {t : tree.Arguments} → SpellsArguments ts i k t → MoreFrom ts m xs k t
    taken (no_arguments was) = absurd (not was)
    taken {k} (arguments {m = q} {e = x} {all = rest} first others) =
        let f = fixes.same q x (record { spelled = first; following = more_over others }) in
        record {
          rest = rest;
          spelled = subst (λ q. MoreArguments ts q k rest) (sym f.0) others;
          joined = added rest ∙ ap (λ ys. inside_tree.followed_by ys (tree.More i e rest)) none
              ∙ ap (λ e. tree.More i e rest) f.1;
        }

pub arguments_more : (ts : List Placed) (i n m : ℕ) (e : ExprTree) (xs ys : tree.Arguments) (P : ℕ
    → tree.Arguments → Type 0)
    → DerivesFrom P (MoreFrom ts i ys) → kind_at ts i ≡ kind.Comma → (i < length ts → n ≡ i + 1)
    → Fixes (IsFollowed ts (Over 11) (Expression ts n)) m e
    → ((es : tree.Arguments) → inside_tree.followed_by xs es ≡ inside_tree.followed_by ys
    (tree.More n e es)) → DerivesFrom P (MoreFrom ts m xs)
arguments_more ts i n m e xs ys P leads is next fixes added = record {
  on = λ k t d.
      let g = leads.on k t d in taken g.spelled g.joined;
}
  where
    here : n ≡ i + 1
    here = next (inside_at ts i kind.Comma is tt)

    taken : {k : ℕ} {t rest : tree.Arguments} → MoreArguments ts i k rest
        → inside_tree.followed_by ys rest ≡ t → MoreFrom ts m xs k t
    taken (no_more was) joined = absurd (cc)
    taken {k} {t} (more {m = q} {e = x} {all = others} was value spelled) joined =
        let f = fixes.same q x (record {
          spelled = subst (λ n. Expression ts n q x) (sym here) value;
          following = more_over spelled;
        }) in
        record {
          rest = others;
          spelled = subst (λ q. MoreArguments ts q k others) (sym f.0) spelled;
          joined = added others ∙ ap (λ n. inside_tree.followed_by ys (tree.More n e others)) here
              ∙ ap (λ e. inside_tree.followed_by ys (tree.More (i + 1) e others)) f.1 ∙ joined;
        }

pub arguments_end : (ts : List Placed) (i n : ℕ) (xs : tree.Arguments) (P : ℕ
    → tree.Arguments → Type 0)
    → DerivesFrom P (MoreFrom ts i xs) → kind_at ts i ≢ kind.Comma → (i < length ts → n ≡ i + 1)
    → Fixes P n xs
arguments_end ts i n xs P leads not next = record {
  same = λ k t d.
      let g = leads.on k t d in taken g.spelled g.joined;
}
  where
    taken : {k : ℕ} {t rest : tree.Arguments} → MoreArguments ts i k rest
        → inside_tree.followed_by xs rest ≡ t → (n ≡ k) × (xs ≡ t)
    taken (no_more was) joined = (
      next (inside_at ts i kind.CloseRound was tt),
      sym (followed_by-nothing xs) ∙ joined,
    )
    taken (more was value spelled) joined = absurd (not was)

-- the unary operators
sign_token : (k : Kind) (o : UnaryOp) → sign_of k ≡ Some o → IsToken k
sign_token kind.End o h = cc
sign_token _ o h = tt

no_sign : (ts : List Placed) (i k : ℕ) (t : ExprTree) (s : Kind) (o : UnaryOp) → sign_of s ≡ Some o
    → PrimaryOf ts i k t s → ⊥
no_sign ts i k t (kind.Operator p) o h d = d
no_sign ts i k t kind.Not o h d = d
no_sign ts i k t kind.Tilde o h d = d
no_sign ts i k t _ o h d = cc

not_signed : {ts : List Placed} {i k : ℕ} {t : ExprTree} (o : UnaryOp)
    → sign_of (kind_at ts i) ≡ Some o → Postfix ts i k t → ⊥
not_signed {ts} {i} o is (postfix {m = m} {a = a} first parts) =
    no_sign ts i m a (kind_at ts i) o is (primary_of first)

pub unary_signed : (ts : List Placed) (i n j : ℕ) (o : UnaryOp) (e x : ExprTree)
    → Some o ≡ sign_of (kind_at ts i) → (i < length ts → n ≡ i + 1)
    → Fixes (IsFollowed ts (Over 0) (Unary ts n)) j e → x ≡ tree.Unary o i e
    → Fixes (IsFollowed ts (Over 0) (Unary ts i)) j x
unary_signed ts i n j o e x is next fixes h = record { same = λ k t g. taken g.spelled g.following }
  where
    taken : {k : ℕ} {t : ExprTree} → Unary ts i k t → Over 0 (kind_at ts k) → (j ≡ k) × (x ≡ t)
    taken {k} (signed {e = u} p was d) over =
        let here : n ≡ i + 1 = next (inside ts i (sign_token (kind_at ts i) o (sym is))) in
        let f = fixes.same k u (record
        { spelled = subst (λ n. Unary ts n k u) (sym here) d; following = over }) in
        let op : p ≡ o = cc in
        (f.0, cc)
    taken (cast m was word close d) over =
        let g : Some o ≡ None = is ∙ ap sign_of was in absurd (cc)
    taken (unsigned d) over = absurd (not_signed o (sym is) d)

-- a type's word in a bracket
cast_kinds : (k l : Kind) (n : IntType) → Some n ≡ cast_of k l → (k ≡ kind.OpenRound)
    × (l ≡ kind.Int n)
cast_kinds kind.OpenRound (kind.Int m) n h = let e : m ≡ n = cc in (refl, ap kind.Int e)
cast_kinds _ _ n h = absurd (cc)

cast_place : (ts : List Placed) (i m : ℕ) (n : IntType)
    → Some n ≡ cast_of (kind_at ts i) (kind_at ts (i + 1)) → (i < length ts → m ≡ i + 1)
    → m ≡ i + 1
cast_place ts i m n is next = let g = cast_kinds (kind_at ts i) (kind_at ts (i + 1)) n is in
    next (inside_at ts i kind.OpenRound g.0 tt)

pub cast_word : (ts : List Placed) (i m : ℕ) (n : IntType)
    → Some n ≡ cast_of (kind_at ts i) (kind_at ts (i + 1)) → (i < length ts → m ≡ i + 1)
    → kind_at ts m ≡ kind.Int n
cast_word ts i m n is next = ap (kind_at ts) (cast_place ts i m n is next)
    ∙ (cast_kinds (kind_at ts i) (kind_at ts (i + 1)) n is).1

pub unary_cast : (ts : List Placed) (i m : ℕ) (n : IntType)
    → Some n ≡ cast_of (kind_at ts i) (kind_at ts (i + 1)) → (i < length ts → m ≡ i + 1)
    → None ≡ sign_of (kind_at ts i)
    → DerivesFrom (IsFollowed ts (Over 0) (Unary ts i)) (IsFollowed ts (Over 0) (FromWord ts m n))
unary_cast ts i m n is next sign = record {
  on = λ k t h.
      record { spelled = taken h.spelled; following = h.following };
}
  where
    word : kind_at ts (i + 1) ≡ kind.Int n
    word = (cast_kinds (kind_at ts i) (kind_at ts (i + 1)) n is).1

    bracket : kind.OpenRound ≡ kind_at ts i
    bracket = sym (cast_kinds (kind_at ts i) (kind_at ts (i + 1)) n is).0

    from_bracket : {k : ℕ} {t : ExprTree} → PrimaryOf ts i k t kind.OpenRound → ⊥
    from_bracket p = subst Begins word (expression_begins p.1)

    taken : {k : ℕ} {t : ExprTree} → Unary ts i k t → FromWord ts m n k t
    taken (signed o was d) = absurd (cc)
    taken {k} (cast {e = e} p was int close d) =
        let same : p ≡ n = let g : kind.Int p ≡ kind.Int n = sym int ∙ word in cc in
        subst (λ m. FromWord ts m n k (tree.Unary (unary.Cast p) (i + 1) e))
        (sym (cast_place ts i m n is next))
        (subst (λ p. FromWord ts (i + 1) n k (tree.Unary (unary.Cast p) (i + 1) e)) (sym same)
        (cast_from word close d))
    taken (unsigned (postfix first parts)) =
        absurd (from_bracket (primary_is kind.OpenRound bracket first))

pub cast_made : (ts : List Placed) (i n m j : ℕ) (int : IntType) (e x : ExprTree)
    → kind_at ts i ≡ kind.Int int → (i < length ts → n ≡ i + 1) → (n < length ts → m ≡ n + 1)
    → Fixes (IsFollowed ts (Over 0) (Unary ts m)) j e → x ≡ tree.Unary (unary.Cast int) i e
    → Fixes (IsFollowed ts (Over 0) (FromWord ts i int)) j x
cast_made ts i n m j int e x is to_n to_m fixes h = record {
  same = λ k t g. taken g.spelled g.following;
}
  where
    taken : {k : ℕ} {t : ExprTree} → FromWord ts i int k t → Over 0 (kind_at ts k)
        → (j ≡ k) × (x ≡ t)
    taken {k} (cast_from {e = u} was close d) over =
        let here : n ≡ i + 1 = to_n (inside_at ts i (kind.Int int) is tt) in
        let there : m ≡ i + 1 + 1 = subst (λ n. n < length ts → m ≡ n + 1) here to_m
        (inside_at ts (i + 1) kind.CloseRound close tt) in
        let f = fixes.same k u (record
        { spelled = subst (λ m. Unary ts m k u) (sym there) d; following = over }) in
        (f.0, h ∙ ap (tree.Unary (unary.Cast int) i) f.1)

pub unary_unsigned : (ts : List Placed) (i : ℕ) → None ≡ sign_of (kind_at ts i)
    → None ≡ cast_of (kind_at ts i) (kind_at ts (i + 1))
    → DerivesFrom (IsFollowed ts (Over 0) (Unary ts i)) (IsFollowed ts (Over 0) (Postfix ts i))
unary_unsigned ts i is no_cast = record {
  on = λ k t h.
      record { spelled = taken h.spelled; following = h.following };
}
  where
    taken : {k : ℕ} {t : ExprTree} → Unary ts i k t → Postfix ts i k t
    taken (signed p was d) = absurd (cc)
    taken (cast n was word close d) =
        let g : None ≡ Some n = no_cast ∙ ap (λ k. cast_of k (kind_at ts (i + 1))) was
        ∙ ap (cast_of kind.OpenRound) word in
        absurd (cc)
    taken (unsigned d) = d

-- the parts after a primary
parts_uncalled : {ts : List Placed} {i k : ℕ} {a t : ExprTree} → Parts ts i k a t
    → Over 0 (kind_at ts k) → Uncalled (kind_at ts i)
parts_uncalled {ts} {i} parts_end over = λ h. subst (Over 0) h over
parts_uncalled (field is n p) over = λ h. cc
parts_uncalled (element is b c p) over = λ h. cc

pub postfix_to_parts : (ts : List Placed) (i m : ℕ) (a : ExprTree)
    → Fixes (IsFollowed ts Uncalled (Primary ts i)) m a
    → DerivesFrom (IsFollowed ts (Over 0) (Postfix ts i))
    (IsFollowed ts (Over 0) (λ k t. Parts ts m k a t))
postfix_to_parts ts i m a fixes =
    record {
      on = λ k t h. record {
        spelled = taken h.spelled h.following;
        following = h.following;
      };
    }
  where
    taken : {k : ℕ} {t : ExprTree} → Postfix ts i k t → Over 0 (kind_at ts k) → Parts ts m k a t
    taken {k} {t} (postfix {m = n} {a = b} first parts) over =
        let e = fixes.same n b (record
        { spelled = first; following = parts_uncalled parts over }) in
        subst (λ n. Parts ts n k a t) (sym e.0) (subst (λ b. Parts ts n k b t) (sym e.1) parts)

pub parts_field : (ts : List Placed) (i p n : ℕ) (a b : ExprTree) (x : Ident)
    → kind.Arrow ≡ kind_at ts i → (i < length ts → p ≡ i + 1) → (p < length ts → n ≡ p + 1)
    → x ≡ ident_at ts p → b ≡ tree.Arrow a i x
    → DerivesFrom (IsFollowed ts (Over 0) (λ k t. Parts ts i k a t))
    (IsFollowed ts (Over 0) (λ k t. Parts ts n k b t))
parts_field ts i p n a b x is next_p next_n e h =
    record {
      on = λ k t d. record {
        spelled = taken d.spelled d.following;
        following = d.following;
      };
    }
  where
    taken : {k : ℕ} {t : ExprTree} → Parts ts i k a t → Over 0 (kind_at ts k) → Parts ts n k b t
    taken parts_end over = absurd (subst (Over 0) (sym is) over)
    taken {k} {t} (field was name d) over =
        let here : p ≡ i + 1 = next_p (inside_at ts i kind.Arrow (sym is) tt) in
        let there : n ≡ i + 1 + 1 = subst (λ p. p < length ts → n ≡ p + 1) here next_n
        (inside_at ts (i + 1) kind.Name name tt) in
        let tree : b ≡ tree.Arrow a i (ident_at ts (i + 1)) =
        h ∙ ap (tree.Arrow a i) e ∙ ap (λ p. tree.Arrow a i (ident_at ts p)) here in
        subst (λ n. Parts ts n k b t) (sym there)
        (subst (λ b. Parts ts (i + 1 + 1) k b t) (sym tree) d)
    taken (element was b c d) over = absurd (cc)

pub parts_element : (ts : List Placed) (i m c n : ℕ) (a b x : ExprTree)
    → kind.OpenSquare ≡ kind_at ts i → (i < length ts → m ≡ i + 1)
    → Fixes (IsFollowed ts (Over 11) (Expression ts m)) c x → (c < length ts → n ≡ c + 1)
    → b ≡ tree.Index a i x
    → DerivesFrom (IsFollowed ts (Over 0) (λ k t. Parts ts i k a t))
    (IsFollowed ts (Over 0) (λ k t. Parts ts n k b t))
parts_element ts i m c n a b x is next_m fixes next_n h =
    record {
      on = λ k t d. record {
        spelled = taken d.spelled d.following;
        following = d.following;
      };
    }
  where
    taken : {k : ℕ} {t : ExprTree} → Parts ts i k a t → Over 0 (kind_at ts k) → Parts ts n k b t
    taken parts_end over = absurd (subst (Over 0) (sym is) over)
    taken (field was name d) over = absurd (cc)
    taken {k} {t} (element {m = q} {b = y} was index close d) over =
        let here : m ≡ i + 1 = next_m (inside_at ts i kind.OpenSquare (sym is) tt) in
        let f = fixes.same q y (record {
          spelled = subst (λ m. Expression ts m q y) (sym here) index;
          following = over_at 11 (kind_at ts q) kind.CloseSquare close tt;
        }) in
        let there : n ≡ q + 1 = subst (λ c. c < length ts → n ≡ c + 1) f.0 next_n
        (inside_at ts q kind.CloseSquare close tt) in
        let tree : b ≡ tree.Index a i y = h ∙ ap (tree.Index a i) f.1 in
        subst (λ n. Parts ts n k b t) (sym there) (subst (λ b. Parts ts (q + 1) k b t) (sym tree) d)

pub parts_none : (ts : List Placed) (i : ℕ) (a : ExprTree) → kind_at ts i ≢ kind.Arrow
    → kind_at ts i ≢ kind.OpenSquare
    → Fixes (IsFollowed ts (Over 0) (λ k t. Parts ts i k a t)) i a
parts_none ts i a no_arrow no_square = record { same = λ k t d. taken d.spelled }
  where
    taken : {k : ℕ} {t : ExprTree} → Parts ts i k a t → (i ≡ k) × (a ≡ t)
    taken parts_end = (refl, refl)
    taken (field was name d) = absurd (no_arrow was)
    taken (element was b c d) = absurd (no_square was)

pub ruleset trees = (expr_of-Call, followed_by-one_more)

pub ruleset binaries = (led_expr, level_to_unary, chain_begins, chain_steps, chain_ends)

pub ruleset whole = (led_expr, condition_alone, condition_first)

pub ruleset conditions = (both_sides)

pub ruleset unaries = (led_expr, unary_signed, unary_unsigned, cast_word, unary_cast)

pub ruleset casts = (cast_made)

pub ruleset postfixes = (led_expr, postfix_to_parts)

pub ruleset all_parts = (led_expr, parts_field, parts_element, parts_none)

pub ruleset primaries = (
  primary_number,
  primary_null,
  primary_variable,
  primary_call,
  primary_root,
  primary_new,
  primary_brackets,
)

pub ruleset all_arguments = (arguments_none, arguments_begin, arguments_more, arguments_end)
