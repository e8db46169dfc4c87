-- An expression as unaries joined by operators, whatever their levels, with both sides after a
-- `?`, and its tree.
use Rattle.std.proofs.Common.{ℕ, zero, suc, ◌+◌, ◌≡◌, ◌≤◌, ◌⊎◌, inl, inr, List, Some, None, Bool}
use Rattle.std.proofs.Common.{true, false, nat_eq, refl, sym, ap, ◌∙◌, subst, arith, if◌then◌else◌}
use Rattle.std.proofs.lemmas.Bool.{eqb-false}
use Rattle.c_lexer.specs.declared.token.Placed.{Placed}
use Rattle.c_tree.specs.declared.expr.BinaryOp.{BinaryOp}
use Rattle.c_tree.specs.declared.expr.BinaryOp.TheVariants as op
use Rattle.c_tree.specs.declared.expr.IntType.{IntType}
use Rattle.c_tree.specs.declared.expr.UnaryOp.{UnaryOp}
use Rattle.c_tree.specs.declared.expr.UnaryOp.TheVariants as unary
use Rattle.c_tree.specs.declared.kind.Kind.{Kind}
use Rattle.c_tree.specs.declared.kind.Kind.TheVariants as kind
use Rattle.c_tree.specs.Kinds.{kind_at, ident_at, value_at}
use Rattle.c_tree.specs.Operators.{op_at, sign_of, level_of}
use Rattle.c_tree.specs.ExprTree.{ExprTree}
use Rattle.c_tree.specs.ExprTree as trees
use Rattle.c_tree.specs.Spelling.{Expression, unconditional, conditional, Level, level_zero}
use Rattle.c_tree.specs.Spelling.{level_suc, Chain, chain_end, chain_more, Unary, signed, cast}
use Rattle.c_tree.specs.Spelling.{unsigned, postfix, Parts, parts_end, field, element}
use Rattle.c_tree.specs.Spelling.{Primary, number, null, variable, call, root, new, brackets}
use Rattle.c_tree.specs.Spelling.{SpellsArguments, no_arguments, arguments, MoreArguments, no_more}
use Rattle.c_tree.specs.Spelling.{more}

mutual
  pub data Flat (ts : List Placed) : ℕ → ℕ → Type 0 where
    f_number : {i j : ℕ} → kind_at ts i ≡ kind.Number → Tail ts (i + 1) j → Flat ts i j
    f_null : {i j : ℕ} → kind_at ts i ≡ kind.Null → Tail ts (i + 1) j → Flat ts i j
    f_name : {i j : ℕ} → kind_at ts i ≡ kind.Name → AfterName ts (i + 1) j → Flat ts i j
    f_root : {i j : ℕ} → kind_at ts i ≡ kind.Root → kind_at ts (i + 1) ≡ kind.Dot
        → kind_at ts (i + 1 + 1) ≡ kind.Name → Tail ts (i + 1 + 1 + 1) j → Flat ts i j
    f_new : {i j : ℕ} → kind_at ts i ≡ kind.PmNew → kind_at ts (i + 1) ≡ kind.OpenRound
        → kind_at ts (i + 1 + 1) ≡ kind.Struct
        → kind_at ts (i + 1 + 1 + 1) ≡ kind.Name → kind_at ts (i + 1 + 1 + 1 + 1) ≡ kind.CloseRound
        → Tail ts (i + 1 + 1 + 1 + 1 + 1) j → Flat ts i j
    f_sign : {i j : ℕ} (o : UnaryOp) → sign_of (kind_at ts i) ≡ Some o → Flat ts (i + 1) j
        → Flat ts i j
    f_cast : {i j : ℕ} (n : IntType) → kind_at ts i ≡ kind.OpenRound
        → kind_at ts (i + 1) ≡ kind.Int n → kind_at ts (i + 1 + 1) ≡ kind.CloseRound
        → Flat ts (i + 1 + 1 + 1) j → Flat ts i j
    f_round : {i m j : ℕ} → kind_at ts i ≡ kind.OpenRound → Flat ts (i + 1) m
        → kind_at ts m ≡ kind.CloseRound → Tail ts (m + 1) j → Flat ts i j

  pub data Tail (ts : List Placed) : ℕ → ℕ → Type 0 where
    f_end : {i : ℕ} → Tail ts i i
    f_operator : {i j : ℕ} (o : BinaryOp) → kind_at ts i ≡ kind.Operator o → Flat ts (i + 1) j
        → Tail ts i j
    f_field : {i j : ℕ} → kind_at ts i ≡ kind.Arrow → kind_at ts (i + 1) ≡ kind.Name
        → Tail ts (i + 1 + 1) j → Tail ts i j
    f_index : {i m j : ℕ} → kind_at ts i ≡ kind.OpenSquare → Flat ts (i + 1) m
        → kind_at ts m ≡ kind.CloseSquare → Tail ts (m + 1) j → Tail ts i j
    f_sides : {i m j : ℕ} → kind_at ts i ≡ kind.Question → Flat ts (i + 1) m
        → kind_at ts m ≡ kind.Colon → Flat ts (m + 1) j → Tail ts i j

  -- the tokens that may follow a name
  pub data AfterName (ts : List Placed) : ℕ → ℕ → Type 0 where
    f_plain : {i j : ℕ} → Tail ts i j → AfterName ts i j
    f_call : {i m j : ℕ} → kind_at ts i ≡ kind.OpenRound → FirstOf ts (i + 1) m → Tail ts m j
        → AfterName ts i j

  pub data FirstOf (ts : List Placed) : ℕ → ℕ → Type 0 where
    f_none : {i : ℕ} → kind_at ts i ≡ kind.CloseRound → FirstOf ts i (i + 1)
    f_some : {i m j : ℕ} → Flat ts i m → OthersOf ts m j → FirstOf ts i j

  pub data OthersOf (ts : List Placed) : ℕ → ℕ → Type 0 where
    f_close : {i : ℕ} → kind_at ts i ≡ kind.CloseRound → OthersOf ts i (i + 1)
    f_comma : {i m j : ℕ} → kind_at ts i ≡ kind.Comma → Flat ts (i + 1) m → OthersOf ts m j
        → OthersOf ts i j

-- operators with their right operands, and then perhaps both sides of a condition
data Ops (ts : List Placed) : ℕ → ℕ → Type 0 where
  ops_end : {i : ℕ} → Ops ts i i
  ops_more : {i m j : ℕ} {e : ExprTree} (o : BinaryOp) → kind_at ts i ≡ kind.Operator o
      → Unary ts (i + 1) m e → Ops ts m j → Ops ts i j
  ops_sides : {i m j : ℕ} {a b : ExprTree} → kind_at ts i ≡ kind.Question
      → Expression ts (i + 1) m a → kind_at ts m ≡ kind.Colon → Expression ts (m + 1) j b
      → Ops ts i j

lift : (ts : List Placed) (l i j : ℕ) (e : ExprTree) → Unary ts i j e → Level ts l i j e
lift ts zero i j e u = level_zero u
lift ts (suc l) i j e u = level_suc (lift ts l i j e u) chain_end

-- one more operator and right operand, at its level
chain_snoc : {ts : List Placed} {l i m : ℕ} {a e : ExprTree} → Chain ts l i m a e
    → (n : ℕ) (b : ExprTree) (o : BinaryOp) → op_at (suc l) (kind_at ts m) ≡ Some o
    → Level ts l (m + 1) n b
    → (x : ExprTree) × Chain ts l i n a x
chain_snoc {i = i} {a = a} chain_end n b o h lv =
    (trees.Binary o i a b, chain_more o h lv chain_end)
chain_snoc (chain_more o' is lv' tail) n b o h lv = let r = chain_snoc tail n b o h lv in
    (r.0, chain_more o' is lv' r.1)

-- or one more within the last operand
chain_last : {ts : List Placed} {l i m : ℕ} {a e : ExprTree} → Chain ts l i m a e → (n : ℕ)
    → ((s : ℕ) (e : ExprTree) → Level ts l s m e → (x : ExprTree) × Level ts l s n x)
    → (i ≡ m) ⊎ ((x : ExprTree) × Chain ts l i n a x)
chain_last chain_end n f = inl refl
chain_last {ts} {l} {i} {m} {a} (chain_more {m = q} {b = b} o is lv tail) n f =
    go (chain_last tail n f)
  where
    go : (q ≡ m) ⊎ ((x : ExprTree) × Chain ts l q n (trees.Binary o i a b) x)
        → (i ≡ m) ⊎ ((x : ExprTree) × Chain ts l i n a x)
    go (inl e) = let r = f (i + 1) b (subst (λ q. Level ts l (i + 1) q b) e lv) in
        inr (trees.Binary o i a r.0, chain_more o is r.1 chain_end)
    go (inr (x, c)) = inr (x, chain_more o is lv c)

at_level : (k : Kind) (l : ℕ) (o : BinaryOp) → k ≡ kind.Operator o → nat_eq (level_of o) l ≡ true
    → op_at l k ≡ Some o
at_level k l o h e = ap (op_at l) h ∙ ap (λ b. if b then Some o else None) e

snoc : (ts : List Placed) (l s m n : ℕ) (e b : ExprTree) (o : BinaryOp) → Level ts l s m e
    → kind_at ts m ≡ kind.Operator o → 1 ≤ level_of o → level_of o ≤ l → Unary ts (m + 1) n b
    → (x : ExprTree) × Level ts l s n x
snoc ts zero s m n e b o lv h low high u = absurd (omega arith)
snoc ts (suc l) s m n e b o (level_suc {m = q} {a = a} first c) h low high u =
    go (nat_eq (level_of o) (suc l)) refl (λ less s e lv. snoc ts l s m n e b o lv h low less u)
  where
    within : (q ≡ m) ⊎ ((x : ExprTree) × Chain ts l q n a x)
        → ((s : ℕ) (e : ExprTree) → Level ts l s m e → (x : ExprTree) × Level ts l s n x)
        → (x : ExprTree) × Level ts (suc l) s n x
    within (inl e) f = let r = f s a (subst (λ q. Level ts l s q a) e first) in
        (r.0, level_suc r.1 chain_end)
    within (inr (x, c)) f = (x, level_suc first c)

    go : (test : Bool) → nat_eq (level_of o) (suc l) ≡ test
        → (level_of o ≤ l → (s : ℕ) (e : ExprTree) → Level ts l s m e
        → (x : ExprTree) × Level ts l s n x) → (x : ExprTree) × Level ts (suc l) s n x
    go true same f = let r = chain_snoc c n b o (at_level (kind_at ts m) (suc l) o h same)
        (lift ts l (m + 1) n b u) in (r.0, level_suc first r.1)
    go false other f =
        let less : level_of o ≤ l = let g = eqb-false (level_of o) (suc l) other in omega arith in
        within (chain_last c n (f less)) (f less)

low_level : (o : BinaryOp) → 1 ≤ level_of o
low_level op.Mul = omega arith
low_level op.Div = omega arith
low_level op.Rem = omega arith
low_level op.Add = omega arith
low_level op.Sub = omega arith
low_level op.ShiftLeft = omega arith
low_level op.ShiftRight = omega arith
low_level op.Less = omega arith
low_level op.LessEqual = omega arith
low_level op.Greater = omega arith
low_level op.GreaterEqual = omega arith
low_level op.Equal = omega arith
low_level op.NotEqual = omega arith
low_level op.And = omega arith
low_level op.Xor = omega arith
low_level op.Or = omega arith
low_level op.Both = omega arith
low_level op.Either = omega arith

high_level : (o : BinaryOp) → level_of o ≤ 10
high_level op.Mul = omega arith
high_level op.Div = omega arith
high_level op.Rem = omega arith
high_level op.Add = omega arith
high_level op.Sub = omega arith
high_level op.ShiftLeft = omega arith
high_level op.ShiftRight = omega arith
high_level op.Less = omega arith
high_level op.LessEqual = omega arith
high_level op.Greater = omega arith
high_level op.GreaterEqual = omega arith
high_level op.Equal = omega arith
high_level op.NotEqual = omega arith
high_level op.And = omega arith
high_level op.Xor = omega arith
high_level op.Or = omega arith
high_level op.Both = omega arith
high_level op.Either = omega arith

group : {ts : List Placed} {m j : ℕ} → Ops ts m j → (s : ℕ) (e : ExprTree) → Level ts 10 s m e
    → (x : ExprTree) × Expression ts s j x
group ops_end s e lv = (e, unconditional lv)
group {ts} {m} (ops_more {m = n} {e = b} o is u tail) s e lv =
    let r = snoc ts 10 s m n e b o lv is (low_level o) (high_level o) u in group tail s r.0 r.1
group {ts} {m} (ops_sides {a = a} {b = b} is left colon right) s e lv =
    (trees.Conditional e m a b, conditional lv is left colon right)

whole : (ts : List Placed) (i m j : ℕ) (e : ExprTree) → Unary ts i m e → Ops ts m j
    → (x : ExprTree) × Expression ts i j x
whole ts i m j e u ops = group ops i e (lift ts 10 i m e u)

abbrev Splits : List Placed → ℕ → ℕ → Type 0
Splits ts i j = (m : ℕ) × (e : ExprTree) × Unary ts i m e × Ops ts m j

mutual
  split : {ts : List Placed} {i j : ℕ} → Flat ts i j → Splits ts i j
  split {ts} {i} (f_number is tail) = let r = split_tail tail (trees.Number (value_at ts i)) in
      (r.0, r.1, unsigned (postfix (number is) r.2), r.3)
  split {ts} {i} (f_null is tail) = let r = split_tail tail trees.Null in
      (r.0, r.1, unsigned (postfix (null is) r.2), r.3)
  split {ts} {i} (f_name is b) = split_after b i refl is
  split {ts} {i} (f_root is d n tail) = let r =
      split_tail tail (trees.Root (ident_at ts (i + 1 + 1))) in
      (r.0, r.1, unsigned (postfix (root is d n) r.2), r.3)
  split {ts} {i} (f_new is o s n c tail) = let r =
      split_tail tail (trees.New i (ident_at ts (i + 1 + 1 + 1))) in
      (r.0, r.1, unsigned (postfix (new is o s n c) r.2), r.3)
  split {ts} {i} (f_sign o is f) = let r = split f in
      (r.0, trees.Unary o i r.1, signed o is r.2, r.3)
  split {ts} {i} (f_cast n is word close f) = let r = split f in
      (r.0, trees.Unary (unary.Cast n) (i + 1) r.1, cast n is word close r.2, r.3)
  split {ts} {i} (f_round {m = m} is f close tail) =
      let s = split f in let w = whole ts (i + 1) s.0 m s.1 s.2 s.3 in
      let r = split_tail tail w.0 in (r.0, r.1, unsigned (postfix (brackets is w.1 close) r.2), r.3)

  split_tail : {ts : List Placed} {i j : ℕ} → Tail ts i j → (a : ExprTree)
      → (m : ℕ) × (e : ExprTree) × Parts ts i m a e × Ops ts m j
  split_tail {i = i} f_end a = (i, a, parts_end, ops_end)
  split_tail {i = i} (f_operator o is f) a = let r = split f in
      (i, a, parts_end, ops_more o is r.2 r.3)
  split_tail {ts} {i} (f_field is n tail) a = let r =
      split_tail tail (trees.Arrow a i (ident_at ts (i + 1))) in (r.0, r.1, field is n r.2, r.3)
  split_tail {ts} {i} (f_index {m = m} is f close tail) a =
      let s = split f in let w = whole ts (i + 1) s.0 m s.1 s.2 s.3 in
      let r = split_tail tail (trees.Index a i w.0) in (r.0, r.1, element is w.1 close r.2, r.3)
  split_tail {ts} {i} {j} (f_sides {m = m} is f colon g) a =
      let s = split f in let w = whole ts (i + 1) s.0 m s.1 s.2 s.3 in
      let r = split g in let x = whole ts (m + 1) r.0 j r.1 r.2 r.3 in
      (i, a, parts_end, ops_sides is w.1 colon x.1)

  split_after : {ts : List Placed} {i' j : ℕ} → AfterName ts i' j → (i : ℕ) → i' ≡ i + 1
      → kind_at ts i ≡ kind.Name → Splits ts i j
  split_after {ts} (f_plain tail) i e is =
      let r = split_tail tail (trees.Variable (ident_at ts i)) in (
        r.0,
        r.1,
        unsigned (postfix (subst (λ j. Primary ts i j (trees.Variable (ident_at ts i)))
            (sym e) (variable is)) r.2),
        r.3,
      )
  split_after {ts} (f_call {m = m} opens first tail) i e is =
      let a = split_first first in let r = split_tail tail (trees.Call (ident_at ts i) a.0) in (
        r.0,
        r.1,
        unsigned (postfix (call is (ap (λ i. kind_at ts i) (sym e) ∙ opens)
            (subst (λ i. SpellsArguments ts (i + 1) m a.0) e a.1)) r.2),
        r.3,
      )

  split_first : {ts : List Placed} {i j : ℕ} → FirstOf ts i j → (all : trees.Arguments)
      × SpellsArguments ts i j all
  split_first (f_none is) = (trees.None, no_arguments is)
  split_first {ts} {i} (f_some {m = m} f others) =
      let s = split f in let w = whole ts i s.0 m s.1 s.2 s.3 in
      let r = split_others others in (trees.More i w.0 r.0, arguments w.1 r.1)

  split_others : {ts : List Placed} {i j : ℕ} → OthersOf ts i j → (all : trees.Arguments)
      × MoreArguments ts i j all
  split_others (f_close is) = (trees.None, no_more is)
  split_others {ts} {i} (f_comma {m = m} is f others) =
      let s = split f in let w = whole ts (i + 1) s.0 m s.1 s.2 s.3 in
      let r = split_others others in (trees.More (i + 1) w.0 r.0, more is w.1 r.1)

pub flat_tree : (ts : List Placed) (i j : ℕ) → Flat ts i j → (e : ExprTree) × Expression ts i j e
flat_tree ts i j f = let s = split f in whole ts i s.0 j s.1 s.2 s.3

pub first_tree : (ts : List Placed) (i j : ℕ) → FirstOf ts i j → (all : trees.Arguments)
    × SpellsArguments ts i j all
first_tree ts i j f = split_first f
