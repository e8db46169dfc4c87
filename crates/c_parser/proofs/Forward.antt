-- An expression that is spelled is run through, if nothing is too deep, and its tokens have their
-- weights.
use Rattle.std.proofs.Common.{ℕ, suc, ◌+◌, ◌≡◌, List, [], ◌∷◌, Some, None, Bool, true, false}
use Rattle.std.proofs.Common.{nat_eq, if◌then◌else◌, refl, sym, ap, subst, arith}
use Rattle.c_lexer.specs.declared.token.Placed.{Placed}
use Rattle.c_tree.specs.declared.expr.BinaryOp.{BinaryOp}
use Rattle.c_tree.specs.declared.expr.BinaryOp.TheVariants as op
use Rattle.c_tree.specs.declared.expr.UnaryOp.{UnaryOp}
use Rattle.c_tree.specs.declared.kind.Kind.{Kind}
use Rattle.c_tree.specs.declared.kind.Kind.TheVariants as kind
use Rattle.c_parser.specs.declared.want.Want.{Want}
use Rattle.c_parser.specs.declared.want.Want.TheVariants.{Operand, Rest, Named, Dot, Colon, Opened}
use Rattle.c_parser.specs.declared.want.Want.TheVariants.{FirstArgument}
use Rattle.c_parser.specs.declared.want.Want.TheVariants.{MoreArguments, NewOpen, Ident, StructWord}
use Rattle.c_parser.specs.declared.want.Want.TheVariants.{Round, Square, Value}
use Rattle.c_tree.specs.Kinds.{kind_at}
use Rattle.c_tree.specs.Operators.{op_at, sign_of, level_of}
use Rattle.c_tree.specs.ExprTree.{ExprTree}
use Rattle.c_tree.specs.ExprTree as trees
use Rattle.c_tree.specs.Spelling.{Expression, unconditional, conditional, Level, level_zero}
use Rattle.c_tree.specs.Spelling.{level_suc, Chain, chain_end, chain_more, Unary, signed, cast}
use Rattle.c_tree.specs.Spelling.{unsigned, Postfix, postfix, Parts, parts_end, field}
use Rattle.c_tree.specs.Spelling.{element, Primary, number, null, variable, call, root, new}
use Rattle.c_tree.specs.Spelling.{brackets, SpellsArguments, no_arguments, arguments}
use Rattle.c_tree.specs.Spelling.{MoreArguments as MoreOf, no_more, more}
use Rattle.c_parser.specs.inside.Wants.{Take, apply_move, parser_step, operand}
use Rattle.c_parser.specs.Open.{OpenParts, none_open, one_open}
use Rattle.c_parser.specs.ExprOpen.{expression_operators, level_operators, chain_operators}
use Rattle.c_parser.specs.ExprOpen.{unary_operators}
use Rattle.c_parser.specs.ExprOpen.{postfix_operators, parts_operators, primary_operators}
use Rattle.c_parser.specs.ExprOpen.{expression_open, level_open, chain_open, unary_open}
use Rattle.c_parser.specs.ExprOpen.{postfix_open, parts_open}
use Rattle.c_parser.specs.ExprOpen.{primary_open, arguments_open, more_open}
use Rattle.c_parser.specs.inside.Stacks.{own_weight, weight}
use Rattle.c_parser.proofs.Steps.{IsToken}
use Rattle.c_parser.proofs.RunsPast.{RunsPast, goes, begins_alike, ends_alike, stays, ◌▸◌}
use Rattle.c_parser.proofs.RunsPast.{inside_bracket, after_operators, around_same}

-- the wants after an operand
pub data AfterWant : Want → Type 0 where
  after_rest : (n : ℕ) → AfterWant (Rest n)
  after_name : (n : ℕ) → AfterWant (Named n)

-- the tokens that end an expression
abbrev pub IsEnder : Kind → Type 0
IsEnder kind.CloseRound = Unit {0}
IsEnder kind.CloseSquare = Unit {0}
IsEnder kind.Comma = Unit {0}
IsEnder kind.Colon = Unit {0}
IsEnder kind.Semicolon = Unit {0}
IsEnder _ = ⊥

after_yields : {x : Want} → AfterWant x → (k : Kind) → IsEnder k → (below : List Want)
    → parser_step (x ∷ below) k ≡ parser_step below k
after_yields (after_rest n) kind.CloseRound h below = refl
after_yields (after_rest n) kind.CloseSquare h below = refl
after_yields (after_rest n) kind.Comma h below = refl
after_yields (after_rest n) kind.Colon h below = refl
after_yields (after_rest n) kind.Semicolon h below = refl
after_yields (after_name n) kind.CloseRound h below = refl
after_yields (after_name n) kind.CloseSquare h below = refl
after_yields (after_name n) kind.Comma h below = refl
after_yields (after_name n) kind.Colon h below = refl
after_yields (after_name n) kind.Semicolon h below = refl
after_yields _ _ h below = absurd h

operator_after : {x : Want} → AfterWant x → (o : BinaryOp) (k : List Want)
    → (n : ℕ) × (n ≡ own_weight x + 1) × (parser_step (x ∷ k) (kind.Operator o)
    ≡ Some (Operand n ∷ k))
operator_after (after_rest n) o k = (n + 1, omega arith, refl)
operator_after (after_name n) o k = (n + 1, omega arith, refl)

field_after : {x : Want} → AfterWant x → (k : List Want)
    → (n : ℕ) × (n ≡ own_weight x + 1) × (parser_step (x ∷ k) kind.Arrow
    ≡ Some (Ident ∷ Rest n ∷ k))
field_after (after_rest n) k = (n + 1, omega arith, refl)
field_after (after_name n) k = (n + 1, omega arith, refl)

element_after : {x : Want} → AfterWant x → (k : List Want)
    → (n : ℕ) × (n ≡ own_weight x + 1) × (parser_step (x ∷ k) kind.OpenSquare
    ≡ Some (Operand 0 ∷ Square ∷ Rest n ∷ k))
element_after (after_rest n) k = (n + 1, omega arith, refl)
element_after (after_name n) k = (n + 1, omega arith, refl)

question_after : {x : Want} → AfterWant x → (k : List Want)
    → (n : ℕ) × (n ≡ own_weight x + 1) × (parser_step (x ∷ k) kind.Question
    ≡ Some (Operand 0 ∷ Colon n ∷ k))
question_after (after_rest n) k = (n + 1, omega arith, refl)
question_after (after_name n) k = (n + 1, omega arith, refl)

if_same : (b : Bool) (p o : BinaryOp) → (if b then Some p else None) ≡ Some o → p ≡ o
if_same true p o h = cc
if_same false p o h = cc

pub is_operator : (l : ℕ) (k : Kind) (o : BinaryOp) → op_at l k ≡ Some o → k ≡ kind.Operator o
is_operator l (kind.Operator p) o h = ap kind.Operator (if_same (nat_eq (level_of p) l) p o h)
is_operator l _ o h = cc

pub sign_steps : (n : ℕ) (k : Kind) (o : UnaryOp) → sign_of k ≡ Some o
    → operand n k ≡ Take (Operand (n + 1) ∷ [])
sign_steps n (kind.Operator op.Sub) o h = refl
sign_steps n kind.Not o h = refl
sign_steps n kind.Tilde o h = refl
sign_steps n _ o h = cc

sign_token : (k : Kind) (o : UnaryOp) → sign_of k ≡ Some o → IsToken k
sign_token (kind.Operator op.Sub) o h = tt
sign_token kind.Not o h = tt
sign_token kind.Tilde o h = tt
sign_token _ o h = cc

-- the run past the tokens of an operand or of the parts after it, with m operators so far
abbrev pub Reaches : List Placed → ℕ → List Want → ℕ → List Want → ℕ → List OpenParts → ℕ → Type 0
Reaches ts i s j k around os m = (x : Want) × AfterWant x × (own_weight x ≡ m)
    × RunsPast ts i s j (x ∷ k) around os

-- a token that begins an operand
abbrev pub Begins : Kind → Type 0
Begins kind.Number = Unit {0}
Begins kind.Null = Unit {0}
Begins kind.Name = Unit {0}
Begins kind.Root = Unit {0}
Begins kind.PmNew = Unit {0}
Begins kind.OpenRound = Unit {0}
Begins (kind.Operator op.Sub) = Unit {0}
Begins kind.Not = Unit {0}
Begins kind.Tilde = Unit {0}
Begins _ = ⊥

sign_begins : (k : Kind) (o : UnaryOp) → sign_of k ≡ Some o → Begins k
sign_begins (kind.Operator op.Sub) o h = tt
sign_begins kind.Not o h = tt
sign_begins kind.Tilde o h = tt
sign_begins _ o h = cc

pub primary_begins : {ts : List Placed} {i j : ℕ} {e : ExprTree} → Primary ts i j e
    → Begins (kind_at ts i)
primary_begins (number is) = subst Begins (sym is) tt
primary_begins (null is) = subst Begins (sym is) tt
primary_begins (variable is) = subst Begins (sym is) tt
primary_begins (call is o a) = subst Begins (sym is) tt
primary_begins (root is d n) = subst Begins (sym is) tt
primary_begins (new is o s n c) = subst Begins (sym is) tt
primary_begins (brackets is e c) = subst Begins (sym is) tt

pub postfix_begins : {ts : List Placed} {i j : ℕ} {e : ExprTree} → Postfix ts i j e
    → Begins (kind_at ts i)
postfix_begins (postfix p parts) = primary_begins p

pub unary_begins : {ts : List Placed} {i j : ℕ} {e : ExprTree} → Unary ts i j e
    → Begins (kind_at ts i)
unary_begins {ts} {i} (signed o is u) = sign_begins (kind_at ts i) o is
unary_begins (cast n is word close u) = subst Begins (sym is) tt
unary_begins (unsigned p) = postfix_begins p

level_begins : {ts : List Placed} {l i j : ℕ} {e : ExprTree} → Level ts l i j e
    → Begins (kind_at ts i)
level_begins (level_zero u) = unary_begins u
level_begins (level_suc a c) = level_begins a

pub expression_begins : {ts : List Placed} {i j : ℕ} {e : ExprTree} → Expression ts i j e
    → Begins (kind_at ts i)
expression_begins (unconditional lv) = level_begins lv
expression_begins (conditional lv is left colon right) = level_begins lv

first_enters : (k : List Want) (t : Kind) → Begins t → parser_step (FirstArgument ∷ k) t
    ≡ parser_step (Operand 0 ∷ MoreArguments ∷ k) t
first_enters k kind.Number h = refl
first_enters k kind.Null h = refl
first_enters k kind.Name h = refl
first_enters k kind.Root h = refl
first_enters k kind.PmNew h = refl
first_enters k kind.OpenRound h = refl
first_enters k (kind.Operator op.Sub) h = refl
first_enters k kind.Not h = refl
first_enters k kind.Tilde h = refl
first_enters k _ h = absurd h

-- what an open bracket wants may begin an expression
opened_enters : (n : ℕ) (k : List Want) (t : Kind) → Begins t
    → parser_step (Opened n ∷ k) t ≡ parser_step (Operand 0 ∷ Round ∷ Rest n ∷ k) t
opened_enters n k kind.Number h = refl
opened_enters n k kind.Null h = refl
opened_enters n k kind.Name h = refl
opened_enters n k kind.Root h = refl
opened_enters n k kind.PmNew h = refl
opened_enters n k kind.OpenRound h = refl
opened_enters n k (kind.Operator op.Sub) h = refl
opened_enters n k kind.Not h = refl
opened_enters n k kind.Tilde h = refl
opened_enters n k _ h = absurd h

pub value_enters : (k : List Want) (t : Kind) → Begins t
    → parser_step (Value ∷ k) t ≡ parser_step (Operand 0 ∷ k) t
value_enters k kind.Number h = refl
value_enters k kind.Null h = refl
value_enters k kind.Name h = refl
value_enters k kind.Root h = refl
value_enters k kind.PmNew h = refl
value_enters k kind.OpenRound h = refl
value_enters k (kind.Operator op.Sub) h = refl
value_enters k kind.Not h = refl
value_enters k kind.Tilde h = refl
value_enters k _ h = absurd h

-- such a token ends an expression
ends_at : (ts : List Placed) (j : ℕ) (t : Kind) → kind_at ts j ≡ t → IsEnder t → {x : Want}
    → AfterWant x → (k : List Want)
    → parser_step (x ∷ k) (kind_at ts j) ≡ parser_step k (kind_at ts j)
ends_at ts j t is ender b k = after_yields b (kind_at ts j) (subst IsEnder (sym is) ender) k

-- an expression ends before such a token
pub over : {ts : List Placed} {i j around : ℕ} {s : List Want} {os : List OpenParts} (t : Kind)
    → kind_at ts j ≡ t → IsEnder t → {x : Want} → AfterWant x → (k : List Want)
    → RunsPast ts i s j (x ∷ k) around os → RunsPast ts i s j k around os
over {ts} {j = j} t is ender {x} b k part =
    ends_alike ts j (x ∷ k) k (ends_at ts j t is ender b k) part

-- `( struct NAME )`
pub new_run : (ts : List Placed) (i around : ℕ) (k : List Want) → around ≡ weight k
    → kind_at ts i ≡ kind.OpenRound → kind_at ts (i + 1) ≡ kind.Struct
    → kind_at ts (i + 1 + 1) ≡ kind.Name → kind_at ts (i + 1 + 1 + 1) ≡ kind.CloseRound
    → RunsPast ts i (NewOpen ∷ k) (i + 1 + 1 + 1 + 1) k around
    (one_open ∷ one_open ∷ one_open ∷ none_open ∷ [])
new_run ts i around k same opens s name close =
    goes ts i around one_open (NewOpen ∷ k) (StructWord ∷ Ident ∷ Round ∷ k) kind.OpenRound opens tt
    refl (omega (arith, same))
    ▸ goes ts (i + 1) around one_open (StructWord ∷ Ident ∷ Round ∷ k) (Ident ∷ Round ∷ k)
    kind.Struct s tt refl (omega (arith, same))
    ▸ goes ts (i + 1 + 1) around one_open (Ident ∷ Round ∷ k) (Round ∷ k) kind.Name name tt refl
    (omega (arith, same))
    ▸ goes ts (i + 1 + 1 + 1) around none_open (Round ∷ k) k kind.CloseRound close tt refl
    (omega (arith, same))

mutual
  pub expression_reaches : {ts : List Placed} {i j : ℕ} {e : ExprTree} (d : Expression ts i j e)
      (n : ℕ) (k : List Want)
      → Reaches ts i (Operand n ∷ k) j k (n + weight k) (expression_open d)
      (n + expression_operators d)
  expression_reaches (unconditional lv) n k = level_runs lv n k
  expression_reaches {ts} (conditional {m = m} {n = q} lv is left colon right) n k =
      let r = level_runs lv n k in
      let p = question_after r.1 k in
      let s = expression_reaches left 0 (Colon p.0 ∷ k) in
      let u = expression_reaches right p.0 k in (
        u.0,
        u.1,
        omega (arith, p.1, r.2, u.2),
        r.3 ▸ after_operators (level_operators lv + 1) (omega (arith, p.1, r.2))
            (goes ts m (p.0 + weight k) none_open (r.0 ∷ k) (Operand 0 ∷ Colon p.0 ∷ k)
            kind.Question is tt p.2 (omega arith)
            ▸ around_same (omega arith) (over kind.Colon colon tt s.1 (Colon p.0 ∷ k) s.3)
            ▸ goes ts q (p.0 + weight k) none_open (Colon p.0 ∷ k) (Operand p.0 ∷ k) kind.Colon
            colon tt refl (omega arith)
            ▸ u.3),
      )

  pub level_runs : {ts : List Placed} {l i j : ℕ} {e : ExprTree} (lv : Level ts l i j e) (n : ℕ)
      (k : List Want)
      → Reaches ts i (Operand n ∷ k) j k (n + weight k) (level_open lv) (n + level_operators lv)
  level_runs (level_zero u) n k = unary_runs u n k
  level_runs (level_suc a c) n k =
      let r = level_runs a n k in
      let s = chain_runs c r.0 r.1 k in (
        s.0,
        s.1,
        omega (arith, r.2, s.2),
        r.3 ▸ after_operators (level_operators a) (omega (arith, r.2)) s.3,
      )

  pub chain_runs : {ts : List Placed} {l i j : ℕ} {a e : ExprTree} (c : Chain ts l i j a e)
      (x : Want) → AfterWant x → (k : List Want)
      → Reaches ts i (x ∷ k) j k (own_weight x + weight k) (chain_open c)
      (own_weight x + chain_operators c)
  chain_runs chain_end x b k = (x, b, omega arith, stays (x ∷ k))
  chain_runs {ts} {l} {i} (chain_more o is lv tail) x b k =
      let p = operator_after b o k in
      let r = level_runs lv p.0 k in
      let s = chain_runs tail r.0 r.1 k in (
        s.0,
        s.1,
        omega (arith, p.1, r.2, s.2),
        after_operators 1 (omega (arith, p.1)) (goes ts i (p.0 + weight k) none_open (x ∷ k)
            (Operand p.0 ∷ k) (kind.Operator o) (is_operator (suc l) (kind_at ts i) o is) tt p.2
            (omega arith)
            ▸ r.3 ▸ after_operators (level_operators lv) (omega (arith, r.2)) s.3),
      )

  pub unary_runs : {ts : List Placed} {i j : ℕ} {e : ExprTree} (u : Unary ts i j e) (n : ℕ)
      (k : List Want)
      → Reaches ts i (Operand n ∷ k) j k (n + weight k) (unary_open u) (n + unary_operators u)
  unary_runs {ts} {i} (signed o is u) n k =
      let r = unary_runs u (n + 1) k in (
        r.0,
        r.1,
        omega (arith, r.2),
        after_operators 1 (omega arith) (goes ts i (n + 1 + weight k) none_open (Operand n ∷ k)
            (Operand (n + 1) ∷ k) (kind_at ts i) refl (sign_token (kind_at ts i) o is)
            (ap (λ m. apply_move m k (parser_step k (kind_at ts i)))
            (sign_steps n (kind_at ts i) o is)) (omega arith)
            ▸ r.3),
      )
  unary_runs {ts} {i} (cast m is word close u) n k =
      let r = unary_runs u (n + 1) k in (
        r.0,
        r.1,
        omega (arith, r.2),
        goes ts i (n + weight k) one_open (Operand n ∷ k) (Opened n ∷ k) kind.OpenRound is tt refl
            (omega arith)
            ▸ after_operators 1 (omega arith) (goes ts (i + 1) (n + 1 + weight k) one_open
            (Opened n ∷ k) (Round ∷ Operand (n + 1) ∷ k) (kind.Int m) word tt refl (omega arith)
            ▸ goes ts (i + 1 + 1) (n + 1 + weight k) none_open (Round ∷ Operand (n + 1) ∷ k)
            (Operand (n + 1) ∷ k) kind.CloseRound close tt refl (omega arith)
            ▸ r.3),
      )
  unary_runs (unsigned p) n k = postfix_runs p n k

  pub postfix_runs : {ts : List Placed} {i j : ℕ} {e : ExprTree} (p : Postfix ts i j e) (n : ℕ)
      (k : List Want)
      → Reaches ts i (Operand n ∷ k) j k (n + weight k) (postfix_open p) (n + postfix_operators p)
  postfix_runs (postfix p parts) n k =
      let r = primary_runs p n k in
      let s = parts_run parts r.0 r.1 k in (
        s.0,
        s.1,
        omega (arith, r.2, s.2),
        r.3 ▸ after_operators (primary_operators p) (omega (arith, r.2)) s.3,
      )

  pub parts_run : {ts : List Placed} {i j : ℕ} {a e : ExprTree} (p : Parts ts i j a e) (x : Want)
      → AfterWant x → (k : List Want)
      → Reaches ts i (x ∷ k) j k (own_weight x + weight k) (parts_open p)
      (own_weight x + parts_operators p)
  parts_run parts_end x b k = (x, b, omega arith, stays (x ∷ k))
  parts_run {ts} {i} (field is name tail) x b k =
      let f = field_after b k in
      let s = parts_run tail (Rest f.0) (after_rest f.0) k in
      let m : ℕ = own_weight (Rest f.0) + weight k in (
        s.0,
        s.1,
        omega (arith, f.1, s.2),
        after_operators 1 (omega (arith, f.1)) (goes ts i m none_open (x ∷ k) (Ident ∷ Rest f.0 ∷ k)
            kind.Arrow is tt f.2 (omega arith)
            ▸ goes ts (i + 1) m none_open (Ident ∷ Rest f.0 ∷ k) (Rest f.0 ∷ k) kind.Name name tt
            refl (omega arith) ▸ s.3),
      )
  parts_run {ts} {i} (element {m = m} is lv close tail) x b k =
      let f = element_after b k in
      let s = parts_run tail (Rest f.0) (after_rest f.0) k in
      let r = expression_reaches lv 0 (Square ∷ Rest f.0 ∷ k) in
      let q : ℕ = own_weight (Rest f.0) + weight k in (
        s.0,
        s.1,
        omega (arith, f.1, s.2),
        after_operators 1 (omega (arith, f.1)) (goes ts i q one_open (x ∷ k)
            (Operand 0 ∷ Square ∷ Rest f.0 ∷ k) kind.OpenSquare is tt f.2 (omega arith)
            ▸ inside_bracket (omega arith) (over kind.CloseSquare close tt r.1
            (Square ∷ Rest f.0 ∷ k) r.3)
            ▸ goes ts m q none_open (Square ∷ Rest f.0 ∷ k) (Rest f.0 ∷ k) kind.CloseSquare close tt
            refl (omega arith) ▸ s.3),
      )

  pub primary_runs : {ts : List Placed} {i j : ℕ} {e : ExprTree} (p : Primary ts i j e) (n : ℕ)
      (k : List Want)
      → Reaches ts i (Operand n ∷ k) j k (n + weight k) (primary_open p) (n + primary_operators p)
  primary_runs {ts} {i} (number is) n k = (
    Rest n,
    after_rest n,
    omega arith,
    goes ts i (n + weight k) none_open (Operand n ∷ k) (Rest n ∷ k) kind.Number is tt refl
        (omega arith),
  )
  primary_runs {ts} {i} (null is) n k = (
    Rest n,
    after_rest n,
    omega arith,
    goes ts i (n + weight k) none_open (Operand n ∷ k) (Rest n ∷ k) kind.Null is tt refl
        (omega arith),
  )
  primary_runs {ts} {i} (variable is) n k = (
    Named n,
    after_name n,
    omega arith,
    goes ts i (n + weight k) none_open (Operand n ∷ k) (Named n ∷ k) kind.Name is tt refl
        (omega arith),
  )
  primary_runs {ts} {i} (call is opens all) n k = (
    Rest n,
    after_rest n,
    omega arith,
    goes ts i (n + weight k) none_open (Operand n ∷ k) (Named n ∷ k) kind.Name is tt refl
        (omega arith)
        ▸ goes ts (i + 1) (n + weight k) one_open (Named n ∷ k) (FirstArgument ∷ Rest n ∷ k)
        kind.OpenRound opens tt refl (omega arith)
        ▸ arguments_run all (n + weight k) (Rest n ∷ k) (omega arith),
  )
  primary_runs {ts} {i} (root is dot name) n k = (
    Rest (n + 1),
    after_rest (n + 1),
    omega arith,
    goes ts i (n + weight k) none_open (Operand n ∷ k) (Dot n ∷ k) kind.Root is tt refl
        (omega arith)
        ▸ after_operators 1 (omega arith) (goes ts (i + 1) (n + 1 + weight k) none_open (Dot n ∷ k)
        (Ident ∷ Rest (n + 1) ∷ k) kind.Dot dot tt refl (omega arith)
        ▸ goes ts (i + 1 + 1) (n + 1 + weight k) none_open (Ident ∷ Rest (n + 1) ∷ k)
        (Rest (n + 1) ∷ k) kind.Name name tt refl (omega arith)),
  )
  primary_runs {ts} {i} (new is opens s name close) n k = (
    Rest n,
    after_rest n,
    omega arith,
    goes ts i (n + weight k) none_open (Operand n ∷ k) (NewOpen ∷ Rest n ∷ k) kind.PmNew is tt refl
        (omega arith)
        ▸ new_run ts (i + 1) (n + weight k) (Rest n ∷ k) (omega arith) opens s name close,
  )
  primary_runs {ts} {i} (brackets {m = m} is lv close) n k =
      let r = expression_reaches lv 0 (Round ∷ Rest n ∷ k) in (
        Rest n,
        after_rest n,
        omega arith,
        goes ts i (n + weight k) one_open (Operand n ∷ k) (Opened n ∷ k) kind.OpenRound is tt refl
            (omega arith)
            ▸ begins_alike ts (i + 1) (Opened n ∷ k) (Operand 0 ∷ Round ∷ Rest n ∷ k)
            (opened_enters n k (kind_at ts (i + 1)) (expression_begins lv))
            (inside_bracket (omega arith) (over kind.CloseRound close tt r.1 (Round ∷ Rest n ∷ k)
            r.3))
            ▸ goes ts m (n + weight k) none_open (Round ∷ Rest n ∷ k) (Rest n ∷ k) kind.CloseRound
            close tt refl (omega arith),
      )

  pub arguments_run : {ts : List Placed} {i j : ℕ} {all : trees.Arguments}
      (d : SpellsArguments ts i j all) (around : ℕ) (k : List Want) → around ≡ weight k
      → RunsPast ts i (FirstArgument ∷ k) j k around (arguments_open d)
  arguments_run {ts} {i} (no_arguments is) around k same =
      goes ts i around none_open (FirstArgument ∷ k) k kind.CloseRound is tt refl
      (omega (arith, same))
  arguments_run {ts} {i} (arguments {m = m} lv tail) around k same =
      let r = expression_reaches lv 0 (MoreArguments ∷ k) in
      begins_alike ts i (FirstArgument ∷ k) (Operand 0 ∷ MoreArguments ∷ k)
      (first_enters k (kind_at ts i) (expression_begins lv))
      (inside_bracket (omega (arith, same)) r.3 ▸ more_run tail r.1 around k same)

  pub more_run : {ts : List Placed} {i j : ℕ} {all : trees.Arguments} (d : MoreOf ts i j all)
      → {x : Want} → AfterWant x → (around : ℕ) (k : List Want) → around ≡ weight k
      → RunsPast ts i (x ∷ MoreArguments ∷ k) j k around (more_open d)
  more_run {ts} {i} (no_more is) {x} b around k same =
      begins_alike ts i (x ∷ MoreArguments ∷ k) (MoreArguments ∷ k)
      (ends_at ts i kind.CloseRound is tt b (MoreArguments ∷ k))
      (goes ts i around none_open (MoreArguments ∷ k) k kind.CloseRound is tt refl
      (omega (arith, same)))
  more_run {ts} {i} (more is lv tail) {x} b around k same =
      let r = expression_reaches lv 0 (MoreArguments ∷ k) in
      begins_alike ts i (x ∷ MoreArguments ∷ k) (MoreArguments ∷ k)
      (ends_at ts i kind.Comma is tt b (MoreArguments ∷ k))
      (goes ts i around one_open (MoreArguments ∷ k) (Operand 0 ∷ MoreArguments ∷ k) kind.Comma
      is tt refl (omega (arith, same))
      ▸ inside_bracket (omega (arith, same)) r.3 ▸ more_run tail r.1 around k same)

pub expression_runs : {ts : List Placed} {i j : ℕ} {e : ExprTree} (lv : Expression ts i j e)
    (t : Kind) → kind_at ts j ≡ t → IsEnder t → (around n : ℕ) (k : List Want)
    → around ≡ n + weight k → RunsPast ts i (Operand n ∷ k) j k around (expression_open lv)
expression_runs lv t is ender around n k same =
    let r = expression_reaches lv n k in around_same (sym same) (over t is ender r.1 k r.3)
