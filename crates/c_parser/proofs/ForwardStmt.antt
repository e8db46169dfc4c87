-- Statements that are spelled are run through, if nothing is too deep, and their tokens have their
-- weights.
use Rattle.std.proofs.Common.{ℕ, ◌+◌, ◌≡◌, ◌≢◌, ◌⊎◌, inl, inr, List, [], ◌∷◌, Option, Some, None}
use Rattle.std.proofs.Common.{Bool, true, false, refl, sym, ap, ◌∙◌, subst, arith}
use Rattle.c_lexer.specs.declared.token.Placed.{Placed}
use Rattle.c_tree.specs.declared.expr.BinaryOp.TheVariants as op
use Rattle.c_tree.specs.declared.stmt.AssignOp.{AssignOp}
use Rattle.c_tree.specs.declared.stmt.AssignOp.TheVariants as assign
use Rattle.c_tree.specs.declared.stmt.StepOp.{StepOp}
use Rattle.c_tree.specs.declared.kind.Kind.{Kind}
use Rattle.c_tree.specs.declared.kind.Kind.TheVariants as kind
use Rattle.c_parser.specs.declared.want.Want.{Want}
use Rattle.c_parser.specs.declared.want.Want.TheVariants.{Operand, FirstArgument, NewOpen, Ident}
use Rattle.c_parser.specs.declared.want.Want.TheVariants.{Semicolon, Star, WhileWord, Round, Square}
use Rattle.c_parser.specs.declared.want.Want.TheVariants.{Target, NamedTarget, Called, DotTarget}
use Rattle.c_parser.specs.declared.want.Want.TheVariants.{OpenExpression, OpenNothing, Initial}
use Rattle.c_parser.specs.declared.want.Want.TheVariants.{Value, Body, Bare, Else, Block, OpenFor}
use Rattle.c_parser.specs.declared.want.Want.TheVariants.{ForFirst, ForThird}
use Rattle.c_tree.specs.Kinds.{kind_at}
use Rattle.c_tree.specs.ExprTree.{ExprTree}
use Rattle.c_tree.specs.StmtTree.{TypeTree, DeclarationTree, SimpleTree, FirstTree, StmtTree}
use Rattle.c_tree.specs.StmtTree.{Statements}
use Rattle.c_tree.specs.Spelling.{Postfix, postfix, Parts, parts_end, field, element, Primary}
use Rattle.c_tree.specs.Spelling.{number, null, variable, call, root, new, brackets}
use Rattle.c_tree.specs.StmtSpelling.{Typed, int, pointer, Declares, plain, initial, Bracketed}
use Rattle.c_tree.specs.StmtSpelling.{bracketed, Acts, assigns, steps, Simply, acts, calls, frees}
use Rattle.c_tree.specs.StmtSpelling.{aborts, FirstPart, first_none, first_declares, first_simply}
use Rattle.c_tree.specs.StmtSpelling.{ValuePart, value_none, value_some, ThirdPart, third_none}
use Rattle.c_tree.specs.StmtSpelling.{third_some, Spells, empty, declares, simply, block, if_alone}
use Rattle.c_tree.specs.StmtSpelling.{if_else, repeats, repeats_after, counts, breaks, continues}
use Rattle.c_tree.specs.StmtSpelling.{returns, SpellsAll, nothing, something}
use Rattle.c_parser.specs.inside.Wants.{apply_move, parser_step, simple_begins, statement}
use Rattle.c_parser.specs.inside.Wants.{type_begins}
use Rattle.c_parser.specs.Open.{OpenParts, open_weight, none_open, one_open}
use Rattle.c_parser.specs.ExprOpen.{primary_operators, parts_operators, primary_open, parts_open}
use Rattle.c_parser.specs.ExprOpen.{postfix_open}
use Rattle.c_parser.specs.StmtOpen.{typed_open, declares_open, bracketed_open, acts_open}
use Rattle.c_parser.specs.StmtOpen.{simply_open, first_open, value_open, third_open, has_braces}
use Rattle.c_parser.specs.StmtOpen.{body_open, statement_open, statements_open}
use Rattle.c_parser.specs.inside.Stacks.{own_weight, weight}
use Rattle.c_parser.proofs.Steps.{IsToken}
use Rattle.c_parser.proofs.RunsPast.{RunsPast, goes, begins_alike, ends_alike, stays, ◌▸◌}
use Rattle.c_parser.proofs.RunsPast.{inside_bracket, inside_body, after_operators}
use Rattle.c_parser.proofs.Forward.{expression_runs, arguments_run, new_run, expression_begins}
use Rattle.c_parser.proofs.Forward.{value_enters}
use Rattle.c_parser.proofs.Finish.{else_step}

-- a token that opens a construct: the parser puts what must still come in it on the stack
pub enters : (ts : List Placed) (i around : ℕ) (o : OpenParts) (s next : List Want)
    (m : Kind → Option (List Want)) (t : Kind)
    → parser_step s (kind_at ts i) ≡ m (kind_at ts i) → kind_at ts i ≡ t → IsToken t
    → m t ≡ Some next → open_weight o + around ≡ weight next
    → RunsPast ts i s (i + 1) next around (o ∷ [])
enters ts i around o s next m t enter is token may adds =
    goes ts i around o s next t is token (ap (parser_step s) (sym is) ∙ enter ∙ ap m is ∙ may) adds

abbrev pub TypeBegins : Kind → Type 0
TypeBegins (kind.Int y) = Unit {0}
TypeBegins kind.Struct = Unit {0}
TypeBegins _ = ⊥

pub typed_begins : {ts : List Placed} {i j : ℕ} {t : TypeTree} → Typed ts i j t
    → TypeBegins (kind_at ts i)
typed_begins (int y is) = subst TypeBegins (sym is) tt
typed_begins (pointer is n s) = subst TypeBegins (sym is) tt

-- the step of a type's own tokens, before the wants below it
abbrev pub typed_step : List Want → Kind → Option (List Want)
typed_step below t = apply_move (type_begins t) below None

pub typed_runs : {ts : List Placed} {i j : ℕ} {t : TypeTree} (d : Typed ts i j t) (around : ℕ)
    (s below : List Want) → around ≡ weight below
    → parser_step s (kind_at ts i) ≡ typed_step below (kind_at ts i)
    → RunsPast ts i s j below around (typed_open d)
typed_runs {ts} {i} (int y is) around s below same enter =
    enters ts i around none_open s below (typed_step below) (kind.Int y) enter is tt refl
    (omega (arith, same))
typed_runs {ts} {i} (pointer is name star) around s below same enter =
    enters ts i around none_open s (Ident ∷ Star ∷ below) (typed_step below) kind.Struct enter is tt
    refl (omega (arith, same))
    ▸ goes ts (i + 1) around none_open (Ident ∷ Star ∷ below) (Star ∷ below) kind.Name name tt refl
    (omega (arith, same))
    ▸ goes ts (i + 1 + 1) around none_open (Star ∷ below) below (kind.Operator op.Mul) star tt refl
    (omega (arith, same))

initial_yields : (k : List Want) (t : Kind) → t ≡ kind.Semicolon
    → parser_step (Initial ∷ k) t ≡ parser_step k t
initial_yields k t is = subst (λ t. parser_step (Initial ∷ k) t ≡ parser_step k t) (sym is) refl

declares_run : {ts : List Placed} {i j : ℕ} {d : DeclarationTree} (h : Declares ts i j d)
    → kind_at ts j ≡ kind.Semicolon → (around : ℕ) (s below : List Want) → around ≡ weight below
    → parser_step s (kind_at ts i) ≡ typed_step (Ident ∷ Initial ∷ below) (kind_at ts i)
    → RunsPast ts i s j below around (declares_open h)
declares_run {ts} (plain {m = m} ty name) semi around s below same enter =
    ends_alike ts (m + 1) (Initial ∷ below) below (initial_yields below (kind_at ts (m + 1)) semi)
    (typed_runs ty around s (Ident ∷ Initial ∷ below) (omega (arith, same)) enter
    ▸ goes ts m around none_open (Ident ∷ Initial ∷ below) (Initial ∷ below) kind.Name name tt refl
    (omega (arith, same)))
declares_run {ts} (initial {m = m} ty name is lv) semi around s below same enter =
    typed_runs ty around s (Ident ∷ Initial ∷ below) (omega (arith, same)) enter
    ▸ goes ts m around none_open (Ident ∷ Initial ∷ below) (Initial ∷ below) kind.Name name tt refl
    (omega (arith, same))
    ▸ goes ts (m + 1) around none_open (Initial ∷ below) (Operand 0 ∷ below)
    (kind.Assign assign.Set) is tt refl (omega (arith, same))
    ▸ expression_runs lv kind.Semicolon semi tt around 0 below (omega (arith, same))

pub declares_begins : {ts : List Placed} {i j : ℕ} {d : DeclarationTree} → Declares ts i j d
    → TypeBegins (kind_at ts i)
declares_begins (plain ty n) = typed_begins ty
declares_begins (initial ty n i lv) = typed_begins ty

bracketed_runs : {ts : List Placed} {i j : ℕ} {e : ExprTree} (d : Bracketed ts i j e) (around : ℕ)
    (k : List Want) → around ≡ weight k
    → RunsPast ts i (OpenExpression ∷ k) j k around (bracketed_open d)
bracketed_runs {ts} {i} (bracketed {m = m} is lv close) around k same =
    goes ts i around one_open (OpenExpression ∷ k) (Operand 0 ∷ Round ∷ k) kind.OpenRound is tt refl
    (omega (arith, same))
    ▸ inside_bracket refl (expression_runs lv kind.CloseRound close tt (around + 1) 0 (Round ∷ k)
    (omega (arith, same)))
    ▸ goes ts m around none_open (Round ∷ k) k kind.CloseRound close tt refl (omega (arith, same))

-- the wants after a target
data Aimed : Want → Type 0 where
  aimed_target : (n : ℕ) → Aimed (Target n)
  aimed_name : Aimed NamedTarget
  aimed_call : Aimed Called

field_aimed : {x : Want} → Aimed x → (k : List Want)
    → (n : ℕ) × (n ≡ own_weight x + 1) × (parser_step (x ∷ k) kind.Arrow
    ≡ Some (Ident ∷ Target n ∷ k))
field_aimed (aimed_target n) k = (n + 1, omega arith, refl)
field_aimed aimed_name k = (1, omega arith, refl)
field_aimed aimed_call k = (1, omega arith, refl)

element_aimed : {x : Want} → Aimed x → (k : List Want)
    → (n : ℕ) × (n ≡ own_weight x + 1) × (parser_step (x ∷ k) kind.OpenSquare
    ≡ Some (Operand 0 ∷ Square ∷ Target n ∷ k))
element_aimed (aimed_target n) k = (n + 1, omega arith, refl)
element_aimed aimed_name k = (1, omega arith, refl)
element_aimed aimed_call k = (1, omega arith, refl)

-- the run past the tokens of a target, with m operators so far
abbrev Aims : List Placed → ℕ → List Want → ℕ → List Want → ℕ → List OpenParts → ℕ → Type 0
Aims ts i s j k around os m = (y : Want) × Aimed y × (own_weight y ≡ m)
    × RunsPast ts i s j (y ∷ k) around os

parts_aim : {ts : List Placed} {i j : ℕ} {a e : ExprTree} (p : Parts ts i j a e) (x : Want)
    → Aimed x → (k : List Want)
    → Aims ts i (x ∷ k) j k (own_weight x + weight k) (parts_open p)
    (own_weight x + parts_operators p)
parts_aim parts_end x b k = (x, b, omega arith, stays (x ∷ k))
parts_aim {ts} {i} (field is name tail) x b k =
    let f = field_aimed b k in
    let s = parts_aim tail (Target f.0) (aimed_target f.0) k in
    let q : ℕ = own_weight (Target f.0) + weight k in (
      s.0,
      s.1,
      omega (arith, f.1, s.2),
      after_operators 1 (omega (arith, f.1)) (goes ts i q none_open (x ∷ k)
          (Ident ∷ Target f.0 ∷ k) kind.Arrow is tt f.2 (omega arith)
          ▸ goes ts (i + 1) q none_open (Ident ∷ Target f.0 ∷ k) (Target f.0 ∷ k) kind.Name name tt
          refl (omega arith) ▸ s.3),
    )
parts_aim {ts} {i} (element {m = m} is lv close tail) x b k =
    let f = element_aimed b k in
    let s = parts_aim tail (Target f.0) (aimed_target f.0) k in
    let q : ℕ = own_weight (Target f.0) + weight k in (
      s.0,
      s.1,
      omega (arith, f.1, s.2),
      after_operators 1 (omega (arith, f.1)) (goes ts i q one_open (x ∷ k)
          (Operand 0 ∷ Square ∷ Target f.0 ∷ k) kind.OpenSquare is tt f.2 (omega arith)
          ▸ inside_bracket refl (expression_runs lv kind.CloseSquare close tt (q + 1) 0
          (Square ∷ Target f.0 ∷ k) (omega arith))
          ▸ goes ts m q none_open (Square ∷ Target f.0 ∷ k) (Target f.0 ∷ k) kind.CloseSquare close
          tt refl (omega arith) ▸ s.3),
    )

-- the tokens that begin a simple statement
abbrev pub SimpleBegins : Kind → Type 0
SimpleBegins kind.Number = Unit {0}
SimpleBegins kind.Null = Unit {0}
SimpleBegins kind.Name = Unit {0}
SimpleBegins kind.Root = Unit {0}
SimpleBegins kind.PmNew = Unit {0}
SimpleBegins kind.OpenRound = Unit {0}
SimpleBegins kind.PmFree = Unit {0}
SimpleBegins kind.Abort = Unit {0}
SimpleBegins _ = ⊥

abbrev pub simple_step : List Want → Kind → Option (List Want)
simple_step below t = apply_move (simple_begins t) below None

primary_aims : {ts : List Placed} {i j : ℕ} {e : ExprTree} (p : Primary ts i j e) (around : ℕ)
    (s below : List Want) → around ≡ weight below
    → parser_step s (kind_at ts i) ≡ simple_step below (kind_at ts i)
    → Aims ts i s j below around (primary_open p) (primary_operators p)
primary_aims {ts} {i} (number is) around s below same enter = (
  Target 0,
  aimed_target 0,
  omega arith,
  enters ts i around none_open s (Target 0 ∷ below) (simple_step below) kind.Number enter is tt refl
      (omega (arith, same)),
)
primary_aims {ts} {i} (null is) around s below same enter = (
  Target 0,
  aimed_target 0,
  omega arith,
  enters ts i around none_open s (Target 0 ∷ below) (simple_step below) kind.Null enter is tt refl
      (omega (arith, same)),
)
primary_aims {ts} {i} (variable is) around s below same enter = (
  NamedTarget,
  aimed_name,
  omega arith,
  enters ts i around none_open s (NamedTarget ∷ below) (simple_step below) kind.Name enter is tt
      refl (omega (arith, same)),
)
primary_aims {ts} {i} (call is opens all) around s below same enter = (
  Called,
  aimed_call,
  omega arith,
  enters ts i around none_open s (NamedTarget ∷ below) (simple_step below) kind.Name enter is tt
      refl (omega (arith, same))
      ▸ goes ts (i + 1) around one_open (NamedTarget ∷ below) (FirstArgument ∷ Called ∷ below)
      kind.OpenRound opens tt refl (omega (arith, same))
      ▸ arguments_run all around (Called ∷ below) (omega (arith, same)),
)
primary_aims {ts} {i} (root is dot name) around s below same enter = (
  Target 1,
  aimed_target 1,
  omega arith,
  enters ts i around none_open s (DotTarget ∷ below) (simple_step below) kind.Root enter is tt refl
      (omega (arith, same))
      ▸ after_operators 1 refl (goes ts (i + 1) (around + 1) none_open (DotTarget ∷ below)
      (Ident ∷ Target 1 ∷ below) kind.Dot dot tt refl (omega (arith, same))
      ▸ goes ts (i + 1 + 1) (around + 1) none_open (Ident ∷ Target 1 ∷ below) (Target 1 ∷ below)
      kind.Name name tt refl (omega (arith, same))),
)
primary_aims {ts} {i} (new is opens word name close) around s below same enter = (
  Target 0,
  aimed_target 0,
  omega arith,
  enters ts i around none_open s (NewOpen ∷ Target 0 ∷ below) (simple_step below) kind.PmNew enter
      is tt refl (omega (arith, same))
      ▸ new_run ts (i + 1) around (Target 0 ∷ below) (omega (arith, same)) opens word name close,
)
primary_aims {ts} {i} (brackets {m = m} is lv close) around s below same enter = (
  Target 0,
  aimed_target 0,
  omega arith,
  enters ts i around one_open s (Operand 0 ∷ Round ∷ Target 0 ∷ below) (simple_step below)
      kind.OpenRound enter is tt refl (omega (arith, same))
      ▸ inside_bracket refl (expression_runs lv kind.CloseRound close tt (around + 1) 0
      (Round ∷ Target 0 ∷ below) (omega (arith, same)))
      ▸ goes ts m around none_open (Round ∷ Target 0 ∷ below) (Target 0 ∷ below) kind.CloseRound
      close tt refl (omega (arith, same)),
)

postfix_aims : {ts : List Placed} {i j : ℕ} {e : ExprTree} (p : Postfix ts i j e) (around : ℕ)
    (s below : List Want) → around ≡ weight below
    → parser_step s (kind_at ts i) ≡ simple_step below (kind_at ts i)
    → (y : Want) × Aimed y × RunsPast ts i s j (y ∷ below) around (postfix_open p)
postfix_aims (postfix p parts) around s below same enter =
    let r = primary_aims p around s below same enter in
    let q = parts_aim parts r.0 r.1 below in (
      q.0,
      q.1,
      r.3 ▸ after_operators (primary_operators p) (omega (arith, r.2, same)) q.3,
    )

assign_aimed : {x : Want} → Aimed x → (o : AssignOp) (k : List Want)
    → parser_step (x ∷ k) (kind.Assign o) ≡ Some (Operand 0 ∷ k)
assign_aimed (aimed_target n) o k = refl
assign_aimed aimed_name o k = refl
assign_aimed aimed_call o k = refl

step_aimed : {x : Want} → Aimed x → (o : StepOp) (k : List Want)
    → parser_step (x ∷ k) (kind.Step o) ≡ Some k
step_aimed (aimed_target n) o k = refl
step_aimed aimed_name o k = refl
step_aimed aimed_call o k = refl

acts_run : {ts : List Placed} {i j : ℕ} {a : ExprTree} {s : SimpleTree} (d : Acts ts i j a s)
    → {x : Want} → Aimed x → (t : Kind) → kind_at ts j ≡ t → (t ≡ kind.Semicolon)
    ⊎ (t ≡ kind.CloseRound)
    → (around : ℕ) (k : List Want) → around ≡ weight k
    → RunsPast ts i (x ∷ k) j k around (acts_open d)
acts_run {ts} {i} {j} (assigns o is lv) {x} b t ends (inl e) around k same =
    goes ts i around none_open (x ∷ k) (Operand 0 ∷ k) (kind.Assign o) is tt (assign_aimed b o k)
    (omega (arith, same))
    ▸ expression_runs lv kind.Semicolon (ends ∙ e) tt around 0 k (omega (arith, same))
acts_run {ts} {i} {j} (assigns o is lv) {x} b t ends (inr e) around k same =
    goes ts i around none_open (x ∷ k) (Operand 0 ∷ k) (kind.Assign o) is tt (assign_aimed b o k)
    (omega (arith, same))
    ▸ expression_runs lv kind.CloseRound (ends ∙ e) tt around 0 k (omega (arith, same))
acts_run {ts} {i} {j} (steps o is) {x} b t ends end around k same =
    goes ts i around none_open (x ∷ k) k (kind.Step o) is tt (step_aimed b o k)
    (omega (arith, same))

called_yields : (k : List Want) (t : Kind) → (t ≡ kind.Semicolon) ⊎ (t ≡ kind.CloseRound)
    → parser_step (Called ∷ k) t ≡ parser_step k t
called_yields k t (inl e) = subst (λ t. parser_step (Called ∷ k) t ≡ parser_step k t) (sym e) refl
called_yields k t (inr e) = subst (λ t. parser_step (Called ∷ k) t ≡ parser_step k t) (sym e) refl

simply_runs : {ts : List Placed} {i j : ℕ} {x : SimpleTree} (d : Simply ts i j x)
    → (kind_at ts j ≡ kind.Semicolon) ⊎ (kind_at ts j ≡ kind.CloseRound)
    → (around : ℕ) (s below : List Want) → around ≡ weight below
    → parser_step s (kind_at ts i) ≡ simple_step below (kind_at ts i)
    → RunsPast ts i s j below around (simply_open d)
simply_runs {ts} {j = j} (acts p a) end around s below same enter =
    let r = postfix_aims p around s below same enter in
    r.2 ▸ acts_run a r.1 (kind_at ts j) refl end around below same
simply_runs {ts} {i} {j} (calls is opens all) end around s below same enter =
    enters ts i around none_open s (NamedTarget ∷ below) (simple_step below) kind.Name enter is tt
    refl (omega (arith, same))
    ▸ goes ts (i + 1) around one_open (NamedTarget ∷ below) (FirstArgument ∷ Called ∷ below)
    kind.OpenRound opens tt refl (omega (arith, same))
    ▸ ends_alike ts j (Called ∷ below) below (called_yields below (kind_at ts j) end)
    (arguments_run all around (Called ∷ below) (omega (arith, same)))
simply_runs {ts} {i} (frees is b) end around s below same enter =
    enters ts i around none_open s (OpenExpression ∷ below) (simple_step below) kind.PmFree enter
    is tt refl (omega (arith, same)) ▸ bracketed_runs b around below same
simply_runs {ts} {i} (aborts is opens close) end around s below same enter =
    enters ts i around none_open s (OpenNothing ∷ below) (simple_step below) kind.Abort enter is tt
    refl (omega (arith, same))
    ▸ goes ts (i + 1) around one_open (OpenNothing ∷ below) (Round ∷ below) kind.OpenRound opens tt
    refl (omega (arith, same))
    ▸ goes ts (i + 1 + 1) around none_open (Round ∷ below) below kind.CloseRound close tt refl
    (omega (arith, same))

primary_simple : {ts : List Placed} {i j : ℕ} {e : ExprTree} → Primary ts i j e
    → SimpleBegins (kind_at ts i)
primary_simple (number is) = subst SimpleBegins (sym is) tt
primary_simple (null is) = subst SimpleBegins (sym is) tt
primary_simple (variable is) = subst SimpleBegins (sym is) tt
primary_simple (call is o a) = subst SimpleBegins (sym is) tt
primary_simple (root is d n) = subst SimpleBegins (sym is) tt
primary_simple (new is o s n c) = subst SimpleBegins (sym is) tt
primary_simple (brackets is e c) = subst SimpleBegins (sym is) tt

pub simply_begins : {ts : List Placed} {i j : ℕ} {x : SimpleTree} → Simply ts i j x
    → SimpleBegins (kind_at ts i)
simply_begins (acts (postfix p parts) a) = primary_simple p
simply_begins (calls is o a) = subst SimpleBegins (sym is) tt
simply_begins (frees is b) = subst SimpleBegins (sym is) tt
simply_begins (aborts is o c) = subst SimpleBegins (sym is) tt

first_simple : (k : List Want) (t : Kind) → SimpleBegins t
    → parser_step (ForFirst ∷ k) t ≡ simple_step k t
first_simple k kind.Number h = refl
first_simple k kind.Null h = refl
first_simple k kind.Name h = refl
first_simple k kind.Root h = refl
first_simple k kind.PmNew h = refl
first_simple k kind.OpenRound h = refl
first_simple k kind.PmFree h = refl
first_simple k kind.Abort h = refl
first_simple k _ h = absurd h

third_simple : (k : List Want) (t : Kind) → SimpleBegins t
    → parser_step (ForThird ∷ k) t ≡ simple_step k t
third_simple k kind.Number h = refl
third_simple k kind.Null h = refl
third_simple k kind.Name h = refl
third_simple k kind.Root h = refl
third_simple k kind.PmNew h = refl
third_simple k kind.OpenRound h = refl
third_simple k kind.PmFree h = refl
third_simple k kind.Abort h = refl
third_simple k _ h = absurd h

first_typed : (k : List Want) (t : Kind) → TypeBegins t
    → parser_step (ForFirst ∷ k) t ≡ typed_step (Ident ∷ Initial ∷ k) t
first_typed k (kind.Int y) h = refl
first_typed k kind.Struct h = refl
first_typed k _ h = absurd h

statement_simple : (loop : Bool) (k : List Want) (t : Kind) → SimpleBegins t
    → apply_move (statement loop t) k None ≡ simple_step (Semicolon ∷ k) t
statement_simple loop k kind.Number h = refl
statement_simple loop k kind.Null h = refl
statement_simple loop k kind.Name h = refl
statement_simple loop k kind.Root h = refl
statement_simple loop k kind.PmNew h = refl
statement_simple loop k kind.OpenRound h = refl
statement_simple loop k kind.PmFree h = refl
statement_simple loop k kind.Abort h = refl
statement_simple loop k _ h = absurd h

statement_typed : (loop : Bool) (k : List Want) (t : Kind) → TypeBegins t
    → apply_move (statement loop t) k None ≡ typed_step (Ident ∷ Initial ∷ Semicolon ∷ k) t
statement_typed loop k (kind.Int y) h = refl
statement_typed loop k kind.Struct h = refl
statement_typed loop k _ h = absurd h

-- the tokens that begin a statement
abbrev pub Starts : Kind → Type 0
Starts kind.Semicolon = Unit {0}
Starts (kind.Int y) = Unit {0}
Starts kind.Struct = Unit {0}
Starts kind.OpenBrace = Unit {0}
Starts kind.If = Unit {0}
Starts kind.While = Unit {0}
Starts kind.Do = Unit {0}
Starts kind.For = Unit {0}
Starts kind.Break = Unit {0}
Starts kind.Continue = Unit {0}
Starts kind.Return = Unit {0}
Starts kind.Number = Unit {0}
Starts kind.Null = Unit {0}
Starts kind.Name = Unit {0}
Starts kind.Root = Unit {0}
Starts kind.PmNew = Unit {0}
Starts kind.OpenRound = Unit {0}
Starts kind.PmFree = Unit {0}
Starts kind.Abort = Unit {0}
Starts _ = ⊥

simple_starts : (t : Kind) → SimpleBegins t → Starts t
simple_starts kind.Number h = tt
simple_starts kind.Null h = tt
simple_starts kind.Name h = tt
simple_starts kind.Root h = tt
simple_starts kind.PmNew h = tt
simple_starts kind.OpenRound h = tt
simple_starts kind.PmFree h = tt
simple_starts kind.Abort h = tt
simple_starts _ h = absurd h

type_starts : (t : Kind) → TypeBegins t → Starts t
type_starts (kind.Int y) h = tt
type_starts kind.Struct h = tt
type_starts _ h = absurd h

pub spells_starts : {ts : List Placed} {loop : Bool} {i j : ℕ} {s : StmtTree} → Spells ts loop i j s
    → Starts (kind_at ts i)
spells_starts (empty is) = subst Starts (sym is) tt
spells_starts {ts} {i = i} (declares d z) = type_starts (kind_at ts i) (declares_begins d)
spells_starts {ts} {i = i} (simply x z) = simple_starts (kind_at ts i) (simply_begins x)
spells_starts (block is all z) = subst Starts (sym is) tt
spells_starts (if_alone is c s n) = subst Starts (sym is) tt
spells_starts (if_else is c s e o) = subst Starts (sym is) tt
spells_starts (repeats is c s) = subst Starts (sym is) tt
spells_starts (repeats_after is s w c z) = subst Starts (sym is) tt
spells_starts (counts is o f z c y t r s) = subst Starts (sym is) tt
spells_starts (breaks is z) = subst Starts (sym is) tt
spells_starts (continues is z) = subst Starts (sym is) tt
spells_starts (returns is v z) = subst Starts (sym is) tt

abbrev pub statement_step : Bool → List Want → Kind → Option (List Want)
statement_step loop below t = apply_move (statement loop t) below None

block_enters : (loop : Bool) (k : List Want) (t : Kind) → Starts t
    → parser_step (Block loop ∷ k) t ≡ statement_step loop (Block loop ∷ k) t
block_enters loop k kind.Semicolon h = refl
block_enters loop k (kind.Int y) h = refl
block_enters loop k kind.Struct h = refl
block_enters loop k kind.OpenBrace h = refl
block_enters loop k kind.If h = refl
block_enters loop k kind.While h = refl
block_enters loop k kind.Do h = refl
block_enters loop k kind.For h = refl
block_enters true k kind.Break h = refl
block_enters false k kind.Break h = refl
block_enters true k kind.Continue h = refl
block_enters false k kind.Continue h = refl
block_enters loop k kind.Return h = refl
block_enters loop k kind.Number h = refl
block_enters loop k kind.Null h = refl
block_enters loop k kind.Name h = refl
block_enters loop k kind.Root h = refl
block_enters loop k kind.PmNew h = refl
block_enters loop k kind.OpenRound h = refl
block_enters loop k kind.PmFree h = refl
block_enters loop k kind.Abort h = refl
block_enters loop k _ h = absurd h

body_enters : (loop : Bool) (k : List Want) (t : Kind) → Starts t → t ≢ kind.OpenBrace
    → parser_step (Body loop ∷ k) t ≡ statement_step loop (Bare ∷ k) t
body_enters loop k kind.Semicolon h o = refl
body_enters loop k (kind.Int y) h o = refl
body_enters loop k kind.Struct h o = refl
body_enters loop k kind.OpenBrace h o = absurd (o refl)
body_enters loop k kind.If h o = refl
body_enters loop k kind.While h o = refl
body_enters loop k kind.Do h o = refl
body_enters loop k kind.For h o = refl
body_enters true k kind.Break h o = refl
body_enters false k kind.Break h o = refl
body_enters true k kind.Continue h o = refl
body_enters false k kind.Continue h o = refl
body_enters loop k kind.Return h o = refl
body_enters loop k kind.Number h o = refl
body_enters loop k kind.Null h o = refl
body_enters loop k kind.Name h o = refl
body_enters loop k kind.Root h o = refl
body_enters loop k kind.PmNew h o = refl
body_enters loop k kind.OpenRound h o = refl
body_enters loop k kind.PmFree h o = refl
body_enters loop k kind.Abort h o = refl
body_enters loop k _ h o = absurd h

value_stops : (k : List Want) (t : Kind) → t ≡ kind.Semicolon
    → parser_step (Value ∷ k) t ≡ parser_step k t
value_stops k t is = subst (λ t. parser_step (Value ∷ k) t ≡ parser_step k t) (sym is) refl

first_stops : (k : List Want) (t : Kind) → t ≡ kind.Semicolon
    → parser_step (ForFirst ∷ k) t ≡ parser_step k t
first_stops k t is = subst (λ t. parser_step (ForFirst ∷ k) t ≡ parser_step k t) (sym is) refl

third_stops : (k : List Want) (t : Kind) → t ≡ kind.CloseRound
    → parser_step (ForThird ∷ k) t ≡ parser_step k t
third_stops k t is = subst (λ t. parser_step (ForThird ∷ k) t ≡ parser_step k t) (sym is) refl

value_runs : {ts : List Placed} {i j : ℕ} {v : Option ExprTree} (d : ValuePart ts i j v)
    → kind_at ts j ≡ kind.Semicolon → (around : ℕ) (k : List Want) → around ≡ weight k
    → RunsPast ts i (Value ∷ k) j k around (value_open d)
value_runs {ts} {i} value_none semi around k same =
    begins_alike ts i (Value ∷ k) k (value_stops k (kind_at ts i) semi) (stays k)
value_runs {ts} {i} (value_some lv) semi around k same =
    begins_alike ts i (Value ∷ k) (Operand 0 ∷ k)
    (value_enters k (kind_at ts i) (expression_begins lv))
    (expression_runs lv kind.Semicolon semi tt around 0 k (omega (arith, same)))

first_runs : {ts : List Placed} {i j : ℕ} {f : Option FirstTree} (d : FirstPart ts i j f)
    → kind_at ts j ≡ kind.Semicolon → (around : ℕ) (k : List Want) → around ≡ weight k
    → RunsPast ts i (ForFirst ∷ k) j k around (first_open d)
first_runs {ts} {i} first_none semi around k same =
    begins_alike ts i (ForFirst ∷ k) k (first_stops k (kind_at ts i) semi) (stays k)
first_runs {ts} {i} (first_declares d) semi around k same =
    declares_run d semi around (ForFirst ∷ k) k same
    (first_typed k (kind_at ts i) (declares_begins d))
first_runs {ts} {i} (first_simply s) semi around k same =
    simply_runs s (inl semi) around (ForFirst ∷ k) k same
    (first_simple k (kind_at ts i) (simply_begins s))

third_runs : {ts : List Placed} {i j : ℕ} {t : Option SimpleTree} (d : ThirdPart ts i j t)
    → kind_at ts j ≡ kind.CloseRound → (around : ℕ) (k : List Want) → around ≡ weight k
    → RunsPast ts i (ForThird ∷ k) j k around (third_open d)
third_runs {ts} {i} third_none close around k same =
    begins_alike ts i (ForThird ∷ k) k (third_stops k (kind_at ts i) close) (stays k)
third_runs {ts} {i} (third_some s) close around k same =
    simply_runs s (inr close) around (ForThird ∷ k) k same
    (third_simple k (kind_at ts i) (simply_begins s))

-- whether a statement has braces is seen from its first token
abbrev IsBraced : Bool → Kind → Type 0
IsBraced true t = t ≡ kind.OpenBrace
IsBraced false t = t ≢ kind.OpenBrace

is_braced : {ts : List Placed} {loop : Bool} {i j : ℕ} {s : StmtTree} (d : Spells ts loop i j s)
    → IsBraced (has_braces d) (kind_at ts i)
is_braced (empty is) = λ e. cc
is_braced (declares d z) = λ e. subst TypeBegins e (declares_begins d)
is_braced (simply x z) = λ e. subst SimpleBegins e (simply_begins x)
is_braced (block is all z) = is
is_braced (if_alone is c s n) = λ e. cc
is_braced (if_else is c s e o) = λ e. cc
is_braced (repeats is c s) = λ e. cc
is_braced (repeats_after is s w c z) = λ e. cc
is_braced (counts is o f z c y t r s) = λ e. cc
is_braced (breaks is z) = λ e. cc
is_braced (continues is z) = λ e. cc
is_braced (returns is v z) = λ e. cc

-- a body, with or without braces
body_by : (ts : List Placed) (loop : Bool) (i j around : ℕ) (k : List Want) (os : List OpenParts)
    (braces : Bool) → around ≡ weight k → IsBraced braces (kind_at ts i) → Starts (kind_at ts i)
    → ((around : ℕ) (s below : List Want) → around ≡ weight below
    → parser_step s (kind_at ts i) ≡ statement_step loop below (kind_at ts i)
    → RunsPast ts i s j below around os)
    → RunsPast ts i (Body loop ∷ k) j k around (body_open braces os)
body_by ts loop i j around k os true same is starts runs =
    runs around (Body loop ∷ k) k same
    (subst (λ t. parser_step (Body loop ∷ k) t ≡ statement_step loop k t) (sym is) refl)
body_by ts loop i j around k os false same not starts runs =
    ends_alike ts j (Bare ∷ k) k refl
    (inside_body refl (runs (around + 1) (Body loop ∷ k) (Bare ∷ k) (omega (arith, same))
    (body_enters loop k (kind_at ts i) starts not)))

mutual
  spells_runs : {ts : List Placed} {loop : Bool} {i j : ℕ} {x : StmtTree} (d : Spells ts loop i j x)
      (around : ℕ) (s below : List Want) → around ≡ weight below
      → parser_step s (kind_at ts i) ≡ statement_step loop below (kind_at ts i)
      → RunsPast ts i s j below around (statement_open d)
  spells_runs {ts} {loop} {i} (empty is) around s below same enter =
      enters ts i around none_open s below (statement_step loop below) kind.Semicolon enter is tt
      refl (omega (arith, same))
  spells_runs {ts} {loop} {i} (declares {m = m} d semi) around s below same enter =
      declares_run d semi around s (Semicolon ∷ below) (omega (arith, same))
      (enter ∙ statement_typed loop below (kind_at ts i) (declares_begins d))
      ▸ goes ts m around none_open (Semicolon ∷ below) below kind.Semicolon semi tt refl
      (omega (arith, same))
  spells_runs {ts} {loop} {i} (simply {m = m} x semi) around s below same enter =
      simply_runs x (inl semi) around s (Semicolon ∷ below) (omega (arith, same))
      (enter ∙ statement_simple loop below (kind_at ts i) (simply_begins x))
      ▸ goes ts m around none_open (Semicolon ∷ below) below kind.Semicolon semi tt refl
      (omega (arith, same))
  spells_runs {ts} {loop} {i} (block {m = m} is all close) around s below same enter =
      enters ts i around one_open s (Block loop ∷ below) (statement_step loop below) kind.OpenBrace
      enter is tt refl (omega (arith, same))
      ▸ inside_bracket refl (all_run all (around + 1) below (omega (arith, same)))
      ▸ goes ts m around none_open (Block loop ∷ below) below kind.CloseBrace close tt refl
      (omega (arith, same))
  spells_runs {ts} {loop} {i} {j} (if_alone {m = m} is c one other) around s below same enter =
      let e : around ≡ weight (Body loop ∷ Else loop ∷ below) = omega (arith, same) in
      enters ts i around none_open s (OpenExpression ∷ Body loop ∷ Else loop ∷ below)
      (statement_step loop below) kind.If enter is tt refl (omega (arith, same))
      ▸ bracketed_runs c around (Body loop ∷ Else loop ∷ below) e
      ▸ ends_alike ts j (Else loop ∷ below) below (else_step loop below (kind_at ts j) other)
      (body_by ts loop m j around (Else loop ∷ below) (statement_open one) (has_braces one)
      (omega (arith, same)) (is_braced one) (spells_starts one)
      (λ n s k e h. spells_runs one n s k e h))
  spells_runs {ts} {loop} {i} (if_else {m = m} {j = j} {k = n} is c one other two) around s below
      same enter =
      let e : around ≡ weight (Body loop ∷ Else loop ∷ below) = omega (arith, same) in
      enters ts i around none_open s (OpenExpression ∷ Body loop ∷ Else loop ∷ below)
      (statement_step loop below) kind.If enter is tt refl (omega (arith, same))
      ▸ bracketed_runs c around (Body loop ∷ Else loop ∷ below) e
      ▸ body_by ts loop m j around (Else loop ∷ below) (statement_open one) (has_braces one)
      (omega (arith, same)) (is_braced one) (spells_starts one)
      (λ n s k e h. spells_runs one n s k e h)
      ▸ goes ts j around none_open (Else loop ∷ below) (Body loop ∷ below) kind.Else other tt refl
      (omega (arith, same))
      ▸ body_by ts loop (j + 1) n around below (statement_open two) (has_braces two) same
      (is_braced two) (spells_starts two) (λ n s k e h. spells_runs two n s k e h)
  spells_runs {ts} {loop} {i} {j} (repeats {m = m} is c one) around s below same enter =
      enters ts i around none_open s (OpenExpression ∷ Body true ∷ below)
      (statement_step loop below) kind.While enter is tt refl (omega (arith, same))
      ▸ bracketed_runs c around (Body true ∷ below) (omega (arith, same))
      ▸ body_by ts true m j around below (statement_open one) (has_braces one) same (is_braced one)
      (spells_starts one) (λ n s k e h. spells_runs one n s k e h)
  spells_runs {ts} {loop} {i} (repeats_after {m = m} {j = j} is one word c semi) around s below same
      enter =
      let k : List Want = WhileWord ∷ OpenExpression ∷ Semicolon ∷ below in
      enters ts i around none_open s (Body true ∷ k) (statement_step loop below) kind.Do enter is tt
      refl (omega (arith, same))
      ▸ body_by ts true (i + 1) m around k (statement_open one) (has_braces one)
      (omega (arith, same)) (is_braced one) (spells_starts one)
      (λ n s k e h. spells_runs one n s k e h)
      ▸ goes ts m around none_open k (OpenExpression ∷ Semicolon ∷ below) kind.While word tt refl
      (omega (arith, same))
      ▸ bracketed_runs c around (Semicolon ∷ below) (omega (arith, same))
      ▸ goes ts j around none_open (Semicolon ∷ below) below kind.Semicolon semi tt refl
      (omega (arith, same))
  spells_runs {ts} {loop} {i} {j} (counts {m = m} {n = n} {p = p} is opens f semi c semi2 t close
      one) around s below same enter =
      let k : List Want = Round ∷ Body true ∷ below in
      enters ts i around none_open s (OpenFor ∷ Body true ∷ below) (statement_step loop below)
      kind.For enter is tt refl (omega (arith, same))
      ▸ goes ts (i + 1) around one_open (OpenFor ∷ Body true ∷ below)
      (ForFirst ∷ Semicolon ∷ Value ∷ Semicolon ∷ ForThird ∷ k) kind.OpenRound opens tt refl
      (omega (arith, same))
      ▸ inside_bracket refl (first_runs f semi (around + 1)
      (Semicolon ∷ Value ∷ Semicolon ∷ ForThird ∷ k) (omega (arith, same))
      ▸ goes ts m (around + 1) none_open (Semicolon ∷ Value ∷ Semicolon ∷ ForThird ∷ k)
      (Value ∷ Semicolon ∷ ForThird ∷ k) kind.Semicolon semi tt refl (omega (arith, same))
      ▸ value_runs c semi2 (around + 1) (Semicolon ∷ ForThird ∷ k) (omega (arith, same))
      ▸ goes ts n (around + 1) none_open (Semicolon ∷ ForThird ∷ k) (ForThird ∷ k) kind.Semicolon
      semi2 tt refl (omega (arith, same))
      ▸ third_runs t close (around + 1) k (omega (arith, same)))
      ▸ goes ts p around none_open k (Body true ∷ below) kind.CloseRound close tt refl
      (omega (arith, same))
      ▸ body_by ts true (p + 1) j around below (statement_open one) (has_braces one) same
      (is_braced one) (spells_starts one) (λ n s k e h. spells_runs one n s k e h)
  spells_runs {ts} {loop} {i} (breaks is semi) around s below same enter =
      enters ts i around none_open s (Semicolon ∷ below) (statement_step loop below) kind.Break
      enter is tt refl (omega (arith, same))
      ▸ goes ts (i + 1) around none_open (Semicolon ∷ below) below kind.Semicolon semi tt refl
      (omega (arith, same))
  spells_runs {ts} {loop} {i} (continues is semi) around s below same enter =
      enters ts i around none_open s (Semicolon ∷ below) (statement_step loop below) kind.Continue
      enter is tt refl (omega (arith, same))
      ▸ goes ts (i + 1) around none_open (Semicolon ∷ below) below kind.Semicolon semi tt refl
      (omega (arith, same))
  spells_runs {ts} {loop} {i} (returns {m = m} is v semi) around s below same enter =
      enters ts i around none_open s (Value ∷ Semicolon ∷ below) (statement_step loop below)
      kind.Return enter is tt refl (omega (arith, same))
      ▸ value_runs v semi around (Semicolon ∷ below) (omega (arith, same))
      ▸ goes ts m around none_open (Semicolon ∷ below) below kind.Semicolon semi tt refl
      (omega (arith, same))

  pub all_run : {ts : List Placed} {loop : Bool} {i j : ℕ} {all : Statements}
      (d : SpellsAll ts loop i j all) (around : ℕ) (k : List Want)
      → around ≡ weight (Block loop ∷ k)
      → RunsPast ts i (Block loop ∷ k) j (Block loop ∷ k) around (statements_open d)
  all_run {loop = loop} nothing around k same = stays (Block loop ∷ k)
  all_run {ts} {loop} {i} (something one all) around k same =
      spells_runs one around (Block loop ∷ k) (Block loop ∷ k) same
      (block_enters loop k (kind_at ts i) (spells_starts one)) ▸ all_run all around k same
