-- The derivations of a statement from a place on, by production: what remains to derive.
use Rattle.std.proofs.Common.{ℕ, ◌+◌, ◌≡◌, ◌≢◌, ◌≤◌, ◌<◌, List, length, Option, Some, None, Bool}
use Rattle.std.proofs.Common.{true, false, ◌⊎◌, inl, inr, refl, sym, ap, ◌∙◌, subst, arith, Result}
use Rattle.std.proofs.Common.{Ok, Err, IfOk}
use Rattle.c_lexer.specs.declared.token.Placed.{Placed}
use Rattle.c_tree.specs.declared.expr.BinaryOp.TheVariants as op
use Rattle.c_tree.specs.declared.expr.IntType.{IntType}
use Rattle.c_tree.specs.declared.stmt.AssignOp.{AssignOp}
use Rattle.c_tree.specs.declared.stmt.AssignOp.TheVariants as assign
use Rattle.c_tree.specs.declared.stmt.StepOp.{StepOp}
use Rattle.c_tree.specs.declared.stmt.Simple as written
use Rattle.c_tree.specs.declared.stmt.Stmt.{Stmt}
use Rattle.c_tree.specs.declared.kind.Kind.{Kind}
use Rattle.c_tree.specs.declared.kind.Kind.TheVariants as kind
use Rattle.c_tree.specs.Kinds.{kind_at, ident_at}
use Rattle.c_tree.specs.ExprTree.{ExprTree, Ident, expr_of}
use Rattle.c_tree.specs.ExprTree as expr
use Rattle.c_tree.specs.StmtTree.{TypeTree, InitialTree, DeclarationTree, SimpleTree, FirstTree}
use Rattle.c_tree.specs.StmtTree.{StmtTree, Statements, simple_of, stmt_of}
use Rattle.c_tree.specs.StmtTree as tree
use Rattle.c_tree.specs.inside.StmtTree as inside_tree
use Rattle.c_tree.specs.Spelling.{Expression, Postfix, postfix, parts_end, call}
use Rattle.c_tree.specs.StmtSpelling.{Typed, int, pointer, Declares, plain, initial, Bracketed}
use Rattle.c_tree.specs.StmtSpelling.{bracketed, assigns, steps, Simply, acts, calls, frees, aborts}
use Rattle.c_tree.specs.StmtSpelling.{FirstPart, first_none, first_declares, first_simply}
use Rattle.c_tree.specs.StmtSpelling.{ValuePart, value_none, value_some, ThirdPart, third_none}
use Rattle.c_tree.specs.StmtSpelling.{third_some, Spells, empty, declares, simply, block, if_alone}
use Rattle.c_tree.specs.StmtSpelling.{if_else, repeats, repeats_after, counts, breaks, continues}
use Rattle.c_tree.specs.StmtSpelling.{returns, nothing}
use Rattle.c_tree.specs.StmtSpelling.{something}
use Rattle.c_parser.specs.inside.Fixes.{Fixes, DerivesFrom, IsFollowed, Over, IsOfKind}
use Rattle.c_parser.specs.inside.Fixes.{ClosesSimple}
use Rattle.c_parser.specs.inside.Pieces.{ActsOrCalls, acts_on, call_alone, ForTree, SpellsFor}
use Rattle.c_parser.specs.inside.Pieces.{for_parts, Stated, stated, StatedAll, stated_all}
use Rattle.c_parser.specs.inside.Pieces.{SpellsChoice, choice_alone, choice_else, SpellsWhile}
use Rattle.c_parser.specs.inside.Pieces.{repeated, SpellsDo, repeated_after, SpellsCounted, counted}
use Rattle.c_parser.specs.inside.Pieces.{SpellsPlain, plain_empty}
use Rattle.c_parser.specs.inside.Pieces.{plain_declares, plain_simply, plain_breaks}
use Rattle.c_parser.specs.inside.Pieces.{plain_continues, plain_returns, goes_on, int_of}
use Rattle.c_parser.proofs.Steps.{IsToken}
use Rattle.c_parser.proofs.Forward.{Begins, expression_begins, postfix_begins}
use Rattle.c_parser.proofs.ForwardStmt.{TypeBegins, declares_begins, SimpleBegins, simply_begins}
use Rattle.c_parser.proofs.ForwardStmt.{Starts, spells_starts}
use Rattle.c_tree.proofs.Trees.{and_then-nothing, and_then-one_more}
use Rattle.c_parser.proofs.FixesExpr.{inside, inside_at, led, over_at, brackets_taken}

pub led_simple : {E : Type 0} (r : Result (written.Simple × ℕ) E) (P Q : ℕ → SimpleTree → Type 0)
    → IfOk r (λ r. Fixes Q r.1 (simple_of r.0)) → DerivesFrom P Q
    → IfOk r (λ r. Fixes P r.1 (simple_of r.0))
led_simple (Ok x) P Q h leads = led P Q x.1 (simple_of x.0) leads h
led_simple (Err e) P Q h leads = tt

pub led_stmt : {E : Type 0} (r : Result (Stmt × ℕ) E) (P Q : ℕ → StmtTree → Type 0)
    → IfOk r (λ r. Fixes Q r.1 (stmt_of r.0)) → DerivesFrom P Q
    → IfOk r (λ r. Fixes P r.1 (stmt_of r.0))
led_stmt (Ok x) P Q h leads = led P Q x.1 (stmt_of x.0) leads h
led_stmt (Err e) P Q h leads = tt

-- the place after a token, from what the code knows of it
pub after : (ts : List Placed) (i n : ℕ) (t : Kind) → kind_at ts i ≡ t → IsToken t
    → (i < length ts → n ≡ i + 1) → n ≡ i + 1
after ts i n t is token next = next (inside_at ts i t is token)

-- the same, if the place has another name
pub after_at : (ts : List Placed) (m i n : ℕ) (t : Kind) → m ≡ i → kind_at ts i ≡ t → IsToken t
    → (m < length ts → n ≡ m + 1) → n ≡ i + 1
after_at ts m i n t e is token next =
    subst (λ m. m < length ts → n ≡ m + 1) e next (inside_at ts i t is token)

-- types
pub typed_int : (ts : List Placed) (i n : ℕ) (m : IntType) (x : TypeTree)
    → kind_at ts i ≢ kind.Struct → (i < length ts → n ≡ i + 1) → m ≡ int_of (kind_at ts i)
    → x ≡ tree.Int m → Fixes (Typed ts i) n x
typed_int ts i n m x not next f e = record { same = λ k t d. taken d }
  where
    taken : {k : ℕ} {t : TypeTree} → Typed ts i k t → (n ≡ k) × (x ≡ t)
    taken (int y is) = (after ts i n (kind.Int y) is tt next, e ∙ ap tree.Int (f ∙ ap int_of is))
    taken (pointer is name star) = absurd (not is)

pub typed_pointer : (ts : List Placed) (i n m j : ℕ) (x : TypeTree) (y : Ident)
    → kind_at ts i ≡ kind.Struct → (i < length ts → n ≡ i + 1) → (n < length ts → m ≡ n + 1)
    → (m < length ts → j ≡ m + 1) → y ≡ ident_at ts n → x ≡ tree.Pointer y → Fixes (Typed ts i) j x
typed_pointer ts i n m j x y is to_n to_m to_j e f = record { same = λ k t d. taken d }
  where
    taken : {k : ℕ} {t : TypeTree} → Typed ts i k t → (j ≡ k) × (x ≡ t)
    taken (int y was) = absurd (cc)
    taken (pointer was name star) =
        let a = after ts i n kind.Struct is tt to_n in
        let b = after_at ts n (i + 1) m kind.Name a name tt to_m in
        let c = after_at ts m (i + 1 + 1) j (kind.Operator op.Mul) b star tt to_j in
        (c, f ∙ ap tree.Pointer e ∙ ap (λ n. tree.Pointer (ident_at ts n)) a)

-- declarations
abbrev declared : TypeTree → Ident → Option InitialTree → DeclarationTree
declared t y o = record { ty = t; name = y; initial = o }

abbrev initially : ℕ → ExprTree → InitialTree
initially n v = record { place = n; value = v }

same_declared : (t s : TypeTree) (y z : Ident) (o u : Option InitialTree) → t ≡ s → y ≡ z → o ≡ u
    → declared t y o ≡ declared s z u
same_declared t s y z o u p q r = ap (λ t. declared t y o) p ∙ ap (λ y. declared s y o) q
    ∙ ap (λ o. declared s z o) r

pub declares_plain : (ts : List Placed) (i m n : ℕ) (t : TypeTree) (y : Ident)
    → Fixes (Typed ts i) m t → y ≡ ident_at ts m → (m < length ts → n ≡ m + 1)
    → kind_at ts n ≢ kind.Assign assign.Set
    → Fixes (IsFollowed ts (IsOfKind kind.Semicolon) (Declares ts i)) n
    (record { ty = t; name = y; initial = None })
declares_plain ts i m n t y ty name to_n not = record { same = λ k d h. taken h.spelled }
  where
    taken : {k : ℕ} {d : DeclarationTree} → Declares ts i k d → (n ≡ k) × (declared t y None ≡ d)
    taken (plain {m = q} {t = s} d was) =
        let f = ty.same q s d in (
          after_at ts m q n kind.Name f.0 was tt to_n,
          same_declared t s y (ident_at ts q) None None f.1 (name ∙ ap (ident_at ts) f.0) refl,
        )
    taken (initial {m = q} {t = s} d was set value) =
        let f = ty.same q s d in
        absurd (not (ap (kind_at ts) (after_at ts m q n kind.Name f.0 was tt to_n) ∙ set))

pub declares_initial : (ts : List Placed) (i m n p j : ℕ) (t : TypeTree) (y : Ident) (v : ExprTree)
    → Fixes (Typed ts i) m t → y ≡ ident_at ts m
    → (m < length ts → n ≡ m + 1) → kind_at ts n ≡ kind.Assign assign.Set
    → (n < length ts → p ≡ n + 1) → Fixes (IsFollowed ts (Over 11) (Expression ts p)) j v
    → Fixes (IsFollowed ts (IsOfKind kind.Semicolon) (Declares ts i)) j
    (record { ty = t; name = y; initial = Some (record { place = n; value = v }) })
declares_initial ts i m n p j t y v ty name to_n is to_p fixes =
    record { same = λ k d h. taken h.spelled h.following }
  where
    taken : {k : ℕ} {d : DeclarationTree} → Declares ts i k d → kind_at ts k ≡ kind.Semicolon
        → (j ≡ k) × (declared t y (Some (initially n v)) ≡ d)
    taken (plain {m = q} {t = s} d was) semi =
        let f = ty.same q s d in
        let a : kind_at ts n ≡ kind_at ts (q + 1) =
        ap (kind_at ts) (after_at ts m q n kind.Name f.0 was tt to_n) in
        absurd (cc)
    taken {k} (initial {m = q} {t = s} {e = w} d was set value) semi =
        let f = ty.same q s d in
        let a = after_at ts m q n kind.Name f.0 was tt to_n in
        let b = after_at ts n (q + 1) p (kind.Assign assign.Set) a set tt to_p in
        let g = fixes.same k w (record {
          spelled = subst (λ p. Expression ts p k w) (sym b) value;
          following = over_at 11 (kind_at ts k) kind.Semicolon semi tt;
        }) in (
          g.0,
          same_declared t s y (ident_at ts q) (Some (initially n v)) (Some (initially (q + 1) w))
              f.1 (name ∙ ap (ident_at ts) f.0)
              (ap (λ n. Some (initially n v)) a ∙ ap (λ v. Some (initially (q + 1) v)) g.1),
        )

-- brackets
pub bracketed_inner : (ts : List Placed) (i n m j : ℕ) (e : ExprTree) → (i < length ts → n ≡ i + 1)
    → Fixes (IsFollowed ts (Over 11) (Expression ts n)) m e
    → (m < length ts → j ≡ m + 1) → Fixes (Bracketed ts i) j e
bracketed_inner ts i n m j e to_n fixes to_j = record { same = λ k t d. taken d }
  where
    taken : {k : ℕ} {t : ExprTree} → Bracketed ts i k t → (j ≡ k) × (e ≡ t)
    taken {t = t} (bracketed {m = q} is value close) =
        brackets_taken ts i n m j e is to_n fixes to_j (q + 1) q t value close refl

-- the action on a target
closes_over : (k : Kind) → ClosesSimple k → Over 11 k
closes_over kind.Semicolon h = tt
closes_over kind.CloseRound h = tt
closes_over _ h = absurd h

assign_taken : {ts : List Placed} {i k : ℕ} {a : ExprTree} {t : SimpleTree} (n j : ℕ) (o : AssignOp)
    (v : ExprTree) → kind.Assign o ≡ kind_at ts i → (i < length ts → n ≡ i + 1)
    → Fixes (IsFollowed ts (Over 11) (Expression ts n)) j v → ActsOrCalls ts i k a t
    → ClosesSimple (kind_at ts k) → (j ≡ k) × (tree.Assign a o i v ≡ t)
assign_taken {ts} {i} {k} {a} n j o v is to_n fixes (acts_on (assigns {e = w} p was value)) closes =
    let b = after ts i n (kind.Assign o) (sym is) tt to_n in
    let g = fixes.same k w (record {
      spelled = subst (λ n. Expression ts n k w) (sym b) value;
      following = closes_over (kind_at ts k) closes;
    }) in
    let e : o ≡ p = cc in
    (g.0, ap (λ o. tree.Assign a o i v) e ∙ ap (tree.Assign a p i) g.1)
assign_taken n j o v is to_n fixes (acts_on (steps p was)) closes = absurd (cc)
assign_taken {ts} {i} n j o v is to_n fixes call_alone closes =
    absurd (subst ClosesSimple (sym is) closes)

step_taken : {ts : List Placed} {i k : ℕ} {a : ExprTree} {t : SimpleTree} (n : ℕ) (o : StepOp)
    → kind.Step o ≡ kind_at ts i → (i < length ts → n ≡ i + 1)
    → ActsOrCalls ts i k a t → ClosesSimple (kind_at ts k) → (n ≡ k) × (tree.Step a o i ≡ t)
step_taken n o is to_n (acts_on (assigns p was value)) closes = absurd (cc)
step_taken {ts} {i} {a = a} n o is to_n (acts_on (steps p was)) closes =
    let e : o ≡ p = cc in
    (after ts i n (kind.Step o) (sym is) tt to_n, ap (λ o. tree.Step a o i) e)
step_taken {ts} {i} n o is to_n call_alone closes = absurd (subst ClosesSimple (sym is) closes)

call_taken : {ts : List Placed} {i k : ℕ} {a : ExprTree} {t : SimpleTree} (x : SimpleTree)
    → ((o : AssignOp) → kind_at ts i ≢ kind.Assign o) → ((o : StepOp) → kind_at ts i ≢ kind.Step o)
    → ((n : Ident) (all : expr.Arguments) → a ≡ expr.Call n all → x ≡ tree.Call n all)
    → ActsOrCalls ts i k a t → (i ≡ k) × (x ≡ t)
call_taken x no_assign no_step called (acts_on (assigns p was value)) = absurd (no_assign p was)
call_taken x no_assign no_step called (acts_on (steps p was)) = absurd (no_step p was)
call_taken x no_assign no_step called (call_alone {n = n} {all = all}) = (refl, called n all refl)

pub acted_assign : (ts : List Placed) (i n j : ℕ) (a v : ExprTree) (o : AssignOp)
    → kind.Assign o ≡ kind_at ts i → (i < length ts → n ≡ i + 1)
    → Fixes (IsFollowed ts (Over 11) (Expression ts n)) j v
    → Fixes (IsFollowed ts ClosesSimple (λ k t. ActsOrCalls ts i k a t)) j (tree.Assign a o i v)
acted_assign ts i n j a v o is to_n fixes =
    record { same = λ k t h. assign_taken n j o v is to_n fixes h.spelled h.following }

pub acted_step : (ts : List Placed) (i n : ℕ) (a : ExprTree) (o : StepOp)
    → kind.Step o ≡ kind_at ts i → (i < length ts → n ≡ i + 1)
    → Fixes (IsFollowed ts ClosesSimple (λ k t. ActsOrCalls ts i k a t)) n (tree.Step a o i)
acted_step ts i n a o is to_n =
    record { same = λ k t h. step_taken n o is to_n h.spelled h.following }

pub acted_call : (ts : List Placed) (i : ℕ) (a : ExprTree) (x : SimpleTree)
    → ((o : AssignOp) → kind_at ts i ≢ kind.Assign o) → ((o : StepOp) → kind_at ts i ≢ kind.Step o)
    → ((n : Ident) (all : expr.Arguments) → a ≡ expr.Call n all → x ≡ tree.Call n all)
    → Fixes (IsFollowed ts ClosesSimple (λ k t. ActsOrCalls ts i k a t)) i x
acted_call ts i a x no_assign no_step called =
    record { same = λ k t h. call_taken x no_assign no_step called h.spelled }

-- simple statements, by their first token
abbrev Targeted : List Placed → ℕ → ℕ → SimpleTree → Type 0
Targeted ts i k t = (m : ℕ) × (a : ExprTree) × Postfix ts i m a × ActsOrCalls ts m k a t

abbrev SimplyOf : List Placed → ℕ → ℕ → SimpleTree → Kind → Type 0
SimplyOf ts i k t kind.PmFree = (e : ExprTree) × Bracketed ts (i + 1) k e × (t ≡ tree.Free i e)
SimplyOf ts i k t kind.Abort = (kind_at ts (i + 1) ≡ kind.OpenRound)
    × (kind_at ts (i + 1 + 1) ≡ kind.CloseRound) × (k ≡ i + 1 + 1 + 1) × (t ≡ tree.Abort i)
SimplyOf ts i k t _ = Targeted ts i k t

targeted : (ts : List Placed) (i k : ℕ) (t : SimpleTree) (s : Kind) → Begins s → Targeted ts i k t
    → SimplyOf ts i k t s
targeted ts i k t kind.PmFree b h = absurd b
targeted ts i k t kind.Abort b h = absurd b
targeted ts i k t _ b h = h

simply_of : {ts : List Placed} {i k : ℕ} {t : SimpleTree} → Simply ts i k t
    → SimplyOf ts i k t (kind_at ts i)
simply_of {ts} {i} {k} {t} (acts {m = m} {a = a} first act) =
    targeted ts i k t (kind_at ts i) (postfix_begins first) (m, a, first, acts_on act)
simply_of {ts} {i} {k} {t} (calls {all = all} is opens a) =
    subst (SimplyOf ts i k t) (sym is) (
      k,
      expr.Call (ident_at ts i) all,
      postfix (call is opens a) parts_end,
      call_alone,
    )
simply_of {ts} {i} {k} {t} (frees {e = e} is b) = subst (SimplyOf ts i k t) (sym is) (e, b, refl)
simply_of {ts} {i} {k} {t} (aborts is opens close) =
    subst (SimplyOf ts i k t) (sym is) (opens, close, refl, refl)

simply_is : {ts : List Placed} {i k : ℕ} {t : SimpleTree} (s : Kind) → s ≡ kind_at ts i
    → Simply ts i k t → SimplyOf ts i k t s
simply_is {ts} {i} {k} {t} s is d = subst (SimplyOf ts i k t) (sym is) (simply_of d)

pub simple_free : (ts : List Placed) (i n j : ℕ) (e : ExprTree) → kind.PmFree ≡ kind_at ts i
    → (i < length ts → n ≡ i + 1) → Fixes (Bracketed ts n) j e
    → Fixes (IsFollowed ts ClosesSimple (Simply ts i)) j (tree.Free i e)
simple_free ts i n j e is to_n fixes = record {
  same = λ k t h.
      let p = simply_is kind.PmFree is h.spelled in
      let a = after ts i n kind.PmFree (sym is) tt to_n in
      let g = fixes.same k p.0 (subst (λ n. Bracketed ts n k p.0) (sym a) p.1) in
      (g.0, ap (tree.Free i) g.1 ∙ sym p.2);
}

pub simple_abort : (ts : List Placed) (i n m j : ℕ) → kind.Abort ≡ kind_at ts i
    → (i < length ts → n ≡ i + 1) → (n < length ts → m ≡ n + 1) → (m < length ts → j ≡ m + 1)
    → Fixes (IsFollowed ts ClosesSimple (Simply ts i)) j (tree.Abort i)
simple_abort ts i n m j is to_n to_m to_j = record {
  same = λ k t h.
      let p = simply_is kind.Abort is h.spelled in
      let a = after ts i n kind.Abort (sym is) tt to_n in
      let b = after_at ts n (i + 1) m kind.OpenRound a p.0 tt to_m in
      let c = after_at ts m (i + 1 + 1) j kind.CloseRound b p.1 tt to_j in
      (c ∙ sym p.2, sym p.3);
}

acts_over : {ts : List Placed} {i k : ℕ} {a : ExprTree} {t : SimpleTree} → ActsOrCalls ts i k a t
    → ClosesSimple (kind_at ts k) → Over 0 (kind_at ts i)
acts_over {ts} {i} (acts_on (assigns p was value)) closes =
    over_at 0 (kind_at ts i) (kind.Assign p) was tt
acts_over {ts} {i} (acts_on (steps p was)) closes = over_at 0 (kind_at ts i) (kind.Step p) was tt
acts_over {ts} {i} call_alone closes = at (kind_at ts i) closes
  where
    at : (k : Kind) → ClosesSimple k → Over 0 k
    at kind.Semicolon h = tt
    at kind.CloseRound h = tt
    at _ h = absurd h

other_simple : (ts : List Placed) (i k : ℕ) (t : SimpleTree) (s : Kind) → s ≢ kind.PmFree
    → s ≢ kind.Abort → SimplyOf ts i k t s → Targeted ts i k t
other_simple ts i k t kind.PmFree f g h = absurd (f refl)
other_simple ts i k t kind.Abort f g h = absurd (g refl)
other_simple ts i k t _ f g h = h

pub simple_acts : (ts : List Placed) (i m : ℕ) (a : ExprTree) (s : Kind) → s ≡ kind_at ts i
    → s ≢ kind.PmFree → s ≢ kind.Abort → Fixes (IsFollowed ts (Over 0) (Postfix ts i)) m a
    → DerivesFrom (IsFollowed ts ClosesSimple (Simply ts i))
    (IsFollowed ts ClosesSimple (λ k t. ActsOrCalls ts m k a t))
simple_acts ts i m a s is no_free no_abort fixes =
    record {
      on = λ k t h. record {
        spelled = taken h.spelled h.following;
        following = h.following;
      };
    }
  where
    taken : {k : ℕ} {t : SimpleTree} → Simply ts i k t → ClosesSimple (kind_at ts k)
        → ActsOrCalls ts m k a t
    taken {k} {t} d closes =
        let p = other_simple ts i k t s no_free no_abort (simply_is s is d) in
        let g = fixes.same p.0 p.1 (record { spelled = p.2; following = acts_over p.3 closes }) in
        subst (λ m. ActsOrCalls ts m k a t) (sym g.0)
        (subst (λ a. ActsOrCalls ts p.0 k a t) (sym g.1) p.3)

-- the parts of a `for`
not_type : (k : Kind) → TypeBegins k → ((n : IntType) → k ≢ kind.Int n) → k ≢ kind.Struct → ⊥
not_type (kind.Int n) b f g = f n refl
not_type kind.Struct b f g = g refl
not_type _ b f g = b

no_simple : (k : Kind) → SimpleBegins k → ((n : IntType) × (k ≡ kind.Int n)) ⊎ (k ≡ kind.Struct) → ⊥
no_simple k b (inl e) = subst SimpleBegins e.1 b
no_simple k b (inr e) = subst SimpleBegins e b

closed : (k : Kind) → k ≡ kind.Semicolon → ClosesSimple k
closed k is = subst ClosesSimple (sym is) tt

pub first_part_none : (ts : List Placed) (i : ℕ) → kind.Semicolon ≡ kind_at ts i
    → Fixes (IsFollowed ts (IsOfKind kind.Semicolon) (FirstPart ts i)) i None
first_part_none ts i is = record { same = λ k t h. taken h.spelled }
  where
    taken : {k : ℕ} {t : Option FirstTree} → FirstPart ts i k t → (i ≡ k) × (None ≡ t)
    taken first_none = (refl, refl)
    taken (first_declares d) = absurd (subst TypeBegins (sym is) (declares_begins d))
    taken (first_simply d) = absurd (subst SimpleBegins (sym is) (simply_begins d))

pub first_part_declares : (ts : List Placed) (i j : ℕ) (d : DeclarationTree) (s : Kind)
    → s ≡ kind_at ts i → ((n : IntType) × (s ≡ kind.Int n)) ⊎ (s ≡ kind.Struct)
    → Fixes (IsFollowed ts (IsOfKind kind.Semicolon) (Declares ts i)) j d
    → Fixes (IsFollowed ts (IsOfKind kind.Semicolon) (FirstPart ts i)) j (Some (tree.Declare d))
first_part_declares ts i j d s is type fixes =
    record { same = λ k t h. taken h.spelled h.following }
  where
    no_semicolon : (s : Kind) → s ≡ kind.Semicolon
        → ((n : IntType) × (s ≡ kind.Int n)) ⊎ (s ≡ kind.Struct) → ⊥
    no_semicolon s semi (inl e) = let g : kind.Semicolon ≡ kind.Int e.0 = sym semi ∙ e.1 in cc
    no_semicolon s semi (inr e) = cc

    taken : {k : ℕ} {t : Option FirstTree} → FirstPart ts i k t → kind_at ts k ≡ kind.Semicolon
        → (j ≡ k) × (Some (tree.Declare d) ≡ t)
    taken first_none semi = absurd (no_semicolon s (is ∙ semi) type)
    taken {k} (first_declares {d = e} dd) semi =
        let g = fixes.same k e (record { spelled = dd; following = semi }) in
        (g.0, ap (λ d. Some (tree.Declare d)) g.1)
    taken (first_simply dd) semi =
        absurd (no_simple s (subst SimpleBegins (sym is) (simply_begins dd)) type)

pub first_part_simply : (ts : List Placed) (i j : ℕ) (x : SimpleTree) (s : Kind) → s ≡ kind_at ts i
    → s ≢ kind.Semicolon → ((n : IntType) → s ≢ kind.Int n) → s ≢ kind.Struct
    → Fixes (IsFollowed ts ClosesSimple (Simply ts i)) j x
    → Fixes (IsFollowed ts (IsOfKind kind.Semicolon) (FirstPart ts i)) j (Some (tree.Simply x))
first_part_simply ts i j x s is not_semi not_int not_struct fixes =
    record { same = λ k t h. taken h.spelled h.following }
  where
    taken : {k : ℕ} {t : Option FirstTree} → FirstPart ts i k t → kind_at ts k ≡ kind.Semicolon
        → (j ≡ k) × (Some (tree.Simply x) ≡ t)
    taken first_none semi = absurd (not_semi (is ∙ semi))
    taken (first_declares d) semi =
        absurd (not_type s (subst TypeBegins (sym is) (declares_begins d)) not_int not_struct)
    taken {k} (first_simply {s = y} d) semi =
        let g = fixes.same k y (record { spelled = d; following = closed (kind_at ts k) semi }) in
        (g.0, ap (λ x. Some (tree.Simply x)) g.1)

pub value_part_none : (ts : List Placed) (i : ℕ) → kind_at ts i ≡ kind.Semicolon
    → Fixes (IsFollowed ts (IsOfKind kind.Semicolon) (ValuePart ts i)) i None
value_part_none ts i is = record { same = λ k t h. taken h.spelled }
  where
    taken : {k : ℕ} {t : Option ExprTree} → ValuePart ts i k t → (i ≡ k) × (None ≡ t)
    taken value_none = (refl, refl)
    taken (value_some e) = absurd (subst Begins is (expression_begins e))

pub value_part_some : (ts : List Placed) (i j : ℕ) (x : ExprTree) → kind_at ts i ≢ kind.Semicolon
    → Fixes (IsFollowed ts (Over 11) (Expression ts i)) j x
    → Fixes (IsFollowed ts (IsOfKind kind.Semicolon) (ValuePart ts i)) j (Some x)
value_part_some ts i j x not fixes = record { same = λ k t h. taken h.spelled h.following }
  where
    taken : {k : ℕ} {t : Option ExprTree} → ValuePart ts i k t → kind_at ts k ≡ kind.Semicolon
        → (j ≡ k) × (Some x ≡ t)
    taken value_none semi = absurd (not semi)
    taken {k} (value_some {e = y} d) semi =
        let g = fixes.same k y (record
        { spelled = d; following = over_at 11 (kind_at ts k) kind.Semicolon semi tt }) in
        (g.0, ap (λ x. Some x) g.1)

pub third_part_none : (ts : List Placed) (i : ℕ) → kind_at ts i ≡ kind.CloseRound
    → Fixes (IsFollowed ts (IsOfKind kind.CloseRound) (ThirdPart ts i)) i None
third_part_none ts i is = record { same = λ k t h. taken h.spelled }
  where
    taken : {k : ℕ} {t : Option SimpleTree} → ThirdPart ts i k t → (i ≡ k) × (None ≡ t)
    taken third_none = (refl, refl)
    taken (third_some d) = absurd (subst SimpleBegins is (simply_begins d))

pub third_part_some : (ts : List Placed) (i j : ℕ) (x : SimpleTree) → kind_at ts i ≢ kind.CloseRound
    → Fixes (IsFollowed ts ClosesSimple (Simply ts i)) j x
    → Fixes (IsFollowed ts (IsOfKind kind.CloseRound) (ThirdPart ts i)) j (Some x)
third_part_some ts i j x not fixes = record { same = λ k t h. taken h.spelled h.following }
  where
    taken : {k : ℕ} {t : Option SimpleTree} → ThirdPart ts i k t → kind_at ts k ≡ kind.CloseRound
        → (j ≡ k) × (Some x ≡ t)
    taken third_none close = absurd (not close)
    taken {k} (third_some {s = y} d) close =
        let g = fixes.same k y (record
        { spelled = d; following = subst ClosesSimple (sym close) tt }) in
        (g.0, ap (λ x. Some x) g.1)

abbrev for_tree : Option FirstTree → Option ExprTree → Option SimpleTree → ForTree
for_tree f c t = record { first = f; condition = c; third = t }

pub for_read : (ts : List Placed) (i a m b n c p j : ℕ) (f : Option FirstTree) (v : Option ExprTree)
    (t : Option SimpleTree) → (i < length ts → a ≡ i + 1)
    → Fixes (IsFollowed ts (IsOfKind kind.Semicolon) (FirstPart ts a)) m f
    → (m < length ts → b ≡ m + 1) →
    Fixes (IsFollowed ts (IsOfKind kind.Semicolon) (ValuePart ts b)) n v
    → (n < length ts → c ≡ n + 1) →
    Fixes (IsFollowed ts (IsOfKind kind.CloseRound) (ThirdPart ts c)) p t
    → (p < length ts → j ≡ p + 1)
    → Fixes (SpellsFor ts i) j (record { first = f; condition = v; third = t })
for_read ts i a m b n c p j f v t to_a first to_b second to_c third to_j =
    record { same = λ k x d. taken d }
  where
    taken : {k : ℕ} {x : ForTree} → SpellsFor ts i k x → (j ≡ k) × (for_tree f v t ≡ x)
    taken (for_parts {m = q} {n = r} {p = s} {f = g} {c = w} {t = u} is one semi two semi'
        three close) =
        let e = after ts i a kind.OpenRound is tt to_a in
        let x = first.same q g (record
        { spelled = subst (λ a. FirstPart ts a q g) (sym e) one; following = semi }) in
        let e' = after_at ts m q b kind.Semicolon x.0 semi tt to_b in
        let y = second.same r w (record {
          spelled = subst (λ b. ValuePart ts b r w) (sym e') two;
          following = semi';
        }) in
        let e'' = after_at ts n r c kind.Semicolon y.0 semi' tt to_c in
        let z = third.same s u (record {
          spelled = subst (λ c. ThirdPart ts c s u) (sym e'') three;
          following = close;
        }) in (
          after_at ts p s j kind.CloseRound z.0 close tt to_j,
          ap (λ f. for_tree f v t) x.1
              ∙ ap (λ v. for_tree g v t) y.1 ∙ ap (λ t. for_tree g w t) z.1,
        )

-- plain statements, by their first token
abbrev PlainOf : List Placed → ℕ → ℕ → StmtTree → Kind → Type 0
PlainOf ts i k t kind.Semicolon = (k ≡ i + 1) × (t ≡ tree.Empty)
PlainOf ts i k t (kind.Int n) = (m : ℕ) × (d : DeclarationTree) × Declares ts i m d
    × (kind_at ts m ≡ kind.Semicolon) × (k ≡ m + 1) × (t ≡ tree.Declares d)
PlainOf ts i k t kind.Struct = (m : ℕ) × (d : DeclarationTree) × Declares ts i m d
    × (kind_at ts m ≡ kind.Semicolon) × (k ≡ m + 1) × (t ≡ tree.Declares d)
PlainOf ts i k t kind.Break = (kind_at ts (i + 1) ≡ kind.Semicolon) × (k ≡ i + 1 + 1)
    × (t ≡ tree.Break)
PlainOf ts i k t kind.Continue = (kind_at ts (i + 1) ≡ kind.Semicolon) × (k ≡ i + 1 + 1)
    × (t ≡ tree.Continue)
PlainOf ts i k t kind.Return = (m : ℕ) × (c : Option ExprTree) × ValuePart ts (i + 1) m c
    × (kind_at ts m ≡ kind.Semicolon) × (k ≡ m + 1) × (t ≡ tree.Return i c)
PlainOf ts i k t _ = (m : ℕ) × (s : SimpleTree) × Simply ts i m s × (kind_at ts m ≡ kind.Semicolon)
    × (k ≡ m + 1) × (t ≡ tree.Simple s)

declares_of : (ts : List Placed) (i m : ℕ) (d : DeclarationTree) (s : Kind) → TypeBegins s
    → Declares ts i m d → kind_at ts m ≡ kind.Semicolon
    → PlainOf ts i (m + 1) (tree.Declares d) s
declares_of ts i m d (kind.Int n) b h semi = (m, d, h, semi, refl, refl)
declares_of ts i m d kind.Struct b h semi = (m, d, h, semi, refl, refl)
declares_of ts i m d _ b h semi = absurd b

simple_plain : (ts : List Placed) (i m : ℕ) (x : SimpleTree) (s : Kind) → SimpleBegins s
    → Simply ts i m x → kind_at ts m ≡ kind.Semicolon
    → PlainOf ts i (m + 1) (tree.Simple x) s
simple_plain ts i m x kind.Semicolon b h semi = absurd b
simple_plain ts i m x (kind.Int n) b h semi = absurd b
simple_plain ts i m x kind.Struct b h semi = absurd b
simple_plain ts i m x kind.Break b h semi = absurd b
simple_plain ts i m x kind.Continue b h semi = absurd b
simple_plain ts i m x kind.Return b h semi = absurd b
simple_plain ts i m x _ b h semi = (m, x, h, semi, refl, refl)

plain_of : {ts : List Placed} {i k : ℕ} {t : StmtTree} → SpellsPlain ts i k t
    → PlainOf ts i k t (kind_at ts i)
plain_of {ts} {i} {k} {t} (plain_empty is) = subst (PlainOf ts i k t) (sym is) (refl, refl)
plain_of {ts} {i} (plain_declares {m = m} {d = d} h semi) =
    declares_of ts i m d (kind_at ts i) (declares_begins h) h semi
plain_of {ts} {i} (plain_simply {m = m} {s = x} h semi) =
    simple_plain ts i m x (kind_at ts i) (simply_begins h) h semi
plain_of {ts} {i} {k} {t} (plain_breaks is semi) =
    subst (PlainOf ts i k t) (sym is) (semi, refl, refl)
plain_of {ts} {i} {k} {t} (plain_continues is semi) =
    subst (PlainOf ts i k t) (sym is) (semi, refl, refl)
plain_of {ts} {i} {k} {t} (plain_returns {m = m} {c = c} is value semi) =
    subst (PlainOf ts i k t) (sym is) (m, c, value, semi, refl, refl)

plain_is : {ts : List Placed} {i k : ℕ} {t : StmtTree} (s : Kind) → s ≡ kind_at ts i
    → SpellsPlain ts i k t → PlainOf ts i k t s
plain_is {ts} {i} {k} {t} s is d = subst (PlainOf ts i k t) (sym is) (plain_of d)

pub nothing_plain : (ts : List Placed) (i n : ℕ) → kind.Semicolon ≡ kind_at ts i
    → (i < length ts → n ≡ i + 1) → Fixes (SpellsPlain ts i) n tree.Empty
nothing_plain ts i n is to_n = record {
  same = λ k t d.
      let p = plain_is kind.Semicolon is d in
      (after ts i n kind.Semicolon (sym is) tt to_n ∙ sym p.0, sym p.1);
}

pub break_plain : (ts : List Placed) (i n j : ℕ) → kind.Break ≡ kind_at ts i
    → (i < length ts → n ≡ i + 1) → (n < length ts → j ≡ n + 1)
    → Fixes (SpellsPlain ts i) j tree.Break
break_plain ts i n j is to_n to_j = record {
  same = λ k t d.
      let p = plain_is kind.Break is d in (
        after_at ts n (i + 1) j kind.Semicolon (after ts i n kind.Break (sym is) tt to_n)
            p.0 tt to_j
            ∙ sym p.1,
        sym p.2,
      );
}

pub continue_plain : (ts : List Placed) (i n j : ℕ) → kind.Continue ≡ kind_at ts i
    → (i < length ts → n ≡ i + 1) → (n < length ts → j ≡ n + 1)
    → Fixes (SpellsPlain ts i) j tree.Continue
continue_plain ts i n j is to_n to_j = record {
  same = λ k t d.
      let p = plain_is kind.Continue is d in (
        after_at ts n (i + 1) j kind.Semicolon (after ts i n kind.Continue (sym is) tt to_n) p.0 tt
            to_j ∙ sym p.1,
        sym p.2,
      );
}

pub return_plain : (ts : List Placed) (i n m j : ℕ) (c : Option ExprTree)
    → kind.Return ≡ kind_at ts i → (i < length ts → n ≡ i + 1)
    → Fixes (IsFollowed ts (IsOfKind kind.Semicolon) (ValuePart ts n)) m c
    → (m < length ts → j ≡ m + 1) → Fixes (SpellsPlain ts i) j (tree.Return i c)
return_plain ts i n m j c is to_n fixes to_j = record {
  same = λ k t d.
      let p = plain_is kind.Return is d in
      let a = after ts i n kind.Return (sym is) tt to_n in
      let g = fixes.same p.0 p.1 (record
      { spelled = subst (λ n. ValuePart ts n p.0 p.1) (sym a) p.2; following = p.3 }) in (
        after_at ts m p.0 j kind.Semicolon g.0 p.3 tt to_j ∙ sym p.4,
        ap (tree.Return i) g.1
            ∙ sym p.5,
      );
}

declares_plain_is : (ts : List Placed) (i k : ℕ) (t : StmtTree) (s : Kind)
    → ((n : IntType) × (s ≡ kind.Int n)) ⊎ (s ≡ kind.Struct) → PlainOf ts i k t s
    → (m : ℕ) × (d : DeclarationTree) × Declares ts i m d × (kind_at ts m ≡ kind.Semicolon)
    × (k ≡ m + 1) × (t ≡ tree.Declares d)
declares_plain_is ts i k t s (inl e) h = subst (PlainOf ts i k t) e.1 h
declares_plain_is ts i k t s (inr e) h = subst (PlainOf ts i k t) e h

pub declare_plain : (ts : List Placed) (i m j : ℕ) (d : DeclarationTree) (s : Kind)
    → s ≡ kind_at ts i → ((n : IntType) × (s ≡ kind.Int n)) ⊎ (s ≡ kind.Struct)
    → Fixes (IsFollowed ts (IsOfKind kind.Semicolon) (Declares ts i)) m d
    → (m < length ts → j ≡ m + 1) → Fixes (SpellsPlain ts i) j (tree.Declares d)
declare_plain ts i m j d s is type fixes to_j = record {
  same = λ k t h.
      let p = declares_plain_is ts i k t s type (plain_is s is h) in
      let g = fixes.same p.0 p.1 (record { spelled = p.2; following = p.3 }) in (
        after_at ts m p.0 j kind.Semicolon g.0 p.3 tt to_j ∙ sym p.4,
        ap tree.Declares g.1
            ∙ sym p.5,
      );
}

other_plain : (ts : List Placed) (i k : ℕ) (t : StmtTree) (s : Kind) → s ≢ kind.Semicolon
    → ((n : IntType) → s ≢ kind.Int n) → s ≢ kind.Struct → s ≢ kind.Break
    → s ≢ kind.Continue → s ≢ kind.Return
    → PlainOf ts i k t s → (m : ℕ) × (x : SimpleTree) × Simply ts i m x
    × (kind_at ts m ≡ kind.Semicolon) × (k ≡ m + 1) × (t ≡ tree.Simple x)
other_plain ts i k t kind.Semicolon a b c d e f h = absurd (a refl)
other_plain ts i k t (kind.Int n) a b c d e f h = absurd (b n refl)
other_plain ts i k t kind.Struct a b c d e f h = absurd (c refl)
other_plain ts i k t kind.Break a b c d e f h = absurd (d refl)
other_plain ts i k t kind.Continue a b c d e f h = absurd (e refl)
other_plain ts i k t kind.Return a b c d e f h = absurd (f refl)
other_plain ts i k t _ a b c d e f h = h

starts_token : (k : Kind) → SimpleBegins k → IsToken k
starts_token kind.End h = h
starts_token _ h = tt

pub simple_is_plain : (ts : List Placed) (i n m j : ℕ) (x : SimpleTree) (s : Kind)
    → s ≡ kind_at ts i
    → s ≢ kind.Semicolon → ((n : IntType) → s ≢ kind.Int n) → s ≢ kind.Struct
    → s ≢ kind.Break → s ≢ kind.Continue → s ≢ kind.Return
    → (i < length ts → n ≡ i + 1) → i ≤ m → Fixes (IsFollowed ts ClosesSimple (Simply ts i)) m x
    → (m < length ts → n ≤ m + 1 → j ≡ m + 1) → Fixes (SpellsPlain ts i) j (tree.Simple x)
simple_is_plain ts i n m j x s is a b c d e f to_n stays fixes to_j = record {
  same = λ k t h.
      let p = other_plain ts i k t s a b c d e f (plain_is s is h) in
      let g = fixes.same p.0 p.1 (record
      { spelled = p.2; following = closed (kind_at ts p.0) p.3 }) in
      let here : n ≡ i + 1 = to_n (inside ts i (starts_token (kind_at ts i) (simply_begins p.2))) in
      let within : m < length ts = subst (λ m. m < length ts) (sym g.0)
      (inside_at ts p.0 kind.Semicolon p.3 tt) in
      let end : j ≡ m + 1 = to_j within (omega arith) in
      (end ∙ ap (λ m. m + 1) g.0 ∙ sym p.4, ap tree.Simple g.1 ∙ sym p.5);
}

-- statements, by their first token
abbrev StmtOf : List Placed → ℕ → ℕ → StmtTree → Kind → Type 0
StmtOf ts i k t kind.OpenBrace = (all : Statements) × StatedAll ts (i + 1) k all
    × (t ≡ tree.Block all)
StmtOf ts i k t kind.If = SpellsChoice ts (i + 1) k t
StmtOf ts i k t kind.While = SpellsWhile ts i (i + 1) k t
StmtOf ts i k t kind.Do = SpellsDo ts i (i + 1) k t
StmtOf ts i k t kind.For = SpellsCounted ts i (i + 1) k t
StmtOf ts i k t _ = SpellsPlain ts i k t

type_stmt : (ts : List Placed) (i k : ℕ) (t : StmtTree) (s : Kind) → TypeBegins s
    → SpellsPlain ts i k t → StmtOf ts i k t s
type_stmt ts i k t (kind.Int n) b h = h
type_stmt ts i k t kind.Struct b h = h
type_stmt ts i k t _ b h = absurd b

simple_stmt : (ts : List Placed) (i k : ℕ) (t : StmtTree) (s : Kind) → SimpleBegins s
    → SpellsPlain ts i k t → StmtOf ts i k t s
simple_stmt ts i k t kind.OpenBrace b h = absurd b
simple_stmt ts i k t kind.If b h = absurd b
simple_stmt ts i k t kind.While b h = absurd b
simple_stmt ts i k t kind.Do b h = absurd b
simple_stmt ts i k t kind.For b h = absurd b
simple_stmt ts i k t _ b h = h

stmt_by : {ts : List Placed} {i k : ℕ} {t : StmtTree} {loop : Bool} → Spells ts loop i k t
    → StmtOf ts i k t (kind_at ts i)
stmt_by {ts} {i} {k} {t} (empty is) = subst (StmtOf ts i k t) (sym is) (plain_empty is)
stmt_by {ts} {i} {k} {t} (declares d semi) =
    type_stmt ts i k t (kind_at ts i) (declares_begins d) (plain_declares d semi)
stmt_by {ts} {i} {k} {t} (simply d semi) =
    simple_stmt ts i k t (kind_at ts i) (simply_begins d) (plain_simply d semi)
stmt_by {ts} {i} {k} {t} (block {all = all} is h close) =
    subst (StmtOf ts i k t) (sym is) (all, stated_all h close, refl)
stmt_by {ts} {i} {k} {t} (if_alone is c h not) =
    subst (StmtOf ts i k t) (sym is) (choice_alone c (stated h) not)
stmt_by {ts} {i} {k} {t} (if_else is c h e g) =
    subst (StmtOf ts i k t) (sym is) (choice_else c (stated h) e (stated g))
stmt_by {ts} {i} {k} {t} (repeats is c h) = subst (StmtOf ts i k t) (sym is) (repeated c (stated h))
stmt_by {ts} {i} {k} {t} (repeats_after is h word c semi) =
    subst (StmtOf ts i k t) (sym is) (repeated_after (stated h) word c semi)
stmt_by {ts} {i} {k} {t} (counts is opens f semi c semi' third close h) =
    subst (StmtOf ts i k t) (sym is)
    (counted (for_parts opens f semi c semi' third close) (stated h))
stmt_by {ts} {i} {k} {t} (breaks is semi) = subst (StmtOf ts i k t) (sym is) (plain_breaks is semi)
stmt_by {ts} {i} {k} {t} (continues is semi) =
    subst (StmtOf ts i k t) (sym is) (plain_continues is semi)
stmt_by {ts} {i} {k} {t} (returns is value semi) =
    subst (StmtOf ts i k t) (sym is) (plain_returns is value semi)

stmt_is : {ts : List Placed} {i k : ℕ} {t : StmtTree} (s : Kind) → s ≡ kind_at ts i
    → Stated ts i k t → StmtOf ts i k t s
stmt_is {ts} {i} {k} {t} s is (stated d) = subst (StmtOf ts i k t) (sym is) (stmt_by d)

pub stated_block : (ts : List Placed) (i n j : ℕ) (all : Statements) (x : StmtTree)
    → kind.OpenBrace ≡ kind_at ts i → (i < length ts → n ≡ i + 1) → Fixes (StatedAll ts n) j all
    → x ≡ tree.Block all → Fixes (Stated ts i) j x
stated_block ts i n j all x is to_n fixes e = record {
  same = λ k t d.
      let p = stmt_is kind.OpenBrace is d in
      let a = after ts i n kind.OpenBrace (sym is) tt to_n in
      let g = fixes.same k p.0 (subst (λ n. StatedAll ts n k p.0) (sym a) p.1) in
      (g.0, e ∙ ap tree.Block g.1 ∙ sym p.2);
}

pub stated_choice : (ts : List Placed) (i n : ℕ) → kind.If ≡ kind_at ts i
    → (i < length ts → n ≡ i + 1) → DerivesFrom (Stated ts i) (SpellsChoice ts n)
stated_choice ts i n is to_n =
    record {
      on = λ k t d. subst (λ n. SpellsChoice ts n k t)
          (sym (after ts i n kind.If (sym is) tt to_n)) (stmt_is kind.If is d);
    }

pub stated_while : (ts : List Placed) (i n : ℕ) → kind.While ≡ kind_at ts i
    → (i < length ts → n ≡ i + 1) → DerivesFrom (Stated ts i) (SpellsWhile ts i n)
stated_while ts i n is to_n = record {
  on = λ k t d.
      subst (λ n. SpellsWhile ts i n k t) (sym (after ts i n kind.While (sym is) tt to_n))
      (stmt_is kind.While is d);
}

pub stated_do : (ts : List Placed) (i n : ℕ) → kind.Do ≡ kind_at ts i
    → (i < length ts → n ≡ i + 1) → DerivesFrom (Stated ts i) (SpellsDo ts i n)
stated_do ts i n is to_n = record {
  on = λ k t d.
      subst (λ n. SpellsDo ts i n k t) (sym (after ts i n kind.Do (sym is) tt to_n))
      (stmt_is kind.Do is d);
}

pub stated_for : (ts : List Placed) (i n : ℕ) → kind.For ≡ kind_at ts i
    → (i < length ts → n ≡ i + 1) → DerivesFrom (Stated ts i) (SpellsCounted ts i n)
stated_for ts i n is to_n = record {
  on = λ k t d.
      subst (λ n. SpellsCounted ts i n k t) (sym (after ts i n kind.For (sym is) tt to_n))
      (stmt_is kind.For is d);
}

other_stmt : (ts : List Placed) (i k : ℕ) (t : StmtTree) (s : Kind) → s ≢ kind.OpenBrace
    → s ≢ kind.If → s ≢ kind.While → s ≢ kind.Do → s ≢ kind.For → StmtOf ts i k t s
    → SpellsPlain ts i k t
other_stmt ts i k t kind.OpenBrace a b c d e h = absurd (a refl)
other_stmt ts i k t kind.If a b c d e h = absurd (b refl)
other_stmt ts i k t kind.While a b c d e h = absurd (c refl)
other_stmt ts i k t kind.Do a b c d e h = absurd (d refl)
other_stmt ts i k t kind.For a b c d e h = absurd (e refl)
other_stmt ts i k t _ a b c d e h = h

pub stated_plain : (ts : List Placed) (i : ℕ) (s : Kind) → s ≡ kind_at ts i → s ≢ kind.OpenBrace
    → s ≢ kind.If → s ≢ kind.While → s ≢ kind.Do → s ≢ kind.For
    → DerivesFrom (Stated ts i) (SpellsPlain ts i)
stated_plain ts i s is a b c d e =
    record { on = λ k t h. other_stmt ts i k t s a b c d e (stmt_is s is h) }

-- choices and loops
pub else_read : (ts : List Placed) (i m j n q : ℕ) (e : ExprTree) (a b x : StmtTree)
    → Fixes (Bracketed ts i) m e → Fixes (Stated ts m) j a → kind_at ts j ≡ kind.Else
    → (j < length ts → n ≡ j + 1) → Fixes (Stated ts n) q b → x ≡ tree.IfElse e a b
    → Fixes (SpellsChoice ts i) q x
else_read ts i m j n q e a b x condition first is to_n second h = record { same = λ k t d. taken d }
  where
    taken : {k : ℕ} {t : StmtTree} → SpellsChoice ts i k t → (q ≡ k) × (x ≡ t)
    taken {k} (choice_alone {m = p} {e = c} {s = s} d one not) =
        let f = condition.same p c d in
        let g = first.same k s (subst (λ p. Stated ts p k s) (sym f.0) one) in
        absurd (not (ap (kind_at ts) (sym g.0) ∙ is))
    taken {k} (choice_else {m = p} {j = r} {e = c} {a = s} {b = u} d one was two) =
        let f = condition.same p c d in
        let g = first.same r s (subst (λ p. Stated ts p r s) (sym f.0) one) in
        let o = after_at ts j r n kind.Else g.0 was tt to_n in
        let y = second.same k u (subst (λ n. Stated ts n k u) (sym o) two) in (
          y.0,
          h ∙ ap (λ e. tree.IfElse e a b) f.1 ∙ ap (λ a. tree.IfElse c a b) g.1
              ∙ ap (tree.IfElse c s) y.1,
        )

pub alone_read : (ts : List Placed) (i m j : ℕ) (e : ExprTree) (a x : StmtTree)
    → Fixes (Bracketed ts i) m e → Fixes (Stated ts m) j a → kind_at ts j ≢ kind.Else
    → x ≡ tree.If e a → Fixes (SpellsChoice ts i) j x
alone_read ts i m j e a x condition first not h = record { same = λ k t d. taken d }
  where
    taken : {k : ℕ} {t : StmtTree} → SpellsChoice ts i k t → (j ≡ k) × (x ≡ t)
    taken {k} (choice_alone {m = p} {e = c} {s = s} d one no_else) =
        let f = condition.same p c d in
        let g = first.same k s (subst (λ p. Stated ts p k s) (sym f.0) one) in
        (g.0, h ∙ ap (λ e. tree.If e a) f.1 ∙ ap (tree.If c) g.1)
    taken {k} (choice_else {m = p} {j = r} {e = c} {a = s} d one was two) =
        let f = condition.same p c d in
        let g = first.same r s (subst (λ p. Stated ts p r s) (sym f.0) one) in
        absurd (not (ap (kind_at ts) g.0 ∙ was))

pub while_read : (ts : List Placed) (w i m j : ℕ) (e : ExprTree) (a x : StmtTree)
    → Fixes (Bracketed ts i) m e → Fixes (Stated ts m) j a
    → x ≡ tree.While w e a → Fixes (SpellsWhile ts w i) j x
while_read ts w i m j e a x condition first h = record { same = λ k t d. taken d }
  where
    taken : {k : ℕ} {t : StmtTree} → SpellsWhile ts w i k t → (j ≡ k) × (x ≡ t)
    taken {k} (repeated {m = p} {e = c} {s = s} d one) =
        let f = condition.same p c d in
        let g = first.same k s (subst (λ p. Stated ts p k s) (sym f.0) one) in
        (g.0, h ∙ ap (λ e. tree.While w e a) f.1 ∙ ap (tree.While w c) g.1)

pub do_read : (ts : List Placed) (w i m n q j : ℕ) (e : ExprTree) (a x : StmtTree)
    → Fixes (Stated ts i) m a → (m < length ts → n ≡ m + 1) → Fixes (Bracketed ts n) q e
    → (q < length ts → j ≡ q + 1) → x ≡ tree.Do w a e → Fixes (SpellsDo ts w i) j x
do_read ts w i m n q j e a x first to_n condition to_j h = record { same = λ k t d. taken d }
  where
    taken : {k : ℕ} {t : StmtTree} → SpellsDo ts w i k t → (j ≡ k) × (x ≡ t)
    taken (repeated_after {m = p} {j = r} {e = c} {s = s} one was d semi) =
        let g = first.same p s one in
        let o = after_at ts m p n kind.While g.0 was tt to_n in
        let f = condition.same r c (subst (λ n. Bracketed ts n r c) (sym o) d) in (
          after_at ts q r j kind.Semicolon f.0 semi tt to_j,
          h ∙ ap (λ a. tree.Do w a e) g.1 ∙ ap (tree.Do w s) f.1,
        )

pub counted_read : (ts : List Placed) (w i m j : ℕ) (p : ForTree) (a x : StmtTree)
    → Fixes (SpellsFor ts i) m p → Fixes (Stated ts m) j a
    → x ≡ tree.For w p.first p.condition p.third a → Fixes (SpellsCounted ts w i) j x
counted_read ts w i m j p a x parts first h = record { same = λ k t d. taken d }
  where
    taken : {k : ℕ} {t : StmtTree} → SpellsCounted ts w i k t → (j ≡ k) × (x ≡ t)
    taken {k} (counted {m = q} {p = r} {s = s} d one) =
        let f = parts.same q r d in
        let g = first.same k s (subst (λ q. Stated ts q k s) (sym f.0) one) in (
          g.0,
          h ∙ ap (λ p. tree.For w p.first p.condition p.third a) f.1
              ∙ ap (tree.For w r.first r.condition r.third) g.1,
        )

-- the statements so far, and the rest from a place on
pub record RestFrom (ts : List Placed) (i : ℕ) (xs : Statements) (k : ℕ) (t : Statements) :
    Type 0 where
  pub rest : Statements
  pub spelled : StatedAll ts i k rest
  pub joined : inside_tree.statements_then xs rest ≡ t

pub block_begin : (ts : List Placed) (i : ℕ) (xs : Statements) → xs ≡ tree.Nothing
    → DerivesFrom (StatedAll ts i) (RestFrom ts i xs)
block_begin ts i xs e = record {
  on = λ k t d.
      record { rest = t; spelled = d; joined = ap (λ xs. inside_tree.statements_then xs t) e };
}

starts_goes : (k : Kind) → Starts k → goes_on k ≡ true
starts_goes kind.CloseBrace h = absurd h
starts_goes kind.End h = absurd h
starts_goes _ h = refl

pub block_more : (ts : List Placed) (i m : ℕ) (s : StmtTree) (xs ys : Statements) (P : ℕ
    → Statements → Type 0) → DerivesFrom P (RestFrom ts i ys) → true ≡ goes_on (kind_at ts i)
    → Fixes (Stated ts i) m s → ((ss : Statements) → inside_tree.statements_then xs ss
    ≡ inside_tree.statements_then ys (tree.Then s ss)) → DerivesFrom P (RestFrom ts m xs)
block_more ts i m s xs ys P leads goes fixes added = record {
  on = λ k t d.
      let g = leads.on k t d in taken g.spelled g.joined;
}
  where
    taken : {k : ℕ} {t rest : Statements} → StatedAll ts i k rest
        → inside_tree.statements_then ys rest ≡ t → RestFrom ts m xs k t
    taken (stated_all nothing close) joined =
        let e : true ≡ goes_on kind.CloseBrace = goes ∙ ap goes_on close in absurd (cc)
    taken (stated_all {m = q} (something {m = p} {s = x} {all = others} one more) close) joined =
        let f = fixes.same p x (stated one) in
        record {
          rest = others;
          spelled = subst (λ p. StatedAll ts p (q + 1) others) (sym f.0) (stated_all more close);
          joined = added others ∙ ap (λ s. inside_tree.statements_then ys (tree.Then s others)) f.1
              ∙ joined;
        }

pub block_end : (ts : List Placed) (i n : ℕ) (xs : Statements) (P : ℕ → Statements → Type 0)
    → DerivesFrom P (RestFrom ts i xs) → false ≡ goes_on (kind_at ts i)
    → (i < length ts → n ≡ i + 1) → Fixes P n xs
block_end ts i n xs P leads stops to_n = record {
  same = λ k t d.
      let g = leads.on k t d in taken g.spelled g.joined;
}
  where
    taken : {k : ℕ} {t rest : Statements} → StatedAll ts i k rest
        → inside_tree.statements_then xs rest ≡ t → (n ≡ k) × (xs ≡ t)
    taken (stated_all nothing close) joined =
        (after ts i n kind.CloseBrace close tt to_n, sym (and_then-nothing xs) ∙ joined)
    taken (stated_all (something one more) close) joined =
        let e = starts_goes (kind_at ts i) (spells_starts one) in absurd (cc)

pub ruleset types = (typed_int, typed_pointer)

pub ruleset declarations = (declares_plain, declares_initial)

pub ruleset acted_on = (acted_assign, acted_step, acted_call)

pub ruleset simples = (led_simple, simple_free, simple_abort, simple_acts)

pub ruleset first_parts = (first_part_none, first_part_declares, first_part_simply)

pub ruleset value_parts = (value_part_none, value_part_some)

pub ruleset third_parts = (third_part_none, third_part_some)

pub ruleset plains = (
  nothing_plain,
  break_plain,
  continue_plain,
  return_plain,
  declare_plain,
  simple_is_plain,
)

pub ruleset statements = (
  led_stmt,
  stated_block,
  stated_choice,
  stated_while,
  stated_do,
  stated_for,
  stated_plain,
)

pub ruleset choices = (else_read, alone_read)

pub ruleset blocks = (block_begin, block_more, block_end)

pub ruleset stmt_trees = (and_then-one_more)
