-- The constants in the code of an expression are words if the numbers among its tokens are.
use Rattle.std.proofs.Common.{ℕ, suc, ◌+◌, pos, negsuc, List, ◌++◌, arith}
use Rattle.std.specs.List.{AllByRecursion}
use Rattle.std.proofs.lemmas.Int.{ints}
use Rattle.nvm_base.specs.Wrap.{IsWord}
use Rattle.nvm_base.proofs.Lists.{all_append}
use Rattle.c_lexer.specs.declared.token.Placed.{Placed}
use Rattle.c_tree.specs.declared.expr.BinaryOp.{BinaryOp}
use Rattle.c_tree.specs.declared.expr.UnaryOp.{UnaryOp}
use Rattle.c_tree.specs.declared.expr.UnaryOp.TheVariants as unary
use Rattle.c_tree.specs.Kinds.{ident_at, value_at}
use Rattle.c_tree.specs.ExprTree.{ExprTree, Ident}
use Rattle.c_tree.specs.ExprTree as tree
use Rattle.c_tree.specs.Spelling.{Expression, unconditional, conditional, Level, level_zero}
use Rattle.c_tree.specs.Spelling.{level_suc, Chain, chain_end, chain_more, Unary, signed, unsigned}
use Rattle.c_tree.specs.Spelling.{Postfix, postfix, Parts, parts_end, field}
use Rattle.c_tree.specs.Spelling.{element, Primary, number, null, variable, call, root, new}
use Rattle.c_tree.specs.Spelling.{brackets, SpellsArguments, no_arguments, arguments, MoreArguments}
use Rattle.c_tree.specs.Spelling.{no_more, more, cast}
use Rattle.c_types.specs.Expressions.{sides_type}
use Rattle.ir.specs.declared.instruction.Instruction.{Instruction}
use Rattle.ir.specs.declared.instruction.Instruction.TheVariants.{Const, Copy, Bin, Jump, Branch}
use Rattle.ir.specs.declared.instruction.Instruction.TheVariants.{Load, Store, New, Free, Call}
use Rattle.ir.specs.declared.instruction.Instruction.TheVariants.{Return, Tick, Trap, Log}
use Rattle.lower.specs.declared.form.Form.{Form}
use Rattle.lower.specs.declared.form.Form.TheVariants.{Both, Either, Direct, Exchanged}
use Rattle.lower.specs.Forms.{form_of, typed_form}
use Rattle.lower.specs.Names.{Variables}
use Rattle.lower.specs.Lowers.{Context, exp_end, exp_code, reg_of, target_end, target_code}
use Rattle.lower.specs.Lowers.{arguments_code, form_code}
use Rattle.tree_law.proofs.checked.Tokens.{small_word}

abbrev pub IsWordConstant : Instruction → Type 0
IsWordConstant (Const to value) = IsWord value
IsWordConstant (Copy to from) = Unit {0}
IsWordConstant (Bin op to left right) = Unit {0}
IsWordConstant (Jump place) = Unit {0}
IsWordConstant (Branch on place) = Unit {0}
IsWordConstant (Load to target) = Unit {0}
IsWordConstant (Store target from line) = Unit {0}
IsWordConstant (New to kind log_fill line) = Unit {0}
IsWordConstant (Free from kind line) = Unit {0}
IsWordConstant (Call to function args) = Unit {0}
IsWordConstant (Return from) = Unit {0}
IsWordConstant Tick = Unit {0}
IsWordConstant (Trap kind) = Unit {0}
IsWordConstant (Log target) = Unit {0}

abbrev pub AreWords : List Instruction → Type 0
AreWords is = AllByRecursion IsWordConstant is

pub both_words : (is js : List Instruction) → AreWords is → AreWords js → AreWords (is ++ js)
both_words is js a b = all_append IsWordConstant is js a b

pub zero_word : IsWord (pos 0)
zero_word = small_word 0 (omega arith)

pub one_word : IsWord (pos 1)
one_word = small_word 1 (omega arith)

ones_word : IsWord (negsuc 0)
ones_word = (omega (arith, ints), omega (arith, ints))

-- the code of an expression, and that of only its base and its index
abbrev pub ExpWords : Context → ExprTree → Type 0
ExpWords k e = (v : Variables) (p : ℕ) → AreWords (exp_code k v e p)
    × AreWords (target_code k v e p)

abbrev pub ArgumentWords : Context → tree.Arguments → Type 0
ArgumentWords k es = (v : Variables) (p : ℕ) → AreWords (arguments_code k v es p)

form_words : (f : Form) (node : ℕ → ℕ) (code : ℕ → List Instruction) (end reg : ℕ → ℕ) (on p : ℕ)
    → ((q : ℕ) → AreWords (code q)) → AreWords (form_code f node code end reg on p)
form_words Both node code end reg on p all =
    (tt, both_words (code (suc p)) _ (all (suc p)) (tt, (one_word, (tt, (zero_word, tt)))))
form_words Either node code end reg on p all = (
  tt,
  (
    tt,
    both_words (code (suc (suc p))) _ (all (suc (suc p)))
        (tt, (one_word, (tt, (zero_word, tt)))),
  ),
)
form_words (Direct o) node code end reg on p all = both_words (code p) _ (all p) (tt, tt)
form_words (Exchanged o) node code end reg on p all = both_words (code p) _ (all p) (tt, tt)

binary_words : (k : Context) (o : BinaryOp) (place : ℕ) (a b : ExprTree) → ExpWords k a
    → ExpWords k b → ExpWords k (tree.Binary o place a b)
binary_words k o place a b ha hb v p =
    let q : ℕ = exp_end a p in (
      both_words (exp_code k v a p) _ (ha v p).0
          (form_words (typed_form (sides_type k.tables v.scopes o a b) (form_of o)) k.node
          (exp_code k v b) (exp_end b) (reg_of k v b) (reg_of k v a q) q
          (λ z. (hb v z).0)),
      tt,
    )

conditional_words : (k : Context) (c : ExprTree) (place : ℕ) (a b : ExprTree) → ExpWords k c
    → ExpWords k a → ExpWords k b → ExpWords k (tree.Conditional c place a b)
conditional_words k c place a b hc ha hb v p =
    let p1 : ℕ = exp_end c p in
    let p2 : ℕ = exp_end a (suc p1) in
    let q : ℕ = suc (suc p2) in (
      both_words (exp_code k v c p) _ (hc v p).0 (
        tt,
        both_words (exp_code k v a (suc p1)) _ (ha v (suc p1)).0
            (tt, (tt, both_words (exp_code k v b q) _ (hb v q).0 (tt, tt))),
      ),
      tt,
    )

unary_words : (k : Context) (o : UnaryOp) (place : ℕ) (a : ExprTree) → ExpWords k a
    → ExpWords k (tree.Unary o place a)
unary_words k unary.Negate place a h v p =
    ((zero_word, both_words (exp_code k v a (suc p)) _ (h v (suc p)).0 (tt, tt)), tt)
unary_words k unary.Complement place a h v p =
    ((ones_word, both_words (exp_code k v a (suc p)) _ (h v (suc p)).0 (tt, tt)), tt)
unary_words k unary.Not place a h v p =
    (both_words (exp_code k v a p) _ (h v p).0 (zero_word, (tt, tt)), tt)
unary_words k (unary.Cast n) place a h v p = ((h v p).0, tt)

arrow_words : (k : Context) (a : ExprTree) (place : ℕ) (name : Ident) → ExpWords k a
    → ExpWords k (tree.Arrow a place name)
arrow_words k a place name h v p = (both_words (exp_code k v a p) _ (h v p).0 (tt, tt), (h v p).0)

index_words : (k : Context) (a b : ExprTree) (place : ℕ) → ExpWords k a → ExpWords k b
    → ExpWords k (tree.Index a place b)
index_words k a b place ha hb v p =
    let q : ℕ = target_end a p in
    let inner : AreWords (target_code k v a p ++ exp_code k v b q) =
    both_words (target_code k v a p) _ (ha v p).1 (hb v q).0 in
    (both_words (target_code k v a p ++ exp_code k v b q) _ inner (tt, tt), inner)

call_words : (k : Context) (name : Ident) (all : tree.Arguments) → ArgumentWords k all
    → ExpWords k (tree.Call name all)
call_words k name all h v p = (both_words (arguments_code k v all p) _ (h v p) (tt, (tt, tt)), tt)

module _ (k : Context) (ts : List Placed) (words : (i : ℕ) → IsWord (value_at ts i)) where
  mutual
    pub expression_words : {i j : ℕ} {e : ExprTree} → Expression ts i j e → ExpWords k e
    expression_words (unconditional h) = level_words h
    expression_words (conditional {m = m} {c = c} {a = a} {b = b} h is left colon right) =
        conditional_words k c m a b (level_words h) (expression_words left)
        (expression_words right)

    level_words : {l i j : ℕ} {e : ExprTree} → Level ts l i j e → ExpWords k e
    level_words (level_zero h) = prefix_words h
    level_words (level_suc first chain) = chain_words (level_words first) chain

    chain_words : {l i j : ℕ} {a e : ExprTree} → ExpWords k a → Chain ts l i j a e → ExpWords k e
    chain_words h chain_end = h
    chain_words h (chain_more {i = i} {a = a} {b = b} o is right chain) =
        chain_words (binary_words k o i a b h (level_words right)) chain

    prefix_words : {i j : ℕ} {e : ExprTree} → Unary ts i j e → ExpWords k e
    prefix_words (signed {i = i} {e = e} o is operand) = unary_words k o i e (prefix_words operand)
    prefix_words (cast {i = i} {e = e} n opens is closes operand) =
        unary_words k (unary.Cast n) (i + 1) e (prefix_words operand)
    prefix_words (unsigned h) = postfix_words h

    pub postfix_words : {i j : ℕ} {e : ExprTree} → Postfix ts i j e → ExpWords k e
    postfix_words (postfix h parts) = parts_words (primary_words h) parts

    parts_words : {i j : ℕ} {a e : ExprTree} → ExpWords k a → Parts ts i j a e → ExpWords k e
    parts_words h parts_end = h
    parts_words h (field {i = i} {a = a} arrow name parts) =
        parts_words (arrow_words k a i (ident_at ts (i + 1)) h) parts
    parts_words h (element {i = i} {a = a} {b = b} opens index closes parts) =
        parts_words (index_words k a b i h (expression_words index)) parts

    primary_words : {i j : ℕ} {e : ExprTree} → Primary ts i j e → ExpWords k e
    primary_words (number {i = i} is) v p = ((words i, tt), tt)
    primary_words (null is) v p = ((zero_word, tt), tt)
    primary_words (variable is) v p = (tt, tt)
    primary_words (call {i = i} {all = all} name opens h) v p =
        call_words k (ident_at ts i) all (arguments_words h) v p
    primary_words (root is dot name) v p = ((tt, tt), tt)
    primary_words (new is opens word name closes) v p = ((tt, tt), tt)
    primary_words (brackets opens h closes) v p = expression_words h v p

    pub arguments_words : {i j : ℕ} {all : tree.Arguments} → SpellsArguments ts i j all
        → ArgumentWords k all
    arguments_words (no_arguments closes) v p = tt
    arguments_words (arguments {e = e} h others) v p =
        both_words (exp_code k v e p) _ (expression_words h v p).0
        (more_words others v (exp_end e p))

    more_words : {i j : ℕ} {all : tree.Arguments} → MoreArguments ts i j all → ArgumentWords k all
    more_words (no_more closes) v p = tt
    more_words (more {e = e} comma h others) v p =
        both_words (exp_code k v e p) _ (expression_words h v p).0
        (more_words others v (exp_end e p))
