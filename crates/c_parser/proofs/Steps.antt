-- One step of the run, over one fixed list.
use Rattle.std.proofs.Common.{ℕ, zero, suc, ◌+◌, ◌≡◌, ◌≤◌, ◌<◌, List, [], ◌∷◌, length, Option, Some}
use Rattle.std.proofs.Common.{None, drop, slice_get, refl, sym, ap, ◌∙◌, add-one, subst, arith}
use Rattle.std.proofs.lemmas.Option.{slice_get_past}
use Rattle.std.proofs.lemmas.Bool.{le-ltb, lt-ltb}
use Rattle.c_lexer.specs.declared.token.Placed.{Placed}
use Rattle.c_tree.specs.declared.kind.Kind.{Kind}
use Rattle.c_tree.specs.declared.kind.Kind.TheVariants as kind
use Rattle.c_parser.specs.declared.want.Want.{Want}
use Rattle.c_tree.specs.Kinds.{placed_kind, kind_at, token_kind}
use Rattle.c_parser.specs.inside.Wants.{parser_step}
use Rattle.c_parser.specs.inside.Stacks.{weight}
use Rattle.c_parser.specs.inside.Run.{Verdict, Refused, Deep, weighed, ends, parse_on, run_from}
use Rattle.c_parser.specs.inside.Run.{parse_run}

abbrev pub at_token : Option ℕ → ℕ → Option Placed → List Want → (List Want → Verdict) → Verdict
at_token limit i None k on = ends i (parser_step k kind.End)
at_token limit i (Some t) k on = parse_on limit i (parser_step k (token_kind t.token)) on

from_drop : (limit : Option ℕ) (ts : List Placed) (i p : ℕ) (k : List Want)
    → run_from limit (drop i ts) p k ≡ at_token limit p (slice_get ts i) k
    (λ k. run_from limit (drop (suc i) ts) (p + 1) k)
from_drop limit [] zero p k = refl
from_drop limit [] (suc i) p k = refl
from_drop limit (x ∷ xs) zero p k = refl
from_drop limit (x ∷ xs) (suc i) p k = from_drop limit xs i p k

pub run_at : (limit : Option ℕ) (ts : List Placed) (i : ℕ) (k : List Want)
    → parse_run limit ts i k ≡ at_token limit i (slice_get ts i) k
    (λ k. parse_run limit ts (i + 1) k)
unfolding parse_run
run_at limit ts i k = subst (λ j. run_from limit (drop i ts) i k ≡ at_token limit i (slice_get ts i)
    k (λ k. run_from limit (drop j ts) (i + 1) k)) (sym (add-one i)) (from_drop limit ts i i k)

-- a token's kind is never that of the end
abbrev pub IsToken : Kind → Type 0
IsToken kind.End = ⊥
IsToken _ = Unit {0}

pub present : (ts : List Placed) (i : ℕ) → i < length ts → (x : Placed) × (slice_get ts i ≡ Some x)
present [] i inside = absurd (omega (arith, inside))
present (x ∷ xs) zero inside = (x, refl)
present (x ∷ xs) (suc i) inside = present xs i (omega (arith, inside))

module _ (ts : List Placed) (i : ℕ) where
  -- a token that may come and isn't too heavy
  pub moves : (k next : List Want) → i < length ts → Some next ≡ parser_step k (kind_at ts i)
      → weight next ≤ 64 → parse_run (Some 64) ts i k ≡ parse_run (Some 64) ts (i + 1) next
  moves k next inside may light =
      run_at (Some 64) ts i k ∙ go (slice_get ts i) (present ts i inside) may
    where
      go : (o : Option Placed) → (x : Placed) × (o ≡ Some x)
          → Some next ≡ parser_step k (placed_kind o)
          → at_token (Some 64) i o k (λ k. parse_run (Some 64) ts (i + 1) k)
          ≡ parse_run (Some 64) ts
          (i + 1) next
      go None is may = absurd (cc (is.1))
      go (Some x) is may =
          ap (λ o. parse_on (Some 64) i o (λ k. parse_run (Some 64) ts (i + 1) k)) (sym may)
          ∙ ap (λ b. weighed b i (parse_run (Some 64) ts (i + 1) next))
          (le-ltb 64 (weight next) light)

  -- a token that may come but is too heavy
  pub sinks : (k next : List Want) → i < length ts → Some next ≡ parser_step k (kind_at ts i)
      → 64 < weight next → parse_run (Some 64) ts i k ≡ Deep i
  sinks k next inside may heavy =
      run_at (Some 64) ts i k ∙ go (slice_get ts i) (present ts i inside) may
    where
      go : (o : Option Placed) → (x : Placed) × (o ≡ Some x)
          → Some next ≡ parser_step k (placed_kind o)
          → at_token (Some 64) i o k (λ k. parse_run (Some 64) ts (i + 1) k) ≡ Deep i
      go None is may = absurd (cc (is.1))
      go (Some x) is may =
          ap (λ o. parse_on (Some 64) i o (λ k. parse_run (Some 64) ts (i + 1) k)) (sym may)
          ∙ ap (λ b. weighed b i (parse_run (Some 64) ts (i + 1) next))
          (lt-ltb 64 (weight next) heavy)

  -- a token that may not come
  pub stuck : (limit : Option ℕ) (k : List Want) → parser_step k (kind_at ts i) ≡ None
      → parse_run limit ts i k ≡ Refused i
  stuck limit k not = run_at limit ts i k ∙ go (slice_get ts i) not
    where
      go : (o : Option Placed) → parser_step k (placed_kind o) ≡ None
          → at_token limit i o k (λ k. parse_run limit ts (i + 1) k) ≡ Refused i
      go None h = ap (ends i) h
      go (Some t) h = ap (λ o. parse_on limit i o (λ k. parse_run limit ts (i + 1) k)) h

  -- the same, if the token's kind is known
  pub goes_on : (k next : List Want) (t : Kind) → kind_at ts i ≡ t → IsToken t
      → parser_step k t ≡ Some next → parse_run None ts i k ≡ parse_run None ts (i + 1) next
  goes_on k next t is token may = run_at None ts i k ∙ go (slice_get ts i) is
    where
      go : (o : Option Placed) → placed_kind o ≡ t
          → at_token None i o k (λ k. parse_run None ts (i + 1) k) ≡ parse_run None ts (i + 1) next
      go None e = absurd (subst IsToken (sym e) token)
      go (Some x) e = ap (λ o. parse_on None i o (λ k. parse_run None ts (i + 1) k))
          (ap (parser_step k) e ∙ may)

  -- two stacks that do the same with the next token have the same run
  pub alike : (limit : Option ℕ) (a b : List Want)
      → parser_step a (kind_at ts i) ≡ parser_step b (kind_at ts i)
      → parse_run limit ts i a ≡ parse_run limit ts i b
  alike limit a b same = run_at limit ts i a ∙ go (slice_get ts i) same ∙ sym (run_at limit ts i b)
    where
      go : (o : Option Placed) → parser_step a (placed_kind o) ≡ parser_step b (placed_kind o)
          → at_token limit i o a (λ k. parse_run limit ts (i + 1) k) ≡ at_token limit i o b
          (λ k. parse_run limit ts (i + 1) k)
      go None h = ap (ends i) h
      go (Some t) h = ap (λ o. parse_on limit i o (λ k. parse_run limit ts (i + 1) k)) h

-- at the end of the list
pub run_end : (limit : Option ℕ) (ts : List Placed) (i : ℕ) (k : List Want) → length ts ≤ i
    → parse_run limit ts i k ≡ ends i (parser_step k kind.End)
run_end limit ts i k past =
    run_at limit ts i k ∙ ap (λ o. at_token limit i o k (λ k. parse_run limit ts (i + 1) k))
    (slice_get_past ts i past)

pub refused : (limit : Option ℕ) (ts : List Placed) (i : ℕ) (k : List Want)
    → None ≡ parser_step k (kind_at ts i) → parse_run limit ts i k ≡ Refused i
refused limit ts i k not = stuck ts i limit k (sym not)

pub ruleset judging = (moves, sinks, refused)
