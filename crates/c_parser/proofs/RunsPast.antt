-- The run past a part of a list: where the part's tokens lead, and what is open after each of them.
use Rattle.std.proofs.Common.{ℕ, zero, suc, ◌+◌, ◌≡◌, List, [], ◌∷◌, ◌++◌, Option, Some, None, drop}
use Rattle.std.proofs.Common.{slice_get, refl, sym, ap, ◌∙◌, add-one, subst, arith}
use Rattle.c_lexer.specs.declared.token.Placed.{Placed}
use Rattle.c_tree.specs.declared.kind.Kind.{Kind}
use Rattle.c_parser.specs.declared.want.Want.{Want}
use Rattle.c_tree.specs.Kinds.{placed_kind, kind_at, token_kind}
use Rattle.c_parser.specs.Open.{OpenParts, open_weight, in_bracket, in_body, so_far}
use Rattle.c_parser.specs.inside.Run.{parse_run}
use Rattle.c_parser.specs.inside.Stacks.{weight, weigh, weights_from}
use Rattle.c_parser.specs.inside.Wants.{parser_step}
use Rattle.c_parser.proofs.Steps.{IsToken, goes_on, alike}

-- the weights of a part's tokens, where this much is open around the part
abbrev pub above : ℕ → List OpenParts → List ℕ
above around [] = []
above around (o ∷ os) = (open_weight o + around) ∷ above around os

-- the weights from a place on
unfoldable pub weights_at : List Placed → ℕ → List Want → List ℕ
weights_at ts i s = weights_from (drop i ts) s

pub record RunsPast (ts : List Placed) (i : ℕ) (s : List Want) (j : ℕ) (k : List Want) (around : ℕ)
    (os : List OpenParts) : Type 0 where
  pub run : parse_run None ts i s ≡ parse_run None ts j k
  pub weighs : weights_at ts i s ≡ above around os ++ weights_at ts j k

-- one token
abbrev weigh_token : Option Placed → List Want → (List Want → List ℕ) → List ℕ
weigh_token None s others = []
weigh_token (Some t) s others = weigh (parser_step s (token_kind t.token)) others

from_drop : (ts : List Placed) (i : ℕ) (s : List Want) → weights_from (drop i ts) s
    ≡ weigh_token (slice_get ts i) s (λ k. weights_from (drop (suc i) ts) k)
from_drop [] zero s = refl
from_drop [] (suc i) s = refl
from_drop (x ∷ xs) zero s = refl
from_drop (x ∷ xs) (suc i) s = from_drop xs i s

weights_step : (ts : List Placed) (i : ℕ) (s : List Want)
    → weights_at ts i s ≡ weigh_token (slice_get ts i) s (λ k. weights_at ts (i + 1) k)
unfolding weights_at
weights_step ts i s = subst (λ j. weights_from (drop i ts) s
    ≡ weigh_token (slice_get ts i) s (λ k. weights_from (drop j ts) k)) (sym (add-one i))
    (from_drop ts i s)

module _ (ts : List Placed) (i : ℕ) where
  -- a token that may come
  pub goes : (around : ℕ) (o : OpenParts) (s next : List Want) (t : Kind) → kind_at ts i ≡ t
      → IsToken t → parser_step s t ≡ Some next → open_weight o + around ≡ weight next
      → RunsPast ts i s (i + 1) next around (o ∷ [])
  goes around o s next t is token may adds = record {
    run = goes_on ts i s next t is token may;
    weighs =
        weights_step ts i s ∙ go (slice_get ts i) is
        ∙ ap (λ w. w ∷ weights_at ts (i + 1) next) (sym adds);
  }
    where
      go : (p : Option Placed) → placed_kind p ≡ t
          → weigh_token p s (λ k. weights_at ts (i + 1) k)
          ≡ weight next ∷ weights_at ts (i + 1) next
      go None e = absurd (subst IsToken (sym e) token)
      go (Some x) e = ap (λ p. weigh p (λ k. weights_at ts (i + 1) k)) (ap (parser_step s) e ∙ may)

  -- two stacks that do the same with the next token
  same_weights : (a b : List Want) → parser_step a (kind_at ts i) ≡ parser_step b (kind_at ts i)
      → weights_at ts i a ≡ weights_at ts i b
  same_weights a b same = weights_step ts i a ∙ go (slice_get ts i) same ∙ sym (weights_step ts i b)
    where
      go : (p : Option Placed) → parser_step a (placed_kind p) ≡ parser_step b (placed_kind p)
          → weigh_token p a (λ k. weights_at ts (i + 1) k)
          ≡ weigh_token p b (λ k. weights_at ts (i + 1) k)
      go None e = refl
      go (Some x) e = ap (λ p. weigh p (λ k. weights_at ts (i + 1) k)) e

  pub begins_alike : {around j : ℕ} {k : List Want} {os : List OpenParts} (a b : List Want)
      → parser_step a (kind_at ts i) ≡ parser_step b (kind_at ts i)
      → RunsPast ts i b j k around os → RunsPast ts i a j k around os
  begins_alike a b same rest = record {
    run = alike ts i None a b same ∙ rest.run;
    weighs = same_weights a b same ∙ rest.weighs;
  }

  pub ends_alike : {around j : ℕ} {s : List Want} {os : List OpenParts} (a b : List Want)
      → parser_step a (kind_at ts i) ≡ parser_step b (kind_at ts i)
      → RunsPast ts j s i a around os → RunsPast ts j s i b around os
  ends_alike {around} {os = os} a b same before = record {
    run = before.run ∙ alike ts i None a b same;
    weighs = before.weighs ∙ ap (λ ws. above around os ++ ws) (same_weights a b same);
  }

-- no token
pub stays : {ts : List Placed} {i around : ℕ} (s : List Want) → RunsPast ts i s i s around []
stays s = record { run = refl; weighs = refl }

above_append : (around : ℕ) (os ps : List OpenParts) (ws : List ℕ)
    → above around os ++ (above around ps ++ ws) ≡ above around (os ++ ps) ++ ws
above_append around [] ps ws = refl
above_append around (o ∷ os) ps ws =
    ap (λ l. (open_weight o + around) ∷ l) (above_append around os ps ws)

-- one part after the other
infixr 30 ◌▸◌
pub ◌▸◌ : {ts : List Placed} {i j m around : ℕ} {s k l : List Want} {os ps : List OpenParts}
    → RunsPast ts i s j k around os → RunsPast ts j k m l around ps
    → RunsPast ts i s m l around (os ++ ps)
◌▸◌ {ts} {m = m} {around = around} {l = l} {os = os} {ps = ps} one other = record {
  run = one.run ∙ other.run;
  weighs =
      one.weighs ∙ ap (λ ws. above around os ++ ws) other.weighs
      ∙ above_append around os ps (weights_at ts m l);
}

-- a part with more open around it
same_above : (around more : ℕ) (f : OpenParts → OpenParts)
    → ((o : OpenParts) → open_weight (f o) + around ≡ open_weight o + more) → (os : List OpenParts)
    → (gs : List OpenParts → List OpenParts) → (gs [] ≡ [])
    → ((o : OpenParts) (os : List OpenParts) → gs (o ∷ os) ≡ f o ∷ gs os)
    → above more os ≡ above around (gs os)
same_above around more f adds [] gs none some = sym (ap (above around) none)
same_above around more f adds (o ∷ os) gs none some =
    ap (λ w. w ∷ above more os) (sym (adds o))
    ∙ ap (λ l. (open_weight (f o) + around) ∷ l) (same_above around more f adds os gs none some)
    ∙ sym (ap (above around) (some o os))

around_it : {ts : List Placed} {i j around more : ℕ} {s k : List Want} {os ps : List OpenParts}
    → above more os ≡ above around ps → RunsPast ts i s j k more os → RunsPast ts i s j k around ps
around_it {ts} {j = j} {k = k} same part = record {
  run = part.run;
  weighs = part.weighs ∙ ap (λ ws. ws ++ weights_at ts j k) same;
}

pub inside_bracket : {ts : List Placed} {i j around more : ℕ} {s k : List Want}
    {os : List OpenParts} → more ≡ around + 1 → RunsPast ts i s j k more os
    → RunsPast ts i s j k around (in_bracket os)
inside_bracket {around = around} {more = more} {os = os} is part =
    around_it (same_above around more _ (λ o. omega (arith, is)) os in_bracket refl (λ o os. refl))
    part

pub inside_body : {ts : List Placed} {i j around more : ℕ} {s k : List Want}
    {os : List OpenParts} → more ≡ around + 1 → RunsPast ts i s j k more os
    → RunsPast ts i s j k around (in_body os)
inside_body {around = around} {more = more} {os = os} is part =
    around_it (same_above around more _ (λ o. omega (arith, is)) os in_body refl (λ o os. refl))
    part

pub after_operators : {ts : List Placed} {i j around more : ℕ} {s k : List Want}
    {os : List OpenParts} (n : ℕ) → more ≡ around + n → RunsPast ts i s j k more os
    → RunsPast ts i s j k around (so_far n os)
after_operators {around = around} {more = more} {os = os} n is part =
    around_it (same_above around more _ (λ o. omega (arith, is)) os (so_far n) refl
    (λ o os. refl)) part

-- the same, if what is open around the part has another name
pub around_same : {ts : List Placed} {i j around more : ℕ} {s k : List Want} {os : List OpenParts}
    → more ≡ around → RunsPast ts i s j k more os → RunsPast ts i s j k around os
around_same {os = os} is part = around_it (ap (λ n. above n os) is) part
