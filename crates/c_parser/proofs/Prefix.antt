-- The run on a list of tokens and on its prefixes, for any grammar.
use Rattle.std.proofs.Common.{ℕ, zero, suc, ◌+◌, ◌≡◌, ◌≤◌, List, [], ◌∷◌, Option, Some, None, Bool}
use Rattle.std.proofs.Common.{true, false, nat_lt, slice_get, refl, ap, ◌∙◌, subst, arith}
use Rattle.std.proofs.lemmas.Bool.{ltb-false, le-ltb}
use Rattle.c_lexer.specs.declared.token.Placed.{Placed}
use Rattle.c_tree.specs.declared.kind.Kind.TheVariants as kind
use Rattle.c_parser.specs.declared.want.Want.{Want}
use Rattle.c_tree.specs.Kinds.{token_kind}
use Rattle.c_parser.specs.inside.Wants.{parser_step}
use Rattle.c_parser.specs.inside.Stacks.{weight, weigh, weights_from}
use Rattle.c_parser.specs.inside.Run.{Accepted, Refused, weighed, ends, parse_on, run_from}

-- no refusal comes before the place where the run begins
pub refused_after : (ts : List Placed) (p t : ℕ) (k : List Want)
    → run_from None ts p k ≡ Refused t → p ≤ t
refused_after [] p t k h = go (parser_step k kind.End) h
  where
    go : (o : Option (List Want)) → ends p o ≡ Refused t → p ≤ t
    go None h = let e : p ≡ t = cc in omega arith
    go (Some s) h = cc
refused_after (x ∷ xs) p t k h =
    go (parser_step k (token_kind x.token)) h (λ s h. refused_after xs (p + 1) t s h)
  where
    go : (o : Option (List Want)) → parse_on None p o (λ s. run_from None xs (p + 1) s) ≡ Refused t
        → ((s : List Want) → run_from None xs (p + 1) s ≡ Refused t → p + 1 ≤ t) → p ≤ t
    go None h more = let e : p ≡ t = cc in omega arith
    go (Some s) h more = omega (arith, more s h)

-- a refusal depends only on the tokens up to the refused one
pub refused_alike : (ts us : List Placed) (p t : ℕ) (k : List Want)
    → run_from None ts p k ≡ Refused t
    → ((i : ℕ) → p + i ≤ t → slice_get us i ≡ slice_get ts i) → run_from None us p k ≡ Refused t
refused_alike [] [] p t k h same = h
refused_alike [] (y ∷ ys) p t k h same = cc (same 0 (omega (arith, refused_after [] p t k h)))
refused_alike (x ∷ xs) [] p t k h same = cc (same 0 (omega (arith, refused_after (x ∷ xs) p t k h)))
refused_alike (x ∷ xs) (y ∷ ys) p t k h same =
    let first = same 0 (omega (arith, refused_after (x ∷ xs) p t k h)) in
    let e : x ≡ y = cc in
    go (parser_step k (token_kind x.token)) (parser_step k (token_kind y.token))
    (ap (λ x. parser_step k (token_kind x.token)) e) h
    (λ s h. refused_alike xs ys (p + 1) t s h (λ i inside. same (suc i) (omega arith)))
  where
    go : (a b : Option (List Want)) → a ≡ b → parse_on None p a (λ s. run_from None xs (p + 1) s)
        ≡ Refused t
        → ((s : List Want) → run_from None xs (p + 1) s ≡ Refused t
        → run_from None ys (p + 1) s ≡ Refused t)
        → parse_on None p b (λ s. run_from None ys (p + 1) s) ≡ Refused t
    go None None e h more = h
    go None (Some s) e h more = cc
    go (Some s) None e h more = cc
    go (Some s) (Some r) e h more = let f : s ≡ r = cc in
        subst (λ r. run_from None ys (p + 1) r ≡ Refused t) f (more s h)

-- what is refused with a limit is refused without one
pub refused_unlimited : (ts : List Placed) (p t : ℕ) (k : List Want)
    → run_from (Some 64) ts p k ≡ Refused t → run_from None ts p k ≡ Refused t
refused_unlimited [] p t k h = h
refused_unlimited (x ∷ xs) p t k h =
    go (parser_step k (token_kind x.token)) h (λ s h. refused_unlimited xs (p + 1) t s h)
  where
    go : (o : Option (List Want)) → parse_on (Some 64) p o (λ s. run_from (Some 64) xs (p + 1) s)
        ≡ Refused t
        → ((s : List Want) → run_from (Some 64) xs (p + 1) s ≡ Refused t
        → run_from None xs (p + 1) s ≡ Refused t)
        → parse_on None p o (λ s. run_from None xs (p + 1) s) ≡ Refused t
    go None h more = h
    go (Some s) h more = at (nat_lt 64 (weight s)) h
      where
        at : (b : Bool) → weighed b p (run_from (Some 64) xs (p + 1) s) ≡ Refused t
            → run_from None xs (p + 1) s ≡ Refused t
        at true h = cc
        at false h = more s h

-- what is accepted nowhere weighs too much; what nowhere weighs too much and is accepted without a
-- limit is accepted with it
pub accepted_light : (ts : List Placed) (p : ℕ) (k : List Want)
    → run_from (Some 64) ts p k ≡ Accepted
    → (i w : ℕ) → slice_get (weights_from ts k) i ≡ Some w → w ≤ 64
accepted_light [] p k h i w is = cc
accepted_light (x ∷ xs) p k h i w is =
    go (parser_step k (token_kind x.token)) h i is (λ s h i is.
    accepted_light xs (p + 1) s h i w is)
  where
    go : (o : Option (List Want)) → parse_on (Some 64) p o (λ s. run_from (Some 64) xs (p + 1) s)
        ≡ Accepted
        → (i : ℕ) → slice_get (weigh o (λ s. weights_from xs s)) i ≡ Some w
        → ((s : List Want) → run_from (Some 64) xs (p + 1) s ≡ Accepted → (i : ℕ)
        → slice_get (weights_from xs s) i ≡ Some w → w ≤ 64) → w ≤ 64
    go None h i is more = cc
    go (Some s) h zero is more = at (nat_lt 64 (weight s)) refl h
      where
        at : (b : Bool) → nat_lt 64 (weight s) ≡ b → weighed b p (run_from (Some 64) xs (p + 1) s)
            ≡ Accepted → w ≤ 64
        at true e h = cc
        at false e h = let f : weight s ≡ w = cc in
            subst (λ w. w ≤ 64) f (ltb-false 64 (weight s) e)
    go (Some s) h (suc i) is more = at (nat_lt 64 (weight s)) h
      where
        at : (b : Bool) → weighed b p (run_from (Some 64) xs (p + 1) s) ≡ Accepted → w ≤ 64
        at true h = cc
        at false h = more s h i is

pub light_accepted : (ts : List Placed) (p : ℕ) (k : List Want) → run_from None ts p k ≡ Accepted
    → ((i w : ℕ) → slice_get (weights_from ts k) i ≡ Some w → w ≤ 64)
    → run_from (Some 64) ts p k ≡ Accepted
light_accepted [] p k h light = h
light_accepted (x ∷ xs) p k h light =
    go (parser_step k (token_kind x.token)) h light (λ s h light.
    light_accepted xs (p + 1) s h light)
  where
    go : (o : Option (List Want)) → parse_on None p o (λ s. run_from None xs (p + 1) s) ≡ Accepted
        → ((i w : ℕ) → slice_get (weigh o (λ s. weights_from xs s)) i ≡ Some w → w ≤ 64)
        → ((s : List Want) → run_from None xs (p + 1) s ≡ Accepted
        → ((i w : ℕ) → slice_get (weights_from xs s) i ≡ Some w → w ≤ 64)
        → run_from (Some 64) xs (p + 1) s ≡ Accepted)
        → parse_on (Some 64) p o (λ s. run_from (Some 64) xs (p + 1) s) ≡ Accepted
    go None h light more = cc
    go (Some s) h light more =
        ap (λ b. weighed b p (run_from (Some 64) xs (p + 1) s))
        (le-ltb 64 (weight s) (light zero (weight s) refl))
        ∙ more s h (λ i w is. light (suc i) w is)
