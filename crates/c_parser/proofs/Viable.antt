-- The tokens before a refused one, and the tokens up to one that is too heavy, begin a program.
use Rattle.std.proofs.Common.{ℕ, zero, suc, ◌+◌, ◌≡◌, ◌≤◌, ◌<◌, List, [], ◌∷◌, Option, Some, None}
use Rattle.std.proofs.Common.{Bool, true, false, nat_lt, slice_get, refl, sym, ◌∙◌, subst, arith}
use Rattle.std.proofs.Common.{ap}
use Rattle.std.proofs.lemmas.Bool.{ltb-true, ltb-false}
use Rattle.c_lexer.specs.declared.token.Placed.{Placed}
use Rattle.c_parser.specs.declared.fault.ParseFault.{ParseFault}
use Rattle.c_parser.specs.declared.fault.ParseFault.TheVariants as fault
use Rattle.c_tree.specs.declared.kind.Kind.TheVariants as kind
use Rattle.c_parser.specs.declared.want.Want.{Want}
use Rattle.c_parser.specs.declared.want.Want.TheVariants.{Items}
use Rattle.c_tree.specs.Kinds.{token_kind}
use Rattle.c_parser.specs.inside.Wants.{parser_step}
use Rattle.c_parser.specs.inside.Stacks.{weight, weigh, weights_from, weights}
use Rattle.c_parser.specs.inside.Run.{Refused, Deep, weighed, ends, parse_on, run_from, parse_run}
use Rattle.c_parser.specs.inside.Run.{ParseRefuses}
use Rattle.c_parser.specs.Exact.{SomeBegins, SomeSinks}
use Rattle.c_parser.proofs.Back.{spelled}
use Rattle.c_parser.proofs.Finish.{IfPasses, Passes, completion, completion_runs, completion_agrees}
use Rattle.c_parser.proofs.Finish.{completion_weighs}
use Rattle.c_parser.proofs.Laws.{run_whole}
use Rattle.c_parser.proofs.Weighs.{weights_spelled, light_spelled}

abbrev Light : List ℕ → ℕ → Type 0
Light ws n = (i w : ℕ) → i < n → slice_get ws i ≡ Some w → w ≤ 64

light_more : (n first : ℕ) (ws : List ℕ) → first ≤ 64 → Light ws n → Light (first ∷ ws) (suc n)
light_more n first ws low light zero w inside is = let e : first ≡ w = cc in
    subst (λ w. w ≤ 64) e low
light_more n first ws low light (suc i) w inside is = light i w (omega arith) is

refused_passes : (ts : List Placed) (n p t : ℕ) (k : List Want)
    → run_from (Some 64) ts p k ≡ Refused t → p + n ≡ t
    → Passes ts n k × Light (weights_from ts k) n
refused_passes [] zero p t k h e = (tt, λ i w inside is. absurd (omega arith))
refused_passes (x ∷ xs) zero p t k h e = (tt, λ i w inside is. absurd (omega arith))
refused_passes [] (suc n) p t k h e = absurd (go (parser_step k kind.End) h)
  where
    go : (o : Option (List Want)) → ends p o ≡ Refused t → ⊥
    go None h = let f : p ≡ t = cc in omega arith
    go (Some s) h = cc
refused_passes (x ∷ xs) (suc n) p t k h e =
    go (parser_step k (token_kind x.token)) h
    (λ s h. refused_passes xs n (p + 1) t s h (omega arith))
  where
    go : (o : Option (List Want)) → parse_on (Some 64) p o (λ s. run_from (Some 64) xs (p + 1) s)
        ≡ Refused t
        → ((s : List Want) → run_from (Some 64) xs (p + 1) s ≡ Refused t
        → Passes xs n s × Light (weights_from xs s) n)
        → IfPasses o (λ s. Passes xs n s) × Light (weigh o (λ s. weights_from xs s)) (suc n)
    go None h more = absurd (let f : p ≡ t = cc in omega arith)
    go (Some s) h more = at (nat_lt 64 (weight s)) refl h
      where
        at : (b : Bool) → nat_lt 64 (weight s) ≡ b → weighed b p (run_from (Some 64) xs (p + 1) s)
            ≡ Refused t
            → Passes xs n s × Light (weight s ∷ weights_from xs s) (suc n)
        at true f h = absurd (cc)
        at false f h = let r = more s h in
            (r.0, light_more n (weight s) (weights_from xs s) (ltb-false 64 (weight s) f) r.1)

deep_after : (ts : List Placed) (p t : ℕ) (k : List Want) → run_from (Some 64) ts p k ≡ Deep t
    → p ≤ t
deep_after [] p t k h = go (parser_step k kind.End) h
  where
    go : (o : Option (List Want)) → ends p o ≡ Deep t → p ≤ t
    go None h = cc
    go (Some s) h = cc
deep_after (x ∷ xs) p t k h = go (parser_step k (token_kind x.token)) h
    (λ s h. deep_after xs (p + 1) t s h)
  where
    go : (o : Option (List Want)) → parse_on (Some 64) p o (λ s. run_from (Some 64) xs (p + 1) s)
        ≡ Deep t
        → ((s : List Want) → run_from (Some 64) xs (p + 1) s ≡ Deep t → p + 1 ≤ t) → p ≤ t
    go None h more = cc
    go (Some s) h more = at (nat_lt 64 (weight s)) h
      where
        at : (b : Bool) → weighed b p (run_from (Some 64) xs (p + 1) s) ≡ Deep t → p ≤ t
        at true h = let f : p ≡ t = cc in omega arith
        at false h = omega (arith, more s h)

abbrev Heavy : List ℕ → ℕ → Type 0
Heavy ws n = (w : ℕ) × (slice_get ws n ≡ Some w) × (64 < w)

deep_passes : (ts : List Placed) (n p t : ℕ) (k : List Want) → run_from (Some 64) ts p k ≡ Deep t
    → p + n ≡ t
    → Passes ts (suc n) k × Light (weights_from ts k) n × Heavy (weights_from ts k) n
deep_passes [] n p t k h e = absurd (go (parser_step k kind.End) h)
  where
    go : (o : Option (List Want)) → ends p o ≡ Deep t → ⊥
    go None h = cc
    go (Some s) h = cc
deep_passes (x ∷ xs) zero p t k h e = go (parser_step k (token_kind x.token)) h
  where
    go : (o : Option (List Want)) → parse_on (Some 64) p o (λ s. run_from (Some 64) xs (p + 1) s)
        ≡ Deep t
        → IfPasses o (λ s. Passes xs zero s) × Light (weigh o (λ s. weights_from xs s)) zero
        × Heavy (weigh o (λ s. weights_from xs s)) zero
    go None h = absurd (cc)
    go (Some s) h = at (nat_lt 64 (weight s)) refl h
      where
        at : (b : Bool) → nat_lt 64 (weight s) ≡ b
            → weighed b p (run_from (Some 64) xs (p + 1) s) ≡ Deep t
            → Unit {0} × Light (weight s ∷ weights_from xs s) zero
            × Heavy (weight s ∷ weights_from xs s) zero
        at true f h = (
          tt,
          λ i w inside is. absurd (omega arith),
          (weight s, refl, ltb-true 64 (weight s) f),
        )
        at false f h = absurd (omega (arith, deep_after xs (p + 1) t s h))
deep_passes (x ∷ xs) (suc n) p t k h e =
    go (parser_step k (token_kind x.token)) h (λ s h. deep_passes xs n (p + 1) t s h (omega arith))
  where
    go : (o : Option (List Want)) → parse_on (Some 64) p o (λ s. run_from (Some 64) xs (p + 1) s)
        ≡ Deep t
        → ((s : List Want) → run_from (Some 64) xs (p + 1) s ≡ Deep t → Passes xs (suc n) s
        × Light (weights_from xs s) n × Heavy (weights_from xs s) n)
        → IfPasses o (λ s. Passes xs (suc n) s) × Light (weigh o (λ s. weights_from xs s)) (suc n)
        × Heavy (weigh o (λ s. weights_from xs s)) (suc n)
    go None h more = absurd (cc)
    go (Some s) h more = at (nat_lt 64 (weight s)) refl h
      where
        at : (b : Bool) → nat_lt 64 (weight s) ≡ b
            → weighed b p (run_from (Some 64) xs (p + 1) s) ≡ Deep t
            → Passes xs (suc n) s × Light (weight s ∷ weights_from xs s) (suc n)
            × Heavy (weight s ∷ weights_from xs s) (suc n)
        at true f h = absurd (let g : p ≡ t = cc in omega arith)
        at false f h = let r = more s h in
            (r.0, light_more n (weight s) (weights_from xs s) (ltb-false 64 (weight s) f) r.1, r.2)

pub some_begins : (ts : List Placed) (t : ℕ) → parse_run (Some 64) ts 0 (Items ∷ []) ≡ Refused t
    → SomeBegins ts t
unfolding weights
some_begins ts t h =
    let k = Items ∷ [] in
    let r = refused_passes ts t 0 t k (sym (run_whole (Some 64) ts k) ∙ h) (omega arith) in
    let us = completion ts t k in
    let p = spelled us (run_whole None us k ∙ completion_runs ts t 0 k r.0 (refl, tt)) in (
      us,
      p.0,
      completion_agrees ts t k r.0,
      p.1,
      light_spelled p.1 t (λ i w inside is.
          r.1 i w inside (sym (completion_weighs ts t k r.0 i inside) ∙ is)),
    )

pub some_sinks : (ts : List Placed) (t : ℕ) → parse_run (Some 64) ts 0 (Items ∷ []) ≡ Deep t
    → SomeSinks ts t
unfolding weights
some_sinks ts t h =
    let k = Items ∷ [] in
    let r = deep_passes ts t 0 t k (sym (run_whole (Some 64) ts k) ∙ h) (omega arith) in
    let us = completion ts (suc t) k in
    let p = spelled us (run_whole None us k ∙ completion_runs ts (suc t) 0 k r.0 (refl, tt)) in (
      us,
      p.0,
      λ i inside. completion_agrees ts (suc t) k r.0 i (omega arith),
      p.1,
      light_spelled p.1 t (λ i w inside is. r.1 i w inside
          (sym (completion_weighs ts (suc t) k r.0 i (omega arith)) ∙ is)),
      r.2.0,
      ap (λ ws. slice_get ws t) (sym (weights_spelled p.1))
          ∙ completion_weighs ts (suc t) k r.0 t (omega arith) ∙ r.2.1,
      r.2.2,
    )

pub some_at : (ts : List Placed) (f : ParseFault)
    → ParseRefuses f (parse_run (Some 64) ts 0 (Items ∷ [])) → (t : ℕ) → f ≡ fault.Syntax t
    → SomeBegins ts t
some_at ts f h t e = some_begins ts t
    (subst (λ f. ParseRefuses f (parse_run (Some 64) ts 0 (Items ∷ []))) e h)

pub sinks_at : (ts : List Placed) (f : ParseFault)
    → ParseRefuses f (parse_run (Some 64) ts 0 (Items ∷ [])) → (t : ℕ) → f ≡ fault.TooDeep t
    → SomeSinks ts t
sinks_at ts f h t e = some_sinks ts t
    (subst (λ f. ParseRefuses f (parse_run (Some 64) ts 0 (Items ∷ []))) e h)
