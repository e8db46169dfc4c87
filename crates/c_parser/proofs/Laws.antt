-- The laws that the parser's contract cites.
use Rattle.std.proofs.Common.{ℕ, zero, suc, ◌+◌, ◌≡◌, ◌<◌, List, [], ◌∷◌, length, Option, Some}
use Rattle.std.proofs.Common.{None, slice_get, refl, sym, ap, ◌∙◌, subst, arith}
use Rattle.std.proofs.lemmas.Option.{none-some, same_Some}
use Rattle.c_lexer.specs.declared.token.Placed.{Placed}
use Rattle.c_parser.specs.declared.fault.ParseFault.{ParseFault}
use Rattle.c_parser.specs.declared.fault.ParseFault.TheVariants as fault
use Rattle.c_parser.specs.declared.want.Want.{Want}
use Rattle.c_parser.specs.declared.want.Want.TheVariants.{Items}
use Rattle.c_tree.specs.Kinds.{token_kind}
use Rattle.c_tree.specs.ItemTree.{ItemTree}
use Rattle.c_tree.specs.ItemSpelling.{SpellsProgram}
use Rattle.c_parser.specs.inside.Wants.{parser_step}
use Rattle.c_parser.specs.inside.Run.{Verdict, Accepted, Refused, parse_on, run_from, parse_run}
use Rattle.c_parser.specs.inside.Run.{ParseRefuses}
use Rattle.c_parser.specs.Exact.{LightBefore, NoneBegins, Agree}
use Rattle.c_parser.specs.inside.Stacks.{weigh, weights_from, weights}
use Rattle.c_parser.specs.Weight.{spelled_weights}
use Rattle.c_parser.specs.WeightLaw.{OneWeightEach, EqualWeights}
use Rattle.c_parser.proofs.ForwardItem.{program_runs}
use Rattle.c_parser.proofs.Weighs.{drop_none, weights_spelled, light_spelled, light_counted}
use Rattle.c_parser.proofs.Prefix.{refused_alike, refused_unlimited, accepted_light, light_accepted}

pub run_whole : (limit : Option ℕ) (ts : List Placed) (k : List Want)
    → parse_run limit ts 0 k ≡ run_from limit ts 0 k
unfolding parse_run
run_whole limit ts k = ap (λ ts. run_from limit ts 0 k) (drop_none ts)

pub weights_inside : (ts : List Placed) (k : List Want) (i w : ℕ)
    → slice_get (weights_from ts k) i ≡ Some w → i < length ts
weights_inside [] k i w h = cc
weights_inside (x ∷ xs) k i w h =
    go (parser_step k (token_kind x.token)) i h (λ s i h. weights_inside xs s i w h)
  where
    go : (o : Option (List Want)) (i : ℕ) → slice_get (weigh o (λ s. weights_from xs s)) i ≡ Some w
        → ((s : List Want) (i : ℕ) → slice_get (weights_from xs s) i ≡ Some w → i < length xs)
        → i < suc (length xs)
    go None i h more = cc
    go (Some s) zero h more = omega arith
    go (Some s) (suc i) h more = omega (arith, more s i h)

counted_where_accepted : (ts : List Placed) → parse_run (Some 64) ts 0 (Items ∷ []) ≡ Accepted
    → LightBefore (weights ts) (length ts)
unfolding weights
counted_where_accepted ts h = λ i w inside is.
    accepted_light ts 0 (Items ∷ []) (sym (run_whole (Some 64) ts (Items ∷ [])) ∙ h) i w is

pub light_where_accepted : (ts : List Placed) → parse_run (Some 64) ts 0 (Items ∷ []) ≡ Accepted
    → (xs : List ItemTree) (spelled : SpellsProgram ts xs)
    → LightBefore (spelled_weights spelled) (length ts)
light_where_accepted ts h xs spelled =
    light_spelled spelled (length ts) (counted_where_accepted ts h)

pub none_begins : (ts : List Placed) (t : ℕ) → parse_run (Some 64) ts 0 (Items ∷ []) ≡ Refused t
    → NoneBegins ts (t + 1)
none_begins ts t h us xs same spelled =
    let r = refused_unlimited ts 0 t (Items ∷ []) (sym (run_whole (Some 64) ts (Items ∷ [])) ∙ h) in
    let a = refused_alike ts us 0 t (Items ∷ []) r (λ i inside. same i (omega arith)) in
    let b = run_whole None us (Items ∷ []) in
    let d = program_runs us xs spelled in cc

accepted_where_counted : (ts : List Placed) (xs : List ItemTree) → SpellsProgram ts xs
    → LightBefore (weights ts) (length ts) → parse_run (Some 64) ts 0 (Items ∷ []) ≡ Accepted
unfolding weights
accepted_where_counted ts xs spelled light =
    run_whole (Some 64) ts (Items ∷ [])
    ∙ light_accepted ts 0 (Items ∷ []) (sym (run_whole None ts (Items ∷ []))
    ∙ program_runs ts xs spelled)
    (λ i w is. light i w (weights_inside ts (Items ∷ []) i w is) is)

pub accepted_where_light : (ts : List Placed) (xs : List ItemTree) (spelled : SpellsProgram ts xs)
    → LightBefore (spelled_weights spelled) (length ts)
    → parse_run (Some 64) ts 0 (Items ∷ []) ≡ Accepted
accepted_where_light ts xs spelled light =
    accepted_where_counted ts xs spelled (light_counted spelled (length ts) light)

pub only_memory : (f : ParseFault) (v : Verdict) → v ≡ Accepted → ParseRefuses f v
    → f ≡ fault.NoMemory
only_memory (fault.Syntax t) v e h = cc
only_memory (fault.TooDeep t) v e h = cc
only_memory fault.NoMemory v e h = refl

-- no program continues with a refused token
pub none_at : (ts : List Placed) (f : ParseFault)
    → ParseRefuses f (parse_run (Some 64) ts 0 (Items ∷ [])) → (t : ℕ) → f ≡ fault.Syntax t
    → NoneBegins ts (t + 1)
none_at ts f h t e = none_begins ts t
    (subst (λ f. ParseRefuses f (parse_run (Some 64) ts 0 (Items ∷ []))) e h)

-- the stack's count has one entry for each token that is accepted
weights_each : (ts : List Placed) (p : ℕ) (k : List Want) → run_from None ts p k ≡ Accepted
    → length (weights_from ts k) ≡ length ts
weights_each [] p k h = refl
weights_each (x ∷ xs) p k h =
    go (parser_step k (token_kind x.token)) h (λ s h. weights_each xs (p + 1) s h)
  where
    go : (o : Option (List Want)) → parse_on None p o (λ s. run_from None xs (p + 1) s) ≡ Accepted
        → ((s : List Want) → run_from None xs (p + 1) s ≡ Accepted
        → length (weights_from xs s) ≡ length xs)
        → length (weigh o (λ s. weights_from xs s)) ≡ suc (length xs)
    go None h more = cc
    go (Some s) h more = ap suc (more s h)

pub one_weight_each : OneWeightEach
unfolding weights
one_weight_each ts xs spelled =
    ap (λ ws. length ws) (sym (weights_spelled spelled))
    ∙ weights_each ts 0 (Items ∷ []) (sym (run_whole None ts (Items ∷ []))
    ∙ program_runs ts xs spelled)

-- what the stack counts before a place depends only on the tokens before it
equal_before : (o : Option (List Want)) (ts us : List Placed) (n : ℕ)
    → ((k : List Want) (i : ℕ) → i < n
    → slice_get (weights_from us k) i ≡ slice_get (weights_from ts k) i)
    → (i : ℕ) → i < suc n
    → slice_get (weigh o (λ k. weights_from us k)) i
    ≡ slice_get (weigh o (λ k. weights_from ts k)) i
equal_before None ts us n rest i less = refl
equal_before (Some k) ts us n rest zero less = refl
equal_before (Some k) ts us n rest (suc i) less = rest k i (omega (arith, less))

equal_from : (ts us : List Placed) (place : ℕ) → Agree ts us place → (k : List Want) (i : ℕ)
    → i < place → slice_get (weights_from us k) i ≡ slice_get (weights_from ts k) i
equal_from ts us zero agree k i less = absurd (omega (arith, less))
equal_from [] [] (suc n) agree k i less = refl
equal_from [] (u ∷ us) (suc n) agree k i less = absurd (none-some u (sym (agree 0 (omega arith))))
equal_from (t ∷ ts) [] (suc n) agree k i less = absurd (none-some t (agree 0 (omega arith)))
equal_from (t ∷ ts) (u ∷ us) (suc n) agree k i less =
    let same : u ≡ t = same_Some u t (agree 0 (omega arith)) in
    ap (λ (x : Placed). slice_get (weigh (parser_step k (token_kind x.token))
    (λ k. weights_from us k)) i) same
    ∙ equal_before (parser_step k (token_kind t.token)) ts us n
    (equal_from ts us n (λ j less. agree (suc j) (omega (arith, less)))) i less

pub equal_weights : EqualWeights
unfolding weights
equal_weights ts us xs ys place agree spelled other i less =
    ap (λ ws. slice_get ws i) (sym (weights_spelled other))
    ∙ equal_from ts us place agree (Items ∷ []) i less
    ∙ ap (λ ws. slice_get ws i) (weights_spelled spelled)
