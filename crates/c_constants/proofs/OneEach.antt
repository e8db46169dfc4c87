-- The tokens that are left of a list lead to the list with one name in each declaration.
use Rattle.std.proofs.Common.{◌≡◌, ℕ, zero, suc, ◌+◌, ◌<◌, ◌≤◌, List, [], ◌∷◌, ◌++◌, length}
use Rattle.std.proofs.Common.{drop, refl, arith, sym, ap, ◌∙◌, ◌⊎◌, inl, inr}
use Rattle.std.specs.Prelude.{slice_get, Option, None, Some, Result, Ok, Err}
use Rattle.std.proofs.lemmas.List.{drop_all}
use Rattle.c_lexer.specs.TokenList.{Tokens}
use Rattle.c_lexer.specs.declared.token.Placed.{Placed}
use Rattle.c_constants.specs.declared.declaration.Stand.{Stand}
use Rattle.c_constants.specs.declared.declaration.Stand.TheVariants as stand
use Rattle.c_constants.specs.declared.fault.ConstFault.{ConstFault}
use Rattle.c_constants.specs.declared.fault.ConstFault.TheVariants.{NoMemory}
use Rattle.c_constants.specs.declared.seen.Seen.{Seen}
use Rattle.c_constants.specs.declared.seen.Seen.TheVariants as seen_as
use Rattle.c_constants.specs.Declarations as declarations
use Rattle.c_constants.specs.Declarations.{depth, one_each_from, one_name_each, seen_of}
use Rattle.c_constants.specs.Declarations.{stand_after}
use Rattle.c_constants.specs.StandIns.{put_all, put_one, then_put}
use Rattle.c_constants.specs.inside.Declarations.{left_got, left_at, stand_got, stand_past}

-- what was put so far, and where the token at a place stands
pub record LeadsOn (list out : Tokens) (t : Stand) (place : ℕ) : Type 0 where
  pub leads : put_all out (one_each_from list t place (drop place list.tokens))
      ≡ one_name_each list
  pub shallow : depth t ≤ place

pub leads_begun : (list : Tokens)
    → LeadsOn list (record { tokens = []; last = list.last; size = list.size }) stand.Elsewhere 0
leads_begun list = record { leads = refl; shallow = omega arith }

put_append : (out : Tokens) (ps qs : List Placed)
    → put_all out (ps ++ qs) ≡ then_put (put_all out ps) (λ last. put_all last qs)
put_append out [] qs = refl
put_append out (p ∷ ps) qs = by_one (put_one out p) (λ more. put_append more ps qs)
  where
    by_one : (r : Result Tokens ConstFault)
        → ((more : Tokens) → put_all more (ps ++ qs)
        ≡ then_put (put_all more ps) (λ last. put_all last qs))
        → then_put r (λ more. put_all more (ps ++ qs))
        ≡ then_put (then_put r (λ more. put_all more ps)) (λ last. put_all last qs)
    by_one (Ok more) h = h more
    by_one (Err fault) h = refl

slice_get_absent : (ts : List Placed) (k : ℕ) → k < length ts → slice_get ts k ≡ None → ⊥
slice_get_absent [] k inside e = omega (arith, inside)
slice_get_absent (t ∷ ts) zero inside e = cc
slice_get_absent (t ∷ ts) (suc k) inside e = slice_get_absent ts k (omega (arith, inside)) e

drop_at : (ts : List Placed) (k : ℕ) (p : Placed) → slice_get ts k ≡ Some p
    → drop k ts ≡ p ∷ drop (k + 1) ts
drop_at [] k p e = absurd (cc)
drop_at (q ∷ ts) zero p e = let same : q ≡ p = cc in ap (λ (t : Placed). t ∷ ts) same
drop_at (q ∷ ts) (suc k) p e =
    let n : suc k + 1 ≡ suc (k + 1) = omega arith in
    drop_at ts k p e ∙ ap (λ (m : ℕ). p ∷ drop m (q ∷ ts)) (sym n)

begun_depth : (place : ℕ) (s : Seen) → depth (declarations.begun place s) ≤ 0
begun_depth place seen_as.Ints = omega arith
begun_depth place seen_as.Struct = omega arith
begun_depth place _ = omega arith

named_depth : (word place : ℕ) (s : Seen) → depth (declarations.named word place s) ≤ 0
named_depth word place seen_as.Name = omega arith
named_depth word place _ = omega arith

more_depth : (d : ℕ) (s : Seen) → declarations.depth_after d s ≤ d + 1
more_depth d seen_as.Open = omega arith
more_depth d seen_as.Close = omega arith
more_depth d _ = omega arith

within_depth : (t : Stand) (place : ℕ) (s : Seen)
    → depth (declarations.stand_within t place s) ≤ depth t + 1
within_depth stand.Elsewhere place s = omega arith
within_depth stand.Fresh place s = omega (arith, begun_depth place s)
within_depth (stand.Struct word) place s = omega (arith, named_depth word place s)
within_depth (stand.Declaration b d) place s = more_depth d s

after_depth : (t : Stand) (place : ℕ) (s : Seen) → depth (stand_after t place s) ≤ depth t + 1
after_depth t place seen_as.Border = omega arith
after_depth t place s = within_depth t place s

after_past : (t : Stand) (place : ℕ) (o : Option Placed)
    → depth (stand_got t place o) ≤ depth t + 1
after_past t place None = omega arith
after_past t place (Some p) = after_depth t place (seen_of p.token)

-- what is put when the token at a place has left its own
abbrev rest : Tokens → Stand → ℕ → Tokens → Result Tokens ConstFault
rest list t place more = put_all more
    (one_each_from list (stand_past list t place) (place + 1) (drop (place + 1) list.tokens))

-- the tokens from a place on, taken apart at the first of them
split : (list : Tokens) (t : Stand) (place : ℕ) (o : Option Placed)
    → slice_get list.tokens place ≡ o → place < length list.tokens
    → one_each_from list t place (drop place list.tokens)
    ≡ left_got list t o
    ++ one_each_from list (stand_got t place o) (place + 1) (drop (place + 1) list.tokens)
split list t place None here inside =
    absurd (slice_get_absent list.tokens place inside here)
split list t place (Some p) here inside =
    ap (one_each_from list t place) (drop_at list.tokens place p here)

placed_on : (list out : Tokens) (t : Stand) (place : ℕ) → LeadsOn list out t place
    → place < length list.tokens
    → then_put (put_all out (left_at list t place)) (rest list t place) ≡ one_name_each list
placed_on list out t place on inside =
    sym (put_append out (left_at list t place)
    (one_each_from list (stand_past list t place) (place + 1) (drop (place + 1) list.tokens)))
    ∙ sym (ap (put_all out) (split list t place (slice_get list.tokens place) refl inside))
    ∙ on.leads

pub leads_more : (list out more : Tokens) (t : Stand) (place : ℕ) → LeadsOn list out t place
    → place < length list.tokens → put_all out (left_at list t place) ≡ Ok more
    → LeadsOn list more (stand_past list t place) (place + 1)
leads_more list out more t place on inside put = record {
  leads = sym (ap (λ r. then_put r (rest list t place)) put) ∙ placed_on list out t place on inside;
  shallow =
      let after = after_past t place (slice_get list.tokens place) in
      let before = on.shallow in
      omega (arith, after, before);
}

leads_refused : (list out : Tokens) (t : Stand) (place : ℕ) (f : ConstFault)
    → LeadsOn list out t place → place < length list.tokens
    → put_all out (left_at list t place) ≡ Err f → Err f ≡ one_name_each list
leads_refused list out t place f on inside put =
    sym (ap (λ r. then_put r (rest list t place)) put) ∙ placed_on list out t place on inside

pub refused_there : (list out : Tokens) (t : Stand) (place : ℕ) (r s : Result Tokens ConstFault)
    (f : ConstFault) → LeadsOn list out t place → place < length list.tokens → r ≡ Err f
    → s ≡ Err f → (r ≡ Err NoMemory) ⊎ (r ≡ put_all out (left_at list t place))
    → (s ≡ Err NoMemory) ⊎ (s ≡ one_name_each list)
refused_there list out t place r s f on inside is same (inl none) = inl (same ∙ sym is ∙ none)
refused_there list out t place r s f on inside is same (inr put) =
    inr (same ∙ leads_refused list out t place f on inside (sym put ∙ is))

pub leads_done : (list out : Tokens) (t : Stand) (place : ℕ) → LeadsOn list out t place
    → length list.tokens ≤ place → Ok out ≡ one_name_each list
leads_done list out t place on past =
    sym (ap (λ (ts : List Placed). put_all out (one_each_from list t place ts))
    (drop_all place list.tokens past))
    ∙ on.leads

pub ruleset leading = (leads_begun, leads_more, leads_done)
