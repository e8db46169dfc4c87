-- What the stack counts at each token of a program is what is open there.
use Rattle.std.proofs.Common.{ℕ, ◌+◌, ◌≡◌, List, [], ◌∷◌, ◌++◌, length, drop, Some, map, slice_get}
use Rattle.std.proofs.Common.{refl, sym, ap, ◌∙◌, subst, arith}
use Rattle.c_lexer.specs.declared.token.Placed.{Placed}
use Rattle.c_parser.specs.declared.want.Want.{Want}
use Rattle.c_parser.specs.declared.want.Want.TheVariants.{Items}
use Rattle.c_tree.specs.ItemTree.{ItemTree}
use Rattle.c_tree.specs.ItemSpelling.{SpellsProgram}
use Rattle.c_parser.specs.Open.{OpenParts, open_weight}
use Rattle.c_parser.specs.Weight.{items_open, spelled_weights}
use Rattle.c_parser.specs.Exact.{LightBefore, SomeSinks}
use Rattle.c_parser.specs.inside.Stacks.{weights_from, weights}
use Rattle.c_parser.proofs.RunsPast.{above, weights_at}
use Rattle.c_parser.proofs.ForwardItem.{program_past}

pub drop_none : (ts : List Placed) → drop 0 ts ≡ ts
drop_none [] = refl
drop_none (x ∷ xs) = refl

drop_all : (ts : List Placed) → drop (length ts) ts ≡ []
drop_all [] = refl
drop_all (x ∷ xs) = drop_all xs

at_start : (ts : List Placed) (s : List Want) → weights_at ts 0 s ≡ weights_from ts s
unfolding weights_at
at_start ts s = ap (λ ts. weights_from ts s) (drop_none ts)

at_end : (ts : List Placed) (s : List Want) → weights_at ts (length ts) s ≡ []
unfolding weights_at
at_end ts s = ap (λ ts. weights_from ts s) (drop_all ts)

-- around a whole program nothing is open
above_none : (os : List OpenParts) → above 0 os ++ [] ≡ map open_weight os
above_none [] = refl
above_none (o ∷ os) =
    let same : open_weight o + 0 ≡ open_weight o = omega arith in
    ap (λ w. w ∷ (above 0 os ++ [])) same ∙ ap (λ ws. open_weight o ∷ ws) (above_none os)

pub weights_spelled : {ts : List Placed} {xs : List ItemTree} (d : SpellsProgram ts xs)
    → weights ts ≡ spelled_weights d
unfolding weights
weights_spelled {ts} {xs} d =
    sym (at_start ts (Items ∷ [])) ∙ (program_past ts xs d).weighs
    ∙ ap (λ ws. above 0 (items_open d) ++ ws) (at_end ts (Items ∷ []))
    ∙ above_none (items_open d)

-- what no token is too heavy for, by one count and by the other
pub light_spelled : {ts : List Placed} {xs : List ItemTree} (d : SpellsProgram ts xs) (n : ℕ)
    → LightBefore (weights ts) n → LightBefore (spelled_weights d) n
light_spelled d n light = subst (λ ws. LightBefore ws n) (weights_spelled d) light

pub light_counted : {ts : List Placed} {xs : List ItemTree} (d : SpellsProgram ts xs) (n : ℕ)
    → LightBefore (spelled_weights d) n → LightBefore (weights ts) n
light_counted d n light = subst (λ ws. LightBefore ws n) (sym (weights_spelled d)) light

-- the token that is too heavy, by the stack's count
pub heavy_counted : (ts : List Placed) (t : ℕ) (some : SomeSinks ts t)
    → slice_get (weights some.0) t ≡ Some some.5
heavy_counted ts t some = ap (λ ws. slice_get ws t) (weights_spelled some.3) ∙ some.6
