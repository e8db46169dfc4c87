-- A stack that is kept upside down in its vector.
use Rattle.std.proofs.Common.{◌≡◌, List, [], ◌∷◌, ◌++◌, reverse, ◌+◌, refl, ap, arith}
use Rattle.std.proofs.lemmas.List.{reverse-append}
use Rattle.std.proofs.lemmas.Grind.{reverse_onto}
use Rattle.std.proofs.lemmas.Bool.{le-ltb, lt-ltb}
use Rattle.c_parser.specs.declared.want.Want.{Want}
use Rattle.c_parser.specs.inside.Stacks.{own_weight, weight}

pub reverse-one_more : (xs : List Want) (w : Want) → reverse (xs ++ w ∷ []) ≡ w ∷ reverse xs
reverse-one_more xs w = reverse-append xs (w ∷ [])

pub ruleset stack = (reverse-one_more)

pub weight-append : (xs ys : List Want) → weight (xs ++ ys) ≡ weight xs + weight ys
weight-append [] ys = omega arith
weight-append (x ∷ xs) ys = let more = weight-append xs ys in omega (arith, more)

pub weight-reverse : (xs : List Want) → weight (reverse xs) ≡ weight xs
weight-reverse [] = refl
weight-reverse (x ∷ xs) =
    let more = weight-reverse xs in
    let both : weight (reverse xs ++ x ∷ []) ≡ weight (reverse xs) + (own_weight x + 0) =
    weight-append (reverse xs) (x ∷ []) in
    let turned = ap weight (reverse_onto xs x []) in
    omega (arith, more, both, turned)

pub ruleset heavy = (weight-reverse, le-ltb, lt-ltb)
