-- The token that the parser refuses is in the list, or is the list's end.
use Rattle.std.proofs.Common.{◌≡◌, ℕ, zero, suc, ◌<◌, ◌≤◌, List, [], ◌∷◌, Some, None}
use Rattle.std.proofs.Common.{length, slice_get, ⊎_elim, ◌∙◌, arith}
use Rattle.std.proofs.lemmas.Bool.{cases_order}
use Rattle.std.proofs.lemmas.Option.{slice_get_past}
use Rattle.c_lexer.specs.declared.token.Placed.{Placed}
use Rattle.c_parser.specs.declared.want.Want.TheVariants.{Items}
use Rattle.c_parser.specs.Exact.{SomeSinks}
use Rattle.c_parser.specs.inside.Stacks.{weights}
use Rattle.c_parser.proofs.Weighs.{heavy_counted}
use Rattle.c_parser.proofs.Laws.{weights_inside}

ended : {A : Type 0} (xs : List A) (i : ℕ) → slice_get xs i ≡ None → length xs ≤ i
ended [] i none = omega arith
ended (x ∷ xs) zero none = let e : ⊥ = cc in absurd e
ended (x ∷ xs) (suc i) none = let e = ended xs i none in omega (arith, e)

pub weighed_within : (us : List Placed) (t w : ℕ) → slice_get (weights us) t ≡ Some w
    → t < length us
unfolding weights
weighed_within us t w is = weights_inside us (Items ∷ []) t w is

pub deep_within : (ts : List Placed) (t : ℕ) → SomeSinks ts t → t ≤ length ts
deep_within ts t some =
    let inside : t < length some.0 = weighed_within some.0 t some.5 (heavy_counted ts t some) in
    let same : slice_get some.0 t ≡ slice_get ts t = some.2 t (omega arith) in
    ⊎_elim (λ e. omega arith)
    (⊎_elim (λ far.
    (let none : slice_get some.0 t ≡ None = same ∙ slice_get_past ts t (omega arith) in
    let short : length some.0 ≤ t = ended some.0 t none in
    absurd (omega arith))) (λ inside. omega arith))
    (cases_order (length ts) t)
