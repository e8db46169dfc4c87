-- The frames below, the innermost last.
use Rattle.std.proofs.Common.{◌≡◌, ℕ, ◌-◌, refl, sym, ◌∙◌, ap, arith}
use Rattle.std.proofs.Common.{Some, List, [], ◌∷◌, ◌++◌, length, take, length-append}
use Rattle.std.specs.Prelude.{slice_get}
use Rattle.std.proofs.lemmas.List.{take_at}
use Rattle.pm_machine.specs.declared.op.Function.{Function}
use Rattle.pm_machine.specs.declared.frame.Frame.{Frame}
use Rattle.c_fragment.specs.State.{Waiting}
use Rattle.native_law.specs.inside.Standing.{WaitsAlike}

module _ (hs : List Frame) (g : Frame) where
  before_last : length (hs ++ g ∷ []) - 1 ≡ length hs
  before_last = (let long = length-append hs (g ∷ []) in omega (arith, long))

  last_at : (gs : List Frame) → slice_get (gs ++ g ∷ []) (length gs) ≡ Some g
  last_at [] = refl
  last_at (f ∷ gs) = last_at gs

  pub last_is : slice_get (hs ++ g ∷ []) (length (hs ++ g ∷ []) - 1) ≡ Some g
  last_is = ap (slice_get (hs ++ g ∷ [])) before_last ∙ last_at hs

  pub rest_is : take (length (hs ++ g ∷ []) - 1) (hs ++ g ∷ []) ≡ hs
  rest_is = ap (λ (n : ℕ). take n (hs ++ g ∷ [])) before_last
      ∙ take_at hs (g ∷ []) (length hs) refl

pub waits_length : (us : List Function) (f to : ℕ) (ws : List Waiting) (gs : List Frame)
    → WaitsAlike us f to ws gs → length ws ≡ length gs
waits_length us f to [] gs w = sym (ap length w)
waits_length us f to (v ∷ ws) gs w =
    let rest = waits_length us w.0.last.function w.0.last.to ws w.0.below w.1 in
    let long = length-append w.0.below (w.0.last ∷ []) in
    let all : length gs ≡ length (w.0.below ++ w.0.last ∷ []) = ap length w.0.split in
    omega (arith, rest, long, all)
