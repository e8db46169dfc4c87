-- The frames below, the innermost last.
use Rattle.std.proofs.Common.{◌≡◌, ℕ, ◌-◌, List, [], ◌∷◌, ◌++◌, length, take, slice_get, Some, refl}
use Rattle.std.proofs.Common.{ap, ◌∙◌, arith, length-append}
use Rattle.ir.specs.declared.function.Ir.{Ir}
use Rattle.pool_layout.specs.declared.limits.Sizes.{Sizes}
use Rattle.code_meaning.specs.Code as code
use Rattle.pm_machine.specs.declared.frame.Frame.{Frame}
use Rattle.machine_law.specs.matching.Match.{Waits}

last_at : (hs : List Frame) (g : Frame) → slice_get (hs ++ g ∷ []) (length hs) ≡ Some g
last_at [] g = refl
last_at (h ∷ hs) g = last_at hs g

take_all : (hs : List Frame) (g : Frame) → take (length hs) (hs ++ g ∷ []) ≡ hs
take_all [] g = refl
take_all (h ∷ hs) g = ap (λ (ks : List Frame). h ∷ ks) (take_all hs g)

one_less : (hs gs : List Frame) (g : Frame) → gs ≡ hs ++ g ∷ [] → length gs - 1 ≡ length hs
one_less hs gs g e =
    let all : length gs ≡ length (hs ++ g ∷ []) = ap (λ (ks : List Frame). length ks) e in
    omega (arith, length-append hs (g ∷ []))

pub nearest : (hs gs : List Frame) (g : Frame) → gs ≡ hs ++ g ∷ []
    → slice_get gs (length gs - 1) ≡ Some g
nearest hs gs g e = ap (slice_get gs) (one_less hs gs g e)
    ∙ ap (λ (ks : List Frame). slice_get ks (length hs)) e ∙ last_at hs g

pub others : (hs gs : List Frame) (g : Frame) → gs ≡ hs ++ g ∷ [] → take (length gs - 1) gs ≡ hs
others hs gs g e = ap (λ (n : ℕ). take n gs) (one_less hs gs g e) ∙ ap (take (length hs)) e
    ∙ take_all hs g

pub as_many : (s : Sizes) (ir : Ir) (to : ℕ) (cs : List code.Frame) (gs : List Frame)
    → Waits s ir to cs gs → length gs ≡ length cs
as_many s ir to [] gs waits = ap (λ (ks : List Frame). length ks) waits
as_many s ir to (code.frame f p regs r ∷ cs) gs waits =
    let hs = waits.0 in
    let g = waits.1 in
    let rest : length hs ≡ length cs = as_many s ir g.to cs hs waits.5 in
    let all : length gs ≡ length (hs ++ g ∷ []) = ap (λ (ks : List Frame). length ks) waits.2 in
    omega (arith, length-append hs (g ∷ []))
