-- Allowing more steps changes nothing.
use Rattle.std.proofs.Common.{◌≡◌, ℕ, zero, suc, refl, ap, arith}
use Rattle.std.specs.Prelude.{◌++◌}
use Rattle.ir.specs.declared.function.Ir.{Ir}
use Rattle.code_meaning.specs.Code.{CodeState, Move, Goes, Ends, exec, instruction_step, go_on}
use Rattle.code_meaning.specs.Code.{IsOver}
use Rattle.code_meaning.specs.Deeds.{deeds, deeds_of, deeds_on}
use Rattle.code_meaning.specs.Law.{EndLaw, DeedsLaw}

moves : (ir : Ir) (k m : ℕ) (v : Move)
    → ((c : CodeState) → IsOver (exec ir k c) → exec ir m c ≡ exec ir k c)
    → IsOver (go_on (exec ir k) v) → go_on (exec ir m) v ≡ go_on (exec ir k) v
moves ir k m (Goes c) same over = same c over
moves ir k m (Ends e) same over = refl

pub end : EndLaw
end ir zero m c le over = absurd over
end ir (suc k) zero c le over = absurd (omega (arith, le))
end ir (suc k) (suc m) c le over =
    moves ir k m (instruction_step ir c) (λ d. end ir k m d (omega (arith, le))) over

does : (ir : Ir) (k m : ℕ) (v : Move)
    → ((c : CodeState) → IsOver (exec ir k c) → deeds ir m c ≡ deeds ir k c)
    → IsOver (go_on (exec ir k) v) → deeds_on (deeds ir m) v ≡ deeds_on (deeds ir k) v
does ir k m (Goes c) same over = same c over
does ir k m (Ends e) same over = refl

pub done : DeedsLaw
done ir zero m c le over = absurd over
done ir (suc k) zero c le over = absurd (omega (arith, le))
done ir (suc k) (suc m) c le over =
    ap (λ ds. deeds_of ir c ++ ds)
    (does ir k m (instruction_step ir c) (λ d. done ir k m d (omega (arith, le))) over)
