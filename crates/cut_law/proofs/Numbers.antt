-- The numbers that a pool counts its calls and attempts with.
use Rattle.std.proofs.Common.{◌≡◌, ℕ, suc, ◌+◌, ◌-◌, ◌^◌, ◌≤◌, if◌then◌else◌, Bool, true, false}
use Rattle.std.proofs.Common.{ltb}
use Rattle.std.proofs.Common.{w64, ℤ, pos, ◌+ℤ◌, FitsSigned, refl, ap, ◌∙◌, arith}
use Rattle.std.specs.Int.{int_wrap}
use Rattle.std.proofs.lemmas.Int.{ints, int_wrap_fits}
use Rattle.std.proofs.lemmas.Bool.{ltb-false}
use Rattle.clobber_log.specs.Logs.{attempt_of}
use Rattle.args_log.specs.Next.{number_after}

pub next_is : (x : ℤ) (n : ℕ) → x ≡ pos n → n ≤ 2 ^ 62 → number_after x ≡ pos (suc n)
unfolding number_after
next_is x n is less =
    let fits : FitsSigned w64 (pos (n + 1)) = omega (arith, ints) in
    let one_more : n + 1 ≡ suc n = omega arith in
    ap (λ (y : ℤ). int_wrap w64 (y +ℤ pos 1)) is ∙ int_wrap_fits w64 (pos (n + 1)) fits
    ∙ ap pos one_more

pub attempt_small : (a : ℕ) → a ≤ 2 ^ 62 → attempt_of (pos a) ≡ a
attempt_small a less = go (ltb a (2 ^ 63 - 2)) refl
  where
    go : (b : Bool) → ltb a (2 ^ 63 - 2) ≡ b → (if b then a else 2 ^ 63 - 2) ≡ a
    go true is = refl
    go false is = let more : 2 ^ 63 - 2 ≤ a = ltb-false a (2 ^ 63 - 2) is in absurd (omega arith)
