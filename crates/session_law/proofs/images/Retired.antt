-- After the end of a call that is retired no record is valid.
use Rattle.std.proofs.Common.{◌≡◌, ℕ, suc, ◌+◌, ◌-◌, ◌^◌, ◌≤◌, Bool, true, false}
use Rattle.std.proofs.Common.{if◌then◌else◌, ltb, w64, ℤ, pos, ◌+ℤ◌, FitsSigned, refl, ap, ◌∙◌}
use Rattle.std.proofs.Common.{arith}
use Rattle.std.specs.Int.{int_wrap}
use Rattle.std.proofs.lemmas.Int.{ints, int_wrap_fits}
use Rattle.std.proofs.lemmas.Bool.{ltb-false}
use Rattle.cache_model.specs.Cache.{Words}
use Rattle.pool_layout.specs.declared.places.TheConstants.{ATTEMPT}
use Rattle.pool_layout.specs.declared.limits.Sizes.{Sizes}
use Rattle.pool_layout.specs.Places.{pool_of}
use Rattle.pool_layout.specs.Log.{count}
use Rattle.pool_layout.specs.Good.{Pool}
use Rattle.clobber_log.specs.Logs.{attempt_of, count_in}
use Rattle.args_log.specs.Next.{number_after}
use Rattle.crash_law.specs.Pools.{IsRetired}

-- an attempt within range is read as itself

pub attempt_small : (a : ℕ) → a ≤ 2 ^ 62 + 2 → attempt_of (pos a) ≡ a
attempt_small a less = go (ltb a (2 ^ 63 - 2)) refl
  where
    go : (b : Bool) → ltb a (2 ^ 63 - 2) ≡ b → (if b then a else 2 ^ 63 - 2) ≡ a
    go true is = refl
    go false is = let more : 2 ^ 63 - 2 ≤ a = ltb-false a (2 ^ 63 - 2) is in absurd (omega arith)

pub count_at : (z : Sizes) (image : Words) (a : ℕ) → image ATTEMPT ≡ pos a → a ≤ 2 ^ 62 + 2
    → count_in z image ≡ count (pool_of z) a image
count_at z image a is fits = ap (λ (b : ℕ). count (pool_of z) b image)
    (ap attempt_of is ∙ attempt_small a fits)

pub next_small : (x : ℤ) (n : ℕ) → x ≡ pos n → n ≤ 2 ^ 62 + 1 → number_after x ≡ pos (suc n)
unfolding number_after
next_small x n is less =
    let fits : FitsSigned w64 (pos (n + 1)) = omega (arith, ints) in
    let one_more : n + 1 ≡ suc n = omega arith in
    ap (λ (y : ℤ). int_wrap w64 (y +ℤ pos 1)) is ∙ int_wrap_fits w64 (pos (n + 1)) fits
    ∙ ap pos one_more

pub retired_none : (pool : Pool) (d : ℕ) (h : Words) (value : ℤ) (image : Words)
    → IsRetired pool d h value image → count_in pool.sizes image ≡ 0
retired_none pool d h value image ended =
    let good = ended.done.good in
    count_at pool.sizes image good.attempt good.attempt_is
    (let fits = good.attempt_fits in omega arith)
    ∙ ended.empty good.attempt good.attempt_is
