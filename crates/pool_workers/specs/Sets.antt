-- The fact that the lines outside are as they were, except for fences, has at most one proof: lines
-- are a set.
use Rattle.std.specs.Prelude.{ℕ, Bool}
use mathlib.Core.HLevel.{Π_prop, Π_set}
use mathlib.Core.List as list
use Rattle.std.proofs.Math.IntN.{ℤ_set}
use Rattle.std.specs.Coded.{Coded-set, coded_ℕ, coded_option}
use Rattle.cache_model.specs.Cache.{Words, Line, Cache}
use Rattle.pool_workers.specs.Compartment.{IsOutside, fenced_if, AreAside}

Words-set : IsSet Words
Words-set = Π_set (λ (p : ℕ). ℤ_set)

Line-set : IsSet Line
Line-set x y p q = λ i j. record {
  older = list.is_set Words-set x.older y.older (λ k. (p k).older) (λ k. (q k).older) i j;
  newest = Words-set x.newest y.newest (λ k. (p k).newest) (λ k. (q k).newest) i j;
  mark = Coded-set (coded_option coded_ℕ) x.mark y.mark (λ k. (p k).mark) (λ k. (q k).mark) i j;
}

pub AreAside-prop : (f n : ℕ) (fenced : Bool) (c b : Cache) → IsProp (AreAside f n fenced c b)
AreAside-prop f n fenced c b =
    Π_prop (λ (l : ℕ). Π_prop (λ (out : IsOutside f n l). Line-set (b l) (fenced_if fenced (c l))))
