-- The search for a word that is 0, among words that are d apart.
use Rattle.std.specs.Prelude.{ℕ, ◌+◌, ◌*◌, ◌<◌, ◌≤◌, ◌≡◌, ◌≢◌, pos}
use Rattle.cache_model.specs.Cache.{Words}

-- of m words that are d apart, the first of which is word w, the first that is 0 has n before it;
-- all m have if none is 0
pub record IsFirstZero (words : Words) (w d m n : ℕ) : Type 0 where
  pub few : n ≤ m
  pub before : (i : ℕ) → i < n → words (w + d * i) ≢ pos 0
  pub there : n < m → words (w + d * n) ≡ pos 0
