-- The log of an image whose attempt is a. A record is valid if its stamp is a + 1. The count is the
-- number of valid records before the first that isn't. The log is well made if each stamp is from 0
-- to a + 1 and the valid records come first.
use Rattle.std.specs.Prelude.{ℕ, zero, suc, ◌<◌, ◌≡◌, ◌==◌, ◌&&◌, if◌then◌else◌, ℤ, pos}
use Rattle.std.specs.Ordering.{int_eq}
use Rattle.cache_model.specs.Cache.{Words}
use Rattle.pool_layout.specs.declared.places.Layout.{Layout}
use Rattle.pool_layout.specs.declared.places.Place.TheVariants.{RecordStamp}
use Rattle.pool_layout.specs.Places.{at}
use Rattle.pool_layout.specs.Image.{IsUpTo}

pub record WellMade (l : Layout) (a : ℕ) (image : Words) : Type 0 where
  pub stamps : (j : ℕ) → j < l.sizes.records → IsUpTo (suc a) (image (at l (RecordStamp j)))
  pub first : (j k : ℕ) → j < k → k < l.sizes.records → image (at l (RecordStamp k)) ≡ pos (suc a)
      → image (at l (RecordStamp j)) ≡ pos (suc a)

-- m, or one more where all of the first n stamps were valid and stamp n is too
abbrev pub lengthened : (ℕ → ℤ) → ℕ → ℕ → ℕ → ℕ
lengthened stamps a n m = if m == n && int_eq (stamps n) (pos (suc a)) then suc n else m

-- how many of the first n stamps are valid before the first that isn't
abbrev pub leading : (ℕ → ℤ) → ℕ → ℕ → ℕ
leading stamps a zero = 0
leading stamps a (suc n) = lengthened stamps a n (leading stamps a n)

unfoldable pub count : Layout → ℕ → Words → ℕ
count l a image = leading (λ j. image (at l (RecordStamp j))) a l.sizes.records
