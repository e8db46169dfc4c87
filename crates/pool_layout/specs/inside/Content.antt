-- What only bodies and proofs need beside `Content`.
use Rattle.std.specs.Prelude.{ℕ, ◌≤◌, ◌≡◌, nat_le}
use Rattle.cache_model.specs.Cache.{Words}
use Rattle.pool_layout.specs.declared.places.Layout.{Layout}
use Rattle.pool_layout.specs.declared.places.Place.TheVariants.{Heap}
use Rattle.pool_layout.specs.declared.rules.Rules.{Rules}
use Rattle.pool_layout.specs.Sizes.{slot_word}
use Rattle.pool_layout.specs.Places.{at}
use Rattle.pool_layout.specs.Content.{are_valid, KeepsBelow}

-- the first n records are valid, and record n isn't
abbrev pub IsLeading : Layout → Words → ℕ → Type 0
IsLeading l image n = (i : ℕ) → i ≤ l.sizes.records → are_valid l image i ≡ nat_le i n

-- no word before this slot breaks a rule
abbrev pub KeepsToSlot : Rules → Words → ℕ → Type 0
KeepsToSlot r image slot = KeepsBelow r image (at r.layout (Heap (slot_word r.layout.sizes slot)))
