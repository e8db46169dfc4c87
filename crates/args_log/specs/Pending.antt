-- The call that a pool's record holds.
use Rattle.std.specs.Prelude.{ℕ, ◌+◌, ◌<◌, ◌≡◌, List, slice_index_or, ℤ, pos}
use Rattle.nvm_base.specs.Naturals.{natural_of}
use Rattle.cache_model.specs.Cache.{Words}
use Rattle.pool_layout.specs.declared.places.TheConstants.{ARGUMENTS, FIRST_ARGUMENT}

-- a word as a transaction's number; a word below 0 counts as 0, which no transaction has
abbrev pub tx_number : ℤ → ℕ
tx_number word = natural_of word

-- the list is the argument words
abbrev pub HoldsArguments : Words → List ℤ → Type 0
HoldsArguments image args = (k : ℕ) → k < ARGUMENTS
    → slice_index_or args k (pos 0) ≡ image (FIRST_ARGUMENT + k)
