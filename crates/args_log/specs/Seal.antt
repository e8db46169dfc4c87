-- The events that seal the call of a transaction: the function and its arguments are stored, their
-- lines are flushed and fenced, and only then is the seal stored, flushed and fenced. So an image
-- that has the seal has the whole record. The function is word FUNCTION, argument k (from 1) is
-- word FUNCTION + k, and the seal is word SEAL. These are lines 3 to 5.
use Rattle.std.specs.Prelude.{ℕ, zero, suc, ◌+◌, ◌/◌, ℤ, List, [], ◌∷◌, ◌++◌, length}
use Rattle.cache_model.specs.Event.{CacheEvent, Store, Flush, Fence}
use Rattle.pool_layout.specs.declared.places.TheConstants.{FUNCTION, SEAL}

-- words stored one after another, from word w on
abbrev pub stores_from : ℕ → List ℤ → List CacheEvent
stores_from w [] = []
stores_from w (x ∷ xs) = Store w x ∷ stores_from (suc w) xs

-- n lines flushed in order, from line l on
abbrev pub flushes_from : (l n : ℕ) → List CacheEvent
flushes_from l zero = []
flushes_from l (suc n) = Flush l ∷ flushes_from (suc l) n

-- the number of lines that hold the function and m arguments
abbrev pub payload_lines : ℕ → ℕ
payload_lines m = m / 8 + 1

unfoldable pub payload_events : (function : ℤ) → (args : List ℤ) → List CacheEvent
payload_events f args = stores_from FUNCTION (f ∷ args)
    ++ (flushes_from 3 (payload_lines (length args)) ++ Fence ∷ [])

-- the events up to and including the store of the seal, and those after it
unfoldable pub unsealed_events : (function : ℤ) → (args : List ℤ) → (number : ℤ) → List CacheEvent
unsealed_events f args k = payload_events f args ++ Store SEAL k ∷ []

unfoldable pub sealing_events : List CacheEvent
sealing_events = Flush 5 ∷ Fence ∷ []

unfoldable pub seal_events : (function : ℤ) → (args : List ℤ) → (number : ℤ) → List CacheEvent
seal_events f args k = unsealed_events f args k ++ sealing_events
