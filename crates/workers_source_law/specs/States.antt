-- What the source knows of the workers: a state for each compartment, as a session has one. A
-- transaction that a worker began and that isn't finished is owed.
use Rattle.std.specs.Prelude.{ℕ, ◌≡◌, ◌≢◌}
use Rattle.cnvm_session.specs.declared.program.Program.{Program}
use Rattle.session_law.specs.State.{SourceState, created}

abbrev pub States : Type 0
States = ℕ → SourceState

-- the other workers' states stay
abbrev pub RestStays : (worker : ℕ) → (s t : States) → Type 0
RestStays worker s t = (j : ℕ) → j ≢ worker → t j ≡ s j

-- each compartment of a new pool holds the empty pool
abbrev pub all_created : Program → States
all_created program worker = created program
