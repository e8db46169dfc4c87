-- The events of several workers on one device, one after another, and what a compartment sees of
-- them.
use Rattle.std.specs.Prelude.{ℕ, ◌*◌, ◌≡◌, ◌==◌, cond, List, [], ◌∷◌, ◌++◌}
use Rattle.cache_model.specs.Event.{CacheEvent, Store, Flush, Fence}
use Rattle.pool_workers.specs.Compartment.{lifted, IsInside}

-- one event of a worker, in its own compartment
pub record WorkerEvent : Type 0 where
  pub worker : ℕ
  pub event : CacheEvent

-- events that a worker plays with no other worker's event in between
pub record Piece : Type 0 where
  pub worker : ℕ
  pub events : List CacheEvent

abbrev pub steps_by : ℕ → List CacheEvent → List WorkerEvent → List WorkerEvent
steps_by i [] rest = rest
steps_by i (e ∷ es) rest = record { worker = i; event = e } ∷ steps_by i es rest

-- the pieces, event by event
abbrev pub worker_events : List Piece → List WorkerEvent
worker_events [] = []
worker_events (p ∷ ps) = steps_by p.worker p.events (worker_events ps)

-- the events of the whole device, with compartments of n lines
abbrev pub whole_events : ℕ → List WorkerEvent → List CacheEvent
whole_events n [] = []
whole_events n (s ∷ ss) = lifted (n * s.worker) s.event ∷ whole_events n ss

-- the events of worker i
abbrev pub own_events : ℕ → List WorkerEvent → List CacheEvent
own_events i [] = []
own_events i (s ∷ ss) = cond (s.worker == i) (s.event ∷ own_events i ss) (own_events i ss)

-- all events of worker i's pieces
abbrev pub own_pieces : ℕ → List Piece → List CacheEvent
own_pieces i [] = []
own_pieces i (p ∷ ps) = cond (p.worker == i) (p.events ++ own_pieces i ps) (own_pieces i ps)

-- of another's event only a fence is seen
abbrev pub fence_of : CacheEvent → List CacheEvent → List CacheEvent
fence_of (Store w x) rest = rest
fence_of (Flush l) rest = rest
fence_of Fence rest = Fence ∷ rest

-- what the compartment of worker i sees: its own events, and the others' fences
abbrev pub seen_events : ℕ → List WorkerEvent → List CacheEvent
seen_events i [] = []
seen_events i (s ∷ ss) =
    cond (s.worker == i) (s.event ∷ seen_events i ss) (fence_of s.event (seen_events i ss))

abbrev pub AreInside : ℕ → List CacheEvent → Type 0
AreInside n [] = Unit {0}
AreInside n (e ∷ es) = IsInside n e × AreInside n es

abbrev pub IsPrefix : List CacheEvent → List CacheEvent → Type 0
IsPrefix es all = (rest : List CacheEvent) × (es ++ rest ≡ all)

-- Each worker's pieces, one after another, are the first events of its due list.
abbrev pub Interleaves : (due : ℕ → List CacheEvent) → List Piece → Type 0
Interleaves due ps = (i : ℕ) → IsPrefix (own_pieces i ps) (due i)
