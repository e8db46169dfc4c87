-- The law of compartments: whatever the order in which workers play the pieces of their due lists,
-- and wherever it stops, each compartment is as if its worker had played the first events of its
-- own list, with fences put in anywhere. So its images are those of its own list.
use Rattle.std.specs.Prelude.{ℕ, ◌*◌, ◌≡◌, ◌≢◌, Bool, List, ◌++◌}
use Rattle.cache_model.specs.Event.{CacheEvent}
use Rattle.cache_model.specs.Cache.{Words, Cache}
use Rattle.cache_model.specs.Play.{apply, play}
use Rattle.cache_model.specs.Image.{IsImage}
use Rattle.crash_law.specs.Law.{IsAtRest, IsLeft, IsFenced, AreMarked}
use Rattle.pool_workers.specs.Compartment.{cache_in, lifted, IsInside, AreAside}
use Rattle.workers_law.specs.Fenced.{AreDisjoint, fenced_cache}
use Rattle.workers_law.specs.Interleaved.{WorkerEvent, Piece, worker_events, whole_events}
use Rattle.workers_law.specs.Interleaved.{own_events, seen_events, AreInside, IsPrefix, Interleaves}

-- The first events of some interleaving of pieces; each worker's due list lies within its
-- compartment.
pub record AreFirst (n : ℕ) (due : ℕ → List CacheEvent) (first : List WorkerEvent) : Type 0 where
  pub pieces : List Piece
  pub rest : List WorkerEvent
  pub inside : (i : ℕ) → AreInside n (due i)
  pub interleaves : Interleaves due pieces
  pub is : first ++ rest ≡ worker_events pieces

-- the compartment of worker i, before any event and after the first ones
abbrev pub own_compartment : (n i : ℕ) → Cache → Cache
own_compartment n i c = cache_in (n * i) n c

abbrev pub own_after : (n i : ℕ) → Cache → List WorkerEvent → Cache
own_after n i c first = own_compartment n i (play c (whole_events n first))

-- every interleaving of pieces, and every prefix of it
abbrev pub CompartmentLaw : Type 0
CompartmentLaw =
    (n : ℕ) (c : Cache) (due : ℕ → List CacheEvent) (first : List WorkerEvent)
    → AreFirst n due first →
    (i : ℕ) →
    IsPrefix (own_events i first) (due i)
    × IsFenced (own_events i first) (seen_events i first)
    × (own_after n i c first ≡ play (own_compartment n i c) (seen_events i first))

-- So each image of a compartment is one that a cut of its own due list may leave. If its whole due
-- list was played, each image is one of those after it, and the compartment is at rest if the list
-- alone would leave it so.
abbrev pub CompartmentImagesLaw : Type 0
CompartmentImagesLaw =
    (n : ℕ) (c : Cache) (due : ℕ → List CacheEvent) (first : List WorkerEvent) →
    AreMarked c → AreFirst n due first →
    (i : ℕ) →
    ((image : Words) → IsImage (own_after n i c first) image
    → IsLeft (own_compartment n i c) (due i) image)
    × ((image : Words) → own_events i first ≡ due i → IsImage (own_after n i c first) image →
    IsImage (play (own_compartment n i c) (due i)) image)
    × (own_events i first ≡ due i → IsAtRest (play (own_compartment n i c) (due i)) →
    IsAtRest (own_after n i c first))

-- The same for single events: a compartment sees its own events, and of another's events only the
-- fences; and no two workers' compartments share a line.
abbrev pub EventLaw : Type 0
EventLaw =
    ((f n : ℕ) (c : Cache) (e : CacheEvent) → IsInside n e →
    cache_in f n (apply c (lifted f e)) ≡ apply (cache_in f n c) e)
    × ((f n g m : ℕ) (k : Bool) (c b : Cache) → AreDisjoint f n g m → AreAside f n k c b →
    cache_in g m b ≡ fenced_cache k (cache_in g m c))
    × ((n i j : ℕ) → i ≢ j → AreDisjoint (n * i) n (n * j) n)
