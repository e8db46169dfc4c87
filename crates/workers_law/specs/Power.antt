-- The effect of a power cut and a fence on a compartment, and the content of a new pool of
-- compartments.
use Rattle.std.specs.Prelude.{ℕ, ◌+◌, ◌-◌, ◌*◌, ◌<◌, ◌≡◌, nat_lt, cond, Bool, List, [], ◌∷◌, ℤ}
use Rattle.cache_model.specs.Event.{CacheEvent}
use Rattle.cache_model.specs.Cache.{Words, Cache, blank, view}
use Rattle.cache_model.specs.Play.{apply}
use Rattle.cache_model.specs.Image.{IsImage, HasOne}
use Rattle.cache_model.specs.Collapse.{left_cache}
use Rattle.cache_model.specs.declared.choice.Rest.{Rest}
use Rattle.cache_model.specs.declared.choice.Pick.{Pick}
use Rattle.pmem.specs.Device.{Device, blanked}
use Rattle.pmem.specs.Played.{PlaysAll}
use Rattle.pool_layout.specs.declared.limits.Sizes.{Sizes}
use Rattle.pool_layout.specs.Sizes.{pool_lines}
use Rattle.args_log.specs.Created.{creation_events}
use Rattle.crash_law.specs.Law.{IsAtRest, AreMarked}
use Rattle.pool_workers.specs.Compartment.{cache_in, first_line}
use Rattle.pool_workers.specs.Making.{creations}
use Rattle.workers_law.specs.Standing.{ShowsPlayed}
use Rattle.workers_law.specs.Fenced.{fenced_cache}

-- a pick of a line, counted from line f
abbrev pub pick_from : ℕ → Pick → Pick
pick_from f p = record { line = p.line - f; version = p.version }

-- the picks of a compartment's lines, counted from its first line
abbrev pub picks_in : (f n : ℕ) → List Pick → List Pick
picks_in f n [] = []
picks_in f n (p ∷ ps) =
    cond (nat_lt p.line f) (picks_in f n ps)
    (cond (nat_lt p.line (f + n)) (pick_from f p ∷ picks_in f n ps)
    (picks_in f n ps))

-- A power cut of the whole device cuts each compartment by its own picks: it leaves exactly one of
-- the compartment's images.
abbrev pub PowerLaw : Type 0
PowerLaw =
    (f n : ℕ) (c : Cache) (rest : Rest) (picks : List Pick) →
    (cache_in f n (left_cache c rest picks) ≡ left_cache (cache_in f n c) rest (picks_in f n picks))
    × IsImage (cache_in f n c) (view (cache_in f n (left_cache c rest picks)))
    × HasOne (cache_in f n (left_cache c rest picks))
    (view (cache_in f n (left_cache c rest picks)))

-- Another worker's fence adds no image, keeps the newest versions, and keeps at rest what is at
-- rest.
abbrev pub FencedLaw : Type 0
FencedLaw =
    (k : Bool) (c : Cache) →
    ((image : Words) → IsImage (fenced_cache k c) image → IsImage c image)
    × (view (fenced_cache k c) ≡ view c)
    × (IsAtRest c → IsAtRest (fenced_cache k c))

-- Marks are indices of versions on blank lines, after each event, and after a power cut.
abbrev pub MarksLaw : Type 0
MarksLaw =
    AreMarked blank
    × ((c : Cache) (e : CacheEvent) → AreMarked c → AreMarked (apply c e))
    × ((c : Cache) (rest : Rest) (picks : List Pick) → AreMarked (left_cache c rest picks))
    × ((f n : ℕ) (c : Cache) → AreMarked c → AreMarked (cache_in f n c))

-- Each compartment of a new pool is as its own creation would leave blank lines, with fences put
-- in.
abbrev pub CompartmentsCreatedLaw : Type 0
CompartmentsCreatedLaw =
    (s : Sizes) (digest : List ℤ) (count : ℕ) (d b : Device) →
    PlaysAll (blanked (pool_lines s * count) d) (creations s digest 0 count) b →
    (i : ℕ) → i < count →
    ShowsPlayed (creation_events s digest) [] blank
    (cache_in (first_line s i) (pool_lines s) b.cache)
